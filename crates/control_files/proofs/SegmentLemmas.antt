-- A segment as it stands in a file: what its first bytes show, and that they show no other.
use Rattle.std.proofs.Common.{◌≡◌, ◌≤◌, ◌<◌, ◌+◌, ◌^◌, ℕ, true, List, [], ◌∷◌, ◌++◌, length, take, drop, None, refl, sym, ap, ◌∙◌, subst, arith, append_assoc, length-take-le}
use Rattle.std.specs.Prelude.{nat_le}
use Rattle.std.proofs.lemmas.Bool.{le-leb, leb-true}
use Rattle.std.proofs.lemmas.List.{length-append, length-drop, take-append-drop, drop-drop}
use Rattle.std.proofs.lemmas.List.Elements.{All-take, All-drop}
use Rattle.std.proofs.Math.Seq.{take-add}
use Rattle.wire_base.specs.Numbers.{big_endian, AreBytes, two, four, eight}
use Rattle.wire_base.proofs.BigEndianLemmas.{big_endian_fits}
use Rattle.wire_base.proofs.SpellingLemmas.{two_spells, four_spells, eight_spells, two_of_number, four_of_number, eight_of_number}
use Rattle.wire_base.proofs.SplitLemmas.{same_parts}
use Rattle.control_files.specs.declared.segments.Segment.{Segment}
use Rattle.control_files.specs.declared.segments.Mark.{Mark}
use Rattle.control_files.specs.Segments.{head_bytes, segment_bytes, MayFollow}
use Rattle.control_files.specs.Refusals.{fields, refusal_of, is_kind, is_peer, is_length, kind_at, peer_at, moment_at, position_at, length_at, head_at, Held}
use Rattle.control_files.specs.Steps.{BeginsWith}
use Rattle.control_files.proofs.FieldLemmas.{AllGood, good_none, none_good, kind_true, true_kind, peer_true, true_peer, length_true, true_most, true_bare}

-- ---- what the first bytes show

kind_is : (s : Segment) (rest : List ℕ) → kind_at (segment_bytes s ++ rest) ≡ s.kind
unfolding head_bytes
kind_is s rest = refl

peer_spelled : (s : Segment) (rest : List ℕ) → peer_at (segment_bytes s ++ rest) ≡ big_endian (two s.peer)
unfolding head_bytes
peer_spelled s rest = refl

moment_spelled : (s : Segment) (rest : List ℕ) → moment_at (segment_bytes s ++ rest) ≡ big_endian (eight s.moment)
unfolding head_bytes
moment_spelled s rest = refl

position_spelled : (s : Segment) (rest : List ℕ) → position_at (segment_bytes s ++ rest) ≡ big_endian (eight s.position)
unfolding head_bytes
position_spelled s rest = refl

length_spelled : (s : Segment) (rest : List ℕ) → length_at (segment_bytes s ++ rest) ≡ big_endian (four (length s.bytes))
unfolding head_bytes
length_spelled s rest = refl

behind_head : (s : Segment) (rest : List ℕ) → drop 23 (segment_bytes s ++ rest) ≡ s.bytes ++ rest
unfolding head_bytes
behind_head s rest = refl

length-head : (kind peer moment position size : ℕ) → length (head_bytes kind peer moment position size) ≡ 23
unfolding head_bytes
length-head kind peer moment position size = refl

-- the numbers of a segment are those at its front
record Shows (s : Segment) (bytes : List ℕ) : Type 0 where
  pub kind : kind_at bytes ≡ s.kind
  pub peer : peer_at bytes ≡ s.peer
  pub moment : moment_at bytes ≡ s.moment
  pub position : position_at bytes ≡ s.position
  pub size : length_at bytes ≡ length s.bytes

shows : (peers : List ℕ) (mark : Mark) (s : Segment) (rest : List ℕ) → MayFollow peers mark s → Shows s (segment_bytes s ++ rest)
shows peers mark s rest may = record {
  kind = kind_is s rest;
  peer = peer_spelled s rest ∙ (two_spells s.peer may.peer_fits).number;
  moment = moment_spelled s rest ∙ (eight_spells s.moment may.moment_fits).number;
  position = position_spelled s rest ∙ (eight_spells s.position may.position_fits).number;
  size = length_spelled s rest ∙ (four_spells (length s.bytes) (let most = may.most in omega (arith, most))).number;
}

-- a segment has 23 bytes and its own
pub length-segment : (s : Segment) → length (segment_bytes s) ≡ 23 + length s.bytes
length-segment s =
    length-append (head_bytes s.kind s.peer s.moment s.position (length s.bytes)) s.bytes
    ∙ ap (λ n. n + length s.bytes) (length-head s.kind s.peer s.moment s.position (length s.bytes))

-- ---- no segment begins another

same_fields : (s t : Segment) → s.kind ≡ t.kind → s.peer ≡ t.peer → s.moment ≡ t.moment → s.position ≡ t.position → s.bytes ≡ t.bytes → s ≡ t
same_fields s t k p m f b =
    ap (λ n. let x : Segment = record s { kind = n } in x) k
    ∙ ap (λ n. let x : Segment = record s { kind = t.kind; peer = n } in x) p
    ∙ ap (λ n. let x : Segment = record s { kind = t.kind; peer = t.peer; moment = n } in x) m
    ∙ ap (λ n. let x : Segment = record s { kind = t.kind; peer = t.peer; moment = t.moment; position = n } in x) f
    ∙ ap (λ n. let x : Segment = record t { bytes = n } in x) b

pub same_segment : (peers : List ℕ) (mark : Mark) (s t : Segment) (x y : List ℕ) → MayFollow peers mark s → MayFollow peers mark t → segment_bytes s ++ x ≡ segment_bytes t ++ y → (s ≡ t) × (x ≡ y)
same_segment peers mark s t x y may may' same =
    let a = shows peers mark s x may in
    let b = shows peers mark t y may' in
    let size : length s.bytes ≡ length t.bytes = sym a.size ∙ ap length_at same ∙ b.size in
    let parts = same_parts s.bytes t.bytes x y size (sym (behind_head s x) ∙ ap (drop 23) same ∙ behind_head t y) in (
      same_fields s t (sym a.kind ∙ ap kind_at same ∙ b.kind) (sym a.peer ∙ ap peer_at same ∙ b.peer) (sym a.moment ∙ ap moment_at same ∙ b.moment)
          (sym a.position ∙ ap position_at same ∙ b.position) parts.0,
      parts.1,
    )

-- ---- a segment is not refused

all_good : (peers : List ℕ) (mark : Mark) (s : Segment) (bytes : List ℕ) → MayFollow peers mark s → Shows s bytes → AllGood (fields peers mark bytes)
all_good peers mark s bytes may is =
    let size : is_length (kind_at bytes) (length_at bytes) ≡ true =
    ap (λ k. is_length k (length_at bytes)) is.kind ∙ ap (is_length s.kind) is.size ∙ length_true s.kind (length s.bytes) may.most (λ other. ap length (may.bare other)) in (
      ap is_kind is.kind ∙ kind_true s.kind may.kind,
      (
        ap (is_peer peers) is.peer ∙ peer_true peers s.peer may.peer,
        (ap (nat_le mark.moment) is.moment ∙ le-leb mark.moment s.moment may.moment, (ap (nat_le mark.position) is.position ∙ le-leb mark.position s.position may.position, (size, tt))),
      ),
    )

pub segment_accepted : (peers : List ℕ) (mark : Mark) (place : ℕ) (s : Segment) (bytes rest : List ℕ) → MayFollow peers mark s → bytes ≡ segment_bytes s ++ rest → refusal_of peers mark place bytes ≡ None
unfolding refusal_of
segment_accepted peers mark place s bytes rest may is =
    good_none place (length bytes) (fields peers mark bytes) (all_good peers mark s bytes may (subst (Shows s) (sym is) (shows peers mark s rest may)))

-- ---- what is not refused

pub accepted_good : (peers : List ℕ) (mark : Mark) (place : ℕ) (bytes : List ℕ) → 23 ≤ length bytes → refusal_of peers mark place bytes ≡ None → AllGood (fields peers mark bytes)
unfolding refusal_of
accepted_good peers mark place bytes there none =
    none_good place (length bytes) (fields peers mark bytes)
    (omega (arith, there), (omega (arith, there), (omega (arith, there), (omega (arith, there), (omega (arith, there), tt))))) none

pub held_short : (peers : List ℕ) (mark : Mark) (place : ℕ) (bytes : List ℕ) → refusal_of peers mark place bytes ≡ None → length bytes < 23 → Held peers mark place bytes
held_short peers mark place bytes none short = record {
  accepted = none;
  unfinished = λ s rest may all. let sums = ap length all ∙ length-append (segment_bytes s) rest in let front = length-segment s in omega (arith, short, sums, front);
}

pub held_body : (peers : List ℕ) (mark : Mark) (place : ℕ) (bytes : List ℕ) → refusal_of peers mark place bytes ≡ None → length bytes < 23 + length_at bytes → Held peers mark place bytes
held_body peers mark place bytes none short = record {
  accepted = none;
  unfinished = λ s rest may all.
      let sums = ap length all ∙ length-append (segment_bytes s) rest in
      let front = length-segment s in
      let size : length_at bytes ≡ length s.bytes = ap length_at all ∙ (shows peers mark s rest may).size in
      omega (arith, short, sums, front, size);
}

-- nothing is held
pub held_nothing : (peers : List ℕ) (mark : Mark) (place : ℕ) → Held peers mark place []
unfolding refusal_of
held_nothing peers mark place = held_short peers mark place [] refl (omega arith)

pub at_most : (peers : List ℕ) (mark : Mark) (place : ℕ) (bytes : List ℕ) → 23 ≤ length bytes → refusal_of peers mark place bytes ≡ None → length_at bytes ≤ 65535
at_most peers mark place bytes there none = true_most (kind_at bytes) (length_at bytes) (accepted_good peers mark place bytes there none).1.1.1.1.0

-- ---- a whole segment

slice_bytes : (at n : ℕ) (bytes : List ℕ) → AreBytes bytes → AreBytes (take n (drop at bytes))
slice_bytes at n bytes each = All-take (λ b. b < 256) n (drop at bytes) (All-drop (λ b. b < 256) at bytes each)

length-slice : (at n : ℕ) (bytes : List ℕ) → at + n ≤ length bytes → length (take n (drop at bytes)) ≡ n
length-slice at n bytes there = length-take-le n (drop at bytes) (omega (arith, there, length-drop at bytes))

number_fits : (at n : ℕ) (bytes : List ℕ) → AreBytes bytes → at + n ≤ length bytes → big_endian (take n (drop at bytes)) < 256 ^ n
number_fits at n bytes each there =
    subst (λ m. big_endian (take n (drop at bytes)) < 256 ^ m) (length-slice at n bytes there) (big_endian_fits (take n (drop at bytes)) (slice_bytes at n bytes each))

first_byte : (bytes : List ℕ) → 1 ≤ length bytes → take 1 bytes ≡ kind_at bytes ∷ []
first_byte [] there = absurd (omega (arith, there))
first_byte (b ∷ bs) there = refl

joined : {a b c d : List ℕ} → a ≡ b → c ≡ d → a ++ c ≡ b ++ d
joined {a = a} {b = b} {c = c} {d = d} first second = ap (λ l. l ++ c) first ∙ ap (λ l. b ++ l) second

head_as : (kind peer moment position size : ℕ) → head_bytes kind peer moment position size ≡ ((((kind ∷ []) ++ two peer) ++ eight moment) ++ eight position) ++ four size
unfolding head_bytes
head_as kind peer moment position size = refl

first_bytes : (bytes : List ℕ) → take 23 bytes ≡ (((take 1 bytes ++ take 2 (drop 1 bytes)) ++ take 8 (drop 3 bytes)) ++ take 8 (drop 11 bytes)) ++ take 4 (drop 19 bytes)
first_bytes bytes =
    take-add 19 4 bytes ∙ ap (λ l. l ++ take 4 (drop 19 bytes))
    (take-add 11 8 bytes ∙ ap (λ l. l ++ take 8 (drop 11 bytes)) (take-add 3 8 bytes ∙ ap (λ l. l ++ take 8 (drop 3 bytes)) (take-add 1 2 bytes)))

-- the first 23 bytes are those of the numbers that they spell
head_spelled : (bytes : List ℕ) → AreBytes bytes → 23 ≤ length bytes → take 23 bytes ≡ head_bytes (kind_at bytes) (peer_at bytes) (moment_at bytes) (position_at bytes) (length_at bytes)
head_spelled bytes each there =
    first_bytes bytes
    ∙ sym (joined
    (joined
    (joined
    (joined (sym (first_byte bytes (omega (arith, there)))) (two_of_number (take 2 (drop 1 bytes)) (slice_bytes 1 2 bytes each) (length-slice 1 2 bytes (omega (arith, there)))))
    (eight_of_number (take 8 (drop 3 bytes)) (slice_bytes 3 8 bytes each) (length-slice 3 8 bytes (omega (arith, there)))))
    (eight_of_number (take 8 (drop 11 bytes)) (slice_bytes 11 8 bytes each) (length-slice 11 8 bytes (omega (arith, there)))))
    (four_of_number (take 4 (drop 19 bytes)) (slice_bytes 19 4 bytes each) (length-slice 19 4 bytes (omega (arith, there)))))
    ∙ sym (head_as (kind_at bytes) (peer_at bytes) (moment_at bytes) (position_at bytes) (length_at bytes))

pub begins : (peers : List ℕ) (mark : Mark) (place : ℕ) (bytes : List ℕ) → AreBytes bytes → refusal_of peers mark place bytes ≡ None → 23 ≤ length bytes → 23 + length_at bytes ≤ length bytes
    → BeginsWith peers mark bytes (head_at bytes) (take (length_at bytes) (drop 23 bytes)) (drop (23 + length_at bytes) bytes)
begins peers mark place bytes each none head there =
    let body : List ℕ = take (length_at bytes) (drop 23 bytes) in
    let len : length body ≡ length_at bytes = length-slice 23 (length_at bytes) bytes there in
    let good = accepted_good peers mark place bytes head none in
    record {
      follows = record {
        kind = true_kind (kind_at bytes) good.0;
        peer = true_peer peers (peer_at bytes) good.1.0;
        moment = leb-true mark.moment (moment_at bytes) good.1.1.0;
        position = leb-true mark.position (position_at bytes) good.1.1.1.0;
        most = let most = true_most (kind_at bytes) (length_at bytes) good.1.1.1.1.0 in omega (arith, most, len);
        bare = λ other. ap (λ n. take n (drop 23 bytes)) (true_bare (kind_at bytes) (length_at bytes) good.1.1.1.1.0 other);
        peer_fits = number_fits 1 2 bytes each (omega (arith, head));
        moment_fits = number_fits 3 8 bytes each (omega (arith, head));
        position_fits = number_fits 11 8 bytes each (omega (arith, head));
      };
      all =
          sym (take-append-drop 23 bytes)
          ∙ ap (λ l. take 23 bytes ++ l) (sym (take-append-drop (length_at bytes) (drop 23 bytes)) ∙ ap (λ l. body ++ l) (drop-drop (length_at bytes) 23 bytes))
          ∙ ap (λ l. l ++ (body ++ drop (23 + length_at bytes) bytes)) (head_spelled bytes each head ∙ ap (head_bytes (kind_at bytes) (peer_at bytes) (moment_at bytes) (position_at bytes)) (sym len))
          ∙ sym (append_assoc (head_bytes (kind_at bytes) (peer_at bytes) (moment_at bytes) (position_at bytes) (length body)) body (drop (23 + length_at bytes) bytes));
    }
