-- What is written for frames is a file of these frames.
use Rattle.std.proofs.Common.{◌≡◌, ◌≤◌, ◌<◌, ◌+◌, ◌-◌, ◌*◌, ◌/◌, ◌%◌, ◌^◌, ℕ, Bool, true, false, List, [], ◌∷◌, ◌++◌, length, take, drop, map, Option, None, Some, refl, sym, ap, ◌∙◌, subst, append_assoc, arith, length-take-le}
use Rattle.std.specs.Prelude.{nat_le, ◌&&◌, ◌==◌, if◌then◌else◌}
use Rattle.std.specs.List.{AllByRecursion, flat_map}
use Rattle.std.proofs.lemmas.Bool.{lt-ltb, cond-true, and_from, le-leb, leb-true, eq-eqb}
use Rattle.std.proofs.lemmas.List.{length-append, append-nil, drop_at, take_all}
use Rattle.std.proofs.lemmas.List.Concat.{flat_map-cons}
use Rattle.std.proofs.Math.Seq.{take-append_seam}
use Rattle.byteorder.specs.Endian.{little_number}
use Rattle.byteorder.specs.Numbers.{little_number-reads_back}
use Rattle.pcap_io.specs.declared.forms.Form.{Form}
use Rattle.pcap_io.specs.declared.frames.Captured.{Captured}
use Rattle.pcapng_io.specs.declared.sections.Section.{Section}
use Rattle.pcapng_io.specs.declared.sections.Interface.{Interface}
use Rattle.pcapng_io.specs.declared.frames.NgFrame.{NgFrame}
use Rattle.pcapng_io.specs.declared.faults.NgReason.TheVariants as reasons
use Rattle.pcapng_io.specs.declared.faults.NgRefusal.{NgRefusal}
use Rattle.pcapng_io.specs.declared.kinds.BlockKind.{BlockKind}
use Rattle.pcapng_io.specs.declared.kinds.BlockKind.TheVariants as kinds
use Rattle.pcapng_io.specs.Numbers.{half_at, word_at}
use Rattle.pcapng_io.specs.Kinds.{is_length}
use Rattle.pcapng_io.specs.Options.{padded, options_from}
use Rattle.pcapng_io.specs.Times.{per_second, is_time, moved_by, nanos_of}
use Rattle.pcapng_io.specs.Sections.{start, described, size_at, kind_at, order_at, interface_at, interface_of, ticks_at, whole_at, enhanced_frame, frame_of, section_behind}
use Rattle.pcapng_io.specs.Refusals.{told, opening, fields_by, first_bad, block_refusal, block_at, refusal_of, or_then}
use Rattle.pcapng_io.specs.Files.{IsBlock, AreBlocks, section_after, frames_after, bytes_of, given_by, IsNg}
use Rattle.pcapng_io.specs.Written.{word, resolution_of, unit_of, section_header, interface_description, ng_head_of, ticks_of, block_head_of, block_end_of, packet_block, ng_of, MayBeWritten, as_ng}
use Rattle.pcapng_io.proofs.FieldLemmas.{AllGood, good_none}
use Rattle.pcapng_io.proofs.FrontLemmas.{refusal_whole, there_whole}

-- ---- the head

-- the section behind the header, and that behind the description of the interface
abbrev begun : Section
begun = record { begun = true; big = false; interfaces = [] }

abbrev with_one : ℕ → Section
with_one resolution = record { begun = true; big = false; interfaces = record { ethernet = true; snapshot = 262144; resolution = resolution; offset = 0 } ∷ [] }

header_is : IsBlock start section_header
unfolding refusal_of block_refusal word_at half_at
header_is = record { some = omega arith; whole = refl; accepted = refl }

header_behind : section_behind start section_header ≡ begun
unfolding section_behind word_at
header_behind = refl

header_gives : frame_of start section_header ≡ None
unfolding frame_of word_at
header_gives = refl

micro_is : IsBlock begun (interface_description 6)
unfolding refusal_of block_refusal word_at half_at options_from
micro_is = record { some = omega arith; whole = refl; accepted = refl }

nano_is : IsBlock begun (interface_description 9)
unfolding refusal_of block_refusal word_at half_at options_from
nano_is = record { some = omega arith; whole = refl; accepted = refl }

micro_behind : section_behind begun (interface_description 6) ≡ with_one 6
unfolding section_behind described word_at half_at options_from
micro_behind = refl

nano_behind : section_behind begun (interface_description 9) ≡ with_one 9
unfolding section_behind described word_at half_at options_from
nano_behind = refl

micro_gives : frame_of begun (interface_description 6) ≡ None
unfolding frame_of word_at
micro_gives = refl

nano_gives : frame_of begun (interface_description 9) ≡ None
unfolding frame_of word_at
nano_gives = refl

-- ---- the numbers of a packet

word_back : (n : ℕ) (rest : List ℕ) → n < 2 ^ 32 → little_number 4 (word n ++ rest) ≡ n
word_back n rest fits = little_number-reads_back 4 n rest (omega (arith, fits))

-- numbers that fit 4 bytes
record Fits (t c o : ℕ) : Type 0 where
  pub ticks : t < 2 ^ 64
  pub captured : c ≤ 262144
  pub original : o ≤ 2147483647

-- a packet's bytes behind its first 28
abbrev behind_head : List ℕ → List ℕ
behind_head bytes = bytes ++ block_end_of (length bytes)

abbrev block_of : ℕ → ℕ → List ℕ → List ℕ
block_of ticks original bytes = block_head_of ticks (length bytes) original ++ behind_head bytes

-- what the first 28 bytes show
record Shows (t c o : ℕ) (block : List ℕ) : Type 0 where
  pub size : word_at false 4 block ≡ 32 + padded c
  pub interface : word_at false 8 block ≡ 0
  pub high : word_at false 12 block ≡ t / 2 ^ 32
  pub low : word_at false 16 block ≡ t % 2 ^ 32
  pub captured : word_at false 20 block ≡ c
  pub original : word_at false 24 block ≡ o

padded_most : (n : ℕ) → n ≤ 262144 → padded n ≤ 262144
padded_most n few = omega (arith, few)

shows : (ticks captured original : ℕ) (rest : List ℕ) → Fits ticks captured original → Shows ticks captured original (block_head_of ticks captured original ++ rest)
unfolding block_head_of word_at
shows ticks captured original rest fits =
    let t = fits.ticks in
    let c = fits.captured in
    let o = fits.original in
    let p = padded_most captured c in
    record {
      size = word_back (32 + padded captured) (word 0 ++ (word (ticks / 2 ^ 32) ++ (word (ticks % 2 ^ 32) ++ (word captured ++ (word original ++ rest))))) (omega (arith, p));
      interface = word_back 0 (word (ticks / 2 ^ 32) ++ (word (ticks % 2 ^ 32) ++ (word captured ++ (word original ++ rest)))) (omega arith);
      high = word_back (ticks / 2 ^ 32) (word (ticks % 2 ^ 32) ++ (word captured ++ (word original ++ rest))) (omega (arith, t));
      low = word_back (ticks % 2 ^ 32) (word captured ++ (word original ++ rest)) (omega arith);
      captured = word_back captured (word original ++ rest) (omega (arith, c));
      original = word_back original rest (omega (arith, o));
    }

length-head : (ticks captured original : ℕ) → length (block_head_of ticks captured original) ≡ 28
unfolding block_head_of
length-head ticks captured original = refl

-- zeros up to a multiple of 4
abbrev zeros : ℕ → List ℕ
zeros captured = take (padded captured - captured) (0 ∷ 0 ∷ 0 ∷ [])

length-zeros : (captured : ℕ) → length (zeros captured) ≡ padded captured - captured
length-zeros captured = length-take-le (padded captured - captured) (0 ∷ 0 ∷ 0 ∷ []) (let e : padded captured - captured ≤ 3 = omega arith in e)

-- all of a packet but its second length
abbrev all_but : ℕ → ℕ → List ℕ → List ℕ
all_but ticks original bytes = block_head_of ticks (length bytes) original ++ (bytes ++ zeros (length bytes))

block-split : (ticks original : ℕ) (bytes : List ℕ) → block_of ticks original bytes ≡ all_but ticks original bytes ++ word (32 + padded (length bytes))
unfolding block_end_of
block-split ticks original bytes =
    ap (λ l. block_head_of ticks (length bytes) original ++ l) (sym (append_assoc bytes (zeros (length bytes)) (word (32 + padded (length bytes)))))
    ∙ sym (append_assoc (block_head_of ticks (length bytes) original) (bytes ++ zeros (length bytes)) (word (32 + padded (length bytes))))

length-all_but : (ticks original : ℕ) (bytes : List ℕ) → length (all_but ticks original bytes) ≡ 28 + padded (length bytes)
length-all_but ticks original bytes =
    let a = length-append (block_head_of ticks (length bytes) original) (bytes ++ zeros (length bytes)) in
    let b = length-append bytes (zeros (length bytes)) in
    let h = length-head ticks (length bytes) original in
    let z = length-zeros (length bytes) in
    omega (arith, a, b, h, z)

length-word : (n : ℕ) → length (word n) ≡ 4
length-word n = refl

length-block : (ticks original : ℕ) (bytes : List ℕ) → length (block_of ticks original bytes) ≡ 32 + padded (length bytes)
length-block ticks original bytes =
    let s = ap length (block-split ticks original bytes) ∙ length-append (all_but ticks original bytes) (word (32 + padded (length bytes))) in
    let a = length-all_but ticks original bytes in
    let w = length-word (32 + padded (length bytes)) in
    omega (arith, s, a, w)

last_word : (ticks original : ℕ) (bytes : List ℕ) → length bytes ≤ 262144 → word_at false (length (block_of ticks original bytes) - 4) (block_of ticks original bytes) ≡ 32 + padded (length bytes)
unfolding word_at
last_word ticks original bytes few =
    let size : ℕ = 32 + padded (length bytes) in
    let at : length (block_of ticks original bytes) - 4 ≡ length (all_but ticks original bytes) = let l = length-block ticks original bytes in let a = length-all_but ticks original bytes in omega (arith, l, a) in
    let p = padded_most (length bytes) few in
    ap (λ l. little_number 4 l)
    (ap (λ n. drop n (block_of ticks original bytes)) at
    ∙ ap (drop (length (all_but ticks original bytes))) (block-split ticks original bytes)
    ∙ drop_at (all_but ticks original bytes) (word size) (length (all_but ticks original bytes)) refl
    ∙ sym (append-nil (word size)))
    ∙ word_back size [] (omega (arith, p))

-- ---- a packet is a block

no_header : (ticks original : ℕ) (bytes : List ℕ) → order_at false (block_of ticks original bytes) ≡ false
unfolding block_head_of word_at
no_header ticks original bytes = refl

is_packet : (resolution ticks original : ℕ) (bytes : List ℕ) → kind_at (with_one resolution) (block_of ticks original bytes) ≡ kinds.Enhanced
unfolding block_head_of word_at
is_packet resolution ticks original bytes = refl

-- the first 12 bytes are not refused
opens : (resolution ticks original : ℕ) (bytes : List ℕ) → Fits ticks (length bytes) original → opening (with_one resolution) (take 12 (block_of ticks original bytes)) ≡ None
unfolding block_head_of word_at
opens resolution ticks original bytes fits =
    let c = fits.captured in
    let p = padded_most (length bytes) c in
    let size : ℕ = 32 + padded (length bytes) in
    let long : is_length kinds.Enhanced size ≡ true =
    and_from (nat_le 32 size) (size % 4 == 0 && nat_le size 1048576) (le-leb 32 size (omega arith)) (and_from (size % 4 == 0) (nat_le size 1048576) (eq-eqb (size % 4) 0 (omega arith)) (le-leb size 1048576 (omega (arith, p)))) in
    ap (λ n. if is_length kinds.Enhanced n then None else Some (told 4 reasons.Block)) (word_back size (word 0) (omega (arith, p)))
    ∙ cond-true (is_length kinds.Enhanced size) None (Some (told 4 reasons.Block)) long

-- the times that a packet may have: in whole seconds
abbrev whole_of : ℕ → ℕ → ℕ
whole_of resolution ticks = ticks / per_second resolution

fields_good : (resolution ticks original : ℕ) (bytes : List ℕ) → Fits ticks (length bytes) original → length bytes ≤ original → whole_of resolution ticks ≤ 4294967295
    → AllGood (fields_by kinds.Enhanced (with_one resolution) false (block_of ticks original bytes))
fields_good resolution ticks original bytes fits within time =
    let block : List ℕ = block_of ticks original bytes in
    let s = shows ticks (length bytes) original (behind_head bytes) fits in
    let len = length-block ticks original bytes in
    let c = fits.captured in
    let o = fits.original in
    let captured = s.captured in
    let same_original = s.original in
    let number = s.interface in
    let joined : word_at false 12 block * 2 ^ 32 + word_at false 16 block ≡ ticks = let h = s.high in let l = s.low in omega (arith, h, l) in
    let whole : whole_at (with_one resolution) false block ≡ whole_of resolution ticks =
    ap (λ n. (word_at false 12 block * 2 ^ 32 + word_at false 16 block) / per_second (interface_at (with_one resolution) n).resolution) number
    ∙ ap (λ n. n / per_second resolution) joined in
    let offset : (interface_of (with_one resolution) false block).offset ≡ 0 = ap (λ n. (interface_at (with_one resolution) n).offset) number in (
      eq-eqb (word_at false (length block - 4) block) (length block) (last_word ticks original bytes c ∙ sym len),
      (
        lt-ltb (word_at false 8 block) 1 (omega (arith, number)),
        (
          and_from (nat_le (word_at false 20 block) 262144) (nat_le (word_at false 20 block + 32) (length block)) (le-leb (word_at false 20 block) 262144 (omega (arith, captured, c))) (le-leb (word_at false 20 block + 32) (length block) (omega (arith, captured, len))),
          (
            and_from (nat_le (word_at false 20 block) (word_at false 24 block)) (nat_le (word_at false 24 block) 2147483647) (le-leb (word_at false 20 block) (word_at false 24 block) (omega (arith, captured, same_original, within))) (le-leb (word_at false 24 block) 2147483647 (omega (arith, same_original, o))),
            (ap (λ n. is_time n (whole_at (with_one resolution) false block)) offset ∙ ap (is_time 0) whole ∙ le-leb (whole_of resolution ticks + 0) 4294967295 (omega (arith, time)), tt),
          ),
        ),
      ),
    )

block_size : (resolution ticks original : ℕ) (bytes : List ℕ) → Fits ticks (length bytes) original → size_at (with_one resolution) (block_of ticks original bytes) ≡ length (block_of ticks original bytes)
block_size resolution ticks original bytes fits =
    let block : List ℕ = block_of ticks original bytes in
    ap (λ (o : Bool). word_at o 4 block) (no_header ticks original bytes)
    ∙ (shows ticks (length bytes) original (behind_head bytes) fits).size
    ∙ sym (length-block ticks original bytes)

block_good : (resolution ticks original : ℕ) (bytes : List ℕ) → Fits ticks (length bytes) original → length bytes ≤ original → whole_of resolution ticks ≤ 4294967295 → block_refusal (with_one resolution) (block_of ticks original bytes) ≡ None
unfolding block_refusal
block_good resolution ticks original bytes fits within time =
    let block : List ℕ = block_of ticks original bytes in
    ap (λ (k : BlockKind). first_bad (fields_by k (with_one resolution) (order_at false block) block)) (is_packet resolution ticks original bytes)
    ∙ ap (λ (o : Bool). first_bad (fields_by kinds.Enhanced (with_one resolution) o block)) (no_header ticks original bytes)
    ∙ good_none (fields_by kinds.Enhanced (with_one resolution) false block) (fields_good resolution ticks original bytes fits within time)

packet_is : (resolution ticks original : ℕ) (bytes : List ℕ) → Fits ticks (length bytes) original → length bytes ≤ original → whole_of resolution ticks ≤ 4294967295 → IsBlock (with_one resolution) (block_of ticks original bytes)
packet_is resolution ticks original bytes fits within time =
    let block : List ℕ = block_of ticks original bytes in
    let section : Section = with_one resolution in
    let len = length-block ticks original bytes in
    let size = block_size resolution ticks original bytes fits in
    let some : 12 ≤ length block = omega (arith, len) in
    let all : block_at section block ≡ block = take_all (size_at section block) block (omega (arith, size)) in
    record {
      some = some;
      whole = size;
      accepted = refusal_whole section block (there_whole section block some (omega (arith, size)))
          ∙ ap (λ (o : Option NgRefusal). or_then o (block_refusal section (block_at section block))) (opens resolution ticks original bytes fits)
          ∙ ap (block_refusal section) all
          ∙ block_good resolution ticks original bytes fits within time;
    }

packet_behind : (resolution ticks original : ℕ) (bytes : List ℕ) → section_behind (with_one resolution) (block_of ticks original bytes) ≡ with_one resolution
unfolding section_behind block_head_of word_at
packet_behind resolution ticks original bytes = refl

packet_frame : (resolution ticks original : ℕ) (bytes : List ℕ) → frame_of (with_one resolution) (block_of ticks original bytes) ≡ Some (enhanced_frame (with_one resolution) false (block_of ticks original bytes))
unfolding frame_of block_head_of word_at
packet_frame resolution ticks original bytes = refl

-- ---- the frame of a packet

behind_28 : (ticks original : ℕ) (bytes : List ℕ) → drop 28 (block_of ticks original bytes) ≡ behind_head bytes
unfolding block_head_of
behind_28 ticks original bytes = refl

-- a frame of these numbers and bytes
abbrev frame_as : (seconds nanos original : ℕ) → List ℕ → NgFrame
frame_as seconds nanos original bytes = record { seconds = seconds; nanos = nanos; original = original; interface = 0; ethernet = true; bytes = bytes }

abbrev raw : (seconds nanos original interface : ℕ) → Bool → List ℕ → NgFrame
raw seconds nanos original interface ethernet bytes = record { seconds = seconds; nanos = nanos; original = original; interface = interface; ethernet = ethernet; bytes = bytes }

same_raw : (s n o i s' n' o' i' : ℕ) (e e' : Bool) (b b' : List ℕ) → s ≡ s' → n ≡ n' → o ≡ o' → i ≡ i' → e ≡ e' → b ≡ b' → raw s n o i e b ≡ raw s' n' o' i' e' b'
same_raw s n o i s' n' o' i' e e' b b' ps pn po pi pe pb =
    ap (λ x. raw x n o i e b) ps ∙ ap (λ x. raw s' x o i e b) pn ∙ ap (λ x. raw s' n' x i e b) po ∙ ap (λ x. raw s' n' o' x e b) pi ∙ ap (λ (x : Bool). raw s' n' o' i' x b) pe ∙ ap (λ (x : List ℕ). raw s' n' o' i' e' x) pb

packet_gives : (resolution ticks original : ℕ) (bytes : List ℕ) → Fits ticks (length bytes) original
    → enhanced_frame (with_one resolution) false (block_of ticks original bytes) ≡ frame_as (whole_of resolution ticks + 0) (nanos_of resolution ticks) original bytes
packet_gives resolution ticks original bytes fits =
    let block : List ℕ = block_of ticks original bytes in
    let section : Section = with_one resolution in
    let s = shows ticks (length bytes) original (behind_head bytes) fits in
    let joined : ticks_at false block ≡ ticks = let h = s.high in let l = s.low in omega (arith, h, l) in
    let own : interface_of section false block ≡ interface_at section 0 = ap (interface_at section) s.interface in
    let whole : whole_at section false block ≡ whole_of resolution ticks =
    ap (λ (i : Interface). ticks_at false block / per_second i.resolution) own ∙ ap (λ n. n / per_second resolution) joined in
    let body : take (word_at false 20 block) (drop 28 block) ≡ bytes =
    ap (λ n. take n (drop 28 block)) s.captured ∙ ap (take (length bytes)) (behind_28 ticks original bytes) ∙ take-append_seam bytes (block_end_of (length bytes)) in
    same_raw _ _ _ _ _ _ _ _ _ _ _ _
    (ap (λ (i : Interface). moved_by i.offset (whole_at section false block)) own ∙ ap (moved_by 0) whole)
    (ap (λ (i : Interface). nanos_of i.resolution (ticks_at false block)) own ∙ ap (nanos_of resolution) joined)
    s.original
    s.interface
    (ap (λ (i : Interface). i.ethernet) own)
    body

-- ---- times of a capture

micro_times : (s f : ℕ) → (whole_of 6 (s * 1000000 + f) + 0 ≡ s + f / 1000000) × (nanos_of 6 (s * 1000000 + f) ≡ f % 1000000 * 1000)
micro_times s f = (omega arith, omega arith)

nano_times : (s f : ℕ) → (whole_of 9 (s * 1000000000 + f) + 0 ≡ s + f / 1000000000) × (nanos_of 9 (s * 1000000000 + f) ≡ f % 1000000000 * 1)
nano_times s f = (omega arith, omega arith)

times_of : (form : Form) (s f : ℕ) → (whole_of (resolution_of form) (ticks_of form s f) + 0 ≡ s + f / unit_of form) × (nanos_of (resolution_of form) (ticks_of form s f) ≡ f % unit_of form * (1000000000 / unit_of form))
times_of form s f =
    elim form.nano as (λ b. (whole_of (resolution_of (record form { nano = b })) (ticks_of (record form { nano = b }) s f) + 0 ≡ s + f / unit_of (record form { nano = b })) × (nanos_of (resolution_of (record form { nano = b })) (ticks_of (record form { nano = b }) s f) ≡ f % unit_of (record form { nano = b }) * (1000000000 / unit_of (record form { nano = b })))) [
      | true ↦ nano_times s f
      | false ↦ micro_times s f
    ]

ticks_fit : (form : Form) (s f : ℕ) → s ≤ 4294967295 → f ≤ 4294967295 → ticks_of form s f < 2 ^ 64
ticks_fit form s f few less =
    elim form.nano as (λ b. ticks_of (record form { nano = b }) s f < 2 ^ 64) [ true ↦ omega (arith, few, less) | false ↦ omega (arith, few, less) ]

-- ---- the packet of a frame

abbrev section_of : Form → Section
section_of form = with_one (resolution_of form)

fits_of : (form : Form) (frame : Captured) → MayBeWritten form frame → Fits (ticks_of form frame.seconds frame.fraction) (length frame.bytes) frame.original
fits_of form frame may = record {
  ticks = ticks_fit form frame.seconds frame.fraction may.within.seconds may.within.fraction;
  captured = may.within.captured;
  original = may.within.original;
}

frame_is : (form : Form) (frame : Captured) → MayBeWritten form frame → IsBlock (section_of form) (packet_block form frame)
frame_is form frame may =
    let t = (times_of form frame.seconds frame.fraction).0 in
    let most = leb-true (frame.seconds + frame.fraction / unit_of form) 4294967295 may.time in
    packet_is (resolution_of form) (ticks_of form frame.seconds frame.fraction) frame.original frame.bytes (fits_of form frame may) may.within.whole (omega (arith, t, most))

frame_gives : (form : Form) (frame : Captured) → MayBeWritten form frame → frame_of (section_of form) (packet_block form frame) ≡ Some (as_ng form frame)
frame_gives form frame may =
    let ticks : ℕ = ticks_of form frame.seconds frame.fraction in
    let t = times_of form frame.seconds frame.fraction in
    packet_frame (resolution_of form) ticks frame.original frame.bytes
    ∙ ap Some (packet_gives (resolution_of form) ticks frame.original frame.bytes (fits_of form frame may)
    ∙ ap (λ n. frame_as n (nanos_of (resolution_of form) ticks) frame.original frame.bytes) t.0
    ∙ ap (λ n. frame_as (frame.seconds + frame.fraction / unit_of form) n frame.original frame.bytes) t.1)

frame_behind : (form : Form) (frame : Captured) → section_behind (section_of form) (packet_block form frame) ≡ section_of form
frame_behind form frame = packet_behind (resolution_of form) (ticks_of form frame.seconds frame.fraction) frame.original frame.bytes

-- ---- the packets of frames

abbrev blocks_of : Form → List Captured → List (List ℕ)
blocks_of form [] = []
blocks_of form (frame ∷ frames) = packet_block form frame ∷ blocks_of form frames

are_blocks : (form : Form) (frames : List Captured) → AllByRecursion (MayBeWritten form) frames → AreBlocks (section_of form) (blocks_of form frames)
are_blocks form [] each = tt
are_blocks form (frame ∷ frames) each =
    (frame_is form frame each.0, subst (λ (s : Section). AreBlocks s (blocks_of form frames)) (sym (frame_behind form frame)) (are_blocks form frames each.1))

after_blocks : (form : Form) (frames : List Captured) → section_after (section_of form) (blocks_of form frames) ≡ section_of form
after_blocks form [] = refl
after_blocks form (frame ∷ frames) = ap (λ (s : Section). section_after s (blocks_of form frames)) (frame_behind form frame) ∙ after_blocks form frames

given_blocks : (form : Form) (frames : List Captured) → AllByRecursion (MayBeWritten form) frames → frames_after (section_of form) (blocks_of form frames) ≡ map (as_ng form) frames
given_blocks form [] each = refl
given_blocks form (frame ∷ frames) each =
    ap (λ (o : Option NgFrame). given_by o ++ frames_after (section_behind (section_of form) (packet_block form frame)) (blocks_of form frames)) (frame_gives form frame each.0)
    ∙ ap (λ (s : Section). as_ng form frame ∷ frames_after s (blocks_of form frames)) (frame_behind form frame)
    ∙ ap (λ (fs : List NgFrame). as_ng form frame ∷ fs) (given_blocks form frames each.1)

bytes_blocks : (form : Form) (frames : List Captured) → flat_map (packet_block form) frames ≡ bytes_of (blocks_of form frames)
bytes_blocks form [] = refl
bytes_blocks form (frame ∷ frames) = flat_map-cons (packet_block form) frame frames ∙ ap (λ l. packet_block form frame ++ l) (bytes_blocks form frames)

-- ---- the file

abbrev description_of : Form → List ℕ
description_of form = interface_description (resolution_of form)

description_is : (form : Form) → IsBlock begun (description_of form)
description_is form = elim form.nano as (λ b. IsBlock begun (description_of (record form { nano = b }))) [ true ↦ nano_is | false ↦ micro_is ]

description_behind : (form : Form) → section_behind begun (description_of form) ≡ section_of form
description_behind form = elim form.nano as (λ b. section_behind begun (description_of (record form { nano = b })) ≡ section_of (record form { nano = b })) [ true ↦ nano_behind | false ↦ micro_behind ]

description_gives : (form : Form) → frame_of begun (description_of form) ≡ None
description_gives form = elim form.nano as (λ b. frame_of begun (description_of (record form { nano = b })) ≡ None) [ true ↦ nano_gives | false ↦ micro_gives ]

head-split : (form : Form) (rest : List ℕ) → ng_head_of form ++ rest ≡ section_header ++ (description_of form ++ rest)
unfolding ng_head_of
head-split form rest = append_assoc section_header (description_of form) rest

pub written_read : (form : Form) (frames : List Captured) → AllByRecursion (MayBeWritten form) frames → IsNg (ng_of form frames) (map (as_ng form) frames)
written_read form frames each =
    let packets : List (List ℕ) = blocks_of form frames in
    let description : List ℕ = description_of form in
    record {
      section = section_of form;
      part = record {
        blocks = section_header ∷ description ∷ packets;
        each = (
          header_is,
          subst (λ (s : Section). AreBlocks s (description ∷ packets)) (sym header_behind)
              (description_is form, subst (λ (s : Section). AreBlocks s packets) (sym (description_behind form)) (are_blocks form frames each)),
        );
        all = head-split form (flat_map (packet_block form) frames) ∙ ap (λ l. section_header ++ (description ++ l)) (bytes_blocks form frames);
        leaves = sym (ap (λ (s : Section). section_after (section_behind s description) packets) header_behind
            ∙ ap (λ (s : Section). section_after s packets) (description_behind form)
            ∙ after_blocks form frames);
        gives = sym (ap (λ (o : Option NgFrame). given_by o ++ frames_after (section_behind start section_header) (description ∷ packets)) header_gives
            ∙ ap (λ (s : Section). frames_after s (description ∷ packets)) header_behind
            ∙ ap (λ (o : Option NgFrame). given_by o ++ frames_after (section_behind begun description) packets) (description_gives form)
            ∙ ap (λ (s : Section). frames_after s packets) (description_behind form)
            ∙ given_blocks form frames each);
      };
      begun = refl;
    }
