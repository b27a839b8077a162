-- A feed and the bytes that it took.
use Rattle.std.proofs.Common.{◌≡◌, ℕ, ◌+◌, ◌-◌, ◌≤◌, List, [], ◌∷◌, ◌++◌, length, drop, take, Some, None, Option, min, refl, sym, ap, subst, ◌∙◌, append_assoc, arith, inl, inr, ◌⊎◌}
use Rattle.std.proofs.lemmas.List.{take-append-drop, length-append, length-take, length-take-le, length-drop, take-append-le, drop-append-le, get_or_append_left, drop_all, take_at, take-take, append-nil}
use Rattle.std.proofs.lemmas.Slice.{take-put_mid}
use Rattle.std.proofs.lemmas.Bool.{cases_lt}
use borrow.Rule.Slice.PartMut.{put_mid}
use Rattle.nsh_headers.specs.declared.faults.NshFault.{NshFault}
use Rattle.nsh_headers.specs.declared.faults.NshFault.TheVariants.{Short, Version, MdType, Length, Context}
use Rattle.nsh_metadata.specs.Item.{items_bytes}
use Rattle.nsh_metadata.specs.Header.{Header, IsNsh, BeginsWith}
use Rattle.nsh_metadata.specs.Refusal.{PassesEnd, Breaks, Held, Refused}
use Rattle.nsh_metadata.specs.Kept.{Kept, waiting, stopped}
use Rattle.nsh_metadata.specs.Feed.{Answers, kept_after, Cuts, Stands, Next}
use Rattle.nsh_metadata.specs.declared.feeds.NshStep.{NshStep}
use Rattle.nsh_metadata.specs.declared.feeds.NshStep.TheVariants.{More, Whole, Fault}
use Rattle.nsh_metadata.proofs.HeaderLemmas.{begins_once, begins_long, begins_unbroken, breaks_once}

-- ---- more bytes behind

pub begins_append : (b more : List ℕ) (h : Header) (n : ℕ) → BeginsWith b h n → BeginsWith (b ++ more) h n
begins_append b more h n w =
    record {
      within = omega (arith, w.within, length-append b more);
      spelled = subst (λ (t : List ℕ). IsNsh t h) (sym (take-append-le n b more w.within)) w.spelled;
    }

pub begins_take : (b : List ℕ) (h : Header) (n m : ℕ) → n ≤ m → BeginsWith b h n → BeginsWith (take m b) h n
begins_take b h n m le w =
    record {
      within = omega (arith, w.within, length-take m b);
      spelled = subst (λ (t : List ℕ). IsNsh t h) (sym (take-take n m b le)) w.spelled;
    }

passes_append : (b more : List ℕ) (place : ℕ) → PassesEnd b place → PassesEnd (b ++ more) place
passes_append b more place p =
    let long : 12 ≤ length b = omega (arith, p.shown, ap length p.split, length-drop 8 b, length-append (items_bytes p.before) p.rest) in
    let e0 = get_or_append_left b more 0 0 (omega arith) in
    let e1 = get_or_append_left b more 0 1 (omega arith) in
    let e2 = get_or_append_left b more 0 2 (omega arith) in
    let e3 = get_or_append_left p.rest more 0 3 (omega (arith, p.shown)) in
    record {
      version = rw e0 p.version;
      md = rw e2 p.md;
      words = rw e1 p.words;
      before = p.before;
      rest = p.rest ++ more;
      whole = p.whole;
      split = drop-append-le 8 b more (omega arith) ∙ ap (λ (t : List ℕ). t ++ more) p.split ∙ append_assoc (items_bytes p.before) p.rest more;
      here = p.here;
      inside = rw e1 p.inside;
      shown = omega (arith, p.shown, length-append p.rest more);
      past = rw (e1, e3) p.past;
    }

pub breaks_append : (b more : List ℕ) (f : NshFault) → Breaks b f → Breaks (b ++ more) f
breaks_append b more (Short n) p = absurd p
breaks_append b more (Version n) p =
    let e0 = get_or_append_left b more 0 0 p.0 in
    (omega (arith, p.0, length-append b more), rw e0 p.1, p.2)
breaks_append b more (MdType n) p =
    let e0 = get_or_append_left b more 0 0 (omega (arith, p.0)) in
    let e2 = get_or_append_left b more 0 2 p.0 in
    (omega (arith, p.0, length-append b more), rw e0 p.1, rw e2 p.2, p.3, p.4)
breaks_append b more (Length n) p =
    let e0 = get_or_append_left b more 0 0 (omega (arith, p.0)) in
    let e1 = get_or_append_left b more 0 1 (omega (arith, p.0)) in
    let e2 = get_or_append_left b more 0 2 p.0 in
    (omega (arith, p.0, length-append b more), rw e0 p.1, rw e1 p.2, rw e2 p.3)
breaks_append b more (Context n) p = passes_append b more n p

-- ---- nothing yet

nothing_breaks : (f : NshFault) → Breaks [] f → ⊥
nothing_breaks (Short n) p = p
nothing_breaks (Version n) p = omega (arith, p.0)
nothing_breaks (MdType n) p = omega (arith, p.0)
nothing_breaks (Length n) p = omega (arith, p.0)
nothing_breaks (Context n) p = omega (arith, p.shown, ap length p.split, length-append (items_bytes p.before) p.rest)

pub held_nothing : Held []
held_nothing = record { unbroken = nothing_breaks; partial = λ h n w. omega (arith, w.within, begins_long [] h n w) }

-- ---- one answer

pub answers_once : (b : List ℕ) (before : ℕ) (x y : NshStep) → Answers b before x → Answers b before y → x ≡ y
answers_once b before More More p q = refl
answers_once b before More (Whole h n) p q = absurd (p.partial h (before + n) q)
answers_once b before More (Fault f) p q = absurd (p.unbroken f q)
answers_once b before (Whole h n) More p q = absurd (q.partial h (before + n) p)
answers_once b before (Whole h n) (Whole k m) p q =
    let both = begins_once b h k (before + n) (before + m) p q in
    let counts : n ≡ m = omega (arith, both.0) in
    ap (λ (z : Header). Whole z n) both.1 ∙ ap (λ (z : ℕ). Whole k z) counts
answers_once b before (Whole h n) (Fault f) p q = absurd (begins_unbroken b h (before + n) f p q)
answers_once b before (Fault f) More p q = absurd (q.unbroken f p)
answers_once b before (Fault f) (Whole h n) p q = absurd (begins_unbroken b h (before + n) f q p)
answers_once b before (Fault f) (Fault g) p q = ap Fault (breaks_once b f g p q)

-- ---- cuts

-- bytes in which no header is whole at the front
abbrev NoHeader : List ℕ → Type 0
NoHeader b = (h : Header) (n : ℕ) → BeginsWith b h n → ⊥

pub cuts_once : (b : List ℕ) (hs ks : List Header) (x y : List ℕ) → NoHeader x → NoHeader y → Cuts b hs x → Cuts b ks y → (hs ≡ ks) × (x ≡ y)
cuts_once b [] [] x y no_x no_y p q = (refl, sym p ∙ q)
cuts_once b [] (k ∷ ks) x y no_x no_y p q = absurd (no_x k q.0 (subst (λ (t : List ℕ). BeginsWith t k q.0) p q.1))
cuts_once b (h ∷ hs) [] x y no_x no_y p q = absurd (no_y h p.0 (subst (λ (t : List ℕ). BeginsWith t h p.0) q p.1))
cuts_once b (h ∷ hs) (k ∷ ks) x y no_x no_y p q =
    let first = begins_once b h k p.0 q.0 p.1 q.1 in
    let second : Cuts (drop p.0 b) ks y = subst (λ (n : ℕ). Cuts (drop n b) ks y) (sym first.0) q.2 in
    let others = cuts_once (drop p.0 b) hs ks x y no_x no_y p.2 second in
    (ap (λ (z : Header). z ∷ hs) first.1 ∙ ap (λ (zs : List Header). k ∷ zs) others.0, others.1)

pub cuts_append : (b more : List ℕ) (hs : List Header) (tail : List ℕ) → Cuts b hs tail → Cuts (b ++ more) hs (tail ++ more)
cuts_append b more [] tail p = ap (λ (t : List ℕ). t ++ more) p
cuts_append b more (h ∷ hs) tail p = (
  p.0,
  begins_append b more h p.0 p.1,
  subst (λ (t : List ℕ). Cuts t hs (tail ++ more)) (sym (drop-append-le p.0 b more p.1.within)) (cuts_append (drop p.0 b) more hs tail p.2),
)

pub cuts_push : (b : List ℕ) (hs : List Header) (tail : List ℕ) (h : Header) (n : ℕ) → Cuts b hs tail → BeginsWith tail h n → Cuts b (hs ++ h ∷ []) (drop n tail)
cuts_push b [] tail h n p w = (n, subst (λ (t : List ℕ). BeginsWith t h n) (sym p) w, ap (drop n) p)
cuts_push b (k ∷ hs) tail h n p w = (p.0, p.1, cuts_push (drop p.0 b) hs tail h n p.2 w)

-- ---- what a feed stands for

broken_no_header : (b : List ℕ) (f : NshFault) → Breaks b f → NoHeader b
broken_no_header b f p h n w = begins_unbroken b h n f w p

no_header : (feed : Kept) (taken : List ℕ) (given : List Header) (s : Stands feed taken given) → NoHeader s.tail
no_header feed taken given s = elim s.state [ inl w ↦ w.0.partial | inr o ↦ broken_no_header s.tail o.0 o.1 ]

pub stands_once : (a b : Kept) (taken : List ℕ) (given others : List Header) → Stands a taken given → Stands b taken others → (given ≡ others) × (a ≡ b)
stands_once a b taken given others s t =
    let cuts = cuts_once taken given others s.tail t.tail (no_header a taken given s) (no_header b taken others t) s.cut t.cut in (
      cuts.0,
      elim s.state [
        | inl w ↦ elim t.state [
          | inl v ↦ w.1 ∙ ap waiting cuts.1 ∙ sym v.1
          | inr o ↦ absurd (w.0.unbroken o.0 (subst (λ (z : List ℕ). Breaks z o.0) (sym cuts.1) o.1))
        ]
        | inr p ↦ elim t.state [
          | inl v ↦ absurd (v.0.unbroken p.0 (subst (λ (z : List ℕ). Breaks z p.0) cuts.1 p.1))
          | inr o ↦ p.2 ∙ ap stopped (breaks_once t.tail p.0 o.0 (subst (λ (z : List ℕ). Breaks z p.0) cuts.1 p.1) o.1) ∙ sym o.2
        ]
      ],
    )

-- a feed that has stopped stands for all that follows, too
pub stopped_stands : (feed : Kept) (f : NshFault) (taken more : List ℕ) (given : List Header) → feed.stop ≡ Some f → Stands feed taken given → Stands feed (taken ++ more) given
stopped_stands feed f taken more given stop s =
    record {
      tail = s.tail ++ more;
      cut = cuts_append taken more given s.tail s.cut;
      state = elim s.state [
        | inl w ↦ absurd (none_or_some feed f s.tail stop w.1)
        | inr o ↦ inr (o.0, breaks_append s.tail more o.0 o.1, o.2)
      ];
    } where
      none_or_some : (feed : Kept) (f : NshFault) (tail : List ℕ) → feed.stop ≡ Some f → feed ≡ waiting tail → ⊥
      none_or_some feed f tail p q = let e : ◌≡◌ {A = Option NshFault} (Some f) None = sym p ∙ ap (λ (k : Kept). k.stop) q in cc

-- ---- one piece

-- the bytes that are decoded: those kept, and as many of the piece as there is room for
pub record Gathered (rest piece bytes : List ℕ) (more : ℕ) : Type 0 where
  pub joined : bytes ≡ rest ++ take more piece
  pub within : more ≤ length piece
  pub kept : Held rest

pub gathered : (held piece rest front taken bytes : List ℕ) (len more k total : ℕ) → len ≤ length held → more ≤ length piece → take len held ≡ rest → Held (take len held) → front ≡ take more piece → taken ≡ front → total ≡ len + more
    → bytes ≡ take total (put_mid len k held taken) → Gathered rest piece bytes more
gathered held piece rest front taken bytes len more k total room within rest-is kept front-is taken-is total-is bytes-is =
    let taken_len = ap length (taken-is ∙ front-is) ∙ length-take-le more piece within in
    record {
      joined = bytes-is ∙ take-put_mid len k held taken total (omega arith) room ∙ ap (λ (t : List ℕ). t ++ taken) rest-is ∙ ap (λ (t : List ℕ). rest ++ t) (taken-is ∙ front-is);
      within = within;
      kept = subst Held rest-is kept;
    }

pub gathered_len : (rest piece bytes : List ℕ) (more : ℕ) → Gathered rest piece bytes more → length bytes ≡ length rest + more
gathered_len rest piece bytes more g = ap length g.joined ∙ length-append rest (take more piece) ∙ ap (λ (n : ℕ). length rest + n) (length-take-le more piece g.within)

all_of : (rest piece bytes : List ℕ) (more : ℕ) → Gathered rest piece bytes more → rest ++ piece ≡ bytes ++ drop more piece
all_of rest piece bytes more g =
    ap (λ (t : List ℕ). rest ++ t) (sym (take-append-drop more piece)) ∙ sym (append_assoc rest (take more piece) (drop more piece)) ∙ ap (λ (t : List ℕ). t ++ drop more piece) (sym g.joined)

-- the kept bytes are the front of the decoded ones
front_of : (rest piece bytes : List ℕ) (more : ℕ) → Gathered rest piece bytes more → take (length rest) bytes ≡ rest
front_of rest piece bytes more g = ap (take (length rest)) g.joined ∙ take_at rest (take more piece) (length rest) refl

pub piece_whole : (rest piece bytes : List ℕ) (more : ℕ) (h : Header) (size : ℕ) → Gathered rest piece bytes more → BeginsWith bytes h size → (length rest ≤ size) × BeginsWith (rest ++ piece) h (length rest + (size - length rest))
piece_whole rest piece bytes more h size g w =
    let longer : length rest ≤ size = elim (cases_lt size (length rest)) [
      | inl short ↦ absurd (g.kept.partial h size (subst (λ (t : List ℕ). BeginsWith t h size) (front_of rest piece bytes more g) (begins_take bytes h size (length rest) (omega arith) w)))
      | inr long ↦ long
    ] in
    let total : size ≡ length rest + (size - length rest) = omega arith in (
      longer,
      subst (λ (n : ℕ). BeginsWith (rest ++ piece) h n) total
          (subst (λ (t : List ℕ). BeginsWith t h size) (sym (all_of rest piece bytes more g)) (begins_append bytes (drop more piece) h size w)),
    )

-- too few bytes, where there was room for more: all of the piece was taken
pub piece_more : (rest piece bytes : List ℕ) (more n : ℕ) → Gathered rest piece bytes more → more ≡ length piece ⊎ (length bytes ≡ 252) → (252 ≤ length bytes → ⊥) → Refused bytes (Short n) → Held (rest ++ piece) × (rest ++ piece ≡ bytes)
piece_more rest piece bytes more n g room few refused =
    let whole : more ≡ length piece = elim room [ inl e ↦ e | inr full ↦ absurd (few (omega arith)) ] in
    let same : rest ++ piece ≡ bytes = all_of rest piece bytes more g ∙ ap (λ (t : List ℕ). bytes ++ t) (drop_all more piece (omega arith)) ∙ append-nil bytes in
    (elim refused [ inl p ↦ absurd p | inr p ↦ subst Held (sym same) p.0 ], same)

pub piece_fault : (rest piece bytes : List ℕ) (more : ℕ) (f : NshFault) → Gathered rest piece bytes more → ((n : ℕ) → f ≡ Short n → ⊥) → Refused bytes f → Breaks (rest ++ piece) f
piece_fault rest piece bytes more f g not_short refused =
    elim refused [
      | inl p ↦ subst (λ (t : List ℕ). Breaks t f) (sym (all_of rest piece bytes more g)) (breaks_append bytes (drop more piece) f p)
      | inr p ↦ absurd (not_short (length bytes) p.1)
    ]

-- ---- what a feed stands for after one more piece

whole_taken : (rest piece : List ℕ) (n : ℕ) → n ≤ length piece → take (length rest + n) (rest ++ piece) ≡ rest ++ take n piece
whole_taken rest piece n within =
    ap (λ (t : List ℕ). take (length rest + n) (rest ++ t)) (sym (take-append-drop n piece))
    ∙ ap (take (length rest + n)) (sym (append_assoc rest (take n piece) (drop n piece)))
    ∙ take_at (rest ++ take n piece) (drop n piece) (length rest + n) (omega (arith, length-append rest (take n piece), length-take-le n piece within))

pub next_waiting : (rest taken piece : List ℕ) (given : List Header) (new : Kept) (answer : NshStep) → Cuts taken given rest → Answers (rest ++ piece) (length rest) answer → new ≡ kept_after (rest ++ piece) answer → Next new taken piece given answer
next_waiting rest taken piece given new More cut a kept =
    record { tail = rest ++ piece; cut = cuts_append taken piece given rest cut; state = inl (a, kept) }
next_waiting rest taken piece given new (Fault f) cut a kept =
    record { tail = rest ++ piece; cut = cuts_append taken piece given rest cut; state = inr (f, a, kept) }
next_waiting rest taken piece given new (Whole h n) cut a kept =
    let within : n ≤ length piece = omega (arith, a.within, length-append rest piece) in
    let part : BeginsWith (rest ++ take n piece) h (length rest + n) =
    subst (λ (t : List ℕ). BeginsWith t h (length rest + n)) (whole_taken rest piece n within) (begins_take (rest ++ piece) h (length rest + n) (length rest + n) (omega arith) a) in
    let nothing : drop (length rest + n) (rest ++ take n piece) ≡ [] = drop_all (length rest + n) (rest ++ take n piece) (omega (arith, length-append rest (take n piece), length-take n piece)) in (
      within,
      record {
        tail = [];
        cut = subst (λ (t : List ℕ). Cuts (taken ++ take n piece) (given ++ h ∷ []) t) nothing
            (cuts_push (taken ++ take n piece) given (rest ++ take n piece) h (length rest + n) (cuts_append taken (take n piece) given rest cut) part);
        state = inl (held_nothing, kept);
      },
    )

pub next_piece : (old new : Kept) (taken piece : List ℕ) (given : List Header) (answer : NshStep) → old.stop ≡ None → Stands old taken given → Answers (old.rest ++ piece) (length old.rest) answer → new ≡ kept_after (old.rest ++ piece) answer → Next new taken piece given answer
next_piece old new taken piece given answer going s a kept =
    elim s.state [
      | inl w ↦
          let same : s.tail ≡ old.rest = sym (ap (λ (k : Kept). k.rest) w.1) in
          next_waiting old.rest taken piece given new answer (subst (λ (t : List ℕ). Cuts taken given t) same s.cut) a kept
      | inr o ↦ absurd (some_or_none o.0 (sym (ap (λ (k : Kept). k.stop) o.2) ∙ going))
    ] where
      some_or_none : (f : NshFault) → ◌≡◌ {A = Option NshFault} (Some f) None → ⊥
      some_or_none f e = cc

-- what is taken of a piece: all of it, or what there is room for
pub all_or_room : (n room more : ℕ) → more ≡ min n room → (more ≡ n) ⊎ (more ≡ room)
all_or_room n room more e = elim (cases_lt n room) [ inl lt ↦ inl (omega arith) | inr le ↦ inr (omega arith) ]
