-- A front of rounds is the rounds of its own frames and segments.
use Rattle.std.proofs.Common.{◌≡◌, ℕ, zero, suc, ◌+◌, ◌-◌, ◌%◌, ◌<◌, ◌≤◌, min, Bool, true, false, cond, not, ◌&&◌, nat_eq, nat_le, List, [], ◌∷◌, ◌++◌, length, take, drop, refl, sym, ap, subst, ◌∙◌, inl, inr, ◌⊎◌, append_assoc, length-append, length-take, arith}
use Rattle.std.proofs.lemmas.Bool.{cases_Bool, cases_lt, both_ways, le-leb, or_right}
use Rattle.std.proofs.lemmas.List.{append-nil, take-append-drop, take-append-le, take_all, take_at, drop_at, nil_from_length}
use Rattle.pcap_io.specs.declared.frames.Captured.{Captured}
use Rattle.control_files.specs.declared.segments.Segment.{Segment}
use Rattle.rounds.specs.Rounds.{Round, Rounds, is_at_cut, at_cut, is_empty, wanted, group, round_segments, round_frames, frames_of, segments_of}
use Rattle.rounds.specs.declared.ends.RunEnd.{RunEnd}
use Rattle.rounds.specs.declared.ends.RunEnd.TheVariants as ends
use Rattle.rounds.specs.Counted.{are_below, counted, have_segments, rounds_before_last, rounds_below}
use Rattle.rounds.proofs.RoundLemmas.{empty_is, progress, first_in}
use Rattle.rounds.proofs.LastLemmas.{front_taken, frames_at}

full_or_over : (n : ℕ) (e : Bool) (p : ℕ) (ss : List Segment) → (length (take n (at_cut e p ss)) ≡ n) ⊎ (at_cut e p (drop (length (take n (at_cut e p ss))) ss) ≡ [])
full_or_over zero e p ss = inl refl
full_or_over (suc n) e p [] = inr refl
full_or_over (suc n) e p (s ∷ ss) =
    elim (cases_Bool (is_at_cut e p s)) [
      | inl h ↦ rw h (elim (full_or_over n e p ss) [ inl k ↦ inl (ap suc k) | inr k ↦ inr k ])
      | inr h ↦ rw h (inr (ap (λ b. cond b (s ∷ at_cut e p ss) []) h))
    ]

cut_append : (n : ℕ) (e : Bool) (p : ℕ) (ss more : List Segment) → at_cut e p (take n (at_cut e p ss) ++ more) ≡ take n (at_cut e p ss) ++ at_cut e p more
cut_append zero e p ss more = refl
cut_append (suc n) e p [] more = refl
cut_append (suc n) e p (s ∷ ss) more =
    elim (cases_Bool (is_at_cut e p s)) [
      | inl h ↦ rw h (ap (λ (z : List Segment). cond (is_at_cut e p s) (s ∷ z) []) (cut_append n e p ss more) ∙ ap (λ b. cond b (s ∷ (take n (at_cut e p ss) ++ at_cut e p more)) []) h)
      | inr h ↦ rw h refl
    ]

all_at : (p : ℕ) (ss : List Segment) → at_cut true p ss ≡ ss
all_at p [] = refl
all_at p (s ∷ ss) = ap (λ (z : List Segment). s ∷ z) (all_at p ss)

none_of_front : (e : Bool) (p : ℕ) (xs ys : List Segment) → at_cut e p (xs ++ ys) ≡ [] → at_cut e p xs ≡ []
none_of_front e p [] ys h = refl
none_of_front e p (x ∷ xs) ys h =
    elim (cases_Bool (is_at_cut e p x)) [
      | inl k ↦ absurd (no_item x (at_cut e p (xs ++ ys)) (ap (λ b. cond b (x ∷ at_cut e p (xs ++ ys)) []) (sym k) ∙ h))
      | inr k ↦ ap (λ b. cond b (x ∷ at_cut e p xs) []) k
    ]
  where
    no_item : (y : Segment) (ys : List Segment) → y ∷ ys ≡ [] → ⊥
    no_item y ys q = cc

-- the items of a front of rounds are fronts of all items
pub fronts : (place : ℕ) (fs : List Captured) (ss : List Segment) (rs more : List Round) → Rounds place fs ss (rs ++ more)
    → (u : List Captured) × (t : List Segment) × (fs ≡ frames_of rs ++ u) × (ss ≡ segments_of rs ++ t)
unfolding round_segments
fronts place fs ss [] more h = (fs, ss, refl, refl)
fronts place fs ss (r ∷ rs) more h =
    let rest = fronts (place + length r.frames) (drop (length r.frames) fs) (drop (length r.segments) ss) rs more h.3 in
    let b : r.frames ≡ take (length r.frames) fs = h.2 ∙ (frames_at place fs ss ∙ ap (λ (x : List Captured). take (length x) fs) (sym h.2)) in
    let g : r.segments ≡ take (length r.segments) ss = h.1 ∙ (sym (front_taken 256 (is_empty fs) place ss) ∙ ap (λ (x : List Segment). take (length x) ss) (sym h.1)) in
    let f : fs ≡ (r.frames ++ frames_of rs) ++ rest.0 =
    sym (take-append-drop (length r.frames) fs) ∙ (ap (λ (x : List Captured). x ++ drop (length r.frames) fs) (sym b) ∙ (ap (λ (x : List Captured). r.frames ++ x) rest.2 ∙ sym (append_assoc r.frames (frames_of rs) rest.0))) in
    let s : ss ≡ (r.segments ++ segments_of rs) ++ rest.1 =
    sym (take-append-drop (length r.segments) ss) ∙ (ap (λ (x : List Segment). x ++ drop (length r.segments) ss) (sym g) ∙ (ap (λ (x : List Segment). r.segments ++ x) rest.3 ∙ sym (append_assoc r.segments (segments_of rs) rest.1))) in
    (rest.0, rest.1, f, s)

some_of_front : (xs ys : List Captured) → is_empty xs ≡ false → is_empty (xs ++ ys) ≡ false
some_of_front [] ys h = absurd (both_ways true h refl)
some_of_front (x ∷ xs) ys h = refl

first_nil : {A : Type 0} (xs ys : List A) → xs ++ ys ≡ [] → xs ≡ []
first_nil [] ys h = refl
first_nil (x ∷ xs) ys h = cc

group_small : (e : Bool) (p : ℕ) (ss : List Segment) → length (take 256 (at_cut e p ss)) ≤ 256
group_small e p ss = omega (arith, length-take 256 (at_cut e p ss))

-- no next round begins where nothing is at the cut and no frame joins it
no_next : (place : ℕ) (fs : List Captured) (ss : List Segment) (rs more : List Round) → at_cut (is_empty fs) place ss ≡ [] → frames_of rs ≡ [] → Rounds place fs ss (rs ++ more) → segments_of rs ≡ []
unfolding round_segments
no_next place fs ss [] more over none h = refl
no_next place fs ss (r ∷ rs) more over none h =
    let b : r.frames ≡ [] = first_nil r.frames (frames_of rs) none in
    let g : r.segments ≡ [] = h.1 ∙ ap (λ (x : List Segment). take 256 x) over in
    let p = progress place fs ss h.0 in
    let i = ap length (sym h.1 ∙ g) in
    let j = ap length (sym h.2 ∙ b) in
    absurd (omega arith)

segments_part : (place : ℕ) (fs : List Captured) (ss : List Segment) (r : Round) (rs more : List Round) → Rounds place fs ss ((r ∷ rs) ++ more)
    → round_segments place (r.frames ++ frames_of rs) (r.segments ++ segments_of rs) ≡ r.segments
unfolding round_segments
segments_part place fs ss r rs more h =
    let all = fronts place fs ss (r ∷ rs) more h in
    let g = take 256 (at_cut (is_empty fs) place ss) in
    let at : r.segments ≡ g = h.1 in
    let behind = drop (length r.segments) ss in
    let rest = fronts (place + length r.frames) (drop (length r.frames) fs) behind rs more h.3 in
    let short : length r.segments ≤ 256 = rw at (group_small (is_empty fs) place ss) in
    let alone : segments_of rs ≡ [] → take 256 (r.segments ++ segments_of rs) ≡ r.segments =
    λ e. ap (λ (x : List Segment). take 256 (r.segments ++ x)) e ∙ (ap (λ (x : List Segment). take 256 x) (append-nil r.segments) ∙ take_all 256 r.segments short) in
    elim (cases_Bool (is_empty (r.frames ++ frames_of rs))) [
      | inr some ↦
          let e : is_empty fs ≡ false = ap (λ (x : List Captured). is_empty x) all.2 ∙ some_of_front (r.frames ++ frames_of rs) all.0 some in
          let cut : at_cut false place (r.segments ++ segments_of rs) ≡ r.segments ++ at_cut false place (segments_of rs) =
          subst (λ (x : List Segment). at_cut false place (x ++ segments_of rs) ≡ x ++ at_cut false place (segments_of rs)) (sym (at ∙ ap (λ b. take 256 (at_cut b place ss)) e)) (cut_append 256 false place ss (segments_of rs)) in
          rw some (ap (λ (x : List Segment). take 256 x) cut ∙ (elim (full_or_over 256 (is_empty fs) place ss) [
            | inl full ↦ take_at r.segments (at_cut false place (segments_of rs)) 256 (ap length at ∙ full)
            | inr over ↦
                let o : at_cut false place behind ≡ [] = ap (λ b. at_cut b place behind) (sym e) ∙ (ap (λ (x : List Segment). at_cut (is_empty fs) place (drop (length x) ss)) at ∙ over) in
                let z : at_cut false place (segments_of rs) ≡ [] = none_of_front false place (segments_of rs) rest.1 (ap (λ (x : List Segment). at_cut false place x) (sym rest.3) ∙ o) in
                ap (λ (x : List Segment). take 256 (r.segments ++ x)) z ∙ (ap (λ (x : List Segment). take 256 x) (append-nil r.segments) ∙ take_all 256 r.segments short)
          ]))
      | inl none ↦
          let nil = empty_is (r.frames ++ frames_of rs) none in
          let b : r.frames ≡ [] = first_nil r.frames (frames_of rs) nil in
          let f : frames_of rs ≡ [] = ap (λ (x : List Captured). x ++ frames_of rs) (sym b) ∙ nil in
          rw none (ap (λ (x : List Segment). take 256 x) (all_at place (r.segments ++ segments_of rs)) ∙ (elim (full_or_over 256 (is_empty fs) place ss) [
            | inl full ↦ take_at r.segments (segments_of rs) 256 (ap length at ∙ full)
            | inr over ↦
                let o : at_cut (is_empty fs) place behind ≡ [] = ap (λ (x : List Segment). at_cut (is_empty fs) place (drop (length x) ss)) at ∙ over in
                let here : Rounds (place + 0) fs behind (rs ++ more) = subst (λ (x : List Captured). Rounds (place + length x) (drop (length x) fs) behind (rs ++ more)) b h.3 in
                let zero_more : place ≡ place + 0 = omega arith in
                alone (no_next (place + 0) fs behind rs more (ap (λ p. at_cut (is_empty fs) p behind) (sym zero_more) ∙ o) f here)
          ]))
    ]

take_front : (w : ℕ) (fs b f u : List Captured) → b ≡ take w fs → fs ≡ (b ++ f) ++ u → take w (b ++ f) ≡ b
take_front w fs b f u e s =
    elim (cases_lt (length (b ++ f)) w) [
      | inr within ↦ sym (take-append-le w (b ++ f) u within) ∙ (ap (λ (x : List Captured). take w x) (sym s) ∙ sym e)
      | inl past ↦
          let l = ap length e in
          let k = ap length s in
          let none : f ≡ [] = nil_from_length f (omega (arith, length-take w fs, length-append (b ++ f) u, length-append b f)) in
          take_all w (b ++ f) (omega arith) ∙ (ap (λ (x : List Captured). b ++ x) none ∙ append-nil b)
    ]

frames_eq : (place : ℕ) (g s1 t : List Segment) (fs b f u : List Captured) → b ≡ take (wanted place g (s1 ++ t)) fs → fs ≡ (b ++ f) ++ u
    → ((s : Segment) (ss : List Segment) → t ≡ s ∷ ss → s1 ≡ [] → s.position ≤ place + length b → f ≡ [])
    → take (wanted place g s1) (b ++ f) ≡ b
frames_eq place g (s ∷ s1) t fs b f u e split next = take_front (wanted place g (s ∷ s1)) fs b f u e split
frames_eq place g [] [] fs b f u e split next = take_front (wanted place g []) fs b f u e split
frames_eq place g [] (s ∷ t) fs b f u e split next =
    by_start (nat_eq place 0 && not (is_empty g)) e
  where
    alone : f ≡ [] → length b ≤ 256 - place % 256 → take (256 - place % 256) (b ++ f) ≡ b
    alone none l = ap (λ (x : List Captured). take (256 - place % 256) (b ++ x)) none ∙ (ap (λ (x : List Captured). take (256 - place % 256) x) (append-nil b) ∙ take_all (256 - place % 256) b l)

    by_start : (c : Bool) → b ≡ take (cond c 0 (min (256 - place % 256) (s.position - place))) fs → take (cond c 0 (256 - place % 256)) (b ++ f) ≡ b
    by_start true q = sym q
    by_start false q =
        let l = ap length q in
        let k = ap length split in
        elim (cases_lt (s.position - place) (256 - place % 256)) [
          | inr far ↦
              let m : min (256 - place % 256) (s.position - place) ≡ 256 - place % 256 = omega arith in
              take_front (256 - place % 256) fs b f u (q ∙ ap (λ n. take n fs) m) split
          | inl near ↦
              let m : min (256 - place % 256) (s.position - place) ≡ s.position - place = omega arith in
              let size : length b ≡ min (s.position - place) (length fs) = l ∙ (ap (λ n. length (take n fs)) m ∙ length-take (s.position - place) fs) in
              alone (elim (cases_lt (length fs) (s.position - place)) [
                | inl short ↦ nil_from_length f (omega (arith, length-append (b ++ f) u, length-append b f))
                | inr long ↦ next s t refl refl (omega arith)
              ]) (omega arith)
        ]

item_not_nil : (y : Segment) (ys : List Segment) → y ∷ ys ≡ [] → ⊥
item_not_nil y ys q = cc

-- a segment at the next cut would be in the next round
next_round : (place : ℕ) (fs : List Captured) (behind : List Segment) (rs more : List Round) → Rounds place fs behind (rs ++ more)
    → (s : Segment) (ss : List Segment) → behind ≡ s ∷ ss → segments_of rs ≡ [] → s.position ≤ place → frames_of rs ≡ []
unfolding round_segments
next_round place fs behind [] more h s ss e none low = refl
next_round place fs behind (r ∷ rs) more h s ss e none low =
    let g : r.segments ≡ [] = first_nil r.segments (segments_of rs) none in
    let cut : is_at_cut (is_empty fs) place s ≡ true = or_right (is_empty fs) (nat_le s.position place) (le-leb s.position place low) in
    let q : r.segments ≡ s ∷ take 255 (at_cut (is_empty fs) place ss) = h.1 ∙ (ap (λ (x : List Segment). group (is_empty fs) place x) e ∙ first_in (is_empty fs) place s ss cut) in
    absurd (item_not_nil s (take 255 (at_cut (is_empty fs) place ss)) (sym q ∙ g))

frames_part : (place : ℕ) (fs : List Captured) (ss : List Segment) (r : Round) (rs more : List Round) → Rounds place fs ss ((r ∷ rs) ++ more)
    → round_frames place (r.frames ++ frames_of rs) (r.segments ++ segments_of rs) ≡ r.frames
unfolding round_frames
frames_part place fs ss r rs more h =
    let all = fronts place fs ss (r ∷ rs) more h in
    let behind = drop (length r.segments) ss in
    let rest = fronts (place + length r.frames) (drop (length r.frames) fs) behind rs more h.3 in
    let q = segments_part place fs ss r rs more h in
    let e : r.frames ≡ take (wanted place r.segments behind) fs = h.2 ∙ ap (λ (x : List Segment). take (wanted place x (drop (length x) ss)) fs) (sym h.1) in
    let e2 : r.frames ≡ take (wanted place r.segments (segments_of rs ++ rest.1)) fs = e ∙ ap (λ (x : List Segment). take (wanted place r.segments x) fs) rest.3 in
    ap (λ (x : List Segment). take (wanted place x (drop (length x) (r.segments ++ segments_of rs))) (r.frames ++ frames_of rs)) q
    ∙ (ap (λ (x : List Segment). take (wanted place r.segments x) (r.frames ++ frames_of rs)) (drop_at r.segments (segments_of rs) (length r.segments) refl)
    ∙ frames_eq place r.segments (segments_of rs) rest.1 fs r.frames (frames_of rs) all.0 e2 all.2
    (λ s t2 t_is none low. next_round (place + length r.frames) (drop (length r.frames) fs) behind rs more h.3 s t2 (rest.3 ∙ (ap (λ (x : List Segment). x ++ rest.1) none ∙ t_is)) none low))

pub some_item : (b f : List Captured) (g s : List Segment) → 0 < length b + length g → (is_empty (b ++ f) && is_empty (g ++ s)) ≡ false
some_item [] f [] s h = absurd (omega arith)
some_item [] f (x ∷ g) s h = and_no (is_empty f)
  where
    and_no : (c : Bool) → (c && false) ≡ false
    and_no true = refl
    and_no false = refl
some_item (x ∷ b) f g s h = refl

-- a front of rounds is the rounds of its own frames and segments
pub rounds_of_front : (place : ℕ) (fs : List Captured) (ss : List Segment) (rs more : List Round) → Rounds place fs ss (rs ++ more) → Rounds place (frames_of rs) (segments_of rs) rs
rounds_of_front place fs ss [] more h = (refl, refl)
rounds_of_front place fs ss (r ∷ rs) more h =
    let p = progress place fs ss h.0 in
    let i = ap length h.1 in
    let j = ap length h.2 in
    let tail = rounds_of_front (place + length r.frames) (drop (length r.frames) fs) (drop (length r.segments) ss) rs more h.3 in (
      some_item r.frames (frames_of rs) r.segments (segments_of rs) (omega arith),
      sym (segments_part place fs ss r rs more h),
      sym (frames_part place fs ss r rs more h),
      subst (λ (x : List Captured). Rounds (place + length r.frames) x (drop (length r.segments) (r.segments ++ segments_of rs)) rs) (sym (drop_at r.frames (frames_of rs) (length r.frames) refl))
          (subst (λ (x : List Segment). Rounds (place + length r.frames) (frames_of rs) x rs) (sym (drop_at r.segments (segments_of rs) (length r.segments) refl)) tail),
    )

below_is_front : (k : ℕ) (rs : List Round) → (more : List Round) × (rs ≡ rounds_below k rs ++ more)
below_is_front k [] = ([], refl)
below_is_front k (r ∷ rs) =
    let rest = below_is_front k rs in
    elim (are_below k r.segments) as (λ b. (more : List Round) × (r ∷ rs ≡ cond b (r ∷ rounds_below k rs) [] ++ more)) [
      | true ↦ (rest.0, ap (λ (x : List Round). r ∷ x) rest.1)
      | false ↦ (r ∷ rs, refl)
    ]

before_last_is_front : (rs : List Round) → (more : List Round) × (rs ≡ rounds_before_last rs ++ more)
before_last_is_front [] = ([], refl)
before_last_is_front (r ∷ rs) =
    let rest = before_last_is_front rs in
    elim (have_segments rs) as (λ b. (more : List Round) × (r ∷ rs ≡ cond b (r ∷ rounds_before_last rs) [] ++ more)) [
      | true ↦ (rest.0, ap (λ (x : List Round). r ∷ x) rest.1)
      | false ↦ (r ∷ rs, refl)
    ]

pub counted_is_front : (k : ℕ) (a : RunEnd) (rs : List Round) → (more : List Round) × (rs ≡ counted k a rs ++ more)
counted_is_front k ends.Whole rs = ([], sym (append-nil rs))
counted_is_front k (ends.Capture e) rs = below_is_front k rs
counted_is_front k (ends.Control e) rs = before_last_is_front rs

-- the rounds that count are the rounds of the frames and segments that count
pub rounds_of_counted : (k : ℕ) (a : RunEnd) (fs : List Captured) (ss : List Segment) (rs : List Round) → Rounds 0 fs ss rs
    → Rounds 0 (frames_of (counted k a rs)) (segments_of (counted k a rs)) (counted k a rs)
rounds_of_counted k a fs ss rs h =
    let f = counted_is_front k a rs in
    rounds_of_front 0 fs ss (counted k a rs) f.0 (subst (λ (x : List Round). Rounds 0 fs ss x) f.1 h)
