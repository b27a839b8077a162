-- Two readings of one value are one, and so is what is refused in it.
use Rattle.std.proofs.Common.{◌≡◌, ◌≢◌, ℕ, ◌+◌, ◌*◌, ◌<◌, ◌≤◌, List, [], ◌∷◌, ◌++◌, length, get_or, drop, refl, sym, ap, subst, ◌∙◌, inl, inr, ◌⊎◌, arith}
use Rattle.std.specs.List.{flat_map, AllByRecursion}
use Rattle.std.proofs.lemmas.List.{append-nil, length-append}
use Rattle.wire_base.specs.declared.next_hops.NextHop.{NextHop}
use Rattle.wire_base.specs.declared.next_hops.NextHop.TheVariants as hops
use Rattle.bgp_update.specs.declared.routes.Nlri.{Nlri}
use Rattle.bgp_update.specs.declared.attributes.Body.{Body}
use Rattle.bgp_update.specs.declared.attributes.Body.TheVariants as bodies
use Rattle.bgp_update.specs.declared.attributes.MpReach.{MpReach}
use Rattle.bgp_update.specs.declared.attributes.MpUnreach.{MpUnreach}
use Rattle.bgp_update.specs.Nlris.{list_bytes}
use Rattle.bgp_update.specs.Attributes.{family, hop_bytes, HopFits, reach_bytes, body_bytes, IsReachability, HasCommunities, BodyFits}
use Rattle.bgp_update.specs.Refusals.{BadReach, SplitsReach, RefusedList, RefusedReach, RefusedValue}
use Rattle.wire_base.proofs.SplitLemmas.{Reads, same_parts, one_split}
use Rattle.bgp_update.proofs.NlriReadings.{one_list_whole, good_list, one_list_told}

-- ---- communities

abbrev Piece : List ℕ → Type 0
Piece c = length c ≡ 8

abbrev End : List ℕ → Type 0
End bytes = bytes ≡ []

same_piece : (c d r s : List ℕ) → Piece c → Piece d → c ++ r ≡ d ++ s → (c ≡ d) × (r ≡ s)
same_piece c d r s fc fd e = same_parts c d r s (fc ∙ sym fd) e

piece_ended : (c r : List ℕ) → Piece c → End (c ++ r) → ⊥
piece_ended c r f e = omega (arith, ap length e, length-append c r, f)

pieces_read : Reads (λ (c : List ℕ). c) Piece End
pieces_read = record { same = same_piece; ended = piece_ended }

one_pieces : (cs ds : List (List ℕ)) → AllByRecursion Piece cs → AllByRecursion Piece ds → flat_map (λ (c : List ℕ). c) cs ≡ flat_map (λ (c : List ℕ). c) ds → cs ≡ ds
one_pieces cs ds fc fd e =
    let one = one_split (λ (c : List ℕ). c) Piece End pieces_read cs ds [] [] fc fd refl refl
    (append-nil (flat_map (λ (c : List ℕ). c) cs) ∙ e ∙ sym (append-nil (flat_map (λ (c : List ℕ). c) ds))) in
    one.0

pieces_length : (cs : List (List ℕ)) → AllByRecursion Piece cs → length (flat_map (λ (c : List ℕ). c) cs) ≡ 8 * length cs
pieces_length [] f = refl
pieces_length (c ∷ cs) f = omega (arith, length-append c (flat_map (λ (d : List ℕ). d) cs), f.0, pieces_length cs f.1)

some_pieces : (cs : List (List ℕ)) → cs ≢ [] → 0 < length cs
some_pieces [] some = absurd (some refl)
some_pieces (c ∷ cs) some = omega arith

communities_there : (flags : ℕ) (cs : List (List ℕ)) → BodyFits flags 16 (bodies.Communities cs) → HasCommunities flags (flat_map (λ (c : List ℕ). c) cs)
communities_there flags cs f =
    let size = pieces_length cs f.3 in
    let some = some_pieces cs f.2 in
    record { shared = f.1; pieces = omega (arith, size); some = omega (arith, size, some) }

-- ---- the head of kind 14

one_hop : (h k : NextHop) → HopFits h → HopFits k → hop_bytes h ≡ hop_bytes k → h ≡ k
one_hop (hops.Four a) (hops.Four b) fh fk e = ap hops.Four e
one_hop (hops.Sixteen a) (hops.Sixteen b) fh fk e = ap hops.Sixteen e
one_hop (hops.Four a) (hops.Sixteen b) fh fk e = absurd (omega (arith, ap length e, fh, fk))
one_hop (hops.Sixteen a) (hops.Four b) fh fk e = absurd (omega (arith, ap length e, fh, fk))

record SameHead (h k : NextHop) (reserved reserved' : ℕ) (list list' : List ℕ) : Type 0 where
  hop_is : h ≡ k
  reserved_is : reserved ≡ reserved'
  list_is : list ≡ list'

same_head : (behind : List ℕ) (h k : NextHop) (reserved reserved' : ℕ) (list list' : List ℕ) → SplitsReach behind h reserved list → SplitsReach behind k reserved' list'
    → SameHead h k reserved reserved' list list'
same_head behind h k reserved reserved' list list' a b =
    let joined = sym a.parts ∙ b.parts in
    let sizes : length (hop_bytes h) ≡ length (hop_bytes k) = ap (λ (l : List ℕ). get_or l 0 0) joined in
    let tails : hop_bytes h ++ reserved ∷ list ≡ hop_bytes k ++ reserved' ∷ list' = ap (λ (l : List ℕ). drop 1 l) joined in
    let parts = same_parts (hop_bytes h) (hop_bytes k) (reserved ∷ list) (reserved' ∷ list') sizes tails in
    let rests : reserved ∷ list ≡ reserved' ∷ list' = parts.1 in
    record { hop_is = one_hop h k a.fits b.fits parts.0; reserved_is = cc; list_is = cc }

hop_length : (h : NextHop) → HopFits h → (length (hop_bytes h) ≡ 4) ⊎ (length (hop_bytes h) ≡ 16)
hop_length (hops.Four a) f = inl f
hop_length (hops.Sixteen a) f = inr f

good_head : (behind : List ℕ) (h : NextHop) (reserved : ℕ) (list : List ℕ) → SplitsReach behind h reserved list → BadReach behind → ⊥
good_head behind h reserved list s (inl short) = omega (arith, ap length s.parts, length-append (hop_bytes h) (reserved ∷ list), short)
good_head behind h reserved list s (inr (inl other)) =
    let size : get_or behind 0 0 ≡ length (hop_bytes h) = ap (λ (l : List ℕ). get_or l 0 0) s.parts in
    elim (hop_length h s.fits) [ inl four ↦ other.0 (size ∙ four) | inr sixteen ↦ other.1 (size ∙ sixteen) ]
good_head behind h reserved list s (inr (inr short)) =
    let size : get_or behind 0 0 ≡ length (hop_bytes h) = ap (λ (l : List ℕ). get_or l 0 0) s.parts in
    omega (arith, ap length s.parts, length-append (hop_bytes h) (reserved ∷ list), short, size)

head_of : (r : MpReach) → HopFits r.next_hop → SplitsReach (reach_bytes r) r.next_hop r.reserved (list_bytes r.nlri)
head_of r f = record { parts = refl; fits = f }

-- ---- values

one_reach : (flags : ℕ) (r s : MpReach) → BodyFits flags 14 (bodies.Reach r) → BodyFits flags 14 (bodies.Reach s) → body_bytes (bodies.Reach r) ≡ body_bytes (bodies.Reach s) → r ≡ s
one_reach flags r s fr fs e =
    let behind : reach_bytes r ≡ reach_bytes s = ap (λ (l : List ℕ). drop 3 l) e in
    let heads = same_head (reach_bytes r) r.next_hop s.next_hop r.reserved s.reserved (list_bytes r.nlri) (list_bytes s.nlri) (head_of r fr.1)
    (subst (λ (b : List ℕ). SplitsReach b s.next_hop s.reserved (list_bytes s.nlri)) (sym behind) (head_of s fs.1)) in
    let hop_is : r.next_hop ≡ s.next_hop = heads.hop_is in
    let reserved_is : r.reserved ≡ s.reserved = heads.reserved_is in
    let lists : r.nlri ≡ s.nlri = one_list_whole r.nlri s.nlri fr.2 fs.2 heads.list_is in
    let made : (h : NextHop) (n : ℕ) (rs : List Nlri) → MpReach = λ h n rs. record { next_hop = h; reserved = n; nlri = rs } in
    let whole : made r.next_hop r.reserved r.nlri ≡ made s.next_hop s.reserved s.nlri = cc in
    whole

one_unreach : (flags : ℕ) (r s : MpUnreach) → BodyFits flags 15 (bodies.Unreach r) → BodyFits flags 15 (bodies.Unreach s) → body_bytes (bodies.Unreach r) ≡ body_bytes (bodies.Unreach s) → r ≡ s
one_unreach flags r s fr fs e =
    let lists : r.nlri ≡ s.nlri = one_list_whole r.nlri s.nlri fr.1 fs.1 (ap (λ (l : List ℕ). drop 3 l) e) in
    let made : (rs : List Nlri) → MpUnreach = λ rs. record { nlri = rs } in
    let whole : made r.nlri ≡ made s.nlri = ap made lists in
    whole

pub one_body : (flags kind : ℕ) (b c : Body) → BodyFits flags kind b → BodyFits flags kind c → body_bytes b ≡ body_bytes c → b ≡ c
one_body flags kind (bodies.Reach r) (bodies.Reach s) fb fc e =
    ap bodies.Reach (one_reach flags r s (refl, fb.1, fb.2) (refl, fc.1, fc.2) e)
one_body flags kind (bodies.Unreach r) (bodies.Unreach s) fb fc e =
    ap bodies.Unreach (one_unreach flags r s (refl, fb.1) (refl, fc.1) e)
one_body flags kind (bodies.Communities cs) (bodies.Communities ds) fb fc e = ap bodies.Communities (one_pieces cs ds fb.3 fc.3 e)
one_body flags kind (bodies.Raw x) (bodies.Raw y) fb fc e = ap bodies.Raw e
one_body flags kind (bodies.Reach r) (bodies.Unreach s) fb fc e = absurd (omega (arith, fb.0, fc.0))
one_body flags kind (bodies.Reach r) (bodies.Communities ds) fb fc e = absurd (omega (arith, fb.0, fc.0))
one_body flags kind (bodies.Reach r) (bodies.Raw y) fb fc e = absurd (fc.other_family (inl fb.0) (reach_bytes r, sym e))
one_body flags kind (bodies.Unreach r) (bodies.Reach s) fb fc e = absurd (omega (arith, fb.0, fc.0))
one_body flags kind (bodies.Unreach r) (bodies.Communities ds) fb fc e = absurd (omega (arith, fb.0, fc.0))
one_body flags kind (bodies.Unreach r) (bodies.Raw y) fb fc e = absurd (fc.other_family (inr fb.0) (list_bytes r.nlri, sym e))
one_body flags kind (bodies.Communities cs) (bodies.Reach s) fb fc e = absurd (omega (arith, fb.0, fc.0))
one_body flags kind (bodies.Communities cs) (bodies.Unreach s) fb fc e = absurd (omega (arith, fb.0, fc.0))
one_body flags kind (bodies.Communities cs) (bodies.Raw y) fb fc e =
    absurd (fc.no_communities fb.0 (subst (HasCommunities flags) e (communities_there flags cs (refl, fb.1, fb.2, fb.3))))
one_body flags kind (bodies.Raw x) (bodies.Reach s) fb fc e = absurd (fb.other_family (inl fc.0) (reach_bytes s, e))
one_body flags kind (bodies.Raw x) (bodies.Unreach s) fb fc e = absurd (fb.other_family (inr fc.0) (list_bytes s.nlri, e))
one_body flags kind (bodies.Raw x) (bodies.Communities ds) fb fc e =
    absurd (fb.no_communities fc.0 (subst (HasCommunities flags) (sym e) (communities_there flags ds (refl, fc.1, fc.2, fc.3))))

-- ---- refused, or a value

not_short : (flags kind : ℕ) (b : Body) → BodyFits flags kind b → IsReachability kind → length (body_bytes b) < 3 → ⊥
not_short flags kind (bodies.Reach r) f k short = omega (arith, short)
not_short flags kind (bodies.Unreach r) f k short = omega (arith, short)
not_short flags kind (bodies.Communities cs) f (inl k) short = omega (arith, f.0, k)
not_short flags kind (bodies.Communities cs) f (inr k) short = omega (arith, f.0, k)
not_short flags kind (bodies.Raw x) f k short = omega (arith, f.family_there k, short)

good_reach : (start header : ℕ) (r : MpReach) (flags place : ℕ) → BodyFits flags 14 (bodies.Reach r) → RefusedReach start header (reach_bytes r) place → ⊥
good_reach start header r flags place f (inl bad) = good_head (reach_bytes r) r.next_hop r.reserved (list_bytes r.nlri) (head_of r f.1) bad.0
good_reach start header r flags place f (inr row) =
    let heads = same_head (reach_bytes r) row.0 r.next_hop row.1 r.reserved row.2 (list_bytes r.nlri) row.3 (head_of r f.1) in
    good_list (start + header + 5 + length (hop_bytes row.0)) r.nlri place f.2
    (subst (λ (l : List ℕ). RefusedList (start + header + 5 + length (hop_bytes row.0)) l place) heads.list_is row.4)

pub good_body : (start header flags kind : ℕ) (b : Body) (place : ℕ) → BodyFits flags kind b → RefusedValue start header kind (body_bytes b) place → ⊥
good_body start header flags kind b place f (inl row) = not_short flags kind b f row.0 row.1
good_body start header flags kind (bodies.Reach r) place f (inr (inl row)) =
    let behind : reach_bytes r ≡ row.1 = ap (λ (l : List ℕ). drop 3 l) row.2 in
    good_reach start header r flags place (refl, f.1, f.2) (subst (λ (l : List ℕ). RefusedReach start header l place) (sym behind) row.3)
good_body start header flags kind (bodies.Unreach r) place f (inr (inl row)) = omega (arith, f.0, row.0)
good_body start header flags kind (bodies.Communities cs) place f (inr (inl row)) = omega (arith, f.0, row.0)
good_body start header flags kind (bodies.Raw x) place f (inr (inl row)) = f.other_family (inl row.0) (row.1, row.2)
good_body start header flags kind (bodies.Reach r) place f (inr (inr row)) = omega (arith, f.0, row.0)
good_body start header flags kind (bodies.Unreach r) place f (inr (inr row)) =
    let behind : list_bytes r.nlri ≡ row.1 = ap (λ (l : List ℕ). drop 3 l) row.2 in
    good_list (start + header + 3) r.nlri place f.1 (subst (λ (l : List ℕ). RefusedList (start + header + 3) l place) (sym behind) row.3)
good_body start header flags kind (bodies.Communities cs) place f (inr (inr row)) = omega (arith, f.0, row.0)
good_body start header flags kind (bodies.Raw x) place f (inr (inr row)) = f.other_family (inr row.0) (row.1, row.2)

-- ---- one refusal

one_reach_told : (start header : ℕ) (behind : List ℕ) (p q : ℕ) → RefusedReach start header behind p → RefusedReach start header behind q → p ≡ q
one_reach_told start header behind p q (inl a) (inl b) = a.1 ∙ sym b.1
one_reach_told start header behind p q (inl a) (inr b) = absurd (good_head behind b.0 b.1 b.2 b.3 a.0)
one_reach_told start header behind p q (inr a) (inl b) = absurd (good_head behind a.0 a.1 a.2 a.3 b.0)
one_reach_told start header behind p q (inr a) (inr b) =
    let heads = same_head behind a.0 b.0 a.1 b.1 a.2 b.2 a.3 b.3 in
    one_list_told (start + header + 5 + length (hop_bytes b.0)) b.2 p q
    (subst (λ (h : NextHop). RefusedList (start + header + 5 + length (hop_bytes h)) b.2 p) heads.hop_is
    (subst (λ (l : List ℕ). RefusedList (start + header + 5 + length (hop_bytes a.0)) l p) heads.list_is a.4))
    b.4

has_three : (value behind : List ℕ) → value ≡ family ++ behind → 3 ≤ length value
has_three value behind e = omega (arith, ap length e)

pub one_value_told : (start header kind : ℕ) (value : List ℕ) (p q : ℕ) → RefusedValue start header kind value p → RefusedValue start header kind value q → p ≡ q
one_value_told start header kind value p q (inl a) (inl b) = a.2 ∙ sym b.2
one_value_told start header kind value p q (inl a) (inr (inl b)) = absurd (omega (arith, a.1, has_three value b.1 b.2))
one_value_told start header kind value p q (inl a) (inr (inr b)) = absurd (omega (arith, a.1, has_three value b.1 b.2))
one_value_told start header kind value p q (inr (inl a)) (inl b) = absurd (omega (arith, b.1, has_three value a.1 a.2))
one_value_told start header kind value p q (inr (inr a)) (inl b) = absurd (omega (arith, b.1, has_three value a.1 a.2))
one_value_told start header kind value p q (inr (inl a)) (inr (inr b)) = absurd (omega (arith, a.0, b.0))
one_value_told start header kind value p q (inr (inr a)) (inr (inl b)) = absurd (omega (arith, a.0, b.0))
one_value_told start header kind value p q (inr (inl a)) (inr (inl b)) =
    let behind : a.1 ≡ b.1 = ap (λ (l : List ℕ). drop 3 l) (sym a.2 ∙ b.2) in
    one_reach_told start header b.1 p q (subst (λ (l : List ℕ). RefusedReach start header l p) behind a.3) b.3
one_value_told start header kind value p q (inr (inr a)) (inr (inr b)) =
    let behind : a.1 ≡ b.1 = ap (λ (l : List ℕ). drop 3 l) (sym a.2 ∙ b.2) in
    one_list_told (start + header + 3) b.1 p q (subst (λ (l : List ℕ). RefusedList (start + header + 3) l p) behind a.3) b.3
