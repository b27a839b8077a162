-- One part more: the bytes so far, what fits, and where one is refused.
use Rattle.std.proofs.Common.{◌≡◌, ℕ, ◌+◌, ◌-◌, ◌<◌, List, [], ◌∷◌, ◌++◌, length, inl, inr, refl, sym, ap, subst, ◌∙◌, append_assoc, arith}
use Rattle.std.specs.List.{flat_map, AllByRecursion}
use Rattle.std.proofs.lemmas.List.{length-append, append-nil}
use Rattle.std.proofs.lemmas.Grind.{flat_map-append}
use Rattle.sfp_attribute.specs.declared.faults.SfpFault.{SfpFault}
use Rattle.sfp_attribute.specs.declared.faults.SfpFault.TheVariants as faults
use Rattle.sfp_attribute.specs.declared.levels.Level.TheVariants as levels
use Rattle.sfp_attribute.specs.declared.sfps.HopPart.{HopPart}
use Rattle.sfp_attribute.specs.declared.sfps.Part.{Part}
use Rattle.sfp_attribute.specs.Sfps.{piece_bytes, hop_part_value, hop_part_bytes, HopPartFits, hop_parts_bytes, HopPartsFit, part_value, part_bytes, PartFits, parts_bytes, si_of, sis, FallFrom, PartsFit}
use Rattle.sfp_attribute.specs.Refusals.{Splits, RefusedHopPart, RefusedHopParts, RefusedInside, RefusedPart, RefusedParts, last_of, HasNoHop, Refused}
use Rattle.sfp_attribute.specs.Steps.{Tells, SplitsPart, ReadsHopPart, ReadsPart}

-- ---- lists

-- what holds of each of some and of one more
all_with : {X : Type 0} (P : X → Type 0) (xs : List X) (x : X) → AllByRecursion P xs → P x → AllByRecursion P (xs ++ x ∷ [])
all_with P [] x each one = (one, tt)
all_with P (y ∷ xs) x each one = (each.0, all_with P xs x each.1 one)

-- the bytes of the pieces before, of one more, and of what follows
bytes_with : {X : Type 0} (f : X → List ℕ) (before : List X) (x : X) (more : List ℕ) → flat_map f before ++ (f x ++ more) ≡ flat_map f (before ++ x ∷ []) ++ more
bytes_with f before x more =
    sym (append_assoc (flat_map f before) (f x) more)
    ∙ ap (λ (l : List ℕ). l ++ more) (ap (λ (l : List ℕ). flat_map f before ++ l) (sym (append-nil (f x))) ∙ sym (flat_map-append f before (x ∷ [])))

pub last_of-append : (bound : ℕ) (xs ys : List ℕ) → last_of bound (xs ++ ys) ≡ last_of (last_of bound xs) ys
last_of-append bound [] ys = refl
last_of-append bound (x ∷ xs) ys = last_of-append x xs ys

pub FallFrom-append : (bound : ℕ) (xs ys : List ℕ) → FallFrom bound xs → FallFrom (last_of bound xs) ys → FallFrom bound (xs ++ ys)
FallFrom-append bound [] ys fx fy = fy
FallFrom-append bound (x ∷ xs) ys fx fy = (fx.0, FallFrom-append x xs ys fx.1 fy)

pub FallFrom-parts : (bound : ℕ) (xs ys : List ℕ) → FallFrom bound (xs ++ ys) → FallFrom bound xs × FallFrom (last_of bound xs) ys
FallFrom-parts bound [] ys f = (tt, f)
FallFrom-parts bound (x ∷ xs) ys f =
    let rest = FallFrom-parts x xs ys f.1 in
    ((f.0, rest.0), rest.1)

sis_with : (before : List Part) (p : Part) → sis (before ++ p ∷ []) ≡ sis before ++ si_of p
sis_with before p = flat_map-append si_of before (p ∷ []) ∙ ap (λ (l : List ℕ). sis before ++ l) (append-nil (si_of p))

-- ---- the parts of a hop

hop_part_is : (p : HopPart) (bytes : List ℕ) (kind : ℕ) (value more : List ℕ) → bytes ≡ piece_bytes kind value ++ more → ReadsHopPart kind value p → bytes ≡ hop_part_bytes p ++ more
hop_part_is p bytes kind value more split reads =
    subst (λ (k : ℕ). bytes ≡ piece_bytes k (hop_part_value p) ++ more) (sym reads.kind_is)
    (subst (λ (v : List ℕ). bytes ≡ piece_bytes kind v ++ more) (sym reads.value_is) split)

-- the part that was cut off fits, and stands behind those before
pub hop_step : (bytes : List ℕ) (before : List HopPart) (rest : List ℕ) (p : HopPart) (kind : ℕ) (value more : List ℕ) → bytes ≡ hop_parts_bytes before ++ rest
    → HopPartsFit before → rest ≡ piece_bytes kind value ++ more → ReadsHopPart kind value p
    → (bytes ≡ hop_parts_bytes (before ++ p ∷ []) ++ more) × HopPartsFit (before ++ p ∷ [])
hop_step bytes before rest p kind value more split fit cut reads = (
  split ∙ ap (λ (l : List ℕ). hop_parts_bytes before ++ l) (hop_part_is p rest kind value more cut reads) ∙ bytes_with hop_part_bytes before p more,
  all_with HopPartFits before p fit reads.fits,
)

-- what is refused stands behind the good parts
pub hop_refused : (start : ℕ) (bytes : List ℕ) (before : List HopPart) (rest : List ℕ) (fault : SfpFault) → bytes ≡ hop_parts_bytes before ++ rest → HopPartsFit before
    → 0 < length rest → RefusedHopPart (start + (length bytes - length rest)) rest fault → RefusedHopParts start bytes fault
hop_refused start bytes before rest fault split fit some first =
    let place : start + (length bytes - length rest) ≡ start + length (hop_parts_bytes before) = omega (arith, ap length split, length-append (hop_parts_bytes before) rest) in
    record { good = before; fit = fit; bad = rest; split = split; some = some; first = subst (λ (at : ℕ). RefusedHopPart at rest fault) place first }

-- ---- the parts of an attribute

part_is : (p : Part) (bytes : List ℕ) (bound kind : ℕ) (value more : List ℕ) → bytes ≡ piece_bytes kind value ++ more → ReadsPart bound kind value p → bytes ≡ part_bytes p ++ more
part_is p bytes bound kind value more split reads =
    subst (λ (k : ℕ). bytes ≡ piece_bytes k (part_value p) ++ more) (sym reads.kind_is)
    (subst (λ (v : List ℕ). bytes ≡ piece_bytes kind v ++ more) (sym reads.value_is) split)

-- what is known of the parts so far, of what is still to read, and of the bound of the next hop
pub record ReadSoFar (bytes : List ℕ) (before : List Part) (rest : List ℕ) (bound : ℕ) : Type 0 where
  pub split : bytes ≡ parts_bytes before ++ rest
  pub fit : PartsFit before
  pub last : bound ≡ last_of 256 (sis before)

-- the part that was cut off fits, and stands behind those before
pub part_step : (bytes : List ℕ) (before : List Part) (rest : List ℕ) (bound : ℕ) (p : Part) (kind : ℕ) (value more : List ℕ) → ReadSoFar bytes before rest bound
    → rest ≡ piece_bytes kind value ++ more → ReadsPart bound kind value p → ReadSoFar bytes (before ++ p ∷ []) more (last_of bound (si_of p))
part_step bytes before rest bound p kind value more so_far cut reads =
    let falls : FallFrom (last_of 256 (sis before)) (si_of p) = subst (λ (b : ℕ). FallFrom b (si_of p)) so_far.last reads.falls in
    record {
      split = so_far.split ∙ ap (λ (l : List ℕ). parts_bytes before ++ l) (part_is p rest bound kind value more cut reads) ∙ bytes_with part_bytes before p more;
      fit = record {
        each = all_with PartFits before p so_far.fit.each reads.fits;
        falls = subst (FallFrom 256) (sym (sis_with before p)) (FallFrom-append 256 (sis before) (si_of p) so_far.fit.falls falls);
      };
      last = ap (λ (b : ℕ). last_of b (si_of p)) so_far.last ∙ sym (last_of-append 256 (sis before) (si_of p)) ∙ ap (last_of 256) (sym (sis_with before p));
    }

-- what is refused stands behind the good parts
pub part_refused : (bytes : List ℕ) (before : List Part) (rest : List ℕ) (bound : ℕ) (fault : SfpFault) → ReadSoFar bytes before rest bound → 0 < length rest
    → RefusedPart (length bytes - length rest) bound rest fault → RefusedParts bytes fault
part_refused bytes before rest bound fault so_far some first =
    let place : length bytes - length rest ≡ length (parts_bytes before) = omega (arith, ap length so_far.split, length-append (parts_bytes before) rest) in
    record {
      good = before;
      fit = so_far.fit;
      bad = rest;
      split = so_far.split;
      some = some;
      first = subst (λ (b : ℕ). RefusedPart (length (parts_bytes before)) b rest fault) so_far.last (subst (λ (at : ℕ). RefusedPart at bound rest fault) place first);
    }

-- the bound is the first where no hop was read, and below it where there was one
pub last_below : (bound : ℕ) (ns : List ℕ) → FallFrom bound ns → (ns ≡ [] → ⊥) → last_of bound ns < bound
last_below bound [] falls some = absurd (some refl)
last_below bound (n ∷ []) falls some = falls.0
last_below bound (n ∷ m ∷ ns) falls some = omega (arith, falls.0, last_below n (m ∷ ns) falls.1 (λ e. cc))

pub none_where_first : (bound : ℕ) (ns : List ℕ) → FallFrom bound ns → last_of bound ns ≡ bound → ns ≡ []
none_where_first bound [] falls e = refl
none_where_first bound (n ∷ ns) falls e = absurd (omega (arith, e, last_below bound (n ∷ ns) falls (λ none. cc)))

-- no further bytes, and no hop was read
pub no_hop : (bytes : List ℕ) (before : List Part) (rest : List ℕ) (bound : ℕ) → ReadSoFar bytes before rest bound → length rest ≡ 0 → bound ≡ 256 → HasNoHop bytes faults.NoHop
no_hop bytes before [] bound so_far none first = record {
  good = before;
  fit = so_far.fit;
  spelled = so_far.split ∙ append-nil (parts_bytes before);
  none = none_where_first 256 (sis before) so_far.fit.falls (sym so_far.last ∙ first);
  told = refl;
}
no_hop bytes before (b ∷ rest) bound so_far none first = absurd (omega (arith, none))

-- what is refused in a hop stands behind the good parts
pub inside_refused : (bytes : List ℕ) (before : List Part) (rest : List ℕ) (bound kind : ℕ) (value more : List ℕ) (fault : SfpFault) → ReadSoFar bytes before rest bound
    → SplitsPart levels.Top rest kind value more → Tells (λ told. (kind ≡ 2) × RefusedInside (length bytes - length rest) bound value told) fault → Tells (λ told. Refused bytes told) fault
inside_refused bytes before rest bound kind value more fault so_far cut (inl none) = inl none
inside_refused bytes before rest bound kind value more fault so_far cut (inr row) =
    let whole : Splits rest 2 value more = subst (λ (k : ℕ). Splits rest k value more) row.0 (record { parts = cut.parts; size = cut.allowed.size }) in
    inr (inl (part_refused bytes before rest bound fault so_far (omega (arith, ap length cut.parts)) (inr (record { value = value; more = more; whole = whole; row = row.1 }))))
