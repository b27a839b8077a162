-- Lookups over lists of tables that grow.
use Rattle.std.proofs.Common.{◌≡◌, ℕ, ◌≤◌, ◌==◌, Bool, true, false, List, [], ◌∷◌, ◌++◌, map, Option, Some, refl, sym, ap, subst, ◌∙◌, append_assoc, cond}
use Rattle.path_selection.specs.Paths.{ServicePath}
use Rattle.path_selection.specs.Published.{Published, StartsWith, table_at}
use Rattle.forwarder.specs.Records.{Climbs, Looks}

pub starts_with_trans : {A : Type 0} (x y z : List A) → StartsWith z y → StartsWith y x → StartsWith z x
starts_with_trans x y z g h = (h.0 ++ g.0, g.1 ∙ ap (λ l. l ++ g.0) h.1 ∙ append_assoc x h.0 g.0)

found_either : (b : Bool) (here t : List ServicePath) (short long : Option (List ServicePath)) → (short ≡ Some t → long ≡ Some t)
    → (cond b (Some here) short) ≡ Some t → (cond b (Some here) long) ≡ Some t
found_either true here t short long on e = e
found_either false here t short long on e = on e

-- a table stays under its version where the list grows
table_at-longer : (known more : List Published) (v : ℕ) (t : List ServicePath) → table_at known v ≡ Some t → table_at (known ++ more) v ≡ Some t
table_at-longer [] more v t e = absurd (cc)
table_at-longer (p ∷ ps) more v t e = found_either (p.version == v) p.table t (table_at ps v) (table_at (ps ++ more) v) (table_at-longer ps more v t) e

named_longer : (known more : List Published) (vs : List ℕ) (ts : List (List ServicePath)) → map (table_at known) vs ≡ map Some ts → map (table_at (known ++ more)) vs ≡ map Some ts
named_longer known more [] ts e = e
named_longer known more (v ∷ vs) [] e = absurd (cc)
named_longer known more (v ∷ vs) (t ∷ ts) e =
    let here : table_at known v ≡ Some t = cc in
    let rest : map (table_at known) vs ≡ map Some ts = cc in
    let here' = table_at-longer known more v t here in
    let rest' = named_longer known more vs ts rest in
    λ i. here' i ∷ rest' i

pub named_grown : (known now : List Published) (vs : List ℕ) (ts : List (List ServicePath)) → StartsWith now known → map (table_at known) vs ≡ map Some ts → map (table_at now) vs ≡ map Some ts
named_grown known now vs ts grows e = subst (λ (k : List Published). map (table_at k) vs ≡ map Some ts) (sym grows.1) (named_longer known grows.0 vs ts e)

named_snoc : (known : List Published) (vs : List ℕ) (ts : List (List ServicePath)) (v : ℕ) (t : List ServicePath) → map (table_at known) vs ≡ map Some ts → table_at known v ≡ Some t
    → map (table_at known) (vs ++ v ∷ []) ≡ map Some (ts ++ t ∷ [])
named_snoc known [] [] v t e h = λ i. h i ∷ []
named_snoc known [] (x ∷ ts) v t e h = absurd (cc)
named_snoc known (w ∷ vs) [] v t e h = absurd (cc)
named_snoc known (w ∷ vs) (x ∷ ts) v t e h =
    let here : table_at known w ≡ Some x = cc in
    let rest : map (table_at known) vs ≡ map Some ts = cc in
    let rest' = named_snoc known vs ts v t rest h in
    λ i. here i ∷ rest' i

climbs_on : (before : ℕ) (vs : List ℕ) (after v : ℕ) → Climbs before vs after → after ≤ v → Climbs before (vs ++ v ∷ []) v
climbs_on before [] after v e h = (subst (λ (a : ℕ). a ≤ v) e h, refl)
climbs_on before (w ∷ vs) after v c h = (c.0, climbs_on w vs after v c.1 h)

-- one lookup more
pub look_more : (known now : List Published) (before after later v : ℕ) (vs vs' : List ℕ) (ts : List (List ServicePath)) (t : List ServicePath)
    → Looks known before vs ts after → StartsWith now known → after ≤ v → later ≡ v → vs' ≡ vs ++ v ∷ [] → table_at now v ≡ Some t
    → Looks now before vs' (ts ++ t ∷ []) later
look_more known now before after later v vs vs' ts t looks grows up is longer at =
    let one : Looks now before (vs ++ v ∷ []) (ts ++ t ∷ []) v = record {
      named = named_snoc now vs ts v t (named_grown known now vs ts grows looks.named) at;
      climbs = climbs_on before vs after v looks.climbs up;
    } in
    subst (λ (l : List ℕ). Looks now before l (ts ++ t ∷ []) later) (sym longer) (subst (λ (n : ℕ). Looks now before (vs ++ v ∷ []) (ts ++ t ∷ []) n) (sym is) one)

-- the same lookups, over a list that grew
pub looks_grown : (known now : List Published) (before after : ℕ) (vs : List ℕ) (ts : List (List ServicePath)) → Looks known before vs ts after → StartsWith now known → Looks now before vs ts after
looks_grown known now before after vs ts looks grows = record { named = named_grown known now vs ts grows looks.named; climbs = looks.climbs }
