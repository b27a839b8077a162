-- What a worker forwarded: where more tables are known, frame by frame, and in two pieces.
use Rattle.std.specs.Prelude.{MatchBool}
use Rattle.std.proofs.Common.{◌≡◌, ℕ, ◌+◌, ◌≤◌, Bool, true, false, List, [], ◌∷◌, ◌++◌, Option, Some, length, map, refl, sym, ap, subst, ◌∙◌, arith, le_refl, append-nil}
use Rattle.path_selection.specs.Paths.{ServicePath}
use Rattle.path_selection.specs.Published.{Published, StartsWith, table_at}
use Rattle.sfc_config.specs.Parts.{Parts}
use Rattle.forwarder.specs.Records.{Climbs}
use Rattle.forwarder.proofs.LookLemmas.{named_grown}
use Rattle.worker_run.specs.Batches.{Carried}
use Rattle.worker_run.specs.Shares.{AreWalked, AreWalkedTo, Walked}

-- ---- more tables

-- what is known under a version in one list is known under it in the other
abbrev pub IsWithin : List Published → List Published → Type 0
IsWithin known now = (v : ℕ) (t : List ServicePath) → table_at known v ≡ Some t → table_at now v ≡ Some t

pub within_grown : (known now : List Published) → StartsWith now known → IsWithin known now
within_grown known now grows = λ v t e.
    let one : map (table_at known) (v ∷ []) ≡ map Some (t ∷ []) = ap (λ (o : Option (List ServicePath)). o ∷ []) e in
    let same : map (table_at now) (v ∷ []) ≡ map Some (t ∷ []) = named_grown known now (v ∷ []) (t ∷ []) grows one in
    cc

named_within : (known now : List Published) (vs : List ℕ) (ts : List (List ServicePath)) → IsWithin known now → map (table_at known) vs ≡ map Some ts → map (table_at now) vs ≡ map Some ts
named_within known now [] [] within e = refl
named_within known now [] (t ∷ ts) within e = absurd (cc)
named_within known now (v ∷ vs) [] within e = absurd (cc)
named_within known now (v ∷ vs) (t ∷ ts) within e =
    let here : table_at known v ≡ Some t = cc in
    let rest : map (table_at known) vs ≡ map Some ts = cc in
    let here' = within v t here in
    let rest' = named_within known now vs ts within rest in
    λ k. here' k ∷ rest' k

pub walked_grown : (setup : Parts) (worker : ℕ) (known now : List Published) (before after : ℕ) (c d : Carried) → IsWithin known now
    → Walked setup worker known before after c d → Walked setup worker now before after c d
walked_grown setup worker known now before after c d within x =
    let r = x.record_is in
    record {
      record_is = record {
        walk = r.walk;
        walks = r.walks;
        looks = record { named = named_within known now d.outcome.versions.items r.walk.tables within r.looks.named; climbs = r.looks.climbs };
        tells = r.tells;
        worker_is = r.worker_is;
      };
      left = x.left;
    }

pub all_grown : (setup : Parts) (worker : ℕ) (known now : List Published) (before : ℕ) (cs ds : List Carried) → IsWithin known now
    → AreWalked setup worker known before cs ds → AreWalked setup worker now before cs ds
all_grown setup worker known now before [] [] within x = tt
all_grown setup worker known now before [] (d ∷ ds) within x = absurd x
all_grown setup worker known now before (c ∷ cs) [] within x = absurd x
all_grown setup worker known now before (c ∷ cs) (d ∷ ds) within x = (x.0, walked_grown setup worker known now before x.0 c d within x.1, all_grown setup worker known now x.0 cs ds within x.2)

pub to_grown : (setup : Parts) (worker : ℕ) (known now : List Published) (before done : ℕ) (cs ds : List Carried) → IsWithin known now
    → AreWalkedTo setup worker known before done cs ds → AreWalkedTo setup worker now before done cs ds
to_grown setup worker known now before done cs ds within x = record {
  was = x.was;
  went = x.went;
  rest = x.rest;
  old_is = x.old_is;
  new_is = x.new_is;
  count = x.count;
  walked = all_grown setup worker known now before x.was x.went within x.walked;
}

-- ---- one frame, and the others behind it

pub none_walked : (setup : Parts) (worker : ℕ) (known : List Published) (before : ℕ) (cs : List Carried) → AreWalkedTo setup worker known before 0 cs cs
none_walked setup worker known before cs = record { was = []; went = []; rest = cs; old_is = refl; new_is = refl; count = refl; walked = tt }

pub one_more : (setup : Parts) (worker : ℕ) (known now : List Published) (before after done : ℕ) (c d : Carried) (cs ds : List Carried) → StartsWith now known
    → Walked setup worker known before after c d → AreWalkedTo setup worker now after done cs ds → AreWalkedTo setup worker now before (done + 1) (c ∷ cs) (d ∷ ds)
one_more setup worker known now before after done c d cs ds grows x y = record {
  was = c ∷ y.was;
  went = d ∷ y.went;
  rest = y.rest;
  old_is = ap (λ (l : List Carried). c ∷ l) y.old_is;
  new_is = ap (λ (l : List Carried). d ∷ l) y.new_is;
  count = let many = y.count in omega (arith, many);
  walked = (after, walked_grown setup worker known now before after c d (within_grown known now grows) x, y.walked);
}

-- ---- in two pieces

no_rest : (rest : List Carried) (went : List Carried) → length went ≡ length (went ++ rest) → rest ≡ []
no_rest [] went e = refl
no_rest (c ∷ cs) [] e = absurd (omega (arith, e))
no_rest (c ∷ cs) (d ∷ ds) e = no_rest (c ∷ cs) ds (omega (arith, e))

lower_climb : (low before after : ℕ) (vs : List ℕ) → low ≤ before → Climbs before vs after → (later : ℕ) × Climbs low vs later × (later ≤ after)
lower_climb low before after [] le climbs = (low, refl, omega (arith, le, climbs))
lower_climb low before after (v ∷ vs) le climbs = let up = climbs.0 in (after, (omega (arith, le, up), climbs.1), le_refl after)

-- from a lower version on
pub lower : (setup : Parts) (worker : ℕ) (known : List Published) (low before : ℕ) (cs ds : List Carried) → low ≤ before → AreWalked setup worker known before cs ds → AreWalked setup worker known low cs ds
lower setup worker known low before [] [] le x = tt
lower setup worker known low before [] (d ∷ ds) le x = absurd x
lower setup worker known low before (c ∷ cs) [] le x = absurd x
lower setup worker known low before (c ∷ cs) (d ∷ ds) le x =
    let first = x.1.record_is in
    let climbs = lower_climb low before x.0 d.outcome.versions.items le first.looks.climbs in (
      climbs.0,
      record {
        record_is = record { walk = first.walk; walks = first.walks; looks = record { named = first.looks.named; climbs = climbs.1 }; tells = first.tells; worker_is = first.worker_is };
        left = x.1.left;
      },
      lower setup worker known climbs.0 x.0 cs ds climbs.2 x.2,
    )

-- the tables that are known have versions of at most a number
abbrev pub AreAtMost : List Published → ℕ → Type 0
AreAtMost known high = (v : ℕ) (t : List ServicePath) → table_at known v ≡ Some t → v ≤ high

pub climbs_most : (known : List Published) (high before after : ℕ) (vs : List ℕ) (ts : List (List ServicePath)) → AreAtMost known high → before ≤ high
    → map (table_at known) vs ≡ map Some ts → Climbs before vs after → after ≤ high
climbs_most known high before after [] ts most le named climbs = omega (arith, climbs, le)
climbs_most known high before after (v ∷ vs) [] most le named climbs = absurd (cc)
climbs_most known high before after (v ∷ vs) (t ∷ ts) most le named climbs =
    let here : table_at known v ≡ Some t = cc in
    let rest : map (table_at known) vs ≡ map Some ts = cc in
    climbs_most known high v after vs ts most (most v t here) rest climbs.1

-- the first frames up to some version, and the others from the highest version on
pub joined : (setup : Parts) (worker : ℕ) (known : List Published) (high before : ℕ) (cs ds es fs : List Carried) → AreAtMost known high → before ≤ high
    → AreWalked setup worker known before cs ds → AreWalked setup worker known high es fs → AreWalked setup worker known before (cs ++ es) (ds ++ fs)
joined setup worker known high before [] [] es fs most le x y = lower setup worker known before high es fs le y
joined setup worker known high before [] (d ∷ ds) es fs most le x y = absurd x
joined setup worker known high before (c ∷ cs) [] es fs most le x y = absurd x
joined setup worker known high before (c ∷ cs) (d ∷ ds) es fs most le x y =
    let looks = x.1.record_is.looks in
    let up = climbs_most known high before x.0 d.outcome.versions.items x.1.record_is.walk.tables most le looks.named looks.climbs in
    (x.0, x.1, joined setup worker known high x.0 cs ds es fs most up x.2 y)

-- where as many are done as there are, all are
pub all_walked : (setup : Parts) (worker : ℕ) (known : List Published) (before done : ℕ) (cs ds : List Carried) → AreWalkedTo setup worker known before done cs ds
    → done ≡ length cs → length ds ≡ length cs → AreWalked setup worker known before cs ds
all_walked setup worker known before done cs ds x is many =
    let long : length x.went ≡ length (x.went ++ x.rest) = x.count ∙ is ∙ sym many ∙ ap length x.new_is in
    let none = no_rest x.rest x.went long in
    subst (λ (l : List Carried). AreWalked setup worker known before l ds) (sym (x.old_is ∙ ap (λ (r : List Carried). x.was ++ r) none ∙ append-nil x.was))
    (subst (λ (l : List Carried). AreWalked setup worker known before x.was l) (sym (x.new_is ∙ ap (λ (r : List Carried). x.went ++ r) none ∙ append-nil x.went)) x.walked)

-- ---- whether the first one was forwarded

pub refused_first : (went : Bool) (P Q : Type 0) → went ≡ false → MatchBool went P Q → Q
refused_first true P Q is x = absurd (cc)
refused_first false P Q is x = x

pub went_first : (went : Bool) (P Q : Type 0) → went ≡ true → MatchBool went P Q → P
went_first true P Q is x = x
went_first false P Q is x = absurd (cc)
