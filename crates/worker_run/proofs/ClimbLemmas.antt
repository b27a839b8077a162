-- Records of parts, one behind the other: along those of one worker no version falls.
use Rattle.std.proofs.Common.{◌≡◌, ℕ, ◌+◌, ◌≤◌, List, [], ◌∷◌, ◌++◌, refl, sym, ap, subst, ◌∙◌, arith}
use Rattle.std.specs.List.{AllByRecursion, AllZip}
use Rattle.path_selection.specs.Published.{Published}
use Rattle.record_text.specs.declared.records.Record.{Record}
use Rattle.sfc_config.specs.Parts.{Parts}
use Rattle.sfc_routes.proofs.MemberLemmas.{all_join}
use Rattle.table_publish.specs.Publications.{Publications, known_of}
use Rattle.forwarder.specs.Records.{Climbs}
use Rattle.worker_run.specs.declared.parts.Part.{Part}
use Rattle.worker_run.specs.Batches.{Carried, records_in}
use Rattle.worker_run.specs.Runs.{MayComeBehind, WorkersClimb}
use Rattle.worker_run.specs.Shares.{AreNumbered, AreWalked, Forwarded, slots_of}
use Rattle.worker_run.proofs.RunLemmas.{all_so}

abbrev AreFrom : ℕ → List ℕ → Type 0
AreFrom low vs = AllByRecursion (λ (v : ℕ). low ≤ v) vs

abbrev AreUpTo : ℕ → List ℕ → Type 0
AreUpTo high vs = AllByRecursion (λ (v : ℕ). v ≤ high) vs

pub climbs_up : (before after : ℕ) (vs : List ℕ) → Climbs before vs after → before ≤ after
climbs_up before after [] climbs = omega (arith, climbs)
climbs_up before after (v ∷ vs) climbs = let first = climbs.0 in let rest = climbs_up v after vs climbs.1 in omega (arith, first, rest)

from_lower : (low high : ℕ) (vs : List ℕ) → low ≤ high → AreFrom high vs → AreFrom low vs
from_lower low high [] le all = tt
from_lower low high (v ∷ vs) le all = let here = all.0 in (omega (arith, le, here), from_lower low high vs le all.1)

climbs_from : (before after : ℕ) (vs : List ℕ) → Climbs before vs after → AreFrom before vs
climbs_from before after [] climbs = tt
climbs_from before after (v ∷ vs) climbs = (climbs.0, from_lower before v vs climbs.0 (climbs_from v after vs climbs.1))

climbs_to : (before after : ℕ) (vs : List ℕ) → Climbs before vs after → AreUpTo after vs
climbs_to before after [] climbs = tt
climbs_to before after (v ∷ vs) climbs = (climbs_up v after vs climbs.1, climbs_to v after vs climbs.1)

-- versions up to one and versions from it on
none_below : (mid : ℕ) (vs ws : List ℕ) → AreUpTo mid vs → AreFrom mid ws → AllByRecursion (λ (seen : ℕ). AreFrom seen ws) vs
none_below mid [] ws up from = tt
none_below mid (v ∷ vs) ws up from = (from_lower v mid ws up.0 from, none_below mid vs ws up.1 from)

-- ---- one part

abbrev IsOf : ℕ → ℕ → Record → Type 0
IsOf worker low r = (r.worker ≡ worker) × AreFrom low r.versions.items

lower_of : (worker low high : ℕ) → low ≤ high → (r : Record) → IsOf worker high r → IsOf worker low r
lower_of worker low high le r of = (of.0, from_lower low high r.versions.items le of.1)

pub of_part : (setup : Parts) (worker : ℕ) (known : List Published) (before : ℕ) (cs ds : List Carried) → AreWalked setup worker known before cs ds → AllByRecursion (IsOf worker before) (records_in ds)
of_part setup worker known before [] [] x = tt
of_part setup worker known before [] (d ∷ ds) x = absurd x
of_part setup worker known before (c ∷ cs) [] x = tt
of_part setup worker known before (c ∷ cs) (d ∷ ds) x =
    let climbs = x.1.record_is.looks.climbs in
    let vs = d.outcome.versions.items in
    ((x.1.record_is.worker_is, climbs_from before x.0 vs climbs), all_so (IsOf worker x.0) (IsOf worker before) (lower_of worker before x.0 (climbs_up before x.0 vs climbs)) (records_in ds) (of_part setup worker known x.0 cs ds x.2))

behind_one : (mid worker : ℕ) (r : Record) (rs : List Record) → AreUpTo mid r.versions.items → AllByRecursion (IsOf worker mid) rs → AllByRecursion (MayComeBehind r) rs
behind_one mid worker r [] up all = tt
behind_one mid worker r (s ∷ ss) up all = ((λ same. none_below mid r.versions.items s.versions.items up all.0.1), behind_one mid worker r ss up all.1)

pub part_climbs : (setup : Parts) (worker : ℕ) (known : List Published) (before : ℕ) (cs ds : List Carried) → AreWalked setup worker known before cs ds → WorkersClimb (records_in ds)
part_climbs setup worker known before [] [] x = tt
part_climbs setup worker known before [] (d ∷ ds) x = absurd x
part_climbs setup worker known before (c ∷ cs) [] x = tt
part_climbs setup worker known before (c ∷ cs) (d ∷ ds) x = (
  behind_one x.0 worker d.outcome (records_in ds) (climbs_to before x.0 d.outcome.versions.items x.1.record_is.looks.climbs) (of_part setup worker known x.0 cs ds x.2),
  part_climbs setup worker known x.0 cs ds x.2,
)

-- ---- parts one behind the other

abbrev IsFromWorker : ℕ → Record → Type 0
IsFromWorker worker r = worker ≤ r.worker

behind_other : (worker : ℕ) (r : Record) (rs : List Record) → r.worker ≡ worker → AllByRecursion (IsFromWorker (worker + 1)) rs → AllByRecursion (MayComeBehind r) rs
behind_other worker r [] is all = tt
behind_other worker r (s ∷ ss) is all = let above = all.0 in ((λ same. absurd (omega (arith, is, same, above))), behind_other worker r ss is all.1)

climbs_join : (worker low : ℕ) (rs ss : List Record) → AllByRecursion (IsOf worker low) rs → WorkersClimb rs → AllByRecursion (IsFromWorker (worker + 1)) ss → WorkersClimb ss → WorkersClimb (rs ++ ss)
climbs_join worker low [] ss of here above there = there
climbs_join worker low (r ∷ rs) ss of here above there =
    (all_join (MayComeBehind r) rs ss here.0 (behind_other worker r ss of.0.0 above), climbs_join worker low rs ss of.1 here.1 above there)

from_of : (worker low : ℕ) (r : Record) → IsOf worker low r → IsFromWorker worker r
from_of worker low r of = let is = of.0 in omega (arith, is)

from_next : (worker : ℕ) (r : Record) → IsFromWorker (worker + 1) r → IsFromWorker worker r
from_next worker r above = omega (arith, above)

records_join : (cs ds : List Carried) → records_in (cs ++ ds) ≡ records_in cs ++ records_in ds
records_join [] ds = refl
records_join (c ∷ cs) ds = ap (λ (l : List Record). c.outcome ∷ l) (records_join cs ds)

-- the records of parts that are numbered from a worker on
pub record Climbing (worker : ℕ) (rs : List Record) : Type 0 where
  pub climb : WorkersClimb rs
  pub from : AllByRecursion (IsFromWorker worker) rs

pub parts_climb : (setup : Parts) (p : Publications) (worker : ℕ) (before parts : List Part) → AreNumbered worker before → AllZip (Forwarded setup p) before parts → Climbing worker (records_in (slots_of parts))
parts_climb setup p worker [] [] numbered all = record { climb = tt; from = tt }
parts_climb setup p worker [] (q ∷ qs) numbered all = absurd all
parts_climb setup p worker (b ∷ bs) [] numbered all = absurd all
parts_climb setup p worker (b ∷ bs) (q ∷ qs) numbered all =
    let rest = parts_climb setup p (worker + 1) bs qs numbered.1 all.1 in
    let rs = records_in q.slots.items in
    let ss = records_in (slots_of qs) in
    let walked = subst (λ (w : ℕ). AreWalked setup w (known_of p) p.first b.slots.items q.slots.items) (all.0.worker ∙ numbered.0) all.0.walked in
    let of = of_part setup worker (known_of p) p.first b.slots.items q.slots.items walked in
    let join = records_join q.slots.items (slots_of qs) in
    record {
      climb = subst WorkersClimb (sym join) (climbs_join worker p.first rs ss of (part_climbs setup worker (known_of p) p.first b.slots.items q.slots.items walked) rest.from rest.climb);
      from = subst (AllByRecursion (IsFromWorker worker)) (sym join) (all_join (IsFromWorker worker) rs ss (all_so (IsOf worker p.first) (IsFromWorker worker) (from_of worker p.first) rs of) (all_so (IsFromWorker (worker + 1)) (IsFromWorker worker) (from_next worker) ss rest.from));
    }
