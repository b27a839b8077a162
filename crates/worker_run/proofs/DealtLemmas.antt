-- The records of the parts are dealt in shares.
use Rattle.std.proofs.Common.{◌≡◌, ℕ, ◌+◌, List, [], ◌∷◌, ◌++◌, length, map, refl, sym, ap, subst, ◌∙◌, arith}
use Rattle.std.specs.List.{AllByRecursion, AllZip, flat_map}
use Rattle.std.proofs.lemmas.List.{length-map, map-append}
use Rattle.record_text.specs.declared.records.Record.{Record}
use Rattle.sfc_config.specs.Parts.{Parts}
use Rattle.table_publish.specs.Publications.{Publications, known_of}
use Rattle.path_selection.specs.Published.{Published}
use Rattle.worker_run.specs.declared.parts.Part.{Part}
use Rattle.worker_run.specs.Batches.{Carried, records_in}
use Rattle.worker_run.specs.Deals.{AreDealt, AreShares, IsSize}
use Rattle.worker_run.specs.Shares.{AreNumbered, AreShared, AreWalked, Forwarded, SameShape, slots_of}

-- parts that keep their shape keep their sizes
pub shape_sized : (size : ℕ) (ps qs : List Part) → AllByRecursion (λ p. IsSize size (length p.slots.items)) ps → AllZip SameShape ps qs → AllByRecursion (λ q. IsSize size (length q.slots.items)) qs
shape_sized size [] [] sized x = tt
shape_sized size [] (q ∷ qs) sized x = absurd x
shape_sized size (p ∷ ps) [] sized x = absurd x
shape_sized size (p ∷ ps) (q ∷ qs) sized x = (subst (IsSize size) (sym x.0.many) sized.0, shape_sized size ps qs sized.1 x.1)

-- frames that a worker forwarded are as many, and their records are its own
walked_many : (setup : Parts) (worker : ℕ) (known : List Published) (before : ℕ) (old new : List Carried) → AreWalked setup worker known before old new → length new ≡ length old
walked_many setup worker known before [] [] x = refl
walked_many setup worker known before [] (d ∷ ds) x = absurd x
walked_many setup worker known before (c ∷ cs) [] x = absurd x
walked_many setup worker known before (c ∷ cs) (d ∷ ds) x = let rest = walked_many setup worker known x.0 cs ds x.2 in omega (arith, rest)

walked_own : (setup : Parts) (worker : ℕ) (known : List Published) (before : ℕ) (old new : List Carried) → AreWalked setup worker known before old new → AllByRecursion (λ r. r.worker ≡ worker) (records_in new)
walked_own setup worker known before [] [] x = tt
walked_own setup worker known before [] (d ∷ ds) x = absurd x
walked_own setup worker known before (c ∷ cs) [] x = absurd x
walked_own setup worker known before (c ∷ cs) (d ∷ ds) x = (x.1.record_is.worker_is, walked_own setup worker known x.0 cs ds x.2)

-- the records of each part
abbrev shares_in : List Part → List (List Record)
shares_in parts = map (λ p. records_in p.slots.items) parts

shares_joined : (parts : List Part) → records_in (slots_of parts) ≡ flat_map (λ share. share) (shares_in parts)
shares_joined [] = refl
shares_joined (p ∷ ps) = map-append (λ (c : Carried). c.outcome) p.slots.items (slots_of ps) ∙ ap (λ (l : List Record). records_in p.slots.items ++ l) (shares_joined ps)

parts_dealt : (setup : Parts) (published : Publications) (size worker : ℕ) (before parts : List Part) → AreNumbered worker before → AllByRecursion (λ p. IsSize size (length p.slots.items)) before
    → AllZip (Forwarded setup published) before parts → AreShares size worker (shares_in parts) × (length (shares_in parts) ≡ length before)
parts_dealt setup published size worker [] [] numbered sized x = (tt, refl)
parts_dealt setup published size worker [] (q ∷ qs) numbered sized x = absurd x
parts_dealt setup published size worker (p ∷ ps) [] numbered sized x = absurd x
parts_dealt setup published size worker (p ∷ ps) (q ∷ qs) numbered sized x =
    let rest = parts_dealt setup published size (worker + 1) ps qs numbered.1 sized.1 x.1 in
    let many : length (records_in q.slots.items) ≡ length p.slots.items =
    length-map q.slots.items (λ (c : Carried). c.outcome) ∙ walked_many setup q.worker (known_of published) published.first p.slots.items q.slots.items x.0.walked in
    let own = walked_own setup q.worker (known_of published) published.first p.slots.items q.slots.items x.0.walked in (
      (
        record {
          sized = subst (IsSize size) (sym many) sized.0;
          own = subst (λ w. AllByRecursion (λ (r : Record). r.worker ≡ w) (records_in q.slots.items)) (x.0.worker ∙ numbered.0) own;
        },
        rest.0,
      ),
      (let more = rest.1 in omega (arith, more)),
    )

pub shared_dealt : (setup : Parts) (published : Publications) (workers : ℕ) (old new : List Carried) → AreShared setup published workers old new → AreDealt workers (records_in new)
shared_dealt setup published workers old new x =
    let dealt = parts_dealt setup published x.size 0 x.before x.parts x.numbered x.sized x.forwarded in
    record {
      shares = shares_in x.parts;
      in_order = ap records_in x.new_is ∙ shares_joined x.parts;
      many = dealt.1 ∙ x.many;
      size = x.size;
      each = dealt.0;
    }
