-- How a walk goes along: its service index, and the way of a frame whose path stays the same.
use Rattle.std.specs.Prelude.{◌≡◌, ◌≢◌, ℕ, ◌-◌, ◌<◌, ◌≤◌, ◌⊎◌, nat_le, List, [], ◌∷◌, length, filter, get_or, Some, None, Contains}
use Rattle.wire_base.specs.declared.ids.ForwarderId.{ForwarderId}
use Rattle.wire_base.specs.declared.ids.InstanceId.{InstanceId}
use Rattle.service_functions.specs.declared.answers.Why.{Why}
use Rattle.path_selection.specs.Paths.{ServicePath}
use Rattle.path_selection.specs.Published.{Published, table_at}
use Rattle.path_selection.specs.declared.hops.HopRow.{HopRow}
use Rattle.record_text.specs.declared.records.End.{End}
use Rattle.record_text.specs.declared.records.End.TheVariants.{Egress, Drop}
use Rattle.record_text.specs.declared.records.Reason.TheVariants.{Ttl, NoInstance}
use Rattle.record_text.specs.declared.records.Record.{Record}
use Rattle.classifier.specs.Stations.{Station}
use Rattle.forwarder.specs.Walks.{reason_of}

-- from a station to the next the service index does not rise, and where an instance passed the frame it falls (RFC 8300,
-- section 2.3)
abbrev pub IndexFalls : Station → Station → Type 0
IndexFalls s next = (next.header.head.path.si ≤ s.header.head.path.si)
    × (next.visits ≢ s.visits → next.header.head.path.si < s.header.head.path.si)

-- so it is all along
abbrev pub IndexesFall : List Station → Type 0
IndexesFall [] = Unit {0}
IndexesFall (s ∷ []) = Unit {0}
IndexesFall (s ∷ next ∷ later) = IndexFalls s next × IndexesFall (next ∷ later)

-- the hops of a path from the one on that serves an index: those that are for no greater one
abbrev pub straight : List HopRow → ℕ → List HopRow
straight rows si = filter (λ (row : HopRow). nat_le row.si si) rows

-- an end without a further visit: no hop is left and the frame goes out, the next hop has no instance, or the TTL is spent
abbrev pub StopsAt : List HopRow → End → Type 0
StopsAt [] end = (end ≡ Egress) ⊎ (end ≡ Drop Ttl)
StopsAt (row ∷ rows) end = ((row.choice ≡ None) × (end ≡ Drop (NoInstance row.si))) ⊎ (end ≡ Drop Ttl)

-- the instance of a hop
abbrev pub IsOf : HopRow → InstanceId → Type 0
IsOf row instance = (forwarder : ForwarderId) × (row.choice ≡ Some (forwarder, instance))

-- The visits are the instances of the first of these hops, in order. Where the frame goes out they are those of all of them; else
-- the TTL is spent, the hop behind them has no instance, or the last one dropped the frame.
abbrev pub GoesStraight : List HopRow → List InstanceId → End → Type 0
GoesStraight rows [] end = StopsAt rows end
GoesStraight [] (instance ∷ visits) end = ⊥
GoesStraight (row ∷ rows) (instance ∷ visits) end =
    IsOf row instance × (GoesStraight rows visits end ⊎ ((visits ≡ []) × (w : Why) × (end ≡ Drop (reason_of w instance))))

-- The record names versions, and each table that is known from the first of them to the last has this path, under the record's
-- identifier.
pub record Unchanged (known : List Published) (r : Record) (path : ServicePath) : Type 0 where
  pub named : r.versions.items ≢ []
  pub of : r.path ≡ Some path.spi
  pub stays : (version : ℕ) (table : List ServicePath)
      → get_or r.versions.items 0 0 ≤ version → version ≤ get_or r.versions.items (length r.versions.items - 1) 0
      → table_at known version ≡ Some table → Contains table path
