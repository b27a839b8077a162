-- What a table names of a roster.
use Rattle.std.specs.Prelude.{◌<◌, All, List, Option, Some, None, length}
use Rattle.wire_base.specs.declared.ids.ForwarderId.{ForwarderId}
use Rattle.wire_base.specs.declared.ids.InstanceId.{InstanceId}
use Rattle.sfc_routes.specs.Entries.{Entries}
use Rattle.path_selection.specs.Paths.{ServicePath}

-- the forwarder and the instance of a choice are of the roster
abbrev pub IsOfRoster : Entries → Option (ForwarderId × InstanceId) → Type 0
IsOfRoster roster None = Unit {0}
IsOfRoster roster (Some choice) = (choice.0.0 < length roster.forwarders) × (choice.1.0 < length roster.instances)

abbrev pub AreOfRoster : Entries → List ServicePath → Type 0
AreOfRoster roster table = All (λ path. All (λ row. IsOfRoster roster row.choice) path.rows) table
