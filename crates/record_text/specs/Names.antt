-- Forwarders and instances by their names in the roster.
use Rattle.std.specs.Prelude.{ℕ, ◌<◌, List, [], length, slice_index_or}
use Rattle.wire_base.specs.declared.ids.ForwarderId.{ForwarderId}
use Rattle.wire_base.specs.declared.ids.InstanceId.{InstanceId}
use Rattle.wire_base.specs.declared.next_hops.NextHop.TheVariants.{Four}
use Rattle.sfc_routes.specs.Entries.{Entries}
use Rattle.sfc_routes.specs.declared.entries.ForwarderEntry.{ForwarderEntry}
use Rattle.sfc_routes.specs.declared.entries.InstanceEntry.{InstanceEntry}

-- an entry without a name, in place of one that is not there
abbrev pub no_instance : InstanceEntry
no_instance = record { name = []; rd = []; kind = 0 }

abbrev pub no_forwarder : ForwarderEntry
no_forwarder = record { name = []; address = Four [] }

-- the instance is one of the roster, and its name there
abbrev pub IsInstance : Entries → InstanceId → Type 0
IsInstance roster i = i.0 < length roster.instances

abbrev pub instance_text : Entries → InstanceId → List ℕ
instance_text roster i = (slice_index_or roster.instances i.0 no_instance).name

-- the forwarder is one of the roster, and its name there
abbrev pub IsForwarder : Entries → ForwarderId → Type 0
IsForwarder roster f = f.0 < length roster.forwarders

abbrev pub forwarder_text : Entries → ForwarderId → List ℕ
forwarder_text roster f = (slice_index_or roster.forwarders f.0 no_forwarder).name
