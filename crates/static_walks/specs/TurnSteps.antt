-- What a turn of the walk in place says, in terms of what it keeps: the header as its bytes.
use Rattle.std.specs.Prelude.{◌≡◌, ℕ, ◌<◌, ◌-◌, List, []}
use Rattle.wire_base.specs.declared.ids.InstanceId.{InstanceId}
use Rattle.nsh_headers.specs.Head.{IsHead}
use Rattle.path_selection.specs.declared.answers.Answer.{Answer}
use Rattle.path_selection.specs.declared.answers.Answer.TheVariants.{At}
use Rattle.classifier.specs.Stations.{Station}
use Rattle.forwarder.specs.Walks.{GoesOn, Turn, served}
use Rattle.static_walks.specs.Walks.{here, static_table}

-- the instance of an index
abbrev pub own_instance : ℕ → InstanceId
own_instance si = record { 0 = 255 - si }

-- where a hop of the static path serves an index, it is the hop of this index
abbrev pub IsOwnHop : ℕ → Answer → Type 0
IsOwnHop si (At at forwarder instance) = (0 < at) × (at ≡ si) × (forwarder ≡ here) × (instance ≡ own_instance si)
IsOwnHop si _ = Unit {0}

-- the station behind the instance of the packet's index
abbrev pub next_station : Station → Station
next_station s = served [] s s.header.head.path.si (own_instance s.header.head.path.si)

-- the walk goes on from s, and these bytes spell the front of the header that it goes on with
pub record GoesOnAt (spi count : ℕ) (s : Station) (header : List ℕ) : Type 0 where
  pub turn : Turn [] (static_table spi count) s (GoesOn (next_station s))
  pub spelled : IsHead header (next_station s).header.head
