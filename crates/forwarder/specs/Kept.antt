-- A station as it is kept on the way, and what a turn says in terms of what is kept.
use Rattle.std.specs.Prelude.{◌≡◌, ◌≢◌, ℕ, List, [], ◌∷◌, ◌++◌, false}
use Rattle.wire_base.specs.declared.ids.ForwarderId.{ForwarderId}
use Rattle.net_frames.specs.Captured.{Captured}
use Rattle.nsh_metadata.specs.Header.{BeginsWith}
use Rattle.service_functions.specs.declared.functions.Function.{Function}
use Rattle.path_selection.specs.Published.{Published}
use Rattle.path_selection.specs.declared.answers.Answer.{Answer}
use Rattle.record_text.specs.declared.records.End.TheVariants.{Drop}
use Rattle.record_text.specs.declared.records.Record.{Record}
use Rattle.classifier.specs.Stations.{Station}
use Rattle.forwarder.specs.declared.turns.Next.{Next}
use Rattle.forwarder.specs.declared.turns.Next.TheVariants.{Done, Handed, Passed, Dropped}
use Rattle.forwarder.specs.Traces.{KeepsTrace, Traced}
use Rattle.forwarder.specs.Walks.{Ends, Follows, GoesOn, Walk, WalksFrom, aged, reason_of}
use Rattle.forwarder.specs.Records.{Looks, Tells, by_instance}

-- the station is at this forwarder, with this frame, and the first `size` bytes spell its header
pub record Stands (s : Station) (forwarder : ForwarderId) (frame : Captured) (bytes : List ℕ) (size : ℕ) : Type 0 where
  pub at : s.forwarder ≡ forwarder
  pub frame_is : s.frame ≡ frame
  pub spelled : BeginsWith bytes s.header size

-- the same, where the TTL of the bytes is lowered already
pub record StandsAged (s : Station) (forwarder : ForwarderId) (frame : Captured) (bytes : List ℕ) (size : ℕ) : Type 0 where
  pub at : s.forwarder ≡ forwarder
  pub frame_is : s.frame ≡ frame
  pub spelled : BeginsWith bytes (aged s.header) size

-- what a turn at a station leads to, and what is kept then
abbrev pub LeadsTo : List Function → Station → ℕ → Answer → Next → Captured → List ℕ → Type 0
LeadsTo functions s size answer (Done end) frame bytes =
    Follows functions s answer (Ends end s.visits) × (frame ≡ s.frame) × (by_instance end ≡ false)
LeadsTo functions s size answer (Handed other) frame bytes =
    (next : Station) × Follows functions s answer (GoesOn next) × Stands next other frame bytes size × (next.visits ≡ s.visits) × (other ≢ s.forwarder)
LeadsTo functions s size answer (Passed instance end) frame bytes =
    (next : Station) × Follows functions s answer (GoesOn next) × Stands next s.forwarder frame bytes end × (next.visits ≡ s.visits ++ instance ∷ [])
LeadsTo functions s size answer (Dropped instance why) frame bytes =
    Follows functions s answer (Ends (Drop (reason_of why instance)) (s.visits ++ instance ∷ [])) × (frame ≡ s.frame)

-- the record is that of the walk from a station over the tables of its versions
pub record WalkedFrom (functions : List Function) (first : Station) (worker : ℕ) (known : List Published) (before after : ℕ) (trace : Traced) (r : Record) : Type 0 where
  pub walk : Walk
  pub walks : WalksFrom functions first walk
  pub looks : Looks known before r.versions.items walk.tables after
  pub tells : Tells r walk
  pub worker_is : r.worker ≡ worker
  pub traces : KeepsTrace trace.kept walk.stations trace.packets
