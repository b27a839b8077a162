-- What a record says of a frame's walk, and what the walk leaves of the frame.
use Rattle.std.specs.Prelude.{◌≡◌, ℕ, ◌-◌, ◌≤◌, Bool, true, false, if◌then◌else◌, List, [], ◌∷◌, length, take, map, Some}
use Rattle.wire_base.specs.declared.ids.InstanceId.{InstanceId}
use Rattle.net_frames.specs.Captured.{Captured}
use Rattle.service_functions.specs.declared.functions.Function.{Function}
use Rattle.service_functions.specs.Serving.{Through}
use Rattle.path_selection.specs.Paths.{ServicePath}
use Rattle.path_selection.specs.Published.{Published, table_at}
use Rattle.record_text.specs.declared.records.End.{End}
use Rattle.record_text.specs.declared.records.End.TheVariants.{Drop}
use Rattle.record_text.specs.declared.records.Reason.TheVariants.{Denied, HopLimit, Meta, MetaFull, TooLong}
use Rattle.record_text.specs.declared.records.Record.{Record}
use Rattle.sfc_config.specs.Parts.{Parts}
use Rattle.forwarder.specs.Walks.{IsWalk, Walk}

-- versions that do not fall, from the one seen before on to the one seen after, which is the last of them
abbrev pub Climbs : ℕ → List ℕ → ℕ → Type 0
Climbs before [] after = after ≡ before
Climbs before (version ∷ versions) after = (before ≤ version) × Climbs version versions after

-- lookups named these versions, in order, and these are their tables
pub record Looks (known : List Published) (before : ℕ) (versions : List ℕ) (tables : List (List ServicePath)) (after : ℕ) : Type 0 where
  pub named : map (table_at known) versions ≡ map Some tables
  pub climbs : Climbs before versions after

-- the version seen after some lookups is the last that they named, or the one seen before
abbrev pub HasSeen : List Published → ℕ → ℕ → Type 0
HasSeen known before after = (versions : List ℕ) × (tables : List (List ServicePath)) × Looks known before versions tables after

-- a record says what a walk is
pub record Tells (r : Record) (walk : Walk) : Type 0 where
  pub path : r.path ≡ walk.path
  pub visits : r.visits.items ≡ walk.visits
  pub end : r.end ≡ walk.end

-- The record is that of the frame's walk over the tables of its versions: those that the lookups named, of the tables known
-- after them, from the version seen before to the one seen after.
pub record IsRecord (setup : Parts) (frame : Captured) (worker : ℕ) (known : List Published) (before after : ℕ) (r : Record) : Type 0 where
  pub walk : Walk
  pub walks : IsWalk setup frame walk
  pub looks : Looks known before r.versions.items walk.tables after
  pub tells : Tells r walk
  pub worker_is : r.worker ≡ worker

-- ---- the frame

-- an instance dropped it
abbrev pub by_instance : End → Bool
by_instance (Drop (Denied instance)) = true
by_instance (Drop (HopLimit instance)) = true
by_instance (Drop (Meta instance)) = true
by_instance (Drop (MetaFull instance)) = true
by_instance (Drop (TooLong instance)) = true
by_instance _ = false

-- the visits that passed the frame: all, but for the last one where an instance dropped it
abbrev pub passed : End → List InstanceId → List InstanceId
passed end visits = if by_instance end then take (length visits - 1) visits else visits

-- the numbers of instances
abbrev pub numbers : List InstanceId → List ℕ
numbers visits = map (λ (i : InstanceId). i.0) visits

-- the frame that a walk leaves: what the visits that passed it made of it
abbrev pub frame_after : List Function → Captured → Record → Captured
frame_after functions frame r = Through functions (numbers (passed r.end r.visits.items)) frame
