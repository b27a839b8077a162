-- The walk of a frame: stations at forwarders, joined by turns, to an end (RFC 7665, section 4; RFC 8300, sections 2.2 and
-- 2.3).
use Rattle.std.specs.Prelude.{◌≡◌, ◌≢◌, ℕ, ◌-◌, ◌⊎◌, List, [], ◌∷◌, ◌++◌, map, Option, Some, None}
use Rattle.wire_base.specs.declared.ids.ForwarderId.{ForwarderId}
use Rattle.wire_base.specs.declared.ids.InstanceId.{InstanceId}
use Rattle.net_frames.specs.Captured.{Captured}
use Rattle.nsh_headers.specs.Edit.{lowered, with_ttl}
use Rattle.nsh_metadata.specs.Header.{Header}
use Rattle.nsh_metadata.specs.Changes.{with_index}
use Rattle.service_functions.specs.declared.answers.Why.{Why}
use Rattle.service_functions.specs.declared.answers.Why.TheVariants as why
use Rattle.service_functions.specs.declared.functions.Function.{Function}
use Rattle.service_functions.specs.Serving.{DropBy, FrameBy, HeaderBy, function_at}
use Rattle.path_selection.specs.Answers.{IsAnswer}
use Rattle.path_selection.specs.Paths.{ServicePath}
use Rattle.path_selection.specs.declared.answers.Answer.{Answer}
use Rattle.path_selection.specs.declared.answers.Answer.TheVariants as answer
use Rattle.record_text.specs.declared.records.End.{End}
use Rattle.record_text.specs.declared.records.End.TheVariants.{Egress, Bypass, Drop}
use Rattle.record_text.specs.declared.records.Reason.{Reason}
use Rattle.record_text.specs.declared.records.Reason.TheVariants as reason
use Rattle.classifier.specs.Stations.{Station, first_header, first_station}
use Rattle.classifier.specs.Verdicts.{Start}
use Rattle.classifier.specs.declared.verdicts.Verdict.{Verdict}
use Rattle.classifier.specs.declared.verdicts.Verdict.TheVariants as verdict
use Rattle.setup_statements.specs.declared.statements.Bound.{Bound}
use Rattle.sfc_config.specs.Parts.{Parts}

-- ---- turns

-- what a turn leads to: the end, with the instances visited, or the next station
pub data Outcome : Type 0 where
  Ends : End → List InstanceId → Outcome
  GoesOn : Station → Outcome

-- the TTL, lowered for this turn, is 0 (RFC 8300, section 2.2)
abbrev pub IsSpent : Station → Type 0
IsSpent s = lowered s.header.head.base.ttl ≡ 0

-- the header with its TTL lowered
abbrev pub aged : Header → Header
aged h = record h { head = with_ttl h.head (lowered h.head.base.ttl) }

-- what serves at an instance, by its number; one that the setup does not have passes
abbrev pub function_by : List Function → InstanceId → Function
function_by functions instance = function_at functions instance.0

-- why a frame is dropped that an instance drops
abbrev pub reason_of : Why → InstanceId → Reason
reason_of why.Denied instance = reason.Denied instance
reason_of why.HopLimit instance = reason.HopLimit instance
reason_of why.Meta instance = reason.Meta instance
reason_of why.MetaFull instance = reason.MetaFull instance
reason_of why.TooLong instance = reason.TooLong instance

-- the packet at another forwarder, with the service index of the serving hop (RFC 7665, section 4.3)
abbrev pub handed : Station → ℕ → ForwarderId → Station
handed s at other = record s { forwarder = other; header = with_index (aged s.header) at }

-- the packet behind an instance of this forwarder: the frame and the context that its function leaves, and a service index
-- 1 below the serving hop's (RFC 8300, section 2.3)
abbrev pub served : List Function → Station → ℕ → InstanceId → Station
served functions s at instance = record s {
  frame = FrameBy (function_by functions instance) s.frame;
  header = with_index (aged (HeaderBy (function_by functions instance) s.header)) (at - 1);
  visits = s.visits ++ instance ∷ [];
}

-- an instance has a reason to drop the frame
abbrev pub DropsAt : List Function → Station → InstanceId → Why → Type 0
DropsAt functions s instance w = DropBy (function_by functions instance) s.frame s.header.context w

-- a hop at a forwarder: at another one it is handed on, at this one its instance passes it or drops it
abbrev pub AtHop : List Function → Station → ℕ → ForwarderId → InstanceId → Outcome → Type 0
AtHop functions s at other instance (GoesOn next) =
    ((other ≢ s.forwarder) × (next ≡ handed s at other))
    ⊎ ((other ≡ s.forwarder) × ((w : Why) → DropsAt functions s instance w → ⊥) × (next ≡ served functions s at instance))
AtHop functions s at other instance (Ends end visits) =
    (other ≡ s.forwarder) × (w : Why) × DropsAt functions s instance w × (end ≡ Drop (reason_of w instance)) × (visits ≡ s.visits ++ instance ∷ [])

-- what the answer of a table leads to
abbrev pub Follows : List Function → Station → Answer → Outcome → Type 0
Follows functions s answer.NoPath outcome = outcome ≡ Ends (Drop reason.NoPath) s.visits
Follows functions s (answer.NoInstance at) outcome = outcome ≡ Ends (Drop (reason.NoInstance at)) s.visits
Follows functions s answer.Ended outcome = outcome ≡ Ends Egress s.visits
Follows functions s (answer.At at other instance) outcome = AtHop functions s at other instance outcome

-- A turn that asks a table: the TTL, lowered, is not 0 (RFC 8300, section 2.2), the table answers by SPI and SI (RFC 8300,
-- section 2.3), and the packet is dropped, let out or sent on (RFC 7665, section 4.3). That the TTL is lowered for each lookup,
-- also for the one after an instance hands the frame back, is this project's own.
pub record Turn (functions : List Function) (table : List ServicePath) (s : Station) (outcome : Outcome) : Type 0 where
  pub alive : IsSpent s → ⊥
  pub answer : Answer
  pub answered : IsAnswer table s.header.head.path.spi s.header.head.path.si answer
  pub follows : Follows functions s answer outcome

-- ---- walks

-- From the station over the later ones, in order, to the end: each turn asks the next of the tables, and all of them are asked;
-- a last turn that finds the TTL spent asks none. That a walk is told by its whole lists is this project's own.
abbrev pub WalkFrom : List Function → Station → List Station → List (List ServicePath) → End → List InstanceId → Type 0
WalkFrom functions s [] [] end visits = IsSpent s × (end ≡ Drop reason.Ttl) × (visits ≡ s.visits)
WalkFrom functions s [] (table ∷ []) end visits = Turn functions table s (Ends end visits)
WalkFrom functions s [] (table ∷ more ∷ tables) end visits = ⊥
WalkFrom functions s (next ∷ later) [] end visits = ⊥
WalkFrom functions s (next ∷ later) (table ∷ tables) end visits =
    Turn functions table s (GoesOn next) × WalkFrom functions next later tables end visits

-- a walk as data: its stations, the tables that its lookups asked, both in order, its path, the instances that it visited,
-- and its end
pub record Walk : Type 0 where
  pub stations : List Station
  pub tables : List (List ServicePath)
  pub path : Option ℕ
  pub visits : List InstanceId
  pub end : End

-- a frame that no rule puts on a path
abbrev pub no_walk : End → Walk
no_walk end = record { stations = []; tables = []; path = None; visits = []; end = end }

-- the functions of a setup's instances, by number
abbrev pub functions_of : List Bound → List Function
functions_of bounds = map (λ (b : Bound). b.function) bounds

-- the walk from a station
abbrev pub WalksFrom : List Function → Station → Walk → Type 0
WalksFrom functions first walk = (later : List Station)
    × (walk.stations ≡ first ∷ later) × (walk.path ≡ Some first.header.head.path.spi)
    × WalkFrom functions first later walk.tables walk.end walk.visits

-- the walk of a frame with this verdict
abbrev pub WalksBy : Parts → Captured → Verdict → Walk → Type 0
WalksBy setup frame (verdict.Path spi si ttl context) walk =
    WalksFrom (functions_of setup.instances) (first_station setup.ingress frame (first_header spi si ttl context)) walk
WalksBy setup frame verdict.Bypass walk = walk ≡ no_walk Bypass
WalksBy setup frame verdict.Refuse walk = walk ≡ no_walk (Drop reason.Rule)
WalksBy setup frame verdict.NshIngress walk = walk ≡ no_walk (Drop reason.NshIngress)

-- the walk of a frame under a setup
pub record IsWalk (setup : Parts) (frame : Captured) (walk : Walk) : Type 0 where
  pub verdict : Verdict
  pub begins : Start setup.rules frame.bytes verdict
  pub walks : WalksBy setup frame verdict walk
