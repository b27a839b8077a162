-- A walk on its way: where it stands, and that whatever is a walk from there is one from the start.
use Rattle.std.proofs.Common.{◌≡◌, ◌≢◌, ℕ, zero, suc, ◌+◌, ◌-◌, ◌≤◌, Bool, true, false, List, [], ◌∷◌, ◌++◌, length, Some, refl, sym, ap, subst, ◌∙◌, arith, append_assoc, append-nil, length-append, inl, inr, cond}
use Rattle.std.proofs.lemmas.Bool.{ne_eqb}
use Rattle.wire_base.specs.declared.ids.ForwarderId.{ForwarderId}
use Rattle.wire_base.specs.declared.ids.InstanceId.{InstanceId}
use Rattle.net_frames.specs.Captured.{Captured}
use Rattle.nsh_headers.specs.Edit.{lowered}
use Rattle.nsh_metadata.specs.Header.{Header, BeginsWith}
use Rattle.nsh_metadata.specs.Changes.{with_context}
use Rattle.nsh_metadata.specs.declared.contexts.Context.{Context}
use Rattle.service_functions.specs.Functions.{on_metadata}
use Rattle.service_functions.specs.Serving.{ContextBy, HeaderBy, Through}
use Rattle.service_functions.specs.declared.functions.Function.{Function}
use Rattle.path_selection.specs.Answers.{IsAnswer}
use Rattle.path_selection.specs.Paths.{ServicePath}
use Rattle.path_selection.specs.Published.{Answers, Published, StartsWith, table_at}
use Rattle.path_selection.specs.declared.lookups.Found.{Found}
use Rattle.path_selection.specs.declared.answers.Answer.{Answer}
use Rattle.path_selection.specs.declared.answers.Answer.TheVariants.{NoPath, NoInstance, Ended, At}
use Rattle.record_text.specs.declared.records.End.{End}
use Rattle.record_text.specs.declared.records.End.TheVariants.{Drop}
use Rattle.record_text.specs.declared.records.Reason.TheVariants.{Ttl}
use Rattle.record_text.specs.declared.records.Record.{Record}
use Rattle.classifier.specs.Stations.{Station}
use Rattle.forwarder.specs.Walks.{Ends, Follows, GoesOn, IsSpent, Outcome, Turn, Walk, WalkFrom, function_by}
use Rattle.forwarder.specs.Records.{Looks, numbers}
use Rattle.forwarder.specs.Traces.{IsPacket, KeepsTrace, Traced, TracesFrom, with_packet}
use Rattle.forwarder.specs.Kept.{Stands, WalkedFrom}
use Rattle.forwarder.proofs.LookLemmas.{look_more}
use Rattle.forwarder.proofs.VisitLemmas.{room-Through, through_more}

-- ---- from a station to the next

-- a TTL that is not spent falls by 1
pub lowered_above : (t : ℕ) → 1 ≤ t → lowered t ≡ t - 1
lowered_above zero some = absurd (omega (arith, some))
lowered_above (suc t) some =
    let above : suc t ≢ 0 = λ e. omega (arith, e) in
    ap (λ b. cond b 63 (suc t - 1)) (ne_eqb (suc t) 0 above)

-- what a function leaves of a header has its TTL and SPI
same_either : (b : Bool) (h : Header) (c : Context) → (let k : Header = (cond b (with_context h c) h) in (k.head.base.ttl ≡ h.head.base.ttl) × (k.head.path.spi ≡ h.head.path.spi))
same_either true h c = (refl, refl)
same_either false h c = (refl, refl)

same_fields : (f : Function) (h : Header) → ((HeaderBy f h).head.base.ttl ≡ h.head.base.ttl) × ((HeaderBy f h).head.path.spi ≡ h.head.path.spi)
same_fields f h = same_either (on_metadata f) h (ContextBy f h.context)

-- the next station has the lowered TTL and the same SPI, its frame is what its visits made of the first, and it has at most one
-- visit more
pub record Nears (functions : List Function) (s next : Station) : Type 0 where
  pub ttl : next.header.head.base.ttl ≡ lowered s.header.head.base.ttl
  pub spi : next.header.head.path.spi ≡ s.header.head.path.spi
  pub made : (first : Captured) → s.frame ≡ Through functions (numbers s.visits) first → next.frame ≡ Through functions (numbers next.visits) first
  pub visits : length next.visits ≤ length s.visits + 1

pub nears : (functions : List Function) (s next : Station) (answer : Answer) → Follows functions s answer (GoesOn next) → Nears functions s next
nears functions s next NoPath follows = absurd (cc)
nears functions s next (NoInstance at) follows = absurd (cc)
nears functions s next Ended follows = absurd (cc)
nears functions s next (At at other instance) (inl follows) =
    subst (Nears functions s) (sym follows.1) (record { ttl = refl; spi = refl; made = λ first is. is; visits = omega arith })
nears functions s next (At at other instance) (inr follows) =
    let same = same_fields (function_by functions instance) s.header in
    subst (Nears functions s) (sym follows.2) (record {
      ttl = ap lowered same.0;
      spi = same.1;
      made = λ first is. through_more functions s.visits instance first s.frame is;
      visits = omega (arith, length-append s.visits (instance ∷ []));
    })

-- ---- what a turn adds to a trace

pub record TraceStep (trace trace' : Traced) (s next : Station) : Type 0 where
  pub kept : trace'.kept ≡ trace.kept
  pub grows : trace.kept ≡ true → (new : List (List ℕ)) × (trace'.packets ≡ trace.packets ++ new) × ((later : List Station) (more : List (List ℕ)) → TracesFrom next later more → TracesFrom s (next ∷ later) (new ++ more))
  pub none : trace.kept ≡ false → trace'.packets ≡ trace.packets
  pub few : length trace'.packets ≤ length trace.packets + 1

-- nothing, where the packet stays
pub same_step : (trace : Traced) (s next : Station) → next.forwarder ≡ s.forwarder → TraceStep trace trace s next
same_step trace s next same = record {
  kept = refl;
  grows = λ kept. ([], sym (append-nil trace.packets), λ later more t. inl (same, t));
  none = λ kept. refl;
  few = omega arith;
}

kept_by : (b : Bool) (trace trace' : Traced) (s next : Station) (packet : List ℕ) → trace.kept ≡ b → trace' ≡ cond b (record trace { packets = trace.packets ++ packet ∷ [] }) trace
    → next.forwarder ≢ s.forwarder → IsPacket s.forwarder next.forwarder next.header next.frame.bytes packet → TraceStep trace trace' s next
kept_by true trace trace' s next packet b-is is other is-packet =
    let longer : trace'.packets ≡ trace.packets ++ packet ∷ [] = ap (λ (t : Traced). t.packets) is in
    record {
      kept = ap (λ (t : Traced). t.kept) is;
      grows = λ kept. (packet ∷ [], longer, λ later more t. inr (other, packet, more, refl, is-packet, t));
      none = λ kept. absurd (cc);
      few = omega (arith, ap length longer, length-append trace.packets (packet ∷ []));
    }
kept_by false trace trace' s next packet b-is is other is-packet = record {
  kept = ap (λ (t : Traced). t.kept) is;
  grows = λ kept. absurd (cc);
  none = λ kept. ap (λ (t : Traced). t.packets) is;
  few = omega (arith, ap (λ (t : Traced). length t.packets) is);
}

-- the packet, where it is handed on
pub handed_step : (trace trace' : Traced) (s next : Station) (packet : List ℕ) → trace' ≡ with_packet trace packet → next.forwarder ≢ s.forwarder
    → IsPacket s.forwarder next.forwarder next.header next.frame.bytes packet → TraceStep trace trace' s next
handed_step trace trace' s next packet is other is-packet = kept_by trace.kept trace trace' s next packet refl is other is-packet

-- ---- a walk on its way

pub record SoFar (functions : List Function) (first : Station) (spi : ℕ) (known : List Published) (before after : ℕ) (versions : List ℕ) (visits : List InstanceId) (forwarder : ForwarderId) (frame : Captured) (bytes : List ℕ) (size : ℕ) (trace : Traced) : Type 0 where
  pub here : Station
  pub stands : Stands here forwarder frame bytes size
  pub visited : here.visits ≡ visits
  pub spi_is : here.header.head.path.spi ≡ spi
  pub first_spi : spi ≡ first.header.head.path.spi
  pub gone : List Station
  pub tables : List (List ServicePath)
  pub looks : Looks known before versions tables after
  pub made : here.frame ≡ Through functions (numbers here.visits) first.frame
  pub alive : 1 ≤ here.header.head.base.ttl
  pub few : length versions + here.header.head.base.ttl ≤ 63
  pub fewer : length visits ≤ length versions
  pub goes_on : (later : List Station) (more : List (List ServicePath)) (end : End) (vs : List InstanceId) → WalkFrom functions here later more end vs → WalkFrom functions first (gone ++ later) (tables ++ more) end vs
  pub traces : trace.kept ≡ true → (later : List Station) (more : List (List ℕ)) → TracesFrom here later more → TracesFrom first (gone ++ later) (trace.packets ++ more)
  pub untraced : trace.kept ≡ false → trace.packets ≡ []
  pub packets : length trace.packets ≤ length versions

-- the start
pub starts : (functions : List Function) (first : Station) (spi : ℕ) (known : List Published) (before : ℕ) (versions : List ℕ) (visits : List InstanceId) (bytes : List ℕ) (size : ℕ) (trace : Traced)
    → spi ≡ first.header.head.path.spi → versions ≡ [] → visits ≡ [] → first.visits ≡ [] → BeginsWith bytes first.header size → 1 ≤ first.header.head.base.ttl → first.header.head.base.ttl ≤ 63
    → trace.packets ≡ [] → SoFar functions first spi known before before versions visits first.forwarder first.frame bytes size trace
starts functions first spi known before versions visits bytes size trace spi-is no_versions no_visits none spelled some few no_packets =
    let made : first.frame ≡ Through functions (numbers first.visits) first.frame = ap (λ (l : List InstanceId). Through functions (numbers l) first.frame) (sym none) in
    let begun : SoFar functions first spi known before before [] [] first.forwarder first.frame bytes size trace = record {
      here = first;
      stands = record { at = refl; frame_is = refl; spelled = spelled };
      visited = none;
      spi_is = sym spi-is;
      first_spi = spi-is;
      gone = [];
      tables = [];
      looks = record { named = refl; climbs = refl };
      made = made;
      alive = some;
      few = omega (arith, few);
      fewer = omega arith;
      goes_on = λ later more end vs walk. walk;
      traces = λ kept later more t. subst (λ (l : List (List ℕ)). TracesFrom first later (l ++ more)) (sym no_packets) t;
      untraced = λ kept. no_packets;
      packets = omega (arith, ap (λ (l : List (List ℕ)). length l) no_packets);
    } in
    subst (λ (l : List ℕ). SoFar functions first spi known before before l visits first.forwarder first.frame bytes size trace) (sym no_versions)
    (subst (λ (l : List InstanceId). SoFar functions first spi known before before [] l first.forwarder first.frame bytes size trace) (sym no_visits) begun)

module _ (functions : List Function) (first : Station) (spi : ℕ) (known : List Published) (before after : ℕ) (versions : List ℕ) (visits : List InstanceId) (forwarder : ForwarderId) (frame : Captured) (bytes : List ℕ) (size : ℕ) (trace : Traced) where
  -- the packets that were kept
  trace_kept : (s : SoFar functions first spi known before after versions visits forwarder frame bytes size trace) → KeepsTrace trace.kept (first ∷ (s.gone ++ [])) trace.packets
  trace_kept s = record {
    whole = λ kept. subst (λ (l : List (List ℕ)). TracesFrom first (s.gone ++ []) l) (append-nil trace.packets) (s.traces kept [] [] refl);
    none = s.untraced;
  }

  -- the TTL is spent
  pub spends : (s : SoFar functions first spi known before after versions visits forwarder frame bytes size trace) (r : Record) (worker : ℕ) → IsSpent s.here
      → r.worker ≡ worker → r.path ≡ Some spi → r.versions.items ≡ versions → r.visits.items ≡ visits → r.end ≡ Drop Ttl
      → WalkedFrom functions first worker known before after trace r
  spends s r worker spent worker-is path-is versions-are visits-are end-is =
      let w = s.goes_on [] [] (Drop Ttl) visits (spent, refl, sym s.visited) in
      let walk : Walk = record { stations = first ∷ (s.gone ++ []); tables = s.tables; path = Some first.header.head.path.spi; visits = visits; end = Drop Ttl } in
      record {
        walk = walk;
        walks = (s.gone ++ [], refl, refl, subst (λ (l : List (List ServicePath)). WalkFrom functions first (s.gone ++ []) l (Drop Ttl) visits) (append-nil s.tables) w);
        looks = subst (λ (l : List ℕ). Looks known before l s.tables after) (sym versions-are) s.looks;
        tells = record { path = path-is ∙ ap Some s.first_spi; visits = visits-are; end = end-is };
        worker_is = worker-is;
        traces = trace_kept s;
      }

  -- the turn at a table's answer
  pub turn_at : (s : SoFar functions first spi known before after versions visits forwarder frame bytes size trace) (now : List Published) (asked_si : ℕ) (found : Found) (outcome : Outcome)
      → (IsSpent s.here → ⊥) → asked_si ≡ s.here.header.head.path.si → Answers now spi asked_si found → Follows functions s.here found.answer outcome
      → (table : List ServicePath) × (table_at now found.version ≡ Some table) × Turn functions table s.here outcome
  turn_at s now asked_si found outcome alive si-is answers follows = (
    answers.0,
    answers.1,
    record {
      alive = alive;
      answer = found.answer;
      answered = subst (λ (n : ℕ). IsAnswer answers.0 n s.here.header.head.path.si found.answer) (sym s.spi_is)
          (subst (λ (n : ℕ). IsAnswer answers.0 spi n found.answer) si-is answers.2);
      follows = follows;
    },
  )

  -- it ends the walk
  pub ends : (s : SoFar functions first spi known before after versions visits forwarder frame bytes size trace) (r : Record) (worker : ℕ) (now : List Published) (later v : ℕ) (table : List ServicePath) (end : End) (vs : List InstanceId)
      → StartsWith now known → after ≤ v → later ≡ v → r.versions.items ≡ versions ++ v ∷ [] → table_at now v ≡ Some table → Turn functions table s.here (Ends end vs)
      → r.worker ≡ worker → r.path ≡ Some spi → r.visits.items ≡ vs → r.end ≡ end
      → WalkedFrom functions first worker now before later trace r
  ends s r worker now later v table end vs grows up is longer at turn worker-is path-is visits-are end-is =
      let walk : Walk = record { stations = first ∷ (s.gone ++ []); tables = s.tables ++ table ∷ []; path = Some first.header.head.path.spi; visits = vs; end = end } in
      record {
        walk = walk;
        walks = (s.gone ++ [], refl, refl, s.goes_on [] (table ∷ []) end vs turn);
        looks = look_more known now before after later v versions r.versions.items s.tables table s.looks grows up is longer at;
        tells = record { path = path-is ∙ ap Some s.first_spi; visits = visits-are; end = end-is };
        worker_is = worker-is;
        traces = trace_kept s;
      }

  -- or leads to the next station
  pub carries_on : (s : SoFar functions first spi known before after versions visits forwarder frame bytes size trace) (now : List Published) (later v : ℕ) (versions' : List ℕ) (table : List ServicePath) (next : Station)
      (visits' : List InstanceId) (forwarder' : ForwarderId) (frame' : Captured) (bytes' : List ℕ) (size' : ℕ) (trace' : Traced)
      → StartsWith now known → after ≤ v → later ≡ v → versions' ≡ versions ++ v ∷ [] → table_at now v ≡ Some table → (turn : Turn functions table s.here (GoesOn next))
      → Stands next forwarder' frame' bytes' size' → next.visits ≡ visits' → TraceStep trace trace' s.here next
      → SoFar functions first spi now before later versions' visits' forwarder' frame' bytes' size' trace'
  carries_on s now later v versions' table next visits' forwarder' frame' bytes' size' trace' grows up is longer at turn stands visited step =
      let near = nears functions s.here next turn.answer turn.follows in
      let low = lowered_above s.here.header.head.base.ttl s.alive in
      let not_spent : lowered s.here.header.head.base.ttl ≢ 0 = turn.alive in
      let len : length versions' ≡ length versions + 1 = ap length longer ∙ length-append versions (v ∷ []) in
      record {
        here = next;
        stands = stands;
        visited = visited;
        spi_is = near.spi ∙ s.spi_is;
        first_spi = s.first_spi;
        gone = s.gone ++ next ∷ [];
        tables = s.tables ++ table ∷ [];
        looks = look_more known now before after later v versions versions' s.tables table s.looks grows up is longer at;
        made = near.made first.frame s.made;
        alive = omega (arith, near.ttl, low, not_spent);
        few = omega (arith, near.ttl, low, not_spent, len, s.few, s.alive);
        fewer = omega (arith, near.visits, ap length visited, ap length s.visited, len, s.fewer);
        goes_on = λ later more end vs walk.
            rw (append_assoc s.gone (next ∷ []) later, append_assoc s.tables (table ∷ []) more) (s.goes_on (next ∷ later) (table ∷ more) end vs (turn, walk));
        traces = λ kept later more t.
            let was : trace.kept ≡ true = sym step.kept ∙ kept in
            let added = step.grows was in
            subst (λ (l : List (List ℕ)). TracesFrom first ((s.gone ++ next ∷ []) ++ later) (l ++ more)) (sym added.1)
            (rw (append_assoc s.gone (next ∷ []) later, append_assoc trace.packets added.0 more) (s.traces was (next ∷ later) (added.0 ++ more) (added.2 later more t)));
        untraced = λ kept. let was : trace.kept ≡ false = sym step.kept ∙ kept in step.none was ∙ s.untraced was;
        packets = omega (arith, step.few, s.packets, len);
      }

  -- the room of the frame stays
  pub room_stays : (s : SoFar functions first spi known before after versions visits forwarder frame bytes size trace) → s.here.frame.room ≡ first.frame.room
  room_stays s = ap (λ (f : Captured). f.room) s.made ∙ room-Through functions (numbers s.here.visits) first.frame
