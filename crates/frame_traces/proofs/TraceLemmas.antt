-- What the frames of a round hand over, frame by frame.
use Rattle.std.proofs.Common.{◌≡◌, ℕ, suc, ◌+◌, ◌-◌, ◌<◌, ◌≤◌, Bool, true, Some, List, [], ◌∷◌, ◌++◌, length, map, take, drop, get_or, All, Result, Ok, Err, refl, sym, ap, subst, ◌∙◌, append_assoc, arith}
use Rattle.std.specs.List.{AllZip}
use Rattle.std.proofs.lemmas.Grind.{flat_map-append}
use Rattle.std.proofs.lemmas.List.{append-nil, map-append, take-append-drop, take_more}
use Rattle.std.proofs.Math.Seq.{drop-cons}
use Rattle.std.proofs.lemmas.List.Elements.{All-from_recursion, All-push, recursion_from_All}
use Rattle.sfc_desk.specs.declared.ports.Port.{Port}
use Rattle.sfc_desk.specs.Desks.{Shown, Files}
use Rattle.net_frames.specs.Captured.{Captured as Framed}
use Rattle.wire_base.specs.Numbers.{AreBytes}
use Rattle.pcap_io.specs.declared.forms.Form.{Form}
use Rattle.pcap_io.specs.declared.frames.Captured.{Captured}
use Rattle.pcap_io.specs.Captures.{packet, packets}
use Rattle.commands.specs.declared.writing.WriteFault.{WriteFault}
use Rattle.commands.specs.Pieces.{Waiting}
use Rattle.control_files.specs.declared.segments.Segment.{Segment}
use Rattle.session_machine.specs.Groups.{Entry}
use Rattle.path_selection.specs.Paths.{ServicePath}
use Rattle.path_selection.specs.Published.{Published, one_table, table_at}
use Rattle.sfc_routes.specs.Entries.{IsRoster}
use Rattle.forwarder.specs.Traces.{Worked}
use Rattle.forwarder.specs.Walks.{IsWalk, Walk}
use Rattle.control_histories.specs.Logs.{AreOfPeers, changes_of}
use Rattle.control_histories.specs.Versions.{TableAfter}
use Rattle.forwarder.specs.Workspaces.{Forwarded, taken_in}
use Rattle.record_text.specs.declared.records.Record.{Record}
use Rattle.sfc_config.specs.Parts.{Parts}
use Rattle.sfc_routes.specs.declared.route_changes.RouteChange.{RouteChange}
use Rattle.worker_run.specs.Batches.{Carried, frames_in}
use Rattle.worker_run.proofs.OneSaying.{OneLog}
use Rattle.worker_run.proofs.RecordLemmas.{IsOnly, only_version, over_versions}
use Rattle.worker_run.proofs.RunLemmas.{part, zip_join}
use Rattle.worker_run.proofs.StillLemmas.{looks_only}
use Rattle.round_outputs.specs.RoundOutputs.{Puts}
use Rattle.round_outputs.proofs.PutLemmas.{puts_failed, puts_stopped, puts_then}
use Rattle.frame_traces.specs.Keeping.{KeepsWalk, PutsEach, PutsFirst, as_captured}
use Rattle.frame_traces.specs.Traces.{HandsOver, OneWalkEach, SaysTraces, TracesFrame, trace_packets}
use Rattle.frame_traces.proofs.CutLemmas.{walk_cut}
use Rattle.frame_traces.proofs.HandLemmas.{front_handed, handed_of, hands_over, one_list_handed}

-- what is kept of a frame's walk is what the frame hands over
traces_frame : (setup : Parts) (changes : List RouteChange) (frame : Captured) (kept : List (List ℕ)) → length frame.bytes ≤ frame.original → All AreBytes kept
    → KeepsWalk setup changes frame kept → TracesFrame setup changes frame (map (handed_of frame) kept)
traces_frame setup changes frame kept captured are x = record {
  outcome = x.outcome;
  single = x.single;
  hands = hands_over frame x.single.told.walk.stations kept captured (walk_cut setup (taken_in frame.bytes frame.original) x.single.told.walk captured x.single.told.walks) (recursion_from_All AreBytes kept are) x.traces;
}

-- the first packets kept are the first that the frame hands over
first_handed : (setup : Parts) (changes : List RouteChange) (frame : Captured) (kept : List (List ℕ)) (k : ℕ) (all : List Captured) → OneWalkEach setup changes → length frame.bytes ≤ frame.original
    → All AreBytes (take k kept) → KeepsWalk setup changes frame kept → TracesFrame setup changes frame all → (rest : List Captured) × (map (handed_of frame) (take k kept) ++ rest ≡ all)
first_handed setup changes frame kept k all one captured are x y =
    let walk : y.single.told.walk ≡ x.single.told.walk = one frame y.outcome x.outcome y.single x.single in
    let hands : HandsOver frame x.single.told.walk.stations all = subst (λ (w : Walk). HandsOver frame w.stations all) walk y.hands in
    front_handed frame x.single.told.walk.stations kept k all captured (walk_cut setup (taken_in frame.bytes frame.original) x.single.told.walk captured x.single.told.walks)
    (recursion_from_All AreBytes (take k kept) are) x.traces hands

-- a frame hands over one list
pub one_list_traced : (setup : Parts) (changes : List RouteChange) (frame : Captured) (here there : List Captured) → OneWalkEach setup changes → TracesFrame setup changes frame here → TracesFrame setup changes frame there → here ≡ there
one_list_traced setup changes frame here there one x y =
    let walk : x.single.told.walk ≡ y.single.told.walk = one frame x.outcome y.outcome x.single y.single in
    one_list_handed frame y.single.told.walk.stations here there (subst (λ (w : Walk). HandsOver frame w.stations here) walk x.hands) y.hands

-- what was put of the packets kept is what the frame hands over
pub puts_frame : (tells : Bool) (then now : Port → Shown) (had has : Files) (old new : Waiting) (result : Result (Unit {0}) WriteFault) (form : Form) (setup : Parts) (changes : List RouteChange) (frame : Captured) (kept : List (List ℕ))
    → OneWalkEach setup changes → length frame.bytes ≤ frame.original → KeepsWalk setup changes frame kept
    → PutsFirst tells then now had has old new result form frame.seconds frame.fraction (frame.original - length frame.bytes) kept
    → PutsEach tells then now had has old new result (TracesFrame setup changes frame) (packets form)
puts_frame tells then now had has old new (Ok u) form setup changes frame kept one captured x puts = (
  map (handed_of frame) kept,
  traces_frame setup changes frame kept captured (subst (All AreBytes) puts.all puts.are_bytes) x,
  subst (λ (l : List (List ℕ)). Puts tells then now had has old new (Ok u) (packets form (map (handed_of frame) l))) puts.all puts.puts,
)
puts_frame tells then now had has old new (Err e) form setup changes frame kept one captured x puts = λ all traces.
    let first = first_handed setup changes frame kept puts.count all one captured puts.are_bytes x traces in
    subst (Puts tells then now had has old new (Err e)) (sym (flat_map-append (packet form) (map (handed_of frame) (take puts.count kept)) first.0) ∙ ap (packets form) first.1)
    (puts_stopped tells then now had has old new e _ (packets form first.0) puts.puts)

-- ---- packet after packet

-- the first packets of a walk, one of them more
walk_more : (form : Form) (seconds fraction missing : ℕ) (kept : List (List ℕ)) (k : ℕ) (whole : List ℕ) → k < length kept → whole ≡ get_or kept k []
    → packets form (map (as_captured seconds fraction missing) (take k kept)) ++ packet form (as_captured seconds fraction missing whole) ≡ packets form (map (as_captured seconds fraction missing) (take (k + 1) kept))
walk_more form seconds fraction missing kept k whole below is =
    let shown = as_captured seconds fraction missing in
    ap (λ l. packets form (map shown (take k kept)) ++ l) (sym (append-nil (packet form (shown whole))))
    ∙ (sym (flat_map-append (packet form) (map shown (take k kept)) (shown whole ∷ []))
    ∙ ap (packets form) (sym (map-append shown (take k kept) (whole ∷ [])) ∙ ap (map shown) (ap (λ (w : List ℕ). take k kept ++ w ∷ []) is ∙ sym (take_more kept k [] below))))

-- these packets were put, and they are bytes
pub record PutsSoFar (tells : Bool) (then now : Port → Shown) (had has : Files) (old new : Waiting) (result : Result (Unit {0}) WriteFault) (form : Form) (seconds fraction missing : ℕ) (first : List (List ℕ)) : Type 0 where
  pub are_bytes : All AreBytes first
  pub puts : Puts tells then now had has old new result (packets form (map (as_captured seconds fraction missing) first))

-- one packet more was put, or putting it failed
pub walk_goes_on : (tells : Bool) (at-0 at-1 at-2 : Port → Shown) (held-0 held-1 held-2 : Files) (out-0 out-1 out-2 : Waiting) (u : Unit {0}) (result : Result (Unit {0}) WriteFault) (form : Form) (seconds fraction missing : ℕ) (kept : List (List ℕ)) (k : ℕ) (whole : List ℕ)
    → k < length kept → whole ≡ get_or kept k [] → AreBytes whole → All AreBytes (take k kept)
    → Puts tells at-0 at-1 held-0 held-1 out-0 out-1 (Ok u) (packets form (map (as_captured seconds fraction missing) (take k kept)))
    → Puts tells at-1 at-2 held-1 held-2 out-1 out-2 result (packet form (as_captured seconds fraction missing whole))
    → PutsSoFar tells at-0 at-2 held-0 held-2 out-0 out-2 result form seconds fraction missing (take (k + 1) kept)
walk_goes_on tells at-0 at-1 at-2 held-0 held-1 held-2 out-0 out-1 out-2 u result form seconds fraction missing kept k whole below is are all first then =
    let more : take k kept ++ whole ∷ [] ≡ take (k + 1) kept = ap (λ (w : List ℕ). take k kept ++ w ∷ []) is ∙ sym (take_more kept k [] below) in
    record {
      are_bytes = subst (All AreBytes) more (All-push AreBytes (take k kept) whole all are);
      puts = subst (Puts tells at-0 at-2 held-0 held-2 out-0 out-2 result) (walk_more form seconds fraction missing kept k whole below is)
          (puts_then tells at-0 at-1 at-2 held-0 held-1 held-2 out-0 out-1 out-2 u result _ _ first then);
    }

-- ---- frame after frame

pub zip_once : {A B : Type 0} (R : A → B → Type 0) → ((x : A) (u v : B) → R x u → R x v → u ≡ v) → (xs : List A) (us vs : List B) → AllZip R xs us → AllZip R xs vs → us ≡ vs
zip_once R one [] [] [] x y = refl
zip_once R one [] [] (v ∷ vs) x y = absurd y
zip_once R one [] (u ∷ us) vs x y = absurd x
zip_once R one (a ∷ xs) [] vs x y = absurd x
zip_once R one (a ∷ xs) (u ∷ us) [] x y = absurd y
zip_once R one (a ∷ xs) (u ∷ us) (v ∷ vs) x y = ap (λ w. w ∷ us) (one a u v x.0 y.0) ∙ ap (λ l. v ∷ l) (zip_once R one xs us vs x.1 y.1)

first_beside : {A B : Type 0} (R : A → B → Type 0) (x : A) (xs : List A) (zs : List B) → AllZip R (x ∷ xs) zs → (z : B) × (rest : List B) × (zs ≡ z ∷ rest) × R x z
first_beside R x xs [] all = absurd all
first_beside R x xs (z ∷ zs) all = (z, zs, refl, all.0)

drop_one : {A : Type 0} (xs : List A) (i : ℕ) (d : A) → i < length xs → drop i xs ≡ get_or xs i d ∷ drop (i + 1) xs
drop_one xs i d below = let next : suc i ≡ i + 1 = omega arith in drop-cons xs i d below ∙ ap (λ n. get_or xs i d ∷ drop n xs) next

-- the lists that the frames of a batch hand over
abbrev pub AreTraced : Parts → List RouteChange → List Carried → List (List Captured) → Type 0
AreTraced setup changes batch traces = AllZip (λ frame handed. TracesFrame setup changes frame handed) (frames_in batch) traces

-- one frame more was put
pub traced_more : (tells : Bool) (at-0 at-1 at-2 : Port → Shown) (held-0 held-1 held-2 : Files) (out-0 out-1 out-2 : Waiting) (form : Form) (setup : Parts) (changes : List RouteChange) (batch : List Carried) (i : ℕ) (d : Carried) (u v : Unit {0})
    → i < length batch → PutsEach tells at-0 at-1 held-0 held-1 out-0 out-1 (Ok u) (AreTraced setup changes (take i batch)) (trace_packets form)
    → PutsEach tells at-1 at-2 held-1 held-2 out-1 out-2 (Ok v) (TracesFrame setup changes (get_or batch i d).frame) (packets form)
    → PutsEach tells at-0 at-2 held-0 held-2 out-0 out-2 (Ok v) (AreTraced setup changes (take (i + 1) batch)) (trace_packets form)
traced_more tells at-0 at-1 at-2 held-0 held-1 held-2 out-0 out-1 out-2 form setup changes batch i d u v below first then =
    let R : Captured → List Captured → Type 0 = λ frame handed. TracesFrame setup changes frame handed in
    let frames : frames_in (take i batch) ++ (get_or batch i d).frame ∷ [] ≡ frames_in (take (i + 1) batch) =
    sym (map-append (λ (c : Carried). c.frame) (take i batch) (get_or batch i d ∷ [])) ∙ ap frames_in (sym (take_more batch i d below)) in
    let bytes : trace_packets form first.0 ++ packets form then.0 ≡ trace_packets form (first.0 ++ then.0 ∷ []) =
    ap (λ l. trace_packets form first.0 ++ l) (sym (append-nil (packets form then.0))) ∙ sym (flat_map-append (packets form) first.0 (then.0 ∷ [])) in (
      first.0 ++ then.0 ∷ [],
      subst (λ (l : List Captured). AllZip R l (first.0 ++ then.0 ∷ [])) frames (zip_join R (frames_in (take i batch)) ((get_or batch i d).frame ∷ []) first.0 (then.0 ∷ []) first.1 (then.1, tt)),
      subst (Puts tells at-0 at-2 held-0 held-2 out-0 out-2 (Ok v)) bytes
          (puts_then tells at-0 at-1 at-2 held-0 held-1 held-2 out-0 out-1 out-2 u (Ok v) (trace_packets form first.0) (packets form then.0) first.2 then.2),
    )

-- putting one frame more failed
pub traced_stopped : (tells : Bool) (at-0 at-1 at-2 : Port → Shown) (held-0 held-1 held-2 : Files) (out-0 out-1 out-2 : Waiting) (form : Form) (setup : Parts) (changes : List RouteChange) (batch : List Carried) (i : ℕ) (d : Carried) (u : Unit {0}) (e : WriteFault)
    → OneWalkEach setup changes → i < length batch → PutsEach tells at-0 at-1 held-0 held-1 out-0 out-1 (Ok u) (AreTraced setup changes (take i batch)) (trace_packets form)
    → PutsEach tells at-1 at-2 held-1 held-2 out-1 out-2 (Err e) (TracesFrame setup changes (get_or batch i d).frame) (packets form)
    → PutsEach tells at-0 at-2 held-0 held-2 out-0 out-2 (Err e) (AreTraced setup changes batch) (trace_packets form)
traced_stopped tells at-0 at-1 at-2 held-0 held-1 held-2 out-0 out-1 out-2 form setup changes batch i d u e one below first then = λ all are.
    let R : Captured → List Captured → Type 0 = λ frame handed. TracesFrame setup changes frame handed in
    let c = get_or batch i d in
    let behind = drop (i + 1) batch in
    let cut : batch ≡ take i batch ++ (c ∷ behind) = sym (take-append-drop i batch) ∙ ap (λ (l : List Carried). take i batch ++ l) (drop_one batch i d below) in
    let parts = part R (frames_in (take i batch)) (c.frame ∷ frames_in behind) all
    (subst (λ (l : List Captured). AllZip R l all) (ap frames_in cut ∙ map-append (λ (b : Carried). b.frame) (take i batch) (c ∷ behind)) are) in
    let here = first_beside R c.frame (frames_in behind) parts.last parts.back in
    let before : first.0 ≡ parts.first = zip_once R (λ frame x y. one_list_traced setup changes frame x y one) (frames_in (take i batch)) first.0 parts.first first.1 parts.front in
    let bytes : (trace_packets form first.0 ++ packets form here.0) ++ trace_packets form here.1 ≡ trace_packets form all =
    append_assoc (trace_packets form first.0) (packets form here.0) (trace_packets form here.1)
    ∙ (sym (flat_map-append (packets form) first.0 (here.0 ∷ here.1))
    ∙ ap (trace_packets form) (ap (λ (l : List (List Captured)). l ++ here.0 ∷ here.1) before ∙ (ap (λ (l : List (List Captured)). parts.first ++ l) (sym here.2) ∙ sym parts.joined))) in
    puts_failed tells at-0 at-1 at-2 held-0 held-1 held-2 out-0 out-1 out-2 u e (trace_packets form first.0) (packets form here.0) (trace_packets form here.1) (trace_packets form all) bytes first.2 (then here.0 here.3)

-- ---- rounds

-- a round hands over one list for each frame
pub one_tracing : ((setup : Parts) (changes : List RouteChange) → IsRoster setup.roster → OneWalkEach setup changes) → OneLog → (setup : Parts) (history segments : List Segment) (frames : List Captured) (here there : List (List Captured))
    → IsRoster setup.roster → AreOfPeers setup.peers (history ++ segments) → SaysTraces setup history segments frames here → SaysTraces setup history segments frames there → here ≡ there
one_tracing one one_log setup history segments frames here there is of_peers x y =
    let logs : y.log ≡ x.log = one_log setup.local setup.peers (history ++ segments) y.log x.log of_peers y.heard x.heard in
    let R : Captured → List Captured → Type 0 = λ frame handed. TracesFrame setup (changes_of x.log) frame handed in
    zip_once R (λ frame u v. one_list_traced setup (changes_of x.log) frame u v (one setup (changes_of x.log) is)) frames here there x.each
    (subst (λ (log : List Entry). AllZip (λ frame handed. TracesFrame setup (changes_of log) frame handed) frames there) logs y.each)

-- ---- one frame

-- the walk over the one table that a lookup can name is the one that a run on one thread makes
pub keeps_walk : (setup : Parts) (changes : List RouteChange) (table : List ServicePath) (version : ℕ) (frame : Captured) (known : List Published) (before after : ℕ) (bytes : List ℕ) (original : ℕ) (work : Worked) (r : Record)
    → TableAfter setup.roster changes table → version ≡ length changes → bytes ≡ frame.bytes → original ≡ frame.original → known ≡ one_table version table → work.traced ≡ true
    → Forwarded setup (taken_in bytes original) 0 known before after work r → KeepsWalk setup changes frame work.packets
keeps_walk setup changes table version frame known before after bytes original work r after_changes v b o k kept x =
    let same : taken_in bytes original ≡ taken_in frame.bytes frame.original = λ i. taken_in (b i) (o i) in
    let looks : AllZip (IsOnly version table) r.versions.items x.record_is.walk.tables =
    looks_only version table r.versions.items x.record_is.walk.tables (subst (λ (l : List Published). map (table_at l) r.versions.items ≡ map Some x.record_is.walk.tables) k x.record_is.looks.named) in
    let last : AllZip (IsOnly (length changes) table) r.versions.items x.record_is.walk.tables = subst (λ n. AllZip (IsOnly n table) r.versions.items x.record_is.walk.tables) v looks in
    record {
      outcome = r;
      single = record {
        told = record {
          walk = x.record_is.walk;
          walks = subst (λ (g : Framed). IsWalk setup g x.record_is.walk) same x.record_is.walks;
          over = over_versions setup.roster changes table r.versions.items x.record_is.walk.tables after_changes last;
          tells = x.record_is.tells;
        };
        newest = All-from_recursion (λ (n : ℕ). n ≡ length changes) r.versions.items (only_version (length changes) table r.versions.items x.record_is.walk.tables last);
        worker_is = x.record_is.worker_is;
      };
      traces = x.traces.whole kept;
    }
