-- The bound control file from one segment to the next, and how the work on it ends.
use Rattle.std.proofs.Common.{◌≡◌, ◌≢◌, ◌⊎◌, inl, inr, ℕ, ◌+◌, ◌-◌, ◌*◌, ◌<◌, ◌≤◌, ◌^◌, Bool, true, false, List, [], ◌∷◌, ◌++◌, append_assoc, append-nil, length, drop, Option, Some, None, Result, Ok, Err, cond, nat_lt, arith, refl, sym, ap, ◌∙◌, subst, Contains}
use Rattle.std.specs.List.{AllByRecursion}
use Rattle.std.proofs.lemmas.Bool.{cond_both}
use Rattle.std.proofs.lemmas.List.{length-append}
use Rattle.sfc_desk.specs.declared.ports.Port.{Port}
use Rattle.sfc_desk.specs.declared.ports.Port.TheVariants as ports
use Rattle.sfc_desk.specs.Desks.{Shown as PortShown, Files, Rose, Moves}
use Rattle.control_files.specs.declared.segments.Segment.{Segment}
use Rattle.control_files.specs.declared.segments.SegmentHead.{SegmentHead}
use Rattle.control_files.specs.declared.segments.Mark.{Mark}
use Rattle.control_files.specs.declared.reasons.Refusal.{Refusal}
use Rattle.control_files.specs.declared.reasons.ControlReason.{ControlReason}
use Rattle.control_files.specs.declared.reasons.ControlReason.TheVariants as reasons
use Rattle.control_files.specs.declared.reasons.ControlFault.{ControlFault}
use Rattle.control_files.specs.declared.reasons.ControlFault.TheVariants as ends
use Rattle.control_files.specs.Calls.{Gives, GivesNext, IsHeld, RefusedAt, lent_segment}
use Rattle.control_files.specs.Kept.{Kept}
use Rattle.control_files.specs.Reads.{ReadsControl, Finishes}
use Rattle.control_files.specs.Refusals.{Held, Field, first_bad, fields, refusal_of, told as told_at}
use Rattle.control_files.specs.Segments.{IsControl, numbers, segment_bytes}
use Rattle.control_files.specs.Streams.{NextLent, Stands as FeedStands}
use Rattle.control_files.proofs.ReadsLemmas.{reads_refused_more}
use Rattle.control_files.proofs.SegmentLemmas.{length-segment}
use Rattle.sfc_routes.specs.declared.route_changes.RouteChange.{RouteChange}
use Rattle.sfc_routes.specs.Entries.{Entries}
use Rattle.session_machine.specs.Events.{beginning}
use Rattle.sfc_config.specs.Parts.{Parts}
use Rattle.session_machine.specs.Groups.{Entry}
use Rattle.commands.specs.declared.statuses.Status.{Status}
use Rattle.commands.specs.declared.statuses.Status.TheVariants as status
use Rattle.commands.specs.declared.writing.WriteFault.{WriteFault}
use Rattle.commands.specs.declared.writing.WriteFault.TheVariants as write
use Rattle.commands.specs.Pieces.{NoneBound, SameCounts}
use Rattle.commands.proofs.PlaceLemmas.{rose_from}
use Rattle.control_histories.specs.Logs.{Heard, changes_of}
use Rattle.control_histories.proofs.HeardLemmas.{heard}
use Rattle.control_histories.proofs.TableLemmas.{empty_table}
use Rattle.control_histories.proofs.RoomLemmas.{hold_more}
use Rattle.setup_inputs.proofs.MoveLemmas.{none_bound_yet, none_bound_on, same_counts_on}
use Rattle.paths_command.specs.declared.version_runs.VersionRun.{VersionRun}
use Rattle.paths_command.specs.VersionTexts.{Writes}
use Rattle.paths_command.specs.PathsSteps.{AddsVersion, AddsFront, Shows, Begins, Hearing, IsFor, WroteFront, WroteFrontOf, WroteAll, IsShortWithin, input_of, Touched, ReadsPiece, ReadStops, NoPiece, EndSays, StreamOn, StreamEnded, StreamWorks, StreamSays, status_of_fault}
use Rattle.paths_command.proofs.RunLemmas.{wrote_same}
use Rattle.paths_command.proofs.VersionLemmas.{front_first, shows_first}

-- ---- the ports

pub control_is_no_report : ports.Control ≢ ports.Report
control_is_no_report e = cc

report_is_no_control : ports.Report ≢ ports.Control
report_is_no_control e = cc

abbrev IsPathsPort : Port → Type 0
IsPathsPort port = (port ≡ ports.Control) ⊎ (port ≡ ports.Report)

pub untouched : (tells : Bool) (then : Port → PortShown) → (then ports.Control).bound ≡ true → Touched tells then then
untouched tells then bound = record { none_bound = none_bound_yet tells then; bound = bound; others = λ p a b. refl }

touched_on : (tells : Bool) (port : Port) (had has : Files) (then mid now : Port → PortShown) → IsPathsPort port → Touched tells then mid → Moves tells port had has mid now → Touched tells then now
touched_on tells port had has then mid now is was moves = record {
  none_bound = none_bound_on tells port had has then mid now was.none_bound moves;
  bound = elim is [
    | inl control ↦ subst (λ (q : Port). (now q).bound ≡ true) control moves.still_bound
    | inr report ↦ ap (λ (s : PortShown). s.bound) (moves.elsewhere ports.Control (λ e. control_is_no_report (e ∙ report))) ∙ was.bound
  ];
  others = λ p no_control no_report.
      moves.elsewhere p (λ e. elim is [ inl control ↦ no_control (e ∙ control) | inr report ↦ no_report (e ∙ report) ]) ∙ was.others p no_control no_report;
}

says_quietly : (setup : Parts) (tells : Bool) (then now : Port → PortShown) (answer : Status) → Touched tells then now → SameCounts then now → StreamWorks setup tells then now answer → StreamSays setup tells then now answer
says_quietly setup tells then now answer touched counts works = record {
  works = works;
  none_bound = touched.none_bound;
  counts = λ p differs. counts p;
  others = touched.others;
}

-- a call on a port failed
says_failed : (setup : Parts) (tells : Bool) (port : Port) (had has : Files) (then mid now : Port → PortShown) → IsPathsPort port → Touched tells then mid → SameCounts then mid → Moves tells port had has mid now → Rose (mid port) (now port)
    → (tells ≡ true → WroteFrontOf setup (input_of then) (then ports.Report).written (now ports.Report).written) → StreamSays setup tells then now (status.File port)
says_failed setup tells port had has then mid now is was counts moves rose front =
    let touched = touched_on tells port had has then mid now is was moves in
    record {
      works = ((is, rose_from (then port) (mid port) (now port) (counts port) rose), front);
      none_bound = touched.none_bound;
      counts = λ p differs. ap (λ (s : PortShown). s.faults) (moves.elsewhere p (λ e. differs (ap status.File (sym e)))) ∙ counts p;
      others = touched.others;
    }

-- ---- what was taken of the input

size_taken : (feed : Kept) (taken : List ℕ) (given : List Segment) → FeedStands feed taken given → length taken ≡ feed.place + length feed.rest
size_taken feed taken given s =
    let sum = ap length s.joined in
    let parts = length-append s.front feed.rest in
    let used = s.used in
    omega (arith, sum, parts, used)

-- a front of what segments at the front of the input make
front_of : (setup : Parts) (feed : Kept) (input taken left before now : List ℕ) (given : List Segment) → feed.peers ≡ numbers setup.peers → FeedStands feed taken given → input ≡ taken ++ left → WroteFront setup given before now → WroteFrontOf setup input before now
front_of setup feed input taken left before now given peers s joined wrote = record {
  front = s.front;
  rest = feed.rest ++ left;
  segments = given;
  is_control = subst (λ (ps : List ℕ). IsControl s.front ps given) peers s.is_control;
  joined = joined ∙ ap (λ (l : List ℕ). l ++ left) s.joined ∙ append_assoc s.front feed.rest left;
  wrote = wrote;
}

-- all versions of the segments stand there
on_front : (setup : Parts) (tells : Bool) (then now : Port → PortShown) (feed : Kept) (run : VersionRun) → tells ≡ true → StreamOn setup tells then now feed run → WroteFrontOf setup (input_of then) (then ports.Report).written (now ports.Report).written
on_front setup tells then now feed run told on =
    front_of setup feed (input_of then) on.taken (input_of now) (then ports.Report).written (now ports.Report).written on.segments on.peers on.took (on.joined told)
    (wrote_same setup tells run on.segments feed.place (then ports.Report).written (now ports.Report).written told on.hearing)

-- ---- a segment was given

-- how much room it leaves
pub room_left : (old new : Kept) (head : SegmentHead) → Gives old new head → length (drop 23 new.lent) + length new.rest + old.place < old.place + length old.rest
room_left old new head gives =
    let size = length-segment (lent_segment head new) in
    let sum = ap length gives.rest in
    let parts = length-append (segment_bytes (lent_segment head new)) new.rest in
    omega (arith, size, sum, parts)

pub of_a_peer : (setup : Parts) (old new : Kept) (head : SegmentHead) → old.peers ≡ numbers setup.peers → Gives old new head → Contains (numbers setup.peers) head.peer
of_a_peer setup old new head peers gives = subst (λ (ps : List ℕ). Contains ps head.peer) peers gives.follows.peer

for_more : (setup : Parts) (run : VersionRun) (most more : ℕ) → most ≤ more → IsFor setup run most → IsFor setup run more
for_more setup run most more le f = record {
  peers = f.peers;
  count = hold_more run.sessions.sessions.items most more f.count le;
}

-- it was heard, and its versions were shown
pub segment_taken : (setup : Parts) (tells : Bool) (had has : Files) (then mid now : Port → PortShown) (old new : Kept) (head : SegmentHead) (run run' : VersionRun) (on : StreamOn setup tells then mid old run) → Gives old new head → FeedStands new on.taken (on.segments ++ lent_segment head new ∷ [])
    → Moves tells ports.Report had has mid now → SameCounts mid now
    → Hearing setup tells run' (on.segments ++ lent_segment head new ∷ []) (old.place + length (drop 23 new.lent)) (then ports.Report).written (now ports.Report).written
    → StreamOn setup tells then now new run'
segment_taken setup tells had has then mid now old new head run run' on gives took moves quiet h =
    let size = length-segment (lent_segment head new) in
    let sum = ap length gives.rest in
    let parts = length-append (segment_bytes (lent_segment head new)) new.rest in
    let place = gives.place in
    record {
      touched = touched_on tells ports.Report had has then mid now (inr refl) on.touched moves;
      counts = same_counts_on then mid now on.counts quiet;
      taken = on.taken;
      joined = λ told. on.joined told ∙ ap (λ (s : PortShown). on.taken ++ s.left) (sym (moves.elsewhere ports.Control control_is_no_report));
      segments = on.segments ++ lent_segment head new ∷ [];
      took = took;
      peers = gives.same_peers ∙ on.peers;
      few = omega (arith, on.few, size, sum, parts, place);
      hearing = record {
        is_for = for_more setup run' (old.place + length (drop 23 new.lent)) new.place (omega (arith, place, size)) h.is_for;
        log = h.log;
        hears = h.hears;
        shown = h.shown;
      };
    }

-- its versions were not shown, or in part
segment_front : (setup : Parts) (tells : Bool) (then mid now : Port → PortShown) (old new : Kept) (head : SegmentHead) (run : VersionRun) (on : StreamOn setup tells then mid old run) → Gives old new head → FeedStands new on.taken (on.segments ++ lent_segment head new ∷ [])
    → tells ≡ true → WroteFront setup on.segments (then ports.Report).written (now ports.Report).written ⊎ WroteFront setup (on.segments ++ lent_segment head new ∷ []) (then ports.Report).written (now ports.Report).written
    → WroteFrontOf setup (input_of then) (then ports.Report).written (now ports.Report).written
segment_front setup tells then mid now old new head run on gives took told (inl wrote) =
    front_of setup old (input_of then) on.taken (input_of mid) (then ports.Report).written (now ports.Report).written on.segments on.peers on.took (on.joined told) wrote
segment_front setup tells then mid now old new head run on gives took told (inr wrote) =
    front_of setup new (input_of then) on.taken (input_of mid) (then ports.Report).written (now ports.Report).written (on.segments ++ lent_segment head new ∷ []) (gives.same_peers ∙ on.peers) took (on.joined told) wrote

pub segment_stops : (setup : Parts) (tells : Bool) (had has : Files) (then mid now : Port → PortShown) (old new : Kept) (head : SegmentHead) (run : VersionRun) (fault : WriteFault) (on : StreamOn setup tells then mid old run) → Gives old new head → FeedStands new on.taken (on.segments ++ lent_segment head new ∷ [])
    → Moves tells ports.Report had has mid now → (fault ≡ write.File → Rose (mid ports.Report) (now ports.Report)) → (fault ≡ write.OutOfMemory → SameCounts mid now)
    → (tells ≡ true → WroteFront setup on.segments (then ports.Report).written (now ports.Report).written ⊎ WroteFront setup (on.segments ++ lent_segment head new ∷ []) (then ports.Report).written (now ports.Report).written)
    → StreamSays setup tells then now (status_of_fault fault)
segment_stops setup tells had has then mid now old new head run write.File on gives took moves rose spared front =
    says_failed setup tells ports.Report had has then mid now (inr refl) on.touched on.counts moves (rose refl)
    (λ told. segment_front setup tells then mid now old new head run on gives took told (front told))
segment_stops setup tells had has then mid now old new head run write.OutOfMemory on gives took moves rose spared front =
    says_quietly setup tells then now status.Memory (touched_on tells ports.Report had has then mid now (inr refl) on.touched moves) (same_counts_on then mid now on.counts (spared refl))
    (λ told. segment_front setup tells then mid now old new head run on gives took told (front told))

-- ---- a piece was read

-- a feed with a piece more
pub piece_taken : (setup : Parts) (tells : Bool) (had has : Files) (then mid now : Port → PortShown) (old new : Kept) (run : VersionRun) (more : Bool) → StreamOn setup tells then mid old run → Moves tells ports.Control had has mid now → ReadsPiece tells mid now old new more → StreamOn setup tells then now new run
piece_taken setup tells had has then mid now old new run more on moves reads =
    let same : (now ports.Report) ≡ (mid ports.Report) = moves.elsewhere ports.Report report_is_no_control in
    record {
      touched = touched_on tells ports.Control had has then mid now (inl refl) on.touched moves;
      counts = same_counts_on then mid now on.counts reads.counts;
      taken = on.taken ++ reads.piece;
      joined = λ told. on.joined told ∙ ap (λ (l : List ℕ). on.taken ++ l) (reads.joined told) ∙ sym (append_assoc on.taken reads.piece (input_of now));
      segments = on.segments;
      took = reads.history on.taken on.segments on.took;
      peers = reads.peers ∙ on.peers;
      few = reads.few;
      hearing = subst (λ (n : ℕ). Hearing setup tells run on.segments n (then ports.Report).written (now ports.Report).written) (sym reads.place)
          (subst (λ (s : PortShown). Hearing setup tells run on.segments old.place (then ports.Report).written s.written) (sym same) on.hearing);
    }

held_still : (old new : Kept) → new.peers ≡ old.peers → new.mark ≡ old.mark → new.place ≡ old.place → new.rest ≡ old.rest → IsHeld old → IsHeld new
held_still old new peers mark place rest h =
    subst (λ (ps : List ℕ). Held ps new.mark new.place new.rest) (sym peers)
    (subst (λ (m : Mark). Held old.peers m new.place new.rest) (sym mark)
    (subst (λ (n : ℕ). Held old.peers old.mark n new.rest) (sym place)
    (subst (λ (l : List ℕ). Held old.peers old.mark old.place l) (sym rest) h)))

-- or the end was met
pub end_met : (setup : Parts) (tells : Bool) (had has : Files) (then mid now : Port → PortShown) (old new : Kept) (run : VersionRun) (more : Bool) → more ≡ false → StreamOn setup tells then mid old run → IsHeld old → Moves tells ports.Control had has mid now → ReadsPiece tells mid now old new more → StreamEnded setup tells then now new run
end_met setup tells had has then mid now old new run more is on held moves reads = record {
  on = piece_taken setup tells had has then mid now old new run more on moves reads;
  held = held_still old new reads.peers reads.mark reads.place (reads.rest ∙ ap (λ (l : List ℕ). old.rest ++ l) (reads.none is) ∙ append-nil old.rest) held;
  none_left = λ told. reads.end told is;
}

-- why none was read
read_works : (setup : Parts) (tells : Bool) (then mid now : Port → PortShown) (feed : Kept) (run : VersionRun) (answer : Status) → StreamOn setup tells then mid feed run → (now ports.Report) ≡ (mid ports.Report) → NoPiece tells mid now feed answer → StreamWorks setup tells then now answer
read_works setup tells then mid now feed run (status.File port) on same cause = (
  (inl cause.0, rose_from (then port) (mid port) (now port) (on.counts port) cause.1),
  λ told. subst (λ (s : PortShown). WroteFrontOf setup (input_of then) (then ports.Report).written s.written) (sym same) (on_front setup tells then mid feed run told on),
)
read_works setup tells then mid now feed run (status.Long port) on same cause = (
  cause.0,
  λ told. (
    omega (arith, cause.1 told, size_taken feed on.taken on.segments on.took, ap length (on.joined told), length-append on.taken (input_of mid)),
    subst (λ (s : PortShown). WroteFrontOf setup (input_of then) (then ports.Report).written s.written) (sym same) (on_front setup tells then mid feed run told on),
  ),
)
read_works setup tells then mid now feed run status.Memory on same cause =
    λ told. subst (λ (s : PortShown). WroteFrontOf setup (input_of then) (then ports.Report).written s.written) (sym same) (on_front setup tells then mid feed run told on)
read_works setup tells then mid now feed run status.Ok on same cause = absurd cause
read_works setup tells then mid now feed run status.Words on same cause = absurd cause
read_works setup tells then mid now feed run (status.Setup line reason) on same cause = absurd cause
read_works setup tells then mid now feed run (status.Capture place reason) on same cause = absurd cause
read_works setup tells then mid now feed run (status.Control place reason) on same cause = absurd cause
read_works setup tells then mid now feed run (status.Records number) on same cause = absurd cause
read_works setup tells then mid now feed run (status.Pcapng place reason) on same cause = absurd cause

-- or none was read
pub read_stops : (setup : Parts) (tells : Bool) (had has : Files) (then mid now : Port → PortShown) (feed : Kept) (run : VersionRun) (answer : Status) → StreamOn setup tells then mid feed run → Moves tells ports.Control had has mid now → ReadStops tells mid now feed answer → StreamSays setup tells then now answer
read_stops setup tells had has then mid now feed run answer on moves stops =
    let same : (now ports.Report) ≡ (mid ports.Report) = moves.elsewhere ports.Report report_is_no_control in
    let touched = touched_on tells ports.Control had has then mid now (inl refl) on.touched moves in
    record {
      works = read_works setup tells then mid now feed run answer on same stops.cause;
      none_bound = touched.none_bound;
      counts = λ p differs. stops.counts p differs ∙ on.counts p;
      others = touched.others;
    }

-- ---- how it ends

-- what is refused has another reason than that it ends short
never_short : (place size : ℕ) (fs : List Field) → AllByRecursion (λ (f : Field). f.reason ≢ reasons.Short) fs → (r : Refusal) → first_bad place size fs ≡ Some r → r.reason ≢ reasons.Short
never_short place size [] others = λ r is short. cc
never_short place size (f ∷ fs) others =
    cond_both (nat_lt size f.end) None (cond f.good (first_bad place size fs) (Some (told_at (place + f.at) f.reason))) (λ (o : Option Refusal). (r : Refusal) → o ≡ Some r → r.reason ≢ reasons.Short)
    (λ e r is short. cc)
    (λ e. cond_both f.good (first_bad place size fs) (Some (told_at (place + f.at) f.reason)) (λ (o : Option Refusal). (r : Refusal) → o ≡ Some r → r.reason ≢ reasons.Short)
    (λ e'. never_short place size fs others.1)
    (λ e' r is short. let same : told_at (place + f.at) f.reason ≡ r = cc in others.0 (ap (λ (t : Refusal). t.reason) same ∙ short)))

refused_not_short : (peers : List ℕ) (mark : Mark) (place : ℕ) (bytes : List ℕ) (r : Refusal) → refusal_of peers mark place bytes ≡ Some r → r.reason ≢ reasons.Short
unfolding refusal_of
refused_not_short peers mark place bytes r is =
    never_short place (length bytes) (fields peers mark bytes) ((λ e. cc), ((λ e. cc), ((λ e. cc), ((λ e. cc), ((λ e. cc), tt))))) r is

-- the text of all that was shown, for this reading
whole_text : (setup : Parts) (tells : Bool) (then now : Port → PortShown) (feed : Kept) (run : VersionRun) (stop : Option Refusal) → tells ≡ true → (on : StreamOn setup tells then now feed run) → ReadsControl (input_of then) feed.peers on.segments stop → WroteAll setup (input_of then) stop (then ports.Report).written (now ports.Report).written
whole_text setup tells then now feed run stop told on reads =
    let h = on.hearing in
    let shows = h.shown.shows told in (
      shows.0,
      record {
        segments = on.segments;
        reads = subst (λ (ps : List ℕ). ReadsControl (input_of then) ps on.segments stop) on.peers reads;
        log = h.log;
        heard = heard run.sessions setup.local setup.peers on.segments h.log h.is_for.peers h.hears;
        versions = shows.1;
      },
      shows.2,
    )

-- a field is refused
pub refused_says : (setup : Parts) (tells : Bool) (then now : Port → PortShown) (feed : Kept) (run : VersionRun) (r : Refusal) → StreamOn setup tells then now feed run → RefusedAt feed r → StreamSays setup tells then now (status.Control r.place r.reason)
refused_says setup tells then now feed run r on refused =
    says_quietly setup tells then now (status.Control r.place r.reason) on.touched on.counts (λ told. (
      λ short. absurd (refused_not_short feed.peers feed.mark feed.place feed.rest r refused short),
      whole_text setup tells then now feed run (Some r) told on
          (subst (λ (l : List ℕ). ReadsControl l feed.peers on.segments (Some r)) (sym (on.joined told)) (reads_refused_more feed on.taken (input_of now) on.segments r on.took refused)),
    ))

-- all was taken
all_taken : (setup : Parts) (tells : Bool) (then now : Port → PortShown) (feed : Kept) (run : VersionRun) → tells ≡ true → (e : StreamEnded setup tells then now feed run) → input_of then ≡ e.on.taken
all_taken setup tells then now feed run told e = e.on.joined told ∙ ap (λ (l : List ℕ). e.on.taken ++ l) (e.none_left told) ∙ append-nil e.on.taken

within : (setup : Parts) (tells : Bool) (then now : Port → PortShown) (feed : Kept) (run : VersionRun) → tells ≡ true → StreamEnded setup tells then now feed run → length (input_of then) ≤ 2 ^ 40
within setup tells then now feed run told e =
    let few = e.on.few in
    omega (arith, size_taken feed e.on.taken e.on.segments e.on.took, ap length (all_taken setup tells then now feed run told e), few)

pub end_says : (setup : Parts) (tells : Bool) (then now : Port → PortShown) (feed : Kept) (run : VersionRun) (answer : Status) → StreamEnded setup tells then now feed run → EndSays feed answer → StreamSays setup tells then now answer
end_says setup tells then now feed run status.Ok e says =
    says_quietly setup tells then now status.Ok e.on.touched e.on.counts (λ told. (
      within setup tells then now feed run told e,
      e.none_left told,
      whole_text setup tells then now feed run None told e.on
          (subst (λ (l : List ℕ). ReadsControl l feed.peers e.on.segments None) (sym (all_taken setup tells then now feed run told e)) (says e.on.taken e.on.segments e.on.took e.held)),
    ))
end_says setup tells then now feed run (status.Control place reason) e says =
    says_quietly setup tells then now (status.Control place reason) e.on.touched e.on.counts (λ told. (
      λ short. within setup tells then now feed run told e,
      whole_text setup tells then now feed run (Some (told_at place reason)) told e.on
          (subst (λ (l : List ℕ). ReadsControl l feed.peers e.on.segments (Some (told_at place reason))) (sym (all_taken setup tells then now feed run told e)) (says e.on.taken e.on.segments e.on.took e.held)),
    ))
end_says setup tells then now feed run status.Memory e says =
    says_quietly setup tells then now status.Memory e.on.touched e.on.counts (λ told. on_front setup tells then now feed run told e.on)
end_says setup tells then now feed run status.Words e says = absurd says
end_says setup tells then now feed run (status.File port) e says = absurd says
end_says setup tells then now feed run (status.Setup line reason) e says = absurd says
end_says setup tells then now feed run (status.Capture place reason) e says = absurd says
end_says setup tells then now feed run (status.Records number) e says = absurd says
end_says setup tells then now feed run (status.Long port) e says = absurd says
end_says setup tells then now feed run (status.Pcapng place reason) e says = absurd says

-- ---- how it begins

-- nothing was taken
pub stream_begins : (setup : Parts) (tells : Bool) (had has : Files) (then now : Port → PortShown) (feed : Kept) (run : VersionRun) → (then ports.Control).bound ≡ true → Moves tells ports.Report had has then now → SameCounts then now → FeedStands feed [] [] → feed.peers ≡ numbers setup.peers → feed.rest ≡ [] → feed.place ≡ 0 → Begins setup run
    → (tells ≡ true → Shows setup.roster [] (then ports.Report).written (now ports.Report).written) → StreamOn setup tells then now feed run
stream_begins setup tells had has then now feed run bound moves quiet took peers none first begins shows = record {
  touched = touched_on tells ports.Report had has then then now (inr refl) (untouched tells then bound) moves;
  counts = quiet;
  taken = [];
  joined = λ told. ap (λ (s : PortShown). s.left) (sym (moves.elsewhere ports.Control control_is_no_report));
  segments = [];
  took = took;
  peers = peers;
  few = omega (arith, first, ap length none);
  hearing = record {
    is_for = for_more setup run 0 feed.place (omega arith) begins.is_for;
    log = [];
    hears = begins.hears;
    shown = record { routes = begins.routes; version = begins.version; shows = shows };
  };
}

-- how a control file ends that is refused
pub finish_bad : (e : ControlFault) (place : ℕ) (reason : ControlReason) (bytes peers : List ℕ) (given : List Segment) → e ≡ ends.Bad place reason → Finishes (Err e) bytes peers given → ReadsControl bytes peers given (Some (told_at place reason))
finish_bad e place reason bytes peers given is f = subst (λ (x : ControlFault). Finishes (Err x) bytes peers given) is f

-- ---- what a call of the feed gave

pub gives_some : (old new : Kept) (o : Option SegmentHead) (head : SegmentHead) → o ≡ Some head → GivesNext old new (Ok o) → Gives old new head
gives_some old new o head is gives = subst (λ (x : Option SegmentHead). GivesNext old new (Ok x)) is gives

pub lent_some : (o : Option SegmentHead) (head : SegmentHead) (feed : Kept) (taken : List ℕ) (given : List Segment) → o ≡ Some head → NextLent (Ok o) feed taken given → FeedStands feed taken (given ++ lent_segment head feed ∷ [])
lent_some o head feed taken given is lent = subst (λ (x : Option SegmentHead). NextLent (Ok x) feed taken given) is lent

pub gives_none : (old new : Kept) (o : Option SegmentHead) → o ≡ None → GivesNext old new (Ok o) → IsHeld old × (new ≡ old)
gives_none old new o is gives = subst (λ (x : Option SegmentHead). GivesNext old new (Ok x)) is gives

-- ---- version 0

nothing_heard : (setup : Parts) → Heard setup.local setup.peers [] []
nothing_heard setup = record { in_order = refl; each = λ k d lt. (beginning, refl) }

-- it was not written, or in part
first_wrote : (setup : Parts) (roster : Entries) (version : ℕ) (input before now : List ℕ) → roster ≡ setup.roster → version ≡ 0 → AddsFront roster [] version before now → WroteFrontOf setup input before now
first_wrote setup roster version input before now same zero_is front = record {
  front = [];
  rest = input;
  segments = [];
  is_control = record { each = tt; all = refl };
  joined = refl;
  wrote = record {
    log = [];
    heard = nothing_heard setup;
    shows = front_first setup.roster before now ([], empty_table setup.roster)
        (subst (λ (r : Entries). AddsFront r [] 0 before now) same (subst (λ (n : ℕ). AddsFront roster [] n before now) zero_is front));
  };
}

pub first_shown : (setup : Parts) (roster : Entries) (version : ℕ) (before now : List ℕ) → roster ≡ setup.roster → version ≡ 0 → AddsVersion roster [] version before now → Shows setup.roster [] before now
first_shown setup roster version before now same zero_is adds =
    shows_first setup.roster before now
    (subst (λ (r : Entries). AddsVersion r [] 0 before now) same (subst (λ (n : ℕ). AddsVersion roster [] n before now) zero_is adds))

-- nothing was done
pub nothing_done : (setup : Parts) (tells : Bool) (then : Port → PortShown) → (then ports.Control).bound ≡ true → StreamSays setup tells then then status.Memory
nothing_done setup tells then bound =
    says_quietly setup tells then then status.Memory (untouched tells then bound) (λ p. refl)
    (λ told. first_wrote setup setup.roster 0 (input_of then) (then ports.Report).written (then ports.Report).written refl refl (inl refl))

pub first_stops : (setup : Parts) (tells : Bool) (roster : Entries) (version : ℕ) (had has : Files) (then now : Port → PortShown) (fault : WriteFault) → roster ≡ setup.roster → version ≡ 0 → (then ports.Control).bound ≡ true → Moves tells ports.Report had has then now
    → (fault ≡ write.File → Rose (then ports.Report) (now ports.Report)) → (fault ≡ write.OutOfMemory → SameCounts then now) → (tells ≡ true → AddsFront roster [] version (then ports.Report).written (now ports.Report).written) → StreamSays setup tells then now (status_of_fault fault)
first_stops setup tells roster version had has then now write.File same zero_is bound moves rose spared front =
    says_failed setup tells ports.Report had has then then now (inr refl) (untouched tells then bound) (λ p. refl) moves (rose refl)
    (λ told. first_wrote setup roster version (input_of then) (then ports.Report).written (now ports.Report).written same zero_is (front told))
first_stops setup tells roster version had has then now write.OutOfMemory same zero_is bound moves rose spared front =
    says_quietly setup tells then now status.Memory (touched_on tells ports.Report had has then then now (inr refl) (untouched tells then bound) moves) (spared refl)
    (λ told. first_wrote setup roster version (input_of then) (then ports.Report).written (now ports.Report).written same zero_is (front told))
