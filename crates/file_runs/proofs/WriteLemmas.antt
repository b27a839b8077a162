-- What was said is what a run writes, or a front of it.
use Rattle.std.proofs.Common.{◌≡◌, ℕ, List, [], ◌++◌, length, Option, refl, sym, ap, subst, ◌∙◌, arith, ◌+◌}
use Rattle.sfc_desk.specs.declared.ports.Port.TheVariants as ports
use Rattle.pcap_io.specs.declared.forms.Form.{Form}
use Rattle.pcap_io.specs.declared.frames.Captured.{Captured}
use Rattle.control_files.specs.declared.segments.Segment.{Segment}
use Rattle.control_files.specs.Segments.{numbers}
use Rattle.record_text.specs.declared.records.Record.{Record}
use Rattle.session_machine.specs.Groups.{Entry}
use Rattle.sfc_config.specs.Parts.{Parts}
use Rattle.sfc_routes.specs.Entries.{IsRoster}
use Rattle.rounds.specs.declared.ends.RunEnd.{RunEnd}
use Rattle.rounds.specs.Counted.{counted, end_of}
use Rattle.rounds.specs.Rounds.{Round, Rounds, frames_of, segments_of}
use Rattle.rounds.specs.Says.{IsOne, Lines, Says}
use Rattle.rounds.specs.Views.{Gives, Inputs, Told, counted_at, counted_of, end_at, ending, view_at_first}
use Rattle.rounds.proofs.FrontRounds.{counted_is_front, fronts, rounds_of_counted}
use Rattle.rounds.proofs.RoundLemmas.{unique}
use Rattle.commands.specs.Fronts.{IsFront}
use Rattle.commands.specs.Outputs.{Outputs}
use Rattle.control_histories.specs.Logs.{AreOfPeers, Heard}
use Rattle.control_histories.specs.Replies.{reply_bytes}
use Rattle.control_histories.proofs.FrontLemmas.{front_heard}
use Rattle.control_histories.proofs.ReplyLemmas.{bytes_behind}
use Rattle.history_laws.proofs.HistoryLemmas.{peers_of_all}
use Rattle.round_inputs.specs.Taking.{AreInputs, EndsAt, left_of}
use Rattle.round_inputs.proofs.LawLemmas.{one_inputs}
use Rattle.worker_run.specs.Outputs.{EgressOf, LinesOf, RepliesOf, lines_from}
use Rattle.worker_run.specs.Runs.{IsSingle}
use Rattle.worker_run.proofs.OneSaying.{OneLog}
use Rattle.worker_run.proofs.RunLemmas.{peers_front}
use Rattle.worker_run.proofs.SingleRuns.{OneSingle, one_single}
use Rattle.file_runs.specs.RunTexts.{AreRuns, CountsTo, RunOf, RunWrites}
use Rattle.file_runs.specs.RunPuts.{Texts, outputs_of, run_means, texts_of}
use Rattle.file_runs.specs.RunSteps.{SaidSo, view_of}
use Rattle.file_runs.proofs.ReachLemmas.{ends_there}
use Rattle.file_runs.proofs.TextLemmas.{egress_more, lines_more, packets_of}

-- from the beginning all frames are whole frames
first_whole : (whole : Inputs) → 0 + length whole.frames ≡ length whole.frames
first_whole whole = omega arith

first_counted : (whole : Inputs) (rounds : List Round) → counted_at {R = Record} (view_at_first whole) rounds ≡ counted_of whole rounds
first_counted whole rounds = ap (λ n. counted n (end_of n whole.capture_fault whole.segments whole.control_fault) rounds) (first_whole whole)

first_end : (whole : Inputs) → end_at {R = Record} (view_at_first whole) ≡ ending whole
first_end whole = ap (λ n. end_of n whole.capture_fault whole.segments whole.control_fault) (first_whole whole)

-- a run over what counts is what the whole run gives
given_by : (says : Says Record) (Is : RunOf) (setup : Parts) (whole : Inputs) (rounds : List Round) (frames : List Captured) (segments : List Segment) (records : List Record) → AreRuns setup says Is
    → Rounds 0 whole.frames whole.segments rounds → frames ≡ frames_of (counted_of whole rounds) → segments ≡ segments_of (counted_of whole rounds) → Is frames segments records
    → Gives says (view_at_first whole) (record { frames = frames; segments = segments; said = records })
given_by says Is setup whole rounds frames segments records runs are frames_are segments_are run =
    let lines = runs.rounds frames segments records run in
    let counted = counted_of whole rounds in
    let own : Rounds 0 frames segments counted =
    subst (λ (fs : List Captured). Rounds 0 fs segments counted) (sym frames_are)
    (subst (λ (ss : List Segment). Rounds 0 (frames_of counted) ss counted) (sym segments_are) (rounds_of_counted (length whole.frames) (ending whole) whole.frames whole.segments rounds are)) in
    let same : lines.0 ≡ counted = unique 0 frames segments lines.0 counted lines.1 own in
    record {
      rounds = rounds;
      are = are;
      here = records;
      run = subst (λ (rs : List Round). Lines says [] rs records) (same ∙ sym (first_counted whole rounds)) lines.2;
      frames_are = frames_are ∙ ap frames_of (sym (first_counted whole rounds));
      segments_are = segments_are ∙ ap segments_of (sym (first_counted whole rounds));
      said_are = refl;
    }

-- what was said so far comes first in what is written
pub record Fronts (texts : Texts) (out : Outputs) : Type 0 where
  pub egress : IsFront texts.egress (out ports.Egress)
  pub lines : IsFront texts.lines (out ports.Lines)
  pub replies : IsFront texts.replies (out ports.Replies)

replies_front : OneLog → (setup : Parts) (history more : List Segment) (log : List Entry) (segments : List Segment) (whole : List Entry) → AreOfPeers setup.peers history → Heard setup.local setup.peers history log
    → segments ≡ history ++ more → Heard setup.local setup.peers segments whole → IsFront (RepliesOf history log) (RepliesOf segments whole)
replies_front one setup history more log segments whole of_peers heard is all =
    let joined : Heard setup.local setup.peers (history ++ more) whole = subst (λ (ss : List Segment). Heard setup.local setup.peers ss whole) is all in
    let cut = front_heard setup.local setup.peers history more whole joined in
    let same : log ≡ cut.0 = one setup.local setup.peers history log cut.0 of_peers heard cut.3 in (
      reply_bytes more cut.1,
      ap (λ (l : List Entry). reply_bytes history l ++ reply_bytes more cut.1) same ∙ sym (bytes_behind history more cut.0 cut.1 cut.3.in_order)
          ∙ ap (λ (l : List Entry). reply_bytes (history ++ more) l) (sym cut.2) ∙ ap (λ (ss : List Segment). reply_bytes ss whole) (sym is),
    )

-- what was said up to a view comes first in the texts of what a run gives that goes on from there
fronts_on : OneLog → (says : Says Record) (setup : Parts) (capture control : List ℕ) (form : Option Form) (passed : List Captured) (history : List Segment) (log : List Entry) (said : List Record) (whole : Inputs) (told : Told Record) (all : List Entry)
    → SaidSo (run_means says setup) setup capture control form passed history log said → Gives says (view_of whole passed history said) told → Heard setup.local setup.peers told.segments all
    → Fronts (texts_of setup form passed history log said) (outputs_of (texts_of setup form told.frames told.segments all told.said))
fronts_on one_log says setup capture control form passed history log said whole told all so given heard =
    let counted = counted_at (view_of whole passed history said) given.rounds in
    let egress : EgressOf setup form told.frames told.said ≡ EgressOf setup form passed said ++ packets_of setup form (frames_of counted) given.here =
    (λ k. EgressOf setup form (given.frames_are k) (given.said_are k)) ∙ egress_more setup form passed (frames_of counted) said given.here so.each in
    let lines : LinesOf setup told.said ≡ LinesOf setup said ++ lines_from setup.roster (0 + length said) given.here =
    ap (LinesOf setup) given.said_are ∙ lines_more setup.roster 0 said given.here in
    record {
      egress = (packets_of setup form (frames_of counted) given.here, sym egress);
      lines = (lines_from setup.roster (0 + length said) given.here, sym lines);
      replies = replies_front one_log setup history (segments_of counted) log told.segments all so.of_peers so.heard given.segments_are heard;
    }

front_of_same_bytes : (part whole other : List ℕ) → other ≡ whole → IsFront part whole → IsFront part other
front_of_same_bytes part whole other is front = (front.0, front.1 ∙ sym is)

-- where of a round one list is said at most, what was said so far comes first in each run of both files
pub fronts_of : OneLog → (says : Says Record) (Is : RunOf) (setup : Parts) (capture control : List ℕ) (form : Option Form) (passed : List Captured) (history : List Segment) (log : List Entry) (said : List Record) (end : RunEnd) (out : Outputs)
    → AreRuns setup says Is → IsOne says (AreOfPeers setup.peers) → SaidSo (run_means says setup) setup capture control form passed history log said → RunWrites Is setup capture control end out → Fronts (texts_of setup form passed history log said) out
fronts_of one_log says Is setup capture control form passed history log said end out runs one so x =
    let whole = x.counts.whole in
    let form_is : x.form ≡ form = so.form_is x.form whole x.counts.read in
    let read : AreInputs capture control form (numbers setup.peers) whole = subst (λ (f : Option Form). AreInputs capture control f (numbers setup.peers) whole) form_is x.counts.read in
    let all = given_by says Is setup whole x.counts.rounds x.frames x.segments x.records runs x.counts.are x.counts.frames_are x.counts.segments_are x.run in
    let told : Told Record = record { frames = x.frames; segments = x.segments; said = x.records } in
    let given = (so.reached whole read).goes one told all in
    let fronts = fronts_on one_log says setup capture control form passed history log said whole told x.log so given x.heard in
    let texts = texts_of setup form passed history log said in
    record {
      egress = front_of_same_bytes texts.egress (EgressOf setup form x.frames x.records) (out ports.Egress) (x.egress ∙ ap (λ (f : Option Form). EgressOf setup f x.frames x.records) form_is) fronts.egress;
      lines = front_of_same_bytes texts.lines (LinesOf setup x.records) (out ports.Lines) x.lines fronts.lines;
      replies = front_of_same_bytes texts.replies (RepliesOf x.segments x.log) (out ports.Replies) x.replies fronts.replies;
    }

-- what the whole run gives is what is written
written_by : (says : Says Record) (Is : RunOf) (setup : Parts) (capture control : List ℕ) (form : Option Form) (end : RunEnd) (whole : Inputs) (told : Told Record) (log : List Entry)
    → AreRuns setup says Is → AreInputs capture control form (numbers setup.peers) whole → end ≡ end_at {R = Record} (view_at_first whole) → Gives says (view_at_first whole) told → AreOfPeers setup.peers told.segments
    → Heard setup.local setup.peers told.segments log → RunWrites Is setup capture control end (outputs_of (texts_of setup form told.frames told.segments log told.said))
written_by says Is setup capture control form end whole told log runs read ends given of_peers heard =
    let counted = counted_of whole given.rounds in
    let same = first_counted whole given.rounds in
    let frames_are : told.frames ≡ frames_of counted = given.frames_are ∙ ap frames_of same in
    let segments_are : told.segments ≡ segments_of counted = given.segments_are ∙ ap segments_of same in
    let own : Rounds 0 told.frames told.segments counted =
    subst (λ (fs : List Captured). Rounds 0 fs told.segments counted) (sym frames_are)
    (subst (λ (ss : List Segment). Rounds 0 (frames_of counted) ss counted) (sym segments_are) (rounds_of_counted (length whole.frames) (ending whole) whole.frames whole.segments given.rounds given.are)) in
    let lines : Lines says [] counted told.said =
    subst (λ (rs : List Round). Lines says [] rs told.said) same (subst (λ (l : List Record). Lines says [] (counted_at {R = Record} (view_at_first whole) given.rounds) l) (sym given.said_are) given.run) in
    record {
      form = form;
      frames = told.frames;
      segments = told.segments;
      records = told.said;
      counts = record {
        whole = whole;
        read = read;
        end_is = ends ∙ first_end whole;
        rounds = given.rounds;
        are = given.are;
        frames_are = frames_are;
        segments_are = segments_are;
      };
      run = runs.run told.frames told.segments counted told.said of_peers own lines;
      log = log;
      heard = heard;
      egress = refl;
      lines = refl;
      replies = refl;
    }

-- where the run ends, what was said is what is written
pub written_there : (says : Says Record) (Is : RunOf) (setup : Parts) (capture control : List ℕ) (form : Option Form) (passed : List Captured) (history : List Segment) (log : List Entry) (said : List Record) (end : RunEnd) (whole : Inputs)
    → AreRuns setup says Is → SaidSo (run_means says setup) setup capture control form passed history log said → AreInputs capture control form (numbers setup.peers) whole → EndsAt (length passed) (left_of whole passed history) end
    → RunWrites Is setup capture control end (outputs_of (texts_of setup form passed history log said))
written_there says Is setup capture control form passed history log said end whole runs so read at =
    let there = ends_there says (AreOfPeers setup.peers) whole passed history said end (so.reached whole read) at in
    written_by says Is setup capture control form end whole (record { frames = passed; segments = history; said = said }) log runs read there.0 there.1 so.of_peers so.heard

-- ---- the peers of the segments that count

peers_of : (setup : Parts) (capture control : List ℕ) (form : Option Form) (end : RunEnd) (frames : List Captured) (segments : List Segment) → CountsTo capture control (numbers setup.peers) form end frames segments → AreOfPeers setup.peers segments
peers_of setup capture control form end frames segments x =
    let whole = x.whole in
    let counted = counted_of whole x.rounds in
    let part = counted_is_front (length whole.frames) (ending whole) x.rounds in
    let front = fronts 0 whole.frames whole.segments counted part.0 (subst (λ (rs : List Round). Rounds 0 whole.frames whole.segments rs) part.1 x.are) in
    let all : AreOfPeers setup.peers (segments_of counted ++ front.1) = subst (AreOfPeers setup.peers) front.3 (peers_of_all setup.peers whole.segments x.read.segments.is_control.each) in
    subst (AreOfPeers setup.peers) (sym x.segments_are) (peers_front setup.peers (segments_of counted) front.1 all)

-- where both files have a run, what was said so far comes first in one
pub fronts_of_some : OneLog → (says : Says Record) (Is : RunOf) (setup : Parts) (capture control : List ℕ) (form : Option Form) (passed : List Captured) (history : List Segment) (log : List Entry) (said : List Record) (end : RunEnd) (out : Outputs)
    → AreRuns setup says Is → SaidSo (run_means says setup) setup capture control form passed history log said → RunWrites Is setup capture control end out
    → (all : Outputs) × RunWrites Is setup capture control end all × Fronts (texts_of setup form passed history log said) all
fronts_of_some one_log says Is setup capture control form passed history log said end out runs so x =
    let whole = x.counts.whole in
    let form_is : x.form ≡ form = so.form_is x.form whole x.counts.read in
    let read : AreInputs capture control form (numbers setup.peers) whole = subst (λ (f : Option Form). AreInputs capture control f (numbers setup.peers) whole) form_is x.counts.read in
    let all = given_by says Is setup whole x.counts.rounds x.frames x.segments x.records runs x.counts.are x.counts.frames_are x.counts.segments_are x.run in
    let reached = so.reached whole read in
    let rest = reached.rests (record { frames = x.frames; segments = x.segments; said = x.records }) all in
    let told : Told Record = record { frames = x.frames; segments = x.segments; said = rest.said } in
    let of_peers = peers_of setup capture control x.form end x.frames x.segments x.counts in (
      outputs_of (texts_of setup form x.frames x.segments x.log rest.said),
      written_by says Is setup capture control form end whole told x.log runs read (x.counts.end_is ∙ sym (first_end whole)) (reached.leads.gives told rest.gives) of_peers x.heard,
      fronts_on one_log says setup capture control form passed history log said whole told x.log so rest.gives x.heard,
    )

-- one run is written
pub one_writing : OneLog → OneSingle → (setup : Parts) (capture control : List ℕ) (end halt : RunEnd) (out other : Outputs) → IsRoster setup.roster
    → RunWrites (IsSingle setup) setup capture control end out → RunWrites (IsSingle setup) setup capture control halt other
    → (end ≡ halt) × (out ports.Egress ≡ other ports.Egress) × (out ports.Lines ≡ other ports.Lines) × (out ports.Replies ≡ other ports.Replies)
one_writing one_log one setup capture control end halt out other roster x y =
    let same = one_inputs capture control (numbers setup.peers) x.form y.form x.counts.whole y.counts.whole x.counts.read y.counts.read in
    let y_are : Rounds 0 x.counts.whole.frames x.counts.whole.segments y.counts.rounds =
    subst (λ (w : Inputs). Rounds 0 w.frames w.segments y.counts.rounds) (sym same.1) y.counts.are in
    let rounds : x.counts.rounds ≡ y.counts.rounds = unique 0 x.counts.whole.frames x.counts.whole.segments x.counts.rounds y.counts.rounds x.counts.are y_are in
    let counted : counted_of x.counts.whole x.counts.rounds ≡ counted_of y.counts.whole y.counts.rounds = λ k. counted_of (same.1 k) (rounds k) in
    let frames : x.frames ≡ y.frames = x.counts.frames_are ∙ ap frames_of counted ∙ sym y.counts.frames_are in
    let segments : x.segments ≡ y.segments = x.counts.segments_are ∙ ap segments_of counted ∙ sym y.counts.segments_are in
    let of_peers : AreOfPeers setup.peers y.segments = peers_of setup capture control y.form halt y.frames y.segments y.counts in
    let y_run : IsSingle setup y.frames y.segments x.records = subst (λ (fs : List Captured). IsSingle setup fs y.segments x.records) frames (subst (λ (ss : List Segment). IsSingle setup x.frames ss x.records) segments x.run) in
    let records : x.records ≡ y.records = one_single one setup y.frames y.segments x.records y.records roster of_peers y_run y.run in
    let log : x.log ≡ y.log = one_log setup.local setup.peers y.segments x.log y.log of_peers (subst (λ (ss : List Segment). Heard setup.local setup.peers ss x.log) segments x.heard) y.heard in (
      x.counts.end_is ∙ ap ending same.1 ∙ sym y.counts.end_is,
      x.egress ∙ (λ k. EgressOf setup (same.0 k) (frames k) (records k)) ∙ sym y.egress,
      x.lines ∙ ap (LinesOf setup) records ∙ sym y.lines,
      x.replies ∙ (λ k. RepliesOf (segments k) (log k)) ∙ sym y.replies,
    )
