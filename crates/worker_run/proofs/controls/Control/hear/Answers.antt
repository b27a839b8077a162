-- The session with the peer steps, and what it sends is the reply.
use Rattle.std.proofs.Common.{ℕ, List, [], ◌∷◌, ◌++◌, ap, refl, subst, ◌∙◌}
use Rattle.control_files.specs.Segments.{segments_bytes}
use Rattle.control_files.specs.Steps.{segment_of}
use Rattle.session_machine.specs.Groups.{entry}
use Rattle.control_histories.specs.Happenings.{happens}
use Rattle.control_histories.specs.Logs.{Hears}
use Rattle.control_histories.specs.Replies.{reply_to}
use Rattle.worker_run.proofs.ControlLemmas.{hearing}
use Rattle.worker_run.proofs.StepLemmas.{peer_there, same_segment}
use Rattle.worker_run.proofs.controls.Control.hear.Goals as goal

pub step_segment-requires-clause-peer : goal.step_segment-requires-clause-peer
step_segment-requires-clause-peer c = peer_there c.args.self.now c.args.segment.now c.head_of-head.result c.requires.ready c.head_of-head.ensures

pub returns-clause-history : goal.returns-clause-history
returns-clause-history c = λ history log x.
    let s = c.args.segment.now in
    let head = c.head_of-head.result in
    let effects = c.in_ok-bytes.field-0 in
    let before = c.args.replies.now in
    let sessions = c.step_segment.new.sessions in
    let hears : Hears sessions (history ++ segment_of head s.bytes ∷ []) (log ++ entry head.peer (happens (segment_of head s.bytes)) effects ∷ []) =
    subst (λ (b : List ℕ). Hears sessions (history ++ segment_of head b ∷ []) (log ++ entry head.peer (happens (segment_of head b)) effects ∷ [])) c.as_slice.ensures (c.in_ok-bytes.ensures.history history log x) in
    hearing sessions history log s head effects before c.append_reply.new.out (same_segment head s s.bytes c.head_of-head.ensures refl) hears
    (c.in_ok-append_reply.ensures.ok ∙ ap (λ (sent : List ℕ). before ++ segments_bytes (reply_to head.peer head.moment head.position sent)) c.as_slice-3.ensures)
