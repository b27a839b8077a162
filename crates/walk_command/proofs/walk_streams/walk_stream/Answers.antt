-- The walk begins with nothing, and ends as its pieces do.
use Rattle.std.proofs.Common.{◌≤◌, ◌^◌, ◌++◌, ℕ, List, length, sym, ap, subst, ◌∙◌}
use Rattle.sfc_desk.specs.Desks.{Shown}
use Rattle.sfc_desk.specs.declared.ports.Port.TheVariants as ports
use Rattle.pcap_io.specs.Kept.{Kept}
use Rattle.walk_command.specs.WalkSteps.{Ends}
use Rattle.walk_command.proofs.WalkLemmas.{start_state, known_refused, refused_not_short, short_input, nothing_written, capture_is_no_egress}
use Rattle.walk_command.proofs.walk_streams.walk_stream.Goals as goal

pub returns-in_default-clause-ends : goal.returns-in_default-clause-ends
returns-in_default-clause-ends g c = λ tells. nothing_written c.args.path.now (g.D.Desk.at c.args.desk.now ports.Capture).left (g.D.Desk.at c.args.desk.now ports.Egress).written (c.requires.empty tells)

pub returns-in-Ok-walk_pieces-clause-ends : goal.returns-in-Ok-walk_pieces-clause-ends
returns-in-Ok-walk_pieces-clause-ends g c = λ tells.
    let input : List ℕ = (g.D.Desk.at c.args.desk.now ports.Capture).left in
    let at = c.in-Ok-walk_pieces.ensures.reaches tells (g.D.Desk.at c.args.desk.now ports.Capture).left
    (start_state c.args.path.now (g.D.Desk.at c.args.desk.now ports.Capture).left ((g.D.Desk.at c.args.desk.now ports.Egress).written ++ c.in-Ok.buffer.items) c.new-feed.result
    (ap (λ (k : Kept). k.form) c.new-feed.ensures.value) c.new-feed.ensures.history
    (ap (λ (l : List ℕ). l ++ c.in-Ok.buffer.items) (c.requires.empty tells) ∙ c.in-Ok.ensures.items)) in
    let short : length input ≤ 2 ^ 40 = short_input c.walk_pieces.new.feed input (g.D.Desk.at c.walk_pieces.new.desk ports.Capture).left at.0.given (2 ^ 40) at.0.follows at.2 c.in-Ok-walk_pieces.ensures.few in
    subst (λ (p : Shown). Ends c.args.path.now input p.left (g.D.Desk.at c.end_walk.new.desk ports.Egress).written c.end_walk.result) (sym (c.end_walk.ensures.moves.elsewhere ports.Capture capture_is_no_egress))
    (c.end_walk.ensures.ends tells c.args.path.now input (g.D.Desk.at c.walk_pieces.new.desk ports.Capture).left at.2 short at.0 at.1)

pub returns-in-Err-Capture-clause-ends : goal.returns-in-Err-Capture-clause-ends
returns-in-Err-Capture-clause-ends g c = λ tells.
    let input : List ℕ = (g.D.Desk.at c.args.desk.now ports.Capture).left in
    let at = rw c.in-Err-Capture.field-0-is at (c.in-Err-Capture.ensures.reaches tells (g.D.Desk.at c.args.desk.now ports.Capture).left
    (start_state c.args.path.now (g.D.Desk.at c.args.desk.now ports.Capture).left ((g.D.Desk.at c.args.desk.now ports.Egress).written ++ c.in-Ok.buffer.items) c.new-feed.result
    (ap (λ (k : Kept). k.form) c.new-feed.ensures.value) c.new-feed.ensures.history
    (ap (λ (l : List ℕ). l ++ c.in-Ok.buffer.items) (c.requires.empty tells) ∙ c.in-Ok.ensures.items))) in
    c.end_refused.ensures.ends tells c.args.path.now input (g.D.Desk.at c.end_refused.new.desk ports.Capture).left (refused_not_short c.walk_pieces.new.feed c.in-Err-Capture.refusal input at.1)
    (known_refused c.args.path.now input (g.D.Desk.at c.walk_pieces.new.desk ports.Capture).left ((g.D.Desk.at c.walk_pieces.new.desk ports.Egress).written ++ c.walk_pieces.new.buffer.items) c.walk_pieces.new.feed c.in-Err-Capture.refusal at.0 at.1)

pub returns-in-Err-Read-clause-ends : goal.returns-in-Err-Read-clause-ends
returns-in-Err-Read-clause-ends g c = λ tells.
    rw c.in-Err-Read.field-0-is at (c.in-Err-Read.ensures.reaches tells (g.D.Desk.at c.args.desk.now ports.Capture).left
    (start_state c.args.path.now (g.D.Desk.at c.args.desk.now ports.Capture).left ((g.D.Desk.at c.args.desk.now ports.Egress).written ++ c.in-Ok.buffer.items) c.new-feed.result
    (ap (λ (k : Kept). k.form) c.new-feed.ensures.value) c.new-feed.ensures.history
    (ap (λ (l : List ℕ). l ++ c.in-Ok.buffer.items) (c.requires.empty tells) ∙ c.in-Ok.ensures.items)))

pub returns-in-Err-Write-clause-ends : goal.returns-in-Err-Write-clause-ends
returns-in-Err-Write-clause-ends g c = λ tells.
    rw c.in-Err-Write.field-0-is at (c.in-Err-Write.ensures.reaches tells (g.D.Desk.at c.args.desk.now ports.Capture).left
    (start_state c.args.path.now (g.D.Desk.at c.args.desk.now ports.Capture).left ((g.D.Desk.at c.args.desk.now ports.Egress).written ++ c.in-Ok.buffer.items) c.new-feed.result
    (ap (λ (k : Kept). k.form) c.new-feed.ensures.value) c.new-feed.ensures.history
    (ap (λ (l : List ℕ). l ++ c.in-Ok.buffer.items) (c.requires.empty tells) ∙ c.in-Ok.ensures.items)))

pub returns-in-Err-Long-clause-ends : goal.returns-in-Err-Long-clause-ends
returns-in-Err-Long-clause-ends g c = λ tells.
    rw c.in-Err-Long.field-0-is at (c.in-Err-Long.ensures.reaches tells (g.D.Desk.at c.args.desk.now ports.Capture).left
    (start_state c.args.path.now (g.D.Desk.at c.args.desk.now ports.Capture).left ((g.D.Desk.at c.args.desk.now ports.Egress).written ++ c.in-Ok.buffer.items) c.new-feed.result
    (ap (λ (k : Kept). k.form) c.new-feed.ensures.value) c.new-feed.ensures.history
    (ap (λ (l : List ℕ). l ++ c.in-Ok.buffer.items) (c.requires.empty tells) ∙ c.in-Ok.ensures.items)))

pub returns-clause-ends : goal.returns-clause-ends
returns-clause-ends g c = λ tells.
    rw c.in-Err-OutOfMemory.field-0-is at (c.in-Err-OutOfMemory.ensures.reaches tells (g.D.Desk.at c.args.desk.now ports.Capture).left
    (start_state c.args.path.now (g.D.Desk.at c.args.desk.now ports.Capture).left ((g.D.Desk.at c.args.desk.now ports.Egress).written ++ c.in-Ok.buffer.items) c.new-feed.result
    (ap (λ (k : Kept). k.form) c.new-feed.ensures.value) c.new-feed.ensures.history
    (ap (λ (l : List ℕ). l ++ c.in-Ok.buffer.items) (c.requires.empty tells) ∙ c.in-Ok.ensures.items)))
