-- The header that was used up is put, or a front of it was.
use Rattle.std.proofs.Common.{◌≡◌, ◌++◌, ℕ, List, Some, None, sym, ◌∙◌}
use Rattle.sfc_desk.specs.declared.ports.Port.TheVariants as ports
use Rattle.pcap_io.specs.Heads.{file_head}
use Rattle.walk_command.specs.WalkSteps.{State}
use Rattle.walk_command.proofs.WalkLemmas.{state_begun, begin_some, front_of_state, put_fault_begins}
use Rattle.walk_command.proofs.walk_streams.begin_egress.Goals as goal

pub returns-in-Err-put_head-clause-begins : goal.returns-in-Err-put_head-clause-begins
returns-in-Err-put_head-clause-begins g c = λ tells path input left s.
    let out : List ℕ = (g.D.Desk.at c.args.desk.now ports.Egress).written ++ c.args.buffer.now.items in
    let was : c.args.feed.now.form ≡ None = sym c.form.ensures ∙ c.in_default.is in
    let is : c.begin.new.self.form ≡ Some c.in-Ok-Some.form = (begin_some c.in-Ok-Some.field-0 c.in-Ok-Some.form c.begin.new.self s.follows.taken s.given c.in-Ok-Some.field-0-is (c.in-Ok-Some.ensures.history s.follows.taken s.given s.follows.stands)).1 in
    let begun : State path input left (out ++ file_head c.in-Ok-Some.form) c.begin.new.self =
    state_begun path input left out c.args.feed.now c.begin.new.self c.in-Ok-Some.form was is
    (λ taken given st. (begin_some c.in-Ok-Some.field-0 c.in-Ok-Some.form c.begin.new.self taken given c.in-Ok-Some.field-0-is (c.in-Ok-Some.ensures.history taken given st)).0) s in
    let written : List ℕ = (g.D.Desk.at c.put_head.new.desk ports.Egress).written in
    put_fault_begins path input left _ written c.begin.new.self c.in-Err-put_head.fault _ _ c.in-Err-put_head.ensures.faults
    (front_of_state path input left (out ++ file_head c.in-Ok-Some.form) written c.begin.new.self begun (c.in-Err-put_head.ensures.front tells))
