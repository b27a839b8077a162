-- What is said is the OPEN of the local side.
use Rattle.std.proofs.Common.{◌≡◌, ◌++◌, OnOk, subst}
use Rattle.bgp_messages.specs.declared.messages.Message.TheVariants as messages
use Rattle.bgp_messages.specs.declared.opens.Open.{Open}
use Rattle.bgp_messages.specs.Messages.{spelling}
use Rattle.session_machine.proofs.spoken.say_open.Goals as goal

pub returns : goal.returns
returns c = subst (λ (o : Open). OnOk c.say.result (c.say.new.out ≡ c.args.out.now ++ spelling (messages.Open o))) c.in_ok-opening.ensures c.say.ensures
