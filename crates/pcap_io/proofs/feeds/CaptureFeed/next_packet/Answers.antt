-- What the header came to, and then what stands behind it.
use Rattle.std.proofs.Common.{◌≡◌, Option, None, Ok, Err, refl, subst}
use Rattle.pcap_io.specs.declared.forms.Form.{Form}
use Rattle.pcap_io.specs.Calls.{BeginsAt}
use Rattle.pcap_io.proofs.ExactLemmas.{exact_begun, exact_none, exact_err, again_told, BegunAs}
use Rattle.pcap_io.proofs.feeds.CaptureFeed.next_packet.Goals as goal

pub returns-in-Ok-Some-clause-exact : goal.returns-in-Ok-Some-clause-exact
returns-in-Ok-Some-clause-exact c =
    exact_begun c.args.self.now.form c.in-Ok-Some.form c.args.self.now c.begin.new.self c.take_packet.new.self c.take_packet.result
    (subst (λ (f : Option Form). c.args.self.now.form ≡ None → BeginsAt None c.args.self.now c.begin.new.self (Ok f)) c.in-Ok-Some.field-0-is c.in-Ok-Some.ensures.first)
    (subst (λ (f : Option Form). BegunAs c.args.self.now.form (Ok f) c.args.self.now c.begin.new.self) c.in-Ok-Some.field-0-is c.in-Ok-Some.ensures.again)
    c.take_packet.ensures.exact

pub returns-in-Ok-Some-clause-again : goal.returns-in-Ok-Some-clause-again
returns-in-Ok-Some-clause-again c = again_told c.args.self.now c.take_packet.new.self c.take_packet.result (returns-in-Ok-Some-clause-exact c)

pub returns-in-Ok-None-clause-exact : goal.returns-in-Ok-None-clause-exact
returns-in-Ok-None-clause-exact c =
    exact_none c.args.self.now.form c.args.self.now c.begin.new.self
    (subst (λ (f : Option Form). c.args.self.now.form ≡ None → BeginsAt None c.args.self.now c.begin.new.self (Ok f)) c.in-Ok-None.field-0-is c.in-Ok-None.ensures.first)
    (subst (λ (f : Option Form). BegunAs c.args.self.now.form (Ok f) c.args.self.now c.begin.new.self) c.in-Ok-None.field-0-is c.in-Ok-None.ensures.again)

pub returns-in-Err-clause-exact : goal.returns-in-Err-clause-exact
returns-in-Err-clause-exact c = exact_err c.args.self.now.form c.args.self.now c.begin.new.self c.in-Err.refusal refl c.in-Err.ensures.first c.in-Err.ensures.again

pub returns-in-Err-clause-again : goal.returns-in-Err-clause-again
returns-in-Err-clause-again c = again_told c.args.self.now c.begin.new.self (Err c.in-Err.refusal) (returns-in-Err-clause-exact c)
