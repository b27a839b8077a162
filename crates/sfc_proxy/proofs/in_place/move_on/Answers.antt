use Rattle.sfc_proxy.proofs.InstanceLemmas.{moved}
use Rattle.sfc_proxy.proofs.in_place.move_on.Goals as goal

-- the eighth byte is the service index
pub returns-in-Passed-clause-spelled : goal.returns-in-Passed-clause-spelled
returns-in-Passed-clause-spelled c = rw c.in-Passed.is (λ h n w. moved c.args.header.now c.set_si.new.bytes h n w c.set_si.ensures.edit c.set_si.ensures.head)
