-- What was read is all that the value can be read as.
use Rattle.sfp_attribute.proofs.ExactLemmas.{exactly}
use Rattle.sfp_attribute.proofs.decoding.decode_sfp.Goals as goal

pub returns-clause-exact : goal.returns-clause-exact
returns-clause-exact c = exactly c.args.value.now c.read_sfp.result c.read_sfp.ensures
