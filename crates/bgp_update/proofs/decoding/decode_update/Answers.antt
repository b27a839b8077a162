-- What was read is all that the bytes can be read as.
use Rattle.bgp_update.proofs.ExactLemmas.{exactly}
use Rattle.bgp_update.proofs.decoding.decode_update.Goals as goal

pub returns-clause-exact : goal.returns-clause-exact
returns-clause-exact c = exactly c.args.body.now c.read_update.result c.read_update.ensures
