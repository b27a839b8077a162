use Rattle.forwarder.proofs.WalkLengths.{bounded}
use Rattle.forwarder.proofs.laws.a_walk_is_short.Goals as goal

pub returns : goal.returns
returns c = record {
  turns = λ setup frame walk are is. (bounded setup frame walk are is).turns;
  lookups = λ setup frame walk are is. (bounded setup frame walk are is).lookups;
}
