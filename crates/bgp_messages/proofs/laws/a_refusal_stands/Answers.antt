-- The law of more bytes.
use Rattle.bgp_messages.proofs.MoreReadings.{refused_more}
use Rattle.bgp_messages.proofs.laws.a_refusal_stands.Goals as goal

pub returns : goal.returns
returns c = refused_more
