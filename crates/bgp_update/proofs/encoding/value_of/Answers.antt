-- The communities are those of the attribute.
use Rattle.bgp_update.proofs.encoding.value_of.Goals as goal

pub returns-in-Communities : goal.returns-in-Communities
returns-in-Communities c = rw c.in-Communities.is (rw c.as_slice.ensures at c.communities_of.ensures)
