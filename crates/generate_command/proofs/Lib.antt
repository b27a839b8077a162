-- What is counted of a batch; a round taken off the front of lists; from one round to the next, and a whole run; the facts of the command; one
-- summary.
pub mod CountLemmas
pub mod TakingLemmas
pub mod RunLemmas
pub mod WholeLemmas
pub mod GenerateLemmas
pub mod LawLemmas
