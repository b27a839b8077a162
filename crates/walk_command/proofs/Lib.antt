-- What frames leave, and that each input has one output; where a walk stands; what its answers say, and that they exclude each other.
pub mod EgressLemmas
pub mod WholeLemmas
pub mod WalkLemmas
pub mod WalkRunLemmas
pub mod WalkAnswerLemmas
