-- The texts of a run; from its beginning to a view of it; what is written; one output and all three; one step and the next; a round; how it begins
-- and ends; the facts of the command.
pub mod TextLemmas
pub mod ReachLemmas
pub mod WriteLemmas
pub mod WritingExists
pub mod PutLemmas
pub mod AlongLemmas
pub mod TakenLemmas
pub mod RoundLemmas
pub mod StreamLemmas
pub mod OpenLemmas
pub mod CallLemmas
