-- What a rule, a table and a function say of a frame is decided; so a frame has a walk, a round says something, and there is a run.
pub mod VerdictExists
pub mod AnswerExists
pub mod ServiceExists
pub mod WalkExists
pub mod RunExists
