-- What the frames of a capture come to, and that this is the front of what all of them come to; the steps of the converter; one
-- answer and one file for each input; from the conversion to what the command says.
pub mod FileLemmas
pub mod WriterLemmas
pub mod OneFileLemmas
pub mod AnswerLemmas
