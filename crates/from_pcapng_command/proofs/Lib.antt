-- Four words; the capture of the chosen frames; when a file begins, and that what is refused is not short; the steps of the converter; one answer
-- and one capture for each input; from the conversion to what the command says.
pub mod WordLemmas
pub mod CaptureLemmas
pub mod ReadingLemmas
pub mod RefusalLemmas
pub mod MakerLemmas
pub mod OneCaptureLemmas
pub mod RunLemmas
