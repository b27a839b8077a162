-- Numbers and blocks at the front of bytes; what a feed stands for after each call; that bytes are read in one way.
pub mod NumberLemmas
mod OptionLemmas
mod TimeLemmas
pub mod FrontLemmas
mod StepLemmas
pub mod BlockLemmas
mod BeginLemmas
pub mod StreamLemmas
pub mod ReadsLemmas
pub mod OneReading
pub mod TotalReadings
mod FieldLemmas
pub mod WithinLemmas
pub mod WrittenLemmas
