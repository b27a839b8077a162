-- The numbers of a head and what they show; that bytes are read in one way; what a feed stands for after each call.
pub mod HeadLemmas
pub mod ReadingLemmas
pub mod FileHeadLemmas
pub mod PacketLemmas
pub mod OneReading
pub mod ExactLemmas
pub mod StreamLemmas
pub mod ReadsLemmas
pub mod TotalReadings
