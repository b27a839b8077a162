-- The fields of a segment and what they show; that bytes are read in one way; what a feed stands for after each call.
pub mod FieldLemmas
pub mod SegmentLemmas
pub mod SegmentLists
pub mod OneReading
pub mod StreamLemmas
pub mod ReadsLemmas
pub mod TotalReadings
