-- How much of a frame is captured along its walk; the packets that the walk hands over; what is put of them, frame by frame.
pub mod CutLemmas
pub mod HandLemmas
pub mod TraceLemmas
pub mod TraceRunLemmas
