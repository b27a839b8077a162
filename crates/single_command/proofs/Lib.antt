-- What the words say, and from a round on one thread to what may be said of it.
pub mod SingleLemmas
