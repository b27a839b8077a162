-- What the words say, and from a round on several workers to what may be said of it.
pub mod ThreadedLemmas
