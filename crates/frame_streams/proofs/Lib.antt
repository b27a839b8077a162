-- From the steps of a conversion to what a command says, and from that to what its input asks for.
pub mod TurningLemmas
pub mod RunLemmas
pub mod StreamLemmas
