-- What the path's table says; where a walk stands, and where it ends; what a forwarder walks over the same table.
pub mod StaticLemmas
pub mod WalkLemmas
pub mod WalkEnds
pub mod ForwarderWalks
