-- The peers of a setup; from the work on the bound ports to what the answers say; the laws of `announce`.
pub mod PeerLemmas
pub mod RunLemmas
pub mod AnnounceLaws
