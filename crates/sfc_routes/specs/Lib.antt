pub mod Entries
pub mod PeerRoutes
pub mod LastWords
pub mod RouteOrder
pub mod RouteLists
pub mod Meanings
