pub mod TextLemmas
pub mod BgpLemmas
pub mod AttributeLines
pub mod BgpReadings
pub mod ShowingLemmas
pub mod NshReadings
pub mod BgpTotal
