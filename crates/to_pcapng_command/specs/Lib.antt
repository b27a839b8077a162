pub mod ToPcapngCommand
pub mod ToPcapngSteps
