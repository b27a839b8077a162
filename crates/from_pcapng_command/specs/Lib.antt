pub mod FromPcapngCommand
pub mod FromPcapngSteps
