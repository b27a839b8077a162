pub mod RoundOutputs
