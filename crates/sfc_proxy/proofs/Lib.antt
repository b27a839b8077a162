pub mod InstanceLemmas
