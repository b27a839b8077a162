pub mod BatchLemmas
pub mod PutLemmas
