pub mod LocalSide
