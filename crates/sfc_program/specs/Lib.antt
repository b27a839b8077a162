pub mod SfcCalls
