pub mod SfcCallLemmas
