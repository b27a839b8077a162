-- What a contract sees of a feed.
use Rattle.std.specs.Prelude.{ℕ, Bool, List, Option}
use Rattle.pcap_io.specs.declared.forms.Form.{Form}

-- whether there was no memory before; the form, where the file header was accepted; the packet that was given last, while it
-- is lent; the bytes that are not used up, and the room for more; how many bytes were used
pub record Kept : Type 0 where
  pub failed : Bool
  pub form : Option Form
  pub lent : List ℕ
  pub rest : List ℕ
  pub room : List ℕ
  pub place : ℕ
