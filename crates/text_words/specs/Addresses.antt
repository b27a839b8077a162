-- Addresses in texts.
use Rattle.std.specs.Prelude.{ℕ, List, map}
use Rattle.std.specs.List.{join_with_byte}
use Rattle.std.specs.Fmt.{decimal}
use Rattle.wire_base.specs.declared.next_hops.NextHop.{NextHop}
use Rattle.wire_base.specs.declared.next_hops.NextHop.TheVariants.{Four, Sixteen}
use Rattle.text_words.specs.Hexadecimal.{hexadecimal}
-- the bytes that an address has
pub use Rattle.wire_base.specs.Addresses.{IsAddress}

-- four numbers from 0 to 255 joined by points
abbrev pub dotted : List ℕ → List ℕ
dotted octets = join_with_byte 46 (map decimal octets)

-- an address of 4 bytes as four numbers, one of 16 bytes as 32 digits
abbrev pub address_text : NextHop → List ℕ
address_text (Four octets) = dotted octets
address_text (Sixteen octets) = hexadecimal octets
