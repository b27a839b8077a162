-- The lines of a routes text: the words of a line, cut at its spaces, spell a route. A hop is cut at `=`, its types at `;`,
-- a type from its RDs at `:`, and RDs and targets at `,` (the text is this project's own; the routes are after RFC 9015, section 3).
use Rattle.std.specs.Prelude.{◌≡◌, ◌≢◌, ℕ, ◌≤◌, ◌⊎◌, List, [], ◌∷◌, codes, slice_index, Some, None}
use Rattle.std.specs.Fmt.{decimal}
use Rattle.wire_base.specs.declared.next_hops.NextHop.TheVariants as hops
use Rattle.text_words.specs.Numbers.{IsWithin}
use Rattle.text_words.specs.Hexadecimal.{hexadecimal, IsOctets}
use Rattle.text_words.specs.Addresses.{address_text, IsAddress}
use Rattle.text_words.specs.Pieces.{pieces_of, words_of}
use Rattle.wire_base.specs.declared.next_hops.NextHop.{NextHop}
use Rattle.bgp_update.specs.declared.routes.Nlri.TheVariants as nlris
use Rattle.sfp_attribute.specs.declared.sfps.HopPart.{HopPart}
use Rattle.sfp_attribute.specs.declared.sfps.HopPart.TheVariants as hop_part
use Rattle.sfp_attribute.specs.declared.sfps.Part.{Part}
use Rattle.sfp_attribute.specs.declared.sfps.Part.TheVariants as part
use Rattle.sfp_attribute.specs.Sfps.{sis, FallFrom}
use Rattle.sfc_routes.specs.declared.routes.Route.{Route}

-- pieces that spell values, one piece for each
abbrev pub Each : {V : Type 0} → (List ℕ → V → Type 0) → List (List ℕ) → List V → Type 0
Each Spells [] [] = Unit {0}
Each Spells [] (v ∷ vs) = ⊥
Each Spells (p ∷ ps) [] = ⊥
Each Spells (p ∷ ps) (v ∷ vs) = Spells p v × Each Spells ps vs

-- an RD as 16 hexadecimal digits
abbrev pub SpellsRd : List ℕ → List ℕ → Type 0
SpellsRd word rd = IsOctets 8 rd × (word ≡ hexadecimal rd)

-- RDs joined by commas, perhaps none
abbrev pub SpellsRds : List ℕ → List (List ℕ) → Type 0
SpellsRds word rds = ((word ≡ []) × (rds ≡ [])) ⊎ ((word ≢ []) × Each SpellsRd (pieces_of 44 word) rds)

-- a route target: the first byte is 0, 1 or 2, and the second 2 (RFC 4360, section 4)
pub record SpellsTarget (word target : List ℕ) : Type 0 where
  pub octets : IsOctets 8 target
  pub form : slice_index target 0 ≤ 2
  pub route : slice_index target 1 ≡ 2
  pub spelled : word ≡ hexadecimal target

-- targets joined by commas, or a dash for none
abbrev pub SpellsTargets : List ℕ → List (List ℕ) → Type 0
SpellsTargets word targets = ((word ≡ 45 ∷ []) × (targets ≡ [])) ⊎ ((word ≢ 45 ∷ []) × Each SpellsTarget (pieces_of 44 word) targets)

-- a service function type, and its RDs
pub record SpellsSft (word : List ℕ) (p : HopPart) : Type 0 where
  pub kind : ℕ
  pub list : List ℕ
  pub rds : List (List ℕ)
  pub range : IsWithin 32 65535 kind
  pub cut : pieces_of 58 word ≡ decimal kind ∷ list ∷ []
  pub listed : SpellsRds list rds
  pub is : p ≡ hop_part.Sft kind rds

-- a service index, and one or more types
pub record SpellsHop (word : List ℕ) (p : Part) : Type 0 where
  pub si : ℕ
  pub list : List ℕ
  pub inside : List HopPart
  pub range : IsWithin 1 255 si
  pub cut : pieces_of 61 word ≡ decimal si ∷ list ∷ []
  pub listed : Each SpellsSft (pieces_of 59 list) inside
  pub is : p ≡ part.Hop si inside

-- `sfir`, an RD, a type, an address, targets
pub record SpellsSfir (words : List (List ℕ)) (r : Route) : Type 0 where
  pub rd : List ℕ
  pub kind : ℕ
  pub address : NextHop
  pub list : List ℕ
  pub targets : List (List ℕ)
  pub rd_fits : IsOctets 8 rd
  pub kind_fits : IsWithin 0 65535 kind
  pub address_fits : IsAddress address
  pub words_are : words ≡ codes "sfir" ∷ hexadecimal rd ∷ decimal kind ∷ address_text address ∷ list ∷ []
  pub listed : SpellsTargets list targets
  pub is : r ≡ record { nlri = nlris.Sfir rd kind; next_hop = address; targets = targets; path = None }

-- 0.0.0.0
abbrev pub no_address : NextHop
no_address = hops.Four (0 ∷ 0 ∷ 0 ∷ 0 ∷ [])

-- `sfpr`, an RD, an SPI, targets, and one or more hops whose service indexes fall strictly
pub record SpellsSfpr (words : List (List ℕ)) (r : Route) : Type 0 where
  pub rd : List ℕ
  pub spi : ℕ
  pub list : List ℕ
  pub targets : List (List ℕ)
  pub behind : List (List ℕ)
  pub path : List Part
  pub rd_fits : IsOctets 8 rd
  pub spi_fits : IsWithin 0 16777215 spi
  pub words_are : words ≡ codes "sfpr" ∷ hexadecimal rd ∷ decimal spi ∷ list ∷ behind
  pub listed : SpellsTargets list targets
  pub some : behind ≢ []
  pub hops : Each SpellsHop behind path
  pub falls : FallFrom 256 (sis path)
  pub is : r ≡ record { nlri = nlris.Sfpr rd spi; next_hop = no_address; targets = targets; path = Some (record { parts = path }) }

-- the line spells the route
abbrev pub SpellsRoute : List ℕ → Route → Type 0
SpellsRoute line r = SpellsSfir (words_of line) r ⊎ SpellsSfpr (words_of line) r
