-- The text of each part of a route, as it is printed. A line that spells a route is this text.
use Rattle.std.specs.Prelude.{ℕ, List, [], ◌∷◌, ◌++◌, map, codes, Option, Some, None}
use Rattle.std.specs.List.{flat_map, join_with_byte}
use Rattle.std.specs.Fmt.{decimal}
use Rattle.text_words.specs.Hexadecimal.{hexadecimal}
use Rattle.text_words.specs.Addresses.{address_text}
use Rattle.bgp_update.specs.declared.routes.Nlri.{Nlri}
use Rattle.bgp_update.specs.declared.routes.Nlri.TheVariants as nlris
use Rattle.sfp_attribute.specs.declared.sfps.HopPart.{HopPart}
use Rattle.sfp_attribute.specs.declared.sfps.HopPart.TheVariants as hop_part
use Rattle.sfp_attribute.specs.declared.sfps.Part.{Part}
use Rattle.sfp_attribute.specs.declared.sfps.Part.TheVariants as part
use Rattle.sfp_attribute.specs.declared.sfps.Sfp.{Sfp}
use Rattle.sfc_routes.specs.declared.routes.Route.{Route}
use Rattle.route_texts.specs.RouteTexts.{ended}

-- runs of bytes as digits, joined by commas
abbrev pub digits_text : List (List ℕ) → List ℕ
digits_text runs = join_with_byte 44 (map hexadecimal runs)

-- targets, or a dash for none
abbrev pub targets_text : List (List ℕ) → List ℕ
targets_text [] = 45 ∷ []
targets_text (t ∷ ts) = digits_text (t ∷ ts)

-- a type and its RDs; what else a hop may hold has no text
abbrev pub sft_text : HopPart → List ℕ
sft_text (hop_part.Sft kind rds) = decimal kind ++ 58 ∷ digits_text rds
sft_text (hop_part.Other kind body) = []

abbrev pub sfts_text : List HopPart → List ℕ
sfts_text inside = join_with_byte 59 (map sft_text inside)

-- a hop; what else a path may hold has no text
abbrev pub hop_text : Part → List ℕ
hop_text (part.Hop si inside) = decimal si ++ 61 ∷ sfts_text inside
hop_text (part.Association kind rd spi) = []
hop_text (part.Other kind body) = []

abbrev pub hops_of : Option Sfp → List Part
hops_of None = []
hops_of (Some s) = s.parts

-- the words of a route's line; a route of another type has none
abbrev pub words_for : Nlri → Route → List (List ℕ)
words_for (nlris.Sfir rd kind) r = codes "sfir" ∷ hexadecimal rd ∷ decimal kind ∷ address_text r.next_hop ∷ targets_text r.targets ∷ []
words_for (nlris.Sfpr rd spi) r = codes "sfpr" ∷ hexadecimal rd ∷ decimal spi ∷ targets_text r.targets ∷ map hop_text (hops_of r.path)
words_for (nlris.Other kind body) r = []

abbrev pub line_text : Route → List ℕ
line_text r = join_with_byte 32 (words_for r.nlri r)

-- a line for each route
abbrev pub routes_text : List Route → List ℕ
routes_text routes = flat_map (λ r. ended (line_text r)) routes
