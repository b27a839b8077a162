-- Which candidates a hop names, and which of them serves (after RFC 9015, sections 3.2 and 7).
use Rattle.std.specs.Prelude.{ℕ, ◌+◌, ◌%◌, ◌==◌, ◌≤◌, ◌&&◌, ◌||◌, Bool, false, Option, List, [], ◌∷◌, map, filter, length}
use Rattle.std.specs.List.{list_any, slice_get}
use Rattle.std.specs.Cmp.Lexicographic.{slice_cmp}
use Rattle.std.specs.Ordering.{nat_cmp, is_eq}
use Rattle.wire_base.specs.declared.ids.ForwarderId.{ForwarderId}
use Rattle.wire_base.specs.declared.ids.InstanceId.{InstanceId}
use Rattle.sfp_attribute.specs.declared.sfps.HopPart.{HopPart}
use Rattle.sfp_attribute.specs.declared.sfps.HopPart.TheVariants as hop_part
use Rattle.path_selection.specs.declared.hops.HopRow.{HopRow}
use Rattle.route_selection.specs.declared.candidates.Candidate.{Candidate}

-- the RD that stands for all
abbrev pub any_rd : List ℕ
any_rd = 0 ∷ 0 ∷ 0 ∷ 0 ∷ 0 ∷ 0 ∷ 0 ∷ 0 ∷ []

abbrev pub is_same : List ℕ → List ℕ → Bool
is_same a b = is_eq (slice_cmp nat_cmp a b)

-- an RD of an SFT stands for itself, or for all
abbrev pub takes : List ℕ → List ℕ → Bool
takes own rd = is_same rd own || is_same rd any_rd

-- an SFT names the candidates of its type that one of its RDs stands for
abbrev pub names : Candidate → HopPart → Bool
names c (hop_part.Sft kind rds) = (kind == c.kind) && list_any (takes c.rd) rds
names c (hop_part.Other kind body) = false

-- some SFT of the hop names the candidate
abbrev pub is_named : List HopPart → Candidate → Bool
is_named inside c = list_any (names c) inside

-- the candidates of a hop, each once, in order of type, then RD
abbrev pub candidates : List Candidate → List HopPart → List Candidate
candidates usable inside = filter (is_named inside) usable

abbrev pub seat : Candidate → ForwarderId × InstanceId
seat c = (c.forwarder, c.instance)

-- of n seats number `number mod n`, before which so many stand; none where there is none
abbrev pub choice_among : ℕ → List (ForwarderId × InstanceId) → Option (ForwarderId × InstanceId)
choice_among number seats = slice_get seats (number % length seats)

-- the row of a hop: the number that chooses is its path's SPI and its own SI together
abbrev pub row_at : List Candidate → ℕ → ℕ → List HopPart → HopRow
row_at usable spi si inside = record { si = si; choice = choice_among (spi + si) (map seat (candidates usable inside)) }

-- an SFT of the part has a type that is not lower, or not higher; other parts have no type
abbrev pub IsFrom : ℕ → HopPart → Type 0
IsFrom low (hop_part.Sft kind rds) = low ≤ kind
IsFrom low (hop_part.Other kind body) = Unit {0}

abbrev pub IsUpTo : ℕ → HopPart → Type 0
IsUpTo high (hop_part.Sft kind rds) = kind ≤ high
IsUpTo high (hop_part.Other kind body) = Unit {0}
