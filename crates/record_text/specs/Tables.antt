-- The text of a table: its version, and a line for each path in order of the service path identifiers.
use Rattle.std.specs.Prelude.{ℕ, ◌<◌, ◌^◌, List, [], ◌∷◌, ◌++◌, map, Option, Some, None, codes}
use Rattle.std.specs.List.{All, join_with_byte, flat_map}
use Rattle.std.specs.Fmt.{decimal}
use Rattle.wire_base.specs.declared.ids.ForwarderId.{ForwarderId}
use Rattle.wire_base.specs.declared.ids.InstanceId.{InstanceId}
use Rattle.sfc_routes.specs.Entries.{Entries}
use Rattle.path_selection.specs.Paths.{ServicePath, IsTable}
use Rattle.path_selection.specs.declared.hops.HopRow.{HopRow}
use Rattle.record_text.specs.Names.{IsForwarder, forwarder_text, IsInstance, instance_text}

-- an instance at its forwarder, or none
abbrev pub choice_text : Entries → Option (ForwarderId × InstanceId) → List ℕ
choice_text roster None = codes "none"
choice_text roster (Some at) = instance_text roster at.1 ++ 64 ∷ forwarder_text roster at.0

-- a hop: the service index from which on it serves, and who serves
abbrev pub hop_text : Entries → HopRow → List ℕ
hop_text roster row = decimal row.si ++ 61 ∷ choice_text roster row.choice

-- the words of the first line, and of the line of a path
abbrev pub version_words : ℕ → List (List ℕ)
version_words version = codes "version" ∷ decimal version ∷ []

abbrev pub path_words : Entries → ServicePath → List (List ℕ)
path_words roster path = codes "path" ∷ decimal path.spi ∷ map (hop_text roster) path.rows

-- words with one space between them, and the byte that ends their line
abbrev pub ended_words : List (List ℕ) → List ℕ
ended_words words = join_with_byte 32 words ++ 10 ∷ []

unfoldable pub table_text : Entries → ℕ → List ServicePath → List ℕ
table_text roster version table = flat_map ended_words (version_words version ∷ map (path_words roster) table)

-- the forwarders and instances of the table are of the roster
abbrev pub ChoiceNames : Entries → Option (ForwarderId × InstanceId) → Type 0
ChoiceNames roster None = Unit {0}
ChoiceNames roster (Some at) = IsForwarder roster at.0 × IsInstance roster at.1

abbrev pub PathNames : Entries → ServicePath → Type 0
PathNames roster path = All (λ row. ChoiceNames roster row.choice) path.rows

abbrev pub TableNames : Entries → List ServicePath → Type 0
TableNames roster table = All (PathNames roster) table

-- a version of 64 bits, and a table whose identifiers have 24 bits (RFC 8300, section 2.3)
pub record IsPublished (roster : Entries) (version : ℕ) (table : List ServicePath) : Type 0 where
  pub version_fits : version < 2 ^ 64
  pub identifiers_fit : All (λ p. p.spi < 2 ^ 24) table
  pub is_table : IsTable table
  pub known : TableNames roster table
