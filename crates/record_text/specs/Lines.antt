-- A record line: the number of the frame, and the parts of its record.
use Rattle.std.specs.Prelude.{◌≡◌, ℕ, ◌<◌, ◌≤◌, ◌^◌, List, [], ◌∷◌, ◌++◌, length, map, Option, Some, None, IfSome, codes}
use Rattle.std.specs.List.{All, join_with_byte}
use Rattle.std.specs.Fmt.{decimal}
use Rattle.wire_base.specs.declared.ids.InstanceId.{InstanceId}
use Rattle.sfc_routes.specs.Entries.{Entries}
use Rattle.record_text.specs.declared.records.Record.{Record}
use Rattle.record_text.specs.Names.{IsInstance, instance_text}
use Rattle.record_text.specs.Lists.{list_text}
use Rattle.record_text.specs.Ends.{end_text, EndNames, EndFits}

-- a label and what stands behind it, in one word
unfoldable pub field : List ℕ → List ℕ → List ℕ
field label text = label ++ text

-- a service path identifier, and a dash where there is no path
abbrev pub path_text : Option ℕ → List ℕ
path_text None = codes "-"
path_text (Some spi) = decimal spi

-- the words of a line
abbrev pub record_words : Entries → ℕ × Record → List (List ℕ)
record_words roster e =
    decimal e.0 ∷ field (codes "worker=") (decimal e.1.worker) ∷ field (codes "path=") (path_text e.1.path)
    ∷ field (codes "versions=") (list_text (map decimal e.1.versions.items))
    ∷ field (codes "visits=") (list_text (map (instance_text roster) e.1.visits.items))
    ∷ field (codes "end=") (end_text roster e.1.end) ∷ []

-- the line with one space between its words, without and with the byte that ends it
unfoldable pub line_of : Entries → ℕ × Record → List ℕ
line_of roster e = join_with_byte 32 (record_words roster e)

abbrev pub ended_line : Entries → ℕ × Record → List ℕ
ended_line roster e = line_of roster e ++ 10 ∷ []

-- the instances that a record names are of the roster
pub record Names (roster : Entries) (r : Record) : Type 0 where
  pub visits_known : All (IsInstance roster) r.visits.items
  pub end_known : EndNames roster r.end

-- versions of 64 bits, and instances of the roster, at most 63 of each
abbrev pub AreVersions : List ℕ → Type 0
AreVersions versions = (length versions ≤ 63) × All (λ v. v < 2 ^ 64) versions

abbrev pub AreVisits : Entries → List InstanceId → Type 0
AreVisits roster visits = (length visits ≤ 63) × All (IsInstance roster) visits

-- a number and a record whose parts have the forms of a line
pub record IsEntry (roster : Entries) (e : ℕ × Record) : Type 0 where
  pub number_fits : e.0 < 2 ^ 64
  pub worker_fits : e.1.worker < 2 ^ 32
  pub path_fits : IfSome e.1.path (λ spi. spi < 2 ^ 24)
  pub versions_fit : AreVersions e.1.versions.items
  pub visits_fit : AreVisits roster e.1.visits.items
  pub end_fits : EndFits roster e.1.end

-- the line, without the byte that ends it, spells the number and the record
abbrev pub IsLine : Entries → List ℕ → ℕ × Record → Type 0
IsLine roster line e = IsEntry roster e × (line ≡ line_of roster e)
