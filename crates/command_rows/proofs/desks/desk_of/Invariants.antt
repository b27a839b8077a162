use Rattle.std.proofs.Common.{ℕ, ◌≡◌, ◌≢◌, None, take, string_bytes}
use Rattle.std.proofs.Common.{List}
use Rattle.std.specs.List.{All}
use Rattle.sfc_desk.specs.Calls.{names_of}
use Rattle.command_rows.proofs.desks.desk_of.Given as goal

-- the desk holds nothing under a name that no file so far has
abbrev pub invariant-files : goal.invariant-files
invariant-files l = (name : List ℕ) → All (λ file. string_bytes file.name ≢ name) (take l.i l.files) → names_of l.desk name ≡ None
