use Rattle.std.proofs.Common.{◌≢◌, take, string_bytes}
use Rattle.std.specs.List.{All}
use Rattle.command_rows.proofs.desks.is_taken.Given as goal

-- no file so far has the name
abbrev pub invariant-files : goal.invariant-files
invariant-files l = All (λ file. string_bytes file.name ≢ l.name) (take l.file-index l.files)
