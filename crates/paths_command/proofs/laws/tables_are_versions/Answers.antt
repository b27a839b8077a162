use Rattle.std.proofs.Common.{[]}
use Rattle.paths_command.proofs.VersionLemmas.{is_version, tables_count}
use Rattle.paths_command.proofs.laws.tables_are_versions.Goals as goal

pub returns-clause-each : goal.returns-clause-each
returns-clause-each c = is_version

pub returns-clause-count : goal.returns-clause-count
returns-clause-count c = λ roster changes tables v. tables_count roster [] changes tables v
