-- The table names the roster alone.
use Rattle.paths_command.proofs.RunLemmas.{table_names}
use Rattle.paths_command.proofs.version_runs.show_version.Goals as goal

pub print_table-requires : goal.print_table-requires
print_table-requires g c = table_names c.args.roster.now c.requires.0 c.in_ok-table.table (c.in_ok-table.ensures c.requires.0 c.requires.1)
