use Rattle.generate_command.proofs.memory_rounds.+count_at_cut.Given as goal

abbrev pub decreases-count_at_cut : goal.decreases-count_at_cut
decreases-count_at_cut l = l.most
