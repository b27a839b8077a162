-- The lines so far are taken, and the others are to come.
use Rattle.std.proofs.Common.{◌≡◌, take, drop, length}
use Rattle.text_words.specs.Lines.{lines_of}
use Rattle.sfc_config.specs.Drafts.{nothing}
use Rattle.sfc_config.specs.Texts.{Runs}
use Rattle.sfc_config.proofs.parsing.parse_setup.Given as goal

abbrev pub invariant-lines : goal.invariant-lines
invariant-lines l = record {
  so_far : Runs nothing (take l.number (lines_of l.text)) l.draft;
  to_come : drop l.number (lines_of l.text) ≡ l.lines;
}

abbrev pub decreases-lines : goal.decreases-lines
decreases-lines l = length l.lines
