-- What the layers below decide decides each step.
use Rattle.std.proofs.Common.{◌<◌}
use Rattle.std.proofs.lemmas.List.Elements.{All-nil}
use Rattle.session_machine.specs.Events.{beginning}
use Rattle.session_machine.proofs.SomeRun.{some_run}
use Rattle.session_machine.proofs.laws.every_history_has_a_run.Goals as goal

pub returns : goal.returns
returns c = λ side events h.
    some_run (record {
      three = c.every_stream_is_cut.ensures.one_of_three;
      cut = c.every_stream_is_cut.ensures.some_cut;
      first = c.one_reading.ensures.first_of_cut;
      read = c.every_content_is_read_or_refused.ensures;
      change = c.every_update_has_a_change.ensures;
    }) side beginning events (All-nil (λ b. b < 256)) h
