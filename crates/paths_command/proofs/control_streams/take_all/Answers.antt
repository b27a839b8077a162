use Rattle.std.proofs.Common.{◌≡◌, false}
use Rattle.paths_command.proofs.StreamLemmas.{end_says}
use Rattle.paths_command.proofs.control_streams.take_all.Goals as goal

-- the control file was read to its end
pub returns-in-Ok-false : goal.returns-in-Ok-false
returns-in-Ok-false g c = λ then on.
    let test = c.in-Ok-false.field-0-test in
    let is : c.in-Ok-false.field-0 ≡ false = cc in
    end_says c.args.setup.now g.D.Desk.tells then (g.D.Desk.at c.take_next.new.desk) c.take_next.new.feed c.take_next.new.run c.end_of.result
    (c.in-Ok-false.ensures.ended then (c.segments.invariant then on) is) c.end_of.ensures

-- or the work ended before
pub returns-in-Err : goal.returns-in-Err
returns-in-Err g c = λ then on. c.in-Err.ensures.stops then (c.segments.invariant then on)
