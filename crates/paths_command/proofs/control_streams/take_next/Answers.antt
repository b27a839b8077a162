-- A segment was given and its versions shown, or a piece was read, or the work ends here.
use Rattle.std.proofs.Common.{◌≡◌, ◌⊎◌, ◌+◌, ◌-◌, ℕ, List, [], ◌∷◌, ◌++◌, Err, length, take, drop, ap, sym, subst, ◌∙◌}
use Rattle.std.proofs.lemmas.List.{take_rest}
use Rattle.std.proofs.lemmas.Result.{IfOk-weaker, IfErr-weaker}
use Rattle.sfc_desk.specs.declared.ports.Port.TheVariants.{Report}
use Rattle.control_files.specs.Calls.{IsHeld}
use Rattle.control_files.specs.Kept.{Kept}
use Rattle.control_files.specs.Steps.{segment_of}
use Rattle.commands.specs.declared.statuses.Status.{Status}
use Rattle.paths_command.specs.PathsSteps.{Hearing, StreamOn, StreamSays, WroteFront}
use Rattle.paths_command.proofs.StreamLemmas.{gives_some, lent_some, gives_none, segment_taken, segment_stops, piece_taken, end_met, read_stops, refused_says}
use Rattle.paths_command.proofs.control_streams.take_next.Goals as goal

pub returns-in-Ok-clause-goes_on : goal.returns-in-Ok-clause-goes_on
returns-in-Ok-clause-goes_on g c = λ then on is.
    let setup = c.args.setup.now in
    let tells = g.D.Desk.tells in
    let now = g.D.Desk.at c.take_segment.new.desk in
    let old = c.args.feed.now in
    let new = c.next_segment.new.self in
    let head = c.in-Ok-Some.head in
    let bytes = take (length c.segment.result.now - 23) (drop 23 c.segment.result.now) in
    let own : bytes ≡ drop 23 new.lent = take_rest c.segment.result.now 23 ∙ ap (λ (l : List ℕ). drop 23 l) c.segment.ensures in
    segment_taken setup tells _ _ then (g.D.Desk.at c.args.desk.now) now old new head c.args.run.now c.take_segment.new.run on
    (gives_some old new c.in-Ok-Some.field-0 head c.in-Ok-Some.field-0-is c.in-Ok-Some.ensures.next)
    (lent_some c.in-Ok-Some.field-0 head new on.taken on.segments c.in-Ok-Some.field-0-is (c.in-Ok-Some.ensures.history on.taken on.segments on.took))
    c.take_segment.ensures.moves c.in-Ok.ensures.quiet
    (subst (λ (l : List ℕ). Hearing setup tells c.take_segment.new.run (on.segments ++ segment_of head l ∷ []) (old.place + length l) (then Report).written (now Report).written) own
    (c.in-Ok.ensures.goes_on on.segments old.place (then Report).written on.hearing))

pub returns-in-Err-take_segment-clause-stops : goal.returns-in-Err-take_segment-clause-stops
returns-in-Err-take_segment-clause-stops g c = λ then on.
    let setup = c.args.setup.now in
    let tells = g.D.Desk.tells in
    let now = g.D.Desk.at c.take_segment.new.desk in
    let old = c.args.feed.now in
    let new = c.next_segment.new.self in
    let head = c.in-Ok-Some.head in
    let bytes = take (length c.segment.result.now - 23) (drop 23 c.segment.result.now) in
    let own : bytes ≡ drop 23 new.lent = take_rest c.segment.result.now 23 ∙ ap (λ (l : List ℕ). drop 23 l) c.segment.ensures in
    subst (λ (s : Status). StreamSays setup tells then now s) (sym c.status_of.ensures)
    (segment_stops setup tells _ _ then (g.D.Desk.at c.args.desk.now) now old new head c.args.run.now c.in-Err-take_segment.fault on
    (gives_some old new c.in-Ok-Some.field-0 head c.in-Ok-Some.field-0-is c.in-Ok-Some.ensures.next)
    (lent_some c.in-Ok-Some.field-0 head new on.taken on.segments c.in-Ok-Some.field-0-is (c.in-Ok-Some.ensures.history on.taken on.segments on.took))
    c.take_segment.ensures.moves (λ e. c.in-Err-take_segment.ensures.cause (ap Err e)) (λ e. c.in-Err-take_segment.ensures.spared (ap Err e))
    (λ told. subst (λ (l : List ℕ). WroteFront setup on.segments (then Report).written (now Report).written ⊎ WroteFront setup (on.segments ++ segment_of head l ∷ []) (then Report).written (now Report).written) own
    (c.in-Err-take_segment.ensures.front told on.segments old.place (then Report).written on.hearing)))

-- nothing whole stands at the front
pub returns-in-Ok-None-clause-goes_on : goal.returns-in-Ok-None-clause-goes_on
returns-in-Ok-None-clause-goes_on g c = λ then on.
    let setup = c.args.setup.now in
    let tells = g.D.Desk.tells in
    let mid = g.D.Desk.at c.args.desk.now in
    let same = gives_none c.args.feed.now c.next_segment.new.self c.in-Ok-None.field-0 c.in-Ok-None.field-0-is c.in-Ok-None.ensures.next in
    IfOk-weaker c.read_piece.result _ _
    (λ more reads is. piece_taken setup tells _ _ then mid (g.D.Desk.at c.read_piece.new.desk) c.next_segment.new.self c.read_piece.new.feed c.args.run.now more
    (subst (λ (f : Kept). StreamOn setup tells then mid f c.args.run.now) (sym same.1) on) c.read_piece.ensures.moves reads)
    c.read_piece.ensures.reads

pub returns-in-Ok-None-clause-ended : goal.returns-in-Ok-None-clause-ended
returns-in-Ok-None-clause-ended g c = λ then on.
    let setup = c.args.setup.now in
    let tells = g.D.Desk.tells in
    let mid = g.D.Desk.at c.args.desk.now in
    let same = gives_none c.args.feed.now c.next_segment.new.self c.in-Ok-None.field-0 c.in-Ok-None.field-0-is c.in-Ok-None.ensures.next in
    IfOk-weaker c.read_piece.result _ _
    (λ more reads is. end_met setup tells _ _ then mid (g.D.Desk.at c.read_piece.new.desk) c.next_segment.new.self c.read_piece.new.feed c.args.run.now more is
    (subst (λ (f : Kept). StreamOn setup tells then mid f c.args.run.now) (sym same.1) on) (subst IsHeld (sym same.1) same.0) c.read_piece.ensures.moves reads)
    c.read_piece.ensures.reads

pub returns-in-Ok-None-clause-stops : goal.returns-in-Ok-None-clause-stops
returns-in-Ok-None-clause-stops g c = λ then on.
    let setup = c.args.setup.now in
    let tells = g.D.Desk.tells in
    let mid = g.D.Desk.at c.args.desk.now in
    let same = gives_none c.args.feed.now c.next_segment.new.self c.in-Ok-None.field-0 c.in-Ok-None.field-0-is c.in-Ok-None.ensures.next in
    IfErr-weaker c.read_piece.result _ _
    (λ answer stops. read_stops setup tells _ _ then mid (g.D.Desk.at c.read_piece.new.desk) c.next_segment.new.self c.args.run.now answer
    (subst (λ (f : Kept). StreamOn setup tells then mid f c.args.run.now) (sym same.1) on) c.read_piece.ensures.moves stops)
    c.read_piece.ensures.stops

-- a field is refused
pub returns-in-Err-clause-stops : goal.returns-in-Err-clause-stops
returns-in-Err-clause-stops g c = λ then on.
    refused_says c.args.setup.now g.D.Desk.tells then (g.D.Desk.at c.args.desk.now) c.args.feed.now c.args.run.now c.in-Err.refusal on c.in-Err.ensures.next.0
