-- The input was read to its end, or the conversion broke off.
use Rattle.std.proofs.Common.{ℕ, List, ◌++◌}
use Rattle.frame_streams.proofs.TurningLemmas.{taken_whole, front_all, end_told, end_said, breaks_told, breaks_front}
use Rattle.frame_streams.proofs.converting.convert_all.Goals as goal

pub returns-in-Ok-clause-told : goal.returns-in-Ok-clause-told
returns-in-Ok-clause-told g c = λ tells words whole s.
    let left : List ℕ = (g.D.Desk.at c.convert_pieces.new.desk c.args.input).left in
    let written : List ℕ = (g.D.Desk.at c.convert_pieces.new.desk c.args.output).written in
    let waits : List ℕ = c.convert_pieces.new.buffer.items in
    let new = c.convert_pieces.new.converter in
    let at = c.in-Ok.ensures.goes_on words whole s in
    let all = taken_whole g.C.Converter.writes words (g.C.Converter.said new) (g.C.Converter.turned new) (g.C.Converter.count new) g.D.Desk.tells whole left written waits tells (c.in-Ok.ensures.end tells) c.in-Ok.ensures.few at in
    end_told (g.C.Converter.turned new) (g.C.Converter.writes words) whole left written waits c.finish.result (c.in-Ok.ensures.end tells)
    (front_all g.C.Converter.writes words (g.C.Converter.said new) (g.C.Converter.turned new) (g.C.Converter.count new) g.D.Desk.tells whole left written waits tells at) all
    (end_said g.C.Converter.writes words (g.C.Converter.said new) whole (written ++ waits) c.finish.result at.same (c.finish.ensures.history whole (written ++ waits) all.turned c.in-Ok.ensures.at_rest))

pub returns-in-Ok-clause-front : goal.returns-in-Ok-clause-front
returns-in-Ok-clause-front g c = λ tells words whole s told.
    let new = c.convert_pieces.new.converter in
    front_all g.C.Converter.writes words (g.C.Converter.said new) (g.C.Converter.turned new) (g.C.Converter.count new) g.D.Desk.tells whole (g.D.Desk.at c.convert_pieces.new.desk c.args.input).left (g.D.Desk.at c.convert_pieces.new.desk c.args.output).written c.convert_pieces.new.buffer.items tells (c.in-Ok.ensures.goes_on words whole s)

pub returns-in-Ok-clause-turned : goal.returns-in-Ok-clause-turned
returns-in-Ok-clause-turned g c = λ tells words whole s ok.
    let new = c.convert_pieces.new.converter in
    (taken_whole g.C.Converter.writes words (g.C.Converter.said new) (g.C.Converter.turned new) (g.C.Converter.count new) g.D.Desk.tells whole (g.D.Desk.at c.convert_pieces.new.desk c.args.input).left (g.D.Desk.at c.convert_pieces.new.desk c.args.output).written c.convert_pieces.new.buffer.items tells (c.in-Ok.ensures.end tells) c.in-Ok.ensures.few (c.in-Ok.ensures.goes_on words whole s)).turned

pub returns-in-Err-clause-told : goal.returns-in-Err-clause-told
returns-in-Err-clause-told g c = λ tells words whole s.
    let written : List ℕ = (g.D.Desk.at c.convert_pieces.new.desk c.args.output).written in
    breaks_told (g.C.Converter.writes words) whole (g.D.Desk.at c.convert_pieces.new.desk c.args.input).left (written ++ c.convert_pieces.new.buffer.items) written c.in-Err.status (c.in-Err.ensures.breaks tells words whole s)

pub returns-in-Err-clause-front : goal.returns-in-Err-clause-front
returns-in-Err-clause-front g c = λ tells words whole s told.
    let written : List ℕ = (g.D.Desk.at c.convert_pieces.new.desk c.args.output).written in
    breaks_front (g.C.Converter.writes words) whole (written ++ c.convert_pieces.new.buffer.items) written c.in-Err.status told (c.in-Err.ensures.breaks tells words whole s)

pub returns-in-Err-clause-turned : goal.returns-in-Err-clause-turned
returns-in-Err-clause-turned g c = λ tells words whole s ok. absurd (c.in-Err.ensures.broken ok)

pub returns-in-Err-clause-at_rest : goal.returns-in-Err-clause-at_rest
returns-in-Err-clause-at_rest g c = λ ok. absurd (c.in-Err.ensures.broken ok)
