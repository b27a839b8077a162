-- What parts come to is put, or a front of it was.
use Rattle.std.proofs.Common.{◌≡◌, ℕ, List, false, ◌++◌, ◌∙◌, subst}
use Rattle.sfc_desk.proofs.CallLemmas.{moves_then}
use Rattle.setup_inputs.proofs.MoveLemmas.{same_counts_on}
use Rattle.commands.specs.declared.statuses.Status.{Status}
use Rattle.frame_streams.specs.Turning.{IsStop, WriteStops}
use Rattle.frame_streams.proofs.TurningLemmas.{put_on, put_rests, next_breaks, write_on, write_breaks, front_at, stop_counts, write_counts, counts_later}
use Rattle.frame_streams.proofs.converting.put_parts.Goals as goal

pub next-requires : goal.next-requires
next-requires g c =
    let s = c.parts.invariant.stands c.requires.stands.0 c.requires.stands.1 c.requires.stands.2 c.requires.stands.3 in
    (s.taken, s.put ++ c.parts.buffer.items, s.turned)

pub returns-in-Ok-false-clause-goes_on : goal.returns-in-Ok-false-clause-goes_on
returns-in-Ok-false-clause-goes_on g c = λ words whole left s.
    put_on g.C.Converter.writes words (g.C.Converter.said c.parts.converter) (g.C.Converter.said c.next.new.self) (g.C.Converter.turned c.parts.converter) (g.C.Converter.turned c.next.new.self) (g.C.Converter.is_quiet c.next.new.self) (g.C.Converter.count c.parts.converter) (g.C.Converter.count c.next.new.self) g.D.Desk.tells whole left (g.D.Desk.at c.parts.desk c.args.output).written c.parts.buffer.items c.next.new.buffer.items c.in-Ok-false.field-0 c.in-Ok-false.ensures.said c.in-Ok-false.ensures.count
    (λ taken put t. c.in-Ok-false.ensures.history taken put t) (c.parts.invariant.stands words whole left s)

pub returns-in-Ok-false-clause-at_rest : goal.returns-in-Ok-false-clause-at_rest
returns-in-Ok-false-clause-at_rest g c =
    let test = c.in-Ok-false.field-0-test in
    let none : c.in-Ok-false.field-0 ≡ false = cc in
    put_rests g.C.Converter.writes c.requires.stands.0 (g.C.Converter.said c.parts.converter) (g.C.Converter.turned c.parts.converter) (g.C.Converter.turned c.next.new.self) (g.C.Converter.is_quiet c.next.new.self) (g.C.Converter.count c.parts.converter) g.D.Desk.tells c.requires.stands.1 c.requires.stands.2 (g.D.Desk.at c.parts.desk c.args.output).written c.parts.buffer.items c.next.new.buffer.items c.in-Ok-false.field-0 none
    (λ taken put t. c.in-Ok-false.ensures.history taken put t) (c.parts.invariant.stands c.requires.stands.0 c.requires.stands.1 c.requires.stands.2 c.requires.stands.3)

pub returns-in-Err-clause-breaks : goal.returns-in-Err-clause-breaks
returns-in-Err-clause-breaks g c = λ tells words whole left s.
    next_breaks g.C.Converter.writes words (g.C.Converter.said c.parts.converter) (g.C.Converter.turned c.parts.converter) (g.C.Converter.turned c.next.new.self) (g.C.Converter.is_quiet c.next.new.self) (g.C.Converter.count c.parts.converter) g.D.Desk.tells whole left (g.D.Desk.at c.parts.desk c.args.output).written c.parts.buffer.items c.next.new.buffer.items c.in-Err.status tells
    (λ taken put t. c.in-Err.ensures.history taken put t) (c.parts.invariant.stands words whole left s)

pub returns-in-Err-clause-stops : goal.returns-in-Err-clause-stops
returns-in-Err-clause-stops g c = stop_counts (λ port. port ≡ c.args.output) (λ _. ⊥) (g.D.Desk.at c.args.desk.now) (g.D.Desk.at c.parts.desk) c.in-Err.status c.in-Err.ensures.stops c.parts.invariant.quiet

pub returns-in-Err-clause-broken : goal.returns-in-Err-clause-broken
returns-in-Err-clause-broken g c = λ ok. subst (λ (s : Status). IsStop s) ok c.in-Err.ensures.stops

pub returns-in-Err-write_where-clause-broken : goal.returns-in-Err-write_where-clause-broken
returns-in-Err-write_where-clause-broken g c = λ ok. subst (λ (s : Status). WriteStops c.args.output (g.D.Desk.at c.parts.desk) (g.D.Desk.at c.write_where.new.desk) s) ok c.in-Err-write_where.ensures.stops

pub returns-in-Err-write_where-clause-breaks : goal.returns-in-Err-write_where-clause-breaks
returns-in-Err-write_where-clause-breaks g c = λ tells words whole left s.
    let written : List ℕ = (g.D.Desk.at c.parts.desk c.args.output).written in
    let part : List ℕ = (g.D.Desk.at c.write_where.new.desk c.args.output).written in
    let next = put_on g.C.Converter.writes words (g.C.Converter.said c.parts.converter) (g.C.Converter.said c.next.new.self) (g.C.Converter.turned c.parts.converter) (g.C.Converter.turned c.next.new.self) (g.C.Converter.is_quiet c.next.new.self) (g.C.Converter.count c.parts.converter) (g.C.Converter.count c.next.new.self) g.D.Desk.tells whole left written c.parts.buffer.items c.next.new.buffer.items c.in-Ok-true.field-0 c.in-Ok-true.ensures.said c.in-Ok-true.ensures.count
    (λ taken put t. c.in-Ok-true.ensures.history taken put t) (c.parts.invariant.stands words whole left s) in
    write_breaks (g.C.Converter.writes words) whole (part ++ c.write_where.new.buffer.items) part c.args.output (g.D.Desk.at c.parts.desk) (g.D.Desk.at c.write_where.new.desk) c.in-Err-write_where.status
    (front_at g.C.Converter.writes words (g.C.Converter.said c.next.new.self) (g.C.Converter.turned c.next.new.self) (g.C.Converter.count c.next.new.self) g.D.Desk.tells whole left written c.next.new.buffer.items part tells next (c.in-Err-write_where.ensures.front tells))
    c.in-Err-write_where.ensures.stops

pub returns-in-Err-write_where-clause-stops : goal.returns-in-Err-write_where-clause-stops
returns-in-Err-write_where-clause-stops g c =
    counts_later (λ port. port ≡ c.args.output) (λ port. port ≡ c.args.output) (λ _. ⊥) (λ _. ⊥) (g.D.Desk.at c.args.desk.now) (g.D.Desk.at c.parts.desk) (g.D.Desk.at c.write_where.new.desk) c.in-Err-write_where.status (λ port is. is) (λ port none. none) c.parts.invariant.quiet
    (write_counts (λ _. ⊥) c.args.output (g.D.Desk.at c.parts.desk) (g.D.Desk.at c.write_where.new.desk) c.in-Err-write_where.status c.in-Err-write_where.ensures.stops)

pub returns-in-Err-write_where-clause-moves : goal.returns-in-Err-write_where-clause-moves
returns-in-Err-write_where-clause-moves g c = moves_then g.D.Desk.tells c.args.output _ _ _ (g.D.Desk.at c.args.desk.now) (g.D.Desk.at c.parts.desk) (g.D.Desk.at c.write_where.new.desk) c.parts.invariant.moves c.in-Err-write_where.ensures.moves

pub parts-preserved : goal.parts-preserved
parts-preserved g c = record {
  stands = λ words whole left s.
      let written : List ℕ = (g.D.Desk.at c.parts.desk c.args.output).written in
      let next = put_on g.C.Converter.writes words (g.C.Converter.said c.parts.converter) (g.C.Converter.said c.next.new.self) (g.C.Converter.turned c.parts.converter) (g.C.Converter.turned c.next.new.self) (g.C.Converter.is_quiet c.next.new.self) (g.C.Converter.count c.parts.converter) (g.C.Converter.count c.next.new.self) g.D.Desk.tells whole left written c.parts.buffer.items c.next.new.buffer.items c.in-Ok-true.field-0 c.in-Ok-true.ensures.said c.in-Ok-true.ensures.count
      (λ taken put t. c.in-Ok-true.ensures.history taken put t) (c.parts.invariant.stands words whole left s) in
      write_on g.C.Converter.writes words (g.C.Converter.said c.next.new.self) (g.C.Converter.turned c.next.new.self) (g.C.Converter.count c.next.new.self) g.D.Desk.tells whole left written c.next.new.buffer.items (g.D.Desk.at c.write_where.new.desk c.args.output).written c.write_where.new.buffer.items _ (λ tells. c.in_default.ensures.ok tells) c.in_default.ensures.nothing c.in_default.ensures.kept next;
  said = c.in-Ok-true.ensures.said ∙ c.parts.invariant.said;
  count = c.in-Ok-true.ensures.count ∙ c.parts.invariant.count;
  quiet = same_counts_on (g.D.Desk.at c.args.desk.now) (g.D.Desk.at c.parts.desk) (g.D.Desk.at c.write_where.new.desk) c.parts.invariant.quiet c.in_default.ensures.quiet;
  moves = moves_then g.D.Desk.tells c.args.output _ _ _ (g.D.Desk.at c.args.desk.now) (g.D.Desk.at c.parts.desk) (g.D.Desk.at c.write_where.new.desk) c.parts.invariant.moves c.in_default.ensures.moves;
}
