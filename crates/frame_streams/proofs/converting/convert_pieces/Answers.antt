-- Each piece goes on from where the conversion stood.
use Rattle.std.proofs.Common.{◌≡◌, ℕ, List, ◌++◌, sym, ap, ◌∙◌, subst, arith}
use Rattle.sfc_desk.specs.Desks.{Shown}
use Rattle.commands.specs.declared.statuses.Status.{Status}
use Rattle.setup_inputs.proofs.MoveLemmas.{none_bound_on, same_counts_on}
use Rattle.frame_streams.specs.Turning.{IsEither, ReadStops, StandsAt, WriteStops}
use Rattle.frame_streams.proofs.RunLemmas.{two_differ}
use Rattle.frame_streams.proofs.TurningLemmas.{read_breaks, write_breaks, write_on, front_at, read_counts, write_counts, counts_later, either_input, either_output}
use Rattle.frame_streams.proofs.converting.convert_pieces.Goals as goal

-- ---- the end of the input

pub returns-in-Ok-eq0-clause-goes_on : goal.returns-in-Ok-eq0-clause-goes_on
returns-in-Ok-eq0-clause-goes_on g c = λ words whole s.
    let other = c.in-Ok-eq0.ensures.moves.elsewhere c.args.output (λ e. two_differ c.args.input c.args.output c.requires.reads c.requires.writes (sym e)) in
    subst (λ (p : Shown). StandsAt g.C.Converter.writes words (g.C.Converter.said c.read_piece.new.converter) (g.C.Converter.turned c.read_piece.new.converter) (g.C.Converter.count c.read_piece.new.converter) g.D.Desk.tells whole (g.D.Desk.at c.read_piece.new.desk c.args.input).left p.written c.pieces.buffer.items) (sym other)
    (c.in-Ok-eq0.ensures.goes_on words whole (g.D.Desk.at c.pieces.desk c.args.output).written c.pieces.buffer.items (c.pieces.invariant.stands words whole s))

pub returns-in-Ok-eq0-clause-quiet : goal.returns-in-Ok-eq0-clause-quiet
returns-in-Ok-eq0-clause-quiet g c = same_counts_on (g.D.Desk.at c.args.desk.now) (g.D.Desk.at c.pieces.desk) (g.D.Desk.at c.read_piece.new.desk) c.pieces.invariant.quiet c.in-Ok-eq0.ensures.quiet

pub returns-in-Ok-eq0-clause-none_bound : goal.returns-in-Ok-eq0-clause-none_bound
returns-in-Ok-eq0-clause-none_bound g c = none_bound_on g.D.Desk.tells c.args.input _ _ _ _ _ c.pieces.invariant.none_bound c.in-Ok-eq0.ensures.moves

pub returns-in-Ok-eq0-clause-others : goal.returns-in-Ok-eq0-clause-others
returns-in-Ok-eq0-clause-others g c = λ port ne ne'. c.in-Ok-eq0.ensures.moves.elsewhere port ne ∙ c.pieces.invariant.others port ne ne'

pub returns-in-Ok-eq0-clause-still_bound : goal.returns-in-Ok-eq0-clause-still_bound
returns-in-Ok-eq0-clause-still_bound g c =
    let other = c.in-Ok-eq0.ensures.moves.elsewhere c.args.output (λ e. two_differ c.args.input c.args.output c.requires.reads c.requires.writes (sym e)) in
    ap (λ (p : Shown). p.bound) other ∙ c.pieces.invariant.output_bound

-- ---- no piece was read

pub returns-in-Err-clause-breaks : goal.returns-in-Err-clause-breaks
returns-in-Err-clause-breaks g c = λ tells words whole s.
    let at = c.pieces.invariant.stands words whole s in
    let written : List ℕ = (g.D.Desk.at c.pieces.desk c.args.output).written in
    let part : List ℕ = (g.D.Desk.at c.read_piece.new.desk c.args.output).written in
    let other = c.in-Err.ensures.moves.elsewhere c.args.output (λ e. two_differ c.args.input c.args.output c.requires.reads c.requires.writes (sym e)) in
    read_breaks (g.C.Converter.writes words) whole (part ++ c.pieces.buffer.items) part c.args.input (g.D.Desk.at c.pieces.desk) (g.D.Desk.at c.read_piece.new.desk) c.in-Err.status
    (front_at g.C.Converter.writes words (g.C.Converter.said c.pieces.converter) (g.C.Converter.turned c.pieces.converter) (g.C.Converter.count c.pieces.converter) g.D.Desk.tells whole (g.D.Desk.at c.pieces.desk c.args.input).left written c.pieces.buffer.items part tells at (c.pieces.buffer.items, ap (λ (p : Shown). p.written ++ c.pieces.buffer.items) other))
    (c.in-Err.ensures.long tells words whole written c.pieces.buffer.items at)
    c.in-Err.ensures.stops

pub returns-in-Err-clause-stops : goal.returns-in-Err-clause-stops
returns-in-Err-clause-stops g c =
    counts_later (λ port. port ≡ c.args.input) (IsEither c.args.input c.args.output) (λ port. port ≡ c.args.input) (λ port. port ≡ c.args.input) (g.D.Desk.at c.args.desk.now) (g.D.Desk.at c.pieces.desk) (g.D.Desk.at c.read_piece.new.desk) c.in-Err.status (either_input c.args.input c.args.output) (λ port is. is) c.pieces.invariant.quiet
    (read_counts c.args.input (g.D.Desk.at c.pieces.desk) (g.D.Desk.at c.read_piece.new.desk) c.in-Err.status c.in-Err.ensures.stops)

pub returns-in-Err-clause-none_bound : goal.returns-in-Err-clause-none_bound
returns-in-Err-clause-none_bound g c = none_bound_on g.D.Desk.tells c.args.input _ _ _ _ _ c.pieces.invariant.none_bound c.in-Err.ensures.moves

pub returns-in-Err-clause-others : goal.returns-in-Err-clause-others
returns-in-Err-clause-others g c = λ port ne ne'. c.in-Err.ensures.moves.elsewhere port ne ∙ c.pieces.invariant.others port ne ne'

pub returns-in-Err-clause-still_bound : goal.returns-in-Err-clause-still_bound
returns-in-Err-clause-still_bound g c =
    let other = c.in-Err.ensures.moves.elsewhere c.args.output (λ e. two_differ c.args.input c.args.output c.requires.reads c.requires.writes (sym e)) in
    ap (λ (p : Shown). p.bound) other ∙ c.pieces.invariant.output_bound

pub returns-in-Err-clause-broken : goal.returns-in-Err-clause-broken
returns-in-Err-clause-broken g c = λ ok. subst (λ (s : Status). ReadStops c.args.input (g.D.Desk.at c.pieces.desk) (g.D.Desk.at c.read_piece.new.desk) s) ok c.in-Err.ensures.stops

pub returns-in-Err-write_where-clause-broken : goal.returns-in-Err-write_where-clause-broken
returns-in-Err-write_where-clause-broken g c = λ ok. subst (λ (s : Status). WriteStops c.args.output (g.D.Desk.at c.put_parts.new.desk) (g.D.Desk.at c.write_where.new.desk) s) ok c.in-Err-write_where.ensures.stops

-- ---- the parts of a piece

pub put_parts-requires-clause-bound : goal.put_parts-requires-clause-bound
put_parts-requires-clause-bound g c =
    let other = c.in-Ok.ensures.moves.elsewhere c.args.output (λ e. two_differ c.args.input c.args.output c.requires.reads c.requires.writes (sym e)) in
    ap (λ (p : Shown). p.bound) other ∙ c.pieces.invariant.output_bound

pub put_parts-requires-clause-stands : goal.put_parts-requires-clause-stands
put_parts-requires-clause-stands g c =
    let words = c.requires.stands.0 in
    let whole = c.requires.stands.1 in
    let other = c.in-Ok.ensures.moves.elsewhere c.args.output (λ e. two_differ c.args.input c.args.output c.requires.reads c.requires.writes (sym e)) in (
      words,
      whole,
      (g.D.Desk.at c.read_piece.new.desk c.args.input).left,
      subst (λ (p : Shown). StandsAt g.C.Converter.writes words (g.C.Converter.said c.read_piece.new.converter) (g.C.Converter.turned c.read_piece.new.converter) (g.C.Converter.count c.read_piece.new.converter) g.D.Desk.tells whole (g.D.Desk.at c.read_piece.new.desk c.args.input).left p.written c.pieces.buffer.items) (sym other)
          (c.in-Ok.ensures.goes_on words whole (g.D.Desk.at c.pieces.desk c.args.output).written c.pieces.buffer.items (c.pieces.invariant.stands words whole c.requires.stands.2)),
    )

pub returns-in-Err-put_parts-clause-breaks : goal.returns-in-Err-put_parts-clause-breaks
returns-in-Err-put_parts-clause-breaks g c = λ tells words whole s.
    let other = c.in-Ok.ensures.moves.elsewhere c.args.output (λ e. two_differ c.args.input c.args.output c.requires.reads c.requires.writes (sym e)) in
    let read = subst (λ (p : Shown). StandsAt g.C.Converter.writes words (g.C.Converter.said c.read_piece.new.converter) (g.C.Converter.turned c.read_piece.new.converter) (g.C.Converter.count c.read_piece.new.converter) g.D.Desk.tells whole (g.D.Desk.at c.read_piece.new.desk c.args.input).left p.written c.pieces.buffer.items) (sym other)
    (c.in-Ok.ensures.goes_on words whole (g.D.Desk.at c.pieces.desk c.args.output).written c.pieces.buffer.items (c.pieces.invariant.stands words whole s)) in
    c.in-Err-put_parts.ensures.breaks tells words whole (g.D.Desk.at c.read_piece.new.desk c.args.input).left read

pub returns-in-Err-put_parts-clause-stops : goal.returns-in-Err-put_parts-clause-stops
returns-in-Err-put_parts-clause-stops g c =
    counts_later (λ port. port ≡ c.args.output) (IsEither c.args.input c.args.output) (λ _. ⊥) (λ port. port ≡ c.args.input) (g.D.Desk.at c.args.desk.now) (g.D.Desk.at c.read_piece.new.desk) (g.D.Desk.at c.put_parts.new.desk) c.in-Err-put_parts.status (either_output c.args.input c.args.output) (λ port none. absurd none)
    (same_counts_on (g.D.Desk.at c.args.desk.now) (g.D.Desk.at c.pieces.desk) (g.D.Desk.at c.read_piece.new.desk) c.pieces.invariant.quiet c.in-Ok.ensures.quiet) c.in-Err-put_parts.ensures.stops

pub returns-in-Err-put_parts-clause-none_bound : goal.returns-in-Err-put_parts-clause-none_bound
returns-in-Err-put_parts-clause-none_bound g c =
    none_bound_on g.D.Desk.tells c.args.output _ _ _ _ _ (none_bound_on g.D.Desk.tells c.args.input _ _ _ _ _ c.pieces.invariant.none_bound c.in-Ok.ensures.moves) c.in-Err-put_parts.ensures.moves

pub returns-in-Err-put_parts-clause-others : goal.returns-in-Err-put_parts-clause-others
returns-in-Err-put_parts-clause-others g c = λ port ne ne'. c.in-Err-put_parts.ensures.moves.elsewhere port ne' ∙ (c.in-Ok.ensures.moves.elsewhere port ne ∙ c.pieces.invariant.others port ne ne')

-- ---- what waits

pub returns-in-Err-write_where-clause-breaks : goal.returns-in-Err-write_where-clause-breaks
returns-in-Err-write_where-clause-breaks g c = λ tells words whole s.
    let part : List ℕ = (g.D.Desk.at c.write_where.new.desk c.args.output).written in
    let other = c.in-Ok.ensures.moves.elsewhere c.args.output (λ e. two_differ c.args.input c.args.output c.requires.reads c.requires.writes (sym e)) in
    let read = subst (λ (p : Shown). StandsAt g.C.Converter.writes words (g.C.Converter.said c.read_piece.new.converter) (g.C.Converter.turned c.read_piece.new.converter) (g.C.Converter.count c.read_piece.new.converter) g.D.Desk.tells whole (g.D.Desk.at c.read_piece.new.desk c.args.input).left p.written c.pieces.buffer.items) (sym other)
    (c.in-Ok.ensures.goes_on words whole (g.D.Desk.at c.pieces.desk c.args.output).written c.pieces.buffer.items (c.pieces.invariant.stands words whole s)) in
    let put = c.in_default.ensures.goes_on words whole (g.D.Desk.at c.read_piece.new.desk c.args.input).left read in
    write_breaks (g.C.Converter.writes words) whole (part ++ c.write_where.new.buffer.items) part c.args.output (g.D.Desk.at c.put_parts.new.desk) (g.D.Desk.at c.write_where.new.desk) c.in-Err-write_where.status
    (front_at g.C.Converter.writes words (g.C.Converter.said c.put_parts.new.converter) (g.C.Converter.turned c.put_parts.new.converter) (g.C.Converter.count c.put_parts.new.converter) g.D.Desk.tells whole (g.D.Desk.at c.read_piece.new.desk c.args.input).left (g.D.Desk.at c.put_parts.new.desk c.args.output).written c.put_parts.new.buffer.items part tells put (c.in-Err-write_where.ensures.front tells))
    c.in-Err-write_where.ensures.stops

pub returns-in-Err-write_where-clause-stops : goal.returns-in-Err-write_where-clause-stops
returns-in-Err-write_where-clause-stops g c =
    counts_later (λ port. port ≡ c.args.output) (IsEither c.args.input c.args.output) (λ _. ⊥) (λ port. port ≡ c.args.input) (g.D.Desk.at c.args.desk.now) (g.D.Desk.at c.put_parts.new.desk) (g.D.Desk.at c.write_where.new.desk) c.in-Err-write_where.status (either_output c.args.input c.args.output) (λ port none. absurd none)
    (same_counts_on (g.D.Desk.at c.args.desk.now) (g.D.Desk.at c.read_piece.new.desk) (g.D.Desk.at c.put_parts.new.desk) (same_counts_on (g.D.Desk.at c.args.desk.now) (g.D.Desk.at c.pieces.desk) (g.D.Desk.at c.read_piece.new.desk) c.pieces.invariant.quiet c.in-Ok.ensures.quiet) c.in_default.ensures.quiet)
    (write_counts (λ _. ⊥) c.args.output (g.D.Desk.at c.put_parts.new.desk) (g.D.Desk.at c.write_where.new.desk) c.in-Err-write_where.status c.in-Err-write_where.ensures.stops)

pub returns-in-Err-write_where-clause-none_bound : goal.returns-in-Err-write_where-clause-none_bound
returns-in-Err-write_where-clause-none_bound g c =
    none_bound_on g.D.Desk.tells c.args.output _ _ _ _ _ (none_bound_on g.D.Desk.tells c.args.output _ _ _ _ _ (none_bound_on g.D.Desk.tells c.args.input _ _ _ _ _ c.pieces.invariant.none_bound c.in-Ok.ensures.moves) c.in_default.ensures.moves) c.in-Err-write_where.ensures.moves

pub returns-in-Err-write_where-clause-others : goal.returns-in-Err-write_where-clause-others
returns-in-Err-write_where-clause-others g c = λ port ne ne'.
    c.in-Err-write_where.ensures.moves.elsewhere port ne' ∙ (c.in_default.ensures.moves.elsewhere port ne' ∙ (c.in-Ok.ensures.moves.elsewhere port ne ∙ c.pieces.invariant.others port ne ne'))

-- ---- and on

pub pieces-preserved : goal.pieces-preserved
pieces-preserved g c =
    let differ = two_differ c.args.input c.args.output c.requires.reads c.requires.writes in
    let other = c.in-Ok.ensures.moves.elsewhere c.args.output (λ e. differ (sym e)) in
    let input : g.D.Desk.at c.write_where.new.desk c.args.input ≡ g.D.Desk.at c.read_piece.new.desk c.args.input = c.in_default-write_where.ensures.moves.elsewhere c.args.input differ ∙ c.in_default.ensures.moves.elsewhere c.args.input differ in
    record {
      stands = λ words whole s.
          let read = subst (λ (p : Shown). StandsAt g.C.Converter.writes words (g.C.Converter.said c.read_piece.new.converter) (g.C.Converter.turned c.read_piece.new.converter) (g.C.Converter.count c.read_piece.new.converter) g.D.Desk.tells whole (g.D.Desk.at c.read_piece.new.desk c.args.input).left p.written c.pieces.buffer.items) (sym other)
          (c.in-Ok.ensures.goes_on words whole (g.D.Desk.at c.pieces.desk c.args.output).written c.pieces.buffer.items (c.pieces.invariant.stands words whole s)) in
          let put = c.in_default.ensures.goes_on words whole (g.D.Desk.at c.read_piece.new.desk c.args.input).left read in
          subst (λ (p : Shown). StandsAt g.C.Converter.writes words (g.C.Converter.said c.put_parts.new.converter) (g.C.Converter.turned c.put_parts.new.converter) (g.C.Converter.count c.put_parts.new.converter) g.D.Desk.tells whole p.left (g.D.Desk.at c.write_where.new.desk c.args.output).written c.write_where.new.buffer.items) (sym input)
          (write_on g.C.Converter.writes words (g.C.Converter.said c.put_parts.new.converter) (g.C.Converter.turned c.put_parts.new.converter) (g.C.Converter.count c.put_parts.new.converter) g.D.Desk.tells whole (g.D.Desk.at c.read_piece.new.desk c.args.input).left (g.D.Desk.at c.put_parts.new.desk c.args.output).written c.put_parts.new.buffer.items (g.D.Desk.at c.write_where.new.desk c.args.output).written c.write_where.new.buffer.items _ (λ tells. c.in_default-write_where.ensures.ok tells) c.in_default-write_where.ensures.nothing c.in_default-write_where.ensures.kept put);
      at_rest = c.in_default.ensures.at_rest;
      said = c.in_default.ensures.said ∙ (c.in-Ok.ensures.said ∙ c.pieces.invariant.said);
      few = grind arith;
      some = grind arith;
      input_bound = ap (λ (p : Shown). p.bound) input ∙ c.in-Ok.ensures.moves.still_bound;
      output_bound = c.in_default-write_where.ensures.moves.still_bound;
      quiet = same_counts_on (g.D.Desk.at c.args.desk.now) (g.D.Desk.at c.put_parts.new.desk) (g.D.Desk.at c.write_where.new.desk) (same_counts_on (g.D.Desk.at c.args.desk.now) (g.D.Desk.at c.read_piece.new.desk) (g.D.Desk.at c.put_parts.new.desk) (same_counts_on (g.D.Desk.at c.args.desk.now) (g.D.Desk.at c.pieces.desk) (g.D.Desk.at c.read_piece.new.desk) c.pieces.invariant.quiet c.in-Ok.ensures.quiet) c.in_default.ensures.quiet) c.in_default-write_where.ensures.quiet;
      none_bound = none_bound_on g.D.Desk.tells c.args.output _ _ _ _ _ (none_bound_on g.D.Desk.tells c.args.output _ _ _ _ _ (none_bound_on g.D.Desk.tells c.args.input _ _ _ _ _ c.pieces.invariant.none_bound c.in-Ok.ensures.moves) c.in_default.ensures.moves) c.in_default-write_where.ensures.moves;
      others = λ port ne ne'. c.in_default-write_where.ensures.moves.elsewhere port ne' ∙ (c.in_default.ensures.moves.elsewhere port ne' ∙ (c.in-Ok.ensures.moves.elsewhere port ne ∙ c.pieces.invariant.others port ne ne'));
    }
