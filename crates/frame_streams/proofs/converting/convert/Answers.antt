-- The conversion begins with nothing, and ends as its pieces do.
use Rattle.std.proofs.Common.{◌∙◌}
use Rattle.setup_inputs.proofs.MoveLemmas.{none_bound_yet}
use Rattle.frame_streams.proofs.RunLemmas.{two_differ}
use Rattle.frame_streams.proofs.TurningLemmas.{none_done, fresh_stands, works_of, counts_of, none_bound_then, ended_ok}
use Rattle.frame_streams.proofs.converting.convert.Goals as goal

pub returns-in_default-clause-converts : goal.returns-in_default-clause-converts
returns-in_default-clause-converts g c = none_done (g.C.Converter.writes (g.C.Converter.said c.args.converter.now)) c.args.input c.args.output g.D.Desk.tells (g.D.Desk.at c.args.desk.now) (none_bound_yet g.D.Desk.tells (g.D.Desk.at c.args.desk.now)) c.requires.empty

pub returns-in_default-with_capacity-clause-converts : goal.returns-in_default-with_capacity-clause-converts
returns-in_default-with_capacity-clause-converts g c = none_done (g.C.Converter.writes (g.C.Converter.said c.args.converter.now)) c.args.input c.args.output g.D.Desk.tells (g.D.Desk.at c.args.desk.now) (none_bound_yet g.D.Desk.tells (g.D.Desk.at c.args.desk.now)) c.requires.empty

pub convert_all-answer-requires-clause-stands : goal.convert_all-answer-requires-clause-stands
convert_all-answer-requires-clause-stands g c = (
  g.C.Converter.said c.args.converter.now,
  (g.D.Desk.at c.args.desk.now c.args.input).left,
  fresh_stands g.C.Converter.writes (g.C.Converter.said c.args.converter.now) (g.C.Converter.turned c.args.converter.now) (g.C.Converter.count c.args.converter.now) g.D.Desk.tells (g.D.Desk.at c.args.desk.now c.args.input).left (g.D.Desk.at c.args.desk.now c.args.output).written _ c.requires.fresh c.requires.none c.in-Ok-with_capacity.ensures.items c.requires.empty,
)

pub returns-clause-converts : goal.returns-clause-converts
returns-clause-converts g c =
    let then = g.D.Desk.at c.args.desk.now in
    let mid = g.D.Desk.at c.convert_all-answer.new.desk in
    let now = g.D.Desk.at c.end_so.new.desk in
    let words = g.C.Converter.said c.args.converter.now in
    let W = g.C.Converter.writes words in
    let begins = fresh_stands g.C.Converter.writes words (g.C.Converter.turned c.args.converter.now) (g.C.Converter.count c.args.converter.now) g.D.Desk.tells (then c.args.input).left (then c.args.output).written _ c.requires.fresh c.requires.none c.in-Ok-with_capacity.ensures.items c.requires.empty in
    record {
      works = λ tells. works_of W c.args.input c.args.output g.D.Desk.tells then mid now _ c.convert_all-answer.result c.end_so.result tells (two_differ c.args.input c.args.output c.requires.reads c.requires.writes)
          (λ told. c.convert_all-answer.ensures.front tells words (then c.args.input).left begins told) c.end_so.ensures.elsewhere
          (c.convert_all-answer.ensures.told tells words (then c.args.input).left begins)
          c.end_so.ensures.ends;
      counts = counts_of c.args.input c.args.output g.D.Desk.tells then mid now _ c.convert_all-answer.result c.end_so.result c.convert_all-answer.ensures.counts c.end_so.ensures.ends;
      none_bound = none_bound_then g.D.Desk.tells then mid now c.convert_all-answer.ensures.none_bound c.end_so.ensures.none_bound;
      others = λ port ne ne'. c.end_so.ensures.elsewhere port ne' ∙ c.convert_all-answer.ensures.others port ne ne';
    }

pub returns-clause-turned : goal.returns-clause-turned
returns-clause-turned g c = λ tells ok.
    let then = g.D.Desk.at c.args.desk.now in
    let words = g.C.Converter.said c.args.converter.now in
    let begins = fresh_stands g.C.Converter.writes words (g.C.Converter.turned c.args.converter.now) (g.C.Converter.count c.args.converter.now) g.D.Desk.tells (then c.args.input).left (then c.args.output).written _ c.requires.fresh c.requires.none c.in-Ok-with_capacity.ensures.items c.requires.empty in
    ended_ok (g.C.Converter.turned c.convert_all-answer.new.converter (then c.args.input).left) c.args.output g.D.Desk.tells (g.D.Desk.at c.convert_all-answer.new.desk) (g.D.Desk.at c.end_so.new.desk) c.convert_all-answer.new.buffer.items c.convert_all-answer.result c.end_so.result tells ok
    (λ whole. c.convert_all-answer.ensures.turned tells words (then c.args.input).left begins whole) c.end_so.ensures.ends
