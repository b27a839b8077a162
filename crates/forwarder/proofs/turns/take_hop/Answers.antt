-- the index of the hop is set, and behind the instance it is 1 lower
use Rattle.std.proofs.Common.{arith}
use Rattle.nsh_metadata.specs.Changes.{with_index}
use Rattle.forwarder.specs.Walks.{aged, functions_of}
use Rattle.forwarder.proofs.HeaderEdits.{index_at}
use Rattle.forwarder.proofs.HopLemmas.{dropped_hop, passed_hop}
use Rattle.forwarder.proofs.turns.take_hop.Goals as goal

pub serve_at-requires-clause-spelled : goal.serve_at-requires-clause-spelled
serve_at-requires-clause-spelled c = (
  with_index c.requires.spelled.0 c.max.result,
  index_at c.args.header.now c.set_si.new.bytes c.requires.spelled.0 c.args.size c.max.result c.requires.spelled.1 c.set_si.ensures.edit c.set_si.ensures.head,
  omega arith,
)

pub returns-in-Passed-default : goal.returns-in-Passed-default
returns-in-Passed-default c = λ s st.
    passed_hop (functions_of c.args.bounds.now) s c.args.at c.max.result c.args.forwarder c.args.instance c.set_si.new.bytes c.serve_at.new.header c.args.size c.serve_at.result.1 c.serve_at.result.0 c.args.frame.now c.serve_at.new.frame
    c.in-Passed-default.is-0 (omega arith) st.at st.frame_is
    (index_at c.args.header.now c.set_si.new.bytes (aged s.header) c.args.size c.max.result st.spelled c.set_si.ensures.edit c.set_si.ensures.head) c.serve_at.ensures

pub returns-in-Dropped-default : goal.returns-in-Dropped-default
returns-in-Dropped-default c = λ s st.
    dropped_hop (functions_of c.args.bounds.now) s c.args.at c.max.result c.args.forwarder c.args.instance c.in-Dropped-default.why c.set_si.new.bytes c.serve_at.new.header c.args.size c.serve_at.result.1 c.serve_at.result.0 c.args.frame.now c.serve_at.new.frame
    c.in-Dropped-default.is-0 st.at st.frame_is
    (index_at c.args.header.now c.set_si.new.bytes (aged s.header) c.args.size c.max.result st.spelled c.set_si.ensures.edit c.set_si.ensures.head) c.serve_at.ensures
