-- a hop is here or elsewhere
use Rattle.std.proofs.Common.{◌≡◌, ℕ, ap, refl, sym, subst, ◌∙◌, inl}
use Rattle.std.proofs.lemmas.Bool.{eqb-true, eqb-false}
use Rattle.wire_base.specs.declared.ids.ForwarderId.{ForwarderId}
use Rattle.path_selection.specs.declared.answers.Answer.{Answer}
use Rattle.path_selection.specs.declared.answers.Answer.TheVariants.{At}
use Rattle.forwarder.specs.Walks.{Follows, GoesOn, aged, functions_of, handed}
use Rattle.forwarder.specs.Kept.{LeadsTo}
use Rattle.forwarder.proofs.HeaderEdits.{index_at}
use Rattle.forwarder.proofs.turns.take_turn.Goals as goal

pub returns-then-eq : goal.returns-then-eq
returns-then-eq c = λ s st.
    let same : c.args.answer ≡ At c.in-At.at c.args.forwarder c.in-At.instance =
    c.in-At.is ∙ ap (λ (n : ℕ). At c.in-At.at (record { 0 = n }) c.in-At.instance) (eqb-true c.in-At.other.0 c.args.forwarder.0 (sym c.if-eq.ensures)) in
    subst (λ (a : Answer). LeadsTo (functions_of c.args.bounds.now) s c.args.size a c.take_hop.result c.take_hop.new.frame c.take_hop.new.header) (sym same) (c.take_hop.ensures s st)

pub returns-else-eq : goal.returns-else-eq
returns-else-eq c = λ s st. (
  handed s c.in-At.at c.in-At.other,
  subst (λ (a : Answer). Follows (functions_of c.args.bounds.now) s a (GoesOn (handed s c.in-At.at c.in-At.other))) (sym c.in-At.is) (inl (λ e. eqb-false c.in-At.other.0 c.args.forwarder.0 (sym c.if-eq.ensures) (ap (λ (o : ForwarderId). o.0) (e ∙ st.at)), refl)),
  record {
    at = refl;
    frame_is = st.frame_is;
    spelled = index_at c.args.header.now c.set_si.new.bytes (aged s.header) c.args.size c.in-At.at st.spelled c.set_si.ensures.edit c.set_si.ensures.head;
  },
  refl,
  λ e. eqb-false c.in-At.other.0 c.args.forwarder.0 (sym c.if-eq.ensures) (ap (λ (o : ForwarderId). o.0) (e ∙ st.at)),
)
