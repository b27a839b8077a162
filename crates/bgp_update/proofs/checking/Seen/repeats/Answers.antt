-- The kind is among those that came.
use Rattle.std.proofs.Common.{inl, inr, refl}
use Rattle.bgp_update.proofs.CheckLemmas.{repeats_where_seen}
use Rattle.bgp_update.proofs.checking.Seen.repeats.Goals as goal

pub returns-in-14 : goal.returns-in-14
returns-in-14 c = λ before sees. rw c.in-14.is (repeats_where_seen 14 before c.args.self.reach (inl refl) sees.reach)

pub returns-in-15 : goal.returns-in-15
returns-in-15 c = λ before sees. rw c.in-15.is (repeats_where_seen 15 before c.args.self.unreach (inr refl) sees.unreach)
