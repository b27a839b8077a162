-- The first frame is forwarded, and then the others behind it; where a lookup is refused none is.
use Rattle.std.proofs.Common.{◌≡◌, ◌+◌, List, ◌∷◌, sym, subst}
use Rattle.std.proofs.lemmas.List.Elements.{All-tail}
use Rattle.pcap_io.specs.Captures.{IsWithinLimits}
use Rattle.worker_run.specs.Batches.{AreWithinLimits, Carried}
use Rattle.worker_run.specs.Shares.{AreWalkedTo, Walked}
use Rattle.worker_run.proofs.WalkedLemmas.{none_walked, one_more, refused_first, went_first}
use Rattle.worker_run.proofs.shares.+forward_share.Goals as goal

pub returns-in_default-clause-walked : goal.returns-in_default-clause-walked
returns-in_default-clause-walked g t c = none_walked c.args.setup.now c.args.worker (g.T.Tables.known c.args.tables.now) (g.T.Tables.seen c.args.tables.now) c.args.slots.now

pub returns-then-not-branch-clause-walked : goal.returns-then-not-branch-clause-walked
returns-then-not-branch-clause-walked g t c =
    let same : c.forward_next.new.slot ≡ c.in-Some.slot.now = refused_first c.in_ok-forward_next.field-0 _ _ c.if-not-branch.true c.in_ok-forward_next.ensures.walked in
    subst (λ (l : List Carried). AreWalkedTo c.args.setup.now c.args.worker (g.T.Tables.known c.forward_next.new.tables) (g.T.Tables.seen c.args.tables.now) 0 l (c.forward_next.new.slot ∷ c.in-Some.rest.now)) (sym c.in-Some.ensures.cases.0)
    (subst (λ (d : Carried). AreWalkedTo c.args.setup.now c.args.worker (g.T.Tables.known c.forward_next.new.tables) (g.T.Tables.seen c.args.tables.now) 0 (c.in-Some.slot.now ∷ c.in-Some.rest.now) (d ∷ c.in-Some.rest.now)) (sym same)
    (none_walked c.args.setup.now c.args.worker (g.T.Tables.known c.forward_next.new.tables) (g.T.Tables.seen c.args.tables.now) (c.in-Some.slot.now ∷ c.in-Some.rest.now)))

pub forward_share-requires-clause-limits : goal.forward_share-requires-clause-limits
forward_share-requires-clause-limits g t c κs within =
    All-tail (λ (x : Carried). IsWithinLimits x.frame) c.in-Some.slot.now c.in-Some.rest.now (subst AreWithinLimits c.in-Some.ensures.cases.0 c.requires.limits)

pub returns-clause-walked : goal.returns-clause-walked
returns-clause-walked g t c =
    let setup = c.args.setup.now in
    let worker = c.args.worker in
    let before = g.T.Tables.seen c.args.tables.now in
    let mid = g.T.Tables.seen c.forward_next.new.tables in
    let known = g.T.Tables.known c.forward_next.new.tables in
    let now = g.T.Tables.known c.forward_share.new.tables in
    let first : Walked setup worker known before mid c.in-Some.slot.now c.forward_next.new.slot = went_first c.in_ok-forward_next.field-0 _ _ c.if-not-branch.false c.in_ok-forward_next.ensures.walked in
    subst (λ (l : List Carried). AreWalkedTo setup worker now before (c.in_ok-more.more + 1) l (c.forward_next.new.slot ∷ c.forward_share.new.slots)) (sym c.in-Some.ensures.cases.0)
    (one_more setup worker known now before mid c.in_ok-more.more c.in-Some.slot.now c.forward_next.new.slot c.in-Some.rest.now c.forward_share.new.slots c.forward_share.ensures.grows first c.in_ok-more.ensures.walked)
