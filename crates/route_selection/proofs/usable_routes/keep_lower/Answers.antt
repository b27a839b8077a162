use Rattle.route_selection.specs.declared.candidates.Candidate.{Candidate}
use Rattle.route_selection.specs.Usable.{name_of, peer_of}
use Rattle.route_selection.proofs.LowestLemmas.{set_joins}
use Rattle.route_selection.proofs.SeenLemmas.{has_name, has_lower}
use Rattle.route_selection.proofs.usable_routes.keep_lower.Goals as goal

pub returns-then-one-index : goal.returns-then-one-index
returns-then-one-index c =
    let xs = c.args.usable.now.items in
    set_joins name_of peer_of xs c.args.place c.args.one c.requires.in_order c.requires.there.0
    (has_name (λ (x : Candidate). x.kind) (λ (x : Candidate). x.rd) peer_of xs c.args.place c.args.one c.requires.there.1)
    (λ d. has_lower (λ (x : Candidate). x.kind) (λ (x : Candidate). x.rd) peer_of xs c.args.place c.args.one c.index.result.now d c.requires.there.0 c.index.ensures c.if-one-index.true)
