-- At the end the communities so far are all.
use Rattle.std.proofs.Common.{ℕ, List, ap, ◌∙◌}
use Rattle.std.specs.List.{flat_map}
use Rattle.std.proofs.lemmas.List.{take_all}
use Rattle.bgp_update.proofs.encoding.communities_of.Goals as goal

pub returns : goal.returns
returns c =
    c.loop-community.invariant
    ∙ ap (λ (cs : List (List ℕ)). flat_map (λ (d : List ℕ). d) cs) (take_all c.loop-community.community-index c.args.communities.now c.loop-community-test.false)
