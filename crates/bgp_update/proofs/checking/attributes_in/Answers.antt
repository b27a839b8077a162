-- The attributes that were checked are those of the content.
use Rattle.bgp_update.proofs.CheckLemmas.{update_found}
use Rattle.bgp_update.proofs.checking.attributes_in.Goals as goal

pub returns : goal.returns
returns c =
    let parts = c.in_ok-parts.parts in
    update_found c.args.content.now parts.withdrawn.now parts.attributes.now parts.nlri.now c.in_ok-parts.ensures c.in_ok-check_attributes.ensures
