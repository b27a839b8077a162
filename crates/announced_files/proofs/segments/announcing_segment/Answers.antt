-- The UPDATE of the route has a spelling.
use Rattle.std.proofs.Common.{◌≡◌, ℕ, List, IfOk, ap, ◌∙◌, sym, subst}
use Rattle.bgp_messages.specs.declared.messages.Message.TheVariants as messages
use Rattle.bgp_messages.specs.Messages.{Fits}
use Rattle.bgp_update.specs.Updates.{UpdateFits, update_bytes}
use Rattle.control_files.specs.declared.segments.Segment.{Segment}
use Rattle.announced_files.specs.Announced.{said_at}
use Rattle.announced_files.proofs.UpdateLemmas.{spelled}
use Rattle.announced_files.proofs.segments.announcing_segment.Goals as goal

pub encode_update-requires : goal.encode_update-requires
encode_update-requires c = subst UpdateFits (sym c.in_ok-update.ensures) (spelled c.args.own c.args.peer_as c.args.route.now c.requires).fits

pub said_segment-requires : goal.said_segment-requires
said_segment-requires c =
    let is = c.in_ok-content.ensures.spelled ∙ ap update_bytes c.in_ok-update.ensures in
    subst (λ (b : List ℕ). Fits (messages.Update b)) (sym is) (spelled c.args.own c.args.peer_as c.args.route.now c.requires).message

pub returns : goal.returns
returns c =
    let is = c.in_ok-content.ensures.spelled ∙ ap update_bytes c.in_ok-update.ensures in
    subst (λ (b : List ℕ). IfOk c.said_segment.result (λ (s : Segment). s ≡ said_at c.args.position c.args.peer (messages.Update b))) is c.said_segment.ensures
