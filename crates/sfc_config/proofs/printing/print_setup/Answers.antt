-- What was written in turn is the text of the setup's statements, and that text spells the setup.
use Rattle.std.proofs.Common.{◌≡◌, ◌++◌, ◌∙◌, ap, subst, List, ℕ}
use Rattle.std.specs.Prelude.{map}
use Rattle.setup_statements.specs.declared.statements.Bound.{Bound}
use Rattle.setup_statements.specs.declared.statements.Statement.TheVariants.{Peer}
use Rattle.sfc_config.specs.Parts.{Parts}
use Rattle.sfc_config.specs.Printed.{instances_of, statements_of, printed, IsPrinted}
use Rattle.sfc_config.specs.Texts.{IsSetup}
use Rattle.sfc_config.proofs.PrintLemmas.{printed_in_turn}
use Rattle.sfc_config.proofs.SaidLemmas.{printed_setup, name_form}
use Rattle.sfc_config.proofs.printing.print_setup.Goals as goal

pub returns : goal.returns
returns c =
    let p : Parts = record {
      local = c.setup.inside.local;
      peers = c.setup.inside.peers;
      roster = c.setup.inside.roster;
      ingress = c.setup.inside.ingress;
      instances = c.setup.inside.instances;
      rules = c.setup.inside.rules;
    } in
    let name = c.forwarder_name.result.now in
    let text = c.print_rules.new.out in
    let in_turn : text ≡ printed (statements_of p name)
    = printed_in_turn p name c.new-out.ensures c.in_ok-print_local.ensures c.in_ok-print_targets.ensures
    (c.in_ok-print_peers.ensures ∙ ap (λ (q : List (ℕ × ℕ)). c.print_targets.new.out ++ printed (map Peer q)) c.as_slice.ensures)
    c.in_ok-print_forwarders.ensures c.in_ok-print_ingress.ensures
    (c.in_ok-print_instances.ensures ∙ ap (λ (bs : List Bound). c.print_ingress.new.out ++ printed (instances_of p.roster.instances bs)) c.as_slice-2.ensures)
    c.in_ok-print_rules.ensures in
    let form = name_form p.roster.forwarders p.ingress.0 name c.setup.invariant.roster_fits.forwarder_names c.setup.invariant.ingress_known c.forwarder_name.ensures in
    record {
      order = subst (λ q. IsPrinted q text) c.setup.view_is
          (λ d. in_turn ∙ ap (λ n. printed (statements_of p n)) (c.forwarder_name.ensures d));
      spelled = subst (λ q. IsSetup text q) c.setup.view_is
          (printed_setup p name text c.setup.invariant c.forwarder_name.ensures form in_turn);
    }
