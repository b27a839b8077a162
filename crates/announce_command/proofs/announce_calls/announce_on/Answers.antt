use Rattle.std.proofs.Common.{◌≢◌, ℕ, List, inl, inr, [], ◌∷◌, refl, ap, ◌∙◌, subst}
use Rattle.std.specs.Prelude.{Contains}
use Rattle.std.specs.List.{All}
use Rattle.sfc_desk.specs.declared.ports.Port.TheVariants.{Routes, Made}
use Rattle.sfc_config.specs.declared.faults.SetupReason.TheVariants.{NoPeer}
use Rattle.sfc_config.specs.Parts.{Parts}
use Rattle.commands.specs.declared.statuses.Status.TheVariants as status
use Rattle.commands.specs.Places.{opens}
use Rattle.commands.proofs.PlaceLemmas.{behaves_so}
use Rattle.setup_inputs.specs.Setups.{setup_place}
use Rattle.setup_inputs.proofs.MoveLemmas.{none_bound_yet}
use Rattle.announce_command.specs.AnnounceSteps.{announce_of}
use Rattle.announce_command.proofs.PeerLemmas.{none_of}
use Rattle.announce_command.proofs.RunLemmas.{announce_row, no_file}
use Rattle.announce_command.proofs.announce_calls.announce_on.Goals as goal

-- the setup has the peer
pub announce_as-requires : goal.announce_as-requires
announce_as-requires g c =
    subst (λ (ps : List (ℕ × ℕ)). Contains ps (c.args.said.now.peer, c.in-Some.asn)) (c.as_slice.ensures ∙ ap (λ (p : Parts). p.peers) c.setup.view_is) c.in-Some.ensures

pub returns-in-Some-clause-runs : goal.returns-in-Some-clause-runs
returns-in-Some-clause-runs g c = λ then was.
    inr (
      c.in-Some.asn,
      subst (λ (ps : List (ℕ × ℕ)). Contains ps (c.args.said.now.peer, c.in-Some.asn)) (c.as_slice.ensures ∙ ap (λ (p : Parts). p.peers) c.setup.view_is) c.in-Some.ensures,
      c.announce_as.ensures.runs then was,
    )

-- it has none with this number
pub returns-in-None-clause-runs : goal.returns-in-None-clause-runs
returns-in-None-clause-runs g c = λ then was.
    inl (record {
      told = refl;
      none = none_of c.args.setup.now.peers c.args.said.now.peer
          (subst (All (λ (p : ℕ × ℕ). p.0 ≢ c.args.said.now.peer)) (c.as_slice.ensures ∙ ap (λ (p : Parts). p.peers) c.setup.view_is) c.in-None.ensures);
      only = was.only;
    })

pub returns-in-None-clause-behaves : goal.returns-in-None-clause-behaves
returns-in-None-clause-behaves g c = λ then was.
    let said = announce_of c.args.said.now in
    let at = g.D.Desk.at c.args.desk.now in
    behaves_so (setup_place said.setup ∷ []) (opens Routes said.routes ∷ opens Made said.made ∷ []) g.D.Desk.tells (g.D.Desk.held c.args.desk.now) then at at (status.Setup 0 NoPeer) (announce_row said) was (none_bound_yet g.D.Desk.tells at)
    (λ port outside. refl) (λ port is. absurd (no_file port is)) (λ port differs. refl)
