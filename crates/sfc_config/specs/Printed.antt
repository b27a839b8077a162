-- The printed text of a setup: its statements in one order, each on its line.
use Rattle.std.specs.Prelude.{◌≡◌, ℕ, List, [], ◌∷◌, ◌++◌, map}
use Rattle.std.specs.List.{flat_map, HoldsAt}
use Rattle.sfc_routes.specs.declared.entries.InstanceEntry.{InstanceEntry}
use Rattle.setup_statements.specs.declared.statements.Bound.{Bound}
use Rattle.setup_statements.specs.declared.statements.Statement.{Statement}
use Rattle.setup_statements.specs.declared.statements.Statement.TheVariants.{Local, Target, Peer, Forwarder, Ingress, Instance, Rule}
use Rattle.setup_statements.specs.Statements.{ended_line}
use Rattle.sfc_config.specs.Parts.{Parts}

-- the instances with what serves at each
abbrev pub instances_of : List InstanceEntry → List Bound → List Statement
instances_of [] bounds = []
instances_of (i ∷ rest) [] = []
instances_of (i ∷ rest) (b ∷ bounds) = Instance i b ∷ instances_of rest bounds

-- local side, targets, peers, forwarders, ingress, instances and rules
abbrev pub statements_of : Parts → List ℕ → List Statement
statements_of p ingress =
    Local p.local ∷ (map Target p.roster.targets ++ (map Peer p.peers ++ (map Forwarder p.roster.forwarders
    ++ (Ingress ingress ∷ (instances_of p.roster.instances p.instances ++ map Rule p.rules)))))

-- statements, each on its line
abbrev pub printed : List Statement → List ℕ
printed ss = flat_map ended_line ss

-- the printed text of a setup, where the ingress is told by its forwarder's name
abbrev pub IsPrinted : Parts → List ℕ → Type 0
IsPrinted p text = HoldsAt (λ ingress. text ≡ printed (statements_of p ingress.name)) p.roster.forwarders p.ingress.0
