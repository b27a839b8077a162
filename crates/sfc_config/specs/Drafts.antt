-- What a text has said so far, and what a further statement adds to it.
use Rattle.std.specs.Prelude.{◌≡◌, ◌≢◌, ℕ, ◌<◌, [], ◌∷◌, ◌++◌, length, All, Some, None}
use Rattle.wire_base.specs.declared.ids.ForwarderId.{ForwarderId}
use Rattle.sfc_routes.specs.Entries.{IsAt, Serves, with_forwarder, with_instance, with_target}
use Rattle.setup_statements.specs.declared.statements.Statement.{Statement}
use Rattle.setup_statements.specs.declared.statements.Statement.TheVariants.{Local, Target, Peer, Forwarder, Ingress, Instance, Rule}
use Rattle.sfc_config.specs.declared.drafts.Draft.{Draft}
use Rattle.sfc_config.specs.Parts.{FitsMode}

-- nothing was said
abbrev pub nothing : Draft
nothing = record {
  local = None;
  peers = [];
  roster = record { forwarders = []; instances = []; targets = [] };
  ingress = None;
  instances = [];
  rules = [];
}

-- one more of its kind is within the limits
abbrev pub HasRoom : Draft → Statement → Type 0
HasRoom d (Target t) = length d.roster.targets < 16
HasRoom d (Peer p) = length d.peers < 16
HasRoom d (Forwarder f) = length d.roster.forwarders < 64
HasRoom d (Instance i b) = length d.roster.instances < 1024
HasRoom d (Rule r) = length d.rules < 256
HasRoom d _ = Unit {0}

-- the name that it uses is declared above
abbrev pub IsKnown : Draft → Statement → Type 0
IsKnown d (Ingress name) = (id : ℕ) × IsAt (λ f. f.name ≡ name) d.roster.forwarders id
IsKnown d _ = Unit {0}

-- it was not said before
abbrev pub IsNew : Draft → Statement → Type 0
IsNew d (Local l) = d.local ≡ None
IsNew d (Target t) = All (λ u. u ≢ t) d.roster.targets
IsNew d (Peer p) = All (λ q. q.0 ≢ p.0) d.peers
IsNew d (Forwarder f) = All (λ g. g.name ≢ f.name) d.roster.forwarders × All (λ g. g.address ≢ f.address) d.roster.forwarders
IsNew d (Ingress name) = d.ingress ≡ None
IsNew d (Instance i b) = All (λ j. j.name ≢ i.name) d.roster.instances × All (λ j. ¬ (Serves i.rd i.kind j)) d.roster.instances
IsNew d (Rule r) = Unit {0}

-- it binds no proxy to a function on metadata
abbrev pub IsServable : Statement → Type 0
IsServable (Instance i b) = FitsMode b
IsServable _ = Unit {0}

-- a statement that may stand here
pub record Fits (d : Draft) (s : Statement) : Type 0 where
  pub room : HasRoom d s
  pub known : IsKnown d s
  pub new : IsNew d s
  pub servable : IsServable s

-- what was said with it
abbrev pub Adds : Draft → Statement → Draft → Type 0
Adds d (Local l) e = e ≡ record d { local = Some l }
Adds d (Target t) e = e ≡ record d { roster = with_target d.roster t }
Adds d (Peer p) e = e ≡ record d { peers = d.peers ++ p ∷ [] }
Adds d (Forwarder f) e = e ≡ record d { roster = with_forwarder d.roster f.name f.address }
Adds d (Ingress name) e = (id : ForwarderId) × IsAt (λ f. f.name ≡ name) d.roster.forwarders id.0 × (e ≡ record d { ingress = Some id })
Adds d (Instance i b) e = e ≡ record d { roster = with_instance d.roster i.name i.rd i.kind; instances = d.instances ++ b ∷ [] }
Adds d (Rule r) e = e ≡ record d { rules = d.rules ++ r ∷ [] }
