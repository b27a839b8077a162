-- What a roster holds of forwarders and instances (RFC 7665, section 4) and of route targets (RFC 4360, section 4), and what
-- it keeps of them.
use Rattle.std.specs.Prelude.{◌≡◌, ◌≢◌, ℕ, ◌<◌, ◌≤◌, List, [], ◌∷◌, ◌++◌, ◌⊎◌, length, All}
use Rattle.std.specs.List.{AllPairs, HoldsAt, Contains}
use Rattle.wire_base.specs.declared.next_hops.NextHop.{NextHop}
use Rattle.text_words.specs.Names.{IsName}
use Rattle.text_words.specs.Hexadecimal.{IsOctets}
use Rattle.text_words.specs.Addresses.{IsAddress}
use Rattle.sfc_routes.specs.declared.entries.ForwarderEntry.{ForwarderEntry}
use Rattle.sfc_routes.specs.declared.entries.InstanceEntry.{InstanceEntry}

-- the entries, each in the order in which they were added
pub record Entries : Type 0 where
  pub forwarders : List ForwarderEntry
  pub instances : List InstanceEntry
  pub targets : List (List ℕ)

-- an entry with a place, and that fact of it
abbrev pub IsAt : {X : Type 0} → (X → Type 0) → List X → ℕ → Type 0
IsAt P xs i = (i < length xs) × HoldsAt P xs i

-- an instance with this route distinguisher (RFC 4364, section 4.2) and type (RFC 9015, section 3.1)
abbrev pub Serves : List ℕ → ℕ → InstanceEntry → Type 0
Serves rd kind i = (i.rd ≡ rd) × (i.kind ≡ kind)

-- what a roster keeps: names have their form, the counts their limits, and entries differ
pub record IsRoster (e : Entries) : Type 0 where
  pub forwarder_names : All (λ f. IsName f.name) e.forwarders
  pub forwarder_addresses : All (λ f. IsAddress f.address) e.forwarders
  pub instance_names : All (λ i. IsName i.name) e.instances
  pub instance_rds : All (λ i. IsOctets 8 i.rd) e.instances
  pub target_bytes : All (IsOctets 8) e.targets
  pub few_forwarders : length e.forwarders ≤ 64
  pub few_instances : length e.instances ≤ 1024
  pub few_targets : length e.targets ≤ 16
  pub forwarder_names_differ : AllPairs (λ f g. f.name ≢ g.name) e.forwarders
  pub addresses_differ : AllPairs (λ f g. f.address ≢ g.address) e.forwarders
  pub instance_names_differ : AllPairs (λ i j. i.name ≢ j.name) e.instances
  pub services_differ : AllPairs (λ i j. ¬ (Serves j.rd j.kind i)) e.instances
  pub targets_differ : AllPairs (λ s t. s ≢ t) e.targets

-- the entries with one more
abbrev pub with_forwarder : Entries → List ℕ → NextHop → Entries
with_forwarder e n a = record e { forwarders = e.forwarders ++ (record { name = n; address = a }) ∷ [] }

abbrev pub with_instance : Entries → List ℕ → List ℕ → ℕ → Entries
with_instance e n r k = record e { instances = e.instances ++ (record { name = n; rd = r; kind = k }) ∷ [] }

abbrev pub with_target : Entries → List ℕ → Entries
with_target e t = record e { targets = e.targets ++ t ∷ [] }

-- no target is asked for, or one of these is among those asked for (RFC 4364, section 4.3.1)
abbrev pub Accepts : Entries → List (List ℕ) → Type 0
Accepts e targets = (length e.targets ≡ 0) ⊎ ((i : ℕ) × IsAt (Contains e.targets) targets i)
