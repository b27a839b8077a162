-- What the setup of generated inputs says.
use Rattle.std.proofs.Common.{◌≡◌, ◌≢◌, ℕ, ◌<◌, Bool, true, false, List, [], ◌∷◌, ◌++◌, length, get_or, Result, Err, refl, ap, subst, arith}
use Rattle.std.specs.Prelude.{None, codes, slice_index, nat_lt, All}
use Rattle.std.specs.Fmt.{digits}
use Rattle.hex.specs.Hex.{encode_with}
use Rattle.std.specs.List.{AllByRecursion, AllPairs, list_all}
use Rattle.std.proofs.lemmas.Bool.{ltb-true}
use Rattle.std.proofs.lemmas.List.Elements.{All-from_recursion}
use Rattle.std.proofs.lemmas.List.Quantifiers.{all_pairs_push}
use Rattle.std.proofs.lemmas.List.Sums.{AllPass-from_list_all}
use Rattle.wire_base.specs.Numbers.{AreBytes}
use Rattle.wire_base.specs.declared.next_hops.NextHop.{NextHop}
use Rattle.wire_base.specs.declared.next_hops.NextHop.TheVariants.{Four}
use Rattle.text_words.specs.Names.{IsName, is_name_letter, is_name_byte}
use Rattle.text_words.specs.Hexadecimal.{IsOctets}
use Rattle.text_words.specs.Addresses.{IsAddress}
use Rattle.bgp_session.specs.LocalSide.{IsLocal}
use Rattle.bgp_update.specs.Attributes.{hop_bytes}
use Rattle.net_frames.specs.declared.contents.Side.TheVariants.{Source}
use Rattle.nsh_metadata.specs.declared.contexts.Context.TheVariants.{Items}
use Rattle.service_functions.specs.Functions.{IsFunction}
use Rattle.service_functions.specs.declared.functions.Function.TheVariants.{Firewall, Nat, PushVlan}
use Rattle.classifier.specs.Rules.{IsRule}
use Rattle.classifier.specs.declared.rules.Rule.{Rule}
use Rattle.classifier.specs.declared.rules.Action.TheVariants.{Path}
use Rattle.sfc_routes.specs.declared.entries.ForwarderEntry.{ForwarderEntry}
use Rattle.sfc_routes.specs.declared.entries.InstanceEntry.{InstanceEntry}
use Rattle.sfc_routes.specs.Entries.{Entries, IsRoster, Serves}
use Rattle.text_words.specs.Numbers.{IsWithin}
use Rattle.setup_statements.specs.Statements.{IsPeer}
use Rattle.setup_statements.specs.declared.statements.Bound.{Bound}
use Rattle.sfc_config.specs.Parts.{Parts, AreParts, FitsMode}
use Rattle.sfc_config.specs.Printed.{printed, statements_of}
use Rattle.sfc_config.specs.Texts.{IsSetup, Parses}
use Rattle.sfc_config.specs.declared.faults.SetupReason.{SetupReason}
use Rattle.sfc_config.specs.declared.faults.SetupFault.{SetupFault}
use Rattle.sfc_config.specs.declared.faults.SetupFault.TheVariants.{Line}
use Rattle.sfc_config.proofs.LawLemmas.{one_setup, setup_not_refused}
use Rattle.sfc_config.proofs.SaidLemmas.{printed_setup}
use Rattle.generated_inputs.specs.Setups.{setup_text}

-- its forwarders and its instances
abbrev f0 : ForwarderEntry
f0 = record { name = codes "f0"; address = Four (10 ∷ 0 ∷ 0 ∷ 1 ∷ []) }

abbrev f1 : ForwarderEntry
f1 = record { name = codes "f1"; address = Four (10 ∷ 0 ∷ 0 ∷ 2 ∷ []) }

abbrev fw : InstanceEntry
fw = record { name = codes "fw"; rd = 0 ∷ 0 ∷ 253 ∷ 232 ∷ 0 ∷ 0 ∷ 0 ∷ 1 ∷ []; kind = 41 }

abbrev nat : InstanceEntry
nat = record { name = codes "nat"; rd = 0 ∷ 0 ∷ 253 ∷ 232 ∷ 0 ∷ 0 ∷ 0 ∷ 2 ∷ []; kind = 42 }

abbrev vlan : InstanceEntry
vlan = record { name = codes "vlan"; rd = 0 ∷ 0 ∷ 253 ∷ 232 ∷ 0 ∷ 0 ∷ 0 ∷ 3 ∷ []; kind = 43 }

abbrev roster : Entries
roster = record { forwarders = f0 ∷ f1 ∷ []; instances = fw ∷ nat ∷ vlan ∷ []; targets = [] }

abbrev bounds : List Bound
bounds =
    record { proxy = false; function = Firewall 6 23 23 }
    ∷ record { proxy = true; function = Nat Source (10 ∷ 1 ∷ 0 ∷ 5 ∷ []) (192 ∷ 0 ∷ 2 ∷ 9 ∷ []) }
    ∷ record { proxy = true; function = PushVlan 7 }
    ∷ []

abbrev rules : List Rule
rules = record { vlan = None; from = None; to = None; protocol = None; ports = None; action = Path 42 255 63 (Items []) } ∷ []

-- the parts of the setup
abbrev pub parts : Parts
parts = record {
  local = record { asn = 65000; id = 3221225985; hold = 90 };
  peers = (1, 65001) ∷ [];
  roster = roster;
  ingress = record { 0 = 0 };
  instances = bounds;
  rules = rules;
}

-- the text is the printed text of the parts
text_is : setup_text ≡ printed (statements_of parts (codes "f0"))
unfolding setup_text digits encode_with
text_is = refl

-- ---- the parts are in their ranges

bytes_fit : (bytes : List ℕ) → list_all (λ b. nat_lt b 256) bytes ≡ true → AreBytes bytes
bytes_fit bytes fit i d below = ltb-true (get_or bytes i d) 256 (AllPass-from_list_all (λ b. nat_lt b 256) bytes fit i d below)

is_name : (name : List ℕ) → 0 < length name → length name < 17 → is_name_letter (slice_index name 0) ≡ true → list_all is_name_byte name ≡ true → IsName name
is_name name some most letter all = record { some = omega (arith, some); most = omega (arith, most); letter = letter; characters = AllPass-from_list_all is_name_byte name all }

no_pairs : {X : Type 0} (R : X → X → Type 0) → AllPairs R []
no_pairs R i j d below there = absurd (omega (arith, there))

one_more : {X : Type 0} (R : X → X → Type 0) (xs : List X) (y : X) → AllPairs R xs → AllByRecursion (λ x. R x y) xs → AllPairs R (xs ++ y ∷ [])
one_more R xs y pairs each = all_pairs_push R xs y pairs (All-from_recursion (λ x. R x y) xs each)

-- two lists differ at a place
apart : (xs ys : List ℕ) (i : ℕ) → (get_or xs i 0 ≡ get_or ys i 0 → ⊥) → xs ≢ ys
apart xs ys i differ same = differ (ap (λ (l : List ℕ). get_or l i 0) same)

roster_fits : IsRoster roster
roster_fits = record {
  forwarder_names = All-from_recursion (λ (f : ForwarderEntry). IsName f.name) roster.forwarders (is_name f0.name (omega arith) (omega arith) refl refl, (is_name f1.name (omega arith) (omega arith) refl refl, tt));
  forwarder_addresses = All-from_recursion (λ (f : ForwarderEntry). IsAddress f.address) roster.forwarders ((refl, bytes_fit (10 ∷ 0 ∷ 0 ∷ 1 ∷ []) refl), ((refl, bytes_fit (10 ∷ 0 ∷ 0 ∷ 2 ∷ []) refl), tt));
  instance_names = All-from_recursion (λ (i : InstanceEntry). IsName i.name) roster.instances
      (is_name fw.name (omega arith) (omega arith) refl refl, (is_name nat.name (omega arith) (omega arith) refl refl, (is_name vlan.name (omega arith) (omega arith) refl refl, tt)));
  instance_rds = All-from_recursion (λ (i : InstanceEntry). IsOctets 8 i.rd) roster.instances ((refl, bytes_fit fw.rd refl), ((refl, bytes_fit nat.rd refl), ((refl, bytes_fit vlan.rd refl), tt)));
  target_bytes = All-from_recursion (IsOctets 8) roster.targets tt;
  few_forwarders = omega arith;
  few_instances = omega arith;
  few_targets = omega arith;
  forwarder_names_differ =
      let R = λ (f g : ForwarderEntry). f.name ≢ g.name in
      one_more R (f0 ∷ []) f1 (one_more R [] f0 (no_pairs R) tt) (apart f0.name f1.name 1 (λ e. omega (arith, e)), tt);
  addresses_differ =
      let R = λ (f g : ForwarderEntry). f.address ≢ g.address in
      one_more R (f0 ∷ []) f1 (one_more R [] f0 (no_pairs R) tt) ((λ e. apart (hop_bytes f0.address) (hop_bytes f1.address) 3 (λ same. omega (arith, same)) (ap hop_bytes e)), tt);
  instance_names_differ =
      let R = λ (i j : InstanceEntry). i.name ≢ j.name in
      one_more R (fw ∷ nat ∷ []) vlan (one_more R (fw ∷ []) nat (one_more R [] fw (no_pairs R) tt) (apart fw.name nat.name 0 (λ e. omega (arith, e)), tt))
      (apart fw.name vlan.name 0 (λ e. omega (arith, e)), (apart nat.name vlan.name 0 (λ e. omega (arith, e)), tt));
  services_differ =
      let R = λ (i j : InstanceEntry). ¬ (Serves j.rd j.kind i) in
      one_more R (fw ∷ nat ∷ []) vlan (one_more R (fw ∷ []) nat (one_more R [] fw (no_pairs R) tt) ((λ h. omega (arith, h.1)), tt))
      ((λ h. omega (arith, h.1)), ((λ h. omega (arith, h.1)), tt));
  targets_differ = no_pairs (λ (s t : List ℕ). s ≢ t);
}

pub are_parts : AreParts parts
are_parts = record {
  local_fits = record { asn_some = omega arith; asn_most = omega arith; id_some = omega arith; id_most = omega arith; hold_least = λ some. omega arith; hold_most = omega arith };
  peers_fit = All-from_recursion IsPeer parts.peers (((omega arith, omega arith), (omega arith, omega arith)), tt);
  few_peers = omega arith;
  peers_differ =
      let R = λ (q r : ℕ × ℕ). q.0 ≢ r.0 in
      one_more R [] (1, 65001) (no_pairs R) tt;
  roster_fits = roster_fits;
  kinds_fit = All-from_recursion (λ (i : InstanceEntry). IsWithin 32 65535 i.kind) roster.instances ((omega arith, omega arith), ((omega arith, omega arith), ((omega arith, omega arith), tt)));
  ingress_known = omega arith;
  all_bound = refl;
  functions_fit = All-from_recursion (λ (b : Bound). IsFunction b.function) bounds
      ((refl, omega arith, omega arith), (((refl, bytes_fit (10 ∷ 1 ∷ 0 ∷ 5 ∷ []) refl), (refl, bytes_fit (192 ∷ 0 ∷ 2 ∷ 9 ∷ []) refl)), (omega arith, tt)));
  modes_fit = All-from_recursion FitsMode bounds (refl, (refl, (refl, tt)));
  rules_fit = record {
    each = All-from_recursion IsRule rules
        (record { vlan = tt; from_fits = tt; to_fits = tt; protocol = tt; ports = tt; action = (omega arith, (omega arith, omega arith), (omega arith, omega arith), refl) }, tt);
    few = omega arith;
  };
}

-- the text spells these parts, and no others
pub spelled : IsSetup setup_text parts
spelled = printed_setup parts (codes "f0") setup_text are_parts (λ d. refl) (is_name f0.name (omega arith) (omega arith) refl refl) text_is

pub parts_are : (setup : Parts) → IsSetup setup_text setup → setup ≡ parts
parts_are setup is = one_setup setup_text setup parts is spelled

-- and it is refused nowhere
pub never_refused : (answer : Result Parts SetupFault) (n : ℕ) (reason : SetupReason) → answer ≡ Err (Line n reason) → Parses setup_text answer → ⊥
never_refused answer n reason is parses = setup_not_refused setup_text parts n reason spelled (subst (λ (a : Result Parts SetupFault). Parses setup_text a) is parses)
