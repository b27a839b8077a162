-- The printed statements of a setup may be said one after another, and what they say is the setup.
use Rattle.std.proofs.Common.{◌≡◌, ℕ, zero, suc, ◌+◌, ◌<◌, ◌≤◌, true, false, List, [], ◌∷◌, ◌++◌, length, get_or, refl, sym, ◌∙◌, ap, subst, arith, inr, Some, append_assoc, length-append}
use Rattle.std.specs.Prelude.{◌==◌, ◌≢◌, map}
use Rattle.std.specs.List.{All, AllPairs, AllByRecursion, onto_first}
use Rattle.std.proofs.lemmas.Bool.Decides.{nat_tests}
use Rattle.std.proofs.lemmas.List.{append-nil}
use Rattle.std.proofs.lemmas.List.Elements.{All-nil, All-cons, All-head, All-tail, All-weaker, recursion_from_All}
use Rattle.text_words.specs.Lines.{lines_of}
use Rattle.text_words.specs.Names.{IsName}
use Rattle.text_words.specs.Numbers.{IsWithin}
use Rattle.text_words.specs.Hexadecimal.{IsOctets}
use Rattle.text_words.specs.Addresses.{IsAddress}
use Rattle.service_functions.specs.Functions.{IsFunction}
use Rattle.classifier.specs.declared.rules.Rule.{Rule as OneRule}
use Rattle.classifier.specs.Rules.{IsRule}
use Rattle.sfc_routes.specs.Entries.{Serves}
use Rattle.sfc_routes.specs.declared.entries.ForwarderEntry.{ForwarderEntry}
use Rattle.sfc_routes.specs.declared.entries.InstanceEntry.{InstanceEntry}
use Rattle.setup_statements.specs.declared.keywords.Keyword.{Keyword}
use Rattle.setup_statements.specs.declared.keywords.Keyword.TheVariants as keyword
use Rattle.setup_statements.specs.declared.statements.Bound.{Bound}
use Rattle.setup_statements.specs.declared.statements.Statement.{Statement}
use Rattle.setup_statements.specs.declared.statements.Statement.TheVariants.{Local, Target, Peer, Forwarder, Ingress, Instance, Rule}
use Rattle.setup_statements.specs.Keywords.{keyword_text}
use Rattle.setup_statements.specs.Statements.{IsPeer, IsStatement, keyword_of, line_of}
use Rattle.setup_statements.proofs.PrintedLemmas.{IsLineByte, line_bytes, spelled_back, line_front}
use Rattle.sfc_config.specs.declared.drafts.Draft.{Draft}
use Rattle.sfc_config.specs.Parts.{Parts, AreParts, FitsMode}
use Rattle.sfc_config.specs.Drafts.{nothing, Fits, Adds}
use Rattle.sfc_config.specs.Texts.{is_text_byte, is_skipped, IsSaid, Runs, IsSetup}
use Rattle.sfc_config.specs.Printed.{instances_of, statements_of, printed}

-- statements that are said one after another
abbrev pub RunsSaid : Draft → List Statement → Draft → Type 0
RunsSaid d [] e = e ≡ d
RunsSaid d (s ∷ ss) e = (m : Draft) × IsStatement s × Fits d s × Adds d s m × RunsSaid m ss e

text_byte : (b : ℕ) → IsLineByte b → is_text_byte b ≡ true
text_byte b h = grind (arith, nat_tests)

front_kept : (k : Keyword) (rest : List ℕ) → is_skipped (keyword_text k ++ rest) ≡ false
front_kept keyword.Local rest = refl
front_kept keyword.Target rest = refl
front_kept keyword.Peer rest = refl
front_kept keyword.Forwarder rest = refl
front_kept keyword.Ingress rest = refl
front_kept keyword.Instance rest = refl
front_kept keyword.Rule rest = refl

line_is_said : (s : Statement) → IsStatement s → IsSaid (line_of s)
line_is_said s h = record {
  printable = All-weaker IsLineByte (λ b. is_text_byte b ≡ true) text_byte (line_of s) (line_bytes s h);
  kept = ap is_skipped (line_front s) ∙ front_kept (keyword_of s) _;
}

-- their lines are taken one after another
said_runs : (d e : Draft) (ss : List Statement) → RunsSaid d ss e → Runs d (map line_of ss) e
said_runs d e [] h = h
said_runs d e (s ∷ ss) h =
    (h.0, inr (record { said = line_is_said s h.1; statement = s; spelled = spelled_back s h.1; fits = h.2; added = h.3 }), said_runs h.0 e ss h.4)

abbrev IsUnbroken : List ℕ → Type 0
IsUnbroken bs = AllByRecursion (λ b. (b == 10) ≡ false) bs

lines-split : (front rest : List ℕ) → IsUnbroken front → lines_of (front ++ 10 ∷ rest) ≡ front ∷ lines_of rest
unfolding lines_of
lines-split [] rest h = refl
lines-split (b ∷ front) rest h = rw h.0 (ap (onto_first b) (lines-split front rest h.1))

unbroken_byte : (b : ℕ) → IsLineByte b → (b == 10) ≡ false
unbroken_byte b h = grind (arith, nat_tests)

line_unbroken : (s : Statement) → IsStatement s → IsUnbroken (line_of s)
line_unbroken s h = recursion_from_All _ (line_of s) (All-weaker IsLineByte (λ b. (b == 10) ≡ false) unbroken_byte (line_of s) (line_bytes s h))

no_lines : lines_of [] ≡ []
unfolding lines_of
no_lines = refl

-- and are the lines of their text
said_lines : (d e : Draft) (ss : List Statement) → RunsSaid d ss e → lines_of (printed ss) ≡ map line_of ss
said_lines d e [] h = no_lines
said_lines d e (s ∷ ss) h =
    ap lines_of (append_assoc (line_of s) (10 ∷ []) (printed ss))
    ∙ lines-split (line_of s) (printed ss) (line_unbroken s h.1)
    ∙ ap (λ r. line_of s ∷ r) (said_lines h.0 e ss h.4)

split_all : {X : Type 0} (P : X → Type 0) (xs ys : List X) → All P (xs ++ ys) → All P ys
split_all P [] ys h = h
split_all P (x ∷ xs) ys h = split_all P xs ys (All-tail P x (xs ++ ys) h)

all_at : {X : Type 0} (P : X → Type 0) (xs : List X) (x : X) (ys : List X) → All P (xs ++ x ∷ ys) → P x
all_at P xs x ys h = All-head P x ys (split_all P xs (x ∷ ys) h)

pairs_head : {X : Type 0} (R : X → X → Type 0) (z : X) (ws : List X) → AllPairs R (z ∷ ws) → All (R z) ws
pairs_head R z ws pairs = λ k d lt. pairs zero (suc k) d (omega arith) (omega (arith, lt))

pairs_tail : {X : Type 0} (R : X → X → Type 0) (z : X) (ws : List X) → AllPairs R (z ∷ ws) → AllPairs R ws
pairs_tail R z ws pairs = λ i j d low lt. pairs (suc i) (suc j) d (omega (arith, low)) (omega (arith, lt))

pairs_at : {X : Type 0} (R : X → X → Type 0) (xs : List X) (x : X) (ys : List X) → AllPairs R (xs ++ x ∷ ys) → All (λ z. R z x) xs
pairs_at R [] x ys pairs = All-nil (λ z. R z x)
pairs_at R (z ∷ zs) x ys pairs =
    All-cons (λ w. R w x) z zs (all_at (R z) zs x ys (pairs_head R z (zs ++ x ∷ ys) pairs)) (pairs_at R zs x ys (pairs_tail R z (zs ++ x ∷ ys) pairs))

room_at : {X : Type 0} (n : ℕ) (xs : List X) (x : X) (ys : List X) → length (xs ++ x ∷ ys) ≤ n → length xs < n
room_at n xs x ys h = let sum = length-append xs (x ∷ ys) in omega (arith, sum, h)

-- a group of statements of one kind, where each adds one to a list
run_group : {X : Type 0} (make : X → Statement) (D : List X → Draft) (all : List X) (rest : List Statement) (e : Draft)
    → ((xs : List X) (x : X) (ys : List X) → all ≡ xs ++ x ∷ ys → IsStatement (make x) × Fits (D xs) (make x))
    → ((xs : List X) (x : X) → Adds (D xs) (make x) (D (xs ++ x ∷ [])))
    → (xs ys : List X) → all ≡ xs ++ ys → RunsSaid (D all) rest e → RunsSaid (D xs) (map make ys ++ rest) e
run_group make D all rest e fit adds xs [] is h = subst (λ zs. RunsSaid (D zs) rest e) (is ∙ append-nil xs) h
run_group make D all rest e fit adds xs (y ∷ ys) is h =
    let fits = fit xs y ys is in
    (D (xs ++ y ∷ []), fits.0, fits.1, adds xs y, run_group make D all rest e fit adds (xs ++ y ∷ []) ys (is ∙ sym (append_assoc xs (y ∷ []) ys)) h)

-- the instances, where each adds one to two lists
run_instances : (D : List InstanceEntry → List Bound → Draft) (all : List InstanceEntry) (bounds : List Bound) (rest : List Statement) (e : Draft)
    → ((xs : List InstanceEntry) (x : InstanceEntry) (ys : List InstanceEntry) (bs : List Bound) (b : Bound) (cs : List Bound)
    → all ≡ xs ++ x ∷ ys → bounds ≡ bs ++ b ∷ cs → IsStatement (Instance x b) × Fits (D xs bs) (Instance x b))
    → ((xs : List InstanceEntry) (x : InstanceEntry) (bs : List Bound) (b : Bound) → Adds (D xs bs) (Instance x b) (D (xs ++ x ∷ []) (bs ++ b ∷ [])))
    → (xs ys : List InstanceEntry) (bs cs : List Bound) → length cs ≡ length ys → all ≡ xs ++ ys → bounds ≡ bs ++ cs
    → RunsSaid (D all bounds) rest e → RunsSaid (D xs bs) (instances_of ys cs ++ rest) e
run_instances D all bounds rest e fit adds xs [] bs [] len is its h =
    subst (λ zs. RunsSaid (D zs bs) rest e) (is ∙ append-nil xs) (subst (λ zs. RunsSaid (D all zs) rest e) (its ∙ append-nil bs) h)
run_instances D all bounds rest e fit adds xs [] bs (c ∷ cs) len is its h = absurd (omega (arith, len))
run_instances D all bounds rest e fit adds xs (y ∷ ys) bs [] len is its h = absurd (omega (arith, len))
run_instances D all bounds rest e fit adds xs (y ∷ ys) bs (c ∷ cs) len is its h =
    let fits = fit xs y ys bs c cs is its in (
      D (xs ++ y ∷ []) (bs ++ c ∷ []),
      fits.0,
      fits.1,
      adds xs y bs c,
      run_instances D all bounds rest e fit adds (xs ++ y ∷ []) ys (bs ++ c ∷ []) cs (omega (arith, len))
          (is ∙ sym (append_assoc xs (y ∷ []) ys)) (its ∙ sym (append_assoc bs (c ∷ []) cs)) h,
    )

-- what is said after each group
abbrev with_local : Parts → Draft
with_local p = record nothing { local = Some p.local }

abbrev with_targets : Parts → List (List ℕ) → Draft
with_targets p ts = record (with_local p) { roster = record { forwarders = []; instances = []; targets = ts } }

abbrev with_peers : Parts → List (ℕ × ℕ) → Draft
with_peers p ps = record (with_targets p p.roster.targets) { peers = ps }

abbrev with_forwarders : Parts → List ForwarderEntry → Draft
with_forwarders p fs = record (with_peers p p.peers) { roster = record { forwarders = fs; instances = []; targets = p.roster.targets } }

abbrev with_instances : Parts → List InstanceEntry → List Bound → Draft
with_instances p xs bs = record (with_peers p p.peers) {
  roster = record { forwarders = p.roster.forwarders; instances = xs; targets = p.roster.targets };
  ingress = Some p.ingress;
  instances = bs;
}

abbrev with_rules : Parts → List OneRule → Draft
with_rules p rs = record (with_instances p p.roster.instances p.instances) { rules = rs }

-- all statements of a setup
pub statements_run : (p : Parts) (name : List ℕ) → AreParts p → ((d : ForwarderEntry) → name ≡ (get_or p.roster.forwarders p.ingress.0 d).name) → IsName name
    → RunsSaid nothing (statements_of p name) (with_rules p p.rules)
statements_run p name k at form =
    let rules = run_group Rule (with_rules p) p.rules [] (with_rules p p.rules)
    (λ xs x ys is. (
      all_at IsRule xs x ys (subst (All IsRule) is k.rules_fit.each),
      record { room = room_at 256 xs x ys (subst (λ zs. length zs ≤ 256) is k.rules_fit.few); known = tt; new = tt; servable = tt },
    ))
    (λ xs x. refl) [] p.rules refl refl in
    let rules_only = subst (λ ss. RunsSaid (with_rules p []) ss (with_rules p p.rules)) (append-nil (map Rule p.rules)) rules in
    let instances = run_instances (with_instances p) p.roster.instances p.instances (map Rule p.rules) (with_rules p p.rules)
    (λ xs x ys bs b cs is its. (
      (
        all_at (λ (i : InstanceEntry). IsName i.name) xs x ys (subst (All (λ (i : InstanceEntry). IsName i.name)) is k.roster_fits.instance_names),
        all_at (λ (i : InstanceEntry). IsOctets 8 i.rd) xs x ys (subst (All (λ (i : InstanceEntry). IsOctets 8 i.rd)) is k.roster_fits.instance_rds),
        all_at (λ (i : InstanceEntry). IsWithin 32 65535 i.kind) xs x ys (subst (All (λ (i : InstanceEntry). IsWithin 32 65535 i.kind)) is k.kinds_fit),
        all_at (λ (c : Bound). IsFunction c.function) bs b cs (subst (All (λ (c : Bound). IsFunction c.function)) its k.functions_fit),
      ),
      record {
        room = room_at 1024 xs x ys (subst (λ zs. length zs ≤ 1024) is k.roster_fits.few_instances);
        known = tt;
        new = (
          pairs_at (λ (i j : InstanceEntry). i.name ≢ j.name) xs x ys (subst (AllPairs (λ (i j : InstanceEntry). i.name ≢ j.name)) is k.roster_fits.instance_names_differ),
          pairs_at (λ (i j : InstanceEntry). Serves j.rd j.kind i → ⊥) xs x ys (subst (AllPairs (λ (i j : InstanceEntry). Serves j.rd j.kind i → ⊥)) is k.roster_fits.services_differ),
        );
        servable = all_at FitsMode bs b cs (subst (All FitsMode) its k.modes_fit);
      },
    ))
    (λ xs x bs b. refl) [] p.roster.instances [] p.instances k.all_bound refl refl rules_only in
    let ingress : RunsSaid (with_forwarders p p.roster.forwarders) (Ingress name ∷ (instances_of p.roster.instances p.instances ++ map Rule p.rules)) (with_rules p p.rules)
    = (
      with_instances p [] [],
      form,
      record { room = tt; known = (p.ingress.0, (k.ingress_known, λ d. sym (at d))); new = refl; servable = tt },
      (p.ingress, (k.ingress_known, λ d. sym (at d)), refl),
      instances,
    ) in
    let forwarders = run_group Forwarder (with_forwarders p) p.roster.forwarders _ (with_rules p p.rules)
    (λ xs x ys is. (
      (
        all_at (λ (f : ForwarderEntry). IsName f.name) xs x ys (subst (All (λ (f : ForwarderEntry). IsName f.name)) is k.roster_fits.forwarder_names),
        all_at (λ (f : ForwarderEntry). IsAddress f.address) xs x ys (subst (All (λ (f : ForwarderEntry). IsAddress f.address)) is k.roster_fits.forwarder_addresses),
      ),
      record {
        room = room_at 64 xs x ys (subst (λ zs. length zs ≤ 64) is k.roster_fits.few_forwarders);
        known = tt;
        new = (
          pairs_at (λ (f g : ForwarderEntry). f.name ≢ g.name) xs x ys (subst (AllPairs (λ (f g : ForwarderEntry). f.name ≢ g.name)) is k.roster_fits.forwarder_names_differ),
          pairs_at (λ (f g : ForwarderEntry). f.address ≢ g.address) xs x ys (subst (AllPairs (λ (f g : ForwarderEntry). f.address ≢ g.address)) is k.roster_fits.addresses_differ),
        );
        servable = tt;
      },
    ))
    (λ xs x. refl) [] p.roster.forwarders refl ingress in
    let peers = run_group Peer (with_peers p) p.peers _ (with_rules p p.rules)
    (λ xs x ys is. (
      all_at IsPeer xs x ys (subst (All IsPeer) is k.peers_fit),
      record {
        room = room_at 16 xs x ys (subst (λ zs. length zs ≤ 16) is k.few_peers);
        known = tt;
        new = pairs_at (λ (q r : ℕ × ℕ). q.0 ≢ r.0) xs x ys (subst (AllPairs (λ (q r : ℕ × ℕ). q.0 ≢ r.0)) is k.peers_differ);
        servable = tt;
      },
    ))
    (λ xs x. refl) [] p.peers refl forwarders in
    let targets = run_group Target (with_targets p) p.roster.targets _ (with_rules p p.rules)
    (λ xs x ys is. (
      all_at (IsOctets 8) xs x ys (subst (All (IsOctets 8)) is k.roster_fits.target_bytes),
      record {
        room = room_at 16 xs x ys (subst (λ zs. length zs ≤ 16) is k.roster_fits.few_targets);
        known = tt;
        new = pairs_at (λ (s t : List ℕ). s ≢ t) xs x ys (subst (AllPairs (λ (s t : List ℕ). s ≢ t)) is k.roster_fits.targets_differ);
        servable = tt;
      },
    ))
    (λ xs x. refl) [] p.roster.targets refl peers in
    (with_targets p [], k.local_fits, record { room = tt; known = tt; new = refl; servable = tt }, refl, targets)

-- the name of a forwarder has the form of a name
pub name_form : (fs : List ForwarderEntry) (i : ℕ) (name : List ℕ) → All (λ (f : ForwarderEntry). IsName f.name) fs → i < length fs
    → ((d : ForwarderEntry) → name ≡ (get_or fs i d).name) → IsName name
name_form [] i name names lt at = absurd (omega (arith, lt))
name_form (f ∷ fs) i name names lt at = subst IsName (sym (at f)) (names i f lt)

-- the text of a setup spells it
pub printed_setup : (p : Parts) (name text : List ℕ) → AreParts p → ((d : ForwarderEntry) → name ≡ (get_or p.roster.forwarders p.ingress.0 d).name) → IsName name
    → text ≡ printed (statements_of p name) → IsSetup text p
printed_setup p name text k at form is =
    let run = statements_run p name k at form in
    let known = k.ingress_known in
    record {
      draft = with_rules p p.rules;
      runs = subst (λ ls. Runs nothing ls (with_rules p p.rules))
          (sym (ap lines_of is ∙ said_lines nothing (with_rules p p.rules) (statements_of p name) run))
          (said_runs nothing (with_rules p p.rules) (statements_of p name) run);
      ends = record {
        local = refl;
        forwarder = omega (arith, known);
        ingress = refl;
        peers = refl;
        roster = refl;
        instances = refl;
        rules = refl;
      };
    }
