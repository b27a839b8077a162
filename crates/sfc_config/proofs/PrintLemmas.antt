-- Statements that are printed one after another.
use Rattle.std.proofs.Common.{◌≡◌, ℕ, zero, suc, ◌+◌, ◌<◌, ◌≤◌, List, [], ◌∷◌, ◌++◌, length, drop, get_or, refl, sym, ◌∙◌, ap, arith, add-one, drop-cons, append_assoc}
use Rattle.std.specs.Prelude.{map}
use Rattle.std.proofs.lemmas.List.{append-nil}
use Rattle.wire_base.specs.declared.next_hops.NextHop.{NextHop}
use Rattle.sfc_routes.specs.declared.entries.ForwarderEntry.{ForwarderEntry}
use Rattle.sfc_routes.specs.declared.entries.InstanceEntry.{InstanceEntry}
use Rattle.setup_statements.specs.declared.statements.Bound.{Bound}
use Rattle.setup_statements.specs.declared.statements.Statement.{Statement}
use Rattle.setup_statements.specs.declared.statements.Statement.TheVariants.{Local, Target, Peer, Forwarder, Ingress, Instance, Rule}
use Rattle.setup_statements.specs.Statements.{ended_line}
use Rattle.setup_statements.proofs.StatementLemmas.{forwarder_same}
use Rattle.sfc_config.specs.Parts.{Parts}
use Rattle.sfc_config.specs.Printed.{instances_of, statements_of, printed}

-- the element at a place, and those behind it
here : {X : Type 0} (xs : List X) (i : ℕ) (x : X) → i < length xs → ((d : X) → x ≡ get_or xs i d) → drop i xs ≡ x ∷ drop (i + 1) xs
here xs i x lt at = drop-cons xs i x lt ∙ ap (λ y. y ∷ drop (suc i) xs) (sym (at x)) ∙ ap (λ k. x ∷ drop k xs) (sym (add-one i))

-- one more of a group
pub next_group : {X : Type 0} (make : X → Statement) (xs : List X) (i : ℕ) (x : X) (o1 o2 whole : List ℕ) → i < length xs → ((d : X) → x ≡ get_or xs i d)
    → o2 ≡ o1 ++ ended_line (make x) → o1 ++ printed (map make (drop i xs)) ≡ whole → o2 ++ printed (map make (drop (i + 1) xs)) ≡ whole
next_group make xs i x o1 o2 whole lt at wrote h =
    ap (λ o. o ++ printed (map make (drop (i + 1) xs))) wrote
    ∙ append_assoc o1 (ended_line (make x)) (printed (map make (drop (i + 1) xs)))
    ∙ ap (λ ys. o1 ++ printed (map make ys)) (sym (here xs i x lt at))
    ∙ h

-- one more forwarder
pub next_forwarder : (xs : List ForwarderEntry) (i : ℕ) (n : List ℕ) (a : NextHop) (o1 o2 whole : List ℕ) → i < length xs
    → ((d : ForwarderEntry) → n ≡ (get_or xs i d).name) → ((d : ForwarderEntry) → a ≡ (get_or xs i d).address)
    → o2 ≡ o1 ++ ended_line (Forwarder (record { name = n; address = a }))
    → o1 ++ printed (map Forwarder (drop i xs)) ≡ whole → o2 ++ printed (map Forwarder (drop (i + 1) xs)) ≡ whole
next_forwarder xs i n a o1 o2 whole lt name address wrote h =
    next_group Forwarder xs i (record { name = n; address = a }) o1 o2 whole lt
    (λ d. forwarder_same (record { name = n; address = a }) (get_or xs i d) (name d) (address d)) wrote h

abbrev entry_of : List ℕ → List ℕ → ℕ → InstanceEntry
entry_of n r k = record { name = n; rd = r; kind = k }

entry_same : (i j : InstanceEntry) → i.name ≡ j.name → i.rd ≡ j.rd → i.kind ≡ j.kind → i ≡ j
entry_same i j n r k = ap (λ x. entry_of x i.rd i.kind) n ∙ ap (λ x. entry_of j.name x i.kind) r ∙ ap (λ x. entry_of j.name j.rd x) k

-- one more instance
pub next_instance : (xs : List InstanceEntry) (bs : List Bound) (i : ℕ) (n r : List ℕ) (k : ℕ) (b : Bound) (o1 o2 whole : List ℕ)
    → i < length xs → i < length bs
    → ((d : InstanceEntry) → n ≡ (get_or xs i d).name) → ((d : InstanceEntry) → r ≡ (get_or xs i d).rd) → ((d : InstanceEntry) → k ≡ (get_or xs i d).kind)
    → ((d : Bound) → b ≡ get_or bs i d)
    → o2 ≡ o1 ++ ended_line (Instance (record { name = n; rd = r; kind = k }) b)
    → o1 ++ printed (instances_of (drop i xs) (drop i bs)) ≡ whole → o2 ++ printed (instances_of (drop (i + 1) xs) (drop (i + 1) bs)) ≡ whole
next_instance xs bs i n r k b o1 o2 whole lt lb name rd kind bound wrote h =
    let e = entry_of n r k in
    let entries = here xs i e lt (λ d. entry_same e (get_or xs i d) (name d) (rd d) (kind d)) in
    let bounds = here bs i b lb bound in
    ap (λ o. o ++ printed (instances_of (drop (i + 1) xs) (drop (i + 1) bs))) wrote
    ∙ append_assoc o1 (ended_line (Instance e b)) (printed (instances_of (drop (i + 1) xs) (drop (i + 1) bs)))
    ∙ ap (λ ys. o1 ++ printed (instances_of ys (b ∷ drop (i + 1) bs))) (sym entries)
    ∙ ap (λ ys. o1 ++ printed (instances_of (drop i xs) ys)) (sym bounds)
    ∙ h

drop_all : {X : Type 0} (xs : List X) (i : ℕ) → length xs ≤ i → drop i xs ≡ []
drop_all [] zero h = refl
drop_all [] (suc i) h = refl
drop_all (x ∷ xs) zero h = absurd (omega (arith, h))
drop_all (x ∷ xs) (suc i) h = drop_all xs i (omega (arith, h))

-- no instance is left
pub all_instances : (xs : List InstanceEntry) (bs : List Bound) (i : ℕ) (o whole : List ℕ) → length xs ≤ i
    → o ++ printed (instances_of (drop i xs) (drop i bs)) ≡ whole → o ≡ whole
all_instances xs bs i o whole all h =
    sym (append-nil o) ∙ ap (λ ys. o ++ printed (instances_of ys (drop i bs))) (sym (drop_all xs i all)) ∙ h

printed-append : (xs ys : List Statement) → printed (xs ++ ys) ≡ printed xs ++ printed ys
printed-append [] ys = refl
printed-append (s ∷ xs) ys =
    ap (λ r. ended_line s ++ r) (printed-append xs ys) ∙ sym (append_assoc (ended_line s) (printed xs) (printed ys))

joined_in_turn : (a b c d e f g : List ℕ) {o0 o1 o2 o3 o4 o5 o6 o7 : List ℕ} → o0 ≡ [] → o1 ≡ o0 ++ a → o2 ≡ o1 ++ b → o3 ≡ o2 ++ c → o4 ≡ o3 ++ d
    → o5 ≡ o4 ++ e → o6 ≡ o5 ++ f → o7 ≡ o6 ++ g → o7 ≡ a ++ (b ++ (c ++ (d ++ (e ++ (f ++ g)))))
joined_in_turn a b c d e f g e0 e1 e2 e3 e4 e5 e6 e7 =
    let all : (((((([] ++ a) ++ b) ++ c) ++ d) ++ e) ++ f) ++ g ≡ a ++ (b ++ (c ++ (d ++ (e ++ (f ++ g))))) = simp append_assoc in
    rw (e7, e6, e5, e4, e3, e2, e1, e0) all

-- what was written in turn is the text of the statements
pub printed_in_turn : (p : Parts) (name : List ℕ) {o0 o1 o2 o3 o4 o5 o6 o7 : List ℕ} → o0 ≡ [] → o1 ≡ o0 ++ ended_line (Local p.local)
    → o2 ≡ o1 ++ printed (map Target p.roster.targets) → o3 ≡ o2 ++ printed (map Peer p.peers) → o4 ≡ o3 ++ printed (map Forwarder p.roster.forwarders)
    → o5 ≡ o4 ++ ended_line (Ingress name) → o6 ≡ o5 ++ printed (instances_of p.roster.instances p.instances) → o7 ≡ o6 ++ printed (map Rule p.rules)
    → o7 ≡ printed (statements_of p name)
printed_in_turn p name e0 e1 e2 e3 e4 e5 e6 e7 =
    let l = ended_line (Local p.local) in
    let t = printed (map Target p.roster.targets) in
    let q = printed (map Peer p.peers) in
    let f = printed (map Forwarder p.roster.forwarders) in
    let g = ended_line (Ingress name) in
    let i = printed (instances_of p.roster.instances p.instances) in
    let r = printed (map Rule p.rules) in
    joined_in_turn l t q f g i r e0 e1 e2 e3 e4 e5 e6 e7
    ∙ sym (ap (λ x. l ++ x) (printed-append (map Target p.roster.targets) _
    ∙ ap (λ x. t ++ x) (printed-append (map Peer p.peers) _
    ∙ ap (λ x. q ++ x) (printed-append (map Forwarder p.roster.forwarders) _
    ∙ ap (λ x. f ++ (g ++ x)) (printed-append (instances_of p.roster.instances p.instances) (map Rule p.rules))))))
