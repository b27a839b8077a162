-- One statement a line.
use Rattle.std.proofs.Common.{◌≡◌, ◌⊎◌, ℕ, ◌/◌, ◌%◌, ◌<◌, ◌≤◌, ◌^◌, Bool, true, false, List, [], ◌∷◌, length, refl, sym, ◌∙◌, ap, subst, arith, lit<, inl, inr, Option, Some, None}
use Rattle.std.specs.Prelude.{◌==◌, codes}
use Rattle.std.specs.List.{All}
use Rattle.std.specs.Fmt.{decimal}
use Rattle.std.proofs.lemmas.Fmt.{decimal_injective}
use Rattle.std.proofs.lemmas.List.{append_cancel_left}
use Rattle.std.proofs.lemmas.List.Elements.{All-from_recursion, All-append, All-cons}
use Rattle.std.proofs.lemmas.Bool.Decides.{nat_tests}
use Rattle.hex.specs.Hex.{lower_digits}
use Rattle.hex.proofs.HexLemmas.{length-encode_with}
use Rattle.wire_base.specs.Numbers.{AreBytes}
use Rattle.net_frames.specs.declared.contents.Side.{Side}
use Rattle.net_frames.specs.declared.contents.Side.TheVariants.{Source, Destination}
use Rattle.nsh_metadata.specs.declared.contexts.Context.{Context}
use Rattle.nsh_metadata.specs.declared.contexts.Context.TheVariants.{Fixed16, Items}
use Rattle.text_words.specs.Hexadecimal.{IsOctets, hexadecimal, four_digits, octets_or_dash}
use Rattle.text_words.specs.Pieces.{pieces_of}
use Rattle.text_words.proofs.NumberLemmas.{decimal-lacks}
use Rattle.bgp_session.specs.declared.local_sides.Local.{Local as LocalSide}
use Rattle.bgp_session.specs.LocalSide.{IsLocal}
use Rattle.sfc_routes.specs.declared.entries.ForwarderEntry.{ForwarderEntry}
use Rattle.sfc_routes.specs.declared.entries.InstanceEntry.{InstanceEntry}
use Rattle.wire_base.specs.declared.next_hops.NextHop.{NextHop}
use Rattle.service_functions.specs.Functions.{has_ports, IsFunction}
use Rattle.service_functions.specs.declared.functions.Function.{Function}
use Rattle.service_functions.specs.declared.functions.Function.TheVariants.{Pass, Firewall, Remark, Nat, HopLimit, PushVlan, PopVlan, Stamp, RequireMeta, ClearMeta}
use Rattle.classifier.specs.Rules.{FitsIfAsked, IsPrefix, IsPorts, IsAction, IsRuleContext}
use Rattle.classifier.specs.declared.rules.Prefix.{Prefix}
use Rattle.classifier.specs.declared.rules.Rule.{Rule as OneRule}
use Rattle.classifier.specs.declared.rules.Action.{Action}
use Rattle.classifier.specs.declared.rules.Action.TheVariants.{Path, Bypass, Refuse}
use Rattle.setup_statements.specs.declared.statements.Bound.{Bound}
use Rattle.setup_statements.specs.declared.statements.Statement.{Statement}
use Rattle.setup_statements.specs.declared.statements.Statement.TheVariants.{Local, Target, Peer, Forwarder, Ingress, Instance, Rule}
use Rattle.setup_statements.specs.FunctionText.{port_protocol, side_text, word_of, told_words, function_words}
use Rattle.setup_statements.specs.RuleText.{star_or, prefix_text, ports_text, IsProtocolText, context_text, action_words, TellsRule}
use Rattle.setup_statements.specs.Statements.{local_words, mode_text, IsInstance, instance_words, keyword_of, Tells, Spells}
use Rattle.setup_statements.proofs.StepLemmas.{head_is, tail_is}
use Rattle.setup_statements.proofs.TextLemmas.{decimal_all, address_all}
use Rattle.setup_statements.proofs.PairLemmas.{cut_of_prefix, cut_of_ports}
use Rattle.setup_statements.proofs.KeywordLemmas.{differ, one_keyword, one_function_word}
use Rattle.setup_statements.proofs.OneLemmas.{one_hexadecimal, one_dotted, one_address, octets_fit, one_octets}
use Rattle.setup_statements.proofs.ReadingLemmas.{local_is}

-- the first of two lists that are one, and the others
same_head : {X : Type 0} (x y : X) (xs ys : List X) → x ∷ xs ≡ y ∷ ys → x ≡ y
same_head x y xs ys e = head_is _ x y xs ys refl e

same_tail : {X : Type 0} (x y : X) (xs ys : List X) → x ∷ xs ≡ y ∷ ys → xs ≡ ys
same_tail x y xs ys e = tail_is _ x y xs ys refl e

number_is : (m n : ℕ) → m < 2 ^ 32 → n < 2 ^ 32 → decimal m ≡ decimal n → m ≡ n
number_is m n hm hn e = decimal_injective m n (omega (arith, hm)) (omega (arith, hn)) e

two_bytes : (n : ℕ) → n < 2 ^ 16 → IsOctets 2 (n / 256 ∷ n % 256 ∷ [])
two_bytes n h = let first : n / 256 < 256 = omega (arith, h) in (refl, All-from_recursion (λ b. b < 256) (n / 256 ∷ n % 256 ∷ []) (first, (omega arith, tt)))

one_four_digits : (m n : ℕ) → m < 2 ^ 16 → n < 2 ^ 16 → four_digits m ≡ four_digits n → m ≡ n
one_four_digits m n hm hn e =
    let pair = one_hexadecimal 2 (m / 256 ∷ m % 256 ∷ []) (n / 256 ∷ n % 256 ∷ []) (two_bytes m hm) (two_bytes n hn) e in
    let high = same_head _ _ _ _ pair in
    let low = same_head _ _ _ _ (same_tail _ _ _ _ pair) in
    omega (arith, high, low)

one_body : (a b : List ℕ) → AreBytes a → AreBytes b → octets_or_dash a ≡ octets_or_dash b → a ≡ b
one_body [] [] ha hb e = refl
one_body [] (b ∷ ys) ha hb e = let long = length-encode_with lower_digits (b ∷ ys) in let len = ap length e in absurd (omega (arith, len, long))
one_body (a ∷ xs) [] ha hb e = let long = length-encode_with lower_digits (a ∷ xs) in let len = ap length e in absurd (omega (arith, len, long))
one_body (a ∷ xs) (b ∷ ys) ha hb e =
    let la = length-encode_with lower_digits (a ∷ xs) in
    let lb = length-encode_with lower_digits (b ∷ ys) in
    let len = ap length e in
    let same : length (b ∷ ys) ≡ length (a ∷ xs) = omega (arith, la, lb, len) in
    one_hexadecimal (length (a ∷ xs)) (a ∷ xs) (b ∷ ys) (refl, ha) (same, hb) e

protocol_is : (p : ℕ) → has_ports p ≡ true → (p ≡ 6) ⊎ (p ≡ 17)
protocol_is p h = grind (arith, nat_tests)

names_differ : port_protocol 6 ≡ port_protocol 17 → ⊥
names_differ e = omega (arith, differ _ _ e)

one_port_protocol : (p q : ℕ) → has_ports p ≡ true → has_ports q ≡ true → port_protocol p ≡ port_protocol q → p ≡ q
one_port_protocol p q hp hq e = elim (protocol_is p hp) [
  | inl p6 ↦ elim (protocol_is q hq) [
    | inl q6 ↦ p6 ∙ sym q6
    | inr q17 ↦ absurd (names_differ (sym (ap port_protocol p6) ∙ e ∙ ap port_protocol q17))
  ]
  | inr p17 ↦ elim (protocol_is q hq) [
    | inl q6 ↦ absurd (names_differ (sym (ap port_protocol q6) ∙ sym e ∙ ap port_protocol p17))
    | inr q17 ↦ p17 ∙ sym q17
  ]
]

one_side : (a b : Side) → side_text a ≡ side_text b → a ≡ b
one_side Source Source e = refl
one_side Destination Destination e = refl
one_side a b e = absurd (omega (arith, differ _ _ e))

one_mode : (a b : Bool) → mode_text a ≡ mode_text b → a ≡ b
one_mode true true e = refl
one_mode false false e = refl
one_mode a b e = absurd (omega (arith, differ _ _ e))

one_told : (f g : Function) → IsFunction f → IsFunction g → word_of f ≡ word_of g → told_words f ≡ told_words g → f ≡ g
one_told Pass Pass hf hg w e = refl
one_told (Firewall p l h) (Firewall q m n) hf hg w e =
    let protocol = one_port_protocol p q hf.0 hg.0 (same_head _ _ _ _ e) in
    let e2 = same_tail _ _ _ _ e in
    let low = number_is l m (omega (arith, hf.1, hf.2)) (omega (arith, hg.1, hg.2)) (same_head _ _ _ _ e2) in
    let high = number_is h n (omega (arith, hf.2)) (omega (arith, hg.2)) (same_head _ _ _ _ (same_tail _ _ _ _ e2)) in
    cc
one_told (Remark a) (Remark b) hf hg w e = ap Remark (number_is a b (omega (arith, hf)) (omega (arith, hg)) (same_head _ _ _ _ e))
one_told (Nat s a b) (Nat t c d) hf hg w e =
    let side = one_side s t (same_head _ _ _ _ e) in
    let e2 = same_tail _ _ _ _ e in
    let from = one_dotted a c hf.0 hg.0 (same_head _ _ _ _ e2) in
    let to = one_dotted b d hf.1 hg.1 (same_head _ _ _ _ (same_tail _ _ _ _ e2)) in
    cc
one_told HopLimit HopLimit hf hg w e = refl
one_told (PushVlan a) (PushVlan b) hf hg w e = ap PushVlan (number_is a b (omega (arith, hf)) (omega (arith, hg)) (same_head _ _ _ _ e))
one_told PopVlan PopVlan hf hg w e = refl
one_told (Stamp a k x) (Stamp b l y) hf hg w e =
    let class = one_four_digits a b hf.0 hg.0 (same_head _ _ _ _ e) in
    let e2 = same_tail _ _ _ _ e in
    let kind = number_is k l (omega (arith, hf.1)) (omega (arith, hg.1)) (same_head _ _ _ _ e2) in
    let items = one_body x.items y.items hf.2.1 hg.2.1 (same_head _ _ _ _ (same_tail _ _ _ _ e2)) in
    ap (λ c. Stamp c k x) class ∙ ap (λ c. Stamp b c x) kind ∙ ap (λ (i : List ℕ). Stamp b l (record { items = i })) items
one_told (RequireMeta a k) (RequireMeta b l) hf hg w e =
    let class = one_four_digits a b hf.0 hg.0 (same_head _ _ _ _ e) in
    let kind = number_is k l (omega (arith, hf.1)) (omega (arith, hg.1)) (same_head _ _ _ _ (same_tail _ _ _ _ e)) in
    cc
one_told ClearMeta ClearMeta hf hg w e = refl
one_told f g hf hg w e = absurd cc

one_function : (f g : Function) → IsFunction f → IsFunction g → function_words f ≡ function_words g → f ≡ g
one_function f g hf hg e = one_told f g hf hg (one_function_word _ _ (same_head _ _ _ _ e)) (same_tail _ _ _ _ e)

abbrev LacksStar : List ℕ → Type 0
LacksStar w = All (λ b. (b == 42) ≡ false) w

not_star : (w : List ℕ) → LacksStar w → w ≡ codes "*" → ⊥
not_star w all e = let wrong : true ≡ false = subst LacksStar e all 0 0 (lit< tt) in absurd cc

digit_is_no_star : (c : ℕ) → 48 ≤ c → c ≤ 57 → (c == 42) ≡ false
digit_is_no_star c low high = grind (arith, nat_tests)

letter_is_no_star : (c : ℕ) → 97 ≤ c → c ≤ 102 → (c == 42) ≡ false
letter_is_no_star c low high = grind (arith, nat_tests)

one_star : {X : Type 0} (spelling : X → List ℕ) (P : X → Type 0) → ((x y : X) → P x → P y → spelling x ≡ spelling y → x ≡ y)
    → ((x : X) → P x → LacksStar (spelling x)) → (a b : Option X) → FitsIfAsked P a → FitsIfAsked P b → star_or spelling a ≡ star_or spelling b → a ≡ b
one_star spelling P one lacks None None ha hb e = refl
one_star spelling P one lacks None (Some y) ha hb e = absurd (not_star (spelling y) (lacks y hb) (sym e))
one_star spelling P one lacks (Some x) None ha hb e = absurd (not_star (spelling x) (lacks x ha) e)
one_star spelling P one lacks (Some x) (Some y) ha hb e = ap Some (one x y ha hb e)

abbrev prefix_of : NextHop → ℕ → Prefix
prefix_of a n = record { address = a; bits = n }

prefix_same : (p q : Prefix) → p.address ≡ q.address → p.bits ≡ q.bits → p ≡ q
prefix_same p q a b = ap (λ x. prefix_of x p.bits) a ∙ ap (λ n. prefix_of q.address n) b

few_bits : (p : Prefix) → IsPrefix p → p.bits < 2 ^ 32
few_bits p h = grind arith

one_prefix : (p q : Prefix) → IsPrefix p → IsPrefix q → prefix_text p ≡ prefix_text q → p ≡ q
one_prefix p q hp hq e =
    let parts = sym (cut_of_prefix p hp) ∙ ap (pieces_of 47) e ∙ cut_of_prefix q hq in
    prefix_same p q (one_address p.address q.address hp.0 hq.0 (same_head _ _ _ _ parts))
    (number_is p.bits q.bits (few_bits p hp) (few_bits q hq) (same_head _ _ _ _ (same_tail _ _ _ _ parts)))

prefix_lacks : (p : Prefix) → IsPrefix p → LacksStar (prefix_text p)
prefix_lacks p h =
    All-append (λ b. (b == 42) ≡ false) _ _ (address_all (λ b. (b == 42) ≡ false) digit_is_no_star letter_is_no_star refl p.address h.0)
    (All-cons (λ b. (b == 42) ≡ false) 47 (decimal p.bits) refl (decimal-lacks 42 p.bits (lit< tt) (let few = few_bits p h in omega (arith, few))))

abbrev pair_of : ℕ → ℕ → ℕ × ℕ
pair_of m n = (m, n)

pair_same : (p q : ℕ × ℕ) → p.0 ≡ q.0 → p.1 ≡ q.1 → p ≡ q
pair_same p q a b = ap (λ m. pair_of m p.1) a ∙ ap (λ n. pair_of q.0 n) b

one_ports : (p q : ℕ × ℕ) → IsPorts p → IsPorts q → ports_text p ≡ ports_text q → p ≡ q
one_ports p q hp hq e =
    let parts = sym (cut_of_ports p hp) ∙ ap (pieces_of 45) e ∙ cut_of_ports q hq in
    let low = number_is p.0 q.0 (omega (arith, hp)) (omega (arith, hq)) (same_head _ _ _ _ parts) in
    let high = number_is p.1 q.1 (omega (arith, hp)) (omega (arith, hq)) (same_head _ _ _ _ (same_tail _ _ _ _ parts)) in
    pair_same p q low high

ports_lack : (p : ℕ × ℕ) → IsPorts p → LacksStar (ports_text p)
ports_lack p h =
    All-append (λ b. (b == 42) ≡ false) _ _ (decimal-lacks 42 p.0 (lit< tt) (omega (arith, h)))
    (All-cons (λ b. (b == 42) ≡ false) 45 (decimal p.1) refl (decimal-lacks 42 p.1 (lit< tt) (omega (arith, h))))

not_name : (n q : ℕ) → n < 2 ^ 64 → has_ports q ≡ true → decimal n ≡ port_protocol q → ⊥
not_name n q h hq e =
    let low = decimal_all (λ c. c ≤ 57) (λ c least most. most) n h in
    elim (protocol_is q hq) [
      | inl q6 ↦ let wrong : 116 ≤ 57 = subst (All (λ c. c ≤ 57)) (e ∙ ap port_protocol q6) low 0 0 (lit< tt) in omega (arith, wrong)
      | inr q17 ↦ let wrong : 117 ≤ 57 = subst (All (λ c. c ≤ 57)) (e ∙ ap port_protocol q17) low 0 0 (lit< tt) in omega (arith, wrong)
    ]

star_is_no_name : (q : ℕ) → has_ports q ≡ true → codes "*" ≡ port_protocol q → ⊥
star_is_no_name q hq e = elim (protocol_is q hq) [
  | inl q6 ↦ omega (arith, differ _ _ (e ∙ ap port_protocol q6))
  | inr q17 ↦ omega (arith, differ _ _ (e ∙ ap port_protocol q17))
]

star_is_no_protocol : (p : ℕ) (word : List ℕ) → word ≡ codes "*" → IsProtocolText (Some p) word → ⊥
star_is_no_protocol p word star told = elim (told.1) [
  | inl number ↦ not_star (decimal p) (decimal-lacks 42 p (lit< tt) (omega (arith, told.0))) (sym number ∙ star)
  | inr name ↦ star_is_no_name p name.0 (sym star ∙ name.1)
]

one_protocol : (a b : Option ℕ) (word : List ℕ) → IsProtocolText a word → IsProtocolText b word → a ≡ b
one_protocol None None word ta tb = refl
one_protocol None (Some q) word ta tb = absurd (star_is_no_protocol q word ta tb)
one_protocol (Some p) None word ta tb = absurd (star_is_no_protocol p word tb ta)
one_protocol (Some p) (Some q) word ta tb = elim (ta.1) [
  | inl pn ↦ elim (tb.1) [
    | inl qn ↦ ap Some (number_is p q (omega (arith, ta.0)) (omega (arith, tb.0)) (sym pn ∙ qn))
    | inr qname ↦ absurd (not_name p q (omega (arith, ta.0)) qname.0 (sym pn ∙ qname.1))
  ]
  | inr pname ↦ elim (tb.1) [
    | inl qn ↦ absurd (not_name q p (omega (arith, tb.0)) pname.0 (sym qn ∙ pname.1))
    | inr qname ↦ ap Some (one_port_protocol p q pname.0 qname.0 (sym pname.1 ∙ qname.1))
  ]
]

one_context : (a b : Context) → IsRuleContext a → IsRuleContext b → context_text a ≡ context_text b → a ≡ b
one_context (Fixed16 a) (Fixed16 b) ha hb e = ap Fixed16 (one_hexadecimal 16 a b ha hb (append_cancel_left (codes "md1:") (hexadecimal a) (hexadecimal b) e))
one_context (Fixed16 a) (Items y) ha hb e = let len = ap length e in absurd (omega (arith, len))
one_context (Items x) (Fixed16 b) ha hb e = let len = ap length e in absurd (omega (arith, len))
one_context (Items x) (Items y) ha hb e = ap Items (ha ∙ sym hb)

one_action : (a b : Action) → IsAction a → IsAction b → action_words a ≡ action_words b → a ≡ b
one_action (Path p s t c) (Path q u v d) ha hb e =
    let e1 = same_tail _ _ _ _ e in
    let e2 = same_tail _ _ _ _ e1 in
    let e3 = same_tail _ _ _ _ e2 in
    let e4 = same_tail _ _ _ _ e3 in
    let spi = number_is p q (omega (arith, ha.0)) (omega (arith, hb.0)) (same_head _ _ _ _ e1) in
    let si = number_is s u (omega (arith, ha.1)) (omega (arith, hb.1)) (same_head _ _ _ _ e2) in
    let ttl = number_is t v (omega (arith, ha.2)) (omega (arith, hb.2)) (same_head _ _ _ _ e3) in
    let context = one_context c d ha.3 hb.3 (same_head _ _ _ _ e4) in
    cc
one_action Bypass Bypass ha hb e = refl
one_action Refuse Refuse ha hb e = refl
one_action a b ha hb e = absurd (omega (arith, differ _ _ (same_head _ _ _ _ e)))

abbrev rule_of : Option ℕ → Option Prefix → Option Prefix → Option ℕ → Option (ℕ × ℕ) → Action → OneRule
rule_of v f t p r a = record { vlan = v; from = f; to = t; protocol = p; ports = r; action = a }

one_rule : (words : List (List ℕ)) (r q : OneRule) → TellsRule words r → TellsRule words q → r ≡ q
one_rule words r q tr tq =
    let e = sym tr.told ∙ tq.told in
    let e1 = same_tail _ _ _ _ e in
    let e2 = same_tail _ _ _ _ e1 in
    let e3 = same_tail _ _ _ _ e2 in
    let e4 = same_tail _ _ _ _ e3 in
    let e5 = same_tail _ _ _ _ e4 in
    let vlan = one_star decimal (λ v. v ≤ 4095) (λ x y hx hy. number_is x y (omega (arith, hx)) (omega (arith, hy)))
    (λ x hx. decimal-lacks 42 x (lit< tt) (omega (arith, hx))) r.vlan q.vlan tr.fits.vlan tq.fits.vlan (same_head _ _ _ _ e) in
    let from = one_star prefix_text IsPrefix one_prefix prefix_lacks r.from q.from tr.fits.from_fits tq.fits.from_fits (same_head _ _ _ _ e1) in
    let to = one_star prefix_text IsPrefix one_prefix prefix_lacks r.to q.to tr.fits.to_fits tq.fits.to_fits (same_head _ _ _ _ e2) in
    let word = same_head _ _ _ _ e3 in
    let protocol = one_protocol r.protocol q.protocol tq.protocol (subst (IsProtocolText r.protocol) word tr.protocol_told) tq.protocol_told in
    let ports = one_star ports_text IsPorts one_ports ports_lack r.ports q.ports tr.fits.ports tq.fits.ports (same_head _ _ _ _ e4) in
    let action = one_action r.action q.action tr.fits.action tq.fits.action e5 in
    ap (λ x. rule_of x r.from r.to r.protocol r.ports r.action) vlan
    ∙ ap (λ x. rule_of q.vlan x r.to r.protocol r.ports r.action) from
    ∙ ap (λ x. rule_of q.vlan q.from x r.protocol r.ports r.action) to
    ∙ ap (λ x. rule_of q.vlan q.from q.to x r.ports r.action) protocol
    ∙ ap (λ x. rule_of q.vlan q.from q.to q.protocol x r.action) ports
    ∙ ap (λ x. rule_of q.vlan q.from q.to q.protocol q.ports x) action

one_local : (l m : LocalSide) → IsLocal l → IsLocal m → local_words l ≡ local_words m → l ≡ m
one_local l m hl hm e =
    let e1 = same_tail _ _ _ _ e in
    let e2 = same_tail _ _ _ _ e1 in
    local_is l m.asn m.id m.hold
    (sym (number_is l.asn m.asn hl.asn_most hm.asn_most (same_head _ _ _ _ e)))
    (sym (one_octets l.id m.id (one_dotted _ _ (octets_fit l.id hl.id_most) (octets_fit m.id hm.id_most) (same_head _ _ _ _ e1))))
    (sym (number_is l.hold m.hold (omega (arith, hl.hold_most)) (omega (arith, hm.hold_most)) (same_head _ _ _ _ e2)))

abbrev entry_of : List ℕ → List ℕ → ℕ → InstanceEntry
entry_of n r k = record { name = n; rd = r; kind = k }

abbrev bound_of : Bool → Function → Bound
bound_of p f = record { proxy = p; function = f }

instance_same : (i j : InstanceEntry) (b c : Bound) → i.name ≡ j.name → i.rd ≡ j.rd → i.kind ≡ j.kind → b.proxy ≡ c.proxy → b.function ≡ c.function
    → Instance i b ≡ Instance j c
instance_same i j b c n r k p f =
    ap (λ x. Instance (entry_of x i.rd i.kind) b) n
    ∙ ap (λ x. Instance (entry_of j.name x i.kind) b) r
    ∙ ap (λ x. Instance (entry_of j.name j.rd x) b) k
    ∙ ap (λ x. Instance j (bound_of x b.function)) p
    ∙ ap (λ x. Instance j (bound_of c.proxy x)) f

abbrev forwarder_of : List ℕ → NextHop → ForwarderEntry
forwarder_of n a = record { name = n; address = a }

pub forwarder_same : (f g : ForwarderEntry) → f.name ≡ g.name → f.address ≡ g.address → f ≡ g
forwarder_same f g n a = ap (λ x. forwarder_of x f.address) n ∙ ap (λ x. forwarder_of g.name x) a

one_instance : (i j : InstanceEntry) (b c : Bound) → IsInstance (i, b) → IsInstance (j, c) → instance_words (i, b) ≡ instance_words (j, c) → Instance i b ≡ Instance j c
one_instance i j b c hi hj e =
    let e1 = same_tail _ _ _ _ e in
    let e2 = same_tail _ _ _ _ e1 in
    let e3 = same_tail _ _ _ _ e2 in
    let e4 = same_tail _ _ _ _ e3 in
    let name = same_head _ _ _ _ e in
    let rd = one_hexadecimal 8 i.rd j.rd hi.1 hj.1 (same_head _ _ _ _ e1) in
    let kind = number_is i.kind j.kind (omega (arith, hi.2)) (omega (arith, hj.2)) (same_head _ _ _ _ e2) in
    let proxy = one_mode b.proxy c.proxy (same_head _ _ _ _ e3) in
    let function = one_function b.function c.function hi.3 hj.3 e4 in
    instance_same i j b c name rd kind proxy function

tells_one : (words : List (List ℕ)) (s t : Statement) → keyword_of s ≡ keyword_of t → Tells words s → Tells words t → s ≡ t
tells_one words (Local l) (Local m) k ts tt' = ap Local (one_local l m ts.0 tt'.0 (sym ts.1 ∙ tt'.1))
tells_one words (Target a) (Target b) k ts tt' = ap Target (one_hexadecimal 8 a b ts.0 tt'.0 (same_head _ _ _ _ (sym ts.1 ∙ tt'.1)))
tells_one words (Peer p) (Peer q) k ts tt' =
    let e = sym ts.1 ∙ tt'.1 in
    ap Peer (pair_same p q (number_is p.0 q.0 (omega (arith, ts.0)) (omega (arith, tt'.0)) (same_head _ _ _ _ e))
    (number_is p.1 q.1 (omega (arith, ts.0)) (omega (arith, tt'.0)) (same_head _ _ _ _ (same_tail _ _ _ _ e))))
tells_one words (Forwarder f) (Forwarder g) k ts tt' =
    let e = sym ts.1 ∙ tt'.1 in
    ap Forwarder (forwarder_same f g (same_head _ _ _ _ e) (one_address f.address g.address ts.0.1 tt'.0.1 (same_head _ _ _ _ (same_tail _ _ _ _ e))))
tells_one words (Ingress a) (Ingress b) k ts tt' = ap Ingress (same_head _ _ _ _ (sym ts.1 ∙ tt'.1))
tells_one words (Instance i b) (Instance j c) k ts tt' = one_instance i j b c ts.0 tt'.0 (sym ts.1 ∙ tt'.1)
tells_one words (Rule r) (Rule q) k ts tt' = ap Rule (one_rule words r q ts tt')
tells_one words s t k ts tt' = absurd cc

-- the words of a line spell at most one statement
pub one_statement : (words : List (List ℕ)) (s t : Statement) → Spells words s → Spells words t → s ≡ t
one_statement words s t ps pt =
    let keyword = one_keyword _ _ (head_is words _ _ _ _ ps.first pt.first) in
    let behind = tail_is words _ _ _ _ ps.first pt.first in
    tells_one pt.behind s t keyword (subst (λ ws. Tells ws s) behind ps.told) pt.told
