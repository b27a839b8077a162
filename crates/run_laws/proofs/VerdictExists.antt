-- Rules have a verdict on every frame.
use Rattle.std.proofs.Common.{◌≡◌, ℕ, ◌≤◌, List, [], ◌∷◌, Option, Some, None, ap, arith, inl, inr, refl, ◌⊎◌}
use Rattle.std.proofs.lemmas.Bool.{cases_eq, cases_lt}
use Rattle.std.proofs.lemmas.List.Elements.{All-cons, All-nil}
use Rattle.wire_base.specs.declared.next_hops.NextHop.{NextHop}
use Rattle.wire_base.specs.declared.next_hops.NextHop.TheVariants.{Four, Sixteen}
use Rattle.net_frames.specs.Contents.{fields_of}
use Rattle.net_frames.specs.declared.contents.Fields.{Fields}
use Rattle.classifier.specs.Matching.{HoldsIfAsked, IsAmong, IsIn, Matches, ShareBits, first_bits}
use Rattle.classifier.specs.Verdicts.{Ruled, Start, verdict_of}
use Rattle.classifier.specs.declared.rules.Prefix.{Prefix}
use Rattle.classifier.specs.declared.rules.Rule.{Rule}
use Rattle.classifier.specs.declared.verdicts.Verdict.{Verdict}
use Rattle.classifier.specs.declared.verdicts.Verdict.TheVariants.{Bypass, NshIngress}

-- it holds, or it does not
abbrev pub Decided : Type 0 → Type 0
Decided P = P ⊎ (P → ⊥)

pub both : (P Q : Type 0) → Decided P → Decided Q → Decided (P × Q)
both P Q (inl p) (inl q) = inl (p, q)
both P Q (inl p) (inr not) = inr (λ h. not h.1)
both P Q (inr not) q = inr (λ h. not h.0)

pub at_most : (a b : ℕ) → Decided (a ≤ b)
at_most a b = elim (cases_lt b a) [
  | inl above ↦ inr (λ le. omega (arith, le, above))
  | inr le ↦ inl le
]

-- ---- one rule

asked_or_not : {X Y : Type 0} (P : X → Y → Type 0) → ((x : X) (y : Y) → Decided (P x y)) → (asked : Option X) (field : Option Y) → Decided (HoldsIfAsked P asked field)
asked_or_not P decide None field = inl tt
asked_or_not P decide (Some x) None = inr (λ none. none)
asked_or_not P decide (Some x) (Some y) = decide x y

number_is : (asked field : ℕ) → Decided (field ≡ asked)
number_is asked field = cases_eq field asked

shared : (n : ℕ) (a b : NextHop) → Decided (ShareBits n a b)
shared n (Four xs) (Four ys) = cases_eq (first_bits n xs) (first_bits n ys)
shared n (Four xs) (Sixteen ys) = inr (λ none. none)
shared n (Sixteen xs) (Four ys) = inr (λ none. none)
shared n (Sixteen xs) (Sixteen ys) = cases_eq (first_bits n xs) (first_bits n ys)

is_in : (network : Prefix) (address : NextHop) → Decided (IsIn network address)
is_in network address = shared network.bits network.address address

pub is_among : (range : ℕ × ℕ) (port : ℕ) → Decided (IsAmong range port)
is_among range port = both (range.0 ≤ port) (port ≤ range.1) (at_most range.0 port) (at_most port range.1)

matches : (r : Rule) (f : Fields) → Decided (Matches r f)
matches r f = elim (asked_or_not (λ (a v : ℕ). v ≡ a) number_is r.vlan f.vlan) [
  | inr not ↦ inr (λ m. not m.vlan)
  | inl vlan ↦ elim (asked_or_not IsIn is_in r.from f.source) [
    | inr not ↦ inr (λ m. not m.source)
    | inl source ↦ elim (asked_or_not IsIn is_in r.to f.destination) [
      | inr not ↦ inr (λ m. not m.destination)
      | inl destination ↦ elim (asked_or_not (λ (a p : ℕ). p ≡ a) number_is r.protocol f.protocol) [
        | inr not ↦ inr (λ m. not m.protocol)
        | inl protocol ↦ elim (asked_or_not IsAmong is_among r.ports f.to_port) [
          | inr not ↦ inr (λ m. not m.port)
          | inl port ↦ inl (record { vlan = vlan; source = source; destination = destination; protocol = protocol; port = port })
        ]
      ]
    ]
  ]
]

-- ---- all rules

behind : (r : Rule) (rules : List Rule) (f : Fields) (v : Verdict) → (Matches r f → ⊥) → Ruled rules f v → Ruled (r ∷ rules) f v
behind r rules f v not (inl d) = inl (record {
  rule = d.rule;
  decides = record {
    earlier = r ∷ d.decides.earlier;
    later = d.decides.later;
    listed = ap (λ (l : List Rule). r ∷ l) d.decides.listed;
    matching = d.decides.matching;
    unmatched = All-cons (λ (q : Rule). Matches q f → ⊥) r d.decides.earlier not d.decides.unmatched;
  };
  value = d.value;
})
behind r rules f v not (inr u) = inr (record { unmatched = All-cons (λ (q : Rule). Matches q f → ⊥) r rules not u.unmatched; value = u.value })

ruled : (rules : List Rule) (f : Fields) → (v : Verdict) × Ruled rules f v
ruled [] f = (Bypass, inr (record { unmatched = All-nil (λ (q : Rule). Matches q f → ⊥); value = refl }))
ruled (r ∷ rules) f = elim (matches r f) [
  | inl matching ↦ (
    verdict_of r.action,
    inl (record {
      rule = r;
      decides = record { earlier = []; later = rules; listed = refl; matching = matching; unmatched = All-nil (λ (q : Rule). Matches q f → ⊥) };
      value = refl;
    }),
  )
  | inr not ↦ let rest = ruled rules f in (rest.0, behind r rules f rest.0 not rest.1)
]

pub some_number : (field : Option ℕ) (n : ℕ) → Decided (field ≡ Some n)
some_number None n = inr (λ e. absurd (cc))
some_number (Some m) n = elim (cases_eq m n) [
  | inl same ↦ inl (ap Some same)
  | inr other ↦ inr (λ e. other (cc))
]

pub some_verdict : (rules : List Rule) (bytes : List ℕ) → (v : Verdict) × Start rules bytes v
some_verdict rules bytes = elim (some_number (fields_of bytes).ether 0x894F) [
  | inl nsh ↦ (NshIngress, inl (nsh, refl))
  | inr not ↦ let rest = ruled rules (fields_of bytes) in (rest.0, inr (not, rest.1))
]
