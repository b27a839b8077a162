-- A function has a reason to drop a frame, or it has none.
use Rattle.std.proofs.Common.{◌≡◌, ℕ, suc, ◌+◌, ◌<◌, ◌≤◌, Bool, true, false, Option, Some, None, length, IsSomeAnd, inl, inr, refl, sym, true≢false, ◌∙◌, ◌⊎◌}
use Rattle.std.proofs.lemmas.Bool.{cases_Bool}
use Rattle.net_frames.specs.Captured.{Captured}
use Rattle.net_frames.specs.Contents.{fields_of}
use Rattle.net_frames.specs.Edits.{IsFullFor, expires}
use Rattle.net_frames.specs.declared.contents.Fields.{Fields}
use Rattle.nsh_metadata.specs.Changes.{has_item}
use Rattle.nsh_metadata.specs.Item.{item_len, items_bytes}
use Rattle.nsh_metadata.specs.declared.contexts.Context.{Context}
use Rattle.nsh_metadata.specs.declared.contexts.Context.TheVariants.{Fixed16, Items}
use Rattle.service_functions.specs.Serving.{DropBy, DropByContext, DropByFrame, IsTo}
use Rattle.service_functions.specs.declared.functions.Function.{Function}
use Rattle.service_functions.specs.declared.functions.Function.TheVariants.{ClearMeta, Firewall, HopLimit, Nat, Pass, PopVlan, PushVlan, Remark, RequireMeta, Stamp}
use Rattle.service_functions.specs.declared.answers.Why.{Why}
use Rattle.service_functions.specs.declared.answers.Why.TheVariants as why
use Rattle.run_laws.proofs.VerdictExists.{Decided, at_most, both, is_among, some_number}

-- a reason, or none
abbrev Reasoned : (Why → Type 0) → Type 0
Reasoned P = ((w : Why) × P w) ⊎ ((w : Why) → P w → ⊥)

is_true : (b : Bool) → Decided (b ≡ true)
is_true b = elim (cases_Bool b) [
  | inl yes_it_is ↦ inl yes_it_is
  | inr it_is_not ↦ inr (λ e. true≢false (sym e ∙ it_is_not))
]

is_false : (b : Bool) → Decided (b ≡ false)
is_false b = elim (cases_Bool b) [
  | inl yes_it_is ↦ inr (λ e. true≢false (sym yes_it_is ∙ e))
  | inr it_is_not ↦ inl it_is_not
]

port_within : (low high : ℕ) (port : Option ℕ) → Decided (IsSomeAnd port (λ p. (low ≤ p) × (p ≤ high)))
port_within low high None = inr (λ none. none)
port_within low high (Some p) = is_among (low, high) p

is_to : (protocol low high : ℕ) (f : Fields) → Decided (IsTo protocol low high f)
is_to protocol low high f = elim (some_number f.protocol protocol) [
  | inr not ↦ inr (λ to. not to.of)
  | inl of ↦ elim (port_within low high f.to_port) [
    | inr not ↦ inr (λ to. not to.to)
    | inl to ↦ inl (record { of = of; to = to })
  ]
]

either : (P Q : Type 0) → Decided P → Decided Q → Decided (P ⊎ Q)
either P Q (inl p) q = inl (inl p)
either P Q (inr not) (inl q) = inl (inr q)
either P Q (inr not) (inr nor) = inr (λ h. elim h [ inl p ↦ not p | inr q ↦ nor q ])

is_below : (a b : ℕ) → Decided (a < b)
is_below a b = at_most (suc a) b

is_full : (frame : Captured) → Decided (IsFullFor frame)
is_full frame =
    both (12 ≤ length frame.bytes) ((frame.room < length frame.bytes + 4) ⊎ (262144 < length frame.bytes + 4)) (at_most 12 (length frame.bytes))
    (either (frame.room < length frame.bytes + 4) (262144 < length frame.bytes + 4) (is_below frame.room (length frame.bytes + 4)) (is_below 262144 (length frame.bytes + 4)))

-- one reason, where its condition holds
by_condition : (w : Why) (P : Type 0) → Decided P → Reasoned (λ v. (v ≡ w) × P)
by_condition w P (inl p) = inl (w, (refl, p))
by_condition w P (inr not) = inr (λ v h. not h.1)

no_reason : Reasoned (λ v. ⊥)
no_reason = inr (λ v none. none)

by_frame : (f : Function) (frame : Captured) → Reasoned (DropByFrame f frame)
by_frame (Firewall protocol low high) frame = by_condition why.Denied (IsTo protocol low high (fields_of frame.bytes)) (is_to protocol low high (fields_of frame.bytes))
by_frame HopLimit frame = by_condition why.HopLimit (expires frame.bytes ≡ true) (is_true (expires frame.bytes))
by_frame (PushVlan vid) frame = by_condition why.TooLong (IsFullFor frame) (is_full frame)
by_frame Pass frame = no_reason
by_frame (Remark dscp) frame = no_reason
by_frame (Nat side from to) frame = no_reason
by_frame PopVlan frame = no_reason
by_frame (Stamp class kind body) frame = no_reason
by_frame (RequireMeta class kind) frame = no_reason
by_frame ClearMeta frame = no_reason

by_context : (f : Function) (context : Context) → Reasoned (DropByContext f context)
by_context (Stamp class kind body) (Fixed16 bytes) = inl (why.Meta, refl)
by_context (Stamp class kind body) (Items items) =
    by_condition why.MetaFull (244 < length (items_bytes items) + item_len (length body.items)) (is_below 244 (length (items_bytes items) + item_len (length body.items)))
by_context (RequireMeta class kind) context = by_condition why.Meta (has_item context class kind ≡ false) (is_false (has_item context class kind))
by_context ClearMeta context = no_reason
by_context Pass context = no_reason
by_context (Firewall protocol low high) context = no_reason
by_context (Remark dscp) context = no_reason
by_context (Nat side from to) context = no_reason
by_context HopLimit context = no_reason
by_context (PushVlan vid) context = no_reason
by_context PopVlan context = no_reason

pub some_reason : (f : Function) (frame : Captured) (context : Context) → Reasoned (DropBy f frame context)
some_reason f frame context = elim (by_frame f frame) [
  | inl drop ↦ inl (drop.0, inl drop.1)
  | inr not ↦ elim (by_context f context) [
    | inl drop ↦ inl (drop.0, inr drop.1)
    | inr nor ↦ inr (λ w h. elim h [ inl p ↦ not w p | inr q ↦ nor w q ])
  ]
]
