-- What a function leaves alone.
use Rattle.std.proofs.Common.{◌≡◌, ℕ, ◌+◌, ◌/◌, length, true, false, arith, ap, refl, List, Ok, subst}
use Rattle.nsh_headers.specs.Edit.{with_words}
use Rattle.net_frames.specs.Captured.{Captured}
use Rattle.nsh_metadata.specs.Header.{Header, HasSpelling, context_bytes}
use Rattle.arrayvec.specs.ArrayVec.{ArrayVec}
use Rattle.nsh_metadata.specs.Changes.{with_context, Lacks, PushesIn}
use Rattle.nsh_metadata.specs.declared.contexts.Context.TheVariants.{Fixed16, Items}
use Rattle.nsh_metadata.specs.declared.contexts.ItemFault.{ItemFault}
use Rattle.nsh_metadata.specs.declared.contexts.ItemFault.TheVariants.{NoItems, Full}
use Rattle.service_functions.specs.declared.answers.Served.TheVariants.{Passed}
use Rattle.nsh_metadata.specs.declared.contexts.Context.{Context}
use Rattle.service_functions.specs.Functions.{on_metadata}
use Rattle.service_functions.specs.declared.functions.Function.{Function}
use Rattle.service_functions.specs.declared.functions.Function.TheVariants.{Pass, Firewall, Remark, Nat, HopLimit, PushVlan, PopVlan, Stamp, RequireMeta, ClearMeta}
use Rattle.service_functions.specs.declared.answers.Why.{Why}
use Rattle.service_functions.specs.Serving.{DropByFrame, DropByContext, FrameBy, ServeHeader}

-- a header with the context that it has
pub same_context : (h : Header) → HasSpelling h.head h.context → with_context h h.context ≡ h
same_context h s =
    let words : 2 + length (context_bytes h.context) / 4 ≡ h.head.base.words = omega (arith, s.words) in
    ap (λ (w : ℕ). let k : Header = record { head = with_words h.head w; context = h.context } in k) words

-- a function on metadata leaves the frame
pub frame_stays : (f : Function) (frame : Captured) → on_metadata f ≡ true → (FrameBy f frame ≡ frame) × ((w : Why) → DropByFrame f frame w → ⊥)
frame_stays (Stamp class kind body) frame is = (refl, λ w h. h)
frame_stays (RequireMeta class kind) frame is = (refl, λ w h. h)
frame_stays ClearMeta frame is = (refl, λ w h. h)
frame_stays Pass frame is = absurd (cc)
frame_stays (Firewall p l h) frame is = absurd (cc)
frame_stays (Remark d) frame is = absurd (cc)
frame_stays (Nat s a b) frame is = absurd (cc)
frame_stays HopLimit frame is = absurd (cc)
frame_stays (PushVlan v) frame is = absurd (cc)
frame_stays PopVlan frame is = absurd (cc)

-- any other function has no reason in the context
pub context_unseen : (f : Function) (c : Context) (w : Why) → on_metadata f ≡ false → DropByContext f c w → ⊥
context_unseen (Stamp class kind body) c w is h = absurd (cc)
context_unseen (RequireMeta class kind) c w is h = absurd (cc)
context_unseen ClearMeta c w is h = absurd (cc)
context_unseen Pass c w is h = h
context_unseen (Firewall p l u) c w is h = h
context_unseen (Remark d) c w is h = h
context_unseen (Nat s a b) c w is h = h
context_unseen HopLimit c w is h = h
context_unseen (PushVlan v) c w is h = h
context_unseen PopVlan c w is h = h

-- a context that lacks nothing for an item gives no reason to drop what is stamped
pub unlacked : (context : Context) (class kind : ℕ) (body : ArrayVec ℕ) (w : Why) → ((fault : ItemFault) → Lacks context (length body.items) fault → ⊥) → DropByContext (Stamp class kind body) context w → ⊥
unlacked (Fixed16 bytes) class kind body w unlike d = unlike NoItems refl
unlacked (Items items) class kind body w unlike d = unlike Full (refl, d.1)

-- a stamp adds the bytes of its body
pub stamped : (h h' : Header) (class kind : ℕ) (body : ArrayVec ℕ) (bytes : List ℕ) → bytes ≡ body.items → PushesIn h class kind bytes (Ok tt) h' → ServeHeader (Stamp class kind body) h Passed h'
stamped h h' class kind body bytes e p =
    let q = subst (λ (b : List ℕ). PushesIn h class kind b (Ok tt) h') e p in
    (λ w d. unlacked h.context class kind body w q.0 d, q.1)
