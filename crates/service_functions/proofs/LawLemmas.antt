-- A service of a frame and its header, whatever gave it.
use Rattle.std.proofs.Common.{◌≡◌, ℕ, List, [], ◌∷◌, ◌++◌, false, ap, sym, ◌∙◌, refl, inl, inr}
use Rattle.net_frames.specs.Captured.{Captured}
use Rattle.nsh_metadata.specs.Header.{Header}
use Rattle.nsh_metadata.specs.declared.contexts.Context.{Context}
use Rattle.nsh_metadata.specs.declared.contexts.Context.TheVariants.{Fixed16, Items}
use Rattle.service_functions.specs.Functions.{on_metadata}
use Rattle.service_functions.specs.Serving.{DropByFrame, DropByContext, DropBy, FrameBy, HeaderBy, Serve, Through, function_at}
use Rattle.service_functions.specs.declared.functions.Function.{Function}
use Rattle.service_functions.specs.declared.functions.Function.TheVariants.{Pass, Firewall, Remark, Nat, HopLimit, PushVlan, PopVlan, Stamp, RequireMeta, ClearMeta}
use Rattle.service_functions.specs.declared.answers.Served.{Served}
use Rattle.service_functions.specs.declared.answers.Served.TheVariants.{Passed, Dropped}
use Rattle.service_functions.specs.declared.answers.Why.{Why}
use Rattle.service_functions.proofs.ServingLemmas.{context_unseen}

one_frame_reason : (f : Function) (frame : Captured) (a b : Why) → DropByFrame f frame a → DropByFrame f frame b → a ≡ b
one_frame_reason (Firewall p l h) frame a b x y = x.0 ∙ sym y.0
one_frame_reason HopLimit frame a b x y = x.0 ∙ sym y.0
one_frame_reason (PushVlan v) frame a b x y = x.0 ∙ sym y.0
one_frame_reason Pass frame a b x y = absurd x
one_frame_reason (Remark d) frame a b x y = absurd x
one_frame_reason (Nat s i o) frame a b x y = absurd x
one_frame_reason PopVlan frame a b x y = absurd x
one_frame_reason (Stamp c k body) frame a b x y = absurd x
one_frame_reason (RequireMeta c k) frame a b x y = absurd x
one_frame_reason ClearMeta frame a b x y = absurd x

one_context_reason : (f : Function) (context : Context) (a b : Why) → DropByContext f context a → DropByContext f context b → a ≡ b
one_context_reason (Stamp c k body) (Fixed16 bytes) a b x y = x ∙ sym y
one_context_reason (Stamp c k body) (Items items) a b x y = x.0 ∙ sym y.0
one_context_reason (RequireMeta c k) context a b x y = x.0 ∙ sym y.0
one_context_reason ClearMeta context a b x y = absurd x
one_context_reason Pass context a b x y = absurd x
one_context_reason (Firewall p l h) context a b x y = absurd x
one_context_reason (Remark d) context a b x y = absurd x
one_context_reason (Nat s i o) context a b x y = absurd x
one_context_reason HopLimit context a b x y = absurd x
one_context_reason (PushVlan v) context a b x y = absurd x
one_context_reason PopVlan context a b x y = absurd x

-- a function has its reasons in the frame or in the context
one_place : (f : Function) (frame : Captured) (context : Context) (a b : Why) → DropByFrame f frame a → DropByContext f context b → ⊥
one_place (Firewall p l h) frame context a b x y = y
one_place HopLimit frame context a b x y = y
one_place (PushVlan v) frame context a b x y = y
one_place Pass frame context a b x y = x
one_place (Remark d) frame context a b x y = x
one_place (Nat s i o) frame context a b x y = x
one_place PopVlan frame context a b x y = x
one_place (Stamp c k body) frame context a b x y = x
one_place (RequireMeta c k) frame context a b x y = x
one_place ClearMeta frame context a b x y = x

one_reason : (f : Function) (frame : Captured) (context : Context) (a b : Why) → DropBy f frame context a → DropBy f frame context b → a ≡ b
one_reason f frame context a b (inl x) (inl y) = one_frame_reason f frame a b x y
one_reason f frame context a b (inr x) (inr y) = one_context_reason f context a b x y
one_reason f frame context a b (inl x) (inr y) = absurd (one_place f frame context a b x y)
one_reason f frame context a b (inr x) (inl y) = absurd (one_place f frame context b a y x)

pub one_service : (f : Function) (frame x y : Captured) (header i j : Header) (a b : Served) → Serve f frame header a x i → Serve f frame header b y j → (a ≡ b) × (x ≡ y) × (i ≡ j)
one_service f frame x y header i j Passed Passed p q = (refl, p.1 ∙ sym q.1, p.2 ∙ sym q.2)
one_service f frame x y header i j (Dropped v) (Dropped w) p q = (ap Dropped (one_reason f frame header.context v w p.0 q.0), p.1 ∙ sym q.1, p.2 ∙ sym q.2)
one_service f frame x y header i j Passed (Dropped w) p q = absurd (p.0 w q.0)
one_service f frame x y header i j (Dropped v) Passed p q = absurd (q.0 v p.0)

unseen_header : (f : Function) (h : Header) → on_metadata f ≡ false → HeaderBy f h ≡ h
unseen_header f h is = rw is refl

same_reasons : (f : Function) (frame : Captured) (context other : Context) (w : Why) → on_metadata f ≡ false → DropBy f frame context w → DropBy f frame other w
same_reasons f frame context other w is (inl x) = inl x
same_reasons f frame context other w is (inr y) = absurd (context_unseen f context w is y)

pub unseen : (f : Function) (frame frame' : Captured) (header header' other : Header) (served : Served) → on_metadata f ≡ false → Serve f frame header served frame' header'
    → Serve f frame other served frame' other × (header' ≡ header)
unseen f frame frame' header header' other Passed is p =
    ((λ w d. p.0 w (same_reasons f frame other.context header.context w is d), p.1, sym (unseen_header f other is)), p.2 ∙ unseen_header f header is)
unseen f frame frame' header header' other (Dropped v) is p = ((same_reasons f frame header.context other.context v is p.0, p.1, refl), p.2)

through-append : (functions : List Function) (visits : List ℕ) (i : ℕ) (frame : Captured) → Through functions (visits ++ i ∷ []) frame ≡ FrameBy (function_at functions i) (Through functions visits frame)
through-append functions [] i frame = refl
through-append functions (v ∷ vs) i frame = through-append functions vs i (FrameBy (function_at functions v) frame)

pub one_visit_more : (functions : List Function) (visits : List ℕ) (i : ℕ) (frame frame' : Captured) (header header' : Header)
    → Serve (function_at functions i) (Through functions visits frame) header Passed frame' header' → frame' ≡ Through functions (visits ++ i ∷ []) frame
one_visit_more functions visits i frame frame' header header' p = p.1 ∙ sym (through-append functions visits i frame)
