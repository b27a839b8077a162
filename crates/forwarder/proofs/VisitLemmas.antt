-- Visits: what one more makes of a frame, and which of them passed it.
use Rattle.std.proofs.Common.{◌≡◌, ℕ, ◌-◌, Bool, true, false, List, [], ◌∷◌, ◌++◌, length, take, refl, sym, ap, ◌∙◌, arith, length-append, cond}
use Rattle.std.proofs.lemmas.List.{map-append}
use Rattle.std.proofs.Math.Seq.{take-append_seam}
use Rattle.wire_base.specs.declared.ids.InstanceId.{InstanceId}
use Rattle.net_frames.specs.Captured.{Captured}
use Rattle.net_frames.specs.Edits.{readdressed, with_bytes}
use Rattle.net_frames.specs.Contents.{fields_of}
use Rattle.service_functions.specs.Serving.{FrameBy, Through, function_at, has_address}
use Rattle.service_functions.specs.declared.functions.Function.{Function}
use Rattle.service_functions.specs.declared.functions.Function.TheVariants.{Pass, Firewall, Remark, Nat, HopLimit, PushVlan, PopVlan, Stamp, RequireMeta, ClearMeta}
use Rattle.service_functions.specs.declared.answers.Why.{Why}
use Rattle.service_functions.specs.declared.answers.Why.TheVariants as why
use Rattle.record_text.specs.declared.records.End.{End}
use Rattle.record_text.specs.declared.records.End.TheVariants.{Drop}
use Rattle.forwarder.specs.Walks.{function_by, reason_of}
use Rattle.forwarder.specs.Records.{by_instance, numbers, passed}

through-append : (functions : List Function) (visits : List ℕ) (i : ℕ) (frame : Captured) → Through functions (visits ++ i ∷ []) frame ≡ FrameBy (function_at functions i) (Through functions visits frame)
through-append functions [] i frame = refl
through-append functions (v ∷ vs) i frame = through-append functions vs i (FrameBy (function_at functions v) frame)

-- the frame behind one visit more
pub through_more : (functions : List Function) (visits : List InstanceId) (i : InstanceId) (first frame : Captured) → frame ≡ Through functions (numbers visits) first
    → FrameBy (function_by functions i) frame ≡ Through functions (numbers (visits ++ i ∷ [])) first
through_more functions visits i first frame is =
    ap (FrameBy (function_by functions i)) is ∙ sym (through-append functions (numbers visits) i.0 first)
    ∙ ap (λ (l : List ℕ). Through functions l first) (sym (map-append (λ (j : InstanceId). j.0) visits (i ∷ [])))

-- no function changes the room of a frame
either_room : (b : Bool) (x y : Captured) (n : ℕ) → x.room ≡ n → y.room ≡ n → (let z : Captured = (cond b x y) in z.room) ≡ n
either_room true x y n p q = p
either_room false x y n p q = q

pub room-FrameBy : (f : Function) (frame : Captured) → (FrameBy f frame).room ≡ frame.room
room-FrameBy Pass frame = refl
room-FrameBy (Firewall p l h) frame = refl
room-FrameBy (Remark d) frame = refl
room-FrameBy (Nat side from to) frame = either_room (has_address (fields_of frame.bytes) side from) (with_bytes frame (readdressed frame.bytes side to)) frame frame.room refl refl
room-FrameBy HopLimit frame = refl
room-FrameBy (PushVlan vid) frame = either_room _ _ _ frame.room refl refl
room-FrameBy PopVlan frame = either_room _ _ _ frame.room refl refl
room-FrameBy (Stamp c k b) frame = refl
room-FrameBy (RequireMeta c k) frame = refl
room-FrameBy ClearMeta frame = refl

pub room-Through : (functions : List Function) (visits : List ℕ) (frame : Captured) → (Through functions visits frame).room ≡ frame.room
room-Through functions [] frame = refl
room-Through functions (v ∷ vs) frame = room-Through functions vs (FrameBy (function_at functions v) frame) ∙ room-FrameBy (function_at functions v) frame

-- ---- which visits passed the frame

pub all_passed : (end : End) (visits : List InstanceId) → by_instance end ≡ false → passed end visits ≡ visits
all_passed end visits is = rw is refl

drops : (w : Why) (i : InstanceId) → by_instance (Drop (reason_of w i)) ≡ true
drops why.Denied i = refl
drops why.HopLimit i = refl
drops why.Meta i = refl
drops why.MetaFull i = refl
drops why.TooLong i = refl

pub last_dropped : (w : Why) (i : InstanceId) (visits : List InstanceId) → passed (Drop (reason_of w i)) (visits ++ i ∷ []) ≡ visits
last_dropped w i visits =
    let len : length (visits ++ i ∷ []) - 1 ≡ length visits = omega (arith, length-append visits (i ∷ [])) in
    rw (drops w i) (ap (λ (n : ℕ). take n (visits ++ i ∷ [])) len ∙ take-append_seam visits (i ∷ []))
