-- What an answer says that was taken apart.
use Rattle.std.proofs.Common.{◌≡◌, ℕ, List, Option, None, Some, MatchOption, Result, Err, sym, ap, subst}
use Rattle.pcap_io.specs.declared.forms.Form.{Form}
use Rattle.pcap_io.specs.Kept.{Kept as CaptureKept}
use Rattle.pcap_io.specs.Calls.{HeldIn}
use Rattle.control_files.specs.declared.segments.Mark.{Mark}
use Rattle.control_files.specs.Kept.{Kept as ControlKept}
use Rattle.control_files.specs.Calls.{IsHeld}
use Rattle.control_files.specs.Refusals.{Held}
use Rattle.round_inputs.specs.declared.halts.Halt.{Halt}

pub match_some : {T : Type 0} (o : Option T) (x : T) (P : Type 0) (Q : T → Type 0) → o ≡ Some x → MatchOption o P Q → Q x
match_some {T} o x P Q is m = subst (λ (y : Option T). MatchOption y P Q) is m

pub match_none : {T : Type 0} (o : Option T) (P : Type 0) (Q : T → Type 0) → o ≡ None → MatchOption o P Q → P
match_none {T} o P Q is m = subst (λ (y : Option T). MatchOption y P Q) is m

-- a halt is the same whatever was asked for
pub halt_as : (A B : Type 0) (e d : Halt) → ◌≡◌ {A = Result A Halt} (Err e) (Err d) → ◌≡◌ {A = Result B Halt} (Err e) (Err d)
halt_as A B e d is = let same : e ≡ d = cc in ap (λ (x : Halt). Err x) same

pub halt_is : (A : Type 0) (e d : Halt) → ◌≡◌ {A = Result A Halt} (Err e) (Err d) → e ≡ d
halt_is A e d is = cc

-- what is held stays so where no byte came
pub frame_still : (old new : CaptureKept) → new.form ≡ old.form → new.rest ≡ old.rest → HeldIn old.form old.rest → HeldIn new.form new.rest
frame_still old new form rest held = subst (λ (f : Option Form). HeldIn f new.rest) (sym form) (subst (λ (l : List ℕ). HeldIn old.form l) (sym rest) held)

pub segment_still : (old new : ControlKept) → new.peers ≡ old.peers → new.mark ≡ old.mark → new.place ≡ old.place → new.rest ≡ old.rest → IsHeld old → IsHeld new
segment_still old new peers mark place rest held =
    subst (λ (p : List ℕ). Held p new.mark new.place new.rest) (sym peers)
    (subst (λ (m : Mark). Held old.peers m new.place new.rest) (sym mark)
    (subst (λ (n : ℕ). Held old.peers old.mark n new.rest) (sym place)
    (subst (λ (l : List ℕ). Held old.peers old.mark old.place l) (sym rest) held)))
