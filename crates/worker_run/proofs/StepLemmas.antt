-- The segment that a step takes, the peer of it, and what an answer carries over.
use Rattle.std.proofs.Common.{◌≡◌, ℕ, List, [], ◌∷◌, Contains, sym, subst, arith}
use Rattle.std.specs.Prelude.{OnOk, Result, Ok, Err}
use Rattle.control_files.specs.declared.segments.Segment.{Segment}
use Rattle.control_files.specs.declared.segments.SegmentHead.{SegmentHead}
use Rattle.control_files.specs.Segments.{numbers}
use Rattle.control_files.specs.Steps.{segment_of}
use Rattle.session_machine.specs.Peers.{HasPeer}
use Rattle.session_machine.proofs.GroupLemmas.{each_has}
use Rattle.worker_run.specs.declared.controls.Control.{Control}
use Rattle.worker_run.specs.Controls.{Ready}

abbrev pub HasHead : SegmentHead → Segment → Type 0
HasHead head s = (head.kind ≡ s.kind) × (head.peer ≡ s.peer) × (head.moment ≡ s.moment) × (head.position ≡ s.position)

pub same_segment : (head : SegmentHead) (s : Segment) (bytes : List ℕ) → HasHead head s → bytes ≡ s.bytes → segment_of head bytes ≡ s
same_segment head s bytes e b = λ k. record { kind = e.0 k; peer = e.1 k; moment = e.2 k; position = e.3 k; bytes = b k }

pub peer_there : (control : Control) (s : Segment) (head : SegmentHead) → Ready control (s ∷ []) → HasHead head s → HasPeer head.peer control.sessions.sessions.items
peer_there control s head x e =
    let here : Contains (numbers x.peers) s.peer = x.of_peers 0 s (omega arith) in
    each_has x.local control.sessions.sessions.items x.peers x.with_peers head.peer (subst (Contains (numbers x.peers)) (sym e.1) here)

-- what an Ok says may be put in other words
pub on_ok : {A E : Type 0} (r : Result A E) (P Q : Type 0) → OnOk r P → (P → Q) → OnOk r Q
on_ok (Ok a) P Q p f = f p
on_ok (Err e) P Q p f = p

-- what holds anyway, and what two say
pub ok_any : {A E : Type 0} (r : Result A E) (P : Type 0) → P → OnOk r P
ok_any (Ok a) P p = p
ok_any (Err e) P p = tt

pub on_both : {A E : Type 0} (r : Result A E) (P Q S : Type 0) → OnOk r P → OnOk r Q → (P → Q → S) → OnOk r S
on_both (Ok a) P Q S p q f = f p q
on_both (Err e) P Q S p q f = tt
