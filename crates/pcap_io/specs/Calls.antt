-- What one call of a feed does.
use Rattle.std.specs.Prelude.{◌≡◌, ◌⊎◌, ℕ, true, ◌+◌, List, ◌++◌, length, drop, Option, None, Some, Result, Ok, Err}
use Rattle.pcap_io.specs.declared.forms.Form.{Form}
use Rattle.pcap_io.specs.declared.frames.Captured.{Captured}
use Rattle.pcap_io.specs.declared.frames.PacketHead.{PacketHead}
use Rattle.pcap_io.specs.declared.reasons.Refusal.{Refusal}
use Rattle.pcap_io.specs.declared.reasons.CaptureFault.{CaptureFault}
use Rattle.pcap_io.specs.declared.reasons.CaptureFault.TheVariants as faults
use Rattle.pcap_io.specs.Captures.{IsFileHead, IsWithinLimits, packet}
use Rattle.pcap_io.specs.Fronts.{frame_of}
use Rattle.pcap_io.specs.Refusals.{told, moved, RefusedHead, RefusedPacket, HeldHead, HeldPacket}
use Rattle.pcap_io.specs.Kept.{Kept}

-- the frame that was given with this head, out of the bytes that are lent
abbrev pub lent_frame : PacketHead → Kept → Captured
lent_frame head feed = frame_of head (drop 16 feed.lent)

-- what stands at the front of the rest is refused as the row says, counted from the front
abbrev pub RefusedIn : Option Form → List ℕ → Refusal → Type 0
RefusedIn None rest row = RefusedHead rest row
RefusedIn (Some form) rest row = RefusedPacket form rest row

-- it is refused as is told, counted from the file's first byte
pub record RefusedFrom (form : Option Form) (rest : List ℕ) (place : ℕ) (t : Refusal) : Type 0 where
  pub row : Refusal
  pub here : RefusedIn form rest row
  pub told : t ≡ moved place row

abbrev pub RefusedAt : Kept → Refusal → Type 0
RefusedAt feed t = RefusedFrom feed.form feed.rest feed.place t

-- nothing is refused and nothing is whole
abbrev pub HeldIn : Option Form → List ℕ → Type 0
HeldIn None rest = HeldHead rest
HeldIn (Some form) rest = HeldPacket form rest

-- nothing whole stands at the front: what is there is refused or held
abbrev pub IsQuiet : Kept → Type 0
IsQuiet feed = HeldIn feed.form feed.rest ⊎ ((t : Refusal) × RefusedAt feed t)

-- why no frame is given: what stands at the front is refused, or there was no memory
abbrev pub IsStop : Kept → CaptureFault → Type 0
IsStop feed (faults.Bad place reason) = RefusedAt feed (told place reason)
IsStop feed faults.OutOfMemory = feed.failed ≡ true

-- ---- begin

-- the header is used up
pub record Begins (old new : Kept) (form : Form) : Type 0 where
  pub head : List ℕ
  pub is_head : IsFileHead form head
  pub rest : old.rest ≡ head ++ new.rest
  pub place : new.place ≡ old.place + length head
  pub form_is : new.form ≡ Some form
  pub same_room : new.room ≡ old.room
  pub same_failed : new.failed ≡ old.failed

-- a header that was used up already changes nothing
abbrev pub BeginsAt : Option Form → Kept → Kept → Result (Option Form) Refusal → Type 0
BeginsAt (Some form) old new result = (result ≡ Ok (Some form)) × (new ≡ old)
BeginsAt None old new (Ok (Some form)) = Begins old new form
BeginsAt None old new (Ok None) = HeldHead old.rest × (new ≡ old)
BeginsAt None old new (Err r) = RefusedAt old r × (new ≡ old)

-- ---- the next packet, behind the header

-- the rest began with the frame's packet, which is used up and lent
pub record Gives (form : Form) (old new : Kept) (head : PacketHead) : Type 0 where
  pub within : IsWithinLimits (lent_frame head new)
  pub lent : new.lent ≡ packet form (lent_frame head new)
  pub rest : old.rest ≡ packet form (lent_frame head new) ++ new.rest
  pub place : new.place ≡ old.place + length (packet form (lent_frame head new))
  pub same_form : new.form ≡ old.form
  pub same_room : new.room ≡ old.room
  pub same_failed : new.failed ≡ old.failed

abbrev pub NextIn : Form → Kept → Kept → Result (Option PacketHead) Refusal → Type 0
NextIn form old new (Ok (Some head)) = Gives form old new head
NextIn form old new (Ok None) = HeldPacket form old.rest × (new ≡ old)
NextIn form old new (Err r) = RefusedAt old r × (new ≡ old)

-- ---- what the rest asks for

-- behind the header: a packet is given, what is held is answered "not yet", what is refused is told
pub record ExactIn (GivesThe : Captured → Type 0) (SaysNotYet : Type 0) (Tells : Refusal → Type 0) (form : Form) (rest : List ℕ) (place : ℕ) : Type 0 where
  pub whole : (frame : Captured) (more : List ℕ) → IsWithinLimits frame → rest ≡ packet form frame ++ more → GivesThe frame
  pub not_yet : HeldPacket form rest → SaysNotYet
  pub bad : (t : Refusal) → RefusedPacket form rest t → Tells (moved place t)

-- at the start: what is behind a header decides, where there is one
pub record ExactHead (GivesThe : Captured → Type 0) (SaysNotYet : Type 0) (Tells : Refusal → Type 0) (rest : List ℕ) (place : ℕ) : Type 0 where
  pub whole : (form : Form) (head more : List ℕ) → IsFileHead form head → rest ≡ head ++ more → ExactIn GivesThe SaysNotYet Tells form more (place + 24)
  pub not_yet : HeldHead rest → SaysNotYet
  pub bad : (t : Refusal) → RefusedHead rest t → Tells (moved place t)

abbrev pub ExactFor : (Captured → Type 0) → Type 0 → (Refusal → Type 0) → Option Form → List ℕ → ℕ → Type 0
ExactFor GivesThe SaysNotYet Tells None rest place = ExactHead GivesThe SaysNotYet Tells rest place
ExactFor GivesThe SaysNotYet Tells (Some form) rest place = ExactIn GivesThe SaysNotYet Tells form rest place

-- ---- what is answered for a frame that is lent

abbrev pub Lends : Kept → Result (Option PacketHead) Refusal → Captured → Type 0
Lends new (Ok (Some head)) frame = lent_frame head new ≡ frame
Lends new (Ok None) frame = ⊥
Lends new (Err r) frame = ⊥

abbrev pub IsNotYet : Result (Option PacketHead) Refusal → Type 0
IsNotYet (Ok (Some head)) = ⊥
IsNotYet (Ok None) = Unit {0}
IsNotYet (Err r) = ⊥

abbrev pub Refuses : Result (Option PacketHead) Refusal → Refusal → Type 0
Refuses (Ok head) t = ⊥
Refuses (Err r) t = r ≡ t

-- the answer that the old feed's rest asks for
abbrev pub Exact : Kept → Kept → Result (Option PacketHead) Refusal → Type 0
Exact old new result = ExactFor (Lends new result) (IsNotYet result) (Refuses result) old.form old.rest old.place

-- ---- and for a frame with bytes of its own, where want of memory is the free answer

abbrev pub GivesOwn : Result (Option Captured) CaptureFault → Captured → Type 0
GivesOwn (Ok (Some given)) frame = given ≡ frame
GivesOwn (Ok None) frame = ⊥
GivesOwn (Err (faults.Bad place reason)) frame = ⊥
GivesOwn (Err faults.OutOfMemory) frame = Unit {0}

abbrev pub IsOwnNotYet : Result (Option Captured) CaptureFault → Type 0
IsOwnNotYet (Ok (Some given)) = ⊥
IsOwnNotYet (Ok None) = Unit {0}
IsOwnNotYet (Err fault) = ⊥

abbrev pub RefusesOwn : Result (Option Captured) CaptureFault → Refusal → Type 0
RefusesOwn (Ok frame) t = ⊥
RefusesOwn (Err (faults.Bad place reason)) t = told place reason ≡ t
RefusesOwn (Err faults.OutOfMemory) t = ⊥

abbrev pub ExactOwn : Kept → Result (Option Captured) CaptureFault → Type 0
ExactOwn old result = ExactFor (GivesOwn result) (IsOwnNotYet result) (RefusesOwn result) old.form old.rest old.place
