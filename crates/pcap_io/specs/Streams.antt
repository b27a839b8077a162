-- What a feed stands for: the bytes that it took and the frames that it gave.
use Rattle.std.specs.Prelude.{◌≡◌, ℕ, false, List, [], ◌∷◌, ◌++◌, length, Option, None, Some, Result, Ok, Err}
use Rattle.pcap_io.specs.declared.forms.Form.{Form}
use Rattle.pcap_io.specs.declared.frames.Captured.{Captured}
use Rattle.pcap_io.specs.declared.frames.PacketHead.{PacketHead}
use Rattle.pcap_io.specs.declared.reasons.Refusal.{Refusal}
use Rattle.pcap_io.specs.declared.reasons.CaptureFault.{CaptureFault}
use Rattle.pcap_io.specs.declared.reasons.CaptureFault.TheVariants as faults
use Rattle.pcap_io.specs.Captures.{IsCapture}
use Rattle.pcap_io.specs.Refusals.{told}
use Rattle.pcap_io.specs.Kept.{Kept}
use Rattle.pcap_io.specs.Calls.{RefusedAt, HeldIn, lent_frame}

-- the header was not accepted yet: nothing was given or used
pub record NotBegun (feed : Kept) (taken : List ℕ) (given : List Captured) : Type 0 where
  pub sound : feed.failed ≡ false
  pub nothing : given ≡ []
  pub joined : taken ≡ feed.rest
  pub used : feed.place ≡ 0

-- what is used is a capture of the frames given
pub record Begun (form : Form) (feed : Kept) (taken : List ℕ) (given : List Captured) : Type 0 where
  pub sound : feed.failed ≡ false
  pub front : List ℕ
  pub is_capture : IsCapture front form given
  pub joined : taken ≡ front ++ feed.rest
  pub used : feed.place ≡ length front

abbrev pub StandsIn : Option Form → Kept → List ℕ → List Captured → Type 0
StandsIn None feed taken given = NotBegun feed taken given
StandsIn (Some form) feed taken given = Begun form feed taken given

-- the feed took these bytes and gave these frames
abbrev pub Stands : Kept → List ℕ → List Captured → Type 0
Stands feed taken given = StandsIn feed.form feed taken given

-- what the feed stands for after it has lent a frame, or none
abbrev pub NextLent : Result (Option PacketHead) Refusal → Kept → List ℕ → List Captured → Type 0
NextLent (Ok (Some head)) feed taken given = Stands feed taken (given ++ lent_frame head feed ∷ [])
NextLent (Ok None) feed taken given = Stands feed taken given × HeldIn feed.form feed.rest
NextLent (Err r) feed taken given = Stands feed taken given × RefusedAt feed r

-- what it stands for after it has given a frame, or none; after want of memory it stands for nothing
abbrev pub Next : Result (Option Captured) CaptureFault → Kept → List ℕ → List Captured → Type 0
Next (Ok (Some frame)) feed taken given = Stands feed taken (given ++ frame ∷ [])
Next (Ok None) feed taken given = Stands feed taken given × HeldIn feed.form feed.rest
Next (Err (faults.Bad place reason)) feed taken given = Stands feed taken given × RefusedAt feed (told place reason)
Next (Err faults.OutOfMemory) feed taken given = Unit {0}

-- what it stands for after the header was asked for
abbrev pub Begin : Result (Option Form) Refusal → Kept → List ℕ → List Captured → Type 0
Begin (Ok (Some form)) feed taken given = Stands feed taken given × (feed.form ≡ Some form)
Begin (Ok None) feed taken given = Stands feed taken given × HeldIn feed.form feed.rest
Begin (Err r) feed taken given = Stands feed taken given × RefusedAt feed r
