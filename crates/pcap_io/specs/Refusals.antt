-- The refusals of a capture, in their order; the first row that holds is told. Places are counted from the field's header.
use Rattle.std.specs.Prelude.{◌≡◌, ◌≢◌, ℕ, ◌+◌, ◌<◌, ◌≤◌, ◌^◌, ◌⊎◌, List, ◌++◌, length, take, drop}
use Rattle.pcap_io.specs.declared.forms.Form.{Form}
use Rattle.pcap_io.specs.declared.frames.Captured.{Captured}
use Rattle.pcap_io.specs.declared.reasons.CaptureReason.{CaptureReason}
use Rattle.pcap_io.specs.declared.reasons.CaptureReason.TheVariants as reasons
use Rattle.pcap_io.specs.declared.reasons.Refusal.{Refusal}
use Rattle.pcap_io.specs.Heads.{link_of, magic_of, version_of, word}
use Rattle.pcap_io.specs.Captures.{IsWithinLimits, packet}

abbrev pub told : ℕ → CaptureReason → Refusal
told place reason = record { place = place; reason = reason }

-- the same, counted from a byte that stands `used` bytes earlier
abbrev pub moved : ℕ → Refusal → Refusal
moved used t = record { place = used + t.place; reason = t.reason }

-- ---- the file header

abbrev pub HasMagic : Form → List ℕ → Type 0
HasMagic form bytes = take 4 bytes ≡ word form (magic_of form)

abbrev pub HasVersion : Form → List ℕ → Type 0
HasVersion form bytes = take 4 (drop 4 bytes) ≡ version_of form

-- the magic is none of the four
pub record RefusedMagic (bytes : List ℕ) (t : Refusal) : Type 0 where
  pub there : 4 ≤ length bytes
  pub none : (form : Form) → ¬ HasMagic form bytes
  pub is : t ≡ told 0 reasons.Magic

-- the version is not 2.4
pub record RefusedVersion (bytes : List ℕ) (t : Refusal) : Type 0 where
  pub form : Form
  pub there : 8 ≤ length bytes
  pub magic : HasMagic form bytes
  pub other : ¬ HasVersion form bytes
  pub is : t ≡ told 4 reasons.Version

-- the link type is not Ethernet
pub record RefusedLink (bytes : List ℕ) (t : Refusal) : Type 0 where
  pub form : Form
  pub there : 24 ≤ length bytes
  pub magic : HasMagic form bytes
  pub version : HasVersion form bytes
  pub other : take 4 (drop 20 bytes) ≢ link_of form
  pub is : t ≡ told 20 reasons.Link

abbrev pub RefusedHead : List ℕ → Refusal → Type 0
RefusedHead bytes t = RefusedMagic bytes t ⊎ (RefusedVersion bytes t ⊎ RefusedLink bytes t)

-- ---- a packet

-- the captured length is there, and it is this number
pub record SaysCaptured (form : Form) (bytes : List ℕ) (captured : ℕ) : Type 0 where
  pub there : 12 ≤ length bytes
  pub fits : captured < 2 ^ 32
  pub spelled : word form captured ≡ take 4 (drop 8 bytes)

-- the original length is there, and it is this number
pub record SaysOriginal (form : Form) (bytes : List ℕ) (original : ℕ) : Type 0 where
  pub there : 16 ≤ length bytes
  pub fits : original < 2 ^ 32
  pub spelled : word form original ≡ take 4 (drop 12 bytes)

-- the captured length is above 262,144
pub record RefusedLength (form : Form) (bytes : List ℕ) (t : Refusal) : Type 0 where
  pub captured : ℕ
  pub says : SaysCaptured form bytes captured
  pub over : 262144 < captured
  pub is : t ≡ told 8 reasons.Length

-- the original length is below the captured one, or above 2,147,483,647
pub record RefusedOriginal (form : Form) (bytes : List ℕ) (t : Refusal) : Type 0 where
  pub captured : ℕ
  pub original : ℕ
  pub says : SaysCaptured form bytes captured
  pub within : captured ≤ 262144
  pub says_too : SaysOriginal form bytes original
  pub bad : (original < captured) ⊎ (2147483647 < original)
  pub is : t ≡ told 12 reasons.Original

abbrev pub RefusedPacket : Form → List ℕ → Refusal → Type 0
RefusedPacket form bytes t = RefusedLength form bytes t ⊎ RefusedOriginal form bytes t

-- ---- held

-- no whole packet stands at the front
abbrev pub BeginsNone : Form → List ℕ → Type 0
BeginsNone form bytes = (frame : Captured) (rest : List ℕ) → IsWithinLimits frame → bytes ≢ packet form frame ++ rest

-- behind the file header: nothing is refused, and no packet is whole
pub record HeldPacket (form : Form) (bytes : List ℕ) : Type 0 where
  pub accepted : (t : Refusal) → ¬ RefusedPacket form bytes t
  pub unfinished : BeginsNone form bytes

-- at the start: nothing is refused, and the header is not whole
pub record HeldHead (bytes : List ℕ) : Type 0 where
  pub accepted : (t : Refusal) → ¬ RefusedHead bytes t
  pub unfinished : length bytes < 24
