-- What the steps over a header answer.
use Rattle.std.specs.Prelude.{◌≡◌, ◌≢◌, ℕ, ◌<◌, ◌≤◌, min, List, length, slice_index, Option, None, Some}
use Rattle.bgp_messages.specs.declared.headers.Kind.{Kind}
use Rattle.bgp_messages.specs.declared.headers.Kind.TheVariants as kinds
use Rattle.bgp_messages.specs.declared.headers.HeadStep.{HeadStep}
use Rattle.bgp_messages.specs.declared.headers.HeadStep.TheVariants as steps
use Rattle.bgp_messages.specs.Headers.{Marked, length_of, kind_of, UnknownType, LengthFits}
use Rattle.bgp_messages.specs.Refusals.{Refused, IsWhole}
use Rattle.bgp_messages.specs.Faults.{told_of}

abbrev pub number : Kind → ℕ
number kinds.Open = 1
number kinds.Update = 2
number kinds.Notification = 3
number kinds.KeepAlive = 4

-- the type with this number, where there is one
abbrev pub IsKindOf : ℕ → Option Kind → Type 0
IsKindOf byte None = UnknownType byte
IsKindOf byte (Some kind) = byte ≡ number kind

-- this byte of the marker is the first that is not FF
pub record Unmarked (bytes : List ℕ) (place : ℕ) : Type 0 where
  pub in_marker : place < 16
  pub there : place < length bytes
  pub before : Marked place bytes
  pub byte : slice_index bytes place ≢ 255

-- the first such byte, or none among those that are there
abbrev pub FirstUnmarked : List ℕ → Option ℕ → Type 0
FirstUnmarked bytes None = Marked (min 16 (length bytes)) bytes
FirstUnmarked bytes (Some place) = Unmarked bytes place

-- the bytes are accepted as far as they go, and are no whole message
pub record Waits (bytes : List ℕ) : Type 0 where
  pub marker : Marked (min 16 (length bytes)) bytes
  pub least : 18 ≤ length bytes → 19 ≤ length_of bytes
  pub most : 18 ≤ length bytes → length_of bytes ≤ 4096
  pub known : 19 ≤ length bytes → (0 < kind_of bytes) × (kind_of bytes ≤ 4)
  pub fits : 19 ≤ length bytes → LengthFits (kind_of bytes) (length_of bytes)
  pub unfinished : 19 ≤ length bytes → length bytes < length_of bytes

abbrev pub HeadGives : List ℕ → HeadStep → Type 0
HeadGives bytes steps.Wait = Waits bytes
HeadGives bytes (steps.Refused fault) = Refused bytes (told_of fault)
HeadGives bytes (steps.Whole kind len) = IsWhole bytes (number kind) len
