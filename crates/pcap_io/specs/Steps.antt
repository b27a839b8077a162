-- What the bytes at hand begin with.
use Rattle.std.specs.Prelude.{ℕ, ◌+◌, ◌≤◌, List, length, take, drop}
use Rattle.pcap_io.specs.declared.forms.Form.{Form}
use Rattle.pcap_io.specs.declared.steps.HeadStep.{HeadStep}
use Rattle.pcap_io.specs.declared.steps.HeadStep.TheVariants as heads
use Rattle.pcap_io.specs.declared.steps.PacketStep.{PacketStep}
use Rattle.pcap_io.specs.declared.steps.PacketStep.TheVariants as packets
use Rattle.pcap_io.specs.Captures.{IsFileHead}
use Rattle.pcap_io.specs.Fronts.{BeginsWith}
use Rattle.pcap_io.specs.Refusals.{told, RefusedHead, RefusedPacket, HeldHead, HeldPacket}

pub record WholeHead (form : Form) (bytes : List ℕ) : Type 0 where
  pub there : 24 ≤ length bytes
  pub head : IsFileHead form (take 24 bytes)

abbrev pub HeadGives : List ℕ → HeadStep → Type 0
HeadGives bytes heads.Wait = HeldHead bytes
HeadGives bytes (heads.Refused place reason) = (place ≤ length bytes) × RefusedHead bytes (told place reason)
HeadGives bytes (heads.Whole form) = WholeHead form bytes

-- the body stands behind 16 bytes, and the rest behind the body
abbrev pub PacketGives : Form → List ℕ → PacketStep → Type 0
PacketGives form bytes packets.Wait = (length bytes ≤ 262159) × HeldPacket form bytes
PacketGives form bytes (packets.Refused place reason) = (place ≤ length bytes) × RefusedPacket form bytes (told place reason)
PacketGives form bytes (packets.Whole head) = (16 + head.captured ≤ length bytes) × BeginsWith form bytes head (take head.captured (drop 16 bytes)) (drop (16 + head.captured) bytes)
