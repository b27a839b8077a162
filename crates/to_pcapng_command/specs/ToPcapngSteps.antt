-- What the words of `to-pcapng` say, as the program keeps them, and what its converter has turned.
use Rattle.std.specs.Prelude.{◌≡◌, ℕ, ◌+◌, Bool, true, false, List, [], ◌++◌, Option, Some, None, Result, Ok, Err}
use Rattle.pcap_io.specs.declared.forms.Form.{Form}
use Rattle.pcap_io.specs.declared.frames.Captured.{Captured}
use Rattle.pcap_io.specs.Kept.{Kept}
use Rattle.pcap_io.specs.Streams.{Stands}
use Rattle.pcap_io.specs.declared.reasons.CaptureReason.TheVariants as reasons
use Rattle.pcapng_io.specs.Written.{has_time, ng_of, packet_block}
use Rattle.commands.specs.declared.statuses.Status.{Status}
use Rattle.commands.specs.declared.statuses.Status.TheVariants as status
use Rattle.to_pcapng_command.specs.declared.to_pcapng_words.ToPcapngWords.{ToPcapngWords}
use Rattle.to_pcapng_command.specs.ToPcapngCommand.{ToPcapng, HaveTimes}

abbrev pub to_pcapng_of : ToPcapngWords → ToPcapng
to_pcapng_of said = record { capture = said.capture.now; made = said.made.now }

-- what was made of these frames
abbrev pub IsMadeOf : Option Form → List Captured → List ℕ → Type 0
IsMadeOf None frames made = made ≡ []
IsMadeOf (Some form) frames made = HaveTimes form frames × (made ≡ ng_of form frames)

-- the feed took these bytes and gave frames of which this was made
pub record Turns (feed : Kept) (taken made : List ℕ) : Type 0 where
  pub given : List Captured
  pub stands : Stands feed taken given
  pub is : IsMadeOf feed.form given made

-- what became of a frame whose packet begins at the place: its block was put, or it is too late
abbrev pub PutsLent : Form → Captured → ℕ → List ℕ → List ℕ → Result Bool Status → Type 0
PutsLent form frame place was is (Ok more) = (more ≡ true) × (has_time form frame.seconds frame.fraction ≡ true) × (is ≡ was ++ packet_block form frame)
PutsLent form frame place was is (Err (status.Capture at reason)) =
    (has_time form frame.seconds frame.fraction ≡ false) × (at ≡ place + 4) × (reason ≡ reasons.Time) × (is ≡ was)
PutsLent form frame place was is (Err status.Memory) = Unit {0}
PutsLent form frame place was is (Err _) = ⊥
