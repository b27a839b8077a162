-- `to-pcapng CAPTURE MADE`: the frames of a capture as a pcapng file.
use Rattle.std.specs.Prelude.{◌≡◌, ◌≢◌, ◌⊎◌, ℕ, ◌+◌, Bool, true, false, List, [], ◌∷◌, ◌++◌, Option, Some, None, length, codes, map}
use Rattle.std.specs.List.{AllByRecursion}
use Rattle.sfc_desk.specs.declared.ports.Port.{Port}
use Rattle.sfc_desk.specs.declared.ports.Port.TheVariants as ports
use Rattle.sfc_desk.specs.Desks.{Shown, Files}
use Rattle.pcap_io.specs.declared.forms.Form.{Form}
use Rattle.pcap_io.specs.declared.frames.Captured.{Captured}
use Rattle.pcap_io.specs.declared.reasons.CaptureReason.{CaptureReason}
use Rattle.pcap_io.specs.declared.reasons.CaptureReason.TheVariants as reasons
use Rattle.pcap_io.specs.Captures.{IsCapture, packets}
use Rattle.pcap_io.specs.Reads.{Reads}
use Rattle.pcap_io.specs.Refusals.{told}
use Rattle.pcapng_io.specs.Files.{IsNg}
use Rattle.pcapng_io.specs.Written.{as_ng, has_time, ng_of}
use Rattle.commands.specs.declared.statuses.Status.{Status}
use Rattle.commands.specs.declared.statuses.Status.TheVariants as status
use Rattle.commands.specs.Commands.{CommandCall}
use Rattle.commands.specs.Places.{Place, opens}
use Rattle.frame_streams.specs.Streams.{Relation, StreamRuns, StreamWants, at_output}

-- what the words say
pub record ToPcapng : Type 0 where
  pub capture : List ℕ
  pub made : List ℕ

-- the words are `to-pcapng` and two file names, which are not empty and differ
pub record IsToPcapng (words : List (List ℕ)) (said : ToPcapng) : Type 0 where
  pub spelled : words ≡ codes "to-pcapng" ∷ said.capture ∷ said.made ∷ []
  pub from_somewhere : said.capture ≢ []
  pub to_somewhere : said.made ≢ []
  pub two_files : said.made ≢ said.capture

-- the ports, in the order of their binds
abbrev pub to_pcapng_ports : ToPcapng → List Place
to_pcapng_ports said = opens ports.Capture said.capture ∷ opens ports.Made said.made ∷ []

-- ---- what is written

-- no fraction carries the time of its frame past 4,294,967,295 seconds
abbrev pub HaveTimes : Form → List Captured → Type 0
HaveTimes form frames = AllByRecursion (λ frame. has_time form frame.seconds frame.fraction ≡ true) frames

-- The bytes are these frames of a capture as a pcapng file: one section and one interface that counts time as the capture does, and
-- a packet for each frame (pcapng, sections 4.1 to 4.3). A reader gets the frames at the same times.
pub record IsFileOf (form : Form) (frames : List Captured) (made : List ℕ) : Type 0 where
  pub times : HaveTimes form frames
  pub spelled : made ≡ ng_of form frames
  pub is_ng : IsNg made (map (as_ng form) frames)

-- before a file header was accepted nothing is written
abbrev pub Makes : Option Form → List Captured → List ℕ → Type 0
Makes None frames made = made ≡ []
Makes (Some form) frames made = IsFileOf form frames made

-- Behind these frames of the input stands one more, whose fraction carries its time past 4,294,967,295 seconds. It is refused at
-- its fraction, which stands behind the file header, the packets before and 4 bytes of seconds.
pub record IsTooLate (form : Form) (input : List ℕ) (frames : List Captured) (place : ℕ) (reason : CaptureReason) : Type 0 where
  pub frame : Captured
  pub front : List ℕ
  pub rest : List ℕ
  pub is_capture : IsCapture front form (frames ++ frame ∷ [])
  pub joined : input ≡ front ++ rest
  pub late : has_time form frame.seconds frame.fraction ≡ false
  pub at : place ≡ 24 + length (packets form frames) + 4
  pub told : reason ≡ reasons.Time

abbrev pub StopsLate : Option Form → List ℕ → List Captured → ℕ → CaptureReason → Type 0
StopsLate None input frames place reason = ⊥
StopsLate (Some form) input frames place reason = IsTooLate form input frames place reason

-- why no more frames are written: the input is a capture of these, or it is refused behind them, or the next one is too late
abbrev pub EndsAs : List ℕ → Option Form → List Captured → Status → Type 0
EndsAs input form frames status.Ok = Reads input form frames None
EndsAs input form frames (status.Capture place reason) = Reads input form frames (Some (told place reason)) ⊎ StopsLate form input frames place reason
EndsAs input form frames _ = ⊥

-- what `to-pcapng` answers and writes for an input
pub record ToWrites (input : List ℕ) (answer : Status) (made : List ℕ) : Type 0 where
  pub form : Option Form
  pub frames : List Captured
  pub makes : Makes form frames made
  pub ends : EndsAs input form frames answer

abbrev pub ToPcapngWrites : Relation
ToPcapngWrites = at_output ports.Made ToWrites

-- ---- what each answer says, and what the file asks for

-- where the words are those of `to-pcapng`
abbrev pub ToPcapngRuns : ToPcapng → Bool → Files → (Port → Shown) → (Port → Shown) → Status → Type 0
ToPcapngRuns said tells held then now answer = StreamRuns ports.Capture (to_pcapng_ports said) ToPcapngWrites (held said.capture) tells then now answer

abbrev pub ToPcapngWants : ToPcapng → Files → Status → Type 0
ToPcapngWants said held answer = StreamWants ports.Capture ToPcapngWrites (held said.capture) answer

-- what a call with these words says, whether they are those of `to-pcapng` or not
abbrev pub ToPcapngCall : List (List ℕ) → Bool → Files → (Port → Shown) → (Port → Shown) → Status → Type 0
ToPcapngCall = CommandCall IsToPcapng to_pcapng_ports ToPcapngRuns ToPcapngWants
