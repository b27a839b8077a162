-- `from-pcapng SOURCE INTERFACE MADE`: the frames of a pcapng file as a capture.
use Rattle.std.specs.Prelude.{◌≡◌, ◌≢◌, ◌⊎◌, ℕ, ◌^◌, ◌<◌, Bool, true, false, not, ◌&&◌, ◌==◌, List, [], ◌∷◌, ◌++◌, Option, Some, None, IfSome, length, codes, decimal, map}
use Rattle.std.specs.List.{filter}
use Rattle.sfc_desk.specs.declared.ports.Port.{Port}
use Rattle.sfc_desk.specs.declared.ports.Port.TheVariants as ports
use Rattle.sfc_desk.specs.Desks.{Shown, Files}
use Rattle.pcap_io.specs.declared.forms.Form.{Form}
use Rattle.pcap_io.specs.declared.frames.Captured.{Captured}
use Rattle.pcap_io.specs.Captures.{IsCapture, packets}
use Rattle.pcap_io.specs.Heads.{file_head}
use Rattle.pcapng_io.specs.declared.frames.NgFrame.{NgFrame}
use Rattle.pcapng_io.specs.Reads.{BeginsNg, Reads}
use Rattle.pcapng_io.specs.Refusals.{told}
use Rattle.commands.specs.declared.statuses.Status.{Status}
use Rattle.commands.specs.declared.statuses.Status.TheVariants as status
use Rattle.commands.specs.Commands.{CommandCall}
use Rattle.commands.specs.Outputs.{Outputs}
use Rattle.commands.specs.Places.{Place, opens, reports}
use Rattle.frame_streams.specs.Streams.{StreamRuns, StreamWants}

-- what the words say: the two files, and the number of the interface, or none for every interface
pub record FromPcapng : Type 0 where
  pub source : List ℕ
  pub interface : Option ℕ
  pub made : List ℕ

-- the word of an interface: its number, or `*` for every one
abbrev pub interface_word : Option ℕ → List ℕ
interface_word None = codes "*"
interface_word (Some number) = decimal number

-- The words are `from-pcapng`, a file name, `*` or the number of an interface below 2^32, and a file name. The names are not empty
-- and differ. The number is decimal without leading zeros.
pub record IsFromPcapng (words : List (List ℕ)) (said : FromPcapng) : Type 0 where
  pub spelled : words ≡ codes "from-pcapng" ∷ said.source ∷ interface_word said.interface ∷ said.made ∷ []
  pub range : IfSome said.interface (λ number. number < 2 ^ 32)
  pub from_somewhere : said.source ≢ []
  pub to_somewhere : said.made ≢ []
  pub two_files : said.made ≢ said.source

-- the ports, in the order of their binds, and Report
abbrev pub from_pcapng_ports : FromPcapng → List Place
from_pcapng_ports said = opens ports.Source said.source ∷ opens ports.Made said.made ∷ reports ∷ []

-- ---- the frames that are chosen

-- the number is that of the interface that is asked for
abbrev pub is_asked : Option ℕ → ℕ → Bool
is_asked None number = true
is_asked (Some asked) number = number == asked

-- a frame is chosen that is of an Ethernet and of the interface that is asked for, in whatever section
abbrev pub is_chosen : Option ℕ → NgFrame → Bool
is_chosen interface frame = frame.ethernet && is_asked interface frame.interface

abbrev pub chosen_of : Option ℕ → List NgFrame → List NgFrame
chosen_of interface frames = filter (is_chosen interface) frames

abbrev pub skipped_of : Option ℕ → List NgFrame → List NgFrame
skipped_of interface frames = filter (λ frame. not (is_chosen interface frame)) frames

-- ---- what is written

-- a capture of nanoseconds, with its lowest byte first
abbrev pub made_form : Form
made_form = record { nano = true; big = false }

-- a frame in it, at the same time
abbrev pub as_captured : NgFrame → Captured
as_captured frame = record { seconds = frame.seconds; fraction = frame.nanos; original = frame.original; bytes = frame.bytes }

abbrev pub captured_of : Option ℕ → List NgFrame → List Captured
captured_of interface frames = map as_captured (chosen_of interface frames)

-- the bytes are the capture of these frames, behind the file header that is always written
pub record IsCaptureOf (frames : List Captured) (made : List ℕ) : Type 0 where
  pub spelled : made ≡ file_head made_form ++ packets made_form frames
  pub is_capture : IsCapture made made_form frames

-- the capture is written once the file begins with a whole section header that is not refused
abbrev pub Makes : Option ℕ → List ℕ → List NgFrame → List ℕ → Type 0
Makes interface input frames made = (BeginsNg input × IsCaptureOf (captured_of interface frames) made) ⊎ ((BeginsNg input → ⊥) × (made ≡ []))

-- a reader of the input gets these frames, and then its end or the refusal that is told
abbrev pub EndsAs : List ℕ → List NgFrame → Status → Type 0
EndsAs input frames status.Ok = Reads input frames None
EndsAs input frames (status.Pcapng place reason) = Reads input frames (Some (told place reason))
EndsAs input frames _ = ⊥

-- what `from-pcapng` answers for an input, and writes to Made
pub record FromWrites (interface : Option ℕ) (input : List ℕ) (answer : Status) (made : List ℕ) : Type 0 where
  pub frames : List NgFrame
  pub makes : Makes interface input frames made
  pub ends : EndsAs input frames answer

-- the line of the two counts
abbrev pub count_line : ℕ → ℕ → List ℕ
count_line chosen skipped = codes "frames=" ++ decimal chosen ++ codes " skipped=" ++ decimal skipped ++ codes "\n"

-- what is written to Report: with Ok how many frames were written, and how many of the file's were not; else nothing
abbrev pub counts_of : Option ℕ → List NgFrame → Status → List ℕ
counts_of interface frames status.Ok = count_line (length (chosen_of interface frames)) (length (skipped_of interface frames))
counts_of interface frames _ = []

-- what it answers for an input, and writes to Made and Report
pub record FromPcapngWrites (interface : Option ℕ) (input : List ℕ) (answer : Status) (out : Outputs) : Type 0 where
  pub writes : FromWrites interface input answer (out ports.Made)
  pub counts : out ports.Report ≡ counts_of interface writes.frames answer

-- ---- what each answer says, and what the file asks for

-- where the words are those of `from-pcapng`
abbrev pub FromPcapngRuns : FromPcapng → Bool → Files → (Port → Shown) → (Port → Shown) → Status → Type 0
FromPcapngRuns said tells held then now answer =
    StreamRuns ports.Source (from_pcapng_ports said) (FromPcapngWrites said.interface) (held said.source) tells then now answer

abbrev pub FromPcapngWants : FromPcapng → Files → Status → Type 0
FromPcapngWants said held answer = StreamWants ports.Source (FromPcapngWrites said.interface) (held said.source) answer

-- what a call with these words says, whether they are those of `from-pcapng` or not
abbrev pub FromPcapngCall : List (List ℕ) → Bool → Files → (Port → Shown) → (Port → Shown) → Status → Type 0
FromPcapngCall = CommandCall IsFromPcapng from_pcapng_ports FromPcapngRuns FromPcapngWants
