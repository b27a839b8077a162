-- `walk SPI COUNT CAPTURE EGRESS`: each frame of a capture over a static path, and what comes out.
use Rattle.std.specs.Prelude.{◌≡◌, ◌≢◌, ◌⊎◌, ℕ, ◌^◌, ◌<◌, ◌≤◌, Bool, true, List, [], ◌∷◌, ◌++◌, Option, Some, None, length, codes, decimal}
use Rattle.std.specs.List.{AllZip}
use Rattle.sfc_desk.specs.declared.ports.Port.{Port}
use Rattle.sfc_desk.specs.declared.ports.Port.TheVariants as ports
use Rattle.sfc_desk.specs.Desks.{Shown, Files}
use Rattle.pcap_io.specs.declared.forms.Form.{Form}
use Rattle.pcap_io.specs.declared.frames.Captured.{Captured}
use Rattle.pcap_io.specs.declared.reasons.Refusal.{Refusal}
use Rattle.pcap_io.specs.declared.reasons.CaptureReason.TheVariants as reasons
use Rattle.pcap_io.specs.Captures.{IsCapture, packets}
use Rattle.pcap_io.specs.Heads.{file_head}
use Rattle.pcap_io.specs.Refusals.{told}
use Rattle.pcap_io.specs.Reads.{Reads}
use Rattle.pcap_io.specs.Egress.{Leaving, egress_of}
use Rattle.commands.specs.declared.statuses.Status.{Status}
use Rattle.commands.specs.declared.statuses.Status.TheVariants as status
use Rattle.record_text.specs.declared.records.End.{End}
use Rattle.record_text.specs.declared.records.End.TheVariants.{Egress}
use Rattle.forwarder.specs.Workspaces.{taken_in}
use Rattle.commands.specs.Commands.{CommandCall}
use Rattle.commands.specs.Fronts.{IsFront}
use Rattle.commands.specs.Outputs.{Outputs, TookAll, TookFrontsOfEach}
use Rattle.commands.specs.Places.{Place, opens, OpensAll}
use Rattle.static_walks.specs.Walks.{WalksTo}

-- what the words say
pub record Walk : Type 0 where
  pub spi : ℕ
  pub count : ℕ
  pub capture : List ℕ
  pub egress : List ℕ

-- The words are `walk`, an SPI below 2^24, a COUNT from 1 to 255, and two file names, which are not
-- empty and differ. Numbers are decimal without leading zeros.
pub record IsWalk (words : List (List ℕ)) (walk : Walk) : Type 0 where
  pub spelled : words ≡ codes "walk" ∷ decimal walk.spi ∷ decimal walk.count ∷ walk.capture ∷ walk.egress ∷ []
  pub spi_range : walk.spi < 2 ^ 24
  pub some : 1 ≤ walk.count
  pub most : walk.count ≤ 255
  pub from_somewhere : walk.capture ≢ []
  pub to_somewhere : walk.egress ≢ []
  pub two_files : walk.egress ≢ walk.capture

-- the ports, in the order of their binds
abbrev pub walk_ports : Walk → List Place
walk_ports walk = opens ports.Capture walk.capture ∷ opens ports.Egress walk.egress ∷ []

-- ---- what is written

-- what a frame leaves: itself, where its walk ended as egress
abbrev pub left_at : Captured → End → Option Leaving
left_at frame Egress = Some (record { original = frame.original; bytes = frame.bytes })
left_at frame _ = None

-- what the frames leave, one entry for each
abbrev pub leaving_of : List Captured → List End → List (Option Leaving)
leaving_of [] ends = []
leaving_of (frame ∷ frames) [] = []
leaving_of (frame ∷ frames) (end ∷ ends) = left_at frame end ∷ leaving_of frames ends

-- how the walk of each frame over the static path ends, as a forwarder takes the frame in
abbrev pub WalksOf : ℕ → ℕ → List Captured → List End → Type 0
WalksOf spi count frames ends = AllZip (λ frame end. WalksTo spi count (taken_in frame.bytes frame.original) end) frames ends

-- A reader of the input gets these frames and then this stop, and the output is the egress of those that leave: the
-- input's own frames and times.
pub record Writes (spi count : ℕ) (input : List ℕ) (stop : Option Refusal) (output : List ℕ) : Type 0 where
  pub form : Option Form
  pub frames : List Captured
  pub ends : List End
  pub reads : Reads input form frames stop
  pub walked : WalksOf spi count frames ends
  pub egress : output ≡ egress_of form frames (leaving_of frames ends)

-- the input begins with a capture of these frames
pub record FramesOf (form : Form) (input : List ℕ) (frames : List Captured) : Type 0 where
  pub front : List ℕ
  pub rest : List ℕ
  pub is_capture : IsCapture front form frames
  pub joined : input ≡ front ++ rest

abbrev pub BeginsWithFrames : Option Form → List ℕ → List Captured → Type 0
BeginsWithFrames None input frames = frames ≡ []
BeginsWithFrames (Some form) input frames = FramesOf form input frames

-- What was written is a front of what frames at the front of the input leave. By `a_front_is_of_the_whole` that is a front of
-- what is written for the whole input.
pub record WroteFront (spi count : ℕ) (input written : List ℕ) : Type 0 where
  pub form : Option Form
  pub frames : List Captured
  pub ends : List End
  pub begins : BeginsWithFrames form input frames
  pub walked : WalksOf spi count frames ends
  pub front : IsFront written (egress_of form frames (leaving_of frames ends))

-- the file header and all the frames
abbrev pub whole_egress : Option Form → List Captured → List ℕ
whole_egress None frames = []
whole_egress (Some form) frames = file_head form ++ packets form frames

-- the file header alone
abbrev pub bare_egress : Option Form → List ℕ
bare_egress None = []
bare_egress (Some form) = file_head form

-- what `walk` writes for its capture, up to where that is refused, if it is
pub record WalkWrites (walk : Walk) (held : Files) (stop : Option Refusal) (out : Outputs) : Type 0 where
  pub input : List ℕ
  pub there : held walk.capture ≡ Some input
  pub writes : Writes walk.spi walk.count input stop (out ports.Egress)

-- what it writes, whether that is refused or not
abbrev pub WalkWritesSome : Walk → Files → Outputs → Type 0
WalkWritesSome walk held out = (stop : Option Refusal) × WalkWrites walk held stop out

-- ---- what each answer says

-- the egress took all that is written for the capture, which is within its limit
pub record WalkEnds (walk : Walk) (held : Files) (then now : Port → Shown) : Type 0 where
  pub out : Outputs
  pub writes : WalkWrites walk held None out
  pub within : length writes.input ≤ 2 ^ 40
  pub took : TookAll (walk_ports walk) then now out

-- The capture is refused, and the egress took all that is written for the whole frames before. What ends short was read to
-- its end, within the limit; after another refusal nothing more was read.
pub record WalkRefused (walk : Walk) (held : Files) (r : Refusal) (then now : Port → Shown) : Type 0 where
  pub out : Outputs
  pub writes : WalkWrites walk held (Some r) out
  pub short : r.reason ≡ reasons.Short → length writes.input ≤ 2 ^ 40
  pub took : TookAll (walk_ports walk) then now out

-- The egress took a front of what is written for the capture. An input has one reading, so that is the same for one output
-- that is written and for every one (`one_egress`), and each has one (`every_input_is_written`).
abbrev pub WalkFronts : Walk → Files → (Port → Shown) → (Port → Shown) → Type 0
WalkFronts walk held then now = TookFrontsOfEach (WalkWritesSome walk held) (walk_ports walk) then now

-- the file under the capture's name has more bytes than the limit
pub record HasLong (walk : Walk) (held : Files) : Type 0 where
  pub input : List ℕ
  pub there : held walk.capture ≡ Some input
  pub past : 2 ^ 40 < length input

-- what each answer says, where the words are a walk's
abbrev pub WalkRuns : Walk → Bool → Files → (Port → Shown) → (Port → Shown) → Status → Type 0
WalkRuns walk tells held then now status.Ok =
    OpensAll (walk_ports walk) tells then now × (tells ≡ true → WalkEnds walk held then now × ((now ports.Capture).left ≡ []))
WalkRuns walk tells held then now (status.Capture place reason) =
    OpensAll (walk_ports walk) tells then now × (tells ≡ true → WalkRefused walk held (told place reason) then now)
WalkRuns walk tells held then now (status.Long port) =
    (port ≡ ports.Capture) × OpensAll (walk_ports walk) tells then now × (tells ≡ true → HasLong walk held × WalkFronts walk held then now)
WalkRuns walk tells held then now (status.File port) = tells ≡ true → WalkFronts walk held then now
WalkRuns walk tells held then now status.Memory = tells ≡ true → WalkFronts walk held then now
WalkRuns walk tells held then now _ = ⊥

-- ---- what the files ask for

-- no field of the input is refused: it is read whole, or ends short
abbrev pub NoFieldRefused : List ℕ → Type 0
NoFieldRefused input = (form : Option Form) (frames : List Captured) (r : Refusal) → Reads input form frames (Some r) → r.reason ≡ reasons.Short

-- what a capture within its limit asks for
abbrev pub CaptureAsks : List ℕ → Status → Type 0
CaptureAsks input answer =
    (((form : Form) × (frames : List Captured) × IsCapture input form frames) × (answer ≡ status.Ok))
    ⊎ ((r : Refusal) × ((form : Option Form) × (frames : List Captured) × Reads input form frames (Some r)) × (answer ≡ status.Capture r.place r.reason))

-- What the capture's file asks for. Of a file with more bytes than the limit a field may be refused before the limit is
-- crossed or not, as the pieces come; so Long is asked for where no field is refused.
abbrev pub FileAsks : Option (List ℕ) → Status → Type 0
FileAsks None answer = answer ≡ status.File ports.Capture
FileAsks (Some input) answer =
    ((2 ^ 40 < length input) × NoFieldRefused input × (answer ≡ status.Long ports.Capture)) ⊎ ((length input ≤ 2 ^ 40) × CaptureAsks input answer)

abbrev pub WalkWants : Walk → Files → Status → Type 0
WalkWants walk held answer = FileAsks (held walk.capture) answer

-- what a call with these words says, whether they are a walk's or not
abbrev pub WalkCall : List (List ℕ) → Bool → Files → (Port → Shown) → (Port → Shown) → Status → Type 0
WalkCall = CommandCall IsWalk walk_ports WalkRuns WalkWants
