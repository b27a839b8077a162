-- What the words of `from-pcapng` say, as the program keeps them; what its converter has turned; what is done on the bound ports.
use Rattle.std.specs.Prelude.{◌≡◌, ◌⊎◌, ℕ, ◌+◌, ◌^◌, ◌<◌, ◌≤◌, Bool, true, false, List, [], ◌∷◌, ◌++◌, Option, Some, None, length, Result, Ok, Err}
use Rattle.sfc_desk.specs.declared.ports.Port.{Port}
use Rattle.sfc_desk.specs.declared.ports.Port.TheVariants as ports
use Rattle.sfc_desk.specs.Desks.{Shown, Rose}
use Rattle.pcap_io.specs.Captures.{packets}
use Rattle.pcap_io.specs.Heads.{file_head}
use Rattle.pcapng_io.specs.declared.frames.NgFrame.{NgFrame}
use Rattle.pcapng_io.specs.Calls.{IsHeld}
use Rattle.pcapng_io.specs.Reads.{BeginsNg}
use Rattle.pcapng_io.specs.Streams.{Stands}
use Rattle.commands.specs.declared.statuses.Status.{Status}
use Rattle.commands.specs.declared.statuses.Status.TheVariants as status
use Rattle.commands.specs.Fronts.{IsFrontBehind}
use Rattle.commands.specs.Pieces.{NoneBound, SameCounts}
use Rattle.frame_streams.specs.Streams.{IsAtEnd}
use Rattle.frame_streams.specs.Turning.{Counts, FrontOfAll}
use Rattle.from_pcapng_command.specs.declared.capture_makers.CaptureMaker.{CaptureMaker}
use Rattle.from_pcapng_command.specs.declared.from_pcapng_words.FromPcapngWords.{FromPcapngWords}
use Rattle.from_pcapng_command.specs.FromPcapngCommand.{FromPcapng, FromWrites, captured_of, chosen_of, count_line, counts_of, made_form, skipped_of}

abbrev pub from_pcapng_of : FromPcapngWords → FromPcapng
from_pcapng_of said = record { source = said.source.now; interface = said.interface; made = said.made.now }

-- ---- the converter

-- what was made of these frames, once the file header was put or before
abbrev pub IsMadeOf : Option ℕ → Bool → List ℕ → List NgFrame → List ℕ → Type 0
IsMadeOf interface true taken given made = BeginsNg taken × (made ≡ file_head made_form ++ packets made_form (captured_of interface given))
IsMadeOf interface false taken given made = (given ≡ []) × (made ≡ [])

-- the feed took these bytes and gave frames, which are counted, and of which this was made
pub record Turns (maker : CaptureMaker) (taken made : List ℕ) : Type 0 where
  pub given : List NgFrame
  pub stands : Stands maker.feed taken given
  pub is : IsMadeOf maker.interface maker.begun taken given made
  pub chosen : maker.chosen ≡ length (chosen_of maker.interface given)
  pub skipped : maker.skipped ≡ length (skipped_of maker.interface given)
  pub small : maker.feed.place + length maker.feed.rest < 2 ^ 64

-- No block is whole that could be used up, and the file header was put if the file begins.
pub record IsAtRest (maker : CaptureMaker) : Type 0 where
  pub held : IsHeld maker.feed
  pub unbegun : maker.begun ≡ false → (taken : List ℕ) (given : List NgFrame) → Stands maker.feed taken given → ¬ BeginsNg taken

-- the file header of the capture was put, if the file begins: it is put once
abbrev pub PutsHead : Bool → Bool → List ℕ → List ℕ → Type 0
PutsHead true now was is = (now ≡ true) × (is ≡ was)
PutsHead false true was is = is ≡ was ++ file_head made_form
PutsHead false false was is = is ≡ was

-- a frame was counted, and put where it is chosen
pub record PutsFrame (interface : Option ℕ) (frame : NgFrame) (old new : CaptureMaker) (was is : List ℕ) : Type 0 where
  pub chosen : new.chosen ≡ old.chosen + length (chosen_of interface (frame ∷ []))
  pub skipped : new.skipped ≡ old.skipped + length (skipped_of interface (frame ∷ []))
  pub put : is ≡ was ++ packets made_form (captured_of interface (frame ∷ []))

-- ---- the bound ports

-- of all that is written for the source, Made took a front, and Report
abbrev pub TookFrontsOf : Option ℕ → (Port → Shown) → (Port → Shown) → Type 0
TookFrontsOf interface then now =
    FrontOfAll (FromWrites interface) (then ports.Source).left (now ports.Made).written
    × ((answer : Status) (made : List ℕ) → (w : FromWrites interface (then ports.Source).left answer made)
    → IsFrontBehind (then ports.Report).written (now ports.Report).written (counts_of interface w.frames answer))

-- what each answer says of the bound Source and Made, which was empty, and of Report
abbrev pub FromWorks : Option ℕ → (Port → Shown) → (Port → Shown) → Status → Type 0
FromWorks interface then now status.Ok =
    ((w : FromWrites interface (then ports.Source).left status.Ok (now ports.Made).written)
    × ((now ports.Report).written ≡ (then ports.Report).written ++ counts_of interface w.frames status.Ok))
    × (length (then ports.Source).left ≤ 2 ^ 40) × ((now ports.Source).left ≡ [])
FromWorks interface then now (status.Pcapng place reason) =
    FromWrites interface (then ports.Source).left (status.Pcapng place reason) (now ports.Made).written
    × (IsAtEnd (status.Pcapng place reason) → length (then ports.Source).left ≤ 2 ^ 40)
    × ((now ports.Report).written ≡ (then ports.Report).written)
FromWorks interface then now (status.Long port) = (2 ^ 40 < length (then ports.Source).left) × TookFrontsOf interface then now
FromWorks interface then now (status.File port) = TookFrontsOf interface then now
FromWorks interface then now status.Memory = TookFrontsOf interface then now
FromWorks interface then now _ = ⊥

-- what writing the line of the counts answers
abbrev pub ReportsCounts : ℕ → ℕ → Bool → (Port → Shown) → (Port → Shown) → Status → Type 0
ReportsCounts chosen skipped tells then now status.Ok =
    SameCounts then now × (tells ≡ true → (now ports.Report).written ≡ (then ports.Report).written ++ count_line chosen skipped)
ReportsCounts chosen skipped tells then now (status.File port) =
    (port ≡ ports.Report) × Rose (then port) (now port) × (tells ≡ true → IsFrontBehind (then ports.Report).written (now ports.Report).written (count_line chosen skipped))
ReportsCounts chosen skipped tells then now status.Memory = SameCounts then now × (tells ≡ true → (now ports.Report).written ≡ (then ports.Report).written)
ReportsCounts chosen skipped tells then now _ = ⊥

-- the ports on which calls are made
abbrev pub IsOwn : Port → Type 0
IsOwn port = (port ≡ ports.Source) ⊎ ((port ≡ ports.Made) ⊎ (port ≡ ports.Report))

-- and of all ports
pub record MakesCapture (interface : Option ℕ) (tells : Bool) (then now : Port → Shown) (answer : Status) : Type 0 where
  pub works : tells ≡ true → FromWorks interface then now answer
  pub counts : Counts IsOwn (λ port. port ≡ ports.Source) then now answer
  pub none_bound : NoneBound tells then now
  pub others : (port : Port) → (IsOwn port → ⊥) → now port ≡ then port
