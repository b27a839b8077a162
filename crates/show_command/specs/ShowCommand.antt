-- `show FORMAT FILE`: the lines that show the bytes of a file, or why they are of no such form.
use Rattle.std.specs.Prelude.{◌≡◌, ◌≢◌, ℕ, ◌^◌, ◌<◌, ◌≤◌, Bool, true, List, [], ◌∷◌, Some, length, codes}
use Rattle.sfc_desk.specs.declared.ports.Port.{Port}
use Rattle.sfc_desk.specs.declared.ports.Port.TheVariants as ports
use Rattle.sfc_desk.specs.Desks.{Shown, Files}
use Rattle.sfc_texts.specs.NshText.{ShowsNsh}
use Rattle.sfc_texts.specs.BgpText.{ShowsBgp}
use Rattle.commands.specs.declared.statuses.Status.{Status}
use Rattle.commands.specs.declared.statuses.Status.TheVariants as status
use Rattle.commands.specs.Commands.{Asks, CommandCall}
use Rattle.commands.specs.Outputs.{Outputs, TookAll, TookFronts, none_put}
use Rattle.commands.specs.Places.{Place, opens, reports, OpensAll}
use Rattle.show_command.specs.declared.show_words.Format.{Format}
use Rattle.show_command.specs.declared.show_words.Format.TheVariants as formats

-- the word of a format
abbrev pub format_word : Format → List ℕ
format_word formats.Nsh = codes "nsh"
format_word formats.Bgp = codes "bgp"

-- the text shows the bytes, taken for this format
abbrev pub Shows : Format → List ℕ → List ℕ → Type 0
Shows formats.Nsh bytes text = ShowsNsh bytes text
Shows formats.Bgp bytes text = ShowsBgp bytes text

-- what the words say
pub record Show : Type 0 where
  pub format : Format
  pub source : List ℕ

-- the words are `show`, a format and a file name, which is not empty
pub record IsShow (words : List (List ℕ)) (show : Show) : Type 0 where
  pub spelled : words ≡ codes "show" ∷ format_word show.format ∷ show.source ∷ []
  pub from_somewhere : show.source ≢ []

-- the ports: the source, and Report
abbrev pub show_ports : Show → List Place
show_ports show = opens ports.Source show.source ∷ reports ∷ []

-- what `show` writes for its source: the text that shows it
pub record ShowWrites (show : Show) (held : Files) (out : Outputs) : Type 0 where
  pub input : List ℕ
  pub there : held show.source ≡ Some input
  pub shows : Shows show.format input (out ports.Report)

-- Report took all that is written for the source, which was read to its end and is within its limit
pub record ShowEnds (show : Show) (held : Files) (then now : Port → Shown) : Type 0 where
  pub out : Outputs
  pub writes : ShowWrites show held out
  pub within : length writes.input ≤ 2 ^ 40
  pub read_whole : (now ports.Source).left ≡ []
  pub took : TookAll (show_ports show) then now out

-- Report took nothing, or the source is there and Report took a front of what is written for it, whatever text that is: a stream
-- may be shown before it was read to its end. Any source of bytes has exactly one such text, so this says the same as fronts of one
-- (`bytes_are_shown`, `every_stream_is_shown` and their laws of one text, of `sfc_texts`).
pub data ShowFronts (show : Show) (held : Files) (then now : Port → Shown) : Type 0 where
  nothing : TookAll (show_ports show) then now none_put → ShowFronts show held then now
  fronts : (input : List ℕ) → held show.source ≡ Some input → ((out : Outputs) → ShowWrites show held out → TookFronts (show_ports show) then now out)
      → ShowFronts show held then now

-- the file under the source's name has more bytes than the limit
pub record HasLongSource (show : Show) (held : Files) : Type 0 where
  pub input : List ℕ
  pub there : held show.source ≡ Some input
  pub past : 2 ^ 40 < length input

-- what each answer says, where the words are these
abbrev pub ShowRuns : Show → Bool → Files → (Port → Shown) → (Port → Shown) → Status → Type 0
ShowRuns show tells held then now status.Ok = OpensAll (show_ports show) tells then now × (tells ≡ true → ShowEnds show held then now)
ShowRuns show tells held then now (status.Long port) =
    (port ≡ ports.Source) × OpensAll (show_ports show) tells then now × (tells ≡ true → HasLongSource show held × ShowFronts show held then now)
ShowRuns show tells held then now (status.File port) = tells ≡ true → ShowFronts show held then now
ShowRuns show tells held then now status.Memory = tells ≡ true → ShowFronts show held then now
ShowRuns show tells held then now _ = ⊥

-- what a source within its limit asks for
abbrev pub SourceAsks : List ℕ → Status → Type 0
SourceAsks input answer = answer ≡ status.Ok

-- what the files ask for
abbrev pub ShowWants : Show → Files → Status → Type 0
ShowWants show held answer = Asks ports.Source (2 ^ 40) SourceAsks (held show.source) answer

-- what a call with these words says, whether they are those of `show` or not
abbrev pub ShowCall : List (List ℕ) → Bool → Files → (Port → Shown) → (Port → Shown) → Status → Type 0
ShowCall = CommandCall IsShow show_ports ShowRuns ShowWants
