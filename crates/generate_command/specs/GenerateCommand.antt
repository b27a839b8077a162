-- `generate SEED FRAMES`: the run on one thread over the inputs from a seed, and its summary.
use Rattle.std.specs.Prelude.{◌≡◌, ℕ, ◌^◌, ◌<◌, ◌≤◌, Bool, true, List, [], ◌∷◌, codes, decimal}
use Rattle.sfc_desk.specs.declared.ports.Port.{Port}
use Rattle.sfc_desk.specs.declared.ports.Port.TheVariants as ports
use Rattle.sfc_desk.specs.Desks.{Shown, Files}
use Rattle.commands.specs.declared.statuses.Status.{Status}
use Rattle.commands.specs.declared.statuses.Status.TheVariants as status
use Rattle.commands.specs.Commands.{CommandCall}
use Rattle.commands.specs.Outputs.{Outputs, TookAll, TookFrontsOfOne}
use Rattle.commands.specs.Places.{Place, reports}
use Rattle.generate_command.specs.declared.summaries.Summary.{Summary}
use Rattle.generate_command.specs.Summaries.{Counted, summary_text}

-- what the words say: the seed, and the number of frames
pub record Generate : Type 0 where
  pub seed : ℕ
  pub count : ℕ

-- The words are `generate`, a seed below 2^64, and a number of frames from 1 to 65,536. Numbers are decimal without leading zeros.
pub record IsGenerate (words : List (List ℕ)) (said : Generate) : Type 0 where
  pub spelled : words ≡ codes "generate" ∷ decimal said.seed ∷ decimal said.count ∷ []
  pub seed_range : said.seed < 2 ^ 64
  pub some : 1 ≤ said.count
  pub most : said.count ≤ 65536

-- no port is bound, and Report is written to
abbrev pub generate_ports : Generate → List Place
generate_ports said = reports ∷ []

-- what `generate` writes: the line of the summary of its run
pub record GenerateWrites (said : Generate) (out : Outputs) : Type 0 where
  pub summary : Summary
  pub counted : Counted said.seed said.count summary
  pub text : out ports.Report ≡ summary_text summary

-- Report took all of it
pub record GenerateEnds (said : Generate) (then now : Port → Shown) : Type 0 where
  pub out : Outputs
  pub writes : GenerateWrites said out
  pub took : TookAll (generate_ports said) then now out

-- Report took a front of it, or nothing
abbrev pub GenerateFronts : Generate → (Port → Shown) → (Port → Shown) → Type 0
GenerateFronts said then now = TookFrontsOfOne (GenerateWrites said) (generate_ports said) then now

-- what each answer says, where the words are these
abbrev pub GenerateRuns : Generate → Bool → Files → (Port → Shown) → (Port → Shown) → Status → Type 0
GenerateRuns said tells held then now status.Ok = tells ≡ true → GenerateEnds said then now
GenerateRuns said tells held then now (status.File port) = tells ≡ true → GenerateFronts said then now
GenerateRuns said tells held then now status.Memory = tells ≡ true → GenerateFronts said then now
GenerateRuns said tells held then now _ = ⊥

-- what is asked for, whatever files there are
abbrev pub GenerateWants : Generate → Files → Status → Type 0
GenerateWants said held answer = answer ≡ status.Ok

-- what a call with these words says, whether they are those of `generate` or not
abbrev pub GenerateCall : List (List ℕ) → Bool → Files → (Port → Shown) → (Port → Shown) → Status → Type 0
GenerateCall = CommandCall IsGenerate generate_ports GenerateRuns GenerateWants
