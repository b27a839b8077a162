-- What a call put at the outputs of a command: the bytes of one run, or fronts of them.
use Rattle.std.specs.Prelude.{◌≡◌, ◌⊎◌, ℕ, false, List, [], ◌∷◌, ◌++◌}
use Rattle.sfc_desk.specs.declared.ports.Port.{Port}
use Rattle.sfc_desk.specs.declared.ports.Port.TheVariants.{Report}
use Rattle.sfc_desk.specs.Desks.{Shown, raised}
use Rattle.sfc_desk.specs.Ports.{is_input}
use Rattle.commands.specs.Fronts.{IsFront}
use Rattle.commands.specs.Places.{Place, opens, reports}

-- the bytes that one run puts at each output port
abbrev pub Outputs : Type 0
Outputs = Port → List ℕ

-- the bytes that the call put at an output that it may open: those that stand there, or none where no bind answered Ok,
-- and then what stood there stands there still
abbrev pub PutAt : Shown → Shown → List ℕ → Type 0
PutAt then now part = ((now.binds ≡ raised then.binds) × (now.written ≡ part)) ⊎ ((now.binds ≡ then.binds) × (now.written ≡ then.written) × (part ≡ []))

-- what the call put at each output of the row is so related to the bytes of the run; at Report, it is what stands behind
-- what was there
abbrev pub Puts : (List ℕ → List ℕ → Type 0) → List Place → (Port → Shown) → (Port → Shown) → Outputs → Type 0
Puts IsPart [] then now all = Unit {0}
Puts IsPart (opens port name ∷ later) then now all =
    (is_input port ≡ false → (part : List ℕ) × PutAt (then port) (now port) part × IsPart part (all port)) × Puts IsPart later then now all
Puts IsPart (reports ∷ later) then now all =
    ((part : List ℕ) × ((now Report).written ≡ (then Report).written ++ part) × IsPart part (all Report)) × Puts IsPart later then now all

-- all the bytes
abbrev pub IsAll : List ℕ → List ℕ → Type 0
IsAll part bytes = part ≡ bytes

-- the outputs of the row took the bytes of the run
abbrev pub TookAll : List Place → (Port → Shown) → (Port → Shown) → Outputs → Type 0
TookAll = Puts IsAll

-- each output of the row took a front of its bytes of the run
abbrev pub TookFronts : List Place → (Port → Shown) → (Port → Shown) → Outputs → Type 0
TookFronts = Puts IsFront

-- no byte at any output
abbrev pub none_put : Outputs
none_put port = []

-- what the outputs took are fronts of ONE run that the command writes for its inputs, or nothing
pub data TookFrontsOfOne (Writes : Outputs → Type 0) (row : List Place) (then now : Port → Shown) : Type 0 where
  nothing : TookAll row then now none_put → TookFrontsOfOne Writes row then now
  fronts : (all : Outputs) → Writes all → TookFronts row then now all → TookFrontsOfOne Writes row then now

-- What the outputs took are fronts of EVERY run that the command writes for its inputs, or nothing. It is for a command that
-- stops before it knows how its run would end; it says as much as fronts of one where the inputs have one run.
abbrev pub TookFrontsOfEach : (Outputs → Type 0) → List Place → (Port → Shown) → (Port → Shown) → Type 0
TookFrontsOfEach Writes row then now = TookAll row then now none_put ⊎ ((all : Outputs) → Writes all → TookFronts row then now all)
