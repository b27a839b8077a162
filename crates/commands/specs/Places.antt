-- The ports of a command, in the order of its row, and what a call left of each: bound once under its word, or not at all.
use Rattle.std.specs.Prelude.{◌≡◌, ◌⊎◌, ℕ, Bool, true, List, [], ◌∷◌}
use Rattle.sfc_desk.specs.declared.ports.Port.{Port}
use Rattle.sfc_desk.specs.declared.ports.Port.TheVariants.{Report}
use Rattle.sfc_desk.specs.Desks.{Shown, Keeps, raised, name_shown}

-- a port that the command binds under a word, or Report, which is always bound and has no word
pub data Place : Type 0 where
  opens : Port → List ℕ → Place
  reports : Place

-- the row has the port, under this word
abbrev pub HasPort : List Place → Port → List ℕ → Type 0
HasPort [] port word = ⊥
HasPort (opens own name ∷ later) port word = ((port ≡ own) × (word ≡ name)) ⊎ HasPort later port word
HasPort (reports ∷ later) port word = ((port ≡ Report) × (word ≡ [])) ⊎ HasPort later port word

-- no port stands twice in the row
abbrev pub IsRow : List Place → Type 0
IsRow [] = Unit {0}
IsRow (opens port name ∷ later) = ((other : List ℕ) → HasPort later port other → ⊥) × IsRow later
IsRow (reports ∷ later) = ((other : List ℕ) → HasPort later Report other → ⊥) × IsRow later

-- no port changed that the row does not have
abbrev pub OnlyPlaced : List Place → (Port → Shown) → (Port → Shown) → Type 0
OnlyPlaced row then now = (port : Port) → ((name : List ℕ) → HasPort row port name → ⊥) → now port ≡ then port

-- one bind of the call answered Ok, under this name
pub record IsOpened (tells : Bool) (name : List ℕ) (then now : Shown) : Type 0 where
  pub once : now.binds ≡ raised then.binds
  pub named : tells ≡ true → now.name ≡ name_shown name

-- no bind of the call answered Ok, and the port keeps what it had
pub record IsUnopened (tells : Bool) (then now : Shown) : Type 0 where
  pub never : now.binds ≡ then.binds
  pub kept : tells ≡ true → Keeps then now

-- each port of the row is as it was
abbrev pub AreUntouched : List Place → (Port → Shown) → (Port → Shown) → Type 0
AreUntouched [] then now = Unit {0}
AreUntouched (opens port name ∷ later) then now = (now port ≡ then port) × AreUntouched later then now
AreUntouched (reports ∷ later) then now = (now Report ≡ then Report) × AreUntouched later then now

-- each port of the row was bound once, under its word
abbrev pub OpensAll : List Place → Bool → (Port → Shown) → (Port → Shown) → Type 0
OpensAll [] tells then now = Unit {0}
OpensAll (opens port name ∷ later) tells then now = IsOpened tells name (then port) (now port) × OpensAll later tells then now
OpensAll (reports ∷ later) tells then now = OpensAll later tells then now

-- the ports of the row were bound in their order, each once and under its word, up to one that was not; behind that
-- one every port is as it was
abbrev pub OpensInOrder : List Place → Bool → (Port → Shown) → (Port → Shown) → Type 0
OpensInOrder [] tells then now = Unit {0}
OpensInOrder (opens port name ∷ later) tells then now =
    (IsOpened tells name (then port) (now port) × OpensInOrder later tells then now)
    ⊎ (IsUnopened tells (then port) (now port) × AreUntouched later then now)
OpensInOrder (reports ∷ later) tells then now = OpensInOrder later tells then now
