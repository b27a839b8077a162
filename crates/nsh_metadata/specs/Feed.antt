-- A header that comes in pieces: what a feed keeps, what it answers, and what it stands for.
use Rattle.std.specs.Prelude.{◌≡◌, ℕ, ◌+◌, ◌≤◌, ◌⊎◌, List, [], ◌∷◌, ◌++◌, length, take, drop}
use Rattle.nsh_headers.specs.declared.faults.NshFault.{NshFault}
use Rattle.nsh_metadata.specs.Header.{Header, BeginsWith}
use Rattle.nsh_metadata.specs.Kept.{Kept, waiting, stopped}
use Rattle.nsh_metadata.specs.Refusal.{Breaks, Held}
use Rattle.nsh_metadata.specs.declared.feeds.NshStep.{NshStep}
use Rattle.nsh_metadata.specs.declared.feeds.NshStep.TheVariants.{More, Whole, Fault}

-- The answer to a piece: of these bytes, those kept before it and those of the piece, `before` were kept.
abbrev pub Answers : List ℕ → ℕ → NshStep → Type 0
Answers bytes before More = Held bytes
Answers bytes before (Whole h n) = BeginsWith bytes h (before + n)
Answers bytes before (Fault f) = Breaks bytes f

-- what is kept after that answer: the bytes, nothing, or the refusal
abbrev pub kept_after : List ℕ → NshStep → Kept
kept_after bytes More = waiting bytes
kept_after bytes (Whole h n) = waiting []
kept_after bytes (Fault f) = stopped f

-- the bytes are the spellings of the headers, in order, and a tail
abbrev pub Cuts : List ℕ → List Header → List ℕ → Type 0
Cuts bytes [] tail = bytes ≡ tail
Cuts bytes (h ∷ hs) tail = (n : ℕ) × BeginsWith bytes h n × Cuts (drop n bytes) hs tail

-- The feed took these bytes and gave these headers. Behind them it waits on the tail, or has refused it.
pub record Stands (feed : Kept) (taken : List ℕ) (given : List Header) : Type 0 where
  pub tail : List ℕ
  pub cut : Cuts taken given tail
  pub state : (Held tail × (feed ≡ waiting tail)) ⊎ ((f : NshFault) × Breaks tail f × (feed ≡ stopped f))

-- what the feed stands for after an answer: of the piece all is taken, or what completed the header
abbrev pub Next : Kept → List ℕ → List ℕ → List Header → NshStep → Type 0
Next new taken piece given More = Stands new (taken ++ piece) given
Next new taken piece given (Whole h n) = (n ≤ length piece) × Stands new (taken ++ take n piece) (given ++ h ∷ [])
Next new taken piece given (Fault f) = Stands new (taken ++ piece) given
