-- What a reader of words answers, in one form for all: the value that a word spells, or that it spells none.
use Rattle.std.specs.Prelude.{◌≡◌, ◌≢◌, List, ◌∷◌, Option, Some, None}

-- a value that fits and that the word spells; none exactly where the word spells no value that fits
abbrev pub Reads : {V W : Type 0} → (V → Type 0) → (V → W) → W → Option V → Type 0
Reads {V} fits spelling word None = (v : V) → fits v → word ≢ spelling v
Reads fits spelling word (Some v) = fits v × (word ≡ spelling v)

-- the same of the first of some words, where those behind it are left
abbrev pub ReadsFirst : {V W : Type 0} → (V → Type 0) → (V → W) → List W → Option V → List W → Type 0
ReadsFirst {V} {W} fits spelling words None rest = (v : V) (others : List W) → fits v → words ≢ spelling v ∷ others
ReadsFirst fits spelling words (Some v) rest = fits v × (words ≡ spelling v ∷ rest)
