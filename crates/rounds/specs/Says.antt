-- What may be said of rounds, where it is known what may be said of one: on one thread, on many, or by an audit.
use Rattle.std.specs.Prelude.{◌≡◌, List, [], ◌∷◌, ◌++◌}
use Rattle.control_files.specs.declared.segments.Segment.{Segment}
use Rattle.rounds.specs.Rounds.{Round}

-- these may be said of the round's frames, behind a history of segments
abbrev pub Says : Type 0 → Type 1
Says R = List Segment → Round → List R → Type 0

-- what is said of rounds, each as its round may be said
abbrev pub Lines : {R : Type 0} → Says R → List Segment → List Round → List R → Type 0
Lines says history [] lines = lines ≡ []
Lines {R} says history (r ∷ rs) lines = (here : List R) × (rest : List R) × (lines ≡ here ++ rest) × says history r here × Lines says (history ++ r.segments) rs rest

-- what fits of a history also fits of its front, and of each round behind a history that fits something may be said
pub record IsSayable {R : Type 0} (says : Says R) (Fits : List Segment → Type 0) : Type 0 where
  pub front : (xs ys : List Segment) → Fits (xs ++ ys) → Fits xs
  pub some : (history : List Segment) (r : Round) → Fits (history ++ r.segments) → (here : List R) × says history r here

-- of each round behind a history that fits one thing may be said at most
abbrev pub IsOne : {R : Type 0} → Says R → (List Segment → Type 0) → Type 0
IsOne {R} says Fits = (history : List Segment) (r : Round) (here other : List R) → Fits (history ++ r.segments) → says history r here → says history r other → here ≡ other
