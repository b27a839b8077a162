-- How the frames of a round are dealt to its workers.
use Rattle.std.specs.Prelude.{◌≡◌, ◌⊎◌, ℕ, ◌+◌, List, [], ◌∷◌, length}
use Rattle.std.specs.List.{AllByRecursion, flat_map}
use Rattle.record_text.specs.declared.records.Record.{Record}

-- so many, or one more
abbrev pub IsSize : ℕ → ℕ → Type 0
IsSize size many = (many ≡ size) ⊎ (many ≡ size + 1)

-- the records of one worker's share
pub record IsShare (size worker : ℕ) (share : List Record) : Type 0 where
  pub sized : IsSize size (length share)
  pub own : AllByRecursion (λ r. r.worker ≡ worker) share

-- the shares of workers that are numbered from this number on
abbrev pub AreShares : ℕ → ℕ → List (List Record) → Type 0
AreShares size worker [] = Unit {0}
AreShares size worker (share ∷ shares) = IsShare size worker share × AreShares size (worker + 1) shares

-- The records of a round are those of so many consecutive shares, whose sizes differ by at most 1; each is of the worker of its share.
pub record AreDealt (workers : ℕ) (records : List Record) : Type 0 where
  pub shares : List (List Record)
  pub in_order : records ≡ flat_map (λ share. share) shares
  pub many : length shares ≡ workers
  pub size : ℕ
  pub each : AreShares size 0 shares
