-- What the table of a static path says of an index, and that it says nothing else.
use Rattle.std.proofs.Common.{◌≡◌, ◌<◌, ◌≤◌, ℕ, zero, suc, ◌+◌, ◌-◌, length, get_or, refl, sym, ap, ◌∙◌, arith, subst}
use Rattle.std.specs.List.{All, Contains}
use Rattle.path_selection.specs.declared.answers.Answer.TheVariants.{Ended, At}
use Rattle.path_selection.specs.declared.hops.HopRow.{HopRow}
use Rattle.path_selection.specs.Paths.{ServicePath}
use Rattle.path_selection.specs.Answers.{HasPath, IsAnswer}
use Rattle.static_walks.specs.Walks.{here, static_row, static_rows, static_table}

-- there are as many hops
pub length-static_rows : (k more : ℕ) → length (static_rows k more) ≡ more
length-static_rows k zero = refl
length-static_rows k (suc more) = let rest = length-static_rows (suc k) more in omega (arith, rest)

-- each in its place
pub static_rows-at : (k more i : ℕ) (d : HopRow) → i < more → get_or (static_rows k more) i d ≡ static_row (k + i)
static_rows-at k zero i d below = absurd (omega (arith, below))
static_rows-at k (suc more) zero d below = ap static_row (omega arith)
static_rows-at k (suc more) (suc i) d below = static_rows-at (suc k) more i d (omega (arith, below)) ∙ ap static_row (omega arith)

-- the path of the static table
abbrev pub static_path : ℕ → ℕ → ServicePath
static_path spi count = record { spi = spi; rows = static_rows 0 count }

pub has_static : (spi count : ℕ) → HasPath (static_table spi count) spi (static_path spi count)
has_static spi count = record { there = (0, omega arith, refl); named = refl }

-- hop k is there
row_there : (count k : ℕ) → k < count → Contains (static_rows 0 count) (static_row k)
row_there count k below =
    let len = length-static_rows 0 count in
    (k, omega (arith, len, below), static_rows-at 0 count k (static_row k) below ∙ ap static_row (omega arith))

-- what holds of each hop holds of the rows
all_rows : (P : HopRow → Type 0) (count : ℕ) → ((k : ℕ) → k < count → P (static_row k)) → All P (static_rows 0 count)
all_rows P count each = λ k d below.
    let k_below : k < count = let len = length-static_rows 0 count in omega (arith, len, below) in
    subst P (sym (static_rows-at 0 count k d k_below ∙ ap static_row (let e : 0 + k ≡ k = omega arith in e))) (each k k_below)

-- the hop of an index serves it
pub says_at : (spi count si : ℕ) → si ≤ 255 → 256 ≤ si + count → IsAnswer (static_table spi count) spi si (At si here (record { 0 = 255 - si }))
says_at spi count si small enough =
    let place : 255 - (255 - si) ≡ si = omega (arith, small) in (
      static_row (255 - si),
      (
        static_path spi count,
        has_static spi count,
        record {
          there = row_there count (255 - si) (omega (arith, small, enough));
          not_above = omega (arith, small);
          greatest = all_rows (λ other. other.si ≤ si → other.si ≤ 255 - (255 - si)) count (λ k _. λ not_above. omega (arith, not_above, place));
        },
      ),
      place,
      refl,
    )

-- below the last hop the path has ended
pub says_ended : (spi count si : ℕ) → count ≤ 255 → si + count < 256 → IsAnswer (static_table spi count) spi si Ended
says_ended spi count si few low =
    (static_path spi count, has_static spi count, all_rows (λ row. si < row.si) count (λ k below. omega (arith, few, low, below)))
