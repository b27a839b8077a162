-- The rows of a path fall, and its place in the table is at the end.
use Rattle.std.proofs.Common.{◌≡◌, ℕ, ◌+◌, ◌<◌, ◌≤◌, List, [], ◌∷◌, ◌++◌, length, take, get_or, refl, sym, ◌∙◌, ap, arith, map, filter}
use Rattle.std.specs.List.{AllByRecursion}
use Rattle.std.proofs.lemmas.List.{take_more, map-append}
use Rattle.std.proofs.lemmas.List.Elements.{filter-append}
use Rattle.std.proofs.lemmas.Bool.Decides.{nat_tests}
use Rattle.std.proofs.lemmas.Bool.{le-ltb, lt-ltb}
use Rattle.sfp_attribute.specs.declared.sfps.HopPart.{HopPart}
use Rattle.sfp_attribute.specs.declared.sfps.Part.{Part}
use Rattle.sfp_attribute.specs.declared.sfps.Sfp.{Sfp}
use Rattle.sfp_attribute.specs.declared.sfps.Part.TheVariants as part
use Rattle.sfp_attribute.specs.Sfps.{PartFits, FallFrom, sis, SfpFits}
use Rattle.path_selection.specs.Changes.{above, below}
use Rattle.path_selection.specs.Paths.{FallsBelow, ServicePath}
use Rattle.route_selection.specs.declared.candidates.Candidate.{Candidate}
use Rattle.route_selection.specs.Accepted.{PathRoute, firsts}
use Rattle.route_selection.specs.Choices.{candidates, is_named, seat}
use Rattle.route_selection.specs.Selections.{path_rows, path_at}

rows_fall : (usable : List Candidate) (spi top : ℕ) (ps : List Part) → AllByRecursion PartFits ps → FallFrom top (sis ps) → FallsBelow top (path_rows usable spi ps)
rows_fall usable spi top [] a f = tt
rows_fall usable spi top (part.Association kind rd other ∷ ps) a f = rows_fall usable spi top ps a.1 f
rows_fall usable spi top (part.Hop si inside ∷ ps) a f = (f.0, omega (arith, a.0.0), rows_fall usable spi si ps a.1 f.1)
rows_fall usable spi top (part.Other kind body ∷ ps) a f = rows_fall usable spi top ps a.1 f

pub path_falls : (usable : List Candidate) (spi : ℕ) (sfp : Sfp) → SfpFits sfp → FallsBelow 256 (path_rows usable spi sfp.parts)
path_falls usable spi sfp f = rows_fall usable spi 256 sfp.parts f.parts.each f.parts.falls

-- where all paths have smaller identifiers, one more stands behind them
all_below : (spi : ℕ) (table : List ServicePath) → AllByRecursion (λ (path : ServicePath). path.spi < spi) table → (below spi table ≡ table) × (above spi table ≡ [])
all_below spi [] a = (refl, refl)
all_below spi (x ∷ xs) a =
    let rest = all_below spi xs a.1 in
    (grind (arith, nat_tests, rest.0, a.0), grind (arith, nat_tests, rest.1, a.0))

pub put_behind : (path : ServicePath) (table : List ServicePath) → AllByRecursion (λ (other : ServicePath). other.spi < path.spi) table → below path.spi table ++ path ∷ above path.spi table ≡ table ++ path ∷ []
put_behind path table a =
    let both = all_below path.spi table a in
    rw (both.0, both.1) refl

pub all_less : (less least : ℕ) (table : List ServicePath) → less ≤ least → AllByRecursion (λ (path : ServicePath). path.spi < less) table → AllByRecursion (λ (path : ServicePath). path.spi < least) table
all_less less least [] le a = tt
all_less less least (x ∷ xs) le a = (omega (arith, le, a.0), all_less less least xs le a.1)

pub all_then : (P : ServicePath → Type 0) (table : List ServicePath) (path : ServicePath) → AllByRecursion P table → P path → AllByRecursion P (table ++ path ∷ [])
all_then P [] path a p = (p, tt)
all_then P (x ∷ xs) path a p = (a.0, all_then P xs path a.1 p)

-- a path route of an SPI below the least is passed over, and another one gives a path
pub firsts_skip : (least : ℕ) (p : PathRoute) (rest : List PathRoute) → p.spi < least → firsts least (p ∷ rest) ≡ firsts least rest
firsts_skip least p rest lt = rw (lt-ltb p.spi least lt) refl

pub firsts_take : (least : ℕ) (p : PathRoute) (rest : List PathRoute) → least ≤ p.spi → firsts least (p ∷ rest) ≡ p ∷ firsts (p.spi + 1) rest
firsts_take least p rest le = rw (le-ltb p.spi least le) refl

append_assoc : (xs : List ServicePath) (y : ServicePath) (zs : List ServicePath) → (xs ++ y ∷ []) ++ zs ≡ xs ++ y ∷ zs
append_assoc [] y zs = refl
append_assoc (x ∷ xs) y zs = ap (λ (l : List ServicePath). x ∷ l) (append_assoc xs y zs)

pub paths_take : (usable : List Candidate) (least : ℕ) (p : PathRoute) (rest : List PathRoute) (old : List ServicePath) → least ≤ p.spi → (old ++ path_at usable p ∷ []) ++ map (path_at usable) (firsts (p.spi + 1) rest) ≡ old ++ map (path_at usable) (firsts least (p ∷ rest))
paths_take usable least p rest old le =
    append_assoc old (path_at usable p) (map (path_at usable) (firsts (p.spi + 1) rest)) ∙ ap (λ (l : List PathRoute). old ++ map (path_at usable) l) (sym (firsts_take least p rest le))

-- the seats of one candidate more
pub seats_more : (inside : List HopPart) (usable : List Candidate) (i : ℕ) (c : Candidate) → i < length usable → c ≡ get_or usable i c → map seat (candidates (take (i + 1) usable) inside) ≡ map seat (candidates (take i usable) inside) ++ map seat (candidates (c ∷ []) inside)
seats_more inside usable i c lt is =
    let more : take (i + 1) usable ≡ take i usable ++ c ∷ [] = take_more usable i c lt ∙ ap (λ (x : Candidate). take i usable ++ x ∷ []) (sym is) in
    ap (λ (l : List Candidate). map seat (candidates l inside)) more
    ∙ ap (λ (l : List Candidate). map seat l) (filter-append (is_named inside) (take i usable) (c ∷ []))
    ∙ map-append seat (filter (is_named inside) (take i usable)) (filter (is_named inside) (c ∷ []))
