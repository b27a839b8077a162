-- Copies of tables, path by path.
use Rattle.std.proofs.Common.{◌≡◌, ℕ, zero, suc, ◌+◌, ◌<◌, List, [], ◌∷◌, length, take, get_or, ap, arith}
use Rattle.std.proofs.lemmas.Bool.{le-ltb, lt-ltb}
use Rattle.path_selection.specs.declared.changes.Change.TheVariants.{Put}
use Rattle.path_selection.specs.Changes.{changed}
use Rattle.path_selection.specs.Paths.{RisesFrom, ServicePath}
use Rattle.path_selection.proofs.TableLemmas.{rises_over}

-- the next path of a table, put among those before it, comes behind them
pub put_next : (least : ℕ) (xs : List ServicePath) (i : ℕ) (p : ServicePath) → RisesFrom least xs → i < length xs → p ≡ get_or xs i p → changed (take i xs) (Put p) ≡ take (suc i) xs
put_next least [] i p r h e = absurd (omega arith)
put_next least (x ∷ xs) zero p r h e = ap (λ (q : ServicePath). q ∷ []) e
put_next least (x ∷ xs) (suc i) p r h e =
    let less : x.spi < p.spi = omega (arith, rises_over (x.spi + 1) xs r.2 i p (omega arith), ap (λ (q : ServicePath). q.spi) e) in
    rw (lt-ltb x.spi p.spi less, le-ltb p.spi x.spi (omega (arith, less))) (ap (λ (qs : List ServicePath). x ∷ qs) (put_next (x.spi + 1) xs i p r.2 (omega arith) e))
