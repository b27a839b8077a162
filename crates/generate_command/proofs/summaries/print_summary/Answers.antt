-- The four counts and the line's end stand one behind the other.
use Rattle.std.proofs.Common.{◌≡◌, ℕ, List, [], ◌∷◌, codes, OnOk, subst}
use Rattle.generate_command.specs.Summaries.{labelled}
use Rattle.generate_command.proofs.CountLemmas.{joined}
use Rattle.generate_command.proofs.summaries.print_summary.Goals as goal

pub returns : goal.returns
returns c =
    let s = c.args.summary.now in
    subst (λ (l : List ℕ). OnOk c.push_all.result (c.push_all.new.self ≡ l))
    (joined c.args.out.now (labelled (codes "frames=") s.frames) (labelled (codes " egress=") s.egress) (labelled (codes " dropped=") s.dropped) (labelled (codes " last-version=") s.last_version) (10 ∷ [])
    c.print_count.new.out c.print_count-2.new.out c.print_count-3.new.out c.print_count-4.new.out c.in_ok-print_count.ensures c.in_ok-print_count-2.ensures c.in_ok-print_count-3.ensures c.in_ok-print_count-4.ensures)
    c.push_all.ensures.ok
