-- The whole stream is taken at once.
use Rattle.std.proofs.Common.{ℕ, List, [], sym, subst}
use Rattle.sfc_texts.specs.Showings.{Stands}
use Rattle.sfc_texts.proofs.stream_texts.bgp_lines.Goals as goal

pub returns : goal.returns
returns c =
    c.in_ok-finish.ensures c.args.bytes.now []
    (subst (λ (o : List ℕ). Stands c.push.new.self c.args.bytes.now o) (sym c.new-out.ensures) (c.in_ok-push.ensures.history [] [] c.new-lines.ensures.begins))
