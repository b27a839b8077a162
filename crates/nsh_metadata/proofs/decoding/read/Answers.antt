use Rattle.std.proofs.lemmas.Result.{err_from_is_err_and}
use Rattle.nsh_metadata.proofs.ReadingLemmas.{head_refuses}
use Rattle.nsh_metadata.proofs.decoding.read.Goals as goal

pub returns-in_err-head : goal.returns-in_err-head
returns-in_err-head c =
    let p = err_from_is_err_and c.from_residual.result c.from_residual.ensures.1 in
    rw (p.1, p.2) (head_refuses _ _ c.in_err-head.ensures.refused)
