-- The first part is finished, and then the others.
use Rattle.std.proofs.Common.{List, ◌∷◌, sym, subst}
use Rattle.std.specs.Prelude.{OnOk}
use Rattle.std.specs.List.{AllZip}
use Rattle.worker_run.specs.declared.parts.Part.{Part}
use Rattle.worker_run.specs.Shares.{Forwarded, SameShape, Worked}
use Rattle.worker_run.proofs.ShareLemmas.{none_forwarded, same_shape, worked_first}
use Rattle.worker_run.proofs.StepLemmas.{on_ok}
use Rattle.worker_run.proofs.thread_rounds.+finish_parts.Goals as goal

pub returns-clause-forwarded : goal.returns-clause-forwarded
returns-clause-forwarded g t c = λ published given table version worked.
    let setup = c.args.setup.now in
    let p = c.in-Some.part.now in
    let ps = c.in-Some.rest.now in
    let q = c.finish.new.self in
    let qs = c.finish_parts.new.parts in
    let x = worked_first setup published given p ps (subst (λ (l : List Part). AllZip (Worked setup published) given l) c.in-Some.ensures.cases.0 worked) in
    let here : Forwarded setup published x.0 q = c.in_ok-finish.ensures.forwarded published x.0 table version x.3 in
    subst (λ (l : List Part). OnOk c.finish_parts.result (AllZip (Forwarded setup published) l (q ∷ qs))) (sym x.2)
    (on_ok c.finish_parts.result (AllZip (Forwarded setup published) x.1 qs) (AllZip (Forwarded setup published) (x.0 ∷ x.1) (q ∷ qs)) (c.finish_parts.ensures.forwarded published x.1 table version x.4) (λ rest. (here, rest)))

pub returns-in_default-clause-forwarded : goal.returns-in_default-clause-forwarded
returns-in_default-clause-forwarded g t c = λ published given table version worked.
    none_forwarded c.args.setup.now published given c.args.parts.now (sym c.in_default.ensures.cases) worked

pub returns-in_err-finish-clause-shape : goal.returns-in_err-finish-clause-shape
returns-in_err-finish-clause-shape g t c =
    subst (λ (l : List Part). AllZip SameShape l (c.finish.new.self ∷ c.in-Some.rest.now)) (sym c.in-Some.ensures.cases.0) (c.finish.ensures.shape, same_shape c.in-Some.rest.now)
