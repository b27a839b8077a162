-- The roster's targets are those that the search saw.
use Rattle.std.proofs.Common.{◌≡◌, ◌∙◌, ap, length, arith}
use Rattle.std.proofs.lemmas.Bool.Decides.{nat_tests}
use Rattle.sfc_routes.specs.Entries.{Entries}
use Rattle.sfc_routes.proofs.RosterLemmas.{takes_by_target}
use Rattle.sfc_routes.proofs.rosters.Roster.accepts.Goals as goal

pub returns : goal.returns
returns c =
    let seen = c.as_slice-own.ensures ∙ ap (λ (r : Entries). r.targets) c.self.view_is in
    let some : length c.as_slice-own.result.now ≡ 0 → ⊥ = λ none. let is = c.if-is_empty.ensures in grind (arith, nat_tests, is, none) in
    takes_by_target c.args.self.now c.as_slice-own.result.now c.args.targets.now c.as_slice.result.now c.any_among.result seen c.as_slice.ensures some c.any_among.ensures
