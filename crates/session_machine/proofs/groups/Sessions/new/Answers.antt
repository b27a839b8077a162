-- No two of the sessions have one peer, since no two of the peers are one.
use Rattle.std.proofs.Common.{◌≡◌, ◌≢◌, ℕ, List, map, subst, sym}
use Rattle.std.specs.List.{AllPairs, Contains}
use Rattle.session_machine.specs.declared.machines.Session.{Session}
use Rattle.session_machine.specs.Peers.{sides_of}
use Rattle.session_machine.proofs.GroupLemmas.{peers_differ, each_has}
use Rattle.session_machine.proofs.groups.Sessions.new.Goals as goal

pub invariant_of-result : goal.invariant_of-result
invariant_of-result c =
    let sides : map (λ (s : Session). s.side) c.in_ok-sessions_with.field-0.items ≡ sides_of c.args.local c.as_slice.result.now = c.in_ok-sessions_with.ensures.sides in
    let apart : AllPairs (λ p q. p.0 ≢ q.0) c.as_slice.result.now = subst (λ (l : List (ℕ × ℕ)). AllPairs (λ p q. p.0 ≢ q.0) l) (sym c.as_slice.ensures) c.requires.differ in
    record { differ = peers_differ c.args.local c.in_ok-sessions_with.field-0.items c.as_slice.result.now sides apart }

pub returns-clause-peers : goal.returns-clause-peers
returns-clause-peers c = λ number is.
    let sides : map (λ (s : Session). s.side) c.in_ok-sessions_with.field-0.items ≡ sides_of c.args.local c.as_slice.result.now = c.in_ok-sessions_with.ensures.sides in
    each_has c.args.local c.in_ok-sessions_with.field-0.items c.as_slice.result.now sides number
    (subst (λ (l : List (ℕ × ℕ)). Contains (map (λ (p : ℕ × ℕ). p.0) l) number) (sym c.as_slice.ensures) is)
