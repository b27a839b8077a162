-- The peers that were searched are those of the draft.
use Rattle.std.proofs.Common.{ℕ, List, length, arith, ap, subst, sym}
use Rattle.std.specs.Prelude.{◌≢◌}
use Rattle.std.specs.List.{All}
use Rattle.sfc_config.proofs.placing.place_peer.Goals as goal

pub returns-then-has_peer : goal.returns-then-has_peer
returns-then-has_peer c =
    let same = ap length c.as_slice.ensures in
    let Others : List (ℕ × ℕ) → Type 0 = λ ps. All (λ q. q.0 ≢ c.args.peer.0) ps in
    (omega (arith, same, c.if-as_slice-ge-PEERS.false), tt, λ new. c.if-has_peer.ensures (subst Others (sym c.as_slice-2.ensures) new))
