use Rattle.std.proofs.Common.{◌≡◌, ℕ, ◌+◌, ◌-◌, ◌++◌, length, ap, subst, sym, ◌∙◌, refl, arith, inl, inr, ◌⊎◌, Err}
use Rattle.std.proofs.lemmas.List.{length-take-le}
use Rattle.nsh_headers.specs.declared.faults.NshFault.{NshFault}
use Rattle.nsh_metadata.specs.Kept.{Kept}
use Rattle.nsh_metadata.specs.Header.{BeginsWith}
use Rattle.nsh_metadata.specs.Refusal.{Refused}
use Rattle.nsh_metadata.proofs.FeedLemmas.{Gathered, gathered, gathered_len, all_or_room, piece_whole, piece_more, piece_fault}
use Rattle.nsh_metadata.proofs.feeds.NshFeed.take_piece.Goals as goal
use Rattle.nsh_metadata.proofs.feeds.NshFeed.take_piece.Goals.{After-split_at-2}

-- the bytes that are decoded
collected : (c : After-split_at-2) → Gathered c.args.self.now.rest c.args.piece.now c.split_at-2.result.0.now c.min-more.result
collected c =
    gathered c.self.inside.held c.args.piece.now c.args.self.now.rest c.split_at.result.0.now c.copy_from_slice.new.self c.split_at-2.result.0.now c.self.inside.len c.min-more.result _ _
    (omega arith) (omega arith) (ap (λ (k : Kept). k.rest) c.self.view_is) c.self.invariant.1 c.split_at.ensures.front c.copy_from_slice.ensures.after refl c.split_at-2.ensures.front

kept_len : (c : After-split_at-2) → length c.args.self.now.rest ≡ c.self.inside.len
kept_len c = ap length (sym (ap (λ (k : Kept). k.rest) c.self.view_is)) ∙ length-take-le c.self.inside.len c.self.inside.held (omega arith)

pub returns-in-Ok-clause-answer : goal.returns-in-Ok-clause-answer
returns-in-Ok-clause-answer c =
    let at = (goal.at.returns-in-Ok-clause-answer c).After-split_at-2 in
    subst (λ (n : ℕ). BeginsWith (c.args.self.now.rest ++ c.args.piece.now) c.in-Ok.nsh (length c.args.self.now.rest + (c.in-Ok.size - n))) (kept_len at)
    (piece_whole _ _ _ _ c.in-Ok.nsh c.in-Ok.size (collected at) c.in-Ok.ensures.found).1

pub returns-in-Short-clause-answer : goal.returns-in-Short-clause-answer
returns-in-Short-clause-answer c =
    let at = (goal.at.returns-in-Short-clause-answer c).After-split_at-2 in
    let total = gathered_len _ _ _ _ (collected at) in
    let len = kept_len at in
    let room : c.min-more.result ≡ length c.args.piece.now ⊎ (length c.split_at-2.result.0.now ≡ 252) =
    elim (all_or_room (length c.args.piece.now) (252 - c.self.inside.len) c.min-more.result c.min-more.ensures) [
      | inl all ↦ inl all
      | inr full ↦ inr (omega (arith, full, total, len, c.self.invariant.0))
    ] in
    (piece_more _ _ _ c.min-more.result c.in-Short.field-0 (collected at) room
    (λ long. c.in-Err.ensures.enough c.in-Short.field-0 long (ap Err c.in-Short.is))
    (subst (λ (f : NshFault). Refused c.split_at-2.result.0.now f) c.in-Short.is c.in-Err.ensures.refused)).0

pub returns-in_default : goal.returns-in_default
returns-in_default c =
    let at = (goal.at.returns-in_default c).After-split_at-2 in
    record { answer = piece_fault _ _ _ _ c.in-Err.fault (collected at) c.in_default.not-Short c.in-Err.ensures.refused; kept = refl }
