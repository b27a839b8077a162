-- Each message that the feed gives is one more of the stream, and where it gives none the stream is cut.
use Rattle.std.proofs.Common.{◌≡◌, ◌++◌, List, [], ◌∷◌, subst, sym, ap, ◌∙◌, append_assoc, arith}
use Rattle.bgp_messages.specs.declared.messages.Message.{Message}
use Rattle.bgp_messages.specs.Kept.{Kept}
use Rattle.bgp_messages.specs.Calls.{Gives, Waits}
use Rattle.bgp_messages.specs.Streams.{Stands, NotYet, IsBad}
use Rattle.session_machine.specs.Feeds.{Follows}
use Rattle.session_machine.proofs.readings.read_all.Goals as goal

pub messages-preserved : goal.messages-preserved
messages-preserved c = record {
  history = λ taken given f.
      let here : Follows c.messages.feed taken (given ++ c.messages.messages) = c.messages.invariant.history taken given f in
      let first : Gives c.messages.feed c.next.new.self c.in-Ok-Some.message = rw c.in-Ok-Some.field-0-is at (c.in-Ok-Some.ensures.first here.goes_on) in
      let next : Stands c.next.new.self taken ((given ++ c.messages.messages) ++ c.in-Ok-Some.message ∷ []) = rw c.in-Ok-Some.field-0-is at (c.in-Ok-Some.ensures.history taken (given ++ c.messages.messages) here.stands) in
      let pushed : c.push.new.self ≡ c.messages.messages ++ c.in-Ok-Some.message ∷ [] = c.in_ok-push-in-Ok-Some.ensures.ok in
      let all : (given ++ c.messages.messages) ++ c.in-Ok-Some.message ∷ [] ≡ given ++ c.push.new.self = append_assoc given c.messages.messages (c.in-Ok-Some.message ∷ []) ∙ ap (λ (ms : List Message). given ++ ms) (sym pushed) in
      subst (λ (ms : List Message). Follows c.next.new.self taken ms) all (record { stands = next; goes_on = first.goes_on });
  count = omega (arith, c.messages.invariant.count, c.in-Ok-Some.ensures.count);
}

pub returns-in-Ok-None-clause-history : goal.returns-in-Ok-None-clause-history
returns-in-Ok-None-clause-history c = λ taken given f.
    let here : Follows c.messages.feed taken (given ++ c.messages.messages) = c.messages.invariant.history taken given f in
    let first : Waits c.messages.feed c.next.new.self = rw c.in-Ok-None.field-0-is at (c.in-Ok-None.ensures.first here.goes_on) in
    let next : NotYet c.next.new.self taken (given ++ c.messages.messages) = rw c.in-Ok-None.field-0-is at (c.in-Ok-None.ensures.history taken (given ++ c.messages.messages) here.stands) in
    record { stands = next.stands; cut = next.cut; behind = (next.held, ap (λ (k : Kept). k.stop) first.same ∙ here.goes_on) }

pub returns-in-Err-Bad-clause-history : goal.returns-in-Err-Bad-clause-history
returns-in-Err-Bad-clause-history c = λ taken given f.
    let here : Follows c.messages.feed taken (given ++ c.messages.messages) = c.messages.invariant.history taken given f in
    let next : IsBad c.next.new.self taken (given ++ c.messages.messages) c.in-Err-Bad.refusal = rw c.in-Err-Bad.field-0-is at (c.in-Err-Bad.ensures.history taken (given ++ c.messages.messages) here.stands) in
    record { stands = next.stands; cut = next.cut; behind = next.here }
