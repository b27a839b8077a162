-- A stream is shown by one text.
use Rattle.std.proofs.Common.{◌≡◌, ℕ, ◌+◌, List, [], ◌++◌, length, sym, ap, subst, ◌∙◌}
use Rattle.bgp_messages.specs.declared.messages.Message.{Message}
use Rattle.bgp_messages.specs.declared.messages.Message.TheVariants as messages
use Rattle.bgp_messages.specs.Messages.{spelling, Fits}
use Rattle.bgp_messages.specs.Refusals.{Told}
use Rattle.bgp_update.specs.Refusals.{Refused as RefusedUpdate}
use Rattle.bgp_messages.proofs.MessageReadings as stream
use Rattle.bgp_update.proofs.UpdateReadings as update
use Rattle.sfc_texts.specs.BgpText.{update_lines, ShowsMessage, refused_line, ShowsFrom, message, bad_update, refusal, rest}

-- a message is shown by one text
one_shown : (m : Message) (s t : List ℕ) → ShowsMessage m s → ShowsMessage m t → s ≡ t
one_shown (messages.Open o) s t a b = a ∙ sym b
one_shown (messages.Update body) s t a b = a.2 ∙ ap update_lines (update.one_update body a.0 b.0 a.1 b.1) ∙ sym b.2
one_shown (messages.Notification n) s t a b = a ∙ sym b
one_shown messages.KeepAlive s t a b = a ∙ sym b

abbrev update_is : Message → List ℕ → List ℕ
update_is (messages.Update body) other = body
update_is m other = other

same_body : (body other : List ℕ) → messages.Update body ≡ messages.Update other → body ≡ other
same_body body other e = ap (λ (m : Message). update_is m []) e

-- an UPDATE is shown and refused by no content
shown_and_refused : (m : Message) (body : List ℕ) (shown : List ℕ) (inside : ℕ) → m ≡ messages.Update body → ShowsMessage m shown → RefusedUpdate body inside → ⊥
shown_and_refused m body shown inside e shows refused =
    let here : ShowsMessage (messages.Update body) shown = subst (λ (x : Message). ShowsMessage x shown) e shows in
    update.never_both body here.0 inside here.1 refused

pub one_text : (place : ℕ) (bytes s t : List ℕ) → ShowsFrom place bytes s → ShowsFrom place bytes t → s ≡ t
one_text place bytes s t (message _ m _ more shown later _ fm em sm lm is) (message _ n _ more' shown' later' _ fn en sn ln is') =
    let one = stream.one_message m n more more' fm fn (sym em ∙ en) in
    let shown_is : shown ≡ shown' = one_shown n shown shown' (subst (λ (x : Message). ShowsMessage x shown) one.0 sm) sn in
    let moved : ShowsFrom (place + length (spelling n)) more' later = subst (λ (x : Message). ShowsFrom (place + length (spelling x)) more' later) one.0 (subst (λ (l : List ℕ). ShowsFrom (place + length (spelling m)) l later) one.1 lm) in
    let later_is : later ≡ later' = one_text (place + length (spelling n)) more' later later' moved ln in
    is ∙ ap (λ (l : List ℕ). l ++ later) shown_is ∙ ap (λ (l : List ℕ). shown' ++ l) later_is ∙ sym is'
one_text place bytes s t (message _ m _ more shown later _ fm em sm lm is) (bad_update _ body _ more' _ inside fb eb rb is') =
    absurd (shown_and_refused m body shown inside (stream.one_message m (messages.Update body) more more' fm fb (sym em ∙ eb)).0 sm rb)
one_text place bytes s t (message _ m _ more shown later _ fm em sm lm is) (refusal _ _ _ told r is') = absurd (stream.never_both bytes told r m more fm em)
one_text place bytes s t (message _ m _ more shown later _ fm em sm lm is) (rest _ _ _ held is') = absurd (held.unfinished m more fm em)
one_text place bytes s t (bad_update _ body _ more _ inside fb eb rb is) (message _ m _ more' shown later _ fm em sm lm is') =
    absurd (shown_and_refused m body shown inside (stream.one_message m (messages.Update body) more' more fm fb (sym em ∙ eb)).0 sm rb)
one_text place bytes s t (bad_update _ body _ more _ inside fb eb rb is) (bad_update _ body' _ more' _ inside' fb' eb' rb' is') =
    let bodies : body ≡ body' = same_body body body' (stream.one_message (messages.Update body) (messages.Update body') more more' fb fb' (sym eb ∙ eb')).0 in
    let places : inside ≡ inside' = update.one_refusal body' inside inside' (subst (λ (l : List ℕ). RefusedUpdate l inside) bodies rb) rb' in
    is ∙ ap (λ (n : ℕ). refused_line 3 1 (place + 19 + n)) places ∙ sym is'
one_text place bytes s t (bad_update _ body _ more _ inside fb eb rb is) (refusal _ _ _ told r is') = absurd (stream.never_both bytes told r (messages.Update body) more fb eb)
one_text place bytes s t (bad_update _ body _ more _ inside fb eb rb is) (rest _ _ _ held is') = absurd (held.unfinished (messages.Update body) more fb eb)
one_text place bytes s t (refusal _ _ _ told r is) (message _ m _ more shown later _ fm em sm lm is') = absurd (stream.never_both bytes told r m more fm em)
one_text place bytes s t (refusal _ _ _ told r is) (bad_update _ body _ more _ inside fb eb rb is') = absurd (stream.never_both bytes told r (messages.Update body) more fb eb)
one_text place bytes s t (refusal _ _ _ told r is) (refusal _ _ _ told' r' is') = is ∙ ap (λ (x : Told). refused_line x.code x.subcode (place + x.place)) (stream.one_refusal bytes told told' r r') ∙ sym is'
one_text place bytes s t (refusal _ _ _ told r is) (rest _ _ _ held is') = absurd (held.accepted told r)
one_text place bytes s t (rest _ _ _ held is) (message _ m _ more shown later _ fm em sm lm is') = absurd (held.unfinished m more fm em)
one_text place bytes s t (rest _ _ _ held is) (bad_update _ body _ more _ inside fb eb rb is') = absurd (held.unfinished (messages.Update body) more fb eb)
one_text place bytes s t (rest _ _ _ held is) (refusal _ _ _ told r is') = absurd (held.accepted told r)
one_text place bytes s t (rest _ _ _ held is) (rest _ _ _ held' is') = is ∙ sym is'

-- what shows a stream that begins with a message that is shown so is these lines, and then what shows the rest
pub behind_message : (place : ℕ) (m : Message) (bytes more shown text : List ℕ) → Fits m → bytes ≡ spelling m ++ more → ShowsMessage m shown → ShowsFrom place bytes text
    → (later : List ℕ) × (text ≡ shown ++ later) × ShowsFrom (place + length (spelling m)) more later
behind_message place m bytes more shown text fm em sm (message _ n _ more' shown' later _ fn en sn ln is) =
    let one = stream.one_message m n more more' fm fn (sym em ∙ en) in
    let shown_is : shown ≡ shown' = one_shown n shown shown' (subst (λ (x : Message). ShowsMessage x shown) one.0 sm) sn in (
      later,
      is ∙ ap (λ (l : List ℕ). l ++ later) (sym shown_is),
      subst (λ (x : Message). ShowsFrom (place + length (spelling x)) more later) (sym one.0) (subst (λ (l : List ℕ). ShowsFrom (place + length (spelling n)) l later) (sym one.1) ln),
    )
behind_message place m bytes more shown text fm em sm (bad_update _ body _ more' _ inside fb eb rb is) =
    absurd (shown_and_refused m body shown inside (stream.one_message m (messages.Update body) more more' fm fb (sym em ∙ eb)).0 sm rb)
behind_message place m bytes more shown text fm em sm (refusal _ _ _ told r is) = absurd (stream.never_both bytes told r m more fm em)
behind_message place m bytes more shown text fm em sm (rest _ _ _ held is) = absurd (held.unfinished m more fm em)
