-- What was appended in turn, as the text of a stream.
use Rattle.std.proofs.Common.{◌≡◌, ℕ, ◌+◌, ◌<◌, List, ◌++◌, length, append_assoc, Result, Ok, Err, codes, refl, ap, subst, ◌∙◌, arith}
use Rattle.std.proofs.lemmas.List.{length-append}
use Rattle.wire_base.specs.declared.faults.OutOfMemory.{OutOfMemory}
use Rattle.bgp_messages.specs.declared.messages.Message.{Message}
use Rattle.bgp_messages.specs.declared.refusals.Refusal.{Refusal}
use Rattle.wire_base.specs.Numbers.{four}
use Rattle.bgp_messages.specs.Messages.{content, spelling, Fits}
use Rattle.bgp_messages.specs.Refusals.{Told}
use Rattle.bgp_messages.specs.Kept.{Kept}
use Rattle.bgp_messages.specs.Calls.{Gives, Refuses}
use Rattle.text_words.specs.Addresses.{dotted}
use Rattle.bgp_messages.specs.declared.messages.Message.TheVariants as messages
use Rattle.bgp_messages.proofs.MoreReadings.{refused_more}
use Rattle.sfc_texts.specs.declared.bgp_text.Step.{Step}
use Rattle.sfc_texts.specs.declared.bgp_text.Step.TheVariants as steps
use Rattle.sfc_texts.specs.BgpText.{identifier_text, refused_line, bad_update, refusal}
use Rattle.sfc_texts.specs.BgpSteps.{MessageShown, NextShown, Moves, Ends}

-- a label and an identifier behind it
pub identifier_appended : (out labelled all : List ℕ) (id : ℕ) → labelled ≡ out ++ codes " id=" → all ≡ labelled ++ dotted (four id) → all ≡ out ++ identifier_text id
unfolding identifier_text
identifier_appended out labelled all id first last = last ∙ (ap (λ o. o ++ dotted (four id)) first ∙ append_assoc out (codes " id=") (dotted (four id)))

-- a message has 19 bytes before its content
pub spelling_length : (m : Message) → length (spelling m) ≡ 19 + length (content m)
unfolding spelling
spelling_length m = omega arith

-- what a message's lines say of the feed's next answer
pub next_shown : (old new : Kept) (m : Message) (before after : List ℕ) (result : Result Step OutOfMemory) → Gives old new m → MessageShown old.place m before after result
    → NextShown old new before after result
next_shown old new m before after (Ok steps.Message) g lines = record { next = m; gives = g; lines = lines }
next_shown old new m before after (Ok steps.Waits) g lines = absurd lines
next_shown old new m before after (Ok steps.Over) g bad =
    let told = bad.refusal in
    let line = refused_line 3 1 (old.place + 19 + told.inside) in
    let spelled : old.rest ≡ spelling (messages.Update bad.body) ++ new.rest = g.rest ∙ ap (λ (x : Message). spelling x ++ new.rest) bad.is_update in
    record {
      text = line;
      shows = λ left. bad_update old.place bad.body (old.rest ++ left) (new.rest ++ left) line told.inside
          (subst Fits bad.is_update g.fits)
          (ap (λ (b : List ℕ). b ++ left) spelled ∙ append_assoc (spelling (messages.Update bad.body)) new.rest left) told.refused refl;
      appended = told.appended;
    }
next_shown old new m before after (Err fault) g lines = tt

-- the refusal was shown
pub refusal_shown : (old new : Kept) (r : Refusal) (before after : List ℕ) → Refuses old new r → after ≡ before ++ refused_line r.code r.subcode r.place → Ends old before after
refusal_shown old new r before after f e =
    let row = f.here.row in
    let line = refused_line row.code row.subcode (old.place + row.place) in
    record {
      text = line;
      shows = λ left. refusal old.place (old.rest ++ left) line row (refused_more old.rest left row f.here.here) refl;
      appended = e ∙ ap (λ (t : Told). before ++ refused_line t.code t.subcode t.place) f.here.told;
    }

-- a message makes the rest shorter
pub shorter : (old new : Kept) (before after : List ℕ) → Moves old new before after → length new.rest < length old.rest
shorter old new before after moves =
    omega (arith, ap length moves.gives.rest, length-append (spelling moves.next) new.rest, spelling_length moves.next)
