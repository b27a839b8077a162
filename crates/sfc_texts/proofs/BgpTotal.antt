-- Every stream of bytes has a text.
use Rattle.std.proofs.Common.{◌≡◌, ℕ, zero, suc, ◌+◌, ◌<◌, List, ◌++◌, length, refl, ap, subst, ◌∙◌, inl, inr, ◌⊎◌, arith}
use Rattle.std.proofs.lemmas.List.Elements.{All-take, All-drop}
use Rattle.std.proofs.Math.Seq.{take-append_seam, drop-append_seam}
use Rattle.wire_base.specs.Numbers.{AreBytes}
use Rattle.bgp_messages.specs.declared.messages.Message.{Message}
use Rattle.bgp_messages.specs.declared.messages.Message.TheVariants as messages
use Rattle.bgp_messages.specs.Messages.{spelling, content, Fits}
use Rattle.bgp_messages.proofs.HeaderLemmas.{shows}
use Rattle.bgp_messages.proofs.TotalReadings.{one_of_three}
use Rattle.bgp_update.specs.Refusals.{Refused as RefusedUpdate}
use Rattle.bgp_update.proofs.TotalReadings.{one_of_two}
use Rattle.sfc_texts.specs.BgpText.{open_line, notification_line, keep_alive_line, update_lines, refused_line, rest_line, ShowsMessage, ShowsFrom, message, bad_update, refusal, rest}

-- a message has lines, or it is an UPDATE whose content is refused
abbrev HasLines : Message → Type 0
HasLines m = ((shown : List ℕ) × ShowsMessage m shown) ⊎ ((body : List ℕ) × (inside : ℕ) × (m ≡ messages.Update body) × RefusedUpdate body inside)

has_lines : (m : Message) → AreBytes (content m) → HasLines m
has_lines (messages.Open o) bytes = inl (open_line o, refl)
has_lines (messages.Update body) bytes =
    elim (one_of_two body bytes) [
      | inl read ↦ inl (update_lines read.0, (read.0, read.1, refl))
      | inr refused ↦ inr (body, refused.0, refl, refused.1)
    ]
has_lines (messages.Notification n) bytes = inl (notification_line n, refl)
has_lines messages.KeepAlive bytes = inl (keep_alive_line, refl)

front_bytes : (xs ys : List ℕ) → AreBytes (xs ++ ys) → AreBytes xs
front_bytes xs ys all = subst AreBytes (take-append_seam xs ys) (All-take (λ b. b < 256) (length xs) (xs ++ ys) all)

behind_bytes : (xs ys : List ℕ) → AreBytes (xs ++ ys) → AreBytes ys
behind_bytes xs ys all = subst AreBytes (drop-append_seam xs ys) (All-drop (λ b. b < 256) (length xs) (xs ++ ys) all)

abbrev HasText : ℕ → List ℕ → Type 0
HasText place stream = (text : List ℕ) × ShowsFrom place stream text

message_text : (place : ℕ) (m : Message) (stream more : List ℕ) → Fits m → stream ≡ spelling m ++ more → HasLines m → HasText (place + length (spelling m)) more → HasText place stream
message_text place m stream more fits e (inl lines) later =
    (lines.0 ++ later.0, message place m stream more lines.0 later.0 (lines.0 ++ later.0) fits e lines.1 later.1 refl)
message_text place m stream more fits e (inr bad) later = (
  refused_line 3 1 (place + 19 + bad.1),
  bad_update place bad.0 stream more (refused_line 3 1 (place + 19 + bad.1)) bad.1
      (subst Fits bad.2 fits) (e ∙ ap (λ (x : Message). spelling x ++ more) bad.2) bad.3 refl,
)

text_within : (n place : ℕ) (stream : List ℕ) → AreBytes stream → length stream < n → HasText place stream
text_within zero place stream all less = absurd (omega (arith, less))
text_within (suc n) place stream all less =
    elim (one_of_three stream all) [
      | inl row ↦ (refused_line row.0.code row.0.subcode (place + row.0.place), refusal place stream (refused_line row.0.code row.0.subcode (place + row.0.place)) row.0 row.1 refl)
      | inr accepted ↦ elim accepted [
        | inl held ↦ (rest_line (length stream), rest place stream (rest_line (length stream)) held refl)
        | inr begins ↦
            let m : Message = begins.0 in
            let more : List ℕ = begins.1 in
            let e : stream ≡ spelling m ++ more = begins.3 in
            let front = shows stream m more begins.2 e in
            let inside : AreBytes (content m) = front_bytes (content m) more (subst AreBytes front.behind (All-drop (λ b. b < 256) 19 stream all)) in
            let behind : AreBytes more = behind_bytes (content m) more (subst AreBytes front.behind (All-drop (λ b. b < 256) 19 stream all)) in
            message_text place m stream more begins.2 e (has_lines m inside) (text_within n (place + length (spelling m)) more behind (omega (arith, less, front.whole)))
      ]
    ]

pub some_text : (stream : List ℕ) → AreBytes stream → HasText 0 stream
some_text stream all = text_within (suc (length stream)) 0 stream all (omega arith)
