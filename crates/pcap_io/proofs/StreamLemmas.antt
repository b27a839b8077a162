-- What a feed stands for after each call.
use Rattle.std.proofs.Common.{◌≡◌, ℕ, ◌+◌, ◌≤◌, List, [], ◌∷◌, ◌++◌, length, take, drop, Option, None, Some, Result, Ok, Err, sym, ap, subst, ◌∙◌, append_assoc, refl, arith}
use Rattle.std.proofs.lemmas.List.{append-nil, length-append, length-take, drop-take, length-drop, take-append-drop}
use Rattle.std.proofs.lemmas.List.Concat.{flat_map-append}
use Rattle.std.proofs.Math.Seq.{take-append_seam}
use Rattle.pcap_io.specs.declared.forms.Form.{Form}
use Rattle.pcap_io.specs.declared.frames.Captured.{Captured}
use Rattle.pcap_io.specs.declared.frames.PacketHead.{PacketHead}
use Rattle.pcap_io.specs.declared.reasons.Refusal.{Refusal}
use Rattle.pcap_io.specs.Captures.{IsCapture, IsWithinLimits, packet, packets}
use Rattle.pcap_io.specs.Fronts.{BeginsWith}
use Rattle.pcap_io.specs.Kept.{Kept}
use Rattle.pcap_io.specs.declared.reasons.CaptureReason.{CaptureReason}
use Rattle.pcap_io.specs.Refusals.{told, moved}
use Rattle.pcap_io.specs.Steps.{WholeHead}
use Rattle.pcap_io.specs.Calls.{RefusedAt, RefusedFrom, RefusedIn, HeldIn, Gives, NextIn, Begins, BeginsAt, lent_frame}
use Rattle.pcap_io.specs.Streams.{NotBegun, Begun, StandsIn, Stands, NextLent, Begin}
use Rattle.pcap_io.proofs.ReadingLemmas.{within-push, length-packet}

-- the packet that was passed is the frame's
pub gives_packet : (form : Form) (old new : Kept) (head : PacketHead) → 16 + head.captured ≤ length old.rest → BeginsWith form old.rest head (take head.captured (drop 16 old.rest)) (drop (16 + head.captured) old.rest) → new.lent ≡ take (16 + head.captured) old.rest → new.rest ≡ drop (16 + head.captured) old.rest → new.place ≡ old.place + (16 + head.captured) → new.form ≡ old.form → new.room ≡ old.room → new.failed ≡ old.failed → Gives form old new head
gives_packet form old new head there begins lent rest place same_form same_room same_failed =
    let size : ℕ = 16 + head.captured in
    let body : drop 16 new.lent ≡ take head.captured (drop 16 old.rest) = ap (drop 16) lent ∙ drop-take 16 head.captured old.rest in
    let whole : BeginsWith form old.rest head (drop 16 new.lent) (drop size old.rest) = subst (λ b. BeginsWith form old.rest head b (drop size old.rest)) (sym body) begins in
    let frame : Captured = lent_frame head new in
    let bodied : length (drop 16 new.lent) ≡ head.captured = omega (arith, length-drop 16 new.lent, ap length lent, length-take size old.rest, there) in
    let sized : length (packet form frame) ≡ size = length-packet form frame ∙ ap (λ n. 16 + n) bodied in
    record {
      within = whole.within;
      lent = lent ∙ ap (λ n. take n old.rest) (sym sized) ∙ ap (take (length (packet form frame))) whole.all ∙ take-append_seam (packet form frame) (drop size old.rest);
      rest = whole.all ∙ ap (λ l. packet form frame ++ l) (sym rest);
      place = place ∙ ap (λ n. old.place + n) (sym sized);
      same_form = same_form;
      same_room = same_room;
      same_failed = same_failed;
    }

one_more : (form : Form) (frames : List Captured) (frame : Captured) → packets form (frames ++ frame ∷ []) ≡ packets form frames ++ packet form frame
one_more form frames frame =
    flat_map-append (packet form) frames (frame ∷ []) ∙ ap (λ b. packets form frames ++ b) (append-nil (packet form frame))

-- a capture with one more packet is one of one more frame
one_more_frame : (form : Form) (front : List ℕ) (frames : List Captured) (frame : Captured) → IsWithinLimits frame → IsCapture front form frames → IsCapture (front ++ packet form frame) form (frames ++ frame ∷ [])
one_more_frame form front frames frame fits capture = record {
  head = capture.head;
  is_head = capture.is_head;
  within = within-push frames frame capture.within fits;
  all = ap (λ b. b ++ packet form frame) capture.all ∙ append_assoc capture.head (packets form frames) (packet form frame) ∙ ap (λ b. capture.head ++ b) (sym (one_more form frames frame));
}

gave : (form : Form) (old new : Kept) (taken : List ℕ) (given : List Captured) (head : PacketHead) → Begun form old taken given → Gives form old new head → Begun form new taken (given ++ lent_frame head new ∷ [])
gave form old new taken given head s g =
    let frame : Captured = lent_frame head new in
    record {
      sound = g.same_failed ∙ s.sound;
      front = s.front ++ packet form frame;
      is_capture = one_more_frame form s.front given frame g.within s.is_capture;
      joined = s.joined ∙ ap (λ b. s.front ++ b) g.rest ∙ sym (append_assoc s.front (packet form frame) new.rest);
      used = g.place ∙ ap (λ n. n + length (packet form frame)) s.used ∙ sym (length-append s.front (packet form frame));
    }

pub next_stands : (form : Form) (old new : Kept) (result : Result (Option PacketHead) Refusal) (taken : List ℕ) (given : List Captured) → old.form ≡ Some form → NextIn form old new result → Stands old taken given → NextLent result new taken given
next_stands form old new (Ok (Some head)) taken given is g s =
    subst (λ f. StandsIn f new taken (given ++ lent_frame head new ∷ [])) (sym (g.same_form ∙ is))
    (gave form old new taken given head (subst (λ f. StandsIn f old taken given) is s) g)
next_stands form old new (Ok None) taken given is h s =
    let here : HeldIn old.form old.rest = subst (λ f. HeldIn f old.rest) (sym is) h.0 in
    subst (λ feed. Stands feed taken given × HeldIn feed.form feed.rest) (sym h.1) (s, here)
next_stands form old new (Err r) taken given is h s =
    subst (λ feed. Stands feed taken given × RefusedAt feed r) (sym h.1) (s, h.0)

-- the header that was passed is used
pub began : (form : Form) (old new : Kept) (taken : List ℕ) (given : List Captured) → NotBegun old taken given → Begins old new form → Begun form new taken given
began form old new taken given s b = record {
  sound = b.same_failed ∙ s.sound;
  front = b.head;
  is_capture = subst (λ l. IsCapture b.head form l) (sym s.nothing) (record { head = b.head; is_head = b.is_head; within = tt; all = sym (append-nil b.head) });
  joined = s.joined ∙ b.rest;
  used = let p = b.place in let z = s.used in omega (arith, p, z);
}

-- what is refused at the front is refused at the place
pub refused_here : (form known : Option Form) (rest : List ℕ) (place at : ℕ) (reason : CaptureReason) → form ≡ known → RefusedIn known rest (told at reason) → RefusedFrom form rest place (moved place (told at reason))
refused_here form known rest place at reason is here = record {
  row = told at reason;
  here = subst (λ f. RefusedIn f rest (told at reason)) (sym is) here;
  told = refl;
}

-- the header that was passed is the first 24 bytes
pub begins_head : (form : Form) (old new : Kept) → WholeHead form old.rest → new.rest ≡ drop 24 old.rest → new.place ≡ old.place + 24 → new.form ≡ Some form → new.room ≡ old.room → new.failed ≡ old.failed → Begins old new form
begins_head form old new whole rest place is room failed = record {
  head = take 24 old.rest;
  is_head = whole.head;
  rest = sym (take-append-drop 24 old.rest) ∙ ap (λ l. take 24 old.rest ++ l) (sym rest);
  place = place ∙ ap (λ n. old.place + n) (sym whole.head.len);
  form_is = is;
  same_room = room;
  same_failed = failed;
}

pub begin_stands : (old new : Kept) (result : Result (Option Form) Refusal) (taken : List ℕ) (given : List Captured) → old.form ≡ None → BeginsAt None old new result → Stands old taken given → Begin result new taken given
begin_stands old new (Ok (Some form)) taken given is b s =
    (subst (λ f. StandsIn f new taken given) (sym b.form_is) (began form old new taken given (subst (λ f. StandsIn f old taken given) is s) b), b.form_is)
begin_stands old new (Ok None) taken given is h s =
    let here : HeldIn old.form old.rest = subst (λ f. HeldIn f old.rest) (sym is) h.0 in
    subst (λ feed. Stands feed taken given × HeldIn feed.form feed.rest) (sym h.1) (s, here)
begin_stands old new (Err r) taken given is h s =
    subst (λ feed. Stands feed taken given × RefusedAt feed r) (sym h.1) (s, h.0)

-- more bytes behind the rest are more bytes taken
pub stands_more : (form : Option Form) (old new : Kept) (taken more : List ℕ) (given : List Captured) → new.rest ≡ old.rest ++ more → new.place ≡ old.place → new.failed ≡ old.failed → StandsIn form old taken given → StandsIn form new (taken ++ more) given
stands_more None old new taken more given rest place failed s = record {
  sound = failed ∙ s.sound;
  nothing = s.nothing;
  joined = ap (λ l. l ++ more) s.joined ∙ sym rest;
  used = place ∙ s.used;
}
stands_more (Some form) old new taken more given rest place failed s = record {
  sound = failed ∙ s.sound;
  front = s.front;
  is_capture = s.is_capture;
  joined = ap (λ l. l ++ more) s.joined ∙ append_assoc s.front old.rest more ∙ ap (λ l. s.front ++ l) (sym rest);
  used = place ∙ s.used;
}

pub stands_same : (form : Option Form) (old new : Kept) (taken : List ℕ) (given : List Captured) → new.rest ≡ old.rest → new.place ≡ old.place → new.failed ≡ old.failed → StandsIn form old taken given → StandsIn form new taken given
stands_same None old new taken given rest place failed s = record { sound = failed ∙ s.sound; nothing = s.nothing; joined = s.joined ∙ sym rest; used = place ∙ s.used }
stands_same (Some form) old new taken given rest place failed s = record {
  sound = failed ∙ s.sound;
  front = s.front;
  is_capture = s.is_capture;
  joined = s.joined ∙ ap (λ l. s.front ++ l) (sym rest);
  used = place ∙ s.used;
}
