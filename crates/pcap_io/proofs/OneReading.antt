-- Two readings of the same bytes are one: a form, the frames, and the end.
use Rattle.std.proofs.Common.{◌≡◌, ℕ, ◌≤◌, ◌<◌, List, [], ◌++◌, length, take, drop, Option, None, Some, refl, sym, ap, subst, ◌∙◌, append_assoc, length-drop, inl, inr, ◌⊎◌, arith}
use Rattle.std.specs.List.{AllByRecursion}
use Rattle.std.proofs.lemmas.List.{append-nil, length-append, take-append-le, drop-append-le}
use Rattle.std.proofs.Math.Seq.{take-append_seam, drop-append_seam}
use Rattle.wire_base.proofs.SplitLemmas.{Reads as OneByOne, one_split, front_split, same_parts}
use Rattle.pcap_io.specs.declared.forms.Form.{Form}
use Rattle.pcap_io.specs.declared.frames.Captured.{Captured}
use Rattle.pcap_io.specs.declared.reasons.Refusal.{Refusal}
use Rattle.pcap_io.specs.Heads.{word, link_of, packet_head_of}
use Rattle.pcap_io.specs.Captures.{IsCapture, IsFileHead, IsWithinLimits, packet, packets}
use Rattle.pcap_io.specs.Refusals.{moved, HasMagic, HasVersion, SaysCaptured, SaysOriginal, RefusedHead, RefusedPacket, BeginsNone}
use Rattle.pcap_io.specs.Calls.{RefusedFrom, RefusedIn, HeldIn}
use Rattle.pcap_io.specs.Reads.{Reads, ReadsFrames, EndsIn, EndsShort}
use Rattle.pcap_io.proofs.HeadLemmas.{length-word}
use Rattle.pcap_io.proofs.ReadingLemmas.{same_packet, too_short, length-packet}
use Rattle.pcap_io.proofs.FileHeadLemmas.{one_form}
use Rattle.pcap_io.proofs.PacketLemmas.{one_captured, one_original}

-- ---- one refusal

pub one_head_refusal : (bytes : List ℕ) (s t : Refusal) → RefusedHead bytes s → RefusedHead bytes t → s ≡ t
one_head_refusal bytes s t (inl a) (inl b) = a.is ∙ sym b.is
one_head_refusal bytes s t (inl a) (inr (inl b)) = absurd (a.none b.form b.magic)
one_head_refusal bytes s t (inl a) (inr (inr b)) = absurd (a.none b.form b.magic)
one_head_refusal bytes s t (inr (inl a)) (inl b) = absurd (b.none a.form a.magic)
one_head_refusal bytes s t (inr (inr a)) (inl b) = absurd (b.none a.form a.magic)
one_head_refusal bytes s t (inr (inl a)) (inr (inl b)) = a.is ∙ sym b.is
one_head_refusal bytes s t (inr (inr a)) (inr (inr b)) = a.is ∙ sym b.is
one_head_refusal bytes s t (inr (inl a)) (inr (inr b)) = absurd (a.other (subst (λ (f : Form). HasVersion f bytes) (one_form bytes a.form b.form a.magic b.magic) b.version))
one_head_refusal bytes s t (inr (inr a)) (inr (inl b)) = absurd (b.other (subst (λ (f : Form). HasVersion f bytes) (one_form bytes b.form a.form b.magic a.magic) a.version))

pub one_packet_refusal : (form : Form) (bytes : List ℕ) (s t : Refusal) → RefusedPacket form bytes s → RefusedPacket form bytes t → s ≡ t
one_packet_refusal form bytes s t (inl a) (inl b) = a.is ∙ sym b.is
one_packet_refusal form bytes s t (inr a) (inr b) = a.is ∙ sym b.is
one_packet_refusal form bytes s t (inl a) (inr b) =
    let same = one_captured form bytes a.captured b.captured a.says b.says in
    let over = a.over in
    let within = b.within in
    absurd (omega (arith, same, over, within))
one_packet_refusal form bytes s t (inr a) (inl b) =
    let same = one_captured form bytes a.captured b.captured a.says b.says in
    let over = b.over in
    let within = a.within in
    absurd (omega (arith, same, over, within))

one_refusal : (form : Option Form) (bytes : List ℕ) (s t : Refusal) → RefusedIn form bytes s → RefusedIn form bytes t → s ≡ t
one_refusal None bytes s t a b = one_head_refusal bytes s t a b
one_refusal (Some form) bytes s t a b = one_packet_refusal form bytes s t a b

-- what is held is not refused
held_not_refused : (form : Option Form) (bytes : List ℕ) (t : Refusal) → HeldIn form bytes → RefusedIn form bytes t → ⊥
held_not_refused None bytes t h r = h.accepted t r
held_not_refused (Some form) bytes t h r = h.accepted t r

-- nothing is not refused behind a header
empty_not_refused : (form : Form) (bytes : List ℕ) (t : Refusal) → bytes ≡ [] → RefusedPacket form bytes t → ⊥
empty_not_refused form bytes t none (inl a) = let h = a.says.there in let e = ap length none in omega (arith, h, e)
empty_not_refused form bytes t none (inr a) = let h = a.says.there in let e = ap length none in omega (arith, h, e)

one_told : (form : Option Form) (rest : List ℕ) (place size : ℕ) (r s : Refusal) → RefusedFrom form rest place r ⊎ EndsShort form rest size r → RefusedFrom form rest place s ⊎ EndsShort form rest size s → r ≡ s
one_told form rest place size r s (inl a) (inl b) = a.told ∙ ap (moved place) (one_refusal form rest a.row b.row a.here b.here) ∙ sym b.told
one_told form rest place size r s (inl a) (inr b) = absurd (held_not_refused form rest a.row b.held a.here)
one_told form rest place size r s (inr a) (inl b) = absurd (held_not_refused form rest b.row a.held b.here)
one_told form rest place size r s (inr a) (inr b) = a.is ∙ sym b.is

empty_no_end : (form : Form) (rest : List ℕ) (place size : ℕ) (r : Refusal) → rest ≡ [] → RefusedFrom (Some form) rest place r ⊎ EndsShort (Some form) rest size r → ⊥
empty_no_end form rest place size r none (inl a) = empty_not_refused form rest a.row none a.here
empty_no_end form rest place size r none (inr a) = a.misses none

one_end : (form : Form) (rest : List ℕ) (place size : ℕ) (stop halt : Option Refusal) → EndsIn (Some form) rest place size stop → EndsIn (Some form) rest place size halt → stop ≡ halt
one_end form rest place size None None a b = refl
one_end form rest place size None (Some r) a b = absurd (empty_no_end form rest place size r a b)
one_end form rest place size (Some r) None a b = absurd (empty_no_end form rest place size r b a)
one_end form rest place size (Some r) (Some s) a b = ap Some (one_told (Some form) rest place size r s a b)

one_end_nothing : (rest : List ℕ) (place size : ℕ) (stop halt : Option Refusal) → EndsIn None rest place size stop → EndsIn None rest place size halt → stop ≡ halt
one_end_nothing rest place size None halt a b = absurd a
one_end_nothing rest place size (Some r) None a b = absurd b
one_end_nothing rest place size (Some r) (Some s) a b = ap Some (one_told None rest place size r s a b)

-- ---- a packet is not refused

packet_as : (form : Form) (s f c o : ℕ) (body : List ℕ) → packet_head_of form s f c o ++ body ≡ (word form s ++ word form f) ++ (word form c ++ (word form o ++ body))
packet_as form s f c o body =
    append_assoc ((word form s ++ word form f) ++ word form c) (word form o) body
    ∙ append_assoc (word form s ++ word form f) (word form c) (word form o ++ body)

packet_as_too : (form : Form) (s f c o : ℕ) (body : List ℕ) → packet_head_of form s f c o ++ body ≡ ((word form s ++ word form f) ++ word form c) ++ (word form o ++ body)
packet_as_too form s f c o body = append_assoc ((word form s ++ word form f) ++ word form c) (word form o) body

field_at : (form : Form) (front body : List ℕ) (at n : ℕ) → length front ≡ at → take 4 (drop at (front ++ (word form n ++ body))) ≡ word form n
field_at form front body at n is =
    ap (λ k. take 4 (drop k (front ++ (word form n ++ body)))) (sym is)
    ∙ ap (take 4) (drop-append_seam front (word form n ++ body))
    ∙ ap (λ k. take k (word form n ++ body)) (sym (length-word form n))
    ∙ take-append_seam (word form n) body

length_two : (form : Form) (s f : ℕ) → length (word form s ++ word form f) ≡ 8
length_two form s f = let a = length-append (word form s) (word form f) in let b = length-word form s in let d = length-word form f in omega (arith, a, b, d)

length_three : (form : Form) (s f c : ℕ) → length ((word form s ++ word form f) ++ word form c) ≡ 12
length_three form s f c = let a = length-append (word form s ++ word form f) (word form c) in let b = length_two form s f in let d = length-word form c in omega (arith, a, b, d)

packet_there : (form : Form) (frame : Captured) (rest : List ℕ) → 16 ≤ length (packet form frame ++ rest)
packet_there form frame rest = let a = length-append (packet form frame) rest in let b = length-packet form frame in omega (arith, a, b)

behind_head : (form : Form) (frame : Captured) (rest : List ℕ) → packet form frame ++ rest ≡ packet_head_of form frame.seconds frame.fraction (length frame.bytes) frame.original ++ (frame.bytes ++ rest)
behind_head form frame rest = append_assoc (packet_head_of form frame.seconds frame.fraction (length frame.bytes) frame.original) frame.bytes rest

says_captured : (form : Form) (frame : Captured) (rest : List ℕ) → IsWithinLimits frame → SaysCaptured form (packet form frame ++ rest) (length frame.bytes)
says_captured form frame rest within = record {
  there = let h = packet_there form frame rest in omega (arith, h);
  fits = let h = within.captured in omega (arith, h);
  spelled = sym (ap (λ l. take 4 (drop 8 l)) (behind_head form frame rest ∙ packet_as form frame.seconds frame.fraction (length frame.bytes) frame.original (frame.bytes ++ rest))
      ∙ field_at form (word form frame.seconds ++ word form frame.fraction) (word form frame.original ++ (frame.bytes ++ rest)) 8 (length frame.bytes) (length_two form frame.seconds frame.fraction));
}

says_original : (form : Form) (frame : Captured) (rest : List ℕ) → IsWithinLimits frame → SaysOriginal form (packet form frame ++ rest) frame.original
says_original form frame rest within = record {
  there = packet_there form frame rest;
  fits = let h = within.original in omega (arith, h);
  spelled = sym (ap (λ l. take 4 (drop 12 l)) (behind_head form frame rest ∙ packet_as_too form frame.seconds frame.fraction (length frame.bytes) frame.original (frame.bytes ++ rest))
      ∙ field_at form ((word form frame.seconds ++ word form frame.fraction) ++ word form (length frame.bytes)) (frame.bytes ++ rest) 12 frame.original (length_three form frame.seconds frame.fraction (length frame.bytes)));
}

pub packet_not_refused : (form : Form) (frame : Captured) (rest : List ℕ) (t : Refusal) → IsWithinLimits frame → RefusedPacket form (packet form frame ++ rest) t → ⊥
packet_not_refused form frame rest t within (inl a) =
    let same = one_captured form (packet form frame ++ rest) a.captured (length frame.bytes) a.says (says_captured form frame rest within) in
    let over = a.over in
    let most = within.captured in
    omega (arith, same, over, most)
packet_not_refused form frame rest t within (inr a) =
    let same = one_captured form (packet form frame ++ rest) a.captured (length frame.bytes) a.says (says_captured form frame rest within) in
    let same_too = one_original form (packet form frame ++ rest) a.original frame.original a.says_too (says_original form frame rest within) in
    refuted a.captured a.original same same_too a.bad
  where
    refuted : (captured original : ℕ) → captured ≡ length frame.bytes → original ≡ frame.original → (original < captured) ⊎ (2147483647 < original) → ⊥
    refuted captured original e f (inl below) = let whole = within.whole in omega (arith, e, f, below, whole)
    refuted captured original e f (inr above) = let most = within.original in omega (arith, e, f, above, most)

-- ---- one list of frames

-- the frames end where no packet begins
ends_none : (form : Form) (rest : List ℕ) (place size : ℕ) (stop : Option Refusal) → EndsIn (Some form) rest place size stop → BeginsNone form rest
ends_none form rest place size None none = λ frame more within all. too_short form rest frame more (let e = ap length none in omega (arith, e)) all
ends_none form rest place size (Some r) (inl a) = λ frame more within all. packet_not_refused form frame more a.row within (subst (λ (l : List ℕ). RefusedPacket form l a.row) all a.here)
ends_none form rest place size (Some r) (inr a) = a.held.unfinished

packets_read : (form : Form) → OneByOne (packet form) IsWithinLimits (BeginsNone form)
packets_read form = record { same = λ x y r s fx fy e. same_packet form x y r s fx fy e; ended = λ x r f none. none x r f refl }

pub front_magic : (form : Form) (bytes head behind : List ℕ) → IsFileHead form head → bytes ≡ head ++ behind → HasMagic form bytes
front_magic form bytes head behind is all = ap (take 4) all ∙ take-append-le 4 head behind (let l = is.len in omega (arith, l)) ∙ is.magic

front_version : (form : Form) (bytes head behind : List ℕ) → IsFileHead form head → bytes ≡ head ++ behind → HasVersion form bytes
front_version form bytes head behind is all =
    ap (λ l. take 4 (drop 4 l)) all
    ∙ ap (take 4) (drop-append-le 4 head behind (let l = is.len in omega (arith, l)))
    ∙ take-append-le 4 (drop 4 head) behind (let l = is.len in let d = length-drop 4 head in omega (arith, l, d))
    ∙ is.version

front_link : (form : Form) (bytes head behind : List ℕ) → IsFileHead form head → bytes ≡ head ++ behind → take 4 (drop 20 bytes) ≡ link_of form
front_link form bytes head behind is all =
    ap (λ l. take 4 (drop 20 l)) all
    ∙ ap (take 4) (drop-append-le 20 head behind (let l = is.len in omega (arith, l)))
    ∙ ap (λ l. take 4 (l ++ behind)) is.link
    ∙ ap (λ k. take k (link_of form ++ behind)) (sym (length-word form 1))
    ∙ take-append_seam (link_of form) behind

-- a header is not refused, nor held
pub head_not_refused : (form : Form) (bytes head behind : List ℕ) (t : Refusal) → IsFileHead form head → bytes ≡ head ++ behind → RefusedHead bytes t → ⊥
head_not_refused form bytes head behind t is all (inl a) = a.none form (front_magic form bytes head behind is all)
head_not_refused form bytes head behind t is all (inr (inl a)) =
    a.other (subst (λ (f : Form). HasVersion f bytes) (one_form bytes a.form form a.magic (front_magic form bytes head behind is all)) (front_version form bytes head behind is all))
head_not_refused form bytes head behind t is all (inr (inr a)) =
    a.other (subst (λ (f : Form). take 4 (drop 20 bytes) ≡ link_of f) (one_form bytes a.form form a.magic (front_magic form bytes head behind is all)) (front_link form bytes head behind is all))

-- a header of the form, these frames, and what is behind them
record Parts (form : Form) (bytes : List ℕ) (frames : List Captured) (stop : Option Refusal) : Type 0 where
  pub head : List ℕ
  pub rest : List ℕ
  pub is_head : IsFileHead form head
  pub each : AllByRecursion IsWithinLimits frames
  pub joined : bytes ≡ (head ++ packets form frames) ++ rest
  pub ends : EndsIn (Some form) rest (length (head ++ packets form frames)) (length bytes) stop

parts_of : (form : Form) (bytes : List ℕ) (frames : List Captured) (stop : Option Refusal) → ReadsFrames form bytes frames stop → Parts form bytes frames stop
parts_of form bytes frames stop r = record {
  head = r.is_capture.head;
  rest = r.rest;
  is_head = r.is_capture.is_head;
  each = r.is_capture.within;
  joined = r.joined ∙ ap (λ l. l ++ r.rest) r.is_capture.all;
  ends = subst (λ (l : List ℕ). EndsIn (Some form) r.rest (length l) (length bytes) stop) r.is_capture.all r.ends;
}

nothing_and_frames : (form : Form) (bytes : List ℕ) (frames : List Captured) (stop halt : Option Refusal) → EndsIn None bytes 0 (length bytes) stop → Parts form bytes frames halt → ⊥
nothing_and_frames form bytes frames None halt a b = a
nothing_and_frames form bytes frames (Some r) halt (inl a) b =
    head_not_refused form bytes b.head (packets form frames ++ b.rest) a.row b.is_head (b.joined ∙ append_assoc b.head (packets form frames) b.rest) a.here
nothing_and_frames form bytes frames (Some r) halt (inr a) b =
    let short = a.held.unfinished in
    let long = ap length (b.joined ∙ append_assoc b.head (packets form frames) b.rest) ∙ length-append b.head (packets form frames ++ b.rest) in
    let len = b.is_head.len in
    omega (arith, short, long, len)

one_frames_in : (form : Form) (bytes : List ℕ) (frames others : List Captured) (stop halt : Option Refusal) → Parts form bytes frames stop → Parts form bytes others halt → (frames ≡ others) × (stop ≡ halt)
one_frames_in form bytes frames others stop halt a b =
    let left = a.joined ∙ append_assoc a.head (packets form frames) a.rest in
    let right = b.joined ∙ append_assoc b.head (packets form others) b.rest in
    let heads = same_parts a.head b.head (packets form frames ++ a.rest) (packets form others ++ b.rest) (a.is_head.len ∙ sym b.is_head.len) (sym left ∙ right) in
    let split = one_split (packet form) IsWithinLimits (BeginsNone form) (packets_read form) frames others a.rest b.rest a.each b.each
    (ends_none form a.rest (length (a.head ++ packets form frames)) (length bytes) stop a.ends) (ends_none form b.rest (length (b.head ++ packets form others)) (length bytes) halt b.ends) heads.1 in
    let place : length (b.head ++ packets form others) ≡ length (a.head ++ packets form frames) =
    ap (λ l. length (l ++ packets form others)) (sym heads.0) ∙ ap (λ l. length (a.head ++ packets form l)) (sym split.0) in
    let there : EndsIn (Some form) a.rest (length (a.head ++ packets form frames)) (length bytes) halt =
    subst (λ (n : ℕ). EndsIn (Some form) a.rest n (length bytes) halt) place (subst (λ (l : List ℕ). EndsIn (Some form) l (length (b.head ++ packets form others)) (length bytes) halt) (sym split.1) b.ends) in
    (split.0, one_end form a.rest (length (a.head ++ packets form frames)) (length bytes) stop halt a.ends there)

-- a reader of the same bytes gets one form, one list of frames and one end
one_both : (form other : Form) (bytes : List ℕ) (frames others : List Captured) (stop halt : Option Refusal) → Parts form bytes frames stop → Parts other bytes others halt → (other ≡ form) × (frames ≡ others) × (stop ≡ halt)
one_both form other bytes frames others stop halt a b =
    let is : other ≡ form = one_form bytes form other
    (front_magic form bytes a.head (packets form frames ++ a.rest) a.is_head (a.joined ∙ append_assoc a.head (packets form frames) a.rest))
    (front_magic other bytes b.head (packets other others ++ b.rest) b.is_head (b.joined ∙ append_assoc b.head (packets other others) b.rest)) in
    let both = one_frames_in form bytes frames others stop halt a (subst (λ (f : Form). Parts f bytes others halt) is b) in
    (is, both.0, both.1)

pub one_reading : (bytes : List ℕ) (form other : Option Form) (frames others : List Captured) (stop halt : Option Refusal) → Reads bytes form frames stop → Reads bytes other others halt → (form ≡ other) × (frames ≡ others) × (stop ≡ halt)
one_reading bytes None None frames others stop halt a b = (refl, a.nothing ∙ sym b.nothing, one_end_nothing bytes 0 (length bytes) stop halt a.ends b.ends)
one_reading bytes None (Some form) frames others stop halt a b = absurd (nothing_and_frames form bytes others stop halt a.ends (parts_of form bytes others halt b))
one_reading bytes (Some form) None frames others stop halt a b = absurd (nothing_and_frames form bytes frames halt stop b.ends (parts_of form bytes frames stop a))
one_reading bytes (Some form) (Some other) frames others stop halt a b =
    let all = one_both form other bytes frames others stop halt (parts_of form bytes frames stop a) (parts_of other bytes others halt b) in
    (ap Some (sym all.0), all.1, all.2)

-- a capture is what is read of it, with nothing behind it
pub reads_capture : (bytes : List ℕ) (form : Form) (frames : List Captured) → IsCapture bytes form frames → Reads bytes (Some form) frames None
reads_capture bytes form frames capture = record { front = bytes; rest = []; is_capture = capture; joined = sym (append-nil bytes); ends = refl }

pub capture_read : (bytes : List ℕ) (form : Form) (frames : List Captured) → Reads bytes (Some form) frames None → IsCapture bytes form frames
capture_read bytes form frames r =
    subst (λ (l : List ℕ). IsCapture l form frames) (sym (r.joined ∙ ap (λ l. r.front ++ l) r.ends ∙ append-nil r.front)) r.is_capture

pub one_capture : (bytes : List ℕ) (form other : Form) (frames others : List Captured) → IsCapture bytes form frames → IsCapture bytes other others → (form ≡ other) × (frames ≡ others)
one_capture bytes form other frames others a b =
    let all = one_both form other bytes frames others None None (parts_of form bytes frames None (reads_capture bytes form frames a)) (parts_of other bytes others None (reads_capture bytes other others b)) in
    (sym all.0, all.1)

-- frames of a capture at the front of the bytes are the first of those that a reader of the bytes gets
pub first_frames : (bytes : List ℕ) (form : Form) (other : Option Form) (front rest : List ℕ) (given frames : List Captured) (stop : Option Refusal) → IsCapture front form given → bytes ≡ front ++ rest → Reads bytes other frames stop → (other ≡ Some form) × ((more : List Captured) × (frames ≡ given ++ more))
first_frames bytes form None front rest given frames stop capture joined reads =
    absurd (no_header stop reads.ends)
  where
    whole : bytes ≡ capture.head ++ (packets form given ++ rest)
    whole = joined ∙ ap (λ l. l ++ rest) capture.all ∙ append_assoc capture.head (packets form given) rest

    no_header : (stop : Option Refusal) → EndsIn None bytes 0 (length bytes) stop → ⊥
    no_header None a = a
    no_header (Some r) (inl a) = head_not_refused form bytes capture.head (packets form given ++ rest) a.row capture.is_head whole a.here
    no_header (Some r) (inr a) =
        let short = a.held.unfinished in
        let long = ap length whole ∙ length-append capture.head (packets form given ++ rest) in
        let len = capture.is_head.len in
        omega (arith, short, long, len)
first_frames bytes form (Some other) front rest given frames stop capture joined reads =
    let left : bytes ≡ capture.head ++ (packets form given ++ rest) = joined ∙ ap (λ l. l ++ rest) capture.all ∙ append_assoc capture.head (packets form given) rest in
    let parts : Parts other bytes frames stop = parts_of other bytes frames stop reads in
    let right : bytes ≡ parts.head ++ (packets other frames ++ parts.rest) = parts.joined ∙ append_assoc parts.head (packets other frames) parts.rest in
    let same : other ≡ form = one_form bytes form other (front_magic form bytes capture.head (packets form given ++ rest) capture.is_head left) (front_magic other bytes parts.head (packets other frames ++ parts.rest) parts.is_head right) in
    let at : Parts form bytes frames stop = subst (λ (f : Form). Parts f bytes frames stop) same parts in
    let right' : bytes ≡ at.head ++ (packets form frames ++ at.rest) = at.joined ∙ append_assoc at.head (packets form frames) at.rest in
    let heads = same_parts capture.head at.head (packets form given ++ rest) (packets form frames ++ at.rest) (capture.is_head.len ∙ sym at.is_head.len) (sym left ∙ right') in
    let split = front_split (packet form) IsWithinLimits (BeginsNone form) (packets_read form) given frames rest at.rest capture.within at.each
    (ends_none form at.rest (length (at.head ++ packets form frames)) (length bytes) stop at.ends) heads.1 in
    (ap Some same, (split.0, split.1))
