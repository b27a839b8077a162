-- Each input has one answer and one file.
use Rattle.std.proofs.Common.{◌≡◌, ◌⊎◌, inl, inr, ℕ, ◌+◌, Bool, true, false, List, [], ◌∷◌, ◌++◌, length, Option, None, Some, refl, sym, ap, ◌∙◌, subst, append_assoc}
use Rattle.std.specs.List.{AllByRecursion, flat_map}
use Rattle.std.proofs.lemmas.Grind.{flat_map-append}
use Rattle.pcap_io.specs.declared.forms.Form.{Form}
use Rattle.pcap_io.specs.declared.frames.Captured.{Captured}
use Rattle.pcap_io.specs.declared.reasons.CaptureReason.{CaptureReason}
use Rattle.pcap_io.specs.declared.reasons.CaptureReason.TheVariants as reasons
use Rattle.pcap_io.specs.declared.reasons.Refusal.{Refusal}
use Rattle.pcap_io.specs.Captures.{IsCapture, IsWithinLimits, packet, packets}
use Rattle.pcap_io.specs.Reads.{Reads}
use Rattle.pcap_io.specs.Refusals.{told}
use Rattle.pcap_io.proofs.OneReading.{first_frames, one_reading}
use Rattle.pcap_io.proofs.TotalReadings.{IsRead}
use Rattle.pcapng_io.specs.Written.{has_time, ng_of}
use Rattle.commands.specs.declared.statuses.Status.{Status}
use Rattle.commands.specs.declared.statuses.Status.TheVariants as status
use Rattle.to_pcapng_command.specs.ToPcapngCommand.{EndsAs, HaveTimes, IsFileOf, IsTooLate, Makes, StopsLate, ToWrites}
use Rattle.to_pcapng_command.proofs.FileLemmas.{true_false, file_of, same_heads, one_late}

-- ---- the two ways to end

abbrev answer_of : Option Refusal → Status
answer_of None = status.Ok
answer_of (Some r) = status.Capture r.place r.reason

-- a reader gets these frames, and the answer tells how they end
record EndsRead (input : List ℕ) (form : Option Form) (frames : List Captured) (answer : Status) : Type 0 where
  pub stop : Option Refusal
  pub reads : Reads input form frames stop
  pub is : answer ≡ answer_of stop

-- the next one is too late
record EndsLate (input : List ℕ) (form : Option Form) (frames : List Captured) (answer : Status) : Type 0 where
  pub known : Form
  pub there : form ≡ Some known
  pub place : ℕ
  pub reason : CaptureReason
  pub late : IsTooLate known input frames place reason
  pub is : answer ≡ status.Capture place reason

abbrev Ends : List ℕ → Option Form → List Captured → Status → Type 0
Ends input form frames answer = EndsRead input form frames answer ⊎ EndsLate input form frames answer

ends_of : (input : List ℕ) (form : Option Form) (frames : List Captured) (answer : Status) → EndsAs input form frames answer → Ends input form frames answer
ends_of input form frames status.Ok reads = inl (record { stop = None; reads = reads; is = refl })
ends_of input form frames (status.Capture place reason) (inl reads) = inl (record { stop = Some (told place reason); reads = reads; is = refl })
ends_of input None frames (status.Capture place reason) (inr late) = absurd late
ends_of input (Some known) frames (status.Capture place reason) (inr late) = inr (record { known = known; there = refl; place = place; reason = reason; late = late; is = refl })
ends_of input form frames status.Words ends = absurd ends
ends_of input form frames (status.File port) ends = absurd ends
ends_of input form frames (status.Setup number reason) ends = absurd ends
ends_of input form frames (status.Control place reason) ends = absurd ends
ends_of input form frames status.Memory ends = absurd ends
ends_of input form frames (status.Records number) ends = absurd ends
ends_of input form frames (status.Long port) ends = absurd ends
ends_of input form frames (status.Pcapng place reason) ends = absurd ends

-- ---- one

times_in : (form : Form) (xs more : List Captured) (late : Captured) → HaveTimes form ((xs ++ late ∷ []) ++ more) → has_time form late.seconds late.fraction ≡ true
times_in form [] more late times = times.0
times_in form (x ∷ xs) more late times = times_in form xs more late times.1

times_of : (form : Option Form) (known : Form) (frames : List Captured) (made : List ℕ) → form ≡ Some known → Makes form frames made → HaveTimes known frames
times_of form known frames made is makes =
    let file : IsFileOf known frames made = subst (λ (f : Option Form). Makes f frames made) is makes in file.times

-- a reader does not come to a frame that is too late where all have times
read_or_late : (input : List ℕ) (form other : Option Form) (frames others : List Captured) (made : List ℕ) (answer answer' : Status) → Makes form frames made → EndsRead input form frames answer → EndsLate input other others answer' → ⊥
read_or_late input form other frames others made answer answer' makes read late =
    let first = first_frames input late.known form late.late.front late.late.rest (others ++ late.late.frame ∷ []) frames read.stop late.late.is_capture late.late.joined read.reads in
    let times : HaveTimes late.known frames = times_of form late.known frames made first.0 makes in
    let all : HaveTimes late.known ((others ++ late.late.frame ∷ []) ++ first.1.0) = subst (λ (l : List Captured). HaveTimes late.known l) first.1.1 times in
    true_false (sym (times_in late.known others first.1.0 late.late.frame all) ∙ late.late.late)

both_late : (input : List ℕ) (form other : Option Form) (frames others : List Captured) (made made' : List ℕ) (answer answer' : Status) → Makes form frames made → Makes other others made' → EndsLate input form frames answer → EndsLate input other others answer' → (form ≡ other) × ((frames ≡ others) × (answer ≡ answer'))
both_late input form other frames others made made' answer answer' makes makes' a b =
    let x = a.late in
    let y = b.late in
    let heads = same_heads input a.known b.known x.front x.rest y.front y.rest (frames ++ x.frame ∷ []) (others ++ y.frame ∷ []) x.is_capture x.joined y.is_capture y.joined in
    let times : HaveTimes a.known others = subst (λ (f : Form). HaveTimes f others) heads.0 (times_of other b.known others made' b.there makes') in
    let late : has_time a.known y.frame.seconds y.frame.fraction ≡ false = subst (λ (f : Form). has_time f y.frame.seconds y.frame.fraction ≡ false) heads.0 y.late in
    let same : frames ≡ others = one_late a.known frames others x.frame y.frame x.rest y.rest x.is_capture.within y.is_capture.within (times_of form a.known frames made a.there makes) times x.late late heads.1 in
    let place : a.place ≡ b.place = x.at ∙ (ap (λ (l : List Captured). 24 + length (packets a.known l) + 4) same ∙ (ap (λ (f : Form). 24 + length (packets f others) + 4) (sym heads.0) ∙ sym y.at)) in (
      a.there ∙ (ap Some (sym heads.0) ∙ sym b.there),
      (same, a.is ∙ (ap (λ n. status.Capture n a.reason) place ∙ (ap (λ r. status.Capture b.place r) (x.told ∙ sym y.told) ∙ sym b.is))),
    )

one_end : (input : List ℕ) (form other : Option Form) (frames others : List Captured) (made made' : List ℕ) (answer answer' : Status) → Makes form frames made → Makes other others made' → Ends input form frames answer → Ends input other others answer' → (form ≡ other) × ((frames ≡ others) × (answer ≡ answer'))
one_end input form other frames others made made' answer answer' makes makes' (inl a) (inl b) =
    let one = one_reading input form other frames others a.stop b.stop a.reads b.reads in
    (one.0, (one.1, a.is ∙ (ap answer_of one.2 ∙ sym b.is)))
one_end input form other frames others made made' answer answer' makes makes' (inl a) (inr b) = absurd (read_or_late input form other frames others made answer answer' makes a b)
one_end input form other frames others made made' answer answer' makes makes' (inr a) (inl b) = absurd (read_or_late input other form others frames made' answer' answer makes' b a)
one_end input form other frames others made made' answer answer' makes makes' (inr a) (inr b) = both_late input form other frames others made made' answer answer' makes makes' a b

same_file : (form : Option Form) (frames : List Captured) (made made' : List ℕ) → Makes form frames made → Makes form frames made' → made ≡ made'
same_file None frames made made' a b = a ∙ sym b
same_file (Some form) frames made made' a b = a.spelled ∙ sym b.spelled

pub one_file : (input made other : List ℕ) (answer answer' : Status) → ToWrites input answer made → ToWrites input answer' other → (answer ≡ answer') × (made ≡ other)
one_file input made other answer answer' a b =
    let one = one_end input a.form b.form a.frames b.frames made other answer answer' a.makes b.makes (ends_of input a.form a.frames answer a.ends) (ends_of input b.form b.frames answer' b.ends) in
    let makes : Makes a.form a.frames other =
    subst (λ (f : Option Form). Makes f a.frames other) (sym one.0) (subst (λ (l : List Captured). Makes b.form l other) (sym one.1.0) b.makes) in
    (one.1.1, same_file a.form a.frames made other a.makes makes)

-- ---- at least one

all_first : (P : Captured → Type 0) (xs ys : List Captured) → AllByRecursion P (xs ++ ys) → AllByRecursion P xs
all_first P [] ys all = tt
all_first P (x ∷ xs) ys all = (all.0, all_first P xs ys all.1)

-- the first frames of a capture are one
record FirstFrames (bytes : List ℕ) (form : Form) (frames more : List Captured) : Type 0 where
  pub front : List ℕ
  pub is_capture : IsCapture front form frames
  pub joined : bytes ≡ front ++ packets form more

first_capture : (bytes : List ℕ) (form : Form) (all frames more : List Captured) → all ≡ frames ++ more → IsCapture bytes form all → FirstFrames bytes form frames more
first_capture bytes form all frames more split c = record {
  front = c.head ++ packets form frames;
  is_capture = record {
    head = c.head;
    is_head = c.is_head;
    within = all_first IsWithinLimits frames more (subst (λ (l : List Captured). AllByRecursion IsWithinLimits l) split c.within);
    all = refl;
  };
  joined = c.all
      ∙ (ap (λ (l : List Captured). c.head ++ packets form l) split
      ∙ (ap (λ l. c.head ++ l) (flat_map-append (packet form) frames more)
      ∙ sym (append_assoc c.head (packets form frames) (packets form more))));
}

-- frames that have times, and one that is too late
record Splits (form : Form) (frames : List Captured) : Type 0 where
  pub front : List Captured
  pub late : Captured
  pub more : List Captured
  pub is : frames ≡ (front ++ late ∷ []) ++ more
  pub times : HaveTimes form front
  pub is_late : has_time form late.seconds late.fraction ≡ false

split_times : (form : Form) (frames : List Captured) → HaveTimes form frames ⊎ Splits form frames
split_times form [] = inl tt
split_times form (f ∷ fs) = by_time (has_time form f.seconds f.fraction) refl (split_times form fs)
  where
    by_time : (b : Bool) → has_time form f.seconds f.fraction ≡ b → HaveTimes form fs ⊎ Splits form fs → HaveTimes form (f ∷ fs) ⊎ Splits form (f ∷ fs)
    by_time false is later = inr (record { front = []; late = f; more = fs; is = refl; times = tt; is_late = is })
    by_time true is (inl times) = inl (is, times)
    by_time true is (inr s) = inr (record { front = f ∷ s.front; late = s.late; more = s.more; is = ap (λ (l : List Captured). f ∷ l) s.is; times = (is, s.times); is_late = s.is_late })

written_all : (input : List ℕ) (form : Form) (frames : List Captured) (stop : Option Refusal) → Reads input (Some form) frames stop → HaveTimes form frames → (answer : Status) × (made : List ℕ) × ToWrites input answer made
written_all input form frames None reads times =
    (status.Ok, ng_of form frames, record { form = Some form; frames = frames; makes = file_of form reads.front frames (ng_of form frames) reads.is_capture times refl; ends = reads })
written_all input form frames (Some r) reads times =
    (status.Capture r.place r.reason, ng_of form frames, record { form = Some form; frames = frames; makes = file_of form reads.front frames (ng_of form frames) reads.is_capture times refl; ends = inl reads })

written_late : (input : List ℕ) (form : Form) (frames : List Captured) (stop : Option Refusal) → Reads input (Some form) frames stop → Splits form frames → (answer : Status) × (made : List ℕ) × ToWrites input answer made
written_late input form frames stop reads s =
    let capture = first_capture reads.front form frames (s.front ++ s.late ∷ []) s.more s.is reads.is_capture in
    let before = first_capture capture.front form (s.front ++ s.late ∷ []) s.front (s.late ∷ []) refl capture.is_capture in (
      status.Capture (24 + length (packets form s.front) + 4) reasons.Time,
      ng_of form s.front,
      record {
        form = Some form;
        frames = s.front;
        makes = file_of form before.front s.front (ng_of form s.front) before.is_capture s.times refl;
        ends = inr (record {
          frame = s.late;
          front = capture.front;
          rest = packets form s.more ++ reads.rest;
          is_capture = capture.is_capture;
          joined = reads.joined ∙ (ap (λ l. l ++ reads.rest) capture.joined ∙ append_assoc capture.front (packets form s.more) reads.rest);
          late = s.is_late;
          at = refl;
          told = refl;
        });
      },
    )

written_with : (input : List ℕ) (form : Form) (frames : List Captured) (stop : Option Refusal) → Reads input (Some form) frames stop → HaveTimes form frames ⊎ Splits form frames → (answer : Status) × (made : List ℕ) × ToWrites input answer made
written_with input form frames stop reads (inl times) = written_all input form frames stop reads times
written_with input form frames stop reads (inr s) = written_late input form frames stop reads s

pub written_for : (input : List ℕ) → IsRead input → (answer : Status) × (made : List ℕ) × ToWrites input answer made
written_for input (None, frames, None, reads) = absurd reads.ends
written_for input (None, frames, Some r, reads) = (status.Capture r.place r.reason, [], record { form = None; frames = frames; makes = refl; ends = inl reads })
written_for input (Some form, frames, stop, reads) = written_with input form frames stop reads (split_times form frames)
