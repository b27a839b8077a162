-- What the converter has turned, from step to step, and what is written for whatever stands behind.
use Rattle.std.proofs.Common.{◌≡◌, inl, inr, ℕ, ◌+◌, ◌-◌, ◌^◌, ◌<◌, ◌≤◌, Bool, true, false, List, [], ◌∷◌, ◌++◌, length, Option, None, Some, Ok, Err, MatchBool, refl, sym, ap, ◌∙◌, subst, append_assoc, arith}
use Rattle.std.proofs.lemmas.List.{append-nil, length-append}
use Rattle.pcap_io.specs.Captures.{packets}
use Rattle.pcap_io.specs.Heads.{file_head}
use Rattle.pcapng_io.specs.declared.frames.NgFrame.{NgFrame}
use Rattle.pcapng_io.specs.declared.faults.NgReason.{NgReason}
use Rattle.pcapng_io.specs.declared.faults.NgRefusal.{NgRefusal}
use Rattle.pcapng_io.specs.Calls.{IsHeld, RefusedAt}
use Rattle.pcapng_io.specs.Kept.{Kept}
use Rattle.pcapng_io.specs.Reads.{BeginsNg, Reads}
use Rattle.pcapng_io.specs.Refusals.{told}
use Rattle.pcapng_io.specs.Streams.{Stands}
use Rattle.pcapng_io.proofs.OneReading.{first_frames}
use Rattle.pcapng_io.proofs.ReadsLemmas.{reads_refused_more, size_taken}
use Rattle.commands.specs.declared.statuses.Status.{Status}
use Rattle.commands.specs.declared.statuses.Status.TheVariants as status
use Rattle.commands.specs.Fronts.{IsFront}
use Rattle.frame_streams.specs.Turning.{IsFrontFor, NextSays, Stops}
use Rattle.from_pcapng_command.specs.declared.capture_makers.CaptureMaker.{CaptureMaker}
use Rattle.from_pcapng_command.specs.FromPcapngCommand.{EndsAs, FromWrites, IsCaptureOf, Makes, captured_of, chosen_of, made_form, skipped_of}
use Rattle.from_pcapng_command.specs.FromPcapngSteps.{IsAtRest, IsMadeOf, PutsFrame, PutsHead, Turns}
use Rattle.from_pcapng_command.proofs.CaptureLemmas.{capture_of, chosen_append, counted, front_capture, packets_append, skipped_append}
use Rattle.from_pcapng_command.proofs.ReadingLemmas.{begins_given, begins_more, frames_few, none_begins}
use Rattle.from_pcapng_command.proofs.RefusalLemmas.{refused_not_short}

true_false : true ≡ false → ⊥
true_false e = cc

-- ---- what is written

-- an input that is answered is read
pub reads_of : (input : List ℕ) (frames : List NgFrame) (answer : Status) → EndsAs input frames answer → (stop : Option NgRefusal) × Reads input frames stop
reads_of input frames status.Ok reads = (None, reads)
reads_of input frames (status.Pcapng place reason) reads = (Some (told place reason), reads)
reads_of input frames status.Words ends = absurd ends
reads_of input frames (status.File port) ends = absurd ends
reads_of input frames (status.Setup number reason) ends = absurd ends
reads_of input frames (status.Capture place reason) ends = absurd ends
reads_of input frames (status.Control place reason) ends = absurd ends
reads_of input frames status.Memory ends = absurd ends
reads_of input frames (status.Records number) ends = absurd ends
reads_of input frames (status.Long port) ends = absurd ends

spelled_of : (interface : Option ℕ) (input : List ℕ) (frames : List NgFrame) (made : List ℕ) → BeginsNg input → Makes interface input frames made → made ≡ file_head made_form ++ packets made_form (captured_of interface frames)
spelled_of interface input frames made begins (inl there) = there.1.spelled
spelled_of interface input frames made begins (inr none) = absurd (none.0 begins)

front_by : (interface : Option ℕ) (begun : Bool) (feed : Kept) (taken made left : List ℕ) (given : List NgFrame) (answer : Status) (all : List ℕ) → Stands feed taken given → IsMadeOf interface begun taken given made → FromWrites interface (taken ++ left) answer all → IsFront made all
front_by interface false feed taken made left given answer all s is w = (all, ap (λ l. l ++ all) is.1)
front_by interface true feed taken made left given answer all s is w =
    let joined : taken ++ left ≡ s.front ++ (feed.rest ++ left) = ap (λ l. l ++ left) s.joined ∙ append_assoc s.front feed.rest left in
    let reads = reads_of (taken ++ left) w.frames answer w.ends in
    let first = first_frames (taken ++ left) s.front (feed.rest ++ left) feed.section given w.frames reads.0 s.part joined reads.1 in
    front_capture interface given w.frames first.0 made all first.1 is.1 (spelled_of interface (taken ++ left) w.frames all (begins_more taken left is.0) w.makes)

-- whatever stands behind what was taken, what was made is a front of all that is written
pub front_for : (maker : CaptureMaker) (taken made : List ℕ) → Turns maker taken made → IsFrontFor (FromWrites maker.interface) taken made
front_for maker taken made t = λ left answer all w. front_by maker.interface maker.begun maker.feed taken made left t.given answer all t.stands t.is w

-- ---- a piece

pub pushed_is : (interface : Option ℕ) (begun : Bool) (taken piece : List ℕ) (given : List NgFrame) (made : List ℕ) → IsMadeOf interface begun taken given made → IsMadeOf interface begun (taken ++ piece) given made
pushed_is interface true taken piece given made is = (begins_more taken piece is.0, is.1)
pushed_is interface false taken piece given made is = is

-- ---- the file header

head_made : (interface : Option ℕ) (begun now : Bool) (taken : List ℕ) (given : List NgFrame) (written was is : List ℕ) → IsMadeOf interface begun taken given (written ++ was) → PutsHead begun now was is → (begun ≡ false → MatchBool now (BeginsNg taken) (¬ BeginsNg taken)) → IsMadeOf interface now taken given (written ++ is)
head_made interface true true taken given written was is made puts begins = (made.0, ap (λ l. written ++ l) puts.1 ∙ made.1)
head_made interface true false taken given written was is made puts begins = absurd (true_false (sym puts.0))
head_made interface false true taken given written was is made puts begins = (
  begins refl,
  ap (λ l. written ++ l) puts
      ∙ (sym (append_assoc written was (file_head made_form))
      ∙ (ap (λ l. l ++ file_head made_form) made.1
      ∙ (sym (append-nil (file_head made_form)) ∙ ap (λ (g : List NgFrame). file_head made_form ++ packets made_form (captured_of interface g)) (sym made.0)))),
)
head_made interface false false taken given written was is made puts begins = (made.0, ap (λ l. written ++ l) puts ∙ made.1)

-- the test found that it does not begin
pub not_begun : (put tested : Bool) (Begins : Type 0) → put ≡ false → tested ≡ false → MatchBool tested Begins (¬ Begins) → MatchBool put Begins (¬ Begins)
not_begun put tested Begins none failed found = subst (λ b. MatchBool b Begins (¬ Begins)) (failed ∙ sym none) found

-- where it was not put, the file does not begin
not_put : (begun now : Bool) (was is : List ℕ) (Begins : Type 0) → PutsHead begun now was is → (begun ≡ false → MatchBool now Begins (¬ Begins)) → now ≡ false → ¬ Begins
not_put true now was is Begins puts begins none = absurd (true_false (sym puts.0 ∙ none))
not_put false now was is Begins puts begins none = subst (λ b. MatchBool b Begins (¬ Begins)) none (begins refl)

-- ---- a frame

frame_made : (interface : Option ℕ) (now : Bool) (taken : List ℕ) (given : List NgFrame) (frame : NgFrame) (written mid is : List ℕ) → BeginsNg taken → (now ≡ false → ¬ BeginsNg taken) → IsMadeOf interface now taken given (written ++ mid) → is ≡ mid ++ packets made_form (captured_of interface (frame ∷ [])) → IsMadeOf interface now taken (given ++ frame ∷ []) (written ++ is)
frame_made interface true taken given frame written mid is begins none made put = (
  begins,
  ap (λ l. written ++ l) put
      ∙ (sym (append_assoc written mid (packets made_form (captured_of interface (frame ∷ []))))
      ∙ (ap (λ l. l ++ packets made_form (captured_of interface (frame ∷ []))) made.1
      ∙ (append_assoc (file_head made_form) (packets made_form (captured_of interface given)) (packets made_form (captured_of interface (frame ∷ [])))
      ∙ ap (λ l. file_head made_form ++ l) (sym (packets_append interface given (frame ∷ [])))))),
)
frame_made interface false taken given frame written mid is begins none made put = absurd (none refl begins)

-- each frame is counted once, and has a byte of its own at least
pub few_says : (maker : CaptureMaker) (feed : Kept) (frame : NgFrame) (taken made : List ℕ) → (t : Turns maker taken made) → Stands feed taken (t.given ++ frame ∷ []) → feed.place + length feed.rest < 2 ^ 64 → maker.chosen + maker.skipped < 2 ^ 64 - 1
few_says maker feed frame taken made t s small =
    let chosen = t.chosen in
    let skipped = t.skipped in
    let all = counted maker.interface t.given in
    let more = length-append t.given (frame ∷ []) in
    let few = frames_few s.front feed.section (t.given ++ frame ∷ []) s.part in
    let used = s.used in
    omega (arith, chosen, skipped, all, more, few, used, small)

-- what the maker stands for once a frame was counted, and put where it is chosen
pub frame_says : (old mid new : CaptureMaker) (frame : NgFrame) (taken written was head is : List ℕ) → mid.interface ≡ old.interface → new.interface ≡ old.interface → new.begun ≡ mid.begun → new.feed ≡ mid.feed → mid.chosen ≡ old.chosen → mid.skipped ≡ old.skipped
    → PutsHead old.begun mid.begun was head → ((given : List NgFrame) → Stands mid.feed taken given → old.begun ≡ false → MatchBool mid.begun (BeginsNg taken) (¬ BeginsNg taken)) → PutsFrame mid.interface frame mid new head is
    → ((given : List NgFrame) → Stands old.feed taken given → Stands mid.feed taken (given ++ frame ∷ []))
    → mid.feed.place + length mid.feed.rest ≡ old.feed.place + length old.feed.rest
    → Turns old taken (written ++ was) → Turns new taken (written ++ is)
frame_says old mid new frame taken written was head is asked_mid asked begun_is feed_is chosen_is skipped_is puts_head begins puts step count t =
    let s = step t.given t.stands in
    let there : BeginsNg taken = begins_given mid.feed taken t.given frame s in
    let none = not_put old.begun mid.begun was head (BeginsNg taken) puts_head (begins (t.given ++ frame ∷ []) s) in
    let made_head = head_made old.interface old.begun mid.begun taken t.given written was head t.is puts_head (begins (t.given ++ frame ∷ []) s) in
    let put : PutsFrame old.interface frame mid new head is = subst (λ (i : Option ℕ). PutsFrame i frame mid new head is) asked_mid puts in
    let made = frame_made old.interface mid.begun taken t.given frame written head is there none made_head put.put in
    let small = t.small in
    record {
      given = t.given ++ frame ∷ [];
      stands = subst (λ (k : Kept). Stands k taken (t.given ++ frame ∷ [])) (sym feed_is) s;
      is = subst (λ (b : Bool). IsMadeOf new.interface b taken (t.given ++ frame ∷ []) (written ++ is)) (sym begun_is)
          (subst (λ (i : Option ℕ). IsMadeOf i mid.begun taken (t.given ++ frame ∷ []) (written ++ is)) (sym asked) made);
      chosen = put.chosen ∙ (ap (λ n. n + length (chosen_of old.interface (frame ∷ []))) (chosen_is ∙ t.chosen)
          ∙ (sym (chosen_append old.interface t.given (frame ∷ [])) ∙ ap (λ (i : Option ℕ). length (chosen_of i (t.given ++ frame ∷ []))) (sym asked)));
      skipped = put.skipped ∙ (ap (λ n. n + length (skipped_of old.interface (frame ∷ []))) (skipped_is ∙ t.skipped)
          ∙ (sym (skipped_append old.interface t.given (frame ∷ [])) ∙ ap (λ (i : Option ℕ). length (skipped_of i (t.given ++ frame ∷ []))) (sym asked)));
      small = subst (λ (k : Kept). k.place + length k.rest < 2 ^ 64) (sym feed_is) (omega (arith, small, count));
    }

-- ---- no frame

-- what it stands for where no frame was given
pub head_says : (old new : CaptureMaker) (taken written was is : List ℕ) → new.interface ≡ old.interface → new.chosen ≡ old.chosen → new.skipped ≡ old.skipped → PutsHead old.begun new.begun was is
    → ((given : List NgFrame) → Stands new.feed taken given → old.begun ≡ false → MatchBool new.begun (BeginsNg taken) (¬ BeginsNg taken)) → ((given : List NgFrame) → Stands old.feed taken given → Stands new.feed taken given)
    → new.feed.place + length new.feed.rest ≡ old.feed.place + length old.feed.rest
    → Turns old taken (written ++ was) → Turns new taken (written ++ is)
head_says old new taken written was is asked chosen_is skipped_is puts begins step count t =
    let s = step t.given t.stands in
    let small = t.small in
    record {
      given = t.given;
      stands = s;
      is = subst (λ (i : Option ℕ). IsMadeOf i new.begun taken t.given (written ++ is)) (sym asked) (head_made old.interface old.begun new.begun taken t.given written was is t.is puts (begins t.given s));
      chosen = chosen_is ∙ (t.chosen ∙ ap (λ (i : Option ℕ). length (chosen_of i t.given)) (sym asked));
      skipped = skipped_is ∙ (t.skipped ∙ ap (λ (i : Option ℕ). length (skipped_of i t.given)) (sym asked));
      small = omega (arith, small, count);
    }

-- where no block is whole, it is at rest
pub rest_is : (old new : CaptureMaker) (was is : List ℕ) → PutsHead old.begun new.begun was is → ((taken : List ℕ) (given : List NgFrame) → Stands new.feed taken given → old.begun ≡ false → MatchBool new.begun (BeginsNg taken) (¬ BeginsNg taken)) → IsHeld new.feed → IsAtRest new
rest_is old new was is puts begins held = record { held = held; unbegun = λ none taken given s. not_put old.begun new.begun was is (BeginsNg taken) puts (begins taken given s) none }

-- ---- what is said of the next part

pub frame_next : (old new : CaptureMaker) (taken made : List ℕ) → new.interface ≡ old.interface → Turns new taken made → NextSays (Turns new taken) (IsAtRest new) (FromWrites old.interface) taken made (Ok true)
frame_next old new taken made asked t = (t, subst (λ (i : Option ℕ). IsFrontFor (FromWrites i) taken made) asked (front_for new taken made t), λ ended. absurd (true_false ended))

pub rest_next : (old new : CaptureMaker) (taken made : List ℕ) → new.interface ≡ old.interface → Turns new taken made → IsAtRest new → NextSays (Turns new taken) (IsAtRest new) (FromWrites old.interface) taken made (Ok false)
rest_next old new taken made asked t rest = (t, subst (λ (i : Option ℕ). IsFrontFor (FromWrites i) taken made) asked (front_for new taken made t), λ ended. rest)

-- ---- a refusal

makes_more : (interface : Option ℕ) (begun : Bool) (feed : Kept) (taken left : List ℕ) (given : List NgFrame) (r : NgRefusal) (made : List ℕ) → Stands feed taken given → RefusedAt feed r → (begun ≡ false → ¬ BeginsNg taken) → IsMadeOf interface begun taken given made → Makes interface (taken ++ left) given made
makes_more interface true feed taken left given r made s bad none is = inl (begins_more taken left is.0, capture_of interface s.front feed.section given made s.part is.1)
makes_more interface false feed taken left given r made s bad none is = inr (none_begins feed taken left given r s bad (none refl), is.1)

pub refuses : (old new : CaptureMaker) (taken written was is : List ℕ) (r : NgRefusal) → new.interface ≡ old.interface → (t : Turns new taken (written ++ is)) → PutsHead old.begun new.begun was is
    → ((given : List NgFrame) → Stands new.feed taken given → old.begun ≡ false → MatchBool new.begun (BeginsNg taken) (¬ BeginsNg taken)) → RefusedAt new.feed r → Stops (FromWrites old.interface) taken (written ++ is) (status.Pcapng r.place r.reason)
refuses old new taken written was is r asked t puts begins bad =
    let none = not_put old.begun new.begun was is (BeginsNg taken) puts (begins t.given t.stands) in
    let made : IsMadeOf old.interface new.begun taken t.given (written ++ is) = subst (λ (i : Option ℕ). IsMadeOf i new.begun taken t.given (written ++ is)) asked t.is in
    record {
      written = λ left. record {
        frames = t.given;
        makes = makes_more old.interface new.begun new.feed taken left t.given r (written ++ is) t.stands bad none made;
        ends = reads_refused_more new.feed taken left t.given r t.stands bad;
      };
      front = subst (λ (i : Option ℕ). IsFrontFor (FromWrites i) taken (written ++ is)) asked (front_for new taken (written ++ is) t);
      on_the_way = refused_not_short new.feed r bad;
    }

-- ---- the end

makes_here : (interface : Option ℕ) (begun : Bool) (feed : Kept) (taken : List ℕ) (given : List NgFrame) (made : List ℕ) → Stands feed taken given → (begun ≡ false → ¬ BeginsNg taken) → IsMadeOf interface begun taken given made → Makes interface taken given made
makes_here interface true feed taken given made s none is = inl (is.0, capture_of interface s.front feed.section given made s.part is.1)
makes_here interface false feed taken given made s none is = inr (none refl, is.1)

pub makes_of : (maker : CaptureMaker) (taken made : List ℕ) → (t : Turns maker taken made) → IsAtRest maker → Makes maker.interface taken t.given made
makes_of maker taken made t rest = makes_here maker.interface maker.begun maker.feed taken t.given made t.stands (λ none. rest.unbegun none taken t.given t.stands) t.is

pub ends_whole : (maker : CaptureMaker) (taken made : List ℕ) → (t : Turns maker taken made) → IsAtRest maker → Reads taken t.given None → FromWrites maker.interface taken status.Ok made
ends_whole maker taken made t rest reads = record { frames = t.given; makes = makes_of maker taken made t rest; ends = reads }

pub ends_refused : (maker : CaptureMaker) (taken made : List ℕ) (place : ℕ) (reason : NgReason) → (t : Turns maker taken made) → IsAtRest maker → Reads taken t.given (Some (told place reason)) → FromWrites maker.interface taken (status.Pcapng place reason) made
ends_refused maker taken made place reason t rest reads = record { frames = t.given; makes = makes_of maker taken made t rest; ends = reads }
