-- What the converter has turned, from step to step, and what is written for whatever stands behind.
use Rattle.std.proofs.Common.{◌≡◌, inl, inr, ℕ, ◌+◌, Bool, true, false, List, [], ◌∷◌, ◌++◌, length, Option, None, Some, Result, Ok, Err, refl, sym, ap, ◌∙◌, subst, append_assoc, arith}
use Rattle.std.proofs.lemmas.List.{append-nil, length-append}
use Rattle.pcap_io.specs.declared.forms.Form.{Form}
use Rattle.pcap_io.specs.declared.frames.Captured.{Captured}
use Rattle.pcap_io.specs.declared.reasons.CaptureReason.{CaptureReason}
use Rattle.pcap_io.specs.declared.reasons.CaptureReason.TheVariants as reasons
use Rattle.pcap_io.specs.declared.reasons.Refusal.{Refusal}
use Rattle.pcap_io.specs.Calls.{HeldIn, RefusedAt, RefusedIn}
use Rattle.pcap_io.specs.Captures.{packets}
use Rattle.pcap_io.specs.Kept.{Kept}
use Rattle.pcap_io.specs.Reads.{Reads}
use Rattle.pcap_io.specs.Refusals.{told}
use Rattle.pcap_io.specs.Streams.{Stands, StandsIn}
use Rattle.pcap_io.proofs.ReadsLemmas.{reads_refused}
use Rattle.pcapng_io.specs.Written.{ng_head_of, ng_of, packet_block}
use Rattle.commands.specs.declared.statuses.Status.{Status}
use Rattle.commands.specs.declared.statuses.Status.TheVariants as status
use Rattle.commands.specs.Fronts.{IsFront}
use Rattle.frame_streams.specs.Turning.{IsFrontFor, NextSays, Stops}
use Rattle.to_pcapng_command.specs.ToPcapngCommand.{HaveTimes, Makes, ToWrites}
use Rattle.to_pcapng_command.specs.ToPcapngSteps.{IsMadeOf, PutsLent, Turns}
use Rattle.to_pcapng_command.proofs.FileLemmas.{true_false, times_push, file_push, file_of, first_written, front_file}

-- ---- what is written

makes_in : (form : Option Form) (feed : Kept) (taken : List ℕ) (given : List Captured) (made : List ℕ) → StandsIn form feed taken given → IsMadeOf form given made → Makes form given made
makes_in None feed taken given made s is = is
makes_in (Some form) feed taken given made s is = file_of form s.front given made s.is_capture is.0 is.1

pub makes_of : (feed : Kept) (taken made : List ℕ) → (t : Turns feed taken made) → Makes feed.form t.given made
makes_of feed taken made t = makes_in feed.form feed taken t.given made t.stands t.is

front_in : (form : Option Form) (feed : Kept) (taken made left : List ℕ) (given : List Captured) (answer : Status) (all : List ℕ) → StandsIn form feed taken given → IsMadeOf form given made → ToWrites (taken ++ left) answer all → IsFront made all
front_in None feed taken made left given answer all s is w = (all, ap (λ l. l ++ all) is)
front_in (Some form) feed taken made left given answer all s is w =
    let joined : taken ++ left ≡ s.front ++ (feed.rest ++ left) = ap (λ l. l ++ left) s.joined ∙ append_assoc s.front feed.rest left in
    let first = first_written (taken ++ left) form s.front (feed.rest ++ left) given w.form w.frames answer s.is_capture joined is.0 w.ends in
    front_file form w.form given w.frames first.1.0 made all first.0 first.1.1 is.1 w.makes

-- whatever stands behind what was taken, what was made is a front of all that is written
pub front_for : (feed : Kept) (taken made : List ℕ) → Turns feed taken made → IsFrontFor ToWrites taken made
front_for feed taken made t = λ left answer all w. front_in feed.form feed taken made left t.given answer all t.stands t.is w

-- ---- a piece

pub pushed : (old new : Kept) (taken piece made : List ℕ) → new.form ≡ old.form → ((given : List Captured) → Stands old taken given → Stands new (taken ++ piece) given) → Turns old taken made → Turns new (taken ++ piece) made
pushed old new taken piece made same step t = record { given = t.given; stands = step t.given t.stands; is = subst (λ (f : Option Form). IsMadeOf f t.given made) (sym same) t.is }

-- ---- the file header

nothing_before : (form : Option Form) (feed : Kept) (taken : List ℕ) (given : List Captured) (made : List ℕ) → form ≡ None → StandsIn form feed taken given → IsMadeOf form given made → (given ≡ []) × (made ≡ [])
nothing_before None feed taken given made none s is = (s.nothing, is)
nothing_before (Some form) feed taken given made none s is = absurd (cc)

head_alone : (form : Form) (written was is : List ℕ) → written ++ was ≡ [] → is ≡ was ++ ng_head_of form → written ++ is ≡ ng_of form []
head_alone form written was is none put =
    ap (λ l. written ++ l) put ∙ (sym (append_assoc written was (ng_head_of form)) ∙ (ap (λ l. l ++ ng_head_of form) none ∙ sym (append-nil (ng_head_of form))))

begun_turns : (old new : Kept) (form : Form) (taken written was is : List ℕ) → old.form ≡ None → is ≡ was ++ ng_head_of form → ((given : List Captured) → Stands old taken given → Stands new taken given × (new.form ≡ Some form)) → Turns old taken (written ++ was) → Turns new taken (written ++ is)
begun_turns old new form taken written was is none put step t =
    let before = nothing_before old.form old taken t.given (written ++ was) none t.stands t.is in
    let stood = step t.given t.stands in
    let head : HaveTimes form [] × (written ++ is ≡ ng_of form []) = (tt, head_alone form written was is before.1 put) in
    record {
      given = t.given;
      stands = stood.0;
      is = subst (λ (f : Option Form). IsMadeOf f t.given (written ++ is)) (sym stood.1) (subst (λ (g : List Captured). HaveTimes form g × (written ++ is ≡ ng_of form g)) (sym before.0) head);
    }

-- it was accepted, and what stands before the packets was put
pub begun_says : (old new : Kept) (form : Form) (taken written was is : List ℕ) → old.form ≡ None → is ≡ was ++ ng_head_of form → ((given : List Captured) → Stands old taken given → Stands new taken given × (new.form ≡ Some form)) → Turns old taken (written ++ was)
    → NextSays (Turns new taken) (HeldIn new.form new.rest) ToWrites taken (written ++ is) (Ok true)
begun_says old new form taken written was is none put step t =
    let t' = begun_turns old new form taken written was is none put step t in
    (t', front_for new taken (written ++ is) t', λ ended. absurd (true_false ended))

-- ---- nothing whole, and a refusal

pub rests_says : (old new : Kept) (taken made : List ℕ) → new.form ≡ old.form → ((given : List Captured) → Stands old taken given → Stands new taken given × HeldIn new.form new.rest) → Turns old taken made → NextSays (Turns new taken) (HeldIn new.form new.rest) ToWrites taken made (Ok false)
rests_says old new taken made same step t =
    let stood = step t.given t.stands in
    let t' : Turns new taken made = record { given = t.given; stands = stood.0; is = subst (λ (f : Option Form). IsMadeOf f t.given made) (sym same) t.is } in
    (t', front_for new taken made t', λ ended. stood.1)

-- what is refused has another reason than that it ends short
row_not_short : (form : Option Form) (rest : List ℕ) (row : Refusal) → RefusedIn form rest row → row.reason ≡ reasons.Short → ⊥
row_not_short None rest row (inl a) e = let is = ap (λ (t : Refusal). t.reason) a.is in cc
row_not_short None rest row (inr (inl a)) e = let is = ap (λ (t : Refusal). t.reason) a.is in cc
row_not_short None rest row (inr (inr a)) e = let is = ap (λ (t : Refusal). t.reason) a.is in cc
row_not_short (Some form) rest row (inl a) e = let is = ap (λ (t : Refusal). t.reason) a.is in cc
row_not_short (Some form) rest row (inr a) e = let is = ap (λ (t : Refusal). t.reason) a.is in cc

pub refuses : (old new : Kept) (taken made : List ℕ) (r : Refusal) → new.form ≡ old.form → ((given : List Captured) → Stands old taken given → Stands new taken given × RefusedAt new r) → Turns old taken made → Stops ToWrites taken made (status.Capture r.place r.reason)
refuses old new taken made r same step t =
    let stood = step t.given t.stands in
    let bad : RefusedAt new r = stood.1 in
    let t' : Turns new taken made = record { given = t.given; stands = stood.0; is = subst (λ (f : Option Form). IsMadeOf f t.given made) (sym same) t.is } in
    record {
      written = λ left. record { form = new.form; frames = t.given; makes = makes_of new taken made t'; ends = inl (reads_refused new taken left t.given r stood.0 bad) };
      front = front_for new taken made t';
      on_the_way = λ end. row_not_short new.form new.rest bad.row bad.here (sym (ap (λ (t : Refusal). t.reason) bad.told) ∙ end);
    }

-- ---- a frame

frame_turns : (old new : Kept) (form : Form) (frame : Captured) (taken written was is : List ℕ) → (t : Turns old taken (written ++ was)) → old.form ≡ Some form → new.form ≡ Some form → HaveTimes form (t.given ++ frame ∷ []) → is ≡ was ++ packet_block form frame → Stands new taken (t.given ++ frame ∷ []) → Turns new taken (written ++ is)
frame_turns old new form frame taken written was is t begun form_is times put stands =
    let made : HaveTimes form t.given × (written ++ was ≡ ng_of form t.given) = subst (λ (f : Option Form). IsMadeOf f t.given (written ++ was)) begun t.is in
    let spelled : written ++ is ≡ ng_of form (t.given ++ frame ∷ []) =
    ap (λ l. written ++ l) put ∙ (sym (append_assoc written was (packet_block form frame)) ∙ (ap (λ l. l ++ packet_block form frame) made.1 ∙ sym (file_push form t.given frame))) in
    record {
      given = t.given ++ frame ∷ [];
      stands = stands;
      is = subst (λ (f : Option Form). IsMadeOf f (t.given ++ frame ∷ []) (written ++ is)) (sym form_is) (times, spelled);
    }

time_not_short : reasons.Time ≡ reasons.Short → ⊥
time_not_short e = cc

fraction_at : (form : Form) (feed : Kept) (taken : List ℕ) (given : List Captured) (place at : ℕ) → StandsIn (Some form) feed taken given → place ≡ feed.place → at ≡ place + 4 → at ≡ 24 + length (packets form given) + 4
fraction_at form feed taken given place at s is is_at =
    let used = s.used in
    let len = s.is_capture.is_head.len in
    let sums = ap length s.is_capture.all ∙ length-append s.is_capture.head (packets form given) in
    omega (arith, used, len, sums, is, is_at)

-- what became of the frame that was lent
pub put_says : (old new : Kept) (form : Form) (frame : Captured) (place : ℕ) (taken written was is : List ℕ) (Quiet : Type 0) (result : Result Bool Status) → old.form ≡ Some form → new.form ≡ Some form → place ≡ old.place → PutsLent form frame place was is result
    → ((given : List Captured) → Stands old taken given → Stands new taken (given ++ frame ∷ [])) → Turns old taken (written ++ was) → NextSays (Turns new taken) Quiet ToWrites taken (written ++ is) result
put_says old new form frame place taken written was is Quiet (Ok more) begun form_is at puts step t =
    let made : HaveTimes form t.given × (written ++ was ≡ ng_of form t.given) = subst (λ (f : Option Form). IsMadeOf f t.given (written ++ was)) begun t.is in
    let t' = frame_turns old new form frame taken written was is t begun form_is (times_push form t.given frame made.0 puts.1) puts.2 (step t.given t.stands) in
    (t', front_for new taken (written ++ is) t', λ ended. absurd (true_false (sym puts.0 ∙ ended)))
put_says old new form frame place taken written was is Quiet (Err (status.Capture told_at reason)) begun form_is at puts step t =
    let now : StandsIn (Some form) new taken (t.given ++ frame ∷ []) = subst (λ (f : Option Form). StandsIn f new taken (t.given ++ frame ∷ [])) form_is (step t.given t.stands) in
    let then : StandsIn (Some form) old taken t.given = subst (λ (f : Option Form). StandsIn f old taken t.given) begun t.stands in
    let made : HaveTimes form t.given × (written ++ was ≡ ng_of form t.given) = subst (λ (f : Option Form). IsMadeOf f t.given (written ++ was)) begun t.is in
    let same : written ++ is ≡ written ++ was = ap (λ l. written ++ l) puts.3 in
    record {
      written = λ left. record {
        form = Some form;
        frames = t.given;
        makes = file_of form then.front t.given (written ++ is) then.is_capture made.0 (same ∙ made.1);
        ends = inr (record {
          frame = frame;
          front = now.front;
          rest = new.rest ++ left;
          is_capture = now.is_capture;
          joined = ap (λ l. l ++ left) now.joined ∙ append_assoc now.front new.rest left;
          late = puts.0;
          at = fraction_at form old taken t.given place told_at then at puts.1;
          told = puts.2;
        });
      };
      front = subst (λ (l : List ℕ). IsFrontFor ToWrites taken l) (sym same) (front_for old taken (written ++ was) t);
      on_the_way = λ end. time_not_short (sym puts.2 ∙ end);
    }
put_says old new form frame place taken written was is Quiet (Err status.Memory) begun form_is at puts step t = tt
put_says old new form frame place taken written was is Quiet (Err status.Ok) begun form_is at puts step t = absurd puts
put_says old new form frame place taken written was is Quiet (Err status.Words) begun form_is at puts step t = absurd puts
put_says old new form frame place taken written was is Quiet (Err (status.File port)) begun form_is at puts step t = absurd puts
put_says old new form frame place taken written was is Quiet (Err (status.Setup number reason)) begun form_is at puts step t = absurd puts
put_says old new form frame place taken written was is Quiet (Err (status.Control place' reason)) begun form_is at puts step t = absurd puts
put_says old new form frame place taken written was is Quiet (Err (status.Records number)) begun form_is at puts step t = absurd puts
put_says old new form frame place taken written was is Quiet (Err (status.Long port)) begun form_is at puts step t = absurd puts
put_says old new form frame place taken written was is Quiet (Err (status.Pcapng place' reason)) begun form_is at puts step t = absurd puts

-- ---- the end

pub ends_whole : (feed : Kept) (taken made : List ℕ) → (t : Turns feed taken made) → Reads taken feed.form t.given None → ToWrites taken status.Ok made
ends_whole feed taken made t reads = record { form = feed.form; frames = t.given; makes = makes_of feed taken made t; ends = reads }

pub ends_refused : (feed : Kept) (taken made : List ℕ) (place : ℕ) (reason : CaptureReason) → (t : Turns feed taken made) → Reads taken feed.form t.given (Some (told place reason)) → ToWrites taken (status.Capture place reason) made
ends_refused feed taken made place reason t reads = record { form = feed.form; frames = t.given; makes = makes_of feed taken made t; ends = inl reads }
