-- The file of some frames of a capture: a reader gets them, and it is the front of the file of more.
use Rattle.std.proofs.Common.{◌≡◌, inl, inr, ℕ, ◌+◌, Bool, true, false, List, [], ◌∷◌, ◌++◌, length, Option, None, Some, map, refl, sym, ap, ◌∙◌, subst, append_assoc}
use Rattle.std.specs.List.{AllByRecursion, flat_map}
use Rattle.std.proofs.lemmas.Grind.{flat_map-append}
use Rattle.std.proofs.lemmas.List.{flat_map_more}
use Rattle.pcap_io.specs.declared.forms.Form.{Form}
use Rattle.pcap_io.specs.declared.frames.Captured.{Captured}
use Rattle.pcap_io.specs.Captures.{IsCapture, IsWithinLimits, packet, packets}
use Rattle.pcap_io.specs.Refusals.{told}
use Rattle.pcap_io.proofs.FileHeadLemmas.{one_form}
use Rattle.pcap_io.proofs.OneReading.{first_frames, front_magic}
use Rattle.pcap_io.proofs.ReadingLemmas.{packets-cons, same_packet, same_parts}
use Rattle.pcapng_io.specs.Files.{IsNg}
use Rattle.pcapng_io.specs.Written.{MayBeWritten, as_ng, has_time, ng_head_of, ng_of, packet_block}
use Rattle.pcapng_io.proofs.WrittenLemmas.{written_read}
use Rattle.commands.specs.declared.statuses.Status.{Status}
use Rattle.commands.specs.declared.statuses.Status.TheVariants as status
use Rattle.commands.specs.Fronts.{IsFront}
use Rattle.to_pcapng_command.specs.ToPcapngCommand.{EndsAs, HaveTimes, IsFileOf, Makes}
use Rattle.to_pcapng_command.specs.ToPcapngSteps.{IsMadeOf}

pub true_false : true ≡ false → ⊥
true_false e = cc

-- ---- one more frame

pub times_push : (form : Form) (frames : List Captured) (frame : Captured) → HaveTimes form frames → has_time form frame.seconds frame.fraction ≡ true → HaveTimes form (frames ++ frame ∷ [])
times_push form [] frame times last = (last, tt)
times_push form (f ∷ fs) frame times last = (times.0, times_push form fs frame times.1 last)

pub file_push : (form : Form) (frames : List Captured) (frame : Captured) → ng_of form (frames ++ frame ∷ []) ≡ ng_of form frames ++ packet_block form frame
file_push form frames frame = sym (flat_map_more (packet_block form) (ng_head_of form) frames frame)

-- ---- a reader gets the frames

may_be : (form : Form) (frames : List Captured) → AllByRecursion IsWithinLimits frames → HaveTimes form frames → AllByRecursion (MayBeWritten form) frames
may_be form [] within times = tt
may_be form (f ∷ fs) within times = (record { within = within.0; time = times.0 }, may_be form fs within.1 times.1)

pub file_of : (form : Form) (front : List ℕ) (frames : List Captured) (made : List ℕ) → IsCapture front form frames → HaveTimes form frames → made ≡ ng_of form frames → IsFileOf form frames made
file_of form front frames made capture times spelled = record {
  times = times;
  spelled = spelled;
  is_ng = subst (λ (l : List ℕ). IsNg l (map (as_ng form) frames)) (sym spelled) (written_read form frames (may_be form frames capture.within times));
}

-- ---- two captures at the front of one input

pub same_heads : (input : List ℕ) (form other : Form) (front rest front' rest' : List ℕ) (given frames : List Captured) → IsCapture front form given → input ≡ front ++ rest → IsCapture front' other frames → input ≡ front' ++ rest'
    → (other ≡ form) × (packets form given ++ rest ≡ packets form frames ++ rest')
same_heads input form other front rest front' rest' given frames a ja b jb =
    let left : input ≡ a.head ++ (packets form given ++ rest) = ja ∙ ap (λ l. l ++ rest) a.all ∙ append_assoc a.head (packets form given) rest in
    let right : input ≡ b.head ++ (packets other frames ++ rest') = jb ∙ ap (λ l. l ++ rest') b.all ∙ append_assoc b.head (packets other frames) rest' in
    let same : other ≡ form = one_form input form other (front_magic form input a.head (packets form given ++ rest) a.is_head left) (front_magic other input b.head (packets other frames ++ rest') b.is_head right) in
    let heads = same_parts a.head (packets form given ++ rest) b.head (packets other frames ++ rest') (a.is_head.len ∙ sym b.is_head.len) (sym left ∙ right) in
    (same, heads.1 ∙ ap (λ (f : Form). packets f frames ++ rest') same)

cons_split : (form : Form) (p : Captured) (ps : List Captured) (r : List ℕ) → packets form (p ∷ ps) ++ r ≡ packet form p ++ (packets form ps ++ r)
cons_split form p ps r = ap (λ l. l ++ r) (packets-cons form p ps) ∙ append_assoc (packet form p) (packets form ps) r

differ_in_time : (form : Form) (a b : Captured) → a ≡ b → has_time form a.seconds a.fraction ≡ true → has_time form b.seconds b.fraction ≡ false → ⊥
differ_in_time form a b same early late = true_false (sym (subst (λ (c : Captured). has_time form c.seconds c.fraction ≡ true) same early) ∙ late)

-- frames that have times stand before one that is too late
before_late : (form : Form) (given frames : List Captured) (late : Captured) (r s : List ℕ) → AllByRecursion IsWithinLimits given → AllByRecursion IsWithinLimits (frames ++ late ∷ []) → HaveTimes form given → has_time form late.seconds late.fraction ≡ false
    → packets form given ++ r ≡ packets form (frames ++ late ∷ []) ++ s → (more : List Captured) × (frames ≡ given ++ more)
before_late form [] frames late r s wg wf times is_late e = (frames, refl)
before_late form (g ∷ gs) [] late r s wg wf times is_late e =
    let same = same_packet form g late (packets form gs ++ r) (packets form [] ++ s) wg.0 wf.0 (sym (cons_split form g gs r) ∙ e ∙ cons_split form late [] s) in
    absurd (differ_in_time form g late same.0 times.0 is_late)
before_late form (g ∷ gs) (f ∷ fs) late r s wg wf times is_late e =
    let heads = same_packet form g f (packets form gs ++ r) (packets form (fs ++ late ∷ []) ++ s) wg.0 wf.0 (sym (cons_split form g gs r) ∙ e ∙ cons_split form f (fs ++ late ∷ []) s) in
    let deeper = before_late form gs fs late r s wg.1 wf.1 times.1 is_late heads.1 in
    (deeper.0, ap (λ (x : Captured). x ∷ fs) (sym heads.0) ∙ ap (λ (l : List Captured). g ∷ l) deeper.1)

-- of two such lists in front of a frame that is too late, one is the other
pub one_late : (form : Form) (xs ys : List Captured) (x y : Captured) (r s : List ℕ) → AllByRecursion IsWithinLimits (xs ++ x ∷ []) → AllByRecursion IsWithinLimits (ys ++ y ∷ []) → HaveTimes form xs → HaveTimes form ys → has_time form x.seconds x.fraction ≡ false → has_time form y.seconds y.fraction ≡ false
    → packets form (xs ++ x ∷ []) ++ r ≡ packets form (ys ++ y ∷ []) ++ s → xs ≡ ys
one_late form [] [] x y r s wx wy tx ty late_x late_y e = refl
one_late form [] (b ∷ bs) x y r s wx wy tx ty late_x late_y e =
    let same = same_packet form x b (packets form [] ++ r) (packets form (bs ++ y ∷ []) ++ s) wx.0 wy.0 (sym (cons_split form x [] r) ∙ e ∙ cons_split form b (bs ++ y ∷ []) s) in
    absurd (differ_in_time form b x (sym same.0) ty.0 late_x)
one_late form (a ∷ later) [] x y r s wx wy tx ty late_x late_y e =
    let same = same_packet form a y (packets form (later ++ x ∷ []) ++ r) (packets form [] ++ s) wx.0 wy.0 (sym (cons_split form a (later ++ x ∷ []) r) ∙ e ∙ cons_split form y [] s) in
    absurd (differ_in_time form a y same.0 tx.0 late_y)
one_late form (a ∷ later) (b ∷ bs) x y r s wx wy tx ty late_x late_y e =
    let same = same_packet form a b (packets form (later ++ x ∷ []) ++ r) (packets form (bs ++ y ∷ []) ++ s) wx.0 wy.0 (sym (cons_split form a (later ++ x ∷ []) r) ∙ e ∙ cons_split form b (bs ++ y ∷ []) s) in
    ap (λ (c : Captured). c ∷ later) same.0 ∙ ap (λ (l : List Captured). b ∷ l) (one_late form later bs x y r s wx.1 wy.1 tx.1 ty.1 late_x late_y same.1)

-- ---- the first frames

-- frames of a capture at the front of an input, which have times, are the first of those that are written for it
pub first_written : (input : List ℕ) (form : Form) (front rest : List ℕ) (given : List Captured) (known : Option Form) (frames : List Captured) (answer : Status) → IsCapture front form given → input ≡ front ++ rest → HaveTimes form given → EndsAs input known frames answer
    → (known ≡ Some form) × ((more : List Captured) × (frames ≡ given ++ more))
first_written input form front rest given known frames status.Ok capture joined times ends = first_frames input form known front rest given frames None capture joined ends
first_written input form front rest given known frames (status.Capture place reason) capture joined times (inl reads) = first_frames input form known front rest given frames (Some (told place reason)) capture joined reads
first_written input form front rest given None frames (status.Capture place reason) capture joined times (inr late) = absurd late
first_written input form front rest given (Some other) frames (status.Capture place reason) capture joined times (inr late) =
    let same = same_heads input form other front rest late.front late.rest given (frames ++ late.frame ∷ []) capture joined late.is_capture late.joined in
    let is_late : has_time form late.frame.seconds late.frame.fraction ≡ false = subst (λ (f : Form). has_time f late.frame.seconds late.frame.fraction ≡ false) same.0 late.late in
    (ap Some same.0, before_late form given frames late.frame rest late.rest capture.within late.is_capture.within times is_late same.1)
first_written input form front rest given known frames status.Words capture joined times ends = absurd ends
first_written input form front rest given known frames (status.File port) capture joined times ends = absurd ends
first_written input form front rest given known frames (status.Setup number reason) capture joined times ends = absurd ends
first_written input form front rest given known frames (status.Control place reason) capture joined times ends = absurd ends
first_written input form front rest given known frames status.Memory capture joined times ends = absurd ends
first_written input form front rest given known frames (status.Records number) capture joined times ends = absurd ends
first_written input form front rest given known frames (status.Long port) capture joined times ends = absurd ends
first_written input form front rest given known frames (status.Pcapng place reason) capture joined times ends = absurd ends

-- their file is a front of the file of all
pub front_file : (form : Form) (known : Option Form) (given frames more : List Captured) (made all : List ℕ) → known ≡ Some form → frames ≡ given ++ more → made ≡ ng_of form given → Makes known frames all → IsFront made all
front_file form known given frames more made all is split spelled makes =
    let file : IsFileOf form frames all = subst (λ (k : Option Form). Makes k frames all) is makes in (
      flat_map (packet_block form) more,
      ap (λ l. l ++ flat_map (packet_block form) more) spelled
          ∙ append_assoc (ng_head_of form) (flat_map (packet_block form) given) (flat_map (packet_block form) more)
          ∙ ap (λ l. ng_head_of form ++ l) (sym (flat_map-append (packet_block form) given more))
          ∙ ap (ng_of form) (sym split)
          ∙ sym file.spelled,
    )
