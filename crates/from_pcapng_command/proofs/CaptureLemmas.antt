-- The capture of the chosen frames, and how many there are.
use Rattle.std.proofs.Common.{◌≡◌, ℕ, ◌+◌, Bool, true, false, not, cond, List, [], ◌∷◌, ◌++◌, length, Option, map, refl, sym, ap, ◌∙◌, subst, append_assoc, arith}
use Rattle.std.specs.List.{AllByRecursion, filter, flat_map}
use Rattle.std.proofs.lemmas.Grind.{flat_map-append}
use Rattle.std.proofs.lemmas.List.{length-append, map-append}
use Rattle.std.proofs.lemmas.List.Elements.{filter-append}
use Rattle.pcap_io.specs.declared.frames.Captured.{Captured}
use Rattle.pcap_io.specs.Captures.{IsFileHead, IsWithinLimits, packet, packets}
use Rattle.pcap_io.specs.Heads.{file_head, half, word}
use Rattle.pcapng_io.specs.declared.sections.Section.{Section}
use Rattle.pcapng_io.specs.declared.frames.NgFrame.{NgFrame}
use Rattle.pcapng_io.specs.Files.{IsPart, IsWithin}
use Rattle.pcapng_io.proofs.WithinLemmas.{part_within}
use Rattle.commands.specs.Fronts.{IsFront}
use Rattle.from_pcapng_command.specs.FromPcapngCommand.{IsCaptureOf, as_captured, captured_of, chosen_of, is_chosen, made_form, skipped_of}

-- ---- more frames

captured_append : (interface : Option ℕ) (xs ys : List NgFrame) → captured_of interface (xs ++ ys) ≡ captured_of interface xs ++ captured_of interface ys
captured_append interface xs ys =
    ap (map as_captured) (filter-append (is_chosen interface) xs ys) ∙ map-append as_captured (chosen_of interface xs) (chosen_of interface ys)

pub packets_append : (interface : Option ℕ) (xs ys : List NgFrame) → packets made_form (captured_of interface (xs ++ ys)) ≡ packets made_form (captured_of interface xs) ++ packets made_form (captured_of interface ys)
packets_append interface xs ys =
    ap (packets made_form) (captured_append interface xs ys) ∙ flat_map-append (packet made_form) (captured_of interface xs) (captured_of interface ys)

pub chosen_append : (interface : Option ℕ) (xs ys : List NgFrame) → length (chosen_of interface (xs ++ ys)) ≡ length (chosen_of interface xs) + length (chosen_of interface ys)
chosen_append interface xs ys =
    ap length (filter-append (is_chosen interface) xs ys) ∙ length-append (chosen_of interface xs) (chosen_of interface ys)

pub skipped_append : (interface : Option ℕ) (xs ys : List NgFrame) → length (skipped_of interface (xs ++ ys)) ≡ length (skipped_of interface xs) + length (skipped_of interface ys)
skipped_append interface xs ys =
    ap length (filter-append (λ frame. not (is_chosen interface frame)) xs ys) ∙ length-append (skipped_of interface xs) (skipped_of interface ys)

-- a frame is chosen or not
counted_by : (frame : NgFrame) (chosen skipped : List NgFrame) (b : Bool) → length (cond b (frame ∷ chosen) chosen) + length (cond (not b) (frame ∷ skipped) skipped) ≡ length chosen + length skipped + 1
counted_by frame chosen skipped true = omega arith
counted_by frame chosen skipped false = omega arith

pub counted : (interface : Option ℕ) (frames : List NgFrame) → length (chosen_of interface frames) + length (skipped_of interface frames) ≡ length frames
counted interface [] = refl
counted interface (f ∷ fs) =
    let one = counted_by f (chosen_of interface fs) (skipped_of interface fs) (is_chosen interface f) in
    let all = counted interface fs in
    omega (arith, one, all)

-- ---- the capture

head_is : IsFileHead made_form (file_head made_form)
unfolding word half
head_is = record { len = refl; magic = refl; version = refl; link = refl }

within_one : (frame : NgFrame) → IsWithin frame → IsWithinLimits (as_captured frame)
within_one frame w =
    let seconds = w.seconds in
    let nanos = w.nanos in
    let captured = w.captured in
    let whole = w.whole in
    let original = w.original in
    record { seconds = omega (arith, seconds); fraction = omega (arith, nanos); captured = omega (arith, captured); whole = omega (arith, whole); original = omega (arith, original) }

within_by : (frame : NgFrame) (later : List NgFrame) (b : Bool) → IsWithin frame → AllByRecursion IsWithinLimits (map as_captured later) → AllByRecursion IsWithinLimits (map as_captured (cond b (frame ∷ later) later))
within_by frame later true w all = (within_one frame w, all)
within_by frame later false w all = all

within_chosen : (interface : Option ℕ) (frames : List NgFrame) → AllByRecursion IsWithin frames → AllByRecursion IsWithinLimits (captured_of interface frames)
within_chosen interface [] all = tt
within_chosen interface (f ∷ fs) all = within_by f (chosen_of interface fs) (is_chosen interface f) all.0 (within_chosen interface fs all.1)

pub capture_of : (interface : Option ℕ) (bytes : List ℕ) (section : Section) (frames : List NgFrame) (made : List ℕ) → IsPart bytes section frames → made ≡ file_head made_form ++ packets made_form (captured_of interface frames) → IsCaptureOf (captured_of interface frames) made
capture_of interface bytes section frames made part spelled = record {
  spelled = spelled;
  is_capture = record { head = file_head made_form; is_head = head_is; within = within_chosen interface frames (part_within bytes section frames part); all = spelled };
}

-- that of the first frames is a front of that of all
pub front_capture : (interface : Option ℕ) (given frames more : List NgFrame) (made all : List ℕ) → frames ≡ given ++ more → made ≡ file_head made_form ++ packets made_form (captured_of interface given) → all ≡ file_head made_form ++ packets made_form (captured_of interface frames) → IsFront made all
front_capture interface given frames more made all split is whole = (
  packets made_form (captured_of interface more),
  ap (λ l. l ++ packets made_form (captured_of interface more)) is
      ∙ (append_assoc (file_head made_form) (packets made_form (captured_of interface given)) (packets made_form (captured_of interface more))
      ∙ (ap (λ l. file_head made_form ++ l) (sym (packets_append interface given more))
      ∙ (ap (λ (l : List NgFrame). file_head made_form ++ packets made_form (captured_of interface l)) (sym split) ∙ sym whole))),
)
