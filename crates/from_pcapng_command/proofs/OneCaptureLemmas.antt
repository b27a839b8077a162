-- Each input has one answer and one capture.
use Rattle.std.proofs.Common.{◌≡◌, ◌⊎◌, inl, inr, ℕ, List, [], Option, None, Some, ◌++◌, refl, sym, ap, ◌∙◌, subst}
use Rattle.sfc_desk.specs.declared.ports.Port.TheVariants as ports
use Rattle.pcap_io.specs.Captures.{packets}
use Rattle.pcap_io.specs.Heads.{file_head}
use Rattle.pcapng_io.specs.declared.frames.NgFrame.{NgFrame}
use Rattle.pcapng_io.specs.declared.faults.NgRefusal.{NgRefusal}
use Rattle.pcapng_io.specs.Reads.{BeginsNg, Reads}
use Rattle.pcapng_io.specs.Refusals.{told}
use Rattle.pcapng_io.proofs.OneReading.{one_reading}
use Rattle.pcapng_io.proofs.TotalReadings.{every_reading}
use Rattle.commands.specs.declared.statuses.Status.{Status}
use Rattle.commands.specs.declared.statuses.Status.TheVariants as status
use Rattle.frame_streams.specs.Streams.{AnswersOnce}
use Rattle.from_pcapng_command.specs.FromPcapngCommand.{EndsAs, FromPcapngWrites, FromWrites, Makes, captured_of, made_form}
use Rattle.from_pcapng_command.proofs.CaptureLemmas.{capture_of}
use Rattle.from_pcapng_command.proofs.ReadingLemmas.{begins_or_not}

-- the answer tells how a reading ends
abbrev answer_of : Option NgRefusal → Status
answer_of None = status.Ok
answer_of (Some r) = status.Pcapng r.place r.reason

record EndsRead (input : List ℕ) (frames : List NgFrame) (answer : Status) : Type 0 where
  pub stop : Option NgRefusal
  pub reads : Reads input frames stop
  pub is : answer ≡ answer_of stop

ends_of : (input : List ℕ) (frames : List NgFrame) (answer : Status) → EndsAs input frames answer → EndsRead input frames answer
ends_of input frames status.Ok reads = record { stop = None; reads = reads; is = refl }
ends_of input frames (status.Pcapng place reason) reads = record { stop = Some (told place reason); reads = reads; is = refl }
ends_of input frames status.Words ends = absurd ends
ends_of input frames (status.File port) ends = absurd ends
ends_of input frames (status.Setup number reason) ends = absurd ends
ends_of input frames (status.Capture place reason) ends = absurd ends
ends_of input frames (status.Control place reason) ends = absurd ends
ends_of input frames status.Memory ends = absurd ends
ends_of input frames (status.Records number) ends = absurd ends
ends_of input frames (status.Long port) ends = absurd ends

-- two writings have the same frames and the same answer
pub one_end : (input : List ℕ) (frames others : List NgFrame) (answer answer' : Status) → EndsAs input frames answer → EndsAs input others answer' → (frames ≡ others) × (answer ≡ answer')
one_end input frames others answer answer' a b =
    let x = ends_of input frames answer a in
    let y = ends_of input others answer' b in
    let one = one_reading input frames others x.stop y.stop x.reads y.reads in
    (one.0, x.is ∙ (ap answer_of one.1 ∙ sym y.is))

same_capture : (interface : Option ℕ) (input : List ℕ) (frames : List NgFrame) (made made' : List ℕ) → Makes interface input frames made → Makes interface input frames made' → made ≡ made'
same_capture interface input frames made made' (inl a) (inl b) = a.1.spelled ∙ sym b.1.spelled
same_capture interface input frames made made' (inl a) (inr b) = absurd (b.0 a.0)
same_capture interface input frames made made' (inr a) (inl b) = absurd (a.0 b.0)
same_capture interface input frames made made' (inr a) (inr b) = a.1 ∙ sym b.1

pub one_capture : (interface : Option ℕ) (input made other : List ℕ) (answer answer' : Status) → FromWrites interface input answer made → FromWrites interface input answer' other → (answer ≡ answer') × (made ≡ other)
one_capture interface input made other answer answer' a b =
    let one = one_end input a.frames b.frames answer answer' a.ends b.ends in
    let makes : Makes interface input a.frames other = subst (λ (l : List NgFrame). Makes interface input l other) (sym one.0) b.makes in
    (one.1, same_capture interface input a.frames made other a.makes makes)

pub answers_once : (interface : Option ℕ) → AnswersOnce (FromPcapngWrites interface)
answers_once interface = λ input a b out other is_a is_b. (one_end input is_a.writes.frames is_b.writes.frames a b is_a.writes.ends is_b.writes.ends).1

-- ---- at least one

written_by : (interface : Option ℕ) (input : List ℕ) (frames : List NgFrame) (stop : Option NgRefusal) (answer : Status) → (r : Reads input frames stop) → EndsAs input frames answer → BeginsNg input ⊎ (BeginsNg input → ⊥) → (told_so : Status) × (made : List ℕ) × FromWrites interface input told_so made
written_by interface input frames stop answer r ends (inl begins) =
    let made : List ℕ = file_head made_form ++ packets made_form (captured_of interface frames) in
    (answer, made, record { frames = frames; makes = inl (begins, capture_of interface r.front r.section frames made r.part refl); ends = ends })
written_by interface input frames stop answer r ends (inr none) = (answer, [], record { frames = frames; makes = inr (none, refl); ends = ends })

written_for : (interface : Option ℕ) (input : List ℕ) (frames : List NgFrame) (stop : Option NgRefusal) → Reads input frames stop → (answer : Status) × (made : List ℕ) × FromWrites interface input answer made
written_for interface input frames None reads = written_by interface input frames None status.Ok reads reads (begins_or_not input frames None reads)
written_for interface input frames (Some r) reads = written_by interface input frames (Some r) (status.Pcapng r.place r.reason) reads reads (begins_or_not input frames (Some r) reads)

pub every_written : (interface : Option ℕ) (input : List ℕ) → (answer : Status) × (made : List ℕ) × FromWrites interface input answer made
every_written interface input = let all = every_reading input in written_for interface input all.0 all.1 all.2
