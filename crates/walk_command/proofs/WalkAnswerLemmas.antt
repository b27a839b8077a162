-- The answers of `walk`: what its words say is determined, and its answer is what the file asks for.
use Rattle.std.proofs.Common.{◌≡◌, ◌≢◌, inl, inr, ℕ, ◌^◌, ◌<◌, ◌≤◌, Bool, true, List, [], ◌∷◌, Option, Some, None, length, codes, decimal, refl, sym, ap, ◌∙◌, subst, arith}
use Rattle.std.proofs.lemmas.Fmt.{decimal_injective}
use Rattle.sfc_desk.specs.declared.ports.Port.{Port}
use Rattle.sfc_desk.specs.declared.ports.Port.TheVariants as ports
use Rattle.sfc_desk.specs.Desks.{Shown, Files}
use Rattle.sfc_desk.specs.Ports.{is_input}
use Rattle.pcap_io.specs.declared.forms.Form.{Form}
use Rattle.pcap_io.specs.declared.frames.Captured.{Captured}
use Rattle.pcap_io.specs.declared.reasons.Refusal.{Refusal}
use Rattle.pcap_io.specs.declared.reasons.CaptureReason.TheVariants as reasons
use Rattle.pcap_io.specs.Refusals.{told as refusal}
use Rattle.pcap_io.specs.Reads.{Reads}
use Rattle.pcap_io.proofs.OneReading.{one_reading, reads_capture}
use Rattle.commands.specs.declared.statuses.Status.{Status}
use Rattle.commands.specs.declared.statuses.Status.TheVariants.{Ok, Words, File, Setup, Capture, Control, Memory, Records, Long, Pcapng}
use Rattle.commands.specs.Commands.{Behaves, NoneRose}
use Rattle.commands.proofs.CommandLemmas.{fails_absent}
use Rattle.walk_command.specs.WalkCommand.{Walk, IsWalk, WalkRuns, WalkWants, FileAsks, walk_ports}

-- a walk with these words
walk_with : ℕ → ℕ → List ℕ → List ℕ → Walk
walk_with spi count capture egress = record { spi = spi; count = count; capture = capture; egress = egress }

-- words are the words of one walk
pub one_walk : (words : List (List ℕ)) (a b : Walk) → IsWalk words a → IsWalk words b → a ≡ b
unfolding walk_with
one_walk words a b is_a is_b =
    let same : codes "walk" ∷ decimal a.spi ∷ decimal a.count ∷ a.capture ∷ a.egress ∷ [] ≡ codes "walk" ∷ decimal b.spi ∷ decimal b.count ∷ b.capture ∷ b.egress ∷ [] = sym is_a.spelled ∙ is_b.spelled in
    let spi_text : decimal a.spi ≡ decimal b.spi = cc in
    let count_text : decimal a.count ≡ decimal b.count = cc in
    let spi : a.spi ≡ b.spi = decimal_injective a.spi b.spi (omega (arith, is_a.spi_range)) (omega (arith, is_b.spi_range)) spi_text in
    let count : a.count ≡ b.count = decimal_injective a.count b.count (omega (arith, is_a.most)) (omega (arith, is_b.most)) count_text in
    let capture : a.capture ≡ b.capture = cc in
    let egress : a.egress ≡ b.egress = cc in
    ap (λ n. walk_with n a.count a.capture a.egress) spi
    ∙ (ap (λ n. walk_with b.spi n a.capture a.egress) count
    ∙ (ap (λ name. walk_with b.spi b.count name a.egress) capture
    ∙ ap (λ name. walk_with b.spi b.count b.capture name) egress))

-- an input that is read whole
asked_whole : (input : List ℕ) (form : Option Form) (frames : List Captured) (wanted : Status) → length input ≤ 2 ^ 40 → Reads input form frames None → FileAsks (Some input) wanted → Ok ≡ wanted
asked_whole input form frames wanted within reads (inl long) = let past = long.0 in absurd (omega (arith, past, within))
asked_whole input form frames wanted within reads (inr (_, inl whole)) = sym whole.1
asked_whole input form frames wanted within reads (inr (_, inr refused)) =
    let stop : None ≡ Some refused.0 = (one_reading input form refused.1.0 frames refused.1.1 None (Some refused.0) reads refused.1.2).2 in cc

-- an input that is refused; it is within the limit where it ends short
asked_refused : (input : List ℕ) (form : Option Form) (frames : List Captured) (r : Refusal) (wanted : Status) → (r.reason ≡ reasons.Short → length input ≤ 2 ^ 40) → Reads input form frames (Some r) → FileAsks (Some input) wanted → Capture r.place r.reason ≡ wanted
asked_refused input form frames r wanted short reads (inl long) =
    let past = long.0 in
    let within = short (long.1 form frames r reads) in
    absurd (omega (arith, past, within))
asked_refused input form frames r wanted short reads (inr (_, inl whole)) =
    let stop : Some r ≡ None = (one_reading input form (Some whole.0.0) frames whole.0.1 (Some r) None reads (reads_capture input whole.0.0 whole.0.1 whole.0.2)).2 in cc
asked_refused input form frames r wanted short reads (inr (_, inr refused)) =
    let stop : Some r ≡ Some refused.0 = (one_reading input form refused.1.0 frames refused.1.1 (Some r) (Some refused.0) reads refused.1.2).2 in
    let same : r ≡ refused.0 = cc in
    ap (λ (t : Refusal). Capture t.place t.reason) same ∙ sym refused.2

-- an input that is too long
asked_long : (input : List ℕ) (wanted : Status) → 2 ^ 40 < length input → FileAsks (Some input) wanted → Long ports.Capture ≡ wanted
asked_long input wanted past (inl long) = sym long.2
asked_long input wanted past (inr within) = let few = within.0 in absurd (omega (arith, past, few))

-- what is asked of the file that is there, or is not
asks_of : (found : Option (List ℕ)) (input : List ℕ) (wanted : Status) → found ≡ Some input → FileAsks found wanted → FileAsks (Some input) wanted
asks_of found input wanted there asks = subst (λ (f : Option (List ℕ)). FileAsks f wanted) there asks

asks_none : (found : Option (List ℕ)) (wanted : Status) → found ≡ None → FileAsks found wanted → wanted ≡ File ports.Capture
asks_none found wanted none asks = subst (λ (f : Option (List ℕ)). FileAsks f wanted) none asks

egress_is_read : (port : Port) → port ≡ ports.Egress → is_input port ≡ true → ⊥
egress_is_read port is reads = let e : is_input ports.Egress ≡ true = subst (λ p. is_input p ≡ true) is reads in cc

-- what the file asks for is the answer, where no call failed and memory was there
pub asked_is_answered : (walk : Walk) (tells : Bool) (held : Files) (then now : Port → Shown) (answer wanted : Status) → WalkRuns walk tells held then now answer → Behaves (walk_ports walk) tells held then now answer → WalkWants walk held wanted → tells ≡ true → NoneRose then now → answer ≢ Memory → answer ≡ wanted
asked_is_answered walk tells held then now Ok wanted runs behaves wants told none some =
    let ends = (runs.1 told).0 in
    asked_whole ends.writes.input ends.writes.writes.form ends.writes.writes.frames wanted ends.within ends.writes.writes.reads (asks_of (held walk.capture) ends.writes.input wanted ends.writes.there wants)
asked_is_answered walk tells held then now (Capture place reason) wanted runs behaves wants told none some =
    let ends = runs.1 told in
    asked_refused ends.writes.input ends.writes.writes.form ends.writes.writes.frames (refusal place reason) wanted ends.short ends.writes.writes.reads (asks_of (held walk.capture) ends.writes.input wanted ends.writes.there wants)
asked_is_answered walk tells held then now (Long port) wanted runs behaves wants told none some =
    let long = (runs.2 told).0 in
    ap Long runs.0 ∙ asked_long long.input wanted long.past (asks_of (held walk.capture) long.input wanted long.there wants)
asked_is_answered walk tells held then now (File port) wanted runs behaves wants told none some =
    let failed = fails_absent (walk_ports walk) tells held then now port (behaves.fails port refl) none in
    elim (failed.1) [
      | inl capture ↦
          ap File capture.0
          ∙ sym (asks_none (held walk.capture) wanted (subst (λ (name : List ℕ). held name ≡ None) capture.1 failed.2.none) wants)
      | inr later ↦ elim later [ inl egress ↦ absurd (egress_is_read port egress.0 failed.2.input) | inr nowhere ↦ absurd nowhere ]
    ]
asked_is_answered walk tells held then now Memory wanted runs behaves wants told none some = absurd (some refl)
asked_is_answered walk tells held then now Words wanted runs behaves wants told none some = absurd runs
asked_is_answered walk tells held then now (Setup number reason) wanted runs behaves wants told none some = absurd runs
asked_is_answered walk tells held then now (Control place reason) wanted runs behaves wants told none some = absurd runs
asked_is_answered walk tells held then now (Records number) wanted runs behaves wants told none some = absurd runs
asked_is_answered walk tells held then now (Pcapng place reason) wanted runs behaves wants told none some = absurd runs

-- an answer to a walk's words is no refusal of the words
pub served : (walk : Walk) (tells : Bool) (held : Files) (then now : Port → Shown) (answer : Status) → WalkRuns walk tells held then now answer → answer ≡ Words → ⊥
served walk tells held then now answer runs refused = subst (λ (s : Status). WalkRuns walk tells held then now s) refused runs
