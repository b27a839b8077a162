-- What a command says that turns one input into its outputs, is what its input asks for.
use Rattle.std.proofs.Common.{◌≡◌, ◌≢◌, inl, inr, ℕ, ◌^◌, ◌<◌, Bool, true, List, Option, Some, None, length, refl, sym, ap, ◌∙◌, subst, arith}
use Rattle.sfc_desk.specs.declared.ports.Port.{Port}
use Rattle.sfc_desk.specs.Desks.{Shown, Files}
use Rattle.sfc_desk.specs.Ports.{is_input}
use Rattle.commands.specs.declared.statuses.Status.{Status}
use Rattle.commands.specs.declared.statuses.Status.TheVariants.{Ok, Words, File, Setup, Capture, Control, Memory, Records, Long, Pcapng}
use Rattle.commands.specs.Commands.{Behaves, NoneRose}
use Rattle.commands.specs.Places.{Place, HasPort}
use Rattle.commands.proofs.CommandLemmas.{fails_absent}
use Rattle.frame_streams.specs.Streams.{Relation, AnswersOnce, StreamDone, StreamRuns, StreamWants}

-- an answer that tells what was written
asked_done : (port : Port) (row : List Place) (Writes : Relation) (found : Option (List ℕ)) (then now : Port → Shown) (answer wanted : Status) → AnswersOnce Writes → StreamDone row Writes found then now answer → StreamWants port Writes found wanted → answer ≡ wanted
asked_done port row Writes found then now answer wanted once done wants = from_input (subst (λ (f : Option (List ℕ)). StreamWants port Writes f wanted) done.writes.there wants)
  where
    from_input : StreamWants port Writes (Some done.writes.input) wanted → answer ≡ wanted
    from_input (inl long) =
        let past = long.0 in
        let within = done.within (long.1 answer done.out done.writes.writes) in
        absurd (omega (arith, past, within))
    from_input (inr within) = once done.writes.input answer wanted done.out within.1.0 done.writes.writes within.1.1

-- an input that is too long
asked_long : (port : Port) (Writes : Relation) (found : Option (List ℕ)) (input : List ℕ) (wanted : Status) → found ≡ Some input → 2 ^ 40 < length input → StreamWants port Writes found wanted → Long port ≡ wanted
asked_long port Writes found input wanted there past wants = from_input (subst (λ (f : Option (List ℕ)). StreamWants port Writes f wanted) there wants)
  where
    from_input : StreamWants port Writes (Some input) wanted → Long port ≡ wanted
    from_input (inl long) = sym long.2
    from_input (inr within) = let few = within.0 in absurd (omega (arith, past, few))

-- what the input asks for is the answer, where no call failed and memory was there
pub asked_is_answered : (port : Port) (name : List ℕ) (row : List Place) (Writes : Relation) (tells : Bool) (held : Files) (then now : Port → Shown) (answer wanted : Status) → AnswersOnce Writes → ((own : Port) (word : List ℕ) → HasPort row own word → is_input own ≡ true → (own ≡ port) × (word ≡ name))
    → StreamRuns port row Writes (held name) tells then now answer → Behaves row tells held then now answer → StreamWants port Writes (held name) wanted → tells ≡ true → NoneRose then now → answer ≢ Memory → answer ≡ wanted
asked_is_answered port name row Writes tells held then now Ok wanted once one runs behaves wants told none some =
    asked_done port row Writes (held name) then now Ok wanted once (runs.1 told).0 wants
asked_is_answered port name row Writes tells held then now (Capture place reason) wanted once one runs behaves wants told none some =
    asked_done port row Writes (held name) then now (Capture place reason) wanted once (runs.1 told) wants
asked_is_answered port name row Writes tells held then now (Pcapng place reason) wanted once one runs behaves wants told none some =
    asked_done port row Writes (held name) then now (Pcapng place reason) wanted once (runs.1 told) wants
asked_is_answered port name row Writes tells held then now (Long own) wanted once one runs behaves wants told none some =
    let long = (runs.2 told).0 in
    ap Long runs.0 ∙ asked_long port Writes (held name) long.input wanted long.there long.past wants
asked_is_answered port name row Writes tells held then now (File own) wanted once one runs behaves wants told none some =
    let absent = fails_absent row tells held then now own (behaves.fails own refl) none in
    let is = one own absent.0 absent.1 absent.2.input in
    let missing : held name ≡ None = ap held (sym is.1) ∙ absent.2.none in
    let file : wanted ≡ File port = subst (λ (f : Option (List ℕ)). StreamWants port Writes f wanted) missing wants in
    ap File is.0 ∙ sym file
asked_is_answered port name row Writes tells held then now Memory wanted once one runs behaves wants told none some = absurd (some refl)
asked_is_answered port name row Writes tells held then now Words wanted once one runs behaves wants told none some = absurd runs
asked_is_answered port name row Writes tells held then now (Setup number reason) wanted once one runs behaves wants told none some = absurd runs
asked_is_answered port name row Writes tells held then now (Control place reason) wanted once one runs behaves wants told none some = absurd runs
asked_is_answered port name row Writes tells held then now (Records number) wanted once one runs behaves wants told none some = absurd runs

-- Words is none of its answers
pub served : (port : Port) (row : List Place) (Writes : Relation) (found : Option (List ℕ)) (tells : Bool) (then now : Port → Shown) (answer : Status) → StreamRuns port row Writes found tells then now answer → answer ≡ Words → ⊥
served port row Writes found tells then now answer runs is = subst (λ (s : Status). StreamRuns port row Writes found tells then now s) is runs
