-- From the outcome of the stream to what is done on the bound ports, and from there to what the answers of `walk` say.
use Rattle.std.proofs.Common.{◌≡◌, ◌≢◌, inl, inr, ℕ, ◌≤◌, Bool, true, false, List, Result, Ok, Err, Option, Some, refl, sym, ap, ◌∙◌, subst}
use Rattle.std.specs.Result.{IsErrOf}
use Rattle.sfc_desk.specs.declared.ports.Port.{Port}
use Rattle.sfc_desk.specs.declared.ports.Port.TheVariants.{Capture, Egress}
use Rattle.sfc_desk.specs.Desks.{Shown, Files, Rose, raised}
use Rattle.commands.specs.declared.statuses.Status.{Status}
use Rattle.commands.specs.declared.statuses.Status.TheVariants as status
use Rattle.commands.specs.Openings.{Opened}
use Rattle.commands.specs.Pieces.{NoneBound}
use Rattle.commands.specs.Places.{HasPort, IsRow}
use Rattle.commands.proofs.PlaceLemmas.{opens_stays, same_or_other}
use Rattle.walk_command.specs.declared.walk_streams.WalkFault.{WalkFault}
use Rattle.walk_command.specs.declared.walk_streams.WalkFault.TheVariants as fault
use Rattle.walk_command.specs.declared.walk_words.WalkWords.{WalkWords}
use Rattle.walk_command.specs.WalkCommand.{Walk, Writes, WroteFront, WalkRuns, WalkFronts, walk_ports}
use Rattle.walk_command.specs.WalkSteps.{Ends, WalkWorks, answer_of, input_of, walk_of}
use Rattle.walk_command.proofs.EgressLemmas.{front_of_whole}

never : true ≡ false → ⊥
never e = cc

capture_is_no_egress : Capture ≢ Egress
capture_is_no_egress e = cc

-- the two ports differ
pub walk_row : (walk : Walk) → IsRow (walk_ports walk)
walk_row walk = ((λ other has. elim has [ inl is ↦ capture_is_no_egress is.0 | inr none ↦ none ]), ((λ other has. has), tt))

-- ---- from the outcome of the stream

-- what the outcome says, its status says
pub works_of : (said : WalkWords) (tells : Bool) (then now : Port → Shown) (outcome : Result (Unit {0}) WalkFault) → (tells ≡ true → Ends said.path (input_of then) (input_of now) (now Egress).written outcome) → (IsErrOf outcome fault.Read → Rose (then Capture) (now Capture)) → (IsErrOf outcome fault.Write → Rose (then Egress) (now Egress)) → WalkWorks (walk_of said) tells then now (answer_of outcome)
works_of said tells then now (Ok done) ends read write = ends
works_of said tells then now (Err fault.Read) ends read write = ((inl refl, read refl), ends)
works_of said tells then now (Err fault.Write) ends read write = ((inr refl, write refl), ends)
works_of said tells then now (Err (fault.Capture r)) ends read write = ends
works_of said tells then now (Err fault.Long) ends read write = (refl, ends)
works_of said tells then now (Err fault.OutOfMemory) ends read write = ends

-- a failed read or write is told as such
told_read : (outcome : Result (Unit {0}) WalkFault) → IsErrOf outcome fault.Read → answer_of outcome ≡ status.File Capture
told_read outcome is = ap answer_of is

told_write : (outcome : Result (Unit {0}) WalkFault) → IsErrOf outcome fault.Write → answer_of outcome ≡ status.File Egress
told_write outcome is = ap answer_of is

-- no count changed but that of the port that the status names
pub counts_of : (then now : Port → Shown) (outcome : Result (Unit {0}) WalkFault) → ((IsErrOf outcome fault.Read → ⊥) → (now Capture).faults ≡ (then Capture).faults) → ((IsErrOf outcome fault.Write → ⊥) → (now Egress).faults ≡ (then Egress).faults) → ((port : Port) → port ≢ Capture → port ≢ Egress → now port ≡ then port) → (port : Port) → answer_of outcome ≢ status.File port → (now port).faults ≡ (then port).faults
counts_of then now outcome read write others port differs = elim (same_or_other port Capture) [
  | inl is ↦ subst (λ (p : Port). (now p).faults ≡ (then p).faults) (sym is) (read (λ failed. differs (told_read outcome failed ∙ ap status.File (sym is))))
  | inr no_capture ↦ elim (same_or_other port Egress) [
    | inl is ↦ subst (λ (p : Port). (now p).faults ≡ (then p).faults) (sym is) (write (λ failed. differs (told_write outcome failed ∙ ap status.File (sym is))))
    | inr no_egress ↦ ap (λ (s : Shown). s.faults) (others port no_capture no_egress)
  ]
]

-- ---- from the binds on

one_input : (found : Option (List ℕ)) (a b : List ℕ) → found ≡ Some a → found ≡ Some b → a ≡ b
one_input found a b is_a is_b = cc

-- what the opened egress took is a front of what is written for the capture
took_front : (walk : Walk) (held : Files) (input : List ℕ) (then now : Port → Shown) → 1 ≤ walk.count → walk.count ≤ 255 → (now Egress).binds ≡ raised (then Egress).binds → held walk.capture ≡ Some input → WroteFront walk.spi walk.count input (now Egress).written → WalkFronts walk held then now
took_front walk held input then now some most once there wrote = inr (λ all writes.
    let same : input ≡ writes.1.input = one_input (held walk.capture) input writes.1.input there writes.1.there in
    let whole : Writes walk.spi walk.count input writes.0 (all Egress) = subst (λ (l : List ℕ). Writes walk.spi walk.count l writes.0 (all Egress)) (sym same) writes.1.writes in
    let front = front_of_whole walk.spi walk.count input (now Egress).written (all Egress) writes.0 some most wrote whole in
    ((λ out. absurd (never out)), ((λ out. ((now Egress).written, inl (once, refl), front)), tt)))

-- what was done on the bound ports, said from before the binds
pub runs_from : (walk : Walk) (tells : Bool) (held : Files) (then mid now : Port → Shown) (answer : Status) → 1 ≤ walk.count → walk.count ≤ 255 → Opened (walk_ports walk) tells then mid → NoneBound tells mid now → (tells ≡ true → held walk.capture ≡ Some (input_of mid)) → WalkWorks walk tells mid now answer → WalkRuns walk tells held then now answer
runs_from walk tells held then mid now status.Ok some most was none there works =
    let all = opens_stays (walk_ports walk) tells then mid now none was.all in (
      all,
      λ told. let done = works told in (
        record {
          out = λ port. (now port).written;
          writes = record { input = input_of mid; there = there told; writes = done.2 };
          within = done.0;
          took = ((λ out. absurd (never out)), ((λ out. ((now Egress).written, inl (all.1.0.once, refl), refl)), tt));
        },
        done.1,
      ),
    )
runs_from walk tells held then mid now (status.Capture place reason) some most was none there works =
    let all = opens_stays (walk_ports walk) tells then mid now none was.all in (
      all,
      λ told. let done = works told in record {
        out = λ port. (now port).written;
        writes = record { input = input_of mid; there = there told; writes = done.0 };
        short = done.1;
        took = ((λ out. absurd (never out)), ((λ out. ((now Egress).written, inl (all.1.0.once, refl), refl)), tt));
      },
    )
runs_from walk tells held then mid now (status.Long port) some most was none there works =
    let all = opens_stays (walk_ports walk) tells then mid now none was.all in (
      works.0,
      all,
      λ told. let long = works.1 told in (
        record { input = input_of mid; there = there told; past = long.0 },
        took_front walk held (input_of mid) then now some most all.1.0.once (there told) long.1,
      ),
    )
runs_from walk tells held then mid now (status.File port) some most was none there works =
    let all = opens_stays (walk_ports walk) tells then mid now none was.all in
    λ told. took_front walk held (input_of mid) then now some most all.1.0.once (there told) (works.1 told)
runs_from walk tells held then mid now status.Memory some most was none there works =
    let all = opens_stays (walk_ports walk) tells then mid now none was.all in
    λ told. took_front walk held (input_of mid) then now some most all.1.0.once (there told) (works told)
runs_from walk tells held then mid now status.Words some most was none there works = works
runs_from walk tells held then mid now (status.Setup number reason) some most was none there works = works
runs_from walk tells held then mid now (status.Control place reason) some most was none there works = works
runs_from walk tells held then mid now (status.Records number) some most was none there works = works
runs_from walk tells held then mid now (status.Pcapng place reason) some most was none there works = works

-- where the work fails with File, a count rose
pub fails_from : (walk : Walk) (tells : Bool) (then now : Port → Shown) (answer : Status) (port : Port) → WalkWorks walk tells then now answer → answer ≡ status.File port → (name : List ℕ) × HasPort (walk_ports walk) port name × Rose (then port) (now port)
fails_from walk tells then now (status.File own) port works is =
    let same : own ≡ port = cc in
    let rose : Rose (then port) (now port) = subst (λ p. Rose (then p) (now p)) same works.0.1 in
    elim (works.0.0) [
      | inl capture ↦ (walk.capture, inl (sym same ∙ capture, refl), rose)
      | inr egress ↦ (walk.egress, inr (inl (sym same ∙ egress, refl)), rose)
    ]
fails_from walk tells then now status.Ok port works is = cc
fails_from walk tells then now status.Words port works is = cc
fails_from walk tells then now (status.Capture place reason) port works is = cc
fails_from walk tells then now status.Memory port works is = cc
fails_from walk tells then now (status.Long own) port works is = cc
fails_from walk tells then now (status.Setup number reason) port works is = cc
fails_from walk tells then now (status.Control place reason) port works is = cc
fails_from walk tells then now (status.Records number) port works is = cc
fails_from walk tells then now (status.Pcapng place reason) port works is = cc
