-- From a conversion on bound ports to what a command says that binds an input and an output and does no more.
use Rattle.std.proofs.Common.{◌≡◌, ◌≢◌, inl, inr, ℕ, Bool, true, false, List, [], ◌∷◌, Option, Some, refl, sym, ap, ◌∙◌, subst}
use Rattle.sfc_desk.specs.declared.ports.Port.{Port}
use Rattle.sfc_desk.specs.Desks.{Shown, Files, Rose, raised}
use Rattle.sfc_desk.specs.Ports.{is_input}
use Rattle.commands.specs.declared.statuses.Status.{Status}
use Rattle.commands.specs.declared.statuses.Status.TheVariants as status
use Rattle.commands.specs.Openings.{Opened}
use Rattle.commands.specs.Outputs.{TookAll}
use Rattle.commands.specs.Places.{Place, opens, HasPort, IsRow}
use Rattle.commands.proofs.PlaceLemmas.{opens_stays}
use Rattle.frame_streams.specs.Streams.{at_output, StreamFronts, StreamRuns}
use Rattle.frame_streams.specs.Turning.{OutputRelation, FrontOfAll, Counts, FailsOn, IsEither, Converts}

-- the row of an input and an output
abbrev pub two_ports : Port → Port → List ℕ → List ℕ → List Place
two_ports input output name made = opens input name ∷ opens output made ∷ []

never : (b : Bool) → b ≡ true → b ≡ false → ⊥
never b holds denied = cc

-- the two ports differ
pub two_differ : (input output : Port) → is_input input ≡ true → is_input output ≡ false → input ≢ output
two_differ input output holds denied same = never (is_input input) holds (ap is_input same ∙ denied)

pub two_row : (input output : Port) (name made : List ℕ) → is_input input ≡ true → is_input output ≡ false → IsRow (two_ports input output name made)
two_row input output name made holds denied = ((λ other has. elim has [ inl is ↦ two_differ input output holds denied is.0 | inr none ↦ none ]), ((λ other has. has), tt))

-- the one input of the row
pub one_input : (input output : Port) (name made : List ℕ) → is_input output ≡ false → (own : Port) (word : List ℕ) → HasPort (two_ports input output name made) own word → is_input own ≡ true → (own ≡ input) × (word ≡ name)
one_input input output name made denied own word (inl is) holds = is
one_input input output name made denied own word (inr (inl is)) holds = absurd (never (is_input own) holds (ap is_input is.0 ∙ denied))
one_input input output name made denied own word (inr (inr none)) holds = absurd none

same_input : (found : Option (List ℕ)) (a b : List ℕ) → found ≡ Some a → found ≡ Some b → a ≡ b
same_input found a b is_a is_b = cc

-- a bound output that took a front of what is written
pub took_front : (input output : Port) (name made : List ℕ) (Writes : OutputRelation) (found : Option (List ℕ)) (whole : List ℕ) (then now : Port → Shown) → is_input input ≡ true → (now output).binds ≡ raised (then output).binds → found ≡ Some whole → FrontOfAll Writes whole (now output).written → StreamFronts (two_ports input output name made) (at_output output Writes) found then now
took_front input output name made Writes found whole then now holds once there front = inr (λ all writes.
    let same : writes.1.input ≡ whole = same_input found writes.1.input whole writes.1.there there in
    let written = subst (λ (l : List ℕ). Writes l writes.0 (all output)) same writes.1.writes in
    ((λ out. absurd (never (is_input input) holds out)), ((λ out. ((now output).written, inl (once, refl), front writes.0 (all output) written)), tt)))

took_all : (input output : Port) (name made : List ℕ) (then now : Port → Shown) → is_input input ≡ true → (now output).binds ≡ raised (then output).binds → TookAll (two_ports input output name made) then now (λ port. (now port).written)
took_all input output name made then now holds once = ((λ out. absurd (never (is_input input) holds out)), ((λ out. ((now output).written, inl (once, refl), refl)), tt))

-- what was done on the bound ports, said from before the binds
pub runs_from : (input output : Port) (name made : List ℕ) (Writes : OutputRelation) (tells : Bool) (held : Files) (then mid now : Port → Shown) (answer : Status) → is_input input ≡ true → Opened (two_ports input output name made) tells then mid → (tells ≡ true → held name ≡ Some (mid input).left) → Converts Writes input output tells mid now answer
    → StreamRuns input (two_ports input output name made) (at_output output Writes) (held name) tells then now answer
runs_from input output name made Writes tells held then mid now status.Ok holds was there done =
    let all = opens_stays (two_ports input output name made) tells then mid now done.none_bound was.all in (
      all,
      λ told. let works = done.works told in (
        record {
          out = λ port. (now port).written;
          writes = record { input = (mid input).left; there = there told; writes = works.0 };
          within = λ end. works.1;
          took = took_all input output name made then now holds all.1.0.once;
        },
        works.2,
      ),
    )
runs_from input output name made Writes tells held then mid now (status.Capture place reason) holds was there done =
    let all = opens_stays (two_ports input output name made) tells then mid now done.none_bound was.all in (
      all,
      λ told. let works = done.works told in record {
        out = λ port. (now port).written;
        writes = record { input = (mid input).left; there = there told; writes = works.0 };
        within = works.1;
        took = took_all input output name made then now holds all.1.0.once;
      },
    )
runs_from input output name made Writes tells held then mid now (status.Pcapng place reason) holds was there done =
    let all = opens_stays (two_ports input output name made) tells then mid now done.none_bound was.all in (
      all,
      λ told. let works = done.works told in record {
        out = λ port. (now port).written;
        writes = record { input = (mid input).left; there = there told; writes = works.0 };
        within = works.1;
        took = took_all input output name made then now holds all.1.0.once;
      },
    )
runs_from input output name made Writes tells held then mid now (status.Long port) holds was there done =
    let all = opens_stays (two_ports input output name made) tells then mid now done.none_bound was.all in (
      done.counts.0,
      all,
      λ told. let works = done.works told in (
        record { input = (mid input).left; there = there told; past = works.0 },
        took_front input output name made Writes (held name) (mid input).left then now holds all.1.0.once (there told) works.1,
      ),
    )
runs_from input output name made Writes tells held then mid now (status.File port) holds was there done =
    let all = opens_stays (two_ports input output name made) tells then mid now done.none_bound was.all in
    λ told. took_front input output name made Writes (held name) (mid input).left then now holds all.1.0.once (there told) (done.works told)
runs_from input output name made Writes tells held then mid now status.Memory holds was there done =
    let all = opens_stays (two_ports input output name made) tells then mid now done.none_bound was.all in
    λ told. took_front input output name made Writes (held name) (mid input).left then now holds all.1.0.once (there told) (done.works told)
runs_from input output name made Writes tells held then mid now status.Words holds was there done = done.counts
runs_from input output name made Writes tells held then mid now (status.Setup number reason) holds was there done = done.counts
runs_from input output name made Writes tells held then mid now (status.Control place reason) holds was there done = done.counts
runs_from input output name made Writes tells held then mid now (status.Records number) holds was there done = done.counts

-- ---- the counts of faults

-- an answer File tells that the count of its port rose
pub fails_own : (IsOwn IsLong : Port → Type 0) (then now : Port → Shown) (answer : Status) (port : Port) → Counts IsOwn IsLong then now answer → answer ≡ status.File port → IsOwn port × Rose (then port) (now port)
fails_own IsOwn IsLong then now answer port counts is =
    let fails : FailsOn IsOwn then now port = subst (λ (s : Status). Counts IsOwn IsLong then now s) is counts in
    (fails.own, fails.rose)

-- and no other count changes
pub counts_other : (IsOwn IsLong : Port → Type 0) (then now : Port → Shown) (answer : Status) (port : Port) → Counts IsOwn IsLong then now answer → answer ≢ status.File port → (now port).faults ≡ (then port).faults
counts_other IsOwn IsLong then now status.Ok port counts differs = counts port
counts_other IsOwn IsLong then now (status.File own) port counts differs = counts.others port (λ same. differs (ap status.File (sym same)))
counts_other IsOwn IsLong then now (status.Capture place reason) port counts differs = counts port
counts_other IsOwn IsLong then now (status.Pcapng place reason) port counts differs = counts port
counts_other IsOwn IsLong then now (status.Long own) port counts differs = counts.1 port
counts_other IsOwn IsLong then now status.Memory port counts differs = counts port
counts_other IsOwn IsLong then now status.Words port counts differs = absurd counts
counts_other IsOwn IsLong then now (status.Setup number reason) port counts differs = absurd counts
counts_other IsOwn IsLong then now (status.Control place reason) port counts differs = absurd counts
counts_other IsOwn IsLong then now (status.Records number) port counts differs = absurd counts

-- the port of a failed call, by its name
pub fails_from : (input output : Port) (name made : List ℕ) (then now : Port → Shown) (port : Port) → IsEither input output port × Rose (then port) (now port) → (word : List ℕ) × HasPort (two_ports input output name made) port word × Rose (then port) (now port)
fails_from input output name made then now port (inl is, rose) = (name, inl (is, refl), rose)
fails_from input output name made then now port (inr is, rose) = (made, inr (inl (is, refl)), rose)
