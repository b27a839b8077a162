-- The facts of `generate`: its words say one thing, each answer has its cause, and one thing is asked for; and what is said where
-- Report was written to.
use Rattle.std.proofs.Common.{◌≡◌, ◌≢◌, arith, inl, inr, ℕ, Bool, true, List, [], ◌∷◌, ◌++◌, codes, decimal, refl, sym, ap, subst, ◌∙◌}
use Rattle.std.proofs.lemmas.Fmt.{decimal_injective}
use Rattle.sfc_desk.specs.declared.ports.Port.{Port}
use Rattle.sfc_desk.specs.declared.ports.Port.TheVariants as ports
use Rattle.sfc_desk.specs.Desks.{Shown, Files, Moves, Rose}
use Rattle.sfc_desk.specs.Ports.{is_input}
use Rattle.commands.specs.declared.statuses.Status.{Status}
use Rattle.commands.specs.declared.statuses.Status.TheVariants as status
use Rattle.commands.specs.Commands.{Behaves, NoneRose}
use Rattle.commands.specs.Fronts.{IsFrontBehind}
use Rattle.commands.specs.Outputs.{fronts}
use Rattle.commands.specs.Pieces.{NoneBound, SameCounts}
use Rattle.commands.proofs.CommandLemmas.{Laws, fails_absent}
use Rattle.commands.proofs.PlaceLemmas.{behaves_so, none_opened, opened_reports, same_or_other}
use Rattle.generate_command.specs.GenerateCommand.{Generate, GenerateEnds, GenerateFronts, GenerateRuns, GenerateWants, IsGenerate, generate_ports}
use Rattle.generate_command.specs.GenerateSteps.{IsSummaryText}

-- ---- the words

-- words are those of one command
one_generate : (words : List (List ℕ)) (a b : Generate) → IsGenerate words a → IsGenerate words b → a ≡ b
one_generate words a b is_a is_b =
    let same : codes "generate" ∷ decimal a.seed ∷ decimal a.count ∷ [] ≡ codes "generate" ∷ decimal b.seed ∷ decimal b.count ∷ [] = sym is_a.spelled ∙ is_b.spelled in
    let seeds : decimal a.seed ≡ decimal b.seed = cc in
    let counts : decimal a.count ≡ decimal b.count = cc in
    let seed : a.seed ≡ b.seed = decimal_injective a.seed b.seed is_a.seed_range is_b.seed_range seeds in
    let count : a.count ≡ b.count = decimal_injective a.count b.count (omega (arith, is_a.most)) (omega (arith, is_b.most)) counts in
    λ k. record { seed = seed k; count = count k }

-- ---- the answers

report_is_read : (port : Port) → port ≡ ports.Report → is_input port ≡ true → ⊥
report_is_read port is reads = let e : is_input ports.Report ≡ true = subst (λ (p : Port). is_input p ≡ true) is reads in cc

-- no input can be absent, so Ok is answered where no call failed and memory was there
caused : (said : Generate) (tells : Bool) (held : Files) (then now : Port → Shown) (answer : Status) → GenerateRuns said tells held then now answer → Behaves (generate_ports said) tells held then now answer → tells ≡ true → NoneRose then now → answer ≢ status.Memory → GenerateWants said held answer
caused said tells held then now status.Ok runs behaves told none some = refl
caused said tells held then now (status.File port) runs behaves told none some =
    let failed = fails_absent (generate_ports said) tells held then now port (behaves.fails port refl) none in
    elim (failed.1) [ inl report ↦ absurd (report_is_read port report.0 failed.2.input) | inr nowhere ↦ absurd nowhere ]
caused said tells held then now status.Memory runs behaves told none some = absurd (some refl)
caused said tells held then now status.Words runs behaves told none some = absurd runs
caused said tells held then now (status.Long port) runs behaves told none some = absurd runs
caused said tells held then now (status.Capture place reason) runs behaves told none some = absurd runs
caused said tells held then now (status.Setup number reason) runs behaves told none some = absurd runs
caused said tells held then now (status.Control place reason) runs behaves told none some = absurd runs
caused said tells held then now (status.Records number) runs behaves told none some = absurd runs
caused said tells held then now (status.Pcapng place reason) runs behaves told none some = absurd runs

pub generate_laws : Laws IsGenerate generate_ports GenerateRuns GenerateWants
generate_laws = record {
  one = one_generate;
  never_words = λ said tells held then now runs. runs;
  caused = caused;
  exclusive = λ said held a b is_a is_b. is_a ∙ sym is_b;
}

-- ---- where the line was written to Report

pub took_line : (said : Generate) (line lent : List ℕ) (then now : Port → Shown) → IsSummaryText said.seed said.count line → lent ≡ line → (now ports.Report).written ≡ (then ports.Report).written ++ lent → GenerateEnds said then now
took_line said line lent then now is same written = record {
  out = λ port. lent;
  writes = record { summary = is.0; counted = is.1; text = same ∙ is.2 };
  took = ((lent, written, refl), tt);
}

pub took_front : (said : Generate) (line lent : List ℕ) (then now : Port → Shown) → IsSummaryText said.seed said.count line → lent ≡ line → IsFrontBehind (then ports.Report).written (now ports.Report).written lent → GenerateFronts said then now
took_front said line lent then now is same front = fronts (λ port. lent) (record { summary = is.0; counted = is.1; text = same ∙ is.2 }) ((front.0, front.1, front.2), tt)

-- nothing but Report was touched
none_bound : (tells : Bool) (held has : Files) (then now : Port → Shown) → Moves tells ports.Report held has then now → NoneBound tells then now
none_bound tells held has then now moves = record {
  binds = λ port. elim (same_or_other port ports.Report) [
    | inl is ↦ subst (λ (p : Port). (now p).binds ≡ (then p).binds) (sym is) moves.same_binds
    | inr other ↦ ap (λ (s : Shown). s.binds) (moves.elsewhere port other)
  ];
  names = λ told port. elim (same_or_other port ports.Report) [
    | inl is ↦ subst (λ (p : Port). (now p).name ≡ (then p).name) (sym is) (moves.same_name told)
    | inr other ↦ ap (λ (s : Shown). s.name) (moves.elsewhere port other)
  ];
}

-- Ok, where no count changed
pub behaves_ok : (said : Generate) (tells : Bool) (held has : Files) (then now : Port → Shown) → Moves tells ports.Report held has then now → SameCounts then now → Behaves (generate_ports said) tells held then now status.Ok
behaves_ok said tells held has then now moves quiet =
    behaves_so (generate_ports said) [] tells held then then now status.Ok ((λ other has_it. has_it), tt)
    (opened_reports [] tells then then ((λ other has_it. has_it), tt) (none_opened tells then))
    (none_bound tells held has then now moves)
    (λ port outside. moves.elsewhere port (λ is. outside [] (inl (is, refl))))
    (λ port is. cc)
    (λ port differs. quiet port)

-- File of Report, where its count rose
pub behaves_failed : (said : Generate) (tells : Bool) (held has : Files) (then now : Port → Shown) → Moves tells ports.Report held has then now → Rose (then ports.Report) (now ports.Report) → Behaves (generate_ports said) tells held then now (status.File ports.Report)
behaves_failed said tells held has then now moves rose =
    behaves_so (generate_ports said) [] tells held then then now (status.File ports.Report) ((λ other has_it. has_it), tt)
    (opened_reports [] tells then then ((λ other has_it. has_it), tt) (none_opened tells then))
    (none_bound tells held has then now moves)
    (λ port outside. moves.elsewhere port (λ is. outside [] (inl (is, refl))))
    (λ port is. let same : port ≡ ports.Report = cc in ([], inl (same, refl), subst (λ (p : Port). Rose (then p) (now p)) (sym same) rose))
    (λ port differs. ap (λ (s : Shown). s.faults) (moves.elsewhere port (λ is. differs (ap status.File (sym is)))))
