-- Lines that are taken one after another.
use Rattle.std.proofs.Common.{◌≡◌, ℕ, zero, suc, ◌+◌, ◌<◌, ◌≤◌, List, [], ◌∷◌, ◌++◌, length, take, drop, refl, sym, subst, ap, ◌∙◌, arith, add-one, inl, inr, Result, Ok, Err, length-take-le}
use Rattle.std.specs.Prelude.{◌==◌, Bool, true, false, if◌then◌else◌}
use Rattle.std.specs.List.{onto_first}
use Rattle.std.proofs.lemmas.List.{append-nil, take-append-drop}
use Rattle.text_words.specs.Lines.{lines_of}
use Rattle.sfc_config.specs.declared.drafts.Draft.{Draft}
use Rattle.sfc_config.specs.declared.faults.SetupReason.{SetupReason}
use Rattle.sfc_config.specs.declared.faults.SetupFault.{SetupFault}
use Rattle.sfc_config.specs.declared.faults.SetupFault.TheVariants.{Line, OutOfMemory}
use Rattle.sfc_config.specs.declared.faults.SetupReason.TheVariants.{Missing}
use Rattle.sfc_config.specs.Parts.{Parts}
use Rattle.sfc_config.specs.Drafts.{nothing}
use Rattle.sfc_config.specs.Steps.{IsDraft, Taken, fault_at, Finished}
use Rattle.sfc_config.specs.declared.faults.LineFault.{LineFault}
use Rattle.sfc_config.specs.declared.faults.LineFault.TheVariants as line_fault
use Rattle.sfc_config.specs.Texts.{Takes, Runs, Refuses, IsRefused, Parses}
use Rattle.sfc_config.proofs.KeepingLemmas.{runs_kept, nothing_kept}

-- one more line
runs_more : (d m e : Draft) (lines : List (List ℕ)) (line : List ℕ) → Runs d lines m → Takes m line e → Runs d (lines ++ line ∷ []) e
runs_more d m e [] line runs takes = (e, subst (λ x. Takes x line e) runs takes, refl)
runs_more d m e (l ∷ ls) line runs takes = (runs.0, runs.1, runs_more runs.0 m e ls line runs.2 takes)

take_step : {X : Type 0} (n : ℕ) (xs : List X) (x : X) (rest : List X) → drop n xs ≡ x ∷ rest → take (suc n) xs ≡ take n xs ++ x ∷ []
take_step zero [] x rest h = absurd (omega (arith, ap length h))
take_step zero (y ∷ ys) x rest h = let same : y ≡ x = cc in ap (λ z. z ∷ []) same
take_step (suc n) [] x rest h = absurd (omega (arith, ap length h))
take_step (suc n) (y ∷ ys) x rest h = ap (λ zs. y ∷ zs) (take_step n ys x rest h)

drop_step : {X : Type 0} (n : ℕ) (xs : List X) (x : X) (rest : List X) → drop n xs ≡ x ∷ rest → drop (suc n) xs ≡ rest
drop_step zero [] x rest h = absurd (omega (arith, ap length h))
drop_step zero (y ∷ ys) x rest h = cc
drop_step (suc n) [] x rest h = absurd (omega (arith, ap length h))
drop_step (suc n) (y ∷ ys) x rest h = drop_step n ys x rest h

within : {X : Type 0} (n : ℕ) (xs : List X) (x : X) (rest : List X) → drop n xs ≡ x ∷ rest → n < length xs
within zero [] x rest h = absurd (omega (arith, ap length h))
within zero (y ∷ ys) x rest h = omega arith
within (suc n) [] x rest h = absurd (omega (arith, ap length h))
within (suc n) (y ∷ ys) x rest h = let less = within n ys x rest h in omega (arith, less)

all_taken : {X : Type 0} (n : ℕ) (xs : List X) → drop n xs ≡ [] → take n xs ≡ xs
all_taken n xs h = sym (append-nil (take n xs)) ∙ ap (λ r. take n xs ++ r) (sym h) ∙ take-append-drop n xs

onto_few : (b : ℕ) (ls : List (List ℕ)) (n : ℕ) → length ls ≤ n → length (onto_first b ls) ≤ n + 1
onto_few b [] n h = omega arith
onto_few b (l ∷ ls) n h = omega (arith, h)

few_or : (t : Bool) (b : ℕ) (ls : List (List ℕ)) (n : ℕ) → length ls ≤ n → length (if t then [] ∷ ls else onto_first b ls) ≤ n + 1
few_or true b ls n h = omega (arith, h)
few_or false b ls n h = onto_few b ls n h

-- a text has at most as many lines as bytes
pub few_lines : (text : List ℕ) → length (lines_of text) ≤ length text
unfolding lines_of
few_lines [] = omega arith
few_lines (b ∷ bs) = let rest = few_or (b == 10) b (lines_of bs) (length bs) (few_lines bs) in omega (arith, rest)

-- the next line is within the text
pub line_within : (text : List ℕ) (n : ℕ) (line : List ℕ) (rest : List (List ℕ)) → drop n (lines_of text) ≡ line ∷ rest → n < length text
line_within text n line rest h = let few = few_lines text in let less = within n (lines_of text) line rest h in omega (arith, few, less)

-- the lines so far with the next one
pub so_far_more : (text : List ℕ) (n : ℕ) (line : List ℕ) (rest : List (List ℕ)) (d e : Draft) → drop n (lines_of text) ≡ line ∷ rest
    → Runs nothing (take n (lines_of text)) d → Takes d line e → Runs nothing (take (n + 1) (lines_of text)) e
so_far_more text n line rest d e h runs takes =
    let step = ap (λ k. take k (lines_of text)) (add-one n) ∙ take_step n (lines_of text) line rest h in
    subst (λ ls. Runs nothing ls e) (sym step) (runs_more nothing d e (take n (lines_of text)) line runs takes)

pub to_come_less : (text : List ℕ) (n : ℕ) (line : List ℕ) (rest : List (List ℕ)) → drop n (lines_of text) ≡ line ∷ rest → drop (n + 1) (lines_of text) ≡ rest
to_come_less text n line rest h = ap (λ k. drop k (lines_of text)) (add-one n) ∙ drop_step n (lines_of text) line rest h

-- a line that is refused
refused_here : (text : List ℕ) (n : ℕ) (line : List ℕ) (rest : List (List ℕ)) (d : Draft) (r : SetupReason) → drop n (lines_of text) ≡ line ∷ rest
    → Runs nothing (take n (lines_of text)) d → Refuses d line r → IsRefused text (n + 1) r
refused_here text n line rest d r h runs refuses =
    let less = within n (lines_of text) line rest h in
    inl (record {
      before = take n (lines_of text);
      line = line;
      behind = rest;
      lines = sym (take-append-drop n (lines_of text)) ∙ ap (λ ls. take n (lines_of text) ++ ls) h;
      number = ap (λ k. k + 1) (sym (length-take-le n (lines_of text) (omega (arith, less))));
      draft = d;
      runs = runs;
      refused = refuses;
    })

-- a line that is not taken
pub parses_not : (text : List ℕ) (n : ℕ) (line : List ℕ) (rest : List (List ℕ)) (d e : Draft) (f : LineFault) (g : SetupFault)
    → drop n (lines_of text) ≡ line ∷ rest → Runs nothing (take n (lines_of text)) d → Taken d line (Err f) e → g ≡ fault_at (n + 1) f
    → Parses text (Err g)
parses_not text n line rest d e (line_fault.Reason r) g h runs refuses is = subst (λ g. Parses text (Err g)) (sym is) (refused_here text n line rest d r h runs refuses)
parses_not text n line rest d e line_fault.OutOfMemory g h runs refuses is = subst (λ g. Parses text (Err g)) (sym is) tt

-- all lines
pub all_run : (text : List ℕ) (n : ℕ) (d : Draft) → drop n (lines_of text) ≡ [] → Runs nothing (take n (lines_of text)) d → Runs nothing (lines_of text) d
all_run text n d h runs = subst (λ ls. Runs nothing ls d) (all_taken n (lines_of text) h) runs

pub so_far_kept : (text : List ℕ) (n : ℕ) (d : Draft) → Runs nothing (take n (lines_of text)) d → IsDraft d
so_far_kept text n d runs = runs_kept nothing d (take n (lines_of text)) runs nothing_kept

abbrev number_of : SetupFault → ℕ
number_of (Line n r) = n
number_of OutOfMemory = 0

abbrev reason_of : SetupFault → SetupReason
reason_of (Line n r) = r
reason_of OutOfMemory = Missing

-- what the end answers is what parsing answers
pub parses_as_finished : (text : List ℕ) (d : Draft) (r : Result Parts SetupFault) → Runs nothing (lines_of text) d → Finished d r → Parses text r
parses_as_finished text d (Ok p) runs ends = record { draft = d; runs = runs; ends = ends }
parses_as_finished text d (Err (Line n r)) runs short =
    inr (record { number = ap number_of short.0; missing = ap reason_of short.0; draft = d; runs = runs; short = short.1 })
parses_as_finished text d (Err OutOfMemory) runs short = tt
