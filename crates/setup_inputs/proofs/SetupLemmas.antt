-- The laws of a command that stands on a setup, from those of its own work with it.
use Rattle.std.proofs.Common.{◌≡◌, ◌≢◌, inl, inr, ℕ, ◌≤◌, Bool, true, List, ◌∷◌, Option, Some, None, length, refl, sym, ◌∙◌, ap₂, subst, arith}
use Rattle.sfc_desk.specs.declared.ports.Port.{Port}
use Rattle.sfc_desk.specs.declared.ports.Port.TheVariants as ports
use Rattle.sfc_desk.specs.Desks.{Shown, Files}
use Rattle.sfc_config.specs.Parts.{Parts}
use Rattle.sfc_config.specs.Texts.{IsSetup}
use Rattle.sfc_config.proofs.LawLemmas.{one_setup, one_refusal, setup_not_refused}
use Rattle.commands.specs.declared.statuses.Status.{Status}
use Rattle.commands.specs.declared.statuses.Status.TheVariants.{Ok, Words, File, Setup, Capture, Control, Memory, Records, Long, Pcapng}
use Rattle.commands.specs.Commands.{Behaves, NoneRose}
use Rattle.commands.specs.Places.{Place, IsRow, HasPort}
use Rattle.commands.proofs.CommandLemmas.{asks_once, asks_absent, asks_long, asks_judged, fails_absent}
use Rattle.setup_inputs.specs.Setups.{setup_place, HoldsSetup, StopsAtSetup, RunsOnSetup, TextAsks, SetupAsks}

some_injective : {x y : List ℕ} → Some x ≡ Some y → x ≡ y
some_injective e = cc

-- a file holds one setup
pub one_held : (name : List ℕ) (held : Files) (a b : Parts) → HoldsSetup name held a → HoldsSetup name held b → a ≡ b
one_held name held a b is_a is_b =
    let same : is_a.text ≡ is_b.text = some_injective (sym is_a.there ∙ is_b.there) in
    one_setup is_b.text a b (subst (λ (t : List ℕ). IsSetup t a) same is_a.spelled) is_b.spelled

-- a text asks for one answer, where its setup does
text_asks_once : (Judged : Parts → Status → Type 0) → ((setup : Parts) (c d : Status) → Judged setup c → Judged setup d → c ≡ d) → (text : List ℕ) (a b : Status) → TextAsks Judged text a → TextAsks Judged text b → a ≡ b
text_asks_once Judged once text a b (inl bad_a) (inl bad_b) =
    let same = one_refusal text bad_a.0 bad_b.0 bad_a.1 bad_b.1 bad_a.2 bad_b.2 in
    bad_a.3 ∙ ap₂ Setup same.0 same.1 ∙ sym bad_b.3
text_asks_once Judged once text a b (inl bad_a) (inr is_b) = absurd (setup_not_refused text is_b.0 bad_a.0 bad_a.1 is_b.1 bad_a.2)
text_asks_once Judged once text a b (inr is_a) (inl bad_b) = absurd (setup_not_refused text is_a.0 bad_b.0 bad_b.1 is_a.1 bad_b.2)
text_asks_once Judged once text a b (inr is_a) (inr is_b) =
    once is_b.0 a b (subst (λ (s : Parts). Judged s a) (one_setup text is_a.0 is_b.0 is_a.1 is_b.1) is_a.2) is_b.2

-- and so does the file, whatever is under the name
pub setup_asks_once : (Judged : Parts → Status → Type 0) (found : Option (List ℕ)) (a b : Status) → ((setup : Parts) (c d : Status) → Judged setup c → Judged setup d → c ≡ d) → SetupAsks Judged found a → SetupAsks Judged found b → a ≡ b
setup_asks_once Judged found a b once = asks_once ports.Setup _ (TextAsks Judged) found a b (text_asks_once Judged once)

-- what the setup asks for, the file does
pub setup_asks : (Judged : Parts → Status → Type 0) (name : List ℕ) (held : Files) (setup : Parts) (answer : Status) → HoldsSetup name held setup → Judged setup answer → SetupAsks Judged (held name) answer
setup_asks Judged name held setup answer holds judged =
    asks_judged ports.Setup _ (TextAsks Judged) (held name) holds.text answer holds.there holds.within (inr (setup, holds.spelled, judged))

-- where Setup stands first in a row, it has one word there
one_word : (name word : List ℕ) (later : List Place) → IsRow (setup_place name ∷ later) → HasPort (setup_place name ∷ later) ports.Setup word → word ≡ name
one_word name word later row (inl is) = is.1
one_word name word later row (inr has) = absurd (row.0 word has)

-- a call that ended before it had a setup has its cause in the file
pub stop_is_asked : (Judged : Parts → Status → Type 0) (name : List ℕ) (later : List Place) (tells : Bool) (held : Files) (then now : Port → Shown) (answer : Status) → IsRow (setup_place name ∷ later) → StopsAtSetup name tells held then now answer → Behaves (setup_place name ∷ later) tells held then now answer → tells ≡ true → NoneRose then now → answer ≢ Memory → SetupAsks Judged (held name) answer
stop_is_asked Judged name later tells held then now (File port) row stops behaves told none some =
    let failed = fails_absent (setup_place name ∷ later) tells held then now port (behaves.fails port refl) none in
    let own : failed.0 ≡ name = one_word name failed.0 later row (subst (λ (p : Port). HasPort (setup_place name ∷ later) p failed.0) stops.cause failed.1) in
    subst (λ (p : Port). SetupAsks Judged (held name) (File p)) (sym stops.cause)
    (asks_absent ports.Setup _ (TextAsks Judged) (held name) (subst (λ (n : List ℕ). held n ≡ None) own failed.2.none))
stop_is_asked Judged name later tells held then now (Long port) row stops behaves told none some =
    let long = stops.cause.2 told in
    subst (λ (p : Port). SetupAsks Judged (held name) (Long p)) (sym stops.cause.0)
    (asks_long ports.Setup _ (TextAsks Judged) (held name) long.text long.there long.past)
stop_is_asked Judged name later tells held then now (Setup line reason) row stops behaves told none some =
    let bad = stops.cause.1 told in
    asks_judged ports.Setup _ (TextAsks Judged) (held name) bad.text (Setup line reason) bad.there bad.within (inl (line, reason, bad.refused, refl))
stop_is_asked Judged name later tells held then now Memory row stops behaves told none some = absurd (some refl)
stop_is_asked Judged name later tells held then now Ok row stops behaves told none some = absurd stops.cause
stop_is_asked Judged name later tells held then now Words row stops behaves told none some = absurd stops.cause
stop_is_asked Judged name later tells held then now (Capture place reason) row stops behaves told none some = absurd stops.cause
stop_is_asked Judged name later tells held then now (Control place reason) row stops behaves told none some = absurd stops.cause
stop_is_asked Judged name later tells held then now (Records number) row stops behaves told none some = absurd stops.cause
stop_is_asked Judged name later tells held then now (Pcapng place reason) row stops behaves told none some = absurd stops.cause

-- Each answer of a command that stands on a setup has its cause, where that of its own work with the setup has.
pub caused_on_setup : (Judged : Parts → Status → Type 0) (Works : Parts → Type 0) (name : List ℕ) (later : List Place) (tells : Bool) (held : Files) (then now : Port → Shown) (answer : Status) → IsRow (setup_place name ∷ later)
    → ((setup : Parts) → HoldsSetup name held setup → Works setup → Judged setup answer)
    → RunsOnSetup name Works tells held then now answer → Behaves (setup_place name ∷ later) tells held then now answer → tells ≡ true → NoneRose then now → answer ≢ Memory → SetupAsks Judged (held name) answer
caused_on_setup Judged Works name later tells held then now answer row own (inl stops) behaves told none some =
    stop_is_asked Judged name later tells held then now answer row stops behaves told none some
caused_on_setup Judged Works name later tells held then now answer row own (inr (setup, holds, works)) behaves told none some =
    setup_asks Judged name held setup answer (holds told) (own setup (holds told) works)

-- no such call answers Words, where its own work does not
pub never_words_on_setup : (Works : Parts → Type 0) (name : List ℕ) (tells : Bool) (held : Files) (then now : Port → Shown) → ((setup : Parts) → Works setup → ⊥) → RunsOnSetup name Works tells held then now Words → ⊥
never_words_on_setup Works name tells held then now never (inl stops) = stops.cause
never_words_on_setup Works name tells held then now never (inr (setup, holds, works)) = never setup works

-- ---- for a command whose own work is asked by more than what its setup and files have as their one answer

judged_in : (Judged : Parts → Status → Type 0) (text : List ℕ) (setup : Parts) (wanted : Status) → length text ≤ 1048576 → IsSetup text setup → SetupAsks Judged (Some text) wanted → Judged setup wanted
judged_in Judged text setup wanted within spelled (inl long) = let past = long.0 in absurd (omega (arith, past, within))
judged_in Judged text setup wanted within spelled (inr (few, inl bad)) = absurd (setup_not_refused text setup bad.0 bad.1 spelled bad.2)
judged_in Judged text setup wanted within spelled (inr (few, inr is)) =
    subst (λ (s : Parts). Judged s wanted) (one_setup text is.0 setup is.1 spelled) is.2

-- what the file asks for, whose setup is known, the setup does
pub judged_of : (Judged : Parts → Status → Type 0) (name : List ℕ) (held : Files) (setup : Parts) (wanted : Status) → HoldsSetup name held setup → SetupAsks Judged (held name) wanted → Judged setup wanted
judged_of Judged name held setup wanted holds asks =
    judged_in Judged holds.text setup wanted holds.within holds.spelled (subst (λ (f : Option (List ℕ)). SetupAsks Judged f wanted) holds.there asks)

-- what an answer that came before there was a setup says is what the file asks for
pub stop_is_wanted : (Judged : Parts → Status → Type 0) (found : Option (List ℕ)) (answer wanted : Status) → SetupAsks (λ setup asked. ⊥) found answer → SetupAsks Judged found wanted → answer ≡ wanted
stop_is_wanted Judged None answer wanted stopped asks = stopped ∙ sym asks
stop_is_wanted Judged (Some text) answer wanted (inl long) (inl long') = long.1 ∙ sym long'.1
stop_is_wanted Judged (Some text) answer wanted (inl long) (inr within) = let past = long.0 in let few = within.0 in absurd (omega (arith, past, few))
stop_is_wanted Judged (Some text) answer wanted (inr within) (inl long) = let past = long.0 in let few = within.0 in absurd (omega (arith, past, few))
stop_is_wanted Judged (Some text) answer wanted (inr (few, inr is)) (inr asks) = absurd is.2
stop_is_wanted Judged (Some text) answer wanted (inr (few, inl bad)) (inr (_, inl bad')) =
    let same = one_refusal text bad.0 bad'.0 bad.1 bad'.1 bad.2 bad'.2 in
    bad.3 ∙ ap₂ Setup same.0 same.1 ∙ sym bad'.3
stop_is_wanted Judged (Some text) answer wanted (inr (few, inl bad)) (inr (_, inr is)) = absurd (setup_not_refused text is.0 bad.0 bad.1 is.1 bad.2)

-- What the files ask for is the answer, where it is for a call that has its setup.
pub wanted_on_setup : (Judged : Parts → Status → Type 0) (Works : Parts → Type 0) (name : List ℕ) (later : List Place) (tells : Bool) (held : Files) (then now : Port → Shown) (answer wanted : Status) → IsRow (setup_place name ∷ later)
    → ((setup : Parts) → HoldsSetup name held setup → Works setup → Judged setup wanted → answer ≡ wanted)
    → RunsOnSetup name Works tells held then now answer → Behaves (setup_place name ∷ later) tells held then now answer → SetupAsks Judged (held name) wanted → tells ≡ true → NoneRose then now → answer ≢ Memory → answer ≡ wanted
wanted_on_setup Judged Works name later tells held then now answer wanted row own (inl stops) behaves asks told none some =
    stop_is_wanted Judged (held name) answer wanted (stop_is_asked (λ setup asked. ⊥) name later tells held then now answer row stops behaves told none some) asks
wanted_on_setup Judged Works name later tells held then now answer wanted row own (inr (setup, holds, works)) behaves asks told none some =
    own setup (holds told) works (judged_of Judged name held setup wanted (holds told) asks)
