-- The lines of a stream behind what Report had.
use Rattle.std.proofs.Common.{◌≡◌, ℕ, List, [], ◌++◌, append_assoc, append-nil, refl, sym, ap, subst, ◌∙◌}
use Rattle.sfc_texts.specs.BgpText.{ShowsBgp}
use Rattle.sfc_texts.specs.Showings.{Showing, Stands}
use Rattle.sfc_texts.proofs.BgpReadings.{one_text}
use Rattle.commands.specs.Fronts.{IsFrontBehind}
use Rattle.show_command.specs.ShowSteps.{GaveLines}

-- what was written is a front of the text, whatever is left
pub gave_front : (lines : Showing) (taken before written left text : List ℕ) → GaveLines lines taken before written → ShowsBgp (taken ++ left) text → IsFrontBehind before written text
gave_front lines taken before written left text gave shows =
    let more = gave.stands.only left text shows in
    (gave.given, gave.put, (more.0, sym more.1))

-- lines were given that no text has behind them yet
pub gave_none : (lines : Showing) (taken before written out : List ℕ) → out ≡ [] → (gave : GaveLines lines taken before written) → Stands lines taken (gave.given ++ out)
gave_none lines taken before written out empty gave =
    subst (λ (o : List ℕ). Stands lines taken o) (sym (append-nil gave.given) ∙ ap (λ (o : List ℕ). gave.given ++ o) (sym empty)) gave.stands

-- all that was to be written stands behind what was there
pub all_behind : (before was now given out : List ℕ) → was ≡ before ++ given → now ≡ was ++ out → now ≡ before ++ (given ++ out)
all_behind before was now given out put wrote = wrote ∙ (ap (λ (w : List ℕ). w ++ out) put ∙ append_assoc before given out)

-- and were written
pub gave_more : (new : Showing) (taken before was out now given : List ℕ) → was ≡ before ++ given → Stands new taken (given ++ out) → now ≡ was ++ out → GaveLines new taken before now
gave_more new taken before was out now given put stands wrote = record {
  given = given ++ out;
  stands = stands;
  put = all_behind before was now given out put wrote;
}

-- or a front of them was
pub front_of_more : (before was now given out later text : List ℕ) → was ≡ before ++ given → text ≡ (given ++ out) ++ later → IsFrontBehind was now out → IsFrontBehind before now text
front_of_more before was now given out later text put is front = (
  given ++ front.0,
  front.1 ∙ (ap (λ (w : List ℕ). w ++ front.0) put ∙ append_assoc before given front.0),
  (
    front.2.0 ++ later,
    sym (append_assoc (given ++ front.0) front.2.0 later)
        ∙ (ap (λ (w : List ℕ). w ++ later) (append_assoc given front.0 front.2.0 ∙ ap (λ (w : List ℕ). given ++ w) front.2.1) ∙ sym is),
  ),
)

-- the stream has ended: a front of its one text was written
pub end_front : (taken before was now given out text : List ℕ) → was ≡ before ++ given → ShowsBgp taken (given ++ out) → ShowsBgp taken text → IsFrontBehind was now out → IsFrontBehind before now text
end_front taken before was now given out text put whole shows front =
    front_of_more before was now given out [] text put (one_text 0 taken text (given ++ out) shows whole ∙ sym (append-nil (given ++ out))) front

-- nothing more was written, and the stream ends here
pub gave_front_of : (lines : Showing) (taken before written text : List ℕ) → GaveLines lines taken before written → ShowsBgp taken text → IsFrontBehind before written text
gave_front_of lines taken before written text gave shows =
    gave_front lines taken before written [] text gave (subst (λ (b : List ℕ). ShowsBgp b text) (sym (append-nil taken)) shows)

-- a piece was taken, and a front of its lines was written
pub piece_front : (new : Showing) (taken piece before was now given out left text : List ℕ) → was ≡ before ++ given → Stands new (taken ++ piece) (given ++ out) → ShowsBgp (taken ++ (piece ++ left)) text
    → IsFrontBehind was now out → IsFrontBehind before now text
piece_front new taken piece before was now given out left text put stands shows front =
    let more = stands.only left text (subst (λ (b : List ℕ). ShowsBgp b text) (sym (append_assoc taken piece left)) shows) in
    front_of_more before was now given out more.0 text put more.1 front
