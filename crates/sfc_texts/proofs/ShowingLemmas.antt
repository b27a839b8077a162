-- The lines of a stream that comes in pieces stand for the bytes that were taken.
use Rattle.std.proofs.Common.{◌≡◌, ℕ, List, [], ◌++◌, length, append_assoc, append-nil, refl, sym, ap, subst, ◌∙◌}
use Rattle.bgp_messages.specs.Messages.{spelling}
use Rattle.bgp_messages.specs.Refusals.{Held}
use Rattle.bgp_messages.specs.Kept.{Kept}
use Rattle.sfc_texts.specs.declared.stream_texts.Stage.{Stage}
use Rattle.sfc_texts.specs.declared.stream_texts.Stage.TheVariants.{Open, Over}
use Rattle.sfc_texts.specs.BgpText.{rest_line, ShowsFrom, ShowsBgp, message, rest}
use Rattle.sfc_texts.specs.BgpSteps.{Moves, Ends}
use Rattle.sfc_texts.specs.Showings.{Showing, ShowsLeft, StillShows, Stands}
use Rattle.sfc_texts.proofs.BgpReadings.{one_text, behind_message}

same_left : (s t : Stage) (p q : ℕ) (a b : List ℕ) (text : List ℕ) → s ≡ t → p ≡ q → a ≡ b → ShowsLeft s p a text → ShowsLeft t q b text
same_left s t p q a b text stage place bytes shows =
    subst (λ (x : Stage). ShowsLeft x q b text) stage (subst (λ (n : ℕ). ShowsLeft s n b text) place (subst (λ (l : List ℕ). ShowsLeft s p l text) bytes shows))

-- nothing was taken and nothing given
pub begins : Stands (record { rest = []; place = 0; stage = Open }) [] []
begins = record { leads = λ left later shows. shows; only = λ left text shows. (text, refl, shows) }

-- a piece was taken and lines given, so that what is left to show stays the same
moved_on : (old new : Showing) (taken piece before shown : List ℕ)
    → ((left later : List ℕ) → StillShows new left later → StillShows old (piece ++ left) (shown ++ later))
    → ((left text : List ℕ) → StillShows old (piece ++ left) text → (later : List ℕ) × (text ≡ shown ++ later) × StillShows new left later)
    → Stands old taken before → Stands new (taken ++ piece) (before ++ shown)
moved_on old new taken piece before shown back on stands = record {
  leads = λ left later shows.
      subst (λ (b : List ℕ). ShowsBgp b ((before ++ shown) ++ later)) (sym (append_assoc taken piece left))
      (subst (λ (t : List ℕ). ShowsBgp (taken ++ (piece ++ left)) t) (sym (append_assoc before shown later)) (stands.leads (piece ++ left) (shown ++ later) (back left later shows)));
  only = λ left text shows.
      let first = stands.only (piece ++ left) text (subst (λ (b : List ℕ). ShowsBgp b text) (append_assoc taken piece left) shows) in
      let second = on left first.0 first.2 in
      (second.0, first.1 ∙ ap (λ (l : List ℕ). before ++ l) second.1 ∙ sym (append_assoc before shown second.0), second.2);
}

-- a piece was taken behind the rest
pub piece_taken : (old new : Showing) (taken piece out : List ℕ) → new.stage ≡ old.stage → new.place ≡ old.place → new.rest ≡ old.rest ++ piece
    → Stands old taken out → Stands new (taken ++ piece) out
piece_taken old new taken piece out stage place longer stands =
    let joined : (left : List ℕ) → new.rest ++ left ≡ old.rest ++ (piece ++ left) = λ left. ap (λ (b : List ℕ). b ++ left) longer ∙ append_assoc old.rest piece left in
    subst (λ (o : List ℕ). Stands new (taken ++ piece) o) (append-nil out)
    (moved_on old new taken piece out []
    (λ left later shows. same_left new.stage old.stage new.place old.place (new.rest ++ left) (old.rest ++ (piece ++ left)) later stage place (joined left) shows)
    (λ left text shows. (text, refl, same_left old.stage new.stage old.place new.place (old.rest ++ (piece ++ left)) (new.rest ++ left) text (sym stage) (sym place) (sym (joined left)) shows))
    stands)

over_shows : (lines : Showing) (left text : List ℕ) → lines.stage ≡ Over → StillShows lines left text → text ≡ []
over_shows lines left text over shows = same_left lines.stage Over lines.place lines.place (lines.rest ++ left) (lines.rest ++ left) text over refl refl shows

shows_over : (lines : Showing) (left text : List ℕ) → lines.stage ≡ Over → text ≡ [] → StillShows lines left text
shows_over lines left text over none = same_left Over lines.stage lines.place lines.place (lines.rest ++ left) (lines.rest ++ left) text (sym over) refl refl none

-- behind a refusal a piece is let go
pub piece_let_go : (old new : Showing) (taken piece out : List ℕ) → old.stage ≡ Over → new.stage ≡ Over → Stands old taken out → Stands new (taken ++ piece) out
piece_let_go old new taken piece out over still stands =
    subst (λ (o : List ℕ). Stands new (taken ++ piece) o) (append-nil out)
    (moved_on old new taken piece out []
    (λ left later shows. shows_over old (piece ++ left) later over (over_shows new left later still shows))
    (λ left text shows. (text, refl, shows_over new left text still (over_shows old (piece ++ left) text over shows)))
    stands)

-- lines were given
lines_given : (old new : Showing) (taken front before after shown : List ℕ) → after ≡ before ++ shown
    → ((left later : List ℕ) → StillShows new left later → StillShows old left (shown ++ later))
    → ((left text : List ℕ) → StillShows old left text → (later : List ℕ) × (text ≡ shown ++ later) × StillShows new left later)
    → Stands old taken (front ++ before) → Stands new taken (front ++ after)
lines_given old new taken front before after shown appended back on stands =
    let joined : (front ++ before) ++ shown ≡ front ++ after = append_assoc front before shown ∙ ap (λ (l : List ℕ). front ++ l) (sym appended) in
    subst (λ (o : List ℕ). Stands new taken o) joined
    (subst (λ (b : List ℕ). Stands new b ((front ++ before) ++ shown)) (append-nil taken) (moved_on old new taken [] (front ++ before) shown back on stands))

-- the lines of a message were given
pub message_given : (old new : Showing) (o n : Kept) (taken front before after : List ℕ) → old.stage ≡ Open → new.stage ≡ Open
    → old.place ≡ o.place → old.rest ≡ o.rest → new.place ≡ n.place → new.rest ≡ n.rest
    → Moves o n before after → Stands old taken (front ++ before) → Stands new taken (front ++ after)
message_given old new o n taken front before after opened still old_place old_rest new_place new_rest moves =
    let g = moves.gives in
    let shown = moves.lines.shown in
    let spelled : (left : List ℕ) → o.rest ++ left ≡ spelling moves.next ++ (n.rest ++ left) = λ left. ap (λ (b : List ℕ). b ++ left) g.rest ∙ append_assoc (spelling moves.next) n.rest left in
    lines_given old new taken front before after shown moves.lines.appended
    (λ left later shows.
    let rest_shows : ShowsFrom n.place (n.rest ++ left) later = same_left new.stage Open new.place n.place (new.rest ++ left) (n.rest ++ left) later still new_place (ap (λ (b : List ℕ). b ++ left) new_rest) shows in
    let all_shows : ShowsFrom o.place (o.rest ++ left) (shown ++ later) = message o.place moves.next (o.rest ++ left) (n.rest ++ left) shown later (shown ++ later) g.fits (spelled left) moves.lines.shows
    (subst (λ (p : ℕ). ShowsFrom p (n.rest ++ left) later) g.place rest_shows) refl in
    same_left Open old.stage o.place old.place (o.rest ++ left) (old.rest ++ left) (shown ++ later) (sym opened) (sym old_place) (ap (λ (b : List ℕ). b ++ left) (sym old_rest)) all_shows)
    (λ left text shows.
    let all_shows : ShowsFrom o.place (o.rest ++ left) text = same_left old.stage Open old.place o.place (old.rest ++ left) (o.rest ++ left) text opened old_place (ap (λ (b : List ℕ). b ++ left) old_rest) shows in
    let behind = behind_message o.place moves.next (o.rest ++ left) (n.rest ++ left) shown text g.fits (spelled left) moves.lines.shows all_shows in (
      behind.0,
      behind.1,
      same_left Open new.stage n.place new.place (n.rest ++ left) (new.rest ++ left) behind.0 (sym still) (sym new_place) (ap (λ (b : List ℕ). b ++ left) (sym new_rest))
          (subst (λ (p : ℕ). ShowsFrom p (n.rest ++ left) behind.0) (sym g.place) behind.2),
    ))

-- the line of a refusal was given
pub end_given : (old new : Showing) (o : Kept) (taken front before after : List ℕ) → old.stage ≡ Open → new.stage ≡ Over → old.place ≡ o.place → old.rest ≡ o.rest
    → Ends o before after → Stands old taken (front ++ before) → Stands new taken (front ++ after)
end_given old new o taken front before after opened over place rest_is ends =
    lines_given old new taken front before after ends.text ends.appended
    (λ left later shows.
    let none : later ≡ [] = over_shows new left later over shows in
    let whole : ShowsFrom o.place (o.rest ++ left) (ends.text ++ later) = subst (λ (t : List ℕ). ShowsFrom o.place (o.rest ++ left) t) (sym (append-nil ends.text) ∙ ap (λ (l : List ℕ). ends.text ++ l) (sym none)) (ends.shows left) in
    same_left Open old.stage o.place old.place (o.rest ++ left) (old.rest ++ left) (ends.text ++ later) (sym opened) (sym place) (ap (λ (b : List ℕ). b ++ left) (sym rest_is)) whole)
    (λ left text shows.
    let whole : ShowsFrom o.place (o.rest ++ left) text = same_left old.stage Open old.place o.place (old.rest ++ left) (o.rest ++ left) text opened place (ap (λ (b : List ℕ). b ++ left) rest_is) shows in
    ([], one_text o.place (o.rest ++ left) text ends.text whole (ends.shows left) ∙ sym (append-nil ends.text), shows_over new left [] over refl))

-- nothing was given, and nothing changed
pub nothing_given : (old new : Showing) (taken front before after : List ℕ) → new.stage ≡ old.stage → new.place ≡ old.place → new.rest ≡ old.rest → after ≡ before
    → Stands old taken (front ++ before) → Stands new taken (front ++ after)
nothing_given old new taken front before after stage place same none stands =
    subst (λ (o : List ℕ). Stands new taken (front ++ o)) (sym none)
    (subst (λ (b : List ℕ). Stands new b (front ++ before)) (append-nil taken)
    (piece_taken old new taken [] (front ++ before) stage place (same ∙ sym (append-nil old.rest)) stands))

-- the stream ends behind what is held
pub ended_held : (lines : Showing) (taken front before after : List ℕ) → lines.stage ≡ Open → Held lines.rest → after ≡ before ++ rest_line (length lines.rest)
    → Stands lines taken (front ++ before) → ShowsBgp taken (front ++ after)
ended_held lines taken front before after opened held appended stands =
    let last : ShowsFrom lines.place lines.rest (rest_line (length lines.rest)) = rest lines.place lines.rest (rest_line (length lines.rest)) held refl in
    let left : StillShows lines [] (rest_line (length lines.rest)) = same_left Open lines.stage lines.place lines.place lines.rest (lines.rest ++ []) (rest_line (length lines.rest)) (sym opened) refl (sym (append-nil lines.rest)) last in
    subst (λ (b : List ℕ). ShowsBgp b (front ++ after)) (append-nil taken)
    (subst (λ (t : List ℕ). ShowsBgp (taken ++ []) t) (append_assoc front before (rest_line (length lines.rest)) ∙ ap (λ (l : List ℕ). front ++ l) (sym appended)) (stands.leads [] (rest_line (length lines.rest)) left))

-- the stream ends behind a refusal
pub ended_over : (lines : Showing) (taken out : List ℕ) → lines.stage ≡ Over → Stands lines taken out → ShowsBgp taken out
ended_over lines taken out over stands =
    subst (λ (b : List ℕ). ShowsBgp b out) (append-nil taken)
    (subst (λ (t : List ℕ). ShowsBgp (taken ++ []) t) (append-nil out) (stands.leads [] [] (shows_over lines [] [] over refl)))
