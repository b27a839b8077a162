-- Headers: what a spelled message shows, and what is spelled by the cells of a header and a content.
use Rattle.std.proofs.Common.{◌≡◌, ℕ, zero, suc, ◌+◌, ◌-◌, ◌*◌, ◌/◌, ◌%◌, ◌<◌, ◌≤◌, List, [], ◌∷◌, ◌++◌, length, get_or, take, drop, replicate, refl, sym, ap, subst, ◌∙◌, inl, inr, arith}
use Rattle.std.proofs.lemmas.List.{take-append-drop, get_or-take, get_or-replicate, length-append, length-take, length-drop, drop-drop, take_at, get_or-drop}
use Rattle.bgp_messages.specs.declared.messages.Message.{Message}
use Rattle.bgp_messages.specs.Messages.{type_of, content, spelling, Fits, BeginsNone}
use Rattle.bgp_messages.specs.Headers.{Marked, length_of, kind_of, Unfit, LengthFits}
use Rattle.bgp_messages.specs.Refusals.{Told, IsWhole, Refused, Held, content_in}
use Rattle.bgp_messages.specs.HeadSteps.{Waits}
use Rattle.bgp_messages.specs.Contents.{Reads}
use Rattle.bgp_messages.specs.MessageSteps.{Begins}
use Rattle.bgp_messages.proofs.ContentLemmas.{AreBytes}

-- what is marked is the marker
take_marked : (n : ℕ) (bytes : List ℕ) → n ≤ length bytes → Marked n bytes → take n bytes ≡ replicate n 255
take_marked zero bytes le marked = refl
take_marked (suc n) [] le marked = absurd (omega arith)
take_marked (suc n) (b ∷ bytes) le marked =
    let first : b ≡ 255 = marked 0 (omega arith) in
    let others : take n bytes ≡ replicate n 255 = take_marked n bytes (omega arith) (λ k lt. marked (suc k) (omega arith)) in
    cc

-- what begins with the marker is marked
marked_from : (bytes : List ℕ) → take 16 bytes ≡ replicate 16 255 → Marked 16 bytes
marked_from bytes e k lt = sym (get_or-take 16 bytes k 0 lt) ∙ ap (λ (t : List ℕ). get_or t k 0) e ∙ get_or-replicate 16 k 255 0 lt

three_cells : (bytes : List ℕ) → 3 ≤ length bytes → bytes ≡ get_or bytes 0 0 ∷ get_or bytes 1 0 ∷ get_or bytes 2 0 ∷ drop 3 bytes
three_cells (a ∷ b ∷ c ∷ rest) le = refl
three_cells _ le = absurd (omega arith)

-- a header's cells: the marker, the two bytes of the length, the type, and what follows
header_cells : (bytes : List ℕ) → 19 ≤ length bytes → Marked 16 bytes
    → bytes ≡ replicate 16 255 ++ get_or bytes 16 0 ∷ get_or bytes 17 0 ∷ get_or bytes 18 0 ∷ drop 19 bytes
header_cells bytes le marked =
    let behind : drop 16 bytes ≡ get_or (drop 16 bytes) 0 0 ∷ get_or (drop 16 bytes) 1 0 ∷ get_or (drop 16 bytes) 2 0 ∷ drop 3 (drop 16 bytes) = three_cells (drop 16 bytes) (omega (arith, length-drop 16 bytes)) in
    let named : drop 16 bytes ≡ get_or bytes 16 0 ∷ get_or bytes 17 0 ∷ get_or bytes 18 0 ∷ drop 19 bytes = simp (get_or-drop, drop-drop) at behind in
    sym (take-append-drop 16 bytes) ∙ ap (λ (t : List ℕ). t ++ drop 16 bytes) (take_marked 16 bytes (omega arith) marked) ∙ ap (λ (t : List ℕ). replicate 16 255 ++ t) named

-- what the front of a stream shows where it begins with a whole message
pub record Shows (bytes : List ℕ) (m : Message) (more : List ℕ) : Type 0 where
  pub marker : Marked 16 bytes
  pub len : length_of bytes ≡ 19 + length (content m)
  pub kind : kind_of bytes ≡ type_of m
  pub behind : drop 19 bytes ≡ content m ++ more
  pub whole : length bytes ≡ 19 + length (content m) + length more

shows_spelled : (m : Message) (more : List ℕ) → Fits m → Shows (spelling m ++ more) m more
unfolding spelling
shows_spelled m more fits = record {
  marker = marked_from (spelling m ++ more) refl;
  len = omega arith;
  kind = refl;
  behind = refl;
  whole = omega (arith, length-append (content m) more);
}

pub shows : (bytes : List ℕ) (m : Message) (more : List ℕ) → Fits m → bytes ≡ spelling m ++ more → Shows bytes m more
shows bytes m more fits e = subst (λ (b : List ℕ). Shows b m more) (sym e) (shows_spelled m more fits)

pub length-spelling : (m : Message) → length (spelling m) ≡ 19 + length (content m)
unfolding spelling
length-spelling m = omega arith

-- ---- what waits is held

pub unfit_not : (kind len : ℕ) → LengthFits kind len → ¬ Unfit kind len
unfit_not kind len fits (inl row) = absurd (omega (arith, fits.an_open row.0, row.1))
unfit_not kind len fits (inr (inl row)) = absurd (omega (arith, fits.an_update row.0, row.1))
unfit_not kind len fits (inr (inr (inl row))) = absurd (omega (arith, fits.a_notification row.0, row.1))
unfit_not kind len fits (inr (inr (inr row))) = row.1 (fits.a_keep_alive row.0)

waits_accepted : (bytes : List ℕ) (t : Told) → Waits bytes → ¬ Refused bytes t
waits_accepted bytes t w (inl row) = row.byte (w.marker t.place (omega (arith, row.in_marker, row.there)))
waits_accepted bytes t w (inr (inl row)) =
    elim row.range [ inl low ↦ omega (arith, w.least row.there) | inr high ↦ omega (arith, w.most row.there) ]
waits_accepted bytes t w (inr (inr (inl row))) =
    let known = w.known row.before.there in
    elim row.kind [ inl none ↦ omega (arith, known.0) | inr above ↦ omega (arith, known.1) ]
waits_accepted bytes t w (inr (inr (inr (inl row)))) = unfit_not _ _ (w.fits row.before.there) row.unfit
waits_accepted bytes t w (inr (inr (inr (inr row)))) = absurd (omega (arith, w.unfinished row.whole.before.there, row.whole.there))

waits_unfinished : (bytes : List ℕ) → Waits bytes → BeginsNone bytes
waits_unfinished bytes w m more fits e =
    let s = shows bytes m more fits e in
    let there : 19 ≤ length bytes = omega (arith, s.whole) in
    absurd (omega (arith, w.unfinished there, s.len, s.whole))

pub waits_held : (bytes : List ℕ) → Waits bytes → Held bytes
waits_held bytes w = record { accepted = λ t. waits_accepted bytes t w; unfinished = waits_unfinished bytes w }

-- ---- what is whole is read or refused

-- the whole message of a header is the marker, its cells and its content
whole_cells : (bytes : List ℕ) (kind len : ℕ) → IsWhole bytes kind len
    → take len bytes ≡ replicate 16 255 ++ get_or bytes 16 0 ∷ get_or bytes 17 0 ∷ get_or bytes 18 0 ∷ content_in len bytes
whole_cells bytes kind len w =
    let front : List ℕ = replicate 16 255 ++ get_or bytes 16 0 ∷ get_or bytes 17 0 ∷ get_or bytes 18 0 ∷ content_in len bytes in
    let least : 19 ≤ len = omega (arith, w.before.least, w.len_is) in
    let size : length front ≡ len = omega (arith, length-take (len - 19) (drop 19 bytes), length-drop 19 bytes, w.there, least) in
    let parts : bytes ≡ front ++ drop (len - 19) (drop 19 bytes) =
    header_cells bytes w.before.there w.before.marker
    ∙ ap (λ (t : List ℕ). replicate 16 255 ++ get_or bytes 16 0 ∷ get_or bytes 17 0 ∷ get_or bytes 18 0 ∷ t) (sym (take-append-drop (len - 19) (drop 19 bytes))) in
    ap (λ (b : List ℕ). take len b) parts ∙ take_at front (drop (len - 19) (drop 19 bytes)) len size

length-content_in : (bytes : List ℕ) (kind len : ℕ) → IsWhole bytes kind len → 19 + length (content_in len bytes) ≡ len
length-content_in bytes kind len w = omega (arith, length-take (len - 19) (drop 19 bytes), length-drop 19 bytes, w.there, w.before.least, w.len_is)

spelled_cells : (m : Message) (x y k : ℕ) (bytes : List ℕ) → x < 256 → y < 256 → 256 * x + y ≡ 19 + length bytes → k ≡ type_of m → bytes ≡ content m
    → replicate 16 255 ++ x ∷ y ∷ k ∷ bytes ≡ spelling m
unfolding spelling
spelled_cells m x y k bytes fits_x fits_y len kind parts =
    let size : length bytes ≡ length (content m) = ap length parts in
    let high : x ≡ (19 + length (content m)) / 256 = omega (arith, len, size) in
    let low : y ≡ (19 + length (content m)) % 256 = omega (arith, len, size) in
    cc

pub begins_read : (bytes : List ℕ) (kind len : ℕ) (m : Message) → AreBytes bytes → IsWhole bytes kind len → Reads kind (content_in len bytes) m → Begins bytes m len
begins_read bytes kind len m fits w r =
    let size = length-content_in bytes kind len w in
    record {
      there = w.there;
      least = omega (arith, w.before.least, w.len_is);
      message = record {
        spelled = whole_cells bytes kind len w ∙ spelled_cells m (get_or bytes 16 0) (get_or bytes 17 0) (get_or bytes 18 0) (content_in len bytes) (fits.each 16) (fits.each 17) (w.len_is ∙ sym size) (w.type_is ∙ r.type_is) r.spelled;
        fits = record { parts = r.fits; size = omega (arith, size, ap length r.spelled, w.before.most, w.len_is) };
      };
    }
