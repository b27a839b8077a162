-- The fields of a head, read in the bytes that spell it.
use Rattle.std.proofs.Common.{◌≡◌, ℕ, ◌+◌, ◌*◌, ◌<◌, ◌≤◌, List, [], ◌∷◌, length, get_or, take, drop, arith, sym, ◌∙◌, refl}
use Rattle.std.proofs.lemmas.List.{length-drop, get_or-drop}
use Rattle.std.proofs.lemmas.List.Elements.{All-get_or}
use Rattle.wire_base.specs.Numbers.{AreBytes, big_endian}
use Rattle.nsh_headers.specs.declared.heads.NshHead.{NshHead}
use Rattle.nsh_headers.specs.Head.{IsHead}
use Rattle.nsh_headers.specs.Edit.{ttl_in}

pub ttl_in-head : (b : List ℕ) (h : NshHead) → IsHead b h → ttl_in b ≡ h.base.ttl
ttl_in-head b h spelled =
    let word = spelled.first_word in
    let small = spelled.fits.words in
    let range = spelled.fits.ttl in
    omega arith

-- the first 8 bytes, one by one
pub cells : (b : List ℕ) → 8 ≤ length b → take 8 b ≡ get_or b 0 0 ∷ get_or b 1 0 ∷ get_or b 2 0 ∷ get_or b 3 0 ∷ get_or b 4 0 ∷ get_or b 5 0 ∷ get_or b 6 0 ∷ get_or b 7 0 ∷ []
cells [] long = absurd (omega arith)
cells (a ∷ []) long = absurd (omega arith)
cells (a ∷ b ∷ []) long = absurd (omega arith)
cells (a ∷ b ∷ c ∷ []) long = absurd (omega arith)
cells (a ∷ b ∷ c ∷ d ∷ []) long = absurd (omega arith)
cells (a ∷ b ∷ c ∷ d ∷ e ∷ []) long = absurd (omega arith)
cells (a ∷ b ∷ c ∷ d ∷ e ∷ f ∷ []) long = absurd (omega arith)
cells (a ∷ b ∷ c ∷ d ∷ e ∷ f ∷ g ∷ []) long = absurd (omega arith)
cells (a ∷ b ∷ c ∷ d ∷ e ∷ f ∷ g ∷ h ∷ rest) long = refl

-- the numbers of 2 and of 3 bytes, by their bytes
pub big_endian-two : (b : List ℕ) → 2 ≤ length b → big_endian (take 2 b) ≡ 256 * get_or b 0 0 + get_or b 1 0
big_endian-two [] long = absurd (omega arith)
big_endian-two (a ∷ []) long = absurd (omega arith)
big_endian-two (a ∷ b ∷ rest) long = omega arith

pub big_endian-three : (b : List ℕ) → 3 ≤ length b → big_endian (take 3 b) ≡ 65536 * get_or b 0 0 + 256 * get_or b 1 0 + get_or b 2 0
big_endian-three [] long = absurd (omega arith)
big_endian-three (a ∷ []) long = absurd (omega arith)
big_endian-three (a ∷ b ∷ []) long = absurd (omega arith)
big_endian-three (a ∷ b ∷ c ∷ rest) long = omega arith

byte_at : (b : List ℕ) (i : ℕ) → AreBytes b → i < length b → get_or b i 0 < 256
byte_at b i fits within = All-get_or (λ c. c < 256) b i 0 within fits

-- the path's number, by its bytes
spi-head : (b : List ℕ) (h : NshHead) → IsHead b h → h.path.spi ≡ 65536 * get_or b 4 0 + 256 * get_or b 5 0 + get_or b 6 0
spi-head b h spelled =
    let long : 3 ≤ length (drop 4 b) = omega (arith, length-drop 4 b, spelled.long) in
    sym spelled.spi ∙ big_endian-three (drop 4 b) long ∙ omega (arith, get_or-drop 4 b 0 0, get_or-drop 4 b 1 0, get_or-drop 4 b 2 0)

-- a head has one spelling
pub same_front : (a b : List ℕ) (h : NshHead) → AreBytes a → AreBytes b → IsHead a h → IsHead b h → take 8 a ≡ take 8 b
same_front a b h fits_a fits_b in_a in_b =
    let long_a = in_a.long in
    let long_b = in_b.long in
    let word_a = big_endian-two a (omega arith) ∙ refl in
    let word_b = big_endian-two b (omega arith) ∙ refl in
    let spi_a = spi-head a h in_a in
    let spi_b = spi-head b h in_b in
    let low_a = byte_at a 1 fits_a (omega arith) in
    let low_b = byte_at b 1 fits_b (omega arith) in
    let mid_a = byte_at a 5 fits_a (omega arith) in
    let mid_b = byte_at b 5 fits_b (omega arith) in
    let end_a = byte_at a 6 fits_a (omega arith) in
    let end_b = byte_at b 6 fits_b (omega arith) in
    let word : big_endian (take 2 a) ≡ big_endian (take 2 b) = in_a.first_word ∙ sym in_b.first_word in
    let e0 : get_or a 0 0 ≡ get_or b 0 0 = omega arith in
    let e1 : get_or a 1 0 ≡ get_or b 1 0 = omega arith in
    let e2 : get_or a 2 0 ≡ get_or b 2 0 = in_a.third ∙ sym in_b.third in
    let e3 : get_or a 3 0 ≡ get_or b 3 0 = in_a.next ∙ sym in_b.next in
    let e4 : get_or a 4 0 ≡ get_or b 4 0 = omega arith in
    let e5 : get_or a 5 0 ≡ get_or b 5 0 = omega arith in
    let e6 : get_or a 6 0 ≡ get_or b 6 0 = omega arith in
    let e7 : get_or a 7 0 ≡ get_or b 7 0 = in_a.si ∙ sym in_b.si in
    cells a long_a ∙ (cc) ∙ sym (cells b long_b)
