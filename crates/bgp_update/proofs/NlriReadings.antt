-- Two readings of one list of routes are one, and so is what is refused in it.
use Rattle.std.proofs.Common.{◌≡◌, ℕ, ◌+◌, ◌/◌, ◌%◌, ◌<◌, List, [], ◌++◌, length, get_or, drop, refl, sym, ap, subst, ◌∙◌, inl, inr, ◌⊎◌, arith}
use Rattle.std.proofs.lemmas.List.{append-nil, length-append}
use Rattle.bgp_update.specs.declared.routes.Nlri.{Nlri}
use Rattle.bgp_update.specs.declared.routes.Nlri.TheVariants as routes
use Rattle.wire_base.specs.Numbers.{two, three}
use Rattle.bgp_update.specs.Nlris.{kind_of, inside, nlri_bytes, list_bytes, NlriFits, ListFits}
use Rattle.bgp_update.specs.Refusals.{number_at, WrongSize, BadNlri, RefusedList}
use Rattle.wire_base.proofs.SplitLemmas.{Reads, same_parts, one_split}

same_three : (m n : ℕ) → three m ≡ three n → m ≡ n
same_three m n e =
    let high : m / 65536 ≡ n / 65536 = ap (λ (b : List ℕ). get_or b 0 0) e in
    let middle : m % 65536 / 256 ≡ n % 65536 / 256 = ap (λ (b : List ℕ). get_or b 1 0) e in
    let low : m % 65536 % 256 ≡ n % 65536 % 256 = ap (λ (b : List ℕ). get_or b 2 0) e in
    omega (arith, high, middle, low)

pub same_two : (m n : ℕ) → two m ≡ two n → m ≡ n
same_two m n e =
    let high : m / 256 ≡ n / 256 = ap (λ (b : List ℕ). get_or b 0 0) e in
    let low : m % 256 ≡ n % 256 = ap (λ (b : List ℕ). get_or b 1 0) e in
    omega (arith, high, low)

one_inside : (x y : Nlri) → NlriFits x → NlriFits y → kind_of x ≡ kind_of y → inside x ≡ inside y → x ≡ y
one_inside (routes.Sfir rd kind) (routes.Sfir rd' kind') fx fy k e =
    let parts = same_parts rd rd' (two kind) (two kind') (fx.0 ∙ sym fy.0) e in
    let kinds : kind ≡ kind' = same_two kind kind' parts.1 in
    let rds : rd ≡ rd' = parts.0 in
    cc
one_inside (routes.Sfpr rd spi) (routes.Sfpr rd' spi') fx fy k e =
    let parts = same_parts rd rd' (three spi) (three spi') (fx.0 ∙ sym fy.0) e in
    let spis : spi ≡ spi' = same_three spi spi' parts.1 in
    let rds : rd ≡ rd' = parts.0 in
    cc
one_inside (routes.Other kind body) (routes.Other kind' body') fx fy k e =
    let kinds : kind ≡ kind' = k in
    let bodies : body ≡ body' = e in
    cc
one_inside (routes.Sfir rd kind) (routes.Sfpr rd' spi') fx fy k e = absurd (omega (arith, k))
one_inside (routes.Sfpr rd spi) (routes.Sfir rd' kind') fx fy k e = absurd (omega (arith, k))
one_inside (routes.Sfir rd kind) (routes.Other kind' body') fx fy k e = absurd (fy.0 (sym k))
one_inside (routes.Sfpr rd spi) (routes.Other kind' body') fx fy k e = absurd (fy.1 (sym k))
one_inside (routes.Other kind body) (routes.Sfir rd' kind') fx fy k e = absurd (fx.0 k)
one_inside (routes.Other kind body) (routes.Sfpr rd' spi') fx fy k e = absurd (fx.1 k)

same_nlri : (x y : Nlri) (r s : List ℕ) → NlriFits x → NlriFits y → nlri_bytes x ++ r ≡ nlri_bytes y ++ s → (x ≡ y) × (r ≡ s)
same_nlri x y r s fx fy e =
    let kind_high : kind_of x / 256 ≡ kind_of y / 256 = ap (λ (b : List ℕ). get_or b 0 0) e in
    let kind_low : kind_of x % 256 ≡ kind_of y % 256 = ap (λ (b : List ℕ). get_or b 1 0) e in
    let size_high : length (inside x) / 256 ≡ length (inside y) / 256 = ap (λ (b : List ℕ). get_or b 2 0) e in
    let size_low : length (inside x) % 256 ≡ length (inside y) % 256 = ap (λ (b : List ℕ). get_or b 3 0) e in
    let tails : inside x ++ r ≡ inside y ++ s = ap (λ (b : List ℕ). drop 4 b) e in
    let parts = same_parts (inside x) (inside y) r s (omega (arith, size_high, size_low)) tails in
    (one_inside x y fx fy (omega (arith, kind_high, kind_low)) parts.0, parts.1)

right_size : (x : Nlri) → NlriFits x → WrongSize (kind_of x) (length (inside x)) → ⊥
right_size (routes.Sfir rd kind) f (inl wrong) = wrong.1 (omega (arith, length-append rd (two kind), f.0))
right_size (routes.Sfir rd kind) f (inr wrong) = omega (arith, wrong.0)
right_size (routes.Sfpr rd spi) f (inl wrong) = omega (arith, wrong.0)
right_size (routes.Sfpr rd spi) f (inr wrong) = wrong.1 (omega (arith, length-append rd (three spi), f.0))
right_size (routes.Other kind body) f (inl wrong) = f.0 wrong.0
right_size (routes.Other kind body) f (inr wrong) = f.1 wrong.0

good_nlri : (x : Nlri) (r : List ℕ) → NlriFits x → BadNlri (nlri_bytes x ++ r) → ⊥
good_nlri x r f (inl (inl short)) = omega (arith, short)
good_nlri x r f (inl (inr short)) = omega (arith, short, length-append (inside x) r)
good_nlri x r f (inr wrong) =
    let kind : number_at 0 (nlri_bytes x ++ r) ≡ kind_of x = omega arith in
    let size : number_at 2 (nlri_bytes x ++ r) ≡ length (inside x) = omega arith in
    right_size x f (subst (λ (n : ℕ). WrongSize n (length (inside x))) kind (subst (λ (n : ℕ). WrongSize (number_at 0 (nlri_bytes x ++ r)) n) size wrong))

-- no further route, or one that is refused
abbrev pub ListEnd : List ℕ → Type 0
ListEnd bytes = (bytes ≡ []) ⊎ ((0 < length bytes) × BadNlri bytes)

nlri_ended : (x : Nlri) (r : List ℕ) → NlriFits x → ListEnd (nlri_bytes x ++ r) → ⊥
nlri_ended x r f (inl e) = cc
nlri_ended x r f (inr bad) = good_nlri x r f bad.1

nlris_read : Reads nlri_bytes NlriFits ListEnd
nlris_read = record { same = same_nlri; ended = nlri_ended }

one_list : (xs ys : List Nlri) (r s : List ℕ) → ListFits xs → ListFits ys → ListEnd r → ListEnd s → list_bytes xs ++ r ≡ list_bytes ys ++ s → (xs ≡ ys) × (r ≡ s)
one_list xs ys r s fx fy er es e = one_split nlri_bytes NlriFits ListEnd nlris_read xs ys r s fx fy er es e

-- routes that fill the same bytes are the same
pub one_list_whole : (xs ys : List Nlri) → ListFits xs → ListFits ys → list_bytes xs ≡ list_bytes ys → xs ≡ ys
one_list_whole xs ys fx fy e =
    let one = one_list xs ys [] [] fx fy (inl refl) (inl refl) (append-nil (list_bytes xs) ∙ e ∙ sym (append-nil (list_bytes ys))) in
    one.0

-- good routes hold none that is refused
pub good_list : (start : ℕ) (xs : List Nlri) (place : ℕ) → ListFits xs → RefusedList start (list_bytes xs) place → ⊥
good_list start xs place fits row =
    let one = one_list xs row.good [] row.bad fits row.fit (inl refl) (inr (row.some, row.first)) (append-nil (list_bytes xs) ∙ row.split) in
    omega (arith, ap length one.1, row.some)

pub one_list_told : (start : ℕ) (bytes : List ℕ) (p q : ℕ) → RefusedList start bytes p → RefusedList start bytes q → p ≡ q
one_list_told start bytes p q a b =
    let one = one_list a.good b.good a.bad b.bad a.fit b.fit (inr (a.some, a.first)) (inr (b.some, b.first)) (sym a.split ∙ b.split) in
    a.told ∙ ap (λ (xs : List Nlri). start + length (list_bytes xs)) one.0 ∙ sym b.told
