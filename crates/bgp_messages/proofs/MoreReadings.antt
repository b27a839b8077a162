-- A refusal stands whatever follows.
use Rattle.std.proofs.Common.{◌≡◌, ℕ, ◌+◌, ◌-◌, ◌*◌, ◌<◌, ◌≤◌, List, ◌++◌, length, get_or, take, drop, refl, sym, ap, subst, ◌∙◌, inl, inr, arith}
use Rattle.std.proofs.lemmas.List.{length-append, length-drop, take-append-le, drop-append-le, get_or_append_left}
use Rattle.bgp_messages.specs.Headers.{Marked, length_of, kind_of, OutOfRange, UnknownType, Unfit, LengthFits}
use Rattle.bgp_messages.specs.Refusals.{Told, bad_length, bad_type, RefusedMarker, RefusedLength, HasLength, RefusedType, RefusedLeast, IsWhole, RefusedContent, RefusedOpen, Refused, content_in}

cell : (bytes more : List ℕ) (k : ℕ) → k < length bytes → get_or (bytes ++ more) k 0 ≡ get_or bytes k 0
cell bytes more k there = get_or_append_left bytes more 0 k there

marked_more : (n : ℕ) (bytes more : List ℕ) → n ≤ length bytes → Marked n bytes → Marked n (bytes ++ more)
marked_more n bytes more there marked = λ k lt. cell bytes more k (omega (arith, lt, there)) ∙ marked k lt

length_more : (bytes more : List ℕ) → 18 ≤ length bytes → length_of (bytes ++ more) ≡ length_of bytes
length_more bytes more there = omega (arith, cell bytes more 16 (omega (arith, there)), cell bytes more 17 (omega (arith, there)))

kind_more : (bytes more : List ℕ) → 19 ≤ length bytes → kind_of (bytes ++ more) ≡ kind_of bytes
kind_more bytes more there = cell bytes more 18 (omega (arith, there))

told_more : (bytes more : List ℕ) → 18 ≤ length bytes → bad_length (get_or (bytes ++ more) 16 0) (get_or (bytes ++ more) 17 0) ≡ bad_length (get_or bytes 16 0) (get_or bytes 17 0)
told_more bytes more there =
    ap (λ (x : ℕ). bad_length x (get_or (bytes ++ more) 17 0)) (cell bytes more 16 (omega (arith, there)))
    ∙ ap (λ (y : ℕ). bad_length (get_or bytes 16 0) y) (cell bytes more 17 (omega (arith, there)))

has_length_more : (bytes more : List ℕ) → HasLength bytes → HasLength (bytes ++ more)
has_length_more bytes more has =
    let same = length_more bytes more (omega (arith, has.there)) in
    record {
      marker = marked_more 16 bytes more (omega (arith, has.there)) has.marker;
      there = omega (arith, has.there, length-append bytes more);
      least = omega (arith, has.least, same);
      most = omega (arith, has.most, same);
    }

content_more : (len : ℕ) (bytes more : List ℕ) → 19 ≤ len → len ≤ length bytes → content_in len (bytes ++ more) ≡ content_in len bytes
content_more len bytes more least there =
    ap (λ (b : List ℕ). take (len - 19) b) (drop-append-le 19 bytes more (omega (arith, least, there)))
    ∙ take-append-le (len - 19) (drop 19 bytes) more (omega (arith, there, length-drop 19 bytes))

whole_more : (bytes more : List ℕ) (kind len : ℕ) → IsWhole bytes kind len → IsWhole (bytes ++ more) kind len
whole_more bytes more kind len whole = record {
  before = has_length_more bytes more whole.before;
  type_is = kind_more bytes more whole.before.there ∙ whole.type_is;
  known = whole.known;
  len_is = length_more bytes more (omega (arith, whole.before.there)) ∙ whole.len_is;
  fits = whole.fits;
  there = omega (arith, whole.there, length-append bytes more);
}

open_more : (bytes more : List ℕ) (t : Told) → RefusedOpen bytes t → RefusedOpen (bytes ++ more) t
open_more bytes more t row =
    let before = row.whole.before in
    let same : length_of (bytes ++ more) ≡ length_of bytes = length_more bytes more (omega (arith, before.there)) in
    let inside : content_in (length_of (bytes ++ more)) (bytes ++ more) ≡ content_in (length_of bytes) bytes =
    ap (λ (n : ℕ). content_in n (bytes ++ more)) same ∙ content_more (length_of bytes) bytes more before.least row.whole.there in
    record {
      whole = subst (λ (n : ℕ). IsWhole (bytes ++ more) 1 n) (sym same) (whole_more bytes more 1 (length_of bytes) row.whole);
      content = subst (λ (b : List ℕ). RefusedContent b t) (sym inside) row.content;
    }

pub refused_more : (bytes more : List ℕ) (t : Told) → Refused bytes t → Refused (bytes ++ more) t
refused_more bytes more t (inl row) = inl (record {
  in_marker = row.in_marker;
  there = omega (arith, row.there, length-append bytes more);
  before = marked_more t.place bytes more (omega (arith, row.there)) row.before;
  byte = λ is. row.byte (sym (cell bytes more t.place row.there) ∙ is);
  told = row.told;
})
refused_more bytes more t (inr (inl row)) = inr (inl (record {
  marker = marked_more 16 bytes more (omega (arith, row.there)) row.marker;
  there = omega (arith, row.there, length-append bytes more);
  range = subst OutOfRange (sym (length_more bytes more row.there)) row.range;
  told = row.told ∙ sym (told_more bytes more row.there);
}))
refused_more bytes more t (inr (inr (inl row))) = inr (inr (inl (record {
  before = has_length_more bytes more row.before;
  kind = subst UnknownType (sym (kind_more bytes more row.before.there)) row.kind;
  told = row.told ∙ ap bad_type (sym (kind_more bytes more row.before.there));
})))
refused_more bytes more t (inr (inr (inr (inl row)))) =
    let there : 18 ≤ length bytes = omega (arith, row.before.there) in
    inr (inr (inr (inl (record {
      before = has_length_more bytes more row.before;
      unfit = subst (λ (n : ℕ). Unfit (kind_of (bytes ++ more)) n) (sym (length_more bytes more there)) (subst (λ (k : ℕ). Unfit k (length_of bytes)) (sym (kind_more bytes more row.before.there)) row.unfit);
      told = row.told ∙ sym (told_more bytes more there);
    }))))
refused_more bytes more t (inr (inr (inr (inr row)))) = inr (inr (inr (inr (open_more bytes more t row))))
