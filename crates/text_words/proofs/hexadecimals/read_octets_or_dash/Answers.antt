-- A word that is no dash spells bytes only by two digits for each.
use Rattle.std.proofs.Common.{◌/◌, ◌≡◌, length, arith, inl, inr, length-take-le, sym, ◌∙◌}
use Rattle.text_words.proofs.HexLemmas.{dash_or_digits}
use Rattle.text_words.proofs.hexadecimals.read_octets_or_dash.Goals as goal

pub returns-then-count-eq0 : goal.returns-then-count-eq0
returns-then-count-eq0 g c = λ v fits e. elim (dash_or_digits _ v.items e) [
  | inl dash ↦ let yes = c.is_dash.ensures.1 dash in let no = c.if-is_dash.false in cc
  | inr digits ↦ omega (arith, digits, c.if-count-eq0.true)
]

pub returns-then-count : goal.returns-then-count
returns-then-count g c = λ v fits e. elim (dash_or_digits _ v.items e) [
  | inl dash ↦ let yes = c.is_dash.ensures.1 dash in let no = c.if-is_dash.false in cc
  | inr digits ↦ omega (arith, digits, fits, c.if-count.true)
]

pub returns-then-not-fill_octets : goal.returns-then-not-fill_octets
returns-then-not-fill_octets g c = λ v fits e. elim (dash_or_digits _ v.items e) [
  | inl dash ↦ let yes = c.is_dash.ensures.1 dash in let no = c.if-is_dash.false in cc
  | inr digits ↦
      let half : length v.items ≡ length c.args.word.now / 2 = omega (arith, digits) in
      let room = length-take-le (length c.args.word.now / 2) _ (grind (arith, c.if-count.false)) in
      c.if-not-fill_octets.ensures.value v.items (half ∙ sym room, fits.1) digits.2
]
