-- The lines of attributes, printed as the attributes are cut off one after the other.
use Rattle.std.proofs.Common.{◌≡◌, ℕ, List, [], ◌∷◌, ◌++◌, append_assoc, append-nil, sym, ap, subst, ◌∙◌}
use Rattle.std.specs.List.{flat_map, AllByRecursion}
use Rattle.bgp_update.specs.declared.attributes.Attribute.{Attribute}
use Rattle.bgp_update.specs.Attributes.{attributes_bytes, AttributeFits}
use Rattle.bgp_update.specs.Refusals.{RunsPast, Splits}
use Rattle.bgp_update.proofs.UpdateReadings.{first_cut, first_whole}
use Rattle.sfc_texts.specs.BgpText.{value_line, attribute_line}

-- what is left of the attributes, and the text with their lines
pub record LinesLeft (text rest now : List ℕ) : Type 0 where
  pub left : List Attribute
  pub fit : AllByRecursion AttributeFits left
  pub rest_is : rest ≡ attributes_bytes left
  pub lines : now ++ flat_map attribute_line left ≡ text

-- the first of those that are left was cut off, and its line was appended
after_line : (text rest now after : List ℕ) (flags kind : ℕ) (value more : List ℕ) (left : List Attribute) → AllByRecursion AttributeFits left → rest ≡ attributes_bytes left
    → now ++ flat_map attribute_line left ≡ text → Splits rest flags kind value more → after ≡ now ++ value_line flags kind value → LinesLeft text more after
after_line text rest now after flags kind value more [] fit rest_is lines cut printed =
    let e : [] ≡ flags ∷ _ = sym rest_is ∙ cut.parts in
    cc
after_line text rest now after flags kind value more (a ∷ left) fit rest_is lines cut printed =
    let one = first_cut a (attributes_bytes left) flags kind value more fit.0 (subst (λ (b : List ℕ). Splits b flags kind value more) rest_is cut) in
    let same : value_line flags kind value ≡ attribute_line a =
    ap (λ (f : ℕ). value_line f kind value) one.flags_is ∙ ap (λ (k : ℕ). value_line a.flags k value) one.kind_is ∙ ap (λ (v : List ℕ). value_line a.flags a.kind v) one.value_is in
    record {
      left = left;
      fit = fit.1;
      rest_is = one.more_is;
      lines = ap (λ (t : List ℕ). t ++ flat_map attribute_line left) (printed ∙ ap (λ (l : List ℕ). now ++ l) same) ∙ append_assoc now (attribute_line a) (flat_map attribute_line left) ∙ lines;
    }

pub line_printed : (text rest now after : List ℕ) (flags kind : ℕ) (value more : List ℕ) → LinesLeft text rest now → Splits rest flags kind value more → after ≡ now ++ value_line flags kind value
    → LinesLeft text more after
line_printed text rest now after flags kind value more so_far cut printed =
    after_line text rest now after flags kind value more so_far.left so_far.fit so_far.rest_is so_far.lines cut printed

at_end : (text rest now : List ℕ) (left : List Attribute) → AllByRecursion AttributeFits left → rest ≡ attributes_bytes left → now ++ flat_map attribute_line left ≡ text → RunsPast rest → now ≡ text
at_end text rest now [] fit rest_is lines past = sym (append-nil now) ∙ lines
at_end text rest now (a ∷ left) fit rest_is lines past = absurd (first_whole a (attributes_bytes left) fit.0 (subst RunsPast rest_is past))

-- none can be cut off, so none is left
pub all_printed : (text rest now : List ℕ) → LinesLeft text rest now → RunsPast rest → now ≡ text
all_printed text rest now so_far past = at_end text rest now so_far.left so_far.fit so_far.rest_is so_far.lines past
