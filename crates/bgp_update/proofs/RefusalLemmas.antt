-- Each refusal is told no later than where the content ends.
use Rattle.std.proofs.Common.{◌≡◌, ℕ, ◌+◌, ◌≤◌, List, ◌∷◌, ◌++◌, length, ap, inl, inr, arith}
use Rattle.std.proofs.lemmas.List.{length-append}
use Rattle.bgp_update.specs.declared.attributes.Attribute.{Attribute}
use Rattle.wire_base.specs.Numbers.{two}
use Rattle.bgp_update.specs.Nlris.{list_bytes}
use Rattle.bgp_update.specs.Attributes.{hop_bytes, attributes_bytes}
use Rattle.bgp_update.specs.Refusals.{header_size, RefusedList, RefusedReach, RefusedValue, RefusedAttribute, RefusedAttributes, Opens, Refused}
use Rattle.bgp_update.proofs.AttributeLemmas.{value_ends}

list_place : (start : ℕ) (bytes : List ℕ) (place : ℕ) → RefusedList start bytes place → place ≤ start + length bytes
list_place start bytes place row = omega (arith, row.told, ap length row.split, length-append (list_bytes row.good) row.bad)

reach_place : (start header : ℕ) (behind : List ℕ) (place : ℕ) → RefusedReach start header behind place → place ≤ start + header + 3 + length behind
reach_place start header behind place (inl row) = omega (arith, row.1)
reach_place start header behind place (inr row) =
    omega (arith, list_place (start + header + 5 + length (hop_bytes row.0)) row.2 place row.4, ap length row.3.parts, length-append (hop_bytes row.0) (row.1 ∷ row.2))

value_place : (start header kind : ℕ) (value : List ℕ) (place : ℕ) → RefusedValue start header kind value place → place ≤ start + header + length value
value_place start header kind value place (inl row) = omega (arith, row.2)
value_place start header kind value place (inr (inl row)) = omega (arith, reach_place start header row.1 place row.3, ap length row.2)
value_place start header kind value place (inr (inr row)) = omega (arith, list_place (start + header + 3) row.1 place row.3, ap length row.2)

attribute_place : (start : ℕ) (before : List Attribute) (bytes : List ℕ) (place : ℕ) → RefusedAttribute start before bytes place → place ≤ start + length bytes
attribute_place start before bytes place (inl row) = omega (arith, row.1)
attribute_place start before bytes place (inr row) =
    let ends = value_ends bytes row.flags row.kind row.value row.more row.whole in
    elim row.row [
      | inl again ↦ omega (arith, again.1)
      | inr refused ↦ omega (arith, value_place start (header_size row.flags) row.kind row.value place refused.1, ends)
    ]

attributes_place : (start : ℕ) (bytes : List ℕ) (place : ℕ) → RefusedAttributes start bytes place → place ≤ start + length bytes
attributes_place start bytes place row =
    omega (arith, attribute_place (start + length (attributes_bytes row.good)) row.good row.bad place row.first, ap length row.split, length-append (attributes_bytes row.good) row.bad)

opening_length : (bytes withdrawn : List ℕ) (size : ℕ) (more : List ℕ) → Opens bytes withdrawn size more → length bytes ≡ 4 + length withdrawn + length more
opening_length bytes withdrawn size more o = omega (arith, ap length o.parts, length-append (withdrawn ++ two size) more, length-append withdrawn (two size))

-- a place that is told stands in the content, or where it ends
pub refused_place : (bytes : List ℕ) (place : ℕ) → Refused bytes place → place ≤ length bytes
refused_place bytes place (inl row) = omega (arith, row.1)
refused_place bytes place (inr (inl row)) = omega (arith, row.told, opening_length bytes row.withdrawn row.size row.more row.opens)
refused_place bytes place (inr (inr row)) =
    omega (
      arith,
      attributes_place (4 + length row.withdrawn) row.attributes place row.one,
      opening_length bytes row.withdrawn (length row.attributes) (row.attributes ++ row.nlri) row.opens,
      length-append row.attributes row.nlri,
    )
