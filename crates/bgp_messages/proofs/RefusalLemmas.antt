-- Each refusal is told at a byte that is there.
use Rattle.std.proofs.Common.{◌≡◌, ℕ, ◌+◌, ◌-◌, ◌<◌, ◌≤◌, List, length, drop, refl, ap, inl, inr, arith}
use Rattle.std.specs.List.{flat_map}
use Rattle.std.proofs.lemmas.List.{length-append, length-take, length-drop}
use Rattle.bgp_messages.specs.Opens.{capability_bytes, parameters_bytes}
use Rattle.bgp_messages.specs.Headers.{length_of}
use Rattle.bgp_messages.specs.Refusals.{Told, RefusedCapability, RefusedParameter, RefusedParameters, RefusedContent, Refused, content_in}

abbrev place_of : Told → ℕ
place_of t = t.place

capability_place : (place : ℕ) (value : List ℕ) (t : Told) → RefusedCapability place value t → t.place < place + length value
capability_place place value t row =
    omega (arith, ap place_of row.told, ap length row.split, length-append (flat_map capability_bytes row.good) row.bad, row.some)

parameter_place : (place : ℕ) (bytes : List ℕ) (t : Told) → RefusedParameter place bytes t → t.place < place + length bytes
parameter_place place bytes t (inl row) = omega (arith, ap place_of row.told, row.some)
parameter_place place bytes t (inr (inl row)) = omega (arith, ap place_of row.told, ap length row.whole)
parameter_place place bytes t (inr (inr row)) =
    omega (arith, capability_place (place + 2) row.value t row.capability, ap length row.whole, length-append row.value row.more)

parameters_place : (place : ℕ) (bytes : List ℕ) (t : Told) → RefusedParameters place bytes t → t.place < place + length bytes
parameters_place place bytes t row =
    omega (arith, parameter_place (place + length (parameters_bytes row.good)) row.bad t row.first, ap length row.split, length-append (parameters_bytes row.good) row.bad)

content_place : (bytes : List ℕ) (t : Told) → 10 ≤ length bytes → RefusedContent bytes t → t.place < 19 + length bytes
content_place bytes t le (inl row) = omega (arith, ap place_of row.told)
content_place bytes t le (inr (inl row)) = omega (arith, ap place_of row.told)
content_place bytes t le (inr (inr (inl row))) = omega (arith, ap place_of row.told)
content_place bytes t le (inr (inr (inr (inl row)))) = omega (arith, ap place_of row.told)
content_place bytes t le (inr (inr (inr (inr row)))) = omega (arith, parameters_place 29 (drop 10 bytes) t row.parameters, length-drop 10 bytes)

pub refused_place : (bytes : List ℕ) (t : Told) → Refused bytes t → t.place < length bytes
refused_place bytes t (inl row) = row.there
refused_place bytes t (inr (inl row)) = omega (arith, ap place_of row.told, row.there)
refused_place bytes t (inr (inr (inl row))) = omega (arith, ap place_of row.told, row.before.there)
refused_place bytes t (inr (inr (inr (inl row)))) = omega (arith, ap place_of row.told, row.before.there)
refused_place bytes t (inr (inr (inr (inr row)))) =
    let least : 29 ≤ length_of bytes = row.whole.fits.an_open refl in
    let size : length (content_in (length_of bytes) bytes) ≡ length_of bytes - 19 = omega (arith, length-take (length_of bytes - 19) (drop 19 bytes), length-drop 19 bytes, row.whole.there, least) in
    omega (arith, content_place (content_in (length_of bytes) bytes) t (omega arith) row.content, row.whole.there, size, least)
