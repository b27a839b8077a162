-- Contents as they are read: an OPEN from its cells, and where a capability is refused.
use Rattle.std.proofs.Common.{◌≡◌, ℕ, ◌+◌, ◌-◌, ◌*◌, ◌/◌, ◌%◌, ◌<◌, ◌≤◌, List, ◌∷◌, ◌++◌, length, get_or, take, drop, Err, ap, subst, ◌∙◌, inr, arith}
use Rattle.std.proofs.lemmas.List.{length-append}
use Rattle.wire_base.specs.Numbers.{big_endian}
use Rattle.bgp_messages.specs.declared.opens.Open.{Open}
use Rattle.bgp_messages.specs.declared.opens.Param.{Param}
use Rattle.bgp_messages.specs.declared.contents.ContentFault.{ContentFault}
use Rattle.bgp_messages.specs.declared.contents.ContentFault.TheVariants as faults
use Rattle.bgp_messages.specs.Opens.{parameters_bytes, open_bytes}
use Rattle.bgp_messages.specs.Items.{Splits}
use Rattle.bgp_messages.specs.Contents.{CapabilitiesGive, ParametersGive}

-- a refusal inside a parameter is one of the whole list
pub refused_inside : (bytes : List ℕ) (good : List Param) (bad value more : List ℕ) (code : ℕ) (fault : ContentFault)
    → bytes ≡ parameters_bytes good ++ bad → Splits bad code value more → code ≡ 2
    → CapabilitiesGive (29 + (length bytes - length bad) + 2) value (Err fault) → ParametersGive bytes (Err fault)
refused_inside bytes good bad value more code (faults.Refused f) split item two_is refused =
    let place : 29 + length (parameters_bytes good) ≡ 29 + (length bytes - length bad) = omega (arith, ap length split, length-append (parameters_bytes good) bad) in
    record {
      good = good;
      bad = bad;
      split = split;
      first = inr (inr (record { value = value; more = more; whole = subst (λ (k : ℕ). bad ≡ k ∷ length value ∷ value ++ more) two_is item.parts; capability = rw place refused }));
    }
refused_inside bytes good bad value more code faults.OutOfMemory split item two_is refused = tt

-- the bytes are below 256
pub record AreBytes (bytes : List ℕ) : Type 0 where
  pub each : (i : ℕ) → get_or bytes i 0 < 256

-- the fields of an OPEN as they stand in its content
pub record FieldsAre (bytes : List ℕ) (o : Open) : Type 0 where
  pub there : 10 ≤ length bytes
  pub version : get_or bytes 0 0 ≡ 4
  pub my_as : o.my_as ≡ 256 * get_or bytes 1 0 + get_or bytes 2 0
  pub hold : o.hold ≡ 256 * get_or bytes 3 0 + get_or bytes 4 0
  pub id : o.id ≡ big_endian (take 4 (drop 5 bytes))
  pub size : get_or bytes 9 0 ≡ length (drop 10 bytes)
  pub params : drop 10 bytes ≡ parameters_bytes o.params

pub open_spelled : (bytes : List ℕ) (o : Open) → AreBytes bytes → FieldsAre bytes o → bytes ≡ open_bytes o
open_spelled (v ∷ a ∷ b ∷ h ∷ k ∷ i ∷ j ∷ l ∷ m ∷ n ∷ rest) o fits f =
    let fits_a : a < 256 = fits.each 1 in
    let fits_b : b < 256 = fits.each 2 in
    let fits_h : h < 256 = fits.each 3 in
    let fits_k : k < 256 = fits.each 4 in
    let fits_i : i < 256 = fits.each 5 in
    let fits_j : j < 256 = fits.each 6 in
    let fits_l : l < 256 = fits.each 7 in
    let fits_m : m < 256 = fits.each 8 in
    let is_id : o.id ≡ i * 16777216 + (j * 65536 + (l * 256 + m)) = omega (arith, f.id) in
    let is_a : a ≡ o.my_as / 256 = omega (arith, f.my_as) in
    let is_b : b ≡ o.my_as % 256 = omega (arith, f.my_as) in
    let is_h : h ≡ o.hold / 256 = omega (arith, f.hold) in
    let is_k : k ≡ o.hold % 256 = omega (arith, f.hold) in
    let is_i : i ≡ o.id / 65536 / 256 = omega (arith, is_id) in
    let is_j : j ≡ o.id / 65536 % 256 = omega (arith, is_id) in
    let is_l : l ≡ o.id % 65536 / 256 = omega (arith, is_id) in
    let is_m : m ≡ o.id % 65536 % 256 = omega (arith, is_id) in
    let is_v : v ≡ 4 = f.version in
    let is_rest : rest ≡ parameters_bytes o.params = f.params in
    let is_n : n ≡ length (parameters_bytes o.params) = f.size ∙ ap length is_rest in
    cc
open_spelled _ o fits f = absurd (omega (arith, f.there))
