-- The peers of a setup, of which one has the number or none has.
use Rattle.std.proofs.Common.{◌≢◌, ℕ, List, refl, ap, ◌∙◌, arith}
use Rattle.std.specs.Prelude.{Contains}
use Rattle.std.specs.List.{All}
use Rattle.std.proofs.lemmas.List.{length-map, get_or-map}
use Rattle.std.proofs.lemmas.List.Elements.{All-contains}
use Rattle.text_words.specs.Numbers.{IsWithin}
use Rattle.control_files.specs.Segments.{numbers}
use Rattle.sfc_config.specs.Parts.{Parts, AreParts}
use Rattle.session_machine.specs.Sides.{IsPeer}

-- no peer has the number
pub none_of : (peers : List (ℕ × ℕ)) (peer : ℕ) → All (λ p. p.0 ≢ peer) peers → (asn : ℕ) → Contains peers (peer, asn) → ⊥
none_of peers peer none asn has = All-contains (λ (p : ℕ × ℕ). p.0 ≢ peer) peers (peer, asn) none has refl

abbrev IsInRange : ℕ × ℕ → Type 0
IsInRange p = IsWithin 1 65535 p.0 × IsWithin 1 4294967295 p.1

-- a peer of a setup has a number and an AS in their ranges
pub peer_fits : (setup : Parts) (peer asn : ℕ) → AreParts setup → Contains setup.peers (peer, asn) → IsPeer peer asn
peer_fits setup peer asn parts has =
    let fits : IsInRange (peer, asn) = All-contains IsInRange setup.peers (peer, asn) parts.peers_fit has in
    record {
      number_some = fits.0.0;
      number_most = omega (arith, fits.0.1);
      asn_some = fits.1.0;
      asn_most = omega (arith, fits.1.1);
    }

-- and its number is one of the setup's
pub number_of : (setup : Parts) (peer asn : ℕ) → Contains setup.peers (peer, asn) → Contains (numbers setup.peers) peer
number_of setup peer asn has = (
  has.0,
  omega (arith, has.1, length-map setup.peers (λ (p : ℕ × ℕ). p.0)),
  get_or-map (λ (p : ℕ × ℕ). p.0) setup.peers has.0 (peer, asn) peer has.1 ∙ ap (λ (p : ℕ × ℕ). p.0) has.2,
)
