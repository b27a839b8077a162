-- Each target has 8 bytes.
use Rattle.std.proofs.Common.{ℕ, List, length, ap, arith}
use Rattle.std.specs.List.{flat_map}
use Rattle.announced_files.proofs.UpdateLemmas.{length_octets}
use Rattle.announced_files.proofs.attributes.communities_attribute.Goals as goal

pub attribute_with-requires-clause-size : goal.attribute_with-requires-clause-size
attribute_with-requires-clause-size c =
    let same = ap (λ (ts : List (List ℕ)). length (flat_map (λ (t : List ℕ). t) ts)) c.in_ok-copy_of.ensures in
    omega (arith, same, length_octets c.args.targets.now c.requires.octets)
