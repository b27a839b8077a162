-- The service indexes so far fall, and the bound is the last of them.
use Rattle.std.proofs.Common.{◌≡◌, take}
use Rattle.sfp_attribute.specs.Sfps.{sis, FallFrom}
use Rattle.sfp_attribute.specs.Refusals.{last_of}
use Rattle.route_texts.proofs.line_text.all_fall.Given as goal

abbrev pub invariant-loop-part : goal.invariant-loop-part
invariant-loop-part l = FallFrom 256 (sis (take l.part-index l.path)) × (l.bound ≡ last_of 256 (sis (take l.part-index l.path)))
