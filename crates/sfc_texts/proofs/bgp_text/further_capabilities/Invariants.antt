-- The text has the capabilities of the parameters so far.
use Rattle.std.proofs.Common.{◌≡◌, take}
use Rattle.std.specs.List.{flat_map}
use Rattle.bgp_messages.specs.Opens.{capabilities_of}
use Rattle.sfc_texts.specs.BgpText.{further_capability}
use Rattle.sfc_texts.proofs.bgp_text.further_capabilities.Given as goal

abbrev pub invariant-loop-param : goal.invariant-loop-param
invariant-loop-param l = l.text ≡ flat_map further_capability (capabilities_of (take l.param-index l.params))
