-- What the readers of a content answer.
use Rattle.std.specs.Prelude.{◌≡◌, ℕ, List, Result, Ok, Err}
use Rattle.std.specs.List.{flat_map}
use Rattle.bgp_messages.specs.declared.messages.Message.{Message}
use Rattle.bgp_messages.specs.declared.opens.Open.{Open}
use Rattle.bgp_messages.specs.declared.opens.Param.{Param}
use Rattle.bgp_messages.specs.declared.opens.Capability.{Capability}
use Rattle.bgp_messages.specs.declared.contents.ContentFault.{ContentFault}
use Rattle.bgp_messages.specs.declared.contents.ContentFault.TheVariants as faults
use Rattle.bgp_messages.specs.Opens.{capability_bytes, parameters_bytes, open_bytes, OpenFits}
use Rattle.bgp_messages.specs.Messages.{type_of, content, ContentFits}
use Rattle.bgp_messages.specs.Refusals.{RefusedCapability, RefusedParameters, RefusedContent}
use Rattle.bgp_messages.specs.Faults.{told_of}

abbrev pub CapabilitiesGive : ℕ → List ℕ → Result (List Capability) ContentFault → Type 0
CapabilitiesGive place value (Ok caps) = value ≡ flat_map capability_bytes caps
CapabilitiesGive place value (Err (faults.Refused fault)) = RefusedCapability place value (told_of fault)
CapabilitiesGive place value (Err faults.OutOfMemory) = Unit {0}

abbrev pub ParametersGive : List ℕ → Result (List Param) ContentFault → Type 0
ParametersGive bytes (Ok params) = bytes ≡ parameters_bytes params
ParametersGive bytes (Err (faults.Refused fault)) = RefusedParameters 29 bytes (told_of fault)
ParametersGive bytes (Err faults.OutOfMemory) = Unit {0}

-- the content is that of the OPEN
pub record ReadsOpen (bytes : List ℕ) (o : Open) : Type 0 where
  pub spelled : bytes ≡ open_bytes o
  pub fits : OpenFits o

abbrev pub OpenGives : List ℕ → Result Open ContentFault → Type 0
OpenGives bytes (Ok o) = ReadsOpen bytes o
OpenGives bytes (Err (faults.Refused fault)) = RefusedContent bytes (told_of fault)
OpenGives bytes (Err faults.OutOfMemory) = Unit {0}

-- the content is that of the message, whose type has this number
pub record Reads (kind : ℕ) (bytes : List ℕ) (m : Message) : Type 0 where
  pub type_is : kind ≡ type_of m
  pub spelled : bytes ≡ content m
  pub fits : ContentFits m

-- only an OPEN's content is refused
pub record RefusedAs (kind : ℕ) (bytes : List ℕ) (fault : ContentFault) : Type 0 where
  pub open_type : kind ≡ 1
  pub refused : OpenGives bytes (Err fault)

abbrev pub ContentGives : ℕ → List ℕ → Result Message ContentFault → Type 0
ContentGives kind bytes (Ok m) = Reads kind bytes m
ContentGives kind bytes (Err (faults.Refused fault)) = RefusedAs kind bytes (faults.Refused fault)
ContentGives kind bytes (Err faults.OutOfMemory) = Unit {0}
