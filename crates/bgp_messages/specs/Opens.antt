-- The content of an OPEN (RFC 4271, section 4.2), whose parameters are lists of capabilities (RFC 5492, section 4).
use Rattle.std.specs.Prelude.{◌≢◌, ℕ, ◌^◌, ◌<◌, ◌==◌, Bool, ◌&&◌, List, ◌∷◌, ◌++◌, length, find}
use Rattle.std.specs.List.{flat_map}
use Rattle.std.specs.Option.{option_map_or}
use Rattle.wire_base.specs.Numbers.{big_endian, two, four}
use Rattle.bgp_messages.specs.declared.opens.Open.{Open}
use Rattle.bgp_messages.specs.declared.opens.Param.{Param}
use Rattle.bgp_messages.specs.declared.opens.Capability.{Capability}

-- a capability: its code, the length of its body, its body
abbrev pub capability_bytes : Capability → List ℕ
capability_bytes c = c.code ∷ length c.body ∷ c.body

-- the value of a parameter: its capabilities, one behind the other
abbrev pub value_bytes : Param → List ℕ
value_bytes p = flat_map capability_bytes p.caps

-- a parameter: its type 2, the length of its value, its value
abbrev pub parameter_bytes : Param → List ℕ
parameter_bytes p = 2 ∷ length (value_bytes p) ∷ value_bytes p

-- all parameters, one behind the other
abbrev pub parameters_bytes : List Param → List ℕ
parameters_bytes ps = flat_map parameter_bytes ps

-- the whole content: version 4, AS, hold time, identifier, the length of the parameters, the parameters
abbrev pub open_bytes : Open → List ℕ
open_bytes o = 4 ∷ two o.my_as ++ two o.hold ++ four o.id ++ length (parameters_bytes o.params) ∷ parameters_bytes o.params

-- each field has a value that an OPEN may have, and the parameters have a length that one byte can say
pub record OpenFits (o : Open) : Type 0 where
  pub my_as : o.my_as < 2 ^ 16
  pub hold : o.hold < 2 ^ 16
  pub not_one : o.hold ≢ 1
  pub not_two : o.hold ≢ 2
  pub id : o.id < 2 ^ 32
  pub some_id : 0 < o.id
  pub size : length (parameters_bytes o.params) < 256

-- a capability that carries an AS of 4 bytes (RFC 6793, section 3)
abbrev pub carries_as : Capability → Bool
carries_as c = (c.code == 65) && (length c.body == 4)

-- the capabilities of all parameters, in their order
abbrev pub capabilities_of : List Param → List Capability
capabilities_of ps = flat_map (λ p. p.caps) ps

-- the AS of the first capability that carries one, else that of the AS field
abbrev pub peer_as_of : Open → ℕ
peer_as_of o = option_map_or (λ c. big_endian c.body) (find carries_as (capabilities_of o.params)) o.my_as
