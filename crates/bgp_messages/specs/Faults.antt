-- What is told of each fault, counted from the message's first byte.
use Rattle.bgp_messages.specs.declared.refusals.Fault.{Fault}
use Rattle.bgp_messages.specs.declared.refusals.Fault.TheVariants as faults
use Rattle.bgp_messages.specs.Refusals.{Told, not_synchronized, bad_length, bad_type, malformed, bad_version, bad_identifier, bad_parameter, bad_hold_time}

abbrev pub told_of : Fault → Told
told_of (faults.Marker place) = not_synchronized place
told_of (faults.Length high low) = bad_length high low
told_of (faults.Type kind) = bad_type kind
told_of faults.Version = bad_version
told_of faults.HoldTime = bad_hold_time
told_of faults.Identifier = bad_identifier
told_of (faults.Malformed place) = malformed place
told_of (faults.Parameter place) = bad_parameter place
