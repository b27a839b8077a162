-- Why a feed has stopped, as contracts see it: a refusal's place is counted from the feed's first byte.
use Rattle.std.specs.Prelude.{ℕ, ◌+◌, ◌^◌, ◌<◌, Option, None, Some}
use Rattle.bgp_messages.specs.declared.feeds.Halt.{Halt}
use Rattle.bgp_messages.specs.declared.feeds.Halt.TheVariants as halts
use Rattle.bgp_messages.specs.Refusals.{moved}
use Rattle.bgp_messages.specs.Faults.{told_of}
use Rattle.bgp_messages.specs.Kept.{Stop, refused, failed}

abbrev pub stop_at : ℕ → Halt → Stop
stop_at place (halts.Refused fault) = refused (moved place (told_of fault))
stop_at place halts.OutOfMemory = failed

abbrev pub stop_of : ℕ → Option Halt → Option Stop
stop_of place None = None
stop_of place (Some halt) = Some (stop_at place halt)

-- the place of a refusal is a number of 64 bits
abbrev pub FitsAt : ℕ → Halt → Type 0
FitsAt place (halts.Refused fault) = place + (told_of fault).place < 2 ^ 64
FitsAt place halts.OutOfMemory = Unit {0}

abbrev pub HaltFits : ℕ → Option Halt → Type 0
HaltFits place None = Unit {0}
HaltFits place (Some halt) = FitsAt place halt
