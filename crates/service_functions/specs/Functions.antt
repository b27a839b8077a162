-- The ranges of what a service function is told (RFC 7665, section 4.2), and which functions read or write the context.
use Rattle.std.specs.Prelude.{◌≡◌, ℕ, ◌==◌, ◌||◌, ◌<◌, ◌≤◌, ◌^◌, Bool, true, false}
use Rattle.text_words.specs.Hexadecimal.{IsOctets, IsUpToOctets}
use Rattle.service_functions.specs.declared.functions.Function.{Function}
use Rattle.service_functions.specs.declared.functions.Function.TheVariants.{Pass, Firewall, Remark, Nat, HopLimit, PushVlan, PopVlan, Stamp, RequireMeta, ClearMeta}

-- TCP or UDP, by their protocol numbers
abbrev pub has_ports : ℕ → Bool
has_ports protocol = protocol == 6 || protocol == 17

-- a function whose numbers and bytes are in their ranges
abbrev pub IsFunction : Function → Type 0
IsFunction Pass = Unit {0}
IsFunction (Firewall protocol low high) = (has_ports protocol ≡ true) × (low ≤ high) × (high ≤ 65535)
IsFunction (Remark dscp) = dscp ≤ 63
IsFunction (Nat side from to) = IsOctets 4 from × IsOctets 4 to
IsFunction HopLimit = Unit {0}
IsFunction (PushVlan vid) = vid ≤ 4095
IsFunction PopVlan = Unit {0}
IsFunction (Stamp class kind body) = (class < 2 ^ 16) × (kind ≤ 255) × IsUpToOctets 127 body.items
IsFunction (RequireMeta class kind) = (class < 2 ^ 16) × (kind ≤ 255)
IsFunction ClearMeta = Unit {0}

-- a function that reads or writes the context, and so must see the header (RFC 7665, section 4.6)
abbrev pub on_metadata : Function → Bool
on_metadata (Stamp class kind body) = true
on_metadata (RequireMeta class kind) = true
on_metadata ClearMeta = true
on_metadata _ = false
