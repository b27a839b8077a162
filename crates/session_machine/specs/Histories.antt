-- A session over a whole list of events, and what a `Session` stands for.
use Rattle.std.specs.Prelude.{◌≡◌, ℕ, List, [], ◌∷◌}
use Rattle.bgp_session.specs.declared.local_sides.Local.{Local}
use Rattle.session_machine.specs.declared.sides.Side.{Side}
use Rattle.session_machine.specs.declared.events.Effects.{Effects}
use Rattle.session_machine.specs.Sides.{side_of}
use Rattle.session_machine.specs.Events.{Happening, Machine, Steps, beginning}

-- the machine may give these effects for these events, one step after another, and no other number of them
abbrev pub Runs : Side → Machine → List Happening → List Effects → Machine → Type 0
Runs side old [] [] new = new ≡ old
Runs side old (event ∷ events) (effects ∷ more) new = (mid : Machine) × Steps side old event effects mid × Runs side mid events more new
Runs side old [] (effects ∷ more) new = ⊥
Runs side old (event ∷ events) [] new = ⊥

-- the effects of a list of events on the session with a peer, which begins in Idle
abbrev pub Sent : Local → ℕ → ℕ → List Happening → List Effects → Type 0
Sent local peer asn events effects = (end : Machine) × Runs (side_of local peer asn) beginning events effects end
