-- What the readers of a line and of a text answer.
use Rattle.std.specs.Prelude.{◌≡◌, ℕ, Bool, true, false, List, [], ◌∷◌, ◌++◌, Option, Some, None, Result, Ok, Err}
use Rattle.wire_base.specs.declared.faults.OutOfMemory.{OutOfMemory}
use Rattle.sfc_routes.specs.declared.routes.Route.{Route}
use Rattle.route_texts.specs.declared.faults.RoutesFault.{RoutesFault}
use Rattle.route_texts.specs.declared.faults.RoutesFault.TheVariants as faults
use Rattle.route_texts.specs.RouteTexts.{Takes, IsRoutes, IsRefused}

-- the value that a word spells, or that it spells none; no more is said where there was no memory
abbrev pub Found : {W V : Type 0} → (W → V → Type 0) → W → Result (Option V) OutOfMemory → Type 0
Found Spells word (Ok (Some v)) = Spells word v
Found {W} {V} Spells word (Ok None) = (v : V) → Spells word v → ⊥
Found Spells word (Err fault) = Unit {0}

-- what taking a line behind some routes answers and leaves
abbrev pub Taken : List Route → List ℕ → Result Bool OutOfMemory → List Route → Type 0
Taken before line (Ok true) after = (r : Route) × Takes before line r × (after ≡ before ++ r ∷ [])
Taken before line (Ok false) after = (r : Route) → Takes before line r → ⊥
Taken before line (Err fault) after = Unit {0}

-- what parsing answers: the routes that the text spells, or its first refused line
abbrev pub Parses : List ℕ → Result (List Route) RoutesFault → Type 0
Parses text (Ok routes) = IsRoutes text routes
Parses text (Err (faults.Line n)) = IsRefused text n
Parses text (Err faults.OutOfMemory) = Unit {0}
