-- Runs of the machine.
use Rattle.std.proofs.Common.{List, [], ◌∷◌, ◌++◌, subst, refl}
use Rattle.session_machine.specs.declared.sides.Side.{Side}
use Rattle.session_machine.specs.declared.events.Effects.{Effects}
use Rattle.session_machine.specs.Events.{Happening, Machine, Steps}
use Rattle.session_machine.specs.Histories.{Runs}

-- a run goes on by one step
pub one_more : (side : Side) (begin mid end : Machine) (events : List Happening) (given : List Effects) (event : Happening) (effects : Effects)
    → Runs side begin events given mid → Steps side mid event effects end → Runs side begin (events ++ event ∷ []) (given ++ effects ∷ []) end
one_more side begin mid end [] [] event effects run step = (end, subst (λ (m : Machine). Steps side m event effects end) run step, refl)
one_more side begin mid end (e ∷ es) (f ∷ fs) event effects run step = (run.0, run.1, one_more side run.0 mid end es fs event effects run.2 step)
one_more side begin mid end [] (f ∷ fs) event effects run step = absurd run
one_more side begin mid end (e ∷ es) [] event effects run step = absurd run
