-- What is answered is all that the text can be read as.
use Rattle.std.proofs.Common.{◌≡◌, ◌⊎◌, ℕ, List, inl, inr, ap, refl, Ok, Err}
use Rattle.std.specs.Prelude.{Result}
use Rattle.sfc_routes.specs.declared.routes.Route.{Route}
use Rattle.route_texts.specs.declared.faults.RoutesFault.{RoutesFault}
use Rattle.route_texts.specs.declared.faults.RoutesFault.TheVariants as faults
use Rattle.route_texts.specs.RouteTexts.{IsRoutes, IsRefused}
use Rattle.route_texts.specs.Steps.{Parses}
use Rattle.route_texts.proofs.TextReadings.{one_reading, never_both, one_refusal}

pub exact_routes : (text : List ℕ) (v : List Route) (answer : Result (List Route) RoutesFault) → IsRoutes text v → Parses text answer → (answer ≡ Ok v) ⊎ (answer ≡ Err faults.OutOfMemory)
exact_routes text v (Ok given) is reads = inl (ap Ok (one_reading text given v reads is))
exact_routes text v (Err (faults.Line n)) is reads = absurd (never_both text v n is reads)
exact_routes text v (Err faults.OutOfMemory) is reads = inr refl

pub exact_refusal : (text : List ℕ) (n : ℕ) (answer : Result (List Route) RoutesFault) → IsRefused text n → Parses text answer
    → (answer ≡ Err (faults.Line n)) ⊎ (answer ≡ Err faults.OutOfMemory)
exact_refusal text n (Ok given) refused reads = absurd (never_both text given n reads refused)
exact_refusal text n (Err (faults.Line m)) refused reads = inl (ap (λ (k : ℕ). Err (faults.Line k)) (one_refusal text m n reads refused))
exact_refusal text n (Err faults.OutOfMemory) refused reads = inr refl
