-- A frame that was forwarded over the table after all changes has the record that a run on one thread may say.
use Rattle.std.proofs.Common.{◌≡◌, ℕ, List, [], ◌∷◌, length, take, sym, subst, arith}
use Rattle.std.specs.List.{AllByRecursion, AllZip}
use Rattle.std.proofs.lemmas.List.{take_all}
use Rattle.std.proofs.lemmas.List.Elements.{All-from_recursion}
use Rattle.sfc_routes.specs.Entries.{Entries}
use Rattle.sfc_routes.specs.declared.route_changes.RouteChange.{RouteChange}
use Rattle.sfc_config.specs.Parts.{Parts}
use Rattle.path_selection.specs.Paths.{ServicePath}
use Rattle.route_selection.specs.Names.{AreOfRoster}
use Rattle.route_selection.proofs.NameLemmas.{names_roster}
use Rattle.forwarder.specs.Workspaces.{taken_in}
use Rattle.control_histories.specs.Versions.{IsVersion, TableAfter}
use Rattle.worker_run.specs.Batches.{Carried}
use Rattle.worker_run.specs.Steps.{Forwards}
use Rattle.worker_run.specs.Runners.{Carries}
use Rattle.worker_run.proofs.NameLemmas.{named}

abbrev pub IsOnly : ℕ → List ServicePath → ℕ → List ServicePath → Type 0
IsOnly version table v t = (v ≡ version) × (t ≡ table)

last_version : (roster : Entries) (changes : List RouteChange) (table : List ServicePath) (v : ℕ) (t : List ServicePath) → TableAfter roster changes table → IsOnly (length changes) table v t → IsVersion roster changes v t
last_version roster changes table v t after is =
    let all : take v changes ≡ changes = take_all v changes (omega (arith, is.0)) in
    record {
      made = omega (arith, is.0);
      table_is = subst (λ (cs : List RouteChange). TableAfter roster cs t) (sym all) (subst (TableAfter roster changes) (sym is.1) after);
    }

pub over_versions : (roster : Entries) (changes : List RouteChange) (table : List ServicePath) (vs : List ℕ) (ts : List (List ServicePath)) → TableAfter roster changes table → AllZip (IsOnly (length changes) table) vs ts → AllZip (λ v t. IsVersion roster changes v t) vs ts
over_versions roster changes table [] [] after all = tt
over_versions roster changes table [] (t ∷ ts) after all = absurd all
over_versions roster changes table (v ∷ vs) [] after all = absurd all
over_versions roster changes table (v ∷ vs) (t ∷ ts) after all = (last_version roster changes table v t after all.0, over_versions roster changes table vs ts after all.1)

pub only_version : (version : ℕ) (table : List ServicePath) (vs : List ℕ) (ts : List (List ServicePath)) → AllZip (IsOnly version table) vs ts → AllByRecursion (λ (v : ℕ). v ≡ version) vs
only_version version table [] ts all = tt
only_version version table (v ∷ vs) [] all = absurd all
only_version version table (v ∷ vs) (t ∷ ts) all = (all.0.0, only_version version table vs ts all.1)

of_roster : (roster : Entries) (version : ℕ) (table : List ServicePath) (vs : List ℕ) (ts : List (List ServicePath)) → AreOfRoster roster table → AllZip (IsOnly version table) vs ts → AllByRecursion (AreOfRoster roster) ts
of_roster roster version table vs [] names all = tt
of_roster roster version table [] (t ∷ ts) names all = absurd all
of_roster roster version table (v ∷ vs) (t ∷ ts) names all = (subst (AreOfRoster roster) (sym all.0.1) names, of_roster roster version table vs ts names all.1)

pub carries : (setup : Parts) (changes : List RouteChange) (table : List ServicePath) (old new : Carried) → TableAfter setup.roster changes table → Forwards setup (length changes) table old new → Carries setup changes old new
carries setup changes table old new after x =
    let vs = new.outcome.versions.items in
    let names : AreOfRoster setup.roster table = names_roster setup.roster after.routes table after.selected in
    record {
      single = record {
        told = record {
          walk = x.walk;
          walks = x.walks;
          over = over_versions setup.roster changes table vs x.walk.tables after x.over;
          tells = x.tells;
        };
        newest = All-from_recursion (λ (v : ℕ). v ≡ length changes) vs (only_version (length changes) table vs x.walk.tables x.over);
        worker_is = x.worker_is;
      };
      named = named setup (taken_in old.frame.bytes old.frame.original) x.walk new.outcome (of_roster setup.roster (length changes) table vs x.walk.tables names x.over) x.walks x.tells;
      left = x.left;
    }

pub all_carry : (setup : Parts) (changes : List RouteChange) (table : List ServicePath) (old new : List Carried) → TableAfter setup.roster changes table
    → AllZip (Forwards setup (length changes) table) old new → AllZip (λ c d. Carries setup changes c d) old new
all_carry setup changes table [] [] after all = tt
all_carry setup changes table [] (d ∷ ds) after all = absurd all
all_carry setup changes table (c ∷ cs) [] after all = absurd all
all_carry setup changes table (c ∷ cs) (d ∷ ds) after all = (carries setup changes table c d after all.0, all_carry setup changes table cs ds after all.1)
