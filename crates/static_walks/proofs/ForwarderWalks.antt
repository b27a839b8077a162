-- What a forwarder without instances walks over the path's table is a walk over the static path.
use Rattle.std.proofs.Common.{◌≡◌, ℕ, List, [], ◌∷◌, All, length, replicate, refl, ap, subst, ◌∙◌, arith}
use Rattle.std.proofs.lemmas.List.Elements.{All-tail}
use Rattle.wire_base.specs.declared.ids.ForwarderId.{ForwarderId}
use Rattle.net_frames.specs.Captured.{Captured}
use Rattle.nsh_metadata.specs.declared.contexts.Context.TheVariants.{Items}
use Rattle.path_selection.specs.Paths.{ServicePath}
use Rattle.classifier.specs.Stations.{first_station}
use Rattle.classifier.specs.Verdicts.{Start}
use Rattle.classifier.specs.declared.verdicts.Verdict.{Verdict}
use Rattle.classifier.specs.declared.verdicts.Verdict.TheVariants.{Path}
use Rattle.setup_statements.specs.declared.statements.Bound.{Bound}
use Rattle.sfc_config.specs.Parts.{Parts}
use Rattle.forwarder.specs.Walks.{IsWalk, Walk, WalkFrom, WalksBy, WalksFrom, functions_of}
use Rattle.forwarder.proofs.OneWalk.{OneVerdict}
use Rattle.static_walks.specs.Walks.{WalksTo, here, static_header, static_table}

-- tables that are all the same one
all_same : (table : List ServicePath) (tables : List (List ServicePath)) → All (λ (t : List ServicePath). t ≡ table) tables → tables ≡ replicate (length tables) table
all_same table [] all = refl
all_same table (t ∷ ts) all =
    let first : t ≡ table = all 0 t (omega arith) in
    ap (λ (x : List ServicePath). x ∷ ts) first
    ∙ ap (λ (l : List (List ServicePath)). table ∷ l) (all_same table ts (All-tail (λ (t : List ServicePath). t ≡ table) t ts all))

pub walked_so : OneVerdict → (spi count : ℕ) (setup : Parts) (frame : Captured) (walk : Walk) → setup.instances ≡ [] → setup.ingress ≡ here → Start setup.rules frame.bytes (Path spi 255 63 (Items [])) → All (λ (table : List ServicePath). table ≡ static_table spi count) walk.tables → IsWalk setup frame walk → WalksTo spi count frame walk.end
walked_so one_start spi count setup frame walk bare home start still is =
    let verdict_is = one_start setup.rules frame.bytes is.verdict (Path spi 255 63 (Items [])) is.begins start in
    let by : WalksBy setup frame (Path spi 255 63 (Items [])) walk = subst (λ (v : Verdict). WalksBy setup frame v walk) verdict_is is.walks in
    let unbound = subst (λ (bounds : List Bound). WalksFrom (functions_of bounds) (first_station setup.ingress frame (static_header spi)) walk) bare by in
    let at_home = subst (λ (f : ForwarderId). WalksFrom [] (first_station f frame (static_header spi)) walk) home unbound in
    record {
      later = at_home.0;
      lookups = length walk.tables;
      visits = walk.visits;
      walk = subst (λ (ts : List (List ServicePath)). WalkFrom [] (first_station here frame (static_header spi)) at_home.0 ts walk.end walk.visits) (all_same (static_table spi count) walk.tables still) at_home.3;
    }
