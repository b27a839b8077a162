-- What the laws of walks say of a record that tells a walk over versions.
use Rattle.std.proofs.Common.{◌≡◌, ℕ, ◌≤◌, List, All, length, take, refl, arith}
use Rattle.net_frames.specs.Captured.{Captured as Framed}
use Rattle.nsh_metadata.specs.declared.contexts.Context.{Context}
use Rattle.pcap_io.specs.declared.frames.Captured.{Captured}
use Rattle.path_selection.specs.Paths.{IsTable, ServicePath}
use Rattle.path_selection.specs.Published.{Published}
use Rattle.record_text.specs.declared.records.Record.{Record}
use Rattle.classifier.specs.Rules.{AreRules}
use Rattle.classifier.specs.Verdicts.{Start}
use Rattle.classifier.specs.declared.verdicts.Verdict.TheVariants.{Path}
use Rattle.sfc_config.specs.Parts.{AreParts, Parts}
use Rattle.sfc_routes.specs.Entries.{Entries, IsRoster}
use Rattle.sfc_routes.specs.declared.route_changes.RouteChange.{RouteChange}
use Rattle.forwarder.specs.Records.{IsRecord}
use Rattle.forwarder.specs.Walks.{IsWalk, Walk}
use Rattle.forwarder.specs.Ways.{GoesStraight, IndexesFall, Unchanged, straight}
use Rattle.forwarder.specs.Workspaces.{taken_in}
use Rattle.control_histories.specs.Versions.{IsVersion, TableAfter}
use Rattle.worker_run.specs.Runs.{RunRecord}
use Rattle.record_laws.specs.Ways.{TellsWay}
use Rattle.record_laws.proofs.NamedTables.{all_found, all_published, all_tables, as_many, climbs_to, published}

-- what the laws below say
pub record Laws : Type 0 where
  pub turns : (setup : Parts) (frame : Framed) (walk : Walk) → AreRules setup.rules → IsWalk setup frame walk → length walk.stations ≤ 63
  pub lookups : (setup : Parts) (frame : Framed) (walk : Walk) → AreRules setup.rules → IsWalk setup frame walk → length walk.tables ≤ 62
  pub falls : (setup : Parts) (frame : Framed) (walk : Walk) → All IsTable walk.tables → IsWalk setup frame walk → IndexesFall walk.stations
  pub goes : (setup : Parts) (frame : Framed) (worker : ℕ) (known : List Published) (before after : ℕ) (r : Record) (path : ServicePath) (spi si ttl : ℕ) (context : Context)
      → All (λ (p : Published). IsTable p.table) known → IsRecord setup frame worker known before after r → Unchanged known r path
      → Start setup.rules frame.bytes (Path spi si ttl context) → GoesStraight (straight path.rows si) r.visits.items r.end
  pub one : (roster : Entries) (changes : List RouteChange) (table other : List ServicePath) → IsRoster roster → TableAfter roster changes table → TableAfter roster changes other → table ≡ other
  pub is : (roster : Entries) (changes : List RouteChange) (table : List ServicePath) → TableAfter roster changes table → IsTable table

pub way : Laws → (setup : Parts) (changes : List RouteChange) (low high workers : ℕ) (frame : Captured) (r : Record) → AreParts setup → RunRecord setup changes low high workers frame r → TellsWay setup changes frame r
way laws setup changes low high workers frame r parts x =
    let vs = r.versions.items in
    let walk = x.told.walk in
    let framed = taken_in frame.bytes frame.original in
    let Version : ℕ → List ServicePath → Type 0 = λ v t. IsVersion setup.roster changes v t in
    let lookups = laws.lookups setup framed walk parts.rules_fit x.told.walks in
    let many = as_many Version vs walk.tables x.told.over in
    let to = climbs_to low high vs x.climbs in
    let known = published vs walk.tables in
    let versions = all_published Version vs walk.tables x.told.over in
    record {
      told = x.told;
      turns = laws.turns setup framed walk parts.rules_fit x.told.walks;
      versions = omega (arith, lookups, many);
      falls = laws.falls setup framed walk (all_tables Version IsTable (λ v t is. laws.is setup.roster (take v changes) t is.table_is) vs walk.tables x.told.over) x.told.walks;
      along = λ path spi si ttl context same start.
          laws.goes setup framed r.worker known low to.0 r path spi si ttl context (λ k d below. laws.is setup.roster (take _ changes) _ (versions k d below).table_is)
          (record {
            walk = walk;
            walks = x.told.walks;
            looks = record {
              named = all_found Version (λ v t u p q. laws.one setup.roster (take v changes) t u parts.roster_fits p.table_is q.table_is) vs walk.tables x.told.over;
              climbs = to.1;
            };
            tells = x.told.tells;
            worker_is = refl;
          }) (same known versions) start;
    }
