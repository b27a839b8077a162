-- From one change, and from one segment, to the next.
use Rattle.std.proofs.Common.{◌≡◌, ℕ, suc, get_or, take, drop, ◌+◌, ◌<◌, ◌≤◌, ◌^◌, Bool, true, List, [], ◌∷◌, ◌++◌, length, map, Option, Some, None, Result, Ok, Err, OnOk, OnErr, append-nil, append_assoc, inl, inr, ◌⊎◌, refl, sym, ap, ◌∙◌, subst, arith, Contains}
use Rattle.std.specs.List.{All, flat_map}
use Rattle.std.proofs.lemmas.List.{length-append, take_more}
use Rattle.std.proofs.lemmas.List.Elements.{All-weaker}
use Rattle.wire_base.specs.declared.ids.ForwarderId.{ForwarderId}
use Rattle.wire_base.specs.declared.ids.InstanceId.{InstanceId}
use Rattle.control_files.specs.declared.segments.Segment.{Segment}
use Rattle.sfc_routes.specs.declared.route_changes.RouteChange.{RouteChange}
use Rattle.sfc_routes.specs.Entries.{Entries}
use Rattle.sfc_routes.specs.LastWords.{Stands}
use Rattle.path_selection.specs.Paths.{ServicePath}
use Rattle.path_selection.specs.declared.hops.HopRow.{HopRow}
use Rattle.route_selection.specs.Names.{IsOfRoster}
use Rattle.route_selection.proofs.NameLemmas.{names_roster}
use Rattle.record_text.specs.Tables.{ChoiceNames, PathNames, TableNames}
use Rattle.sfc_routes.proofs.MemberLemmas.{parts_at}
use Rattle.sfc_config.specs.Parts.{Parts}
use Rattle.session_machine.specs.declared.groups.Sessions.{Sessions}
use Rattle.session_machine.specs.Peers.{AllHold}
use Rattle.session_machine.specs.Groups.{Entry}
use Rattle.commands.specs.declared.writing.WriteFault.{WriteFault}
use Rattle.control_histories.specs.Logs.{AreWith, Hears, changes_of}
use Rattle.control_histories.proofs.HeardLemmas.{heard}
use Rattle.control_histories.specs.Versions.{TableAfter}
use Rattle.paths_command.specs.declared.version_runs.VersionRun.{VersionRun}
use Rattle.paths_command.specs.PathsSteps.{AddsVersion, AddsFront, Shows, ShowsFront, Shown, Hearing, IsFor, WroteFront}
use Rattle.paths_command.proofs.VersionLemmas.{shows_next, front_next, shows_front}

-- ---- one change

pub shown_next : (r : Result (Unit {0}) WriteFault) (roster : Entries) (tells : Bool) (old new : VersionRun) (shown : List RouteChange) (change : RouteChange) (before then now : List ℕ) → Stands new.routes (shown ++ change ∷ []) → new.version ≡ old.version + 1 → (tells ≡ true → OnOk r (AddsVersion roster (shown ++ change ∷ []) new.version then now)) → Shown roster tells old shown before then → OnOk r (Shown roster tells new (shown ++ change ∷ []) before now)
shown_next (Ok done) roster tells old new shown change before then now routes next adds s = record {
  routes = routes;
  version = next ∙ ap (λ (n : ℕ). n + 1) s.version ∙ sym (length-append shown (change ∷ []));
  shows = λ told. shows_next roster shown change new.version before then now (next ∙ ap (λ (n : ℕ). n + 1) s.version) (s.shows told) (adds told);
}
shown_next (Err e) roster tells old new shown change before then now routes next adds s = tt

pub front_shown : (r : Result (Unit {0}) WriteFault) (roster : Entries) (tells : Bool) (old new : VersionRun) (shown : List RouteChange) (change : RouteChange) (todo : List RouteChange) (before then now : List ℕ) → tells ≡ true → new.version ≡ old.version + 1 → OnErr r (AddsFront roster (shown ++ change ∷ []) new.version then now) → Shown roster tells old shown before then → OnErr r (ShowsFront roster (shown ++ change ∷ todo) before now)
front_shown (Ok done) roster tells old new shown change todo before then now told next front s = tt
front_shown (Err e) roster tells old new shown change todo before then now told next front s =
    front_next roster shown change todo new.version before then now (next ∙ ap (λ (n : ℕ). n + 1) s.version) (s.shows told) front

-- ---- one segment

pub changes_more : (log : List Entry) (e : Entry) → changes_of (log ++ e ∷ []) ≡ changes_of log ++ e.effects.changes
changes_more [] e = append-nil e.effects.changes
changes_more (x ∷ log) e = ap (λ (l : List RouteChange). x.effects.changes ++ l) (changes_more log e) ∙ sym (append_assoc x.effects.changes (changes_of log) e.effects.changes)

-- ---- what a table names

choice_names : (roster : Entries) (choice : Option (ForwarderId × InstanceId)) → IsOfRoster roster choice → ChoiceNames roster choice
choice_names roster None is = tt
choice_names roster (Some at) is = is

pub table_names : (roster : Entries) (changes : List RouteChange) (table : List ServicePath) → TableAfter roster changes table → TableNames roster table
table_names roster changes table after =
    All-weaker (λ (path : ServicePath). All (λ (row : HopRow). IsOfRoster roster row.choice) path.rows) (PathNames roster)
    (λ path named. All-weaker (λ (row : HopRow). IsOfRoster roster row.choice) (λ (row : HopRow). ChoiceNames roster row.choice) (λ row. choice_names roster row.choice) path.rows named)
    table (names_roster roster after.routes table after.selected)

-- ---- changes, one after the other

-- the changes up to a place, and the one there
changes_to : (changes : List RouteChange) (i : ℕ) (change : RouteChange) (shown : List RouteChange) → i < length changes → change ≡ get_or changes i change → (shown ++ take i changes) ++ change ∷ [] ≡ shown ++ take (i + 1) changes
changes_to changes i change shown lt is =
    append_assoc shown (take i changes) (change ∷ []) ∙ ap (λ (l : List RouteChange). shown ++ l) (sym (take_more changes i change lt ∙ ap (λ (x : RouteChange). take i changes ++ x ∷ []) (sym is)))

pub goes_next : (roster : Entries) (tells : Bool) (run : VersionRun) (changes : List RouteChange) (i : ℕ) (change : RouteChange) (shown : List RouteChange) (before now : List ℕ) → i < length changes → change ≡ get_or changes i change → Shown roster tells run ((shown ++ take i changes) ++ change ∷ []) before now → Shown roster tells run (shown ++ take (i + 1) changes) before now
goes_next roster tells run changes i change shown before now lt is s = subst (λ (l : List RouteChange). Shown roster tells run l before now) (changes_to changes i change shown lt is) s

pub front_next_of : (roster : Entries) (changes : List RouteChange) (i : ℕ) (change : RouteChange) (shown : List RouteChange) (before now : List ℕ) → i < length changes → change ≡ get_or changes i change → ((todo : List RouteChange) → ShowsFront roster ((shown ++ take i changes) ++ change ∷ todo) before now) → ShowsFront roster (shown ++ changes) before now
front_next_of roster changes i change shown before now lt is front =
    let split : changes ≡ take i changes ++ change ∷ drop (suc i) changes = parts_at changes i change lt ∙ ap (λ (x : RouteChange). take i changes ++ x ∷ drop (suc i) changes) (sym is) in
    subst (λ (l : List RouteChange). ShowsFront roster l before now) (append_assoc shown (take i changes) (change ∷ drop (suc i) changes) ∙ ap (λ (l : List RouteChange). shown ++ l) (sym split)) (front (drop (suc i) changes))

-- ---- one segment more

pub hearing_next : (setup : Parts) (tells : Bool) (new : VersionRun) (segments : List Segment) (more : ℕ) (before now : List ℕ) (log : List Entry) (e : Entry) → IsFor setup new more → Hears new.sessions segments (log ++ e ∷ []) → Shown setup.roster tells new (changes_of log ++ e.effects.changes) before now → Hearing setup tells new segments more before now
hearing_next setup tells new segments more before now log e is_for hears shown = record {
  is_for = is_for;
  log = log ++ e ∷ [];
  hears = hears;
  shown = subst (λ (cs : List RouteChange). Shown setup.roster tells new cs before now) (sym (changes_more log e)) shown;
}

pub wrote_next : (setup : Parts) (sessions : Sessions) (segments : List Segment) (before now : List ℕ) (log : List Entry) (e : Entry) → AreWith sessions setup.local setup.peers → Hears sessions segments (log ++ e ∷ []) → ShowsFront setup.roster (changes_of log ++ e.effects.changes) before now → WroteFront setup segments before now
wrote_next setup sessions segments before now log e peers hears front = record {
  log = log ++ e ∷ [];
  heard = heard sessions setup.local setup.peers segments (log ++ e ∷ []) peers hears;
  shows = subst (λ (cs : List RouteChange). ShowsFront setup.roster cs before now) (sym (changes_more log e)) front;
}

-- what was shown, where nothing more was
pub wrote_same : (setup : Parts) (tells : Bool) (run : VersionRun) (segments : List Segment) (most : ℕ) (before now : List ℕ) → tells ≡ true → Hearing setup tells run segments most before now → WroteFront setup segments before now
wrote_same setup tells run segments most before now told h = record {
  log = h.log;
  heard = heard run.sessions setup.local setup.peers segments h.log h.is_for.peers h.hears;
  shows = subst (λ (l : List RouteChange). ShowsFront setup.roster l before now) (append-nil (changes_of h.log)) (shows_front setup.roster (changes_of h.log) [] before now (h.shown.shows told));
}

-- what was heard and shown, where the run has the sessions that were stepped
pub segment_heard : (setup : Parts) (tells : Bool) (roster : Entries) (run : VersionRun) (stepped : Sessions) (segments : List Segment) (more : ℕ) (before now : List ℕ) (log : List Entry) (e : Entry) (changes : List RouteChange) → roster ≡ setup.roster → changes ≡ e.effects.changes → run.sessions ≡ stepped
    → AreWith stepped setup.local setup.peers → AllHold more stepped.sessions.items → Hears stepped segments (log ++ e ∷ []) → Shown roster tells run (changes_of log ++ changes) before now → Hearing setup tells run segments more before now
segment_heard setup tells roster run stepped segments more before now log e changes roster_is changes_are same peers count hears shown =
    hearing_next setup tells run segments more before now log e
    (record {
      peers = subst (λ (s : Sessions). AreWith s setup.local setup.peers) (sym same) peers;
      count = subst (λ (s : Sessions). AllHold more s.sessions.items) (sym same) count;
    })
    (subst (λ (s : Sessions). Hears s segments (log ++ e ∷ [])) (sym same) hears)
    (subst (λ (r : Entries). Shown r tells run (changes_of log ++ e.effects.changes) before now) roster_is (subst (λ (cs : List RouteChange). Shown roster tells run (changes_of log ++ cs) before now) changes_are shown))

pub segment_wrote : (setup : Parts) (roster : Entries) (stepped : Sessions) (segments : List Segment) (before now : List ℕ) (log : List Entry) (e : Entry) (changes : List RouteChange) → roster ≡ setup.roster → changes ≡ e.effects.changes
    → AreWith stepped setup.local setup.peers → Hears stepped segments (log ++ e ∷ []) → ShowsFront roster (changes_of log ++ changes) before now → WroteFront setup segments before now
segment_wrote setup roster stepped segments before now log e changes roster_is changes_are peers hears front =
    wrote_next setup stepped segments before now log e peers hears
    (subst (λ (r : Entries). ShowsFront r (changes_of log ++ e.effects.changes) before now) roster_is (subst (λ (cs : List RouteChange). ShowsFront roster (changes_of log ++ cs) before now) changes_are front))

-- the run with stepped sessions has shown what was shown before
pub shown_stepped : (setup : Parts) (tells : Bool) (roster : Entries) (run : VersionRun) (stepped : Sessions) (shown : List RouteChange) (before now : List ℕ) → roster ≡ setup.roster → Shown setup.roster tells run shown before now → Shown roster tells (record { sessions = stepped; routes = run.routes; version = run.version }) shown before now
shown_stepped setup tells roster run stepped shown before now roster_is s =
    subst (λ (r : Entries). Shown r tells (record { sessions = stepped; routes = run.routes; version = run.version }) shown before now) (sym roster_is)
    (record { routes = s.routes; version = s.version; shows = s.shows })
