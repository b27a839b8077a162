-- What is written for a control file: one text, of which every front that stands somewhere is one.
use Rattle.std.proofs.Common.{◌≡◌, ℕ, List, [], ◌∷◌, ◌++◌, Option, refl, sym, ap, ◌∙◌, subst, Contains, append_assoc}
use Rattle.std.specs.List.{All, AllByRecursion}
use Rattle.std.proofs.lemmas.List.Elements.{All-from_recursion}
use Rattle.bgp_session.specs.declared.local_sides.Local.{Local}
use Rattle.control_files.specs.declared.segments.Segment.{Segment}
use Rattle.control_files.specs.declared.segments.Mark.{Mark}
use Rattle.control_files.specs.declared.reasons.Refusal.{Refusal}
use Rattle.control_files.specs.Segments.{AreSegments, mark_of, numbers, start}
use Rattle.control_files.proofs.OneReading.{first_segments, one_reading}
use Rattle.sfc_routes.specs.declared.route_changes.RouteChange.{RouteChange}
use Rattle.sfc_routes.specs.Entries.{Entries, IsRoster}
use Rattle.session_machine.specs.Groups.{Entry}
use Rattle.path_selection.specs.Paths.{ServicePath}
use Rattle.sfc_config.specs.Parts.{Parts, AreParts}
use Rattle.commands.specs.Fronts.{IsFrontBehind}
use Rattle.control_histories.specs.Logs.{AreOfPeers, Heard, changes_of}
use Rattle.control_histories.specs.Versions.{TableAfter}
use Rattle.control_histories.proofs.FrontLemmas.{front_heard}
use Rattle.paths_command.specs.PathsSteps.{WroteFrontOf}
use Rattle.paths_command.specs.VersionTexts.{VersionsText, Writes}
use Rattle.paths_command.proofs.PathsLemmas.{IsFrontOfWhole}
use Rattle.paths_command.proofs.VersionLemmas.{one_text, shows_whole}

-- segments have one log (`segments_have_one_log`), and changes one table (`changes_have_one_table`)
abbrev pub OneLog : Type 0
OneLog = (local : Local) (peers : List (ℕ × ℕ)) (segments : List Segment) (log other : List Entry) → AreOfPeers peers segments → Heard local peers segments log → Heard local peers segments other → log ≡ other

abbrev pub OneTable : Type 0
OneTable = (roster : Entries) (changes : List RouteChange) (table other : List ServicePath) → IsRoster roster → TableAfter roster changes table → TableAfter roster changes other → table ≡ other

-- the segments of a control file are of its peers
of_peers : (peers : List ℕ) (mark : Mark) (segments : List Segment) → AreSegments peers mark segments → AllByRecursion (λ (s : Segment). Contains peers s.peer) segments
of_peers peers mark [] each = tt
of_peers peers mark (s ∷ ss) each = (each.0.peer, of_peers peers (mark_of s) ss each.1)

pub are_of_peers : (peers : List (ℕ × ℕ)) (segments : List Segment) → AreSegments (numbers peers) start segments → AreOfPeers peers segments
are_of_peers peers segments each = All-from_recursion (λ (s : Segment). Contains (numbers peers) s.peer) segments (of_peers (numbers peers) start segments each)

changes_join : (log more : List Entry) → changes_of (log ++ more) ≡ changes_of log ++ changes_of more
changes_join [] more = refl
changes_join (e ∷ log) more = ap (λ (l : List RouteChange). e.effects.changes ++ l) (changes_join log more) ∙ sym (append_assoc e.effects.changes (changes_of log) (changes_of more))

pub whole_front : OneLog → OneTable → (setup : Parts) → AreParts setup → IsFrontOfWhole setup
whole_front one_log one_table setup parts input before now text stop wrote w =
    let more = first_segments input wrote.front wrote.rest (numbers setup.peers) wrote.segments w.segments stop wrote.is_control wrote.joined w.reads in
    let begins = front_heard setup.local setup.peers wrote.segments more.0 w.log (subst (λ (ss : List Segment). Heard setup.local setup.peers ss w.log) more.1 w.heard) in
    let same = one_log setup.local setup.peers wrote.segments begins.0 wrote.wrote.log (are_of_peers setup.peers wrote.segments wrote.is_control.each) begins.3 wrote.wrote.heard in
    let changes : changes_of w.log ≡ changes_of wrote.wrote.log ++ changes_of begins.1 =
    ap changes_of begins.2 ∙ changes_join begins.0 begins.1 ∙ ap (λ (log : List Entry). changes_of log ++ changes_of begins.1) same in
    shows_whole setup.roster (λ cs t u a b. one_table setup.roster cs t u parts.roster_fits a b) (changes_of wrote.wrote.log) (changes_of begins.1) before now text wrote.wrote.shows
    (subst (λ (cs : List RouteChange). VersionsText setup.roster cs text) changes w.versions)

pub one_writing : OneLog → OneTable → (setup : Parts) (input text other : List ℕ) (stop halt : Option Refusal) → AreParts setup → Writes setup input stop text → Writes setup input halt other → (text ≡ other) × (stop ≡ halt)
one_writing one_log one_table setup input text other stop halt parts w v =
    let read = one_reading input (numbers setup.peers) w.segments v.segments stop halt w.reads v.reads in
    let heard : Heard setup.local setup.peers w.segments v.log = subst (λ (ss : List Segment). Heard setup.local setup.peers ss v.log) (sym read.0) v.heard in
    let log = one_log setup.local setup.peers w.segments w.log v.log (are_of_peers setup.peers w.segments w.reads.is_control.each) w.heard heard in (
      one_text setup.roster (λ cs t u a b. one_table setup.roster cs t u parts.roster_fits a b) (changes_of w.log) text other w.versions
          (subst (λ (l : List Entry). VersionsText setup.roster (changes_of l) other) (sym log) v.versions),
      read.1,
    )
