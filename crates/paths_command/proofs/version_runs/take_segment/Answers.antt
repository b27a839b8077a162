-- The session with the peer is stepped, and the versions of what that leads to are shown.
use Rattle.std.proofs.Common.{◌≡◌, ◌+◌, [], ◌∷◌, ◌++◌, ap, sym, subst, ◌∙◌, inl, inr, length, arith}
use Rattle.std.specs.List.{AllByRecursion}
use Rattle.std.proofs.lemmas.Result.{on_ok_weaker, on_err_weaker}
use Rattle.sfc_desk.specs.declared.ports.Port.TheVariants.{Report}
use Rattle.control_files.specs.declared.segments.Segment.{Segment}
use Rattle.control_files.specs.Steps.{segment_of}
use Rattle.sfc_config.specs.Parts.{Parts}
use Rattle.sfc_routes.specs.PeerRoutes.{IsRouteChange}
use Rattle.session_machine.specs.Groups.{Entry, entry}
use Rattle.session_machine.proofs.GroupLemmas.{each_has, room_for}
use Rattle.control_histories.specs.Happenings.{happens}
use Rattle.control_histories.specs.Logs.{changes_of}
use Rattle.control_histories.proofs.RoomLemmas.{brings_few}
use Rattle.paths_command.proofs.RunLemmas.{segment_heard, segment_wrote, shown_stepped, wrote_same}
use Rattle.paths_command.proofs.version_runs.take_segment.Goals as goal

pub step_segment-requires-clause-peer : goal.step_segment-requires-clause-peer
step_segment-requires-clause-peer g c =
    each_has c.args.setup.now.local c.args.run.now.sessions.sessions.items c.args.setup.now.peers c.requires.known.3.is_for.peers c.args.head.peer c.requires.peer

pub step_segment-requires-clause-room : goal.step_segment-requires-clause-room
step_segment-requires-clause-room g c =
    let s : Segment = segment_of c.args.head c.args.bytes.now in
    room_for c.requires.known.1 c.args.head.peer (happens s) c.args.run.now.sessions.sessions.items c.requires.known.3.is_for.count (omega (arith, brings_few s, c.requires.known.4))

-- nothing more was shown
pub returns-in-Err-clause-front : goal.returns-in-Err-clause-front
returns-in-Err-clause-front g c = λ told segments most before h.
    inl (wrote_same c.args.setup.now g.D.Desk.tells c.args.run.now segments most before (g.D.Desk.at c.args.desk.now Report).written told h)

pub take_changes-requires-clause-fit : goal.take_changes-requires-clause-fit
take_changes-requires-clause-fit g c =
    subst (AllByRecursion IsRouteChange) (sym c.as_slice.ensures) (c.in-Ok.ensures.changes c.requires.known.0 c.requires.known.3.log c.requires.known.3.hears)

pub take_changes-requires-clause-known : goal.take_changes-requires-clause-known
take_changes-requires-clause-known g c =
    let h = c.requires.known.3 in (
      changes_of h.log,
      c.requires.known.2,
      shown_stepped c.args.setup.now g.D.Desk.tells c.setup.inside.roster c.args.run.now c.step_segment.new.sessions (changes_of h.log) c.requires.known.2 (g.D.Desk.at c.args.desk.now Report).written (ap (λ (p : Parts). p.roster) c.setup.view_is) h.shown,
    )

pub returns-clause-goes_on : goal.returns-clause-goes_on
returns-clause-goes_on g c = λ segments most before h.
    let s : Segment = segment_of c.args.head c.args.bytes.now in
    let e : Entry = entry c.args.head.peer (happens s) c.in-Ok.effects in
    let same = ap (λ (p : Parts). p.roster) c.setup.view_is in
    on_ok_weaker c.take_changes.result
    (segment_heard c.args.setup.now g.D.Desk.tells c.setup.inside.roster c.take_changes.new.run c.step_segment.new.sessions (segments ++ s ∷ []) (most + length c.args.bytes.now) before (g.D.Desk.at c.take_changes.new.desk Report).written h.log e c.as_slice.result.now
    same c.as_slice.ensures c.take_changes.ensures.sessions (c.step_segment.ensures.sides ∙ h.is_for.peers) (c.in-Ok.ensures.count most h.is_for.count) (c.in-Ok.ensures.history segments h.log h.hears))
    (c.take_changes.ensures.goes_on (changes_of h.log) before
    (shown_stepped c.args.setup.now g.D.Desk.tells c.setup.inside.roster c.args.run.now c.step_segment.new.sessions (changes_of h.log) before (g.D.Desk.at c.args.desk.now Report).written same h.shown))

pub returns-clause-front : goal.returns-clause-front
returns-clause-front g c = λ told segments most before h.
    let s : Segment = segment_of c.args.head c.args.bytes.now in
    let e : Entry = entry c.args.head.peer (happens s) c.in-Ok.effects in
    let same = ap (λ (p : Parts). p.roster) c.setup.view_is in
    on_err_weaker c.take_changes.result
    (λ front. inr (segment_wrote c.args.setup.now c.setup.inside.roster c.step_segment.new.sessions (segments ++ s ∷ []) before (g.D.Desk.at c.take_changes.new.desk Report).written h.log e c.as_slice.result.now
    same c.as_slice.ensures (c.step_segment.ensures.sides ∙ h.is_for.peers) (c.in-Ok.ensures.history segments h.log h.hears) front))
    (c.take_changes.ensures.front told (changes_of h.log) before
    (shown_stepped c.args.setup.now g.D.Desk.tells c.setup.inside.roster c.args.run.now c.step_segment.new.sessions (changes_of h.log) before (g.D.Desk.at c.args.desk.now Report).written same h.shown))
