-- Each turn goes on from where the walk stands, and the last one ends it.
use Rattle.std.proofs.Common.{◌≡◌, ℕ, List, take, [], ◌∷◌, ◌++◌, append-nil, refl, sym, ap, subst, ◌∙◌, arith, get_or}
use Rattle.wire_base.specs.declared.ids.ForwarderId.{ForwarderId}
use Rattle.net_frames.specs.Captured.{Captured}
use Rattle.nsh_metadata.specs.Header.{Header}
use Rattle.nsh_metadata.proofs.HeaderLemmas.{begins_head}
use Rattle.service_functions.specs.Serving.{Through}
use Rattle.record_text.specs.declared.records.End.TheVariants.{Drop}
use Rattle.record_text.specs.declared.records.Reason.{Reason}
use Rattle.classifier.specs.Stations.{first_station}
use Rattle.forwarder.specs.Walks.{Ends, GoesOn, aged, functions_of, reason_of}
use Rattle.forwarder.specs.Records.{numbers, passed}
use Rattle.forwarder.specs.Kept.{Stands}
use Rattle.forwarder.proofs.LookLemmas.{starts_with_trans}
use Rattle.forwarder.proofs.VisitLemmas.{last_dropped}
use Rattle.forwarder.specs.Traces.{outer, with_packet}
use Rattle.forwarder.proofs.WalkSteps.{carries_on, ends, handed_step, room_stays, same_step, spends, starts, turn_at}
use Rattle.forwarder.proofs.walking.walk.Goals as goal

pub turns-init : goal.turns-init
turns-init g c = record {
  origin = refl;
  grows = ([], sym (append-nil _));
  refused = refl;
  room = omega arith;
  so_far =
      starts (functions_of c.args.bounds.now) (first_station c.args.ingress c.args.frame.now c.args.nsh.now) c.nsh.inside.head.path.spi (g.T.Tables.known c.args.tables.now) (g.T.Tables.seen c.args.tables.now) c.new-versions.result.items c.new-visits.result.items c.put_header-size.new.header c.put_header-size.result c.args.trace.now
      (ap (λ (h : Header). h.head.path.spi) c.nsh.view_is) c.new-versions.ensures c.new-visits.ensures refl c.put_header-size.ensures c.requires.ttl.0 c.requires.ttl.1 c.requires.untraced;
  kept = refl;
}

pub returns-then-age-eq0-clause-record : goal.returns-then-age-eq0-clause-record
returns-then-age-eq0-clause-record g c =
    let s = c.turns.invariant.so_far in (
      c.turns.invariant.refused,
      spends _ _ _ _ _ _ _ _ _ _ _ _ _ s _ c.args.worker (sym (c.age.ensures.answer s.here.header s.stands.spelled) ∙ c.if-age-eq0.true) refl refl refl refl refl,
    )

pub returns-then-age-eq0-clause-frame_room : goal.returns-then-age-eq0-clause-frame_room
returns-then-age-eq0-clause-frame_room g c =
    let s = c.turns.invariant.so_far in
    ap (λ (f : Captured). f.room) (sym s.stands.frame_is) ∙ room_stays _ _ _ _ _ _ _ _ _ _ _ _ _ s

pub returns-in_err-found-clause-frame_room : goal.returns-in_err-found-clause-frame_room
returns-in_err-found-clause-frame_room g c =
    let s = c.turns.invariant.so_far in
    ap (λ (f : Captured). f.room) (sym s.stands.frame_is) ∙ room_stays _ _ _ _ _ _ _ _ _ _ _ _ _ s

pub take_turn-requires-clause-spelled : goal.take_turn-requires-clause-spelled
take_turn-requires-clause-spelled g c =
    let s = c.turns.invariant.so_far in (aged s.here.header, c.age.ensures.spelled s.here.header s.stands.spelled)

pub returns-in-Done-clause-record : goal.returns-in-Done-clause-record
returns-in-Done-clause-record g c =
    let s = c.turns.invariant.so_far in
    let f = c.in_ok-found.ensures in
    let spelled = c.age.ensures.spelled s.here.header s.stands.spelled in
    let leads = c.in-Done.ensures s.here (record { at = s.stands.at; frame_is = s.stands.frame_is; spelled = spelled }) in
    let t = turn_at _ _ _ _ _ _ _ _ _ _ _ _ _ s (g.T.Tables.known c.lookup.new.self) (get_or c.age.new.header 7 0) c.in_ok-found.found (Ends c.in-Done.end s.here.visits)
    (λ spent. c.if-age-eq0.false (c.age.ensures.answer s.here.header s.stands.spelled ∙ spent)) (begins_head c.age.new.header (aged s.here.header) c.turns.size spelled).si f.answers leads.0 in (
      f.refused ∙ c.turns.invariant.refused,
      ends _ _ _ _ _ _ _ _ _ _ _ _ _ s _ c.args.worker (g.T.Tables.known c.lookup.new.self) (g.T.Tables.seen c.lookup.new.self) c.in_ok-found.found.version t.0 c.in-Done.end s.here.visits
          f.grows f.version.0 f.version.1 c.push.ensures.items t.1 t.2 refl refl (sym s.visited) refl,
    )

pub returns-in-Done-clause-seen : goal.returns-in-Done-clause-seen
returns-in-Done-clause-seen g c =
    let w = (returns-in-Done-clause-record g c).1 in (c.push.new.self.items, w.walk.tables, w.looks)

pub returns-in-Done-clause-frame_room : goal.returns-in-Done-clause-frame_room
returns-in-Done-clause-frame_room g c =
    let s = c.turns.invariant.so_far in
    let spelled = c.age.ensures.spelled s.here.header s.stands.spelled in
    let leads = c.in-Done.ensures s.here (record { at = s.stands.at; frame_is = s.stands.frame_is; spelled = spelled }) in
    ap (λ (f : Captured). f.room) leads.1 ∙ room_stays _ _ _ _ _ _ _ _ _ _ _ _ _ s

pub turns-preserved-in-Handed : goal.turns-preserved-in-Handed
turns-preserved-in-Handed g c =
    let was = c.turns.invariant in
    let s = was.so_far in
    let f = c.in_ok-found.ensures in
    let spelled = c.age.ensures.spelled s.here.header s.stands.spelled in
    let leads = c.in-Handed.ensures s.here (record { at = s.stands.at; frame_is = s.stands.frame_is; spelled = spelled }) in
    let t = turn_at _ _ _ _ _ _ _ _ _ _ _ _ _ s (g.T.Tables.known c.lookup.new.self) (get_or c.age.new.header 7 0) c.in_ok-found.found (GoesOn leads.0)
    (λ spent. c.if-age-eq0.false (c.age.ensures.answer s.here.header s.stands.spelled ∙ spent)) (begins_head c.age.new.header (aged s.here.header) c.turns.size spelled).si f.answers leads.1 in
    let next = leads.0 in
    let spelling : List ℕ = take c.turns.size c.take_turn.new.header in
    let packet : List ℕ = outer next.forwarder s.here.forwarder ++ (spelling ++ next.frame.bytes) in
    let there : next.forwarder ≡ c.in-Handed.other = leads.2.at in
    let from : s.here.forwarder ≡ c.turns.forwarder = s.stands.at in
    let same_frame : next.frame ≡ c.take_turn.new.frame = leads.2.frame_is in
    let kept : c.keep.new.self ≡ with_packet c.turns.trace packet = cc (c.keep.ensures) in
    let step = handed_step c.turns.trace c.keep.new.self s.here next packet kept (λ e. leads.4 (sym there ∙ e)) (record { spelling = spelling; spelled = leads.2.spelled.spelled; whole = refl }) in
    record {
      origin = f.origin ∙ was.origin;
      grows = starts_with_trans _ _ _ f.grows was.grows;
      refused = f.refused ∙ was.refused;
      room = omega arith;
      so_far = carries_on _ _ _ _ _ _ _ _ _ _ _ _ _ s (g.T.Tables.known c.lookup.new.self) (g.T.Tables.seen c.lookup.new.self) c.in_ok-found.found.version c.push.new.self.items t.0 leads.0 c.turns.visits.items c.in-Handed.other c.take_turn.new.frame c.take_turn.new.header c.turns.size c.keep.new.self
          f.grows f.version.0 f.version.1 c.push.ensures.items t.1 t.2 leads.2 (leads.3 ∙ s.visited) step;
      kept = step.kept ∙ was.kept;
    }

pub turns-preserved : goal.turns-preserved
turns-preserved g c =
    let was = c.turns.invariant in
    let s = was.so_far in
    let f = c.in_ok-found.ensures in
    let spelled = c.age.ensures.spelled s.here.header s.stands.spelled in
    let leads = c.in-Passed.ensures s.here (record { at = s.stands.at; frame_is = s.stands.frame_is; spelled = spelled }) in
    let t = turn_at _ _ _ _ _ _ _ _ _ _ _ _ _ s (g.T.Tables.known c.lookup.new.self) (get_or c.age.new.header 7 0) c.in_ok-found.found (GoesOn leads.0)
    (λ spent. c.if-age-eq0.false (c.age.ensures.answer s.here.header s.stands.spelled ∙ spent)) (begins_head c.age.new.header (aged s.here.header) c.turns.size spelled).si f.answers leads.1 in
    record {
      origin = f.origin ∙ was.origin;
      grows = starts_with_trans _ _ _ f.grows was.grows;
      refused = f.refused ∙ was.refused;
      room = omega arith;
      so_far = carries_on _ _ _ _ _ _ _ _ _ _ _ _ _ s (g.T.Tables.known c.lookup.new.self) (g.T.Tables.seen c.lookup.new.self) c.in_ok-found.found.version c.push.new.self.items t.0 leads.0 c.push-in-Passed.new.self.items c.turns.forwarder c.take_turn.new.frame c.take_turn.new.header c.in-Passed.end c.turns.trace
          f.grows f.version.0 f.version.1 c.push.ensures.items t.1 t.2 (subst (λ (o : ForwarderId). Stands leads.0 o c.take_turn.new.frame c.take_turn.new.header c.in-Passed.end) s.stands.at leads.2)
          (leads.3 ∙ ap (λ l. l ++ c.in-Passed.instance ∷ []) s.visited ∙ sym c.push-in-Passed.ensures.items) (same_step c.turns.trace s.here leads.0 leads.2.at);
      kept = was.kept;
    }

pub returns-in-Dropped-clause-record : goal.returns-in-Dropped-clause-record
returns-in-Dropped-clause-record g c =
    let s = c.turns.invariant.so_far in
    let f = c.in_ok-found.ensures in
    let spelled = c.age.ensures.spelled s.here.header s.stands.spelled in
    let leads = c.in-Dropped.ensures s.here (record { at = s.stands.at; frame_is = s.stands.frame_is; spelled = spelled }) in
    let t = turn_at _ _ _ _ _ _ _ _ _ _ _ _ _ s (g.T.Tables.known c.lookup.new.self) (get_or c.age.new.header 7 0) c.in_ok-found.found (Ends (Drop (reason_of c.in-Dropped.why c.in-Dropped.instance)) (s.here.visits ++ c.in-Dropped.instance ∷ []))
    (λ spent. c.if-age-eq0.false (c.age.ensures.answer s.here.header s.stands.spelled ∙ spent)) (begins_head c.age.new.header (aged s.here.header) c.turns.size spelled).si f.answers leads.0 in (
      f.refused ∙ c.turns.invariant.refused,
      ends _ _ _ _ _ _ _ _ _ _ _ _ _ s _ c.args.worker (g.T.Tables.known c.lookup.new.self) (g.T.Tables.seen c.lookup.new.self) c.in_ok-found.found.version t.0 (Drop (reason_of c.in-Dropped.why c.in-Dropped.instance)) (s.here.visits ++ c.in-Dropped.instance ∷ [])
          f.grows f.version.0 f.version.1 c.push.ensures.items t.1 t.2 refl refl (c.push-in-Dropped.ensures.items ∙ ap (λ l. l ++ c.in-Dropped.instance ∷ []) (sym s.visited)) (ap Drop c.reason_of.ensures),
    )

pub returns-in-Dropped-clause-seen : goal.returns-in-Dropped-clause-seen
returns-in-Dropped-clause-seen g c =
    let w = (returns-in-Dropped-clause-record g c).1 in (c.push.new.self.items, w.walk.tables, w.looks)

pub returns-in-Dropped-clause-frame : goal.returns-in-Dropped-clause-frame
returns-in-Dropped-clause-frame g c =
    let s = c.turns.invariant.so_far in
    let spelled = c.age.ensures.spelled s.here.header s.stands.spelled in
    let leads = c.in-Dropped.ensures s.here (record { at = s.stands.at; frame_is = s.stands.frame_is; spelled = spelled }) in
    let visits = c.push-in-Dropped.ensures.items ∙ ap (λ l. l ++ c.in-Dropped.instance ∷ []) (sym s.visited) in
    let before : passed (Drop c.reason_of.result) c.push-in-Dropped.new.self.items ≡ s.here.visits =
    ap (λ (e : Reason). passed (Drop e) c.push-in-Dropped.new.self.items) c.reason_of.ensures
    ∙ ap (passed (Drop (reason_of c.in-Dropped.why c.in-Dropped.instance))) visits ∙ last_dropped c.in-Dropped.why c.in-Dropped.instance s.here.visits in
    leads.1 ∙ s.made ∙ ap (λ l. Through (functions_of c.args.bounds.now) (numbers l) c.args.frame.now) (sym before)

pub returns-in-Dropped-clause-frame_room : goal.returns-in-Dropped-clause-frame_room
returns-in-Dropped-clause-frame_room g c =
    let s = c.turns.invariant.so_far in
    let spelled = c.age.ensures.spelled s.here.header s.stands.spelled in
    let leads = c.in-Dropped.ensures s.here (record { at = s.stands.at; frame_is = s.stands.frame_is; spelled = spelled }) in
    ap (λ (f : Captured). f.room) leads.1 ∙ room_stays _ _ _ _ _ _ _ _ _ _ _ _ _ s
