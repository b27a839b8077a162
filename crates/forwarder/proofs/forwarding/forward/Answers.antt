-- A frame that no rule puts on a path has no walk.
use Rattle.std.proofs.Common.{◌≡◌, ◌<◌, ap, refl}
use Rattle.classifier.specs.declared.verdicts.Verdict.TheVariants as verdict
use Rattle.record_text.specs.declared.records.End.TheVariants.{Bypass, Drop}
use Rattle.record_text.specs.declared.records.Reason.TheVariants.{Rule, NshIngress}
use Rattle.net_frames.specs.Captured.{Captured}
use Rattle.record_text.specs.declared.records.Record.{Record}
use Rattle.forwarder.specs.Kept.{WalkedFrom}
use Rattle.classifier.specs.Stations.{first_station}
use Rattle.forwarder.specs.Traces.{Traced, Worked}
use Rattle.forwarder.specs.Walks.{functions_of}
use Rattle.forwarder.specs.Workspaces.{Forwarded, taken_in}
use Rattle.forwarder.proofs.Unwalked.{match_on, none_seen, path_forwarded, unwalked_forwarded}
use Rattle.forwarder.proofs.forwarding.forward.Goals as goal

pub returns-in-Bypass-clause-seen : goal.returns-in-Bypass-clause-seen
returns-in-Bypass-clause-seen g c = none_seen (g.T.Tables.known c.args.tables.now) (g.T.Tables.seen c.args.tables.now)

pub returns-in-Bypass-clause-record : goal.returns-in-Bypass-clause-record
returns-in-Bypass-clause-record g c = (
  refl,
  unwalked_forwarded c.args.setup.now _ (taken_in c.args.frame.bytes.now c.args.frame.original) c.take_in.new.frame c.args.worker (g.T.Tables.known c.args.tables.now) (g.T.Tables.seen c.args.tables.now) verdict.Bypass Bypass c.unwalked.result (record { frame = c.take_in.new.frame; traced = c.clear.new.self.kept; packets = c.clear.new.self.packets })
      c.setup.view_is c.take_in.ensures c.in-Bypass.ensures.value refl c.unwalked.ensures (ap (λ (t : Traced). t.packets) c.clear.ensures),
)

pub returns-in-Refuse-clause-seen : goal.returns-in-Refuse-clause-seen
returns-in-Refuse-clause-seen g c = none_seen (g.T.Tables.known c.args.tables.now) (g.T.Tables.seen c.args.tables.now)

pub returns-in-Refuse-clause-record : goal.returns-in-Refuse-clause-record
returns-in-Refuse-clause-record g c = (
  refl,
  unwalked_forwarded c.args.setup.now _ (taken_in c.args.frame.bytes.now c.args.frame.original) c.take_in.new.frame c.args.worker (g.T.Tables.known c.args.tables.now) (g.T.Tables.seen c.args.tables.now) verdict.Refuse (Drop Rule) c.unwalked-in-Refuse.result (record { frame = c.take_in.new.frame; traced = c.clear.new.self.kept; packets = c.clear.new.self.packets })
      c.setup.view_is c.take_in.ensures c.in-Refuse.ensures.value refl c.unwalked-in-Refuse.ensures (ap (λ (t : Traced). t.packets) c.clear.ensures),
)

pub returns-in-NshIngress-clause-seen : goal.returns-in-NshIngress-clause-seen
returns-in-NshIngress-clause-seen g c = none_seen (g.T.Tables.known c.args.tables.now) (g.T.Tables.seen c.args.tables.now)

pub returns-in-NshIngress-clause-record : goal.returns-in-NshIngress-clause-record
returns-in-NshIngress-clause-record g c = (
  refl,
  unwalked_forwarded c.args.setup.now _ (taken_in c.args.frame.bytes.now c.args.frame.original) c.take_in.new.frame c.args.worker (g.T.Tables.known c.args.tables.now) (g.T.Tables.seen c.args.tables.now) verdict.NshIngress (Drop NshIngress) c.unwalked-in-NshIngress.result (record { frame = c.take_in.new.frame; traced = c.clear.new.self.kept; packets = c.clear.new.self.packets })
      c.setup.view_is c.take_in.ensures c.in-NshIngress.ensures.value refl c.unwalked-in-NshIngress.ensures (ap (λ (t : Traced). t.packets) c.clear.ensures),
)

-- on a path, the walk from the first station is the frame's
pub returns-in-Path-clause-record : goal.returns-in-Path-clause-record
returns-in-Path-clause-record g c =
    let known = g.T.Tables.known c.walk.new.tables in
    let before = g.T.Tables.seen c.args.tables.now in
    let after = g.T.Tables.seen c.walk.new.tables in
    let frame : Captured = taken_in c.args.frame.bytes.now c.args.frame.original in
    let work : Worked = record { frame = c.walk.new.frame; traced = c.walk.new.trace.kept; packets = c.walk.new.trace.packets } in
    match_on (g.T.Tables.refused c.args.tables.now < g.T.Tables.refused c.walk.new.tables)
    (λ (r : Record). (g.T.Tables.refused c.walk.new.tables ≡ g.T.Tables.refused c.args.tables.now)
    × WalkedFrom (functions_of c.as_slice.result.now) (first_station c.setup.inside.ingress c.take_in.new.frame c.header_of-nsh.result) c.args.worker known before after c.walk.new.trace r)
    (λ (r : Record). (g.T.Tables.refused c.walk.new.tables ≡ g.T.Tables.refused c.args.tables.now) × Forwarded c.args.setup.now frame c.args.worker known before after work r)
    c.walk.result
    (λ r q. (
      q.0,
      path_forwarded c.args.setup.now _ frame c.take_in.new.frame c.args.worker known before after c.walk.new.trace r c.in-Path.spi c.in-Path.si c.in-Path.ttl c.in-Path.context c.header_of-nsh.result (functions_of c.as_slice.result.now) work
          c.setup.view_is c.take_in.ensures c.in-Path.ensures.value c.header_of-nsh.ensures (ap functions_of c.as_slice.ensures) refl refl q.1,
    ))
    c.walk.ensures.record
