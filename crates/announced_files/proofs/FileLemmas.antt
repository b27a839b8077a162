-- The announced file is a control file.
use Rattle.std.proofs.Common.{◌≡◌, ℕ, ◌<◌, ◌^◌, List, [], ◌∷◌, ◌++◌, length, map, refl, arith}
use Rattle.std.specs.Prelude.{Contains}
use Rattle.std.specs.List.{AllByRecursion}
use Rattle.bgp_messages.specs.declared.messages.Message.{Message}
use Rattle.bgp_messages.specs.declared.messages.Message.TheVariants as messages
use Rattle.bgp_messages.specs.Messages.{Fits}
use Rattle.bgp_messages.proofs.HeaderLemmas.{length-spelling}
use Rattle.bgp_session.specs.declared.local_sides.Local.{Local}
use Rattle.bgp_session.specs.LocalSide.{IsLocal}
use Rattle.sfc_routes.specs.declared.routes.Route.{Route}
use Rattle.control_files.specs.declared.segments.Mark.{Mark}
use Rattle.control_files.specs.declared.segments.Segment.{Segment}
use Rattle.control_files.specs.Segments.{MayFollow, AreSegments, mark_of, start}
use Rattle.session_machine.specs.Sides.{IsPeer}
use Rattle.session_machine.specs.Spoken.{open_message}
use Rattle.announced_files.specs.Announceable.{IsAnnounceable}
use Rattle.announced_files.specs.Announcements.{announcing}
use Rattle.announced_files.specs.Announced.{other_side, said, announced}
use Rattle.announced_files.proofs.UpdateLemmas.{spelled}
use Rattle.announced_files.proofs.SessionLemmas.{opening_fits, other_fits}

message_follows : (peers : List ℕ) (peer asn : ℕ) (m : Message) → Contains peers peer → IsPeer peer asn → Fits m → MayFollow peers start (said peer m)
message_follows peers peer asn m there is fits = record {
  kind = (omega arith, omega arith);
  peer = there;
  moment = omega arith;
  position = omega arith;
  most = omega (arith, length-spelling m, fits.size);
  bare = λ other. absurd (other refl);
  peer_fits = is.number_most;
  moment_fits = omega arith;
  position_fits = omega arith;
}

updates_follow : (peers : List ℕ) (own peer asn : ℕ) (routes : List Route) → Contains peers peer → IsPeer peer asn → AllByRecursion IsAnnounceable routes
    → AreSegments peers start (map (λ (r : Route). said peer (announcing own asn r)) routes)
updates_follow peers own peer asn [] there is each = tt
updates_follow peers own peer asn (r ∷ rs) there is each =
    (message_follows peers peer asn (announcing own asn r) there is (spelled own asn r each.0).message, updates_follow peers own peer asn rs there is each.1)

pub are_segments : (peers : List ℕ) (local : Local) (peer asn : ℕ) (routes : List Route) → IsLocal local → IsPeer peer asn → Contains peers peer → AllByRecursion IsAnnounceable routes
    → AreSegments peers start (announced local peer asn routes)
are_segments peers local peer asn routes is_local is there each =
    let follows = λ (m : Message) (fits : Fits m). message_follows peers peer asn m there is fits in (
      record {
        kind = (omega arith, omega arith);
        peer = there;
        moment = omega arith;
        position = omega arith;
        most = omega arith;
        bare = λ other. refl;
        peer_fits = is.number_most;
        moment_fits = omega arith;
        position_fits = omega arith;
      },
      (
        follows (open_message (other_side local peer asn)) (opening_fits (other_side local peer asn) (other_fits local peer asn is_local is)),
        (follows messages.KeepAlive (record { parts = tt; size = omega arith }), updates_follow peers local.asn peer asn routes there is each),
      ),
    )

-- the bytes of each segment are few
pub short_segments : (peers : List ℕ) (mark : Mark) (segments : List Segment) → AreSegments peers mark segments → AllByRecursion (λ (s : Segment). length s.bytes < 2 ^ 32) segments
short_segments peers mark [] are = tt
short_segments peers mark (s ∷ ss) are = (omega (arith, are.0.most), short_segments peers (mark_of s) ss are.1)
