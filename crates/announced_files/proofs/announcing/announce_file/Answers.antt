-- The routes of a text may be announced, and each of their segments may follow the one before.
use Rattle.std.proofs.Common.{◌≡◌, ℕ, ◌<◌, ◌^◌, List, [], ◌∷◌, length, refl, ap, sym, subst, ◌∙◌, arith}
use Rattle.std.specs.List.{AllByRecursion}
use Rattle.control_files.specs.declared.segments.Segment.{Segment}
use Rattle.control_files.specs.Segments.{segments_bytes, start}
use Rattle.sfc_routes.specs.declared.routes.Route.{Route}
use Rattle.announced_files.specs.Announceable.{IsAnnounceable}
use Rattle.announced_files.specs.Announced.{announced}
use Rattle.announced_files.proofs.RouteLemmas.{of_text}
use Rattle.announced_files.proofs.FileLemmas.{are_segments, short_segments}
use Rattle.announced_files.proofs.announcing.announce_file.Goals as goal

pub announced_segments-requires-clause-routes : goal.announced_segments-requires-clause-routes
announced_segments-requires-clause-routes c =
    subst (AllByRecursion IsAnnounceable) (sym c.as_slice.ensures) (of_text c.requires.routes.0 c.args.routes.now c.requires.routes.1).each

pub file_of-requires : goal.file_of-requires
file_of-requires c =
    let peers : List ℕ = c.args.peer ∷ [] in
    let each = (of_text c.requires.routes.0 c.args.routes.now c.requires.routes.1).each in
    let are = are_segments peers c.args.local.now c.args.peer c.args.peer_as c.args.routes.now c.requires.local c.requires.peer (0, omega arith, refl) each in
    let is = c.as_slice-2.ensures ∙ c.in_ok-segments.ensures ∙ ap (announced c.args.local.now c.args.peer c.args.peer_as) c.as_slice.ensures in
    subst (AllByRecursion (λ (s : Segment). length s.bytes < 2 ^ 32)) (sym is) (short_segments peers start (announced c.args.local.now c.args.peer c.args.peer_as c.args.routes.now) are)

pub returns-clause-file : goal.returns-clause-file
returns-clause-file c =
    c.in_ok-file.ensures ∙ ap segments_bytes (c.as_slice-2.ensures ∙ c.in_ok-segments.ensures ∙ ap (announced c.args.local.now c.args.peer c.args.peer_as) c.as_slice.ensures)

pub returns-clause-control : goal.returns-clause-control
returns-clause-control c = λ peers there. record {
  each = are_segments peers c.args.local.now c.args.peer c.args.peer_as c.args.routes.now c.requires.local c.requires.peer there
      (of_text c.requires.routes.0 c.args.routes.now c.requires.routes.1).each;
  all = c.in_ok-file.ensures ∙ ap segments_bytes (c.as_slice-2.ensures ∙ c.in_ok-segments.ensures ∙ ap (announced c.args.local.now c.args.peer c.args.peer_as) c.as_slice.ensures);
}
