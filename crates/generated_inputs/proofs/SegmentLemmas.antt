-- The segments of generated inputs are those of a control file.
use Rattle.std.proofs.Common.{◌≡◌, ℕ, zero, suc, ◌+◌, ◌-◌, ◌*◌, ◌/◌, ◌%◌, ◌^◌, ◌<◌, ◌≤◌, eqb, List, [], ◌∷◌, ◌++◌, length, map, refl, arith}
use Rattle.std.specs.Prelude.{Contains}
use Rattle.std.specs.List.{range_with_len}
use Rattle.std.proofs.lemmas.Bool.{cond_both}
use Rattle.std.proofs.lemmas.List.{length-append}
use Rattle.std.proofs.lemmas.List.FromFn.{length-map-range_with_len}
use Rattle.bgp_messages.specs.Messages.{Fits}
use Rattle.bgp_messages.proofs.HeaderLemmas.{length-spelling}
use Rattle.bgp_session.specs.declared.local_sides.Local.{Local}
use Rattle.bgp_session.specs.LocalSide.{IsLocal}
use Rattle.control_files.specs.declared.segments.Mark.{Mark}
use Rattle.control_files.specs.declared.segments.Segment.{Segment}
use Rattle.control_files.specs.Segments.{AreSegments, MayFollow, mark_of, mark_behind, start}
use Rattle.announced_files.specs.Announced.{announced}
use Rattle.announced_files.specs.Announcements.{announcing, withdrawing}
use Rattle.announced_files.proofs.FileLemmas.{are_segments}
use Rattle.announced_files.proofs.UpdateLemmas.{spelled, withdrawn_spelled}
use Rattle.generated_inputs.specs.Routes.{firewall_route, generated_routes}
use Rattle.generated_inputs.specs.Segments.{change_of, change_at, changes_for, generated_segments}
use Rattle.generated_inputs.proofs.RouteLemmas.{firewall_fits, routes_fit}

change_fits : (own number : ℕ) → Fits (change_of own number)
change_fits own number =
    cond_both (eqb (number % 2) 1) (withdrawing firewall_route) (announcing own 65001 firewall_route) Fits
    (λ odd. (withdrawn_spelled firewall_route firewall_fits).message) (λ even. (spelled own 65001 firewall_route firewall_fits).message)

change_follows : (peers : List ℕ) (own number : ℕ) (mark : Mark) → Contains peers 1 → mark.moment ≡ 0 → mark.position ≤ 64 * number → number < 2 ^ 32 → MayFollow peers mark (change_at own number)
change_follows peers own number mark there begun before small = record {
  kind = (omega arith, omega arith);
  peer = there;
  moment = omega (arith, begun);
  position = before;
  most = omega (arith, length-spelling (change_of own number), (change_fits own number).size);
  bare = λ other. absurd (other refl);
  peer_fits = omega arith;
  moment_fits = omega arith;
  position_fits = omega (arith, small);
}

changes_follow : (peers : List ℕ) (own n first : ℕ) (mark : Mark) → Contains peers 1 → mark.moment ≡ 0 → mark.position ≤ 64 * first → first + n < 2 ^ 32
    → AreSegments peers mark (map (λ (number : ℕ). change_at own number) (range_with_len first n))
changes_follow peers own zero first mark there begun before small = tt
changes_follow peers own (suc n) first mark there begun before small = (
  change_follows peers own first mark there begun before (omega (arith, small)),
  changes_follow peers own n (first + 1) (mark_of (change_at own first)) there refl (omega arith) (omega (arith, small)),
)

-- segments behind segments
all_follow : (peers : List ℕ) (xs ys : List Segment) (mark : Mark) → AreSegments peers mark xs → AreSegments peers (mark_behind mark xs) ys → AreSegments peers mark (xs ++ ys)
all_follow peers [] ys mark are then = then
all_follow peers (x ∷ xs) ys mark are then = (are.0, all_follow peers xs ys (mark_of x) are.1 then)

pub generated_follow : (peers : List ℕ) (local : Local) (count : ℕ) → IsLocal local → Contains peers 1 → count ≤ 65536 → AreSegments peers start (generated_segments local count)
generated_follow peers local count is_local there most =
    let first : List Segment = announced local 1 65001 generated_routes in
    all_follow peers first (changes_for local.asn count) start
    (are_segments peers local 1 65001 generated_routes is_local (record { number_some = omega arith; number_most = omega arith; asn_some = omega arith; asn_most = omega arith }) there routes_fit)
    (changes_follow peers local.asn ((count - 1) / 64) 1 (mark_behind start first) there refl (omega arith) (omega (arith, most)))

pub generated_few : (local : Local) (count : ℕ) → count ≤ 65536 → length (generated_segments local count) ≤ 2048
generated_few local count most =
    let changes = length-map-range_with_len (λ (number : ℕ). change_at local.asn number) 1 ((count - 1) / 64) in
    omega (arith, length-append (announced local 1 65001 generated_routes) (changes_for local.asn count), changes, most)
