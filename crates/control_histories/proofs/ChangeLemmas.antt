-- Every change in a log is one that a list of routes takes.
use Rattle.std.proofs.Common.{ℕ, List, [], ◌∷◌, get_or, Contains, subst, refl, inl, inr}
use Rattle.std.specs.List.{AllByRecursion}
use Rattle.std.proofs.lemmas.Bool.{cases_eq}
use Rattle.bgp_session.specs.declared.local_sides.Local.{Local}
use Rattle.control_files.specs.declared.segments.Segment.{Segment}
use Rattle.control_files.specs.Segments.{numbers}
use Rattle.sfc_routes.specs.PeerRoutes.{IsRouteChange}
use Rattle.sfc_routes.proofs.MemberLemmas.{all_join}
use Rattle.session_machine.specs.declared.sides.Side.{Side}
use Rattle.session_machine.specs.declared.events.Effects.{Effects}
use Rattle.session_machine.specs.Events.{Happening, Machine, beginning}
use Rattle.session_machine.specs.Histories.{Runs}
use Rattle.session_machine.specs.Sides.{side_of}
use Rattle.session_machine.specs.Groups.{Entry, effects_of, events_of}
use Rattle.session_machine.proofs.FitLemmas.{Fit, of_run}
use Rattle.control_histories.specs.Logs.{AreOfPeers, Heard, changes_of}
use Rattle.control_histories.proofs.EntryLemmas.{own_effects, other_effects, known_peers}
use Rattle.control_histories.proofs.OneLog.{peer_at, sent_to}

abbrev EachFits : List Effects → Type 0
EachFits list = AllByRecursion (λ (f : Effects). Fit f.changes) list

tail_of : (f : Effects) (fs : List Effects) → EachFits (f ∷ fs) → EachFits fs
tail_of f fs fit = fit.1

rest_fits : (number : ℕ) (x : Entry) (xs : List Entry) → EachFits (effects_of number (x ∷ xs)) → EachFits (effects_of number xs)
rest_fits number x xs fit =
    elim (cases_eq x.peer number) [
      | inl is ↦ tail_of x.effects (effects_of number xs) (subst EachFits (own_effects number x xs is) fit)
      | inr apart ↦ subst EachFits (other_effects number x xs apart) fit
    ]

log_fits : (Known : ℕ → Type 0) (log : List Entry) → AllByRecursion (λ (e : Entry). Known e.peer) log → ((number : ℕ) → Known number → EachFits (effects_of number log)) → Fit (changes_of log)
log_fits Known [] known fits = tt
log_fits Known (x ∷ xs) known fits =
    let here : EachFits (x.effects ∷ effects_of x.peer xs) = subst EachFits (own_effects x.peer x xs refl) (fits x.peer known.0) in
    all_join IsRouteChange x.effects.changes (changes_of xs) here.0 (log_fits Known xs known.1 (λ number is. rest_fits number x xs (fits number is)))

pub changes_fit : (local : Local) (peers : List (ℕ × ℕ)) (segments : List Segment) (log : List Entry) → AreOfPeers peers segments → Heard local peers segments log → Fit (changes_of log)
changes_fit local peers segments log of_peers x =
    log_fits (Contains (numbers peers)) log (known_peers (Contains (numbers peers)) segments log of_peers x.in_order)
    (λ number there.
    let p = peer_at peers number there in
    let sent = sent_to local peers segments log x number p.0 p.1 p.2 in
    of_run (side_of local number (get_or peers p.0 (0, 0)).1) beginning (events_of number log) (effects_of number log) sent.0 sent.1)
