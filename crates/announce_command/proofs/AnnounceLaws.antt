-- The facts of `announce`: what its words say is determined, each answer has its cause, and causes exclude each other.
use Rattle.std.proofs.Common.{◌≡◌, ◌≢◌, inl, inr, ℕ, Bool, true, List, [], ◌∷◌, Some, None, codes, decimal, refl, sym, ap, ◌∙◌, subst, arith}
use Rattle.std.proofs.lemmas.Fmt.{decimal_injective}
use Rattle.sfc_desk.specs.declared.ports.Port.{Port}
use Rattle.sfc_desk.specs.declared.ports.Port.TheVariants as ports
use Rattle.sfc_desk.specs.Desks.{Shown, Files}
use Rattle.sfc_desk.specs.Ports.{is_input}
use Rattle.sfc_config.specs.Parts.{Parts}
use Rattle.route_texts.proofs.TextReadings.{never_both, one_refusal}
use Rattle.commands.specs.declared.statuses.Status.{Status}
use Rattle.commands.specs.declared.statuses.Status.TheVariants.{Ok, Words, File, Setup, Capture, Control, Memory, Records, Long, Pcapng}
use Rattle.commands.specs.Commands.{Asks, Behaves, NoneRose}
use Rattle.commands.specs.Places.{opens}
use Rattle.commands.proofs.CommandLemmas.{Laws, asks_once, asks_absent, asks_long, asks_judged, fails_absent}
use Rattle.setup_inputs.specs.Setups.{HoldsSetup}
use Rattle.setup_inputs.proofs.SetupLemmas.{setup_asks_once, caused_on_setup, never_words_on_setup}
use Rattle.announce_command.specs.AnnounceCommand.{Announce, IsAnnounce, announce_ports, AnnouncesAs, AnnouncesOn, AnnounceRuns, RoutesAsk, PeerAsks, AnnounceWants}
use Rattle.announce_command.proofs.RunLemmas.{announce_row}

-- ---- the words

announce_with : List ℕ → ℕ → List ℕ → List ℕ → Announce
announce_with setup peer routes made = record { setup = setup; peer = peer; routes = routes; made = made }

one_announce : (words : List (List ℕ)) (a b : Announce) → IsAnnounce words a → IsAnnounce words b → a ≡ b
unfolding announce_with
one_announce words a b is_a is_b =
    let same : codes "announce" ∷ a.setup ∷ decimal a.peer ∷ a.routes ∷ a.made ∷ [] ≡ codes "announce" ∷ b.setup ∷ decimal b.peer ∷ b.routes ∷ b.made ∷ [] = sym is_a.spelled ∙ is_b.spelled in
    let peer_text : decimal a.peer ≡ decimal b.peer = cc in
    let setup : a.setup ≡ b.setup = cc in
    let peer : a.peer ≡ b.peer = decimal_injective a.peer b.peer (omega (arith, is_a.most)) (omega (arith, is_b.most)) peer_text in
    let routes : a.routes ≡ b.routes = cc in
    let made : a.made ≡ b.made = cc in
    ap (λ name. announce_with name a.peer a.routes a.made) setup
    ∙ (ap (λ n. announce_with b.setup n a.routes a.made) peer
    ∙ (ap (λ name. announce_with b.setup b.peer name a.made) routes
    ∙ ap (λ name. announce_with b.setup b.peer b.routes name) made))

-- ---- each answer has its cause

made_is_read : (port : Port) → port ≡ ports.Made → is_input port ≡ true → ⊥
made_is_read port is reads = let e : is_input ports.Made ≡ true = subst (λ (p : Port). is_input p ≡ true) is reads in cc

there_or_not : (found : Files) (name other : List ℕ) (text : List ℕ) → found name ≡ Some text → other ≡ name → found other ≡ None → ⊥
there_or_not found name other text there same none = let absent : found name ≡ None = subst (λ (n : List ℕ). found n ≡ None) same none in cc

routes_asked : (said : Announce) (setup : Parts) (asn : ℕ) (tells : Bool) (held : Files) (then now : Port → Shown) (answer : Status) → HoldsSetup said.setup held setup → AnnouncesAs said setup asn tells held then now answer → Behaves (announce_ports said) tells held then now answer → tells ≡ true → NoneRose then now → answer ≢ Memory
    → Asks ports.Routes 16777216 RoutesAsk (held said.routes) answer
routes_asked said setup asn tells held then now Ok holds runs behaves told none some =
    let ends = runs.1 told in
    asks_judged ports.Routes _ RoutesAsk (held said.routes) ends.writes.text Ok ends.writes.there ends.within (inl (ends.writes.routes, ends.writes.spelled, refl))
routes_asked said setup asn tells held then now (Records line) holds runs behaves told none some =
    let bad = runs.1 told in
    asks_judged ports.Routes _ RoutesAsk (held said.routes) bad.text (Records line) bad.there bad.within (inr (line, bad.refused, refl))
routes_asked said setup asn tells held then now (Long port) holds runs behaves told none some =
    let long = runs.2 told in
    subst (λ (p : Port). Asks ports.Routes 16777216 RoutesAsk (held said.routes) (Long p)) (sym runs.0) (asks_long ports.Routes _ RoutesAsk (held said.routes) long.text long.there long.past)
routes_asked said setup asn tells held then now (File port) holds runs behaves told none some =
    let failed = fails_absent (announce_ports said) tells held then now port (behaves.fails port refl) none in
    elim (failed.1) [
      | inl is ↦ absurd (there_or_not held said.setup failed.0 holds.text holds.there is.1 failed.2.none)
      | inr (inl is) ↦
          subst (λ (p : Port). Asks ports.Routes 16777216 RoutesAsk (held said.routes) (File p)) (sym is.0)
          (asks_absent ports.Routes _ RoutesAsk (held said.routes) (subst (λ (name : List ℕ). held name ≡ None) is.1 failed.2.none))
      | inr (inr (inl is)) ↦ absurd (made_is_read port is.0 failed.2.input)
      | inr (inr (inr nowhere)) ↦ absurd nowhere
    ]
routes_asked said setup asn tells held then now Memory holds runs behaves told none some = absurd (some refl)
routes_asked said setup asn tells held then now Words holds runs behaves told none some = absurd runs
routes_asked said setup asn tells held then now (Setup line reason) holds runs behaves told none some = absurd runs
routes_asked said setup asn tells held then now (Capture place reason) holds runs behaves told none some = absurd runs
routes_asked said setup asn tells held then now (Control place reason) holds runs behaves told none some = absurd runs
routes_asked said setup asn tells held then now (Pcapng place reason) holds runs behaves told none some = absurd runs

peer_asked : (said : Announce) (setup : Parts) (tells : Bool) (held : Files) (then now : Port → Shown) (answer : Status) → HoldsSetup said.setup held setup → AnnouncesOn said setup tells held then now answer → Behaves (announce_ports said) tells held then now answer → tells ≡ true → NoneRose then now → answer ≢ Memory → PeerAsks said held setup answer
peer_asked said setup tells held then now answer holds (inl no_peer) behaves told none some = inl (no_peer.none, no_peer.told)
peer_asked said setup tells held then now answer holds (inr peer) behaves told none some =
    inr (peer.0, peer.1, routes_asked said setup peer.0 tells held then now answer holds peer.2 behaves told none some)

caused : (said : Announce) (tells : Bool) (held : Files) (then now : Port → Shown) (answer : Status) → AnnounceRuns said tells held then now answer → Behaves (announce_ports said) tells held then now answer → tells ≡ true → NoneRose then now → answer ≢ Memory → AnnounceWants said held answer
caused said tells held then now answer runs behaves told none some =
    caused_on_setup (PeerAsks said held) (λ setup. AnnouncesOn said setup tells held then now answer) said.setup (opens ports.Routes said.routes ∷ opens ports.Made said.made ∷ []) tells held then now answer (announce_row said)
    (λ setup holds on. peer_asked said setup tells held then now answer holds on behaves told none some)
    runs behaves told none some

no_words : (said : Announce) (setup : Parts) (tells : Bool) (held : Files) (then now : Port → Shown) → AnnouncesOn said setup tells held then now Words → ⊥
no_words said setup tells held then now (inl no_peer) = let told : Words ≡ _ = no_peer.told in cc
no_words said setup tells held then now (inr peer) = peer.2

-- ---- causes exclude each other

routes_ask_once : (text : List ℕ) (c d : Status) → RoutesAsk text c → RoutesAsk text d → c ≡ d
routes_ask_once text c d (inl a) (inl b) = a.2 ∙ sym b.2
routes_ask_once text c d (inl a) (inr b) = absurd (never_both text a.0 b.0 a.1 b.1)
routes_ask_once text c d (inr a) (inl b) = absurd (never_both text b.0 a.0 b.1 a.1)
routes_ask_once text c d (inr a) (inr b) = a.2 ∙ ap Records (one_refusal text a.0 b.0 a.1 b.1) ∙ sym b.2

peer_asks_once : (said : Announce) (held : Files) (setup : Parts) (c d : Status) → PeerAsks said held setup c → PeerAsks said held setup d → c ≡ d
peer_asks_once said held setup c d (inl a) (inl b) = a.1 ∙ sym b.1
peer_asks_once said held setup c d (inl a) (inr b) = absurd (a.0 b.0 b.1)
peer_asks_once said held setup c d (inr a) (inl b) = absurd (b.0 a.0 a.1)
peer_asks_once said held setup c d (inr a) (inr b) = asks_once ports.Routes _ RoutesAsk (held said.routes) c d routes_ask_once a.2 b.2

pub announce_laws : Laws IsAnnounce announce_ports AnnounceRuns AnnounceWants
announce_laws = record {
  one = one_announce;
  never_words = λ said tells held then now runs.
      never_words_on_setup (λ setup. AnnouncesOn said setup tells held then now Words) said.setup tells held then now (λ setup. no_words said setup tells held then now) runs;
  caused = caused;
  exclusive = λ said held a b. setup_asks_once (PeerAsks said held) (held said.setup) a b (peer_asks_once said held);
}
