-- From the work on the bound routes and the bound file to what the answers of `announce` say.
use Rattle.std.proofs.Common.{◌≡◌, ◌≢◌, inl, inr, ℕ, Bool, true, false, List, [], ◌∷◌, Some, refl, sym, ◌∙◌, subst}
use Rattle.sfc_desk.specs.declared.ports.Port.{Port}
use Rattle.sfc_desk.specs.declared.ports.Port.TheVariants as ports
use Rattle.sfc_desk.specs.Desks.{Shown, Files, Rose, raised}
use Rattle.control_files.specs.Segments.{numbers, IsControl, segments_bytes}
use Rattle.sfc_routes.specs.declared.routes.Route.{Route}
use Rattle.route_texts.specs.RouteTexts.{IsRoutes}
use Rattle.sfc_config.specs.declared.faults.SetupReason.TheVariants.{NoPeer}
use Rattle.sfc_config.specs.Parts.{Parts, AreParts}
use Rattle.commands.specs.declared.statuses.Status.{Status}
use Rattle.commands.specs.declared.statuses.Status.TheVariants.{Ok, Words, File, Setup, Capture, Control, Memory, Records, Long, Pcapng}
use Rattle.commands.specs.Openings.{Opened}
use Rattle.commands.specs.Fronts.{IsFront}
use Rattle.commands.specs.Outputs.{Outputs, Puts, IsAll, nothing, fronts, none_put}
use Rattle.commands.specs.Pieces.{NoneBound}
use Rattle.commands.specs.Places.{opens, HasPort, IsRow}
use Rattle.commands.proofs.PlaceLemmas.{opens_stays}
use Rattle.setup_inputs.specs.Setups.{setup_place}
use Rattle.announced_files.specs.Announced.{announced}
use Rattle.announced_files.proofs.FileLemmas.{are_segments}
use Rattle.announced_files.proofs.RouteLemmas.{of_text}
use Rattle.announce_command.specs.AnnounceCommand.{Announce, announce_ports, IsPeerOf, AnnounceFronts, AnnouncesAs}
use Rattle.announce_command.specs.AnnounceSteps.{text_of, AnnounceWorks, WroteSome}
use Rattle.announce_command.proofs.PeerLemmas.{peer_fits, number_of}

never : true ≡ false → ⊥
never e = cc

setup_is_not_routes : ports.Setup ≢ ports.Routes
setup_is_not_routes e = cc

setup_is_not_made : ports.Setup ≢ ports.Made
setup_is_not_made e = cc

pub routes_are_not_made : ports.Routes ≢ ports.Made
routes_are_not_made e = cc

-- the three ports differ
pub announce_row : (said : Announce) → IsRow (announce_ports said)
announce_row said = (
  (λ other has. elim has [ inl is ↦ setup_is_not_routes is.0 | inr later ↦ elim later [ inl is ↦ setup_is_not_made is.0 | inr none ↦ none ] ]),
  ((λ other has. elim has [ inl is ↦ routes_are_not_made is.0 | inr none ↦ none ]), ((λ other has. has), tt)),
)

pub routes_row : (said : Announce) → IsRow (setup_place said.setup ∷ opens ports.Routes said.routes ∷ [])
routes_row said = ((λ other has. elim has [ inl is ↦ setup_is_not_routes is.0 | inr none ↦ none ]), ((λ other has. has), tt))

-- a peer that is not there is no failure of a port
pub no_file : (port : Port) → Setup 0 NoPeer ≡ File port → ⊥
no_file port e = cc

-- ---- what the outputs took

-- the file is what the peer's routes are announced by
control_of : (said : Announce) (setup : Parts) (asn : ℕ) (text : List ℕ) (routes : List Route) (file : List ℕ) → AreParts setup → IsPeerOf setup said.peer asn → IsRoutes text routes → file ≡ segments_bytes (announced setup.local said.peer asn routes)
    → IsControl file (numbers setup.peers) (announced setup.local said.peer asn routes)
control_of said setup asn text routes file parts has spells is = record {
  each = are_segments (numbers setup.peers) setup.local said.peer asn routes parts.local_fits (peer_fits setup said.peer asn parts has) (number_of setup said.peer asn has) (of_text text routes spells).each;
  all = is;
}

-- Made took these bytes, and no other output is there
took : (R : List ℕ → List ℕ → Type 0) (said : Announce) (then now : Port → Shown) (all : Outputs) → (now ports.Made).binds ≡ raised (then ports.Made).binds → R (now ports.Made).written (all ports.Made) → Puts R (announce_ports said) then now all
took R said then now all once part = ((λ out. absurd (never out)), ((λ out. absurd (never out)), ((λ out. ((now ports.Made).written, inl (once, refl), part)), tt)))

some_front : (said : Announce) (setup : Parts) (asn : ℕ) (held : Files) (text : List ℕ) (then now : Port → Shown) → AreParts setup → IsPeerOf setup said.peer asn → held said.routes ≡ Some text → (now ports.Made).binds ≡ raised (then ports.Made).binds
    → WroteSome setup.local said.peer asn text (now ports.Made).written → AnnounceFronts said setup asn held then now
some_front said setup asn held text then now parts has there once (inl none) = nothing (took IsAll said then now none_put once none)
some_front said setup asn held text then now parts has there once (inr some) =
    let file : List ℕ = segments_bytes (announced setup.local said.peer asn some.routes) in
    fronts (λ port. file)
    (record { text = text; there = there; routes = some.routes; spelled = some.spelled; control = control_of said setup asn text some.routes file parts has some.spelled refl })
    (took IsFront said then now (λ port. file) once some.front)

-- ---- what was done on the bound ports, said from before the binds

pub runs_from : (said : Announce) (setup : Parts) (asn : ℕ) (tells : Bool) (held : Files) (then mid now : Port → Shown) (answer : Status) → AreParts setup → IsPeerOf setup said.peer asn → Opened (announce_ports said) tells then mid → NoneBound tells mid now
    → (tells ≡ true → held said.routes ≡ Some (text_of mid)) → AnnounceWorks setup.local said.peer asn tells mid now answer → AnnouncesAs said setup asn tells held then now answer
runs_from said setup asn tells held then mid now Ok parts has was none there works =
    let all = opens_stays (announce_ports said) tells then mid now none was.all in (
      all,
      λ told.
          let done = works told in
          let wrote = done.1 in
          record {
            out = λ port. (now ports.Made).written;
            writes = record {
              text = text_of mid;
              there = there told;
              routes = wrote.routes;
              spelled = wrote.spells.spelled;
              control = control_of said setup asn (text_of mid) wrote.routes (now ports.Made).written parts has wrote.spells.spelled wrote.whole;
            };
            within = wrote.spells.within;
            read_whole = done.0;
            took = took IsAll said then now (λ port. (now ports.Made).written) all.1.1.0.once refl;
          },
    )
runs_from said setup asn tells held then mid now (Records line) parts has was none there works =
    let all = opens_stays (announce_ports said) tells then mid now none was.all in (
      all,
      λ told.
          let bad = works told in
          record { text = text_of mid; there = there told; within = bad.0.within; refused = bad.0.refused; nothing = took IsAll said then now none_put all.1.1.0.once bad.1 },
    )
runs_from said setup asn tells held then mid now (Long port) parts has was none there works =
    let all = opens_stays (announce_ports said) tells then mid now none was.all in (
      works.0,
      all,
      λ told.
          let long = works.1 told in
          record { text = text_of mid; there = there told; past = long.0; nothing = took IsAll said then now none_put all.1.1.0.once long.1 },
    )
runs_from said setup asn tells held then mid now (File port) parts has was none there works =
    let all = opens_stays (announce_ports said) tells then mid now none was.all in
    λ told. some_front said setup asn held (text_of mid) then now parts has (there told) all.1.1.0.once (works.1 told)
runs_from said setup asn tells held then mid now Memory parts has was none there works =
    let all = opens_stays (announce_ports said) tells then mid now none was.all in
    λ told. some_front said setup asn held (text_of mid) then now parts has (there told) all.1.1.0.once (works told)
runs_from said setup asn tells held then mid now Words parts has was none there works = works
runs_from said setup asn tells held then mid now (Setup line reason) parts has was none there works = works
runs_from said setup asn tells held then mid now (Capture place reason) parts has was none there works = works
runs_from said setup asn tells held then mid now (Control place reason) parts has was none there works = works
runs_from said setup asn tells held then mid now (Pcapng place reason) parts has was none there works = works

-- where the work fails with File, a count rose
pub fails_from : (said : Announce) (setup : Parts) (asn : ℕ) (tells : Bool) (then now : Port → Shown) (answer : Status) (port : Port) → AnnounceWorks setup.local said.peer asn tells then now answer → answer ≡ File port → (name : List ℕ) × HasPort (announce_ports said) port name × Rose (then port) (now port)
fails_from said setup asn tells then now (File own) port works is =
    let same : own ≡ port = cc in
    let rose : Rose (then port) (now port) = subst (λ (p : Port). Rose (then p) (now p)) same works.0.1 in
    elim (works.0.0) [
      | inl routes ↦ (said.routes, inr (inl (sym same ∙ routes, refl)), rose)
      | inr made ↦ (said.made, inr (inr (inl (sym same ∙ made, refl))), rose)
    ]
fails_from said setup asn tells then now Ok port works is = cc
fails_from said setup asn tells then now Words port works is = cc
fails_from said setup asn tells then now (Setup line reason) port works is = cc
fails_from said setup asn tells then now (Capture place reason) port works is = cc
fails_from said setup asn tells then now (Control place reason) port works is = cc
fails_from said setup asn tells then now Memory port works is = cc
fails_from said setup asn tells then now (Records line) port works is = cc
fails_from said setup asn tells then now (Long own) port works is = cc
fails_from said setup asn tells then now (Pcapng place reason) port works is = cc
