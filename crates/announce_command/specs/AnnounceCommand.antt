-- `announce SETUP PEER ROUTES MADE`: the control file by which a peer of a setup announces the routes of a text.
use Rattle.std.specs.Prelude.{◌≡◌, ◌≢◌, ◌⊎◌, ℕ, ◌<◌, ◌≤◌, Bool, true, List, [], ◌∷◌, Some, length, codes, decimal, Contains}
use Rattle.sfc_desk.specs.declared.ports.Port.{Port}
use Rattle.sfc_desk.specs.declared.ports.Port.TheVariants as ports
use Rattle.sfc_desk.specs.Desks.{Shown, Files}
use Rattle.control_files.specs.Segments.{IsControl, numbers}
use Rattle.sfc_routes.specs.declared.routes.Route.{Route}
use Rattle.route_texts.specs.RouteTexts.{IsRoutes, IsRefused}
use Rattle.sfc_config.specs.declared.faults.SetupReason.TheVariants as reasons
use Rattle.sfc_config.specs.Parts.{Parts}
use Rattle.commands.specs.declared.statuses.Status.{Status}
use Rattle.commands.specs.declared.statuses.Status.TheVariants as status
use Rattle.commands.specs.Commands.{Asks, CommandCall}
use Rattle.commands.specs.Outputs.{Outputs, TookAll, TookFrontsOfOne, none_put}
use Rattle.commands.specs.Places.{Place, opens, OnlyPlaced, OpensAll}
use Rattle.setup_inputs.specs.Setups.{setup_place, RunsOnSetup, SetupAsks}
use Rattle.announced_files.specs.Announced.{announced}

-- what the words say
pub record Announce : Type 0 where
  pub setup : List ℕ
  pub peer : ℕ
  pub routes : List ℕ
  pub made : List ℕ

-- The words are `announce`, a file name, the number of a peer from 1 to 65,535, and two file names. No name is empty, and the
-- last one is none of the others. The number is decimal without leading zeros.
pub record IsAnnounce (words : List (List ℕ)) (said : Announce) : Type 0 where
  pub spelled : words ≡ codes "announce" ∷ said.setup ∷ decimal said.peer ∷ said.routes ∷ said.made ∷ []
  pub some : 1 ≤ said.peer
  pub most : said.peer ≤ 65535
  pub from_setup : said.setup ≢ []
  pub from_routes : said.routes ≢ []
  pub to_somewhere : said.made ≢ []
  pub other_than_setup : said.made ≢ said.setup
  pub other_than_routes : said.made ≢ said.routes

-- the ports, in the order of their binds
abbrev pub announce_ports : Announce → List Place
announce_ports said = setup_place said.setup ∷ opens ports.Routes said.routes ∷ opens ports.Made said.made ∷ []

-- ---- the peer

-- the setup has the peer, with this AS
abbrev pub IsPeerOf : Parts → ℕ → ℕ → Type 0
IsPeerOf setup peer asn = Contains setup.peers (peer, asn)

-- it has no such peer
abbrev pub HasNoPeer : Parts → ℕ → Type 0
HasNoPeer setup peer = (asn : ℕ) → ¬ IsPeerOf setup peer asn

-- ---- what is written

-- what `announce` writes for a peer of a setup, with this AS: the control file of the announced routes of the text
pub record AnnounceWrites (said : Announce) (setup : Parts) (asn : ℕ) (held : Files) (out : Outputs) : Type 0 where
  pub text : List ℕ
  pub there : held said.routes ≡ Some text
  pub routes : List Route
  pub spelled : IsRoutes text routes
  pub control : IsControl (out ports.Made) (numbers setup.peers) (announced setup.local said.peer asn routes)

-- ---- what each answer says

-- Made took all that is written; the text was read to its end and is within its limit
pub record AnnounceEnds (said : Announce) (setup : Parts) (asn : ℕ) (held : Files) (then now : Port → Shown) : Type 0 where
  pub out : Outputs
  pub writes : AnnounceWrites said setup asn held out
  pub within : length writes.text ≤ 16777216
  pub read_whole : (now ports.Routes).left ≡ []
  pub took : TookAll (announce_ports said) then now out

-- this line is the first that is refused, and nothing was written
pub record AnnounceRefused (said : Announce) (held : Files) (line : ℕ) (then now : Port → Shown) : Type 0 where
  pub text : List ℕ
  pub there : held said.routes ≡ Some text
  pub within : length text ≤ 16777216
  pub refused : IsRefused text line
  pub nothing : TookAll (announce_ports said) then now none_put

-- the text has more bytes than the limit, and nothing was written
pub record AnnounceLong (said : Announce) (held : Files) (then now : Port → Shown) : Type 0 where
  pub text : List ℕ
  pub there : held said.routes ≡ Some text
  pub past : 16777216 < length text
  pub nothing : TookAll (announce_ports said) then now none_put

-- Made took a front of what is written, or nothing
abbrev pub AnnounceFronts : Announce → Parts → ℕ → Files → (Port → Shown) → (Port → Shown) → Type 0
AnnounceFronts said setup asn held then now = TookFrontsOfOne (AnnounceWrites said setup asn held) (announce_ports said) then now

-- where the setup has the peer
abbrev pub AnnouncesAs : Announce → Parts → ℕ → Bool → Files → (Port → Shown) → (Port → Shown) → Status → Type 0
AnnouncesAs said setup asn tells held then now status.Ok = OpensAll (announce_ports said) tells then now × (tells ≡ true → AnnounceEnds said setup asn held then now)
AnnouncesAs said setup asn tells held then now (status.Records line) = OpensAll (announce_ports said) tells then now × (tells ≡ true → AnnounceRefused said held line then now)
AnnouncesAs said setup asn tells held then now (status.Long port) =
    (port ≡ ports.Routes) × OpensAll (announce_ports said) tells then now × (tells ≡ true → AnnounceLong said held then now)
AnnouncesAs said setup asn tells held then now (status.File port) = tells ≡ true → AnnounceFronts said setup asn held then now
AnnouncesAs said setup asn tells held then now status.Memory = tells ≡ true → AnnounceFronts said setup asn held then now
AnnouncesAs said setup asn tells held then now _ = ⊥

-- where it has not, no port but Setup was touched
pub record TellsNoPeer (said : Announce) (setup : Parts) (then now : Port → Shown) (answer : Status) : Type 0 where
  pub told : answer ≡ status.Setup 0 reasons.NoPeer
  pub none : HasNoPeer setup said.peer
  pub only : OnlyPlaced (setup_place said.setup ∷ []) then now

-- what is done with the setup
abbrev pub AnnouncesOn : Announce → Parts → Bool → Files → (Port → Shown) → (Port → Shown) → Status → Type 0
AnnouncesOn said setup tells held then now answer =
    TellsNoPeer said setup then now answer ⊎ ((asn : ℕ) × IsPeerOf setup said.peer asn × AnnouncesAs said setup asn tells held then now answer)

-- what each answer says, where the words are those of `announce`
abbrev pub AnnounceRuns : Announce → Bool → Files → (Port → Shown) → (Port → Shown) → Status → Type 0
AnnounceRuns said tells held then now answer = RunsOnSetup said.setup (λ setup. AnnouncesOn said setup tells held then now answer) tells held then now answer

-- ---- what the files ask for

-- what a text within its limit asks for
abbrev pub RoutesAsk : List ℕ → Status → Type 0
RoutesAsk text answer =
    ((routes : List Route) × IsRoutes text routes × (answer ≡ status.Ok)) ⊎ ((line : ℕ) × IsRefused text line × (answer ≡ status.Records line))

-- what a setup asks for: without the peer, no other file is looked at
abbrev pub PeerAsks : Announce → Files → Parts → Status → Type 0
PeerAsks said held setup answer =
    (HasNoPeer setup said.peer × (answer ≡ status.Setup 0 reasons.NoPeer))
    ⊎ ((asn : ℕ) × IsPeerOf setup said.peer asn × Asks ports.Routes 16777216 RoutesAsk (held said.routes) answer)

abbrev pub AnnounceWants : Announce → Files → Status → Type 0
AnnounceWants said held answer = SetupAsks (PeerAsks said held) (held said.setup) answer

-- what a call with these words says, whether they are those of `announce` or not
abbrev pub AnnounceCall : List (List ℕ) → Bool → Files → (Port → Shown) → (Port → Shown) → Status → Type 0
AnnounceCall = CommandCall IsAnnounce announce_ports AnnounceRuns AnnounceWants
