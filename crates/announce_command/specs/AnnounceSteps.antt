-- What the words of `announce` say, as the program keeps them, and what is done on the bound routes and the bound file.
use Rattle.std.specs.Prelude.{◌≡◌, ◌≢◌, ◌⊎◌, ℕ, ◌<◌, ◌≤◌, Bool, true, List, [], length, Result, Ok, Err}
use Rattle.sfc_desk.specs.declared.ports.Port.{Port}
use Rattle.sfc_desk.specs.declared.ports.Port.TheVariants as ports
use Rattle.sfc_desk.specs.Desks.{Shown, Rose}
use Rattle.bgp_session.specs.declared.local_sides.Local.{Local}
use Rattle.control_files.specs.Segments.{segments_bytes}
use Rattle.sfc_routes.specs.declared.routes.Route.{Route}
use Rattle.route_texts.specs.RouteTexts.{IsRoutes, IsRefused}
use Rattle.commands.specs.declared.statuses.Status.{Status}
use Rattle.commands.specs.declared.statuses.Status.TheVariants as status
use Rattle.commands.specs.Fronts.{IsFront}
use Rattle.commands.specs.Pieces.{SameCounts}
use Rattle.announced_files.specs.Announced.{announced}
use Rattle.announce_command.specs.declared.announce_words.AnnounceWords.{AnnounceWords}
use Rattle.announce_command.specs.AnnounceCommand.{Announce}

abbrev pub announce_of : AnnounceWords → Announce
announce_of said = record { setup = said.setup.now; peer = said.peer; routes = said.routes.now; made = said.made.now }

-- ---- the routes

-- what the bound routes have still to give
abbrev pub text_of : (Port → Shown) → List ℕ
text_of then = (then ports.Routes).left

-- they are within the limit and spell the routes
pub record Spells (text : List ℕ) (routes : List Route) : Type 0 where
  pub within : length text ≤ 16777216
  pub spelled : IsRoutes text routes

-- they are within the limit and are refused at the line
pub record Refuses (text : List ℕ) (line : ℕ) : Type 0 where
  pub within : length text ≤ 16777216
  pub refused : IsRefused text line

-- what parsing a text answers
abbrev pub TextRead : List ℕ → Result (List Route) Status → Type 0
TextRead text (Ok routes) = IsRoutes text routes
TextRead text (Err (status.Records line)) = IsRefused text line
TextRead text (Err status.Memory) = Unit {0}
TextRead text (Err _) = ⊥

-- why there are no routes
abbrev pub NoRoutes : Bool → (Port → Shown) → (Port → Shown) → Status → Type 0
NoRoutes tells then now (status.File port) = (port ≡ ports.Routes) × Rose (then port) (now port)
NoRoutes tells then now (status.Long port) = (port ≡ ports.Routes) × (tells ≡ true → 16777216 < length (text_of then))
NoRoutes tells then now (status.Records line) = tells ≡ true → Refuses (text_of then) line
NoRoutes tells then now status.Memory = Unit {0}
NoRoutes tells then now _ = ⊥

-- the bound routes gave no text or no routes
pub record ReadStops (tells : Bool) (then now : Port → Shown) (answer : Status) : Type 0 where
  pub cause : NoRoutes tells then now answer
  pub counts : (port : Port) → answer ≢ status.File port → (now port).faults ≡ (then port).faults

-- ---- the file

-- the file of these routes, of which a front was written
pub record WroteFront (local : Local) (peer asn : ℕ) (text written : List ℕ) : Type 0 where
  pub routes : List Route
  pub spelled : IsRoutes text routes
  pub front : IsFront written (segments_bytes (announced local peer asn routes))

abbrev pub WroteSome : Local → ℕ → ℕ → List ℕ → List ℕ → Type 0
WroteSome local peer asn text written = (written ≡ []) ⊎ WroteFront local peer asn text written

-- what is written for the text
pub record Wrote (local : Local) (peer asn : ℕ) (text written : List ℕ) : Type 0 where
  pub routes : List Route
  pub spells : Spells text routes
  pub whole : written ≡ segments_bytes (announced local peer asn routes)

-- what each answer says of the bound routes and the bound file, which was empty
abbrev pub AnnounceWorks : Local → ℕ → ℕ → Bool → (Port → Shown) → (Port → Shown) → Status → Type 0
AnnounceWorks local peer asn tells then now status.Ok = tells ≡ true → (text_of now ≡ []) × Wrote local peer asn (text_of then) (now ports.Made).written
AnnounceWorks local peer asn tells then now (status.Records line) = tells ≡ true → Refuses (text_of then) line × ((now ports.Made).written ≡ [])
AnnounceWorks local peer asn tells then now (status.Long port) =
    (port ≡ ports.Routes) × (tells ≡ true → (16777216 < length (text_of then)) × ((now ports.Made).written ≡ []))
AnnounceWorks local peer asn tells then now (status.File port) =
    (((port ≡ ports.Routes) ⊎ (port ≡ ports.Made)) × Rose (then port) (now port)) × (tells ≡ true → WroteSome local peer asn (text_of then) (now ports.Made).written)
AnnounceWorks local peer asn tells then now status.Memory = tells ≡ true → WroteSome local peer asn (text_of then) (now ports.Made).written
AnnounceWorks local peer asn tells then now _ = ⊥

-- what writing the file of these routes answers
abbrev pub MadeWorks : Local → ℕ → ℕ → List Route → Bool → (Port → Shown) → (Port → Shown) → Status → Type 0
MadeWorks local peer asn routes tells then now status.Ok = SameCounts then now × (tells ≡ true → (now ports.Made).written ≡ segments_bytes (announced local peer asn routes))
MadeWorks local peer asn routes tells then now (status.File port) =
    (port ≡ ports.Made) × Rose (then port) (now port) × (tells ≡ true → IsFront (now ports.Made).written (segments_bytes (announced local peer asn routes)))
MadeWorks local peer asn routes tells then now status.Memory = SameCounts then now × (tells ≡ true → (now ports.Made).written ≡ [])
MadeWorks local peer asn routes tells then now _ = ⊥
