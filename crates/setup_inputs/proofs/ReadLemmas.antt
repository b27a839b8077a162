-- From what reading the bound Setup does to what the call says of it.
use Rattle.std.proofs.Common.{◌≡◌, ◌≢◌, inl, ℕ, ◌≤◌, Bool, true, List, [], ◌∷◌, length, Some, Result, Ok, Err, IfOk, IfErr, refl, sym, ◌∙◌, subst}
use Rattle.sfc_desk.specs.declared.ports.Port.{Port}
use Rattle.sfc_desk.specs.declared.ports.Port.TheVariants as ports
use Rattle.sfc_desk.specs.Desks.{Shown, Files, Moves, Rose}
use Rattle.sfc_config.specs.Parts.{Parts}
use Rattle.sfc_config.specs.Texts.{IsSetup, IsRefused}
use Rattle.commands.specs.declared.statuses.Status.{Status}
use Rattle.commands.specs.declared.statuses.Status.TheVariants as status
use Rattle.commands.specs.Commands.{Behaves}
use Rattle.commands.specs.Openings.{Opened}
use Rattle.commands.specs.Pieces.{SameCounts}
use Rattle.commands.specs.Places.{Place, IsRow, IsOpened, OnlyPlaced}
use Rattle.commands.proofs.PlaceLemmas.{behaves_so, opens_stays}
use Rattle.setup_inputs.specs.Setups.{setup_place, HoldsSetup, HasNoSetup, StopsAtSetup}
use Rattle.setup_inputs.proofs.MoveLemmas.{none_bound}
use Rattle.setup_inputs.specs.Steps.{NoSetup, ReadStops, Spells, TextRead, text_of}

only_setup : (name : List ℕ) (tells : Bool) (had has : Files) (mid now : Port → Shown) → Moves tells ports.Setup had has mid now → OnlyPlaced (setup_place name ∷ []) mid now
only_setup name tells had has mid now moves = λ port outside. moves.elsewhere port (λ is. outside name (inl (is, refl)))

only_from : (name : List ℕ) (tells : Bool) (had has : Files) (then mid now : Port → Shown) → Opened (setup_place name ∷ []) tells then mid → Moves tells ports.Setup had has mid now → OnlyPlaced (setup_place name ∷ []) then now
only_from name tells had has then mid now was moves = λ port outside. only_setup name tells had has mid now moves port outside ∙ was.only port outside

-- Setup stays the one port that was bound
pub opened_from : (name : List ℕ) (tells : Bool) (had has : Files) (then mid now : Port → Shown) → Opened (setup_place name ∷ []) tells then mid → Moves tells ports.Setup had has mid now → SameCounts mid now → Opened (setup_place name ∷ []) tells then now
opened_from name tells had has then mid now was moves quiet = record {
  all = opens_stays (setup_place name ∷ []) tells then mid now (none_bound tells ports.Setup had has mid now moves) was.all;
  nothing = λ told. ((λ out. cc), tt);
  only = only_from name tells had has then mid now was moves;
  counts = λ port. quiet port ∙ was.counts port;
}

pub holds_from : (name : List ℕ) (held : Files) (mid : Port → Shown) (setup : Parts) → held name ≡ Some (text_of mid) → Spells (text_of mid) setup → HoldsSetup name held setup
holds_from name held mid setup there spells = record { text = text_of mid; there = there; within = spells.within; spelled = spells.spelled }

cause_from : (name : List ℕ) (tells : Bool) (held : Files) (then mid now : Port → Shown) (answer : Status) → IsOpened tells name (then ports.Setup) (now ports.Setup) → (tells ≡ true → held name ≡ Some (text_of mid)) → NoSetup tells mid now answer → HasNoSetup name tells held then now answer
cause_from name tells held then mid now (status.File port) opened there none = none.0
cause_from name tells held then mid now (status.Long port) opened there none =
    (none.0, opened, λ told. record { text = text_of mid; there = there told; past = none.1 told })
cause_from name tells held then mid now (status.Setup line reason) opened there none =
    (opened, λ told. let bad = none told in record { text = text_of mid; there = there told; within = bad.within; refused = bad.refused })
cause_from name tells held then mid now status.Memory opened there none = tt
cause_from name tells held then mid now status.Ok opened there none = none
cause_from name tells held then mid now status.Words opened there none = none
cause_from name tells held then mid now (status.Capture place reason) opened there none = none
cause_from name tells held then mid now (status.Control place reason) opened there none = none
cause_from name tells held then mid now (status.Records number) opened there none = none
cause_from name tells held then mid now (status.Pcapng place reason) opened there none = none

-- Setup was bound, and there is no setup
pub stops_from : (name : List ℕ) (tells : Bool) (held had has : Files) (then mid now : Port → Shown) (answer : Status) → Opened (setup_place name ∷ []) tells then mid → (tells ≡ true → held name ≡ Some (text_of mid)) → Moves tells ports.Setup had has mid now → ReadStops tells mid now answer → StopsAtSetup name tells held then now answer
stops_from name tells held had has then mid now answer was there moves stops = record {
  cause = cause_from name tells held then mid now answer (opens_stays (setup_place name ∷ []) tells then mid now (none_bound tells ports.Setup had has mid now moves) was.all).0 there stops.cause;
  only = only_from name tells had has then mid now was moves;
}

-- where reading fails with File, Setup's count rose
rose_at_setup : (tells : Bool) (mid now : Port → Shown) (answer : Status) (port : Port) → NoSetup tells mid now answer → answer ≡ status.File port → (port ≡ ports.Setup) × Rose (mid port) (now port)
rose_at_setup tells mid now (status.File own) port none is =
    let same : own ≡ port = cc in
    subst (λ (p : Port). (p ≡ ports.Setup) × Rose (mid p) (now p)) same none
rose_at_setup tells mid now status.Ok port none is = cc
rose_at_setup tells mid now status.Words port none is = cc
rose_at_setup tells mid now (status.Setup line reason) port none is = cc
rose_at_setup tells mid now (status.Capture place reason) port none is = cc
rose_at_setup tells mid now (status.Control place reason) port none is = cc
rose_at_setup tells mid now status.Memory port none is = cc
rose_at_setup tells mid now (status.Records number) port none is = cc
rose_at_setup tells mid now (status.Long own) port none is = cc
rose_at_setup tells mid now (status.Pcapng place reason) port none is = cc

pub behaves_from : (name : List ℕ) (later : List Place) (tells : Bool) (held had has : Files) (then mid now : Port → Shown) (answer : Status) → IsRow (setup_place name ∷ later) → Opened (setup_place name ∷ []) tells then mid → Moves tells ports.Setup had has mid now → ReadStops tells mid now answer → Behaves (setup_place name ∷ later) tells held then now answer
behaves_from name later tells held had has then mid now answer row was moves stops =
    behaves_so (setup_place name ∷ []) later tells held then mid now answer row was (none_bound tells ports.Setup had has mid now moves) (only_setup name tells had has mid now moves)
    (λ port is. let rose = rose_at_setup tells mid now answer port stops.cause is in (name, inl (rose.0, refl), rose.1))
    stops.counts

-- Setup was not bound
pub unbound_stops : (name : List ℕ) (tells : Bool) (held : Files) (then now : Port → Shown) → ((port : Port) → port ≢ ports.Setup → now port ≡ then port) → StopsAtSetup name tells held then now (status.File ports.Setup)
unbound_stops name tells held then now elsewhere = record {
  cause = refl;
  only = λ port outside. elsewhere port (λ is. outside name (inl (is, refl)));
}

-- ---- from the text to its setup

pub spelled_of : (left text : List ℕ) (r : Result Parts Status) → left ≡ text → length text ≤ 1048576 → TextRead text r → IfOk r (Spells left)
spelled_of left text (Ok setup) is within read = record {
  within = subst (λ (t : List ℕ). length t ≤ 1048576) (sym is) within;
  spelled = subst (λ (t : List ℕ). IsSetup t setup) (sym is) read;
}
spelled_of left text (Err answer) is within read = tt

pub stops_of : (tells : Bool) (then now : Port → Shown) (text : List ℕ) (r : Result Parts Status) → (tells ≡ true → text_of then ≡ text) → length text ≤ 1048576 → SameCounts then now → TextRead text r → IfErr r (ReadStops tells then now)
stops_of tells then now text (Ok setup) is within quiet read = tt
stops_of tells then now text (Err (status.Setup line reason)) is within quiet read = record {
  cause = λ told. record {
    within = subst (λ (t : List ℕ). length t ≤ 1048576) (sym (is told)) within;
    refused = subst (λ (t : List ℕ). IsRefused t line reason) (sym (is told)) read;
  };
  counts = λ port differs. quiet port;
}
stops_of tells then now text (Err status.Memory) is within quiet read = record { cause = tt; counts = λ port differs. quiet port }
stops_of tells then now text (Err status.Ok) is within quiet read = absurd read
stops_of tells then now text (Err status.Words) is within quiet read = absurd read
stops_of tells then now text (Err (status.File port)) is within quiet read = absurd read
stops_of tells then now text (Err (status.Capture place reason)) is within quiet read = absurd read
stops_of tells then now text (Err (status.Control place reason)) is within quiet read = absurd read
stops_of tells then now text (Err (status.Records number)) is within quiet read = absurd read
stops_of tells then now text (Err (status.Long port)) is within quiet read = absurd read
stops_of tells then now text (Err (status.Pcapng place reason)) is within quiet read = absurd read
