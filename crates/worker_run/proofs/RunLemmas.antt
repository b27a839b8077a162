-- What rounds say one behind the other is one run, and a run is what its rounds say.
use Rattle.std.proofs.Common.{◌≡◌, ℕ, zero, suc, ◌+◌, ◌≤◌, List, [], ◌∷◌, ◌++◌, append-nil, length, map, take, drop, Contains, refl, sym, ap, subst, ◌∙◌, arith, append_assoc, length-append}
use Rattle.std.specs.List.{AllByRecursion, AllZip}
use Rattle.std.proofs.lemmas.List.{length-map, take_all, take-append-le, take-append-drop}
use Rattle.std.proofs.lemmas.List.Elements.{All-from_recursion, recursion_from_All}
use Rattle.control_files.specs.declared.segments.Segment.{Segment}
use Rattle.control_files.specs.Segments.{numbers}
use Rattle.pcap_io.specs.declared.frames.Captured.{Captured}
use Rattle.record_text.specs.declared.records.Record.{Record}
use Rattle.rounds.specs.Rounds.{Round, Rounds, is_empty, round_segments, segments_of}
use Rattle.rounds.specs.Places.{Place, places_of, round_places}
use Rattle.rounds.specs.Says.{Says, Lines}
use Rattle.rounds.proofs.LastLemmas.{front_taken}
use Rattle.session_machine.specs.Groups.{Entry}
use Rattle.sfc_config.specs.Parts.{Parts}
use Rattle.sfc_routes.specs.Entries.{Entries}
use Rattle.sfc_routes.specs.declared.route_changes.RouteChange.{RouteChange}
use Rattle.sfc_routes.proofs.MemberLemmas.{all_join, all_front}
use Rattle.path_selection.specs.Paths.{ServicePath}
use Rattle.control_histories.specs.Happenings.{Logs, said_by, told_by}
use Rattle.control_histories.specs.Logs.{AreOfPeers, Heard, changes_of}
use Rattle.control_histories.specs.Versions.{IsVersion, TableAfter}
use Rattle.control_histories.proofs.FrontLemmas.{front_heard}
use Rattle.worker_run.specs.Records.{TellsWalk}
use Rattle.worker_run.specs.Runs.{ClimbsWithin, MayComeBehind, RecordAt, RunRecord, WorkersClimb, made}
use Rattle.worker_run.proofs.OneSaying.{OneLog}
use Rattle.worker_run.proofs.RoundLemmas.{changes_behind}

-- ---- lists place by place

-- a list beside two that are joined, in two parts
pub record Parted {A B : Type 0} (R : A → B → Type 0) (xs ys : List A) (zs : List B) : Type 0 where
  pub first : List B
  pub last : List B
  pub joined : zs ≡ first ++ last
  pub front : AllZip R xs first
  pub back : AllZip R ys last

pub part : {A B : Type 0} (R : A → B → Type 0) (xs ys : List A) (zs : List B) → AllZip R (xs ++ ys) zs → Parted R xs ys zs
part R [] ys zs all = record { first = []; last = zs; joined = refl; front = tt; back = all }
part R (x ∷ xs) ys [] all = absurd all
part R (x ∷ xs) ys (z ∷ zs) all =
    let rest = part R xs ys zs all.1 in
    record { first = z ∷ rest.first; last = rest.last; joined = ap (λ l. z ∷ l) rest.joined; front = (all.0, rest.front); back = rest.back }

pub zip_join : {A B : Type 0} (R : A → B → Type 0) (xs ys : List A) (zs ws : List B) → AllZip R xs zs → AllZip R ys ws → AllZip R (xs ++ ys) (zs ++ ws)
zip_join R [] ys [] ws front back = back
zip_join R [] ys (z ∷ zs) ws front back = absurd front
zip_join R (x ∷ xs) ys [] ws front back = absurd front
zip_join R (x ∷ xs) ys (z ∷ zs) ws front back = (front.0, zip_join R xs ys zs ws front.1 back)

none_beside : {A B : Type 0} (R : A → B → Type 0) (zs : List B) → AllZip R [] zs → zs ≡ []
none_beside R [] all = refl
none_beside R (z ∷ zs) all = absurd all

pub zip_map : {A B : Type 0} (R S : A → B → Type 0) → ((x : A) (y : B) → R x y → S x y) → (xs : List A) (ys : List B) → AllZip R xs ys → AllZip S xs ys
zip_map R S f [] [] all = tt
zip_map R S f [] (y ∷ ys) all = absurd all
zip_map R S f (x ∷ xs) [] all = absurd all
zip_map R S f (x ∷ xs) (y ∷ ys) all = (f x y all.0, zip_map R S f xs ys all.1)

pub zip_both : {A B : Type 0} (R S : A → B → Type 0) (xs : List A) (ys : List B) → AllZip R xs ys → AllZip S xs ys → AllZip (λ x y. R x y × S x y) xs ys
zip_both R S [] [] a b = tt
zip_both R S [] (y ∷ ys) a b = absurd a
zip_both R S (x ∷ xs) [] a b = absurd a
zip_both R S (x ∷ xs) (y ∷ ys) a b = ((a.0, b.0), zip_both R S xs ys a.1 b.1)

-- ---- versions

version_more : (roster : Entries) (changes more : List RouteChange) (v : ℕ) (t : List ServicePath) → IsVersion roster changes v t → IsVersion roster (changes ++ more) v t
version_more roster changes more v t x = record {
  made = let m = x.made in omega (arith, m, length-append changes more);
  table_is = subst (λ (cs : List RouteChange). TableAfter roster cs t) (sym (take-append-le v changes more x.made)) x.table_is;
}

version_fewer : (roster : Entries) (changes more : List RouteChange) (v : ℕ) (t : List ServicePath) → v ≤ length changes → IsVersion roster (changes ++ more) v t → IsVersion roster changes v t
version_fewer roster changes more v t few x = record {
  made = few;
  table_is = subst (λ (cs : List RouteChange). TableAfter roster cs t) (take-append-le v changes more few) x.table_is;
}

over_fewer : (roster : Entries) (changes more : List RouteChange) (low high : ℕ) (vs : List ℕ) (ts : List (List ServicePath)) → high ≤ length changes → ClimbsWithin low high vs
    → AllZip (λ v t. IsVersion roster (changes ++ more) v t) vs ts → AllZip (λ v t. IsVersion roster changes v t) vs ts
over_fewer roster changes more low high [] [] few climbs all = tt
over_fewer roster changes more low high [] (t ∷ ts) few climbs all = absurd all
over_fewer roster changes more low high (v ∷ vs) [] few climbs all = absurd all
over_fewer roster changes more low high (v ∷ vs) (t ∷ ts) few climbs all =
    let below = climbs.1 in
    (version_fewer roster changes more v t (omega (arith, below, few)) all.0, over_fewer roster changes more v high vs ts few climbs.2 all.1)

pub told_more : (setup : Parts) (changes more : List RouteChange) (frame : Captured) (r : Record) → TellsWalk setup changes frame r → TellsWalk setup (changes ++ more) frame r
told_more setup changes more frame r x = record {
  walk = x.walk;
  walks = x.walks;
  over = zip_map (λ v t. IsVersion setup.roster changes v t) (λ v t. IsVersion setup.roster (changes ++ more) v t) (version_more setup.roster changes more) r.versions.items x.walk.tables x.over;
  tells = x.tells;
}

pub told_fewer : (setup : Parts) (changes more : List RouteChange) (low high : ℕ) (frame : Captured) (r : Record) → high ≤ length changes → ClimbsWithin low high r.versions.items
    → TellsWalk setup (changes ++ more) frame r → TellsWalk setup changes frame r
told_fewer setup changes more low high frame r few climbs x = record {
  walk = x.walk;
  walks = x.walks;
  over = over_fewer setup.roster changes more low high r.versions.items x.walk.tables few climbs x.over;
  tells = x.tells;
}

-- ---- logs

pub log_long : (segments : List Segment) (log : List Entry) → Logs segments log → length log ≡ length segments
log_long segments log logs = sym (length-map log told_by) ∙ ap length logs ∙ length-map segments said_by

pub made_front : (first last : List Entry) (n : ℕ) → n ≤ length first → made (first ++ last) n ≡ made first n
made_front first last n few = ap (λ (l : List Entry). length (changes_of l)) (take-append-le n first last few)

pub made_all : (log : List Entry) (n : ℕ) → length log ≤ n → made log n ≡ length (changes_of log)
made_all log n whole = ap (λ (l : List Entry). length (changes_of l)) (take_all n log whole)

pub made_rises : (log : List Entry) (a b : ℕ) → a ≤ b → made log a ≤ made log b
made_rises [] zero b le = omega arith
made_rises [] (suc a) zero le = absurd (omega (arith, le))
made_rises [] (suc a) (suc b) le = omega arith
made_rises (e ∷ es) zero b le = omega arith
made_rises (e ∷ es) (suc a) zero le = absurd (omega (arith, le))
made_rises (e ∷ es) (suc a) (suc b) le =
    let rest = made_rises es a b (omega (arith, le)) in
    omega (arith, rest, length-append e.effects.changes (changes_of (take a es)), length-append e.effects.changes (changes_of (take b es)))

-- ---- versions of records that stand one behind the other

abbrev NoneAbove : ℕ → Record → Type 0
NoneAbove high r = AllByRecursion (λ v. v ≤ high) r.versions.items

abbrev NoneBelow : ℕ → Record → Type 0
NoneBelow low r = AllByRecursion (λ v. low ≤ v) r.versions.items

none_above : (low high : ℕ) (vs : List ℕ) → ClimbsWithin low high vs → AllByRecursion (λ v. v ≤ high) vs
none_above low high [] climbs = tt
none_above low high (v ∷ vs) climbs = (climbs.1, none_above v high vs climbs.2)

none_below : (bound low high : ℕ) (vs : List ℕ) → bound ≤ low → ClimbsWithin low high vs → AllByRecursion (λ v. bound ≤ v) vs
none_below bound low high [] le climbs = tt
none_below bound low high (v ∷ vs) le climbs = let here = climbs.0 in (omega (arith, le, here), none_below bound v high vs (omega (arith, le, here)) climbs.2)

pub all_so : {X : Type 0} (P Q : X → Type 0) → ((x : X) → P x → Q x) → (xs : List X) → AllByRecursion P xs → AllByRecursion Q xs
all_so P Q f [] all = tt
all_so P Q f (x ∷ xs) all = (f x all.0, all_so P Q f xs all.1)

between : (bound : ℕ) (r q : Record) → NoneAbove bound r → NoneBelow bound q → MayComeBehind r q
between bound r q above below = λ same.
    all_so (λ seen. seen ≤ bound) (λ seen. AllByRecursion (λ v. seen ≤ v) q.versions.items)
    (λ seen le. all_so (λ v. bound ≤ v) (λ v. seen ≤ v) (λ v ge. omega (arith, le, ge)) q.versions.items below) r.versions.items above

pub climb_join : (bound : ℕ) (xs ys : List Record) → WorkersClimb xs → WorkersClimb ys → AllByRecursion (NoneAbove bound) xs → AllByRecursion (NoneBelow bound) ys → WorkersClimb (xs ++ ys)
climb_join bound [] ys front back above below = back
climb_join bound (x ∷ xs) ys front back above below = (
  all_join (MayComeBehind x) xs ys front.0 (all_so (NoneBelow bound) (MayComeBehind x) (λ q b. between bound x q above.0 b) ys below),
  climb_join bound xs ys front.1 back above.1 below,
)

climb_front : (xs ys : List Record) → WorkersClimb (xs ++ ys) → WorkersClimb xs
climb_front [] ys climb = tt
climb_front (x ∷ xs) ys climb = (all_front (MayComeBehind x) xs ys climb.0, climb_front xs ys climb.1)

climb_back : (xs ys : List Record) → WorkersClimb (xs ++ ys) → WorkersClimb ys
climb_back [] ys climb = climb
climb_back (x ∷ xs) ys climb = climb_back xs ys climb.1

-- ---- what rounds say, with a further word on each record and the newest version of its round

pub record SaysWith (More : ℕ → Record → Type 0) (setup : Parts) (workers : ℕ) (history segments : List Segment) (frames : List Captured) (records : List Record) : Type 0 where
  pub log : List Entry
  pub heard : Heard setup.local setup.peers (history ++ segments) log
  pub each : AllZip (λ f r. RunRecord setup (changes_of log) (made log (length history)) (length (changes_of log)) workers f r × More (length (changes_of log)) r) frames records
  pub climb : WorkersClimb records

abbrev pub with_says : (ℕ → Record → Type 0) → Parts → ℕ → Says Record
with_says More setup workers history round records = SaysWith More setup workers history round.segments round.frames records

abbrev pub RecordWith : (ℕ → Record → Type 0) → Parts → List Entry → ℕ → Place → Record → Type 0
RecordWith More setup log workers place r = RecordAt setup log workers place r × More (made log place.high) r

-- the records of the rounds behind a history
pub record RunsWith (More : ℕ → Record → Type 0) (setup : Parts) (workers : ℕ) (history : List Segment) (rounds : List Round) (records : List Record) : Type 0 where
  pub log : List Entry
  pub heard : Heard setup.local setup.peers (history ++ segments_of rounds) log
  pub each : AllZip (RecordWith More setup log workers) (places_of (length history) rounds) records
  pub climb : WorkersClimb records

-- the records of a round, at the places of its frames
placed : (More : ℕ → Record → Type 0) (setup : Parts) (workers before size : ℕ) (first last log : List Entry) → log ≡ first ++ last → length first ≡ before + size → (frames : List Captured) (records : List Record)
    → AllZip (λ f r. RunRecord setup (changes_of first) (made first before) (length (changes_of first)) workers f r × More (length (changes_of first)) r) frames records
    → AllZip (RecordWith More setup log workers) (map (λ (f : Captured). record { frame = f; low = before; high = before + size }) frames) records
placed More setup workers before size first last log joined many [] [] all = tt
placed More setup workers before size first last log joined many [] (r ∷ rs) all = absurd all
placed More setup workers before size first last log joined many (f ∷ fs) [] all = absurd all
placed More setup workers before size first last log joined many (f ∷ fs) (r ∷ rs) all =
    let low : made log before ≡ made first before = ap (λ (l : List Entry). made l before) joined ∙ made_front first last before (omega (arith, many)) in
    let high : made log (before + size) ≡ length (changes_of first) =
    ap (λ (l : List Entry). made l (before + size)) joined ∙ made_front first last (before + size) (omega (arith, many)) ∙ made_all first (before + size) (omega (arith, many)) in
    let changes : changes_of log ≡ changes_of first ++ changes_of last = ap changes_of joined ∙ changes_behind first last in
    let run = all.0.0 in (
      (
        record {
          told = subst (λ (cs : List RouteChange). TellsWalk setup cs f r) (sym changes) (told_more setup (changes_of first) (changes_of last) f r run.told);
          climbs = subst (λ n. ClimbsWithin n (made log (before + size)) r.versions.items) (sym low) (subst (λ n. ClimbsWithin (made first before) n r.versions.items) (sym high) run.climbs);
          worker_below = run.worker_below;
        },
        subst (λ n. More n r) (sym high) all.0.1,
      ),
      placed More setup workers before size first last log joined many fs rs all.1,
    )

-- and back
unplaced : (More : ℕ → Record → Type 0) (setup : Parts) (workers before size : ℕ) (first last log : List Entry) → log ≡ first ++ last → length first ≡ before + size → (frames : List Captured) (records : List Record)
    → AllZip (RecordWith More setup log workers) (map (λ (f : Captured). record { frame = f; low = before; high = before + size }) frames) records
    → AllZip (λ f r. RunRecord setup (changes_of first) (made first before) (length (changes_of first)) workers f r × More (length (changes_of first)) r) frames records
unplaced More setup workers before size first last log joined many [] [] all = tt
unplaced More setup workers before size first last log joined many [] (r ∷ rs) all = absurd all
unplaced More setup workers before size first last log joined many (f ∷ fs) [] all = absurd all
unplaced More setup workers before size first last log joined many (f ∷ fs) (r ∷ rs) all =
    let low : made log before ≡ made first before = ap (λ (l : List Entry). made l before) joined ∙ made_front first last before (omega (arith, many)) in
    let high : made log (before + size) ≡ length (changes_of first) =
    ap (λ (l : List Entry). made l (before + size)) joined ∙ made_front first last (before + size) (omega (arith, many)) ∙ made_all first (before + size) (omega (arith, many)) in
    let changes : changes_of log ≡ changes_of first ++ changes_of last = ap changes_of joined ∙ changes_behind first last in
    let run = all.0.0 in
    let climbs : ClimbsWithin (made first before) (length (changes_of first)) r.versions.items =
    subst (λ n. ClimbsWithin n (length (changes_of first)) r.versions.items) low (subst (λ n. ClimbsWithin (made log before) n r.versions.items) high run.climbs) in (
      (
        record {
          told = told_fewer setup (changes_of first) (changes_of last) (made first before) (length (changes_of first)) f r (omega arith) climbs
              (subst (λ (cs : List RouteChange). TellsWalk setup cs f r) changes run.told);
          climbs = climbs;
          worker_below = run.worker_below;
        },
        subst (λ n. More n r) high all.0.1,
      ),
      unplaced More setup workers before size first last log joined many fs rs all.1,
    )

-- no version of a round's records is above what it made
upto : (More : ℕ → Record → Type 0) (setup : Parts) (workers before high : ℕ) (log : List Entry) (frames : List Captured) (records : List Record)
    → AllZip (RecordWith More setup log workers) (map (λ (f : Captured). record { frame = f; low = before; high = high }) frames) records → AllByRecursion (NoneAbove (made log high)) records
upto More setup workers before high log [] [] all = tt
upto More setup workers before high log [] (r ∷ rs) all = absurd all
upto More setup workers before high log (f ∷ fs) [] all = absurd all
upto More setup workers before high log (f ∷ fs) (r ∷ rs) all =
    (none_above (made log before) (made log high) r.versions.items all.0.0.climbs, upto More setup workers before high log fs rs all.1)

-- none is below what was made before it
at_least : (More : ℕ → Record → Type 0) (setup : Parts) (workers bound before high : ℕ) (log : List Entry) → bound ≤ made log before → (frames : List Captured) (records : List Record)
    → AllZip (RecordWith More setup log workers) (map (λ (f : Captured). record { frame = f; low = before; high = high }) frames) records → AllByRecursion (NoneBelow bound) records
at_least More setup workers bound before high log le [] [] all = tt
at_least More setup workers bound before high log le [] (r ∷ rs) all = absurd all
at_least More setup workers bound before high log le (f ∷ fs) [] all = absurd all
at_least More setup workers bound before high log le (f ∷ fs) (r ∷ rs) all =
    (none_below bound (made log before) (made log high) r.versions.items le all.0.0.climbs, at_least More setup workers bound before high log le fs rs all.1)

from_here : (More : ℕ → Record → Type 0) (setup : Parts) (workers bound before : ℕ) (log : List Entry) → bound ≤ made log before → (rounds : List Round) (records : List Record)
    → AllZip (RecordWith More setup log workers) (places_of before rounds) records → AllByRecursion (NoneBelow bound) records
from_here More setup workers bound before log le [] records all = subst (AllByRecursion (NoneBelow bound)) (sym (none_beside (RecordWith More setup log workers) records all)) tt
from_here More setup workers bound before log le (r ∷ rounds) records all =
    let size = length r.segments in
    let cut = part (RecordWith More setup log workers) (round_places before r) (places_of (before + size) rounds) records all in
    let rises = made_rises log before (before + size) (omega arith) in
    subst (AllByRecursion (NoneBelow bound)) (sym cut.joined)
    (all_join (NoneBelow bound) cut.first cut.last
    (at_least More setup workers bound before (before + size) log le r.frames cut.first cut.front)
    (from_here More setup workers bound (before + size) log (omega (arith, le, rises)) rounds cut.last cut.back))

-- ---- one run

pub peers_front : (peers : List (ℕ × ℕ)) (xs ys : List Segment) → AreOfPeers peers (xs ++ ys) → AreOfPeers peers xs
peers_front peers xs ys all =
    All-from_recursion (λ (s : Segment). Contains (numbers peers) s.peer) xs
    (all_front (λ (s : Segment). Contains (numbers peers) s.peer) xs ys (recursion_from_All (λ (s : Segment). Contains (numbers peers) s.peer) (xs ++ ys) all))

pub together : OneLog → (More : ℕ → Record → Type 0) (setup : Parts) (workers : ℕ) (history : List Segment) (log : List Entry) (rounds : List Round) (records : List Record)
    → AreOfPeers setup.peers (history ++ segments_of rounds) → Heard setup.local setup.peers history log → Lines (with_says More setup workers) history rounds records → RunsWith More setup workers history rounds records
together one More setup workers history log [] records of_peers heard lines = record {
  log = log;
  heard = subst (λ (ss : List Segment). Heard setup.local setup.peers ss log) (sym (append-nil history)) heard;
  each = subst (AllZip (RecordWith More setup log workers) []) (sym lines) tt;
  climb = subst WorkersClimb (sym lines) tt;
}
together one More setup workers history log (r ∷ rounds) records of_peers heard (here, rest, joined, said, more) =
    let front = history ++ r.segments in
    let over : front ++ segments_of rounds ≡ history ++ segments_of (r ∷ rounds) = append_assoc history r.segments (segments_of rounds) in
    let all_peers : AreOfPeers setup.peers (front ++ segments_of rounds) = subst (AreOfPeers setup.peers) (sym over) of_peers in
    let run = together one More setup workers front said.log rounds rest all_peers said.heard more in
    let cut = front_heard setup.local setup.peers front (segments_of rounds) run.log run.heard in
    let same : said.log ≡ cut.0 = one setup.local setup.peers front said.log cut.0 (peers_front setup.peers front (segments_of rounds) all_peers) said.heard cut.3 in
    let size = length r.segments in
    let before = length history in
    let many : length cut.0 ≡ before + size = log_long front cut.0 cut.3.in_order ∙ length-append history r.segments in
    let each : AllZip (λ f q. RunRecord setup (changes_of cut.0) (made cut.0 before) (length (changes_of cut.0)) workers f q × More (length (changes_of cut.0)) q) r.frames here =
    subst (λ (l : List Entry). AllZip (λ f q. RunRecord setup (changes_of l) (made l before) (length (changes_of l)) workers f q × More (length (changes_of l)) q) r.frames here) same said.each in
    let at_places : AllZip (RecordWith More setup run.log workers) (round_places before r) here = placed More setup workers before size cut.0 cut.1 run.log cut.2 many r.frames here each in
    let behind : AllZip (RecordWith More setup run.log workers) (places_of (before + size) rounds) rest =
    subst (λ n. AllZip (RecordWith More setup run.log workers) (places_of n rounds) rest) (length-append history r.segments) run.each in
    record {
      log = run.log;
      heard = subst (λ (ss : List Segment). Heard setup.local setup.peers ss run.log) over run.heard;
      each = subst (AllZip (RecordWith More setup run.log workers) (round_places before r ++ places_of (before + size) rounds)) (sym joined)
          (zip_join (RecordWith More setup run.log workers) (round_places before r) (places_of (before + size) rounds) here rest at_places behind);
      climb = subst WorkersClimb (sym joined) (climb_join (made run.log (before + size)) here rest said.climb run.climb
          (upto More setup workers before (before + size) run.log r.frames here at_places)
          (from_here More setup workers (made run.log (before + size)) (before + size) run.log (omega arith) rounds rest behind));
    }

-- ---- from a run to what its rounds say

pub apart : (More : ℕ → Record → Type 0) (setup : Parts) (workers : ℕ) (history : List Segment) (log : List Entry) (rounds : List Round) (records : List Record)
    → Heard setup.local setup.peers (history ++ segments_of rounds) log → AllZip (RecordWith More setup log workers) (places_of (length history) rounds) records → WorkersClimb records
    → Lines (with_says More setup workers) history rounds records
apart More setup workers history log [] records heard each climb = none_beside (RecordWith More setup log workers) records each
apart More setup workers history log (r ∷ rounds) records heard each climb =
    let front = history ++ r.segments in
    let over : front ++ segments_of rounds ≡ history ++ segments_of (r ∷ rounds) = append_assoc history r.segments (segments_of rounds) in
    let all : Heard setup.local setup.peers (front ++ segments_of rounds) log = subst (λ (ss : List Segment). Heard setup.local setup.peers ss log) (sym over) heard in
    let cut = front_heard setup.local setup.peers front (segments_of rounds) log all in
    let size = length r.segments in
    let before = length history in
    let many : length cut.0 ≡ before + size = log_long front cut.0 cut.3.in_order ∙ length-append history r.segments in
    let parts = part (RecordWith More setup log workers) (round_places before r) (places_of (before + size) rounds) records each in
    let climbs : WorkersClimb (parts.first ++ parts.last) = subst WorkersClimb parts.joined climb in
    let behind : AllZip (RecordWith More setup log workers) (places_of (length front) rounds) parts.last =
    subst (λ n. AllZip (RecordWith More setup log workers) (places_of n rounds) parts.last) (sym (length-append history r.segments)) parts.back in (
      parts.first,
      parts.last,
      parts.joined,
      record {
        log = cut.0;
        heard = cut.3;
        each = unplaced More setup workers before size cut.0 cut.1 log cut.2 many r.frames parts.first parts.front;
        climb = climb_front parts.first parts.last climbs;
      },
      apart More setup workers front log rounds parts.last all behind (climb_back parts.first parts.last climbs),
    )

-- rounds take all segments
pub all_taken : (place : ℕ) (fs : List Captured) (ss : List Segment) (rounds : List Round) → Rounds place fs ss rounds → ss ≡ segments_of rounds
unfolding round_segments
all_taken place fs ss [] are = are.1
all_taken place fs ss (r ∷ rounds) are =
    let group : r.segments ≡ take (length r.segments) ss =
    are.1 ∙ (sym (front_taken 256 (is_empty fs) place ss) ∙ ap (λ (x : List Segment). take (length x) ss) (sym are.1)) in
    sym (take-append-drop (length r.segments) ss)
    ∙ (ap (λ (x : List Segment). x ++ drop (length r.segments) ss) (sym group)
    ∙ ap (λ (x : List Segment). r.segments ++ x) (all_taken (place + length r.frames) (drop (length r.frames) fs) (drop (length r.segments) ss) rounds are.3))

-- what is said of each round may be put in other words
pub lines_so : (P Q : Says Record) → ((history : List Segment) (r : Round) (here : List Record) → P history r here → Q history r here) → (history : List Segment) (rounds : List Round) (records : List Record)
    → Lines P history rounds records → Lines Q history rounds records
lines_so P Q f history [] records lines = lines
lines_so P Q f history (r ∷ rounds) records (here, rest, joined, said, more) =
    (here, rest, joined, f history r here said, lines_so P Q f (history ++ r.segments) rounds rest more)
