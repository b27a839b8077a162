-- Parts of a round: seated, filled, unseated and finished.
use Rattle.std.proofs.Common.{◌≡◌, ℕ, ◌+◌, ◌≤◌, eq-eqb, List, [], ◌∷◌, ◌++◌, Option, Some, None, length, take, drop, refl, sym, ap, subst, ◌∙◌, arith, length-append, le_refl, inl, inr}
use Rattle.std.specs.Prelude.{Result, Ok, Err, IfOk}
use Rattle.std.specs.List.{AllByRecursion, AllZip}
use Rattle.std.proofs.lemmas.Bool.{cases_eq, ne_eqb}
use Rattle.std.proofs.Math.Seq.{drop-append_seam}
use Rattle.std.proofs.lemmas.List.{take-append-le, take_all}
use Rattle.std.proofs.lemmas.List.Elements.{All-from_recursion, recursion_from_All}
use Rattle.logbook.specs.Pages.{Book}
use Rattle.pcap_io.specs.Captures.{IsWithinLimits}
use Rattle.wire_base.specs.declared.faults.OutOfMemory.{OutOfMemory}
use Rattle.path_selection.specs.declared.changes.Change.{Change}
use Rattle.path_selection.specs.Paths.{ServicePath}
use Rattle.path_selection.specs.Published.{one_table, table_at}
use Rattle.path_selection.specs.Scripted.{numbered}
use Rattle.sfc_config.specs.Parts.{Parts}
use Rattle.sfc_routes.proofs.MemberLemmas.{all_back, all_front}
use Rattle.table_publish.specs.Publications.{Extends, Publications, after, changed_by, known_of, opened_on, table_of, tables_of, version_of}
use Rattle.table_publish.specs.Views.{SeatView}
use Rattle.table_publish.proofs.LookLemmas.{known_at}
use Rattle.table_publish.proofs.PublicationLemmas.{known_grows}
use Rattle.worker_run.specs.declared.parts.Part.{Part}
use Rattle.worker_run.specs.Batches.{AreWithinLimits, Carried}
use Rattle.worker_run.specs.Shares.{AreNumbered, AreWalked, AreWalkedTo, CanFinish, Exchanged, Filled, Forwarded, IsFresh, IsOfWindow, MayLook, SameShape, SameWindow, Seated, SeesFront, Unseated, Worked, newest_of, published_on, seen_of, slots_of}
use Rattle.worker_run.proofs.VersionLemmas.{named_here, named_later}
use Rattle.worker_run.proofs.WalkedLemmas.{AreAtMost, IsWithin, all_grown, joined, to_grown, within_grown}

pub if_ok : {A E : Type 0} (r : Result A E) (P Q : A → Type 0) → ((a : A) → P a → Q a) → IfOk r P → IfOk r Q
if_ok (Ok a) P Q f p = f a p
if_ok (Err e) P Q f p = tt

-- ---- what is known

module _ (table : List ServicePath) (version : ℕ) (lists : List (List Change)) where
  pub extends_opening : Extends (published_on table version lists) (opened_on table version)
  extends_opening = record { opening = refl; first = refl; lists = (lists, refl) }

  pub seen_within : (seat : Option SeatView) → SeesFront (published_on table version lists) seat → IsWithin (known_of (seen_of table version seat)) (known_of (published_on table version lists))
  seen_within None x = within_grown (known_of (opened_on table version)) (known_of (published_on table version lists)) (known_grows (published_on table version lists) (opened_on table version) extends_opening)
  seen_within (Some seat) x = within_grown (known_of seat.seen) (known_of (published_on table version lists)) (known_grows (published_on table version lists) seat.seen x)

  pub newest_fresh : (window : Book) (seat : Option SeatView) → IsFresh window (opened_on table version) seat → newest_of version seat ≡ version
  newest_fresh window None x = refl
  newest_fresh window (Some seat) x = let none : version + 0 ≡ version = omega arith in ap (λ (s : SeatView). version_of s.newest) x ∙ none

numbered_most : (n v : ℕ) (table t : List ServicePath) (lists : List (List Change)) → table_at (numbered n (tables_of table lists)) v ≡ Some t → v ≤ n + length lists
numbered_most n v table t [] named = elim (cases_eq n v) [
  | inl same ↦ omega (arith, same)
  | inr apart ↦ let never : None ≡ Some t = named_later _ table t None named (ne_eqb n v apart) in absurd (cc)
]
numbered_most n v table t (l ∷ ls) named = elim (cases_eq n v) [
  | inl same ↦ omega (arith, same)
  | inr apart ↦ let most = numbered_most (n + 1) v (changed_by table l) t ls (named_later _ table t _ named (ne_eqb n v apart)) in omega (arith, most)
]

pub known_most : (p : Publications) → AreAtMost (known_of p) (version_of p)
known_most p = λ v t named. numbered_most p.first v p.opening t p.lists named

last_named : (p : Publications) → table_at (known_of p) (version_of p) ≡ Some (table_of p)
last_named p = known_at p (length p.lists) (le_refl (length p.lists)) ∙ ap (λ (l : List (List Change)). Some (after p.opening l)) (take_all (length p.lists) p.lists (le_refl (length p.lists)))

pub last_within : (p : Publications) → IsWithin (one_table (version_of p) (table_of p)) (known_of p)
last_within p = λ v t named. elim (cases_eq (version_of p) v) [
  | inl same ↦
      let is : t ≡ table_of p = named_here _ (table_of p) t None named (eq-eqb (version_of p) v same) in
      subst (λ (w : ℕ). table_at (known_of p) w ≡ Some t) same (last_named p ∙ ap Some (sym is))
  | inr apart ↦ let never : None ≡ Some t = named_later _ (table_of p) t None named (ne_eqb (version_of p) v apart) in absurd (cc)
]

-- ---- one part

pub fresh_ready : (window : Book) (published : Publications) (seat : Option SeatView) → IsFresh window published seat → MayLook seat
fresh_ready window published None x = tt
fresh_ready window published (Some seat) x = let none : seat.refused ≡ 0 = ap (λ (s : SeatView). s.refused) x in omega (arith, none)

pub fresh_of : (window : Book) (published : Publications) (seat later : Option SeatView) → IsFresh window published seat → SameWindow seat later → IsOfWindow window later
fresh_of window published None None x y = tt
fresh_of window published None (Some later) x y = absurd y
fresh_of window published (Some seat) None x y = absurd y
fresh_of window published (Some seat) (Some later) x y = y ∙ ap (λ (s : SeatView). s.window) x

none_sees : (published : Publications) (seat : Option SeatView) → SameWindow None seat → SeesFront published seat
none_sees published None x = tt
none_sees published (Some seat) x = absurd x

module _ (setup : Parts) (table : List ServicePath) (version : ℕ) (lists : List (List Change)) where
  -- from what a seat has seen to what was published
  filled_worked : (p q : Part) → newest_of version p.seat ≡ version → SeesFront (published_on table version lists) q.seat → Filled setup table version p q
      → IfOk q.done (λ done. AreWalkedTo setup q.worker (known_of (published_on table version lists)) version done p.slots.items q.slots.items)
  filled_worked p q newest front x =
      let P : ℕ → Type 0 = λ done. AreWalkedTo setup q.worker (known_of (seen_of table version q.seat)) (newest_of version p.seat) done p.slots.items q.slots.items in
      let Q : ℕ → Type 0 = λ done. AreWalkedTo setup q.worker (known_of (published_on table version lists)) version done p.slots.items q.slots.items in
      if_ok q.done P Q (λ done w. subst (λ (v : ℕ). AreWalkedTo setup q.worker (known_of (published_on table version lists)) v done p.slots.items q.slots.items) newest
      (to_grown setup q.worker (known_of (seen_of table version q.seat)) (known_of (published_on table version lists)) (newest_of version p.seat) done p.slots.items q.slots.items (seen_within table version lists q.seat front) w)) x.walked

  part_worked : (window : Book) (p q r s : Part) → Seated window (opened_on table version) p q → Filled setup table version q r → SeesFront (published_on table version lists) r.seat → Unseated r s
      → Worked setup (published_on table version lists) p s
  part_worked window p q r s seated filled front unseated = record {
    shape = record {
      worker = unseated.worker ∙ filled.shape.worker ∙ seated.worker;
      many = ap length unseated.slots ∙ filled.shape.many ∙ ap length seated.slots;
    };
    walked =
        subst (λ (d : Result ℕ _). IfOk d (λ done. AreWalkedTo setup s.worker (known_of (published_on table version lists)) version done p.slots.items s.slots.items)) (sym unseated.done)
        (subst (λ (w : ℕ). IfOk r.done (λ done. AreWalkedTo setup w (known_of (published_on table version lists)) version done p.slots.items s.slots.items)) (sym unseated.worker)
        (subst (λ (l : List Carried). IfOk r.done (λ done. AreWalkedTo setup r.worker (known_of (published_on table version lists)) version done p.slots.items l)) (sym unseated.slots)
        (subst (λ (l : List Carried). IfOk r.done (λ done. AreWalkedTo setup r.worker (known_of (published_on table version lists)) version done l r.slots.items)) seated.slots
        (filled_worked q r (newest_fresh table version lists window q.seat seated.seat) front filled))));
  }

  pub parts_worked : (window : Book) (ps qs rs ss : List Part) → AllZip (Seated window (opened_on table version)) ps qs → AllZip (Filled setup table version) qs rs
      → AllByRecursion (λ r. SeesFront (published_on table version lists) r.seat) rs → AllZip Unseated rs ss → AllZip (Worked setup (published_on table version lists)) ps ss
  parts_worked window [] [] [] [] a b c d = tt
  parts_worked window [] [] [] (s ∷ ss) a b c d = absurd d
  parts_worked window [] [] (r ∷ rs) ss a b c d = absurd b
  parts_worked window [] (q ∷ qs) rs ss a b c d = absurd a
  parts_worked window (p ∷ ps) [] rs ss a b c d = absurd a
  parts_worked window (p ∷ ps) (q ∷ qs) [] ss a b c d = absurd b
  parts_worked window (p ∷ ps) (q ∷ qs) (r ∷ rs) [] a b c d = absurd d
  parts_worked window (p ∷ ps) (q ∷ qs) (r ∷ rs) (s ∷ ss) a b c d = (part_worked window p q r s a.0 b.0 c.0 d.0, parts_worked window ps qs rs ss a.1 b.1 c.1 d.1)

-- without a window
pub still_worked : (setup : Parts) (table : List ServicePath) (version : ℕ) (ps qs : List Part) → AllByRecursion (λ p. p.seat ≡ None) ps → AllZip (Filled setup table version) ps qs
    → AllZip (Worked setup (published_on table version [])) ps qs
still_worked setup table version [] [] none x = tt
still_worked setup table version [] (q ∷ qs) none x = absurd x
still_worked setup table version (p ∷ ps) [] none x = absurd x
still_worked setup table version (p ∷ ps) (q ∷ qs) none x =
    let front = none_sees (published_on table version []) q.seat (subst (λ (s : Option SeatView). SameWindow s q.seat) none.0 x.0.window) in (
      record { shape = x.0.shape; walked = filled_worked setup table version [] p q (ap (newest_of version) none.0) front x.0 },
      still_worked setup table version ps qs none.1 x.1,
    )

-- ---- shapes

pub same_shape : (ps : List Part) → AllZip SameShape ps ps
same_shape [] = tt
same_shape (p ∷ ps) = (record { worker = refl; many = refl }, same_shape ps)

pub shapes : (ps qs rs : List Part) → AllZip SameShape ps qs → AllZip SameShape qs rs → AllZip SameShape ps rs
shapes [] [] [] a b = tt
shapes [] [] (r ∷ rs) a b = absurd b
shapes [] (q ∷ qs) rs a b = absurd a
shapes (p ∷ ps) [] rs a b = absurd a
shapes (p ∷ ps) (q ∷ qs) [] a b = absurd b
shapes (p ∷ ps) (q ∷ qs) (r ∷ rs) a b = (record { worker = b.0.worker ∙ a.0.worker; many = b.0.many ∙ a.0.many }, shapes ps qs rs a.1 b.1)

pub worked_shape : (setup : Parts) (published : Publications) (ps qs : List Part) → AllZip (Worked setup published) ps qs → AllZip SameShape ps qs
worked_shape setup published [] [] x = tt
worked_shape setup published [] (q ∷ qs) x = absurd x
worked_shape setup published (p ∷ ps) [] x = absurd x
worked_shape setup published (p ∷ ps) (q ∷ qs) x = (x.0.shape, worked_shape setup published ps qs x.1)

pub slots_many : (ps qs : List Part) → AllZip SameShape ps qs → length (slots_of qs) ≡ length (slots_of ps)
slots_many [] [] x = refl
slots_many [] (q ∷ qs) x = absurd x
slots_many (p ∷ ps) [] x = absurd x
slots_many (p ∷ ps) (q ∷ qs) x =
    let here = x.0.many in
    let rest = slots_many ps qs x.1 in
    omega (arith, here, rest, length-append p.slots.items (slots_of ps), length-append q.slots.items (slots_of qs))

-- ---- limits

pub parts_limits : (ps : List Part) → AllByRecursion (λ (c : Carried). IsWithinLimits c.frame) (slots_of ps) → AllByRecursion (λ p. AreWithinLimits p.slots.items) ps
parts_limits [] all = tt
parts_limits (p ∷ ps) all =
    let L : Carried → Type 0 = λ c. IsWithinLimits c.frame in
    (All-from_recursion L p.slots.items (all_front L p.slots.items (slots_of ps) all), parts_limits ps (all_back L p.slots.items (slots_of ps) all))

behind_front : (went rest : List Carried) (done : ℕ) → length went ≡ done → drop done (went ++ rest) ≡ rest
behind_front went rest done is = ap (λ (k : ℕ). drop k (went ++ rest)) (sym is) ∙ drop-append_seam went rest

front_only : (went rest : List Carried) (done : ℕ) → length went ≡ done → take done (went ++ rest) ≡ went
front_only went rest done is = take-append-le done went rest (omega (arith, is)) ∙ take_all done went (omega (arith, is))

can_finish : (setup : Parts) (published : Publications) (p q : Part) → AreWithinLimits p.slots.items → Worked setup published p q → CanFinish q
can_finish setup published p q limits x =
    let L : Carried → Type 0 = λ c. IsWithinLimits c.frame in
    let P : ℕ → Type 0 = λ done. AreWalkedTo setup q.worker (known_of published) published.first done p.slots.items q.slots.items in
    let Q : ℕ → Type 0 = λ done. (done ≤ length q.slots.items) × AreWithinLimits (drop done q.slots.items) in
    if_ok q.done P Q (λ done w.
    let many = w.count in
    let all : AllByRecursion L (w.was ++ w.rest) = recursion_from_All L (w.was ++ w.rest) (subst AreWithinLimits w.old_is limits) in
    let rest : drop done q.slots.items ≡ w.rest = ap (drop done) w.new_is ∙ behind_front w.went w.rest done w.count in
    (omega (arith, many, ap length w.new_is, length-append w.went w.rest), subst AreWithinLimits (sym rest) (All-from_recursion L w.rest (all_back L w.was w.rest all)))) x.walked

pub all_can_finish : (setup : Parts) (published : Publications) (ps qs : List Part) → AllByRecursion (λ p. AreWithinLimits p.slots.items) ps → AllZip (Worked setup published) ps qs → AllByRecursion CanFinish qs
all_can_finish setup published [] [] limits x = tt
all_can_finish setup published [] (q ∷ qs) limits x = absurd x
all_can_finish setup published (p ∷ ps) [] limits x = absurd x
all_can_finish setup published (p ∷ ps) (q ∷ qs) limits x = (can_finish setup published p q limits.0 x.0, all_can_finish setup published ps qs limits.1 x.1)

-- ---- the frames that were left

pub finished : (setup : Parts) (published : Publications) (given old new : Part) (done : ℕ) (rest : List Carried) → Worked setup published given old → old.done ≡ Ok done → new.worker ≡ old.worker
    → new.slots.items ≡ take done old.slots.items ++ rest → AreWalked setup old.worker (one_table (version_of published) (table_of published)) (version_of published) (drop done old.slots.items) rest
    → Forwarded setup published given new
finished setup published given old new done rest x is same slots walked =
    let w : AreWalkedTo setup old.worker (known_of published) published.first done given.slots.items old.slots.items =
    subst (λ (d : Result ℕ OutOfMemory). IfOk d (λ n. AreWalkedTo setup old.worker (known_of published) published.first n given.slots.items old.slots.items)) is x.walked in
    let left : drop done old.slots.items ≡ w.rest = ap (drop done) w.new_is ∙ behind_front w.went w.rest done w.count in
    let went : take done old.slots.items ≡ w.went = ap (take done) w.new_is ∙ front_only w.went w.rest done w.count in
    let last : AreWalked setup old.worker (known_of published) (version_of published) w.rest rest =
    all_grown setup old.worker (one_table (version_of published) (table_of published)) (known_of published) (version_of published) w.rest rest (last_within published)
    (subst (λ (l : List Carried). AreWalked setup old.worker (one_table (version_of published) (table_of published)) (version_of published) l rest) left walked) in
    let all : AreWalked setup old.worker (known_of published) published.first (w.was ++ w.rest) (w.went ++ rest) =
    joined setup old.worker (known_of published) (version_of published) published.first w.was w.went w.rest rest (known_most published) (omega arith) w.walked last in
    record {
      worker = same ∙ x.shape.worker;
      walked =
          subst (λ (k : ℕ). AreWalked setup k (known_of published) published.first given.slots.items new.slots.items) (sym same)
          (subst (λ (l : List Carried). AreWalked setup old.worker (known_of published) published.first l new.slots.items) (sym w.old_is)
          (subst (λ (l : List Carried). AreWalked setup old.worker (known_of published) published.first (w.was ++ w.rest) l) (sym (slots ∙ ap (λ (l : List Carried). l ++ rest) went)) all));
    }

-- a list beside one that is not empty has a first part too
pub worked_first : (setup : Parts) (published : Publications) (given : List Part) (p : Part) (ps : List Part) → AllZip (Worked setup published) given (p ∷ ps)
    → (first : Part) × (rest : List Part) × (given ≡ first ∷ rest) × Worked setup published first p × AllZip (Worked setup published) rest ps
worked_first setup published [] p ps x = absurd x
worked_first setup published (first ∷ rest) p ps x = (first, rest, refl, x.0, x.1)

pub none_forwarded : (setup : Parts) (published : Publications) (given ps : List Part) → 0 ≡ length ps → AllZip (Worked setup published) given ps → AllZip (Forwarded setup published) given ps
none_forwarded setup published [] [] none x = tt
none_forwarded setup published [] (p ∷ ps) none x = absurd x
none_forwarded setup published (g ∷ gs) [] none x = absurd x
none_forwarded setup published (g ∷ gs) (p ∷ ps) none x = absurd (omega (arith, none))

-- the parts that were dealt keep their numbers and lengths, and what seats they had
pub exchanged_shape : (ps qs : List Part) → AllZip Exchanged ps qs → AllZip SameShape ps qs
exchanged_shape [] [] x = tt
exchanged_shape [] (q ∷ qs) x = absurd x
exchanged_shape (p ∷ ps) [] x = absurd x
exchanged_shape (p ∷ ps) (q ∷ qs) x = (x.0.shape, exchanged_shape ps qs x.1)

pub exchanged_seats : (ps qs : List Part) → AllByRecursion (λ p. p.seat ≡ None) ps → AllZip Exchanged ps qs → AllByRecursion (λ q. q.seat ≡ None) qs
exchanged_seats [] [] none x = tt
exchanged_seats [] (q ∷ qs) none x = absurd x
exchanged_seats (p ∷ ps) [] none x = absurd x
exchanged_seats (p ∷ ps) (q ∷ qs) none x = (x.0.seat ∙ none.0, exchanged_seats ps qs none.1 x.1)

pub shape_numbered : (worker : ℕ) (ps qs : List Part) → AreNumbered worker ps → AllZip SameShape ps qs → AreNumbered worker qs
shape_numbered worker [] [] numbered x = tt
shape_numbered worker [] (q ∷ qs) numbered x = absurd x
shape_numbered worker (p ∷ ps) [] numbered x = absurd x
shape_numbered worker (p ∷ ps) (q ∷ qs) numbered x = (x.0.worker ∙ numbered.0, shape_numbered (worker + 1) ps qs numbered.1 x.1)

pub shape_long : (ps qs : List Part) → AllZip SameShape ps qs → length qs ≡ length ps
shape_long [] [] x = refl
shape_long [] (q ∷ qs) x = absurd x
shape_long (p ∷ ps) [] x = absurd x
shape_long (p ∷ ps) (q ∷ qs) x = let rest = shape_long ps qs x.1 in omega (arith, rest)
