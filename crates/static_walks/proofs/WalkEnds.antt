-- Where a walk over a static path ends: at egress up to 61 functions, for want of TTL above.
use Rattle.std.proofs.Common.{◌≡◌, ◌<◌, ◌≤◌, ℕ, zero, suc, ◌+◌, ◌-◌, List, [], ◌∷◌, Option, Some, None, Bool, true, false, replicate, refl, sym, ap, ◌∙◌, arith, subst, inl, inr, cond, nat_le}
use Rattle.std.proofs.lemmas.Bool.{cases_lt, le-leb, lt-leb}
use Rattle.std.specs.List.{All, Contains}
use Rattle.wire_base.specs.declared.ids.ForwarderId.{ForwarderId}
use Rattle.wire_base.specs.declared.ids.InstanceId.{InstanceId}
use Rattle.net_frames.specs.Captured.{Captured}
use Rattle.nsh_headers.specs.Edit.{lowered}
use Rattle.path_selection.specs.Answers.{HasPath, IsAnswer, Serves}
use Rattle.path_selection.specs.Paths.{ServicePath}
use Rattle.path_selection.specs.declared.hops.HopRow.{HopRow}
use Rattle.path_selection.specs.declared.answers.Answer.{Answer}
use Rattle.path_selection.specs.declared.answers.Answer.TheVariants.{NoPath, Ended, NoInstance, At}
use Rattle.record_text.specs.declared.records.End.{End}
use Rattle.record_text.specs.declared.records.End.TheVariants.{Egress, Drop}
use Rattle.record_text.specs.declared.records.Reason.TheVariants.{Ttl}
use Rattle.classifier.specs.Stations.{Station, first_station}
use Rattle.forwarder.specs.Walks.{Ends, Follows, GoesOn, IsSpent, Turn, WalkFrom, served}
use Rattle.forwarder.proofs.WalkSteps.{lowered_above}
use Rattle.static_walks.specs.TurnSteps.{next_station, own_instance}
use Rattle.static_walks.specs.Walks.{WalksOn, WalksTo, here, static_header, static_row, static_rows, static_table}
use Rattle.static_walks.proofs.StaticLemmas.{length-static_rows, says_at, says_ended, static_path, static_rows-at}
use Rattle.static_walks.proofs.WalkLemmas.{none_drops, own_turn, turn_before}

-- the table has no other path
only_path : (spi count : ℕ) (path : ServicePath) → Contains (static_table spi count) path → static_path spi count ≡ path
only_path spi count path (zero, below, is) = is
only_path spi count path (suc k, below, is) = absurd (omega (arith, below))

-- the rows are the hops of the path
pub row_is_hop : (count : ℕ) (row : HopRow) → Contains (static_rows 0 count) row → (k : ℕ) × (k < count) × (row ≡ static_row k)
row_is_hop count row (k, below, is) =
    let len = length-static_rows 0 count in
    let k_below : k < count = omega (arith, len, below) in
    (k, k_below, sym is ∙ static_rows-at 0 count k row k_below ∙ ap static_row (let e : 0 + k ≡ k = omega arith in e))

-- what holds of all rows holds of each hop
of_hop : (P : HopRow → Type 0) (count k : ℕ) → All P (static_rows 0 count) → k < count → P (static_row k)
of_hop P count k all below =
    let len = length-static_rows 0 count in
    subst P (static_rows-at 0 count k (static_row k) below ∙ ap static_row (let e : 0 + k ≡ k = omega arith in e))
    (all k (static_row k) (omega (arith, len, below)))

-- the hop that serves is the one of the packet's index
pub record IsOwn (count si : ℕ) (row : HopRow) : Type 0 where
  pub same : row ≡ static_row (255 - si)
  pub enough : 256 ≤ si + count

pub serves_own : (spi count asked si : ℕ) (row : HopRow) (path : ServicePath) → si ≤ 255 → count ≤ 255 → HasPath (static_table spi count) asked path → Serves path.rows si row → IsOwn count si row
serves_own spi count asked si row path small few has serves =
    let path_is = only_path spi count path has.there in
    let on_static : Serves (static_rows 0 count) si row = subst (λ p. Serves p.rows si row) (sym path_is) serves in
    let hop = row_is_hop count row on_static.there in
    let row_si : row.si ≡ 255 - hop.0 = ap (λ r. r.si) hop.2 in
    let not_above = on_static.not_above in
    let k_below = hop.1 in
    let enough : 256 ≤ si + count = omega (arith, row_si, not_above, k_below, few) in
    let place : 255 - (255 - si) ≡ si = omega (arith, small) in
    let greatest : 255 - (255 - si) ≤ si → 255 - (255 - si) ≤ row.si =
    of_hop (λ other. other.si ≤ si → other.si ≤ row.si) count (255 - si) on_static.greatest (omega (arith, enough, small)) in
    let reached = greatest (omega (arith, place)) in
    let same_hop : hop.0 ≡ 255 - si = omega (arith, row_si, not_above, k_below, few, place, reached, small) in
    record { same = hop.2 ∙ ap static_row same_hop; enough = enough }

-- what a table's answers say on a static path
pub record IsAt (count si at : ℕ) (forwarder : ForwarderId) : Type 0 where
  pub at_is : at ≡ si
  pub forwarder_is : forwarder ≡ here
  pub enough : 256 ≤ si + count

pub at_hop : (spi count asked si at : ℕ) (forwarder : ForwarderId) (instance : InstanceId) → si ≤ 255 → count ≤ 255 → IsAnswer (static_table spi count) asked si (At at forwarder instance) → IsAt count si at forwarder
at_hop spi count asked si at forwarder instance small few (row, (path, has, serves), at_is, choice) =
    let own = serves_own spi count asked si row path small few has serves in
    let place : 255 - (255 - si) ≡ si = omega (arith, small) in
    record {
      at_is = sym at_is ∙ ap (λ r. r.si) own.same ∙ place;
      forwarder_is = ap chosen (sym choice ∙ ap (λ r. r.choice) own.same);
      enough = own.enough;
    }
  where
    chosen : Option (ForwarderId × InstanceId) → ForwarderId
    chosen None = here
    chosen (Some pair) = pair.0

pub never_empty : (spi count asked si at : ℕ) → si ≤ 255 → count ≤ 255 → IsAnswer (static_table spi count) asked si (NoInstance at) → ⊥
never_empty spi count asked si at small few (row, (path, has, serves), at_is, choice) =
    let own = serves_own spi count asked si row path small few has serves in
    is_none (sym choice ∙ ap (λ r. r.choice) own.same)
  where
    is_some : Option (ForwarderId × InstanceId) → Bool
    is_some None = false
    is_some (Some pair) = true

    is_none : {pair : ForwarderId × InstanceId} → None ≡ Some pair → ⊥
    is_none {pair = pair} e = let tests = ap is_some e in cc

pub ended_below : (spi count asked si : ℕ) → 1 ≤ count → IsAnswer (static_table spi count) asked si Ended → si + count < 256
ended_below spi count asked si some (path, has, above) =
    let path_is = only_path spi count path has.there in
    let on_static : All (λ row. si < row.si) (static_rows 0 count) = subst (λ p. All (λ row. si < row.si) p.rows) (sym path_is) above in
    let last = of_hop (λ row. si < row.si) count (count - 1) on_static (omega (arith, some)) in
    omega (arith, last, some)

pub is_named : (spi count si : ℕ) → IsAnswer (static_table spi count) spi si NoPath → ⊥
is_named spi count si none = none 0 (static_path spi count) (omega arith) refl

-- where a walk over so many functions ends
abbrev pub end_of : ℕ → End
end_of count = cond (nat_le count 61) Egress (Drop Ttl)

pub egress_up_to : (count : ℕ) → count ≤ 61 → Egress ≡ end_of count
egress_up_to count few = ap (λ b. cond b Egress (Drop Ttl)) (sym (le-leb count 61 few))

pub spent_above : (count : ℕ) → 61 < count → Drop Ttl ≡ end_of count
spent_above count many = ap (λ b. cond b Egress (Drop Ttl)) (sym (lt-leb count 61 many))

-- ---- stations

-- a station of the walk after k turns
pub record IsAfter (spi count k : ℕ) (s : Station) : Type 0 where
  pub home : s.forwarder ≡ here
  pub named : s.header.head.path.spi ≡ spi
  pub ttl : s.header.head.base.ttl + k ≡ 63
  pub si : s.header.head.path.si + k ≡ 255
  pub visited : k ≤ count
  pub alive : k ≤ 62

-- the first one
is_first : (spi count : ℕ) (frame : Captured) → IsAfter spi count 0 (first_station here frame (static_header spi))
is_first spi count frame = record { home = refl; named = refl; ttl = refl; si = refl; visited = omega arith; alive = omega arith }

-- its TTL, lowered
low_at : (spi count k : ℕ) (s : Station) → IsAfter spi count k s → lowered s.header.head.base.ttl ≡ s.header.head.base.ttl - 1
low_at spi count k s after =
    let ttl = after.ttl in
    let alive = after.alive in
    lowered_above s.header.head.base.ttl (omega (arith, ttl, alive))

-- what is not spent takes 61 turns at most
turns_left : (spi count k : ℕ) (s : Station) → IsAfter spi count k s → (IsSpent s → ⊥) → k ≤ 61
turns_left spi count k s after under_way =
    let ttl = after.ttl in
    let alive = after.alive in
    let low = low_at spi count k s after in
    elim (cases_lt 61 k) [
      | inl many ↦ absurd (under_way (omega (arith, low, ttl, many, alive)))
      | inr few_turns ↦ few_turns
    ]

-- an answer that ends the walk
ended_by : (spi count k : ℕ) (s : Station) (answer : Answer) (end : End) (visits : List InstanceId) → 1 ≤ count → count ≤ 255 → IsAfter spi count k s → (IsSpent s → ⊥) → IsAnswer (static_table spi count) s.header.head.path.spi s.header.head.path.si answer → Follows [] s answer (Ends end visits) → end ≡ end_of count
ended_by spi count k s NoPath end visits some few after under_way none follows =
    absurd (is_named spi count s.header.head.path.si (subst (λ n. IsAnswer (static_table spi count) n s.header.head.path.si NoPath) after.named none))
ended_by spi count k s (NoInstance at) end visits some few after under_way none follows =
    let si = after.si in
    absurd (never_empty spi count s.header.head.path.spi s.header.head.path.si at (omega (arith, si)) few none)
ended_by spi count k s Ended end visits some few after under_way ended follows =
    let si = after.si in
    let few_turns = turns_left spi count k s after under_way in
    let below = ended_below spi count s.header.head.path.spi s.header.head.path.si some ended in
    let same : Ends end visits ≡ Ends Egress s.visits = follows in
    let out : end ≡ Egress = cc in
    out ∙ egress_up_to count (omega (arith, below, si, few_turns))
ended_by spi count k s (At at other instance) end visits some few after under_way answered (home, why, drops, end_is, visits_are) =
    absurd (none_drops s instance why drops)

-- an answer by which it goes on
goes_on_by : (spi count k : ℕ) (s next : Station) (answer : Answer) → count ≤ 255 → IsAfter spi count k s → (IsSpent s → ⊥) → IsAnswer (static_table spi count) s.header.head.path.spi s.header.head.path.si answer → Follows [] s answer (GoesOn next) → IsAfter spi count (suc k) next
goes_on_by spi count k s next NoPath few after under_way answered follows = absurd (cc)
goes_on_by spi count k s next (NoInstance at) few after under_way answered follows = absurd (cc)
goes_on_by spi count k s next Ended few after under_way answered follows = absurd (cc)
goes_on_by spi count k s next (At at other instance) few after under_way answered (inl (differs, next_is)) =
    let si = after.si in
    let hop = at_hop spi count s.header.head.path.spi s.header.head.path.si at other instance (omega (arith, si)) few answered in
    absurd (differs (hop.forwarder_is ∙ sym after.home))
goes_on_by spi count k s next (At at other instance) few after under_way answered (inr (same, passes, next_is)) =
    let si = after.si in
    let ttl = after.ttl in
    let hop = at_hop spi count s.header.head.path.spi s.header.head.path.si at other instance (omega (arith, si)) few answered in
    let at_is = hop.at_is in
    let enough = hop.enough in
    let low = low_at spi count k s after in
    let further = turns_left spi count k s after under_way in
    let ttl_now : (served [] s at instance).header.head.base.ttl ≡ s.header.head.base.ttl - 1 = low in
    let si_now : (served [] s at instance).header.head.path.si ≡ at - 1 = refl in
    subst (IsAfter spi count (suc k)) (sym next_is) (record {
      home = after.home;
      named = after.named;
      ttl = omega (arith, ttl_now, ttl, further);
      si = omega (arith, si_now, at_is, enough, si, few);
      visited = omega (arith, enough, si);
      alive = omega (arith, further);
    })

-- a turn that goes on
next_turn : (spi count k : ℕ) (s next : Station) → count ≤ 255 → IsAfter spi count k s → Turn [] (static_table spi count) s (GoesOn next) → IsAfter spi count (suc k) next
next_turn spi count k s next few after turn = goes_on_by spi count k s next turn.answer few after turn.alive turn.answered turn.follows

-- ---- walks

-- every walk from such a station
walk_ends : (spi count k lookups : ℕ) (s : Station) (later : List Station) (end : End) (visits : List InstanceId) → 1 ≤ count → count ≤ 255 → IsAfter spi count k s → WalkFrom [] s later (replicate lookups (static_table spi count)) end visits → end ≡ end_of count
walk_ends spi count k zero s [] end visits some few after (spent, end_is, visits_are) =
    let ttl = after.ttl in
    let visited = after.visited in
    let low = low_at spi count k s after in
    let now : lowered s.header.head.base.ttl ≡ 0 = spent in
    end_is ∙ spent_above count (omega (arith, low, now, ttl, visited))
walk_ends spi count k zero s (next ∷ later) end visits some few after walk = absurd walk
walk_ends spi count k (suc zero) s [] end visits some few after turn =
    ended_by spi count k s turn.answer end visits some few after turn.alive turn.answered turn.follows
walk_ends spi count k (suc (suc more)) s [] end visits some few after walk = absurd walk
walk_ends spi count k (suc more) s (next ∷ later) end visits some few after walk =
    walk_ends spi count (suc k) more next later end visits some few (next_turn spi count k s next few after walk.0) walk.1

-- every walk over a static path
pub static_end : (spi count : ℕ) (frame : Captured) (end : End) → 1 ≤ count → count ≤ 255 → WalksTo spi count frame end → end ≡ end_of count
static_end spi count frame end some few w =
    walk_ends spi count 0 w.lookups (first_station here frame (static_header spi)) w.later end w.visits some few (is_first spi count frame) w.walk

-- a walk has one end
pub one_end : (spi count : ℕ) (frame : Captured) (end other : End) → 1 ≤ count → count ≤ 255 → WalksTo spi count frame end → WalksTo spi count frame other → end ≡ other
one_end spi count frame end other some few walk walk' =
    static_end spi count frame end some few walk ∙ sym (static_end spi count frame other some few walk')

-- from a station after k turns, of 62 at most
ends_from : (turns spi count k : ℕ) (s : Station) → turns + k ≡ 62 → count ≤ 255 → IsAfter spi count k s → (end : End) × WalksOn spi count s end
ends_from zero spi count k s sum few after =
    let ttl = after.ttl in
    let low = low_at spi count k s after in
    let spent : IsSpent s = omega (arith, low, ttl, sum) in
    (Drop Ttl, record { later = []; lookups = 0; visits = s.visits; walk = (spent, refl, refl) })
ends_from (suc turns) spi count k s sum few after =
    let ttl = after.ttl in
    let si = after.si in
    let low = low_at spi count k s after in
    let alive : IsSpent s → ⊥ = λ spent. omega (arith, low, ttl, sum, spent) in
    elim (cases_lt (s.header.head.path.si + count) 256) [
      | inl past ↦
          (let answered : IsAnswer (static_table spi count) s.header.head.path.spi s.header.head.path.si Ended =
          subst (λ n. IsAnswer (static_table spi count) n s.header.head.path.si Ended) (sym after.named) (says_ended spi count s.header.head.path.si few past) in
          (Egress, record { later = []; lookups = 1; visits = s.visits; walk = record { alive = alive; answer = Ended; answered = answered; follows = refl } }))
      | inr there ↦
          (let answered : IsAnswer (static_table spi count) s.header.head.path.spi s.header.head.path.si (At s.header.head.path.si here (own_instance s.header.head.path.si)) =
          subst (λ n. IsAnswer (static_table spi count) n s.header.head.path.si (At s.header.head.path.si here (own_instance s.header.head.path.si))) (sym after.named)
          (says_at spi count s.header.head.path.si (omega (arith, si)) there) in
          let turn = own_turn spi count s after.home alive answered in
          let rest = ends_from turns spi count (suc k) (next_station s) (omega (arith, sum)) few (next_turn spi count k s (next_station s) few after turn) in
          (rest.0, turn_before spi count s (next_station s) rest.0 turn rest.1))
    ]

-- every walk over a static path ends
pub some_end : (spi count : ℕ) (frame : Captured) → count ≤ 255 → (end : End) × WalksTo spi count frame end
some_end spi count frame few = ends_from 62 spi count 0 (first_station here frame (static_header spi)) refl few (is_first spi count frame)
