-- The hops of a path from the serving one on, and the way along them.
use Rattle.std.proofs.Common.{◌≡◌, ◌≢◌, ℕ, zero, suc, ◌+◌, ◌-◌, ◌<◌, ◌≤◌, Bool, true, false, nat_le, List, [], ◌∷◌, ◌++◌, length, get_or, filter, refl, sym, ap, subst, ◌∙◌, arith, inl, inr, append_assoc, append-nil, cond}
use Rattle.std.proofs.lemmas.Bool.{cases_lt, le-leb, lt-leb}
use Rattle.std.specs.List.{Contains}
use Rattle.std.proofs.lemmas.List.Elements.{All-contains, All-tail}
use Rattle.wire_base.specs.declared.ids.InstanceId.{InstanceId}
use Rattle.service_functions.specs.declared.functions.Function.{Function}
use Rattle.path_selection.specs.Answers.{HasPath, IsAnswer, NoneServes, Serves}
use Rattle.path_selection.specs.Paths.{FallsBelow, IsTable, RisesFrom, ServicePath}
use Rattle.path_selection.specs.declared.hops.HopRow.{HopRow}
use Rattle.path_selection.specs.declared.answers.Answer.{Answer}
use Rattle.path_selection.specs.declared.answers.Answer.TheVariants.{NoPath, NoInstance, Ended, At}
use Rattle.path_selection.proofs.RowLemmas.{falls_under}
use Rattle.path_selection.proofs.TableLemmas.{rises_over}
use Rattle.record_text.specs.declared.records.End.{End}
use Rattle.record_text.specs.declared.records.End.TheVariants.{Egress, Drop}
use Rattle.record_text.specs.declared.records.Reason.TheVariants as reason
use Rattle.classifier.specs.Stations.{Station}
use Rattle.forwarder.specs.Walks.{Ends, Follows, GoesOn}
use Rattle.forwarder.specs.Ways.{GoesStraight, StopsAt, straight}
use Rattle.forwarder.proofs.WalkLengths.{table_rows}

-- ---- rows

kept : (p : HopRow → Bool) (x : HopRow) (xs : List HopRow) → p x ≡ true → filter p (x ∷ xs) ≡ x ∷ filter p xs
kept p x xs e = ap (λ (b : Bool). cond b (x ∷ filter p xs) (filter p xs)) e

left_out : (p : HopRow → Bool) (x : HopRow) (xs : List HopRow) → p x ≡ false → filter p (x ∷ xs) ≡ filter p xs
left_out p x xs e = ap (λ (b : Bool). cond b (x ∷ filter p xs) (filter p xs)) e

-- all rows below an index are for no greater one
all_straight : (top : ℕ) (rows : List HopRow) (si : ℕ) → FallsBelow top rows → top ≤ si + 1 → straight rows si ≡ rows
all_straight top [] si falls le = refl
all_straight top (x ∷ rows) si falls le =
    let below = falls.0 in
    kept (λ (row : HopRow). nat_le row.si si) x rows (le-leb x.si si (omega (arith, below, le)))
    ∙ ap (λ (l : List HopRow). x ∷ l) (all_straight x.si rows si falls.2 (omega (arith, below, le)))

-- where the first row is above the index, the serving one is behind it
behind_first : (x : HopRow) (rows : List HopRow) (row : HopRow) (si : ℕ) → row.si ≤ si → si < x.si → Contains (x ∷ rows) row → Contains rows row
behind_first x rows row si not_above above (zero, below, is) =
    let same : x.si ≡ row.si = ap (λ (r : HopRow). r.si) is in absurd (omega (arith, same, not_above, above))
behind_first x rows row si not_above above (suc k, below, is) = (k, omega (arith, below), is)

serves_behind : (x : HopRow) (rows : List HopRow) (si : ℕ) (row : HopRow) → si < x.si → Serves (x ∷ rows) si row → Serves rows si row
serves_behind x rows si row above serves = record {
  there = behind_first x rows row si serves.not_above above serves.there;
  not_above = serves.not_above;
  greatest = All-tail (λ (other : HopRow). other.si ≤ si → other.si ≤ row.si) x rows serves.greatest;
}

-- where it is not, it is the serving one
first_serves : (top : ℕ) (x : HopRow) (rows : List HopRow) (row : HopRow) → FallsBelow top (x ∷ rows) → x.si ≤ row.si → Contains (x ∷ rows) row → x ≡ row
first_serves top x rows row falls up (zero, below, is) = is
first_serves top x rows row falls up (suc k, below, is) =
    let under = falls_under x.si rows falls.2 k row (omega (arith, below)) in
    let same : (get_or rows k row).si ≡ row.si = ap (λ (r : HopRow). r.si) is in
    absurd (omega (arith, up, under, same))

first_here : (top : ℕ) (x : HopRow) (rows : List HopRow) (si : ℕ) → FallsBelow top (x ∷ rows) → x.si ≤ si → straight (x ∷ rows) si ≡ x ∷ straight (x ∷ rows) (x.si - 1)
first_here top x rows si falls here =
    let some = falls.1 in
    let one : straight (x ∷ rows) si ≡ x ∷ rows =
    kept (λ (r : HopRow). nat_le r.si si) x rows (le-leb x.si si here) ∙ ap (λ (l : List HopRow). x ∷ l) (all_straight x.si rows si falls.2 (omega (arith, here))) in
    let two : straight (x ∷ rows) (x.si - 1) ≡ rows =
    left_out (λ (r : HopRow). nat_le r.si (x.si - 1)) x rows (lt-leb x.si (x.si - 1) (omega (arith, some))) ∙ all_straight x.si rows (x.si - 1) falls.2 (omega (arith, some)) in
    one ∙ ap (λ (l : List HopRow). x ∷ l) (sym two)

first_above : (x : HopRow) (rows : List HopRow) (si : ℕ) (row : HopRow) → si < x.si → row.si ≤ si → straight rows si ≡ row ∷ straight rows (row.si - 1) → straight (x ∷ rows) si ≡ row ∷ straight (x ∷ rows) (row.si - 1)
first_above x rows si row above not_above rest =
    left_out (λ (r : HopRow). nat_le r.si si) x rows (lt-leb x.si si above) ∙ rest
    ∙ ap (λ (l : List HopRow). row ∷ l) (sym (left_out (λ (r : HopRow). nat_le r.si (row.si - 1)) x rows (lt-leb x.si (row.si - 1) (omega (arith, above, not_above)))))

-- the serving row comes first, and behind it those that serve the next lower index
pub straight_first : (top : ℕ) (rows : List HopRow) (si : ℕ) (row : HopRow) → FallsBelow top rows → Serves rows si row → straight rows si ≡ row ∷ straight rows (row.si - 1)
straight_first top [] si row falls serves =
    let below = serves.there.1 in absurd (omega (arith, below))
straight_first top (x ∷ rows) si row falls serves = elim (cases_lt si x.si) [
  | inl above ↦ first_above x rows si row above serves.not_above (straight_first x.si rows si row falls.2 (serves_behind x rows si row above serves))
  | inr here ↦
      first_here top x rows si falls here
      ∙ ap (λ (r : HopRow). r ∷ straight (x ∷ rows) (r.si - 1)) (first_serves top x rows row falls (serves.greatest 0 x (omega arith) here) serves.there)
]

-- the serving row serves its own index
pub straight_same : (top : ℕ) (rows : List HopRow) (si : ℕ) (row : HopRow) → FallsBelow top rows → Serves rows si row → straight rows row.si ≡ straight rows si
straight_same top rows si row falls serves =
    let own : Serves rows row.si row = record { there = serves.there; not_above = omega arith; greatest = λ k d h. λ le. le } in
    straight_first top rows row.si row falls own ∙ sym (straight_first top rows si row falls serves)

pub straight_none : (rows : List HopRow) (si : ℕ) → NoneServes rows si → straight rows si ≡ []
straight_none [] si none = refl
straight_none (x ∷ rows) si none =
    left_out (λ (r : HopRow). nat_le r.si si) x rows (lt-leb x.si si (none 0 x (omega arith))) ∙ straight_none rows si (All-tail (λ (row : HopRow). si < row.si) x rows none)

-- ---- one path

same_path : (least : ℕ) (xs : List ServicePath) (i j : ℕ) (p q : ServicePath) → RisesFrom least xs → i < length xs → j < length xs → get_or xs i p ≡ p → get_or xs j q ≡ q → p.spi ≡ q.spi → p ≡ q
same_path least [] i j p q r hi hj ip jq e = absurd (omega (arith, hi))
same_path least (x ∷ xs) zero zero p q r hi hj ip jq e = sym ip ∙ jq
same_path least (x ∷ xs) zero (suc j) p q r hi hj ip jq e =
    absurd (omega (arith, rises_over (x.spi + 1) xs r.2 j q (omega arith), ap (λ (s : ServicePath). s.spi) ip, ap (λ (s : ServicePath). s.spi) jq, e))
same_path least (x ∷ xs) (suc i) zero p q r hi hj ip jq e =
    absurd (omega (arith, rises_over (x.spi + 1) xs r.2 i p (omega arith), ap (λ (s : ServicePath). s.spi) ip, ap (λ (s : ServicePath). s.spi) jq, e))
same_path least (x ∷ xs) (suc i) (suc j) p q r hi hj ip jq e = same_path (x.spi + 1) xs i j p q r.2 (omega arith) (omega arith) ip jq e

one_path : (table : List ServicePath) (spi : ℕ) (p q : ServicePath) → IsTable table → HasPath table spi p → HasPath table spi q → p ≡ q
one_path table spi p q r hp hq = same_path 0 table hp.there.0 hq.there.0 p q r hp.there.1 hq.there.1 hp.there.2 hq.there.2 (hp.named ∙ sym hq.named)

-- ---- the way

pub stops_ttl : (rows : List HopRow) → StopsAt rows (Drop reason.Ttl)
stops_ttl [] = inr refl
stops_ttl (row ∷ rows) = inr refl

-- the visits of a walk are those of its station, and then go straight
pub record Continues (rows : List HopRow) (before visits : List InstanceId) (end : End) : Type 0 where
  pub seen : List InstanceId
  pub visited : visits ≡ before ++ seen
  pub goes : GoesStraight rows seen end

pub ends_straight : (functions : List Function) (path : ServicePath) (table : List ServicePath) (s : Station) (end : End) (visits : List InstanceId) → IsTable table → HasPath table s.header.head.path.spi path
    → (answer : Answer) → IsAnswer table s.header.head.path.spi s.header.head.path.si answer → Follows functions s answer (Ends end visits)
    → Continues (straight path.rows s.header.head.path.si) s.visits visits end
ends_straight functions path table s end visits is has NoPath none follows = absurd (All-contains (λ (p : ServicePath). p.spi ≢ s.header.head.path.spi) table path none has.there has.named)
ends_straight functions path table s end visits is has (NoInstance at) (row, (other, named, serves), at-is, choice) follows =
    let same = one_path table s.header.head.path.spi other path is named has in
    let by : Serves path.rows s.header.head.path.si row = subst (λ (p : ServicePath). Serves p.rows s.header.head.path.si row) same serves in
    let ended : end ≡ Drop (reason.NoInstance at) = cc in
    let visited : visits ≡ s.visits = cc in
    let stops : StopsAt (row ∷ straight path.rows (row.si - 1)) end = inl (choice, ended ∙ ap (λ (n : ℕ). Drop (reason.NoInstance n)) (sym at-is)) in
    record {
      seen = [];
      visited = visited ∙ sym (append-nil s.visits);
      goes = subst (λ (l : List HopRow). StopsAt l end) (sym (straight_first 256 path.rows s.header.head.path.si row (table_rows table path is has.there) by)) stops;
    }
ends_straight functions path table s end visits is has Ended (other, named, none) follows =
    let same = one_path table s.header.head.path.spi other path is named has in
    let none_here : NoneServes path.rows s.header.head.path.si = subst (λ (p : ServicePath). NoneServes p.rows s.header.head.path.si) same none in
    let ended : end ≡ Egress = cc in
    let visited : visits ≡ s.visits = cc in
    record {
      seen = [];
      visited = visited ∙ sym (append-nil s.visits);
      goes = subst (λ (l : List HopRow). StopsAt l end) (sym (straight_none path.rows s.header.head.path.si none_here)) (inl ended);
    }
ends_straight functions path table s end visits is has (At at forwarder i) (row, (other, named, serves), at-is, choice) follows =
    let same = one_path table s.header.head.path.spi other path is named has in
    let by : Serves path.rows s.header.head.path.si row = subst (λ (p : ServicePath). Serves p.rows s.header.head.path.si row) same serves in
    let goes : GoesStraight (row ∷ straight path.rows (row.si - 1)) (i ∷ []) end = ((forwarder, choice), inr (refl, follows.1, follows.3)) in
    record {
      seen = i ∷ [];
      visited = follows.4;
      goes = subst (λ (l : List HopRow). GoesStraight l (i ∷ []) end) (sym (straight_first 256 path.rows s.header.head.path.si row (table_rows table path is has.there) by)) goes;
    }

-- one turn further back
pub goes_straight : (functions : List Function) (path : ServicePath) (table : List ServicePath) (s next : Station) (end : End) (visits : List InstanceId) → IsTable table → HasPath table s.header.head.path.spi path
    → (answer : Answer) → IsAnswer table s.header.head.path.spi s.header.head.path.si answer → Follows functions s answer (GoesOn next)
    → Continues (straight path.rows next.header.head.path.si) next.visits visits end → Continues (straight path.rows s.header.head.path.si) s.visits visits end
goes_straight functions path table s next end visits is has NoPath answered follows rest = absurd (cc)
goes_straight functions path table s next end visits is has (NoInstance at) answered follows rest = absurd (cc)
goes_straight functions path table s next end visits is has Ended answered follows rest = absurd (cc)
goes_straight functions path table s next end visits is has (At at forwarder i) (row, (other, named, serves), at-is, choice) (inl handed) rest =
    let same = one_path table s.header.head.path.spi other path is named has in
    let by : Serves path.rows s.header.head.path.si row = subst (λ (p : ServicePath). Serves p.rows s.header.head.path.si row) same serves in
    let index : next.header.head.path.si ≡ row.si = ap (λ (n : Station). n.header.head.path.si) handed.1 ∙ sym at-is in
    let rows = ap (straight path.rows) index ∙ straight_same 256 path.rows s.header.head.path.si row (table_rows table path is has.there) by in
    record {
      seen = rest.seen;
      visited = rest.visited ∙ ap (λ (n : Station). n.visits ++ rest.seen) handed.1;
      goes = subst (λ (l : List HopRow). GoesStraight l rest.seen end) rows rest.goes;
    }
goes_straight functions path table s next end visits is has (At at forwarder i) (row, (other, named, serves), at-is, choice) (inr passed) rest =
    let same = one_path table s.header.head.path.spi other path is named has in
    let by : Serves path.rows s.header.head.path.si row = subst (λ (p : ServicePath). Serves p.rows s.header.head.path.si row) same serves in
    let index : next.header.head.path.si ≡ row.si - 1 = ap (λ (n : Station). n.header.head.path.si) passed.2 ∙ ap (λ (n : ℕ). n - 1) (sym at-is) in
    let rows = straight_first 256 path.rows s.header.head.path.si row (table_rows table path is has.there) by in
    let behind : GoesStraight (straight path.rows (row.si - 1)) rest.seen end = subst (λ (n : ℕ). GoesStraight (straight path.rows n) rest.seen end) index rest.goes in
    let goes : GoesStraight (row ∷ straight path.rows (row.si - 1)) (i ∷ rest.seen) end = ((forwarder, choice), inl behind) in
    record {
      seen = i ∷ rest.seen;
      visited = rest.visited ∙ ap (λ (n : Station). n.visits ++ rest.seen) passed.2 ∙ append_assoc s.visits (i ∷ []) rest.seen;
      goes = subst (λ (l : List HopRow). GoesStraight l (i ∷ rest.seen) end) (sym rows) goes;
    }
