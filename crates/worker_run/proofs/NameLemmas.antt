-- The record of a walk over tables that name the roster alone names instances of it alone.
use Rattle.std.proofs.Common.{◌≡◌, ℕ, List, [], ◌∷◌, ◌++◌, All, Contains, Some, sym, subst, arith, inl, inr}
use Rattle.std.specs.List.{AllByRecursion}
use Rattle.std.proofs.lemmas.List.Elements.{All-push}
use Rattle.wire_base.specs.declared.ids.InstanceId.{InstanceId}
use Rattle.wire_base.specs.declared.ids.ForwarderId.{ForwarderId}
use Rattle.net_frames.specs.Captured.{Captured}
use Rattle.sfc_routes.specs.Entries.{Entries}
use Rattle.path_selection.specs.declared.hops.HopRow.{HopRow}
use Rattle.path_selection.specs.Paths.{ServicePath}
use Rattle.path_selection.specs.Answers.{IsAnswer}
use Rattle.path_selection.specs.declared.answers.Answer.{Answer}
use Rattle.path_selection.specs.declared.answers.Answer.TheVariants.{NoPath, NoInstance, Ended, At}
use Rattle.route_selection.specs.Names.{IsOfRoster, AreOfRoster}
use Rattle.service_functions.specs.declared.functions.Function.{Function}
use Rattle.service_functions.specs.declared.answers.Why.{Why}
use Rattle.service_functions.specs.declared.answers.Why.TheVariants as why
use Rattle.classifier.specs.Stations.{Station, first_header, first_station}
use Rattle.classifier.specs.declared.verdicts.Verdict.{Verdict}
use Rattle.classifier.specs.declared.verdicts.Verdict.TheVariants as verdict
use Rattle.record_text.specs.declared.records.End.{End}
use Rattle.record_text.specs.declared.records.End.TheVariants.{Egress, Drop}
use Rattle.record_text.specs.declared.records.Reason.TheVariants as reason
use Rattle.record_text.specs.declared.records.Record.{Record}
use Rattle.record_text.specs.Names.{IsInstance}
use Rattle.record_text.specs.Ends.{EndNames, ReasonNames}
use Rattle.record_text.specs.Lines.{Names}
use Rattle.sfc_config.specs.Parts.{Parts}
use Rattle.forwarder.specs.Walks.{Ends, Follows, GoesOn, IsWalk, Walk, WalkFrom, WalksBy, functions_of, reason_of}
use Rattle.forwarder.specs.Records.{Tells}

abbrev AreKnown : Entries → List InstanceId → Type 0
AreKnown roster visits = All (IsInstance roster) visits

member : {A : Type 0} (P : A → Type 0) (xs : List A) (x : A) → All P xs → Contains xs x → P x
member P xs x all there = subst P there.2 (all there.0 x there.1)

-- the instance of an answer is of the roster
answer_known : (roster : Entries) (table : List ServicePath) (spi si at : ℕ) (other : ForwarderId) (instance : InstanceId) → AreOfRoster roster table → IsAnswer table spi si (At at other instance) → IsInstance roster instance
answer_known roster table spi si at other instance all answer =
    let row = answer.0 in
    let serving = answer.1 in
    let rows : All (λ (r : HopRow). IsOfRoster roster r.choice) serving.0.rows = member (λ (p : ServicePath). All (λ (r : HopRow). IsOfRoster roster r.choice) p.rows) table serving.0 all serving.1.there in
    let choice : IsOfRoster roster row.choice = member (λ (r : HopRow). IsOfRoster roster r.choice) serving.0.rows row rows serving.2.there in
    let known : IsOfRoster roster (Some (other, instance)) = subst (IsOfRoster roster) answer.3 choice in
    known.1

reason_known : (roster : Entries) (w : Why) (instance : InstanceId) → IsInstance roster instance → ReasonNames roster (reason_of w instance)
reason_known roster why.Denied instance known = known
reason_known roster why.HopLimit instance known = known
reason_known roster why.Meta instance known = known
reason_known roster why.MetaFull instance known = known
reason_known roster why.TooLong instance known = known

-- what is known of an end
pub record Known (roster : Entries) (end : End) (visits : List InstanceId) : Type 0 where
  pub visits_known : AreKnown roster visits
  pub end_known : EndNames roster end

same_known : (roster : Entries) (end end' : End) (visits visits' : List InstanceId) → end' ≡ end → visits' ≡ visits → EndNames roster end → AreKnown roster visits → Known roster end' visits'
same_known roster end end' visits visits' e v named known = record { visits_known = subst (AreKnown roster) (sym v) known; end_known = subst (EndNames roster) (sym e) named }

end_known : (roster : Entries) (functions : List Function) (table : List ServicePath) (s : Station) (spi si : ℕ) (a : Answer) (end : End) (visits : List InstanceId)
    → AreOfRoster roster table → IsAnswer table spi si a → AreKnown roster s.visits → Follows functions s a (Ends end visits) → Known roster end visits
end_known roster functions table s spi si NoPath end visits all answer known follows =
    let e : end ≡ Drop reason.NoPath = cc in
    let v : visits ≡ s.visits = cc in
    same_known roster (Drop reason.NoPath) end s.visits visits e v tt known
end_known roster functions table s spi si (NoInstance at) end visits all answer known follows =
    let e : end ≡ Drop (reason.NoInstance at) = cc in
    let v : visits ≡ s.visits = cc in
    same_known roster (Drop (reason.NoInstance at)) end s.visits visits e v tt known
end_known roster functions table s spi si Ended end visits all answer known follows =
    let e : end ≡ Egress = cc in
    let v : visits ≡ s.visits = cc in
    same_known roster Egress end s.visits visits e v tt known
end_known roster functions table s spi si (At at other instance) end visits all answer known follows =
    let here = answer_known roster table spi si at other instance all answer in
    same_known roster (Drop (reason_of follows.1 instance)) end (s.visits ++ instance ∷ []) visits follows.3 follows.4 (reason_known roster follows.1 instance here) (All-push (IsInstance roster) s.visits instance known here)

next_known : (roster : Entries) (functions : List Function) (table : List ServicePath) (s : Station) (spi si : ℕ) (a : Answer) (next : Station)
    → AreOfRoster roster table → IsAnswer table spi si a → AreKnown roster s.visits → Follows functions s a (GoesOn next) → AreKnown roster next.visits
next_known roster functions table s spi si NoPath next all answer known follows = absurd (cc)
next_known roster functions table s spi si (NoInstance at) next all answer known follows = absurd (cc)
next_known roster functions table s spi si Ended next all answer known follows = absurd (cc)
next_known roster functions table s spi si (At at other instance) next all answer known (inl x) = subst (λ (n : Station). AreKnown roster n.visits) (sym x.1) known
next_known roster functions table s spi si (At at other instance) next all answer known (inr x) =
    let here = answer_known roster table spi si at other instance all answer in
    subst (λ (n : Station). AreKnown roster n.visits) (sym x.2) (All-push (IsInstance roster) s.visits instance known here)

walk_known : (roster : Entries) (functions : List Function) (s : Station) (later : List Station) (tables : List (List ServicePath)) (end : End) (visits : List InstanceId)
    → AllByRecursion (AreOfRoster roster) tables → AreKnown roster s.visits → WalkFrom functions s later tables end visits → Known roster end visits
walk_known roster functions s [] [] end visits all known w = same_known roster (Drop reason.Ttl) end s.visits visits w.1 w.2 tt known
walk_known roster functions s [] (t ∷ []) end visits all known w = end_known roster functions t s s.header.head.path.spi s.header.head.path.si w.answer end visits all.0 w.answered known w.follows
walk_known roster functions s [] (t ∷ u ∷ ts) end visits all known w = absurd w
walk_known roster functions s (n ∷ later) [] end visits all known w = absurd w
walk_known roster functions s (n ∷ later) (t ∷ ts) end visits all known w =
    walk_known roster functions n later ts end visits all.1 (next_known roster functions t s s.header.head.path.spi s.header.head.path.si w.0.answer n all.0 w.0.answered known w.0.follows) w.1

none_known : (roster : Entries) → AreKnown roster []
none_known roster = λ k d lt. absurd (omega arith)

by_verdict : (setup : Parts) (frame : Captured) (v : Verdict) (walk : Walk) → AllByRecursion (AreOfRoster setup.roster) walk.tables → WalksBy setup frame v walk → Known setup.roster walk.end walk.visits
by_verdict setup frame (verdict.Path spi si ttl context) walk all w =
    walk_known setup.roster (functions_of setup.instances) (first_station setup.ingress frame (first_header spi si ttl context)) w.0 walk.tables walk.end walk.visits all (none_known setup.roster) w.3
by_verdict setup frame verdict.Bypass walk all w = subst (λ (x : Walk). Known setup.roster x.end x.visits) (sym w) (record { visits_known = none_known setup.roster; end_known = tt })
by_verdict setup frame verdict.Refuse walk all w = subst (λ (x : Walk). Known setup.roster x.end x.visits) (sym w) (record { visits_known = none_known setup.roster; end_known = tt })
by_verdict setup frame verdict.NshIngress walk all w = subst (λ (x : Walk). Known setup.roster x.end x.visits) (sym w) (record { visits_known = none_known setup.roster; end_known = tt })

pub named : (setup : Parts) (frame : Captured) (walk : Walk) (r : Record) → AllByRecursion (AreOfRoster setup.roster) walk.tables → IsWalk setup frame walk → Tells r walk → Names setup.roster r
named setup frame walk r all w tells =
    let known = by_verdict setup frame w.verdict walk all w.walks in
    record {
      visits_known = subst (AreKnown setup.roster) (sym tells.visits) known.visits_known;
      end_known = subst (EndNames setup.roster) (sym tells.end) known.end_known;
    }
