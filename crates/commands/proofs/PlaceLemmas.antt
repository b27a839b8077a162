-- The ports of a row: what stays of them while others are bound, and when the work behind the binds is done.
use Rattle.std.proofs.Common.{◌≡◌, ◌≢◌, ◌⊎◌, inl, inr, ℕ, Bool, true, false, List, [], ◌∷◌, ◌++◌, Result, Ok, Err, OnOk, OnErr, append-nil, refl, sym, ap, ◌∙◌, subst, arith}
use Rattle.std.proofs.lemmas.Bool.{cases_eq}
use Rattle.sfc_desk.specs.declared.desks.Failed.{Failed}
use Rattle.sfc_desk.specs.declared.ports.Port.{Port}
use Rattle.sfc_desk.specs.declared.ports.Port.TheVariants.{Report}
use Rattle.sfc_desk.specs.Desks.{Shown, Files, Rose, Elsewhere, IsAbsent, Keeps, raised, name_shown}
use Rattle.sfc_desk.specs.Ports.{is_input, number_of}
use Rattle.sfc_desk.proofs.PortLemmas.{number_of-injective}
use Rattle.commands.specs.declared.statuses.Status.{Status}
use Rattle.commands.specs.declared.statuses.Status.TheVariants.{File}
use Rattle.commands.specs.Commands.{Behaves, FailsAs}
use Rattle.commands.specs.Openings.{Opened, StopsAt}
use Rattle.commands.specs.Outputs.{Outputs, IsAll, PutAt, Puts, TookAll, none_put}
use Rattle.commands.specs.Pieces.{NoneBound}
use Rattle.commands.specs.Places.{Place, opens, reports, HasPort, IsRow, IsOpened, IsUnopened, AreUntouched, OnlyPlaced, OpensAll, OpensInOrder}

-- a port is another one, or not
pub same_or_other : (a b : Port) → (a ≡ b) ⊎ (a ≢ b)
same_or_other a b = elim (cases_eq (number_of a) (number_of b)) [
  | inl same ↦ inl (number_of-injective a b same)
  | inr other ↦ inr (λ e. other (ap number_of e))
]

-- a port of a part is a port of the whole
pub has_front : (front back : List Place) (port : Port) (name : List ℕ) → HasPort front port name → HasPort (front ++ back) port name
has_front [] back port name has = absurd has
has_front (opens own word ∷ front) back port name (inl is) = inl is
has_front (opens own word ∷ front) back port name (inr has) = inr (has_front front back port name has)
has_front (reports ∷ front) back port name (inl is) = inl is
has_front (reports ∷ front) back port name (inr has) = inr (has_front front back port name has)

pub has_back : (front back : List Place) (port : Port) (name : List ℕ) → HasPort back port name → HasPort (front ++ back) port name
has_back [] back port name has = has
has_back (opens own word ∷ front) back port name has = inr (has_back front back port name has)
has_back (reports ∷ front) back port name has = inr (has_back front back port name has)

-- no port stands in two parts of a row
pub apart : (front back : List Place) (port : Port) (a b : List ℕ) → IsRow (front ++ back) → HasPort front port a → HasPort back port b → ⊥
apart [] back port a b row in_front in_back = in_front
apart (opens own word ∷ front) back port a b row (inl is) in_back =
    row.0 b (has_back front back own b (subst (λ (p : Port). HasPort back p b) is.0 in_back))
apart (opens own word ∷ front) back port a b row (inr has) in_back = apart front back port a b row.1 has in_back
apart (reports ∷ front) back port a b row (inl is) in_back =
    row.0 b (has_back front back Report b (subst (λ (p : Port). HasPort back p b) is.0 in_back))
apart (reports ∷ front) back port a b row (inr has) in_back = apart front back port a b row.1 has in_back

-- the ports behind one of a row are others
later_apart : (done later : List Place) (port : Port) (name : List ℕ) → IsRow (done ++ opens port name ∷ later) → (other : List ℕ) → HasPort later port other → ⊥
later_apart [] later port name row = row.0
later_apart (opens own word ∷ done) later port name row = later_apart done later port name row.1
later_apart (reports ∷ done) later port name row = later_apart done later port name row.1

-- what was bound stays so where its ports show the same
opens_kept : (done : List Place) (tells : Bool) (then mid now : Port → Shown) → ((port : Port) (name : List ℕ) → HasPort done port name → now port ≡ mid port) → OpensAll done tells then mid → OpensAll done tells then now
opens_kept [] tells then mid now same all = all
opens_kept (opens own word ∷ done) tells then mid now same all = (
  subst (λ (s : Shown). IsOpened tells word (then own) s) (sym (same own word (inl (refl, refl)))) all.0,
  opens_kept done tells then mid now (λ port name has. same port name (inr has)) all.1,
)
opens_kept (reports ∷ done) tells then mid now same all = opens_kept done tells then mid now (λ port name has. same port name (inr has)) all

-- what was bound stays so where no port is bound
pub opens_stays : (done : List Place) (tells : Bool) (then mid now : Port → Shown) → NoneBound tells mid now → OpensAll done tells then mid → OpensAll done tells then now
opens_stays [] tells then mid now none all = all
opens_stays (opens own word ∷ done) tells then mid now none all = (
  record { once = none.binds own ∙ all.0.once; named = λ told. none.names told own ∙ all.0.named told },
  opens_stays done tells then mid now none all.1,
)
opens_stays (reports ∷ done) tells then mid now none all = opens_stays done tells then mid now none all

-- two parts of a row
opens_both : (front back : List Place) (tells : Bool) (then now : Port → Shown) → OpensAll front tells then now → OpensAll back tells then now → OpensAll (front ++ back) tells then now
opens_both [] back tells then now all more = more
opens_both (opens own word ∷ front) back tells then now all more = (all.0, opens_both front back tells then now all.1 more)
opens_both (reports ∷ front) back tells then now all more = opens_both front back tells then now all more

puts_both : (R : List ℕ → List ℕ → Type 0) (front back : List Place) (then now : Port → Shown) (all : Outputs) → Puts R front then now all → Puts R back then now all → Puts R (front ++ back) then now all
puts_both R [] back then now all put more = more
puts_both R (opens own word ∷ front) back then now all put more = (put.0, puts_both R front back then now all put.1 more)
puts_both R (reports ∷ front) back then now all put more = (put.0, puts_both R front back then now all put.1 more)

-- what was put stays where its ports show the same
puts_kept : (R : List ℕ → List ℕ → Type 0) (done : List Place) (then mid now : Port → Shown) (all : Outputs) → ((port : Port) (name : List ℕ) → HasPort done port name → now port ≡ mid port) → Puts R done then mid all → Puts R done then now all
puts_kept R [] then mid now all same put = put
puts_kept R (opens own word ∷ done) then mid now all same put = (
  λ out. let part = put.0 out in (part.0, subst (λ (s : Shown). PutAt (then own) s part.0) (sym (same own word (inl (refl, refl)))) part.1, part.2),
  puts_kept R done then mid now all (λ port name has. same port name (inr has)) put.1,
)
puts_kept R (reports ∷ done) then mid now all same put = (
  (put.0.0, ap (λ s. s.written) (same Report [] (inl (refl, refl))) ∙ put.0.1, put.0.2),
  puts_kept R done then mid now all (λ port name has. same port name (inr has)) put.1,
)

-- ports that show what they showed
untouched : (later : List Place) (then now : Port → Shown) → ((port : Port) (name : List ℕ) → HasPort later port name → now port ≡ then port) → AreUntouched later then now
untouched [] then now same = tt
untouched (opens own word ∷ later) then now same = (same own word (inl (refl, refl)), untouched later then now (λ port name has. same port name (inr has)))
untouched (reports ∷ later) then now same = (same Report [] (inl (refl, refl)), untouched later then now (λ port name has. same port name (inr has)))

none_put_there : (later : List Place) (then now : Port → Shown) → ((port : Port) (name : List ℕ) → HasPort later port name → now port ≡ then port) → TookAll later then now none_put
none_put_there [] then now same = tt
none_put_there (opens own word ∷ later) then now same = (
  λ out. ([], inr (ap (λ s. s.binds) (same own word (inl (refl, refl))), ap (λ s. s.written) (same own word (inl (refl, refl))), refl), refl),
  none_put_there later then now (λ port name has. same port name (inr has)),
)
none_put_there (reports ∷ later) then now same = (
  ([], ap (λ s. s.written) (same Report [] (inl (refl, refl))) ∙ sym (append-nil (then Report).written), refl),
  none_put_there later then now (λ port name has. same port name (inr has)),
)

-- in order: all that were bound, and then one that was not, or none that was
order_stops : (done later : List Place) (port : Port) (name : List ℕ) (tells : Bool) (then now : Port → Shown) → OpensAll done tells then now → IsUnopened tells (then port) (now port) → AreUntouched later then now → OpensInOrder (done ++ opens port name ∷ later) tells then now
order_stops [] later port name tells then now all not_bound rest = inr (not_bound, rest)
order_stops (opens own word ∷ done) later port name tells then now all not_bound rest = inl (all.0, order_stops done later port name tells then now all.1 not_bound rest)
order_stops (reports ∷ done) later port name tells then now all not_bound rest = order_stops done later port name tells then now all not_bound rest

order_rests : (later : List Place) (tells : Bool) (then now : Port → Shown) → AreUntouched later then now → OpensInOrder later tells then now
order_rests [] tells then now rest = tt
order_rests (opens own word ∷ later) tells then now rest =
    inr (
      record {
        never = ap (λ s. s.binds) rest.0;
        kept = λ told. record { name = ap (λ s. s.name) rest.0; left = ap (λ s. s.left) rest.0; written = ap (λ s. s.written) rest.0 };
      },
      rest.1,
    )
order_rests (reports ∷ later) tells then now rest = order_rests later tells then now rest.1

order_goes : (done later : List Place) (tells : Bool) (then now : Port → Shown) → OpensAll done tells then now → AreUntouched later then now → OpensInOrder (done ++ later) tells then now
order_goes [] later tells then now all rest = order_rests later tells then now rest
order_goes (opens own word ∷ done) later tells then now all rest = inl (all.0, order_goes done later tells then now all.1 rest)
order_goes (reports ∷ done) later tells then now all rest = order_goes done later tells then now all rest

-- a count that rose from one that is the same
pub rose_from : (then mid now : Shown) → mid.faults ≡ then.faults → Rose mid now → Rose then now
rose_from then mid now same rose = omega (arith, same, rose)

-- before the first bind
pub none_opened : (tells : Bool) (then : Port → Shown) → Opened [] tells then then
none_opened tells then = record { all = tt; nothing = λ told. tt; only = λ port none. refl; counts = λ port. refl }

-- one more port is bound
pub opened_next : (r : Result (Unit {0}) Failed) (done : List Place) (port : Port) (name : List ℕ) (tells : Bool) (then mid now : Port → Shown) → IsRow (done ++ opens port name ∷ []) → Opened done tells then mid → OnOk r ((now port).binds ≡ raised (mid port).binds) → (tells ≡ true → OnOk r ((now port).name ≡ name_shown name)) → OnOk r (tells ≡ true → is_input port ≡ false → (now port).written ≡ []) → OnOk r ((now port).faults ≡ (mid port).faults) → Elsewhere port mid now → OnOk r (Opened (done ++ opens port name ∷ []) tells then now)
opened_next (Err e) done port name tells then mid now row was binds named empty quiet elsewhere = tt
opened_next (Ok x) done port name tells then mid now row was binds named empty quiet elsewhere =
    let own : mid port ≡ then port = was.only port (λ n has. apart done (opens port name ∷ []) port n name row has (inl (refl, refl))) in
    let others : (p : Port) (n : List ℕ) → HasPort done p n → now p ≡ mid p =
    λ p n has. elsewhere p (λ is. apart done (opens port name ∷ []) p n name row has (inl (is, refl))) in
    let once : (now port).binds ≡ raised (then port).binds = binds ∙ ap (λ s. raised s.binds) own in
    record {
      all = opens_both done (opens port name ∷ []) tells then now (opens_kept done tells then mid now others was.all) (record { once = once; named = named }, tt);
      nothing = λ told. puts_both IsAll done (opens port name ∷ []) then now none_put (puts_kept IsAll done then mid now none_put others (was.nothing told)) ((λ out. ([], inl (once, empty told out), refl)), tt);
      only = λ p none.
          elsewhere p (λ is. none name (has_back done (opens port name ∷ []) p name (inl (is, refl))))
          ∙ was.only p (λ n has. none n (has_front done (opens port name ∷ []) p n has));
      counts = λ p. elim (same_or_other p port) [
        | inl is ↦ subst (λ q. (now q).faults ≡ (then q).faults) (sym is) (quiet ∙ was.counts port)
        | inr other ↦ ap (λ s. s.faults) (elsewhere p other) ∙ was.counts p
      ];
    }

-- Report is always bound
pub opened_reports : (done : List Place) (tells : Bool) (then now : Port → Shown) → IsRow (done ++ reports ∷ []) → Opened done tells then now → Opened (done ++ reports ∷ []) tells then now
opened_reports done tells then now row was =
    let same : now Report ≡ then Report = was.only Report (λ n has. apart done (reports ∷ []) Report n [] row has (inl (refl, refl))) in
    record {
      all = opens_both done (reports ∷ []) tells then now was.all tt;
      nothing = λ told. puts_both IsAll done (reports ∷ []) then now none_put (was.nothing told) (([], ap (λ s. s.written) same ∙ sym (append-nil (then Report).written), refl), tt);
      only = λ port outside. was.only port (λ n has. outside n (has_front done (reports ∷ []) port n has));
      counts = was.counts;
    }

-- the next port is not bound
pub opened_stops : (r : Result (Unit {0}) Failed) (done later : List Place) (port : Port) (name : List ℕ) (tells : Bool) (held : Files) (then mid now : Port → Shown) → IsRow (done ++ opens port name ∷ later) → Opened done tells then mid → OnErr r ((now port).binds ≡ (mid port).binds) → (tells ≡ true → OnErr r (Keeps (mid port) (now port))) → OnErr r (IsAbsent tells held port name ⊎ Rose (mid port) (now port)) → Elsewhere port mid now → OnErr r (StopsAt (done ++ opens port name ∷ later) tells held then now port)
opened_stops (Ok x) done later port name tells held then mid now row was binds kept cause elsewhere = tt
opened_stops (Err e) done later port name tells held then mid now row was binds kept cause elsewhere =
    let own : mid port ≡ then port = was.only port (λ n has. apart done (opens port name ∷ later) port n name row has (inl (refl, refl))) in
    let before : (p : Port) (n : List ℕ) → HasPort done p n → now p ≡ mid p =
    λ p n has. elsewhere p (λ is. apart done (opens port name ∷ later) p n name row has (inl (is, refl))) in
    let split = later_apart done later port name row in
    let behind : (p : Port) (n : List ℕ) → HasPort later p n → now p ≡ then p =
    λ p n has. elsewhere p (λ is. split n (subst (λ q. HasPort later q n) is has)) ∙ was.only p (λ m in_done. apart done (opens port name ∷ later) p m n row in_done (inr has)) in
    let never : (now port).binds ≡ (then port).binds = binds ∙ ap (λ s. s.binds) own in
    record {
      behaves = record {
        opens_in_order = order_stops done later port name tells then now (opens_kept done tells then mid now before was.all) (record { never = never; kept = λ told. subst (λ s. Keeps s (now port)) own (kept told) }) (untouched later then now behind);
        fails = λ p is. let same : port ≡ p = cc in
            subst (λ q. FailsAs (done ++ opens port name ∷ later) tells held then now q) same (record {
              name = name;
              named = has_back done (opens port name ∷ later) port name (inl (refl, refl));
              cause = elim cause [ inl absent ↦ inl absent | inr rose ↦ inr (subst (λ s. Rose s (now port)) own rose) ];
            });
        counts = λ p differs. ap (λ s. s.faults) (elsewhere p (λ is. differs (ap File (sym is)))) ∙ was.counts p;
        only = λ p none.
            elsewhere p (λ is. none name (has_back done (opens port name ∷ later) p name (inl (is, refl))))
            ∙ was.only p (λ n has. none n (has_front done (opens port name ∷ later) p n has));
      };
      nothing = λ told. puts_both IsAll done (opens port name ∷ later) then now none_put (puts_kept IsAll done then mid now none_put before (was.nothing told)) ((λ out. ([], inr (never, (kept told).written ∙ ap (λ s. s.written) own, refl), refl)), none_put_there later then now behind);
    }

-- the ports were bound, work was done on them, and the later ones were not reached
pub behaves_so : (done later : List Place) (tells : Bool) (held : Files) (then mid now : Port → Shown) (answer : Status) → IsRow (done ++ later) → Opened done tells then mid → NoneBound tells mid now → OnlyPlaced done mid now → ((port : Port) → answer ≡ File port → (name : List ℕ) × HasPort done port name × Rose (mid port) (now port)) → ((port : Port) → answer ≢ File port → (now port).faults ≡ (mid port).faults) → Behaves (done ++ later) tells held then now answer
behaves_so done later tells held then mid now answer row was none only fails counts =
    let behind : (p : Port) (n : List ℕ) → HasPort later p n → now p ≡ then p =
    λ p n has. only p (λ m in_done. apart done later p m n row in_done has) ∙ was.only p (λ m in_done. apart done later p m n row in_done has) in
    record {
      opens_in_order = order_goes done later tells then now (opens_stays done tells then mid now none was.all) (untouched later then now behind);
      fails = λ port is. let cause = fails port is in record {
        name = cause.0;
        named = has_front done later port cause.0 cause.1;
        cause = inr (rose_from (then port) (mid port) (now port) (was.counts port) cause.2);
      };
      counts = λ port differs. counts port differs ∙ was.counts port;
      only = λ p outside.
          only p (λ n has. outside n (has_front done later p n has)) ∙ was.only p (λ n has. outside n (has_front done later p n has));
    }
