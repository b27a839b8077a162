-- Where a conversion stands, from step to step: a piece that was read, a part that was put, what waits that was written, the end.
use Rattle.std.proofs.Common.{◌≡◌, ◌≢◌, inl, inr, ℕ, ◌+◌, ◌^◌, ◌<◌, ◌≤◌, Bool, true, false, List, [], ◌++◌, length, Ok, Err, refl, sym, ap, ◌∙◌, subst, append_assoc, arith}
use Rattle.std.proofs.lemmas.List.{append-nil, append_cancel_right, length-append}
use Rattle.sfc_desk.specs.declared.ports.Port.{Port}
use Rattle.sfc_desk.specs.Desks.{Shown, Rose, Elsewhere}
use Rattle.commands.specs.declared.statuses.Status.{Status}
use Rattle.commands.specs.declared.statuses.Status.TheVariants as status
use Rattle.commands.specs.Fronts.{IsFront}
use Rattle.commands.specs.Pieces.{NoneBound, SameCounts}
use Rattle.commands.proofs.PlaceLemmas.{rose_from}
use Rattle.frame_streams.specs.Streams.{IsAtEnd}
use Rattle.frame_streams.specs.Turning.{OutputRelation, IsFrontFor, Stops, IsStop, NextSays, EndSays, IsEnd, StandsAt, FrontOfAll, Breaks, FailsOn, ReadStops, WriteStops, Counts, IsEither, Told, Ends, wrote_all, wrote_front, wrote_none, is_told, Works, Converts}

-- what a converter has turned
abbrev pub Turning : Type 1
Turning = List ℕ → List ℕ → Type 0

is_told_no : (b : Bool) → b ≡ true → b ≡ false → ⊥
is_told_no b holds denied = cc

-- ---- a piece was read

-- what is a front whatever comes behind some bytes, is one whatever comes behind these and a piece
front_more : (W : OutputRelation) (taken piece out : List ℕ) → IsFrontFor W taken out → IsFrontFor W (taken ++ piece) out
front_more W taken piece out front = λ left answer all writes. front (piece ++ left) answer all (subst (λ l. W l answer all) (append_assoc taken piece left) writes)

pub read_on : {S : Type 0} (W : S → OutputRelation) (words said said' : S) (T T' : Turning) (count count' : ℕ) (tells : Bool) (whole left left' written waits piece : List ℕ) → said' ≡ said → count' ≡ count + length piece → (tells ≡ true → left ≡ piece ++ left') → ((taken out : List ℕ) → T taken out → T' (taken ++ piece) out)
    → StandsAt W words said T count tells whole left written waits → StandsAt W words said' T' count' tells whole left' written waits
read_on {S} W words said said' T T' count count' tells whole left left' written waits piece same counts split step s =
    let size = s.size in
    let more = length-append s.taken piece in
    record {
      same = same ∙ s.same;
      taken = s.taken ++ piece;
      put = s.put;
      turned = step s.taken (s.put ++ waits) s.turned;
      front = front_more (W words) s.taken piece (s.put ++ waits) s.front;
      size = omega (arith, size, more, counts);
      joined = λ told. append_assoc s.taken piece left' ∙ (ap (λ l. s.taken ++ l) (sym (split told)) ∙ s.joined told);
      put_is = s.put_is;
    }

-- nothing more was there
pub read_none : {S : Type 0} (W : S → OutputRelation) (words said : S) (T : Turning) (count : ℕ) (tells : Bool) (whole left left' written waits : List ℕ) → (tells ≡ true → left ≡ left') → StandsAt W words said T count tells whole left written waits → StandsAt W words said T count tells whole left' written waits
read_none {S} W words said T count tells whole left left' written waits same s = record {
  same = s.same;
  taken = s.taken;
  put = s.put;
  turned = s.turned;
  front = s.front;
  size = s.size;
  joined = λ told. ap (λ l. s.taken ++ l) (sym (same told)) ∙ s.joined told;
  put_is = s.put_is;
}

pub long_whole : {S : Type 0} (W : S → OutputRelation) (words said : S) (T : Turning) (count more : ℕ) (tells : Bool) (whole left left' written waits piece : List ℕ) → tells ≡ true → left ≡ piece ++ left' → more ≡ count + length piece → StandsAt W words said T count tells whole left written waits → 2 ^ 40 < more → 2 ^ 40 < length whole
long_whole {S} W words said T count more tells whole left left' written waits piece told split counts s past =
    let size = s.size in
    let behind : length left ≡ length piece + length left' = ap length split ∙ length-append piece left' in
    let all : length whole ≡ length s.taken + length left = ap length (sym (s.joined told)) ∙ length-append s.taken left in
    omega (arith, size, all, past, behind, counts)

-- ---- a part was put

pub put_on : {S : Type 0} (W : S → OutputRelation) (words said said' : S) (T T' : Turning) (Quiet : Type 0) (count count' : ℕ) (tells : Bool) (whole left written waits waits' : List ℕ) (more : Bool) → said' ≡ said → count' ≡ count → ((taken put : List ℕ) → T taken (put ++ waits) → NextSays (T' taken) Quiet (W said) taken (put ++ waits') (Ok more))
    → StandsAt W words said T count tells whole left written waits → StandsAt W words said' T' count' tells whole left written waits'
put_on {S} W words said said' T T' Quiet count count' tells whole left written waits waits' more same counts step s =
    let next = step s.taken s.put s.turned in
    record {
      same = same ∙ s.same;
      taken = s.taken;
      put = s.put;
      turned = next.0;
      front = subst (λ (w : S). IsFrontFor (W w) s.taken (s.put ++ waits')) s.same next.1;
      size = counts ∙ s.size;
      joined = s.joined;
      put_is = s.put_is;
    }

pub put_rests : {S : Type 0} (W : S → OutputRelation) (words said : S) (T T' : Turning) (Quiet : Type 0) (count : ℕ) (tells : Bool) (whole left written waits waits' : List ℕ) (more : Bool) → more ≡ false → ((taken put : List ℕ) → T taken (put ++ waits) → NextSays (T' taken) Quiet (W said) taken (put ++ waits') (Ok more))
    → StandsAt W words said T count tells whole left written waits → Quiet
put_rests {S} W words said T T' Quiet count tells whole left written waits waits' more none step s = (step s.taken s.put s.turned).2 none

-- ---- what waits was written, or not

pub write_on : {S : Type 0} (W : S → OutputRelation) (words said : S) (T : Turning) (count : ℕ) (tells : Bool) (whole left written waits written' waits' : List ℕ) (wanted : Bool) → (tells ≡ true → written' ++ waits' ≡ written ++ waits) → (wanted ≡ true → waits' ≡ []) → (wanted ≡ false → waits' ≡ waits)
    → StandsAt W words said T count tells whole left written waits → StandsAt W words said T count tells whole left written' waits'
write_on {S} W words said T count tells whole left written waits written' waits' true ok nothing kept s =
    let same : s.put ++ waits ≡ (s.put ++ waits) ++ waits' = sym (append-nil (s.put ++ waits)) ∙ ap (λ l. (s.put ++ waits) ++ l) (sym (nothing refl)) in
    record {
      same = s.same;
      taken = s.taken;
      put = s.put ++ waits;
      turned = subst (λ l. T s.taken l) same s.turned;
      front = subst (λ l. IsFrontFor (W words) s.taken l) same s.front;
      size = s.size;
      joined = s.joined;
      put_is = λ told. ap (λ l. l ++ waits) (s.put_is told) ∙ (sym (ok told) ∙ (ap (λ l. written' ++ l) (nothing refl) ∙ append-nil written'));
    }
write_on {S} W words said T count tells whole left written waits written' waits' false ok nothing kept s = record {
  same = s.same;
  taken = s.taken;
  put = s.put;
  turned = subst (λ l. T s.taken (s.put ++ l)) (sym (kept refl)) s.turned;
  front = subst (λ l. IsFrontFor (W words) s.taken (s.put ++ l)) (sym (kept refl)) s.front;
  size = s.size;
  joined = s.joined;
  put_is = λ told. s.put_is told ∙ append_cancel_right written written' waits (sym (ok told) ∙ ap (λ l. written' ++ l) (kept refl));
}

-- ---- fronts

front_then : (xs ys zs : List ℕ) → IsFront xs ys → IsFront ys zs → IsFront xs zs
front_then xs ys zs one two = (one.0 ++ two.0, sym (append_assoc xs one.0 two.0) ∙ (ap (λ l. l ++ two.0) one.1 ∙ two.1))

front_of_put : (put written waits all : List ℕ) → put ≡ written → IsFront (put ++ waits) all → IsFront (written ++ waits) all
front_of_put put written waits all is front = (front.0, ap (λ l. (l ++ waits) ++ front.0) (sym is) ∙ front.1)

-- of all that is written for the whole
pub front_all : {S : Type 0} (W : S → OutputRelation) (words said : S) (T : Turning) (count : ℕ) (tells : Bool) (whole left written waits : List ℕ) → tells ≡ true → StandsAt W words said T count tells whole left written waits → FrontOfAll (W words) whole (written ++ waits)
front_all {S} W words said T count tells whole left written waits told s = λ answer all writes.
    front_of_put s.put written waits all (s.put_is told) (s.front left answer all (subst (λ l. W words l answer all) (sym (s.joined told)) writes))

pub front_at : {S : Type 0} (W : S → OutputRelation) (words said : S) (T : Turning) (count : ℕ) (tells : Bool) (whole left written waits part : List ℕ) → tells ≡ true → StandsAt W words said T count tells whole left written waits → IsFront part (written ++ waits) → FrontOfAll (W words) whole part
front_at {S} W words said T count tells whole left written waits part told s front = λ answer all writes.
    front_then part (written ++ waits) all front (front_all W words said T count tells whole left written waits told s answer all writes)

-- what was written is a front of what was written and waits
pub before_waits : (written waits : List ℕ) → IsFront written (written ++ waits)
before_waits written waits = (waits, refl)

-- ---- a step that is not done

stop_breaks : {S : Type 0} (W : S → OutputRelation) (words said : S) (T : Turning) (count : ℕ) (tells : Bool) (whole left written waits waits' : List ℕ) (answer : Status) → tells ≡ true → (s : StandsAt W words said T count tells whole left written waits) → Stops (W said) s.taken (s.put ++ waits') answer → W words whole answer (written ++ waits') × FrontOfAll (W words) whole (written ++ waits') × (IsAtEnd answer → ⊥)
stop_breaks {S} W words said T count tells whole left written waits waits' answer told s stops =
    let at : Stops (W words) s.taken (s.put ++ waits') answer = subst (λ (w : S). Stops (W w) s.taken (s.put ++ waits') answer) s.same stops in (
      subst (λ l. W words l answer (written ++ waits')) (s.joined told) (subst (λ l. W words (s.taken ++ left) answer (l ++ waits')) (s.put_is told) (at.written left)),
      λ other all writes. front_of_put s.put written waits' all (s.put_is told) (at.front left other all (subst (λ l. W words l other all) (sym (s.joined told)) writes)),
      at.on_the_way,
    )

pub next_breaks : {S : Type 0} (W : S → OutputRelation) (words said : S) (T T' : Turning) (Quiet : Type 0) (count : ℕ) (tells : Bool) (whole left written waits waits' : List ℕ) (answer : Status) → tells ≡ true → ((taken put : List ℕ) → T taken (put ++ waits) → NextSays (T' taken) Quiet (W said) taken (put ++ waits') (Err answer)) → StandsAt W words said T count tells whole left written waits → Breaks (W words) whole (written ++ waits') written answer
next_breaks {S} W words said T T' Quiet count tells whole left written waits waits' (status.Capture place reason) told step s =
    stop_breaks W words said T count tells whole left written waits waits' (status.Capture place reason) told s (step s.taken s.put s.turned)
next_breaks {S} W words said T T' Quiet count tells whole left written waits waits' (status.Pcapng place reason) told step s =
    stop_breaks W words said T count tells whole left written waits waits' (status.Pcapng place reason) told s (step s.taken s.put s.turned)
next_breaks {S} W words said T T' Quiet count tells whole left written waits waits' status.Memory told step s =
    front_at W words said T count tells whole left written waits written told s (before_waits written waits)
next_breaks {S} W words said T T' Quiet count tells whole left written waits waits' status.Ok told step s = absurd (step s.taken s.put s.turned)
next_breaks {S} W words said T T' Quiet count tells whole left written waits waits' status.Words told step s = absurd (step s.taken s.put s.turned)
next_breaks {S} W words said T T' Quiet count tells whole left written waits waits' (status.File port) told step s = absurd (step s.taken s.put s.turned)
next_breaks {S} W words said T T' Quiet count tells whole left written waits waits' (status.Long port) told step s = absurd (step s.taken s.put s.turned)
next_breaks {S} W words said T T' Quiet count tells whole left written waits waits' (status.Setup number reason) told step s = absurd (step s.taken s.put s.turned)
next_breaks {S} W words said T T' Quiet count tells whole left written waits waits' (status.Control place reason) told step s = absurd (step s.taken s.put s.turned)
next_breaks {S} W words said T T' Quiet count tells whole left written waits waits' (status.Records number) told step s = absurd (step s.taken s.put s.turned)

pub write_breaks : (W : OutputRelation) (whole out part : List ℕ) (output : Port) (then now : Port → Shown) (answer : Status) → FrontOfAll W whole part → WriteStops output then now answer → Breaks W whole out part answer
write_breaks W whole out part output then now (status.File port) front stops = front
write_breaks W whole out part output then now status.Ok front stops = absurd stops
write_breaks W whole out part output then now status.Words front stops = absurd stops
write_breaks W whole out part output then now (status.Capture place reason) front stops = absurd stops
write_breaks W whole out part output then now (status.Pcapng place reason) front stops = absurd stops
write_breaks W whole out part output then now status.Memory front stops = absurd stops
write_breaks W whole out part output then now (status.Long port) front stops = absurd stops
write_breaks W whole out part output then now (status.Setup number reason) front stops = absurd stops
write_breaks W whole out part output then now (status.Control place reason) front stops = absurd stops
write_breaks W whole out part output then now (status.Records number) front stops = absurd stops

pub read_breaks : (W : OutputRelation) (whole out part : List ℕ) (input : Port) (then now : Port → Shown) (answer : Status) → FrontOfAll W whole part → (answer ≡ status.Long input → 2 ^ 40 < length whole) → ReadStops input then now answer → Breaks W whole out part answer
read_breaks W whole out part input then now (status.File port) front long stops = front
read_breaks W whole out part input then now (status.Long port) front long stops = (long (ap status.Long stops.0), front)
read_breaks W whole out part input then now status.Memory front long stops = front
read_breaks W whole out part input then now status.Ok front long stops = absurd stops
read_breaks W whole out part input then now status.Words front long stops = absurd stops
read_breaks W whole out part input then now (status.Capture place reason) front long stops = absurd stops
read_breaks W whole out part input then now (status.Pcapng place reason) front long stops = absurd stops
read_breaks W whole out part input then now (status.Setup number reason) front long stops = absurd stops
read_breaks W whole out part input then now (status.Control place reason) front long stops = absurd stops
read_breaks W whole out part input then now (status.Records number) front long stops = absurd stops

-- ---- counts of faults

-- a call that failed on one port
pub fails_on : (IsOwn : Port → Type 0) (port : Port) (then now : Port → Shown) → IsOwn port → Rose (then port) (now port) → Elsewhere port then now → FailsOn IsOwn then now port
fails_on IsOwn port then now own rose elsewhere = record { own = own; rose = rose; others = λ other ne. ap (λ (s : Shown). s.faults) (elsewhere other ne) }

fails_later : (IsOwn IsAny : Port → Type 0) (then mid now : Port → Shown) (port : Port) → ((p : Port) → IsOwn p → IsAny p) → SameCounts then mid → FailsOn IsOwn mid now port → FailsOn IsAny then now port
fails_later IsOwn IsAny then mid now port wider same fails = record {
  own = wider port fails.own;
  rose = rose_from (then port) (mid port) (now port) (same port) fails.rose;
  others = λ other ne. fails.others other ne ∙ same other;
}

pub counts_later : (IsOwn IsAny IsLong IsAnyLong : Port → Type 0) (then mid now : Port → Shown) (answer : Status) → ((p : Port) → IsOwn p → IsAny p) → ((p : Port) → IsLong p → IsAnyLong p) → SameCounts then mid → Counts IsOwn IsLong mid now answer → Counts IsAny IsAnyLong then now answer
counts_later IsOwn IsAny IsLong IsAnyLong then mid now status.Ok wider longer same counts = λ p. counts p ∙ same p
counts_later IsOwn IsAny IsLong IsAnyLong then mid now (status.File port) wider longer same counts = fails_later IsOwn IsAny then mid now port wider same counts
counts_later IsOwn IsAny IsLong IsAnyLong then mid now (status.Capture place reason) wider longer same counts = λ p. counts p ∙ same p
counts_later IsOwn IsAny IsLong IsAnyLong then mid now (status.Pcapng place reason) wider longer same counts = λ p. counts p ∙ same p
counts_later IsOwn IsAny IsLong IsAnyLong then mid now (status.Long port) wider longer same counts = (longer port counts.0, λ p. counts.1 p ∙ same p)
counts_later IsOwn IsAny IsLong IsAnyLong then mid now status.Memory wider longer same counts = λ p. counts p ∙ same p
counts_later IsOwn IsAny IsLong IsAnyLong then mid now status.Words wider longer same counts = absurd counts
counts_later IsOwn IsAny IsLong IsAnyLong then mid now (status.Setup number reason) wider longer same counts = absurd counts
counts_later IsOwn IsAny IsLong IsAnyLong then mid now (status.Control place reason) wider longer same counts = absurd counts
counts_later IsOwn IsAny IsLong IsAnyLong then mid now (status.Records number) wider longer same counts = absurd counts

pub read_counts : (input : Port) (then now : Port → Shown) (answer : Status) → ReadStops input then now answer → Counts (λ port. port ≡ input) (λ port. port ≡ input) then now answer
read_counts input then now (status.File port) stops = stops
read_counts input then now (status.Long port) stops = stops
read_counts input then now status.Memory stops = stops
read_counts input then now status.Ok stops = absurd stops
read_counts input then now status.Words stops = absurd stops
read_counts input then now (status.Capture place reason) stops = absurd stops
read_counts input then now (status.Pcapng place reason) stops = absurd stops
read_counts input then now (status.Setup number reason) stops = absurd stops
read_counts input then now (status.Control place reason) stops = absurd stops
read_counts input then now (status.Records number) stops = absurd stops

pub write_counts : (IsLong : Port → Type 0) (output : Port) (then now : Port → Shown) (answer : Status) → WriteStops output then now answer → Counts (λ port. port ≡ output) IsLong then now answer
write_counts IsLong output then now (status.File port) stops = stops
write_counts IsLong output then now status.Ok stops = absurd stops
write_counts IsLong output then now status.Words stops = absurd stops
write_counts IsLong output then now (status.Capture place reason) stops = absurd stops
write_counts IsLong output then now (status.Pcapng place reason) stops = absurd stops
write_counts IsLong output then now status.Memory stops = absurd stops
write_counts IsLong output then now (status.Long port) stops = absurd stops
write_counts IsLong output then now (status.Setup number reason) stops = absurd stops
write_counts IsLong output then now (status.Control place reason) stops = absurd stops
write_counts IsLong output then now (status.Records number) stops = absurd stops

-- a stop, where no count changed
pub stop_counts : (IsOwn IsLong : Port → Type 0) (then now : Port → Shown) (answer : Status) → IsStop answer → SameCounts then now → Counts IsOwn IsLong then now answer
stop_counts IsOwn IsLong then now (status.Capture place reason) stop same = same
stop_counts IsOwn IsLong then now (status.Pcapng place reason) stop same = same
stop_counts IsOwn IsLong then now status.Memory stop same = same
stop_counts IsOwn IsLong then now status.Ok stop same = absurd stop
stop_counts IsOwn IsLong then now (status.File port) stop same = absurd stop
stop_counts IsOwn IsLong then now status.Words stop same = absurd stop
stop_counts IsOwn IsLong then now (status.Long port) stop same = absurd stop
stop_counts IsOwn IsLong then now (status.Setup number reason) stop same = absurd stop
stop_counts IsOwn IsLong then now (status.Control place reason) stop same = absurd stop
stop_counts IsOwn IsLong then now (status.Records number) stop same = absurd stop

-- one of the two ports
pub either_input : (input output : Port) (port : Port) → port ≡ input → IsEither input output port
either_input input output port is = inl is

pub either_output : (input output : Port) (port : Port) → port ≡ output → IsEither input output port
either_output input output port is = inr is

-- an end, where no count changed
pub end_counts : (IsOwn IsLong : Port → Type 0) (then now : Port → Shown) (answer : Status) → IsEnd answer → SameCounts then now → Counts IsOwn IsLong then now answer
end_counts IsOwn IsLong then now status.Ok end same = same
end_counts IsOwn IsLong then now (status.Capture place reason) end same = same
end_counts IsOwn IsLong then now (status.Pcapng place reason) end same = same
end_counts IsOwn IsLong then now status.Memory end same = same
end_counts IsOwn IsLong then now (status.File port) end same = absurd end
end_counts IsOwn IsLong then now status.Words end same = absurd end
end_counts IsOwn IsLong then now (status.Long port) end same = absurd end
end_counts IsOwn IsLong then now (status.Setup number reason) end same = absurd end
end_counts IsOwn IsLong then now (status.Control place reason) end same = absurd end
end_counts IsOwn IsLong then now (status.Records number) end same = absurd end

-- ---- the end of the input

pub breaks_told : (W : OutputRelation) (whole left out written : List ℕ) (answer : Status) → Breaks W whole out written answer → Told W whole left out written answer
breaks_told W whole left out written (status.Capture place reason) breaks = (breaks.0, λ end. absurd (breaks.2 end))
breaks_told W whole left out written (status.Pcapng place reason) breaks = (breaks.0, λ end. absurd (breaks.2 end))
breaks_told W whole left out written (status.Long port) breaks = breaks
breaks_told W whole left out written (status.File port) breaks = breaks
breaks_told W whole left out written status.Memory breaks = breaks
breaks_told W whole left out written status.Ok breaks = absurd breaks
breaks_told W whole left out written status.Words breaks = absurd breaks
breaks_told W whole left out written (status.Setup number reason) breaks = absurd breaks
breaks_told W whole left out written (status.Control place reason) breaks = absurd breaks
breaks_told W whole left out written (status.Records number) breaks = absurd breaks

-- by the words of the command
pub end_said : {S : Type 0} (W : S → OutputRelation) (words said : S) (whole out : List ℕ) (answer : Status) → said ≡ words → EndSays (W said) whole out answer → EndSays (W words) whole out answer
end_said {S} W words said whole out answer same says = subst (λ (w : S). EndSays (W w) whole out answer) same says

-- and then what was made is a front of all
pub breaks_front : (W : OutputRelation) (whole out written : List ℕ) (answer : Status) → is_told answer ≡ true → Breaks W whole out written answer → FrontOfAll W whole out
breaks_front W whole out written (status.Capture place reason) told breaks = breaks.1
breaks_front W whole out written (status.Pcapng place reason) told breaks = breaks.1
breaks_front W whole out written (status.Long port) told breaks = absurd (is_told_no false told refl)
breaks_front W whole out written (status.File port) told breaks = absurd (is_told_no false told refl)
breaks_front W whole out written status.Memory told breaks = absurd (is_told_no false told refl)
breaks_front W whole out written status.Ok told breaks = absurd breaks
breaks_front W whole out written status.Words told breaks = absurd breaks
breaks_front W whole out written (status.Setup number reason) told breaks = absurd breaks
breaks_front W whole out written (status.Control place reason) told breaks = absurd breaks
breaks_front W whole out written (status.Records number) told breaks = absurd breaks

-- all of the input was taken, and what was put and waits was made of it
pub record TakenWhole (T : Turning) (whole out : List ℕ) : Type 0 where
  pub turned : T whole out
  pub within : length whole ≤ 2 ^ 40

pub taken_whole : {S : Type 0} (W : S → OutputRelation) (words said : S) (T : Turning) (count : ℕ) (tells : Bool) (whole left written waits : List ℕ) → tells ≡ true → left ≡ [] → count ≤ 2 ^ 40 → StandsAt W words said T count tells whole left written waits → TakenWhole T whole (written ++ waits)
taken_whole {S} W words said T count tells whole left written waits told none few s =
    let all : s.taken ≡ whole = sym (append-nil s.taken) ∙ (ap (λ l. s.taken ++ l) (sym none) ∙ s.joined told) in
    let size = s.size in
    let len : length s.taken ≡ length whole = ap length all in
    record {
      turned = subst (λ l. T l (written ++ waits)) all (subst (λ l. T s.taken (l ++ waits)) (s.put_is told) s.turned);
      within = omega (arith, size, len, few);
    }

pub end_told : (T : Turning) (W : OutputRelation) (whole left written waits : List ℕ) (answer : Status) → left ≡ [] → FrontOfAll W whole (written ++ waits) → TakenWhole T whole (written ++ waits) → EndSays W whole (written ++ waits) answer → Told W whole left (written ++ waits) written answer
end_told T W whole left written waits status.Ok none front all says = (says, all.within, none)
end_told T W whole left written waits (status.Capture place reason) none front all says = (says, λ end. all.within)
end_told T W whole left written waits (status.Pcapng place reason) none front all says = (says, λ end. all.within)
end_told T W whole left written waits status.Memory none front all says = λ answer made writes.
    front_then written (written ++ waits) made (before_waits written waits) (front answer made writes)
end_told T W whole left written waits (status.File port) none front all says = absurd says
end_told T W whole left written waits status.Words none front all says = absurd says
end_told T W whole left written waits (status.Long port) none front all says = absurd says
end_told T W whole left written waits (status.Setup number reason) none front all says = absurd says
end_told T W whole left written waits (status.Control place reason) none front all says = absurd says
end_told T W whole left written waits (status.Records number) none front all says = absurd says

-- ---- what waits is written, and then it is answered

-- all was written
told_all : (W : OutputRelation) (whole left out written : List ℕ) (answer : Status) → is_told answer ≡ true → Told W whole left out written answer → Told W whole left out out answer
told_all W whole left out written status.Ok holds told = told
told_all W whole left out written (status.Capture place reason) holds told = told
told_all W whole left out written (status.Pcapng place reason) holds told = told
told_all W whole left out written (status.Long port) holds told = absurd (is_told_no false holds refl)
told_all W whole left out written (status.File port) holds told = absurd (is_told_no false holds refl)
told_all W whole left out written status.Memory holds told = absurd (is_told_no false holds refl)
told_all W whole left out written status.Words holds told = absurd told
told_all W whole left out written (status.Setup number reason) holds told = absurd told
told_all W whole left out written (status.Control place reason) holds told = absurd told
told_all W whole left out written (status.Records number) holds told = absurd told

-- or a front of it
told_front : (W : OutputRelation) (whole out part : List ℕ) → FrontOfAll W whole out → IsFront part out → FrontOfAll W whole part
told_front W whole out part all front = λ answer made writes. front_then part out made front (all answer made writes)

-- or it was not to be written
told_left : (W : OutputRelation) (whole left out written other : List ℕ) (answer : Status) → is_told answer ≡ false → Told W whole left out written answer → Told W whole left other written answer
told_left W whole left out written other (status.Long port) denied told = told
told_left W whole left out written other (status.File port) denied told = told
told_left W whole left out written other status.Memory denied told = told
told_left W whole left out written other status.Ok denied told = absurd (is_told_no true refl denied)
told_left W whole left out written other (status.Capture place reason) denied told = absurd (is_told_no true refl denied)
told_left W whole left out written other (status.Pcapng place reason) denied told = absurd (is_told_no true refl denied)
told_left W whole left out written other status.Words denied told = absurd told
told_left W whole left out written other (status.Setup number reason) denied told = absurd told
told_left W whole left out written other (status.Control place reason) denied told = absurd told
told_left W whole left out written other (status.Records number) denied told = absurd told

pub works_of : (W : OutputRelation) (input output : Port) (tells : Bool) (then mid now : Port → Shown) (waits : List ℕ) (answer result : Status) → tells ≡ true → input ≢ output → (is_told answer ≡ true → FrontOfAll W (then input).left ((mid output).written ++ waits)) → Elsewhere output mid now → Told W (then input).left (mid input).left ((mid output).written ++ waits) (mid output).written answer → Ends output tells mid now waits answer result → Works W input output then now result
works_of W input output tells then mid now waits answer result told differs front_too elsewhere says (wrote_all holds is written same) =
    let left : (mid input).left ≡ (now input).left = ap (λ (s : Shown). s.left) (sym (elsewhere input differs)) in
    let out : (mid output).written ++ waits ≡ (now output).written = sym (written told) in
    subst (λ (s : Status). Works W input output then now s) (sym is)
    (subst (λ l. Told W (then input).left l (now output).written (now output).written answer) left
    (subst (λ l. Told W (then input).left (mid input).left l l answer) out (told_all W (then input).left (mid input).left ((mid output).written ++ waits) (mid output).written answer holds says)))
works_of W input output tells then mid now waits answer result told differs front_too elsewhere says (wrote_front holds is front fails) =
    subst (λ (s : Status). Works W input output then now s) (sym is)
    (told_front W (then input).left ((mid output).written ++ waits) (now output).written (front_too holds) (front told))
works_of W input output tells then mid now waits answer result told differs front_too elsewhere says (wrote_none denied is same) =
    subst (λ (s : Status). Works W input output then now s) (sym is)
    (subst (λ (f : Port → Shown). Told W (then input).left (f input).left (f output).written (f output).written answer) (sym same)
    (told_left W (then input).left (mid input).left ((mid output).written ++ waits) (mid output).written (mid output).written answer denied says))

pub counts_of : (input output : Port) (tells : Bool) (then mid now : Port → Shown) (waits : List ℕ) (answer result : Status) → Counts (IsEither input output) (λ port. port ≡ input) then mid answer → Ends output tells mid now waits answer result → Counts (IsEither input output) (λ port. port ≡ input) then now result
counts_of input output tells then mid now waits answer result counts (wrote_all holds is written same) =
    subst (λ (s : Status). Counts (IsEither input output) (λ port. port ≡ input) then now s) (sym is) (counts_all answer holds counts)
  where
    counts_all : (own : Status) → is_told own ≡ true → Counts (IsEither input output) (λ port. port ≡ input) then mid own → Counts (IsEither input output) (λ port. port ≡ input) then now own
    counts_all status.Ok told was = λ p. same p ∙ was p
    counts_all (status.Capture place reason) told was = λ p. same p ∙ was p
    counts_all (status.Pcapng place reason) told was = λ p. same p ∙ was p
    counts_all (status.Long port) told was = absurd (is_told_no false told refl)
    counts_all (status.File port) told was = absurd (is_told_no false told refl)
    counts_all status.Memory told was = absurd (is_told_no false told refl)
    counts_all status.Words told was = absurd was
    counts_all (status.Setup number reason) told was = absurd was
    counts_all (status.Control place reason) told was = absurd was
    counts_all (status.Records number) told was = absurd was
counts_of input output tells then mid now waits answer result counts (wrote_front holds is front fails) =
    subst (λ (s : Status). Counts (IsEither input output) (λ port. port ≡ input) then now s) (sym is)
    (fails_later (λ own. own ≡ output) (IsEither input output) then mid now output (λ p own. inr own) (counts_told answer holds counts) fails)
  where
    counts_told : (own : Status) → is_told own ≡ true → Counts (IsEither input output) (λ port. port ≡ input) then mid own → SameCounts then mid
    counts_told status.Ok told was = was
    counts_told (status.Capture place reason) told was = was
    counts_told (status.Pcapng place reason) told was = was
    counts_told (status.Long port) told was = absurd (is_told_no false told refl)
    counts_told (status.File port) told was = absurd (is_told_no false told refl)
    counts_told status.Memory told was = absurd (is_told_no false told refl)
    counts_told status.Words told was = absurd was
    counts_told (status.Setup number reason) told was = absurd was
    counts_told (status.Control place reason) told was = absurd was
    counts_told (status.Records number) told was = absurd was
counts_of input output tells then mid now waits answer result counts (wrote_none denied is same) =
    subst (λ (s : Status). Counts (IsEither input output) (λ port. port ≡ input) then now s) (sym is)
    (subst (λ (f : Port → Shown). Counts (IsEither input output) (λ port. port ≡ input) then f answer) (sym same) counts)

-- ---- the whole

-- nothing was done, for want of memory
pub none_done : (W : OutputRelation) (input output : Port) (tells : Bool) (then : Port → Shown) → NoneBound tells then then → (tells ≡ true → (then output).written ≡ []) → Converts W input output tells then then status.Memory
none_done W input output tells then none empty = record {
  works = λ holds answer all writes. (all, ap (λ l. l ++ all) (empty holds));
  counts = λ port. refl;
  none_bound = none;
  others = λ port ne ne'. refl;
}

-- before the first piece
pub fresh_stands : {S : Type 0} (W : S → OutputRelation) (words : S) (T : Turning) (count : ℕ) (tells : Bool) (left written waits : List ℕ) → T [] [] → count ≡ 0 → waits ≡ [] → (tells ≡ true → written ≡ []) → StandsAt W words words T count tells left left written waits
fresh_stands {S} W words T count tells left written waits fresh zero_count none empty = record {
  same = refl;
  taken = [];
  put = [];
  turned = subst (λ l. T [] l) (sym none) fresh;
  front = λ rest answer all writes. (all, ap (λ l. l ++ all) none);
  size = zero_count;
  joined = λ holds. refl;
  put_is = λ holds. sym (empty holds);
}

-- no port was bound in both parts
pub none_bound_then : (tells : Bool) (then mid now : Port → Shown) → NoneBound tells then mid → NoneBound tells mid now → NoneBound tells then now
none_bound_then tells then mid now one two = record { binds = λ port. two.binds port ∙ one.binds port; names = λ holds port. two.names holds port ∙ one.names holds port }

-- where it ends with Ok, all that was made was written
pub ended_ok : (T : List ℕ → Type 0) (output : Port) (tells : Bool) (mid now : Port → Shown) (waits : List ℕ) (answer result : Status) → tells ≡ true → result ≡ status.Ok → (answer ≡ status.Ok → T ((mid output).written ++ waits)) → Ends output tells mid now waits answer result → T (now output).written
ended_ok T output tells mid now waits answer result told ok turned (wrote_all holds is written same) = subst T (sym (written told)) (turned (sym is ∙ ok))
ended_ok T output tells mid now waits answer result told ok turned (wrote_front holds is front fails) =
    let other : status.File output ≡ status.Ok = sym is ∙ ok in cc
ended_ok T output tells mid now waits answer result told ok turned (wrote_none denied is same) =
    absurd (is_told_no (is_told answer) (ap is_told (sym is ∙ ok)) denied)
