-- Each call answers what the rest asks for.
use Rattle.std.proofs.Common.{◌≡◌, ℕ, ◌+◌, List, ◌++◌, length, take, drop, Option, None, Some, Result, Ok, Err, refl, sym, ap, subst, ◌∙◌, arith}
use Rattle.std.specs.Option.{IfSome}
use Rattle.std.proofs.lemmas.List.{length-append, take-append-drop}
use Rattle.wire_base.proofs.SplitLemmas.{same_parts}
use Rattle.pcap_io.specs.declared.forms.Form.{Form}
use Rattle.pcap_io.specs.declared.frames.Captured.{Captured}
use Rattle.pcap_io.specs.declared.frames.PacketHead.{PacketHead}
use Rattle.pcap_io.specs.declared.reasons.Refusal.{Refusal}
use Rattle.pcap_io.specs.Captures.{IsFileHead, IsWithinLimits, packet}
use Rattle.pcap_io.specs.Refusals.{moved, RefusedPacket, HeldHead, HeldPacket}
use Rattle.pcap_io.specs.Fronts.{BeginsWith, frame_of}
use Rattle.pcap_io.specs.Steps.{WholeHead}
use Rattle.pcap_io.specs.Calls.{RefusedFrom, RefusedAt, RefusedIn, HeldIn, Begins, BeginsAt, NextIn, ExactIn, ExactHead, ExactFor, Exact, Lends, IsNotYet, Refuses, lent_frame}
use Rattle.pcap_io.specs.Kept.{Kept}
use Rattle.pcap_io.proofs.ReadingLemmas.{same_packet}
use Rattle.pcap_io.proofs.FileHeadLemmas.{one_form}
use Rattle.pcap_io.proofs.OneReading.{one_head_refusal, one_packet_refusal, packet_not_refused, head_not_refused, front_magic}

-- ---- behind the header

packet_not_held : (form : Form) (rest more : List ℕ) (frame : Captured) → IsWithinLimits frame → rest ≡ packet form frame ++ more → HeldPacket form rest → ⊥
packet_not_held form rest more frame within all held = held.unfinished frame more within all

packet_refused : (form : Form) (rest more : List ℕ) (frame : Captured) (t : Refusal) → IsWithinLimits frame → rest ≡ packet form frame ++ more → RefusedPacket form rest t → ⊥
packet_refused form rest more frame t within all r = packet_not_refused form frame more t within (subst (λ (l : List ℕ). RefusedPacket form l t) all r)

row_here : (form : Form) (old : Kept) (r : Refusal) → old.form ≡ Some form → (at : RefusedAt old r) → RefusedPacket form old.rest at.row
row_here form old r is at = subst (λ (f : Option Form). RefusedIn f old.rest at.row) is at.here

pub exact_in : (form : Form) (old new : Kept) (result : Result (Option PacketHead) Refusal) → old.form ≡ Some form → NextIn form old new result → ExactIn (Lends new result) (IsNotYet result) (Refuses result) form old.rest old.place
exact_in form old new (Ok (Some head)) is g = record {
  whole = λ frame more within all. (same_packet form (lent_frame head new) frame new.rest more g.within within (sym g.rest ∙ all)).0;
  not_yet = λ held. packet_not_held form old.rest new.rest (lent_frame head new) g.within g.rest held;
  bad = λ t r. packet_refused form old.rest new.rest (lent_frame head new) t g.within g.rest r;
}
exact_in form old new (Ok None) is h = record {
  whole = λ frame more within all. packet_not_held form old.rest more frame within all h.0;
  not_yet = λ held. tt;
  bad = λ t r. h.0.accepted t r;
}
exact_in form old new (Err r) is h = record {
  whole = λ frame more within all. packet_refused form old.rest more frame h.0.row within all (row_here form old r is h.0);
  not_yet = λ held. held.accepted h.0.row (row_here form old r is h.0);
  bad = λ t row. h.0.told ∙ ap (moved old.place) (one_packet_refusal form old.rest h.0.row t (row_here form old r is h.0) row);
}

-- ---- from the header on

too_long : (form : Form) (rest head more : List ℕ) → IsFileHead form head → rest ≡ head ++ more → HeldHead rest → ⊥
too_long form rest head more is all held =
    let short = held.unfinished in
    let sums = ap length all ∙ length-append head more in
    let len = is.len in
    omega (arith, short, sums, len)

-- two headers at the front of the same bytes are one, and what is behind them too
record OneHeader (form other : Form) (more rest : List ℕ) : Type 0 where
  pub form_is : form ≡ other
  pub rest_is : more ≡ rest

one_header : (bytes : List ℕ) (form other : Form) (head more top rest : List ℕ) → IsFileHead form head → bytes ≡ head ++ more → IsFileHead other top → bytes ≡ top ++ rest → OneHeader form other more rest
one_header bytes form other head more top rest is all is' all' = record {
  form_is = one_form bytes other form (front_magic other bytes top rest is' all') (front_magic form bytes head more is all);
  rest_is = (same_parts head top more rest (is.len ∙ sym is'.len) (sym all ∙ all')).1;
}

pub exact_head : (form : Form) (old mid new : Kept) (result : Result (Option PacketHead) Refusal) → Begins old mid form → ExactIn (Lends new result) (IsNotYet result) (Refuses result) form mid.rest mid.place → ExactHead (Lends new result) (IsNotYet result) (Refuses result) old.rest old.place
exact_head form old mid new result b exact = record {
  whole = λ other head more is all.
      let one : OneHeader form other mid.rest more = one_header old.rest form other b.head mid.rest head more b.is_head b.rest is all in
      let place : mid.place ≡ old.place + 24 = b.place ∙ ap (λ n. old.place + n) b.is_head.len in
      subst (λ (f : Form). ExactIn (Lends new result) (IsNotYet result) (Refuses result) f more (old.place + 24)) one.form_is
      (subst (λ (l : List ℕ). ExactIn (Lends new result) (IsNotYet result) (Refuses result) form l (old.place + 24)) one.rest_is
      (subst (λ (n : ℕ). ExactIn (Lends new result) (IsNotYet result) (Refuses result) form mid.rest n) place exact));
  not_yet = λ held. absurd (too_long form old.rest b.head mid.rest b.is_head b.rest held);
  bad = λ t row. absurd (head_not_refused form old.rest b.head mid.rest t b.is_head b.rest row);
}

-- the header is not whole
pub exact_waits : (old : Kept) → HeldHead old.rest → ExactHead (Lends old (Ok None)) (Unit {0}) (Refuses (Ok None)) old.rest old.place
exact_waits old held = record {
  whole = λ form head more is all. absurd (too_long form old.rest head more is all held);
  not_yet = λ _. tt;
  bad = λ t row. held.accepted t row;
}

-- the header is refused
pub exact_refused : (old : Kept) (r : Refusal) → RefusedFrom None old.rest old.place r → ExactHead (Lends old (Err r)) ⊥ (Refuses (Err r)) old.rest old.place
exact_refused old r at = record {
  whole = λ form head more is all. absurd (head_not_refused form old.rest head more at.row is all at.here);
  not_yet = λ held. held.accepted at.row at.here;
  bad = λ t row. at.told ∙ ap (moved old.place) (one_head_refusal old.rest at.row t at.here row);
}

-- ---- the whole call

-- what was begun already is answered, and nothing changes
abbrev pub BegunAs : Option Form → Result (Option Form) Refusal → Kept → Kept → Type 0
BegunAs known result old mid = IfSome known (λ f. (result ≡ Ok (Some f)) × (mid ≡ old))

one_begun : (form f : Form) (result : Result (Option Form) Refusal) → result ≡ Ok (Some form) → result ≡ Ok (Some f) → form ≡ f
one_begun form f result e e' = cc

never : (f : Form) (result : Result (Option Form) Refusal) → result ≡ Ok None → result ≡ Ok (Some f) → ⊥
never f result e e' = cc

never_err : (f : Form) (r : Refusal) (result : Result (Option Form) Refusal) → result ≡ Err r → result ≡ Ok (Some f) → ⊥
never_err f r result e e' = cc

-- what the header came to, then what the packet behind it came to
pub exact_begun : (known : Option Form) (form : Form) (old mid new : Kept) (result : Result (Option PacketHead) Refusal) → (known ≡ None → BeginsAt None old mid (Ok (Some form))) → BegunAs known (Ok (Some form)) old mid
    → ExactIn (Lends new result) (IsNotYet result) (Refuses result) form mid.rest mid.place → ExactFor (Lends new result) (IsNotYet result) (Refuses result) known old.rest old.place
exact_begun None form old mid new result first again exact = exact_head form old mid new result (first refl) exact
exact_begun (Some f) form old mid new result first again exact =
    subst (λ (f : Form). ExactIn (Lends new result) (IsNotYet result) (Refuses result) f old.rest old.place) (one_begun form f (Ok (Some form)) refl again.0)
    (subst (λ (feed : Kept). ExactIn (Lends new result) (IsNotYet result) (Refuses result) form feed.rest feed.place) again.1 exact)

-- the header is still to come
pub exact_none : (known : Option Form) (old mid : Kept) → (known ≡ None → BeginsAt None old mid (Ok None)) → BegunAs known (Ok None) old mid
    → ExactFor (Lends mid (Ok None)) (Unit {0}) (Refuses (Ok None)) known old.rest old.place
exact_none None old mid first again = exact_waits old (first refl).0
exact_none (Some f) old mid first again = absurd (never f (Ok None) refl again.0)

-- the header is refused
pub exact_err : (known : Option Form) (old mid : Kept) (r : Refusal) → old.form ≡ known → (known ≡ None → BeginsAt None old mid (Err r)) → BegunAs known (Err r) old mid
    → ExactFor (Lends mid (Err r)) ⊥ (Refuses (Err r)) known old.rest old.place
exact_err None old mid r is first again = exact_refused old r (subst (λ (f : Option Form). RefusedFrom f old.rest old.place r) is (first refl).0)
exact_err (Some f) old mid r is first again = absurd (never_err f r (Err r) refl again.0)

-- ---- what is refused is told again

err_is : (result : Result (Option PacketHead) Refusal) (s t : Refusal) → Refuses result s → t ≡ s → result ≡ Err t
err_is (Ok head) s t r e = absurd r
err_is (Err q) s t r e = ap Err (r ∙ sym e)

told_by : (known : Option Form) (new : Kept) (rest : List ℕ) (place : ℕ) (result : Result (Option PacketHead) Refusal) → ExactFor (Lends new result) (IsNotYet result) (Refuses result) known rest place → (t : Refusal) → RefusedFrom known rest place t → result ≡ Err t
told_by None new rest place result exact t at = err_is result (moved place at.row) t (exact.bad at.row at.here) at.told
told_by (Some form) new rest place result exact t at = err_is result (moved place at.row) t (exact.bad at.row at.here) at.told

pub again_told : (old new : Kept) (result : Result (Option PacketHead) Refusal) → Exact old new result → (t : Refusal) → RefusedAt old t → result ≡ Err t
again_told old new result exact t at = told_by old.form new old.rest old.place result exact t at

-- ---- an answer that follows from another

exact_in_map : (G H : Captured → Type 0) (M N : Type 0) (S T : Refusal → Type 0) → ((f : Captured) → G f → H f) → (M → N) → ((t : Refusal) → S t → T t) → (form : Form) (rest : List ℕ) (place : ℕ) → ExactIn G M S form rest place → ExactIn H N T form rest place
exact_in_map G H M N S T g n t form rest place e = record {
  whole = λ frame more within all. g frame (e.whole frame more within all);
  not_yet = λ held. n (e.not_yet held);
  bad = λ r row. t (moved place r) (e.bad r row);
}

pub exact_map : (G H : Captured → Type 0) (M N : Type 0) (S T : Refusal → Type 0) → ((f : Captured) → G f → H f) → (M → N) → ((t : Refusal) → S t → T t) → (known : Option Form) (rest : List ℕ) (place : ℕ) → ExactFor G M S known rest place → ExactFor H N T known rest place
exact_map G H M N S T g n t None rest place e = record {
  whole = λ form head more is all. exact_in_map G H M N S T g n t form more (place + 24) (e.whole form head more is all);
  not_yet = λ held. n (e.not_yet held);
  bad = λ r row. t (moved place r) (e.bad r row);
}
exact_map G H M N S T g n t (Some form) rest place e = exact_in_map G H M N S T g n t form rest place e

-- ---- what is not refused

pub held_accepts : (form : Option Form) (rest : List ℕ) (place : ℕ) → HeldIn form rest → (t : Refusal) → RefusedFrom form rest place t → ⊥
held_accepts None rest place held t at = held.accepted at.row at.here
held_accepts (Some form) rest place held t at = held.accepted at.row at.here

pub header_accepts : (known : Option Form) (form : Form) (rest : List ℕ) (place : ℕ) → known ≡ None → WholeHead form rest → (t : Refusal) → RefusedFrom known rest place t → ⊥
header_accepts None form rest place is whole t at = head_not_refused form rest (take 24 rest) (drop 24 rest) at.row whole.head (sym (take-append-drop 24 rest)) at.here
header_accepts (Some f) form rest place is whole t at = absurd (cc)

pub packet_accepts : (known : Option Form) (form : Form) (rest : List ℕ) (place : ℕ) (head : PacketHead) (body behind : List ℕ) → known ≡ Some form → BeginsWith form rest head body behind → (t : Refusal) → RefusedFrom known rest place t → ⊥
packet_accepts known form rest place head body behind is begins t at =
    packet_refused form rest behind (frame_of head body) at.row begins.within begins.all (subst (λ (f : Option Form). RefusedIn f rest at.row) is at.here)
