-- Where a feed ends, and what a reader of all bytes gets.
use Rattle.std.proofs.Common.{◌≡◌, ℕ, ◌+◌, ◌≤◌, ◌<◌, List, [], ◌++◌, length, take, drop, Option, None, Some, sym, ap, subst, ◌∙◌, append_assoc, inl, inr, arith}
use Rattle.std.proofs.lemmas.List.{append-nil, length-append, take-append-le, drop-append-le, length-drop}
use Rattle.pcap_io.specs.declared.forms.Form.{Form}
use Rattle.pcap_io.specs.declared.frames.Captured.{Captured}
use Rattle.pcap_io.specs.declared.reasons.Refusal.{Refusal}
use Rattle.pcap_io.specs.declared.reasons.CaptureReason.TheVariants as reasons
use Rattle.pcap_io.specs.Refusals.{told, SaysCaptured, SaysOriginal}
use Rattle.pcap_io.specs.Kept.{Kept}
use Rattle.pcap_io.specs.Calls.{RefusedFrom, RefusedAt, RefusedIn, HeldIn}
use Rattle.pcap_io.specs.Streams.{Stands, StandsIn}
use Rattle.pcap_io.specs.Reads.{Reads, MissesIn, IsShortAt}

-- ---- a field is the same with more behind it

field_more : (at : ℕ) (bytes more : List ℕ) → at + 4 ≤ length bytes → take 4 (drop at (bytes ++ more)) ≡ take 4 (drop at bytes)
field_more at bytes more there =
    ap (take 4) (drop-append-le at bytes more (omega (arith, there)))
    ∙ take-append-le 4 (drop at bytes) more (omega (arith, there, length-drop at bytes))

longer : (bytes more : List ℕ) → length bytes ≤ length (bytes ++ more)
longer bytes more = omega (arith, length-append bytes more)

captured_more : (form : Form) (bytes more : List ℕ) (n : ℕ) → SaysCaptured form bytes n → SaysCaptured form (bytes ++ more) n
captured_more form bytes more n s = record {
  there = let h = s.there in let l = longer bytes more in omega (arith, h, l);
  fits = s.fits;
  spelled = s.spelled ∙ sym (field_more 8 bytes more (let h = s.there in omega (arith, h)));
}

original_more : (form : Form) (bytes more : List ℕ) (n : ℕ) → SaysOriginal form bytes n → SaysOriginal form (bytes ++ more) n
original_more form bytes more n s = record {
  there = let h = s.there in let l = longer bytes more in omega (arith, h, l);
  fits = s.fits;
  spelled = s.spelled ∙ sym (field_more 12 bytes more (let h = s.there in omega (arith, h)));
}

refused_more : (form : Option Form) (bytes more : List ℕ) (t : Refusal) → RefusedIn form bytes t → RefusedIn form (bytes ++ more) t
refused_more None bytes more t (inl a) = inl (record {
  there = let h = a.there in let l = longer bytes more in omega (arith, h, l);
  none = λ form magic. a.none form (sym (field_more 0 bytes more a.there) ∙ magic);
  is = a.is;
})
refused_more None bytes more t (inr (inl a)) = inr (inl (record {
  form = a.form;
  there = let h = a.there in let l = longer bytes more in omega (arith, h, l);
  magic = field_more 0 bytes more (let h = a.there in omega (arith, h)) ∙ a.magic;
  other = λ version. a.other (sym (field_more 4 bytes more (let h = a.there in omega (arith, h))) ∙ version);
  is = a.is;
}))
refused_more None bytes more t (inr (inr a)) = inr (inr (record {
  form = a.form;
  there = let h = a.there in let l = longer bytes more in omega (arith, h, l);
  magic = field_more 0 bytes more (let h = a.there in omega (arith, h)) ∙ a.magic;
  version = field_more 4 bytes more (let h = a.there in omega (arith, h)) ∙ a.version;
  other = λ link. a.other (sym (field_more 20 bytes more (let h = a.there in omega (arith, h))) ∙ link);
  is = a.is;
}))
refused_more (Some form) bytes more t (inl a) = inl (record { captured = a.captured; says = captured_more form bytes more a.captured a.says; over = a.over; is = a.is })
refused_more (Some form) bytes more t (inr a) = inr (record {
  captured = a.captured;
  original = a.original;
  says = captured_more form bytes more a.captured a.says;
  within = a.within;
  says_too = original_more form bytes more a.original a.says_too;
  bad = a.bad;
  is = a.is;
})

from_more : (form : Option Form) (rest more : List ℕ) (place : ℕ) (r : Refusal) → RefusedFrom form rest place r → RefusedFrom form (rest ++ more) place r
from_more form rest more place r at = record { row = at.row; here = refused_more form rest more at.row at.here; told = at.told }

pub refused_longer : (form : Option Form) (rest longer more : List ℕ) (place : ℕ) (r : Refusal) → longer ≡ rest ++ more → RefusedFrom form rest place r → RefusedFrom form longer place r
refused_longer form rest longer more place r is at = subst (λ (l : List ℕ). RefusedFrom form l place r) (sym is) (from_more form rest more place r at)

-- ---- what a reader gets

-- where a feed refuses, a reader of all bytes gets what was given and this refusal
reads_refused_in : (form : Option Form) (feed : Kept) (taken more : List ℕ) (given : List Captured) (r : Refusal) → StandsIn form feed taken given → RefusedFrom form feed.rest feed.place r → Reads (taken ++ more) form given (Some r)
reads_refused_in None feed taken more given r s at = record {
  nothing = s.nothing;
  ends = inl (subst (λ (p : ℕ). RefusedFrom None (taken ++ more) p r) s.used (subst (λ (l : List ℕ). RefusedFrom None (l ++ more) feed.place r) (sym s.joined) (from_more None feed.rest more feed.place r at)));
}
reads_refused_in (Some form) feed taken more given r s at = record {
  front = s.front;
  rest = feed.rest ++ more;
  is_capture = s.is_capture;
  joined = ap (λ l. l ++ more) s.joined ∙ append_assoc s.front feed.rest more;
  ends = inl (subst (λ (p : ℕ). RefusedFrom (Some form) (feed.rest ++ more) p r) s.used (from_more (Some form) feed.rest more feed.place r at));
}

pub reads_refused : (feed : Kept) (taken more : List ℕ) (given : List Captured) (r : Refusal) → Stands feed taken given → RefusedAt feed r → Reads (taken ++ more) feed.form given (Some r)
reads_refused feed taken more given r s at = reads_refused_in feed.form feed taken more given r s at

-- and so with nothing behind them
pub reads_refused_here : (feed : Kept) (taken : List ℕ) (given : List Captured) (r : Refusal) → Stands feed taken given → RefusedAt feed r → Reads taken feed.form given (Some r)
reads_refused_here feed taken given r s at = subst (λ (l : List ℕ). Reads l feed.form given (Some r)) (append-nil taken) (reads_refused feed taken [] given r s at)

-- the bytes taken are the used ones and the rest
pub size_taken : (form : Option Form) (feed : Kept) (taken : List ℕ) (given : List Captured) → StandsIn form feed taken given → feed.place + length feed.rest ≡ length taken
size_taken None feed taken given s = let u = s.used in let j = ap length s.joined in omega (arith, u, j)
size_taken (Some form) feed taken given s =
    let u = s.used in
    let j = ap length s.joined ∙ length-append s.front feed.rest in
    omega (arith, u, j)

reads_short_in : (form : Option Form) (feed : Kept) (taken : List ℕ) (given : List Captured) (r : Refusal) → StandsIn form feed taken given → HeldIn form feed.rest → MissesIn form feed.rest → IsShortAt (length taken) r → Reads taken form given (Some r)
reads_short_in None feed taken given r s held misses is = record {
  nothing = s.nothing;
  ends = inr (record { held = subst (λ (l : List ℕ). HeldIn None l) (sym s.joined) held; misses = tt; is = is });
}
reads_short_in (Some form) feed taken given r s held misses is = record {
  front = s.front;
  rest = feed.rest;
  is_capture = s.is_capture;
  joined = s.joined;
  ends = inr (record { held = held; misses = misses; is = is });
}

pub reads_short : (feed : Kept) (taken : List ℕ) (given : List Captured) (r : Refusal) → Stands feed taken given → HeldIn feed.form feed.rest → MissesIn feed.form feed.rest → IsShortAt (feed.place + length feed.rest) r → Reads taken feed.form given (Some r)
reads_short feed taken given r s held misses is =
    reads_short_in feed.form feed taken given r s held misses (is ∙ ap (λ n. told n reasons.Short) (size_taken feed.form feed taken given s))

-- nothing is left
reads_whole_in : (form : Form) (feed : Kept) (taken : List ℕ) (given : List Captured) → StandsIn (Some form) feed taken given → feed.rest ≡ [] → Reads taken (Some form) given None
reads_whole_in form feed taken given s none = record { front = s.front; rest = feed.rest; is_capture = s.is_capture; joined = s.joined; ends = none }

pub reads_whole : (feed : Kept) (form : Form) (taken : List ℕ) (given : List Captured) → feed.form ≡ Some form → Stands feed taken given → feed.rest ≡ [] → Reads taken feed.form given None
reads_whole feed form taken given is s none =
    subst (λ (f : Option Form). Reads taken f given None) (sym is) (reads_whole_in form feed taken given (subst (λ (f : Option Form). StandsIn f feed taken given) is s) none)

-- bytes are missing where some are there
pub misses_some : (form : Option Form) (rest : List ℕ) → 0 < length rest → MissesIn form rest
misses_some None rest some = tt
misses_some (Some form) rest some = λ none. let empty = ap length none in omega (arith, some, empty)
