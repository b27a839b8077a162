-- Counts of faults, and what is left of the desk, over two calls.
use Rattle.std.proofs.Common.{◌≡◌, ◌≢◌, inl, inr, Bool, true, Result, Ok, Err, refl, sym, ap, ◌∙◌, subst, arith}
use Rattle.sfc_desk.specs.declared.ports.Port.{Port}
use Rattle.sfc_desk.specs.declared.ports.Port.TheVariants as ports
use Rattle.sfc_desk.specs.Desks.{Shown, Files, Rose, Moves}
use Rattle.commands.specs.Pieces.{NoneBound, SameCounts}
use Rattle.commands.proofs.PlaceLemmas.{same_or_other}
use Rattle.round_inputs.specs.declared.halts.Halt.{Halt}
use Rattle.round_inputs.specs.declared.halts.Halt.TheVariants as halts
use Rattle.round_inputs.specs.Halts.{Counts, IsPort, ReadsBoth}

rose_from : (a b c : Shown) → b.faults ≡ a.faults → Rose b c → Rose a c
rose_from a b c is rose = omega (arith, is, rose)

-- no count rose in the first call
pub counts_after : {T : Type 0} (IsOne : Port → Type 0) (a b c : Port → Shown) (r : Result T Halt) → SameCounts a b → Counts IsOne b c r → Counts IsOne a c r
counts_after IsOne a b c (Ok x) same counts = λ port. counts port ∙ same port
counts_after IsOne a b c (Err (halts.File port)) same counts = (counts.0, rose_from (a port) (b port) (c port) (same port) counts.1, λ other differs. counts.2 other differs ∙ same other)
counts_after IsOne a b c (Err (halts.Long port)) same counts = (counts.0, λ port. counts.1 port ∙ same port)
counts_after IsOne a b c (Err halts.OutOfMemory) same counts = λ port. counts port ∙ same port

-- a halt says the same whatever was asked for, and of more ports
pub counts_halt : (T U : Type 0) (IsOne IsMore : Port → Type 0) (a b : Port → Shown) (e : Halt) → ((port : Port) → IsOne port → IsMore port) → Counts {T = T} IsOne a b (Err e) → Counts {T = U} IsMore a b (Err e)
counts_halt T U IsOne IsMore a b (halts.File port) wider counts = (wider port counts.0, counts.1, counts.2)
counts_halt T U IsOne IsMore a b (halts.Long port) wider counts = (wider port counts.0, counts.1)
counts_halt T U IsOne IsMore a b halts.OutOfMemory wider counts = counts

-- what was called before the halt raised no count
pub halt_after : (T U : Type 0) (IsOne IsMore : Port → Type 0) (a b c : Port → Shown) (e : Halt) → ((port : Port) → IsOne port → IsMore port) → SameCounts a b → Counts {T = T} IsOne b c (Err e) → Counts {T = U} IsMore a c (Err e)
halt_after T U IsOne IsMore a b c e wider same counts = counts_after {T = U} IsMore a b c (Err e) same (counts_halt T U IsOne IsMore b c e wider counts)

-- only the own port is too long
pub long_own : (T : Type 0) (own other : Port) (a b : Port → Shown) (e : Halt) → Counts {T = T} (IsPort own) a b (Err e) → e ≡ halts.Long other → other ≡ own
long_own T own other a b e counts is =
    let long : Counts {T = T} (IsPort own) a b (Err (halts.Long other)) = subst (λ (x : Halt). Counts {T = T} (IsPort own) a b (Err x)) is counts in
    long.0

pub capture_is_no_control : ports.Capture ≢ ports.Control
capture_is_no_control e = cc

pub control_is_no_capture : ports.Control ≢ ports.Capture
control_is_no_capture e = cc

-- ---- what is left of the desk

pub reads_none : (tells : Bool) (held : Files) (at : Port → Shown) → (at ports.Capture).bound ≡ true → (at ports.Control).bound ≡ true → ReadsBoth tells held held at at
reads_none tells held at capture control = record {
  none_bound = record { binds = λ port. refl; names = λ told port. refl };
  files = refl;
  capture_bound = capture;
  control_bound = control;
  others = λ port a b. refl;
}

pub reads_then : (tells : Bool) (held-0 held-1 held-2 : Files) (at-0 at-1 at-2 : Port → Shown) → ReadsBoth tells held-0 held-1 at-0 at-1 → ReadsBoth tells held-1 held-2 at-1 at-2 → ReadsBoth tells held-0 held-2 at-0 at-2
reads_then tells held-0 held-1 held-2 at-0 at-1 at-2 first then = record {
  none_bound = record {
    binds = λ port. then.none_bound.binds port ∙ first.none_bound.binds port;
    names = λ told port. then.none_bound.names told port ∙ first.none_bound.names told port;
  };
  files = then.files ∙ first.files;
  capture_bound = then.capture_bound;
  control_bound = then.control_bound;
  others = λ port a b. then.others port a b ∙ first.others port a b;
}

bound_moves : (tells : Bool) (port : Port) (held-0 held-1 : Files) (at-0 at-1 : Port → Shown) → Moves tells port held-0 held-1 at-0 at-1 → NoneBound tells at-0 at-1
bound_moves tells port held-0 held-1 at-0 at-1 moved = record {
  binds = λ p. elim (same_or_other p port) [
    | inl is ↦ subst (λ (q : Port). (at-1 q).binds ≡ (at-0 q).binds) (sym is) moved.same_binds
    | inr other ↦ ap (λ (s : Shown). s.binds) (moved.elsewhere p other)
  ];
  names = λ told p. elim (same_or_other p port) [
    | inl is ↦ subst (λ (q : Port). (at-1 q).name ≡ (at-0 q).name) (sym is) (moved.same_name told)
    | inr other ↦ ap (λ (s : Shown). s.name) (moved.elsewhere p other)
  ];
}

-- the capture alone was read from
pub reads_capture : (tells : Bool) (held-0 held-1 : Files) (at-0 at-1 : Port → Shown) → (at-0 ports.Control).bound ≡ true → Moves tells ports.Capture held-0 held-1 at-0 at-1 → ReadsBoth tells held-0 held-1 at-0 at-1
reads_capture tells held-0 held-1 at-0 at-1 control moved = record {
  none_bound = bound_moves tells ports.Capture held-0 held-1 at-0 at-1 moved;
  files = moved.files;
  capture_bound = moved.still_bound;
  control_bound = ap (λ (s : Shown). s.bound) (moved.elsewhere ports.Control control_is_no_capture) ∙ control;
  others = λ port no_capture no_control. moved.elsewhere port no_capture;
}

pub reads_control : (tells : Bool) (held-0 held-1 : Files) (at-0 at-1 : Port → Shown) → (at-0 ports.Capture).bound ≡ true → Moves tells ports.Control held-0 held-1 at-0 at-1 → ReadsBoth tells held-0 held-1 at-0 at-1
reads_control tells held-0 held-1 at-0 at-1 capture moved = record {
  none_bound = bound_moves tells ports.Control held-0 held-1 at-0 at-1 moved;
  files = moved.files;
  capture_bound = ap (λ (s : Shown). s.bound) (moved.elsewhere ports.Capture capture_is_no_control) ∙ capture;
  control_bound = moved.still_bound;
  others = λ port no_capture no_control. moved.elsewhere port no_control;
}
