-- Puts one behind the other.
use Rattle.std.proofs.Common.{◌≡◌, ℕ, Bool, true, List, [], ◌++◌, Result, Ok, Err, refl, sym, ap, subst, ◌∙◌, append_assoc, arith}
use Rattle.std.proofs.lemmas.List.{append-nil}
use Rattle.sfc_desk.specs.declared.ports.Port.{Port}
use Rattle.sfc_desk.specs.Desks.{Shown, Files}
use Rattle.sfc_desk.proofs.CallLemmas.{moves_none, moves_then}
use Rattle.commands.specs.declared.writing.WriteFault.{WriteFault}
use Rattle.commands.specs.declared.writing.WriteFault.TheVariants as fault
use Rattle.commands.specs.Pieces.{Waiting}
use Rattle.commands.proofs.FrontLemmas.{front_of_more, front_of_same}
use Rattle.round_outputs.specs.RoundOutputs.{Puts}

-- nothing was put
pub puts_nothing : (tells : Bool) (at : Port → Shown) (held : Files) (out : Waiting) (u : Unit {0}) → (at out.port).bound ≡ true → Puts tells at at held held out out (Ok u) []
puts_nothing tells at held out u bound = record {
  port = refl;
  ok = λ told. sym (append-nil ((at out.port).written ++ out.bytes));
  front = λ told. (out.bytes, sym (append-nil ((at out.port).written ++ out.bytes)));
  cause = λ is. absurd (cc);
  quiet = λ port. refl;
  spared = λ is port. refl;
  moves = moves_none tells out.port held at bound;
}

-- nothing was put, for want of memory
pub puts_refused : (tells : Bool) (at : Port → Shown) (held : Files) (out : Waiting) (bytes : List ℕ) → (at out.port).bound ≡ true → Puts tells at at held held out out (Err fault.OutOfMemory) bytes
puts_refused tells at held out bytes bound = record {
  port = refl;
  ok = λ told. tt;
  front = λ told. (out.bytes ++ bytes, sym (append_assoc (at out.port).written out.bytes bytes));
  cause = λ is. absurd (cc);
  quiet = tt;
  spared = λ is port. refl;
  moves = moves_none tells out.port held at bound;
}

-- the same put, at the port of an output that has it
at_port : (tells : Bool) (port : Port) (then now : Port → Shown) (had has : Files) (old new : Waiting) (result : Result (Unit {0}) WriteFault) (bytes : List ℕ)
    → old.port ≡ port → Puts tells then now had has old new result bytes → Puts tells then now had has (record { port = port; bytes = old.bytes }) new result bytes
at_port tells port then now had has old new result bytes e =
    let same : old ≡ record { port = port; bytes = old.bytes } = λ k. record { port = e k; bytes = old.bytes } in
    subst (λ (w : Waiting). Puts tells then now had has w new result bytes) same

-- bytes were put, and more at the same port
more_put : (tells : Bool) (at-0 at-1 at-2 : Port → Shown) (held-0 held-1 held-2 : Files) (out-0 new : Waiting) (waited : List ℕ) (u : Unit {0}) (result : Result (Unit {0}) WriteFault) (bytes more : List ℕ)
    → Puts tells at-0 at-1 held-0 held-1 out-0 (record { port = out-0.port; bytes = waited }) (Ok u) bytes
    → Puts tells at-1 at-2 held-1 held-2 (record { port = out-0.port; bytes = waited }) new result more
    → Puts tells at-0 at-2 held-0 held-2 out-0 new result (bytes ++ more)
more_put tells at-0 at-1 at-2 held-0 held-1 held-2 out-0 new waited u (Ok v) bytes more first then = record {
  port = then.port;
  ok = λ told. then.ok told ∙ (ap (λ zs. zs ++ more) (first.ok told) ∙ append_assoc ((at-0 out-0.port).written ++ out-0.bytes) bytes more);
  front = λ told. front_of_same (at-2 out-0.port).written _ _ (ap (λ zs. zs ++ more) (first.ok told) ∙ append_assoc ((at-0 out-0.port).written ++ out-0.bytes) bytes more) (then.front told);
  cause = λ is. absurd (cc);
  quiet = λ port. then.quiet port ∙ first.quiet port;
  spared = λ is. absurd (cc);
  moves = moves_then tells out-0.port held-0 held-1 held-2 at-0 at-1 at-2 first.moves then.moves;
}
more_put tells at-0 at-1 at-2 held-0 held-1 held-2 out-0 new waited u (Err e) bytes more first then = record {
  port = then.port;
  ok = λ told. tt;
  front = λ told. front_of_same (at-2 out-0.port).written _ _ (ap (λ zs. zs ++ more) (first.ok told) ∙ append_assoc ((at-0 out-0.port).written ++ out-0.bytes) bytes more) (then.front told);
  cause = λ is. omega (arith, then.cause is, first.quiet out-0.port);
  quiet = tt;
  spared = λ is port. then.spared is port ∙ first.quiet port;
  moves = moves_then tells out-0.port held-0 held-1 held-2 at-0 at-1 at-2 first.moves then.moves;
}

-- bytes were put, and then more
pub puts_then : (tells : Bool) (at-0 at-1 at-2 : Port → Shown) (held-0 held-1 held-2 : Files) (out-0 out-1 out-2 : Waiting) (u : Unit {0}) (result : Result (Unit {0}) WriteFault) (bytes more : List ℕ)
    → Puts tells at-0 at-1 held-0 held-1 out-0 out-1 (Ok u) bytes → Puts tells at-1 at-2 held-1 held-2 out-1 out-2 result more → Puts tells at-0 at-2 held-0 held-2 out-0 out-2 result (bytes ++ more)
puts_then tells at-0 at-1 at-2 held-0 held-1 held-2 out-0 out-1 out-2 u result bytes more first then =
    let same : out-1 ≡ record { port = out-0.port; bytes = out-1.bytes } = λ k. record { port = first.port k; bytes = out-1.bytes } in
    more_put tells at-0 at-1 at-2 held-0 held-1 held-2 out-0 out-2 out-1.bytes u result bytes more
    (subst (λ (w : Waiting). Puts tells at-0 at-1 held-0 held-1 out-0 w (Ok u) bytes) same first)
    (at_port tells out-0.port at-1 at-2 held-1 held-2 out-1 out-2 result more first.port then)

-- no more was put behind a failure
pub puts_stopped : (tells : Bool) (then now : Port → Shown) (had has : Files) (old new : Waiting) (e : WriteFault) (bytes more : List ℕ)
    → Puts tells then now had has old new (Err e) bytes → Puts tells then now had has old new (Err e) (bytes ++ more)
puts_stopped tells then now had has old new e bytes more puts = record {
  port = puts.port;
  ok = λ told. tt;
  front = λ told. front_of_more (now old.port).written _ more _ (append_assoc ((then old.port).written ++ old.bytes) bytes more) (puts.front told);
  cause = puts.cause;
  quiet = tt;
  spared = puts.spared;
  moves = puts.moves;
}

-- bytes were put, putting these failed, and no more was put
pub puts_failed : (tells : Bool) (at-0 at-1 at-2 : Port → Shown) (held-0 held-1 held-2 : Files) (out-0 out-1 out-2 : Waiting) (u : Unit {0}) (e : WriteFault) (bytes here more whole : List ℕ) → (bytes ++ here) ++ more ≡ whole
    → Puts tells at-0 at-1 held-0 held-1 out-0 out-1 (Ok u) bytes → Puts tells at-1 at-2 held-1 held-2 out-1 out-2 (Err e) here → Puts tells at-0 at-2 held-0 held-2 out-0 out-2 (Err e) whole
puts_failed tells at-0 at-1 at-2 held-0 held-1 held-2 out-0 out-1 out-2 u e bytes here more whole is first then =
    subst (Puts tells at-0 at-2 held-0 held-2 out-0 out-2 (Err e)) is
    (puts_stopped tells at-0 at-2 held-0 held-2 out-0 out-2 e (bytes ++ here) more (puts_then tells at-0 at-1 at-2 held-0 held-1 held-2 out-0 out-1 out-2 u (Err e) bytes here first then))
