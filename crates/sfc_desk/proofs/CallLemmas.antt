-- Calls on a desk one after the other, for callers of any desk.
use Rattle.std.proofs.Common.{◌≡◌, Bool, true, refl, ◌∙◌, arith}
use Rattle.sfc_desk.specs.declared.ports.Port.{Port}
use Rattle.sfc_desk.specs.Desks.{Shown, Files, Touches, Moves}

-- where nothing was done, nothing moved
pub moves_none : (tells : Bool) (port : Port) (held : Files) (at : Port → Shown) → (at port).bound ≡ true → Moves tells port held held at at
moves_none tells port held at bound = record {
  later = omega arith;
  elsewhere = λ other differ. refl;
  files = refl;
  still_bound = bound;
  same_binds = refl;
  same_name = λ told. refl;
}

-- moves through a port and then again move through it
pub moves_then : (tells : Bool) (port : Port) (held-0 held-1 held-2 : Files) (at-0 at-1 at-2 : Port → Shown) → Moves tells port held-0 held-1 at-0 at-1 → Moves tells port held-1 held-2 at-1 at-2 → Moves tells port held-0 held-2 at-0 at-2
moves_then tells port held-0 held-1 held-2 at-0 at-1 at-2 first then = record {
  later = omega arith;
  elsewhere = λ other differ. then.elsewhere other differ ∙ first.elsewhere other differ;
  files = then.files ∙ first.files;
  still_bound = then.still_bound;
  same_binds = then.same_binds ∙ first.same_binds;
  same_name = λ told. then.same_name told ∙ first.same_name told;
}

-- what moves through a port touches it alone
pub touches-moves : (tells : Bool) (port : Port) (held-0 held-1 : Files) (at-0 at-1 : Port → Shown) → Moves tells port held-0 held-1 at-0 at-1 → Touches port held-0 held-1 at-0 at-1
touches-moves tells port held-0 held-1 at-0 at-1 moved = record {
  later = moved.later;
  elsewhere = moved.elsewhere;
  files = moved.files;
}

-- calls on a port and then more on it touch it alone
pub touches_then : (port : Port) (held-0 held-1 held-2 : Files) (at-0 at-1 at-2 : Port → Shown) → Touches port held-0 held-1 at-0 at-1 → Touches port held-1 held-2 at-1 at-2 → Touches port held-0 held-2 at-0 at-2
touches_then port held-0 held-1 held-2 at-0 at-1 at-2 first then = record {
  later = omega arith;
  elsewhere = λ other differ. then.elsewhere other differ ∙ first.elsewhere other differ;
  files = then.files ∙ first.files;
}
