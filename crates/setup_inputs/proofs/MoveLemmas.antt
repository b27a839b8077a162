-- What bytes that move through a port leave of the binds, whatever the port.
use Rattle.std.proofs.Common.{◌≡◌, inl, inr, Bool, refl, ap, ◌∙◌, subst, sym}
use Rattle.sfc_desk.specs.declared.ports.Port.{Port}
use Rattle.sfc_desk.specs.Desks.{Shown, Files, Moves}
use Rattle.commands.specs.Pieces.{NoneBound, SameCounts}
use Rattle.commands.proofs.PlaceLemmas.{same_or_other}

-- where nothing was done, no port was bound
pub none_bound_yet : (tells : Bool) (at : Port → Shown) → NoneBound tells at at
none_bound_yet tells at = record { binds = λ p. refl; names = λ told p. refl }

-- where no port was bound, a move binds none
pub none_bound_on : (tells : Bool) (port : Port) (had has : Files) (then mid now : Port → Shown) → NoneBound tells then mid → Moves tells port had has mid now → NoneBound tells then now
none_bound_on tells port had has then mid now none moves = record {
  binds = λ p. elim (same_or_other p port) [
    | inl is ↦ subst (λ (q : Port). (now q).binds ≡ (mid q).binds) (sym is) moves.same_binds ∙ none.binds p
    | inr other ↦ ap (λ (s : Shown). s.binds) (moves.elsewhere p other) ∙ none.binds p
  ];
  names = λ told p. elim (same_or_other p port) [
    | inl is ↦ subst (λ (q : Port). (now q).name ≡ (mid q).name) (sym is) (moves.same_name told) ∙ none.names told p
    | inr other ↦ ap (λ (s : Shown). s.name) (moves.elsewhere p other) ∙ none.names told p
  ];
}

-- bytes that move through a port bind none
pub none_bound : (tells : Bool) (port : Port) (had has : Files) (mid now : Port → Shown) → Moves tells port had has mid now → NoneBound tells mid now
none_bound tells port had has mid now moves = none_bound_on tells port had has mid mid now (none_bound_yet tells mid) moves

-- where no count changed, and then none
pub same_counts_on : (then mid now : Port → Shown) → SameCounts then mid → SameCounts mid now → SameCounts then now
same_counts_on then mid now was is = λ p. is p ∙ was p
