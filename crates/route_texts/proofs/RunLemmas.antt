-- Lines that were taken, one more, and what is refused behind them.
use Rattle.std.proofs.Common.{◌≡◌, ◌==◌, ℕ, zero, suc, true, false, ◌+◌, ◌<◌, List, [], ◌∷◌, ◌++◌, length, refl, sym, ap, subst, ◌∙◌, append_assoc, inl, inr, arith}
use Rattle.std.specs.List.{flat_map, AllByRecursion}
use Rattle.std.proofs.lemmas.List.{append-nil, length-append}
use Rattle.std.proofs.lemmas.Grind.{flat_map-append}
use Rattle.text_words.proofs.LineLemmas.{same_byte}
use Rattle.sfc_routes.specs.declared.routes.Route.{Route}
use Rattle.route_texts.specs.RouteTexts.{Takes, Runs, IsUnbroken, ended, IsRoutes, IsRefused}

all_with : {X : Type 0} (P : X → Type 0) (xs : List X) (x : X) → AllByRecursion P xs → P x → AllByRecursion P (xs ++ x ∷ [])
all_with P [] x each one = (one, tt)
all_with P (y ∷ xs) x each one = (each.0, all_with P xs x each.1 one)

runs_more : (before : List Route) (lines : List (List ℕ)) (routes : List Route) (line : List ℕ) (r : Route) → Runs before lines routes → Takes routes line r
    → Runs before (lines ++ line ∷ []) (routes ++ r ∷ [])
runs_more before [] routes line r runs takes =
    (r, subst (λ (b : List Route). Takes b line r) runs takes, ap (λ (b : List Route). b ++ r ∷ []) runs)
runs_more before (l ∷ lines) routes line r runs takes = (runs.0, runs.1, runs_more (before ++ runs.0 ∷ []) lines routes line r runs.2 takes)

runs_length : (before : List Route) (lines : List (List ℕ)) (routes : List Route) → Runs before lines routes → length routes ≡ length before + length lines
runs_length before [] routes runs = omega (arith, ap length runs)
runs_length before (l ∷ lines) routes runs =
    omega (arith, runs_length (before ++ runs.0 ∷ []) lines routes runs.2, length-append before (runs.0 ∷ []))

-- the lines so far are taken, and the rest is to come
pub record ReadSoFar (text : List ℕ) (routes : List Route) (rest : List ℕ) : Type 0 where
  pub lines : List (List ℕ)
  pub split : text ≡ flat_map ended lines ++ rest
  pub unbroken : AllByRecursion IsUnbroken lines
  pub runs : Runs [] lines routes

pub none_read : (text : List ℕ) → ReadSoFar text [] text
none_read text = record { lines = []; split = refl; unbroken = tt; runs = refl }

pub line_read : (text : List ℕ) (routes : List Route) (rest line behind : List ℕ) (r : Route) → ReadSoFar text routes rest → IsUnbroken line → rest ≡ ended line ++ behind
    → Takes routes line r → ReadSoFar text (routes ++ r ∷ []) behind
line_read text routes rest line behind r so_far unbroken cut takes = record {
  lines = so_far.lines ++ line ∷ [];
  split = so_far.split ∙ ap (λ (l : List ℕ). flat_map ended so_far.lines ++ l) cut ∙ sym (append_assoc (flat_map ended so_far.lines) (ended line) behind)
      ∙ ap (λ (l : List ℕ). l ++ behind) (ap (λ (l : List ℕ). flat_map ended so_far.lines ++ l) (sym (append-nil (ended line))) ∙ sym (flat_map-append ended so_far.lines (line ∷ [])));
  unbroken = all_with IsUnbroken so_far.lines line so_far.unbroken unbroken;
  runs = runs_more [] so_far.lines routes line r so_far.runs takes;
}

pub last_refused : (text : List ℕ) (routes : List Route) (rest : List ℕ) (n : ℕ) → ReadSoFar text routes rest → IsUnbroken rest → 0 < length rest → n ≡ length routes + 1 → IsRefused text n
last_refused text routes rest n so_far unbroken some number = record {
  good = so_far.lines;
  routes = routes;
  bad = rest;
  split = so_far.split;
  unbroken = so_far.unbroken;
  runs = so_far.runs;
  first = record { line = rest; unbroken = unbroken; why = inl (refl, some) };
  number = omega (arith, number, runs_length [] so_far.lines routes so_far.runs);
}

pub line_refused : (text : List ℕ) (routes : List Route) (rest line behind : List ℕ) (n : ℕ) → ReadSoFar text routes rest → IsUnbroken line → rest ≡ ended line ++ behind
    → ((r : Route) → Takes routes line r → ⊥) → n ≡ length routes + 1 → IsRefused text n
line_refused text routes rest line behind n so_far unbroken cut untaken number = record {
  good = so_far.lines;
  routes = routes;
  bad = rest;
  split = so_far.split;
  unbroken = so_far.unbroken;
  runs = so_far.runs;
  first = record { line = line; unbroken = unbroken; why = inr (behind, cut, untaken) };
  number = omega (arith, number, runs_length [] so_far.lines routes so_far.runs);
}

pub all_read : (text : List ℕ) (routes : List Route) (rest : List ℕ) → ReadSoFar text routes rest → length rest ≡ 0 → IsRoutes text routes
all_read text routes [] so_far none = record { lines = so_far.lines; split = so_far.split ∙ append-nil (flat_map ended so_far.lines); unbroken = so_far.unbroken; runs = so_far.runs }
all_read text routes (b ∷ rest) so_far none = absurd (omega (arith, none))

pub some_left : (n : ℕ) → false ≡ (n == 0) → 0 < n
some_left zero left = absurd cc
some_left (suc n) left = omega arith

pub none_left : (bytes : List ℕ) → true ≡ (length bytes == 0) → bytes ≡ []
none_left [] none = refl
none_left (b ∷ bytes) none = absurd (omega (arith, same_byte (length (b ∷ bytes)) 0 (sym none)))
