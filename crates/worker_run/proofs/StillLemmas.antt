-- A walk over a table that stays the only one.
use Rattle.std.proofs.Common.{◌≡◌, ℕ, Bool, true, false, cond, eq-eqb, List, [], ◌∷◌, map, Some, None, sym, ap, subst, ◌∙◌, inl, inr}
use Rattle.std.specs.List.{AllZip}
use Rattle.std.proofs.lemmas.Bool.{cases_eq, ne_eqb}
use Rattle.net_frames.specs.Captured.{Captured as Framed}
use Rattle.path_selection.specs.Paths.{ServicePath}
use Rattle.path_selection.specs.Published.{Published, StartsWith, one_table, table_at}
use Rattle.record_text.specs.declared.records.Record.{Record}
use Rattle.sfc_config.specs.Parts.{Parts}
use Rattle.forwarder.specs.Traces.{Worked}
use Rattle.forwarder.specs.Walks.{IsWalk, functions_of}
use Rattle.forwarder.specs.Workspaces.{Forwarded, taken_in}
use Rattle.forwarder.specs.Records.{frame_after}
use Rattle.worker_run.specs.Batches.{Carried}
use Rattle.worker_run.specs.Steps.{Forwards}
use Rattle.worker_run.proofs.RecordLemmas.{IsOnly}

-- one table that begins with another one is that one
pub still_known : (p : Published) (version : ℕ) (table : List ServicePath) → StartsWith (p ∷ []) (one_table version table) → p ∷ [] ≡ one_table version table
still_known p version table starts =
    let same : p ≡ record { version = version; table = table } = cc (starts.1) in
    ap (λ (q : Published). q ∷ []) same

named_in : (b : Bool) (table t : List ServicePath) → cond b (Some table) None ≡ Some t → b ≡ true → t ≡ table
named_in b table t e is = let found : Some table ≡ Some t = subst (λ (c : Bool). cond c (Some table) None ≡ Some t) is e in cc

none_in : (b : Bool) (table t : List ServicePath) → cond b (Some table) None ≡ Some t → b ≡ false → ⊥
none_in b table t e is = let found : None ≡ Some t = subst (λ (c : Bool). cond c (Some table) None ≡ Some t) is e in cc

only_one : (version : ℕ) (table : List ServicePath) (v : ℕ) (t : List ServicePath) → table_at (one_table version table) v ≡ Some t → IsOnly version table v t
only_one version table v t e = elim (cases_eq version v) [
  | inl is ↦ (sym is, named_in _ table t e (eq-eqb version v is))
  | inr apart ↦ absurd (none_in _ table t e (ne_eqb version v apart))
]

pub looks_only : (version : ℕ) (table : List ServicePath) (vs : List ℕ) (ts : List (List ServicePath)) → map (table_at (one_table version table)) vs ≡ map Some ts → AllZip (IsOnly version table) vs ts
looks_only version table [] [] e = tt
looks_only version table [] (t ∷ ts) e = absurd (cc)
looks_only version table (v ∷ vs) [] e = absurd (cc)
looks_only version table (v ∷ vs) (t ∷ ts) e =
    let here : table_at (one_table version table) v ≡ Some t = cc in
    let rest : map (table_at (one_table version table)) vs ≡ map Some ts = cc in
    (only_one version table v t here, looks_only version table vs ts rest)

pub forwards : (setup : Parts) (version : ℕ) (table : List ServicePath) (slot : Carried) (known : List Published) (before after : ℕ) (bytes : List ℕ) (original : ℕ) (work : Worked) (r : Record)
    → bytes ≡ slot.frame.bytes → original ≡ slot.frame.original → known ≡ one_table version table
    → Forwarded setup (taken_in bytes original) 0 known before after work r → work.frame ≡ frame_after (functions_of setup.instances) (taken_in bytes original) r
    → Forwards setup version table slot (record {
      frame = record { seconds = slot.frame.seconds; fraction = slot.frame.fraction; original = work.frame.original; bytes = work.frame.bytes };
      outcome = r;
    })
forwards setup version table slot known before after bytes original work r b o k x f =
    let frame : taken_in bytes original ≡ taken_in slot.frame.bytes slot.frame.original = λ i. taken_in (b i) (o i) in
    record {
      walk = x.record_is.walk;
      walks = subst (λ (g : Framed). IsWalk setup g x.record_is.walk) frame x.record_is.walks;
      over = looks_only version table r.versions.items x.record_is.walk.tables (subst (λ (l : List Published). map (table_at l) r.versions.items ≡ map Some x.record_is.walk.tables) k x.record_is.looks.named);
      tells = x.record_is.tells;
      worker_is = x.record_is.worker_is;
      left = ap (λ (g : Framed). record { seconds = slot.frame.seconds; fraction = slot.frame.fraction; original = g.original; bytes = g.bytes }) (f ∙ ap (λ (g : Framed). frame_after (functions_of setup.instances) g r) frame);
    }
