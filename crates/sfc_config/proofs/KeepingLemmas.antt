-- What every draft keeps that a text has said.
use Rattle.std.proofs.Common.{◌≡◌, ℕ, ◌+◌, List, [], ◌∷◌, ◌++◌, length, refl, sym, subst, arith, inl, inr, Option, Some, None, length-append}
use Rattle.std.specs.Prelude.{◌≢◌}
use Rattle.std.proofs.lemmas.List.Elements.{All-nil, All-push}
use Rattle.std.proofs.lemmas.List.Quantifiers.{all_pairs_push}
use Rattle.text_words.specs.Numbers.{IsWithin}
use Rattle.service_functions.specs.Functions.{IsFunction}
use Rattle.classifier.specs.Rules.{FitsIfAsked}
use Rattle.sfc_routes.specs.declared.entries.InstanceEntry.{InstanceEntry}
use Rattle.setup_statements.specs.declared.statements.Bound.{Bound}
use Rattle.setup_statements.specs.declared.statements.Statement.{Statement}
use Rattle.setup_statements.specs.declared.statements.Statement.TheVariants.{Local, Target, Peer, Forwarder, Ingress, Instance, Rule}
use Rattle.setup_statements.specs.Statements.{IsPeer, IsStatement, Tells}
use Rattle.sfc_config.specs.declared.drafts.Draft.{Draft}
use Rattle.sfc_config.specs.Parts.{FitsMode}
use Rattle.sfc_config.specs.Drafts.{nothing, Fits, Adds}
use Rattle.sfc_config.specs.Steps.{IsDraft}
use Rattle.sfc_config.specs.Texts.{Takes, Runs}

weaker : {X : Type 0} (P Q : X → Type 0) → ((x : X) → P x → Q x) → (o : Option X) → FitsIfAsked P o → FitsIfAsked Q o
weaker P Q h None fits = tt
weaker P Q h (Some x) fits = h x fits

one_longer : {X : Type 0} (xs : List X) (x : X) → length (xs ++ x ∷ []) ≡ length xs + 1
one_longer xs x = length-append xs (x ∷ [])

-- a statement that may stand where it stands keeps it
kept_by : (d e : Draft) (s : Statement) → IsStatement s → Fits d s → Adds d s e → IsDraft d → IsDraft e
kept_by d e (Local l) own fits h k = subst IsDraft (sym h) (record {
  local_fits = own;
  peers_fit = k.peers_fit;
  few_peers = k.few_peers;
  peers_differ = k.peers_differ;
  kinds_fit = k.kinds_fit;
  ingress_known = k.ingress_known;
  all_bound = k.all_bound;
  functions_fit = k.functions_fit;
  modes_fit = k.modes_fit;
})
kept_by d e (Target t) own fits h k = subst IsDraft (sym h) (record {
  local_fits = k.local_fits;
  peers_fit = k.peers_fit;
  few_peers = k.few_peers;
  peers_differ = k.peers_differ;
  kinds_fit = k.kinds_fit;
  ingress_known = k.ingress_known;
  all_bound = k.all_bound;
  functions_fit = k.functions_fit;
  modes_fit = k.modes_fit;
})
kept_by d e (Peer p) own fits h k =
    let longer = one_longer d.peers p in
    subst IsDraft (sym h) (record {
      local_fits = k.local_fits;
      peers_fit = All-push IsPeer d.peers p k.peers_fit own;
      few_peers = omega (arith, longer, fits.room);
      peers_differ = all_pairs_push (λ q r. q.0 ≢ r.0) d.peers p k.peers_differ (λ i q lt. fits.new i q lt);
      kinds_fit = k.kinds_fit;
      ingress_known = k.ingress_known;
      all_bound = k.all_bound;
      functions_fit = k.functions_fit;
      modes_fit = k.modes_fit;
    })
kept_by d e (Forwarder f) own fits h k =
    let longer = one_longer d.roster.forwarders f in
    subst IsDraft (sym h) (record {
      local_fits = k.local_fits;
      peers_fit = k.peers_fit;
      few_peers = k.few_peers;
      peers_differ = k.peers_differ;
      kinds_fit = k.kinds_fit;
      ingress_known = weaker _ _ (λ id lt. omega (arith, longer, lt)) d.ingress k.ingress_known;
      all_bound = k.all_bound;
      functions_fit = k.functions_fit;
      modes_fit = k.modes_fit;
    })
kept_by d e (Ingress name) own fits h k = subst IsDraft (sym h.2) (record {
  local_fits = k.local_fits;
  peers_fit = k.peers_fit;
  few_peers = k.few_peers;
  peers_differ = k.peers_differ;
  kinds_fit = k.kinds_fit;
  ingress_known = h.1.0;
  all_bound = k.all_bound;
  functions_fit = k.functions_fit;
  modes_fit = k.modes_fit;
})
kept_by d e (Instance i b) own fits h k =
    let entries = one_longer d.roster.instances i in
    let bounds = one_longer d.instances b in
    subst IsDraft (sym h) (record {
      local_fits = k.local_fits;
      peers_fit = k.peers_fit;
      few_peers = k.few_peers;
      peers_differ = k.peers_differ;
      kinds_fit = All-push (λ (j : InstanceEntry). IsWithin 32 65535 j.kind) d.roster.instances i k.kinds_fit own.2;
      ingress_known = k.ingress_known;
      all_bound = omega (arith, entries, bounds, k.all_bound);
      functions_fit = All-push (λ (c : Bound). IsFunction c.function) d.instances b k.functions_fit own.3;
      modes_fit = All-push FitsMode d.instances b k.modes_fit fits.servable;
    })
kept_by d e (Rule r) own fits h k = subst IsDraft (sym h) (record {
  local_fits = k.local_fits;
  peers_fit = k.peers_fit;
  few_peers = k.few_peers;
  peers_differ = k.peers_differ;
  kinds_fit = k.kinds_fit;
  ingress_known = k.ingress_known;
  all_bound = k.all_bound;
  functions_fit = k.functions_fit;
  modes_fit = k.modes_fit;
})

told_fits : (words : List (List ℕ)) (s : Statement) → Tells words s → IsStatement s
told_fits words (Rule r) told = told.fits
told_fits words s told = told.0

-- a line that is taken keeps it
pub takes_kept : (d e : Draft) (line : List ℕ) → Takes d line e → IsDraft d → IsDraft e
takes_kept d e line (inl skips) k = subst IsDraft (sym skips.same) k
takes_kept d e line (inr says) k =
    kept_by d e says.statement (told_fits says.spelled.behind says.statement says.spelled.told) says.fits says.added k

-- lines that are taken keep it
pub runs_kept : (d e : Draft) (lines : List (List ℕ)) → Runs d lines e → IsDraft d → IsDraft e
runs_kept d e [] runs k = subst IsDraft (sym runs) k
runs_kept d e (line ∷ lines) runs k = runs_kept runs.0 e lines runs.2 (takes_kept d runs.0 line runs.1 k)

pub nothing_kept : IsDraft nothing
nothing_kept = record {
  local_fits = tt;
  peers_fit = All-nil _;
  few_peers = omega arith;
  peers_differ = λ i j q low lt. absurd (omega (arith, lt));
  kinds_fit = All-nil _;
  ingress_known = tt;
  all_bound = refl;
  functions_fit = All-nil _;
  modes_fit = All-nil _;
}
