-- A header where it lies, and what a function and its instance leave there.
use Rattle.std.proofs.Common.{◌≡◌, ℕ, ◌-◌, ◌≤◌, true, false, List, length, get_or, take, drop, set, refl, sym, ap, subst, ◌∙◌, arith, inl, inr, Ok}
use Rattle.std.proofs.lemmas.List.{length-take-le, drop-set-lt}
use Rattle.std.proofs.Math.ListN.{length-set}
use Rattle.arrayvec.specs.ArrayVec.{ArrayVec}
use Rattle.nsh_headers.specs.declared.heads.NshHead.{NshHead}
use Rattle.nsh_headers.specs.Head.{IsHead}
use Rattle.nsh_headers.specs.Edit.{with_si}
use Rattle.net_frames.specs.Captured.{Captured}
use Rattle.nsh_metadata.specs.Header.{Header, IsContext, BeginsWith}
use Rattle.nsh_metadata.specs.Changes.{with_index, PushesAt}
use Rattle.nsh_metadata.proofs.HeaderLemmas.{IsHead-take, drop_take, begins_head, begins_size, begins_long}
use Rattle.service_functions.specs.Functions.{on_metadata}
use Rattle.service_functions.specs.Serving.{HeaderBy, Serve, ServeFrame, ServeHeader}
use Rattle.service_functions.specs.declared.functions.Function.{Function}
use Rattle.service_functions.specs.declared.functions.Function.TheVariants.{Stamp}
use Rattle.service_functions.specs.declared.answers.Served.{Served}
use Rattle.service_functions.specs.declared.answers.Served.TheVariants.{Passed, Dropped}
use Rattle.service_functions.proofs.ServingLemmas.{frame_stays, context_unseen, unlacked}
use Rattle.sfc_proxy.specs.Instances.{moved_on}

-- ---- the service index

index_set : (old new : List ℕ) (h : Header) (n v : ℕ) → BeginsWith old h n → new ≡ set old 7 v → ((k : NshHead) → IsHead old k → IsHead new (with_si k v)) → BeginsWith new (with_index h v) n
index_set old new h n v w new-is front =
    let long : 8 ≤ n = begins_long old h n w in
    let within : n ≤ length new = omega (arith, w.within, ap length new-is, length-set old 7 v) in
    let behind : drop 8 (take n new) ≡ drop 8 (take n old) =
    drop_take 8 n new long ∙ ap (take (n - 8)) (ap (drop 8) new-is ∙ drop-set-lt 8 old 7 v (omega arith)) ∙ sym (drop_take 8 n old long) in
    record {
      within = within;
      spelled = record {
        front = IsHead-take new n (with_si h.head v) long (front h.head (begins_head old h n w));
        size = length-take-le n new within ∙ begins_size old h n w;
        sized = w.spelled.sized;
        behind = subst (λ (t : List ℕ). IsContext t h.head.base.md h.context) (sym behind) w.spelled.behind;
      };
    }

pub index_of : (b : List ℕ) (h : Header) (n : ℕ) → BeginsWith b h n → get_or b 7 0 ≡ h.head.path.si
index_of b h n w = (begins_head b h n w).si

pub moved : (old new : List ℕ) (h : Header) (n : ℕ) → BeginsWith old h n → new ≡ set old 7 (get_or old 7 0 - 1) → ((k : NshHead) → IsHead old k → IsHead new (with_si k (get_or old 7 0 - 1)))
    → BeginsWith new (moved_on Passed h) n
moved old new h n w new-is front =
    subst (λ (si : ℕ). BeginsWith new (with_index h (si - 1)) n) (index_of old h n w) (index_set old new h n (get_or old 7 0 - 1) w new-is front)

-- ---- a function that works on one of both

pub served_header : (f : Function) (frame : Captured) (h k : Header) (served : Served) → on_metadata f ≡ true → ServeHeader f h served k → Serve f frame h served frame k
served_header f frame h k Passed is p = (λ w d. elim d [ inl x ↦ (frame_stays f frame is).1 w x | inr y ↦ p.0 w y ], sym (frame_stays f frame is).0, p.1)
served_header f frame h k (Dropped why) is p = (inr p.0, refl, p.1)

unseen : (f : Function) (h : Header) → on_metadata f ≡ false → HeaderBy f h ≡ h
unseen f h is = rw is refl

pub served_frame : (f : Function) (frame frame' : Captured) (h : Header) (served : Served) → on_metadata f ≡ false → ServeFrame f frame served frame' → Serve f frame h served frame' h
served_frame f frame frame' h Passed is p = (λ w d. elim d [ inl x ↦ p.0 w x | inr y ↦ context_unseen f h.context w is y ], p.1, sym (unseen f h is))
served_frame f frame frame' h (Dropped why) is p = (inl p.0, p.1, refl)

-- ---- a stamp where the header lies

pub stamped_at : (h : Header) (class kind : ℕ) (body : ArrayVec ℕ) (bytes : List ℕ) (end : ℕ) (old new : List ℕ) → bytes ≡ body.items → PushesAt old h class kind bytes (Ok end) new
    → (k : Header) × ServeHeader (Stamp class kind body) h Passed k × BeginsWith new k end
stamped_at h class kind body bytes end old new e p =
    let q = subst (λ (b : List ℕ). PushesAt old h class kind b (Ok end) new) e p in
    (HeaderBy (Stamp class kind body) h, (λ w d. unlacked h.context class kind body w q.0 d, refl), q.1)
