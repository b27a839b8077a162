-- Parts that are made, one behind the other.
use Rattle.std.proofs.Common.{◌≡◌, ℕ, zero, suc, ◌%◌, ◌/◌, subst, ◌+◌, ◌*◌, ◌<◌, ◌≤◌, ◌⊎◌, min, inl, inr, List, [], ◌∷◌, ◌++◌, length, ap, ◌∙◌, arith, append-nil}
use Rattle.std.proofs.lemmas.Grind.{flat_map-append}
use Rattle.worker_run.specs.Deals.{IsSize}
use Rattle.worker_run.specs.declared.parts.Part.{Part}
use Rattle.worker_run.specs.Batches.{Carried}
use Rattle.worker_run.specs.Shares.{AreNumbered, slots_of}

pub numbered_more : (worker : ℕ) (parts : List Part) (p : Part) → AreNumbered worker parts → p.worker ≡ worker + length parts → AreNumbered worker (parts ++ p ∷ [])
numbered_more worker [] p x is = (omega (arith, is), tt)
numbered_more worker (q ∷ qs) p x is = (x.0, numbered_more (worker + 1) qs p x.1 (omega (arith, is)))

pub slots_more : (parts : List Part) (p : Part) → slots_of (parts ++ p ∷ []) ≡ slots_of parts ++ p.slots.items
slots_more parts p = flat_map-append (λ (q : Part). q.slots.items) parts (p ∷ []) ∙ ap (λ (l : List Carried). slots_of parts ++ l) (append-nil p.slots.items)

-- a share more, of which the first few are one longer
pub share_more : (worker each extra made share : ℕ) → made ≡ worker * each + min worker extra → ((worker < extra) × (share ≡ each + 1)) ⊎ ((extra ≤ worker) × (share ≡ each))
    → made + share ≡ (worker + 1) * each + min (worker + 1) extra
share_more worker each extra made share is (inl x) = let few = x.0 in let one = x.1 in let product : (worker + 1) * each ≡ worker * each + each = grind arith in omega (arith, is, few, one, product)
share_more worker each extra made share is (inr x) = let few = x.0 in let one = x.1 in let product : (worker + 1) * each ≡ worker * each + each = grind arith in omega (arith, is, few, one, product)

le_times : (workers each : ℕ) → 1 ≤ workers → each ≤ workers * each
le_times zero each some = absurd (omega (arith, some))
le_times (suc k) each some = let product : suc k * each ≡ k * each + each = grind arith in omega (arith, product)

-- where a share is longer there is room for it
pub room_for_more : (count workers worker : ℕ) → 1 ≤ workers → worker < count % workers → count / workers + 1 ≤ count
room_for_more count workers worker some lt = let most = le_times workers (count / workers) some in omega (arith, some, lt, most)

-- the shares of all workers
pub all_dealt : (count workers worker made : ℕ) → 1 ≤ workers → workers ≤ worker → worker ≤ workers → made ≡ worker * (count / workers) + min worker (count % workers) → made ≡ count
all_dealt count workers worker made some no_less no_more is =
    let last : worker ≡ workers = omega (arith, no_less, no_more) in
    let all : made ≡ workers * (count / workers) + min workers (count % workers) = subst (λ (w : ℕ). made ≡ w * (count / workers) + min w (count % workers)) last is in
    omega (arith, some, all)

-- a share has the smaller size, or one more
pub sized_share : (worker each extra share many : ℕ) → ((worker < extra) × (share ≡ each + 1)) ⊎ ((extra ≤ worker) × (share ≡ each)) → many ≡ share → IsSize each many
sized_share worker each extra share many (inl x) is = inr (is ∙ x.1)
sized_share worker each extra share many (inr x) is = inl (is ∙ x.1)
