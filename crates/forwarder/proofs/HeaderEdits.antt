-- What a header is that lies in bytes whose TTL or service index is edited.
use Rattle.std.proofs.Common.{◌≡◌, ℕ, ◌-◌, ◌≤◌, List, [], ◌∷◌, length, take, drop, set, refl, sym, ap, subst, ◌∙◌, arith}
use Rattle.std.proofs.lemmas.List.{length-take-le, drop-set-lt}
use Rattle.std.proofs.Math.ListN.{length-set}
use Rattle.nsh_headers.specs.declared.heads.NshHead.{NshHead}
use Rattle.nsh_headers.specs.Head.{IsHead}
use Rattle.nsh_headers.specs.Edit.{lowered, with_si, with_ttl}
use Rattle.nsh_metadata.specs.Header.{Header, IsContext, BeginsWith}
use Rattle.nsh_metadata.specs.Changes.{with_index}
use Rattle.nsh_metadata.proofs.HeaderLemmas.{IsHead-take, drop_take, begins_head, begins_size, begins_long}
use Rattle.forwarder.specs.Walks.{aged}

-- what is behind the head stays behind it
behind : (old new : List ℕ) (h : Header) (n : ℕ) → BeginsWith old h n → drop 8 new ≡ drop 8 old → IsContext (drop 8 (take n new)) h.head.base.md h.context
behind old new h n w same =
    let long : 8 ≤ n = begins_long old h n w in
    let e : drop 8 (take n new) ≡ drop 8 (take n old) = drop_take 8 n new long ∙ ap (take (n - 8)) same ∙ sym (drop_take 8 n old long) in
    subst (λ (t : List ℕ). IsContext t h.head.base.md h.context) (sym e) w.spelled.behind

-- 6 bytes behind the second are 8 behind the first
drop_six : (old new : List ℕ) → drop 2 new ≡ drop 2 old → 8 ≤ length old → length new ≡ length old → drop 8 new ≡ drop 8 old
drop_six (a ∷ b ∷ old) (c ∷ d ∷ new) same long len = ap (drop 6) same
drop_six [] new same long len = absurd (omega arith)
drop_six (a ∷ []) new same long len = absurd (omega arith)
drop_six (a ∷ b ∷ old) [] same long len = absurd (omega arith)
drop_six (a ∷ b ∷ old) (c ∷ []) same long len = absurd (omega arith)

-- the TTL is lowered
pub aged_at : (old new : List ℕ) (h : Header) (n t : ℕ) → BeginsWith old h n → length new ≡ length old → drop 2 new ≡ drop 2 old → ((k : NshHead) → IsHead old k → IsHead new (with_ttl k t)) → t ≡ lowered h.head.base.ttl
    → BeginsWith new (aged h) n
aged_at old new h n t w len same front t-is =
    let long : 8 ≤ n = begins_long old h n w in
    let within : n ≤ length new = omega (arith, w.within, len) in
    let head = subst (λ (u : ℕ). IsHead new (with_ttl h.head u)) t-is (front h.head (begins_head old h n w)) in
    record {
      within = within;
      spelled = record {
        front = IsHead-take new n (with_ttl h.head (lowered h.head.base.ttl)) long head;
        size = length-take-le n new within ∙ begins_size old h n w;
        sized = w.spelled.sized;
        behind = behind old new h n w (drop_six old new same (omega (arith, w.within, long)) len);
      };
    }

-- the service index is set
pub index_at : (old new : List ℕ) (h : Header) (n v : ℕ) → BeginsWith old h n → new ≡ set old 7 v → ((k : NshHead) → IsHead old k → IsHead new (with_si k v)) → BeginsWith new (with_index h v) n
index_at old new h n v w new-is front =
    let long : 8 ≤ n = begins_long old h n w in
    let within : n ≤ length new = omega (arith, w.within, ap length new-is, length-set old 7 v) in
    record {
      within = within;
      spelled = record {
        front = IsHead-take new n (with_si h.head v) long (front h.head (begins_head old h n w));
        size = length-take-le n new within ∙ begins_size old h n w;
        sized = w.spelled.sized;
        behind = behind old new h n w (ap (drop 8) new-is ∙ drop-set-lt 8 old 7 v (omega arith));
      };
    }

-- a head with another eighth byte
pub IsHead-set : (old : List ℕ) (k : NshHead) (v : ℕ) → IsHead old k → IsHead (set old 7 v) (with_si k v)
IsHead-set [] k v s = absurd (omega (arith, s.long))
IsHead-set (a ∷ []) k v s = absurd (omega (arith, s.long))
IsHead-set (a ∷ b ∷ []) k v s = absurd (omega (arith, s.long))
IsHead-set (a ∷ b ∷ c ∷ []) k v s = absurd (omega (arith, s.long))
IsHead-set (a ∷ b ∷ c ∷ d ∷ []) k v s = absurd (omega (arith, s.long))
IsHead-set (a ∷ b ∷ c ∷ d ∷ e ∷ []) k v s = absurd (omega (arith, s.long))
IsHead-set (a ∷ b ∷ c ∷ d ∷ e ∷ f ∷ []) k v s = absurd (omega (arith, s.long))
IsHead-set (a ∷ b ∷ c ∷ d ∷ e ∷ f ∷ g ∷ []) k v s = absurd (omega (arith, s.long))
IsHead-set (a ∷ b ∷ c ∷ d ∷ e ∷ f ∷ g ∷ h ∷ rest) k v s = record {
  long = s.long;
  first_word = s.first_word;
  third = s.third;
  next = s.next;
  spi = s.spi;
  si = refl;
  fits = record { ttl = s.fits.ttl; words = s.fits.words; spare4 = s.fits.spare4; md = s.fits.md };
}
