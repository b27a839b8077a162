-- What an instance leaves where the header lies, and the station that a hop leads to.
use Rattle.std.proofs.Common.{◌≡◌, ℕ, ◌-◌, ◌<◌, ◌≤◌, Bool, true, false, List, length, get_or, refl, sym, ap, subst, ◌∙◌, arith, inr, cond}
use Rattle.std.proofs.lemmas.List.{get_or-map, get_or_past, length-map}
use Rattle.wire_base.specs.declared.ids.ForwarderId.{ForwarderId}
use Rattle.wire_base.specs.declared.ids.InstanceId.{InstanceId}
use Rattle.net_frames.specs.Captured.{Captured}
use Rattle.nsh_headers.specs.Head.{IsHead}
use Rattle.nsh_headers.specs.Edit.{with_si}
use Rattle.nsh_metadata.specs.Header.{Header, BeginsWith}
use Rattle.nsh_metadata.specs.Changes.{with_context, with_index}
use Rattle.nsh_metadata.specs.declared.contexts.Context.{Context}
use Rattle.service_functions.specs.Functions.{on_metadata}
use Rattle.service_functions.specs.Serving.{ContextBy, DropBy, FrameBy, HeaderBy, ServeFrame}
use Rattle.service_functions.specs.declared.functions.Function.{Function}
use Rattle.service_functions.specs.declared.functions.Function.TheVariants.{Pass}
use Rattle.service_functions.specs.declared.answers.Served.{Served}
use Rattle.service_functions.specs.declared.answers.Served.TheVariants as does
use Rattle.service_functions.specs.declared.answers.Why.{Why}
use Rattle.sfc_proxy.specs.Instances.{ServeAwareAt, bytes_moved_on, moved_on}
use Rattle.sfc_proxy.proofs.InstanceLemmas.{moved, served_frame}
use Rattle.setup_statements.specs.declared.statements.Bound.{Bound}
use Rattle.path_selection.specs.declared.answers.Answer.TheVariants.{At}
use Rattle.classifier.specs.Stations.{Station}
use Rattle.forwarder.specs.declared.turns.Next.TheVariants.{Passed, Dropped}
use Rattle.forwarder.specs.Walks.{aged, function_by, functions_of, served}
use Rattle.forwarder.specs.Kept.{LeadsTo}
use Rattle.forwarder.proofs.HeaderEdits.{IsHead-set}

-- ---- what is bound

-- a proxy serves as an instance that sees the header
pub unaware_serves : (f : Function) (frame frame' : Captured) (old new : List ℕ) (n : ℕ) (answer : Served) → on_metadata f ≡ false → ServeFrame f frame answer frame' → new ≡ bytes_moved_on answer old
    → ServeAwareAt f frame old n answer frame' new n
unaware_serves f frame frame' old new n does.Passed is p e = λ h w. (
  moved_on does.Passed h,
  (h, served_frame f frame frame' h does.Passed is p, refl),
  moved old new h n w e (λ k s. subst (λ (b : List ℕ). IsHead b (with_si k (get_or old 7 0 - 1))) (sym e) (IsHead-set old k (get_or old 7 0 - 1) s)),
)
unaware_serves f frame frame' old new n (does.Dropped why) is p e =
    λ h w. (h, (h, served_frame f frame frame' h (does.Dropped why) is p, refl), subst (λ (b : List ℕ). BeginsWith b h n) (sym e) w)

-- the function of an instance that is there
pub function_there : (bounds : List Bound) (instance : InstanceId) (place : ℕ) (bound : Bound) → place ≡ instance.0 → place < length bounds → bound ≡ get_or bounds place bound
    → bound.function ≡ function_by (functions_of bounds) instance
function_there bounds instance place bound same within is =
    ap (λ (b : Bound). b.function) is ∙ sym (get_or-map (λ (b : Bound). b.function) bounds place bound Pass within)
    ∙ ap (λ (n : ℕ). get_or (functions_of bounds) n Pass) same

-- one that is not there passes
pub function_past : (bounds : List Bound) (instance : InstanceId) (place : ℕ) → place ≡ instance.0 → length bounds ≤ place → Pass ≡ function_by (functions_of bounds) instance
function_past bounds instance place same past =
    sym (get_or_past (functions_of bounds) place Pass (omega (arith, length-map bounds (λ (b : Bound). b.function), past)))
    ∙ ap (λ (n : ℕ). get_or (functions_of bounds) n Pass) same

-- ---- a hop

-- a header's TTL and index do not touch what a function leaves of it
left_by : (b : Bool) (c : Context) (h : Header) (m at : ℕ) → m - 1 ≡ at - 1
    → (let left : Header = (cond b (with_context (with_index (aged h) m) c) (with_index (aged h) m)) in with_index left (left.head.path.si - 1))
    ≡ with_index (aged (cond b (with_context h c) h)) (at - 1)
left_by true c h m at e = ap (λ (v : ℕ). with_index (aged (with_context h c)) v) e
left_by false c h m at e = ap (λ (v : ℕ). with_index (aged h) v) e

pub left_header : (f : Function) (h : Header) (m at : ℕ) → m - 1 ≡ at - 1 → moved_on does.Passed (HeaderBy f (with_index (aged h) m)) ≡ with_index (aged (HeaderBy f h)) (at - 1)
left_header f h m at e = left_by (on_metadata f) (ContextBy f h.context) h m at e

pub passed_hop : (functions : List Function) (s : Station) (at m : ℕ) (forwarder : ForwarderId) (instance : InstanceId) (bytes bytes' : List ℕ) (size end : ℕ) (answer : Served) (frame frame' : Captured)
    → answer ≡ does.Passed → m - 1 ≡ at - 1 → s.forwarder ≡ forwarder → s.frame ≡ frame → BeginsWith bytes (with_index (aged s.header) m) size
    → ServeAwareAt (function_by functions instance) frame bytes size answer frame' bytes' end
    → LeadsTo functions s size (At at forwarder instance) (Passed instance end) frame' bytes'
passed_hop functions s at m forwarder instance bytes bytes' size end answer frame frame' is e home same w serves =
    let f = function_by functions instance in
    let now = subst (λ (v : Served). ServeAwareAt f frame bytes size v frame' bytes' end) is serves in
    let r = now (with_index (aged s.header) m) w in
    let left-is : r.1.0 ≡ HeaderBy f (with_index (aged s.header) m) = r.1.1.2 in
    let k-is : r.0 ≡ with_index (aged (HeaderBy f s.header)) (at - 1) = r.1.2 ∙ ap (moved_on does.Passed) left-is ∙ left_header f s.header m at e in (
      served functions s at instance,
      inr (sym home, (λ w d. r.1.1.0 w (subst (λ (x : Captured). DropBy f x s.header.context w) same d)), refl),
      record {
        at = refl;
        frame_is = ap (FrameBy f) same ∙ sym r.1.1.1;
        spelled = subst (λ (k : Header). BeginsWith bytes' k end) k-is r.2;
      },
      refl,
    )

pub dropped_hop : (functions : List Function) (s : Station) (at m : ℕ) (forwarder : ForwarderId) (instance : InstanceId) (why : Why) (bytes bytes' : List ℕ) (size end : ℕ) (answer : Served) (frame frame' : Captured)
    → answer ≡ does.Dropped why → s.forwarder ≡ forwarder → s.frame ≡ frame → BeginsWith bytes (with_index (aged s.header) m) size
    → ServeAwareAt (function_by functions instance) frame bytes size answer frame' bytes' end
    → LeadsTo functions s size (At at forwarder instance) (Dropped instance why) frame' bytes'
dropped_hop functions s at m forwarder instance why bytes bytes' size end answer frame frame' is home same w serves =
    let f = function_by functions instance in
    let now = subst (λ (v : Served). ServeAwareAt f frame bytes size v frame' bytes' end) is serves in
    let r = now (with_index (aged s.header) m) w in (
      (sym home, why, subst (λ (x : Captured). DropBy f x s.header.context why) (sym same) r.1.1.0, refl, refl),
      r.1.1.1 ∙ sym same,
    )
