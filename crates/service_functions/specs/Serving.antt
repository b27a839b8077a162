-- What a function does with a frame and the context of its header (RFC 7665, sections 4.2 and 4.6).
use Rattle.std.specs.Prelude.{◌≡◌, ℕ, ◌+◌, ◌<◌, ◌≤◌, ◌⊎◌, Bool, true, false, bytes_eq, if◌then◌else◌, Option, Some, IsSomeAnd, List, [], ◌∷◌, length, get_or}
use Rattle.wire_base.specs.declared.next_hops.NextHop.{NextHop}
use Rattle.wire_base.specs.declared.next_hops.NextHop.TheVariants.{Four}
use Rattle.net_frames.specs.Captured.{Captured}
use Rattle.net_frames.specs.Contents.{fields_of}
use Rattle.net_frames.specs.Edits.{with_bytes, marked, readdressed, expires, lowered, untagged, tagged, IsFullFor}
use Rattle.net_frames.specs.declared.contents.Fields.{Fields}
use Rattle.net_frames.specs.declared.contents.Side.{Side}
use Rattle.net_frames.specs.declared.contents.Side.TheVariants.{Source, Destination}
use Rattle.nsh_metadata.specs.Item.{item_len, items_bytes}
use Rattle.nsh_metadata.specs.Header.{Header}
use Rattle.nsh_metadata.specs.Changes.{has_item, with_item, cleared, with_context}
use Rattle.nsh_metadata.specs.declared.contexts.Context.{Context}
use Rattle.nsh_metadata.specs.declared.contexts.Context.TheVariants.{Fixed16, Items}
use Rattle.service_functions.specs.Functions.{on_metadata}
use Rattle.service_functions.specs.declared.functions.Function.{Function}
use Rattle.service_functions.specs.declared.functions.Function.TheVariants.{Pass, Firewall, Remark, Nat, HopLimit, PushVlan, PopVlan, Stamp, RequireMeta, ClearMeta}
use Rattle.service_functions.specs.declared.answers.Served.{Served}
use Rattle.service_functions.specs.declared.answers.Served.TheVariants.{Passed, Dropped}
use Rattle.service_functions.specs.declared.answers.Why.{Why}
use Rattle.service_functions.specs.declared.answers.Why.TheVariants as why

-- ---- the frame

-- a packet of this protocol to a port from low to high
pub record IsTo (protocol low high : ℕ) (fields : Fields) : Type 0 where
  pub of : fields.protocol ≡ Some protocol
  pub to : IsSomeAnd fields.to_port (λ port. (low ≤ port) × (port ≤ high))

-- the address of one side, where a frame has one, is this one of IPv4
abbrev pub is_address : Option NextHop → List ℕ → Bool
is_address (Some (Four address)) from = bytes_eq address from
is_address _ from = false

abbrev pub has_address : Fields → Side → List ℕ → Bool
has_address fields Source from = is_address fields.source from
has_address fields Destination from = is_address fields.destination from

-- why a function drops a frame, whatever its header has
abbrev pub DropByFrame : Function → Captured → Why → Type 0
DropByFrame (Firewall protocol low high) frame w = (w ≡ why.Denied) × IsTo protocol low high (fields_of frame.bytes)
DropByFrame HopLimit frame w = (w ≡ why.HopLimit) × (expires frame.bytes ≡ true)
DropByFrame (PushVlan vid) frame w = (w ≡ why.TooLong) × IsFullFor frame
DropByFrame _ frame w = ⊥

-- the frame behind a function that passes it; it depends on the frame alone
abbrev pub FrameBy : Function → Captured → Captured
FrameBy (Remark dscp) frame = with_bytes frame (marked frame.bytes dscp)
FrameBy (Nat side from to) frame =
    if has_address (fields_of frame.bytes) side from then with_bytes frame (readdressed frame.bytes side to) else frame
FrameBy HopLimit frame = with_bytes frame (lowered frame.bytes)
FrameBy (PushVlan vid) frame = tagged frame vid
FrameBy PopVlan frame = untagged frame
FrameBy _ frame = frame

-- ---- the context

-- why a function drops a frame for the context of its header
abbrev pub DropByContext : Function → Context → Why → Type 0
DropByContext (Stamp class kind body) (Fixed16 bytes) w = w ≡ why.Meta
DropByContext (Stamp class kind body) (Items items) w = (w ≡ why.MetaFull) × (244 < length (items_bytes items) + item_len (length body.items))
DropByContext (RequireMeta class kind) context w = (w ≡ why.Meta) × (has_item context class kind ≡ false)
DropByContext _ context w = ⊥

-- the context behind a function that passes
abbrev pub ContextBy : Function → Context → Context
ContextBy (Stamp class kind body) context = with_item context class kind body.items
ContextBy ClearMeta context = cleared context
ContextBy _ context = context

-- the header behind a function that passes: one on metadata leaves its context, which Length counts, and no other sees
-- the header
abbrev pub HeaderBy : Function → Header → Header
HeaderBy f header = if on_metadata f then with_context header (ContextBy f header.context) else header

-- ---- both

-- why a function drops a frame with this context
abbrev pub DropBy : Function → Captured → Context → Why → Type 0
DropBy f frame context w = DropByFrame f frame w ⊎ DropByContext f context w

-- A function serves a frame with this header: it drops it for a reason, and frame and header stay; or it has no reason,
-- and they are what the function leaves.
abbrev pub Serve : Function → Captured → Header → Served → Captured → Header → Type 0
Serve f frame header (Dropped w) frame' header' = DropBy f frame header.context w × (frame' ≡ frame) × (header' ≡ header)
Serve f frame header Passed frame' header' =
    ((w : Why) → DropBy f frame header.context w → ⊥) × (frame' ≡ FrameBy f frame) × (header' ≡ HeaderBy f header)

-- it serves a frame whose header it does not see
abbrev pub ServeFrame : Function → Captured → Served → Captured → Type 0
ServeFrame f frame (Dropped w) frame' = DropByFrame f frame w × (frame' ≡ frame)
ServeFrame f frame Passed frame' = ((w : Why) → DropByFrame f frame w → ⊥) × (frame' ≡ FrameBy f frame)

-- it serves a header alone
abbrev pub ServeHeader : Function → Header → Served → Header → Type 0
ServeHeader f header (Dropped w) header' = DropByContext f header.context w × (header' ≡ header)
ServeHeader f header Passed header' =
    ((w : Why) → DropByContext f header.context w → ⊥) × (header' ≡ HeaderBy f header)

-- ---- visits

-- the function of an instance, by its number; one that is not there passes
abbrev pub function_at : List Function → ℕ → Function
function_at functions i = get_or functions i Pass

-- the frame behind the instances that it visited, in order
abbrev pub Through : List Function → List ℕ → Captured → Captured
Through functions [] frame = frame
Through functions (i ∷ visits) frame = Through functions visits (FrameBy (function_at functions i) frame)
