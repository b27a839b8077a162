-- Each function leaves bytes of a frame of bytes.
use Rattle.std.proofs.Common.{ℕ, ◌+◌, ◌-◌, ◌<◌, ◌≤◌, Bool, true, false, cond, List, ◌++◌, arith, drop, length, take}
use Rattle.std.specs.Prelude.{nat_le}
use Rattle.std.proofs.lemmas.List.Elements.{All-append, All-drop, All-from_recursion, All-take}
use Rattle.wire_base.specs.Numbers.{AreBytes}
use Rattle.net_frames.specs.Captured.{Captured}
use Rattle.net_frames.specs.Contents.{fields_of}
use Rattle.net_frames.specs.Edits.{address_at, address_in, lowered_in, marked_in, readdressed, readdressed_in, rechecked, tag_of, with_bytes}
use Rattle.net_frames.specs.Checksums.{adjust, reworded}
use Rattle.net_frames.specs.Layouts.{checked_of, is_tag, network_of}
use Rattle.net_frames.specs.Words.{word}
use Rattle.net_frames.specs.declared.contents.Side.{Side}
use Rattle.net_frames.specs.declared.layouts.Checked.{Checked}
use Rattle.net_frames.specs.declared.layouts.Checked.TheVariants.{Tcp, Udp, Unchecked}
use Rattle.net_frames.specs.declared.layouts.Network.{Network}
use Rattle.net_frames.specs.declared.layouts.Network.TheVariants.{Ipv4, Ipv6, Other}
use Rattle.net_frames.proofs.HeaderLaws.{bytes-reworded, bytes-with_word}
use Rattle.net_frames.proofs.RightLemmas.{adjust_below}
use Rattle.net_frames.proofs.WordLemmas.{word_below}
use Rattle.service_functions.specs.Functions.{IsFunction}
use Rattle.service_functions.specs.Serving.{FrameBy, has_address}
use Rattle.service_functions.specs.declared.functions.Function.{Function}
use Rattle.service_functions.specs.declared.functions.Function.TheVariants.{ClearMeta, Firewall, HopLimit, Nat, Pass, PopVlan, PushVlan, Remark, RequireMeta, Stamp}

-- ---- words

pub either_bytes : (b : Bool) (xs ys : List ℕ) → AreBytes xs → AreBytes ys → AreBytes (cond b xs ys)
either_bytes true xs ys are be = are
either_bytes false xs ys are be = be

either_frame : (b : Bool) (x y : Captured) → AreBytes x.bytes → AreBytes y.bytes → AreBytes (cond b x y).bytes
either_frame true x y are be = are
either_frame false x y are be = be

either_number : (b : Bool) (n : ℕ) → n < 65536 → cond b 65535 n < 65536
either_number true n small = omega arith
either_number false n small = small

marked_bytes : (network : Network) (bytes : List ℕ) (dscp : ℕ) → dscp ≤ 63 → AreBytes bytes → AreBytes (marked_in network bytes dscp)
marked_bytes (Ipv4 at transport) bytes dscp few are = let below = word_below bytes at are in bytes-reworded bytes (at + 10) at _ (omega (arith, below, few)) are
marked_bytes (Ipv6 at transport) bytes dscp few are = let below = word_below bytes at are in bytes-with_word bytes at _ (omega (arith, below, few)) are
marked_bytes Other bytes dscp few are = are

lowered_bytes : (network : Network) (bytes : List ℕ) → AreBytes bytes → AreBytes (lowered_in network bytes)
lowered_bytes (Ipv4 at transport) bytes are = let below = word_below bytes (at + 8) are in bytes-reworded bytes (at + 10) (at + 8) _ (omega (arith, below)) are
lowered_bytes (Ipv6 at transport) bytes are = let below = word_below bytes (at + 6) are in bytes-with_word bytes (at + 6) _ (omega (arith, below)) are
lowered_bytes Other bytes are = are

-- the two words of an address at a place of some bytes make room for those of another
rechecked_bytes : (checked : Checked) (bytes old to : List ℕ) (i : ℕ) → AreBytes bytes → AreBytes (rechecked checked bytes (address_in old i) (address_in to 0))
unfolding rechecked
rechecked_bytes (Tcp place) bytes old to i are = bytes-with_word bytes place _ (adjust_below (adjust (word bytes place) (word old i) (word to 0)) (word old (i + 2)) (word to (0 + 2))) are
rechecked_bytes (Udp place) bytes old to i are =
    either_bytes _ bytes _ are (bytes-with_word bytes place _ (either_number _ _ (adjust_below (adjust (word bytes place) (word old i) (word to 0)) (word old (i + 2)) (word to (0 + 2)))) are)
rechecked_bytes Unchecked bytes old to i are = are

readdressed_bytes : (network : Network) (bytes : List ℕ) (side : Side) (to : List ℕ) → AreBytes bytes → AreBytes to → AreBytes (readdressed_in network bytes side to)
readdressed_bytes (Ipv4 at transport) bytes side to are new =
    let i = address_at side at in
    rechecked_bytes (checked_of bytes at transport) (reworded (reworded bytes (at + 10) i (word to 0)) (at + 10) (i + 2) (word to 2)) bytes to i
    (bytes-reworded (reworded bytes (at + 10) i (word to 0)) (at + 10) (i + 2) (word to 2) (word_below to 2 new) (bytes-reworded bytes (at + 10) i (word to 0) (word_below to 0 new) are))
readdressed_bytes (Ipv6 at transport) bytes side to are new = are
readdressed_bytes Other bytes side to are new = are

-- ---- frames

tag_bytes : (vid : ℕ) → vid ≤ 4095 → AreBytes (tag_of vid)
tag_bytes vid few = All-from_recursion (λ (b : ℕ). b < 256) (tag_of vid) (omega arith, (omega arith, (omega (arith, few), (omega arith, tt))))

pub served_bytes : (f : Function) (frame : Captured) → IsFunction f → AreBytes frame.bytes → AreBytes (FrameBy f frame).bytes
served_bytes Pass frame fits are = are
served_bytes (Firewall protocol low high) frame fits are = are
served_bytes (Remark dscp) frame fits are = marked_bytes (network_of frame.bytes) frame.bytes dscp fits are
served_bytes (Nat side from to) frame fits are =
    either_frame (has_address (fields_of frame.bytes) side from) (with_bytes frame (readdressed frame.bytes side to)) frame (readdressed_bytes (network_of frame.bytes) frame.bytes side to are fits.1.1) are
served_bytes HopLimit frame fits are = lowered_bytes (network_of frame.bytes) frame.bytes are
served_bytes (PushVlan vid) frame fits are =
    either_frame (nat_le 12 (length frame.bytes)) (record { room = frame.room; bytes = take 12 frame.bytes ++ (tag_of vid ++ drop 12 frame.bytes); original = frame.original + 4 }) frame
    (All-append (λ (b : ℕ). b < 256) (take 12 frame.bytes) (tag_of vid ++ drop 12 frame.bytes) (All-take (λ (b : ℕ). b < 256) 12 frame.bytes are)
    (All-append (λ (b : ℕ). b < 256) (tag_of vid) (drop 12 frame.bytes) (tag_bytes vid fits) (All-drop (λ (b : ℕ). b < 256) 12 frame.bytes are))) are
served_bytes PopVlan frame fits are =
    either_frame (is_tag frame.bytes 12) (record { room = frame.room; bytes = take 12 frame.bytes ++ drop 16 frame.bytes; original = frame.original - 4 }) frame
    (All-append (λ (b : ℕ). b < 256) (take 12 frame.bytes) (drop 16 frame.bytes) (All-take (λ (b : ℕ). b < 256) 12 frame.bytes are) (All-drop (λ (b : ℕ). b < 256) 16 frame.bytes are)) are
served_bytes (Stamp class kind body) frame fits are = are
served_bytes (RequireMeta class kind) frame fits are = are
served_bytes ClearMeta frame fits are = are
