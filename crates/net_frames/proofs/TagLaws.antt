-- What a tag taken out or put in leaves right.
use Rattle.std.proofs.Common.{◌≡◌, ℕ, ◌+◌, ◌-◌, ◌*◌, ◌<◌, ◌≤◌, Bool, true, false, cond, List, ◌∷◌, ◌++◌, length, take, drop, refl, ap, subst, ◌∙◌, arith, length-append, append_assoc}
use Rattle.std.proofs.lemmas.Bool.{leb-true, le-leb}
use Rattle.std.proofs.lemmas.Bool.Decides.{nat_tests}
use Rattle.std.proofs.lemmas.List.{length-take-le}
use Rattle.std.proofs.Math.Bool.{and-true}
use Rattle.std.specs.Prelude.{nat_le}
use Rattle.net_frames.specs.Words.{word}
use Rattle.net_frames.specs.Captured.{Captured}
use Rattle.net_frames.specs.Layouts.{is_tag, tags, network_at, network_of}
use Rattle.net_frames.specs.Edits.{untagged, tagged, tag_of}
use Rattle.net_frames.specs.Right.{HasRightHeader, HasRightSegment}
use Rattle.net_frames.specs.declared.layouts.Network.TheVariants.{Ipv4}
use Rattle.net_frames.proofs.LayoutLemmas.{found_header, shown_header, not_tag, behind_a_tag}
use Rattle.net_frames.proofs.MoveLemmas.{IsMoved, moved_behind, tag_moved, header_moved, segment_moved}

-- one of two frames, by a test
pub either : (test : Bool) (first second : Captured) (P : List ℕ → Type 0) → (test ≡ true → P first.bytes) → (test ≡ false → P second.bytes) →
    P (cond test first second).bytes
either true first second P holds other = holds refl
either false first second P holds other = other refl

tag_room : (bytes : List ℕ) → is_tag bytes 12 ≡ true → 16 ≤ length bytes
unfolding is_tag
tag_room bytes tag = grind (arith, nat_tests)

-- one tag fewer
one_fewer : (first second third : Bool) → first ≡ true → (second ≡ true → third ≡ false) →
    14 + 4 * cond second (cond third 2 1) 0 + 4 ≡ 14 + 4 * cond first (cond second 2 1) 0
one_fewer true true third tag last = rw (last refl) refl
one_fewer true false third tag last = refl
one_fewer false second third tag last = absurd (cc)

-- two tags are counted
two_counted : (first second : Bool) → first ≡ true → second ≡ true → 14 + 4 * cond first (cond second 2 1) 0 ≡ 22
two_counted true true one two = refl
two_counted true false one two = absurd (cc)
two_counted false second one two = absurd (cc)

-- where the header stands once the tag is out; the type before it is no tag's
pub popped_at : (bytes others : List ℕ) (at : ℕ) → network_at bytes ≡ at → is_tag bytes (at - 2) ≡ false → is_tag bytes 12 ≡ true →
    IsMoved bytes others 16 12 → network_at others + 4 ≡ at
unfolding network_at tags
popped_at bytes others at begins type tag moved =
    let last : is_tag bytes 16 ≡ true → is_tag bytes 20 ≡ false = λ second.
    let there : at - 2 ≡ 20 = omega (arith, begins, two_counted (is_tag bytes 12) (is_tag bytes 16) tag second) in
    rw there at type in
    rw (tag_moved bytes others 16 12 16 12 moved (omega arith) refl, tag_moved bytes others 16 12 20 16 moved (omega arith) refl)
    (one_fewer (is_tag bytes 12) (is_tag bytes 16) (is_tag bytes 20) tag last ∙ begins)

-- a header behind a tag
pub behind_one : (bytes : List ℕ) (at : ℕ) → network_at bytes ≡ at → is_tag bytes 12 ≡ true → 18 ≤ at
unfolding network_at tags
behind_one bytes at begins tag = omega (arith, begins, behind_a_tag (is_tag bytes 12) (is_tag bytes 16) tag)

-- the type before an IPv4 header
ipv4_type : (bytes : List ℕ) (at transport : ℕ) → network_of bytes ≡ Ipv4 at transport → is_tag bytes (at - 2) ≡ false
ipv4_type bytes at transport found =
    not_tag bytes (at - 2) (shown_header bytes at (found_header bytes at transport found).shown).kind

pub popped_moved : (bytes : List ℕ) → is_tag bytes 12 ≡ true → IsMoved bytes (take 12 bytes ++ drop 16 bytes) 16 12
popped_moved bytes tag =
    let room = tag_room bytes tag in
    moved_behind bytes (take 12 bytes) 16 12 (length-take-le 12 bytes (omega arith)) room

pub popped_header : (frame : Captured) → HasRightHeader frame.bytes → HasRightHeader (untagged frame).bytes
popped_header frame was = either (is_tag frame.bytes 12) _ frame HasRightHeader
    (λ tag.
    let moved = popped_moved frame.bytes tag in
    let begins = (found_header frame.bytes was.at was.transport was.found).begins in
    let there = popped_at frame.bytes (take 12 frame.bytes ++ drop 16 frame.bytes) was.at begins
    (ipv4_type frame.bytes was.at was.transport was.found) tag moved in
    header_moved frame.bytes _ 16 12 (network_at (take 12 frame.bytes ++ drop 16 frame.bytes)) moved was
    (behind_one frame.bytes was.at begins tag) (omega (arith, there)) refl)
    (λ none. was)

pub popped_segment : (frame : Captured) → HasRightSegment frame.bytes → HasRightSegment (untagged frame).bytes
popped_segment frame was = either (is_tag frame.bytes 12) _ frame HasRightSegment
    (λ tag.
    let moved = popped_moved frame.bytes tag in
    let begins = (found_header frame.bytes was.at was.transport was.found).begins in
    let there = popped_at frame.bytes (take 12 frame.bytes ++ drop 16 frame.bytes) was.at begins
    (ipv4_type frame.bytes was.at was.transport was.found) tag moved in
    segment_moved frame.bytes _ 16 12 (network_at (take 12 frame.bytes ++ drop 16 frame.bytes)) moved was
    (behind_one frame.bytes was.at begins tag) (omega (arith, there)) refl)
    (λ none. was)

-- one tag more
one_more : (first second third fourth : Bool) → first ≡ true → second ≡ third → (cond third (cond fourth 2 1) 0) < 2 →
    14 + 4 * cond first (cond second 2 1) 0 ≡ 14 + 4 * cond third (cond fourth 2 1) 0 + 4
one_more true second true false new same few = rw same refl
one_more true second false fourth new same few = rw same refl
one_more true second true true new same few = absurd (omega arith)
one_more false second third fourth new same few = absurd (cc)

-- the new tag is one
new_tag : (bytes rest : List ℕ) → 12 ≤ length bytes → is_tag (take 12 bytes ++ 129 ∷ 0 ∷ rest) 12 ≡ nat_le 16 (length (take 12 bytes ++ 129 ∷ 0 ∷ rest))
unfolding is_tag word
new_tag (a ∷ b ∷ c ∷ d ∷ e ∷ f ∷ g ∷ h ∷ i ∷ j ∷ k ∷ l ∷ more) rest enough = and-true _
new_tag bytes rest enough = absurd (omega arith)

pub pushed_moved : (bytes : List ℕ) (vid : ℕ) → 12 ≤ length bytes → IsMoved bytes (take 12 bytes ++ (tag_of vid ++ drop 12 bytes)) 12 16
pushed_moved bytes vid enough =
    let long : length (take 12 bytes ++ tag_of vid) ≡ 16 = omega (arith, length-append (take 12 bytes) (tag_of vid), length-take-le 12 bytes enough) in
    subst (λ others. IsMoved bytes others 12 16) (append_assoc (take 12 bytes) (tag_of vid) (drop 12 bytes))
    (moved_behind bytes (take 12 bytes ++ tag_of vid) 12 16 long enough)

-- where the header stands once the tag is in
pub pushed_at : (bytes : List ℕ) (vid at : ℕ) → network_at bytes ≡ at → 12 ≤ length bytes → tags bytes < 2 →
    network_at (take 12 bytes ++ (tag_of vid ++ drop 12 bytes)) ≡ at + 4
unfolding network_at tags
pushed_at bytes vid at begins enough few =
    let others = take 12 bytes ++ (tag_of vid ++ drop 12 bytes) in
    let moved = pushed_moved bytes vid enough in
    let room : nat_le 16 (length others) ≡ true = le-leb 16 (length others) (omega (arith, moved.count)) in
    one_more (is_tag others 12) (is_tag others 16) (is_tag bytes 12) (is_tag bytes 16) (new_tag bytes _ enough ∙ room)
    (tag_moved bytes others 12 16 12 16 moved (omega arith) refl) few ∙ ap (λ n. n + 4) begins

pub pushed_header : (frame : Captured) (vid : ℕ) → tags frame.bytes < 2 → HasRightHeader frame.bytes → HasRightHeader (tagged frame vid).bytes
pushed_header frame vid few was = either (nat_le 12 (length frame.bytes)) _ frame HasRightHeader
    (λ enough.
    let header = found_header frame.bytes was.at was.transport was.found in
    let there = pushed_at frame.bytes vid was.at header.begins (leb-true 12 (length frame.bytes) enough) few in
    header_moved frame.bytes _ 12 16 (was.at + 4) (pushed_moved frame.bytes vid (leb-true 12 (length frame.bytes) enough)) was
    header.low (omega arith) there)
    (λ short. was)

pub pushed_segment : (frame : Captured) (vid : ℕ) → tags frame.bytes < 2 → HasRightSegment frame.bytes → HasRightSegment (tagged frame vid).bytes
pushed_segment frame vid few was = either (nat_le 12 (length frame.bytes)) _ frame HasRightSegment
    (λ enough.
    let header = found_header frame.bytes was.at was.transport was.found in
    let there = pushed_at frame.bytes vid was.at header.begins (leb-true 12 (length frame.bytes) enough) few in
    segment_moved frame.bytes _ 12 16 (was.at + 4) (pushed_moved frame.bytes vid (leb-true 12 (length frame.bytes) enough)) was
    header.low (omega arith) there)
    (λ short. was)
