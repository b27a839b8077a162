-- Bytes have one reading: a number, a head, a packet and a list of packets are each told by their bytes.
use Rattle.std.proofs.Common.{◌≡◌, ◌<◌, ◌≤◌, ℕ, ◌+◌, ◌^◌, List, [], ◌∷◌, ◌++◌, length, take, drop, true, false, refl, sym, ap, ◌∙◌, arith, append_assoc, get_or, lit<}
use Rattle.std.specs.List.{AllByRecursion}
use Rattle.std.specs.Int.{from_be_bytes, from_le_bytes, w32}
use Rattle.std.proofs.lemmas.List.{length-append, take-append-drop}
use Rattle.std.proofs.lemmas.List.Concat.{flat_map-cons}
use Rattle.std.proofs.lemmas.Nat.{from_be_bytes-to_be_bytes_4, from_le_bytes-to_le_bytes_4}
use Rattle.pcap_io.specs.declared.forms.Form.{Form}
use Rattle.pcap_io.specs.declared.frames.Captured.{Captured}
use Rattle.pcap_io.specs.declared.frames.PacketHead.{PacketHead}
use Rattle.pcap_io.specs.Captures.{IsWithinLimits, packet, packets}
use Rattle.pcap_io.specs.Fronts.{HeadFits, packet_head_is}
use Rattle.pcap_io.specs.Heads.{magic_of, packet_head_of, word}
use Rattle.pcap_io.proofs.HeadLemmas.{length-word}

-- four bytes spell one number
pub word_one_to_one : (form : Form) (m n : ℕ) → m < 2 ^ 32 → n < 2 ^ 32 → word form m ≡ word form n → m ≡ n
unfolding word
word_one_to_one form m n m_fits n_fits =
    elim form.big as (λ b. word (record form { big = b }) m ≡ word (record form { big = b }) n → m ≡ n) [
      | true ↦ λ same. sym (from_be_bytes-to_be_bytes_4 m m_fits) ∙ ap (from_be_bytes w32) same ∙ from_be_bytes-to_be_bytes_4 n n_fits
      | false ↦ λ same. sym (from_le_bytes-to_le_bytes_4 m m_fits) ∙ ap (from_le_bytes w32) same ∙ from_le_bytes-to_le_bytes_4 n n_fits
    ]

-- lists that begin with parts of one length have the same parts
pub same_parts : (a b c d : List ℕ) → length a ≡ length c → a ++ b ≡ c ++ d → (a ≡ c) × (b ≡ d)
same_parts [] b [] d same_length same = (refl, same)
same_parts [] b (y ∷ c) d same_length same = grind arith
same_parts (x ∷ a) b [] d same_length same = grind arith
same_parts (x ∷ a) b (y ∷ c) d same_length same =
    let first : x ≡ y = ap (λ l. get_or l 0 0) same in
    let others : a ++ b ≡ c ++ d = ap (λ l. drop 1 l) same in
    let parts = same_parts a b c d (omega (arith, same_length)) others in
    (ap (λ b. b ∷ a) first ∙ ap (λ l. y ∷ l) parts.0, parts.1)

-- a head has 16 bytes
pub length-packet_head_of : (form : Form) (s f c o : ℕ) → length (packet_head_of form s f c o) ≡ 16
length-packet_head_of form s f c o =
    let one = length-word form s in
    let two = length-word form f in
    let three = length-word form c in
    let four = length-word form o in
    let a = length-append (word form s ++ word form f ++ word form c) (word form o) in
    let b = length-append (word form s ++ word form f) (word form c) in
    let d = length-append (word form s) (word form f) in
    omega (arith, one, two, three, four, a, b, d)

-- two heads and what is behind them are the same
pub record SameHead (s f c o s' f' c' o' : ℕ) (x y : List ℕ) : Type 0 where
  pub seconds : s ≡ s'
  pub fraction : f ≡ f'
  pub captured : c ≡ c'
  pub original : o ≡ o'
  pub behind : x ≡ y

-- equal bytes have equal heads
pub same_head : (form : Form) (s f c o s' f' c' o' : ℕ) (x y : List ℕ) → HeadFits s f c o → HeadFits s' f' c' o' → packet_head_of form s f c o ++ x ≡ packet_head_of form s' f' c' o' ++ y → SameHead s f c o s' f' c' o' x y
same_head form s f c o s' f' c' o' x y fits fits' same =
    let heads = same_parts (packet_head_of form s f c o) x (packet_head_of form s' f' c' o') y
    (length-packet_head_of form s f c o ∙ sym (length-packet_head_of form s' f' c' o')) same in
    let three = same_words (word form s ++ word form f ++ word form c) (word form s' ++ word form f' ++ word form c') form o o' heads.0 in
    let two = same_words (word form s ++ word form f) (word form s' ++ word form f') form c c' three.0 in
    let one = same_words (word form s) (word form s') form f f' two.0 in
    record {
      seconds = word_one_to_one form s s' fits.seconds fits'.seconds one.0;
      fraction = word_one_to_one form f f' fits.fraction fits'.fraction one.1;
      captured = word_one_to_one form c c' fits.captured fits'.captured two.1;
      original = word_one_to_one form o o' fits.original fits'.original three.1;
      behind = heads.1;
    }
  where
    same_words : (a b : List ℕ) (form : Form) (m n : ℕ) → a ++ word form m ≡ b ++ word form n → (a ≡ b) × (word form m ≡ word form n)
    same_words a b form m n same =
        let sums = ap length same in
        let left = length-append a (word form m) in
        let right = length-append b (word form n) in
        let last = length-word form m in
        let last' = length-word form n in
        same_parts a (word form m) b (word form n) (omega (arith, sums, left, right, last, last')) same

-- the numbers of a frame within the limits fit
pub frame_fits : (frame : Captured) → IsWithinLimits frame → HeadFits frame.seconds frame.fraction (length frame.bytes) frame.original
frame_fits frame within = record {
  seconds = let h = within.seconds in omega (arith, h);
  fraction = let h = within.fraction in omega (arith, h);
  captured = let h = within.captured in omega (arith, h);
  original = let h = within.original in omega (arith, h);
}

-- a packet and what follows it: its head, its bytes, and the rest
packet-split : (form : Form) (frame : Captured) (rest : List ℕ) → packet form frame ++ rest ≡ packet_head_of form frame.seconds frame.fraction (length frame.bytes) frame.original ++ (frame.bytes ++ rest)
packet-split form frame rest =
    append_assoc (packet_head_of form frame.seconds frame.fraction (length frame.bytes) frame.original) frame.bytes rest

-- what 16 bytes and those behind them say of the frame that stands there
pub front_head : (form : Form) (bytes : List ℕ) (head : PacketHead) (frame : Captured) (rest : List ℕ) → HeadFits head.seconds head.fraction head.captured head.original → packet_head_is form head (take 16 bytes) → IsWithinLimits frame → bytes ≡ packet form frame ++ rest → SameHead head.seconds head.fraction head.captured head.original frame.seconds frame.fraction (length frame.bytes) frame.original (drop 16 bytes) (frame.bytes ++ rest)
front_head form bytes head frame rest fits is_head within all =
    same_head form head.seconds head.fraction head.captured head.original frame.seconds frame.fraction (length frame.bytes) frame.original (drop 16 bytes) (frame.bytes ++ rest) fits (frame_fits frame within)
    (ap (λ l. l ++ drop 16 bytes) is_head ∙ take-append-drop 16 bytes ∙ all ∙ packet-split form frame rest)

-- a packet has 16 bytes and the frame's
pub length-packet : (form : Form) (frame : Captured) → length (packet form frame) ≡ 16 + length frame.bytes
length-packet form frame =
    length-append (packet_head_of form frame.seconds frame.fraction (length frame.bytes) frame.original) frame.bytes
    ∙ ap (λ n. n + length frame.bytes) (length-packet_head_of form frame.seconds frame.fraction (length frame.bytes) frame.original)

-- no packet begins another
pub same_packet : (form : Form) (p q : Captured) (x y : List ℕ) → IsWithinLimits p → IsWithinLimits q → packet form p ++ x ≡ packet form q ++ y → (p ≡ q) × (x ≡ y)
same_packet form p q x y within within' same =
    let heads = same_head form p.seconds p.fraction (length p.bytes) p.original q.seconds q.fraction (length q.bytes) q.original (p.bytes ++ x) (q.bytes ++ y) (frame_fits p within) (frame_fits q within')
    (sym (packet-split form p x) ∙ same ∙ packet-split form q y) in
    let parts = same_parts p.bytes x q.bytes y heads.captured heads.behind in
    (same_fields p q heads.seconds heads.fraction heads.original parts.0, parts.1)
  where
    same_fields : (p q : Captured) → p.seconds ≡ q.seconds → p.fraction ≡ q.fraction → p.original ≡ q.original → p.bytes ≡ q.bytes → p ≡ q
    same_fields p q s f o b =
        ap (λ n. let frame : Captured = record p { seconds = n } in frame) s
        ∙ ap (λ n. let frame : Captured = record p { seconds = q.seconds; fraction = n } in frame) f
        ∙ ap (λ n. let frame : Captured = record p { seconds = q.seconds; fraction = q.fraction; original = n } in frame) o
        ∙ ap (λ n. let frame : Captured = record q { bytes = n } in frame) b

-- the first frame of a list stands first
pub packets-cons : (form : Form) (p : Captured) (ps : List Captured) → packets form (p ∷ ps) ≡ packet form p ++ packets form ps
packets-cons form p ps = flat_map-cons (packet form) p ps

-- frames that are one more are within the limits, if that one is
pub within-push : (ps : List Captured) (p : Captured) → AllByRecursion IsWithinLimits ps → IsWithinLimits p → AllByRecursion IsWithinLimits (ps ++ p ∷ [])
within-push [] p within last = (last, tt)
within-push (q ∷ ps) p within last = (within.0, within-push ps p within.1 last)

-- a head at which a frame stands keeps the limits, and the frame's bytes are there
pub record FrontWithin (head : PacketHead) (behind : List ℕ) : Type 0 where
  pub captured : head.captured ≤ 262144
  pub whole : head.captured ≤ head.original
  pub original : head.original ≤ 2147483647
  pub there : head.captured ≤ length behind

pub front_within : (form : Form) (bytes : List ℕ) (head : PacketHead) (frame : Captured) (rest : List ℕ) → HeadFits head.seconds head.fraction head.captured head.original → packet_head_is form head (take 16 bytes) → IsWithinLimits frame → bytes ≡ packet form frame ++ rest → FrontWithin head (drop 16 bytes)
front_within form bytes head frame rest fits is_head within all =
    let front = front_head form bytes head frame rest fits is_head within all in
    let captured = within.captured in
    let whole = within.whole in
    let original = within.original in
    let same_captured = front.captured in
    let same_original = front.original in
    let behind = ap length front.behind ∙ length-append frame.bytes rest in
    record {
      captured = omega (arith, captured, same_captured);
      whole = omega (arith, whole, same_captured, same_original);
      original = omega (arith, original, same_original);
      there = omega (arith, same_captured, behind);
    }

-- no frame stands where fewer than 16 bytes are left
pub too_short : (form : Form) (bytes : List ℕ) (frame : Captured) (rest : List ℕ) → length bytes < 16 → bytes ≡ packet form frame ++ rest → ⊥
too_short form bytes frame rest short all =
    let sums = ap length all ∙ length-append (packet form frame) rest in
    let front = length-packet form frame in
    omega (arith, short, sums, front)

-- the magic of a form fits 4 bytes
pub magic_fits : (form : Form) → magic_of form < 2 ^ 32
magic_fits form = elim form.nano as (λ b. magic_of (record form { nano = b }) < 2 ^ 32) [ true ↦ lit< tt | false ↦ lit< tt ]
