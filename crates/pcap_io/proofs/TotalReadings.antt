-- Every list of bytes has a reading.
use Rattle.std.proofs.Common.{◌≡◌, ◌<◌, ◌≤◌, ℕ, zero, suc, ◌+◌, ◌^◌, List, [], ◌∷◌, ◌++◌, length, get_or, take, drop, Option, None, Some, true, false, refl, sym, ap, subst, ◌∙◌, inl, inr, ◌⊎◌, append_assoc, arith, lit<, length-take-le}
use Rattle.std.specs.Prelude.{◌≢◌}
use Rattle.std.specs.Int.{from_be_bytes, from_le_bytes, w32}
use Rattle.std.specs.List.{AllByRecursion}
use Rattle.std.proofs.lemmas.Bool.{cases_lt, cases_eq}
use Rattle.std.proofs.lemmas.List.{take-append-drop, length-append, length-drop, get_or_past}
use Rattle.std.proofs.lemmas.List.Elements.{All-get_or, All-take, All-drop}
use Rattle.std.proofs.lemmas.Nat.{be_bytes_4, le_bytes_4}
use Rattle.std.proofs.Math.Seq.{take-add, drop-append_seam}
use Rattle.wire_base.specs.Numbers.{AreBytes}
use Rattle.pcap_io.specs.declared.forms.Form.{Form}
use Rattle.pcap_io.specs.declared.frames.Captured.{Captured}
use Rattle.pcap_io.specs.declared.frames.PacketHead.{PacketHead}
use Rattle.pcap_io.specs.declared.reasons.Refusal.{Refusal}
use Rattle.pcap_io.specs.declared.reasons.CaptureReason.TheVariants as reasons
use Rattle.pcap_io.specs.Captures.{IsCapture, IsWithinLimits, packet, packets}
use Rattle.pcap_io.specs.Fronts.{HeadFits, packet_head_is, frame_of}
use Rattle.pcap_io.specs.Heads.{word, magic_of, version_of}
use Rattle.pcap_io.specs.Refusals.{told, moved, HasMagic, HasVersion, SaysCaptured, SaysOriginal, RefusedHead, RefusedPacket, HeldHead, HeldPacket}
use Rattle.pcap_io.specs.Reads.{Reads}
use Rattle.pcap_io.specs.Steps.{WholeHead}
use Rattle.pcap_io.proofs.HeadLemmas.{joined}
use Rattle.pcap_io.proofs.ReadingLemmas.{word_one_to_one, magic_fits, packets-cons, length-packet}
use Rattle.pcap_io.proofs.FileHeadLemmas.{no_form, version_little, version_big, held_4, held_8, held_24, whole_head}
use Rattle.pcap_io.proofs.PacketLemmas.{HeadWithin, held_12, held_16, held_body, begins_body}

-- ---- four bytes spell a number

each_small : (bytes : List ℕ) → AreBytes bytes → (i : ℕ) → get_or bytes i 0 < 256
each_small bytes all i =
    elim (cases_lt i (length bytes)) [
      | inl there ↦ All-get_or (λ b. b < 256) bytes i 0 there all
      | inr past ↦ omega (arith, get_or_past bytes i 0 past)
    ]

record Spelled (form : Form) (four : List ℕ) : Type 0 where
  pub number : ℕ
  pub fits : number < 2 ^ 32
  pub spelled : word form number ≡ four

be_fits : (four : List ℕ) → ((i : ℕ) → get_or four i 0 < 256) → from_be_bytes w32 four < 2 ^ 32
be_fits four small = omega (arith, small 0, small 1, small 2, small 3)

le_fits : (four : List ℕ) → ((i : ℕ) → get_or four i 0 < 256) → from_le_bytes w32 four < 2 ^ 32
le_fits four small = omega (arith, small 0, small 1, small 2, small 3)

spelled_big : (form : Form) (four : List ℕ) → form.big ≡ true → length four ≡ 4 → AreBytes four → Spelled form four
unfolding word
spelled_big form four is len all = record {
  number = from_be_bytes w32 four;
  fits = be_fits four (each_small four all);
  spelled = subst (λ b. word (record form { big = b }) (from_be_bytes w32 four) ≡ four) (sym is) (be_bytes_4 four (from_be_bytes w32 four) len (each_small four all) refl);
}

spelled_little : (form : Form) (four : List ℕ) → form.big ≡ false → length four ≡ 4 → AreBytes four → Spelled form four
unfolding word
spelled_little form four is len all = record {
  number = from_le_bytes w32 four;
  fits = le_fits four (each_small four all);
  spelled = subst (λ b. word (record form { big = b }) (from_le_bytes w32 four) ≡ four) (sym is) (le_bytes_4 four (from_le_bytes w32 four) len (each_small four all) refl);
}

spelled_four : (form : Form) (four : List ℕ) → length four ≡ 4 → AreBytes four → Spelled form four
spelled_four form four len all =
    let either = elim form.big as (λ b. form.big ≡ b → Spelled form four) [ true ↦ λ is. spelled_big form four is len all | false ↦ λ is. spelled_little form four is len all ] in
    either refl

spelled_at : (form : Form) (bytes : List ℕ) (at : ℕ) → AreBytes bytes → at + 4 ≤ length bytes → Spelled form (take 4 (drop at bytes))
spelled_at form bytes at all there =
    spelled_four form (take 4 (drop at bytes)) (length-take-le 4 (drop at bytes) (omega (arith, there, length-drop at bytes)))
    (All-take (λ b. b < 256) 4 (drop at bytes) (All-drop (λ b. b < 256) at bytes all))

has_or_not : (form : Form) (bytes : List ℕ) (at number : ℕ) → AreBytes bytes → at + 4 ≤ length bytes → number < 2 ^ 32 → (take 4 (drop at bytes) ≡ word form number) ⊎ (take 4 (drop at bytes) ≢ word form number)
has_or_not form bytes at number all there fits =
    let s : Spelled form (take 4 (drop at bytes)) = spelled_at form bytes at all there in
    elim (cases_eq s.number number) [
      | inl same ↦ inl (sym s.spelled ∙ ap (word form) same)
      | inr other ↦ inr (λ e. other (word_one_to_one form s.number number s.fits fits (s.spelled ∙ e)))
    ]

-- ---- the file header

magic_or_not : (form : Form) (bytes : List ℕ) → AreBytes bytes → 4 ≤ length bytes → HasMagic form bytes ⊎ (¬ HasMagic form bytes)
magic_or_not form bytes all there = has_or_not form bytes 0 (magic_of form) all there (magic_fits form)

form_or_not : (bytes : List ℕ) → AreBytes bytes → 4 ≤ length bytes → ((form : Form) × HasMagic form bytes) ⊎ ((form : Form) → ¬ HasMagic form bytes)
form_or_not bytes all there =
    elim (magic_or_not (record { nano = false; big = false }) bytes all there) [
      | inl is ↦ inl (record { nano = false; big = false }, is)
      | inr a ↦
          elim (magic_or_not (record { nano = false; big = true }) bytes all there) [
            | inl is ↦ inl (record { nano = false; big = true }, is)
            | inr b ↦
                elim (magic_or_not (record { nano = true; big = false }) bytes all there) [
                  | inl is ↦ inl (record { nano = true; big = false }, is)
                  | inr c ↦
                      elim (magic_or_not (record { nano = true; big = true }) bytes all there) [
                        | inl is ↦ inl (record { nano = true; big = true }, is)
                        | inr d ↦ inr (no_form bytes a b c d)
                      ]
                ]
          ]
    ]

-- the version is one number
version_spelled : (form : Form) → Spelled form (version_of form)
version_spelled form =
    let either = elim form.big as (λ b. form.big ≡ b → Spelled form (version_of form)) [
      | true ↦ λ is. record { number = 0x00020004; fits = lit< tt; spelled = version_big form is }
      | false ↦ λ is. record { number = 0x00040002; fits = lit< tt; spelled = version_little form is }
    ] in
    either refl

version_or_not : (form : Form) (bytes : List ℕ) → AreBytes bytes → 8 ≤ length bytes → HasVersion form bytes ⊎ (¬ HasVersion form bytes)
version_or_not form bytes all there =
    let v : Spelled form (version_of form) = version_spelled form in
    elim (has_or_not form bytes 4 v.number all there v.fits) [
      | inl is ↦ inl (is ∙ v.spelled)
      | inr other ↦ inr (λ is. other (is ∙ sym v.spelled))
    ]

-- the header is refused, held or whole
abbrev HeadOrNot : List ℕ → Type 0
HeadOrNot bytes = ((t : Refusal) × RefusedHead bytes t) ⊎ (HeldHead bytes ⊎ ((form : Form) × WholeHead form bytes))

link_or_not : (form : Form) (bytes : List ℕ) → AreBytes bytes → HasMagic form bytes → HasVersion form bytes → HeadOrNot bytes
link_or_not form bytes all magic version =
    elim (cases_lt (length bytes) 24) [
      | inl short ↦ inr (inl (held_24 bytes form magic version short))
      | inr there ↦
          elim (has_or_not form bytes 20 1 all there (lit< tt)) [
            | inl is ↦ inr (inr (form, whole_head bytes form magic version is there))
            | inr other ↦ inl (told 20 reasons.Link, inr (inr (record { form = form; there = there; magic = magic; version = version; other = other; is = refl })))
          ]
    ]

behind_magic : (form : Form) (bytes : List ℕ) → AreBytes bytes → HasMagic form bytes → HeadOrNot bytes
behind_magic form bytes all magic =
    elim (cases_lt (length bytes) 8) [
      | inl short ↦ inr (inl (held_8 bytes form magic short))
      | inr there ↦
          elim (version_or_not form bytes all there) [
            | inl version ↦ link_or_not form bytes all magic version
            | inr other ↦ inl (told 4 reasons.Version, inr (inl (record { form = form; there = there; magic = magic; other = other; is = refl })))
          ]
    ]

head_or_not : (bytes : List ℕ) → AreBytes bytes → HeadOrNot bytes
head_or_not bytes all =
    elim (cases_lt (length bytes) 4) [
      | inl short ↦ inr (inl (held_4 bytes short))
      | inr there ↦
          elim (form_or_not bytes all there) [
            | inl some ↦ behind_magic some.0 bytes all some.1
            | inr none ↦ inl (told 0 reasons.Magic, inl (record { there = there; none = none; is = refl }))
          ]
    ]

-- ---- a packet

-- a packet is refused, held or whole
abbrev PacketOrNot : Form → List ℕ → Type 0
PacketOrNot form bytes = ((t : Refusal) × RefusedPacket form bytes t) ⊎ (HeldPacket form bytes ⊎ ((frame : Captured) × (more : List ℕ) × IsWithinLimits frame × (bytes ≡ packet form frame ++ more)))

sixteen : (bytes : List ℕ) → take 16 bytes ≡ ((take 4 (drop 0 bytes) ++ take 4 (drop 4 bytes)) ++ take 4 (drop 8 bytes)) ++ take 4 (drop 12 bytes)
sixteen bytes =
    take-add 12 4 bytes ∙ ap (λ l. l ++ take 4 (drop 12 bytes)) (take-add 8 4 bytes ∙ ap (λ l. l ++ take 4 (drop 8 bytes)) (take-add 4 4 bytes))

-- the head that 16 bytes spell
record HeadAt (form : Form) (bytes : List ℕ) (head : PacketHead) : Type 0 where
  pub fits : HeadFits head.seconds head.fraction head.captured head.original
  pub is : packet_head_is form head (take 16 bytes)
  pub captured : SaysCaptured form bytes head.captured
  pub original : SaysOriginal form bytes head.original

head_at : (form : Form) (bytes : List ℕ) → AreBytes bytes → 16 ≤ length bytes → (head : PacketHead) × HeadAt form bytes head
head_at form bytes all there =
    let s : Spelled form (take 4 (drop 0 bytes)) = spelled_at form bytes 0 all (omega (arith, there)) in
    let f : Spelled form (take 4 (drop 4 bytes)) = spelled_at form bytes 4 all (omega (arith, there)) in
    let c : Spelled form (take 4 (drop 8 bytes)) = spelled_at form bytes 8 all (omega (arith, there)) in
    let o : Spelled form (take 4 (drop 12 bytes)) = spelled_at form bytes 12 all (omega (arith, there)) in (
      record { seconds = s.number; fraction = f.number; captured = c.number; original = o.number },
      record {
        fits = record { seconds = s.fits; fraction = f.fits; captured = c.fits; original = o.fits };
        is = joined (joined (joined s.spelled f.spelled) c.spelled) o.spelled ∙ sym (sixteen bytes);
        captured = record { there = omega (arith, there); fits = c.fits; spelled = c.spelled };
        original = record { there = there; fits = o.fits; spelled = o.spelled };
      },
    )

body_or_not : (form : Form) (bytes : List ℕ) (head : PacketHead) → HeadAt form bytes head → HeadWithin head → 16 ≤ length bytes → PacketOrNot form bytes
body_or_not form bytes head at within there =
    elim (cases_lt (length bytes) (16 + head.captured)) [
      | inl short ↦ inr (inl (held_body form bytes head at.fits at.is at.captured at.original within (omega (arith, short, there))))
      | inr whole ↦
          let begins = begins_body form bytes head at.fits at.is within whole in
          inr (inr (frame_of head (take head.captured (drop 16 bytes)), drop (16 + head.captured) bytes, begins.within, begins.all))
    ]

original_or_not : (form : Form) (bytes : List ℕ) (head : PacketHead) → HeadAt form bytes head → head.captured ≤ 262144 → 16 ≤ length bytes → PacketOrNot form bytes
original_or_not form bytes head at within there =
    elim (cases_lt head.original head.captured) [
      | inl below ↦ inl (told 12 reasons.Original, inr (record { captured = head.captured; original = head.original; says = at.captured; within = within; says_too = at.original; bad = inl below; is = refl }))
      | inr whole ↦
          elim (cases_lt 2147483647 head.original) [
            | inl over ↦ inl (told 12 reasons.Original, inr (record { captured = head.captured; original = head.original; says = at.captured; within = within; says_too = at.original; bad = inr over; is = refl }))
            | inr most ↦ body_or_not form bytes head at (record { captured = within; whole = whole; original = most }) there
          ]
    ]

captured_or_not : (form : Form) (bytes : List ℕ) (captured : ℕ) → AreBytes bytes → SaysCaptured form bytes captured → captured ≤ 262144 → PacketOrNot form bytes
captured_or_not form bytes captured all says within =
    elim (cases_lt (length bytes) 16) [
      | inl short ↦ inr (inl (held_16 form bytes captured short says within))
      | inr there ↦
          let at = head_at form bytes all there in
          let head : PacketHead = at.0 in
          let is : HeadAt form bytes head = at.1 in
          let same : captured ≡ head.captured = word_one_to_one form captured head.captured says.fits is.captured.fits (says.spelled ∙ sym is.captured.spelled) in
          original_or_not form bytes head is (omega (arith, same, within)) there
    ]

packet_or_not : (form : Form) (bytes : List ℕ) → AreBytes bytes → PacketOrNot form bytes
packet_or_not form bytes all =
    elim (cases_lt (length bytes) 12) [
      | inl short ↦ inr (inl (held_12 form bytes short))
      | inr there ↦
          let c : Spelled form (take 4 (drop 8 bytes)) = spelled_at form bytes 8 all (omega (arith, there)) in
          let says : SaysCaptured form bytes c.number = record { there = there; fits = c.fits; spelled = c.spelled } in
          elim (cases_lt 262144 c.number) [
            | inl over ↦ inl (told 8 reasons.Length, inl (record { captured = c.number; says = says; over = over; is = refl }))
            | inr within ↦ captured_or_not form bytes c.number all says within
          ]
    ]

-- ---- all packets

-- the bytes behind a header are these packets, and then what is refused or held
record Behind (form : Form) (bytes : List ℕ) : Type 0 where
  pub frames : List Captured
  pub left : List ℕ
  pub within : AllByRecursion IsWithinLimits frames
  pub all : bytes ≡ packets form frames ++ left
  pub ends : ((t : Refusal) × RefusedPacket form left t) ⊎ HeldPacket form left

bytes_behind : (front more bytes : List ℕ) → bytes ≡ front ++ more → AreBytes bytes → AreBytes more
bytes_behind front more bytes e all =
    subst AreBytes (ap (drop (length front)) e ∙ drop-append_seam front more) (All-drop (λ b. b < 256) (length front) bytes all)

behind : (n : ℕ) (form : Form) (bytes : List ℕ) → AreBytes bytes → length bytes < n → Behind form bytes
behind zero form bytes all less = absurd (omega (arith, less))
behind (suc n) form bytes all less =
    elim (packet_or_not form bytes all) [
      | inl bad ↦ record { frames = []; left = bytes; within = tt; all = refl; ends = inl bad }
      | inr (inl held) ↦ record { frames = []; left = bytes; within = tt; all = refl; ends = inr held }
      | inr (inr whole) ↦
          let frame : Captured = whole.0 in
          let more : List ℕ = whole.1 in
          let e : bytes ≡ packet form frame ++ more = whole.3 in
          let shorter : length more < n = omega (arith, less, ap length e, length-append (packet form frame) more, length-packet form frame) in
          let deeper : Behind form more = behind n form more (bytes_behind (packet form frame) more bytes e all) shorter in
          record {
            frames = frame ∷ deeper.frames;
            left = deeper.left;
            within = (whole.2, deeper.within);
            all = e ∙ ap (λ l. packet form frame ++ l) deeper.all ∙ sym (append_assoc (packet form frame) (packets form deeper.frames) deeper.left) ∙ ap (λ l. l ++ deeper.left) (sym (packets-cons form frame deeper.frames));
            ends = deeper.ends;
          }
    ]

-- ---- the reading

none_or_some : (l : List ℕ) → (l ≡ []) ⊎ (l ≢ [])
none_or_some [] = inl refl
none_or_some (x ∷ xs) = inr (λ e. cc)

-- a reader of the bytes gets something
abbrev pub IsRead : List ℕ → Type 0
IsRead bytes = (form : Option Form) × (frames : List Captured) × (stop : Option Refusal) × Reads bytes form frames stop

read_frames : (form : Form) (bytes : List ℕ) → AreBytes bytes → WholeHead form bytes → IsRead bytes
read_frames form bytes all whole =
    let b : Behind form (drop 24 bytes) = behind (suc (length (drop 24 bytes))) form (drop 24 bytes) (All-drop (λ b. b < 256) 24 bytes all) (omega arith) in
    let front : List ℕ = take 24 bytes ++ packets form b.frames in
    let capture : IsCapture front form b.frames = record { head = take 24 bytes; is_head = whole.head; within = b.within; all = refl } in
    let split : bytes ≡ front ++ b.left = sym (take-append-drop 24 bytes) ∙ ap (λ l. take 24 bytes ++ l) b.all ∙ sym (append_assoc (take 24 bytes) (packets form b.frames) b.left) in
    elim b.ends [
      | inl bad ↦ (Some form, b.frames, Some (moved (length front) bad.0), record { front = front; rest = b.left; is_capture = capture; joined = split; ends = inl (record { row = bad.0; here = bad.1; told = refl }) })
      | inr held ↦
          elim (none_or_some b.left) [
            | inl none ↦ (Some form, b.frames, None, record { front = front; rest = b.left; is_capture = capture; joined = split; ends = none })
            | inr some ↦ (Some form, b.frames, Some (told (length bytes) reasons.Short), record { front = front; rest = b.left; is_capture = capture; joined = split; ends = inr (record { held = held; misses = some; is = refl }) })
          ]
    ]

pub every_reading : (bytes : List ℕ) → AreBytes bytes → IsRead bytes
every_reading bytes all =
    elim (head_or_not bytes all) [
      | inl bad ↦ (None, [], Some (moved 0 bad.0), record { nothing = refl; ends = inl (record { row = bad.0; here = bad.1; told = refl }) })
      | inr (inl held) ↦ (None, [], Some (told (length bytes) reasons.Short), record { nothing = refl; ends = inr (record { held = held; misses = tt; is = refl }) })
      | inr (inr whole) ↦ read_frames whole.0 bytes all whole.1
    ]
