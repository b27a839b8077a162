-- What the first bytes behind a header show of a packet.
use Rattle.std.proofs.Common.{◌≡◌, ◌<◌, ◌≤◌, ℕ, ◌+◌, ◌-◌, List, ◌++◌, length, take, drop, sym, ap, ◌∙◌, inl, inr, ◌⊎◌, arith, length-take-le, append_assoc}
use Rattle.std.proofs.lemmas.List.{take-append-drop, drop-drop, length-drop}
use Rattle.pcap_io.specs.declared.forms.Form.{Form}
use Rattle.pcap_io.specs.declared.frames.PacketHead.{PacketHead}
use Rattle.pcap_io.specs.declared.reasons.Refusal.{Refusal}
use Rattle.pcap_io.specs.Heads.{packet_head_of}
use Rattle.pcap_io.specs.Fronts.{packet_head_is, HeadFits, BeginsWith}
use Rattle.pcap_io.specs.Refusals.{SaysCaptured, SaysOriginal, RefusedPacket, HeldPacket}
use Rattle.pcap_io.proofs.ReadingLemmas.{word_one_to_one, too_short, front_within}

pub one_captured : (form : Form) (bytes : List ℕ) (m n : ℕ) → SaysCaptured form bytes m → SaysCaptured form bytes n → m ≡ n
one_captured form bytes m n a b = word_one_to_one form m n a.fits b.fits (a.spelled ∙ sym b.spelled)

pub one_original : (form : Form) (bytes : List ℕ) (m n : ℕ) → SaysOriginal form bytes m → SaysOriginal form bytes n → m ≡ n
one_original form bytes m n a b = word_one_to_one form m n a.fits b.fits (a.spelled ∙ sym b.spelled)

pub held_12 : (form : Form) (bytes : List ℕ) → length bytes < 12 → HeldPacket form bytes
held_12 form bytes short = record {
  accepted = λ t r. refuted t r;
  unfinished = λ frame rest within all. too_short form bytes frame rest (omega (arith, short)) all;
}
  where
    refuted : (t : Refusal) → ¬ RefusedPacket form bytes t
    refuted t (inl a) = let h = a.says.there in omega (arith, h, short)
    refuted t (inr a) = let h = a.says.there in omega (arith, h, short)

pub held_16 : (form : Form) (bytes : List ℕ) (captured : ℕ) → length bytes < 16 → SaysCaptured form bytes captured → captured ≤ 262144 → HeldPacket form bytes
held_16 form bytes captured short says within = record {
  accepted = λ t r. refuted t r;
  unfinished = λ frame rest fits all. too_short form bytes frame rest short all;
}
  where
    refuted : (t : Refusal) → ¬ RefusedPacket form bytes t
    refuted t (inl a) =
        let same = one_captured form bytes captured a.captured says a.says in
        let over = a.over in
        omega (arith, same, over, within)
    refuted t (inr a) = let h = a.says_too.there in omega (arith, h, short)

-- a head whose numbers are in their limits
pub record HeadWithin (head : PacketHead) : Type 0 where
  pub captured : head.captured ≤ 262144
  pub whole : head.captured ≤ head.original
  pub original : head.original ≤ 2147483647

pub held_body : (form : Form) (bytes : List ℕ) (head : PacketHead) → HeadFits head.seconds head.fraction head.captured head.original → packet_head_is form head (take 16 bytes) → SaysCaptured form bytes head.captured → SaysOriginal form bytes head.original → HeadWithin head → length bytes - 16 < head.captured → HeldPacket form bytes
held_body form bytes head fits is says says_too within short = record {
  accepted = λ t r. refuted t r;
  unfinished = λ frame rest limits all.
      let front = front_within form bytes head frame rest fits is limits all in
      let there = front.there in
      let behind = length-drop 16 bytes in
      omega (arith, short, there, behind);
}
  where
    refuted : (t : Refusal) → ¬ RefusedPacket form bytes t
    refuted t (inl a) =
        let same = one_captured form bytes head.captured a.captured says a.says in
        let over = a.over in
        let most = within.captured in
        omega (arith, same, over, most)
    refuted t (inr a) =
        let same = one_captured form bytes head.captured a.captured says a.says in
        let same_too = one_original form bytes head.original a.original says_too a.says_too in
        let whole = within.whole in
        let most = within.original in
        bad_refuted a.captured a.original same same_too a.bad
      where
        bad_refuted : (captured original : ℕ) → head.captured ≡ captured → head.original ≡ original → (original < captured) ⊎ (2147483647 < original) → ⊥
        bad_refuted captured original e f (inl below) = let whole = within.whole in omega (arith, e, f, below, whole)
        bad_refuted captured original e f (inr above) = let most = within.original in omega (arith, e, f, above, most)

-- a whole packet stands at the front, and the rest behind it
pub begins_body : (form : Form) (bytes : List ℕ) (head : PacketHead) → HeadFits head.seconds head.fraction head.captured head.original → packet_head_is form head (take 16 bytes) → HeadWithin head → 16 + head.captured ≤ length bytes → BeginsWith form bytes head (take head.captured (drop 16 bytes)) (drop (16 + head.captured) bytes)
begins_body form bytes head fits is within there =
    let body : List ℕ = take head.captured (drop 16 bytes) in
    let len : length body ≡ head.captured = length-take-le head.captured (drop 16 bytes) (omega (arith, there, length-drop 16 bytes)) in
    record {
      within = record {
        seconds = let h = fits.seconds in omega (arith, h);
        fraction = let h = fits.fraction in omega (arith, h);
        captured = let h = within.captured in omega (arith, h, len);
        whole = let h = within.whole in omega (arith, h, len);
        original = within.original;
      };
      all =
          sym (take-append-drop 16 bytes)
          ∙ ap (λ l. take 16 bytes ++ l) (sym (take-append-drop head.captured (drop 16 bytes)) ∙ ap (λ l. body ++ l) (drop-drop head.captured 16 bytes))
          ∙ ap (λ l. l ++ (body ++ drop (16 + head.captured) bytes)) (sym is ∙ ap (λ n. packet_head_of form head.seconds head.fraction n head.original) (sym len))
          ∙ sym (append_assoc (packet_head_of form head.seconds head.fraction (length body) head.original) body (drop (16 + head.captured) bytes));
    }
