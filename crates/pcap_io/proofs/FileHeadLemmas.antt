-- What the first bytes of a capture show of its header.
use Rattle.std.proofs.Common.{◌≡◌, ◌<◌, ◌≤◌, ℕ, List, length, take, drop, true, false, cond, nat_eq, slice_index_or, refl, sym, ap, subst, ◌∙◌, inl, inr, arith, length-take-le}
use Rattle.std.proofs.lemmas.List.{take-take, drop-take}
use Rattle.pcap_io.specs.declared.forms.Form.{Form}
use Rattle.pcap_io.specs.declared.reasons.Refusal.{Refusal}
use Rattle.pcap_io.specs.Heads.{magic_of, version_of, link_of, word, half}
use Rattle.pcap_io.specs.Refusals.{HasMagic, HasVersion, RefusedHead, HeldHead}
use Rattle.pcap_io.specs.Steps.{WholeHead}

-- the form that the four bytes of a magic tell
abbrev form_told : List ℕ → Form
form_told magic = record {
  nano = cond (nat_eq (slice_index_or magic 0 0) 0xA1) (nat_eq (slice_index_or magic 2 0) 0x3C) (nat_eq (slice_index_or magic 0 0) 0x4D);
  big = nat_eq (slice_index_or magic 0 0) 0xA1;
}

told-magic : (form : Form) → form_told (word form (magic_of form)) ≡ form
unfolding word
told-magic form =
    elim form.nano as (λ n. form_told (word (record { nano = n; big = form.big }) (magic_of (record { nano = n; big = form.big }))) ≡ record { nano = n; big = form.big }) [
      | true ↦ elim form.big as (λ b. form_told (word (record { nano = true; big = b }) (magic_of (record { nano = true; big = b }))) ≡ record { nano = true; big = b }) [ true ↦ refl | false ↦ refl ]
      | false ↦ elim form.big as (λ b. form_told (word (record { nano = false; big = b }) (magic_of (record { nano = false; big = b }))) ≡ record { nano = false; big = b }) [ true ↦ refl | false ↦ refl ]
    ]

pub one_form : (bytes : List ℕ) (form other : Form) → HasMagic form bytes → HasMagic other bytes → other ≡ form
one_form bytes form other h h' = sym (told-magic other) ∙ ap form_told (sym h' ∙ h) ∙ told-magic form

-- a magic that is none of four is none
pub no_form : (bytes : List ℕ) → ¬ HasMagic (record { nano = false; big = false }) bytes → ¬ HasMagic (record { nano = false; big = true }) bytes → ¬ HasMagic (record { nano = true; big = false }) bytes → ¬ HasMagic (record { nano = true; big = true }) bytes → (form : Form) → ¬ HasMagic form bytes
no_form bytes a b c d form =
    elim form.nano as (λ n. ¬ HasMagic (record { nano = n; big = form.big }) bytes) [
      | true ↦ elim form.big as (λ b. ¬ HasMagic (record { nano = true; big = b }) bytes) [ true ↦ d | false ↦ c ]
      | false ↦ elim form.big as (λ b. ¬ HasMagic (record { nano = false; big = b }) bytes) [ true ↦ b | false ↦ a ]
    ]

-- the version's two numbers as one
pub version_little : (form : Form) → form.big ≡ false → word form 0x00040002 ≡ version_of form
unfolding word half
version_little form is =
    subst (λ b. word (record form { big = b }) 0x00040002 ≡ version_of (record form { big = b })) (sym is) refl

pub version_big : (form : Form) → form.big ≡ true → word form 0x00020004 ≡ version_of form
unfolding word half
version_big form is =
    subst (λ b. word (record form { big = b }) 0x00020004 ≡ version_of (record form { big = b })) (sym is) refl

-- no row holds of bytes with a form's magic, of which the version and the link are not there, or are right
pub held_4 : (bytes : List ℕ) → length bytes < 4 → HeldHead bytes
held_4 bytes short = record {
  accepted = λ t r. refuted t r;
  unfinished = omega (arith, short);
}
  where
    refuted : (t : Refusal) → ¬ RefusedHead bytes t
    refuted t (inl a) = let h = a.there in omega (arith, h, short)
    refuted t (inr (inl a)) = let h = a.there in omega (arith, h, short)
    refuted t (inr (inr a)) = let h = a.there in omega (arith, h, short)

pub held_8 : (bytes : List ℕ) (form : Form) → HasMagic form bytes → length bytes < 8 → HeldHead bytes
held_8 bytes form magic short = record {
  accepted = λ t r. refuted t r;
  unfinished = omega (arith, short);
}
  where
    refuted : (t : Refusal) → ¬ RefusedHead bytes t
    refuted t (inl a) = a.none form magic
    refuted t (inr (inl a)) = let h = a.there in omega (arith, h, short)
    refuted t (inr (inr a)) = let h = a.there in omega (arith, h, short)

pub held_24 : (bytes : List ℕ) (form : Form) → HasMagic form bytes → HasVersion form bytes → length bytes < 24 → HeldHead bytes
held_24 bytes form magic version short = record {
  accepted = λ t r. refuted t r;
  unfinished = short;
}
  where
    refuted : (t : Refusal) → ¬ RefusedHead bytes t
    refuted t (inl a) = a.none form magic
    refuted t (inr (inl a)) = a.other (subst (λ f. HasVersion f bytes) (sym (one_form bytes form a.form magic a.magic)) version)
    refuted t (inr (inr a)) = let h = a.there in omega (arith, h, short)

pub whole_head : (bytes : List ℕ) (form : Form) → HasMagic form bytes → HasVersion form bytes → take 4 (drop 20 bytes) ≡ link_of form → 24 ≤ length bytes → WholeHead form bytes
whole_head bytes form magic version link long = record {
  there = long;
  head = record {
    len = length-take-le 24 bytes long;
    magic = take-take 4 24 bytes (omega arith) ∙ magic;
    version = ap (take 4) (drop-take 4 20 bytes) ∙ take-take 4 20 (drop 4 bytes) (omega arith) ∙ version;
    link = drop-take 20 4 bytes ∙ link;
  };
}
