-- Every list of bytes has a reading.
use Rattle.std.proofs.Common.{◌≡◌, ◌<◌, ℕ, zero, suc, true, List, [], ◌∷◌, ◌++◌, length, drop, Option, None, Some, refl, sym, ap, ◌∙◌, inl, inr, ◌⊎◌, append_assoc, arith}
use Rattle.std.specs.Prelude.{◌≢◌}
use Rattle.std.specs.Option.{option_map}
use Rattle.std.proofs.lemmas.Bool.{cases_Bool}
use Rattle.std.proofs.lemmas.List.{length-append, take-append-drop}
use Rattle.pcapng_io.specs.declared.sections.Section.{Section}
use Rattle.pcapng_io.specs.declared.frames.NgFrame.{NgFrame}
use Rattle.pcapng_io.specs.declared.faults.NgReason.TheVariants as reasons
use Rattle.pcapng_io.specs.declared.faults.NgRefusal.{NgRefusal}
use Rattle.pcapng_io.specs.Sections.{start, size_at, section_behind}
use Rattle.pcapng_io.specs.Refusals.{told, moved, refusal_of, is_whole, block_at, Held}
use Rattle.pcapng_io.specs.Files.{IsBlock, AreBlocks, section_after, frames_after, bytes_of, IsPart}
use Rattle.pcapng_io.specs.Reads.{Reads, Misses}
use Rattle.pcapng_io.proofs.BlockLemmas.{block_there}

-- bytes are refused, held, or begin with a block
abbrev BlockOrNot : Section → List ℕ → Type 0
BlockOrNot section bytes = ((t : NgRefusal) × (refusal_of section bytes ≡ Some t)) ⊎ (Held section bytes ⊎ IsBlock section (block_at section bytes))

refused_or_not : (o : Option NgRefusal) → ((t : NgRefusal) × (o ≡ Some t)) ⊎ (o ≡ None)
refused_or_not None = inr refl
refused_or_not (Some t) = inl (t, refl)

block_or_not : (section : Section) (bytes : List ℕ) → BlockOrNot section bytes
block_or_not section bytes =
    elim (refused_or_not (refusal_of section bytes)) [
      | inl bad ↦ inl bad
      | inr none ↦
          elim (cases_Bool (is_whole section bytes)) [
            | inl whole ↦ inr (inr (block_there section bytes whole none))
            | inr part ↦ inr (inl (record { accepted = none; unfinished = part }))
          ]
    ]

-- the bytes are these blocks, and then what is refused or held
record Behind (section : Section) (bytes : List ℕ) : Type 0 where
  pub blocks : List (List ℕ)
  pub left : List ℕ
  pub each : AreBlocks section blocks
  pub all : bytes ≡ bytes_of blocks ++ left
  pub ends : ((t : NgRefusal) × (refusal_of (section_after section blocks) left ≡ Some t)) ⊎ Held (section_after section blocks) left

behind : (n : ℕ) (section : Section) (bytes : List ℕ) → length bytes < n → Behind section bytes
behind zero section bytes less = absurd (omega (arith, less))
behind (suc n) section bytes less =
    elim (block_or_not section bytes) [
      | inl bad ↦ record { blocks = []; left = bytes; each = tt; all = refl; ends = inl bad }
      | inr (inl held) ↦ record { blocks = []; left = bytes; each = tt; all = refl; ends = inr held }
      | inr (inr is) ↦
          let block : List ℕ = block_at section bytes in
          let more : List ℕ = drop (size_at section bytes) bytes in
          let split : bytes ≡ block ++ more = sym (take-append-drop (size_at section bytes) bytes) in
          let some = is.some in
          let deeper : Behind (section_behind section block) more = behind n (section_behind section block) more (omega (arith, less, ap length split, length-append block more, some)) in
          record {
            blocks = block ∷ deeper.blocks;
            left = deeper.left;
            each = (is, deeper.each);
            all = split ∙ ap (λ l. block ++ l) deeper.all ∙ sym (append_assoc block (bytes_of deeper.blocks) deeper.left);
            ends = deeper.ends;
          }
    ]

none_or_some : (l : List ℕ) → (l ≡ []) ⊎ (l ≢ [])
none_or_some [] = inl refl
none_or_some (x ∷ xs) = inr (λ e. cc)

misses_or_not : (section : Section) (rest : List ℕ) → ((rest ≡ []) × (section.begun ≡ true)) ⊎ Misses section rest
misses_or_not section rest =
    elim (none_or_some rest) [
      | inr some ↦ inr (λ begun. some)
      | inl none ↦ elim (cases_Bool section.begun) [ inl begun ↦ inl (none, begun) | inr fresh ↦ inr (λ begun. absurd (cc)) ]
    ]

pub every_reading : (bytes : List ℕ) → (frames : List NgFrame) × (stop : Option NgRefusal) × Reads bytes frames stop
every_reading bytes =
    let b : Behind start bytes = behind (suc (length bytes)) start bytes (omega arith) in
    let front : List ℕ = bytes_of b.blocks in
    let section : Section = section_after start b.blocks in
    let frames : List NgFrame = frames_after start b.blocks in
    let part : IsPart front section frames = record { blocks = b.blocks; each = b.each; all = refl; leaves = refl; gives = refl } in
    elim b.ends [
      | inl bad ↦ (frames, Some (moved (length front) bad.0), record { section = section; front = front; rest = b.left; part = part; joined = b.all; ends = inl (ap (option_map (moved (length front))) bad.1) })
      | inr held ↦
          elim (misses_or_not section b.left) [
            | inl none ↦ (frames, None, record { section = section; front = front; rest = b.left; part = part; joined = b.all; ends = none })
            | inr misses ↦ (frames, Some (told (length bytes) reasons.Short), record { section = section; front = front; rest = b.left; part = part; joined = b.all; ends = inr (record { held = held; misses = misses; is = refl }) })
          ]
    ]
