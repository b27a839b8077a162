-- Blocks at the front of bytes, and one behind the other.
use Rattle.std.proofs.Common.{◌≡◌, ◌≤◌, ℕ, true, List, [], ◌∷◌, ◌++◌, length, take, drop, None, refl, sym, ap, ◌∙◌, subst, append_assoc, arith, length-take-le}
use Rattle.std.proofs.lemmas.List.{append-nil, take-append-drop}
use Rattle.wire_base.proofs.SplitLemmas.{same_parts}
use Rattle.pcapng_io.specs.declared.sections.Section.{Section}
use Rattle.pcapng_io.specs.declared.frames.NgFrame.{NgFrame}
use Rattle.pcapng_io.specs.Sections.{start, size_at, frame_of, section_behind}
use Rattle.pcapng_io.specs.Refusals.{refusal_of, is_whole, block_at}
use Rattle.pcapng_io.specs.Files.{IsBlock, AreBlocks, section_after, given_by, frames_after, bytes_of, IsPart}
use Rattle.pcapng_io.proofs.FrontLemmas.{whole_there, there_whole, whole_more, refusal_same, size_more, size_is, size_front}

-- ---- one block

pub block_whole : (section : Section) (block : List ℕ) → IsBlock section block → is_whole section block ≡ true
block_whole section block is = let some = is.some in let whole = is.whole in there_whole section block some (omega (arith, whole))

-- a block at the front is whole and not refused
pub front_whole : (section : Section) (block more bytes : List ℕ) → IsBlock section block → bytes ≡ block ++ more → is_whole section bytes ≡ true
front_whole section block more bytes is all = subst (λ l. is_whole section l ≡ true) (sym all) (whole_more section block more (block_whole section block is))

pub front_accepted : (section : Section) (block more bytes : List ℕ) → IsBlock section block → bytes ≡ block ++ more → refusal_of section bytes ≡ None
front_accepted section block more bytes is all =
    ap (refusal_of section) all ∙ refusal_same section block more (block_whole section block is) ∙ is.accepted

-- no block begins another
pub same_block : (section : Section) (a b x y : List ℕ) → IsBlock section a → IsBlock section b → a ++ x ≡ b ++ y → (a ≡ b) × (x ≡ y)
same_block section a b x y is_a is_b same =
    same_parts a b x y (sym is_a.whole ∙ sym (size_more section a x is_a.some) ∙ ap (size_at section) same ∙ size_more section b y is_b.some ∙ is_b.whole) same

-- what is whole and not refused is a block at the front
pub block_there : (section : Section) (bytes : List ℕ) → is_whole section bytes ≡ true → refusal_of section bytes ≡ None → IsBlock section (block_at section bytes)
block_there section bytes whole none =
    let there = whole_there section bytes whole in
    let sized = size_is section bytes there.some none in
    let size : ℕ = size_at section bytes in
    let len : length (take size bytes) ≡ size = length-take-le size bytes there.whole in
    let some : 12 ≤ length (take size bytes) = let low = sized.some in omega (arith, low, len) in
    let same : size_at section (take size bytes) ≡ size = size_front section size bytes sized.some there.whole in
    let own : is_whole section (take size bytes) ≡ true = there_whole section (take size bytes) some (omega (arith, same, len)) in
    record {
      some = some;
      whole = same ∙ sym len;
      accepted = sym (refusal_same section (take size bytes) (drop size bytes) own) ∙ ap (refusal_of section) (take-append-drop size bytes) ∙ none;
    }

-- ---- one more block

pub bytes-push : (blocks : List (List ℕ)) (block : List ℕ) → bytes_of (blocks ++ block ∷ []) ≡ bytes_of blocks ++ block
bytes-push [] block = append-nil block
bytes-push (b ∷ bs) block = ap (λ l. b ++ l) (bytes-push bs block) ∙ sym (append_assoc b (bytes_of bs) block)

pub are-push : (section : Section) (blocks : List (List ℕ)) (block : List ℕ) → AreBlocks section blocks → IsBlock (section_after section blocks) block → AreBlocks section (blocks ++ block ∷ [])
are-push section [] block each is = (is, tt)
are-push section (b ∷ bs) block each is = (each.0, are-push (section_behind section b) bs block each.1 is)

pub section-push : (section : Section) (blocks : List (List ℕ)) (block : List ℕ) → section_after section (blocks ++ block ∷ []) ≡ section_behind (section_after section blocks) block
section-push section [] block = refl
section-push section (b ∷ bs) block = section-push (section_behind section b) bs block

pub frames-push : (section : Section) (blocks : List (List ℕ)) (block : List ℕ) → frames_after section (blocks ++ block ∷ []) ≡ frames_after section blocks ++ given_by (frame_of (section_after section blocks) block)
frames-push section [] block = append-nil (given_by (frame_of section block))
frames-push section (b ∷ bs) block =
    ap (λ l. given_by (frame_of section b) ++ l) (frames-push (section_behind section b) bs block)
    ∙ sym (append_assoc (given_by (frame_of section b)) (frames_after (section_behind section b) bs) (given_by (frame_of (section_after (section_behind section b) bs) block)))

-- the first bytes of a file with one more block
pub part_push : (front : List ℕ) (section : Section) (frames : List NgFrame) (block : List ℕ) → IsPart front section frames → IsBlock section block → IsPart (front ++ block) (section_behind section block) (frames ++ given_by (frame_of section block))
part_push front section frames block part is =
    let leaves = part.leaves in
    let there : IsBlock (section_after start part.blocks) block = subst (λ (s : Section). IsBlock s block) leaves is in
    record {
      blocks = part.blocks ++ block ∷ [];
      each = are-push start part.blocks block part.each there;
      all = ap (λ l. l ++ block) part.all ∙ sym (bytes-push part.blocks block);
      leaves = ap (λ (s : Section). section_behind s block) leaves ∙ sym (section-push start part.blocks block);
      gives = ap (λ (fs : List NgFrame). fs ++ given_by (frame_of section block)) part.gives
          ∙ ap (λ (s : Section). frames_after start part.blocks ++ given_by (frame_of s block)) leaves
          ∙ sym (frames-push start part.blocks block);
    }

-- nothing yet
pub part_none : IsPart [] start []
part_none = record { blocks = []; each = tt; all = refl; leaves = refl; gives = refl }
