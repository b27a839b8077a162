-- The types of blocks that are read (pcapng, sections 4.1 to 4.4), and the lengths that a block may have.
use Rattle.std.specs.Prelude.{ℕ, ◌%◌, Bool, ◌&&◌, ◌==◌, nat_le, if◌then◌else◌}
use Rattle.pcapng_io.specs.declared.kinds.BlockKind.{BlockKind}
use Rattle.pcapng_io.specs.declared.kinds.BlockKind.TheVariants as kinds

-- 0A0D0D0A is a section header, 1 an interface description, 6 an enhanced packet, 3 a simple packet
abbrev pub kind_of : ℕ → BlockKind
kind_of number =
    if number == 0x0A0D0D0A then kinds.Header
    else (if number == 1 then kinds.Description else (if number == 6 then kinds.Enhanced else (if number == 3 then kinds.Simple else kinds.Other)))

-- the fewest bytes of a block: its type, both lengths, and the fields of its body that have a fixed length
abbrev pub least : BlockKind → ℕ
least kinds.Header = 28
least kinds.Description = 20
least kinds.Enhanced = 32
least kinds.Simple = 16
least kinds.Other = 12

-- a block has no fewer bytes than these, a multiple of 4, and at most 1,048,576 (this project's own limit)
abbrev pub is_length : BlockKind → ℕ → Bool
is_length kind size = nat_le (least kind) size && (size % 4 == 0 && nat_le size 1048576)
