-- What a block says where its section stands so: the frame that it gives, and the section behind it.
use Rattle.std.specs.Prelude.{ℕ, ◌+◌, ◌*◌, ◌/◌, ◌^◌, Bool, true, false, ◌==◌, min, if◌then◌else◌, List, [], ◌∷◌, ◌++◌, take, drop, get_or, slice_index, Option, None, Some}
use Rattle.pcapng_io.specs.declared.sections.Interface.{Interface}
use Rattle.pcapng_io.specs.declared.sections.Section.{Section}
use Rattle.pcapng_io.specs.declared.frames.NgFrame.{NgFrame}
use Rattle.pcapng_io.specs.declared.interface_options.OptionAt.{OptionAt}
use Rattle.pcapng_io.specs.declared.interface_options.Wanted.TheVariants as wanted
use Rattle.pcapng_io.specs.declared.kinds.BlockKind.{BlockKind}
use Rattle.pcapng_io.specs.declared.kinds.BlockKind.TheVariants as kinds
use Rattle.pcapng_io.specs.Numbers.{half_at, word_at, long_at}
use Rattle.pcapng_io.specs.Kinds.{kind_of}
use Rattle.pcapng_io.specs.Options.{first_option}
use Rattle.pcapng_io.specs.Times.{per_second, moved_by, nanos_of}

-- before the first section header
abbrev pub start : Section
start = record { begun = false; big = false; interfaces = [] }

-- ---- the order of the numbers

abbrev pub is_header : List ℕ → Bool
is_header bytes = word_at true 0 bytes == 0x0A0D0D0A

-- the mark of a section header, 1A2B3C4D, stands there in this order
abbrev pub has_mark : Bool → List ℕ → Bool
has_mark big bytes = word_at big 8 bytes == 0x1A2B3C4D

-- a section header tells its order by the mark; every other block has its section's
abbrev pub order_at : Bool → List ℕ → Bool
order_at big bytes = if is_header bytes then has_mark true bytes else big

-- the first length of the block at the front
abbrev pub size_at : Section → List ℕ → ℕ
size_at section bytes = word_at (order_at section.big bytes) 4 bytes

-- what the block at the front is
abbrev pub kind_at : Section → List ℕ → BlockKind
kind_at section bytes = if is_header bytes then kinds.Header else kind_of (word_at section.big 0 bytes)

-- ---- interfaces

-- the resolution, 6 where no option tells it, and the offset, 0 where no option tells it
abbrev pub resolution_told : List ℕ → Option OptionAt → ℕ
resolution_told block None = 6
resolution_told block (Some option) = slice_index block (option.at + 4)

abbrev pub offset_told : Bool → List ℕ → Option OptionAt → ℕ
offset_told big block None = 0
offset_told big block (Some option) = long_at big (option.at + 4) block

-- what an interface description says: link type 1 is Ethernet
unfoldable pub described : Bool → List ℕ → Interface
described big block = record {
  ethernet = half_at big 8 block == 1;
  snapshot = word_at big 12 block;
  resolution = resolution_told block (first_option (wanted.Code 9) big block);
  offset = offset_told big block (first_option (wanted.Code 14) big block);
}

-- the interface of a number, where the section describes one
abbrev pub interface_at : Section → ℕ → Interface
interface_at section number = get_or section.interfaces number (record { ethernet = false; snapshot = 0; resolution = 6; offset = 0 })

-- ---- packets

-- the ticks of an enhanced packet
abbrev pub ticks_at : Bool → List ℕ → ℕ
ticks_at big block = word_at big 12 block * 2 ^ 32 + word_at big 16 block

-- the interface of an enhanced packet
abbrev pub interface_of : Section → Bool → List ℕ → Interface
interface_of section big block = interface_at section (word_at big 8 block)

-- the whole seconds of that many ticks
abbrev pub whole_at : Section → Bool → List ℕ → ℕ
whole_at section big block = ticks_at big block / per_second (interface_of section big block).resolution

-- the captured length of a simple packet: its original length, cut to the snapshot length of the first interface, if that has one
abbrev pub simple_captured : Section → Bool → List ℕ → ℕ
simple_captured section big block =
    if (interface_at section 0).snapshot == 0 then word_at big 8 block else min (word_at big 8 block) (interface_at section 0).snapshot

-- the frame of an enhanced packet
abbrev pub enhanced_frame : Section → Bool → List ℕ → NgFrame
enhanced_frame section big block = record {
  seconds = moved_by (interface_of section big block).offset (whole_at section big block);
  nanos = nanos_of (interface_of section big block).resolution (ticks_at big block);
  original = word_at big 24 block;
  interface = word_at big 8 block;
  ethernet = (interface_of section big block).ethernet;
  bytes = take (word_at big 20 block) (drop 28 block);
}

-- the frame of a simple packet; it has no time
abbrev pub simple_frame : Section → Bool → List ℕ → NgFrame
simple_frame section big block = record {
  seconds = 0;
  nanos = 0;
  original = word_at big 8 block;
  interface = 0;
  ethernet = (interface_at section 0).ethernet;
  bytes = take (simple_captured section big block) (drop 12 block);
}

-- ---- what a block does

abbrev pub frame_by : BlockKind → Section → Bool → List ℕ → Option NgFrame
frame_by kinds.Enhanced section big block = Some (enhanced_frame section big block)
frame_by kinds.Simple section big block = Some (simple_frame section big block)
frame_by _ section big block = None

-- a section header begins a section, and an interface description describes the next interface of it
abbrev pub section_by : BlockKind → Section → Bool → List ℕ → Section
section_by kinds.Header section big block = record { begun = true; big = big; interfaces = [] }
section_by kinds.Description section big block =
    record { begun = section.begun; big = section.big; interfaces = section.interfaces ++ described big block ∷ [] }
section_by _ section big block = section

-- the frame that a block gives, if it gives one
unfoldable pub frame_of : Section → List ℕ → Option NgFrame
frame_of section block = frame_by (kind_at section block) section (order_at section.big block) block

-- the section behind a block
unfoldable pub section_behind : Section → List ℕ → Section
section_behind section block = section_by (kind_at section block) section (order_at section.big block) block
