-- The options of an interface description (pcapng, sections 3.5 and 4.2): code 2, length 2, the value padded to 4.
use Rattle.std.specs.Prelude.{ℕ, zero, suc, ◌+◌, ◌-◌, ◌*◌, ◌/◌, Bool, not, ◌&&◌, ◌||◌, ◌==◌, nat_le, if◌then◌else◌, List, [], ◌∷◌, length, find, Option}
use Rattle.pcapng_io.specs.declared.interface_options.OptionAt.{OptionAt}
use Rattle.pcapng_io.specs.declared.interface_options.Wanted.{Wanted}
use Rattle.pcapng_io.specs.declared.interface_options.Wanted.TheVariants as wanted
use Rattle.pcapng_io.specs.Numbers.{half_at}

-- so many bytes, filled up to a multiple of 4
abbrev pub padded : ℕ → ℕ
padded size = (size + 3) / 4 * 4

-- what stands at a place: a code, and the length of a value
abbrev pub option_at : Bool → ℕ → List ℕ → OptionAt
option_at big at block = record { at = at; code = half_at big at block; size = half_at big (at + 2) block }

-- behind an option
abbrev pub behind : OptionAt → ℕ
behind option = option.at + 4 + padded option.size

-- the list ends where the block's second length stands, or at code 0
abbrev pub is_end : Bool → ℕ → List ℕ → Bool
is_end big at block = nat_le (length block - 4) at || half_at big at block == 0

-- the options from a place on, no more than so many
unfoldable pub options_from : ℕ → Bool → ℕ → List ℕ → List OptionAt
options_from zero big at block = []
options_from (suc more) big at block =
    if is_end big at block then [] else option_at big at block ∷ options_from more big (behind (option_at big at block)) block

-- all options of an interface description; each has 4 bytes at least
abbrev pub options_of : Bool → List ℕ → List OptionAt
options_of big block = options_from (length block / 4) big 16 block

-- The option ends before the second length, and has the length that its code has: 9, the resolution, 1 byte, and 14, the
-- offset, 8.
abbrev pub is_good_option : ℕ → OptionAt → Bool
is_good_option size option =
    nat_le (behind option) (size - 4) && (if option.code == 9 then option.size == 1 else (if option.code == 14 then option.size == 8 else nat_le 0 option.size))

-- an option that is looked for: one that is refused in a block of this size, or one with a code
abbrev pub is_wanted : Wanted → ℕ → OptionAt → Bool
is_wanted wanted.Refused size option = not (is_good_option size option)
is_wanted (wanted.Code code) size option = option.code == code

-- the first of them
abbrev pub first_option : Wanted → Bool → List ℕ → Option OptionAt
first_option want big block = find (is_wanted want (length block)) (options_of big block)
