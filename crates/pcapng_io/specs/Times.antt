-- The time of an enhanced packet, in whole seconds from 1970 on and nanoseconds, both rounded down.
use Rattle.std.specs.Prelude.{ℕ, ◌+◌, ◌-◌, ◌*◌, ◌/◌, ◌%◌, ◌^◌, Bool, ◌&&◌, ◌||◌, nat_lt, nat_le, if◌then◌else◌}

-- the resolutions that are read: powers of ten up to 10^-19, and powers of two up to 2^-34
abbrev pub is_resolution : ℕ → Bool
is_resolution resolution = nat_le resolution 19 || (nat_le 128 resolution && nat_le resolution 162)

-- how many ticks a second has
abbrev pub per_second : ℕ → ℕ
per_second resolution = if nat_lt resolution 128 then 10 ^ resolution else 2 ^ (resolution - 128)

-- An offset is a signed number of seconds in 8 bytes: one from 2^63 on stands for itself less 2^64, so it counts back.
abbrev pub counts_back : ℕ → Bool
counts_back offset = nat_le (2 ^ 63) offset

-- the whole seconds with the offset, where they are none below 0
abbrev pub moved_by : ℕ → ℕ → ℕ
moved_by offset whole = if counts_back offset then whole - (2 ^ 64 - offset) else whole + offset

-- they are none below 0, and at most 4,294,967,295
abbrev pub is_time : ℕ → ℕ → Bool
is_time offset whole =
    if counts_back offset then nat_le (2 ^ 64 - offset) whole && nat_le (whole - (2 ^ 64 - offset)) 4294967295 else nat_le (whole + offset) 4294967295

-- the ticks past the last whole second as nanoseconds
abbrev pub nanos_of : ℕ → ℕ → ℕ
nanos_of resolution ticks = ticks % per_second resolution * 1000000000 / per_second resolution
