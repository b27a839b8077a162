-- Names of forwarders and instances.
use Rattle.std.specs.Prelude.{◌≡◌, ◌≤◌, ℕ, ◌==◌, ◌||◌, ◌&&◌, nat_le, Bool, true, List, length, slice_index}
use Rattle.std.specs.List.{AllPass}

-- a to z
abbrev pub is_name_letter : ℕ → Bool
is_name_letter c = nat_le 97 c && nat_le c 122

-- a to z, 0 to 9 and the dash
abbrev pub is_name_byte : ℕ → Bool
is_name_byte c = is_name_letter c || (nat_le 48 c && nat_le c 57) || c == 45

-- a name has 1 to 16 characters and begins with a letter
pub record IsName (name : List ℕ) : Type 0 where
  pub some : 1 ≤ length name
  pub most : length name ≤ 16
  pub letter : is_name_letter (slice_index name 0) ≡ true
  pub characters : AllPass is_name_byte name
