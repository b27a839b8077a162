-- What it takes to say of every text whether it spells routes: each part of it spells a value, or none.
use Rattle.std.specs.Prelude.{◌≡◌, ◌≢◌, ◌⊎◌, ℕ, List, [], ◌∷◌, ◌++◌}
use Rattle.std.specs.List.{flat_map, AllByRecursion}
use Rattle.std.specs.Fmt.{decimal}
use Rattle.wire_base.specs.declared.next_hops.NextHop.{NextHop}
use Rattle.text_words.specs.Numbers.{IsWithin}
use Rattle.text_words.specs.Hexadecimal.{hexadecimal, IsOctets}
use Rattle.text_words.specs.Addresses.{address_text, IsAddress}
use Rattle.sfc_routes.specs.declared.routes.Route.{Route}
use Rattle.route_texts.specs.RouteTexts.{Runs, IsUnbroken, ended, IsRoutes, BadLine, IsRefused}

-- the word spells a value, or it spells none
abbrev pub Decided : {W V : Type 0} → (W → V → Type 0) → W → Type 0
Decided {W} {V} Spells word = ((v : V) × Spells word v) ⊎ ((v : V) → Spells word v → ⊥)

-- the words of an instance route behind the first one, but for its targets
pub record SfirBehind (ws : List (List ℕ)) (list : List ℕ) : Type 0 where
  pub rd : List ℕ
  pub kind : ℕ
  pub address : NextHop
  pub rd_fits : IsOctets 8 rd
  pub kind_fits : IsWithin 0 65535 kind
  pub address_fits : IsAddress address
  pub words_are : ws ≡ hexadecimal rd ∷ decimal kind ∷ address_text address ∷ list ∷ []

-- those of a path route, but for its targets and its hops
pub record SfprBehind (ws : List (List ℕ)) (list : List ℕ) (behind : List (List ℕ)) : Type 0 where
  pub rd : List ℕ
  pub spi : ℕ
  pub rd_fits : IsOctets 8 rd
  pub spi_fits : IsWithin 0 16777215 spi
  pub words_are : ws ≡ hexadecimal rd ∷ decimal spi ∷ list ∷ behind
  pub some : behind ≢ []

-- behind some routes all lines are taken
pub record AllTaken (before : List Route) (text : List ℕ) : Type 0 where
  pub lines : List (List ℕ)
  pub after : List Route
  pub split : text ≡ flat_map ended lines
  pub unbroken : AllByRecursion IsUnbroken lines
  pub runs : Runs before lines after

-- behind some routes a line is the first that is not
pub record OneRefused (before : List Route) (text : List ℕ) : Type 0 where
  pub good : List (List ℕ)
  pub routes : List Route
  pub bad : List ℕ
  pub split : text ≡ flat_map ended good ++ bad
  pub unbroken : AllByRecursion IsUnbroken good
  pub runs : Runs before good routes
  pub first : BadLine routes bad

-- whatever routes were there before it, the text can be read behind them, or a line of it is refused
pub record Readable (text : List ℕ) : Type 0 where
  pub behind : (before : List Route) → AllTaken before text ⊎ OneRefused before text

-- the text spells routes, or a line of it is refused
abbrev pub HasReading : List ℕ → Type 0
HasReading text = ((v : List Route) × IsRoutes text v) ⊎ ((n : ℕ) × IsRefused text n)
