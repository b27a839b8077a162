-- What a reader answers: the header at the front and its size, or the refusal.
use Rattle.std.specs.Prelude.{◌≡◌, ℕ, ◌<◌, List, length, Result, Ok, Err}
use Rattle.nsh_headers.specs.declared.faults.NshFault.{NshFault}
use Rattle.nsh_headers.specs.declared.faults.NshFault.TheVariants.{Short}
use Rattle.nsh_metadata.specs.Header.{Header, BeginsWith}
use Rattle.nsh_metadata.specs.Refusal.{Refused}

-- a refusal, and too few bytes only where there are fewer than a header may have
pub record Refuses (b : List ℕ) (f : NshFault) : Type 0 where
  pub refused : Refused b f
  pub short : (n : ℕ) → f ≡ Short n → length b < 252

abbrev pub Reads : List ℕ → Result (Header × ℕ) NshFault → Type 0
Reads b (Ok r) = BeginsWith b r.0 r.1
Reads b (Err f) = Refuses b f
