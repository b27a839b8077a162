-- What a feed keeps between two pieces.
use Rattle.std.specs.Prelude.{ℕ, Option, Some, None, List, []}
use Rattle.nsh_headers.specs.declared.faults.NshFault.{NshFault}

-- the bytes that begin a header, and the refusal after which no more are taken
pub record Kept : Type 0 where
  pub rest : List ℕ
  pub stop : Option NshFault

abbrev pub waiting : List ℕ → Kept
waiting bytes = record { rest = bytes; stop = None }

abbrev pub stopped : NshFault → Kept
stopped f = record { rest = []; stop = Some f }
