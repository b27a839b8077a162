use Rattle.std.specs.Io.KnownBytes.{Keeps}
use Rattle.sfc_desk.proofs.retries.write_some.Given as goal

-- a write that was interrupted wrote nothing
abbrev pub invariant-tries : goal.invariant-tries
invariant-tries g l = Keeps (g.F.Write.contents l.initial.file) (g.F.Write.contents l.file)
