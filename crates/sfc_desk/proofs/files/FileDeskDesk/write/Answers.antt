use Rattle.std.proofs.Common.{false, refl, ap, arith}
use Rattle.sfc_desk.specs.Files.{shown, nothing}
use Rattle.sfc_desk.specs.Ports.{bound_of}
use Rattle.sfc_desk.proofs.SlotLemmas.{moves}
use Rattle.sfc_desk.proofs.FileLemmas.{taken}
use Rattle.sfc_desk.proofs.files.FileDeskDesk.write.Goals as goal

-- the slot of the port changed alone
pub returns-clause-moves : goal.returns-clause-moves
returns-clause-moves g c = moves false shown nothing _ _ c.args.port _ _ _ (record { place = c.number.ensures.value; within = omega arith; there = c.index_mut.ensures.value }) c.requires.bound
    (record { later = c.write.ensures.later; bound = ap (bound_of c.args.port) c.write.ensures.bound; binds = c.write.ensures.binds; name = refl })

-- the bytes that it moved are those of its file
pub returns-clause-taken : goal.returns-clause-taken
returns-clause-taken g c = taken _ _ _ c.args.port _ _ _ _ _ _ _ (record { place = c.number.ensures.value; within = omega arith; there = c.index_mut.ensures.value }) c.write.ensures.taken
