-- What no words tell of a function's numbers they tell of no function with its word.
use Rattle.setup_statements.proofs.ReadingLemmas.{no_firewall, no_nat, no_stamp, no_meta}
use Rattle.setup_statements.proofs.function_text.read_told.Goals as goal

pub returns-in-None : goal.returns-in-None
returns-in-None c = no_firewall _ c.in-None.ensures _ c.in-Firewall.is

pub returns-in-None-read_nat : goal.returns-in-None-read_nat
returns-in-None-read_nat c = no_nat _ c.in-None-read_nat.ensures _ c.in-Nat.is

pub returns-in-None-read_stamp : goal.returns-in-None-read_stamp
returns-in-None-read_stamp c = no_stamp _ c.in-None-read_stamp.ensures _ c.in-Stamp.is

pub returns-in-None-read_meta : goal.returns-in-None-read_meta
returns-in-None-read_meta c = no_meta _ c.in-None-read_meta.ensures _ c.in-RequireMeta.is
