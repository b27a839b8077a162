-- Four bytes and their number are one thing.
use Rattle.std.proofs.Common.{sym, ◌∙◌, ap}
use Rattle.text_words.specs.Addresses.{dotted}
use Rattle.setup_statements.specs.Statements.{octets_of}
use Rattle.setup_statements.proofs.OneLemmas.{octets_fit}
use Rattle.setup_statements.proofs.ReadingLemmas.{identifier_is}
use Rattle.setup_statements.proofs.reading.read_identifier.Goals as goal

pub returns-in-Some : goal.returns-in-Some
returns-in-Some c =
    let same = identifier_is c.be_u32.result c.in-Some.octets c.bytes.result.now c.in-Some.ensures.0 c.bytes.ensures.value c.be_u32.ensures.number in
    (c.be_u32.type_inv, c.in-Some.ensures.1 ∙ ap dotted (sym same))

pub returns-in-None : goal.returns-in-None
returns-in-None c = λ v small e. c.in-None.ensures (octets_of v) (octets_fit v small) e
