-- The cells of the four numbers stand one after the other.
use Rattle.pcap_io.proofs.HeadLemmas.{four_words}
use Rattle.pcap_io.proofs.heads.packet_head.Goals as goal

pub returns : goal.returns
returns c =
    rw (c.word_bytes.ensures, c.word_bytes-2.ensures, c.word_bytes-3.ensures, c.word_bytes-4.ensures)
    (four_words c.args.form c.args.seconds c.args.fraction c.args.captured c.args.original)
