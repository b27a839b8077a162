-- The magic is that of the form, and the cells of the numbers stand one after the other.
use Rattle.pcap_io.proofs.HeadLemmas.{head_words}
use Rattle.pcap_io.proofs.heads.capture_head.Goals as goal

pub returns : goal.returns
returns c =
    rw (c.word_bytes.ensures, c.half_bytes.ensures, c.half_bytes-2.ensures, c.word_bytes-2.ensures, c.word_bytes-3.ensures, c.word_bytes-4.ensures)
    (head_words c.args.form c.magic_of.result c.magic_of.ensures)
