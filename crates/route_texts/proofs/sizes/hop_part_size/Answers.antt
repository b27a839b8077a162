-- Behind the head and the type are the RDs.
use Rattle.route_texts.proofs.LineLemmas.{five_more}
use Rattle.route_texts.proofs.sizes.hop_part_size.Goals as goal

pub returns-in-Sft : goal.returns-in-Sft
returns-in-Sft c =
    let size = rw c.as_slice.ensures at c.rds_size.ensures in
    rw c.in-Sft.is (five_more c.capped.result c.rds_size.result _ size c.capped.ensures)
