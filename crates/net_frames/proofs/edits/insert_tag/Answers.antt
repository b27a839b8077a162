use Rattle.net_frames.proofs.TagLemmas.{tag_written}
use Rattle.net_frames.proofs.edits.insert_tag.Goals as goal

pub returns-clause-value : goal.returns-clause-value
returns-clause-value c = rw (c.put_word.ensures, c.copy_within.ensures.after) (tag_written c.args.bytes.now c.args.vid c.requires)
