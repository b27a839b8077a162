-- What the kit says of the bytes behind a front.
use Rattle.std.proofs.lemmas.Bool.Decides.{Decides-eqb}
use Rattle.std.proofs.lemmas.Slice.Eq.{strip_prefix_is}
use Rattle.record_text.proofs.fields.behind_label.Goals as goal

pub returns : goal.returns
returns c = strip_prefix_is Decides-eqb c.args.word.now c.args.label.now c.strip_prefix.result c.strip_prefix.ensures.cases
