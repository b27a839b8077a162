-- The packets of the frames are all there, or none is.
use Rattle.std.proofs.Common.{◌∙◌}
use Rattle.walk_command.proofs.EgressLemmas.{all_out, none_out}
use Rattle.walk_command.proofs.laws.every_frame_comes_out_or_none.Goals as goal

pub returns : goal.returns
returns c = record {
  every = λ spi count input output stop some few w. w.egress ∙ all_out spi count w.form w.frames w.ends some few w.walked;
  none = λ spi count input output stop many few w. w.egress ∙ none_out spi count w.form w.frames w.ends many few w.walked;
}
