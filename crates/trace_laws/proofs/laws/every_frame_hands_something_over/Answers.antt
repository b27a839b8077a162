-- Each station keeps bytes, and a header that has a spelling.
use Rattle.trace_laws.proofs.TraceExists.{traces_frame}
use Rattle.trace_laws.proofs.laws.every_frame_hands_something_over.Goals as goal

pub returns : goal.returns
returns c = traces_frame
