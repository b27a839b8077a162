-- The version's two numbers as one.
use Rattle.pcap_io.proofs.FileHeadLemmas.{version_little, version_big}
use Rattle.pcap_io.proofs.steps.version_number.Goals as goal

pub returns-then-form : goal.returns-then-form
returns-then-form c = version_big c.args.form c.if-form.true

pub returns : goal.returns
returns c = version_little c.args.form c.if-form.false
