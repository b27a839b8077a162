use Rattle.std.proofs.Common.{sym, ◌∙◌}
use Rattle.sfc_proxy.proofs.InstanceLemmas.{served_header, served_frame}
use Rattle.sfc_proxy.proofs.in_place.serve.Goals as goal

-- the function works on the header alone
pub returns-then-is_on_metadata : goal.returns-then-is_on_metadata
returns-then-is_on_metadata c = λ h w.
    let r = c.serve_header.ensures h w in
    (r.0, served_header c.args.function.now c.args.frame.now h r.0 c.serve_header.result.0 (sym c.is_on_metadata.ensures ∙ c.if-is_on_metadata.true) r.1, r.2)

-- or on the frame alone
pub returns : goal.returns
returns c = λ h w.
    (h, served_frame c.args.function.now c.args.frame.now c.serve_frame.new.frame h c.serve_frame.result (sym c.is_on_metadata.ensures ∙ c.if-is_on_metadata.false) c.serve_frame.ensures, w)
