-- The ports behind the setup, one after the other.
use Rattle.std.proofs.Common.{◌≡◌, ◌≢◌, true, false, is_err, is_ok, Result, Ok, Err, refl}
use Rattle.sfc_desk.specs.declared.ports.Port.TheVariants as ports

pub ok_again : {A E : Type 0} (r : Result A E) → is_err r ≡ false → is_ok r ≡ true
ok_again (Ok x) fine = refl
ok_again (Err e) fine = cc

pub capture_no_control : ports.Capture ≢ ports.Control
capture_no_control e = cc

pub capture_no_egress : ports.Capture ≢ ports.Egress
capture_no_egress e = cc

pub capture_no_lines : ports.Capture ≢ ports.Lines
capture_no_lines e = cc

pub capture_no_replies : ports.Capture ≢ ports.Replies
capture_no_replies e = cc

pub control_no_egress : ports.Control ≢ ports.Egress
control_no_egress e = cc

pub control_no_lines : ports.Control ≢ ports.Lines
control_no_lines e = cc

pub control_no_replies : ports.Control ≢ ports.Replies
control_no_replies e = cc
