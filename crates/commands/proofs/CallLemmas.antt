-- What holds where a call answered Ok, or Err.
use Rattle.std.proofs.Common.{◌≡◌, true, false, Result, Ok, Err, is_err, OnOk, OnErr}

-- what holds where a call answered Ok
pub on_ok_at : {A E : Type 0} (P : Type 0) (r : Result A E) → is_err r ≡ false → OnOk r P → P
on_ok_at P (Ok x) fine p = p
on_ok_at P (Err e) fine p = cc

-- what holds where a call answered Err
pub on_err_at : {A E : Type 0} (P : Type 0) (r : Result A E) → is_err r ≡ true → OnErr r P → P
on_err_at P (Ok x) failed p = cc
on_err_at P (Err e) failed p = p
