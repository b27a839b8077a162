-- What a printer answers that appends in pieces.
use Rattle.std.proofs.Common.{◌≡◌, ℕ, List, [], ◌++◌, append_assoc, append-nil, refl, sym, ap, ◌∙◌, Result, Ok, Err}
use Rattle.std.specs.Prelude.{OnErr}
use Rattle.text_words.specs.Printing.{AppendsFront}

-- what holds holds at an error
pub fails : {T E : Type 0} (P : Type 0) (r : Result T E) → P → OnErr r P
fails P (Ok t) h = tt
fails P (Err e) h = h

-- nothing was appended
pub none_appended : (before text : List ℕ) → AppendsFront before text before
none_appended before text = record { front = []; rest = text; cut = refl; appended = sym (append-nil before) }
