-- The words of the reasons for which a frame is dropped.
use Rattle.std.specs.Prelude.{List, [], ◌∷◌, codes}
use Rattle.wire_base.specs.Codes.{Row, row}

-- in the order of the record line
abbrev pub reason_rows : List Row
reason_rows =
    row 0 (codes "rule") ∷ row 1 (codes "nsh-ingress") ∷ row 2 (codes "ttl") ∷ row 3 (codes "no-path") ∷ row 4 (codes "no-instance")
    ∷ row 5 (codes "denied") ∷ row 6 (codes "hop-limit") ∷ row 7 (codes "meta") ∷ row 8 (codes "meta-full") ∷ row 9 (codes "too-long") ∷ []
