-- The names by which texts know the codes of fields and the words of functions.
use Rattle.std.specs.Prelude.{List, [], ◌∷◌, codes}
use Rattle.wire_base.specs.Codes.{Row, row}

-- what follows a header: its Next Protocol (RFC 8300, section 2.2)
abbrev pub next_protocol_rows : List Row
next_protocol_rows =
    row 1 (codes "ipv4") ∷ row 2 (codes "ipv6") ∷ row 3 (codes "ethernet") ∷ row 4 (codes "nsh") ∷ row 5 (codes "mpls")
    ∷ row 254 (codes "experiment-1") ∷ row 255 (codes "experiment-2") ∷ []

-- kinds of attributes of an UPDATE (RFC 4271, section 5; RFC 1997; RFC 4360; RFC 4760; RFC 9015)
abbrev pub attribute_rows : List Row
attribute_rows =
    row 1 (codes "origin") ∷ row 2 (codes "as-path") ∷ row 3 (codes "next-hop") ∷ row 4 (codes "med") ∷ row 5 (codes "local-pref")
    ∷ row 6 (codes "atomic-aggregate") ∷ row 7 (codes "aggregator") ∷ row 8 (codes "communities") ∷ row 14 (codes "mp-reach")
    ∷ row 15 (codes "mp-unreach") ∷ row 16 (codes "ext-communities") ∷ row 37 (codes "sfp") ∷ []

-- what an instance's function does, in the order of their words in the setup text
abbrev pub function_rows : List Row
function_rows =
    row 0 (codes "pass") ∷ row 1 (codes "firewall") ∷ row 2 (codes "remark") ∷ row 3 (codes "nat") ∷ row 4 (codes "hoplimit")
    ∷ row 5 (codes "push-vlan") ∷ row 6 (codes "pop-vlan") ∷ row 7 (codes "stamp") ∷ row 8 (codes "require-meta")
    ∷ row 9 (codes "clear-meta") ∷ []
