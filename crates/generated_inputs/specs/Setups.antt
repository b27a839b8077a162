-- The setup of generated inputs (this project's own).
use Rattle.std.specs.Prelude.{ℕ, List, [], ◌∷◌, ◌++◌, codes}
use Rattle.std.specs.List.{flat_map}

-- two forwarders, and three instances on one path for every frame: a tag, an address translation and a firewall
abbrev pub setup_lines : List (List ℕ)
setup_lines =
    codes "local 65000 192.0.2.1 90"
    ∷ codes "peer 1 65001"
    ∷ codes "forwarder f0 10.0.0.1"
    ∷ codes "forwarder f1 10.0.0.2"
    ∷ codes "ingress f0"
    ∷ codes "instance fw 0000fde800000001 41 aware firewall tcp 23 23"
    ∷ codes "instance nat 0000fde800000002 42 proxy nat source 10.1.0.5 192.0.2.9"
    ∷ codes "instance vlan 0000fde800000003 43 proxy push-vlan 7"
    ∷ codes "rule * * * * * path 42 255 63 md2"
    ∷ []

-- the text of the setup, each line with the byte that ends it
unfoldable pub setup_text : List ℕ
setup_text = flat_map (λ (line : List ℕ). line ++ 10 ∷ []) setup_lines
