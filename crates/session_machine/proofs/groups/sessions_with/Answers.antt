-- One more session stands for no events.
use Rattle.std.proofs.Common.{◌≡◌, ◌≤◌, ◌+◌, ℕ, [], ◌∷◌, ◌++◌, List, All, map, take, get_or, sym, ap, subst, ◌∙◌, arith}
use Rattle.std.proofs.lemmas.List.{map-append, map_more}
use Rattle.std.proofs.lemmas.List.Elements.{All-push}
use Rattle.session_machine.specs.declared.machines.Session.{Session}
use Rattle.session_machine.specs.declared.sides.Side.{Side}
use Rattle.session_machine.specs.Sides.{side_of}
use Rattle.session_machine.specs.Sessions.{Stands, bytes_of}
use Rattle.session_machine.specs.Peers.{sides_of, AllHold}
use Rattle.session_machine.proofs.groups.sessions_with.Goals as goal

pub loop-peer-preserved : goal.loop-peer-preserved
loop-peer-preserved c =
    let before = c.loop-peer.made.items in
    let i = c.loop-peer.peer-index in
    let peers = c.args.peers.now in
    let none : ℕ × ℕ = (0, 0) in
    let pushed : c.push.new.self.items ≡ before ++ c.new.result ∷ [] = c.in_ok-push.ensures.items in
    let peer_is : c.new.result.side ≡ side_of c.args.local (get_or peers i none).0 (get_or peers i none).1 = c.new.ensures.side in
    let sides : map (λ (s : Session). s.side) (before ++ c.new.result ∷ []) ≡ sides_of c.args.local (take (i + 1) peers) =
    map-append (λ (s : Session). s.side) before (c.new.result ∷ [])
    ∙ ap (λ (l : List Side). l ++ c.new.result.side ∷ []) c.loop-peer.invariant.sides
    ∙ ap (λ (s : Side). sides_of c.args.local (take i peers) ++ s ∷ []) peer_is
    ∙ sym (map_more (λ (q : ℕ × ℕ). side_of c.args.local q.0 q.1) peers i none c.loop-peer-test.true) in
    let each : All (λ s. Stands s [] []) (before ++ c.new.result ∷ []) = All-push (λ (s : Session). Stands s [] []) before c.new.result c.loop-peer.invariant.each c.new.ensures.history in
    let few : bytes_of c.new.result ≤ 0 = omega (arith, c.new.ensures.count) in
    let count : AllHold 0 (before ++ c.new.result ∷ []) = All-push (λ (s : Session). bytes_of s ≤ 0) before c.new.result c.loop-peer.invariant.count few in
    record {
      sides = ap (λ (l : List Session). map (λ (s : Session). s.side) l) pushed ∙ sides;
      each = subst (λ (l : List Session). All (λ s. Stands s [] []) l) (sym pushed) each;
      count = subst (λ (l : List Session). AllHold 0 l) (sym pushed) count;
    }
