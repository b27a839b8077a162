-- The runs of a buffer after its marks were moved, or its room was written.
use Rattle.std.proofs.Common.{◌≡◌, ◌≤◌, ℕ, ◌+◌, ◌-◌, List, ◌++◌, length, take, drop, sym, ap, ◌∙◌, arith, length-take-le, append_assoc}
use Rattle.std.specs.List.{copy_within}
use Rattle.std.proofs.Math.Seq.{take-add, take-append-add, drop-append_seam}
use Rattle.std.proofs.lemmas.List.{drop-append-le, drop-take, length-drop, length-append, take-append-le, take-take}
use Rattle.std.proofs.lemmas.List.Edits.{take-paste}
use Rattle.wire_base.specs.Lists.{refilled}
use Rattle.wire_base.specs.Runs.{Runs, InOrder}
use Rattle.wire_base.specs.Lending.{with_room}

-- where the end moves on, what it passes joins the rest
pub rest_longer : (held : List ℕ) (start end count : ℕ) → start ≤ end → end ≤ length held → drop start (take (end + count) held) ≡ drop start (take end held) ++ take count (drop end held)
rest_longer held start end count le within =
    ap (λ l. drop start l) (take-add end count held)
    ∙ drop-append-le start (take end held) (take count (drop end held)) (omega (arith, le, length-take-le end held within))

-- the rest as the bytes behind the start
rest_is : (held : List ℕ) (start end : ℕ) → start ≤ end → drop start (take end held) ≡ take (end - start) (drop start held)
rest_is held start end le =
    let whole : end ≡ start + (end - start) = omega (arith, le) in
    ap (λ n. drop start (take n held)) whole ∙ drop-take start (end - start) held

-- the rest, moved to the front
pub rest_moved : (held : List ℕ) (start end : ℕ) → start ≤ end → end ≤ length held → take (end - start) (copy_within held start end 0) ≡ drop start (take end held)
rest_moved held start end le within =
    let bare : end - start ≡ 0 + (end - start) = omega arith in
    ap (λ n. take n (copy_within held start end 0)) bare
    ∙ take-paste held 0 (drop start held) (end - start) (omega arith) (omega (arith, le, within, length-drop start held))
    ∙ sym (rest_is held start end le)

-- what is held after the room was written, as the bytes before the room and the room
abbrev pub written_from : List ℕ → ℕ → List ℕ → List ℕ
written_from held end w = take end held ++ (w ++ drop (length w) (drop end held))

room_written : (held w : List ℕ) (end len : ℕ) → len ≡ length held → end ≤ length held → take len (written_from held end w ++ drop (length (written_from held end w)) held) ≡ take end held ++ refilled (drop end held) w
room_written held w end len is within =
    let front : List ℕ = take end held in
    let back : List ℕ = w ++ drop (length w) (drop end held) in
    let behind : List ℕ = drop (length (written_from held end w)) held in
    let fl : length front ≡ end = length-take-le end held within in
    let rl : length (drop end held) ≡ length held - end = length-drop end held in
    let bl : length back ≡ length w + length (drop (length w) (drop end held)) = length-append w (drop (length w) (drop end held)) in
    let bl' : length (drop (length w) (drop end held)) ≡ length (drop end held) - length w = length-drop (length w) (drop end held) in
    let sum : len ≡ length front + length (drop end held) = omega (arith, is, within, fl, rl) in
    ap (take len) (append_assoc front back behind)
    ∙ ap (λ n. take n (front ++ (back ++ behind))) sum
    ∙ take-append-add front (back ++ behind) (length (drop end held))
    ∙ ap (λ l. front ++ l) (take-append-le (length (drop end held)) back behind (omega (arith, bl, bl')))

-- the parts before the room stay, and the room is what was written
front_stays : (held back : List ℕ) (from to end : ℕ) → to ≤ end → end ≤ length held → drop from (take to (take end held ++ back)) ≡ drop from (take to held)
front_stays held back from to end le within =
    ap (drop from) (take-append-le to (take end held) back (omega (arith, le, length-take-le end held within)) ∙ take-take to end held le)

back_is : (held back : List ℕ) (end : ℕ) → end ≤ length held → drop end (take end held ++ back) ≡ back
back_is held back end within =
    ap (λ n. drop n (take end held ++ back)) (sym (length-take-le end held within)) ∙ drop-append_seam (take end held) back

abbrev runs_of : List ℕ → List ℕ → List ℕ → Runs
runs_of a b c = record { passed = a; rest = b; room = c }

same_runs : (a b c a' b' c' : List ℕ) → a ≡ a' → b ≡ b' → c ≡ c' → runs_of a b c ≡ runs_of a' b' c'
same_runs a b c a' b' c' ea eb ec = cc

abbrev pub runs_at : List ℕ → ℕ → ℕ → ℕ → Runs
runs_at held passed start end = record { passed = drop passed (take start held); rest = drop start (take end held); room = drop end held }

pub lent : (held w : List ℕ) (passed start end len : ℕ) → len ≡ length held → InOrder passed start end (length held) → runs_at (take len (written_from held end w ++ drop (length (written_from held end w)) held)) passed start end ≡ with_room (runs_at held passed start end) w
lent held w passed start end len is order =
    ap (λ l. runs_at l passed start end) (room_written held w end len is order.within)
    ∙ same_runs _ _ _ _ _ _
    (front_stays held (refilled (drop end held) w) passed start end order.some order.within)
    (front_stays held (refilled (drop end held) w) start end end (omega arith) order.within)
    (back_is held (refilled (drop end held) w) end order.within)
