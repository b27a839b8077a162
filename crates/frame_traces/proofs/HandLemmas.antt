-- The packets that a walk hands over are those that a workspace keeps of it.
use Rattle.std.proofs.Common.{◌≡◌, ℕ, zero, suc, ◌+◌, ◌-◌, ◌<◌, ◌≤◌, List, [], ◌∷◌, ◌++◌, length, map, take, refl, sym, ap, subst, ◌∙◌, arith, inl, inr, length-append}
use Rattle.std.specs.List.{AllByRecursion}
use Rattle.std.proofs.lemmas.List.Elements.{All-tail, All-take}
use Rattle.std.proofs.Math.Seq.{take-append_seam, take-length, take-nil}
use Rattle.wire_base.specs.Numbers.{AreBytes}
use Rattle.wire_base.specs.declared.ids.ForwarderId.{ForwarderId}
use Rattle.nsh_metadata.specs.Header.{BeginsWith, Header, IsNsh}
use Rattle.nsh_metadata.proofs.EncodingLemmas.{same_spelling}
use Rattle.pcap_io.specs.declared.frames.Captured.{Captured}
use Rattle.classifier.specs.Stations.{Station}
use Rattle.forwarder.specs.Traces.{IsPacket, Traces, TracesFrom, outer}
use Rattle.forwarder.specs.Workspaces.{taken_in}
use Rattle.frame_traces.specs.Keeping.{as_captured}
use Rattle.frame_traces.specs.Traces.{HandsFrom, HandsOver, IsHanded}
use Rattle.frame_traces.proofs.CutLemmas.{AreCut, IsCutAs}

-- a packet of the frame's walk as it stands in a capture
abbrev pub handed_of : Captured → List ℕ → Captured
handed_of frame whole = as_captured frame.seconds frame.fraction (frame.original - length frame.bytes) whole

-- a packet that was kept is handed over
is_handed : (frame : Captured) (s next : Station) (whole : List ℕ) → length frame.bytes ≤ frame.original → IsCutAs (taken_in frame.bytes frame.original) next.frame
    → AreBytes whole → IsPacket s.forwarder next.forwarder next.header next.frame.bytes whole → IsHanded frame s next (handed_of frame whole)
is_handed frame s next whole captured cut are is = record {
  whole = whole;
  is_packet = is;
  are_bytes = are;
  seconds = refl;
  fraction = refl;
  original =
      let behind = length-append is.spelling next.frame.bytes in
      let all = ap length is.whole in
      omega (arith, behind, all, cut.missing, cut.captured, captured);
  captured = refl;
}

hands_from : (frame : Captured) (s : Station) (later : List Station) (kept : List (List ℕ)) → length frame.bytes ≤ frame.original → AreCut (taken_in frame.bytes frame.original) later
    → AllByRecursion AreBytes kept → TracesFrom s later kept → HandsFrom frame s later (map (handed_of frame) kept)
hands_from frame s [] kept captured cut are traces = ap (map (handed_of frame)) traces
hands_from frame s (next ∷ later) kept captured cut are (inl x) = inl (x.0, hands_from frame next later kept captured cut.1 are x.1)
hands_from frame s (next ∷ later) kept captured cut are (inr x) =
    let packet = x.1 in
    let rest = x.2 in
    let all : AllByRecursion AreBytes (packet ∷ rest) = subst (AllByRecursion AreBytes) x.3 are in
    inr (x.0, handed_of frame packet, map (handed_of frame) rest, ap (map (handed_of frame)) x.3, is_handed frame s next packet captured cut.0 all.0 x.4, hands_from frame next later rest captured cut.1 all.1 x.5)

pub hands_over : (frame : Captured) (stations : List Station) (kept : List (List ℕ)) → length frame.bytes ≤ frame.original → AreCut (taken_in frame.bytes frame.original) stations
    → AllByRecursion AreBytes kept → Traces stations kept → HandsOver frame stations (map (handed_of frame) kept)
hands_over frame [] kept captured cut are traces = ap (map (handed_of frame)) traces
hands_over frame (first ∷ later) kept captured cut are traces = hands_from frame first later kept captured cut.1 are traces

-- ---- a packet has one spelling

bytes_behind : (front others : List ℕ) → AreBytes (front ++ others) → AreBytes others
bytes_behind [] others are = are
bytes_behind (b ∷ bs) others are = bytes_behind bs others (All-tail (λ byte. byte < 256) b (bs ++ others) are)

bytes_before : (front others : List ℕ) → AreBytes (front ++ others) → AreBytes front
bytes_before front others are = subst AreBytes (take-append_seam front others) (All-take (λ byte. byte < 256) (length front) (front ++ others) are)

one_spelling : (a b : List ℕ) (h : Header) → AreBytes a → AreBytes b → IsNsh a h → IsNsh b h → a ≡ b
one_spelling a b h are_a are_b x y =
    let whole : (l : List ℕ) → IsNsh l h → BeginsWith l h (length l) = λ l is. record { within = omega arith; spelled = subst (λ (k : List ℕ). IsNsh k h) (sym (take-length l)) is } in
    sym (take-length a) ∙ same_spelling a b h (length a) (length b) are_a are_b (whole a x) (whole b y) ∙ take-length b

one_packet : (forwarder other : ForwarderId) (header : Header) (frame whole also : List ℕ) → AreBytes whole → AreBytes also
    → (x : IsPacket forwarder other header frame whole) (y : IsPacket forwarder other header frame also) → x.spelling ≡ y.spelling
one_packet forwarder other header frame whole also are_whole are_also x y =
    let spelling_of : (w : List ℕ) → AreBytes w → (p : IsPacket forwarder other header frame w) → AreBytes p.spelling =
    λ w are p. bytes_before p.spelling frame (bytes_behind (outer other forwarder) (p.spelling ++ frame) (subst AreBytes p.whole are)) in
    one_spelling x.spelling y.spelling header (spelling_of whole are_whole x) (spelling_of also are_also y) x.spelled y.spelled

same_packet : (forwarder other : ForwarderId) (header : Header) (frame whole also : List ℕ) → AreBytes whole → AreBytes also
    → IsPacket forwarder other header frame whole → IsPacket forwarder other header frame also → whole ≡ also
same_packet forwarder other header frame whole also are_whole are_also x y =
    x.whole ∙ ap (λ (l : List ℕ). outer other forwarder ++ (l ++ frame)) (one_packet forwarder other header frame whole also are_whole are_also x y) ∙ sym y.whole

one_handed : (frame : Captured) (s next : Station) (p q : Captured) → IsHanded frame s next p → IsHanded frame s next q → p ≡ q
one_handed frame s next p q x y =
    let spelling = one_packet s.forwarder next.forwarder next.header next.frame.bytes x.whole y.whole x.are_bytes y.are_bytes x.is_packet y.is_packet in
    let whole = same_packet s.forwarder next.forwarder next.header next.frame.bytes x.whole y.whole x.are_bytes y.are_bytes x.is_packet y.is_packet in
    let seconds : p.seconds ≡ q.seconds = x.seconds ∙ sym y.seconds in
    let fraction : p.fraction ≡ q.fraction = x.fraction ∙ sym y.fraction in
    let original : p.original ≡ q.original = x.original ∙ ap (λ (l : List ℕ). 14 + length l + next.frame.original) spelling ∙ sym y.original in
    let bytes : p.bytes ≡ q.bytes = x.captured ∙ ap (take 262144) whole ∙ sym y.captured in
    λ k. record { seconds = seconds k; fraction = fraction k; original = original k; bytes = bytes k }

one_list_from : (frame : Captured) (s : Station) (later : List Station) (here there : List Captured) → HandsFrom frame s later here → HandsFrom frame s later there → here ≡ there
one_list_from frame s [] here there x y = x ∙ sym y
one_list_from frame s (next ∷ later) here there (inl x) (inl y) = one_list_from frame next later here there x.1 y.1
one_list_from frame s (next ∷ later) here there (inl x) (inr y) = absurd (y.0 x.0)
one_list_from frame s (next ∷ later) here there (inr x) (inl y) = absurd (x.0 y.0)
one_list_from frame s (next ∷ later) here there (inr x) (inr y) =
    x.3 ∙ (ap (λ (p : Captured). p ∷ x.2) (one_handed frame s next x.1 y.1 x.4 y.4) ∙ (ap (λ (l : List Captured). y.1 ∷ l) (one_list_from frame next later x.2 y.2 x.5 y.5) ∙ sym y.3))

-- a walk's stations hand one list over
pub one_list_handed : (frame : Captured) (stations : List Station) (here there : List Captured) → HandsOver frame stations here → HandsOver frame stations there → here ≡ there
one_list_handed frame [] here there x y = x ∙ sym y
one_list_handed frame (first ∷ later) here there x y = one_list_from frame first later here there x y

-- ---- the first packets of a walk

abbrev pub BeginsWithThese : List Captured → List Captured → Type 0
BeginsWithThese first all = (rest : List Captured) × (first ++ rest ≡ all)

front_from : (frame : Captured) (s : Station) (later : List Station) (kept : List (List ℕ)) (k : ℕ) (all : List Captured) → length frame.bytes ≤ frame.original
    → AreCut (taken_in frame.bytes frame.original) later → AllByRecursion AreBytes (take k kept) → TracesFrom s later kept → HandsFrom frame s later all
    → BeginsWithThese (map (handed_of frame) (take k kept)) all
front_from frame s later kept zero all captured cut are traces hands = (all, refl)
front_from frame s [] kept (suc k) all captured cut are traces hands = (all, ap (λ (l : List (List ℕ)). map (handed_of frame) (take (suc k) l) ++ all) traces)
front_from frame s (next ∷ later) kept (suc k) all captured cut are (inl x) (inl y) = front_from frame next later kept (suc k) all captured cut.1 are x.1 y.1
front_from frame s (next ∷ later) kept (suc k) all captured cut are (inl x) (inr y) = absurd (y.0 x.0)
front_from frame s (next ∷ later) kept (suc k) all captured cut are (inr x) (inl y) = absurd (x.0 y.0)
front_from frame s (next ∷ later) kept (suc k) all captured cut are (inr x) (inr y) =
    let packet = x.1 in
    let rest = x.2 in
    let known : AllByRecursion AreBytes (packet ∷ take k rest) = subst (λ (l : List (List ℕ)). AllByRecursion AreBytes (take (suc k) l)) x.3 are in
    let here : handed_of frame packet ≡ y.1 = one_handed frame s next (handed_of frame packet) y.1 (is_handed frame s next packet captured cut.0 known.0 x.4) y.4 in
    let behind = front_from frame next later rest k y.2 captured cut.1 known.1 x.5 y.5 in (
      behind.0,
      ap (λ (l : List (List ℕ)). map (handed_of frame) (take (suc k) l) ++ behind.0) x.3
          ∙ (ap (λ (p : Captured). p ∷ (map (handed_of frame) (take k rest) ++ behind.0)) here ∙ (ap (λ (l : List Captured). y.1 ∷ l) behind.1 ∙ sym y.3)),
    )

pub front_handed : (frame : Captured) (stations : List Station) (kept : List (List ℕ)) (k : ℕ) (all : List Captured) → length frame.bytes ≤ frame.original
    → AreCut (taken_in frame.bytes frame.original) stations → AllByRecursion AreBytes (take k kept) → Traces stations kept → HandsOver frame stations all
    → BeginsWithThese (map (handed_of frame) (take k kept)) all
front_handed frame [] kept k all captured cut are traces hands = (all, ap (λ (l : List (List ℕ)). map (handed_of frame) (take k l) ++ all) traces ∙ ap (λ (l : List (List ℕ)). map (handed_of frame) l ++ all) (take-nil k))
front_handed frame (first ∷ later) kept k all captured cut are traces hands = front_from frame first later kept k all captured cut.1 are traces hands
