-- How much of a frame was not captured stays the same from station to station.
use Rattle.std.proofs.Common.{◌≡◌, ℕ, ◌+◌, ◌≤◌, Bool, true, false, cond, List, [], ◌∷◌, ◌++◌, length, take, drop, refl, subst, sym, ◌∙◌, arith, inl, inr, length-append, length-drop}
use Rattle.std.specs.List.{AllByRecursion}
use Rattle.std.specs.Prelude.{nat_le}
use Rattle.std.proofs.lemmas.List.{length-take-le}
use Rattle.std.proofs.lemmas.Bool.{leb-true}
use Rattle.std.proofs.lemmas.Bool.Decides.{nat_tests}
use Rattle.wire_base.specs.declared.ids.InstanceId.{InstanceId}
use Rattle.net_frames.specs.Captured.{Captured as Framed}
use Rattle.net_frames.specs.Checksums.{reworded}
use Rattle.net_frames.specs.Contents.{fields_of}
use Rattle.net_frames.specs.Edits.{address_in, marked, marked_in, lowered, lowered_in, readdressed, readdressed_in, rechecked, tag_of, with_bytes}
use Rattle.net_frames.specs.Layouts.{checked_of, is_tag, network_of}
use Rattle.net_frames.specs.declared.contents.Side.{Side}
use Rattle.net_frames.specs.declared.layouts.Checked.{Checked}
use Rattle.net_frames.specs.declared.layouts.Checked.TheVariants.{Tcp, Udp, Unchecked}
use Rattle.net_frames.specs.declared.layouts.Network.{Network}
use Rattle.net_frames.specs.declared.layouts.Network.TheVariants.{Ipv4, Ipv6, Other}
use Rattle.net_frames.proofs.WordLemmas.{length-with_word}
use Rattle.path_selection.specs.Paths.{ServicePath}
use Rattle.path_selection.specs.declared.answers.Answer.{Answer}
use Rattle.path_selection.specs.declared.answers.Answer.TheVariants.{NoPath, NoInstance, Ended, At}
use Rattle.record_text.specs.declared.records.End.{End}
use Rattle.sfc_config.specs.Parts.{Parts}
use Rattle.classifier.specs.Stations.{Station, first_header, first_station}
use Rattle.classifier.specs.declared.verdicts.Verdict.{Verdict}
use Rattle.classifier.specs.declared.verdicts.Verdict.TheVariants as verdict
use Rattle.service_functions.specs.Serving.{FrameBy, has_address}
use Rattle.service_functions.specs.declared.functions.Function.{Function}
use Rattle.service_functions.specs.declared.functions.Function.TheVariants.{Pass, Firewall, Remark, Nat, HopLimit, PushVlan, PopVlan, Stamp, RequireMeta, ClearMeta}
use Rattle.forwarder.specs.Walks.{Follows, GoesOn, IsWalk, Walk, WalkFrom, WalksBy, function_by, functions_of}

-- ---- edits that keep the number of bytes

length-reworded : (bytes : List ℕ) (sum i number : ℕ) → length (reworded bytes sum i number) ≡ length bytes
unfolding reworded
length-reworded bytes sum i number = length-with_word _ sum _ ∙ length-with_word bytes i number

length-marked : (n : Network) (bytes : List ℕ) (dscp : ℕ) → length (marked_in n bytes dscp) ≡ length bytes
length-marked (Ipv4 at transport) bytes dscp = length-reworded bytes _ _ _
length-marked (Ipv6 at transport) bytes dscp = length-with_word bytes _ _
length-marked Other bytes dscp = refl

length-lowered : (n : Network) (bytes : List ℕ) → length (lowered_in n bytes) ≡ length bytes
length-lowered (Ipv4 at transport) bytes = length-reworded bytes _ _ _
length-lowered (Ipv6 at transport) bytes = length-with_word bytes _ _
length-lowered Other bytes = refl

either_length : (b : Bool) (x y : List ℕ) (n : ℕ) → length x ≡ n → length y ≡ n → length (cond b x y) ≡ n
either_length true x y n p q = p
either_length false x y n p q = q

length-rechecked : (c : Checked) (bytes from to : List ℕ) (i j : ℕ) → length (rechecked c bytes (address_in from i) (address_in to j)) ≡ length bytes
unfolding rechecked
length-rechecked (Tcp place) bytes from to i j = length-with_word bytes _ _
length-rechecked (Udp place) bytes from to i j = either_length _ bytes _ (length bytes) refl (length-with_word bytes _ _)
length-rechecked Unchecked bytes from to i j = refl

length-readdressed : (n : Network) (bytes : List ℕ) (side : Side) (to : List ℕ) → length (readdressed_in n bytes side to) ≡ length bytes
length-readdressed (Ipv4 at transport) bytes side to = length-rechecked (checked_of bytes at transport) _ bytes to _ 0 ∙ (length-reworded _ _ _ _ ∙ length-reworded bytes _ _ _)
length-readdressed (Ipv6 at transport) bytes side to = refl
length-readdressed Other bytes side to = refl

-- ---- a frame as much cut as another

-- no more bytes are captured than there were, and as many are missing as of the first frame
pub record IsCutAs (first frame : Framed) : Type 0 where
  pub captured : length frame.bytes ≤ frame.original
  pub missing : frame.original + length first.bytes ≡ first.original + length frame.bytes

either_cut : (b : Bool) (first x y : Framed) → (b ≡ true → IsCutAs first x) → (b ≡ false → IsCutAs first y) → IsCutAs first (cond b x y)
either_cut true first x y p q = p refl
either_cut false first x y p q = q refl

same_length : (first frame : Framed) (bytes : List ℕ) → length bytes ≡ length frame.bytes → IsCutAs first frame → IsCutAs first (with_bytes frame bytes)
same_length first frame bytes e x = record { captured = omega (arith, e, x.captured); missing = omega (arith, e, x.missing) }

tag_room : (bytes : List ℕ) → is_tag bytes 12 ≡ true → 16 ≤ length bytes
unfolding is_tag
tag_room bytes tag = grind (arith, nat_tests)

length-tagged : (bytes : List ℕ) (vid : ℕ) → 12 ≤ length bytes → length (take 12 bytes ++ (tag_of vid ++ drop 12 bytes)) ≡ length bytes + 4
length-tagged bytes vid long =
    omega (arith, length-append (take 12 bytes) (tag_of vid ++ drop 12 bytes), length-append (tag_of vid) (drop 12 bytes), length-take-le 12 bytes long, length-drop 12 bytes)

length-untagged : (bytes : List ℕ) → 16 ≤ length bytes → length (take 12 bytes ++ drop 16 bytes) + 4 ≡ length bytes
length-untagged bytes long =
    let front : length (take 12 bytes) ≡ 12 = length-take-le 12 bytes (omega (arith, long)) in
    omega (arith, length-append (take 12 bytes) (drop 16 bytes), front, length-drop 16 bytes)

-- what a function leaves of a frame is as much cut
cut_by : (f : Function) (first frame : Framed) → IsCutAs first frame → IsCutAs first (FrameBy f frame)
cut_by Pass first frame x = x
cut_by (Firewall p l h) first frame x = x
cut_by (Remark dscp) first frame x = same_length first frame (marked frame.bytes dscp) (length-marked (network_of frame.bytes) frame.bytes dscp) x
cut_by (Nat side from to) first frame x =
    either_cut (has_address (fields_of frame.bytes) side from) first (with_bytes frame (readdressed frame.bytes side to)) frame
    (λ is. same_length first frame (readdressed frame.bytes side to) (length-readdressed (network_of frame.bytes) frame.bytes side to) x) (λ is. x)
cut_by HopLimit first frame x = same_length first frame (lowered frame.bytes) (length-lowered (network_of frame.bytes) frame.bytes) x
cut_by (PushVlan vid) first frame x =
    either_cut (nat_le 12 (length frame.bytes)) first _ frame
    (λ is. let more = length-tagged frame.bytes vid (leb-true 12 (length frame.bytes) is) in record { captured = omega (arith, more, x.captured); missing = omega (arith, more, x.missing) })
    (λ is. x)
cut_by PopVlan first frame x =
    either_cut (is_tag frame.bytes 12) first _ frame
    (λ is. let room = tag_room frame.bytes is in
    let fewer = length-untagged frame.bytes room in
    record { captured = omega (arith, fewer, x.captured, room); missing = omega (arith, fewer, x.captured, x.missing, room) })
    (λ is. x)
cut_by (Stamp c k b) first frame x = x
cut_by (RequireMeta c k) first frame x = x
cut_by ClearMeta first frame x = x

-- ---- the stations of a walk

abbrev pub AreCut : Framed → List Station → Type 0
AreCut first stations = AllByRecursion (λ (s : Station). IsCutAs first s.frame) stations

next_cut : (functions : List Function) (first : Framed) (s : Station) (a : Answer) (next : Station) → Follows functions s a (GoesOn next) → IsCutAs first s.frame → IsCutAs first next.frame
next_cut functions first s NoPath next follows x = absurd (cc)
next_cut functions first s (NoInstance at) next follows x = absurd (cc)
next_cut functions first s Ended next follows x = absurd (cc)
next_cut functions first s (At at other instance) next (inl on) x = subst (λ (n : Station). IsCutAs first n.frame) (sym on.1) x
next_cut functions first s (At at other instance) next (inr on) x = subst (λ (n : Station). IsCutAs first n.frame) (sym on.2) (cut_by (function_by functions instance) first s.frame x)

later_cut : (functions : List Function) (first : Framed) (s : Station) (later : List Station) (tables : List (List ServicePath)) (end : End) (visits : List InstanceId)
    → IsCutAs first s.frame → WalkFrom functions s later tables end visits → AreCut first later
later_cut functions first s [] tables end visits x w = tt
later_cut functions first s (next ∷ later) [] end visits x w = absurd w
later_cut functions first s (next ∷ later) (table ∷ tables) end visits x w =
    let here = next_cut functions first s w.0.answer next w.0.follows x in
    (here, later_cut functions first next later tables end visits here w.1)

by_verdict : (setup : Parts) (frame : Framed) (v : Verdict) (walk : Walk) → length frame.bytes ≤ frame.original → WalksBy setup frame v walk → AreCut frame walk.stations
by_verdict setup frame (verdict.Path spi si ttl context) walk captured w =
    let first = first_station setup.ingress frame (first_header spi si ttl context) in
    let begins : IsCutAs frame first.frame = record { captured = captured; missing = refl } in
    subst (AreCut frame) (sym w.1) (begins, later_cut (functions_of setup.instances) frame first w.0 walk.tables walk.end walk.visits begins w.3)
by_verdict setup frame verdict.Bypass walk captured w = subst (λ (x : Walk). AreCut frame x.stations) (sym w) tt
by_verdict setup frame verdict.Refuse walk captured w = subst (λ (x : Walk). AreCut frame x.stations) (sym w) tt
by_verdict setup frame verdict.NshIngress walk captured w = subst (λ (x : Walk). AreCut frame x.stations) (sym w) tt

-- at every station of a walk the frame is as much cut as where it came in
pub walk_cut : (setup : Parts) (frame : Framed) (walk : Walk) → length frame.bytes ≤ frame.original → IsWalk setup frame walk → AreCut frame walk.stations
walk_cut setup frame walk captured w = by_verdict setup frame w.verdict walk captured w.walks
