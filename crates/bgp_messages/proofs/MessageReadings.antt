-- Two readings of the same bytes are one: a message, a refusal, a stream.
use Rattle.std.proofs.Common.{◌≡◌, ℕ, ◌+◌, ◌-◌, ◌/◌, ◌%◌, List, [], ◌∷◌, ◌++◌, length, get_or, take, drop, refl, sym, ap, subst, ◌∙◌, inl, inr, ◌⊎◌, arith}
use Rattle.std.specs.List.{flat_map, AllByRecursion}
use Rattle.std.proofs.lemmas.List.{take_at}
use Rattle.std.proofs.lemmas.Bool.{cases_lt}
use Rattle.bgp_messages.specs.declared.messages.Message.{Message}
use Rattle.bgp_messages.specs.declared.messages.Message.TheVariants as variants
use Rattle.bgp_messages.specs.declared.notices.Notice.{Notice}
use Rattle.bgp_messages.specs.declared.opens.Open.{Open}
use Rattle.bgp_messages.specs.declared.opens.Param.{Param}
use Rattle.bgp_messages.specs.Opens.{parameters_bytes, open_bytes, OpenFits}
use Rattle.bgp_messages.specs.Messages.{type_of, content, spelling, ContentFits, Fits, BeginsNone, Cuts}
use Rattle.bgp_messages.specs.Headers.{Marked, length_of, kind_of, OutOfRange, UnknownType, Unfit, LengthFits}
use Rattle.bgp_messages.specs.Refusals.{Told, HasLength, RefusedContent, RefusedMarker, RefusedLength, RefusedType, RefusedLeast, RefusedOpen, Refused, content_in}
use Rattle.bgp_messages.proofs.HeaderLemmas.{Shows, shows, unfit_not}
use Rattle.wire_base.proofs.SplitLemmas.{Reads, same_parts, one_split, front_split}
use Rattle.bgp_messages.proofs.ContentReadings.{one_parameters_whole, one_content_told, good_content}

-- ---- a message

one_open : (o p : Open) → OpenFits o → OpenFits p → open_bytes o ≡ open_bytes p → o ≡ p
one_open o p fo fp e =
    let as_high : o.my_as / 256 ≡ p.my_as / 256 = ap (λ (b : List ℕ). get_or b 1 0) e in
    let as_low : o.my_as % 256 ≡ p.my_as % 256 = ap (λ (b : List ℕ). get_or b 2 0) e in
    let hold_high : o.hold / 256 ≡ p.hold / 256 = ap (λ (b : List ℕ). get_or b 3 0) e in
    let hold_low : o.hold % 256 ≡ p.hold % 256 = ap (λ (b : List ℕ). get_or b 4 0) e in
    let id_a : o.id / 65536 / 256 ≡ p.id / 65536 / 256 = ap (λ (b : List ℕ). get_or b 5 0) e in
    let id_b : o.id / 65536 % 256 ≡ p.id / 65536 % 256 = ap (λ (b : List ℕ). get_or b 6 0) e in
    let id_c : o.id % 65536 / 256 ≡ p.id % 65536 / 256 = ap (λ (b : List ℕ). get_or b 7 0) e in
    let id_d : o.id % 65536 % 256 ≡ p.id % 65536 % 256 = ap (λ (b : List ℕ). get_or b 8 0) e in
    let same_as : o.my_as ≡ p.my_as = omega (arith, as_high, as_low) in
    let same_hold : o.hold ≡ p.hold = omega (arith, hold_high, hold_low) in
    let same_id : o.id ≡ p.id = omega (arith, id_a, id_b, id_c, id_d) in
    let tails : parameters_bytes o.params ≡ parameters_bytes p.params = ap (λ (b : List ℕ). drop 10 b) e in
    let same_params : o.params ≡ p.params = one_parameters_whole o.params p.params tails in
    let made : (a h i : ℕ) (ps : List Param) → Open = λ a h i ps. record { my_as = a; hold = h; id = i; params = ps } in
    let whole : made o.my_as o.hold o.id o.params ≡ made p.my_as p.hold p.id p.params = cc in
    whole

one_notice : (a b : Notice) → a.code ∷ a.subcode ∷ a.info ≡ b.code ∷ b.subcode ∷ b.info → a ≡ b
one_notice a b e =
    let codes : a.code ≡ b.code = cc in
    let subcodes : a.subcode ≡ b.subcode = cc in
    let infos : a.info ≡ b.info = cc in
    let made : (c s : ℕ) (i : List ℕ) → Notice = λ c s i. record { code = c; subcode = s; info = i } in
    let whole : made a.code a.subcode a.info ≡ made b.code b.subcode b.info = cc in
    whole

one_content : (m n : Message) → ContentFits m → ContentFits n → type_of m ≡ type_of n → content m ≡ content n → m ≡ n
one_content (variants.Open o) (variants.Open p) fm fn kind e = ap variants.Open (one_open o p fm fn e)
one_content (variants.Update a) (variants.Update b) fm fn kind e = ap variants.Update e
one_content (variants.Notification a) (variants.Notification b) fm fn kind e = ap variants.Notification (one_notice a b e)
one_content variants.KeepAlive variants.KeepAlive fm fn kind e = refl
one_content m n fm fn kind e = absurd (omega (arith, kind))

pub one_message : (m n : Message) (x y : List ℕ) → Fits m → Fits n → spelling m ++ x ≡ spelling n ++ y → (m ≡ n) × (x ≡ y)
one_message m n x y fm fn e =
    let a = shows (spelling m ++ x) m x fm refl in
    let b = shows (spelling m ++ x) n y fn e in
    let kinds : type_of m ≡ type_of n = sym a.kind ∙ b.kind in
    let sizes : length (content m) ≡ length (content n) = omega (arith, a.len, b.len) in
    let parts = same_parts (content m) (content n) x y sizes (sym a.behind ∙ b.behind) in
    (one_content m n fm.parts fn.parts kinds parts.0, parts.1)

-- ---- refused, or a message

type_known : (m : Message) → ¬ UnknownType (type_of m)
type_known (variants.Open o) (inl none) = omega (arith, none)
type_known (variants.Open o) (inr above) = omega (arith, above)
type_known (variants.Update u) (inl none) = omega (arith, none)
type_known (variants.Update u) (inr above) = omega (arith, above)
type_known (variants.Notification n) (inl none) = omega (arith, none)
type_known (variants.Notification n) (inr above) = omega (arith, above)
type_known variants.KeepAlive (inl none) = omega (arith, none)
type_known variants.KeepAlive (inr above) = omega (arith, above)

length_fits : (m : Message) → Fits m → LengthFits (type_of m) (19 + length (content m))
length_fits (variants.Open o) f = record { an_open = λ e. omega arith; an_update = λ e. absurd (omega (arith, e)); a_notification = λ e. absurd (omega (arith, e)); a_keep_alive = λ e. absurd (omega (arith, e)) }
length_fits (variants.Update u) f = record { an_open = λ e. absurd (omega (arith, e)); an_update = λ e. omega (arith, f.parts); a_notification = λ e. absurd (omega (arith, e)); a_keep_alive = λ e. absurd (omega (arith, e)) }
length_fits (variants.Notification n) f = record { an_open = λ e. absurd (omega (arith, e)); an_update = λ e. absurd (omega (arith, e)); a_notification = λ e. omega arith; a_keep_alive = λ e. absurd (omega (arith, e)) }
length_fits variants.KeepAlive f = record { an_open = λ e. absurd (omega (arith, e)); an_update = λ e. absurd (omega (arith, e)); a_notification = λ e. absurd (omega (arith, e)); a_keep_alive = λ e. omega arith }

good_message : (m : Message) (t : Told) → Fits m → type_of m ≡ 1 → RefusedContent (content m) t → ⊥
good_message (variants.Open o) t f kind row = good_content o t f.parts row
good_message (variants.Update u) t f kind row = absurd (omega (arith, kind))
good_message (variants.Notification n) t f kind row = absurd (omega (arith, kind))
good_message variants.KeepAlive t f kind row = absurd (omega (arith, kind))

content_shown : (bytes : List ℕ) (m : Message) (more : List ℕ) → Shows bytes m more → content_in (length_of bytes) bytes ≡ content m
content_shown bytes m more s =
    let size : length (content m) ≡ length_of bytes - 19 = omega (arith, s.len) in
    ap (λ (b : List ℕ). take (length_of bytes - 19) b) s.behind ∙ take_at (content m) more (length_of bytes - 19) size

never_shown : (bytes : List ℕ) (t : Told) (m : Message) (more : List ℕ) → Fits m → Shows bytes m more → Refused bytes t → ⊥
never_shown bytes t m more f s (inl row) = row.byte (s.marker t.place row.in_marker)
never_shown bytes t m more f s (inr (inl row)) =
    elim row.range [ inl low ↦ omega (arith, low, s.len) | inr high ↦ omega (arith, high, s.len, f.size) ]
never_shown bytes t m more f s (inr (inr (inl row))) = type_known m (subst UnknownType s.kind row.kind)
never_shown bytes t m more f s (inr (inr (inr (inl row)))) =
    unfit_not (type_of m) (19 + length (content m)) (length_fits m f) (subst (λ (k : ℕ). Unfit k (19 + length (content m))) s.kind (subst (λ (l : ℕ). Unfit (kind_of bytes) l) s.len row.unfit))
never_shown bytes t m more f s (inr (inr (inr (inr row)))) =
    good_message m t f (sym s.kind ∙ row.whole.type_is) (subst (λ (c : List ℕ). RefusedContent c t) (content_shown bytes m more s) row.content)

pub never_both : (bytes : List ℕ) (t : Told) → Refused bytes t → BeginsNone bytes
never_both bytes t row m more f e = never_shown bytes t m more f (shows bytes m more f e) row

-- ---- one refusal

abbrev BehindMarker : List ℕ → Told → Type 0
BehindMarker bytes t = RefusedLength bytes t ⊎ (RefusedType bytes t ⊎ (RefusedLeast bytes t ⊎ RefusedOpen bytes t))

abbrev BehindLength : List ℕ → Told → Type 0
BehindLength bytes t = RefusedType bytes t ⊎ (RefusedLeast bytes t ⊎ RefusedOpen bytes t)

abbrev BehindType : List ℕ → Told → Type 0
BehindType bytes t = RefusedLeast bytes t ⊎ RefusedOpen bytes t

marker_passed : (bytes : List ℕ) (t : Told) → BehindMarker bytes t → Marked 16 bytes
marker_passed bytes t (inl row) = row.marker
marker_passed bytes t (inr (inl row)) = row.before.marker
marker_passed bytes t (inr (inr (inl row))) = row.before.marker
marker_passed bytes t (inr (inr (inr row))) = row.whole.before.marker

length_passed : (bytes : List ℕ) (t : Told) → BehindLength bytes t → HasLength bytes
length_passed bytes t (inl row) = row.before
length_passed bytes t (inr (inl row)) = row.before
length_passed bytes t (inr (inr row)) = row.whole.before

in_range : (bytes : List ℕ) → HasLength bytes → ¬ OutOfRange (length_of bytes)
in_range bytes h (inl low) = omega (arith, low, h.least)
in_range bytes h (inr high) = omega (arith, high, h.most)

unfit_known : (kind len : ℕ) → Unfit kind len → ¬ UnknownType kind
unfit_known kind len (inl a) (inl none) = omega (arith, a.0, none)
unfit_known kind len (inl a) (inr above) = omega (arith, a.0, above)
unfit_known kind len (inr (inl a)) (inl none) = omega (arith, a.0, none)
unfit_known kind len (inr (inl a)) (inr above) = omega (arith, a.0, above)
unfit_known kind len (inr (inr (inl a))) (inl none) = omega (arith, a.0, none)
unfit_known kind len (inr (inr (inl a))) (inr above) = omega (arith, a.0, above)
unfit_known kind len (inr (inr (inr a))) (inl none) = omega (arith, a.0, none)
unfit_known kind len (inr (inr (inr a))) (inr above) = omega (arith, a.0, above)

type_passed : (bytes : List ℕ) (t : Told) → BehindType bytes t → ¬ UnknownType (kind_of bytes)
type_passed bytes t (inl row) u = unfit_known (kind_of bytes) (length_of bytes) row.unfit u
type_passed bytes t (inr row) (inl none) = omega (arith, none, row.whole.type_is)
type_passed bytes t (inr row) (inr above) = omega (arith, above, row.whole.type_is)

least_passed : (bytes : List ℕ) (t : Told) → RefusedOpen bytes t → ¬ Unfit (kind_of bytes) (length_of bytes)
least_passed bytes t row u = unfit_not 1 (length_of bytes) row.whole.fits (subst (λ (k : ℕ). Unfit k (length_of bytes)) row.whole.type_is u)

one_behind_type : (bytes : List ℕ) (s t : Told) → BehindType bytes s → BehindType bytes t → s ≡ t
one_behind_type bytes s t (inl a) (inl b) = a.told ∙ sym b.told
one_behind_type bytes s t (inl a) (inr b) = absurd (least_passed bytes t b a.unfit)
one_behind_type bytes s t (inr a) (inl b) = absurd (least_passed bytes s a b.unfit)
one_behind_type bytes s t (inr a) (inr b) = one_content_told (content_in (length_of bytes) bytes) s t a.content b.content

one_behind_length : (bytes : List ℕ) (s t : Told) → BehindLength bytes s → BehindLength bytes t → s ≡ t
one_behind_length bytes s t (inl a) (inl b) = a.told ∙ sym b.told
one_behind_length bytes s t (inl a) (inr b) = absurd (type_passed bytes t b a.kind)
one_behind_length bytes s t (inr a) (inl b) = absurd (type_passed bytes s a b.kind)
one_behind_length bytes s t (inr a) (inr b) = one_behind_type bytes s t a b

one_behind_marker : (bytes : List ℕ) (s t : Told) → BehindMarker bytes s → BehindMarker bytes t → s ≡ t
one_behind_marker bytes s t (inl a) (inl b) = a.told ∙ sym b.told
one_behind_marker bytes s t (inl a) (inr b) = absurd (in_range bytes (length_passed bytes t b) a.range)
one_behind_marker bytes s t (inr a) (inl b) = absurd (in_range bytes (length_passed bytes s a) b.range)
one_behind_marker bytes s t (inr a) (inr b) = one_behind_length bytes s t a b

one_marker : (bytes : List ℕ) (s t : Told) → RefusedMarker bytes s → RefusedMarker bytes t → s.place ≡ t.place
one_marker bytes s t a b =
    elim (cases_lt s.place t.place) [
      | inl lt ↦ absurd (a.byte (b.before s.place lt))
      | inr le ↦ elim (cases_lt t.place s.place) [
        | inl lt ↦ absurd (b.byte (a.before t.place lt))
        | inr ge ↦ omega arith
      ]
    ]

pub one_refusal : (bytes : List ℕ) (s t : Told) → Refused bytes s → Refused bytes t → s ≡ t
one_refusal bytes s t (inl a) (inl b) =
    a.told ∙ ap (λ (n : ℕ). record { code = 1; subcode = 1; place = n; info = [] }) (one_marker bytes s t a b) ∙ sym b.told
one_refusal bytes s t (inl a) (inr b) = absurd (a.byte (marker_passed bytes t b s.place a.in_marker))
one_refusal bytes s t (inr a) (inl b) = absurd (b.byte (marker_passed bytes s a t.place b.in_marker))
one_refusal bytes s t (inr a) (inr b) = one_behind_marker bytes s t a b

-- ---- one cut

messages_read : Reads spelling Fits BeginsNone
messages_read = record { same = one_message; ended = λ m r f none. none m r f refl }

pub one_cut : (stream : List ℕ) (ms ns : List Message) (x y : List ℕ) → Cuts stream ms x → Cuts stream ns y → (ms ≡ ns) × (x ≡ y)
one_cut stream ms ns x y a b = one_split spelling Fits BeginsNone messages_read ms ns x y a.each b.each a.ended b.ended (sym a.joined ∙ b.joined)

-- messages that a stream begins with are the first of its cut
pub first_of_cut : (stream : List ℕ) (ms all : List Message) (x y : List ℕ) → stream ≡ flat_map spelling ms ++ x → AllByRecursion Fits ms → Cuts stream all y → (more : List Message) × (all ≡ ms ++ more)
first_of_cut stream ms all x y e fits cut = front_split spelling Fits BeginsNone messages_read ms all x y fits cut.each cut.ended (sym e ∙ cut.joined)
