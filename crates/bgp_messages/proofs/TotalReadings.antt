-- Every list of bytes is refused, or held, or begins with a message; so every stream has a cut.
use Rattle.std.proofs.Common.{◌≡◌, ℕ, zero, suc, ◌+◌, ◌-◌, ◌*◌, ◌<◌, ◌≤◌, min, List, [], ◌∷◌, ◌++◌, length, get_or, take, drop, refl, sym, ap, subst, ◌∙◌, inl, inr, ◌⊎◌, append_assoc, arith}
use Rattle.std.specs.Prelude.{◌≢◌}
use Rattle.std.specs.List.{flat_map}
use Rattle.std.proofs.lemmas.List.{take-append-drop, length-append, length-take, length-drop, get_or-take, get_or-drop, get_or_past}
use Rattle.std.proofs.lemmas.List.Elements.{All-get_or}
use Rattle.std.proofs.lemmas.Bool.{cases_lt, cases_eq}
use Rattle.std.proofs.Math.Seq.{drop-append_seam}
use Rattle.wire_base.specs.Numbers.{AreBytes as AllBytes, big_endian}
use Rattle.bgp_messages.specs.declared.messages.Message.{Message}
use Rattle.bgp_messages.specs.declared.messages.Message.TheVariants as variants
use Rattle.bgp_messages.specs.declared.opens.Open.{Open}
use Rattle.bgp_messages.specs.declared.opens.Param.{Param}
use Rattle.bgp_messages.specs.declared.opens.Capability.{Capability}
use Rattle.bgp_messages.specs.Opens.{capability_bytes, parameters_bytes, open_bytes, OpenFits}
use Rattle.bgp_messages.specs.Messages.{spelling, Fits, Cuts}
use Rattle.bgp_messages.specs.Headers.{Marked, length_of, kind_of, Unfit, LengthFits}
use Rattle.bgp_messages.specs.Refusals.{Told, malformed, bad_version, bad_hold_time, bad_identifier, bad_parameter, not_synchronized, bad_length, bad_type, RunsPast, RefusedCapability, RefusedParameter, RefusedParameters, RefusedContent, FieldsFit, BadHold, NoIdentifier, hold_in, HasLength, IsWhole, content_in, Refused, Held}
use Rattle.bgp_messages.specs.Contents.{Reads}
use Rattle.bgp_messages.specs.MessageSteps.{Begins}
use Rattle.bgp_messages.proofs.ContentLemmas.{AreBytes, FieldsAre, open_spelled}
use Rattle.bgp_messages.proofs.HeaderLemmas.{shows, waits_held, begins_read}
use Rattle.bgp_messages.proofs.MessageReadings.{never_both}

-- ---- items

-- the bytes begin with a whole item, or with none
item_or_not : (bytes : List ℕ) → RunsPast bytes ⊎ ((code : ℕ) × (value : List ℕ) × (more : List ℕ) × (bytes ≡ code ∷ length value ∷ value ++ more))
item_or_not [] = inl (inl (omega arith))
item_or_not (code ∷ []) = inl (inl (omega arith))
item_or_not (code ∷ size ∷ rest) =
    elim (cases_lt (length rest) size) [
      | inl short ↦ inl (inr (omega (arith, short)))
      | inr there ↦
          let is_size : length (take size rest) ≡ size = omega (arith, length-take size rest, there) in
          inr (
            code,
            take size rest,
            drop size rest,
            ap (λ (n : ℕ). code ∷ n ∷ rest) (sym is_size) ∙ ap (λ (b : List ℕ). code ∷ length (take size rest) ∷ b) (sym (take-append-drop size rest)),
          )
    ]

-- ---- capabilities

abbrev CapabilitiesOrNot : ℕ → List ℕ → Type 0
CapabilitiesOrNot place value = ((cs : List Capability) × (value ≡ flat_map capability_bytes cs)) ⊎ ((t : Told) × RefusedCapability place value t)

one_capability : (place code : ℕ) (body more value : List ℕ) → value ≡ code ∷ length body ∷ body ++ more
    → CapabilitiesOrNot (place + 2 + length body) more → CapabilitiesOrNot place value
one_capability place code body more value e (inl rest) =
    inl (record { code = code; body = body } ∷ rest.0, e ∙ ap (λ (b : List ℕ). code ∷ length body ∷ body ++ b) rest.1)
one_capability place code body more value e (inr rest) =
    let row : RefusedCapability (place + 2 + length body) more rest.0 = rest.1 in
    let places : place + 2 + length body + length (flat_map capability_bytes row.good) ≡ place + length (code ∷ length body ∷ body ++ flat_map capability_bytes row.good) =
    omega (arith, length-append body (flat_map capability_bytes row.good)) in
    inr (
      rest.0,
      record {
        good = record { code = code; body = body } ∷ row.good;
        bad = row.bad;
        split = e ∙ ap (λ (b : List ℕ). code ∷ length body ∷ body ++ b) row.split ∙ ap (λ (b : List ℕ). code ∷ length body ∷ b) (sym (append_assoc body (flat_map capability_bytes row.good) row.bad));
        some = row.some;
        runs_past = row.runs_past;
        told = row.told ∙ ap (λ (n : ℕ). malformed n) places;
      },
    )

past_capability : (place : ℕ) (value : List ℕ) → 0 < length value → RunsPast value → CapabilitiesOrNot place value
past_capability place value some past =
    inr (malformed (place + 0), record { good = []; bad = value; split = refl; some = some; runs_past = past; told = refl })

capabilities_or_not : (n place : ℕ) (value : List ℕ) → length value < n → CapabilitiesOrNot place value
capabilities_or_not zero place value less = absurd (omega (arith, less))
capabilities_or_not (suc n) place [] less = inl ([], refl)
capabilities_or_not (suc n) place (b ∷ bytes) less =
    elim (item_or_not (b ∷ bytes)) [
      | inl past ↦ past_capability place (b ∷ bytes) (omega arith) past
      | inr item ↦
          let shorter : length item.2 < n = omega (arith, less, ap length item.3, length-append item.1 item.2) in
          one_capability place item.0 item.1 item.2 (b ∷ bytes) item.3 (capabilities_or_not n (place + 2 + length item.1) item.2 shorter)
    ]

-- ---- parameters

abbrev ParametersOrNot : ℕ → List ℕ → Type 0
ParametersOrNot place bytes = ((ps : List Param) × (bytes ≡ parameters_bytes ps)) ⊎ ((t : Told) × RefusedParameters place bytes t)

first_refused : (place : ℕ) (bytes : List ℕ) (t : Told) → RefusedParameter (place + 0) bytes t → ParametersOrNot place bytes
first_refused place bytes t row = inr (t, record { good = []; bad = bytes; split = refl; first = row })

one_parameter : (place : ℕ) (caps : List Capability) (more bytes : List ℕ) → bytes ≡ 2 ∷ length (flat_map capability_bytes caps) ∷ flat_map capability_bytes caps ++ more
    → ParametersOrNot (place + 2 + length (flat_map capability_bytes caps)) more → ParametersOrNot place bytes
one_parameter place caps more bytes e (inl rest) =
    inl (record { caps = caps } ∷ rest.0, e ∙ ap (λ (b : List ℕ). 2 ∷ length (flat_map capability_bytes caps) ∷ flat_map capability_bytes caps ++ b) rest.1)
one_parameter place caps more bytes e (inr rest) =
    let value : List ℕ = flat_map capability_bytes caps in
    let row : RefusedParameters (place + 2 + length value) more rest.0 = rest.1 in
    let places : place + 2 + length value + length (parameters_bytes row.good) ≡ place + length (2 ∷ length value ∷ value ++ parameters_bytes row.good) =
    omega (arith, length-append value (parameters_bytes row.good)) in
    inr (
      rest.0,
      record {
        good = record { caps = caps } ∷ row.good;
        bad = row.bad;
        split = e ∙ ap (λ (b : List ℕ). 2 ∷ length value ∷ value ++ b) row.split ∙ ap (λ (b : List ℕ). 2 ∷ length value ∷ b) (sym (append_assoc value (parameters_bytes row.good) row.bad));
        first = subst (λ (n : ℕ). RefusedParameter n row.bad rest.0) places row.first;
      },
    )

-- a whole parameter of type 2, and what follows it
typed_parameter : (place : ℕ) (value more bytes : List ℕ) → bytes ≡ 2 ∷ length value ∷ value ++ more
    → ((p : ℕ) → ParametersOrNot p more) → ParametersOrNot place bytes
typed_parameter place value more bytes e rest =
    elim (capabilities_or_not (suc (length value)) (place + 0 + 2) value (omega arith)) [
      | inl caps ↦
          let parts : bytes ≡ 2 ∷ length (flat_map capability_bytes caps.0) ∷ flat_map capability_bytes caps.0 ++ more =
          subst (λ (v : List ℕ). bytes ≡ 2 ∷ length v ∷ v ++ more) caps.1 e in
          one_parameter place caps.0 more bytes parts (rest (place + 2 + length (flat_map capability_bytes caps.0)))
      | inr bad ↦ first_refused place bytes bad.0 (inr (inr (record { value = value; more = more; whole = e; capability = bad.1 })))
    ]

whole_parameter : (place kind : ℕ) (value more bytes : List ℕ) → bytes ≡ kind ∷ length value ∷ value ++ more
    → ((p : ℕ) → ParametersOrNot p more) → ParametersOrNot place bytes
whole_parameter place kind value more bytes e rest =
    elim (cases_eq kind 2) [
      | inl two_is ↦ typed_parameter place value more bytes (subst (λ (k : ℕ). bytes ≡ k ∷ length value ∷ value ++ more) two_is e) rest
      | inr other ↦ first_refused place bytes (bad_parameter (place + 0)) (inr (inl (record { kind = kind; value = value; more = more; whole = e; other = other; told = refl })))
    ]

parameters_or_not : (n place : ℕ) (bytes : List ℕ) → length bytes < n → ParametersOrNot place bytes
parameters_or_not zero place bytes less = absurd (omega (arith, less))
parameters_or_not (suc n) place [] less = inl ([], refl)
parameters_or_not (suc n) place (b ∷ bytes) less =
    elim (item_or_not (b ∷ bytes)) [
      | inl past ↦ first_refused place (b ∷ bytes) (malformed (place + 0)) (inl (record { some = omega arith; runs_past = past; told = refl }))
      | inr item ↦
          let shorter : length item.2 < n = omega (arith, less, ap length item.3, length-append item.1 item.2) in
          whole_parameter place item.0 item.1 item.2 (b ∷ bytes) item.3 (λ p. parameters_or_not n p item.2 shorter)
    ]

-- ---- an OPEN's content

bad_hold_or_not : (hold : ℕ) → BadHold hold ⊎ (¬ BadHold hold)
bad_hold_or_not hold =
    elim (cases_eq hold 1) [
      | inl one ↦ inl (inl one)
      | inr not_one ↦ elim (cases_eq hold 2) [
        | inl two ↦ inl (inr two)
        | inr not_two ↦ inr (λ bad. elim bad [ inl one ↦ not_one one | inr two ↦ not_two two ])
      ]
    ]

identifier_or_not : (bytes : List ℕ) → NoIdentifier bytes ⊎ (¬ NoIdentifier bytes)
identifier_or_not bytes =
    elim (cases_eq (get_or bytes 5 0) 0) [
      | inr some ↦ inr (λ none. some none.first)
      | inl first ↦ elim (cases_eq (get_or bytes 6 0) 0) [
        | inr some ↦ inr (λ none. some none.second)
        | inl second ↦ elim (cases_eq (get_or bytes 7 0) 0) [
          | inr some ↦ inr (λ none. some none.third)
          | inl third ↦ elim (cases_eq (get_or bytes 8 0) 0) [
            | inr some ↦ inr (λ none. some none.fourth)
            | inl fourth ↦ inl (record { first = first; second = second; third = third; fourth = fourth })
          ]
        ]
      ]
    ]

identifier_cells : (bytes : List ℕ) → 10 ≤ length bytes
    → big_endian (take 4 (drop 5 bytes)) ≡ get_or bytes 5 0 * 16777216 + (get_or bytes 6 0 * 65536 + (get_or bytes 7 0 * 256 + get_or bytes 8 0))
identifier_cells (v ∷ a ∷ b ∷ h ∷ k ∷ i ∷ j ∷ l ∷ m ∷ n ∷ rest) there = omega arith
identifier_cells _ there = absurd (omega (arith, there))

-- fields that fit and parameters that were read are an OPEN
open_read : (bytes : List ℕ) (ps : List Param) → AreBytes bytes → 10 ≤ length bytes → FieldsFit bytes → get_or bytes 9 0 ≡ length (drop 10 bytes)
    → drop 10 bytes ≡ parameters_bytes ps → (o : Open) × (bytes ≡ open_bytes o) × OpenFits o
open_read bytes ps fits there before size params =
    let o : Open = record { my_as = 256 * get_or bytes 1 0 + get_or bytes 2 0; hold = 256 * get_or bytes 3 0 + get_or bytes 4 0; id = big_endian (take 4 (drop 5 bytes)); params = ps } in
    let fields : FieldsAre bytes o = record { there = there; version = before.version; my_as = refl; hold = refl; id = refl; size = size; params = params } in
    let cells = identifier_cells bytes there in
    let some : 0 < big_endian (take 4 (drop 5 bytes)) =
    elim (cases_lt 0 (big_endian (take 4 (drop 5 bytes)))) [
      | inl some ↦ some
      | inr none ↦ absurd (before.id (record { first = omega (arith, cells, none); second = omega (arith, cells, none); third = omega (arith, cells, none); fourth = omega (arith, cells, none) }))
    ] in (
      o,
      open_spelled bytes o fits fields,
      record {
        my_as = omega (arith, fits.each 1, fits.each 2);
        hold = omega (arith, fits.each 3, fits.each 4);
        not_one = λ one. before.hold (inl one);
        not_two = λ two. before.hold (inr two);
        id = omega (arith, cells, fits.each 5, fits.each 6, fits.each 7, fits.each 8);
        some_id = some;
        size = omega (arith, ap length params, size, fits.each 9);
      },
    )

abbrev OpenOrNot : List ℕ → Type 0
OpenOrNot bytes = ((o : Open) × (bytes ≡ open_bytes o) × OpenFits o) ⊎ ((t : Told) × RefusedContent bytes t)

sized_or_not : (bytes : List ℕ) → AreBytes bytes → 10 ≤ length bytes → FieldsFit bytes → OpenOrNot bytes
sized_or_not bytes fits there before =
    elim (cases_eq (get_or bytes 9 0) (length (drop 10 bytes))) [
      | inr other ↦ inr (malformed 28, inr (inr (inr (inl (record { before = before; size = other; told = refl })))))
      | inl size ↦ elim (parameters_or_not (suc (length (drop 10 bytes))) 29 (drop 10 bytes) (omega arith)) [
        | inl params ↦ inl (open_read bytes params.0 fits there before size params.1)
        | inr bad ↦ inr (bad.0, inr (inr (inr (inr (record { before = before; size = size; parameters = bad.1 })))))
      ]
    ]

open_or_not : (bytes : List ℕ) → AreBytes bytes → 10 ≤ length bytes → OpenOrNot bytes
open_or_not bytes fits there =
    elim (cases_eq (get_or bytes 0 0) 4) [
      | inr other ↦ inr (bad_version, inl (record { version = other; told = refl }))
      | inl version ↦ elim (bad_hold_or_not (hold_in bytes)) [
        | inl bad ↦ inr (bad_hold_time, inr (inl (record { version = version; hold = bad; told = refl })))
        | inr hold ↦ elim (identifier_or_not bytes) [
          | inl none ↦ inr (bad_identifier, inr (inr (inl (record { version = version; hold = hold; id = none; told = refl }))))
          | inr id ↦ sized_or_not bytes fits there (record { version = version; hold = hold; id = id })
        ]
      ]
    ]

-- ---- a content

abbrev ContentOrNot : ℕ → List ℕ → Type 0
ContentOrNot kind bytes = ((m : Message) × Reads kind bytes m) ⊎ ((kind ≡ 1) × (t : Told) × RefusedContent bytes t)

notification_read : (kind : ℕ) (bytes : List ℕ) → kind ≡ 3 → 2 ≤ length bytes → ContentOrNot kind bytes
notification_read kind (code ∷ subcode ∷ info) three there =
    inl (variants.Notification (record { code = code; subcode = subcode; info = info }), record { type_is = three; spelled = refl; fits = tt })
notification_read kind _ three there = absurd (omega (arith, there))

keep_alive_read : (kind : ℕ) (bytes : List ℕ) → kind ≡ 4 → length bytes ≡ 0 → ContentOrNot kind bytes
keep_alive_read kind [] four none = inl (variants.KeepAlive, record { type_is = four; spelled = refl; fits = tt })
keep_alive_read kind (b ∷ bytes) four none = absurd (omega (arith, none))

open_content : (kind : ℕ) (bytes : List ℕ) → kind ≡ 1 → OpenOrNot bytes → ContentOrNot kind bytes
open_content kind bytes one (inl o) = inl (variants.Open o.0, record { type_is = one; spelled = o.1; fits = o.2 })
open_content kind bytes one (inr bad) = inr (one, bad.0, bad.1)

content_or_not : (kind : ℕ) (bytes : List ℕ) → AreBytes bytes → 0 < kind → kind ≤ 4 → LengthFits kind (19 + length bytes) → ContentOrNot kind bytes
content_or_not kind bytes fits some most len =
    elim (cases_eq kind 1) [
      | inl one ↦ open_content kind bytes one (open_or_not bytes fits (omega (arith, len.an_open one)))
      | inr not_one ↦ elim (cases_eq kind 2) [
        | inl two ↦ inl (variants.Update bytes, record { type_is = two; spelled = refl; fits = omega (arith, len.an_update two) })
        | inr not_two ↦ elim (cases_eq kind 3) [
          | inl three ↦ notification_read kind bytes three (omega (arith, len.a_notification three))
          | inr not_three ↦
              let four : kind ≡ 4 = omega (arith, some, most, not_one, not_two, not_three) in
              keep_alive_read kind bytes four (omega (arith, len.a_keep_alive four))
        ]
      ]
    ]

-- ---- a header

fits_or_not : (kind len : ℕ) → LengthFits kind len ⊎ Unfit kind len
fits_or_not kind len =
    elim (cases_eq kind 1) [
      | inl one ↦ elim (cases_lt len 29) [
        | inl short ↦ inr (inl (one, short))
        | inr there ↦ inl (record { an_open = λ e. there; an_update = λ e. absurd (omega (arith, one, e)); a_notification = λ e. absurd (omega (arith, one, e)); a_keep_alive = λ e. absurd (omega (arith, one, e)) })
      ]
      | inr not_one ↦ elim (cases_eq kind 2) [
        | inl two ↦ elim (cases_lt len 23) [
          | inl short ↦ inr (inr (inl (two, short)))
          | inr there ↦ inl (record { an_open = λ e. absurd (omega (arith, two, e)); an_update = λ e. there; a_notification = λ e. absurd (omega (arith, two, e)); a_keep_alive = λ e. absurd (omega (arith, two, e)) })
        ]
        | inr not_two ↦ elim (cases_eq kind 3) [
          | inl three ↦ elim (cases_lt len 21) [
            | inl short ↦ inr (inr (inr (inl (three, short))))
            | inr there ↦ inl (record { an_open = λ e. absurd (omega (arith, three, e)); an_update = λ e. absurd (omega (arith, three, e)); a_notification = λ e. there; a_keep_alive = λ e. absurd (omega (arith, three, e)) })
          ]
          | inr not_three ↦ elim (cases_eq len 19) [
            | inl exact ↦ inl (record { an_open = λ e. absurd (not_one e); an_update = λ e. absurd (not_two e); a_notification = λ e. absurd (not_three e); a_keep_alive = λ e. exact })
            | inr other ↦ elim (cases_eq kind 4) [
              | inl four ↦ inr (inr (inr (inr (four, other))))
              | inr not_four ↦ inl (record { an_open = λ e. absurd (not_one e); an_update = λ e. absurd (not_two e); a_notification = λ e. absurd (not_three e); a_keep_alive = λ e. absurd (not_four e) })
            ]
          ]
        ]
      ]
    ]

-- the first n bytes are marked, or one of them is the first that is not
marked_or_not : (n : ℕ) (bytes : List ℕ) → Marked n bytes ⊎ ((k : ℕ) × (k < n) × Marked k bytes × (get_or bytes k 0 ≢ 255))
marked_or_not zero bytes = inl (λ k lt. absurd (omega (arith, lt)))
marked_or_not (suc n) bytes =
    elim (marked_or_not n bytes) [
      | inr found ↦ inr (found.0, omega (arith, found.1), found.2, found.3)
      | inl before ↦ elim (cases_eq (get_or bytes n 0) 255) [
        | inr other ↦ inr (n, omega arith, before, other)
        | inl mark ↦ inl (λ k lt. elim (cases_lt k n) [ inl earlier ↦ before k earlier | inr last ↦ ap (λ (i : ℕ). get_or bytes i 0) (omega (arith, lt, last)) ∙ mark ])
      ]
    ]

-- ---- a stream

abbrev OneOfThree : List ℕ → Type 0
OneOfThree bytes = ((t : Told) × Refused bytes t) ⊎ (Held bytes ⊎ ((m : Message) × (more : List ℕ) × Fits m × (bytes ≡ spelling m ++ more)))

begins_so : (bytes : List ℕ) (m : Message) (len : ℕ) → Begins bytes m len → OneOfThree bytes
begins_so bytes m len b =
    inr (inr (m, drop len bytes, b.message.fits, sym (take-append-drop len bytes) ∙ ap (λ (t : List ℕ). t ++ drop len bytes) b.message.spelled))

bytes_inside : (len : ℕ) (bytes : List ℕ) → AreBytes bytes → AreBytes (content_in len bytes)
bytes_inside len bytes fits = record {
  each = λ i. elim (cases_lt i (len - 19)) [
    | inl inside ↦ omega (arith, get_or-take (len - 19) (drop 19 bytes) i 0 inside, get_or-drop 19 bytes i 0, fits.each (19 + i))
    | inr past ↦ omega (arith, get_or_past (content_in len bytes) i 0 (omega (arith, length-take (len - 19) (drop 19 bytes), past)))
  ];
}

whole_or_not : (bytes : List ℕ) → AreBytes bytes → IsWhole bytes (kind_of bytes) (length_of bytes) → OneOfThree bytes
whole_or_not bytes fits w =
    let inside : List ℕ = content_in (length_of bytes) bytes in
    let size : length_of bytes ≡ 19 + length inside = omega (arith, length-take (length_of bytes - 19) (drop 19 bytes), length-drop 19 bytes, w.there, w.before.least) in
    elim (content_or_not (kind_of bytes) inside (bytes_inside (length_of bytes) bytes fits) w.known.0 w.known.1 (subst (λ (l : ℕ). LengthFits (kind_of bytes) l) size w.fits)) [
      | inl read ↦ begins_so bytes read.0 (length_of bytes) (begins_read bytes (kind_of bytes) (length_of bytes) read.0 fits w read.1)
      | inr bad ↦ inl (bad.1, inr (inr (inr (inr (record { whole = subst (λ (k : ℕ). IsWhole bytes k (length_of bytes)) bad.0 w; content = bad.2 })))))
    ]

fitting_or_not : (bytes : List ℕ) → AreBytes bytes → HasLength bytes → 0 < kind_of bytes → kind_of bytes ≤ 4 → OneOfThree bytes
fitting_or_not bytes fits h some most =
    elim (fits_or_not (kind_of bytes) (length_of bytes)) [
      | inr unfit ↦ inl (bad_length (get_or bytes 16 0) (get_or bytes 17 0), inr (inr (inr (inl (record { before = h; unfit = unfit; told = refl })))))
      | inl fit ↦ elim (cases_lt (length bytes) (length_of bytes)) [
        | inl short ↦ inr (inl (waits_held bytes (record {
          marker = λ k lt. h.marker k (omega (arith, lt));
          least = λ e. h.least;
          most = λ e. h.most;
          known = λ e. (some, most);
          fits = λ e. fit;
          unfinished = λ e. short;
        })))
        | inr there ↦ whole_or_not bytes fits (record { before = h; type_is = refl; known = (some, most); len_is = refl; fits = fit; there = there })
      ]
    ]

known_or_not : (bytes : List ℕ) → AreBytes bytes → HasLength bytes → OneOfThree bytes
known_or_not bytes fits h =
    elim (cases_eq (kind_of bytes) 0) [
      | inl none ↦ inl (bad_type (kind_of bytes), inr (inr (inl (record { before = h; kind = inl none; told = refl }))))
      | inr some ↦ elim (cases_lt 4 (kind_of bytes)) [
        | inl above ↦ inl (bad_type (kind_of bytes), inr (inr (inl (record { before = h; kind = inr above; told = refl }))))
        | inr most ↦ fitting_or_not bytes fits h (omega (arith, some)) most
      ]
    ]

in_range_or_not : (bytes : List ℕ) → AreBytes bytes → Marked 16 bytes → 18 ≤ length bytes → OneOfThree bytes
in_range_or_not bytes fits marker there =
    elim (cases_lt (length_of bytes) 19) [
      | inl low ↦ inl (bad_length (get_or bytes 16 0) (get_or bytes 17 0), inr (inl (record { marker = marker; there = there; range = inl low; told = refl })))
      | inr least ↦ elim (cases_lt 4096 (length_of bytes)) [
        | inl high ↦ inl (bad_length (get_or bytes 16 0) (get_or bytes 17 0), inr (inl (record { marker = marker; there = there; range = inr high; told = refl })))
        | inr most ↦ elim (cases_lt (length bytes) 19) [
          | inl short ↦ inr (inl (waits_held bytes (record {
            marker = λ k lt. marker k (omega (arith, lt));
            least = λ e. least;
            most = λ e. most;
            known = λ e. absurd (omega (arith, e, short));
            fits = λ e. absurd (omega (arith, e, short));
            unfinished = λ e. absurd (omega (arith, e, short));
          })))
          | inr typed ↦ known_or_not bytes fits (record { marker = marker; there = typed; least = least; most = most })
        ]
      ]
    ]

of_three : (bytes : List ℕ) → AreBytes bytes → OneOfThree bytes
of_three bytes fits =
    elim (marked_or_not (min 16 (length bytes)) bytes) [
      | inr found ↦ inl (not_synchronized found.0, inl (record { in_marker = omega (arith, found.1); there = omega (arith, found.1); before = found.2; byte = found.3; told = refl }))
      | inl marker ↦ elim (cases_lt (length bytes) 18) [
        | inl short ↦ inr (inl (waits_held bytes (record {
          marker = marker;
          least = λ e. absurd (omega (arith, e, short));
          most = λ e. absurd (omega (arith, e, short));
          known = λ e. absurd (omega (arith, e, short));
          fits = λ e. absurd (omega (arith, e, short));
          unfinished = λ e. absurd (omega (arith, e, short));
        })))
        | inr there ↦ in_range_or_not bytes fits (λ k lt. marker k (omega (arith, lt, there))) there
      ]
    ]

each_byte : (bytes : List ℕ) → AllBytes bytes → AreBytes bytes
each_byte bytes all = record {
  each = λ i. elim (cases_lt i (length bytes)) [
    | inl there ↦ All-get_or (λ b. b < 256) bytes i 0 there all
    | inr past ↦ omega (arith, get_or_past bytes i 0 past)
  ];
}

-- bytes are refused, held, or begin with a message
pub one_of_three : (bytes : List ℕ) → AllBytes bytes → OneOfThree bytes
one_of_three bytes all = of_three bytes (each_byte bytes all)

bytes_behind : (front more bytes : List ℕ) → bytes ≡ front ++ more → AreBytes bytes → AreBytes more
bytes_behind front more bytes e fits =
    let dropped : drop (length front) bytes ≡ more = ap (λ (b : List ℕ). drop (length front) b) e ∙ drop-append_seam front more in
    record { each = λ i. omega (arith, ap (λ (b : List ℕ). get_or b i 0) dropped, get_or-drop (length front) bytes i 0, fits.each (length front + i)) }

abbrev HasCut : List ℕ → Type 0
HasCut stream = (ms : List Message) × (rest : List ℕ) × Cuts stream ms rest

one_message_more : (m : Message) (more stream : List ℕ) → Fits m → stream ≡ spelling m ++ more → HasCut more → HasCut stream
one_message_more m more stream fits e rest =
    let cut : Cuts more rest.0 rest.1 = rest.2 in (
      m ∷ rest.0,
      rest.1,
      record {
        joined = e ∙ ap (λ (b : List ℕ). spelling m ++ b) cut.joined ∙ sym (append_assoc (spelling m) (flat_map spelling rest.0) rest.1);
        each = (fits, cut.each);
        ended = cut.ended;
      },
    )

cut_within : (n : ℕ) (stream : List ℕ) → AreBytes stream → length stream < n → HasCut stream
cut_within zero stream fits less = absurd (omega (arith, less))
cut_within (suc n) stream fits less =
    elim (of_three stream fits) [
      | inl row ↦ ([], stream, record { joined = refl; each = tt; ended = never_both stream row.0 row.1 })
      | inr accepted ↦ elim accepted [
        | inl held ↦ ([], stream, record { joined = refl; each = tt; ended = held.unfinished })
        | inr begins ↦
            let whole = (shows stream begins.0 begins.1 begins.2 begins.3).whole in
            one_message_more begins.0 begins.1 stream begins.2 begins.3 (cut_within n begins.1 (bytes_behind (spelling begins.0) begins.1 stream begins.3 fits) (omega (arith, less, whole)))
      ]
    ]

-- every stream is cut
pub some_cut : (stream : List ℕ) → AllBytes stream → HasCut stream
some_cut stream all = cut_within (suc (length stream)) stream (each_byte stream all) (omega arith)
