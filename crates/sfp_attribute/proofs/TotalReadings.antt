-- Every list of bytes is the value of an attribute, or it is refused.
use Rattle.std.proofs.Common.{◌≡◌, ◌≢◌, ℕ, zero, suc, ◌+◌, ◌-◌, ◌*◌, ◌%◌, ◌^◌, ◌<◌, ◌≤◌, List, [], ◌∷◌, ◌++◌, length, get_or, take, drop, refl, sym, ap, subst, ◌∙◌, inl, inr, ◌⊎◌, arith}
use Rattle.std.specs.List.{flat_map}
use Rattle.std.proofs.lemmas.List.{take-append-drop, append-nil, length-take, length-drop, get_or-take, get_or-drop, get_or_past}
use Rattle.std.proofs.lemmas.List.Elements.{All-get_or}
use Rattle.std.proofs.lemmas.Bool.{cases_lt, cases_eq}
use Rattle.wire_base.specs.Numbers.{AreBytes, big_endian, two}
use Rattle.sfp_attribute.specs.declared.faults.SfpFault.{SfpFault}
use Rattle.sfp_attribute.specs.declared.faults.SfpFault.TheVariants as faults
use Rattle.sfp_attribute.specs.declared.levels.Level.{Level}
use Rattle.sfp_attribute.specs.declared.levels.Level.TheVariants as levels
use Rattle.sfp_attribute.specs.declared.sfps.HopPart.{HopPart}
use Rattle.sfp_attribute.specs.declared.sfps.HopPart.TheVariants as hop_part
use Rattle.sfp_attribute.specs.declared.sfps.Part.{Part}
use Rattle.sfp_attribute.specs.declared.sfps.Part.TheVariants as part
use Rattle.sfp_attribute.specs.declared.sfps.Sfp.{Sfp}
use Rattle.sfp_attribute.specs.Sfps.{piece_bytes, hop_parts_bytes, HopPartsFit, parts_bytes, si_of, IsSfp}
use Rattle.sfp_attribute.specs.Refusals.{size_in, IsMpls, IsStray, WrongSize, RefusedHead, Splits, LowType, RefusedHopParts, RisesTo, RefusedInside, last_of, Refused}
use Rattle.sfp_attribute.specs.Steps.{Allows, ReadsRds, ReadsHopPart, ReadsHopParts, ReadsPart}
use Rattle.sfp_attribute.proofs.CellLemmas.{Small, front_two, cut_spelled, association_spelled, first_spelled}
use Rattle.sfp_attribute.proofs.StepLemmas.{hop_step, hop_refused, ReadSoFar, part_step, part_refused, no_hop}

-- ---- bytes

small_take : (n : ℕ) (bytes : List ℕ) → Small bytes → Small (take n bytes)
small_take n bytes small i =
    elim (cases_lt i n) [
      | inl there ↦ omega (arith, get_or-take n bytes i 0 there, small i)
      | inr past ↦ omega (arith, get_or_past (take n bytes) i 0 (omega (arith, length-take n bytes, past)))
    ]

small_drop : (n : ℕ) (bytes : List ℕ) → Small bytes → Small (drop n bytes)
small_drop n bytes small i = omega (arith, get_or-drop n bytes i 0, small (n + i))

each_small : (bytes : List ℕ) → AreBytes bytes → Small bytes
each_small bytes all i =
    elim (cases_lt i (length bytes)) [
      | inl there ↦ All-get_or (λ b. b < 256) bytes i 0 there all
      | inr past ↦ omega (arith, get_or_past bytes i 0 past)
    ]

-- ---- what stands before a value

mpls_or_not : (kind : ℕ) → IsMpls kind ⊎ (¬ IsMpls kind)
mpls_or_not kind =
    elim (cases_eq kind 4) [
      | inl is ↦ inl (inl is)
      | inr not_four ↦ elim (cases_eq kind 5) [
        | inl is ↦ inl (inr is)
        | inr not_five ↦ inr (λ is. elim is [ inl e ↦ not_four e | inr e ↦ not_five e ])
      ]
    ]

stray_or_not : (level : Level) (kind : ℕ) → IsStray level kind ⊎ (¬ IsStray level kind)
stray_or_not levels.Top kind =
    elim (cases_eq kind 0) [
      | inl is ↦ inl (inl is)
      | inr not_zero ↦ elim (cases_eq kind 3) [
        | inl is ↦ inl (inr is)
        | inr not_three ↦ inr (λ is. elim is [ inl e ↦ not_zero e | inr e ↦ not_three e ])
      ]
    ]
stray_or_not levels.InHop kind =
    elim (cases_eq kind 0) [
      | inl is ↦ inl (inl is)
      | inr not_zero ↦ elim (cases_eq kind 1) [
        | inl is ↦ inl (inr (inl is))
        | inr not_one ↦ elim (cases_eq kind 2) [
          | inl is ↦ inl (inr (inr is))
          | inr not_two ↦ inr (λ is. elim is [ inl e ↦ not_zero e | inr later ↦ elim later [ inl e ↦ not_one e | inr e ↦ not_two e ] ])
        ]
      ]
    ]

top_size_or_not : (kind size : ℕ) → WrongSize levels.Top kind size ⊎ (¬ WrongSize levels.Top kind size)
top_size_or_not kind size =
    elim (cases_eq kind 1) [
      | inl one ↦ elim (cases_eq size 12) [
        | inl is ↦ inr (λ wrong. elim wrong [ inl w ↦ w.1 is | inr w ↦ omega (arith, one, w.0) ])
        | inr other ↦ inl (inl (one, other))
      ]
      | inr not_one ↦ elim (cases_eq kind 2) [
        | inl is_two ↦ elim (cases_lt size 1) [
          | inl none ↦ inl (inr (is_two, none))
          | inr some ↦ inr (λ wrong. elim wrong [ inl w ↦ not_one w.0 | inr w ↦ omega (arith, some, w.1) ])
        ]
        | inr not_two ↦ inr (λ wrong. elim wrong [ inl w ↦ not_one w.0 | inr w ↦ not_two w.0 ])
      ]
    ]

hop_size_or_not : (kind size : ℕ) → WrongSize levels.InHop kind size ⊎ (¬ WrongSize levels.InHop kind size)
hop_size_or_not kind size =
    elim (cases_eq kind 3) [
      | inl is ↦ elim (cases_eq (size % 8) 2) [
        | inl right ↦ inr (λ wrong. wrong.1 right)
        | inr other ↦ inl (is, other)
      ]
      | inr not_three ↦ inr (λ wrong. not_three wrong.0)
    ]

size_or_not : (level : Level) (kind size : ℕ) → WrongSize level kind size ⊎ (¬ WrongSize level kind size)
size_or_not levels.Top kind size = top_size_or_not kind size
size_or_not levels.InHop kind size = hop_size_or_not kind size

-- a part that may stand here is at the front of the bytes
record Cut (level : Level) (bytes : List ℕ) : Type 0 where
  kind : ℕ
  value : List ℕ
  more : List ℕ
  parts : bytes ≡ piece_bytes kind value ++ more
  allowed : Allows level kind value
  small_kind : kind < 256
  small_value : Small value
  small_more : Small more
  shorter : length more < length bytes

abbrev HeadOrNot : Level → ℕ → List ℕ → Type 0
HeadOrNot level start bytes = ((fault : SfpFault) × RefusedHead level start bytes fault) ⊎ Cut level bytes

cut_here : (level : Level) (bytes : List ℕ) → Small bytes → 3 ≤ length bytes → 3 + size_in bytes ≤ length bytes → ¬ IsMpls (get_or bytes 0 0) → ¬ IsStray level (get_or bytes 0 0)
    → ¬ WrongSize level (get_or bytes 0 0) (size_in bytes) → Cut level bytes
cut_here level bytes small there room no_mpls in_place right =
    let value : List ℕ = take (size_in bytes) (drop 3 bytes) in
    let more : List ℕ = drop (size_in bytes) (drop 3 bytes) in
    let size : length value ≡ size_in bytes = omega (arith, length-take (size_in bytes) (drop 3 bytes), length-drop 3 bytes, room) in
    let whole : Splits bytes (get_or bytes 0 0) value more = cut_spelled bytes value more small there size (sym (take-append-drop (size_in bytes) (drop 3 bytes))) in
    record {
      kind = get_or bytes 0 0;
      value = value;
      more = more;
      parts = whole.parts;
      allowed = record { no_mpls = no_mpls; in_place = in_place; right = subst (λ (n : ℕ). ¬ WrongSize level (get_or bytes 0 0) n) (sym size) right; size = whole.size };
      small_kind = small 0;
      small_value = small_take (size_in bytes) (drop 3 bytes) (small_drop 3 bytes small);
      small_more = small_drop (size_in bytes) (drop 3 bytes) (small_drop 3 bytes small);
      shorter = omega (arith, length-drop (size_in bytes) (drop 3 bytes), length-drop 3 bytes, there);
    }

head_or_not : (level : Level) (start : ℕ) (bytes : List ℕ) → Small bytes → HeadOrNot level start bytes
head_or_not level start bytes small =
    elim (cases_lt (length bytes) 3) [
      | inl short ↦ inl (faults.Short start, inl (short, refl))
      | inr there ↦
          let not_short : ¬ (length bytes < 3) = λ short. omega (arith, short, there) in
          elim (mpls_or_not (get_or bytes 0 0)) [
            | inl mpls ↦ inl (faults.Mpls (get_or bytes 0 0), inr (not_short, inl (mpls, refl)))
            | inr no_mpls ↦ elim (stray_or_not level (get_or bytes 0 0)) [
              | inl stray ↦ inl (faults.Kind (get_or bytes 0 0), inr (not_short, inr (no_mpls, inl (stray, refl))))
              | inr in_place ↦ elim (cases_lt (length bytes) (3 + size_in bytes)) [
                | inl past ↦ inl (faults.Length start, inr (not_short, inr (no_mpls, inr (in_place, (inl past, refl)))))
                | inr room ↦ elim (size_or_not level (get_or bytes 0 0) (size_in bytes)) [
                  | inl wrong ↦ inl (faults.Length start, inr (not_short, inr (no_mpls, inr (in_place, (inr wrong, refl)))))
                  | inr right ↦ inr (cut_here level bytes small there room no_mpls in_place right)
                ]
              ]
            ]
          ]
    ]

-- ---- the parts of a hop

rds_of : (n : ℕ) (bytes : List ℕ) → length bytes < n → length bytes % 8 ≡ 0 → (rds : List (List ℕ)) × ReadsRds bytes rds
rds_of zero bytes less whole = absurd (omega (arith, less))
rds_of (suc n) [] less whole = ([], record { spelled = refl; fit = tt })
rds_of (suc n) (b ∷ bytes) less whole =
    let there : 8 ≤ length (b ∷ bytes) = omega (arith, whole) in
    let rest = rds_of n (drop 8 (b ∷ bytes)) (omega (arith, length-drop 8 (b ∷ bytes), less)) (omega (arith, length-drop 8 (b ∷ bytes), whole, there)) in
    let reads : ReadsRds (drop 8 (b ∷ bytes)) rest.0 = rest.1 in (
      take 8 (b ∷ bytes) ∷ rest.0,
      record {
        spelled = sym (take-append-drop 8 (b ∷ bytes)) ∙ ap (λ (l : List ℕ). take 8 (b ∷ bytes) ++ l) reads.spelled;
        fit = (omega (arith, length-take 8 (b ∷ bytes), there), reads.fit);
      },
    )

abbrev HopPartOrNot : ℕ → List ℕ → Type 0
HopPartOrNot kind value = ((fault : SfpFault) × (kind ≡ 3) × LowType value fault) ⊎ ((p : HopPart) × ReadsHopPart kind value p)

sft_or_not : (kind : ℕ) (value : List ℕ) → Small value → kind ≡ 3 → length value % 8 ≡ 2 → length value < 2 ^ 16 → HopPartOrNot kind value
sft_or_not kind value small is right size =
    let sft : ℕ = 256 * get_or value 0 0 + get_or value 1 0 in
    let spelled : value ≡ two sft ++ drop 2 value = front_two value sft small (omega (arith, right)) refl in
    let whole : length (drop 2 value) % 8 ≡ 0 = omega (arith, length-drop 2 value, right) in
    elim (cases_lt sft 32) [
      | inl low ↦ inl (faults.SfType sft, is, record { kind = sft; rds = drop 2 value; spelled = spelled; whole = whole; low = low; told = refl })
      | inr high ↦
          let found = rds_of (suc (length (drop 2 value))) (drop 2 value) (omega arith) whole in
          let reads : ReadsRds (drop 2 value) found.0 = found.1 in
          let value_is : two sft ++ flat_map (λ (rd : List ℕ). rd) found.0 ≡ value = ap (λ (l : List ℕ). two sft ++ l) (sym reads.spelled) ∙ sym spelled in
          inr (
            hop_part.Sft sft found.0,
            record {
              kind_is = sym is;
              value_is = value_is;
              fits = (high, omega (arith, small 0, small 1), reads.fit, omega (arith, ap length value_is, size));
            },
          )
    ]

kept_kind : (kind : ℕ) → ¬ IsMpls kind → kind ≢ 0 → kind ≢ 1 → kind ≢ 2 → kind ≢ 3 → 6 ≤ kind
kept_kind kind no_mpls not_zero not_one not_two not_three =
    let not_four : kind ≢ 4 = λ e. no_mpls (inl e) in
    let not_five : kind ≢ 5 = λ e. no_mpls (inr e) in
    omega (arith, not_zero, not_one, not_two, not_three, not_four, not_five)

hop_part_or_not : (kind : ℕ) (value : List ℕ) → Small value → kind < 256 → Allows levels.InHop kind value → HopPartOrNot kind value
hop_part_or_not kind value small small_kind allowed =
    elim (cases_eq kind 3) [
      | inl is ↦ elim (cases_eq (length value % 8) 2) [
        | inl right ↦ sft_or_not kind value small is right allowed.size
        | inr other ↦ absurd (allowed.right (is, other))
      ]
      | inr not_three ↦
          let kept : 6 ≤ kind = kept_kind kind allowed.no_mpls (λ e. allowed.in_place (inl e)) (λ e. allowed.in_place (inr (inl e))) (λ e. allowed.in_place (inr (inr e))) not_three in
          inr (hop_part.Other kind value, record { kind_is = refl; value_is = refl; fits = (kept, small_kind, allowed.size) })
    ]

abbrev HopPartsOrNot : ℕ → List ℕ → Type 0
HopPartsOrNot start bytes = ((ps : List HopPart) × ReadsHopParts bytes ps) ⊎ ((fault : SfpFault) × RefusedHopParts start bytes fault)

hop_parts_or_not : (n start : ℕ) (bytes : List ℕ) (before : List HopPart) (rest : List ℕ) → length rest < n → Small rest → bytes ≡ hop_parts_bytes before ++ rest → HopPartsFit before
    → HopPartsOrNot start bytes
hop_parts_or_not zero start bytes before rest less small split fit = absurd (omega (arith, less))
hop_parts_or_not (suc n) start bytes before [] less small split fit = inl (before, record { spelled = split ∙ append-nil (hop_parts_bytes before); fit = fit })
hop_parts_or_not (suc n) start bytes before (c ∷ cs) less small split fit =
    let place : ℕ = start + (length bytes - length (c ∷ cs)) in
    elim (head_or_not levels.InHop place (c ∷ cs) small) [
      | inl bad ↦ inr (bad.0, hop_refused start bytes before (c ∷ cs) bad.0 split fit (omega arith) (inl bad.1))
      | inr p ↦ elim (hop_part_or_not p.kind p.value p.small_value p.small_kind p.allowed) [
        | inl bad ↦
            let whole : Splits (c ∷ cs) 3 p.value p.more = subst (λ (k : ℕ). Splits (c ∷ cs) k p.value p.more) bad.1 (record { parts = p.parts; size = p.allowed.size }) in
            inr (bad.0, hop_refused start bytes before (c ∷ cs) bad.0 split fit (omega arith) (inr (record { value = p.value; more = p.more; whole = whole; row = bad.2 })))
        | inr read ↦
            let next = hop_step bytes before (c ∷ cs) read.0 p.kind p.value p.more split fit p.parts read.1 in
            hop_parts_or_not n start bytes (before ++ read.0 ∷ []) p.more (omega (arith, less, p.shorter)) p.small_more next.0 next.1
      ]
    ]

-- ---- the parts of an attribute

spi_small : (value : List ℕ) → Small value → length value ≡ 12 → big_endian (take 3 (drop 8 (drop 1 value))) < 2 ^ 24
spi_small (t ∷ a ∷ b ∷ c ∷ d ∷ e ∷ f ∷ g ∷ h ∷ i ∷ j ∷ k ∷ []) small size = omega (arith, small 9, small 10, small 11)
spi_small _ small size = absurd (omega (arith, size))

abbrev PartOrNot : ℕ → ℕ → ℕ → List ℕ → Type 0
PartOrNot start bound kind value = ((fault : SfpFault) × (kind ≡ 2) × RefusedInside start bound value fault) ⊎ ((p : Part) × ReadsPart bound kind value p)

association_read : (bound kind : ℕ) (value : List ℕ) → Small value → kind ≡ 1 → length value ≡ 12 → (p : Part) × ReadsPart bound kind value p
association_read bound kind value small is size = (
  part.Association (get_or value 0 0) (take 8 (drop 1 value)) (big_endian (take 3 (drop 8 (drop 1 value)))),
  record {
    kind_is = sym is;
    value_is = association_spelled value (take 8 (drop 1 value)) (big_endian (take 3 (drop 8 (drop 1 value)))) small size refl refl;
    fits = (small 0, omega (arith, length-take 8 (drop 1 value), length-drop 1 value, size), spi_small value small size);
    falls = tt;
  },
)

rises_or_not : (bound si : ℕ) → RisesTo bound si ⊎ (¬ RisesTo bound si)
rises_or_not bound si =
    elim (cases_eq si 0) [
      | inl none ↦ inl (inl none)
      | inr some ↦ elim (cases_lt si bound) [
        | inl below ↦ inr (λ rises. elim rises [ inl e ↦ some e | inr above ↦ omega (arith, above, below) ])
        | inr above ↦ inl (inr above)
      ]
    ]

hop_or_not : (start bound kind : ℕ) (value : List ℕ) → Small value → kind ≡ 2 → 1 ≤ length value → length value < 2 ^ 16 → PartOrNot start bound kind value
hop_or_not start bound kind value small is some size =
    let si : ℕ = get_or value 0 0 in
    let spelled : value ≡ si ∷ drop 1 value = first_spelled value some in
    elim (rises_or_not bound si) [
      | inl rises ↦ inl (faults.Order si, is, record { si = si; inside = drop 1 value; spelled = spelled; row = inl (rises, refl) })
      | inr falls ↦ elim (hop_parts_or_not (suc (length (drop 1 value))) (start + 4) (drop 1 value) [] (drop 1 value) (omega arith) (small_drop 1 value small) refl tt) [
        | inl found ↦
            let reads : ReadsHopParts (drop 1 value) found.0 = found.1 in
            let value_is : si ∷ hop_parts_bytes found.0 ≡ value = ap (λ (l : List ℕ). si ∷ l) (sym reads.spelled) ∙ sym spelled in
            let positive : si ≢ 0 = λ e. falls (inl e) in
            let below : si < bound = elim (cases_lt si bound) [ inl b ↦ b | inr above ↦ absurd (falls (inr above)) ] in
            inr (
              part.Hop si found.0,
              record {
                kind_is = sym is;
                value_is = value_is;
                fits = (omega (arith, positive), small 0, reads.fit, omega (arith, ap length value_is, size));
                falls = (below, tt);
              },
            )
        | inr bad ↦ inl (bad.0, is, record { si = si; inside = drop 1 value; spelled = spelled; row = inr (falls, bad.1) })
      ]
    ]

part_or_not : (start bound kind : ℕ) (value : List ℕ) → Small value → kind < 256 → Allows levels.Top kind value → PartOrNot start bound kind value
part_or_not start bound kind value small small_kind allowed =
    elim (cases_eq kind 1) [
      | inl one ↦ elim (cases_eq (length value) 12) [
        | inl size ↦ inr (association_read bound kind value small one size)
        | inr other ↦ absurd (allowed.right (inl (one, other)))
      ]
      | inr not_one ↦ elim (cases_eq kind 2) [
        | inl is_two ↦ elim (cases_lt (length value) 1) [
          | inl none ↦ absurd (allowed.right (inr (is_two, none)))
          | inr some ↦ hop_or_not start bound kind value small is_two some allowed.size
        ]
        | inr not_two ↦
            let kept : 6 ≤ kind = kept_kind kind allowed.no_mpls (λ e. allowed.in_place (inl e)) not_one not_two (λ e. allowed.in_place (inr e)) in
            inr (part.Other kind value, record { kind_is = refl; value_is = refl; fits = (kept, small_kind, allowed.size); falls = tt })
      ]
    ]

abbrev OneOfTwo : List ℕ → Type 0
OneOfTwo value = ((s : Sfp) × IsSfp value s) ⊎ ((fault : SfpFault) × Refused value fault)

-- at the end there was a hop, or none
ended : (value : List ℕ) (before : List Part) (bound : ℕ) → ReadSoFar value before [] bound → OneOfTwo value
ended value before bound so_far =
    elim (cases_eq bound 256) [
      | inl first ↦ inr (faults.NoHop, inr (no_hop value before [] bound so_far refl first))
      | inr other ↦ inl (
        record { parts = before },
        record {
          spelled = so_far.split ∙ append-nil (parts_bytes before);
          fits = record { parts = so_far.fit; some = λ none. other (so_far.last ∙ ap (last_of 256) none) };
        },
      )
    ]

parts_or_not : (n : ℕ) (value : List ℕ) (before : List Part) (rest : List ℕ) (bound : ℕ) → length rest < n → Small rest → ReadSoFar value before rest bound → OneOfTwo value
parts_or_not zero value before rest bound less small so_far = absurd (omega (arith, less))
parts_or_not (suc n) value before [] bound less small so_far = ended value before bound so_far
parts_or_not (suc n) value before (c ∷ cs) bound less small so_far =
    let place : ℕ = length value - length (c ∷ cs) in
    elim (head_or_not levels.Top place (c ∷ cs) small) [
      | inl bad ↦ inr (bad.0, inl (part_refused value before (c ∷ cs) bound bad.0 so_far (omega arith) (inl bad.1)))
      | inr p ↦ elim (part_or_not place bound p.kind p.value p.small_value p.small_kind p.allowed) [
        | inl bad ↦
            let whole : Splits (c ∷ cs) 2 p.value p.more = subst (λ (k : ℕ). Splits (c ∷ cs) k p.value p.more) bad.1 (record { parts = p.parts; size = p.allowed.size }) in
            inr (bad.0, inl (part_refused value before (c ∷ cs) bound bad.0 so_far (omega arith) (inr (record { value = p.value; more = p.more; whole = whole; row = bad.2 }))))
        | inr read ↦
            parts_or_not n value (before ++ read.0 ∷ []) p.more (last_of bound (si_of read.0)) (omega (arith, less, p.shorter)) p.small_more
            (part_step value before (c ∷ cs) bound read.0 p.kind p.value p.more so_far p.parts read.1)
      ]
    ]

-- bytes are an attribute's value, or are refused
pub one_of_two : (value : List ℕ) → AreBytes value → OneOfTwo value
one_of_two value all =
    parts_or_not (suc (length value)) value [] value 256 (omega arith) (each_small value all)
    (record { split = refl; fit = record { each = tt; falls = tt }; last = refl })
