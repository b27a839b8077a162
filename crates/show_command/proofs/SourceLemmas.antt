-- What stays of the ports while the bound source is read and Report is written.
use Rattle.std.proofs.Common.{◌≡◌, ◌≢◌, ◌⊎◌, inl, inr, ℕ, ◌+◌, ◌^◌, ◌≤◌, min, Bool, true, List, [], ◌∷◌, ◌++◌, append_assoc, append-nil, take, length, arith, refl, sym, ap, ◌∙◌, subst}
use Rattle.std.proofs.lemmas.List.{length-append}
use Rattle.std.proofs.Math.Seq.{take-append_seam}
use Rattle.sfc_desk.specs.declared.ports.Port.{Port}
use Rattle.sfc_desk.specs.declared.ports.Port.TheVariants as ports
use Rattle.sfc_desk.specs.Desks.{Shown, Files, Rose, Moves}
use Rattle.sfc_texts.specs.BgpText.{ShowsBgp}
use Rattle.sfc_texts.specs.Showings.{Showing}
use Rattle.commands.specs.declared.statuses.Status.{Status}
use Rattle.commands.specs.declared.statuses.Status.TheVariants as status
use Rattle.commands.specs.Fronts.{IsFrontBehind}
use Rattle.commands.specs.Pieces.{NoneBound, SameCounts}
use Rattle.commands.proofs.PlaceLemmas.{same_or_other, rose_from}
use Rattle.show_command.specs.declared.show_words.Format.{Format}
use Rattle.show_command.specs.ShowSteps.{ShowWorks, ShowsSource, ReportedFront, GaveLines, input_of}

-- the ports that are moved through
abbrev pub IsShowPort : Port → Type 0
IsShowPort port = (port ≡ ports.Source) ⊎ (port ≡ ports.Report)

-- the source stays bound, and nothing was touched but it and Report
pub record Touched (tells : Bool) (then now : Port → Shown) : Type 0 where
  pub none_bound : NoneBound tells then now
  pub bound : (now ports.Source).bound ≡ true
  pub others : (port : Port) → port ≢ ports.Source → port ≢ ports.Report → now port ≡ then port

pub source_is_no_report : ports.Source ≢ ports.Report
source_is_no_report e = cc

pub report_is_no_source : ports.Report ≢ ports.Source
report_is_no_source e = cc

pub untouched : (tells : Bool) (then : Port → Shown) → (then ports.Source).bound ≡ true → Touched tells then then
untouched tells then bound = record {
  none_bound = record { binds = λ p. refl; names = λ told p. refl };
  bound = bound;
  others = λ p a b. refl;
}

binds_stay : (tells : Bool) (port : Port) (had has : Files) (mid now : Port → Shown) → Moves tells port had has mid now → (p : Port) → (now p).binds ≡ (mid p).binds
binds_stay tells port had has mid now moves p = elim (same_or_other p port) [
  | inl same ↦ subst (λ (q : Port). (now q).binds ≡ (mid q).binds) (sym same) moves.same_binds
  | inr other ↦ ap (λ (s : Shown). s.binds) (moves.elsewhere p other)
]

names_stay : (tells : Bool) (port : Port) (had has : Files) (mid now : Port → Shown) → Moves tells port had has mid now → tells ≡ true → (p : Port) → (now p).name ≡ (mid p).name
names_stay tells port had has mid now moves told p = elim (same_or_other p port) [
  | inl same ↦ subst (λ (q : Port). (now q).name ≡ (mid q).name) (sym same) (moves.same_name told)
  | inr other ↦ ap (λ (s : Shown). s.name) (moves.elsewhere p other)
]

-- a call moved bytes
pub touched_on : (tells : Bool) (port : Port) (had has : Files) (then mid now : Port → Shown) → IsShowPort port → Touched tells then mid → Moves tells port had has mid now → Touched tells then now
touched_on tells port had has then mid now is was moves = record {
  none_bound = record {
    binds = λ p. binds_stay tells port had has mid now moves p ∙ was.none_bound.binds p;
    names = λ told p. names_stay tells port had has mid now moves told p ∙ was.none_bound.names told p;
  };
  bound = elim is [
    | inl source ↦ subst (λ (q : Port). (now q).bound ≡ true) source moves.still_bound
    | inr report ↦ ap (λ (s : Shown). s.bound) (moves.elsewhere ports.Source (λ e. source_is_no_report (e ∙ report))) ∙ was.bound
  ];
  others = λ p no_source no_report.
      moves.elsewhere p (λ e. elim is [ inl source ↦ no_source (e ∙ source) | inr report ↦ no_report (e ∙ report) ]) ∙ was.others p no_source no_report;
}

-- no count changed
pub counts_on : (then mid now : Port → Shown) → SameCounts then mid → SameCounts mid now → SameCounts then now
counts_on then mid now was is = λ p. is p ∙ was p

pub shows_quietly : (format : Format) (tells : Bool) (then now : Port → Shown) (answer : Status) → Touched tells then now → SameCounts then now → ShowWorks format tells then now answer → ShowsSource format tells then now answer
shows_quietly format tells then now answer touched counts works = record {
  works = works;
  none_bound = touched.none_bound;
  counts = λ p differs. counts p;
  others = touched.others;
}

-- a call failed
pub shows_failed : (format : Format) (tells : Bool) (port : Port) (had has : Files) (then mid now : Port → Shown) → IsShowPort port → Touched tells then mid → SameCounts then mid → Moves tells port had has mid now → Rose (mid port) (now port)
    → (tells ≡ true → ReportedFront format (input_of then) (then ports.Report) (now ports.Report)) → ShowsSource format tells then now (status.File port)
shows_failed format tells port had has then mid now is was counts moves rose front = record {
  works = ((is, rose_from (then port) (mid port) (now port) (counts port) rose), front);
  none_bound = (touched_on tells port had has then mid now is was moves).none_bound;
  counts = λ p differs. ap (λ (s : Shown). s.faults) (moves.elsewhere p (λ e. differs (ap status.File (sym e)))) ∙ counts p;
  others = (touched_on tells port had has then mid now is was moves).others;
}

-- the source between two pieces: the first 252 bytes are kept, and all are counted
pub record KeptOn (tells : Bool) (then now : Port → Shown) (had has : Files) (front : List ℕ) (total : ℕ) : Type 0 where
  pub so_far : tells ≡ true → (taken : List ℕ) × ((then ports.Source).left ≡ taken ++ (now ports.Source).left) × (front ≡ take 252 taken) × (length taken ≡ total)
  pub kept : length front ≡ min 252 total
  pub small : total ≤ 2 ^ 40
  pub counts : SameCounts then now
  pub moves : Moves tells ports.Source had has then now

-- and with the lines of what was read behind what Report had
pub record StreamsOn (tells : Bool) (then now : Port → Shown) (lines : Showing) (total : ℕ) : Type 0 where
  pub so_far : tells ≡ true → (taken : List ℕ) × (input_of then ≡ taken ++ input_of now) × (length taken ≡ total) × GaveLines lines taken (then ports.Report).written (now ports.Report).written
  pub count : lines.place + length lines.rest ≤ total
  pub small : total ≤ 2 ^ 40
  pub counts : SameCounts then now
  pub touched : Touched tells then now

-- one call after another moved bytes through one port
pub moves_on : (tells : Bool) (port : Port) (had held has : Files) (then mid now : Port → Shown) → Moves tells port had held then mid → Moves tells port held has mid now → Moves tells port had has then now
moves_on tells port had held has then mid now was is = record {
  later = omega (arith, was.later, is.later);
  elsewhere = λ p other. is.elsewhere p other ∙ was.elsewhere p other;
  files = is.files ∙ was.files;
  still_bound = is.still_bound;
  same_binds = is.same_binds ∙ was.same_binds;
  same_name = λ told. is.same_name told ∙ was.same_name told;
}

-- nothing is left where nothing was
pub none_behind : (xs ys : List ℕ) → xs ++ ys ≡ [] → ys ≡ []
none_behind [] ys none = none
none_behind (x ∷ xs) ys none = cc

-- a piece was read of the source
abbrev pub PieceRead : (Port → Shown) → (Port → Shown) → Showing → List ℕ → ℕ → Type 0
PieceRead then mid lines piece total =
    (taken : List ℕ) × (input_of then ≡ taken ++ (piece ++ input_of mid)) × (length taken ≡ total) × GaveLines lines taken (then ports.Report).written (mid ports.Report).written

pub piece_read : (tells : Bool) (had has : Files) (then head mid : Port → Shown) (lines : Showing) (piece : List ℕ) (total : ℕ) → tells ≡ true → StreamsOn tells then head lines total → Moves tells ports.Source had has head mid
    → input_of head ≡ piece ++ input_of mid → PieceRead then mid lines piece total
piece_read tells had has then head mid lines piece total told was moves read =
    let some = was.so_far told in (
      some.0,
      some.1 ∙ ap (λ (l : List ℕ). some.0 ++ l) read,
      some.2,
      subst (λ (s : Shown). GaveLines lines some.0 (then ports.Report).written s.written) (sym (moves.elsewhere ports.Report report_is_no_source)) some.3,
    )

-- and a front of its lines was written
pub piece_reported : (then mid : Port → Shown) (written : List ℕ) (lines : Showing) (piece : List ℕ) (total : ℕ) → PieceRead then mid lines piece total
    → ((taken before left text : List ℕ) → GaveLines lines taken before (mid ports.Report).written → ShowsBgp (taken ++ (piece ++ left)) text → IsFrontBehind before written text)
    → (text : List ℕ) → ShowsBgp (input_of then) text → IsFrontBehind (then ports.Report).written written text
piece_reported then mid written lines piece total read front text shows =
    front read.0 (then ports.Report).written (input_of mid) text read.3 (subst (λ (b : List ℕ). ShowsBgp b text) read.1 shows)

-- or all of them were
pub streams_on : (tells : Bool) (had has mad mas : Files) (then head mid now : Port → Shown) (lines new : Showing) (piece : List ℕ) (total count : ℕ) → StreamsOn tells then head lines total
    → Moves tells ports.Source had has head mid → SameCounts head mid → (tells ≡ true → input_of head ≡ piece ++ input_of mid) → length piece ≡ count → total + count ≤ 2 ^ 40
    → Moves tells ports.Report mad mas mid now → SameCounts mid now
    → (tells ≡ true → (taken before : List ℕ) → GaveLines lines taken before (mid ports.Report).written → GaveLines new (taken ++ piece) before (now ports.Report).written)
    → new.place + length new.rest ≤ lines.place + length lines.rest + length piece → StreamsOn tells then now new (total + count)
streams_on tells had has mad mas then head mid now lines new piece total count was reads quiet bytes long small writes still gave less = record {
  so_far = λ told.
      let read = piece_read tells had has then head mid lines piece total told was reads (bytes told) in (
        read.0 ++ piece,
        read.1 ∙ (sym (append_assoc read.0 piece (input_of mid)) ∙ ap (λ (s : Shown). (read.0 ++ piece) ++ s.left) (sym (writes.elsewhere ports.Source source_is_no_report))),
        omega (arith, length-append read.0 piece, long, read.2),
        gave told read.0 (then ports.Report).written read.3,
      );
  count = omega (arith, was.count, less, long);
  small = small;
  counts = counts_on then mid now (counts_on then head mid was.counts quiet) still;
  touched = touched_on tells ports.Report mad mas then mid now (inr refl) (touched_on tells ports.Source had has then head mid (inl refl) was.touched reads) writes;
}

-- the source has ended
pub all_read : (tells : Bool) (had has : Files) (then head mid : Port → Shown) (lines : Showing) (piece : List ℕ) (total : ℕ) → tells ≡ true → StreamsOn tells then head lines total → Moves tells ports.Source had has head mid
    → input_of head ≡ piece ++ input_of mid → input_of head ≡ []
    → (taken : List ℕ) × (input_of then ≡ taken) × (length taken ≡ total) × GaveLines lines taken (then ports.Report).written (mid ports.Report).written × (input_of mid ≡ [])
all_read tells had has then head mid lines piece total told was moves read ended =
    let some = piece_read tells had has then head mid lines piece total told was moves read in
    (some.0, some.1 ∙ (ap (λ (l : List ℕ). some.0 ++ l) (sym read ∙ ended) ∙ append-nil some.0), some.2, some.3, none_behind piece (input_of mid) (sym read ∙ ended))

-- a slice was filled
pub filled : (n : ℕ) (new rest : List ℕ) → length new ≡ n → take n (new ++ rest) ≡ new
filled n new rest long = ap (λ k. take k (new ++ rest)) (sym long) ∙ take-append_seam new rest
