-- The versions of changes: one more, the first of them, one list of them, and the n-th.
use Rattle.std.proofs.Common.{◌≡◌, ℕ, zero, suc, ◌+◌, ◌≤◌, List, [], ◌∷◌, ◌++◌, length, take, slice_index_or, inl, inr, append-nil, append_assoc, refl, sym, ap, ap₂, ◌∙◌, subst, arith}
use Rattle.std.specs.List.{HoldsAt, AllByRecursion}
use Rattle.sfc_routes.specs.declared.route_changes.RouteChange.{RouteChange}
use Rattle.sfc_routes.specs.Entries.{Entries}
use Rattle.sfc_routes.specs.PeerRoutes.{IsRouteChange}
use Rattle.sfc_routes.proofs.MemberLemmas.{all_join}
use Rattle.path_selection.specs.Paths.{ServicePath}
use Rattle.record_text.specs.Tables.{table_text}
use Rattle.commands.specs.Fronts.{IsFront, IsFrontBehind}
use Rattle.control_histories.specs.Versions.{TableAfter, IsVersion}
use Rattle.paths_command.specs.VersionTexts.{AreVersions, VersionsText, tables_text}
use Rattle.paths_command.specs.PathsSteps.{AddsVersion, AddsFront, Shows, ShowsFront}

-- ---- one more

-- how many tables there are, for so many changes
pub tables_count : (roster : Entries) (before changes : List RouteChange) (tables : List (List ServicePath)) → AreVersions roster before changes tables → length tables ≡ length changes + 1
tables_count roster before [] (t ∷ ts) v = ap (λ (l : List (List ServicePath)). length (t ∷ l)) v.1
tables_count roster before (c ∷ cs) (t ∷ ts) v = let rest = tables_count roster (before ++ c ∷ []) cs ts v.1 in omega (arith, rest)
tables_count roster before [] [] v = absurd v
tables_count roster before (c ∷ cs) [] v = absurd v

versions_next : (roster : Entries) (before changes : List RouteChange) (change : RouteChange) (tables : List (List ServicePath)) (table : List ServicePath) → AreVersions roster before changes tables → TableAfter roster (before ++ (changes ++ change ∷ [])) table → AreVersions roster before (changes ++ change ∷ []) (tables ++ table ∷ [])
versions_next roster before [] change (t ∷ ts) table v after = (v.0, subst (λ (l : List (List ServicePath)). AreVersions roster (before ++ change ∷ []) [] (l ++ table ∷ [])) (sym v.1) (after, refl))
versions_next roster before (c ∷ cs) change (t ∷ ts) table v after =
    (v.0, versions_next roster (before ++ c ∷ []) cs change ts table v.1 (subst (λ (l : List RouteChange). TableAfter roster l table) (sym (append_assoc before (c ∷ []) (cs ++ change ∷ []))) after))
versions_next roster before [] change [] table v after = absurd v
versions_next roster before (c ∷ cs) change [] table v after = absurd v

texts_join : (roster : Entries) (version : ℕ) (tables more : List (List ServicePath)) → tables_text roster version (tables ++ more) ≡ tables_text roster version tables ++ tables_text roster (version + length tables) more
texts_join roster version [] more = ap (λ (n : ℕ). tables_text roster n more) (omega arith)
texts_join roster version (t ∷ ts) more =
    ap (λ (l : List ℕ). table_text roster version t ++ l) (texts_join roster (version + 1) ts more ∙ ap (λ (n : ℕ). tables_text roster (version + 1) ts ++ tables_text roster n more) (omega arith))
    ∙ sym (append_assoc (table_text roster version t) (tables_text roster (version + 1) ts) (tables_text roster (version + length (t ∷ ts)) more))

-- the version behind those that were shown
shows_more : (roster : Entries) (shown : List RouteChange) (change : RouteChange) (text : List ℕ) (table : List ServicePath) (v : VersionsText roster shown text) → TableAfter roster (shown ++ change ∷ []) table → VersionsText roster (shown ++ change ∷ []) (text ++ table_text roster (length shown + 1) table)
shows_more roster shown change text table v after =
    let many = tables_count roster [] shown v.tables v.versions in
    let number : length shown + 1 ≡ 0 + length v.tables = omega (arith, many) in
    let so_far = tables_text roster 0 v.tables in
    record {
      tables = v.tables ++ table ∷ [];
      versions = versions_next roster [] shown change v.tables table v.versions after;
      text_is = ap (λ (l : List ℕ). l ++ table_text roster (length shown + 1) table) v.text_is
          ∙ (ap (λ (n : ℕ). so_far ++ table_text roster n table) number
          ∙ (ap (λ (l : List ℕ). so_far ++ l) (sym (append-nil (table_text roster (0 + length v.tables) table)))
          ∙ sym (texts_join roster 0 v.tables (table ∷ []))));
    }

pub shows_next : (roster : Entries) (shown : List RouteChange) (change : RouteChange) (version : ℕ) (before then now : List ℕ) → version ≡ length shown + 1 → Shows roster shown before then → AddsVersion roster (shown ++ change ∷ []) version then now → Shows roster (shown ++ change ∷ []) before now
shows_next roster shown change version before then now is s adds = (
  s.0 ++ table_text roster (length shown + 1) adds.table,
  shows_more roster shown change s.0 adds.table s.1 adds.after,
  adds.put ∙ ap₂ (λ (l : List ℕ) (n : ℕ). l ++ table_text roster n adds.table) s.2 is ∙ append_assoc before s.0 (table_text roster (length shown + 1) adds.table),
)

text_of_first : (roster : Entries) (table : List ServicePath) → TableAfter roster [] table → VersionsText roster [] (table_text roster 0 table)
text_of_first roster table after = record { tables = table ∷ []; versions = (after, refl); text_is = sym (append-nil (table_text roster 0 table)) }

-- version 0
pub shows_first : (roster : Entries) (then now : List ℕ) → AddsVersion roster [] 0 then now → Shows roster [] then now
shows_first roster then now adds = (
  table_text roster 0 adds.table,
  text_of_first roster adds.table adds.after,
  adds.put,
)

-- ---- fronts

-- what was shown, with nothing of what is to be shown
pub shows_front : (roster : Entries) (shown todo : List RouteChange) (before now : List ℕ) → Shows roster shown before now → ShowsFront roster (shown ++ todo) before now
shows_front roster shown todo before now s = record {
  shown = shown;
  todo = todo;
  joined = refl;
  text = s.0;
  versions = s.1;
  front = (s.0, s.2, ([], append-nil s.0));
}

-- a front of a text that stands behind another one
front_behind : (before then now text more : List ℕ) → then ≡ before ++ text → IsFrontBehind then now more → IsFrontBehind before now (text ++ more)
front_behind before then now text more put front = (
  text ++ front.0,
  front.1 ∙ ap (λ (l : List ℕ). l ++ front.0) put ∙ append_assoc before text front.0,
  (front.2.0, append_assoc text front.0 front.2.0 ∙ ap (λ (l : List ℕ). text ++ l) front.2.1),
)

-- a version was not written, or in part
pub front_next : (roster : Entries) (shown : List RouteChange) (change : RouteChange) (todo : List RouteChange) (version : ℕ) (before then now : List ℕ) → version ≡ length shown + 1 → Shows roster shown before then → AddsFront roster (shown ++ change ∷ []) version then now → ShowsFront roster (shown ++ change ∷ todo) before now
front_next roster shown change todo version before then now is s (inl same) =
    shows_front roster shown (change ∷ todo) before now (s.0, s.1, same ∙ s.2)
front_next roster shown change todo version before then now is s (inr (table, after, front)) = record {
  shown = shown ++ change ∷ [];
  todo = todo;
  joined = sym (append_assoc shown (change ∷ []) todo);
  text = s.0 ++ table_text roster (length shown + 1) table;
  versions = shows_more roster shown change s.0 table s.1 after;
  front = front_behind before then now s.0 (table_text roster (length shown + 1) table) s.2 (subst (λ (n : ℕ). IsFrontBehind then now (table_text roster n table)) is front);
}

-- version 0 was not written, or in part
pub front_first : (roster : Entries) (then now : List ℕ) → (table : List ServicePath) × TableAfter roster [] table → AddsFront roster [] 0 then now → ShowsFront roster [] then now
front_first roster then now first (inl same) = record {
  shown = [];
  todo = [];
  joined = refl;
  text = table_text roster 0 first.0;
  versions = text_of_first roster first.0 first.1;
  front = ([], same ∙ sym (append-nil then), (table_text roster 0 first.0, refl));
}
front_first roster then now first (inr (table, after, front)) = record {
  shown = [];
  todo = [];
  joined = refl;
  text = table_text roster 0 table;
  versions = text_of_first roster table after;
  front = front;
}

-- ---- one list of versions, and the first of them

module _ (roster : Entries) (one : (changes : List RouteChange) (table other : List ServicePath) → TableAfter roster changes table → TableAfter roster changes other → table ≡ other) where
  versions_begin : (before changes more : List RouteChange) (tables all : List (List ServicePath)) → AreVersions roster before changes tables → AreVersions roster before (changes ++ more) all → (rest : List (List ServicePath)) × (all ≡ tables ++ rest)
  versions_begin before [] [] (t ∷ ts) (u ∷ us) v w = (us, ap₂ (λ (x : List ServicePath) (l : List (List ServicePath)). x ∷ (l ++ us)) (one before u t w.0 v.0) (sym v.1))
  versions_begin before [] (m ∷ ms) (t ∷ ts) (u ∷ us) v w = (us, ap₂ (λ (x : List ServicePath) (l : List (List ServicePath)). x ∷ (l ++ us)) (one before u t w.0 v.0) (sym v.1))
  versions_begin before (c ∷ cs) more (t ∷ ts) (u ∷ us) v w =
      let rest = versions_begin (before ++ c ∷ []) cs more ts us v.1 w.1 in
      (rest.0, ap₂ (λ (x : List ServicePath) (l : List (List ServicePath)). x ∷ l) (one before u t w.0 v.0) rest.1)
  versions_begin before [] more [] all v w = absurd v
  versions_begin before (c ∷ cs) more [] all v w = absurd v
  versions_begin before [] [] (t ∷ ts) [] v w = absurd w
  versions_begin before [] (m ∷ ms) (t ∷ ts) [] v w = absurd w
  versions_begin before (c ∷ cs) more (t ∷ ts) [] v w = absurd w

  one_versions : (before changes : List RouteChange) (tables others : List (List ServicePath)) → AreVersions roster before changes tables → AreVersions roster before changes others → tables ≡ others
  one_versions before [] (t ∷ ts) (u ∷ us) v w = ap₂ (λ (x : List ServicePath) (l : List (List ServicePath)). x ∷ l) (one before t u v.0 w.0) (v.1 ∙ sym w.1)
  one_versions before (c ∷ cs) (t ∷ ts) (u ∷ us) v w = ap₂ (λ (x : List ServicePath) (l : List (List ServicePath)). x ∷ l) (one before t u v.0 w.0) (one_versions (before ++ c ∷ []) cs ts us v.1 w.1)
  one_versions before [] [] others v w = absurd v
  one_versions before (c ∷ cs) [] others v w = absurd v
  one_versions before [] (t ∷ ts) [] v w = absurd w
  one_versions before (c ∷ cs) (t ∷ ts) [] v w = absurd w

  pub one_text : (changes : List RouteChange) (text other : List ℕ) → VersionsText roster changes text → VersionsText roster changes other → text ≡ other
  one_text changes text other v w = v.text_is ∙ ap (tables_text roster 0) (one_versions [] changes v.tables w.tables v.versions w.versions) ∙ sym w.text_is

  -- what was shown is a front of what is shown in the end
  pub text_begins : (changes more : List RouteChange) (part text : List ℕ) → VersionsText roster changes part → VersionsText roster (changes ++ more) text → IsFront part text
  text_begins changes more part text v w =
      let rest = versions_begin [] changes more v.tables w.tables v.versions w.versions in (
        tables_text roster (0 + length v.tables) rest.0,
        ap (λ (l : List ℕ). l ++ tables_text roster (0 + length v.tables) rest.0) v.text_is
            ∙ sym (w.text_is ∙ ap (tables_text roster 0) rest.1 ∙ texts_join roster 0 v.tables rest.0),
      )

  pub shows_whole : (changes more : List RouteChange) (before now text : List ℕ) → ShowsFront roster changes before now → VersionsText roster (changes ++ more) text → IsFrontBehind before now text
  shows_whole changes more before now text s w =
      let begins = text_begins s.shown (s.todo ++ more) s.text text s.versions
      (subst (λ (l : List RouteChange). VersionsText roster l text) (ap (λ (l : List RouteChange). l ++ more) s.joined ∙ append_assoc s.shown s.todo more) w) in
      let part = s.front.2 in
      (s.front.0, s.front.1, (part.0 ++ begins.0, sym (append_assoc s.front.0 part.0 begins.0) ∙ ap (λ (l : List ℕ). l ++ begins.0) part.1 ∙ begins.1))

-- ---- the n-th

pub version_at : (roster : Entries) (before changes : List RouteChange) (tables : List (List ServicePath)) (n : ℕ) → AreVersions roster before changes tables → n ≤ length changes → HoldsAt (λ (table : List ServicePath). TableAfter roster (before ++ take n changes) table) tables n
version_at roster before [] (t ∷ ts) zero v le = λ d. subst (λ (l : List RouteChange). TableAfter roster l t) (sym (append-nil before)) v.0
version_at roster before (c ∷ cs) (t ∷ ts) zero v le = λ d. subst (λ (l : List RouteChange). TableAfter roster l t) (sym (append-nil before)) v.0
version_at roster before [] (t ∷ ts) (suc n) v le = absurd (omega (arith, le))
version_at roster before (c ∷ cs) (t ∷ ts) (suc n) v le = λ d.
    subst (λ (l : List RouteChange). TableAfter roster l (slice_index_or ts n d)) (append_assoc before (c ∷ []) (take n cs))
    (version_at roster (before ++ c ∷ []) cs ts n v.1 (omega (arith, le)) d)
version_at roster before [] [] n v le = absurd v
version_at roster before (c ∷ cs) [] n v le = absurd v

pub is_version : (roster : Entries) (changes : List RouteChange) (tables : List (List ServicePath)) (n : ℕ) → AreVersions roster [] changes tables → n ≤ length changes → HoldsAt (IsVersion roster changes n) tables n
is_version roster changes tables n v le = λ d. record { made = le; table_is = version_at roster [] changes tables n v le d }

-- ---- there are versions

pub some_versions : (roster : Entries) → ((changes : List RouteChange) → AllByRecursion IsRouteChange changes → (table : List ServicePath) × TableAfter roster changes table) → (before changes : List RouteChange) → AllByRecursion IsRouteChange before → AllByRecursion IsRouteChange changes → (tables : List (List ServicePath)) × AreVersions roster before changes tables
some_versions roster table_of before [] fit fit' = let t = table_of before fit in (t.0 ∷ [], (t.1, refl))
some_versions roster table_of before (c ∷ cs) fit fit' =
    let t = table_of before fit in
    let rest = some_versions roster table_of (before ++ c ∷ []) cs (all_join IsRouteChange before (c ∷ []) fit (fit'.0, tt)) fit'.1 in
    (t.0 ∷ rest.0, (t.1, rest.1))
