-- Last words: of one change, and of changes one after the other.
use Rattle.std.proofs.Common.{◌≡◌, ℕ, true, false, List, [], ◌∷◌, ◌++◌, reverse, sym, ◌∙◌, ap, subst, inl, inr, ◌⊎◌, Contains, true≢false}
use Rattle.std.specs.List.{AllByRecursion}
use Rattle.std.proofs.lemmas.Bool.{false_from_ne_true}
use Rattle.std.proofs.lemmas.List.{reverse-append}
use Rattle.std.proofs.lemmas.List.Elements.{Contains-push, Contains-push_cases, Contains-append_left}
use Rattle.bgp_update.specs.declared.routes.Nlri.{Nlri}
use Rattle.sfc_routes.specs.declared.routes.Route.{Route}
use Rattle.sfc_routes.specs.declared.route_changes.RouteChange.{RouteChange}
use Rattle.sfc_routes.specs.PeerRoutes.{PeerRoute, RouteFits, IsOf}
use Rattle.sfc_routes.specs.LastWords.{LastSays, AreSilent, LastAnnounces, Announces, IsSilent, Stands, Follows}
use Rattle.sfc_routes.specs.RouteLists.{Loses, LosesNamed, IsOther, Puts, PutsAll, peer_routes}
use Rattle.sfc_routes.proofs.MemberLemmas.{all_front, all_back, all_join, no_member}

-- ---- one more at the end of a list

pub last_at_end : {X : Type 0} (Says Silent : X → Type 0) (xs : List X) (y : X) → LastSays Says Silent (xs ++ y ∷ []) → Says y ⊎ (LastSays Says Silent xs × Silent y)
last_at_end Says Silent [] y h = elim h [
  | inl a ↦ inl a.0
  | inr b ↦ absurd b
]
last_at_end Says Silent (x ∷ xs) y h = elim h [
  | inl a ↦ inr (inl (a.0, all_front Silent xs (y ∷ []) a.1), (all_back Silent xs (y ∷ []) a.1).0)
  | inr b ↦ elim (last_at_end Says Silent xs y b) [
    | inl says ↦ inl says
    | inr c ↦ inr (inr c.0, c.1)
  ]
]

pub end_says : {X : Type 0} (Says Silent : X → Type 0) (xs : List X) (y : X) → Says y ⊎ (LastSays Says Silent xs × Silent y) → LastSays Says Silent (xs ++ y ∷ [])
end_says Says Silent [] y h = elim h [
  | inl says ↦ inl (says, tt)
  | inr c ↦ absurd c.0
]
end_says Says Silent (x ∷ xs) y h = elim h [
  | inl says ↦ inr (end_says Says Silent xs y (inl says))
  | inr c ↦ elim c.0 [
    | inl a ↦ inl (a.0, all_join Silent xs (y ∷ []) a.1 (c.1, tt))
    | inr b ↦ inr (end_says Says Silent xs y (inr (b, c.1)))
  ]
]

-- ---- histories

pub stands_empty : Stands [] []
stands_empty e = (λ m. no_member e m, λ r. absurd r)

pub stands_more : (old new : List PeerRoute) (change : RouteChange) (changes : List RouteChange) → Follows old change new → Stands old changes → Stands new (changes ++ change ∷ [])
stands_more old new change changes f s e =
    let Says : RouteChange → Type 0 = λ c. Announces c e in
    let Silent : RouteChange → Type 0 = λ c. IsSilent c e in (
      λ m. end_says Says Silent changes change (elim ((f e).0 m) [
        | inl a ↦ inl a
        | inr b ↦ inr ((s e).0 b.0, b.1)
      ]),
      λ r. (f e).1 (elim (last_at_end Says Silent changes change r) [
        | inl a ↦ inl a
        | inr b ↦ inr ((s e).1 b.0, b.1)
      ]),
    )

-- ---- withdrawals, one after the other

pub loses_none : (peer : ℕ) (xs : List PeerRoute) → LosesNamed peer [] xs xs
loses_none peer xs e = (λ m. (m, λ gone. no_member e.route.nlri gone.1), λ h. h.0)

pub loses_more : (peer : ℕ) (ns : List Nlri) (n : Nlri) (old mid new : List PeerRoute) → LosesNamed peer ns old mid → Loses (IsOf peer n) mid new → LosesNamed peer (ns ++ n ∷ []) old new
loses_more peer ns n old mid new first last e = (
  λ m.
      let was = (last e).0 m in
      let before = (first e).0 was.0 in (
        before.0,
        λ gone. elim (Contains-push_cases ns n e.route.nlri gone.1) [
          | inl earlier ↦ before.1 (gone.0, earlier)
          | inr is ↦ was.1 (record { of_peer = gone.0; named = sym is })
        ],
      ),
  λ h. (last e).1 ((first e).1 (h.0, λ gone. h.1 (gone.0, Contains-append_left ns (n ∷ []) e.route.nlri gone.1)), λ is. h.1 (is.of_peer, subst (Contains (ns ++ n ∷ [])) (sym is.named) (Contains-push ns n))),
)

-- ---- announcements, one after the other

pub puts_none : (xs : List PeerRoute) → PutsAll [] xs xs
puts_none xs e = (λ m. inr (m, tt), λ h. elim h [ inl none ↦ absurd none | inr old ↦ old.0 ])

pub puts_more : (one : PeerRoute) (ones old mid new : List PeerRoute) → Puts one old mid → PutsAll ones mid new → PutsAll (one ∷ ones) old new
puts_more one ones old mid new first rest e = (
  λ m. elim ((rest e).0 m) [
    | inl last ↦ inl (inr last)
    | inr h ↦ elim ((first e).0 h.0) [
      | inl is ↦ inl (inl (is, h.1))
      | inr was ↦ inr (was.0, (was.1, h.1))
    ]
  ],
  λ h. elim h [
    | inl says ↦ elim says [
      | inl is ↦ (rest e).1 (inr ((first e).1 (inl is.0), is.1))
      | inr later ↦ (rest e).1 (inl later)
    ]
    | inr was ↦ (rest e).1 (inr ((first e).1 (inr (was.0, was.1.0)), was.1.1))
  ],
)

silent_peer : (peer : ℕ) (routes : List Route) (e : PeerRoute) → AllByRecursion (IsOther e) (peer_routes peer routes) → peer ≡ e.peer → AreSilent routes e.route.nlri
silent_peer peer [] e a same = tt
silent_peer peer (r ∷ rs) e a same = (λ named. a.0 (record { of_peer = same; named = named }), silent_peer peer rs e a.1 same)

peer_silent : (peer : ℕ) (routes : List Route) (e : PeerRoute) → (peer ≡ e.peer → AreSilent routes e.route.nlri) → AllByRecursion (IsOther e) (peer_routes peer routes)
peer_silent peer [] e h = tt
peer_silent peer (r ∷ rs) e h = (λ is. (h is.of_peer).0 is.named, peer_silent peer rs e (λ same. (h same).1))

says_peer : (peer : ℕ) (routes : List Route) (e : PeerRoute) → LastSays (λ (one : PeerRoute). one ≡ e) (IsOther e) (peer_routes peer routes) → (peer ≡ e.peer) × LastAnnounces routes e.route
says_peer peer [] e h = absurd h
says_peer peer (r ∷ rs) e h = elim h [
  | inl is ↦
      let same : peer ≡ e.peer = ap (λ (x : PeerRoute). x.peer) is.0 in
      (same, inl (ap (λ (x : PeerRoute). x.route) is.0, silent_peer peer rs e is.1 same))
  | inr later ↦ let rest = says_peer peer rs e later in (rest.0, inr rest.1)
]

peer_says : (peer : ℕ) (routes : List Route) (e : PeerRoute) → peer ≡ e.peer → LastAnnounces routes e.route → LastSays (λ (one : PeerRoute). one ≡ e) (IsOther e) (peer_routes peer routes)
peer_says peer [] e same h = absurd h
peer_says peer (r ∷ rs) e same h = elim h [
  | inl is ↦ inl (λ i. record { peer = same i; route = is.0 i }, peer_silent peer rs e (λ again. is.1))
  | inr later ↦ inr (peer_says peer rs e same later)
]

-- what a change withdraws
abbrev pub Gone : RouteChange → PeerRoute → Type 0
Gone change e = (e.peer ≡ change.peer) × ((change.all ≡ true) ⊎ Contains change.withdrawn e.route.nlri)

-- the withdrawals, and then the announcements, are the change
pub follows_both : (change : RouteChange) (old mid new : List PeerRoute) → Loses (Gone change) old mid → PutsAll (peer_routes change.peer change.announced) mid new → Follows old change new
follows_both change old mid new loses puts e = (
  λ m. elim ((puts e).0 m) [
    | inl last ↦ let says = says_peer change.peer change.announced e last in inl (record { of_peer = says.0; last = says.1 })
    | inr h ↦
        let was = (loses e).0 h.0 in
        inr (
          was.0,
          λ same. record {
            not_announced = silent_peer change.peer change.announced e h.1 same;
            not_withdrawn = λ gone. was.1 (sym same, inr gone);
            not_all = false_from_ne_true change.all (λ all. was.1 (sym same, inl all));
          },
        )
  ],
  λ h. elim h [
    | inl says ↦ (puts e).1 (inl (peer_says change.peer change.announced e says.of_peer says.last))
    | inr was ↦ (puts e).1 (inr (
      (loses e).1 (
        was.0,
        λ gone. elim gone.1 [
          | inl all ↦ true≢false (sym all ∙ (was.1 (sym gone.0)).not_all)
          | inr named ↦ (was.1 (sym gone.0)).not_withdrawn named
        ],
      ),
      peer_silent change.peer change.announced e (λ same. (was.1 same).not_announced),
    ))
  ],
)

pub all_gone : (change : RouteChange) (old new : List PeerRoute) → change.all ≡ true → Loses (λ (e : PeerRoute). e.peer ≡ change.peer) old new → Loses (Gone change) old new
all_gone change old new all loses e = (
  λ m. let was = (loses e).0 m in (was.0, λ gone. was.1 gone.0),
  λ h. (loses e).1 (h.0, λ same. h.1 (same, inl all)),
)

pub named_gone : (change : RouteChange) (old new : List PeerRoute) → change.all ≡ false → LosesNamed change.peer change.withdrawn old new → Loses (Gone change) old new
named_gone change old new some loses e = (
  λ m.
      let was = (loses e).0 m in (
        was.0,
        λ gone. elim gone.1 [
          | inl all ↦ true≢false (sym all ∙ some)
          | inr named ↦ was.1 (gone.0, named)
        ],
      ),
  λ h. (loses e).1 (h.0, λ gone. h.1 (gone.0, inr gone.1)),
)

-- ---- copies, the last one first

pub all_reversed : {X : Type 0} (P : X → Type 0) (xs : List X) → AllByRecursion P xs → AllByRecursion P (reverse xs)
all_reversed P [] a = tt
all_reversed P (x ∷ xs) a = subst (AllByRecursion P) (sym (reverse-append (x ∷ []) xs)) (all_join P (reverse xs) (x ∷ []) (all_reversed P xs a.1) (a.0, tt))

pub peer_fits : (peer : ℕ) (routes : List Route) → AllByRecursion RouteFits routes → AllByRecursion (λ (e : PeerRoute). RouteFits e.route) (peer_routes peer routes)
peer_fits peer [] a = tt
peer_fits peer (r ∷ rs) a = (a.0, peer_fits peer rs a.1)
