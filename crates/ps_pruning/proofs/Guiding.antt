-- Each certificate of a pruned game has a guide: it is decidable whether a vertex serves another, so the guide gives
-- the first candidate that does.
use Rattle.std.specs.Prelude.{◌≡◌, ℕ, ◌<◌, ◌⊎◌, List, length, Option, None, Some, slice_get, slice_index}
use Rattle.std.specs.List.{Contains}
use Rattle.std.proofs.Common.{sym, ◌∙◌, subst, ap, refl, inl, inr, arith}
use Rattle.std.proofs.lemmas.Bool.{cases_eq, cases_lt}
use Rattle.std.proofs.lemmas.Option.{get_or_from_slice_get, slice_get-get_or}
use Rattle.ps_game.specs.Games.{vertex_count, owner_of, priority_of, successors_of, HasEdge}
use Rattle.ps_text.proofs.ParsedAnswers.Decisions.{Decided, decide_not, decide_as, decide_both, decide_one, decide_in}
use Rattle.ps_certificate.specs.Certificates.{CertificateData, winner_of, choice_of}
use Rattle.ps_certificate.proofs.FlawsAndValidity.SomeFlaw.{IsFirstPlace, first_place}
use Rattle.ps_certificate.proofs.FlawsAndValidity.SuccessorEdges.{place_of}
use Rattle.ps_pruning.specs.Lifting.{Pruning, IsKeptAs, MayReplace, Guides, Serves, IsFirstIn, AreCandidates, IsGuideBy}

-- no entry of the list has the property P, or there is a first one that has it
abbrev Tried : List ℕ → (ℕ → Type 0) → Type 0
Tried xs P = ((k : ℕ) → k < length xs → ¬ P (slice_index xs k)) ⊎
    ((k : ℕ) × IsFirstPlace (λ j. ¬ P (slice_index xs j)) (λ j. P (slice_index xs j)) (length xs) k)

abbrev first_of : (xs : List ℕ) (P : ℕ → Type 0) → Tried xs P → Option ℕ
first_of xs P (inl none) = None
first_of xs P (inr (k, first)) = Some (slice_index xs k)

first_holds : (xs : List ℕ) (P : ℕ → Type 0) (o : Tried xs P) (x : ℕ) → first_of xs P o ≡ Some x → IsFirstIn xs P x
first_holds xs P (inl none) x is = absurd (cc is)
first_holds xs P (inr (k, first)) x is =
    let same : slice_index xs k ≡ x = grind (arith, is) in record {
      place = k;
      stands = slice_get-get_or xs k 0 first.within ∙ is;
      here = subst P same first.there;
      none_before = λ j y less at. subst (λ (z : ℕ). ¬ P z) (get_or_from_slice_get xs j y 0 at) (first.before j less);
    }

none_holds : (xs : List ℕ) (P : ℕ → Type 0) (o : Tried xs P) → first_of xs P o ≡ None → (x : ℕ) → Contains xs x → ¬ P x
none_holds xs P (inl none) is x inside =
    let (k, within, same) = place_of xs inside in subst (λ (z : ℕ). ¬ P z) same (none k within)
none_holds xs P (inr (k, first)) is x inside = absurd (cc is)

tried : (xs : List ℕ) (P : ℕ → Type 0) → ((x : ℕ) → Decided (P x)) → Tried xs P
tried xs P decide = first_place (λ j. ¬ P (slice_index xs j)) (λ j. P (slice_index xs j)) (length xs)
    (λ k _. turned k (decide (slice_index xs k)))
  where
    turned : (k : ℕ) → Decided (P (slice_index xs k)) → (¬ P (slice_index xs k)) ⊎ P (slice_index xs k)
    turned k (inl holds) = inr holds
    turned k (inr fails) = inl fails

decide_all : (P : ℕ → Type 0) (n : ℕ) → ((k : ℕ) → Decided (P k)) → Decided ((k : ℕ) → k < n → P k)
decide_all P n decide = elim (first_place P (λ k. ¬ P k) n (λ k _. decide k)) [
  | inl all ↦ inl all
  | inr (k, first) ↦ inr (λ all. first.there (all k first.within))
]

decide_same : (m n : ℕ) → Decided (m ≡ n)
decide_same m n = cases_eq m n

decide_less : (m n : ℕ) → Decided (m < n)
decide_less m n = elim (cases_lt m n) [
  | inl less ↦ inl less
  | inr not_less ↦ inr (λ less. omega (arith, less, not_less))
]

decide_is : (o : Option ℕ) (n : ℕ) → Decided (o ≡ Some n)
decide_is None n = inr (λ is. absurd (cc is))
decide_is (Some m) n = elim (cases_eq m n) [
  | inl same ↦ inl (ap (λ (x : ℕ). Some x) same)
  | inr differ ↦ inr (λ is. differ (grind (arith, is)))
]

module _ (p : Pruning) (c : CertificateData) where
  decide_edge : (v w : ℕ) → Decided (HasEdge p.game v w)
  decide_edge v w = decide_both (decide_less v (vertex_count p.game)) (decide_in (successors_of p.game v) w)

  decide_entered : (v w : ℕ) → Decided ((u : ℕ) → HasEdge p.game u v → HasEdge p.game u w)
  decide_entered v w = decide_as
      (λ all u edge. all u edge.0 edge)
      (λ all u below edge. all u edge)
      (decide_all (λ u. HasEdge p.game u v → HasEdge p.game u w) (vertex_count p.game) at_vertex)
    where
      at_vertex : (u : ℕ) → Decided (HasEdge p.game u v → HasEdge p.game u w)
      at_vertex u = elim (decide_edge u w) [
        | inl there ↦ inl (λ _. there)
        | inr missing ↦ elim (decide_edge u v) [
          | inl edge ↦ inr (λ entered. missing (entered edge))
          | inr none ↦ inl (λ edge. absurd (none edge))
        ]
      ]

  decide_replaces : (v w : ℕ) → Decided (MayReplace p v w)
  decide_replaces v w = decide_as
      (λ parts. record { owner = parts.0; priority = parts.1.0; entered = parts.1.1 })
      (λ replaces. (replaces.owner, (replaces.priority, replaces.entered)))
      (decide_both (decide_same (owner_of p.game w) (owner_of p.game v))
      (decide_both (decide_same (priority_of p.game w) (priority_of p.game v)) (decide_entered v w)))

  -- whether u guides v, if u is kept as `vertex` and moves to `chosen`, which is kept as `target`
  decide_guided : (v u vertex chosen target : ℕ) → IsKeptAs p u vertex → choice_of c u ≡ Some chosen →
      IsKeptAs p chosen target → Decided (Guides p c v u)
  decide_guided v u vertex chosen target at choice there = decide_as
      (λ parts. record {
        turn = parts.0;
        won = parts.1.0;
        vertex = vertex;
        is_kept = at;
        replaces = parts.1.1.0;
        chosen = chosen;
        choice = choice;
        target = target;
        is_target = there;
        edge = parts.1.1.1;
      })
      (λ guides. (guides.turn, (guides.won, (replaces_back guides, edge_back guides))))
      (decide_both (decide_not (decide_same (owner_of p.game v) p.mover))
      (decide_both (decide_same (winner_of c u) (owner_of p.game v))
      (decide_both (decide_replaces v vertex) (decide_edge v target))))
    where
      replaces_back : Guides p c v u → MayReplace p v vertex
      replaces_back guides =
          let is : Some guides.vertex ≡ Some vertex = sym guides.is_kept ∙ at in
          let same : guides.vertex ≡ vertex = grind (arith, is) in
          subst (λ (w : ℕ). MayReplace p v w) same guides.replaces

      edge_back : Guides p c v u → HasEdge p.game v target
      edge_back guides =
          let is : Some guides.chosen ≡ Some chosen = sym guides.choice ∙ choice in
          let same : guides.chosen ≡ chosen = grind (arith, is) in
          let moved : IsKeptAs p chosen guides.target =
          subst (λ (x : ℕ). IsKeptAs p x guides.target) same guides.is_target in
          let to : Some guides.target ≡ Some target = sym moved ∙ there in
          let end : guides.target ≡ target = grind (arith, to) in
          subst (λ (w : ℕ). HasEdge p.game v w) end guides.edge

  decide_guides : (v u : ℕ) → Decided (Guides p c v u)
  decide_guides v u = by_vertex (slice_get p.kept u) refl
    where
      by_target : (vertex chosen : ℕ) → IsKeptAs p u vertex → choice_of c u ≡ Some chosen → (o : Option ℕ) →
          slice_get p.kept chosen ≡ o → Decided (Guides p c v u)
      by_target vertex chosen at choice None none = inr (λ guides.
          let is : Some guides.chosen ≡ Some chosen = sym guides.choice ∙ choice in
          let same : guides.chosen ≡ chosen = grind (arith, is) in
          let moved : IsKeptAs p chosen guides.target =
          subst (λ (x : ℕ). IsKeptAs p x guides.target) same guides.is_target in
          let gone : None ≡ Some guides.target = sym none ∙ moved in
          absurd (cc gone))
      by_target vertex chosen at choice (Some target) there = decide_guided v u vertex chosen target at choice there

      by_choice : (vertex : ℕ) → IsKeptAs p u vertex → (o : Option ℕ) → choice_of c u ≡ o → Decided (Guides p c v u)
      by_choice vertex at None none = inr (λ guides.
          let gone : None ≡ Some guides.chosen = sym none ∙ guides.choice in absurd (cc gone))
      by_choice vertex at (Some chosen) choice =
          by_target vertex chosen at choice (slice_get p.kept chosen) refl

      by_vertex : (o : Option ℕ) → slice_get p.kept u ≡ o → Decided (Guides p c v u)
      by_vertex None none = inr (λ guides.
          let gone : None ≡ Some guides.vertex = sym none ∙ guides.is_kept in absurd (cc gone))
      by_vertex (Some vertex) at = by_choice vertex at (choice_of c u) refl

  decide_serves : (v u : ℕ) → Decided (Serves p c v u)
  decide_serves v u = decide_one (decide_is (slice_get p.kept u) v) (decide_guides v u)

  outcome : (order : ℕ → List ℕ) (v : ℕ) → Tried (order v) (Serves p c v)
  outcome order v = tried (order v) (Serves p c v) (decide_serves v)

  abbrev guide_by : (order : ℕ → List ℕ) → ℕ → Option ℕ
  guide_by order v = first_of (order v) (Serves p c v) (outcome order v)

  guide_first : (order : ℕ → List ℕ) (v u : ℕ) → guide_by order v ≡ Some u → IsFirstIn (order v) (Serves p c v) u
  guide_first order v u given = first_holds (order v) (Serves p c v) (outcome order v) u given

  pub guide_there : (order : ℕ → List ℕ) → AreCandidates p c order →
      (guide : ℕ → Option ℕ) × IsGuideBy p c order guide
  guide_there order candidates = (
    guide_by order,
    record {
      is_guide = record {
        serves = λ v u below given. (guide_first order v u given).here;
        complete = λ v u below none serves.
            none_holds (order v) (Serves p c v) (outcome order v) none u (candidates v u below serves) serves;
      };
      first = guide_first order;
    },
  )
