-- The edges of a state are joined into one decision diagram, one edge after another.
use Rattle.std.proofs.Common.{◌≡◌, ◌≢◌, ℕ, ◌+◌, ◌^◌, ◌<◌, ◌≤◌, ◌⊎◌, inl, inr, List, length, Option, Some, None, sym}
use Rattle.std.proofs.Common.{rules, subst, ◌∙◌, arith}
use Rattle.std.specs.List.{slice_get}
use Rattle.std.specs.Option.{option_map, IsSomeAnd}
use Rattle.std.proofs.lemmas.Bool.{cases_lt}
use Rattle.ps_text.proofs.Combinators.Simple.{same_some}
use Rattle.ps_diagram.specs.Leaves.{AreCompatible as AgreeingLeaves, either_leaf}
use Rattle.ps_diagram.specs.Table.{Table, IsNode, Keeps, leaf_of}
use Rattle.ps_hoa.specs.Files.{EdgeData, RowData, FileData}
use Rattle.ps_hoa.specs.Sound.{IsSoundFile, IsSoundRow}
use Rattle.ps_hoa.proofs.Soundness.SoundLaws.{sound_edge}
use Rattle.ps_automaton.specs.Answers.{AreAlike, AreClashing}
use Rattle.ps_automaton.specs.Inner.Drafts.{AreJoined, IsFirstOfRow, IsTargetAt, IsUnion, ShowsEdge, TakenEdge}
use Rattle.ps_automaton.specs.Inner.Places.{AreDistinct}
use Rattle.ps_automaton.specs.Inner.Targets.{IsTargetOf}
use Rattle.ps_automaton.specs.declared.targets.Target.{Target}
use Rattle.ps_automaton.proofs.EdgesAtLetters.Fitting.{alike_of_target, target_of_alike}
use Rattle.ps_automaton.proofs.EdgesAtLetters.TakenEdges.{clash_of}
use Rattle.ps_automaton.proofs.EdgesAtLetters.Meeting.{kept_leaf, shown_is_taken, taken_is_shown}

-- the diagram of an edge has the given leaf exactly at the letters at which the edge is taken
pub marked_shows : (file : FileData) (row : RowData) (edge : EdgeData) (t u : Table) (node marked value : ℕ) →
    ShowsEdge file row edge t node 1 → ((letter : ℕ) → leaf_of u marked letter ≡ option_map (λ _. value)
    (leaf_of t node letter)) → ShowsEdge file row edge u marked value
marked_shows file row edge t u node marked value shows is letter small = search rules

joined_second : (Q : ℕ → Type 0) (o : Option ℕ) (p : ℕ) → AgreeingLeaves o (Some p) → Q p →
    IsSomeAnd (either_leaf o (Some p)) Q
joined_second Q o p h k = search rules

joined_from : (o m : Option ℕ) {x : ℕ} → either_leaf o m ≡ Some x → (o ≡ Some x) ⊎ (m ≡ Some x)
joined_from o m h = search rules

pub at_leaf : (P : ℕ → Type 0) (o : Option ℕ) {x : ℕ} → o ≡ Some x → IsSomeAnd o P → P x
at_leaf P o e h = rw e at h

pub wider : {file : FileData} {row : RowData} {count letter : ℕ} → TakenEdge file row count letter →
    TakenEdge file row (count + 1) letter
wider e = search rules

module _ {file : FileData} (sound : IsSoundFile file) {row : RowData} (row_sound : IsSoundRow file row) where
  -- edges that were joined into one diagram do not clash
  pub union_clear : {count : ℕ} {targets : List Target} {place_at : ℕ → Option ℕ} →
      AreJoined file row count targets place_at → {a b : ℕ} → b < count → AreClashing file row a b → ⊥
  union_clear {count} {targets} {place_at} u {a} {b} within k =
      let before : a < count = omega (arith, within) in
      let one : TakenEdge file row count k.letter = grind arith in
      let other : TakenEdge file row count k.letter =
      record { place = b; within = within; edge = k.other; at_place = k.at_second; taken = k.other_taken } in
      k.differ (by_leaf (place_at k.letter) (u.there k.letter k.is_letter one) (u.there k.letter k.is_letter other))
    where
      by_leaf : (o : Option ℕ) → IsSomeAnd o (IsTargetAt row k.one targets) →
          IsSomeAnd o (IsTargetAt row k.other targets) → AreAlike row k.one k.other
      by_leaf None h g = absurd h
      by_leaf (Some p) h g =
          let same : g.0 ≡ h.0 = same_some g.0 h.0 (sym g.1 ∙ h.1) in
          alike_of_target sound row_sound a b k.at_first k.at_second h.2 (rw same at g.2)

  -- one more edge
  module _ {count : ℕ} {edge : EdgeData} (at : slice_get row.edges count ≡ Some edge) {target : Target}
      (is : IsTargetOf row edge target) {old : List Target} (new : List Target) (place : ℕ)
      (grows : (i : ℕ) (x : Target) → slice_get old i ≡ Some x → slice_get new i ≡ Some x)
      (stored : slice_get new place ≡ Some target) (back : (i : ℕ) (x : Target) → slice_get new i ≡ Some x →
      (slice_get old i ≡ Some x) ⊎ (x ≡ target)) {before t : Table} (keeps : Keeps before t) {node : ℕ} (marked : ℕ)
      (union : IsUnion file row count old before node) (shows : ShowsEdge file row edge t marked place) where
    node_leaf : (letter : ℕ) → leaf_of t node letter ≡ leaf_of before node letter
    node_leaf letter = kept_leaf keeps letter union.held

    pub union_grown : {after : Table} {made : ℕ} → IsNode after made →
        ((letter : ℕ) → leaf_of after made letter ≡ either_leaf (leaf_of t node letter) (leaf_of t marked letter)) →
        ((letter : ℕ) → AgreeingLeaves (leaf_of t node letter) (leaf_of t marked letter)) →
        IsUnion file row (count + 1) new after made
    union_grown held leaf agree = record {
      held = held;
      joined = record {
        there = λ letter small e. rw (leaf letter) (by_place letter small e (cases_lt e.place count));
        from = search (rules, joined_from);
        within = λ i x e. by_target i x (back i x e);
      };
    }
      where
        by_target : (i : ℕ) (x : Target) → (slice_get old i ≡ Some x) ⊎ (x ≡ target) → x.state < file.states
        by_target i x h = grind (arith, sound_edge)

        by_place : (letter : ℕ) → letter < 2 ^ length file.names → (e : TakenEdge file row (count + 1) letter) →
            (e.place < count) ⊎ (count ≤ e.place) →
            IsSomeAnd (either_leaf (leaf_of t node letter) (leaf_of t marked letter)) (IsTargetAt row e.edge new)
        by_place letter small e (inl low) =
            let first : TakenEdge file row count letter = grind arith in
            let was = subst (λ o. IsSomeAnd o (IsTargetAt row e.edge old)) (sym (node_leaf letter))
            (union.joined.there letter small first) in
            grind arith
        by_place letter small e (inr high) = search (rules, same_some, taken_is_shown, joined_second)

    -- if the diagram of the joined edges and the diagram of a further edge have different leaves at a letter, two edges
    -- clash
    pub union_clash : AreDistinct new → (letter : ℕ) {x y : ℕ} → letter < 2 ^ length file.names →
        leaf_of t node letter ≡ Some x → leaf_of t marked letter ≡ Some y → x ≢ y →
        (first : ℕ) × AreClashing file row first count
    union_clash distinct letter {x} {y} small first second differ =
        let was : leaf_of before node letter ≡ Some x = sym (node_leaf letter) ∙ first in
        let e = union.joined.from letter x small was in
        let there : IsTargetAt row e.edge old x =
        at_leaf (IsTargetAt row e.edge old) (leaf_of before node letter) was (union.joined.there letter small e) in
        let taken = shown_is_taken place (shows letter small) second in
        let mark : place ≡ y = search (rules, same_some, taken_is_shown) in (
          e.place,
          clash_of e.within e.at_place at small e.taken taken
              (λ alike. grind (arith, target_of_alike there.2 is alike)),
        )

  -- if the edge at index `count` is the first that clashes with an earlier edge, and `first` is the smallest index of
  -- such an earlier edge, these two edges are the state's first clashing pair
  pub first_of_row : {count : ℕ} {targets : List Target} {t : Table} {node : ℕ} →
      IsUnion file row count targets t node → {first : ℕ} → AreClashing file row first count →
      ((a : ℕ) → AreClashing file row a count → first ≤ a) → IsFirstOfRow file row first count
  first_of_row {count} u k least = record {
    clashing = k;
    least_second = λ a b other. elim (cases_lt b count) [
      | inl low ↦ absurd (union_clear u.joined low other)
      | inr high ↦ high
    ];
    least_first = least;
  }
