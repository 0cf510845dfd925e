-- The edges of a vertex with one cover are added to the product with an automaton in the making.
use Rattle.std.proofs.Common.{◌≡◌, ◌⊎◌, ℕ, ◌+◌, ◌<◌, ◌≤◌, inl, inr, List, [], ◌∷◌, ◌++◌, Option, Some}
use Rattle.std.proofs.Common.{get_or, length, refl, sym, ap, subst, ◌∙◌, arith, length-append}
use Rattle.std.specs.Prelude.{IsSomeAnd}
use Rattle.std.specs.Option.{unwrap_or}
use Rattle.std.specs.List.{Contains, slice_get}
use Rattle.std.proofs.lemmas.List.{append-nil, append_assoc}
use Rattle.std.proofs.lemmas.Option.{get_or_from_slice_get, slice_get-get_or, slice_get_within}
use Rattle.ps_automaton.specs.Automata.{AutomatonData, IsWhole, node_of, pair_of, step_of}
use Rattle.ps_automaton.specs.declared.step.Step.{Step}
use Rattle.ps_diagram.specs.Table.{leaf_of}
use Rattle.ps_diagram.proofs.ClassesOfLetters.Distinct.{at_end, at_last, at_left}
use Rattle.ps_diagram.proofs.NodeTables.KnownLemmas.{pair_same}
use Rattle.ps_keys.specs.Keys.{IsPlacedKey}
use Rattle.ps_product.specs.Words.{HasGrown}
use Rattle.ps_product.proofs.ExploredProducts.WordNumbers.{grown_none, grown_on, pair_eq, still_there}
use Rattle.ps_simulate.proofs.NamingLemmas.{some_same}
use Rattle.ps_tableau.specs.declared.edge.Edge.{Edge}
use Rattle.ps_tableau_product.specs.BoardStates.{edges_of_state}
use Rattle.ps_tableau_product.specs.Inner.Alphabets.{AreMet}
use Rattle.ps_tableau_product.specs.JointGraphs.{no_joint}
use Rattle.ps_tableau_product.specs.Inner.Joining.{AddsJointCover, ArePaired, HasEachJoint}
use Rattle.ps_tableau_product.specs.Inner.Joining.{IsJoinedAt, IsPaired, JoinsUpTo, JointDraftData, LeadsJointly}
use Rattle.ps_tableau_product.specs.Inner.Joining.{Pairing, joint_covers}
use Rattle.ps_tableau_product.specs.Joints.{read_by}
use Rattle.ps_tableau_product.specs.Inner.Rows.{ServesFor}
use Rattle.ps_tableau_product.specs.Inner.States.{IsNumberOfSet}
use Rattle.ps_tableau_product.specs.declared.joint.JointEdge.{JointEdge}
use Rattle.ps_tableau_product.proofs.FairProducts.Drafts.{adds_none}
use Rattle.ps_tableau_product.proofs.JointProducts.JointDrafts.{paired_more}
use Rattle.ps_tableau_product.proofs.FairProducts.RowLemmas.{at_right}

-- ## One leaf after another

-- a key that was placed has its place in the list, which has grown
pub record IsPlaced (old new : List (ℕ × ℕ)) (key : ℕ × ℕ) (place : ℕ) : Type 0 where
  pub grown : HasGrown old new
  pub there : slice_get new place ≡ Some key
  pub from : (i : ℕ) (v : ℕ × ℕ) → slice_get new i ≡ Some v → (slice_get old i ≡ Some v) ⊎ (i ≡ place)

pub pair_placed : (old new : List (ℕ × ℕ)) (key : ℕ × ℕ) (place : ℕ) → IsPlacedKey pair_eq old new key place →
    IsPlaced old new key place
pair_placed old new key place placed = elim placed [
  | inl known ↦ rw known.0 (record {
    grown = grown_none old;
    there = slice_get-get_or old place key known.1
        ∙ ap (λ (k : ℕ × ℕ). Some k) (pair_same (get_or old place key) key (known.2 key));
    from = λ i v at. inl at;
  })
  | inr fresh ↦ rw fresh.0 (record {
    grown = record { more = key ∷ []; is = refl };
    there = ap (slice_get (old ++ key ∷ [])) fresh.1 ∙ at_end old key;
    from = λ i v at. elim (at_last old key i at) [
      | inl before ↦ inl before
      | inr last ↦ inr (last.1 ∙ sym fresh.1)
    ];
  })
]

-- the first key that is placed is alone
pub first_placed : (old new : List (ℕ × ℕ)) (key : ℕ × ℕ) (place : ℕ) → old ≡ [] →
    IsPlacedKey pair_eq old new key place → new ≡ key ∷ []
first_placed old new key place none placed = elim placed [
  | inl known ↦ absurd (omega (arith, known.1, ap (λ (l : List (ℕ × ℕ)). length l) none))
  | inr fresh ↦ fresh.0 ∙ ap (λ (l : List (ℕ × ℕ)). l ++ key ∷ []) none
]

pub joins_none : (own : AutomatonData) (vertices met : List (ℕ × ℕ)) (state : ℕ) (cover : Edge)
    (row : List JointEdge) → JoinsUpTo own vertices vertices met state cover row row 0
joins_none own vertices met state cover row = record {
  grown = grown_none vertices;
  more = [];
  made_is = sym (append-nil row);
  one_each = refl;
  each = λ k x at. absurd (omega (arith, slice_get_within [] k x at));
  from = λ i v at. inl at;
}

joined_kept : {own : AutomatonData} {old new : List (ℕ × ℕ)} {found : ℕ × ℕ} {state : ℕ} {cover : Edge}
    {x : JointEdge} → HasGrown old new → IsJoinedAt own old found state cover x →
    IsJoinedAt own new found state cover x
joined_kept {x = x} grown is = record {
  cover_is = is.cover_is;
  letter_is = is.letter_is;
  priority_is = is.priority_is;
  stands = still_there x.to grown is.stands;
}

pub joins_more : {own : AutomatonData} {old mid new met : List (ℕ × ℕ)} {state : ℕ} {cover : Edge}
    {row made after : List JointEdge} {count : ℕ} (x : JointEdge) (place : ℕ) →
    JoinsUpTo own old mid met state cover row made count →
    IsPlaced mid new ((pair_of own (get_or met count (0, 0)).0).state, state) place → after ≡ made ++ x ∷ [] →
    x.to ≡ place → x.cover ≡ cover → x.letter ≡ (get_or met count (0, 0)).1 →
    x.priority ≡ (pair_of own (get_or met count (0, 0)).0).priority →
    JoinsUpTo own old new met state cover row after (count + 1)
joins_more {own} {old} {mid} {new} {met} {state} {cover} {row} {made} {after} {count} x place joins placed pushed to_is
    cover_is letter_is priority_is =
    let last : IsJoinedAt own new (get_or met count (0, 0)) state cover x = record {
      cover_is = cover_is;
      letter_is = letter_is;
      priority_is = priority_is;
      stands = ap (slice_get new) to_is ∙ placed.there;
    } in
    record {
      grown = grown_on joins.grown placed.grown;
      more = joins.more ++ x ∷ [];
      made_is = pushed ∙ ap (λ (l : List JointEdge). l ++ x ∷ []) joins.made_is
          ∙ append_assoc row joins.more (x ∷ []);
      one_each = length-append joins.more (x ∷ []) ∙ ap (λ n. n + 1) joins.one_each;
      each = λ k y at. elim (at_last joins.more x k at) [
        | inl before ↦ joined_kept placed.grown (joins.each k y before)
        | inr end ↦
            let k_is : k ≡ count = end.1 ∙ joins.one_each in
            subst (λ (n : ℕ). IsJoinedAt own new (get_or met n (0, 0)) state cover y) (sym k_is)
            (subst (IsJoinedAt own new (get_or met count (0, 0)) state cover) (sym end.0) last)
      ];
      from = λ i v at. elim (placed.from i v at) [
        | inl before ↦ elim (joins.from i v before) [
          | inl older ↦ inl older
          | inr led ↦ inr (led.0, led.1, at_left joins.more (x ∷ []) led.0 led.2, led.3)
        ]
        | inr here ↦ inr (length joins.more, x, at_end joins.more x, to_is ∙ sym here)
      ];
    }

-- ## One cover

-- the automaton's step at a letter that leads to a leaf
step_is : (own : AutomatonData) (q letter leaf : ℕ) → leaf_of own.store (node_of own q) letter ≡ Some leaf →
    step_of own q letter ≡ pair_of own leaf
step_is own q letter leaf is = ap (λ (o : Option ℕ). pair_of own (unwrap_or o (length own.steps))) is

pub leaf_low : (own : AutomatonData) → IsWhole own → (q letter leaf : ℕ) → q ≤ own.states →
    leaf_of own.store (node_of own q) letter ≡ Some leaf → leaf < length own.steps
leaf_low own whole q letter leaf low is =
    subst (λ (o : Option ℕ). IsSomeAnd o (λ (k : ℕ). k < length own.steps)) is (whole.leaves q letter low)

module _ (s : Pairing) (old : JointDraftData) (v : ℕ × ℕ) (cover : Edge) (met : List (ℕ × ℕ)) (are : ArePaired s old)
    (whole : IsWhole s.own) (low_own : v.0 ≤ s.own.states)
    (is_met : AreMet s.few s.places s.own v.0 old.states.board.guards cover.guard met)
    (known : Contains (joint_covers old.states v) cover) where
  pub adds_no_joint : (row : List JointEdge) → length met ≡ 0 → AddsJointCover s old old v cover row row
  adds_no_joint row none = record {
    adds = adds_none row are;
    more = [];
    made_is = sym (append-nil row);
    lead = λ k x at. absurd (omega (arith, slice_get_within [] k x at));
    whole = λ letter low serves.
        let m = is_met.whole letter low serves in
        absurd (omega (arith, slice_get_within met m.0 (m.1, m.2) m.3, none));
  }

  module _ (new : JointDraftData) {state : ℕ} {row made : List JointEdge}
      (number : IsNumberOfSet old.states cover.next new.states state)
      (joins : JoinsUpTo s.own old.vertices new.vertices met state cover row made (length met))
      (rows : new.rows ≡ old.rows) where
    found_at : (k : ℕ) → k < length met → slice_get met k ≡ Some (get_or met k (0, 0))
    found_at k lt = slice_get-get_or met k (0, 0) lt

    sound_at : (k : ℕ) → k < length met →
        ((get_or met k (0, 0)).1 < s.few) × ServesFor old.states cover (get_or met k (0, 0)).1 ×
        (leaf_of s.own.store (node_of s.own v.0) (read_by s.places (get_or met k (0, 0)).1) ≡ Some
        (get_or met k (0, 0)).0)
    sound_at k lt = is_met.sound k (get_or met k (0, 0)).0 (get_or met k (0, 0)).1 (found_at k lt)

    low_at : (k : ℕ) (x : JointEdge) → slice_get joins.more k ≡ Some x → k < length met
    low_at k x at = omega (arith, slice_get_within joins.more k x at, joins.one_each)

    known_now : Contains (joint_covers new.states v) cover
    known_now = subst (λ (es : List (List Edge)). Contains (edges_of_state es v.1) cover) (sym number.edges) known

    serves_now : (letter : ℕ) → ServesFor old.states cover letter → ServesFor new.states cover letter
    serves_now letter serves = rw number.board serves

    serves_before : (letter : ℕ) → ServesFor new.states cover letter → ServesFor old.states cover letter
    serves_before letter serves = rw (← number.board) serves

    lead : (k : ℕ) (x : JointEdge) → slice_get joins.more k ≡ Some x → LeadsJointly s new.states new.vertices v x
    lead k x at =
        let is = joins.each k x at in
        let sound = sound_at k (low_at k x at) in
        let pair = get_or met k (0, 0) in
        let step : step_of s.own v.0 (read_by s.places x.letter) ≡ pair_of s.own pair.0 =
        ap (λ (n : ℕ). step_of s.own v.0 (read_by s.places n)) is.letter_is
        ∙ step_is s.own v.0 (read_by s.places pair.1) pair.0 sound.2 in
        record {
          to = ((pair_of s.own pair.0).state, state);
          stands = is.stands;
          low = subst (λ (n : ℕ). n < s.few) (sym is.letter_is) sound.0;
          own = ap (λ (y : Step). y.state) (sym step);
          priority = is.priority_is ∙ ap (λ (y : Step). y.priority) (sym step);
          known = subst (Contains (joint_covers new.states v)) (sym is.cover_is) known_now;
          serves = subst (λ (c : Edge). ServesFor new.states c x.letter) (sym is.cover_is)
              (subst (ServesFor new.states cover) (sym is.letter_is) (serves_now pair.1 sound.1));
          next = number.there ∙ ap (λ (c : Edge). Some c.next) (sym is.cover_is);
        }

    joint_at_letter : HasEachJoint s new.states new.vertices v made cover
    joint_at_letter letter low serves =
        let m = is_met.whole letter low (serves_before letter serves) in
        let k = m.0 in
        let lt : k < length met = slice_get_within met k (m.1, m.2) m.3 in
        let pair_is : get_or met k (0, 0) ≡ (m.1, m.2) = get_or_from_slice_get met k (m.1, m.2) (0, 0) m.3 in
        let x = get_or joins.more k no_joint in
        let at : slice_get joins.more k ≡ Some x =
        slice_get-get_or joins.more k no_joint (omega (arith, lt, joins.one_each)) in
        let is = joins.each k x at in
        let r = at_right row joins.more k x at in
        let step : step_of s.own v.0 (read_by s.places letter) ≡ pair_of s.own (get_or met k (0, 0)).0 =
        step_is s.own v.0 (read_by s.places letter) m.1 m.4
        ∙ ap (λ (y : ℕ × ℕ). pair_of s.own y.0) (sym pair_is) in
        record {
          place = r.0;
          passage = x;
          there = subst (λ (l : List JointEdge). slice_get l r.0 ≡ Some x) (sym joins.made_is) r.1;
          cover_is = is.cover_is;
          to = ((pair_of s.own (get_or met k (0, 0)).0).state, state);
          stands = is.stands;
          own = ap (λ (y : Step). y.state) (sym step);
          priority = is.priority_is ∙ ap (λ (y : Step). y.priority) (sym step);
        }

    paired_now : (i : ℕ) (w : ℕ × ℕ) → slice_get new.vertices i ≡ Some w → IsPaired s new.states w
    paired_now i w at = elim (joins.from i w at) [
      | inl before ↦ paired_more number.sets w (are.each i w before)
      | inr led ↦
          let k = led.0 in
          let x = led.1 in
          let is = joins.each k x led.2 in
          let sound = sound_at k (low_at k x led.2) in
          let pair = get_or met k (0, 0) in
          let target : ℕ × ℕ = ((pair_of s.own pair.0).state, state) in
          let same : target ≡ w =
          some_same target w (sym is.stands ∙ ap (slice_get new.vertices) led.3 ∙ at) in
          let leaf = leaf_low s.own whole v.0 (read_by s.places pair.1) pair.0 low_own sound.2 in
          let here : IsPaired s new.states target = record {
            own = whole.targets pair.0 leaf;
            state = slice_get_within new.states.sets state cover.next number.there;
          } in
          subst (IsPaired s new.states) same here
    ]

    pub adds_joint : AddsJointCover s old new v cover row made
    adds_joint = record {
      adds = record {
        are_fit = record { states = number.states; each = paired_now };
        board = number.board;
        edges = number.edges;
        sets = number.sets;
        rows = rows;
        vertices = record {
          grown = joins.grown;
          from = λ i w at. elim (joins.from i w at) [
            | inl before ↦ inl before
            | inr led ↦
                let r = at_right row joins.more led.0 led.1 led.2 in
                inr (
                  r.0,
                  led.1,
                  subst (λ (l : List JointEdge). slice_get l r.0 ≡ Some led.1) (sym joins.made_is) r.1,
                  led.3,
                )
          ];
        };
      };
      more = joins.more;
      made_is = joins.made_is;
      lead = lead;
      whole = joint_at_letter;
    }
