-- In an automaton's game, the keys of the first player stand in the order that `IsInOrder` states.
-- - `between_made`, `between_makes`: the first vertex of a state makes its vertices of the second player; the first of
--   all vertices of the second player from which a step leads to a key makes the vertex of this key
-- - `keys_rise`, `made_there`: the conditions of the order
-- - `game_in_order`: the law
use Rattle.std.specs.Prelude.{◌≡◌, ℕ, ◌<◌, ◌≤◌, List}
use Rattle.std.proofs.Common.{sym, ◌∙◌, subst, inl, inr, arith}
use Rattle.std.proofs.lemmas.Bool.{cases_eq, cases_lt}
use Rattle.ps_diagram.specs.Letters.{IsBefore, IsLeastLetter}
use Rattle.ps_game.specs.Games.{ParityGame, vertex_count, successors_of, HasEdge}
use Rattle.ps_machine.specs.Boards.{Board, IsClassLetter, IsGameOf, LeadsTo}
use Rattle.ps_machine.specs.Numbering.{StandsAt}
use Rattle.ps_machine.specs.declared.key.Key.{Key}
use Rattle.ps_machine.specs.declared.key.Key.TheVariants.{First, Second}
use Rattle.ps_machine.proofs.AutomatonGames.GameKeys.Standing.{one_state, same_some}
use Rattle.ps_basis.specs.ArenaMoves.{GoesThere}
use Rattle.ps_basis.specs.Bases.{CanGoTo}
use Rattle.ps_basis.specs.PairOrder.{HasStepTo, IsMadeAt, IsEarlier, IsMadeBelow, IsInOrder}
use Rattle.ps_basis.proofs.ArenaEdges.{second_letter_same, second_state_same}
use Rattle.ps_basis.proofs.ArenaKeys.{below_keys}
use Rattle.ps_basis.proofs.ClassKeys.{ClassStep, class_step, first_rising, least_is_class, least_leads, second_rising}
use Rattle.ps_basis.proofs.GameSteps.{AtKey, ClassVertex, IntoFirst, IntoSecond, after_start, class_vertex, edge_on}
use Rattle.ps_basis.proofs.GameSteps.{game_is_closed, into_first, into_second, least_step, vertex_of}
use Rattle.ps_basis.proofs.Makers.{IsMaker, made_before, maker_there, makers_rise}

module _ (board : Board) (mover : ℕ) (keys : List Key) (game : ParityGame) (is : IsGameOf board mover keys game) where
  below : (v : ℕ) (key : Key) → StandsAt keys v key → v < vertex_count game
  below v key at = below_keys (LeadsTo board) mover (First board.auto.start 0) keys game is.by_keys v key at

  -- two vertices that a vertex of the first player makes stand in the order of their letters
  letters_rise : (v u w q p x z : ℕ) → StandsAt keys v (First q p) → StandsAt keys u (Second q x) →
      StandsAt keys w (Second q z) → IsMaker game v u → HasEdge game v w → u < w → IsBefore x z
  letters_rise v u w q p x z at_v at_u at_w maker edge less =
      let here : AtKey board mover keys game is v (First q p) = vertex_of board mover keys game is v (First q p) at_v in
      let (j, within, same) = edge.1 in
      let (i, earlier, there) = made_before board mover keys game is u w v j
      (after_start board mover keys game is u q x at_u) less maker (within, same) in
      first_rising board keys (successors_of game v) here.next here.successors q p here.leads_to i j u w x z earlier
      there (within, same) at_u at_w

  -- two vertices that a vertex of the second player makes stand in the order of the least letters that lead to them
  moves_rise : (u v w q x r s t o y z : ℕ) → StandsAt keys u (Second q x) → StandsAt keys v (First r s) →
      StandsAt keys w (First t o) → 0 < v → IsMaker game u v → HasEdge game u w → v < w →
      IsLeastLetter (GoesThere board q x r s) y → IsLeastLetter (GoesThere board q x t o) z → IsBefore y z
  moves_rise u v w q x r s t o y z at_u at_v at_w positive maker edge less one other =
      let here : AtKey board mover keys game is u (Second q x) =
      vertex_of board mover keys game is u (Second q x) at_u in
      let (j, within, same) = edge.1 in
      let (i, earlier, there) = made_before board mover keys game is v w u j positive less maker (within, same) in
      second_rising board keys (successors_of game u) here.next here.successors q x here.leads_to i j v w r s t o y z
      earlier there (within, same) at_v at_w one other

  -- ## Makers of a vertex of the first player

  module _ (v r s i x y : ℕ) (at : StandsAt keys v (First r s)) (made : IsMadeAt board keys r s i x y) where
    between : ClassVertex board mover keys game is i made.state x
    between = class_vertex board mover keys game is i made.state made.priority x made.stands
        (least_is_class board made.state r s x y made.least)

    leads : HasStepTo board made.state r s
    leads = least_leads board made.state r s x y made.least

    between_made : IsMaker game i between.number
    between_made = record {
      edge = between.edge;
      least = λ k less edge.
          let from : IntoSecond board mover keys game is k made.state x =
          into_second board mover keys game is k between.number made.state x between.at edge in
          made.none_before k made.state from.priority less from.at leads;
    }

    -- a vertex from which an edge leads to v is not less than `between`
    none_earlier : (k : ℕ) → k < between.number → (from : IntoFirst board mover keys game is k r s) → ⊥
    none_earlier k less from = with_maker (maker_there board mover keys game is k positive
        (below k (Second from.state from.letter) from.at))
      where
        positive : 0 < k
        positive = after_start board mover keys game is k from.state from.letter from.at

        leads_too : (q : ℕ) → IsClassLetter board q from.letter → from.state ≡ q → HasStepTo board q r s
        leads_too q is_class same = record {
          letter = from.letter;
          is_letter = is_class.here.0;
          reached = subst (λ (a : ℕ). CanGoTo board a from.letter r s) same from.reached;
        }

        at_same : (t : ℕ) → IsMaker game t k → (into : IntoSecond board mover keys game is t from.state from.letter) →
            t ≡ i → ⊥
        at_same t maker into same =
            let state : from.state ≡ made.state = one_state keys i into.priority made.priority
            (subst (λ (a : ℕ). StandsAt keys a (First from.state into.priority)) same into.at) made.stands in
            let at_k : StandsAt keys k (Second made.state from.letter) =
            subst (λ (a : ℕ). StandsAt keys k (Second a from.letter)) state from.at in
            let before : IsBefore from.letter x = letters_rise i k between.number made.state made.priority from.letter x
            made.stands at_k between.at (subst (λ (a : ℕ). IsMaker game a k) same maker) between.edge less in
            made.least.first.none_before from.letter (
              into.is_class.here.0,
              subst (λ (a : ℕ). CanGoTo board a from.letter r s) state from.reached,
            ) before

        with_maker : (t : ℕ) × (t < k) × IsMaker game t k → ⊥
        with_maker (t, earlier, maker) =
            let into : IntoSecond board mover keys game is t from.state from.letter =
            into_second board mover keys game is t k from.state from.letter from.at maker.edge in
            let rises : t ≤ i =
            makers_rise board mover keys game is k between.number t i positive less maker between_made in
            elim (cases_eq t i) [
              | inl same ↦ at_same t maker into same
              | inr other ↦ made.none_before t from.state into.priority (omega (arith, rises, other)) into.at
                  (record { letter = from.letter; is_letter = into.is_class.here.0; reached = from.reached })
            ]

    between_makes : IsMaker game between.number v
    between_makes = record {
      edge = edge_on board mover keys game is between.number v made.state x r s between.at at made.least.first.here.1;
      least = λ k less edge. none_earlier k less (into_first board mover keys game is k v r s at edge);
    }

  -- ## The order

  module _ (v w r s t o : ℕ) (positive : 0 < v) (less : v < w) (at_v : StandsAt keys v (First r s))
      (at_w : StandsAt keys w (First t o)) (i x y l z d : ℕ) (made : IsMadeAt board keys r s i x y)
      (also : IsMadeAt board keys t o l z d) where
    one : ClassVertex board mover keys game is i made.state x
    one = between v r s i x y at_v made

    other : ClassVertex board mover keys game is l also.state z
    other = between w t o l z d at_w also

    one_made : IsMaker game i one.number
    unfolding one
    one_made = between_made v r s i x y at_v made

    other_made : IsMaker game l other.number
    unfolding other
    other_made = between_made w t o l z d at_w also

    one_makes : IsMaker game one.number v
    unfolding one
    one_makes = between_makes v r s i x y at_v made

    other_makes : IsMaker game other.number w
    unfolding other
    other_makes = between_makes w t o l z d at_w also

    -- the vertices of the first player have one state
    same_state : i ≡ l → made.state ≡ also.state
    same_state same = one_state keys l made.priority also.priority
        (subst (λ (a : ℕ). StandsAt keys a (First made.state made.priority)) same made.stands) also.stands

    by_letters : one.number < other.number → IsEarlier i x y l z d
    by_letters earlier =
        let rises : i ≤ l = makers_rise board mover keys game is one.number other.number i l
        (after_start board mover keys game is one.number made.state x one.at) earlier one_made other_made in
        elim (cases_eq i l) [
          | inl same ↦
              let at_one : StandsAt keys one.number (Second also.state x) =
              subst (λ (a : ℕ). StandsAt keys one.number (Second a x)) (same_state same) one.at in
              inr (
                same,
                inl (letters_rise l one.number other.number also.state also.priority x z also.stands at_one
                    other.at (subst (λ (a : ℕ). IsMaker game a one.number) same one_made) other.edge earlier),
              )
          | inr differ ↦ inl (omega (arith, rises, differ))
        ]

    by_moves : one.number ≡ other.number → IsEarlier i x y l z d
    by_moves same = inr (same_index, inr (same_letter, before))
      where
        key_same : Second made.state x ≡ Second also.state z
        key_same = same_some (sym one.at ∙ subst (λ (a : ℕ). StandsAt keys a (Second also.state z)) (sym same) other.at)

        state : made.state ≡ also.state
        state = second_state_same key_same

        same_letter : x ≡ z
        same_letter = second_letter_same key_same

        same_index : i ≡ l
        same_index =
            let not_less : ¬ (i < l) = λ earlier. also.none_before i made.state made.priority earlier made.stands
            (subst (λ (a : ℕ). HasStepTo board a t o) (sym state) (least_leads board also.state t o z d also.least)) in
            let not_more : ¬ (l < i) = λ earlier. made.none_before l also.state also.priority earlier also.stands
            (subst (λ (a : ℕ). HasStepTo board a r s) state (least_leads board made.state r s x y made.least)) in
            omega (arith, not_less, not_more)

        before : IsBefore y d
        before = moves_rise one.number v w made.state x r s t o y d one.at at_v at_w positive one_makes
            (subst (λ (a : ℕ). HasEdge game a w) (sym same) other_makes.edge) less made.least.second
            (subst (λ (a : ℕ). IsLeastLetter (GoesThere board a x t o) d) (sym state)
            (subst (λ (b : ℕ). IsLeastLetter (GoesThere board also.state b t o) d) (sym same_letter)
            also.least.second))

    keys_rise : IsEarlier i x y l z d
    keys_rise =
        let rises : one.number ≤ other.number =
        makers_rise board mover keys game is v w one.number other.number positive less one_makes other_makes in
        elim (cases_eq one.number other.number) [
          | inl same ↦ by_moves same
          | inr differ ↦ by_letters (omega (arith, rises, differ))
        ]

  -- ## Each vertex of the first player but the start is made

  module _ (v u i r s : ℕ) (at : StandsAt keys v (First r s)) (maker : IsMaker game u v)
      (from : IntoFirst board mover keys game is u r s) (first : IsMaker game i u)
      (into : IntoSecond board mover keys game is i from.state from.letter) where
    none_leads : (k q p : ℕ) → k < i → StandsAt keys k (First q p) → ¬ HasStepTo board q r s
    none_leads k q p less at_k leads = with_class (class_step board q r s leads)
      where
        at_class : (step : ClassStep board q r s) → (class : ClassVertex board mover keys game is k q step.class) →
            (t : ℕ) × (t < class.number) × IsMaker game t class.number → u < class.number → ⊥
        at_class step class (t, earlier, made) more =
            let rises : i ≤ t = makers_rise board mover keys game is u class.number i t
            (after_start board mover keys game is u from.state from.letter from.at) more first made in
            made.least k (omega (arith, less, rises)) class.edge

        with_class : ClassStep board q r s → ⊥
        with_class step =
            let class : ClassVertex board mover keys game is k q step.class =
            class_vertex board mover keys game is k q p step.class at_k step.is_class in
            let edge : HasEdge game class.number v =
            edge_on board mover keys game is class.number v q step.class r s class.at at step.reached in
            elim (cases_lt class.number u) [
              | inl below ↦ maker.least class.number below edge
              | inr above ↦ elim (cases_eq class.number u) [
                | inl same ↦ first.least k less (subst (λ (a : ℕ). HasEdge game k a) same class.edge)
                | inr differ ↦ at_class step class (maker_there board mover keys game is class.number
                    (after_start board mover keys game is class.number q step.class class.at)
                    (below class.number (Second q step.class) class.at)) (omega (arith, above, differ))
              ]
            ]

    made_at : (x : ℕ) × (y : ℕ) × IsMadeAt board keys r s i x y
    made_at =
        let (x, y, least) = least_step board from.state r s (record {
          letter = from.letter;
          is_letter = into.is_class.here.0;
          reached = from.reached;
        }) in (
          x,
          y,
          record {
            state = from.state;
            priority = into.priority;
            stands = into.at;
            least = least;
            none_before = none_leads;
          },
        )

  made_there : (v r s : ℕ) → 0 < v → StandsAt keys v (First r s) → IsMadeBelow board keys r s v
  made_there v r s positive at = with_maker (maker_there board mover keys game is v positive (below v (First r s) at))
    where
      with_first : (u : ℕ) → u < v → IsMaker game u v → (from : IntoFirst board mover keys game is u r s) →
          (i : ℕ) × (i < u) × IsMaker game i u → IsMadeBelow board keys r s v
      with_first u less maker from (i, earlier, first) =
          let (x, y, made) = made_at v u i r s at maker from first
          (into_second board mover keys game is i u from.state from.letter from.at first.edge) in
          record { index = i; x = x; y = y; below = omega (arith, less, earlier); made = made }

      with_maker : (u : ℕ) × (u < v) × IsMaker game u v → IsMadeBelow board keys r s v
      with_maker (u, less, maker) =
          let from : IntoFirst board mover keys game is u r s =
          into_first board mover keys game is u v r s at maker.edge in
          with_first u less maker from (maker_there board mover keys game is u
          (after_start board mover keys game is u from.state from.letter from.at)
          (below u (Second from.state from.letter) from.at))

  pub game_in_order : IsInOrder board keys
  game_in_order = record {
    begins = is.by_keys.begins;
    different = is.by_keys.different;
    closed = game_is_closed board mover keys game is;
    made = λ v r s positive at. made_there v r s positive at;
    rising = λ v w r s t o positive less at_v at_w i x y l z d made also.
        keys_rise v w r s t o positive less at_v at_w i x y l z d made also;
  }
