-- For each class of first-player letters, the code reads the second player's moves from the diagram of the steps that
-- can follow the class; they are the moves of the automaton's game.
use Rattle.std.proofs.Common.{◌≡◌, ℕ, ◌+◌, ◌^◌, ◌<◌, List, length, map, get_or, Some, ap, sym}
use Rattle.std.proofs.Common.{◌∙◌, arith, rules}
use Rattle.std.specs.List.{All}
use Rattle.std.specs.Option.{unwrap_or}
use Rattle.std.proofs.lemmas.List.{get_or_default}
use Rattle.std.proofs.lemmas.List.Elements.{All-map}
use Rattle.std.proofs.lemmas.Simd.{map-map}
use Rattle.ps_diagram.specs.Letters.{IsBefore}
use Rattle.ps_diagram.specs.Table.{Table, leaf_of}
use Rattle.ps_diagram.specs.Reached.{AreLeaves}
use Rattle.ps_diagram.specs.Reached as reached
use Rattle.ps_automaton.specs.Automata.{AutomatonData, node_of, pair_of, step_of}
use Rattle.ps_machine.specs.Boards.{Board, IsSecondLetter, SameStep, IsMove, IsListOf, LeadsTo}
use Rattle.ps_machine.specs.BuiltBoards.{board_of}
use Rattle.ps_machine.specs.Dividing.{IsFit}
use Rattle.ps_machine.specs.Inner.Exploring.{AreLeavesBehind}
use Rattle.ps_machine.specs.Inner.Moving.{IsRest, leaf_key, leaf_keys, step_key}
use Rattle.ps_machine.specs.declared.key.Key.TheVariants.{Second}
use Rattle.ps_machine.specs.declared.key.Order.{Order}
use Rattle.ps_machine.proofs.AutomatonGames.BoardLetters.{second_is, neither_before, second_itself, second_agrees}
use Rattle.ps_machine.proofs.AutomatonGames.BoardSteps.{some_of, map_same, listed, same_step, below}
use Rattle.ps_machine.proofs.AutomatonGames.BoardSteps.{below_back}

module _ {order : Order} {a : AutomatonData} {mask : ℕ} {t : Table} {q x rest : ℕ} {found : List (ℕ × ℕ)}
    (f : IsFit order a mask t) (r : IsRest order a mask t q x rest) (are : AreLeaves t rest found) where
  abbrev board : Board
  board = board_of order a

  abbrev Pair : Type 0
  Pair = ℕ × ℕ

  -- `found_leaf k` is the leaf at the index k of the list of leaves, and `found_letter k` is the least letter that
  -- leads to this leaf
  abbrev found_leaf : ℕ → ℕ
  found_leaf k = (get_or found k (0, 0)).0

  abbrev found_letter : ℕ → ℕ
  found_letter k = (get_or found k (0, 0)).1

  leads : (k : ℕ) → k < length found → reached.LeadsToLeaf t rest (found_leaf k) (found_letter k)
  leads k within = (are.least k (0, 0) within).here

  none_earlier : (k : ℕ) {y : ℕ} → (within : k < length found) → y < 2 ^ length a.names →
      leaf_of t rest y ≡ Some (found_leaf k) → IsBefore y (found_letter k) → ⊥
  none_earlier k {y} within lt e before = (are.least k (0, 0) within).none_before y (below_back f y lt, e) before

  move_below : (k : ℕ) → k < length found → found_letter k < 2 ^ length a.names
  move_below k within = below f (found_letter k) (leads k within).0

  move_second : (k : ℕ) → k < length found → IsSecondLetter board (found_letter k)
  move_second k within =
      let y = found_letter k in
      second_itself board y (move_below k within) (λ before. none_earlier k within (second_is board y).within
      (grind (arith, second_agrees board mask y f.is_mask (move_below k within), leads k within)) before)

  pub move_leaf : (k : ℕ) → (within : k < length found) → leaf_of a.store (node_of a q)
      (x + found_letter k) ≡ Some (found_leaf k)
  move_leaf k within = sym (r.leaves (found_letter k) (move_second k within)) ∙ (leads k within).1

  step_same : (y z : ℕ) → IsSecondLetter board y → IsSecondLetter board z → leaf_of t rest y ≡ leaf_of t rest z →
      SameStep board q (x + y) (x + z)
  step_same y z hy hz e = same_step order a (sym (r.leaves y hy) ∙ e ∙ r.leaves z hz)

  pub move_is : (k : ℕ) → k < length found → IsMove board q x (found_letter k)
  move_is k within = grind (arith, move_second k within, leads k within)

  pub record Move_of (y : ℕ) : Type 0 where
    pub place : ℕ
    pub within : place < length found
    pub is : leaf_of t rest y ≡ Some (found_leaf place)

  pub move_of : {y : ℕ} → IsSecondLetter board y → Move_of y
  move_of {y} hy =
      let there = some_of (leaf_of a.store (node_of a q) (x + y)) (λ leaf. leaf < length a.steps) (grind arith) in
      let leaf = r.leaves y hy ∙ there.1 in
      let any = are.each there.0 y (below_back f y hy.within, leaf) in
      grind (arith, get_or_default)

  move_found : (y : ℕ) → IsMove board q x y → (m : Move_of y) → found_letter m.place ≡ y
  move_found y is m = grind (arith, move_second, neither_before, step_same, leads, none_earlier)

  moves_listed : IsListOf (IsMove board q x) (map (λ (p : Pair). p.1) found)
  moves_listed = listed (IsMove board q x) (λ (p : Pair). p.1) found (0, 0) move_is
      (λ y is. (let m = move_of is.here.0 in (m.place, m.within, move_found y is m))) (λ i j less within. grind arith)

  pub leaf_within : (k : ℕ) → k < length found → found_leaf k < length a.steps
  leaf_within k within = search (rules, move_leaf)

  abbrev pub leaves_in : List ℕ
  leaves_in = map (λ (p : Pair). p.0) found

  -- the leaves stand for the steps after the letter x, in the order of the second player's letters
  pub leaves_lead : LeadsTo board (Second q x) (leaf_keys a leaves_in)
  leaves_lead = (
    map (λ (p : Pair). p.1) found,
    moves_listed,
    map-map (leaf_key a) (λ (p : Pair). p.0) found
        ∙ map_same (λ (p : Pair). leaf_key a p.0) (λ (p : Pair). step_key (step_of a q (x + p.1))) found (0, 0)
        (λ k within. sym (ap (λ o. step_key (pair_of a (unwrap_or o (length a.steps)))) (move_leaf k within)))
        ∙ sym (map-map (λ y. step_key (step_of a q (x + y))) (λ (p : Pair). p.1) found),
  )

  pub move_named : All (λ (p : ℕ × ℕ). p.0 < length a.steps) found
  move_named k d within = grind (arith, get_or_default found k (0, 0) d within, leaf_within k within)

  pub leaves_behind : AreLeavesBehind order a q x leaves_in
  leaves_behind = record {
    named = All-map (λ leaf. leaf < length a.steps) (λ (p : Pair). p.0) found
        (λ k d within. move_named k d within);
    leads = leaves_lead;
  }
