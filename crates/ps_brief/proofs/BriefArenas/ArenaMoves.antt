-- The second player's moves in an arena, from the leaves behind a letter.
-- - `over_mask`, `rest_is`: what can follow a letter of the first player is the diagram behind it
-- - `move_listed`: the listing has each key to which the second player can move
-- - `moves_more`, `moves_all`: the vertices of one more leaf, and of all leaves
-- - `leaf_named`, `items_lead`, `leaf_listed`: what holds of the leaves that are found behind a letter
use Rattle.std.specs.Prelude.{◌≡◌, ℕ, ◌+◌, ◌<◌, ◌≤◌, List, [], ◌∷◌, ◌++◌, length, map}
use Rattle.std.specs.List.{AllZip, Contains}
use Rattle.std.proofs.Common.{ap, sym, ◌∙◌, subst, refl, inl, inr, get_or, take}
use Rattle.std.proofs.lemmas.Bool.{cases_lt}
use Rattle.std.proofs.lemmas.List.{map-append, take_all}
use Rattle.std.proofs.lemmas.List.Elements.{All-contains, Contains-get_or}
use Rattle.std.proofs.lemmas.Slice.Zip.{all_zipped_more}
use Rattle.ps_diagram.specs.Hidden.{IsBehind, IsClear, IsOver}
use Rattle.ps_diagram.specs.Reached.{AreLeaves}
use Rattle.ps_diagram.specs.Table.{Table, IsNode, Keeps}
use Rattle.ps_diagram.proofs.Letters.{no_bit}
use Rattle.ps_automaton.specs.Automata.{AutomatonData, node_of}
use Rattle.ps_machine.specs.Boards.{Board, IsFirstLetter, IsMove, IsSecondLetter, LeadsTo}
use Rattle.ps_machine.specs.Dividing.{IsFit}
use Rattle.ps_machine.specs.Numbering.{StandsAt}
use Rattle.ps_machine.specs.Inner.Moving.{IsRest, leaf_key, leaf_keys}
use Rattle.ps_machine.specs.declared.key.Key.{Key}
use Rattle.ps_machine.specs.declared.key.Key.TheVariants.{First, Second}
use Rattle.ps_machine.proofs.AutomatonGames.BoardLetters.{mask_below}
use Rattle.ps_machine.proofs.AutomatonGames.BoardMoves.{leaves_lead, move_named}
use Rattle.ps_basis.specs.PairOrder.{IsInOrder}
use Rattle.ps_basis.proofs.ArenaKeys.{from_map, in_map, stands_there}
use Rattle.ps_brief.specs.Settings.{Fits, board_in}
use Rattle.ps_brief.specs.declared.setting.Setting.{Setting}
use Rattle.ps_brief.proofs.ListedStates.KeptTargets.{fits_kept, leaf_kept}
use Rattle.ps_brief.proofs.ListedStates.Taking.{take_next}

module _ (setting : Setting) {s : Table} (fits : Fits setting s) where
  pub over_mask : (x : ℕ) → IsFirstLetter (board_in setting) x → IsOver setting.first x
  over_mask x first p hidden = elim (cases_lt p (board_in setting).propositions) [
    | inl less ↦ first.own p (sym (fits.fit.is_mask.is p less) ∙ hidden)
    | inr more ↦ no_bit (board_in setting).propositions x p first.within more
  ]

  pub clear_mask : (y : ℕ) → IsSecondLetter (board_in setting) y → IsClear setting.first y
  clear_mask y second p shown = second.own p
      (sym (fits.fit.is_mask.is p (mask_below (board_in setting) setting.first p fits.fit.is_mask shown)) ∙ shown)

  pub rest_is : {t : Table} (q x rest : ℕ) → q ≤ setting.automaton.now.states → IsFirstLetter (board_in setting) x →
      IsNode t rest → IsBehind s t (node_of setting.automaton.now q) setting.first x rest →
      IsRest setting.order setting.automaton.now setting.first t q x rest
  rest_is q x rest in_states first held behind = record {
    state = in_states;
    letter = first;
    held = held;
    others = behind.others;
    leaves = λ y second. behind.leaf y (clear_mask y second)
        ∙ leaf_kept (node_of setting.automaton.now q) (x + y) fits.fit.keeps (fits.fit.whole.held q in_states);
  }

pub move_listed : (board : Board) (keys : List Key) → IsInOrder board keys → (q p x : ℕ) →
    Contains keys (First q p) → IsFirstLetter board x → (next : List Key) → LeadsTo board (Second q x) next →
    (key : Key) → Contains next key → Contains keys key
move_listed board keys order q p x inside first next (letters, list, same) key at =
    let goes : ℕ → Key = λ y. First (board.auto.next q (x + y)) (board.auto.priority q (x + y)) in
    let (y, listed, is_y) = from_map goes letters 0 key (subst (λ (ks : List Key). Contains ks key) same at) in
    let (i, stands) = stands_there keys (First q p) inside in
    let move : IsMove board q x y = All-contains (IsMove board q x) letters y list.each listed in
    subst (λ (k : Key). Contains keys k) (sym is_y)
    (order.closed i q p (board.auto.next q (x + y)) (board.auto.priority q (x + y)) stands (record {
      letter = x;
      is_letter = first;
      reached = record { letter = y; is_letter = move.here.0; state = refl; priority = refl };
    }))

-- the keys of the leaves among those of all leaves
pub leaf_among : (a : AutomatonData) (leaves : List (ℕ × ℕ)) (n : ℕ) → n < length leaves →
    Contains (leaf_keys a (map (λ (p : ℕ × ℕ). p.0) leaves)) (leaf_key a (get_or leaves n (0, 0)).0)
leaf_among a leaves n within = in_map (leaf_key a) (map (λ (p : ℕ × ℕ). p.0) leaves) (get_or leaves n (0, 0)).0
    (in_map (λ (p : ℕ × ℕ). p.0) leaves (get_or leaves n (0, 0)) (Contains-get_or leaves n (0, 0) within))

module _ (keys : List Key) (a : AutomatonData) (leaves : List (ℕ × ℕ)) (n : ℕ) (numbers : List ℕ) where
  pub moves_more : (vertex : ℕ) → n < length leaves → StandsAt keys vertex (leaf_key a (get_or leaves n (0, 0)).0) →
      AllZip (StandsAt keys) numbers (leaf_keys a (map (λ (p : ℕ × ℕ). p.0) (take n leaves))) →
      AllZip (StandsAt keys) (numbers ++ vertex ∷ []) (leaf_keys a (map (λ (p : ℕ × ℕ). p.0) (take (n + 1) leaves)))
  moves_more vertex within at zip =
      subst (λ (next : List Key). AllZip (StandsAt keys) (numbers ++ vertex ∷ []) next) (sym longer)
      (all_zipped_more (StandsAt keys) numbers (leaf_keys a (map (λ (p : ℕ × ℕ). p.0) (take n leaves))) vertex
      (leaf_key a (get_or leaves n (0, 0)).0) zip at)
    where
      longer : leaf_keys a (map (λ (p : ℕ × ℕ). p.0) (take (n + 1) leaves)) ≡
          leaf_keys a (map (λ (p : ℕ × ℕ). p.0) (take n leaves)) ++ leaf_key a (get_or leaves n (0, 0)).0 ∷ []
      longer = ap (λ (xs : List (ℕ × ℕ)). leaf_keys a (map (λ (p : ℕ × ℕ). p.0) xs)) (take_next n leaves (0, 0) within)
          ∙ ap (leaf_keys a) (map-append (λ (p : ℕ × ℕ). p.0) (take n leaves) (get_or leaves n (0, 0) ∷ []))
          ∙ map-append (leaf_key a) (map (λ (p : ℕ × ℕ). p.0) (take n leaves)) ((get_or leaves n (0, 0)).0 ∷ [])

  pub moves_all : length leaves ≤ n →
      AllZip (StandsAt keys) numbers (leaf_keys a (map (λ (p : ℕ × ℕ). p.0) (take n leaves))) →
      AllZip (StandsAt keys) numbers (leaf_keys a (map (λ (p : ℕ × ℕ). p.0) leaves))
  moves_all all zip = subst (λ (xs : List (ℕ × ℕ)).
      AllZip (StandsAt keys) numbers (leaf_keys a (map (λ (p : ℕ × ℕ). p.0) xs))) (take_all n leaves all) zip

-- ## The leaves behind a letter

module _ (setting : Setting) {s t : Table} (fits : Fits setting s) (q x node rest : ℕ)
    (in_states : q ≤ setting.automaton.now.states) (first : IsFirstLetter (board_in setting) x)
    (is_node : node ≡ node_of setting.automaton.now q) (keeps : Keeps s t) (held : IsNode t rest)
    (behind : IsBehind s t node setting.first x rest) (items leaves : List (ℕ × ℕ)) (same : items ≡ leaves)
    (found : AreLeaves t rest leaves) where
  abbrev board : Board
  board = board_in setting

  abbrev a : AutomatonData
  a = setting.automaton.now

  fit_now : IsFit setting.order a setting.first t
  fit_now = (fits_kept setting keeps fits).fit

  rest_now : IsRest setting.order a setting.first t q x rest
  rest_now = rest_is setting fits q x rest in_states first held
      (subst (λ (n : ℕ). IsBehind s t n setting.first x rest) is_node behind)

  found_now : AreLeaves t rest items
  found_now = subst (λ (xs : List (ℕ × ℕ)). AreLeaves t rest xs) (sym same) found

  pub leaf_named : (n : ℕ) → n < length items → (get_or items n (0, 0)).0 < length a.steps
  leaf_named n within = move_named fit_now rest_now found_now n (0, 0) within

  pub items_lead : LeadsTo board (Second q x) (leaf_keys a (map (λ (p : ℕ × ℕ). p.0) items))
  items_lead = leaves_lead fit_now rest_now found_now

  pub leaf_listed : (keys : List Key) → IsInOrder board keys → (p : ℕ) → Contains keys (First q p) → (n : ℕ) →
      n < length items → Contains keys (leaf_key a (get_or items n (0, 0)).0)
  leaf_listed keys order p inside n within = move_listed board keys order q p x inside first
      (leaf_keys a (map (λ (p : ℕ × ℕ). p.0) items)) items_lead (leaf_key a (get_or items n (0, 0)).0)
      (leaf_among a items n within)
