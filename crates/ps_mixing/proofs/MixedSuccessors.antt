-- The keys of a vertex's successors on a mixed board: their letters are moved.
-- - `classes_listed`, `moves_listed`: whole lists of letters
-- - `leads_moved`: the keys
use Rattle.std.specs.Prelude.{◌≡◌, ℕ, suc, ◌+◌, ◌<◌, List, [], ◌∷◌, length, map}
use Rattle.std.specs.List.{All}
use Rattle.std.proofs.Common.{refl, sym, ap, subst, ◌∙◌, arith, get_or}
use Rattle.std.proofs.lemmas.List.{length-map, get_or-map}
use Rattle.std.proofs.lemmas.Simd.{map-map}
use Rattle.ps_diagram.specs.Letters.{IsBefore}
use Rattle.ps_machine.specs.Boards.{Board, IsClassLetter, IsFirstLetter, IsListOf, IsMove, IsSecondLetter, LeadsTo}
use Rattle.ps_machine.specs.declared.key.Key.{Key}
use Rattle.ps_machine.specs.declared.key.Key.TheVariants.{First, Second}
use Rattle.ps_mixing.specs.MixedBoards.{mixed_board, mixed_key, mixed_keys}
use Rattle.ps_mixing.specs.Mixings.{Mixing, inverse, moved}
use Rattle.ps_mixing.proofs.MixedClasses.{class_moved, move_moved}
use Rattle.ps_mixing.proofs.MixedLetters.{IsBoardMixing, before_first, before_second, first_moved}
use Rattle.ps_mixing.proofs.MixedLetters.{sum_moved, unmixed}
use Rattle.ps_mixing.proofs.MovedPropositions.MovedLetters.{inverse_is, moved_back, moved_forth}

-- ## Lists of letters

module _ (move : ℕ → ℕ) (P Q : ℕ → Type 0) (there : (x : ℕ) → P x → Q (move x))
    (back : (y : ℕ) → Q y → (x : ℕ) × P x × (move x ≡ y))
    (order : (x y : ℕ) → P x → P y → IsBefore x y → IsBefore (move x) (move y)) where
  letters_moved : (letters : List ℕ) → IsListOf P letters → IsListOf Q (map move letters)
  letters_moved letters list = record {
    each = λ k d within. subst Q (sym (get_or-map move letters k 0 d (inside k within)))
        (there (get_or letters k 0) (list.each k 0 (inside k within)));
    complete = λ y is. (let (x, here, same) = back y is in
        let (k, within, at) = list.complete x here in (
          k,
          omega (arith, within, length-map letters move),
          get_or-map move letters k x y within ∙ ap move at ∙ same,
        ));
    rising = λ i j d less within.
        let late : j < length letters = inside j within in
        let early : i < length letters = omega (arith, less, late) in
        subst (λ (z : ℕ). IsBefore z (get_or (map move letters) j d)) (sym (get_or-map move letters i 0 d early))
        (subst (λ (z : ℕ). IsBefore (move (get_or letters i 0)) z) (sym (get_or-map move letters j 0 d late))
        (order (get_or letters i 0) (get_or letters j 0) (list.each i 0 early) (list.each j 0 late)
        (list.rising i j 0 less late)));
  }
    where
      inside : (k : ℕ) → k < length (map move letters) → k < length letters
      inside k within = omega (arith, within, length-map letters move)

maps_alike : (f g : ℕ → Key) (xs : List ℕ) → All (λ x. f x ≡ g x) xs → map f xs ≡ map g xs
maps_alike f g [] all = refl
maps_alike f g (x ∷ xs) all = ap (λ (k : Key). k ∷ map f xs) (all 0 0 (omega arith)) ∙
    ap (λ (l : List Key). g x ∷ l) (maps_alike f g xs (λ k d within. all (suc k) d (omega (arith, within))))

-- what the vertex stands for to which the step by x + y leads
abbrev entered : Board → ℕ → ℕ → ℕ → Key
entered board q x y = First (board.auto.next q (x + y)) (board.auto.priority q (x + y))

-- ## Successors

module _ (board : Board) (mixing : Mixing) (is : IsBoardMixing board mixing) where
  abbrev mv : ℕ → ℕ
  mv = moved board.propositions mixing.from

  abbrev bk : ℕ → ℕ
  bk = moved board.propositions mixing.to

  abbrev mixed : Board
  mixed = mixed_board mixing board

  class_back : (q y : ℕ) → IsClassLetter mixed q y → IsClassLetter board q (bk y)
  class_back q y class = subst (λ (b : Board). IsClassLetter b q (bk y)) (unmixed board mixing is)
      (class_moved mixed (inverse mixing) (inverse_is is) q y class)

  move_back : (q x : ℕ) → IsFirstLetter board x → (y : ℕ) → IsMove mixed q (mv x) y → IsMove board q x (bk y)
  move_back q x first y move = subst (λ (z : ℕ). IsMove board q z (bk y)) (moved_back is x)
      (subst (λ (b : Board). IsMove b q (bk (mv x)) (bk y)) (unmixed board mixing is)
      (move_moved mixed (inverse mixing) (inverse_is is) q (mv x) (first_moved board mixing is x first) y move))

  classes_listed : (q : ℕ) (letters : List ℕ) → IsListOf (IsClassLetter board q) letters →
      IsListOf (IsClassLetter mixed q) (map mv letters)
  classes_listed q letters list = letters_moved mv (IsClassLetter board q) (IsClassLetter mixed q) (class_moved board mixing is q)
      (λ y class. (bk y, class_back q y class, moved_forth is y))
      (λ x y one other before. before_first board mixing is x y one.here.0 other.here.0 before) letters list

  moves_listed : (q x : ℕ) → IsFirstLetter board x → (letters : List ℕ) → IsListOf (IsMove board q x) letters →
      IsListOf (IsMove mixed q (mv x)) (map mv letters)
  moves_listed q x first letters list = letters_moved mv (IsMove board q x) (IsMove mixed q (mv x))
      (move_moved board mixing is q x first) (λ y move. (bk y, move_back q x first y move, moved_forth is y))
      (λ y z one other before. before_second board mixing is y z one.here.0 other.here.0 before) letters list

  -- what a vertex of the second player stands for has a letter of the first player
  abbrev pub IsKeyOf : Key → Type 0
  IsKeyOf (First q p) = Unit {0}
  IsKeyOf (Second q x) = IsFirstLetter board x

  pub leads_moved : (key : Key) (next : List Key) → IsKeyOf key → LeadsTo board key next →
      LeadsTo mixed (mixed_key board.propositions mixing key) (mixed_keys board.propositions mixing next)
  leads_moved (First q p) next is_key (letters, list, same) = (
    map mv letters,
    classes_listed q letters list,
    ap (mixed_keys board.propositions mixing) same ∙
        map-map (mixed_key board.propositions mixing) (λ x. Second q x) letters ∙
        sym (map-map (λ x. Second q x) mv letters),
  )
  leads_moved (Second q x) next first (letters, list, same) = (
    map mv letters,
    moves_listed q x first letters list,
    ap (mixed_keys board.propositions mixing) same ∙
        map-map (mixed_key board.propositions mixing) (entered board q x) letters ∙
        maps_alike (λ y. mixed_key board.propositions mixing (entered board q x y))
        (λ y. entered mixed q (mv x) (mv y)) letters
        (λ k d within. entry (get_or letters k d) (list.each k d within).here.0) ∙
        sym (map-map (entered mixed q (mv x)) mv letters),
  )
    where
      entry : (y : ℕ) → IsSecondLetter board y →
          mixed_key board.propositions mixing (entered board q x y) ≡ entered mixed q (mv x) (mv y)
      entry y second = ap (λ (z : ℕ). First (board.auto.next q z) (board.auto.priority q z))
          (sym (moved_back is (x + y)) ∙ ap bk (sum_moved board mixing is x y first second))
