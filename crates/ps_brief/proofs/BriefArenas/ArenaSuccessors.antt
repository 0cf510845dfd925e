-- The successors of one vertex in an arena.
-- - `second_listed`, `second_letter`: a key of the second player has a listed state, and a letter of the first player
-- - `found_moves`: the vertices of its moves are found in the listing
-- - `basis_at`, `basis_found`: the vertices of a state's basis follow each other
use Rattle.std.specs.Prelude.{◌≡◌, ℕ, ◌+◌, ◌<◌, ◌≤◌, List, [], ◌∷◌, length, map, nat_eq, Some}
use Rattle.std.specs.List.{AllZip, Contains, range_with_len}
use Rattle.std.proofs.Common.{ap, sym, ◌∙◌, subst, arith}
use Rattle.std.proofs.lemmas.List.Elements.{All-contains}
use Rattle.indexmap.specs.IndexMap.{get}
use Rattle.ps_machine.specs.Boards.{Board, IsClassLetter, IsFirstLetter, LeadsTo}
use Rattle.ps_machine.specs.Numbering.{StandsAt}
use Rattle.ps_machine.specs.declared.key.Key.{Key}
use Rattle.ps_machine.specs.declared.key.Key.TheVariants.{First, Second}
use Rattle.ps_brief.specs.ArenaGames.{AreBases, letters_at}
use Rattle.ps_brief.specs.Inner.Arranging.{AreArenaKeys, HasSuccessors}
use Rattle.ps_brief.specs.Listings.{listed_keys}
use Rattle.ps_brief.specs.Settings.{board_in}
use Rattle.ps_brief.specs.declared.arena.ArenaKeys.{ArenaKeys}
use Rattle.ps_brief.specs.declared.bases.Bases.{Bases}
use Rattle.ps_brief.specs.declared.listing.Listing.{Listing}
use Rattle.ps_brief.specs.declared.setting.Setting.{Setting}
use Rattle.ps_brief.proofs.BriefArenas.ArenaKeyLists.{span_within}

-- vertices that stand in one list stand in another that has its keys at the same numbers
stand_in : (xs ys : List Key) → ((v : ℕ) (key : Key) → StandsAt xs v key → StandsAt ys v key) → (numbers : List ℕ)
    (next : List Key) → AllZip (StandsAt xs) numbers next → AllZip (StandsAt ys) numbers next
stand_in xs ys front [] [] s = tt
stand_in xs ys front [] (k ∷ next) s = s
stand_in xs ys front (n ∷ numbers) [] s = s
stand_in xs ys front (n ∷ numbers) (k ∷ next) s = (front n k s.0, stand_in xs ys front numbers next s.1)

module _ (setting : Setting) (listing : Listing) (bases : Bases) (made : ArenaKeys) (n : ℕ)
    (are : AreBases setting listing bases) (all : AreArenaKeys listing bases made n) (key : Key) (q x : ℕ)
    (is : key ≡ Second q x) (inside : Contains made.list.items key) where
  in_basis : Contains (letters_at bases q) x
  in_basis = (all.seconds q x (subst (λ (k : Key). Contains made.list.items k) is inside)).listed

  pub second_listed : (p : ℕ) × Contains (listed_keys listing) (First q p)
  second_listed = are.listed q x in_basis

  pub second_letter : IsFirstLetter (board_in setting) x
  second_letter =
      let (p, here) = second_listed in
      let class : IsClassLetter (board_in setting) q x =
      All-contains (IsClassLetter (board_in setting) q) (letters_at bases q) x (are.each q p here).each in_basis in
      class.here.0

module _ (board : Board) (listing : Listing) (bases : Bases) (made : ArenaKeys) (n : ℕ)
    (all : AreArenaKeys listing bases made n) where
  pub found_moves : (key : Key) (q x : ℕ) → key ≡ Second q x → (numbers : List ℕ) →
      ((next : List Key) × LeadsTo board (Second q x) next × AllZip (StandsAt (listed_keys listing)) numbers next) →
      HasSuccessors board bases made.list.items key numbers
  found_moves key q x is numbers (next, leads, stand) =
      subst (λ (k : Key). HasSuccessors board bases made.list.items k numbers) (sym is) (record {
        next = next;
        leads = leads;
        stand = stand_in (listed_keys listing) made.list.items all.front numbers next stand;
      })

module _ (listing : Listing) (bases : Bases) (made : ArenaKeys) (n q first : ℕ)
    (all : AreArenaKeys listing bases made n) (there : get nat_eq made.firsts q ≡ Some first) where
  pub basis_at : (letters : List ℕ) (place : ℕ) → letters ≡ letters_at bases q → place < length letters →
      first + place < length made.list.items
  basis_at letters place same within =
      span_within made.list.items q (letters_at bases q) first place (all.stand q first there)
      (subst (λ (xs : List ℕ). place < length xs) same within)

  pub basis_found : (letters numbers : List ℕ) (place : ℕ) → letters ≡ letters_at bases q →
      place ≤ length letters → length letters ≤ place → numbers ≡ range_with_len first place →
      AllZip (StandsAt made.list.items) numbers (map (λ x. Second q x) (letters_at bases q))
  basis_found letters numbers place same low high is =
      let all_places : place ≡ length (letters_at bases q) =
      (let count : place ≡ length letters = omega (arith, low, high) in
      count ∙ ap (λ (xs : List ℕ). length xs) same) in
      subst (λ (xs : List ℕ). AllZip (StandsAt made.list.items) xs (map (λ x. Second q x) (letters_at bases q)))
      (sym (is ∙ ap (λ (m : ℕ). range_with_len first m) all_places)) (all.stand q first there)
