-- A solution has, for each vertex, what the entry of this vertex states.
-- - `Stated ids entries s`: after these entries, s has for their vertices what they state, and nothing for other
--   vertices
-- - `nothing_stated`: this holds of the state before any entry is read
-- - `one_more_stated`: this holds after one more entry, of a vertex that had none
-- - `all_stated`: if each vertex has an entry, the entries are exactly those that state what the solution has
use Rattle.std.proofs.Common.{◌≡◌, ◌≢◌, ◌↔◌, ◌⊎◌, ◌∙◌, ℕ, ◌<◌, Bool, true, false, List, [], ◌∷◌, ◌++◌, length, Option}
use Rattle.std.proofs.Common.{None, Some, refl, sym, ap, subst, inl, inr, ⊎_elim, arith, eqb, if◌then◌else◌, set}
use Rattle.std.specs.Prelude.{IfSome, slice_index, replicate}
use Rattle.std.specs.List.{Contains, position}
use Rattle.std.specs.Option.{is_some, option_map, unwrap_or}
use Rattle.std.proofs.lemmas.Bool.{cases_Bool, eqb-true, eq-eqb}
use Rattle.std.proofs.lemmas.List.{get_or-set_same, get_or-set_other, get_or-replicate, length-set, length-replicate}
use Rattle.std.proofs.lemmas.List.{get_or_past}
use Rattle.std.proofs.lemmas.List.Elements.{Contains-push, Contains-append_left, Contains-push_cases}
use Rattle.std.proofs.lemmas.List.Quantifiers.{position-Some}
use Rattle.std.proofs.lemmas.Bool.{cases_lt}
use Rattle.ps_ids.specs.Ids.{place_of}
use Rattle.ps_ids.proofs.IdPlaces.{some_position}
use Rattle.ps_ids.proofs.Members.{Contains-none}
use Rattle.ps_game.specs.Regions.{has, move_at}
use Rattle.ps_solution.specs.Entries.{SolutionEntry, IsEntryOf}
use Rattle.ps_solution.specs.Solved.{SolvedData, IsFilled, none_solved, solution_of, with_entry, with_move, with_win}

pub record Stated (ids : List ℕ) (entries : List SolutionEntry) (s : SolvedData) : Type 0 where
  pub named_each : length s.named ≡ length ids
  pub won_each : length s.won ≡ length ids
  pub move_each : length s.moves ≡ length ids
  pub none_won : (v : ℕ) → has s.named v ≡ false → has s.won v ≡ false
  pub none_moved : (v : ℕ) → has s.named v ≡ false → move_at s.moves v ≡ None
  pub exact : (e : SolutionEntry) →
      Contains entries e ↔ ((has s.named (place_of ids e.id) ≡ true) × IsEntryOf ids (solution_of s) e)

-- ---- the place of an id

place_found : (ids : List ℕ) (id : ℕ) (o : Option ℕ) → position (λ other. eqb id other) ids ≡ o → Contains ids id →
    (unwrap_or o 0 < length ids) × (slice_index ids (unwrap_or o 0) ≡ id)
place_found ids id (Some place) found known =
    let is = position-Some (λ other. eqb id other) ids place 0 found in
    (is.0, sym (eqb-true id (slice_index ids place) is.1))
place_found ids id None found known = absurd (Contains-none id ids
    (sym (some_position (λ other. eqb id other) ids) ∙ ap (λ (o : Option ℕ). is_some o) found) known)

pub id_placed : (ids : List ℕ) (id : ℕ) → Contains ids id →
    (place_of ids id < length ids) × (slice_index ids (place_of ids id) ≡ id)
id_placed ids id known = place_found ids id (position (λ other. eqb id other) ids) refl known

-- the move's id, its place in the list of ids, and the id at this place
move_back : (ids : List ℕ) (choice : Option ℕ) → IfSome choice (λ id. Contains ids id) →
    choice ≡ option_map (λ v. slice_index ids v) (option_map (place_of ids) choice)
move_back ids None known = refl
move_back ids (Some id) known = ap (λ (n : ℕ). Some n) (sym (id_placed ids id known).1)

true_false : {b : Bool} → b ≡ true → b ≡ false → ⊥
true_false is not = let h : true ≡ false = sym is ∙ not in cc

-- ---- before any entry

none_at : (n v : ℕ) → has (replicate n false) v ≡ false
none_at n v = ⊎_elim (λ (within : v < n). get_or-replicate n v false false within)
    (λ past. get_or_past (replicate n false) v false (omega (arith, length-replicate n false, past))) (cases_lt v n)

no_move_at : (n v : ℕ) → move_at (replicate n None) v ≡ None
no_move_at n v = ⊎_elim (λ (within : v < n). get_or-replicate n v None None within)
    (λ past. get_or_past (replicate n None) v None (omega (arith, length-replicate {A = Option ℕ} n None, past)))
    (cases_lt v n)

pub nothing_stated : (ids : List ℕ) → Stated ids [] (none_solved (length ids))
nothing_stated ids = record {
  named_each = length-replicate (length ids) false;
  won_each = length-replicate (length ids) false;
  move_each = length-replicate (length ids) None;
  none_won = λ v none. none_at (length ids) v;
  none_moved = λ v none. no_move_at (length ids) v;
  exact = λ e. (
    (λ h. absurd (omega (arith, h.1))),
    (λ h. absurd (true_false h.0 (none_at (length ids) (place_of ids e.id)))),
  );
}

-- ---- after one more entry

abbrev winner_at : Bool → ℕ
winner_at won = if won then 0 else 1

same_or : (a b : ℕ) → (a ≡ b) ⊎ (a ≢ b)
same_or a b = ⊎_elim (λ is. inl (eqb-true a b is)) (λ is. inr (λ same. true_false (eq-eqb a b same) is))
    (cases_Bool (eqb a b))

entry_of : ℕ → ℕ → Option ℕ → SolutionEntry
entry_of id winner choice = record { id = id; winner = winner; choice = choice }

same_entry : (e other : SolutionEntry) → e.id ≡ other.id → e.winner ≡ other.winner → e.choice ≡ other.choice → e ≡ other
unfolding entry_of
same_entry e other id winner choice =
    ap (λ n. entry_of n e.winner e.choice) id ∙ ap (λ w. entry_of other.id w e.choice) winner
    ∙ ap (λ c. entry_of other.id other.winner c) choice

module _ (ids : List ℕ) (entries : List SolutionEntry) (s : SolvedData) (stated : Stated ids entries s)
    (added : SolutionEntry) (known : Contains ids added.id) (new : has s.named (place_of ids added.id) ≡ true → ⊥)
    (player : added.winner < 2) (known_move : IfSome added.choice (λ id. Contains ids id)) where
  abbrev v : ℕ
  v = place_of ids added.id

  abbrev choice : Option ℕ
  choice = option_map (place_of ids) added.choice

  abbrev t : SolvedData
  t = with_entry s v added.winner choice

  unnamed : has s.named v ≡ false
  unnamed = ⊎_elim (λ was. absurd (new was)) (λ was. was) (cases_Bool (has s.named v))

  within : v < length ids
  within = (id_placed ids added.id known).0

  named_here : has t.named v ≡ true
  named_here = get_or-set_same s.named v true false (omega (arith, within, stated.named_each))

  named_other : (w : ℕ) → w ≢ v → has t.named w ≡ has s.named w
  named_other w other = get_or-set_other s.named v w true false other

  won_now : has s.won v ≡ false
  won_now = stated.none_won v unnamed

  set_now : has (set s.won v true) v ≡ true
  set_now = get_or-set_same s.won v true false (omega (arith, within, stated.won_each))

  won_here : (winner : ℕ) → winner < 2 → winner ≡ winner_at (has (with_win s.won v winner) v)
  won_here winner small = grind (arith, won_now, set_now)

  won_other : (winner w : ℕ) → w ≢ v → has (with_win s.won v winner) w ≡ has s.won w
  won_other winner w other = grind (arith, get_or-set_other)

  moved_here : (given : Option ℕ) → move_at (with_move s.moves v given) v ≡ given
  moved_here None = stated.none_moved v unnamed
  moved_here (Some w) = get_or-set_same s.moves v (Some w) None (omega (arith, within, stated.move_each))

  moved_other : (given : Option ℕ) (w : ℕ) → w ≢ v → move_at (with_move s.moves v given) w ≡ move_at s.moves w
  moved_other None w other = refl
  moved_other (Some u) w other = get_or-set_other s.moves v w (Some u) None other

  other_place : (e : SolutionEntry) → has s.named (place_of ids e.id) ≡ true → place_of ids e.id ≢ v
  other_place e named same = true_false named (ap (λ w. has s.named w) same ∙ unnamed)

  abbrev IsOf : SolvedData → SolutionEntry → Type 0
  IsOf state e = (has state.named (place_of ids e.id) ≡ true) × IsEntryOf ids (solution_of state) e

  added_is : IsOf t added
  added_is = (
    named_here,
    record {
      known = known;
      winner = won_here added.winner player;
      choice = move_back ids added.choice known_move ∙ sym (ap (λ m. option_map (λ w. slice_index ids w) m)
          (moved_here choice));
    },
  )

  -- what the state has for another vertex is not changed
  still : (e : SolutionEntry) → place_of ids e.id ≢ v → IsOf s e → IsOf t e
  still e other (named, is) = (
    named_other (place_of ids e.id) other ∙ named,
    record {
      known = is.known;
      winner = is.winner ∙ sym (ap winner_at (won_other added.winner (place_of ids e.id) other));
      choice = is.choice ∙ sym (ap (λ m. option_map (λ w. slice_index ids w) m)
          (moved_other choice (place_of ids e.id) other));
    },
  )

  before : (e : SolutionEntry) → place_of ids e.id ≢ v → IsOf t e → IsOf s e
  before e other (named, is) = (
    sym (named_other (place_of ids e.id) other) ∙ named,
    record {
      known = is.known;
      winner = is.winner ∙ ap winner_at (won_other added.winner (place_of ids e.id) other);
      choice = is.choice ∙ ap (λ m. option_map (λ w. slice_index ids w) m)
          (moved_other choice (place_of ids e.id) other);
    },
  )

  -- two entries of one vertex that state what the state has for it are equal
  only_added : (e : SolutionEntry) → place_of ids e.id ≡ v → IsOf t e → added ≡ e
  only_added e same (named, is) = same_entry added e
      (sym (id_placed ids added.id known).1 ∙ ap (λ w. slice_index ids w) (sym same) ∙ (id_placed ids e.id is.known).1)
      (added_is.1.winner ∙ ap (λ w. winner_at (has t.won w)) (sym same) ∙ sym is.winner)
      (added_is.1.choice ∙ ap (λ w. option_map (λ u. slice_index ids u) (move_at t.moves w)) (sym same) ∙ sym is.choice)

  exact_after : (e : SolutionEntry) → Contains (entries ++ added ∷ []) e ↔ IsOf t e
  exact_after e = (
    (λ h. ⊎_elim (λ old. let is = (stated.exact e).0 old in still e (other_place e is.0) is)
        (λ same. subst (IsOf t) same added_is) (Contains-push_cases entries added e h)),
    (λ is. ⊎_elim (λ same. subst (λ x. Contains (entries ++ added ∷ []) x) (only_added e same is)
        (Contains-push entries added))
        (λ other. Contains-append_left entries (added ∷ []) e ((stated.exact e).1 (before e other is)))
        (same_or (place_of ids e.id) v)),
  )

  none_after : (w : ℕ) → has t.named w ≡ false → w ≢ v
  none_after w none same = true_false named_here (ap (λ u. has t.named u) (sym same) ∙ none)

  pub one_more_stated : Stated ids (entries ++ added ∷ []) t
  one_more_stated = record {
    named_each = length-set s.named v true ∙ stated.named_each;
    won_each = won_length added.winner ∙ stated.won_each;
    move_each = moves_length choice ∙ stated.move_each;
    none_won = λ w none. let other = none_after w none in
        won_other added.winner w other ∙ stated.none_won w (sym (named_other w other) ∙ none);
    none_moved = λ w none. let other = none_after w none in
        moved_other choice w other ∙ stated.none_moved w (sym (named_other w other) ∙ none);
    exact = exact_after;
  }
    where
      won_length : (winner : ℕ) → length (with_win s.won v winner) ≡ length s.won
      won_length winner = grind (arith, length-set)

      moves_length : (given : Option ℕ) → length (with_move s.moves v given) ≡ length s.moves
      moves_length None = refl
      moves_length (Some w) = length-set s.moves v (Some w)

-- ---- after all entries

pub all_stated : (ids : List ℕ) (entries : List SolutionEntry) (s : SolvedData) → Stated ids entries s → IsFilled s →
    (e : SolutionEntry) → Contains entries e ↔ IsEntryOf ids (solution_of s) e
all_stated ids entries s stated filled e = (
  (λ h. ((stated.exact e).0 h).1),
  (λ is. (stated.exact e).1 (
    filled (place_of ids e.id)
        (omega (arith, (id_placed ids e.id is.known).0, stated.named_each)),
    is,
  )),
)
