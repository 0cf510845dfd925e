-- The diagrams of a target, by what its step's leaf says.
-- - `goes_behind`, `has_behind`: the letters at which `making` has a leaf make the step
-- - `can_go`: so the projection has a leaf where the second player can make it
-- - `least_step`: its least letter, and then the least of the second player's, are the least that make the step
use Rattle.std.specs.Prelude.{◌≡◌, ◌↔◌, ℕ, ◌+◌, ◌^◌, ◌<◌, ◌≤◌, length, Option, Some, None, IsSome, MatchOption, nat_eq}
use Rattle.std.specs.Prelude.{Bool, cond}
use Rattle.std.specs.Option.{unwrap_or}
use Rattle.std.proofs.Common.{ap, sym, ◌∙◌, subst, refl, inl, inr}
use Rattle.std.proofs.lemmas.Bool.{cases_Bool, eq-eqb, eqb-true}
use Rattle.ps_diagram.specs.Hidden.{HasLeafBehind, HasNoLeafBehind, IsLeafBehind, IsProjection}
use Rattle.ps_diagram.specs.Hidden.{one_for}
use Rattle.ps_diagram.specs.Letters.{IsLeastLetter}
use Rattle.ps_diagram.specs.Reached.{LeadsToLeaf}
use Rattle.ps_diagram.specs.Table.{Table, Keeps, leaf_of}
use Rattle.ps_automaton.specs.Automata.{AutomatonData, node_of, pair_of}
use Rattle.ps_automaton.specs.declared.step.Step.{Step}
use Rattle.ps_machine.specs.Boards.{Board, IsFirstLetter, IsSecondLetter}
use Rattle.ps_machine.proofs.AutomatonGames.BoardSteps.{heeds, same_pair, some_of}
use Rattle.ps_machine.proofs.AutomatonGames.BoardLetters.{second_is, second_of}
use Rattle.ps_basis.specs.ArenaMoves.{GoesThere}
use Rattle.ps_basis.specs.Bases.{CanGoTo}
use Rattle.ps_basis.specs.PairOrder.{IsLeastStep}
use Rattle.ps_brief.specs.Inner.Placing.{IsAnswer, IsAnswered, MakesStep}
use Rattle.ps_brief.specs.Settings.{Fits, board_in}
use Rattle.ps_brief.specs.declared.setting.Setting.{Setting}
use Rattle.ps_brief.proofs.BasesOfLetters.Behind.{clear, first_agrees, first_itself, first_of, first_part, over}
use Rattle.ps_brief.proofs.BasesOfLetters.Behind.{over_second}
use Rattle.ps_brief.proofs.BasesOfLetters.Behind.{parts_are}
use Rattle.ps_brief.proofs.ListedStates.KeptTargets.{leaf_kept}

-- ## Leaves

pub one_is : (value : ℕ) (leaf : Option ℕ) → IsSome (one_for value leaf) → leaf ≡ Some value
one_is value None is = cc
one_is value (Some k) is = elim (cases_Bool (nat_eq k value)) [
  | inl same ↦ ap (λ (i : ℕ). Some i) (eqb-true k value same)
  | inr differ ↦ absurd (let none = rw differ at is in cc)
]

pub one_at : (value : ℕ) (leaf : Option ℕ) → leaf ≡ Some value → IsSome (one_for value leaf)
one_at value leaf e = rw (e, eq-eqb value value refl) refl

one_same : (value : ℕ) → one_for value (Some value) ≡ Some 1
one_same value = ap (λ (b : Bool). cond b (Some 1) None) (eq-eqb value value refl)

pub is_there : (P : Type 0) (Q : ℕ → Type 0) (o : Option ℕ) → MatchOption o P Q → IsSome o →
    (k : ℕ) × (o ≡ Some k) × Q k
is_there P Q None m is = cc
is_there P Q (Some k) m is = (k, refl, m)

pub is_at : (P : Type 0) (Q : ℕ → Type 0) (o : Option ℕ) (k : ℕ) → MatchOption o P Q → o ≡ Some k → Q k
is_at P Q None k m e = cc
is_at P Q (Some j) k m e = let same : j ≡ k = cc in subst (λ (i : ℕ). Q i) same m

pub some_or_missing : (P : Type 0) (Q : ℕ → Type 0) (o : Option ℕ) → MatchOption o P Q → (P → ⊥) → IsSome o
some_or_missing P Q None m never = absurd (never m)
some_or_missing P Q (Some k) m never = refl

pub some_is : (o : Option ℕ) (k : ℕ) → o ≡ Some k → IsSome o
some_is o k e = rw e refl

-- ## The step of a leaf

module _ (setting : Setting) {s : Table} (fits : Fits setting s) (q : ℕ) (in_states : q ≤ setting.automaton.now.states)
    (leaf : ℕ) (named : leaf < length setting.automaton.now.steps) (step : Step)
    (is_step : pair_of setting.automaton.now leaf ≡ step) where
  abbrev board : Board
  board = board_in setting

  abbrev a : AutomatonData
  a = setting.automaton.now

  abbrev node : ℕ
  node = node_of a q

  many : s.propositions ≡ board.propositions
  many = fits.fit.keeps.propositions ∙ fits.fit.whole.letters

  goes_by_leaf : (x y : ℕ) → IsSecondLetter board y → leaf_of a.store node (x + y) ≡ Some leaf →
      GoesThere board q x step.state step.priority y
  goes_by_leaf x y second at =
      let same : pair_of a (unwrap_or (leaf_of a.store node (x + y)) (length a.steps)) ≡ step =
      ap (λ (o : Option ℕ). pair_of a (unwrap_or o (length a.steps))) at ∙ is_step in
      record {
        is_letter = second;
        state = ap (λ (one : Step). one.state) same;
        priority = ap (λ (one : Step). one.priority) same;
      }

  leaf_by_going : (x y : ℕ) → GoesThere board q x step.state step.priority y →
      leaf_of a.store node (x + y) ≡ Some leaf
  leaf_by_going x y goes =
      let (k, at, within) = some_of (leaf_of a.store node (x + y)) (λ k. k < length a.steps)
      (fits.fit.whole.leaves q (x + y) in_states) in
      let there : pair_of a (unwrap_or (leaf_of a.store node (x + y)) (length a.steps)) ≡ pair_of a k =
      ap (λ (o : Option ℕ). pair_of a (unwrap_or o (length a.steps))) at in
      let same : pair_of a k ≡ pair_of a leaf = sym there
      ∙ same_pair {s = pair_of a (unwrap_or (leaf_of a.store node (x + y)) (length a.steps))} {t = step} goes.state
      goes.priority ∙ sym is_step in
      at ∙ ap (λ (i : ℕ). Some i) (fits.fit.whole.once k leaf within named same)

  as_stored : (z : ℕ) → leaf_of s node z ≡ leaf_of a.store node z
  as_stored z = leaf_kept node z fits.fit.keeps (fits.fit.whole.held q in_states)

  goes_to : (x y : ℕ) → GoesThere board q x step.state step.priority y →
      CanGoTo board q x step.state step.priority
  goes_to x y goes = record {
    letter = y;
    is_letter = goes.is_letter;
    state = goes.state;
    priority = goes.priority;
  }

  goes_from : (x : ℕ) → (can : CanGoTo board q x step.state step.priority) →
      GoesThere board q x step.state step.priority can.letter
  goes_from x can = record { is_letter = can.is_letter; state = can.state; priority = can.priority }

  -- ## The diagram of the letters that make the step

  module _ {t : Table} (making : ℕ) (keeps : Keeps s t)
      (selects : (z : ℕ) → leaf_of t making z ≡ one_for leaf (leaf_of s node z)) where
    many_now : t.propositions ≡ board.propositions
    many_now = keeps.propositions ∙ many

    pub goes_behind : (x y : ℕ) → HasLeafBehind t making setting.second x y →
        GoesThere board q x step.state step.priority y
    goes_behind x y has =
        let within : y < 2 ^ board.propositions = subst (λ (n : ℕ). y < 2 ^ n) many_now has.within in
        let at : leaf_of s node (x + y) ≡ Some leaf = one_is leaf (leaf_of s node (x + y))
        (subst (λ (o : Option ℕ). IsSome o) (selects (x + y)) has.leaf) in
        goes_by_leaf x y (over_second board setting.second fits.second y within has.own)
        (sym (as_stored (x + y)) ∙ at)

    pub has_behind : (x y : ℕ) → GoesThere board q x step.state step.priority y →
        HasLeafBehind t making setting.second x y
    has_behind x y goes = record {
      within = subst (λ (n : ℕ). y < 2 ^ n) (sym many_now) goes.is_letter.within;
      own = over board setting.second fits.second y goes.is_letter;
      leaf = subst (λ (o : Option ℕ). IsSome o) (sym (selects (x + y)))
          (one_at leaf (leaf_of s node (x + y)) (as_stored (x + y) ∙ leaf_by_going x y goes));
    }

  -- ## The letters behind which the step can be made

  module _ {t u : Table} (making behind : ℕ) (keeps : Keeps s t)
      (selects : (z : ℕ) → leaf_of t making z ≡ one_for leaf (leaf_of s node z))
      (projects : IsProjection t u making setting.second behind) where
    pub can_go : (x : ℕ) → IsFirstLetter board x → IsSome (leaf_of u behind x) ↔
        CanGoTo board q x step.state step.priority
    can_go x first = (
      λ is. (let (k, at, found) = is_there (HasNoLeafBehind t making setting.second x)
          (IsLeafBehind t making setting.second x)
          (leaf_of u behind x)
          (projects.leaf x (clear board setting.second fits.second x first)) is in
          goes_to x found.letter (goes_behind making keeps selects x found.letter found.there)),
      λ can. some_or_missing (HasNoLeafBehind t making setting.second x) (IsLeafBehind t making setting.second x)
          (leaf_of u behind x)
          (projects.leaf x (clear board setting.second fits.second x first))
          (λ none. none can.letter (has_behind making keeps selects x can.letter (goes_from x can))),
    )

    one_there : (x : ℕ) → IsFirstLetter board x → CanGoTo board q x step.state step.priority →
        leaf_of u behind x ≡ Some 1
    one_there x first can =
        let (k, at, found) =
        is_there (HasNoLeafBehind t making setting.second x) (IsLeafBehind t making setting.second x)
        (leaf_of u behind x)
        (projects.leaf x (clear board setting.second fits.second x first)) ((can_go x first).1 can) in
        at ∙ ap (λ (i : ℕ). Some i) found.one

    -- some letter makes the step, so `behind` has a leaf
    pub leaf_behind : u.propositions ≡ board.propositions → (z : ℕ) → MakesStep setting q leaf z →
        (x : ℕ) × LeadsToLeaf u behind 1 x
    leaf_behind size z makes =
        let x : ℕ = first_of board setting.second fits.second z in
        let y : ℕ = second_of board z in
        let first : IsFirstLetter board x = first_part board setting.second fits.second z in
        let same : leaf_of a.store node z ≡ leaf_of a.store node (x + y) =
        heeds fits.fit q z (x + y) in_states
        (λ p less. parts_are board setting.second fits.second setting.first fits.fit.is_mask z p less) in
        let goes : GoesThere board q x step.state step.priority y =
        goes_by_leaf x y (second_is board z) (sym same ∙ makes.leads) in
        (x, (subst (λ (n : ℕ). x < 2 ^ n) (sym size) first.within, one_there x first (goes_to x y goes)))

    module _ (x : ℕ) (size : u.propositions ≡ board.propositions) (least : IsLeastLetter (LeadsToLeaf u behind 1) x)
      where
        x_within : x < 2 ^ board.propositions
        x_within = subst (λ (n : ℕ). x < 2 ^ n) size least.here.0

        x_part : ℕ
        x_part = first_of board setting.second fits.second x

        pub x_first : IsFirstLetter board x
        unfolding x_part
        x_first = first_itself board setting.second fits.second x x_within (λ before. least.none_before x_part (
          subst (λ (n : ℕ). x_part < 2 ^ n) (sym size) (first_part board setting.second fits.second x).within,
          sym (projects.others x x_part (first_agrees board setting.second fits.second x x_within)) ∙ least.here.1,
        ) before)

        x_goes : CanGoTo board q x step.state step.priority
        x_goes = (can_go x x_first).0 (some_is (leaf_of u behind x) 1 least.here.1)

        first_least : IsLeastLetter (λ z. IsFirstLetter board z × CanGoTo board q z step.state step.priority) x
        first_least = record {
          here = (x_first, x_goes);
          none_before = λ z is before. least.none_before z
              (subst (λ (n : ℕ). z < 2 ^ n) (sym size) is.0.within, one_there z is.0 is.1) before;
        }

        module _ {v : Table} (still : (z : ℕ) → leaf_of v making z ≡ one_for leaf (leaf_of s node z)) where
          answer_by_going : (y : ℕ) → GoesThere board q x step.state step.priority y → IsAnswer board v making x y
          answer_by_going y goes = record {
            is_letter = goes.is_letter;
            leaf = still (x + y) ∙ ap (λ (o : Option ℕ). one_for leaf o) (as_stored (x + y) ∙ leaf_by_going x y goes)
                ∙ one_same leaf;
          }

          going_by_answer : (y : ℕ) → IsAnswer board v making x y → GoesThere board q x step.state step.priority y
          going_by_answer y answer =
              let here : leaf_of s node (x + y) ≡ Some leaf = one_is leaf (leaf_of s node (x + y))
              (some_is (one_for leaf (leaf_of s node (x + y))) 1 (sym (still (x + y)) ∙ answer.leaf)) in
              goes_by_leaf x y answer.is_letter (sym (as_stored (x + y)) ∙ here)

          -- there is an answer
          pub has_answer : IsAnswered board v making x
          has_answer = record {
            first = x_first;
            letter = x_goes.letter;
            answer = answer_by_going x_goes.letter (goes_from x x_goes);
          }

          pub least_step : (y : ℕ) → IsLeastLetter (IsAnswer board v making x) y →
              IsLeastStep board q step.state step.priority x y
          least_step y least_y = record {
            first = first_least;
            second = record {
              here = going_by_answer y least_y.here;
              none_before = λ z goes before. least_y.none_before z (answer_by_going z goes) before;
            };
          }
