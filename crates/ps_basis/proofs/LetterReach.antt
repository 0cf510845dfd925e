-- The order of letters by what the second player reaches behind them, which is decidable.
use Rattle.std.specs.Prelude.{ℕ, ◌+◌, ◌^◌}
use Rattle.std.proofs.Common.{sym, ◌∙◌, refl, inl, inr}
use Rattle.ps_text.proofs.ParsedAnswers.Decisions.{Decided, decide_both, decide_not, decide_as}
use Rattle.ps_automaton.proofs.AdmittedFiles.Deciding.{some_or_none}
use Rattle.ps_machine.specs.Boards.{Board, IsSecondLetter, SameStep, SameSteps}
use Rattle.ps_machine.proofs.AutomatonGames.DecidedMoves.{first_or_not, second_or_not, step_or_not}
use Rattle.ps_basis.specs.Bases.{CanGoTo, ReachesNoMore, IsAlike}

module _ (board : Board) (q : ℕ) where
  pub reaches_itself : (x : ℕ) → ReachesNoMore board q x x
  reaches_itself x r s reaches = reaches

  pub reaches_through : (x y z : ℕ) → ReachesNoMore board q x y → ReachesNoMore board q y z → ReachesNoMore board q x z
  reaches_through x y z one other r s reaches = other r s (one r s reaches)

  -- letters of one class
  pub reaches_same : (x y : ℕ) → SameSteps board q x y → ReachesNoMore board q x y
  reaches_same x y same r s reaches = record {
    letter = reaches.letter;
    is_letter = reaches.is_letter;
    state = sym ((same reaches.letter reaches.is_letter).state) ∙ reaches.state;
    priority = sym ((same reaches.letter reaches.is_letter).priority) ∙ reaches.priority;
  }

  -- ## Decisions

  -- behind b, the letter z makes the step that y makes behind a
  abbrev Matches : ℕ → ℕ → ℕ → ℕ → Type 0
  Matches a b y z = IsSecondLetter board z × SameStep board q (a + y) (b + z)

  abbrev Lacks : ℕ → ℕ → ℕ → Type 0
  Lacks a b y = IsSecondLetter board y × ¬ ((z : ℕ) × Matches a b y z)

  match_or_not : (a b y : ℕ) → Decided ((z : ℕ) × Matches a b y z)
  match_or_not a b y = some_or_none (Matches a b y) (λ z. decide_both (second_or_not board z) (step_or_not board))
      (2 ^ board.propositions) (λ z is. is.0.within)

  lacks_or_not : (a b y : ℕ) → Decided (Lacks a b y)
  lacks_or_not a b y = decide_both (second_or_not board y) (decide_not (match_or_not a b y))

  pub decide_no_more : (a b : ℕ) → Decided (ReachesNoMore board q a b)
  decide_no_more a b = elim (some_or_none (Lacks a b) (lacks_or_not a b) (2 ^ board.propositions)
      (λ y is. is.0.within)) [
        | inl (y, lacks) ↦ inr
            (λ no_more. reached y lacks (no_more (board.auto.next q (a + y)) (board.auto.priority q (a + y)) (record {
              letter = y;
              is_letter = lacks.0;
              state = refl;
              priority = refl;
            })))
        | inr none ↦ inl (λ r s reaches. found none r s reaches (match_or_not a b reaches.letter))
      ]
    where
      reached : (y : ℕ) → Lacks a b y →
          CanGoTo board q b (board.auto.next q (a + y)) (board.auto.priority q (a + y)) → ⊥
      reached y lacks reaches = lacks.1 (
        reaches.letter,
        (reaches.is_letter, record { state = sym reaches.state; priority = sym reaches.priority }),
      )

      found : ¬ ((y : ℕ) × Lacks a b y) → (r s : ℕ) → (reaches : CanGoTo board q a r s) →
          Decided ((z : ℕ) × Matches a b reaches.letter z) → CanGoTo board q b r s
      found none r s reaches (inl (z, matches)) = record {
        letter = z;
        is_letter = matches.0;
        state = sym matches.1.state ∙ reaches.state;
        priority = sym matches.1.priority ∙ reaches.priority;
      }
      found none r s reaches (inr missing) = absurd (none (reaches.letter, (reaches.is_letter, missing)))

  pub decide_alike : (x other : ℕ) → Decided (IsAlike board q x other)
  decide_alike x other = decide_as
      (λ parts. record { first = parts.0; no_less = parts.1.0; no_more = parts.1.1 })
      (λ alike. (alike.first, (alike.no_less, alike.no_more)))
      (decide_both (first_or_not board other) (decide_both (decide_no_more x other) (decide_no_more other x)))
