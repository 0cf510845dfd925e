-- The least letters of all classes are a basis, and so are those of all sets, and those of the minimal sets.
-- - `classes_basis`, `sets_basis`, `minimal_basis`: the laws
use Rattle.std.specs.Prelude.{ℕ, zero, suc, ◌^◌, ◌<◌, List}
use Rattle.std.proofs.Common.{sym, subst, refl, inl, inr, arith}
use Rattle.std.proofs.lemmas.Bool.{cases_eq}
use Rattle.ps_text.proofs.ParsedAnswers.Decisions.{decide_both}
use Rattle.ps_machine.specs.Boards.{Board, IsFirstLetter, IsClassLetter, IsListOf}
use Rattle.ps_machine.proofs.AutomatonGames.DecidedMoves.{class_there, first_or_not, steps_sym}
use Rattle.ps_machine.proofs.AutomatonGames.LeastLetters.{least_there}
use Rattle.ps_basis.specs.Bases.{ReachesNoMore, IsBasis, IsAlike, IsSetLetter, IsMinimalLetter}
use Rattle.ps_basis.proofs.LetterReach.{reaches_itself, reaches_through, reaches_same, decide_no_more, decide_alike}

module _ (board : Board) (q : ℕ) where
  -- ## Classes

  pub classes_basis : (letters : List ℕ) → IsListOf (IsClassLetter board q) letters → IsBasis board q letters
  classes_basis letters list = record {
    each = list.each;
    rising = list.rising;
    below_each = λ other first. let (class, is_class, same) = class_there board q first in (
      class,
      record {
        listed = list.complete class is_class;
        no_more = reaches_same board q class other (steps_sym board q other class same);
      },
    );
  }

  -- ## Sets

  alike_through : (x y z : ℕ) → IsAlike board q x y → IsAlike board q y z → IsAlike board q x z
  alike_through x y z one other = record {
    first = other.first;
    no_less = reaches_through board q x y z one.no_less other.no_less;
    no_more = reaches_through board q z y x other.no_more one.no_more;
  }

  -- each letter of the first player is like some least letter of a set
  pub set_there : (x : ℕ) → IsFirstLetter board x → (z : ℕ) × IsSetLetter board q z × IsAlike board q x z
  set_there x first =
      let itself : IsAlike board q x x = record {
        first = first;
        no_less = reaches_itself board q x;
        no_more = reaches_itself board q x;
      } in
      let (z, least) = least_there board.propositions (IsAlike board q x) (decide_alike board q x)
      (λ y is. is.first.within) x itself in (
        z,
        record {
          here = record {
            first = least.here.first;
            no_less = reaches_itself board q z;
            no_more = reaches_itself board q z;
          };
          none_before = λ y alike before. least.none_before y (alike_through x z y least.here alike) before;
        },
        least.here,
      )

  set_is_class : (x : ℕ) → IsSetLetter board q x → IsClassLetter board q x
  set_is_class x least = record {
    here = (least.here.first, λ y second. record { state = refl; priority = refl });
    none_before = λ other is before. least.none_before other (record {
      first = is.0;
      no_less = reaches_same board q x other (steps_sym board q other x is.1);
      no_more = reaches_same board q other x is.1;
    }) before;
  }

  pub sets_basis : (letters : List ℕ) → IsListOf (IsSetLetter board q) letters → IsBasis board q letters
  sets_basis letters list = record {
    each = λ k d within. set_is_class _ (list.each k d within);
    rising = list.rising;
    below_each = λ other first. let (z, is_set, alike) = set_there other first in
        (z, record { listed = list.complete z is_set; no_more = alike.no_more });
  }

  -- ## Minimal sets

  -- z reaches no more than x, and no letter below n reaches less than z
  record IsMinimalBelow (x n z : ℕ) : Type 0 where
    first : IsFirstLetter board z
    no_more : ReachesNoMore board q z x
    minimal : (other : ℕ) → other < n → IsFirstLetter board other → ReachesNoMore board q other z →
        ReachesNoMore board q z other

  minimal_below : (x : ℕ) → IsFirstLetter board x → (n : ℕ) → (z : ℕ) × IsMinimalBelow x n z
  minimal_below x first zero = (
    x,
    record {
      first = first;
      no_more = reaches_itself board q x;
      minimal = λ other below. absurd (omega (arith, below));
    },
  )
  minimal_below x first (suc n) = with_next (minimal_below x first n)
    where
      kept : (z : ℕ) → IsMinimalBelow x n z → ¬ (IsFirstLetter board n × ReachesNoMore board q n z) →
          IsMinimalBelow x (suc n) z
      kept z is not_less = record {
        first = is.first;
        no_more = is.no_more;
        minimal = λ other below is_first no_more. elim (cases_eq other n) [
          | inl same ↦ absurd (not_less (
            subst (λ (y : ℕ). IsFirstLetter board y) same is_first,
            subst (λ (y : ℕ). ReachesNoMore board q y z) same no_more,
          ))
          | inr differ ↦ is.minimal other (omega (arith, below, differ)) is_first no_more
        ];
      }

      changed : (z : ℕ) → IsMinimalBelow x n z → IsFirstLetter board n → ReachesNoMore board q n z →
          IsMinimalBelow x (suc n) n
      changed z is first_next less = record {
        first = first_next;
        no_more = reaches_through board q n z x less is.no_more;
        minimal = λ other below is_first no_more. elim (cases_eq other n) [
          | inl same ↦ subst (λ (y : ℕ). ReachesNoMore board q n y) (sym same) (reaches_itself board q n)
          | inr differ ↦ reaches_through board q n z other less (is.minimal other (omega (arith, below, differ))
              is_first (reaches_through board q other n z no_more less))
        ];
      }

      with_next : (z : ℕ) × IsMinimalBelow x n z → (z : ℕ) × IsMinimalBelow x (suc n) z
      with_next (z, is) = elim (decide_both (first_or_not board n) (decide_no_more board q n z)) [
        | inl less ↦ (n, changed z is less.0 less.1)
        | inr not_less ↦ (z, kept z is not_less)
      ]

  -- behind some least letter of a minimal set, the second player reaches no more than behind x
  pub minimal_there : (x : ℕ) → IsFirstLetter board x →
      (z : ℕ) × IsMinimalLetter board q z × ReachesNoMore board q z x
  minimal_there x first =
      let (y, below) = minimal_below x first (2 ^ board.propositions) in
      let (z, least, alike) = set_there y below.first in (
        z,
        record {
          least = least;
          minimal = λ other is_first no_more. reaches_through board q z y other alike.no_more
              (below.minimal other is_first.within is_first
              (reaches_through board q other z y no_more alike.no_more));
        },
        reaches_through board q z y x alike.no_more below.no_more,
      )

  pub minimal_basis : (letters : List ℕ) → IsListOf (IsMinimalLetter board q) letters → IsBasis board q letters
  minimal_basis letters list = record {
    each = λ k d within. set_is_class _ (list.each k d within).least;
    rising = list.rising;
    below_each = λ other first. let (z, is_minimal, no_more) = minimal_there other first in
        (z, record { listed = list.complete z is_minimal; no_more = no_more });
  }
