-- The minimal letters that were found for a basis are as many as the rounds of the search.
-- - `found_begun`, `found_more`, `found_kept`: what holds at the beginning, after one more letter, and with more nodes
use Rattle.std.specs.Prelude.{◌≡◌, ◌≢◌, ℕ, ◌+◌, ◌≤◌, List, [], ◌∷◌, Option, Some, IsSome}
use Rattle.std.specs.List.{Contains}
use Rattle.std.proofs.Common.{sym, ◌∙◌, subst, refl, inl, inr, arith, get_or}
use Rattle.std.proofs.lemmas.List.Elements.{All-cons, Contains-get_or}
use Rattle.std.proofs.lemmas.List.Kept.{AllPairs-cons}
use Rattle.ps_diagram.specs.Table.{Table, IsNode, Keeps, leaf_of}
use Rattle.ps_machine.specs.Boards.{Board, IsFirstLetter}
use Rattle.ps_machine.proofs.Uniqueness.Rising.{in_cons}
use Rattle.ps_basis.specs.Bases.{IsMinimalLetter, ReachesNoMore}
use Rattle.ps_brief.specs.Inner.Covering.{HasFound, IsApart}
use Rattle.ps_brief.specs.MinimalLetters.{HasMinimalLetters}
use Rattle.ps_brief.specs.Settings.{board_in}
use Rattle.ps_brief.specs.declared.setting.Setting.{Setting}
use Rattle.ps_brief.proofs.ListedStates.KeptTargets.{leaf_kept}

module _ (setting : Setting) (q : ℕ) where
  abbrev board : Board
  board = board_in setting

  pub found_begun : {t : Table} (uncovered : ℕ) → ((x : ℕ) → leaf_of t uncovered x ≡ Some 1) →
      HasFound setting t q uncovered 0
  found_begun uncovered ones = record {
    others = λ u v off. ones u ∙ sym (ones v);
    found = record {
      letters = [];
      count = omega arith;
      minimal = λ k d within. absurd (omega (arith, within));
      different = λ i j d less within. absurd (omega (arith, within));
    };
    apart = λ x z inside. absurd (let within = inside.1 in omega (arith, within));
  }

  pub found_kept : {s t : Table} (uncovered n : ℕ) → Keeps s t → IsNode s uncovered → HasFound setting s q uncovered n →
      HasFound setting t q uncovered n
  found_kept uncovered n keeps held is = record {
    others = λ u v off. leaf_kept uncovered u keeps held ∙ is.others u v off ∙ sym (leaf_kept uncovered v keeps held);
    found = is.found;
    apart = λ x z inside first some. is.apart x z inside first
        (subst (λ (o : Option ℕ). IsSome o) (leaf_kept uncovered z keeps held) some);
  }

  -- `least` is minimal, and reaches no more than a letter that was uncovered
  module _ {s t : Table} (uncovered left letter least n : ℕ) (is : HasFound setting s q uncovered n)
      (first : IsFirstLetter board letter) (open_still : leaf_of s uncovered letter ≡ Some 1)
      (below : ReachesNoMore board q least letter) (minimal : IsMinimalLetter board q least)
      (apart : IsApart setting s t q least uncovered left) where
    abbrev old : List ℕ
    old = is.found.letters

    fresh : (x : ℕ) → Contains old x → least ≢ x
    fresh x inside same = is.apart x letter inside first
        (subst (λ (o : Option ℕ). IsSome o) (sym open_still) refl)
        (subst (λ (y : ℕ). ReachesNoMore board q y letter) same below)

    not_covered : (x z : ℕ) → Contains (least ∷ old) x → IsFirstLetter board z → IsSome (leaf_of t left z) →
        ¬ ReachesNoMore board q x z
    not_covered x z inside is_first some no_more = elim (in_cons old inside) [
      | inl same ↦ apart.apart z is_first some (subst (λ (y : ℕ). ReachesNoMore board q y z) (sym same) no_more)
      | inr earlier ↦ is.apart x z earlier is_first (apart.still z some) no_more
    ]

    pub found_more : HasFound setting t q left (n + 1)
    found_more = record {
      others = apart.others is.others;
      found = record {
        letters = least ∷ old;
        count = let few = is.found.count in omega (arith, few);
        minimal = All-cons (IsMinimalLetter board q) least old minimal is.found.minimal;
        different = AllPairs-cons (λ x y. x ≢ y) least old
            (λ k d within. fresh (get_or old k d) (Contains-get_or old k d within)) is.found.different;
      };
      apart = not_covered;
    }

-- who has many has fewer
pub enough_letters : (board : Board) (q n m : ℕ) → n ≤ m → HasMinimalLetters board q m → HasMinimalLetters board q n
enough_letters board q n m few many = record {
  letters = many.letters;
  count = let whole = many.count in omega (arith, few, whole);
  minimal = many.minimal;
  different = many.different;
}
