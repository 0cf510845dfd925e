-- Of the numbers that `controllable-AP:` lists, each number below 64 is kept once. Of the numbers from 64 on, only the
-- first is kept, since they share one slot (`slot_of`).
-- - `different_kept`: the kept numbers differ from each other
use Rattle.std.proofs.Common.{◌≡◌, ℕ, false, List, [], ◌∷◌, refl, rules}
use Rattle.std.specs.Prelude.{nat_eq}
use Rattle.std.proofs.lemmas.Bool.{cond_both, eqb-true, eqb-false, false_from_ne_true}
use Rattle.ps_hoa.specs.Files.{is_among}
use Rattle.ps_hoa.specs.Grammar.Header.{slot_of, has_place, kept}
use Rattle.ps_hoa.specs.Sound.{AreDifferent}
use Rattle.ps_hoa.proofs.Soundness.Differences.{neither, different_push}

free_place : (n : ℕ) (ns : List ℕ) → has_place (slot_of n) ns ≡ false → is_among n ns ≡ false
free_place n [] e = refl
free_place n (m ∷ ns) e =
    let f = neither (nat_eq (slot_of n) (slot_of m)) (has_place (slot_of n) ns) e in
    search (rules, false_from_ne_true, eqb-false, eqb-true, free_place n ns f.1)

pub different_kept : (ns : List ℕ) (n : ℕ) → AreDifferent ns → AreDifferent (kept ns n)
different_kept ns n a = search (rules, cond_both, different_push, free_place)
