-- The leaves of a diagram whose leaves are letters, each at itself, are these letters in their order.
use Rattle.std.specs.Prelude.{◌≡◌, ℕ, ◌^◌, ◌<◌, ◌≤◌, List, length, map, Some}
use Rattle.std.proofs.Common.{ap, sym, ◌∙◌, subst, arith, get_or, take}
use Rattle.std.proofs.Math.Seq.{take-length}
use Rattle.std.proofs.lemmas.List.{get_or_default}
use Rattle.ps_diagram.specs.Reached.{AreLeaves, LeadsToLeaf}
use Rattle.ps_diagram.specs.Table.{Table, leaf_of}
use Rattle.ps_machine.specs.Boards.{IsListOf}
use Rattle.ps_machine.proofs.AutomatonGames.BoardSteps.{listed}
use Rattle.ps_brief.specs.Inner.Covering.{IsMarked}

module _ (t : Table) (basis : ℕ) (marks : (x leaf : ℕ) → x < 2 ^ t.propositions → leaf_of t basis x ≡ Some leaf →
    leaf ≡ x) (found : List (ℕ × ℕ)) (are : AreLeaves t basis found) where
  abbrev pub letters : List ℕ
  letters = map (λ (p : ℕ × ℕ). p.1) found

  abbrev at : ℕ → ℕ × ℕ
  at k = get_or found k (0, 0)

  itself : (k : ℕ) → k < length found → (at k).0 ≡ (at k).1
  itself k within =
      let here : LeadsToLeaf t basis (at k).0 (at k).1 = (are.least k (0, 0) within).here in
      marks (at k).1 (at k).0 here.0 here.1

  each : (k : ℕ) → k < length found → IsMarked t basis (at k).1
  each k within =
      let here : LeadsToLeaf t basis (at k).0 (at k).1 = (are.least k (0, 0) within).here in
      (here.0, here.1 ∙ ap (λ (i : ℕ). Some i) (itself k within))

  there : (x : ℕ) → IsMarked t basis x → (k : ℕ) × (k < length found) × ((at k).1 ≡ x)
  there x marked = let (k, pair, within, same, is) = are.each x x (marked.0, marked.1) in (
    k,
    within,
    sym (itself k within) ∙ ap (λ (p : ℕ × ℕ). p.0) (get_or_default found k (0, 0) pair within ∙ same) ∙ is,
  )

  pub marks_listed : IsListOf (IsMarked t basis) letters
  marks_listed = listed (IsMarked t basis) (λ (p : ℕ × ℕ). p.1) found (0, 0) each there
      (λ i j less within. are.rising i j (0, 0) less within)

  -- the letters that were collected
  pub all_marked : (collected : List ℕ) (items : List (ℕ × ℕ)) (n : ℕ) →
      collected ≡ map (λ (p : ℕ × ℕ). p.1) (take n items) → n ≤ length items → length items ≤ n → items ≡ found →
      IsListOf (IsMarked t basis) collected
  all_marked collected items n so_far low high same =
      let all : n ≡ length items = omega (arith, low, high) in
      subst (λ (xs : List ℕ). IsListOf (IsMarked t basis) xs)
      (sym (so_far ∙ ap (λ (k : ℕ). map (λ (p : ℕ × ℕ). p.1) (take k items)) all
      ∙ ap (λ (xs : List (ℕ × ℕ)). map (λ (p : ℕ × ℕ). p.1) xs) (take-length items ∙ same))) marks_listed
