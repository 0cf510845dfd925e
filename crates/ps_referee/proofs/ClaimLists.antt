-- The list of what a solution claims about each vertex, built by appending one vertex's claim after another.
use Rattle.std.proofs.Common.{◌≡◌, ◌∙◌, ℕ, ◌+◌, List, [], ◌∷◌, ◌++◌, Option, Bool, refl, sym, ap, arith}
use Rattle.std.proofs.lemmas.List.FromFn.{map-range_with_len_more}
use Rattle.ps_game.specs.Games.{ParityGame, vertex_count}
use Rattle.ps_certificate.specs.Certificates.{EntryData}
use Rattle.ps_referee.specs.Solutions.{claim_with, claimed}
use Rattle.ps_referee.specs.Inner.Building.{claims}

module _ (game : ParityGame) (won : List Bool) (first second : List (Option ℕ)) (counts : ℕ → List ℕ) where
  pub claims_start : [] ≡ claims game won first second counts 0
  unfolding claims
  claims_start = refl

  pub claims_more : (n : ℕ) (entries : List EntryData) (e : EntryData) → entries ≡ claims game won first second counts n
      → e ≡ claim_with game won first second n (counts n) →
      entries ++ e ∷ [] ≡ claims game won first second counts (n + 1)
  unfolding claims
  claims_more n entries e are is =
      ap (λ es. es ++ e ∷ []) are ∙ ap (λ x. claims game won first second counts n ++ x ∷ []) is
      ∙ sym (map-range_with_len_more (λ v. claim_with game won first second v (counts v)) 0 n n (omega arith))

pub claim_made : (game : ParityGame) (won : List Bool) (first second : List (Option ℕ)) (n : ℕ)
    (entries : List EntryData) → n ≡ vertex_count game → entries ≡ claims game won first second (λ _. []) n →
    (record { odd = []; even = []; entries = entries }) ≡ claimed game won first second
unfolding claims claimed
claim_made game won first second n entries all are = grind arith
