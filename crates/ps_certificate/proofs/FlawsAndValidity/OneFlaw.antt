-- Two different flaws can't each come before the other, so the first flaw is unique.
use Rattle.std.proofs.Common.{◌≡◌, ◌≢◌, ℕ, ◌<◌, List, length, rules}
use Rattle.std.specs.Prelude.{slice_index}
use Rattle.std.specs.List.{AllPairs}
use Rattle.std.proofs.lemmas.Bool.{cases_order}
use Rattle.ps_game.specs.Games.{ParityGame, IsGame, vertex_count}
use Rattle.ps_certificate.specs.declared.flaw.Flaw.{Flaw}
use Rattle.ps_certificate.specs.Certificates.{CertificateData, IsFlaw, OccursBefore, EdgePrecedes, Precedes}
use Rattle.ps_certificate.specs.Certificates.{IsFirstFlaw}

-- a list without repeated numbers has each of its numbers at only one index
one_place : (xs : List ℕ) → AllPairs (λ x y. x ≢ y) xs → {i j : ℕ} → i < length xs → j < length xs →
    slice_index xs i ≡ slice_index xs j → i ≡ j
one_place xs different {i} {j} i_within j_within same = search (rules, cases_order)

not_before_itself : (xs : List ℕ) → AllPairs (λ x y. x ≢ y) xs → {x y : ℕ} → y ≡ x → OccursBefore xs x y → ⊥
not_before_itself xs different same (i, j, below, within, at_i, at_j) = search rules

not_both_before : (xs : List ℕ) → AllPairs (λ x y. x ≢ y) xs → {x y : ℕ} → OccursBefore xs x y → OccursBefore xs y x → ⊥
not_both_before xs different (i, j, below, within, at_i, at_j) (k, l, below', within', at_k, at_l) =
    search (rules, one_place)

edges_not_both : {game : ParityGame} → IsGame game → (v w v' w' : ℕ) → v < vertex_count game →
    EdgePrecedes game v w v' w' → EdgePrecedes game v' w' v w → ⊥
edges_not_both h v w v' w' k m n = search (rules, not_both_before)

edge_not_itself : {game : ParityGame} → IsGame game → {v w v' w' : ℕ} → v < vertex_count game →
    EdgePrecedes game v w v' w' → v' ≡ v → w' ≡ w → ⊥
edge_not_itself h k m n p = search (rules, not_before_itself)

not_both_precede : {game : ParityGame} (certificate : CertificateData) → IsGame game → (flaw other : Flaw) → IsFlaw
    game certificate flaw → IsFlaw game certificate other → Precedes game flaw other → Precedes game other flaw → ⊥
not_both_precede certificate h flaw other k m n p = search (rules, edges_not_both, edge_not_itself)

pub one_first_flaw : (game : ParityGame) (certificate : CertificateData) (flaw other : Flaw) → IsGame game →
    IsFirstFlaw game certificate flaw → IsFirstFlaw game certificate other → flaw ≡ other
one_first_flaw game certificate flaw other is_game first second = search (rules, not_both_precede)
