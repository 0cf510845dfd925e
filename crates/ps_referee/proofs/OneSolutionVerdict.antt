-- A solution has at most one certificate with least counts; if it has no flaw but is wrong, only one of the players can
-- be reported to lose a cycle.
use Rattle.std.proofs.Common.{◌≡◌, ◌∙◌, ℕ, zero, suc, ◌<◌, List, length, Option, Bool, refl}
use Rattle.std.proofs.Common.{sym, ap, arith}
use Rattle.std.specs.Prelude.{slice_index_or}
use Rattle.std.proofs.lemmas.List.{ext_get_or}
use Rattle.std.proofs.lemmas.Grind.{same_number_lists}
use Rattle.ps_game.specs.Games.{ParityGame, vertex_count}
use Rattle.ps_certificate.specs.Certificates.{CertificateData, no_entry, winner_of, choice_of, counts_of}
use Rattle.ps_certificate.specs.Certificates.{opposing, Fits, IsValid}
use Rattle.ps_certificate.specs.Least.{SaysTheSame, DiffersInCounts, HasLeastCounts}
use Rattle.ps_certificate.proofs.ReadCertificates.OneReading.{one_list}
use Rattle.ps_measure.proofs.RaisedCounts.Held.{not_held}
use Rattle.ps_referee.specs.Solutions.{IsCertificateOf, IsCycleOf}

-- ## The certificate

module _ {game : ParityGame} {one other : CertificateData} (fits : Fits game one) (fits' : Fits game other)
    (valid : IsValid game one) (valid' : IsValid game other) (least : HasLeastCounts game one)
    (least' : HasLeastCounts game other) (same : SaysTheSame game one other) where
  odd_same : one.odd ≡ other.odd
  odd_same = one_list fits.odd_listed fits'.odd_listed

  even_same : one.even ≡ other.even
  even_same = one_list fits.even_listed fits'.even_listed

  differs : DiffersInCounts game one other
  differs = record { odd = odd_same; even = even_same; same = same }

  differs' : DiffersInCounts game other one
  differs' = record {
    odd = sym odd_same;
    even = sym even_same;
    same = record {
      winners = λ v below. sym (same.winners v below);
      moves = λ v below. sym (same.moves v below);
    };
  }

  opposing_same : (player : ℕ) → opposing one player ≡ opposing other player
  unfolding opposing
  opposing_same player = grind (arith, odd_same, even_same)

  long_same : (v : ℕ) → v < vertex_count game → length (counts_of one v) ≡ length (counts_of other v)
  long_same v below = fits.count_each v below ∙ ap (λ w. length (opposing one w)) (same.winners v below)
      ∙ ap length (opposing_same (winner_of other v)) ∙ sym (fits'.count_each v below)

  counts_same : (v : ℕ) → v < vertex_count game → counts_of one v ≡ counts_of other v
  counts_same v below = same_number_lists (counts_of one v) (counts_of other v) (long_same v below) (λ k within. omega (
    arith,
    least.least other fits' valid' differs v k below within,
    least'.least one fits valid differs' v k below (omega (arith, within, long_same v below)),
  ))

  entry_same : (v : ℕ) → v < length one.entries →
      slice_index_or one.entries v no_entry ≡ slice_index_or other.entries v no_entry
  unfolding winner_of choice_of counts_of
  entry_same v within =
      let below : v < vertex_count game = omega (arith, within, fits.entry_each) in
      grind (arith, same.winners v below, same.moves v below, counts_same v below)

  one_of_both : one ≡ other
  one_of_both = grind (
    arith,
    odd_same,
    even_same,
    ext_get_or no_entry one.entries other.entries (fits.entry_each ∙ sym fits'.entry_each) entry_same,
  )

pub one_certificate : (game : ParityGame) (won : List Bool) (first second : List (Option ℕ))
    (one other : CertificateData) → IsCertificateOf game won first second one →
    IsCertificateOf game won first second other → one ≡ other
one_certificate game won first second one other a b =
    one_of_both a.fits b.fits a.valid b.valid a.least b.least (record {
      winners = λ v below. sym (a.same.winners v below) ∙ b.same.winners v below;
      moves = λ v below. sym (a.same.moves v below) ∙ b.same.moves v below;
    })

-- ## Cycles

pub same_player : (game : ParityGame) (won : List Bool) (first second : List (Option ℕ)) (player other : ℕ)
    (cycle another : List ℕ) → IsCycleOf game won first second player cycle →
    IsCycleOf game won first second other another → player ≡ other
same_player game won first second zero zero cycle another a b = refl
same_player game won first second zero (suc zero) cycle another a b =
    absurd (not_held a.lost a.is_player (b.first_holds refl))
same_player game won first second zero (suc (suc n)) cycle another a b = absurd (omega (arith, b.is_player))
same_player game won first second (suc zero) zero cycle another a b =
    absurd (not_held b.lost b.is_player (a.first_holds refl))
same_player game won first second (suc zero) (suc zero) cycle another a b = refl
same_player game won first second (suc zero) (suc (suc n)) cycle another a b = absurd (omega (arith, b.is_player))
same_player game won first second (suc (suc n)) other cycle another a b = absurd (omega (arith, a.is_player))
