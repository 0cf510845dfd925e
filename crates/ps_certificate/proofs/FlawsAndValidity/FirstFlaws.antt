-- If no earlier vertex has a wrong move or an escape, a vertex's first flaw of these two kinds is the certificate's
-- first flaw. An escape is an edge that the winner's moves allow, but that leaves the winner's region.
use Rattle.std.proofs.Common.{◌≡◌, ℕ, ◌<◌, ◌⊎◌, inl, inr, arith, Option, refl, rules}
use Rattle.std.proofs.lemmas.Bool.{cases_order}
use Rattle.ps_game.specs.Games.{ParityGame, vertex_count}
use Rattle.ps_certificate.specs.declared.flaw.Flaw.{Flaw}
use Rattle.ps_certificate.specs.declared.flaw.Flaw.TheVariants.{Move, Escape, Rank}
use Rattle.ps_certificate.specs.Certificates.{CertificateData, HasRightMove, IsClosed, IsFlaw, Precedes, IsFirstFlaw}
use Rattle.ps_certificate.specs.Certificates.{choice_of}
use Rattle.ps_certificate.specs.Inner.Prefixes.{IsSoundAt, IsFirstFlawAt, stage_of, vertex_of}
use Rattle.ps_certificate.proofs.FlawsAndValidity.SuccessorEdges.{HasWrongMove-from_not_right, not_wrong_when_right}

-- of two flaws that the same stage of the check reports, the one at the earlier vertex comes first
later_vertex : (game : ParityGame) (flaw other : Flaw) → stage_of flaw ≡ stage_of other →
    vertex_of flaw < vertex_of other → Precedes game flaw other
later_vertex game flaw other h k = search rules

-- a flaw of the check's first stage (a wrong move or an escape) comes before a flaw of its second stage (in the counts)
earlier_stage : (game : ParityGame) (flaw other : Flaw) → stage_of flaw < stage_of other → Precedes game flaw other
earlier_stage game flaw other h = search rules

-- if the earlier vertices have no flaw of the same stage of the check, the first flaw at a vertex is the first of its
-- stage
pub first_of_stage : {game : ParityGame} {certificate : CertificateData} {stage v : ℕ} {flaw : Flaw} →
    IsFirstFlawAt game certificate stage v flaw → ((other : Flaw) → IsFlaw game certificate other →
    stage_of other ≡ stage → vertex_of other < v → ⊥) → {other : Flaw} → IsFlaw game certificate other →
    stage_of other ≡ stage → (flaw ≡ other) ⊎ Precedes game flaw other
first_of_stage {game} {v} {flaw} at none_before {other} is_flaw at_stage = search (rules, cases_order, later_vertex)

pub stage_cases : (flaw : Flaw) → (stage_of flaw ≡ 0) ⊎ (stage_of flaw ≡ 1)
stage_cases flaw = search rules

-- a vertex that passes the first stage of the check has no wrong move, and no edge that the winner's moves allow leads
-- from it out of the winner's region
pub sound_has_no_flaw : {game : ParityGame} {certificate : CertificateData} {v : ℕ} → IsSoundAt game certificate v →
    (flaw : Flaw) → IsFlaw game certificate flaw → stage_of flaw ≡ 0 → vertex_of flaw ≡ v → ⊥
sound_has_no_flaw h flaw k m n = search (rules, not_wrong_when_right)

-- if no earlier vertex has a wrong move or an escape (an edge that the winner's moves allow, out of the winner's
-- region), a vertex's first flaw of these two kinds is the certificate's first flaw
pub first_unsound : {game : ParityGame} {certificate : CertificateData} {v : ℕ} {flaw : Flaw} → ((u : ℕ) →
    u < v → IsSoundAt game certificate u) → IsFirstFlawAt game certificate 0 v flaw → IsFirstFlaw game certificate flaw
first_unsound {game} {flaw} sound at = record {
  is_flaw = at.is_flaw;
  first = λ other is_flaw. elim (stage_cases other) [
    | inl early ↦ first_of_stage at (λ o o_flaw o_stage o_below.
        sound_has_no_flaw (sound (vertex_of o) o_below) o o_flaw o_stage refl) is_flaw early
    | inr late ↦ inr (earlier_stage game flaw other (omega (arith, at.at_stage)))
  ];
}

-- a certificate is closed if each vertex has a right move, and each edge that the winner's moves allow leads to a
-- vertex with the same winner
pub IsClosed-from_sound : {game : ParityGame} {certificate : CertificateData} →
    ((v : ℕ) → v < vertex_count game → IsSoundAt game certificate v) → IsClosed game certificate
IsClosed-from_sound sound = record {
  moves = λ v below. (sound v below).right_move;
  stays = λ v w remains. (sound v remains.edge.0).inside w remains;
}

-- in a closed certificate, no move is wrong, and the winner's moves allow no edge out of the winner's region
pub closed_has_no_flaw : {game : ParityGame} {certificate : CertificateData} → IsClosed game certificate →
    (flaw : Flaw) → IsFlaw game certificate flaw → stage_of flaw ≡ 0 → ⊥
closed_has_no_flaw closed (Move v m) is_flaw at_stage = not_wrong_when_right (closed.moves v is_flaw.0) is_flaw.2
closed_has_no_flaw closed (Escape v w) is_flaw at_stage = is_flaw.1 (closed.stays v w is_flaw.0)
closed_has_no_flaw closed (Rank _ _ _) is_flaw at_stage = omega arith

-- if a vertex has a wrong move, this is the first flaw at the vertex
pub first_move : {game : ParityGame} {certificate : CertificateData} {v : ℕ} {choice : Option ℕ} →
    v < vertex_count game → choice ≡ choice_of certificate v → ¬ HasRightMove game certificate v →
    IsFirstFlawAt game certificate 0 v (Move v choice)
first_move {game} {certificate} {v} {choice} in_range is not_right = search (rules, HasWrongMove-from_not_right)
