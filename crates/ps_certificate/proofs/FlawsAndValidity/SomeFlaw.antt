-- A certificate is closed or has a first flaw, and a certificate that fits its game is valid or has a first flaw. To
-- find the first flaw, the proof goes through the vertices in order, through the successors of each vertex, and through
-- the priorities for each edge.
-- - `IsFirstPlace`, `first_place`: if P or Q holds for each number less than n, then P holds for all these numbers, or
--   Q holds for one of them, k, and P holds for each number less than k
-- - `decide_move`, `decide_rule`: it is decidable whether a vertex's move is right, and whether an edge obeys the
--   certificate's rule of counts
-- - `sound_or_flawed`: a vertex has no flaw that the first stage of the check reports, or it has a first such flaw
-- - `kept_or_flawed`: if a vertex has no flaw of the check's first stage, it has no flaw of the second stage, or it has
--   a first flaw of the second stage
-- - `closed_or_flawed`, `valid_or_flawed`: the two lemmas that prove the law `first_flaw_is_there`
use Rattle.std.proofs.Common.{◌≡◌, ◌≢◌, ℕ, zero, suc, ◌<◌, ◌≤◌, ◌⊎◌, inl, inr, length, get_or, Option, None, Some, refl}
use Rattle.std.proofs.Common.{sym, subst, arith, rules}
use Rattle.std.proofs.lemmas.Bool.{cases_eq, cases_lt}
use Rattle.ps_text.proofs.ParsedAnswers.Decisions.{Decided, decide_in}
use Rattle.ps_game.specs.Games.{ParityGame, vertex_count, owner_of, successors_of, HasEdge}
use Rattle.ps_game.specs.Ranking.{KeepsRule}
use Rattle.ps_certificate.specs.declared.flaw.Flaw.{Flaw}
use Rattle.ps_certificate.specs.declared.flaw.Flaw.TheVariants.{Escape, Rank}
use Rattle.ps_certificate.specs.Certificates.{CertificateData, Fits, Remains, HasRightMove, IsClosed, IsValid}
use Rattle.ps_certificate.specs.Certificates.{IsFirstFlaw, KeepsCount, winner_of, choice_of, opposing}
use Rattle.ps_certificate.specs.Certificates.{opposing_at}
use Rattle.ps_certificate.specs.Inner.Prefixes.{IsSoundAt, IsFirstFlawAt, IsFirstBroken, IsFirstEscape, KeepsCounts}
use Rattle.ps_certificate.specs.Inner.Prefixes.{KeepsCountsAt, StaysInside}
use Rattle.ps_certificate.proofs.FlawsAndValidity.CountRule.{IsFirstFlawAt-rank, KeepsCountsAt-from_all, first_unranked}
use Rattle.ps_certificate.proofs.FlawsAndValidity.CountRule.{other_edges}
use Rattle.ps_certificate.proofs.FlawsAndValidity.CountRule.{own_edge, own_edges, valid_has_no_flaw, valid_in_the_end}
use Rattle.ps_certificate.proofs.FlawsAndValidity.SuccessorEdges.{HasEdge-at, IsFirstEscape-at, IsSomeAnd-at}
use Rattle.ps_certificate.proofs.FlawsAndValidity.SuccessorEdges.{Remains-other}
use Rattle.ps_certificate.proofs.FlawsAndValidity.SuccessorEdges.{StaysInside-from_all, not_wrong_when_right, own_move}
use Rattle.ps_certificate.proofs.FlawsAndValidity.FirstFlaws.{IsClosed-from_sound, closed_has_no_flaw, first_move}
use Rattle.ps_certificate.proofs.FlawsAndValidity.FirstFlaws.{first_unsound}

-- ## The first place

-- k is less than n, Q holds for k, and P holds for each number less than k
pub record IsFirstPlace (P Q : ℕ → Type 0) (n k : ℕ) : Type 0 where
  pub within : k < n
  pub before : (j : ℕ) → j < k → P j
  pub there : Q k

pub first_place : (P Q : ℕ → Type 0) (n : ℕ) → ((k : ℕ) → k < n → P k ⊎ Q k) →
    ((k : ℕ) → k < n → P k) ⊎ ((k : ℕ) × IsFirstPlace P Q n k)
first_place P Q zero cases = inl (λ k below. absurd (omega (arith, below)))
first_place P Q (suc n) cases = go (first_place P Q n (λ k below. cases k (omega (arith, below))))
  where
    below_next : ((k : ℕ) → k < n → P k) → P n → (k : ℕ) → k < suc n → P k
    below_next all here k below = elim (cases_eq k n) [
      | inl same ↦ subst P (sym same) here
      | inr differ ↦ all k (omega arith)
    ]

    last : ((k : ℕ) → k < n → P k) → P n ⊎ Q n →
        ((k : ℕ) → k < suc n → P k) ⊎ ((k : ℕ) × IsFirstPlace P Q (suc n) k)
    last all (inl here) = inl (below_next all here)
    last all (inr here) = inr (n, record { within = omega arith; before = all; there = here })

    go : ((k : ℕ) → k < n → P k) ⊎ ((k : ℕ) × IsFirstPlace P Q n k) →
        ((k : ℕ) → k < suc n → P k) ⊎ ((k : ℕ) × IsFirstPlace P Q (suc n) k)
    go (inl all) = last all (cases n (omega arith))
    go (inr (k, found)) = inr (
      k,
      record {
        within = omega (arith, found.within);
        before = found.before;
        there = found.there;
      },
    )

-- ## Moves and escapes

module _ (game : ParityGame) (certificate : CertificateData) (v : ℕ) (in_range : v < vertex_count game) where
  decide_own : owner_of game v ≡ winner_of certificate v → (choice : Option ℕ) → choice_of certificate v ≡ choice →
      Decided (HasRightMove game certificate v)
  decide_own own None is = inr (λ right. grind (arith, right.own own))
  decide_own own (Some w) is = elim (decide_in (successors_of game v) w) [
    | inl edge ↦ inl (record { own = λ _. rw is (in_range, edge); other = λ other. absurd (other own) })
    | inr none ↦ inr (λ right. none (IsSomeAnd-at (HasEdge game v) is (right.own own)).1)
  ]

  decide_other : owner_of game v ≢ winner_of certificate v → (choice : Option ℕ) → choice_of certificate v ≡ choice →
      Decided (HasRightMove game certificate v)
  decide_other other None is = inl (record { own = λ own. absurd (other own); other = λ _. is })
  decide_other other (Some w) is = inr (λ right. grind (arith, right.other other))

  decide_move : Decided (HasRightMove game certificate v)
  decide_move = elim (cases_eq (owner_of game v) (winner_of certificate v)) [
    | inl own ↦ decide_own own (choice_of certificate v) refl
    | inr other ↦ decide_other other (choice_of certificate v) refl
  ]

  -- if the move of a vertex is right, the first edge that the winner's moves allow out of the winner's region (the
  -- first escape) is the vertex's first flaw
  escape_first : HasRightMove game certificate v → {w : ℕ} → IsFirstEscape game certificate v w →
      IsFirstFlawAt game certificate 0 v (Escape v w)
  escape_first right {w} escape = search (rules, not_wrong_when_right)

  stays_or_escapes : HasRightMove game certificate v →
      StaysInside game certificate v ⊎ ((w : ℕ) × IsFirstEscape game certificate v w)
  stays_or_escapes right = elim (cases_eq (owner_of game v) (winner_of certificate v)) [
    | inl own ↦ by_owner own
    | inr other ↦ by_other other
  ]
    where
      by_owner : owner_of game v ≡ winner_of certificate v →
          StaysInside game certificate v ⊎ ((w : ℕ) × IsFirstEscape game certificate v w)
      by_owner own = let (w, is, edge) = own_move game certificate v right own in
          elim (cases_eq (winner_of certificate w) (winner_of certificate v)) [
            | inl same ↦ inl (λ other remains. rw (own_edges game certificate v own is remains) same)
            | inr differ ↦ inr (
              w,
              record {
                leaves = record { remains = own_edge right own is; other_winner = differ };
                first = λ other leaves. inl (sym (own_edges game certificate v own is leaves.remains));
              },
            )
          ]

      by_other : owner_of game v ≢ winner_of certificate v →
          StaysInside game certificate v ⊎ ((w : ℕ) × IsFirstEscape game certificate v w)
      by_other other = elim (first_place
          (λ k. winner_of certificate (get_or (successors_of game v) k 0) ≡ winner_of certificate v)
          (λ k. winner_of certificate (get_or (successors_of game v) k 0) ≢ winner_of certificate v)
          (length (successors_of game v)) (λ k below. cases_eq _ _)) [
            | inl all ↦ inl (StaysInside-from_all game certificate v all)
            | inr (k, found) ↦ inr (
              get_or (successors_of game v) k 0,
              IsFirstEscape-at k in_range other found.within refl found.before found.there,
            )
          ]

  -- either the vertex's move is right and the winner's moves allow no edge out of the winner's region, or the vertex
  -- has a first flaw: a wrong move, or such an edge
  sound_or_flawed : IsSoundAt game certificate v ⊎ ((flaw : Flaw) × IsFirstFlawAt game certificate 0 v flaw)
  sound_or_flawed = elim decide_move [
    | inl right ↦ elim (stays_or_escapes right) [
      | inl inside ↦ inl (record { right_move = right; inside = inside })
      | inr (w, escape) ↦ inr (Escape v w, escape_first right escape)
    ]
    | inr wrong ↦ inr (_, first_move in_range refl wrong)
  ]

-- ## Counts

decide_rule : (p from to before after : ℕ) → Decided (KeepsRule p from to before after)
decide_rule p from to before after = elim (cases_lt p from) [
  | inl above ↦ inl (record { never_rises = λ l m. absurd (omega arith); falls = λ e m. absurd (omega arith) })
  | inr low ↦ elim (cases_lt p to) [
    | inl above ↦ inl (record { never_rises = λ l m. absurd (omega arith); falls = λ e m. absurd (omega arith) })
    | inr less ↦ decide_counts low less (cases_lt before after) (cases_lt after before) (cases_eq from p)
  ]
]
  where
    decide_counts : from ≤ p → to ≤ p → (before < after) ⊎ (after ≤ before) → (after < before) ⊎ (before ≤ after) →
        (from ≡ p) ⊎ (from ≢ p) → Decided (KeepsRule p from to before after)
    decide_counts low less (inl rises) falls same = inr (λ rule. omega (arith, rises, rule.never_rises low less))
    decide_counts low less (inr kept) (inl falls) same =
        inl (record { never_rises = λ l m. kept; falls = λ e m. falls })
    decide_counts low less (inr kept) (inr stays) (inl at) = inr (λ rule. omega (arith, stays, rule.falls at less))
    decide_counts low less (inr kept) (inr stays) (inr other) =
        inl (record { never_rises = λ l m. kept; falls = λ e m. absurd (other e) })

-- an edge obeys the certificate's rule of counts for every priority, or there is a first priority for which the edge
-- breaks the rule
keeps_or_breaks : (game : ParityGame) (certificate : CertificateData) (v w : ℕ) →
    KeepsCounts game certificate v w ⊎ ((p : ℕ) × IsFirstBroken game certificate v w p)
keeps_or_breaks game certificate v w = elim (first_place (λ k. KeepsCount game certificate v w k)
    (λ k. ¬ KeepsCount game certificate v w k) (length (opposing certificate (winner_of certificate v)))
    (λ k below. decide_rule _ _ _ _ _)) [
      | inl all ↦ inl all
      | inr (k, found) ↦ inr (
        opposing_at certificate v k,
        record {
          place = k;
          within = found.within;
          priority = refl;
          broken = found.there;
          earlier = found.before;
        },
      )
    ]

module _ (game : ParityGame) (certificate : CertificateData) (fits : Fits game certificate) (v : ℕ)
    (in_range : v < vertex_count game) (sound : IsSoundAt game certificate v) where
  abbrev KeptOrFlawed : Type 0
  KeptOrFlawed = KeepsCountsAt game certificate v ⊎ ((flaw : Flaw) × IsFirstFlawAt game certificate 1 v flaw)

  kept_by_owner : owner_of game v ≡ winner_of certificate v → KeptOrFlawed
  kept_by_owner own = let (w, is, edge) = own_move game certificate v sound.right_move own in
      elim (keeps_or_breaks game certificate v w) [
        | inl keeps ↦ inl (λ other remains. rw (own_edges game certificate v own is remains) keeps)
        | inr (p, broken) ↦
            let remains : Remains game certificate v w = own_edge sound.right_move own is in
            inr (
              Rank v w p,
              IsFirstFlawAt-rank fits remains (sound.inside w remains) broken
                  (λ other remains'. inl (own_edges game certificate v own is remains')),
            )
      ]

  kept_by_other : owner_of game v ≢ winner_of certificate v → KeptOrFlawed
  kept_by_other other = elim (first_place
      (λ k. KeepsCounts game certificate v (get_or (successors_of game v) k 0))
      (λ k. (p : ℕ) × IsFirstBroken game certificate v (get_or (successors_of game v) k 0) p)
      (length (successors_of game v)) (λ k below. keeps_or_breaks game certificate v _)) [
        | inl all ↦ inl (KeepsCountsAt-from_all game certificate v all)
        | inr (k, found) ↦
            let w : ℕ = get_or (successors_of game v) k 0 in
            let remains : Remains game certificate v w =
            Remains-other game certificate v w other (HasEdge-at game v k in_range found.within refl) in
            inr (
              Rank v w found.there.0,
              IsFirstFlawAt-rank fits remains (sound.inside w remains) found.there.1
                  (other_edges game certificate v w k found.within refl found.before),
            )
      ]

  -- either each edge of the vertex that the winner's moves allow obeys the certificate's rule of counts, or the vertex
  -- has a first flaw in its counts
  kept_or_flawed : KeptOrFlawed
  kept_or_flawed = elim (cases_eq (owner_of game v) (winner_of certificate v)) [
    | inl own ↦ kept_by_owner own
    | inr other ↦ kept_by_other other
  ]

-- ## The whole certificate

module _ (game : ParityGame) (certificate : CertificateData) where
  abbrev HasFirst : Type 0
  HasFirst = (flaw : Flaw) × IsFirstFlaw game certificate flaw

  -- either all moves are right and the winner's moves allow no edge out of the winner's region, or the certificate is
  -- not closed, and has a first flaw
  all_sound : ((v : ℕ) → v < vertex_count game → IsSoundAt game certificate v) ⊎
      (¬ IsClosed game certificate × HasFirst)
  all_sound = elim (first_place (IsSoundAt game certificate)
      (λ v. (flaw : Flaw) × IsFirstFlawAt game certificate 0 v flaw) (vertex_count game)
      (λ v below. sound_or_flawed game certificate v below)) [
        | inl all ↦ inl all
        | inr (v, found) ↦ inr (
          λ closed. closed_has_no_flaw closed found.there.0 found.there.1.is_flaw found.there.1.at_stage,
          (found.there.0, first_unsound found.before found.there.1),
        )
      ]

  pub closed_or_flawed : IsClosed game certificate ⊎ (¬ IsClosed game certificate × HasFirst)
  closed_or_flawed = elim all_sound [
    | inl all ↦ inl (IsClosed-from_sound all)
    | inr flawed ↦ inr flawed
  ]

  valid_from_kept : Fits game certificate → ((v : ℕ) → v < vertex_count game → IsSoundAt game certificate v) →
      IsValid game certificate ⊎ (¬ IsValid game certificate × HasFirst)
  valid_from_kept fits all = elim (first_place (KeepsCountsAt game certificate)
      (λ v. (flaw : Flaw) × IsFirstFlawAt game certificate 1 v flaw) (vertex_count game)
      (λ v below. kept_or_flawed game certificate fits v below (all v below))) [
        | inl kept ↦ inl (valid_in_the_end (vertex_count game) {found = None} (omega arith) all kept refl)
        | inr (v, found) ↦
            let first = first_unranked (IsClosed-from_sound all) found.before found.there.1 in
            inr (λ valid. valid_has_no_flaw found.there.0 valid first.is_flaw, (found.there.0, first))
      ]

  pub valid_or_flawed : Fits game certificate → IsValid game certificate ⊎ (¬ IsValid game certificate × HasFirst)
  valid_or_flawed fits = elim all_sound [
    | inl all ↦ valid_from_kept fits all
    | inr (open_at, first) ↦ inr (λ valid. open_at valid.closed, first)
  ]
