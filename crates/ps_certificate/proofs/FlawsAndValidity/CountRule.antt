-- Lemmas about a certificate's rule of counts, which says when a count must not rise, or must fall, along an edge. The
-- lemmas state when one edge obeys the rule of counts, and which edge of a vertex is the first that breaks this rule.
use Rattle.std.proofs.Common.{◌≡◌, ◌≢◌, ℕ, ◌%◌, ◌<◌, ◌≤◌, List, length, get_or, max, ◌⊎◌, inl, inr, sym, subst}
use Rattle.std.proofs.Common.{ap, ◌∙◌, arith, refl, None, Some, Option, rules}
use Rattle.std.specs.Prelude.{slice_index, IfNone}
use Rattle.std.specs.List.{Contains}
use Rattle.std.specs.List.Sorted.{IsStrictlyIncreasing}
use Rattle.std.proofs.lemmas.Bool.{cases_order, cases_lt, cases_eq}
use Rattle.ps_game.specs.Games.{ParityGame, vertex_count, owner_of, priority_of, successors_of}
use Rattle.ps_certificate.specs.declared.flaw.Flaw.{Flaw}
use Rattle.ps_certificate.specs.declared.flaw.Flaw.TheVariants.{Rank}
use Rattle.ps_certificate.specs.Certificates.{CertificateData, Fits, Remains, HasRightMove, IsClosed, IsValid}
use Rattle.ps_certificate.specs.Certificates.{KeepsCount, BreaksCount, IsFlaw, Precedes, IsFirstFlaw, OccursBefore}
use Rattle.ps_certificate.specs.Certificates.{winner_of, choice_of, counts_of, opposing, opposing_at}
use Rattle.ps_certificate.specs.Inner.Prefixes.{IsFirstBroken, IsFirstFlawAt, KeepsCounts, KeepsCountsAt}
use Rattle.ps_certificate.specs.Inner.Prefixes.{KeepCountsBefore}
use Rattle.ps_certificate.specs.Inner.Prefixes.{IsSoundAt, stage_of, vertex_of}
use Rattle.ps_certificate.proofs.FlawsAndValidity.SuccessorEdges.{place_of, IsSomeAnd-at, Remains-own}
use Rattle.ps_certificate.proofs.FlawsAndValidity.FirstFlaws.{first_of_stage, closed_has_no_flaw, stage_cases}
use Rattle.ps_certificate.proofs.FlawsAndValidity.FirstFlaws.{IsClosed-from_sound}
use Rattle.ps_certificate.proofs.SparseRows.Lists.{rising_far}

-- in a certificate that fits its game, the list of the priorities that oppose a player is ascending
pub opposing_rises : {game : ParityGame} {certificate : CertificateData} (player : ℕ) → Fits game certificate →
    IsStrictlyIncreasing (opposing certificate player)
unfolding opposing
opposing_rises {certificate} player fits = search rules

-- if a vertex's priority has the parity of the player's opponent, the certificate lists this priority among the
-- priorities that oppose the player
pub opposing_complete : {game : ParityGame} {certificate : CertificateData} (player : ℕ) → Fits game certificate →
    player < 2 → (v : ℕ) → v < vertex_count game → priority_of game v % 2 ≢ player →
    Contains (opposing certificate player) (priority_of game v)
unfolding opposing
opposing_complete player h k v m n = search rules

-- `priorities` is the ascending list of the priorities that oppose the winner; the lists `before` and `after` have the
-- counts of an edge's two ends, one for each item of `priorities`. `top` is the greater of the priorities of the edge's
-- two ends: the items of `priorities` before index `start` are less than `top`, and all other items are at least `top`.
pub record Compared (game : ParityGame) (certificate : CertificateData) (v w : ℕ) (priorities before after : List ℕ)
    (top start : ℕ) : Type 0 where
  pub priorities_are : priorities ≡ opposing certificate (winner_of certificate v)
  pub before_are : before ≡ counts_of certificate v
  pub after_are : after ≡ counts_of certificate w
  pub rising : IsStrictlyIncreasing priorities
  pub top_is : top ≡ max (priority_of game v) (priority_of game w)
  pub lower : (j : ℕ) → j < start → slice_index priorities j < top
  pub higher : (j : ℕ) → start ≤ j → j < length priorities → top ≤ slice_index priorities j

-- if the item at index `start` of the list is the priority of the vertex that the edge leaves, the count at index
-- `start` falls along the edge
abbrev pub FallsAtStart : ParityGame → ℕ → List ℕ → List ℕ → List ℕ → ℕ → Type 0
FallsAtStart game v priorities before after start = start < length priorities →
    slice_index priorities start ≡ priority_of game v → slice_index after start < slice_index before start

-- for a listed priority that is less than the priority of one of the edge's ends, the certificate's rule of counts
-- requires nothing
KeepsCount-lower : {game : ParityGame} {certificate : CertificateData} {v w : ℕ} {priorities before after : List ℕ}
    {top start : ℕ} (k : ℕ) → Compared game certificate v w priorities before after top start → k < start →
    KeepsCount game certificate v w k
KeepsCount-lower {game} {certificate} {v} {w} {priorities} {top} k compared early = search rules

pub KeepsCount-compared : {game : ParityGame}
    {certificate : CertificateData} {v w : ℕ} {priorities before after : List ℕ} {top start : ℕ} (k : ℕ) → Compared
    game certificate v w priorities before after top start → FallsAtStart game v priorities before after start →
    k < length priorities → (start ≤ k → slice_index after k ≤ slice_index before k) → KeepsCount game certificate v w k
KeepsCount-compared {game} {certificate} {v} {w} {priorities} {before} {after} {top} {start} k compared strict
    within at_most = elim (cases_lt k start) [
      | inl early ↦ KeepsCount-lower k compared early
      | inr late ↦
          let is = ap (λ l. slice_index l k) compared.priorities_are in
          let before_is = ap (λ l. slice_index l k) compared.before_are in
          let after_is = ap (λ l. slice_index l k) compared.after_are in
          record {
            never_rises = λ own_at other_at. omega (arith, at_most late, before_is, after_is);
            falls = λ own_is other_at. elim (cases_eq k start) [
              | inl same ↦
                  let own : slice_index priorities start ≡ priority_of game v = rw (sym same) (is ∙ sym own_is) in
                  rw (sym before_is, sym after_is, same) (strict (omega (arith, same, within)) own)
              | inr differ ↦ absurd (omega (
                arith,
                compared.top_is,
                rising_far priorities compared.rising start k (omega (arith, differ, late)) within,
                compared.higher start (omega (arith, differ)) (omega (arith, late, within)),
                is,
              ))
            ];
          }
    ]

-- if the count at index `start` falls along the edge or need not fall (`FallsAtStart`), the first count from `start` on
-- that rises along the edge is the first that breaks the rule of counts
pub IsFirstBroken-behind : {game : ParityGame} {certificate : CertificateData} {v w : ℕ}
    {priorities before after : List ℕ} {top start : ℕ} (place : ℕ) → Compared game certificate v w priorities before
    after top start → FallsAtStart game v priorities before after start → start ≤ place → place < length priorities →
    ((k : ℕ) → start ≤ k → k < place → slice_index after k ≤ slice_index before k) → slice_index
    before place < slice_index after place → IsFirstBroken game certificate v w (slice_index priorities place)
IsFirstBroken-behind {game} {certificate} {v} {w} {priorities} {before} {after} {top} place compared strict late within
    not_before rises =
    let is : slice_index priorities place ≡ opposing_at certificate v place = grind arith in
    let before_is : slice_index before place ≡ slice_index (counts_of certificate v) place = grind arith in
    let after_is : slice_index after place ≡ slice_index (counts_of certificate w) place = grind arith in
    let long : length priorities ≡ length (opposing certificate (winner_of certificate v)) = grind arith in
    let high : top ≤ slice_index priorities place = compared.higher place late within in
    record {
      place = place;
      within = omega arith;
      priority = sym is;
      broken = search rules;
      earlier = λ k early. KeepsCount-compared k compared strict (omega arith) (λ from_start. grind arith);
    }

-- an edge may break the certificate's rule of counts for several priorities; the first of them in the certificate's
-- list is the smallest
same_edge : {game : ParityGame} {certificate : CertificateData} {v w p p' : ℕ} → Fits game certificate →
    IsFirstBroken game certificate v w p → BreaksCount game certificate v w p' →
    (Rank v w p ≡ Rank v w p') ⊎ Precedes game (Rank v w p) (Rank v w p')
same_edge {certificate} {v} {w} fits first other = elim (cases_order other.place first.place) [
  | inl same ↦ inl (ap (λ n. Rank v w n) (sym first.priority ∙ ap (λ n. opposing_at certificate v n) (sym same)
      ∙ other.priority))
  | inr (inl below) ↦ absurd (other.broken (first.earlier other.place below))
  | inr (inr above) ↦
      let less : opposing_at certificate v first.place < opposing_at certificate v other.place =
      rising_far _ (opposing_rises (winner_of certificate v) fits) first.place other.place above other.within in
      inr (inr (refl, refl, omega (arith, less, first.priority, other.priority)))
]

-- of a vertex's edges that the winner's moves allow, the first that breaks the certificate's rule of counts, with the
-- first priority for which it does, is the first flaw in the vertex's counts
pub IsFirstFlawAt-rank : {game : ParityGame} {certificate : CertificateData} {v w p : ℕ} →
    Fits game certificate → Remains game certificate v w → winner_of certificate w ≡ winner_of certificate v →
    IsFirstBroken game certificate v w p → ((w' : ℕ) → Remains game certificate v w' → (w' ≡ w) ⊎ (KeepsCounts
    game certificate v w' ⊎ OccursBefore (successors_of game v) w w')) → IsFirstFlawAt game certificate 1 v (Rank v w p)
IsFirstFlawAt-rank {game} {certificate} {v} {w} {p} fits remains same_winner broken edges = grind (arith, others)
  where
    here : (w' p' : ℕ) → BreaksCount game certificate v w' p' →
        (Rank v w p ≡ Rank v w' p') ⊎ Precedes game (Rank v w p) (Rank v w' p')
    here w' p' other = elim (edges w' other.remains) [
      | inl same ↦
          let P : ℕ → Type 0 = λ n. BreaksCount game certificate v n p' in
          grind (arith, same_edge fits broken (subst P same other))
      | inr (inl keeps) ↦ absurd (other.broken (keeps other.place other.within))
      | inr (inr behind) ↦ inr (inl (inr (refl, behind)))
    ]

    others : (other : Flaw) → IsFlaw game certificate other → stage_of other ≡ 1 → vertex_of other ≡ v →
        (Rank v w p ≡ other) ⊎ Precedes game (Rank v w p) other
    others other is_flaw early same = grind (arith, here)

-- if the winner of a vertex also owns it, and its move there is right and leads to `w`, then the vertex has an edge to
-- `w`, and the winner's moves allow this edge
pub own_edge : {game : ParityGame} {certificate : CertificateData} {v w : ℕ} → HasRightMove game certificate v →
    owner_of game v ≡ winner_of certificate v → choice_of certificate v ≡ Some w → Remains game certificate v w
own_edge {game} {certificate} {v} {w} right own is = search (rules, Remains-own, IsSomeAnd-at)

-- at a vertex that its winner owns, the winner's moves allow no edge but the one to the winner's move `w`
pub own_edges : (game : ParityGame) (certificate : CertificateData) (v : ℕ) {w : ℕ} → owner_of game
    v ≡ winner_of certificate v → choice_of certificate v ≡ Some w → {w' : ℕ} → Remains game certificate v w' → w' ≡ w
own_edges game certificate v own is {w'} remains = search rules

-- if all edges of a vertex before the edge to `w` obey the certificate's rule of counts, each other edge of the vertex
-- obeys the rule or comes after the edge to `w`
pub other_edges : (game : ParityGame) (certificate : CertificateData) (v w number : ℕ) →
    number < length (successors_of game v) → w ≡ slice_index (successors_of game v) number →
    ((k : ℕ) → k < number → KeepsCounts game certificate v (get_or (successors_of game v) k 0)) → (w' : ℕ) → Remains
    game certificate v w' → (w' ≡ w) ⊎ (KeepsCounts game certificate v w' ⊎ OccursBefore (successors_of game v) w w')
other_edges game certificate v w number within is before w' remains =
    let (j, j_within, j_is) = place_of (successors_of game v) remains.edge.1 in
    grind (arith, cases_order j number)

pub KeepsCountsAt-from_all : (game : ParityGame) (certificate : CertificateData) (v : ℕ) →
    ((k : ℕ) → k < length (successors_of game v) → KeepsCounts game certificate v (get_or (successors_of game v) k 0)) →
    KeepsCountsAt game certificate v
KeepsCountsAt-from_all game certificate v each w remains =
    let (j, j_within, j_is) = place_of (successors_of game v) remains.edge.1 in
    grind arith

-- if each edge of a vertex that the winner's moves allow obeys the certificate's rule of counts, the vertex has no flaw
-- in its counts
kept_has_no_flaw : (game : ParityGame) (certificate : CertificateData) (flaw : Flaw) →
    KeepsCountsAt game certificate (vertex_of flaw) → IsFlaw game certificate flaw → stage_of flaw ≡ 1 → ⊥
kept_has_no_flaw game certificate flaw h k m = search rules

-- in a closed certificate, no move is wrong, and the winner's moves allow no edge out of the winner's region; so the
-- certificate's first flaw in the counts is the first of all its flaws
pub first_unranked : {game : ParityGame} {certificate : CertificateData} {v : ℕ} {flaw : Flaw} →
    IsClosed game certificate → ((u : ℕ) → u < v → KeepsCountsAt game certificate u) →
    IsFirstFlawAt game certificate 1 v flaw → IsFirstFlaw game certificate flaw
first_unranked {game} {certificate} closed kept at = record {
  is_flaw = at.is_flaw;
  first = λ other is_flaw. elim (stage_cases other) [
    | inl early ↦ absurd (closed_has_no_flaw closed other is_flaw early)
    | inr late ↦ first_of_stage at (λ o o_flaw o_stage o_below.
        kept_has_no_flaw game certificate o (kept (vertex_of o) o_below) o_flaw o_stage) is_flaw late
  ];
}

-- a valid certificate has no flaw
pub valid_has_no_flaw : {game : ParityGame} {certificate : CertificateData} (flaw : Flaw) → IsValid game certificate →
    IsFlaw game certificate flaw → ⊥
valid_has_no_flaw flaw h k = search (rules, closed_has_no_flaw)

-- a certificate is valid if all moves are right, the winner's moves allow no edge out of the winner's region, and no
-- flaw was found in the counts
pub valid_in_the_end : {game : ParityGame} {certificate : CertificateData} (n : ℕ) {found : Option Flaw} →
    vertex_count game ≤ n → ((v : ℕ) → v < n → IsSoundAt game certificate v) →
    IfNone found (KeepCountsBefore game certificate n) → found ≡ None → IsValid game certificate
valid_in_the_end {game} {certificate} n all sound kept none =
    let closed : IsClosed game certificate = IsClosed-from_sound (λ v below. sound v (omega (arith, below, all))) in
    grind arith
