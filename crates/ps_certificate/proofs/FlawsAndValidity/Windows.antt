-- In one pass over the vertices, the check marks those numbers of a list that are priorities of the game.
use Rattle.std.proofs.Common.{◌≡◌, ℕ, ◌%◌, below_more, ◌+◌, ◌-◌, ◌<◌, ◌≤◌, ◌∙◌, List, length, get_or, set, inl, inr}
use Rattle.std.proofs.Common.{sym, arith, Bool, true, false, Option, take, drop, subst, length-take, length-drop, rules}
use Rattle.std.specs.Prelude.{slice_index, IfSome, is_some}
use Rattle.std.specs.List.{All, Contains}
use Rattle.std.specs.List.Sorted.{IsStrictlyIncreasing}
use Rattle.std.proofs.lemmas.List.{get_or-take, get_or-drop}
use Rattle.std.proofs.lemmas.List.Elements.{All-from_get_or}
use Rattle.std.proofs.lemmas.Bool.{cases_eq, cases_order, cases_lt}
use Rattle.ps_game.specs.Games.{ParityGame, vertex_count, priority_of}
use Rattle.ps_game.specs.Ranking.{HasPriority}
use Rattle.ps_certificate.specs.Inner.Prefixes.{IsAt}
use Rattle.ps_certificate.proofs.SparseRows.Lists.{rising_far}
use Rattle.ps_certificate.proofs.FlawsAndValidity.SuccessorEdges.{Contains-at}

-- if a search for a number in a list returned an index, the list contains the number
pub Contains-found : (list : List ℕ) (number : ℕ) (found : Option ℕ) → IfSome found (IsAt list number) →
    is_some found ≡ true → Contains list number
Contains-found list number found h k = search (rules, Contains-at)

-- an ascending list has each of its numbers at only one index
pub same_place : (list : List ℕ) → IsStrictlyIncreasing list → {i j : ℕ} → i < length list → j < length list →
    slice_index list i ≡ slice_index list j → i ≡ j
same_place list rising {i} {j} i_within j_within same = search (rules, cases_order, rising_far)

-- the marks for the vertices before `vertex`: each marked number of the list `window` is a priority of the game, and
-- each number of `window` that is the priority of a vertex before `vertex` is marked
pub record AreMarks (game : ParityGame) (window : List ℕ) (seen : List Bool) (vertex : ℕ) : Type 0 where
  pub room : length window ≤ length seen
  pub marked : (k : ℕ) → k < length window → get_or seen k false ≡ true → HasPriority game (get_or window k 0)
  pub passed : (k v : ℕ) → k < length window → v < vertex → priority_of game v ≡ get_or window k 0 →
      get_or seen k false ≡ true

-- if the list `window` contains the priority of `vertex`, marking this priority gives the marks for the vertices up to
-- and including `vertex`
pub AreMarks-found : {game : ParityGame} {window : List ℕ} {seen : List Bool} {vertex place priority : ℕ} →
    IsStrictlyIncreasing window → vertex < vertex_count game → priority ≡ priority_of game vertex → IsAt
    window priority place → AreMarks game window seen vertex → AreMarks game window (set seen place true) (vertex + 1)
AreMarks-found {game} {window} {seen} {vertex} {place} rising in_range is at marks =
    search (rules, cases_eq, same_place)

-- if the list `window` does not contain the priority of `vertex`, the marks are also those for the vertices up to and
-- including `vertex`
pub AreMarks-missing : {game : ParityGame} {window : List ℕ} {seen : List Bool} {vertex priority : ℕ} →
    priority ≡ priority_of game vertex → ¬ Contains window priority → AreMarks game window seen vertex →
    AreMarks game window seen (vertex + 1)
AreMarks-missing {game} {window} {vertex} is missing marks = search (rules, cases_eq, Contains-at)

-- if all numbers of the list `window` are marked, all of them are priorities of the game
pub All-from_marks : {game : ParityGame} {window : List ℕ} {seen : List Bool} {vertex : ℕ} → AreMarks
    game window seen vertex → ((k : ℕ) → k < length window → get_or seen k false ≡ true) → All (HasPriority game) window
All-from_marks {game} {window} marks each = All-from_get_or (HasPriority game) window 0 (λ k within. grind arith)

-- after the last vertex, all numbers of the list `window` are marked if all of them are priorities of the game
pub marked_in_the_end : {game : ParityGame} {window : List ℕ} {seen : List Bool} (k : ℕ) → AreMarks game window seen
    (vertex_count game) → All (HasPriority game) window → k < length window → get_or seen k false ≡ true
marked_in_the_end k marks all within = let (v, below, has) = all k 0 within in marks.passed k v within below has

-- the element at index `k` of the items from index `start` on is the whole list's element at index `start + k`
pub part-at : (list : List ℕ) (start end k : ℕ) → k < end - start →
    get_or (take (end - start) (drop start list)) k 0 ≡ get_or list (start + k) 0
part-at list start end k below = get_or-take (end - start) (drop start list) k 0 below ∙ get_or-drop start list k 0

-- if the items of a list before index `start`, and those from `start` up to, but not including, `end`, are priorities
-- of the game, so are all items before `end`
pub present_more : (game : ParityGame) (list : List ℕ) (start end : ℕ) →
    end ≤ length list → ((k : ℕ) → k < start → HasPriority game (get_or list k 0)) → All
    (HasPriority game) (take (end - start) (drop start list)) → (k : ℕ) → k < end → HasPriority game (get_or list k 0)
present_more game list start end within before part k below = elim (cases_lt k start) [
  | inl earlier ↦ before k earlier
  | inr later ↦
      let in_part : k - start < end - start = omega arith in
      let long : length (take (end - start) (drop start list)) ≡ end - start =
      simp (length-take, length-drop) (omega arith) in
      let there : start + (k - start) ≡ k = omega arith in
      let is : get_or (take (end - start) (drop start list)) (k - start) 0 ≡ get_or list k 0 = grind (arith, part-at) in
      let P : ℕ → Type 0 = HasPriority game in
      subst P is (part (k - start) 0 (omega (arith, long)))
]

-- the marks are those for the vertices before `vertex`, and the list contains the priority of each of these vertices
-- whose priority has the given parity
pub record AreJust (game : ParityGame) (parity : ℕ) (list : List ℕ) (seen : List Bool) (vertex : ℕ) : Type 0 where
  pub marks : AreMarks game list seen vertex
  pub complete : (v : ℕ) → v < vertex → priority_of game v % 2 ≡ parity → Contains list (priority_of game v)

-- if the list contains the priority of `vertex`, marking this priority gives the marks for the vertices up to and
-- including `vertex`, as `AreJust` defines them
pub AreJust-found : {game : ParityGame} {parity : ℕ} {list : List ℕ} {seen : List Bool} {vertex place priority : ℕ} →
    IsStrictlyIncreasing list → vertex < vertex_count game → priority ≡ priority_of game vertex → IsAt list
    priority place → AreJust game parity list seen vertex → AreJust game parity list (set seen place true) (vertex + 1)
AreJust-found {list} {place} rising in_range is at just = record {
  marks = AreMarks-found rising in_range is at just.marks;
  complete = below_more _ _ just.complete (λ same. Contains-at list place at.within (sym is ∙ sym at.is));
}
