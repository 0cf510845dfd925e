-- If each vertex of an unfinished game (draft) has a successor and each successor is a vertex, the draft without
-- repeated successors is a game.
use Rattle.std.proofs.Common.{◌≡◌, ◌≢◌, ℕ, suc, true, ◌<◌, List, [], ◌∷◌, not, ◌==◌, filter, length, get_or, ap}
use Rattle.std.proofs.Common.{arith, rules}
use Rattle.std.specs.List.{All, AllPairs}
use Rattle.std.proofs.Math.ListN.{get_or-map}
use Rattle.std.proofs.lemmas.List.{length-map}
use Rattle.std.proofs.lemmas.List.Elements.{All-filter, All-cons, filter_passes}
use Rattle.std.proofs.lemmas.List.Kept.{AllPairs-cons, AllPairs-filter}
use Rattle.std.proofs.lemmas.Bool.Decides.{nat_tests}
use Rattle.ps_game.specs.Games.{ParityGame, IsGame, no_vertex, vertex_count, owner_of, successors_of}
use Rattle.ps_game.specs.Drafts.{distinct, vertex_without_repeats, without_repeats, NoneBare, NoneUnknown}

pub All-distinct : (P : ℕ → Type 0) (xs : List ℕ) → All P xs → All P (distinct xs)
All-distinct P [] all = all
All-distinct P (x ∷ xs) all = All-cons P x (filter (λ y. not (x == y)) (distinct xs)) (all 0 0 (omega arith))
    (All-filter (λ y. not (x == y)) P (distinct xs) (All-distinct P xs (λ k d within. all (suc k) d (omega arith))))

others : (x y : ℕ) → not (x == y) ≡ true → x ≢ y
others x y passes same = grind (arith, nat_tests)

AllPairs-distinct : (xs : List ℕ) → AllPairs (λ x y. x ≢ y) (distinct xs)
AllPairs-distinct [] = λ i j d rises within. absurd (omega arith)
AllPairs-distinct (x ∷ xs) = AllPairs-cons (λ x y. x ≢ y) x (filter (λ y. not (x == y)) (distinct xs))
    (λ k d within. others x _ (filter_passes (λ y. not (x == y)) (distinct xs) k d within))
    (AllPairs-filter (λ x y. x ≢ y) (λ y. not (x == y)) (distinct xs) (AllPairs-distinct xs))

some-distinct : (xs : List ℕ) → 0 < length xs → 0 < length (distinct xs)
some-distinct [] some = some
some-distinct (x ∷ xs) some = omega arith

-- removing the repeats from an unfinished game removes the repeated successors of each vertex
vertex_at : (draft : ParityGame) (v : ℕ) → get_or (without_repeats draft) v no_vertex ≡ vertex_without_repeats
    (get_or draft v no_vertex)
vertex_at draft v = get_or-map vertex_without_repeats draft v no_vertex

pub vertex_count-without_repeats : (draft : ParityGame) → vertex_count (without_repeats draft) ≡ vertex_count draft
unfolding vertex_count
vertex_count-without_repeats draft = length-map draft vertex_without_repeats

pub owner_of-without_repeats : (draft : ParityGame) (v : ℕ) → owner_of (without_repeats draft) v ≡ owner_of draft v
unfolding owner_of
owner_of-without_repeats draft v = ap (λ vertex. vertex.owner) (vertex_at draft v)

pub successors_of-without_repeats : (draft : ParityGame) (v : ℕ) →
    successors_of (without_repeats draft) v ≡ distinct (successors_of draft v)
unfolding successors_of
successors_of-without_repeats draft v = ap (λ vertex. vertex.successors) (vertex_at draft v)

-- the owner of each vertex of an unfinished game is 0 or 1
owner_below : (draft : ParityGame) → All (λ v. v.owner < 2) draft → (v : ℕ) → v < vertex_count draft →
    owner_of draft v < 2
unfolding vertex_count owner_of
owner_below draft owners v within = owners v no_vertex within

pub IsGame-without_repeats : (draft : ParityGame) → All (λ v. v.owner < 2) draft → NoneBare draft → NoneUnknown draft →
    IsGame (without_repeats draft)
IsGame-without_repeats draft owners bare known =
    let in_draft : (v : ℕ) → v < vertex_count (without_repeats draft) → v < vertex_count draft =
    search (rules, vertex_count-without_repeats) in
    let IsVertex : ℕ → Type 0 = λ w. w < vertex_count draft in
    record {
      owners = λ v within. rw (owner_of-without_repeats draft v) (owner_below draft owners v (in_draft v within));
      has_successor = search (rules, successors_of-without_repeats, some-distinct);
      different = λ v within. rw (successors_of-without_repeats draft v) (AllPairs-distinct _);
      within = λ v w edge. grind (
        arith,
        successors_of-without_repeats,
        vertex_count-without_repeats draft,
        All-distinct IsVertex _ (known v (in_draft v edge.0)),
      );
    }
