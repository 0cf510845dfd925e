-- While vertices are visited one after another, the game in the making stays correct. The game is complete once all
-- vertices have been visited.
use Rattle.std.proofs.Common.{◌≡◌, ◌≢◌, ◌⊎◌, ℕ, zero, suc, ◌+◌, ◌<◌, ◌≤◌, List, [], ◌∷◌, ◌++◌, length, map}
use Rattle.std.proofs.Common.{get_or, Option, Some, None, Result}
use Rattle.std.proofs.Common.{IfOk, refl, ap, ap₂, sym, subst, ◌∙◌, arith, rules}
use Rattle.std.specs.List.{All, AllPairs, AllZip, Contains, slice_get}
use Rattle.std.proofs.Math.ListN.{get_or-append}
use Rattle.std.proofs.Math.Seq.{get_or-append_seam}
use Rattle.std.proofs.lemmas.List.{length-append, get_or_default}
use Rattle.std.proofs.lemmas.List.Elements.{All-append, All-push, All-nil}
use Rattle.std.proofs.lemmas.Option.{slice_get_within, slice_get-get_or, get_or_from_slice_get}
use Rattle.std.proofs.lemmas.Slice.Zip.{AllZip-long}
use Rattle.ps_game.specs.Games.{ParityGame, VertexData, no_vertex, vertex_count, owner_of, priority_of, successors_of}
use Rattle.ps_game.specs.Drafts.{distinct, vertex_without_repeats, without_repeats}
use Rattle.ps_game.proofs.StoredGames.VertexArrays.{distinct_same}
use Rattle.ps_machine.specs.Keys.{owner_of_key, priority_of_key}
use Rattle.ps_machine.specs.Numbering.{listed, StandsAt, IsVertexOf, IsGameByKeys, IsNumbered}
use Rattle.ps_machine.specs.Inner.Visits.{DraftData, Visits, IsReady, IsExplored}
use Rattle.ps_machine.specs.declared.key.Key.{Key}
use Rattle.ps_machine.specs.declared.key.Key.TheVariants.{First}
use Rattle.ps_machine.proofs.AutomatonGames.GameKeys.Standing.{stand-left, stand-within, stand-apart}
use Rattle.ps_diagram.proofs.ClassesOfLetters.Distinct.{at_left}

-- appending a vertex to a game does not change the old vertices
at_old : (game : ParityGame) (x : VertexData) (u : ℕ) → u < vertex_count game →
    get_or (game ++ x ∷ []) u no_vertex ≡ get_or game u no_vertex
unfolding vertex_count
at_old game x u within = get_or-append game (x ∷ []) no_vertex u within

at_new : (game : ParityGame) (x : VertexData) → get_or (game ++ x ∷ []) (vertex_count game) no_vertex ≡ x
unfolding vertex_count
at_new game x = get_or-append_seam game x [] no_vertex

successors_old : (game : ParityGame) (x : VertexData) (u : ℕ) → u < vertex_count game →
    successors_of (game ++ x ∷ []) u ≡ successors_of game u
unfolding successors_of
successors_old game x u within = ap (λ (y : VertexData). y.successors) (at_old game x u within)

successors_new : (game : ParityGame) (x : VertexData) → successors_of (game ++ x ∷ [])
    (vertex_count game) ≡ x.successors
unfolding successors_of
successors_new game x = ap (λ (y : VertexData). y.successors) (at_new game x)

listed_old : (game : ParityGame) (x : VertexData) (v : ℕ) → v ≤ vertex_count game →
    listed (game ++ x ∷ []) v ≡ listed game v
listed_old game x zero within = refl
listed_old game x (suc v) within = search (rules, successors_old, listed_old game x v (omega (arith, within)))

count_more : (game : ParityGame) (x : VertexData) → vertex_count (game ++ x ∷ []) ≡ vertex_count game + 1
unfolding vertex_count
count_more game x = length-append game (x ∷ [])

module _ {leads : Key → List Key → Type 0} {mover : ℕ} where
  -- after keys and a vertex were appended, an old vertex still has the owner, the priority and the successors that its
  -- key (what it stands for) determines
  vertex_old : (keys added : List Key) (game : ParityGame) (x : VertexData) (u : ℕ) → u < vertex_count game →
      IsVertexOf leads mover keys game u → IsVertexOf leads mover (keys ++ added) (game ++ x ∷ []) u
  unfolding owner_of priority_of
  vertex_old keys added game x u within is = search (rules, at_left, at_old, successors_old, stand-left)

  -- the appended vertex has the owner, the priority and the successors that the visited key determines
  vertex_new : (keys : List Key) (game : ParityGame) (key : Key) (next : List Key) (numbers : List ℕ) →
      StandsAt keys (vertex_count game) key → leads key next → AllZip (StandsAt keys) numbers next →
      IsVertexOf leads mover keys (game ++ record {
        owner = owner_of_key mover key;
        priority = priority_of_key key;
        successors = numbers;
      } ∷ []) (vertex_count game)
  unfolding owner_of priority_of
  vertex_new keys game key next numbers stands leads_to stand = search (rules, at_new, successors_new)

-- a number less than v + 1 is less than v, or is v
pub less_or_last : (u v : ℕ) → u < v + 1 → (u < v) ⊎ (u ≡ v)
less_or_last u v h = search rules

-- a property of v and of each number less than v is a property of each number less than v + 1
each_more : (P : ℕ → Type 0) (v : ℕ) → ((u : ℕ) → u < v → P u) → P v → (u : ℕ) → u < v + 1 → P u
each_more P v before last u within = search (rules, less_or_last)

all_of : (P : Key → Type 0) (next added : List Key) → All (λ k. Contains next k) added → All P next → All P added
all_of P next added from all i d within =
    let at = from i d within in
    subst P at.2 (all at.0 (get_or added i d) at.1)

pub explored_first : {leads : Key → List Key → Type 0} {known : Key → Type 0} {mover : ℕ} {first : Key}
    {draft : DraftData} → known first → draft.keys ≡ first ∷ [] → draft.game ≡ [] →
    IsExplored leads known mover first draft 0
unfolding vertex_count
explored_first {known} {first} is_known k g = search (rules, All-push, All-nil)

pub explored_more : {leads : Key → List Key → Type 0} {known : Key → Type 0} {mover : ℕ} {first : Key} {old : DraftData}
    {v : ℕ} {key : Key} {next : List Key} {new : DraftData} →
    IsExplored leads known mover first old v → slice_get old.keys v ≡ Some key → leads key next → All known next →
    0 < length next → AllPairs (λ x y. x ≢ y) next → Visits mover old key next new →
    IsExplored leads known mover first new (v + 1)
explored_more {leads} {known} {mover} {first} {old} {v} {key} {next} {new} e at leads_to known_next some_next differ
    visits = record {
      count = ap vertex_count visits.game ∙ count_more old.game x ∙ ap (λ n. n + 1) e.count;
      within = omega (arith, slice_get_within old.keys v key at, long);
      begins = rw visits.keys (at_left old.keys visits.added 0 e.begins);
      different = visits.different e.different;
      all_known = rw visits.keys (All-append known old.keys visits.added e.all_known (search (rules, all_of)));
      vertices = subst (λ game. (u : ℕ) → u < v + 1 → IsVertexOf leads mover new.keys game u) (sym visits.game)
          (each_more (IsVertexOf leads mover new.keys grown) v (λ u less. grind (arith, grown, vertex_old, x, there))
          (subst (λ n. IsVertexOf leads mover new.keys grown n) e.count (vertex_new new.keys old.game key next
          visits.numbers (subst (λ n. StandsAt new.keys n key) (sym e.count) stands) leads_to visits.stand)));
      some = by_successors (λ l. 0 < length l) e.some (grind (arith, AllZip-long));
      apart = by_successors (λ l. AllPairs (λ x y. x ≢ y) l) e.apart (grind (arith, stand-apart));
      bounded = rw listing (All-append (λ w. w < length new.keys) (listed old.game v) visits.numbers
          (λ i d within. omega (arith, e.bounded i d within, long)) (grind (arith, stand-within)));
      counted = ap distinct listing ∙ visits.counted (listed old.game v) e.bounded e.counted;
    }
  where
    x : VertexData
    x = record { owner = owner_of_key mover key; priority = priority_of_key key; successors = visits.numbers }

    grown : ParityGame
    grown = old.game ++ x ∷ []

    long : length old.keys ≤ length new.keys
    long = search (rules, length-append)

    there : (u : ℕ) → u < v → u < vertex_count old.game
    there u less = omega (arith, e.count, less)

    stands : StandsAt new.keys v key
    stands = subst (λ keys. StandsAt keys v key) (sym visits.keys) (at_left old.keys visits.added v at)

    at_last : successors_of new.game v ≡ visits.numbers
    at_last = search (rules, successors_new)

    listing : listed new.game (v + 1) ≡ listed old.game v ++ visits.numbers
    listing = grind (arith, at_last, listed_old, x)

    by_successors : (P : List ℕ → Type 0) → ((u : ℕ) → u < v → P (successors_of old.game u)) → P visits.numbers →
        (u : ℕ) → u < v + 1 → P (successors_of new.game u)
    by_successors P before last = grind (arith, each_more, successors_old, x, there, at_last)

-- if the number v of the next vertex is not an index of the list of keys, every key has been visited
pub ready : (leads : Key → List Key → Type 0) (known : Key → Type 0) (mover : ℕ) (first : Key) (draft : DraftData)
    (v : ℕ) → IsExplored leads known mover first draft v → slice_get draft.keys v ≡ None → IsReady draft
ready leads known mover first draft v e past = grind (arith, all_come, bounds)
  where
    all_come : ¬ (v < length draft.keys)
    all_come less = cc (slice_get-get_or draft.keys v (First 0 0) less)

    bounds : (u : ℕ) → u < v → All (λ w. w < length draft.keys) (successors_of draft.game u)
    bounds u less =
        let is = e.vertices u less in stand-within draft.keys (successors_of draft.game u) is.next is.successors

pub by_keys : {leads : Key → List Key → Type 0} {known : Key → Type 0} {mover : ℕ} {first : Key} {draft : DraftData}
    {v : ℕ} {keys : List Key} {game : ParityGame} → IsExplored leads known mover first draft v →
    slice_get draft.keys v ≡ None → keys ≡ draft.keys → game ≡ draft.game →
    IsGameByKeys leads mover first keys game × IsNumbered game
by_keys {leads} {known} {mover} {first} {draft} {v} {game} e past k g =
    grind (arith, ready leads known mover first draft v e past)

pub known_at : {leads : Key → List Key → Type 0} {known : Key → Type 0} {mover : ℕ} {first : Key} {draft : DraftData}
    {v : ℕ} {key : Key} → IsExplored leads known mover first draft v → slice_get draft.keys v ≡ Some key → known key
known_at {known} {draft} {v} {key} e at = search (rules, slice_get_within, get_or_from_slice_get)

vertices_same : (game : List VertexData) → All (λ (x : VertexData). AllPairs (λ a b. a ≢ b) x.successors) game →
    map vertex_without_repeats game ≡ game
vertices_same [] all = refl
vertices_same (x ∷ game) all =
    ap₂ (λ (l : List ℕ) (rest : List VertexData). record { owner = x.owner; priority = x.priority; successors = l } ∷
    rest) (distinct_same x.successors (all 0 x (omega arith))) (vertices_same game
    (λ i d within. all (suc i) d (omega (arith, within))))

pub same_without_repeats : {draft : DraftData} → IsReady draft → without_repeats draft.game ≡ draft.game
unfolding vertex_count successors_of
same_without_repeats {draft} is = vertices_same draft.game (λ i d within. grind (arith, get_or_default))

pub none_of : (o : Option Key) → ((k : Key) → o ≡ Some k → ⊥) → o ≡ None
none_of o h = search rules

pub both_ok : {X E : Type 0} (P Q R : X → Type 0) (result : Result X E) → IfOk result P → IfOk result Q →
    ((x : X) → P x → Q x → R x) → IfOk result R
both_ok P Q R result h k m = search rules
