-- Each game of an automaton has an arena for given bases: its keys are those of the game that are needed.
use Rattle.std.specs.Prelude.{◌≡◌, ◌≢◌, ℕ, zero, suc, ◌<◌, ◌⊎◌, Bool, true, false, cond, nat_eq, List, [], ◌∷◌, length}
use Rattle.std.specs.Prelude.{map, Some}
use Rattle.std.specs.Prelude.{slice_get}
use Rattle.std.specs.Cmp.{nat_eq_equiv}
use Rattle.std.specs.List.{AllZip, Contains, filter, list_any}
use Rattle.std.proofs.Common.{sym, ◌∙◌, subst, ap, refl, inl, inr, arith, get_or}
use Rattle.std.proofs.lemmas.Bool.{eqb-true}
use Rattle.std.proofs.lemmas.List.Elements.{Contains-get_or}
use Rattle.std.proofs.lemmas.List.Kept.{AllPairs-filter}
use Rattle.std.proofs.lemmas.Map.Views.{Contains-from_any, list_any-from_Contains}
use Rattle.std.proofs.lemmas.Option.{slice_get-get_or}
use Rattle.ps_game.specs.Games.{ParityGame, VertexData, no_vertex, vertex_count, owner_of, priority_of, successors_of}
use Rattle.ps_machine.specs.Boards.{Board, IsClassLetter, IsGameOf, LeadsTo}
use Rattle.ps_machine.specs.Keys.{owner_of_key, priority_of_key}
use Rattle.ps_machine.specs.Numbering.{IsGameByKeys, IsVertexOf, StandsAt}
use Rattle.ps_machine.specs.declared.key.Key.{Key}
use Rattle.ps_machine.specs.declared.key.Key.TheVariants.{First, Second}
use Rattle.ps_basis.specs.Arenas.{IsArenaOf, LeadsWithin}
use Rattle.ps_basis.specs.Bases.{IsBasis}
use Rattle.ps_basis.proofs.ArenaEdges.{IsMade, class_leads, list_made, second_leads_first}
use Rattle.ps_basis.proofs.ArenaKeys.{Vertex, from_map, next_vertex, stands_in, stands_there, vertex_at}

-- ## The elements that pass a test

in_rest : {X : Type 0} (x : X) (xs : List X) (z : X) → Contains xs z → Contains (x ∷ xs) z
in_rest x xs z (k, within, same) = (suc k, omega (arith, within), same)

head_or_rest : {X : Type 0} (x : X) (xs : List X) (z : X) → Contains (x ∷ xs) z → (x ≡ z) ⊎ Contains xs z
head_or_rest x xs z (zero, within, same) = inl same
head_or_rest x xs z (suc k, within, same) = inr (k, omega (arith, within), same)

still_there : {X : Type 0} (b : Bool) (x : X) (xs : List X) (z : X) → Contains xs z → Contains (cond b (x ∷ xs) xs) z
still_there true x xs z inside = in_rest x xs z inside
still_there false x xs z inside = inside

head_there : {X : Type 0} (b : Bool) (x : X) (xs : List X) → b ≡ true → Contains (cond b (x ∷ xs) xs) x
head_there b x xs is = rw is (0, omega arith, refl)

in_filter : {X : Type 0} (test : X → Bool) (xs : List X) (z : X) → Contains xs z → test z ≡ true →
    Contains (filter test xs) z
in_filter test [] z inside passes = inside
in_filter test (x ∷ xs) z inside passes = elim (head_or_rest x xs z inside) [
  | inl same ↦ subst (λ y. Contains (filter test (x ∷ xs)) y) same
      (head_there (test x) x (filter test xs) (ap test same ∙ passes))
  | inr rest ↦ still_there (test x) x (filter test xs) z (in_filter test xs z rest passes)
]

from_rest : {X : Type 0} (test : X → Bool) (b : Bool) (x : X) (xs ys : List X) (z : X) → test x ≡ b →
    Contains (cond b (x ∷ ys) ys) z → (Contains ys z → Contains xs z × (test z ≡ true)) →
    Contains (x ∷ xs) z × (test z ≡ true)
from_rest test true x xs ys z is inside rest = elim (head_or_rest x ys z inside) [
  | inl same ↦ ((0, omega arith, same), ap test (sym same) ∙ is)
  | inr later ↦ (in_rest x xs z (rest later).0, (rest later).1)
]
from_rest test false x xs ys z is inside rest = (in_rest x xs z (rest inside).0, (rest inside).1)

from_filter : {X : Type 0} (test : X → Bool) (xs : List X) (z : X) → Contains (filter test xs) z →
    Contains xs z × (test z ≡ true)
from_filter test [] z (k, within, same) = absurd (omega (arith, within))
from_filter test (x ∷ xs) z inside =
    from_rest test (test x) x xs (filter test xs) z refl inside (λ rest. from_filter test xs z rest)

head_kept : {X : Type 0} (test : X → Bool) (xs : List X) (z : X) → slice_get xs 0 ≡ Some z → test z ≡ true →
    slice_get (filter test xs) 0 ≡ Some z
head_kept test [] z is passes = is
head_kept test (x ∷ xs) z is passes = kept (test x) (ap test same ∙ passes)
  where
    same : x ≡ z
    same = cc is

    kept : (b : Bool) → b ≡ true → slice_get (cond b (x ∷ filter test xs) (filter test xs)) 0 ≡ Some z
    kept true passed = is
    kept false passed = absurd (cc passed)

-- ## The arena

module _ (board : Board) (bases : ℕ → List ℕ) (mover : ℕ) (keys : List Key) (game : ParityGame)
    (is : IsGameOf board mover keys game)
    (are_bases : (q p : ℕ) → Contains keys (First q p) → IsBasis board q (bases q)) where
  abbrev needed : Key → Bool
  needed (First q p) = true
  needed (Second q x) = list_any (nat_eq x) (bases q)

  abbrev start : Key
  start = First board.auto.start 0

  others : List Key
  others = filter needed keys

  first_kept : (q p : ℕ) → Contains keys (First q p) → Contains others (First q p)
  unfolding others
  first_kept q p inside = in_filter needed keys (First q p) inside refl

  second_kept : (q x : ℕ) → Contains keys (Second q x) → Contains (bases q) x → Contains others (Second q x)
  unfolding others
  second_kept q x inside listed = in_filter needed keys (Second q x) inside
      (list_any-from_Contains nat_eq_equiv x (bases q) listed)

  kept_within : (key : Key) → Contains others key → Contains keys key
  unfolding others
  kept_within key inside = (from_filter needed keys key inside).0

  kept_in_basis : (q x : ℕ) → Contains others (Second q x) → Contains (bases q) x
  unfolding others
  kept_in_basis q x inside =
      Contains-from_any (λ a b h. eqb-true a b h) x (bases q) (from_filter needed keys (Second q x) inside).1

  -- the keys that follow a key in the arena
  record Followed (key : Key) : Type 0 where
    next : List Key
    leads : LeadsWithin bases board key next
    kept : (to : Key) → Contains next to → Contains others to

  vertex_of : (v : ℕ) (key : Key) → StandsAt keys v key → Vertex (LeadsTo board) mover keys game v key
  vertex_of v key at = vertex_at (LeadsTo board) mover start keys game is.by_keys v key at

  followed_there : (v : ℕ) (key to : Key) (here : Vertex (LeadsTo board) mover keys game v key) →
      Contains here.next to →
      Contains keys to
  followed_there v key to here inside =
      let (w, edge, at) = next_vertex (LeadsTo board) mover start keys game is.by_keys v key to here inside in
      stands_in keys w to at

  followed : (v : ℕ) (key : Key) → StandsAt keys v key → Followed key
  followed v (First q p) at = record {
    next = map (λ x. Second q x) (bases q);
    leads = refl;
    kept = kept;
  }
    where
      in_class : (x : ℕ) → Contains (bases q) x → IsClassLetter board q x
      in_class x (k, within, same) = subst (λ (z : ℕ). IsClassLetter board q z) same
          ((are_bases q p (stands_in keys v (First q p) at)).each k x within)

      kept : (to : Key) → Contains (map (λ x. Second q x) (bases q)) to → Contains others to
      kept to inside =
          let (x, listed, is_to) = from_map (λ z. Second q z) (bases q) 0 to inside in
          let here : Vertex (LeadsTo board) mover keys game v (First q p) = vertex_of v (First q p) at in
          let there : Contains keys (Second q x) = followed_there v (First q p) (Second q x) here
          (class_leads board q p x here.next here.leads_to (in_class x listed)) in
          subst (λ (k : Key). Contains others k) (sym is_to) (second_kept q x there listed)
  followed v (Second q x) at = record { next = here.next; leads = here.leads_to; kept = kept }
    where
      here : Vertex (LeadsTo board) mover keys game v (Second q x)
      here = vertex_of v (Second q x) at

      kept : (to : Key) → Contains here.next to → Contains others to
      kept to inside =
          let (r, s, is_to) = second_leads_first board q x here.next to here.leads_to inside in
          let there : Contains keys to = followed_there v (Second q x) to here inside in
          subst (λ (k : Key). Contains others k) (sym is_to)
          (first_kept r s (subst (λ (k : Key). Contains keys k) is_to there))

  numbered : (next : List Key) → ((to : Key) → Contains next to → Contains others to) →
      (numbers : List ℕ) × AllZip (StandsAt others) numbers next
  numbered [] kept = ([], tt)
  numbered (to ∷ next) kept =
      let (u, at) = stands_there others to (kept to (0, omega arith, refl)) in
      let (numbers, zip) = numbered next (λ key inside. kept key (in_rest to next key inside)) in
      (u ∷ numbers, (at, zip))

  record IsEntry (u : ℕ) (data_of : VertexData) : Type 0 where
    key : Key
    next : List Key
    stands : StandsAt others u key
    owner : data_of.owner ≡ owner_of_key mover key
    priority : data_of.priority ≡ priority_of_key key
    leads : LeadsWithin bases board key next
    successors : AllZip (StandsAt others) data_of.successors next

  entry_there : (u : ℕ) → u < length others → (data_of : VertexData) × IsEntry u data_of
  entry_there u below =
      let key : Key = get_or others u start in
      let (v, at) = stands_there keys key (kept_within key (Contains-get_or others u start below)) in
      let follows : Followed key = followed v key at in
      let (numbers, zip) = numbered follows.next follows.kept in (
        record { owner = owner_of_key mover key; priority = priority_of_key key; successors = numbers },
        record {
          key = key;
          next = follows.next;
          stands = slice_get-get_or others u start below;
          owner = refl;
          priority = refl;
          leads = follows.leads;
          successors = zip;
        },
      )

  as_vertex : (arena : ParityGame) (u : ℕ) → u < length arena → IsEntry u (get_or arena u no_vertex) →
      IsVertexOf (LeadsWithin bases board) mover others arena u
  unfolding owner_of priority_of successors_of
  as_vertex arena u below entry = record {
    key = entry.key;
    next = entry.next;
    stands = entry.stands;
    owner = entry.owner;
    priority = entry.priority;
    leads_to = entry.leads;
    successors = entry.successors;
  }

  begins : StandsAt others 0 start
  unfolding others
  begins = head_kept needed keys start is.by_keys.begins refl

  as_game : (arena : ParityGame) → IsMade IsEntry (length others) arena →
      IsGameByKeys (LeadsWithin bases board) mover start others arena
  unfolding others vertex_count
  as_game arena made = record {
    count = sym made.count;
    begins = begins;
    different = AllPairs-filter (λ (x y : Key). x ≢ y) needed keys is.by_keys.different;
    vertices = λ u below. as_vertex arena u below
        (made.each u (get_or arena u no_vertex) (slice_get-get_or arena u no_vertex below));
  }

  pub arena_exists : (others : List Key) × (arena : ParityGame) × IsArenaOf board bases mover keys others arena
  arena_exists = with_list (list_made (length others) IsEntry entry_there)
    where
      with_list : (arena : ParityGame) × IsMade IsEntry (length others) arena →
          (others : List Key) × (arena : ParityGame) × IsArenaOf board bases mover keys others arena
      with_list (arena, made) = (
        others,
        arena,
        record {
          by_keys = as_game arena made;
          are_bases = are_bases;
          within = kept_within;
          firsts = first_kept;
          seconds = kept_in_basis;
        },
      )
