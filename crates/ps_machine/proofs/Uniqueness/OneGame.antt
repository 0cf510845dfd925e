-- An automaton has at most one game for each order of moves: breadth-first numbering leaves no choice.
use Rattle.std.proofs.Common.{◌≡◌, ◌≢◌, ℕ, zero, suc, ◌+◌, ◌-◌, ◌<◌, ◌≤◌, ◌⊎◌, inl, inr, not, List, [], ◌∷◌, ◌++◌}
use Rattle.std.proofs.Common.{length, map, get_or, refl, ap, ap₂, sym, subst, ◌∙◌, rules, arith}
use Rattle.std.specs.List.{AllPairs, AllZip, Contains, slice_get}
use Rattle.std.proofs.lemmas.Bool.{cases_eq, cases_lt}
use Rattle.std.proofs.lemmas.List.{append-nil, append_assoc, length-map, get_or-map, get_or_default, same_lists}
use Rattle.std.proofs.lemmas.List.Elements.{All-contains, Contains-append_cases}
use Rattle.std.proofs.lemmas.Option.{slice_get-get_or}
use Rattle.ps_diagram.specs.Letters.{IsBefore}
use Rattle.ps_diagram.proofs.NodeTables.Cells.{true_is_not_false}
use Rattle.ps_game.specs.Games.{ParityGame, VertexData, no_vertex, vertex_count, owner_of, priority_of, successors_of}
use Rattle.ps_machine.specs.Boards.{Board, IsListOf, LeadsTo, IsGameOf}
use Rattle.ps_machine.specs.Keys.{owner_of_key, priority_of_key}
use Rattle.ps_machine.specs.Numbering.{listed, StandsAt, IsVertexOf}
use Rattle.ps_machine.specs.declared.key.Key.{Key}
use Rattle.ps_machine.specs.declared.key.Key.TheVariants.{First, Second}
use Rattle.ps_machine.proofs.AutomatonGames.GameKeys.Exploring.{less_or_last}
use Rattle.ps_machine.proofs.Uniqueness.Rising.{same_rising}
use Rattle.ps_machine.proofs.Lassos.Rounds.{one_place}
use Rattle.ps_machine.proofs.AutomatonGames.GameKeys.Standing.{came, same_some, zip_at, not_second}
use Rattle.ps_machine.proofs.Uniqueness.Counting.{Counts, counts_one, counts_below, has_it, counts_old, counts_new}
use Rattle.ps_machine.proofs.Uniqueness.Counting.{none, counts_front, old_or_next}

-- ## Letters in their order

pub not_both : (x y : ℕ) → IsBefore x y → IsBefore y x → ⊥
not_both x y a b = search (rules, cases_eq, true_is_not_false, cases_lt)

one_list : {P : ℕ → Type 0} {xs ys : List ℕ} → IsListOf P xs → IsListOf P ys → xs ≡ ys
one_list {P} {xs} {ys} a b = same_rising IsBefore not_both xs ys a.rising b.rising
    (λ z c. b.complete z (All-contains P xs z a.each c)) (λ z c. a.complete z (All-contains P ys z b.each c))

-- a key (what a vertex stands for) has only one list of successors
one_next : (board : Board) (key : Key) {one other : List Key} → LeadsTo board key one →
    LeadsTo board key other → one ≡ other
one_next board (First q p) a b = a.2 ∙ ap (map (λ x. Second q x)) (one_list a.1 b.1) ∙ sym b.2
one_next board (Second q x) a b = grind (arith, one_list a.1 b.1)

in_map : (f : ℕ → Key) (xs : List ℕ) {key : Key} → Contains (map f xs) key → (x : ℕ) × (f x ≡ key)
in_map f xs {key} c =
    let within : c.0 < length xs = omega (arith, c.1, length-map xs f) in
    (get_or xs c.0 0, sym (get_or-map f xs c.0 0 key within) ∙ c.2)

-- no key (what a vertex stands for) is its own successor
not_itself : (board : Board) (key : Key) (next : List Key) → LeadsTo board key next → Contains next key → ⊥
not_itself board (First q p) next a c =
    (let at = in_map (λ x. Second q x) a.0 (subst (λ l. Contains l (First q p)) a.2 c) in
    not_second at.1)
not_itself board (Second q x) next a c =
    let f : ℕ → Key = λ y. First (board.auto.next q (x + y)) (board.auto.priority q (x + y)) in
    let at = in_map f a.0 (subst (λ l. Contains l (Second q x)) a.2 c) in
    not_second (sym at.1)

-- ## Two numberings, step by step

abbrev Agree : List Key → List Key → ℕ → Type 0
Agree one other count = (i : ℕ) → i < count → slice_get one i ≡ slice_get other i

record Walked (one other : List Key) (list numbers others : List ℕ) : Type 0 where
  same : numbers ≡ others
  count : ℕ
  counts : Counts (list ++ numbers) count
  agree : Agree one other count

module _ (one other : List Key) (one_differ : AllPairs (λ x y. x ≢ y) one)
    (other_differ : AllPairs (λ x y. x ≢ y) other) where
  same_number : {c x y : ℕ} (k : Key) → Agree one other c → StandsAt one x k → StandsAt other y k → (x < c) ⊎ (x ≡ c) →
      (y < c) ⊎ (y ≡ c) → x ≡ y
  same_number k h m n p q = search (rules, one_place)

  agree_more : (c x : ℕ) (k : Key) → Agree one other c → x ≡ c → StandsAt one x k → StandsAt other x k →
      Agree one other (c + 1)
  agree_more c x k agree is a b i lt = search (rules, less_or_last)

  joined : (list : List ℕ) (x y : ℕ) (numbers others : List ℕ) → x ≡ y →
      Walked one other (list ++ x ∷ []) numbers others → Walked one other list (x ∷ numbers) (y ∷ others)
  joined list x y numbers others same w = search (rules, Counts, append_assoc)

  walk : (list numbers others : List ℕ) (next : List Key) (c : ℕ) (more rest : List ℕ) (m l : ℕ) → Counts list c →
      Agree one other c → AllZip (StandsAt one) numbers next → AllZip (StandsAt other) others next →
      Counts (list ++ (numbers ++ more)) m → Counts (list ++ (others ++ rest)) l → Walked one other list numbers others
  walk list [] [] next c more rest m l e agree a b all also = grind (arith, append-nil)
  walk list [] (y ∷ others) [] c more rest m l e agree a b all also = absurd b
  walk list [] (y ∷ others) (k ∷ next) c more rest m l e agree a b all also = absurd a
  walk list (x ∷ numbers) others [] c more rest m l e agree a b all also = absurd a
  walk list (x ∷ numbers) [] (k ∷ next) c more rest m l e agree a b all also = absurd b
  walk list (x ∷ numbers) (y ∷ others) (k ∷ next) c more rest m l e agree a b all also =
      let old = old_or_next list (numbers ++ more) x c m e all in
      let same = same_number k agree a.0 b.0 old (old_or_next list (others ++ rest) y c l e also) in
      let there : StandsAt other x k = subst (λ n. StandsAt other n k) (sym same) b.0 in
      let all_on : Counts ((list ++ x ∷ []) ++ (numbers ++ more)) m = grind (arith, append_assoc) in
      let also_on : Counts ((list ++ x ∷ []) ++ (others ++ rest)) l = search (rules, Counts, append_assoc) in
      joined list x y numbers others same (elim old [
        | inl less ↦ walk (list ++ x ∷ []) numbers others next c more rest m l (counts_old list c x e less) agree a.1
            b.1 all_on also_on
        | inr is ↦ walk (list ++ x ∷ []) numbers others next (c + 1) more rest m l (grind (arith, counts_new))
            (agree_more c x k agree is a.0 there) a.1 b.1 all_on also_on
      ])

-- ## More numbers occur than vertices were visited

listed_front : (game : ParityGame) (v k : ℕ) → (more : List ℕ) × (listed game (v + k) ≡ listed game v ++ more)
listed_front game v zero = search (rules, none, append-nil)
listed_front game v (suc k) =
    let before = listed_front game v k in
    let next : v + suc k ≡ suc (v + k) = omega arith in
    grind (arith, append_assoc (listed game v) before.0 (successors_of game (v + k)))

gap : (v n : ℕ) → v ≤ n → (k : ℕ) × (v + k ≡ n)
gap v n le = (n - v, omega (arith, le))

pub zipped : (keys : List Key) (numbers : List ℕ) (next : List Key) (w : ℕ) (key : Key) →
    AllZip (StandsAt keys) numbers next → StandsAt keys w key → Contains numbers w → Contains next key
zipped keys numbers next w key zip at c =
    let there = zip_at keys numbers next c.0 w key zip c.1 in
    (c.0, there.0, same_some (sym there.1 ∙ ap (slice_get keys) c.2 ∙ at))

module _ (board : Board) (mover : ℕ) where
  abbrev pub IsIt : List Key → ParityGame → Type 0
  IsIt keys game = IsGameOf board mover keys game

  abbrev At : List Key → ParityGame → ℕ → Type 0
  At keys game v = IsVertexOf (LeadsTo board) mover keys game v

  no_loop : (keys : List Key) (game : ParityGame) (v : ℕ) → At keys game v → Contains (successors_of game v) v → ⊥
  no_loop keys game v at c = search (rules, not_itself, zipped)

  pub count_at : (keys : List Key) (game : ParityGame) (v : ℕ) → IsIt keys game → v ≤ vertex_count game →
      (c : ℕ) × Counts (listed game v) c
  count_at keys game v is le =
      let k = gap v (vertex_count game) le in
      let front = listed_front game v k.0 in
      grind (arith, counts_front)

  -- Let the different numbers among vertex 0 and the successors of the vertices less than v be, in order, 0, 1, and so
  -- on, at most v of them. With the successors of v there are still at most v: otherwise v would be one of its own
  -- successors, but no vertex is its own successor.
  still : (keys : List Key) (game : ParityGame) (v c d : ℕ) → IsIt keys game → v < vertex_count game →
      Counts (listed game v) c → c ≤ v → Counts (listed game (suc v)) d → d ≤ v
  still keys game v c d is lt counts le next = elim (cases_lt v d) [
    | inl less ↦ absurd (elim (Contains-append_cases (listed game v) (successors_of game v) v
        (has_it (listed game v ++ successors_of game v) v (came (listed game (suc v)) d v next less))) [
          | inl old ↦ search (rules, All-contains, counts_below)
          | inr loop ↦ no_loop keys game v (is.by_keys.vertices v lt) loop
        ])
    | inr more ↦ more
  ]

  behind : (keys : List Key) (game : ParityGame) (k v c : ℕ) → IsIt keys game → v + suc k ≡ vertex_count game →
      Counts (listed game v) c → c ≤ v → ⊥
  behind keys game zero v c is e counts le =
      let lt : v < vertex_count game = omega (arith, e) in
      let end : suc v ≡ vertex_count game = omega (arith, e) in
      grind (arith, still)
  behind keys game (suc k) v c is e counts le =
      let lt : v < vertex_count game = omega (arith, e) in
      let next = count_at keys game (suc v) is (omega (arith, e)) in
      let few = still keys game v c next.0 is lt counts le next.1 in
      behind keys game k (suc v) next.0 is (omega (arith, e)) next.1 (omega (arith, few))

  pub ahead : (keys : List Key) (game : ParityGame) (v c : ℕ) → IsIt keys game → v < vertex_count game →
      Counts (listed game v) c → v < c
  ahead keys game v c is lt counts = elim (cases_lt v c) [
    | inl less ↦ less
    | inr le ↦ absurd (let k = gap (suc v) (vertex_count game) (omega (arith, lt)) in
        behind keys game k.0 v c is (omega (arith, k.1)) counts le)
  ]

  -- ## Two games of one board

  record Alike (one other : List Key) (game same : ParityGame) (v : ℕ) : Type 0 where
    lists : listed game v ≡ listed same v
    count : ℕ
    counts : Counts (listed game v) count
    agree : Agree one other count
    successors : (u : ℕ) → u < v → successors_of game u ≡ successors_of same u

  front_counts : (keys : List Key) (game : ParityGame) (v : ℕ) → IsIt keys game → v < vertex_count game →
      (more : List ℕ) × (Counts (listed game v ++ (successors_of game v ++ more)) (vertex_count game))
  front_counts keys game v is lt =
      let k = gap (suc v) (vertex_count game) (omega (arith, lt)) in
      let front = listed_front game (suc v) k.0 in grind (arith, append_assoc)

  module _ (one other : List Key) (game same : ParityGame) (is : IsIt one game) (too : IsIt other same) where
    alike_first : Alike one other game same 0
    alike_first = record {
      lists = refl;
      count = 1;
      counts = refl;
      agree = search rules;
      successors = λ u lt. absurd (omega (arith, lt));
    }

    alike_next : (v : ℕ) → v < vertex_count game → v < vertex_count same → Alike one other game same v →
        Alike one other game same (suc v)
    alike_next v lt also before = record {
      lists = ap₂ (λ (a b : List ℕ). a ++ b) before.lists walked.same;
      count = walked.count;
      counts = walked.counts;
      agree = walked.agree;
      successors = λ u less. elim (cases_lt u v) [
        | inl earlier ↦ before.successors u earlier
        | inr not ↦ (let here : v ≡ u = omega (arith, less, not) in
            subst (λ n. successors_of game n ≡ successors_of same n) here walked.same)
      ];
    }
      where
        a : At one game v
        a = is.by_keys.vertices v lt

        b : At other same v
        b = too.by_keys.vertices v also

        key_same : a.key ≡ b.key
        key_same = search (rules, same_some, ahead)

        next_same : b.next ≡ a.next
        next_same = one_next board a.key (subst (λ k. LeadsTo board k b.next) (sym key_same) b.leads_to) a.leads_to

        first : (more : List ℕ) × Counts (listed game v ++ (successors_of game v ++ more)) (vertex_count game)
        first = front_counts one game v is lt

        second : (more : List ℕ) × Counts (listed same v ++ (successors_of same v ++ more)) (vertex_count same)
        second = front_counts other same v too also

        walked : Walked one other (listed game v) (successors_of game v) (successors_of same v)
        walked = walk one other is.by_keys.different too.by_keys.different (listed game v) (successors_of game v)
            (successors_of same v) a.next before.count first.0 second.0 (vertex_count game) (vertex_count same)
            before.counts before.agree a.successors (subst (λ (l : List Key). AllZip (StandsAt other)
            (successors_of same v) l) next_same b.successors) first.1 (subst (λ (l : List ℕ). Counts
            (l ++ (successors_of same v ++ second.0)) (vertex_count same)) (sym before.lists) second.1)

    alike : (v : ℕ) → v ≤ vertex_count game → v ≤ vertex_count same → Alike one other game same v
    alike zero le also = alike_first
    alike (suc v) le also = search (rules, alike_next, alike v (omega (arith, le)) (omega (arith, also)))

    not_fewer : vertex_count game < vertex_count same → ⊥
    not_fewer less =
        let at = alike (vertex_count game) (omega arith) (omega (arith, less)) in
        grind (arith, counts_one, ahead)

  vertex_same : {x y : VertexData} → x.owner ≡ y.owner → x.priority ≡ y.priority → x.successors ≡ y.successors → x ≡ y
  vertex_same {x} {y} a b c = search rules

  -- any two games of one board (an automaton and the owners of its propositions) are equal, and have the same list of
  -- keys
  pub one_game_of : (one other : List Key) (game same : ParityGame) → IsGameOf board mover one game →
      IsGameOf board mover other same → (one ≡ other) × (game ≡ same)
  unfolding vertex_count owner_of priority_of successors_of
  one_game_of one other game same is too = (keys_same, games_same)
    where
      count_same : vertex_count game ≡ vertex_count same
      count_same = omega (arith, not_fewer one other game same is too, not_fewer other one same game too is)

      at : Alike one other game same (vertex_count game)
      at = alike one other game same is too (vertex_count game) (omega arith) (omega (arith, count_same))

      whole : at.count ≡ vertex_count game
      whole = counts_one (listed game (vertex_count game)) at.counts is.numbered

      keys_same : one ≡ other
      keys_same = same_lists one other (is.by_keys.count ∙ count_same ∙ sym too.by_keys.count) (λ k d within. same_some
          (sym (slice_get-get_or one k d within) ∙ at.agree k (omega (arith, within, whole, is.by_keys.count))
          ∙ slice_get-get_or other k d (omega (arith, within, is.by_keys.count, count_same, too.by_keys.count))))

      each : (k : ℕ) → k < vertex_count game → get_or game k no_vertex ≡ get_or same k no_vertex
      each k lt =
          let a = is.by_keys.vertices k lt in
          let b = too.by_keys.vertices k (omega (arith, lt, count_same)) in
          let key = same_some (sym a.stands ∙ at.agree k (omega (arith, lt, whole)) ∙ b.stands) in
          vertex_same (a.owner ∙ ap (owner_of_key mover) key ∙ sym b.owner)
          (a.priority ∙ ap priority_of_key key ∙ sym b.priority) (at.successors k lt)

      games_same : game ≡ same
      games_same = same_lists game same count_same (λ k d within. sym (get_or_default game k no_vertex d within)
          ∙ each k within ∙ get_or_default same k no_vertex d (omega (arith, within, count_same)))
