-- When a vertex is visited, its successors get their numbers one after another.
use Rattle.std.proofs.Common.{◌≡◌, ◌≢◌, ℕ, ◌+◌, ◌<◌, ◌≤◌, List, [], ◌∷◌, ◌++◌}
use Rattle.std.proofs.Common.{length, take, get_or, ap, sym, subst, ◌∙◌, rules, arith}
use Rattle.std.specs.List.{All, AllPairs, AllZip, Contains, range_with_len}
use Rattle.std.proofs.Math.Seq.{get_or-append_seam, set-append_seam}
use Rattle.std.proofs.lemmas.List.{take_more, append-nil, append_assoc, length-append}
use Rattle.std.proofs.lemmas.List.Elements.{All-nil, All-push, All-append, Contains-append_left, Contains-push}
use Rattle.std.proofs.lemmas.List.Elements.{Contains-get_or}
use Rattle.std.proofs.lemmas.List.Quantifiers.{all_pairs_push}
use Rattle.std.proofs.lemmas.Option.{slice_get_within}
use Rattle.std.proofs.lemmas.Slice.Zip.{all_zipped_more}
use Rattle.ps_game.specs.Games.{ParityGame, VertexData, vertex_count, owner_of, priority_of, successors_of}
use Rattle.ps_game.specs.Drafts.{with_edge, with_vertex, distinct}
use Rattle.ps_game.proofs.StoredGames.DistinctByStamps.{distinct-push}
use Rattle.ps_machine.specs.Keys.{owner_of_key, priority_of_key}
use Rattle.ps_machine.specs.Numbering.{StandsAt}
use Rattle.ps_machine.specs.Inner.Visits.{DraftData, IsNumberOf, Came, Comes, Visits}
use Rattle.ps_machine.specs.declared.key.Key.{Key}
use Rattle.ps_machine.specs.declared.key.Key.TheVariants.{First}
use Rattle.ps_machine.proofs.AutomatonGames.GameKeys.Standing.{slice_get-seam, stand-left, stand-within, came, not_come}
use Rattle.ps_machine.proofs.AutomatonGames.GameKeys.Standing.{range-push}

-- adding an edge from the last vertex appends a successor to that vertex
with_edge-last : (game : ParityGame) (x : VertexData) (n : ℕ) →
    with_edge (game ++ x ∷ []) (vertex_count game) n ≡ game ++
    record { owner = x.owner; priority = x.priority; successors = x.successors ++ n ∷ [] } ∷ []
unfolding vertex_count owner_of priority_of successors_of
with_edge-last game x n = search (rules, set-append_seam, get_or-append_seam)

pub visits_none : {mover : ℕ} {old : DraftData} {key : Key} {new : DraftData} → new.keys ≡ old.keys →
    new.game ≡ with_vertex old.game (owner_of_key mover key) (priority_of_key key) → Visits mover old key [] new
visits_none {old} k g = search (rules, append-nil, All-nil)

-- if the list `xs`, without its repeats, is the list of the numbers of all keys, in order, it still is after one more
-- key, old or new, is numbered and its number appended to `xs`
pub counted_more : (xs : List ℕ) {keys : List Key} {n : ℕ} {k : Key} {keys' : List Key} →
    All (λ w. w < length keys) xs →
    distinct xs ≡ range_with_len 0 (length keys) →
    IsNumberOf keys k n keys' → distinct (xs ++ n ∷ []) ≡ range_with_len 0 (length keys')
counted_more xs h k m = search (rules, distinct-push, came, slice_get_within, not_come, range-push, length-append)

pub different_more : {keys : List Key} {n : ℕ} {k : Key} {keys' : List Key} → IsNumberOf keys k n keys' →
    AllPairs (λ x y. x ≢ y) keys → AllPairs (λ x y. x ≢ y) keys'
different_more (Came at same) differ = subst (λ l. AllPairs (λ x y. x ≢ y) l) (sym same) differ
different_more {keys} {k} (Comes absent is grown) differ = rw grown
    (all_pairs_push (λ x y. x ≢ y) keys k differ (λ i d within e. absent (rw e at (Contains-get_or keys i d within))))

-- the keys that one insertion adds to the list: the inserted key if it is new, and otherwise none
pub added_by : {keys : List Key} {n : ℕ} {k : Key} {keys' : List Key} → IsNumberOf keys k n keys' → List Key
added_by (Came at same) = []
added_by {k} (Comes absent is grown) = k ∷ []

pub is_added : {keys : List Key} {n : ℕ} {k : Key} {keys' : List Key} (is : IsNumberOf keys k n keys') →
    keys' ≡ keys ++ added_by is
unfolding added_by
is_added is = search (rules, append-nil)

pub stands_now : {keys : List Key} {n : ℕ} {k : Key} {keys' : List Key} → IsNumberOf keys k n keys' → StandsAt keys' n k
stands_now h = search (rules, slice_get-seam)

pub from_more : {keys : List Key} {n : ℕ} {k : Key} {keys' : List Key} (is : IsNumberOf keys k n keys')
    (done added : List Key) → All (λ x. Contains done x) added →
    All (λ x. Contains (done ++ k ∷ []) x) (added ++ added_by is)
unfolding added_by
from_more {k} (Came at same) done added all = rw (append-nil added) (λ i d within. search (rules, Contains-append_left))
from_more {k} (Comes absent is grown) done added all = search (rules, All-push, Contains-append_left, Contains-push)

pub visits_more : {mover : ℕ} {old : DraftData} {key : Key} {done : List Key} {now : DraftData} {k : Key} {n : ℕ}
    {new : DraftData} → Visits mover old key done now →
    IsNumberOf now.keys k n new.keys → new.game ≡ with_edge now.game (vertex_count old.game) n →
    Visits mover old key (done ++ k ∷ []) new
visits_more {mover} {old} {key} {done} {now} {k} {n} {new} v is g =
    let more = added_by is in
    let grown : new.keys ≡ now.keys ++ more = is_added is in
    let x : VertexData =
    record { owner = owner_of_key mover key; priority = priority_of_key key; successors = v.numbers } in
    let kept : AllZip (StandsAt new.keys) v.numbers done = search (rules, stand-left) in
    record {
      numbers = v.numbers ++ n ∷ [];
      game = g ∙ ap (λ l. with_edge l (vertex_count old.game) n) v.game ∙ with_edge-last old.game x n;
      stand = all_zipped_more (StandsAt new.keys) v.numbers done n k kept (stands_now is);
      added = v.added ++ more;
      keys = grown ∙ ap (λ l. l ++ more) v.keys ∙ append_assoc old.keys v.added more;
      from_next = from_more is done v.added v.from_next;
      different = λ differ. different_more is (v.different differ);
      counted = λ list below e. ap distinct (sym (append_assoc list v.numbers (n ∷ [])))
          ∙ counted_more (list ++ v.numbers) (below_now list below) (v.counted list below e) is;
    }
  where
    below_now : (list : List ℕ) → All (λ w. w < length old.keys) list →
        All (λ w. w < length now.keys) (list ++ v.numbers)
    below_now list below =
        let long : length old.keys ≤ length now.keys = search (rules, length-append) in
        All-append (λ w. w < length now.keys) list v.numbers
        (λ i d within. (let less = below i d within in omega arith)) (stand-within now.keys v.numbers done v.stand)

-- one iteration of the visit: the key at index i of `next` gets its number, and the visited vertex gets an edge to the
-- vertex with this number
pub visits_next : {mover : ℕ} {old : DraftData} {key : Key} (next : List Key) (i : ℕ) {now : DraftData} {n : ℕ}
    {new : DraftData} → i < length next → Visits mover old key (take i next) now →
    IsNumberOf now.keys (get_or next i (First 0 0)) n new.keys →
    new.game ≡ with_edge now.game (vertex_count old.game) n → Visits mover old key (take (i + 1) next) new
visits_next {mover} {old} {key} next i {now} {n} {new} within v is g =
    rw (take_more next i (First 0 0) within) (visits_more v is g)
