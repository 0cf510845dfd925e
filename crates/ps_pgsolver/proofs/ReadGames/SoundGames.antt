-- A game text without errors describes a well-formed game: each node has an owner 0 or 1 and a successor, and each
-- successor is a node's id.
-- - `sound_nodes`: each node of a text without errors has an owner 0 or 1 and at least one successor
-- - `game_is_sound`: the lemma that proves the law `read_game_is_game`
use Rattle.std.proofs.Common.{◌≡◌, ℕ, ◌<◌, List, [], ◌∷◌, ◌++◌, length, Option, None, Some, Ok, refl}
use Rattle.std.proofs.Common.{subst, inl, inr, arith, rules, length-append}
use Rattle.std.proofs.lemmas.Bool.{cases_lt}
use Rattle.std.proofs.lemmas.List.{length-map}
use Rattle.std.proofs.lemmas.List.Elements.{All-push, All-map}
use Rattle.std.specs.List.{All}
use Rattle.ps_text.specs.Answers.{IsClean}
use Rattle.ps_text.specs.Parts.{IsWrong, by_part, many}
use Rattle.ps_text.proofs.Combinators.Simple.{none_is_some, same_some}
use Rattle.ps_game.specs.Drafts.{NoneBare}
use Rattle.ps_game.specs.Games.{NamedGameData, IsGame, vertex_count, VertexData}
use Rattle.ps_game.proofs.StoredGames.Finished.{IsGame-without_repeats}
use Rattle.ps_pgsolver.specs.GameTexts.{pg_causes, number_in, BadOwner, more_successor}
use Rattle.ps_pgsolver.specs.GameTexts.{successors, owner, node, entry, entries, game}
use Rattle.ps_pgsolver.specs.GamesOf.{draft_of, game_of, named_game_of, vertex_of_node}
use Rattle.ps_pgsolver.specs.Nodes.{NodeData, KnowsAll, ids_of}
use Rattle.ps_pgsolver.specs.Reading.{Answer, too_long, refused, unknown, meaning}
use Rattle.ps_pgsolver.specs.Signs.{Sign, Number}
use Rattle.ps_pgsolver.specs.declared.fault.PgCause.{PgCause}
use Rattle.ps_pgsolver.specs.declared.fault.PgCause.TheVariants as causes
use Rattle.ps_pgsolver.proofs.ReadGames.GameLemmas.{draft_at, draft_known, named_count}
use Rattle.ps_pgsolver.proofs.ReadGames.Sound.{Sound, knows_all, sound_any, sound_one, sound_then, sound_mapped}
use Rattle.ps_pgsolver.proofs.ReadGames.Sound.{sound_many}

pub record IsSoundNode (n : NodeData) : Type 0 where
  pub owner : n.owner < 2
  pub successor : 0 < length n.successors

abbrev AreSound : List NodeData → Type 0
AreSound nodes = All IsSoundNode nodes

abbrev IsLong : List ℕ → Type 0
IsLong list = 0 < length list

good_owner : (t : Sign) (v : ℕ) → number_in t ≡ Some v → ((f : PgCause) → BadOwner t f → ⊥) → v < 2
good_owner (Number n) v e q = elim (cases_lt n 2) [
  | inl small ↦ subst (λ x. x < 2) (same_some n v e) small
  | inr large ↦ absurd (q causes.Number (large, refl))
]
good_owner _ v e q = absurd (none_is_some v e)

sound_owner : Sound owner (λ n. n < 2)
unfolding owner
sound_owner = sound_one number_in BadOwner good_owner

module _ (known : Option (List ℕ)) where
  sound_more : (list : List ℕ) → IsLong list → Sound (more_successor known list) IsLong
  unfolding more_successor
  sound_more list long = sound_then _ sound_any
      (λ _ _. sound_mapped (λ n. list ++ n ∷ []) (λ n _. grind (arith, length-append {A = ℕ})) sound_any)

  sound_list : Sound (successors known) IsLong
  unfolding successors
  sound_list = sound_then _ sound_any (λ n _. sound_many (more_successor known) sound_more (n ∷ []) (omega arith))

  sound_node : (ids : List ℕ) → Sound (node known ids) IsSoundNode
  unfolding node
  sound_node ids = sound_then _ sound_any (λ id _. sound_then _ sound_any (λ priority _. sound_then _ sound_owner
      (λ owner' small. sound_then _ sound_list (λ list long. sound_then _ sound_any (λ name' _. sound_mapped _
      (λ _ _. record { owner = small; successor = long }) sound_any)))))

  sound_entry : (nodes : List NodeData) → AreSound nodes → Sound (entry known nodes) AreSound
  unfolding entry
  sound_entry nodes are =
      sound_mapped (λ n. nodes ++ n ∷ []) (λ n is. All-push IsSoundNode nodes n are is) (sound_node (ids_of nodes))

  sound_entries : Sound (entries known) AreSound
  unfolding entries
  sound_entries = sound_then (λ nodes. many (entry known) nodes)
      (sound_entry [] (λ k d l. absurd (omega (arith, l))))
      (λ nodes are. sound_many (entry known) sound_entry nodes are)

  sound_game : Sound (game known) AreSound
  unfolding game
  sound_game = sound_then _ sound_any (λ _ _. sound_then _ sound_any (λ _ _. sound_entries))

  sound_nodes : (text : List Sign) (nodes : List NodeData) → (game known).IsText text nodes →
      IsClean (IsWrong pg_causes (game known)) text → AreSound nodes
  sound_nodes text nodes h clean =
      sound_game.good text nodes h (λ front rest t f e c. clean front (t ∷ rest) f e (by_part t refl c))

-- ## The game of the nodes

each_bare : (ids : List ℕ) (nodes : List NodeData) → AreSound nodes → NoneBare (draft_of ids nodes)
each_bare ids nodes are v l = let r = draft_at ids nodes v l in grind (arith, length-map)

owned : (ids : List ℕ) (nodes : List NodeData) → AreSound nodes → All (λ v. v.owner < 2) (draft_of ids nodes)
owned ids nodes are = All-map (λ (v : VertexData). v.owner < 2) (vertex_of_node ids) nodes (λ k d l. (are k d l).owner)

nodes_are_game : (nodes : List NodeData) → AreSound nodes → KnowsAll (ids_of nodes) nodes → IsGame (game_of nodes)
nodes_are_game nodes are known = IsGame-without_repeats (draft_of (ids_of nodes) nodes) (owned (ids_of nodes) nodes are)
    (each_bare (ids_of nodes) nodes are) (draft_known nodes refl known)

id_each : (nodes : List NodeData) → length (ids_of nodes) ≡ vertex_count (game_of nodes)
id_each nodes = grind (arith, named_count, length-map)

pub game_is_sound : (text : List ℕ) (named : NamedGameData) → Answer text (Ok named) →
    IsGame named.game × (length named.ids ≡ vertex_count named.game)
game_is_sound text named (too_long long e) = absurd (search rules)
game_is_sound text named (refused stream found tokens answers e) = absurd (search rules)
game_is_sound text named (unknown stream nodes found tokens first answers e) = absurd (search rules)
game_is_sound text named (meaning stream nodes tokens first second e) =
    let sound = sound_nodes None _ nodes first.0 first.1 in
    let known = knows_all (ids_of nodes) _ nodes second.0 second.1 in
    let is : named_game_of nodes ≡ named = search rules in (
      subst (λ (g : NamedGameData). IsGame g.game) is (nodes_are_game nodes sound known),
      subst (λ (g : NamedGameData). length g.ids ≡ vertex_count g.game) is (id_each nodes),
    )
