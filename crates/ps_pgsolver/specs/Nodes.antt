-- The nodes of a game text, as values: id, priority, owner, successors and name.
use Rattle.std.specs.Prelude.{ℕ, Bool, ◌==◌, ◌<◌, ◌≢◌, List, map, length, Option}
use Rattle.std.specs.List.{All, AllPairs, Contains, list_any, list_all}
use Rattle.ps_game.specs.Games.{HasNoQuote}

pub record NodeData : Type 0 where
  pub id : ℕ
  pub priority : ℕ
  pub owner : ℕ
  pub successors : List ℕ
  pub name : Option (List ℕ)

abbrev pub ids_of : List NodeData → List ℕ
ids_of nodes = map (λ n. n.id) nodes

abbrev pub names_of : List NodeData → List (Option (List ℕ))
names_of nodes = map (λ n. n.name) nodes

-- whether a number is in the list of ids
abbrev pub is_member : List ℕ → ℕ → Bool
is_member ids n = list_any (λ id. n == id) ids

-- the properties of each parsed node: an owner 0 or 1, at least one successor, and a name without quotes
pub record IsReadNode (node : NodeData) : Type 0 where
  pub owner : node.owner < 2
  pub successor : 0 < length node.successors
  pub name : HasNoQuote node.name

abbrev pub IsDistinct : List ℕ → Type 0
IsDistinct xs = AllPairs (λ x y. x ≢ y) xs

-- well-formed nodes with distinct ids
pub record AreNodes (nodes : List NodeData) : Type 0 where
  pub distinct : IsDistinct (ids_of nodes)
  pub each : All IsReadNode nodes

-- a well-formed node whose id is not yet in the list of ids
pub record IsNewNode (ids : List ℕ) (node : NodeData) : Type 0 where
  pub new : ¬ Contains ids node.id
  pub is_node : IsReadNode node

-- Each item of a list (`KnowsEach`), each successor of a node (`KnowsNode`), or each successor of any node in a list
-- (`KnowsAll`) is in the list `ids`.
abbrev pub KnowsEach : List ℕ → List ℕ → Type 0
KnowsEach ids list = All (λ id. Contains ids id) list

abbrev pub KnowsNode : List ℕ → NodeData → Type 0
KnowsNode ids node = KnowsEach ids node.successors

abbrev pub KnowsAll : List ℕ → List NodeData → Type 0
KnowsAll ids nodes = All (λ node. KnowsNode ids node) nodes

-- the conditions `KnowsEach` and `KnowsAll` as Boolean tests
abbrev pub knows_each : List ℕ → List ℕ → Bool
knows_each ids list = list_all (λ id. is_member ids id) list

abbrev pub knows_all : List ℕ → List NodeData → Bool
knows_all ids nodes = list_all (λ node. knows_each ids node.successors) nodes
