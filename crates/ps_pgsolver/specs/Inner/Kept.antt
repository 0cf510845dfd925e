-- While a game text is parsed, its nodes are stored in a list of ids, a list of vertices and a list of names. The
-- stored vertices give their successors by ids, not yet by indices.
use Rattle.std.specs.Prelude.{◌≡◌, ℕ, List, [], ◌∷◌, ◌++◌, length, Option, Some, None, Vec}
use Rattle.std.specs.Global.{Global}
use Rattle.ps_game.specs.Games.{VertexData, ParityGame}
use Rattle.ps_game.specs.Names.{name_bytes}
use Rattle.ps_pgsolver.specs.GamesOf.{vertex_made}
use Rattle.ps_pgsolver.specs.Nodes.{NodeData, AreNodes}
use Rattle.ps_pgsolver.specs.declared.node.Node.{Node}

abbrev pub node_kept : ℕ → VertexData → Option (List ℕ) → NodeData
node_kept id v name = record { id = id; priority = v.priority; owner = v.owner; successors = v.successors; name = name }

-- the nodes that are stored in a list of ids, a list of vertices and a list of names
unfoldable pub nodes_kept : List ℕ → ParityGame → List (Option (List ℕ)) → List NodeData
nodes_kept (id ∷ ids) (v ∷ vertices) (name ∷ names) = node_kept id v name ∷ nodes_kept ids vertices names
nodes_kept _ _ _ = []

-- the vertex that is stored for a node, with the ids of its successors, which are later replaced by their indices
abbrev pub vertex_kept : NodeData → VertexData
vertex_kept node = vertex_made node.owner node.priority node.successors

-- a parsed node, as a value that includes its successors
abbrev pub node_with : Node → List ℕ → NodeData
node_with node successors =
    record {
      id = node.id;
      priority = node.priority;
      owner = node.owner;
      successors = successors;
      name = name_bytes node.name;
    }

-- the list of names after a node is added: one more name at the end, if the node has a name
abbrev pub names_with : List (Option (Vec ℕ Global)) → Option (Vec ℕ Global) → List (Option (Vec ℕ Global))
names_with names None = names
names_with names (Some name) = names ++ Some name ∷ []

-- the lists of ids, vertices and names have equal lengths, and the nodes that they store are well formed and have
-- distinct ids
pub record AreKept (ids : List ℕ) (vertices : ParityGame) (names : List (Option (List ℕ))) : Type 0 where
  pub id_each : length ids ≡ length vertices
  pub name_each : length names ≡ length ids
  pub well_formed : AreNodes (nodes_kept ids vertices names)
