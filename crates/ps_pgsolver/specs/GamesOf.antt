-- The game that the nodes of a text describe. The game's vertices are numbered in the order of the text's nodes, and a
-- successor that a node lists twice counts once.
use Rattle.std.specs.Prelude.{ℕ, List, map}
pub use Rattle.ps_ids.specs.Ids.{place_of}
use Rattle.ps_game.specs.Games.{VertexData, ParityGame, NamedGameData}
use Rattle.ps_game.specs.Drafts.{without_repeats}
use Rattle.ps_pgsolver.specs.Nodes.{NodeData, ids_of, names_of}

abbrev pub vertex_made : ℕ → ℕ → List ℕ → VertexData
vertex_made owner priority successors = record { owner = owner; priority = priority; successors = successors }

abbrev pub vertex_of_node : List ℕ → NodeData → VertexData
vertex_of_node ids node = vertex_made node.owner node.priority (map (place_of ids) node.successors)

abbrev pub draft_of : List ℕ → List NodeData → ParityGame
draft_of ids nodes = map (vertex_of_node ids) nodes

abbrev pub game_of : List NodeData → ParityGame
game_of nodes = without_repeats (draft_of (ids_of nodes) nodes)

abbrev pub named_game_of : List NodeData → NamedGameData
named_game_of nodes = record { game = game_of nodes; ids = ids_of nodes; names = names_of nodes }
