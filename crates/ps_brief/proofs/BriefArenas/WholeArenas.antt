-- An arena with all keys and vertices is the arena of each game of the board.
-- - `whole_arena`: so it is, whatever numbers the game gives its vertices
use Rattle.std.specs.Prelude.{ℕ, ◌<◌, List, length}
use Rattle.std.specs.List.{Contains}
use Rattle.std.proofs.Common.{sym, subst}
use Rattle.std.proofs.lemmas.List.Elements.{All-contains}
use Rattle.ps_diagram.specs.Table.{Table}
use Rattle.ps_game.specs.Games.{ParityGame}
use Rattle.ps_machine.specs.Boards.{Board, IsClassLetter, IsGameOf, LeadsTo}
use Rattle.ps_machine.specs.Keys.{mover_of}
use Rattle.ps_machine.specs.declared.key.Key.{Key}
use Rattle.ps_machine.specs.declared.key.Key.TheVariants.{First, Second}
use Rattle.ps_basis.specs.Arenas.{IsArenaOf}
use Rattle.ps_basis.specs.PairOrder.{AreNumberedAlike, IsInOrder}
use Rattle.ps_basis.proofs.ArenaEdges.{class_leads}
use Rattle.ps_basis.proofs.ArenaKeys.{Vertex, next_vertex, stands_in, stands_there, vertex_at}
use Rattle.ps_basis.proofs.GameOrder.{game_in_order}
use Rattle.ps_basis.proofs.ListedOrder.{listed_in_order}
use Rattle.ps_basis.proofs.OneOrder.{numbered_alike}
use Rattle.ps_brief.specs.ArenaGames.{AreBases, letters_at}
use Rattle.ps_brief.specs.Inner.Arranging.{AreArenaKeys, AreArenaVertices}
use Rattle.ps_brief.specs.Listings.{IsListing, listed_keys}
use Rattle.ps_brief.specs.Settings.{board_in}
use Rattle.ps_brief.specs.declared.arena.ArenaKeys.{ArenaKeys}
use Rattle.ps_brief.specs.declared.bases.Bases.{Bases}
use Rattle.ps_brief.specs.declared.listing.Listing.{Listing}
use Rattle.ps_brief.specs.declared.setting.Setting.{Setting}

module _ (setting : Setting) {t : Table} (listing : Listing) (bases : Bases) (is : IsListing setting t listing)
    (are : AreBases setting listing bases) (made : ArenaKeys)
    (all : AreArenaKeys listing bases made (length (listed_keys listing))) (arena : ParityGame)
    (vertices : AreArenaVertices (board_in setting) bases (mover_of setting.order) made.list.items arena
    (length made.list.items)) (keys : List Key) (game : ParityGame)
    (of : IsGameOf (board_in setting) (mover_of setting.order) keys game) where
  abbrev board : Board
  board = board_in setting

  abbrev mover : ℕ
  mover = mover_of setting.order

  abbrev start : Key
  start = First board.auto.start 0

  abbrev listed : List Key
  listed = listed_keys listing

  order : IsInOrder board listed
  order = listed_in_order board listed is.listed

  alike : AreNumberedAlike keys listed
  alike = numbered_alike board keys listed (game_in_order board mover keys game of) order

  in_listing : (q p : ℕ) → Contains keys (First q p) → Contains listed (First q p)
  in_listing q p inside = (alike.keys q p).0 inside

  in_game : (q p : ℕ) → Contains listed (First q p) → Contains keys (First q p)
  in_game q p inside = (alike.keys q p).1 inside

  class_there : (q p x : ℕ) → Contains listed (First q p) → IsClassLetter board q x → Contains keys (Second q x)
  class_there q p x inside class =
      let (v, at) = stands_there keys (First q p) (in_game q p inside) in
      let here : Vertex (LeadsTo board) mover keys game v (First q p) =
      vertex_at (LeadsTo board) mover start keys game of.by_keys v (First q p) at in
      let (w, edge, there) =
      next_vertex (LeadsTo board) mover start keys game of.by_keys v (First q p) (Second q x) here
      (class_leads board q p x here.next here.leads_to class) in
      stands_in keys w (Second q x) there

  within : (key : Key) → Contains made.list.items key → Contains keys key
  within (First q p) inside = in_game q p (all.firsts q p inside)
  within (Second q x) inside =
      let letter : Contains (letters_at bases q) x = (all.seconds q x inside).listed in
      let (p, here) = are.listed q x letter in
      class_there q p x here
      (All-contains (IsClassLetter board q) (letters_at bases q) x (are.each q p here).each letter)

  firsts : (q p : ℕ) → Contains keys (First q p) → Contains made.list.items (First q p)
  firsts q p inside =
      let (i, at) = stands_there listed (First q p) (in_listing q p inside) in
      stands_in made.list.items i (First q p) (all.front i (First q p) at)

  pub whole_arena : IsArenaOf board (letters_at bases) mover keys made.list.items arena
  whole_arena = record {
    by_keys = record {
      count = sym vertices.count;
      begins = all.front 0 start order.begins;
      different = all.different;
      vertices = λ v below. vertices.each v (subst (λ (n : ℕ). v < n) vertices.count below);
    };
    are_bases = λ q p inside. are.each q p (in_listing q p inside);
    within = within;
    firsts = firsts;
    seconds = λ q x inside. (all.seconds q x inside).listed;
  }
