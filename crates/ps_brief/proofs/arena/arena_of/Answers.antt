use Rattle.std.proofs.Common.{◌≡◌, ◌∙◌, length, subst, sym}
use Rattle.ps_game.specs.Games.{ParityGame}
use Rattle.ps_machine.proofs.AutomatonGames.GameKeys.Exploring.{same_without_repeats}
use Rattle.ps_machine.specs.Keys.{mover_of}
use Rattle.ps_basis.proofs.ListedOrder.{listed_in_order}
use Rattle.ps_brief.specs.Inner.Arranging.{AreArenaVertices}
use Rattle.ps_brief.specs.Listings.{listed_keys}
use Rattle.ps_brief.specs.Settings.{board_in}
use Rattle.ps_brief.proofs.BriefArenas.ArenaVertices.{arena_ready}
use Rattle.ps_brief.proofs.BriefArenas.WholeArenas.{whole_arena}
use Rattle.ps_brief.proofs.arena.arena_of.Goals as goal

pub new-requires-clause-different : goal.new-requires-clause-different
new-requires-clause-different c = (listed_in_order (board_in c.args.setting.now) (listed_keys c.args.listing.now)
    c.requires.listing.listed).different

pub new-requires-clause-rising : goal.new-requires-clause-rising
new-requires-clause-rising c = λ q p inside. (c.requires.bases.each q p inside).rising

pub into_game-requires-clause-bare : goal.into_game-requires-clause-bare
into_game-requires-clause-bare c =
    (arena_ready (board_in c.args.setting.now) c.args.bases.now (mover_of c.args.setting.now.order)
    c.in_ok-keys.keys.list.items (λ q p inside. c.requires.bases.each q p (c.in_ok-keys.ensures.firsts q p inside))
    c.in_ok-vertices.vertices c.in_ok-vertices.ensures.vertices).some

pub into_game-requires-clause-known : goal.into_game-requires-clause-known
into_game-requires-clause-known c =
    (arena_ready (board_in c.args.setting.now) c.args.bases.now (mover_of c.args.setting.now.order)
    c.in_ok-keys.keys.list.items (λ q p inside. c.requires.bases.each q p (c.in_ok-keys.ensures.firsts q p inside))
    c.in_ok-vertices.vertices c.in_ok-vertices.ensures.vertices).within

pub returns-clause-arena : goal.returns-clause-arena
returns-clause-arena c =
    let board = board_in c.args.setting.now in
    let bases = c.args.bases.now in
    let mover = mover_of c.args.setting.now.order in
    let list = c.in_ok-keys.keys.list.items in
    let same : c.in_ok-game.game ≡ c.in_ok-vertices.vertices =
    c.in_ok-game.ensures ∙ same_without_repeats (arena_ready board bases mover list
    (λ q p inside. c.requires.bases.each q p (c.in_ok-keys.ensures.firsts q p inside)) c.in_ok-vertices.vertices
    c.in_ok-vertices.ensures.vertices) in
    whole_arena c.args.setting.now c.args.listing.now bases c.requires.listing c.requires.bases c.in_ok-keys.keys
    c.in_ok-keys.ensures c.in_ok-game.game
    (subst (λ (game : ParityGame). AreArenaVertices board bases mover list game (length list)) (sym same)
    c.in_ok-vertices.ensures.vertices)
