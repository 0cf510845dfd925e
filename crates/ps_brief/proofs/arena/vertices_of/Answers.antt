use Rattle.std.proofs.Common.{◌≡◌, arith, get_or, length, List, subst, ℕ}
use Rattle.std.proofs.lemmas.Option.{slice_get-get_or}
use Rattle.ps_diagram.proofs.NodeTables.Cells.{keeps_refl}
use Rattle.ps_diagram.proofs.NodeTables.KnownLemmas.{keeps_trans}
use Rattle.ps_machine.specs.Keys.{mover_of}
use Rattle.ps_machine.specs.Numbering.{StandsAt}
use Rattle.ps_machine.specs.declared.key.Key.{Key}
use Rattle.ps_machine.specs.declared.key.Key.TheVariants.{First}
use Rattle.ps_brief.specs.Inner.Arranging.{AreArenaVertices}
use Rattle.ps_brief.specs.Settings.{board_in}
use Rattle.ps_brief.proofs.BriefArenas.ArenaVertices.{vertices_begun, vertices_pushed}
use Rattle.ps_brief.proofs.ListedStates.KeptListings.{listing_kept}
use Rattle.ps_brief.proofs.arena.vertices_of.Goals as goal

pub loop-key-init : goal.loop-key-init
loop-key-init c = record {
  keeps = keeps_refl c.args.store.now;
  vertices = vertices_begun (board_in c.args.setting.now) c.args.bases.now (mover_of c.args.setting.now.order)
      c.args.keys.now.list.items c.in_ok-vertices.vertices c.in_ok-vertices.ensures;
}

pub find_successors-requires-clause-listing : goal.find_successors-requires-clause-listing
find_successors-requires-clause-listing c =
    listing_kept c.args.setting.now c.loop-key.invariant.keeps c.requires.listing

pub returns-in_err-find_successors-clause-keeps : goal.returns-in_err-find_successors-clause-keeps
returns-in_err-find_successors-clause-keeps c =
    keeps_trans c.loop-key.invariant.keeps c.in_err-find_successors.ensures.keeps

pub returns-in_err-push-clause-keeps : goal.returns-in_err-push-clause-keeps
returns-in_err-push-clause-keeps c = keeps_trans c.loop-key.invariant.keeps c.in_ok-find_successors.ensures.keeps

pub loop-key-preserved : goal.loop-key-preserved
loop-key-preserved c =
    let items = c.deref-key-items.result.now in
    let keys = c.args.keys.now.list.items in
    let n = c.loop-key.key-index in
    let key : Key = get_or items n (First 0 0) in
    let stands : StandsAt keys n key =
    subst (λ (xs : List Key). StandsAt xs n key) c.deref-key-items.ensures.value
    (slice_get-get_or items n (First 0 0) c.loop-key-test.true) in
    record {
      keeps = keeps_trans c.loop-key.invariant.keeps c.in_ok-find_successors.ensures.keeps;
      vertices = vertices_pushed (board_in c.args.setting.now) c.args.bases.now (mover_of c.args.setting.now.order)
          keys c.loop-key.vertices c.push.new.self n key c.find_successors.new.successors.items c.deref.result.now
          c.owner.result c.priority.result c.loop-key.invariant.vertices stands
          c.in_ok-find_successors.ensures.found c.owner.ensures.owner c.priority.ensures c.deref.ensures.value
          c.in_ok-push.ensures.ok;
    }

pub returns-clause-vertices : goal.returns-clause-vertices
returns-clause-vertices c =
    let count : c.loop-key.key-index ≡ length c.args.keys.now.list.items =
    omega (arith, c.loop-key-test.false, c.loop-key.auto.key-index-end, c.deref-key-items.ensures.len) in
    subst (λ (n : ℕ). AreArenaVertices (board_in c.args.setting.now) c.args.bases.now
    (mover_of c.args.setting.now.order) c.args.keys.now.list.items c.loop-key.vertices n) count
    c.loop-key.invariant.vertices
