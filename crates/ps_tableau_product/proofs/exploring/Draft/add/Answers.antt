use Rattle.std.proofs.Common.{◌≡◌, arith, length, refl, subst, sym, ◌∙◌}
use Rattle.std.specs.List.{Contains}
use Rattle.ps_diagram.specs.Table.{Table}
use Rattle.ps_product.specs.Products.{ProductVertex}
use Rattle.ps_product.proofs.ExploredProducts.WordNumbers.{still_there}
use Rattle.ps_simulate.proofs.NamingLemmas.{some_same}
use Rattle.ps_tableau_product.specs.Inner.Exploring.{DraftData, draft_data}
use Rattle.ps_tableau_product.specs.Plans.{scene_of}
use Rattle.ps_tableau_product.specs.Inner.Rows.{covers_at}
use Rattle.ps_tableau_product.specs.Inner.Views.{AreEdgesAt, AreServed, AreViews, IsView}
use Rattle.ps_tableau_product.proofs.FairProducts.AddLemmas.{adds_cover, adds_nothing, on_ok, on_ok_two}
use Rattle.ps_tableau_product.proofs.TableauStates.ViewLemmas.{view_kept}
use Rattle.ps_tableau_product.proofs.exploring.Draft.add.Goals as goal
use Rattle.ps_tableau_product.proofs.exploring.Draft.add.Goals.{In_ok-letters}

abbrev old : In_ok-letters → DraftData
old c = draft_data c.args.self.now

views : (c : In_ok-letters) → AreViews (scene_of c.args.plan) c.requires.visited.at.latches c.served.new.self.store
    c.args.view.now.nodes.items c.args.view.now.nexts.items c.args.view.now.classes
views c = view_kept c.in_ok-letters.ensures.keeps c.requires.visited.is_view

new_view : (c : In_ok-letters) → IsView (scene_of c.args.plan) c.requires.visited.at.latches c.served.new.self
new_view c =
    let e = c.in_ok-letters.ensures in rw (e.nodes, e.nexts, e.classes) (views c)

served : (c : In_ok-letters) → AreServed c.served.new.self.store c.args.view.now.nodes.items
    c.args.view.now.nexts.items c.args.self.now.states.tableau.guards c.args.cover.now.guard
    c.in_ok-letters.letters.items
served c = subst (λ (t : Table). AreServed c.served.new.self.store c.args.view.now.nodes.items
    c.args.view.now.nexts.items t c.args.cover.now.guard c.in_ok-letters.letters.items) c.guards.ensures
    c.in_ok-letters.ensures.served

known : (c : In_ok-letters) → Contains (covers_at (old c).states c.requires.visited.at) c.args.cover.now
known c =
    let same : c.requires.cover.at ≡ c.requires.visited.at =
    some_same c.requires.cover.at c.requires.visited.at (sym c.requires.cover.there ∙ c.requires.visited.there) in
    subst (λ (v : ProductVertex). Contains (covers_at (old c).states v) c.args.cover.now) same
    c.requires.cover.is_cover

pub returns-then-is_empty-clause-adds : goal.returns-then-is_empty-clause-adds
returns-then-is_empty-clause-adds c =
    let at = (goal.at.returns-then-is_empty-clause-adds c).In_ok-letters in
    let none : length c.in_ok-letters.letters.items ≡ 0 = grind arith in
    adds_nothing c.requires.visited.are_fit c.requires.visited.there (views at) (served at) (known at)
    c.args.row.now.items none

pub returns-then-is_empty-clause-visited : goal.returns-then-is_empty-clause-visited
returns-then-is_empty-clause-visited c =
    let at = (goal.at.returns-then-is_empty-clause-visited c).In_ok-letters in
    record {
      are_fit = c.requires.visited.are_fit;
      at = c.requires.visited.at;
      there = c.requires.visited.there;
      covers = c.requires.visited.covers;
      is_view = new_view at;
    }

pub edges_at-requires : goal.edges_at-requires
edges_at-requires c = (new_view (goal.at.edges_at-requires c).In_ok-letters).tell.nexts_held

pub returns-clause-adds : goal.returns-clause-adds
returns-clause-adds c =
    let at = (goal.at.returns-clause-adds c).In_ok-letters in
    let edges : AreEdgesAt c.served.new.self.store c.args.view.now.nexts.items c.in_ok-letters.letters.items
    c.in_ok-state.state c.in_ok-edges.edges.items =
    rw (c.deref.ensures.value, c.in_ok-letters.ensures.nexts) at c.in_ok-edges.ensures in
    let new : DraftData = draft_data (record {
      states = c.number_of.new.self;
      numbering = c.append.new.numbering;
      rows = c.args.self.now.rows;
    }) in
    on_ok c.append.result c.append.ensures (λ appends.
    adds_cover c.requires.visited.are_fit c.requires.visited.there (views at) (served at) (known at) new
    c.in_ok-state.ensures edges appends refl)

pub returns-clause-visited : goal.returns-clause-visited
returns-clause-visited c =
    let at = (goal.at.returns-clause-visited c).In_ok-letters in
    let number = c.in_ok-state.ensures in
    on_ok_two c.append.result (returns-clause-adds c) c.append.ensures (λ adds appends. record {
      are_fit = adds.adds.are_fit;
      at = c.requires.visited.at;
      there = still_there c.args.vertex appends.grown c.requires.visited.there;
      covers = rw number.edges c.requires.visited.covers;
      is_view = new_view at;
    })
