use Rattle.std.proofs.Common.{◌∙◌, List, subst}
use Rattle.ps_tableau.proofs.BoardLemmas.{fails, gives_on, grows_trans}
use Rattle.ps_tableau.proofs.CoversOfSets.PruneSteps.{pruned_thrice}
use Rattle.ps_tableau.specs.Boards.{MakesEdges, covers_of}
use Rattle.ps_tableau.specs.Operators.{ArePruned}
use Rattle.ps_tableau.specs.declared.edge.Edge.{Edge}
use Rattle.ps_tableau.proofs.pruning.pruned.Goals as goal

pub returns-in_err-lessened : goal.returns-in_err-lessened
returns-in_err-lessened c =
    fails _ c.from_residual-in_err-lessened.result (grows_trans c.united_all.ensures.grows c.lessened_all.ensures.grows)
    c.from_residual-in_err-lessened.ensures.1

pub returns : goal.returns
returns c =
    let first = c.united_all.new.board in
    let second = c.lessened_all.new.board in
    let lessened = c.in_ok-lessened.lessened.items in
    let twice = grows_trans c.united_all.ensures.grows c.lessened_all.ensures.grows in
    gives_on c.lessened_all-2.result twice c.lessened_all-2.ensures (λ out made.
    let once = subst (λ (es : List Edge). MakesEdges second (ArePruned (covers_of first es)) lessened)
    c.deref.ensures.value c.in_ok-lessened.ensures.made in
    let again =
    subst (λ (es : List Edge). MakesEdges c.lessened_all-2.new.board (ArePruned (covers_of second es)) out.items)
    (c.deref-2.ensures.value ∙ c.reverse.ensures.items) made in
    pruned_thrice c.args.board.now c.args.edges.now c.in_ok-united.ensures.made once again)
