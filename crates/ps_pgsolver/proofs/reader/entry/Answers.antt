use Rattle.std.proofs.Common.{arith, ◌≡◌, List, ℕ, [], ◌∷◌, ◌++◌, Some, sym, subst, ap, ◌∙◌}
use Rattle.std.specs.Option.{option_copied}
use Rattle.ps_pgsolver.specs.GameTexts.{node, entry}
use Rattle.ps_pgsolver.specs.Inner.Kept.{node_with}
use Rattle.ps_pgsolver.specs.Nodes.{NodeData, KnowsNode, KnowsAll, ids_of}
use Rattle.ps_pgsolver.proofs.ReadGames.NodeLemmas.{all_before, all_last}
use Rattle.ps_pgsolver.proofs.ReadGames.GameExits.{exit, stops_mapped, done_mapped, done_value}
use Rattle.ps_pgsolver.proofs.reader.entry.Goals as goal

pub returns-in_err-node-clause-part : goal.returns-in_err-node-clause-part
unfolding entry
returns-in_err-node-clause-part c = exit _ _ _ _ _ _ (stops_mapped (λ (n : NodeData). c.args.nodes.now ++ n ∷ [])
    (node (option_copied c.args.known) (ids_of c.args.nodes.now)) _ _ c.in_err-node.ensures.part)
    c.from_residual.ensures.1

pub returns-clause-part : goal.returns-clause-part
unfolding entry
returns-clause-part c =
    let nodes = c.args.nodes.now in
    let made : c.push.new.self ≡ nodes ++ node_with c.in_ok-node.node c.node.new.list.items ∷ [] = grind arith in
    done_value (entry (option_copied c.args.known) nodes) _ _ (sym made)
    (done_mapped (λ (n : NodeData). nodes ++ n ∷ []) (node (option_copied c.args.known) (ids_of nodes)) _ _
    (node_with c.in_ok-node.node c.node.new.list.items) c.in_ok-node.ensures.part)

pub returns-clause-later : goal.returns-clause-later
unfolding entry
returns-clause-later c = λ ids each.
    let nodes = c.args.nodes.now in
    let read = node_with c.in_ok-node.node c.node.new.list.items in
    let made : c.push.new.self ≡ nodes ++ read ∷ [] = c.in_ok-push.ensures
    ∙ ap (λ (list : List ℕ). nodes ++ node_with c.in_ok-node.node list ∷ []) c.deref.ensures.value in
    let all : KnowsAll ids (nodes ++ read ∷ []) = subst (KnowsAll ids) made each in (
      all_before (KnowsNode ids) nodes read all,
      done_value (entry (Some ids) nodes) _ _ (sym made)
          (done_mapped (λ (n : NodeData). nodes ++ n ∷ []) (node (Some ids) (ids_of nodes)) _ _ read
          (c.in_ok-node.ensures.later ids (all_last (KnowsNode ids) nodes read all))),
    )
