use Rattle.std.proofs.Common.{rules, arith, ℕ, List, Option, Some}
use Rattle.std.specs.Option.{option_copied}
use Rattle.ps_game.specs.Names.{name_bytes}
use Rattle.ps_pgsolver.specs.GameTexts.{node, semicolon, successors}
use Rattle.ps_pgsolver.specs.Nodes.{NodeData, ids_of}
use Rattle.ps_pgsolver.proofs.ReadGames.GameExits.{Continues, Done, exit, stops_left, stops_mapped, done_mapped}
use Rattle.ps_pgsolver.proofs.ReadGames.GameExits.{continues_start}
use Rattle.ps_pgsolver.proofs.ReadGames.GameExits.{continues_then}
use Rattle.ps_pgsolver.proofs.ReadGames.PartLaws.{joint_id, joint_priority, joint_owner, joint_list, joint_name}
use Rattle.ps_pgsolver.proofs.ReadGames.PartLaws.{from_priority}
use Rattle.ps_pgsolver.proofs.ReadGames.PartLaws.{from_owner, from_successors, from_name, node_end}
use Rattle.ps_pgsolver.proofs.reader.node.Goals as goal
use Rattle.ps_pgsolver.proofs.reader.node.Goals.{After-number, After-owner, After-successors, After-name}
use Rattle.ps_pgsolver.proofs.reader.node.Goals.{After-semicolon}

-- ## What is left after each part, for all known ids

abbrev Known : Type 0
Known = Option (List ℕ)

behind_id : (k : Known) (c : After-number) → let ids = ids_of c.args.nodes.now in
    Continues (node k ids) (from_priority k ids c.in_ok-id.id) c.args.tokens.now c.new_id.new.tokens
unfolding node
behind_id k c = continues_then (joint_id k (ids_of c.args.nodes.now)) _ (continues_start) c.in_ok-id.ensures.part

behind_priority : (k : Known) (c : After-owner) → let ids = ids_of c.args.nodes.now in Continues (node k ids)
    (from_owner k ids c.in_ok-id.id c.in_ok-priority.priority) c.args.tokens.now c.number.new.tokens
behind_priority k c = continues_then (joint_priority k (ids_of c.args.nodes.now) c.in_ok-id.id) _
    (behind_id k (goal.at.After-owner c).After-number) c.in_ok-priority.ensures

behind_owner : (k : Known) (c : After-successors) → let ids = ids_of c.args.nodes.now in Continues (node k ids)
    (from_successors k ids c.in_ok-id.id c.in_ok-priority.priority c.in_ok-owner.owner) c.args.tokens.now
    c.owner.new.tokens
behind_owner k c = continues_then (joint_owner k (ids_of c.args.nodes.now) c.in_ok-id.id c.in_ok-priority.priority) _
    (behind_priority k (goal.at.After-successors c).After-owner) c.in_ok-owner.ensures.part

behind_list : (k : Known) (c : After-name) → let list = c.successors.new.list.items in
    Done (successors k) c.owner.new.tokens list c.successors.new.tokens → Continues (node k (ids_of c.args.nodes.now))
    (from_name k (ids_of c.args.nodes.now) c.in_ok-id.id c.in_ok-priority.priority c.in_ok-owner.owner list)
    c.args.tokens.now c.successors.new.tokens
behind_list k c done = continues_then (grind (
  arith,
  joint_list k (ids_of c.args.nodes.now) c.in_ok-id.id c.in_ok-priority.priority c.in_ok-owner.owner,
)) _ (behind_owner k (goal.at.After-name c).After-successors) done

abbrev made : After-semicolon → NodeData
made c = record {
  id = c.in_ok-id.id;
  priority = c.in_ok-priority.priority;
  owner = c.in_ok-owner.owner;
  successors = c.successors.new.list.items;
  name = name_bytes c.in_ok-name.name;
}

behind_name : (k : Known) (c : After-semicolon) →
    Done (successors k) c.owner.new.tokens c.successors.new.list.items c.successors.new.tokens → let n = made c in
    Continues (node k (ids_of c.args.nodes.now)) (node_end k (ids_of c.args.nodes.now) n.id n.priority n.owner
    n.successors n.name) c.args.tokens.now c.name.new.tokens
behind_name k c done =
    let n = made c in
    continues_then (joint_name k (ids_of c.args.nodes.now) n.id n.priority n.owner n.successors) _
    (behind_list k (goal.at.After-semicolon c).After-name done) c.in_ok-name.ensures.part

-- ## The exits

pub returns-in_err-id-clause-part : goal.returns-in_err-id-clause-part
unfolding node
returns-in_err-id-clause-part c =
    exit _ _ _ _ _ _ (stops_left (search (rules, joint_id)) _ _ c.in_err-id.ensures.part) c.from_residual.ensures.1

pub returns-in_err-priority-clause-part : goal.returns-in_err-priority-clause-part
returns-in_err-priority-clause-part c =
    let k = option_copied c.args.known in
    grind (
      arith,
      behind_id k (goal.at.returns-in_err-priority-clause-part c).After-number,
      stops_left (joint_priority k (ids_of c.args.nodes.now) c.in_ok-id.id) _ _ c.in_err-priority.ensures,
    )

pub returns-in_err-owner-clause-part : goal.returns-in_err-owner-clause-part
returns-in_err-owner-clause-part c =
    let k = option_copied c.args.known in
    grind (
      arith,
      behind_priority k (goal.at.returns-in_err-owner-clause-part c).After-owner,
      stops_left (joint_owner k
          (ids_of c.args.nodes.now) c.in_ok-id.id c.in_ok-priority.priority) _ _ c.in_err-owner.ensures.part,
    )

pub returns-in_err-successors-clause-part : goal.returns-in_err-successors-clause-part
returns-in_err-successors-clause-part c =
    let k = option_copied c.args.known in
    grind (
      arith,
      behind_owner k (goal.at.returns-in_err-successors-clause-part c).After-successors,
      stops_left (joint_list k (ids_of c.args.nodes.now) c.in_ok-id.id c.in_ok-priority.priority c.in_ok-owner.owner)
          _ _ c.in_err-successors.ensures.part,
    )

pub returns-in_err-name-clause-part : goal.returns-in_err-name-clause-part
returns-in_err-name-clause-part c =
    let k = option_copied c.args.known in
    let b = behind_list k (goal.at.returns-in_err-name-clause-part c).After-name c.in_ok-successors.ensures.part in
    exit _ _ _ _ _ _ (b.stops _ (stops_left (joint_name k (ids_of c.args.nodes.now) c.in_ok-id.id
    c.in_ok-priority.priority c.in_ok-owner.owner c.successors.new.list.items) _ _ c.in_err-name.ensures.part))
    c.from_residual-in_err-name.ensures.1

pub returns-in_err-semicolon-clause-part : goal.returns-in_err-semicolon-clause-part
returns-in_err-semicolon-clause-part c =
    let a = (goal.at.returns-in_err-semicolon-clause-part c).After-semicolon in
    let b = behind_name (option_copied c.args.known) a c.in_ok-successors.ensures.part in
    exit _ _ _ _ _ _ (b.stops _ (stops_mapped (λ _. made a) semicolon _ _ c.in_err-semicolon.ensures))
    c.from_residual-in_err-semicolon.ensures.1

pub returns-clause-part : goal.returns-clause-part
returns-clause-part c =
    let a = (goal.at.returns-clause-part c).After-semicolon in
    (behind_name (option_copied c.args.known) a c.in_ok-successors.ensures.part).done _ _
    (done_mapped (λ _. made a) semicolon _ _ tt c.in_ok-semicolon.ensures)

pub returns-clause-later : goal.returns-clause-later
returns-clause-later c = λ ids each.
    let a = (goal.at.returns-clause-later c).After-semicolon in
    (behind_name (Some ids) a (c.in_ok-successors.ensures.later ids each)).done _ _
    (done_mapped (λ _. made a) semicolon _ _ tt c.in_ok-semicolon.ensures)
