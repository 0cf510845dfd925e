use Rattle.std.proofs.Common.{rules, ◌∙◌}
use Rattle.ps_diagram.proofs.NodeTables.KnownLemmas.{keeps_trans}
use Rattle.ps_diagram.proofs.TreeOperations.Unions.{back_kept, one_truth, union_halves, union_truth}
use Rattle.ps_diagram.proofs.NodeTables.MadeDiagrams.{by-last}
use Rattle.ps_diagram.proofs.store.Store.+union_of.Goals as goal

pub union_of-requires-2 : goal.union_of-requires-2
union_of-requires-2 t c = search (rules, back_kept)

pub either-requires-clause-first_truth : goal.either-requires-clause-first_truth
either-requires-clause-first_truth t c = one_truth c.args.nodes.now _ c.in_ok-other.other
    c.split_at.ensures.front c.split_at.ensures.back c.in_ok-one.ensures.keeps c.in_ok-other.ensures.keeps
    c.in_ok-one.ensures.held c.requires.truths c.in_ok-one.ensures.leaf

pub either-requires-clause-second_truth : goal.either-requires-clause-second_truth
either-requires-clause-second_truth t c = λ letter.
    let truth = union_truth c.union_of.new.self c.split_at.result.1.now letter (search (rules, back_kept)) in
    (truth.0, c.in_ok-other.ensures.leaf letter ∙ truth.1)

pub returns : goal.returns
returns t c = by-last (keeps_trans c.in_ok-one.ensures.keeps c.in_ok-other.ensures.keeps) (λ node h letter. h letter
    ∙ union_halves c.args.nodes.now _ c.in_ok-other.other c.split_at.ensures.front c.split_at.ensures.back
    c.in_ok-one.ensures.keeps c.in_ok-other.ensures.keeps c.in_ok-one.ensures.held c.requires.truths
    c.in_ok-one.ensures.leaf letter (c.in_ok-other.ensures.leaf letter)) c.either.ensures
