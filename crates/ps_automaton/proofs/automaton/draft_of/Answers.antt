use Rattle.std.proofs.Common.{arith, ◌≡◌, false, Some}
use Rattle.std.proofs.lemmas.Result.{IfErr-weaker, IfOk-weaker}
use Rattle.ps_automaton.specs.Answers.{IsAdmitted}
use Rattle.ps_automaton.specs.Chains.{chain_of, has_complement}
use Rattle.ps_automaton.specs.Inner.Drafts.{IsDraft}
use Rattle.ps_automaton.specs.Inner.Numbering.{AreSetsBelow}
use Rattle.ps_automaton.specs.Inner.Views.{chain_data}
use Rattle.ps_automaton.specs.declared.draft.Draft.{Draft}
use Rattle.ps_automaton.proofs.StepsByState.Building.{draft_is_deterministic, draft_refused}
use Rattle.ps_automaton.proofs.ChainsOfSets.ChainSets.{chain_sets_below}
use Rattle.ps_automaton.proofs.automaton.draft_of.Goals as goal
use Rattle.ps_automaton.proofs.automaton.draft_of.Goals.{In-Some}

-- the chain that the code computes is the chain of the file's acceptance condition
chain_is : (c : In-Some) → chain_of c.args.file.now.condition ≡ Some (chain_data c.in-Some.chain)
chain_is c = grind arith

no_complement : (c : In-Some) → has_complement c.args.file.now.condition ≡ false
no_complement c = grind arith

few_sets : (c : In-Some) → AreSetsBelow 64 (chain_data c.in-Some.chain).links
few_sets c =
    let sound = c.condition.ensures.well_formed in
    chain_sets_below c.args.file.now.sets c.args.file.now.condition sound.sets sound.condition (chain_is c)

pub table_of-numbers-requires : goal.table_of-numbers-requires
table_of-numbers-requires c = few_sets (goal.at.table_of-numbers-requires c).In-Some

pub invariant_of-drafted : goal.invariant_of-drafted
invariant_of-drafted c =
    record { few = few_sets (goal.at.invariant_of-drafted c).In-Some; table = c.table_of-numbers.ensures }

pub returns-clause-refused : goal.returns-clause-refused
returns-clause-refused c =
    let file = c.args.file.now in
    let a = (goal.at.returns-clause-refused c).In-Some in
    grind (arith, IfErr-weaker, draft_refused, no_complement, chain_is)

pub returns-clause-admitted : goal.returns-clause-admitted
returns-clause-admitted c =
    let file = c.args.file.now in
    let chain = chain_data c.in-Some.chain in
    let a = (goal.at.returns-clause-admitted c).In-Some in
    let IsDrafted : Draft → Type 0 = λ d. IsDraft file chain d.pairs.steps d.pairs.store d.nodes.items in
    IfOk-weaker c.drafted.result IsDrafted (λ d. IsAdmitted file) (λ d drafted. record {
      plain = no_complement a;
      chain = chain;
      is_chain = chain_is a;
      deterministic = draft_is_deterministic c.condition.ensures.well_formed drafted;
    }) c.drafted.ensures.draft

pub returns-clause-draft : goal.returns-clause-draft
returns-clause-draft c = grind (arith, chain_is, IfOk-weaker)
