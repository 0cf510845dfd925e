use Rattle.std.proofs.Common.{◌∙◌, ℕ, Bool, List, Option, ap, arith, if◌then◌else◌, rules, subst, sym}
use Rattle.ps_diagram.specs.Table.{Table}
use Rattle.ps_diagram.specs.Views.{SeesTest}
use Rattle.ps_aiger.specs.Inner.Functions.{KnowsMade, behaviour_of, literal_at, node_made}
use Rattle.ps_circuit.specs.Building.{IsHeld}
use Rattle.ps_circuit.proofs.GatesAndLinks.GateLemmas.{extends-refl, extends-trans}
use Rattle.ps_aiger.proofs.FunctionLemmas.{constant_held, held_input}
use Rattle.ps_aiger.proofs.Making.{as-made, by-choice, entry_of, fails, gives, test-chosen, test-split}
use Rattle.ps_aiger.proofs.OverLemmas.{inputs-extends, made-nothing, made-leaf, made-low}
use Rattle.ps_aiger.proofs.WiredLemmas.{choice-above, choice-above_low, made-here, made-kept, made-more}
use Rattle.ps_aiger.proofs.functions.+over_inputs.Goals as goal

pub mux-requires : goal.mux-requires
mux-requires t c =
    let m = c.args.plan.now.machine.now in
    let given = c.over_inputs-in-Test-2.ensures.makes.extends.given ∙ c.over_inputs-in-Test.ensures.makes.extends.given
    in
    let chooses : IsHeld c.over_inputs-in-Test-2.new.builder c.in-Some.input =
    held_input c.over_inputs-in-Test-2.new.builder (behaviour_of m).inputs c.in-Test.proposition
    c.in-Some.input (entry_of m c.args.node c.in-Test.proposition c.in-Test.low c.in-Test.high
    c.store.ensures.store c.in-Test.ensures c.requires.inputs _ c.in-Some.is) (rw given c.requires.given) in
    search (rules, chooses)

pub returns-in-Nothing-clause-makes : goal.returns-in-Nothing-clause-makes
returns-in-Nothing-clause-makes t c = gives (omega arith) (search (rules, made-nothing))

pub returns-in-Leaf-clause-makes : goal.returns-in-Leaf-clause-makes
returns-in-Leaf-clause-makes t c =
    let m = c.args.plan.now.machine.now in
    let w = c.args.plan.now.wanted in
    gives (rw c.constant.ensures (constant_held _ _))
    (made-leaf m w c.args.node c.in-Leaf.leaf c.constant.result c.args.builder.now
    (search (rules, c.store.ensures.store, c.in-Leaf.ensures))
    (c.constant.ensures ∙ ap (λ (b : Bool). if b then 1 else 0) c.bit.ensures))

pub returns-in_default-clause-makes : goal.returns-in_default-clause-makes
returns-in_default-clause-makes t c =
    let m = c.args.plan.now.machine.now in
    let w = c.args.plan.now.wanted in
    let sees = subst (λ (s : Table). SeesTest s c.args.node c.in-Test.proposition c.in-Test.low c.in-Test.high)
    c.store.ensures.store c.in-Test.ensures in
    let none = entry_of m c.args.node c.in-Test.proposition c.in-Test.low c.in-Test.high c.store.ensures.store
    c.in-Test.ensures c.requires.inputs _ c.in_default.is in
    as-made (made-low m w c.args.node c.in-Test.proposition c.in-Test.low c.in-Test.high
    c.args.builder.now c.store.ensures.machine sees none) (extends-refl _) c.over_inputs.ensures.makes

pub returns-in-Some-get-clause-makes : goal.returns-in-Some-get-clause-makes
returns-in-Some-get-clause-makes t c =
    let there = c.requires.known_made c.args.node c.in-Some-get.literal (sym c.in-Some-get.ensures) in
    gives there.held there.made

pub returns-in_err-where_true-in-Test-clause-makes : goal.returns-in_err-where_true-in-Test-clause-makes
returns-in_err-where_true-in-Test-clause-makes t c =
    let m = c.args.plan.now.machine.now in
    let w = c.args.plan.now.wanted in
    let whole = test-split m w c.args.node c.in-Test.proposition c.in-Test.low c.in-Test.high
    c.args.builder.now c.store.ensures.machine c.store.ensures.store c.in-Test.ensures c.requires.inputs _
    c.in-Some.is in
    fails c.over_inputs-in-Test.ensures.makes.extends c.in_err-where_true-in-Test.was c.from_residual.ensures.1 (λ e.
    choice-above _ _ (node_made m w c.in-Test.low) _ whole
    (inputs-extends m w c.in-Test.low) (c.over_inputs-in-Test.ensures.makes.too_large e))

pub returns-in_err-where_false-in-Test-clause-makes : goal.returns-in_err-where_false-in-Test-clause-makes
returns-in_err-where_false-in-Test-clause-makes t c =
    let m = c.args.plan.now.machine.now in
    let w = c.args.plan.now.wanted in
    let whole = test-split m w c.args.node c.in-Test.proposition c.in-Test.low c.in-Test.high
    c.args.builder.now c.store.ensures.machine c.store.ensures.store c.in-Test.ensures c.requires.inputs _
    c.in-Some.is in
    let before = extends-trans _ _ _ c.over_inputs-in-Test.ensures.makes.extends
    c.over_inputs-in-Test-2.ensures.makes.extends in
    fails before c.in_err-where_false-in-Test.was c.from_residual-in_err-where_false-in-Test.ensures.1 (λ e.
    choice-above_low _ _ (node_made m w c.in-Test.low) c.over_inputs-in-Test.new.builder _
    c.in_ok-where_true-in-Test.where_true whole c.in_ok-where_true-in-Test.ensures.makes.made
    (c.over_inputs-in-Test-2.ensures.makes.too_large e))

pub returns-in_err-literal-in-Test-clause-makes : goal.returns-in_err-literal-in-Test-clause-makes
returns-in_err-literal-in-Test-clause-makes t c =
    let m = c.args.plan.now.machine.now in
    let w = c.args.plan.now.wanted in
    let chosen = test-chosen m w c.args.node c.in-Test.proposition c.in-Test.low c.in-Test.high
    c.args.builder.now c.store.ensures.machine c.store.ensures.store c.in-Test.ensures c.requires.inputs _
    c.in-Some.is c.in_ok-where_true-in-Test.ensures.makes.made
    c.in_ok-where_false-in-Test.ensures.makes.made in
    let before = extends-trans _ _ _ c.over_inputs-in-Test.ensures.makes.extends
    c.over_inputs-in-Test-2.ensures.makes.extends in
    let all = as-made chosen before (by-choice c.mux.ensures) in
    fails all.extends c.in_err-literal-in-Test.was c.from_residual-in_err-literal-in-Test.ensures.1 all.too_large

pub returns-in_ok-literal-in-Test-clause-makes : goal.returns-in_ok-literal-in-Test-clause-makes
returns-in_ok-literal-in-Test-clause-makes t c =
    let m = c.args.plan.now.machine.now in
    let w = c.args.plan.now.wanted in
    let chosen = test-chosen m w c.args.node c.in-Test.proposition c.in-Test.low c.in-Test.high
    c.args.builder.now c.store.ensures.machine c.store.ensures.store c.in-Test.ensures c.requires.inputs _
    c.in-Some.is c.in_ok-where_true-in-Test.ensures.makes.made
    c.in_ok-where_false-in-Test.ensures.makes.made in
    let before = extends-trans _ _ _ c.over_inputs-in-Test.ensures.makes.extends
    c.over_inputs-in-Test-2.ensures.makes.extends in
    as-made chosen before (by-choice c.in_ok-literal-in-Test.ensures)

pub returns-in_ok-literal-in-Test-clause-known_made : goal.returns-in_ok-literal-in-Test-clause-known_made
returns-in_ok-literal-in-Test-clause-known_made t c =
    let m = c.args.plan.now.machine.now in
    let w = c.args.plan.now.wanted in
    let chosen = test-chosen m w c.args.node c.in-Test.proposition c.in-Test.low c.in-Test.high
    c.args.builder.now c.store.ensures.machine c.store.ensures.store c.in-Test.ensures c.requires.inputs _
    c.in-Some.is c.in_ok-where_true-in-Test.ensures.makes.made
    c.in_ok-where_false-in-Test.ensures.makes.made in
    let kept = made-kept m w c.over_inputs-in-Test-2.new.builder c.mux.new.self
    (literal_at c.over_inputs-in-Test-2.new.known) c.mux.ensures.extends
    c.in_ok-where_false-in-Test.ensures.known_made in
    let here = made-here m w c.args.builder.now c.mux.new.self c.args.node c.in_ok-literal-in-Test.literal
    c.in_ok-literal-in-Test.ensures.held (chosen ∙ c.in_ok-literal-in-Test.ensures.made) in
    subst (λ (known : List (Option ℕ)). KnowsMade m w c.mux.new.self (literal_at known)) (sym c.put.ensures)
    (made-more m w c.mux.new.self c.over_inputs-in-Test-2.new.known c.args.node c.in_ok-literal-in-Test.literal kept
    here)
