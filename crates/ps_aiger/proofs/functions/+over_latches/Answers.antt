use Rattle.std.proofs.Common.{◌∙◌, ◌+◌, ◌-◌, ◌*◌, ap, arith, length, sym}
use Rattle.ps_circuit.specs.Gates.{mux_of}
use Rattle.ps_aiger.specs.Inner.Functions.{behaviour_of}
use Rattle.ps_aiger.specs.Inner.Functions.{bit_wanted, code_wanted, literal_at}
use Rattle.ps_circuit.proofs.GatesAndLinks.GateLemmas.{extends-refl, extends-trans}
use Rattle.ps_aiger.proofs.EncodeLemmas.{few_inputs}
use Rattle.ps_aiger.proofs.FunctionLemmas.{few_latches, lower_fits, upper_fits}
use Rattle.ps_aiger.proofs.LetterLemmas.{positive}
use Rattle.ps_aiger.proofs.Making.{as-made, by-choice, fails}
use Rattle.ps_aiger.proofs.WiredLemmas.{choice-above, choice-above_low, choice-made, code-beyond, code-halves}
use Rattle.ps_aiger.proofs.WiredLemmas.{code-zero, made-kept}
use Rattle.ps_aiger.proofs.WireLemmas.{code-extends}
use Rattle.ps_aiger.proofs.functions.+over_latches.Goals as goal

pub overflow_add-code : goal.overflow_add-code
overflow_add-code t c = grind (
  arith,
  upper_fits c.args.latches c.args.code c.if-latches-eq0.false c.requires.fits,
  positive (c.args.latches - 1),
)

pub overflow_shl-latch : goal.overflow_shl-latch
overflow_shl-latch t c = few_latches c.args.latches c.args.code c.if-latches-eq0.false c.requires.fits

pub overflow_cast-variable : goal.overflow_cast-variable
overflow_cast-variable t c =
    grind (arith, few_inputs (behaviour_of c.args.plan.now.machine.now) c.inputs.ensures.machine)

pub overflow_add-variable : goal.overflow_add-variable
overflow_add-variable t c =
    grind (arith, few_inputs (behaviour_of c.args.plan.now.machine.now) c.inputs.ensures.machine)

pub overflow_add-variable-2 : goal.overflow_add-variable-2
overflow_add-variable-2 t c = grind (
  arith,
  few_inputs (behaviour_of c.args.plan.now.machine.now) c.inputs.ensures.machine,
  few_latches c.args.latches c.args.code c.if-latches-eq0.false c.requires.fits,
)

pub positive-requires : goal.positive-requires
positive-requires t c = grind (
  arith,
  few_inputs (behaviour_of c.args.plan.now.machine.now) c.inputs.ensures.machine,
  few_latches c.args.latches c.args.code c.if-latches-eq0.false c.requires.fits,
)

pub over_latches-requires : goal.over_latches-requires
over_latches-requires t c = grind (arith, upper_fits c.args.latches c.args.code c.if-latches-eq0.false c.requires.fits)

pub over_latches-requires-2 : goal.over_latches-requires-2
over_latches-requires-2 t c =
    grind (arith, lower_fits c.args.latches c.args.code c.if-latches-eq0.false c.requires.fits)

pub returns-then-code-memories-clause-makes : goal.returns-then-code-memories-clause-makes
returns-then-code-memories-clause-makes t c =
    let m = c.args.plan.now.machine.now in
    let w = c.args.plan.now.wanted in
    as-made
    (code-beyond m w c.args.latches c.args.code c.node.result
    c.args.builder.now c.memories.ensures.whole c.requires.wanted
    (omega (arith, c.if-code-memories.true, c.memories.ensures.memories)) c.node.ensures.node)
    (extends-refl _) c.over_inputs.ensures.makes

pub returns-then-latches-eq0-clause-makes : goal.returns-then-latches-eq0-clause-makes
returns-then-latches-eq0-clause-makes t c =
    let m = c.args.plan.now.machine.now in
    let w = c.args.plan.now.wanted in
    as-made
    (code-zero m w c.args.latches c.args.code c.node-then-latches-eq0.result
    c.args.builder.now c.memories.ensures.whole c.requires.wanted c.if-latches-eq0.true (grind arith)) (extends-refl _)
    c.over_inputs-then-latches-eq0.ensures.makes

pub returns-in_err-where_true-clause-makes : goal.returns-in_err-where_true-clause-makes
returns-in_err-where_true-clause-makes t c =
    let m = c.args.plan.now.machine.now in
    let w = c.args.plan.now.wanted in
    let lower = code_wanted m w (c.args.latches - 1) c.args.code in
    let whole = code-halves m w c.args.latches c.args.code c.args.builder.now c.if-latches-eq0.false
    c.requires.fits in
    fails c.over_latches.ensures.makes.extends c.in_err-where_true.was c.from_residual.ensures.1 (λ e.
    choice-above _ _ lower _ whole (code-extends (behaviour_of m) (bit_wanted (behaviour_of m) w) _ c.args.code)
    (c.over_latches.ensures.makes.too_large e))

pub returns-in_err-where_false-clause-makes : goal.returns-in_err-where_false-clause-makes
returns-in_err-where_false-clause-makes t c =
    let m = c.args.plan.now.machine.now in
    let w = c.args.plan.now.wanted in
    let lower = code_wanted m w (c.args.latches - 1) c.args.code in
    let whole = code-halves m w c.args.latches c.args.code c.args.builder.now c.if-latches-eq0.false
    c.requires.fits in
    fails (extends-trans _ _ _ c.over_latches.ensures.makes.extends c.over_latches-2.ensures.makes.extends)
    c.in_err-where_false.was c.from_residual-in_err-where_false.ensures.1 (λ e.
    choice-above_low _ _ lower c.over_latches.new.builder _ c.in_ok-where_true.where_true whole
    c.in_ok-where_true.ensures.makes.made (c.over_latches-2.ensures.makes.too_large e))

pub returns-clause-makes : goal.returns-clause-makes
returns-clause-makes t c =
    let m = c.args.plan.now.machine.now in
    let w = c.args.plan.now.wanted in
    let latch = c.args.latches - 1 in
    let lower = code_wanted m w latch c.args.code in
    let whole = code-halves m w c.args.latches c.args.code c.args.builder.now c.if-latches-eq0.false
    c.requires.fits in
    let variable = c.positive.ensures ∙ ap (λ xs. 2 * (length xs + 1 + latch)) c.inputs.ensures.inputs in
    let chosen = choice-made _ _ lower c.over_latches.new.builder c.over_latches-2.new.builder _
    c.in_ok-where_true.where_true c.in_ok-where_false.where_false whole c.in_ok-where_true.ensures.makes.made
    c.in_ok-where_false.ensures.makes.made ∙ ap (λ x. mux_of c.over_latches-2.new.builder x
    c.in_ok-where_true.where_true c.in_ok-where_false.where_false) (sym variable) in
    as-made chosen (extends-trans _ _ _ c.over_latches.ensures.makes.extends c.over_latches-2.ensures.makes.extends)
    (by-choice c.mux.ensures)

pub returns-clause-known_made : goal.returns-clause-known_made
returns-clause-known_made t c =
    let m = c.args.plan.now.machine.now in
    let w = c.args.plan.now.wanted in
    grind (
      arith,
      made-kept m w c.over_latches-2.new.builder c.mux.new.self
          (literal_at c.over_latches-2.new.known) c.mux.ensures.extends c.in_ok-where_false.ensures.known_made,
    )
