use Rattle.std.proofs.Common.{◌∙◌, ◌<◌, arith, length, sym, subst, rules}
use Rattle.std.proofs.lemmas.Option.{slice_get-get_or}
use Rattle.ps_circuit.specs.Building.{HasTooMany}
use Rattle.ps_aiger.specs.Wires.{Wired}
use Rattle.ps_circuit.proofs.GatesAndLinks.GateLemmas.{extends-trans, passed_on}
use Rattle.ps_aiger.proofs.WiredLemmas.{wired-step, wired-above, wired-end}
use Rattle.ps_aiger.proofs.encoding.literals_of.Goals as goal

pub loop-bit-preserved : goal.loop-bit-preserved
loop-bit-preserved c =
    let before = c.loop-bit.invariant in
    let within : c.loop-bit.bit-index < length c.args.wanted.now = omega arith in
    record {
      extends = extends-trans _ _ _ before.extends c.literal_of.ensures.extends;
      made = before.made ∙ wired-step c.args.machine.now c.args.latches c.loop-bit.bit-index c.in_ok-literal.literal
          c.args.wanted.now _ c.loop-bit.builder c.literal_of.new.builder c.loop-bit.literals.items
          c.push.new.self.items within (slice_get-get_or c.args.wanted.now c.loop-bit.bit-index _ within) c.in_ok-literal.ensures.made
          c.in_ok-push.ensures.items;
    }

pub returns : goal.returns
returns c = grind (arith, wired-end)

pub returns-in_err-literal : goal.returns-in_err-literal
returns-in_err-literal c =
    let before = c.loop-bit.invariant in
    let within : c.loop-bit.bit-index < length c.args.wanted.now = omega arith in
    record {
      extends = extends-trans _ _ _ before.extends c.literal_of.ensures.extends;
      made = search rules;
      too_large = λ e. subst (λ (n : Wired). HasTooMany n.draft) (sym before.made)
          (wired-above c.args.machine.now c.args.latches c.loop-bit.bit-index c.args.wanted.now _ c.loop-bit.builder
          c.loop-bit.literals.items within (slice_get-get_or c.args.wanted.now c.loop-bit.bit-index _ within)
          (c.literal_of.ensures.too_large (passed_on c.in_err-literal.was c.from_residual-in_err-literal.ensures.1 e)));
    }
