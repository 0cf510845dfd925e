use Rattle.std.proofs.lemmas.Grind.{common_steps}
use Rattle.std.proofs.Common.{◌<◌, arith, length}
use Rattle.ps_aiger.specs.Inner.Functions.{behaviour_of}
use Rattle.ps_aiger.proofs.EncodeLemmas.{symbol_more}
use Rattle.ps_aiger.proofs.encoding.symbols.Goals as goal

pub loop-proposition-preserved : goal.loop-proposition-preserved
loop-proposition-preserved c =
    let ps = c.args.propositions.now in
    let i = c.loop-proposition.proposition-index in
    let within : i < length ps = omega arith in
    symbol_more (behaviour_of c.args.machine.now).names c.names.result.now ps i c.loop-proposition.names.items
    c.push.new.self.items
    c.index-names-proposition.result c.in_ok-name.name c.names.ensures.names within (c.requires i 0 within)
    c.index-names-proposition.is (grind arith) c.in_ok-push.ensures.items c.loop-proposition.invariant

pub bounds-names-proposition : goal.bounds-names-proposition
bounds-names-proposition c = grind (arith, common_steps)

pub returns : goal.returns
returns c = grind (arith, common_steps)
