use Rattle.std.proofs.Common.{◌≡◌, ◌≢◌, ℕ, List, map, ap, sym, ◌∙◌, arith}
use Rattle.std.specs.Option.{option_copied}
use Rattle.std.proofs.lemmas.List.{length-map}
use Rattle.ps_hoa.specs.Memory.{bytes_of}
use Rattle.ps_simulate.specs.Inner.Namings.{ArePlacesOf}
use Rattle.ps_simulate.proofs.NamingLemmas.{apart}
use Rattle.ps_simulate.proofs.naming.Naming.new.Goals as goal

pub returns-clause-some : goal.returns-clause-some
returns-clause-some c =
    let names = map bytes_of c.args.names.now in
    let set = c.args.controllable.now in
    let reads = c.reads_controllable-reads.result in
    let sets = c.sets_controllable-sets.result in
    let at_inputs : map (option_copied {T = List ℕ}) c.deref.result.now ≡ c.args.circuit.now.input_names =
    ap (map (option_copied {T = List ℕ})) c.deref.ensures.value ∙ c.in_ok-symbols.ensures.symbols in
    let at_outputs : map (option_copied {T = List ℕ}) c.deref-2.result.now ≡ c.args.circuit.now.output_names =
    ap (map (option_copied {T = List ℕ})) c.deref-2.ensures.value ∙ c.in_ok-symbols-2.ensures.symbols in
    let a : ArePlacesOf names set reads c.args.circuit.now.input_names c.in-Some.inputs.items = grind arith in
    let b : ArePlacesOf names set sets c.args.circuit.now.output_names c.in-Some-2.outputs.items = grind arith in
    let differ : reads ≢ sets = grind arith in
    let back : sets ≢ reads = λ e. differ (sym e) in
    let size = length-map c.args.names.now bytes_of in
    record {
      few = c.requires.few;
      inputs_size = a.size ∙ size;
      outputs_size = b.size ∙ size;
      inputs_within = λ p k e. let h = a.within p k e in omega (arith, h, c.in_ok-symbols.ensures.each);
      outputs_within = λ p k e. let h = b.within p k e in omega (arith, h, c.in_ok-symbols-2.ensures.each);
      inputs_placed = λ p k s. a.placed p k s;
      outputs_placed = λ p k s. b.placed p k s;
      inputs_alone = λ p k s. apart differ a b s;
      outputs_alone = λ p k s. apart back b a s;
    }
