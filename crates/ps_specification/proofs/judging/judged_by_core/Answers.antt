use Rattle.std.proofs.Common.{arith, ap, length, ◌≡◌, map, subst, sym}
use Rattle.std.proofs.lemmas.List.{length-map}
use Rattle.ps_hoa.specs.Memory.{bytes_of}
use Rattle.ps_simulate.specs.Symbols.{AreDistinct}
use Rattle.ps_tlsf.specs.NameViews.{name_data}
use Rattle.ps_tlsf.specs.Names.{Name, names_in}
use Rattle.ps_specification.proofs.judging.judged_by_core.Goals as goal

pub invariant_of-sentence-clause-few : goal.invariant_of-sentence-clause-few
invariant_of-sentence-clause-few c =
    let propositions = c.args.specification.now.propositions.items in
    let same : map bytes_of c.deref-3.result.now ≡ names_in (map name_data propositions) = grind arith in
    omega (
      arith,
      c.requires.roots.few,
      ap length same,
      length-map c.deref-3.result.now bytes_of,
      length-map (map name_data propositions) (λ (n : Name). n.name),
      length-map propositions name_data,
    )

pub invariant_of-sentence-clause-distinct : goal.invariant_of-sentence-clause-distinct
invariant_of-sentence-clause-distinct c =
    let same : map bytes_of c.deref-3.result.now ≡ names_in (map name_data
    c.args.specification.now.propositions.items) = grind arith in
    subst AreDistinct (sym same) c.requires.distinct
