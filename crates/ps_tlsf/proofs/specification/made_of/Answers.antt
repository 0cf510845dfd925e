use Rattle.std.proofs.Common.{List, ap, map, ◌∙◌}
use Rattle.ps_tlsf.specs.Specifications.{section_formula}
use Rattle.ps_tlsf.specs.Trees.{value_of}
use Rattle.ps_tlsf.specs.Wholes.{whole_ops}
use Rattle.ps_tlsf.specs.Inner.StateViews.{written_data}
use Rattle.ps_tlsf.specs.declared.stack.Op.{Op}
use Rattle.ps_tlsf.specs.declared.steps.Written.{Written}
use Rattle.ps_tlsf.proofs.SectionFormulas.Placing.{placed_kept, roots_there}
use Rattle.ps_tlsf.proofs.specification.made_of.Goals as goal

pub returns : goal.returns
returns c =
    let is_strict = c.args.state.heading.is_strict in
    let formulas = placed_kept c.in_ok-formulas.ensures c.in_ok-root.ensures.keeps
    ∙ ap (λ (l : List Written). map section_formula (map written_data l)) c.as_slice.ensures.value in
    let ops = c.as_slice-3.ensures.value ∙ c.in_ok-ops.ensures
    ∙ ap (λ (l : List Written). whole_ops is_strict (map written_data l)) c.as_slice-2.ensures.value in
    let whole = c.in_ok-root.ensures.is ∙ ap (λ (l : List Op). value_of l) ops in
    record {
      meaning = λ i. record {
        title = c.args.state.heading.title;
        names = c.into_list.ensures.names i;
        order = c.order_of.ensures i;
        is_strict = is_strict;
        formulas = formulas i;
        whole = whole i;
      };
      roots = record {
        whole = c.in_ok-root.ensures.within;
        each = roots_there c.in_ok-formulas.ensures c.add_formula.new.table c.in_ok-root.ensures.keeps;
        few = c.into_list.ensures.few;
      };
    }
