use Rattle.std.proofs.Common.{List, ap, sym, ◌∙◌}
use Rattle.std.specs.Prelude.{position}
use Rattle.std.specs.Str.{bytes_eq}
use Rattle.ps_tlsf.specs.Names.{Name}
use Rattle.ps_tlsf.specs.NameViews.{name_data}
use Rattle.ps_tlsf.specs.declared.names.Proposition.{Proposition}
use Rattle.ps_tlsf.proofs.OutlinedTexts.NameLemmas.{position_map}
use Rattle.ps_tlsf.proofs.names.Names.number.Goals as goal

pub returns-clause-value : goal.returns-clause-value
returns-clause-value c =
    let text = c.args.text.now in
    c.number_among.ensures.value
    ∙ ap (λ (ps : List Proposition). position (λ p. bytes_eq p.name.items text) ps) c.as_slice.ensures.value
    ∙ sym (position_map (λ (n : Name). bytes_eq n.name text) name_data c.self.inside.list.items)
    ∙ ap (λ (ns : List Name). position (λ n. bytes_eq n.name text) ns) c.self.view_is
