use Rattle.std.proofs.Common.{rules, arith, ◌≡◌, ◌++◌, ◌∷◌, [], map, sym}
use Rattle.std.proofs.lemmas.List.{map-append}
use Rattle.ps_label.specs.Expression.{expression}
use Rattle.ps_text.proofs.ParsedAnswers.Exits.{reads_then, reads_mapped}
use Rattle.ps_hoa.specs.Grammar.Header.{with_alias, header_data}
use Rattle.ps_hoa.proofs.Reading.HoaExits.{exit, first, behind, under, value_is}
use Rattle.ps_hoa.proofs.Grammar.ItemForms.{joint_named_label}
use Rattle.ps_hoa.proofs.header.items.alias.Goals as goal

pub returns-in_err-name : goal.returns-in_err-name
returns-in_err-name c = exit _ _ _ _ (first (joint_named_label (header_data c.args.header.now)))
    c.in_err-name.ensures.part c.from_residual.ensures.1

pub returns-in_err-label : goal.returns-in_err-label
returns-in_err-label c = let h = header_data c.args.header.now in
    exit _ _ _ _ (behind (joint_named_label h) c.in_ok-name.ensures.part (search (rules, under))) c.in_err-label.ensures
    c.from_residual-in_err-label.ensures.1

pub returns : goal.returns
returns c = let h = header_data c.args.header.now in
    let names : h.alias_names ++ c.in_ok-name.name.now ∷ [] ≡ c.push.new.self = sym c.in_ok-push.ensures.ok in
    let labels : h.aliases ++ expression c.in_ok-label.label ∷ [] ≡ map expression c.push-2.new.self.items =
    grind (arith, map-append) in
    value_is (λ i. record h { alias_names = names i; aliases = labels i }) (reads_then (joint_named_label h)
    c.in_ok-name.ensures.part (reads_mapped (with_alias h c.in_ok-name.name.now) c.in_ok-label.ensures))
