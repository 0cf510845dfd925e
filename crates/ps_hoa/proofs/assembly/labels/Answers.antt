-- Each alias of a header uses only aliases that were added before it.
use Rattle.std.proofs.Common.{◌≡◌, ℕ, zero, suc, ◌+◌, ◌<◌, List, [], ◌∷◌, length, get_or, sym, subst, ◌∙◌, arith, rules}
use Rattle.std.proofs.lemmas.List.{map-id}
use Rattle.std.proofs.lemmas.Iterator.Adapters.{YieldsList-from_vec}
use Rattle.std.proofs.lemmas.Iterator.Consumers.{YieldsList-turn, YieldsList-end}
use Rattle.ps_label.specs.Expression.{expression, IsOver, AreOverFrom}
use Rattle.ps_label.specs.Truth.{expressions}
use Rattle.ps_label.specs.declared.label.Label.{Label}
use Rattle.ps_hoa.proofs.assembly.labels.Goals as goal

within_at : (k i : ℕ) (es : List Label) (d : Label) → AreOverFrom k 64 (expressions es) → i < length es →
    IsOver (k + i) 64 (expression (get_or es i d))
within_at k i [] d a l = absurd (omega arith)
within_at k zero (e ∷ es) d a l = let z : k ≡ k + 0 = omega arith in subst (λ m. IsOver m 64 (expression e)) z a.0
within_at k (suc i) (e ∷ es) d a l = grind (arith, within_at (k + 1) i es d a.1 (omega arith))

pub push-requires : goal.push-requires
push-requires c =
    let t = YieldsList-turn (YieldsList-from_vec {s = c.into_iter-alias-iterator.result} c.args.aliases.items
    (search rules) (search (rules, arith))) c.loop-alias.yielded c.loop-alias.alias-iterator c.loop-alias.yielded_by
    c.next.result c.next.new.self c.in-Some.alias c.in-Some.is c.next.ensures.steps in
    grind (arith, within_at 0 (length c.loop-alias.yielded) c.args.aliases.items c.in-Some.alias c.requires t.0)

pub returns : goal.returns
returns c =
    let t = YieldsList-end (YieldsList-from_vec {s = c.into_iter-alias-iterator.result} c.args.aliases.items
    (search rules) (search (rules, arith))) c.loop-alias.yielded c.loop-alias.alias-iterator c.loop-alias.yielded_by
    c.next.result c.next.new.self c.in-None.is c.next.ensures.steps in
    c.loop-alias.invariant ∙ sym (map-id c.loop-alias.yielded) ∙ t.0
