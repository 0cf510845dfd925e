use Rattle.std.proofs.Common.{◌≡◌, ◌++◌, ap, false, List, map, nat_eq, None, Option, refl, Some, sym, ◌∙◌, ℕ}
use Rattle.std.specs.Prelude.{is_some}
use Rattle.indexmap.specs.IndexMap.{get}
use Rattle.ps_machine.specs.declared.key.Key.TheVariants.{Second}
use Rattle.ps_brief.proofs.BriefArenas.ArenaKeyLists.{keys_added}
use Rattle.ps_brief.proofs.arena.ArenaKeys.add_state.Goals as goal

none_if : (o : Option ℕ) → is_some o ≡ false → o ≡ None
none_if None e = refl
none_if (Some x) e = absurd (cc)

pub returns : goal.returns
returns c = λ listing n p are at. keys_added listing c.args.bases.now c.args.self.now c.add_letters.new.self n
    c.args.state p are at
    (none_if (get nat_eq c.args.self.now.firsts c.args.state)
    (sym c.contains_key-is_known.ensures ∙ c.if-is_known.false)) c.requires
    (c.in_ok-add_letters.ensures.list
    ∙ ap (λ (xs : List ℕ). c.args.self.now.list.items ++ map (λ x. Second c.args.state x) xs) c.letters.ensures)
    (λ r. c.in_ok-add_letters.ensures.firsts.0 r)
