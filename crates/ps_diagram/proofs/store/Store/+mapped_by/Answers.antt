use Rattle.std.proofs.Common.{sym, ℕ, nat_eq, Bool, true, false, rules, arith}
use Rattle.std.specs.Option.{option_copied, unwrap_or}
use Rattle.ps_diagram.specs.Inner.Kept.{result_for}
use Rattle.ps_diagram.specs.Tree.{leaf_at}
use Rattle.ps_diagram.specs.Table.{tree_of}
use Rattle.ps_diagram.specs.Inner.Known.{IsMapped}
use Rattle.ps_diagram.proofs.Sides.{sides_of_test}
use Rattle.ps_diagram.proofs.NodeTables.KnownLemmas.{keeps_trans, kept, read_keeps, knows_kept, knows_more}
use Rattle.ps_diagram.proofs.TreeOperations.Mapping.{mapped_blind, mapped_sides, on_side}
use Rattle.ps_diagram.proofs.NodeTables.MadeDiagrams.{fails, gives}
use Rattle.ps_diagram.proofs.store.Store.+mapped_by.Goals as goal

pub returns-in-Some-clause-made : goal.returns-in-Some-clause-made
returns-in-Some-clause-made g t c =
    let r = c.requires.known c.args.node c.in-Some.changed (sym c.in-Some.ensures) in gives r.1 r.2

pub changed-requires : goal.changed-requires
changed-requires g t c = rw c.in-Nothing.ensures.part at (c.requires.fits.fits (λ _. false))

pub changed-requires-in-Leaf : goal.changed-requires-in-Leaf
changed-requires-in-Leaf g t c = rw c.in-Leaf.ensures.part at (c.requires.fits.fits (λ _. false))

pub mapped_by-requires : goal.mapped_by-requires
mapped_by-requires g t c = λ κs b.
    let s = sides_of_test c.in-Test.ensures.part in (
      search rules,
      (
        search rules,
        (
          record {
            held = s.low_held;
            few = c.requires.fits.few;
            fits = on_side (λ x. g.R.LeafRule.fits c.args.rule.now x) false s c.requires.fits.fits;
          },
          c.requires.known,
        ),
      ),
    )

pub mapped_by-requires-in-Test : goal.mapped_by-requires-in-Test
mapped_by-requires-in-Test g t c = λ κs b.
    let s = sides_of_test c.in-Test.ensures.part in
    let k = c.mapped_by.ensures.made.keeps in
    let j = read_keeps (option_copied c.args.other) k in (
      search rules,
      (
        search rules,
        (
          record {
            held = j.held _ s.high_held;
            few = omega (arith, j.propositions, k.propositions, c.requires.fits.few);
            fits = kept (λ u. (f : ℕ → Bool) → g.R.LeafRule.fits c.args.rule.now (leaf_at u f)) j s.high_held
                (on_side (λ x. g.R.LeafRule.fits c.args.rule.now x) true s c.requires.fits.fits);
          },
          c.mapped_by.ensures.known,
        ),
      ),
    )

pub test-requires-clause-low_later : goal.test-requires-clause-low_later
test-requires-clause-low_later g t c = grind (arith, kept, mapped_blind, sides_of_test)

pub test-requires-clause-high_later : goal.test-requires-clause-high_later
test-requires-clause-high_later g t c = grind (arith, sides_of_test, mapped_blind, kept, read_keeps)

pub test-requires-clause-named : goal.test-requires-clause-named
test-requires-clause-named g t c = grind arith

pub returns-in_err-changed-in-Test-clause-made : goal.returns-in_err-changed-in-Test-clause-made
returns-in_err-changed-in-Test-clause-made g t c = fails (search (rules, keeps_trans)) (search rules)

pub returns-in_err-put-in-Test-clause-made : goal.returns-in_err-put-in-Test-clause-made
returns-in_err-put-in-Test-clause-made g t c = fails (search (rules, keeps_trans)) (search rules)

pub returns-in_ok-put-in-Test-clause-made : goal.returns-in_ok-put-in-Test-clause-made
returns-in_ok-put-in-Test-clause-made g t c =
    mapped_sides (g.R.LeafRule.rule c.args.rule.now) (option_copied c.args.other) (sides_of_test c.in-Test.ensures.part)
    c.in_ok-low-in-Test.ensures.made c.in_ok-high-in-Test.ensures.made c.in_ok-changed-in-Test.ensures

pub returns-in_ok-put-in-Test-clause-known : goal.returns-in_ok-put-in-Test-clause-known
returns-in_ok-put-in-Test-clause-known g t c =
    let rule = g.R.LeafRule.rule c.args.rule.now in
    let other = option_copied c.args.other in
    let mid = c.mapped_by-in-Test.new.self in
    let last = c.test.new.self in
    let made = returns-in_ok-put-in-Test-clause-made g t c in
    let j = read_keeps other made.keeps in
    knows_more (IsMapped rule) (unwrap_or other last) last (result_for nat_eq c.mapped_by-in-Test.new.known.table) (result_for nat_eq
    c.put.new.self.table) c.put.ensures.put (knows_kept (IsMapped rule) (unwrap_or other mid)
    (unwrap_or other last) mid last (result_for nat_eq c.mapped_by-in-Test.new.known.table) (read_keeps other c.test.ensures.keeps)
    c.test.ensures.keeps c.mapped_by-in-Test.ensures.known) (j.held c.args.node c.requires.fits.held)
    c.in_ok-changed-in-Test.ensures.held (kept (λ u. IsMapped rule u (tree_of last c.in_ok-changed-in-Test.changed)) j
    c.requires.fits.held made.leaf)
