use Rattle.std.proofs.Common.{sym, ◌≡◌, ◌∙◌, arith, true, ◌+◌}
use Rattle.std.proofs.lemmas.Bool.{eq-eqb}
use Rattle.std.proofs.lemmas.Nat.Bits.{shr_and_one}
use Rattle.ps_label.specs.Truth.{is_in}
use Rattle.ps_diagram.specs.Table.{tree_of}
use Rattle.ps_diagram.proofs.NodeTables.Cells.{keeps_refl}
use Rattle.ps_diagram.proofs.ClassesOfLetters.Dividing.{divided_in, leads_kept}
use Rattle.ps_diagram.proofs.NodeTables.MadeDiagrams.{by-last}
use Rattle.ps_diagram.proofs.store.Store.divided_test.Goals as goal

pub overflow_shr-split : goal.overflow_shr-split
overflow_shr-split c =
    let n = c.requires.leading.named in let m = c.table_is_sound.ensures.few in omega (arith, n, m)

pub returns-then-split-proposition-eq1-clause-made : goal.returns-then-split-proposition-eq1-clause-made
returns-then-split-proposition-eq1-clause-made c =
    let now = c.args.self.now in
    let then = c.test.new.self in
    let k = c.test.ensures.keeps in
    let is : is_in c.args.proposition c.args.split ≡ true =
    eq-eqb _ 1 (sym (shr_and_one c.args.split c.args.proposition) ∙ c.if-split-proposition-eq1.true) in
    by-last (keeps_refl _) (λ made e. divided_in then c.args.split c.args.proposition (c.args.proposition + 1)
    (tree_of now c.args.low) (tree_of now c.args.high) (tree_of then made) is
    (leads_kept k _ _ c.requires.leading.low_leads) (leads_kept k _ _ c.requires.leading.high_leads) e) c.test.ensures

pub returns-clause-made : goal.returns-clause-made
returns-clause-made c = grind (arith, shr_and_one c.args.split c.args.proposition)
