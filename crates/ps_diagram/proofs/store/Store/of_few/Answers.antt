use Rattle.std.proofs.Common.{ℕ, IfOk, Err, Ok, Result, sym}
use Rattle.ps_diagram.proofs.TreesFromData.SplitCases.{one_made}
use Rattle.ps_diagram.proofs.store.Store.of_few.Goals as goal

both_ok : {E : Type 0} {P Q R : ℕ → Type 0} (result : Result ℕ E) → ((node : ℕ) → P node → Q node → R node) →
    IfOk result P → IfOk result Q → IfOk result R
both_ok (Ok node) f p q = f node p q
both_ok (Err e) f p q = tt

pub path-requires-clause-hit_constant : goal.path-requires-clause-hit_constant
path-requires-clause-hit_constant c = (_, c.in_ok-leaf.ensures.leaf)

pub returns-clause-made : goal.returns-clause-made
returns-clause-made c = both_ok c.path.result (λ node held path. one_made _ c.in-Some.case.now c.requires.few
    (sym c.in-Some.ensures.value) c.requires.held c.requires.constant c.in_ok-leaf.ensures.keeps c.path.ensures.keeps
    c.in_ok-leaf.ensures.leaf held path) c.path.ensures.held c.path.ensures.leaf
