use Rattle.std.proofs.Common.{refl, ◌+◌, ◌*◌}
use Rattle.ps_formula.proofs.Bits.{bit_cleared, bit_set, truth_set, word_within}
use Rattle.ps_formula.proofs.rows.Rows.set.Goals as goal

pub returns-then-truth : goal.returns-then-truth
returns-then-truth c =
    let rows = c.args.self.now in
    truth_set _ _ c.args.row c.args.at c.args.truth refl refl refl c.requires.at
    (rw c.if-truth.true (bit_set rows.words.items (c.args.row * rows.width + c.args.at) c.index_mut.result.now
    (word_within rows c.args.row c.args.at c.requires.row c.requires.at) c.index_mut.ensures.value))

pub returns-else-truth : goal.returns-else-truth
returns-else-truth c =
    let rows = c.args.self.now in
    truth_set _ _ c.args.row c.args.at c.args.truth refl refl refl c.requires.at
    (rw c.if-truth.false (bit_cleared rows.words.items (c.args.row * rows.width + c.args.at)
    c.index_mut-else-truth.result.now
    (word_within rows c.args.row c.args.at c.requires.row c.requires.at) c.index_mut-else-truth.ensures.value))
