use Rattle.std.proofs.Common.{◌≡◌, ℕ, ◌<◌, List, length, arith, rules}
use Rattle.ps_certificate.specs.Sparse.{dense_row, IsRow, place_at}
use Rattle.ps_game.specs.declared.nonzero.NonzeroCount.{NonzeroCount}
use Rattle.ps_certificate.proofs.Rereading.StoredPairs.{pairs_stored, row_words}
use Rattle.ps_certificate.proofs.SparseRows.Sparse.{length-counts_from, place_within}
use Rattle.ps_certificate.proofs.writer.write_pairs.Goals as goal

pub loop-number-init : goal.loop-number-init
loop-number-init c =
    grind (
      arith,
      length-counts_from c.counts.inside.placed.list.now c.counts.inside.width 0,
      pairs_stored c.args.priorities.now c.counts.inside.placed.list.now c.counts.inside.width,
    )

-- there is a priority for the index of each stored count
place_fits : (placed : List NonzeroCount) (width i : ℕ) {row : List ℕ} (ps : List ℕ) → dense_row width placed ≡ row →
    length row ≡ length ps → IsRow width placed → i < length placed → place_at placed i < length ps
place_fits placed width i ps is each is_row within =
    grind (arith, length-counts_from placed width 0, place_within 0 width placed i is_row within)

pub bounds-priorities-place : goal.bounds-priorities-place
bounds-priorities-place c = search (rules, place_fits)

pub offset_bounds-priorities-place : goal.offset_bounds-priorities-place
offset_bounds-priorities-place c = grind (arith, place_fits)

pub returns-clause-words : goal.returns-clause-words
returns-clause-words c = rw (← c.counts.view_is) (row_words c.counts.inside.placed.list.now c.counts.inside.width
    c.loop-number.number c.loop-number.invariant.words c.loop-number-test.false)
