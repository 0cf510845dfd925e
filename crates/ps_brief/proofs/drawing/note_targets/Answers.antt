use Rattle.std.proofs.Common.{◌<◌, arith, length, refl, sym}
use Rattle.std.proofs.lemmas.Option.{slice_get_read, slice_get_within}
use Rattle.ps_machine.specs.Numbering.{StandsAt}
use Rattle.ps_machine.specs.declared.key.Key.TheVariants.{First}
use Rattle.ps_brief.specs.Listings.{listed_keys}
use Rattle.ps_brief.proofs.DraftedMoves.NotedLeaves.{has_targets, noted_at, notes_set, notes_skipped}
use Rattle.ps_brief.proofs.drawing.note_targets.Goals as goal
use Rattle.ps_brief.proofs.drawing.note_targets.Goals.{in-Some-place_of, in_default-place_of}

pub returns-in_default-clause-noted : goal.returns-in_default-clause-noted
returns-in_default-clause-noted c setting t n p listing stands noted =
    absurd (has_targets setting c.args.listing.now listing n c.args.state p stands c.in_default.ensures.value)

pub loop-target-preserved : goal.loop-target-preserved
loop-target-preserved c =
    let keys = listed_keys c.args.listing.now in
    let targets = c.deref-target-items.result.now in
    let i = c.loop-target.target-index in
    let target = c.target-item.result in
    let here = slice_get_read targets (length targets) i target refl c.loop-target-test.true c.target-item.is in
    let notes = c.loop-target.invariant in
    elim c.match-place_of.branch [
      | in-Some-place_of w ↦
          let place = w.in-Some-place_of.place in
          let stands : StandsAt keys place (First target.state target.priority) = w.in-Some-place_of.ensures in
          let listed = slice_get_within keys place (First target.state target.priority) stands in
          let within : place < length c.loop-target.leaves.items =
          omega (arith, listed, notes.count, c.requires) in
          rw w.leaves-is (notes_set keys targets i target here c.args.leaves.now.items c.loop-target.leaves.items notes
          place stands within _ refl)
      | in_default-place_of w ↦ rw w.leaves-is (notes_skipped keys targets i target here c.args.leaves.now.items
          c.loop-target.leaves.items notes w.in_default-place_of.ensures)
    ]

pub returns-clause-noted : goal.returns-clause-noted
returns-clause-noted c setting t n p listing stands noted =
    let targets = c.in-Some.targets.now in
    let notes = rw c.deref-target-items.ensures.value at c.loop-target.invariant in
    noted_at setting c.args.listing.now listing n c.args.state p stands targets (sym c.in-Some.ensures.value)
    c.loop-target.target-index
    (omega (arith, c.loop-target-test.false, c.deref-target-items.ensures.len))
    c.args.leaves.now.items c.loop-target.leaves.items notes noted
