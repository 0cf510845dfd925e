use Rattle.std.proofs.Common.{ap, sym}
use Rattle.std.specs.Prelude.{ℕ, List, slice_index_or}
use Rattle.ps_diagram.proofs.NodeTables.KnownLemmas.{keeps_trans}
use Rattle.ps_brief.proofs.DraftedMoves.DraftsMade.{ready_kept}
use Rattle.ps_brief.proofs.DrawnMachines.PairedNodes.{draft_at, is_drafted, kept_within, next_paired}
use Rattle.ps_brief.proofs.parts.paired_nodes.Goals as goal

pub step_at-state-requires : goal.step_at-state-requires
step_at-state-requires c =
    let i = c.loop-place.place-index in
    let items = c.deref-place-items.ensures.value in
    kept_within c.args.plan.now c.args.reached.now c.requires.drawable.reached c.args.memories.now c.requires.drawable.memories i
    (slice_index_or c.deref-place-items.result.now i 0) (rw items at c.loop-place-test.true)
    (ap (λ (xs : List ℕ). slice_index_or xs i 0) items)

pub unreachable-requires : goal.unreachable-requires
unreachable-requires c =
    let i = c.loop-place.place-index in
    let items = c.deref-place-items.ensures.value in
    is_drafted c.args.plan.now c.args.reached.now c.requires.drawable.reached c.args.memories.now c.requires.drawable.memories i
    (slice_index_or c.deref-place-items.result.now i 0) (rw items at c.loop-place-test.true)
    (ap (λ (xs : List ℕ). slice_index_or xs i 0) items) c.step_at-state.result.state c.step_at-state.result.priority
    c.step_at-state.ensures (rw c.anchor.ensures at c.in_default.ensures.value)

pub numbered-requires : goal.numbered-requires
numbered-requires c =
    let i = c.loop-place.place-index in
    let items = c.deref-place-items.ensures.value in
    let has = draft_at c.args.plan.now c.args.reached.now c.requires.drawable.reached c.args.memories.now c.requires.drawable.memories i
    (slice_index_or c.deref-place-items.result.now i 0) (rw items at c.loop-place-test.true)
    (ap (λ (xs : List ℕ). slice_index_or xs i 0) items) c.loop-place.invariant.keeps c.step_at-state.result.state
    c.step_at-state.result.priority c.step_at-state.ensures c.in-Some.draft.now
    (sym (rw c.anchor.ensures at c.in-Some.ensures.value)) in
    has.is_draft.heeds.steps_held

pub returns-in_err-push-clause-keeps : goal.returns-in_err-push-clause-keeps
returns-in_err-push-clause-keeps c = keeps_trans c.loop-place.invariant.keeps c.in_ok-numbered.ensures.made.keeps

pub loop-place-preserved : goal.loop-place-preserved
loop-place-preserved c =
    let plan = c.args.plan.now in
    let i = c.loop-place.place-index in
    let v = slice_index_or c.deref-place-items.result.now i 0 in
    let items = c.deref-place-items.ensures.value in
    let is_kept = ap (λ (xs : List ℕ). slice_index_or xs i 0) items in
    let inv = c.loop-place.invariant in
    let made = c.in_ok-numbered.ensures.made in
    let draft = c.in-Some.draft.now in
    let has = draft_at plan c.args.reached.now c.requires.drawable.reached c.args.memories.now c.requires.drawable.memories i v
    (rw items at c.loop-place-test.true) is_kept inv.keeps c.step_at-state.result.state
    c.step_at-state.result.priority c.step_at-state.ensures draft
    (sym (rw c.anchor.ensures at c.in-Some.ensures.value)) in
    record {
      keeps = keeps_trans inv.keeps made.keeps;
      paired = next_paired plan (ready_kept plan inv.keeps c.requires.drawable.ready) made.keeps c.args.reached.now v has
          c.loop-place.pairs.keys c.numbered.new.pairs.keys c.in_ok-numbered.ensures.adds c.args.memories.now.kept.items
          c.loop-place.nodes.items c.push.new.self.items i c.in_ok-numbered.field-0 is_kept c.in_ok-push.ensures.items
          made.held made.leaf inv.paired;
    }
