use Rattle.std.proofs.Common.{◌∙◌, ap, refl, sym}
use Rattle.std.specs.Prelude.{ℕ, List, slice_index_or}
use Rattle.ps_diagram.proofs.NodeTables.Cells.{keeps_refl}
use Rattle.ps_diagram.proofs.NodeTables.KnownLemmas.{keeps_trans}
use Rattle.ps_brief.proofs.DrawnMachines.MachineDrawn.{bits_nodes, bits_within, one_more_copied}
use Rattle.ps_brief.proofs.DrawnMachines.PairedNodes.{draft_at, is_drafted, kept_within}
use Rattle.ps_brief.proofs.parts.copied_bits.Goals as goal

pub step_at-state-requires : goal.step_at-state-requires
step_at-state-requires c =
    let i = c.loop-place.place-index in
    let items = c.deref-place-items.ensures.value in
    kept_within c.args.plan.now c.args.reached.now c.requires.drawable.reached c.args.memories.now c.requires.drawable.memories i
    (slice_index_or c.deref-place-items.result.now i 0) (rw items at c.loop-place-test.true)
    (ap (λ (xs : List ℕ). slice_index_or xs i 0) items)

pub unreachable-requires : goal.unreachable-requires
unreachable-requires c =
    let i = c.loop-place.place-index in
    let items = c.deref-place-items.ensures.value in
    is_drafted c.args.plan.now c.args.reached.now c.requires.drawable.reached c.args.memories.now c.requires.drawable.memories i
    (slice_index_or c.deref-place-items.result.now i 0) (rw items at c.loop-place-test.true)
    (ap (λ (xs : List ℕ). slice_index_or xs i 0) items) c.step_at-state.result.state c.step_at-state.result.priority
    c.step_at-state.ensures (rw c.anchor.ensures at c.in_default.ensures.value)

pub relabelled-requires-clause-letters : goal.relabelled-requires-clause-letters
relabelled-requires-clause-letters c = c.requires.letters ∙ sym c.loop-place.invariant.keeps.propositions

pub relabelled-requires-clause-held : goal.relabelled-requires-clause-held
relabelled-requires-clause-held c =
    let i = c.loop-place.place-index in
    let v = slice_index_or c.deref-place-items.result.now i 0 in
    let items = c.deref-place-items.ensures.value in
    let is_kept = ap (λ (xs : List ℕ). slice_index_or xs i 0) items in
    let has = draft_at c.args.plan.now c.args.reached.now c.requires.drawable.reached c.args.memories.now c.requires.drawable.memories i v
    (rw items at c.loop-place-test.true) is_kept (keeps_refl c.args.store.now) c.step_at-state.result.state
    c.step_at-state.result.priority c.step_at-state.ensures c.in-Some.draft.now
    (sym (rw c.anchor.ensures at c.in-Some.ensures.value)) in
    rw c.deref.ensures.value (bits_nodes c.args.store.now c.in-Some.draft.now.bits.items has.is_draft.heeds.bits_held)

pub relabelled-requires-clause-within : goal.relabelled-requires-clause-within
relabelled-requires-clause-within c =
    let i = c.loop-place.place-index in
    let v = slice_index_or c.deref-place-items.result.now i 0 in
    let items = c.deref-place-items.ensures.value in
    let is_kept = ap (λ (xs : List ℕ). slice_index_or xs i 0) items in
    let has = draft_at c.args.plan.now c.args.reached.now c.requires.drawable.reached c.args.memories.now c.requires.drawable.memories i v
    (rw items at c.loop-place-test.true) is_kept (keeps_refl c.args.store.now) c.step_at-state.result.state
    c.step_at-state.result.priority c.step_at-state.ensures c.in-Some.draft.now
    (sym (rw c.anchor.ensures at c.in-Some.ensures.value)) in
    rw c.deref.ensures.value
    (λ k d less x. bits_within c.args.store.now c.in-Some.draft.now.bits.items has.is_draft.heeds.bits_held k d less x)

pub returns-in_err-push-clause-keeps : goal.returns-in_err-push-clause-keeps
returns-in_err-push-clause-keeps c = keeps_trans c.loop-place.invariant.keeps c.relabelled.ensures.keeps

pub loop-place-preserved : goal.loop-place-preserved
loop-place-preserved c =
    let i = c.loop-place.place-index in
    let v = slice_index_or c.deref-place-items.result.now i 0 in
    let items = c.deref-place-items.ensures.value in
    let is_kept = ap (λ (xs : List ℕ). slice_index_or xs i 0) items in
    let has = draft_at c.args.plan.now c.args.reached.now c.requires.drawable.reached c.args.memories.now c.requires.drawable.memories i v
    (rw items at c.loop-place-test.true) is_kept (keeps_refl c.args.store.now) c.step_at-state.result.state
    c.step_at-state.result.priority c.step_at-state.ensures c.in-Some.draft.now
    (sym (rw c.anchor.ensures at c.in-Some.ensures.value)) in
    let inv = c.loop-place.invariant in
    let keeps = c.relabelled.ensures.keeps in
    record {
      keeps = keeps_trans inv.keeps keeps;
      copied = one_more_copied c.args.plan.now c.args.reached.now v has _ c.in_ok-relabelled.field-0.items
          (rw c.deref.ensures.value at c.in_ok-relabelled.ensures.relabelled) keeps c.args.memories.now.kept.items i
          is_kept c.in_ok-relabelled.field-0 refl c.loop-place.all.items c.push.new.self.items
          c.in_ok-push.ensures.items inv.copied;
    }
