use Rattle.std.proofs.Common.{◌≡◌, true, false, length, arith, ap}
use Rattle.std.specs.Prelude.{Result, Ok, Err, IfOk}
use Rattle.ps_hoa.specs.Files.{is_among}
use Rattle.ps_mixing.specs.Inner.Merging.{is_by, owned_below}
use Rattle.ps_mixing.proofs.MovedPropositions.MergedOrders.{merged_by, owned_few}
use Rattle.ps_mixing.proofs.order.even_list.Goals as goal

if_ok : {X E : Type 0} (P Q : X → Type 0) → ((x : X) → P x → Q x) → (r : Result X E) → IfOk r P → IfOk r Q
if_ok P Q f (Ok x) h = f x h
if_ok P Q f (Err e) h = h

pub merged-requires : goal.merged-requires
merged-requires c =
    let others : c.deref.result.now ≡ owned_below (λ p. is_by false (is_among p c.args.controllable.now)) c.args.count =
    cc (c.deref.ensures.value, c.in_ok-others.ensures) in
    let own : c.deref-2.result.now ≡ owned_below (λ p. is_by true (is_among p c.args.controllable.now)) c.args.count =
    cc (c.deref-2.ensures.value, c.in_ok-own.ensures) in
    let few = owned_few (λ p. is_by false (is_among p c.args.controllable.now)) c.args.count in
    let few_own = owned_few (λ p. is_by true (is_among p c.args.controllable.now)) c.args.count in
    (omega (arith, few, ap length others), omega (arith, few_own, ap length own))

pub returns : goal.returns
returns c =
    let others : c.deref.result.now ≡ owned_below (λ p. is_by false (is_among p c.args.controllable.now)) c.args.count =
    cc (c.deref.ensures.value, c.in_ok-others.ensures) in
    let own : c.deref-2.result.now ≡ owned_below (λ p. is_by true (is_among p c.args.controllable.now)) c.args.count =
    cc (c.deref-2.ensures.value, c.in_ok-own.ensures) in
    if_ok _ _ (λ from merged. merged_by c.args.count (λ p. is_among p c.args.controllable.now) c.deref.result.now
    c.deref-2.result.now from.items others own (merged (λ p. is_among p c.args.controllable.now))) c.merged.result
    c.merged.ensures
