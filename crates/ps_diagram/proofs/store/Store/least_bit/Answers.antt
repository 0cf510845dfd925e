use Rattle.std.proofs.Common.{◌≡◌, ℕ, ◌*◌, ◌%◌, ◌^◌, ◌<◌, arith, subst}
use Rattle.std.proofs.lemmas.Nat.{one_shl}
use Rattle.ps_diagram.specs.Inner.Rests.{IsCofactor}
use Rattle.ps_diagram.specs.Table.{tree_of}
use Rattle.ps_diagram.proofs.NodeTables.KnownLemmas.{keeps_three, keeps_trans}
use Rattle.ps_diagram.proofs.TreeOperations.BitLists.{bit_made}
use Rattle.ps_diagram.proofs.store.Store.least_bit.Goals as goal

pub returns-in_err-bit-clause-keeps : goal.returns-in_err-bit-clause-keeps
returns-in_err-bit-clause-keeps c =
    keeps_three (keeps_trans c.fixed.ensures.keeps c.fixed-2.ensures.keeps) c.whether.ensures.whether.keeps
    (keeps_trans c.taken.ensures.keeps c.negated.ensures.keeps)

pub returns-clause-keeps : goal.returns-clause-keeps
returns-clause-keeps c =
    keeps_three (keeps_trans c.fixed.ensures.keeps c.fixed-2.ensures.keeps) c.whether.ensures.whether.keeps
    (keeps_trans c.taken.ensures.keeps c.negated.ensures.keeps)

pub returns-clause-bit : goal.returns-clause-bit
returns-clause-bit c =
    let p = c.args.proposition in
    let few : p < 64 = omega (arith, c.table_is_sound.ensures.few, c.requires.named) in
    let one : 1 * 2 ^ p % 2 ^ 64 ≡ 2 ^ p = one_shl p 64 few in
    let low = c.in_ok-low.ensures in
    let high = c.in_ok-high.ensures in
    let can = c.in_ok-can.ensures.whether in
    let rest = c.in_ok-rest.ensures in
    let bit = c.in_ok-bit.ensures in
    let low_is = subst (λ (m : ℕ). IsCofactor m 0 (tree_of c.args.self.now c.args.node)
    (tree_of c.fixed.new.self c.in_ok-low.low)) one low.leaf in
    let high_is = subst (λ (m : ℕ). IsCofactor m m (tree_of c.fixed.new.self c.args.node)
    (tree_of c.fixed-2.new.self c.in_ok-high.high)) one high.leaf in
    bit_made c.args.hidden p c.args.node c.in_ok-low.low c.in_ok-high.high c.in_ok-can.can c.in_ok-rest.rest
    c.in_ok-bit.bit c.fixed.ensures.keeps c.fixed-2.ensures.keeps c.whether.ensures.whether.keeps c.taken.ensures.keeps
    c.negated.ensures.keeps c.requires.held low.held high.held can.held rest.held bit.held low_is high_is can.leaf
    rest.leaf bit.leaf
