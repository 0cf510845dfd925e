use Rattle.std.proofs.Common.{ℕ, List, [], ◌∷◌, ◌++◌, ◌∙◌, None, ap, subst, sym}
use Rattle.ps_text.proofs.BytesAndDigits.Bytes.Single.{refuted}
use Rattle.ps_certificate.proofs.ReadCertificates.Loops.{fails}
use Rattle.ps_certificate.proofs.ReadCertificates.PairLoops.{PairsSoFar, no_pairs_yet, pair_behind, pair_more}
use Rattle.ps_certificate.proofs.ReadCertificates.PairLoops.{pair_fails, pairs_fail}
use Rattle.ps_certificate.proofs.ReadCertificates.PairLoops.{pairs_done}
use Rattle.ps_certificate.proofs.ReadCertificates.PairLoops.{pair_shrinks}
use Rattle.ps_certificate.proofs.pairs.pairs.Goals as goal

pub more-init : goal.more-init
more-init c = subst (PairsSoFar c.args.priorities.list.now c.args.cursor.now c.args.cursor.now None)
    (sym c.clear.ensures) no_pairs_yet

pub returns-in_err-place : goal.returns-in_err-place
returns-in_err-place c =
    fails _ _ _ _ _ _ (pair_fails _ _ _ _ _ c.more.invariant (c.comes.ensures.0 c.more-test.true) _
    c.in_err-place.ensures.read) c.from_residual.ensures.1

pub extend-requires : goal.extend-requires
extend-requires c =
    pair_behind _ _ _ _ _ c.more.invariant c.args.priorities.rises _ c.in_ok-place.ensures.within
    c.in_ok-place.ensures.above

pub more-smaller : goal.more-smaller
more-smaller c = pair_shrinks _ _ _ _ _ _ c.in_ok-place.ensures.read

pub more-preserved : goal.more-preserved
more-preserved c =
    pair_more _ _ _ _ _ c.more.invariant c.args.priorities.rises c.in_ok-place.place c.in_ok-place.count
    c.in_ok-place.ensures.within (pair_behind _ _ _ _ _ c.more.invariant c.args.priorities.rises _
    c.in_ok-place.ensures.within c.in_ok-place.ensures.above)
    (c.in_ok-push.ensures ∙ ap (λ (xs : List ℕ). xs ++ c.in_ok-place.count ∷ []) c.extend.ensures)
    c.in_ok-place.ensures.read

pub returns-in_err-byte : goal.returns-in_err-byte
returns-in_err-byte c =
    fails _ _ _ _ _ _ (pairs_fail _ _ _ _ _ c.more.invariant (refuted c.comes.ensures.1 c.more-test.false) _
    c.in_err-byte.ensures) c.from_residual-in_err-byte.ensures.1

pub returns : goal.returns
returns c =
    pairs_done _ _ _ _ _ c.more.invariant (refuted c.comes.ensures.1 c.more-test.false) c.byte.new.self
    c.in_ok-byte.ensures c.extend-2.ensures
