use Rattle.std.proofs.Common.{◌∙◌, ap, arith, length}
use Rattle.ps_models.proofs.TriedCircuits.TogetherLemmas.{none_known, known_written}
use Rattle.ps_models.proofs.TriedCircuits.TrialLemmas.{kept_refl, kept_trans, still_sentences}
use Rattle.ps_models.proofs.by_groups.known_by_groups.Goals as goal

pub try_group-requires-clause-parting : goal.try_group-requires-clause-parting
try_group-requires-clause-parting c =
    still_sentences c.args.parting.now c.loop-group.parting c.loop-group.invariant.kept c.requires.parting

pub loop-group-init : goal.loop-group-init
loop-group-init c =
    let p = c.args.parting.now in
    record {
      kept = kept_refl p;
      known = none_known c.args.trial p c.in_ok-known.known.items c.len.result
          (let len = c.len.ensures in omega (arith, len, p.sentences.ok.0))
          (c.in_ok-known.ensures.items_if_clones_equal (λ y same. same));
    }

pub loop-group-preserved : goal.loop-group-preserved
loop-group-preserved c = record {
  kept = kept_trans c.loop-group.invariant.kept c.in_ok-try_group.ensures.kept;
  known = known_written c.args.trial c.try_group.new.parting c.loop-group.known.len c.try_group.new.known _
      (let long = c.try_group.auto.known ∙ ap length c.deref_mut.ensures.value in
      omega (arith, long, c.loop-group.known.ok.0)) c.in_ok-try_group.ensures.known;
}
