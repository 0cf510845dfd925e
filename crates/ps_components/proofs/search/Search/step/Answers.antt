use Rattle.std.proofs.Common.{◌∙◌, ap, arith, inr, Some, length, sym, rules}
use Rattle.std.proofs.lemmas.Result.{on_ok_weaker}
use Rattle.ps_components.specs.declared.statuses.Status.TheVariants.{Active}
use Rattle.ps_components.specs.Graphs.{last}
use Rattle.ps_components.specs.Searching.{closed}
use Rattle.ps_components.proofs.Reaching.{reached-entered}
use Rattle.ps_components.proofs.Stepping.{pending_within, at_most_last, all_lead}
use Rattle.ps_components.proofs.search.Search.step.Goals as goal

pub at-requires : goal.at-requires
at-requires g c = pending_within c.requires.sound (sym (rw c.deref.ensures.value at c.in-Some.ensures.value))

pub follow-requires : goal.follow-requires
follow-requires g c = record {
  next = search rules;
  reached = record {
    within =
        grind (arith, pending_within c.requires.sound (sym (rw c.deref.ensures.value at c.in-Some.ensures.value)));
    unseen = c.at.ensures ∙ ap Some c.in-Unseen.is;
    lead = all_lead c.requires.sound (grind arith) c.requires.last c.if-pending-bound.false;
  };
}

pub merge-requires : goal.merge-requires
merge-requires g c =
    let pending = sym (rw c.deref.ensures.value at c.in-Some.ensures.value) in
    record {
      within = pending_within c.requires.sound pending;
      linked = c.requires.sound.pending_links _ c.in-Some.field-0.now pending;
      last = λ k b h. grind (arith, at_most_last c.requires.sound c.requires.last k b h);
      marked = c.at.ensures ∙ ap Some c.in-Active.is;
      sound = c.requires.sound;
    }

pub take-requires-in-Closed-clause-settled : goal.take-requires-in-Closed-clause-settled
take-requires-in-Closed-clause-settled g c = closed _ (c.at.ensures ∙ ap Some c.in-Closed.is)

pub returns-in-Unseen : goal.returns-in-Unseen
returns-in-Unseen g c =
    let s = c.args.self.now in
    let e = c.in-Some.field-0.now in
    let l = c.requires.sound.pending_links _ e (sym (rw c.deref.ensures.value at c.in-Some.ensures.value)) in
    let reached = reached-entered s.statuses s.active.items (Active (length s.active.items))
    (e.from, l.0, l.1, inr (last l.2)) in
    on_ok_weaker c.follow.result (λ is. record {
      sound = is.sound;
      fewer = is.fewer;
      kept = is.kept;
      reached = rw is.entered reached;
    }) c.follow.ensures
