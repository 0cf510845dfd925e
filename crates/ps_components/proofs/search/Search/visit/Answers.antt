use Rattle.std.proofs.lemmas.List.{append-nil}
use Rattle.std.proofs.Common.{arith, [], length}
use Rattle.ps_components.specs.declared.statuses.Status.TheVariants.{Active}
use Rattle.ps_components.proofs.Places.{slice_get-set_cases}
use Rattle.ps_components.proofs.Reaching.{reached-begun}
use Rattle.ps_components.proofs.search.Search.visit.Goals as goal

pub returns-in_ok-run : goal.returns-in_ok-run
returns-in_ok-run g c =
    let e = c.in_ok-enter.ensures in
    let r = c.in_ok-run.ensures in
    let reached = reached-begun c.requires.idle.sound c.requires.idle.ended c.args.item
    (Active (length c.args.self.now.active.items))
    c.run.new.self.statuses (rw (e.path, e.entered) at r.reached) in
    record {
      idle = r.idle;
      kept = λ v un. e.kept v (r.kept v un);
      seen = λ un. grind (arith, r.kept c.args.item un, slice_get-set_cases);
      reached = reached;
    }

pub enter-requires-clause-sound : goal.enter-requires-clause-sound
enter-requires-clause-sound g c =
    record { skipped = []; lead = λ i e h. cc; sound = rw append-nil c.requires.idle.sound }
