use Rattle.std.proofs.Common.{refl, arith, true, false, rules}
use Rattle.std.proofs.lemmas.Option.{slice_get_read}
use Rattle.ps_components.proofs.Places.{slice_get-set_same}
use Rattle.ps_components.proofs.Spreads.{keeps-seen, keeps-steps, fewer-unseen, reach-spread}
use Rattle.ps_components.proofs.trail.Spread.reach.Goals as goal

pub returns-in_ok-push : goal.returns-in_ok-push
returns-in_ok-push g c =
    let r = c.requires in
    let new = slice_get_read c.args.self.now.seen.items _ c.args.to false refl r.to (grind arith) in
    rw c.in_ok-push.ensures.items (record {
      spread = reach-spread r.spread c.args.to new r.linked.1 r.linked.2;
      kept = keeps-steps r.spread c.args.to new;
      seen_kept = keeps-seen r.spread c.args.to new;
      reached = slice_get-set_same c.args.self.now.seen.items c.args.to true r.to;
      fewer = omega (arith, fewer-unseen r.spread c.args.to new);
    })

pub returns-else-not-index : goal.returns-else-not-index
returns-else-not-index g c = search (rules, slice_get_read)
