use Rattle.std.proofs.Common.{arith, ◌∙◌, ◌-◌, ◌++◌, take, drop, ap}
use Rattle.std.proofs.lemmas.List.{take_rest}
use Rattle.ps_components.specs.Searching.{close_all}
use Rattle.ps_components.proofs.Reaching.{reached-closed}
use Rattle.ps_components.proofs.Closing.{sound-closed, fewer-closed, kept-closed, in_range}
use Rattle.ps_components.proofs.search.Search.close.Goals as goal

pub close_items-requires-clause-number : goal.close_items-requires-clause-number
close_items-requires-clause-number g c = grind arith

pub close_items-requires-clause-within : goal.close_items-requires-clause-within
close_items-requires-clause-within g c =
    λ k v h. in_range c.requires.ends.sound c.requires.ends.last c.requires.done k v
    (rw (take_rest c.deref.result.now c.args.bound, c.deref.ensures.value) at h)

pub returns : goal.returns
returns g c =
    let s = c.args.self.now in
    let r = c.requires in
    let segment = take_rest c.deref.result.now c.args.bound ∙ ap (drop c.args.bound) c.deref.ensures.value in
    let statuses = c.in_ok-close_items.ensures ∙ ap (λ vs. close_all s.statuses vs c.len-number.result) segment
    ∙ ap (close_all s.statuses (drop c.args.bound s.active.items)) (c.len-number.ensures ∙ s.order.ok.0) in
    let bounds = c.pop.ensures.rest ∙ ap (λ n. take (n - 1) s.bounds.items) s.bounds.ok.0 in
    let order = c.in_ok-extend_from_slice.ensures.items ∙ ap (λ vs. s.order.items ++ vs) segment in
    record {
      sound = rw (statuses, c.truncate.ensures.items, bounds, order) (sound-closed r.ends.sound r.ends.last r.done);
      fewer = rw (statuses, bounds) (fewer-closed r.ends.sound r.ends.last r.done);
      kept = rw statuses (kept-closed r.ends.sound r.ends.last r.done);
      reached =
          rw statuses (reached-closed (g.G.Graph.graph c.args.graph.now) s.statuses s.active.items c.args.bound _);
    }
