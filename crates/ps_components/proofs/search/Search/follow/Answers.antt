use Rattle.std.proofs.Common.{◌≡◌, ◌∷◌, [], ℕ, slice_get, Some, rules}
use Rattle.ps_components.specs.declared.search.Pending.{Pending}
use Rattle.ps_components.proofs.Places.{last_split}
use Rattle.ps_components.proofs.search.Search.follow.Goals as goal

one_leads : (one : Pending) (i : ℕ) (e : Pending) → slice_get (one ∷ []) i ≡ Some e → e.to ≡ one.to
one_leads one i e h = search rules

pub enter-requires-clause-sound : goal.enter-requires-clause-sound
enter-requires-clause-sound g c =
    let s = c.args.self.now in
    rw (c.pop.ensures.rest, s.pending.ok.0) (record {
      skipped = c.args.pending ∷ [];
      lead = one_leads c.args.pending;
      sound = rw (← last_split s.pending.items c.requires.next.last) c.requires.next.sound;
    })
