use Rattle.std.proofs.Common.{refl, arith}
use Rattle.std.proofs.lemmas.Option.{slice_get_read}
use Rattle.ps_components.proofs.Spreads.{step-within, next-spread}
use Rattle.ps_components.proofs.trail.Spread.reach_from.Goals as goal

pub degree-number-end-requires : goal.degree-number-end-requires
degree-number-end-requires g c = step-within c.requires.spread c.args.place
    (slice_get_read c.args.self.now.steps.items _ _ _ refl c.requires.place c.index.ensures)

pub target-requires-clause-item : goal.target-requires-clause-item
target-requires-clause-item g c = step-within c.requires.spread c.args.place
    (slice_get_read c.args.self.now.steps.items _ _ _ refl c.requires.place c.index.ensures)

pub reach-requires : goal.reach-requires
reach-requires g c =
    let here = slice_get_read c.args.self.now.steps.items _ c.args.place _ refl c.requires.place c.index.ensures in
    record {
      to = grind arith;
      linked = (
        c.index.result.now,
        c.loop-number.invariant.kept c.args.place c.index.result.now here,
        grind (arith, step-within c.requires.spread c.args.place here),
      );
      spread = c.loop-number.invariant.spread;
    }

pub returns-clause-spread : goal.returns-clause-spread
returns-clause-spread g c =
    let i = c.loop-number.invariant in
    next-spread i.spread (i.kept c.args.place _ (slice_get_read c.args.self.now.steps.items _ c.args.place _ refl
    c.requires.place c.index.ensures)) (λ w l. i.looked l.place w (omega (arith, l.at)) l.target)
