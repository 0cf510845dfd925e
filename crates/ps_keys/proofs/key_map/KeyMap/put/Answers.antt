use Rattle.std.proofs.Common.{◌∙◌, ◌++◌, ◌∷◌, [], ap, arith, inl, inr}
use Rattle.ps_keys.proofs.MapLemmas.{put_known, put_new}
use Rattle.ps_keys.proofs.key_map.KeyMap.put.Goals as goal

pub returns-then-place-len-clause-put : goal.returns-then-place-len-clause-put
returns-then-place-len-clause-put g c = elim c.in_ok-place.ensures.0 [
  | inl known ↦ absurd (omega (
    arith,
    known.1,
    c.self.invariant,
    c.if-place-len.true,
    c.len.ensures,
    c.in_ok-reserve.ensures.len,
  ))
  | inr more ↦ rw (← c.self.view_is) (put_new g.K.PartialEq.eq c.self.inside.keys c.self.inside.values.items
      c.self.invariant c.args.key c.args.value more.0 (c.push_reserved.ensures.items
      ∙ ap (λ vs. vs ++ c.args.value ∷ []) c.in_ok-reserve.ensures.items) more.2)
]

pub returns-else-place-len-clause-put : goal.returns-else-place-len-clause-put
returns-else-place-len-clause-put g c = elim c.in_ok-place.ensures.0 [
  | inl known ↦ rw (← c.self.view_is, known.0, c.in_ok-reserve.ensures.items) (put_known g.K.PartialEq.eq
      c.self.inside.keys c.self.inside.values.items c.self.invariant c.args.key c.args.value c.in_ok-place.place known.1
      known.2)
  | inr more ↦ absurd (c.if-place-len.false (omega (
    arith,
    more.1,
    c.self.invariant,
    c.len.ensures,
    c.in_ok-reserve.ensures.len,
  )))
]
