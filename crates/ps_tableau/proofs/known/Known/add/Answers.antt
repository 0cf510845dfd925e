use Rattle.std.proofs.Common.{◌∙◌, ◌∷◌, ◌++◌, [], List, Vec, ap, arith, inl, inr, refl}
use Rattle.std.proofs.lemmas.Bool.{eqb-true}
use Rattle.std.specs.Global.{Global}
use Rattle.ps_tableau.proofs.CoversOfSets.KnownLemmas.{known_more, known_same, placed_at}
use Rattle.ps_tableau.specs.declared.edge.Edge.{Edge}
use Rattle.ps_tableau.proofs.known.Known.add.Goals as goal

pub returns-in_err-reserve-clause-known : goal.returns-in_err-reserve-clause-known
returns-in_err-reserve-clause-known c b is inside has =
    known_same {old = c.args.self.now} is refl c.in_err-reserve.ensures.items

pub returns-in_err-place-clause-known : goal.returns-in_err-place-clause-known
returns-in_err-place-clause-known c b is inside has =
    known_same {old = c.args.self.now} is c.in_err-place.ensures.1 c.in_ok-reserve.ensures.items

pub returns-then-place-len-clause-known : goal.returns-then-place-len-clause-known
returns-then-place-len-clause-known c b is inside has = elim c.in_ok-place.ensures.0 [
  | inl known ↦ absurd (omega (
    arith,
    known.1,
    is.count,
    c.if-place-len.true,
    c.len.ensures,
    c.in_ok-reserve.ensures.len,
  ))
  | inr more ↦ known_more {old = c.args.self.now} c.args.set c.args.covers is more.0 (c.push_reserved.ensures.items
      ∙ ap (λ (vs : List (Vec Edge Global)). vs ++ c.args.covers ∷ []) c.in_ok-reserve.ensures.items) inside has
]

pub returns-else-place-len-clause-known : goal.returns-else-place-len-clause-known
returns-else-place-len-clause-known c b is inside has = elim c.in_ok-place.ensures.0 [
  | inl known ↦ known_same {old = c.args.self.now} is known.0 c.in_ok-reserve.ensures.items
  | inr more ↦ absurd (c.if-place-len.false (omega (
    arith,
    more.1,
    is.count,
    c.len.ensures,
    c.in_ok-reserve.ensures.len,
  )))
]

pub returns-then-place-len-clause-place : goal.returns-then-place-len-clause-place
returns-then-place-len-clause-place c = placed_at _ eqb-true _ _ _ _ c.in_ok-place.ensures.0

pub returns-else-place-len-clause-place : goal.returns-else-place-len-clause-place
returns-else-place-len-clause-place c = placed_at _ eqb-true _ _ _ _ c.in_ok-place.ensures.0
