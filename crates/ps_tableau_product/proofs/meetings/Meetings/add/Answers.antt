use Rattle.std.proofs.Common.{arith, inl, inr, refl}
use Rattle.ps_tableau_product.proofs.MeetingLemmas.{meetings_more, meetings_same}
use Rattle.ps_tableau_product.proofs.meetings.Meetings.add.Goals as goal

pub returns-in_ok-push : goal.returns-in_ok-push
returns-in_ok-push c few places a guards are held met = elim c.in_ok-place.ensures.0 [
  | inl known ↦ absurd (omega (arith, known.1, are.count, c.if-place-len.true, c.len.ensures))
  | inr more ↦ meetings_more {old = c.args.self.now} (c.args.guard, c.args.own) c.args.found are more.0
      c.in_ok-push.ensures.items held met
]

pub returns-else-place-len : goal.returns-else-place-len
returns-else-place-len c few places a guards are held met = elim c.in_ok-place.ensures.0 [
  | inl known ↦ meetings_same {old = c.args.self.now} are known.0 refl
  | inr more ↦ absurd (c.if-place-len.false (omega (arith, more.1, are.count, c.len.ensures)))
]
