use Rattle.std.proofs.Common.{◌≡◌, ◌<◌, ◌∙◌, arith, get_or, length, subst, sym}
use Rattle.ps_machine.specs.Numbering.{StandsAt}
use Rattle.ps_machine.specs.contracts.key.KeyPartialEq.TheImpl as key_eq
use Rattle.ps_machine.specs.declared.key.Key.TheVariants.{First}
use Rattle.ps_machine.proofs.Machines.Diagrams.FollowedEdges.{next_within, stands_test, test_stands}
use Rattle.ps_machine.proofs.drawing.Plan.leads.Goals as goal

pub bounds-self-successor : goal.bounds-self-successor
bounds-self-successor c = rw c.successor.ensures
    (next_within c.requires.game c.args.vertex c.args.number 0 c.requires.vertex c.requires.number)

pub offset_bounds-self-successor : goal.offset_bounds-self-successor
offset_bounds-self-successor c = grind (
  arith,
  c.successor.ensures,
  next_within c.requires.game c.args.vertex c.args.number 0 c.requires.vertex c.requires.number,
)

pub returns : goal.returns
returns c =
    let keys = c.args.self.now.keys.now in
    let key = c.args.key in
    let w = c.successor.result in
    let same = c.successor.ensures in
    let within : w < length keys =
    rw same (next_within c.requires.game c.args.vertex c.args.number 0 c.requires.vertex c.requires.number) in
    let told : c.eq.result ≡ (key_eq.eq-value).it (get_or keys w (First 0 0)) key = c.eq.ensures in (
      λ e. subst (λ u. StandsAt keys u key) same (test_stands keys w (First 0 0) key within (sym told ∙ e)),
      λ at. told ∙ stands_test keys w (First 0 0) key (subst (λ u. StandsAt keys u key) (sym same) at),
    )
