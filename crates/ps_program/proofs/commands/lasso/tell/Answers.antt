use Rattle.std.proofs.Common.{arith, ◌≡◌, ◌∙◌, ap}
use Rattle.ps_simulate.specs.Stimuli.{StimulusData, letters_of}
use Rattle.ps_program.specs.Replies.{reply_of, text_reply}
use Rattle.ps_program.proofs.ByCommand.LassoAnswers.{tells}
use Rattle.ps_program.proofs.commands.lasso.tell.Goals as goal

pub unreachable-requires : goal.unreachable-requires
unreachable-requires c =
    let stem = letters_of c.deref.result.now in
    let lap = letters_of c.deref-2.result.now in
    let same_stem : stem ≡ c.args.stimulus.now.stem = ap letters_of c.deref.ensures.value
    ∙ ap (λ (s : StimulusData). s.stem) c.stimulus.view_is in
    let same_lap : lap ≡ c.args.stimulus.now.lap = ap letters_of c.deref-2.ensures.value
    ∙ ap (λ (s : StimulusData). s.lap) c.stimulus.view_is in
    grind arith

pub returns-in_ok-verdict_line-in-Ok : goal.returns-in_ok-verdict_line-in-Ok
returns-in_ok-verdict_line-in-Ok c = λ file chain built.
    let stem = letters_of c.deref.result.now in
    let lap = letters_of c.deref-2.result.now in
    let same_stem : stem ≡ c.args.stimulus.now.stem = ap letters_of c.deref.ensures.value
    ∙ ap (λ (s : StimulusData). s.stem) c.stimulus.view_is in
    let same_lap : lap ≡ c.args.stimulus.now.lap = ap letters_of c.deref-2.ensures.value
    ∙ ap (λ (s : StimulusData). s.lap) c.stimulus.view_is in
    tells c.args.role file chain c.args.automaton.now c.args.circuit.now c.args.stimulus.now stem lap built same_stem
    same_lap c.in-Ok.verdict (reply_of c.text.result) c.requires.circuit c.in-Ok.ensures.sound
    (c.in-Ok.ensures.verdict file chain built) (c.text.ensures ∙ ap text_reply c.in_ok-verdict_line-in-Ok.ensures)
