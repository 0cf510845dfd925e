use Rattle.ps_hoa.specs.Files.{FileData}
use Rattle.ps_program.specs.Automata.{IsOfFileOrMixed, ReadsAutomaton}
use Rattle.ps_program.specs.Commands.Shrinking.{AnswersShrink, ShrinksText}
use Rattle.ps_program.specs.Replies.{reply_of}
use Rattle.ps_program.specs.Texts.{CutsInTwo}
use Rattle.ps_program.proofs.ByCommand.AutomatonLemmas.{automaton_failed}
use Rattle.ps_program.proofs.ByCommand.MixedLemmas.{gives_by_file, shrinks_told}
use Rattle.ps_program.proofs.ByCommand.OutcomeLemmas.{first_failed, first_read, gives_passed}
use Rattle.ps_program.proofs.commands.shrink.shrink.Goals as goal

pub returns-in_err-automaton : goal.returns-in_err-automaton
returns-in_err-automaton c =
    let hoa = c.in_ok-hoa.hoa.now in
    let fault = c.in_err-automaton.field-0.0 in
    gives_passed reply_of (AnswersShrink c.args.order c.args.role c.args.texts.now) _ _
    c.from_residual-in_err-automaton.ensures.1
    (first_failed {X = FileData} {V = FileData} (λ file. file) (CutsInTwo c.args.texts.now)
    (λ parts. ReadsAutomaton parts.0) reply_of (λ file parts. ShrinksText c.args.order c.args.role file parts.1)
    (hoa, c.in_ok-hoa.aag.now) fault c.in_ok-hoa.ensures
    (automaton_failed IsOfFileOrMixed hoa fault c.in_err-automaton.ensures))

pub returns : goal.returns
returns c =
    let a = c.in_ok-automaton.ensures in
    let file = a.0 in
    let other = a.2.0 in
    let aag = c.in_ok-hoa.aag.now in
    first_read (CutsInTwo c.args.texts.now) (λ parts. ReadsAutomaton parts.0) reply_of
    (λ file parts. ShrinksText c.args.order c.args.role file parts.1) (c.in_ok-hoa.hoa.now, aag) file
    c.shrink_text.result c.in_ok-hoa.ensures a.1
    (gives_by_file (λ each. ShrinksText c.args.order c.args.role each aag) file
    (λ mixing is. shrinks_told file mixing is c.args.role c.args.order aag) other a.2.1 c.shrink_text.result
    (c.shrink_text.ensures other a.2.2.0 a.2.2.1))
