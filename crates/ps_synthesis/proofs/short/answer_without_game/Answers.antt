use Rattle.std.proofs.Common.{subst}
use Rattle.std.specs.Prelude.{IfErr, IfOk, IfSome}
use Rattle.ps_hoa.specs.Files.{FileData}
use Rattle.ps_solver.specs.Solving.{AnswersLeast}
use Rattle.ps_synthesis.specs.ShortFiles.{IsFaultOfFile, IsShortOfFile}
use Rattle.ps_synthesis.proofs.ShortTexts.{found_back, refused_back}
use Rattle.ps_synthesis.proofs.short.answer_without_game.Goals as goal

pub returns-clause-short : goal.returns-clause-short
returns-clause-short c =
    let (mixing, is, same) = c.in_ok-mixed.ensures.mixed in
    let result = c.answer_as_it_stands-found.result in
    found_back AnswersLeast c.args.order c.args.file.now mixing is c.evenly_mixed.ensures.sound result
    (subst (λ (file : FileData). IfOk result (λ found. IfSome found (IsShortOfFile AnswersLeast c.args.order file))) same
    c.answer_as_it_stands-found.ensures.short)

pub returns-clause-refused : goal.returns-clause-refused
returns-clause-refused c =
    let (mixing, is, same) = c.in_ok-mixed.ensures.mixed in
    let result = c.answer_as_it_stands-found.result in
    refused_back AnswersLeast c.args.order c.args.file.now mixing is c.evenly_mixed.ensures.sound result
    (subst (λ (file : FileData). IfErr result (IsFaultOfFile AnswersLeast c.args.order file)) same
    c.answer_as_it_stands-found.ensures.refused)
