use Rattle.std.proofs.Common.{arith, ◌≡◌}
use Rattle.std.specs.Option.{option_copied}
use Rattle.ps_text.specs.Answers.{next_of, offset_of}
use Rattle.ps_pgsolver.specs.Inner.Answered.{first_answer}
use Rattle.ps_pgsolver.proofs.TokensOfGames.SingleSigns.{reads_first, later_first}
use Rattle.ps_pgsolver.proofs.reader.first_successor.Goals as goal
use Rattle.ps_pgsolver.proofs.reader.first_successor.Goals.{After-if_known}

-- if the next token is a number with few digits, the function's result for it is what the grammar states
taken : (c : After-if_known) → let old = c.args.tokens.now in
    c.if_known.result ≡ first_answer (option_copied c.args.known) (next_of old) (offset_of old.pieces old.end)
taken c = grind arith

pub returns-in-Some-clause-part : goal.returns-in-Some-clause-part
returns-in-Some-clause-part c = grind (arith, reads_first, taken)

pub returns-in-Some-clause-later : goal.returns-in-Some-clause-later
returns-in-Some-clause-later c = later_first (option_copied c.args.known) c.args.tokens.now _
    c.in-Some.ensures.some.rest (taken (goal.at.returns-in-Some-clause-later c).After-if_known)

pub returns-in-None-clause-part : goal.returns-in-None-clause-part
returns-in-None-clause-part c = grind (arith, reads_first)

pub returns-in-None-clause-later : goal.returns-in-None-clause-later
returns-in-None-clause-later c = grind (arith, later_first)
