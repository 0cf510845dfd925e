use Rattle.std.proofs.Common.{rules}
use Rattle.ps_game.specs.Drafts.{NoneUnknown}
use Rattle.ps_game.proofs.StoredGames.Unknown.{first_unknown_once, no_first_unknown}
use Rattle.ps_game.proofs.builder.GameBuilder.finish.Goals as goal
use Rattle.ps_game.proofs.builder.GameBuilder.finish.Goals.{In_default-first_unknown}

pub returns-in-Some-first_unknown-clause-unknown_successor : goal.returns-in-Some-first_unknown-clause-unknown_successor
returns-in-Some-first_unknown-clause-unknown_successor c v w = search (rules, first_unknown_once)

known : (c : In_default-first_unknown) → NoneUnknown c.args.self
known c = rw (← c.self.view_is, ← c.deref-2.ensures.value) c.in_default-first_unknown.ensures.none

pub returns-in-Ok-clause-unknown_successor : goal.returns-in-Ok-clause-unknown_successor
returns-in-Ok-clause-unknown_successor c v w = search (rules, known, no_first_unknown)

pub returns-in-Err-clause-unknown_successor : goal.returns-in-Err-clause-unknown_successor
returns-in-Err-clause-unknown_successor c v w = search (rules, known, no_first_unknown)
