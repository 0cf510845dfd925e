use Rattle.ps_hoa.proofs.Lexing.Streams.{kept_next, kept_finish}
use Rattle.ps_hoa.proofs.tokens.Tokens.peek.Goals as goal

pub returns-clause-next : goal.returns-clause-next
returns-clause-next c = kept_next c.self.invariant c.self.view_is

pub returns-clause-finish : goal.returns-clause-finish
returns-clause-finish c = kept_finish c.self.invariant c.self.view_is
