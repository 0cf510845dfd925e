use Rattle.std.proofs.Common.{rules}
use Rattle.ps_pgsolver.proofs.TokensOfGames.TokenLemmas.{reads_split, stream_from-blanks}
use Rattle.ps_pgsolver.proofs.token.token_from.Goals as goal

pub returns-clause-blanks : goal.returns-clause-blanks
returns-clause-blanks c = search (rules, stream_from-blanks)

pub returns-clause-ahead : goal.returns-clause-ahead
returns-clause-ahead c =
    let read = reads_split _ c.next_start-start.ensures.start c.next_start-start.ensures.within
    c.split_at.ensures.front c.split_at.ensures.back c.token_at-size.ensures.end c.token_at-size.ensures.sign
    c.token_at-size.ensures.size (returns-clause-blanks c) in
    search rules
