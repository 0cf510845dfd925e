use Rattle.ps_synthesis.proofs.short.answer_as_it_stands.Goals as goal

pub returns-clause-short : goal.returns-clause-short
returns-clause-short c =
    let (chain, built) = c.in_ok-automaton.ensures.built in
    c.answer_of_automaton-found.ensures.short c.args.file.now chain c.in_ok-automaton.ensures.admitted built
