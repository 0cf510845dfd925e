use Rattle.std.proofs.Common.{length, ap, arith}
use Rattle.std.proofs.lemmas.List.{length-map}
use Rattle.ps_hoa.specs.Memory.{bytes_of}
use Rattle.ps_simulate.proofs.NamingLemmas.{names_differ}
use Rattle.ps_simulate.proofs.LapsOfRuns.WordLemmas.{few_in_stem, few_in_lap, some_in_lap}
use Rattle.ps_simulate.proofs.lassos.lasso.Goals as goal

pub trace_word-requires-clause-few : goal.trace_word-requires-clause-few
trace_word-requires-clause-few c = omega (
  arith,
  length-map c.names-names.result.now bytes_of,
  ap length c.names-names.ensures.names,
  c.names-names.ensures.few,
)

pub trace_word-requires-clause-distinct : goal.trace_word-requires-clause-distinct
trace_word-requires-clause-distinct c = rw c.names-names.ensures.names
    (names_differ c.args.automaton.now.names c.names-names.ensures.sound)

pub accepts-requires-clause-some : goal.accepts-requires-clause-some
accepts-requires-clause-some c =
    let word = rw c.names-names.ensures.names at c.in_ok-word.ensures.word in
    rw c.lap.ensures (some_in_lap word)

pub accepts-requires-clause-stem : goal.accepts-requires-clause-stem
accepts-requires-clause-stem c =
    let word = rw c.names-names.ensures.names at c.in_ok-word.ensures.word in
    rw c.stem.ensures (few_in_stem word)

pub accepts-requires-clause-lap : goal.accepts-requires-clause-lap
accepts-requires-clause-lap c =
    let word = rw c.names-names.ensures.names at c.in_ok-word.ensures.word in
    rw c.lap.ensures (few_in_lap word)

pub returns-clause-verdict : goal.returns-clause-verdict
returns-clause-verdict c = λ file chain built.
    let word = rw c.names-names.ensures.names at c.in_ok-word.ensures.word in
    record {
      word = c.in_ok-word.word;
      is_word = rw built.names at word;
      stem_is = ap length c.stem-2.ensures;
      lap_is = ap length c.lap-2.ensures;
      accepted = rw (c.stem.ensures, c.lap.ensures) at (c.in_ok-accepts.ensures file chain built);
    }
