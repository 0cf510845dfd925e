use Rattle.std.proofs.Common.{◌≡◌, ℕ, ◌^◌, ◌<◌, List, length, subst, ◌∙◌, ap}
use Rattle.std.specs.Prelude.{All}
use Rattle.ps_automaton.specs.Automata.{auto_of}
use Rattle.ps_automaton.specs.Autos.{state_behind}
use Rattle.ps_automaton.specs.Inner.Returning.{Returns}
use Rattle.ps_automaton.proofs.AdmittedFiles.Accepting.{laps_decide}
use Rattle.ps_automaton.proofs.automaton.Automaton.accepts.Goals as goal

pub returns : goal.returns
returns c = λ file chain built.
    let a = auto_of c.args.self.now in
    let letters : (word : List ℕ) → All (λ letter. letter < 2 ^ length c.args.self.now.names) word →
    All (λ letter. letter < 2 ^ length file.names) word = λ word in_word. subst
    (λ (names : List (List ℕ)). All (λ letter. letter < 2 ^ length names) word) built.names in_word in
    let first : c.read-first.result.state ≡ state_behind a a.start c.args.stem.now = c.read-first.ensures.state
    ∙ ap (λ q. state_behind a q c.args.stem.now) c.start.ensures.start in
    let orbit : Returns a (state_behind a a.start c.args.stem.now) c.args.lap.now c.in_ok-orbit.orbit.state
    c.in_ok-orbit.orbit.laps =
    subst (λ q. Returns a q c.args.lap.now c.in_ok-orbit.orbit.state c.in_ok-orbit.orbit.laps) first
    c.in_ok-orbit.ensures.returns in
    rw c.greatest_of_laps.ensures (laps_decide file chain a c.args.stem.now c.args.lap.now orbit.before
    c.in_ok-orbit.orbit.laps c.in_ok-orbit.orbit.state built.is_chain built.auto c.requires.some
    (letters c.args.stem.now c.requires.stem) (letters c.args.lap.now c.requires.lap) orbit.some orbit.begins
    orbit.returns)
