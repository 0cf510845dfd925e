-- If the input lacks a text that its command needs, the only possible answer reports the missing text.
use Rattle.std.proofs.Common.{◌≡◌, ◌≢◌, ◌∙◌, ◌-◌, ◌+◌, ℕ, Bool, true, false, List, [], ◌∷◌, length, Result, Ok, Err}
use Rattle.std.proofs.Common.{refl, ap, inl, inr, subst}
use Rattle.std.specs.Prelude.{codes, filter, if◌then◌else◌, ◌||◌}
use Rattle.clap.specs.Words.{Text}
use Rattle.ps_game.specs.Games.{NamedGameData, ParityGame}
use Rattle.ps_certificate.specs.Certificates.{CertificateData, IsClosed, IsValid}
use Rattle.ps_circuit.specs.Circuits.{IsCircuit}
use Rattle.ps_simulate.specs.declared.role.Role.{Role}
use Rattle.ps_program.specs.Automata.{ReadsAutomaton}
use Rattle.ps_program.specs.Commands.Checks.{Tests}
use Rattle.ps_program.specs.Commands.Comparing.{AnswersAgree, ComparesText}
use Rattle.ps_program.specs.CommandLine.{cert_flag, compact_flag, moore_flag, order_given, role_given, synth_given}
use Rattle.ps_program.specs.CommandLine.{tlsf_flag}
use Rattle.ps_program.specs.Commands.Judging.{AnswersJudge, Judges, ReadsSolutionText, ReadsSolved}
use Rattle.ps_program.specs.Commands.Lassos.{AnswersLasso, RunsCircuit}
use Rattle.ps_machine.specs.declared.key.Order.{Order}
use Rattle.ps_program.specs.Commands.Shrinking.{AnswersShrink, ShrinksText}
use Rattle.ps_program.specs.Commands.ShrinkingTlsf.{AnswersShrinkTlsf, ShrinksSpecified}
use Rattle.ps_program.specs.Commands.Verifying.{AnswersVerify, VerifiesText}
use Rattle.ps_program.specs.Commands.VerifyingTlsf.{AnswersVerifyTlsf, VerifiesSpecified}
use Rattle.ps_program.specs.Commands.Simulating.{AnswersSim, PrintsTrace}
use Rattle.ps_program.specs.Cut.{HasFewerSeparators}
use Rattle.ps_program.specs.Laws.Determined.{NeedsItsTexts}
use Rattle.ps_program.specs.Outcomes.{Then}
use Rattle.ps_program.specs.Program.{AnswersLine}
use Rattle.ps_program.specs.Replies.{Reply, text_reply}
use Rattle.ps_program.specs.Commands.Satisfying.{AnswersLassoTlsf, RunsSpecified}
use Rattle.ps_program.specs.Finders.{Finders}
use Rattle.ps_program.specs.Solvers.{Solvers}
use Rattle.ps_program.specs.Commands.Synthesis.{AnswersBy, AnswersReport}
use Rattle.ps_solver.specs.Solvers.{once_fed}
use Rattle.ps_program.specs.Texts.{CutsInTwo, CutsInThree, ReadsCertificateText, ReadsCertified, ReadsCircuitText}
use Rattle.ps_program.specs.Texts.{ReadsForGame}
use Rattle.ps_program.specs.Texts.{ReadsGameText, ReadsSimulated, ReadsSpecificationText, ReadsStimulusText}
use Rattle.ps_program.specs.Texts.{missing_text}
use Rattle.ps_program.specs.declared.commands.Line.{Line}
use Rattle.ps_program.specs.declared.commands.Line.TheVariants.{Lasso, LassoTlsf, Refused, Shrink, ShrinkTlsf}
use Rattle.ps_program.specs.declared.commands.Line.TheVariants.{Synth, SynthTlsf, Verify, VerifyTlsf}
use Rattle.ps_program.specs.declared.commands.SynthLine.{SynthLine}
use Rattle.ps_program.specs.declared.commands.TextKind.{TextKind}
use Rattle.ps_program.specs.declared.commands.TextKind.TheVariants as kind
use Rattle.ps_program.proofs.AtMostOne.OneCut.{cut_one, cut_three_one}
use Rattle.ps_program.proofs.AtMostOne.OneStep.{err_of, err_or, ok_is_not_err}

-- the only possible result of the step is the fault that this line reports
abbrev Fails : {V : Type 0} → (Result V (List ℕ) → Type 0) → List ℕ → Type 0
Fails {V} step line = (outcome : Result V (List ℕ)) → step outcome → outcome ≡ Err line

both_fail : {V W : Type 0} (step : Result V (List ℕ) → Type 0) (next : V → Result W (List ℕ) → Type 0)
    (line : List ℕ) → Fails step line → Fails (Then step next) line
both_fail {V} {W} step next line fails outcome (inl (l, s, e)) =
    e ∙ ap (err_of {V = W}) (ap (err_or {V = V} line) (fails (Err l) s))
both_fail step next line fails outcome (inr (v, s, n)) = absurd (ok_is_not_err v line (fails (Ok v) s))

two_missing : (texts : List ℕ) → HasFewerSeparators 1 texts → Fails (CutsInTwo texts) missing_text
two_missing texts fewer outcome cuts = cut_one texts outcome (Err missing_text) cuts (fewer, refl)

three_missing : (texts : List ℕ) → HasFewerSeparators 2 texts → Fails (CutsInThree texts) missing_text
three_missing texts fewer outcome cuts = cut_three_one texts outcome (Err missing_text) cuts (fewer, refl)

-- a step that needs two texts, or three
two_needed : {W : Type 0} (next : List ℕ × List ℕ → Result W (List ℕ) → Type 0) (texts : List ℕ) →
    HasFewerSeparators 1 texts → Fails (Then (CutsInTwo texts) next) missing_text
two_needed next texts fewer = both_fail (CutsInTwo texts) next missing_text (two_missing texts fewer)

three_needed : {W : Type 0} (next : List ℕ × List ℕ × List ℕ → Result W (List ℕ) → Type 0) (texts : List ℕ) →
    HasFewerSeparators 2 texts → Fails (Then (CutsInThree texts) next) missing_text
three_needed next texts fewer = both_fail (CutsInThree texts) next missing_text (three_missing texts fewer)

-- the number of texts that `synth` reads: the automaton and, with `--cert`, a certificate
abbrev synth_count : Bool → ℕ
synth_count false = 1
synth_count true = 2

synth_missing : (solvers : Solvers) (asked : SynthLine) (cert : Bool) (texts : List ℕ) (outcome : Result Reply (List ℕ))
    →
    HasFewerSeparators (synth_count cert - 1) texts → AnswersBy cert solvers asked texts outcome →
    outcome ≡ Err missing_text
synth_missing solvers asked false texts outcome fewer answers = absurd fewer
synth_missing solvers asked true texts outcome fewer answers =
    two_needed (λ parts. AnswersReport (once_fed parts.1 solvers.replay) asked parts.0) texts fewer outcome answers

-- what `synth` asks for, by its flags
abbrev synth_line : (tlsf moore : Bool) → SynthLine → Line
synth_line tlsf moore asked =
    if tlsf then (if asked.full || asked.cert || moore || asked.compact then Refused else SynthTlsf) else Synth asked

-- with `--tlsf` alone, `synth` reads one text, which can't be missing
one_text : (full cert moore compact : Bool) (texts : List ℕ) →
    (if full || cert || moore || compact then Refused else SynthTlsf) ≢ Refused →
    HasFewerSeparators (synth_count cert - 1) texts → ⊥
one_text true cert moore compact texts allowed fewer = allowed refl
one_text false true moore compact texts allowed fewer = allowed refl
one_text false false true compact texts allowed fewer = allowed refl
one_text false false false true texts allowed fewer = allowed refl
one_text false false false false texts allowed fewer = fewer

synth_given_missing : (finders : Finders) (tlsf moore : Bool) (asked : SynthLine) (texts : List ℕ) →
    synth_line tlsf moore asked ≢ Refused → HasFewerSeparators (synth_count asked.cert - 1) texts →
    Fails (AnswersLine finders (synth_line tlsf moore asked) texts) missing_text
synth_given_missing finders true moore asked texts allowed fewer =
    absurd (one_text asked.full asked.cert moore asked.compact texts allowed fewer)
synth_given_missing finders false moore asked texts allowed fewer =
    λ outcome answers. synth_missing finders.solvers asked asked.cert texts outcome fewer answers

synth_counted : (cert : Bool) → 1 + length (filter (λ (each : Text × TextKind). cert)
    ((cert_flag, kind.Certificate) ∷ [])) ≡ synth_count cert
synth_counted false = refl
synth_counted true = refl

-- ---- commands that need two texts, and commands that need three texts

for_game_missing : {V : Type 0} (reads : NamedGameData → List ℕ → Result V (List ℕ) → Type 0) (texts : List ℕ) →
    HasFewerSeparators 1 texts → Fails (ReadsForGame reads texts) missing_text
for_game_missing reads texts fewer = two_needed (λ parts. Then (ReadsGameText parts.0) (λ named.
    Then (reads named parts.1) (λ given outcome. outcome ≡ Ok (named, given)))) texts fewer

simulated_missing : (texts : List ℕ) → HasFewerSeparators 1 texts → Fails (ReadsSimulated texts) missing_text
simulated_missing texts fewer = two_needed (λ parts. Then (ReadsCircuitText parts.0) (λ c.
    Then (ReadsStimulusText (length c.inputs) false parts.1) (λ s outcome. outcome ≡ Ok (c, s)))) texts fewer

tests_missing : (IsGood : ParityGame → CertificateData → Type 0) (word texts : List ℕ) → HasFewerSeparators 1 texts →
    Fails (Then (ReadsCertified texts) (λ both. Tests IsGood word both.0 both.1)) missing_text
tests_missing IsGood word texts fewer = both_fail (ReadsCertified texts) (λ both. Tests IsGood word both.0 both.1)
    missing_text (for_game_missing ReadsCertificateText texts fewer)

judge_missing : (compact : Bool) (texts : List ℕ) → HasFewerSeparators 1 texts → Fails (AnswersJudge compact texts)
    missing_text
judge_missing compact texts fewer = both_fail (ReadsSolved texts) (λ both. Judges compact both.0 both.1) missing_text
    (for_game_missing ReadsSolutionText texts fewer)

sim_missing : (texts : List ℕ) → HasFewerSeparators 1 texts → Fails (AnswersSim texts) missing_text
sim_missing texts fewer = both_fail (ReadsSimulated texts) (λ both outcome. IsCircuit both.0
    × ((text : List ℕ) × PrintsTrace both.0 both.1.stem text × (outcome ≡ Ok (text_reply text)))) missing_text
    (simulated_missing texts fewer)

lasso_missing : (role : Role) (texts : List ℕ) → HasFewerSeparators 2 texts →
    Fails (AnswersLasso role texts) missing_text
lasso_missing role texts fewer = three_needed (λ parts. Then (ReadsAutomaton parts.0) (λ file.
    RunsCircuit role file parts.1 parts.2)) texts fewer

lasso_tlsf_missing : (role : Role) (texts : List ℕ) → HasFewerSeparators 2 texts →
    Fails (AnswersLassoTlsf role texts) missing_text
lasso_tlsf_missing role texts fewer = three_needed (λ parts. Then (ReadsSpecificationText parts.0) (λ spec.
    RunsSpecified role spec parts.1 parts.2)) texts fewer

lasso_given_missing : (finders : Finders) (tlsf : Bool) (role : Role) (texts : List ℕ) → HasFewerSeparators 2 texts →
    Fails (AnswersLine finders (if tlsf then LassoTlsf role else Lasso role) texts) missing_text
lasso_given_missing finders true role texts fewer = lasso_tlsf_missing role texts fewer
lasso_given_missing finders false role texts fewer = lasso_missing role texts fewer

verify_missing : (order : Order) (role : Role) (texts : List ℕ) → HasFewerSeparators 1 texts →
    Fails (AnswersVerify order role texts) missing_text
verify_missing order role texts fewer = two_needed (λ parts. Then (ReadsAutomaton parts.0) (λ file.
    VerifiesText order role file parts.1)) texts fewer

verify_tlsf_missing : (role : Role) (texts : List ℕ) → HasFewerSeparators 1 texts →
    Fails (AnswersVerifyTlsf role texts) missing_text
verify_tlsf_missing role texts fewer = two_needed (λ parts. Then (ReadsSpecificationText parts.0) (λ spec.
    VerifiesSpecified role spec parts.1)) texts fewer

shrink_missing : (order : Order) (role : Role) (texts : List ℕ) → HasFewerSeparators 1 texts →
    Fails (AnswersShrink order role texts) missing_text
shrink_missing order role texts fewer = two_needed (λ parts. Then (ReadsAutomaton parts.0) (λ file.
    ShrinksText order role file parts.1)) texts fewer

shrink_tlsf_missing : (role : Role) (texts : List ℕ) → HasFewerSeparators 1 texts →
    Fails (AnswersShrinkTlsf role texts) missing_text
shrink_tlsf_missing role texts fewer = two_needed (λ parts. Then (ReadsSpecificationText parts.0) (λ spec.
    ShrinksSpecified role spec parts.1)) texts fewer

-- what a command asks for, by its flags `--tlsf` and `--moore`, which exclude each other
abbrev chosen_line : (tlsf moore : Bool) → (specified automaton : Line) → Line
chosen_line tlsf moore specified automaton = if tlsf then (if moore then Refused else specified) else automaton

chosen_missing : (finders : Finders) (tlsf moore : Bool) (specified automaton : Line) (texts : List ℕ) →
    chosen_line tlsf moore specified automaton ≢ Refused → Fails (AnswersLine finders specified texts) missing_text →
    Fails (AnswersLine finders automaton texts) missing_text →
    Fails (AnswersLine finders (chosen_line tlsf moore specified automaton) texts) missing_text
chosen_missing finders true true specified automaton texts allowed one other = absurd (allowed refl)
chosen_missing finders true false specified automaton texts allowed one other = one
chosen_missing finders false moore specified automaton texts allowed one other = other

agree_missing : (texts : List ℕ) → HasFewerSeparators 1 texts → Fails (AnswersAgree texts) missing_text
agree_missing texts fewer = two_needed (λ parts. Then (ReadsSpecificationText parts.0) (λ spec.
    ComparesText spec parts.1)) texts fewer

pub texts_needed : (finders : Finders) → NeedsItsTexts finders
texts_needed finders = (
  λ given texts outcome allowed fewer answers. tests_missing IsClosed (codes "closed") texts fewer outcome answers,
  (
    λ given texts outcome allowed fewer answers. tests_missing IsValid (codes "valid") texts fewer outcome answers,
    (
      λ given texts outcome allowed fewer answers. judge_missing (given compact_flag) texts fewer outcome answers,
      (
        λ given texts outcome allowed fewer answers. sim_missing texts fewer outcome answers,
        (
          λ given texts outcome allowed fewer answers. lasso_given_missing finders (given tlsf_flag)
              (role_given given) texts
              fewer outcome answers,
          (
            λ given texts outcome allowed fewer answers. chosen_missing finders (given tlsf_flag)
                (given moore_flag) (VerifyTlsf (role_given given)) (Verify (order_given given) (role_given given)) texts
                allowed (verify_tlsf_missing (role_given given) texts fewer)
                (verify_missing (order_given given) (role_given given) texts fewer) outcome answers,
            (
              λ given texts outcome allowed fewer answers. chosen_missing finders (given tlsf_flag)
                  (given moore_flag) (ShrinkTlsf (role_given given)) (Shrink (order_given given) (role_given given))
                  texts
                  allowed (shrink_tlsf_missing (role_given given) texts fewer)
                  (shrink_missing (order_given given) (role_given given) texts fewer) outcome answers,
              (
                λ given texts outcome allowed fewer answers. agree_missing texts fewer outcome answers,
                (
                  λ given texts outcome allowed fewer answers. absurd fewer,
                  (
                    λ given texts outcome allowed fewer answers. absurd fewer,
                    (
                      λ given texts outcome allowed fewer answers. absurd fewer,
                      (
                        λ given texts outcome allowed fewer answers. absurd fewer,
                        (
                          λ given texts outcome allowed fewer answers. synth_given_missing finders (given tlsf_flag)
                              (given moore_flag) (synth_given given) texts allowed
                              (subst (λ (n : ℕ). HasFewerSeparators (n - 1) texts) (synth_counted (given cert_flag))
                              fewer) outcome answers,
                          (λ given texts outcome allowed fewer answers. absurd fewer, tt),
                        ),
                      ),
                    ),
                  ),
                ),
              ),
            ),
          ),
        ),
      ),
    ),
  ),
)
