-- The text of a stimulus that `verify` prints is read as this stimulus.
use Rattle.std.proofs.Common.{◌≡◌, ◌∙◌, ℕ, Bool, true, false, List, [], ◌∷◌, ◌++◌, map, refl, sym, ap, append_assoc}
use Rattle.std.specs.Prelude.{codes, length}
use Rattle.std.proofs.lemmas.List.{append-nil}
use Rattle.ps_circuit.specs.Circuits.{CircuitData}
use Rattle.ps_simulate.specs.LassoFaults.{AreWide}
use Rattle.ps_simulate.specs.Stimuli.{StimulusData}
use Rattle.ps_simulate.specs.StimulusTexts.{IsStimulus, digits_of, divider, lines_of, put_byte, spelled}
use Rattle.ps_program.specs.Commands.Verifying.{letter_lines, stimulus_text}

first_line : (letter : List Bool) (rest : List ℕ) →
    lines_of (digits_of letter ++ 10 ∷ rest) ≡ digits_of letter ∷ lines_of rest
first_line [] rest = refl
first_line (true ∷ letter) rest = ap (put_byte 49) (first_line letter rest)
first_line (false ∷ letter) rest = ap (put_byte 48) (first_line letter rest)

first_lines : (letters : List (List Bool)) (rest : List ℕ) →
    lines_of (letter_lines letters ++ rest) ≡ map digits_of letters ++ lines_of rest
first_lines [] rest = refl
first_lines (letter ∷ letters) rest =
    ap lines_of (append_assoc (digits_of letter ++ codes "\n") (letter_lines letters) rest
    ∙ append_assoc (digits_of letter) (codes "\n") (letter_lines letters ++ rest))
    ∙ first_line letter (letter_lines letters ++ rest)
    ∙ ap (λ (lines : List (List ℕ)). digits_of letter ∷ lines) (first_lines letters rest)

all_lines : (letters : List (List Bool)) → lines_of (letter_lines letters) ≡ map digits_of letters
all_lines letters = ap lines_of (sym (append-nil (letter_lines letters))) ∙ first_lines letters []
    ∙ append-nil (map digits_of letters)

stimulus_lines : (s : StimulusData) → lines_of (stimulus_text s) ≡ spelled true s
stimulus_lines s = ap lines_of (append_assoc (letter_lines s.stem) (codes "-\n") (letter_lines s.lap))
    ∙ first_lines s.stem (codes "-\n" ++ letter_lines s.lap)
    ∙ ap (λ (lines : List (List ℕ)). map digits_of s.stem ++ divider ∷ lines) (all_lines s.lap)

pub stimulus_read : (c : CircuitData) (s : StimulusData) → AreWide c s.stem s.lap →
    IsStimulus (stimulus_text s) (length c.inputs) true s
stimulus_read c s wide = record {
  lines = stimulus_lines s;
  stem_widths = wide.stem_is;
  lap_widths = wide.lap_is;
  no_lap = λ e. absurd (let h : true ≡ false = e in cc);
}
