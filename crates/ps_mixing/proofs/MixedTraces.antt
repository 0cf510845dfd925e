-- What a circuit's symbols and traces are by the names of a mixed file.
-- - `symbols_there`, `symbols_back`: by both files the circuit has the inputs and outputs of the same roles
-- - `letters_there`, `letters_back`: by the mixed names, the letters of a trace are the moved letters
-- - `word_again`, `word_forth`, `accepted_back`: words that are moved and moved back
-- - `verdict_there`, `verdict_back`: the verdicts on a lasso
use Rattle.std.specs.Prelude.{◌≡◌, ℕ, ◌^◌, ◌<◌, ◌↔◌, Bool, List, [], ◌∷◌, ◌++◌, length, map, Option}
use Rattle.std.specs.Prelude.{Some, slice_index_or}
use Rattle.std.proofs.Common.{refl, sym, ap, subst, ◌∙◌, arith}
use Rattle.std.proofs.Math.Path.{fun_ext}
use Rattle.std.proofs.lemmas.List.{length-map, map-append, map-id}
use Rattle.std.proofs.lemmas.Simd.{map-map}
use Rattle.ps_hoa.specs.Files.{FileData, is_among}
use Rattle.ps_automaton.specs.Acceptance.{IsAccepted}
use Rattle.ps_circuit.specs.Circuits.{CircuitData}
use Rattle.ps_circuit.specs.Values.{Moment}
use Rattle.ps_simulate.specs.Lassos.{AreLetters, IsLetterOf, IsVerdictOf, IsWordOf}
use Rattle.ps_simulate.specs.Symbols.{AreNamesOnce, HasSymbols, IsSymbol, reads_controllable, sets_controllable}
use Rattle.ps_simulate.specs.Words.{TraceWordData}
use Rattle.ps_simulate.specs.declared.lassos.Verdict.{Verdict}
use Rattle.ps_simulate.specs.declared.role.Role.{Role}
use Rattle.ps_mixing.specs.MixedFiles.{IsMixingOf, mixed_file, mixed_names}
use Rattle.ps_mixing.specs.Mixings.{Mixing, IsMixing, inverse, moved}
use Rattle.ps_mixing.proofs.MixedMachineParts.{name_at, names_unmixed}
use Rattle.ps_mixing.proofs.MixedSteps.{names_count}
use Rattle.ps_mixing.proofs.MixedWords.{accepts_mixed}
use Rattle.ps_mixing.proofs.MovedPropositions.MovedLetters.{from_beyond, inverse_is, moved_back, moved_bit, moved_forth}
use Rattle.ps_mixing.proofs.MovedPropositions.MovedLetters.{moved_within, to_within}
use Rattle.ps_mixing.proofs.MovedPropositions.MovedLists.{among_moved}

-- ## Lists that are moved and moved back

undone : {X : Type 0} (f g : X → X) → ((x : X) → g (f x) ≡ x) → (xs : List X) → map g (map f xs) ≡ xs
undone {X} f g back xs = map-map g f xs ∙ ap (λ (h : X → X). map h xs) (fun_ext back) ∙ map-id xs

abbrev moved_data : ℕ → (ℕ → ℕ) → TraceWordData → TraceWordData
moved_data n from word = record { stem = map (moved n from) word.stem; lap = map (moved n from) word.lap }

-- ## From the names to the mixed names

module _ {n : ℕ} {is_first : ℕ → Bool} {mixing : Mixing} (is : IsMixing n is_first mixing) (names : List (List ℕ))
    (many : length names ≡ n) where
  abbrev mixed : List (List ℕ)
  mixed = mixed_names mixing names

  abbrev mv : ℕ → ℕ
  mv = moved n mixing.from

  count : length mixed ≡ n
  count = names_count mixing names ∙ many

  before : (p : ℕ) → p < length mixed → mixing.from p < length names
  before p less = (let lt = to_within (inverse_is is) p (omega (arith, less, count)) in omega (arith, lt, many))

  name_here : (p : ℕ) → slice_index_or mixed p [] ≡ slice_index_or names (mixing.from p) []
  name_here p = ap (λ (q : ℕ). slice_index_or mixed q []) (sym (is.forth p)) ∙ name_at is names many (mixing.from p)

  symbol_before : (symbols : List (Option (List ℕ))) (k p : ℕ) → IsSymbol mixed symbols k p →
      IsSymbol names symbols k (mixing.from p)
  symbol_before symbols k p s = record {
    within = before p s.within;
    is = s.is ∙ ap (λ (l : List ℕ). Some l) (name_here p);
  }

  symbol_at : (symbols : List (Option (List ℕ))) (k p : ℕ) → p < length mixed →
      IsSymbol names symbols k (mixing.from p) → IsSymbol mixed symbols k p
  symbol_at symbols k p less s = record {
    within = less;
    is = s.is ∙ sym (ap (λ (l : List ℕ). Some l) (name_here p));
  }

  names_once : (controllable : List ℕ) (wanted : Bool) (symbols : List (Option (List ℕ))) →
      AreNamesOnce names controllable wanted symbols →
      AreNamesOnce mixed (map mixing.to controllable) wanted symbols
  names_once controllable wanted symbols once = record {
    each = λ p less own.
        let (k, s) = once.each (mixing.from p) (before p less) (sym (among_moved is controllable p) ∙ own) in
        (k, symbol_at symbols k p less s);
    some = λ k less.
        let (p, s, own) = once.some k less in
        let back : mixing.from (mixing.to p) ≡ p = is.back p in
        let within : mixing.to p < n = to_within is p (let lt = s.within in omega (arith, lt, many)) in (
          mixing.to p,
          symbol_at symbols k (mixing.to p) (omega (arith, within, count))
              (subst (IsSymbol names symbols k) (sym back) s),
          among_moved is controllable (mixing.to p) ∙ ap (λ (q : ℕ). is_among q controllable) back ∙ own,
        );
    once = λ j k p one other. once.once j k (mixing.from p) (symbol_before symbols j p one)
        (symbol_before symbols k p other);
  }

  pub symbols_moved : (role : Role) (controllable : List ℕ) (c : CircuitData) → HasSymbols role names controllable c →
      HasSymbols role mixed (map mixing.to controllable) c
  symbols_moved role controllable c has = record {
    inputs = names_once controllable (reads_controllable role) c.input_names has.inputs;
    outputs = names_once controllable (sets_controllable role) c.output_names has.outputs;
  }

  letter_moved : (c : CircuitData) (m : Moment) (x : ℕ) → IsLetterOf names c m x → IsLetterOf mixed c m (mv x)
  letter_moved c m x letter = record {
    few = subst (λ (k : ℕ). mv x < 2 ^ k) (sym count)
        (moved_within is x (subst (λ (k : ℕ). x < 2 ^ k) many letter.few));
    inputs = λ k p s. moved_bit n mixing.from x p (λ le. from_beyond is p le) ∙
        letter.inputs k (mixing.from p) (symbol_before c.input_names k p s);
    outputs = λ k p s. moved_bit n mixing.from x p (λ le. from_beyond is p le) ∙
        letter.outputs k (mixing.from p) (symbol_before c.output_names k p s);
  }

  pub letters_moved : (c : CircuitData) (ms : List Moment) (xs : List ℕ) → AreLetters names c ms xs →
      AreLetters mixed c ms (map mv xs)
  letters_moved c [] xs are = ap (map mv) are
  letters_moved c (m ∷ ms) [] are = are
  letters_moved c (m ∷ ms) (x ∷ xs) are = (letter_moved c m x are.0, letters_moved c ms xs are.1)

  pub word_moved : (c : CircuitData) (stem lap : List (List Bool)) (word : TraceWordData) →
      IsWordOf names c stem lap word → IsWordOf mixed c stem lap (moved_data n mixing.from word)
  word_moved c stem lap word is_word = record {
    i = is_word.i;
    j = is_word.j;
    trace = is_word.trace;
    repeats = is_word.repeats;
    are_letters = subst (AreLetters mixed c is_word.trace) (map-append mv word.stem word.lap)
        (letters_moved c is_word.trace (word.stem ++ word.lap) is_word.are_letters);
    stem_is = length-map word.stem mv ∙ is_word.stem_is;
  }

-- ## Between a file and the mixed file

module _ (file : FileData) (mixing : Mixing) (is : IsMixingOf file mixing) where
  abbrev n : ℕ
  n = length file.names

  abbrev there : FileData
  there = mixed_file mixing file

  abbrev bk : ℕ → ℕ
  bk = moved n mixing.to

  again : mixed_names (inverse mixing) there.names ≡ file.names
  again = names_unmixed is file.names refl

  many_there : length there.names ≡ n
  many_there = names_count mixing file.names

  pub symbols_there : (role : Role) (c : CircuitData) → HasSymbols role file.names file.controllable c →
      HasSymbols role there.names there.controllable c
  symbols_there role c has = symbols_moved is file.names refl role file.controllable c has

  pub symbols_back : (role : Role) (c : CircuitData) → HasSymbols role there.names there.controllable c →
      HasSymbols role file.names file.controllable c
  symbols_back role c has = subst (λ (names : List (List ℕ)). HasSymbols role names file.controllable c) again
      (subst (λ (ps : List ℕ). HasSymbols role (mixed_names (inverse mixing) there.names) ps c)
      (undone mixing.to mixing.from is.back file.controllable)
      (symbols_moved (inverse_is is) there.names many_there role there.controllable c has))

  pub letters_there : (c : CircuitData) (ms : List Moment) (xs : List ℕ) → AreLetters file.names c ms xs →
      AreLetters there.names c ms (map (moved n mixing.from) xs)
  letters_there c ms xs are = letters_moved is file.names refl c ms xs are

  pub letters_back : (c : CircuitData) (ms : List Moment) (ys : List ℕ) → AreLetters there.names c ms ys →
      AreLetters file.names c ms (map bk ys)
  letters_back c ms ys are = subst (λ (names : List (List ℕ)). AreLetters names c ms (map bk ys)) again
      (letters_moved (inverse_is is) there.names many_there c ms ys are)

  -- a word that is moved and moved back, or moved back and moved
  pub word_again : (xs : List ℕ) → map bk (map (moved n mixing.from) xs) ≡ xs
  word_again xs = undone (moved n mixing.from) bk (λ x. moved_back is x) xs

  pub word_forth : (ys : List ℕ) → map (moved n mixing.from) (map bk ys) ≡ ys
  word_forth ys = undone bk (moved n mixing.from) (λ y. moved_forth is y) ys

  pub letters_unmoved : (c : CircuitData) (ms : List Moment) (xs : List ℕ) →
      AreLetters there.names c ms (map (moved n mixing.from) xs) → AreLetters file.names c ms xs
  letters_unmoved c ms xs are = subst (AreLetters file.names c ms) (word_again xs)
      (letters_back c ms (map (moved n mixing.from) xs) are)

  pub accepted_back : (stem lap : List ℕ) → IsAccepted file (map bk stem) (map bk lap) ↔ IsAccepted there stem lap
  accepted_back stem lap = subst (λ (ys : List ℕ). IsAccepted file (map bk stem) (map bk lap) ↔ IsAccepted there ys lap)
      (word_forth stem) (subst (λ (ys : List ℕ). IsAccepted file (map bk stem) (map bk lap) ↔
      IsAccepted there (map (moved n mixing.from) (map bk stem)) ys) (word_forth lap)
      (accepts_mixed mixing file is (map bk stem) (map bk lap)))

  pub verdict_there : (c : CircuitData) (stem lap : List (List Bool)) (verdict : Verdict) →
      IsVerdictOf file c stem lap verdict → IsVerdictOf there c stem lap verdict
  verdict_there c stem lap verdict is_verdict =
      let word : TraceWordData = is_verdict.word in
      let accepts = accepts_mixed mixing file is word.stem word.lap in
      record {
        word = moved_data n mixing.from word;
        is_word = word_moved is file.names refl c stem lap word is_verdict.is_word;
        stem_is = is_verdict.stem_is ∙ sym (length-map word.stem (moved n mixing.from));
        lap_is = is_verdict.lap_is ∙ sym (length-map word.lap (moved n mixing.from));
        accepted = (λ yes. accepts.0 (is_verdict.accepted.0 yes), λ yes. is_verdict.accepted.1 (accepts.1 yes));
      }

  pub verdict_back : (c : CircuitData) (stem lap : List (List Bool)) (verdict : Verdict) →
      IsVerdictOf there c stem lap verdict → IsVerdictOf file c stem lap verdict
  verdict_back c stem lap verdict is_verdict =
      let word : TraceWordData = is_verdict.word in
      let accepts = accepted_back word.stem word.lap in
      record {
        word = moved_data n mixing.to word;
        is_word = subst (λ (names : List (List ℕ)). IsWordOf names c stem lap (moved_data n mixing.to word)) again
            (word_moved (inverse_is is) there.names many_there c stem lap word is_verdict.is_word);
        stem_is = is_verdict.stem_is ∙ sym (length-map word.stem bk);
        lap_is = is_verdict.lap_is ∙ sym (length-map word.lap bk);
        accepted = (λ yes. accepts.1 (is_verdict.accepted.0 yes), λ yes. is_verdict.accepted.1 (accepts.0 yes));
      }
