-- What a formula tells of the words of a circuit, it tells of those of the cone of the outputs that it mentions.
-- - `keeps_mentioned`: the flags that are computed keep the outputs that the formula mentions
-- - `masked_word`: a word of the circuit on a stimulus is, in the propositions that the formula mentions, a word of the
--   circuit with the constant false in place of the other outputs
-- - `verdict_alike`: the judgement on the cone is right of the circuit
use Rattle.std.proofs.Common.{◌≡◌, ◌∙◌, ℕ, zero, suc, ◌<◌, Bool, true, false, List, [], ◌∷◌, inl, inr, length, map}
use Rattle.std.proofs.Common.{All, Option}
use Rattle.std.proofs.Common.{get_or, refl, ap, ap₂, sym, arith, nat_eq, nat_lt, subst}
use Rattle.std.specs.Prelude.{if◌then◌else◌}
use Rattle.std.proofs.lemmas.Bool.{cases_lt}
use Rattle.std.proofs.lemmas.Grind.{get_or_default_zero}
use Rattle.std.proofs.lemmas.List.{get_or-map, length-map}
use Rattle.std.proofs.lemmas.Nat.Bits.{bit_at_above}
use Rattle.ps_hoa.specs.Files.{is_among}
use Rattle.ps_label.specs.Truth.{is_in}
use Rattle.ps_label.specs.Words.{lasso_word}
use Rattle.ps_sentences.specs.Mentions.{AreMentioned, Mentions}
use Rattle.ps_sentences.proofs.MentionLemmas.{AreSameOn, flipped, truth_as}
use Rattle.ps_circuit.specs.Circuits.{CircuitData}
use Rattle.ps_circuit.specs.Values.{HasOneValues, Moment}
use Rattle.ps_cone.specs.Masks.{mask, masked_moment, masked_moments}
use Rattle.ps_cone.specs.Parts.{IsPartOf}
use Rattle.ps_cone.proofs.MaskRuns.{lasso_of_mask, masked_at}
use Rattle.ps_machine.specs.declared.key.Order.{Order}
use Rattle.ps_machine.specs.declared.key.Order.TheVariants.{Mealy, Moore}
use Rattle.ps_product.specs.Roles.{AreRoles}
use Rattle.ps_product.specs.declared.roles.Roles.{Roles}
use Rattle.ps_simulate.specs.LassoFaults.{AreWide}
use Rattle.ps_simulate.specs.Lassos.{AreLetters, IsLetterOf}
use Rattle.ps_simulate.specs.Stimuli.{StimulusData}
use Rattle.ps_simulate.specs.Symbols.{AreDistinct, HasSymbols, IsSymbol}
use Rattle.ps_simulate.specs.declared.role.Role.{Role}
use Rattle.ps_simulate.specs.declared.role.Role.TheVariants.{Controller, Environment}
use Rattle.ps_simulate.proofs.LapsOfRuns.LassoLemmas.{length_letters}
use Rattle.ps_simulate.proofs.NamingLemmas.{some_same, within}
use Rattle.ps_simulate.proofs.UniqueVerdicts.OneLetter.{side}
use Rattle.ps_traces.specs.Inputs.{inputs_of}
use Rattle.ps_traces.specs.Shapes.{IsInTimeWhereReached}
use Rattle.ps_traces.specs.Traces.{IsLassoWord}
use Rattle.ps_traces.proofs.StepLetters.{letters_there}
use Rattle.ps_verify.specs.Stimulated.{IsWordOn, input_at}
use Rattle.ps_verify.specs.declared.judgement.Judgement.{Judgement}
use Rattle.ps_verify.specs.declared.judgement.Judgement.TheVariants.{Wins, Loses}
use Rattle.ps_verify.proofs.PartJudgements.{trace_there, wide_in_whole, word_on_part}
use Rattle.ps_models.specs.Judgements.{IsJudgementFor, IsLosingFor, IsSatisfied, IsWinningFor, NamedFormula}
use Rattle.ps_models.specs.Verdicts.{IsVerdictOn}

-- the outputs whose propositions the formula mentions are kept
pub record KeepsMentioned (f : NamedFormula) (c : CircuitData) (kept : List Bool) : Type 0 where
  pub each : (k p : ℕ) → IsSymbol f.names c.output_names k p → Mentions f.formula p → get_or kept k false ≡ true

pub keeps_mentioned : (f : NamedFormula) (c : CircuitData) (roles : Roles) (letter : ℕ) → AreDistinct f.names →
    AreRoles f.names c roles → AreMentioned f.formula letter →
    KeepsMentioned f c (map (λ p. is_in p letter) roles.outputs.items)
keeps_mentioned f c roles letter distinct are mentioned = record {
  each = λ k p s there.
      let below : k < length roles.outputs.items =
      omega (arith, within c.output_names k (get_or f.names p []) s.is, are.outputs_each) in
      let q = get_or roles.outputs.items k 0 in
      let own = are.outputs_are k below in
      let same : q ≡ p =
      distinct q p own.within s.within (some_same (get_or f.names q []) (get_or f.names p []) (sym own.is ∙ s.is)) in
      get_or-map (λ (p : ℕ). is_in p letter) roles.outputs.items k 0 false below
      ∙ ap (λ (p : ℕ). is_in p letter) same ∙ (mentioned p).1 there;
}

-- propositions are less than 64
pub outputs_small : (f : NamedFormula) (c : CircuitData) (roles : Roles) → AreRoles f.names c roles →
    All (λ p. p < 64) roles.outputs.items
outputs_small f c roles are k d lt =
    let own = are.outputs_are k lt in
    omega (arith, own.within, are.few, get_or_default_zero roles.outputs.items k d lt)

-- the order in which the player of this role moves second, so that its circuit is in time
abbrev second : Role → Order
second Controller = Mealy
second Environment = Moore

in_time : (role : Role) (c : CircuitData) → IsInTimeWhereReached (second role) role c
in_time Controller c first = absurd (cc)
in_time Environment c first = absurd (cc)

-- ## Letters

same_choice : (b : Bool) (p x y x' y' : ℕ) → is_in p x ≡ is_in p x' → is_in p y ≡ is_in p y' →
    is_in p (if b then x else y) ≡ is_in p (if b then x' else y')
same_choice true p x y x' y' e e' = e
same_choice false p x y x' y' e e' = e'

inputs_masked : (kept : List Bool) (moments : List Moment) →
    inputs_of (masked_moments kept moments) ≡ inputs_of moments
inputs_masked kept [] = refl
inputs_masked kept (m ∷ ms) = let rest = inputs_masked kept ms in λ i. m.inputs ∷ rest i

module _ {role : Role} {f : NamedFormula} {c : CircuitData} {kept : List Bool} (distinct : AreDistinct f.names)
    (has : HasSymbols role f.names f.controllable c) (keeps : KeepsMentioned f c kept) where
  pub symbols_of_mask : HasSymbols role f.names f.controllable (mask kept c)
  symbols_of_mask = record { inputs = has.inputs; outputs = has.outputs }

  same_bit : (m : Moment) (letter other : ℕ) → IsLetterOf f.names c m letter →
      IsLetterOf f.names (mask kept c) (masked_moment kept m) other → (p : ℕ) → Mentions f.formula p →
      is_in p letter ≡ is_in p other
  same_bit m letter other is alike p there = elim (cases_lt p (length f.names)) [
    | inl lt ↦ elim (side role (is_among p f.controllable)) [
      | inl input ↦ let at = has.inputs.each p lt input in is.inputs at.0 p at.1 ∙ sym (alike.inputs at.0 p at.1)
      | inr output ↦
          let at = has.outputs.each p lt output in
          is.outputs at.0 p at.1 ∙ sym (masked_at false kept m.outputs at.0 false (keeps.each at.0 p at.1 there))
          ∙ sym (alike.outputs at.0 p at.1)
    ]
    | inr le ↦ ap (λ n. nat_eq n 1)
        (bit_at_above letter (length f.names) p is.few le ∙ sym (bit_at_above other (length f.names) p alike.few le))
  ]

  same_bits : (ms : List Moment) (us vs : List ℕ) → AreLetters f.names c ms us →
      AreLetters f.names (mask kept c) (masked_moments kept ms) vs → (p : ℕ) → Mentions f.formula p → (k : ℕ) →
      is_in p (get_or us k 0) ≡ is_in p (get_or vs k 0)
  same_bits [] us vs a b p there k = rw (a, b) refl
  same_bits (m ∷ ms) [] vs a b p there k = absurd a
  same_bits (m ∷ ms) (u ∷ us) [] a b p there k = absurd b
  same_bits (m ∷ ms) (u ∷ us) (v ∷ vs) a b p there zero = same_bit m u v a.0 b.0 p there
  same_bits (m ∷ ms) (u ∷ us) (v ∷ vs) a b p there (suc k) = same_bits ms us vs a.1 b.1 p there k

  same_length : (ms : List Moment) (us vs : List ℕ) → AreLetters f.names c ms us →
      AreLetters f.names (mask kept c) (masked_moments kept ms) vs → length us ≡ length vs
  same_length ms us vs a b =
      length_letters f.names c ms us a ∙ sym (length-map ms (masked_moment kept))
      ∙ sym (length_letters f.names (mask kept c) (masked_moments kept ms) vs b)

  -- ## Words

  -- a word of the mask on the stimulus, which has the same bits of the propositions that the formula mentions
  pub record IsMasked (s : StimulusData) (stem lap : List ℕ) : Type 0 where
    pub other_stem : List ℕ
    pub other_lap : List ℕ
    pub on : IsWordOn f.names (mask kept c) s other_stem other_lap
    pub same : AreSameOn f.formula (lasso_word stem lap) (lasso_word other_stem other_lap)

  pub masked_word : {s : StimulusData} {stem lap : List ℕ} → IsWordOn f.names c s stem lap → IsMasked s stem lap
  masked_word {s} {stem} {lap} on =
      let word = on.word in
      let first = letters_there distinct symbols_of_mask (masked_moments kept word.stem_moments) in
      let behind = letters_there distinct symbols_of_mask (masked_moments kept word.lap_moments) in
      let stems = same_length word.stem_moments stem first.letters word.stem_letters first.are_letters in
      let laps = same_length word.lap_moments lap behind.letters word.lap_letters behind.are_letters in
      record {
        other_stem = first.letters;
        other_lap = behind.letters;
        on = record {
          word = record {
            stem_moments = masked_moments kept word.stem_moments;
            lap_moments = masked_moments kept word.lap_moments;
            trace = lasso_of_mask kept c word.stem_moments word.lap_moments word.trace;
            stem_letters = first.are_letters;
            lap_letters = behind.are_letters;
          };
          reads = λ t. ap₂ (λ (xs ys : List (List Bool)). input_at xs ys t) (inputs_masked kept word.stem_moments)
              (inputs_masked kept word.lap_moments) ∙ on.reads t;
        };
        same = record {
          each = λ p there t. rw (stems, laps) (same_choice (nat_lt t (length first.letters)) p (get_or stem t 0) _ _ _
              (same_bits word.stem_moments stem first.letters word.stem_letters first.are_letters p there t)
              (same_bits word.lap_moments lap behind.letters word.lap_letters behind.are_letters p there _));
        };
      }

  -- ## Verdicts

  pub roles_of_part : {kept_latches : List Bool} {part : CircuitData} {roles : Roles} →
      IsPartOf (mask kept c) kept_latches part → AreRoles f.names c roles → AreRoles f.names part roles
  roles_of_part {roles = roles} p are = record {
    few = are.few;
    inputs_each = are.inputs_each ∙ sym (ap length p.input_names);
    outputs_each = are.outputs_each ∙ sym (ap length p.output_names);
    inputs_are = λ k lt. subst (λ (symbols : List (Option (List ℕ))). IsSymbol f.names symbols k
        (get_or roles.inputs.items k 0)) (sym p.input_names) (are.inputs_are k lt);
    outputs_are = λ k lt. subst (λ (symbols : List (Option (List ℕ))). IsSymbol f.names symbols k
        (get_or roles.outputs.items k 0)) (sym p.output_names) (are.outputs_are k lt);
    inputs_differ = are.inputs_differ;
    outputs_differ = are.outputs_differ;
    apart = are.apart;
    every = are.every;
  }

  module _ {kept_latches : List Bool} {part : CircuitData} (p : IsPartOf (mask kept c) kept_latches part)
      (one : HasOneValues c) where
    -- a word of the part on the stimulus, which satisfies the formula exactly if the given one does
    record IsAlike (s : StimulusData) (stem lap : List ℕ) : Type 0 where
      other_stem : List ℕ
      other_lap : List ℕ
      on : IsWordOn f.names part s other_stem other_lap
      forth : IsSatisfied f stem lap → IsSatisfied f other_stem other_lap
      back : IsSatisfied f other_stem other_lap → IsSatisfied f stem lap

    alike : {s : StimulusData} {stem lap : List ℕ} → IsWordOn f.names c s stem lap → IsAlike s stem lap
    alike on =
        let m = masked_word on in
        record {
          other_stem = m.other_stem;
          other_lap = m.other_lap;
          on = word_on_part p m.on;
          forth = truth_as f.formula _ _ m.same 0;
          back = truth_as f.formula _ _ (flipped f.formula m.same) 0;
        }

    word_alike : {stem lap : List ℕ} (word : IsLassoWord f.names c stem lap) →
        IsAlike (record { stem = inputs_of word.stem_moments; lap = inputs_of word.lap_moments }) stem lap
    word_alike word = alike (record { word = word; reads = λ t. refl })

    pub verdict_alike : (judgement : Judgement) →
        ((order : Order) → IsInTimeWhereReached order role part → IsJudgementFor order role f part judgement) →
        IsVerdictOn role f c judgement
    verdict_alike Wins told =
        let wins : IsWinningFor (second role) role f part = told (second role) (in_time role part) in
        record {
          satisfied = λ same stem lap word.
              let w = word_alike word in w.back (wins.satisfied same w.other_stem w.other_lap w.on.word);
          violated = λ same stem lap word holds.
              let w = word_alike word in wins.violated same w.other_stem w.other_lap w.on.word (w.forth holds);
        }
    verdict_alike (Loses s) told =
        let loses : IsLosingFor (second role) role f part s = told (second role) (in_time role part) in
        let of_mask = wide_in_whole p loses.wide in
        let wide : AreWide c s.stem s.lap = record { stem_is = of_mask.stem_is; lap_is = of_mask.lap_is } in
        let there = trace_there s distinct one has wide loses.some in
        record {
          wide = wide;
          some = loses.some;
          word = there.word;
          is_word = there.is_word;
          is_wrong = λ stem lap on.
              (let w = alike on in
              let wrong = loses.is_wrong w.other_stem w.other_lap w.on in
              (λ holds. wrong.0 (w.forth holds), λ same. w.back (wrong.1 same)));
        }
