-- No formula has both a controller whose lasso traces satisfy it and an environment whose lasso traces violate it: the
-- two circuits have a joint run, which comes back to earlier latch values, and its word would do both.
-- - `JointStep`, `joint_step`: a step of both circuits, in which each reads what the other one sets
-- - `joint_word`: a word that is the word of a lasso trace of each of the two circuits
-- - `not_both`: the theorem
use Rattle.std.proofs.Common.{◌≡◌, ◌∙◌, ◌+◌, ◌*◌, ◌^◌, ◌<◌, ℕ, zero, suc, Bool, true, false, List, [], ◌∷◌, ◌++◌}
use Rattle.std.proofs.Common.{length}
use Rattle.std.proofs.Common.{Option, arith, get_or, length-append, refl, subst, sym}
use Rattle.std.specs.Prelude.{replicate}
use Rattle.std.proofs.lemmas.List.{length-map, length-replicate}
use Rattle.std.proofs.lemmas.Nat.{mul-add-lt, same_from_place}
use Rattle.ps_circuit.specs.Circuits.{CircuitData, IsCircuit}
use Rattle.ps_circuit.specs.Values.{GoesOn, HasOneValues, Moment, Steps, resets}
use Rattle.ps_machine.specs.declared.key.Order.{Order}
use Rattle.ps_machine.specs.declared.key.Order.TheVariants.{Mealy, Moore}
use Rattle.ps_models.specs.Judgements.{IsWinningFor, NamedFormula}
use Rattle.ps_simulate.specs.Lassos.{AreLetters, IsLetterOf}
use Rattle.ps_simulate.specs.Symbols.{AreDistinct, HasSymbols, IsSymbol}
use Rattle.ps_simulate.specs.declared.role.Role.TheVariants.{Controller, Environment}
use Rattle.ps_simulate.proofs.LapsOfRuns.CountLemmas.{code, code_lt, code_same}
use Rattle.ps_simulate.proofs.LapsOfRuns.LassoLemmas.{GoesOn-append}
use Rattle.ps_traces.specs.Shapes.{IsInTimeWhereReached, IsReachedByTrace}
use Rattle.ps_traces.specs.Traces.{IsLassoWord}
use Rattle.ps_traces.proofs.CircuitRuns.{next_reached, resets_reached, step}
use Rattle.ps_traces.proofs.Returns.{come_back, legs}
use Rattle.ps_traces.proofs.StepLetters.{letters_there}
use Rattle.ps_specification.proofs.RoutedBits.{routed, side_of}

module _ (names : List (List ℕ)) (controllable : List ℕ) (c e : CircuitData) (distinct : AreDistinct names)
    (is_c : IsCircuit c) (is_e : IsCircuit e) (one_c : HasOneValues c) (one_e : HasOneValues e)
    (has_c : HasSymbols Controller names controllable c) (has_e : HasSymbols Environment names controllable e) where
  -- the bits of two lists agree, each at the place of a name in its circuit
  abbrev Agree : (from to : List (Option (List ℕ))) → (bits others : List Bool) → Type 0
  Agree from to bits others =
      (j k p : ℕ) → IsSymbol names from j p → IsSymbol names to k p → get_or others k false ≡ get_or bits j false

  -- the controller reads the environment's outputs, and the environment reads the controller's
  abbrev Reads : (inputs outputs : List Bool) → Type 0
  Reads inputs outputs = Agree e.output_names c.input_names outputs inputs

  abbrev IsRead : (outputs inputs : List Bool) → Type 0
  IsRead outputs inputs = Agree c.output_names e.input_names outputs inputs

  into_c : (outputs : List Bool) → (inputs : List Bool) × (length inputs ≡ length c.input_names) × Reads inputs outputs
  into_c outputs = routed distinct false e.output_names c.input_names has_e.outputs has_c.inputs
      outputs

  into_e : (outputs : List Bool) → (inputs : List Bool) × (length inputs ≡ length e.input_names) ×
      IsRead outputs inputs
  into_e outputs = routed distinct true c.output_names e.input_names has_c.outputs has_e.inputs
      outputs

  -- ## A joint step

  record JointStep (held_c held_e : List Bool) : Type 0 where
    c_inputs : List Bool
    c_outputs : List Bool
    c_next : List Bool
    e_inputs : List Bool
    e_outputs : List Bool
    e_next : List Bool
    c_steps : Steps c held_c c_inputs c_outputs c_next
    e_steps : Steps e held_e e_inputs e_outputs e_next
    c_wide : length c_next ≡ length c.latches
    e_wide : length e_next ≡ length e.latches
    reads : Reads c_inputs e_outputs
    is_read : IsRead c_outputs e_inputs

  -- the environment moves first: its outputs do not depend on its inputs
  joint_mealy : IsInTimeWhereReached Mealy Environment e → (held_c held_e : List Bool) → IsReachedByTrace e held_e →
      length held_c ≡ length c.latches → length held_e ≡ length e.latches → JointStep held_c held_e
  joint_mealy in_time held_c held_e reached wide_c wide_e =
      let before = step e one_e held_e (replicate (length e.inputs) false) wide_e
      (length-replicate (length e.inputs) false) in
      let for_c = into_c before.outputs in
      let at_c = step c one_c held_c for_c.0 wide_c (for_c.1 ∙ is_c.draft.inputs_named) in
      let for_e = into_e at_c.outputs in
      let at_e = step e one_e held_e for_e.0 wide_e (for_e.1 ∙ is_e.draft.inputs_named) in
      let same : before.outputs ≡ at_e.outputs =
      in_time refl held_e _ _ _ _ _ _ reached before.steps at_e.steps in
      record {
        c_inputs = for_c.0;
        c_outputs = at_c.outputs;
        c_next = at_c.next;
        e_inputs = for_e.0;
        e_outputs = at_e.outputs;
        e_next = at_e.next;
        c_steps = at_c.steps;
        e_steps = at_e.steps;
        c_wide = at_c.next_wide;
        e_wide = at_e.next_wide;
        reads = subst (λ (outputs : List Bool). Reads for_c.0 outputs) same for_c.2;
        is_read = for_e.2;
      }

  -- the controller moves first
  joint_moore : IsInTimeWhereReached Moore Controller c → (held_c held_e : List Bool) → IsReachedByTrace c held_c →
      length held_c ≡ length c.latches → length held_e ≡ length e.latches → JointStep held_c held_e
  joint_moore in_time held_c held_e reached wide_c wide_e =
      let before = step c one_c held_c (replicate (length c.inputs) false) wide_c
      (length-replicate (length c.inputs) false) in
      let for_e = into_e before.outputs in
      let at_e = step e one_e held_e for_e.0 wide_e (for_e.1 ∙ is_e.draft.inputs_named) in
      let for_c = into_c at_e.outputs in
      let at_c = step c one_c held_c for_c.0 wide_c (for_c.1 ∙ is_c.draft.inputs_named) in
      let same : before.outputs ≡ at_c.outputs =
      in_time refl held_c _ _ _ _ _ _ reached before.steps at_c.steps in
      record {
        c_inputs = for_c.0;
        c_outputs = at_c.outputs;
        c_next = at_c.next;
        e_inputs = for_e.0;
        e_outputs = at_e.outputs;
        e_next = at_e.next;
        c_steps = at_c.steps;
        e_steps = at_e.steps;
        c_wide = at_c.next_wide;
        e_wide = at_e.next_wide;
        reads = for_c.2;
        is_read = subst (λ (outputs : List Bool). IsRead outputs for_e.0) same for_e.2;
      }

  joint_step : (order : Order) → IsInTimeWhereReached order Controller c → IsInTimeWhereReached order Environment e →
      (held_c held_e : List Bool) → IsReachedByTrace c held_c → IsReachedByTrace e held_e →
      length held_c ≡ length c.latches → length held_e ≡ length e.latches → JointStep held_c held_e
  joint_step Mealy time_c time_e held_c held_e reached_c reached_e wide_c wide_e =
      joint_mealy time_e held_c held_e reached_e wide_c wide_e
  joint_step Moore time_c time_e held_c held_e reached_c reached_e wide_c wide_e =
      joint_moore time_c held_c held_e reached_c wide_c wide_e

  -- ## Letters

  abbrev IsJoint : Moment → Moment → Type 0
  IsJoint n m = Reads n.inputs m.outputs × IsRead n.outputs m.inputs

  abbrev AreJoint : List Moment → List Moment → Type 0
  AreJoint [] [] = Unit {0}
  AreJoint [] (m ∷ ms) = ⊥
  AreJoint (n ∷ ns) [] = ⊥
  AreJoint (n ∷ ns) (m ∷ ms) = IsJoint n m × AreJoint ns ms

  letter_shared : (n m : Moment) (letter : ℕ) → IsJoint n m → IsLetterOf names e m letter → IsLetterOf names c n letter
  letter_shared n m letter joint is = record {
    few = is.few;
    inputs = λ k p s.
        (let there = has_e.outputs.each p s.within
        (side_of distinct false c.input_names has_c.inputs k p s) in
        is.outputs there.0 p there.1 ∙ sym (joint.0 there.0 k p there.1 s));
    outputs = λ k p s.
        (let there = has_e.inputs.each p s.within
        (side_of distinct true c.output_names has_c.outputs k p s) in
        is.inputs there.0 p there.1 ∙ joint.1 k there.0 p s there.1);
  }

  letters_shared : (ns ms : List Moment) (letters : List ℕ) → AreJoint ns ms → AreLetters names e ms letters →
      AreLetters names c ns letters
  letters_shared [] [] letters joint are = are
  letters_shared [] (m ∷ ms) letters joint are = absurd joint
  letters_shared (n ∷ ns) [] letters joint are = absurd joint
  letters_shared (n ∷ ns) (m ∷ ms) [] joint are = absurd are
  letters_shared (n ∷ ns) (m ∷ ms) (letter ∷ letters) joint are =
      (letter_shared n m letter joint.0 are.0, letters_shared ns ms letters joint.1 are.1)

  joint_both : (ns ms ns' ms' : List Moment) → AreJoint ns ms → AreJoint ns' ms' → AreJoint (ns ++ ns') (ms ++ ms')
  joint_both [] [] ns' ms' a b = b
  joint_both [] (m ∷ ms) ns' ms' a b = absurd a
  joint_both (n ∷ ns) [] ns' ms' a b = absurd a
  joint_both (n ∷ ns) (m ∷ ms) ns' ms' a b = (a.0, joint_both ns ms ns' ms' a.1 b)

  joint_many : (ns ms : List Moment) → AreJoint ns ms → length ns ≡ length ms
  joint_many [] [] joint = refl
  joint_many [] (m ∷ ms) joint = absurd joint
  joint_many (n ∷ ns) [] joint = absurd joint
  joint_many (n ∷ ns) (m ∷ ms) joint = omega (arith, joint_many ns ms joint.1)

  -- ## The joint run

  module _ (order : Order) (time_c : IsInTimeWhereReached order Controller c)
      (time_e : IsInTimeWhereReached order Environment e) where
    -- a point of the joint run: the latch values of both circuits, which traces reach
    record Place : Type 0 where
      held_c : List Bool
      held_e : List Bool
      reached_c : IsReachedByTrace c held_c
      reached_e : IsReachedByTrace e held_e
      wide_c : length held_c ≡ length c.latches
      wide_e : length held_e ≡ length e.latches

    step_at : (at : Place) → JointStep at.held_c at.held_e
    step_at at = joint_step order time_c time_e at.held_c at.held_e at.reached_c at.reached_e at.wide_c at.wide_e

    abbrev place : ℕ → Place
    place zero = record {
      held_c = resets c;
      held_e = resets e;
      reached_c = resets_reached c;
      reached_e = resets_reached e;
      wide_c = length-map c.latches (λ l. l.reset);
      wide_e = length-map e.latches (λ l. l.reset);
    }
    place (suc t) = record {
      held_c = (step_at (place t)).c_next;
      held_e = (step_at (place t)).e_next;
      reached_c = next_reached (place t).reached_c (step_at (place t)).c_steps;
      reached_e = next_reached (place t).reached_e (step_at (place t)).e_steps;
      wide_c = (step_at (place t)).c_wide;
      wide_e = (step_at (place t)).e_wide;
    }

    abbrev At : Type 0
    At = List Bool × List Bool

    -- steps of the environment, with joint steps of the controller
    record Goes (s : At) (ms : List Moment) (t : At) : Type 0 where
      ns : List Moment
      c_goes : GoesOn c s.0 ns t.0
      e_goes : GoesOn e s.1 ms t.1
      joint : AreJoint ns ms

    abbrev at : ℕ → At
    at t = ((place t).held_c, (place t).held_e)

    abbrev moment : ℕ → List Moment
    moment t = record {
      latches = (place t).held_e;
      inputs = (step_at (place t)).e_inputs;
      outputs = (step_at (place t)).e_outputs;
    } ∷ []

    stay : (s : At) → Goes s [] s
    stay s = record { ns = []; c_goes = refl; e_goes = refl; joint = tt }

    join : (r s t : At) (xs ys : List Moment) → Goes r xs s → Goes s ys t → Goes r (xs ++ ys) t
    join r s t xs ys a b = record {
      ns = a.ns ++ b.ns;
      c_goes = GoesOn-append c r.0 s.0 t.0 a.ns b.ns a.c_goes b.c_goes;
      e_goes = GoesOn-append e r.1 s.1 t.1 xs ys a.e_goes b.e_goes;
      joint = joint_both a.ns xs b.ns ys a.joint b.joint;
    }

    goes : (t : ℕ) → Goes (at t) (moment t) (at (suc t))
    goes t = let now = step_at (place t) in
        record {
          ns = record { latches = (place t).held_c; inputs = now.c_inputs; outputs = now.c_outputs } ∷ [];
          c_goes = (now.c_next, refl, now.c_steps, refl);
          e_goes = (now.e_next, refl, now.e_steps, refl);
          joint = ((now.reads, now.is_read), tt);
        }

    many : (from count : ℕ) → length (legs Goes stay join at moment goes from count) ≡ count
    many from zero = refl
    many from (suc count) = omega (
      arith,
      length-append (legs Goes stay join at moment goes from count)
          (moment (from + count)),
      many from count,
    )

    small_c : (t : ℕ) → code (place t).held_c < 2 ^ length c.latches
    small_c t = rw (← (place t).wide_c) (code_lt (place t).held_c)

    small_e : (t : ℕ) → code (place t).held_e < 2 ^ length e.latches
    small_e t = rw (← (place t).wide_e) (code_lt (place t).held_e)

    -- a word of both circuits
    record JointWord : Type 0 where
      stem : List ℕ
      lap : List ℕ
      of_c : IsLassoWord names c stem lap
      of_e : IsLassoWord names e stem lap

    word_of : (back : At) (stem lap : List Moment) → 0 < length lap → Goes (at zero) stem back → Goes back lap back →
        JointWord
    word_of back stem lap some there again =
        let stem_letters = letters_there distinct has_e stem in
        let lap_letters = letters_there distinct has_e lap in
        record {
          stem = stem_letters.letters;
          lap = lap_letters.letters;
          of_c = record {
            stem_moments = there.ns;
            lap_moments = again.ns;
            trace = record {
              some = omega (arith, some, joint_many again.ns lap again.joint);
              back = back.0;
              goes_there = there.c_goes;
              comes_back = again.c_goes;
            };
            stem_letters =
                letters_shared there.ns stem stem_letters.letters there.joint stem_letters.are_letters;
            lap_letters = letters_shared again.ns lap lap_letters.letters again.joint lap_letters.are_letters;
          };
          of_e = record {
            stem_moments = stem;
            lap_moments = lap;
            trace = record { some = some; back = back.1; goes_there = there.e_goes; comes_back = again.e_goes };
            stem_letters = stem_letters.are_letters;
            lap_letters = lap_letters.are_letters;
          };
        }

    joint_word : JointWord
    joint_word =
        let width = 2 ^ length e.latches in
        let b = come_back Goes stay join at moment goes
        (λ t. code (place t).held_c * width + code (place t).held_e) (width * 2 ^ length c.latches)
        (λ t. mul-add-lt (code (place t).held_c) width (code (place t).held_e) (2 ^ length c.latches) (small_c t)
        (small_e t)) (λ i j same.
        let both = same_from_place (code (place i).held_c) (code (place i).held_e) (code (place j).held_c)
        (code (place j).held_e) width (small_e i) (small_e j) same in
        let same_c = code_same (place i).held_c (place j).held_c ((place i).wide_c ∙ sym (place j).wide_c) both.0 in
        let same_e = code_same (place i).held_e (place j).held_e ((place i).wide_e ∙ sym (place j).wide_e) both.1 in
        λ x. (same_c x, same_e x)) in
        word_of (at b.to) (legs Goes stay join at moment goes 0 b.to)
        (legs Goes stay join at moment goes b.from b.count) (omega (arith, b.some, many b.from b.count)) b.goes_there
        b.comes_back

pub not_both : (order : Order) (f : NamedFormula) (c e : CircuitData) → AreDistinct f.names → IsCircuit c →
    IsCircuit e → HasOneValues c → HasOneValues e → IsWinningFor order Controller f c →
    IsWinningFor order Environment f e → ⊥
not_both order f c e distinct is_c is_e one_c one_e wins_c wins_e =
    let word = joint_word f.names f.controllable c e distinct is_c is_e one_c one_e wins_c.symbols wins_e.symbols order
    wins_c.in_time wins_e.in_time in
    wins_e.violated refl word.stem word.lap word.of_e (wins_c.satisfied refl word.stem word.lap word.of_c)
