-- A mixed machine is a machine, which reads the opponent's propositions.
use Rattle.std.specs.Prelude.{◌≡◌, ℕ, ◌+◌, ◌^◌, ◌<◌, ◌≤◌, ◌⊎◌, ◌↔◌, Bool, true, false, IsTrue, List, []}
use Rattle.std.specs.Prelude.{◌∷◌, length, map, slice_index_or, if◌then◌else◌, nat_eq}
use Rattle.std.specs.List.{AllPairs, Contains}
use Rattle.std.proofs.Common.{refl, sym, ap, subst, ◌∙◌, inl, inr, arith}
use Rattle.std.proofs.lemmas.Bool.{cases_lt, eq-eqb}
use Rattle.std.proofs.lemmas.List.{get_or_default, get_or_past, same_lists}
use Rattle.std.proofs.lemmas.List.FromFn.{get_or-map-range_with_len}
use Rattle.ps_label.specs.Truth.{is_in}
use Rattle.ps_hoa.specs.Files.{is_among}
use Rattle.ps_hoa.specs.Sound.{AreNames}
use Rattle.ps_machine.specs.Behaviours.{AreSameOn, Behaviour, IsMachine, IsOutput}
use Rattle.ps_machine.specs.Boards.{Board}
use Rattle.ps_machine.specs.Extracting.{HasPropositions, is_others}
use Rattle.ps_machine.proofs.Uniqueness.Rising.{in_cons}
use Rattle.ps_mixing.specs.MixedBoards.{mixed_board, mixed_machine}
use Rattle.ps_mixing.specs.MixedFiles.{mixed_names}
use Rattle.ps_mixing.specs.Mixings.{Mixing, IsMixing, inverse, moved}
use Rattle.ps_mixing.proofs.MovedPropositions.MovedLists.{among_moved, not_same}
use Rattle.ps_mixing.proofs.MixedLetters.{IsBoardMixing}
use Rattle.ps_mixing.proofs.MixedSteps.{names_count}
use Rattle.ps_mixing.proofs.MovedPropositions.MovedLetters.{from_beyond, inverse_is, moved_bit, moved_within, to_within}
use Rattle.ps_mixing.proofs.MovedPropositions.OwnedLists.{moved_rise}

-- ## Lists

among_list : (p : ℕ) (ps : List ℕ) → Contains ps p → is_among p ps ≡ true
among_list p [] (k, within, same) = absurd (omega (arith, within))
among_list p (m ∷ ps) here = elim (in_cons ps here) [
  | inl same ↦ ap (λ (b : Bool). if b then true else is_among p ps) (eq-eqb p m (sym same))
  | inr later ↦ either (nat_eq p m) (among_list p ps later)
]
  where
    either : (b : Bool) {c : Bool} → c ≡ true → (if b then true else c) ≡ true
    either true same = refl
    either false same = same

-- ## Names

module _ {n : ℕ} {is_first : ℕ → Bool} {mixing : Mixing} (is : IsMixing n is_first mixing) where
  name_there : (names : List (List ℕ)) (p : ℕ) (d : List ℕ) → p < length names →
      slice_index_or (mixed_names mixing names) p d ≡ slice_index_or names (mixing.from p) []
  name_there names p d less = get_or-map-range_with_len (λ q. slice_index_or names (mixing.from q) []) 0 (length names) p
      p d less (let e : 0 + p ≡ p = omega arith in e)

  pub name_at : (names : List (List ℕ)) → length names ≡ n → (p : ℕ) →
      slice_index_or (mixed_names mixing names) (mixing.to p) [] ≡ slice_index_or names p []
  name_at names many p = elim (cases_lt p n) [
    | inl less ↦
        let there : mixing.to p < n = to_within is p less in
        name_there names (mixing.to p) [] (omega (arith, there, many)) ∙
        ap (λ (q : ℕ). slice_index_or names q []) (is.back p)
    | inr more ↦
        let still : mixing.to p ≡ p = is.beyond p more in
        get_or_past (mixed_names mixing names) (mixing.to p) []
        (omega (arith, still, more, many, names_count mixing names)) ∙
        sym (get_or_past names p [] (omega (arith, more, many)))
  ]

  pub names_unmixed : (names : List (List ℕ)) → length names ≡ n →
      mixed_names (inverse mixing) (mixed_names mixing names) ≡ names
  names_unmixed names many = same_lists (mixed_names (inverse mixing) (mixed_names mixing names)) names count each
    where
      count : length (mixed_names (inverse mixing) (mixed_names mixing names)) ≡ length names
      count = names_count (inverse mixing) (mixed_names mixing names) ∙ names_count mixing names

      each : (k : ℕ) (d : List ℕ) → k < length (mixed_names (inverse mixing) (mixed_names mixing names)) →
          slice_index_or (mixed_names (inverse mixing) (mixed_names mixing names)) k d ≡ slice_index_or names k d
      each k d within =
          let less : k < length names = omega (arith, within, count) in
          get_or-map-range_with_len (λ q. slice_index_or (mixed_names mixing names) (mixing.to q) []) 0
          (length (mixed_names mixing names)) k k d (omega (arith, less, names_count mixing names))
          (let e : 0 + k ≡ k = omega arith in e) ∙ name_at names many k ∙
          get_or_default names k [] d less

module _ (board : Board) (mixing : Mixing) (is : IsBoardMixing board mixing) (m : Behaviour) (machine : IsMachine m)
    (names : List (List ℕ)) (has : HasPropositions names board m) where
  abbrev n : ℕ
  n = board.propositions

  abbrev mv : ℕ → ℕ
  mv = moved n mixing.from

  abbrev bk : ℕ → ℕ
  bk = moved n mixing.to

  abbrev other : Behaviour
  other = mixed_machine n mixing m

  pub many : length m.names ≡ n
  many = ap length has.names_are ∙ has.as_many

  -- ## Inputs and outputs

  others_first : (b : Bool) (p q : ℕ) → is_others b board p ≡ is_others b board q → board.is_first p ≡ board.is_first q
  others_first true p q same = not_same (board.is_first p) (board.is_first q) same
  others_first false p q same = same

  below : (p : ℕ) → IsTrue (is_among p m.inputs) ⊎ IsTrue (is_among p m.outputs) → p < n
  below p among = (let lt = (machine.each p).1 among in omega (arith, lt, many))

  input_owner : (p : ℕ) → is_among p m.inputs ≡ true → is_others m.is_first board p ≡ true
  input_owner p among = sym (has.reads p (below p (inl among))) ∙ among

  output_owner : (p : ℕ) → is_among p m.outputs ≡ true → is_others m.is_first board p ≡ false
  output_owner p among = sym (has.reads p (below p (inr among))) ∙ not_input (is_among p m.inputs) refl
    where
      not_input : (b : Bool) → is_among p m.inputs ≡ b → is_among p m.inputs ≡ false
      not_input true same = absurd (cc (among, machine.apart p same))
      not_input false same = same

  rise_there : (ps : List ℕ) → ((p : ℕ) → is_among p ps ≡ true → (q : ℕ) → is_among q ps ≡ true →
      board.is_first p ≡ board.is_first q) → AllPairs (λ p q. p < q) ps → AllPairs (λ p q. p < q) (map mixing.to ps)
  rise_there ps alike rise = moved_rise mixing.to (λ p. is_among p ps ≡ true)
      (λ p q one another less. is.order p q less (alike p one q another)) ps (λ p here. among_list p ps here) rise

  pub inputs_there : AllPairs (λ p q. p < q) (map mixing.to m.inputs)
  inputs_there = rise_there m.inputs (λ p one q another. others_first m.is_first p q
      (input_owner p one ∙ sym (input_owner q another))) machine.inputs_rise

  pub outputs_there : AllPairs (λ p q. p < q) (map mixing.to m.outputs)
  outputs_there = rise_there m.outputs (λ p one q another. others_first m.is_first p q
      (output_owner p one ∙ sym (output_owner q another))) machine.outputs_rise

  -- ## The machine

  names_many : length other.names ≡ n
  names_many = names_count mixing m.names ∙ many

  each_there : (p : ℕ) → (p < length other.names) ↔
      (IsTrue (is_among p other.inputs) ⊎ IsTrue (is_among p other.outputs))
  each_there p = (
    λ less. turned ((machine.each (mixing.from p)).0 (before less)),
    λ among. behind (below (mixing.from p) (back among)),
  )
    where
      before : p < length other.names → mixing.from p < length m.names
      before less =
          let lt : mixing.from p < n = to_within (inverse_is is) p (omega (arith, less, names_many)) in
          omega (arith, lt, many)

      behind : mixing.from p < n → p < length other.names
      behind lt =
          let less : mixing.to (mixing.from p) < n = to_within is (mixing.from p) lt in
          let same : mixing.to (mixing.from p) ≡ p = is.forth p in
          omega (arith, less, same, names_many)

      turned : IsTrue (is_among (mixing.from p) m.inputs) ⊎ IsTrue (is_among (mixing.from p) m.outputs) →
          IsTrue (is_among p other.inputs) ⊎ IsTrue (is_among p other.outputs)
      turned (inl among) = inl (subst IsTrue (sym (among_moved is m.inputs p)) among)
      turned (inr among) = inr (subst IsTrue (sym (among_moved is m.outputs p)) among)

      back : IsTrue (is_among p other.inputs) ⊎ IsTrue (is_among p other.outputs) →
          IsTrue (is_among (mixing.from p) m.inputs) ⊎ IsTrue (is_among (mixing.from p) m.outputs)
      back (inl among) = inl (subst IsTrue (among_moved is m.inputs p) among)
      back (inr among) = inr (subst IsTrue (among_moved is m.outputs p) among)

  same_before : (x y : ℕ) → AreSameOn other.inputs x y → AreSameOn m.inputs (bk x) (bk y)
  same_before x y same p among = bit x ∙ same (mixing.to p) there ∙ sym (bit y)
    where
      there : IsTrue (is_among (mixing.to p) other.inputs)
      there = subst IsTrue
          (sym (among_moved is m.inputs (mixing.to p) ∙ ap (λ (q : ℕ). is_among q m.inputs) (is.back p))) among

      bit : (z : ℕ) → is_in p (bk z) ≡ is_in (mixing.to p) z
      bit z = moved_bit n mixing.to z p (λ le. is.beyond p le)

  output_there : (y : ℕ) → IsOutput m y → IsOutput other (mv y)
  output_there y output = record {
    within = subst (λ (k : ℕ). mv y < 2 ^ k) (sym names_many)
        (moved_within is y (subst (λ (k : ℕ). y < 2 ^ k) many output.within));
    own = λ p not_among. moved_bit n mixing.from y p (λ le. from_beyond is p le) ∙
        output.own (mixing.from p) (sym (among_moved is m.outputs p) ∙ not_among);
  }

  pub machine_there : AreNames other.names → IsMachine other
  machine_there are_names = record {
    few_names = subst (λ (k : ℕ). k ≤ 64) (sym (names_count mixing m.names)) machine.few_names;
    are_names = are_names;
    inputs_rise = inputs_there;
    outputs_rise = outputs_there;
    each = each_there;
    apart = λ p among. among_moved is m.outputs p ∙
        machine.apart (mixing.from p) (subst IsTrue (among_moved is m.inputs p) among);
    player = machine.player;
    some = machine.some;
    next_within = λ memory x less. machine.next_within memory (bk x) less;
    plays_own = λ memory x less. output_there (m.plays memory (bk x)) (machine.plays_own memory (bk x) less);
    next_heeds = λ memory x y less same. machine.next_heeds memory (bk x) (bk y) less (same_before x y same);
    plays_heeds = λ memory x y less same.
        ap mv (machine.plays_heeds memory (bk x) (bk y) less (same_before x y same));
    blind = λ first memory x y less. ap mv (machine.blind first memory (bk x) (bk y) less);
  }

  pub propositions_there : HasPropositions (mixed_names mixing names) (mixed_board mixing board) other
  propositions_there = record {
    names_are = ap (mixed_names mixing) has.names_are;
    as_many = names_count mixing names ∙ has.as_many;
    reads = λ p less. among_moved is m.inputs p ∙ has.reads (mixing.from p) (to_within (inverse_is is) p less) ∙
        by_player m.is_first p;
  }
    where
      by_player : (b : Bool) (p : ℕ) → is_others b board (mixing.from p) ≡ is_others b (mixed_board mixing board) p
      by_player true p = refl
      by_player false p = refl
