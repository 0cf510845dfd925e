-- The diagrams of a step are right: a step's letter is the one that the propositions' diagrams make of the step's
-- inputs.
use Rattle.std.proofs.Common.{◌≡◌, ℕ, ◌+◌, ◌^◌, ◌<◌, ◌≤◌, inl, inr, Bool, false, List, [], ◌∷◌, ◌++◌, All}
use Rattle.std.proofs.Common.{length, get_or}
use Rattle.std.proofs.Common.{Some, length-append, sym, ap, subst, ◌∙◌, arith}
use Rattle.std.specs.Prelude.{is_some}
use Rattle.std.specs.List.{Contains}
use Rattle.std.proofs.lemmas.Bool.{cases_lt}
use Rattle.std.proofs.Math.ListN.{get_or-append}
use Rattle.std.proofs.Math.Seq.{get_or-append_seam}
use Rattle.std.proofs.lemmas.List.Elements.{All-push}
use Rattle.std.proofs.lemmas.List.{ext_get_or, get_or-map, get_or_default, length-map}
use Rattle.ps_label.specs.Truth.{is_in}
use Rattle.ps_circuit.specs.Circuits.{IsCircuit}
use Rattle.ps_circuit.specs.Values.{Moment, Steps, bit_of}
use Rattle.ps_diagram.specs.Composing.{IsLetterOfTruths}
use Rattle.ps_diagram.specs.Table.{IsNode, Keeps, Table, leaf_of}
use Rattle.ps_diagram.proofs.TreeOperations.Composing.{bits_after}
use Rattle.ps_diagram.proofs.Letters.{no_bit}
use Rattle.ps_diagram.proofs.TreeOperations.Truths.{leaf_kept}
use Rattle.ps_product.specs.Groups.{IsGroupedBy, IsNodeFor, StandFor}
use Rattle.ps_product.specs.Roles.{AreRoles}
use Rattle.ps_product.specs.Truths.{IsTruth, bits_at, bits_of, truth_at}
use Rattle.ps_product.specs.declared.roles.Roles.{Roles}
use Rattle.ps_product.specs.declared.truth.Truth.{Truth}
use Rattle.ps_product.specs.declared.truth.Truth.TheVariants.{Never}
use Rattle.ps_product.proofs.CircuitFunctions.TruthNodes.{node_for_kept, nodes_held, stand_held, truths_kept}
use Rattle.ps_product.proofs.CircuitFunctions.GroupLemmas.{bits_same}
use Rattle.ps_simulate.specs.Lassos.{IsLetterOf}
use Rattle.ps_simulate.specs.Symbols.{IsSymbol}
use Rattle.ps_tableau_product.specs.Inner.Views.{ArePadded, AreViews, CanTell, HasStepAt, IsOwnStep, moment_of}
use Rattle.ps_tableau_product.specs.Plans.{Scene}
use Rattle.ps_tableau_product.proofs.TableauStates.Scenes.{IsScene}

-- ## Views stay when a store grows

pub tell_kept : {t u : Table} {nodes : List ℕ} {nexts : List Truth} {classes : ℕ} → Keeps t u →
    CanTell t nodes nexts classes → CanTell u nodes nexts classes
tell_kept {t} {u} {nodes} {nexts} {classes} k tell =
    let low = λ (x : ℕ) (lt : x < 2 ^ u.propositions).
    let below : x < 2 ^ t.propositions = rw (← k.propositions) lt in below in
    record {
      nodes_each = tell.nodes_each;
      held = nodes_held nodes k tell.held;
      nexts_held = truths_kept nexts k tell.nexts_held;
      classes_held = k.held classes tell.classes_held;
      total = λ x lt. ap is_some (leaf_kept x k tell.classes_held) ∙ tell.total x (low x lt);
      same = λ x y lx ly e. bits_same nexts k tell.nexts_held x
          ∙ tell.same x y (low x lx) (low y ly)
          (sym (leaf_kept x k tell.classes_held) ∙ e ∙ leaf_kept y k tell.classes_held)
          ∙ sym (bits_same nexts k tell.nexts_held y);
    }

module _ {s : Scene} {latches : List Bool} {t u : Table} {nodes : List ℕ} {nexts : List Truth} {classes : ℕ}
    (k : Keeps t u) (views : AreViews s latches t nodes nexts classes) where
  step_kept : (x : ℕ) → x < 2 ^ t.propositions → HasStepAt s latches u nodes nexts x
  step_kept x lt =
      let step = views.there x lt in
      record {
        outputs = step.outputs;
        whole = step.whole;
        steps = subst (λ (bs : List Bool). Steps s.circuit latches (bits_at s.inputs x) step.outputs bs)
            (sym (bits_same nexts k views.tell.nexts_held x)) step.steps;
        is_letter = step.is_letter;
        is_whole = bits_after nodes k views.tell.held x (λ p. is_in p step.whole) step.is_whole;
      }

  pub view_kept : AreViews s latches u nodes nexts classes
  view_kept = record {
    propositions = k.propositions ∙ views.propositions;
    tell = tell_kept k views.tell;
    there = λ x lt. step_kept x (rw (← k.propositions) lt);
    one = λ m letter next at steps is_letter.
        let own = views.one m letter next at steps is_letter in
        record {
          next_is = own.next_is ∙ sym (bits_same nexts k views.tell.nexts_held letter);
          is_whole = bits_after nodes k views.tell.held letter (λ p. is_in p letter) own.is_whole;
        };
  }

-- ## Letters of steps

module _ {s : Scene} {roles : Roles} (scene : IsScene s roles) {t : Table} {outs : List Truth} {nodes : List ℕ}
    (outs_each : length outs ≡ length roles.outputs.items)
    (padded : ArePadded t (length s.names) roles.outputs.items outs nodes) where
  abbrev r : AreRoles s.names s.circuit roles
  r = scene.roles

  abbrev ins : List ℕ
  ins = roles.inputs.items

  no_output : (p : ℕ) → Contains ins p → (k : ℕ) → k < length roles.outputs.items →
      get_or roles.outputs.items k 0 ≡ p → ⊥
  no_output p there k lt e =
      r.apart p there (k, lt, get_or_default roles.outputs.items k p 0 lt ∙ e)

  -- the letter of a step is the one that the diagrams make of the bits of the inputs
  pub whole_letter : (latches : List Bool) (x whole : ℕ) →
      IsLetterOf s.names s.circuit (moment_of latches (bits_at ins x) (bits_of t outs x)) whole →
      IsLetterOfTruths t nodes x whole
  whole_letter latches x whole is_letter p lt = elim (cases_lt p (length s.names)) [
    | inl below ↦ elim (r.every p below) [
      | inl there ↦
          let k = there.0 in
          let at : get_or ins k 0 ≡ p = get_or_default ins k 0 p there.1 ∙ there.2 in
          let symbol : IsSymbol s.names s.circuit.input_names k p =
          subst (λ (q : ℕ). IsSymbol s.names s.circuit.input_names k q) at (r.inputs_are k there.1) in
          is_letter.inputs k p symbol ∙ get_or-map (λ (q : ℕ). is_in q x) ins k 0 false there.1
          ∙ ap (λ (q : ℕ). is_in q x) at ∙ sym ((padded.stand p below).own (no_output p there) x)
      | inr there ↦
          let k = there.0 in
          let at : get_or roles.outputs.items k 0 ≡ p =
          get_or_default roles.outputs.items k 0 p there.1 ∙ there.2 in
          let symbol : IsSymbol s.names s.circuit.output_names k p =
          subst (λ (q : ℕ). IsSymbol s.names s.circuit.output_names k q) at (r.outputs_are k there.1) in
          let less : k < length outs = omega (arith, there.1, outs_each) in
          is_letter.outputs k p symbol ∙ get_or-map (λ (m : Truth). truth_at t m x) outs k Never false less
          ∙ sym ((padded.stand p below).output k there.1 at x)
    ]
    | inr above ↦
        let high : p < 64 = omega (arith, lt, padded.each) in
        no_bit (length s.names) whole p is_letter.few above ∙ sym (padded.none p x above high)
  ]

  -- what a step reads are the bits of its letter
  inputs_same : (m : Moment) (letter : ℕ) (next : List Bool) → IsCircuit s.circuit →
      Steps s.circuit m.latches m.inputs m.outputs next → IsLetterOf s.names s.circuit m letter →
      m.inputs ≡ bits_at ins letter
  inputs_same m letter next is steps is_letter =
      let wide : length m.inputs ≡ length s.circuit.inputs =
      ap (λ (bs : List Bool). length bs) (sym steps.are_values.inputs_are)
      ∙ length-map s.circuit.inputs (bit_of steps.values) in
      let many = length-map ins (λ (q : ℕ). is_in q letter) in
      let named = is.draft.inputs_named in
      ext_get_or false m.inputs (bits_at ins letter) (omega (arith, wide, many, r.inputs_each, named)) (λ k lt.
      let less : k < length ins = omega (arith, lt, wide, r.inputs_each, named) in
      sym (is_letter.inputs k (get_or ins k 0) (r.inputs_are k less))
      ∙ sym (get_or-map (λ (q : ℕ). is_in q letter) ins k 0 false less))

  module _ {latches : List Bool} {nexts : List Truth} {classes : ℕ} (is : IsCircuit s.circuit)
      (propositions : t.propositions ≡ length s.names) (tell : CanTell t nodes nexts classes)
      (there : (x : ℕ) → x < 2 ^ t.propositions →
      Steps s.circuit latches (bits_at ins x) (bits_of t outs x) (bits_of t nexts x))
      (one : (x : ℕ) (answer next : List Bool) → x < 2 ^ t.propositions →
      Steps s.circuit latches (bits_at ins x) answer next → (answer ≡ bits_of t outs x) × (next ≡ bits_of t nexts x))
    where
      own_step : (m : Moment) (letter : ℕ) (next : List Bool) → m.latches ≡ latches →
          Steps s.circuit m.latches m.inputs m.outputs next → IsLetterOf s.names s.circuit m letter →
          IsOwnStep t nodes nexts letter next
      own_step m letter next at steps is_letter =
          let low : letter < 2 ^ t.propositions = rw propositions is_letter.few in
          let reads = inputs_same m letter next is steps is_letter in
          let here : Steps s.circuit latches (bits_at ins letter) m.outputs next =
          subst (λ (l : List Bool). Steps s.circuit l (bits_at ins letter) m.outputs next) at
          (subst (λ (i : List Bool). Steps s.circuit m.latches i m.outputs next) reads steps) in
          let o = one letter m.outputs next low here in
          let same : m ≡ moment_of latches (bits_at ins letter) (bits_of t outs letter) =
          λ i. record { latches = at i; inputs = reads i; outputs = o.0 i } in
          record {
            next_is = o.1;
            is_whole = whole_letter latches letter letter
                (subst (λ (n : Moment). IsLetterOf s.names s.circuit n letter) same is_letter);
          }

      step_at : (x : ℕ) → x < 2 ^ t.propositions → HasStepAt s latches t nodes nexts x
      step_at x lt =
          let m = moment_of latches (bits_at ins x) (bits_of t outs x) in
          let letter = scene.letters m in
          let same = sym scene.inputs_are in
          let steps : Steps s.circuit latches (bits_at s.inputs x) (bits_of t outs x) (bits_of t nexts x) =
          subst (λ (ps : List ℕ). Steps s.circuit latches (bits_at ps x) (bits_of t outs x) (bits_of t nexts x)) same
          (there x lt) in
          let is_letter : IsLetterOf s.names s.circuit
          (moment_of latches (bits_at s.inputs x) (bits_of t outs x)) letter.0 =
          subst (λ (ps : List ℕ). IsLetterOf s.names s.circuit
          (moment_of latches (bits_at ps x) (bits_of t outs x)) letter.0) same letter.1 in
          record {
            outputs = bits_of t outs x;
            whole = letter.0;
            steps = steps;
            is_letter = is_letter;
            is_whole = whole_letter latches x letter.0 letter.1;
          }

      pub are_views : AreViews s latches t nodes nexts classes
      are_views = record { propositions = propositions; tell = tell; there = step_at; one = own_step }

-- ## Classes of letters

-- a node that tells next latches apart, made from one that has the same leaf at each letter
pub tell_made : {s t : Table} {nodes : List ℕ} {nexts : List Truth} {whole classes leaf : ℕ} →
    ((x : ℕ) → leaf_of s whole x ≡ Some leaf) → Keeps s t → length nodes ≡ 64 → All (IsNode t) nodes →
    All (IsTruth s) nexts → IsNode t classes → IsGroupedBy s t whole classes nexts → CanTell t nodes nexts classes
tell_made {s} {t} {nodes} {nexts} {whole} {classes} {leaf} constant k each held nexts_held classes_held g =
    let low = λ (x : ℕ) (lt : x < 2 ^ t.propositions).
    let below : x < 2 ^ s.propositions = rw (← k.propositions) lt in below in
    record {
      nodes_each = each;
      held = held;
      nexts_held = truths_kept nexts k nexts_held;
      classes_held = classes_held;
      total = λ x lt. g.total x (low x lt);
      same = λ x y lx ly e. bits_same nexts k nexts_held x ∙ (g.same x y (low x lx) (low y ly) e).1
          ∙ sym (bits_same nexts k nexts_held y);
    }

-- ## A diagram for each proposition

-- the diagrams of the first propositions, and diagrams without leaves
pub record Padding (t : Table) (count : ℕ) (list : List ℕ) (outs : List Truth) (nodes : List ℕ) : Type 0 where
  pub few : length nodes ≤ 64
  pub many : count ≤ length nodes
  pub held : All (IsNode t) nodes
  pub stand : (p : ℕ) → p < count → IsNodeFor t list outs p (get_or nodes p 0)
  pub none : (p letter : ℕ) → count ≤ p → p < length nodes → is_some (leaf_of t (get_or nodes p 0) letter) ≡ false

pub padding_first : {t : Table} {list : List ℕ} {outs : List Truth} (nodes : List ℕ) (count : ℕ) →
    length nodes ≡ count → count ≤ 64 → StandFor t list outs nodes → Padding t count list outs nodes
padding_first nodes count each few stand = record {
  few = omega (arith, each, few);
  many = omega (arith, each);
  held = stand_held nodes stand;
  stand = λ p lt. stand p (omega (arith, lt, each));
  none = λ p letter above lt. absurd (omega (arith, above, lt, each));
}

pub padding_more : {t : Table} {count : ℕ} {list : List ℕ} {outs : List Truth} {nodes after : List ℕ} (node : ℕ) →
    Padding t count list outs nodes → after ≡ nodes ++ node ∷ [] → length nodes < 64 → IsNode t node →
    ((letter : ℕ) → is_some (leaf_of t node letter) ≡ false) → Padding t count list outs after
padding_more {t} {count} {list} {outs} {nodes} {after} node p pushed room held none =
    let long : length after ≡ length nodes + 1 = ap length pushed ∙ length-append nodes (node ∷ []) in
    let old = λ (i : ℕ) (lt : i < length nodes).
    let e : get_or after i 0 ≡ get_or nodes i 0 =
    ap (λ (l : List ℕ). get_or l i 0) pushed ∙ get_or-append nodes (node ∷ []) 0 i lt in e in
    let last : get_or after (length nodes) 0 ≡ node =
    ap (λ (l : List ℕ). get_or l (length nodes) 0) pushed ∙ get_or-append_seam nodes node [] 0 in
    record {
      few = omega (arith, long, room);
      many = omega (arith, long, p.many);
      held = subst (All (IsNode t)) (sym pushed) (All-push (IsNode t) nodes node p.held held);
      stand = λ q lt. subst (IsNodeFor t list outs q) (sym (old q (omega (arith, lt, p.many)))) (p.stand q lt);
      none = λ q letter above lt. elim (cases_lt q (length nodes)) [
        | inl below ↦ ap (λ (n : ℕ). is_some (leaf_of t n letter)) (old q below) ∙ p.none q letter above below
        | inr high ↦
            let place : q ≡ length nodes = omega (arith, lt, high, long) in
            ap (λ (n : ℕ). is_some (leaf_of t n letter)) (ap (λ (i : ℕ). get_or after i 0) place ∙ last) ∙ none letter
      ];
    }

pub padding_done : {t : Table} {count : ℕ} {list : List ℕ} {outs : List Truth} {nodes : List ℕ} →
    Padding t count list outs nodes → 64 ≤ length nodes → ArePadded t count list outs nodes
padding_done {nodes = nodes} p full =
    let each : length nodes ≡ 64 = omega (arith, p.few, full) in
    record {
      each = each;
      held = p.held;
      stand = p.stand;
      none = λ q letter above lt. p.none q letter above (omega (arith, lt, each));
    }

pub padded_kept : {t u : Table} {count : ℕ} {list : List ℕ} {outs : List Truth} {nodes : List ℕ} →
    length list ≡ length outs → All (IsTruth t) outs → Keeps t u → count ≤ 64 → ArePadded t count list outs nodes →
    ArePadded u count list outs nodes
padded_kept {t} {u} {count} {list} {outs} {nodes} each all k few p =
    let held = λ (q : ℕ) (lt : q < 64). p.held q 0 (omega (arith, lt, p.each)) in
    record {
      each = p.each;
      held = nodes_held nodes k p.held;
      stand = λ q lt. node_for_kept list outs each all k q (get_or nodes q 0) (p.stand q lt);
      none = λ q letter above lt. ap is_some (leaf_kept letter k (held q lt)) ∙ p.none q letter above lt;
    }
