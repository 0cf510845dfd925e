-- A fair cycle among the edges of the product whose priorities are at most d, with a walk to it from the first vertex:
-- the letters along it are a lasso that satisfies the tableau's formula, and d is the greatest priority of the
-- automaton's steps along the lap.
use Rattle.std.proofs.Common.{◌≡◌, ℕ, zero, suc, ◌+◌, ◌*◌, ◌-◌, ◌%◌, ◌<◌, ◌≤◌, List, [], ◌∷◌, length}
use Rattle.std.proofs.Common.{get_or, All, refl, sym, ap, subst, ◌∙◌, arith}
use Rattle.std.specs.Prelude.{Contains, IsTrue}
use Rattle.std.proofs.Math.Nat.{le-mul_of_pos_right}
use Rattle.std.proofs.Math.Numerals.{add-one}
use Rattle.std.proofs.lemmas.Bool.{lt-ltb}
use Rattle.std.proofs.lemmas.List.{get_or-map, length-map}
use Rattle.std.proofs.lemmas.Nat.{mod-mul-add}
use Rattle.std.proofs.lemmas.Option.{get_or_from_slice_get, slice_get_read, slice_get_within}
use Rattle.ps_components.specs.Graphs.{Digraph}
use Rattle.ps_fairness.specs.Marks.{IsEdge, IsFairCycle, Leads}
use Rattle.ps_fairness.specs.declared.edge.Edge.{Edge}
use Rattle.ps_label.specs.Words.{lasso_word}
use Rattle.ps_formula.specs.Formulas.{Formula}
use Rattle.ps_formula.specs.NormalForms.{NormalFormula}
use Rattle.ps_formula.specs.Satisfaction.{Satisfies}
use Rattle.ps_formula.proofs.LassoTruths.{lasso_is_decided}
use Rattle.ps_tableau.specs.Covers.{SatisfiesAll}
use Rattle.ps_tableau.specs.Runs.{IsFairRun, Tableau}
use Rattle.ps_tableau.proofs.Sound.{fair_run_satisfies_lem}
use Rattle.ps_automaton.specs.Autos.{Auto, greatest_along, state_behind}
use Rattle.ps_tableau_product.specs.Joints.{IsJointProduct, JointProduct, JointVertex, capped, capped_marks, joint_at}
use Rattle.ps_tableau_product.specs.Products.{IsTableauFor}
use Rattle.ps_tableau_product.proofs.JointProducts.JointWalks.{at_cap, behind_walk, edge_on, joint_letters, joint_reads}
use Rattle.ps_tableau_product.proofs.JointProducts.JointWalks.{uncapped, walk_is_high, walk_is_low}
use Rattle.ps_tableau_product.proofs.LassoWords.LassoWalks.{Walks, along, along_both, goes, in_lap, starts}

abbrev no_slot : Edge
no_slot = record { vertex = 0; slot = 0 }

-- the vertices of a walk as those of its edges
walks : (g : Digraph) (v w : ℕ) (es : List Edge) → Leads g es v w → Walks (λ (e : Edge). e.vertex) (IsEdge g) v es w
walks g v w [] leads = leads
walks g v w (e ∷ es) (at, rest) = (rest.0, at, rest.1, walks g rest.0 w es rest.2)

module _ {a : Auto} {read : ℕ → ℕ} {few : ℕ} {t : Tableau} {p : JointProduct} (is_joint : IsJointProduct a read few t p)
  where
    letters_low : (v w : ℕ) (es : List Edge) → Leads p.graph es v w →
        All (λ letter. letter < few) (joint_letters p es)
    letters_low v w [] leads k d low = absurd (omega arith)
    letters_low v w (e ∷ es) (at, rest) zero d low = (is_joint.sound e rest.0 rest.1).low
    letters_low v w (e ∷ es) (at, rest) (suc k) d low = letters_low rest.0 w es rest.2 k d (omega arith)

    module _ (d : ℕ) (stem lap : List Edge) (cycle : IsFairCycle (capped p d) (capped_marks p d) lap)
        (leads : Leads p.graph stem 0 cycle.start) where
      back : Leads p.graph lap cycle.start cycle.start
      back = uncapped p d cycle.start cycle.start lap cycle.returns

      abbrev stem_letters : List ℕ
      stem_letters = joint_letters p stem

      abbrev lap_letters : List ℕ
      lap_letters = joint_letters p lap

      pub some_letters : 0 < length (joint_letters p lap)
      some_letters = omega (arith, length-map lap (λ (e : Edge). (joint_at p e).letter), cycle.some)

      pub stem_low : All (λ letter. letter < few) (joint_letters p stem)
      stem_low = letters_low 0 cycle.start stem leads

      pub lap_low : All (λ letter. letter < few) (joint_letters p lap)
      lap_low = letters_low cycle.start cycle.start lap back

      -- ## The automaton

      pub own_there : state_behind a a.start (joint_reads p read stem) ≡ (p.vertex cycle.start).own
      own_there =
          ap (λ (v : JointVertex). state_behind a v.own (joint_reads p read stem)) (sym is_joint.first)
          ∙ behind_walk is_joint 0 cycle.start stem leads

      pub own_back : state_behind a (p.vertex cycle.start).own (joint_reads p read lap) ≡ (p.vertex cycle.start).own
      own_back = behind_walk is_joint cycle.start cycle.start lap back

      pub greatest_is : greatest_along a (p.vertex cycle.start).own (joint_reads p read lap) ≡ d
      greatest_is =
          let m = cycle.each p.marks.count (omega arith) in
          let high = walk_is_high is_joint cycle.start cycle.start lap m.at m.edge back m.is in
          let low = walk_is_low is_joint d cycle.start cycle.start lap cycle.returns in
          let is = at_cap p d lap m in
          omega arith

      -- ## The tableau

      abbrev edge : ℕ → Edge
      edge = along no_slot stem lap

      edge_goes : (i : ℕ) → IsEdge p.graph (edge i) (edge (suc i)).vertex
      edge_goes = goes (λ (e : Edge). e.vertex) (IsEdge p.graph) no_slot 0 cycle.start stem lap
          (walks p.graph 0 cycle.start stem leads)
          (walks p.graph cycle.start cycle.start lap back)
          cycle.some

      edge_starts : (edge 0).vertex ≡ 0
      edge_starts = starts (λ (e : Edge). e.vertex) (IsEdge p.graph) no_slot 0 cycle.start stem lap
          (walks p.graph 0 cycle.start stem leads)
          (walks p.graph cycle.start cycle.start lap back)
          cycle.some

      abbrev word : ℕ → ℕ
      word = lasso_word stem_letters lap_letters

      letter_at : (i : ℕ) → word i ≡ (joint_at p (edge i)).letter
      letter_at =
          along_both (λ (e : Edge) (n : ℕ). n ≡ (joint_at p e).letter) no_slot 0 stem lap stem_letters lap_letters
          (sym (length-map stem (λ (e : Edge). (joint_at p e).letter)))
          (sym (length-map lap (λ (e : Edge). (joint_at p e).letter)))
          cycle.some
          (λ k low. get_or-map (λ (e : Edge). (joint_at p e).letter) stem k no_slot 0 low)
          (λ k low. get_or-map (λ (e : Edge). (joint_at p e).letter) lap k no_slot 0 low)

      -- an edge of the cycle that bears the mark of an until comes again behind each index
      bearing : (until : NormalFormula) → Contains t.untils until → (i : ℕ) →
          (j : ℕ) × (i ≤ j) × ¬ Contains (joint_at p (edge j)).cover.postponed until
      bearing until known i =
          let mark = known.0 in
          let many = is_joint.one_each in
          let low : mark < p.marks.count = (let k = known.1 in omega arith) in
          let m = cycle.each mark (omega arith) in
          let within = slice_get_within lap m.at m.edge m.is in
          let same = get_or_from_slice_get lap m.at m.edge m.edge m.is in
          let on = edge_on p.graph cycle.start cycle.start lap m.at m.edge back within in
          let here : IsEdge p.graph m.edge on.0 = subst (λ (e : Edge). IsEdge p.graph e on.0) same on.1 in
          let there = slice_get_read t.untils (length t.untils) mark until refl known.1 (sym known.2) in
          let has = rw (lt-ltb mark p.marks.count low) at m.has in
          let j = length stem + (i * length lap + m.at) in
          let far = le-mul_of_pos_right i cycle.some in
          let place : j - length stem ≡ i * length lap + m.at = omega arith in
          let is : edge j ≡ m.edge =
          in_lap no_slot stem lap j (omega arith)
          ∙ ap (λ (n : ℕ). get_or lap (n % length lap) no_slot) place
          ∙ ap (λ (n : ℕ). get_or lap n no_slot) (mod-mul-add i (length lap) m.at within)
          ∙ get_or_from_slice_get lap m.at m.edge no_slot m.is in (
            j,
            omega arith,
            subst (λ (e : Edge). ¬ Contains (joint_at p e).cover.postponed until) (sym is)
                ((is_joint.marked m.edge on.0 mark until here there).0 has),
          )

      is_fair_run : IsFairRun t word (λ i. (p.vertex (edge i).vertex).state) (λ i. (joint_at p (edge i)).cover)
      is_fair_run = record {
        is_run = record {
          state = λ i. (is_joint.sound (edge i) (edge (suc i)).vertex (edge_goes i)).from;
          cover = λ i. (is_joint.sound (edge i) (edge (suc i)).vertex (edge_goes i)).cover;
          meets = λ i. subst (λ (n : ℕ). IsTrue ((joint_at p (edge i)).cover.guard n)) (sym (letter_at i))
              (is_joint.sound (edge i) (edge (suc i)).vertex (edge_goes i)).serves;
          leads = λ i. ap (λ (k : ℕ). t.obligations (p.vertex (edge k).vertex).state) (add-one i)
              ∙ (is_joint.sound (edge i) (edge (suc i)).vertex (edge_goes i)).next;
        };
        fair = record { often = bearing };
      }

      pub joint_satisfied : (f : Formula) → IsTableauFor t 0 f →
          Satisfies f (lasso_word (joint_letters p stem) (joint_letters p lap)) 0
      joint_satisfied f is_for =
          let all = fair_run_satisfies_lem t word (λ i. (p.vertex (edge i).vertex).state)
          (λ i. (joint_at p (edge i)).cover) is_for.tableau is_fair_run in
          let here : (p.vertex (edge 0).vertex).state ≡ 0 =
          ap (λ (v : ℕ). (p.vertex v).state) edge_starts ∙ ap (λ (v : JointVertex). v.state) is_joint.first in
          (is_for.same word 0 (lasso_is_decided stem_letters lap_letters some_letters)).0
          (subst (λ (q : ℕ). SatisfiesAll (t.obligations q) word 0) here all)
