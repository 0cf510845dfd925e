-- Boards with the covers of their formulas, as they grow; and formulas whose trees are equal.
use Rattle.std.proofs.Common.{◌≡◌, ◌∙◌, ℕ, zero, suc, ◌<◌, ◌≤◌, ◌↔◌, inl, inr, Bool, List, [], ◌∷◌, ◌++◌, Some, true}
use Rattle.std.proofs.Common.{ap, arith}
use Rattle.std.proofs.Common.{get_or, length, subst, sym, Vec}
use Rattle.std.proofs.lemmas.Option.{slice_get-get_or}
use Rattle.std.proofs.lemmas.Bool.{false≢true}
use Rattle.std.specs.Global.{Global}
use Rattle.std.specs.Prelude.{Result}
use Rattle.std.specs.declared.alloc.AllocError.{AllocError}
use Rattle.std.specs.List.{Contains, slice_get}
use Rattle.ps_formula.proofs.NormalTrees.{normal_formula_at-node}
use Rattle.ps_formula.proofs.Tables.{old_or_pushed}
use Rattle.ps_formula.specs.Formulas.{Formula}
use Rattle.ps_formula.specs.Satisfaction.{Satisfies}
use Rattle.ps_formula.specs.NormalForms.{IsNormalOver, IsNormalTable, NormalFormula, normal_formula_at}
use Rattle.ps_formula.specs.NormalForms.{IsNormalForm, normal_formula_of, normal_formulas_of, plain}
use Rattle.ps_formula.specs.declared.normal_node.NormalNode.{NormalNode}
use Rattle.ps_formula.specs.declared.normal_node.NormalNode.TheVariants.{Constant, Proposition, Negated, And, Or, Next}
use Rattle.ps_formula.specs.declared.normal_node.NormalNode.TheVariants.{Until, Release}
use Rattle.ps_tableau.proofs.BoardLemmas.{formulas_kept, makes_kept, set_kept}
use Rattle.ps_tableau.proofs.CoversOfSets.JoinLemmas.{from_map}
use Rattle.ps_tableau.proofs.CoversOfSets.NeedLemmas.{over_more}
use Rattle.ps_tableau.proofs.Members.{first_in, in_one, later_in}
use Rattle.ps_tableau.specs.Boards.{Grows, HasCovers, HaveWays, IsBoard, IsRight, IsSetOf, IsState, IsTableauOf}
use Rattle.ps_tableau.specs.Boards.{formulas_in}
use Rattle.ps_tableau.specs.Inner.Calls.{GivesCovers}
use Rattle.ps_tableau.specs.Inner.SetSteps.{ArePartsOf}
use Rattle.ps_tableau.specs.Needs.{IsNeeded, NeedsOperands}
use Rattle.ps_tableau.specs.Sets.{KeepsSets, IsSet, indices_in}
use Rattle.ps_tableau.specs.Covers.{AreCoversOf, SatisfiesAll}
use Rattle.ps_tableau.specs.declared.board.Board.{Board}
use Rattle.ps_tableau.specs.declared.edge.Edge.{Edge}
use Rattle.ps_tableau.specs.declared.sets.Parts.{Parts}

pub board_kept : {old new : Board} → Grows old new → IsBoard old → IsBoard new
board_kept {old} {new} grows is = record {
  table = rw grows.formulas is.table;
  needs = rw (grows.formulas, grows.needed) is.needs;
  untils = rw (grows.formulas, grows.needed, grows.untils) is.untils;
  sets = grows.sound;
  propositions = grows.guards.propositions ∙ is.propositions;
}

pub ways_kept : {old new : Board} {ways : List (Vec Edge Global)} → Grows old new → HaveWays old ways →
    HaveWays new ways
ways_kept {old} {new} {ways} grows have = record {
  each = λ k covers at need.
      let was : IsNeeded old.needed.items k = rw (← grows.needed) need in
      let made =
      makes_kept {P = AreCoversOf (normal_formula_at old.formulas k ∷ [])} grows (have.each k covers at was) in
      subst (λ (nodes : List NormalNode). HasCovers new (normal_formula_at nodes k ∷ []) covers.items)
      (sym grows.formulas) made;
}

pub right_kept : {old new : Board} {ways : List (Vec Edge Global)} → Grows old new → IsRight old ways → IsRight new ways
right_kept {old} {new} {ways} grows is = record {
  ways = ways_kept grows is.ways;
  count = is.count ∙ ap length (sym grows.formulas);
  initial = subst (λ s. IsState new s) (sym grows.initial)
      (set_kept grows (λ k need. rw grows.needed need) is.initial);
}

pub ways_more : {old new : Board} {ways : List (Vec Edge Global)} (covers : Vec Edge Global) → Grows old new →
    HaveWays old ways → (IsNeeded old.needed.items (length ways) →
    HasCovers new (normal_formula_at old.formulas (length ways) ∷ []) covers.items) →
    HaveWays new (ways ++ covers ∷ [])
ways_more {old} {new} {ways} covers grows have last =
    let kept = ways_kept grows have in
    record {
      each = λ k found at need. elim (old_or_pushed ways covers found k at) [
        | inl there ↦ kept.each k found there need
        | inr here ↦
            let place : k ≡ length ways = here.0 in
            let was : IsNeeded old.needed.items (length ways) = rw (← grows.needed, ← place) need in
            let made = subst (λ n. HasCovers new (normal_formula_at old.formulas n ∷ []) covers.items) (sym place)
            (last was) in
            subst (λ (v : Vec Edge Global). HasCovers new (normal_formula_at new.formulas k ∷ []) v.items) here.1
            (subst (λ (nodes : List NormalNode). HasCovers new (normal_formula_at nodes k ∷ []) covers.items)
            (sym grows.formulas) made)
      ];
    }

-- ## Sets of the board as it was

pub parts_before : {old new : List (ℕ × ℕ)} {set : ℕ} {parts : Parts} → KeepsSets old new → IsSet old set →
    ArePartsOf new set parts → ArePartsOf old set parts
parts_before {old} {new} {set} {parts} extends held is =
    let low = is.earlier in
    let before : IsSet old parts.others = omega arith in
    record {
      held = before;
      earlier = low;
      is = sym (extends.same set held) ∙ is.is
          ∙ ap (λ (s : List ℕ). parts.greatest ∷ s) (extends.same parts.others before);
    }

pub others_of : {P : ℕ → Type 0} {b : Board} {set : ℕ} {parts : Parts} → ArePartsOf b.sets set parts →
    IsSetOf P b set → P parts.greatest × IsSetOf P b parts.others
others_of {P} {b} {set} {parts} is all = (
  all.each parts.greatest (subst (λ (s : List ℕ). Contains s parts.greatest) (sym is.is)
      (first_in parts.greatest (indices_in b.sets parts.others))),
  record {
    held = is.held;
    each = λ k there. all.each k (subst (λ (s : List ℕ). Contains s k) (sym is.is)
        (later_in parts.greatest (indices_in b.sets parts.others) k there));
  },
)

-- ## Equal formulas have equal indices

abbrev AreDistinct : List NormalNode → ℕ → Type 0
AreDistinct nodes n =
    (j k : ℕ) → j < n → k < length nodes → normal_formula_at nodes j ≡ normal_formula_at nodes k → j ≡ k

same_nodes : (nodes : List NormalNode) (j : ℕ) → AreDistinct nodes j → (x y : NormalNode) → IsNormalOver j x →
    IsNormalOver (length nodes) y →
    normal_formula_of (normal_formulas_of nodes) x ≡ normal_formula_of (normal_formulas_of nodes) y → x ≡ y
same_nodes nodes j below (Constant a) (Constant b) over within e = let same : a ≡ b = cc in ap Constant same
same_nodes nodes j below (Proposition p) (Proposition q) over within e = let same : p ≡ q = cc in ap Proposition same
same_nodes nodes j below (Negated p) (Negated q) over within e = let same : p ≡ q = cc in ap Negated same
same_nodes nodes j below (And f g) (And h i) over within e =
    let first = below f h over.0 within.0 cc in let second = below g i over.1 within.1 cc in cc
same_nodes nodes j below (Or f g) (Or h i) over within e =
    let first = below f h over.0 within.0 cc in let second = below g i over.1 within.1 cc in cc
same_nodes nodes j below (Next f) (Next h) over within e = ap Next (below f h over within cc)
same_nodes nodes j below (Until f g) (Until h i) over within e =
    let first = below f h over.0 within.0 cc in let second = below g i over.1 within.1 cc in cc
same_nodes nodes j below (Release f g) (Release h i) over within e =
    let first = below f h over.0 within.0 cc in let second = below g i over.1 within.1 cc in cc
same_nodes nodes j below _ _ over within e = cc

distinct_below : (nodes : List NormalNode) → IsNormalTable nodes → (n : ℕ) → n ≤ length nodes → AreDistinct nodes n
distinct_below nodes table zero few j k low within e = absurd (omega arith)
distinct_below nodes table (suc n) few j k low within e =
    let d : NormalNode = Constant true in
    let x = get_or nodes j d in
    let y = get_or nodes k d in
    let j_in : j < length nodes = omega arith in
    let at_j = slice_get-get_or nodes j d j_in in
    let at_k = slice_get-get_or nodes k d within in
    let below : AreDistinct nodes j =
    λ i l less inside same. distinct_below nodes table n (omega arith) i l (omega arith) inside same in
    let same = same_nodes nodes j below x y (table.earlier j x at_j)
    (over_more y k (length nodes) (omega arith) (table.earlier k y at_k))
    (sym (normal_formula_at-node nodes j x table.earlier at_j) ∙ e
    ∙ normal_formula_at-node nodes k y table.earlier at_k) in
    table.once j k x at_j (at_k ∙ ap Some (sym same))

pub one_index : (nodes : List NormalNode) → IsNormalTable nodes → (j k : ℕ) → j < length nodes → k < length nodes →
    normal_formula_at nodes j ≡ normal_formula_at nodes k → j ≡ k
one_index nodes table j k first second e = distinct_below nodes table (length nodes) (omega arith) j k first second e

-- a formula is in a set exactly if its index is
pub formula_in : (b : Board) → IsBoard b → (set until : ℕ) → IsSetOf (Contains b.untils.items) b set →
    Contains b.untils.items until → Contains (formulas_in b set) (normal_formula_at b.formulas until) →
    Contains (indices_in b.sets set) until
formula_in b board set until all here there =
    let x =
    from_map (normal_formula_at b.formulas) (indices_in b.sets set) (normal_formula_at b.formulas until) there in
    let same = one_index b.formulas board.table x.0 until (board.untils.within x.0 (all.each x.0 x.1))
    (board.untils.within until here) x.2 in
    subst (λ k. Contains (indices_in b.sets set) k) same x.1

-- ## Nodes

pub formula_node : (nodes : List NormalNode) (k : ℕ) (node other : NormalNode) → IsNormalTable nodes →
    slice_get nodes k ≡ Some node → node ≡ other →
    normal_formula_at nodes k ≡ normal_formula_of (normal_formulas_of nodes) other
formula_node nodes k node other table at is =
    normal_formula_at-node nodes k other table.earlier (at ∙ ap (λ (n : NormalNode). Some n) is)

pub covers_by : {old new : Board} {f g : NormalFormula} (r : Result (Vec Edge Global) AllocError) → g ≡ f →
    GivesCovers old new r (f ∷ []) → GivesCovers old new r (g ∷ [])
covers_by {old} {new} r is gives = subst (λ (h : NormalFormula). GivesCovers old new r (h ∷ [])) (sym is) gives

pub operands_known : {b : Board} {index count : ℕ} {node other : NormalNode} → IsBoard b →
    slice_get b.formulas index ≡ Some node → count ≡ index → node ≡ other → IsNormalOver count other
operands_known {b} {index} {count} {node} {other} board at before is = subst (λ n. IsNormalOver n other) (sym before)
    (subst (λ (n : NormalNode). IsNormalOver index n) is (board.table.earlier index node at))

pub operands_needed : {b : Board} (index : ℕ) {node other : NormalNode} → IsBoard b →
    slice_get b.formulas index ≡ Some node → IsNeeded b.needed.items index → node ≡ other →
    NeedsOperands b.needed.items other
operands_needed {b} index {node} {other} board at need is =
    subst (λ (n : NormalNode). NeedsOperands b.needed.items n) is (board.needs.operands index node at need)

pub ways_there : {b : Board} (ways : List (Vec Edge Global)) (k : ℕ) (covers : Vec Edge Global) → HaveWays b ways →
    k < length ways → IsNeeded b.needed.items k → covers ≡ get_or ways k covers →
    HasCovers b (normal_formula_at b.formulas k ∷ []) covers.items
ways_there {b} ways k covers have within need is =
    have.each k covers (slice_get-get_or ways k covers within ∙ ap (λ (v : Vec Edge Global). Some v) (sym is)) need

pub needed_within : (needed : List Bool) (k : ℕ) → IsNeeded needed k → k < length needed
needed_within [] k need = absurd (false≢true need)
needed_within (x ∷ xs) zero need = omega arith
needed_within (x ∷ xs) (suc k) need = let low = needed_within xs k need in omega arith

-- ## The first state

pub tableau_of : {old new : Board} {f : Formula} {nodes : List NormalNode} {root : ℕ} → Grows old new →
    IsState old old.initial → formulas_in old old.initial ≡ normal_formula_at nodes root ∷ [] →
    IsNormalForm nodes root f → IsTableauOf new f
tableau_of {old} {new} {f} {nodes} {root} grows state is normal =
    let g = normal_formula_at nodes root in
    let same : formulas_in new new.initial ≡ g ∷ [] =
    ap (formulas_in new) grows.initial ∙ formulas_kept grows state.held ∙ is in
    record {
      initial = subst (λ s. IsState new s) (sym grows.initial) (set_kept grows (λ k need. rw grows.needed need) state);
      same = λ w i decided. subst (λ (fs : List NormalFormula). SatisfiesAll fs w i ↔ Satisfies f w i) (sym same) (
        λ all. (normal.same w i decided).0 (all.each g (first_in g [])),
        λ holds. record {
          each = λ h there. subst (λ (k : NormalFormula). Satisfies (plain k) w i) (in_one g h there)
              ((normal.same w i decided).1 holds);
        },
      );
    }
