-- Normal forms of formulas made from others, in a table that grows.
use Rattle.std.proofs.Common.{◌≡◌, ℕ, ◌+◌, ◌<◌, ◌≤◌, Bool, true, false, not, List, [], ◌∷◌, ◌++◌, length, Some, refl}
use Rattle.std.proofs.Common.{ap, sym, ◌∙◌}
use Rattle.std.proofs.Common.{subst, inl, inr, arith, get_or, take, Result, Ok, Err, append_assoc, append-nil}
use Rattle.std.proofs.Common.{length-append}
use Rattle.std.proofs.lemmas.Bool.{false≢true}
use Rattle.std.proofs.lemmas.Option.{slice_get-get_or, slice_get_within}
use Rattle.std.proofs.lemmas.List.{length-take}
use Rattle.std.specs.List.{slice_get}
use Rattle.std.specs.Result.{IfOk}
use Rattle.std.specs.Prelude.{◌↔◌}
use Rattle.ps_formula.specs.declared.node.Node.{Node}
use Rattle.ps_formula.specs.declared.normal_form.Forms.{Forms}
use Rattle.ps_formula.specs.declared.normal_node.NormalNode.{NormalNode}
use Rattle.ps_formula.specs.declared.normal_node.NormalNode.TheVariants.{Constant, Proposition, Negated, And, Or, Next}
use Rattle.ps_formula.specs.declared.normal_node.NormalNode.TheVariants.{Until, Release}
use Rattle.ps_formula.specs.Formulas.{Formula, constant, proposition, not_of, and_of, or_of, implies, iff, next, until}
use Rattle.ps_formula.specs.Formulas.{release, weak_until, finally, globally, IsAdded, formula_at, formulas_of, nth}
use Rattle.ps_formula.specs.Satisfaction.{Satisfies, IsDecidedWord}
use Rattle.ps_formula.specs.NormalForms.{NormalFormula, truth, literal, both, either, after, reaches, keeps}
use Rattle.ps_formula.specs.NormalForms.{IsNormalForm, IsNormalOver, IsNormalTable, normal_formula_at, plain}
use Rattle.ps_formula.specs.Inner.Forms.{AreForms, AreKnown, AreTrees, AreWithin, EachWithin, IsMade}
use Rattle.ps_formula.proofs.Dualities.{keeps_like, not_both, not_not, reaches_like, no_reach_keeps, keeps_is_no_reach}
use Rattle.ps_formula.proofs.NormalTrees.{added-tree, normal_formula_at-append}
use Rattle.ps_formula.proofs.Tables.{get_front, old_or_pushed}
use Rattle.ps_formula.proofs.Trees.{formula_at-take}

-- ## A table that grows

pub form_kept : {old : List NormalNode} (more : List NormalNode) {index : ℕ} {f : Formula} → IsNormalForm old index f →
    IsNormalForm (old ++ more) index f
form_kept {old} more {index} {f} form =
    let same = normal_formula_at-append old more index form.within in
    record {
      within = omega (arith, length-append old more, form.within);
      same = λ w i word. rw same (form.same w i word);
    }

pub forms_kept : {old new : List NormalNode} {most : ℕ} {made : Forms} {f : Formula} {forms : Forms} →
    IsMade old new most made → AreForms old f forms → AreForms new f forms
forms_kept made forms =
    rw made.is (record { formula = form_kept made.more forms.formula; negation = form_kept made.more forms.negation })

pub within_kept : {old new : List NormalNode} {most : ℕ} {made forms : Forms} → IsMade old new most made →
    AreWithin old forms → AreWithin new forms
within_kept {old} made forms = rw made.is (record {
  formula = omega (arith, length-append old made.more, forms.formula);
  negation = omega (arith, length-append old made.more, forms.negation);
})

-- ## Formulas that are equivalent

-- along each word along which formulas are true or false, the two formulas are true at the same indices
pub record AreEquivalent (f g : Formula) : Type 0 where
  pub same : (w : ℕ → ℕ) (i : ℕ) → IsDecidedWord w → (Satisfies f w i) ↔ (Satisfies g w i)

pub form_like : {nodes : List NormalNode} {index : ℕ} {f g : Formula} → AreEquivalent f g → IsNormalForm nodes index f →
    IsNormalForm nodes index g
form_like equivalent form = record {
  within = form.within;
  same = λ w i word. (
    λ s. (equivalent.same w i word).0 ((form.same w i word).0 s),
    λ s. (form.same w i word).1 ((equivalent.same w i word).1 s),
  );
}

negated : {f g : Formula} → AreEquivalent f g → AreEquivalent (not_of f) (not_of g)
negated equivalent = record {
  same = λ w i word. (
    λ h s. h ((equivalent.same w i word).1 s),
    λ h s. h ((equivalent.same w i word).0 s),
  );
}

pub forms_like : {nodes : List NormalNode} {f g : Formula} {forms : Forms} → AreEquivalent f g →
    AreForms nodes f forms →
    AreForms nodes g forms
forms_like equivalent forms = record {
  formula = form_like equivalent forms.formula;
  negation = form_like (negated equivalent) forms.negation;
}

twice : (f : Formula) → AreEquivalent f (not_of (not_of f))
twice f = record { same = λ w i word. (λ s h. h s, λ h. not_not (word.each f i) h) }

-- the forms of the negation are the forms the other way round
pub forms_flipped : {nodes : List NormalNode} {f : Formula} {forms flipped : Forms} → flipped.formula ≡ forms.negation →
    flipped.negation ≡ forms.formula → AreForms nodes f forms → AreForms nodes (not_of f) flipped
forms_flipped {nodes} {f} first second forms = record {
  formula = subst (λ k. IsNormalForm nodes k (not_of f)) (sym first) forms.negation;
  negation = subst (λ k. IsNormalForm nodes k (not_of (not_of f))) (sym second) (form_like (twice f) forms.formula);
}

-- ## Operators by others

pub or_by_and : (a b : Formula) → AreEquivalent (not_of (and_of (not_of a) (not_of b))) (or_of a b)
or_by_and a b = record {
  same = λ w i word. (
    λ h. elim (word.each a i) [
      | inl s ↦ inl s
      | inr not_a ↦ elim (word.each b i) [ inl s ↦ inr s | inr not_b ↦ absurd (h (not_a, not_b)) ]
    ],
    λ h two. elim h [ inl s ↦ two.0 s | inr s ↦ two.1 s ],
  );
}

-- a conjunction with its sides exchanged has the same forms
pub and_turned : {nodes : List NormalNode} {forms : Forms} {a b : Formula} → AreForms nodes (and_of b a) forms →
    AreForms nodes (and_of a b) forms
and_turned forms = forms_like (record { same = λ w i word. (λ s. (s.1, s.0), λ s. (s.1, s.0)) }) forms

pub implies_by_or : (a b : Formula) → AreEquivalent (or_of (not_of a) b) (implies a b)
implies_by_or a b = record {
  same = λ w i word. (
    λ h s. elim h [ inl not_a ↦ absurd (not_a s) | inr t ↦ t ],
    λ h. elim (word.each a i) [ inl s ↦ inr (h s) | inr not_a ↦ inl not_a ],
  );
}

pub iff_by_or : (a b : Formula) → AreEquivalent (and_of (or_of (not_of a) b) (or_of (not_of b) a)) (iff a b)
iff_by_or a b = record {
  same = λ w i word. (
    λ h. (((implies_by_or a b).same w i word).0 h.0, ((implies_by_or b a).same w i word).0 h.1),
    λ h. (((implies_by_or a b).same w i word).1 h.0, ((implies_by_or b a).same w i word).1 h.1),
  );
}

pub release_by_until : (a b : Formula) → AreEquivalent (not_of (until (not_of a) (not_of b))) (release a b)
release_by_until a b = record {
  same = λ w i word. (
    λ h. keeps_like (λ k s. not_not (word.each a k) s) (λ k s. not_not (word.each b k) s) i
        (no_reach_keeps (λ k. word.each (not_of a) k) i h),
    λ h. keeps_is_no_reach i (keeps_like (λ k s t. t s) (λ k s t. t s) i h),
  );
}

pub weak_until_by_release : (a b : Formula) → AreEquivalent (release b (or_of a b)) (weak_until a b)
weak_until_by_release a b = record { same = λ w i word. (λ h. h, λ h. h) }

pub finally_by_until : (a : Formula) → AreEquivalent (until (constant true) a) (finally a)
finally_by_until a = record {
  same = λ w i word. (
    reaches_like (λ k s. tt) (λ k s. s) i,
    reaches_like (λ k s. refl) (λ k s. s) i,
  );
}

pub globally_by_release : (a : Formula) → AreEquivalent (release (constant false) a) (globally a)
globally_by_release a = record {
  same = λ w i word. (
    keeps_like (λ k s. false≢true s) (λ k s. s) i,
    keeps_like (λ k s. absurd s) (λ k s. s) i,
  );
}

-- ## Two nodes

added_more : {old new : List NormalNode} {node : NormalNode} {index : ℕ} → IsAdded old node new index →
    (more : List NormalNode) × (new ≡ old ++ more) × (length more ≤ 1)
added_more {old} {new} {node} added = elim added.rest [
  | inl known ↦ ([], known.0 ∙ sym (append-nil old), omega arith)
  | inr fresh ↦ (node ∷ [], fresh.0, omega arith)
]

pub pair_made : {old mid new : List NormalNode} {first second : NormalNode} (forms : Forms) →
    IsAdded old first mid forms.formula → IsAdded mid second new forms.negation → IsMade old new 2 forms
pair_made {old} {mid} {new} {first} {second} forms one two =
    let a = added_more one in
    let b = added_more two in
    let low : forms.formula < length mid = slice_get_within mid forms.formula first one.there in
    record {
      more = a.0 ++ b.0;
      is = b.1 ∙ ap (λ (l : List NormalNode). l ++ b.0) a.1 ∙ append_assoc old a.0 b.0;
      few = omega (arith, length-append a.0 b.0, a.2, b.2);
      within = record {
        formula = omega (arith, ap length b.1, length-append mid b.0);
        negation = slice_get_within new forms.negation second two.there;
      };
    }

pub pair_trees : {old mid new : List NormalNode} {first second : NormalNode} (forms : Forms) → IsNormalTable new →
    IsNormalOver (length old) first → IsNormalOver (length old) second →
    IsAdded old first mid forms.formula → IsAdded mid second new forms.negation → AreTrees old new first second forms
pair_trees {old} {mid} {new} {first} {second} forms table over_first over_second one two =
    let b = added_more two in
    let whole = pair_made forms one two in
    let there : slice_get new forms.formula ≡ Some first =
    subst (λ (l : List NormalNode). slice_get l forms.formula ≡ Some first) (sym b.1)
    (get_front mid b.0 first forms.formula one.there) in
    record {
      first = added-tree old whole.more new first forms.formula table there whole.is over_first;
      second = added-tree old whole.more new second forms.negation table two.there whole.is over_second;
    }

-- ## Operators that have nodes of their own

form_of_tree : {nodes : List NormalNode} {index : ℕ} (tree : NormalFormula) {f : Formula} → index < length nodes →
    normal_formula_at nodes index ≡ tree →
    ((w : ℕ → ℕ) (i : ℕ) → IsDecidedWord w → (Satisfies (plain tree) w i) ↔ (Satisfies f w i)) →
    IsNormalForm nodes index f
form_of_tree tree within is same = record { within = within; same = λ w i word. rw is (same w i word) }

pub constant_forms : {old new : List NormalNode} {forms : Forms} (b : Bool) → AreWithin new forms →
    AreTrees old new (Constant b) (Constant (not b)) forms → AreForms new (constant b) forms
constant_forms true within trees = record {
  formula = form_of_tree (truth true) within.formula trees.first (λ w i word. (λ s. s, λ s. s));
  negation = form_of_tree (truth false) within.negation trees.second
      (λ w i word. (λ s. absurd (false≢true s), λ s. absurd (s refl)));
}
constant_forms false within trees = record {
  formula = form_of_tree (truth false) within.formula trees.first (λ w i word. (λ s. s, λ s. s));
  negation = form_of_tree (truth true) within.negation trees.second (λ w i word. (λ _ s. false≢true s, λ _. refl));
}

pub proposition_forms : {old new : List NormalNode} {forms : Forms} (p : ℕ) → AreWithin new forms →
    AreTrees old new (Proposition p) (Negated p) forms → AreForms new (proposition p) forms
proposition_forms p within trees = record {
  formula = form_of_tree (literal false p) within.formula trees.first (λ w i word. (λ s. s, λ s. s));
  negation = form_of_tree (literal true p) within.negation trees.second (λ w i word. (λ s. s, λ s. s));
}

pub both_forms : {old new : List NormalNode} {f g forms : Forms} (a b : Formula) → AreWithin new forms →
    AreTrees old new (And f.formula g.formula) (Or f.negation g.negation) forms → AreForms old a f → AreForms old b g →
    AreForms new (and_of a b) forms
both_forms {old} {new} {f} {g} a b within trees left right =
    let at = normal_formula_at old in
    record {
      formula = form_of_tree (both (at f.formula) (at g.formula)) within.formula trees.first (λ w i word. (
        λ s. ((left.formula.same w i word).0 s.0, (right.formula.same w i word).0 s.1),
        λ s. ((left.formula.same w i word).1 s.0, (right.formula.same w i word).1 s.1),
      ));
      negation = form_of_tree (either (at f.negation) (at g.negation)) within.negation trees.second (λ w i word. (
        λ s two. elim s [
          | inl s ↦ (left.negation.same w i word).0 s two.0
          | inr s ↦ (right.negation.same w i word).0 s two.1
        ],
        λ s. elim (not_both (word.each a i) s) [
          | inl s ↦ inl ((left.negation.same w i word).1 s)
          | inr s ↦ inr ((right.negation.same w i word).1 s)
        ],
      ));
    }

pub next_forms : {old new : List NormalNode} {f forms : Forms} (a : Formula) → AreWithin new forms →
    AreTrees old new (Next f.formula) (Next f.negation) forms → AreForms old a f → AreForms new (next a) forms
next_forms {old} {new} {f} a within trees inner = record {
  formula = form_of_tree (after (normal_formula_at old f.formula)) within.formula trees.first
      (λ w i word. inner.formula.same w (i + 1) word);
  negation = form_of_tree (after (normal_formula_at old f.negation)) within.negation trees.second
      (λ w i word. inner.negation.same w (i + 1) word);
}

pub until_forms : {old new : List NormalNode} {f g forms : Forms} (a b : Formula) → AreWithin new forms →
    AreTrees old new (Until f.formula g.formula) (Release f.negation g.negation) forms → AreForms old a f →
    AreForms old b g → AreForms new (until a b) forms
until_forms {old} {new} {f} {g} a b within trees left right =
    let at = normal_formula_at old in
    record {
      formula = form_of_tree (reaches (at f.formula) (at g.formula)) within.formula trees.first (λ w i word. (
        reaches_like (λ k s. (left.formula.same w k word).0 s) (λ k s. (right.formula.same w k word).0 s) i,
        reaches_like (λ k s. (left.formula.same w k word).1 s) (λ k s. (right.formula.same w k word).1 s) i,
      ));
      negation = form_of_tree (keeps (at f.negation) (at g.negation)) within.negation trees.second (λ w i word. (
        λ s. keeps_is_no_reach i
            (keeps_like (λ k s. (left.negation.same w k word).0 s) (λ k s. (right.negation.same w k word).0 s) i s),
        λ s. keeps_like (λ k s. (left.negation.same w k word).1 s) (λ k s. (right.negation.same w k word).1 s) i
            (no_reach_keeps (λ k. word.each a k) i s),
      ));
    }

-- ## Forms of several formulas

pub known_forms : {nodes : List NormalNode} {known : List Forms} {trees : List Formula} → AreKnown nodes known trees →
    (k : ℕ) (d : Forms) → k < length known → AreForms nodes (nth trees k) (get_or known k d)
known_forms {known = known} are k d within = are.each k (get_or known k d) (slice_get-get_or known k d within)

pub known_within : {nodes : List NormalNode} {known : List Forms} {trees : List Formula} → AreKnown nodes known trees →
    EachWithin nodes known
known_within are k forms at = record {
  formula = (are.each k forms at).formula.within;
  negation = (are.each k forms at).negation.within;
}

pub known_kept : {old new : List NormalNode} {most : ℕ} {made : Forms} {known : List Forms} {trees : List Formula} →
    IsMade old new most made → AreKnown old known trees → AreKnown new known trees
known_kept made are = record { each = λ k forms at. forms_kept made (are.each k forms at) }

pub known_more : {nodes : List NormalNode} {known : List Forms} {trees : List Formula} {forms : Forms} →
    AreKnown nodes known trees → AreForms nodes (nth trees (length known)) forms →
    AreKnown nodes (known ++ forms ∷ []) trees
known_more {nodes} {known} {trees} {forms} are here = record {
  each = λ k other at. elim (old_or_pushed known forms other k at) [
    | inl old ↦ are.each k other old
    | inr new ↦ subst (λ (f : Forms). AreForms nodes (nth trees k) f) new.1
        (subst (λ (n : ℕ). AreForms nodes (nth trees n) forms) (sym new.0) here)
  ];
}

-- the forms of the last of some nodes
pub last_forms : {nodes whole : List Node} {table : List NormalNode} {known : List Forms} (root : ℕ) (forms : Forms) →
    nodes ≡ whole → root < length whole → length known ≡ length (take (root + 1) nodes) →
    AreKnown table known (formulas_of (take (root + 1) nodes)) → forms ≡ get_or known root forms →
    AreForms table (formula_at whole root) forms
last_forms {nodes} {whole} {table} {known} root forms same low long are read =
    let within : root < length nodes = subst (λ (l : List Node). root < length l) (sym same) low in
    let below : root < length known = omega (arith, length-take (root + 1) nodes) in
    let is : formula_at (take (root + 1) nodes) root ≡ formula_at whole root =
    formula_at-take nodes (root + 1) root (omega arith) within ∙ ap (λ (l : List Node). formula_at l root) same in
    subst (λ (f : Formula). AreForms table f forms) is
    (subst (λ (x : Forms). AreForms table (formula_at (take (root + 1) nodes) root) x) (sym read)
    (known_forms are root forms below))

-- no node is made for a negation
pub flipped_made : {nodes : List NormalNode} {forms flipped : Forms} (most : ℕ) → flipped.formula ≡ forms.negation →
    flipped.negation ≡ forms.formula → AreWithin nodes forms → IsMade nodes nodes most flipped
flipped_made {nodes} {forms} {flipped} most first second within = record {
  more = [];
  is = sym (append-nil nodes);
  few = omega arith;
  within = record {
    formula = subst (λ k. k < length nodes) (sym first) within.negation;
    negation = subst (λ k. k < length nodes) (sym second) within.formula;
  };
}

-- ## Results

-- what follows from two facts about the value of a result
pub if_both : {T E : Type 0} (r : Result T E) (P Q R : T → Type 0) → IfOk r P → IfOk r Q →
    ((x : T) → P x → Q x → R x) → IfOk r R
if_both (Ok x) P Q R p q follows = follows x p q
if_both (Err e) P Q R p q follows = tt
