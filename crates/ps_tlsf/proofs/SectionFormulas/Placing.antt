-- The formulas of the sections, placed in a table one after another.
use Rattle.std.proofs.Common.{◌≡◌, ℕ, ◌+◌, ◌<◌, ◌≤◌, List, [], ◌∷◌, ◌++◌, map, length, take, get_or, refl, ap, sym, ◌∙◌}
use Rattle.std.proofs.Common.{add-one, subst}
use Rattle.std.proofs.Math.Seq.{take-suc}
use Rattle.std.proofs.lemmas.List.{map-append, take_all}
use Rattle.std.specs.List.{AllByRecursion}
use Rattle.ps_formula.specs.declared.node.Node.{Node}
use Rattle.ps_tlsf.specs.Specifications as meanings
use Rattle.ps_tlsf.specs.Specifications.{section_formula}
use Rattle.ps_tlsf.specs.SpecificationViews.{formula_in}
use Rattle.ps_tlsf.specs.Trees.{value_of}
use Rattle.ps_tlsf.specs.Inner.Building.{AreIn, IsBuilt, Keeps}
use Rattle.ps_tlsf.specs.Inner.Placing.{ArePlaced, root_of}
use Rattle.ps_tlsf.specs.Inner.StateViews.{written_data}
use Rattle.ps_tlsf.specs.declared.specification.SectionFormula.{SectionFormula}
use Rattle.ps_tlsf.specs.declared.steps.Written.{Written}
use Rattle.ps_tlsf.proofs.SectionFormulas.Building.{all_pushed, keeps_all, keeps_both, kept_in}

abbrev pub formulas_at : List Written → List meanings.SectionFormula
formulas_at ws = map section_formula (map written_data ws)

-- formulas in a table stay when it grows
pub formulas_stay : {old new : List Node} → Keeps old new → (list : List SectionFormula) →
    AreIn old (map root_of list) → map (formula_in new) list ≡ map (formula_in old) list
formulas_stay k [] all = refl
formulas_stay k (f ∷ fs) all = rw (k.same f.root all.0, formulas_stay k fs all.1) refl

pub placed_none : (nodes : List Node) (ws : List Written) (list : List SectionFormula) → list ≡ [] →
    ArePlaced nodes nodes list (formulas_at (take 0 ws))
placed_none nodes ws list e = rw e (record { keeps = keeps_all nodes; valid = tt; are = nothing ws })
  where
    nothing : (vs : List Written) → [] ≡ formulas_at (take 0 vs)
    nothing [] = refl
    nothing (v ∷ vs) = refl

module _ {old mid new : List Node} (list new_list : List SectionFormula) (root : ℕ) (ws : List Written) (k : ℕ)
    (w : Written) (p : ArePlaced old mid list (formulas_at (take k ws)))
    (b : IsBuilt mid (value_of w.ops.items) new root) (h : k < length ws) (is : get_or ws k w ≡ w) where
  abbrev f : SectionFormula
  f = record { section = w.section; span = record { start = w.start; stop = w.stop }; root = root }

  here : formula_in new f ≡ section_formula (written_data w)
  here = λ i. record { section = w.section; span = record { start = w.start; stop = w.stop }; formula = b.is i }

  taken : take (k + 1) ws ≡ take k ws ++ w ∷ []
  taken = rw (add-one k, take-suc ws k w h, is) refl

  at_taken : formulas_at (take k ws ++ w ∷ []) ≡ formulas_at (take k ws) ++ section_formula (written_data w) ∷ []
  at_taken = simp map-append

  are_more : map (formula_in new) (list ++ f ∷ []) ≡ formulas_at (take (k + 1) ws)
  are_more =
      map-append (formula_in new) list (f ∷ [])
      ∙ ap (λ (l : List meanings.SectionFormula). l ++ formula_in new f ∷ []) (formulas_stay b.keeps list p.valid
      ∙ p.are)
      ∙ ap (λ (x : meanings.SectionFormula). formulas_at (take k ws) ++ x ∷ []) here
      ∙ sym (ap (λ (l : List Written). formulas_at l) taken ∙ at_taken)

  valid_more : AreIn new (map root_of (list ++ f ∷ []))
  valid_more = subst (λ (ids : List ℕ). AreIn new ids) (sym (map-append root_of list (f ∷ [])))
      (all_pushed (λ id. id < length new) (map root_of list) root (kept_in b.keeps (map root_of list) p.valid) b.within)

  pub placed_more : new_list ≡ list ++ (let x : SectionFormula
      = record { section = w.section; span = record { start = w.start; stop = w.stop }; root = root } in x) ∷ [] →
      ArePlaced old new new_list (formulas_at (take (k + 1) ws))
  placed_more more = subst (λ (l : List SectionFormula). ArePlaced old new l (formulas_at (take (k + 1) ws))) (sym more)
      (record { keeps = keeps_both p.keeps b.keeps; valid = valid_more; are = are_more })

pub placed_all : {old new : List Node} (list : List SectionFormula) (ws : List Written) (k : ℕ) → length ws ≤ k →
    ArePlaced old new list (formulas_at (take k ws)) → ArePlaced old new list (formulas_at ws)
placed_all {old} {new} list ws k h p =
    subst (λ (l : List Written). ArePlaced old new list (formulas_at l)) (take_all k ws h) p

-- the formulas of the sections, after the whole formula was added to the table
pub placed_kept : {one two three : List Node} {list : List SectionFormula} {formulas : List meanings.SectionFormula} →
    ArePlaced one two list formulas → Keeps two three → map (formula_in three) list ≡ formulas
placed_kept {list = list} p k = formulas_stay k list p.valid ∙ p.are

pub roots_there : {old new : List Node} {list : List SectionFormula} {formulas : List meanings.SectionFormula} →
    ArePlaced old new list formulas → (last : List Node) → Keeps new last →
    AllByRecursion (λ f. f.root < length last) list
roots_there {new = new} {list = list} p last k = each list (kept_in k (map root_of list) p.valid)
  where
    each : (fs : List SectionFormula) → AreIn last (map root_of fs) → AllByRecursion (λ f. f.root < length last) fs
    each [] all = tt
    each (f ∷ fs) all = (all.0, each fs all.1)
