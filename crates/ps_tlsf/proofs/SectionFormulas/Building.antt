-- Tables of formulas that grow.
use Rattle.std.proofs.Common.{◌≡◌, ℕ, ◌+◌, ◌<◌, ◌≤◌, List, [], ◌∷◌, ◌++◌, length, map, arith, refl, ap}
use Rattle.std.proofs.Common.{sym, ◌∙◌, length-append, inl, inr, take, get_or, add-one}
use Rattle.std.specs.Prelude.{reverse, Result, Ok, Err, IfOk, true}
use Rattle.std.specs.declared.alloc.AllocError.{AllocError}
use Rattle.std.proofs.lemmas.List.{take_all}
use Rattle.std.specs.List.{AllByRecursion}
use Rattle.std.proofs.lemmas.List.{reverse-append, map-append}
use Rattle.std.proofs.lemmas.Option.{slice_get_within}
use Rattle.ps_formula.specs.Formulas.{Formula, constant, IsAdded, IsOver, IsTable, formula_at, formula_of, formulas_of}
use Rattle.ps_formula.specs.declared.node.Node.{Node}
use Rattle.ps_formula.proofs.Tables.{table_with}
use Rattle.ps_formula.proofs.Trees.{formula_at-node, formula_at-append, formula_of-front, formulas_of-append}
use Rattle.ps_formula.proofs.Trees.{length-formulas_of}
use Rattle.std.proofs.Math.Seq.{take-suc}
use Rattle.ps_tlsf.specs.Trees.{applied, built, last_of, value_of}
use Rattle.ps_tlsf.specs.declared.stack.Op.{Op}
use Rattle.ps_tlsf.specs.Inner.Building.{AreIn, IsBuilt, IsPushed, Keeps, stack_of}

pub keeps_all : (nodes : List Node) → Keeps nodes nodes
keeps_all nodes = record { longer = omega arith; same = λ k h. refl }

pub keeps_both : {a b c : List Node} → Keeps a b → Keeps b c → Keeps a c
keeps_both {a} {b} {c} p q =
    let pl = p.longer in
    let ql = q.longer in
    record {
      longer = omega arith;
      same = λ k h. let inside : k < length b = omega arith in q.same k inside ∙ p.same k h;
    }

pub is_built : {old new : List Node} {node : Node} {id : ℕ} → IsTable old → IsOver (length old) node →
    IsAdded old node new id → IsBuilt old (formula_of (formulas_of old) node) new id
is_built {old} {new} {node} {id} table over added = elim added.rest [
  | inl known ↦ rw known.0 (record {
    keeps = keeps_all old;
    within = slice_get_within old id node (rw known.0 at added.there);
    is = formula_at-node old id node table.earlier (rw known.0 at added.there);
  })
  | inr more ↦ let grown = table_with table over added in record {
    keeps = record {
      longer = rw more.0 (omega (arith, length-append old (node ∷ [])));
      same = λ k h. rw more.0 (formula_at-append old (node ∷ []) k h);
    };
    within = slice_get_within new id node added.there;
    is = formula_at-node new id node grown.earlier added.there ∙ rw more.0 (rw (formulas_of-append old (node ∷ [])).1
        (formula_of-front (formulas_of old) (formulas_of-append old (node ∷ [])).0 node (rw length-formulas_of over)));
  }
]

-- ## Lists of ids

pub all_pushed : {X : Type 0} (P : X → Type 0) (xs : List X) (x : X) → AllByRecursion P xs → P x →
    AllByRecursion P (xs ++ x ∷ [])
all_pushed P [] x all one = (one, tt)
all_pushed P (y ∷ ys) x all one = (all.0, all_pushed P ys x all.1 one)

pub all_front : {X : Type 0} (P : X → Type 0) (xs : List X) (x : X) → AllByRecursion P (xs ++ x ∷ []) →
    AllByRecursion P xs × P x
all_front P [] x all = (tt, all.0)
all_front P (y ∷ ys) x all = let r = all_front P ys x all.1 in ((all.0, r.0), r.1)

pub kept_in : {old new : List Node} → Keeps old new → (ids : List ℕ) → AreIn old ids → AreIn new ids
kept_in k [] all = tt
kept_in {old} {new} k (id ∷ ids) all = let l = k.longer in let h = all.0 in (omega arith, kept_in k ids all.1)

formulas_kept : {old new : List Node} → Keeps old new → (ids : List ℕ) → AreIn old ids →
    map (λ id. formula_at new id) ids ≡ map (λ id. formula_at old id) ids
formulas_kept k [] all = refl
formulas_kept k (id ∷ ids) all = rw (k.same id all.0, formulas_kept k ids all.1) refl

pub kept_stack : {old new : List Node} → Keeps old new → (ids : List ℕ) → AreIn old ids →
    stack_of new ids ≡ stack_of old ids
kept_stack k ids all = ap reverse (formulas_kept k ids all)

pub stack_pushed : (nodes : List Node) (ids : List ℕ) (id : ℕ) →
    stack_of nodes (ids ++ id ∷ []) ≡ formula_at nodes id ∷ stack_of nodes ids
stack_pushed nodes ids id = simp (map-append, reverse-append)

-- a formula that was added is put on the stack
pub is_pushed : {old new : List Node} {tree : Formula} {id : ℕ} → IsBuilt old tree new id → (ids new_ids : List ℕ) →
    AreIn old ids → new_ids ≡ ids ++ id ∷ [] → IsPushed old (tree ∷ stack_of old ids) new new_ids
is_pushed {old} {new} {tree} {id} built ids new_ids all is = rw is (record {
  keeps = built.keeps;
  valid = all_pushed (λ k. k < length new) ids id (kept_in built.keeps ids all) built.within;
  stack_is = stack_pushed new ids id ∙ (rw (built.is, kept_stack built.keeps ids all) refl);
})

-- the stack before its two last formulas were taken from it
pub two_taken : (nodes : List Node) (ids one two : List ℕ) (f g : ℕ) → ids ≡ one ++ g ∷ [] → one ≡ two ++ f ∷ [] →
    stack_of nodes ids ≡ formula_at nodes g ∷ formula_at nodes f ∷ stack_of nodes two
two_taken nodes ids one two f g e h = rw (e, stack_pushed nodes one g, h, stack_pushed nodes two f) refl

pub two_valid : (nodes : List Node) (ids one two : List ℕ) (f g : ℕ) → ids ≡ one ++ g ∷ [] → one ≡ two ++ f ∷ [] →
    AreIn nodes ids → (f < length nodes) × (g < length nodes)
two_valid nodes ids one two f g e h all =
    let r = all_front (λ k. k < length nodes) one g (rw e at all) in
    ((all_front (λ k. k < length nodes) two f (rw h at r.0)).1, r.1)

pub built-append : (formulas : List Formula) (list : List Op) (op : Op) →
    built formulas (list ++ op ∷ []) ≡ applied op (built formulas list)
built-append formulas [] op = refl
built-append formulas (x ∷ list) op = built-append (applied x formulas) list op

-- one more operand or operator was applied
pub built_more : (formulas : List Formula) (list : List Op) (index : ℕ) (op d : Op) → index < length list →
    get_or list index d ≡ op → built formulas (take (index + 1) list) ≡ applied op (built formulas (take index list))
built_more formulas list index op d h e =
    rw (add-one, take-suc list index d h, e) (built-append formulas (take index list) op)

-- ## The loop that applies operands and operators

module _ {old new : List Node} {stack : List Formula} {ids : List ℕ} (p : IsPushed old stack new ids) where
  pub pushed_keeps : Keeps old new
  pushed_keeps = p.keeps

  pub pushed_valid : AreIn new ids
  pushed_valid = p.valid

  pub pushed_is : stack_of new ids ≡ stack
  pushed_is = p.stack_is

pub pushed_more : (list : List Op) (index : ℕ) (d : Op) {new stack : List Formula} → index < length list →
    new ≡ applied (get_or list index d) stack → stack ≡ built [] (take index list) →
    new ≡ built [] (take (index + 1) list)
pushed_more list index d h e s =
    e ∙ ap (applied (get_or list index d)) s ∙ sym (built_more [] list index (get_or list index d) d h refl)

-- the formula at the end of the loop
pub last_none : (nodes : List Node) (ids : List ℕ) (list : List Op) (index : ℕ) → length ids ≡ 0 →
    length list ≤ index → stack_of nodes ids ≡ built [] (take index list) → constant true ≡ value_of list
last_none nodes [] list index e h s = ap last_of (s ∙ ap (λ (l : List Op). built [] l) (take_all index list h))
last_none nodes (id ∷ ids) list index e h s = absurd (omega arith)

pub last_some : (nodes : List Node) (ids rest : List ℕ) (id : ℕ) (list : List Op) (index : ℕ) →
    ids ≡ rest ++ id ∷ [] → length list ≤ index → stack_of nodes ids ≡ built [] (take index list) →
    formula_at nodes id ≡ value_of list
last_some nodes ids rest id list index e h s =
    ap last_of (sym (stack_pushed nodes rest id) ∙ ap (λ (ks : List ℕ). stack_of nodes ks) (sym e) ∙ s
    ∙ ap (λ (l : List Op). built [] l) (take_all index list h))

pub id_valid : (nodes : List Node) (ids rest : List ℕ) (id : ℕ) → ids ≡ rest ++ id ∷ [] → AreIn nodes ids →
    id < length nodes
id_valid nodes ids rest id e all = (all_front (λ k. k < length nodes) rest id (rw e at all)).1

pub if_built : {old mid : List Node} (new : List Node) (r : Result ℕ AllocError) (tree value : Formula) →
    Keeps old mid → tree ≡ value → IfOk r (λ id. IsBuilt mid tree new id) → IfOk r (λ id. IsBuilt old value new id)
if_built new (Ok id) tree value keeps e b = record {
  keeps = keeps_both keeps b.keeps;
  within = b.within;
  is = b.is ∙ e;
}
if_built new (Err fault) tree value keeps e b = tt
