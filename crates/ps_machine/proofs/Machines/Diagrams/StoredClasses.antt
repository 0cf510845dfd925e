-- The classes of letters that are found by diagrams are stored for their states, and the diagram of the steps after
-- each class is stored at a place.
use Rattle.std.proofs.Common.{◌≡◌, ◌∙◌, ℕ, ◌+◌, ◌<◌, ◌≤◌, List, ◌++◌, length, get_or, Option, Some, cond, eqb, nat_eq}
use Rattle.std.proofs.Common.{ap, arith, inl, inr, refl, rules, subst, sym}
use Rattle.std.specs.Prelude.{IsSome, IsSomeAnd}
use Rattle.std.proofs.lemmas.Bool.{eq-eqb, eqb-true}
use Rattle.std.proofs.lemmas.List.{get_or-append-add, get_or-map, length-append, length-map}
use Rattle.std.proofs.lemmas.Option.{slice_get-get_or}
use Rattle.std.proofs.Math.ListN.{get_or-append}
use Rattle.indexmap.specs.IndexMap.{get}
use Rattle.ps_automaton.specs.Automata.{AutomatonData, node_of}
use Rattle.ps_diagram.specs.Classes.{AreClasses}
use Rattle.ps_diagram.specs.Table.{Keeps, Table}
use Rattle.ps_diagram.specs.declared.classes.Class.{Class}
use Rattle.ps_diagram.specs.declared.classes.Classes.{Classes}
use Rattle.ps_diagram.proofs.NodeTables.Cells.{bool_cases, true_is_not_false}
use Rattle.ps_diagram.proofs.ClassesOfLetters.Classing.{classes_kept}
use Rattle.ps_diagram.proofs.NodeTables.KnownLemmas.{keeps_trans}
use Rattle.ps_machine.specs.Boards.{IsClassLetter, IsListOf}
use Rattle.ps_machine.specs.BuiltBoards.{board_of}
use Rattle.ps_machine.specs.Dividing.{AreClassesOf, AreDivided, IsFit}
use Rattle.ps_machine.specs.Inner.Knowing.{AreRests, IsForClasses, letters_of_classes, rests_of_classes}
use Rattle.ps_machine.specs.Inner.Moving.{IsRest}
use Rattle.ps_machine.specs.Numbering.{StandsAt}
use Rattle.ps_machine.specs.declared.divided.Divided.{Divided}
use Rattle.ps_machine.specs.declared.key.Key.{Key}
use Rattle.ps_machine.specs.declared.key.Key.TheVariants.{First}
use Rattle.ps_machine.specs.declared.key.Order.{Order}
use Rattle.ps_machine.specs.declared.moves.Moves.{Moves}
use Rattle.ps_machine.proofs.AutomatonGames.BoardSteps.{class_rest, classes_listed, no_class}

pub fit_kept : {order : Order} {a : AutomatonData} {mask : ℕ} {t u : Table} → Keeps t u → IsFit order a mask t →
    IsFit order a mask u
fit_kept k f = search (rules, keeps_trans)

are_kept : {a : AutomatonData} {mask : ℕ} {t u : Table} {q : ℕ} {c : Classes} → Keeps t u → AreClassesOf a mask t q c →
    AreClassesOf a mask u q c
are_kept k of = search (rules, classes_kept)

one_some : {c d : Classes} → Some c ≡ Some d → c ≡ d
one_some e = cc

-- the classes that were computed for the state q are the classes of this state
pub made_classes : (m : Moves) (q : ℕ) (c : Classes) {s u : Table} {node : ℕ} → q ≤ m.automaton.now.states →
    s ≡ m.automaton.now.store → node ≡ node_of m.automaton.now q →
    AreClasses s u node m.mask c.places c.list.items → AreClassesOf m.automaton.now m.mask u q c
made_classes m q c state read is made = record { state = state; are = rw (read, is) at made }

-- the letters of the classes that were computed for a state are the least letters of its classes
pub stored_listed : {order : Order} {a : AutomatonData} (m : Moves) (q : ℕ) (c : Classes) {s u : Table} {node : ℕ}
    {letters : List ℕ} → IsForClasses order a m → Keeps m.divided.store u → q ≤ m.automaton.now.states →
    s ≡ m.automaton.now.store → node ≡ node_of m.automaton.now q →
    AreClasses s u node m.mask c.places c.list.items → letters ≡ letters_of_classes c.list.items →
    IsListOf (IsClassLetter (board_of order a) q) letters
stored_listed m q c {u = u} f keeps state read is made same = rw same (classes_listed (fit_kept keeps f.fit)
    (subst (λ b. AreClassesOf b m.mask u q c) f.same (made_classes m q c state read is made)))

-- one more state's classes are stored: `m` are the data before, and `new` those afterwards
module _ (m new : Moves) (q : ℕ) (c : Classes) (old : Divided) {u : Table}
    (automaton : new.automaton.now ≡ m.automaton.now) (mask : new.mask ≡ m.mask) (keeps : Keeps m.divided.store u)
    (store : new.divided.store ≡ u) (rests : new.rests.items ≡ m.rests.items ++ rests_of_classes c.list.items)
    (kept : old.classes ≡ m.divided.classes)
    (update : (r : ℕ) → get nat_eq new.divided.classes r ≡ cond (eqb q r) (Some c) (get nat_eq old.classes r))
    (before : AreClassesOf m.automaton.now m.mask u q c) where
  of : AreClassesOf m.automaton.now m.mask new.divided.store q c
  of = rw store before

  keeps_all : Keeps m.divided.store new.divided.store
  keeps_all = rw store keeps

  updates : (r : ℕ) → get nat_eq new.divided.classes r ≡ cond (eqb q r) (Some c) (get nat_eq m.divided.classes r)
  updates r = rw kept at (update r)

  some_still : (r : ℕ) → IsSome (get nat_eq m.divided.classes r) → IsSome (get nat_eq new.divided.classes r)
  some_still r was = elim (bool_cases (eqb q r)) [
    | inl here ↦ rw (updates r, here) refl
    | inr there ↦ rw (updates r, there) was
  ]

  some_here : IsSome (get nat_eq new.divided.classes q)
  some_here = rw (updates q, eq-eqb q q refl) refl

  pub stored_fits : {order : Order} {a : AutomatonData} → IsForClasses order a m → IsForClasses order a new
  stored_fits {order} {a} f = record {
    same = automaton ∙ f.same;
    fit = rw mask (fit_kept keeps_all f.fit);
    are = λ r d e. rw mask (elim (bool_cases (eqb q r)) [
      | inl here ↦
          let same : q ≡ r = eqb-true q r here in
          let is : c ≡ d = one_some (sym (updates r ∙ ap (λ b. cond b (Some c) (get nat_eq m.divided.classes r)) here)
          ∙ e) in
          subst (λ s. AreClassesOf a m.mask new.divided.store s d) same
          (subst (AreClassesOf a m.mask new.divided.store q) is
          (subst (λ b. AreClassesOf b m.mask new.divided.store q c) f.same of))
      | inr there ↦ are_kept keeps_all (f.are r d
          (sym (updates r ∙ ap (λ b. cond b (Some c) (get nat_eq m.divided.classes r)) there) ∙ e))
    ]);
  }

  pub stored_before : (place r : ℕ) (letters : List ℕ) → AreRests m place r letters → AreRests new place r letters
  stored_before place r letters are = record {
    classes = are.classes;
    are = rw (automaton, mask) (are_kept keeps_all are.are);
    letters_are = are.letters_are;
    within = omega (arith, are.within, ap length rests, length-append m.rests.items (rests_of_classes c.list.items));
    rests = λ k lt. ap (λ l. get_or l (place + k) 0) rests
        ∙ get_or-append m.rests.items (rests_of_classes c.list.items) 0 (place + k) (omega (arith, lt, are.within))
        ∙ are.rests k lt;
    stored = some_still r are.stored;
  }

  pub stored_now : {place : ℕ} {letters : List ℕ} → place ≡ length m.rests.items →
      letters ≡ letters_of_classes c.list.items → AreRests new place q letters
  stored_now {place} {letters} here same = record {
    classes = c;
    are = rw (automaton, mask) of;
    letters_are = same;
    within = omega (
      arith,
      here,
      ap length rests,
      length-append m.rests.items (rests_of_classes c.list.items),
      ap length same,
      length-map c.list.items (λ (x : Class). x.letter),
      length-map c.list.items (λ (x : Class). x.rest),
    );
    rests = λ k lt. rw (rests, here) (get_or-append-add m.rests.items (rests_of_classes c.list.items) k 0);
    stored = some_here;
  }

-- the diagram at the place of a class is that of the steps after the class
pub rest_at : {order : Order} {a : AutomatonData} {m : Moves} {place q class : ℕ} {letters : List ℕ} →
    IsForClasses order a m → AreRests m place q letters → class < length letters →
    IsRest order a m.mask m.divided.store q (get_or letters class 0) (get_or m.rests.items (place + class) 0)
rest_at {order} {a} {m} {place} {q} {class} {letters} f are lt =
    let list = are.classes.list.items in
    let inside : class < length list =
    omega (arith, lt, ap length are.letters_are, length-map list (λ (x : Class). x.letter)) in
    let of : AreClassesOf a m.mask m.divided.store q are.classes =
    subst (λ b. AreClassesOf b m.mask m.divided.store q are.classes) f.same are.are in
    rw (
      are.rests class lt,
      are.letters_are,
      get_or-map (λ (x : Class). x.rest) list class no_class 0 inside,
      get_or-map (λ (x : Class). x.letter) list class no_class 0 inside,
    )
    (class_rest f.fit of class (slice_get-get_or list class no_class inside))

some_of : (o : Option Classes) (P : Classes → Type 0) → IsSome o → ((c : Classes) → o ≡ Some c → P c) → IsSomeAnd o P
some_of o P h k = search (rules, true_is_not_false)

-- the classes of each state that occurs in a key are stored
pub all_divided : {order : Order} {a : AutomatonData} {m : Moves} {keys : List Key} → IsForClasses order a m →
    ((v q p : ℕ) → StandsAt keys v (First q p) → (place : ℕ) × (letters : List ℕ) × AreRests m place q letters) →
    AreDivided order a keys m.divided.store (get nat_eq m.divided.classes)
all_divided {m = m} f all = record {
  mask = m.mask;
  fit = f.fit;
  each = λ v q p at. some_of (get nat_eq m.divided.classes q) _ (all v q p at).2.stored (λ c e. f.are q c e);
}
