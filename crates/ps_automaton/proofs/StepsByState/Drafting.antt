-- The decision diagrams of the automaton's steps are built, one state after another.
use Rattle.std.proofs.Common.{rules, ◌≡◌, ℕ, ◌+◌, ◌<◌, ◌≤◌, ◌⊎◌, inl, inr, List, [], ◌∷◌, ◌++◌, length, get_or, Option}
use Rattle.std.proofs.Common.{sym, subst, arith}
use Rattle.std.specs.Option.{IsSomeAnd}
use Rattle.std.proofs.lemmas.Bool.{cases_lt}
use Rattle.std.proofs.lemmas.Option.{slice_get_within, slice_get-get_or}
use Rattle.std.proofs.lemmas.List.{get_or_append_left, get_or_push}
use Rattle.ps_diagram.specs.Table.{Table, Keeps, leaf_of}
use Rattle.ps_hoa.specs.Files.{FileData}
use Rattle.ps_automaton.specs.Answers.{Clash}
use Rattle.ps_automaton.specs.Chains.{Chain}
use Rattle.ps_automaton.specs.Inner.Drafts.{Extends, IsDraftFault, IsStateFault, IsStepsOf, Moves, Names, Stops}
use Rattle.ps_automaton.specs.declared.fault.AutomatonFault.{AutomatonFault}
use Rattle.ps_automaton.specs.declared.fault.AutomatonFault.TheVariants.{ComplementedSet, NonParity, Nondeterministic}
use Rattle.ps_automaton.specs.declared.fault.AutomatonFault.TheVariants.{OutOfMemory}
use Rattle.ps_automaton.specs.declared.step.Step.{Step}
use Rattle.ps_automaton.proofs.EdgesAtLetters.Meeting.{kept_leaf}

extended_within : (old new : List Step) → Extends old new → (k : ℕ) → k < length old → k < length new
extended_within old new extends k within =
    let d : Step = record { state = 0; priority = 0 } in
    slice_get_within new k (get_or old k d) (extends k (get_or old k d) (slice_get-get_or old k d within))

named_kept : (old new : List Step) → Extends old new → (step : Step) (o : Option ℕ) → Names old o step →
    Names new o step
named_kept old new extends step o h = grind arith

within_kept : (old new : List Step) → Extends old new → (o : Option ℕ) → IsSomeAnd o (λ k. k < length old) →
    IsSomeAnd o (λ k. k < length new)
within_kept old new extends o h = grind (arith, extended_within)

-- a diagram still describes the steps of its state after the diagram store and the list of steps have grown
pub steps_kept : {file : FileData} {chain : Chain} {q : ℕ} {old new : List Step} {t u : Table} {node : ℕ} →
    Extends old new → Keeps t u → IsStepsOf file chain q old t node → IsStepsOf file chain q new u node
steps_kept {file} {chain} {q} {old} {new} {t} {u} {node} extends keeps s =
    grind (arith, leaf, within_kept, by_kind, names)
  where
    leaf : (letter : ℕ) → leaf_of u node letter ≡ leaf_of t node letter
    leaf letter = kept_leaf keeps letter s.held

    names : (letter : ℕ) (step : Step) → Names old (leaf_of t node letter) step → Names new (leaf_of u node letter) step
    names letter step h = subst (λ o. Names new o step) (sym (leaf letter)) (grind (arith, named_kept))

    by_kind : (letter : ℕ) → Moves file chain q letter old (leaf_of t node letter) ⊎
        Stops file q letter old (leaf_of t node letter) → Moves file chain q letter new (leaf_of u node letter) ⊎
        Stops file q letter new (leaf_of u node letter)
    by_kind letter h = grind (arith, names)

module _ (file : FileData) (chain : Chain) (steps : List Step) (t : Table) (nodes : List ℕ) where
  abbrev pub AreStepsOf : ℕ → Type 0
  AreStepsOf count = (q : ℕ) → q < count → IsStepsOf file chain q steps t (get_or nodes q 0)

  -- one more state
  pub one_more : {count node : ℕ} {more : List ℕ} → length nodes ≡ count → more ≡ nodes ++ node ∷ [] →
      AreStepsOf count → IsStepsOf file chain count steps t node →
      (q : ℕ) → q < count + 1 → IsStepsOf file chain q steps t (get_or more q 0)
  one_more {count} {node} {more} size is each last q within =
      grind (arith, cases_lt q count, get_or_append_left, get_or_push)

  -- if no edges of earlier states clash, the first pair of clashing edges of the next state is the first in the whole
  -- file
  pub first_fault : (count : ℕ) → AreStepsOf count → (f : AutomatonFault) → IsStateFault file count f →
      IsDraftFault file f
  first_fault count each ComplementedSet h = h
  first_fault count each NonParity h = h
  first_fault count each (Nondeterministic p first second) h = record {
    clash = rw h.0 h.1;
    least_state = λ q a b k. by_size q a b k (cases_lt q count);
    least_second = λ a b k. h.2 a b (rw h.0 at k);
    least_first = λ a k. h.3 a (rw h.0 at k);
  }
    where
      by_size : (q a b : ℕ) → Clash file q a b → (q < count) ⊎ (count ≤ q) → p ≤ q
      by_size q a b k (inl low) = absurd ((each q low).clear a b k)
      by_size q a b k (inr high) = let same = h.0 in omega (arith, same, high)
  first_fault count each OutOfMemory h = tt

pub steps_stay : (file : FileData) (chain : Chain) {old new : List Step} {t u : Table} (nodes : List ℕ) (count : ℕ) →
    Extends old new → Keeps t u → AreStepsOf file chain old t nodes count → AreStepsOf file chain new u nodes count
steps_stay file chain {old} {new} {t} {u} nodes count extends keeps each = search (rules, steps_kept)
