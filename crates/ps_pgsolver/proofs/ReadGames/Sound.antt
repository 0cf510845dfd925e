-- In a game text that has no error for a list of known ids, all successors are in this list. The nodes that a text
-- describes do not depend on the list of known ids.
use Rattle.std.proofs.Common.{◌≡◌, ℕ, zero, suc, true, false, ltb, List, [], ◌∷◌, ◌++◌, Option, None, Some, refl, sym}
use Rattle.std.proofs.Common.{rules, ap, subst, inl, inr, ⊎_elim, ◌∙◌, append_assoc, arith}
use Rattle.std.proofs.lemmas.Bool.{cases_Bool, ltb-true, ltb-false}
use Rattle.std.proofs.lemmas.List.Elements.{All-push}
use Rattle.std.specs.List.{All, Contains}
use Rattle.ps_text.specs.Answers.{IsClean}
use Rattle.ps_text.specs.Parts.{Part, IsWrong, by_part, one, then_by, times, many, mapped}
use Rattle.ps_pgsolver.specs.GameTexts.{pg_causes, too_large, number_in, BadFirst, BadSuccessor, successor}
use Rattle.ps_pgsolver.specs.GameTexts.{first_successor, more_successor, successors, node, entry, entries, game}
use Rattle.ps_pgsolver.specs.Nodes.{NodeData, ids_of, is_member, KnowsAll}
use Rattle.ps_pgsolver.specs.Signs.{Sign, Number}
use Rattle.ps_pgsolver.specs.declared.fault.PgCause.{PgCause}
use Rattle.ps_pgsolver.specs.declared.fault.PgCause.TheVariants as causes
use Rattle.ps_ids.proofs.Members.{Contains-any, any-from_Contains}
use Rattle.ps_pgsolver.proofs.ReadGames.GameLaws.{laws_game}
use Rattle.ps_text.proofs.Combinators.Simple.{none_is_some, same_some}

abbrev pub Quiet : {V : Type 0} → Part Sign V PgCause → List Sign → Type 0
Quiet part text =
    (front rest : List Sign) (t : Sign) (f : PgCause) → text ≡ front ++ t ∷ rest → part.IsCause front t f → ⊥

-- whatever a part of the grammar parses without an error has a value with the property `Good`
pub record Sound {V : Type 0} (part : Part Sign V PgCause) (Good : V → Type 0) : Type 0 where
  pub good : (text : List Sign) (v : V) → part.IsText text v → Quiet part text → Good v

abbrev Always : {V : Type 0} → V → Type 0
Always _ = Unit {0}

pub sound_any : {V : Type 0} {part : Part Sign V PgCause} → Sound part (λ _. Unit {0})
sound_any = record { good = λ text v h q. tt }

pub sound_one : {V : Type 0} (take : Sign → Option V) (Bad : Sign → PgCause → Type 0) {Good : V → Type 0} →
    ((t : Sign) (v : V) → take t ≡ Some v → ((f : PgCause) → Bad t f → ⊥) → Good v) → Sound (one take Bad) Good
sound_one take Bad g = record { good = λ text v h q. g h.0 v h.2 (λ f b. q [] [] h.0 f h.1 (refl, b)) }

pub sound_then : {A B : Type 0} {P : Part Sign A PgCause} (Q : A → Part Sign B PgCause) {G : A → Type 0} {H : B → Type 0} →
    Sound P G → ((a : A) → G a → Sound (Q a) H) → Sound (then_by P Q) H
sound_then {P} Q l r = record {
  good = λ text v h q. let left_quiet : Quiet P h.left = grind (arith, append_assoc) in
      let right_quiet : Quiet (Q h.value) h.right = λ front rest t f e c. q (h.left ++ front) rest t f
      (h.split ∙ ap (λ x. h.left ++ x) e ∙ sym (append_assoc h.left front (t ∷ rest))) (search rules) in
      (r h.value (l.good h.left h.value h.is_left left_quiet)).good h.right v h.is_right right_quiet;
}

pub sound_mapped : {A B : Type 0} (h : A → B) {P : Part Sign A PgCause} {G : A → Type 0} {H : B → Type 0} →
    ((a : A) → G a → H (h a)) → Sound P G → Sound (mapped h P) H
sound_mapped h {H} on s = record { good = λ text v i q. subst H (sym i.2) (on i.0 (s.good text i.0 i.1 q)) }

sound_times : {C : Type 0} (item : C → Part Sign C PgCause) {G : C → Type 0} → ((c : C) → G c → Sound (item c) G) →
    (n : ℕ) (c : C) → G c → Sound (times n item c) G
sound_times item {G} s zero c g = record { good = λ text v h q. subst G (sym h.1) g }
sound_times item {G} s (suc n) c g = sound_then (λ d. times n item d) (s c g) (λ d h. sound_times item s n d h)

pub sound_many : {C : Type 0} (item : C → Part Sign C PgCause) {G : C → Type 0} → ((c : C) → G c → Sound (item c) G) →
    (c : C) → G c → Sound (many item c) G
sound_many item s c g = record {
  good = λ text v h q. (sound_times item s h.0 c g).good text v h.1
      (λ front rest t f e k. q front rest t f e (h.0, k));
}

module _ (ids : List ℕ) where
  abbrev Known : List ℕ → Type 0
  Known list = All (λ n. Contains ids n) list

  good_number : (n : ℕ) → ((f : PgCause) → BadSuccessor (Some ids) (Number n) f → ⊥) → Contains ids n
  good_number n q = ⊎_elim (λ (yes : is_member ids n ≡ true). Contains-any n ids yes)
      (λ (new : is_member ids n ≡ false). absurd (⊎_elim (λ (small : ltb n too_large ≡ true). q causes.UnknownSuccessor
      (inr (ltb-true n too_large small, (λ h. true_false (sym (any-from_Contains n ids h) ∙ new)), refl)))
      (λ (large : ltb n too_large ≡ false). q causes.Number (inl (ltb-false n too_large large, refl)))
      (cases_Bool (ltb n too_large)))) (cases_Bool (is_member ids n))
    where
      true_false : true ≡ false → ⊥
      true_false e = let x : true ≡ false = e in cc

  good_successor : (t : Sign) (v : ℕ) → number_in t ≡ Some v →
      ((f : PgCause) → BadSuccessor (Some ids) t f → ⊥) → Contains ids v
  good_successor (Number n) v e q = subst (λ x. Contains ids x) (same_some n v e) (good_number n q)
  good_successor _ v e q = absurd (none_is_some v e)

  good_first : (t : Sign) (v : ℕ) → number_in t ≡ Some v → ((f : PgCause) → BadFirst (Some ids) t f → ⊥) →
      Contains ids v
  good_first (Number n) v e q = subst (λ x. Contains ids x) (same_some n v e) (good_number n q)
  good_first _ v e q = absurd (none_is_some v e)

  sound_successor : Sound (successor (Some ids)) (λ n. Contains ids n)
  unfolding successor
  sound_successor = sound_one number_in (BadSuccessor (Some ids)) good_successor

  sound_first : Sound (first_successor (Some ids)) (λ n. Contains ids n)
  unfolding first_successor
  sound_first = sound_one number_in (BadFirst (Some ids)) good_first

  sound_more : (list : List ℕ) → Known list → Sound (more_successor (Some ids) list) Known
  unfolding more_successor
  sound_more list k = sound_then (λ _. mapped (λ n. list ++ n ∷ []) (successor (Some ids))) (sound_any)
      (λ _ _. search (rules, sound_mapped, All-push, sound_successor))

  one_known : (n : ℕ) → Contains ids n → Known (n ∷ [])
  one_known n h = All-push (λ m. Contains ids m) [] n (λ k d l. absurd (omega (arith, l))) h

  sound_successors : Sound (successors (Some ids)) Known
  unfolding successors
  sound_successors = search (rules, sound_then, sound_first, sound_many, sound_more, one_known)

  abbrev KnownNode : NodeData → Type 0
  KnownNode n = Known n.successors

  sound_node : (earlier : List ℕ) → Sound (node (Some ids) earlier) KnownNode
  unfolding node
  sound_node earlier = sound_then _ (sound_any) (λ id _. sound_then _
      (sound_any) (λ priority _. sound_then _ (sound_any) (λ owner' _. sound_then _ sound_successors
      (λ list known. sound_then _ (sound_any) (λ name' _. sound_mapped _ (λ _ _. known) (sound_any))))))

  sound_entry : (nodes : List NodeData) → KnowsAll ids nodes → Sound (entry (Some ids) nodes) (KnowsAll ids)
  unfolding entry
  sound_entry nodes k =
      sound_mapped (λ n. nodes ++ n ∷ []) (λ n h. All-push KnownNode nodes n k h) (sound_node (ids_of nodes))

  sound_entries : Sound (entries (Some ids)) (KnowsAll ids)
  unfolding entries
  sound_entries = sound_then (λ nodes. many (entry (Some ids)) nodes) (sound_entry []
      (λ k d l. absurd (omega (arith, l)))) (λ nodes k. sound_many (entry (Some ids)) sound_entry nodes k)

  sound_game : Sound (game (Some ids)) (KnowsAll ids)
  unfolding game
  sound_game = sound_then _ (sound_any) (λ _ _. sound_then _ (sound_any) (λ _ _. sound_entries))

  pub knows_all : (text : List Sign) (nodes : List NodeData) → (game (Some ids)).IsText text nodes →
      IsClean (IsWrong pg_causes (game (Some ids))) text → KnowsAll ids nodes
  knows_all text nodes h clean =
      sound_game.good text nodes h (λ front rest t f e c. clean front (t ∷ rest) f e (by_part t refl c))

-- ## The known ids don't change which texts a part has

abbrev Same : {V : Type 0} → Part Sign V PgCause → Part Sign V PgCause → Type 0
Same {V} P Q = (text : List Sign) (v : V) → P.IsText text v → Q.IsText text v

same_then : {A B : Type 0} (P P' : Part Sign A PgCause) (Q Q' : A → Part Sign B PgCause) → Same P P' →
    ((a : A) → Same (Q a) (Q' a)) → Same (then_by P Q) (then_by P' Q')
same_then P P' Q Q' l r text v h = search rules

same_mapped : {A B : Type 0} (h : A → B) (P P' : Part Sign A PgCause) → Same P P' → Same (mapped h P) (mapped h P')
same_mapped h P P' s text v i = (i.0, s text i.0 i.1, i.2)

same_times : {C : Type 0} (item item' : C → Part Sign C PgCause) → ((c : C) → Same (item c) (item' c)) →
    (n : ℕ) (c : C) → Same (times n item c) (times n item' c)
same_times item item' s zero c text v h = h
same_times item item' s (suc n) c text v h = same_then
    (item c) (item' c) (λ d. times n item d) (λ d. times n item' d) (s c) (λ d. same_times item item' s n d) text v h

same_many : {C : Type 0} (item item' : C → Part Sign C PgCause) → ((c : C) → Same (item c) (item' c)) → (c : C) →
    Same (many item c) (many item' c)
same_many item item' s c text v h = (h.0, same_times item item' s h.0 c text v h.1)

module _ (k : Option (List ℕ)) where
  same_successor : Same (successor k) (successor None)
  unfolding successor
  same_successor text v h = h

  same_first : Same (first_successor k) (first_successor None)
  unfolding first_successor
  same_first text v h = h

  same_more : (list : List ℕ) → Same (more_successor k list) (more_successor None list)
  unfolding more_successor
  same_more list = search (rules, same_then, same_mapped, same_successor)

  same_successors : Same (successors k) (successors None)
  unfolding successors
  same_successors = search (rules, same_then, same_first, same_many, same_more)

  same_node : (ids : List ℕ) → Same (node k ids) (node None ids)
  unfolding node
  same_node ids = grind (arith, same_then, same_successors)

  same_entry : (nodes : List NodeData) → Same (entry k nodes) (entry None nodes)
  unfolding entry
  same_entry nodes = search (rules, same_mapped, same_node)

  same_entries : Same (entries k) (entries None)
  unfolding entries
  same_entries = search (rules, same_then, same_entry, same_many)

  same_game : Same (game k) (game None)
  unfolding game
  same_game = grind (arith, same_then, same_entries)

  pub same_nodes : (text : List Sign) {nodes other : List NodeData} → (game None).IsText text nodes →
      (game k).IsText text other → nodes ≡ other
  same_nodes text {nodes} {other} h g = (laws_game None).one_value text nodes other h (same_game text other g)
