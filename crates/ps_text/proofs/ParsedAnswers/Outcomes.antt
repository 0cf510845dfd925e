-- For each list of symbols, each grammar has an outcome: a text is parsed, or the first fault is found. The proof is by
-- recursion on how the grammar is composed. Only the lemmas for `one` and `barred` require a decision (`Judged`): which
-- error of a symbol has the smallest number, or that the symbol has no error.
-- - `has_give` to `has_barred`: one lemma for each combinator: a grammar that the combinator makes has an outcome
--   for each list of symbols
-- - `entered_or_broken`: if P has no empty text, the next symbol begins a text of P or is an error of P, or else P
--   rejects this symbol or the end of the text
-- - `has_refusal`: if the next symbol does not begin the grammar, which has no empty text, the outcome is a fault at
--   this symbol
-- - `some_answer`: each text has an answer, if the grammar satisfies `Laws` and has outcomes
-- - `some_answer_of`: each text has an answer, under the premises of the law `some_answer` (src/answers.rt)
use Rattle.std.proofs.Common.{◌≡◌, ℕ, zero, suc, ◌<◌, ◌≤◌, ◌⊎◌, List, [], ◌∷◌, ◌++◌, length, Option, None, Some, Result}
use Rattle.std.proofs.Common.{Ok, Err, refl, sym, ap, subst, inl, inr, ◌∙◌, arith, rules}
use Rattle.ps_text.specs.Answers.{Begins, Piece, Stream, Found, HasOneMeaning, first_of, signs, offset_of}
use Rattle.ps_text.specs.Parts.{Part, Causes, PartAnswers, IsRead, IsBroken, IsFault, IsFaultAt, is_cause, is_refusal}
use Rattle.ps_text.specs.Parts.{refusal_of, give, one, mapped, then_by, either, times, many, barred}
use Rattle.ps_text.specs.Outcomes.{Outcome, was_read, has_fault, HasOutcomes, IsOrderly}
use Rattle.ps_text.proofs.Combinators.Splits.{same_tail}
use Rattle.ps_text.proofs.Combinators.Laws.{Laws, Or, When, Apart, Joint}
use Rattle.ps_text.proofs.Combinators.Joined.{begins_on, read_then, fault_left, fault_right}
use Rattle.ps_text.proofs.Combinators.Simple.{none_is_some, same_some, nil_is_cons, append_nil_left, read_give}
use Rattle.ps_text.proofs.Combinators.Simple.{read_one, bad_one}
use Rattle.ps_text.proofs.Combinators.Simple.{refused, refused_one, read_mapped, fault_mapped, laws_then}
use Rattle.ps_text.proofs.Combinators.InPlace.{read_as, fault_as}
use Rattle.ps_text.proofs.Combinators.Covered.{Enters, Avoids, enters_broken, enters_read}
use Rattle.ps_text.proofs.Combinators.Repeated.{joint_many, joint_times, more_items, covers_item, laws_many}
use Rattle.ps_text.proofs.Combinators.Repeated.{read_nothing}
use Rattle.ps_text.proofs.ParsedAnswers.Branches.{Stands, left_entered, right_otherwise, item_entered, shrinks}
use Rattle.ps_text.proofs.Combinators.Barred.{Bar, read_barred, fault_barred, fault_bar}
use Rattle.ps_text.proofs.ParsedAnswers.Whole.{Own, answers_ok, answers_fault, answers_trailing}

-- it is decided which of the errors that `Bad` states has the smallest number, or that there is no such error
pub data Judged {F : Type 0} (number : F → ℕ) (Bad : F → Type 0) : Type 0 where
  -- the error f occurs, and no error with a smaller number
  bad : (f : F) → Bad f → ((g : F) → Bad g → number f ≤ number g) → Judged number Bad
  -- no error occurs
  good : ((f : F) → Bad f → ⊥) → Judged number Bad

-- if `Bad` states exactly one error, this is the error with the smallest number
pub bad_only : {F : Type 0} (number : F → ℕ) (Bad : F → Type 0) (f : F) → Bad f → ((g : F) → Bad g → f ≡ g) →
    Judged number Bad
bad_only number Bad f b only = bad f b (λ g c. subst (λ h. number f ≤ number h) (only g c) (omega arith))

-- a grammar that satisfies the laws also satisfies them with the smallest possible set First: the symbols that begin a
-- text of the grammar, or are errors at its start
pub exact : {T V F : Type 0} {odd : T → Type 0} {P : Part T V F} {First More : T → Type 0} {Null : Type 0} →
    Laws odd P First More Null → Laws odd P (λ t. Enters P (Some t)) More Null
exact l = search rules

module _ {T F : Type 0} (causes : Causes T F) where
  pub has_give : {V : Type 0} (value : V) → HasOutcomes causes (give {T = T} {V = V} {F = F} value)
  has_give v = record { outcome = λ all. was_read v all (read_give all v) }

  -- the grammar of one symbol has a text, because `take` accepts the symbol s
  pub has_one : {V : Type 0} (take : T → Option V) (Bad : T → F → Type 0) (sign : T) (value : V) →
      take sign ≡ Some value → ((other : T) → Judged causes.number (Bad other)) → HasOutcomes causes (one take Bad)
  has_one {V} take Bad s w e judge = record { outcome = go }
    where
      taken : (t : T) (rest : List T) → ((f : F) → Bad t f → ⊥) → (o : Option V) → take t ≡ o →
          Outcome causes (one take Bad) (t ∷ rest)
      taken t rest b (Some v) x = was_read v rest (read_one take Bad x b)
      taken t rest b None x = has_fault _ (t ∷ rest) (refused_one take Bad causes s w e (t ∷ rest) (λ u y. ap take
          (sym (same_some t u y)) ∙ x) (λ u f y d. b f (subst (λ z. Bad z f) (sym (same_some t u y)) d)))

      by : (t : T) (rest : List T) → Judged causes.number (Bad t) → Outcome causes (one take Bad) (t ∷ rest)
      by t rest (bad f b least) = has_fault f (t ∷ rest) (bad_one take Bad causes (t ∷ rest) t f refl b least)
      by t rest (good b) = taken t rest b (take t) refl

      go : (all : List T) → Outcome causes (one take Bad) all
      go [] = has_fault causes.syntax [] (refused_one take Bad causes s w e []
          (λ u y. absurd (none_is_some u y)) (λ u f y d. none_is_some u y))
      go (t ∷ rest) = by t rest (judge t)

  -- `mapped h P` has an outcome for each list of symbols, if P has one
  pub has_mapped : {A B : Type 0} (h : A → B) (P : Part T A F) → HasOutcomes causes P → HasOutcomes causes (mapped h P)
  has_mapped h P p = record { outcome = λ all. go all (p.outcome all) }
    where
      go : (all : List T) → Outcome causes P all → Outcome causes (mapped h P) all
      go all (was_read a rest r) = was_read (h a) rest (read_mapped h P r)
      go all (has_fault f rest r) = has_fault f rest (fault_mapped h P r)

  -- P followed by Q has an outcome, if P has one, and Q has one after each text of P
  outcome_then : {A B : Type 0} {P : Part T A F} {Q : A → Part T B F} → Joint P Q → (all : List T) → ((mid : List T)
      (a : A) → IsRead P all a mid → Outcome causes (Q a) mid) → Outcome causes P all → Outcome causes (then_by P Q) all
  outcome_then {A} {B} {P} {Q} j all q (has_fault f rest r) = has_fault f rest (fault_left j r)
  outcome_then {A} {B} {P} {Q} j all q (was_read a mid r) = behind (q mid a r)
    where
      behind : Outcome causes (Q a) mid → Outcome causes (then_by P Q) all
      behind (was_read b rest s) = was_read b rest (read_then j r s)
      behind (has_fault f rest s) = has_fault f rest (fault_right j r s)

  -- `then_by P Q` has an outcome for each list of symbols, if P and Q satisfy `Joint`, P has outcomes, and Q has
  -- outcomes for each value of P
  pub has_then : {A B : Type 0} {P : Part T A F} {Q : A → Part T B F} → Joint P Q → HasOutcomes causes P →
      ((value : A) → HasOutcomes causes (Q value)) → HasOutcomes causes (then_by P Q)
  has_then j p q = record { outcome = λ all. outcome_then j all (λ mid a r. (q a).outcome mid) (p.outcome all) }

  -- if the next symbol does not begin P, which has no empty text, the outcome is a fault at this symbol
  pub has_refusal : {V : Type 0} {odd : T → Type 0} {P : Part T V F} {First More : T → Type 0} →
      Laws odd P First More ⊥ → (all : List T) → Avoids First (first_of all) → Outcome causes P all
  has_refusal l all avoided = has_fault _ all (refused l causes all avoided)

  -- an outcome of P is an outcome of Q, if parsing P and parsing Q have the same result
  as_well : {V : Type 0} (P Q : Part T V F) (all : List T) → Stands (first_of all) P Q → Outcome causes P all →
      Outcome causes Q all
  as_well P Q all w (was_read v rest r) = was_read v rest (read_as P Q w.covers r)
  as_well P Q all w (has_fault f rest r) = has_fault f rest (fault_as P Q w.covers w.starts r)

  module _ {V : Type 0} {odd : T → Type 0} {P : Part T V F} {First More : T → Type 0} {Null : Type 0}
      (l : Laws odd P First More Null) where
    entered : (front rest : List T) (there : Option T) (f : F) → first_of (front ++ rest) ≡ there →
        IsFaultAt causes P front (first_of rest) f → Enters P there ⊎ IsBroken P [] there
    entered [] rest there f e (is_cause t x c m) = inl (subst (Enters P) (sym x ∙ e) (inr (f, c)))
    entered [] rest there f e (is_refusal b x) = inr (subst (IsBroken P []) e b)
    entered (t ∷ front) rest there f e (is_cause u x c m) = search (rules, Enters, begins_on)
    entered (t ∷ front) rest there f e (is_refusal b x) = search (rules, Enters, begins_on)

    -- if P has no empty text, the next symbol begins a text of P or is an error of P (`Enters`), or else P rejects this
    -- symbol or the end (`IsBroken`)
    pub entered_or_broken : (Null → ⊥) → (all : List T) → Outcome causes P all →
        Enters P (first_of all) ⊎ IsBroken P [] (first_of all)
    entered_or_broken n all (was_read v rest r) = inl (enters_read P all rest v (λ w h. n (l.null w h)) r)
    entered_or_broken n all (has_fault f rest r) = entered r.front rest (first_of all) f (grind arith) r.fault

  avoids : {V : Type 0} (P : Part T V F) (there : Option T) → IsBroken P [] there →
      Avoids (λ t. Enters P (Some t)) there
  avoids P there b t x e = enters_broken P there (subst (Enters P) (sym x) e) b

  -- `either P Q` has an outcome for each list of symbols, if P and Q have outcomes, P has no empty text, and P and Q
  -- begin with different symbols
  pub has_either : {V : Type 0} {odd : T → Type 0} {P Q : Part T V F} {F1 M1 F2 M2 : T → Type 0} {N2 : Type 0} →
      Laws odd P F1 M1 ⊥ → Laws odd Q F2 M2 N2 → Apart F1 F2 → HasOutcomes causes P → HasOutcomes causes Q →
      HasOutcomes causes (either P Q)
  has_either {V} {odd} {P} {Q} l r apart p q = search (rules, go, entered_or_broken, p.outcome)
    where
      go : (all : List T) → Enters P (first_of all) ⊎ IsBroken P [] (first_of all) → Outcome causes (either P Q) all
      go all (inl e) = as_well P (either P Q) all (left_entered l r (first_of all) apart e) (p.outcome all)
      go all (inr b) = as_well Q (either P Q) all (search (rules, right_otherwise, exact, avoids)) (q.outcome all)

  module _ {C : Type 0} {odd : T → Type 0} (item : C → Part T C F) {First More : T → Type 0}
      (l : (c : C) → Laws odd (item c) First More ⊥) (apart : Apart More First)
      (p : (c : C) → HasOutcomes causes (item c)) where
    pub has_times : (n : ℕ) (c : C) → HasOutcomes causes (times n item c)
    has_times zero c = has_give c
    has_times (suc n) c = has_then (joint_times item l apart n c) (p c) (λ d. has_times n d)

    -- if the next symbol does not begin an item, no item is parsed
    module _ (c : C) (all : List T) (b : IsBroken (item c) [] (first_of all)) where
      first_item : Laws odd (more_items item c) (Or (λ t. Enters (item c) (Some t)) (When ⊥ First))
          (Or (Or More First) (When (Unit {0}) More)) (⊥ × Unit {0})
      first_item = laws_then (exact (l c)) (λ d. laws_many item l apart d) apart

      no_item : (t : T) → first_of all ≡ Some t → Or (λ t. Enters (item c) (Some t)) (When ⊥ First) t → ⊥
      no_item t e cases = search (rules, avoids)

      none : (t : T) → first_of all ≡ Some t → Enters (many item c) (Some t) → ⊥
      none t e (inl h) = no_item t e (first_item.first_text t h.more h.value
          ((covers_item item c (Some t)).text_back t h.more h.value refl h.is_text))
      none t e (inr k) =
          no_item t e (first_item.first_cause t k.0 ((covers_item item c (Some t)).cause_back [] t k.0 refl k.1))

      pub read_no_item : IsRead (many item c) all c all
      read_no_item = read_nothing item c all none

    -- `many` has an outcome for each list of symbols; the proof is by recursion over the number of unread symbols
    many_from : (n : ℕ) (c : C) (all : List T) → length all < n → Outcome causes (many item c) all
    many_from zero c all less = absurd (omega (arith, less))
    many_from (suc n) c all less = go (λ mid d short. many_from n d mid short)
        (entered_or_broken (l c) (λ x. x) all ((p c).outcome all))
      where
        go : ((mid : List T) (d : C) → length mid < n → Outcome causes (many item d) mid) →
            Enters (item c) (first_of all) ⊎ IsBroken (item c) [] (first_of all) → Outcome causes (many item c) all
        go fewer (inl e) = as_well (more_items item c) (many item c) all (item_entered item l apart c (first_of all) e)
            (outcome_then (joint_many item l apart c) all (λ mid d r. fewer mid d
            (omega (arith, less, shrinks (item c) all mid d (λ w h. (l c).null w h) r))) ((p c).outcome all))
        go fewer (inr b) = was_read c all (read_no_item c all b)

    pub has_many : (c : C) → HasOutcomes causes (many item c)
    has_many c = record { outcome = λ all. many_from (suc (length all)) c all (omega arith) }

  pub has_barred : {V : Type 0} {odd : T → Type 0} {P : Part T V F} (Bad : V → T → F → Type 0) {First More : T → Type 0}
      {Null : Type 0} → Laws odd P First More Null → Apart More (Bar Bad) →
      ((v : V) (t : T) → Judged causes.number (Bad v t)) → HasOutcomes causes P → HasOutcomes causes (barred P Bad)
  has_barred {V} {odd} {P} Bad l apart judge p = record { outcome = λ all. go all (p.outcome all) }
    where
      behind : (all rest : List T) (t : T) (v : V) → IsRead P all v (t ∷ rest) → Judged causes.number (Bad v t) →
          Outcome causes (barred P Bad) all
      behind all rest t v r (bad f b least) = has_fault f (t ∷ rest) (fault_bar Bad l apart causes r refl b least)
      behind all rest t v r (good b) = was_read v (t ∷ rest)
          (read_barred Bad l apart (λ u f e c. b f (subst (λ z. Bad v z f) (sym (same_some t u e)) c)) r)

      go : (all : List T) → Outcome causes P all → Outcome causes (barred P Bad) all
      go all (was_read v [] r) = was_read v [] (read_barred Bad l apart (λ u f e c. none_is_some u e) r)
      go all (was_read v (t ∷ rest) r) = behind all rest t v r (judge v t)
      go all (has_fault f rest r) = has_fault f rest (fault_barred Bad l apart r)

-- ## The whole text

-- a list of pieces can be split wherever the list of its symbols can be split
parted : {T : Type 0} (ps : List (Piece T)) (front rest : List T) → signs ps ≡ front ++ rest →
    (a : List (Piece T)) × (b : List (Piece T)) × (ps ≡ a ++ b) × (signs b ≡ rest)
parted ps [] rest e = ([], ps, refl, e)
parted [] (t ∷ front) rest e = absurd (none_is_some t (ap first_of e))
parted (p ∷ ps) (t ∷ front) rest e = let x = parted ps front rest (same_tail p.sign t (signs ps) (front ++ rest) e) in
    (p ∷ x.0, x.1, ap (λ z. p ∷ z) x.2, x.3)

module _ {T V F : Type 0} {causes : Causes T F} {part : Part T V F} {First More : T → Type 0} {Null : Type 0}
    (l : Laws (Own causes) part First More Null) where
  pub some_answer : HasOutcomes causes part → (stream : Stream T) →
      (answer : Result V (Found F)) × PartAnswers causes part stream answer
  some_answer h stream = go (h.outcome (signs stream.pieces))
    where
      behind : (v : V) (rest : List T) (a b : List (Piece T)) → IsRead part (signs stream.pieces) v rest → stream.pieces
          ≡ a ++ b → signs b ≡ rest → (answer : Result V (Found F)) × PartAnswers causes part stream answer
      behind v rest a [] r s e = (Ok v, answers_ok l stream v (subst (IsRead part (signs stream.pieces) v) (sym e) r))
      behind v rest a (p ∷ ps) r s e = (
        Err (record { cause = refusal_of causes (Some p.sign); offset = p.start }),
        answers_trailing l stream (record { pieces = p ∷ ps; end = stream.end }) v p ps
            (record { taken = a; split = s; end = refl }) (subst (IsRead part (signs stream.pieces) v) (sym e) r) refl,
      )

      go : Outcome causes part (signs stream.pieces) →
          (answer : Result V (Found F)) × PartAnswers causes part stream answer
      go (was_read v rest r) = let x = parted stream.pieces r.text rest r.split in behind v rest x.0 x.1 r x.2 x.3
      go (has_fault f rest r) = let x = parted stream.pieces r.front rest r.split in
          let found : Found F = record { cause = f; offset = offset_of x.1 stream.end } in (
            Err found,
            answers_fault l stream found (record {
              front = x.0;
              rest = x.1;
              split = x.2;
              fault = subst (IsFault causes part (signs stream.pieces) f) (sym x.3) r;
              offset = refl;
            }),
          )

-- each text has an answer, proved from the premises of the law `some_answer`
module _ {T V F : Type 0} {causes : Causes T F} {part : Part T V F} where
  some_text : Outcome causes part [] → Begins part.IsText []
  some_text cases = search (rules, append_nil_left, none_is_some, nil_is_cons)

  pub some_answer_of : HasOneMeaning part.IsText → IsOrderly causes part → HasOutcomes causes part →
      (stream : Stream T) → (answer : Result V (Found F)) × PartAnswers causes part stream answer
  some_answer_of one o h = some_answer laws h
    where
      laws : Laws (Own causes) part (λ _. Unit {0}) (λ _. Unit {0}) (Unit {0})
      laws = grind (arith, some_text (h.outcome []))
