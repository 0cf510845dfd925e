-- The parsing functions that read one token give the results that the grammar states for this token.
use Rattle.std.proofs.Common.{◌≡◌, ℕ, ◌≤◌, true, false, ltb, List, Option, None, Some, Result, Ok, Err, refl, sym, ap}
use Rattle.std.proofs.Common.{rules, subst, inl, inr, ⊎_elim, ◌∙◌, arith}
use Rattle.std.proofs.lemmas.Bool.{cases_Bool, ltb-true, ltb-false, lt-ltb}
use Rattle.std.specs.List.{Contains}
use Rattle.ps_text.specs.Answers.{Stream, next_of, offset_of}
use Rattle.ps_text.specs.Parts.{NoBad}
use Rattle.ps_text.specs.Readers.{tail}
use Rattle.ps_pgsolver.proofs.TokensOfGames.OneSign.{Fits, taken, bad, refused, one_reads}
use Rattle.ps_ids.proofs.Members.{any-from_Contains, Contains-any}
use Rattle.ps_pgsolver.specs.Inner.Answered.{ReadsAs, ReadsKnown, is_known, number_answer, id_answer}
use Rattle.ps_pgsolver.specs.Inner.Answered.{owner_answer}
use Rattle.ps_pgsolver.specs.Inner.Answered.{successor_answer, first_answer, semicolon_answer}
use Rattle.ps_pgsolver.specs.Causes.{cause_number, PgFault}
use Rattle.ps_pgsolver.specs.GameTexts.{too_large, number_in, semicolon_in, BadNumber, BadId}
use Rattle.ps_pgsolver.specs.GameTexts.{BadOwner, BadSuccessor, BadFirst, IsUnknown, number, new_id, owner, successor}
use Rattle.ps_pgsolver.specs.GameTexts.{first_successor, semicolon}
use Rattle.ps_pgsolver.specs.Nodes.{is_member}
use Rattle.ps_pgsolver.specs.Signs.{Sign, Number, Name, Semicolon, OpenName}
use Rattle.ps_pgsolver.specs.declared.fault.PgCause.{PgCause}
use Rattle.ps_pgsolver.specs.declared.fault.PgCause.TheVariants as causes
use Rattle.ps_text.specs.declared.faults.Fault.TheVariants as faults

true_false : true ≡ false → ⊥
true_false e = let x : true ≡ false = e in cc

least_here : {f cause : PgCause} → cause ≡ f → cause_number f ≤ cause_number cause
least_here {f} e = subst (λ z. cause_number f ≤ cause_number z) (sym e) (omega arith)

number_fits : (t : Sign) (at : ℕ) → Fits cause_number causes.Syntax number_in BadNumber t at (number_answer (Some t) at)
number_fits (Number n) at = ⊎_elim (λ (yes : ltb n too_large ≡ true). taken n refl
    (λ f b. omega (arith, ltb-true n too_large yes, b.0)) (rw yes refl)) (λ (no : ltb n too_large ≡ false). bad
    causes.Number (ltb-false n too_large no, refl) (λ g b. least_here b.1) (rw no refl)) (cases_Bool (ltb n too_large))
number_fits _ at = refused refl (λ f b. b) refl

id_fits : (ids : List ℕ) (t : Sign) (at : ℕ) → Fits cause_number causes.Syntax number_in (BadId ids) t at
    (id_answer ids (Some t) at)
id_fits ids (Number n) at = ⊎_elim (λ (yes : ltb n too_large ≡ true). ⊎_elim
    (λ (old : is_member ids n ≡ true). bad causes.NodeTwice (search (rules, ltb-true, Contains-any))
    (λ g b. search (rules, ltb-true, least_here)) (rw (yes, old) refl)) (λ (new : is_member ids n ≡ false). taken n refl
    (λ f b. ⊎_elim (λ h. omega (arith, ltb-true n too_large yes, h.0))
    (λ h. true_false (sym (any-from_Contains n ids h.1) ∙ new)) b) (rw (yes, new) refl)) (cases_Bool (is_member ids n)))
    (λ (no : ltb n too_large ≡ false). bad causes.Number (inl (ltb-false n too_large no, refl))
    (λ g b. ⊎_elim (λ h. least_here h.1) (λ h. absurd (omega (arith, ltb-false n too_large no, h.0))) b) (rw no refl))
    (cases_Bool (ltb n too_large))
id_fits ids _ at = refused refl (λ f b. b) refl

owner_fits : (t : Sign) (at : ℕ) → Fits cause_number causes.Syntax number_in BadOwner t at (owner_answer (Some t) at)
owner_fits (Number n) at = ⊎_elim (λ (yes : ltb n 2 ≡ true).
    let small : ltb n too_large ≡ true = lt-ltb n too_large (omega (arith, ltb-true n 2 yes)) in
    taken n refl (λ f b. omega (arith, ltb-true n 2 yes, b.0)) (rw (small, yes) refl)) (λ (no : ltb n 2 ≡ false). bad
    causes.Number (ltb-false n 2 no, refl) (λ g b. least_here b.1) (search (rules, cases_Bool))) (cases_Bool (ltb n 2))
owner_fits _ at = refused refl (λ f b. b) refl

known_yes : (known : Option (List ℕ)) (n : ℕ) → is_known known n ≡ true → IsUnknown known n → ⊥
known_yes known n h k = search (rules, Contains-any)

known_no : (known : Option (List ℕ)) (n : ℕ) → is_known known n ≡ false → IsUnknown known n
known_no None n e = true_false e
known_no (Some ids) n e = λ h. true_false (sym (any-from_Contains n ids h) ∙ e)

successor_fits : (known : Option (List ℕ)) (t : Sign) (at : ℕ) →
    Fits cause_number causes.Syntax number_in (BadSuccessor known) t at (successor_answer known (Some t) at)
successor_fits known (Number n) at = ⊎_elim (λ (yes : ltb n too_large ≡ true). ⊎_elim
    (λ (is : is_known known n ≡ true). taken n refl
    (λ f b. ⊎_elim (λ h. omega (arith, ltb-true n too_large yes, h.0)) (λ h. known_yes known n is h.1) b)
    (rw (yes, is) refl)) (λ (not_known : is_known known n ≡ false). bad causes.UnknownSuccessor
    (inr (ltb-true n too_large yes, known_no known n not_known, refl))
    (λ g b. search (rules, ltb-true, least_here)) (rw (yes, not_known) refl)) (cases_Bool (is_known known n)))
    (λ (no : ltb n too_large ≡ false). bad causes.Number (inl (ltb-false n too_large no, refl))
    (λ g b. ⊎_elim (λ h. least_here h.1) (λ h. absurd (omega (arith, ltb-false n too_large no, h.0))) b) (rw no refl))
    (cases_Bool (ltb n too_large))
successor_fits known _ at = refused refl (λ f b. b) refl

same_fits : {V : Type 0} {take : Sign → Option V} {Bad Bad' : Sign → PgCause → Type 0}
    {t : Sign} {at : ℕ} {r : Result V PgFault} → ((f : PgCause) → Bad' t f → Bad t f) →
    ((f : PgCause) → Bad t f → Bad' t f) → Fits cause_number causes.Syntax take Bad t at r →
    Fits cause_number causes.Syntax take Bad' t at r
same_fits back on (taken v e good y) = taken v e (λ f b. good f (back f b)) y
same_fits back on (bad f b least y) = bad f (on f b) (λ g c. least g (back g c)) y
same_fits back on (refused e good y) = refused e (λ f b. good f (back f b)) y

first_fits : (known : Option (List ℕ)) (t : Sign) (at : ℕ) →
    Fits cause_number causes.Syntax number_in (BadFirst known) t at (first_answer known (Some t) at)
first_fits known (Number n) at = same_fits (λ f b. b) (λ f b. b) (successor_fits known (Number n) at)
first_fits known Semicolon at = bad causes.NoSuccessor refl (λ g b. least_here b) refl
first_fits known (Name x) at = bad causes.NoSuccessor refl (λ g b. least_here b) refl
first_fits known OpenName at = bad causes.NoSuccessor refl (λ g b. least_here b) refl
first_fits known _ at = refused refl (λ f b. b) refl

semicolon_fits : (t : Sign) (at : ℕ) → Fits cause_number causes.Syntax semicolon_in NoBad t at
    (semicolon_answer (Some t) at)
semicolon_fits Semicolon at = taken tt refl (λ f b. b) refl
semicolon_fits _ at = refused refl (λ f b. b) refl

-- ## What each parsing function for one token establishes

pub reads_number : (old : Stream Sign) {new : Stream Sign} {r : Result ℕ PgFault} → new ≡ tail old →
    r ≡ number_answer (next_of old) (offset_of old.pieces old.end) → ReadsAs (λ n. n) number old r new
unfolding number
reads_number old = one_reads cause_number causes.Syntax (Number 0) refl number_answer number_fits (λ at. refl) old

pub reads_id : (ids : List ℕ) (old : Stream Sign) {new : Stream Sign} {r : Result ℕ PgFault} → new ≡ tail old →
    r ≡ id_answer ids (next_of old) (offset_of old.pieces old.end) → ReadsAs (λ n. n) (new_id ids) old r new
unfolding new_id
reads_id ids old = one_reads cause_number causes.Syntax (Number 0) refl (id_answer ids) (id_fits ids) (λ at. refl) old

pub reads_owner : (old : Stream Sign) {new : Stream Sign} {r : Result ℕ PgFault} → new ≡ tail old →
    r ≡ owner_answer (next_of old) (offset_of old.pieces old.end) → ReadsAs (λ n. n) owner old r new
unfolding owner
reads_owner old = one_reads cause_number causes.Syntax (Number 0) refl owner_answer owner_fits (λ at. refl) old

pub reads_successor : (known : Option (List ℕ)) (old : Stream Sign) {new : Stream Sign} {r : Result ℕ PgFault} →
    new ≡ tail old → r ≡ successor_answer known (next_of old) (offset_of old.pieces old.end) →
    ReadsAs (λ n. n) (successor known) old r new
unfolding successor
reads_successor known old =
    one_reads cause_number causes.Syntax (Number 0) refl (successor_answer known) (successor_fits known)
    (λ at. refl) old

pub reads_first : (known : Option (List ℕ)) (old : Stream Sign) {new : Stream Sign} {r : Result ℕ PgFault} →
    new ≡ tail old → r ≡ first_answer known (next_of old) (offset_of old.pieces old.end) →
    ReadsAs (λ n. n) (first_successor known) old r new
unfolding first_successor
reads_first known old =
    one_reads cause_number causes.Syntax (Number 0) refl (first_answer known) (first_fits known) (λ at. refl) old

pub reads_semicolon : (old : Stream Sign) {new : Stream Sign} {r : Result (Unit {0}) PgFault} → new ≡ tail old →
    r ≡ semicolon_answer (next_of old) (offset_of old.pieces old.end) → ReadsAs (λ u. u) semicolon old r new
unfolding semicolon
reads_semicolon old =
    one_reads cause_number causes.Syntax Semicolon refl semicolon_answer semicolon_fits (λ at. refl) old

-- ## The same results with other known ids

abbrev found_number : ℕ → Result ℕ PgFault
found_number n = Ok n

abbrev not_found : PgFault → Result ℕ PgFault
not_found e = Err e

no_fault : (n : ℕ) (e : PgFault) → found_number n ≡ not_found e → ⊥
no_fault n e h = let x : found_number n ≡ not_found e = h in cc

same_number : {n m : ℕ} → found_number n ≡ found_number m → n ≡ m
same_number {n} {m} h = let x : found_number n ≡ found_number m = h in cc

successor_known : (known : Option (List ℕ)) (ids : List ℕ) (o : Option Sign) (at n : ℕ) → Contains ids n →
    found_number n ≡ successor_answer known o at → found_number n ≡ successor_answer (Some ids) o at
successor_known known ids (Some (Number m)) at n h e = ⊎_elim (λ (small : ltb m too_large ≡ true). ⊎_elim
    (λ (yes : is_known known m ≡ true).
    let is : n ≡ m = same_number (e ∙ rw (small, yes) refl) in
    rw (small, any-from_Contains m ids (subst (λ x. Contains ids x) is h)) (ap found_number is))
    (λ (no : is_known known m ≡ false). search (rules, no_fault)) (cases_Bool (is_known known m)))
    (λ (large : ltb m too_large ≡ false). absurd (no_fault n (faults.Text causes.Number at) (e ∙ rw large refl)))
    (cases_Bool (ltb m too_large))
successor_known known ids _ at n h e = absurd (no_fault n (faults.Text causes.Syntax at) e)

first_known : (known : Option (List ℕ)) (ids : List ℕ) (o : Option Sign) (at n : ℕ) → Contains ids n →
    found_number n ≡ first_answer known o at → found_number n ≡ first_answer (Some ids) o at
first_known known ids (Some (Number m)) at n h e = successor_known known ids (Some (Number m)) at n h e
first_known known ids (Some Semicolon) at n h e = absurd (no_fault n (faults.Text causes.NoSuccessor at) e)
first_known known ids (Some (Name x)) at n h e = absurd (no_fault n (faults.Text causes.NoSuccessor at) e)
first_known known ids (Some OpenName) at n h e = absurd (no_fault n (faults.Text causes.NoSuccessor at) e)
first_known known ids _ at n h e = absurd (no_fault n (faults.Text causes.Syntax at) e)

pub later_successor : (known : Option (List ℕ)) (old : Stream Sign) {new : Stream Sign} (r : Result ℕ PgFault) →
    new ≡ tail old → r ≡ successor_answer known (next_of old) (offset_of old.pieces old.end) →
    ReadsKnown Contains (λ n. n) successor old r new
later_successor known old (Ok n) t e =
    λ ids h. reads_successor (Some ids) old t (successor_known known ids (next_of old) _ n h e)
later_successor known old (Err f) t e = tt

pub later_first : (known : Option (List ℕ)) (old : Stream Sign) {new : Stream Sign} (r : Result ℕ PgFault) →
    new ≡ tail old → r ≡ first_answer known (next_of old) (offset_of old.pieces old.end) →
    ReadsKnown Contains (λ n. n) first_successor old r new
later_first known old (Ok n) t e = λ ids h. reads_first (Some ids) old t (first_known known ids (next_of old) _ n h e)
later_first known old (Err f) t e = tt
