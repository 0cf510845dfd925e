-- The parsing functions that read one token give the results that the grammar states for this token.
use Rattle.std.proofs.Common.{◌≡◌, ℕ, ◌<◌, ◌≤◌, true, false, ltb, List, Some, Result, Ok, Err, refl}
use Rattle.std.proofs.Common.{sym}
use Rattle.std.proofs.Common.{subst, inl, inr, ⊎_elim, ◌∙◌, arith}
use Rattle.std.proofs.lemmas.Bool.{cases_Bool, ltb-true, ltb-false, lt-ltb, le-ltb}
use Rattle.ps_text.specs.Answers.{Stream, next_of, offset_of}
use Rattle.ps_text.specs.Parts.{NoBad}
use Rattle.ps_text.specs.Readers.{tail}
use Rattle.ps_text.specs.declared.faults.Fault.TheVariants.{Text}
use Rattle.ps_ids.specs.Ids.{place_of}
use Rattle.ps_ids.proofs.Members.{any-from_Contains, Contains-any}
use Rattle.ps_game.specs.Regions.{has}
use Rattle.ps_certificate.specs.Faults.{CertFault, cause_number}
use Rattle.ps_certificate.specs.declared.fault.CertCause.{CertCause}
use Rattle.ps_certificate.specs.declared.fault.CertCause.TheVariants.{Syntax, OtherGame}
use Rattle.ps_pgsolver.specs.GameTexts.{too_large, semicolon_in}
use Rattle.ps_pgsolver.specs.Nodes.{is_member}
use Rattle.ps_pgsolver.specs.Signs.{Sign, Number, Semicolon}
use Rattle.ps_pgsolver.proofs.TokensOfGames.OneSign.{Fits, taken, bad, refused, one_reads}
use Rattle.ps_solution.specs.Solved.{SolvedData}
use Rattle.ps_solution.specs.Texts.{value_in, BadValue, AnyValue, IsBadVertex, IsNoPlayer, IsUnknown, number, vertex}
use Rattle.ps_solution.specs.Texts.{winner}
use Rattle.ps_solution.specs.Texts.{successor, semicolon}
use Rattle.ps_solution.specs.Inner.Answered.{ReadsAs, value_answer, any_of_number, vertex_of_number, winner_of_number}
use Rattle.ps_solution.specs.Inner.Answered.{successor_of_number, semicolon_answer}

-- a function's judgement on a number's value agrees with the grammar: the value is accepted, or it has exactly one
-- error, which is reported
data Verdict {V : Type 0} (value : ℕ → V) (Wrong : ℕ → CertCause → Type 0) (judge : ℕ → ℕ → Result V CertFault)
    (n at : ℕ) : Type 0 where
  right : ((f : CertCause) → Wrong n f → ⊥) → judge at n ≡ Ok (value n) → Verdict value Wrong judge n at
  wrong : (f : CertCause) → Wrong n f → ((g : CertCause) → Wrong n g → g ≡ f) → judge at n ≡ Err (Text f at) →
      Verdict value Wrong judge n at

least_here : {f g : CertCause} → g ≡ f → cause_number f ≤ cause_number g
least_here {f} e = subst (λ z. cause_number f ≤ cause_number z) (sym e) (omega arith)

value_fits : {V : Type 0} (value : ℕ → V) (Wrong : ℕ → CertCause → Type 0) (judge : ℕ → ℕ → Result V CertFault) →
    ((n at : ℕ) → Verdict value Wrong judge n at) → (t : Sign) (at : ℕ) →
    Fits cause_number Syntax (value_in value) (BadValue Wrong) t at (value_answer judge (Some t) at)
value_fits value Wrong judge verdict (Number n) at = ⊎_elim (λ (few : ltb n too_large ≡ true). small few (verdict n at))
    (λ (no : ltb n too_large ≡ false). bad Syntax (inl (ltb-false n too_large no, refl))
    (λ g b. ⊎_elim (λ h. least_here h.1) (λ h. absurd (omega (arith, ltb-false n too_large no, h.0))) b) (rw no refl))
    (cases_Bool (ltb n too_large))
  where
    small : ltb n too_large ≡ true → Verdict value Wrong judge n at →
        Fits cause_number Syntax (value_in value) (BadValue Wrong) (Number n) at
        (value_answer judge (Some (Number n)) at)
    small few (right good is) = taken (value n) refl
        (λ f b. ⊎_elim (λ h. omega (arith, ltb-true n too_large few, h.0)) (λ h. good f h.1) b) (rw few is)
    small few (wrong f w only is) = bad f (inr (ltb-true n too_large few, w))
        (λ g b. ⊎_elim (λ h. absurd (omega (arith, ltb-true n too_large few, h.0))) (λ h. least_here (only g h.1)) b)
        (rw few is)
value_fits value Wrong judge verdict _ at = refused refl (λ f b. b) refl

any_verdict : (n at : ℕ) → Verdict (λ n. n) AnyValue any_of_number n at
any_verdict n at = right (λ f w. w) refl

true_false : true ≡ false → ⊥
true_false e = let x : true ≡ false = e in cc

vertex_verdict : (ids : List ℕ) (s : SolvedData) (n at : ℕ) →
    Verdict (place_of ids) (IsBadVertex ids s) (vertex_of_number ids s) n at
vertex_verdict ids s n at = ⊎_elim
    (λ (yes : is_member ids n ≡ true). ⊎_elim
    (λ (old : has s.named (place_of ids n) ≡ true). wrong OtherGame (inr old, refl) (λ g w. w.1) (rw (yes, old) refl))
    (λ (new : has s.named (place_of ids n) ≡ false). right (λ f w. ⊎_elim (λ none. none (Contains-any n ids yes))
    (λ old. true_false (sym old ∙ new)) w.0) (rw (yes, new) refl))
    (cases_Bool (has s.named (place_of ids n))))
    (λ (no : is_member ids n ≡ false). wrong OtherGame
    (inl (λ h. true_false (sym (any-from_Contains n ids h) ∙ no)), refl) (λ g w. w.1) (rw no refl))
    (cases_Bool (is_member ids n))

winner_verdict : (n at : ℕ) → Verdict (λ n. n) IsNoPlayer winner_of_number n at
winner_verdict n at = ⊎_elim
    (λ (yes : ltb n 2 ≡ true). right (λ f w. omega (arith, ltb-true n 2 yes, w.0)) (rw yes refl))
    (λ (no : ltb n 2 ≡ false). wrong Syntax (ltb-false n 2 no, refl) (λ g w. w.1) (rw no refl))
    (cases_Bool (ltb n 2))

successor_verdict : (ids : List ℕ) (n at : ℕ) → Verdict (place_of ids) (IsUnknown ids) (successor_of_number ids) n at
successor_verdict ids n at = ⊎_elim
    (λ (yes : is_member ids n ≡ true). right (λ f w. w.0 (Contains-any n ids yes)) (rw yes refl))
    (λ (no : is_member ids n ≡ false). wrong OtherGame
    (λ h. true_false (sym (any-from_Contains n ids h) ∙ no), refl) (λ g w. w.1) (rw no refl))
    (cases_Bool (is_member ids n))

semicolon_fits : (t : Sign) (at : ℕ) → Fits cause_number Syntax semicolon_in NoBad t at (semicolon_answer (Some t) at)
semicolon_fits Semicolon at = taken tt refl (λ f b. b) refl
semicolon_fits _ at = refused refl (λ f b. b) refl

-- where every number that fits in 64 bits is allowed, a number token that fits gives its value
pub value_small : {n : ℕ} (at : ℕ) → n < too_large → Ok n ≡ value_answer any_of_number (Some (Number n)) at
value_small {n} at small = rw (lt-ltb n too_large small) refl

pub value_large : (n at : ℕ) → too_large ≤ n → Err (Text Syntax at) ≡ value_answer any_of_number (Some (Number n)) at
value_large n at large = rw (le-ltb n too_large large) refl

-- ## What each parsing function for one token establishes

module _ (old : Stream Sign) {new : Stream Sign} (rest : new ≡ tail old) where
  pub reads_number : {r : Result ℕ CertFault} →
      r ≡ value_answer any_of_number (next_of old) (offset_of old.pieces old.end) → ReadsAs (λ n. n) number old r new
  unfolding number
  reads_number = one_reads cause_number Syntax (Number 0) refl (value_answer any_of_number)
      (value_fits (λ n. n) AnyValue any_of_number any_verdict) (λ at. refl) old rest

  pub reads_vertex : (ids : List ℕ) (s : SolvedData) {r : Result ℕ CertFault} →
      r ≡ value_answer (vertex_of_number ids s) (next_of old) (offset_of old.pieces old.end) →
      ReadsAs (λ n. n) (vertex ids s) old r new
  unfolding vertex
  reads_vertex ids s = one_reads cause_number Syntax (Number 0) refl (value_answer (vertex_of_number ids s))
      (value_fits (place_of ids) (IsBadVertex ids s) (vertex_of_number ids s) (vertex_verdict ids s)) (λ at. refl) old
      rest

  pub reads_winner : {r : Result ℕ CertFault} →
      r ≡ value_answer winner_of_number (next_of old) (offset_of old.pieces old.end) → ReadsAs (λ n. n) winner old r new
  unfolding winner
  reads_winner = one_reads cause_number Syntax (Number 0) refl (value_answer winner_of_number)
      (value_fits (λ n. n) IsNoPlayer winner_of_number winner_verdict) (λ at. refl) old rest

  pub reads_successor : (ids : List ℕ) {r : Result ℕ CertFault} →
      r ≡ value_answer (successor_of_number ids) (next_of old) (offset_of old.pieces old.end) →
      ReadsAs (λ n. n) (successor ids) old r new
  unfolding successor
  reads_successor ids = one_reads cause_number Syntax (Number 0) refl (value_answer (successor_of_number ids))
      (value_fits (place_of ids) (IsUnknown ids) (successor_of_number ids) (successor_verdict ids))
      (λ at. refl) old rest

  pub reads_semicolon : {r : Result (Unit {0}) CertFault} →
      r ≡ semicolon_answer (next_of old) (offset_of old.pieces old.end) → ReadsAs (λ u. u) semicolon old r new
  unfolding semicolon
  reads_semicolon =
      one_reads cause_number Syntax Semicolon refl semicolon_answer semicolon_fits (λ at. refl) old rest
