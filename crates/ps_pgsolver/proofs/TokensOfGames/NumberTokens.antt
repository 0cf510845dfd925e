-- A number token with a value of less than 2^64 is parsed as this value; a larger value is an error.
use Rattle.std.proofs.Common.{◌≡◌, ℕ, ◌<◌, ◌≤◌, Some, Ok, Err, refl}
use Rattle.std.proofs.lemmas.Bool.{lt-ltb, le-ltb}
use Rattle.ps_text.specs.declared.faults.Fault.TheVariants as faults
use Rattle.ps_pgsolver.specs.declared.fault.PgCause.TheVariants as causes
use Rattle.ps_pgsolver.specs.Inner.Answered.{number_answer}
use Rattle.ps_pgsolver.specs.GameTexts.{too_large}
use Rattle.ps_pgsolver.specs.Signs.{Number}

pub number_small : {n : ℕ} (at : ℕ) → n < too_large → Ok n ≡ number_answer (Some (Number n)) at
number_small {n} at small = rw (lt-ltb n too_large small) refl

pub number_large : (n at : ℕ) → too_large ≤ n → Err (faults.Text causes.Number at) ≡ number_answer (Some (Number n)) at
number_large n at large = rw (le-ltb n too_large large) refl
