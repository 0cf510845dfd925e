-- The results that a memo table keeps. (For private functions.)
use Rattle.std.specs.Prelude.{ℕ, Bool, Option}
use Rattle.ps_keys.specs.Keys.{Mapped, value_for}

-- the result for a key, if it is kept
abbrev pub result_for : {K : Type 0} → (K → K → Bool) → Mapped K ℕ → K → Option ℕ
result_for eq results key = value_for eq results key
