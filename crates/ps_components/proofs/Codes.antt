-- The codes (numbers) that represent the statuses of vertices, one at a time and in lists.
use Rattle.std.proofs.Common.{◌≡◌, ℕ, ◌+◌, ◌-◌, ◌<◌, ◌^◌, List, ◌∷◌, ◌++◌, length, map, replicate, take, refl, ap}
use Rattle.std.proofs.Common.{zero, suc, arith, Result, OnOk, is_ok, if◌then◌else◌, set, rules}
use Rattle.std.proofs.lemmas.List.{length-map, map-append, map-set, take-map}
use Rattle.std.proofs.lemmas.Bool.Decides.{nat_tests}
use Rattle.ps_components.specs.declared.statuses.Status.{Status}
use Rattle.ps_components.specs.declared.statuses.Status.TheVariants.{Unseen, Active, Closed}
use Rattle.ps_components.specs.Codes.{status_of, narrow_status_of}

pub closed_code : (number : ℕ) → number < 2 ^ 63 → status_of (number + 1) ≡ Closed number
closed_code number small = grind (arith, nat_tests)

pub active_code : (place : ℕ) → status_of (9223372036854775809 + place) ≡ Active place
active_code place = grind (arith, nat_tests)

pub narrow_closed : (number : ℕ) → number < 2 ^ 31 → narrow_status_of (number + 1) ≡ Closed number
narrow_closed number small = grind (arith, nat_tests)

pub narrow_active : (place : ℕ) → narrow_status_of (2147483649 + place) ≡ Active place
narrow_active place = grind (arith, nat_tests)

pub map-replicate : {X Y : Type 0} (f : X → Y) (n : ℕ) (x : X) → map f (replicate n x) ≡ replicate n (f x)
map-replicate f zero x = refl
map-replicate f (suc n) x = ap (λ ys. f x ∷ ys) (map-replicate f n x)

-- writing one code into a list of 4-byte or 8-byte codes changes one status
pub status_set : (status_at : ℕ → Status) (items : List ℕ) {now : List Status} (item code : ℕ) {status : Status} →
    map status_at items ≡ now → status_at code ≡ status → map status_at (set items item code) ≡ set now item status
status_set status_at items item code view is = cc (map-set status_at items item code)

-- resizing the list of codes resizes the list of statuses that the codes represent
pub resized : {A E : Type 0} (r : Result A E) (status_at : ℕ → Status) → status_at 0 ≡ Unseen → (old : List ℕ)
    {new : List ℕ} {now : List Status} (count : ℕ) {len : ℕ} → len ≡ length old →
    new ≡ (if is_ok r then take count old ++ replicate (count - len) 0 else old) → map status_at old ≡ now →
    OnOk r (map status_at new ≡ take count now ++ replicate (count - length now) Unseen)
resized r status_at h old count k m n = search (rules, map-append, take-map, map-replicate, length-map)
