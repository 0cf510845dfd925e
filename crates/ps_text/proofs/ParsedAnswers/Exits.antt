-- What a parsing function returns at each of its exits. The contract of a parsing function is `Meets found causes view
-- part old result new`: a `Reads` for an Ok, and a `Stops` for an Err. The proofs use the contracts of the called
-- functions as `c.call.ensures`; for a call with `?`, as `c.in_ok-call.ensures` if the call succeeds, and as
-- `c.in_err-call.ensures` if it fails.
-- - `reads_then j m n`: the first call parsed its grammar (m), and the other calls parsed the rest (n)
-- - `stops_first causes j old o s`: the first call failed, so the function fails
-- - `stops_behind causes j m o s`: the first call parsed its grammar, and a later call failed
-- - `reads_next`, `stops_bad`, `stops_refusal`: the exits of a function that parses one symbol: the symbol is accepted;
--   it is an error; it is not allowed, or the text ends
-- - `reads_give`: if no symbol was taken, `give v` was parsed
-- - `reads_mapped`, `stops_mapped`: if P was parsed, `mapped h P` was parsed; if P failed, `mapped h P` fails with the
--   same error
-- - `exits found causes view part old new e r s c`: if a `?` returns the error e of a failed parse as the result r, the
--   contract of the function is met
-- - `then_meets`: a function that parses P, and then returns the result of its call for Q unchanged, meets the contract
--   for `then_by P Q`
-- - `carries_start`, `carries_then`, `carries_reads`, `carries_stops`: the invariant `Carries` of a parsing loop holds
--   at the start and after a grammar was parsed; at the loop's exits, it gives the result of parsing the whole
--
-- For successive calls, nest `reads_then`; j is a proof of `Joint` (proofs/Combinators/Laws.antt) for the two grammars
-- that are parsed one after the other. In `exits`, s states what the error reports (`Stops`), and c, which is
-- `c.from_residual.ensures.1`, states that the result is this error. For example, the following calls parse the grammar
-- `line = then_by number (λ n. mapped (λ _. n) semicolon)`:
--         let n = number(tokens)?; semicolon(tokens)?; Ok(n)
--
-- If j proves `Joint` for the two grammars, the proof for these calls is:
--         returns-in_err-n c = exits found causes view line _ _ _ _
--             (stops_first causes j _ _ c.in_err-n.ensures) c.from_residual.ensures.1
--         returns c = reads_then j c.in_ok-n.ensures (reads_mapped _ c.in_ok-semicolon.ensures)
use Rattle.std.proofs.Common.{arith, ◌≡◌, ◌≤◌, List, [], ◌∷◌, ◌++◌, Option, None, Some, Result, Ok, Err, IsErrAnd, refl}
use Rattle.std.proofs.Common.{sym, ap, ◌∙◌, append_assoc, rules}
use Rattle.std.proofs.lemmas.Result.{err_from_is_err_and}
use Rattle.ps_text.specs.Answers.{Piece, Stream, Found, first_of, next_of, signs, offset_of}
use Rattle.ps_text.specs.Parts.{Part, Causes, IsFault, give, one, then_by, mapped}
use Rattle.ps_text.specs.Readers.{refusal_at, tail, tail_of, IsSuffix, StopsWith, Stops, Reads, Meets, Carries}
use Rattle.ps_text.proofs.Combinators.Laws.{Joint}
use Rattle.ps_text.proofs.Combinators.Joined.{read_then, fault_left, fault_right}
use Rattle.ps_text.proofs.Combinators.Simple.{none_is_some, same_some, read_give, read_one, bad_one, refused_one}
use Rattle.ps_text.proofs.Combinators.Simple.{read_mapped}
use Rattle.ps_text.proofs.Combinators.Simple.{fault_mapped}

pub suffix_refl : {T : Type 0} (s : Stream T) → IsSuffix s s
suffix_refl s = record { taken = []; split = refl; end = refl }

pub suffix_trans : {T : Type 0} (a b c : Stream T) → IsSuffix a b → IsSuffix b c → IsSuffix a c
suffix_trans a b c x y = grind (arith, append_assoc x.taken y.taken c.pieces)

-- the next piece of a stream, if there is a next symbol
pub piece_next : {T : Type 0} (s : Stream T) (t : T) → next_of s ≡ Some t →
    (p : Piece T) × (s.pieces ≡ p ∷ (tail s).pieces) × (p.sign ≡ t)
piece_next {T} s t e = go s.pieces e
  where
    go : (ps : List (Piece T)) → first_of (signs ps) ≡ Some t → (p : Piece T) × (ps ≡ p ∷ tail_of ps) × (p.sign ≡ t)
    go [] e = absurd (none_is_some t e)
    go (p ∷ ps) e = (p, refl, same_some p.sign t e)

-- if each fault of P is a fault of Q, a failed parse of P is a failed parse of Q
pub stops_as : {T A B F : Type 0} (causes : Causes T F) (P : Part T A F) (Q : Part T B F) (old : Stream T) →
    ((f : F) (rest : List T) → IsFault causes P (signs old.pieces) f rest →
    IsFault causes Q (signs old.pieces) f rest) → (o : Option (Found F)) → Stops causes P old o → Stops causes Q old o
stops_as causes P Q old h o s = search rules

-- a failed parse of P after some pieces is a failed parse of Q, if each fault of P after these pieces is a fault of Q
pub stops_later : {T A B F : Type 0} (causes : Causes T F) (P : Part T A F) (Q : Part T B F) (old mid : Stream T) →
    IsSuffix old mid → ((f : F) (rest : List T) → IsFault causes P (signs mid.pieces) f rest →
    IsFault causes Q (signs old.pieces) f rest) → (o : Option (Found F)) → Stops causes P mid o → Stops causes Q old o
stops_later causes P Q old mid x h None s = tt
stops_later causes P Q old mid x h (Some g) s = record {
  front = x.taken ++ s.front;
  rest = s.rest;
  split = x.split ∙ ap (λ z. x.taken ++ z) s.split ∙ sym (append_assoc x.taken s.front s.rest);
  fault = h g.cause (signs s.rest) s.fault;
  offset = s.offset ∙ ap (offset_of s.rest) x.end;
}

-- ## A grammar was parsed

pub reads_give : {T V F : Type 0} (stream : Stream T) (value : V) →
    Reads (give {T = T} {V = V} {F = F} value) stream value stream
reads_give s v = (suffix_refl s, read_give (signs s.pieces) v)

pub reads_mapped : {T A B F : Type 0} (h : A → B) {P : Part T A F} {old new : Stream T} {value : A} →
    Reads P old value new → Reads (mapped h P) old (h value) new
reads_mapped h {P} m = (m.0, read_mapped h P m.1)

pub reads_then : {T A B F : Type 0} {P : Part T A F} {Q : A →
    Part T B F} {old mid new : Stream T} {first : A} {second : B} → Joint P Q → Reads P old first mid →
    Reads (Q first) mid second new → Reads (then_by P Q) old second new
reads_then {old = old} {mid = mid} {new = new} j m n = (suffix_trans old mid new m.0 n.0, read_then j m.1 n.1)

pub reads_next : {T V F : Type 0} (take : T → Option V) (Bad : T → F →
    Type 0) (old new : Stream T) (sign : T) (value : V) → next_of old ≡ Some sign → new ≡ tail old →
    take sign ≡ Some value → ((cause : F) → Bad sign cause → ⊥) → Reads (one take Bad) old value new
reads_next {T} take Bad old new t v n z k good =
    let p = piece_next old t n in go p.0 (p.1 ∙ ap (λ s. p.0 ∷ s.pieces) (sym z)) (ap (λ s. s.end) z) p.2
  where
    go : (p : Piece T) → old.pieces ≡ p ∷ new.pieces → new.end ≡ old.end → p.sign ≡ t → Reads (one take Bad) old v new
    go p e l x = (
      record { taken = p ∷ []; split = e; end = l },
      grind (arith, read_one),
    )

-- ## A fault was found

module _ {T F : Type 0} (causes : Causes T F) where
  pub stops_mapped : {A B : Type 0} (h : A → B) (P : Part T A F) (old : Stream T) (stop : Option (Found F)) →
      Stops causes P old stop → Stops causes (mapped h P) old stop
  stops_mapped h P old o s = stops_as causes P (mapped h P) old (λ f rest p. fault_mapped h P p) o s

  pub stops_first : {A B : Type 0} {P : Part T A F} {Q : A → Part T B F} → Joint P Q →
      (old : Stream T) (stop : Option (Found F)) → Stops causes P old stop → Stops causes (then_by P Q) old stop
  stops_first {P = P} {Q = Q} j old o s = search (rules, stops_as, fault_left)

  pub stops_behind : {A B : Type 0} {P : Part T A F} {Q : A → Part T B F} {old mid : Stream T} {a : A} → Joint P Q →
      Reads P old a mid → (stop : Option (Found F)) → Stops causes (Q a) mid stop → Stops causes (then_by P Q) old stop
  stops_behind {P = P} {Q = Q} {old = old} {mid = mid} {a = a} j m o s = search (rules, stops_later, fault_right)

  module _ {V : Type 0} (take : T → Option V) (Bad : T → F → Type 0) (old : Stream T) where
    stops_there : (f : F) → IsFault causes (one take Bad) (signs old.pieces) f (signs old.pieces) →
        StopsWith causes (one take Bad) old (record { cause = f; offset = offset_of old.pieces old.end })
    stops_there f h = record { front = []; rest = old.pieces; split = refl; fault = h; offset = refl }

    pub stops_bad : (t : T) (f : F) (o : Option (Found F)) → next_of old ≡ Some t → Bad t f →
        ((g : F) → Bad t g → causes.number f ≤ causes.number g) →
        o ≡ Some (record { cause = f; offset = offset_of old.pieces old.end }) → Stops causes (one take Bad) old o
    stops_bad t f o n b least k = rw k (stops_there f (bad_one take Bad causes (signs old.pieces) t f n b least))

    -- the grammar of one symbol has a text, because `take` accepts the symbol s
    pub stops_refusal : (s : T) (w : V) → take s ≡ Some w → ((t : T) → next_of old ≡ Some t → take t ≡ None) →
        ((t : T) (f : F) → next_of old ≡ Some t → Bad t f → ⊥) →
        (o : Option (Found F)) → o ≡ Some (refusal_at causes old) → Stops causes (one take Bad) old o
    stops_refusal s w y none good o k = rw k (search (rules, stops_there, refused_one))

-- ## Results

pub exits : {T V F X E : Type 0} (found : E → Option (Found F)) (causes : Causes T F) (view : X → V) (P : Part T V F)
    (old new : Stream T) (fault : E) (result : Result X E) →
    Stops causes P old (found fault) → IsErrAnd result (λ y. y ≡ fault) → Meets found causes view P old result new
exits found causes view P old new e r s i = search (rules, err_from_is_err_and)

pub then_meets : {T F E A B Y : Type 0} (found : E → Option (Found F)) (causes : Causes T F) (view : Y →
    B) {P : Part T A F} {Q : A → Part T B F} {old mid : Stream T} {first : A} (new : Stream T) (result : Result Y E) →
    Joint P Q → Reads P old first mid → Meets found causes view (Q first) mid result new →
    Meets found causes view (then_by P Q) old result new
then_meets found causes view new (Ok y) j m n = reads_then j m n
then_meets found causes view new (Err e) j m n = stops_behind causes j m (found e) n

-- ## Loops

pub carries_start : {T V F : Type 0} (causes : Causes T F) (whole : Part T V F) (start : Stream T) →
    Carries causes whole start whole start
carries_start causes whole start r new m = m

pub carries_reads : {T V F : Type 0} (causes : Causes T F) {whole rest : Part T V F} {start now new : Stream T} {v : V}
    → Carries causes whole start rest now → Reads rest now v new → Reads whole start v new
carries_reads causes {new = new} {v = v} c m = c (Ok v) new m

pub carries_stops : {T V F : Type 0} (causes : Causes T F) (whole rest : Part T V F) (start now : Stream T) (stop :
    Option (Found F)) → Carries causes whole start rest now → Stops causes rest now stop → Stops causes whole start stop
carries_stops causes whole rest start now o c s = c (Err o) now s

pub carries_then : {T A B F : Type 0} (causes : Causes T F) {whole : Part T B F} {P : Part T A F} {Q : A → Part T B F}
    {start now next : Stream T} {a : A} → Joint P Q →
    Carries causes whole start (then_by P Q) now → Reads P now a next → Carries causes whole start (Q a) next
carries_then {T} {A} {B} {F} causes {whole} {P} {Q} {start} {now} {next} {a} j c m = go
  where
    go : Carries causes whole start (Q a) next
    go (Ok b) new n = c (Ok b) new (reads_then j m n)
    go (Err o) new n = c (Err o) new (stops_behind causes j m o n)
