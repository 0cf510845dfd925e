-- The code enters symbols one after another into a list that has, for each proposition, the index of the symbol that
-- names it.
use Rattle.std.proofs.Common.{◌≡◌, ◌≢◌, ℕ, zero, suc, ◌+◌, ◌<◌, ◌⊎◌, inl, inr, Bool, true, false, not, cond, List, []}
use Rattle.std.proofs.Common.{◌∷◌, length, get_or, set, Option, None, Some, Vec, Bor, map, refl, ap, sym, ◌∙◌, rules}
use Rattle.std.proofs.Common.{arith}
use Rattle.std.proofs.Math.Bool.{beq}
use Rattle.std.specs.Global.{Global}
use Rattle.std.specs.Option.{option_copied, is_some}
use Rattle.ps_hoa.specs.Memory.{bytes_of}
use Rattle.std.proofs.lemmas.Bool.{cases_eq, cases_lt}
use Rattle.std.specs.Str.{bytes_eq}
use Rattle.std.proofs.lemmas.Slice.Eq.{bytes_eq-Decides}
use Rattle.std.proofs.lemmas.List.{get_or-set_same, get_or-set_other, length-set, get_or_past, get_or_default}
use Rattle.std.proofs.lemmas.List.{get_or-map}
use Rattle.ps_hoa.specs.Files.{is_among}
use Rattle.ps_hoa.specs.Grammar.Header.{is_name_among}
use Rattle.ps_hoa.specs.Sound.{AreNames}
use Rattle.ps_simulate.specs.declared.role.Role.{Role}
use Rattle.ps_simulate.specs.Symbols.{AreDistinct, IsPropositionOf, IsSymbol, AreNamesOnce, reads_controllable}
use Rattle.ps_simulate.specs.Symbols.{sets_controllable}
use Rattle.ps_simulate.specs.Inner.Namings.{ArePut, ArePlacesOf}

-- ## Names that differ

not_among : (names : List (List ℕ)) (name : List ℕ) (p : ℕ) → p < length names → is_name_among name names ≡ false →
    get_or names p [] ≢ name
not_among [] name p lt h e = absurd (omega arith)
not_among (x ∷ xs) name p lt h e = go (bytes_eq name x) refl h p lt e (λ q lq hq. not_among xs name q lq hq)
  where
    go : (b : Bool) → bytes_eq name x ≡ b → cond b true (is_name_among name xs) ≡ false → (p : ℕ) →
        p < length (x ∷ xs) → get_or (x ∷ xs) p [] ≡ name
        → ((q : ℕ) → q < length xs → is_name_among name xs ≡ false → get_or xs q [] ≢ name) → ⊥
    go b d h p lt e rest = grind (arith, bytes_eq-Decides)

pub names_differ : (names : List (List ℕ)) → AreNames names → AreDistinct names
names_differ [] all p q lp lq e = absurd (omega arith)
names_differ (x ∷ xs) all zero zero lp lq e = refl
names_differ (x ∷ xs) all zero (suc q) lp lq e = absurd (not_among xs x q (omega arith) all.1 (sym e))
names_differ (x ∷ xs) all (suc p) zero lp lq e = absurd (not_among xs x p (omega arith) all.1 e)
names_differ (x ∷ xs) all (suc p) (suc q) lp lq e = ap suc (names_differ xs all.2 p q (omega arith) (omega arith) e)

-- equal options hold equal values
pub some_same : {X : Type 0} (value other : X) → Some value ≡ Some other → value ≡ other
some_same x y e = cc

none_some : {X : Type 0} {x : X} → None ≡ Some x → ⊥
none_some e = cc

-- an index at which a list has a value is within the list
pub within : {X : Type 0} (xs : List (Option X)) (k : ℕ) (x : X) → get_or xs k None ≡ Some x → k < length xs
within xs k x e = search (rules, cases_lt, none_some, get_or_past)

module _ (names : List (List ℕ)) (controllable : List ℕ) (wanted : Bool) (symbols : List (Option (List ℕ))) where
  -- ## One more symbol

  set_cases : (places : List (Option ℕ)) (p k q : ℕ) {j : ℕ} → p < length places →
      get_or (set places p (Some k)) q None ≡ Some j → ((q ≡ p) × (j ≡ k)) ⊎ (get_or places q None ≡ Some j)
  set_cases places p k q lt e = search (rules, get_or-set_same, get_or-set_other)

  pub put_step : {k : ℕ} (p : ℕ) {name : List ℕ} {places : List (Option ℕ)} →
      ArePut names controllable wanted symbols k places → get_or symbols k None ≡ Some name
      → p < length names → get_or names p [] ≡ name → is_among p controllable ≡ wanted → get_or places p None ≡ None
      → ArePut names controllable wanted symbols (k + 1) (set places p (Some k))
  put_step {k} p {places} h there lp named sides free =
      let lt : p < length places = omega (arith, h.size) in
      let sym_k : IsSymbol names symbols k p = grind arith in
      record {
        size = length-set places p (Some k) ∙ h.size;
        put = λ j lj. elim (cases_eq j k) [
          | inl same ↦ search (rules, get_or-set_same)
          | inr other ↦ let old = h.put j (omega arith) in grind (arith, get_or-set_other, none_some)
        ];
        before = λ q j e. grind (arith, set_cases places p k q lt e, h.before q j);
        is = λ q j e. elim (set_cases places p k q lt e) [
          | inl same ↦ rw (same.1, same.0) sym_k
          | inr old ↦ h.is q j old
        ];
        side = search (rules, set_cases);
      }

  -- ## Symbols that are not exactly the names

  pub nameless : (k : ℕ) → k < length symbols → get_or symbols k None ≡ None →
      ¬ AreNamesOnce names controllable wanted symbols
  nameless k lt e once = let s = once.some k lt in none_some (sym e ∙ s.1.is)

  pub unknown : (k : ℕ) {name : List ℕ} → k < length symbols → get_or symbols k None ≡ Some name →
      IsPropositionOf names controllable wanted name None → ¬ AreNamesOnce names controllable wanted symbols
  unknown k {name} lt e no_one once = let s = once.some k lt in
      no_one s.0 s.1.within s.2 (some_same (get_or names s.0 []) name (sym s.1.is ∙ e))

  pub taken : {k : ℕ} (p : ℕ) {name : List ℕ} {places : List (Option ℕ)} →
      ArePut names controllable wanted symbols k places → get_or symbols k None ≡ Some name → p < length names →
      get_or names p [] ≡ name → get_or places p None ≢ None → ¬ AreNamesOnce names controllable wanted symbols
  taken {k} p {places} h there lp named full once = go (get_or places p None) refl
    where
      go : (o : Option ℕ) → get_or places p None ≡ o → ⊥
      go None e = full e
      go (Some j) e =
          let lt = h.before p j e in
          let same : j ≡ k = once.once j k p (h.is p j e) (grind arith) in
          absurd (omega (arith, lt, same))

  -- ## All symbols

  module _ (differ : AreDistinct names) {places : List (Option ℕ)}
      (h : ArePut names controllable wanted symbols (length symbols) places) where
    placed : (p k : ℕ) → IsSymbol names symbols k p → get_or places p None ≡ Some k
    placed p k s =
        let at = h.put k (within symbols k (get_or names p []) s.is) in
        let same = differ p at.0 s.within at.1.within (some_same _ _ (sym s.is ∙ at.1.is)) in
        rw same at.2

    pub all_placed : ArePlacesOf names controllable wanted symbols places
    all_placed = record { size = h.size; placed = placed; within = h.before; side = h.side }

    pub missing : (p : ℕ) → p < length places → is_among p controllable ≡ wanted → get_or places p None ≡ None →
        ¬ AreNamesOnce names controllable wanted symbols
    missing p lt sides e once = search (rules, none_some, placed)

    pub all_once : ((p : ℕ) → p < length places → is_among p controllable ≡ wanted → get_or places p None ≢ None) →
        AreNamesOnce names controllable wanted symbols
    all_once full = record {
      each = λ p lt sides. go p (get_or places p None) refl (full p (omega (arith, h.size)) sides);
      some = λ k lt. let at = h.put k lt in (at.0, at.1, h.side at.0 k at.2);
      once = λ j k p a b. some_same j k (sym (placed p j a) ∙ placed p k b);
    }
      where
        go : (p : ℕ) (o : Option ℕ) → get_or places p None ≡ o → get_or places p None ≢ None →
            (k : ℕ) × IsSymbol names symbols k p
        go p None e full = absurd (full e)
        go p (Some k) e full = (k, h.is p k e)

-- ## The tests of the code

pub beq_same : (a b : Bool) → beq a b ≡ true → a ≡ b
beq_same a b e = grind arith

pub is_free : (places : List (Option ℕ)) (p : ℕ) (there : Option ℕ) {b : Bool} → p < length places →
    there ≡ get_or places p there → is_some there ≡ not b → b ≡ true → get_or places p None ≡ None
is_free places p there h k m n = search rules

pub is_full : (places : List (Option ℕ)) (p : ℕ) (there : Option ℕ) {b : Bool} → p < length places →
    there ≡ get_or places p there → is_some there ≡ not b → b ≡ false → get_or places p None ≢ None
is_full places p there h k m n = search (rules, get_or_default)

pub name_at : (names : List (Vec ℕ Global)) (p : ℕ) {name : Vec ℕ Global} → p < length names →
    name ≡ get_or names p name → get_or (map bytes_of names) p [] ≡ name.items
name_at names p {name} lt at = get_or-map bytes_of names p name [] lt ∙ ap bytes_of (sym at)

pub symbol_at : (symbols : List (Option (Bor (List ℕ)))) (k : ℕ) {symbol : Option (Bor (List ℕ))} → k < length symbols →
    get_or symbols k None ≡ symbol
    → get_or (map (option_copied {T = List ℕ}) symbols) k None ≡ option_copied {T = List ℕ} symbol
symbol_at symbols k lt at = search (rules, get_or-map)

-- ## Both sides

pub apart : {names : List (List ℕ)} {controllable : List ℕ} {one other : Bool} {symbols others : List (Option (List ℕ))}
    {places rest : List (Option ℕ)} → one ≢ other
    → ArePlacesOf names controllable one symbols places → ArePlacesOf names controllable other others rest → {p k : ℕ} →
    IsSymbol names symbols k p → get_or rest p None ≡ None
apart {rest} differ a b {p} {k} s = go (get_or rest p None) refl
  where
    go : (o : Option ℕ) → get_or rest p None ≡ o → o ≡ None
    go None e = refl
    go (Some j) e = absurd (differ (sym (a.side p k (a.placed p k s)) ∙ b.side p j e))

pub role_apart : (role : Role) → reads_controllable role ≢ sets_controllable role
role_apart role = search rules
