-- Up to the nesting limit, the grammars of labels and conditions that limit the nesting of `!` and `(` equal the
-- grammars without a limit.
-- - `to_operand`, `of_operand`: an operand that is nested at most `room` deep is an operand of the grammar with the
--   limit `room`, and conversely
use Rattle.std.proofs.Common.{◌≡◌, ◌↔◌, ◌⊎◌, ℕ, zero, suc, ◌≤◌, max, true, List, [], ◌∷◌, ◌++◌, refl, sym, ap, subst}
use Rattle.std.proofs.Common.{inl, inr, ◌∙◌, arith}
use Rattle.ps_label.specs.Expression.{Expression}
use Rattle.ps_text.specs.Parts.{Part, times}
use Rattle.ps_hoa.specs.Grammar.Conditions.{Condition, grammar as condition_parts, operand as condition_operand}
use Rattle.ps_hoa.specs.Grammar.Conditions.{condition}
use Rattle.ps_hoa.specs.Grammar.Labels.{ScopeData, grammar, operand as label_operand, label}
use Rattle.ps_hoa.specs.Grammar.Nesting.{Grammar, IsOperand, atom, negated, in_parentheses, IsPart}
use Rattle.ps_hoa.specs.Grammar.Nesting.{operand as operand_part}
use Rattle.ps_hoa.specs.Grammar.Nesting.{conjunction, More, no_more, one_more, IsRow, row, label_grammar, IsLabel}
use Rattle.ps_hoa.specs.Grammar.Nesting.{condition_grammar, IsCondition, Within}
use Rattle.ps_hoa.specs.Grammar.Operands.{is_not, is_left, is_right, is_sign_of, inner, joined, further, between, rows}
use Rattle.ps_hoa.specs.Grammar.Operands.{InfixGrammar, operand as operand_of}
use Rattle.ps_hoa.specs.Tokens.{Sign}
use Rattle.ps_hoa.specs.declared.infix.Connective.{Connective}
use Rattle.ps_hoa.specs.declared.infix.Connective.TheVariants.{And, Or}
use Rattle.ps_hoa.specs.declared.fault.HoaCause.{HoaCause}
use Rattle.ps_hoa.proofs.Grammar.OperandLaws.{taken_expect}
use Rattle.ps_hoa.proofs.Reading.NestedRows.{expect_taken, Rest, rest_none, rest_more, row_text, rest_of}

-- a `!` and an operand after it
abbrev Negation : {V : Type 0} → Grammar V → Part Sign V HoaCause → List Sign → V → Type 0
Negation {V} g P text v =
    (t : Sign) × (rest : List Sign) × (w : V) × (text ≡ t ∷ rest) × (is_not t.kind ≡ true) × g.Negates w v ×
    P.IsText rest w

-- an operand, if one more level of nesting is allowed: an atom, a negation, or operands in parentheses
abbrev Form : {V : Type 0} → Grammar V → Part Sign V HoaCause → List Sign → V → Type 0
Form g P text v = g.IsAtom text v ⊎ (Negation g P text v ⊎ (inner (rows g.together Or P)).IsText text v)

-- the operands of a grammar: atoms and, if the nesting limit `room` is not 0, operands after `!` or in parentheses
record Operands {V : Type 0} (g : Grammar V) (part : ℕ → Part Sign V HoaCause) : Type 0 where
  pub atoms : (room : ℕ) (text : List Sign) (v : V) → g.IsAtom text v → (part room).IsText text v
  pub negations : (room : ℕ) (text : List Sign) (v : V) → Negation g (part room) text v →
      (part (suc room)).IsText text v
  pub parentheses : (room : ℕ) (text : List Sign) (v : V) → (inner (rows g.together Or (part room))).IsText text v →
      (part (suc room)).IsText text v
  pub none : (text : List Sign) (v : V) → (part 0).IsText text v → g.IsAtom text v
  pub some : (room : ℕ) (text : List Sign) (v : V) → (part (suc room)).IsText text v → Form g (part room) text v

module _ {V : Type 0} (g : Grammar V) (part : ℕ → Part Sign V HoaCause) (is : Operands g part) where
  -- ## From the grammar without a limit

  mutual
    to_operand : (room deep : ℕ) (text : List Sign) (v : V) → IsOperand g deep text v → deep ≤ room →
        (part room).IsText text v
    to_operand room deep text v (atom t w a) l = is.atoms room t w a
    to_operand zero deep text v (negated t d rest u w e n o) l = absurd (omega (arith, l))
    to_operand (suc room) deep text v (negated t d rest u w e n o) l =
        is.negations room text v (t, rest, u, refl, e, n, to_operand room d rest u o (omega (arith, l)))
    to_operand zero deep text v (in_parentheses a b d rest w e f n) l = absurd (omega (arith, l))
    to_operand (suc room) deep text v (in_parentheses a b d rest w e f n) l = is.parentheses room text v (record {
      left = a ∷ [];
      right = rest ++ b ∷ [];
      value = tt;
      split = refl;
      is_left = (a, refl, expect_taken is_left a e);
      is_right = record {
        left = rest;
        right = b ∷ [];
        value = w;
        split = refl;
        is_left = to_row room Or d rest w n (omega (arith, l));
        is_right = (tt, (b, refl, expect_taken is_right b f), refl);
      };
    })

    to_part : (room : ℕ) (c : Connective) (deep : ℕ) (text : List Sign) (v : V) → IsPart g c deep text v → deep ≤ room →
        (between g.together c (part room)).IsText text v
    to_part room c deep text v (operand_part d t w n) l = to_operand room d t w n l
    to_part room c deep text v (conjunction d t w n) l = to_row room And d t w n l

    to_more : (room : ℕ) (c : Connective) (deep : ℕ) (text : List Sign) (vs : List V) →
        More g c deep text vs → deep ≤ room → Rest (is_sign_of c) (between g.together c (part room)) text vs
    to_more room c deep text vs (no_more k) l = rest_none (is_sign_of k) (between g.together k (part room))
    to_more room c deep text vs (one_more k t a b left rest v ws e n m) l =
        rest_more (is_sign_of k) (between g.together k (part room)) t left rest v ws e
        (to_part room k a left v n (omega (arith, l))) (to_more room k b rest ws m (omega (arith, l)))

    to_row : (room : ℕ) (c : Connective) (deep : ℕ) (text : List Sign) (v : V) → IsRow g c deep text v → deep ≤ room →
        (rows g.together c (part room)).IsText text v
    to_row room c deep text v (row k a b left rest w ws n m) l =
        row_text (is_sign_of k) (between g.together k (part room)) (g.together k) left rest w ws
        (to_part room k a left w n (omega (arith, l))) (to_more room k b rest ws m (omega (arith, l)))

  -- ## To the grammar without a limit

  module _ (room : ℕ) (c : Connective) (h : (text : List Sign) (v : V) →
      (between g.together c (part room)).IsText text v → Within room (IsPart g c) text v) where
    of_more : (k : ℕ) (ws us : List V) (text : List Sign) → (times k
        (λ us. further (is_sign_of c) (between g.together c (part room)) us) ws).IsText text us →
        (vs : List V) × (us ≡ ws ++ vs) × Within room (More g c) text vs
    of_more =
        rest_of (is_sign_of c) (between g.together c (part room)) (Within room (More g c)) (0, omega arith, no_more c)
        (λ t text rest v vs e p m. let q = h text v p in (
          max q.0 m.0,
          omega (arith, q.1, m.1),
          one_more c t q.0 m.0 text rest v vs e q.2 m.2,
        ))

    of_row : (text : List Sign) (v : V) → (rows g.together c (part room)).IsText text v → Within room (IsRow g c) text v
    of_row text v i =
        let j = i.1 in
        let q = h j.left j.is_left.0 j.is_left.1 in
        let r = of_more j.is_right.0 j.value i.0 j.right j.is_right.1 in
        let all : i.0 ≡ j.is_left.0 ∷ r.0 = r.1 ∙ ap (λ z. z ++ r.0) j.is_left.2 in
        subst (λ z. Within room (IsRow g c) z v) (sym j.split) (subst
        (λ z. Within room (IsRow g c) (j.left ++ j.right) z) (sym (i.2 ∙ ap (joined (g.together c)) all))
        (max q.0 r.2.0, omega (arith, q.1, r.2.1), row c q.0 r.2.0 j.left j.right j.is_left.0 r.0 q.2 r.2.2))

  -- if the operands are nested at most `room` deep, rows of these operands are nested at most `room` deep
  of_rows : (room : ℕ) → ((text : List Sign) (v : V) → (part room).IsText text v → Within room (IsOperand g) text v) →
      (text : List Sign) (v : V) → (rows g.together Or (part room)).IsText text v → Within room (IsRow g Or) text v
  of_rows room h = of_row room Or (λ text v i. let r = of_row room And (λ text v i. let q = h text v i in
      (q.0, q.1, operand_part q.0 text v q.2)) text v i in (r.0, r.1, conjunction r.0 text v r.2))

  of_form : (room : ℕ) → ((text : List Sign) (v : V) → (part room).IsText text v → Within room (IsOperand g) text v) →
      (text : List Sign) (v : V) → Form g (part room) text v → Within (suc room) (IsOperand g) text v
  of_form room h text v (inl a) = (0, omega arith, atom text v a)
  of_form room h text v (inr (inl (t, rest, w, e, n, k, o))) = let q = h rest w o in
      subst (λ z. Within (suc room) (IsOperand g) z v) (sym e) (
        suc q.0,
        omega (arith, q.1),
        negated t q.0 rest w v n k q.2,
      )
  of_form room h text v (inr (inr i)) =
      let m = i.is_right in
      let q = of_rows room h m.left m.value m.is_left in
      let l = i.is_left.0 in
      let r = m.is_right.1.0 in
      subst (λ z. Within (suc room) (IsOperand g) z v) (grind arith)
      (subst (λ z. Within (suc room) (IsOperand g) (l ∷ m.left ++ r ∷ []) z) (sym m.is_right.2) (
        suc q.0,
        omega (arith, q.1),
        in_parentheses l r q.0 m.left m.value (taken_expect is_left l tt i.is_left.2)
            (taken_expect is_right r tt m.is_right.1.2) q.2,
      ))

  of_operand : (room : ℕ) (text : List Sign) (v : V) → (part room).IsText text v → Within room (IsOperand g) text v
  of_operand zero text v i = (0, omega arith, atom text v (is.none text v i))
  of_operand (suc room) text v i = of_form room (of_operand room) text v (is.some room text v i)

  bounded : (room : ℕ) (text : List Sign) (v : V) → (rows g.together Or (part room)).IsText text v ↔ Within room
      (IsRow g Or) text v
  bounded room text v = (of_rows room (of_operand room) text v, λ w. to_row room Or w.0 text v w.2 w.1)

-- ## Labels and conditions

-- an atom is an operand for every nesting limit; if the limit is 0, every operand is an atom
module _ {V : Type 0} (g : InfixGrammar V) where
  atom_text : (room : ℕ) (text : List Sign) (v : V) → g.leaf.IsText text v → (operand_of g room).IsText text v
  unfolding operand_of
  atom_text zero text v a =
      record { left = []; right = text; value = tt; split = refl; is_left = (refl, refl); is_right = a }
  atom_text (suc room) text v a = inl a

  text_atom : (text : List Sign) (v : V) → (operand_of g 0).IsText text v → g.leaf.IsText text v
  unfolding operand_of
  text_atom text v i = subst (λ z. g.leaf.IsText z v) (sym (i.split ∙ ap (λ z. z ++ i.right) i.is_left.0)) i.is_right

label_operands : (scope : ScopeData) → Operands (label_grammar scope.names) (label_operand scope)
unfolding operand_of
label_operands scope = record {
  atoms = atom_text (grammar scope);
  negations = negations;
  parentheses = λ room text v i. inr (inr i);
  none = text_atom (grammar scope);
  some = some;
}
  where
    negations : (room : ℕ) (text : List Sign) (v : Expression) → Negation (label_grammar scope.names)
        (label_operand scope room) text v → (label_operand scope (suc room)).IsText text v
    negations room text v (t, rest, w, e, n, k, o) = inr (inl (record {
      left = t ∷ [];
      right = rest;
      value = tt;
      split = e;
      is_left = (t, refl, expect_taken is_not t n);
      is_right = (w, o, k);
    }))

    some : (room : ℕ) (text : List Sign) (v : Expression) → (label_operand scope (suc room)).IsText text v →
        Form (label_grammar scope.names) (label_operand scope room) text v
    some room text v h = grind (arith, taken_expect)

pub label_nesting : (scope : ScopeData) (room : ℕ) (text : List Sign) (v : Expression) →
    (label scope room).IsText text v ↔ Within room (IsLabel scope.names) text v
label_nesting scope room text v =
    bounded (label_grammar scope.names) (label_operand scope) (label_operands scope) room text v

condition_operands : Operands condition_grammar condition_operand
unfolding operand_of
condition_operands = record {
  atoms = atom_text condition_parts;
  negations = λ room text v h. absurd h.5;
  parentheses = λ room text v i. inr i;
  none = text_atom condition_parts;
  some = λ room text v h. elim h [ inl a ↦ inl a | inr i ↦ inr (inr i) ];
}

pub condition_nesting : (room : ℕ) (text : List Sign) (v : Condition) →
    (condition room).IsText text v ↔ Within room IsCondition text v
condition_nesting room text v = bounded condition_grammar condition_operand condition_operands room text v
