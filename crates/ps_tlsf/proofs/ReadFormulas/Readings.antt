-- What the machine reads, the grammar derives: token by token.
-- - `Reading start spot done`: what holds behind the tokens `done` of a formula
-- - `next_reading`, `walk_reading`: it is kept by a token, by tokens
-- - `reading_derived`: at the end, the grammar derives the tokens as the tree
use Rattle.std.proofs.Common.{◌≡◌, ℕ, ◌+◌, ◌<◌, ◌≤◌, Bool, true, false, cond, List, [], ◌∷◌, ◌++◌, None, Some, refl, ap}
use Rattle.std.proofs.Common.{◌∙◌, sym, arith, subst, append_assoc}
use Rattle.std.proofs.lemmas.List.{append-nil}
use Rattle.std.specs.Prelude.{Option, nat_le}
use Rattle.std.specs.Option.{option_and_then}
use Rattle.std.proofs.lemmas.Bool.{false≢true}
use Rattle.std.proofs.lemmas.Bool.Decides.{nat_tests}
use Rattle.std.proofs.lemmas.Option.{none-some, same_Some}
use Rattle.ps_formula.specs.Formulas.{Formula, constant, proposition}
use Rattle.ps_tlsf.specs.Grammar.{Derives, formula, unary, constant_alone, in_parentheses, is_counted, name_alone}
use Rattle.ps_tlsf.specs.Grammar.{nesting, used_by}
use Rattle.ps_tlsf.specs.Lexicon.{Token}
use Rattle.ps_tlsf.specs.Machines.{depth_of, is_bottom, is_paren, may_follow, tail_of, top_form}
use Rattle.ps_tlsf.specs.Names.{Name, is_reserved, number_of}
use Rattle.ps_tlsf.specs.Words.{is_word}
use Rattle.ps_tlsf.specs.declared.stack.Form.{Form}
use Rattle.ps_tlsf.specs.declared.stack.Form.TheVariants as forms
use Rattle.ps_tlsf.specs.declared.stack.Frame.{Frame}
use Rattle.ps_tlsf.specs.declared.stack.Sweep.TheVariants as sweeps
use Rattle.ps_tlsf.specs.declared.words.Infix.{Infix}
use Rattle.ps_tlsf.specs.declared.words.Sign.{Sign}
use Rattle.ps_tlsf.specs.declared.words.Sign.TheVariants as signs
use Rattle.ps_tlsf.proofs.ReadFormulas.Productions.{Bounded, left}
use Rattle.ps_tlsf.proofs.ReadFormulas.Contexts.{Behind, Closed, Context, in_infix, in_paren, in_prefix, nothing}
use Rattle.ps_tlsf.proofs.ReadFormulas.Contexts.{context_deep, operand_closed, swept_closed}
use Rattle.ps_tlsf.proofs.ReadFormulas.TreeMachine.{Limits, Spot, Swept, before_operand, begins, behind_next}
use Rattle.ps_tlsf.proofs.ReadFormulas.TreeMachine.{behind_operand, counts}
use Rattle.ps_tlsf.proofs.ReadFormulas.TreeMachine.{frame_in, frame_with, infix_next, leaf, named, nests, next}
use Rattle.ps_tlsf.proofs.ReadFormulas.TreeMachine.{operand_next}
use Rattle.ps_tlsf.proofs.ReadFormulas.TreeMachine.{paren_next, swept, used-append, used-counted, used-passed, walk}
use Rattle.ps_tlsf.proofs.ReadFormulas.TreeMachine.{walk_is}
use Rattle.ps_tlsf.proofs.ReadFormulas.TreeMachine.{walk_nothing}

over : (a b : ℕ) → nat_le a b ≡ false → b < a
over a b h = grind (arith, nat_tests)

word_counted : (sign : Sign) → is_word sign ≡ true → is_counted sign ≡ true
word_counted signs.LeftParen w = absurd (false≢true w)
word_counted signs.RightParen w = absurd (false≢true w)
word_counted sign w = refl

-- a choice that gave something
chosen_some : {A : Type 0} (b : Bool) (o : Option A) (v : A) → cond b o None ≡ Some v → (b ≡ true) × (o ≡ Some v)
chosen_some true o v e = (refl, e)
chosen_some false o v e = absurd (none-some v e)

refused_some : {A : Type 0} (b : Bool) (o : Option A) (v : A) → cond b None o ≡ Some v → (b ≡ false) × (o ≡ Some v)
refused_some true o v e = absurd (none-some v e)
refused_some false o v e = (refl, e)

paren_tokens : (done outer inner before : List Token) (a b : Token) → done ≡ outer ++ inner →
    outer ≡ before ++ a ∷ [] → before ++ (a ∷ inner ++ b ∷ []) ≡ done ++ b ∷ []
paren_tokens done outer inner before a b e h = rw (e, h) (simp append_assoc)

module _ (l : Limits) (names : List Name) (start : ℕ) where
  abbrev pub Place : Bool → List Frame → List Formula → List Token → Type 0
  Place false frames trees done = Context l names frames done trees
  Place true frames trees done = Behind l names (record { frames = frames; trees = trees }) done

  pub record Reading (s : Spot) (done : List Token) : Type 0 where
    pub total : s.used ≡ start + used_by done
    pub few : s.used ≤ l.used
    pub place : Place s.is_behind s.frames s.trees done

  -- ## The tests of limits

  count_passed : (s v : Spot) (go : Spot → Option Spot) → option_and_then go (counts l s) ≡ Some v →
      (s.used < l.used) × (go (record s { used = s.used + 1 }) ≡ Some v)
  count_passed s v go e = by (nat_le l.used s.used) refl e
    where
      by : (b : Bool) → nat_le l.used s.used ≡ b →
          option_and_then go (cond b None (Some (record s { used = s.used + 1 }))) ≡ Some v →
          (s.used < l.used) × (go (record s { used = s.used + 1 }) ≡ Some v)
      by true is h = absurd (none-some v h)
      by false is h = (over l.used s.used is, h)

  nest_passed : (form : Form) (s v : Spot) → nests l form s ≡ Some v →
      (depth_of s.frames < l.depth) × (record s { frames = frame_in form s.frames ∷ s.frames } ≡ v)
  nest_passed form s v e =
      let r = refused_some (nat_le l.depth (depth_of s.frames))
      (Some (record s { frames = frame_in form s.frames ∷ s.frames })) v e in
      (over l.depth (depth_of s.frames) r.0, same_Some (record s { frames = frame_in form s.frames ∷ s.frames }) v r.1)

  -- ## Where an operand begins

  module _ (frames : List Frame) (trees : List Formula) (used : ℕ) (done : List Token) (t : Token)
      (total : used ≡ start + used_by done) (few : used ≤ l.used) where
    at_spot : (s v : Spot) → s ≡ v → Reading s (done ++ t ∷ []) → Reading v (done ++ t ∷ [])
    at_spot s v e r = subst (λ (x : Spot). Reading x (done ++ t ∷ [])) e r

    counted_total : is_counted t.sign ≡ true → used + 1 ≡ start + used_by (done ++ t ∷ [])
    counted_total h = omega (arith, used-append done (t ∷ []), used-counted t [] h)

    passed_total : is_counted t.sign ≡ false → used ≡ start + used_by (done ++ t ∷ [])
    passed_total h = omega (arith, used-append done (t ∷ []), used-passed t [] h)

    leaf_reading : (f : Formula) (v : Spot) → Context l names frames done trees → is_counted t.sign ≡ true →
        Bounded names l.depth unary (t ∷ []) f (depth_of frames) →
        leaf l f (before_operand frames trees used) ≡ Some v → Reading v (done ++ t ∷ [])
    leaf_reading f v c h b e =
        let r = count_passed (before_operand frames trees used) v
        (λ (x : Spot). Some (behind_operand (swept sweeps.Prefixes x.frames (f ∷ x.trees)) x.used)) e in
        let room = r.0 in
        let stack : Swept = swept sweeps.Prefixes frames (f ∷ trees) in
        at_spot (behind_operand stack (used + 1)) v (same_Some (behind_operand stack (used + 1)) v r.1) (record {
          total = counted_total h;
          few = omega arith;
          place = operand_closed l names c (t ∷ []) f b;
        })

    named_reading : (o : Option ℕ) (v : Spot) → Context l names frames done trees → is_word t.sign ≡ true →
        is_reserved t.sign ≡ false → number_of names t.text ≡ o →
        named l o (before_operand frames trees used) ≡ Some v → Reading v (done ++ t ∷ [])
    named_reading None v c w r is e = absurd (none-some v e)
    named_reading (Some n) v c w r is e =
        let deep = context_deep l names c in
        leaf_reading (proposition n) v c (word_counted t.sign w)
        (record { derives = name_alone w r is; deep = omega arith }) e

    word_reading : (sign : Sign) (v : Spot) → Context l names frames done trees → t.sign ≡ sign →
        is_reserved sign ≡ false →
        cond (is_word sign) (named l (number_of names t.text) (before_operand frames trees used)) None ≡ Some v →
        Reading v (done ++ t ∷ [])
    word_reading sign v c e r h =
        let k = chosen_some (is_word sign) (named l (number_of names t.text) (before_operand frames trees used)) v h in
        named_reading (number_of names t.text) v c (ap is_word e ∙ k.0) (ap is_reserved e ∙ r) refl k.1

    operand_reading : (sign : Sign) (v : Spot) → Context l names frames done trees → t.sign ≡ sign →
        operand_next l names (before_operand frames trees used) t sign ≡ Some v → Reading v (done ++ t ∷ [])
    operand_reading (signs.Prefix q) v c e h =
        let s : Spot = before_operand frames trees used in
        let r = count_passed s v (λ (x : Spot). nests l (forms.Prefix q) x) h in
        let n = nest_passed (forms.Prefix q) (record s { used = used + 1 }) v r.1 in
        let room = r.0 in
        at_spot (before_operand (frame_in (forms.Prefix q) frames ∷ frames) trees (used + 1)) v n.1 (record {
          total = counted_total (ap is_counted e);
          few = omega arith;
          place = in_prefix t c e n.0;
        })
    operand_reading signs.LeftParen v c e h =
        let n = nest_passed forms.Paren (before_operand frames trees used) v h in
        at_spot (before_operand (frame_in forms.Paren frames ∷ frames) trees used) v n.1 (record {
          total = passed_total (ap is_counted e);
          few = few;
          place = in_paren t c e n.0;
        })
    operand_reading (signs.Constant b) v c e h =
        let deep = context_deep l names c in
        leaf_reading (constant b) v c (ap is_counted e) (record { derives = constant_alone e; deep = omega arith }) h
    operand_reading (signs.Infix o) v c e h = absurd (none-some v h)
    operand_reading sign v c e h = word_reading sign v c e refl h

    -- ## Behind an operand

    infix_reading : (o : Infix) (stack : Swept) (v : Spot) → Closed l names (left o) stack done →
        t.sign ≡ signs.Infix o →
        infix_next l o (behind_operand (record { frames = frames; trees = trees }) used) stack ≡ Some v →
        Reading v (done ++ t ∷ [])
    infix_reading o stack v c e h =
        let s : Spot = behind_operand (record { frames = frames; trees = trees }) used in
        let k = chosen_some (may_follow o (top_form stack.frames))
        (option_and_then (λ (x : Spot). Some (begins l o stack x)) (counts l s)) v h in
        let r = count_passed s v (λ (x : Spot). Some (begins l o stack x)) k.1 in
        let room = r.0 in
        let inner : List Frame = frame_with o stack.frames ∷ stack.frames in
        let read : Context l names inner (c.outer ++ c.inner ++ t ∷ []) (c.tree ∷ c.rest) =
        in_infix t c.context k.0 c.phrase e in
        at_spot (before_operand inner stack.trees (used + 1)) v
        (same_Some (before_operand inner stack.trees (used + 1)) v r.1) (record {
          total = counted_total (ap is_counted e);
          few = omega arith;
          place = subst (λ (ts : List Token). Context l names inner (ts ++ t ∷ []) stack.trees) (sym c.tokens)
              (subst (λ (fs : List Formula). Context l names inner (c.outer ++ c.inner ++ t ∷ []) fs) (sym c.trees_are)
              read);
        })

    -- the context of a parenthesis
    record Inside (inner : List Frame) (ts : List Token) (fs : List Formula) : Type 0 where
      before : List Token
      paren : Token
      tokens : ts ≡ before ++ paren ∷ []
      sign : paren.sign ≡ signs.LeftParen
      context : Context l names (tail_of inner) before fs
      depth : depth_of inner ≡ depth_of (tail_of inner) + 1

    inside : {inner : List Frame} {ts : List Token} {fs : List Formula} → Context l names inner ts fs →
        is_paren (top_form inner) ≡ true → Inside inner ts fs
    inside nothing e = absurd (false≢true e)
    inside (in_paren a {ts = before} c h k) e = record {
      before = before;
      paren = a;
      tokens = refl;
      sign = h;
      context = c;
      depth = refl;
    }
    inside (in_prefix b c h k) e = absurd (false≢true e)
    inside (in_infix a c m b h) e = absurd (false≢true e)

    paren_reading : (stack : Swept) (v : Spot) → Closed l names formula stack done → t.sign ≡ signs.RightParen →
        paren_next l (behind_operand (record { frames = frames; trees = trees }) used) stack ≡ Some v →
        Reading v (done ++ t ∷ [])
    paren_reading stack v c e h =
        let w : Swept = swept sweeps.Prefixes (tail_of stack.frames) stack.trees in
        let k = chosen_some (is_paren (top_form stack.frames)) (Some (behind_operand w used)) v h in
        let i : Inside stack.frames c.outer c.rest = inside c.context k.0 in
        let a = i.paren in
        let m = i.depth in
        let deep = c.phrase.deep in
        let shallow : depth_of (tail_of stack.frames) + (nesting c.phrase.derives + 1) ≤ l.depth = omega arith in
        let same : i.before ++ (a ∷ c.inner ++ t ∷ []) ≡ done ++ t ∷ [] =
        paren_tokens done c.outer c.inner i.before a t c.tokens i.tokens in
        let closes : Behind l names (swept sweeps.Prefixes (tail_of stack.frames) (c.tree ∷ c.rest))
        (i.before ++ (a ∷ c.inner ++ t ∷ [])) =
        operand_closed l names i.context (a ∷ c.inner ++ t ∷ []) c.tree
        (record { derives = in_parentheses a t i.sign e c.phrase.derives; deep = shallow }) in
        at_spot (behind_operand w used) v (same_Some (behind_operand w used) v k.1) (record {
          total = passed_total (ap is_counted e);
          few = few;
          place = subst (λ (ts : List Token). Behind l names w ts) same
              (subst (λ (fs : List Formula). Behind l names (swept sweeps.Prefixes (tail_of stack.frames) fs)
              (i.before ++ (a ∷ c.inner ++ t ∷ []))) (sym c.trees_are) closes);
        })

    behind_reading : (sign : Sign) (v : Spot) → Behind l names (record { frames = frames; trees = trees }) done →
        t.sign ≡ sign →
        behind_next l (behind_operand (record { frames = frames; trees = trees }) used) sign ≡ Some v →
        Reading v (done ++ t ∷ [])
    behind_reading (signs.Infix o) v b e h = infix_reading o (swept (sweeps.Before o) frames trees) v
        (swept_closed l names (sweeps.Before o) frames trees done b) e h
    behind_reading signs.RightParen v b e h = paren_reading (swept sweeps.Row frames trees) v
        (swept_closed l names sweeps.Row frames trees done b) e h
    behind_reading sign v b e h = absurd (none-some v h)

    spot_reading : (is_behind : Bool) (v : Spot) → Place is_behind frames trees done →
        next l names (record { frames = frames; trees = trees; used = used; is_behind = is_behind }) t ≡ Some v →
        Reading v (done ++ t ∷ [])
    spot_reading true v p e = behind_reading t.sign v p refl e
    spot_reading false v p e = operand_reading t.sign v p refl e

  pub next_reading : (s v : Spot) (done : List Token) (t : Token) → Reading s done → next l names s t ≡ Some v →
      Reading v (done ++ t ∷ [])
  next_reading s v done t r e = spot_reading s.frames s.trees s.used done t r.total r.few s.is_behind v r.place e

  pub walk_reading : (s v : Spot) (done ts : List Token) → Reading s done → walk l names s ts ≡ Some v →
      Reading v (done ++ ts)
  walk_reading s v done [] r e =
      subst (λ (x : Spot). Reading x (done ++ [])) (same_Some s v (sym (walk_nothing l names s) ∙ e))
      (subst (λ (d : List Token). Reading s d) (sym (append-nil done)) r)
  walk_reading s v done (t ∷ ts) r e =
      by (next l names s t) refl (sym (walk_is l names s t ts) ∙ e) (λ x q. walk_reading x v (done ++ t ∷ []) ts q)
    where
      by : (o : Option Spot) → next l names s t ≡ o → option_and_then (λ (x : Spot). walk l names x ts) o ≡ Some v →
          ((x : Spot) → Reading x (done ++ t ∷ []) → walk l names x ts ≡ Some v → Reading v (done ++ t ∷ [] ++ ts)) →
          Reading v (done ++ (t ∷ ts))
      by None is h go = absurd (none-some v h)
      by (Some x) is h go =
          let same : done ++ t ∷ [] ++ ts ≡ done ++ (t ∷ ts) = simp append_assoc in
          subst (λ (d : List Token). Reading v d) same (go x (next_reading s x done t r is) h)

  -- ## The end of a formula

  at_bottom : {frames : List Frame} {ts : List Token} {fs : List Formula} → Context l names frames ts fs →
      is_bottom (top_form frames) ≡ true → (ts ≡ []) × (fs ≡ []) × (depth_of frames ≡ 0)
  at_bottom nothing e = (refl, refl, refl)
  at_bottom (in_paren a c h k) e = absurd (false≢true e)
  at_bottom (in_prefix a c h k) e = absurd (false≢true e)
  at_bottom (in_infix a c m b h) e = absurd (false≢true e)

  -- the grammar derives the tokens as the tree
  pub record Derived (done : List Token) (fs : List Formula) : Type 0 where
    pub tree : Formula
    pub trees_are : fs ≡ tree ∷ []
    pub derives : Derives names formula done tree
    pub deep : nesting derives ≤ l.depth

  closed_derived : (stack : Swept) (done inner : List Token) (tree : Formula) (n : ℕ) → n ≡ 0 → done ≡ inner →
      stack.trees ≡ tree ∷ [] → Bounded names l.depth formula inner tree n → Derived done stack.trees
  closed_derived stack done inner tree n z e h b =
      let deep = b.deep in
      subst (λ (d : List Token). Derived d stack.trees) (sym e) (record {
        tree = tree;
        trees_are = h;
        derives = b.derives;
        deep = omega arith;
      })

  pub reading_derived : (s : Spot) (done : List Token) → Reading s done → s.is_behind ≡ true →
      is_bottom (top_form (swept sweeps.Row s.frames s.trees).frames) ≡ true →
      Derived done (swept sweeps.Row s.frames s.trees).trees
  reading_derived s done r behind bottom =
      let b : Behind l names (record { frames = s.frames; trees = s.trees }) done =
      subst (λ (x : Bool). Place x s.frames s.trees done) behind r.place in
      let stack : Swept = swept sweeps.Row s.frames s.trees in
      let c : Closed l names formula stack done = swept_closed l names sweeps.Row s.frames s.trees done b in
      let a = at_bottom c.context bottom in
      closed_derived stack done c.inner c.tree (depth_of stack.frames) a.2
      (c.tokens ∙ ap (λ (ts : List Token). ts ++ c.inner) a.0)
      (c.trees_are ∙ ap (λ (fs : List Formula). c.tree ∷ fs) a.1) c.phrase
