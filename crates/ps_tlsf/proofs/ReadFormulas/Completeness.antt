-- What the grammar derives, the machine reads, as the derived formula; so tokens have one formula at most.
use Rattle.std.proofs.Common.{◌≡◌, ℕ, ◌+◌, ◌<◌, ◌≤◌, Bool, true, false, cond, List, [], ◌∷◌, ◌++◌, None, Some, refl, ap}
use Rattle.std.proofs.Common.{◌∙◌, sym, arith}
use Rattle.std.specs.Prelude.{Option, max}
use Rattle.std.specs.Option.{option_and_then}
use Rattle.std.proofs.lemmas.Bool.{false≢true, true≢false}
use Rattle.ps_formula.specs.Formulas.{Formula, constant, proposition}
use Rattle.ps_tlsf.specs.Grammar.{Derives, Phrase, formula, implication, disjunction, conjunction, unary, is_temporal}
use Rattle.ps_tlsf.specs.Grammar.{behind_prefix, conjunction_alone, constant_alone, disjunction_alone}
use Rattle.ps_tlsf.specs.Grammar.{implication_alone, in_parentheses, is_counted, name_alone, nesting, unary_alone}
use Rattle.ps_tlsf.specs.Grammar.{used_by, with_and, with_iff, with_implies, with_or, with_temporal}
use Rattle.ps_tlsf.specs.Lexicon.{Token}
use Rattle.ps_tlsf.specs.Machines.{depth_of, taken, taken_top, top_form}
use Rattle.ps_tlsf.specs.Names.{Name, is_reserved, number_of}
use Rattle.ps_tlsf.specs.Trees.{joined, last_of, prefixed}
use Rattle.ps_tlsf.specs.Words.{is_word}
use Rattle.ps_tlsf.specs.declared.stack.Form.{Form}
use Rattle.ps_tlsf.specs.declared.stack.Form.TheVariants as forms
use Rattle.ps_tlsf.specs.declared.stack.Frame.{Frame}
use Rattle.ps_tlsf.specs.declared.stack.Op.TheVariants as ops
use Rattle.ps_tlsf.specs.declared.stack.Sweep.{Sweep}
use Rattle.ps_tlsf.specs.declared.stack.Sweep.TheVariants as sweeps
use Rattle.ps_tlsf.specs.declared.words.Infix.{Infix}
use Rattle.ps_tlsf.specs.declared.words.Infix.TheVariants as infixes
use Rattle.ps_tlsf.specs.declared.words.Prefix.{Prefix}
use Rattle.ps_tlsf.specs.declared.words.Sign.{Sign}
use Rattle.ps_tlsf.specs.declared.words.Sign.TheVariants as signs
use Rattle.ps_tlsf.proofs.ReadFormulas.Productions.{follows, left, left_takes, left_under, makes, right, right_takes}
use Rattle.ps_tlsf.proofs.ReadFormulas.Productions.{right_under}
use Rattle.ps_tlsf.proofs.ReadFormulas.Productions.{above_conjunction, above_disjunction, above_formula, stays, takes}
use Rattle.ps_tlsf.proofs.ReadFormulas.Productions.{takes_disjunction, takes_implication, takes_it, under}
use Rattle.ps_tlsf.proofs.ReadFormulas.TreeMachine.{Limits, Spot, Swept, before_operand, behind_next, behind_operand}
use Rattle.ps_tlsf.proofs.ReadFormulas.TreeMachine.{below_limit}
use Rattle.ps_tlsf.proofs.ReadFormulas.TreeMachine.{begins, counts, frame_in, frame_with, infix_next, leaf, named}
use Rattle.ps_tlsf.proofs.ReadFormulas.TreeMachine.{nests, next}
use Rattle.ps_tlsf.proofs.ReadFormulas.TreeMachine.{operand_next, paren_next, sweeps_no_more, sweeps_one, swept}
use Rattle.ps_tlsf.proofs.ReadFormulas.TreeMachine.{used-append}
use Rattle.ps_tlsf.proofs.ReadFormulas.TreeMachine.{used-counted}
use Rattle.ps_tlsf.proofs.ReadFormulas.TreeMachine.{used-passed, walk, walk_nothing, walk_then, walks}

module _ (l : Limits) (names : List Name) where
  -- from any place where an operand may begin, an operand is read
  pub record ReadsUnary (ts : List Token) (f : Formula) (deep : ℕ) : Type 0 where
    pub read : (frames : List Frame) (trees : List Formula) (used : ℕ) → depth_of frames + deep ≤ l.depth →
        used + used_by ts ≤ l.used → walk l names (before_operand frames trees used) ts ≡
        Some (behind_operand (swept sweeps.Prefixes frames (f ∷ trees)) (used + used_by ts))

  -- where the machine stands behind a row
  pub record AtEnd (phrase : Phrase) (frames : List Frame) (trees : List Formula) (used : ℕ) (ts : List Token)
      (f : Formula) : Type 0 where
    pub stack : Swept
    pub read : walk l names (before_operand frames trees used) ts ≡ Some (behind_operand stack (used + used_by ts))
    pub same : (sweep : Sweep) → takes phrase sweep ≡ true →
        swept sweep stack.frames stack.trees ≡ swept sweep frames (f ∷ trees)

  -- from any place where the phrase may begin, the phrase is read, and sweeps find its formula
  pub record ReadsRow (phrase : Phrase) (ts : List Token) (f : Formula) (deep : ℕ) : Type 0 where
    pub read : (frames : List Frame) (trees : List Formula) (used : ℕ) → under phrase (top_form frames) ≡ true →
        depth_of frames + deep ≤ l.depth → used + used_by ts ≤ l.used → AtEnd phrase frames trees used ts f

  abbrev pub Reads : Phrase → List Token → Formula → ℕ → Type 0
  Reads unary ts f deep = ReadsUnary ts f deep
  Reads phrase ts f deep = ReadsRow phrase ts f deep

  -- ## Operands

  counts_one : (s : Spot) → s.used < l.used → counts l s ≡ Some (record s { used = s.used + 1 })
  counts_one s h = ap (λ (b : Bool). cond {A = Option Spot} b None (Some (record s { used = s.used + 1 })))
      (below_limit l.used s.used h)

  nests_one : (form : Form) (s : Spot) → depth_of s.frames < l.depth →
      nests l form s ≡ Some (record s { frames = frame_in form s.frames ∷ s.frames })
  nests_one form s h =
      ap (λ (b : Bool). cond {A = Option Spot} b None (Some (record s { frames = frame_in form s.frames ∷ s.frames })))
      (below_limit l.depth (depth_of s.frames) h)

  same_spot : (w v : Swept) (m n : ℕ) → w ≡ v → m ≡ n →
      (let o : Option Spot = Some (behind_operand w m) in o) ≡ Some (behind_operand v n)
  same_spot w v m n e h = rw (e, h) refl

  -- the token at an operand
  at_sign : (frames : List Frame) (trees : List Formula) (used : ℕ) (t : Token) (sign : Sign) → t.sign ≡ sign →
      next l names (before_operand frames trees used) t ≡
      operand_next l names (before_operand frames trees used) t sign
  at_sign frames trees used t sign e =
      ap (λ (x : Sign). operand_next l names (before_operand frames trees used) t x) e

  reads_leaf : (t : Token) (f : Formula) → is_counted t.sign ≡ true →
      ((frames : List Frame) (trees : List Formula) (used : ℕ) →
      next l names (before_operand frames trees used) t ≡ leaf l f (before_operand frames trees used)) →
      ReadsUnary (t ∷ []) f 0
  reads_leaf t f counted is = record {
    read = λ frames trees used deep few.
        let one = used-counted t [] counted in
        let room : used < l.used = omega arith in
        let s : Spot = before_operand frames trees used in
        let stack : Swept = swept sweeps.Prefixes frames (f ∷ trees) in
        let total : used + 1 ≡ used + used_by (t ∷ []) = omega arith in
        walks l names s (behind_operand stack (used + 1)) t []
        (is frames trees used
        ∙ ap (λ (o : Option Spot). option_and_then
        (λ (v : Spot). Some (behind_operand (swept sweeps.Prefixes v.frames (f ∷ v.trees)) v.used)) o)
        (counts_one s room))
        ∙ walk_nothing l names (behind_operand stack (used + 1))
        ∙ same_spot stack stack (used + 1) (used + used_by (t ∷ [])) refl total;
  }

  reads_prefix : (t : Token) (p : Prefix) (ts : List Token) (f : Formula) (deep : ℕ) → t.sign ≡ signs.Prefix p →
      ReadsUnary ts f deep → ReadsUnary (t ∷ ts) (prefixed p f) (deep + 1)
  reads_prefix t p ts f deep e r = record {
    read = λ frames trees used fits few.
        let counted : is_counted t.sign ≡ true = ap is_counted e in
        let more = used-counted t ts counted in
        let room : used < l.used = omega arith in
        let shallow : depth_of frames < l.depth = omega arith in
        let s : Spot = before_operand frames trees used in
        let inner : List Frame = frame_in (forms.Prefix p) frames ∷ frames in
        let v : Spot = before_operand inner trees (used + 1) in
        let fits_inner : depth_of inner + deep ≤ l.depth = omega arith in
        let few_inner : used + 1 + used_by ts ≤ l.used = omega arith in
        let total : used + 1 + used_by ts ≡ used + used_by (t ∷ ts) = omega arith in
        walks l names s v t ts (at_sign frames trees used t (signs.Prefix p) e
        ∙ ap (λ (o : Option Spot). option_and_then (λ (x : Spot). nests l (forms.Prefix p) x) o) (counts_one s room)
        ∙ nests_one (forms.Prefix p) (before_operand frames trees (used + 1)) shallow)
        ∙ r.read inner trees (used + 1) fits_inner few_inner
        ∙ same_spot (swept sweeps.Prefixes inner (f ∷ trees)) (swept sweeps.Prefixes frames (prefixed p f ∷ trees))
        (used + 1 + used_by ts) (used + used_by (t ∷ ts))
        (sweeps_one sweeps.Prefixes (frame_in (forms.Prefix p) frames) frames (f ∷ trees) (ops.Prefix p) refl)
        total;
  }

  -- the token behind an operand
  behind_sign : (w : Swept) (used : ℕ) (t : Token) (sign : Sign) → t.sign ≡ sign →
      next l names (behind_operand w used) t ≡ behind_next l (behind_operand w used) sign
  behind_sign w used t sign e = ap (λ (x : Sign). behind_next l (behind_operand w used) x) e

  reads_parens : (a b : Token) (ts : List Token) (f : Formula) (deep : ℕ) → a.sign ≡ signs.LeftParen →
      b.sign ≡ signs.RightParen → ReadsRow formula ts f deep → ReadsUnary (a ∷ ts ++ b ∷ []) f (deep + 1)
  reads_parens a b ts f deep e h r = record {
    read = λ frames trees used fits few.
        let passed_a = used-passed a (ts ++ b ∷ []) (ap is_counted e) in
        let passed_b = used-passed b [] (ap is_counted h) in
        let both = used-append ts (b ∷ []) in
        let shallow : depth_of frames < l.depth = omega arith in
        let s : Spot = before_operand frames trees used in
        let inner : List Frame = frame_in forms.Paren frames ∷ frames in
        let v : Spot = before_operand inner trees used in
        let fits_inner : depth_of inner + deep ≤ l.depth = omega arith in
        let few_inner : used + used_by ts ≤ l.used = omega arith in
        let total : used + used_by ts ≡ used + used_by (a ∷ ts ++ b ∷ []) = omega arith in
        let end : AtEnd formula inner trees used ts f = r.read inner trees used refl fits_inner few_inner in
        let last : Spot = behind_operand end.stack (used + used_by ts) in
        let done : Swept = swept sweeps.Prefixes frames (f ∷ trees) in
        let found : swept sweeps.Row end.stack.frames end.stack.trees ≡ record { frames = inner; trees = f ∷ trees } =
        end.same sweeps.Row refl ∙ sweeps_no_more sweeps.Row inner (f ∷ trees) refl in
        walks l names s v a
        (ts ++ b ∷ []) (at_sign frames trees used a signs.LeftParen e ∙ nests_one forms.Paren s shallow)
        ∙ walk_then l names v last ts (b ∷ []) end.read
        ∙ walks l names last (behind_operand done (used + used_by ts)) b []
        (behind_sign end.stack (used + used_by ts) b signs.RightParen h ∙ ap (λ (w : Swept). paren_next l last w) found)
        ∙ walk_nothing l names (behind_operand done (used + used_by ts))
        ∙ same_spot done done (used + used_by ts) (used + used_by (a ∷ ts ++ b ∷ [])) refl total;
  }

  -- ## Rows

  no_prefixes : (frames : List Frame) → under unary (top_form frames) ≡ true → taken_top sweeps.Prefixes frames ≡ None
  no_prefixes [] e = refl
  no_prefixes (frame ∷ frames) e = by frame.form e
    where
      by : (form : Form) → under unary (Some form) ≡ true → taken sweeps.Prefixes form ≡ None
      by (forms.Prefix p) h = absurd (false≢true h)
      by form h = refl

  row_of_unary : (ts : List Token) (f : Formula) (deep : ℕ) → ReadsUnary ts f deep → ReadsRow unary ts f deep
  row_of_unary ts f deep r = record {
    read = λ frames trees used free fits few.
        let stack : Swept = record { frames = frames; trees = f ∷ trees } in record {
          stack = stack;
          read = r.read frames trees used fits few
              ∙ same_spot (swept sweeps.Prefixes frames (f ∷ trees)) stack (used + used_by ts) (used + used_by ts)
              (sweeps_no_more sweeps.Prefixes frames (f ∷ trees) (no_prefixes frames free)) refl;
          same = λ sweep e. refl;
        };
  }

  row_raised : (p q : Phrase) (ts : List Token) (f : Formula) (deep : ℕ) →
      ((top : Option Form) → under q top ≡ true → under p top ≡ true) →
      ((sweep : Sweep) → takes q sweep ≡ true → takes p sweep ≡ true) → ReadsRow p ts f deep → ReadsRow q ts f deep
  row_raised p q ts f deep lower fewer r = record {
    read = λ frames trees used free fits few.
        let end : AtEnd p frames trees used ts f = r.read frames trees used (lower (top_form frames) free) fits few in
        record {
          stack = end.stack;
          read = end.read;
          same = λ sweep e. end.same sweep (fewer sweep e);
        };
  }

  -- an operator behind its first operand
  infix_read : (o : Infix) (t : Token) (w : Swept) (frames : List Frame) (trees : List Formula) (used : ℕ) →
      t.sign ≡ signs.Infix o → under (makes o) (top_form frames) ≡ true → used < l.used →
      swept (sweeps.Before o) w.frames w.trees ≡ swept (sweeps.Before o) frames trees →
      next l names (behind_operand w used) t ≡ Some (before_operand (frame_with o frames ∷ frames) trees (used + 1))
  infix_read o t w frames trees used e free room same =
      let s : Spot = behind_operand w used in
      let here : Swept = record { frames = frames; trees = trees } in
      behind_sign w used t (signs.Infix o) e
      ∙ ap (λ (x : Swept). infix_next l o s x)
      (same ∙ sweeps_no_more (sweeps.Before o) frames trees (stays o frames free))
      ∙ ap (λ (b : Bool). cond {A = Option Spot} b
      (option_and_then (λ (v : Spot). Some (begins l o here v)) (counts l s)) None)
      (follows o (top_form frames) free)
      ∙ ap (λ (x : Option Spot). option_and_then (λ (v : Spot). Some (begins l o here v)) x) (counts_one s room)

  reads_infix : (o : Infix) (t : Token) (ts us : List Token) (f g : Formula) (m n : ℕ) → t.sign ≡ signs.Infix o →
      ReadsRow (left o) ts f m → ReadsRow (right o) us g n → ReadsRow (makes o) (ts ++ t ∷ us) (joined o f g) (max m n)
  reads_infix o t ts us f g m n e a b = record {
    read = λ frames trees used free fits few.
        let more = used-counted t us (ap is_counted e) in
        let both = used-append ts (t ∷ us) in
        let fits_left : depth_of frames + m ≤ l.depth = omega arith in
        let few_left : used + used_by ts ≤ l.used = omega arith in
        let room : used + used_by ts < l.used = omega arith in
        let first : AtEnd (left o) frames trees used ts f =
        a.read frames trees used (left_under o (top_form frames) free) fits_left few_left in
        let inner : List Frame = frame_with o frames ∷ frames in
        let fits_right : depth_of inner + n ≤ l.depth = omega arith in
        let few_right : used + used_by ts + 1 + used_by us ≤ l.used = omega arith in
        let second : AtEnd (right o) inner (f ∷ trees) (used + used_by ts + 1) us g =
        b.read inner (f ∷ trees) (used + used_by ts + 1) (right_under o) fits_right few_right in
        let total : used + used_by ts + 1 + used_by us ≡ used + used_by (ts ++ t ∷ us) = omega arith in
        record {
          stack = second.stack;
          read = walk_then l names (before_operand frames trees used)
              (behind_operand first.stack (used + used_by ts)) ts (t ∷ us) first.read
              ∙ walks l names (behind_operand first.stack (used + used_by ts))
              (before_operand inner (f ∷ trees) (used + used_by ts + 1)) t us
              (infix_read o t first.stack frames (f ∷ trees) (used + used_by ts) e free room
              (first.same (sweeps.Before o) (left_takes o)))
              ∙ second.read
              ∙ same_spot second.stack second.stack (used + used_by ts + 1 + used_by us)
              (used + used_by (ts ++ t ∷ us)) refl total;
          same = λ sweep h. second.same sweep (right_takes o sweep h)
              ∙ sweeps_one sweep (frame_with o frames) frames (g ∷ f ∷ trees) (ops.Infix o) (takes_it o sweep h);
        };
  }

  -- ## Derivations

  word_counted : (sign : Sign) → is_word sign ≡ true → is_counted sign ≡ true
  word_counted signs.LeftParen w = absurd (false≢true w)
  word_counted signs.RightParen w = absurd (false≢true w)
  word_counted sign w = refl

  named_next : (s : Spot) (t : Token) (sign : Sign) → is_word sign ≡ true → is_reserved sign ≡ false →
      operand_next l names s t sign ≡ named l (number_of names t.text) s
  named_next s t (signs.Prefix p) w r = absurd (true≢false r)
  named_next s t (signs.Constant b) w r = absurd (true≢false r)
  named_next s t (signs.Infix o) w r = absurd (true≢false r)
  named_next s t signs.LeftParen w r = absurd (false≢true w)
  named_next s t sign w r = ap (λ (b : Bool). cond {A = Option Spot} b (named l (number_of names t.text) s) None) w

  temporal : (o : Infix) (t : Token) (ts us : List Token) (f g : Formula) (m n : ℕ) → is_temporal o ≡ true →
      t.sign ≡ signs.Infix o → ReadsRow unary ts f m → ReadsRow unary us g n →
      ReadsRow formula (ts ++ t ∷ us) (joined o f g) (max m n)
  temporal infixes.Until t ts us f g m n h e a b = reads_infix infixes.Until t ts us f g m n e a b
  temporal infixes.Release t ts us f g m n h e a b = reads_infix infixes.Release t ts us f g m n e a b
  temporal infixes.WeakUntil t ts us f g m n h e a b = reads_infix infixes.WeakUntil t ts us f g m n e a b
  temporal o t ts us f g m n h e a b = absurd (false≢true h)

  pub complete : {phrase : Phrase} {ts : List Token} {f : Formula} (d : Derives names phrase ts f) →
      Reads phrase ts f (nesting d)
  complete (constant_alone {t = t} {b = b} e) = reads_leaf t (constant b) (ap is_counted e)
      (λ frames trees used. at_sign frames trees used t (signs.Constant b) e)
  complete (name_alone {t = t} {n = n} w r e) = reads_leaf t (proposition n) (word_counted t.sign w)
      (λ frames trees used. named_next (before_operand frames trees used) t t.sign w r
      ∙ ap (λ (o : Option ℕ). named l o (before_operand frames trees used)) e)
  complete (behind_prefix {t = t} {p = p} {ts = ts} {f = f} e d) = reads_prefix t p ts f (nesting d) e (complete d)
  complete (in_parentheses a b {ts = ts} {f = f} e h d) =
      reads_parens a b ts f (nesting d) e h (complete d)
  complete (unary_alone {ts = ts} {f = f} d) = row_raised unary conjunction ts f (nesting d) above_conjunction
      (λ sweep e. refl) (row_of_unary ts f (nesting d) (complete d))
  complete (with_and {ts = ts} {us = us} {f = f} {g = g} d t e u) =
      reads_infix infixes.And t ts us f g (nesting d) (nesting u) e (complete d)
      (row_of_unary us g (nesting u) (complete u))
  complete (conjunction_alone {ts = ts} {f = f} d) = row_raised conjunction disjunction ts f (nesting d)
      above_disjunction (right_takes infixes.Or) (complete d)
  complete (with_or {ts = ts} {us = us} {f = f} {g = g} d t e u) =
      reads_infix infixes.Or t ts us f g (nesting d) (nesting u) e (complete d) (complete u)
  complete (disjunction_alone {ts = ts} {f = f} d) = row_raised disjunction implication ts f (nesting d)
      (left_under infixes.Implies) takes_disjunction (complete d)
  complete (with_implies {ts = ts} {us = us} {f = f} {g = g} d t e u) =
      reads_infix infixes.Implies t ts us f g (nesting d) (nesting u) e (complete d) (complete u)
  complete (implication_alone {ts = ts} {f = f} d) = row_raised implication formula ts f (nesting d)
      above_formula takes_implication (complete d)
  complete (with_iff {ts = ts} {us = us} {f = f} {g = g} d t e u) =
      reads_infix infixes.Iff t ts us f g (nesting d) (nesting u) e (complete d) (complete u)
  complete (with_temporal {operator = o} {ts = ts} {us = us} {f = f} {g = g} h d t e u) =
      temporal o t ts us f g (nesting d) (nesting u) h e (row_of_unary ts f (nesting d) (complete d))
      (row_of_unary us g (nesting u) (complete u))

  -- a formula from its first token to its last
  pub derived_read : {ts : List Token} {f : Formula} (d : Derives names formula ts f) (used : ℕ) →
      nesting d ≤ l.depth → used + used_by ts ≤ l.used → (stack : Swept) ×
      (walk l names (before_operand [] [] used) ts ≡ Some (behind_operand stack (used + used_by ts))) ×
      (swept sweeps.Row stack.frames stack.trees ≡ record { frames = []; trees = f ∷ [] })
  derived_read {ts} {f} d used deep few =
      let fits : depth_of [] + nesting d ≤ l.depth = omega arith in
      let r : ReadsRow formula ts f (nesting d) = complete d in
      let end : AtEnd formula [] [] used ts f = r.read [] [] used refl fits few in
      (end.stack, end.read, end.same sweeps.Row refl ∙ sweeps_no_more sweeps.Row [] (f ∷ []) refl)

-- the tree that the last sweep finds
abbrev row_tree : Option Spot → Formula
row_tree None = constant true
row_tree (Some s) = last_of (swept sweeps.Row s.frames s.trees).trees

same_last : (f g : Formula) (a b : Swept) (m n : ℕ) →
    (let o : Option Spot = Some (behind_operand a m) in o) ≡ Some (behind_operand b n) →
    swept sweeps.Row a.frames a.trees ≡ record { frames = []; trees = f ∷ [] } →
    swept sweeps.Row b.frames b.trees ≡ record { frames = []; trees = g ∷ [] } → f ≡ g
same_last f g a b m n e h k =
    sym (ap (λ (w : Swept). last_of w.trees) h) ∙ ap row_tree e ∙ ap (λ (w : Swept). last_of w.trees) k

-- tokens have at most one formula
pub one_formula : {names : List Name} {ts : List Token} {f g : Formula} → Derives names formula ts f →
    Derives names formula ts g → f ≡ g
one_formula {names} {ts} {f} {g} d e =
    let l : Limits = record { used = used_by ts; depth = max (nesting d) (nesting e) } in
    let deep_one : nesting d ≤ max (nesting d) (nesting e) = omega arith in
    let deep_other : nesting e ≤ max (nesting d) (nesting e) = omega arith in
    let few : 0 + used_by ts ≤ used_by ts = omega arith in
    let one = derived_read l names d 0 deep_one few in
    let other = derived_read l names e 0 deep_other few in
    same_last f g one.0 other.0 (0 + used_by ts) (0 + used_by ts) (sym one.1 ∙ other.1) one.2 other.2
