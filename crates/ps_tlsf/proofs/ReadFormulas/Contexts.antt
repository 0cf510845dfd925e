-- What the machine reads, the grammar derives.
-- - `Context frames tokens trees`: the tokens are read up to an operand; each frame is a production up to its last
-- part,
--   and the trees are the first operands of the frames' operators
-- - `Closed aim stack tokens`: behind a context, tokens derive from a phrase
-- - `Reading`: what holds between tokens
use Rattle.std.proofs.Common.{◌≡◌, ℕ, ◌+◌, ◌<◌, ◌≤◌, true, List, [], ◌∷◌, ◌++◌, None, Some, refl, ap}
use Rattle.std.proofs.Common.{◌∙◌, sym, arith, subst, append_assoc}
use Rattle.std.specs.Prelude.{Option}
use Rattle.ps_formula.specs.Formulas.{Formula}
use Rattle.ps_tlsf.specs.Grammar.{Phrase, unary, behind_prefix}
use Rattle.ps_tlsf.specs.Grammar.{nesting}
use Rattle.ps_tlsf.specs.Lexicon.{Token}
use Rattle.ps_tlsf.specs.Machines.{depth_of, may_follow, taken, taken_top, top_form}
use Rattle.ps_tlsf.specs.Names.{Name}
use Rattle.ps_tlsf.specs.Trees.{joined, prefixed}
use Rattle.ps_tlsf.specs.declared.stack.Form.TheVariants as forms
use Rattle.ps_tlsf.specs.declared.stack.Frame.{Frame}
use Rattle.ps_tlsf.specs.declared.stack.Op.{Op}
use Rattle.ps_tlsf.specs.declared.stack.Op.TheVariants as ops
use Rattle.ps_tlsf.specs.declared.stack.Sweep.{Sweep}
use Rattle.ps_tlsf.specs.declared.stack.Sweep.TheVariants as sweeps
use Rattle.ps_tlsf.specs.declared.words.Infix.{Infix}
use Rattle.ps_tlsf.specs.declared.words.Prefix.{Prefix}
use Rattle.ps_tlsf.specs.declared.words.Sign.TheVariants as signs
use Rattle.ps_tlsf.proofs.ReadFormulas.Productions.{Bounded, aim_of, is_within, joins, left, makes, raised, right}
use Rattle.ps_tlsf.proofs.ReadFormulas.Productions.{taken_itself}
use Rattle.ps_tlsf.proofs.ReadFormulas.Productions.{taken_within, under, under_made, under_no_prefix, within_right}
use Rattle.ps_tlsf.proofs.ReadFormulas.TreeMachine.{Limits, Swept}
use Rattle.ps_tlsf.proofs.ReadFormulas.TreeMachine.{frame_in, frame_with}
use Rattle.ps_tlsf.proofs.ReadFormulas.TreeMachine.{sweeps_no_more, sweeps_one, swept}

pub data Context (l : Limits) (names : List Name) : List Frame → List Token → List Formula → Type 0 where
  nothing : Context l names [] [] []
  in_paren : (t : Token) {frames : List Frame} {ts : List Token} {trees : List Formula} →
      Context l names frames ts trees → t.sign ≡ signs.LeftParen → depth_of frames < l.depth →
      Context l names (frame_in forms.Paren frames ∷ frames) (ts ++ t ∷ []) trees
  in_prefix : (t : Token) {q : Prefix} {frames : List Frame} {ts : List Token} {trees : List Formula} →
      Context l names frames ts trees → t.sign ≡ signs.Prefix q → depth_of frames < l.depth →
      Context l names (frame_in (forms.Prefix q) frames ∷ frames) (ts ++ t ∷ []) trees
  in_infix : (t : Token) {o : Infix} {frames : List Frame} {ts us : List Token} {trees : List Formula} {f : Formula} →
      Context l names frames ts trees → may_follow o (top_form frames) ≡ true →
      Bounded names l.depth (left o) us f (depth_of frames) → t.sign ≡ signs.Infix o →
      Context l names (frame_with o frames ∷ frames) (ts ++ us ++ t ∷ []) (f ∷ trees)

pub record Closed (l : Limits) (names : List Name) (aim : Phrase) (stack : Swept) (all : List Token) : Type 0 where
  pub outer : List Token
  pub inner : List Token
  pub tree : Formula
  pub rest : List Formula
  pub context : Context l names stack.frames outer rest
  pub trees_are : stack.trees ≡ tree ∷ rest
  pub phrase : Bounded names l.depth aim inner tree (depth_of stack.frames)
  pub tokens : all ≡ outer ++ inner

module _ (l : Limits) (names : List Name) where
  pub context_deep : {frames : List Frame} {ts : List Token} {trees : List Formula} → Context l names frames ts trees →
      depth_of frames ≤ l.depth
  context_deep nothing = omega arith
  context_deep (in_paren t c e h) = omega arith
  context_deep (in_prefix t c e h) = omega arith
  context_deep (in_infix t c m b e) = context_deep c

  -- ## Sweeps

  stays_closed : (sweep : Sweep) {frames : List Frame} {ts : List Token} {trees : List Formula}
      (c : Context l names frames ts trees) (p : Phrase) (us : List Token) (f : Formula) →
      taken_top sweep frames ≡ None → is_within p (aim_of sweep) ≡ true →
      Bounded names l.depth p us f (depth_of frames) →
      Closed l names (aim_of sweep) (swept sweep frames (f ∷ trees)) (ts ++ us)
  stays_closed sweep {frames} {ts} {trees} c p us f none within b =
      subst (λ (w : Swept). Closed l names (aim_of sweep) w (ts ++ us))
      (sym (sweeps_no_more sweep frames (f ∷ trees) none))
      (record {
        outer = ts;
        inner = us;
        tree = f;
        rest = trees;
        context = c;
        trees_are = refl;
        phrase = raised names l.depth p (aim_of sweep) us f (depth_of frames) within b;
        tokens = refl;
      })

  no_paren : (sweep : Sweep) → taken sweep forms.Paren ≡ None
  no_paren sweeps.Prefixes = refl
  no_paren (sweeps.Before outer) = refl
  no_paren sweeps.Row = refl

  -- an operator on the stack is taken, or stays
  infix_closed : (sweep : Sweep) (o : Infix) (t : Token) (frames : List Frame) (ts us vs : List Token)
      (trees : List Formula) (f g : Formula) (p : Phrase) → Context l names frames ts trees →
      may_follow o (top_form frames) ≡ true → Bounded names l.depth (left o) us f (depth_of frames) →
      t.sign ≡ signs.Infix o → under p (Some (forms.Infix o)) ≡ true → is_within p (aim_of sweep) ≡ true →
      Bounded names l.depth p vs g (depth_of frames) →
      (is_within (makes o) (aim_of sweep) ≡ true →
      Bounded names l.depth (makes o) (us ++ t ∷ vs) (joined o f g) (depth_of frames) →
      Closed l names (aim_of sweep) (swept sweep frames (joined o f g ∷ trees)) (ts ++ (us ++ t ∷ vs))) →
      (found : Option Op) → taken sweep (forms.Infix o) ≡ found →
      Closed l names (aim_of sweep) (swept sweep (frame_with o frames ∷ frames) (g ∷ f ∷ trees))
      (ts ++ us ++ t ∷ [] ++ vs)
  infix_closed sweep o t frames ts us vs trees f g p c m a e up within b go None is =
      stays_closed sweep (in_infix t c m a e) p vs g is within b
  infix_closed sweep o t frames ts us vs trees f g p c m a e up within b go (Some op) is =
      let itself : taken sweep (forms.Infix o) ≡ Some (ops.Infix o) =
      is ∙ ap (λ (x : Op). let r : Option Op = Some x in r) (sym (taken_itself sweep o op is)) in
      let same : ts ++ us ++ t ∷ [] ++ vs ≡ ts ++ (us ++ t ∷ vs) = simp append_assoc in
      subst (λ (all : List Token). Closed l names (aim_of sweep)
      (swept sweep (frame_with o frames ∷ frames) (g ∷ f ∷ trees)) all) (sym same)
      (subst (λ (w : Swept). Closed l names (aim_of sweep) w (ts ++ (us ++ t ∷ vs)))
      (sym (sweeps_one sweep (frame_with o frames) frames (g ∷ f ∷ trees) (ops.Infix o) itself))
      (go (taken_within sweep o op is) (joins names l.depth o t us vs f g (depth_of frames) a e
      (raised names l.depth p (right o) vs g (depth_of frames) (within_right p o up) b))))

  pub sweep_closed : (sweep : Sweep) {frames : List Frame} {ts : List Token} {trees : List Formula} →
      Context l names frames ts trees → (p : Phrase) (us : List Token) (f : Formula) →
      under p (top_form frames) ≡ true → is_within p (aim_of sweep) ≡ true →
      Bounded names l.depth p us f (depth_of frames) →
      Closed l names (aim_of sweep) (swept sweep frames (f ∷ trees)) (ts ++ us)
  sweep_closed sweep nothing p us f up within b = stays_closed sweep nothing p us f refl within b
  sweep_closed sweep (in_paren t c e h) p us f up within b =
      stays_closed sweep (in_paren t c e h) p us f (no_paren sweep) within b
  sweep_closed sweep (in_prefix t {q = q} c e h) p us f up within b = absurd (under_no_prefix p q up)
  sweep_closed sweep (in_infix t {o = o} {frames = frames} {ts = ts} {us = vs} {trees = trees} {f = g} c m a e)
      p us f up within b =
      infix_closed sweep o t frames ts vs us trees g f p c m a e up within b
      (λ h made. sweep_closed sweep c (makes o) (vs ++ t ∷ us) (joined o g f) (under_made o (top_form frames) m) h made)
      (taken sweep (forms.Infix o)) refl

  -- behind an operand, the operators before it are complete
  pub record Behind (stack : Swept) (all : List Token) : Type 0 where
    pub closed : Closed l names unary stack all
    pub free : under unary (top_form stack.frames) ≡ true

  stays_behind : {frames : List Frame} {ts : List Token} {trees : List Formula} (c : Context l names frames ts trees)
      (us : List Token) (f : Formula) → under unary (top_form frames) ≡ true →
      taken_top sweeps.Prefixes frames ≡ None → Bounded names l.depth unary us f (depth_of frames) →
      Behind (swept sweeps.Prefixes frames (f ∷ trees)) (ts ++ us)
  stays_behind {frames} {ts} {trees} c us f free none b = record {
    closed = stays_closed sweeps.Prefixes c unary us f none refl b;
    free = subst (λ (w : Swept). under unary (top_form w.frames) ≡ true)
        (sym (sweeps_no_more sweeps.Prefixes frames (f ∷ trees) none)) free;
  }

  prefix_deep : (n m : ℕ) → n + 1 + m ≤ l.depth → n + (m + 1) ≤ l.depth
  prefix_deep n m h = omega arith

  pub operand_closed : {frames : List Frame} {ts : List Token} {trees : List Formula} →
      Context l names frames ts trees →
      (us : List Token) (f : Formula) → Bounded names l.depth unary us f (depth_of frames) →
      Behind (swept sweeps.Prefixes frames (f ∷ trees)) (ts ++ us)
  operand_closed nothing us f b = stays_behind nothing us f refl refl b
  operand_closed (in_paren t c e h) us f b = stays_behind (in_paren t c e h) us f refl refl b
  operand_closed (in_infix t c m a e) us f b = stays_behind (in_infix t c m a e) us f refl refl b
  operand_closed (in_prefix t {q = q} {frames = frames} {ts = ts} {trees = trees} c e h) us f b =
      let same : ts ++ t ∷ [] ++ us ≡ ts ++ (t ∷ us) = simp append_assoc in
      subst (λ (all : List Token). Behind
      (swept sweeps.Prefixes (frame_in (forms.Prefix q) frames ∷ frames) (f ∷ trees)) all) (sym same)
      (subst (λ (w : Swept). Behind w (ts ++ (t ∷ us)))
      (sym (sweeps_one sweeps.Prefixes (frame_in (forms.Prefix q) frames) frames (f ∷ trees) (ops.Prefix q) refl))
      (operand_closed c (t ∷ us) (prefixed q f) (record {
        derives = behind_prefix e b.derives;
        deep = prefix_deep (depth_of frames) (nesting b.derives) b.deep;
      })))

  -- the phrase that a sweep aims at
  pub swept_closed : (sweep : Sweep) (frames : List Frame) (trees : List Formula) (all : List Token) →
      Behind (record { frames = frames; trees = trees }) all →
      Closed l names (aim_of sweep) (swept sweep frames trees) all
  swept_closed sweep frames trees all b =
      let c = b.closed in
      subst (λ (ts : List Token). Closed l names (aim_of sweep) (swept sweep frames trees) ts) (sym c.tokens)
      (subst (λ (fs : List Formula). Closed l names (aim_of sweep) (swept sweep frames fs) (c.outer ++ c.inner))
      (sym c.trees_are) (sweep_closed sweep c.context unary c.inner c.tree b.free refl c.phrase))
