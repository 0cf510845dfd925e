-- A text has at most one list of tokens.
use Rattle.std.proofs.Common.{◌≡◌, ℕ, List, [], ◌∷◌, ◌++◌, refl, sym, ap₂, subst, ◌∙◌, rules}
use Rattle.std.specs.List.{AllByRecursion}
use Rattle.std.proofs.lemmas.List.{append_cancel_left}
use Rattle.ps_text.specs.Answers.{Piece}
use Rattle.ps_text.specs.Tokens.{NextToken, TokensFrom, TokensDiffer, HasOneTokenisation}
use Rattle.ps_text.proofs.Combinators.Splits.{Compared, shorter, same, longer, compared, same_head}

pub all_at : (P : ℕ → Type 0) (xs ys : List ℕ) (b : ℕ) → AllByRecursion P (xs ++ b ∷ ys) → P b
all_at P [] ys b h = h.0
all_at P (x ∷ xs) ys b h = all_at P xs ys b h.1

module _ {T : Type 0} (IsBlank : ℕ → Type 0) (IsToken : List ℕ → T → List ℕ → List ℕ → Type 0)
    (d : TokensDiffer IsBlank IsToken) where
  -- no token begins with a blank
  no_blank : (before text rest ys : List ℕ) (t : T) (b : ℕ) → IsToken before t text rest →
      text ++ rest ≡ b ∷ ys → IsBlank b → ⊥
  no_blank before text rest ys t b h e k = search (rules, same_head)

  not_done : (before bytes : List ℕ) (p : Piece T) → NextToken IsBlank IsToken before bytes p →
      AllByRecursion IsBlank bytes → ⊥
  not_done before bytes p n h = search (rules, all_at)

  same_pieces : (p q : Piece T) → p.sign ≡ q.sign → p.start ≡ q.start → p ≡ q
  same_pieces p q e f = ap₂ (λ x y. record { sign = x; start = y }) e f

  pub only_from : (before bytes : List ℕ) (ps qs : List (Piece T)) → TokensFrom IsBlank IsToken before bytes ps →
      TokensFrom IsBlank IsToken before bytes qs → ps ≡ qs
  only_from before bytes [] [] a b = refl
  only_from before bytes [] (q ∷ qs) a b = absurd (not_done before bytes q b.0 a)
  only_from before bytes (p ∷ ps) [] a b = absurd (not_done before bytes p a.0 b)
  only_from before bytes (p ∷ ps) (q ∷ qs) a b = go (only_from (before ++ n.blanks ++ n.text) n.rest ps qs a.1)
      (compared n.blanks (n.text ++ n.rest) m.blanks (m.text ++ m.rest) (sym n.split ∙ m.split))
    where
      n : NextToken IsBlank IsToken before bytes p
      n = a.0

      m : NextToken IsBlank IsToken before bytes q
      m = b.0

      go : (TokensFrom IsBlank IsToken (before ++ n.blanks ++ n.text) n.rest qs → ps ≡ qs) →
          Compared n.blanks (n.text ++ n.rest) m.blanks (m.text ++ m.rest) → p ∷ ps ≡ q ∷ qs
      go ih (same e f) = search (rules, same_pieces, append_cancel_left)
      go ih (shorter t w e f) = absurd (no_blank (before ++ n.blanks) n.text n.rest (w ++ (m.text ++ m.rest))
          p.sign t n.is_token f (all_at IsBlank n.blanks w t (subst (AllByRecursion IsBlank) e m.are_blanks)))
      go ih (longer t w e f) = absurd (no_blank (before ++ m.blanks) m.text m.rest (w ++ (n.text ++ n.rest))
          q.sign t m.is_token f (all_at IsBlank m.blanks w t (subst (AllByRecursion IsBlank) e n.are_blanks)))

  pub has_one_tokenisation : HasOneTokenisation IsBlank IsToken
  has_one_tokenisation bytes a b h k = search (rules, only_from)
