-- The number of a declared name.
use Rattle.std.proofs.Common.{◌≡◌, ℕ, ◌<◌, Bool, List, [], ◌∷◌, None, map, length, refl, rules, ap, sym, ◌∙◌, arith}
use Rattle.std.specs.Prelude.{position}
use Rattle.std.proofs.lemmas.Bool.Decides.{nat_tests}
use Rattle.ps_tlsf.specs.Lexicon.{Token}
use Rattle.ps_tlsf.specs.Names.{Name, name_cause}
use Rattle.ps_tlsf.specs.Steps.{State, bars}
use Rattle.ps_tlsf.specs.declared.phases.Phase.{Phase}
use Rattle.ps_tlsf.specs.declared.phases.Phase.TheVariants as phases
use Rattle.ps_tlsf.specs.declared.words.Side.{Side}
use Rattle.ps_tlsf.specs.declared.words.Sign.{Sign}

pub position_map : {A B : Type 0} (q : B → Bool) (f : A → B) (xs : List A) →
    position q (map f xs) ≡ position (λ x. q (f x)) xs
position_map q f [] = refl
position_map q f (x ∷ xs) = search (rules, position_map q f xs)

-- a word that can be declared finds room
pub has_room : (next : Phase) (s : State) (t : Token) (side : Side) → next ≡ phases.BehindName side →
    bars next s t ≡ None → length s.names < 64
has_room next s t side e free = room s.names t.sign t.text (ap (λ (p : Phase). bars p s t) (sym e) ∙ free)
  where
    room : (names : List Name) (sign : Sign) (text : List ℕ) → name_cause names sign text ≡ None → length names < 64
    room names sign text free = grind (arith, nat_tests)
