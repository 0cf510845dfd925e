-- Lemmas about the parsed nodes of a game text, which are stored with a table of their ids.
use Rattle.std.proofs.Common.{rules, ◌≡◌, ◌≢◌, ℕ, List, [], ◌∷◌, ◌++◌, Option, true, length, arith, length-append, sym}
use Rattle.std.proofs.Common.{subst}
use Rattle.std.proofs.lemmas.List.{get_or_append_left, map-append}
use Rattle.std.proofs.lemmas.List.Sums.{AllPass-from_list_all, list_all-from_AllPass}
use Rattle.std.proofs.Math.Seq.{get_or-append_seam}
use Rattle.ps_ids.proofs.Members.{Contains-any, any-from_Contains}
use Rattle.std.specs.List.{All, AllPairs, Contains}
use Rattle.std.proofs.lemmas.List.Elements.{All-push, All-map, Contains-get_or}
use Rattle.std.proofs.lemmas.List.Quantifiers.{all_pairs_push}
use Rattle.ps_game.specs.Games.{HasNoQuote}
use Rattle.ps_pgsolver.specs.Nodes.{NodeData, IsReadNode, AreNodes, KnowsEach, KnowsAll, knows_each, knows_all}
use Rattle.ps_pgsolver.specs.Nodes.{is_member}
use Rattle.ps_pgsolver.specs.Nodes.{ids_of, names_of}

pub ids_of-push : (nodes : List NodeData) (node : NodeData) → ids_of (nodes ++ node ∷ []) ≡ ids_of nodes ++ node.id ∷ []
ids_of-push nodes node = map-append (λ n. n.id) nodes (node ∷ [])

pub AreNodes-push : {nodes : List NodeData} {node : NodeData} → AreNodes nodes → ¬ Contains (ids_of nodes) node.id →
    IsReadNode node → AreNodes (nodes ++ node ∷ [])
AreNodes-push {nodes} {node} are new is = record {
  distinct = subst (λ ids. AllPairs (λ x y. x ≢ y) ids) (sym (ids_of-push nodes node))
      (all_pairs_push (λ x y. x ≢ y) (ids_of nodes) node.id are.distinct (λ k d l e. search (rules, Contains-get_or)));
  each = All-push IsReadNode nodes node are.each is;
}

pub names_plain : {nodes : List NodeData} {names : List (Option (List ℕ))} → names ≡ names_of nodes → AreNodes nodes →
    All HasNoQuote names
names_plain {nodes} e are =
    subst (λ ns. All HasNoQuote ns) (sym e) (All-map HasNoQuote (λ n. n.name) nodes (λ k d l. (are.each k d l).name))

-- ## A property of a list with one more item at its end

pub all_before : {X : Type 0} (P : X → Type 0) (xs : List X) (x : X) → All P (xs ++ x ∷ []) → All P xs
all_before P xs x h k d l = grind (arith, get_or_append_left, length-append)

pub all_last : {X : Type 0} (P : X → Type 0) (xs : List X) (x : X) → All P (xs ++ x ∷ []) → P x
all_last P xs x h = subst P (get_or-append_seam xs x [] x) (h (length xs) x (omega (arith, length-append xs (x ∷ []))))

-- ## The tests for known ids

pub each_known : (ids list : List ℕ) → knows_each ids list ≡ true → KnowsEach ids list
each_known ids list e k d l = Contains-any _ ids (AllPass-from_list_all (λ id. is_member ids id) list e k d l)

each_tested : (ids list : List ℕ) → KnowsEach ids list → knows_each ids list ≡ true
each_tested ids list h = search (rules, list_all-from_AllPass, any-from_Contains)

pub all_known : (ids : List ℕ) (nodes : List NodeData) → knows_all ids nodes ≡ true → KnowsAll ids nodes
all_known ids nodes e k d l = search (rules, each_known, AllPass-from_list_all)

pub all_tested : (ids : List ℕ) (nodes : List NodeData) → KnowsAll ids nodes → knows_all ids nodes ≡ true
all_tested ids nodes h = search (rules, list_all-from_AllPass, each_tested)
