use Rattle.std.proofs.Common.{◌≡◌, ◌∙◌, ◌++◌, ◌∷◌, [], ℕ, List, ap, append_assoc}
use Rattle.ps_sentences.proofs.ConjunctLemmas.{both_taken, split_at, true_taken, whole_taken}
use Rattle.ps_sentences.proofs.conjuncts.take_apart.Goals as goal

pub returns-in-True-clause-apart : goal.returns-in-True-clause-apart
returns-in-True-clause-apart c = true_taken c.args.parts.now.items c.args.pending.now.items c.requires
    (split_at c.in-True.is c.in_ok-split_of.ensures.split)

pub returns-in_ok-push-in-Whole-clause-apart : goal.returns-in_ok-push-in-Whole-clause-apart
returns-in_ok-push-in-Whole-clause-apart c = rw c.in_ok-push-in-Whole.ensures.items
    (whole_taken c.args.parts.now.items c.args.pending.now.items c.requires
    (split_at c.in-Whole.is c.in_ok-split_of.ensures.split))

pub returns-in_ok-push-in-Both-2-clause-apart : goal.returns-in_ok-push-in-Both-2-clause-apart
returns-in_ok-push-in-Both-2-clause-apart c =
    let pending = c.args.pending.now.items in
    let f = c.in-Both.f in
    let g = c.in-Both.g in
    let all : c.push-in-Both-2.new.self.items ≡ pending ++ g ∷ f ∷ [] =
    c.in_ok-push-in-Both-2.ensures.items
    ∙ ap (λ (l : List ℕ). l ++ f ∷ []) c.in_ok-push-in-Both.ensures.items
    ∙ append_assoc pending (g ∷ []) (f ∷ []) in
    rw all (both_taken c.args.parts.now.items pending c.requires f g
    (split_at c.in-Both.is c.in_ok-split_of.ensures.split))
