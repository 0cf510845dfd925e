-- What a call that makes a node gives (`MakesNode`) at each of its exits.
--
-- - `fails`: an earlier step of the call failed
-- - `gives`: the call leaves the table as it is, and returns one of its nodes
-- - `after`, `by-last`: earlier steps keep all nodes, and the last step makes the node that the call returns
-- - `if_made`: what is known of the node, if a call that may also return `None` makes one
-- - `by-sides`: two nodes are made first, and the result is made from them
use Rattle.std.proofs.Common.{ℕ, Err, IfOk, None, Ok, Option, Result, Some}
use Rattle.std.specs.Option.{IfSome}
use Rattle.std.specs.Result.{IsErr}
use Rattle.std.proofs.lemmas.Result.{IfOk-from_err, IfOk-weaker}
use Rattle.ps_diagram.specs.Table.{Table, IsNode, Keeps, MakesNode}
use Rattle.ps_diagram.proofs.NodeTables.Cells.{keeps_refl}
use Rattle.ps_diagram.proofs.NodeTables.KnownLemmas.{keeps_three, keeps_trans}

pub fails : {E : Type 0} {old new : Table} {result : Result ℕ E} {P : ℕ → Type 0} → Keeps old new → IsErr result →
    MakesNode old new result P
fails {result} {P} keeps err =
    record { keeps = keeps; held = IfOk-from_err result _ err; leaf = IfOk-from_err result P err }

pub gives : {E : Type 0} {t : Table} {node : ℕ} {P : ℕ → Type 0} → IsNode t node → P node →
    MakesNode {E = E} t t (Ok node) P
gives {t} held leaf = record { keeps = keeps_refl t; held = held; leaf = leaf }

pub after : {E : Type 0} {old mid new : Table} {result : Result ℕ E} {P Q : ℕ → Type 0} → Keeps old mid →
    MakesNode mid new result P → IfOk result Q → MakesNode old new result Q
after k m leaf = record { keeps = keeps_trans k m.keeps; held = m.held; leaf = leaf }

pub by-last : {E : Type 0} {old mid new : Table} {result : Result ℕ E} {P Q : ℕ → Type 0} → Keeps old mid →
    ((node : ℕ) → P node → Q node) → MakesNode mid new result P → MakesNode old new result Q
by-last {result = result} {P = P} {Q = Q} k weaker m = after k m (IfOk-weaker result P Q weaker m.leaf)

pub by-sides : {E F : Type 0} {t u v w : Table} {low high made : ℕ} {L H T P : ℕ → Type 0} →
    MakesNode {E = E} t u (Ok low) L → MakesNode {E = E} u v (Ok high) H → MakesNode {E = F} v w (Ok made) T →
    P made → MakesNode {E = E} t w (Ok made) P
by-sides l h test leaf = record { keeps = keeps_three l.keeps h.keeps test.keeps; held = test.held; leaf = leaf }

pub if_made : {E : Type 0} {P Q : ℕ → Type 0} (result : Result (Option ℕ) E) → ((node : ℕ) → P node → Q node) →
    IfOk result (λ made. IfSome made P) → IfOk result (λ made. IfSome made Q)
if_made (Ok (Some node)) weaker h = weaker node h
if_made (Ok None) weaker h = tt
if_made (Err e) weaker h = tt
