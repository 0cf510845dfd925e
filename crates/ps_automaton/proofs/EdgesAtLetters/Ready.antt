-- The decision diagrams of aliases and labels stay correct when the diagram store grows.
use Rattle.std.proofs.Common.{arith, ℕ, List, Option, Some, None}
use Rattle.ps_label.specs.Expression.{Expression}
use Rattle.ps_diagram.specs.Labels.{AreNodesOf}
use Rattle.ps_diagram.specs.Table.{Table, Keeps}
use Rattle.ps_hoa.specs.Files.{FileData}
use Rattle.ps_automaton.specs.Inner.Drafts.{IsLabelNode, IsReady, IsReadyAt}
use Rattle.ps_automaton.specs.declared.guards.Guards.{Guards}

pub kept_nodes : {t u : Table} → Keeps t u → {aliases : List Expression} {nodes : List ℕ} → AreNodesOf t aliases nodes →
    AreNodesOf u aliases nodes
kept_nodes {t} {u} keeps {nodes} a = grind arith

kept_label : {t u : Table} → Keeps t u → (file : FileData) (label : Option Expression) (node : Option ℕ) →
    IsLabelNode t file label node → IsLabelNode u file label node
kept_label keeps file None None h = tt
kept_label keeps file None (Some node) h = absurd h
kept_label keeps file (Some e) None h = absurd h
kept_label {t} {u} keeps file (Some e) (Some node) h = (keeps.held node h.0, grind arith)

pub kept_ready : {t u : Table} → Keeps t u → {g : Guards} {place : ℕ} → IsReadyAt t g place → IsReadyAt u g place
kept_ready {t} {u} keeps {g} r =
    let ready : IsReady u g = grind (arith, kept_nodes, kept_label) in record { ready = ready; within = r.within }
