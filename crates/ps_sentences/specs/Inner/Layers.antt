-- Operators that distribute over `&&`, and what they make of a formula.
-- - `node_around layer operand`: the node of a layer with its operand
-- - `IsLayer nodes layer`: the layer's other operand is in the table
-- - `around nodes layer f`: the layer's operator on the formula f
-- - `within nodes layers f`: the operators of the layers on f, the first one outermost
use Rattle.std.specs.Prelude.{◌<◌, ℕ, List, [], ◌∷◌, length}
use Rattle.std.specs.List.{AllByRecursion}
use Rattle.ps_formula.specs.Formulas.{Formula, formula_at, globally, implies, next, weak_until}
use Rattle.ps_formula.specs.declared.node.Node.{Node}
use Rattle.ps_formula.specs.declared.node.Node.TheVariants as nodes
use Rattle.ps_sentences.specs.declared.layers.Layer.{Layer}
use Rattle.ps_sentences.specs.declared.layers.Layer.TheVariants.{Next, Globally, Given, Unless}

abbrev pub node_around : Layer → ℕ → Node
node_around Next operand = nodes.Next operand
node_around Globally operand = nodes.Globally operand
node_around (Given f) operand = nodes.Implies f operand
node_around (Unless g) operand = nodes.WeakUntil operand g

abbrev pub IsLayer : List Node → Layer → Type 0
IsLayer table Next = Unit {0}
IsLayer table Globally = Unit {0}
IsLayer table (Given f) = f < length table
IsLayer table (Unless g) = g < length table

abbrev pub around : List Node → Layer → Formula → Formula
around table Next f = next f
around table Globally f = globally f
around table (Given left) f = implies (formula_at table left) f
around table (Unless right) f = weak_until f (formula_at table right)

abbrev pub AreLayers : List Node → List Layer → Type 0
AreLayers table layers = AllByRecursion (IsLayer table) layers

abbrev pub within : List Node → List Layer → Formula → Formula
within table [] f = f
within table (layer ∷ layers) f = around table layer (within table layers f)
