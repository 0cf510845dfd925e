-- The hashes of nodes.
use Rattle.std.specs.Prelude.{ℕ, ◌+◌, ◌*◌, true, false}
use Rattle.ps_keys.specs.Hashes.{mixed}
use Rattle.ps_formula.specs.declared.node.Node.{Node}
use Rattle.ps_formula.specs.declared.normal_node.NormalNode.{NormalNode}
use Rattle.ps_formula.specs.declared.normal_node.NormalNode.TheVariants as normal
use Rattle.ps_formula.specs.declared.node.Node.TheVariants.{Constant, Proposition, Not, And, Or, Implies, Iff, Next}
use Rattle.ps_formula.specs.declared.node.Node.TheVariants.{Until, Release, WeakUntil, Finally, Globally}

-- the hash of a node for a seed
abbrev pub hash_of_node : ℕ → Node → ℕ
hash_of_node seed (Constant true) = mixed seed 1 0
hash_of_node seed (Constant false) = mixed seed 0 0
hash_of_node seed (Proposition p) = mixed seed p 1
hash_of_node seed (Not f) = mixed seed f 2
hash_of_node seed (And f g) = mixed seed f (g * 16 + 3)
hash_of_node seed (Or f g) = mixed seed f (g * 16 + 4)
hash_of_node seed (Implies f g) = mixed seed f (g * 16 + 5)
hash_of_node seed (Iff f g) = mixed seed f (g * 16 + 6)
hash_of_node seed (Next f) = mixed seed f 7
hash_of_node seed (Until f g) = mixed seed f (g * 16 + 8)
hash_of_node seed (Release f g) = mixed seed f (g * 16 + 9)
hash_of_node seed (WeakUntil f g) = mixed seed f (g * 16 + 10)
hash_of_node seed (Finally f) = mixed seed f 11
hash_of_node seed (Globally f) = mixed seed f 12

abbrev pub hash_of_normal_node : ℕ → NormalNode → ℕ
hash_of_normal_node seed (normal.Constant true) = mixed seed 1 0
hash_of_normal_node seed (normal.Constant false) = mixed seed 0 0
hash_of_normal_node seed (normal.Proposition p) = mixed seed p 1
hash_of_normal_node seed (normal.Negated p) = mixed seed p 2
hash_of_normal_node seed (normal.And f g) = mixed seed f (g * 16 + 3)
hash_of_normal_node seed (normal.Or f g) = mixed seed f (g * 16 + 4)
hash_of_normal_node seed (normal.Next f) = mixed seed f 5
hash_of_normal_node seed (normal.Until f g) = mixed seed f (g * 16 + 6)
hash_of_normal_node seed (normal.Release f g) = mixed seed f (g * 16 + 7)
