use Rattle.std.proofs.Common.{◌≡◌, ◌++◌, ◌∷◌, [], arith, inl, inr, None}
use Rattle.ps_diagram.specs.Inner.LeafTables.{place_in}
use Rattle.ps_diagram.proofs.NodeTables.LeafTables.{added_early, added_later, not_among}
use Rattle.ps_diagram.proofs.leaf_table.LeafTable.push.Goals as goal
use Rattle.ps_diagram.proofs.leaf_table.LeafTable.push.Goals.{then-len-ge-FEW+in_ok-place_of, else-len-ge-FEW}

pub invariant_of-self-2 : goal.invariant_of-self-2
invariant_of-self-2 c =
    let pairs = c.self.inside.pairs.items in
    let leaf = c.args.leaf in
    let none : place_in pairs leaf ≡ None = rw (← c.self.view_is) at c.requires in
    elim c.if-len-ge-FEW.branch [
      | then-len-ge-FEW+in_ok-place_of w ↦
          let is : c.push_reserved.new.self.items ≡ pairs ++ (leaf, c.args.letter) ∷ [] =
          rw (w.self-inside-is, c.in_ok-reserve.ensures.items) at c.push_reserved.ensures.items in
          elim w.in_ok-place_of.ensures.0 [
            | inl known ↦ absurd (not_among c.self.invariant leaf _ none known.1 known.2)
            | inr more ↦ rw w.self-inside-is (added_later c.self.invariant leaf c.args.letter none
                (omega (arith, w.if-len-ge-FEW.true, c.len.ensures, c.in_ok-reserve.ensures.len, c.self.inside.pairs.ok))
                more.0 is)
          ]
      | else-len-ge-FEW w ↦
          let is : c.push_reserved.new.self.items ≡ pairs ++ (leaf, c.args.letter) ∷ [] =
          rw (w.self-inside-is, c.in_ok-reserve.ensures.items) at c.push_reserved.ensures.items in
          rw w.self-inside-is (added_early c.self.invariant leaf c.args.letter none
          (omega (arith, w.if-len-ge-FEW.false, c.len.ensures, c.in_ok-reserve.ensures.len, c.self.inside.pairs.ok)) is)
    ]
