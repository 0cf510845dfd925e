-- What is still to be parsed of a line, depending on whether a further field follows.
use Rattle.std.proofs.Common.{◌≡◌, Bool, true, false, subst}
use Rattle.ps_text.specs.Answers.{Stream}
use Rattle.ps_text.specs.Bytes.{Seen}
use Rattle.ps_circuit.specs.Signs.{Field, by_more}
use Rattle.ps_circuit.proofs.ReadCircuits.CircuitParts.{Left}

module _ {V : Type 0} (P Q : Field V) {whole : Field V} {start now : Stream Seen} {b : Bool}
    (l : Left whole start (by_more P Q b) now) where
  pub comes : b ≡ true → Left whole start P now
  comes e = subst (λ x. Left whole start (by_more P Q x) now) e l

  pub none_comes : b ≡ false → Left whole start Q now
  none_comes e = subst (λ x. Left whole start (by_more P Q x) now) e l
