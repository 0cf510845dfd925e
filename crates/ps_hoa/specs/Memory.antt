-- The bytes of a stored name.
use Rattle.std.specs.Prelude.{ℕ, List, Vec}
use Rattle.std.specs.Global.{Global}

abbrev pub bytes_of : Vec ℕ Global → List ℕ
bytes_of v = v.items
