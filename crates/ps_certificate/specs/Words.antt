-- The fixed words of a certificate's text, such as `vertices`.
use Rattle.std.specs.Prelude.{ℕ, List, codes}

abbrev pub first_word : List ℕ
first_word = codes "psyncert "

abbrev pub vertices_word : List ℕ
vertices_word = codes "\nvertices "

abbrev pub odd_word : List ℕ
odd_word = codes "\nodd"

abbrev pub even_word : List ℕ
even_word = codes "even"
