-- The tests on single tokens in the parser of header items.
use Rattle.std.specs.Prelude.{ℕ, Bool, true, false, List, Option}
use Rattle.ps_hoa.specs.Grammar.Header.{HeaderData, alias_value, read_over_value}
use Rattle.ps_hoa.specs.Tokens.{Sign}
use Rattle.ps_hoa.specs.declared.tokens.Kind.{Kind}
use Rattle.ps_hoa.specs.declared.tokens.Kind.TheVariants as kinds

abbrev pub is_value : Kind → Bool
is_value kinds.Int = true
is_value kinds.Text = true
is_value kinds.Word = true
is_value kind = false

abbrev pub alias_name_in : Sign → Option (List ℕ)
alias_name_in s = alias_value s.kind s.text

abbrev pub read_over_in : HeaderData → Sign → Option HeaderData
read_over_in h s = read_over_value h s.kind
