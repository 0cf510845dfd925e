-- The words that have a meaning of their own.
-- - `word_sign text`: the kind of a token that is a word
-- - `is_word sign`: whether a token of the kind is a word
-- - `is_reserved sign`: whether the token is one of the eight words `X F G U R W true false`, which are no names
use Rattle.std.specs.Prelude.{ℕ, Bool, true, false, List, codes, if◌then◌else◌, Option, None, Some, ◌||◌}
use Rattle.std.specs.Str.{bytes_eq}
use Rattle.ps_tlsf.specs.declared.words.Item.TheVariants as items
use Rattle.ps_tlsf.specs.declared.words.Order.TheVariants as orders
use Rattle.ps_tlsf.specs.declared.words.Side.TheVariants as sides
use Rattle.ps_tlsf.specs.declared.words.Section.TheVariants as sections
use Rattle.ps_tlsf.specs.declared.words.Prefix.TheVariants as prefixes
use Rattle.ps_tlsf.specs.declared.words.Infix.TheVariants as infixes
use Rattle.ps_tlsf.specs.declared.words.Sign.{Sign}
use Rattle.ps_tlsf.specs.declared.words.Sign.TheVariants as signs

unfoldable pub formula_word : List ℕ → Option Sign
formula_word text =
    if bytes_eq text (codes "X") then Some (signs.Prefix prefixes.Next)
    else (if bytes_eq text (codes "F") then Some (signs.Prefix prefixes.Finally)
    else (if bytes_eq text (codes "G") then Some (signs.Prefix prefixes.Globally)
    else (if bytes_eq text (codes "U") then Some (signs.Infix infixes.Until)
    else (if bytes_eq text (codes "R") then Some (signs.Infix infixes.Release)
    else (if bytes_eq text (codes "W") then Some (signs.Infix infixes.WeakUntil)
    else (if bytes_eq text (codes "true") then Some (signs.Constant true)
    else (if bytes_eq text (codes "false") then Some (signs.Constant false)
    else None)))))))

unfoldable pub section_word : List ℕ → Option Sign
section_word text =
    if bytes_eq text (codes "INPUTS") then Some (signs.Names sides.Inputs)
    else (if bytes_eq text (codes "OUTPUTS") then Some (signs.Names sides.Outputs)
    else (if bytes_eq text (codes "INITIALLY") then Some (signs.Section sections.Initially)
    else (if bytes_eq text (codes "PRESET") then Some (signs.Section sections.Preset)
    else (if bytes_eq text (codes "REQUIRE") || bytes_eq text (codes "REQUIREMENTS") then Some
    (signs.Section sections.Require)
    else (if bytes_eq text (codes "ASSERT") || bytes_eq text (codes "INVARIANTS") then Some
    (signs.Section sections.Assert)
    else (if bytes_eq text (codes "ASSUME") || bytes_eq text (codes "ASSUMPTIONS") then Some
    (signs.Section sections.Assume)
    else (if bytes_eq text (codes "GUARANTEE") || bytes_eq text (codes "GUARANTEES") then Some
    (signs.Section sections.Guarantee)
    else None)))))))

unfoldable pub info_word : List ℕ → Option Sign
info_word text =
    if bytes_eq text (codes "INFO") then Some signs.Info
    else (if bytes_eq text (codes "MAIN") then Some signs.Main
    else (if bytes_eq text (codes "TITLE") then Some (signs.Item items.Title)
    else (if bytes_eq text (codes "DESCRIPTION") then Some (signs.Item items.Description)
    else (if bytes_eq text (codes "TAGS") then Some (signs.Item items.Tags)
    else (if bytes_eq text (codes "SEMANTICS") then Some (signs.Item items.Semantics)
    else (if bytes_eq text (codes "TARGET") then Some (signs.Item items.Target)
    else (if bytes_eq text (codes "Mealy") then Some (signs.Order orders.Mealy)
    else (if bytes_eq text (codes "Moore") then Some (signs.Order orders.Moore)
    else (if bytes_eq text (codes "Strict") then Some signs.Strict
    else None)))))))))

abbrev pub or_else : Option Sign → Sign → Sign
or_else None sign = sign
or_else (Some found) sign = found

unfoldable pub word_sign : List ℕ → Sign
word_sign text = or_else (formula_word text) (or_else (section_word text) (or_else (info_word text) signs.Word))

abbrev pub is_word : Sign → Bool
is_word signs.Info = true
is_word signs.Main = true
is_word (signs.Item item) = true
is_word (signs.Order order) = true
is_word signs.Strict = true
is_word (signs.Names side) = true
is_word (signs.Section section) = true
is_word (signs.Prefix prefixes.Not) = false
is_word (signs.Prefix prefix) = true
is_word (signs.Infix infixes.Until) = true
is_word (signs.Infix infixes.Release) = true
is_word (signs.Infix infixes.WeakUntil) = true
is_word (signs.Constant value) = true
is_word signs.Word = true
is_word sign = false
