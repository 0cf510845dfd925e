-- The grammar of a specification around its formulas, as a regular expression over kinds of tokens:
--
--     text    ::= "INFO" "{" item* "}" "MAIN" "{" section* "}"
--     item    ::= "TITLE" ":" STRING | "DESCRIPTION" ":" STRING | "TAGS" ":" (TAG ("," TAG)*)?
--               | "SEMANTICS" ":" (order ("," "Strict")? | "Strict" "," order) | "TARGET" ":" order
--     order   ::= "Mealy" | "Moore"
--     section ::= ("INPUTS" | "OUTPUTS") "{" (WORD ";")* WORD? "}" | KIND "{" (formula ";")* formula? "}"
--
-- A KIND is the name of a kind of sections with formulas, a TAG is a word, except for the names of items. A formula is
-- here any row of one or more tokens but `;` and `}`; `Grammar` says which rows are formulas.
-- - `Matches e signs`: the expression describes the row of kinds
-- - `signs_of tokens`: the kinds of tokens
-- - `is_in_formula phase`: whether a formula is read, or may begin
use Rattle.std.specs.Prelude.{◌≡◌, Bool, true, false, List, [], ◌∷◌, ◌++◌, map}
use Rattle.ps_tlsf.specs.Lexicon.{Token}
use Rattle.ps_tlsf.specs.Words.{is_word}
use Rattle.ps_tlsf.specs.declared.phases.Phase.{Phase}
use Rattle.ps_tlsf.specs.declared.phases.Phase.TheVariants as phases
use Rattle.ps_tlsf.specs.declared.words.Item.TheVariants as items
use Rattle.ps_tlsf.specs.declared.words.Sign.{Sign}
use Rattle.ps_tlsf.specs.declared.words.Sign.TheVariants as signs

-- ## Regular expressions

pub data Expression : Type 0 where
  no_row : Expression
  empty_row : Expression
  one : (Sign → Bool) → Expression
  either : Expression → Expression → Expression
  join : Expression → Expression → Expression
  star : Expression → Expression

pub data Matches : Expression → List Sign → Type 0 where
  is_empty : Matches empty_row []
  is_one : {test : Sign → Bool} {sign : Sign} → test sign ≡ true → Matches (one test) (sign ∷ [])
  is_first : {a b : Expression} {ss : List Sign} → Matches a ss → Matches (either a b) ss
  is_second : {a b : Expression} {ss : List Sign} → Matches b ss → Matches (either a b) ss
  is_joined : {a b : Expression} {ss us : List Sign} → Matches a ss → Matches b us → Matches (join a b) (ss ++ us)
  is_none : {a : Expression} → Matches (star a) []
  is_more : {a : Expression} {ss us : List Sign} → Matches a ss → Matches (star a) us → Matches (star a) (ss ++ us)

abbrev pub optional : Expression → Expression
optional e = either e empty_row

-- ## Kinds of tokens

abbrev pub is_info : Sign → Bool
is_info signs.Info = true
is_info sign = false

abbrev pub is_main : Sign → Bool
is_main signs.Main = true
is_main sign = false

abbrev pub is_open : Sign → Bool
is_open signs.LeftBrace = true
is_open sign = false

abbrev pub is_close : Sign → Bool
is_close signs.RightBrace = true
is_close sign = false

abbrev pub is_colon : Sign → Bool
is_colon signs.Colon = true
is_colon sign = false

abbrev pub is_comma_sign : Sign → Bool
is_comma_sign signs.Comma = true
is_comma_sign sign = false

abbrev pub is_semicolon : Sign → Bool
is_semicolon signs.Semicolon = true
is_semicolon sign = false

abbrev pub is_string : Sign → Bool
is_string signs.Text = true
is_string sign = false

abbrev pub is_title : Sign → Bool
is_title (signs.Item items.Title) = true
is_title sign = false

abbrev pub is_description : Sign → Bool
is_description (signs.Item items.Description) = true
is_description sign = false

abbrev pub is_tags : Sign → Bool
is_tags (signs.Item items.Tags) = true
is_tags sign = false

abbrev pub is_semantics : Sign → Bool
is_semantics (signs.Item items.Semantics) = true
is_semantics sign = false

abbrev pub is_target : Sign → Bool
is_target (signs.Item items.Target) = true
is_target sign = false

abbrev pub is_tag : Sign → Bool
is_tag (signs.Item item) = false
is_tag sign = is_word sign

abbrev pub is_order : Sign → Bool
is_order (signs.Order order) = true
is_order sign = false

abbrev pub is_strict : Sign → Bool
is_strict signs.Strict = true
is_strict sign = false

abbrev pub is_names : Sign → Bool
is_names (signs.Names side) = true
is_names sign = false

abbrev pub is_kind : Sign → Bool
is_kind (signs.Section section) = true
is_kind sign = false

-- a token inside a formula
abbrev pub is_inside : Sign → Bool
is_inside signs.Semicolon = false
is_inside signs.RightBrace = false
is_inside sign = true

-- ## The grammar

abbrev pub tag_list : Expression
tag_list = optional (join (one is_tag) (star (join (one is_comma_sign) (one is_tag))))

abbrev pub semantics : Expression
semantics =
    either (join (one is_order) (optional (join (one is_comma_sign) (one is_strict))))
    (join (one is_strict) (join (one is_comma_sign) (one is_order)))

abbrev pub valued : (Sign → Bool) → Expression → Expression
valued name value = join (one name) (join (one is_colon) value)

abbrev pub info_item : Expression
info_item =
    either (valued is_title (one is_string)) (either (valued is_description (one is_string))
    (either (valued is_tags tag_list) (either (valued is_semantics semantics) (valued is_target (one is_order)))))

-- parts, each but the last followed by `;`, and the last one followed by it or not; then `}`
abbrev pub rows_of : Expression → Expression
rows_of part = join (star (join part (one is_semicolon))) (join (optional part) (one is_close))

abbrev pub formula : Expression
formula = join (one is_inside) (star (one is_inside))

abbrev pub section : Expression
section =
    either (join (one is_names) (join (one is_open) (rows_of (one is_word))))
    (join (one is_kind) (join (one is_open) (rows_of formula)))

abbrev pub main_part : Expression
main_part = join (star section) (one is_close)

abbrev pub behind_items : Expression
behind_items = join (one is_close) (join (one is_main) (join (one is_open) main_part))

abbrev pub specification : Expression
specification = join (one is_info) (join (one is_open) (join (star info_item) behind_items))

-- ## Texts

abbrev pub signs_of : List Token → List Sign
signs_of tokens = map (λ t. t.sign) tokens

abbrev pub is_in_formula : Phase → Bool
is_in_formula (phases.Formulas kind) = true
is_in_formula (phases.Operand kind) = true
is_in_formula (phases.Behind kind) = true
is_in_formula phase = false
