-- A command line is refused if its first word is longer than each command's name and does not begin with a hyphen.
use Rattle.std.proofs.Common.{rules, arith, ◌≡◌, ◌<◌, ◌≤◌, ◌&&◌, ◌==◌, nat_eq, ℕ, List, [], ◌∷◌, Bool, Option}
use Rattle.std.proofs.Common.{None, length, find, map, false, refl, inl, inr, is_some, lit<}
use Rattle.std.proofs.Math.ListN.{get_or}
use Rattle.std.specs.Borrow.{Bor}
use Rattle.std.proofs.lemmas.Grind.{common_steps}
use Rattle.std.specs.List.{All}
use Rattle.std.proofs.lemmas.List.Elements.{All-head, All-tail}
use Rattle.std.specs.Str.{bytes_eq}
use Rattle.clap.specs.Faults.{entered_fault, fault_of, level_fault, stray_fault, turn_fault, walk_fault}
use Rattle.clap.specs.Kinds.{Kinds}
use Rattle.clap.specs.Simple.{App, Shape, built, entered, names_of}
use Rattle.clap.specs.Walk.{Held, Names, Text, answers_to, arg_by_index, nothing_held, walk, walk_from}
use Rattle.clap.proofs.OnLiterals.{clap_on_literals}
use Rattle.clap.specs.declared.error.kind.ErrorKind.{ErrorKind}
use Rattle.clap.specs.declared.error.kind.ErrorKind.TheVariants.{InvalidSubcommand, UnknownArgument}
use Rattle.ps_program.specs.declared.commands.Line.TheVariants.{Refused}
use Rattle.ps_program.specs.CommandLine.{Usage, Says, commands, table}
use Rattle.ps_program.specs.Inner.LongWords.{NamesNothing}

none_more : (b : Bool) {rest : Bool} → rest ≡ false → (b && rest) ≡ false
none_more b none = grind arith

-- a word that is longer than a name differs from this name
longer : (name word : Text) → length name < length word → bytes_eq name word ≡ false
longer [] [] more = absurd (omega arith)
longer [] (x ∷ xs) more = refl
longer (n ∷ name) [] more = absurd (omega arith)
longer (n ∷ name) (x ∷ xs) more = none_more (nat_eq n x) (longer name xs (omega arith))

-- the names of the commands, as the parser compares words with them
names_met : List Usage → Names
names_met usages = map (λ usage. (usage.name, [])) usages

no_command : (word : Text) (usages : List Usage) → All (λ usage. length usage.name < length word) usages →
    find (answers_to word) (names_met usages) ≡ None
unfolding names_met
no_command word [] short = refl
no_command word (usage ∷ usages) short =
    let IsLonger : Usage → Type 0 = λ other. length other.name < length word in
    search (
      rules,
      longer,
      All-head IsLonger usage usages short,
      no_command word usages
          (All-tail IsLonger usage usages short),
    )

some_longer : (word : Text) (usages : List Usage) → 0 < length usages →
    All (λ usage. length usage.name < length word) usages → 0 < length word
some_longer word [] some longer = absurd (omega (arith, some))
some_longer word (usage ∷ usages) some longer =
    let first : length usage.name < length word =
    All-head (λ (other : Usage). length other.name < length word) usage usages longer in omega arith

-- a word that names no command and does not begin with a hyphen is an error, since no argument takes it as a value
stray : (s : Shape) (names : Names) (x : ℕ) (xs : Text) → (x == 45) ≡ false → find (answers_to (x ∷ xs)) names ≡ None →
    arg_by_index s.rules 1 ≡ None → turn_fault s names (walk_from nothing_held) (x ∷ xs) ≡ stray_fault s
stray s names x xs plain none untaken = rw (none, plain, plain, untaken) refl

-- if the first word has an error, this is the error of the whole line
first_wrong : (s : Shape) (names : Names) (h : Held) (word : Text) (rest : List Text) (inside : Bool) (below : Kinds)
    (k : ErrorKind) (ks : Kinds)
    → turn_fault s names (walk_from h) word ≡ k ∷ ks → level_fault s names h (word ∷ rest) inside below ≡ k ∷ ks
unfolding walk_fault
first_wrong s names h word rest inside below k ks wrong = grind arith

-- a list of words is refused if the first is longer than each command's name and does not begin with a hyphen
long_word_refused : (word : Text) (rest : List Text) → NamesNothing word → Says (word ∷ rest) Refused
unfolding table clap_on_literals names_met
long_word_refused [] rest (more, plain) = absurd (omega (arith, some_longer [] commands (lit< tt) more))
long_word_refused (x ∷ xs) rest (more, plain) =
    let a : App = built table in
    let words : List Text = (x ∷ xs) ∷ rest in
    let stop : Option (Text × List Text) = (walk a.top.rules (names_of a) nothing_held words).stopped in
    let none : find (answers_to (x ∷ xs)) (names_of a) ≡ None = no_command (x ∷ xs) commands more in
    let no_hyphen : (x == 45) ≡ false = grind (arith, common_steps) in
    let wrong : fault_of table words ≡ UnknownArgument ∷ InvalidSubcommand ∷ [] = first_wrong a.top (names_of a)
    nothing_held (x ∷ xs) rest (is_some (entered a stop)) (entered_fault a stop) UnknownArgument (InvalidSubcommand ∷
    []) (stray a.top (names_of a) x xs no_hyphen none refl) in
    inr (UnknownArgument, rw wrong (inl refl), refl)

-- a nonempty list of words, as the code stores them, is refused if the first is longer than each command's name and
-- does not begin with a hyphen
pub first_word_refused : (words : List (Bor Text)) (default : Bor Text) → 1 ≤ length words →
    NamesNothing (get_or words 0 default).now → Says (map (λ word. word.now) words) Refused
first_word_refused [] default some nothing = absurd (omega arith)
first_word_refused (word ∷ words) default some nothing = grind (arith, long_word_refused)
