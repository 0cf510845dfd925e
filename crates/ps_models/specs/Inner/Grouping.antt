-- Sentences that are judged together.
-- - `IsUnder sentences list k`: there is a sentence at the place k, and it has the antecedents of the list
-- - `IsGroupOf sentences group`: the group has places, and at each a sentence with its antecedents
-- - `consequent_at sentences k`, `consequents_at sentences places`: the consequents of the sentences at these places
-- - `AreKnown t p known`: the sentences whose flag is true are obeyed on all words of the circuit's lasso traces
use Rattle.std.specs.Prelude.{◌≡◌, ◌<◌, ℕ, Bool, true, List, Option, Some, length, slice_get}
use Rattle.std.specs.List.{AllByRecursion, filter_map}
use Rattle.std.specs.Option.{option_map}
use Rattle.ps_sentences.specs.declared.parting.Parting.{Parting}
use Rattle.ps_sentences.specs.declared.parting.Sentence.{Sentence}
use Rattle.ps_models.specs.Inner.Claims.{sentence_at}
use Rattle.ps_models.specs.Inner.Trying.{IsObeyedByAll}
use Rattle.ps_models.specs.declared.by_groups.Group.{Group}
use Rattle.ps_models.specs.declared.trial.Trial.{Trial}

pub record IsUnder (sentences : List Sentence) (list k : ℕ) : Type 0 where
  pub sentence : Sentence
  pub there : slice_get sentences k ≡ Some sentence
  pub under : sentence.antecedents ≡ list

abbrev pub AreUnder : List Sentence → ℕ → List ℕ → Type 0
AreUnder sentences list places = AllByRecursion (IsUnder sentences list) places

pub record IsGroupOf (sentences : List Sentence) (g : Group) : Type 0 where
  pub some : 0 < length g.places.items
  pub under : AreUnder sentences g.list g.places.items

abbrev pub consequent_at : List Sentence → ℕ → Option ℕ
consequent_at sentences k = option_map (λ (s : Sentence). s.consequent) (slice_get sentences k)

abbrev pub consequents_at : List Sentence → List ℕ → List ℕ
consequents_at sentences places = filter_map (consequent_at sentences) places

pub record AreKnown (t : Trial) (p : Parting) (known : List Bool) : Type 0 where
  pub one_each : length known ≡ length p.sentences.items
  pub each : (k : ℕ) → slice_get known k ≡ Some true → IsObeyedByAll t (sentence_at p k)
