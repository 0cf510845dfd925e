use Rattle.std.proofs.Common.{◌≡◌, ◌<◌, ◌+◌, List, [], ap, arith, get_or, length, map, subst, sym, ◌∙◌}
use Rattle.std.proofs.Common.{ℕ}
use Rattle.std.proofs.lemmas.List.{length-map}
use Rattle.ps_hoa.specs.Files.{is_among}
use Rattle.ps_hoa.specs.Memory.{bytes_of}
use Rattle.ps_simulate.proofs.NamingLemmas.{name_at}
use Rattle.ps_models.specs.Inner.Comparing.{ArePlacesUpTo}
use Rattle.ps_models.specs.Sentences.{named_formula}
use Rattle.ps_models.proofs.ComparedAutomata.NameReadings.{no_place, places_more}
use Rattle.ps_models.proofs.agreeing.places_of.Goals as goal

pub returns-in_default-clause-none : goal.returns-in_default-clause-none
returns-in_default-clause-none c =
    let own = c.args.automaton.now.names in
    let controllable = c.args.automaton.now.controllable in
    let k = c.loop-k.k in
    let slice = c.names-name-items.result.now in
    let names : map bytes_of slice ≡ own = c.names-name-items.ensures.names in
    let wanted : c.is_in_list-wanted.result ≡ is_among k controllable =
    c.is_in_list-wanted.ensures ∙ ap (is_among k) c.controllable-own.ensures.controllable in
    let symbol : c.deref.result.now ≡ get_or own k [] = c.deref.ensures.value
    ∙ sym (name_at slice k c.loop-k-test.true c.name-item.is) ∙ ap (λ (l : List (List ℕ)). get_or l k []) names in
    let low : k < length own =
    omega (arith, c.loop-k-test.true, length-map slice bytes_of, ap (λ (l : List (List ℕ)). length l) names) in
    no_place own controllable (named_formula c.args.sentence) k low
    (λ p lt among same. c.in_default.ensures p lt (among ∙ sym wanted) (same ∙ sym symbol))

pub loop-k-preserved : goal.loop-k-preserved
loop-k-preserved c =
    let own = c.args.automaton.now.names in
    let controllable = c.args.automaton.now.controllable in
    let k = c.loop-k.k in
    let slice = c.names-name-items.result.now in
    let names : map bytes_of slice ≡ own = c.names-name-items.ensures.names in
    let wanted : c.is_in_list-wanted.result ≡ is_among k controllable =
    c.is_in_list-wanted.ensures ∙ ap (is_among k) c.controllable-own.ensures.controllable in
    let symbol : c.deref.result.now ≡ get_or own k [] = c.deref.ensures.value
    ∙ sym (name_at slice k c.loop-k-test.true c.name-item.is) ∙ ap (λ (l : List (List ℕ)). get_or l k []) names in
    let e = c.in-Some.ensures in
    subst (λ (l : List ℕ). ArePlacesUpTo own controllable (named_formula c.args.sentence) l (k + 1))
    (sym c.in_ok-push.ensures.items)
    (places_more c.loop-k.places.items k c.in-Some.place c.loop-k.invariant (e.0, e.1 ∙ symbol, e.2 ∙ wanted))
