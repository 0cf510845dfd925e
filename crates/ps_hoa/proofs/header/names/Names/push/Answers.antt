-- A list of names and the table of their numbers, after a name is appended.
use Rattle.std.proofs.Common.{◌≡◌, cond, ◌++◌, ◌∷◌, [], None, Some, length, map, ap, ◌∙◌, arith}
use Rattle.std.specs.Str.{bytes_eq}
use Rattle.std.proofs.lemmas.Bool.{cond-true}
use Rattle.std.proofs.lemmas.List.{map-append, length-map}
use Rattle.std.proofs.lemmas.Map.Text.{btree_map_updates_str}
use Rattle.std.proofs.lemmas.Slice.Eq.{bytes_eq-Decides}
use Rattle.ps_hoa.specs.Grammar.Labels.{alias_number}
use Rattle.ps_hoa.proofs.Reading.Positions.{pushed_position}
use Rattle.ps_hoa.proofs.header.names.Names.push.Goals as goal

pub invariant_of-self-2 : goal.invariant_of-self-2
invariant_of-self-2 c = λ other.
    let old = c.self.inside.names.items in
    let name = c.args.name.now in
    let names = map (λ k. k.now) old in
    let pushed : c.push.new.self.items ≡ old ++ c.args.name ∷ [] = grind (arith, cond-true) in
    let same : length c.reserve.new.self.items ≡ length old = ap length c.in_ok-reserve.ensures.items in
    let count : c.len.result ≡ length names =
    omega (arith, c.len.ensures, c.reserve.new.self.ok.0, same, length-map old (λ k. k.now)) in
    let free : alias_number names name ≡ None = grind arith in
    btree_map_updates_str name c.self.inside.numbers c.insert.new.self (Some c.len.result)
    c.in_ok-insert.ensures.updates other ∙ (λ i. cond (bytes_eq name other) (Some (count i)) (c.self.invariant other i))
    ∙ pushed_position (λ n. bytes_eq n other) names name (λ e. grind (arith, bytes_eq-Decides))
    ∙ ap (λ ns. alias_number ns other) (grind (arith, map-append))
