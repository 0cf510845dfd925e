use Rattle.std.proofs.Common.{◌≡◌, ◌∙◌, ◌++◌, ◌∷◌, [], ℕ, ap, arith, get_or, map, sym}
use Rattle.std.proofs.lemmas.Bool.{cond-true}
use Rattle.std.proofs.lemmas.List.{get_or-map, map_push}
use Rattle.std.proofs.lemmas.List.FromFn.{map-range_with_len_more}
use Rattle.ps_hoa.specs.Memory.{bytes_of}
use Rattle.ps_mixing.specs.Orders.{place_in}
use Rattle.ps_mixing.proofs.file.names_mixed.Goals as goal

pub loop-p-preserved : goal.loop-p-preserved
loop-p-preserved c =
    let names = c.args.names.now in
    let from = c.args.from.now in
    let pushed : c.push.new.self.items ≡ c.loop-p.made.items ++ c.in_ok-from_slice.field-0 ∷ [] = grind (arith, cond-true)
    in
    let within = c.requires.within c.loop-p.p c.loop-p-test.true in
    let copied : bytes_of c.in_ok-from_slice.field-0 ≡ bytes_of (get_or names (place_in from c.loop-p.p)
    c.index-names-entry.result) = grind arith in
    let named : bytes_of c.in_ok-from_slice.field-0 ≡ get_or (map bytes_of names) (place_in from c.loop-p.p) [] =
    copied ∙ sym (get_or-map bytes_of names (place_in from c.loop-p.p) c.index-names-entry.result [] within) in
    ap (map bytes_of) pushed ∙ map_push bytes_of c.loop-p.made.items c.in_ok-from_slice.field-0
    ∙ (λ i. c.loop-p.invariant i ++ named i ∷ [])
    ∙ sym (map-range_with_len_more (λ (p : ℕ). get_or (map bytes_of names) (place_in from p) []) 0 c.loop-p.p c.loop-p.p
    (omega arith))
