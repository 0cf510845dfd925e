use Rattle.std.proofs.Common.{Some, Vec, ap, sym, ◌∙◌, ◌<◌, arith, length, ℕ}
use Rattle.std.specs.Global.{Global}
use Rattle.std.proofs.lemmas.Option.{slice_get-get_or}
use Rattle.ps_tableau_product.proofs.MeetingLemmas.{pair_at}
use Rattle.ps_tableau_product.proofs.meetings.Meetings.get.Goals as goal

pub returns : goal.returns
returns c =
    let m = c.args.self.now in
    let place = c.in-Some.place in
    let list = c.index.result.now in
    let low : place < length m.found.items = omega (arith, c.if-place-len.false, c.len.ensures) in
    record {
      place = place;
      found = list;
      there = pair_at m.pairs (c.args.guard, c.args.own) place c.in-Some.ensures.0 c.in-Some.ensures.1;
      at = slice_get-get_or m.found.items place list low
          ∙ ap (λ (v : Vec (ℕ × ℕ) Global). Some v) (sym c.index.ensures);
      is = sym (c.in_ok-copy.ensures ∙ c.deref.ensures.value);
    }
