-- A certificate that is parsed from a text, for a given game, fits this game.
use Rattle.std.proofs.Common.{◌≡◌, ℕ, zero, suc, ◌<◌, Bool, true, false, List, [], ◌∷◌, length, Option, ap, ◌∙◌, sym}
use Rattle.std.proofs.Common.{subst, rules}
use Rattle.std.specs.Prelude.{IfSome, All}
use Rattle.std.proofs.lemmas.List.{length-map}
use Rattle.std.proofs.lemmas.List.Elements.{All-nil, All-cons, All-get_or}
use Rattle.std.proofs.lemmas.List.Quantifiers.{position-Some}
use Rattle.ps_game.specs.Games.{ParityGame, vertex_count}
use Rattle.ps_game.specs.Ranking.{ListsPriorities}
use Rattle.ps_certificate.specs.Certificates.{EntryData, CertificateData, Fits, winner_of, choice_of, counts_of}
use Rattle.ps_certificate.specs.Certificates.{opposing}
use Rattle.ps_text.specs.Bytes.{Seen}
use Rattle.ps_certificate.specs.Texts.{winner, vertex_of, choice, counts, counts_in, lost_by, entry, entries}
use Rattle.ps_certificate.specs.Texts.{certificate}

pub record EntryFits (odd even : List ℕ) (n : ℕ) (entry : EntryData) : Type 0 where
  pub winner : entry.winner < 2
  pub choice : IfSome entry.choice (λ w. w < n)
  pub counts : length entry.counts ≡ length (lost_by odd even entry.winner)

winner_below : (text : List Seen) (w : ℕ) → winner.IsText text w → w < 2
winner_below text w h = search rules

vertex_below : (ids : List ℕ) (id : ℕ) (o : Option ℕ) → o ≡ vertex_of ids id → IfSome o (λ v. v < length ids)
vertex_below ids id o h = search (rules, position-Some)

choice_below : (ids : List ℕ) (text : List Seen) (c : Option ℕ) → (choice ids).IsText text c
    → IfSome c (λ v. v < length ids)
choice_below ids text c h = search (rules, vertex_below)

counts_long : (n : ℕ) (text : List Seen) (cs : List ℕ) → (counts n).IsText text cs → length cs ≡ n
counts_long zero text cs h = ap length h.2
counts_long (suc n) text cs h = let others = h.is_right.is_right in
    ap length others.2 ∙ ap suc (counts_long n h.is_right.right others.0 others.1)

counts_in_long : (compact : Bool) (ps : List ℕ) (text : List Seen) (cs : List ℕ)
    → (counts_in compact ps).IsText text cs → length cs ≡ length ps
counts_in_long false ps text cs h = counts_long (length ps) text cs h
counts_in_long true ps text cs h = ap length h.is_right.2 ∙ length-map ps h.value.count

module _ (compact : Bool) (odd even all : List ℕ) where
  entry_fits : (id : ℕ) (text : List Seen) {e : EntryData} → (entry compact odd even all id).IsText text e
      → EntryFits odd even (length all) e
  entry_fits id text h = search (rules, winner_below, choice_below, counts_in_long)

  entries_fit : (ids : List ℕ) (text : List Seen) (es : List EntryData) → (entries compact odd even all ids).IsText
      text es → (length es ≡ length ids) × All (EntryFits odd even (length all)) es
  entries_fit [] text es h = search (rules, All-nil)
  entries_fit (id ∷ ids) text es h =
      let others = h.is_right in
      let rest = entries_fit ids h.right others.0 others.1 in (
        ap length others.2 ∙ ap suc rest.0,
        subst (All (EntryFits odd even (length all))) (sym others.2)
            (All-cons (EntryFits odd even (length all)) h.value others.0 (entry_fits id h.left h.is_left) rest.1),
      )

pub certificate_fits : {game : ParityGame} {odd even : List ℕ} (ids : List ℕ) (text : List Seen) {c : CertificateData}
    → length ids ≡ vertex_count game → ListsPriorities game 1 odd → ListsPriorities game 0 even
    → (certificate odd even ids).IsText text c → Fits game c
unfolding winner_of choice_of counts_of opposing
certificate_fits {game} {odd} {even} ids text each odd_listed even_listed h = search (rules, entries_fit, All-get_or)
