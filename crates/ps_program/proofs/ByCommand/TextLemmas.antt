-- Lemmas about the faults of a game and of a text for it, and about the vertices that a certificate's flaws name.
use Rattle.std.proofs.Common.{arith, ◌<◌, ℕ, List, Result, Ok, Err, refl, inl, inr}
use Rattle.ps_game.specs.Games.{ParityGame, NamedGameData, IsGame, vertex_count}
use Rattle.ps_certificate.specs.declared.flaw.Flaw.{Flaw}
use Rattle.ps_certificate.specs.declared.flaw.Flaw.TheVariants as flaw
use Rattle.ps_certificate.specs.Certificates.{CertificateData, Fits, Remains, IsFlaw}
use Rattle.ps_program.specs.declared.answer.Refusal.{Refusal}
use Rattle.ps_program.specs.declared.answer.Refusal.TheVariants as refusal
use Rattle.ps_program.specs.Faults.{fault_text}
use Rattle.ps_program.specs.Outcomes.{Gives}
use Rattle.ps_program.specs.Texts.{CutsInTwo, ReadsForGame, ReadsGameText, NamesVertices}

-- a flaw of a certificate names only vertices of the game
remains_within : (game : ParityGame) (given : CertificateData) (v w : ℕ) → IsGame game → Remains game given v w
    → (v < vertex_count game) × (w < vertex_count game)
remains_within game given v w is_game remains = (remains.edge.0, is_game.within v w remains.edge)

pub flaw_names_vertices : (game : ParityGame) (given : CertificateData) (found : Flaw) → IsGame game → Fits game given
    → IsFlaw game given found → NamesVertices (vertex_count game) found
flaw_names_vertices game given (flaw.Move v choice) is_game fits h = grind arith
flaw_names_vertices game given (flaw.Escape v w) is_game fits h = remains_within game given v w is_game h.0
flaw_names_vertices game given (flaw.Rank v w p) is_game fits h = remains_within game given v w is_game h.remains

-- ---- a game and a text that is parsed for it

abbrev pub both_view : {V : Type 0} → NamedGameData × V → NamedGameData × V
both_view both = (both.0, both.1)

module _ {V : Type 0} (reads : NamedGameData → List ℕ → Result V (List ℕ) → Type 0) (texts first second : List ℕ) where
  -- a fault in the game's text is also the fault that reading both texts together reports
  pub game_fault : (fault : Refusal) → CutsInTwo texts (Ok (first, second))
      → Gives {X = NamedGameData} (λ named. named) (ReadsGameText first) (Err fault) →
      Gives (both_view {V = V}) (ReadsForGame reads texts) (Err fault)
  game_fault (refusal.Fault fault) cuts h = inr ((first, second), cuts, inl (fault_text fault, h, refl))
  game_fault refusal.OutOfMemory cuts h = tt

  -- if the game's text is correct, a fault in the second text is the fault that reading both texts reports
  pub second_fault : (named : NamedGameData) (fault : Refusal) → CutsInTwo texts (Ok (first, second))
      → ReadsGameText first (Ok named) → Gives {X = V} (λ given. given) (reads named second) (Err fault)
      → Gives (both_view {V = V}) (ReadsForGame reads texts) (Err fault)
  second_fault named (refusal.Fault fault) cuts read h =
      inr ((first, second), cuts, inr (named, read, inl (fault_text fault, h, refl)))
  second_fault named refusal.OutOfMemory cuts read h = tt

  -- if both texts are correct, their values are the result
  pub both_read : (named : NamedGameData) (given : V) → CutsInTwo texts (Ok (first, second))
      → ReadsGameText first (Ok named) → reads named second (Ok given) → ReadsForGame reads texts (Ok (named, given))
  both_read named given cuts read also = inr ((first, second), cuts, inr (named, read, inr (given, also, refl)))
