-- Lemmas about the line that the command `judge` prints if a solution is refused. Only one line can report a refused
-- solution, unless some cycle makes a player lose.
use Rattle.std.proofs.Common.{◌≡◌, ◌⊎◌, ◌∙◌, ◌<◌, ℕ, Bool, List, Option, None, Result, Ok, Err, IfSome}
use Rattle.std.proofs.Common.{sym, ap, subst, inl, inr, arith}
use Rattle.std.proofs.lemmas.List.{get_or_default}
use Rattle.std.proofs.lemmas.Bool.{cases_Bool}
use Rattle.ps_text.specs.Answers.{Found}
use Rattle.ps_game.specs.Games.{ParityGame, NamedGameData, IsGame, vertex_count}
use Rattle.ps_game.specs.Regions.{has, move_at}
use Rattle.ps_certificate.specs.declared.flaw.Flaw.{Flaw}
use Rattle.ps_certificate.specs.declared.flaw.Flaw.TheVariants as flaw
use Rattle.ps_certificate.specs.Certificates.{CertificateData, IsFirstFlaw, IsFlaw, choice_of}
use Rattle.ps_certificate.specs.Written.{text_in}
use Rattle.ps_certificate.specs.declared.fault.CertCause.{CertCause}
use Rattle.ps_referee.specs.declared.fault.JudgeFault.{JudgeFault}
use Rattle.ps_referee.specs.declared.fault.JudgeFault.TheVariants.{Unclosed, BadCycle, OutOfMemory}
use Rattle.ps_referee.specs.Solutions.{claimed, IsCertificateOf, IsCycleOf, IsRefusal, IsSolution}
use Rattle.ps_solver.proofs.CertificateThere.{NoCycle, NoFlaw}
use Rattle.ps_referee.proofs.Claims.{choice_is}
use Rattle.ps_solution.specs.Reading.{ReadsSolution}
use Rattle.ps_solution.specs.Solved.{SolutionData}
use Rattle.ps_program.specs.declared.answer.Refusal.{Refusal}
use Rattle.ps_program.specs.declared.answer.Refusal.TheVariants as refusal
use Rattle.ps_program.specs.Inner.Judged.{HasPlaces, IsTold, Names}
use Rattle.ps_program.specs.Commands.Judging.{Judges, IsRefusalLine}
use Rattle.ps_program.specs.Commands.Judging.{claim}
use Rattle.ps_program.specs.Commands.Judging.{Loses, LosesCycle}
use Rattle.ps_program.specs.Laws.Determined.{AgreeInLoser}
use Rattle.ps_program.specs.Outcomes.{Gives, printed}
use Rattle.ps_program.specs.Replies.{Reply, fault_reply, reply_of, text_reply}
use Rattle.ps_program.specs.Texts.{NamesVertices, flaw_text}
use Rattle.ps_program.proofs.AtMostOne.OneStage.{OneFlaw}
use Rattle.ps_program.proofs.AtMostOne.OneStep.{ok_of, err_of}

-- ---- the vertices that a fault of a solution names

module _ (named : NamedGameData) (given : SolutionData) (is_game : IsGame named.game)
    (places : HasPlaces named given) where
  abbrev count : ℕ
  count = vertex_count named.game

  move_within : (v : ℕ) → v < count → IfSome (move_at given.moves v) (λ w. w < count)
  move_within v below = places.within v None (subst (λ n. v < n) (sym places.moves) below)

  choice_within : (v : ℕ) → v < count → IfSome (choice_of (claim named given) v) (λ w. w < count)
  choice_within v below = grind (
    arith,
    choice_is named.game given.won given.moves given.moves v below,
    move_within v below,
    cases_Bool (has given.won v),
  )

  flaw_names : (found : Flaw) → IsFlaw named.game (claim named given) found → NamesVertices count found
  flaw_names (flaw.Move v choice) h =
      (h.0, subst (λ o. IfSome o (λ w. w < count)) h.1 (choice_within v h.0))
  flaw_names (flaw.Escape v w) h = (h.0.edge.0, is_game.within v w h.0.edge)
  flaw_names (flaw.Rank v w p) h = (h.remains.edge.0, is_game.within v w h.remains.edge)

  pub refusal_names : (fault : JudgeFault) → IsRefusal named.game given.won given.moves given.moves fault →
      Names count fault
  refusal_names (Unclosed found) refused = flaw_names found refused.is_flaw
  refusal_names (BadCycle player cycle) refused =
      λ k d within. subst (λ v. v < count) (get_or_default cycle.items k 0 d within) (refused.lost.vertices k within)
  refusal_names OutOfMemory refused = tt

  -- ---- printed lines

  pub refusal_told : (compact : Bool) (fault : JudgeFault) (refused : Refusal) →
      IsRefusal named.game given.won given.moves given.moves fault → IsTold named fault refused →
      Gives reply_of (Judges compact named given) (Err refused)
  refusal_told compact (Unclosed found) (refusal.Fault line) h told = (is_game, inl (found, h, told))
  refusal_told compact (Unclosed found) refusal.OutOfMemory h told = tt
  refusal_told compact (BadCycle player cycle) (refusal.Fault line) h told =
      (is_game, inr (player, cycle.items, h, told))
  refusal_told compact (BadCycle player cycle) refusal.OutOfMemory h told = tt
  refusal_told compact OutOfMemory (refusal.Fault line) h told = absurd told
  refusal_told compact OutOfMemory refusal.OutOfMemory h told = tt

-- ---- one answer

-- the laws of other crates on which the proofs in this file rely
abbrev pub OneSolution : Type 0
OneSolution = (ids text : List ℕ) (a b : Result SolutionData (Found CertCause)) → ReadsSolution ids text a →
    ReadsSolution ids text b → a ≡ b

abbrev pub OneJudged : Type 0
OneJudged = (game : ParityGame) (won : List Bool) (first second : List (Option ℕ)) (one other : CertificateData) →
    IsCertificateOf game won first second one → IsCertificateOf game won first second other → one ≡ other

abbrev pub NoFlawAndCycle : Type 0
NoFlawAndCycle = (game : ParityGame) (won : List Bool) (first second : List (Option ℕ)) (flaw : Flaw) (player : ℕ)
    (cycle : List ℕ) → IsFirstFlaw game (claimed game won first second) flaw →
    ¬ IsCycleOf game won first second player cycle

abbrev pub OneLoser : Type 0
OneLoser = (game : ParityGame) (won : List Bool) (first second : List (Option ℕ)) (player other : ℕ)
    (cycle another : List ℕ) → IsCycleOf game won first second player cycle →
    IsCycleOf game won first second other another → player ≡ other

module _ (flaws : OneFlaw) (certificates : OneJudged) (apart : NoFlawAndCycle) (losers : OneLoser) (no_flaw : NoFlaw)
    (no_cycle : NoCycle) (named : NamedGameData) (given : SolutionData) where
  not_refused : {line : List ℕ} → IsGame named.game → IsSolution named.game given.won given.moves given.moves →
      IsRefusalLine named given line → ⊥
  not_refused is_game s (inl (flaw, first, e)) =
      no_flaw named.game given.won given.moves given.moves flaw is_game s first
  not_refused is_game s (inr (player, cycle, lost, e)) =
      no_cycle named.game given.won given.moves given.moves player cycle s lost

  -- some cycle makes a player lose, and both lines report such cycles, which the same player loses
  abbrev pub Lost : Reply → Reply → Type 0
  Lost a b = LosesCycle named given × AgreeInLoser named given a b

  -- only one line can report a refused solution, unless some cycle makes a player lose
  refused_one : {line other : List ℕ} → IsGame named.game → IsRefusalLine named given line →
      IsRefusalLine named given other →
      (line ≡ other) ⊎ Lost (fault_reply line) (fault_reply other)
  refused_one is_game (inl (flaw, first, e)) (inl (flaw', first', e')) =
      inl (e ∙ ap (flaw_text named) (flaws named.game (claim named given) flaw flaw' is_game first first') ∙ sym e')
  refused_one is_game (inl (flaw, first, e)) (inr (player, cycle, lost, e')) =
      absurd (apart named.game given.won given.moves given.moves flaw player cycle first lost)
  refused_one is_game (inr (player, cycle, lost, e)) (inl (flaw, first, e')) =
      absurd (apart named.game given.won given.moves given.moves flaw player cycle first lost)
  refused_one is_game (inr (player, cycle, lost, e)) (inr (player', cycle', lost', e')) = inr (
    (player, cycle, lost),
    record {
      player = player;
      one = cycle;
      other = cycle';
      one_lost = lost;
      other_lost = subst (λ p. Loses named given p cycle') (losers named.game given.won given.moves given.moves player'
          player cycle' cycle lost' lost) lost';
      is_one = ap fault_reply e;
      is_other = ap fault_reply e';
    },
  )

  pub judges_one_or : (compact : Bool) (x y : Result Reply (List ℕ)) → Judges compact named given x →
      Judges compact named given y → (x ≡ y) ⊎ Lost (printed x) (printed y)
  judges_one_or compact (Ok r) (Ok t) (s, (c, is, e)) (s', (c', is', e')) = inl (ap (ok_of {V = Reply} {E = List ℕ}) (e
      ∙ ap (λ d. text_reply (text_in compact named d)) (certificates named.game given.won given.moves given.moves c c'
      is is') ∙ sym e'))
  judges_one_or compact (Ok r) (Err m) (s, h) (is_game, refused) = absurd (not_refused is_game s refused)
  judges_one_or compact (Err l) (Ok t) (is_game, refused) (s, h) = absurd (not_refused is_game s refused)
  judges_one_or compact (Err l) (Err m) (is_game, refused) (is_game', refused') =
      elim (refused_one is_game refused refused') [
        | inl same ↦ inl (ap (err_of {V = Reply} {E = List ℕ}) same)
        | inr lost ↦ inr lost
      ]
