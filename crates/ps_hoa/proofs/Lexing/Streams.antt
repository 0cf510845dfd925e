-- Lemmas about the stream of remaining tokens, and about moving past one token.
use Rattle.std.proofs.Common.{◌≡◌, ℕ, ◌+◌, ◌-◌, ◌<◌, ◌≤◌, ◌↔◌, Bool, false, cond, List, [], ◌∷◌, rules, length, take}
use Rattle.std.proofs.Common.{drop, refl, arith, length-drop}
use Rattle.std.specs.List.{slice_range}
use Rattle.std.proofs.lemmas.List.{drop_all, drop-drop, length-take}
use Rattle.std.proofs.Math.Decide.{dec_lt}
use Rattle.ps_text.specs.Answers.{Piece, Stream}
use Rattle.ps_hoa.specs.Tokens.{Sign, in_context, history_after, kind_here}
use Rattle.ps_hoa.specs.declared.tokens.Kind.{Kind}
use Rattle.ps_hoa.specs.declared.tokens.Kind.TheVariants.{Behind, Finish}
use Rattle.ps_hoa.specs.Spans.{IsKindHere}
use Rattle.ps_hoa.specs.declared.tokens.Lexeme.{Lexeme}
use Rattle.ps_hoa.specs.declared.tokens.History.{History}
use Rattle.ps_hoa.specs.declared.tokens.Step.TheVariants.{Found}
use Rattle.ps_hoa.specs.Scan.{lex, scan_step, IsLexeme, ScanState, stream_of, next_of, behind_next, is_finish, fresh}
use Rattle.ps_hoa.proofs.Lexing.Scanning.{lex_token, lex_nothing}

abbrev before : List ℕ → Lexeme → History → ScanState
before source l history = record { source = source; at = l.start; history = history }

abbrev pub token_piece : List ℕ → Lexeme → History → Piece Sign
token_piece source l history =
    record {
      sign = record {
        kind = kind_here history l.kind (slice_range source l.start l.stop);
        text = slice_range source l.start l.stop;
      };
      start = l.start;
    }

abbrev pub history_behind : List ℕ → Lexeme → History → History
history_behind source l history = history_after history l.kind (slice_range source l.start l.stop)

-- no token follows the end of the text
pub pieces_none : (r : ScanState) → length r.source ≤ r.at → (stream_of r).pieces ≡ []
unfolding stream_of
pieces_none r done = search (rules, drop_all, lex_nothing)

pub end_is : (r : ScanState) → (stream_of r).end ≡ length r.source
unfolding stream_of
end_is r = refl

step_nothing : (kind : Kind) (n : ℕ) → scan_step [] ≡ Found kind n → (kind ≡ Finish) × (n ≡ 0)
unfolding scan_step
step_nothing kind n is = (cc, cc)

-- at the end of the text, the scan finds a token of the kind `Finish` with length 0
pub finish_here : (r : ScanState) (kind : Kind) (n : ℕ) → length r.source ≤ r.at →
    scan_step (drop r.at r.source) ≡ Found kind n → (kind ≡ Finish) × (n ≡ 0)
finish_here r kind n done is = step_nothing kind n (rw (drop_all r.at r.source done) at is)

-- the next token of a stream is the first of its remaining tokens
pub next_at : (s : Stream Sign) (p : Piece Sign) (ps : List (Piece Sign)) → s.pieces ≡ p ∷ ps → next_of s ≡ p
next_at s p ps is = rw is refl

pub next_at_end : (s : Stream Sign) → s.pieces ≡ [] → next_of s ≡ record
    { sign = record { kind = Finish; text = [] }; start = s.end }
next_at_end s is = rw is refl

pub behind_at : (s : Stream Sign) (p : Piece Sign) (ps : List (Piece Sign)) → s.pieces ≡ p ∷ ps →
    behind_next s ≡ record { pieces = ps; end = s.end }
behind_at s p ps is = rw is refl

pub behind_at_end : (s : Stream Sign) → s.pieces ≡ [] → behind_next s ≡ s
behind_at_end s is = rw is refl

take_nothing : (n : ℕ) → take n (let none : List ℕ = [] in none) ≡ []
take_nothing n = search rules

-- a stream is determined by its remaining tokens and the offset of its end
shown : (r : ScanState) (ps : List (Piece Sign)) (end : ℕ) → in_context r.history (lex r.at (drop r.at r.source)) ≡ ps →
    length r.source ≡ end → stream_of r ≡ record { pieces = ps; end = end }
unfolding stream_of
shown r ps end e f = λ i. record { pieces = e i; end = f i }

stream_none : (r : ScanState) → length r.source ≤ r.at → stream_of r ≡ record { pieces = []; end = length r.source }
stream_none r done = search (rules, shown, drop_all, lex_nothing)

no_piece : (p : Piece Sign) (ps : List (Piece Sign)) → p ∷ ps ≡ [] → ⊥
no_piece p ps e = cc

other : (a : Bool) (kind : Kind) → is_finish kind ≡ false → cond a Behind kind ≡ Finish → ⊥
other a kind h k = search rules

-- a token that was found in the text does not have the kind `Finish`
never : (m : History) (kind : Kind) (text : List ℕ) → is_finish kind ≡ false → kind_here m kind text ≡ Finish → ⊥
never m kind text h k = search (rules, other)

module _ (source : List ℕ) (l : Lexeme) (history : History) (h : IsLexeme source l) where
  -- the stream from an offset on begins with the token that was found there
  found : l.start < length source →
      (stream_of (before source l history)).pieces ≡ token_piece source l history ∷ in_context
      (history_behind source l history)
      (lex l.stop (drop l.stop source))
  unfolding stream_of
  found some = grind (arith, length-drop, drop-drop, lex_token)

  pub next_is : next_of (stream_of (before source l history)) ≡ token_piece source l history
  next_is = let r = before source l history in
      (elim (dec_lt l.start (length source)) as (λ _. next_of (stream_of r) ≡ token_piece source l history) [
        | yes some ↦ next_at (stream_of r) _ _ (found some)
        | no none ↦
            let done : length source ≤ l.start = omega arith in
            let f = finish_here r l.kind (l.stop - l.start) done h.token in
            grind (arith, drop_all, take_nothing, next_at_end, pieces_none, end_is)
      ])

  pub rest_is : (at : ℕ) → l.stop ≤ at → lex at (drop at source) ≡ lex l.stop (drop l.stop source) →
      stream_of (record { source = source; at = at; history = history_behind source l history }) ≡ behind_next
      (stream_of
      (before source l history))
  rest_is at on same = search (rules, dec_lt, shown, behind_at, found, end_is, stream_none, behind_at_end, pieces_none)

  -- the next token has the kind `Finish` exactly if no token remains
  pub finish_iff : ((token_piece source l history).sign.kind ≡ Finish) ↔
      ((stream_of (before source l history)).pieces ≡ [])
  finish_iff = let r = before source l history in
      (elim (dec_lt l.start (length source)) as (λ _. ((token_piece source l history).sign.kind ≡ Finish) ↔
      ((stream_of r).pieces ≡ [])) [
        | yes some ↦ search (rules, never, no_piece, found)
        | no none ↦
            let done : length source ≤ l.start = omega arith in
            grind (arith, pieces_none r done, finish_here r l.kind (l.stop - l.start) done h.token)
      ])

-- the tokenizer stores the kind and the offsets of the next token; its abstract state has the first of these offsets
module _ {source : List ℕ} {history : History} {kind : Kind} {found : Lexeme}
    (k : IsKindHere source history kind found) {r : ScanState} (at : before source found history ≡ r)
  where
    pub kept_next : (let next : Piece Sign = record {
      sign = record { kind = kind; text = slice_range source found.start found.stop };
      start = found.start;
    } in next) ≡ next_of (stream_of r)
    kept_next = grind (arith, next_is source found history k.lexeme, k.here)

    pub kept_finish : (kind ≡ Finish) ↔ ((stream_of r).pieces ≡ [])
    kept_finish = grind (arith, finish_iff source found history k.lexeme, k.here)

    pub kept_rest : {start next : ℕ} {behind : History} → start ≡ next →
        behind ≡ history_behind source found history →
        found.stop ≤ next → lex next (drop next source) ≡ lex found.stop (drop found.stop source) →
        stream_of (record { source = source; at = start; history = behind }) ≡ behind_next (stream_of r)
    kept_rest {next = next} e f on same = grind (arith, rest_is source found history k.lexeme next on same)

    pub kept_length : found.start + length (next_of (stream_of r)).sign.text ≡ found.stop
    kept_length =
        grind (arith, next_is source found history k.lexeme, k.lexeme.rises, k.lexeme.within, length-take, length-drop)

-- skipping blanks and comments does not change the list of the remaining tokens
pub pieces_new : (source : List ℕ) (from at start : ℕ) (history : History) (pieces : List (Piece Sign)) →
    history ≡ fresh →
    start ≡ at → lex at (drop at source) ≡ lex from (drop from source) → lex from (drop from source) ≡ pieces →
    (stream_of (record { source = source; at = start; history = history })).pieces ≡ in_context fresh pieces
unfolding stream_of
pieces_new source from at start history pieces e f same is = search rules
