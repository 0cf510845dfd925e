-- The diagrams of a machine whose player moves second.
use Rattle.std.proofs.Common.{◌≡◌, ◌≢◌, ℕ, ◌+◌, ◌<◌, Bool, true, false, List, [], ◌∷◌, ◌++◌, length, get_or, take}
use Rattle.std.proofs.Common.{Option, Some, ap, sym, subst, ◌∙◌, arith, ◌==◌, rules}
use Rattle.std.specs.Prelude.{Any, IfSome, IsSomeAnd, slice_get, slice_index, option_map}
use Rattle.std.specs.List.{All, AllZip}
use Rattle.std.specs.Option.{unwrap_or}
use Rattle.std.proofs.lemmas.Bool.{eq-eqb}
use Rattle.std.proofs.lemmas.List.{get_or_default, take_more}
use Rattle.std.proofs.lemmas.Option.{slice_get_within, slice_get-get_or, get_or_from_slice_get}
use Rattle.std.proofs.lemmas.Slice.Zip.{AllZip-long, AllZip-left}
use Rattle.indexmap.specs.IndexSet.{insert_key}
use Rattle.indexmap.proofs.SetLemmas.{AllZip-push}
use Rattle.ps_label.specs.Truth.{is_in}
use Rattle.ps_game.specs.Games.{ParityGame, vertex_count, owner_of}
use Rattle.ps_certificate.specs.Certificates.{CertificateData, choice_of}
use Rattle.ps_certificate.proofs.FlawsAndValidity.SuccessorEdges.{some_of}
use Rattle.ps_diagram.specs.Letters.{AgreeOn}
use Rattle.ps_diagram.specs.Reached.{AreLeaves}
use Rattle.ps_diagram.specs.declared.classes.Classes.{Classes}
use Rattle.ps_diagram.specs.Table.{Table, IsNode, leaf_of}
use Rattle.ps_diagram.specs.declared.classes.Class.{Class}
use Rattle.ps_diagram.proofs.NodeTables.KnownLemmas.{some_nat}
use Rattle.ps_automaton.specs.Automata.{AutomatonData, node_of, pair_of, step_of}
use Rattle.ps_automaton.specs.declared.step.Step.{Step}
use Rattle.ps_machine.specs.Boards.{Board, IsFirstLetter, IsSecondLetter, SameSteps, IsClassLetter, IsMove}
use Rattle.ps_machine.specs.BuiltBoards.{board_of}
use Rattle.ps_machine.specs.Dividing.{AreClassesOf}
use Rattle.ps_machine.specs.Inner.Drawing.{CanEnter, IsReplyRow, IsDrawn, IsReply, IsRow, IsRowAt, KeepsRows}
use Rattle.ps_machine.specs.Inner.Drawing.{LeadsToRow}
use Rattle.ps_machine.specs.Inner.Drawing.{NamesAnswer}
use Rattle.ps_machine.specs.Extracting.{IsUsed, GoesTo, StandsFor}
use Rattle.ps_solver.specs.Solving.{winner_at_start}
use Rattle.ps_machine.specs.Keys.{mover_of}
use Rattle.ps_machine.specs.Dividing.{IsFit}
use Rattle.ps_machine.specs.Inner.Moving.{IsRest, step_key}
use Rattle.ps_machine.specs.Numbering.{StandsAt}
use Rattle.ps_machine.specs.declared.key.Key.{Key}
use Rattle.ps_machine.specs.declared.key.Key.TheVariants.{First, Second}
use Rattle.ps_machine.specs.declared.key.Order.{Order}
use Rattle.ps_machine.specs.declared.machine.Row.{Row}
use Rattle.ps_machine.specs.contracts.machine.RowPartialEq.TheImpl as row_eq
use Rattle.ps_machine.proofs.AutomatonGames.BoardLetters.{mask_below}
use Rattle.ps_machine.proofs.AutomatonGames.BoardSteps.{below_back, same_pair, same_itself, same_steps, class_first}
use Rattle.ps_machine.proofs.AutomatonGames.BoardSteps.{class_is}
use Rattle.ps_machine.proofs.AutomatonGames.BoardSteps.{class_of, no_class, step_of_key}
use Rattle.ps_machine.proofs.AutomatonGames.BoardMoves.{move_is, move_leaf, move_of}
use Rattle.ps_machine.proofs.Machines.Diagrams.DrawingLemmas.{keeps_rows, setting, used_more, move_at, move_to}
use Rattle.ps_machine.proofs.Machines.Diagrams.DrawingLemmas.{to_class_of}
use Rattle.ps_machine.proofs.Lassos.Rounds.{first_owner, second_owner, same_place, within_game}
use Rattle.ps_machine.proofs.Machines.Diagrams.RowTests.{same_row}
use Rattle.ps_machine.proofs.AutomatonGames.GameKeys.Standing.{same_some}

-- ## The winner's move after a class

not_same : (x y : ℕ) → (x == y) ≡ false → x ≢ y
not_same x y e same = cc (eq-eqb x y same)

abbrev pair : AutomatonData → ℕ → ℕ → Key
pair a q l = step_key (step_of a q l)

module _ (order : Order) (a : AutomatonData) (keys : List Key) (game : ParityGame) (certificate : CertificateData)
    (is_first : Bool) (kept anchors : List ℕ) where
  -- the vertex to which the winner, who moves second, moves after the letter x at the state q, and a letter that leads
  -- there
  pub record Replies (q x : ℕ) : Type 0 where
    pub at : ℕ
    pub stands : StandsAt keys at (Second q x)
    pub chosen : ℕ
    pub choice : choice_of certificate at ≡ Some chosen
    pub letter : ℕ
    pub second : IsSecondLetter (board_of order a) letter
    pub goes : GoesTo keys (board_of order a) q (x + letter) chosen
    pub enters : CanEnter order a keys game certificate is_first kept anchors (step_of a q (x + letter)).state
        (step_of a q (x + letter)).priority
    pub apart : (v w : ℕ) (k : Key) → StandsAt keys v k → StandsAt keys w k → v ≡ w

module _ {order : Order} {a : AutomatonData} {keys : List Key} {game : ParityGame} {certificate : CertificateData}
    {is_first : Bool} {kept anchors : List ℕ} where
  pub replies : {q p x : ℕ} → is_first ≡ false → CanEnter order a keys game certificate is_first kept anchors q p →
      IsClassLetter (board_of order a) q x → Replies order a keys game certificate is_first kept anchors q x
  replies {q} {x} turn e is =
      let plan = e.plan in
      let mover = mover_of order in
      let s = setting plan in
      let loses : mover ≢ winner_at_start certificate =
      not_same mover (winner_at_start certificate) (sym plan.turn ∙ turn) in
      let small : winner_at_start certificate < 2 = plan.fits.winners 0 (within_game s 0 s.by_keys.begins) in
      let to = to_class_of s e.stands is in
      let behind : to.vertex < vertex_count game = within_game s to.vertex to.stands in
      let used : IsUsed game certificate to.vertex = used_more e.is_used to.edge behind
      (λ own. absurd (loses (sym (first_owner s e.vertex e.stands) ∙ own))) in
      let owner = second_owner s to.vertex to.stands in
      let own : owner_of game to.vertex ≡ winner_at_start certificate =
      omega (arith, owner, loses, small, s.is_mover) in
      let m = move_at s to.stands used own in
      let t = move_to s to.vertex to.stands m.edge in
      search (rules, same_place)

  module _ {q x : ℕ} (r : Replies order a keys game certificate is_first kept anchors q x) where
    pub reply_choice : (at : ℕ) → StandsAt keys at (Second q x) → choice_of certificate at ≡ Some r.chosen
    reply_choice at there = cc (r.apart at r.at (Second q x) there r.stands, r.choice)

    -- the vertex to which the winner moves stands for the step that the winner's letter makes
    pub reply_stands : (at : ℕ) {chosen : ℕ} → StandsAt keys at (Second q x) → choice_of certificate at ≡ Some chosen →
        StandsAt keys chosen (pair a q (x + r.letter))
    reply_stands at {chosen} there choice =
        rw (some_nat r.chosen chosen (sym (reply_choice at there) ∙ choice)) at r.goes.stands

    pub reply_key : (at : ℕ) {chosen : ℕ} {k : Key} (d : Key) → StandsAt keys at (Second q x) →
        choice_of certificate at ≡ Some chosen → get_or keys chosen d ≡ k → k ≡ pair a q (x + r.letter)
    reply_key at {chosen} d there choice is =
        sym is ∙ get_or_from_slice_get keys chosen (pair a q (x + r.letter)) d (reply_stands at there choice)

    module _ (step : Step) (e : step_key step ≡ pair a q (x + r.letter)) where
      same_step : step ≡ step_of a q (x + r.letter)
      same_step = step_of_key e

      pub reply_is : IsReply (board_of order a) keys certificate q x step.state step.priority
      reply_is = search (rules, same_step)

      pub reply_enters : CanEnter order a keys game certificate is_first kept anchors step.state step.priority
      reply_enters = rw same_step r.enters

-- ## The letter that is output

module _ (order : Order) (a : AutomatonData) {keys : List Key} {certificate : CertificateData} {q x : ℕ} {step : Step}
    (reply : IsReply (board_of order a) keys certificate q x step.state step.priority) where
  -- let x be the least letter of its class at the state q; the row with `letter` and `memory` is right for x if
  -- `letter` is the least letter that makes the winner's step, and `memory` is the memory state after this step
  answer_by : {kept : List ℕ} (letter memory : ℕ) → IsClassLetter (board_of order a) q x →
      IsMove (board_of order a) q x letter → step_of a q (x + letter) ≡ step →
      ((v : ℕ) → StandsAt keys v (First step.state step.priority) → StandsFor false keys kept memory v step.state) →
      IsReplyRow (board_of order a) keys kept certificate q x (record { memory = memory; letter = letter })
  answer_by {kept} letter memory class move is stands v =
      let goes : GoesTo keys (board_of order a) q (x + letter) reply.chosen =
      record { stands = rw is reply.entered } in
      record {
        played = record {
          class = x;
          is_class = class;
          same = same_itself order a q x;
          at = reply.at;
          stands = reply.stands;
          chosen = reply.chosen;
          choice = reply.choice;
          least = record {
            here = (move.here.0, goes);
            none_before = λ z other before.
                let same = step_of_key (same_some (sym other.1.stands ∙ goes.stands)) in
                move.none_before z (
                  other.0,
                  record {
                    state = ap (λ (s : Step). s.state) same;
                    priority = ap (λ (s : Step). s.priority) same;
                  },
                ) before;
          };
        };
        entered = reply.chosen;
        goes = goes;
        next = rw is (stands reply.chosen reply.entered);
      }

module _ {order : Order} {a : AutomatonData} {mask : ℕ} {t : Table} {keys : List Key} {certificate : CertificateData}
    {q x rest : ℕ} {found : List (ℕ × ℕ)} {step : Step}
    (reply : IsReply (board_of order a) keys certificate q x step.state step.priority) (f : IsFit order a mask t)
    (r : IsRest order a mask t q x rest) (are : AreLeaves t rest found) where
  pub leaf_there : Any (λ leaf. pair_of a leaf.0 ≡ step) found
  leaf_there =
      let m = move_of f r are reply.second in
      let leaf = sym m.is ∙ r.leaves reply.letter reply.second in
      grind (
        arith,
        get_or_default found m.place (get_or found m.place (0, 0)) (0, 0) m.within,
        same_pair reply.state reply.priority,
      )

  pub answered : {kept : List ℕ} (letter memory : ℕ) → IsClassLetter (board_of order a) q x →
      Any (λ leaf. (pair_of a leaf.0 ≡ step) × (leaf.1 ≡ letter)) found →
      ((v : ℕ) → StandsAt keys v (First step.state step.priority) → StandsFor false keys kept memory v step.state) →
      IsReplyRow (board_of order a) keys kept certificate q x (record { memory = memory; letter = letter })
  answered letter memory class any stands =
      let k = any.0 in
      let leaf = any.1 in
      let within = any.2 in
      let here : get_or found k (0, 0) ≡ leaf = get_or_default found k (0, 0) leaf within ∙ any.3 in
      let played : (get_or found k (0, 0)).1 ≡ letter = ap (λ (l : ℕ × ℕ). l.1) here ∙ any.4.1 in
      let named : pair_of a (get_or found k (0, 0)).0 ≡ step = ap (λ (l : ℕ × ℕ). pair_of a l.0) here ∙ any.4.0 in
      let move = rw played at (move_is f r are k within) in
      let leads = ap (λ y. leaf_of a.store (node_of a q) (x + y)) (sym played) ∙ move_leaf f r are k within in
      answer_by order a reply letter memory class move
      (ap (λ o. pair_of a (unwrap_or o (length a.steps))) leads ∙ named) stands

-- ## Rows

pub answer_row : {is_first : Bool} {board : Board} {keys : List Key} {kept : List ℕ} {certificate : CertificateData}
    {q x : ℕ} {row : Row} → is_first ≡ false → IsReplyRow board keys kept certificate q x row →
    IsRow is_first board kept row
answer_row {board} {kept} {row} turn answer =
    let at = answer 0 in
    rw turn (record {
      memory = slice_get_within kept row.memory at.next.vertex at.next.is_kept;
      letter = at.played.least.here.0;
    })

module _ (board : Board) (keys : List Key) (kept : List ℕ) (certificate : CertificateData) (q : ℕ) where
  abbrev pub Names : List Row → Class → ℕ → Type 0
  Names rows class value = NamesAnswer board keys kept certificate rows q class.letter value

  still_named : {old new : List Row} → KeepsRows old new → (classes : List Class) (values : List ℕ) →
      AllZip (Names old) classes values → AllZip (Names new) classes values
  still_named k [] [] zip = tt
  still_named k [] (value ∷ values) zip = zip
  still_named k (class ∷ classes) [] zip = zip
  still_named {old} {new} k (class ∷ classes) (value ∷ values) zip = grind (arith, still_named k classes values zip.1)

module _ {board : Board} {keys : List Key} {kept : List ℕ} {certificate : CertificateData} {q : ℕ} where
  -- the list `values` has the index of the row for each of the first i classes; after the row of class i is stored, the
  -- extended list has its index, too
  pub named_next : (old new : List Row) (classes : List Class) (i : ℕ) (d : Class) (values more : List ℕ) (value : ℕ)
      {row : Row} → new ≡ insert_key (row_eq.eq-value).it old row →
      AllZip (Names board keys kept certificate q old) (take i classes) values →
      i < length classes → d ≡ get_or classes i d →
      (r : Row) × (slice_get new value ≡ Some r) × ((row_eq.eq-value).it row r ≡ true) →
      IsReplyRow board keys kept certificate q d.letter row → more ≡ values ++ value ∷ [] →
      AllZip (Names board keys kept certificate q new) (take (i + 1) classes) more
  named_next old new classes i d values more value {row} grown zip within is stored answer e =
      let k = keeps_rows (row_eq.eq-value).it row grown in
      let at : slice_get new value ≡ Some row = stored.1 ∙ ap (λ r. Some r) (sym (same_row stored.2)) in
      let here = rw is at answer in
      rw (e, take_more classes i d within) (grind (arith, AllZip-push, still_named))

  -- if a row of the machine's table has the right output and next memory state for the first player's letter c, it also
  -- has them for each letter x that leads to the same steps
  alike_row : {v x c : ℕ} {row : Row} → SameSteps board q x c →
      IsRowAt false board keys kept certificate v q c row →
      IsRowAt false board keys kept certificate v q x row
  alike_row {v} {x} {c} {row} same r =
      let played = r.played in
      let step = same row.letter played.least.here.0 in
      record {
        played = record {
          class = played.class;
          is_class = played.is_class;
          same = λ y second. record {
            state = (same y second).state ∙ (played.same y second).state;
            priority = (same y second).priority ∙ (played.same y second).priority;
          };
          at = played.at;
          stands = played.stands;
          chosen = played.chosen;
          choice = played.choice;
          least = played.least;
        };
        entered = r.entered;
        goes = record { stands = rw (step.state, step.priority) r.goes.stands };
        next = rw step.state r.next;
      }

-- ## The diagram

-- if the relation N holds between the entries of two lists at each index, it also holds if each list is replaced by an
-- equal one
pub named_as : {X : Type 0} (N : X → ℕ → Type 0) {xs ys : List X} {values same : List ℕ} → ys ≡ xs → same ≡ values →
    AllZip N ys values → AllZip N xs same
named_as N {ys} {same} is are zip = subst (λ l. AllZip N l same) is (subst (λ v. AllZip N ys v) (sym are) zip)

pub class_each : {order : Order} {a : AutomatonData} {mask : ℕ} {t : Table} {q : ℕ} {c : Classes} → IsFit order a mask t
    → AreClassesOf a mask t q c → All (λ (c : Class). IsClassLetter (board_of order a) q c.letter) c.list.items
class_each {c} f of k d within = class_is f of k (slice_get-get_or c.list.items k d within)

some_if : (o : Option ℕ) {n m : ℕ} → m ≡ n → IsSomeAnd o (λ k. k < n) → IfSome o (λ k. k < m)
some_if o h k = search rules

module _ (keys : List Key) (kept : List ℕ) (certificate : CertificateData) (rows : List Row) (values : List ℕ)
    {order : Order} {a : AutomatonData} {mask : ℕ} {t : Table} {q : ℕ} {classes : Classes} (f : IsFit order a mask t)
    (of : AreClassesOf a mask t q classes)
    (named : AllZip (Names (board_of order a) keys kept certificate q rows) classes.list.items values) where
  abbrev list : List Class
  list = classes.list.items

  pub places_within : (letter : ℕ) → IfSome (leaf_of t classes.places letter) (λ k. k < length values)
  places_within letter = search (rules, some_if, AllZip-long)

  module _ (u : Table) (node : ℕ) (leaf : (letter : ℕ) → leaf_of u node letter ≡ option_map (λ k. slice_index values k)
      (leaf_of t classes.places letter)) where
    to_row : (v x : ℕ) → IsFirstLetter (board_of order a) x → LeadsToRow false (board_of order a) keys kept certificate
        u rows node v q x
    to_row v x hx =
        let m = class_of f of no_class x in
        let each = of.are.each m.place m.class m.at in
        let c = m.class.letter in
        let hc = class_first f of m.place m.at in
        let alike = (of.are.alike x c (below_back f x hx.within) each.least.here.0).0 (m.is ∙ sym each.least.here.1) in
        let same = same_steps f q x c hx hc alike in
        let N = Names (board_of order a) keys kept certificate q rows in
        let left = rw m.at at (AllZip-left N list values named m.place) in
        let value = some_of (slice_get values m.place) (N m.class) left in
        record {
          leaf = value.0;
          is_leaf = leaf x ∙ ap (λ o. option_map (λ k. slice_index values k) o) m.is
              ∙ ap (λ n. Some n) (get_or_from_slice_get values m.place value.0 0 value.1);
          row = value.2.row;
          is_row = value.2.is_row;
          is_right = alike_row same (value.2.is_answer v);
        }

    heeds_first : (x y : ℕ) → ((p : ℕ) → p < length a.names → (board_of order a).is_first p ≡ true →
        is_in p x ≡ is_in p y) → leaf_of u node x ≡ leaf_of u node y
    heeds_first x y alike =
        let on : AgreeOn mask x y = λ p is. grind (arith, mask_below (board_of order a) mask p f.is_mask is) in
        cc (leaf x, of.are.read x y on, leaf y)

    pub drawn_second : (v p : ℕ) → StandsAt keys v (First q p) → IsNode u node →
        IsDrawn false (board_of order a) keys kept certificate u rows v node
    drawn_second v p at held = search (rules, to_row, heeds_first)
