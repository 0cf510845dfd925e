-- A product in the making, while its vertices are explored, one after another.
use Rattle.std.proofs.Common.{◌≡◌, ℕ, ◌+◌, ◌<◌, ◌≤◌, List, [], ◌∷◌, ◌++◌, Some, length, get_or}
use Rattle.std.proofs.Common.{refl, sym, ap, subst, ◌∙◌, arith, length-append}
use Rattle.std.specs.List.{slice_get}
use Rattle.std.proofs.lemmas.List.{append-nil}
use Rattle.std.proofs.lemmas.Option.{slice_get_within}
use Rattle.ps_product.specs.Words.{HasGrown}
use Rattle.ps_product.proofs.ExploredProducts.WordNumbers.{grown_none, grown_on, still_there}
use Rattle.ps_simulate.proofs.NamingLemmas.{some_same}
use Rattle.ps_tableau.specs.Boards.{Grows}
use Rattle.ps_tableau.specs.declared.board.Board.{Board}
use Rattle.ps_tableau.specs.declared.edge.Edge.{Edge}
use Rattle.ps_tableau.proofs.BoardLemmas.{grows_refl, grows_trans}
use Rattle.ps_tableau_product.specs.BoardStates.{edges_of_state}
use Rattle.ps_tableau_product.specs.Inner.Drafts.{AddsTo, AreFit, DraftOf, EndsIn, GoesOn, IsExploredTo, MakesRow}
use Rattle.ps_tableau_product.specs.Inner.Drafts.{ProductKind}
use Rattle.ps_tableau_product.specs.Inner.States.{AreStates, HaveAllEdges, HaveMoreEdges, StatesData, StatesGrow}
use Rattle.ps_tableau_product.proofs.FairProducts.GrowingRows.{each_now, led_more, new_row, old_row, one_row_more}
use Rattle.ps_tableau_product.proofs.FairProducts.GrowingRows.{vertices_none}
use Rattle.ps_tableau_product.proofs.FairProducts.GrowingRows.{vertices_on}

-- what fits some states, and the rows that are right, stay so while states and vertices are added
pub record IsSteady {V X : Type 0} (k : ProductKind V X) : Type 0 where
  pub fits_more : (old new : StatesData) (v : V) → HasGrown old.sets new.sets → k.Fits old v → k.Fits new v
  pub row_kept : (old new : StatesData) (before after : List V) (v : V) (row : List X) → AreStates old →
      StatesGrow old new → HasGrown before after → k.state v < length old.edges → k.HasRow old before v row →
      k.HasRow new after v row

-- ## States and vertices are added

grow_by : {old new : StatesData} → AreStates old → new.board ≡ old.board → new.edges ≡ old.edges →
    HasGrown old.sets new.sets → StatesGrow old new
grow_by {old} {new} are board edges sets = record {
  board = subst (Grows old.board) (sym board) (grows_refl old.board are.board.sets);
  sets = sets;
  edges = record { more = []; is = edges ∙ sym (append-nil old.edges) };
}

module _ {V X : Type 0} {k : ProductKind V X} where
  pub adds_grow : {old new : DraftOf V X} {row : List X} → AreStates old.states → AddsTo k old new row →
      StatesGrow old.states new.states
  adds_grow are adds = grow_by are adds.board adds.edges adds.sets

  pub adds_none : {d : DraftOf V X} (row : List X) → AreFit k d → AddsTo k d d row
  adds_none {d} row are = record {
    are_fit = are;
    board = refl;
    edges = refl;
    sets = grown_none d.states.sets;
    rows = refl;
    vertices = vertices_none d.vertices row;
  }

  pub adds_on : {a b c : DraftOf V X} {row made : List X} (more : List X) → made ≡ row ++ more → AddsTo k a b row →
      AddsTo k b c made → AddsTo k a c made
  adds_on more e first second = record {
    are_fit = second.are_fit;
    board = second.board ∙ first.board;
    edges = second.edges ∙ first.edges;
    sets = grown_on first.sets second.sets;
    rows = second.rows ∙ first.rows;
    vertices = vertices_on more e first.vertices second.vertices;
  }

  pub still_explored : {old new : DraftOf V X} {row : List X} {state : ℕ} → AddsTo k old new row →
      state < length old.states.edges → state < length new.states.edges
  still_explored {state = state} adds explored =
      subst (λ (es : List (List Edge)). state < length es) (sym adds.edges) explored

  pub same_covers : {old new : DraftOf V X} {row : List X} (state : ℕ) → AddsTo k old new row →
      edges_of_state new.states.edges state ≡ edges_of_state old.states.edges state
  same_covers state adds = ap (λ (es : List (List Edge)). edges_of_state es state) adds.edges

  -- ## More states have their edges

  states_reached : IsSteady k → {d : DraftOf V X} {count : ℕ} {states : StatesData} → IsExploredTo k d count →
      HaveMoreEdges d.states states →
      IsExploredTo k (record { states = states; vertices = d.vertices; rows = d.rows }) count
  states_reached steady {d} {count} {states} x more =
      let longer : length d.states.edges ≤ length states.edges =
      omega (
        arith,
        ap (λ (l : List (List Edge)). length l) more.grow.edges.is,
        length-append d.states.edges more.grow.edges.more,
      )
      in
      record {
        are_fit = record {
          states = more.states;
          each = λ i v at. steady.fits_more d.states states v more.grow.sets (x.are_fit.each i v at);
        };
        initial = ap (λ (l : List ℕ). slice_get l 0) more.same ∙ x.initial
            ∙ ap (λ (n : ℕ). Some n) (sym more.grow.board.initial);
        rows_each = x.rows_each;
        within = x.within;
        first = x.first;
        have_covers = λ i v lt at. let had = x.have_covers i v lt at in omega (arith, had, longer);
        explored = λ i v lt at. steady.row_kept d.states states d.vertices d.vertices v (get_or d.rows i [])
            x.are_fit.states more.grow (grown_none d.vertices) (x.have_covers i v lt at) (x.explored i v lt at);
        led = x.led;
      }

  pub goes_on : IsSteady k → {d : DraftOf V X} {count : ℕ} {states : StatesData} → IsExploredTo k d count →
      HaveMoreEdges d.states states →
      GoesOn k d (record { states = states; vertices = d.vertices; rows = d.rows }) count
  goes_on steady x more = record { explored = states_reached steady x more; grows = more.grow.board }

  pub ends_in : IsSteady k → {old d : DraftOf V X} {states : StatesData} → IsExploredTo k d (length d.vertices) →
      Grows old.states.board d.states.board → HaveAllEdges d.states states →
      EndsIn k old (record { states = states; vertices = d.vertices; rows = d.rows })
  ends_in steady x grows have = record {
    whole = record { explored = states_reached steady x have.more; covers = have.all };
    grows = grows_trans grows have.more.grow.board;
  }

  -- ## One vertex more

  explored_more : IsSteady k → {old mid : DraftOf V X} {vertex : ℕ} {row : List X} {rows : List (List X)} →
      IsExploredTo k old vertex → (made : MakesRow k old mid vertex row) →
      k.state made.at < length old.states.edges → rows ≡ mid.rows ++ row ∷ [] →
      IsExploredTo k (record { states = mid.states; vertices = mid.vertices; rows = rows }) (vertex + 1)
  explored_more steady {old} {mid} {vertex} {row} {rows} x made covers pushed =
      let few : vertex < length old.vertices = slice_get_within old.vertices vertex made.at made.there in
      let grow = adds_grow x.are_fit.states made.adds in
      let longer = made.adds.vertices.grown in
      let many : length old.vertices ≤ length mid.vertices =
      omega (arith, ap (λ (l : List V). length l) longer.is, length-append old.vertices longer.more) in
      let all : rows ≡ old.rows ++ row ∷ [] =
      pushed ∙ ap (λ (l : List (List X)). l ++ row ∷ []) made.adds.rows in
      let same : length mid.states.edges ≡ length old.states.edges =
      ap (λ (l : List (List Edge)). length l) made.adds.edges in
      record {
        are_fit = record { states = made.adds.are_fit.states; each = made.adds.are_fit.each };
        initial = still_there 0 made.adds.sets x.initial ∙ ap (λ (b : Board). Some b.initial) (sym made.adds.board);
        rows_each = one_row_more old.rows row all x.rows_each;
        within = omega (arith, few, many);
        first = still_there 0 longer x.first;
        have_covers = each_now longer (λ (i : ℕ) (v : V). k.state v < length mid.states.edges) made.there
            (λ i v lt at. let had = x.have_covers i v lt at in omega (arith, had, same))
            (omega (arith, covers, same));
        explored = each_now longer (λ (i : ℕ) (v : V). k.HasRow mid.states mid.vertices v (get_or rows i []))
            made.there
            (λ i v lt at.
            let kept = steady.row_kept old.states mid.states old.vertices mid.vertices v (get_or old.rows i [])
            x.are_fit.states grow longer (x.have_covers i v lt at) (x.explored i v lt at) in
            let low : i < length old.rows = omega (arith, lt, x.rows_each) in
            subst (k.HasRow mid.states mid.vertices v) (sym (old_row old.rows row all i low)) kept)
            (subst (k.HasRow mid.states mid.vertices made.at) (sym (new_row old.rows row all x.rows_each)) made.made);
        led = led_more made.adds.vertices all x.rows_each few x.led;
      }

  pub goes_one_on : IsSteady k → {old mid : DraftOf V X} {vertex : ℕ} {row : List X} {rows : List (List X)} →
      IsExploredTo k old vertex → (made : MakesRow k old mid vertex row) →
      k.state made.at < length old.states.edges → rows ≡ mid.rows ++ row ∷ [] →
      GoesOn k old (record { states = mid.states; vertices = mid.vertices; rows = rows }) (vertex + 1)
  goes_one_on steady x made covers pushed = record {
    explored = explored_more steady x made covers pushed;
    grows = (adds_grow x.are_fit.states made.adds).board;
  }

  -- ## The first vertex

  pub explored_first : {d : DraftOf V X} → AreStates d.states → d.states.sets ≡ d.states.board.initial ∷ [] →
      d.vertices ≡ k.first ∷ [] → d.rows ≡ [] → k.Fits d.states k.first → IsExploredTo k d 0
  explored_first {d} are sets all rows fits =
      let long : length d.vertices ≡ 1 = ap (λ (l : List V). length l) all in
      let here : slice_get d.vertices 0 ≡ Some k.first = ap (λ (l : List V). slice_get l 0) all in
      record {
        are_fit = record {
          states = are;
          each = λ i v at.
              let lt = slice_get_within d.vertices i v at in
              let zero_is : i ≡ 0 = omega (arith, lt, long) in
              let is_first : k.first ≡ v =
              some_same k.first v (sym here ∙ ap (slice_get d.vertices) (sym zero_is) ∙ at) in
              subst (k.Fits d.states) is_first fits;
        };
        initial = ap (λ (l : List ℕ). slice_get l 0) sets;
        rows_each = ap (λ (l : List (List X)). length l) rows;
        within = omega arith;
        first = here;
        have_covers = λ i v lt at. absurd (omega (arith, lt));
        explored = λ i v lt at. absurd (omega (arith, lt));
        led = λ i positive lt. absurd (omega (arith, positive, lt, long));
      }
