-- A lasso whose word satisfies the formula of the tableau gives a fair cycle of each graph that is the product, among
-- the edges whose priorities are at most the greatest one of the cycle; the automaton accepts the lasso exactly if this
-- priority is even.
use Rattle.std.proofs.Common.{◌≡◌, ℕ, zero, suc, ◌+◌, ◌*◌, ◌-◌, ◌%◌, ◌/◌, ◌^◌, ◌<◌, ◌≤◌, inl, inr, List, length, get_or}
use Rattle.std.proofs.Common.{map}
use Rattle.std.proofs.Common.{true, All, Some, refl, sym, ap, subst, ◌∙◌, arith}
use Rattle.std.specs.Prelude.{◌↔◌, Contains, slice_get}
use Rattle.std.proofs.Math.Nat.{mod-lt, div-add-mod}
use Rattle.std.proofs.Math.Numerals.{add-one}
use Rattle.std.proofs.lemmas.Bool.{cases_lt, eq-eqb, le-leb, le-ltb, lt-ltb}
use Rattle.std.proofs.lemmas.List.{get_or-map, length-map}
use Rattle.std.proofs.lemmas.List.Elements.{Contains-get_or}
use Rattle.std.proofs.lemmas.Nat.{mul-add-lt, same_from_place}
use Rattle.std.proofs.lemmas.Option.{slice_get-get_or, slice_get_read}
use Rattle.ps_components.specs.Graphs.{Digraph}
use Rattle.ps_fairness.specs.Marks.{IsEdge, IsFairCycle, IsMarked, Leads}
use Rattle.ps_fairness.specs.declared.edge.Edge.{Edge}
use Rattle.ps_hoa.specs.Files.{FileData}
use Rattle.ps_formula.specs.Formulas.{Formula}
use Rattle.ps_formula.specs.NormalForms.{NormalFormula, truth}
use Rattle.ps_formula.specs.Satisfaction.{IsDecidedWord, Satisfies}
use Rattle.ps_formula.proofs.LassoTruths.{lasso_is_decided}
use Rattle.ps_tableau.specs.Covers.{Cover, Fits, SatisfiesAll}
use Rattle.ps_tableau.specs.Runs.{HasRound, Tableau}
use Rattle.ps_tableau.proofs.Rounds.{fair_run_has_round_lem}
use Rattle.ps_tableau.proofs.Complete.{is_free}
use Rattle.ps_automaton.specs.Acceptance.{IsAccepted}
use Rattle.ps_automaton.specs.Autos.{Auto, IsAutoOf, greatest_from, priority_at, state_at}
use Rattle.ps_automaton.specs.Chains.{Chain, chain_of, is_even}
use Rattle.ps_label.specs.Words.{Repeats, lasso_word}
use Rattle.ps_automaton.proofs.AdmittedFiles.Accepting.{accepted_is_even, even_is_accepted}
use Rattle.ps_automaton.proofs.AdmittedFiles.Orbits.{any_return_decides, place_below, priorities_repeat, states_repeat}
use Rattle.ps_automaton.proofs.AdmittedFiles.Orbits.{word_repeats}
use Rattle.ps_tableau_product.specs.Joints.{IsJointProduct, JointProduct, JointVertex, capped, capped_marks, joint_at}
use Rattle.ps_tableau_product.specs.Products.{IsTableauFor}
use Rattle.ps_tableau_product.proofs.LassoWords.LassoWalks.{along_both}
use Rattle.ps_tableau_product.proofs.LassoWords.Rotations.{IsAttained, apart_by, attained, repeats_later}
use Rattle.ps_tableau_product.proofs.LassoWords.WordSteps.{entries_from, entry_at, length-entries_from}

-- edges one after another are a walk
leads_within : (g : Digraph) (e : ℕ → Edge) (i n j : ℕ) →
    ((m : ℕ) → i ≤ m → m < i + n → IsEdge g (e m) (e (suc m)).vertex) → i + n ≡ j →
    Leads g (entries_from e i n) (e i).vertex (e j).vertex
leads_within g e i zero j on far = ap (λ (k : ℕ). (e k).vertex) (omega arith)
leads_within g e i (suc n) j on far = (
  refl,
  (
    (e (suc i)).vertex,
    on i (omega arith) (omega arith),
    leads_within g e (suc i) n j (λ m low high. on m (omega arith) (omega arith)) (omega arith),
  ),
)

module _ {a : Auto} {read : ℕ → ℕ} {few : ℕ} {t : Tableau} {p : JointProduct} {f : Formula}
    (is_joint : IsJointProduct a read few t p) (is_for : IsTableauFor t 0 f) (stem lap : List ℕ)
    (some : 0 < length lap) (stem_low : All (λ letter. letter < few) stem) (lap_low : All (λ letter. letter < few) lap)
  where
    abbrev w : ℕ → ℕ
    w = lasso_word stem lap

    abbrev stem_read : List ℕ
    stem_read = map read stem

    abbrev lap_read : List ℕ
    lap_read = map read lap

    -- the word as the automaton reads it
    abbrev own_word : ℕ → ℕ
    own_word = lasso_word stem_read lap_read

    reads_at : (i : ℕ) → own_word i ≡ read (w i)
    reads_at = along_both (λ (n m : ℕ). m ≡ read n) 0 0 stem lap stem_read lap_read (sym (length-map stem read))
        (sym (length-map lap read)) some (λ k low. get_or-map read stem k 0 0 low)
        (λ k low. get_or-map read lap k 0 0 low)

    low_at : (i : ℕ) → w i < few
    low_at = along_both (λ (n m : ℕ). n < few) 0 0 stem lap stem lap refl refl some (λ k low. stem_low k 0 low)
        (λ k low. lap_low k 0 low)

    decided : IsDecidedWord w
    decided = lasso_is_decided stem lap some

    -- ## A run

    -- a vertex of the graph with the automaton's state at an index, whose obligations the word satisfies there
    record Here (i : ℕ) : Type 0 where
      vertex : ℕ
      within : vertex < p.graph.count
      own : (p.vertex vertex).own ≡ state_at a own_word i
      state_within : (p.vertex vertex).state < t.count
      satisfied : SatisfiesAll (t.obligations (p.vertex vertex).state) w i

    -- an edge from there with a cover that the word can use, and the vertex to which it leads
    record Step (i vertex : ℕ) : Type 0 where
      slot : ℕ
      fits : Fits (p.edge vertex slot).cover w i
      priority : (p.edge vertex slot).priority ≡ priority_at a own_word i
      to : Here (suc i)
      is_edge : IsEdge p.graph (record { vertex = vertex; slot = slot }) to.vertex

    step : (i : ℕ) (h : Here i) → Step i h.vertex
    step i h =
        let used = (is_for.tableau.exact (p.vertex h.vertex).state h.state_within).usable w i decided h.satisfied in
        let like = is_joint.complete h.vertex (w i) used.0 h.within (low_at i) used.1 used.2.guard in
        let stands = is_joint.sound (record { vertex = h.vertex; slot = like.slot }) like.to like.is_edge in
        let fits : Fits (p.edge h.vertex like.slot).cover w i =
        subst (λ (cover : Cover). Fits cover w i) (sym like.cover_is) used.2 in
        let from : (p.vertex h.vertex).own ≡ state_at a own_word i = h.own in
        let letter : read (w i) ≡ own_word i = sym (reads_at i) in
        record {
          slot = like.slot;
          fits = fits;
          priority = like.priority ∙ ap (λ (q : ℕ). a.priority q (read (w i))) from
              ∙ ap (λ (x : ℕ). a.priority (state_at a own_word i) x) letter;
          to = record {
            vertex = like.to;
            within = is_joint.stays h.vertex like.to (record {
              from = like.is_edge.from;
              place = like.slot;
              at = like.is_edge.at;
              target = like.is_edge.target;
            });
            own = like.own ∙ ap (λ (q : ℕ). a.next q (read (w i))) from
                ∙ ap (λ (x : ℕ). a.next (state_at a own_word i) x) letter;
            state_within = stands.to;
            satisfied = subst (SatisfiesAll (t.obligations (p.vertex like.to).state) w) (add-one i) (record {
              each = λ g there. fits.next g (subst (λ (l : List NormalFormula). Contains l g) stands.next there);
            });
          };
          is_edge = like.is_edge;
        }

    module _ (first : Here 0) where
      abbrev here : (i : ℕ) → Here i
      here zero = first
      here (suc i) = (step i (here i)).to

      abbrev edge : ℕ → Edge
      edge i = record { vertex = (here i).vertex; slot = (step i (here i)).slot }

      on : (i : ℕ) → IsEdge p.graph (edge i) (edge (suc i)).vertex
      on i = (step i (here i)).is_edge

      abbrev run : ℕ → Cover
      run i = (joint_at p (edge i)).cover

      -- ## Two indices behind the stem with the same vertex, some laps apart

      abbrev behind : ℕ → ℕ
      behind i = length stem + i

      abbrev number : ℕ → ℕ
      number i = (edge (behind i)).vertex * length lap + i % length lap

      round : HasRound t.untils (λ i. run (behind i)) number
      round = fair_run_has_round_lem t.untils (λ i. run (behind i)) number (length lap * p.graph.count) (record {
        often = λ until known i.
            (let free = is_free w run decided (λ k. (step k (here k)).fits) until (behind i) in
            let low = free.1 in
            let back : behind (free.0 - length stem) ≡ free.0 = omega arith in (
              free.0 - length stem,
              omega arith,
              subst (λ (k : ℕ). ¬ Contains (run k).postponed until) (sym back) free.2,
            ));
      }) (λ i. mul-add-lt (edge (behind i)).vertex (length lap) (i % length lap) p.graph.count (here (behind i)).within
          (mod-lt i some))

      abbrev from : ℕ
      from = behind round.start

      abbrev many : ℕ
      many = round.end - round.start

      both : ((edge (behind round.start)).vertex ≡ (edge (behind round.end)).vertex) ×
          (round.start % length lap ≡ round.end % length lap)
      both = same_from_place (edge (behind round.start)).vertex (round.start % length lap)
          (edge (behind round.end)).vertex (round.end % length lap) (length lap) (mod-lt round.start some)
          (mod-lt round.end some) round.same

      ends : from + many ≡ behind round.end
      ends = let later = round.later in omega arith

      some_many : 0 < many
      some_many = let later = round.later in omega arith

      abbrev times : ℕ
      times = (apart_by (length lap) round.start round.end round.later both.1).times

      some_times : 0 < times
      some_times = (apart_by (length lap) round.start round.end round.later both.1).some

      many_is : many ≡ times * length lap
      many_is = let far = (apart_by (length lap) round.start round.end round.later both.1).far in omega arith

      -- ## The priorities between them

      abbrev priority : ℕ → ℕ
      priority = priority_at a own_word

      priority_is : (i : ℕ) → (joint_at p (edge i)).priority ≡ priority i
      priority_is i = (step i (here i)).priority

      stem_same : length stem_read ≡ length stem
      stem_same = length-map stem read

      lap_same : length lap_read ≡ length lap
      lap_same = length-map lap read

      count_is : times * length lap_read ≡ many
      count_is = ap (λ (n : ℕ). times * n) lap_same ∙ sym many_is

      words_again : Repeats own_word from many
      words_again = subst (Repeats own_word from) count_is
          (repeats_later own_word (length stem_read + 0 * length lap_read) (times * length lap_read) from
          (omega (arith, stem_same)) (word_repeats stem_read lap_read 0 times))

      states_back : state_at a own_word (from + many) ≡ state_at a own_word from
      states_back = ap (state_at a own_word) ends ∙ sym (here (behind round.end)).own
          ∙ ap (λ (v : ℕ). (p.vertex v).own) (sym both.0) ∙ (here from).own

      again : Repeats priority from many
      again = priorities_repeat a many words_again states_back

      abbrev greatest : ℕ
      greatest = greatest_from priority from many

      -- ## Acceptance

      abbrev laps_before : ℕ
      laps_before = suc (round.start / length lap)

      abbrev later_from : ℕ
      later_from = length stem_read + laps_before * length lap_read

      is_later : from ≤ later_from
      is_later =
          let cut = div-add-mod round.start (length lap) in
          let rest = mod-lt round.start some in
          let product : laps_before * length lap_read ≡ laps_before * length lap =
          ap (λ (n : ℕ). laps_before * n) lap_same in
          omega (arith, stem_same)

      later_again : Repeats priority later_from (times * length lap_read)
      later_again =
          subst (Repeats priority later_from) (sym count_is) (repeats_later priority from many later_from is_later
          again)

      later_back : state_at a own_word (length stem_read + (laps_before + times) * length lap_read) ≡
          state_at a own_word later_from
      later_back =
          let far : length stem_read + (laps_before + times) * length lap_read ≡ later_from + many =
          omega (arith, count_is) in
          ap (state_at a own_word) far ∙ states_repeat a many words_again states_back later_from is_later

      greatest_later : greatest_from priority later_from (times * length lap_read) ≡ greatest
      greatest_later = any_return_decides later_again again (omega (arith, count_is, some_many)) some_many

      module _ (file : FileData) (chain : Chain) (is_chain : chain_of file.condition ≡ Some chain)
          (is_auto : IsAutoOf file chain a) (reads_low : (letter : ℕ) → read letter < 2 ^ length file.names) where
        all_low : (letters : List ℕ) → All (λ letter. letter < 2 ^ length file.names) (map read letters)
        all_low letters k d low = subst (λ (n : ℕ). n < 2 ^ length file.names)
            (sym (get_or-map read letters k d d (omega (arith, length-map letters read))))
            (reads_low (get_or letters k d))

        some_read : 0 < length lap_read
        some_read = omega (arith, lap_same, some)

        parity_decides : (is_even greatest ≡ true) ↔ IsAccepted file stem_read lap_read
        parity_decides = (
          λ even. even_is_accepted file chain a is_chain is_auto stem_read lap_read some_read (all_low stem)
              (all_low lap) laps_before times some_times later_back (ap is_even greatest_later ∙ even),
          λ accepted. ap is_even (sym greatest_later)
              ∙ accepted_is_even file chain a is_chain is_auto stem_read lap_read some_read (all_low stem) (all_low lap)
              laps_before times some_times later_back accepted,
        )

      -- ## The cycle

      low_priority : (i : ℕ) → from ≤ i → i < from + many → (joint_at p (edge i)).priority ≤ greatest
      low_priority i low high = (let is = priority_is i in
          let below = place_below priority from many i low high in omega arith)

      on_capped : (i : ℕ) → from ≤ i → i < from + many → IsEdge (capped p greatest) (edge i) (edge (suc i)).vertex
      on_capped i low high = record {
        from = (on i).from;
        at = (on i).at;
        target = rw (le-leb (joint_at p (edge i)).priority greatest (low_priority i low high)) (on i).target;
      }

      -- an entry of the walk
      found : (i : ℕ) → from ≤ i → i < from + many →
          slice_get (entries_from edge from many) (i - from) ≡ Some (edge i)
      found i low high = slice_get_read (entries_from edge from many) many (i - from) (edge i)
          (sym (length-entries_from edge from many)) (omega arith)
          (sym (entry_at edge from many (i - from) i (edge i) (omega arith) (omega arith)))

      until_marked : (mark : ℕ) → mark < p.marks.count →
          IsMarked (capped_marks p greatest) (entries_from edge from many) mark
      until_marked mark low =
          let one_each = is_joint.one_each in
          let until = get_or t.untils mark (truth true) in
          let in_untils : mark < length t.untils = omega arith in
          let free = round.each until (Contains-get_or t.untils mark (truth true) in_untils) in
          let low_free = free.1 in
          let high_free = free.2 in
          let later = round.later in
          let i = behind free.0 in
          let is_until = slice_get-get_or t.untils mark (truth true) in_untils in
          record {
            at = i - from;
            edge = edge i;
            is = found i (omega arith) (omega arith);
            has = rw (lt-ltb mark p.marks.count low)
                ((is_joint.marked (edge i) (edge (suc i)).vertex mark until (on i) is_until).1 free.3);
          }

      priority_marked : (mark : ℕ) → p.marks.count ≤ mark →
          IsMarked (capped_marks p greatest) (entries_from edge from many) mark
      priority_marked mark high =
          let is_suc : suc (many - 1) ≡ many = (let positive = some_many in omega arith) in
          let top : IsAttained priority from many =
          subst (IsAttained priority from) is_suc (attained priority from (many - 1)) in
          record {
            at = top.at - from;
            edge = edge top.at;
            is = found top.at top.low top.high;
            has = rw (le-ltb mark p.marks.count high)
                (eq-eqb (joint_at p (edge top.at)).priority greatest (priority_is top.at ∙ top.is));
          }

      joint_cycle : IsFairCycle (capped p greatest) (capped_marks p greatest) (entries_from edge from many)
      joint_cycle = record {
        some = omega (arith, length-entries_from edge from many, some_many);
        start = (edge from).vertex;
        returns = subst (Leads (capped p greatest) (entries_from edge from many) (edge from).vertex) (sym both.0)
            (leads_within (capped p greatest) edge from many (behind round.end) on_capped ends);
        each = λ mark low. elim (cases_lt mark p.marks.count) [
          | inl below ↦ until_marked mark below
          | inr above ↦ priority_marked mark above
        ];
      }

    first_here : Satisfies f w 0 → Here 0
    first_here holds =
        let start = is_joint.first in
        let at : (p.vertex 0).state ≡ 0 = ap (λ (v : JointVertex). v.state) start in
        record {
          vertex = 0;
          within = is_joint.some;
          own = ap (λ (v : JointVertex). v.own) start;
          state_within = subst (λ (q : ℕ). q < t.count) (sym at) is_for.within;
          satisfied = subst (λ (q : ℕ). SatisfiesAll (t.obligations q) w 0) (sym at)
              ((is_for.same w 0 decided).1 holds);
        }

    -- a fair cycle whose greatest priority tells whether the automaton accepts the lasso
    pub record HasTellingCycle (file : FileData) : Type 0 where
      pub priority : ℕ
      pub walk : List Edge
      pub cycle : IsFairCycle (capped p priority) (capped_marks p priority) walk
      pub decides : (is_even priority ≡ true) ↔ IsAccepted file (map read stem) (map read lap)

    pub telling_cycle : (file : FileData) (chain : Chain) → chain_of file.condition ≡ Some chain →
        IsAutoOf file chain a → ((letter : ℕ) → read letter < 2 ^ length file.names) → Satisfies f w 0 →
        HasTellingCycle file
    telling_cycle file chain is_chain is_auto reads_low holds =
        let first = first_here holds in
        record {
          priority = greatest first;
          walk = entries_from (edge first) (from first) (many first);
          cycle = joint_cycle first;
          decides = parity_decides first file chain is_chain is_auto reads_low;
        }
