-- The edges of a vertex with one cover are added to the product in the making.
use Rattle.std.proofs.Common.{◌≡◌, ℕ, inl, inr, List, [], Some, Result, Ok, Err}
use Rattle.std.proofs.Common.{length}
use Rattle.std.proofs.Common.{refl, sym, subst, arith}
use Rattle.std.specs.Prelude.{IfOk, OnOk}
use Rattle.std.specs.List.{Contains, slice_get}
use Rattle.std.proofs.lemmas.List.{append-nil}
use Rattle.std.proofs.lemmas.Option.{slice_get_within}
use Rattle.ps_diagram.specs.Table.{Table}
use Rattle.ps_product.specs.Products.{ProductVertex}
use Rattle.ps_product.specs.declared.edges.Edge as product
use Rattle.ps_product.specs.declared.truth.Truth.{Truth}
use Rattle.ps_tableau.specs.declared.edge.Edge.{Edge}
use Rattle.ps_tableau_product.specs.Inner.Exploring.{AddsCover, Appends, AreProper, DraftData}
use Rattle.ps_tableau_product.specs.Inner.Rows.{VerticesGrow, covers_at}
use Rattle.ps_tableau_product.specs.Inner.States.{IsNumberOfSet}
use Rattle.ps_tableau_product.specs.Inner.Views.{AreEdgesAt, AreServed, AreViews}
use Rattle.ps_tableau_product.specs.Plans.{Scene}
use Rattle.ps_tableau_product.specs.declared.graph.Passage.{Passage}
use Rattle.ps_tableau_product.proofs.FairProducts.DraftLemmas.{proper_now}
use Rattle.ps_tableau_product.proofs.FairProducts.Drafts.{adds_none}
use Rattle.ps_tableau_product.proofs.FairProducts.RowLemmas.{at_right}
use Rattle.ps_tableau_product.proofs.FairProducts.StepLemmas.{each_more, lead_more, none_served}

pub on_ok : {X E A B : Type 0} (r : Result X E) → OnOk r A → (A → B) → OnOk r B
on_ok (Ok x) h f = f h
on_ok (Err e) h f = tt

pub on_any : {X E A : Type 0} (r : Result X E) → A → OnOk r A
on_any (Ok x) a = a
on_any (Err e) a = tt

pub on_ok_two : {X E A B C : Type 0} (r : Result X E) → OnOk r A → OnOk r B → (A → B → C) → OnOk r C
on_ok_two (Ok x) a b f = f a b
on_ok_two (Err e) a b f = tt

pub ok_two : {X E : Type 0} (P Q R : X → Type 0) (r : Result X E) → IfOk r P → IfOk r Q →
    ((x : X) → P x → Q x → R x) → IfOk r R
ok_two P Q R (Ok x) p q f = f x p q
ok_two P Q R (Err e) p q f = tt

module _ {s : Scene} {old : DraftData} {vertex : ℕ} {v : ProductVertex} {t : Table} {nodes : List ℕ}
    {nexts : List Truth} {classes : ℕ} {cover : Edge} {found : List (ℕ × ℕ)} (are : AreProper s old)
    (there : slice_get old.vertices vertex ≡ Some v) (views : AreViews s v.latches t nodes nexts classes)
    (served : AreServed t nodes nexts old.states.board.guards cover.guard found)
    (known : Contains (covers_at old.states v) cover) where
  pub adds_nothing : (row : List Passage) → length found ≡ 0 → AddsCover s old old vertex cover row row
  adds_nothing row none = record {
    adds = adds_none row are;
    at = v;
    there = there;
    more = [];
    made_is = sym (append-nil row);
    lead = λ k x at. absurd (omega (arith, slice_get_within [] k x at));
    whole = none_served old.states old.states v views served known refl refl none;
  }

  pub adds_cover : (new : DraftData) {state : ℕ} {edges : List product.Edge} {row made : List Passage} →
      IsNumberOfSet old.states cover.next new.states state → AreEdgesAt t nexts found state edges →
      Appends old.vertices new.vertices edges cover row made → new.rows ≡ old.rows →
      AddsCover s old new vertex cover row made
  adds_cover new {state} {edges} {row} {made} number at_edges appends rows =
      let lead = lead_more old.states new.states v views served known number.board number.edges number.there at_edges
      appends in
      let grow : VerticesGrow old.vertices new.vertices appends.more = record {
        grown = appends.grown;
        from = appends.from;
      } in
      record {
        adds = record {
          are_fit = record {
            states = number.states;
            each = proper_now new are number.sets grow lead;
          };
          board = number.board;
          edges = number.edges;
          sets = number.sets;
          rows = rows;
          vertices = record {
            grown = appends.grown;
            from = λ i w at. elim (appends.from i w at) [
              | inl before ↦ inl before
              | inr led ↦
                  let r = at_right row appends.more led.0 led.1 led.2 in
                  inr (
                    r.0,
                    led.1,
                    subst (λ (l : List Passage). slice_get l r.0 ≡ Some led.1) (sym appends.made_is) r.1,
                    led.3,
                  )
            ];
          };
        };
        at = v;
        there = there;
        more = appends.more;
        made_is = appends.made_is;
        lead = lead;
        whole = each_more old.states new.states v views served known number.board number.edges number.there at_edges
            appends;
      }
