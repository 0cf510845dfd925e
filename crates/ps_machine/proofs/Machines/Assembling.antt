-- A machine is assembled from its diagrams, its propositions, and the vertices that its memory states stand for.
use Rattle.std.proofs.Common.{◌≡◌, ℕ, ◌+◌, Bool, true, false, List, [], ◌∷◌, ◌++◌, map, Vec, refl, ap₂, rules}
use Rattle.std.specs.Prelude.{slice_index, vec_len}
use Rattle.std.specs.Global.{Global}
use Rattle.std.specs.List.{All, AllZip}
use Rattle.std.proofs.Math.Bool.{beq}
use Rattle.std.proofs.lemmas.Bool.{cases_eq}
use Rattle.std.proofs.lemmas.List.{get_or_push, get_or_append_left, length_push}
use Rattle.ps_certificate.specs.Certificates.{CertificateData}
use Rattle.ps_diagram.specs.Table.{Table, Keeps}
use Rattle.ps_diagram.proofs.NodeTables.Cells.{true_is_not_false}
use Rattle.ps_hoa.specs.Memory.{bytes_of}
use Rattle.ps_machine.specs.Inner.Assembling.{AreDrawn}
use Rattle.ps_machine.specs.Boards.{Board}
use Rattle.ps_machine.specs.Inner.Drawing.{IsDrawn, IsRow, KeepsRows}
use Rattle.ps_machine.specs.Extracting.{is_others}
use Rattle.ps_machine.specs.declared.key.Key.{Key}
use Rattle.ps_machine.specs.declared.machine.Row.{Row}
use Rattle.ps_machine.proofs.Machines.Diagrams.DrawingLemmas.{drawn_kept}

-- ## Names

same_items : (xs ys : List ℕ) → AllZip (λ x y. y ≡ x) xs ys → ys ≡ xs
same_items [] [] zip = refl
same_items [] (y ∷ ys) zip = absurd zip
same_items (x ∷ xs) [] zip = absurd zip
same_items (x ∷ xs) (y ∷ ys) zip = ap₂ (λ (n : ℕ) (ns : List ℕ). n ∷ ns) zip.0 (same_items xs ys zip.1)

pub same_names : (xs ys : List (Vec ℕ Global)) → AllZip (λ v w. AllZip (λ x y. y ≡ x) v.items w.items ×
    (vec_len w ≡ vec_len v)) xs ys → map bytes_of ys ≡ map bytes_of xs
same_names [] [] zip = refl
same_names [] (y ∷ ys) zip = absurd zip
same_names (x ∷ xs) [] zip = absurd zip
same_names (x ∷ xs) (y ∷ ys) zip = search (rules, same_items, same_names xs ys zip.1)

-- ## Propositions

-- a proposition of the machine's player is not one of the other player's propositions
pub plays_own : (m : Bool) (board : Board) (p : ℕ) (b : Bool) → b ≡ board.is_first p → beq b m ≡ true →
    is_others m board p ≡ false
plays_own m board p b h k = search (rules, true_is_not_false)

pub reads_others : (m : Bool) (board : Board) (p : ℕ) (b : Bool) → b ≡ board.is_first p → beq b m ≡ false →
    is_others m board p ≡ true
reads_others m board p b h k = search (rules, true_is_not_false)

-- ## Diagrams

pub drawn_more : {is_first : Bool} {board : Board} {keys : List Key} {kept : List ℕ} {certificate : CertificateData}
    {t u : Table} {old new : List Row} {nodes more : List ℕ} {i v node : ℕ} → Keeps t u → KeepsRows old new →
    All (IsRow is_first board kept) new →
    IsDrawn is_first board keys kept certificate u new v node → v ≡ slice_index kept i → more ≡ nodes ++ node ∷ [] →
    AreDrawn is_first board keys kept certificate t old nodes i →
    AreDrawn is_first board keys kept certificate u new more (i + 1)
drawn_more {is_first} {board} {keys} {kept} {certificate} {u} {new} {nodes} {more} {i} {node} keeps rows all here
    at e d = search (rules, length_push, cases_eq, drawn_kept, get_or_push, get_or_append_left)
