-- The machine that the code builds is the machine of the certificate.
use Rattle.std.proofs.Common.{◌≡◌, ℕ, ◌<◌, ◌≤◌, Bool, List, length, map, subst, rules}
use Rattle.std.specs.Prelude.{◌==◌}
use Rattle.ps_automaton.specs.Automata.{AutomatonData}
use Rattle.ps_certificate.specs.Certificates.{CertificateData, Fits, IsValid}
use Rattle.ps_game.specs.Games.{ParityGame, vertex_count}
use Rattle.ps_hoa.specs.Memory.{bytes_of}
use Rattle.ps_hoa.specs.Sound.{AreNames}
use Rattle.ps_machine.specs.Inner.Assembling.{AreDrawn, HasRoles, IsAssembled}
use Rattle.ps_machine.specs.Inner.Stored.{machine_of}
use Rattle.ps_machine.specs.Boards.{Board, IsGameOf}
use Rattle.ps_machine.specs.BuiltBoards.{board_of}
use Rattle.ps_machine.specs.Inner.Drawing.{AreMemories, AreUsed, IsPlan}
use Rattle.ps_machine.specs.Extracting.{HasPropositions, IsMachineOf}
use Rattle.ps_solver.specs.Solving.{winner_at_start}
use Rattle.ps_machine.specs.Keys.{mover_of}
use Rattle.ps_machine.specs.Machines.{MachineData, IsWholeMachine, behaviour}
use Rattle.ps_machine.specs.declared.key.Key.{Key}
use Rattle.ps_machine.specs.declared.key.Order.{Order}
use Rattle.ps_machine.specs.declared.machine.MachineParts.{MachineParts}
use Rattle.ps_machine.specs.declared.machine.Propositions.{Propositions}
use Rattle.ps_machine.proofs.Machines.UsedVertices.{used_first}
use Rattle.ps_machine.proofs.Machines.KeptMemories.{all_kept, each_kept, some_kept}
use Rattle.ps_machine.proofs.Machines.MachineLemmas.{is_machine, is_step}
use Rattle.std.proofs.lemmas.Option.{slice_get_within}

pub some_vertices : {board : Board} {mover : ℕ} {keys : List Key} {game : ParityGame} → IsGameOf board mover keys game →
    0 < vertex_count game
some_vertices {keys} is = search (rules, slice_get_within)

-- the game, the certificate and the memory states from which a machine is built fit together (`IsPlan`) before any
-- diagram is made
unfoldable pub plan_is : {order : Order} {a : AutomatonData} {keys seen listed : List Key}
    {game shown played : ParityGame} {certificate : CertificateData} {first : Bool} {found kept anchors : List ℕ} →
    IsGameOf (board_of order a) (mover_of order) keys game → Fits game certificate → IsValid game certificate →
    first ≡ (mover_of order == winner_at_start certificate) → played ≡ game → AreUsed played certificate found →
    listed ≡ keys → AreMemories first listed found kept anchors → shown ≡ game → seen ≡ keys →
    IsPlan order a seen shown certificate first kept anchors
plan_is {order} {a} {keys} {game = game} {certificate} {first} {found} {kept} {anchors} is fits valid turn same are_used
    these memories shown_is seen_is =
    let plan : IsPlan order a keys game certificate first kept anchors = record {
      is_game = is;
      fits = fits;
      valid = valid;
      turn = turn;
      used = found;
      are_used = subst (λ g. AreUsed g certificate found) same are_used;
      memories = subst (λ ks. AreMemories first ks found kept anchors) these memories;
    } in
    rw (shown_is, seen_is) plan

module _ {order : Order} {a : AutomatonData} {keys : List Key} {game : ParityGame} {certificate : CertificateData}
    {first : Bool} {kept anchors : List ℕ} (plan : IsPlan order a keys game certificate first kept anchors)
    {player : ℕ} (own : player ≡ winner_at_start certificate) where
  some : 0 < length kept
  some =
      let zero = used_first game certificate (some_vertices plan.is_game) in
      some_kept plan.memories 0 a.start plan.is_game.by_keys.begins ((plan.are_used 0).1 zero)

  -- the claim about the code: the machine that it builds is a finite machine, and is the machine of the certificate
  pub record IsMade (n : MachineData) : Type 0 where
    pub is_machine : IsWholeMachine n
    pub has : HasPropositions a.names (board_of order a) (behaviour n)
    pub of : IsMachineOf (board_of order a) (mover_of order) keys game certificate (behaviour n)

  pub made : (p : Propositions) (d : MachineParts) {n : MachineData} → length a.names ≤ 64 → AreNames a.names →
      map bytes_of p.names.items ≡ a.names → HasRoles first (board_of order a) p.inputs.items p.outputs.items →
      d.store.propositions ≡ length a.names → AreDrawn first (board_of order a) keys kept certificate d.store
      d.rows.keys d.nodes.items (length kept) → n ≡ machine_of player first p d → IsMade n
  made p d few sound names roles letters drawn is =
      rw is (search (rules, is_machine, assembled, all_kept, each_kept, is_step))
    where
      assembled : IsAssembled (board_of order a) keys kept certificate (machine_of player first p d)
      assembled = search (rules, some_vertices, some)
