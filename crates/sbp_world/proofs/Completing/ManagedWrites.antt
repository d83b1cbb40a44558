-- The response that the management operation writes goes into the response buffer of a place: so it is answered complete whenever it is got, and refused never.
use Rattle.sbp_world.proofs.Words.Std.{arith, ◌≡◌, ◌∙◌, refl, sym, ap, ◌<◌, ◌≤◌, ℕ, List, [], length, Some, same_Some}
use Rattle.sbp_world.proofs.Words.Wire.{Access, Moment, SerialsCount, terms}
use Rattle.sbp_world.proofs.Words.Target.{Disk, Operation}
use Rattle.sbp_world.proofs.Words.Initiator.{new_memory, start_of}
use Rattle.sbp_world.proofs.Words.Laws.{access_at, host_reply, target_at}
use Rattle.sbp_world.proofs.Words.World.{AreAsked, last_read, write_access}
use Rattle.bus_memory.proofs.Found.{window_here}
use Rattle.bus_memory.specs.declared.window.Window.TheVariants as windows
use Rattle.mgmt_agent.specs.declared.operation.Phase.TheVariants as phases
use Rattle.sbp_world.proofs.Completing.AnswersMemory.{inside_complete}
use Rattle.sbp_world.proofs.Completing.ManagedOrbs.{IsReach, to_none, to_place}
use Rattle.sbp_world.proofs.Lists.AnswersCarriedWrites.{low_fifo}
use Rattle.sbp_world.proofs.Lists.ResponsePackets.{response_long, response_packet}

module _ (start : List Disk) (past : List Moment) (counts : SerialsCount past) (are : AreAsked start past) (op : Operation) (fifo r : ℕ) (operation : (target_at start past).manager.operation ≡ Some op) (phase : op.phase ≡ phases.Response fifo) (manages : (target_at start past).manages ≡ Some r) where
  abbrev out : List ℕ
  out = (target_at start past).manager.outgoing

  -- a write into a response buffer
  pub record IsBufferWrite (access : Access) : Type 0 where
    pub place : ℕ
    pub small : place < 2
    pub is : access ≡ write_access (start_of (windows.Response place)) out
    pub some : 0 < length out
    pub few : length out ≤ 0x100

  by_reach : IsReach (last_read start past) → (access : Access) → access_at (terms past) r ≡ Some access → IsBufferWrite access
  by_reach (to_none none) access e = let long = response_long start past counts are op fifo r operation phase manages in let a = long.0 in let b = long.1 in absurd (omega (arith, a, b, none))
  by_reach (to_place place small second few) access e =
      let long = response_long start past counts are op fifo r operation phase manages in
      let a = long.1 in
      let there : access_at (terms past) r ≡ Some (write_access (last_read start past).second out) = response_packet start past counts are op fifo r operation phase manages (last_read start past) refl in
      record {
        place = place;
        small = small;
        is = same_Some access (write_access (start_of (windows.Response place)) out) (sym e ∙ (there ∙ ap (λ x. Some (write_access x out)) second));
        some = long.0;
        few = omega (arith, a, few);
      }

  pub buffer_write : IsReach (last_read start past) → (access : Access) → access_at (terms past) r ≡ Some access → IsBufferWrite access
  buffer_write reach access e = by_reach reach access e

-- such a write is complete
pub buffer_complete : (before : List Moment) (i place : ℕ) → place < 2 → (out : List ℕ) → 0 < length out → length out ≤ 0x100 → (host_reply before i (write_access (start_of (windows.Response place)) out)).rcode ≡ 0
buffer_complete before i place small out some few =
    inside_complete before i (write_access (start_of (windows.Response place)) out) (windows.Response place)
    (record {
      found = window_here (new_memory []) (start_of (windows.Response place)) (windows.Response place) small (omega arith) (omega arith);
      lock = refl;
      some = some;
      fifo = low_fifo (start_of (windows.Response place)) (omega (arith, small));
      opened = refl;
      room = omega (arith, few);
      way = refl;
    })
