-- What one management operation of an initiator being in hand says of the target of a world.
use Rattle.sbp_world.proofs.Words.Std.{arith, ◌≡◌, ◌∙◌, refl, sym, ap, ℕ, suc, ◌<◌, Bool, true, false, List, length, Option, Some, None}
use Rattle.sbp_world.proofs.Words.Wire.{Moment}
use Rattle.sbp_world.proofs.Words.Target.{Managed, Disk}
use Rattle.sbp_world.proofs.Words.Initiator.{start_of, Running, Seat, is_stuck_seat}
use Rattle.sbp_world.proofs.Words.Laws.{Underway, host_at, is_management, is_stuck}
use Rattle.sbp_world.proofs.Words.World.{Core, operation_by, session_in, work_in, work_of, WorldState, initiator_at, is_written, HasGivenUp, IsHandling, IsManaged, IsTold}
use Rattle.bus_memory.specs.declared.window.Window.TheVariants as windows
use Rattle.sbp_world.proofs.Hosts.Hosted.{Cored}
use Rattle.mgmt_agent.specs.Machine.{Machine}
use Rattle.sbp_session.specs.declared.seat.Seat.TheVariants as seats
use Rattle.sbp_world.proofs.Agents.Management.Holding.{Holding, known_id}
use Rattle.sbp_world.proofs.Agents.Management.Still.{hist}
use Rattle.sbp_world.proofs.Sessions.Turns.{wire_generation}
use Rattle.sbp_world.proofs.Lists.LiveOwn.{in_hand}
use Rattle.sbp_world.proofs.Lists.LiveSteps.{GaveUpOf, id_in, own_of, zero_of}
use Rattle.sbp_world.proofs.Lists.LiveTaken.{IsOwnHandled, handled, handled_silent}

-- ---- who has given up by the history has by the state
session_stuck : (seat : Seat) → is_stuck (session_in seat) ≡ true → is_stuck_seat seat ≡ true
session_stuck (seats.Stuck origin) e = refl
session_stuck (seats.Out out) e = absurd (let no : false ≡ true = e in cc)
session_stuck (seats.Held response) e = absurd (let no : false ≡ true = e in cc)
session_stuck (seats.Entering entering) e = absurd (let no : false ≡ true = e in cc)
session_stuck (seats.Live live) e = absurd (let no : false ≡ true = e in cc)
session_stuck (seats.Returning response) e = absurd (let no : false ≡ true = e in cc)
session_stuck (seats.Leaving response) e = absurd (let no : false ≡ true = e in cc)

none_in_hand : (now : Option Underway) (operation : Option Running) → operation_by (work_of now) ≡ operation_by (work_in operation) → ((underway : Underway) → now ≡ Some underway → is_management underway.operation ≡ false) → in_hand operation ≡ false
none_in_hand now None e none = refl
none_in_hand None (Some running) e none = absurd (let no : None ≡ Some running.operation = e in cc)
none_in_hand (Some underway) (Some running) e none =
    let same : underway.operation ≡ running.operation = (let both : Some underway.operation ≡ Some running.operation = e in cc) in
    ap is_management (sym same) ∙ none underway refl

pub gave_up : (ready : Bool) (past : List Moment) (w : WorldState) (i : ℕ) → Cored ready past i (initiator_at w i) → HasGivenUp past i → GaveUpOf w i
gave_up ready past w i c g = record {
  stuck = session_stuck (initiator_at w i).seat (sym (ap (λ (x : Core). is_stuck x.session) c.core) ∙ g.stuck);
  none = none_in_hand (host_at past i).operation (initiator_at w i).operation (ap (λ (x : Core). operation_by x.work) c.core) g.none;
}

-- ---- the target's operation
module _ (units ready : ℕ) (start : List Disk) {past : List Moment} {lines : ℕ} (w : WorldState) (h : Holding units ready start past lines w) (i : ℕ) (inside : i < length w.initiators) (together : zero_of w ≡ own_of w i) where
  module _ (op : Managed) (operation : w.target.manager.operation ≡ Some op) (source : op.source ≡ id_in w i) (place : ℕ) (small : place < 2) (orb : op.orb ≡ start_of (windows.Management place)) where
    pub handling : IsHandling start (hist past w) i place op
    handling = record {
      same = wire_generation w h.sound.stands 0 (omega arith) ∙ together ∙ sym (wire_generation w h.sound.stands (suc i) (omega arith));
      is = ap (λ (m : Machine). m.operation) h.at.agrees.manager ∙ operation;
      source = source ∙ sym (known_id w h.sound.stands (suc i) (omega arith));
      small = small;
      orb = orb;
    }

    module _ (m : IsManaged start (hist past w) i) (is_ready : Bool) (c : Cored is_ready (hist past w) i (initiator_at w i)) (up : GaveUpOf w i → ⊥) (unwritten : is_written op.phase ≡ false) where
      pub own_handled : IsOwnHandled start (hist past w) i place
      own_handled = handled start (hist past w) i m (λ g. up (gave_up is_ready (hist past w) w i c g)) place op handling unwritten

      pub own_silent : (address : ℕ) (bytes : List ℕ) → IsTold start (hist past w) i address bytes → ⊥
      own_silent = handled_silent start (hist past w) i m (λ g. up (gave_up is_ready (hist past w) w i c g)) place op handling unwritten
