-- A list whose ORB_POINTER write the target takes was open at an agent from then on: the write names an ORB of it as it is got, and came from its initiator.
use Rattle.sbp_world.proofs.Words.Std.{arith, ◌≡◌, ◌∙◌, refl, sym, ap, ◌<◌, ℕ, nat_lt, Bool, true, cond, List, [], length, None, nat_tests}
use Rattle.sbp_world.proofs.Words.Wire.{as_sending, Moment}
use Rattle.sbp_world.proofs.Words.Target.{point_step, Disk, orb_of}
use Rattle.sbp_world.proofs.Words.Initiator.{slot_of, last_at}
use Rattle.sbp_world.proofs.Words.Laws.{list_in, named_in}
use Rattle.sbp_world.proofs.Words.World.{ticket_at, WorldState, initiator_at, AreHeldAt, AreRows, initiator_in, machine_at}
use Rattle.sbp_bus.specs.Telling as bus
use Rattle.target_base.specs.declared.address.Access.TheVariants as accesses
use Rattle.sbp_world.proofs.Agents.Management.Holding.{Holding, was_sent}
use Rattle.sbp_world.proofs.Agents.Management.Still.{hist}
use Rattle.sbp_world.proofs.Lists.OpenOwners.{came_from}
use Rattle.sbp_world.proofs.Lists.OpenWorlds.{named_list, taken}
use Rattle.sbp_world.proofs.Lists.Takings.{AllTake}

module _ (units logins : ℕ) (start : List Disk) {past : List Moment} {lines : ℕ} (w : WorldState) (h : Holding units logins start past lines w) (held : AreHeldAt start (hist past w) w) (rows : (i : ℕ) → i < length w.initiators → AreRows (hist past w) i (initiator_at w i).lists.slots) where
  -- the list of an ORB that is pointed to
  list_is : (place orb : ℕ) → initiator_in w place < length w.initiators → bus.list_in (ticket_at w place orb) ≡ list_in (named_in (hist past w) (initiator_in w place) (slot_of orb))
  list_is place orb l =
      let i = initiator_in w place in
      let b : nat_lt i (length w.initiators) ≡ true = grind (arith, nat_tests) in
      ap (λ (c : Bool). bus.list_in (cond c (last_at (initiator_at w i).lists orb) None)) b ∙ named_list (hist past w) i (initiator_at w i).lists (rows i l) orb

  pub all_take : (wild : ℕ → Bool) → AllTake wild past w
  all_take wild serial sent found zero_to packet judged bar place pointer ask demand took own n list =
      let orb = orb_of (point_step (machine_at w place) pointer).1 in
      let c = came_from units logins start w h held serial sent found packet place (accesses.Point pointer) judged bar demand in
      record {
        place = place;
        opened = record {
          later = [];
          earlier = hist past w;
          serial = serial;
          is = refl;
          sent = as_sending sent;
          sent_is = was_sent w h.sound.stands serial sent found;
          address = orb;
          pointed = record {
            from_is = c.from_is;
            to_is = zero_to;
            packet = packet;
            read = c.read;
            rom = length w.target.rom;
            pointer = pointer;
            asks = demand;
            address_is = (taken (machine_at w place) pointer ask took).at;
          };
          list_is = sym list ∙ list_is place orb c.inside;
        };
      }
