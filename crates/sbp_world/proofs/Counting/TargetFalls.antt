-- With a delivery to the target what is left falls by one.
use Rattle.sbp_world.proofs.Words.Std.{arith, ◌≡◌, ◌∙◌, refl, sym, ap, subst, ℕ, suc, ◌+◌, ◌<◌, ◌≤◌, ◌||◌, not, Bool, true, false, cond, List, ◌∷◌, ◌++◌, length, Option, Some, None}
use Rattle.sbp_world.proofs.Words.Wire.{Judged, Moment, Sent, found_sent, header_in, judged_note, judging_step, said}
use Rattle.sbp_world.proofs.Words.Target.{Told, Whole, Login, TargetScene, alone, answer_in, received, served_login, login_at}
use Rattle.sbp_world.proofs.Words.Laws.{command_at, ends, lists}
use Rattle.sbp_world.proofs.Words.World.{AreOthers, MayTell, Scene, WorldState, handed_out, has_list, holder, initiator_in, is_open_at, IsCalm, machine_at, marked, whole_of, with_note, with_target}
use Rattle.command_agent.specs.Machine as machines
use Rattle.command_agent.specs.declared.step.Which.TheVariants.{Main}
use Rattle.command_agent.specs.Making.{Brings}
use Rattle.sbp_target.specs.RequestsLeft.{BringsIn, DeliveriesAreCounted, found_due, node_left, works}
use Rattle.sbp_target.specs.Requests.{requests}
use Rattle.target_base.specs.Logins.{if_served}
use Rattle.sbp_world.specs.Counting.Brings.{AreFew}
use Rattle.sbp_world.specs.Counting.Rooms.{chunks_in, chunks_of, elements_of, of_list, present_command, rooms, tables_of}
use Rattle.sbp_world.specs.Delivering.{faults_after}
use Rattle.sbp_world.specs.Lists.OwnLogins.{IsTame}
use Rattle.sbp_world.proofs.Agents.Management.Still.{hist}
use Rattle.sbp_world.proofs.Wire.Nodes.{handed_alike}
use Rattle.sbp_world.proofs.Counting.Places.{IsPlace}
use Rattle.sbp_world.proofs.Counting.Worked.{AreWorking, are_working}
use Rattle.sbp_world.proofs.Counting.TargetSums.{chunks, command_in, fresh_is, is_up, tables, together, worked_is}
use Rattle.sbp_world.proofs.Counting.NewTurns.{turn_up}
use Rattle.sbp_world.proofs.Counting.PresentTurns.{present_comes, present_stays}
use Rattle.sbp_world.proofs.Counting.RoomTurns.{rooms_fall}
use Rattle.sbp_world.proofs.Counting.Turns.{IsGround, call_goes}
use Rattle.sbp_world.proofs.Lists.BusyDeliveries.{waits_has}
use Rattle.sbp_world.proofs.Lists.Full.{IsFull, full_closed}
use Rattle.sbp_world.proofs.Lists.Extends.{handed_extends}
use Rattle.sbp_world.proofs.Lists.OpenWorlds.{GoesOn, hist_on}
use Rattle.sbp_world.proofs.Lists.PlaceOwners.{IsSeatedWell, Owns}
use Rattle.sbp_world.proofs.Lists.TurnCalls.{IsCalled}
use Rattle.sbp_world.proofs.Lists.TurnWalk.{delivery_is_called}
use Rattle.login_table.proofs.Searching.{within}

-- ---- a login that is served has a place

served_is : (units : ℕ) (at : Option Login) (login : Login) → if_served units at ≡ Some login → (k : Login) × (at ≡ Some k)
served_is units None login e = absurd (let no : None ≡ Some login = e in cc)
served_is units (Some k) login e = (k, refl)

-- ---- what is known of the place before the packet
-- where a list is open it is the latest one
pub record IsListed (past : List Moment) (w : WorldState) (place : ℕ) : Type 0 where
  pub n : ℕ
  pub list : (holder w place).list ≡ Some n
  pub latest : suc n ≡ lists past (initiator_in w place)

pub record IsBefore (past : List Moment) (w : WorldState) : Type 0 where
  pub working : AreWorking past w
  pub listed : (place : ℕ) → place < 8 → is_open_at w place ≡ true → IsCalm past (initiator_in w place) → IsListed past w place
  pub few : AreFew past w

-- ---- a packet that the target gets
module _ (counted : DeliveriesAreCounted) (past : List Moment) (s : Scene) (f : IsSeatedWell s.world) (serial : ℕ) (sent : Sent) (found : found_sent serial s.world.store.kept ≡ Some sent) (zero_to : sent.to ≡ 0) (run : Option Told) (may : MayTell run sent s.world.target s.media) (others : AreOthers (received run sent.generation sent.bytes (whole_of s.world.target s.media)).1.outbox.sides) where
  abbrev w : WorldState
  w = s.world

  abbrev got : Judged × Whole
  got = received run sent.generation sent.bytes (whole_of w.target s.media)

  abbrev u : WorldState
  u = with_note (judged_note serial got.0) (marked serial false (with_target got.1.node w))

  -- the world behind it
  abbrev pub behind : WorldState
  behind = handed_out 0 0 got.1.outbox u

  abbrev before : List Moment
  before = hist past w

  abbrev now : List Moment
  now = hist past behind

  c : IsCalled past w behind
  c = delivery_is_called (λ i. true) past w f serial sent found zero_to run s false others

  -- how it judged the packet stands directly behind what was before
  pub first_on : GoesOn (said (judged_note serial got.0) ∷ before) now
  unfolding c delivery_is_called
  first_on =
      let on = hist_on past c.u behind (handed_extends 0 0 got.1.outbox c.u) in
      record { more = on.more; is = ap (λ ms. on.more ++ ms) (sym c.fresh) ∙ on.is }

  module _ (tame : IsTame before) (tame_now : IsTame now) (p : IsBefore before w) (q : IsPlace now behind) (owns : Owns w behind) (agents : (place : ℕ) → place < 8 → machines.IsSound (machine_at w place)) where
    ground : IsGround before now w behind
    ground = record {
      calm = tame;
      calm_now = tame_now;
      working = p.working;
      working_now = are_working now behind q.lists q.along q.within;
      latest_now = q.latest;
      apart_now = q.apart;
      order = q.order;
      owns = owns;
    }

    abbrev t : TargetScene
    t = alone c.call w.target

    -- the list of an agent that waits for a reply is the one that it has behind the call, where it is up
    present_same : (place : ℕ) → place < 8 → has_list (machine_at w place).phase ≡ true → is_up behind place ≡ true → present_command before behind place ≡ present_command before w place
    present_same place b listed up =
        let i = initiator_in behind place in
        let own : i ≡ initiator_in w place = ground.owns place b up in
        let o = p.listed place b listed (tame (initiator_in w place)) in
        let latest : suc o.n ≡ lists now i = o.latest ∙ (ap (lists before) (sym own) ∙ sym ((call_goes past w behind ground c).lists_are i)) in
        let list = ground.latest_now i place o.n (tame_now i) b (record { up = up; own = refl }) latest in
        ap (λ l. of_list l (λ n. command_at before i n (ends before i n))) list
        ∙ ap (λ j. command_at before j o.n (ends before j o.n)) own
        ∙ ap (λ l. of_list l (λ n. command_at before (initiator_in w place) n (ends before (initiator_in w place) n))) (sym o.list)

    command_is : (place : ℕ) → place < 8 → has_list (machine_at w place).phase ≡ true → command_in before w behind place ≡ present_command before w place
    command_is place b listed = by (works w.target place) refl (is_up behind place) refl
      where
        by : (x : Bool) → works w.target place ≡ x → (y : Bool) → is_up behind place ≡ y → command_in before w behind place ≡ present_command before w place
        by true e y g = worked_is before w behind place e
        by false e true g = fresh_is before w behind place e g ∙ present_same place b listed g
        by false e false g = ap (λ x. cond (works w.target place || not x) (present_command before w place) (present_command before behind place)) g ∙ over (works w.target place)
          where
            over : (x : Bool) → cond (x || true) (present_command before w place) (present_command before behind place) ≡ present_command before w place
            over true = refl
            over false = refl

    small : (place : ℕ) (login : Login) → served_login w.target place ≡ Some login → place < 8
    small place login e =
        let k = served_is (length w.target.units) (login_at w.target place) login e in
        let size = f.good.table.sound.size in
        let here = within w.target.logins.places place k.0 k.1 in
        omega (arith, size, here)

    brings : BringsIn (tables before w behind) (chunks before w behind) (judging_step w.target.layer sent.generation sent.bytes).0 w.target
    brings packet label place login e served which =
        let b = small place login served in
        let listed = waits_has w f.good ⊥ (λ r m. IsFull m) full_closed place b (header_in packet).source label Main which in
        let one = p.few sent packet place (record { comes = record { serial = serial; found = found; to = zero_to }; label = label; found = e; main = which; small = b }) (tame (initiator_in w place)) in
        subst (λ command. Brings (elements_of command) (chunks_of command) (machine_at w place) (answer_in packet)) (sym (command_is place b listed)) one

    target_is : got.1.node ≡ behind.target
    unfolding c delivery_is_called
    target_is = sym ((handed_alike 0 0 got.1.outbox u).target ∙ c.target)

    -- the requests that it sends are fewer than those that it leaves no more
    pub nodes_fall : requests got.1.outbox.packets + (node_left (tables_of now behind) (chunks_in now behind) behind.target + rooms now behind now) ≤ node_left (tables_of before w) (chunks_in before w) w.target + rooms before w before + found_due (length w.target.rom) (judging_step w.target.layer sent.generation sent.bytes).0
    unfolding MayTell c delivery_is_called
    nodes_fall =
        let law = counted (tables before w behind) (chunks before w behind) run s.media.disks sent.generation sent.bytes w.target s.media.faults (faults_after run sent w.target s.media)
        (record { desks = f.good.mid.size; agents = agents; tells = may; brings = brings }) in
        together before w behind t target_is (turn_up past w behind ground c) now (found_due (length w.target.rom) (judging_step w.target.layer sent.generation sent.bytes).0)
        (record { stays = present_stays past w behind ground c; comes = present_comes past w behind ground c }) law.sent (rooms_fall past w behind ground c)
