-- Whose list is open at each place, behind each turn of a world.
use Rattle.sbp_world.proofs.Words.Std.{arith, ◌≡◌, ◌∙◌, refl, sym, ap, subst, inl, inr, ◌⊎◌, ◌<◌, ◌||◌, not, ℕ, nat_eq, nat_lt, is_some, Bool, true, false, cond, List, [], ◌∷◌, ◌++◌, map, length, Option, Some, None, Result, Ok, Err, slice_index_or, nat_tests, false≢true}
use Rattle.sbp_world.proofs.Words.Wire.{Packet, reading, PacketFault, Finding, Layer, expiring_step, judging_step, of_again, of_generation, of_grammar, of_label, of_request, of_response, reply_kind, ReplyKind, access_of, Terms, terms, as_sending, Stale, Sent, found_sent, is_flying, deliver_step, Holder, Request, id_of, judged_note, no_packet, holder_at, or_nobody, place_in, Judged, OutboxState, empty_outbox, Moment, said}
use Rattle.sbp_world.proofs.Words.Target.{address_error, demand_of, Demand, answered, is_barred, serve, Disk, Told, AgentState, PointRefusal, Machine, named, state_in, point_in, point_step, alone, sees, ticks, Purpose, NodeState, TargetScene, scene, expired, expired_in, judged_scene, received, received_as, with_key, with_layer, Whole, orb_of}
use Rattle.sbp_world.proofs.Words.Initiator.{slot_of, Ask, OrbPointer, Null, At, ListState, last_at, last_in, slot_in, TicketParts, InitiatorState, new_state}
use Rattle.sbp_world.proofs.Words.Laws.{got_in, list_taken, listed_at, listed_by, write_in, access_at, access_in, answered_at, packet_in, receiver_in, spelled_by, Target, agent_at, term_initiator, is_serial, over, target_at, list_in, named_in, is_cut}
use Rattle.sbp_world.proofs.Words.World.{AreAgentsAt, AreOthers, marked, whole_of, handed_out, keyed, no_unit, see_line, target_sees, target_ticks, tick_line, told_seen, with_seen, refused, target_left, timed_out, holder, ticket_at, ticket_of, told_all, Scene, WorldState, initiator_at, with_note, with_target, AreHeldAt, AreRows, name_in, WasHad, WasOpened}
use Rattle.sbp_journal.specs.declared.cause.Cause.TheVariants as ignored
use Rattle.target_base.specs.declared.address.Access as base
use Rattle.target_base.specs.declared.address.Demand.TheVariants as demands
use Rattle.sbp_target.specs.Serving.{request_step}
use Rattle.sbp_target.proofs.Histories.Found.{IsFound, found as is_found}
use Rattle.sbp_world.proofs.Agents.CrewFirsts.{access_there, asks_part}
use Rattle.sbp_world.proofs.Agents.Management.Hearing.{answers_none}
use Rattle.sbp_world.proofs.Agents.Steps.{alike_law}
use Rattle.sbp_world.proofs.Hosts.Hands.{hand_law}
use Rattle.sbp_world.proofs.Lists.SendsLast.{handed_quiet, others_quiet}
use Rattle.sbp_world.proofs.Lists.TakenTerms.{answer_listed, got_taken, hands_taken, listed_for, refused_listed, response_access, taken_listed, write_listed}
use Rattle.bus_memory.proofs.Found.{slot_of_law}
use Rattle.command_agent.specs.declared.step.AgentState.TheVariants as states
use Rattle.sbp_bus.specs.Telling as bus
use Rattle.sbp_journal.specs.declared.cause.Judged.TheVariants as judgements
use Rattle.sbp_journal.specs.declared.note.Note.TheVariants as notes
use Rattle.target_base.specs.declared.address.Access.TheVariants as accesses
use Rattle.sbp_world.specs.Nodes as nodes
use Rattle.sbp_world.specs.Packets as packets
use Rattle.sbp_world.proofs.Wire.Nodes.{handed_alike}
use Rattle.sbp_target.proofs.Histories.Calling.{Good}
use Rattle.sbp_world.proofs.Agents.Management.Holding.{Holding, good_of, was_sent}
use Rattle.sbp_world.proofs.Agents.Management.Still.{hist}
use Rattle.sbp_world.proofs.Agents.Peers.{all_sent_places}
use Rattle.sbp_world.proofs.Hosts.Readings.{read_law}
use Rattle.sbp_world.proofs.Lists.Adds.{all_stay}
use Rattle.sbp_world.proofs.Lists.Extends.{Extends, handed_extends}
use Rattle.sbp_world.proofs.Lists.OpenCuts.{CutAt, Here, Listing, Open}
use Rattle.sbp_world.proofs.Lists.OpenDeliveries.{Points, delivery_open, lapse_open, takes_point}
use Rattle.sbp_world.proofs.Lists.Later.{had_later}
use Rattle.sbp_world.proofs.Lists.OpenHad.{Was, WasElse, WereAt, else_later, same_were, was_on}
use Rattle.sbp_world.proofs.Lists.OpenManages as manages
use Rattle.sbp_world.proofs.Lists.OpenOwners.{came_from, served_initiator}
use Rattle.sbp_world.proofs.Lists.OpenPlaces.{Has}
use Rattle.sbp_world.proofs.Lists.OpenTurns.{AreSeated, Before, begins, sound}
use Rattle.sbp_world.proofs.Lists.Pointers.{not_taken}
use Rattle.sbp_world.proofs.Common.{said_split, moments_joined as joined}

abbrev pub AllWere : List Moment → WorldState → Type 0
AllWere past w = WereAt (hist past w) w

-- the list of a place whose agent is out of RESET is the one named as its pointer was taken
abbrev pub AllTaken : List Disk → List Moment → WorldState → Type 0
AllTaken start past w = (p : ℕ) → p < 8 → Listing w.target p → list_taken start (hist past w) p ≡ (holder w p).list

pub same_taken : (start : List Disk) (past : List Moment) (w v : WorldState) → v.places ≡ w.places → ((p : ℕ) → Listing v.target p → Listing w.target p) → ((p : ℕ) → list_taken start (hist past v) p ≡ list_taken start (hist past w) p) → AllTaken start past w → AllTaken start past v
same_taken start past w v places less same o p b l = same p ∙ (o p b (less p l) ∙ ap (λ ps. (holder_at ps p).list) (sym places))

-- a history goes on with notes
pub record GoesOn (before now : List Moment) : Type 0 where
  pub more : List Moment
  pub is : more ++ before ≡ now

pub hist_on : (past : List Moment) (w v : WorldState) → Extends w.fresh v.fresh → GoesOn (hist past w) (hist past v)
hist_on past w v e = record { more = map said e.more; is = sym (said_split e.more w.fresh past) ∙ ap (λ ns. map said ns ++ past) e.is }

goes_then : (one two three : List Moment) → GoesOn one two → GoesOn two three → GoesOn one three
goes_then one two three a b = record { more = b.more ++ a.more; is = joined b.more a.more one ∙ ap (λ ms. b.more ++ ms) a.is ∙ b.is }

-- a packet that was judged cuts no list
judged_cuts : (serial : ℕ) (j : Judged) (ms : List Moment) (i n : ℕ) → is_cut (said (judged_note serial j) ∷ ms) i n ≡ is_cut ms i n
judged_cuts serial judgements.Got ms i n = refl
judged_cuts serial (judgements.Ignored cause) ms i n = refl

-- ---- the pointer that is taken
pub record IsTaken (m now : Machine) (pointer : OrbPointer) : Type 0 where
  pub at : named pointer ≡ Some (orb_of now)

taken_in : (state : AgentState) (m : Machine) (pointer : OrbPointer) (ask : Ask) → (point_in state m pointer).0 ≡ Ok ask → IsTaken m (point_in state m pointer).1 pointer
taken_in states.Reset m Null ask e = absurd (not_taken _ ask e)
taken_in states.Reset m (At next) ask e = record { at = refl }
taken_in states.Suspended m Null ask e = absurd (not_taken _ ask e)
taken_in states.Suspended m (At next) ask e = record { at = refl }
taken_in states.Active m pointer ask e = absurd (not_taken _ ask e)
taken_in states.Dead m pointer ask e = absurd (not_taken _ ask e)

pub taken : (m : Machine) (pointer : OrbPointer) (ask : Ask) → (point_step m pointer).0 ≡ Ok ask → IsTaken m (point_step m pointer).1 pointer
unfolding point_step
taken m pointer ask e = taken_in (state_in m.phase) m pointer ask e

-- so it reads the ORB that is named
present_in : (state : AgentState) (m : Machine) (pointer : OrbPointer) (ask : Ask) → (point_in state m pointer).0 ≡ Ok ask → named pointer ≡ Some (point_in state m pointer).1.present
present_in states.Reset m Null ask e = absurd (not_taken _ ask e)
present_in states.Reset m (At next) ask e = refl
present_in states.Suspended m Null ask e = absurd (not_taken _ ask e)
present_in states.Suspended m (At next) ask e = refl
present_in states.Active m pointer ask e = absurd (not_taken _ ask e)
present_in states.Dead m pointer ask e = absurd (not_taken _ ask e)

present_taken : (m : Machine) (pointer : OrbPointer) (ask : Ask) → (point_step m pointer).0 ≡ Ok ask → named pointer ≡ Some (point_step m pointer).1.present
unfolding point_step
present_taken m pointer ask e = present_in (state_in m.phase) m pointer ask e

-- ---- the ORB that an address names, by the run
name_list : (t : Option TicketParts) → bus.list_in t ≡ list_in (name_in t)
name_list None = refl
name_list (Some t) = refl

module _ (past : List Moment) (i : ℕ) (lists : ListState) (rows : AreRows past i lists.slots) where
  named_by : (slot : Option ℕ) → ((k : ℕ) → slot ≡ Some k → k < 32) → bus.list_in (last_in lists slot) ≡ list_in (named_in past i slot)
  named_by None small = refl
  named_by (Some k) small = name_list (slot_in lists.slots.slots k).last ∙ ap list_in (sym ((read_law past i lists.slots rows).named k (small k refl)))

  pub named_list : (address : ℕ) → bus.list_in (last_at lists address) ≡ list_in (named_in past i (slot_of address))
  named_list address = named_by (slot_of address) (λ k e. (slot_of_law.begins address k e).0)

-- ---- a world
module _ (units logins : ℕ) (has : 0 < units) (start : List Disk) {past : List Moment} {lines : ℕ} (w : WorldState) (h : Holding units logins start past lines w) (held : AreHeldAt start (hist past w) w) (rows : (i : ℕ) → i < length w.initiators → AreRows (hist past w) i (initiator_at w i).lists.slots) (were : AllWere past w) where
  abbrev g : Good w.target
  g = good_of units logins h.calls w.target has h.made

  abbrev seats : AreSeated w
  seats = λ p login e. let k = held.held p login e in record { holder_is = k.holder; there = k.there; id_is = k.login_is }

  -- what the target hands out behind what is told
  handed_holder : (u : WorldState) (outbox : OutboxState) (p : ℕ) (x : Holder) → Has (told_all 0 outbox.sides u).places p x → holder (handed_out 0 0 outbox u) p ≡ x
  handed_holder u outbox p x e = ap or_nobody (ap (λ ps. place_in ps p) (all_sent_places 0 outbox.packets (told_all 0 outbox.sides u)) ∙ e)

  handed_listing : (u : WorldState) (node : NodeState) (outbox : OutboxState) → u.target ≡ node → (p : ℕ) → Listing (handed_out 0 0 outbox u).target p → Listing node p
  handed_listing u node outbox e p l = subst (λ (n : NodeState). Listing n p) ((handed_alike 0 0 outbox u).target ∙ e) l

  handed_on : (u : WorldState) (outbox : OutboxState) → GoesOn (hist past u) (hist past (handed_out 0 0 outbox u))
  handed_on u outbox = hist_on past u (handed_out 0 0 outbox u) (handed_extends 0 0 outbox u)

  -- and it takes no pointer by it
  handed_taken : (u : WorldState) (outbox : OutboxState) → AreOthers outbox.sides → (p : ℕ) → list_taken start (hist past (handed_out 0 0 outbox u)) p ≡ list_taken start (hist past u) p
  handed_taken u outbox others p = hands_taken start p past (handed_quiet 0 0 outbox u (others_quiet outbox.sides others))

  -- packets that are sent cut no list
  sent_cuts : (u : WorldState) (outbox : OutboxState) (i n : ℕ) → is_cut (hist past (handed_out 0 0 outbox u)) i n ≡ is_cut (hist past (told_all 0 outbox.sides u)) i n
  sent_cuts u outbox i n = (all_stay (λ j. true) past 0 outbox.packets (told_all 0 outbox.sides u)).adds.cuts_are i n

  -- a list of a place was cut, which has none now
  record IsNew (node : NodeState) (i n : ℕ) : Type 0 where
    had : WasHad (hist past w) i n
    over : Listing node had.place → ⊥

  -- a turn that opens no list
  module _ (u : WorldState) (node : NodeState) (outbox : OutboxState) (e : u.target ≡ node) (on : GoesOn (hist past w) (hist past u)) (cuts : (i n : ℕ) → is_cut (hist past u) i n ≡ is_cut (hist past w) i n) (o : Open u (holder w) (Before w g seats) w.target.logins.places (sound w g seats) (scene node outbox)) where
    abbrev v : WorldState
    v = handed_out 0 0 outbox u

    whole : GoesOn (hist past w) (hist past v)
    whole = goes_then (hist past w) (hist past u) (hist past v) on (handed_on u outbox)

    new_of : (i n : ℕ) → CutAt u (holder w) (Before w g seats) w.target.logins.places (sound w g seats) node i n → IsNew node i n
    new_of i n c =
        let old = (were.each c.place c.small c.own.why).opened in
        record {
          had = record { place = c.place; opened = subst (λ list. WasOpened (hist past w) i c.place list) c.list_is (subst (λ j. WasOpened (hist past w) j c.place (holder w c.place).list) c.from_is old) };
          over = c.over;
        }

    cuts_now : (i n : ℕ) → is_cut (hist past v) i n ≡ true → (is_cut (hist past w) i n ≡ true) ⊎ IsNew node i n
    cuts_now i n x = by (o.cuts past i n (sym (sent_cuts u outbox i n) ∙ x))
      where
        by : (is_cut (hist past u) i n ≡ true) ⊎ CutAt u (holder w) (Before w g seats) w.target.logins.places (sound w g seats) node i n → (is_cut (hist past w) i n ≡ true) ⊎ IsNew node i n
        by (inl y) = inl (sym (cuts i n) ∙ y)
        by (inr c) = inr (new_of i n c)

    spared : (p : ℕ) → Listing node p → (i n : ℕ) → (is_cut (hist past w) i n ≡ true) ⊎ IsNew node i n → (is_cut (hist past w) i n ≡ true) ⊎ WasElse (hist past v) i n p
    spared p l i n (inl x) = inl x
    spared p l i n (inr k) =
        inr (else_later whole.more (hist past w) (hist past v) i n p whole.is (record { had = k.had; other = λ same. k.over (subst (λ j. Listing node j) (sym same) l) }))

    each_open : (p : ℕ) → p < 8 → Listing v.target p → Was (hist past v) (holder v p) p
    each_open p b l =
        let l' = handed_listing u node outbox e p l in
        let is = handed_holder u outbox p (holder w p) (o.kept p b l') in
        subst (λ (x : Holder). Was (hist past v) x p) (sym is)
        (was_on whole.more (hist past w) (hist past v) (holder w p) p whole.is
        (λ n same x. spared p l' (holder w p).initiator n (cuts_now (holder w p).initiator n x))
        (were.each p b (o.own p b l').why))

    had_open : (i n : ℕ) → (is_cut (hist past w) i n ≡ true) ⊎ IsNew node i n → WasHad (hist past v) i n
    had_open i n (inl x) = had_later whole.more (hist past w) (hist past v) i n whole.is (were.had i n x)
    had_open i n (inr k) = had_later whole.more (hist past w) (hist past v) i n whole.is k.had

    stays_open : AllWere past (handed_out 0 0 outbox u)
    stays_open = record { each = each_open; had = λ i n x. had_open i n (cuts_now i n x) }

    stays_taken : ((p : ℕ) → p < 8 → list_taken start (hist past u) p ≡ list_taken start (hist past w) p) → AreOthers outbox.sides → AllTaken start past w → AllTaken start past (handed_out 0 0 outbox u)
    stays_taken same others taken p b l =
        let l' = handed_listing u node outbox e p l in
        let is = handed_holder u outbox p (holder w p) (o.kept p b l') in
        handed_taken u outbox others p ∙ (same p b ∙ (taken p b (o.own p b l').why ∙ ap (λ (x : Holder). x.list) (sym is)))

  -- ---- a packet that the target gets
  module _ (serial : ℕ) (sent : Sent) (found : found_sent serial w.store.kept ≡ Some sent) (zero_to : sent.to ≡ 0) (run : Option Told) (s : Scene) (again : Bool) where
    abbrev x : Judged × Whole
    x = received run sent.generation sent.bytes (whole_of w.target s.media)

    abbrev u : WorldState
    u = with_note (judged_note serial x.0) (marked serial again (with_target x.1.node w))

    record Marks : Type 0 where
      places : u.places ≡ w.places
      initiators : u.initiators ≡ w.initiators
      fresh : u.fresh ≡ judged_note serial x.0 ∷ w.fresh
      target : u.target ≡ x.1.node

    marks : Marks
    marks = by (again || not (is_flying serial w.store.kept))
      where
        Of : Bool → Type 0
        Of b =
            let y = cond b (with_target x.1.node w) (record (with_target x.1.node w) { store = deliver_step w.store serial }) in
            (y.places ≡ w.places) × ((y.initiators ≡ w.initiators) × ((y.fresh ≡ w.fresh) × (y.target ≡ x.1.node)))

        of : (b : Bool) → Of b
        of true = (refl, (refl, (refl, refl)))
        of false = (refl, (refl, (refl, refl)))

        by : Bool → Marks
        by b = let m = of (again || not (is_flying serial w.store.kept)) in record { places = m.0; initiators = m.1.0; fresh = ap (λ ns. judged_note serial x.0 ∷ ns) m.1.1.0; target = m.1.1.1 }

    got_on : GoesOn (hist past w) (hist past u)
    got_on = record { more = said (judged_note serial x.0) ∷ []; is = ap (λ ns. map said ns ++ past) (sym marks.fresh) }

    got_cuts : (i n : ℕ) → is_cut (hist past u) i n ≡ is_cut (hist past w) i n
    got_cuts i n = ap (λ ns. is_cut (map said ns ++ past) i n) marks.fresh ∙ judged_cuts serial x.0 (hist past w) i n

    -- one that points
    module _ (o : Points w g seats u marks.places sent run s.media x.0 (scene x.1.node x.1.outbox)) where
      abbrev q : ℕ
      q = o.place

      abbrev i : ℕ
      i = (holder w q).initiator

      abbrev orb : ℕ
      orb = orb_of (point_step (Here w.target q) o.pointer).1

      holder_same : holder u q ≡ holder w q
      holder_same = ap (λ ps. holder_at ps q) marks.places

      is_got : hist past u ≡ said (notes.Got serial) ∷ hist past w
      is_got = ap (λ ns. map said ns ++ past) marks.fresh ∙ ap (λ (j : Judged). said (judged_note serial j) ∷ hist past w) o.got

      list_by : (b : Bool) → nat_lt i (length u.initiators) ≡ b → i < length w.initiators → bus.list_in (cond b (last_at (initiator_at u i).lists orb) None) ≡ list_in (named_in (hist past w) i (slot_of orb))
      list_by true e l =
          let same : (initiator_at u i).lists ≡ (initiator_at w i).lists = ap (λ (is : List InitiatorState). (slice_index_or is i (new_state 0 false)).lists) marks.initiators in
          ap (λ (k : ListState). bus.list_in (last_at k orb)) same ∙ named_list (hist past w) i (initiator_at w i).lists (rows i l) orb
      list_by false e l = absurd (false≢true (sym e ∙ (let z : nat_lt i (length u.initiators) ≡ true = (let y = ap length marks.initiators in grind (arith, nat_tests)) in z)))

      opened_list : i < length w.initiators → bus.list_in (ticket_at u q orb) ≡ list_in (named_in (hist past w) i (slot_of orb))
      opened_list l = ap (λ (k : Holder). bus.list_in (ticket_of u k.initiator orb)) holder_same ∙ list_by (nat_lt i (length u.initiators)) refl l

      now_opened : WasOpened (hist past u) i q (bus.list_in (ticket_at u q orb))
      now_opened =
          let c = came_from units logins start w h held serial sent found o.packet q (accesses.Point o.pointer) o.found o.bar o.asks in
          record {
            later = [];
            earlier = hist past w;
            serial = serial;
            is = sym is_got;
            sent = as_sending sent;
            sent_is = was_sent w h.sound.stands serial sent found;
            address = orb;
            pointed = record {
              from_is = c.from_is;
              to_is = zero_to;
              packet = o.packet;
              read = c.read;
              rom = length w.target.rom;
              pointer = o.pointer;
              asks = o.asks;
              address_is = (taken (Here w.target q) o.pointer o.ask o.took).at;
            };
            list_is = opened_list c.inside;
          }

      abbrev new : Holder
      new = record (holder w q) { list = bus.list_in (ticket_at u q orb) }

      now_was : Was (hist past u) new q
      unfolding now_opened
      now_was = record { opened = now_opened; spared = λ n is x. inl (were.had i n (sym (got_cuts i n) ∙ x)) }

      abbrev end : WorldState
      end = handed_out 0 0 x.1.outbox u

      later : GoesOn (hist past u) (hist past end)
      later = handed_on u x.1.outbox

      whole_on : GoesOn (hist past w) (hist past end)
      whole_on = goes_then (hist past w) (hist past u) (hist past end) got_on later

      since_got : (i n : ℕ) → is_cut (hist past end) i n ≡ is_cut (hist past u) i n
      since_got i n = sent_cuts u x.1.outbox i n ∙ o.after.1 past i n

      cuts_end : (i n : ℕ) → is_cut (hist past end) i n ≡ is_cut (hist past w) i n
      cuts_end i n = since_got i n ∙ got_cuts i n

      each_point : (p : ℕ) → p < 8 → Listing end.target p → Was (hist past end) (holder end p) p
      each_point p b l =
          let l' = handed_listing u x.1.node x.1.outbox marks.target p l in by p b l' (nat_eq p q) refl ((o.after.0.own p b l').why)
        where
          by : (p : ℕ) → p < 8 → Listing x.1.node p → (y : Bool) → nat_eq p q ≡ y → Listing w.target p ⊎ (p ≡ q) → Was (hist past end) (holder end p) p
          by p b l true y why =
              let same : q ≡ p = grind (arith, nat_tests) in
              let has = subst (λ z. Has (told_all 0 x.1.outbox.sides u).places p (cond z new (holder w p))) y (o.after.0.kept p b l) in
              subst (λ (k : Holder). Was (hist past end) k p) (sym (handed_holder u x.1.outbox p new has))
              (was_on later.more (hist past u) (hist past end) new p later.is (λ n e z. inl (sym (since_got new.initiator n) ∙ z)) (subst (λ j. Was (hist past u) new j) same now_was))
          by p b l false y (inl before) =
              let has = subst (λ z. Has (told_all 0 x.1.outbox.sides u).places p (cond z new (holder w p))) y (o.after.0.kept p b l) in
              subst (λ (k : Holder). Was (hist past end) k p) (sym (handed_holder u x.1.outbox p (holder w p) has))
              (was_on whole_on.more (hist past w) (hist past end) (holder w p) p whole_on.is (λ n e z. inl (sym (cuts_end (holder w p).initiator n) ∙ z)) (were.each p b before))
          by p b l false y (inr same) = absurd (false≢true (sym y ∙ (let z : nat_eq p q ≡ true = grind (arith, nat_tests) in z)))

      points_open : AllWere past end
      points_open = record {
        each = each_point;
        had = λ j n z. had_later whole_on.more (hist past w) (hist past end) j n whole_on.is (were.had j n (sym (cuts_end j n) ∙ z));
      }

    pub delivery_were : AllWere past (handed_out 0 0 x.1.outbox u)
    delivery_were = by (delivery_open w g seats u marks.places sent run s.media)
      where
        by : Open u (holder w) (Before w g seats) w.target.logins.places (sound w g seats) (scene x.1.node x.1.outbox) ⊎ Points w g seats u marks.places sent run s.media x.0 (scene x.1.node x.1.outbox) → AllWere past (handed_out 0 0 x.1.outbox u)
        by (inl k) = stays_open u x.1.node x.1.outbox marks.target got_on got_cuts k
        by (inr o) = points_open o

    -- ---- the lists as their pointers were taken
    module _ (agents : AreAgentsAt start (hist past w) w) where
      abbrev ms : List Moment
      ms = hist past w

      abbrev wire : Terms
      wire = terms ms

      abbrev T : Target
      T = over (target_at start ms)

      was_it : wire.sent serial ≡ Some (as_sending sent)
      was_it = was_sent w h.sound.stands serial sent found

      to_it : is_serial (receiver_in (wire.sent serial)) 0 ≡ true
      to_it = ap (λ so. is_serial (receiver_in so) 0) was_it ∙ (let same : nat_eq sent.to 0 ≡ true = grind (arith, nat_tests) in same)

      abbrev Got : ℕ → Option ℕ
      Got p = list_taken start (said (notes.Got serial) ∷ ms) p

      abbrev Old : ℕ → Option ℕ
      Old p = list_taken start ms p

      access_is : (k : Packet) → reading sent.bytes ≡ Ok k → access_at wire serial ≡ access_of k
      access_is k read = ap (λ so. access_in (packet_in so)) was_it ∙ ap (λ (r : Result Packet PacketFault). access_in (spelled_by r)) read

      -- a response takes none
      response_same : (k : Packet) → reading sent.bytes ≡ Ok k → is_some (reply_kind k) ≡ true → (p : ℕ) → Got p ≡ Old p
      response_same k read kind p =
          got_taken start p ms serial to_it ∙ answer_listed ms T wire p (Old p) (answered_at wire serial) serial (access_is k read ∙ response_access k kind)

      -- a request by its demand
      request_listed : (k : Packet) → reading sent.bytes ≡ Ok k → reply_kind k ≡ None → (p : ℕ) → Got p ≡ listed_for ms T wire p (Old p) (demand_of (length w.target.rom) k)
      request_listed k read none p =
          let part = asks_part units logins has start w h serial again sent found zero_to k read none in
          let there = access_there k none in
          got_taken start p ms serial to_it
          ∙ (ap (λ own. listed_at (got_in own T wire serial) ms T wire p (Old p)) (answers_none wire serial (as_sending sent) part.label part.kind was_it part.part)
          ∙ (ap (λ a. listed_at (write_in a) ms T wire p (Old p)) (access_is k read ∙ there.is)
          ∙ write_listed ms T wire p (Old p) (length w.target.rom) k there.access h.rom there.is))

      -- the agents of the terms take a pointer where those of the target do
      abbrev mine : ℕ → Machine
      mine p = (agent_at T p).machine

      steps_alike : (p : ℕ) → p < 8 → (pointer : OrbPointer) → (point_step (mine p) pointer).0 ≡ (point_step (Here w.target p) pointer).0
      steps_alike p b pointer = (alike_law.pointers (agent_at T p).untold (mine p) (Here w.target p) pointer (agents.are.each p b).machine).0

      -- a write of ORB_POINTER that is taken, or a packet that takes none
      record Pointing : Type 0 where
        packet : Packet
        is_found : (judging_step w.target.layer sent.generation sent.bytes).0 ≡ of_request packet
        bar : is_barred w.target packet ≡ false
        place : ℕ
        pointer : OrbPointer
        asks : demand_of (length w.target.rom) packet ≡ demands.Agent place (accesses.Point pointer)
        ask : Ask
        took : (point_step (Here w.target place) pointer).0 ≡ Ok ask

      abbrev Same : Judged → Type 0
      Same judged = (p : ℕ) → p < 8 → list_taken start (said (judged_note serial judged) ∷ ms) p ≡ Old p

      abbrev Noted : Judged → Type 0
      Noted judged = Pointing ⊎ Same judged

      module _ (k : Packet) (f : (judging_step w.target.layer sent.generation sent.bytes).0 ≡ of_request k) (read : reading sent.bytes ≡ Ok k) (none : reply_kind k ≡ None) where
        -- a pointer that it refuses
        refused_at : (place : ℕ) (pointer : OrbPointer) (refusal : PointRefusal) → (point_step (Here w.target place) pointer).0 ≡ Err refusal → (p : ℕ) → p < 8 → (b : Bool) → nat_eq place p ≡ b → cond b (listed_by (point_step (mine p) pointer) ms (term_initiator T wire p) (Old p)) (Old p) ≡ Old p
        refused_at place pointer refusal e p c true same =
            let q : place ≡ p = grind (arith, nat_tests) in
            refused_listed ms (term_initiator T wire p) (Old p) (point_step (mine p) pointer) refusal (steps_alike p c pointer ∙ subst (λ j. (point_step (Here w.target j) pointer).0 ≡ Err refusal) q e)
        refused_at place pointer refusal e p c false same = refl

        point_noted : (place : ℕ) (pointer : OrbPointer) → is_barred w.target k ≡ false → demand_of (length w.target.rom) k ≡ demands.Agent place (accesses.Point pointer) → (r : Result Ask PointRefusal) → (point_step (Here w.target place) pointer).0 ≡ r → Noted judgements.Got
        point_noted place pointer bar d (Ok ask) e = inl (record { packet = k; is_found = f; bar = bar; place = place; pointer = pointer; asks = d; ask = ask; took = e })
        point_noted place pointer bar d (Err refusal) e =
            inr (λ p c. request_listed k read none p ∙ (ap (listed_for ms T wire p (Old p)) d ∙ refused_at place pointer refusal e p c (nat_eq place p) refl))

        other_noted : (demand : Demand) → demand_of (length w.target.rom) k ≡ demand → ((p : ℕ) → listed_for ms T wire p (Old p) demand ≡ Old p) → Noted judgements.Got
        other_noted demand d same = inr (λ p c. request_listed k read none p ∙ (ap (listed_for ms T wire p (Old p)) d ∙ same p))

        access_noted : (place : ℕ) (access : base.Access) → is_barred w.target k ≡ false → demand_of (length w.target.rom) k ≡ demands.Agent place access → Noted judgements.Got
        access_noted place (accesses.Point pointer) bar d = point_noted place pointer bar d (point_step (Here w.target place) pointer).0 refl
        access_noted place accesses.State bar d = other_noted (demands.Agent place accesses.State) d (λ p. refl)
        access_noted place accesses.Reset bar d = other_noted (demands.Agent place accesses.Reset) d (λ p. refl)
        access_noted place accesses.Pointer bar d = other_noted (demands.Agent place accesses.Pointer) d (λ p. refl)
        access_noted place accesses.Ring bar d = other_noted (demands.Agent place accesses.Ring) d (λ p. refl)
        access_noted place accesses.Enable bar d = other_noted (demands.Agent place accesses.Enable) d (λ p. refl)

        demand_noted : (demand : Demand) → is_barred w.target k ≡ false → demand_of (length w.target.rom) k ≡ demand → Noted judgements.Got
        demand_noted (demands.Refused rcode) bar d = other_noted (demands.Refused rcode) d (λ p. refl)
        demand_noted (demands.Rom at len) bar d = other_noted (demands.Rom at len) d (λ p. refl)
        demand_noted (demands.Manage orb) bar d = other_noted (demands.Manage orb) d (λ p. refl)
        demand_noted (demands.Agent place access) bar d = access_noted place access bar d

        bar_noted : (b : Bool) (other served : TargetScene) (all : Whole) → is_barred w.target k ≡ b → Noted (judged_scene (cond b (judgements.Ignored ignored.Login, other) (judgements.Got, served)) all).0
        bar_noted true other served all e = inr (λ p c. refl)
        bar_noted false other served all e = demand_noted (demand_of (length w.target.rom) k) e refl

      no_kind : (kind : Option ReplyKind) → is_some kind ≡ false → kind ≡ None
      no_kind None e = refl
      no_kind (Some kind) e = absurd (false≢true (sym e))

      found_noted : (f : Finding Purpose) (now : Layer Purpose) → (judging_step w.target.layer sent.generation sent.bytes).0 ≡ f → IsFound f w.target.layer now sent.bytes → Noted (received_as run sent.bytes f (with_layer now (whole_of w.target s.media))).0
      unfolding request_step is_barred
      found_noted of_generation now e is = inr (λ p c. refl)
      found_noted of_grammar now e is = inr (λ p c. refl)
      found_noted of_label now e is = inr (λ p c. refl)
      found_noted (of_again k rcode) now e is = inr (λ p c. refl)
      found_noted (of_response k label purpose) now e is = inr (λ p c. response_same k is.read is.kind p)
      found_noted (of_request k) now e is =
          let first = scene (record w.target { layer = now }) empty_outbox in
          bar_noted k e is.1.read (no_kind (reply_kind k) is.1.kind) (is_barred w.target k) (answered k sent.bytes address_error [] first) (serve k sent.bytes first) (with_layer now (whole_of w.target s.media)) refl

      noted : Noted x.0
      unfolding received
      noted = let j = judging_step w.target.layer sent.generation sent.bytes in found_noted j.0 j.1 refl (is_found w.target.layer sent.generation sent.bytes)

      -- one that points
      module _ (o : Points w g seats u marks.places sent run s.media x.0 (scene x.1.node x.1.outbox)) (others : AreOthers x.1.outbox.sides) (taken_before : AllTaken start past w) where
        abbrev spot : ℕ
        spot = o.place

        abbrev its_orb : ℕ
        its_orb = orb_of (point_step (Here w.target spot) o.pointer).1

        abbrev pointed : Holder
        pointed = record (holder w spot) { list = bus.list_in (ticket_at u spot its_orb) }

        read_there : IsFound (of_request o.packet) w.target.layer (judging_step w.target.layer sent.generation sent.bytes).1 sent.bytes
        read_there = subst (λ (f : Finding Purpose). IsFound f w.target.layer (judging_step w.target.layer sent.generation sent.bytes).1 sent.bytes) o.found (is_found w.target.layer sent.generation sent.bytes)

        name_there : named o.pointer ≡ Some (point_step (mine spot) o.pointer).1.present
        name_there = present_taken (mine spot) o.pointer o.ask (steps_alike spot o.small o.pointer ∙ o.took)

        same_orb : (point_step (mine spot) o.pointer).1.present ≡ its_orb
        same_orb = let both : Some (point_step (mine spot) o.pointer).1.present ≡ Some its_orb = sym name_there ∙ (taken (Here w.target spot) o.pointer o.ask o.took).at in cc

        who_is : term_initiator T wire spot ≡ (holder w spot).initiator
        who_is = served_initiator units logins start w h held o.served

        inside_is : (holder w spot).initiator < length w.initiators
        inside_is = (came_from units logins start w h held serial sent found o.packet spot (accesses.Point o.pointer) o.found o.bar o.asks).inside

        list_there : listed_by (point_step (mine spot) o.pointer) ms (term_initiator T wire spot) (Old spot) ≡ pointed.list
        list_there =
            taken_listed ms (term_initiator T wire spot) (Old spot) (point_step (mine spot) o.pointer) o.ask (steps_alike spot o.small o.pointer ∙ o.took)
            ∙ (ap (λ a. list_in (named_in ms (term_initiator T wire spot) (slot_of a))) same_orb
            ∙ (ap (λ i. list_in (named_in ms i (slot_of its_orb))) who_is ∙ sym (opened_list o inside_is)))

        got_there : (p : ℕ) → Got p ≡ cond (nat_eq spot p) (listed_by (point_step (mine p) o.pointer) ms (term_initiator T wire p) (Old p)) (Old p)
        got_there p = request_listed o.packet read_there.1.read (no_kind (reply_kind o.packet) read_there.1.kind) p ∙ ap (listed_for ms T wire p (Old p)) o.asks

        at_place : (p : ℕ) → p < 8 → (b c : Bool) → nat_eq spot p ≡ b → nat_eq p spot ≡ c → Listing w.target p ⊎ (p ≡ spot) → cond b (listed_by (point_step (mine p) o.pointer) ms (term_initiator T wire p) (Old p)) (Old p) ≡ (cond c pointed (holder w p)).list
        at_place p small true true e f why =
            let same : spot ≡ p = grind (arith, nat_tests) in
            subst (λ j. listed_by (point_step (mine j) o.pointer) ms (term_initiator T wire j) (Old j) ≡ pointed.list) same list_there
        at_place p small false false e f (inl up) = taken_before p small up
        at_place p small false false e f (inr same) = absurd (false≢true (sym f ∙ (let z : nat_eq p spot ≡ true = grind (arith, nat_tests) in z)))
        at_place p small true false e f why = absurd (false≢true (sym f ∙ (let z : nat_eq p spot ≡ true = grind (arith, nat_tests) in z)))
        at_place p small false true e f why = absurd (false≢true (sym e ∙ (let z : nat_eq spot p ≡ true = grind (arith, nat_tests) in z)))

        points_taken : AllTaken start past (handed_out 0 0 x.1.outbox u)
        points_taken p b l =
            let l' = handed_listing u x.1.node x.1.outbox marks.target p l in
            let is = handed_holder u x.1.outbox p (cond (nat_eq p spot) pointed (holder w p)) (o.after.0.kept p b l') in
            handed_taken u x.1.outbox others p
            ∙ (ap (λ (z : List Moment). list_taken start z p) (ap (λ ns. map said ns ++ past) marks.fresh ∙ ap (λ (j : Judged). said (judged_note serial j) ∷ ms) o.got)
            ∙ (got_there p ∙ (at_place p b (nat_eq spot p) (nat_eq p spot) refl refl (o.after.0.own p b l').why ∙ ap (λ (z : Holder). z.list) (sym is))))

      pub delivery_taken : AreOthers x.1.outbox.sides → AllTaken start past w → AllTaken start past (handed_out 0 0 x.1.outbox u)
      delivery_taken others before = by noted
        where
          open_by : ((p : ℕ) → p < 8 → list_taken start (said (judged_note serial x.0) ∷ ms) p ≡ Old p) → Open u (holder w) (Before w g seats) w.target.logins.places (sound w g seats) (scene x.1.node x.1.outbox) ⊎ Points w g seats u marks.places sent run s.media x.0 (scene x.1.node x.1.outbox) → AllTaken start past (handed_out 0 0 x.1.outbox u)
          open_by same (inl k) = stays_taken u x.1.node x.1.outbox marks.target got_on got_cuts k (λ p c. ap (λ ns. list_taken start (map said ns ++ past) p) marks.fresh ∙ same p c) others before
          open_by same (inr o) = points_taken o others before

          by : Noted x.0 → AllTaken start past (handed_out 0 0 x.1.outbox u)
          by (inl k) = points_taken (takes_point w g seats u marks.places sent run s.media k.packet k.place k.pointer k.ask k.is_found k.bar k.asks k.took) others before
          by (inr same) = open_by same (delivery_open w g seats u marks.places sent run s.media)

  -- ---- a time-out
  module _ (line serial : ℕ) (request : Request) (zero_node : request.node ≡ 0) where
    abbrev Left : Result (Unit {0}) Stale × TargetScene → WorldState
    Left y = timed_out line serial request.node (packets.at_target (target_left y w.target) w)

    lapse_by : (x : Result (Option Purpose) Stale × Layer Purpose) → AllWere past (Left (expired_in x request.peer request.label (scene w.target empty_outbox)))
    lapse_by (Ok purpose, layer) =
        let t = (expired_in (Ok purpose, layer) request.peer request.label (scene w.target empty_outbox)).1 in
        let u = with_note (notes.TimedOut serial) (with_target t.node w) in
        subst (λ n. AllWere past (handed_out n 0 t.outbox u)) (sym zero_node)
        (stays_open u t.node t.outbox refl (record { more = said (notes.TimedOut serial) ∷ []; is = refl }) (λ i n. refl) (lapse_open w g seats u refl layer request.peer request.label purpose))
    lapse_by (Err stale, layer) = same_were (said (notes.Refused line no_packet) ∷ []) (hist past w) _ w _ refl (λ i n. refl) refl (λ p l. l) were

    pub lapse_were : AllWere past (Left (expired request.peer request.label (scene w.target empty_outbox)))
    unfolding expired
    lapse_were = lapse_by (expiring_step w.target.layer request.peer request.label)

    lapse_taken_by : (y : Result (Option Purpose) Stale × Layer Purpose) → AreOthers (expired_in y request.peer request.label (scene w.target empty_outbox)).1.outbox.sides → AllTaken start past w → AllTaken start past (Left (expired_in y request.peer request.label (scene w.target empty_outbox)))
    lapse_taken_by (Ok purpose, layer) others before =
        let t = (expired_in (Ok purpose, layer) request.peer request.label (scene w.target empty_outbox)).1 in
        let u = with_note (notes.TimedOut serial) (with_target t.node w) in
        subst (λ n. AllTaken start past (handed_out n 0 t.outbox u)) (sym zero_node)
        (stays_taken u t.node t.outbox refl (record { more = said (notes.TimedOut serial) ∷ []; is = refl }) (λ i n. refl) (lapse_open w g seats u refl layer request.peer request.label purpose) (λ p b. refl) others before)
    lapse_taken_by (Err stale, layer) others before = λ p b l. before p b l

    lapse_taken_for : AreOthers (expired request.peer request.label (scene w.target empty_outbox)).1.outbox.sides → AllTaken start past w → AllTaken start past (Left (expired request.peer request.label (scene w.target empty_outbox)))
    unfolding expired
    lapse_taken_for others before = lapse_taken_by (expiring_step w.target.layer request.peer request.label) others before

    pub lapse_taken : AllTaken start past w → AllTaken start past (Left (expired request.peer request.label (scene w.target empty_outbox)))
    lapse_taken before = lapse_taken_for (hand_law.expires request.peer request.label w.target) before

  -- ---- a generation that it sees, a second, a key
  pub sight_were : AllWere past (see_line 0 w)
  unfolding see_line nodes.sees target_sees
  sight_were =
      let t = alone (sees w.generations.latest.generation (id_of w.generations.latest 0)) w.target in
      let u = with_target t.node (with_seen 0 (told_seen 0 w)) in
      stays_open u t.node t.outbox refl (record { more = said (notes.Seen 0 w.generations.latest.generation) ∷ []; is = refl }) (λ i n. refl)
      (manages.sees u (holder w) (Before w g seats) w.target.logins (sound w g seats) w.generations.latest.generation (id_of w.generations.latest 0) (scene w.target empty_outbox) (begins w g seats u refl w.target.layer))

  pub sight_taken : AllTaken start past w → AllTaken start past (see_line 0 w)
  unfolding see_line nodes.sees target_sees
  sight_taken before =
      let t = alone (sees w.generations.latest.generation (id_of w.generations.latest 0)) w.target in
      let u = with_target t.node (with_seen 0 (told_seen 0 w)) in
      stays_taken u t.node t.outbox refl (record { more = said (notes.Seen 0 w.generations.latest.generation) ∷ []; is = refl }) (λ i n. refl)
      (manages.sees u (holder w) (Before w g seats) w.target.logins (sound w g seats) w.generations.latest.generation (id_of w.generations.latest 0) (scene w.target empty_outbox) (begins w g seats u refl w.target.layer))
      (λ p b. refl) (hand_law.sees w.generations.latest.generation (id_of w.generations.latest 0) w.target) before

  pub tick_were : AllWere past (tick_line w)
  unfolding tick_line target_ticks
  tick_were =
      let t = alone ticks w.target in
      let u = with_target t.node (with_note notes.Tick w) in
      stays_open u t.node t.outbox refl (record { more = said notes.Tick ∷ []; is = refl }) (λ i n. refl)
      (manages.ticks u (holder w) (Before w g seats) w.target.logins (sound w g seats) (scene w.target empty_outbox) refl (begins w g seats u refl w.target.layer))

  pub tick_taken : AllTaken start past w → AllTaken start past (tick_line w)
  unfolding tick_line target_ticks
  tick_taken before =
      let t = alone ticks w.target in
      let u = with_target t.node (with_note notes.Tick w) in
      stays_taken u t.node t.outbox refl (record { more = said notes.Tick ∷ []; is = refl }) (λ i n. refl)
      (manages.ticks u (holder w) (Before w g seats) w.target.logins (sound w g seats) (scene w.target empty_outbox) refl (begins w g seats u refl w.target.layer))
      (λ p b. refl) (hand_law.ticks w.target) before

  pub key_were : (line unit : ℕ) (key : List ℕ) → AllWere past (keyed line unit key w)
  unfolding keyed
  key_were line unit key = by (nat_lt unit (length w.target.units))
    where
      by : (b : Bool) → AllWere past (cond b (with_note (notes.Key unit) (with_target (with_key unit key w.target) w)) (refused line no_unit w))
      by true = same_were (said (notes.Key unit) ∷ []) (hist past w) _ w (with_note (notes.Key unit) (with_target (with_key unit key w.target) w)) refl (λ i n. refl) refl (λ p l. l) were
      by false = same_were (said (notes.Refused line no_unit) ∷ []) (hist past w) _ w (refused line no_unit w) refl (λ i n. refl) refl (λ p l. l) were

  pub key_taken : (line unit : ℕ) (key : List ℕ) → AllTaken start past w → AllTaken start past (keyed line unit key w)
  unfolding keyed
  key_taken line unit key before = by (nat_lt unit (length w.target.units))
    where
      by : (b : Bool) → AllTaken start past (cond b (with_note (notes.Key unit) (with_target (with_key unit key w.target) w)) (refused line no_unit w))
      by true = same_taken start past w (with_note (notes.Key unit) (with_target (with_key unit key w.target) w)) refl (λ p l. l) (λ p. refl) before
      by false = same_taken start past w (refused line no_unit w) refl (λ p l. l) (λ p. refl) before
