-- A delivery to the target, and a time-out of its own, send each status to an initiator as it is to be, where this is known of what acts, and of the management.
use Rattle.sbp_world.proofs.Words.Std.{arith, ◌≡◌, ◌∙◌, refl, sym, ap, subst, ◌<◌, ◌≤◌, ℕ, suc, nat_lt, Bool, false, cond, List, [], ◌∷◌, ◌++◌, map, length, Option, Some, None, Ok, true, slice_index_or}
use Rattle.sbp_world.proofs.Words.Wire.{LabelParts, Packet, header_in, Layer, judging_step, of_request, of_response, Sent, node_of, topology_at, judged_note, holder_at, Cause, Judged, Note, Outgoing, Moment, said, terms}
use Rattle.sbp_world.proofs.Words.Target.{Login, is_live, Held, Told, AgentStep, Which, Ahead, Main, lost_step, point_step, reply_step, Purpose, which_in, manage, Scene, desk_at, login_at, scene, answer_in, received, timed_out, Whole, plain_in, is_barred, demand_of}
use Rattle.sbp_world.proofs.Words.Initiator.{is_fifo, slot_of, Ask, Answer, OrbPointer, TicketParts, InitiatorState, new_state, last_at, last_in, SlotTable, slot_in}
use Rattle.sbp_world.proofs.Words.Laws.{Orb, TakenStatus, orb, present_list, taken_at, status_packet, appends, ends, lists, EachMoment}
use Rattle.sbp_world.proofs.Words.World.{whole_of, handed_out, holder, ticket_of, WorldState, initiator_at, has_list, AreOthers, AreRows, terms_at, IsFor, machine_at, HasSlot, AreStatuses, SentSo, is_place_fifo, AreOwnOf, IsLoginFifo}
use Rattle.orb_layout.specs.declared.ask.Ask.TheVariants as asks
use Rattle.orb_layout.specs.declared.ask.FailCause.TheVariants as causes
use Rattle.sbp_journal.specs.declared.cause.Judged.TheVariants as judgements
use Rattle.sbp_journal.specs.declared.note.Note.TheVariants as notes
use Rattle.sbp_target.specs.declared.purpose.Purpose.TheVariants as purposes
use Rattle.target_base.specs.declared.address.Access.TheVariants as accesses
use Rattle.target_base.specs.declared.address.Demand.TheVariants as demands
use Rattle.sbp_world.proofs.Agents.Management.Still.{hist}
use Rattle.bus_memory.proofs.Found.{slot_of_law}
use Rattle.sbp_world.proofs.Hosts.Over.{last_at as last_fits}
use Rattle.sbp_world.proofs.Lists.StatusPlaced.{has_slot}
use Rattle.sbp_world.proofs.Lists.StatusKept.{untaken_above}
use Rattle.sbp_world.proofs.Lists.Generations.{moment_generation}
use Rattle.sbp_world.proofs.Lists.Passing.{PassLaw}
use Rattle.sbp_world.proofs.Lists.StatusActs.{M, first}
use Rattle.sbp_world.proofs.Lists.StatusBytes.{same_address, written_at}
use Rattle.sbp_world.proofs.Lists.StatusCalls.{Called, acts, delivery_called, goes_on, idles, lapse_called}
use Rattle.sbp_world.proofs.Lists.StatusDue.{Ours, late_step_of, point_small, reply_step_of, ring_small}
use Rattle.sbp_world.proofs.Lists.StatusFollows.{Followed}
use Rattle.sbp_world.proofs.Lists.StatusHanded.{Starts, none_told, one_told}
use Rattle.sbp_world.proofs.Lists.OwnFifos.{fifo_is_fifo, fifo_low, fifo_no_place}
use Rattle.sbp_world.proofs.Lists.StatusSends.{AllOut}
use Rattle.sbp_world.proofs.Lists.StatusLosses.{lost_asks, quiet_ahead}
use Rattle.sbp_world.proofs.Lists.StatusLines.{S, target_hands}
use Rattle.sbp_world.proofs.Lists.StatusMoments.{HasTaken, latest_of}
use Rattle.sbp_world.proofs.Lists.StatusPackets.{AllLogged, AllPlain, AllRead, EndSide, IsInbox, Spelled, ToldSo, read_plain}
use Rattle.sbp_world.proofs.Lists.StatusSlots.{slot_on}
use Rattle.sbp_world.proofs.Lists.Turns.{Ready}
use Rattle.sbp_world.proofs.Lists.StatusSteps.{none_wrote}

in_cond : (b : Bool) (x : Option TicketParts) (t : TicketParts) → cond b x None ≡ Some t → x ≡ Some t
in_cond true x t e = e
in_cond false x t e = absurd (let z : None ≡ Some t = e in cc)

reads_plain : (packets : List Outgoing) → AllRead packets → AllPlain packets
reads_plain [] h = tt
reads_plain (packet ∷ later) h = (read_plain packet h.0, reads_plain later h.1)

-- ---- the first note of a delivery, and of a time-out
pub data IsFirst : Note → Type 0 where
  got_first : (serial : ℕ) → IsFirst (notes.Got serial)
  ignored_first : (serial : ℕ) (cause : Cause) → IsFirst (notes.Ignored serial cause)
  late_first : (serial : ℕ) → IsFirst (notes.TimedOut serial)

pub judged_first : (serial : ℕ) (judged : Judged) → IsFirst (judged_note serial judged)
judged_first serial judgements.Got = got_first serial
judged_first serial (judgements.Ignored cause) = ignored_first serial cause

module _ (i : ℕ) (ms : List Moment) where
  record Stays (note : Note) : Type 0 where
    packets : (n k : ℕ) → status_packet (said note ∷ ms) i n k ≡ status_packet ms i n k
    taken : (n k : ℕ) → taken_at (said note ∷ ms) i n k ≡ taken_at ms i n k
    slots : (slot : ℕ) (one : Orb) → (HasTaken ms i one.list one.number → ⊥) → HasSlot ms i slot one → HasSlot (said note ∷ ms) i slot one
    sends : EachMoment (SentSo i) ms → EachMoment (SentSo i) (said note ∷ ms)
    ended : (n : ℕ) → ends (said note ∷ ms) i n ≡ ends ms i n
    begun : lists (said note ∷ ms) i ≡ lists ms i
    appended : (n : ℕ) → appends (said note ∷ ms) i n ≡ appends ms i n
    same : (terms (said note ∷ ms)).generation (suc i) ≡ (terms ms).generation (suc i)

  first_stays : (note : Note) → IsFirst note → Stays note
  first_stays _ (got_first serial) = record { packets = λ n k. refl; taken = λ n k. refl; slots = λ slot one none h. slot_on (said (notes.Got serial)) ms i slot one tt (λ t. none (record { taken = t.taken; is = t.is })) h; sends = λ e. (tt, e); ended = λ n. refl; begun = refl; appended = λ n. refl; same = moment_generation (suc i) (said (notes.Got serial)) ms refl }
  first_stays _ (ignored_first serial cause) = record { packets = λ n k. refl; taken = λ n k. refl; slots = λ slot one none h. slot_on (said (notes.Ignored serial cause)) ms i slot one tt (λ t. none (record { taken = t.taken; is = t.is })) h; sends = λ e. (tt, e); ended = λ n. refl; begun = refl; appended = λ n. refl; same = moment_generation (suc i) (said (notes.Ignored serial cause)) ms refl }
  first_stays _ (late_first serial) = record { packets = λ n k. refl; taken = λ n k. refl; slots = λ slot one none h. slot_on (said (notes.TimedOut serial)) ms i slot one tt (λ t. none (record { taken = t.taken; is = t.is })) h; sends = λ e. (tt, e); ended = λ n. refl; begun = refl; appended = λ n. refl; same = moment_generation (suc i) (said (notes.TimedOut serial)) ms refl }

-- a world behind it
pub record Behind (note : Note) (w u : WorldState) : Type 0 where
  pub places : u.places ≡ w.places
  pub initiators : u.initiators ≡ w.initiators
  pub fresh : u.fresh ≡ note ∷ w.fresh
  pub generations : u.generations ≡ w.generations

module _ (wild : ℕ → Bool) (i : ℕ) (own : wild i ≡ false) (past : List Moment) (w : WorldState) where
  starts_of : (note : Note) → IsFirst note → (u : WorldState) → Behind note w u → Starts wild i own past w u
  starts_of note f u b =
      let s = first_stays i (hist past w) note f in
      let e : said note ∷ hist past w ≡ hist past u = ap (λ ns. map said ns ++ past) (sym b.fresh) in
      record {
        owner = λ q. ap (λ ps. (holder_at ps q).initiator) b.places;
        tickets = λ at. ap (λ (is : List InitiatorState). cond (nat_lt i (length is)) (last_at (slice_index_or is i (new_state 0 false)).lists at) None) b.initiators;
        packets = λ n k. subst (λ h. status_packet h i n k ≡ status_packet (hist past w) i n k) e (s.packets n k);
        taken = λ n k. subst (λ h. taken_at h i n k ≡ taken_at (hist past w) i n k) e (s.taken n k);
        slots = λ slot one none h. subst (λ x. HasSlot x i slot one) e (s.slots slot one none h);
        sends = λ h. subst (λ x. EachMoment (SentSo i) x) e (s.sends h);
        ended = λ n. subst (λ h. ends h i n ≡ ends (hist past w) i n) e (s.ended n);
        begun = subst (λ h. lists h i ≡ lists (hist past w) i) e s.begun;
        appended = λ n. subst (λ h. appends h i n ≡ appends (hist past w) i n) e (s.appended n);
        low = subst (λ h. (terms (hist past w)).generation (suc i) ≤ (terms h).generation (suc i)) e (let same = s.same in omega (arith, same));
        generations = b.generations;
      }

  abbrev gen : ℕ
  gen = (topology_at w.generations 0).generation

  -- what is known of a place whose agent acts
  pub record Up (q : ℕ) : Type 0 where
    pub mine : (login : Login) → login_at w.target q ≡ Some login → node_of w.generations 0 login.node ≡ Some (suc i) → (holder w q).initiator ≡ i
    pub caught : (holder w q).initiator ≡ i → gen ≤ (terms (hist past w)).generation (suc i)
    pub present : (holder w q).initiator ≡ i → gen ≡ (terms (hist past w)).generation (suc i) → (n : ℕ) × (present_list (hist past w) i ≡ Some n)

  -- and its login is live
  abbrev pub Acting : ℕ → Type 0
  Acting q = Up q × ((login : Login) → login_at w.target q ≡ Some login → is_live login ≡ true)

  module _ (r : Ready wild past w) (statuses : AreStatuses (hist past w) i) (each : EachMoment (SentSo i) (hist past w)) (rows : AreRows (hist past w) i (initiator_at w i).lists.slots) where
    abbrev C : Layer Purpose → Scene → Type 0
    C layer s = Called w r.good (Ours wild past w r) Acting (Unit {0}) layer s

    abbrev table : SlotTable
    table = (initiator_at w i).lists.slots

    untaken_none : (n k : ℕ) → ends (hist past w) i n ≤ k → taken_at (hist past w) i n k ≡ None
    untaken_none n k l = by (taken_at (hist past w) i n k) refl
      where
        by : (o : Option TakenStatus) → taken_at (hist past w) i n k ≡ o → o ≡ None
        by None e = refl
        by (Some t) e = let b = untaken_above wild i own (hist past w) r.kept.passes statuses n k (record { taken = t; is = e }) in absurd (omega (arith, b, l))

    -- the ORB that ends has its slot
    slotted : (n : ℕ) → present_list (hist past w) i ≡ Some n → (at : ℕ) (t : TicketParts) → ticket_of w i at ≡ Some t → ends (hist past w) i t.list ≤ t.number → suc t.list ≡ lists (hist past w) i → t.number < appends (hist past w) i t.list → (slot : ℕ) → slot_of at ≡ Some slot → HasSlot (hist past w) i slot (orb t.list t.number)
    slotted n e at t k l latest below slot f =
        let same : t.list ≡ n = (let z = latest_of wild (hist past w) r.kept.passes i n e in omega (arith, latest, z)) in
        let small = (slot_of_law.begins at slot f).0 in
        let last : (slot_in table.slots slot).last ≡ Some t = ap (last_in (initiator_at w i).lists) (sym f) ∙ in_cond (nat_lt i (length w.initiators)) (last_at (initiator_at w i).lists at) t k in
        let fits = last_fits (terms_at (hist past w) i) table rows.fits slot t small last in
        subst (λ x. HasSlot (hist past w) i x (orb t.list t.number)) fits.at
        (has_slot (hist past w) i t.list t.number table rows below (untaken_none t.list t.number l) (e ∙ ap (λ x. Some x) (sym same)))

    -- what a call hands out, behind the first note
    module _ (layer : Layer Purpose) (s : Scene) (note : Note) (f : IsFirst note) (u : WorldState) (b : Behind note w u) (others : AreOthers s.outbox.sides) (law : PassLaw wild (hist past (handed_out 0 0 s.outbox u))) (managed : (answer : Answer) → s ≡ manage answer (first w r.good layer) → S i past (handed_out 0 0 s.outbox u)) (owned : AreOwnOf w i) where
      begins : Starts wild i own past w u
      begins = starts_of note f u b

      -- a status block goes to the FIFO of the login
      out_of : (login : Login) (Its Mine : Type 0) → (Mine → IsLoginFifo login.fifo) → (packets : List Outgoing) → AllLogged login Its packets → AllOut (Its × Mine) packets
      out_of login Its Mine own [] h = tt
      out_of login Its Mine own (packet ∷ later) h = (
        λ ours slot block x access e.
            (let fifo = own ours.1 in
            let low = fifo_low login.fifo fifo in
            let goes : access.offset ≡ login.fifo = h.0 ours.0 slot block x access e ∙ same_address login.fifo (omega (arith, low)) in
            (ap is_place_fifo goes ∙ fifo_no_place login.fifo fifo, ap is_fifo goes ∙ fifo_is_fifo login.fifo fifo)),
        out_of login Its Mine own later h.1,
      )

      acting : (q : ℕ) (c : q < 8) (login : Login) → login_at w.target q ≡ Some login → Acting q → (early : Option EndSide) (x : Followed q c login (Ours wild past w r q) (M w r.good layer) early (M w r.good layer q) s) → (told : Option EndSide) → x.told ≡ told → S i past (handed_out 0 0 s.outbox u)
      acting q c login is up early x None e =
          none_told wild i own past w u begins s.outbox q login.node (Ours wild past w r q) x.now law r.kept.passes statuses each (λ n. let mine = up.0.mine login is n in (ap wild mine ∙ own, mine)) up.0.caught
          (subst (λ o. ToldSo q s.outbox.sides o) e x.so.told_is) (subst (λ o. Spelled q login.node (Ours wild past w r q) o x.now s.outbox.packets) e x.so.spelled) (out_of login (Ours wild past w r q) ((holder w q).initiator ≡ i) (λ mine. owned q login is (up.1 login is) mine) s.outbox.packets x.so.logged)
      acting q c login is up early x (Some one) e =
          one_told wild i own past w u begins s.outbox q login.node (Ours wild past w r q) x.now law r.kept.passes statuses each (λ n. let mine = up.0.mine login is n in (ap wild mine ∙ own, mine)) up.0.caught one
          (subst (λ o. ToldSo q s.outbox.sides o) e x.so.told_is) (subst (λ o. Spelled q login.node (Ours wild past w r q) o x.now s.outbox.packets) e x.so.spelled) (out_of login (Ours wild past w r q) ((holder w q).initiator ≡ i) (λ mine. owned q login is (up.1 login is) mine) s.outbox.packets x.so.logged)
          (λ mine t k l latest below slot at g. let p = up.0.present mine g in slotted p.0 p.1 one.orb t k l latest below slot at)

      pub hands : C layer s → S i past (handed_out 0 0 s.outbox u)
      hands (idles k) = target_hands i past 0 s.outbox u others (reads_plain s.outbox.packets k.read) (begins.sends each)
      hands (acts q c login is up early x) = acting q c login is up early x x.told refl
      hands (goes_on answer x m) = managed answer m.is

    -- ---- a packet that it gets
    module _ (sent : Sent) (is_for : IsFor w sent) (run : Option Told) (media : Held) (serial : ℕ) where
      abbrev x : Judged × Whole
      x = received run sent.generation sent.bytes (whole_of w.target media)

      abbrev then : Layer Purpose
      then = (judging_step w.target.layer sent.generation sent.bytes).1

      -- the bytes of an answer go to no FIFO
      abbrev pub Answers : Type 0
      Answers =
          (p : Packet) (label : LabelParts) (place : ℕ) → (judging_step w.target.layer sent.generation sent.bytes).0 ≡ of_response p label (Some (purposes.Agent place)) → place < 8 → (login : Login) (which : Which) → which_in (desk_at w.target place) (header_in p).source label ≡ Some which → (let step = (reply_step (machine_at w place) place (plain_in w.target.units media.disks login.unit) run which (answer_in p)).0 in Ours wild past w r place → step.ended ≡ None → (offset size : ℕ) → step.ask ≡ asks.Write offset size → IsInbox (written_at offset) → ⊥)

      module _ (u : WorldState) (b : Behind (judged_note serial x.0) w u) (others : AreOthers x.1.outbox.sides) (law : PassLaw wild (hist past (handed_out 0 0 x.1.outbox u))) (answers : Answers) (reply_up : (peer : ℕ) (label : LabelParts) (place : ℕ) → place < 8 → (which : Which) → which_in (desk_at w.target place) peer label ≡ Some which → Acting place) (ring_up : (p : Packet) → (judging_step w.target.layer sent.generation sent.bytes).0 ≡ of_request p → is_barred w.target p ≡ false → (q : ℕ) → q < 8 → demand_of (length w.target.rom) p ≡ demands.Agent q accesses.Ring → has_list (machine_at w q).phase ≡ true → Acting q) (point_up : (p : Packet) → (judging_step w.target.layer sent.generation sent.bytes).0 ≡ of_request p → is_barred w.target p ≡ false → (q : ℕ) → q < 8 → (pointer : OrbPointer) → demand_of (length w.target.rom) p ≡ demands.Agent q (accesses.Point pointer) → (ask : Ask) → (point_step (machine_at w q) pointer).0 ≡ Ok ask → Acting q) (managed : (answer : Answer) → scene x.1.node x.1.outbox ≡ manage answer (first w r.good then) → S i past (handed_out 0 0 x.1.outbox u)) (owned : AreOwnOf w i) where
        pub delivery_sends : S i past (handed_out 0 0 x.1.outbox u)
        delivery_sends =
            hands then (scene x.1.node x.1.outbox) (judged_note serial x.0) (judged_first serial x.0) u b others law managed owned
            (delivery_called w r.good (Ours wild past w r) Acting (Unit {0}) sent run media
            (λ p label place f c login which e. reply_step_of wild past w r sent is_for run media.disks then p label place f c login which e (answers p label place f c login which e))
            (λ q c ours h. ring_small wild past w r q c ours h)
            (λ p f bar q c pointer d ask e ours. point_small wild past w r sent is_for p f bar q c pointer d ask e ours)
            reply_up ring_up point_up (λ p label f. tt))

    -- ---- a transaction of it times out
    late_apart : (q : ℕ) (which : Which) → (lost_step (machine_at w q) which causes.Timeout).0.ended ≡ None → (offset size : ℕ) → (lost_step (machine_at w q) which causes.Timeout).0.ask ≡ asks.Write offset size → ⊥
    late_apart q Main none offset size e = none_wrote offset size (sym (lost_asks (machine_at w q) causes.Timeout none) ∙ e)
    late_apart q Ahead none offset size e = none_wrote offset size (sym (ap (λ (step : AgentStep). step.ask) (quiet_ahead (machine_at w q) causes.Timeout)) ∙ e)

    module _ (layer : Layer Purpose) (peer : ℕ) (label : LabelParts) (purpose : Option Purpose) (serial : ℕ) where
      abbrev y : Scene
      y = timed_out purpose peer label (first w r.good layer)

      module _ (u : WorldState) (b : Behind (notes.TimedOut serial) w u) (others : AreOthers y.outbox.sides) (law : PassLaw wild (hist past (handed_out 0 0 y.outbox u))) (late_up : (place : ℕ) → place < 8 → (which : Which) → which_in (desk_at w.target place) peer label ≡ Some which → Acting place) (managed : (answer : Answer) → y ≡ manage answer (first w r.good layer) → S i past (handed_out 0 0 y.outbox u)) (owned : AreOwnOf w i) where
        pub lapse_sends : S i past (handed_out 0 0 y.outbox u)
        lapse_sends =
            hands layer y (notes.TimedOut serial) (late_first serial) u b others law managed owned
            (lapse_called w r.good (Ours wild past w r) Acting (Unit {0}) layer peer label
            (λ place c login which e. late_step_of wild past w r peer label layer place c login which e (λ ours none offset size wrote fifo. late_apart place which none offset size wrote))
            late_up purpose (λ f. tt))
