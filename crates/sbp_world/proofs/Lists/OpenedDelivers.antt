-- Which agents are out of RESET behind a turn of the target: those that were so before, of the same initiators, and one whose pointer it takes in this turn.
use Rattle.sbp_world.proofs.Words.Std.{arith, ◌≡◌, ◌⊎◌, inl, inr, ◌∙◌, refl, sym, ap, subst, ◌<◌, ◌||◌, ◌&&◌, not, ℕ, suc, nat_eq, nat_lt, Bool, true, false, cond, List, [], ◌∷◌, ◌++◌, map, length, Option, Some, None, Ok, slice_index_or, nat_tests, false≢true}
use Rattle.sbp_world.proofs.Words.Wire.{reading, as_sending, Sent, found_sent, is_flying, deliver_step, Holder, judged_note, holder_at, or_nobody, place_in, Judged, Note, OutboxState, Moment, said, Sending, terms}
use Rattle.sbp_world.proofs.Words.Target.{Disk, Told, NodeState, scene, received, Whole, orb_of, point_step}
use Rattle.sbp_world.proofs.Words.Initiator.{slot_of, ListState, last_at, InitiatorState, new_state}
use Rattle.sbp_world.proofs.Words.Laws.{list_in, named_in}
use Rattle.sbp_world.proofs.Words.World.{marked, whole_of, handed_out, holder, ticket_at, ticket_of, told_all, Scene, WorldState, initiator_at, with_note, with_target, AreHeldAt, AreRows, IsCalm, AsGot, IsUp, as_got, got_as, view, IsPointedBy}
use Rattle.sbp_bus.specs.Telling as bus
use Rattle.sbp_journal.specs.declared.note.Note.TheVariants as notes
use Rattle.target_base.specs.declared.address.Access.TheVariants as accesses
use Rattle.sbp_world.proofs.Wire.Nodes.{handed_alike}
use Rattle.sbp_target.proofs.Histories.Calling.{Good}
use Rattle.sbp_world.proofs.Agents.Management.Holding.{Holding, good_of, was_sent}
use Rattle.sbp_world.proofs.Agents.Management.Still.{hist}
use Rattle.sbp_world.proofs.Agents.Peers.{all_sent_places}
use Rattle.sbp_world.proofs.Lists.OpenCuts.{Here, Listing, Open}
use Rattle.sbp_world.proofs.Lists.OpenDeliveries.{Points, delivery_open}
use Rattle.sbp_world.proofs.Lists.OpenFresh.{Writes, never_new}
use Rattle.sbp_world.proofs.Lists.OpenNews.{got_news}
use Rattle.sbp_world.proofs.Lists.OpenOwners.{came_from}
use Rattle.sbp_world.proofs.Lists.OpenPlaces.{Has}
use Rattle.sbp_world.proofs.Lists.OpenTurns.{AreSeated, Before, sound}
use Rattle.sbp_world.proofs.Lists.OpenWorlds.{named_list, taken}
use Rattle.sbp_world.proofs.Lists.OpenedGrown.{got_remains}
use Rattle.sbp_world.proofs.Lists.OpenedTurns.{Opens, WasUp}

both_so : (a b : Bool) (new old : Option AsGot) → a ≡ true → b ≡ true → cond (a && b) new old ≡ new
both_so true true new old e f = refl
both_so true false new old e f = absurd (false≢true f)
both_so false b new old e f = absurd (false≢true e)

module _ (units logins : ℕ) (has : 0 < units) (start : List Disk) {past : List Moment} {lines : ℕ} (w : WorldState) (h : Holding units logins start past lines w) (held : AreHeldAt start (hist past w) w) where
  abbrev pub good : Good w.target
  good = good_of units logins h.calls w.target has h.made

  pub seats : AreSeated w
  seats = λ p login e. let k = held.held p login e in record { holder_is = k.holder; there = k.there; id_is = k.login_is }

  -- what the target hands out behind what is told
  handed_holder : (u : WorldState) (outbox : OutboxState) (p : ℕ) (x : Holder) → Has (told_all 0 outbox.sides u).places p x → holder (handed_out 0 0 outbox u) p ≡ x
  handed_holder u outbox p x e = ap or_nobody (ap (λ ps. place_in ps p) (all_sent_places 0 outbox.packets (told_all 0 outbox.sides u)) ∙ e)

  handed_listing : (u : WorldState) (node : NodeState) (outbox : OutboxState) → u.target ≡ node → (p : ℕ) → Listing (handed_out 0 0 outbox u).target p → Listing node p
  handed_listing u node outbox e p l = subst (λ (n : NodeState). Listing n p) ((handed_alike 0 0 outbox u).target ∙ e) l

  -- a turn that takes no pointer
  module _ (u : WorldState) (node : NodeState) (outbox : OutboxState) (e : u.target ≡ node) (o : Open u (holder w) (Before w good seats) w.target.logins.places (sound w good seats) (scene node outbox)) where
    pub kept_up : (i p : ℕ) → p < 8 → IsUp (handed_out 0 0 outbox u) i p → WasUp w (handed_out 0 0 outbox u) i p
    kept_up i p b up =
        let l = handed_listing u node outbox e p up.up in
        let same = handed_holder u outbox p (holder w p) (o.kept p b l) in
        record {
          was = record {
            up = (o.own p b l).why;
            own = ap (λ (x : Holder). x.initiator) (sym same) ∙ up.own;
          };
          list = ap (λ (x : Holder). x.list) same;
        }

  -- a packet that comes
  module _ (serial : ℕ) (sent : Sent) (found : found_sent serial w.store.kept ≡ Some sent) (zero_to : sent.to ≡ 0) (run : Option Told) (s : Scene) (again : Bool) where
    abbrev pub turn : Judged × Whole
    turn = received run sent.generation sent.bytes (whole_of w.target s.media)

    abbrev pub told : WorldState
    told = with_note (judged_note serial turn.0) (marked serial again (with_target turn.1.node w))

    abbrev pub end : WorldState
    end = handed_out 0 0 turn.1.outbox told

    pub record Marks : Type 0 where
      pub places : told.places ≡ w.places
      pub initiators : told.initiators ≡ w.initiators
      pub generations : told.generations ≡ w.generations
      pub fresh : told.fresh ≡ judged_note serial turn.0 ∷ w.fresh
      pub target : told.target ≡ turn.1.node

    pub marks : Marks
    marks = by (again || not (is_flying serial w.store.kept))
      where
        Of : Bool → Type 0
        Of b =
            let y = cond b (with_target turn.1.node w) (record (with_target turn.1.node w) { store = deliver_step w.store serial }) in
            (y.places ≡ w.places) × ((y.initiators ≡ w.initiators) × ((y.generations ≡ w.generations) × ((y.fresh ≡ w.fresh) × (y.target ≡ turn.1.node))))

        of : (b : Bool) → Of b
        of true = (refl, (refl, (refl, (refl, refl))))
        of false = (refl, (refl, (refl, (refl, refl))))

        by : Bool → Marks
        by b = let m = of (again || not (is_flying serial w.store.kept)) in record { places = m.0; initiators = m.1.0; generations = m.1.1.0; fresh = ap (λ ns. judged_note serial turn.0 ∷ ns) m.1.1.1.0; target = m.1.1.1.1 }

    -- one that points
    module _ (o : Points w good seats told marks.places sent run s.media turn.0 (scene turn.1.node turn.1.outbox)) (i : ℕ) (calm : IsCalm (hist past w) i) (rows : i < length w.initiators → AreRows (hist past w) i (initiator_at w i).lists.slots) (written : (place address : ℕ) → IsPointedBy (as_sending sent) i place address → Writes sent.bytes) (more : List Note) (is : map said more ++ said (judged_note serial turn.0) ∷ hist past w ≡ hist past end) where
      abbrev q : ℕ
      q = o.place

      abbrev orb : ℕ
      orb = orb_of (point_step (Here w.target q) o.pointer).1

      abbrev new : Holder
      new = record (holder w q) { list = bus.list_in (ticket_at told q orb) }

      pick : (p : ℕ) (z : Bool) → nat_eq p q ≡ z → (cond z new (holder w p)).initiator ≡ (holder w p).initiator
      pick p true e = ap (λ j. (holder w j).initiator) (let same : q ≡ p = grind (arith, nat_tests) in same)
      pick p false e = refl

      there_is : (p : ℕ) → p < 8 → Listing turn.1.node p → holder end p ≡ cond (nat_eq p q) new (holder w p)
      there_is p b l = handed_holder told turn.1.outbox p (cond (nat_eq p q) new (holder w p)) (o.after.0.kept p b l)

      there : (p : ℕ) → p < 8 → Listing turn.1.node p → (holder end p).initiator ≡ (holder w p).initiator
      there p b l = ap (λ (x : Holder). x.initiator) (there_is p b l) ∙ pick p (nat_eq p q) refl

      -- the place of another agent has the list that it had
      other_list : (p : ℕ) (z : Bool) → nat_eq p q ≡ z → z ≡ false → (cond z new (holder w p)).list ≡ (holder w p).list
      other_list p true e f = absurd (false≢true (sym f))
      other_list p false e f = refl

      own_list : (p : ℕ) (z : Bool) → nat_eq p q ≡ z → p ≡ q → (cond z new (holder w p)).list ≡ new.list
      own_list p true e same = refl
      own_list p false e same = absurd (false≢true (sym e ∙ (let x : nat_eq p q ≡ true = grind (arith, nat_tests) in x)))

      -- and that of the one which is pointed has the list of the ORB that is named
      list_by : (b : Bool) → nat_lt i (length told.initiators) ≡ b → i < length w.initiators → bus.list_in (cond b (last_at (initiator_at told i).lists orb) None) ≡ list_in (named_in (hist past w) i (slot_of orb))
      list_by true e l =
          let same : (initiator_at told i).lists ≡ (initiator_at w i).lists = ap (λ (is : List InitiatorState). (slice_index_or is i (new_state 0 false)).lists) marks.initiators in
          ap (λ (k : ListState). bus.list_in (last_at k orb)) same ∙ named_list (hist past w) i (initiator_at w i).lists (rows l) orb
      list_by false e l = absurd (false≢true (sym e ∙ (let z : nat_lt i (length told.initiators) ≡ true = (let y = ap length marks.initiators in grind (arith, nat_tests)) in z)))

      new_list : (holder w q).initiator ≡ i → i < length w.initiators → new.list ≡ list_in (named_in (hist past w) i (slot_of orb))
      new_list own l =
          let same : holder told q ≡ holder w q = ap (λ ps. holder_at ps q) marks.places in
          ap (λ (k : Holder). bus.list_in (ticket_of told k.initiator orb)) same
          ∙ ap (λ j. bus.list_in (ticket_of told j orb)) own
          ∙ list_by (nat_lt i (length told.initiators)) refl l

      pointed_by : sent.from ≡ suc i → reading sent.bytes ≡ Ok o.packet → IsPointedBy (as_sending sent) i q orb
      pointed_by from_is read = record {
        from_is = from_is;
        to_is = zero_to;
        packet = o.packet;
        read = read;
        rom = length w.target.rom;
        pointer = o.pointer;
        asks = o.asks;
        address_is = (taken (Here w.target q) o.pointer o.ask o.took).at;
      }

      opens_at : (p : ℕ) → p < 8 → IsUp end i p → (initiator : (holder end p).initiator ≡ (holder w p).initiator) → p ≡ q → Opens (view (hist past w) i) (view (hist past end) i) i p (holder end p).list
      opens_at p b up initiator same =
          let c = came_from units logins start w h held serial sent found o.packet q (accesses.Point o.pointer) o.found o.bar o.asks in
          let own : (holder w q).initiator ≡ i = ap (λ j. (holder w j).initiator) (sym same) ∙ (sym initiator ∙ up.own) in
          let from_is : sent.from ≡ suc i = c.from_is ∙ ap suc own in
          let sent_is = was_sent w h.sound.stands serial sent found in
          let fresh = fresh_one (pointed_by from_is c.read) from_is c.current in
          let got = ap (λ (j : Judged). map said more ++ said (judged_note serial j) ∷ hist past w) (sym o.got) ∙ is in
          let inside : i < length w.initiators = subst (λ j. j < length w.initiators) own c.inside in
          let l : Listing turn.1.node p = handed_listing told turn.1.node turn.1.outbox marks.target p up.up in
          let list : (holder end p).list ≡ list_in (named_in (hist past w) i (slot_of orb)) = ap (λ (x : Holder). x.list) (there_is p b l) ∙ (own_list p (nat_eq p q) refl same ∙ new_list own inside) in
          record {
            serial = serial;
            packet = as_sending sent;
            sent = sent_is;
            current = c.current;
            fresh = fresh;
            got = got_news serial (map said more) (hist past w) (hist past end) (as_sending sent) got sent_is;
            address = orb;
            at = subst (λ j. IsPointedBy (as_sending sent) i j orb) (sym same) (pointed_by from_is c.read);
            named = named_at (map said more) (hist past end) got fresh sent_is ∙ ap (as_got (Some (as_sending sent))) (sym list);
          }
        where
          fresh_one : IsPointedBy (as_sending sent) i q orb → sent.from ≡ suc i → sent.generation ≡ (terms (hist past w)).generation 0 → (terms (hist past w)).news serial ≡ 0
          fresh_one pointed from_is current =
              let x = written q orb pointed in
              never_new w h.sound.stands serial sent found zero_to x.label x.part (ap (λ n. (terms (hist past w)).injects n) from_is ∙ calm) o.packet o.found current

          -- as it was got
          first_as : (terms (hist past w)).news serial ≡ 0 → (terms (hist past w)).sent serial ≡ Some (as_sending sent) → got_as (said (notes.Got serial) ∷ hist past w) serial i orb ≡ as_got (Some (as_sending sent)) (list_in (named_in (hist past w) i (slot_of orb)))
          first_as fresh sent_is =
              let H = hist past w in
              let named = list_in (named_in H i (slot_of orb)) in
              let own : nat_eq serial serial ≡ true = grind (arith, nat_tests) in
              let none : nat_eq ((terms H).news serial) 0 ≡ true = grind (arith, nat_tests) in
              both_so (nat_eq serial serial) (nat_eq ((terms H).news serial) 0) (as_got ((terms H).sent serial) named) (got_as H serial i orb) own none
              ∙ ap (λ (packet : Option Sending). as_got packet named) sent_is

          named_at : (later : List Moment) (now : List Moment) → later ++ said (notes.Got serial) ∷ hist past w ≡ now → (terms (hist past w)).news serial ≡ 0 → (terms (hist past w)).sent serial ≡ Some (as_sending sent) → got_as now serial i orb ≡ as_got (Some (as_sending sent)) (list_in (named_in (hist past w) i (slot_of orb)))
          named_at later now is fresh sent_is =
              let start = said (notes.Got serial) ∷ hist past w in
              ap (λ ms. got_as ms serial i orb) (sym is)
              ∙ got_remains later start serial i orb (got_news serial [] (hist past w) start (as_sending sent) refl sent_is)
              ∙ first_as fresh sent_is

      pub point_up : (p : ℕ) → p < 8 → IsUp end i p → WasUp w end i p ⊎ Opens (view (hist past w) i) (view (hist past end) i) i p (holder end p).list
      point_up p b up = by (nat_eq p q) refl ((o.after.0.own p b l).why)
        where
          l : Listing turn.1.node p
          l = handed_listing told turn.1.node turn.1.outbox marks.target p up.up

          initiator : (holder end p).initiator ≡ (holder w p).initiator
          initiator = there p b l

          by : (y : Bool) → nat_eq p q ≡ y → Listing w.target p ⊎ (p ≡ q) → WasUp w end i p ⊎ Opens (view (hist past w) i) (view (hist past end) i) i p (holder end p).list
          by true y why = inr (opens_at p b up initiator (grind (arith, nat_tests)))
          by false y (inl before) = inl (record { was = record { up = before; own = sym initiator ∙ up.own }; list = ap (λ (x : Holder). x.list) (there_is p b l) ∙ other_list p (nat_eq p q) refl y })
          by false y (inr same) = inr (opens_at p b up initiator same)

    pub delivery_up : (i : ℕ) → IsCalm (hist past w) i → (i < length w.initiators → AreRows (hist past w) i (initiator_at w i).lists.slots) → ((place address : ℕ) → IsPointedBy (as_sending sent) i place address → Writes sent.bytes) → (more : List Note) → map said more ++ said (judged_note serial turn.0) ∷ hist past w ≡ hist past end → (p : ℕ) → p < 8 → IsUp end i p → WasUp w end i p ⊎ Opens (view (hist past w) i) (view (hist past end) i) i p (holder end p).list
    delivery_up i calm rows written more is = by (delivery_open w good seats told marks.places sent run s.media)
      where
        by : Open told (holder w) (Before w good seats) w.target.logins.places (sound w good seats) (scene turn.1.node turn.1.outbox) ⊎ Points w good seats told marks.places sent run s.media turn.0 (scene turn.1.node turn.1.outbox) → (p : ℕ) → p < 8 → IsUp end i p → WasUp w end i p ⊎ Opens (view (hist past w) i) (view (hist past end) i) i p (holder end p).list
        by (inl k) p b up = inl (kept_up told turn.1.node turn.1.outbox marks.target k i p b up)
        by (inr o) p b up = point_up o i calm rows written more is p b up
