-- What is carried on of an initiator, as it does an action.
use Rattle.sbp_world.proofs.Words.Std.{unwrap_or, arith, ◌≡◌, ◌⊎◌, inl, inr, refl, sym, ◌∙◌, ap, subst, ℕ, suc, ◌+◌, ◌≤◌, ◌==◌, nat_eq, is_some, not, Bool, true, false, cond, List, [], ◌∷◌, Option, Some, None, nat_tests}
use Rattle.sbp_world.proofs.Words.Wire.{transaction, Asked, header_to, request_with, Layer, Access, access_of, empty_outbox, Moment, said, Sending, Terms, terms, Action, Outgoing}
use Rattle.sbp_world.proofs.Words.Initiator.{start, PresentList, response_in, Demand, Pointing, Purpose, Wanted, InitiatorState, act_step, asked_for, counted_list, demand_of, ring_demand, Turn, is_in_live, rings, is_answered, is_list, is_unwritten, place_of, session_of, wanted_body, own, acts}
use Rattle.sbp_world.proofs.Words.Laws.{action_notes, cuts_list, running_operation, host_at, live, operation_of, present_list, access_in_bytes, event_of}
use Rattle.sbp_world.proofs.Words.World.{Pins, behind, Core, AreRows, MayPoint, is_answered_at, names_answered, MaySend, MayWrite, NonePoints, pointer_write, writes_bell, writes_enable, writes_management, writes_pointer, writes_reset}
use Rattle.bus_memory.specs.declared.window.Window.TheVariants as windows
use Rattle.sbp_journal.specs.declared.event.Event.TheVariants as events
use Rattle.sbp_journal.specs.declared.note.Note.TheVariants as notes
use Rattle.sbp_initiator.specs.declared.purpose.Pointing.TheVariants as pointings
use Rattle.sbp_initiator.proofs.Histories.Actions.{Allowed}
use Rattle.sbp_initiator.proofs.Histories.Effects.{HasMarks}
use Rattle.sbp_world.proofs.Hosts.ActLeft.{ActLeft, act_left}
use Rattle.sbp_world.proofs.Hosts.Aimed.{aimed_carried}
use Rattle.sbp_world.proofs.Hosts.Asked.{IsRequest, number_in}
use Rattle.sbp_world.proofs.Hosts.Carries.{Does, IsLineOf}
use Rattle.sbp_world.proofs.Hosts.Held.{sent_new, sent_old}
use Rattle.sbp_world.proofs.Hosts.Hosted.{Cored, marks_of}
use Rattle.sbp_world.proofs.Hosts.OrbTerms.{orb_terms, orbs_left, told_left as orbs_told}
use Rattle.sbp_world.proofs.Hosts.Pointed.{Pointed, pointed_carried}
use Rattle.sbp_world.proofs.Hosts.PointerNotes.{Fit, asked_pointer, pointer, pointer_after, tame_told}
use Rattle.sbp_world.proofs.Hosts.Pointing.{asked_generation, called_of, wrote_is}
use Rattle.sbp_world.proofs.Hosts.Shown.{IsShown}
use Rattle.sbp_world.proofs.Hosts.Telling.{action_law}
use Rattle.sbp_world.proofs.Pointers.Ages.{moment_closes, moment_generation}
use Rattle.sbp_world.proofs.Pointers.Asks.{Asking, Cutting, act_allowed, act_bytes, asked_write, asks_enable, asks_for, asks_management, asks_reset, asks_ring, cutting, live_session, ring_list, ring_rings, ring_wanted, ringing}
use Rattle.sbp_world.proofs.Pointers.GuardActs.{Told, action_told, cutting_is, none_underway}
use Rattle.sbp_world.proofs.Pointers.GuardHears.{answered_split}
use Rattle.sbp_world.proofs.Pointers.Guarded.{Guarded, Kept, firsts, firsts_same, unwritten_answered}
use Rattle.sbp_world.proofs.Pointers.Passing.{AreApart, Goes, current_goes, none_goes, others_stand, told_goes}
use Rattle.sbp_world.proofs.Pointers.PendActs.{act_pends, ends_none}
use Rattle.sbp_world.proofs.Pointers.Pends.{Pend}
use Rattle.sbp_world.proofs.Pointers.ActShows.{act_showing}
use Rattle.sbp_world.proofs.Pointers.Resetting.{Resets, asking_resets, quiet_resets, still_resets, told_fades}
use Rattle.sbp_world.proofs.Pointers.Showing.{IsShowing, aparts_present}
use Rattle.sbp_world.proofs.Pointers.WaitActs.{asking_asks, counts_now}
use Rattle.sbp_world.proofs.Pointers.Waits.{Asks, counted_in, told_asks}
use Rattle.sbp_world.proofs.Pointers.Steps.{ToldAs, told_apart, told_as, told_left}
use Rattle.sbp_world.proofs.Hosts.PointActs.{has_list, named_on}
use Rattle.sbp_world.proofs.Common.{untrue}

-- What is known of an initiator as a line begins: the run terms are its rows, and what an action asks for is spelled in the bytes of its request.
pub record Ready (past : List Moment) (i : ℕ) (s : InitiatorState) : Type 0 where
  pub rows : AreRows past i s.lists.slots
  pub pin : Pins s.operation s.lists.slots.pinned
  pub spelled : (action : Action) (demand : Demand) (asked : Asked) → demand_of action s ≡ Some demand → (asked_for demand s).0 ≡ Some asked → access_in_bytes asked.bytes ≡ access_of (request_with (header_to 0 0 0) (wanted_body demand.wanted))

-- what is named behind a request
pub data Named (rung : Bool) (serial : ℕ) (old : Option ℕ) (n : ℕ) : Type 0 where
  as_before : old ≡ Some n → Named rung serial old n
  as_now : rung ≡ true → old ≡ None → n ≡ serial → Named rung serial old n

either_name : {rung : Bool} {serial : ℕ} {old : Option ℕ} {n : ℕ} → Named rung serial old n → (old ≡ Some n) ⊎ (n ≡ serial)
either_name (as_before e) = inl e
either_name (as_now r p e) = inr e

named : (rung : Bool) (serial : ℕ) (old : Option ℕ) (n : ℕ) → pointer_after rung serial old ≡ Some n → Named rung serial old n
named true serial None n e = as_now refl refl (let f : serial ≡ n = cc in sym f)
named true serial (Some first) n e = as_before e
named false serial old n e = as_before e

pub same_action : (i : ℕ) (a b : Action) → Some (events.Act i a) ≡ Some (events.Act i b) → a ≡ b
same_action i a b e = cc

pub none_named : (found : Option ℕ) → ((n : ℕ) → found ≡ Some n → ⊥) → found ≡ None
none_named None f = refl
none_named (Some n) f = absurd (f n refl)

named_one : (found : Option ℕ) → is_some found ≡ true → (n : ℕ) × (found ≡ Some n)
named_one None e = untrue e
named_one (Some n) e = (n, refl)

written_is : (access : Access) {own : Access} → Some access ≡ Some own → access ≡ own
written_is access e = cc

-- ORB_POINTER that is not written and not answered is not pended
free_mark : {A : Type 0} (mark : Pointing) → (is_unwritten mark ≡ true → A) → (is_answered mark ≡ true → A) → (mark ≡ pointings.Written → A) → A
free_mark pointings.Unwritten f g h = f refl
free_mark pointings.Written f g h = h refl
free_mark pointings.Answered f g h = g refl

module _ (ready : Bool) (action : Action) (past : List Moment) (i : ℕ) (s : InitiatorState) (under : event_of past ≡ Some (events.Act i action)) (fit : IsLineOf action) (done : (act_step action empty_outbox s).0 ≡ None) (shown : IsShown past i s.target s.layer) (known : Ready past i s) (h : Guarded ready past i s) where
  abbrev t : Turn
  t = (act_step action empty_outbox s).1

  abbrev ms : List Moment
  ms = behind t.0.sides past

  left : ActLeft action s t
  left = act_left action s done

  cored : Cored ready past i s
  cored = h.pointed.cored

  a : Allowed action s
  a = act_allowed action s done

  sides_are : t.0.sides ≡ own (action_notes action past i)
  sides_are =
      action_law.notes past s action empty_outbox (subst (λ j. AreRows past j s.lists.slots) (sym cored.own.number) known.rows) done
      ∙ ap (λ j. own (action_notes action past j)) cored.own.number

  ms_are : behind (own (action_notes action past i)) past ≡ ms
  ms_are = ap (λ sides. behind sides past) (sym sides_are)

  told : Told past i action s ms
  told = subst (Told past i action s) ms_are (action_told past i action s known.rows cored.core a h.pend (ring_list action s a))

  goes : Goes past ms i
  goes = told_goes t.0.sides past i left.told

  as_told : ToldAs past i action (action_notes action past i)
  as_told = told_as past i action

  marks : HasMarks s.lists.slots.present s.marks.pointing
  marks = marks_of ready i s cored.own.called

  pend_now : Pend false (firsts ms i) t.1
  pend_now = act_pends (firsts past i) (firsts ms i) action s marks told.places h.pend done

  -- ---- others

  others_act : Does (Pointed ready) past i t → (j : ℕ) (x : InitiatorState) → (j == i) ≡ false → Guarded ready past j x → Guarded ready ms j x
  others_act d j x e g =
      let apart = subst (AreApart j) (sym sides_are) (told_apart past i j action (action_notes action past i) e as_told) in
      let orbs : orb_terms ms j ≡ orb_terms past j = ap (λ xs. orb_terms xs j) (sym ms_are) ∙ orbs_told (action_notes action past i) past j (told_left past i j action (action_notes action past i) e as_told) in
      let all = told_goes t.0.sides past j left.told in
      record {
        pointed = d.others j x e g.pointed;
        aimed = g.aimed;
        pend = firsts_same past ms j x orbs g.pend;
        generation = g.generation ∙ sym all.generation;
        kept = λ f.
            let k = g.kept ((tame_told t.0.sides past j left.told).fit f) in
            record {
              answered = λ z. none_goes all (k.answered z);
              current = current_goes all k.current;
              told = others_stand t.0.sides past j apart k.told;
            };
        asks = λ f. told_asks t.0.sides past j x.target x.layer left.told (g.asks ((tame_told t.0.sides past j left.told).fit f));
        resets = λ f.
            let k = tame_told t.0.sides past j left.told in
            still_resets past ms j x (told_fades t.0.sides past j left.told) (λ v m. ap (λ (y : Terms). y.held (transaction v (suc j) 0 m)) k.wire) (d.others j x e g.pointed).cored (g.resets (k.fit f));
        shown = λ n f. aparts_present t.0.sides past j apart ∙ g.shown n f;
      }

  shown_now : IsShowing ms i t.1
  shown_now = act_showing action past i s fit.0 done (record { number = cored.own.number; rows = known.rows; pin = known.pin })

  -- a read of AGENT_STATE that counts for a list tells of it
  state_tells : Fit past → (demand : Demand) → demand_of action s ≡ Some demand → (n : ℕ) → counted_in demand.purpose ≡ Some n → (names_answered ms (pointer ms i) ≡ true) × (present_list ms i ≡ Some n)
  state_tells f demand d n e =
      let c = counts_now action s demand n d e in
      let l = listed s.lists.slots.present n c.counted in
      let same : ms ≡ past = ap (λ told_sides. behind told_sides past) (sides_are ∙ ap (λ x. own (action_notes x past i)) c.is) in
      let wrote : is_some (pointer past i) ≡ true = wrote_is cored ∙ written s.marks.pointing l.0 in
      subst (λ x. (names_answered x (pointer x i) ≡ true) × (present_list x i ≡ Some n)) (sym same)
      (named_answered (pointer past i) wrote (((h.kept f).answered l.0).answered), h.shown n l.1)
    where
      is_this : (b : Bool) (list : PresentList) (m : ℕ) → cond b (Some list.tail.list) None ≡ Some m → (b ≡ true) × (is_list (Some list) m ≡ true)
      is_this true list m f = (refl, (let same : list.tail.list ≡ m = cc in (let z : nat_eq list.tail.list m ≡ true = grind (arith, nat_tests) in z)))
      is_this false list m f = absurd (let differ : None ≡ Some m = f in cc)

      listed : (present : Option PresentList) (m : ℕ) → counted_list present s ≡ Some m → (is_answered s.marks.pointing ≡ true) × (is_list present m ≡ true)
      listed None m f = absurd (let differ : None ≡ Some m = f in cc)
      listed (Some list) m f = is_this (is_answered s.marks.pointing) list m f

      written : (mark : Pointing) → is_answered mark ≡ true → not (is_unwritten mark) ≡ true
      written pointings.Answered f = refl
      written pointings.Unwritten f = untrue f
      written pointings.Written f = untrue f

      named_answered : (p : Option ℕ) → is_some p ≡ true → ((m : ℕ) → p ≡ Some m → is_answered_at past m ≡ true) → names_answered past p ≡ true
      named_answered None f g = untrue f
      named_answered (Some m) f g = g m refl

  -- ---- an action that sends nothing

  answers : is_answered t.1.marks.pointing ≡ true → is_answered s.marks.pointing ≡ true
  answers e = answered_split ready i s (acts action) fit.0 cored.own.called e (λ f. untrue f) (λ f. f)

  quiet_kept : Fit ms → Kept ms i t.1
  quiet_kept f =
      let k = h.kept ((tame_told t.0.sides past i left.told).fit f) in
      record { answered = λ e. none_goes goes (k.answered (answers e)); current = current_goes goes k.current; told = told.stands k.told }

  -- ---- and one that sends a request

  module _ (packet : Outgoing) (one : t.0.packets ≡ packet ∷ []) (serial generation : ℕ) (injected : (terms past).injected serial ≡ false) (q : IsRequest (number_in packet.label) packet.bytes) where
    abbrev now : List Moment
    now = said (notes.Sent serial generation (suc i) 0 packet.bytes) ∷ ms

    abbrev sending : Sending
    sending = record { generation = generation; from = suc i; to = 0; bytes = packet.bytes; injected = (terms ms).injected serial }

    honest : (terms ms).injected serial ≡ false
    honest = ap (λ (y : Terms). y.injected serial) told.wire ∙ injected

    name_is : pointer now i ≡ pointer_after (rings action) serial (pointer ms i)
    name_is = asked_pointer action serial generation 0 packet.bytes ms i (told.line ∙ under) q honest

    named_as : (n : ℕ) → pointer now i ≡ Some n → Named (rings action) serial (pointer ms i) n
    named_as n e = named (rings action) serial (pointer ms i) n (sym name_is ∙ e)

    -- it names ORB_POINTER only where that was not written
    unwritten_by : (b : Bool) → is_unwritten s.marks.pointing ≡ b → rings action ≡ true → pointer ms i ≡ None → is_unwritten s.marks.pointing ≡ true
    unwritten_by true e r p = e
    unwritten_by false e r p =
        let same = left.names r (has_list s.lists.slots.present s.marks.pointing marks e) past i in
        untrue (sym (ap is_some (sym same ∙ p)) ∙ wrote_is cored ∙ ap not e)

    unwritten : rings action ≡ true → pointer ms i ≡ None → is_unwritten s.marks.pointing ≡ true
    unwritten r p = unwritten_by (is_unwritten s.marks.pointing) refl r p

    session_now : is_in_live (session_of s.seat) ≡ true → (host_at ms i).session ≡ live
    session_now e = told.session ∙ ap (λ (c : Core). c.session) cored.core ∙ live_session s.seat e

    -- the write of ORB_POINTER
    points : rings action ≡ true → pointer ms i ≡ None → MayPoint ms i 0 packet.bytes
    points r p =
        let rung = told.rung r in
        let has = act_bytes action s packet done one in
        let demand : ring_demand s ≡ has.demand = (let x = sym (ringing action s a r).asks ∙ has.is in cc) in
        let base = (response_in s.seat).agent in
        record {
          list = rung.list;
          present = rung.present;
          unwritten = p;
          to_target = refl;
          base = base;
          spelled = ap access_in_bytes has.bytes
              ∙ known.spelled action has.demand has.asked has.is has.found
              ∙ ap (λ (d : Demand). access_of (request_with (header_to 0 0 0) (wanted_body d.wanted))) (sym demand)
              ∙ ap (λ (w : Wanted). access_of (request_with (header_to 0 0 0) (wanted_body w))) (ring_wanted s (unwritten r p))
              ∙ ap (λ slot. Some (pointer_write base (start (windows.Orb slot)))) rung.slot;
        }

    -- what it writes
    rung_writes : (b : Bool) → is_unwritten s.marks.pointing ≡ b → rings action ≡ true → (access : Access) (demand : Demand) → demand_of action s ≡ Some demand → asks_for demand ≡ Some access → MayWrite ms i (pointer now i) serial action access
    rung_writes true e r access demand d f =
        let none : pointer ms i ≡ None = none_named (pointer ms i) (λ n p. untrue (sym (wrote_is cored ∙ ap not e) ∙ ap is_some (goes.fades n p))) in
        writes_pointer r (name_is ∙ ap (λ b. pointer_after b serial (pointer ms i)) r ∙ ap (pointer_after true serial) none)
    rung_writes false e r access demand d f =
        let rung = told.rung r in
        let same = left.names r (has_list s.lists.slots.present s.marks.pointing marks e) past i in
        let other = named_one (pointer past i) (wrote_is cored ∙ ap not e) in
        let asks : ring_demand s ≡ demand = (let x = sym (ringing action s a r).asks ∙ d in cc) in
        writes_bell r rung.list other.0 (response_in s.seat).agent rung.present (same ∙ other.1)
        (written_is access
        (sym f
        ∙ ap (λ (x : Demand). access_of (request_with (header_to 0 0 0) (wanted_body x.wanted))) (sym asks)
        ∙ ap (λ (x : Wanted). access_of (request_with (header_to 0 0 0) (wanted_body x))) (ring_rings s e)))

    asking_writes : (access : Access) (demand : Demand) → demand_of action s ≡ Some demand → asks_for demand ≡ Some access → Asking s action access → MayWrite ms i (pointer now i) serial action access
    asking_writes access demand d f (asks_ring r) = rung_writes (is_unwritten s.marks.pointing) refl r access demand d f
    asking_writes access demand d f (asks_reset e g) = writes_reset e (response_in s.seat).agent g
    asking_writes access demand d f (asks_enable e g) = writes_enable e (response_in s.seat).agent g
    asking_writes access demand d f (asks_management m g) = writes_management m (unwrap_or s.management 0) (place_of s.counts.managed) g

    may_write : (access : Access) → access_in_bytes packet.bytes ≡ Some access → access.is_write ≡ true → MayWrite ms i (pointer now i) serial action access
    may_write access e w =
        let has = act_bytes action s packet done one in
        let f : asks_for has.demand ≡ Some access = sym (known.spelled action has.demand has.asked has.is has.found) ∙ sym (ap access_in_bytes has.bytes) ∙ e in
        asking_writes access has.demand has.is f (asked_write s has.demand access action has.is f w)

    not_it : {A : Type 0} (n : ℕ) → n ≤ (terms past).count → serial ≡ (terms ms).count + 1 → n ≡ serial → A
    not_it n l e f = let g = ap (λ (y : Terms). y.count) told.wire in absurd (let x : ⊥ = omega arith in x)

    -- what is sent may be
    may_send : Fit now → MaySend ms i serial generation 0 packet.bytes
    may_send f =
        let k = h.kept ((tame_told t.0.sides past i left.told).fit (record { serials = f.serials.1; sent = f.sent.1 })) in
        let below = (h.pointed.points ((tame_told t.0.sides past i left.told).fit (record { serials = f.serials.1; sent = f.sent.1 }))).below in
        record {
          stays = λ n e. name_is ∙ named_on (rings action) serial (pointer ms i) n e;
          names = λ n e. either_name (named_as n e);
          points = λ e. pointing below f (named_as serial e);
          rung = λ other e r.
              let same = same_action i other action (sym e ∙ told.line ∙ under) in
              let ring = ringing action s a (ap rings (sym same) ∙ r) in
              (ap (λ o. cuts_list (running_operation o)) told.operation ∙ cutting_is past i s cored.core ∙ a.steps ring.step, session_now ring.session);
          cuts = λ other e c.
              let same = same_action i other action (sym e ∙ told.line ∙ under) in
              let cut = cutting action s a (ap (λ x. cuts_list (operation_of x)) (sym same) ∙ c) in
              (told.operation ∙ none_underway past i s cored.core cut.free, (session_now cut.session, none_goes goes (none_points k cut)));
          writes = λ other e access f w.
              subst (λ x. MayWrite ms i (pointer now i) serial x access) (sym (same_action i other action (sym e ∙ told.line ∙ under))) (may_write access f w);
        }
      where
        pointing : ((n : ℕ) → pointer past i ≡ Some n → n ≤ (terms past).count) → Fit now → Named (rings action) serial (pointer ms i) serial → MayPoint ms i 0 packet.bytes
        pointing below f (as_before p) = not_it serial (below serial (goes.fades serial p)) f.serials.0 refl
        pointing below f (as_now r p e) = points r p

        none_points : Kept past i s → Cutting s → NonePoints past i
        none_points k cut =
            free_mark s.marks.pointing
            (λ e. record { answered = λ n p. untrue (sym (wrote_is cored ∙ ap not e) ∙ ap is_some p) })
            (λ e. k.answered e)
            (λ e. ends_none (firsts past i) cut.session cut.unpointed h.pend e)

    asking_kept : Fit now → Kept now i t.1
    asking_kept f =
        let g : Fit ms = record { serials = f.serials.1; sent = f.sent.1 } in
        let k = h.kept ((tame_told t.0.sides past i left.told).fit g) in
        let below = (h.pointed.points ((tame_told t.0.sides past i left.told).fit g)).below in
        record {
          answered = λ e. record { answered = λ n p. answered_by k (answers e) n (named_as n p) };
          current = λ n x p z. current_by k below f n x z (named_as n p);
          told = ((λ same h. may_send f), told.stands k.told);
        }
      where
        answered_by : Kept past i s → is_answered s.marks.pointing ≡ true → (n : ℕ) → Named (rings action) serial (pointer ms i) n → is_some ((terms now).closed n) ≡ true
        answered_by k e n (as_before p) = moment_closes (said (notes.Sent serial generation (suc i) 0 packet.bytes)) ms n (goes.closed n ((k.answered e).answered n (goes.fades n p)))
        answered_by k e n (as_now r p z) = unwritten_answered s.marks.pointing (unwritten r p) e

        current_by : Kept past i s → ((n : ℕ) → pointer past i ≡ Some n → n ≤ (terms past).count) → Fit now → (n : ℕ) (x : Sending) → (terms now).sent n ≡ Some x → Named (rings action) serial (pointer ms i) n → x.generation ≡ (terms now).generation (suc i)
        current_by k below f n x z (as_before p) =
            let old = goes.fades n p in
            let apart : nat_eq n serial ≡ false = (let b = below n old in let c = f.serials.0 in let d = ap (λ (y : Terms). y.count) told.wire in grind (arith, nat_tests)) in
            k.current n x old (sym (sent_old serial n sending (terms ms) apart ∙ goes.sent n) ∙ z)
            ∙ sym (moment_generation (suc i) (said (notes.Sent serial generation (suc i) 0 packet.bytes)) ms refl ∙ goes.generation)
        current_by k below f n x z (as_now r p e) =
            let is : sending ≡ x = (let y = sym (sent_new serial sending (terms ms)) ∙ ap (terms now).sent (sym e) ∙ z in cc) in
            ap (λ (y : Sending). y.generation) (sym is)
            ∙ (f.sent.0 honest).now
            ∙ sym (moment_generation (suc i) (said (notes.Sent serial generation (suc i) 0 packet.bytes)) ms refl)

  pub does_guarded : Does (Guarded ready) past i t
  does_guarded =
      let d = (pointed_carried ready).acts action past i s under fit done shown tt h.pointed in
      let m = (aimed_carried ready).acts action past i s under fit done shown tt h.aimed in
      record {
        others = others_act d;
        quiet = λ none. record {
          pointed = d.quiet none;
          aimed = m.quiet none;
          pend = pend_now;
          generation = ap (λ (l : Layer Purpose). l.generation) (left.quiet none) ∙ h.generation ∙ sym goes.generation;
          kept = quiet_kept;
          asks = λ f.
              subst (λ (l : Layer Purpose). Asks ms i t.1.target l) (sym (left.quiet none))
              (subst (λ x. Asks ms i x s.layer) (sym left.target_is) (told_asks t.0.sides past i s.target s.layer left.told (h.asks ((tame_told t.0.sides past i left.told).fit f))));
          resets = λ f.
              let k = tame_told t.0.sides past i left.told in
              quiet_resets past ms i s t (left.quiet none) left.target_is (told_fades t.0.sides past i left.told) (λ v m. ap (λ (y : Terms). y.held (transaction v (suc i) 0 m)) k.wire) (d.quiet none).cored (h.resets (k.fit f));
          shown = shown_now;
        };
        asking = λ packet one serial generation f q. record {
          pointed = d.asking packet one serial generation f q;
          aimed = m.asking packet one serial generation f q;
          pend = firsts_same ms (said (notes.Sent serial generation (suc i) 0 packet.bytes) ∷ ms) i t.1 (orbs_left (notes.Sent serial generation (suc i) 0 packet.bytes) ms i refl) pend_now;
          generation =
              let x = left.asking packet one in
              asked_generation s.layer s.target (wanted_body x.demand.wanted) x.demand.purpose x.asked t.1.layer x.step
              ∙ h.generation
              ∙ sym (moment_generation (suc i) (said (notes.Sent serial generation (suc i) 0 packet.bytes)) ms refl ∙ goes.generation);
          kept = asking_kept packet one serial generation f q;
          asks = λ g.
              subst (λ x. Asks (said (notes.Sent serial generation (suc i) 0 packet.bytes) ∷ ms) i x t.1.layer) (sym left.target_is)
              (asking_asks action past i s t under shown (called_of cored) (h.asks ((tame_told t.0.sides past i left.told).fit (record { serials = g.serials.1; sent = g.sent.1 }))) left packet one serial generation f q g (state_tells ((tame_told t.0.sides past i left.told).fit (record { serials = g.serials.1; sent = g.sent.1 }))));
          resets = λ g.
              let old = (tame_told t.0.sides past i left.told).fit (record { serials = g.serials.1; sent = g.sent.1 }) in
              subst (λ x. Resets (said (notes.Sent serial generation (suc i) 0 packet.bytes) ∷ ms) i x t.1.layer) (sym left.target_is)
              (asking_resets action past i s t under shown cored a.free (h.asks old) (h.resets old) left told.operation packet one serial generation f q g
              (asking_asks action past i s t under shown (called_of cored) (h.asks old) left packet one serial generation f q g (state_tells old)));
          shown = shown_now;
        };
      }
