-- In every run an initiator writes and reads at the registers of its session's agent.
use Rattle.sbp_world.proofs.Words.Std.{◌≡◌, refl, sym, ◌∙◌, ap, subst, ℕ, ◌+◌, ◌%◌, ◌^◌, ◌<◌, ◌&&◌, nat_lt, is_some, Bool, true, false, cond, length, List, [], ◌∷◌, ◌++◌, map, Option, Some, None, same_Some, big_bytes}
use Rattle.sbp_world.proofs.Words.Wire.{Access, Moment, asked, said, Sending, terms}
use Rattle.sbp_world.proofs.Words.Initiator.{start, PresentList, InitiatorState, new_state, is_list}
use Rattle.sbp_world.proofs.Words.Laws.{new_host, ready_host, injectors, present_list, slot_at, access_in_bytes}
use Rattle.sbp_world.proofs.Words.World.{history_of, after, beginning, after_all, begun, initiator_at, present_in, more_deliveries, IsHost, AreAtAgent, RegistersLaw, register_read, IsResetting, is_answered, pointer_write, register_write, state_list, PointersAt, pointed_list, IsOfWire}
use Rattle.bus_memory.specs.declared.window.Window.TheVariants as windows
use Rattle.sbp_journal.specs.declared.event.Event.TheVariants as events
use Rattle.sbp_journal.specs.declared.note.Note.TheVariants as notes
use Rattle.sbp_world.specs.Hosts.Refusing.{initiator_of}
use Rattle.sbp_world.proofs.Hosts.Carried.{between_runs, of_runs}
use Rattle.sbp_world.proofs.Hosts.Carries.{Carries}
use Rattle.sbp_world.proofs.Hosts.Pointed.{stale_is}
use Rattle.sbp_world.proofs.Hosts.PointerNotes.{Fit}
use Rattle.sbp_world.proofs.Hosts.Runs.{run_law}
use Rattle.sbp_world.specs.Pointers.Bases.{IsAsked}
use Rattle.sbp_world.proofs.Pointers.BaseActs.{does_based, present_is}
use Rattle.sbp_world.proofs.Pointers.BaseSteps.{is_behind}
use Rattle.sbp_world.proofs.Pointers.Basing.{Based, PointsAt, Requested, apart_based, asked_based, expires_based, hears_based, sees_based, sent_based}
use Rattle.sbp_world.proofs.Pointers.GuardDoes.{Ready}
use Rattle.sbp_world.proofs.Pointers.Guarding.{first_guarded, ready_known}
use Rattle.sbp_world.proofs.Pointers.CalmRuns.{calm_between, calm_of_runs}
use Rattle.sbp_world.proofs.Pointers.Calms.{AllCalm}
use Rattle.sbp_world.proofs.Pointers.Proved.{between_wire, fair_of, not_closed, pointers_law, wire_of}
use Rattle.sbp_world.proofs.Common.{untrue}
use Rattle.sbp_world.proofs.Pointers.Naming.{none_some}
use Rattle.sbp_world.proofs.Agents.AskedPackets.{above}

pub based_carried : (ready : Bool) → Carries Ready (Based ready)
based_carried ready = record {
  known = λ line event past i s r. record { rows = r.rows; pin = r.pin; spelled = r.spelled };
  number = λ past i s h. h.guarded.pointed.cored.own.number;
  asked = asked_based ready;
  apart = apart_based ready;
  sent = sent_based ready;
  hears = hears_based ready;
  expires = expires_based ready;
  stale = λ label past i s e h. subst (λ (x : InitiatorState). Based ready past i x) (sym (stale_is ready label s e)) h;
  sees = sees_based ready;
  acts = does_based ready;
}

-- ---- the beginning

none_begun : (line i initiators : ℕ) (ready : Bool) (serial : ℕ) → {A : Type 0} → IsResetting (said (notes.Begin initiators ready) ∷ asked line (events.Begin initiators ready) ∷ []) i serial → A
none_begun line i initiators ready serial {A} r = by ready (nat_lt i initiators) r.is
  where
    by : (b c : Bool) → (cond (b && c) (ready_host i) new_host).operation ≡ Some r.underway → A
    by true true e = none_some e
    by true false e = none_some e
    by false c e = none_some e

pub first_based : (line i initiators : ℕ) (ready : Bool) → i < initiators → Based ready (said (notes.Begin initiators ready) ∷ asked line (events.Begin initiators ready) ∷ []) i (new_state i ready)
unfolding new_state
first_based line i initiators ready b = record {
  guarded = first_guarded line i initiators ready b;
  seated = λ u p. untrue p;
  armed = λ serial r. none_begun line i initiators ready serial r;
  agent = λ f. record {
    pointer = λ u n serial l p response c. untrue l;
    reset = λ serial r response c. none_begun line i initiators ready serial r;
    states = λ u n serial l p response c. untrue l;
  };
}

-- ---- at a moment of a run

some_in : (present : Option PresentList) → is_some (present_in present) ≡ true → is_some present ≡ true
some_in None e = e
some_in (Some list) e = refl

pub asked_of : (past : List Moment) (i serial : ℕ) (access : Access) → Requested past i serial access → IsAsked past i serial access
asked_of past i serial access r = record { packet = r.packet; sent = r.sent; from_is = r.from_is; to_is = r.to_is; honest = r.honest; spelled = r.spelled }

-- a write of ORB_POINTER at an agent, to an address; and to another one
abbrev pointer_at : (offset address : ℕ) → Access
pointer_at offset address = record {
  is_lock = false;
  is_write = true;
  is_block = true;
  offset = offset;
  count = length (big_bytes 8 address);
  payload = big_bytes 8 address;
}

module _ (ready : Bool) (past : List Moment) (i : ℕ) (s : InitiatorState) (h : Based ready past i s) (host : IsHost past i s) (pointers : PointersAt past i) (wire : IsOfWire past) (fair : (terms past).injects 0 ≡ false) (calm : AllCalm past) where
  fit : Fit past
  fit = record { serials = wire.serials; sent = wire.sent }

  there : (n : ℕ) → present_list past i ≡ Some n → is_list s.lists.slots.present n ≡ true
  there n e = present_is s.lists.slots.present n (sym host.rows.fits.present ∙ e)

  -- the first ORB of its list
  pointer_of : (n serial : ℕ) → pointed_list past serial i ≡ Some n → (base : ℕ) → PointsAt past i serial base → IsAsked past i serial (pointer_write base (start (windows.Orb (slot_at past i n 0))))
  pointer_of n serial e base k =
      let p = pointers.each n serial e in
      let packet_same : p.packet ≡ k.is.packet = same_Some p.packet k.is.packet (sym p.sent ∙ k.is.sent) in
      let address = start (windows.Orb (slot_at past i n 0)) in
      let same : pointer_write p.base address ≡ pointer_write base k.address = same_Some (pointer_write p.base address) (pointer_write base k.address) (sym p.spelled ∙ ap (λ (x : Sending). access_in_bytes x.bytes) packet_same ∙ k.is.spelled) in
      let offset : (p.base + 0x08) % 2 ^ 48 ≡ (base + 0x08) % 2 ^ 48 = ap (λ (x : Access). x.offset) same in
      record {
        packet = p.packet;
        sent = p.sent;
        from_is = p.from_is;
        to_is = p.to_is;
        honest = p.honest;
        spelled = p.spelled ∙ ap (λ x. Some (pointer_at x address)) offset;
      }

  behind_of : (n serial other : ℕ) → state_list past serial i ≡ Some n → pointed_list past other i ≡ Some n → is_answered past other ≡ true
  behind_of n serial other e p =
      let b = is_behind past i wire.serials wire.sent (h.guarded.kept fit).told n serial e in
      subst (λ x. is_answered past x ≡ true) (pointers.once n b.other other b.pointed p) b.answered

  judged_of : injectors past i ≡ false → (n serial other : ℕ) → state_list past serial i ≡ Some n → pointed_list past other i ≡ Some n → 0 < (terms past).news other
  judged_of c n serial other e p = above ((terms past).news other) (λ z. untrue (sym (ap is_some (not_closed ready past i s h.guarded wire fair calm n other p c z)) ∙ behind_of n serial other e p))

  at_agent : AreAtAgent past i s
  at_agent =
      let a = h.agent fit in
      record {
        pointer = λ u n serial l p response c. pointer_of n serial p response.agent (a.pointer u n serial (there n l) p response c);
        reset = λ underway e r response c. asked_of past i underway.first (register_write response.agent 0x04) (a.reset underway.first (record { underway = underway; is = e; resets = r; first = refl }) response c);
        states = λ u n serial l p response c. asked_of past i serial (register_read response.agent 0x00) (a.states u n serial (there n l) p response c);
        behind = behind_of;
        judged = judged_of;
        seated = λ u e. h.seated u (some_in s.lists.slots.present (ap is_some (sym host.rows.fits.present) ∙ e));
        armed = λ underway e r. h.armed underway.first (record { underway = underway; is = e; resets = r; first = refl });
      }

pub registers_law : RegistersLaw
registers_law = record {
  after_lines = λ line run r i b.
      at_agent run.ready (history_of line run) i (initiator_of run i)
      (of_runs (Based run.ready) (based_carried run.ready) line run (ready_known line run) (λ j c. first_based line j run.initiators run.ready c) r i b)
      (run_law.rows line run r i b) (pointers_law.after_lines line run r i b) (wire_of line run r i b) (fair_of line run r i b) (calm_of_runs line run r);
  between = λ line run r next most told m i b.
      let w = (after_all told (begun (after (beginning run) run.entries))).world in
      at_agent run.ready (map said w.fresh ++ asked next (more_deliveries most) ∷ history_of line run) i (initiator_at w i)
      (between_runs (Based run.ready) (based_carried run.ready) line run (ready_known line run) (λ j c. first_based line j run.initiators run.ready c) r next most told m i b)
      (run_law.between line run r next most told m i b) (pointers_law.between line run r next most told m i b) (between_wire line run r next most told m i b).0 (between_wire line run r next most told m i b).1 (calm_between line run r next most told m);
}
