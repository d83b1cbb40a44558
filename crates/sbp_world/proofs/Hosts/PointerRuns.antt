-- In every run the write of ORB_POINTER that is under way is the one that the run names.
use Rattle.sbp_world.proofs.Words.Std.{arith, ◌≡◌, refl, sym, ◌∙◌, ap, subst, ℕ, suc, ◌<◌, ◌==◌, ◌&&◌, ◌||◌, not, Bool, true, false, cond, length, map, List, ◌∷◌, ◌++◌, Option, Some, None}
use Rattle.sbp_world.proofs.Words.Wire.{IsAwaited, kind_as, shape_of, state_for, OutboxState, Refusals, refusal_of, Action, transaction, Moment, asked, said, Kind, Sending, Transaction, begun_by, Held, Terms, free, rests, terms, waits}
use Rattle.sbp_world.proofs.Words.Target.{Told}
use Rattle.sbp_world.proofs.Words.Initiator.{Seat, is_stuck_seat, points_in, act_step, facts_with, ends_list, operation_of, refusal, rows_of, sends, finds_label, InitiatorState, PointedNow, PointingAfter}
use Rattle.sbp_world.proofs.Words.Laws.{is_pointing, refusal_at, refusals, Host, host_at, is_stuck, begun_in, is_of_now, is_under_way, is_waiting_for, waits_for}
use Rattle.sbp_world.proofs.Words.World.{Core, session_in, history_of, Run, after, beginning, MayAll, after_all, WorldState, begun, initiator_at, Stands, history, IsOfWire, DecidesByWaiting, IsSentBy, PointerRunLaw, PointsByWrites, WaitsForPointer, IsRun, more_deliveries}
use Rattle.bus_transactions.proofs.Facts.{asked_is, begun_asked}
use Rattle.bus_transactions.proofs.Reaches.{goes_on}
use Rattle.sbp_session.specs.declared.seat.Seat.TheVariants as seats
use Rattle.sbp_initiator.proofs.FirstRow.{refusal_law}
use Rattle.sbp_journal.specs.declared.event.Action.TheVariants as actions
use Rattle.sbp_world.proofs.Hosts.Deciding.{Plain, rows_same}
use Rattle.sbp_world.proofs.Hosts.Hosted.{host_law, session_waits}
use Rattle.sbp_world.proofs.Hosts.Refusing.{run_action_law}
use Rattle.sbp_initiator.specs.declared.purpose.Purpose.TheVariants as purposes
use Rattle.sbp_world.proofs.FitInitiator.Law.{fitting_law as own_fitting_law}
use Rattle.sbp_world.proofs.FitTarget.Law.{fitting_law}
use Rattle.sbp_world.proofs.Wire.Runs.{SoundAfter, sound_after}
use Rattle.sbp_world.proofs.Wire.Starts.{laws_of}
use Rattle.sbp_world.specs.Hosts.Refusing.{initiator_of}
use Rattle.sbp_world.proofs.Hosts.Aimed.{Aims, IsAimed, aimed_carried, first_aimed}
use Rattle.sbp_world.proofs.Hosts.Carried.{between_runs, of_runs, stands_between}
use Rattle.sbp_world.proofs.Hosts.Lives.{At}
use Rattle.sbp_world.proofs.Hosts.Pointed.{Pointed, first_pointed, pointed_carried}
use Rattle.sbp_world.proofs.Hosts.PointerNotes.{Fit}
use Rattle.sbp_world.proofs.Hosts.Pointing.{Points, pointing_of, under_way_now}
use Rattle.sbp_world.proofs.Hosts.Runs.{count_after}
use Rattle.sbp_world.proofs.Hosts.Shown.{IsShown}
use Rattle.sbp_world.proofs.Hosts.Shows.{shown_now}
use Rattle.sbp_world.proofs.Common.{untrue}
use Rattle.sbp_world.proofs.Sessions.Caught.{up_parts}

-- ---- a request that is under way, by the terms

waits_as : (t : Terms) (u : Transaction) (packet : Sending) (serial : ℕ) (kind : Kind) → t.sent serial ≡ Some packet → begun_in (Some packet) ≡ Some u → t.generation u.requester ≡ u.generation → t.held u ≡ waits kind serial → is_under_way t serial ≡ true
waits_as t u packet serial kind sent begun now held =
    ap (λ so. waits_for t (begun_in so) serial) sent
    ∙ ap (λ o. waits_for t o serial) begun
    ∙ ap (λ b. b && is_waiting_for (t.held u) serial) (let e : is_of_now t u ≡ true = grind arith in e)
    ∙ ap (λ x. is_waiting_for x serial) held
    ∙ (let e : (serial == serial) ≡ true = grind arith in e)

-- and what it is then
pub record Awaits (t : Terms) (packet : Sending) (serial : ℕ) : Type 0 where
  pub u : Transaction
  pub begun : begun_by packet ≡ Some u
  pub now : t.generation u.requester ≡ u.generation
  pub kind : Kind
  pub held : t.held u ≡ waits kind serial

held_is : {G : Type 0} (held : Held) (serial : ℕ) → is_waiting_for held serial ≡ true → ((kind : Kind) → held ≡ waits kind serial → G) → G
held_is free serial e g = untrue e
held_is rests serial e g = untrue e
held_is (waits kind other) serial e g = let same : other ≡ serial = grind arith in g kind (ap (waits kind) same)

awaits_by : (t : Terms) (packet : Sending) (serial : ℕ) (begun : Option Transaction) → begun_by packet ≡ begun → waits_for t begun serial ≡ true → Awaits t packet serial
awaits_by t packet serial None e f = untrue f
awaits_by t packet serial (Some u) e f =
    let x = up_parts (is_of_now t u) (is_waiting_for (t.held u) serial) f in
    let now : t.generation u.requester ≡ u.generation = (let y = x.0 in grind arith) in
    held_is (t.held u) serial x.1 (λ kind held. record { u = u; begun = e; now = now; kind = kind; held = held })

pub awaits_of : (t : Terms) (packet : Sending) (serial : ℕ) → t.sent serial ≡ Some packet → is_under_way t serial ≡ true → Awaits t packet serial
awaits_of t packet serial sent e = awaits_by t packet serial (begun_by packet) refl (sym (ap (λ so. waits_for t (begun_in so) serial) sent) ∙ e)

-- ---- the session that is stuck

pub stuck_same : (seat : Seat) → is_stuck (session_in seat) ≡ is_stuck_seat seat
stuck_same (seats.Out out) = refl
stuck_same (seats.Entering entering) = refl
stuck_same (seats.Live live) = refl
stuck_same (seats.Held response) = refl
stuck_same (seats.Returning response) = refl
stuck_same (seats.Leaving response) = refl
stuck_same (seats.Stuck origin) = refl

-- ---- the first rows of a refusal

first_rows : (a c : Bool) → a ≡ c → (b d w v : Bool) → b ≡ d → (a ≡ false → w ≡ v) → (a || b) || w ≡ true → (n m : Bool) → n ≡ false → m ≡ false → (x y : Option ℕ) → cond a (Some 1) (cond b (Some 2) (cond n (Some 3) (cond w (Some 4) x))) ≡ cond c (Some 1) (cond d (Some 2) (cond m (Some 3) (cond v (Some 4) y)))
first_rows true true e b d w v f g h n m i j x y = refl
first_rows true false e b d w v f g h n m i j x y = untrue (sym e)
first_rows false true e b d w v f g h n m i j x y = untrue e
first_rows false false e true true w v f g h n m i j x y = refl
first_rows false false e true false w v f g h n m i j x y = untrue (sym f)
first_rows false false e false true w v f g h n m i j x y = untrue f
first_rows false false e false false false v f g h n m i j x y = untrue h
first_rows false false e false false true false f g h n m i j x y = untrue (sym (g refl))
first_rows false false e false false true true f g h true m i j x y = untrue (sym i)
first_rows false false e false false true true f g h false true i j x y = untrue (sym j)
first_rows false false e false false true true f g h false false i j x y = refl

first_same : (r q : Refusals) → r.stuck ≡ q.stuck → r.wrong_state ≡ q.wrong_state → (r.stuck ≡ false → r.waiting ≡ q.waiting) → r.no_rom ≡ false → q.no_rom ≡ false → DecidesByWaiting r → refusal_of r ≡ refusal_of q
first_same r q e f g n m h = first_rows r.stuck q.stuck e r.wrong_state q.wrong_state r.waiting q.waiting f g h r.no_rom q.no_rom n m _ _

-- a stuck one is refused by its first row
pub stuck_first : (a c : Bool) → a ≡ c → a ≡ true → (x y : Option ℕ) → cond a (Some 1) x ≡ cond c (Some 1) y
stuck_first true true e f x y = refl
stuck_first true false e f x y = untrue (sym e)
stuck_first false c e f x y = untrue f

refused_stuck : (r q : Refusals) → r.stuck ≡ q.stuck → r.stuck ≡ true → refusal_of r ≡ refusal_of q
refused_stuck r q e f = stuck_first r.stuck q.stuck e f _ _

-- what the operations that end a list do not need
record NeedsNone (run own : Refusals) : Type 0 where
  run_rom : run.no_rom ≡ false
  own_rom : own.no_rom ≡ false
  plain : Plain run own

ends_plain : (action : Action) (past : List Moment) (i : ℕ) (host : Host) (has_label : Bool) (s : InitiatorState) → ends_list (operation_of action) ≡ true → NeedsNone (refusals past i action host) (rows_of action (facts_with has_label s action))
ends_plain (actions.Put cmd) past i host has_label s e = untrue e
ends_plain (actions.Append cmd) past i host has_label s e = untrue e
ends_plain actions.Low past i host has_label s e = untrue e
ends_plain actions.Link past i host has_label s e = untrue e
ends_plain actions.Ring past i host has_label s e = untrue e
ends_plain (actions.Dummy orb) past i host has_label s e = untrue e
ends_plain actions.Rom past i host has_label s e = untrue e
ends_plain actions.AgentReset past i host has_label s e = record { run_rom = refl; own_rom = refl; plain = record { no_rom = refl; dead_seen = refl } }
ends_plain actions.State past i host has_label s e = untrue e
ends_plain actions.Enable past i host has_label s e = untrue e
ends_plain (actions.Login unit reconnect exclusive password) past i host has_label s e = untrue e
ends_plain (actions.Query unit) past i host has_label s e = untrue e
ends_plain actions.Reconnect past i host has_label s e = untrue e
ends_plain actions.Logout past i host has_label s e = record { run_rom = refl; own_rom = refl; plain = record { no_rom = refl; dead_seen = refl } }
ends_plain (actions.Abort orb) past i host has_label s e = untrue e
ends_plain actions.AbortSet past i host has_label s e = record { run_rom = refl; own_rom = refl; plain = record { no_rom = refl; dead_seen = refl } }
ends_plain actions.UnitReset past i host has_label s e = record { run_rom = refl; own_rom = refl; plain = record { no_rom = refl; dead_seen = refl } }
ends_plain actions.TargetReset past i host has_label s e = record { run_rom = refl; own_rom = refl; plain = record { no_rom = refl; dead_seen = refl } }

-- ---- what an initiator is at a moment of a run

module _ (past : List Moment) (i : ℕ) (s : InitiatorState) (points : Points past i s.target s.layer) (aims : Aims s.layer s.target) (shown : IsShown past i s.target s.layer) (pointing : PointingAfter s) (awaited : (u : Transaction) (kind : Kind) (serial : ℕ) → (terms past).held u ≡ waits kind serial → IsAwaited (terms past) u kind serial) (session : is_stuck (host_at past i).session ≡ is_stuck_seat s.seat) where
  run_waits : (a : PointedNow s.layer) → WaitsForPointer past i a.write.number
  run_waits a =
      let u = a.write in
      let at : At s.layer u.peer u.number (Some (purposes.Pointer a.list)) = record { kind = u.kind; serial = u.serial; state = u.state; is_for = u.is_for } in
      let w = points.waits_for u.number a.list (subst (λ p. At s.layer p u.number (Some (purposes.Pointer a.list))) (aims u.peer u.number (Some (purposes.Pointer a.list)) at) at) in
      record { kind = w.kind; serial = w.serial; named = w.pointer_is; held = ap (λ g. (terms past).held (transaction g (suc i) 0 u.number)) (sym shown.generation) ∙ w.held }

  run_asks : (serial : ℕ) → (host_at past i).pointer ≡ Some serial → IsSentBy past (suc i) 0 serial
  run_asks serial e =
      let h = points.asks serial e in
      record { packet = h.packet; sent = h.sent; from_is = h.from; to_is = h.to; honest = h.honest }

  abbrev T : Terms
  T = terms past

  -- what is named is under way where a write of ORB_POINTER is
  named_waits : (serial : ℕ) → (host_at past i).pointer ≡ Some serial → PointedNow s.layer → is_under_way T serial ≡ true
  named_waits serial e a =
      let w = run_waits a in
      let u = transaction (T.generation (suc i)) (suc i) 0 a.write.number in
      let same : w.serial ≡ serial = (let x = sym w.named ∙ e in cc) in
      let held : T.held u ≡ waits w.kind serial = w.held ∙ ap (waits w.kind) same in
      let x = awaited u w.kind serial held in
      waits_as T u x.packet serial w.kind x.sent x.begun refl held

  -- and a write is under way where what is named is
  named_points : (serial : ℕ) → (host_at past i).pointer ≡ Some serial → is_under_way T serial ≡ true → PointedNow s.layer
  named_points serial e under =
      let h = points.asks serial e in
      let x = awaits_of T h.packet serial h.sent under in
      let q = asked_is h.packet x.u (begun_asked h.packet x.u x.begun).1 in
      let requester : x.u.requester ≡ suc i = ap (λ (v : Transaction). v.requester) q.is ∙ h.from in
      let responder : x.u.responder ≡ 0 = ap (λ (v : Transaction). v.responder) q.is ∙ h.to in
      let generation : x.u.generation ≡ s.layer.generation = sym x.now ∙ ap T.generation requester ∙ sym shown.generation in
      let u = transaction s.layer.generation (suc i) 0 x.u.label in
      let same : x.u ≡ u =
      ap (λ g. transaction g x.u.requester x.u.responder x.u.label) generation
      ∙ ap (λ n. transaction s.layer.generation n x.u.responder x.u.label) requester
      ∙ ap (λ n. transaction s.layer.generation (suc i) n x.u.label) responder in
      let held : T.held u ≡ waits x.kind serial = ap T.held (sym same) ∙ x.held in
      let p = points.named x.u.label x.kind serial held e in
      let state = under_way_now (state_for s.layer.peers s.target x.u.label) (kind_as x.kind) (shown.states x.u.label ∙ ap shape_of held) in
      record { list = p.list; write = record { peer = s.target; number = x.u.label; serial = state.serial; kind = state.kind; state = state.is; is_for = p.is } }

  module _ (unstuck : is_stuck (host_at past i).session ≡ false) where
    points_by : (p : Option ℕ) → (host_at past i).pointer ≡ p → (c : Bool) → points_in s.seat ≡ c → is_pointing T p ≡ c
    points_by None e true f = let w = run_waits (pointing.writes f) in no_some (sym e ∙ w.named)
      where
        no_some : {A : Type 0} {n : ℕ} → None ≡ Some n → A
        no_some e = absurd (differ e)
          where
            differ : {n : ℕ} → None ≡ Some n → ⊥
            differ e = cc
    points_by None e false f = refl
    points_by (Some serial) e true f = named_waits serial e (pointing.writes f)
    points_by (Some serial) e false f = by_test (is_under_way T serial) refl
      where
        by_test : (d : Bool) → is_under_way T serial ≡ d → d ≡ false
        by_test true g = untrue (sym f ∙ pointing.counts (sym session ∙ unstuck) (named_points serial e g))
        by_test false g = refl

    run_points : is_pointing T (host_at past i).pointer ≡ points_in s.seat
    run_points = points_by (host_at past i).pointer refl (points_in s.seat) refl

  pub by_writes : PointsByWrites past i s
  by_writes = record { waits_for = run_waits; asks = run_asks; points_while = run_points }

-- what is told of the wire
fits_of : (past : List Moment) → IsOfWire past → Fit past
fits_of past h = record { serials = h.serials; sent = h.sent }

awaited_of : {before : List Moment} (past : List Moment) (w : WorldState) (h : Stands before w) → history w before ≡ past → (u : Transaction) (kind : Kind) (serial : ℕ) → (terms past).held u ≡ waits kind serial → IsAwaited (terms past) u kind serial
awaited_of past w h is u kind serial held =
    let past_is : h.wire.past ≡ past = h.is.past_is ∙ is in
    subst (λ ms. IsAwaited (terms ms) u kind serial) past_is (goes_on.awaited h.wire u kind serial h.reached (ap (λ ms. (terms ms).held u) past_is ∙ held))

-- ---- behind a line

module _ (line : ℕ) (run : Run) (r : IsRun run) (i : ℕ) (b : i < run.initiators) where
  abbrev after_run : SoundAfter line run run.entries (after (beginning run) run.entries).world
  after_run = sound_after fitting_law own_fitting_law line run run.entries r.few r.short r.entries r.lines

  abbrev last : WorldState
  last = (after (beginning run) run.entries).world

  abbrev past : List Moment
  past = history_of line run

  abbrev s : InitiatorState
  s = initiator_of run i

  there : i < length last.initiators
  there = subst (λ n. i < n) (sym (count_after run run.entries)) b

  run_pointed : PointsByWrites past i s
  run_pointed =
      let stands = after_run.sound.stands in
      let p = of_runs (Pointed run.ready) (pointed_carried run.ready) line run (λ entries few short all fit j c. tt) (λ j c. first_pointed line j run.initiators run.ready c) r i b in
      let a = of_runs (λ ms j x. IsAimed run.ready j x) (aimed_carried run.ready) line run (λ entries few short all fit j c. tt) (λ j c. first_aimed j run.ready) r i b in
      by_writes past i s (p.points (fits_of past (subst IsOfWire after_run.is (laws_of after_run.past last stands)))) a.aims
      (subst (λ ms. IsShown ms i s.target s.layer) after_run.is (shown_now last stands after_run.sound.nodes i there))
      (pointing_of p.cored) (awaited_of past last stands after_run.is)
      (ap (λ (c : Core). is_stuck c.session) p.cored.core ∙ stuck_same s.seat)

  run_waiting : is_stuck (host_at past i).session ≡ false → (action : Action) (has_label : Bool) → (refusals past i action (host_at past i)).waiting ≡ (rows_of action (facts_with has_label s action)).waiting
  run_waiting unstuck action has_label = session_waits line run i action has_label (host_law.core line run r i b) (run_pointed.points_while unstuck)

  module _ (action : Action) (o : OutboxState) (ends : ends_list (operation_of action) ≡ true) where
    abbrev told : Refusals
    told = refusals past i action (host_at past i)

    abbrev own : Refusals
    own = rows_of action (facts_with (finds_label action s) s action)

    needs : NeedsNone told own
    needs = ends_plain action past i (host_at past i) (finds_label action s) s ends

    run_first : DecidesByWaiting told → refusal_at past i action ≡ (act_step action o s).0
    unfolding refusal
    run_first h =
        let x = host_law.rows line run r i b action (finds_label action s) in
        first_same told own x.stuck x.wrong_state (λ f. run_waiting f action (finds_label action s)) needs.run_rom needs.own_rom h ∙ sym (refusal_law.first action o s)

    decided_by : (c : Bool) → told.stuck ≡ c → told.no_label ≡ own.no_label → refusal_of told ≡ refusal_of own
    decided_by true e l = let x = host_law.rows line run r i b action (finds_label action s) in refused_stuck told own x.stuck e
    decided_by false e l =
        let x = host_law.rows line run r i b action (finds_label action s) in
        rows_same told own x.stuck x.wrong_state (run_waiting e action (finds_label action s)) (run_action_law.rows line run r i b action (host_at past i) (finds_label action s)) needs.plain l

    run_decided : told.no_label ≡ (sends action && not (finds_label action s)) → refusal_at past i action ≡ (act_step action o s).0
    unfolding refusal
    run_decided l = decided_by told.stuck refl l ∙ sym (refusal_law.first action o s)

-- ---- between two deliveries of a line

module _ (line : ℕ) (run : Run) (r : IsRun run) (next : ℕ) (most : Option ℕ) (told : List (Option Told)) (m : MayAll told (begun (after (beginning run) run.entries))) (i : ℕ) (b : i < run.initiators) where
  abbrev w : WorldState
  w = (after_all told (begun (after (beginning run) run.entries))).world

  abbrev now : List Moment
  now = map said w.fresh ++ asked next (more_deliveries most) ∷ history_of line run

  between_pointed : PointsByWrites now i (initiator_at w i)
  between_pointed =
      let s = initiator_at w i in
      let p = between_runs (Pointed run.ready) (pointed_carried run.ready) line run (λ entries few short all fit j c. tt) (λ j c. first_pointed line j run.initiators run.ready c) r next most told m i b in
      let a = between_runs (λ ms j x. IsAimed run.ready j x) (aimed_carried run.ready) line run (λ entries few short all fit j c. tt) (λ j c. first_aimed j run.ready) r next most told m i b in
      let k = stands_between (λ ms j x. IsAimed run.ready j x) (aimed_carried run.ready) line run (λ entries few short all fit j c. tt) (λ j c. first_aimed j run.ready) r next most told m in
      let there : i < length w.initiators = subst (λ n. i < n) (sym k.size) b in
      by_writes now i s (p.points (fits_of now (subst IsOfWire k.is (laws_of k.past w k.sound.stands)))) a.aims
      (subst (λ ms. IsShown ms i s.target s.layer) k.is (shown_now w k.sound.stands k.sound.nodes i there))
      (pointing_of p.cored) (awaited_of now w k.sound.stands k.is)
      (ap (λ (c : Core). is_stuck c.session) p.cored.core ∙ stuck_same s.seat)

pub pointer_run_law : PointerRunLaw
pointer_run_law = record {
  after_lines = run_pointed;
  between = between_pointed;
  waiting = λ line run r i b action has_label f. run_waiting line run r i b f action has_label;
  decided = λ line run r i b action o e l. run_decided line run r i b action o e l;
  first = λ line run r i b action o e h. run_first line run r i b action o e h;
}
