-- For which operation the target's management sends a packet in a turn: it is the operation behind the turn, and what begins the turn is its reply, or its start.
use Rattle.sbp_world.proofs.Words.Std.{◌≡◌, ◌∙◌, ◌⊎◌, inl, inr, refl, sym, ap, subst, ℕ, zero, suc, ◌==◌, ◌&&◌, nat_eq, not, Bool, true, false, cond, List, [], ◌∷◌, ◌++◌, map, Option, Some, None, unwrap_or}
use Rattle.sbp_world.proofs.Words.Wire.{judged_note, Access, Start, management_agent, no_start, register, rom_start, start_at, start_serves, Judged, Note, Moment, said, Terms}
use Rattle.sbp_world.proofs.Words.Target.{Operation, reply_in, reply_to, start_step, start_with, Table, Disk}
use Rattle.sbp_world.proofs.Words.Initiator.{offset_at, Answer, Expired}
use Rattle.sbp_world.proofs.Words.Laws.{access_at, answer_in, answered_at, id_for, packet_at, receiver_in, sender_in, Target, got_by, is_nothing, is_serial, known_at, over, laws_replied, request_got, reset_seen, target_at}
use Rattle.sbp_world.proofs.Words.World.{Office, at_rest, office_of, replied, started, started_by, is_its_packet, managed_for, operation_if, AllOf, outgoing_for}
use Rattle.mgmt_agent.specs.declared.operation.Phase.{Phase}
use Rattle.mgmt_agent.specs.declared.operation.Phase.TheVariants as phases
use Rattle.mgmt_agent.specs.Machine.{Machine, reply_step}
use Rattle.orb_layout.specs.declared.ask.Ask.TheVariants as asks
use Rattle.sbp_journal.specs.declared.cause.Judged.TheVariants as judgements
use Rattle.sbp_journal.specs.declared.note.Note.TheVariants as notes
use Rattle.sbp_world.proofs.Agents.Management.Firsts.{other_reply, own_reply, request_keeps, served_office, start_office}
use Rattle.sbp_world.proofs.Agents.Management.Offices.{IsBehind, over_keeps}
use Rattle.sbp_world.proofs.Lists.ManageOffices.{Lingers, fails, lasts, note_lingers, office_at, sent_office}
use Rattle.sbp_world.proofs.Lists.ManageTerms.{none_is}
use Rattle.sbp_world.proofs.Common.{untrue}

-- ---- the packets that a turn sends
abbrev pub is_packet : Note → Bool
is_packet (notes.Sent serial generation zero to bytes) = true
is_packet _ = false

abbrev pub AllBehind : List Note → Type 0
AllBehind [] = Unit {0}
AllBehind (note ∷ ns) = IsBehind note × AllBehind ns

abbrev pub Asks : List Disk → List Moment → Operation → Type 0
Asks start past op = ((target_at start past).manager.operation ≡ Some op) × (is_nothing (target_at start past).manager_asks ≡ false)

its_by : (a b c : Bool) (operation : Option Operation) (op : Operation) → operation_if (not a && (b && c)) operation ≡ Some op → (a ≡ false) × (operation ≡ Some op)
its_by true b c operation op e = none_is op e
its_by false true true operation op e = (refl, e)
its_by false true false operation op e = none_is op e
its_by false false c operation op e = none_is op e

module _ (start : List Disk) where
  -- packets leave the operation, and ask for nothing new
  pub manager_same : (ns : List Note) (base : List Moment) → AllOf is_packet ns → (target_at start (map said ns ++ base)).manager ≡ (target_at start base).manager
  manager_same [] base a = refl
  manager_same (notes.Sent serial generation zero to bytes ∷ ns) base a = (sent_office start serial generation 0 to bytes (map said ns ++ base)).manager_is ∙ manager_same ns base a.1
  manager_same (notes.Sent serial generation (suc j) to bytes ∷ ns) base a = untrue a.0
  manager_same (note ∷ ns) base a = untrue a.0

  still_quiet : (ns : List Note) (base : List Moment) → AllOf is_packet ns → is_nothing (target_at start base).manager_asks ≡ true → is_nothing (target_at start (map said ns ++ base)).manager_asks ≡ true
  still_quiet [] base a e = e
  still_quiet (notes.Sent serial generation zero to bytes ∷ ns) base a e = (sent_office start serial generation 0 to bytes (map said ns ++ base)).quiet (still_quiet ns base a.1 e)
  still_quiet (notes.Sent serial generation (suc j) to bytes ∷ ns) base a e = untrue a.0
  still_quiet (note ∷ ns) base a e = untrue a.0

  asked_back : (ns : List Note) (base : List Moment) → AllOf is_packet ns → (op : Operation) → Asks start (map said ns ++ base) op → Asks start base op
  asked_back ns base a op x = (ap (λ (m : Machine). m.operation) (sym (manager_same ns base a)) ∙ x.0, by (is_nothing (target_at start base).manager_asks) refl)
    where
      by : (b : Bool) → is_nothing (target_at start base).manager_asks ≡ b → b ≡ false
      by true e = untrue (sym x.1 ∙ still_quiet ns base a e)
      by false e = refl

  -- the packet of the operation
  pub record WasAsked (ns : List Note) (base : List Moment) (serial : ℕ) (op : Operation) : Type 0 where
    pub operation : (target_at start base).manager.operation ≡ Some op
    pub asked : is_nothing (target_at start base).manager_asks ≡ false
    pub bytes : outgoing_for start (map said ns ++ base) serial ≡ (target_at start base).manager.outgoing

  pub sends_asked : (ns : List Note) (base : List Moment) → AllOf is_packet ns → (serial : ℕ) (op : Operation) → managed_for start (map said ns ++ base) serial ≡ Some op → (managed_for start base serial ≡ Some op) ⊎ WasAsked ns base serial op
  sends_asked [] base a serial op e = inl e
  sends_asked (notes.Sent s generation zero to bytes ∷ ns) base a serial op e = by (nat_eq serial s) refl (λ f. sends_asked ns base a.1 serial op f) e
    where
      on : (b : Bool) → nat_eq serial s ≡ b → b ≡ false → (managed_for start base serial ≡ Some op) ⊎ WasAsked ns base serial op → (managed_for start base serial ≡ Some op) ⊎ WasAsked (notes.Sent s generation zero to bytes ∷ ns) base serial op
      on b g f (inl x) = inl x
      on b g f (inr x) =
          inr (record { operation = x.operation; asked = x.asked; bytes = ap (λ (c : Bool). cond c (target_at start (map said ns ++ base)).manager.outgoing (outgoing_for start (map said ns ++ base) serial)) (g ∙ f) ∙ x.bytes })

      by : (b : Bool) → nat_eq serial s ≡ b → (managed_for start (map said ns ++ base) serial ≡ Some op → (managed_for start base serial ≡ Some op) ⊎ WasAsked ns base serial op) → (let rest = map said ns ++ base in cond b (operation_if (is_its_packet (target_at start rest) (target_at start (said (notes.Sent s generation zero to bytes) ∷ rest)) s) (target_at start rest).manager.operation) (managed_for start rest serial) ≡ Some op) → (managed_for start base serial ≡ Some op) ⊎ WasAsked (notes.Sent s generation zero to bytes ∷ ns) base serial op
      by true g before f =
          let rest = map said ns ++ base in
          let now = said (notes.Sent s generation zero to bytes) ∷ rest in
          let z = its_by (is_nothing (target_at start rest).manager_asks) (is_nothing (target_at start now).manager_asks) (is_serial (target_at start now).manages s) (target_at start rest).manager.operation op f in
          let x = asked_back ns base a.1 op (z.1, z.0) in
          inr (record {
            operation = x.0;
            asked = x.1;
            bytes = ap (λ (c : Bool). cond c (target_at start rest).manager.outgoing (outgoing_for start rest serial)) g ∙ ap (λ (m : Machine). m.outgoing) (manager_same ns base a.1);
          })
      by false g before f = on false g refl (before f)
  sends_asked (notes.Sent s generation (suc j) to bytes ∷ ns) base a serial op e = untrue a.0
  sends_asked (note ∷ ns) base a serial op e = untrue a.0

  -- ---- what is told before them
  lingers_asked : {o p : Office} → Lingers o p → is_nothing p.asks ≡ false → (p.manager ≡ o.manager) × (is_nothing o.asks ≡ false)
  lingers_asked (lasts e f) x = (e, ap (λ a. is_nothing a) (sym f) ∙ x)
  lingers_asked (fails e f) x = untrue (sym x ∙ ap (λ a. is_nothing a) f)

  pub told_asked : (ns : List Note) (base : List Moment) → AllBehind ns → is_nothing (target_at start (map said ns ++ base)).manager_asks ≡ false → ((target_at start (map said ns ++ base)).manager ≡ (target_at start base).manager) × (is_nothing (target_at start base).manager_asks ≡ false)
  told_asked [] base a x = (refl, x)
  told_asked (note ∷ ns) base a x =
      let one = lingers_asked (note_lingers start note (map said ns ++ base) a.0) x in
      let more = told_asked ns base a.1 one.1 in
      (one.0 ∙ more.0, more.1)

  behind_for : (note : Note) (past : List Moment) → IsBehind note → (serial : ℕ) → managed_for start (said note ∷ past) serial ≡ managed_for start past serial
  behind_for (notes.Sent s generation from to bytes) past b serial = absurd b
  behind_for note past b serial = refl

  pub told_for : (ns : List Note) (base : List Moment) → AllBehind ns → (serial : ℕ) → managed_for start (map said ns ++ base) serial ≡ managed_for start base serial
  told_for [] base a serial = refl
  told_for (note ∷ ns) base a serial = behind_for note (map said ns ++ base) a.0 serial ∙ told_for ns base a.1 serial

-- ---- what begins the turn
-- nothing is asked for; or the reply to what was asked; or an operation starts
pub data FirstAsks (o p : Office) : Type 0 where
  idles : p.asks ≡ asks.Nothing → FirstAsks o p
  hears : (answer : Answer) → p.manager ≡ (reply_step o.manager o.table o.keys answer).1.0 → FirstAsks o p
  begins : (op : Operation) → p.manager.operation ≡ Some op → op.phase ≡ phases.Orb → FirstAsks o p

module _ (t : Target) where
  abbrev From : Office → Type 0
  From now = FirstAsks (office_of t) now

  by_office : (x y : Office) → x ≡ y → From y → From x
  by_office x y e h = subst From (sym e) h

  pick : (b : Bool) (x y : Target) → From (office_of x) → From (office_of y) → From (office_of (cond b x y))
  pick true x y h k = h
  pick false x y h k = k

  rests : From (office_of (over t))
  rests = by_office (office_of (over t)) (at_rest (office_of t)) (over_keeps t) (idles refl)

  hears_by : (answer : Answer) (o : Office) → o ≡ at_rest (office_of t) → From (replied answer o)
  hears_by answer o e = subst (λ (x : Office). From (replied answer x)) (sym e) (hears answer refl)

  replies : (serial : ℕ) (answer : Answer) → From (office_of (laws_replied serial answer (over t)))
  replies serial answer = by (is_serial (over t).manages serial) refl
    where
      by : (b : Bool) → is_serial (over t).manages serial ≡ b → From (office_of (laws_replied serial answer (over t)))
      by true e = by_office (office_of (laws_replied serial answer (over t))) (replied answer (office_of (over t))) (own_reply serial answer (over t) e) (hears_by answer (office_of (over t)) (over_keeps t))
      by false e = by_office (office_of (laws_replied serial answer (over t))) (office_of (over t)) (other_reply serial answer (over t) e) rests

  abbrev rested : Office
  rested = at_rest (office_of t)

  started_it : (operation : Option Operation) → t.manager.operation ≡ operation → (source orb : ℕ) → From (started_by (start_with operation t.manager source orb) rested)
  started_it None e source orb = begins (record { source = source; orb = orb; phase = phases.Orb }) refl refl
  started_it (Some own) e source orb = idles refl

  starts : (source orb : ℕ) → From (started source orb rested)
  unfolding start_step
  starts source orb = started_it t.manager.operation refl source orb

  start_by : (start : Start) (source : ℕ) (access : Access) → From (start_office start source access rested)
  start_by management_agent source access = starts source (offset_at access.payload 0)
  start_by (register place name) source access = idles refl
  start_by rom_start source access = idles refl
  start_by no_start source access = idles refl

  served_by : (b : Bool) (start : Start) (source : ℕ) (access : Access) → From (served_office b start source access rested)
  served_by true start source access = start_by start source access
  served_by false start source access = idles refl

  requests : (access : Option Access) (source : ℕ) → From (office_of (request_got access source (over t)))
  requests None source = rests
  requests (Some access) source =
      let b = start_serves (start_at access.offset) access in
      let start = start_at access.offset in
      by_office (office_of (request_got (Some access) source (over t))) (served_office b start source access rested)
      (request_keeps access source (over t) ∙ ap (λ o. served_office b start source access o) (over_keeps t))
      (served_by b start source access)

  got_as : (own : Option ℕ) (wire : Terms) (serial : ℕ) → From (office_of (got_by own wire serial (over t)))
  got_as (Some own) wire serial = replies own (answer_in (packet_at wire serial))
  got_as None wire serial = requests (access_at wire serial) (id_for wire 0 (unwrap_or (sender_in (wire.sent serial)) 0))

-- a packet comes
pub judged_asks : (start : List Disk) (serial : ℕ) (judged : Judged) (past : List Moment) → FirstAsks (office_at start past) (office_at start (said (judged_note serial judged) ∷ past))
judged_asks start serial judgements.Got past =
    let t = target_at start past in
    let wire = (known_at start past).wire in
    pick t (is_serial (receiver_in (wire.sent serial)) 0) (got_by (answered_at wire serial) wire serial (over t)) (over t) (got_as t (answered_at wire serial) wire serial) (rests t)
judged_asks start serial (judgements.Ignored cause) past = rests (target_at start past)

-- a transaction times out
late_in : (m : Machine) (t : Table) (keys : List (List ℕ)) (own : Operation) (phase : Phase) → (reply_in phase m own t keys Expired).0.ask ≡ asks.Nothing
late_in m t keys own phases.Orb = refl
late_in m t keys own (phases.HighEui orb) = refl
late_in m t keys own (phases.LowEui orb high) = refl
late_in m t keys own (phases.Response fifo) = refl
late_in m t keys own phases.Status = refl

late_to : (m : Machine) (t : Table) (keys : List (List ℕ)) (operation : Option Operation) → (reply_to operation m t keys Expired).0.ask ≡ asks.Nothing
late_to m t keys None = refl
late_to m t keys (Some own) = late_in m t keys own own.phase

late_asks : (m : Machine) (t : Table) (keys : List (List ℕ)) → (reply_step m t keys Expired).0.ask ≡ asks.Nothing
unfolding reply_step
late_asks m t keys = late_to m t keys m.operation

pick_quiet : (b : Bool) (x y : Target) → x.manager_asks ≡ asks.Nothing → y.manager_asks ≡ asks.Nothing → (cond b x y).manager_asks ≡ asks.Nothing
pick_quiet true x y e f = e
pick_quiet false x y e f = f

over_quiet : (t : Target) → (over t).manager_asks ≡ asks.Nothing
over_quiet t = ap (λ (o : Office). o.asks) (over_keeps t)

late_quiet : (serial : ℕ) (t : Target) → (laws_replied serial Expired (over t)).manager_asks ≡ asks.Nothing
late_quiet serial t = by (is_serial (over t).manages serial) refl
  where
    by : (b : Bool) → is_serial (over t).manages serial ≡ b → (laws_replied serial Expired (over t)).manager_asks ≡ asks.Nothing
    by true e = ap (λ (o : Office). o.asks) (own_reply serial Expired (over t) e) ∙ late_asks (over t).manager (over t).table (over t).keys
    by false e = ap (λ (o : Office). o.asks) (other_reply serial Expired (over t) e) ∙ over_quiet t

pub timed_quiet : (start : List Disk) (serial : ℕ) (past : List Moment) → (target_at start (said (notes.TimedOut serial) ∷ past)).manager_asks ≡ asks.Nothing
timed_quiet start serial past =
    let t = target_at start past in
    let wire = (known_at start past).wire in
    pick_quiet (is_serial (sender_in (wire.sent serial)) 0) (laws_replied serial Expired (over t)) (over t) (late_quiet serial t) (over_quiet t)

-- a generation is seen, or a second passes
seen_quiet : (b : Bool) (t : Target) → (reset_seen b (over t)).manager_asks ≡ asks.Nothing
seen_quiet true t = over_quiet t
seen_quiet false t = over_quiet t

pub sight_quiet : (start : List Disk) (generation : ℕ) (past : List Moment) → (target_at start (said (notes.Seen 0 generation) ∷ past)).manager_asks ≡ asks.Nothing
sight_quiet start generation past = seen_quiet (not (generation == (known_at start past).wire.generation 0)) (target_at start past)

pub tick_quiet : (start : List Disk) (past : List Moment) → (target_at start (said notes.Tick ∷ past)).manager_asks ≡ asks.Nothing
tick_quiet start past = over_quiet (target_at start past)
