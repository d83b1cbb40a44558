-- Where the management of the target asks to write, and where the write that it waits for begins, over the moments of a history: as its ORBs name it, where what a reply brings to it is good.
use Rattle.sbp_world.proofs.Words.Std.{◌≡◌, ◌∙◌, refl, sym, ap, subst, inl, inr, ◌⊎◌, ◌==◌, not, ℕ, zero, Bool, true, false, cond, List, [], ◌∷◌, Option, Some, None, Result, Ok, Err, arith, nat_eq, nat_le, length, ◌++◌, map, is_none, position, unwrap_or, same_Some}
use Rattle.sbp_world.proofs.Words.Wire.{Body, block_write, block_read, quadlet_read, Access, Start, management_agent, no_start, register, rom_start, start_at, start_serves, Event, Note, FunctionWord, Moment, asked, said, Part, part_of, request, response, Terms, terms, largest, SerialsCount}
use Rattle.sbp_world.proofs.Words.Target.{Table, Busy, Operation, Disk, manager_body}
use Rattle.sbp_world.proofs.Words.Initiator.{Ask, Nothing, management_orb, offset_at, Answer, Expired, payload_of}
use Rattle.sbp_world.proofs.Words.Laws.{access_at, access_in_bytes, answer_in, answered_at, id_for, packet_at, receiver_in, sender_in, access_in, packet_in, Decided, Target, got_by, is_serial, is_write_access, key_by, known_at, over, laws_replied, request_got, reset_seen, sent_as, sent_for, taken_on, target_at, target_by, wants, wants_it, is_nothing, event_of, EachMoment}
use Rattle.sbp_world.proofs.Words.World.{Office, at_rest, by_managed, by_note, office_of, placed, placed_by, started, started_by, GoodIn, IsAside, IsGoodOrb, IsItsFifo, ContentAt, access_for, is_its_packet}
use Rattle.mgmt_agent.specs.declared.operation.Phase.{Phase}
use Rattle.mgmt_agent.specs.declared.operation.Phase.TheVariants as phases
use Rattle.mgmt_agent.specs.Machine as management
use Rattle.mgmt_agent.specs.Machine.{Machine}
use Rattle.orb_layout.specs.declared.ask.Ask.TheVariants as asks
use Rattle.sbp_journal.specs.declared.event.Event.TheVariants as events
use Rattle.sbp_journal.specs.declared.note.Note.TheVariants as notes
use Rattle.sbp_journal.specs.declared.operation.FunctionWord.TheVariants as functions
use Rattle.sbp_journal.specs.Transactions.{no_packet}
use Rattle.sbp_world.proofs.Agents.Management.Firsts.{other_reply, own_reply, request_keeps, served_office, start_office, wire_is}
use Rattle.sbp_world.proofs.Agents.Management.Offices.{IsBehind, note_changes, over_keeps, taken_keeps}
use Rattle.sbp_world.proofs.Lists.DataDry.{reply_may}
use Rattle.sbp_world.proofs.Lists.AgentGoes.{IsNoGot}
use Rattle.sbp_world.proofs.Hosts.Remaining.{remains, serials_behind}
use Rattle.sbp_world.proofs.Hosts.SentMoments.{sent_there}
use Rattle.sbp_world.specs.Lists.Contents.{IsAsked}
use Rattle.sbp_world.proofs.Lists.ContentManages.{Moves, bound, drops, its_by, keeps, moment_moves, puts}
use Rattle.sbp_world.proofs.Lists.ManageTerms.{none_is, same_some}
use Rattle.sbp_world.proofs.Lists.KeptReplies.{HasRead, brought, kept, reply_read}
use Rattle.sbp_world.proofs.Lists.Quiet.{AllQuiet, IsQuiet}
use Rattle.sbp_world.proofs.Common.{untrue, serial_is}

-- ---- a moment but that at which a packet is got leaves what the management asks for, or nothing of it
-- with its operation
abbrev Left : Office → Office → Type 0
Left before now = ((now.asks ≡ before.asks) × (now.manager ≡ before.manager)) ⊎ (now.asks ≡ Nothing)

abbrev asks_of : Office → Ask
asks_of o = o.asks

rest_asks : (t : Target) → (over t).manager_asks ≡ Nothing
rest_asks t = ap asks_of (over_keeps t)

placed_left : (place : Option ℕ) (decided : Option Decided) (id : ℕ) (o : Office) → Left o (placed place decided id o)
placed_left None decided id o = inl (refl, refl)
placed_left (Some place) None id o = inl (refl, refl)
placed_left (Some place) (Some decided) id o = inl (refl, refl)

entered_left : (login : Option ℕ) (o : Office) → Left o (placed_by login o)
entered_left None o = inl (refl, refl)
entered_left (Some id) o = placed_left (position is_none o.table.places) o.decided id o

managed_left : (word : FunctionWord) (login : Option ℕ) (o : Office) → Left o (by_managed word login o)
managed_left functions.Login login o = entered_left login o
managed_left _ login o = inl (refl, refl)

by_left : (note : Note) (o : Office) → Left o (by_note note o)
by_left (notes.ManageFailed i cause) o = inr refl
by_left (notes.Managed i word subject status login) o = managed_left word login o
by_left (notes.Held id) o = inl (refl, refl)
by_left (notes.Back id) o = inl (refl, refl)
by_left (notes.Left id) o = inl (refl, refl)
by_left (notes.Expired id) o = inl (refl, refl)
by_left _ o = inl (refl, refl)

behind_left : (note : Note) (past : List Moment) (wire : Terms) (t : Target) → IsBehind note → Left (office_of t) (office_of (target_by note past wire t))
behind_left note past wire t h = subst (λ (o : Office). Left (office_of t) o) (sym (note_changes note past wire t h)) (by_left note (office_of t))

-- a time-out leaves nothing
late_in : (phase : Phase) (op : Operation) (m : Machine) (table : Table) (keys : List (List ℕ)) → (management.reply_in phase m op table keys Expired).0.ask ≡ Nothing
late_in phases.Orb op m table keys = refl
late_in (phases.HighEui orb) op m table keys = refl
late_in (phases.LowEui orb high) op m table keys = refl
late_in (phases.Response fifo) op m table keys = refl
late_in phases.Status op m table keys = refl

late_to : (operation : Option Operation) (m : Machine) (table : Table) (keys : List (List ℕ)) → (management.reply_to operation m table keys Expired).0.ask ≡ Nothing
late_to None m table keys = refl
late_to (Some op) m table keys = late_in op.phase op m table keys

late_step : (m : Machine) (table : Table) (keys : List (List ℕ)) → (management.reply_step m table keys Expired).0.ask ≡ Nothing
unfolding management.reply_step
late_step m table keys = late_to m.operation m table keys

late_asks : (serial : ℕ) (t : Target) → (laws_replied serial Expired (over t)).manager_asks ≡ Nothing
late_asks serial t = by (is_serial (over t).manages serial) refl
  where
    by : (b : Bool) → is_serial (over t).manages serial ≡ b → (laws_replied serial Expired (over t)).manager_asks ≡ Nothing
    by true e = ap asks_of (own_reply serial Expired (over t) e) ∙ late_step (over t).manager (over t).table (over t).keys
    by false e = ap asks_of (other_reply serial Expired (over t) e) ∙ rest_asks t

pick_left : (b : Bool) (t x y : Target) → Left (office_of t) (office_of x) → Left (office_of t) (office_of y) → Left (office_of t) (office_of (cond b x y))
pick_left true t x y h k = h
pick_left false t x y h k = k

seen_left : (b : Bool) (t : Target) → (reset_seen b (over t)).manager_asks ≡ Nothing
seen_left true t = rest_asks t
seen_left false t = rest_asks t

key_left : (event : Option Event) (unit : ℕ) (t : Target) → Left (office_of t) (office_of (key_by event unit t))
key_left None unit t = inl (refl, refl)
key_left (Some (events.Key other key)) unit t = inl (refl, refl)
key_left (Some (events.Begin a b)) unit t = inl (refl, refl)
key_left (Some (events.Act a b)) unit t = inl (refl, refl)
key_left (Some (events.Reset a)) unit t = inl (refl, refl)
key_left (Some (events.See a)) unit t = inl (refl, refl)
key_left (Some (events.Deliver a)) unit t = inl (refl, refl)
key_left (Some (events.Repeat a)) unit t = inl (refl, refl)
key_left (Some (events.Lose a)) unit t = inl (refl, refl)
key_left (Some (events.Timeout a)) unit t = inl (refl, refl)
key_left (Some (events.Step a)) unit t = inl (refl, refl)
key_left (Some events.Settle) unit t = inl (refl, refl)
key_left (Some events.Tick) unit t = inl (refl, refl)
key_left (Some (events.Inject a b)) unit t = inl (refl, refl)

for_left : (place : Option ℕ) (is_write : Bool) (serial : ℕ) (t : Target) → Left (office_of t) (office_of (sent_for place is_write serial t))
for_left (Some place) is_write serial t = inl (refl, refl)
for_left None is_write serial t = by (wants t.manager_asks is_write)
  where
    by : (b : Bool) → Left (office_of t) (office_of (cond b (record t { manages = Some serial; manager_asks = Nothing }) (record t { pushes = serial ∷ t.pushes })))
    by true = inr refl
    by false = inl (refl, refl)

sent_left : (part : Part) (is_write : Bool) (serial : ℕ) (t : Target) → Left (office_of t) (office_of (sent_as part is_write serial t))
sent_left (request label kind) is_write serial t = for_left (position (wants_it is_write) t.agents) is_write serial t
sent_left (response label kind) is_write serial t = inl (refl, refl)
sent_left no_packet is_write serial t = inl (refl, refl)

note_left : (note : Note) (past : List Moment) (wire : Terms) (t : Target) → IsNoGot note → Left (office_of t) (office_of (target_by note past wire t))
note_left (notes.Begin initiators ready) past wire t n = inl (refl, refl)
note_left (notes.Got serial) past wire t n = absurd n
note_left (notes.Ignored serial cause) past wire t n = inr (rest_asks t)
note_left (notes.TimedOut serial) past wire t n = pick_left (is_serial (sender_in (wire.sent serial)) 0) t (laws_replied serial Expired (over t)) (over t) (inr (late_asks serial t)) (inr (rest_asks t))
note_left (notes.Seen node generation) past wire t n =
    let b = not (generation == wire.generation 0) in pick_left (node == 0) t (reset_seen b (over t)) (over t) (inr (seen_left b t)) (inr (rest_asks t))
note_left notes.Tick past wire t n = inr (rest_asks t)
note_left (notes.Key unit) past wire t n = key_left (event_of past) unit t
note_left (notes.Sent serial generation from to bytes) past wire t n =
    let settled = taken_on None t.reply t in
    let same : office_of settled ≡ office_of t = taken_keeps None t.reply t in
    let x = sent_as (part_of bytes) (is_write_access (access_in_bytes bytes)) serial settled in
    pick_left (from == 0) t x settled (subst (λ (o : Office). Left o (office_of x)) same (sent_left (part_of bytes) (is_write_access (access_in_bytes bytes)) serial settled)) (inl (ap asks_of same, ap (λ (o : Office). o.manager) same))
note_left note past wire t n = behind_left note past wire t tt

abbrev started_with : Ask → Result Ask Busy
started_with ask = Ok ask

abbrev refused_with : Busy → Result Ask Busy
refused_with busy = Err busy

-- an operation of the node with this ID is under way
pub record HasOpOf (source : ℕ) (m : Machine) : Type 0 where
  pub op : Operation
  pub is : m.operation ≡ Some op
  pub of : op.source ≡ source

-- ---- where it asks to write for such a node, and where the write begins that it waits for
module _ (whose : ℕ) (May : ℕ → Type 0) where
  abbrev pub AsksSo : Ask → Type 0
  AsksSo ask = (at len : ℕ) → ask ≡ asks.Write at len → May at

  pub record OfficeSo (start : List Disk) (past : List Moment) : Type 0 where
    pub asks_may : HasOpOf whose (target_at start past).manager → AsksSo (target_at start past).manager_asks
    pub waits_may : HasOpOf whose (target_at start past).manager → (r : ℕ) → (target_at start past).manages ≡ Some r → (access : Access) → access_at (terms past) r ≡ Some access → access.is_write ≡ true → May access.offset

  nothing_so : AsksSo Nothing
  nothing_so at len e = absurd (let no : Nothing ≡ asks.Write at len = e in cc)

  left_so : (before now : Office) → Left before now → (HasOpOf whose before.manager → AsksSo before.asks) → HasOpOf whose now.manager → AsksSo now.asks
  left_so before now (inl e) a own = subst AsksSo (sym e.0) (a (subst (HasOpOf whose) e.1 own))
  left_so before now (inr e) a own = subst AsksSo (sym e) nothing_so

  -- the body of a packet that it asks for
  write_body : (b : Bool) (at : ℕ) (out : List ℕ) (body : Body) → cond b (Some (block_write at out)) None ≡ Some body → May at → May (access_for body).offset
  write_body true at out body e m = (let is : block_write at out ≡ body = cc in subst (λ (x : Body). May (access_for x).offset) is m)
  write_body false at out body e m = none_is body e

  read_body : (b c : Bool) (at len : ℕ) (body : Body) → cond b (Some (quadlet_read at)) (cond c (Some (block_read at len)) None) ≡ Some body → (access_for body).is_write ≡ false
  read_body true c at len body e = (let is : quadlet_read at ≡ body = cc in ap (λ (x : Body). (access_for x).is_write) (sym is))
  read_body false true at len body e = (let is : block_read at len ≡ body = cc in ap (λ (x : Body). (access_for x).is_write) (sym is))
  read_body false false at len body e = none_is body e

  body_so : (ask : Ask) (out : List ℕ) (body : Body) → AsksSo ask → manager_body ask out ≡ Some body → (access_for body).is_write ≡ true → May (access_for body).offset
  body_so (asks.Write at len) out body a e w = write_body (nat_le (length out) largest) at out body e (a at len refl)
  body_so (asks.Read at len) out body a e w = untrue (sym (read_body (len == 4) (nat_le len largest) at len body e) ∙ w)
  body_so Nothing out body a e w = none_is body e

  -- ---- over a moment
  module _ (start : List Disk) where
    waits_on : (m : Moment) (past : List Moment) → SerialsCount (m ∷ past) → ContentAt start m past → OfficeSo start past → Moves (office_of (target_at start past)) (office_of (target_at start (m ∷ past))) m → HasOpOf whose (target_at start (m ∷ past)).manager → (r : ℕ) → (target_at start (m ∷ past)).manages ≡ Some r → (access : Access) → access_at (terms (m ∷ past)) r ≡ Some access → access.is_write ≡ true → May access.offset
    waits_on m past c content o (keeps manager decided manages) has r e access is w =
        let was = sym manages ∙ e in
        let few = ((bound start past (serials_behind m past c)).own r was).1 in
        let same = (remains (m ∷ []) past c).sent r few in
        o.waits_may (subst (HasOpOf whose) manager has) r was access (ap (λ so. access_in (packet_in so)) (sym same) ∙ is) w
    waits_on m past c content o (drops none) has r e access is w = none_is r (sym none ∙ e)
    waits_on m past c content o (puts serial generation to bytes at manager decided manages rests some) has r e access is w =
        let sent = said (notes.Sent serial generation zero to bytes) in
        let now = target_at start (sent ∷ past) in
        let t = target_at start past in
        let its : is_its_packet t now serial ≡ true =
        its_by (is_nothing t.manager_asks) (is_nothing now.manager_asks) (is_serial now.manages serial) some (ap (λ x. is_nothing (target_at start (x ∷ past)).manager_asks) (sym at) ∙ rests)
        (ap (λ x. is_serial (target_at start (x ∷ past)).manages serial) (sym at) ∙ (ap (λ x. is_serial x serial) manages ∙ (let z : nat_eq serial serial ≡ true = grind arith in z))) in
        let here : ContentAt start sent past = subst (λ (x : Moment). ContentAt start x past) at content in
        let a : IsAsked start past bytes = here its in
        let same : serial ≡ r = same_some serial r (sym manages ∙ e) in
        let there : access_at (terms (m ∷ past)) r ≡ Some (access_for a.body) =
        ap (λ x. access_at (terms (x ∷ past)) r) at ∙ (ap (λ n. access_at (terms (sent ∷ past)) n) (sym same) ∙ (ap (λ so. access_in (packet_in so)) (sent_there past serial generation zero to bytes) ∙ a.access)) in
        let of_body : access ≡ access_for a.body = same_Some access (access_for a.body) (sym is ∙ there) in
        subst (λ (x : Access). May x.offset) (sym of_body) (body_so t.manager_asks t.manager.outgoing a.body (o.asks_may (subst (HasOpOf whose) manager has)) a.asks (ap (λ (x : Access). x.is_write) (sym of_body) ∙ w))

    moves : (m : Moment) (past : List Moment) → SerialsCount (m ∷ past) → Moves (office_of (target_at start past)) (office_of (target_at start (m ∷ past))) m
    moves m past c = moment_moves start m past (bound start past (serials_behind m past c)).bare

    pub note_so : (note : Note) (past : List Moment) → IsNoGot note → SerialsCount (said note ∷ past) → ContentAt start (said note) past → OfficeSo start past → OfficeSo start (said note ∷ past)
    note_so note past n c content o = record {
      asks_may = left_so (office_of (target_at start past)) (office_of (target_at start (said note ∷ past))) (note_left note past (known_at start past).wire (target_at start past) n) o.asks_may;
      waits_may = waits_on (said note) past c content o (moves (said note) past c);
    }

    pub asked_so : (line : ℕ) (event : Event) (past : List Moment) → SerialsCount past → OfficeSo start past → OfficeSo start (asked line event ∷ past)
    asked_so line event past c o = record {
      asks_may = λ has. subst AsksSo (sym (rest_asks (target_at start past))) nothing_so;
      waits_may = waits_on (asked line event) past c tt o (moves (asked line event) past c);
    }

    -- ---- a packet is got
    -- what a reply to its request brings is good
    abbrev pub GotGood : List Moment → ℕ → Type 0
    GotGood past serial =
        (own : ℕ) → answered_at (terms past) serial ≡ Some own → (target_at start past).manages ≡ Some own → (op : Operation) → (target_at start past).manager.operation ≡ Some op → op.source ≡ whose → GoodIn op.phase × (op.phase ≡ phases.Orb → (xs : List ℕ) → payload_of (answer_in (packet_at (terms past) serial)) 32 ≡ Ok xs → IsGoodOrb (management_orb xs))

    module _ (its : (fifo : ℕ) → IsItsFifo fifo → May fifo) (aside : (at : ℕ) → IsAside at → May at) (past : List Moment) (serial : ℕ) (good : GotGood past serial) where
      abbrev t : Target
      t = target_at start past

      abbrev T : Target
      T = over t

      abbrev wire : Terms
      wire = terms past

      abbrev answer : Answer
      answer = answer_in (packet_at wire serial)

      rest_so : AsksSo T.manager_asks
      rest_so = subst AsksSo (sym (rest_asks t)) nothing_so

      office_is : office_of T ≡ at_rest (office_of t)
      office_is = over_keeps t

      operation_is : T.manager.operation ≡ t.manager.operation
      operation_is = ap (λ (o : Office). o.manager.operation) office_is

      -- the operation goes on
      no_operation : (m : Machine) (table : Table) (keys : List (List ℕ)) (told : Answer) → m.operation ≡ None → (management.reply_step m table keys told).0.ask ≡ Nothing
      unfolding management.reply_step
      no_operation m table keys told e = ap (λ (o : Option Operation). (management.reply_to o m table keys told).0.ask) e

      source_left : (own : ℕ) (m : Machine) → m ≡ (management.reply_step T.manager T.table T.keys answer).1.0 → HasOpOf whose m → (op : Operation) → T.manager.operation ≡ Some op → op.source ≡ whose
      source_left own m same has op f =
          by (reply_read T.manager T.table T.keys answer has.op (ap (λ (x : Machine). x.operation) (sym same) ∙ has.is))
        where
          old_is : (old : Operation) → T.manager.operation ≡ Some old → old.source ≡ has.op.source → op.source ≡ whose
          old_is old was source = ap (λ (x : Operation). x.source) (same_some op old (sym f ∙ was)) ∙ (source ∙ has.of)

          by : HasRead T.manager.operation answer has.op → op.source ≡ whose
          by (kept old was source orb k) = old_is old was source
          by (brought old was source orb phase bytes pays k) = old_is old was source

      replied_by : (own : ℕ) → answered_at wire serial ≡ Some own → T.manages ≡ Some own → (o : Option Operation) → T.manager.operation ≡ o → ((op : Operation) → T.manager.operation ≡ Some op → op.source ≡ whose) → AsksSo (management.reply_step T.manager T.table T.keys (answer_in (packet_at wire serial))).0.ask
      replied_by own closed e None f of = subst AsksSo (sym (no_operation T.manager T.table T.keys (answer_in (packet_at wire serial)) f)) nothing_so
      replied_by own closed e (Some op) f of =
          let g = good own closed (sym (ap (λ (o : Office). o.manages) office_is) ∙ e) op (sym operation_is ∙ f) (of op f) in
          reply_may May its aside T.manager T.table T.keys (answer_in (packet_at wire serial)) op f g.0 g.1

      abbrev So : Office → Type 0
      So o = HasOpOf whose o.manager → AsksSo o.asks

      replied_so : (own : ℕ) → answered_at wire serial ≡ Some own → So (office_of (laws_replied own (answer_in (packet_at wire serial)) T))
      replied_so own closed = by (is_serial T.manages own) refl
        where
          by : (b : Bool) → is_serial T.manages own ≡ b → So (office_of (laws_replied own answer T))
          by true e has =
              let left = own_reply own answer T e in
              subst AsksSo (sym (ap asks_of left)) (replied_by own closed (serial_is T.manages own e) T.manager.operation refl (source_left own (laws_replied own answer T).manager (ap (λ (o : Office). o.manager) left) has))
          by false e has = subst AsksSo (sym (ap asks_of (other_reply own answer T e))) rest_so

      -- one is started
      same_ok : (a b : Ask) → started_with a ≡ started_with b → a ≡ b
      same_ok a b e = cc

      busy_not : {A : Type 0} (busy : Busy) (a : Ask) → refused_with busy ≡ started_with a → A
      busy_not busy a e = absurd (let no : refused_with busy ≡ started_with a = e in cc)

      read_not : {A : Type 0} (from size at len : ℕ) → asks.Read from size ≡ asks.Write at len → A
      read_not from size at len e = absurd (let no : asks.Read from size ≡ asks.Write at len = e in cc)

      starts_so : (r : Result Ask Busy × Machine) (o : Office) → ((ask : Ask) → r.0 ≡ Ok ask → AsksSo ask) → AsksSo o.asks → AsksSo (started_by r o).asks
      starts_so (Err busy, m) o f a = a
      starts_so (Ok ask, m) o f a = f ask refl

      orb_read : (operation : Option Operation) (m : Machine) (source orb : ℕ) (ask : Ask) → (management.start_with operation m source orb).0 ≡ Ok ask → AsksSo ask
      orb_read None m source orb ask e at len f = read_not orb 32 at len (same_ok (asks.Read orb 32) ask e ∙ f)
      orb_read (Some op) m source orb ask e at len f = busy_not (record {}) ask e

      started_so : (source orb : ℕ) (o : Office) → AsksSo o.asks → AsksSo (started source orb o).asks
      unfolding management.start_step
      started_so source orb o a = starts_so (management.start_with o.manager.operation o.manager source orb) o (λ ask e. orb_read o.manager.operation o.manager source orb ask e) a

      start_so : (start : Start) (source : ℕ) (access : Access) (o : Office) → AsksSo o.asks → AsksSo (start_office start source access o).asks
      start_so management_agent source access o a = started_so source (offset_at access.payload 0) o a
      start_so (register place name) source access o a = a
      start_so rom_start source access o a = a
      start_so no_start source access o a = a

      served_so : (b : Bool) (start : Start) (source : ℕ) (access : Access) (o : Office) → AsksSo o.asks → AsksSo (served_office b start source access o).asks
      served_so true start source access o a = start_so start source access o a
      served_so false start source access o a = a

      request_so : (access : Option Access) (source : ℕ) → AsksSo (request_got access source T).manager_asks
      request_so None source = rest_so
      request_so (Some access) source =
          subst AsksSo (sym (ap asks_of (request_keeps access source T))) (served_so (start_serves (start_at access.offset) access) (start_at access.offset) source access (office_of T) rest_so)

      got_own : (own : Option ℕ) → answered_at wire serial ≡ own → So (office_of (got_by own wire serial T))
      got_own (Some own) e has = replied_so own e has
      got_own None e has = request_so (access_at wire serial) (id_for wire 0 (unwrap_or (sender_in (wire.sent serial)) 0))

      by_receiver : (b : Bool) → So (office_of (cond b (got_by (answered_at wire serial) wire serial T) T))
      by_receiver true has = got_own (answered_at wire serial) refl has
      by_receiver false has = rest_so

      got_asks : So (office_of (target_at start (said (notes.Got serial) ∷ past)))
      got_asks = subst (λ (w : Terms). So (office_of (target_by (notes.Got serial) past w t))) (sym (wire_is start past)) (by_receiver (is_serial (receiver_in (wire.sent serial)) 0))

      pub got_so : SerialsCount past → OfficeSo start past → OfficeSo start (said (notes.Got serial) ∷ past)
      got_so c o = record { asks_may = got_asks; waits_may = waits_on (said (notes.Got serial)) past c tt o (moves (said (notes.Got serial)) past c) }

    -- ---- behind the first note of a turn
    pub quiet_no_got : (note : Note) → IsQuiet note → IsNoGot note
    quiet_no_got (notes.Got serial) q = absurd q
    quiet_no_got note q = tt

    pub front_so : (front : List Note) (past : List Moment) → AllQuiet front → SerialsCount (map said front ++ past) → EachMoment (ContentAt start) (map said front ++ past) → OfficeSo start past → OfficeSo start (map said front ++ past)
    front_so [] past q c each o = o
    front_so (note ∷ front) past q c each o =
        let behind = map said front ++ past in
        note_so note behind (quiet_no_got note q.0) c each.0 (front_so front past q.1 (serials_behind (said note) behind c) each.1 o)
