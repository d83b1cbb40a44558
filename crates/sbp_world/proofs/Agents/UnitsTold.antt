-- What the notes of a history make of the units of its terms: a run leaves its unit as the laws say, a cleared unit is reset, and no other note changes any.
use Rattle.sbp_world.proofs.Words.Std.{◌≡◌, ◌∙◌, refl, sym, ap, ℕ, ◌+◌, ◌==◌, not, Bool, true, false, cond, List, [], ◌∷◌, ◌++◌, map, Option, Some, None, Result, Ok, Err, is_none, position, slice_set, unwrap_or}
use Rattle.sbp_world.proofs.Words.Wire.{LabelParts, Holder, node_of, topology_at, counted, ran_note, function_word, login_if, Access, Register, agent_state, agent_reset, orb_pointer, doorbell, unsolicited_enable, Start, rom_start, management_agent, register, no_start, start_at, start_serves, OutboxState, Moment, said, Part, part_of, request, response, Terms, terms, Cause, Event, Note, Outgoing, Side}
use Rattle.sbp_world.proofs.Words.Target.{Login, Table, is_live, place_at, Effect, ManagerStep, Busy, Outcome, Disk, Told, check_in, PlainDisk}
use Rattle.sbp_world.proofs.Words.Initiator.{Ask, Nothing, FailCause, offset_at, Answer, Expired}
use Rattle.sbp_world.proofs.Words.Laws.{left_by_reset, left_by_run, unit_at, access_at, access_in_bytes, answer_in, answered_at, id_for, packet_at, receiver_in, sender_in, event_of, Decided, Purpose, Reply, Target, agent_at, decided_by, effect_on, entered_by, enters_in, for_agent, for_manager, for_nobody, going_on, got_by, is_own_run, is_serial, is_write_access, keep_decided, key_by, known_at, managed_by, manager_step, over, place_on, points, purpose_of, ran_on, register_got, replied, replied_to, request_got, reset_seen, sent_as, sent_for, start_got, started_by, taken_on, target_at, target_by, unit_in, wants, wants_it, with_agent}
use Rattle.sbp_world.proofs.Words.World.{handed_out, asked, posted, sent, sent_all, sent_to, holder, initiator_of, ticket_at, told, told_all, WorldState, with_note, Office}
use Rattle.mgmt_agent.specs.declared.decision.Effect.TheVariants as effects
use Rattle.mgmt_agent.specs.Machine as manager
use Rattle.orb_layout.specs.declared.ask.FailCause.TheVariants as causes
use Rattle.sbp_journal.specs.Transactions.{no_packet}
use Rattle.sbp_journal.specs.declared.event.Event.TheVariants as events
use Rattle.sbp_journal.specs.declared.note.Note.TheVariants as notes
use Rattle.sbp_journal.specs.declared.operation.FunctionWord.TheVariants as words
use Rattle.sbp_journal.specs.declared.side.Side.TheVariants as sides
use Rattle.sbp_laws.proofs.Going.{AgentsAlone, going_alone, run_alone, taken_alone}
use Rattle.sbp_world.proofs.Agents.Management.Firsts.{wire_is}
use Rattle.sbp_world.proofs.Formed.{AreOwn, IsNoRun, IsOwn}
use Rattle.sbp_world.proofs.Agents.Management.Still.{hist}
use Rattle.sbp_world.proofs.Agents.Management.Told.{one_side, term_in}

-- ---- the same units, and the same logins

abbrev pub Same : Target → Target → Type 0
Same x y = (y.units ≡ x.units) × (y.table ≡ x.table)

same_then : (x y z : Target) → Same x y → Same y z → Same x z
same_then x y z h i = (i.0 ∙ h.0, i.1 ∙ h.1)

same_if : (b : Bool) (x y z : Target) → Same x y → Same x z → Same x (cond b y z)
same_if true x y z h i = h
same_if false x y z h i = i

alone_same : (x now : Target) → AgentsAlone x now → Same x now
alone_same x now e = (ap (λ (y : Target). y.units) e, ap (λ (y : Target). y.table) e)

takes_on : (told : Option Told) (reply : Option Reply) (x : Target) → Same x (taken_on told reply x)
takes_on told reply x = alone_same x (taken_on told reply x) (taken_alone told reply x)

goes_on : (note : Note) (x : Target) → Same x (going_on note x)
goes_on note x = alone_same x (going_on note x) (going_alone note x)

pub is_over : (x : Target) → Same x (over x)
is_over x = takes_on None x.reply x

affects : (effect : Effect) (x : Target) → Same x (effect_on effect x)
affects effects.Nothing x = (refl, refl)
affects (effects.Entered place replaced) x = (refl, refl)
affects (effects.Back place) x = (refl, refl)
affects (effects.Left place) x = (refl, refl)
affects (effects.Abort place orb) x = (refl, refl)
affects (effects.AbortSet place) x = (refl, refl)
affects (effects.UnitReset unit) x = (refl, refl)
affects effects.TargetReset x = (refl, refl)

manages : (r : ManagerStep × (manager.Machine × Table)) (answer : Answer) (x : Target) → Same x (managed_by r answer x)
manages (step, (machine, table)) answer x =
    affects step.effect (record x {
      manager = machine;
      manages = None;
      manager_asks = step.ask;
      decided = keep_decided step.decided (decided_by x.manager.operation answer) x.decided;
    })

replies_to : (purpose : Purpose) (answer : Answer) (x : Target) → Same x (replied_to purpose answer x)
replies_to (for_agent place which) answer x = (refl, refl)
replies_to for_manager answer x = manages (manager_step x answer) answer x
replies_to for_nobody answer x = (refl, refl)

registers : (name : Register) (place : ℕ) (access : Access) (x : Target) → Same x (register_got name place access x)
registers agent_reset place access x = (refl, refl)
registers orb_pointer place access x =
    same_if access.is_write x (with_agent x place (points access (agent_at x place))) x (refl, refl) (refl, refl)
registers doorbell place access x = (refl, refl)
registers unsolicited_enable place access x = (refl, refl)
registers agent_state place access x = (refl, refl)

starts_by : (r : Result Ask Busy × manager.Machine) (x : Target) → Same x (started_by r x)
starts_by (Err busy, machine) x = (refl, refl)
starts_by (Ok ask, machine) x = (refl, refl)

starts : (start : Start) (source : ℕ) (access : Access) (x : Target) → Same x (start_got start source access x)
starts (register place name) source access x = registers name place access x
starts management_agent source access x = starts_by (manager.start_step x.manager source (offset_at access.payload 0)) x
starts rom_start source access x = (refl, refl)
starts no_start source access x = (refl, refl)

requests : (access : Option Access) (source : ℕ) (x : Target) → Same x (request_got access source x)
requests None source x = (refl, refl)
requests (Some access) source x =
    same_if (start_serves (start_at access.offset) access) x (start_got (start_at access.offset) source access x) x (starts (start_at access.offset) source access x) (refl, refl)

gets_by : (own : Option ℕ) (wire : Terms) (serial : ℕ) (x : Target) → Same x (got_by own wire serial x)
gets_by (Some own) wire serial x = replies_to (purpose_of x own) (answer_in (packet_at wire serial)) x
gets_by None wire serial x = requests (access_at wire serial) (id_for wire 0 (unwrap_or (sender_in (wire.sent serial)) 0)) x

sights : (b : Bool) (x : Target) → Same x (reset_seen b x)
sights true x = (refl, refl)
sights false x = (refl, refl)

sends_for : (place : Option ℕ) (is_write : Bool) (serial : ℕ) (x : Target) → Same x (sent_for place is_write serial x)
sends_for (Some place) is_write serial x = (refl, refl)
sends_for None is_write serial x =
    same_if (wants x.manager_asks is_write) x (record x { manages = Some serial; manager_asks = Nothing }) (record x { pushes = serial ∷ x.pushes }) (refl, refl) (refl, refl)

sends_as : (part : Part) (is_write : Bool) (serial : ℕ) (x : Target) → Same x (sent_as part is_write serial x)
sends_as (request label kind) is_write serial x = sends_for (position (wants_it is_write) x.agents) is_write serial x
sends_as (response label kind) is_write serial x = (refl, refl)
sends_as no_packet is_write serial x = (refl, refl)

enters : (place : Option ℕ) (decided : Option Decided) (id : ℕ) (x : Target) → (enters_in place decided id x).units ≡ x.units
enters None decided id x = refl
enters (Some place) None id x = refl
enters (Some place) (Some decided) id x = refl

entries : (id : Option ℕ) (x : Target) → (entered_by id x).units ≡ x.units
entries None x = refl
entries (Some id) x = enters (position is_none x.table.places) x.decided id x

keys : (event : Option Event) (unit : ℕ) (x : Target) → (key_by event unit x).units ≡ x.units
keys None unit x = refl
keys (Some (events.Begin initiators ready)) unit x = refl
keys (Some (events.Act initiator action)) unit x = refl
keys (Some (events.Reset ids)) unit x = refl
keys (Some (events.See node)) unit x = refl
keys (Some (events.Deliver serial)) unit x = refl
keys (Some (events.Repeat serial)) unit x = refl
keys (Some (events.Lose serial)) unit x = refl
keys (Some (events.Timeout serial)) unit x = refl
keys (Some (events.Step count)) unit x = refl
keys (Some events.Settle) unit x = refl
keys (Some events.Tick) unit x = refl
keys (Some (events.Inject initiator bytes)) unit x = refl
keys (Some (events.Key other key)) unit x = refl

-- ---- the notes

-- neither of a run nor of a unit that is cleared
abbrev pub SparesUnits : Note → Type 0
SparesUnits (notes.Ran i n k unit cdb bytes check) = ⊥
SparesUnits (notes.Cleared unit) = ⊥
SparesUnits _ = Unit {0}

-- what the target got, and what it waited for in vain
pub got_same : (serial : ℕ) (past : List Moment) (wire : Terms) (x : Target) → Same x (target_by (notes.Got serial) past wire x)
got_same serial past wire x =
    let got = got_by (answered_at wire serial) wire serial (over x) in
    same_if (is_serial (receiver_in (wire.sent serial)) 0) x got (over x) (same_then x (over x) got (is_over x) (gets_by (answered_at wire serial) wire serial (over x))) (is_over x)

pub lapse_same : (serial : ℕ) (past : List Moment) (wire : Terms) (x : Target) → Same x (target_by (notes.TimedOut serial) past wire x)
lapse_same serial past wire x =
    let lapsed = replied serial Expired (over x) in
    same_if (is_serial (sender_in (wire.sent serial)) 0) x lapsed (over x) (same_then x (over x) lapsed (is_over x) (replies_to (purpose_of (over x) serial) Expired (over x))) (is_over x)

pub ignored_same : (serial : ℕ) (cause : Cause) (past : List Moment) (wire : Terms) (x : Target) → Same x (target_by (notes.Ignored serial cause) past wire x)
ignored_same serial cause past wire x = is_over x

dead_spares : (i : ℕ) (list : Option ℕ) (cause : FailCause) (past : List Moment) (wire : Terms) (x : Target) → (target_by (notes.Dead i list cause) past wire x).units ≡ x.units
dead_spares i list causes.Timeout past wire x = (goes_on (notes.Dead i list causes.Timeout) x).0
dead_spares i list causes.Label past wire x = (takes_on None x.reply x).0
dead_spares i list causes.Refused past wire x = (goes_on (notes.Dead i list causes.Refused) x).0
dead_spares i list causes.Grammar past wire x = (goes_on (notes.Dead i list causes.Grammar) x).0

pub note_spares : (note : Note) (past : List Moment) (wire : Terms) (x : Target) → SparesUnits note → (target_by note past wire x).units ≡ x.units
note_spares (notes.Begin initiators ready) past wire x h = refl
note_spares (notes.Got serial) past wire x h = (got_same serial past wire x).0
note_spares (notes.Ignored serial cause) past wire x h = (is_over x).0
note_spares (notes.TimedOut serial) past wire x h = (lapse_same serial past wire x).0
note_spares (notes.Seen node generation) past wire x h =
    let reset = reset_seen (not (generation == wire.generation 0)) (over x) in
    (same_if (node == 0) x reset (over x) (same_then x (over x) reset (is_over x) (sights (not (generation == wire.generation 0)) (over x))) (is_over x)).0
note_spares notes.Tick past wire x h = (is_over x).0
note_spares (notes.Ran i n k unit cdb bytes check) past wire x h = absurd h
note_spares (notes.Sent serial generation from to bytes) past wire x h =
    let settled = taken_on None x.reply x in
    let written = is_write_access (access_in_bytes bytes) in
    let left = sent_as (part_of bytes) written serial settled in
    (same_if (from == 0) x left settled (same_then x settled left (takes_on None x.reply x) (sends_as (part_of bytes) written serial settled)) (takes_on None x.reply x)).0
note_spares (notes.Dead i n cause) past wire x h = dead_spares i n cause past wire x
note_spares (notes.ManageFailed i cause) past wire x h = refl
note_spares (notes.Managed i words.Login subject status login) past wire x h = entries login x
note_spares (notes.Held id) past wire x h = refl
note_spares (notes.Back id) past wire x h = refl
note_spares (notes.Left id) past wire x h = refl
note_spares (notes.Expired id) past wire x h = refl
note_spares (notes.Cleared unit) past wire x h = absurd h
note_spares (notes.Key unit) past wire x h = keys (event_of past) unit x
note_spares (notes.Unsolicited i) past wire x h = refl
note_spares (notes.Append i list orb cdb buffer) past wire x h = (goes_on (notes.Append i list orb cdb buffer) x).0
note_spares (notes.Low i list orb) past wire x h = (goes_on (notes.Low i list orb) x).0
note_spares (notes.Linked i list orb) past wire x h = (goes_on (notes.Linked i list orb) x).0
note_spares (notes.Rung i list orb) past wire x h = (goes_on (notes.Rung i list orb) x).0
note_spares (notes.Dummied i list orb) past wire x h = (goes_on (notes.Dummied i list orb) x).0
note_spares (notes.Injected serial) past wire x h = (goes_on (notes.Injected serial) x).0
note_spares (notes.Lost serial) past wire x h = (goes_on (notes.Lost serial) x).0
note_spares (notes.Ended i n k status) past wire x h = (goes_on (notes.Ended i n k status) x).0
note_spares (notes.Taken i n k status answer) past wire x h = (goes_on (notes.Taken i n k status answer) x).0
note_spares (notes.Cut i n cause) past wire x h = (goes_on (notes.Cut i n cause) x).0
note_spares (notes.Drop i list) past wire x h = (goes_on (notes.Drop i list) x).0
note_spares (notes.Managed i words.Query subject status login) past wire x h = (goes_on (notes.Managed i words.Query subject status login) x).0
note_spares (notes.Managed i words.Reconnect subject status login) past wire x h = (goes_on (notes.Managed i words.Reconnect subject status login) x).0
note_spares (notes.Managed i words.Logout subject status login) past wire x h = (goes_on (notes.Managed i words.Logout subject status login) x).0
note_spares (notes.Managed i words.Abort subject status login) past wire x h = (goes_on (notes.Managed i words.Abort subject status login) x).0
note_spares (notes.Managed i words.AbortSet subject status login) past wire x h = (goes_on (notes.Managed i words.AbortSet subject status login) x).0
note_spares (notes.Managed i words.UnitReset subject status login) past wire x h = (goes_on (notes.Managed i words.UnitReset subject status login) x).0
note_spares (notes.Managed i words.TargetReset subject status login) past wire x h = (goes_on (notes.Managed i words.TargetReset subject status login) x).0
note_spares (notes.Managed i words.Other subject status login) past wire x h = (goes_on (notes.Managed i words.Other subject status login) x).0
note_spares (notes.Op i operation word) past wire x h = (goes_on (notes.Op i operation word) x).0
note_spares (notes.Stuck i) past wire x h = (goes_on (notes.Stuck i) x).0
note_spares (notes.Reset generation) past wire x h = (goes_on (notes.Reset generation) x).0
note_spares (notes.Refused line number) past wire x h = (goes_on (notes.Refused line number) x).0
note_spares (notes.Unsent i) past wire x h = (goes_on (notes.Unsent i) x).0
note_spares (notes.Told i) past wire x h = (goes_on (notes.Told i) x).0
note_spares notes.Settled past wire x h = (goes_on notes.Settled x).0
note_spares notes.Stopped past wire x h = (goes_on notes.Stopped x).0

own_spares : (note : Note) → IsNoRun note → SparesUnits note
own_spares (notes.Append i list orb cdb buffer) h = tt
own_spares (notes.Low i list orb) h = tt
own_spares (notes.Linked i list orb) h = tt
own_spares (notes.Rung i list orb) h = tt
own_spares (notes.Dummied i list orb) h = tt
own_spares (notes.Taken i n k status answer) h = tt
own_spares (notes.Drop i list) h = tt
own_spares (notes.Op i operation word) h = tt
own_spares (notes.Stuck i) h = tt
own_spares (notes.Told i) h = tt
own_spares (notes.Begin initiators ready) h = tt
own_spares (notes.Sent serial generation from to bytes) h = tt
own_spares (notes.Injected serial) h = tt
own_spares (notes.Got serial) h = tt
own_spares (notes.Ignored serial cause) h = tt
own_spares (notes.Lost serial) h = tt
own_spares (notes.TimedOut serial) h = tt
own_spares (notes.Ran i n k unit cdb bytes check) h = absurd h
own_spares (notes.Ended i n k status) h = tt
own_spares (notes.Cut i n cause) h = tt
own_spares (notes.Dead i n cause) h = tt
own_spares (notes.Managed i word subject status login) h = tt
own_spares (notes.ManageFailed i cause) h = tt
own_spares (notes.Held id) h = tt
own_spares (notes.Expired id) h = tt
own_spares (notes.Back id) h = tt
own_spares (notes.Left id) h = tt
own_spares (notes.Cleared unit) h = absurd h
own_spares (notes.Reset generation) h = tt
own_spares (notes.Seen node generation) h = tt
own_spares notes.Tick h = tt
own_spares (notes.Refused line number) h = tt
own_spares notes.Settled h = tt
own_spares notes.Stopped h = tt
own_spares (notes.Key unit) h = tt
own_spares (notes.Unsolicited i) h = tt
own_spares (notes.Unsent i) h = tt

-- ---- what a target tells

-- the unit of the login of a place
abbrev pub unit_for : List (Option Login) → ℕ → ℕ
unit_for places place = unit_in (place_at places place)

-- what a side makes of the units, over the logins that stand as it is told
abbrev pub by_side : Side → List (Option Login) → List PlainDisk → List PlainDisk
by_side (sides.Ran place orb cdb payload outcome) places units =
    slice_set units (unit_for places place) (left_by_run cdb payload (check_in outcome) place (unit_for places place) places (unit_at units (unit_for places place)))
by_side (sides.Cleared unit) places units = slice_set units unit (left_by_reset unit places (unit_at units unit))
by_side side places units = units

abbrev pub by_sides : List Side → List (Option Login) → List PlainDisk → List PlainDisk
by_sides [] places units = units
by_sides (side ∷ later) places units = by_sides later places (by_side side places units)

pub sides_more : (told : List Side) (side : Side) (places : List (Option Login)) (units : List PlainDisk) → by_sides (told ++ side ∷ []) places units ≡ by_side side places (by_sides told places units)
sides_more [] side places units = refl
sides_more (first ∷ told) side places units = sides_more told side places (by_side first places units)

-- of no unit
abbrev pub Spares : Side → Type 0
Spares (sides.Own note) = ⊥
Spares (sides.Ran place orb cdb payload outcome) = ⊥
Spares (sides.Cleared unit) = ⊥
Spares _ = Unit {0}

abbrev pub AllSpare : List Side → Type 0
AllSpare [] = Unit {0}
AllSpare (side ∷ later) = Spares side × AllSpare later

pub spare_more : (told : List Side) (side : Side) → AllSpare told → Spares side → AllSpare (told ++ side ∷ [])
spare_more [] side h f = (f, tt)
spare_more (first ∷ told) side h f = (h.0, spare_more told side h.1 f)

-- a list is cut, or a unit cleared: the logins stay
abbrev pub Resets : Side → Type 0
Resets (sides.Cut place cause) = Unit {0}
Resets (sides.Cleared unit) = Unit {0}
Resets _ = ⊥

abbrev pub AllReset : List Side → Type 0
AllReset [] = Unit {0}
AllReset (side ∷ later) = Resets side × AllReset later

pub reset_more : (told : List Side) (side : Side) → AllReset told → Resets side → AllReset (told ++ side ∷ [])
reset_more [] side h f = (f, tt)
reset_more (first ∷ told) side h f = (h.0, reset_more told side h.1 f)

-- A live login has this place.
pub record HasLogin (places : List (Option Login)) (place : ℕ) : Type 0 where
  pub login : Login
  pub is : place_at places place ≡ Some login
  pub live : is_live login ≡ true

-- What was told of the units, over one table of logins: of a run, or of resets; and then of none.
pub data Makes (places : List (Option Login)) (first now : List PlainDisk) (told : List Side) : Type 0 where
  by_run : (place orb : ℕ) (cdb payload : List ℕ) (outcome : Outcome) (more : List Side) → HasLogin places place → AllSpare more → told ≡ sides.Ran place orb cdb payload outcome ∷ more → by_side (sides.Ran place orb cdb payload outcome) places first ≡ now → Makes places first now told
  by_resets : (before more : List Side) → AllReset before → AllSpare more → told ≡ before ++ more → by_sides before places first ≡ now → Makes places first now told

-- ---- a world's line

abbrev pub units_in : List Disk → List Moment → WorldState → List PlainDisk
units_in start past w = (term_in start past w).units

abbrev pub places_in : List Disk → List Moment → WorldState → List (Option Login)
places_in start past w = (term_in start past w).table.places

-- Who has a place is on its login's unit, and the terms find the place by him.
pub record IsFoundBy (start : List Disk) (ms : List Moment) (holder : Holder) (place : ℕ) (login : Login) : Type 0 where
  pub unit_is : holder.unit ≡ login.unit
  pub found : place_on (target_at start ms) login.unit (id_for (terms ms) 0 (holder.initiator + 1)) ≡ place

-- and so has each live login
abbrev pub AreFound : List Disk → List Moment → WorldState → List (Option Login) → Type 0
AreFound start past w places =
    (place : ℕ) (login : Login) → place_at places place ≡ Some login → is_live login ≡ true → IsFoundBy start (hist past w) (holder w place) place login

told_both : (weight : ℕ) (before more : List Side) (w : WorldState) → told_all weight (before ++ more) w ≡ told_all weight more (told_all weight before w)
unfolding told_all
told_both weight [] more w = refl
told_both weight (side ∷ before) more w = told_both weight before more (told weight side w)

-- the units that a run leaves
abbrev ran_units : (cdb payload : List ℕ) → Outcome → (place unit : ℕ) → List (Option Login) → List PlainDisk → List PlainDisk
ran_units cdb payload outcome place unit places units =
    slice_set units unit (left_by_run cdb payload (check_in outcome) place unit places (unit_at units unit))

module _ (start : List Disk) (past : List Moment) where
  pub one_note : (note : Note) (w : WorldState) → SparesUnits note → units_in start past (with_note note w) ≡ units_in start past w
  one_note note w h = note_spares note (map said w.fresh ++ past) (known_at start (map said w.fresh ++ past)).wire (term_in start past w) h

  one_spared : (weight : ℕ) (side : Side) (w : WorldState) → Spares side → units_in start past (told weight side w) ≡ units_in start past w
  unfolding told
  one_spared weight (sides.Own note) w h = absurd h
  one_spared weight (sides.Opened place orb) w h = refl
  one_spared weight (sides.Ran place orb cdb payload outcome) w h = absurd h
  one_spared weight (sides.Ended place orb status) w h = one_note (notes.Ended _ _ _ status) w tt
  one_spared weight (sides.Dead place cause) w h = one_note (notes.Dead _ _ cause) w tt
  one_spared weight (sides.Cut place cause) w h = one_note (notes.Cut _ _ cause) w tt
  one_spared weight (sides.Managed node function subject status login) w h =
      one_note (notes.Managed _ (function_word function) subject status (login_if (function_word function) status login)) w tt
  one_spared weight (sides.ManageFailed node cause) w h = one_note (notes.ManageFailed (initiator_of w node) cause) w tt
  one_spared weight (sides.Held login) w h = one_note (notes.Held login) w tt
  one_spared weight (sides.Expired login) w h = one_note (notes.Expired login) w tt
  one_spared weight (sides.Back login) w h = one_note (notes.Back login) w tt
  one_spared weight (sides.Left login) w h = one_note (notes.Left login) w tt
  one_spared weight (sides.Cleared unit) w h = absurd h
  one_spared weight (sides.Unsolicited place) w h = one_note (notes.Unsolicited (holder w place).initiator) w tt
  one_spared weight (sides.Unsent place) w h = one_note (notes.Unsent _) w tt

  all_spared : (weight : ℕ) (later : List Side) (w : WorldState) → AllSpare later → units_in start past (told_all weight later w) ≡ units_in start past w
  unfolding told_all
  all_spared weight [] w h = refl
  all_spared weight (side ∷ later) w h = all_spared weight later (told weight side w) h.1 ∙ one_spared weight side w h.0

  -- what an initiator tells
  one_own : (weight : ℕ) (side : Side) (w : WorldState) → IsOwn side → units_in start past (told weight side w) ≡ units_in start past w
  unfolding told
  one_own weight (sides.Own note) w h = one_note note (record w { loads = counted weight note w.loads }) (own_spares note h.1)
  one_own weight (sides.Opened place orb) w h = absurd h
  one_own weight (sides.Ran place orb cdb payload outcome) w h = absurd h
  one_own weight (sides.Ended place orb status) w h = absurd h
  one_own weight (sides.Dead place cause) w h = absurd h
  one_own weight (sides.Cut place cause) w h = absurd h
  one_own weight (sides.Managed node function subject status login) w h = absurd h
  one_own weight (sides.ManageFailed node cause) w h = absurd h
  one_own weight (sides.Held login) w h = absurd h
  one_own weight (sides.Expired login) w h = absurd h
  one_own weight (sides.Back login) w h = absurd h
  one_own weight (sides.Left login) w h = absurd h
  one_own weight (sides.Cleared unit) w h = absurd h
  one_own weight (sides.Unsolicited place) w h = absurd h
  one_own weight (sides.Unsent place) w h = absurd h

  all_own : (weight : ℕ) (later : List Side) (w : WorldState) → AreOwn later → units_in start past (told_all weight later w) ≡ units_in start past w
  unfolding told_all
  all_own weight [] w h = refl
  all_own weight (side ∷ later) w h = all_own weight later (told weight side w) h.1 ∙ one_own weight side w h.0

  -- resets
  one_reset : (weight : ℕ) (side : Side) (w : WorldState) → Resets side → (units_in start past (told weight side w) ≡ by_side side (places_in start past w) (units_in start past w)) × (places_in start past (told weight side w) ≡ places_in start past w)
  unfolding told
  one_reset weight (sides.Own note) w h = absurd h
  one_reset weight (sides.Opened place orb) w h = absurd h
  one_reset weight (sides.Ran place orb cdb payload outcome) w h = absurd h
  one_reset weight (sides.Ended place orb status) w h = absurd h
  one_reset weight (sides.Dead place cause) w h = absurd h
  one_reset weight (sides.Cut place cause) w h =
      (one_note (notes.Cut _ _ cause) w tt, ap (λ (o : Office). o.table.places) (one_side start past weight (sides.Cut place cause) w tt))
  one_reset weight (sides.Managed node function subject status login) w h = absurd h
  one_reset weight (sides.ManageFailed node cause) w h = absurd h
  one_reset weight (sides.Held login) w h = absurd h
  one_reset weight (sides.Expired login) w h = absurd h
  one_reset weight (sides.Back login) w h = absurd h
  one_reset weight (sides.Left login) w h = absurd h
  one_reset weight (sides.Cleared unit) w h = (refl, refl)
  one_reset weight (sides.Unsolicited place) w h = absurd h
  one_reset weight (sides.Unsent place) w h = absurd h

  all_reset : (weight : ℕ) (before : List Side) (w : WorldState) → AllReset before → (units_in start past (told_all weight before w) ≡ by_sides before (places_in start past w) (units_in start past w)) × (places_in start past (told_all weight before w) ≡ places_in start past w)
  unfolding told_all
  all_reset weight [] w h = (refl, refl)
  all_reset weight (side ∷ later) w h =
      let one = one_reset weight side w h.0 in
      let rest = all_reset weight later (told weight side w) h.1 in (
        rest.0
            ∙ ap (λ places. by_sides later places (units_in start past (told weight side w))) one.1
            ∙ ap (λ units. by_sides later (places_in start past w) units) one.0,
        rest.1 ∙ one.1,
      )

  -- a run of a live login
  one_run : (weight place orb : ℕ) (cdb payload : List ℕ) (outcome : Outcome) (w : WorldState) (places : List (Option Login)) (login : Login) → places_in start past w ≡ places → place_at places place ≡ Some login → IsFoundBy start (hist past w) (holder w place) place login → units_in start past (told weight (sides.Ran place orb cdb payload outcome) w) ≡ by_side (sides.Ran place orb cdb payload outcome) places (units_in start past w)
  unfolding told
  one_run weight place orb cdb payload outcome w places login table is f =
      let ms = hist past w in
      let t = term_in start past w in
      let x = holder w place in
      let note = ran_note x (ticket_at w place orb) cdb payload outcome in
      let own = is_own_run t.reply x.initiator (known_at start ms).wire t in
      let y = ran_on own note t in
      let same = alone_same t y (run_alone own note t) in
      let unit_is : x.unit ≡ unit_for places place = f.unit_is ∙ sym (ap unit_in is) in
      let found : place_on t x.unit (id_for (known_at start ms).wire 0 (x.initiator + 1)) ≡ place =
      ap (λ unit. place_on t unit (id_for (known_at start ms).wire 0 (x.initiator + 1))) f.unit_is
      ∙ ap (λ (wire : Terms). place_on t login.unit (id_for wire 0 (x.initiator + 1))) (wire_is start ms) ∙ f.found in
      let p = place_on t x.unit (id_for (known_at start ms).wire 0 (x.initiator + 1)) in
      ap (λ units. ran_units cdb payload outcome p x.unit y.table.places units) same.0
      ∙ ap (λ (z : Table). ran_units cdb payload outcome p x.unit z.places t.units) same.1
      ∙ ap (λ q. ran_units cdb payload outcome q x.unit t.table.places t.units) found
      ∙ ap (λ unit. ran_units cdb payload outcome place unit t.table.places t.units) unit_is
      ∙ ap (λ ps. ran_units cdb payload outcome place (unit_for places place) ps t.units) table

  -- all that a target tells in a turn
  makes_units : (weight : ℕ) (later : List Side) (w : WorldState) (places : List (Option Login)) (now : List PlainDisk) → places_in start past w ≡ places → AreFound start past w places → Makes places (units_in start past w) now later → units_in start past (told_all weight later w) ≡ now
  unfolding told_all
  makes_units weight later w places now table f (by_run place orb cdb payload outcome more has spare is made) =
      let side = sides.Ran place orb cdb payload outcome in
      ap (λ told. units_in start past (told_all weight told w)) is
      ∙ all_spared weight more (told weight side w) spare
      ∙ one_run weight place orb cdb payload outcome w places has.login table has.is (f place has.login has.is has.live)
      ∙ made
  makes_units weight later w places now table f (by_resets before more reset spare is made) =
      ap (λ told. units_in start past (told_all weight told w)) is
      ∙ ap (units_in start past) (told_both weight before more w)
      ∙ all_spared weight more (told_all weight before w) spare
      ∙ (all_reset weight before w reset).0
      ∙ ap (λ ps. by_sides before ps (units_in start past w)) table
      ∙ made

  -- packets leave
  pub posts : (from to : ℕ) (injected : Bool) (bytes : List ℕ) (w : WorldState) → units_in start past (posted from to injected bytes w) ≡ units_in start past w
  unfolding posted
  posts from to false bytes w = one_note (notes.Sent (w.store.last + 1) (topology_at w.generations from).generation from to bytes) w tt
  posts from to true bytes w =
      let v = with_note (notes.Injected (w.store.last + 1)) w in
      one_note (notes.Sent (w.store.last + 1) (topology_at w.generations from).generation from to bytes) v tt ∙ one_note (notes.Injected (w.store.last + 1)) w tt

  asks : (serial to node peer : ℕ) (label : Option LabelParts) (w : WorldState) → units_in start past (asked serial to node peer label w) ≡ units_in start past w
  asks serial to node peer None w = refl
  asks serial to node peer (Some label) w = refl

  sends_to : (to : Option ℕ) (from : ℕ) (packet : Outgoing) (w : WorldState) → units_in start past (sent_to to from packet w) ≡ units_in start past w
  sends_to None from packet w = refl
  sends_to (Some to) from packet w =
      asks (w.store.last + 1) to from packet.to packet.label (posted from to false packet.bytes w) ∙ posts from to false packet.bytes w

  sends_all : (from : ℕ) (packets : List Outgoing) (w : WorldState) → units_in start past (sent_all from packets w) ≡ units_in start past w
  unfolding sent_all sent
  sends_all from [] w = refl
  sends_all from (packet ∷ later) w = sends_all from later (sent from packet w) ∙ sends_to (node_of w.generations from packet.to) from packet w

  pub own_hands : (node weight : ℕ) (outbox : OutboxState) (w : WorldState) → AreOwn outbox.sides → units_in start past (handed_out node weight outbox w) ≡ units_in start past w
  own_hands node weight outbox w own = sends_all node outbox.packets (told_all weight outbox.sides w) ∙ all_own weight outbox.sides w own

  pub target_hands : (outbox : OutboxState) (w : WorldState) (places : List (Option Login)) (now : List PlainDisk) → places_in start past w ≡ places → AreFound start past w places → Makes places (units_in start past w) now outbox.sides → units_in start past (handed_out 0 0 outbox w) ≡ now
  target_hands outbox w places now table f made =
      sends_all 0 outbox.packets (told_all 0 outbox.sides w) ∙ makes_units 0 outbox.sides w places now table f made

  pub spared_hands : (outbox : OutboxState) (w : WorldState) → AllSpare outbox.sides → units_in start past (handed_out 0 0 outbox w) ≡ units_in start past w
  spared_hands outbox w spare = sends_all 0 outbox.packets (told_all 0 outbox.sides w) ∙ all_spared 0 outbox.sides w spare
