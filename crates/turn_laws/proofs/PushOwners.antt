-- A write that the target sent behind what its turn told is for an agent's main transaction or for the operation, which asks for nothing else then, or it is an unsolicited status.
use Rattle.std.proofs.Common.{arith, ◌≡◌, ◌≢◌, ◌∙◌, refl, sym, ap, subst, inl, inr, ◌⊎◌, ℕ, zero, suc, ◌+◌, ◌<◌, ◌≤◌, ◌==◌, ◌||◌, nat_eq, Bool, true, false, cond, List, [], ◌∷◌, ◌++◌, map, length, Option, Some, None, Result, Ok, Err}
use Rattle.std.specs.Prelude.{position, slice_set}
use Rattle.std.proofs.lemmas.Bool.Decides.{nat_tests}
use Rattle.std.proofs.lemmas.List.{get_or-set_same}
use Rattle.std.proofs.lemmas.List.Quantifiers.{position-Some}
use Rattle.async_packet.specs.Packet.{Packet, lock, lock_response, read_block, read_block_response, read_quadlet, read_quadlet_response, write_block, write_quadlet, write_response}
use Rattle.async_packet.specs.Reading.{reading}
use Rattle.async_packet.specs.declared.fault.PacketFault.{PacketFault}
use Rattle.bus_transactions.specs.Packets.{SerialsCount}
use Rattle.orb_layout.specs.declared.ask.Ask.{Ask}
use Rattle.orb_layout.specs.declared.ask.Ask.TheVariants.{Nothing}
use Rattle.rbc_disk.specs.Disk.{Disk}
use Rattle.sbp_journal.specs.Outgoings.{OutboxState}
use Rattle.sbp_journal.specs.Run.{Moment, asked, said}
use Rattle.sbp_journal.specs.Transactions.{Kind, Part, Sending, no_packet, part_by, part_in, part_of, request, response, writing}
use Rattle.sbp_journal.specs.Wire.{terms}
use Rattle.sbp_journal.specs.declared.note.Note.{Note}
use Rattle.sbp_journal.specs.declared.note.Note.TheVariants as notes
use Rattle.sbp_journal.specs.declared.outbox.Outgoing.{Outgoing}
use Rattle.sbp_journal.specs.declared.side.Side.{Side}
use Rattle.sbp_journal.specs.declared.side.Side.TheVariants as sides
use Rattle.sbp_laws.specs.Packets.{access_in, access_in_bytes, spelled_by}
use Rattle.sbp_laws.specs.Targets.{Agent, Target, agent_at, agent_over, for_manager, for_nobody, is_serial, is_write_access, new_agent, over, purpose_among, purpose_of, sends_of, sent_as, sent_for, taken_on, target_at, wants, wants_it}
use Rattle.sbp_world.specs.Agents.Crews.{agent_in}
use Rattle.sbp_bus.specs.Generations.{node_of}
use Rattle.sbp_world.specs.Handing.{handed_out}
use Rattle.sbp_world.specs.Hosts.Handing.{AreOthers, IsOther}
use Rattle.sbp_world.specs.Sending.{sent}
use Rattle.sbp_world.specs.Telling.{told, told_all}
use Rattle.sbp_world.specs.Worlds.{WorldState}
use Rattle.sbp_world.proofs.Agents.Management.Still.{hist}
use Rattle.sbp_world.proofs.Common.{untrue}
use Rattle.sbp_world.proofs.Lists.SentInTurn.{all_over}
use Rattle.sbp_world.proofs.Hosts.SentMoments.{count_now, sent_now, sent_there}
use Rattle.turn_laws.proofs.Handed.{handed, handed_fresh, note_of, notes_sent, notes_told, onto, onto_both, packet_note}
use Rattle.turn_laws.proofs.LaterTerms.{Pushes}
use Rattle.turn_laws.proofs.PendingTerms.{upd_other}
use Rattle.turn_laws.proofs.PushSerials.{Has, Small, counted, small_none}
use Rattle.turn_laws.proofs.SerialsStay.{Reads, takes_on}
use Rattle.sbp_world.proofs.Lists.OrbWaits.{taken_none}
use Rattle.sbp_world.proofs.Lists.MainAnswers.{sends_as}
use Rattle.sbp_world.proofs.Lists.MainLater.{among_not}

-- the packets that were sent before the last ones
abbrev pub before_packets : List Moment → ℕ
before_packets [] = 0
before_packets (asked line event ∷ past) = (terms (asked line event ∷ past)).count
before_packets (said (notes.Sent serial generation from to bytes) ∷ past) = before_packets past
before_packets (said note ∷ past) = (terms (said note ∷ past)).count

-- a request of the target that writes
pub record IsWrite (so : Option Sending) : Type 0 where
  pub packet : Sending
  pub is : so ≡ Some packet
  pub from : packet.from ≡ 0
  pub label : ℕ
  pub kind : Kind
  pub part : part_of packet.bytes ≡ request label kind
  pub writes : is_write_access (access_in_bytes packet.bytes) ≡ true

-- whose it is
pub data IsOwned (t : Target) (s : ℕ) : Type 0 where
  of_main : (p : ℕ) → (agent_in t.agents p).main ≡ Some s → (agent_in t.agents p).asks ≡ Nothing → IsOwned t s
  of_manager : t.manages ≡ Some s → t.manager_asks ≡ Nothing → IsOwned t s

abbrev pub Owner : List Disk → List Moment → ℕ → Type 0
Owner start ms s = Has (Pushes start ms) s ⊎ IsOwned (target_at start ms) s

-- ---- whose it stays
wants_nothing : (ask : Ask) (w : Bool) → ask ≡ Nothing → wants ask w ≡ false
wants_nothing ask w e = ap (λ a. wants a w) e

-- an agent's main transaction has the serial, and it asks for nothing else
abbrev HasMain : ℕ → Agent → Type 0
HasMain s a = (a.main ≡ Some s) × (a.asks ≡ Nothing)

sends_main : (w : Bool) (serial s : ℕ) (a : Agent) → HasMain s a → HasMain s (sends_of w serial a)
sends_main w serial s a m = by (wants a.asks w) (wants_nothing a.asks w m.1) (wants a.asks_ahead w)
  where
    by : (x : Bool) → x ≡ false → (y : Bool) → HasMain s (cond x (record a { main = Some serial; asks = Nothing }) (cond y (record a { ahead = Some serial; asks_ahead = Nothing }) a))
    by true g y = untrue (sym g)
    by false g true = (m.0, m.1)
    by false g false = m

set_main : (agents : List Agent) (k p s : ℕ) (x : Agent) → (HasMain s (agent_in agents k) → HasMain s x) → HasMain s (agent_in agents p) → HasMain s (agent_in (slice_set agents k x) p)
set_main [] k p s x h m = m
set_main (a ∷ agents) zero zero s x h m = h m
set_main (a ∷ agents) zero (suc p) s x h m = m
set_main (a ∷ agents) (suc k) zero s x h m = m
set_main (a ∷ agents) (suc k) (suc p) s x h m = set_main agents k p s x h m

stays_for : (place : Option ℕ) (w : Bool) (serial s : ℕ) (t : Target) → IsOwned t s → IsOwned (sent_for place w serial t) s
stays_for (Some k) w serial s t (of_main p e f) = let m = set_main t.agents k p s (sends_of w serial (agent_at t k)) (sends_main w serial s (agent_at t k)) (e, f) in of_main p m.0 m.1
stays_for (Some k) w serial s t (of_manager e f) = of_manager e f
stays_for None w serial s t (of_main p e f) = by (wants t.manager_asks w)
  where
    by : (b : Bool) → IsOwned (cond b (record t { manages = Some serial; manager_asks = Nothing }) (record t { pushes = serial ∷ t.pushes })) s
    by true = of_main p e f
    by false = of_main p e f
stays_for None w serial s t (of_manager e f) = by (wants t.manager_asks w) (wants_nothing t.manager_asks w f)
  where
    by : (b : Bool) → b ≡ false → IsOwned (cond b (record t { manages = Some serial; manager_asks = Nothing }) (record t { pushes = serial ∷ t.pushes })) s
    by true g = untrue (sym g)
    by false g = of_manager e f

stays_as : (part : Part) (w : Bool) (serial s : ℕ) (t : Target) → IsOwned t s → IsOwned (sent_as part w serial t) s
stays_as (request label kind) w serial s t o = stays_for (position (wants_it w) t.agents) w serial s t o
stays_as (response label kind) w serial s t o = o
stays_as no_packet w serial s t o = o

pushed_for : (place : Option ℕ) (w : Bool) (serial s : ℕ) (t : Target) → Has t.pushes s → Has (sent_for place w serial t).pushes s
pushed_for (Some k) w serial s t h = h
pushed_for None w serial s t h = by (wants t.manager_asks w)
  where
    by : (b : Bool) → Has (cond b (record t { manages = Some serial; manager_asks = Nothing }) (record t { pushes = serial ∷ t.pushes })).pushes s
    by true = h
    by false = inr h

pushed_as : (part : Part) (w : Bool) (serial s : ℕ) (t : Target) → Has t.pushes s → Has (sent_as part w serial t).pushes s
pushed_as (request label kind) w serial s t h = pushed_for (position (wants_it w) t.agents) w serial s t h
pushed_as (response label kind) w serial s t h = h
pushed_as no_packet w serial s t h = h

-- ---- a new one
record IsAt (agents : List Agent) (k : ℕ) : Type 0 where
  inside : k < length agents
  wanted : wants_it true (agent_in agents k) ≡ true

is_at : (agents : List Agent) (k : ℕ) → position (wants_it true) agents ≡ Some k → IsAt agents k
is_at agents k e = let p = position-Some (wants_it true) agents k new_agent e in record { inside = p.0; wanted = p.1 }

main_wanted : (a : Agent) → wants_it true a ≡ true → Reads a.asks_ahead → wants a.asks true ≡ true
main_wanted a e r = by (wants a.asks true) (ap (λ b. wants a.asks true || b) (sym r) ∙ e)
  where
    by : (b : Bool) → (b || false) ≡ true → b ≡ true
    by true f = refl
    by false f = f

new_for : (place : Option ℕ) (serial : ℕ) (t : Target) → position (wants_it true) t.agents ≡ place → ((p : ℕ) → Reads (agent_in t.agents p).asks_ahead) → Has (sent_for place true serial t).pushes serial ⊎ IsOwned (sent_for place true serial t) serial
new_for (Some k) serial t e reads =
    let at = is_at t.agents k e in
    let a = agent_at t k in
    let main = main_wanted a at.wanted (reads k) in
    let new : Agent = record a { main = Some serial; asks = Nothing } in
    let is : sends_of true serial a ≡ new = ap (λ b. cond b new (cond (wants a.asks_ahead true) (record a { ahead = Some serial; asks_ahead = Nothing }) a)) main in
    let there : agent_in (slice_set t.agents k (sends_of true serial a)) k ≡ new = get_or-set_same t.agents k (sends_of true serial a) new_agent at.inside ∙ is in
    inr (of_main k (ap (λ (x : Agent). x.main) there) (ap (λ (x : Agent). x.asks) there))
new_for None serial t e reads = by (wants t.manager_asks true)
  where
    by : (b : Bool) → (let u = cond b (record t { manages = Some serial; manager_asks = Nothing }) (record t { pushes = serial ∷ t.pushes }) in Has u.pushes serial ⊎ IsOwned u serial)
    by true = inr (of_manager refl refl)
    by false = inl (inl refl)

-- ---- a packet that is sent
-- whatever a history of packets leads to
abbrev pub IsPacket : List Moment → Type 0
IsPacket (said (notes.Sent serial generation from to bytes) ∷ past) = Unit {0}
IsPacket ms = ⊥

module _ (start : List Disk) (serial generation from to : ℕ) (bytes : List ℕ) (past : List Moment) where
  abbrev T : Target
  T = target_at start past

  abbrev settled : Target
  settled = taken_on None T.reply T

  abbrev now : List Moment
  now = said (notes.Sent serial generation from to bytes) ∷ past

  abbrev w : Bool
  w = is_write_access (access_in_bytes bytes)

  abbrev Sent : Bool → Target
  Sent b = cond b (sent_as (part_of bytes) w serial settled) settled

  reply_by : (b : Bool) → (Sent b).reply ≡ None
  reply_by true = sends_as (part_of bytes) w serial settled ∙ taken_none T.reply T refl
  reply_by false = taken_none T.reply T refl

  pub no_reply : (target_at start now).reply ≡ None
  no_reply = reply_by (from == 0)

  -- what it was for stays
  owned_by : (b : Bool) (s : ℕ) → Has settled.pushes s ⊎ IsOwned settled s → Has (Sent b).pushes s ⊎ IsOwned (Sent b) s
  owned_by true s (inl h) = inl (pushed_as (part_of bytes) w serial s settled h)
  owned_by true s (inr o) = inr (stays_as (part_of bytes) w serial s settled o)
  owned_by false s o = o

  owned_still : T.reply ≡ None → (s : ℕ) → Owner start past s → Owner start now s
  owned_still none s o = owned_by (from == 0) s (subst (λ (x : Target). Has x.pushes s ⊎ IsOwned x s) (sym (ap (λ r. taken_on None r T) none)) o)

  -- and what the new one is for
  reads_settled : SerialsCount past → (p : ℕ) → Reads (agent_in settled.agents p).asks_ahead
  reads_settled c p =
      let n = (terms past).count in ((takes_on (Small n) (small_none n) None T.reply T).agents (counted start past c).agents p).2

  owned_new : SerialsCount past → IsWrite ((terms now).sent serial) → Owner start now serial
  owned_new c x =
      let there : Some (sending_of x) ≡ Some x.packet = sym (sent_there past serial generation from to bytes) ∙ x.is in
      let same : sending_of x ≡ x.packet = cc in
      let bytes_are : bytes ≡ x.packet.bytes = ap (λ (q : Sending). q.bytes) same in
      let from_is : from ≡ 0 = ap (λ (q : Sending). q.from) same ∙ x.from in
      let zero_is : (from == 0) ≡ true = grind (arith, nat_tests) in
      let part : part_of bytes ≡ request x.label x.kind = ap part_of bytes_are ∙ x.part in
      let writes : w ≡ true = ap (λ bs. is_write_access (access_in_bytes bs)) bytes_are ∙ x.writes in
      let is : sent_for (position (wants_it true) settled.agents) true serial settled ≡ Sent (from == 0) =
      ap (λ b. sent_for (position (wants_it b) settled.agents) b serial settled) (sym writes)
      ∙ (ap (λ part. sent_as part w serial settled) (sym part) ∙ ap (λ b. Sent b) (sym zero_is)) in
      subst (λ (y : Target). Has y.pushes serial ⊎ IsOwned y serial) is (new_for (position (wants_it true) settled.agents) serial settled refl (reads_settled c))
    where
      sending_of : IsWrite ((terms now).sent serial) → Sending
      sending_of x = record { generation = generation; from = from; to = to; bytes = bytes; injected = (terms past).injected serial }

reply_none : (start : List Disk) (ms : List Moment) → IsPacket ms → (target_at start ms).reply ≡ None
reply_none start [] h = absurd h
reply_none start (asked line event ∷ past) h = absurd h
reply_none start (said (notes.Sent serial generation from to bytes) ∷ past) h = no_reply start serial generation from to bytes past
reply_none start (said note ∷ past) h = absurd h

-- a history whose latest moment is no packet
last_packet : (ms : List Moment) → IsPacket ms ⊎ (before_packets ms ≡ (terms ms).count)
last_packet [] = inr refl
last_packet (asked line event ∷ past) = inr refl
last_packet (said (notes.Sent serial generation from to bytes) ∷ past) = inl tt
last_packet (said note ∷ past) = inr refl

-- ---- a history
module _ (start : List Disk) where
  pub owned : (ms : List Moment) → SerialsCount ms → (s : ℕ) → before_packets ms < s → s ≤ (terms ms).count → IsWrite ((terms ms).sent s) → Owner start ms s
  owned [] c s l m x = absurd (omega (arith, l, m))
  owned (asked line event ∷ past) c s l m x = absurd (omega (arith, l, m))
  owned (said (notes.Sent serial generation from to bytes) ∷ past) c s l m x = by (λ below y. owned past c.1 s l below y) (nat_eq serial s) refl
    where
      now : List Moment
      now = said (notes.Sent serial generation from to bytes) ∷ past

      older : (s ≤ (terms past).count → IsWrite ((terms past).sent s) → Owner start past s) → nat_eq serial s ≡ false → IsPacket past ⊎ (before_packets past ≡ (terms past).count) → Owner start now s
      older before e (inl p) =
          let count : (terms now).count ≡ (terms past).count + 1 = count_now past serial generation from to bytes in
          let next = c.0 in
          let small : s ≤ (terms past).count = (let other : serial ≢ s = λ f. untrue (sym e ∙ (let z : nat_eq serial s ≡ true = grind (arith, nat_tests) in z)) in omega (arith, count, next, m, other)) in
          let same : (terms now).sent s ≡ (terms past).sent s = ap (λ f. f s) (sent_now past serial generation from to bytes) ∙ upd_other (terms past).sent serial s (Some _) e in
          owned_still start serial generation from to bytes past (reply_none start past p) s (before small (subst IsWrite same x))
      older before e (inr f) =
          let count : (terms now).count ≡ (terms past).count + 1 = count_now past serial generation from to bytes in
          let next = c.0 in
          let below : before_packets past < s = l in
          let same : serial ≡ s = omega (arith, count, next, below, m, f) in
          untrue (sym e ∙ (let z : nat_eq serial s ≡ true = grind (arith, nat_tests) in z))

      by : (s ≤ (terms past).count → IsWrite ((terms past).sent s) → Owner start past s) → (b : Bool) → nat_eq serial s ≡ b → Owner start now s
      by before true e =
          let same : serial ≡ s = grind (arith, nat_tests) in
          subst (Owner start now) same (owned_new start serial generation from to bytes past c.1 (subst (λ n. IsWrite ((terms now).sent n)) (sym same) x))
      by before false e = older before e (last_packet past)
  owned (said note ∷ past) c s l m x = absurd (omega (arith, l, m))

-- ---- as the turn is over
manager_not : for_manager ≡ for_nobody → ⊥
manager_not e = cc

owned_not : (t : Target) (s : ℕ) → t.reply ≡ None → IsOwned t s → purpose_of (over t) s ≡ for_nobody → ⊥
owned_not t s none (of_main p e f) g = by (is_serial (over t).manages s) g
  where
    same : (taken_on None t.reply t).agents ≡ t.agents
    same = ap (λ r. (taken_on None r t).agents) none

    there : (agent_in (over t).agents p).main ≡ Some s
    there = ap (λ (xs : List Agent). (agent_in (map agent_over xs) p).main) same ∙ (all_over t.agents p ∙ e)

    by : (b : Bool) → cond b for_manager (purpose_among 0 (over t).agents s) ≡ for_nobody → ⊥
    by true h = manager_not h
    by false h = among_not 0 (over t).agents p s there h
owned_not t s none (of_manager e f) g =
    let same : (over t).manages ≡ Some s = ap (λ r. (taken_on None r t).manages) none ∙ e in
    let is : is_serial (over t).manages s ≡ true = ap (λ o. is_serial o s) same ∙ (let z : nat_eq s s ≡ true = grind (arith, nat_tests) in z) in
    manager_not (sym (ap (λ b. cond b for_manager (purpose_among 0 (over t).agents s)) is) ∙ g)

-- a write of these is an unsolicited status, or somebody's, and no reply waits
pub pushed_or_owned : (start : List Disk) (ms : List Moment) → SerialsCount ms → (s : ℕ) → before_packets ms < s → s ≤ (terms ms).count → IsWrite ((terms ms).sent s)
    → Has (Pushes start ms) s ⊎ (((target_at start ms).reply ≡ None) × IsOwned (target_at start ms) s)
pushed_or_owned start ms c s l m x = by (last_packet ms) (owned start ms c s l m x)
  where
    by : IsPacket ms ⊎ (before_packets ms ≡ (terms ms).count) → Owner start ms s → Has (Pushes start ms) s ⊎ (((target_at start ms).reply ≡ None) × IsOwned (target_at start ms) s)
    by p (inl h) = inl h
    by (inl p) (inr o) = inr (reply_none start ms p, o)
    by (inr f) (inr o) = absurd (omega (arith, l, m, f))

-- a write of these that is nobody's is an unsolicited status
pub nobodys_pushed : (start : List Disk) (ms : List Moment) → SerialsCount ms → (s : ℕ) → before_packets ms < s → s ≤ (terms ms).count → IsWrite ((terms ms).sent s) → purpose_of (over (target_at start ms)) s ≡ for_nobody → Has (Pushes start ms) s
nobodys_pushed start ms c s l m x e = by (pushed_or_owned start ms c s l m x)
  where
    by : Has (Pushes start ms) s ⊎ (((target_at start ms).reply ≡ None) × IsOwned (target_at start ms) s) → Has (Pushes start ms) s
    by (inl h) = h
    by (inr o) = absurd (owned_not (target_at start ms) s o.0 o.1 e)

-- ---- the kind of a request that writes
part_writes : (p : Packet) (label : ℕ) → part_in p ≡ request label writing → is_write_access (access_in (Some p)) ≡ true
part_writes (write_quadlet header offset value) label e = refl
part_writes (write_block header offset payload) label e = refl
part_writes (write_response header rcode) label e = cc
part_writes (read_quadlet header offset) label e = cc
part_writes (read_block header offset size) label e = cc
part_writes (read_quadlet_response header rcode value) label e = cc
part_writes (read_block_response header rcode payload) label e = cc
part_writes (lock header offset extended payload) label e = cc
part_writes (lock_response header rcode extended payload) label e = cc

pub access_writes : (bytes : List ℕ) (label : ℕ) → part_of bytes ≡ request label writing → is_write_access (access_in_bytes bytes) ≡ true
unfolding part_of
access_writes bytes label e = by (reading bytes) e
  where
    by : (r : Result Packet PacketFault) → part_by r ≡ request label writing → is_write_access (access_in (spelled_by r)) ≡ true
    by (Ok p) f = part_writes p label f
    by (Err fault) f = cc

-- ---- what a call of the target hands out: its packets stand behind what it tells
pub below_count : (ms : List Moment) → before_packets ms ≤ (terms ms).count
below_count [] = omega arith
below_count (asked line event ∷ past) = omega arith
below_count (said (notes.Sent serial generation from to bytes) ∷ past) = let b = below_count past in let c = count_now past serial generation from to bytes in omega (arith, b, c)
below_count (said note ∷ past) = omega arith

told_one : (side : Side) (w : WorldState) (old : List Note) (past : List Moment) → IsOther side → (terms (map said (onto (note_of side w) old) ++ past)).count ≡ (terms (map said old ++ past)).count
told_one (sides.Own note) w old past o = absurd o
told_one (sides.Opened place orb) w old past o = refl
told_one (sides.Ran place orb cdb payload outcome) w old past o = refl
told_one (sides.Ended place orb status) w old past o = refl
told_one (sides.Dead place cause) w old past o = refl
told_one (sides.Cut place cause) w old past o = refl
told_one (sides.Managed node function subject status login) w old past o = refl
told_one (sides.ManageFailed node cause) w old past o = refl
told_one (sides.Held login) w old past o = refl
told_one (sides.Expired login) w old past o = refl
told_one (sides.Back login) w old past o = refl
told_one (sides.Left login) w old past o = refl
told_one (sides.Cleared unit) w old past o = refl
told_one (sides.Unsolicited place) w old past o = refl
told_one (sides.Unsent place) w old past o = refl

told_count : (weight : ℕ) (later : List Side) (w : WorldState) (old : List Note) (past : List Moment) → AreOthers later → (terms (map said (onto (notes_told weight later w) old) ++ past)).count ≡ (terms (map said old ++ past)).count
told_count weight [] w old past o = refl
told_count weight (side ∷ later) w old past o =
    let v = told weight side w in
    ap (λ ns. (terms (map said ns ++ past)).count) (onto_both (note_of side w) (notes_told weight later v) old)
    ∙ (told_count weight later v (onto (note_of side w) old) past o.1 ∙ told_one side w old past o.0)

packet_before : (to : Option ℕ) (from : ℕ) (packet : Outgoing) (w : WorldState) (old : List Note) (past : List Moment) → before_packets (map said (onto (packet_note to from packet w) old) ++ past) ≡ before_packets (map said old ++ past)
packet_before None from packet w old past = refl
packet_before (Some to) from packet w old past = refl

sent_before : (from : ℕ) (packets : List Outgoing) (w : WorldState) (old : List Note) (past : List Moment) → before_packets (map said (onto (notes_sent from packets w) old) ++ past) ≡ before_packets (map said old ++ past)
sent_before from [] w old past = refl
sent_before from (packet ∷ later) w old past =
    let v = sent from packet w in
    let to = node_of w.generations from packet.to in
    ap (λ ns. before_packets (map said ns ++ past)) (onto_both (packet_note to from packet w) (notes_sent from later v) old)
    ∙ (sent_before from later v (onto (packet_note to from packet w) old) past ∙ packet_before to from packet w old past)

pub turn_before : (past : List Moment) (from weight : ℕ) (outbox : OutboxState) (v : WorldState) (old : List Note) → v.fresh ≡ old → AreOthers outbox.sides → (s : ℕ) → (terms (map said old ++ past)).count < s → before_packets (hist past (handed_out from weight outbox v)) < s
turn_before past from weight outbox v old fresh_is o s l =
    let u = told_all weight outbox.sides v in
    let front = onto (notes_told weight outbox.sides v) old in
    let all : (handed_out from weight outbox v).fresh ≡ onto (notes_sent from outbox.packets u) front =
    handed_fresh from weight outbox v ∙ (ap (onto (handed from weight outbox v)) fresh_is ∙ onto_both (notes_told weight outbox.sides v) (notes_sent from outbox.packets u) old) in
    let same : before_packets (hist past (handed_out from weight outbox v)) ≡ before_packets (map said front ++ past) = ap (λ ns. before_packets (map said ns ++ past)) all ∙ sent_before from outbox.packets u front past in
    let low = below_count (map said front ++ past) in
    let count = told_count weight outbox.sides v old past o in
    omega (arith, same, low, count, l)
