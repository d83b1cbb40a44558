-- What is in hand of an initiator's management stays over moments in which the initiator sends nothing for an action, and sees no other generation: so does the ORB in each of its places, and which write of
-- ORB_POINTER its host names.
use Rattle.sbp_world.proofs.Words.Std.{arith, ◌≡◌, ◌∙◌, refl, sym, ap, subst, ◌<◌, ◌≤◌, ◌%◌, ◌&&◌, not, nat_eq, nat_le, nat_tests, ℕ, zero, suc, Bool, true, false, cond, List, [], ◌∷◌, ◌++◌, Option, Some, None, none-some}
use Rattle.sbp_world.proofs.Words.Wire.{Event, HostOperation, Moment, OpWord, Part, SerialsCount, Terms, asked, part_of, said, request, response, terms}
use Rattle.sbp_world.proofs.Words.Target.{Disk, Function, Operation, function_of}
use Rattle.sbp_world.proofs.Words.Initiator.{Answer, Done, Expired, ManagementOrb, NoLabel, Payload, Refused, management_orb, start_of}
use Rattle.sbp_world.proofs.Words.Laws.{Host, Underway, acted, answer_in, answered_at, goes_on, list_begins, op_ended, packet_at, place_bytes, pointer_answered, sender_in, sent_in, event_of, host_at, is_management, is_own, operation_of, management_orb_of, known_host, place_held, place_written, present_list, receiver_in, target_at}
use Rattle.sbp_world.proofs.Words.World.{IsAsking, IsBusy, IsFree, orb_in_place}
use Rattle.bus_memory.specs.declared.window.Window.TheVariants as windows
use Rattle.mgmt_agent.specs.declared.operation.Phase.TheVariants as phases
use Rattle.sbp_journal.specs.declared.event.Event.TheVariants as events
use Rattle.sbp_journal.specs.declared.note.Note.TheVariants as notes
use Rattle.sbp_journal.specs.Transactions.{no_packet}
use Rattle.sbp_journal.specs.declared.operation.Operation.TheVariants as operations
use Rattle.sbp_laws.specs.Hosts.{got_by, is_serial, op_left, reset_seen, sent_as}
use Rattle.sbp_journal.specs.declared.operation.OpWord.TheVariants as words
use Rattle.sbp_world.proofs.Hosts.Carries.{IsNoAct}
use Rattle.sbp_world.proofs.Hosts.Remaining.{remains}
use Rattle.sbp_world.proofs.Hosts.SentMoments.{serials_from}
use Rattle.sbp_world.proofs.Lists.ContentManages.{so_before}
use Rattle.sbp_world.proofs.Lists.ManageGot.{got_busy, got_free}
use Rattle.sbp_world.proofs.Lists.ManageHand.{other_asks_none}
use Rattle.sbp_world.proofs.Lists.ManageMoments.{Hands, IsActing, MayHand, line_calm, quiet_calm}
use Rattle.sbp_world.proofs.Lists.ManageSent.{sent_busy, sent_free}
use Rattle.sbp_world.proofs.Lists.ManageSights.{again_calm, sight_calm}
use Rattle.sbp_world.proofs.Lists.ManageStays.{Calms, calm_busy, calm_free}
use Rattle.sbp_world.proofs.Completing.LatestHosts.{other_same}
use Rattle.sbp_world.proofs.Common.{and_first, cond_off, equal_numbers, itself, turned, untrue}

-- ---- such a moment
abbrev pub IsInert : ℕ → Moment → List Moment → Type 0
IsInert i (said (notes.Begin initiators ready)) past = ⊥
IsInert i (said (notes.Sent serial generation from to bytes)) past = from ≡ suc i → IsNoAct i (event_of past)
IsInert i (said (notes.Seen node generation)) past = node ≡ suc i → generation ≡ (terms past).generation (suc i)
IsInert i moment past = Unit {0}

-- a history stands on another by such moments
pub data Inertly (i : ℕ) (before : List Moment) : List Moment → Type 0 where
  here : Inertly i before before
  goes : (m : Moment) (past : List Moment) → Inertly i before past → IsInert i m past → Inertly i before (m ∷ past)

-- ---- what is in hand
pub record Stays (start : List Disk) (past now : List Moment) (i : ℕ) : Type 0 where
  pub free : IsFree start past i → IsFree start now i
  pub busy : (place write : ℕ) → IsBusy start past i place write → IsBusy start now i place write

calm_stays : {start : List Disk} {past now : List Moment} {i : ℕ} → Calms start past now i → Stays start past now i
calm_stays c = record { free = calm_free c; busy = calm_busy c }

-- in a line that is no action of the initiator nothing asks
no_action : {i : ℕ} {past : List Moment} {place : ℕ} → IsNoAct i (event_of past) → IsActing past i place → ⊥
no_action {i} n a = untrue (sym (subst (IsNoAct i) a.line n) ∙ itself i)

moment_stays : (start : List Disk) (i : ℕ) (m : Moment) (past : List Moment) → IsInert i m past → MayHand start i m past → Stays start past (m ∷ past) i
moment_stays start i (asked line event) past q f = calm_stays (line_calm start line event past i f)
moment_stays start i (said (notes.Begin initiators ready)) past q f = absurd q
moment_stays start i (said (notes.Sent serial generation from to bytes)) past q f = by (nat_eq from (suc i)) refl
  where
    quiet : (b : Bool) → nat_eq from (suc i) ≡ b → (place : ℕ) → IsAsking (said (notes.Sent serial generation from to bytes) ∷ past) i serial place → ⊥
    quiet true e place = λ a. no_action (q (grind (arith, nat_tests, e))) (f.acts place a)
    quiet false e place = other_asks_none serial generation from to bytes start past i e f place

    by : (b : Bool) → nat_eq from (suc i) ≡ b → Stays start past (said (notes.Sent serial generation from to bytes) ∷ past) i
    by b e = record { free = sent_free start past i serial generation from to bytes f.facts (quiet b e); busy = sent_busy start past i serial generation from to bytes f.facts (quiet b e) }
moment_stays start i (said (notes.Got serial)) past q f = record { free = got_free start past i serial f.packet f.facts; busy = got_busy start past i serial f.packet f.facts }
moment_stays start i (said (notes.Seen node generation)) past q f = by (nat_eq node (suc i)) refl
  where
    by : (b : Bool) → nat_eq node (suc i) ≡ b → Stays start past (said (notes.Seen node generation) ∷ past) i
    by false e = calm_stays (sight_calm start node generation past i e f.none)
    by true e =
        let is : node ≡ suc i = grind (arith, nat_tests, e) in
        let same : generation ≡ (terms past).generation (suc i) = q is in
        subst (λ n. Stays start past (said (notes.Seen n generation) ∷ past) i) (sym is)
        (calm_stays (again_calm start generation past i (let z : nat_eq generation ((terms past).generation (suc i)) ≡ true = grind (arith, nat_tests, same) in z) f.none))
moment_stays start i (said note) past q f = calm_stays (quiet_calm start i note past refl f)

pub all_stay : (start : List Disk) (i : ℕ) (before now : List Moment) → Inertly i before now → Hands start i now → Stays start before now i
all_stay start i before now here f = record { free = λ k. k; busy = λ place write k. k }
all_stay start i before now (goes m past r q) f =
    let one = moment_stays start i m past q f.0 in
    let more = all_stay start i before past r f.1 in
    record { free = λ k. one.free (more.free k); busy = λ place write k. one.busy place write (more.busy place write k) }

-- ---- the ORBs in the places
not_own : (i j : ℕ) (operation : Option HostOperation) (other : Bool) → nat_eq i j ≡ false → (is_own i j operation && other) ≡ false
not_own i j None other e = refl
not_own i j (Some operation) other e = ap (λ b. (b && is_management operation) && other) e

not_written : (event : Option Event) (past : List Moment) (i place : ℕ) (held : Option ManagementOrb) → IsNoAct i event → place_written event past i place held ≡ held
not_written None past i place held n = refl
not_written (Some (events.Act j action)) past i place held n =
    cond_off (is_own i j (operation_of action) && nat_eq ((host_at past i).writes % 2) place) (Some (management_orb_of action past i (host_at past i) place)) held (not_own i j (operation_of action) (nat_eq ((host_at past i).writes % 2) place) n)
not_written (Some event) past i place held n = refl

moment_place : (i : ℕ) (m : Moment) (past : List Moment) → IsInert i m past → (place : ℕ) → place_held (m ∷ past) i place ≡ place_held past i place
moment_place i (asked line event) past q place = refl
moment_place i (said (notes.Sent serial generation zero to bytes)) past q place = refl
moment_place i (said (notes.Sent serial generation (suc j) to bytes)) past q place = by (nat_eq j i) refl
  where
    by : (b : Bool) → nat_eq j i ≡ b → cond b (place_written (event_of past) past i place (place_held past i place)) (place_held past i place) ≡ place_held past i place
    by false e = refl
    by true e = not_written (event_of past) past i place (place_held past i place) (q (let z : suc j ≡ suc i = grind (arith, nat_tests, e) in z))
moment_place i (said note) past q place = refl

-- ---- an operation in hand, with a function that is quiet
-- no read of its ORB was sent before its write
pub record Busied (quiet : Option Function → Bool) (start : List Disk) (past : List Moment) (i : ℕ) : Type 0 where
  pub place : ℕ
  pub small : place < 2
  pub write : ℕ
  pub busy : IsBusy start past i place write
  pub sent : write ≤ (terms past).count
  pub keeps : quiet (function_of (orb_in_place past i place).function) ≡ true
  pub since : (later before : List Moment) → later ++ before ≡ past → write ≤ (terms before).count → place_held past i place ≡ place_held before i place
  pub behind : (op : Operation) (read : ℕ) → (target_at start past).manager.operation ≡ Some op → op.phase ≡ phases.Orb → op.orb ≡ start_of (windows.Management place) → (target_at start past).manages ≡ Some read → receiver_in ((terms past).sent read) ≡ Some (suc i) → write ≤ read

abbrev rest_of : List Moment → List Moment
rest_of [] = []
rest_of (m ∷ past) = past

module _ (quiet : Option Function → Bool) (start : List Disk) (i : ℕ) (m : Moment) (past : List Moment) (inert : IsInert i m past) (hand : MayHand start i m past) (counts : SerialsCount (m ∷ past)) (b : Busied quiet start past i) where
  same_place : place_held (m ∷ past) i b.place ≡ place_held past i b.place
  same_place = moment_place i m past inert b.place

  since_now : (later before : List Moment) → later ++ before ≡ m ∷ past → b.write ≤ (terms before).count → place_held (m ∷ past) i b.place ≡ place_held before i b.place
  since_now [] before e l = ap (λ ms. place_held ms i b.place) (sym e)
  since_now (other ∷ later) before e l = same_place ∙ b.since later before (ap rest_of e) l

  behind_now : (op : Operation) (read : ℕ) → (target_at start (m ∷ past)).manager.operation ≡ Some op → op.phase ≡ phases.Orb → op.orb ≡ start_of (windows.Management b.place) → (target_at start (m ∷ past)).manages ≡ Some read → receiver_in ((terms (m ∷ past)).sent read) ≡ Some (suc i) → b.write ≤ read
  behind_now op read is phase orb manages to = by (nat_le read (terms past).count) refl
    where
      by : (old : Bool) → nat_le read (terms past).count ≡ old → b.write ≤ read
      by true e =
          let l : read ≤ (terms past).count = grind (arith, nat_tests, e) in
          let so = so_before start (m ∷ []) past read counts l manages in
          b.behind op read (so.operation ∙ is) phase orb so.manages (ap receiver_in (sym ((remains (m ∷ []) past counts).sent read l)) ∙ to)
      by false e =
          let l = b.sent in
          let more : (terms past).count < read = grind (arith, nat_tests, e) in
          omega (arith, l, more)

  moment_busied : Busied quiet start (m ∷ past) i
  moment_busied = record {
    place = b.place;
    small = b.small;
    write = b.write;
    busy = (moment_stays start i m past inert hand).busy b.place b.write b.busy;
    sent = (let l = b.sent in let more = (remains (m ∷ []) past counts).count in omega (arith, l, more));
    keeps = subst (λ held. quiet (function_of (management_orb (place_bytes held)).function) ≡ true) (sym same_place) b.keeps;
    since = since_now;
    behind = behind_now;
  }

-- the place stays
pub record SameBusied (quiet : Option Function → Bool) (start : List Disk) (before now : List Moment) (i : ℕ) (b : Busied quiet start before i) : Type 0 where
  pub now_busied : Busied quiet start now i
  pub place_is : now_busied.place ≡ b.place
  pub orb_is : orb_in_place now i now_busied.place ≡ orb_in_place before i b.place

pub all_busied : (quiet : Option Function → Bool) (start : List Disk) (i : ℕ) (before now : List Moment) → Inertly i before now → Hands start i now → SerialsCount now → (b : Busied quiet start before i) → SameBusied quiet start before now i b
unfolding moment_busied
all_busied quiet start i before now here f c b = record { now_busied = b; place_is = refl; orb_is = refl }
all_busied quiet start i before now (goes m past r q) f c b =
    let x = all_busied quiet start i before past r f.1 (serials_from (m ∷ []) past c) b in
    record {
      now_busied = moment_busied quiet start i m past q f.0 c x.now_busied;
      place_is = x.place_is;
      orb_is = ap (λ held. management_orb (place_bytes held)) (moment_place i m past q x.now_busied.place) ∙ x.orb_is;
    }

-- ---- the write of ORB_POINTER that the host names
pointer_sent : (event : Option Event) (i : ℕ) (list : Option ℕ) (serial : ℕ) (host : Host) → IsNoAct i event → (sent_in event i list serial host).pointer ≡ host.pointer
pointer_sent event i list serial host n = by event n
  where
    on : (operation : Option Underway) → (goes_on operation serial host).pointer ≡ host.pointer
    on None = refl
    on (Some underway) = refl

    not_if : (b : Bool) (x y : Host) → b ≡ false → y.pointer ≡ host.pointer → (cond b x y).pointer ≡ host.pointer
    not_if true x y e f = untrue (sym e)
    not_if false x y e f = f

    by : (other : Option Event) → IsNoAct i other → (sent_in other i list serial host).pointer ≡ host.pointer
    by None n = on host.operation
    by (Some (events.Act j action)) n = not_if (nat_eq j i) (acted action (operation_of action) list serial host) (goes_on host.operation serial host) (turned i j n) (on host.operation)
    by (Some other) n = on host.operation

part_sent : (part : Part) (event : Option Event) (i : ℕ) (list : Option ℕ) (serial : ℕ) (host : Host) → IsNoAct i event → (sent_as part event i list serial host).pointer ≡ host.pointer
part_sent (request label kind) event i list serial host n = pointer_sent event i list serial host n
part_sent (response label kind) event i list serial host n = refl
part_sent no_packet event i list serial host n = refl

module _ (named : ℕ) where
  abbrev Was : Host → Host → Type 0
  Was now was = now.pointer ≡ Some named → was.pointer ≡ Some named

  pick : (b : Bool) (now was : Host) → Was now was → Was (cond b now was) was
  pick true now was f = f
  pick false now was f = λ e. e

  pick_if : (b : Bool) (now was : Host) → (b ≡ true → Was now was) → Was (cond b now was) was
  pick_if true now was f = f refl
  pick_if false now was f = λ e. e

  answered_was : (answer : Answer) (own : Bool) (host : Host) → Was (pointer_answered answer own host) host
  answered_was Done true host = λ e. e
  answered_was Done false host = λ e. e
  answered_was (Payload bytes) own host = λ e. e
  answered_was (Refused rcode) own host = λ e. e
  answered_was Expired own host = λ e. e
  answered_was NoLabel own host = λ e. e

  got_was : (own : Option ℕ) (wire : Terms) (serial : ℕ) (present : Option ℕ) (host : Host) → Was (got_by own wire serial present host) host
  got_was (Some own) wire serial present host = answered_was (answer_in (packet_at wire serial)) (is_serial host.pointer own) host
  got_was None wire serial present host = λ e. e

  left_was : (operation : HostOperation) (word : OpWord) (host : Host) → Was (op_left operation word host) host
  left_was operations.Rom words.Done host = λ e. e
  left_was operations.Login words.Done host = λ e. e
  left_was operation word host = λ e. e

  ended_was : (operation : HostOperation) (word : OpWord) (host : Host) → Was (op_ended operation word host) host
  ended_was operations.State word host = λ e. e
  ended_was operation word host = left_was operation word host

  list_was : (k : ℕ) (host : Host) → Was (list_begins k host) host
  list_was zero host = λ e. absurd (none-some named e)
  list_was (suc k) host = λ e. e

  reset_was : (b : Bool) (host : Host) → Was (reset_seen b host) host
  reset_was true host = λ e. e
  reset_was false host = λ e. e

  moment_pointer : (i : ℕ) (m : Moment) (past : List Moment) → IsInert i m past → Was (host_at (m ∷ past) i) (host_at past i)
  moment_pointer i (asked line event) past q = λ e. e
  moment_pointer i (said (notes.Begin initiators ready)) past q = absurd q
  moment_pointer i (said (notes.Sent serial generation from to bytes)) past q = pick_if (nat_eq from (suc i) && not ((known_host past i).wire.injected serial)) (sent_as (part_of bytes) (event_of past) i (present_list past i) serial (host_at past i)) (host_at past i)
      (λ t e. sym (part_sent (part_of bytes) (event_of past) i (present_list past i) serial (host_at past i) (q (by (nat_eq from (suc i)) refl t))) ∙ e)
    where
      by : (b : Bool) → nat_eq from (suc i) ≡ b → (b && not ((known_host past i).wire.injected serial)) ≡ true → from ≡ suc i
      by true e t = grind (arith, nat_tests, e)
      by false e t = untrue t
  moment_pointer i (said (notes.Got serial)) past q =
      let t = (known_host past i).wire in
      pick (is_serial (receiver_in (t.sent serial)) (suc i)) (got_by (answered_at t serial) t serial (present_list past i) (host_at past i)) (host_at past i) (got_was (answered_at t serial) t serial (present_list past i) (host_at past i))
  moment_pointer i (said (notes.TimedOut serial)) past q = pick (is_serial (sender_in ((known_host past i).wire.sent serial)) (suc i)) _ (host_at past i) (λ e. e)
  moment_pointer i (said (notes.Op j operation word)) past q = pick (nat_eq j i) (op_ended operation word (host_at past i)) (host_at past i) (ended_was operation word (host_at past i))
  moment_pointer i (said (notes.Stuck j)) past q = pick (nat_eq j i) _ (host_at past i) (λ e. e)
  moment_pointer i (said (notes.Append j n k cdb buffer)) past q = pick (nat_eq j i) (list_begins k (host_at past i)) (host_at past i) (list_was k (host_at past i))
  moment_pointer i (said (notes.Drop j n)) past q = pick (nat_eq j i) (list_begins zero (host_at past i)) (host_at past i) (list_was zero (host_at past i))
  moment_pointer i (said (notes.Taken j n k status answer)) past q = pick (nat_eq j i) _ (host_at past i) (λ e. e)
  moment_pointer i (said (notes.Seen node generation)) past q =
      pick (nat_eq node (suc i)) (reset_seen (not (nat_eq generation ((known_host past i).wire.generation node))) (host_at past i)) (host_at past i) (reset_was (not (nat_eq generation ((known_host past i).wire.generation node))) (host_at past i))
  moment_pointer i (said note) past q = λ e. e

  pub all_pointers : (i : ℕ) (before now : List Moment) → Inertly i before now → Was (host_at now i) (host_at before i)
  all_pointers i before now here e = e
  all_pointers i before now (goes m past r q) e = all_pointers i before past r (moment_pointer i m past q e)

-- ---- how many logins the host has asked for
goes_logins : (operation : Option Underway) (serial : ℕ) (host : Host) → (goes_on operation serial host).logins ≡ host.logins
goes_logins None serial host = refl
goes_logins (Some underway) serial host = refl

logins_if : (b : Bool) (x y host : Host) → (b ≡ true → x.logins ≡ host.logins) → y.logins ≡ host.logins → (cond b x y).logins ≡ host.logins
logins_if true x y host f e = f refl
logins_if false x y host f e = e

logins_sent : (event : Option Event) (i : ℕ) (list : Option ℕ) (serial : ℕ) (host : Host) → IsNoAct i event → (sent_in event i list serial host).logins ≡ host.logins
logins_sent None i list serial host n = goes_logins host.operation serial host
logins_sent (Some (events.Act j action)) i list serial host n = logins_if (nat_eq j i) (acted action (operation_of action) list serial host) (goes_on host.operation serial host) host (λ e. untrue (sym (turned i j n) ∙ e)) (goes_logins host.operation serial host)
logins_sent (Some event) i list serial host n = goes_logins host.operation serial host

part_logins : (part : Part) (event : Option Event) (i : ℕ) (list : Option ℕ) (serial : ℕ) (host : Host) → IsNoAct i event → (sent_as part event i list serial host).logins ≡ host.logins
part_logins (request label kind) event i list serial host n = logins_sent event i list serial host n
part_logins (response label kind) event i list serial host n = refl
part_logins no_packet event i list serial host n = refl

moment_logins : (i : ℕ) (m : Moment) (past : List Moment) → IsInert i m past → (host_at (m ∷ past) i).logins ≡ (host_at past i).logins
moment_logins i (asked line event) past q = refl
moment_logins i (said (notes.Begin initiators ready)) past q = absurd q
moment_logins i (said (notes.Sent serial generation from to bytes)) past q =
    logins_if (nat_eq from (suc i) && not ((known_host past i).wire.injected serial)) (sent_as (part_of bytes) (event_of past) i (present_list past i) serial (host_at past i)) (host_at past i) (host_at past i)
    (λ e. part_logins (part_of bytes) (event_of past) i (present_list past i) serial (host_at past i) (q (equal_numbers from (suc i) (and_first (nat_eq from (suc i)) (not ((known_host past i).wire.injected serial)) e)))) refl
moment_logins i (said note) past q = (other_same note past (known_host past i).wire i (host_at past i) refl).logins

pub all_logins : (i : ℕ) (before now : List Moment) → Inertly i before now → (host_at now i).logins ≡ (host_at before i).logins
all_logins i before now here = refl
all_logins i before now (goes m past r q) = moment_logins i m past q ∙ all_logins i before past r
