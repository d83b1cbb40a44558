-- What is in hand of an initiator's management over the notes of a turn of the target: the write of the operation under way goes on, and what is at rest stays so,
-- unless the turn begins with the packet by which the target starts an operation; and a status block that waits was there before, or is what the target writes now.
use Rattle.sbp_world.proofs.Words.Std.{arith, ◌≡◌, ◌∙◌, refl, sym, ap, subst, ◌⊎◌, inl, inr, ℕ, zero, suc, ◌<◌, nat_eq, Bool, true, false, cond, List, [], ◌∷◌, ◌++◌, map, Some, None, nat_tests}
use Rattle.sbp_world.proofs.Words.Wire.{Moment, asked, said, Sending, Transaction, begun_by, terms, Event, Note}
use Rattle.sbp_world.proofs.Words.Target.{Operation, Disk}
use Rattle.sbp_world.proofs.Words.Initiator.{start_of}
use Rattle.sbp_world.proofs.Words.Laws.{host_at, id_for, target_at}
use Rattle.sbp_world.proofs.Words.World.{Office, IsAccepted, IsAsking, IsHandling, IsOwnWrite, IsRest, IsTelling, AllOf, outgoing_for}
use Rattle.bus_memory.specs.declared.window.Window.TheVariants as windows
use Rattle.bus_transactions.proofs.Facts.{asked_is, begun_asked}
use Rattle.mgmt_agent.specs.declared.operation.Phase.TheVariants as phases
use Rattle.mgmt_agent.specs.Machine.{Machine}
use Rattle.sbp_journal.specs.declared.note.Note.TheVariants as notes
use Rattle.sbp_world.proofs.Agents.Management.Firsts.{opened_office}
use Rattle.sbp_world.proofs.Hosts.SentMoments.{sent_below}
use Rattle.sbp_world.proofs.Lists.LiveTold.{IsFirst, is_behind, is_own_packet}
use Rattle.sbp_world.proofs.Lists.ManageFirsts.{Goes, goes_then, note_first, other_first, same_goes}
use Rattle.sbp_world.proofs.Lists.ManageGot.{GotFacts, asked_for, calm_by, gets_other, still_accepted}
use Rattle.sbp_world.proofs.Lists.ManageMoments.{Hands, SendFacts, TakeFacts, is_quiet, quiet_calm}
use Rattle.sbp_world.proofs.Lists.ManageOffices.{GotAs, Starts, got_as, got_replies, got_settles, got_starts, sent_office}
use Rattle.sbp_world.proofs.Lists.ManageSends.{sent_terms}
use Rattle.sbp_world.proofs.Lists.ManageSent.{IsNew, SentFacts, sent_accepted, sent_handling, sent_own, sent_rest, sent_telling}
use Rattle.sbp_world.proofs.Lists.ManageSights.{sight_calm}
use Rattle.sbp_world.proofs.Lists.ManageStays.{Calms, calm_rest, replies_handling, rests_handling, rests_own, rests_telling, zero_or}
use Rattle.sbp_world.proofs.Lists.ManageTerms.{got_rests}
use Rattle.sbp_world.proofs.Common.{untrue}

-- ---- one moment after the other

pub calms_self : (start : List Disk) (past : List Moment) (i : ℕ) → Calms start past past i
calms_self start past i = record {
  asking = λ serial place a. a;
  telling = λ serial place a. a;
  handling = λ place op h. record { was = op; before = h; goes = λ o. o };
  accepted = λ write o m a. a;
  own = λ write o. o;
  zero_news = λ write e. e;
}

pub calm_more : {start : List Disk} {past now : List Moment} {i : ℕ} → Calms start past now i → (write : ℕ) → 0 < (terms past).news write → 0 < (terms now).news write
calm_more {start} {past} {now} {i} c write l = zero_or ((terms now).news write) (λ e. (let z = c.zero_news write e in absurd (omega (arith, z, l)))) (λ m. m)

pub calms_then : {start : List Disk} {a b c : List Moment} {i : ℕ} → Calms start a b i → Calms start b c i → Calms start a c i
calms_then f g = record {
  asking = λ serial place x. f.asking serial place (g.asking serial place x);
  telling = λ serial place x. f.telling serial place (g.telling serial place x);
  handling = λ place op h.
      let y = g.handling place op h in
      let x = f.handling place y.was y.before in
      record { was = x.was; before = x.before; goes = λ o. y.goes (x.goes o) };
  accepted = λ write o m x. g.accepted write (f.own write o) (calm_more f write m) (f.accepted write o m x);
  own = λ write o. g.own write (f.own write o);
  zero_news = λ write e. f.zero_news write (g.zero_news write e);
}

-- what goes on
pub record Leads (start : List Disk) (past now : List Moment) (i : ℕ) : Type 0 where
  pub own : (write : ℕ) → IsOwnWrite past i write → IsOwnWrite now i write
  pub more : (write : ℕ) → 0 < (terms past).news write → 0 < (terms now).news write
  pub accepted : (write : ℕ) → IsOwnWrite past i write → 0 < (terms past).news write → IsAccepted start past write → IsAccepted start now write

pub leads_self : (start : List Disk) (past : List Moment) (i : ℕ) → Leads start past past i
leads_self start past i = record { own = λ write o. o; more = λ write l. l; accepted = λ write o m a. a }

pub leads_then : {start : List Disk} {a b c : List Moment} {i : ℕ} → Leads start a b i → Leads start b c i → Leads start a c i
leads_then f g = record {
  own = λ write o. g.own write (f.own write o);
  more = λ write l. g.more write (f.more write l);
  accepted = λ write o m a. g.accepted write (f.own write o) (f.more write m) (f.accepted write o m a);
}

pub calm_leads : {start : List Disk} {past now : List Moment} {i : ℕ} → Calms start past now i → Leads start past now i
calm_leads c = record { own = c.own; more = calm_more c; accepted = c.accepted }

-- ---- a packet that is sent

module _ (start : List Disk) (past : List Moment) (i serial generation from to : ℕ) (bytes : List ℕ) (f : SentFacts start past i serial generation from bytes) where
  abbrev later : List Moment
  later = said (notes.Sent serial generation from to bytes) ∷ past

  abbrev q : Sending
  q = record { generation = generation; from = from; to = to; bytes = bytes; injected = (terms past).injected serial }

  -- the transaction of a write of the initiator is with the target
  ends : (write : ℕ) (o : IsOwnWrite past i write) (v : Transaction) → begun_by o.packet ≡ Some v → (v.requester ≡ suc i) × (v.responder ≡ 0)
  ends write o v e =
      let k = asked_is o.packet v (begun_asked o.packet v e).1 in
      (ap (λ (x : Transaction). x.requester) k.is ∙ o.from_is, ap (λ (x : Transaction). x.responder) k.is ∙ o.to_is)

  pub packet_leads : Leads start past later i
  packet_leads = record {
    own = λ write o. sent_own start past i serial generation from to bytes f write o;
    more = λ write l. subst (λ (n : ℕ). 0 < n) (sym (ap (λ (g : ℕ → ℕ). g write) (sent_terms serial q (terms past)).news)) l;
    accepted = λ write o m a. sent_accepted start past i serial generation from to bytes f write o (ends write o) a;
  }

-- ---- the notes of a turn

behind_quiet : (note : Note) → is_behind note ≡ true → is_quiet note ≡ true
behind_quiet (notes.Begin initiators ready) e = untrue e
behind_quiet (notes.Sent serial generation from to bytes) e = untrue e
behind_quiet (notes.Got serial) e = untrue e
behind_quiet (notes.Seen node generation) e = untrue e
behind_quiet note e = refl

module _ (start : List Disk) (i : ℕ) where
  -- behind the first
  pub told_calm : (ns : List Note) (base : List Moment) → AllOf is_behind ns → Hands start i (map said ns ++ base) → Calms start base (map said ns ++ base) i
  told_calm [] base b h = calms_self start base i
  told_calm (note ∷ ns) base b h = calms_then (told_calm ns base b.1 h.1) (quiet_calm start i note (map said ns ++ base) (behind_quiet note b.0) h.0)

  -- the packets
  pub sends_lead : (ns : List Note) (base : List Moment) → AllOf is_own_packet ns → Hands start i (map said ns ++ base) → Leads start base (map said ns ++ base) i
  sends_lead [] base p h = leads_self start base i
  sends_lead (notes.Sent serial generation zero to bytes ∷ ns) base p h =
      let f : SendFacts start (map said ns ++ base) i serial generation 0 to bytes = h.0 in
      leads_then (sends_lead ns base p.1 h.1) (packet_leads start (map said ns ++ base) i serial generation 0 to bytes f.facts)
  sends_lead (notes.Sent serial generation (suc j) to bytes ∷ ns) base p h = untrue p.0
  sends_lead (note ∷ ns) base p h = untrue p.0

  pub sends_rest : (ns : List Note) (base : List Moment) → AllOf is_own_packet ns → Hands start i (map said ns ++ base) → IsRest start base i → IsRest start (map said ns ++ base) i
  sends_rest [] base p h r = r
  sends_rest (notes.Sent serial generation zero to bytes ∷ ns) base p h r =
      let f : SendFacts start (map said ns ++ base) i serial generation 0 to bytes = h.0 in
      sent_rest start (map said ns ++ base) i serial generation 0 to bytes f.facts (sends_rest ns base p.1 h.1 r)
  sends_rest (notes.Sent serial generation (suc j) to bytes ∷ ns) base p h r = untrue p.0
  sends_rest (note ∷ ns) base p h r = untrue p.0

  pub sends_handling : (ns : List Note) (base : List Moment) → AllOf is_own_packet ns → Hands start i (map said ns ++ base) → (place : ℕ) (op : Operation) → IsHandling start (map said ns ++ base) i place op → IsHandling start base i place op
  sends_handling [] base p h place op a = a
  sends_handling (notes.Sent serial generation zero to bytes ∷ ns) base p h place op a =
      let f : SendFacts start (map said ns ++ base) i serial generation 0 to bytes = h.0 in
      sends_handling ns base p.1 h.1 place op (sent_handling start (map said ns ++ base) i serial generation 0 to bytes f.facts place op a)
  sends_handling (notes.Sent serial generation (suc j) to bytes ∷ ns) base p h place op a = untrue p.0
  sends_handling (note ∷ ns) base p h place op a = untrue p.0

-- the hands of what stood before
pub hands_before : (start : List Disk) (i : ℕ) (ns : List Note) (base : List Moment) → Hands start i (map said ns ++ base) → Hands start i base
hands_before start i [] base h = h
hands_before start i (note ∷ ns) base h = hands_before start i ns base h.1

-- ---- a status block that waits

-- it waited, with the same bytes
pub record OldTelling (start : List Disk) (past now : List Moment) (i serial place : ℕ) : Type 0 where
  pub telling : IsTelling start past i serial place
  pub bytes : outgoing_for start now serial ≡ outgoing_for start past serial

-- or the operation of the target has written it, and has these bytes
pub record NewTelling (start : List Disk) (now : List Moment) (i serial place : ℕ) : Type 0 where
  pub op : Operation
  pub is : (target_at start now).manager.operation ≡ Some op
  pub source : op.source ≡ id_for (terms now) 0 (suc i)
  pub same : (terms now).generation 0 ≡ (terms now).generation (suc i)
  pub status : op.phase ≡ phases.Status
  pub orb : op.orb ≡ start_of (windows.Management place)
  pub bytes : outgoing_for start now serial ≡ (target_at start now).manager.outgoing

module _ (start : List Disk) (past : List Moment) (i number generation to : ℕ) (bytes : List ℕ) (f : SentFacts start past i number generation 0 bytes) where
  abbrev now : List Moment
  now = said (notes.Sent number generation 0 to bytes) ∷ past

  abbrev sending : Sending
  sending = record { generation = generation; from = 0; to = to; bytes = bytes; injected = (terms past).injected number }

  manager_same : (target_at start now).manager ≡ (target_at start past).manager
  manager_same = (sent_office start number generation 0 to bytes past).manager_is

  id_same : id_for (terms now) 0 (suc i) ≡ id_for (terms past) 0 (suc i)
  id_same =
      let s = sent_terms number sending (terms past) in
      ap (λ (x : ℕ → ℕ → ℕ). x ((terms now).generation 0) (suc i)) s.ids ∙ ap (λ (g : ℕ → ℕ). (terms past).ids (g 0) (suc i)) s.generation

  same_now : (terms past).generation 0 ≡ (terms past).generation (suc i) → (terms now).generation 0 ≡ (terms now).generation (suc i)
  same_now e =
      let s = sent_terms number sending (terms past) in
      ap (λ (g : ℕ → ℕ). g 0) s.generation ∙ e ∙ ap (λ (g : ℕ → ℕ). g (suc i)) (sym s.generation)

  other_bytes : (serial : ℕ) → nat_eq serial number ≡ false → outgoing_for start now serial ≡ outgoing_for start past serial
  other_bytes serial e = ap (λ b. cond b (target_at start past).manager.outgoing (outgoing_for start past serial)) e

  own_bytes : (serial : ℕ) → serial ≡ number → outgoing_for start now serial ≡ (target_at start past).manager.outgoing
  own_bytes serial e =
      let x : nat_eq serial number ≡ true = grind (arith, nat_tests) in
      ap (λ b. cond b (target_at start past).manager.outgoing (outgoing_for start past serial)) x

  apart : (serial : ℕ) (p : Sending) → (terms past).sent serial ≡ Some p → nat_eq serial number ≡ false
  apart serial p e = let l = sent_below past serial p f.serials e in let n = f.next in grind (arith, nat_tests)

  -- what was new stays so
  new_on : (serial place : ℕ) → nat_eq serial number ≡ false → NewTelling start past i serial place → NewTelling start now i serial place
  new_on serial place d n = record {
    op = n.op;
    is = ap (λ (m : Machine). m.operation) manager_same ∙ n.is;
    source = n.source ∙ sym id_same;
    same = same_now n.same;
    status = n.status;
    orb = n.orb;
    bytes = other_bytes serial d ∙ n.bytes ∙ sym (ap (λ (m : Machine). m.outgoing) manager_same);
  }

  it_is_new : (serial place : ℕ) → IsNew start past i number generation 0 to bytes f place serial → NewTelling start now i serial place
  it_is_new serial place n = record {
    op = n.op;
    is = ap (λ (m : Machine). m.operation) manager_same ∙ n.handled.is;
    source = n.handled.source ∙ sym id_same;
    same = same_now n.handled.same;
    status = n.status;
    orb = n.handled.orb;
    bytes = own_bytes serial n.is ∙ sym (ap (λ (m : Machine). m.outgoing) manager_same);
  }

  pub packet_telling : (base : List Moment) → ((serial place : ℕ) → IsTelling start past i serial place → OldTelling start base past i serial place ⊎ NewTelling start past i serial place) → (serial place : ℕ) → IsTelling start now i serial place → OldTelling start base now i serial place ⊎ NewTelling start now i serial place
  packet_telling base before serial place a = by (sent_telling start past i number generation 0 to bytes f serial place a)
    where
      on : (t : IsTelling start past i serial place) → OldTelling start base past i serial place ⊎ NewTelling start past i serial place → OldTelling start base now i serial place ⊎ NewTelling start now i serial place
      on t (inl o) = inl (record { telling = o.telling; bytes = other_bytes serial (apart serial t.packet t.sent) ∙ o.bytes })
      on t (inr n) = inr (new_on serial place (apart serial t.packet t.sent) n)

      by : IsTelling start past i serial place ⊎ IsNew start past i number generation 0 to bytes f place serial → OldTelling start base now i serial place ⊎ NewTelling start now i serial place
      by (inl t) = on t (before serial place t)
      by (inr n) = inr (it_is_new serial place n)

module _ (start : List Disk) (i : ℕ) where
  pub sends_telling : (ns : List Note) (base : List Moment) → AllOf is_own_packet ns → Hands start i (map said ns ++ base) → (serial place : ℕ) → IsTelling start (map said ns ++ base) i serial place → OldTelling start base (map said ns ++ base) i serial place ⊎ NewTelling start (map said ns ++ base) i serial place
  sends_telling [] base p h serial place a = inl (record { telling = a; bytes = refl })
  sends_telling (notes.Sent number generation zero to bytes ∷ ns) base p h serial place a =
      let f : SendFacts start (map said ns ++ base) i number generation 0 to bytes = h.0 in
      packet_telling start (map said ns ++ base) i number generation to bytes f.facts base (sends_telling ns base p.1 h.1) serial place a
  sends_telling (notes.Sent number generation (suc j) to bytes ∷ ns) base p h serial place a = untrue p.0
  sends_telling (note ∷ ns) base p h serial place a = untrue p.0

-- no other note changes its bytes
pub told_outgoing : (start : List Disk) (ns : List Note) (base : List Moment) → AllOf is_behind ns → outgoing_for start (map said ns ++ base) ≡ outgoing_for start base
told_outgoing start [] base b = refl
told_outgoing start (notes.Sent serial generation from to bytes ∷ ns) base b = untrue b.0
told_outgoing start (note ∷ ns) base b = told_outgoing start ns base b.1

pub first_outgoing : (start : List Disk) (ns : List Note) (base : List Moment) → IsFirst ns → outgoing_for start (map said ns ++ base) ≡ outgoing_for start base
first_outgoing start [] base b = refl
first_outgoing start (notes.Sent serial generation from to bytes ∷ []) base b = untrue b
first_outgoing start (note ∷ []) base b = refl
first_outgoing start (note ∷ other ∷ ns) base b = absurd b

-- ---- how a turn begins

-- the target starts an operation with a packet that it gets, where it had none
pub record Started (start : List Disk) (past now : List Moment) (i : ℕ) : Type 0 where
  pub base : List Moment
  pub serial : ℕ
  pub q : Sending
  pub facts : GotFacts base i serial q
  pub begun : Starts start base serial q
  pub to : q.to ≡ 0
  pub manager : (target_at start base).manager ≡ (target_at start past).manager
  pub before : Calms start past base i
  pub behind : Calms start (said (notes.Got serial) ∷ base) now i

-- or it does not
pub data Opening (start : List Disk) (past now : List Moment) (i : ℕ) : Type 0 where
  calm : Calms start past now i → Opening start past now i
  starts : Started start past now i → Opening start past now i

pub opening_then : {start : List Disk} {past now later : List Moment} {i : ℕ} → Opening start past now i → Calms start now later i → Opening start past later i
opening_then (calm c) k = calm (calms_then c k)
opening_then (starts s) k = starts (record { base = s.base; serial = s.serial; q = s.q; facts = s.facts; begun = s.begun; to = s.to; manager = s.manager; before = s.before; behind = calms_then s.behind k })

module _ (start : List Disk) (i : ℕ) (past base : List Moment) (before : Calms start past base i) (manager : (target_at start base).manager ≡ (target_at start past).manager) where
  got_opens : (serial : ℕ) → TakeFacts start base i serial → Opening start past (said (notes.Got serial) ∷ base) i
  got_opens serial f = by (nat_eq f.packet.to 0) refl
    where
      now : List Moment
      now = said (notes.Got serial) ∷ base

      of : f.packet.to ≡ 0 → GotAs start base serial f.packet → Opening start past now i
      of to (got_settles k) = calm (calms_then before (calm_by start base i serial f.packet f.facts (rests_handling start base now i serial (got_rests serial base) (λ s. refl) k)))
      of to (got_replies k) = calm (calms_then before (calm_by start base i serial f.packet f.facts (replies_handling start base now i serial (got_rests serial base) (λ s. refl) k)))
      of to (got_starts s) = starts (record { base = base; serial = serial; q = f.packet; facts = f.facts; begun = s; to = to; manager = manager; before = before; behind = calms_self start now i })

      by : (b : Bool) → nat_eq f.packet.to 0 ≡ b → Opening start past now i
      by true e = of (let z : f.packet.to ≡ 0 = grind (arith, nat_tests) in z) (got_as start base serial f.packet f.facts.sent)
      by false e = calm (calms_then before (gets_other start base i serial f.packet f.facts e))

  pub first_opens : (ns : List Note) → IsFirst ns → Hands start i (map said ns ++ base) → Opening start past (map said ns ++ base) i
  first_opens [] b h = calm before
  first_opens (notes.Got serial ∷ []) b h = got_opens serial h.0
  first_opens (notes.Ignored serial cause ∷ []) b h = calm (calms_then before (quiet_calm start i (notes.Ignored serial cause) base refl h.0))
  first_opens (notes.TimedOut serial ∷ []) b h = calm (calms_then before (quiet_calm start i (notes.TimedOut serial) base refl h.0))
  first_opens (notes.Tick ∷ []) b h = calm (calms_then before (quiet_calm start i notes.Tick base refl h.0))
  first_opens (notes.Key unit ∷ []) b h = calm (calms_then before (quiet_calm start i (notes.Key unit) base refl h.0))
  first_opens (notes.Seen zero generation ∷ []) b h = calm (calms_then before (sight_calm start 0 generation base i (let x : nat_eq 0 (suc i) ≡ false = grind (arith, nat_tests) in x) h.0.none))
  first_opens (notes.Seen (suc node) generation ∷ []) b h = untrue b
  first_opens (note ∷ []) b h = untrue b
  first_opens (note ∷ other ∷ ns) b h = absurd b

-- as a line begins the target has what it had
pub line_manager : (start : List Disk) (line : ℕ) (event : Event) (past : List Moment) → (target_at start (asked line event ∷ past)).manager ≡ (target_at start past).manager
line_manager start line event past = ap (λ (o : Office). o.manager) (opened_office start past line event)

-- ---- what that leaves

-- the write of the operation under way
pub opening_leads : {start : List Disk} {past now : List Moment} {i : ℕ} → Opening start past now i → Leads start past now i
opening_leads (calm c) = calm_leads c
opening_leads {start} {past} {now} {i} (starts s) =
    let got : List Moment = said (notes.Got s.serial) ∷ s.base in
    let r = got_rests s.serial s.base in
    let k : Leads start s.base got i = record {
      own = λ write o. rests_own start s.base got i s.serial r (λ n. refl) write o;
      more = λ write l. (let n = r.news write in omega (arith, l, n));
      accepted = λ write o m a. still_accepted start s.base i s.serial s.q s.facts write o m a;
    } in
    leads_then (calm_leads s.before) (leads_then k (calm_leads s.behind))

-- what is at rest, where the target had an operation
pub opening_rest : {start : List Disk} {past now : List Moment} {i : ℕ} → (op : Operation) → (target_at start past).manager.operation ≡ Some op → Opening start past now i → IsRest start past i → IsRest start now i
opening_rest op e (calm c) r = calm_rest c r
opening_rest op e (starts s) r = absurd (none_some (sym s.begun.none_before ∙ (ap (λ (m : Machine). m.operation) s.manager ∙ e)))
  where
    none_some : None ≡ Some op → ⊥
    none_some f = cc

-- an operation of the initiator was there before, or its write waited
pub data WasAsked (start : List Disk) (past : List Moment) (i : ℕ) : Type 0 where
  was_there : (op : Operation) → (target_at start past).manager.operation ≡ Some op → WasAsked start past i
  was_asked : (serial place : ℕ) → IsAsking past i serial place → WasAsked start past i

pub opening_asked : {start : List Disk} {past now : List Moment} {i : ℕ} → Opening start past now i → (place : ℕ) (op : Operation) → IsHandling start now i place op → WasAsked start past i
opening_asked (calm c) place op h = let k = c.handling place op h in was_there k.was k.before.is
opening_asked {start} {past} {now} {i} (starts s) place op h =
    let k = s.behind.handling place op h in
    was_asked s.serial place (s.before.asking s.serial place (asked_for start s.base i s.serial s.q s.facts s.begun s.to place k.was k.before))

-- a status block that waits did so before
pub opening_telling : {start : List Disk} {past now : List Moment} {i : ℕ} → Opening start past now i → (serial place : ℕ) → IsTelling start now i serial place → IsTelling start past i serial place
opening_telling (calm c) serial place t = c.telling serial place t
opening_telling {start} {past} {now} {i} (starts s) serial place t =
    let got : List Moment = said (notes.Got s.serial) ∷ s.base in
    s.before.telling serial place (rests_telling start s.base got i s.serial (got_rests s.serial s.base) (λ n. refl) serial place (s.behind.telling serial place t))

-- ---- the host of an initiator

pub first_host : (ns : List Note) (base : List Moment) (i : ℕ) → IsFirst ns → Goes (host_at base i) (host_at (map said ns ++ base) i)
first_host [] base i b = same_goes (host_at base i) (host_at base i) refl
first_host (notes.Begin initiators ready ∷ []) base i b = untrue b
first_host (notes.Sent serial generation from to bytes ∷ []) base i b = untrue b
first_host (note ∷ []) base i b = note_first note base i refl
first_host (note ∷ other ∷ ns) base i b = absurd b

pub told_host : (ns : List Note) (base : List Moment) (i : ℕ) → AllOf is_behind ns → Goes (host_at base i) (host_at (map said ns ++ base) i)
told_host [] base i b = same_goes (host_at base i) (host_at base i) refl
told_host (notes.Begin initiators ready ∷ ns) base i b = untrue b.0
told_host (notes.Sent serial generation from to bytes ∷ ns) base i b = untrue b.0
told_host (note ∷ ns) base i b =
    goes_then (host_at base i) (host_at (map said ns ++ base) i) (host_at (said note ∷ (map said ns ++ base)) i) (told_host ns base i b.1) (note_first note (map said ns ++ base) i refl)

pub sends_host : (ns : List Note) (base : List Moment) (i : ℕ) → AllOf is_own_packet ns → Goes (host_at base i) (host_at (map said ns ++ base) i)
sends_host [] base i p = same_goes (host_at base i) (host_at base i) refl
sends_host (notes.Sent serial generation zero to bytes ∷ ns) base i p =
    let past : List Moment = map said ns ++ base in
    goes_then (host_at base i) (host_at past i) (host_at (said (notes.Sent serial generation 0 to bytes) ∷ past) i) (sends_host ns base i p.1)
    (other_first serial generation 0 to bytes past i (let x : nat_eq 0 (suc i) ≡ false = grind (arith, nat_tests) in x))
sends_host (notes.Sent serial generation (suc j) to bytes ∷ ns) base i p = untrue p.0
sends_host (note ∷ ns) base i p = untrue p.0
