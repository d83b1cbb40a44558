-- Each step of an agent along a list of an initiator names an ORB in a slot, and reads ahead alone; so what it hands out is as the calls of the target have it, where
-- the bytes of an answer are written to no FIFO.
use Rattle.sbp_world.proofs.Words.Std.{arith, ◌≡◌, ◌∙◌, refl, ◌<◌, ◌^◌, nat_eq, ℕ, Bool, true, false, cond, is_some, List, [], ◌∷◌, length, Option, Some, None, IfSome, Result, Ok, Err, false≢true}
use Rattle.sbp_world.proofs.Words.Wire.{LabelParts, Packet, header_in, Layer, judging_step, of_request, of_response, Sent, Moment, said}
use Rattle.sbp_world.proofs.Words.Target.{Login, Disk, Told, PlainDisk, Phase, AgentStep, PointRefusal, Which, Machine, doorbell_step, lost_step, point_step, reply_step, Along, Knows, Progress, OrbList, ahead_beside, main_ask, main_beside, IsEnd, Keeps, PointerBrings, disk, Purpose, which_in, desk_at, answer_in, plain_in, is_barred, demand_of}
use Rattle.sbp_world.proofs.Words.Initiator.{Ask, OrbPointer, StatusKind}
use Rattle.sbp_world.proofs.Words.Laws.{lowest_vacant, slot_at, slots}
use Rattle.sbp_world.proofs.Words.World.{holder, WorldState, has_list, orbs, IsFor, machine_at}
use Rattle.orb_layout.specs.declared.ask.Ask.TheVariants as asks
use Rattle.orb_layout.specs.declared.ask.FailCause.TheVariants as causes
use Rattle.command_agent.specs.declared.phase.Phase.TheVariants as phases
use Rattle.agent_laws.proofs.Along.Writes.{keeps_along}
use Rattle.sbp_journal.specs.declared.note.Note.TheVariants as notes
use Rattle.sbp_target.specs.declared.purpose.Purpose.TheVariants as purposes
use Rattle.target_base.specs.declared.address.Access.TheVariants as accesses
use Rattle.target_base.specs.declared.address.Demand.TheVariants as demands
use Rattle.sbp_world.proofs.Agents.Management.Still.{hist}
use Rattle.sbp_world.proofs.Lists.Deliveries.{waits_has}
use Rattle.sbp_world.proofs.Lists.Lists.{laid}
use Rattle.sbp_world.proofs.Lists.Passing.{GoesOn, PassLaw}
use Rattle.sbp_world.proofs.Lists.StatusActs.{M}
use Rattle.sbp_world.proofs.Lists.StatusBytes.{written_at}
use Rattle.sbp_world.proofs.Lists.StatusFollows.{Step}
use Rattle.sbp_world.proofs.Lists.StatusPackets.{IsInbox}
use Rattle.sbp_world.proofs.Lists.StatusSteps.{Leaves, lost_leaves, replied_leaves}
use Rattle.sbp_world.proofs.Lists.Turns.{Ready}

-- ---- each ORB has a slot
slot_or : (x y z : Bool) (slot old : ℕ) → slot < 32 → old < 32 → cond x (cond y (cond z slot old) old) old < 32
slot_or true true true slot old a b = a
slot_or true true false slot old a b = b
slot_or true false z slot old a b = b
slot_or false y z slot old a b = b

pub slot_small : (wild : ℕ → Bool) (past : List Moment) → PassLaw wild past → (i n k : ℕ) → slot_at past i n k < 32
slot_small wild [] law i n k = omega arith
slot_small wild (said (notes.Append j m l cdb buffer) ∷ past) law i n k =
    slot_or (nat_eq i j) (nat_eq n m) (nat_eq k l) (lowest_vacant (slots past j)) (slot_at past i n k) law.0.slot (slot_small wild past law.1 i n k)
slot_small wild (_ ∷ past) law i n k = slot_small wild past law.1 i n k

module _ (past : List Moment) (i n : ℕ) (small : (k : ℕ) → slot_at past i n k < 32) where
  abbrev l : OrbList
  l = orbs past i n

  place_small : (k at : ℕ) → at ≡ l.address k → at < 2 ^ 48
  place_small k at e = let s = small k in omega (arith, e, s)

  by_phase : (p : Progress) (phase : Phase) (m : Machine) → Knows l p phase m → has_list phase ≡ true → m.present < 2 ^ 48
  by_phase p phases.Fetching m k h = place_small p.ended m.present k.turn.place
  by_phase p phases.ReadingTable m k h = place_small p.ended m.present k.awaits.turn.place
  by_phase p (phases.ReadingData wanted) m k h = place_small p.ended m.present k.awaits.turn.place
  by_phase p phases.Answering m k h = place_small p.ended m.present k.told.turn.place
  by_phase p phases.WritingStatus m k h = place_small k.over.last m.present k.over.place
  by_phase p phases.WritingLastStatus m k h = place_small k.over.last m.present k.over.place
  by_phase p phases.ReadingNext m k h = place_small k.over.last m.present k.over.place
  by_phase p phases.Suspended m k h = place_small k.over.last m.present k.over.place
  by_phase p phases.Reset m k h = absurd (false≢true h)
  by_phase p phases.Dead m k h = absurd (false≢true h)

  pub along_small : (p : Progress) (m : Machine) → Along l p m → has_list m.phase ≡ true → m.present < 2 ^ 48
  along_small p m a h = by_phase p m.phase m a.main h

  ended_small : (p : Progress) (ended : Option StatusKind) (s : AgentStep × Machine) → IfSome ended (λ kind. IsEnd l p kind s.1.present s.1.orb s.1.outgoing s.0.ask) → is_some ended ≡ true → s.1.present < 2 ^ 48
  ended_small p None s e h = absurd (false≢true h)
  ended_small p (Some kind) s e h = place_small p.ended s.1.present e.turn.place

  -- a step along the list
  pub record Small (s : AgentStep × Machine) : Type 0 where
    pub present : has_list s.1.phase ≡ true → s.1.present < 2 ^ 48
    pub ended : is_some s.0.ended ≡ true → s.1.present < 2 ^ 48

  pub keeps_small : (p : Progress) (place : ℕ) (plain : PlainDisk) (main ahead : Ask) (s : AgentStep × Machine) → Keeps l p place plain main ahead s → Small s
  keeps_small p place plain main ahead s k = record { present = along_small _ s.1 k.along; ended = ended_small _ s.0.ended s k.ends }

-- ---- an agent that began its list, and one whose doorbell rang, has one
none_reads : (at : ℕ) → asks.Nothing ≡ asks.Read at 32 → ⊥
none_reads at e = cc

write_reads : (size at : ℕ) → asks.Write 0 size ≡ asks.Read at 32 → ⊥
write_reads size at e = cc

begun_phase : (phase : Phase) (m : Machine) (at : ℕ) → main_ask phase m ≡ asks.Read at 32 → has_list phase ≡ true
begun_phase phases.Reset m at e = absurd (none_reads at e)
begun_phase phases.Dead m at e = absurd (none_reads at e)
begun_phase phases.WritingLastStatus m at e = absurd (write_reads (length m.outgoing) at e)
begun_phase _ m at e = refl

rung_phase : (phase : Phase) (m : Machine) → has_list (doorbell_step (record m { phase = phase })).1.phase ≡ true → has_list phase ≡ true
unfolding doorbell_step
rung_phase phases.Reset m h = absurd (false≢true h)
rung_phase phases.Dead m h = absurd (false≢true h)
rung_phase phases.WritingLastStatus m h = h
rung_phase _ m h = refl

-- ---- the agents of a world
module _ (wild : ℕ → Bool) (past : List Moment) (w : WorldState) (r : Ready wild past w) where
  abbrev ms : List Moment
  ms = hist past w

  abbrev pub Ours : ℕ → Type 0
  Ours q = wild (holder w q).initiator ≡ false

  -- the agent of a place is along a list
  record OnList (q : ℕ) : Type 0 where
    n : ℕ
    list : (holder w q).list ≡ Some n
    goes : GoesOn ms (holder w q).initiator n (machine_at w q)

  on_list : (q : ℕ) → q < 8 → has_list (machine_at w q).phase ≡ true → Ours q → OnList q
  on_list q b h own =
      let o = (r.needs (holder w q).initiator own).lists.listed q b h (r.calm (holder w q).initiator own) in
      record { n = o.n; list = o.list; goes = r.kept.on q b h o.n o.list own }

  in_slots : (i n k : ℕ) → slot_at ms i n k < 32
  in_slots i n k = slot_small wild ms r.kept.passes i n k

  abbrev Apart : (q : ℕ) → AgentStep → Type 0
  Apart q step = Ours q → step.ended ≡ None → (offset size : ℕ) → step.ask ≡ asks.Write offset size → IsInbox (written_at offset) → ⊥

  step_of : (q : ℕ) (b : q < 8) (login : Login) (layer : Layer Purpose) (m : Machine) (s : AgentStep × Machine) (list : Ours q → ℕ) → Leaves m s → ((own : Ours q) → Small ms (holder w q).initiator (list own) (in_slots (holder w q).initiator (list own)) s) → Apart q s.0 → Step q b login (Ours q) (M w r.good layer) s.0 s.1
  step_of q b login layer m s list leaves small apart = record {
    mild = record { ends = leaves.ends; small = λ own e. (small own).ended e; apart = apart };
    small = λ own e. (small own).present e;
    ahead = leaves.tame;
  }

  -- a reply
  module _ (sent : Sent) (is_for : IsFor w sent) (run : Option Told) (disks : List Disk) (layer : Layer Purpose) (p : Packet) (label : LabelParts) (place : ℕ) (f : (judging_step w.target.layer sent.generation sent.bytes).0 ≡ of_response p label (Some (purposes.Agent place))) (b : place < 8) (login : Login) (which : Which) (e : which_in (desk_at w.target place) (header_in p).source label ≡ Some which) where
    abbrev plain : PlainDisk
    plain = plain_in w.target.units disks login.unit

    abbrev reply : AgentStep × Machine
    reply = reply_step (machine_at w place) place plain run which (answer_in p)

    on : Ours place → OnList place
    on = on_list place b (waits_has wild past w r place b (header_in p).source label which e)

    reply_small : (own : Ours place) → Small ms (holder w place).initiator (on own).n (in_slots (holder w place).initiator (on own).n) reply
    reply_small own =
        let o = on own in
        let i = (holder w place).initiator in
        let progress = o.goes.progress in
        let brought = (r.needs i own).brings sent is_for p label place which f e b refl o.n o.list progress o.goes.is o.goes.along in
        keeps_small ms i o.n (in_slots i o.n) _ place plain (main_beside which (machine_at w place)) (ahead_beside which (machine_at w place)) reply
        ((keeps_along (orbs ms i o.n)).replies progress (machine_at w place) place plain run which (answer_in p) (laid ms i o.n) o.goes.along brought)

    pub reply_step_of : Apart place reply.0 → Step place b login (Ours place) (M w r.good layer) reply.0 reply.1
    reply_step_of apart = step_of place b login layer (machine_at w place) reply (λ own. (on own).n) (replied_leaves (machine_at w place) place plain run which (answer_in p)) reply_small apart

  -- a time-out
  module _ (peer : ℕ) (label : LabelParts) (layer : Layer Purpose) (place : ℕ) (b : place < 8) (login : Login) (which : Which) (e : which_in (desk_at w.target place) peer label ≡ Some which) where
    abbrev loss : AgentStep × Machine
    loss = lost_step (machine_at w place) which causes.Timeout

    on_late : Ours place → OnList place
    on_late = on_list place b (waits_has wild past w r place b peer label which e)

    late_small : (own : Ours place) → Small ms (holder w place).initiator (on_late own).n (in_slots (holder w place).initiator (on_late own).n) loss
    late_small own =
        let o = on_late own in
        let i = (holder w place).initiator in
        keeps_small ms i o.n (in_slots i o.n) _ 0 disk (main_beside which (machine_at w place)) (ahead_beside which (machine_at w place)) loss
        ((keeps_along (orbs ms i o.n)).loses o.goes.progress (machine_at w place) 0 disk which causes.Timeout o.goes.along)

    pub late_step_of : Apart place loss.0 → Step place b login (Ours place) (M w r.good layer) loss.0 loss.1
    late_step_of apart = step_of place b login layer (machine_at w place) loss (λ own. (on_late own).n) (lost_leaves (machine_at w place) which causes.Timeout) late_small apart

  -- a doorbell, and a pointer
  pub ring_small : (q : ℕ) → q < 8 → Ours q → has_list (doorbell_step (machine_at w q)).1.phase ≡ true → (doorbell_step (machine_at w q)).1.present < 2 ^ 48
  ring_small q b own there =
      let o = on_list q b (rung_phase (machine_at w q).phase (machine_at w q) there) own in
      let i = (holder w q).initiator in
      along_small ms i o.n (in_slots i o.n) o.goes.progress (doorbell_step (machine_at w q)).1 ((keeps_along (orbs ms i o.n)).rings o.goes.progress (machine_at w q) o.goes.along).along there

  pub point_small : (sent : Sent) → IsFor w sent → (p : Packet) → (judging_step w.target.layer sent.generation sent.bytes).0 ≡ of_request p → is_barred w.target p ≡ false → (q : ℕ) → q < 8 → (pointer : OrbPointer) → demand_of (length w.target.rom) p ≡ demands.Agent q (accesses.Point pointer) → (ask : Ask) → (point_step (machine_at w q) pointer).0 ≡ Ok ask → Ours q → (point_step (machine_at w q) pointer).1.present < 2 ^ 48
  point_small sent is_for p f bar q b pointer d ask e own =
      let i = (holder w q).initiator in
      let t = (r.needs i own).lists.points sent is_for p f bar q pointer ask d e (r.calm i own) in
      begun i t.n (point_step (machine_at w q) pointer) ask e ((keeps_along (orbs ms i t.n)).points (machine_at w q) pointer (laid ms i t.n) t.first t.linked_one)
    where
      begun : (i n : ℕ) (s : Result Ask PointRefusal × Machine) (ask : Ask) → s.0 ≡ Ok ask → PointerBrings (orbs ms i n) (machine_at w q) s → s.1.present < 2 ^ 48
      begun i n (Ok one, now) ask e x = along_small ms i n (in_slots i n) _ now x.along (begun_phase now.phase now _ (x.main_is ∙ x.asks))
      begun i n (Err refusal, now) ask e x = absurd (let z : Err refusal ≡ Ok ask = e in cc)
