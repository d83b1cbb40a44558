-- In each turn of every run an ORB ends as failed or illegal only directly behind the `dead` of its initiator.
use Rattle.std.proofs.Common.{◌≡◌, refl, subst, ℕ, suc, ◌+◌, ◌<◌, List, [], ◌∷◌, ◌++◌, Option, Some, None, Result}
use Rattle.label_table.specs.declared.reply.Stale.{Stale}
use Rattle.orb_layout.specs.declared.status.StatusKind.{StatusKind}
use Rattle.orb_layout.specs.declared.status.StatusKind.TheVariants as kinds
use Rattle.rbc_disk.specs.Disk.{Disk}
use Rattle.sbp_bus.specs.Generations.{id_of, node_of}
use Rattle.sbp_bus.specs.Telling.{ended_note}
use Rattle.sbp_journal.specs.Outgoings.{OutboxState}
use Rattle.sbp_journal.specs.Run.{Moment, asked}
use Rattle.sbp_journal.specs.declared.event.Event.{Event}
use Rattle.sbp_journal.specs.declared.note.Note.{Note}
use Rattle.sbp_journal.specs.declared.note.Note.TheVariants as notes
use Rattle.sbp_journal.specs.declared.outbox.Outgoing.{Outgoing}
use Rattle.sbp_journal.specs.declared.side.Side.{Side}
use Rattle.sbp_journal.specs.declared.side.Side.TheVariants as sides
use Rattle.sbp_laws.specs.Deaths.{FaultsFollowDeaths, FollowsDeath}
use Rattle.sbp_laws.specs.Turns.{turn}
use Rattle.sbp_target.specs.Nodes as target
use Rattle.sbp_world.specs.Hosts.Handing.{AreOthers}
use Rattle.sbp_world.specs.Lines.{weight_in}
use Rattle.sbp_world.specs.Sending.{sent}
use Rattle.sbp_world.specs.Telling.{holder, ticket_at, told, told_all}
use Rattle.sbp_world.specs.Worlds.{Scene, WorldState}
use Rattle.sbp_world.proofs.Agents.Management.Holding.{good_of}
use Rattle.sbp_world.proofs.Formed.{AreOwn, IsNoRun}
use Rattle.sbp_world.proofs.Agents.Management.Still.{hist}
use Rattle.sbp_target.proofs.Histories.Calling.{Good}
use Rattle.turn_laws.specs.Faults.{DiesBeforeFaults, FaultsLaw}
use Rattle.turn_laws.proofs.Calls.{Brings, Cases, calls, injects, loses, refuses, refuses_action, resets, sets_key}
use Rattle.turn_laws.proofs.FaultSides.{MayEnd, Paired, delivery_pairs, lapse_pairs, second_pairs, sight_pairs}
use Rattle.turn_laws.proofs.Handed.{handed, notes_sent, notes_told, packet_note}
use Rattle.turn_laws.proofs.Pass.{of_every_run}
use Rattle.turn_laws.proofs.Places.{Place}

abbrev Follow : Option Note → List Note → Type 0
Follow before rest = FaultsFollowDeaths before rest

-- whatever stands before them
abbrev Follows : List Note → Type 0
Follows rest = (before : Option Note) → Follow before rest

-- ---- packets
packet_follows : (to : Option ℕ) (from : ℕ) (packet : Outgoing) (w : WorldState) (more : List Note) → Follows more → Follows (packet_note to from packet w ++ more)
packet_follows None from packet w more h = h
packet_follows (Some to) from packet w more h = λ before. h (Some _)

sent_follows : (from : ℕ) (packets : List Outgoing) (w : WorldState) → Follows (notes_sent from packets w)
sent_follows from [] w = λ before. tt
sent_follows from (packet ∷ later) w = packet_follows (node_of w.generations from packet.to) from packet w (notes_sent from later (sent from packet w)) (sent_follows from later (sent from packet w))

-- ---- what an initiator tells
own_follow : (note : Note) → IsNoRun note → (before : Option Note) (rest : List Note) → Follow (Some note) rest → Follow before (note ∷ rest)
own_follow (notes.Ended i list number status) n before rest h = absurd n
own_follow note n before rest h = h

owns_follow : (weight : ℕ) (later : List Side) (w : WorldState) (more : List Note) → AreOwn later → Follows more → Follows (notes_told weight later w ++ more)
owns_follow weight [] w more h f = f
owns_follow weight (sides.Own note ∷ later) w more h f =
    let v = told weight (sides.Own note) w in λ before. own_follow note h.0.1 before (notes_told weight later v ++ more) (owns_follow weight later v more h.1 f (Some note))
owns_follow weight (side ∷ later) w more h f = absurd h.0

pub own_handed : (node weight : ℕ) (outbox : OutboxState) (w : WorldState) → AreOwn outbox.sides → Follow None (handed node weight outbox w)
own_handed node weight outbox w h =
    let v = told_all weight outbox.sides w in owns_follow weight outbox.sides w (notes_sent node outbox.packets v) h (sent_follows node outbox.packets v) None

-- ---- what the target tells
-- the note before is the death of who has the place that died
abbrev IsDeath : Option ℕ → Option Note → WorldState → Type 0
IsDeath None before w = Unit {0}
IsDeath (Some place) before w = FollowsDeath before (holder w place).initiator

fault_follows : (died : Option ℕ) (place : ℕ) (before : Option Note) (w : WorldState) → died ≡ Some place → IsDeath died before w → FollowsDeath before (holder w place).initiator
fault_follows died place before w e h = subst (λ (x : Option ℕ). IsDeath x before w) e h

ends_follow : (status : StatusKind) (died : Option ℕ) (place orb : ℕ) (w : WorldState) (before : Option Note) (rest : List Note) → MayEnd died (sides.Ended place orb status) → IsDeath died before w → Follows rest → Follow before (ended_note (holder w place) (ticket_at w place orb) status ∷ rest)
ends_follow kinds.Good died place orb w before rest m d f = f (Some _)
ends_follow (kinds.Check sense) died place orb w before rest m d f = f (Some _)
ends_follow kinds.Dummy died place orb w before rest m d f = f (Some _)
ends_follow kinds.Aborted died place orb w before rest m d f = f (Some _)
ends_follow (kinds.Illegal meaning) died place orb w before rest m d f = (fault_follows died place before w m d, f None)
ends_follow kinds.Failed died place orb w before rest m d f = (fault_follows died place before w m d, f None)
ends_follow (kinds.Management meaning) died place orb w before rest m d f = f (Some _)

module _ (more : List Note) (sent_so : Follows more) where
  told_follow : (weight : ℕ) (later : List Side) (w : WorldState) (died : Option ℕ) (before : Option Note) → AreOthers later → Paired died later → IsDeath died before w → Follow before (notes_told weight later w ++ more)
  unfolding told
  told_follow weight [] w died before o p d = sent_so before
  told_follow weight (sides.Own note ∷ later) w died before o p d = absurd o.0
  told_follow weight (sides.Opened place orb ∷ later) w died before o p d = told_follow weight later (told weight (sides.Opened place orb) w) None before o.1 p.1 tt
  told_follow weight (sides.Ended place orb status ∷ later) w died before o p d =
      let v = told weight (sides.Ended place orb status) w in
      ends_follow status died place orb w before (notes_told weight later v ++ more) p.0 d (λ last. told_follow weight later v None last o.1 p.1 tt)
  told_follow weight (sides.Dead place cause ∷ later) w died before o p d = told_follow weight later (told weight (sides.Dead place cause) w) (Some place) (Some _) o.1 p.1 refl
  told_follow weight (side ∷ later) w died before o p d = told_follow weight later (told weight side w) None (Some _) o.1 p.1 tt

target_handed : (outbox : OutboxState) (w : WorldState) → AreOthers outbox.sides → Paired None outbox.sides → Follow None (handed 0 0 outbox w)
target_handed outbox w o p =
    let v = told_all 0 outbox.sides w in told_follow (notes_sent 0 outbox.packets v) (sent_follows 0 outbox.packets v) 0 outbox.sides w None None o p tt

-- ---- the turns of the calls
line_follows : (line : ℕ) (s : Scene) (past : List Moment) (event : Event) (rest : List Note) → Brings line s event rest → DiesBeforeFaults (turn past (asked line event) rest)
line_follows line s past event rest (calls is_event c) = tt
line_follows line s past event rest (refuses is_event number) = tt
line_follows line s past event rest (refuses_action i action number e) = tt
line_follows line s past event rest (resets physical generation e) = tt
line_follows line s past event rest (loses serial) = tt
line_follows line s past event rest (sets_key unit key) = tt
line_follows line s past event rest (injects i bytes serial generation from to) = tt

module _ (units ready : ℕ) (has : 0 < units) (start : List Disk) where
  good : (past : List Moment) (s : Scene) → Place units ready start past s → Good s.world.target
  good past s here = good_of units ready here.holds.calls s.world.target has here.holds.made

  pub faults_cases : Cases units ready start DiesBeforeFaults
  faults_cases = record {
    heard = λ past s serial again run one found zero_to may others here behind judged.
        target_handed _ _ others (delivery_pairs s.world.target (good past s here).mid.size run one.generation one.bytes s.media);
    heard_own = λ past s serial again one i found to_is inside own here behind judged. own_handed (suc i) 0 _ _ own;
    late = λ past s serial request done t found node_is e others here behind judged.
        target_handed t.outbox _ others (subst (λ (x : Result (Unit {0}) Stale × target.Scene). Paired None x.1.outbox.sides) e (lapse_pairs s.world.target (good past s here).mid.size request.peer request.label));
    late_own = λ past s serial request i outbox state found node_is inside e own here behind judged. own_handed (suc i) 0 outbox _ own;
    sees = λ past s others here behind judged.
        let g = s.world.generations.latest in target_handed _ _ others (sight_pairs s.world.target (good past s here).mid.size g.generation (id_of g 0));
    sees_own = λ past s i inside own here behind judged. own_handed (suc i) 0 _ _ own;
    ticks = λ past s others here behind judged. target_handed _ _ others (second_pairs s.world.target (good past s here).mid.size);
    ends = λ past s done here behind. tt;
    acts = λ past s line i action outbox state inside e own here behind. own_handed (i + 1) (weight_in action) outbox _ own;
    lines = λ past s line event rest behind brings fresh here there. line_follows line s (hist past s.world) event rest brings;
    begins = λ line initiators is_ready. tt;
  }

pub faults_law : FaultsLaw
faults_law = of_every_run (λ start. DiesBeforeFaults) (λ units ready start has. faults_cases units ready has start)
