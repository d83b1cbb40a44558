-- At each place of every run in which nobody injected packets, the response that the management operation waits for is whole, but for that to its status block.
use Rattle.sbp_world.proofs.Words.Std.{arith, ◌≡◌, ◌∙◌, refl, sym, ap, subst, inl, ◌<◌, ℕ, suc, Bool, true, false, List, length, Some, true≢false}
use Rattle.sbp_world.proofs.Words.Wire.{Access, Moment, Sending, Terms, terms}
use Rattle.sbp_world.proofs.Words.Target.{Disk, Operation}
use Rattle.sbp_world.proofs.Words.Initiator.{start_of}
use Rattle.sbp_world.proofs.Words.Laws.{access_at, access_in, host_reply, id_for, packet_in, receiver_in, sender_in, target_at}
use Rattle.sbp_world.proofs.Words.World.{AccessOf, IsTame, WasAsked, WorldState, after, after_all, beginning, begun, more_deliveries}
use Rattle.bus_memory.specs.declared.window.Window.TheVariants as windows
use Rattle.mgmt_agent.specs.declared.operation.Phase.{Phase}
use Rattle.mgmt_agent.specs.declared.operation.Phase.TheVariants as phases
use Rattle.sbp_journal.specs.declared.cause.Cause.{Cause}
use Rattle.sbp_journal.specs.declared.cause.Cause.TheVariants as causes
use Rattle.sbp_world.specs.Completing.ManagedRefusals.{is_hard}
use Rattle.sbp_world.specs.Completing.Managed.{AreManagedGiven, AreManagedGivenBefore, GivenBeforeLaw}
use Rattle.sbp_world.proofs.Agents.Management.Holding.{Holding}
use Rattle.sbp_world.proofs.Agents.Management.Still.{hist}
use Rattle.sbp_world.proofs.Common.{untrue}
use Rattle.sbp_world.proofs.Completing.AnswersRuns.{by_places}
use Rattle.sbp_world.proofs.Completing.ManagedBuffers.{AllReach, last_reach, reach_everywhere}
use Rattle.sbp_world.proofs.Completing.ManagedGots.{gots_between, gots_of}
use Rattle.sbp_world.proofs.Completing.ManagedPlaces.{AreTakenWrites, IsTakenWrite, Kit, ignored_sent, managed_whole}
use Rattle.sbp_world.proofs.Completing.ManagedReplies.{IsTakenAt}
use Rattle.sbp_world.proofs.Completing.ManagedWire.{KnownMoments, known_moments}
use Rattle.sbp_world.proofs.Completing.ManagedWrites.{IsBufferWrite, buffer_complete, buffer_write}
use Rattle.sbp_world.proofs.Hosts.Carrying.{Stood, carries_law, stood, stood_between}
use Rattle.sbp_world.proofs.Hosts.Owing.{IsAsking, asking}
use Rattle.sbp_world.proofs.Hosts.Runs.{count_after, count_between}
use Rattle.sbp_world.proofs.Hosts.SlotIgnored.{AllWrites, is_refusal, refuses_there}
use Rattle.sbp_world.proofs.Lists.ContentManages.{bound}
use Rattle.sbp_world.proofs.Lists.Clauses.{open_lists_law}
use Rattle.sbp_world.proofs.Lists.Courses.{EveryPlace, more_than_one}
use Rattle.sbp_world.proofs.Lists.Fair.{told_everywhere}
use Rattle.sbp_world.proofs.Lists.KeptTurns.{id_is}
use Rattle.sbp_world.proofs.Lists.ListsProved.{closing}
use Rattle.sbp_world.proofs.Lists.ManagedGots as managed_gots
use Rattle.sbp_world.proofs.Lists.ManageTerms.{same_some}
use Rattle.sbp_world.proofs.Lists.OfficeWrites.{goes_of}
use Rattle.sbp_world.proofs.Lists.OrbsRead.{access_there, sender_there}
use Rattle.sbp_world.proofs.Lists.ShortLines.{short_law}
use Rattle.sbp_world.proofs.Lists.UnderwayRuns.{delivering}
use Rattle.sbp_world.proofs.Completing.AnswersGots.{IsPacket, packet_from}

-- ---- the status block
-- the one that the operation waits for is taken
abbrev pub AreStatusesTaken : List Disk → List Moment → WorldState → Type 0
AreStatusesTaken start past w = (op : Operation) (i ask : ℕ) (access : Access) → (target_at start past).manager.operation ≡ Some op → op.phase ≡ phases.Status → i < length w.initiators → op.source ≡ id_for (terms past) 0 (suc i) → (target_at start past).manages ≡ Some ask → access_at (terms past) ask ≡ Some access → IsTakenWrite past i ask access

-- ---- at a place
refusal : (cause : Cause) → is_hard cause ≡ true → is_refusal cause ≡ true
refusal causes.Grammar e = refl
refusal causes.Source e = refl
refusal causes.Login e = refl
refusal causes.Slot e = refl
refusal causes.Generation e = untrue e
refusal causes.Label e = untrue e
refusal causes.Again e = untrue e

pub record RunKit (start : List Disk) (past : List Moment) (w : WorldState) : Type 0 where
  pub kit : Kit start past w
  pub reach : AllReach start past w

module _ (units ready : ℕ) (has : 0 < units) (start : List Disk) {past : List Moment} {lines : ℕ} (w : WorldState) (h : Holding units ready start past lines w) (k : RunKit start (hist past w) w) (tame : IsTame (hist past w)) where
  abbrev ms : List Moment
  ms = hist past w

  abbrev t : Terms
  t = terms ms

  pub known : KnownMoments ms
  known = subst KnownMoments h.sound.stands.is.past_is (known_moments h.sound.stands.wire h.sound.stands.reached)

  module _ (op : Operation) (i ask : ℕ) (access : Access) (operation : (target_at start ms).manager.operation ≡ Some op) (inside : i < length w.initiators) (source : op.source ≡ id_for t 0 (suc i)) (manages : (target_at start ms).manages ≡ Some ask) (asks : access_at t ask ≡ Some access) where
    pub st : Stood ms i
    st = k.kit.stood i inside

    pub was : WasAsked start ms ask op
    was = k.kit.managed.ground.known.are.each ask op (((bound start ms k.kit.managed.ground.known.counts).own ask manages).0 ∙ operation)

    pub access_is : was.access ≡ access
    access_is = same_some was.access access (sym (access_there start ms k.kit.managed.ground.known.counts ask op was) ∙ asks)

    sender : sender_in (t.sent ask) ≡ Some 0
    sender = sender_there start ms k.kit.managed.ground.known.counts ask op was

    receiver : receiver_in (t.sent ask) ≡ Some (suc i)
    receiver = goes_of units ready has start w h k.kit.managed.ground i inside op operation (source ∙ id_is units ready has start w h i inside) ask manages

    pub packet : IsPacket (t.sent ask)
    packet = packet_from (t.sent ask) 0 sender

    abbrev pub a : Sending
    a = packet.packet

    pub from : a.from ≡ 0
    from = same_some a.from 0 (sym (ap sender_in packet.is) ∙ sender)

    pub to : a.to ≡ suc i
    to = same_some a.to (suc i) (sym (ap receiver_in packet.is) ∙ receiver)

    pub unforged : a.injected ≡ false
    unforged = by a.injected refl
      where
        by : (b : Bool) → a.injected ≡ b → b ≡ false
        by true e = absurd (true≢false (sym ((st.wire.facts.honest ask a packet.is).bold e) ∙ (ap t.injects from ∙ k.kit.told.fair)))
        by false e = refl

    -- what is refused is a write to a FIFO
    low_taken : access.offset < 0x12002000 → IsTakenAt ms ask
    low_taken low later earlier cause e hard =
        let spells : IsAsking a access = asking a access (ap (λ x. access_in (packet_in x)) (sym packet.is) ∙ asks) in
        let refused = refuses_there later earlier i ask cause (subst (λ x. AllWrites x i) (sym e) st.writes) in
        let there : (terms earlier).sent ask ≡ Some a = ignored_sent ms known st.wire.laws.serials later earlier ask cause e a packet.is in
        let high = (refused.1 (refusal cause hard) a there to from unforged spells.spells spells.read access spells.asks).high in
        absurd (omega (arith, high, low))

    response_taken : (fifo : ℕ) → op.phase ≡ phases.Response fifo → IsTakenWrite ms i ask access
    response_taken fifo phase =
        let g = k.kit.managed.ground in
        let reach = last_reach start ms k.kit.told.answers (k.reach tame) in
        let b : IsBufferWrite start ms g.known.counts g.known.are op fifo ask operation phase manages access = buffer_write start ms g.known.counts g.known.are op fifo ask operation phase manages reach access asks in
        let small = b.small in
        let at : access.offset ≡ start_of (windows.Response b.place) = ap (λ (x : Access). x.offset) b.is in
        record {
          lock = ap (λ (x : Access). x.is_lock) b.is;
          complete = λ before. ap (λ x. (host_reply before i x).rcode) b.is ∙ buffer_complete before i b.place b.small (target_at start ms).manager.outgoing b.some b.few;
          taken = low_taken (omega (arith, at, small));
        }

    no_read : (own : Access) → access ≡ own → own.is_write ≡ false → access.is_write ≡ true → IsTakenWrite ms i ask access
    no_read own e reads writes = absurd (true≢false (sym writes ∙ (ap (λ (x : Access). x.is_write) e ∙ reads)))

    taken_in : (op.phase ≡ phases.Status → IsTakenWrite ms i ask access) → (phase : Phase) → op.phase ≡ phase → AccessOf phase op access → access.is_write ≡ true → IsTakenWrite ms i ask access
    taken_in statuses phases.Orb e content writes = no_read _ content refl writes
    taken_in statuses (phases.HighEui orb) e content writes = no_read _ content refl writes
    taken_in statuses (phases.LowEui orb high) e content writes = no_read _ content refl writes
    taken_in statuses (phases.Response fifo) e content writes = response_taken fifo e
    taken_in statuses phases.Status e content writes = statuses e

    write_taken : (op.phase ≡ phases.Status → IsTakenWrite ms i ask access) → access.is_write ≡ true → IsTakenWrite ms i ask access
    write_taken statuses writes = taken_in statuses op.phase refl (subst (AccessOf op.phase op) access_is was.content) writes

  writes_taken : AreStatusesTaken start ms w → AreTakenWrites (λ op. Unit {0}) start ms w
  writes_taken statuses op which i ask access operation inside source manages asks writes =
      write_taken op i ask access operation inside source manages asks (λ phase. statuses op i ask access operation phase inside source manages asks) writes

  others_taken : AreTakenWrites (λ op. op.phase ≡ phases.Status → ⊥) start ms w
  others_taken op which i ask access operation inside source manages asks writes = write_taken op i ask access operation inside source manages asks (λ phase. absurd (which phase)) writes

  pub given_here : AreStatusesTaken start ms w → AreManagedGiven w
  given_here statuses sent packet m op is = managed_whole units ready has start w h k.kit tame sent packet m op is (λ op. Unit {0}) (writes_taken statuses) tt

  pub before_here : AreManagedGivenBefore w
  before_here sent packet m op is other = managed_whole units ready has start w h k.kit tame sent packet m op is (λ op. op.phase ≡ phases.Status → ⊥) others_taken other

-- ---- at each place of a run
pub kits : EveryPlace RunKit
kits =
    let managed = managed_gots.kit_everywhere short_law in
    record {
      after_lines = λ line run r has small size so_far. record {
        kit = record {
          managed = managed.after_lines line run r has small size so_far;
          told = told_everywhere.after_lines line run r has small size so_far;
          stood = λ i b. stood line run r i (subst (λ n. i < n) (count_after run run.entries) b);
          none = λ i b. carries_law.none_injected line run r i (subst (λ n. i < n) (count_after run run.entries) b);
          gots = gots_of line run r;
        };
        reach = reach_everywhere.after_lines line run r has small size so_far;
      };
      between = λ line run r has small size next most told m so_far.
          let inside : (i : ℕ) → i < length (after_all told (begun (after (beginning run) run.entries))).world.initiators → i < run.initiators = λ i b. subst (λ n. i < n) (count_after run run.entries) (subst (λ n. i < n) (count_between told (after (beginning run) run.entries)) b) in
          record {
            kit = record {
              managed = managed.between line run r has small size next most told m so_far;
              told = told_everywhere.between line run r has small size next most told m so_far;
              stood = λ i b. stood_between line run r next (more_deliveries most) told (delivering told most) m i (inside i b);
              none = λ i b. carries_law.none_injected_between line run r next (more_deliveries most) told (delivering told most) m i (inside i b);
              gots = gots_between line run r next (more_deliveries most) told (delivering told most) m;
            };
            reach = reach_everywhere.between line run r has small size next most told m so_far;
          };
    }

before_places : EveryPlace (λ start past w. IsTame past → AreManagedGivenBefore w)
before_places = by_places RunKit (λ start past w. IsTame past → AreManagedGivenBefore w) (λ units ready has start past lines w h k tame. before_here units ready has start w h k tame) kits

pub given_before_law : GivenBeforeLaw
given_before_law = record {
  after_lines = λ line run r has small size tame. before_places.after_lines line run r has small size (closing.before open_lists_law line run r has small size (inl tame)) tame;
  between = λ line run r has small size next most told m tame.
      before_places.between line run r has small size next most told m (closing.between open_lists_law line run r has small size next (more_deliveries most) (more_than_one most) told m (inl tame)) tame;
}
