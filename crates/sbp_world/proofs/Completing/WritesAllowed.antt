-- No packet that an agent waits for is refused, in every run in which no initiator injected packets, if each status that it waits for goes to an open FIFO.
use Rattle.sbp_world.proofs.Words.Std.{arith, ◌≡◌, ◌∙◌, refl, sym, ap, subst, inl, ◌<◌, ◌≤◌, ◌+◌, ◌==◌, ℕ, suc, Bool, true, false, List, [], ◌∷◌, ◌++◌, length, map, Option, Some, nat_tests, false≢true, true≢false, same_Some}
use Rattle.sbp_world.proofs.Words.Wire.{Access, AreJudged, Cause, Event, Moment, Note, Sending, SerialsCount, Terms, asked, by_generation, may_ignore_by, row_of, said, terms}
use Rattle.sbp_world.proofs.Words.Target.{Disk, Which, Ahead, Main}
use Rattle.sbp_world.proofs.Words.Initiator.{Ask}
use Rattle.sbp_world.proofs.Words.Laws.{EachMoment, Target, access_in, agent_at, injectors, over, packet_in, receiver_in, sender_in, target_at}
use Rattle.sbp_world.proofs.Words.World.{Always, AreAskedAt, HasAsked, IsTame, UnderFrom, WorldState, after, after_all, beginning, begun, history_of, moments_behind, more_deliveries, serial_of}
use Rattle.bus_transactions.specs.Judging.{facts_of}
use Rattle.sbp_journal.specs.declared.cause.Cause.TheVariants as causes
use Rattle.sbp_journal.specs.declared.note.Note.TheVariants as notes
use Rattle.sbp_world.specs.Completing.Answers.{WaitsOn}
use Rattle.sbp_world.specs.Completing.Labels.{AlwaysWhere}
use Rattle.sbp_world.specs.Completing.Writes.{AreAccepted, IsAccepted, NoneRefused, UnrefusedAt, is_refused}
use Rattle.sbp_world.proofs.Agents.Management.Holding.{past_terms}
use Rattle.sbp_world.proofs.Agents.Management.Still.{hist}
use Rattle.sbp_world.proofs.Common.{moment_joined}
use Rattle.sbp_world.proofs.Completing.LabelsPlaces.{IsHolding, holding_everywhere}
use Rattle.sbp_world.proofs.Completing.WritesAccepted.{not_barred}
use Rattle.sbp_world.proofs.Completing.WritesRefused.{AllBarred, barred_there, bars_between, bars_of}
use Rattle.sbp_world.proofs.Hosts.Between.{OfWire, of_wire, of_wire_there}
use Rattle.sbp_world.proofs.Hosts.Owing.{asking}
use Rattle.sbp_world.proofs.Hosts.Remaining.{remains}
use Rattle.sbp_world.proofs.Hosts.Runs.{count_after, count_between}
use Rattle.sbp_world.proofs.Hosts.SentMoments.{sent_below, serials_from}
use Rattle.sbp_world.proofs.Hosts.SlotIgnored.{AllWrites, is_refusal, refuses_there}
use Rattle.sbp_world.proofs.Hosts.Slotted as slotted
use Rattle.sbp_world.proofs.Lists.BufferGets.{judged_from}
use Rattle.sbp_world.proofs.Lists.Clauses.{open_lists_law}
use Rattle.sbp_world.proofs.Lists.Courses.{more_than_one}
use Rattle.sbp_world.proofs.Lists.DataWaits.{under_way_now}
use Rattle.sbp_world.proofs.Lists.Fair.{told_everywhere}
use Rattle.sbp_world.proofs.Lists.Gots.{Next, next, next_line, same_still, turn_next}
use Rattle.sbp_world.proofs.Lists.ListsProved.{closing}
use Rattle.sbp_world.proofs.Lists.MainSlotsRuns.{kit_everywhere}
use Rattle.sbp_world.proofs.Lists.ManageSends.{opened_terms}
use Rattle.sbp_world.proofs.Lists.OrbWaits.{over_twice}
use Rattle.sbp_world.proofs.Lists.OwnFifos.{tame_before}
use Rattle.sbp_world.proofs.Lists.Quiet.{AllQuiet, IsQuiet}
use Rattle.sbp_world.proofs.Lists.ShortLines.{short_law}
use Rattle.sbp_world.proofs.Lists.StatusLogins.{each_there}
use Rattle.sbp_world.proofs.Lists.StillTurns.{Ground}
use Rattle.sbp_world.proofs.Lists.TameWalks.{Where, from_after, from_between}
use Rattle.sbp_world.proofs.Lists.UnderwayRuns.{delivering}
use Rattle.sbp_world.proofs.Lists.Walks.{Walks}
use Rattle.sbp_world.specs.Runs.{Run}
use Rattle.sbp_world.proofs.Completing.AnswersGots.{packet_from}

-- ---- a packet that an agent waits for
record IsWaited (start : List Disk) (past : List Moment) (serial : ℕ) : Type 0 where
  packet : Sending
  sent : (terms past).sent serial ≡ Some packet
  from : packet.from ≡ 0
  host : ℕ
  to : packet.to ≡ suc host
  current : packet.generation ≡ (terms past).generation 0
  access : Access
  asks : access_in (packet_in (Some packet)) ≡ Some access
  accepted : (terms past).generation 0 ≡ (terms past).generation (suc host) → access.is_write ≡ true → 0x1200_2000 ≤ access.offset → IsAccepted past host access

-- of initiators that injected no packets
abbrev AreWaited : (ℕ → Bool) → List Disk → List Moment → ℕ → Type 0
AreWaited wild start past serial = (j : ℕ) → wild j ≡ false → (place : ℕ) (which : Which) → place < 8 → serial_of which (agent_at (over (target_at start past)) place) ≡ Some serial → IsWaited start past serial

-- at a place
abbrev IsPlace : List Disk → List Moment → WorldState → Type 0
IsPlace start past w = AreAskedAt start past × ((place i serial : ℕ) (access : Access) → WaitsOn start past place i serial access → access.is_write ≡ true → 0x1200_2000 ≤ access.offset → IsAccepted past i access)

module _ (start : List Disk) (past : List Moment) (asked_so : AreAskedAt start past) (accepts : (place i serial : ℕ) (access : Access) → WaitsOn start past place i serial access → access.is_write ≡ true → 0x1200_2000 ≤ access.offset → IsAccepted past i access) where
  module _ (place : ℕ) (which : Which) (small : place < 8) (serial : ℕ) (waits : serial_of which (agent_at (over (target_at start past)) place) ≡ Some serial) where
    waited_by : (initiator fifo : ℕ) (ask : Ask) (is_status : Bool) → HasAsked (terms past) initiator fifo serial ask is_status → IsWaited start past serial
    waited_by initiator fifo ask is_status r =
        let p = packet_from ((terms past).sent serial) 0 r.from in
        let from = same_Some p.packet.from 0 (ap sender_in (sym p.is) ∙ r.from) in
        let to : p.packet.to ≡ initiator + 1 = same_Some p.packet.to (initiator + 1) (ap receiver_in (sym p.is) ∙ r.to) in
        let next : p.packet.to ≡ suc initiator = omega (arith, to) in
        record {
          packet = p.packet;
          sent = p.is;
          from = from;
          host = initiator;
          to = next;
          current = under_way_now (terms past) serial p.packet p.is r.under_way ∙ ap (terms past).generation from;
          access = r.access;
          asks = ap (λ o. access_in (packet_in o)) (sym p.is) ∙ r.is;
          accepted = λ level w h. accepts place initiator serial r.access (record { small = small; which = which; waits = waits; to = ap receiver_in p.is ∙ ap Some next; level = level; asks = r.is }) w h;
        }

  waited_here : (place : ℕ) (which : Which) → place < 8 → (serial : ℕ) → serial_of which (agent_at (over (target_at start past)) place) ≡ Some serial → IsWaited start past serial
  waited_here place Main small serial e = waited_by place Main small serial e _ _ _ _ ((asked_so.all place small).main serial e)
  waited_here place Ahead small serial e = waited_by place Ahead small serial e _ _ _ _ ((asked_so.all place small).ahead serial e)

-- as a line begins
waited_asked : (wild : ℕ → Bool) (start : List Disk) (line : ℕ) (event : Event) (past : List Moment) → ((serial : ℕ) → AreWaited wild start past serial) → (serial : ℕ) → AreWaited wild start (asked line event ∷ past) serial
waited_asked wild start line event past a serial j own place which small waits =
    let opens = opened_terms event (terms past) in
    let x = a serial j own place which small (subst (λ (T : Target). serial_of which (agent_at T place) ≡ Some serial) (over_twice (target_at start past)) waits) in
    record {
      packet = x.packet;
      sent = ap (λ (f : ℕ → Option Sending). f serial) opens.sent ∙ x.sent;
      from = x.from;
      host = x.host;
      to = x.to;
      current = x.current ∙ ap (λ (g : ℕ → ℕ). g 0) (sym opens.generation);
      access = x.access;
      asks = x.asks;
      accepted = λ level w h.
          let k = x.accepted (ap (λ (g : ℕ → ℕ). g 0) (sym opens.generation) ∙ (level ∙ ap (λ (g : ℕ → ℕ). g (suc x.host)) opens.generation)) w h in
          record { some = k.some; goes = k.goes; inside = k.inside; block = k.block; reads = k.reads };
    }

-- ---- as each packet is ignored
module _ (Says : List Moment → ℕ → Type 0) where
  abbrev AtIgnored : Moment → List Moment → Type 0
  AtIgnored (said (notes.Ignored serial cause)) past = Says past serial
  AtIgnored moment past = Unit {0}

  module _ (opened : (line : ℕ) (event : Event) (past : List Moment) → ((serial : ℕ) → Says past serial) → (serial : ℕ) → Says (asked line event ∷ past) serial) where
    note_says : (note : Note) (past : List Moment) → ((serial : ℕ) → Says past serial) → AtIgnored (said note) past
    note_says (notes.Ignored serial cause) past a = a serial
    note_says note past a = tt

    moment_says : (moment : Moment) (past : List Moment) → ((serial : ℕ) → Says past serial) → AtIgnored moment past
    moment_says (asked line event) past a = tt
    moment_says (said note) past a = note_says note past a

    quiet_says : (note : Note) (past : List Moment) → IsQuiet note → AtIgnored (said note) past
    quiet_says (notes.Ignored serial cause) past q = absurd q
    quiet_says note past q = tt

    front_says : (front : List Note) (past : List Moment) → AllQuiet front → EachMoment AtIgnored past → EachMoment AtIgnored (map said front ++ past)
    front_says [] past q g = g
    front_says (note ∷ front) past q g = (quiet_says note (map said front ++ past) q.0, front_says front past q.1 g)

    ignored_turn : (before now : List Moment) → Next before now → ((serial : ℕ) → Says before serial) → EachMoment AtIgnored before → EachMoment AtIgnored now
    ignored_turn before now (same_still e) a g = subst (EachMoment AtIgnored) (sym e) g
    ignored_turn before now (next front q moment is) a g = subst (EachMoment AtIgnored) is (front_says front (moment ∷ before) q (moment_says moment before a, g))
    ignored_turn before now (next_line front q note line event is) a g =
        subst (EachMoment AtIgnored) is (front_says front (said note ∷ asked line event ∷ before) q (note_says note (asked line event ∷ before) (opened line event before a), (tt, g)))

abbrev AllWaited : List Disk → (ℕ → Bool) → List Moment → WorldState → Type 0
AllWaited start wild past w = EachMoment (AtIgnored (AreWaited wild start)) past

abbrev Nothing : List Moment → WorldState → Type 0
Nothing past w = Unit {0}

no_ground : Always Nothing
no_ground = record { after_lines = λ line run r has small size. tt; between = λ line run r has small size next most told m. tt }

waited_walk : (wild : ℕ → Bool) (units ready : ℕ) → 0 < units → (start : List Disk) → Walks wild units ready start Nothing (IsPlace start) (AllWaited start wild)
waited_walk wild units ready has start past s later t step p =
    ignored_turn (AreWaited wild start) (λ line event before a. waited_asked wild start line event before a) (hist past s.world) (hist later t.world) (turn_next past s later t step.turn)
    (λ serial j own place which small waits. let q = step.so_far j own in waited_here start (hist past s.world) q.0 q.1 place which small serial waits) p

first_waited : (wild : ℕ → Bool) (line : ℕ) (run : Run) → AllWaited run.start.disks wild (moments_behind line run []) (beginning run).world
first_waited wild line run = (tt, (tt, tt))

asked_in_ground : (start : List Disk) (ms : List Moment) (w : WorldState) → Ground start ms w → AreAskedAt start ms
asked_in_ground start ms w g = subst (AreAskedAt start) g.is g.site.asked

-- ---- a packet that is refused
refusal : (cause : Cause) → is_refused cause ≡ true → is_refusal cause ≡ true
refusal causes.Grammar e = refl
refusal causes.Source e = refl
refusal causes.Login e = refl
refusal causes.Slot e = refl
refusal causes.Generation e = absurd (false≢true e)
refusal causes.Label e = absurd (false≢true e)
refusal causes.Again e = absurd (false≢true e)

no_generation : (cause : Cause) → is_refused cause ≡ true → may_ignore_by by_generation cause ≡ true → ⊥
no_generation causes.Grammar r m = false≢true m
no_generation causes.Source r m = false≢true m
no_generation causes.Login r m = false≢true m
no_generation causes.Slot r m = false≢true m
no_generation causes.Generation r m = false≢true r
no_generation causes.Label r m = false≢true r
no_generation causes.Again r m = false≢true r

refused_current : (c n r a e : Bool) (cause : Cause) → is_refused cause ≡ true → may_ignore_by (row_of (record { is_current = c; is_for_node = n; is_response = r; is_awaited = a; is_repeated = e })) cause ≡ true → c ≡ true
refused_current true n r a e cause f m = refl
refused_current false n r a e cause f m = absurd (no_generation cause f m)

-- what is known of a history
record Known (start : List Disk) (all : List Moment) (count : ℕ) : Type 0 where
  wire : OfWire all
  fair : (terms all).injects 0 ≡ false
  bars : (i : ℕ) → i < count → AllBarred all i
  writes : (i : ℕ) → i < count → AllWrites all i
  ours : (serial : ℕ) (q : Sending) → (terms all).sent serial ≡ Some q → q.to ≤ count
  waited : EachMoment (AtIgnored (AreWaited (injectors all) start)) all

module _ (start : List Disk) (all : List Moment) (count : ℕ) (k : Known start all count) (tame : IsTame all) where
  unrefused_at : (front past : List Moment) (serial : ℕ) (cause : Cause) → front ++ said (notes.Ignored serial cause) ∷ past ≡ all → UnrefusedAt start (said (notes.Ignored serial cause)) past
  unrefused_at front past serial cause is = λ r place which small waits.
      let m = said (notes.Ignored serial cause) in
      let x = each_there (AtIgnored (AreWaited (injectors all) start)) front m past (subst (EachMoment (AtIgnored (AreWaited (injectors all) start))) (sym is) k.waited) 0 (tame 0) place which small waits in
      let joined : (front ++ m ∷ []) ++ past ≡ all = moment_joined front m past ∙ is in
      let counts : SerialsCount ((front ++ m ∷ []) ++ past) = subst SerialsCount (sym joined) k.wire.laws.serials in
      let kept = remains (front ++ m ∷ []) past counts in
      let sent_all : (terms all).sent serial ≡ Some x.packet =
      ap (λ ms. (terms ms).sent serial) (sym joined) ∙ (kept.sent serial (sent_below past serial x.packet (serials_from (front ++ m ∷ []) past counts) x.sent) ∙ x.sent) in
      let most = k.ours serial x.packet sent_all in
      let to = x.to in
      let inside : x.host < count = omega (arith, most, to) in
      let unforged = honest x.packet serial sent_all x.from x.packet.injected refl in
      let a = asking x.packet x.access x.asks in
      let f = facts_of (terms past) x.packet in
      let now : (x.packet.generation == (terms past).generation x.packet.to) ≡ true =
      refused_current f.is_current f.is_for_node f.is_response f.is_awaited f.is_repeated cause r ((judged_from front (m ∷ past) (subst AreJudged (sym is) k.wire.laws.judged)).0 x.packet x.sent) in
      let current : x.packet.generation ≡ (terms past).generation x.packet.to = grind (arith, nat_tests) in
      let level = sym x.current ∙ (current ∙ ap (terms past).generation x.to) in
      let bar = barred_there front past x.host serial cause (subst (λ ms. AllBarred ms x.host) (sym is) (k.bars x.host inside)) r x.packet x.sent x.to x.from unforged a.spells a.read x.access a.asks in
      let w = (refuses_there front past x.host serial cause (subst (λ ms. AllWrites ms x.host) (sym is) (k.writes x.host inside))).1 (refusal cause r) x.packet x.sent x.to x.from unforged a.spells a.read x.access a.asks in
      not_barred past x.host x.access (x.accepted level w.write w.high) bar
    where
      honest : (q : Sending) (serial : ℕ) → (terms all).sent serial ≡ Some q → q.from ≡ 0 → (b : Bool) → q.injected ≡ b → b ≡ false
      honest q serial e from true f = absurd (true≢false (sym ((k.wire.facts.honest serial q e).bold f) ∙ (ap (terms all).injects from ∙ k.fair)))
      honest q serial e from false f = refl

  unrefused_from : (front ms : List Moment) → front ++ ms ≡ all → EachMoment (UnrefusedAt start) ms
  unrefused_from front [] is = tt
  unrefused_from front (asked line event ∷ past) is = (tt, unrefused_from (front ++ asked line event ∷ []) past (moment_joined front (asked line event) past ∙ is))
  unrefused_from front (said (notes.Ignored serial cause) ∷ past) is =
      (unrefused_at front past serial cause is, unrefused_from (front ++ said (notes.Ignored serial cause) ∷ []) past (moment_joined front (said (notes.Ignored serial cause)) past ∙ is))
  unrefused_from front (said note ∷ past) is = (tt, unrefused_from (front ++ said note ∷ []) past (moment_joined front (said note) past ∙ is))

-- a packet goes to a node that there is
ours_at : (start : List Disk) (now : List Moment) (w : WorldState) → IsHolding start now w → (serial : ℕ) (q : Sending) → (terms now).sent serial ≡ Some q → q.to ≤ length w.initiators
ours_at start now w h serial q e =
    let stands = h.holds.sound.stands in
    (stands.is.knows.ours serial q (ap (λ (t : Terms). t.sent serial) (past_terms w stands) ∙ (ap (λ ms. (terms ms).sent serial) h.is ∙ e))).to

-- ---- each place of a run
module _ (While : List Moment → Type 0) (back : (later past : List Moment) → While (later ++ past) → While past) (accepts : AlwaysWhere While AreAccepted) where
  abbrev Plain : List Moment → Type 0
  Plain past = IsTame past × While past

  plain_before : (later past : List Moment) → Plain (later ++ past) → Plain past
  plain_before later past p = (tame_before later past p.0, back later past p.1)

  under : UnderFrom (λ start. Where Plain (IsPlace start))
  under = record {
    after_lines = λ line run r has small size so_far p.
        (asked_in_ground run.start.disks _ _ ((kit_everywhere short_law open_lists_law).after_lines line run r has small size so_far).ground, accepts.after_lines line run r has small size p.1 p.0);
    between = λ line run r has small size next most told m so_far p.
        (asked_in_ground run.start.disks _ _ ((kit_everywhere short_law open_lists_law).between line run r has small size next most told m so_far).ground, accepts.between line run r has small size next most told m p.1 p.0);
  }

  pub accepted_where : AlwaysWhere While NoneRefused
  accepted_where = record {
    after_lines = λ line run r has small size so tame.
        let now = history_of line run in
        let w = (after (beginning run) run.entries).world in
        let so_far = closing.before open_lists_law line run r has small size (inl tame) in
        let inside : (i : ℕ) → i < length w.initiators → i < run.initiators = (λ i b. subst (λ n. i < n) (count_after run run.entries) b) in
        unrefused_from run.start.disks now (length w.initiators)
        (record {
          wire = of_wire line run r;
          fair = (told_everywhere.after_lines line run r has small size so_far).fair;
          bars = λ i b. bars_of line run r i (inside i b);
          writes = λ i b. slotted.writes_of line run r i (inside i b);
          ours = ours_at run.start.disks now w (holding_everywhere.after_lines line run r has small size);
          waited = from_after Plain plain_before Nothing IsPlace AllWaited no_ground under waited_walk first_waited line run r has small size so_far (tame, so);
        })
        tame [] now refl;
    between = λ line run r has small size next most told m so tame.
        let event = more_deliveries most in
        let w = (after_all told (begun (after (beginning run) run.entries))).world in
        let now = map said w.fresh ++ asked next event ∷ history_of line run in
        let d = delivering told most in
        let so_far = closing.between open_lists_law line run r has small size next event (more_than_one most) told m (inl tame) in
        let inside : (i : ℕ) → i < length w.initiators → i < run.initiators = (λ i b. subst (λ n. i < n) (count_between told (after (beginning run) run.entries) ∙ count_after run run.entries) b) in
        unrefused_from run.start.disks now (length w.initiators)
        (record {
          wire = of_wire_there line run r next event told d m;
          fair = (told_everywhere.between line run r has small size next most told m so_far).fair;
          bars = λ i b. bars_between line run r next event told d m i (inside i b);
          writes = λ i b. slotted.writes_between line run r next event told d m i (inside i b);
          ours = ours_at run.start.disks now w (holding_everywhere.between line run r has small size next most told m);
          waited = from_between Plain plain_before Nothing IsPlace AllWaited no_ground under waited_walk first_waited line run r has small size next event (more_than_one most) told m so_far (tame, so);
        })
        tame [] now refl;
  }
