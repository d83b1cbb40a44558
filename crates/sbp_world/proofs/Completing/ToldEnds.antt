-- No operation is under way at rest whose status block was taken: the response to the block was complete, so the block was got at an open FIFO, while that operation was under way, and ended it.
use Rattle.sbp_world.proofs.Words.Std.{arith, ◌≡◌, ◌∙◌, refl, sym, ap, subst, inl, ◌<◌, ◌≤◌, ◌++◌, not, ℕ, zero, suc, Bool, true, false, List, [], ◌∷◌, map, Some, same_Some, true≢false}
use Rattle.sbp_world.proofs.Words.Wire.{Access, Moment, Sending, SerialsCount, asked, reading, said, terms}
use Rattle.sbp_world.proofs.Words.Target.{Disk, Status, number_of, status_block}
use Rattle.sbp_world.proofs.Words.Initiator.{Done, start_of}
use Rattle.sbp_world.proofs.Words.Laws.{ClosesOne, EachMoment, OnceAt, OnceLaw, Underway, WasServed, access_at, access_in, answer_in, host_at, injectors, is_between, is_done, is_management, is_wild, is_write_in, packet_at, packet_in, receiver_in, sender_in, target_at}
use Rattle.sbp_world.proofs.Words.World.{AccessOf, AreAsked, AtGot, IsItsFifo, OperationsLast, WasAsked, WasUnderway, access_for, after, after_all, beginning, begun, history_of, more_deliveries, write_access}
use Rattle.bus_memory.specs.declared.window.Window.TheVariants as windows
use Rattle.bus_transactions.proofs.Facts.{Facts}
use Rattle.mgmt_agent.specs.declared.operation.Phase.{Phase}
use Rattle.mgmt_agent.specs.declared.operation.Phase.TheVariants as phases
use Rattle.orb_layout.specs.declared.status.StatusKind.TheVariants as kinds
use Rattle.sbp_journal.specs.declared.cause.Cause.TheVariants as causes
use Rattle.sbp_journal.specs.declared.note.Note.TheVariants as notes
use Rattle.sbp_world.specs.Completing.EndsLevels.{LevelAt}
use Rattle.sbp_world.specs.Completing.EndsTaken.{WasDone, WasTold}
use Rattle.sbp_world.specs.Completing.ToldEnds.{ToldEndLaw}
use Rattle.sbp_world.specs.Hosts.Remaining.{Remains}
use Rattle.sbp_world.proofs.Common.{all_three, delivers, moment_joined, moments_joined, none_is}
use Rattle.sbp_world.proofs.Completing.EndsAimed.{aimed_law}
use Rattle.sbp_world.proofs.Completing.EndsLevels.{level_law}
use Rattle.sbp_world.proofs.Completing.LabelsPlaces.{holding_everywhere}
use Rattle.sbp_world.proofs.Completing.ShutFifos.{GoesTo, HeardAt, IsBlock, MayWrite, fifos}
use Rattle.sbp_world.proofs.Completing.ShutOrbs.{fifos_everywhere, heard_all}
use Rattle.sbp_world.proofs.Lists.ResponsePackets.{some_ask}
use Rattle.sbp_world.proofs.Completing.ToldBlocks.{AllOver, WasOver, overs_law}
use Rattle.sbp_world.proofs.Completing.ToldGoes.{GoesSays, all_go_everywhere}
use Rattle.sbp_world.proofs.Completing.ToldHeard.{EndsThere, Takes}
use Rattle.sbp_world.proofs.Completing.ToldPackets.{IsBlockWrite, IsPacketTo, block_of, may_at, packet_to}
use Rattle.sbp_world.proofs.Counting.StartCounted.{counted_after, counted_between}
use Rattle.sbp_world.proofs.Hosts.Between.{of_wire, of_wire_there}
use Rattle.sbp_world.proofs.Hosts.Remaining.{remains}
use Rattle.sbp_world.proofs.Hosts.Runs.{count_after, count_between}
use Rattle.sbp_world.proofs.Hosts.SentMoments.{sent_below, serials_from}
use Rattle.sbp_world.proofs.Lists.Clauses.{open_lists_law}
use Rattle.sbp_world.proofs.Lists.ContentAsked.{contents_law}
use Rattle.sbp_world.proofs.Lists.Fair.{Told, told_everywhere}
use Rattle.sbp_world.proofs.Lists.ListsProved.{closing}
use Rattle.sbp_world.proofs.Lists.LiveBlocks.{reads_back}
use Rattle.sbp_world.proofs.Lists.OrbsRead.{access_there, in_phase, sender_there}
use Rattle.sbp_world.proofs.Lists.ServedGots.{WasGotThen, served_got}
use Rattle.sbp_world.proofs.Lists.StatusKnown.{each_from}
use Rattle.sbp_world.proofs.Lists.StatusLogins.{each_there}
use Rattle.sbp_world.proofs.Lists.UnderwayRuns.{delivering, underway_law}
use Rattle.sbp_world.proofs.Wire.Entries.{once_behind}

-- ---- at a place
record Known (start : List Disk) (now : List Moment) (i : ℕ) : Type 0 where
  told : Told now
  facts : Facts (terms now)
  calm : injectors now i ≡ false
  once : OnceLaw (injectors now) now
  are : AreAsked start now
  heard : EachMoment (HeardAt IsItsFifo start) now
  goes : EachMoment (AtGot (GoesSays start)) now
  over : AllOver now now i
  lasts : OperationsLast now i

module _ (start : List Disk) (now : List Moment) (i : ℕ) (k : Known start now i) (u : Underway) (is : (host_at now i).operation ≡ Some u) (manages : is_management u.operation ≡ true) (generation : ℕ) (q : Sending) (to_target : q.to ≡ 0) (latest : q.generation ≡ generation) (level : EachMoment (LevelAt u.first q) now) (told : WasTold start now i u.first u.place generation) where
  abbrev r : ℕ
  r = told.serial

  abbrev d : WasDone start now i u.first r generation
  d = told.done

  abbrev before : List Moment
  before = d.before

  abbrev got : Moment
  got = said (notes.Got d.got)

  abbrev wild : ℕ → Bool
  wild = injectors now

  -- ---- the block, as it was sent
  was : WasAsked start now r told.op
  was = k.are.each r told.op told.is_for

  content : AccessOf phases.Status told.op was.access
  content = in_phase told.op.phase phases.Status told.op was.access told.status was.content

  abbrev status : Status
  status = content.0

  abbrev offset : ℕ
  offset = content.1.0

  abbrev payload : List ℕ
  payload = status_block (start_of (windows.Management u.place)) status

  access_is : was.access ≡ write_access offset payload
  access_is = content.1.1 ∙ ap (λ n. write_access offset (status_block n status)) told.orb

  level_there : (terms before).generation 0 ≡ generation
  level_there = ap (terms before).generation (sym to_target) ∙ ((each_there (LevelAt u.first q) d.later got before (subst (EachMoment (LevelAt u.first q)) (sym d.is) level)) d.taken).here ∙ latest

  to_there : receiver_in ((terms before).sent r) ≡ Some (suc i)
  to_there =
      (each_there (AtGot (GoesSays start)) d.later got before (subst (EachMoment (AtGot (GoesSays start))) (sym d.is) k.goes)).1 r i d.op d.manages d.operation
      (d.source ∙ ap (λ g. (terms before).ids g (suc i)) (sym level_there))

  found : IsPacketTo ((terms before).sent r) (suc i)
  found = packet_to ((terms before).sent r) (suc i) to_there

  abbrev p : Sending
  p = found.packet

  joined : (d.later ++ got ∷ []) ++ before ≡ now
  joined = moment_joined d.later got before ∙ d.is

  counts_joined : SerialsCount ((d.later ++ got ∷ []) ++ before)
  counts_joined = subst SerialsCount (sym joined) k.told.counts

  remain : Remains before now
  remain = subst (Remains before) joined (remains (d.later ++ got ∷ []) before counts_joined)

  sent_now : (terms now).sent r ≡ Some p
  sent_now = remain.sent r (sent_below before r p (serials_from (d.later ++ got ∷ []) before counts_joined) found.is) ∙ found.is

  from_target : p.from ≡ 0
  from_target = same_Some p.from 0 (sym (ap sender_in sent_now) ∙ sender_there start now k.told.counts r told.op was)

  honest : p.injected ≡ false
  honest = by p.injected refl
    where
      by : (b : Bool) → p.injected ≡ b → b ≡ false
      by true e = absurd (true≢false (sym ((k.facts.honest r p sent_now).bold e) ∙ (ap (terms now).injects from_target ∙ k.told.fair)))
      by false e = refl

  spelled : access_in (packet_in (Some p)) ≡ Some (write_access offset payload)
  spelled = ap (λ so. access_in (packet_in so)) (sym sent_now) ∙ (access_there start now k.told.counts r told.op was ∙ ap (λ a. Some a) access_is)

  block : IsBlockWrite (reading p.bytes) offset payload
  block = block_of (reading p.bytes) offset payload spelled

  -- ---- it goes to a FIFO
  its_fifo : IsItsFifo offset
  its_fifo =
      let before_it = each_from (HeardAt IsItsFifo start) (was.later ++ said (notes.Sent r was.generation zero was.to was.bytes) ∷ []) was.before (subst (EachMoment (HeardAt IsItsFifo start)) (sym (moment_joined was.later (said (notes.Sent r was.generation zero was.to was.bytes)) was.before ∙ was.is)) k.heard) in
      let t = target_at start was.before in
      let all : GoesTo IsItsFifo told.op.phase t.decided t.manager_asks = fifos IsItsFifo start was.before before_it told.op was.operation in
      let goes : IsBlock t.decided t.manager_asks × MayWrite IsItsFifo t.manager_asks = (subst (λ (x : Phase). GoesTo IsItsFifo x t.decided t.manager_asks) told.status all) (some_ask t.manager_asks t.manager.outgoing was.asked.body was.asked.asks) in
      let may = may_at IsItsFifo t.manager_asks t.manager.outgoing was.asked.body was.asked.asks goes.1 in
      let same : access_for was.asked.body ≡ was.access = same_Some _ was.access (sym was.asked.access ∙ was.spelled) in
      subst IsItsFifo (ap (λ (x : Access). x.offset) (same ∙ access_is)) may

  -- ---- it was served
  between : is_between wild ((terms before).sent r) ≡ true
  between =
      ap (is_between wild) found.is
      ∙ all_three (not p.injected) (not (is_wild wild p.from)) (not (is_wild wild p.to)) (ap not honest) (ap (λ n. not (is_wild wild n)) from_target) (ap (λ n. not (is_wild wild n)) found.to_is ∙ ap not k.calm)

  writes : is_write_in (access_at (terms before) r) ≡ true
  writes = ap (λ so. is_write_in (access_in (packet_in so))) found.is ∙ ap is_write_in spelled

  served : WasServed (terms before) r
  served =
      let at = (each_there (OnceAt wild) d.later got before (subst (OnceLaw wild) (sym d.is) k.once)).1 in
      let own = subst (λ o. ClosesOne wild (terms before) o (answer_in (packet_at (terms before) d.got))) d.closes at in
      subst (λ a. ClosesOne wild (terms before) (Some r) a) d.done own (all_three (is_between wild ((terms before).sent r)) (is_write_in (access_at (terms before) r)) (is_done Done) between writes refl)

  -- ---- as it was taken it ended the operation
  small : u.place < 2
  small = (k.lasts.each [] now refl u is).small

  module _ (later earlier : List Moment) (m : Moment) (takes : Takes m r) (at : later ++ m ∷ earlier ≡ before) (s : Sending) (there : (terms earlier).sent r ≡ Some s) where
    abbrev front : List Moment
    front = d.later ++ got ∷ later

    whole : front ++ m ∷ earlier ≡ now
    whole = moments_joined d.later (got ∷ later) (m ∷ earlier) ∙ (ap (λ ms. d.later ++ got ∷ ms) at ∙ d.is)

    all : (front ++ m ∷ []) ++ earlier ≡ now
    all = moment_joined front m earlier ∙ whole

    counts_all : SerialsCount ((front ++ m ∷ []) ++ earlier)
    counts_all = subst SerialsCount (sym all) k.told.counts

    low : r ≤ (terms earlier).count
    low = sent_below earlier r s (serials_from (front ++ m ∷ []) earlier counts_all) there

    same : s ≡ p
    same = same_Some s p (sym there ∙ (sym ((subst (Remains earlier) all (remains (front ++ m ∷ []) earlier counts_all)).sent r low) ∙ sent_now))

    under : WasUnderway earlier now i u
    under = k.lasts.was (front ++ m ∷ []) earlier all u is (let l = told.behind in let below = low in omega (arith, l, below))

    ends : EndsThere earlier i r
    ends = record {
      packet = s;
      sent = there;
      to_is = ap (λ (x : Sending). x.to) same ∙ found.to_is;
      from_is = ap (λ (x : Sending). x.from) same ∙ from_target;
      header = block.header;
      offset = offset;
      payload = payload;
      spelled = ap (λ (x : Sending). reading x.bytes) same ∙ block.is;
      fifo = its_fifo;
      size = refl;
      block = record { src = 0; kind = kinds.Management (number_of status); orb = start_of (windows.Management u.place) };
      read = reads_back u.place small status;
      status = number_of status;
      kind = refl;
      underway = under.was;
      under_way = under.is;
      manages = ap is_management (sym under.same.operation) ∙ manages;
      names = ap (λ n. start_of (windows.Management n)) under.same.place;
    }

    over : WasOver now earlier i
    over = k.over r m front earlier whole takes ends

    counts_over : SerialsCount (over.mid ++ earlier)
    counts_over = serials_from over.later (over.mid ++ earlier) (subst SerialsCount (sym over.is) k.told.counts)

    still : WasUnderway (over.mid ++ earlier) now i u
    still =
        let grown = (remains over.mid earlier counts_over).count in
        let l = told.behind in
        let below = low in
        k.lasts.was over.later (over.mid ++ earlier) over.is u is (omega (arith, l, below, grown))

    never : ⊥
    never = none_is still.was (sym over.none ∙ still.is)

  none_told : ⊥
  none_told =
      let w = served.served in
      let g : WasGotThen before r = served_got r before (λ later earlier at s there. never later earlier (said (notes.Ignored r causes.Slot)) refl at s there) (omega (arith, w)) in
      never g.later g.before (said (notes.Got r)) refl g.is g.packet g.sent

-- ---- each run
pub told_end_law : ToldEndLaw
told_end_law = record {
  after_lines = λ line run r has small size tame lossless calm well i b u is manages told.
      let w = (after (beginning run) run.entries).world in
      let disks = run.start.disks in
      let now = history_of line run in
      let inside : i < run.initiators = subst (λ n. i < n) (count_after run run.entries) b in
      let count = counted_after line run r size in
      let so_far = closing.before open_lists_law line run r has small size (inl tame) in
      let a = aimed_law.after_lines line run r has small size (inl tame) i b (tame i) u is manages in
      let latest : a.packet.generation ≡ (terms now).bus = a.current ∙ lossless.seen (suc i) (omega (arith, b, count)) in
      let level = level_law.after_lines line run r has small size u.first a.packet a.sent latest in
      let h = holding_everywhere.after_lines line run r has small size in
      let fair = told_everywhere.after_lines line run r has small size so_far in
      none_told disks now i
      (record {
        told = fair;
        facts = (of_wire line run r).facts;
        calm = tame i;
        once = once_behind w h.holds.sound.stands now h.is;
        are = contents_law.after_lines line run r has small size;
        heard = heard_all disks now fair.answers (fifos_everywhere.after_lines line run r has small size so_far tame);
        goes = all_go_everywhere.after_lines line run r has small size so_far;
        over = overs_law.after_lines line run r has small size i b;
        lasts = underway_law.after_lines line run r i inside;
      })
      u is manages (terms now).bus a.packet a.for_place.to_is latest level told;
  between = λ line run r has small size next most told_more m tame lossless calm well i b u is manages told.
      let here = after (beginning run) run.entries in
      let w = (after_all told_more (begun here)).world in
      let disks = run.start.disks in
      let now = map said w.fresh ++ asked next (more_deliveries most) ∷ history_of line run in
      let inside : i < run.initiators = subst (λ n. i < n) (count_between told_more here ∙ count_after run run.entries) b in
      let count = counted_between line run r size next (more_deliveries most) told_more m in
      let so_far = closing.between open_lists_law line run r has small size next (more_deliveries most) (delivers most) told_more m (inl tame) in
      let a = aimed_law.between line run r has small size next most told_more m (inl tame) i b (tame i) u is manages in
      let latest : a.packet.generation ≡ (terms now).bus = a.current ∙ lossless.seen (suc i) (omega (arith, b, count)) in
      let level = level_law.between line run r has small size next most told_more m u.first a.packet a.sent latest in
      let h = holding_everywhere.between line run r has small size next most told_more m in
      let fair = told_everywhere.between line run r has small size next most told_more m so_far in
      none_told disks now i
      (record {
        told = fair;
        facts = (of_wire_there line run r next (more_deliveries most) told_more (delivering told_more most) m).facts;
        calm = tame i;
        once = once_behind w h.holds.sound.stands now h.is;
        are = contents_law.between line run r has small size next (more_deliveries most) (delivers most) told_more m;
        heard = heard_all disks now fair.answers (fifos_everywhere.between line run r has small size next most told_more m so_far tame);
        goes = all_go_everywhere.between line run r has small size next most told_more m so_far;
        over = overs_law.between line run r has small size next most told_more m i b;
        lasts = underway_law.between line run r next most told_more m i inside;
      })
      u is manages (terms now).bus a.packet a.for_place.to_is latest level told;
}
