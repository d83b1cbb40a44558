-- The response to the main transaction of an agent answers complete what it asked for, at each place of every run in which no initiator injected packets, if none refused what an agent waits for.
use Rattle.sbp_world.proofs.Words.Std.{◌≡◌, ◌∙◌, refl, sym, ap, subst, inl, ◌<◌, ◌==◌, arith, ℕ, suc, Bool, true, false, cond, List, ◌∷◌, ◌++◌, length, map, Some, Ok, Err, nat_tests, same_Some, true≢false}
use Rattle.sbp_world.proofs.Words.Wire.{Access, Moment, Packet, Sending, Sent, as_sending, asked, judging_step, said, terms}
use Rattle.sbp_world.proofs.Words.Target.{Disk, Main, answer_in}
use Rattle.sbp_world.proofs.Words.Initiator.{Answer, FailCause, payload_of}
use Rattle.sbp_world.proofs.Words.Laws.{EachMoment, access_at, access_in, agent_at, injectors, over, packet_at, packet_in, receiver_in, sender_in, target_at}
use Rattle.sbp_world.proofs.Words.World.{AskedAsGot, IsTame, NoneInjected, WorldState, after, after_all, beginning, begun, history_of, initiator_in, more_deliveries}
use Rattle.bus_transactions.proofs.FitJudged.{spelled}
use Rattle.bus_transactions.proofs.PacketParts.{part_read}
use Rattle.orb_layout.specs.declared.ask.FailCause.TheVariants as causes
use Rattle.sbp_laws.specs.Packets as laws
use Rattle.sbp_target.proofs.Histories.Found.{IsFound, IsRead, found as found_as}
use Rattle.sbp_world.specs.Completing.Answers.{BringsAll, CompleteAsGot}
use Rattle.sbp_world.specs.Completing.Deaths.{IsAnswered, IsWhole, MainAnswered, MainAnsweredThere}
use Rattle.sbp_world.specs.Completing.Labels.{AlwaysWhere}
use Rattle.sbp_world.specs.Completing.Writes.{NoneRefused, UnrefusedAt}
use Rattle.sbp_world.specs.Counting.Brings.{IsMainReply}
use Rattle.sbp_world.proofs.Agents.Management.Holding.{Holding, was_sent}
use Rattle.sbp_world.proofs.Agents.Management.Still.{hist}
use Rattle.sbp_world.proofs.Completing.AnswersGots.{IsPacket, packet_from, IsSentFor, sent_for}
use Rattle.sbp_world.proofs.Completing.AnswersRuns.{complete_as_got_law}
use Rattle.sbp_world.proofs.Completing.LabelsPlaces.{IsHolding, holding_everywhere}
use Rattle.sbp_world.proofs.Completing.WritesAnswers.{answered_is}
use Rattle.sbp_world.proofs.Completing.WritesFirst.{Heard}
use Rattle.sbp_world.proofs.Completing.WritesJudged.{AllJudged, judged_there}
use Rattle.sbp_world.proofs.Completing.WritesReads.{brings}
use Rattle.sbp_world.proofs.Completing.WritesServed.{IsGotWrite, writes_between, writes_of}
use Rattle.sbp_world.proofs.Hosts.Between.{OfWire, of_wire, of_wire_there}
use Rattle.sbp_world.proofs.Hosts.Carrying.{Stood, carries_law, stood, stood_between}
use Rattle.sbp_world.proofs.Hosts.Deliveries.{GotsIn}
use Rattle.sbp_world.proofs.Hosts.Runs.{count_after, count_between}
use Rattle.sbp_world.proofs.Lists.Clauses.{open_lists_law}
use Rattle.sbp_world.proofs.Lists.Courses.{more_than_one}
use Rattle.sbp_world.proofs.Lists.Fair.{Told as AllTold, told_everywhere}
use Rattle.sbp_world.proofs.Lists.Heard as heard
use Rattle.sbp_world.proofs.Lists.ListsProved.{closing}
use Rattle.sbp_world.proofs.Lists.MainSlots as main_slots
use Rattle.sbp_world.proofs.Lists.MainSlotsRuns.{kit_everywhere}
use Rattle.sbp_world.proofs.Lists.ShortLines.{short_law}
use Rattle.sbp_world.proofs.Lists.Sites as sites
use Rattle.sbp_world.proofs.Lists.Sites.{Site}
use Rattle.sbp_world.proofs.Lists.StillTurns.{site_at}
use Rattle.sbp_world.proofs.Lists.UnderwayRuns.{delivering}

-- ---- what is known of a place
record Known (start : List Disk) (all : List Moment) (w : WorldState) : Type 0 where
  heard_so : Heard start all
  judged : AllJudged all
  told : AllTold all
  stood_at : (i : ℕ) → i < length w.initiators → Stood all i
  none : (i : ℕ) → i < length w.initiators → NoneInjected all i

-- a read that is brought is whole
not_err : (bytes : List ℕ) (cause : FailCause) → Ok bytes ≡ Err cause → ⊥
not_err bytes cause e = cc

whole : (access : Access) (answer : Answer) → BringsAll access answer → IsWhole answer access.count
whole access answer b cause e =
    let size = b.size in
    let same : (length b.bytes == access.count) ≡ true = grind (arith, nat_tests, size) in
    not_err b.bytes cause (ap (λ b'. cond b' (Ok b.bytes) (Err causes.Grammar)) (sym same) ∙ (ap (λ a. payload_of a access.count) (sym b.is) ∙ e))

-- ---- a place
module _ (units ready : ℕ) (has : 0 < units) (start : List Disk) {past : List Moment} {lines : ℕ} (w : WorldState) (h : Holding units ready start past lines w) (s : Site start past w) (tame : IsTame (hist past w)) (k : Known start (hist past w) w) where
  abbrev all : List Moment
  all = hist past w

  module _ (sent : Sent) (packet : Packet) (place : ℕ) (r : IsMainReply w sent packet place) (serial : ℕ) (access : Access) (main : (agent_at (over (target_at start all)) place).main ≡ Some serial) (asks : access_at (terms all) serial ≡ Some access) where
    abbrev reply : ℕ
    reply = r.comes.serial

    abbrev i : ℕ
    i = initiator_in w place

    waits : sites.Waiting units ready has start w h s place r.small Main serial
    waits = sites.waiting units ready has start w h s place r.small Main serial main

    for_it : IsSentFor (terms all) serial
    for_it = sent_for start all place r.small Main serial s.asked main

    access_is : for_it.access ≡ access
    access_is = same_Some for_it.access access (sym for_it.is ∙ asks)

    request : IsPacket ((terms all).sent serial)
    request = packet_from ((terms all).sent serial) 0 for_it.from

    abbrev q : Sending
    q = request.packet

    from_it : q.from ≡ 0
    from_it = same_Some q.from 0 (ap sender_in (sym request.is) ∙ for_it.from)

    to_it : q.to ≡ suc i
    to_it = same_Some q.to (suc i) (ap receiver_in (sym request.is) ∙ waits.to)

    asks_q : access_in (packet_in (Some q)) ≡ Some access
    asks_q = ap (λ o. access_in (packet_in o)) (sym request.is) ∙ asks

    unforged : (b : Bool) → q.injected ≡ b → b ≡ false
    unforged true e = absurd (true≢false (sym ((k.heard_so.facts.honest serial q request.is).bold e) ∙ (ap (terms all).injects from_it ∙ k.told.fair)))
    unforged false e = refl

    -- the response
    same_serial : heard.asked_by_it units ready has start w h s.agents.requests s.agents.are s.agents.known s.asked reply sent r.comes.found r.comes.to packet r.label place r.found ≡ serial
    same_serial =
        same_Some _ serial (sym (heard.waits_so units ready has start w h s.agents.requests s.agents.are s.agents.known s.asked reply sent r.comes.found r.comes.to packet r.label place r.found Main r.main) ∙ main)

    from_host : sent.from ≡ suc i
    from_host =
        same_Some sent.from (suc i)
        (sym (heard.request_to units ready has start w h s.agents.requests s.agents.are s.agents.known s.asked reply sent r.comes.found r.comes.to packet r.label place r.found) ∙ (ap (λ n. receiver_in ((terms all).sent n)) same_serial ∙ waits.to))

    calm : (terms all).injects sent.from ≡ false
    calm = ap (terms all).injects from_host ∙ tame i

    answers : (terms all).answers reply ≡ Some serial
    answers = heard.answers units ready has start w h s.agents.requests s.agents.are s.agents.known s.asked reply sent r.comes.found r.comes.to packet r.label place r.found calm ∙ ap (λ n. Some n) same_serial

    tells : laws.answer_in (packet_at (terms all) reply) ≡ answer_in packet
    tells = heard.tells units ready has start w h s.agents.requests s.agents.are s.agents.known s.asked reply sent r.comes.found r.comes.to packet r.label place r.found calm

    read_is : IsRead sent.bytes packet true
    read_is = subst (λ x. IsFound x w.target.layer (judging_step w.target.layer sent.generation sent.bytes).1 sent.bytes) r.found (found_as w.target.layer sent.generation sent.bytes)

    there : (terms all).sent reply ≡ Some (as_sending sent)
    there = was_sent w h.sound.stands reply sent r.comes.found

    answered_here : IsAnswered access (answer_in packet)
    answered_here = record {
      reads = λ e.
          subst (λ a. IsWhole a access.count) tells
          (whole access (laws.answer_in (packet_at (terms all) reply))
          (brings start all k.heard_so place serial i r.small main (tame i) q request.is from_it to_it access asks_q e (subst (λ (x : Access). x.is_block ≡ true) access_is for_it.block) (subst (λ (x : Access). x.is_lock ≡ false) access_is for_it.lock) (unforged q.injected refl) (k.stood_at i waits.inside) (k.none i waits.inside) reply answers));
      writes = λ e.
          answered_is start all k.heard_so k.judged place serial i r.small main (tame i) k.told.fair q request.is from_it to_it access asks_q e (unforged q.injected refl) (k.none i waits.inside) reply answers packet
          (as_sending sent) there (part_read sent.bytes packet read_is.read) (spelled sent.bytes packet read_is.read);
    }

place_answered : (start : List Disk) (now : List Moment) (w : WorldState) → IsHolding start now w → main_slots.Kit start now w → IsTame now → (AllJudged now → Known start now w) → MainAnswered start now w
place_answered start now w h kit tame known =
    let back = sym h.is in
    let judged : AllJudged now = subst AllJudged h.is (judged_there h.past w h.holds.sound.stands) in
    λ sent packet place r serial access main closed asks.
    answered_here h.units h.ready h.has start w h.holds (site_at start h.past w (subst (λ ms. main_slots.Kit start ms w) back kit).ground) (subst IsTame back tame) (subst (λ ms. Known start ms w) back (known judged)) sent packet place r serial access
    (subst (λ ms. (agent_at (over (target_at start ms)) place).main ≡ Some serial) back main) (subst (λ ms. access_at (terms ms) serial ≡ Some access) back asks)

-- ---- each place of a run
heard_by : (start : List Disk) (now : List Moment) → OfWire now → EachMoment (AskedAsGot start) now → EachMoment (CompleteAsGot (injectors now) start) now → GotsIn (IsGotWrite now) now → EachMoment (UnrefusedAt start) now → Heard start now
heard_by start now wire asked_so complete gots unrefused = record {
  serials = wire.laws.serials;
  answered = wire.laws.answered;
  judged = wire.laws.judged;
  facts = wire.facts;
  asked_so = asked_so;
  complete = complete;
  gots = gots;
  unrefused = unrefused;
}

pub answered_there_where : (While : List Moment → Type 0) → AlwaysWhere While NoneRefused → AlwaysWhere While MainAnsweredThere
answered_there_where While unrefused = record {
  after_lines = λ line run r has small size so tame legal l few.
      let now = history_of line run in
      let w = (after (beginning run) run.entries).world in
      let so_far = closing.before open_lists_law line run r has small size (inl tame) in
      let kit = (kit_everywhere short_law open_lists_law).after_lines line run r has small size so_far in
      let inside : (i : ℕ) → i < length w.initiators → i < run.initiators = (λ i b. subst (λ n. i < n) (count_after run run.entries) b) in
      place_answered run.start.disks now w (holding_everywhere.after_lines line run r has small size) kit tame
      (λ judged. record {
        heard_so = heard_by run.start.disks now (of_wire line run r) kit.ground.asked_so (complete_as_got_law.after_lines line run r has small size (inl tame)) (writes_of line run r) (unrefused.after_lines line run r has small size so tame);
        judged = judged;
        told = told_everywhere.after_lines line run r has small size so_far;
        stood_at = λ i b. stood line run r i (inside i b);
        none = λ i b. carries_law.none_injected line run r i (inside i b);
      });
  between = λ line run r has small size next most told m so tame legal l few.
      let event = more_deliveries most in
      let w = (after_all told (begun (after (beginning run) run.entries))).world in
      let now = map said w.fresh ++ asked next event ∷ history_of line run in
      let d = delivering told most in
      let so_far = closing.between open_lists_law line run r has small size next event (more_than_one most) told m (inl tame) in
      let kit = (kit_everywhere short_law open_lists_law).between line run r has small size next most told m so_far in
      let inside : (i : ℕ) → i < length w.initiators → i < run.initiators = (λ i b. subst (λ n. i < n) (count_between told (after (beginning run) run.entries) ∙ count_after run run.entries) b) in
      place_answered run.start.disks now w (holding_everywhere.between line run r has small size next most told m) kit tame
      (λ judged. record {
        heard_so = heard_by run.start.disks now (of_wire_there line run r next event told d m) kit.ground.asked_so (complete_as_got_law.between line run r has small size next most told m (inl tame)) (writes_between line run r next event told d m)
            (unrefused.between line run r has small size next most told m so tame);
        judged = judged;
        told = told_everywhere.between line run r has small size next most told m so_far;
        stood_at = λ i b. stood_between line run r next event told d m i (inside i b);
        none = λ i b. carries_law.none_injected_between line run r next event told d m i (inside i b);
      });
}
