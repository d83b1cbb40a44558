-- The target gets a write of MANAGEMENT_AGENT that it takes as new, for no login is asked for there; and where an operation is under way it refuses the write in that turn: its response with conflict_error is all that it hands out.
use Rattle.sbp_world.proofs.Words.Std.{append_assoc, arith, nat_tests, ◌≡◌, ◌∙◌, inl, inr, ◌⊎◌, refl, sym, ap, subst, ◌<◌, ◌≤◌, ◌+◌, ◌++◌, ◌∷◌, ◌&&◌, ◌==◌, not, nat_lt, ℕ, Bool, true, false, List, [], length, Option, Some, None, Ok}
use Rattle.sbp_world.proofs.Words.Wire.{Access, Header, LabelParts, Moment, Outgoing, OutboxState, Packet, Sending, Sent, as_sending, found_sent, judged_note, judging_step, management_agent, of_request, reading, said, start_at, start_serves, terms, write_block, writing}
use Rattle.sbp_world.proofs.Words.Target.{AgentRegister, Disk, NodeState, Operation, agents_start, demand_of, is_barred, is_barred_at, management_start, received, register_at}
use Rattle.sbp_world.proofs.Words.Initiator.{offset_at}
use Rattle.sbp_world.proofs.Words.Laws.{target_at}
use Rattle.sbp_world.proofs.Words.World.{Always, Run, Scene, WorldState, asked_for, beginning, handed_out, moments_behind, more_deliveries, posted, sent, sent_all, sent_to, told_all, whole_of}
use Rattle.bus_transactions.proofs.Facts.{request_asked}
use Rattle.mgmt_agent.specs.Machine.{Machine}
use Rattle.sbp_bus.specs.Generations.{node_of}
use Rattle.sbp_journal.specs.declared.cause.Judged.TheVariants as judgements
use Rattle.sbp_journal.specs.declared.note.Note.TheVariants as notes
use Rattle.sbp_laws.specs.Packets.{access_in_bytes}
use Rattle.target_base.specs.declared.address.Demand.TheVariants as demands
use Rattle.sbp_world.specs.Completing.Ends.{IsRefusal, WasRefused}
use Rattle.sbp_world.specs.Completing.EndsJudged.{AreGotNew, GotNewLaw, IsManagementWrite, WasGotNew}
use Rattle.sbp_world.proofs.Agents.Management.Still.{hist}
use Rattle.sbp_world.proofs.Common.{and_first, and_second, none_is}
use Rattle.sbp_world.proofs.Completing.BellsJudged.{judged_got}
use Rattle.sbp_world.proofs.Completing.EndsBusy.{busy_refuses}
use Rattle.sbp_world.proofs.Completing.EndsTurns as turns
use Rattle.sbp_world.proofs.Completing.PresentDemands.{SpellsBlock, block_by}
use Rattle.sbp_world.proofs.Completing.PresentFinds.{IsFound, is_found}
use Rattle.sbp_world.proofs.Completing.PresentGets.{GotFrom, TurnGets}
use Rattle.sbp_world.proofs.Counting.StartManaging.{at_management}
use Rattle.sbp_world.proofs.Lists.Clauses.{open_lists_law}
use Rattle.sbp_world.proofs.Lists.Courses.{EveryPlace, more_than_one}
use Rattle.sbp_world.proofs.Lists.ListsProved.{closing}
use Rattle.sbp_world.proofs.Lists.ManageAnswers.{serves_write}
use Rattle.sbp_world.proofs.Lists.ManageCalls.{demand_is}
use Rattle.sbp_world.proofs.Lists.ManageGot.{IsWriting, writing_in}
use Rattle.sbp_world.proofs.Lists.ManageStays.{zero_or}
use Rattle.sbp_world.proofs.Lists.ManageTerms.{got_request}
use Rattle.sbp_world.proofs.Lists.OpenedResets.{asks_for}
use Rattle.sbp_world.proofs.Lists.OpenedWorlds.{wired}
use Rattle.sbp_world.proofs.Lists.Walks.{Step, Walks, walked_from, walked_from_between}

-- ---- what MANAGEMENT_AGENT serves is a block, which no login bars
serves_block : (access : Access) → start_at access.offset ≡ management_agent → start_serves (start_at access.offset) access ≡ true → access.is_block ≡ true
serves_block access at serves =
    let e = sym (ap (λ s. start_serves s access) at) ∙ serves in
    and_second (not access.is_lock && access.is_write) access.is_block (and_first (not access.is_lock && access.is_write && access.is_block) (access.count == 8) e)

no_register : (offset : ℕ) → offset ≡ management_start → register_at offset ≡ None
unfolding register_at
no_register offset e = let low : nat_lt offset agents_start ≡ true = (let z : offset < agents_start = omega (arith, e) in grind (arith, nat_tests, z)) in rw low refl

unbarred : (node : NodeState) (header : Header) (offset : ℕ) (payload : List ℕ) → offset ≡ management_start → is_barred node (write_block header offset payload) ≡ false
unfolding is_barred
unbarred node header offset payload e = ap (λ (f : Option AgentRegister). is_barred_at f node.logins header.source) (no_register offset e)

-- ---- the history behind one packet that the target hands out
data Left (past : List Moment) (u : WorldState) (bytes : List ℕ) (v : WorldState) : Type 0 where
  stays : hist past v ≡ hist past u → Left past u bytes v
  leaves : (serial generation to : ℕ) → hist past v ≡ said (notes.Sent serial generation 0 to bytes) ∷ hist past u → Left past u bytes v

module _ (past : List Moment) (u : WorldState) (packet : Outgoing) where
  labelled : (serial to : ℕ) (label : Option LabelParts) (v : WorldState) → Left past u packet.bytes v → Left past u packet.bytes (asked_for serial to 0 packet.to label v)
  labelled serial to None v l = l
  labelled serial to (Some label) v (stays e) = stays e
  labelled serial to (Some label) v (leaves n generation node e) = leaves n generation node e

  sent_left : (to : Option ℕ) → Left past u packet.bytes (sent_to to 0 packet u)
  unfolding posted
  sent_left None = stays refl
  sent_left (Some to) = labelled (u.store.last + 1) to packet.label (posted 0 to false packet.bytes u) (leaves _ _ to refl)

  one_left : (outbox : OutboxState) → outbox.sides ≡ [] → outbox.packets ≡ packet ∷ [] → Left past u packet.bytes (handed_out 0 0 outbox u)
  unfolding sent_all told_all sent
  one_left outbox sides packets =
      subst (λ told. Left past u packet.bytes (sent_all 0 outbox.packets (told_all 0 told u))) (sym sides)
      (subst (λ ps. Left past u packet.bytes (sent_all 0 ps (told_all 0 [] u))) (sym packets) (sent_left (node_of u.generations 0 packet.to)))

-- ---- a turn
abbrev Nothing : List Moment → WorldState → Type 0
Nothing past w = Unit {0}

-- what was so of a write is so behind more moments
refused_on : (more past : List Moment) (write : ℕ) → WasRefused past write → WasRefused (more ++ past) write
refused_on more past write r = record {
  later = more ++ r.later;
  before = r.before;
  answer = r.answer;
  generation = r.generation;
  to = r.to;
  bytes = r.bytes;
  is = append_assoc more r.later (said (notes.Sent r.answer r.generation 0 r.to r.bytes) ∷ said (notes.Got write) ∷ r.before) ∙ ap (λ ms. more ++ ms) r.is;
  asking = r.asking;
  asked = r.asked;
  new = r.new;
  code = r.code;
}

got_on : (start : List Disk) (more past : List Moment) (write : ℕ) → WasGotNew start past write → WasGotNew start (more ++ past) write
got_on start more past write x = record {
  later = more ++ x.later;
  before = x.before;
  is = append_assoc more x.later (said (notes.Got write) ∷ x.before) ∙ ap (λ ms. more ++ ms) x.is;
  new = x.new;
  outcome = by x.outcome;
}
  where
    by : ((target_at start x.before).manager.operation ≡ None) ⊎ WasRefused past write → ((target_at start x.before).manager.operation ≡ None) ⊎ WasRefused (more ++ past) write
    by (inl e) = inl e
    by (inr r) = inr (refused_on more past write r)

module _ (wild : ℕ → Bool) (units ready : ℕ) (has : 0 < units) (start : List Disk) (past : List Moment) (s : Scene) (later : List Moment) (t : Scene) (step : Step wild units ready start Nothing Nothing past s later t) (write : ℕ) (x : IsManagementWrite (hist later t.world) write) (taken : 0 < (terms (hist later t.world)).news write) where
  abbrev w : WorldState
  w = s.world

  abbrev before : List Moment
  before = hist past w

  abbrev now : List Moment
  now = hist later t.world

  sent_then : (terms before).sent write ≡ Some x.packet
  sent_then = turns.sent_then wild units ready has start Nothing Nothing past s later t step write x.packet x.sent taken

  writes : x.access.is_write ≡ true
  writes = serves_write x.access x.at x.serves

  module _ (unjudged : (terms before).news write ≡ 0) (g : GotFrom past w later t.world write) where
    abbrev come : Sent
    come = g.got.sent

    abbrev node : NodeState
    node = g.w.target

    abbrev there : List Moment
    there = hist later g.w

    found : found_sent write w.store.kept ≡ Some come
    found = turns.found wild units ready has start Nothing Nothing past s later t step write x.packet x.sent taken x.to_is g

    sending : x.packet ≡ as_sending come
    sending = turns.sending wild units ready has start Nothing Nothing past s later t step write x.packet x.sent taken x.to_is g

    sent_there : (terms there).sent write ≡ Some x.packet
    sent_there = turns.sent_there wild units ready has start Nothing Nothing past s later t step write x.packet x.sent taken x.to_is g

    spelled : access_in_bytes come.bytes ≡ Some x.access
    spelled = ap (λ (q : Sending). access_in_bytes q.bytes) (sym sending) ∙ x.spelled

    b : SpellsBlock come.bytes x.access
    b = block_by come.bytes (reading come.bytes) refl x.access spelled writes (serves_block x.access x.at x.serves)

    abbrev header : Header
    header = b.block.header

    abbrev block : Packet
    block = write_block header b.block.offset b.block.payload

    read : reading come.bytes ≡ Ok block
    read = b.read ∙ ap (λ p. Ok p) b.block.is

    -- ---- it is found to be that request
    its : IsFound w (turns.stands wild units ready has start Nothing Nothing past s later t step) write come found g.got.to_is (ap (λ (q : Sending). q.injected) (sym sending) ∙ x.honest) block read refl
    its =
        is_found w (turns.stands wild units ready has start Nothing Nothing past s later t step) write come found g.got.to_is (ap (λ (q : Sending). q.injected) (sym sending) ∙ x.honest) block read refl g.got.run g.got.media there
        (turns.rises wild units ready has start Nothing Nothing past s later t step write x.packet x.sent taken x.to_is g (omega (arith, unjudged, taken)))

    found_there : (judging_step node.layer come.generation come.bytes).0 ≡ of_request block
    found_there = ap (λ (n : NodeState). (judging_step n.layer come.generation come.bytes).0) g.target ∙ its.is

    heard : is_barred node block ≡ false
    heard = unbarred node header b.block.offset b.block.payload (b.block.offset_is ∙ at_management x.access.offset x.at)

    demand : demand_of (length node.rom) block ≡ demands.Manage (offset_at x.access.payload 0)
    demand = demand_is node block come.bytes x.access (asks_for come.bytes block x.access read spelled) (subst (λ (n : NodeState). length n.rom ≤ 1024) (sym g.target) step.stands.reached.holds.rom) x.at x.serves

    got : (received g.got.run come.generation come.bytes (whole_of node g.got.media)).0 ≡ judgements.Got
    got = judged_got node g.got.run come.generation come.bytes g.got.media block found_there heard

    new : (terms there).news write ≡ 0
    new = g.news_are ∙ unjudged

    -- ---- an operation is under way
    module _ (op : Operation) (busy : node.manager.operation ≡ Some op) where
      refuses : IsRefusal node header (received g.got.run come.generation come.bytes (whole_of node g.got.media))
      refuses =
          busy_refuses.refuses g.got.run come.generation come.bytes node g.got.media.disks header
          (record { offset = b.block.offset; payload = b.block.payload; found = found_there; heard = heard; orb = offset_at x.access.payload 0; asks = demand; own = op; busy = busy })

      fresh : hist later g.got.u ≡ said (notes.Got write) ∷ there
      fresh = g.got.fresh ∙ ap (λ j. said (judged_note write j) ∷ there) got

      -- the answer is owed, and is not so behind the turn
      unanswered : hist later t.world ≡ hist later g.got.u → ⊥
      unanswered e =
          let k : IsWriting x.packet.bytes = writing_in x.packet.bytes x.access x.spelled writes in
          let owes = got_request write there x.packet k.label writing _ sent_there k.part (request_asked x.packet k.label writing k.part) in
          none_is _ (sym (wired t.world step.reaches.holds.sound.stands).quiet ∙ (ap (λ ms. (terms ms).owes) (e ∙ fresh) ∙ owes))

      was_refused : WasRefused now write
      was_refused = by (subst (Left later g.got.u refuses.packet.bytes) (sym g.got.is) (one_left later g.got.u refuses.packet _ refuses.sides refuses.packets))
        where
          by : Left later g.got.u refuses.packet.bytes t.world → WasRefused now write
          by (stays e) = absurd (unanswered e)
          by (leaves serial generation to e) = record {
            later = [];
            before = there;
            answer = serial;
            generation = generation;
            to = to;
            bytes = refuses.packet.bytes;
            is = sym (e ∙ ap (λ ms. said (notes.Sent serial generation 0 to refuses.packet.bytes) ∷ ms) fresh);
            asking = x.packet;
            asked = sent_there;
            new = new;
            code = refuses.code;
          }

    got_new : WasGotNew start now write
    got_new = record {
      later = g.got.more;
      before = there;
      is = ap (λ j. g.got.more ++ said (judged_note write j) ∷ there) (sym got) ∙ g.got.judged;
      new = new;
      outcome = by node.manager.operation refl;
    }
      where
        by : (operation : Option Operation) → node.manager.operation ≡ operation → ((target_at start there).manager.operation ≡ None) ⊎ WasRefused now write
        by None e = inl (ap (λ (m : Machine). m.operation) (turns.manager_is wild units ready has start Nothing Nothing past s later t step write x.packet x.sent taken x.to_is g) ∙ e)
        by (Some op) e = inr (was_refused op e)

  got_now : AreGotNew start before w → WasGotNew start now write
  got_now p = zero_or ((terms before).news write) (λ unjudged. by unjudged (turns.gets wild units ready has start Nothing Nothing past s later t step write x.packet x.sent taken x.to_is)) older
    where
      by : (terms before).news write ≡ 0 → TurnGets past w later t.world write → WasGotNew start now write
      by unjudged (inl e) = absurd (omega (arith, e, taken, unjudged))
      by unjudged (inr g) = got_new unjudged g

      older : 0 < (terms before).news write → WasGotNew start now write
      older l =
          let on = turns.on wild units ready has start Nothing Nothing past s later t step in
          subst (λ ms. WasGotNew start ms write) on.is
          (got_on start on.new before write (p write (record { packet = x.packet; sent = sent_then; to_is = x.to_is; honest = x.honest; access = x.access; spelled = x.spelled; at = x.at; serves = x.serves }) l))

-- ---- each run
nothing : Always Nothing
nothing = record { after_lines = λ a b c d e f. tt; between = λ a b c d e f g h j k. tt }

nothing_there : EveryPlace (λ start. Nothing)
nothing_there = record { after_lines = λ a b c d e f g. tt; between = λ a b c d e f g h j k l. tt }

judged_walk : (wild : ℕ → Bool) (units ready : ℕ) → 0 < units → (start : List Disk) → Walks wild units ready start Nothing Nothing (AreGotNew start)
judged_walk wild units ready has start past s later t step p write x taken = got_now wild units ready has start past s later t step write x taken p

first_judged : (wild : ℕ → Bool) (line : ℕ) (run : Run) → AreGotNew run.start.disks (moments_behind line run []) (beginning run).world
first_judged wild line run write x taken = absurd (omega (arith, taken))

pub got_new_law : GotNewLaw
got_new_law = record {
  after_lines = λ line run r has small size tame.
      walked_from Nothing (λ start. Nothing) (λ start wild. AreGotNew start) nothing nothing_there judged_walk first_judged line run r has small size
      (closing.before open_lists_law line run r has small size (inl tame));
  between = λ line run r has small size next most told m tame.
      walked_from_between Nothing (λ start. Nothing) (λ start wild. AreGotNew start) nothing nothing_there judged_walk first_judged line run r has small size next (more_deliveries most) (more_than_one most) told m
      (closing.between open_lists_law line run r has small size next (more_deliveries most) (more_than_one most) told m (inl tame));
}
