-- A turn in which nobody is to ask sends nothing: a sight tells of lists and logins alone, a second of logins, and what an initiator's time-out ends sends no packet.
use Rattle.std.proofs.Common.{◌≡◌, ◌∙◌, ◌<◌, refl, sym, ap, subst, ℕ, zero, suc, Bool, true, false, List, [], ◌∷◌, drop, length, Option, Some, None, Result, Ok, Err}
use Rattle.std.proofs.Math.Seq.{drop-nil}
use Rattle.async_packet.specs.Labels.{LabelParts}
use Rattle.label_table.specs.Layer.{Layer, expiring_step}
use Rattle.label_table.specs.declared.reply.Stale.{Stale}
use Rattle.packet_store.specs.declared.sent.Sent.{Sent}
use Rattle.packet_store.specs.Kept.{found_sent}
use Rattle.rbc_disk.specs.Disk.{Disk}
use Rattle.sbp_bus.specs.Generations.{id_of}
use Rattle.sbp_bus.specs.Packets.{end_note, judged_note}
use Rattle.sbp_bus.specs.Requests.{find}
use Rattle.sbp_bus.specs.declared.requests.Request.{Request}
use Rattle.sbp_initiator.specs.Effects.{Turn as OwnTurn, ended_for}
use Rattle.sbp_initiator.specs.Receiving.{called, expire_step, expired_as, receive_step}
use Rattle.sbp_initiator.specs.Seeing.{see_step}
use Rattle.sbp_initiator.specs.declared.purpose.Ending.TheVariants as endings
use Rattle.sbp_initiator.specs.declared.purpose.Purpose.{Purpose as OwnPurpose}
use Rattle.sbp_initiator.specs.declared.purpose.Purpose.TheVariants as purposes
use Rattle.sbp_initiator.specs.declared.state.InitiatorState.{InitiatorState}
use Rattle.sbp_journal.specs.Outgoings.{OutboxState, empty_outbox}
use Rattle.sbp_journal.specs.Run.{Moment, asked, said}
use Rattle.sbp_journal.specs.Wire.{terms}
use Rattle.sbp_journal.specs.declared.cause.Judged.{Judged}
use Rattle.sbp_journal.specs.declared.cause.Judged.TheVariants as judgements
use Rattle.sbp_journal.specs.declared.event.Event.{Event}
use Rattle.sbp_journal.specs.declared.event.Event.TheVariants as events
use Rattle.sbp_journal.specs.declared.note.Note.{Note}
use Rattle.sbp_journal.specs.declared.note.Note.TheVariants as notes
use Rattle.sbp_laws.specs.Packets.{receiver_in, sender_in}
use Rattle.sbp_laws.specs.SentAnswers.{answer_due}
use Rattle.sbp_laws.specs.SentRequests.{ArePackets, asks_at, asks_by, before_requests, behind_answer, expiring}
use Rattle.sbp_laws.specs.Targets.{is_serial}
use Rattle.sbp_laws.specs.Turns.{Turn, sends_of, turn}
use Rattle.sbp_target.specs.declared.purpose.Purpose.{Purpose}
use Rattle.sbp_target.specs.Nodes.{Scene as TargetScene, scene}
use Rattle.sbp_target.specs.Receiving.{expired, expired_in, received, seen, ticked}
use Rattle.sbp_world.specs.Delivering.{marked, whole_of}
use Rattle.sbp_world.specs.Making.{notes_begin}
use Rattle.sbp_world.specs.Nodes.{told_seen, with_seen}
use Rattle.sbp_world.specs.Worlds.{Scene, WorldState, initiator_at, with_initiator, with_note, with_target}
use Rattle.sbp_world.proofs.Agents.Management.Holding.{was_sent}
use Rattle.sbp_world.proofs.Agents.Management.Still.{hist}
use Rattle.sbp_world.proofs.Wire.Forgets.{sees_rests}
use Rattle.sbp_world.proofs.Wire.TargetForgets.{seen_stays, ticked_stays}
use Rattle.sbp_world.specs.Telling.{told_all}
use Rattle.turn_laws.specs.OtherRequests.{AsksNobody, OtherAsks, OtherRequestsLaw}
use Rattle.turn_laws.proofs.Calls.{Brings, Cases, calls, injects, loses, refuses, refuses_action, resets, sets_key}
use Rattle.turn_laws.proofs.Handed.{handed, notes_sent, notes_told}
use Rattle.turn_laws.proofs.LateEnds.{sender}
use Rattle.turn_laws.proofs.Pass.{of_every_run}
use Rattle.turn_laws.proofs.Places.{Place}
use Rattle.turn_laws.proofs.RomSends.{expired_sends, plain_sends}
use Rattle.turn_laws.proofs.SentAnswers.{AreUnsent, all_own_unsent, others_unsent, sends_behind, told_unsent}

-- ---- what is handed out without a packet
pub no_sends : (node weight : ℕ) (o : OutboxState) (w : WorldState) → AreUnsent o.sides → o.packets ≡ [] → sends_of (handed node weight o w) ≡ []
no_sends node weight o w h e =
    let v = told_all weight o.sides w in
    sends_behind (notes_told weight o.sides w) (notes_sent node o.packets v) (told_unsent weight o.sides w h) ∙ ap (λ ps. sends_of (notes_sent node ps v)) e

-- ---- a transaction of an initiator that times out
end_sends : (purpose : Option OwnPurpose) (u : InitiatorState) → (ended_for purpose endings.Expired empty_outbox u).0.packets ≡ []
end_sends None u = refl
end_sends (Some (purposes.Rom act)) u = expired_sends act u
end_sends (Some (purposes.Pointer list)) u = plain_sends (purposes.Pointer list) refl endings.Expired u
end_sends (Some purposes.Doorbell) u = plain_sends purposes.Doorbell refl endings.Expired u
end_sends (Some (purposes.AgentReset act)) u = plain_sends (purposes.AgentReset act) refl endings.Expired u
end_sends (Some (purposes.Enable act)) u = plain_sends (purposes.Enable act) refl endings.Expired u
end_sends (Some (purposes.Management act)) u = plain_sends (purposes.Management act) refl endings.Expired u
end_sends (Some (purposes.State act list)) u = plain_sends (purposes.State act list) refl endings.Expired u

late_as : (r : Result (Option OwnPurpose) Stale × Layer OwnPurpose) (s : InitiatorState) → (expired_as r empty_outbox s).1.0.packets ≡ []
late_as (Err stale, layer) s = refl
late_as (Ok purpose, layer) s = end_sends purpose (called (record s { layer = layer }))

late_sends : (label : LabelParts) (s : InitiatorState) → (expire_step label empty_outbox s).1.0.packets ≡ []
unfolding expire_step
late_sends label s = late_as (expiring_step s.layer s.target label) s

-- ---- so nothing is asked for
got_nobody : (start : List Disk) (t : Turn) (serial : ℕ) (to : Option ℕ) → to ≡ None → (asks_at start t serial to).requests ≡ []
got_nobody start t serial None e = refl
got_nobody start t serial (Some node) e = absurd (let no : Some node ≡ None = e in cc)

late_nobody : (start : List Disk) (t : Turn) (from : Option ℕ) → is_serial from 0 ≡ false → (expiring start t from).requests ≡ []
late_nobody start t None e = refl
late_nobody start t (Some zero) e = absurd (let no : true ≡ false = e in cc)
late_nobody start t (Some (suc i)) e = refl

module _ (start : List Disk) (t : Turn) where
  none_asked : (m : Moment) → AsksNobody (terms t.past) m → (asks_by start t m).requests ≡ []
  none_asked (said (notes.Got serial)) h = got_nobody start t serial (receiver_in ((terms t.past).sent serial)) h
  none_asked (said (notes.TimedOut serial)) h = late_nobody start t (sender_in ((terms t.past).sent serial)) h
  none_asked (asked line (events.Act i action)) h = absurd h
  none_asked m h = refl

  none_sent : sends_of t.rest ≡ [] → behind_answer start t ≡ []
  none_sent none = let n = length (answer_due start t t.start) in ap (λ ns. drop n ns) none ∙ drop-nil n

  others_hold : sends_of t.rest ≡ [] → OtherAsks start t
  others_hold none h asks =
      let node = (asks_by start t t.start).node in
      subst (λ ws. ArePackets (before_requests start t) node (behind_answer start t) ws) (sym (none_asked t.start h)) (subst (λ ns. ArePackets (before_requests start t) node ns []) (sym (none_sent none)) tt)

-- ---- the turns of the calls
judged_not : (start : List Disk) (ms : List Moment) (serial : ℕ) (judged : Judged) (rest : List Note) (to : ℕ) → receiver_in ((terms ms).sent serial) ≡ Some to → OtherAsks start (turn ms (said (judged_note serial judged)) rest)
judged_not start ms serial judgements.Got rest to was = λ h. absurd (let no : Some to ≡ None = sym was ∙ h in cc)
judged_not start ms serial (judgements.Ignored cause) rest to was = λ h asks. absurd (let no : true ≡ false = asks in cc)

ended_none : (start : List Disk) (ms : List Moment) (done : Bool) → OtherAsks start (turn ms (said (end_note done)) [])
ended_none start ms done = others_hold start (turn ms (said (end_note done)) []) refl

line_none : (start : List Disk) (past : List Moment) (line : ℕ) (s : Scene) (event : Event) (rest : List Note) → Brings line s event rest → OtherAsks start (turn past (asked line event) rest)
line_none start past line s event rest (calls is_event c) = others_hold start (turn past (asked line event) []) refl
line_none start past line s event rest (refuses is_event refusal) = others_hold start (turn past (asked line event) (notes.Refused line refusal.number ∷ [])) refl
line_none start past line s event rest (refuses_action i action number e) = λ h. absurd h
line_none start past line s event rest (resets physical generation e) = others_hold start (turn past (asked line (events.Reset physical)) (notes.Reset generation ∷ [])) refl
line_none start past line s event rest (loses serial) = others_hold start (turn past (asked line (events.Lose serial)) (notes.Lost serial ∷ [])) refl
line_none start past line s event rest (sets_key unit key) = others_hold start (turn past (asked line (events.Key unit key)) (notes.Key unit ∷ [])) refl
line_none start past line s event rest (injects i bytes serial generation from to) = λ h asks. absurd (let no : true ≡ false = asks in cc)

module _ (units ready : ℕ) (has : 0 < units) (start : List Disk) where
  -- a transaction of the target that times out is one that it asked for
  late_its : (past : List Moment) (s : Scene) (here : Place units ready start past s) (serial : ℕ) (request : Request) (found : find s.world.requests serial ≡ Some request) (zero_is : request.node ≡ 0) (done : Unit {0}) (t : TargetScene) (r : Result (Option Purpose) Stale × Layer Purpose)
      → expiring_step s.world.target.layer request.peer request.label ≡ r → expired_in r request.peer request.label (scene s.world.target empty_outbox) ≡ (Ok done, t) → is_serial (sender_in ((terms (hist past s.world)).sent serial)) 0 ≡ true
  late_its past s here serial request found zero_is done t (Err stale, layer) e f = absurd (let no : Err stale ≡ Ok done = ap (λ x. x.0) f in cc)
  late_its past s here serial request found zero_is done t (Ok purpose, layer) e f = sender units ready has start past s here serial request found zero_is purpose layer e

  late_not : (past : List Moment) (s : Scene) (here : Place units ready start past s) (serial : ℕ) (request : Request) (found : find s.world.requests serial ≡ Some request) (zero_is : request.node ≡ 0) (done : Unit {0}) (t : TargetScene)
      → expired request.peer request.label (scene s.world.target empty_outbox) ≡ (Ok done, t) → (rest : List Note) → OtherAsks start (turn (hist past s.world) (said (notes.TimedOut serial)) rest)
  unfolding expired
  late_not past s here serial request found zero_is done t e rest = λ h.
      absurd (let no : true ≡ false = sym (late_its past s here serial request found zero_is done t (expiring_step s.world.target.layer request.peer request.label) refl e) ∙ h in cc)

  to_one : (past : List Moment) (s : Scene) (here : Place units ready start past s) (serial : ℕ) (one : Sent) → found_sent serial s.world.store.kept ≡ Some one → receiver_in ((terms (hist past s.world)).sent serial) ≡ Some one.to
  to_one past s here serial one found = ap receiver_in (was_sent s.world here.holds.sound.stands serial one found)

  other_cases : Cases units ready start (OtherAsks start)
  other_cases = record {
    heard = λ past s serial again run one found zero_to may others here behind noted.
        let x = received run one.generation one.bytes (whole_of s.world.target s.media) in
        judged_not start (hist past s.world) serial x.0 (handed 0 0 x.1.outbox (with_note (judged_note serial x.0) (marked serial again (with_target x.1.node s.world)))) one.to (to_one past s here serial one found);
    heard_own = λ past s serial again one i found to_is inside own here behind noted.
        let x = receive_step one.generation one.bytes empty_outbox (initiator_at s.world i) in
        judged_not start (hist past s.world) serial x.0 (handed (suc i) 0 x.1.0 (with_note (judged_note serial x.0) (marked serial again (with_initiator i x.1.1 s.world)))) one.to (to_one past s here serial one found);
    late = λ past s serial request done t found node_is e others here behind noted.
        late_not past s here serial request found node_is done t e (handed 0 0 t.outbox (with_note (notes.TimedOut serial) (with_target t.node s.world)));
    late_own = λ past s serial request i outbox state found node_is inside e own here behind noted.
        let w = with_note (notes.TimedOut serial) (with_initiator i state s.world) in
        let silent : outbox.packets ≡ [] = ap (λ (x : Bool × OwnTurn). x.1.0.packets) (sym e) ∙ late_sends request.label (initiator_at s.world i) in
        others_hold start (turn (hist past s.world) (said (notes.TimedOut serial)) (handed (suc i) 0 outbox w)) (no_sends (suc i) 0 outbox w (all_own_unsent outbox.sides own) silent);
    sees = λ past s others here behind noted.
        let g = s.world.generations.latest in
        let x = (seen g.generation (id_of g 0) (scene s.world.target empty_outbox)).1 in
        let w = with_target x.node (with_seen 0 (told_seen 0 s.world)) in
        others_hold start (turn (hist past s.world) (said (notes.Seen 0 g.generation)) (handed 0 0 x.outbox w))
        (no_sends 0 0 x.outbox w (others_unsent x.outbox.sides others) (seen_stays g.generation (id_of g 0) s.world.target).silent.unsent);
    sees_own = λ past s i inside own here behind noted.
        let g = s.world.generations.latest in
        let x = see_step g.generation (id_of g (suc i)) (id_of g 0) empty_outbox (initiator_at s.world i) in
        let w = with_initiator i x.1 (with_seen (suc i) (told_seen (suc i) s.world)) in
        others_hold start (turn (hist past s.world) (said (notes.Seen (suc i) g.generation)) (handed (suc i) 0 x.0 w))
        (no_sends (suc i) 0 x.0 w (all_own_unsent x.0.sides own) (sees_rests g.generation (id_of g (suc i)) (id_of g 0) (initiator_at s.world i)).silent.unsent);
    ticks = λ past s others here behind noted.
        let x = ticked (scene s.world.target empty_outbox) in
        let w = with_target x.node (with_note notes.Tick s.world) in
        others_hold start (turn (hist past s.world) (said notes.Tick) (handed 0 0 x.outbox w)) (no_sends 0 0 x.outbox w (others_unsent x.outbox.sides others) (ticked_stays s.world.target).silent.unsent);
    ends = λ past s done here behind. ended_none start (hist past s.world) done;
    acts = λ past s line i action outbox state inside e own here behind. λ h. absurd h;
    lines = λ past s line event rest behind brings fresh here there. line_none start (hist past s.world) line s event rest brings;
    begins = λ line initiators is_ready. others_hold start (turn [] (asked line (events.Begin initiators is_ready)) (notes_begin initiators is_ready ∷ [])) refl;
  }

pub other_requests_law : OtherRequestsLaw
other_requests_law = of_every_run OtherAsks (λ units ready start has. other_cases units ready has start)
