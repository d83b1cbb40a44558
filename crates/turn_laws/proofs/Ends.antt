-- In each turn of every run exactly the deaths and ends stand that the step of an agent brings.
use Rattle.std.proofs.Common.{arith, ◌≡◌, ◌∙◌, refl, sym, ap, subst, ℕ, suc, ◌+◌, ◌<◌, nat_eq, nat_lt, Bool, true, false, cond, List, [], map, Option, Some, None}
use Rattle.packet_store.specs.declared.sent.Sent.{Sent}
use Rattle.packet_store.specs.Kept.{found_sent}
use Rattle.rbc_disk.specs.Disk.{Disk}
use Rattle.sbp_bus.specs.Generations.{id_of}
use Rattle.sbp_bus.specs.Packets.{end_note, judged_note}
use Rattle.sbp_bus.specs.Requests.{find}
use Rattle.sbp_bus.specs.declared.requests.Request.{Request}
use Rattle.sbp_initiator.specs.Receiving.{receive_step}
use Rattle.sbp_journal.specs.Outgoings.{empty_outbox}
use Rattle.sbp_journal.specs.declared.side.Side.{Side}
use Rattle.sbp_journal.specs.declared.side.Side.TheVariants as sides
use Rattle.sbp_target.specs.Histories.Sides.{reset_changes}
use Rattle.sbp_target.specs.Receiving.{seen, ticked}
use Rattle.sbp_world.specs.Delivering.{marked}
use Rattle.sbp_world.specs.Nodes.{told_seen, with_seen}
use Rattle.sbp_journal.specs.Run.{Moment, asked, said}
use Rattle.sbp_journal.specs.Wire.{Terms, terms}
use Rattle.sbp_journal.specs.declared.cause.Judged.{Judged}
use Rattle.sbp_journal.specs.declared.cause.Judged.TheVariants as judgements
use Rattle.sbp_journal.specs.declared.event.Event.{Event as LineEvent}
use Rattle.sbp_journal.specs.declared.note.Note.{Note}
use Rattle.sbp_journal.specs.declared.note.Note.TheVariants as notes
use Rattle.login_table.specs.Table.{expired_ids}
use Rattle.orb_layout.specs.Replies.{Expired}
use Rattle.sbp_journal.specs.Transactions.{Sending}
use Rattle.sbp_laws.specs.Agents.{agent_event, nothing, reply_to}
use Rattle.sbp_laws.specs.Packets.{sender_in}
use Rattle.sbp_world.proofs.Agents.Management.Lapse.{from_asked}
use Rattle.sbp_world.proofs.Agents.Purposes.{g, law}
use Rattle.sbp_laws.specs.Targets.{is_serial, over, purpose_of, target_at}
use Rattle.sbp_laws.specs.Turns.{EachTurn, turn}
use Rattle.sbp_target.specs.Nodes as target
use Rattle.sbp_target.proofs.Histories.Told.{side_law}
use Rattle.sbp_world.specs.Lines.{weight_in}
use Rattle.sbp_world.specs.Worlds.{Scene, initiator_at, with_initiator, with_note, with_target}
use Rattle.sbp_world.proofs.Agents.Management.Still.{hist}
use Rattle.turn_laws.specs.Ends.{EndsLaw, EndsWhereDue}
use Rattle.turn_laws.specs.Runs.{OfEveryRun}
use Rattle.turn_laws.proofs.AgentDue.{TellsEnds, ends_told, none_tells}
use Rattle.turn_laws.proofs.Calls.{Brings, Cases, calls, injects, loses, refuses, refuses_action, resets, sets_key}
use Rattle.turn_laws.proofs.EndNotes.{NoEnds, low_ranks, none_handed, own_ends}
use Rattle.turn_laws.proofs.EachTurns.{brought_law}
use Rattle.turn_laws.proofs.Gots.{own_brings_nothing}
use Rattle.turn_laws.proofs.Handed.{handed}
use Rattle.turn_laws.proofs.LateEnds.{Expires, late_ends}
use Rattle.turn_laws.proofs.OrderRanks.{rises_above}
use Rattle.turn_laws.proofs.OrderHanded.{side_rank}
use Rattle.turn_laws.proofs.OrderSides.{expired_ranks, reset_ranks}
use Rattle.turn_laws.proofs.Pass.{of_every_run}
use Rattle.turn_laws.proofs.Places.{Place}
use Rattle.turn_laws.proofs.TargetEnds.{called_ends}

-- ---- a time-out of an initiator is for no agent
module _ (units ready : ℕ) (has : 0 < units) (start : List Disk) (past : List Moment) (s : Scene) (here : Place units ready start past s) (serial : ℕ) (request : Request) (found : find s.world.requests serial ≡ Some request) (i : ℕ) (node_is : request.node ≡ suc i) where
  abbrev ms : List Moment
  ms = hist past s.world

  abbrev wire : Terms
  wire = terms ms

  from_is : (packet : Sending) → wire.sent serial ≡ Some packet → is_serial (Some packet.from) 0 ≡ false
  from_is packet e =
      let w = s.world in
      let sender : packet.from ≡ suc i = from_asked start w here.holds.sound.stands (g units ready has start w here.holds) (law units ready has start w here.holds) here.holds.at serial request found packet e ∙ node_is in
      ap (λ n. is_serial (Some n) 0) sender ∙ (let other : nat_eq (suc i) 0 ≡ false = grind arith in other)

  pub away : (so : Option Sending) → wire.sent serial ≡ so → is_serial (sender_in so) 0 ≡ false
  away None e = refl
  away (Some packet) e = from_is packet e

  own_late : (rest : List Note) → agent_event start (turn ms (said (notes.TimedOut serial)) rest) ≡ nothing
  own_late rest = ap (λ b. cond b (reply_to (purpose_of (over (target_at start ms)) serial) Expired) nothing) (away (wire.sent serial) refl)

-- ---- a packet that an initiator got
module _ (units ready : ℕ) (has : 0 < units) (start : List Disk) (past : List Moment) (s : Scene) (here : Place units ready start past s) where
  own_got : (serial : ℕ) (one : Sent) (found : found_sent serial s.world.store.kept ≡ Some one) (i : ℕ) → one.to ≡ suc i → (judged : Judged) (rest : List Note)
      → agent_event start (turn (hist past s.world) (said (judged_note serial judged)) rest) ≡ nothing
  own_got serial one found i to_is judgements.Got rest = own_brings_nothing units ready has start past s here serial one found i to_is
  own_got serial one found i to_is (judgements.Ignored cause) rest = refl

-- ---- the turns of the calls
abbrev expiries : List ℕ → List Side
expiries ids = map (λ login. sides.Expired login) ids

line_ends : (start : List Disk) (line : ℕ) (s : Scene) (past : List Moment) (event : LineEvent) (rest : List Note) → Brings line s event rest → TellsEnds start (turn past (asked line event) rest)
line_ends start line s past event rest (calls is_event c) = refl
line_ends start line s past event rest (refuses is_event number) = refl
line_ends start line s past event rest (refuses_action i action number e) = refl
line_ends start line s past event rest (resets physical generation e) = refl
line_ends start line s past event rest (loses serial) = refl
line_ends start line s past event rest (sets_key unit key) = refl
line_ends start line s past event rest (injects i bytes serial generation from to) = refl

end_ends : (start : List Disk) (past : List Moment) (done : Bool) → TellsEnds start (turn past (said (end_note done)) [])
end_ends start past true = refl
end_ends start past false = refl

module _ (units ready : ℕ) (has : 0 < units) (start : List Disk) where
  pub ends_cases : Cases units ready start (TellsEnds start)
  ends_cases = record {
    heard = λ past s serial again run one found zero_to may others here behind noted. called_ends units ready has start past s here serial again run one found zero_to may others noted.judged;
    heard_own = λ past s serial again one i found to_is inside own here behind judged.
        let x = receive_step one.generation one.bytes empty_outbox (initiator_at s.world i) in
        let v = with_note (judged_note serial x.0) (marked serial again (with_initiator i x.1.1 s.world)) in
        let rest = handed (suc i) 0 x.1.0 v in
        none_tells start (turn (hist past s.world) (said (judged_note serial x.0)) rest) (own_got units ready has start past s here serial one found i to_is x.0 rest) (own_ends (suc i) 0 x.1.0 v own);
    late = λ past s serial request done t found node_is e others here behind judged.
        subst (Expires units ready has start past s here serial request found node_is) e (late_ends units ready has start past s here serial request found node_is) others;
    late_own = λ past s serial request i outbox state found node_is inside e own here behind judged.
        let v = with_note (notes.TimedOut serial) (with_initiator i state s.world) in
        let rest = handed (suc i) 0 outbox v in
        none_tells start (turn (hist past s.world) (said (notes.TimedOut serial)) rest) (own_late units ready has start past s here serial request found i node_is rest) (own_ends (suc i) 0 outbox v own);
    sees = λ past s others here behind judged.
        let g = s.world.generations.latest in
        let told = side_law.sights g.generation (id_of g 0) s.world.target in
        let b = nat_lt s.world.target.layer.generation g.generation in
        let x = (seen g.generation (id_of g 0) (target.scene s.world.target empty_outbox)).1 in
        none_handed x.outbox (with_target x.node (with_seen 0 (told_seen 0 s.world))) others (subst NoEnds (sym told) (low_ranks (cond b (reset_changes s.world.target) []) 0 (rises_above side_rank (cond b (reset_changes s.world.target) []) 0 2 4 (omega arith) (reset_ranks b s.world.target))));
    sees_own = λ past s i inside own here behind judged. own_ends (suc i) 0 _ _ own;
    ticks = λ past s others here behind judged.
        let told = side_law.seconds s.world.target in
        let x = ticked (target.scene s.world.target empty_outbox) in
        none_handed x.outbox (with_target x.node (with_note notes.Tick s.world)) others (subst NoEnds (sym told) (low_ranks (expiries (expired_ids s.world.target.logins.places)) 2 (rises_above side_rank (expiries (expired_ids s.world.target.logins.places)) 2 2 4 (omega arith) (expired_ranks (expired_ids s.world.target.logins.places)))));
    ends = λ past s done here behind. end_ends start (hist past s.world) done;
    acts = λ past s line i action outbox state inside e own here behind. own_ends (i + 1) (weight_in action) outbox _ own;
    lines = λ past s line event rest behind brings fresh here there. line_ends start line s (hist past s.world) event rest brings;
    begins = λ line initiators is_ready. refl;
  }

-- Each turn tells of an agent by its step.
pub tells_law : OfEveryRun (λ start past. EachTurn (TellsEnds start) past)
tells_law = of_every_run TellsEnds (λ units ready start has. ends_cases units ready has start)

pub ends_law : EndsLaw
ends_law = brought_law TellsEnds EndsWhereDue ends_told tells_law
