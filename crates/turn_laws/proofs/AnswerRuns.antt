-- The law of answers holds of every run: a request that a node got has its response, the first packet of its delivery. No other turn answers.
use Rattle.std.proofs.Common.{arith, refl, ◌≤◌, ℕ, ◌<◌, ap, subst, sym, Bool, true, false, List, [], length}
use Rattle.rbc_disk.specs.Disk.{Disk}
use Rattle.sbp_bus.specs.Packets.{end_note, judged_note}
use Rattle.sbp_initiator.specs.Receiving.{receive_step}
use Rattle.sbp_journal.specs.Outgoings.{empty_outbox}
use Rattle.sbp_journal.specs.Run.{Moment, said}
use Rattle.sbp_laws.specs.SentAnswers.{AnswersLaw}
use Rattle.sbp_laws.specs.Turns.{turn}
use Rattle.sbp_target.specs.Receiving.{received}
use Rattle.sbp_world.specs.Delivering.{marked, whole_of}
use Rattle.sbp_world.specs.Wire.Wires.{layers_of}
use Rattle.sbp_world.specs.Worlds.{initiator_at, with_initiator, with_note, with_target}
use Rattle.sbp_world.proofs.Agents.Management.Still.{hist}
use Rattle.turn_laws.specs.Answers.{AnsweredLaw}
use Rattle.turn_laws.proofs.AnswerNotes.{judged_bus}
use Rattle.turn_laws.proofs.Calls.{Cases}
use Rattle.turn_laws.proofs.HostAnswers.{host_answers}
use Rattle.turn_laws.proofs.Judgements.{row_there}
use Rattle.turn_laws.proofs.Pass.{of_every_run}
use Rattle.turn_laws.proofs.TargetAnswers.{target_answers}

end_answers : (start : List Disk) (ms : List Moment) (done : Bool) → AnswersLaw start (turn ms (said (end_note done)) [])
end_answers start ms true = tt
end_answers start ms false = tt

module _ (units ready : ℕ) (has : 0 < units) (start : List Disk) where
  answer_cases : Cases units ready start (AnswersLaw start)
  answer_cases = record {
    heard = λ past s serial again run one found zero_to may others here behind judged.
        let stands = here.holds.sound.stands in
        let x = received run one.generation one.bytes (whole_of s.world.target s.media) in
        let u = with_target x.1.node s.world in
        let v = with_note (judged_note serial x.0) (marked serial again u) in
        let inside : one.to ≤ length s.world.initiators = subst (λ n. n ≤ length s.world.initiators) (sym zero_to) (omega arith) in
        let row = row_there s.world stands serial one found inside s.world.target.layer (ap (layers_of s.world) zero_to) in
        let bus = judged_bus (judged_note serial x.0) serial again s.world u (record { last = refl; generations = refl }) in
        target_answers units ready has start past s here serial one found zero_to run v bus others row;
    heard_own = λ past s serial again one i found to_is inside own here behind judged.
        let stands = here.holds.sound.stands in
        let old = initiator_at s.world i in
        let x = receive_step one.generation one.bytes empty_outbox old in
        let u = with_initiator i x.1.1 s.world in
        let v = with_note (judged_note serial x.0) (marked serial again u) in
        let there : one.to ≤ length s.world.initiators = omega (arith, to_is, inside) in
        let row = row_there s.world stands serial one found there old.layer (ap (layers_of s.world) to_is) in
        let bus = judged_bus (judged_note serial x.0) serial again s.world u (record { last = refl; generations = refl }) in
        host_answers units ready start past s here i inside serial one found to_is v bus own row;
    late = λ past s serial request done t found node_is e others here behind judged. tt;
    late_own = λ past s serial request i outbox state found node_is inside e own here behind judged. tt;
    sees = λ past s others here behind judged. tt;
    sees_own = λ past s i inside own here behind judged. tt;
    ticks = λ past s others here behind judged. tt;
    ends = λ past s done here behind. end_answers start (hist past s.world) done;
    acts = λ past s line i action outbox state inside e own here behind. tt;
    lines = λ past s line event rest behind brings fresh here there. tt;
    begins = λ line initiators is_ready. tt;
  }

pub answered_law : AnsweredLaw
answered_law = of_every_run AnswersLaw (λ units ready start has. answer_cases units ready has start)
