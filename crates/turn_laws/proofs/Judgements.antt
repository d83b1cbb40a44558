-- The judgement law holds of every run: a delivery is judged by the first row that holds on the terms before it, and where it is ignored its turn has the answer of that row alone. No other turn judges.
use Rattle.std.proofs.Common.{◌≡◌, refl, ap, ◌∙◌, ℕ, ◌<◌, ◌≤◌, arith, subst, sym, Bool, true, false, List, [], length, Some}
use Rattle.label_table.specs.Layer.{Layer, judging_step}
use Rattle.bus_transactions.specs.Bare.{bare}
use Rattle.bus_transactions.specs.Wire.{as_sending}
use Rattle.packet_store.specs.declared.sent.Sent.{Sent}
use Rattle.packet_store.specs.Kept.{found_sent}
use Rattle.rbc_disk.specs.Disk.{Disk}
use Rattle.sbp_bus.specs.Packets.{end_note, judged_note}
use Rattle.sbp_initiator.specs.Receiving.{receive_step}
use Rattle.sbp_journal.specs.Outgoings.{empty_outbox}
use Rattle.sbp_journal.specs.Run.{Moment, said}
use Rattle.sbp_journal.specs.Wire.{Terms, terms}
use Rattle.sbp_laws.specs.JudgementLaw.{Judges}
use Rattle.sbp_laws.specs.Turns.{turn}
use Rattle.sbp_target.specs.Receiving.{received}
use Rattle.sbp_world.specs.Delivering.{marked, whole_of}
use Rattle.sbp_world.specs.Wire.Wires.{Stands, layers_of}
use Rattle.sbp_world.specs.Worlds.{WorldState, initiator_at, with_initiator, with_note, with_target}
use Rattle.sbp_world.proofs.Agents.Management.Holding.{past_terms, was_sent}
use Rattle.sbp_world.proofs.Agents.Management.Still.{hist}
use Rattle.turn_laws.specs.Judgement.{JudgementRunLaw}
use Rattle.turn_laws.proofs.AnswerNotes.{judged_bus}
use Rattle.turn_laws.proofs.Calls.{Cases}
use Rattle.turn_laws.proofs.FoundRows.{RowFor, row_for}
use Rattle.turn_laws.proofs.HostJudges.{host_acts}
use Rattle.turn_laws.proofs.Pass.{of_every_run}
use Rattle.turn_laws.proofs.TargetJudges.{target_acts}
use Rattle.turn_laws.proofs.Verdicts.{follows}

-- what the layer of a node finds of a packet is by the row of the law
module _ {P : Type 0} {past : List Moment} (w : WorldState) (h : Stands past w) (serial : ℕ) (one : Sent) (found : found_sent serial w.store.kept ≡ Some one) (inside : one.to ≤ length w.initiators) (layer : Layer P) (is : layers_of w one.to ≡ bare layer) where
  pub row_there : RowFor (terms (hist past w)) (as_sending one) layer.node (judging_step layer one.generation one.bytes)
  row_there =
      let same = past_terms w h in
      subst (λ (t : Terms). RowFor t (as_sending one) layer.node (judging_step layer one.generation one.bytes)) same
      (row_for h.wire h.reached h.is.due_is (as_sending one) serial (ap (λ (t : Terms). t.sent serial) same ∙ was_sent w h serial one found) layer (h.is.layers_are one.to inside ∙ is))

end_judges : (start : List Disk) (ms : List Moment) (done : Bool) → Judges start (turn ms (said (end_note done)) [])
end_judges start ms true = tt
end_judges start ms false = tt

module _ (units ready : ℕ) (has : 0 < units) (start : List Disk) where
  pub judgement_cases : Cases units ready start (Judges start)
  judgement_cases = record {
    heard = λ past s serial again run one found zero_to may others here behind judged.
        let stands = here.holds.sound.stands in
        let x = received run one.generation one.bytes (whole_of s.world.target s.media) in
        let u = with_target x.1.node s.world in
        let v = with_note (judged_note serial x.0) (marked serial again u) in
        let inside : one.to ≤ length s.world.initiators = subst (λ n. n ≤ length s.world.initiators) (sym zero_to) (omega arith) in
        let row = row_there s.world stands serial one found inside s.world.target.layer (ap (layers_of s.world) zero_to) in
        follows start (hist past s.world) serial (as_sending one) (was_sent s.world stands serial one found) s.world.target.layer.node (judging_step s.world.target.layer one.generation one.bytes) x.0 _ row
        (target_acts units ready has start past s here serial one found zero_to run v (judged_bus (judged_note serial x.0) serial again s.world u (record { last = refl; generations = refl })) row);
    heard_own = λ past s serial again one i found to_is inside own here behind judged.
        let stands = here.holds.sound.stands in
        let old = initiator_at s.world i in
        let x = receive_step one.generation one.bytes empty_outbox old in
        let u = with_initiator i x.1.1 s.world in
        let v = with_note (judged_note serial x.0) (marked serial again u) in
        let there : one.to ≤ length s.world.initiators = omega (arith, to_is, inside) in
        let row = row_there s.world stands serial one found there old.layer (ap (layers_of s.world) to_is) in
        follows start (hist past s.world) serial (as_sending one) (was_sent s.world stands serial one found) old.layer.node (judging_step old.layer one.generation one.bytes) x.0 _ row
        (host_acts units ready start past s here serial one found i to_is inside v (judged_bus (judged_note serial x.0) serial again s.world u (record { last = refl; generations = refl })) row);
    late = λ past s serial request done t found node_is e others here behind judged. tt;
    late_own = λ past s serial request i outbox state found node_is inside e own here behind judged. tt;
    sees = λ past s others here behind judged. tt;
    sees_own = λ past s i inside own here behind judged. tt;
    ticks = λ past s others here behind judged. tt;
    ends = λ past s done here behind. end_judges start (hist past s.world) done;
    acts = λ past s line i action outbox state inside e own here behind. tt;
    lines = λ past s line event rest behind brings fresh here there. tt;
    begins = λ line initiators is_ready. tt;
  }

pub judgement_run_law : JudgementRunLaw
judgement_run_law = of_every_run Judges (λ units ready start has. judgement_cases units ready has start)
