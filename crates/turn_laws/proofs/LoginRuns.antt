-- The login law holds of every run: in each turn its three parts do.
use Rattle.std.proofs.Common.{◌≡◌, ◌∙◌, refl, ℕ, ◌<◌, Bool, true, false, List, []}
use Rattle.rbc_disk.specs.Disk.{Disk}
use Rattle.sbp_bus.specs.Packets.{end_note, judged_note}
use Rattle.sbp_journal.specs.Run.{Moment, said}
use Rattle.sbp_journal.specs.Wire.{terms}
use Rattle.sbp_journal.specs.declared.cause.Judged.{Judged}
use Rattle.sbp_journal.specs.declared.cause.Judged.TheVariants as judgements
use Rattle.sbp_journal.specs.declared.note.Note.{Note}
use Rattle.sbp_journal.specs.declared.note.Note.TheVariants as notes
use Rattle.sbp_laws.specs.Agents.{target_before}
use Rattle.sbp_laws.specs.LoginLaw.{HasLogins}
use Rattle.sbp_laws.specs.Management.{decisions_due}
use Rattle.sbp_laws.specs.Targets.{over, target_at}
use Rattle.sbp_laws.specs.Turns.{Turn, turn}
use Rattle.sbp_world.proofs.Agents.Management.Still.{hist}
use Rattle.turn_laws.specs.Decisions.{DecidesWhereDue}
use Rattle.turn_laws.specs.Login.{LoginRunLaw}
use Rattle.turn_laws.specs.Logins.{LoginsWhereDue}
use Rattle.turn_laws.proofs.Calls.{Cases}
use Rattle.turn_laws.proofs.DecisionNotes.{decision_cases, timed_out_none}
use Rattle.turn_laws.proofs.FirstRows.{got_by_rows, none_by_rows}
use Rattle.turn_laws.proofs.Logins.{login_cases}
use Rattle.turn_laws.proofs.Pass.{of_every_run}

module _ (start : List Disk) where
  -- where no decision is due
  undecided : (t : Turn) → decisions_due (target_before start t) t ≡ [] → DecidesWhereDue start t → LoginsWhereDue start t → HasLogins start t
  undecided t none d l = record { rows = none_by_rows start t (d ∙ none); decisions = d; logins = l }

  -- a packet was judged
  judged : (past : List Moment) (serial : ℕ) (by : Judged) (rest : List Note) → DecidesWhereDue start (turn past (said (judged_note serial by)) rest) → LoginsWhereDue start (turn past (said (judged_note serial by)) rest) → HasLogins start (turn past (said (judged_note serial by)) rest)
  judged past serial judgements.Got rest d l = record { rows = got_by_rows start past serial rest d; decisions = d; logins = l }
  judged past serial (judgements.Ignored cause) rest d l = undecided (turn past (said (notes.Ignored serial cause)) rest) refl d l

  late : (past : List Moment) (serial : ℕ) (rest : List Note) → DecidesWhereDue start (turn past (said (notes.TimedOut serial)) rest) → LoginsWhereDue start (turn past (said (notes.TimedOut serial)) rest) → HasLogins start (turn past (said (notes.TimedOut serial)) rest)
  late past serial rest d l = undecided (turn past (said (notes.TimedOut serial)) rest) (timed_out_none (terms past) (over (target_at start past)) serial) d l

module _ (units ready : ℕ) (has : 0 < units) (start : List Disk) where
  abbrev D : Cases units ready start (DecidesWhereDue start)
  D = decision_cases units ready has start

  abbrev L : Cases units ready start (LoginsWhereDue start)
  L = login_cases units ready has start

  ends : (past : List Moment) (done : Bool) → (let t = turn past (said (end_note done)) [] in decisions_due (target_before start t) t ≡ [])
  ends past true = refl
  ends past false = refl

  whole_cases : Cases units ready start (HasLogins start)
  whole_cases = record {
    heard = λ past s serial again run one found zero_to may told here behind j.
        judged start (hist past s.world) serial _ _ (D.heard past s serial again run one found zero_to may told here behind j) (L.heard past s serial again run one found zero_to may told here behind j);
    heard_own = λ past s serial again one i found to_is inside told here behind j.
        judged start (hist past s.world) serial _ _ (D.heard_own past s serial again one i found to_is inside told here behind j) (L.heard_own past s serial again one i found to_is inside told here behind j);
    late = λ past s serial request done t found node_is e told here behind j.
        late start (hist past s.world) serial _ (D.late past s serial request done t found node_is e told here behind j) (L.late past s serial request done t found node_is e told here behind j);
    late_own = λ past s serial request i outbox state found node_is inside e told here behind j.
        late start (hist past s.world) serial _ (D.late_own past s serial request i outbox state found node_is inside e told here behind j) (L.late_own past s serial request i outbox state found node_is inside e told here behind j);
    sees = λ past s told here behind j. undecided start _ refl (D.sees past s told here behind j) (L.sees past s told here behind j);
    sees_own = λ past s i inside told here behind j. undecided start _ refl (D.sees_own past s i inside told here behind j) (L.sees_own past s i inside told here behind j);
    ticks = λ past s told here behind j. undecided start _ refl (D.ticks past s told here behind j) (L.ticks past s told here behind j);
    ends = λ past s done here behind. undecided start (turn (hist past s.world) (said (end_note done)) []) (ends (hist past s.world) done) (D.ends past s done here behind) (L.ends past s done here behind);
    acts = λ past s line i action outbox state inside e told here behind. undecided start _ refl (D.acts past s line i action outbox state inside e told here behind) (L.acts past s line i action outbox state inside e told here behind);
    lines = λ past s line event rest behind brings fresh here there. undecided start _ refl (D.lines past s line event rest behind brings fresh here there) (L.lines past s line event rest behind brings fresh here there);
    begins = λ line initiators is_ready. undecided start _ refl (D.begins line initiators is_ready) (L.begins line initiators is_ready);
  }

pub login_run_law : LoginRunLaw
login_run_law = of_every_run HasLogins (λ units ready start has. whole_cases units ready has start)
