-- In each turn of every run what a decision brings is what its note says.
use Rattle.std.proofs.Common.{refl, sym, subst, ℕ, ◌<◌, List}
use Rattle.login_table.specs.Sound.{IsSound, IsTable}
use Rattle.login_table.specs.Table.{Table}
use Rattle.rbc_disk.specs.Disk.{Disk}
use Rattle.sbp_journal.specs.Run.{Moment}
use Rattle.sbp_laws.specs.Decided.{DecisionStands}
use Rattle.sbp_laws.specs.Targets.{over, target_at}
use Rattle.sbp_world.specs.Worlds.{Scene}
use Rattle.sbp_world.proofs.Agents.CrewFirsts.{agrees}
use Rattle.sbp_world.proofs.Agents.Management.Holding.{good_of}
use Rattle.sbp_world.proofs.Agents.Management.Still.{hist}
use Rattle.turn_laws.specs.Cleared.{ClearsWhereDue}
use Rattle.turn_laws.specs.Cuts.{CutsWhereDue}
use Rattle.turn_laws.specs.Decided.{DecidedLaw}
use Rattle.turn_laws.specs.Decisions.{DecidesWhereDue}
use Rattle.turn_laws.specs.Logins.{LoginsWhereDue}
use Rattle.turn_laws.proofs.Calls.{Cases}
use Rattle.turn_laws.proofs.Cleared.{cleared_cases}
use Rattle.turn_laws.proofs.Cuts.{cuts_cases}
use Rattle.turn_laws.proofs.DecisionNotes.{decision_cases}
use Rattle.turn_laws.proofs.DecisionWords.{stands_as_told}
use Rattle.turn_laws.proofs.Logins.{login_cases}
use Rattle.turn_laws.proofs.Pass.{of_every_run}
use Rattle.turn_laws.proofs.Places.{Place}

module _ (units ready : ℕ) (has : 0 < units) (start : List Disk) where
  abbrev C : Cases units ready start (CutsWhereDue start)
  C = cuts_cases units ready has start

  abbrev K : Cases units ready start (ClearsWhereDue start)
  K = cleared_cases units ready has start

  abbrev D : Cases units ready start (DecidesWhereDue start)
  D = decision_cases units ready has start

  abbrev L : Cases units ready start (LoginsWhereDue start)
  L = login_cases units ready has start

  -- the logins of the terms are the target's
  pub sound_table : (past : List Moment) (s : Scene) → Place units ready start past s → IsTable (over (target_at start (hist past s.world))).table
  sound_table past s here =
      subst (λ (t : Table). IsTable t) (sym (agrees units ready has start s.world here.holds).table) (good_of units ready here.holds.calls s.world.target has here.holds.made).table

  sound_at : (past : List Moment) (s : Scene) → Place units ready start past s → IsSound (over (target_at start (hist past s.world))).table.places
  sound_at past s here = (sound_table past s here).sound

  decided_cases : Cases units ready start (DecisionStands start)
  decided_cases = record {
    heard = λ past s serial again run one found zero_to may told here behind j.
        stands_as_told start _ (sound_at past s here)
        (C.heard past s serial again run one found zero_to may told here behind j) (K.heard past s serial again run one found zero_to may told here behind j)
        (D.heard past s serial again run one found zero_to may told here behind j) (L.heard past s serial again run one found zero_to may told here behind j);
    heard_own = λ past s serial again one i found to_is inside told here behind j.
        stands_as_told start _ (sound_at past s here)
        (C.heard_own past s serial again one i found to_is inside told here behind j) (K.heard_own past s serial again one i found to_is inside told here behind j)
        (D.heard_own past s serial again one i found to_is inside told here behind j) (L.heard_own past s serial again one i found to_is inside told here behind j);
    late = λ past s serial request done t found node_is e told here behind j.
        stands_as_told start _ (sound_at past s here)
        (C.late past s serial request done t found node_is e told here behind j) (K.late past s serial request done t found node_is e told here behind j)
        (D.late past s serial request done t found node_is e told here behind j) (L.late past s serial request done t found node_is e told here behind j);
    late_own = λ past s serial request i outbox state found node_is inside e told here behind j.
        stands_as_told start _ (sound_at past s here)
        (C.late_own past s serial request i outbox state found node_is inside e told here behind j) (K.late_own past s serial request i outbox state found node_is inside e told here behind j)
        (D.late_own past s serial request i outbox state found node_is inside e told here behind j) (L.late_own past s serial request i outbox state found node_is inside e told here behind j);
    sees = λ past s told here behind j.
        stands_as_told start _ (sound_at past s here) (C.sees past s told here behind j) (K.sees past s told here behind j) (D.sees past s told here behind j) (L.sees past s told here behind j);
    sees_own = λ past s i inside told here behind j.
        stands_as_told start _ (sound_at past s here)
        (C.sees_own past s i inside told here behind j) (K.sees_own past s i inside told here behind j) (D.sees_own past s i inside told here behind j) (L.sees_own past s i inside told here behind j);
    ticks = λ past s told here behind j.
        stands_as_told start _ (sound_at past s here) (C.ticks past s told here behind j) (K.ticks past s told here behind j) (D.ticks past s told here behind j) (L.ticks past s told here behind j);
    ends = λ past s done here behind.
        stands_as_told start _ (sound_at past s here) (C.ends past s done here behind) (K.ends past s done here behind) (D.ends past s done here behind) (L.ends past s done here behind);
    acts = λ past s line i action outbox state inside e told here behind.
        stands_as_told start _ (sound_at past s here)
        (C.acts past s line i action outbox state inside e told here behind) (K.acts past s line i action outbox state inside e told here behind)
        (D.acts past s line i action outbox state inside e told here behind) (L.acts past s line i action outbox state inside e told here behind);
    lines = λ past s line event rest behind brings fresh here there.
        stands_as_told start _ (sound_at past s here)
        (C.lines past s line event rest behind brings fresh here there) (K.lines past s line event rest behind brings fresh here there)
        (D.lines past s line event rest behind brings fresh here there) (L.lines past s line event rest behind brings fresh here there);
    begins = λ line initiators is_ready. record { cut = refl; cleared = refl; moved = refl };
  }

pub decided_law : DecidedLaw
decided_law = of_every_run DecisionStands (λ units ready start has. decided_cases units ready has start)
