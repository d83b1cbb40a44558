-- Serials count and responses answer what waits for them in every run; and where no initiator injected packets, no node did.
use Rattle.sbp_world.proofs.Words.Std.{◌≡◌, refl, subst, ℕ, false, List, ◌∷◌}
use Rattle.sbp_world.proofs.Words.Wire.{SerialsCount, Moment, Terms, terms}
use Rattle.sbp_world.proofs.Words.Target.{Disk}
use Rattle.sbp_world.proofs.Words.Laws.{EachMoment}
use Rattle.sbp_world.proofs.Words.World.{ready_logins, WorldState, AnswersAt}
use Rattle.sbp_world.proofs.Agents.Management.Holding.{past_terms}
use Rattle.sbp_world.proofs.Lists.AnswerGots.{answers_at}
use Rattle.sbp_world.proofs.Lists.Calm.{injects_before}
use Rattle.sbp_world.proofs.Lists.Courses.{EveryPlace, Keeps, at_between, at_lines}
use Rattle.sbp_world.proofs.Lists.Judging.{counts_at}
use Rattle.sbp_world.proofs.Hosts.Remaining.{serials_behind}

-- ---- at each place of a run
-- and the target injected no packets
pub record Told (past : List Moment) : Type 0 where
  pub counts : SerialsCount past
  pub answers : EachMoment AnswersAt past
  pub fair : (terms past).injects 0 ≡ false

pub told_before : (m : Moment) (past : List Moment) → Told (m ∷ past) → Told past
told_before m past t = record { counts = serials_behind m past t.counts; answers = t.answers.1; fair = injects_before m past 0 t.fair }

abbrev Nothing : List Disk → List Moment → WorldState → Type 0
Nothing start past w = Unit {0}

nothing : EveryPlace Nothing
nothing = record { after_lines = λ line run r has small size so_far. tt; between = λ line run r has small size next most told m so_far. tt }

all_told : (units ready : ℕ) (start : List Disk) → Keeps units ready start (Nothing start) (λ past w. Told past)
all_told units ready start past s later t lines more g h h_now q q_now p =
    let stands = h_now.sound.stands in
    record {
      counts = counts_at t.world stands;
      answers = answers_at t.world stands;
      fair = subst (λ (t : Terms). t.injects 0 ≡ false) (past_terms t.world stands) stands.is.fair;
    }

pub told_everywhere : EveryPlace (λ start past w. Told past)
told_everywhere = record {
  after_lines = λ line run r has small size so_far.
      at_lines Nothing (λ past w. Told past) nothing line run r.few has small size (all_told run.units (ready_logins run.initiators run.ready) run.start.disks) (record { counts = tt; answers = (tt, (tt, tt)); fair = refl }) r so_far;
  between = λ line run r has small size next most told m so_far.
      at_between Nothing (λ past w. Told past) nothing line run r.few has small size (all_told run.units (ready_logins run.initiators run.ready) run.start.disks) (record { counts = tt; answers = (tt, (tt, tt)); fair = refl }) r next most told m so_far;
}
