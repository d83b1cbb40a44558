-- An agent has an ORB read ahead only while a main transaction of it is under way.
use Rattle.sbp_world.proofs.Words.Std.{◌≡◌, refl, true}
use Rattle.sbp_world.proofs.Words.Target.{Phase, is_sent, KnowsAhead, Progress, OrbList}
use Rattle.sbp_world.proofs.Words.Initiator.{CommandOrb, OrbPointer}
use Rattle.command_agent.specs.declared.phase.Phase.TheVariants as phases
use Rattle.command_agent.specs.declared.phase.ReadAhead.TheVariants as aheads

pub kept_idle : {A : Type 0} (orb : CommandOrb) → aheads.Kept orb ≡ aheads.Idle → A
kept_idle orb e = absurd (let no : aheads.Kept orb ≡ aheads.Idle = e in cc)

pub kept_sent : (phase : Phase) (l : OrbList) (p : Progress) (next : OrbPointer) (orb : CommandOrb) → KnowsAhead l p phase next (aheads.Kept orb) → is_sent phase ≡ true
kept_sent phases.ReadingTable l p next orb k = refl
kept_sent (phases.ReadingData wanted) l p next orb k = refl
kept_sent phases.Answering l p next orb k = refl
kept_sent phases.WritingStatus l p next orb k = refl
kept_sent phases.Fetching l p next orb k = kept_idle orb k
kept_sent phases.ReadingNext l p next orb k = kept_idle orb k
kept_sent phases.WritingLastStatus l p next orb k = kept_idle orb k
kept_sent phases.Reset l p next orb k = kept_idle orb k
kept_sent phases.Suspended l p next orb k = kept_idle orb k
kept_sent phases.Dead l p next orb k = kept_idle orb k
