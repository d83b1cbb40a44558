-- Each write that an agent asks for behind a reply to its main transaction finds a label: behind a read any does, and behind a write it is another one.
use Rattle.sbp_world.proofs.Words.Std.{◌≡◌, refl, sym, subst, ℕ, is_some, cond, List, ◌∷◌, ◌++◌, map, Option, Some}
use Rattle.sbp_world.proofs.Words.Wire.{Moment, Packet, Sent, asked, said}
use Rattle.sbp_world.proofs.Words.Target.{AgentStep, Login, Machine, Main, Phase, PlainDisk, Told, advanced, login_at, main_ask, reply_step, served, told_or, writes_status}
use Rattle.sbp_world.proofs.Words.Initiator.{Answer, Write}
use Rattle.sbp_world.proofs.Words.World.{IsTame, WorldState, after, after_all, beginning, begun, history_of, machine_at, more_deliveries}
use Rattle.command_agent.specs.declared.phase.Phase.TheVariants as phases
use Rattle.sbp_world.specs.Completing.LabelsFollowing.{AllFollow, AsksForOther, ChunksDiffer, FindsNext, IsOtherThan, NextLaw, StatusesDiffer}
use Rattle.sbp_world.specs.Counting.Brings.{IsMainReply}
use Rattle.sbp_world.proofs.Completing.LabelsChunks.{chunks_law}
use Rattle.sbp_world.proofs.Completing.LabelsData.{statuses_law}
use Rattle.sbp_world.proofs.Completing.LabelsFollowing.{following_law}
use Rattle.sbp_world.proofs.Lists.StatusSteps.{none_wrote}

-- ---- by what was under way
-- where that is no write, each is another one
module _ (m : Machine) (login : Login) (s : AgentStep × Machine) where
  abbrev IsNextIn : Phase → (offset : ℕ) → Type 0
  IsNextIn ph offset = IsOtherThan (main_ask ph m) (writes_status ph) login.fifo m.outgoing (cond (is_some s.0.ended) login.fifo offset) s.1.outgoing

  by_phase : (phase : Phase) → m.phase ≡ phase → ((offset : ℕ) → IsNextIn phase offset) → AsksForOther m login s
  by_phase phase e next offset size wrote = subst (λ ph. IsNextIn ph offset) (sym e) (next offset)

-- behind its last status block an agent asks for nothing
last_quiet : (m : Machine) (place : ℕ) (plain : PlainDisk) (told : Option Told) (answer : Answer) → m.phase ≡ phases.WritingLastStatus → (offset size : ℕ) → (reply_step m place plain told Main answer).0.ask ≡ Write offset size → ⊥
unfolding reply_step
last_quiet m place plain told answer e offset size wrote =
    none_wrote offset size (subst (λ ph. (served place plain (told_or told) (advanced ph m answer).0 (advanced ph m answer).1).0.ask ≡ Write offset size) e wrote)

module _ (past : List Moment) (w : WorldState) (chunks : ChunksDiffer past w) (statuses : StatusesDiffer past w) (tame : IsTame past) (one : Sent) (packet : Packet) (place : ℕ) (login : Login) (reply : IsMainReply w one packet place) (at : login_at w.target place ≡ Some login) (plain : PlainDisk) (told : Option Told) (answer : Answer) where
  abbrev M : Machine
  M = machine_at w place

  abbrev step : AgentStep × Machine
  step = reply_step M place plain told Main answer

  other : (phase : Phase) → M.phase ≡ phase → AsksForOther M login step
  other phases.Fetching e = by_phase M login step phases.Fetching e (λ offset. tt)
  other phases.ReadingTable e = by_phase M login step phases.ReadingTable e (λ offset. tt)
  other (phases.ReadingData wanted) e = by_phase M login step (phases.ReadingData wanted) e (λ offset. tt)
  other phases.ReadingNext e = by_phase M login step phases.ReadingNext e (λ offset. tt)
  other phases.Suspended e = by_phase M login step phases.Suspended e (λ offset. tt)
  other phases.Reset e = by_phase M login step phases.Reset e (λ offset. tt)
  other phases.Dead e = by_phase M login step phases.Dead e (λ offset. tt)
  other phases.Answering e = chunks tame one packet place login reply at e plain told answer
  other phases.WritingStatus e = statuses tame one packet place login reply at e plain told answer
  other phases.WritingLastStatus e = λ offset size wrote. absurd (last_quiet M place plain told answer e offset size wrote)

finds_next : (past : List Moment) (w : WorldState) → AllFollow past w → ChunksDiffer past w → StatusesDiffer past w → FindsNext past w
finds_next past w follow chunks statuses tame one packet place login reply at plain told answer offset size wrote fits =
    (follow one packet place login reply at).serves _ _ fits (other past w chunks statuses tame one packet place login reply at plain told answer (machine_at w place).phase refl offset size wrote)

-- ---- each place of a run
pub next_law : NextLaw
next_law = record {
  after_lines = λ line run r has small size.
      finds_next (history_of line run) (after (beginning run) run.entries).world (following_law.after_lines line run r has small size) (chunks_law.after_lines line run r has small size) (statuses_law.after_lines line run r has small size);
  between = λ line run r has small size next most told m.
      let w = (after_all told (begun (after (beginning run) run.entries))).world in
      finds_next (map said w.fresh ++ asked next (more_deliveries most) ∷ history_of line run) w (following_law.between line run r has small size next most told m) (chunks_law.between line run r has small size next most told m) (statuses_law.between line run r has small size next most told m);
}
