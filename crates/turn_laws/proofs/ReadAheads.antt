-- Who reads ahead is not dead, and a packet carries what is read: so it is behind each step of an agent to which a reply came, or that lost a transaction.
use Rattle.std.proofs.Common.{◌≡◌, ◌∙◌, sym, ap, ◌&&◌, ◌||◌, not, is_some, refl, Bool, true, false}
use Rattle.command_agent.specs.Machine.{Machine, is_ahead}
use Rattle.command_agent.specs.declared.phase.Phase.{Phase}
use Rattle.command_agent.specs.declared.phase.Phase.TheVariants as phases
use Rattle.command_agent.specs.declared.step.AgentStep.{AgentStep}
use Rattle.orb_layout.specs.declared.ask.Ask.{Ask}
use Rattle.orb_layout.specs.declared.ask.Ask.TheVariants.{Nothing}
use Rattle.sbp_laws.specs.Agents.{is_dead}
use Rattle.sbp_target.proofs.Histories.Stepped.{Behind, Carries, is_asked, is_bare}

pub record MayReadAhead (ask : Ask) (m : Machine) : Type 0 where
  pub alive : is_asked ask ≡ true → is_dead m ≡ false
  pub carried : Carries ask m.outgoing

pub none_ahead : {m : Machine} → MayReadAhead Nothing m
none_ahead = record { alive = λ e. absurd (let no : false ≡ true = e in cc); carried = tt }

alive_in : (phase : Phase) (m : Machine) → is_bare phase ≡ false → is_dead (record m { phase = phase }) ≡ false
alive_in phases.WritingStatus m e = refl
alive_in phases.ReadingTable m e = refl
alive_in (phases.ReadingData wanted) m e = refl
alive_in phases.Answering m e = refl
alive_in phases.Reset m e = refl
alive_in phases.Fetching m e = refl
alive_in phases.Suspended m e = refl
alive_in phases.ReadingNext m e = refl
alive_in phases.WritingLastStatus m e = absurd (let no : true ≡ false = e in cc)
alive_in phases.Dead m e = absurd (let no : true ≡ false = e in cc)

pub behind_reads : {had : Bool} (s : AgentStep × Machine) → Behind had s → MayReadAhead s.0.ahead s.1
behind_reads {had} s b = record { alive = λ e. by e (is_bare s.1.phase) refl; carried = b.carried_ahead }
  where
    reads : is_asked s.0.ahead ≡ true → is_ahead s.1.ahead ≡ true
    reads e = b.ahead ∙ ap (λ x. x || (had && not (is_some s.0.dead || s.0.promoted))) e

    by : is_asked s.0.ahead ≡ true → (x : Bool) → is_bare s.1.phase ≡ x → is_dead s.1 ≡ false
    by e false f = alive_in s.1.phase s.1 f
    by e true f = absurd (let no : true ≡ false = sym (reads e) ∙ b.fit.bare f in cc)
