-- At each moment of a history, before which the agents of the terms of the target waited for what they asked for as packets were got, each agent has the buffer and the data that its
-- reads brought since its turn came to its ORB, behind the response that brought the ORB.
use Rattle.sbp_world.proofs.Words.Std.{◌≡◌, ◌∙◌, refl, sym, ap, subst, ℕ, true, List, [], ◌∷◌, ◌++◌, Some}
use Rattle.sbp_world.proofs.Words.Wire.{Moment, asked, said, terms, Note}
use Rattle.sbp_world.proofs.Words.Target.{Main, Machine, Disk}
use Rattle.sbp_world.proofs.Words.Initiator.{CommandOrb}
use Rattle.sbp_world.proofs.Words.Laws.{Moved, answer_in, answered_at, packet_at, receiver_in, Agent, agent_at, for_agent, is_serial, over, purpose_of, target_at, EachMoment}
use Rattle.sbp_world.proofs.Words.World.{AreAskedAt, main_read, own_reads, AskedAsGot, IsBrought}
use Rattle.sbp_journal.specs.declared.note.Note.TheVariants as notes
use Rattle.sbp_world.proofs.Lists.FedFolds.{AreSo, AreStill, IsKept}
use Rattle.sbp_world.proofs.Lists.FedGoing as going
use Rattle.sbp_world.proofs.Lists.FedGoing.{IsNoGot, same_reads}
use Rattle.sbp_world.proofs.Lists.FedSteps.{Hears, IsFed, new_feeds}
use Rattle.sbp_world.proofs.Lists.ManageTerms.{none_is}
use Rattle.sbp_world.proofs.Lists.AgentFolds.{new_there}
use Rattle.sbp_world.proofs.Lists.OrbReading.{brought_more, got_brings}

-- ---- the agent of a place turned to an ORB that a response brought, and its reads brought these since
pub record IsTurned (start : List Disk) (past : List Moment) (place at : ℕ) (orb : CommandOrb) (reads : List Moved) : Type 0 where
  pub brought : IsBrought start past place at orb
  pub later : List Moment
  pub between : List Moment
  pub is : later ++ (between ++ said (notes.Got brought.response) ∷ brought.earlier) ≡ past
  pub reads_are : reads ≡ own_reads start place later (between ++ said (notes.Got brought.response) ∷ brought.earlier)

module _ (start : List Disk) where
  abbrev pub Fed : List Moment → ℕ → Machine → Type 0
  Fed past q m = IsFed (IsBrought start past q) (IsTurned start past q) m

  -- it turns to it
  pub turns_to : (past : List Moment) (q at : ℕ) (orb : CommandOrb) → IsBrought start past q at orb → IsTurned start past q at orb []
  turns_to past q at orb b = record { brought = b; later = []; between = b.later; is = b.is; reads_are = refl }

  -- ---- the history goes on
  turned_more : (m : Moment) → IsNoGot m → (past : List Moment) (q at : ℕ) (orb : CommandOrb) (reads : List Moved) → IsTurned start past q at orb reads → IsTurned start (m ∷ past) q at orb reads
  unfolding brought_more
  turned_more m n past q at orb reads t = record {
    brought = brought_more start m past q at orb t.brought;
    later = m ∷ t.later;
    between = t.between;
    is = ap (λ ms. m ∷ ms) t.is;
    reads_are = t.reads_are ∙ sym (same_reads start m n q t.later _);
  }

  -- nothing is asked of an agent to which its answers come
  abbrev Ready : List Moment → ℕ → Type 0
  Ready past q = Unit {0}

  turned_got : (serial : ℕ) (past : List Moment) (q at : ℕ) (orb : CommandOrb) (reads more : List Moved) → Unit {0} → main_read start past q serial ≡ more → IsTurned start past q at orb reads → IsTurned start (said (notes.Got serial) ∷ past) q at orb (reads ++ more)
  unfolding brought_more
  turned_got serial past q at orb reads more ready e t =
      let m = said (notes.Got serial) in
      record {
        brought = brought_more start m past q at orb t.brought;
        later = m ∷ t.later;
        between = t.between;
        is = ap (λ ms. m ∷ ms) t.is;
        reads_are = ap (λ xs. xs ++ more) t.reads_are ∙ ap (λ xs. own_reads start q t.later (t.between ++ said (notes.Got t.brought.response) ∷ t.brought.earlier) ++ xs) (sym e ∙ ap (λ ms. main_read start ms q serial) (sym t.is));
      }

  abbrev Spare : List Moment → ℕ → ℕ → Type 0
  Spare past q at = Unit {0}

  more : (m : Moment) → IsNoGot m → (past : List Moment) (q at : ℕ) (orb : CommandOrb) → IsBrought start past q at orb → IsBrought start (m ∷ past) q at orb
  more m n past q at orb b = brought_more start m past q at orb b

  more_got : (serial : ℕ) (past : List Moment) (q at : ℕ) (orb : CommandOrb) → Unit {0} → IsBrought start past q at orb → IsBrought start (said (notes.Got serial) ∷ past) q at orb
  more_got serial past q at orb spare b = brought_more start (said (notes.Got serial)) past q at orb b

  pub kept : (past : List Moment) → IsKept (Fed past)
  kept past = going.kept start (IsBrought start) (IsTurned start) Ready Spare turns_to more more_got turned_more turned_got past

  -- ---- a packet is got, the answer to a main request
  module _ (past : List Moment) (serial : ℕ) (waits : AreAskedAt start past) (by_target : is_serial (receiver_in ((terms past).sent serial)) 0 ≡ true) (own : ℕ) (closed : answered_at (terms past) serial ≡ Some own) (place : ℕ) (h : AreStill (Fed past) (over (target_at start past))) (purpose : purpose_of (over (target_at start past)) own ≡ for_agent place Main) where
    abbrev now : List Moment
    now = said (notes.Got serial) ∷ past

    pub hears : Hears (IsBrought start now place) (IsTurned start now place) (turns_to now place) (agent_at (over (target_at start past)) place).machine (answer_in (packet_at (terms past) serial))
    hears = going.hears start (IsBrought start) (IsTurned start) Ready Spare turns_to more more_got turned_more turned_got past serial waits (got_brings start past serial waits) (λ q. ((λ holds. tt), (λ orb kept offset next. tt))) by_target own closed place h purpose

  -- ---- at each moment
  if_brings : (note : Note) (past : List Moment) → AskedAsGot start (said note) past → going.IfBrings start (IsBrought start) (IsTurned start) Ready Spare turns_to more more_got turned_more turned_got note past
  if_brings (notes.Got serial) past waits = got_brings start past serial waits
  if_brings note past waits = tt

  if_ready : (note : Note) (past : List Moment) → going.IfReady start (IsBrought start) (IsTurned start) Ready Spare turns_to more more_got turned_more turned_got note past
  if_ready (notes.Got serial) past = λ q. ((λ holds. tt), (λ orb kept offset next. tt))
  if_ready note past = tt

  pub feeding : (past : List Moment) → EachMoment (AskedAsGot start) past → AreSo (Fed past) (target_at start past)
  feeding [] h = record {
    agents = λ q e. subst (λ (a : Agent). Fed [] q a.machine) (sym (new_there 8 q)) (new_feeds (IsBrought start [] q) (IsTurned start [] q) (turns_to [] q));
    pending = λ reply e. none_is reply e;
  }
  feeding (asked line event ∷ past) h =
      going.on_asked start (IsBrought start) (IsTurned start) Ready Spare turns_to more more_got turned_more turned_got line event past
      (going.over_now start (IsBrought start) (IsTurned start) Ready Spare turns_to more more_got turned_more turned_got past (feeding past h.1))
  feeding (said note ∷ past) h = going.on_note start (IsBrought start) (IsTurned start) Ready Spare turns_to more more_got turned_more turned_got note past h.0 (if_brings note past h.0) (if_ready note past) (feeding past h.1)
