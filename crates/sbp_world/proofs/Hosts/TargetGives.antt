-- What the target tells in each call is no note of an initiator, and what it sends is no write of a quadlet.
use Rattle.sbp_world.proofs.Words.Std.{subst, ℕ, ◌==◌, nat_le, Bool, true, false, cond, List, length, Option, Some, None}
use Rattle.sbp_world.proofs.Words.Wire.{largest, LabelParts, Body, block_read, block_write, quadlet_read, asking_step, judging_step, Side}
use Rattle.sbp_world.proofs.Words.Target.{Told, Purpose, agent_body, Asks, Moves, by_agent, by_disc, by_manager, free, Tells, announced, back, cleared, departed, died, ended, failed, lapsed, managed, opened, plain, ran, unsent, was_cut, manager_body, Scene, TellsIn, expired, received, seen, ticked, with_layer, Whole, scene_of}
use Rattle.sbp_world.proofs.Words.Initiator.{Ask}
use Rattle.sbp_world.proofs.Words.World.{AreOthers, IsOther}
use Rattle.orb_layout.specs.declared.ask.Ask.TheVariants as asks_for
use Rattle.sbp_target.specs.Histories.Moves.{held}
use Rattle.sbp_target.proofs.Histories.Views.{packets_kept, sides_kept}
use Rattle.sbp_target.proofs.Histories.Views as moves
use Rattle.sbp_world.proofs.Hosts.Mild.{AreMild, FromTarget, IsMildBody, answers_more, asked_mild, asked_more}
use Rattle.sbp_world.proofs.Hosts.Others.{more}

abbrev pub In : Scene → Type 0
In s = FromTarget s.outbox

-- ---- what is told
other : (side : Side) → Tells free side → IsOther side
other _ (ran place m step outcome f e) = tt
other _ (died place step cause f e) = tt
other _ (ended place m step status f e) = tt
other _ (plain _ (was_cut place cause c)) = tt
other _ (plain _ (opened place orb t)) = tt
other _ (plain _ (announced place t)) = tt
other _ (plain _ (unsent place t)) = tt
other _ (plain _ (failed source cause t)) = tt
other _ (plain _ (managed source function subject status login a)) = tt
other _ (plain _ (cleared unit a)) = tt
other _ (plain _ (back login a)) = tt
other _ (plain _ (departed login a)) = tt
other _ (plain _ (held login a)) = tt
other _ (plain _ (lapsed login a)) = tt

-- ---- what is sent: no answer and no request writes a quadlet
-- an agent and the management agent ask for reads and for writes of blocks
abbrev MayAsk : Option Body → Type 0
MayAsk None = Unit {0}
MayAsk (Some body) = IsMildBody body

may_if : (b : Bool) (x y : Option Body) → MayAsk x → MayAsk y → MayAsk (cond b x y)
may_if true x y m n = m
may_if false x y m n = n

agent_may : (ask : Ask) (is_status : Bool) (fifo : ℕ) (outgoing : List ℕ) → MayAsk (agent_body ask is_status fifo outgoing)
agent_may asks_for.Nothing is_status fifo outgoing = tt
agent_may (asks_for.Read offset len) is_status fifo outgoing = may_if (nat_le len largest) (Some (block_read offset len)) None tt tt
agent_may (asks_for.Write offset len) is_status fifo outgoing = may_if (nat_le (length outgoing) largest) (Some (block_write (cond is_status fifo offset) outgoing)) None tt tt

manager_may : (ask : Ask) (outgoing : List ℕ) → MayAsk (manager_body ask outgoing)
manager_may asks_for.Nothing outgoing = agent_may asks_for.Nothing false 0 outgoing
manager_may (asks_for.Read offset len) outgoing = may_if (len == 4) (Some (quadlet_read offset)) (agent_body (asks_for.Read offset len) false 0 outgoing) tt (agent_may (asks_for.Read offset len) false 0 outgoing)
manager_may (asks_for.Write offset len) outgoing = agent_may (asks_for.Write offset len) false 0 outgoing

asks_mild : (body : Body) (purpose : Purpose) → Asks free body purpose → IsMildBody body
asks_mild _ _ (by_agent place ask is_status fifo outgoing body e) = subst MayAsk e (agent_may ask is_status fifo outgoing)
asks_mild _ _ (by_manager ask outgoing body m e) = subst MayAsk e (manager_may ask outgoing)
asks_mild _ _ (by_disc fifo) = tt

sends : moves.Sends free (λ layer packets. AreMild packets)
sends = record {
  disowns = λ layer packets peer label h. h;
  asks_for = λ may layer packets peer body purpose a h. asked_more peer (asking_step layer peer body purpose).0 packets (asked_mild layer peer body purpose (asks_mild body purpose a)) h;
  answers = λ may layer packets p bytes rcode given h. answers_more layer packets p bytes rcode given h;
  judges = λ may layer packets generation bytes h. h;
  expires = λ may layer packets peer label h. h;
  sees = λ may layer packets generation id h. h;
}

pub gives : (x y : Scene) → Moves free x y → In x → In y
gives x y m h =
    (sides_kept free AreOthers (λ told side t i. more told side i (other side t)) x y m h.0, packets_kept free (λ layer packets. AreMild packets) sends x y m h.1)

-- ---- each call
pub receives : (told : Option Told) (generation : ℕ) (bytes : List ℕ) (w : Whole) (before now : List ℕ) → TellsIn told (judging_step w.node.layer generation bytes).0 (with_layer (judging_step w.node.layer generation bytes).1 w) before now → In (scene_of w) → In (scene_of (received told generation bytes w).1)
receives told generation bytes w before now t h = gives (scene_of w) _ (moves.receives told generation bytes w) h

pub expires : (peer : ℕ) (label : LabelParts) (s : Scene) → In s → In (expired peer label s).1
expires peer label s h = gives s _ (moves.expires peer label s) h

pub sees : (generation id : ℕ) (s : Scene) → In s → In (seen generation id s).1
sees generation id s h = gives s _ (moves.sees generation id s) h

pub ticks : (s : Scene) → In s → In (ticked s)
ticks s h = gives s _ (moves.ticks s) h
