-- What is kept by giving a transaction up and by asking is kept by all that a target does behind its answer; and
-- what is kept by giving up, by all that it does before.
use Rattle.std.proofs.Common.{ℕ, zero, suc, ◌+◌, Bool, List, length, slice_index_or, Option, Result}
use Rattle.async_packet.specs.Labels.{LabelParts}
use Rattle.label_table.specs.declared.reply.Stale.{Stale}
use Rattle.label_table.specs.Bodies.{Body}
use Rattle.label_table.specs.Layer.{Layer, asking_step, disowning_step}
use Rattle.login_table.specs.declared.login.Login.{Login}
use Rattle.login_table.specs.Table.{Table}
use Rattle.orb_layout.specs.declared.ask.Ask.{Ask}
use Rattle.orb_layout.specs.Replies.{Answer}
use Rattle.rbc_disk.specs.Runs.{Told}
use Rattle.command_agent.specs.declared.step.AgentStep.{AgentStep}
use Rattle.mgmt_agent.specs.declared.decision.Decision.{Decision}
use Rattle.mgmt_agent.specs.declared.decision.Effect.{Effect}
use Rattle.sbp_journal.specs.declared.cause.CutCause.{CutCause}
use Rattle.sbp_journal.specs.declared.outbox.Outgoing.{Outgoing}
use Rattle.sbp_journal.specs.declared.side.Side.TheVariants as sides
use Rattle.sbp_journal.specs.Outgoings.{OutboxState}
use Rattle.sbp_target.specs.declared.purpose.Purpose.{Purpose}
use Rattle.sbp_target.specs.Agents.{cut, follow, noted}
use Rattle.sbp_target.specs.Histories.Layers.{with_asked}
use Rattle.sbp_target.specs.Histories.Moves.{Kind, MayEnd, Moves, cuts, go_on, notes, stay, turned}
use Rattle.sbp_target.specs.Management.{ask_manager, decided_by}
use Rattle.sbp_target.specs.Nodes.{Scene}
use Rattle.sbp_target.specs.Receiving.{concluded, expired_from, expired_in, reset_by, ticked_by}
use Rattle.sbp_target.specs.Replies.{Whole, scene_of}
use Rattle.sbp_target.specs.Sending.{with_side}
use Rattle.sbp_target.proofs.Histories.Moved.{ask_manager_moves, concluded_moves, decided_moves, expired_in_moves, fits_at, follow_moves, reset_moves}
use Rattle.sbp_target.proofs.Histories.Views.{Sends, packets_kept}

-- what is said of a layer and of the packets handed out
abbrev pub Said : Type 1
Said = Layer Purpose → List Outgoing → Type 0

abbrev pub At : Said → Scene → Type 0
At P s = P s.node.layer s.outbox.packets

pub record Leaves (P : Said) : Type 0 where
  pub disowns : (layer : Layer Purpose) (packets : List Outgoing) (peer : ℕ) (label : LabelParts) → P layer packets → P (disowning_step layer peer label) packets

pub record Keeps (P : Said) : Type 0 where
  pub leaves : Leaves P
  pub asks : (layer : Layer Purpose) (packets : List Outgoing) (peer : ℕ) (body : Body) (purpose : Purpose) → P layer packets → P (asking_step layer peer body purpose).1 (with_asked peer (asking_step layer peer body purpose).0 packets)

-- nothing is asked and nothing turns the layer; and nothing turns it
abbrev silent : Kind
silent = record { Fits = λ step. Unit {0}; MayAsk = ⊥; MayCut = Unit {0}; MayAnnounce = Unit {0}; MayManage = Unit {0}; MayChange = Unit {0}; MayDecide = Unit {0}; MayAnswer = ⊥; MayTurn = ⊥ }

abbrev asking : Kind
asking = record { Fits = λ step. Unit {0}; MayAsk = Unit {0}; MayCut = Unit {0}; MayAnnounce = Unit {0}; MayManage = Unit {0}; MayChange = Unit {0}; MayDecide = Unit {0}; MayAnswer = ⊥; MayTurn = ⊥ }

may : MayEnd asking
may = record { act = record { lost = λ m which cause. tt; asking = tt; cutting = tt }; announcing = tt; managing = tt; changing = tt; deciding = tt }

module _ (P : Said) where
  lapses_from : (layer : Layer Purpose) (left at : ℕ) (logins : List ℕ) (o : OutboxState) → P layer o.packets → P layer (expired_from left at logins o).packets
  unfolding expired_from
  lapses_from layer zero at logins o h = h
  lapses_from layer (suc left) at logins o h = lapses_from layer left (at + 1) logins (with_side o (sides.Expired (slice_index_or logins at 0))) h

  pub ticks_by : (r : List ℕ × Table) (s : Scene) → At P s → At P (ticked_by r s)
  ticks_by (logins, table) s h = lapses_from s.node.layer (length logins) 0 logins s.outbox h

  -- ---- what gives transactions up
  module _ (k : Leaves P) where
    gives_up : Sends silent P
    gives_up = record {
      disowns = k.disowns;
      asks_for = λ never layer packets peer body purpose a h. absurd never;
      answers = λ never layer packets p bytes rcode given h. absurd never;
      judges = λ never layer packets generation bytes h. absurd never;
      expires = λ never layer packets peer label h. absurd never;
      sees = λ never layer packets generation id h. absurd never;
    }

    behind : (x y : Scene) → Moves silent x y → At P x → At P y
    behind x y m h = packets_kept silent P gives_up x y m h

    pub notes_at : (place : ℕ) (step : AgentStep) (s : Scene) → At P s → At P (noted place step s)
    notes_at place step s h = behind s _ (go_on s s _ (stay s) (notes place step s tt)) h

    pub cuts_at : (cause : CutCause) (place : ℕ) (s : Scene) → At P s → At P (cut cause place s)
    cuts_at cause place s h = behind s _ (go_on s s _ (stay s) (cuts cause place s tt)) h

    pub decides : (d : Option Decision) (effect : Effect) (source : ℕ) (s : Scene) → At P s → At P (decided_by d effect source s)
    decides d effect source s h = behind s _ (decided_moves silent s tt tt tt d effect source s (stay s)) h

    pub sees_by : (r : Bool × Layer Purpose) (s : Scene) → P r.1 s.outbox.packets → At P (reset_by r s).1
    sees_by r s h = let t = turned r.1 s in behind t _ (reset_moves silent t tt tt r s (stay t)) h

  -- ---- what asks
  module _ (k : Keeps P) where
    sends : Sends asking P
    sends = record {
      disowns = k.leaves.disowns;
      asks_for = λ may layer packets peer body purpose a h. k.asks layer packets peer body purpose h;
      answers = λ never layer packets p bytes rcode given h. absurd never;
      judges = λ never layer packets generation bytes h. absurd never;
      expires = λ never layer packets peer label h. absurd never;
      sees = λ never layer packets generation id h. absurd never;
    }

    asked : (x y : Scene) → Moves asking x y → At P x → At P y
    asked x y m h = packets_kept asking P sends x y m h

    pub follows : (place : ℕ) (login : Login) (step : AgentStep) (s : Scene) → At P s → At P (follow place login step s)
    follows place login step s h = asked s _ (follow_moves asking s may.act.lost tt place login step s tt (stay s)) h

    pub asks_manager : (source : ℕ) (ask : Ask) (s : Scene) → At P s → At P (ask_manager source ask s)
    asks_manager source ask s h = asked s _ (ask_manager_moves asking s tt tt source ask s (stay s)) h

    -- what came of a transaction
    pub concludes : (told : Option Told) (purpose : Option Purpose) (peer : ℕ) (label : LabelParts) (answer : Answer) (w : Whole) → At P (scene_of w) → At P (scene_of (concluded told purpose peer label answer w))
    concludes told purpose peer label answer w h =
        let s = scene_of w in
        asked s _ (concluded_moves asking s may told purpose peer label answer w (fits_at asking (λ run at unit which answer w. tt) told purpose peer label answer w) (stay s)) h

    pub expires_in : (r : Result (Option Purpose) Stale × Layer Purpose) (peer : ℕ) (label : LabelParts) (s : Scene) → P r.1 s.outbox.packets → At P (expired_in r peer label s).1
    expires_in r peer label s h = let t = turned r.1 s in asked t _ (expired_in_moves asking t may r peer label s (stay t)) h
