-- What an agent does leaves the management alone: it tells nothing of logins or of the operation, and no transaction is for the operation that was not before.
use Rattle.sbp_world.proofs.Words.Std.{◌≡◌, ◌≢◌, ◌∙◌, refl, ℕ, Bool, true, false, cond, List, [], ◌∷◌, ◌++◌, Option, Some, None}
use Rattle.sbp_world.proofs.Words.Wire.{LabelParts, Packet, Asked, ReplyKind, Body, Layer, asking_step, answering_step, disowning_step, Life, under_way, for_nobody, CutCause, Side}
use Rattle.sbp_world.proofs.Words.Target.{Told, Access, Purpose, cut, clear_one, cut_placed, NodeState, Scene, expire_agent, Whole, replied_to, scene_of, accessed_by, answered, clear_from, cut_all, Asks, Kind, MayAct, Moves, Tells, announced, back, by_agent, by_disc, by_manager, cleared, departed, died, ended, failed, go_on, lapsed, managed, opened, plain, ran, stay, unsent, was_cut}
use Rattle.sbp_world.proofs.Words.Initiator.{Answer}
use Rattle.label_table.specs.History as wire
use Rattle.label_table.specs.History.{is_same}
use Rattle.sbp_journal.specs.declared.side.Side.TheVariants as sides
use Rattle.sbp_target.specs.declared.purpose.Purpose.TheVariants as purposes
use Rattle.sbp_target.proofs.Histories.Calling.{answer_known}
use Rattle.sbp_target.proofs.Histories.Primitives.{Known, asks_known, disowns_known, live_on, nobody_is, none_known}
use Rattle.sbp_target.proofs.Histories.Seats.{Lives}
use Rattle.sbp_target.specs.Histories.Moves.{Move, held}
use Rattle.sbp_target.specs.Histories.Moves as moves
use Rattle.sbp_target.proofs.Histories.Moved.{access_moves, clear_from_moves, clear_one_moves, cut_all_moves, cut_placed_moves, expire_agent_moves, fits_at, replied_moves}
use Rattle.sbp_target.proofs.Histories.Views.{Sends, node_left, packets_kept, sides_kept}

-- ---- what is told

-- nothing of logins or of the operation
abbrev pub IsQuiet : Side → Type 0
IsQuiet (sides.Own note) = ⊥
IsQuiet (sides.Managed node function subject status login) = ⊥
IsQuiet (sides.ManageFailed node cause) = ⊥
IsQuiet (sides.Held login) = ⊥
IsQuiet (sides.Expired login) = ⊥
IsQuiet (sides.Back login) = ⊥
IsQuiet (sides.Left login) = ⊥
IsQuiet _ = Unit {0}

abbrev pub AreQuiet : List Side → Type 0
AreQuiet [] = Unit {0}
AreQuiet (side ∷ later) = IsQuiet side × AreQuiet later

pub quiet_more : (told : List Side) (side : Side) → AreQuiet told → IsQuiet side → AreQuiet (told ++ side ∷ [])
quiet_more [] side h f = (f, tt)
quiet_more (first ∷ told) side h f = (h.0, quiet_more told side h.1 f)

-- ---- transactions

abbrev pub ForManager : Lives → (peer : ℕ) → LabelParts → ReplyKind → Type 0
ForManager lives peer label kind = lives peer label ≡ under_way kind (Some purposes.Management)

-- each that is for the operation now was so before
pub record From (old : Lives) (layer : Layer Purpose) : Type 0 where
  pub lives : Lives
  pub known : Known layer lives
  pub before : (peer : ℕ) (label : LabelParts) (kind : ReplyKind) → ForManager lives peer label kind → ForManager old peer label kind

began_if : (b : Bool) (own kind : ReplyKind) (purpose : Purpose) (life : Life Purpose) → purpose ≢ purposes.Management → cond b (under_way own (Some purpose)) life ≡ under_way kind (Some purposes.Management) → life ≡ under_way kind (Some purposes.Management)
began_if true own kind purpose life n e = absurd (n (same e))
  where
    same : under_way own (Some purpose) ≡ under_way kind (Some purposes.Management) → purpose ≡ purposes.Management
    same e = cc
began_if false own kind purpose life n e = e

left_if : (b : Bool) (kind : ReplyKind) (life : Life Purpose) → cond b (for_nobody life) life ≡ under_way kind (Some purposes.Management) → life ≡ under_way kind (Some purposes.Management)
left_if true kind life e = absurd (nobody_is life purposes.Management kind e)
left_if false kind life e = e

abbrev FromAsking : Lives → Option Asked × Layer Purpose → Type 0
FromAsking old r = From old r.1

from_asking : (old : Lives) (layer : Layer Purpose) (peer : ℕ) (body : Body) (purpose : Purpose) (r : Option Asked × Layer Purpose) → purpose ≢ purposes.Management → asking_step layer peer body purpose ≡ r → From old layer → FromAsking old r
from_asking old layer peer body purpose (Some asked, now) n e f =
    let b = asks_known layer now f.lives peer body purpose asked f.known e in
    record {
      lives = live_on (wire.began peer asked.label b.kind purpose) f.lives;
      known = b.known;
      before = λ p label kind h. f.before p label kind (began_if (is_same peer asked.label p label) b.kind kind purpose (f.lives p label) n h);
    }
from_asking old layer peer body purpose (None, now) n e f =
    record { lives = f.lives; known = none_known layer now f.lives peer body purpose f.known e; before = f.before }

from_disowning : (old : Lives) (layer : Layer Purpose) (peer : ℕ) (label : LabelParts) → From old layer → From old (disowning_step layer peer label)
from_disowning old layer peer label f = record {
  lives = live_on (wire.disowned peer label) f.lives;
  known = disowns_known layer f.lives peer label f.known;
  before = λ p l kind h. f.before p l kind (left_if (is_same peer label p l) kind (f.lives p l) h);
}

from_answering : (old : Lives) (layer : Layer Purpose) (p : Packet) (bytes : List ℕ) (rcode : ℕ) (given : List ℕ) → From old layer → From old (answering_step layer p bytes rcode given).1
from_answering old layer p bytes rcode given f =
    record { lives = f.lives; known = answer_known layer f.lives p bytes rcode given f.known; before = f.before }

-- ---- an agent and all that follows its steps

-- What was done since: the management stands as it did, and what was told is quiet.
pub record Calm (old : Lives) (first : NodeState) (s : Scene) : Type 0 where
  pub logins : s.node.logins ≡ first.logins
  pub keys : s.node.keys ≡ first.keys
  pub manager : s.node.manager ≡ first.manager
  pub rom : s.node.rom ≡ first.rom
  pub quiet : AreQuiet s.outbox.sides
  pub from : From old s.node.layer

-- what may be done so
abbrev calm : Kind
calm = record {
  Fits = λ step. Unit {0};
  MayAsk = Unit {0};
  MayCut = Unit {0};
  MayAnnounce = Unit {0};
  MayManage = ⊥;
  MayChange = Unit {0};
  MayDecide = ⊥;
  MayAnswer = Unit {0};
  MayTurn = ⊥;
}

act : MayAct calm
act = record { lost = λ m which cause. tt; asking = tt; cutting = tt }

quiet_side : (side : Side) → Tells calm side → IsQuiet side
quiet_side _ (ran place m step outcome f e) = tt
quiet_side _ (died place step cause f e) = tt
quiet_side _ (ended place m step status f e) = tt
quiet_side _ (plain _ (was_cut place cause c)) = tt
quiet_side _ (plain _ (opened place orb t)) = tt
quiet_side _ (plain _ (announced place t)) = tt
quiet_side _ (plain _ (unsent place t)) = tt
quiet_side _ (plain _ (failed source cause never)) = absurd never
quiet_side _ (plain _ (managed source function subject status login never)) = absurd never
quiet_side _ (plain _ (cleared unit t)) = tt
quiet_side _ (plain _ (back login never)) = absurd never
quiet_side _ (plain _ (departed login never)) = absurd never
quiet_side _ (plain _ (held login never)) = absurd never
quiet_side _ (plain _ (lapsed login never)) = absurd never

agent_no : (place : ℕ) → purposes.Agent place ≢ purposes.Management
agent_no place e = cc

unsolicited_no : purposes.Unsolicited ≢ purposes.Management
unsolicited_no e = cc

no_manager : (body : Body) (purpose : Purpose) → Asks calm body purpose → purpose ≢ purposes.Management
no_manager _ _ (by_agent place ask is_status fifo outgoing body e) = agent_no place
no_manager _ _ (by_manager ask outgoing body never e) = absurd never
no_manager _ _ (by_disc fifo) = unsolicited_no

sends : (old : Lives) → Sends calm (λ layer packets. From old layer)
sends old = record {
  disowns = λ layer packets peer label f. from_disowning old layer peer label f;
  asks_for = λ may layer packets peer body purpose a f. from_asking old layer peer body purpose (asking_step layer peer body purpose) (no_manager body purpose a) refl f;
  answers = λ may layer packets p bytes rcode given f. from_answering old layer p bytes rcode given f;
  judges = λ never layer packets generation bytes f. absurd never;
  expires = λ never layer packets peer label f. absurd never;
  sees = λ never layer packets generation id f. absurd never;
}

module _ (old : Lives) (first : NodeState) where
  calms : (x y : Scene) → Moves calm x y → Calm old first x → Calm old first y
  calms x y m h =
      let n = node_left calm x y m in
      record {
        logins = n.logins (λ never. never) ∙ h.logins;
        keys = n.keys ∙ h.keys;
        manager = n.manager (λ never. never) (λ never. never) ∙ h.manager;
        rom = n.rom ∙ h.rom;
        quiet = sides_kept calm AreQuiet (λ told side t q. quiet_more told side q (quiet_side side t)) x y m h.quiet;
        from = packets_kept calm (λ layer packets. From old layer) (sends old) x y m h.from;
      }

  pub answers : (request : Packet) (bytes : List ℕ) (rcode : ℕ) (given : List ℕ) (s : Scene) → Calm old first s → Calm old first (answered request bytes rcode given s)
  answers request bytes rcode given s h = calms s _ (go_on s s _ (stay s) (moves.answers request bytes rcode given s tt)) h

  -- ---- cuts and cleared units

  cuts_off : (cause : CutCause) (place : ℕ) (s : Scene) → Move calm s (cut cause place s)
  cuts_off cause place s = moves.cuts cause place s tt

  pub cuts_at : (cause : CutCause) (place : ℕ) (s : Scene) → Calm old first s → Calm old first (cut cause place s)
  cuts_at cause place s h = calms s _ (go_on s s _ (stay s) (cuts_off cause place s)) h

  pub cuts_all : (cause : CutCause) (unit : Option ℕ) (s : Scene) → Calm old first s → Calm old first (cut_all cause unit s)
  cuts_all cause unit s h = calms s _ (cut_all_moves (Move calm) cuts_off s cause unit s (stay s)) h

  pub cuts_placed : (place : Option ℕ) (cause : CutCause) (s : Scene) → Calm old first s → Calm old first (cut_placed place cause s)
  cuts_placed place cause s h = calms s _ (cut_placed_moves (Move calm) cuts_off s place cause s (stay s)) h

  pub clears_from : (left unit : ℕ) (s : Scene) → Calm old first s → Calm old first (clear_from left unit s)
  clears_from left unit s h = calms s _ (clear_from_moves calm s tt left unit s (stay s)) h

  pub clears_one : (unit : ℕ) (s : Scene) → Calm old first s → Calm old first (clear_one unit s)
  clears_one unit s h = calms s _ (clear_one_moves calm s tt unit s (stay s)) h

  -- ---- a reply, a time-out

  pub replies : (told : Option Told) (place peer : ℕ) (label : LabelParts) (answer : Answer) (w : Whole) → Calm old first (scene_of w) → Calm old first (scene_of (replied_to told place peer label answer w))
  replies told place peer label answer w h =
      let s = scene_of w in
      let fits = fits_at calm (λ run at unit which given t. tt) told (Some (purposes.Agent place)) peer label answer w in
      calms s _ (replied_moves calm s act tt tt told place peer label answer w fits (stay s)) h

  pub expires_agent : (place peer : ℕ) (label : LabelParts) (s : Scene) → Calm old first s → Calm old first (expire_agent place peer label s)
  expires_agent place peer label s h = calms s _ (expire_agent_moves calm s act.lost tt place peer label s (stay s)) h

  -- ---- the registers of an agent

  pub accesses_by : (access : Access) (place : ℕ) (request : Packet) (bytes : List ℕ) (s : Scene) → Calm old first s → Calm old first (accessed_by access place request bytes s)
  accesses_by access place request bytes s h = calms s _ (access_moves calm s act (λ ask. tt) tt request bytes access place s (stay s)) h
