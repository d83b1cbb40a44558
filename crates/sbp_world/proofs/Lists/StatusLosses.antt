-- A transaction of an agent that is lost, and the status block of an ORB that ended: which address and which status it has, and that its src is 1 at the end of a list.
use Rattle.sbp_world.proofs.Words.Std.{arith, ◌≡◌, ◌∙◌, refl, sym, ap, ◌<◌, ◌^◌, ℕ, Bool, true, false, cond, Option, Some, None, Ok, false≢true}
use Rattle.sbp_world.proofs.Words.Target.{Phase, Ahead, Main, Machine, has_present, is_ahead, is_sent, ahead_lost, block_of, lost_step, main_lost, quiet, src_of, or_zero, orb_of}
use Rattle.sbp_world.proofs.Words.Initiator.{FailCause, OrbPointer, Null, At, StatusBlock, StatusKind, read_block, status_bytes}
use Rattle.sbp_world.proofs.Words.World.{has_list}
use Rattle.command_agent.specs.declared.phase.Phase.TheVariants as phases
use Rattle.orb_layout.specs.declared.ask.Ask.TheVariants as asks
use Rattle.sbp_world.proofs.Lists.StatusBytes.{fields, kind_as, reads_as}
use Rattle.sbp_world.proofs.Lists.StatusPackets.{EndSide, IsEndOf, IsOfEnd, end_of, or_before}
use Rattle.sbp_world.proofs.Lists.StatusSteps.{EndsSo, rests_in, some_none}

-- ---- what is lost
pub quiet_ahead : (m : Machine) (cause : FailCause) → (lost_step m Ahead cause).0 ≡ quiet
unfolding lost_step
quiet_ahead m cause = by (is_ahead m.ahead)
  where
    by : (b : Bool) → (cond b (ahead_lost m cause) (quiet, m)).0 ≡ quiet
    by true = refl
    by false = refl

pub asks_none : (phase : Phase) (m : Machine) (cause : FailCause) → (main_lost phase m cause).0.ended ≡ None → (main_lost phase m cause).0.ask ≡ asks.Nothing
asks_none phases.Fetching m cause e = absurd (some_none _ e)
asks_none phases.ReadingTable m cause e = absurd (some_none _ e)
asks_none (phases.ReadingData wanted) m cause e = absurd (some_none _ e)
asks_none phases.Answering m cause e = absurd (some_none _ e)
asks_none phases.WritingStatus m cause e = refl
asks_none phases.ReadingNext m cause e = refl
asks_none phases.WritingLastStatus m cause e = refl
asks_none phases.Reset m cause e = refl
asks_none phases.Suspended m cause e = refl
asks_none phases.Dead m cause e = refl

pub lost_asks : (m : Machine) (cause : FailCause) → (lost_step m Main cause).0.ended ≡ None → (lost_step m Main cause).0.ask ≡ asks.Nothing
unfolding lost_step
lost_asks m cause e = asks_none m.phase m cause e

pub present_by : (phase : Phase) (m : Machine) (cause : FailCause) → (main_lost phase m cause).1.present ≡ m.present
present_by phases.Fetching m cause = refl
present_by phases.ReadingTable m cause = refl
present_by (phases.ReadingData wanted) m cause = refl
present_by phases.Answering m cause = refl
present_by phases.WritingStatus m cause = refl
present_by phases.ReadingNext m cause = refl
present_by phases.WritingLastStatus m cause = refl
present_by phases.Reset m cause = refl
present_by phases.Suspended m cause = refl
present_by phases.Dead m cause = refl

pub lost_present : (m : Machine) (cause : FailCause) → (lost_step m Main cause).1.present ≡ m.present
unfolding lost_step
lost_present m cause = present_by m.phase m cause

pub sent_has : (phase : Phase) → is_sent phase ≡ true → has_list phase ≡ true
sent_has phases.Reset e = absurd (false≢true e)
sent_has phases.Dead e = absurd (false≢true e)
sent_has _ e = refl

-- ---- the block of an ORB that ended
pub null_src : (phase : Phase) (next : OrbPointer) → has_present phase ≡ true → rests_in phase next ≡ true → src_of next ≡ 1
null_src phases.WritingStatus Null h r = refl
null_src phases.WritingStatus (At offset) h r = absurd (false≢true r)
null_src phases.ReadingNext next h r = absurd (false≢true h)
null_src phases.Suspended next h r = absurd (false≢true h)
null_src phases.Fetching next h r = absurd (false≢true r)
null_src phases.ReadingTable next h r = absurd (false≢true r)
null_src (phases.ReadingData wanted) next h r = absurd (false≢true r)
null_src phases.Answering next h r = absurd (false≢true r)
null_src phases.WritingLastStatus next h r = absurd (false≢true r)
null_src phases.Reset next h r = absurd (false≢true r)
null_src phases.Dead next h r = absurd (false≢true r)

pub src_small : (next : OrbPointer) → src_of next < 2
src_small Null = omega arith
src_small (At offset) = omega arith

pub present_is : (m : Machine) → has_present m.phase ≡ true → orb_of m ≡ m.present
present_is m e = ap (λ (b : Bool). or_zero (cond b (Some m.present) None)) e

-- and one that names a management ORB is of that ORB
pub place_ends : (q : ℕ) (kind : StatusKind) (m : Machine) (early : Option EndSide) → EndsSo kind m → m.present < 2 ^ 48 → (block : StatusBlock) → read_block true m.outgoing ≡ Ok block → IsEndOf (or_before (end_of q m (Some kind)) early) block.orb
place_ends q kind m early so small block e =
    let src = src_of m.orb.next in
    let block_bytes = status_bytes (block_of m kind) in
    let found = reads_as true block_bytes block (ap (λ xs. read_block true xs) (sym so.outgoing) ∙ e) in
    let f = fields src m.present kind so.fair (src_small m.orb.next) small in
    record { one = record { place = q; orb = orb_of m; kind = kind }; is = refl; orb_is = present_is m so.present ∙ sym (found.orb_is ∙ f.orb_is) }

pub block_ends : (q : ℕ) (kind : StatusKind) (m : Machine) (early : Option EndSide) → EndsSo kind m → m.present < 2 ^ 48 → (block : StatusBlock) → read_block false m.outgoing ≡ Ok block → IsOfEnd q (or_before (end_of q m (Some kind)) early) m block
block_ends q kind m early so small block e =
    let src = src_of m.orb.next in
    let block_bytes = status_bytes (block_of m kind) in
    let read : read_block false (block_bytes) ≡ Ok block = ap (λ xs. read_block false xs) (sym so.outgoing) ∙ e in
    let found = reads_as false block_bytes block read in
    let f = fields src m.present kind so.fair (src_small m.orb.next) small in
    record {
      one = record { place = q; orb = orb_of m; kind = kind };
      is = refl;
      place_is = refl;
      orb_is = present_is m so.present ∙ sym (found.orb_is ∙ f.orb_is);
      kind = kind_as src m.present kind block so.fair (src_small m.orb.next) small read;
      null = λ r. found.src_is ∙ (f.src_is ∙ null_src m.phase m.orb.next so.present r);
    }
