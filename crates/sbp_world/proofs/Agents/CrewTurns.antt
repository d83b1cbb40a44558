-- A turn of the target: where its first note makes of the terms what the call makes of the agents, they are its agents again behind the turn.
use Rattle.sbp_world.proofs.Words.Std.{◌≡◌, ◌∙◌, sym, ap, subst, ℕ, List, [], ◌∷◌, Option, None}
use Rattle.sbp_world.proofs.Words.Wire.{Moment, Terms, terms, Outgoing, Side}
use Rattle.sbp_world.proofs.Words.Target.{Disk, NodeState, TargetScene}
use Rattle.sbp_world.proofs.Words.Laws.{Agent, Reply, Target, over}
use Rattle.sbp_world.proofs.Words.World.{handed_out, WorldState, Office, office_of, AreOf, Follow, Request, crew_over, crew_packets, crew_sides, with_requests, AllLeave, AreTold, MayResume, resumed}
use Rattle.sbp_journal.specs.declared.side.Side.TheVariants as sides
use Rattle.sbp_target.proofs.Histories.Seats.{Lives}
use Rattle.sbp_world.proofs.Agents.Management.Calls.{Doing, calmly, managing}
use Rattle.sbp_world.proofs.Agents.Management.Managing.{quiet_says}
use Rattle.sbp_world.proofs.Agents.Management.Sides.{AllBehind}
use Rattle.sbp_world.proofs.Agents.Management.Still.{hist}
use Rattle.sbp_world.proofs.Agents.Management.Told.{term_in}
use Rattle.sbp_world.proofs.Agents.Hands.{hands_law}

-- ---- a target tells no note of its own
pub behind_told : (told : List Side) → AllBehind told → AreTold told
behind_told [] h = tt
behind_told (sides.Own note ∷ later) h = absurd h.0
behind_told (sides.Opened place orb ∷ later) h = behind_told later h.1
behind_told (sides.Ran place orb cdb payload outcome ∷ later) h = behind_told later h.1
behind_told (sides.Ended place orb status ∷ later) h = behind_told later h.1
behind_told (sides.Dead place cause ∷ later) h = behind_told later h.1
behind_told (sides.Cut place cause ∷ later) h = behind_told later h.1
behind_told (sides.Managed node function subject status login ∷ later) h = behind_told later h.1
behind_told (sides.ManageFailed node cause ∷ later) h = behind_told later h.1
behind_told (sides.Held login ∷ later) h = behind_told later h.1
behind_told (sides.Expired login ∷ later) h = behind_told later h.1
behind_told (sides.Back login ∷ later) h = behind_told later h.1
behind_told (sides.Left login ∷ later) h = behind_told later h.1
behind_told (sides.Cleared unit ∷ later) h = behind_told later h.1
behind_told (sides.Unsolicited place ∷ later) h = behind_told later h.1
behind_told (sides.Unsent place ∷ later) h = behind_told later h.1

pub doing_behind : {Quiet : Type 0} {May : ℕ → List Outgoing → Type 0} {node : NodeState} {lives : Lives} {o first : Office} (s : TargetScene) → Doing Quiet May node lives o first s → AllBehind s.outbox.sides
doing_behind {Quiet} {May} {node} {lives} {o} {first} s (calmly q e c) = (quiet_says s.outbox.sides o c.quiet).behind
doing_behind s (managing source before old may none turned r) = turned.says.behind

-- ---- what the first note of a turn makes of the terms, over what the turn tells
pub record Begins (w : WorldState) (wire : Terms) (first : Office) (agents : List Agent) (told : List Side) (t : Target) : Type 0 where
  pub office : office_of t ≡ first
  pub may : MayResume t.reply told w wire t
  pub resumes : resumed t.reply told t ≡ agents

-- no reply waits
pub quiet_begins : {w : WorldState} {wire : Terms} (first : Office) (agents : List Agent) (told : List Side) (t : Target) → t.reply ≡ None → t.agents ≡ agents → office_of t ≡ first → Begins w wire first agents told t
quiet_begins {w} {wire} first agents told t none same office = record {
  office = office;
  may = subst (λ (r : Option Reply). MayResume r told w wire t) (sym none) tt;
  resumes = ap (λ (r : Option Reply). resumed r told t) none ∙ same;
}

-- ---- the turn
module _ (start : List Disk) (past : List Moment) (requests : List Request) (first : Office) (agents : List Agent) (x : TargetScene) (v : WorldState) (b : Begins v (terms (hist past v)) first agents x.outbox.sides (term_in start past v)) (told : AllBehind x.outbox.sides) (leave : AllLeave v.generations x.outbox.packets) where
  abbrev now : WorldState
  now = handed_out 0 0 x.outbox v

  abbrev t : Target
  t = term_in start past v

  agents_are : (over (term_in start past now)).agents ≡ crew_over (crew_packets v.store.last x.outbox.packets (crew_sides x.outbox.sides first agents))
  agents_are =
      hands_law start past 0 x.outbox v (behind_told x.outbox.sides told) leave b.may
      ∙ ap (λ o. crew_over (crew_packets v.store.last x.outbox.packets (crew_sides x.outbox.sides o (resumed t.reply x.outbox.sides t)))) b.office
      ∙ ap (λ xs. crew_over (crew_packets v.store.last x.outbox.packets (crew_sides x.outbox.sides first xs))) b.resumes

  pub turned_crew : Follow requests first agents x → AreOf (with_requests v.store.last x.outbox.packets requests) (over (term_in start past now)).agents x.node
  turned_crew follow = subst (λ xs. AreOf (with_requests v.store.last x.outbox.packets requests) xs x.node) (sym agents_are) (follow v.store.last)
