-- The last turn of a step from place to place of a run, behind which an ORB stands aborted of an initiator that injected no packets: its place is of that initiator, as it begins too, an ORB
-- that is decided on for it names the very address, the name of the address stays, and what was known of an abort before is known behind. So the abort is known behind the turn.
use Rattle.std.proofs.Common.{◌≡◌, ◌∙◌, sym, ap, subst, ◌<◌, ℕ, ◌==◌, true, false, List, ◌∷◌, map, reverse, length}
use Rattle.bus_memory.specs.Windows.{slot_of}
use Rattle.command_agent.specs.Machine.{awaits_run, state_in}
use Rattle.command_agent.specs.Steps.{is_reset}
use Rattle.rbc_disk.specs.Disk.{Disk}
use Rattle.sbp_journal.specs.Run.{Moment, said}
use Rattle.sbp_journal.specs.Wire.{Terms, terms}
use Rattle.sbp_laws.specs.Aborts.{is_aborted, is_unrun}
use Rattle.sbp_laws.specs.Lists.{named}
use Rattle.sbp_laws.specs.Targets.{Target, agent_at, initiator_at, login_at, node_in, over, target_at}
use Rattle.sbp_laws.specs.Turns.{EachMoment, Turn}
use Rattle.sbp_world.specs.Lists.FewLogins.{IsTameOrFew}
use Rattle.sbp_world.specs.Lists.Needs.{IsCalm, initiator_in, machine_at}
use Rattle.sbp_world.specs.Lists.OrbReads.{AnswersAt}
use Rattle.sbp_world.specs.Worlds.{Scene, WorldState}
use Rattle.sbp_world.proofs.Agents.Management.Holding.{Holding, past_terms}
use Rattle.sbp_world.proofs.Agents.Management.Still.{hist}
use Rattle.sbp_world.proofs.Common.{and_second}
use Rattle.sbp_world.proofs.Lists.Calm.{calm_before}
use Rattle.sbp_world.proofs.Lists.Courses.{Goes}
use Rattle.sbp_world.proofs.Lists.Fair.{Told}
use Rattle.sbp_world.proofs.Lists.IdsOwned.{aged_at}
use Rattle.sbp_world.proofs.Lists.Judging.{Grown}
use Rattle.sbp_world.proofs.Lists.LiveRuns.{goes_size}
use Rattle.sbp_world.proofs.Lists.ManagedGots.{Kit}
use Rattle.sbp_world.proofs.Lists.Sites.{Site, who_up}
use Rattle.sbp_world.proofs.Lists.StatusLogins.{each_there}
use Rattle.sbp_world.proofs.Lists.StillTurns.{Ground, site_at}
use Rattle.turn_laws.proofs.AbortBegins.{IsOwned, turn_known}
use Rattle.turn_laws.proofs.AbortCarried.{AreKnown, acts_waiting}
use Rattle.turn_laws.proofs.AbortHistory.{AreMarked}
use Rattle.turn_laws.proofs.AbortKept.{IsActing, WaitsFor, goes_on, inside, known_kept, name_by, name_stays, owner}
use Rattle.turn_laws.proofs.AbortReads.{turn_exact}
use Rattle.turn_laws.proofs.AbortRuns.{TurnFacts}
use Rattle.turn_laws.proofs.AbortSince.{IsKnown}
use Rattle.turn_laws.proofs.AbortUp.{aborted_up, awaits_up, not_true}
use Rattle.turn_laws.proofs.TurnBegins.{BeginsAt, IsLast, aborted_there, initiator_there, over_there, prepared_behind}

-- ---- the initiator of a place whose agent waits for more of its ORB, as a turn begins
module _ (units ready : ℕ) (has : 0 < units) (start : List Disk) {past : List Moment} {lines : ℕ} (w : WorldState) (h : Holding units ready start past lines w) (site : Site start past w) (p address : ℕ) (b : p < 8) where
  abbrev T : Target
  T = over (target_at start (hist past w))

  waits_owner : is_unrun (agent_at T p) address ≡ true → initiator_at T (terms (hist past w)) p ≡ initiator_in w p
  waits_owner unrun =
      let a = agent_at T p in
      let waits : awaits_run (machine_at w p).phase ≡ true = ap awaits_run (sym (site.agents.are.each p b).machine.phase) ∙ and_second (a.machine.present == address) (awaits_run a.machine.phase) unrun in
      (who_up units ready has start w h site p b (not_true (is_reset (state_in (machine_at w p).phase)) (awaits_up (machine_at w p).phase waits))).same

  pub begins_owner : (begins : List Moment) → BeginsAt (hist past w) begins → is_unrun (agent_at (over (target_at start begins)) p) address ≡ true → initiator_at (over (target_at start begins)) (terms begins) p ≡ initiator_in w p
  begins_owner begins at unrun =
      let same = over_there start (hist past w) begins at in
      ap (λ (t : Target). initiator_at t (terms begins) p) same
      ∙ (initiator_there (hist past w) (aged_at units ready start w h) begins at (node_in (login_at T p))
      ∙ waits_owner (subst (λ (t : Target). is_unrun (agent_at t p) address ≡ true) same unrun))

-- ---- over a step
module _ (units ready : ℕ) (has : 0 < units) (start : List Disk) (past : List Moment) (s : Scene) (later : List Moment) (t : Scene) (g : Goes past s later t) {lines more : ℕ} (h : Holding units ready start past lines s.world) (h_now : Holding units ready start later more t.world) (q : Ground start (hist past s.world) s.world) (q_now : Ground start (hist later t.world) t.world) (beside : IsTameOrFew (hist past s.world)) (beside_now : IsTameOrFew (hist later t.world)) (kit : Kit start (hist past s.world) s.world) (told : Told (hist later t.world)) where
  abbrev before : List Moment
  before = hist past s.world

  abbrev behind : List Moment
  behind = hist later t.world

  abbrev site : Site start past s.world
  site = site_at start past s.world q

  fair : (terms before).injects 0 ≡ false
  fair = let stands = h.sound.stands in subst (λ (x : Terms). x.injects 0 ≡ false) (past_terms s.world stands) stands.is.fair

  module _ (x : Turn) (l : IsLast before behind x) where
    start_answers : AnswersAt x.start x.past
    start_answers = each_there AnswersAt (map said (reverse x.rest)) x.start x.past (subst (EachMoment AnswersAt) (sym l.is) told.answers)

    module _ (marked : AreMarked start behind) (known : AreKnown units ready has start before s.world) (p address : ℕ) (b : p < 8) (e : is_aborted start behind p address ≡ true) (calm : IsCalm behind (initiator_in t.world p)) where
      abbrev i : ℕ
      i = initiator_in s.world p

      up : is_reset (state_in (machine_at t.world p).phase) ≡ false
      up = aborted_up start later t.world (site_at start later t.world q_now) marked p address b e

      same : initiator_in t.world p ≡ i
      same = owner units ready has start past s later t g h h_now q q_now beside beside_now p address b up

      calm_there : IsCalm before i
      calm_there =
          let on : Grown before behind = goes_on units ready has start past s later t g h h_now q q_now beside beside_now in
          calm_before on.new before i (subst (λ ms. IsCalm ms i) (sym on.is) (subst (IsCalm behind) same calm))

      within : i < length s.world.initiators
      within = subst (λ n. i < n) (goes_size past s later t g) (inside units ready has start past s later t g h h_now q q_now beside beside_now p address b up)

      both : IsActing units ready has start past s later t → WaitsFor units ready has start before s.world p address × IsCalm behind (initiator_in t.world p)
      both a = (acts_waiting units ready has start past s later t g h h_now q q_now beside beside_now p address b e calm_there a, calm)

      name_on : named behind (initiator_in t.world p) address ≡ named (x.start ∷ x.past) (initiator_in t.world p) address
      name_on =
          ap (λ j. named behind j address) same
          ∙ (name_stays units ready has start past s later t g h h_now q q_now beside beside_now p address b up both
          ∙ (sym (name_by before (x.start ∷ x.past) i (slot_of address) (λ slot. prepared_behind i slot before x.past l.begins x.start l.first)) ∙ ap (λ j. named (x.start ∷ x.past) j address) (sym same)))

      pub turn_owned : IsOwned start x p address (initiator_in t.world p)
      turn_owned = record {
        who = λ unrun. begins_owner units ready has start s.world h site p address b x.past l.begins unrun ∙ sym same;
        exact = λ answer M decided brought of.
            turn_exact units ready has start s.world h site.held kit beside i within calm_there x.past l.begins x.start fair (λ serial is. subst (λ m. AnswersAt m x.past) is start_answers) answer M decided brought (of ∙ same);
        names = subst (λ ms. named ms (initiator_in t.world p) address ≡ named (x.start ∷ x.past) (initiator_in t.world p) address) (sym l.is) name_on;
        before = λ f. subst (λ ms. IsKnown start p address ms (initiator_in t.world p)) (sym l.is)
            (known_kept units ready has start past s later t g h h_now q q_now beside beside_now p address b up both (known p address b (aborted_there start before x.past l.begins p address f) calm_there));
      }

      -- so it is known there
      pub known_behind : TurnFacts start x → AreMarked start x.past → IsKnown start p address behind (initiator_in t.world p)
      known_behind facts marked_then =
          subst (λ ms. IsKnown start p address ms (initiator_in t.world p)) l.is
          (turn_known start x p address (initiator_in t.world p) facts marked_then turn_owned l.first (subst (λ ms. is_aborted start ms p address ≡ true) (sym l.is) e))
