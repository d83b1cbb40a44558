-- The response to the main transaction of an agent is complete for the agent where it answers complete what the agent asked for.
use Rattle.sbp_world.proofs.Words.Std.{◌≡◌, ◌∙◌, sym, ap, subst, inl, ◌<◌, ◌*◌, ℕ, suc, Bool, false, List, ◌∷◌, ◌++◌, length, map, Some}
use Rattle.sbp_world.proofs.Words.Wire.{Access, Moment, asked, said, terms}
use Rattle.sbp_world.proofs.Words.Target.{Disk, Machine, Main, Phase, answer_in, chunk_of, main_ask}
use Rattle.sbp_world.proofs.Words.Initiator.{Answer}
use Rattle.sbp_world.proofs.Words.Laws.{fifo_in, term_login, over, target_at}
use Rattle.sbp_world.proofs.Words.World.{IsAccessFor, IsTame, WorldState, after, after_all, beginning, begun, history_of, initiator_in, machine_at, more_deliveries}
use Rattle.command_agent.specs.declared.phase.Phase.TheVariants as phases
use Rattle.sbp_world.specs.Completing.Deaths.{AreGiven, IsAnswered, IsGiven, IsWhole, MainAnswered, MainAnsweredThere, WhereKept}
use Rattle.sbp_world.specs.Completing.Labels.{AlwaysWhere}
use Rattle.sbp_world.proofs.Agents.Management.Holding.{Holding}
use Rattle.sbp_world.proofs.Agents.Management.Still.{hist}
use Rattle.sbp_world.proofs.Completing.LabelsPlaces.{IsHolding, holding_everywhere}
use Rattle.sbp_world.proofs.Lists.Clauses.{open_lists_law}
use Rattle.sbp_world.proofs.Lists.Courses.{more_than_one}
use Rattle.sbp_world.proofs.Lists.Heard as heard
use Rattle.sbp_world.proofs.Lists.ListsProved.{closing}
use Rattle.sbp_world.proofs.Lists.MainSlots as main_slots
use Rattle.sbp_world.proofs.Lists.MainSlotsRuns.{kit_everywhere}
use Rattle.sbp_world.proofs.Lists.ShortLines.{short_law}
use Rattle.sbp_world.proofs.Lists.Sites.{Site}
use Rattle.sbp_world.proofs.Lists.Sites as sites
use Rattle.sbp_world.proofs.Lists.StillTurns.{site_at}

-- ---- what it asked for
module _ (m : Machine) (is_status : Bool) (fifo : ℕ) (access : Access) (answer : Answer) (a : IsAnswered access answer) where
  read_given : (size : ℕ) → access.is_write ≡ false → access.count ≡ size → IsWhole answer size
  read_given size reads count = subst (IsWhole answer) count (a.reads reads)

  given_by : (phase : Phase) → IsAccessFor (main_ask phase m) is_status fifo access → IsGiven phase m answer
  given_by phases.Fetching x = read_given 32 (ap (λ (y : Access). y.is_write) x) (ap (λ (y : Access). y.count) x)
  given_by phases.ReadingTable x = read_given (8 * m.orb.data_size) (ap (λ (y : Access). y.is_write) x) (ap (λ (y : Access). y.count) x)
  given_by (phases.ReadingData wanted) x = read_given (chunk_of m (length m.payload) wanted).length (ap (λ (y : Access). y.is_write) x) (ap (λ (y : Access). y.count) x)
  given_by phases.Answering x = a.writes (ap (λ (y : Access). y.is_write) x.0)
  given_by phases.WritingStatus x = a.writes (ap (λ (y : Access). y.is_write) x.0)
  given_by phases.ReadingNext x = read_given 8 (ap (λ (y : Access). y.is_write) x) (ap (λ (y : Access). y.count) x)
  given_by phases.WritingLastStatus x = tt
  given_by phases.Reset x = tt
  given_by phases.Suspended x = tt
  given_by phases.Dead x = tt

-- ---- a place
module _ (units ready : ℕ) (has : 0 < units) (start : List Disk) {past : List Moment} {lines : ℕ} (w : WorldState) (h : Holding units ready start past lines w) (s : Site start past w) (tame : IsTame (hist past w)) (answered : MainAnswered start (hist past w) w) where
  are_given : AreGiven w
  are_given sent packet place r =
      let f = r.comes in
      let k = heard.waiting units ready has start w h s.agents.requests s.agents.are s.agents.known s.asked f.serial sent f.found f.to packet r.label place r.found in
      let waits = heard.waits_so units ready has start w h s.agents.requests s.agents.are s.agents.known s.asked f.serial sent f.found f.to packet r.label place r.found Main r.main in
      let q = sites.waiting units ready has start w h s place r.small Main k.serial waits in
      let to = heard.request_to units ready has start w h s.agents.requests s.agents.are s.agents.known s.asked f.serial sent f.found f.to packet r.label place r.found in
      let calm : (terms (hist past w)).injects sent.from ≡ false = ap (λ n. (terms (hist past w)).injects n) (some_from sent.from (initiator_in w place) (sym to ∙ q.to)) ∙ tame (initiator_in w place) in
      let closed = heard.closed units ready has start w h s.agents.requests s.agents.are s.agents.known s.asked f.serial sent f.found f.to packet r.label place r.found calm in
      given_by (machine_at w place) q.status (fifo_in (term_login (over (target_at start (hist past w))) place)) q.access (answer_in packet) (answered sent packet place r k.serial q.access waits closed q.is) (machine_at w place).phase q.asks
    where
      some_from : (a b : ℕ) → Some a ≡ Some (suc b) → a ≡ suc b
      some_from a b e = cc

place_given : (start : List Disk) (now : List Moment) (w : WorldState) → IsHolding start now w → main_slots.Kit start now w → IsTame now → MainAnswered start now w → AreGiven w
place_given start now w h kit tame answered =
    let back = sym h.is in
    are_given h.units h.ready h.has start w h.holds (site_at start h.past w (subst (λ ms. main_slots.Kit start ms w) back kit).ground) (subst IsTame back tame) (subst (λ ms. MainAnswered start ms w) back answered)

-- ---- each place of a run
pub given_where : (While : List Moment → Type 0) → AlwaysWhere While MainAnsweredThere → AlwaysWhere While (WhereKept AreGiven)
given_where While answered = record {
  after_lines = λ line run r has small size so tame legal l few.
      place_given run.start.disks (history_of line run) (after (beginning run) run.entries).world (holding_everywhere.after_lines line run r has small size)
      ((kit_everywhere short_law open_lists_law).after_lines line run r has small size (closing.before open_lists_law line run r has small size (inl tame))) tame
      (answered.after_lines line run r has small size so tame legal l few);
  between = λ line run r has small size next most told m so tame legal l few.
      let event = more_deliveries most in
      place_given run.start.disks (map said (after_all told (begun (after (beginning run) run.entries))).world.fresh ++ asked next event ∷ history_of line run) (after_all told (begun (after (beginning run) run.entries))).world
      (holding_everywhere.between line run r has small size next most told m)
      ((kit_everywhere short_law open_lists_law).between line run r has small size next most told m (closing.between open_lists_law line run r has small size next event (more_than_one most) told m (inl tame))) tame
      (answered.between line run r has small size next most told m so tame legal l few);
}
