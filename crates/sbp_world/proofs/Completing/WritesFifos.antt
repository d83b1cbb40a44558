-- A status that an agent waits for goes to the FIFO of the login of its place, and has the bytes that the agent writes: so it is accepted, where this FIFO is open and these bytes are a status block.
use Rattle.sbp_world.proofs.Words.Std.{◌≡◌, ◌∙◌, refl, sym, ap, subst, inl, ◌<◌, ◌&&◌, ℕ, Bool, true, false, List, Some, false≢true}
use Rattle.sbp_world.proofs.Words.Wire.{Access, Moment}
use Rattle.sbp_world.proofs.Words.Target.{Disk, Machine, Main, Phase, Table, main_ask, place_at, writes_status}
use Rattle.sbp_world.proofs.Words.Laws.{Target, agent_at, fifo_in, over, target_at, term_login}
use Rattle.sbp_world.proofs.Words.World.{IsAccessFor, IsOpened, Office, WorldState, machine_at, more_deliveries}
use Rattle.command_agent.specs.declared.phase.Phase.TheVariants as phases
use Rattle.sbp_initiator.specs.States.{status_in}
use Rattle.sbp_world.specs.Agents.Alike.{answers}
use Rattle.sbp_world.specs.Completing.Labels.{AlwaysFrom, AlwaysWhere}
use Rattle.sbp_world.specs.Completing.Writes.{AreFifosOpen, AreReadable, AreStatusesAccepted}
use Rattle.sbp_world.proofs.Agents.Management.Holding.{Holding}
use Rattle.sbp_world.proofs.Agents.Management.Offices.{over_keeps}
use Rattle.sbp_world.proofs.Agents.Management.Still.{hist}
use Rattle.sbp_world.proofs.Completing.AnswersRuns.{by_places}
use Rattle.sbp_world.proofs.Hosts.Cores.{not_so as up_state}
use Rattle.sbp_world.proofs.Hosts.Replies.{same_access}
use Rattle.sbp_world.proofs.Lists.Clauses.{open_lists_law}
use Rattle.sbp_world.proofs.Lists.Courses.{EveryPlace, more_than_one}
use Rattle.sbp_world.proofs.Lists.ListsProved.{closing}
use Rattle.sbp_world.proofs.Lists.MainSlots as main_slots
use Rattle.sbp_world.proofs.Lists.MainSlotsRuns.{kit_everywhere}
use Rattle.sbp_world.proofs.Lists.OpenTurns.{listing_up}
use Rattle.sbp_world.proofs.Lists.ShortLines.{short_law}
use Rattle.sbp_world.proofs.Lists.Sites.{Site, Waiting, waiting as agent_waiting}
use Rattle.sbp_world.proofs.Lists.StillTurns.{site_at}

-- what is asked for in such a phase
record IsStatusOf (m : Machine) (fifo : ℕ) (access : Access) : Type 0 where
  offset : access.offset ≡ fifo
  write : access.is_write ≡ true
  other : answers m.phase ≡ false

status_of : (phase : Phase) (m : Machine) → m.phase ≡ phase → writes_status phase ≡ true → (fifo : ℕ) (access : Access) → IsAccessFor (main_ask phase m) (writes_status phase) fifo access → IsStatusOf m fifo access
status_of phases.WritingStatus m e s fifo access a = record { offset = ap (λ (x : Access). x.offset) a.0; write = ap (λ (x : Access). x.is_write) a.0; other = ap answers e }
status_of phases.WritingLastStatus m e s fifo access a = record { offset = ap (λ (x : Access). x.offset) a.0; write = ap (λ (x : Access). x.is_write) a.0; other = ap answers e }
status_of phases.Fetching m e s fifo access a = absurd (false≢true s)
status_of phases.ReadingTable m e s fifo access a = absurd (false≢true s)
status_of (phases.ReadingData wanted) m e s fifo access a = absurd (false≢true s)
status_of phases.Answering m e s fifo access a = absurd (false≢true s)
status_of phases.ReadingNext m e s fifo access a = absurd (false≢true s)
status_of phases.Reset m e s fifo access a = absurd (false≢true s)
status_of phases.Suspended m e s fifo access a = absurd (false≢true s)
status_of phases.Dead m e s fifo access a = absurd (false≢true s)

pub never : (a b : Bool) → b ≡ false → a && b ≡ false
never true b e = e
never false b e = refl

module _ (units ready : ℕ) (has : 0 < units) (start : List Disk) {past : List Moment} {lines : ℕ} (w : WorldState) (h : Holding units ready start past lines w) (kit : main_slots.Kit start (hist past w) w) (fifos : AreFifosOpen start (hist past w) w) (readable : AreReadable start (hist past w) w) where
  abbrev ms : List Moment
  ms = hist past w

  abbrev T : Target
  T = over (target_at start ms)

  site : Site start past w
  site = site_at start past w kit.ground

  are_accepted : AreStatusesAccepted start ms w
  are_accepted tame place serial small main writes level asked asks =
      let m = machine_at w place in
      let wait : Waiting units ready has start w h site place small Main serial = agent_waiting units ready has start w h site place small Main serial main in
      let same : asked ≡ wait.access = same_access asked wait.access (sym asks ∙ wait.is) in
      let fifo = fifo_in (term_login T place) in
      let of : IsStatusOf m fifo wait.access =
      status_of m.phase m refl writes fifo wait.access (subst (λ s. IsAccessFor (main_ask m.phase m) s fifo wait.access) (wait.status_is refl) wait.asks) in
      let y : IsOpened ms w place = kit.known.opened place small (up_state _ (listing_up m.phase wait.is_open)) in
      let tables : T.table ≡ w.target.logins = ap (λ (o : Office). o.table) (over_keeps (target_at start ms)) ∙ h.at.agrees.table in
      let there : term_login T place ≡ Some y.login = ap (λ (table : Table). place_at table.places place) tables ∙ y.is in
      let open_one = fifos tame place y.login small y.is y.live writes level in
      let a = agent_at T place in
      let alike = (site.agents.are.each place small).machine in
      let closed : (a.untold && answers a.machine.phase) ≡ false = never a.untold (answers a.machine.phase) (ap answers alike.phase ∙ of.other) in
      let bytes : wait.access.payload ≡ m.outgoing = (site.asked.all place small).bytes serial main closed wait.access wait.is of.write ∙ alike.status writes in
      let read = readable tame place small writes in
      record {
        some = open_one.some;
        goes = ap (λ (x : Access). x.offset) same ∙ (of.offset ∙ (ap fifo_in there ∙ open_one.goes));
        inside = open_one.inside;
        block = read.block;
        reads = ap (λ (x : Access). status_in x.payload) same ∙ (ap status_in bytes ∙ read.reads);
      }

-- ---- each place of a run
abbrev Accepts : List Disk → List Moment → WorldState → Type 0
Accepts start past w = AreFifosOpen start past w → AreReadable start past w → AreStatusesAccepted start past w

accepts : EveryPlace Accepts
accepts = by_places main_slots.Kit Accepts (λ units ready has start past lines w h kit fifos readable. are_accepted units ready has start w h kit fifos readable) (kit_everywhere short_law open_lists_law)

pub fifos_open_where : (While : List Moment → Type 0) → AlwaysWhere While AreFifosOpen → AlwaysFrom AreReadable → AlwaysWhere While AreStatusesAccepted
fifos_open_where While fifos readable = record {
  after_lines = λ line run r has small size so tame.
      accepts.after_lines line run r has small size (closing.before open_lists_law line run r has small size (inl tame)) (fifos.after_lines line run r has small size so) (readable.after_lines line run r has small size) tame;
  between = λ line run r has small size next most told m so tame.
      accepts.between line run r has small size next most told m (closing.between open_lists_law line run r has small size next (more_deliveries most) (more_than_one most) told m (inl tame))
      (fifos.between line run r has small size next most told m so) (readable.between line run r has small size next most told m) tame;
}
