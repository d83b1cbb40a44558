-- What is known at a place of a run, for which list an agent is out of RESET.
use Rattle.sbp_world.proofs.Words.Std.{arith, ◌≡◌, ◌∙◌, refl, sym, ap, subst, ℕ, suc, ◌+◌, ◌<◌, ◌≤◌, true, List, ◌∷◌, ◌++◌, map, length, Option, Some, same_Some}
use Rattle.sbp_world.proofs.Words.Wire.{is_write, Holder, or_nobody, Event, Moment, asked, said, Sending, writing, terms}
use Rattle.sbp_world.proofs.Words.Target.{Disk, Told}
use Rattle.sbp_world.proofs.Words.Initiator.{start_of}
use Rattle.sbp_world.proofs.Words.Laws.{host_at, slot_at, access_in_bytes}
use Rattle.sbp_world.proofs.Words.World.{history_of, Run, after, beginning, MayAll, after_all, Scene, WorldState, begun, initiator_at, IsOfWire, AreHeldAt, IsRun, more_deliveries, AreRows, CaughtBetweenLaw, CaughtLaw, HaveCaught, JoinedLaw, AreUnrefused, MomentsLaw, PointersAt, PointersLaw, AreBased, BasesLaw, AreBegun, BegunLaw, FirstLaw, IsCalm, OpenBefore, OpenBetween, Under, WhereTameOrFew, IsUp, NoneRefused, view, AreOpened, IsPointedBy, IsCalmBeside, IsTameOrFew, IsFirst}
use Rattle.bus_transactions.proofs.PacketParts.{asking_read, request_read}
use Rattle.sbp_world.proofs.Wire.Starts.{laws_of}
use Rattle.sbp_world.proofs.Agents.Management.Still.{hist}
use Rattle.sbp_world.proofs.Agents.Holders.{holders_between_law, holders_law}
use Rattle.sbp_world.proofs.Hosts.Runs.{count_after, count_between, run_law}
use Rattle.bus_memory.specs.declared.window.Window.TheVariants as windows
use Rattle.sbp_world.proofs.Lists.JoinLaws.{begins_after, begins_between, rises_after, rises_between}
use Rattle.sbp_world.proofs.Lists.OpenFresh.{Writes, writes_of}
use Rattle.sbp_world.proofs.Lists.OpenProved.{After, facts_at, opens_law, were_after}
use Rattle.sbp_world.proofs.Lists.OpenedEnding.{ends_law}
use Rattle.sbp_world.proofs.Lists.OpenedEndings.{Manages}
use Rattle.sbp_world.proofs.Lists.OpenedSends.{Tells, judged_first}
use Rattle.sbp_world.proofs.Lists.OpenedWorlds.{Here, Then}
use Rattle.sbp_world.proofs.Common.{delivers}
use Rattle.sbp_world.proofs.Hosts.Cores.{not_so as up_state}

-- ---- what is known of an initiator
module _ (start : List Disk) (H : List Moment) (w : WorldState) (i : ℕ) (calm : IsCalm H i) (pointers : PointersAt H i) (begun : AreBegun H i) (first : (serial : ℕ) (sent : Sending) (place address : ℕ) → (terms H).sent serial ≡ Some sent → IsPointedBy sent i place address → IsFirst H i serial address) (bases : AreBased H i) (unrefused : AreUnrefused H i) (opened : AreOpened H w) (held : AreHeldAt start H w) (caught : HaveCaught start H w) (rows : i < length w.initiators → AreRows H i (initiator_at w i).lists.slots) where
  -- the initiator of an agent that is out of RESET has seen the target's generation
  not_behind : (p : ℕ) → p < 8 → IsUp w i p → (terms H).generation 0 ≤ (terms H).generation (suc i)
  not_behind p b u =
      let o = opened p b (up_state _ u.up) in
      let k = held.held p o.login o.is in
      let is : k.holder.initiator ≡ i = ap (λ (h : Holder). h.initiator) (sym (ap or_nobody k.there)) ∙ u.own in
      let next : i + 1 ≡ suc i = omega arith in
      let c = caught.logins p o.login o.is o.live k.holder.initiator (k.live o.live).of in
      subst (λ m. (terms H).generation 0 ≤ (terms H).generation m) (ap (λ m. m + 1) is ∙ next) c

  writes_there : (serial : ℕ) (packet : Sending) (place address : ℕ) → (terms H).sent serial ≡ Some packet → IsPointedBy packet i place address → Writes packet.bytes
  writes_there serial packet place address sent pointed =
      let f = first serial packet place address sent pointed in
      let k = pointers.each f.list serial f.pointed in
      subst (λ (q : Sending). Writes q.bytes) (same_Some k.packet packet (sym k.sent ∙ sent)) (writes_of k.packet.bytes _ k.spelled refl)

  is_writing : (bytes : List ℕ) → Writes bytes → is_write bytes ≡ true
  is_writing bytes x = let r = request_read bytes x.label writing x.part in (asking_read bytes r.packet x.label writing r.read r.is).writes

  pub here : Here H w i
  here = record {
    known = record {
      first = λ serial packet place address sent pointed. let f = first serial packet place address sent pointed in record { list = f.list; pointed = f.pointed };
      waits = λ n serial packet pointed sent current fresh. let p = pointers.waits calm n serial packet pointed sent current fresh in record { present = p.present; uncut = p.uncut };
      begun = λ serial n packet sent pointed current fresh. begun.waiting calm serial n packet sent pointed current fresh;
      caught = not_behind;
      judged = λ read n serial told pointed. bases.judged calm n read serial told pointed;
    };
    latest = pointers.latest;
    rows = rows;
    written = writes_there;
    resets = λ underway packet is resets sent.
        let a = bases.reset underway is resets in
        is_writing packet.bytes (subst (λ (q : Sending). Writes q.bytes) (same_Some a.packet packet (sym a.sent ∙ sent)) (writes_of a.packet.bytes _ a.spelled refl));
    agent = (host_at H i).login.agent;
    pointer = λ n serial packet present pointed sent.
        let a = bases.pointer unrefused n serial present pointed in
        (start_of (windows.Orb (slot_at H i n 0)), ap (λ (q : Sending). access_in_bytes q.bytes) (sym (same_Some a.packet packet (sym a.sent ∙ sent))) ∙ a.spelled);
    reset = λ underway packet is resets sent.
        let a = bases.reset underway is resets in ap (λ (q : Sending). access_in_bytes q.bytes) (sym (same_Some a.packet packet (sym a.sent ∙ sent))) ∙ a.spelled;
    states = λ n serial packet present told sent.
        let a = bases.states unrefused n serial present told in ap (λ (q : Sending). access_in_bytes q.bytes) (sym (same_Some a.packet packet (sym a.sent ∙ sent))) ∙ a.spelled;
  }

-- ---- at a place of a run
pub record Laws : Type 0 where
  pub pointers : PointersLaw
  pub moments : MomentsLaw
  pub caught : CaughtLaw
  pub caught_between : CaughtBetweenLaw
  pub joined : JoinedLaw
  pub begun : BegunLaw
  pub firsts : FirstLaw
  pub bases : BasesLaw

-- what is known of the management of an initiator
pub record IsMinded (start : List Disk) (ms : List Moment) (w : WorldState) (i : ℕ) : Type 0 where
  pub mine : Manages (view ms i) w i
  pub tells : Tells start ms i

pub record MindedLaw : Type 0 where
  pub after_lines : (line : ℕ) (run : Run) → IsRun run → 0 < run.units → run.units ≤ 4 → length run.start.disks ≡ run.units → OpenBefore line run run.entries → (i : ℕ) → i < run.initiators → IsCalmBeside (history_of line run) i → IsMinded run.start.disks (history_of line run) (after (beginning run) run.entries).world i
  pub between : (line : ℕ) (run : Run) → IsRun run → 0 < run.units → run.units ≤ 4 → length run.start.disks ≡ run.units → (next : ℕ) (most : Option ℕ) (told : List (Option Told)) → MayAll told (begun (after (beginning run) run.entries)) → OpenBetween line run next (more_deliveries most) told → (let w = (after_all told (begun (after (beginning run) run.entries))).world in let now = map said w.fresh ++ asked next (more_deliveries most) ∷ history_of line run in (i : ℕ) → i < run.initiators → IsCalmBeside now i → IsMinded run.start.disks now w i)

-- and that no logout is refused
pub record ManagementLaw : Type 0 where
  pub unrefused : Under (WhereTameOrFew NoneRefused)
  pub minded : MindedLaw

pub record IsPlace (start : List Disk) (n : ℕ) (ms : List Moment) (w : WorldState) : Type 0 where
  pub here : (i : ℕ) → i < n → IsCalm ms i → Here ms w i
  pub behind : (i : ℕ) → i < n → IsCalm ms i → Then ms i
  pub minded : (i : ℕ) → i < n → IsCalm ms i → IsMinded start ms w i
  pub opened : AreOpened ms w
  pub bases : (i : ℕ) → i < n → AreBased ms i

module _ (laws : Laws) (management : ManagementLaw) (line : ℕ) (run : Run) (r : IsRun run) (has : 0 < run.units) (small : run.units ≤ 4) (size : length run.start.disks ≡ run.units) where
  abbrev last : Scene
  last = after (beginning run) run.entries

  abbrev past : List Moment
  past = history_of line run

  abbrev known : After line run r.few has small size run.entries last.world
  known = were_after line run r.few has small size run.entries r.short r.entries r.lines

  count_is : (i : ℕ) → i < run.initiators → i < length last.world.initiators
  count_is i b = subst (λ n. i < n) (sym (count_after run run.entries)) b

  wire_after : IsOfWire past
  wire_after = let k = known in subst IsOfWire k.is (laws_of k.past last.world k.holds.sound.stands)

  pub place_after : OpenBefore line run run.entries → IsTameOrFew past → IsPlace run.start.disks run.initiators past last.world
  place_after so_far beside = record {
    here = λ i b calm.
        here run.start.disks past last.world i calm (laws.pointers.after_lines line run r i b) (laws.begun.after_lines line run r has small size i b)
        (laws.firsts.after_lines line run r has small size i (count_is i b) calm) (laws.bases.after_lines line run r i b) (management.unrefused.after_lines line run r has small size so_far beside i (count_is i b) calm)
        (opens_law.after_lines line run r has small size) (holders_law line run r.few has small size r.short r.entries r.lines) (laws.caught line run r.few has small size r.short r.entries r.lines)
        (λ c. (run_law.rows line run r i b).rows);
    behind = λ i b calm. record {
      serials = wire_after.serials;
      rises = rises_after laws.joined line run has small size r;
      moments = laws.moments.after_lines line run r i b;
      ends = ends_law.after_lines line run r has small size i (count_is i b) calm;
      begins = begins_after laws.joined line run has small size r i b;
      told = judged_first run.start.disks past i (management.minded.after_lines line run r has small size so_far i b (calm, beside)).tells;
    };
    minded = λ i b calm. management.minded.after_lines line run r has small size so_far i b (calm, beside);
    opened = opens_law.after_lines line run r has small size;
    bases = λ i b. laws.bases.after_lines line run r i b;
  }

  module _ (next : ℕ) (most : Option ℕ) (told : List (Option Told)) (m : MayAll told (begun last)) where
    abbrev end : WorldState
    end = (after_all told (begun last)).world

    abbrev event : Event
    event = more_deliveries most

    abbrev now : List Moment
    now = map said end.fresh ++ asked next event ∷ past

    count_end : (i : ℕ) → i < run.initiators → i < length end.initiators
    count_end i b = subst (λ n. i < n) (sym (count_between told last)) (count_is i b)

    wire_between : IsOfWire now
    wire_between =
        let k = known in
        let f = facts_at line run r.few has small size run.entries r.short r.entries r.lines k.past (length run.entries) k.holds k.is next event (delivers most) told m in
        subst (λ ms. IsOfWire (map said end.fresh ++ asked next event ∷ ms)) k.is (laws_of (asked next event ∷ hist k.past last.world) end f.holds.sound.stands)

    pub place_between : OpenBetween line run next event told → IsTameOrFew now → IsPlace run.start.disks run.initiators now end
    place_between so_far beside = record {
      here = λ i b calm.
          here run.start.disks now end i calm (laws.pointers.between line run r next most told m i b) (laws.begun.between line run r has small size next most told m i b)
          (laws.firsts.between line run r has small size next most told m i (count_end i b) calm) (laws.bases.between line run r next most told m i b) (management.unrefused.between line run r has small size next most told m so_far beside i (count_end i b) calm)
          (opens_law.between line run r has small size next event (delivers most) told m) (holders_between_law line run r.few has small size r.short r.entries r.lines next event (delivers most) told m) (laws.caught_between line run r.few has small size r.short r.entries r.lines next event (delivers most) told m)
          (λ c. (run_law.between line run r next most told m i b).rows);
      behind = λ i b calm. record {
        serials = wire_between.serials;
        rises = rises_between laws.joined line run has small size r next most told m;
        moments = laws.moments.between line run r next most told m i b;
        ends = ends_law.between line run r has small size next most told m i (count_end i b) calm;
        begins = begins_between laws.joined line run has small size r next most told m i b;
        told = judged_first run.start.disks now i (management.minded.between line run r has small size next most told m so_far i b (calm, beside)).tells;
      };
      minded = λ i b calm. management.minded.between line run r has small size next most told m so_far i b (calm, beside);
      opened = opens_law.between line run r has small size next event (delivers most) told m;
      bases = λ i b. laws.bases.between line run r next most told m i b;
    }
