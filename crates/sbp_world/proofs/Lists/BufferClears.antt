-- Where no initiator injected packets, or few logins were given, and each status of a login that was told well has its response in the buffer, no FIFO of a live login of an
-- initiator that injected none, or of its management ORB, is in a response buffer; so what the target writes there are the responses of its operations.
use Rattle.sbp_world.proofs.Words.Std.{arith, ◌≡◌, ◌∙◌, refl, sym, ap, subst, ℕ, zero, suc, ◌+◌, ◌*◌, ◌^◌, ◌<◌, List, [], length, Some, None}
use Rattle.sbp_world.proofs.Words.Wire.{node_of, topology_at, Moment}
use Rattle.sbp_world.proofs.Words.Target.{Operation, Disk, answer_in}
use Rattle.sbp_world.proofs.Words.Initiator.{window_at, management_orb}
use Rattle.sbp_world.proofs.Words.Laws.{EachMoment}
use Rattle.sbp_world.proofs.Words.World.{history_of, moments_behind, new_world, ready_logins, Run, after, beginning, WorldState, AreBuffersClear, AreFifosClear, IsClearFifo, IsCalm, GoodIn, IsItsFifo, IsTame, of_login, of_place, BasedAt, BufferSo, AreShort}
use Rattle.bus_memory.specs.declared.window.Window.TheVariants as windows
use Rattle.mgmt_agent.specs.declared.operation.Phase.{Phase}
use Rattle.sbp_world.proofs.Wire.Bus.{node_has}
use Rattle.sbp_world.proofs.Agents.Management.Holding.{Holding}
use Rattle.sbp_world.proofs.Agents.Management.Still.{hist}
use Rattle.sbp_world.proofs.Lists.Courses.{EveryPlace, Keeps, at_between, at_lines}
use Rattle.sbp_world.proofs.Lists.FifoProved.{IsClosed, buffers_everywhere}
use Rattle.sbp_world.proofs.Lists.KeptTurns.{id_is, operation_is}
use Rattle.sbp_world.proofs.Lists.LiveGiven.{ShortLaw}
use Rattle.sbp_world.proofs.Lists.LiveJoined.{AreBuffersAt}
use Rattle.sbp_world.proofs.Lists.LiveProved.{BuffersShort, buffers_by}
use Rattle.sbp_world.proofs.Lists.LiveSteps.{id_in}
use Rattle.sbp_world.proofs.Lists.Beside.{AreDone, done_based, done_before, done_calm}
use Rattle.sbp_world.proofs.Lists.OwnFifos.{fifo_no_window}
use Rattle.sbp_world.proofs.Lists.OwnNodes.{AreOwnNodes, nodes_everywhere}
use Rattle.sbp_world.proofs.Lists.OwnLogins.{AreOwnOpsAt, OwnKnown, ops_everywhere, own_known}
use Rattle.sbp_world.proofs.Lists.OwnOps.{IsOwnOp, brings_good, short_from}
use Rattle.sbp_world.proofs.Lists.StatusOffice.{ArePlacedFor}
use Rattle.sbp_world.proofs.Lists.OpenedReplied.{pays_as as payload_is}

-- ---- such a FIFO is in no response buffer
none_window : (place : ℕ) → None ≡ Some (windows.Response place) → ⊥
none_window place e = cc

pub place_window : (place : ℕ) → place < 2 → window_at (0x12002000 + 0x20 * place) ≡ None
unfolding window_at
place_window zero small = refl
place_window (suc zero) small = refl
place_window (suc (suc place)) small = absurd (omega (arith, small))

its_clear : (fifo : ℕ) → IsItsFifo fifo → IsClearFifo fifo
its_clear fifo (of_login own) place e = none_window place (sym (fifo_no_window fifo own) ∙ e)
its_clear fifo (of_place at small is) place e = none_window place (sym (place_window at small) ∙ (ap window_at (sym is) ∙ e))

-- ---- what is so of a history
abbrev pub Tamely : ℕ → List Moment → Type 0
Tamely n past = IsTame past × AreShort past × ((i : ℕ) → i < n → EachMoment (BasedAt i) past)

-- and for an initiator that injected no packets
abbrev pub Known : List Disk → ℕ → ℕ → List Moment → Type 0
Known start n i past = AreShort past × AreDone start n past i

closed : (start : List Disk) → IsClosed (Known start)
closed start n i later past c = (short_from later past c.0, done_before start n later past i c.1)

-- ---- the operations of an initiator's node
pub record Ground (start : List Disk) (past : List Moment) (w : WorldState) : Type 0 where
  pub known : OwnKnown start past w
  pub ops : AreOwnOpsAt start past w

module _ (units ready : ℕ) (more_units : 0 < units) (start : List Disk) {past : List Moment} {lines : ℕ} (w : WorldState) (h : Holding units ready start past lines w) (g : Ground start (hist past w) w) where
  module _ (i : ℕ) (inside : i < length w.initiators) (calm : IsCalm (hist past w) i) (shorts : AreShort (hist past w)) (based : EachMoment (BasedAt i) (hist past w)) where
    pub few_of : i + 1 < 2 ^ 16
    few_of = let all = g.known.wrote.few in omega (arith, inside, all)

    pub node_is : (op : Operation) → node_of w.generations 0 op.source ≡ Some (suc i) → op.source ≡ id_in w i
    node_is op n = sym (node_has (topology_at w.generations 0) op.source (suc i) n).id_is

    pub own_at : (op : Operation) → w.target.manager.operation ≡ Some op → op.source ≡ id_in w i → IsOwnOp start (hist past w) i op
    own_at op is source =
        g.ops i inside calm shorts based op (operation_is units ready more_units start w h i inside ∙ is)
        (source ∙ sym (id_is units ready more_units start w h i inside))

    pub own_of : (op : Operation) → w.target.manager.operation ≡ Some op → node_of w.generations 0 op.source ≡ Some (suc i) → IsOwnOp start (hist past w) i op
    own_of op is n = own_at op is (node_is op n)

    placed_for : ArePlacedFor w i
    placed_for op is source = let o = own_at op is source in (o.place, (o.small, o.orb))

    fifos_clear : AreFifosClear i w
    fifos_clear = record {
      kept = λ op fifo is n phase. its_clear fifo (subst (λ (x : Phase). GoodIn x) phase (own_of op is n).good);
      low = λ op orb high is n phase. its_clear orb.fifo (subst (λ (x : Phase). GoodIn x) phase (own_of op is n).good).its;
      read = λ sent is_for p label e op is n phase bytes pays.
          its_clear (management_orb bytes).fifo
          (brings_good units ready more_units start w h i inside few_of calm (g.known.wrote.none i inside) g.known.counts g.known.are (g.known.places i inside) shorts (g.known.logins i inside) is_for.serial sent is_for.found is_for.to p label e op is (node_is op n) (own_of op is n)
          phase bytes (payload_is (answer_in p) 32 bytes pays)).its;
    }

  -- where no initiator injected packets
  module _ (c : Tamely (length w.initiators) (hist past w)) (i : ℕ) (inside : i < length w.initiators) where
    pub few : i + 1 < 2 ^ 16
    few = few_of i inside (c.0 i) c.1 (c.2 i inside)

-- ---- over the runs
abbrev pub FifosAt : List Moment → WorldState → Type 0
FifosAt past w = (i : ℕ) → i < length w.initiators → IsCalm past i → AreShort past → EachMoment (BasedAt i) past → AreFifosClear i w × ArePlacedFor w i

pub ground_everywhere : EveryPlace Ground
ground_everywhere = record {
  after_lines = λ line run r has small size so_far. record { known = own_known.after_lines line run r has small size so_far; ops = ops_everywhere.after_lines line run r has small size so_far };
  between = λ line run r has small size next most told m so_far. record { known = own_known.between line run r has small size next most told m so_far; ops = ops_everywhere.between line run r has small size next most told m so_far };
}

all_fifos : (units ready : ℕ) → 0 < units → (start : List Disk) → Keeps units ready start (Ground start) FifosAt
all_fifos units ready has start past s later t lines more g h h_now q q_now before i inside calm shorts based =
    (fifos_clear units ready has start t.world h_now q_now i inside calm shorts based, placed_for units ready has start t.world h_now q_now i inside calm shorts based)

pub no_operation : {A : Type 0} (op : Operation) → None ≡ Some op → A
no_operation op e = absurd (differ e)
  where
    differ : None ≡ Some op → ⊥
    differ e = cc

first_fifos : (line : ℕ) (run : Run) → FifosAt (moments_behind line run []) (beginning run).world
unfolding new_world
first_fifos line run i inside calm shorts based = (
  record {
    kept = λ op fifo is n phase. no_operation op is;
    low = λ op orb high is n phase. no_operation op is;
    read = λ sent is_for p label e op is n phase bytes pays. no_operation op is;
  },
  λ op is source. no_operation op is,
)

pub fifos_everywhere : EveryPlace (λ start past w. FifosAt past w)
fifos_everywhere = record {
  after_lines = λ line run r has small size so_far.
      at_lines Ground FifosAt ground_everywhere line run r.few has small size (all_fifos run.units (ready_logins run.initiators run.ready) has run.start.disks) (first_fifos line run) r so_far;
  between = λ line run r has small size next most told m so_far.
      at_between Ground FifosAt ground_everywhere line run r.few has small size (all_fifos run.units (ready_logins run.initiators run.ready) has run.start.disks) (first_fifos line run) r next most told m so_far;
}

-- ---- and the logins
clear_of : (start : List Disk) (past : List Moment) (w : WorldState) → FifosAt past w → AreOwnNodes start past w → (i : ℕ) → i < length w.initiators → Known start (length w.initiators) i past → AreBuffersClear i w
clear_of start past w fifos own i inside c = record {
  logins = λ place login e live n. its_clear login.fifo (of_login (own i inside c.0 c.1 place login e live (sym (node_has (topology_at w.generations 0) login.node (suc i) n).id_is)));
  fifos = (fifos i inside (done_calm start (length w.initiators) past i c.1) c.0 (done_based start (length w.initiators) past i inside c.1)).0;
}

clear_everywhere : EveryPlace (λ start past w. (i : ℕ) → i < length w.initiators → Known start (length w.initiators) i past → AreBuffersClear i w)
clear_everywhere = record {
  after_lines = λ line run r has small size so_far. clear_of run.start.disks _ _ (fifos_everywhere.after_lines line run r has small size so_far) (nodes_everywhere.after_lines line run r has small size so_far);
  between = λ line run r has small size next most told m so_far. clear_of run.start.disks _ _ (fifos_everywhere.between line run r has small size next most told m so_far) (nodes_everywhere.between line run r has small size next most told m so_far);
}

-- ---- what the target writes into response buffers
pub buffers_law : EveryPlace BuffersShort
buffers_law = record {
  after_lines = λ line run r has small size so_far shorts i inside done.
      all.after_lines line run r has small size so_far i inside (done_calm run.start.disks (length (after (beginning run) run.entries).world.initiators) (history_of line run) i done) (shorts, done);
  between = λ line run r has small size next most told m so_far shorts i inside done. all.between line run r has small size next most told m so_far i inside (done_calm run.start.disks _ _ i done) (shorts, done);
}
  where
    all : EveryPlace (λ start past w. (i : ℕ) → i < length w.initiators → IsCalm past i → Known start (length w.initiators) i past → EachMoment (BufferSo start i) past)
    all = buffers_everywhere Known closed clear_everywhere

-- as lines name units of 16 bits
pub buffers_held : ShortLaw → EveryPlace AreBuffersAt
buffers_held short = buffers_by short buffers_law
