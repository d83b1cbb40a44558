-- The two ends go together at a turn, by what is in hand of the management at both places, and by what the turn leaves of the operation under way.
use Rattle.sbp_world.proofs.Words.Std.{◌≡◌, ◌∙◌, sym, ap, subst, ◌⊎◌, ℕ, ◌^◌, ◌<◌, true, List, length, Some}
use Rattle.sbp_world.proofs.Words.Wire.{LabelParts, Packet, judging_step, of_response, Sent, Moment, Note}
use Rattle.sbp_world.proofs.Words.Target.{Table, Managed, Disk, answer_in}
use Rattle.sbp_world.proofs.Words.Initiator.{start_of, LoginResponse, management_orb, carried}
use Rattle.sbp_world.proofs.Words.Laws.{Underway, host_at, is_management, place_bytes, place_held}
use Rattle.sbp_world.proofs.Words.World.{WorldState, initiator_at, IsAsked, IsManaged, IsRest, IsCalm, IsInAPlace, IsActive, IsTaken, IsTold, AreUnderway, underway_orb}
use Rattle.bus_memory.specs.declared.window.Window.TheVariants as windows
use Rattle.sbp_target.specs.declared.purpose.Purpose.TheVariants as purposes
use Rattle.sbp_world.proofs.Agents.Management.Holding.{Holding}
use Rattle.sbp_world.proofs.Agents.Management.Still.{hist}
use Rattle.sbp_world.proofs.Lists.Courses.{EveryPlace}
use Rattle.sbp_world.proofs.Lists.KeptRuns.{AreKeptAt, kept_everywhere}
use Rattle.sbp_world.proofs.Lists.LiveGiven.{LawsAt}
use Rattle.sbp_world.proofs.Lists.LiveHandled.{own_handled, own_silent}
use Rattle.sbp_world.proofs.Lists.LiveMine.{mine_at}
use Rattle.sbp_world.proofs.Lists.LiveReplies.{IsDecidedOn}
use Rattle.sbp_world.proofs.Lists.LiveRuns.{With}
use Rattle.sbp_world.proofs.Lists.LiveStandings.{stand_of}
use Rattle.sbp_world.proofs.Lists.LiveSteps.{Comes, GaveUpOf, HelpsDelivery, HelpsTarget, Lives, id_in, own_of, zero_of}
use Rattle.sbp_world.proofs.Lists.LiveTargets.{IsMine, IsWrittenNow}

-- ---- what laws give at each place
pub record Given (start : List Disk) (past : List Moment) (w : WorldState) : Type 0 where
  pub laws : LawsAt start past w
  pub kept : AreKeptAt start past w
  pub managed : (i : ℕ) → i < length w.initiators → IsCalm past i → IsManaged start past i
  pub underway : (i : ℕ) → i < length w.initiators → AreUnderway past i
  pub login : (i : ℕ) → i < length w.initiators → (response : LoginResponse) → carried (initiator_at w i).seat ≡ Some response → (host_at past i).login ≡ response

given_at : {start : List Disk} {past : List Moment} {w : WorldState} → LawsAt start past w → AreKeptAt start past w → Given start past w
given_at laws kept = record { laws = laws; kept = kept; managed = laws.managed; underway = laws.underway; login = laws.login }

pub given_everywhere : EveryPlace LawsAt → EveryPlace Given
given_everywhere laws = record {
  after_lines = λ line run r has small size so_far. given_at (laws.after_lines line run r has small size so_far) ((kept_everywhere laws).after_lines line run r has small size so_far);
  between = λ line run r has small size next most told m so_far. given_at (laws.between line run r has small size next most told m so_far) ((kept_everywhere laws).between line run r has small size next most told m so_far);
}

-- ---- what is to be known of a turn

-- the target is called
pub record ToTarget (start : List Disk) (base : List Note) (before now : List Moment) (w v : WorldState) (i : ℕ) : Type 0 where
  pub on : IsTaken start before i → IsTaken start now i
  pub back : (op : Managed) → w.target.manager.operation ≡ Some op → op.source ≡ id_in w i → IsRest start before i → IsRest start now i
  pub waits : (orb : ℕ) (bytes : List ℕ) → IsTold start now i orb bytes → IsTold start before i orb bytes ⊎ IsWrittenNow (IsActive start now i) (id_in w i) v.target.manager orb bytes
  pub placed : (op : Managed) → w.target.manager.operation ≡ Some op → op.source ≡ id_in w i → IsInAPlace op
  pub begins : (serial : ℕ) (sent : Sent) → Comes w base v serial sent → (op : Managed) → v.target.manager.operation ≡ Some op → IsAsked w.target sent.generation sent.bytes op → op.source ≡ id_in w i → IsTaken start before i → ⊥
  pub brings : (serial : ℕ) (sent : Sent) → Comes w base v serial sent → (p : Packet) (label : LabelParts) → (judging_step w.target.layer sent.generation sent.bytes).0 ≡ of_response p label (Some purposes.Management) → (left : Table) (d : IsDecidedOn w.target.manager w.target.logins w.target.keys (answer_in p) left) → d.was.source ≡ id_in w i → (underway : Underway) → (host_at before i).operation ≡ Some underway → is_management underway.operation ≡ true → d.was.orb ≡ start_of (windows.Management underway.place) → d.on.orb ≡ management_orb (place_bytes (place_held before i underway.place))
  pub short : (underway : Underway) → (host_at before i).operation ≡ Some underway → is_management underway.operation ≡ true → (underway_orb before i underway).subject < 2 ^ 16

-- ---- so they go together
module _ (units ready : ℕ) (start : List Disk) {past : List Moment} {lines : ℕ} (w : WorldState) (h : Holding units ready start past lines w) (q : With Given start (hist past w) w) (i : ℕ) (inside : i < length w.initiators) (calm : IsCalm (hist past w) i) (base : List Note) (now : List Moment) (v : WorldState) where
  abbrev before : List Moment
  before = hist past w

  module _ (lives : Lives start before w i) (together : zero_of w ≡ own_of w i) (up : GaveUpOf w i → ⊥) (k : ToTarget start base before now w v i) where
    helps_delivery : (serial : ℕ) (sent : Sent) → Comes w base v serial sent → HelpsDelivery start before w v i sent.generation sent.bytes
    helps_delivery serial sent comes =
        let c = q.known.cored i inside in
        let m = q.more.managed i inside calm in
        record {
          begins = k.begins serial sent comes;
          mine = λ p label f left d source.
              let x = k.placed d.was d.is source in
              let own = own_handled units ready start w h i inside together d.was d.is source x.place x.small x.orb m c.ready c.cored up d.unwritten in
              let u = own.taken.underway in
              let at = x.orb ∙ ap (λ n. start_of (windows.Management n)) own.place_is in
              let orb = k.brings serial sent comes p label f left d source u own.taken.is own.taken.manages at in (
                own.taken,
                subst (λ o. IsMine (stand_of (initiator_at w i).seat) o) (sym orb)
                    (mine_at c.ready before i (initiator_at w i) c.cored lives.fit lives.aims up (q.more.login i inside) u own.taken.is own.taken.manages (q.more.underway i inside u own.taken.is) (k.short u own.taken.is own.taken.manages)),
              );
          silent = λ op is source unwritten orb bytes told.
              let x = k.placed op is source in
              own_silent units ready start w h i inside together op is source x.place x.small x.orb m c.ready c.cored up unwritten orb bytes told;
        }

    pub helps_target : HelpsTarget start base before now w v i
    helps_target = record { on = k.on; back = λ op is source active rest. active (k.back op is source rest); waits = k.waits; delivery = helps_delivery }
