-- What a turn of the target says in its order: what it tells, and behind that the packets that it sends. A new status block of its management is one that its
-- operation writes now.
use Rattle.sbp_world.proofs.Words.Std.{arith, ◌≡◌, ◌∙◌, ◌⊎◌, inl, inr, refl, sym, ap, ℕ, zero, suc, ◌<◌, Bool, true, false, List, [], ◌∷◌, ◌++◌, map, Some}
use Rattle.sbp_world.proofs.Words.Wire.{SerialsCount, OutboxState, Moment, said, terms, Note, Side}
use Rattle.sbp_world.proofs.Words.Target.{Operation, Disk}
use Rattle.sbp_world.proofs.Words.Laws.{Underway, host_at, is_nothing, target_at}
use Rattle.sbp_world.proofs.Words.World.{handed_out, told, told_all, WorldState, AreOthers, IsOther, AreAsked, managed_for, IsManaged, IsTelling, AllOf, IsToldDone, view, outgoing_for}
use Rattle.mgmt_agent.specs.Machine.{Machine}
use Rattle.sbp_journal.specs.declared.note.Note.TheVariants as notes
use Rattle.sbp_journal.specs.declared.side.Side.TheVariants as sides
use Rattle.sbp_world.proofs.Agents.Management.Offices.{IsBehind}
use Rattle.sbp_world.proofs.Agents.Management.Still.{hist}
use Rattle.sbp_world.proofs.Lists.LiveBlocks.{sent_block}
use Rattle.sbp_world.proofs.Lists.ManageKnown.{RestGot}
use Rattle.sbp_world.proofs.Lists.ManageSent.{for_below}
use Rattle.sbp_world.proofs.Lists.OpenedNotes.{Behind, all_sent, behind_none, behind_one, behind_then}
use Rattle.sbp_world.proofs.Lists.OpenedOffices.{AllBehind, WasAsked, is_packet, manager_same, sends_asked, told_asked, told_for}
use Rattle.sbp_world.proofs.Common.{untrue, said_split as split}

-- ---- what is known of the management of an initiator, behind a turn
pub record Tells (start : List Disk) (ms : List Moment) (i : ℕ) : Type 0 where
  pub managed : IsManaged start ms i
  pub told : (serial : ℕ) → RestGot start ms i serial
  pub small : (underway : Underway) → (host_at ms i).operation ≡ Some underway → underway.place < 2
  pub contents : AreAsked start ms
  pub serials : SerialsCount ms

module _ (start : List Disk) (ms : List Moment) (i : ℕ) (k : Tells start ms i) (r : IsToldDone (view ms i) i) where
  -- the block that is told
  pub telling : IsTelling start ms i r.serial r.underway.place
  telling =
      let d = r.done in
      k.told r.serial r.packet r.sent r.to_own d.from_target r.current d.header d.offset d.payload d.spelled d.logins d.is_out d.opens d.block d.read 0 d.kind r.underway.place (k.small r.underway r.is) d.orb_is r.fresh

  -- the write of the operation was judged before
  pub judged_first : 0 < (view ms i).news r.underway.first
  judged_first = by ((view ms i).news r.underway.first) refl
    where
      by : (n : ℕ) → (view ms i).news r.underway.first ≡ n → 0 < (view ms i).news r.underway.first
      by zero e = absurd (((k.managed.busy r.underway r.is r.manages).waiting e).silent r.serial r.underway.place telling)
      by (suc n) e = omega (arith, e)

  pub payload_is : outgoing_for start ms r.serial ≡ r.done.payload
  payload_is =
      let t = telling in
      (sent_block start ms k.serials r.serial t.op (k.contents.each r.serial t.op t.is_for) t.status r.packet r.sent r.done.header r.done.offset r.done.payload r.done.spelled).outgoing_is

-- ---- what the target tells
abbrev pub is_told : Note → Bool
is_told (notes.Begin initiators ready) = false
is_told (notes.Sent serial generation from to bytes) = false
is_told (notes.Got serial) = false
is_told (notes.Ignored serial cause) = false
is_told (notes.TimedOut serial) = false
is_told (notes.Seen node generation) = false
is_told notes.Tick = false
is_told (notes.Key unit) = false
is_told _ = true

one_behind : (note : Note) → is_told note ≡ true → IsBehind note
one_behind (notes.Begin initiators ready) e = untrue e
one_behind (notes.Sent serial generation from to bytes) e = untrue e
one_behind (notes.Got serial) e = untrue e
one_behind (notes.Ignored serial cause) e = untrue e
one_behind (notes.TimedOut serial) e = untrue e
one_behind (notes.Seen node generation) e = untrue e
one_behind notes.Tick e = untrue e
one_behind (notes.Key unit) e = untrue e
one_behind _ e = tt

are_behind : (ns : List Note) → AllOf is_told ns → AllBehind ns
are_behind [] a = tt
are_behind (note ∷ ns) a = (one_behind note a.0, are_behind ns a.1)

module _ (weight : ℕ) where
  abbrev T : WorldState → WorldState → Type 0
  T w v = Behind is_told w.fresh v.fresh

  one_told : (side : Side) (w : WorldState) → IsOther side → T w (told weight side w)
  unfolding told
  one_told (sides.Own note) w o = absurd o
  one_told (sides.Opened place orb) w o = behind_none is_told w.fresh
  one_told (sides.Ran place orb cdb payload outcome) w o = record { more = notes.Ran _ _ _ _ _ _ _ ∷ []; is = refl; all = (refl, tt) }
  one_told (sides.Ended place orb status) w o = record { more = notes.Ended _ _ _ _ ∷ []; is = refl; all = (refl, tt) }
  one_told (sides.Dead place cause) w o = record { more = notes.Dead _ _ _ ∷ []; is = refl; all = (refl, tt) }
  one_told (sides.Cut place cause) w o = record { more = notes.Cut _ _ _ ∷ []; is = refl; all = (refl, tt) }
  one_told (sides.Managed node function subject status login) w o = record { more = notes.Managed _ _ _ _ _ ∷ []; is = refl; all = (refl, tt) }
  one_told (sides.ManageFailed node cause) w o = record { more = notes.ManageFailed _ _ ∷ []; is = refl; all = (refl, tt) }
  one_told (sides.Held login) w o = behind_one is_told (notes.Held login) w.fresh refl
  one_told (sides.Expired login) w o = behind_one is_told (notes.Expired login) w.fresh refl
  one_told (sides.Back login) w o = behind_one is_told (notes.Back login) w.fresh refl
  one_told (sides.Left login) w o = behind_one is_told (notes.Left login) w.fresh refl
  one_told (sides.Cleared unit) w o = behind_one is_told (notes.Cleared unit) w.fresh refl
  one_told (sides.Unsolicited place) w o = record { more = notes.Unsolicited _ ∷ []; is = refl; all = (refl, tt) }
  one_told (sides.Unsent place) w o = record { more = notes.Unsent _ ∷ []; is = refl; all = (refl, tt) }

  all_told : (side : List Side) (w : WorldState) → AreOthers side → T w (told_all weight side w)
  unfolding told_all
  all_told [] w o = behind_none is_told w.fresh
  all_told (side ∷ later) w o =
      let v = told weight side w in behind_then is_told w.fresh v.fresh (told_all weight later v).fresh (one_told side w o.0) (all_told later v o.1)

-- ---- a turn that begins with this note
module _ (start : List Disk) (past : List Moment) (w u : WorldState) (outbox : OutboxState) (others : AreOthers outbox.sides) (note : Note) (first : u.fresh ≡ note ∷ w.fresh) (serials : SerialsCount (hist past w)) (old_for : (serial : ℕ) → managed_for start (said note ∷ hist past w) serial ≡ managed_for start (hist past w) serial) (i : ℕ) (k : Tells start (hist past (handed_out 0 0 outbox u)) i) (r : IsToldDone (view (hist past (handed_out 0 0 outbox u)) i) i) (l : (terms (hist past w)).count < r.serial) where
  abbrev H : List Moment
  H = hist past w

  abbrev v : WorldState
  v = handed_out 0 0 outbox u

  abbrev mid : WorldState
  mid = told_all 0 outbox.sides u

  tells_now : Behind is_told u.fresh mid.fresh
  tells_now = all_told 0 outbox.sides u others

  sends_now : Behind is_packet mid.fresh v.fresh
  sends_now = all_sent is_packet 0 (λ serial generation to bytes. refl) outbox.packets mid

  abbrev begun : List Moment
  begun = said note ∷ H

  abbrev told_then : List Moment
  told_then = map said tells_now.more ++ begun

  begun_is : map said u.fresh ++ past ≡ begun
  begun_is = ap (λ ns. map said ns ++ past) first

  told_is : told_then ≡ map said mid.fresh ++ past
  told_is = ap (λ ms. map said tells_now.more ++ ms) (sym begun_is) ∙ (sym (split tells_now.more u.fresh past) ∙ ap (λ ns. map said ns ++ past) tells_now.is)

  all_is : map said sends_now.more ++ told_then ≡ hist past v
  all_is = ap (λ ms. map said sends_now.more ++ ms) told_is ∙ (sym (split sends_now.more mid.fresh past) ∙ ap (λ ns. map said ns ++ past) sends_now.is)

  abbrev op : Operation
  op = (telling start (hist past v) i k r).op

  its : managed_for start (map said sends_now.more ++ told_then) r.serial ≡ Some op
  its = ap (λ ms. managed_for start ms r.serial) all_is ∙ (telling start (hist past v) i k r).is_for

  pub record IsWritten : Type 0 where
    pub operation : (target_at start (hist past v)).manager.operation ≡ Some op
    pub manager : (target_at start (hist past v)).manager ≡ (target_at start begun).manager
    pub asked : is_nothing (target_at start begun).manager_asks ≡ false
    pub payload : r.done.payload ≡ (target_at start (hist past v)).manager.outgoing

  not_old : managed_for start told_then r.serial ≡ Some op → IsWritten
  not_old e =
      let f = sym (told_for start tells_now.more begun (are_behind tells_now.more tells_now.all) r.serial ∙ old_for r.serial) ∙ e in
      let b = for_below start H r.serial op serials f in
      absurd (omega (arith, b, l))

  written_by : managed_for start told_then r.serial ≡ Some op ⊎ WasAsked start sends_now.more told_then r.serial op → IsWritten
  written_by (inl e) = not_old e
  written_by (inr x) =
      let t = told_asked start tells_now.more begun (are_behind tells_now.more tells_now.all) x.asked in
      let m : (target_at start (hist past v)).manager ≡ (target_at start told_then).manager = ap (λ ms. (target_at start ms).manager) (sym all_is) ∙ manager_same start sends_now.more told_then sends_now.all in
      record {
        operation = ap (λ (y : Machine). y.operation) m ∙ x.operation;
        manager = m ∙ t.0;
        asked = t.1;
        payload = sym (payload_is start (hist past v) i k r) ∙ (ap (λ ms. outgoing_for start ms r.serial) (sym all_is) ∙ (x.bytes ∙ ap (λ (y : Machine). y.outgoing) (sym m)));
      }

  pub written : IsWritten
  written = written_by (sends_asked start sends_now.more told_then sends_now.all r.serial op its)
