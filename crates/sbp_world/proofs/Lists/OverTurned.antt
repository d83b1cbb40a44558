-- In a turn of a run an ORB ends only where the status block of the one before it was answered, in the present list of an initiator that injected no packets: behind the turn each status block of such a list was
-- answered but that of the latest end, while the agent of the list writes it, or is dead; where it was so before.
use Rattle.std.proofs.Common.{arith, ◌≡◌, ◌∙◌, refl, sym, ap, subst, inl, inr, ◌⊎◌, ◌<◌, ◌≤◌, ◌+◌, ℕ, suc, nat_eq, nat_lt, Bool, true, false, List, [], ◌∷◌, ◌++◌, length, Some, None}
use Rattle.std.proofs.lemmas.Bool.Decides.{nat_tests}
use Rattle.std.proofs.lemmas.Bool.{false≢true}
use Rattle.orb_layout.specs.declared.status.StatusKind.{StatusKind}
use Rattle.orb_layout.specs.StatusBlocks.{status_bytes}
use Rattle.command_agent.specs.declared.phase.Phase.TheVariants as phases
use Rattle.command_agent.specs.Machine.{Machine, has_present}
use Rattle.command_agent.specs.Steps.{src_of}
use Rattle.orb_layout.specs.declared.command.CommandOrb.{CommandOrb}
use Rattle.bus_transactions.specs.Packets.{SerialsCount}
use Rattle.rbc_disk.specs.Disk.{Disk}
use Rattle.sbp_bus.specs.Places.{holder_at}
use Rattle.sbp_bus.specs.declared.places.Holder.{Holder}
use Rattle.sbp_journal.specs.Addresses.{Access}
use Rattle.sbp_journal.specs.Run.{Moment, said}
use Rattle.sbp_journal.specs.Wire.{terms}
use Rattle.sbp_journal.specs.declared.note.Note.{Note}
use Rattle.sbp_journal.specs.declared.note.Note.TheVariants as notes
use Rattle.sbp_journal.specs.declared.side.Side.{Side}
use Rattle.sbp_laws.specs.Lists.{present_list}
use Rattle.sbp_laws.specs.OrderLaw.{IsOpen, is_cut}
use Rattle.sbp_laws.specs.Packets.{access_at}
use Rattle.sbp_laws.specs.StatusLaw.{status_due}
use Rattle.sbp_laws.specs.Terms.{ended_status, ends, lists}
use Rattle.sbp_laws.specs.Turns.{EachMoment}
use Rattle.sbp_target.specs.Calls.{alone}
use Rattle.sbp_target.specs.Nodes.{NodeState, Scene as TargetScene, desk_at}
use Rattle.sbp_target.specs.Receiving.{with_key}
use Rattle.sbp_world.specs.Handing.{handed_out}
use Rattle.sbp_world.specs.Telling.{holder, told_all}
use Rattle.sbp_world.specs.Worlds.{WorldState}
use Rattle.sbp_world.specs.Lists.Needs.{initiator_in, machine_at}
use Rattle.sbp_world.specs.Lists.Opened.{IsUp}
use Rattle.sbp_world.specs.Lists.TakenTurns.{WasAnswered}
use Rattle.sbp_world.specs.Pointers.Moments.{MayStand}
use Rattle.sbp_world.proofs.Agents.Management.Still.{hist}
use Rattle.sbp_world.proofs.Common.{moments_joined, moments_split}
use Rattle.sbp_world.proofs.Hosts.Remaining.{remains}
use Rattle.sbp_world.proofs.Hosts.SentMoments.{serials_from}
use Rattle.sbp_world.proofs.Lists.Adds.{Stays, all_stay}
use Rattle.sbp_world.proofs.Lists.BusyCuts.{AreBeside, WasCut}
use Rattle.sbp_world.proofs.Lists.BusyTold.{cut_told}
use Rattle.sbp_world.proofs.Lists.EndingFollows.{ends_in}
use Rattle.sbp_world.proofs.Lists.EndingSteps.{EndsIn, is_over, over_up}
use Rattle.sbp_world.proofs.Lists.Extends.{handed_extends}
use Rattle.sbp_world.proofs.Lists.OpenWorlds.{hist_on}
use Rattle.sbp_world.proofs.Lists.OverCalls.{CalledBy, ComesMain, GoesOn, acts, call_called, rests}
use Rattle.sbp_world.proofs.Lists.OverEnds.{begun, ended_less, has_status, open_back, present_back}
use Rattle.sbp_world.proofs.Lists.OverFollows.{Acts}
use Rattle.sbp_world.proofs.Lists.OverSteps.{AreGoing, IsSameBlock, Keeps, same_self}
use Rattle.sbp_world.proofs.Lists.OverTells.{IsAmong, IsMore, ends_told, status_told}
use Rattle.sbp_world.proofs.Lists.OverTies.{answered_on}
use Rattle.sbp_world.proofs.Lists.Passing.{PassLaw}
use Rattle.sbp_world.proofs.Lists.PlaceOwners.{Owns}
use Rattle.sbp_world.proofs.Lists.StatusKnown.{each_from}
use Rattle.sbp_world.proofs.Lists.StatusMoments.{ended_below, ended_stays, ends_grow}
use Rattle.sbp_world.proofs.Lists.StatusSteps.{EndsSo}
use Rattle.sbp_world.proofs.Lists.TurnCalls.{IsCalled, TurnCalls, calls, keyed, leaves}
use Rattle.sbp_world.proofs.Lists.TurnCuts.{beside_ends}
use Rattle.sbp_world.proofs.Lists.Turns.{First, got_it, ignored_it, key_it, late_it, seen_it, tick_it}
use Rattle.sbp_world.proofs.Lists.UnrunTerms.{first_as, lists_sent, lists_told}
use Rattle.sbp_world.proofs.Lists.YoungAgents.{IsYoung, young_on}
use Rattle.sbp_world.proofs.Wire.Nodes.{handed_alike}

-- ---- what is kept
-- a packet was a read then
pub record IsReadThen (ms : List Moment) (serial : ℕ) : Type 0 where
  pub access : Access
  pub is : access_at (terms ms) serial ≡ Some access
  pub reads : access.is_write ≡ false

-- the transactions of the agent of a place were sent since the last moments, in which no status was due, or are reads
pub record IsFresh (start : List Disk) (ms : List Moment) (p : ℕ) : Type 0 where
  pub due : status_due ms ≡ None
  pub young : IsYoung (terms ms).count (IsReadThen ms) start ms p

-- so it was as the ORB ended
pub record IsSince (start : List Disk) (ms : List Moment) (p i n k : ℕ) : Type 0 where
  pub base : List Moment
  pub later : List Moment
  pub is : later ++ base ≡ ms
  pub due : status_due base ≡ None
  pub number : k ≡ ends base i n
  pub latest : suc n ≡ lists base i
  pub young : IsYoung (terms base).count (IsReadThen base) start ms p

pub record WritesSince (start : List Disk) (ms : List Moment) (w : WorldState) (p i n k : ℕ) : Type 0 where
  pub since : IsSince start ms p i n k
  pub kind : StatusKind
  pub status : ended_status ms i n k ≡ Some kind
  pub block : EndsSo kind (machine_at w p)
  pub plain : EndsIn kind phases.WritingStatus

-- the agent of an initiator writes the status block of the ORB, or is dead
pub record IsOverFor (start : List Disk) (ms : List Moment) (w : WorldState) (i n k : ℕ) : Type 0 where
  pub place : ℕ
  pub small : place < 8
  pub initiator_is : initiator_in w place ≡ i
  pub over : is_over (machine_at w place).phase ≡ true
  pub since : (machine_at w place).phase ≡ phases.WritingStatus → WritesSince start ms w place i n k

abbrev pub IsDone : List Disk → List Moment → WorldState → (i n k : ℕ) → Type 0
IsDone start ms w i n k = WasAnswered ms i n k ⊎ ((suc k ≡ ends ms i n) × IsOverFor start ms w i n k)

abbrev pub AreDone : List Disk → (ℕ → Bool) → List Moment → WorldState → Type 0
AreDone start wild ms w = (i : ℕ) → wild i ≡ false → (n : ℕ) → IsOpen ms i n → present_list ms i ≡ Some n → (k : ℕ) → k < ends ms i n → IsDone start ms w i n k

-- as an ORB ended those before it were answered
abbrev pub BehindAt : (ℕ → Bool) → Moment → List Moment → Type 0
BehindAt wild (said (notes.Ended j (Some n) (Some k) status)) past = wild j ≡ false → present_list past j ≡ Some n → (l : ℕ) → l < k → WasAnswered past j n l
BehindAt wild moment past = Unit {0}

abbrev pub AreBehindOnes : (ℕ → Bool) → List Moment → Type 0
AreBehindOnes wild ms = EachMoment (BehindAt wild) ms

-- ---- behind more moments
pub since_on : (start : List Disk) (later ms : List Moment) (p i n k : ℕ) → SerialsCount (later ++ ms) → IsSince start ms p i n k → IsSince start (later ++ ms) p i n k
since_on start later ms p i n k c x = record {
  base = x.base;
  later = later ++ x.later;
  is = sym (moments_split later x.later x.base) ∙ ap (λ h. later ++ h) x.is;
  due = x.due;
  number = x.number;
  latest = x.latest;
  young =
      (let low : (terms x.base).count ≤ (terms ms).count = subst (λ h. (terms x.base).count ≤ (terms h).count) x.is (remains x.later x.base (serials_from later (x.later ++ x.base) (subst (λ h. SerialsCount (later ++ h)) (sym x.is) c))).count in
      young_on (terms x.base).count (IsReadThen x.base) start p later ms c low x.young);
}

block_moved : (kind : StatusKind) (before now : Machine) → IsSameBlock before now → EndsSo kind before → EndsSo kind now
block_moved kind before now s e = record {
  outgoing = s.outgoing ∙ (e.outgoing ∙ (ap (λ (o : CommandOrb). status_bytes (record { src = src_of o.next; kind = kind; orb = before.present })) (sym s.next) ∙ ap (λ x. status_bytes (record { src = src_of now.orb.next; kind = kind; orb = x })) (sym s.present)));
  present = ap has_present s.phase_is ∙ e.present;
  fair = e.fair;
}

-- ---- each end behind more moments
module _ (wild : ℕ → Bool) (base later : List Moment) (passes : PassLaw wild (later ++ base)) (counts : SerialsCount (later ++ base)) (stands : (i : ℕ) → wild i ≡ false → EachMoment (MayStand i) (later ++ base)) (most : (i n : ℕ) → wild i ≡ false → ends (later ++ base) i n ≤ suc (ends base i n)) (need : (i n : ℕ) → wild i ≡ false → ends base i n < ends (later ++ base) i n → IsOpen base i n → present_list base i ≡ Some n → (l : ℕ) → l < ends base i n → WasAnswered base i n l) where
  -- one of them
  one_behind : (front back : List Moment) (j n k : ℕ) (status : StatusKind) → front ++ said (notes.Ended j (Some n) (Some k) status) ∷ (back ++ base) ≡ later ++ base → wild j ≡ false → present_list (back ++ base) j ≡ Some n → (l : ℕ) → l < k → WasAnswered (back ++ base) j n l
  one_behind front back j n k status is own present l less =
      let m = said (notes.Ended j (Some n) (Some k) status) in
      let past = back ++ base in
      let law : PassLaw wild (m ∷ past) = each_from _ front (m ∷ past) (subst (PassLaw wild) (sym is) passes) in
      let end = (law.0 own).turn in
      let number : k ≡ ends past j n = end.number in
      let above = ended_below past j n k status number in
      let more = ends_grow front (m ∷ past) j n in
      let all : ends (front ++ m ∷ past) j n ≡ ends (later ++ base) j n = ap (λ h. ends h j n) is in
      let few = most j n own in
      let grown = ends_grow back base j n in
      let low : l < ends base j n = omega (arith, number, above, more, all, few, grown, less) in
      let new : ends base j n < ends (later ++ base) j n = omega (arith, number, above, more, all, grown) in
      let law_base : PassLaw wild base = each_from _ later base passes in
      let has = begun wild j own n base law_base (omega (arith, low)) in
      let stand : EachMoment (MayStand j) past = (each_from (MayStand j) front (m ∷ past) (subst (EachMoment (MayStand j)) (sym is) (stands j own))).1 in
      let counted : SerialsCount past = serials_from (front ++ m ∷ []) past (subst SerialsCount (sym (sym (moments_split front (m ∷ []) past) ∙ is)) counts) in
      answered_on back base j n l counted (need j n own new (open_back j n back base has end.still) (present_back j n back base has stand present) l low)

  behind_by : (m : Moment) (back : List Moment) → ((j n k : ℕ) (status : StatusKind) → m ≡ said (notes.Ended j (Some n) (Some k) status) → wild j ≡ false → present_list (back ++ base) j ≡ Some n → (l : ℕ) → l < k → WasAnswered (back ++ base) j n l) → BehindAt wild m (back ++ base)
  behind_by (said (notes.Ended j (Some n) (Some k) status)) back f = f j n k status refl
  behind_by (said (notes.Ended j (Some n) None status)) back f = tt
  behind_by (said (notes.Ended j None k status)) back f = tt
  behind_by m back f = tt

  each_in : (back front : List Moment) → front ++ back ≡ later → AreBehindOnes wild base → AreBehindOnes wild (back ++ base)
  each_in [] front is were = were
  each_in (m ∷ back) front is were =
      let split : (front ++ m ∷ []) ++ back ≡ later = sym (moments_split front (m ∷ []) back) ∙ is in (
        behind_by m back (λ j n k status e own present l less.
            one_behind front back j n k status
            (ap (λ x. front ++ x ∷ (back ++ base)) (sym e) ∙ (moments_split front (m ∷ back) base ∙ ap (λ h. h ++ base) is)) own present l less),
        each_in back (front ++ m ∷ []) split were,
      )

  pub all_behind : AreBehindOnes wild base → AreBehindOnes wild (later ++ base)
  all_behind were = each_in later [] refl were

first_present : (ms : List Moment) (note : Note) → First note → (i : ℕ) → present_list (said note ∷ ms) i ≡ present_list ms i
first_present ms _ (got_it serial) i = refl
first_present ms _ (ignored_it serial cause) i = refl
first_present ms _ (late_it serial) i = refl
first_present ms _ (seen_it node generation) i = refl
first_present ms _ tick_it i = refl
first_present ms _ (key_it unit) i = refl

pub first_behind : (wild : ℕ → Bool) (ms : List Moment) (note : Note) → First note → AreBehindOnes wild ms → AreBehindOnes wild (said note ∷ ms)
first_behind wild ms _ (got_it serial) h = (tt, h)
first_behind wild ms _ (ignored_it serial cause) h = (tt, h)
first_behind wild ms _ (late_it serial) h = (tt, h)
first_behind wild ms _ (seen_it node generation) h = (tt, h)
first_behind wild ms _ tick_it h = (tt, h)
first_behind wild ms _ (key_it unit) h = (tt, h)

-- ---- a turn from a world that has the target and the places of another
module _ (start : List Disk) (wild : ℕ → Bool) (past : List Moment) (w v : WorldState) (passes : PassLaw wild (hist past w)) (passes_now : PassLaw wild (hist past v)) (counts : SerialsCount (hist past v)) (stands : (i : ℕ) → wild i ≡ false → EachMoment (MayStand i) (hist past v)) (owns : Owns w v) (holds : (i q n : ℕ) → wild i ≡ false → q < 8 → IsUp w i q → suc n ≡ lists (hist past w) i → (holder w q).list ≡ Some n) (apart : (i p q : ℕ) → wild i ≡ false → p < 8 → q < 8 → IsUp v i p → IsUp v i q → q ≡ p) (closes : (c : IsCalled past w v) (i n k : ℕ) → wild i ≡ false → IsOpen (hist past w) i n → present_list (hist past w) i ≡ Some n → suc k ≡ ends (hist past w) i n → (b : IsOverFor start (hist past w) w i n k) → GoesOn w c.call b.place → WasAnswered (said c.first ∷ hist past w) i n k) (fresh : (c : IsCalled past w v) (q : ℕ) → q < 8 → wild (initiator_in w q) ≡ false → ComesMain w c.call q → IsFresh start (said c.first ∷ hist past w) q) (o : AreDone start wild (hist past w) w) (were : AreBehindOnes wild (hist past w)) where
  abbrev before : List Moment
  before = hist past w

  abbrev now : List Moment
  now = hist past v

  pub record Kept : Type 0 where
    pub done : AreDone start wild (hist past v) v
    pub behind : AreBehindOnes wild (hist past v)

  counted : (later ms : List Moment) → later ++ ms ≡ now → SerialsCount (later ++ ms)
  counted later ms is = subst SerialsCount (sym is) counts

  passed : (later ms : List Moment) → later ++ ms ≡ now → PassLaw wild (later ++ ms)
  passed later ms is = subst (PassLaw wild) (sym is) passes_now

  stood : (later ms : List Moment) → later ++ ms ≡ now → (i : ℕ) → wild i ≡ false → EachMoment (MayStand i) (later ++ ms)
  stood later ms is i own = subst (EachMoment (MayStand i)) (sym is) (stands i own)

  -- the agent of a place that does not act
  module _ (later : List Moment) (is : later ++ before ≡ now) (i n k : ℕ) (own : wild i ≡ false) (low : k < ends before i n) (b : IsOverFor start before w i n k) where
    over_kept : is_over (machine_at v b.place).phase ≡ true → initiator_in v b.place ≡ i → Keeps (machine_at w b.place) (machine_at v b.place) → IsOverFor start now v i n k
    over_kept over from keeps = record {
      place = b.place;
      small = b.small;
      initiator_is = from;
      over = over;
      since = λ e.
          let s = keeps e in
          let x = b.since (sym s.phase_is ∙ e) in
          record {
            since = subst (λ h. IsSince start h b.place i n k) is (since_on start later before b.place i n k (counted later before is) x.since);
            kind = x.kind;
            status = ap (λ h. ended_status h i n k) (sym is) ∙ (ended_stays wild i own later before n k (passed later before is) low ∙ x.status);
            block = block_moved x.kind (machine_at w b.place) (machine_at v b.place) s x.block;
            plain = x.plain;
          };
    }

  -- no ORB ends, and the agents stay
  module _ (later : List Moment) (is : later ++ before ≡ now) (same : (i n : ℕ) → ends now i n ≡ ends before i n) where
    grown : (i n : ℕ) → ends (later ++ before) i n ≡ ends before i n
    grown i n = ap (λ h. ends h i n) is ∙ same i n

    same_behind : AreBehindOnes wild now
    same_behind = subst (AreBehindOnes wild) is (all_behind wild before later (passed later before is) (counted later before is) (stood later before is)
        (λ i n own. let e = grown i n in omega (arith, e))
        (λ i n own more opened present l low. let e = grown i n in absurd (omega (arith, e, more))) were)

    kept_so : ((i n k : ℕ) → wild i ≡ false → IsOpen now i n → IsOpen before i n → present_list before i ≡ Some n → suc k ≡ ends before i n → (b : IsOverFor start before w i n k) → IsDone start now v i n k) → Kept
    kept_so stays = record {
      done = λ i own n opened present k less.
          let low : k < ends before i n = (let e = same i n in omega (arith, e, less)) in
          let has = begun wild i own n before passes (omega (arith, low)) in
          let then = open_back i n later before has (subst (λ h. IsOpen h i n) (sym is) opened) in
          let there = present_back i n later before has (stood later before is i own) (ap (λ h. present_list h i) is ∙ present) in
          by i own n opened then there k (o i own n then there k low);
      behind = same_behind;
    }
      where
        by : (i : ℕ) → wild i ≡ false → (n : ℕ) → IsOpen now i n → IsOpen before i n → present_list before i ≡ Some n → (k : ℕ) → IsDone start before w i n k → IsDone start now v i n k
        by i own n opened then there k (inl a) = inl (subst (λ h. WasAnswered h i n k) is (answered_on later before i n k (counted later before is) a))
        by i own n opened then there k (inr (e, b)) = stays i n k own opened then there e b

  -- ---- what others than the target do
  left_kept : (other : ℕ → Bool) → Stays other past w v → Kept
  left_kept other s =
      kept_so s.adds.later s.adds.is s.adds.ends_are
      (λ i n k own opened then there e b.
      let same : machine_at v b.place ≡ machine_at w b.place = ap (λ (t : NodeState). (desk_at t b.place).agent) s.target in
      let count = s.adds.ends_are i n in
      inr (
        e ∙ sym count,
        over_kept s.adds.later s.adds.is i n k own (omega (arith, e)) b (ap (λ (m : Machine). is_over m.phase) same ∙ b.over) (ap (λ ps. (holder_at ps b.place).initiator) s.places ∙ b.initiator_is)
            (subst (λ (m : Machine). Keeps (machine_at w b.place) m) (sym same) (λ f. same_self (machine_at w b.place))),
      ))

  -- a unit gets a key
  key_kept : (unit : ℕ) (key : List ℕ) → v.target ≡ with_key unit key w.target → v.places ≡ w.places → hist past v ≡ said (notes.Key unit) ∷ hist past w → Kept
  key_kept unit key target places is =
      kept_so (said (notes.Key unit) ∷ []) (sym is) (λ i n. ap (λ ms. ends ms i n) is)
      (λ i n k own opened then there e b.
      let same : machine_at v b.place ≡ machine_at w b.place = ap (λ (t : NodeState). (desk_at t b.place).agent) target in
      let count : ends now i n ≡ ends before i n = ap (λ ms. ends ms i n) is in
      inr (
        e ∙ sym count,
        over_kept (said (notes.Key unit) ∷ []) (sym is) i n k own (omega (arith, e)) b (ap (λ (m : Machine). is_over m.phase) same ∙ b.over) (ap (λ ps. (holder_at ps b.place).initiator) places ∙ b.initiator_is)
            (subst (λ (m : Machine). Keeps (machine_at w b.place) m) (sym same) (λ f. same_self (machine_at w b.place))),
      ))

  -- ---- a call of the target
  module _ (c : IsCalled past w v) where
    abbrev t : TargetScene
    t = alone c.call w.target

    abbrev told_sides : List Side
    told_sides = t.outbox.sides

    abbrev x : WorldState
    x = told_all 0 told_sides c.u

    abbrev base : List Moment
    base = said c.first ∷ before

    sends : Stays (λ j. true) past x (handed_out 0 0 t.outbox c.u)
    sends = all_stay (λ j. true) past 0 t.outbox.packets x

    machine_now : (p : ℕ) → machine_at v p ≡ (desk_at t.node p).agent
    machine_now p = ap (λ (y : WorldState). machine_at y p) c.is ∙ ap (λ (n : NodeState). (desk_at n p).agent) ((handed_alike 0 0 t.outbox c.u).target ∙ c.target)

    -- an agent that is up then is of the same initiator
    owner : (p : ℕ) → p < 8 → is_over (machine_at v p).phase ≡ true → initiator_in v p ≡ initiator_in w p
    owner p b over = owns p b (over_up (machine_at v p).phase over)

    record On : Type 0 where
      later : List Moment
      is : later ++ base ≡ now

    on : On
    on =
        let h = hist_on past c.u (handed_out 0 0 t.outbox c.u) (handed_extends 0 0 t.outbox c.u) in
        record { later = h.more; is = ap (λ ms. h.more ++ ms) (sym c.fresh) ∙ (h.is ∙ ap (λ (y : WorldState). hist past y) (sym c.is)) }

    whole : (on.later ++ said c.first ∷ []) ++ before ≡ now
    whole = moments_joined on.later (said c.first ∷ []) before ∙ on.is

    first_ends : (i n : ℕ) → ends (hist past c.u) i n ≡ ends before i n
    first_ends i n = ap (λ ms. ends ms i n) c.fresh ∙ (first_as before c.first c.starts).ends_are i n

    sent_ends : (i n : ℕ) → ends now i n ≡ ends (hist past x) i n
    sent_ends i n = ap (λ (y : WorldState). ends (hist past y) i n) c.is ∙ sends.adds.ends_are i n

    base_ends : (i n : ℕ) → ends base i n ≡ ends before i n
    base_ends i n = (first_as before c.first c.starts).ends_are i n

    base_open : (i n : ℕ) → IsOpen base i n → IsOpen before i n
    base_open i n opened = record { latest = opened.latest ∙ (first_as before c.first c.starts).lists_are i; uncut = sym ((first_as before c.first c.starts).cuts_are i n) ∙ opened.uncut }

    answered_first : (i n k : ℕ) → WasAnswered before i n k → WasAnswered base i n k
    answered_first i n k a = answered_on (said c.first ∷ []) before i n k (serials_from on.later base (counted on.later base on.is)) a

    answered_now : (i n k : ℕ) → WasAnswered base i n k → WasAnswered now i n k
    answered_now i n k a = subst (λ h. WasAnswered h i n k) on.is (answered_on on.later base i n k (counted on.later base on.is) a)

    -- ---- no end is told
    module _ (stays : (p : ℕ) → ((desk_at t.node p).agent.phase ≡ (desk_at w.target p).agent.phase) ⊎ WasCut p told_sides) (beside : AreBeside told_sides) (block : (p : ℕ) → Keeps (desk_at w.target p).agent (desk_at t.node p).agent) where
      same_ends : (i n : ℕ) → ends now i n ≡ ends before i n
      same_ends i n = sent_ends i n ∙ (beside_ends past i n told_sides c.u beside ∙ first_ends i n)

      cuts_sent : (i n : ℕ) → is_cut now i n ≡ is_cut (hist past x) i n
      cuts_sent i n = ap (λ (y : WorldState). is_cut (hist past y) i n) c.is ∙ sends.adds.cuts_are i n

      module _ (i n k : ℕ) (own : wild i ≡ false) (opened : IsOpen now i n) (latest : suc n ≡ lists before i) (e : suc k ≡ ends before i n) (b : IsOverFor start before w i n k) where
        up : IsUp w i b.place
        up = record { up = over_up (machine_at w b.place).phase b.over; own = b.initiator_is }

        cut_not : WasCut b.place told_sides → ⊥
        cut_not cut =
            let same : holder c.u b.place ≡ holder w b.place = ap (λ ps. holder_at ps b.place) c.places in
            let is = cut_told past b.place n told_sides c.u beside cut (ap (λ (h : Holder). h.list) same ∙ holds i b.place n own b.small up latest) in
            let at : (holder c.u b.place).initiator ≡ i = ap (λ (h : Holder). h.initiator) same ∙ b.initiator_is in
            false≢true (sym opened.uncut ∙ (cuts_sent i n ∙ subst (λ j. is_cut (hist past x) j n ≡ true) at is))

        over_now : is_over (machine_at v b.place).phase ≡ true
        over_now = by (stays b.place)
          where
            by : ((desk_at t.node b.place).agent.phase ≡ (desk_at w.target b.place).agent.phase) ⊎ WasCut b.place told_sides → is_over (machine_at v b.place).phase ≡ true
            by (inl f) = ap (λ (m : Machine). is_over m.phase) (machine_now b.place) ∙ (ap is_over f ∙ b.over)
            by (inr cut) = absurd (cut_not cut)

        rests_so : IsDone start now v i n k
        rests_so = inr (
          e ∙ sym (same_ends i n),
          over_kept (on.later ++ said c.first ∷ []) whole i n k own (omega (arith, e)) b over_now (owner b.place b.small over_now ∙ b.initiator_is)
              (subst (λ (m : Machine). Keeps (machine_at w b.place) m) (sym (machine_now b.place)) (block b.place)),
        )

      rested : Kept
      rested = kept_so (on.later ++ said c.first ∷ []) whole same_ends (λ i n k own opened then there e b. rests_so i n k own opened then.latest e b)

    -- ---- the agent of one place acts
    module _ (q : ℕ) (b : q < 8) (a : Acts q b (λ p. (desk_at w.target p).agent) ((is_over (desk_at w.target q).agent.phase ≡ false) ⊎ GoesOn w c.call q) (ComesMain w c.call q) t) where
      abbrev Was : Type 0
      Was = (is_over (desk_at w.target q).agent.phase ≡ false) ⊎ GoesOn w c.call q

      abbrev By : Type 0
      By = ComesMain w c.call q

      abbrev M : Machine
      M = (desk_at w.target q).agent

      abbrev N : Machine
      N = (desk_at t.node q).agent

      abbrev kinds_told : List StatusKind
      kinds_told = ends_in told_sides

      abbrev j : ℕ
      j = (holder c.u q).initiator

      j_is : j ≡ initiator_in w q
      j_is = ap (λ ps. (holder_at ps q).initiator) c.places

      more : (i n : ℕ) → IsMore i j (ends before i n) (ends now i n) (length kinds_told)
      more i n =
          subst (λ y. IsMore i j (ends before i n) y (length kinds_told)) (sym (sent_ends i n))
          (subst (λ y. IsMore i j y (ends (hist past x) i n) (length kinds_told)) (first_ends i n) (ends_told past q i n told_sides c.u a.of))

      lists_now : (i : ℕ) → lists now i ≡ lists base i
      lists_now i = ap (λ (y : WorldState). lists (hist past y) i) c.is ∙ (lists_sent past i 0 t.outbox.packets x ∙ (lists_told past i told_sides c.u c.others ∙ ap (λ ms. lists ms i) c.fresh))

      -- the agent of another place is as it was
      other_same : (p : ℕ) → (p ≡ q → ⊥) → machine_at v p ≡ machine_at w p
      other_same p f = machine_now p ∙ a.same p f

      other_kept : (i n k : ℕ) → wild i ≡ false → suc k ≡ ends before i n → (p : IsOverFor start before w i n k) → (p.place ≡ q → ⊥) → IsOverFor start now v i n k
      other_kept i n k own e p f =
          let same = other_same p.place f in
          let over = ap (λ (m : Machine). is_over m.phase) same ∙ p.over in
          over_kept (on.later ++ said c.first ∷ []) whole i n k own (omega (arith, e)) p over (owner p.place p.small over ∙ p.initiator_is)
          (subst (λ (m : Machine). Keeps (machine_at w p.place) m) (sym same) (λ g. same_self (machine_at w p.place)))

      -- the agent of this place went on from the status block
      went_on : (i n k : ℕ) → wild i ≡ false → IsOpen before i n → present_list before i ≡ Some n → suc k ≡ ends before i n → (p : IsOverFor start before w i n k) → p.place ≡ q → Was → WasAnswered base i n k
      went_on i n k own opened present e p at (inl none) = absurd (false≢true (sym none ∙ (ap (λ y. is_over (desk_at w.target y).agent.phase) (sym at) ∙ p.over)))
      went_on i n k own opened present e p at (inr goes) = closes c i n k own opened present e p (subst (GoesOn w c.call) (sym at) goes)

      apart_from : (p : ℕ) → nat_eq p q ≡ false → p ≡ q → ⊥
      apart_from p f same = false≢true (sym f ∙ (let z : nat_eq p q ≡ true = grind (arith, nat_tests) in z))

      -- ---- where none is told
      module _ (none : kinds_told ≡ []) (h : Keeps M N) where
        none_ends : (i n : ℕ) → ends now i n ≡ ends before i n
        none_ends i n = by (subst (λ y. IsMore i j (ends before i n) (ends now i n) (length y)) none (more i n))
          where
            by : IsMore i j (ends before i n) (ends now i n) 0 → ends now i n ≡ ends before i n
            by (inl e) = e
            by (inr e) = let less = e.1 in let grows = ends_grow (on.later ++ said c.first ∷ []) before i n in let all : ends ((on.later ++ said c.first ∷ []) ++ before) i n ≡ ends now i n = ap (λ y. ends y i n) whole in omega (arith, less, grows, all)

        quiet_so : (i n k : ℕ) → wild i ≡ false → IsOpen before i n → present_list before i ≡ Some n → suc k ≡ ends before i n → IsOverFor start before w i n k → IsDone start now v i n k
        quiet_so i n k own opened present e p = by_place (nat_eq p.place q) refl
          where
            over_here : p.place ≡ q → (y : Bool) → is_over N.phase ≡ y → IsDone start now v i n k
            over_here at true f =
                let here : machine_at v p.place ≡ N = machine_now p.place ∙ ap (λ y. (desk_at t.node y).agent) at in
                let there : machine_at w p.place ≡ M = ap (λ y. (desk_at w.target y).agent) at in
                let over = ap (λ (m : Machine). is_over m.phase) here ∙ f in
                inr (
                  e ∙ sym (none_ends i n),
                  over_kept (on.later ++ said c.first ∷ []) whole i n k own (omega (arith, e)) p over (owner p.place p.small over ∙ p.initiator_is)
                      (subst (λ (m : Machine). Keeps (machine_at w p.place) m) (sym here) (subst (λ (m : Machine). Keeps m N) (sym there) h)),
                )
            over_here at false f = inl (answered_now i n k (went_on i n k own opened present e p at (a.was f)))

            by_place : (y : Bool) → nat_eq p.place q ≡ y → IsDone start now v i n k
            by_place true f = over_here (grind (arith, nat_tests)) (is_over N.phase) refl
            by_place false f = inr (e ∙ sym (none_ends i n), other_kept i n k own e p (apart_from p.place f))

        quiet_kept : Kept
        quiet_kept = kept_so (on.later ++ said c.first ∷ []) whole none_ends (λ i n k own opened then there e p. quiet_so i n k own then there e p)

      -- ---- where one is told
      module _ (kind : StatusKind) (one : kinds_told ≡ kind ∷ []) (over : is_over N.phase ≡ true) (was : Was) (by : N.phase ≡ phases.WritingStatus → By × (EndsSo kind N × EndsIn kind N.phase)) where
        over_q : is_over (machine_at v q).phase ≡ true
        over_q = ap (λ (m : Machine). is_over m.phase) (machine_now q) ∙ over

        up_q : (i : ℕ) → i ≡ j → IsUp v i q
        up_q i e = record { up = over_up (machine_at v q).phase over_q; own = owner q b over_q ∙ (sym j_is ∙ sym e) }

        most : (i n : ℕ) → IsMore i j (ends before i n) (ends now i n) 1
        most i n = subst (λ y. IsMore i j (ends before i n) (ends now i n) (length y)) one (more i n)

        -- so the one before was answered
        at_base : (i n k : ℕ) → wild i ≡ false → IsOpen before i n → present_list before i ≡ Some n → suc k ≡ ends before i n → i ≡ j → IsOverFor start before w i n k → WasAnswered base i n k
        at_base i n k own opened present e from p = by_place (nat_eq p.place q) refl
          where
            by_place : (y : Bool) → nat_eq p.place q ≡ y → WasAnswered base i n k
            by_place true f = went_on i n k own opened present e p (grind (arith, nat_tests)) was
            by_place false f =
                let g = apart_from p.place f in
                let over_p = ap (λ (m : Machine). is_over m.phase) (other_same p.place g) ∙ p.over in
                let up_p : IsUp v i p.place = record { up = over_up (machine_at v p.place).phase over_p; own = owner p.place p.small over_p ∙ p.initiator_is } in
                absurd (g (sym (apart i p.place q own p.small b up_p (up_q i from))))

        -- that of this end is written now
        module _ (i n k : ℕ) (own : wild i ≡ false) (opened : IsOpen now i n) (less : k < ends now i n) (number : k ≡ ends before i n) (from : i ≡ j) where
          kind_is : ended_status now i n k ≡ Some kind
          kind_is =
              let h = has_status wild i own n k now passes_now less in
              let sent_is : sends.adds.later ++ hist past x ≡ now = sends.adds.is ∙ ap (λ (y : WorldState). hist past y) (sym c.is) in
              let there : k < ends (hist past x) i n = (let g = sent_ends i n in omega (arith, g, less)) in
              let stays = ended_stays wild i own sends.adds.later (hist past x) n k (passed sends.adds.later (hist past x) sent_is) there in
              let told_then : ended_status (hist past x) i n k ≡ Some h.status = sym stays ∙ (ap (λ y. ended_status y i n k) sent_is ∙ h.is) in
              h.is ∙ ap (λ y. Some y) (by_told h.status (status_told past q i n k h.status told_sides c.u a.of told_then))
            where
              law_first : PassLaw wild (hist past c.u)
              law_first = subst (PassLaw wild) (sym c.fresh) (each_from _ on.later base (passed on.later base on.is))

              among : (st : StatusKind) → IsAmong st (kind ∷ []) → st ≡ kind
              among st (inl e) = e
              among st (inr e) = absurd e

              by_told : (st : StatusKind) → (ended_status (hist past c.u) i n k ≡ Some st) ⊎ IsAmong st kinds_told → st ≡ kind
              by_told st (inl e) = let y = ended_less wild i own n k (hist past c.u) law_first st e in let g = first_ends i n in absurd (omega (arith, y, g, number))
              by_told st (inr e) = among st (subst (IsAmong st) one e)

          new_over : IsOverFor start now v i n k
          new_over = record {
            place = q;
            small = b;
            initiator_is = owner q b over_q ∙ (sym j_is ∙ sym from);
            over = over_q;
            since = λ f.
                let y = by (ap (λ (m : Machine). m.phase) (sym (machine_now q)) ∙ f) in
                let g = fresh c q b (ap wild (sym (from ∙ j_is)) ∙ own) y.0 in
                record {
                  since = record {
                    base = base;
                    later = on.later;
                    is = on.is;
                    due = g.due;
                    number = number ∙ sym (base_ends i n);
                    latest = opened.latest ∙ lists_now i;
                    young = subst (λ h. IsYoung (terms base).count (IsReadThen base) start h q) on.is (young_on (terms base).count (IsReadThen base) start q on.later base (counted on.later base on.is) (omega arith) g.young);
                  };
                  kind = kind;
                  status = kind_is;
                  block = subst (EndsSo kind) (sym (machine_now q)) y.1.0;
                  plain = subst (EndsIn kind) (ap (λ (m : Machine). m.phase) (sym (machine_now q)) ∙ f) y.1.1;
                };
          }

        told_done : AreDone start wild now v
        told_done i own n opened present k less = by_more (most i n)
          where
            then : k < ends before i n → IsOpen before i n
            then low = open_back i n (on.later ++ said c.first ∷ []) before (begun wild i own n before passes (omega (arith, low))) (subst (λ y. IsOpen y i n) (sym whole) opened)

            there : k < ends before i n → present_list before i ≡ Some n
            there low = present_back i n (on.later ++ said c.first ∷ []) before (begun wild i own n before passes (omega (arith, low))) (stood (on.later ++ said c.first ∷ []) before whole i own) (ap (λ y. present_list y i) whole ∙ present)

            old : k < ends before i n → IsDone start before w i n k
            old low = o i own n (then low) (there low) k low

            by_place : (low : k < ends before i n) → ends now i n ≡ ends before i n → (e : suc k ≡ ends before i n) (p : IsOverFor start before w i n k) → (y : Bool) → nat_eq p.place q ≡ y → IsDone start now v i n k
            by_place low same e p true f = inl (answered_now i n k (went_on i n k own (then low) (there low) e p (grind (arith, nat_tests)) was))
            by_place low same e p false f = inr (e ∙ sym same, other_kept i n k own e p (apart_from p.place f))

            same_so : (low : k < ends before i n) → ends now i n ≡ ends before i n → IsDone start before w i n k → IsDone start now v i n k
            same_so low same (inl y) = inl (answered_now i n k (answered_first i n k y))
            same_so low same (inr (e, p)) = by_place low same e p (nat_eq p.place q) refl

            new_so : (low : k < ends before i n) → i ≡ j → IsDone start before w i n k → IsDone start now v i n k
            new_so low from (inl y) = inl (answered_now i n k (answered_first i n k y))
            new_so low from (inr (e, p)) = inl (answered_now i n k (at_base i n k own (then low) (there low) e from p))

            by_low : i ≡ j → ends now i n ≤ ends before i n + 1 → (y : Bool) → nat_lt k (ends before i n) ≡ y → IsDone start now v i n k
            by_low from few true f = let low : k < ends before i n = grind (arith, nat_tests) in new_so low from (old low)
            by_low from few false f =
                let high : ends before i n ≤ k = grind (arith, nat_tests) in
                inr (omega (arith, high, few, less), new_over i n k own opened less (omega (arith, high, few, less)) from)

            by_more : IsMore i j (ends before i n) (ends now i n) 1 → IsDone start now v i n k
            by_more (inl same) = let low : k < ends before i n = omega (arith, same, less) in same_so low same (old low)
            by_more (inr g) = by_low g.0 g.1 (nat_lt k (ends before i n)) refl

        told_behind : AreBehindOnes wild now
        told_behind = subst (AreBehindOnes wild) on.is (all_behind wild base on.later (passed on.later base on.is) (counted on.later base on.is) (stood on.later base on.is)
            (λ i n own. few i n (most i n)) (λ i n own new opened present l low. need i n own new opened present l low (most i n)) (first_behind wild before c.first c.starts were))
          where
            now_ends : (i n : ℕ) → ends (on.later ++ base) i n ≡ ends now i n
            now_ends i n = ap (λ y. ends y i n) on.is

            few : (i n : ℕ) → IsMore i j (ends before i n) (ends now i n) 1 → ends (on.later ++ base) i n ≤ suc (ends base i n)
            few i n (inl same) = let d = base_ends i n in let g = now_ends i n in omega (arith, same, d, g)
            few i n (inr h) = let d = base_ends i n in let g = now_ends i n in let y = h.1 in omega (arith, y, d, g)

            before_done : (i n l : ℕ) → wild i ≡ false → IsOpen before i n → present_list before i ≡ Some n → i ≡ j → IsDone start before w i n l → WasAnswered base i n l
            before_done i n l own opened present from (inl y) = answered_first i n l y
            before_done i n l own opened present from (inr (e, p)) = at_base i n l own opened present e from p

            need : (i n : ℕ) → wild i ≡ false → ends base i n < ends (on.later ++ base) i n → IsOpen base i n → present_list base i ≡ Some n → (l : ℕ) → l < ends base i n → IsMore i j (ends before i n) (ends now i n) 1 → WasAnswered base i n l
            need i n own new opened present l low (inl same) = let d = base_ends i n in let g = now_ends i n in absurd (omega (arith, same, d, g, new))
            need i n own new opened present l low (inr h) =
                let d = base_ends i n in
                let then = base_open i n opened in
                let there = sym (first_present before c.first c.starts i) ∙ present in
                before_done i n l own then there h.0 (o i own n then there l (omega (arith, d, low)))

        told_kept : Kept
        told_kept = record { done = told_done; behind = told_behind }

      by_kinds : (ks : List StatusKind) → kinds_told ≡ ks → AreGoing Was By M ks N → Kept
      by_kinds [] e h = quiet_kept e h
      by_kinds (kind ∷ []) e h = told_kept kind e h.0 h.1.0 h.1.1
      by_kinds (kind ∷ other ∷ later) e h = absurd h

      acted : Kept
      acted = by_kinds kinds_told refl a.ends

    called_kept : CalledBy w c.good c.call → Kept
    called_kept (rests none stays beside block) = rested stays beside block
    called_kept (acts q b a) = acted q b a

  pub turned : (other : ℕ → Bool) → TurnCalls other past w v → Kept
  turned other (leaves s none) = left_kept other s
  turned other (keyed unit key target places is) = key_kept unit key target places is
  turned other (calls c) = called_kept c (call_called w c.good c.call)
