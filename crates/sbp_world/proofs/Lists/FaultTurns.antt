-- In a turn of a run each end is of a list without a fault, and behind it the agent of a list that has one is dead, or will be so as its last status block is answered: where it was so before.
use Rattle.std.proofs.Common.{arith, ◌≡◌, ◌∙◌, refl, sym, ap, subst, inl, inr, ◌⊎◌, ◌<◌, ◌≤◌, ◌||◌, not, ℕ, suc, nat_eq, Bool, true, false, cond, List, [], ◌∷◌, ◌++◌, Some, None}
use Rattle.std.proofs.lemmas.Bool.Decides.{nat_tests}
use Rattle.std.proofs.lemmas.Bool.{false≢true}
use Rattle.orb_layout.specs.declared.status.StatusKind.{StatusKind}
use Rattle.command_agent.specs.declared.phase.Phase.{Phase}
use Rattle.command_agent.specs.declared.phase.Phase.TheVariants as phases
use Rattle.command_agent.specs.Machine.{Machine, state_in}
use Rattle.command_agent.specs.Steps.{is_reset}
use Rattle.sbp_bus.specs.Places.{holder_at}
use Rattle.sbp_bus.specs.declared.places.Holder.{Holder}
use Rattle.sbp_journal.specs.Run.{Moment, said}
use Rattle.sbp_journal.specs.declared.note.Note.TheVariants as notes
use Rattle.sbp_journal.specs.declared.side.Side.{Side}
use Rattle.sbp_laws.specs.OrderLaw.{IsOpen, is_cut}
use Rattle.sbp_laws.specs.Terms.{ends, lists}
use Rattle.sbp_laws.specs.Turns.{EachMoment}
use Rattle.sbp_target.specs.Calls.{alone}
use Rattle.sbp_target.specs.Nodes.{NodeState, Scene as TargetScene, desk_at}
use Rattle.sbp_target.specs.Receiving.{with_key}
use Rattle.sbp_world.specs.Handing.{handed_out}
use Rattle.sbp_world.specs.Telling.{holder, told_all}
use Rattle.sbp_world.specs.Worlds.{WorldState}
use Rattle.sbp_world.proofs.Agents.Management.Still.{hist}
use Rattle.sbp_world.proofs.Common.{moments_joined}
use Rattle.sbp_world.specs.Lists.Faults.{has_fault, is_fault}
use Rattle.sbp_world.specs.Lists.Needs.{initiator_in, machine_at}
use Rattle.sbp_world.specs.Lists.Opened.{IsUp}
use Rattle.sbp_world.proofs.Lists.Adds.{Stays, all_stay}
use Rattle.sbp_world.proofs.Lists.BusyCuts.{AreBeside, WasCut}
use Rattle.sbp_world.proofs.Lists.BusyTold.{cut_told}
use Rattle.sbp_world.proofs.Lists.EndingCalls.{Called, acts, call_called, rests}
use Rattle.sbp_world.proofs.Lists.EndingFollows.{Acts, ends_in}
use Rattle.sbp_world.proofs.Lists.EndingSteps.{AreEnding, ends_over, is_last, is_over, over_up}
use Rattle.sbp_world.proofs.Lists.Extends.{handed_extends}
use Rattle.sbp_world.proofs.Lists.FaultTells.{AliveAt, alive_told, faults_told, faulty_last, has_faulty, one_end, rest_alive}
use Rattle.sbp_world.proofs.Lists.OpenWorlds.{hist_on}
use Rattle.sbp_world.proofs.Lists.Passing.{PassLaw}
use Rattle.sbp_world.proofs.Lists.PlaceOwners.{Owns}
use Rattle.sbp_world.proofs.Lists.TurnCalls.{IsCalled, TurnCalls, calls, keyed, leaves}
use Rattle.sbp_world.proofs.Lists.TurnCuts.{beside_ends}
use Rattle.sbp_world.proofs.Lists.UnrunTerms.{cut_stays, ends_grow, first_as, lists_grow}
use Rattle.sbp_world.proofs.Wire.Nodes.{handed_alike}

-- ---- what is kept
-- the agent of an initiator is dead, or will be so
pub record IsLastFor (w : WorldState) (i : ℕ) : Type 0 where
  pub place : ℕ
  pub small : place < 8
  pub initiator_is : initiator_in w place ≡ i
  pub last : is_last (machine_at w place).phase ≡ true

-- that of a list with a fault is so
abbrev pub AreLast : (ℕ → Bool) → List Moment → WorldState → Type 0
AreLast wild ms w = (i : ℕ) → wild i ≡ false → (n : ℕ) → IsOpen ms i n → has_fault ms i n ≡ true → IsLastFor w i

abbrev pub AreAlive : (ℕ → Bool) → List Moment → Type 0
AreAlive wild ms = EachMoment (AliveAt wild) ms

last_up_in : (phase : Phase) → is_last phase ≡ true → not (is_reset (state_in phase)) ≡ true
last_up_in phases.WritingLastStatus e = refl
last_up_in phases.Dead e = refl
last_up_in phases.Reset e = absurd (false≢true e)
last_up_in phases.Fetching e = absurd (false≢true e)
last_up_in phases.ReadingTable e = absurd (false≢true e)
last_up_in (phases.ReadingData wanted) e = absurd (false≢true e)
last_up_in phases.Answering e = absurd (false≢true e)
last_up_in phases.WritingStatus e = absurd (false≢true e)
last_up_in phases.ReadingNext e = absurd (false≢true e)
last_up_in phases.Suspended e = absurd (false≢true e)

-- ---- moments without an end
pub record AreStill (wild : ℕ → Bool) (later ms : List Moment) : Type 0 where
  pub faults : (i n : ℕ) → has_fault (later ++ ms) i n ≡ has_fault ms i n
  pub alive : AreAlive wild ms → AreAlive wild (later ++ ms)

more_ends : (low : ℕ) (ms : List Moment) (j n k : ℕ) (status : StatusKind) → low ≤ ends ms j n → suc low ≤ ends (said (notes.Ended j (Some n) (Some k) status) ∷ ms) j n
more_ends low ms j n k status l = by (nat_eq j j) (nat_eq n n) refl refl
  where
    by : (x y : Bool) → nat_eq j j ≡ x → nat_eq n n ≡ y → suc low ≤ cond x (cond y (suc (ends ms j n)) (ends ms j n)) (ends ms j n)
    by true true e f = omega (arith, l)
    by true false e f = absurd (false≢true (sym f ∙ (let z : nat_eq n n ≡ true = grind (arith, nat_tests) in z)))
    by false y e f = absurd (false≢true (sym e ∙ (let z : nat_eq j j ≡ true = grind (arith, nat_tests) in z)))

module _ (wild : ℕ → Bool) where
  still_one : (m : Moment) (later ms : List Moment) → ((i n : ℕ) → ends (m ∷ later ++ ms) i n ≤ ends ms i n) → AreStill wild later ms → AreStill wild (m ∷ later) ms
  still_one (said (notes.Ended j (Some n) (Some k) status)) later ms same h =
      let a = more_ends (ends ms j n) (later ++ ms) j n k status (ends_grow j n later ms) in
      let b = same j n in
      absurd (omega (arith, a, b))
  still_one (said (notes.Ended j (Some n) None status)) later ms same h = record { faults = h.faults; alive = λ a. (tt, h.alive a) }
  still_one (said (notes.Ended j None k status)) later ms same h = record { faults = h.faults; alive = λ a. (tt, h.alive a) }
  still_one m later ms same h = record { faults = h.faults; alive = λ a. (tt, h.alive a) }

  pub still : (later ms : List Moment) → ((i n : ℕ) → ends (later ++ ms) i n ≤ ends ms i n) → AreStill wild later ms
  still [] ms same = record { faults = λ i n. refl; alive = λ a. a }
  still (m ∷ later) ms same =
      still_one m later ms same (still later ms (λ i n. let a = ends_grow i n (m ∷ []) (later ++ ms) in let b = same i n in omega (arith, a, b)))

  -- ---- a list with a fault began
  module _ (i n : ℕ) (own : wild i ≡ false) where
    by_end : (ms : List Moment) (j m : ℕ) (status : StatusKind) → (wild j ≡ false → suc m ≡ lists ms j) → (has_fault ms i n ≡ true → n < lists ms i) → (x y : Bool) → nat_eq i j ≡ x → nat_eq n m ≡ y → cond x (cond y (is_fault status || has_fault ms j m) (has_fault ms i n)) (has_fault ms i n) ≡ true → n < lists ms i
    by_end ms j m status latest again true true e f h =
        let same_i : j ≡ i = grind (arith, nat_tests) in
        let same_n : n ≡ m = grind (arith, nat_tests) in
        let at = latest (ap wild same_i ∙ own) in
        let there = ap (lists ms) same_i in
        omega (arith, at, there, same_n)
    by_end ms j m status latest again true false e f h = again h
    by_end ms j m status latest again false y e f h = again h

    begun : (ms : List Moment) → PassLaw wild ms → has_fault ms i n ≡ true → n < lists ms i
    begun [] law h = absurd (false≢true h)
    begun (said (notes.Ended j (Some m) (Some k) status) ∷ ms) law h = by_end ms j m status (λ o. (law.0 o).turn.still.latest) (begun ms law.1) (nat_eq i j) (nat_eq n m) refl refl h
    begun (said (notes.Ended j (Some m) None status) ∷ ms) law h = begun ms law.1 h
    begun (said (notes.Ended j None k status) ∷ ms) law h = begun ms law.1 h
    begun (said (notes.Append j m k cdb buffer) ∷ ms) law h =
        let more = lists_grow i (said (notes.Append j m k cdb buffer) ∷ []) ms in
        let low = begun ms law.1 h in
        omega (arith, more, low)
    begun (m ∷ ms) law h = begun ms law.1 h

    -- so it was open before
    pub open_before : (later ms : List Moment) → PassLaw wild ms → has_fault ms i n ≡ true → IsOpen (later ++ ms) i n → IsOpen ms i n
    open_before later ms law h opened = record {
      latest =
          (let low = begun ms law h in
          let more = lists_grow i later ms in
          let last = opened.latest in
          omega (arith, low, more, last));
      uncut = by (is_cut ms i n) refl;
    }
      where
        by : (b : Bool) → is_cut ms i n ≡ b → b ≡ false
        by false e = refl
        by true e = absurd (false≢true (sym opened.uncut ∙ cut_stays later ms i n e))

-- ---- a turn from a world that has the target and the places of another
-- what it stands on, by the histories before it and behind it
pub record IsGround (wild : ℕ → Bool) (before now : List Moment) (w v : WorldState) : Type 0 where
  pub passes : PassLaw wild before
  pub passes_now : PassLaw wild now
  pub owns : Owns w v
  -- an agent that is up has the latest list of its initiator, and is the one that is up of it
  pub holds : (i q n : ℕ) → wild i ≡ false → q < 8 → IsUp w i q → suc n ≡ lists before i → (holder w q).list ≡ Some n
  pub apart : (i p q : ℕ) → wild i ≡ false → p < 8 → q < 8 → IsUp v i p → IsUp v i q → q ≡ p

module _ (wild : ℕ → Bool) (past : List Moment) (w v : WorldState) (ground : IsGround wild (hist past w) (hist past v) w v) (o : AreLast wild (hist past w) w) (were : AreAlive wild (hist past w)) where
  abbrev before : List Moment
  before = hist past w

  abbrev now : List Moment
  now = hist past v

  pub record Kept : Type 0 where
    pub last : AreLast wild (hist past v) v
    pub alive : AreAlive wild (hist past v)

  -- no ORB ends, and the agents stay
  module _ (later : List Moment) (is : later ++ before ≡ now) (same : (i n : ℕ) → ends now i n ≡ ends before i n) where
    quiet : AreStill wild later before
    quiet = still wild later before (λ i n. let a : ends (later ++ before) i n ≡ ends now i n = ap (λ ms. ends ms i n) is in let b = same i n in omega (arith, a, b))

    fault_then : (i n : ℕ) → has_fault now i n ≡ true → has_fault before i n ≡ true
    fault_then i n h = sym (quiet.faults i n) ∙ (ap (λ ms. has_fault ms i n) is ∙ h)

    open_then : (i n : ℕ) → wild i ≡ false → has_fault now i n ≡ true → IsOpen now i n → IsOpen before i n
    open_then i n own h opened = open_before wild i n own later before ground.passes (fault_then i n h) (subst (λ ms. IsOpen ms i n) (sym is) opened)

    kept_so : ((i n : ℕ) → wild i ≡ false → IsOpen now i n → (b : IsLastFor w i) → (holder w b.place).list ≡ Some n → (initiator_in v b.place ≡ i) × (is_last (machine_at v b.place).phase ≡ true)) → Kept
    kept_so stays = record {
      last = λ i own n opened h.
          let then = open_then i n own h opened in
          let b = o i own n then (fault_then i n h) in
          let up : IsUp w i b.place = record { up = last_up_in (machine_at w b.place).phase b.last; own = b.initiator_is } in
          let s = stays i n own opened b (ground.holds i b.place n own b.small up then.latest) in
          record { place = b.place; small = b.small; initiator_is = s.0; last = s.1 };
      alive = subst (AreAlive wild) is (quiet.alive were);
    }

  -- what others than the target do
  left_kept : Stays wild past w v → Kept
  left_kept s =
      kept_so s.adds.later s.adds.is s.adds.ends_are
      (λ i n own opened b list. (
        ap (λ ps. (holder_at ps b.place).initiator) s.places ∙ b.initiator_is,
        ap (λ (t : NodeState). is_last (desk_at t b.place).agent.phase) s.target ∙ b.last,
      ))

  -- a unit gets a key
  key_kept : (unit : ℕ) (key : List ℕ) → v.target ≡ with_key unit key w.target → v.places ≡ w.places → hist past v ≡ said (notes.Key unit) ∷ hist past w → Kept
  key_kept unit key target places is =
      kept_so (said (notes.Key unit) ∷ []) (sym is) (λ i n. ap (λ ms. ends ms i n) is)
      (λ i n own opened b list. (
        ap (λ ps. (holder_at ps b.place).initiator) places ∙ b.initiator_is,
        ap (λ (t : NodeState). is_last (desk_at t b.place).agent.phase) target ∙ b.last,
      ))

  -- ---- a call of the target
  module _ (c : IsCalled past w v) where
    abbrev t : TargetScene
    t = alone c.call w.target

    abbrev told_sides : List Side
    told_sides = t.outbox.sides

    abbrev x : WorldState
    x = told_all 0 told_sides c.u

    sends : Stays (λ j. true) past x (handed_out 0 0 t.outbox c.u)
    sends = all_stay (λ j. true) past 0 t.outbox.packets x

    sent_is : sends.adds.later ++ hist past x ≡ now
    sent_is = sends.adds.is ∙ ap (λ (y : WorldState). hist past y) (sym c.is)

    cuts_sent : (i n : ℕ) → is_cut now i n ≡ is_cut (hist past x) i n
    cuts_sent i n = ap (λ (y : WorldState). is_cut (hist past y) i n) c.is ∙ sends.adds.cuts_are i n

    machine_now : (p : ℕ) → machine_at v p ≡ (desk_at t.node p).agent
    machine_now p = ap (λ (y : WorldState). machine_at y p) c.is ∙ ap (λ (n : NodeState). (desk_at n p).agent) ((handed_alike 0 0 t.outbox c.u).target ∙ c.target)

    -- an agent that is up then is of the same initiator
    owner : (p : ℕ) → p < 8 → not (is_reset (state_in (machine_at v p).phase)) ≡ true → initiator_in v p ≡ initiator_in w p
    owner p b up = ground.owns p b up

    record On : Type 0 where
      later : List Moment
      is : later ++ before ≡ now

    on : On
    on =
        let h = hist_on past c.u (handed_out 0 0 t.outbox c.u) (handed_extends 0 0 t.outbox c.u) in
        record {
          later = h.more ++ said c.first ∷ [];
          is = moments_joined h.more (said c.first ∷ []) before ∙ (ap (λ ms. h.more ++ ms) (sym c.fresh) ∙ (h.is ∙ ap (λ (y : WorldState). hist past y) (sym c.is)));
        }

    first_ends : (i n : ℕ) → ends (hist past c.u) i n ≡ ends before i n
    first_ends i n = ap (λ ms. ends ms i n) c.fresh ∙ (first_as before c.first c.starts).ends_are i n

    -- ---- no end is told
    module _ (stays : (p : ℕ) → ((desk_at t.node p).agent.phase ≡ (desk_at w.target p).agent.phase) ⊎ WasCut p told_sides) (beside : AreBeside told_sides) where
      same_ends : (i n : ℕ) → ends now i n ≡ ends before i n
      same_ends i n = ap (λ (y : WorldState). ends (hist past y) i n) c.is ∙ (sends.adds.ends_are i n ∙ (beside_ends past i n told_sides c.u beside ∙ first_ends i n))

      module _ (i n : ℕ) (own : wild i ≡ false) (opened : IsOpen now i n) (b : IsLastFor w i) (list : (holder w b.place).list ≡ Some n) where
        cut_not : WasCut b.place told_sides → ⊥
        cut_not cut =
            let same : holder c.u b.place ≡ holder w b.place = ap (λ ps. holder_at ps b.place) c.places in
            let is = cut_told past b.place n told_sides c.u beside cut (ap (λ (h : Holder). h.list) same ∙ list) in
            let at : (holder c.u b.place).initiator ≡ i = ap (λ (h : Holder). h.initiator) same ∙ b.initiator_is in
            false≢true (sym opened.uncut ∙ (cuts_sent i n ∙ subst (λ j. is_cut (hist past x) j n ≡ true) at is))

        last_now : is_last (machine_at v b.place).phase ≡ true
        last_now = by (stays b.place)
          where
            by : ((desk_at t.node b.place).agent.phase ≡ (desk_at w.target b.place).agent.phase) ⊎ WasCut b.place told_sides → is_last (machine_at v b.place).phase ≡ true
            by (inl e) = ap (λ (m : Machine). is_last m.phase) (machine_now b.place) ∙ (ap is_last e ∙ b.last)
            by (inr cut) = absurd (cut_not cut)

        rests_so : (initiator_in v b.place ≡ i) × (is_last (machine_at v b.place).phase ≡ true)
        rests_so = (owner b.place b.small (last_up_in (machine_at v b.place).phase last_now) ∙ b.initiator_is, last_now)

      rested : Kept
      rested = kept_so on.later on.is same_ends (λ i n own opened b list. rests_so i n own opened b list)

    -- ---- the agent of one place acts
    module _ (q : ℕ) (b : q < 8) (a : Acts q b (λ p. (desk_at w.target p).agent) (is_last (desk_at w.target q).agent.phase ≡ false) t) where
      abbrev Was : Type 0
      Was = is_last (desk_at w.target q).agent.phase ≡ false

      abbrev kinds_told : List StatusKind
      kinds_told = ends_in told_sides

      abbrev j : ℕ
      j = (holder c.u q).initiator

      j_is : j ≡ initiator_in w q
      j_is = ap (λ ps. (holder_at ps q).initiator) c.places

      started : AreStill wild (said c.first ∷ []) before
      started = still wild (said c.first ∷ []) before (λ i n. let e = (first_as before c.first c.starts).ends_are i n in omega (arith, e))

      fault_first : (i n : ℕ) → has_fault (hist past c.u) i n ≡ has_fault before i n
      fault_first i n = ap (λ ms. has_fault ms i n) c.fresh ∙ started.faults i n

      alive_first : AreAlive wild (hist past c.u)
      alive_first = subst (AreAlive wild) (sym c.fresh) (started.alive were)

      lists_first : (i : ℕ) → lists (hist past c.u) i ≡ lists before i
      lists_first i = ap (λ ms. lists ms i) c.fresh ∙ (first_as before c.first c.starts).lists_are i

      sent : AreStill wild sends.adds.later (hist past x)
      sent = still wild sends.adds.later (hist past x) (λ i n. let e : ends (sends.adds.later ++ hist past x) i n ≡ ends (hist past x) i n = ap (λ ms. ends ms i n) sends.adds.is ∙ sends.adds.ends_are i n in omega (arith, e))

      fault_sent : (i n : ℕ) → has_fault now i n ≡ has_fault (hist past x) i n
      fault_sent i n = ap (λ ms. has_fault ms i n) (sym sent_is) ∙ sent.faults i n

      -- ---- an agent that is dead stays so
      last_stays : (p : ℕ) → is_last (desk_at w.target p).agent.phase ≡ true → is_last (machine_at v p).phase ≡ true
      last_stays p e = ap (λ (m : Machine). is_last m.phase) (machine_now p) ∙ by (nat_eq p q) refl
        where
          acting : p ≡ q → is_last (desk_at t.node p).agent.phase ≡ true
          acting same = by_now (is_last (desk_at t.node q).agent.phase) refl
            where
              by_now : (y : Bool) → is_last (desk_at t.node q).agent.phase ≡ y → is_last (desk_at t.node p).agent.phase ≡ true
              by_now true f = ap (λ k. is_last (desk_at t.node k).agent.phase) same ∙ f
              by_now false f = absurd (false≢true (sym (a.was f) ∙ (ap (λ k. is_last (desk_at w.target k).agent.phase) (sym same) ∙ e)))

          by : (y : Bool) → nat_eq p q ≡ y → is_last (desk_at t.node p).agent.phase ≡ true
          by true f = acting (let same : p ≡ q = grind (arith, nat_tests) in same)
          by false f =
              let apart_from : p ≡ q → ⊥ = λ same. let z : nat_eq p q ≡ true = grind (arith, nat_tests) in false≢true (sym f ∙ z) in
              ap (λ (m : Machine). is_last m.phase) (a.same p apart_from) ∙ e

      -- ---- where an end is told, no list of its initiator has a fault
      module _ (was : Was) (ended : is_over (desk_at t.node q).agent.phase ≡ true) where
        up_q : IsUp v j q
        up_q =
            let up = over_up (machine_at v q).phase (ap (λ (m : Machine). is_over m.phase) (machine_now q) ∙ ended) in
            record { up = up; own = owner q b up ∙ sym j_is }

        not_last : wild j ≡ false → IsLastFor w j → ⊥
        not_last own k =
            let last = last_stays k.place k.last in
            let up = last_up_in (machine_at v k.place).phase last in
            let same = ground.apart j k.place q own k.small b (record { up = up; own = owner k.place k.small up ∙ k.initiator_is }) up_q in
            false≢true (sym was ∙ (ap (λ p. is_last (desk_at w.target p).agent.phase) same ∙ k.last))

        clean : wild j ≡ false → (n : ℕ) → suc n ≡ lists (hist past c.u) j → is_cut (hist past c.u) j n ≡ false → has_fault (hist past c.u) j n ≡ false
        clean own n latest uncut = by (has_fault (hist past c.u) j n) refl
          where
            by : (y : Bool) → has_fault (hist past c.u) j n ≡ y → y ≡ false
            by false e = refl
            by true e =
                absurd (not_last own (o j own n
                (record { latest = latest ∙ lists_first j; uncut = sym (ap (λ ms. is_cut ms j n) c.fresh ∙ (first_as before c.first c.starts).cuts_are j n) ∙ uncut })
                (sym (fault_first j n) ∙ e)))

      abbrev Alive : WorldState → Type 0
      Alive y = AreAlive wild (hist past y)

      alive_there : (ks : List StatusKind) → kinds_told ≡ ks → AreEnding Was ks (desk_at t.node q).agent.phase → Alive x
      alive_there [] e h = rest_alive past q wild now ground.passes_now j (lists (hist past c.u) j) told_sides c.u a.of e alive_first
      alive_there (kind ∷ []) e h =
          alive_told past q wild now ground.passes_now j (lists (hist past c.u) j) told_sides c.u sends.adds.later a.of (one_end Was kinds_told (desk_at t.node q).agent.phase a.ends) sent_is
          (record { owner = refl; latest = refl; clean = clean h.1 (ends_over kind (desk_at t.node q).agent.phase h.0); alive = alive_first })
      alive_there (kind ∷ other ∷ later) e h = absurd h

      alive_now : AreAlive wild now
      alive_now = subst (AreAlive wild) sent_is (sent.alive (alive_there kinds_told refl a.ends))

      -- ---- a list with a fault
      module _ (i n : ℕ) (own : wild i ≡ false) (opened : IsOpen now i n) (h : has_fault now i n ≡ true) where
        stays_last : IsLastFor w i → IsLastFor v i
        stays_last k =
            let last = last_stays k.place k.last in
            record { place = k.place; small = k.small; initiator_is = owner k.place k.small (last_up_in (machine_at v k.place).phase last) ∙ k.initiator_is; last = last }

        of_old : has_fault (hist past c.u) i n ≡ true → IsLastFor v i
        of_old e =
            let then : has_fault before i n ≡ true = sym (fault_first i n) ∙ e in
            stays_last (o i own n (open_before wild i n own on.later before ground.passes then (subst (λ ms. IsOpen ms i n) (sym on.is) opened)) then)

        of_new : (i ≡ j) × (has_faulty kinds_told ≡ true) → IsLastFor v i
        of_new e =
            let last : is_last (machine_at v q).phase ≡ true = ap (λ (m : Machine). is_last m.phase) (machine_now q) ∙ faulty_last Was kinds_told (desk_at t.node q).agent.phase a.ends e.1 in
            record { place = q; small = b; initiator_is = owner q b (last_up_in (machine_at v q).phase last) ∙ (sym j_is ∙ sym e.0); last = last }

        last_for : IsLastFor v i
        last_for = by (faults_told past q i n told_sides c.u a.of (sym (fault_sent i n) ∙ h))
          where
            by : (has_fault (hist past c.u) i n ≡ true) ⊎ ((i ≡ j) × (has_faulty kinds_told ≡ true)) → IsLastFor v i
            by (inl e) = of_old e
            by (inr e) = of_new e

      acted : Kept
      acted = record { last = λ i own n opened h. last_for i n own opened h; alive = alive_now }

    called_kept : Called w c.good t → Kept
    called_kept (rests none stays beside) = rested stays beside
    called_kept (acts q b a) = acted q b a

  pub turned : TurnCalls wild past w v → Kept
  turned (leaves s none) = left_kept s
  turned (keyed unit key target places is) = key_kept unit key target places is
  turned (calls c) = called_kept c (call_called w c.good c.call)
