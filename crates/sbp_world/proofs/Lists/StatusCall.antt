-- A call of the target keeps that the last ORB of a list stands in its slot while its agent is at the end of the list: where the agent was there before, and where the ORB
-- ended in this call with a null next pointer, which its status block tells.
use Rattle.sbp_world.proofs.Words.Std.{arith, ◌≡◌, ◌∙◌, refl, sym, ap, subst, ◌<◌, ◌≤◌, ℕ, suc, nat_eq, Bool, true, false, List, [], ◌∷◌, ◌++◌, map, Option, Some, None, nat_tests, false≢true}
use Rattle.sbp_world.proofs.Words.Wire.{SerialsCount, Layer, topology_at, holder_at, Note, Moment, said, terms}
use Rattle.sbp_world.proofs.Words.Target.{Phase, Machine, Login, Purpose, NodeState, TargetScene, desk_at}
use Rattle.sbp_world.proofs.Words.Initiator.{OrbPointer}
use Rattle.sbp_world.proofs.Words.Laws.{orb, prepared_in, present_list, taken_at, EndedOrb, is_due, status_due, appends, ends, lists, EachMoment}
use Rattle.sbp_world.proofs.Words.World.{handed_out, holder, ticket_of, told_all, WorldState, initiator_at, has_list, AreRows, AreOthers, Lasts, AreNamed, machine_at, AllOf, of_rest, TakenSo}
use Rattle.command_agent.specs.declared.phase.Phase.TheVariants as phases
use Rattle.sbp_world.proofs.Agents.Management.Still.{hist}
use Rattle.sbp_world.proofs.Lists.Adds.{all_stay}
use Rattle.sbp_world.proofs.Lists.Joins.{Begins}
use Rattle.sbp_world.proofs.Lists.OpenCuts.{is_up}
use Rattle.sbp_world.proofs.Lists.OpenedMoments.{all_lists, all_weaker, of_target, target_rest}
use Rattle.sbp_world.proofs.Lists.OpenedNotes.{Behind as Grown, target_handed}
use Rattle.sbp_world.proofs.Lists.OpenedWorlds.{turn_is}
use Rattle.sbp_world.proofs.Lists.Passing.{PassLaw}
use Rattle.sbp_world.proofs.Lists.Rises.{Rises}
use Rattle.sbp_world.proofs.Lists.StatusActs.{Acts}
use Rattle.sbp_world.proofs.Lists.StatusCalls.{Called, acts as is_acting, goes_on, idles}
use Rattle.sbp_world.proofs.Lists.StatusDue.{Ours}
use Rattle.sbp_world.proofs.Lists.StatusEnds.{apart_ends, due_last, sent_null, told_null, unended}
use Rattle.sbp_world.proofs.Lists.StatusNull.{AreNull, NotDue, NullAt, never_over, null_none, null_on}
use Rattle.sbp_world.proofs.Lists.StatusPackets.{EndSide, told_end}
use Rattle.sbp_world.proofs.Lists.StatusPlaced.{has_slot}
use Rattle.sbp_world.proofs.Lists.StatusStays.{Slotted, slotted_now}
use Rattle.sbp_world.proofs.Lists.StatusSteps.{rests, rests_in}
use Rattle.sbp_world.proofs.Lists.StatusTold.{IsDue, told_due}
use Rattle.sbp_world.proofs.Lists.StatusTurn.{Up}
use Rattle.sbp_world.proofs.Lists.Turns.{Ready}

-- ---- an agent that is at the end of its list has it open
has_in : (phase : Phase) (next : OrbPointer) → rests_in phase next ≡ true → has_list phase ≡ true
has_in phases.Reset next e = absurd (false≢true e)
has_in phases.Dead next e = absurd (false≢true e)
has_in _ next e = refl

pub rests_has : (m : Machine) → rests m ≡ true → has_list m.phase ≡ true
rests_has m e = has_in m.phase m.orb.next e

up_in : (phase : Phase) (m : Machine) → has_list phase ≡ true → is_up (record m { phase = phase }) ≡ true
up_in phases.Reset m e = absurd (false≢true e)
up_in phases.Dead m e = refl
up_in _ m e = refl

pub rests_up : (m : Machine) → rests m ≡ true → is_up m ≡ true
rests_up m e = up_in m.phase m (rests_has m e)

-- ---- the last ORB of a list
pub record Held (ms : List Moment) (i n k : ℕ) : Type 0 where
  pub below : k < appends ms i n
  pub null : AreNull i n k ms
  pub slotted : Slotted ms i n k

-- of each agent that is at the end of a list of an initiator
abbrev pub AreRested : (ℕ → Bool) → List Moment → WorldState → Type 0
AreRested wild ms w = (i q : ℕ) → wild i ≡ false → q < 8 → rests (machine_at w q) ≡ true → (holder w q).initiator ≡ i → (n k : ℕ) → (holder w q).list ≡ Some n → ends ms i n ≡ suc k → Held ms i n k

-- ---- a turn of such an initiator
-- what is known behind it
pub record After (wild : ℕ → Bool) (i : ℕ) (before now : List Moment) : Type 0 where
  pub passes : PassLaw wild now
  pub counted : SerialsCount now
  pub takes : EachMoment (TakenSo i) now
  pub rises : Rises now
  pub begins : Begins i now
  pub lasts : Lasts before now i

-- and of its first moment
pub record IsFirst (i : ℕ) (m : Moment) (H : List Moment) : Type 0 where
  pub null : (n k : ℕ) → NullAt i n k m H
  pub prepared : (slot : ℕ) → prepared_in (m ∷ H) i slot ≡ prepared_in H i slot
  pub begun : lists (m ∷ H) i ≡ lists H i
  pub ended : (n : ℕ) → ends (m ∷ H) i n ≡ ends H i n
  pub appended : (n : ℕ) → appends (m ∷ H) i n ≡ appends H i n
  pub still : (terms (m ∷ H)).generation 0 ≡ (terms H).generation 0

module _ (wild : ℕ → Bool) (i : ℕ) (own : wild i ≡ false) (H : List Moment) (m : Moment) (more : List Note) (rest : AllOf of_rest more) (first : IsFirst i m H) (low : (terms H).generation 0 ≤ (terms H).generation (suc i)) (after : After wild i H (map said more ++ m ∷ H)) (n k : ℕ) where
  abbrev now : List Moment
  now = map said more ++ m ∷ H

  -- it keeps an ORB in its slot
  pub held_by : ends now i n ≡ suc k → k < appends H i n → Slotted H i n k → AreNull i n k now → Held now i n k
  held_by ended below slotted null =
      let more_appended = after.lasts.appended n in
      record {
        below = omega (arith, below, more_appended);
        null = null;
        slotted =
            slotted_now i n k H m more rest first.prepared first.still low after.rises after.begins (after.lasts.slot n k below)
            (λ later before is o. never_over wild i own n k now after.passes after.counted after.takes null ended later before is o) slotted;
      }

  -- as it was before
  pub held_on : status_due (m ∷ H) ≡ None → ends H i n ≡ suc k → ends now i n ≡ suc k → Held H i n k → Held now i n k
  held_on due was ended h =
      let same : suc k ≤ ends (m ∷ H) i n = (let a = first.ended n in omega (arith, a, was)) in
      let none : NotDue i n k (m ∷ H) = λ to. ap (λ (d : Option EndedOrb). is_due d i n k to) due in
      held_by ended h.below h.slotted (null_on i n k wild own (map said more) (m ∷ H) after.passes same none (first.null n k, h.null)).0

-- the world behind its first note
pub record Started (note : Note) (w u : WorldState) : Type 0 where
  pub places : u.places ≡ w.places
  pub fresh : u.fresh ≡ note ∷ w.fresh

-- ---- a call of the target
module _ (wild : ℕ → Bool) (past : List Moment) (w : WorldState) (r : Ready wild past w) (i : ℕ) (own : wild i ≡ false) where
  abbrev before : List Moment
  before = hist past w

  -- the agent of a place acts
  pub record Acting (q : ℕ) : Type 0 where
    pub up : Up wild i own past w q
    pub alone : (p : ℕ) → p < 8 → has_list (machine_at w p).phase ≡ true → (holder w q).initiator ≡ i → (holder w p).initiator ≡ i → p ≡ q

  pub data Ends (s : TargetScene) : Type 0 where
    quiets : told_end s.outbox.sides ≡ None → ((p : ℕ) → rests (desk_at s.node p).agent ≡ true → rests (machine_at w p) ≡ true) → Ends s
    steps : (layer : Layer Purpose) (q : ℕ) (b : q < 8) (login : Login) → Acting q → (early : Option EndSide) → Acts w r.good layer q b (Ours wild past w r q) login early s → Ends s

  pub ends_of : (Its : Type 0) (layer : Layer Purpose) (s : TargetScene) → Called w r.good (Ours wild past w r) Acting Its layer s → Ends s
  ends_of Its layer s (idles k) = quiets k.told_is k.stays
  ends_of Its layer s (is_acting q b login is up early x) = steps layer q b login up early x
  ends_of Its layer s (goes_on answer its m) = quiets m.told_is m.stays

  module _ (rested : AreRested wild before w) (same_gen : (topology_at w.generations 0).generation ≡ (terms before).generation 0) (low : (q : ℕ) → q < 8 → has_list (machine_at w q).phase ≡ true → (holder w q).initiator ≡ i → (terms before).generation 0 ≤ (terms before).generation (suc i)) (untaken : (n k : ℕ) → ends before i n ≤ k → taken_at before i n k ≡ None) (names : AreNamed before w) (present_latest : (n : ℕ) → present_list before i ≡ Some n → suc n ≡ lists before i) (rows : AreRows before i (initiator_at w i).lists.slots) (note : Note) (first : IsFirst i (said note) before) (due : status_due (said note ∷ before) ≡ None) (u : WorldState) (b : Started note w u) (s : TargetScene) (others : AreOthers s.outbox.sides) where
    abbrev x : WorldState
    x = told_all 0 s.outbox.sides u

    abbrev v : WorldState
    v = handed_out 0 0 s.outbox u

    module _ (target_is : v.target ≡ s.node) (owner : (q : ℕ) → q < 8 → is_up (desk_at s.node q).agent ≡ true → (holder v q).initiator ≡ (holder w q).initiator) (latest : (q : ℕ) → q < 8 → has_list (machine_at v q).phase ≡ true → (holder v q).initiator ≡ i → (n : ℕ) → (holder v q).list ≡ Some n → suc n ≡ lists (hist past v) i) (after : After wild i before (hist past v)) where
      told : Grown of_target u.fresh v.fresh
      told = target_handed 0 s.outbox u others

      now_is : map said told.more ++ said note ∷ before ≡ hist past v
      now_is = turn_is told.more note w.fresh v.fresh past (ap (λ ns. told.more ++ ns) (sym b.fresh) ∙ told.is)

      u_is : hist past u ≡ said note ∷ before
      u_is = ap (λ ns. map said ns ++ past) b.fresh

      rest : AllOf of_rest told.more
      rest = all_weaker of_target of_rest target_rest told.more told.all

      after_now : After wild i before (map said told.more ++ said note ∷ before)
      after_now = subst (After wild i before) (sym now_is) after

      lists_same : lists (hist past v) i ≡ lists before i
      lists_same = ap (λ ms. lists ms i) (sym now_is) ∙ ((all_lists told.more (said note ∷ before) i told.all).begun ∙ first.begun)

      start_ends : (n : ℕ) → ends (hist past u) i n ≡ ends before i n
      start_ends n = ap (λ ms. ends ms i n) u_is ∙ first.ended n

      sent_ends : (n : ℕ) → ends (hist past v) i n ≡ ends (hist past x) i n
      sent_ends n = (all_stay wild past 0 s.outbox.packets x).adds.ends_are i n

      law_x : PassLaw wild (hist past x)
      law_x = let a = (all_stay wild past 0 s.outbox.packets x).adds in law_from a.later (hist past x) (subst (PassLaw wild) (sym a.is) after.passes)
        where
          law_from : (later ms : List Moment) → PassLaw wild (later ++ ms) → PassLaw wild ms
          law_from [] ms law = law
          law_from (moment ∷ later) ms law = law_from later ms law.1

      -- an agent that is at the end of its list behind the call
      module _ (q : ℕ) (c : q < 8) (rv : rests (machine_at v q) ≡ true) (mine_v : (holder v q).initiator ≡ i) (n k : ℕ) (list_v : (holder v q).list ≡ Some n) (ended_v : ends (hist past v) i n ≡ suc k) where
        agent_is : machine_at v q ≡ (desk_at s.node q).agent
        agent_is = ap (λ (node : NodeState). (desk_at node q).agent) target_is

        rs : rests (desk_at s.node q).agent ≡ true
        rs = ap (λ (m : Machine). rests m) (sym agent_is) ∙ rv

        mine_w : (holder w q).initiator ≡ i
        mine_w = sym (owner q c (rests_up (desk_at s.node q).agent rs)) ∙ mine_v

        latest_n : suc n ≡ lists before i
        latest_n = latest q c (rests_has (machine_at v q) rv) mine_v n list_v ∙ lists_same

        ended_now : ends (map said told.more ++ said note ∷ before) i n ≡ suc k
        ended_now = ap (λ ms. ends ms i n) now_is ∙ ended_v

        -- it was there before
        stayed : rests (machine_at w q) ≡ true → ends (hist past v) i n ≡ ends before i n → Held (hist past v) i n k
        stayed rb same =
            let l = rests_has (machine_at w q) rb in
            let mild : wild (holder w q).initiator ≡ false = ap wild mine_w ∙ own in
            let o = (r.needs (holder w q).initiator mild).lists.listed q c l (r.calm (holder w q).initiator mild) in
            let latest_o : suc o.n ≡ lists before i = o.still.latest ∙ ap (lists before) mine_w in
            let one : o.n ≡ n = (let z = latest_n in omega (arith, z, latest_o)) in
            let was : ends before i n ≡ suc k = sym same ∙ ended_v in
            let h = rested i q own c rb mine_w n k (o.list ∙ ap (λ y. Some y) one) was in
            subst (λ ms. Held ms i n k) now_is
            (held_on wild i own before (said note) told.more rest first (low q c l mine_w) after_now n k due was ended_now h)

        -- its ORB ended in the call
        module _ (layer : Layer Purpose) (d : q < 8) (login : Login) (acting : Acting q) (early : Option EndSide) (y : Acts w r.good layer q d (Ours wild past w r q) login early s) (one : EndSide) (told_is : y.told ≡ Some one) where
          the_due : IsDue past q i (hist past u) (hist past x) (ticket_of u i one.orb) one
          the_due =
              told_due past q wild i own s.outbox.sides u y.so.told_is.of one (y.so.told_is.end ∙ told_is)
              (ap (λ ps. (holder_at ps q).initiator) b.places ∙ mine_w) law_x

          list_is : the_due.list ≡ n
          list_is =
              let a = the_due.latest in
              let z = latest_n in
              let e : lists (hist past u) i ≡ lists before i = ap (λ ms. lists ms i) u_is ∙ first.begun in
              omega (arith, a, e, z)

          number_is : the_due.number ≡ k
          number_is =
              let a = due_last wild i own (hist past x) law_x (record { initiator = i; one = orb the_due.list the_due.number }) the_due.due refl in
              let e : ends (hist past x) i the_due.list ≡ ends (hist past x) i n = ap (λ m. ends (hist past x) i m) list_is in
              let f = sent_ends n in
              omega (arith, a, e, f, ended_v)

          above : ends before i n ≤ k
          above =
              let a = the_due.after in
              let e : ends (hist past u) i the_due.list ≡ ends before i n = ap (λ m. ends (hist past u) i m) list_is ∙ start_ends n in
              let f = number_is in
              omega (arith, a, e, f)

          below : k < appends before i n
          below =
              let a = the_due.below in
              let e : appends (hist past u) i the_due.list ≡ appends (hist past u) i n = ap (λ m. appends (hist past u) i m) list_is in
              let f = number_is in
              let g : appends (hist past u) i n ≡ appends before i n = ap (λ ms. appends ms i n) u_is ∙ first.appended n in
              omega (arith, a, e, f, g)

          slotted : Slotted before i n k
          slotted =
              let st = names.stands i n k latest_n below (untaken n k above) in
              record {
                placed = record { last = st.last; small = st.small };
                held = λ e.
                    let p = acting.up.present mine_w (same_gen ∙ e) in
                    let other : suc p.0 ≡ lists before i = present_latest p.0 p.1 in
                    let same : p.0 ≡ n = (let z = latest_n in omega (arith, other, z)) in
                    has_slot before i n k (initiator_at w i).lists.slots rows below (untaken n k above) (p.1 ∙ ap (λ m. Some m) same);
              }

          null : AreNull i n k (hist past v)
          null =
              let start : AreNull i n k (hist past u) = subst (AreNull i n k) (sym u_is) (first.null n k, null_none i n k wild own before r.kept.passes above) in
              sent_null i n k past q login.node (Ours wild past w r q) y.told y.now (ap (λ (m : Machine). rests m) (sym y.so.agent) ∙ rs) s.outbox.packets x y.so.spelled (λ e. ap wild mine_w ∙ own)
              (told_null i n k past q s.outbox.sides u y.so.told_is.of start)

          ahead_low : (terms before).generation 0 ≤ (terms before).generation (suc i)
          ahead_low = let a = acting.up.caught mine_w in let e = same_gen in omega (arith, a, e)

          ended_here : Held (hist past v) i n k
          ended_here =
              subst (λ ms. Held ms i n k) now_is
              (held_by wild i own before (said note) told.more rest first ahead_low after_now n k ended_now below slotted (subst (AreNull i n k) (sym now_is) null))

        -- the agent that acts
        by_told : (layer : Layer Purpose) (d : q < 8) (login : Login) → Acting q → (early : Option EndSide) (y : Acts w r.good layer q d (Ours wild past w r q) login early s) → (told_last : Option EndSide) → y.told ≡ told_last → Held (hist past v) i n k
        by_told layer d login acting early y None e =
            stayed (y.rest e (ap (λ (m : Machine). rests m) (sym y.so.agent) ∙ rs)) (sent_ends n ∙ (unended past i n s.outbox.sides u (y.so.told_is.end ∙ e) others ∙ start_ends n))
        by_told layer d login acting early y (Some one) e = ended_here layer d login acting early y one e

        -- another one
        by_other : (layer : Layer Purpose) (p : ℕ) (d : p < 8) (login : Login) → Acting p → (early : Option EndSide) (y : Acts w r.good layer p d (Ours wild past w r p) login early s) → (q ≡ p → ⊥) → (z : Bool) → nat_eq i (holder w p).initiator ≡ z → Held (hist past v) i n k
        by_other layer p d login acting early y off true e =
            let rb : rests (machine_at w q) ≡ true = ap (λ (m : Machine). rests m) (sym (y.so.same q off)) ∙ rs in
            absurd (off (acting.alone q c (rests_has (machine_at w q) rb) (let same : (holder w p).initiator ≡ i = grind (arith, nat_tests) in same) mine_w))
        by_other layer p d login acting early y off false e =
            let rb : rests (machine_at w q) ≡ true = ap (λ (m : Machine). rests m) (sym (y.so.same q off)) ∙ rs in
            stayed rb (sent_ends n ∙ (apart_ends past i n p s.outbox.sides u y.so.told_is.of (ap (λ ps. nat_eq i (holder_at ps p).initiator) b.places ∙ e) ∙ start_ends n))

        at_place : (layer : Layer Purpose) (p : ℕ) (d : p < 8) (login : Login) → Acting p → (early : Option EndSide) (y : Acts w r.good layer p d (Ours wild past w r p) login early s) → (z : Bool) → nat_eq q p ≡ z → Held (hist past v) i n k
        at_place layer p d login acting early y true e =
            let same : p ≡ q = grind (arith, nat_tests) in
            (subst (λ a. (b2 : a < 8) → Acting a → (y2 : Acts w r.good layer a b2 (Ours wild past w r a) login early s) → Held (hist past v) i n k) (sym same) (λ b2 acting2 y2. by_told layer b2 login acting2 early y2 y2.told refl)) d acting y
        at_place layer p d login acting early y false e = by_other layer p d login acting early y (λ same. false≢true (sym e ∙ (let z : nat_eq q p ≡ true = grind (arith, nat_tests) in z))) (nat_eq i (holder w p).initiator) refl

        pub call_held : Ends s → Held (hist past v) i n k
        call_held (quiets none stays) = stayed (stays q rs) (sent_ends n ∙ (unended past i n s.outbox.sides u none others ∙ start_ends n))
        call_held (steps layer p d login acting early y) = at_place layer p d login acting early y (nat_eq q p) refl
