-- Over a turn: a request for the page table or the buffer of a slot that is under way stays the main transaction of its agent, or the agent was put to RESET, which cuts its list; and it is in the target's generation still.
use Rattle.sbp_world.proofs.Words.Std.{append_assoc, arith, ◌≡◌, ◌∙◌, refl, sym, ap, subst, inl, inr, ◌⊎◌, ◌<◌, ◌≤◌, ◌==◌, ◌&&◌, ℕ, Bool, true, false, List, [], ◌∷◌, ◌++◌, length, map, Option, Some, None, nat_tests}
use Rattle.sbp_world.proofs.Words.Wire.{SerialsCount, Moment, asked, said, Sending, Transaction, Held, Terms, terms, waits, Event, Note}
use Rattle.sbp_world.proofs.Words.Target.{is_sent, Phase, Disk}
use Rattle.sbp_world.proofs.Words.Laws.{is_cut, access_in, begun_in, is_under_way, is_waiting_for, packet_in, receiver_in, sender_in, waits_for, agent_at, over, target_at, ends}
use Rattle.sbp_world.proofs.Words.World.{holder, Stands, WorldState, IsForOrb, IsInSlot, IsMainAt, WasCutOff, IsCut, WasReset, initiator_in, machine_at}
use Rattle.command_agent.specs.declared.phase.Phase.TheVariants as phases
use Rattle.sbp_journal.specs.declared.event.Event.TheVariants as events
use Rattle.sbp_journal.specs.declared.note.Note.TheVariants as notes
use Rattle.sbp_world.proofs.Agents.Management.Holding.{past_terms}
use Rattle.sbp_world.proofs.Agents.Management.Still.{hist}
use Rattle.sbp_world.proofs.Hosts.PointerRuns.{Awaits, awaits_of}
use Rattle.sbp_world.proofs.Hosts.Remaining.{remains}
use Rattle.sbp_world.proofs.Wire.Bus.{holds}
use Rattle.sbp_world.proofs.Lists.BegunBy.{transaction_of}
use Rattle.sbp_world.proofs.Lists.CutOffs.{had_later, off_stays}
use Rattle.sbp_world.proofs.Lists.DataWaits.{under_way_now}
use Rattle.sbp_world.proofs.Lists.FedHeld.{IsNewer, waits_since}
use Rattle.sbp_world.proofs.Lists.Gots.{Next, next, next_line, same_still}
use Rattle.sbp_world.proofs.Lists.MainStays.{has_one}
use Rattle.sbp_world.proofs.Lists.NobodyWaits.{main_or_reset, waits_over}
use Rattle.sbp_world.proofs.Lists.Passing.{PassLaw}
use Rattle.sbp_world.proofs.Lists.Quiet.{AllQuiet, IsQuiet}
use Rattle.sbp_world.proofs.Lists.ResetStays.{AreUngot, IsUngot, cut_over, cut_stays_so}
use Rattle.sbp_world.proofs.Lists.Rises.{Rises}
use Rattle.sbp_world.proofs.Lists.StatusKnown.{generation_grows}
use Rattle.sbp_world.proofs.Lists.StepsUp.{IsUp}
use Rattle.sbp_world.proofs.Lists.AnswersCarriedBefore.{tail_is}
use Rattle.sbp_world.proofs.Agents.AskedAgents.{sent_reset}

-- ---- the moments of a turn behind one of them
-- no packet is got in them, or the one is the line that begins the turn
data Since (since : List Moment) (moment : Moment) (until : List Moment) : Type 0 where
  ungot : AreUngot since → Since since moment until
  as_line : (line : ℕ) (event : Event) → moment ≡ asked line event → until ≡ [] → Since since moment until

none_there : {A : Type 0} (xs : List Moment) (m : Moment) (ys : List Moment) → xs ++ m ∷ ys ≡ [] → A
none_there [] m ys e = absurd (let z : m ∷ ys ≡ [] = e in cc)
none_there (x ∷ xs) m ys e = absurd (let z : x ∷ (xs ++ m ∷ ys) ≡ [] = e in cc)

head_of : (x y : Moment) (xs ys : List Moment) → x ∷ xs ≡ y ∷ ys → x ≡ y
head_of x y xs ys e = cc

quiet_ungot : (note : Note) → IsQuiet note → IsUngot (said note)
quiet_ungot (notes.Got serial) q = q
quiet_ungot note q = tt

more_since : (x : Moment) (since : List Moment) (moment : Moment) (until : List Moment) → IsUngot x → Since since moment until → Since (x ∷ since) moment until
more_since x since moment until u (ungot us) = ungot (u, us)
more_since x since moment until u (as_line line event e f) = as_line line event e f

one_since : (since : List Moment) (moment : Moment) (until : List Moment) (m : Moment) → since ++ moment ∷ until ≡ m ∷ [] → Since since moment until
one_since [] moment until m e = ungot tt
one_since (x ∷ since) moment until m e = none_there since moment until (tail_is x m (since ++ moment ∷ until) [] e)

two_since : (since : List Moment) (moment : Moment) (until : List Moment) (m : Moment) (line : ℕ) (event : Event) → since ++ moment ∷ until ≡ m ∷ asked line event ∷ [] → Since since moment until
two_since [] moment until m line event e = ungot tt
two_since (x ∷ []) moment until m line event e =
    let f = tail_is x m (moment ∷ until) (asked line event ∷ []) e in
    as_line line event (head_of moment (asked line event) until [] f) (tail_is moment (asked line event) until [] f)
two_since (x ∷ y ∷ since) moment until m line event e =
    none_there since moment until (tail_is y (asked line event) (since ++ moment ∷ until) [] (tail_is x m (y ∷ (since ++ moment ∷ until)) (asked line event ∷ []) e))

front_since : (base : List Moment) → ((since : List Moment) (moment : Moment) (until : List Moment) → since ++ moment ∷ until ≡ base → Since since moment until) → (front : List Note) → AllQuiet front → (since : List Moment) (moment : Moment) (until : List Moment) → since ++ moment ∷ until ≡ map said front ++ base → Since since moment until
front_since base at [] q since moment until e = at since moment until e
front_since base at (note ∷ front) q [] moment until e = ungot tt
front_since base at (note ∷ front) q (x ∷ since) moment until e =
    let same = head_of x (said note) (since ++ moment ∷ until) (map said front ++ base) e in
    more_since x since moment until (subst IsUngot (sym same) (quiet_ungot note q.0)) (front_since base at front q.1 since moment until (tail_is x (said note) (since ++ moment ∷ until) (map said front ++ base) e))

-- the moments that a turn adds
record Parted (before now : List Moment) : Type 0 where
  new : List Moment
  is : new ++ before ≡ now
  parts : (since : List Moment) (moment : Moment) (until : List Moment) → since ++ moment ∷ until ≡ new → Since since moment until

parted : (before now : List Moment) → Next before now → Parted before now
parted before now (same_still e) = record { new = []; is = sym e; parts = λ since moment until x. none_there since moment until x }
parted before now (next front q m is) = record {
  new = map said front ++ m ∷ [];
  is = append_assoc (map said front) (m ∷ []) before ∙ is;
  parts = λ since moment until x. front_since (m ∷ []) (λ s o u. one_since s o u m) front q since moment until x;
}
parted before now (next_line front q note line event is) = record {
  new = map said front ++ said note ∷ asked line event ∷ [];
  is = append_assoc (map said front) (said note ∷ asked line event ∷ []) before ∙ is;
  parts = λ since moment until x. front_since (said note ∷ asked line event ∷ []) (λ s o u. two_since s o u (said note) line event) front q since moment until x;
}

-- ---- a request that was under way before and is so still
module _ (later before : List Moment) (c : SerialsCount (later ++ before)) (serial : ℕ) (old : serial ≤ (terms before).count) (rises : Rises (later ++ before)) (young : (packet : Sending) → (terms before).sent serial ≡ Some packet → packet.generation ≤ (terms before).generation packet.from) where
  abbrev ms : List Moment
  ms = later ++ before

  sent_same : (terms ms).sent serial ≡ (terms before).sent serial
  sent_same = (remains later before c).sent serial old

  module _ (packet : Sending) (sent : (terms ms).sent serial ≡ Some packet) (from : packet.from ≡ 0) (under : is_under_way (terms ms) serial ≡ true) where
    sent_then : (terms before).sent serial ≡ Some packet
    sent_then = sym sent_same ∙ sent

    pub generation_same : (terms ms).generation 0 ≡ (terms before).generation 0
    generation_same =
        let a = under_way_now (terms ms) serial packet sent under ∙ ap (terms ms).generation from in
        let b = young packet sent_then in
        let e : (terms before).generation packet.from ≡ (terms before).generation 0 = ap (terms before).generation from in
        let d = generation_grows later before 0 rises in
        omega (arith, a, b, e, d)

    awaits : Awaits (terms ms) packet serial
    awaits = awaits_of (terms ms) packet serial sent under

    held_then : (terms before).held awaits.u ≡ waits awaits.kind serial
    held_then = by (waits_since later before c awaits.u awaits.kind serial awaits.held)
      where
        by : ((terms before).held awaits.u ≡ waits awaits.kind serial) ⊎ IsNewer before ms serial → (terms before).held awaits.u ≡ waits awaits.kind serial
        by (inl e) = e
        by (inr n) = let a = n.above in absurd (omega (arith, a, old))

    now_then : ((terms before).generation awaits.u.requester == awaits.u.generation) ≡ true
    now_then =
        let x = transaction_of packet awaits.u awaits.begun in
        let a = awaits.now in
        let r : (terms ms).generation awaits.u.requester ≡ (terms ms).generation 0 = ap (terms ms).generation (x.requester ∙ from) in
        let s : (terms before).generation awaits.u.requester ≡ (terms before).generation 0 = ap (terms before).generation (x.requester ∙ from) in
        let g = generation_same in
        let e : (terms before).generation awaits.u.requester ≡ awaits.u.generation = s ∙ (sym g ∙ (sym r ∙ a)) in
        grind (arith, nat_tests)

    pub under_way_then : is_under_way (terms before) serial ≡ true
    under_way_then =
        ap (λ so. waits_for (terms before) (begun_in so) serial) sent_then
        ∙ (ap (λ (v : Option Transaction). waits_for (terms before) v serial) awaits.begun
        ∙ (ap (λ b. b && is_waiting_for ((terms before).held awaits.u) serial) now_then
        ∙ (ap (λ (h : Held). is_waiting_for h serial) held_then ∙ (let z : (serial == serial) ≡ true = grind (arith, nat_tests) in z))))

-- ---- a packet that is there
record IsThere (so : Option Sending) : Type 0 where
  packet : Sending
  is : so ≡ Some packet
  from : packet.from ≡ 0

is_there : (so : Option Sending) → sender_in so ≡ Some 0 → IsThere so
is_there (Some packet) e = record { packet = packet; is = refl; from = cc }
is_there None e = absurd (let x : None ≡ Some 0 = e in cc)

pub young_at : {past : List Moment} (w : WorldState) (h : Stands past w) (serial : ℕ) (packet : Sending) → (terms (hist past w)).sent serial ≡ Some packet → packet.generation ≤ (terms (hist past w)).generation packet.from
young_at w h serial packet sent =
    let all = holds h.wire h.reached in
    let honest = all.facts.honest serial packet (ap (λ (x : Terms). x.sent serial) (past_terms w h) ∙ sent) in
    subst (λ (x : Terms). packet.generation ≤ x.generation packet.from) (past_terms w h) honest.past

reset_not : (p : Phase) → p ≡ phases.Reset → is_sent p ≡ true → ⊥
reset_not p e f = let x : is_sent phases.Reset ≡ true = ap is_sent (sym e) ∙ f in let z : false ≡ true = x in cc

-- ---- a turn
-- what is known of it
pub record TurnFacts (wild : ℕ → Bool) (start : List Disk) (past : List Moment) (w : WorldState) (later : List Moment) (v : WorldState) : Type 0 where
  pub next : Next (hist past w) (hist later v)
  pub stands : Stands past w
  pub counts : SerialsCount (hist past w)
  pub counts_now : SerialsCount (hist later v)
  pub passes : PassLaw wild (hist later v)
  pub rises : Rises (hist later v)
  -- the phases of the agents are those of the terms
  pub phases_then : (p : ℕ) → p < 8 → (agent_at (over (target_at start (hist past w))) p).machine.phase ≡ (machine_at w p).phase
  pub phases_now : (p : ℕ) → p < 8 → (agent_at (over (target_at start (hist later v))) p).machine.phase ≡ (machine_at v p).phase
  pub for_orbs : (place i slot serial : ℕ) → place < 8 → i < length w.initiators → wild i ≡ false → (agent_at (over (target_at start (hist past w))) place).main ≡ Some serial → IsInSlot (hist past w) i slot serial → IsForOrb (hist past w) w place i slot
  -- an agent that is put to RESET in it has its list cut, and no ORB of it ends
  pub cuts : (p list : ℕ) → p < 8 → (holder w p).list ≡ Some list → IsUp (machine_at w p) → (machine_at v p).phase ≡ phases.Reset → is_cut (hist later v) (initiator_in w p) list ≡ true
  pub ends_stay : (p list : ℕ) → p < 8 → (holder w p).list ≡ Some list → IsUp (machine_at w p) → (machine_at v p).phase ≡ phases.Reset → ends (hist later v) (initiator_in w p) list ≡ ends (hist past w) (initiator_in w p) list

module _ (wild : ℕ → Bool) (start : List Disk) (past : List Moment) (w : WorldState) (later : List Moment) (v : WorldState) (f : TurnFacts wild start past w later v) where
  abbrev before : List Moment
  before = hist past w

  abbrev now : List Moment
  now = hist later v

  moments : Parted before now
  moments = parted before now f.next

  abbrev new : List Moment
  new = moments.new

  is : new ++ before ≡ now
  is = moments.is

  back : (F : List Moment → Type 0) → F now → F (new ++ before)
  back F h = subst F (sym is) h

  module _ (i slot serial : ℕ) (own : wild i ≡ false) (inside : i < length w.initiators) (x : IsInSlot now i slot serial) (old : serial ≤ (terms before).count) where
    counts_here : SerialsCount (new ++ before)
    counts_here = back SerialsCount f.counts_now

    rises_here : Rises (new ++ before)
    rises_here = back Rises f.rises

    young : (packet : Sending) → (terms before).sent serial ≡ Some packet → packet.generation ≤ (terms before).generation packet.from
    young = young_at w f.stands serial

    under : is_under_way (terms (new ++ before)) serial ≡ true
    under = back (λ ms. is_under_way (terms ms) serial ≡ true) x.under_way

    there : IsThere ((terms (new ++ before)).sent serial)
    there = is_there ((terms (new ++ before)).sent serial) (back (λ ms. sender_in ((terms ms).sent serial) ≡ Some 0) x.from)

    same_sent : (terms now).sent serial ≡ (terms before).sent serial
    same_sent = ap (λ ms. (terms ms).sent serial) (sym is) ∙ (remains new before counts_here).sent serial old

    generation_is : (terms now).generation 0 ≡ (terms before).generation 0
    generation_is = ap (λ ms. (terms ms).generation 0) (sym is) ∙ generation_same new before counts_here serial old rises_here young there.packet there.is there.from under

    was_under_way : is_under_way (terms before) serial ≡ true
    was_under_way = under_way_then new before counts_here serial old rises_here young there.packet there.is there.from under

    -- it went there before
    x_then : IsInSlot before i slot serial
    x_then = record {
      from = ap sender_in (sym same_sent) ∙ x.from;
      to = ap receiver_in (sym same_sent) ∙ x.to;
      under_way = was_under_way;
      access = x.access;
      is = ap (λ so. access_in (packet_in so)) (sym same_sent) ∙ x.is;
      stands = x.stands;
      reads = x.reads;
    }

    -- ---- its agent was put to RESET
    module _ (m : IsMainAt start before serial) where
      waits_there : (agent_at (over (target_at start before)) m.place).main ≡ Some serial
      waits_there = waits_over start [] before m.place serial f.counts was_under_way m.waits

      sent_phase : is_sent (agent_at (over (target_at start before)) m.place).machine.phase ≡ true
      sent_phase = by (is_sent (agent_at (over (target_at start before)) m.place).machine.phase) refl
        where
          no_main : (agent_at (over (target_at start before)) m.place).main ≡ None → ⊥
          no_main e = let z : None ≡ Some serial = sym e ∙ waits_there in cc

          by : (b : Bool) → is_sent (agent_at (over (target_at start before)) m.place).machine.phase ≡ b → is_sent (agent_at (over (target_at start before)) m.place).machine.phase ≡ true
          by true e = e
          by false e = absurd (no_main ((has_one start (asked 0 events.Settle ∷ before) m.place).none e))

      up : IsUp (machine_at w m.place)
      up = sent_reset (machine_at w m.place).phase (ap is_sent (sym (f.phases_then m.place m.small)) ∙ sent_phase)

      orb_there : IsForOrb before w m.place i slot
      orb_there = f.for_orbs m.place i slot serial m.small inside own waits_there x_then

      off_now : (machine_at v m.place).phase ≡ phases.Reset → WasCutOff now i slot
      off_now reset =
          let o = orb_there in
          let cut = f.cuts m.place o.list m.small o.list_is up reset in
          let stay = f.ends_stay m.place o.list m.small o.list_is up reset in
          let same : ends now i o.list ≡ ends before i o.list = subst (λ j. ends now j o.list ≡ ends before j o.list) o.here stay in
          record {
            list = o.list;
            number = ends before i o.list;
            cut = subst (λ j. is_cut now j o.list ≡ true) o.here cut;
            unended = omega (arith, same);
            later = new;
            before = before;
            is = is;
            had = had_later before now before i slot o.list (ends before i o.list) generation_is o.had;
          }

      module _ (r : WasReset start m.place serial new before) where
        by_since : Since r.since r.moment r.until → WasCutOff now i slot
        by_since (ungot us) =
            let here : r.since ++ (r.moment ∷ (r.until ++ before)) ≡ now = sym (append_assoc r.since (r.moment ∷ r.until) before) ∙ (ap (λ ms. ms ++ before) r.is ∙ is) in
            let cut = subst (λ ms. IsCut (agent_at (target_at start ms) m.place)) here (cut_stays_so start m.place r.since (r.moment ∷ (r.until ++ before)) us r.cut) in
            off_now (sym (f.phases_now m.place m.small) ∙ cut_over start m.place now cut)
        by_since (as_line line event e g) =
            let at : IsCut (agent_at (target_at start (asked line event ∷ before)) m.place) = subst (λ (u : List Moment). IsCut (agent_at (target_at start (asked line event ∷ (u ++ before))) m.place)) g (subst (λ (o : Moment). IsCut (agent_at (target_at start (o ∷ (r.until ++ before))) m.place)) e r.cut) in
            absurd (reset_not (agent_at (over (target_at start before)) m.place).machine.phase at sent_phase)

        was_off : WasCutOff now i slot
        was_off = by_since (moments.parts r.since r.moment r.until r.is)

      main_goes : IsMainAt start now serial ⊎ WasCutOff now i slot
      main_goes = by (main_or_reset start new before m.place serial counts_here under m.waits)
        where
          by : ((agent_at (target_at start (new ++ before)) m.place).main ≡ Some serial) ⊎ WasReset start m.place serial new before → IsMainAt start now serial ⊎ WasCutOff now i slot
          by (inl e) = inl (record { place = m.place; small = m.small; waits = ap (λ ms. (agent_at (target_at start ms) m.place).main) (sym is) ∙ e })
          by (inr r) = inr (was_off r)

    off_goes : WasCutOff before i slot → WasCutOff now i slot
    off_goes off =
        subst (λ ms. WasCutOff ms i slot) is
        (off_stays wild i own new before (back (PassLaw wild) f.passes) (ap (λ ms. (terms ms).generation 0) is ∙ generation_is) slot off)

    pub old_goes : (IsInSlot before i slot serial → IsMainAt start before serial ⊎ WasCutOff before i slot) → IsMainAt start now serial ⊎ WasCutOff now i slot
    old_goes was = by (was x_then)
      where
        by : IsMainAt start before serial ⊎ WasCutOff before i slot → IsMainAt start now serial ⊎ WasCutOff now i slot
        by (inl m) = main_goes m
        by (inr off) = inr (off_goes off)
