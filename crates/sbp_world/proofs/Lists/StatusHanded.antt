-- What the target hands out in a turn of the agent of a place: each write of a status that is sent to an initiator is the packet of the ORB that ended in it.
use Rattle.sbp_world.proofs.Words.Std.{arith, ◌≡◌, ◌∙◌, refl, sym, ap, subst, ◌≤◌, ℕ, suc, Bool, false, List, Option, Some, None, ◌<◌, same_Some, none-some}
use Rattle.sbp_world.proofs.Words.Wire.{GenerationsState, node_of, topology_at, list_in, orb_in, OutboxState, Moment, terms}
use Rattle.sbp_world.proofs.Words.Target.{Machine}
use Rattle.sbp_world.proofs.Words.Initiator.{slot_of, StatusBlock, TicketParts}
use Rattle.sbp_world.proofs.Words.Laws.{Orb, orb, taken_at, status_due, status_packet, appends, ended_status, ends, lists, EachMoment}
use Rattle.sbp_world.proofs.Words.World.{handed_out, holder, ticket_of, told_all, WorldState, HasSlot, AreStatuses, SentSo}
use Rattle.sbp_world.proofs.Agents.Management.Still.{hist}
use Rattle.sbp_world.specs.Lists.Statuses.{IsTold}
use Rattle.sbp_world.proofs.Lists.Adds.{all_stay}
use Rattle.sbp_world.proofs.Lists.Passing.{PassLaw}
use Rattle.sbp_world.proofs.Lists.StatusKept.{untaken_above}
use Rattle.sbp_world.proofs.Lists.StatusMoments.{HasTaken, below as below_ends}
use Rattle.sbp_world.proofs.Lists.StatusPackets.{EndSide, IsOfEnd, Spelled, ToldSo}
use Rattle.sbp_world.proofs.Lists.StatusSends.{AllOut, Fits, all_send}
use Rattle.sbp_world.proofs.Lists.StatusTold.{IsDue, Leaves, all_leave, law_before, told_due}

module _ (wild : ℕ → Bool) (i : ℕ) (own : wild i ≡ false) (past : List Moment) (w : WorldState) where
  -- behind the first note of a turn
  pub record Starts (u : WorldState) : Type 0 where
    pub owner : (q : ℕ) → (holder u q).initiator ≡ (holder w q).initiator
    pub tickets : (at : ℕ) → ticket_of u i at ≡ ticket_of w i at
    pub packets : (n k : ℕ) → status_packet (hist past u) i n k ≡ status_packet (hist past w) i n k
    pub taken : (n k : ℕ) → taken_at (hist past u) i n k ≡ taken_at (hist past w) i n k
    pub slots : (slot : ℕ) (one : Orb) → (HasTaken (hist past w) i one.list one.number → ⊥) → HasSlot (hist past w) i slot one → HasSlot (hist past u) i slot one
    pub sends : EachMoment (SentSo i) (hist past w) → EachMoment (SentSo i) (hist past u)
    pub ended : (n : ℕ) → ends (hist past u) i n ≡ ends (hist past w) i n
    pub begun : lists (hist past u) i ≡ lists (hist past w) i
    pub appended : (n : ℕ) → appends (hist past u) i n ≡ appends (hist past w) i n
    pub low : (terms (hist past w)).generation (suc i) ≤ (terms (hist past u)).generation (suc i)
    pub generations : u.generations ≡ w.generations

  abbrev gen : ℕ
  gen = (topology_at w.generations 0).generation

  module _ (u : WorldState) (begins : Starts u) (outbox : OutboxState) (q peer : ℕ) (Ours : Type 0) (m : Machine) (law : PassLaw wild (hist past (handed_out 0 0 outbox u))) (passes : PassLaw wild (hist past w)) (statuses : AreStatuses (hist past w) i) (each : EachMoment (SentSo i) (hist past w)) (ours : node_of w.generations 0 peer ≡ Some (suc i) → Ours × ((holder w q).initiator ≡ i)) (caught : (holder w q).initiator ≡ i → gen ≤ (terms (hist past w)).generation (suc i)) where
    abbrev Mine : Type 0
    Mine = (holder w q).initiator ≡ i

    abbrev x : WorldState
    x = told_all 0 outbox.sides u

    module _ (told : Option EndSide) (so : ToldSo q outbox.sides told) (spelled : Spelled q peer Ours told m outbox.packets) where
      left : Leaves past q u x
      left = all_leave past q outbox.sides u so.of

      law_there : PassLaw wild (hist past x)
      law_there =
          let a = (all_stay wild past 0 outbox.packets x).adds in
          law_before past q wild i own a.later (hist past x) (subst (PassLaw wild) (sym a.is) law)

      same_generations : x.generations ≡ w.generations
      same_generations = left.generations ∙ begins.generations

      gen_is : (topology_at x.generations 0).generation ≡ gen
      gen_is = ap (λ (g : GenerationsState). (topology_at g 0).generation) same_generations

      ours_there : node_of x.generations 0 peer ≡ Some (suc i) → Ours × Mine
      ours_there e = ours (sym (ap (λ (g : GenerationsState). node_of g 0 peer) same_generations) ∙ e)

      each_there : EachMoment (SentSo i) (hist past x)
      each_there = left.sends i (begins.sends each)

      untaken : (n k : ℕ) → ends (hist past w) i n ≤ k → HasTaken (hist past w) i n k → ⊥
      untaken n k l h = let b = untaken_above wild i own (hist past w) passes statuses n k h in omega (arith, b, l)

      untaken_start : (n k : ℕ) → HasTaken (hist past u) i n k → HasTaken (hist past w) i n k
      untaken_start n k h = record { taken = h.taken; is = sym (begins.taken n k) ∙ h.is }

      untaken_there : (n k : ℕ) → HasTaken (hist past x) i n k → HasTaken (hist past u) i n k
      untaken_there n k h = record { taken = h.taken; is = sym (left.taken i n k) ∙ h.is }

      none_sent : (n k : ℕ) → ends (hist past w) i n ≤ k → status_packet (hist past x) i n k ≡ None
      none_sent n k l = left.packets i n k ∙ (begins.packets n k ∙ by (status_packet (hist past w) i n k) refl)
        where
          by : (o : Option ℕ) → status_packet (hist past w) i n k ≡ o → o ≡ None
          by None e = refl
          by (Some serial) e = let b = (below_ends wild i own (hist past w) passes).packet n k serial e in absurd (omega (arith, b, l))

    -- no end was told
    pub none_told : ToldSo q outbox.sides None → Spelled q peer Ours None m outbox.packets → AllOut (Ours × Mine) outbox.packets → EachMoment (SentSo i) (hist past (handed_out 0 0 outbox u))
    none_told so spelled out =
        all_send i 0 0 gen q peer Ours Mine ⊥ None m (λ mine block of. none-some of.one of.is) past outbox.packets x spelled out (gen_is None so spelled) (ours_there None so spelled) (record {
          due = λ t. absurd t;
          none = λ t. absurd t;
          fits = λ mine slot block of at. absurd (none-some of.one of.is);
          sends = each_there None so spelled;
        })

    -- one was told
    module _ (one : EndSide) (so : ToldSo q outbox.sides (Some one)) (spelled : Spelled q peer Ours (Some one) m outbox.packets) (out : AllOut (Ours × Mine) outbox.packets) (slotted : Mine → (t : TicketParts) → ticket_of w i one.orb ≡ Some t → ends (hist past w) i t.list ≤ t.number → suc t.list ≡ lists (hist past w) i → t.number < appends (hist past w) i t.list → (slot : ℕ) → slot_of one.orb ≡ Some slot → gen ≡ (terms (hist past w)).generation (suc i) → HasSlot (hist past w) i slot (orb t.list t.number)) where
      abbrev told : Option EndSide
      told = Some one

      due_of : Mine → IsDue past q i (hist past u) (hist past x) (ticket_of u i one.orb) one
      due_of mine = told_due past q wild i own outbox.sides u so.of one so.end (begins.owner q ∙ mine) (law_there told so spelled)

      by_ticket : (t : Option TicketParts) → ticket_of w i one.orb ≡ t → EachMoment (SentSo i) (hist past (handed_out 0 0 outbox u))
      by_ticket None e =
          let absent : Mine → ⊥ = λ mine. let d = due_of mine in none-some d.list (ap list_in (sym (begins.tickets one.orb ∙ e)) ∙ d.list_is) in
          all_send i 0 0 gen q peer Ours Mine ⊥ told m (λ mine block of. absent mine) past outbox.packets x spelled out (gen_is told so spelled) (ours_there told so spelled) (record {
            due = λ t. absurd t;
            none = λ t. absurd t;
            fits = λ mine slot block of at. absurd (absent mine);
            sends = each_there told so spelled;
          })
      by_ticket (Some t) e =
          all_send i t.list t.number gen q peer Ours Mine Mine told m (λ mine block of. mine) past outbox.packets x spelled out (gen_is told so spelled) (ours_there told so spelled) (record {
            due = λ mine. let d = due_of mine in subst (λ n. status_due (hist past x) ≡ Some (record { initiator = i; one = orb n t.number })) (sym (list_same mine)) (subst (λ k. status_due (hist past x) ≡ Some (record { initiator = i; one = orb d.list k })) (sym (number_same mine)) d.due);
            none = λ mine. none_sent told so spelled t.list t.number (above mine);
            fits = λ mine slot block of at. fits_it mine slot block of at;
            sends = each_there told so spelled;
          })
        where
          list_same : (mine : Mine) → t.list ≡ (due_of mine).list
          list_same mine = let d = due_of mine in same_Some t.list d.list (ap list_in (sym (begins.tickets one.orb ∙ e)) ∙ d.list_is)

          number_same : (mine : Mine) → t.number ≡ (due_of mine).number
          number_same mine = let d = due_of mine in same_Some t.number d.number (ap orb_in (sym (begins.tickets one.orb ∙ e)) ∙ d.number_is)

          above : Mine → ends (hist past w) i t.list ≤ t.number
          above mine =
              let d = due_of mine in
              let a = d.after in
              let n = list_same mine in
              let k = number_same mine in
              let same = ap (λ y. ends (hist past w) i y) n in
              let start = begins.ended d.list in
              omega (arith, a, k, same, start)

          latest : Mine → suc t.list ≡ lists (hist past w) i
          latest mine = let d = due_of mine in ap suc (list_same mine) ∙ (d.latest ∙ begins.begun)

          below : Mine → t.number < appends (hist past w) i t.list
          below mine =
              let d = due_of mine in
              let b = d.below in
              let k = number_same mine in
              let same = ap (λ y. appends (hist past w) i y) (list_same mine) in
              let start = begins.appended d.list in
              omega (arith, b, k, same, start)

          fits_it : (mine : Mine) (slot : ℕ) (block : StatusBlock) (of : IsOfEnd q told m block) → slot_of block.orb ≡ Some slot → Fits i t.list t.number gen q peer Ours Mine Mine told m (λ mine block of. mine) (hist past x) slot block
          fits_it mine slot block of at =
              let d = due_of mine in
              let same : one ≡ of.one = same_Some one of.one of.is in
              let up = above mine in
              let free = untaken told so spelled t.list t.number up in
              let at_start : HasTaken (hist past u) i t.list t.number → ⊥ = λ h. free (untaken_start told so spelled t.list t.number h) in
              let seen = caught mine in
              let low = begins.low in
              let wire = ap (λ y. y.generation (suc i)) (left told so spelled).wire in
              record {
                ended = record {
                  status = one.kind;
                  is = subst (λ n. ended_status (hist past x) i n t.number ≡ Some one.kind) (sym (list_same mine)) (subst (λ k. ended_status (hist past x) i d.list k ≡ Some one.kind) (sym (number_same mine)) d.status);
                  same = λ k. ap (λ (y : EndSide). y.kind) same ∙ of.kind (subst (λ (y : EndSide). IsTold y.kind) same k);
                };
                has = λ f. (left told so spelled).slots i slot (orb t.list t.number) at_start (begins.slots slot (orb t.list t.number) free (slotted mine t e up (latest mine) (below mine) slot (ap (λ (y : EndSide). slot_of y.orb) same ∙ (ap slot_of of.orb_is ∙ at)) (omega (arith, f, seen, low, wire))));
                untaken = λ h. at_start (untaken_there told so spelled t.list t.number h);
                seen = omega (arith, seen, low, wire);
              }

      pub one_told : EachMoment (SentSo i) (hist past (handed_out 0 0 outbox u))
      one_told = by_ticket (ticket_of w i one.orb) refl
