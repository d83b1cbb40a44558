-- What a call of the target leaves of the ends of ORBs: with no end told they stay, and an end of an agent of another initiator leaves them; behind the end that was told
-- last its ORB is the last that ended. And where the agent is at the end of its list then, the status block that leaves has src 1.
use Rattle.sbp_world.proofs.Words.Std.{arith, ◌≡◌, ◌∙◌, refl, sym, ap, subst, ◌==◌, ◌&&◌, ℕ, suc, nat_eq, Bool, true, false, cond, List, [], ◌∷◌, Option, Some, None, nat_tests, false≢true, none-some, same_Some}
use Rattle.sbp_world.proofs.Words.Wire.{GenerationsState, node_of, topology_at, list_in, orb_in, Outgoing, Side, Moment, asked, said}
use Rattle.sbp_world.proofs.Words.Target.{Machine}
use Rattle.sbp_world.proofs.Words.Initiator.{StatusKind, TicketParts}
use Rattle.sbp_world.proofs.Words.Laws.{orb, EndedOrb, is_due, status_due, ends}
use Rattle.sbp_world.proofs.Words.World.{sent, sent_all, holder, told, told_all, WorldState, AreOthers}
use Rattle.sbp_journal.specs.declared.note.Note.TheVariants as notes
use Rattle.sbp_journal.specs.declared.side.Side.TheVariants as sides
use Rattle.sbp_world.proofs.Agents.Management.Still.{hist}
use Rattle.sbp_world.proofs.Lists.Passing.{PassLaw}
use Rattle.sbp_world.proofs.Lists.StatusNull.{AreNull, NullAt}
use Rattle.sbp_world.proofs.Lists.StatusPackets.{AllPlain, AreOf, EndSide, IsOf, IsPlain, OfEnd, Spelled, one_end, read_plain, sends_none, sends_read, sends_write, told_end}
use Rattle.sbp_world.proofs.Lists.StatusSends.{sent_generations, sent_on}
use Rattle.sbp_world.proofs.Lists.StatusSteps.{rests}
use Rattle.sbp_world.proofs.Lists.StatusTold.{one_leaves}
use Rattle.sbp_world.proofs.Common.{itself}
use Rattle.sbp_world.proofs.Lists.EndTells.{both_none}

some_end : (one : EndSide) → Some one ≡ None → ⊥
some_end one e = cc

-- ---- what is told
module _ (past : List Moment) (i n : ℕ) where
  one_unended : (side : Side) (w : WorldState) → one_end side ≡ None → AreOthers (side ∷ []) → ends (hist past (told 0 side w)) i n ≡ ends (hist past w) i n
  unfolding told
  one_unended (sides.Own note) w e o = absurd o.0
  one_unended (sides.Ended place at status) w e o = absurd (some_end (record { place = place; orb = at; kind = status }) e)
  one_unended (sides.Opened place at) w e o = refl
  one_unended (sides.Ran place at cdb payload outcome) w e o = refl
  one_unended (sides.Dead place cause) w e o = refl
  one_unended (sides.Unsolicited place) w e o = refl
  one_unended (sides.Unsent place) w e o = refl
  one_unended (sides.Cut place cause) w e o = refl
  one_unended (sides.Managed node function subject status login) w e o = refl
  one_unended (sides.ManageFailed node cause) w e o = refl
  one_unended (sides.Held login) w e o = refl
  one_unended (sides.Expired login) w e o = refl
  one_unended (sides.Back login) w e o = refl
  one_unended (sides.Left login) w e o = refl
  one_unended (sides.Cleared unit) w e o = refl

  pub unended : (side : List Side) (w : WorldState) → told_end side ≡ None → AreOthers side → ends (hist past (told_all 0 side w)) i n ≡ ends (hist past w) i n
  unfolding told_all
  unended [] w e o = refl
  unended (side ∷ later) w e o =
      let b = both_none (told_end later) (one_end side) e in
      unended later (told 0 side w) b.0 o.1 ∙ one_unended side w b.1 (o.0, tt)

  -- of an agent of another initiator
  ended_apart : (ms : List Moment) (j : ℕ) (t : Option TicketParts) (status : StatusKind) → nat_eq i j ≡ false → ends (said (notes.Ended j (list_in t) (orb_in t) status) ∷ ms) i n ≡ ends ms i n
  ended_apart ms j None status e = refl
  ended_apart ms j (Some t) status e = ap (λ b. cond b (cond (nat_eq n t.list) (suc (ends ms j t.list)) (ends ms i n)) (ends ms i n)) e

  module _ (q : ℕ) where
    one_apart : (side : Side) (w : WorldState) → IsOf q side → nat_eq i (holder w q).initiator ≡ false → ends (hist past (told 0 side w)) i n ≡ ends (hist past w) i n
    unfolding told
    one_apart (sides.Ended place at status) w h e = ended_apart (hist past w) (holder w place).initiator _ status (ap (λ p. nat_eq i (holder w p).initiator) h ∙ e)
    one_apart (sides.Opened place at) w h e = refl
    one_apart (sides.Ran place at cdb payload outcome) w h e = refl
    one_apart (sides.Dead place cause) w h e = refl
    one_apart (sides.Unsolicited place) w h e = refl
    one_apart (sides.Unsent place) w h e = refl
    one_apart (sides.Own note) w h e = absurd h
    one_apart (sides.Cut place cause) w h e = absurd h
    one_apart (sides.Managed node function subject status login) w h e = absurd h
    one_apart (sides.ManageFailed node cause) w h e = absurd h
    one_apart (sides.Held login) w h e = absurd h
    one_apart (sides.Expired login) w h e = absurd h
    one_apart (sides.Back login) w h e = absurd h
    one_apart (sides.Left login) w h e = absurd h
    one_apart (sides.Cleared unit) w h e = absurd h

    pub apart_ends : (side : List Side) (w : WorldState) → AreOf q side → nat_eq i (holder w q).initiator ≡ false → ends (hist past (told_all 0 side w)) i n ≡ ends (hist past w) i n
    unfolding told_all
    apart_ends [] w h e = refl
    apart_ends (side ∷ later) w h e = apart_ends later (told 0 side w) h.1 (ap (nat_eq i) (one_leaves past q side w h.0).owner ∙ e) ∙ one_apart side w h.0 e

-- ---- the ORB that ended last
module _ (wild : ℕ → Bool) (i : ℕ) (own : wild i ≡ false) where
  ended_count : (past : List Moment) (j m l : ℕ) (status : StatusKind) → l ≡ ends past j m → ends (said (notes.Ended j (Some m) (Some l) status) ∷ past) j m ≡ suc l
  ended_count past j m l status e =
      ap (λ b. cond b (cond (nat_eq m m) (suc (ends past j m)) (ends past j m)) (ends past j m)) (itself j)
      ∙ (ap (λ b. cond b (suc (ends past j m)) (ends past j m)) (itself m) ∙ ap suc (sym e))

  ended_last : (past : List Moment) (j m l : ℕ) (status : StatusKind) → (wild j ≡ false → l ≡ ends past j m) → (one : EndedOrb) → Some (record { initiator = j; one = orb m l }) ≡ Some one → one.initiator ≡ i → ends (said (notes.Ended j (Some m) (Some l) status) ∷ past) i one.one.list ≡ suc one.one.number
  ended_last past j m l status at one e same =
      let is : record { initiator = j; one = orb m l } ≡ one = same_Some _ one e in
      let here : j ≡ i = ap (λ (x : EndedOrb). x.initiator) is ∙ same in
      subst (λ (x : EndedOrb). ends (said (notes.Ended j (Some m) (Some l) status) ∷ past) i x.one.list ≡ suc x.one.number) is
      (subst (λ a. ends (said (notes.Ended j (Some m) (Some l) status) ∷ past) a m ≡ suc l) here (ended_count past j m l status (at (ap wild here ∙ own))))

  pub due_last : (past : List Moment) → PassLaw wild past → (one : EndedOrb) → status_due past ≡ Some one → one.initiator ≡ i → ends past i one.one.list ≡ suc one.one.number
  due_last [] law one e same = absurd (none-some one e)
  due_last (asked line event ∷ past) law one e same = absurd (none-some one e)
  due_last (said (notes.Got serial) ∷ past) law one e same = absurd (none-some one e)
  due_last (said (notes.Ignored serial cause) ∷ past) law one e same = absurd (none-some one e)
  due_last (said (notes.TimedOut serial) ∷ past) law one e same = absurd (none-some one e)
  due_last (said (notes.Ended j (Some m) (Some l) status) ∷ past) law one e same = ended_last past j m l status (λ mild. (law.0 mild).turn.number) one e same
  due_last (said (notes.Ended j (Some m) None status) ∷ past) law one e same = due_last past law.1 one e same
  due_last (said (notes.Ended j None l status) ∷ past) law one e same = due_last past law.1 one e same
  due_last (said note ∷ past) law one e same = due_last past law.1 one e same

-- ---- what leaves behind an end
all_four : (a b c d : Bool) → (a && b && c && d) ≡ true → d ≡ true
all_four false b c d e = absurd (false≢true e)
all_four true false c d e = absurd (false≢true e)
all_four true true false d e = absurd (false≢true e)
all_four true true true d e = e

due_to : (due : Option EndedOrb) (i n k to : ℕ) → is_due due i n k to ≡ true → to ≡ suc i
due_to None i n k to e = absurd (false≢true e)
due_to (Some one) i n k to e = let z = all_four (one.initiator == i) (one.one.list == n) (one.one.number == k) (to == suc i) e in (let same : to ≡ suc i = grind (arith, nat_tests) in same)

abbrev gen_of : WorldState → ℕ
gen_of w = (topology_at w.generations 0).generation

module _ (i n k : ℕ) (past : List Moment) where
  abbrev pub N : WorldState → Type 0
  N w = AreNull i n k (hist past w)

  module _ (q : ℕ) where
    one_null : (side : Side) (w : WorldState) → IsOf q side → N w → N (told 0 side w)
    unfolding told
    one_null (sides.Opened place at) w h x = x
    one_null (sides.Ran place at cdb payload outcome) w h x = (tt, x)
    one_null (sides.Ended place at status) w h x = (tt, x)
    one_null (sides.Dead place cause) w h x = (tt, x)
    one_null (sides.Unsolicited place) w h x = (tt, x)
    one_null (sides.Unsent place) w h x = (tt, x)
    one_null (sides.Own note) w h x = absurd h
    one_null (sides.Cut place cause) w h x = absurd h
    one_null (sides.Managed node function subject status login) w h x = absurd h
    one_null (sides.ManageFailed node cause) w h x = absurd h
    one_null (sides.Held login) w h x = absurd h
    one_null (sides.Expired login) w h x = absurd h
    one_null (sides.Back login) w h x = absurd h
    one_null (sides.Left login) w h x = absurd h
    one_null (sides.Cleared unit) w h x = absurd h

    pub told_null : (side : List Side) (w : WorldState) → AreOf q side → N w → N (told_all 0 side w)
    unfolding told_all
    told_null [] w h x = x
    told_null (side ∷ later) w h x = told_null later (told 0 side w) h.1 (one_null side w h.0 x)

  -- the packets
  module _ (q peer : ℕ) (Ours : Type 0) (told_last : Option EndSide) (m : Machine) (rested : rests m ≡ true) where
    on : (out : Outgoing) (w : WorldState) → N w → ((s t : ℕ) → node_of w.generations 0 out.to ≡ Some t → NullAt i n k (said (notes.Sent s (gen_of w) 0 t out.bytes)) (hist past w)) → N (sent 0 out w)
    on out w x h = sent_on i n k 0 q peer Ours (Unit {0}) (Unit {0}) told_last m (λ a b c. tt) past (AreNull i n k) out w x (λ s t e. (h s t e, x))

    plain_at : (ms : List Moment) (s g t : ℕ) (out : Outgoing) → IsPlain out → NullAt i n k (said (notes.Sent s g 0 t out.bytes)) ms
    plain_at ms s g t out p = λ due slot block w. absurd (p slot block w)

    end_at : (ms : List Moment) (s g t : ℕ) (out : Outgoing) → OfEnd q peer Ours told_last m out → (t ≡ suc i → out.to ≡ peer → Ours) → NullAt i n k (said (notes.Sent s g 0 t out.bytes)) ms
    end_at ms s g t out o ours = λ due slot block w.
        let e = o slot block w in
        (e.of (ours (due_to (status_due ms) i n k t due) e.to_is)).null rested

    plain_null : (packets : List Outgoing) (w : WorldState) → AllPlain packets → N w → N (sent_all 0 packets w)
    unfolding sent_all
    plain_null [] w p x = x
    plain_null (out ∷ later) w p x = plain_null later (sent 0 out w) p.1 (on out w x (λ s t e. plain_at (hist past w) s (gen_of w) t out p.0))

    pub sent_null : (packets : List Outgoing) (w : WorldState) → Spelled q peer Ours told_last m packets → (node_of w.generations 0 peer ≡ Some (suc i) → Ours) → N w → N (sent_all 0 packets w)
    unfolding sent_all
    sent_null _ w sends_none ours x = x
    sent_null _ w (sends_read out later r s) ours x =
        let same = sent_generations i n k 0 q peer Ours (Unit {0}) (Unit {0}) told_last m (λ a b c. tt) past out w in
        sent_null later (sent 0 out w) s (λ e. ours (ap (λ (g : GenerationsState). node_of g 0 peer) (sym same) ∙ e)) (on out w x (λ s t e. plain_at (hist past w) s (gen_of w) t out (read_plain out r)))
    sent_null _ w (sends_write out later o p) ours x =
        plain_null later (sent 0 out w) p
        (on out w x (λ s t e. end_at (hist past w) s (gen_of w) t out o (λ here is. ours (ap (λ a. node_of w.generations 0 a) (sym is) ∙ (e ∙ ap (λ x. Some x) here)))))
