-- In a drill each request of the target that is under way is an agent's, or the read ahead that an agent dropped as it died; moment by moment.
use Rattle.std.proofs.Common.{◌≡◌, ◌∙◌, ◌⊎◌, inl, inr, refl, sym, ap, subst, arith, ℕ, zero, ◌<◌, ◌==◌, Bool, true, false, cond, List, [], ◌∷◌, length, Option, Some, None, position}
use Rattle.std.proofs.lemmas.List.Quantifiers.{position-Some}
use Rattle.bus_transactions.specs.Packets.{SerialsCount}
use Rattle.orb_layout.specs.declared.ask.Ask.TheVariants.{Nothing}
use Rattle.rbc_disk.specs.Disk.{Disk}
use Rattle.sbp_journal.specs.Run.{Moment, said}
use Rattle.sbp_journal.specs.Transactions.{Kind, Part, Sending, Transaction, asked_as, asked_by, begun_by, begun_if, between, no_packet, part_of, request, response}
use Rattle.sbp_journal.specs.Wire.{Terms, free, terms, waits}
use Rattle.sbp_journal.specs.declared.note.Note.{Note}
use Rattle.sbp_journal.specs.declared.note.Note.TheVariants as notes
use Rattle.sbp_laws.specs.Packets.{access_in_bytes, answered_at}
use Rattle.sbp_laws.specs.Targets.{Agent, Reply, Target, agent_at, is_write_access, new_agent, new_target, sends_of, sent_as, sent_for, taken_on, target_at, target_by, wants, wants_it, with_agent}
use Rattle.sbp_world.specs.Agents.Crews.{agent_in}
use Rattle.sbp_world.proofs.Agents.Lists.{at_own}
use Rattle.sbp_world.proofs.Common.{none_is, untrue}
use Rattle.sbp_world.proofs.Hosts.Remaining.{remains}
use Rattle.sbp_world.proofs.Hosts.SentMoments.{sending, sent_below, sent_there, serials_from}
use Rattle.sbp_world.proofs.Lists.AgentFolds.{new_there}
use Rattle.sbp_world.proofs.Lists.BegunBy.{begun_of, held_by}
use Rattle.sbp_world.proofs.Lists.FedHeld.{IsNewer, got_frees, waits_since}
use Rattle.sbp_world.proofs.Lists.FedOnce.{reply_by}
use Rattle.sbp_world.proofs.Lists.StatusKnown.{Where, is_before, is_here, sent_where}
use Rattle.drill_laws.proofs.DrillAgents.{Fits, Owns, by_ahead, by_main, sends_waits}
use Rattle.drill_laws.proofs.DrillOwners.{ClosedBy, Goes, settles, taken_reply}
use Rattle.drill_laws.proofs.DrillPushes.{IsPlaced}

-- ---- a request of the target that is under way
pub record Under (t : Terms) (s : ℕ) : Type 0 where
  pub u : Transaction
  pub kind : Kind
  pub own : u.requester ≡ 0
  pub held : t.held u ≡ waits kind s

-- it was so before, or it is sent now
pub record IsHere (m : Moment) (s : ℕ) : Type 0 where
  pub packet : Sending
  pub is : m ≡ said (notes.Sent s packet.generation packet.from packet.to packet.bytes)

pub since : (m : Moment) (past : List Moment) → SerialsCount (m ∷ past) → (s : ℕ) → Under (terms (m ∷ past)) s → Under (terms past) s ⊎ IsHere m s
since m past c s x = by (waits_since (m ∷ []) past c x.u x.kind s x.held)
  where
    at : (n : IsNewer past (m ∷ past) s) → Where m past s n.packet → Under (terms past) s ⊎ IsHere m s
    at n (is_before f) = let a = n.above in let b = sent_below past s n.packet (serials_from (m ∷ []) past c) f in absurd (omega (arith, a, b))
    at n (is_here f) = inr (record { packet = n.packet; is = f })

    by : ((terms past).held x.u ≡ waits x.kind s) ⊎ IsNewer past (m ∷ past) s → Under (terms past) s ⊎ IsHere m s
    by (inl e) = inl (record { u = x.u; kind = x.kind; own = x.own; held = e })
    by (inr n) = at n (sent_where m past c s n.packet n.sent)

-- what is answered is under way no more
some_transaction : (u v : Transaction) → Some u ≡ Some v → u ≡ v
some_transaction u v e = cc e

pub closed_never : (past : List Moment) (response own : ℕ) → SerialsCount (said (notes.Got response) ∷ past) → answered_at (terms past) response ≡ Some own → Under (terms (said (notes.Got response) ∷ past)) own → ⊥
closed_never past r own c answered x =
    let c0 = serials_from (said (notes.Got r) ∷ []) past c in
    let reply = reply_by (terms past) r own ((terms past).sent r) refl answered in
    let q = reply.packet in
    let u = between q q.to q.from reply.label in
    let held = held_by ((terms past).held u) reply.kind own reply.closes in
    let begun = begun_of past c0 u held.kind own held.is in
    let now = begun_of (said (notes.Got r) ∷ past) c x.u x.kind own x.held in
    let sent : (terms (said (notes.Got r) ∷ past)).sent own ≡ Some begun.packet = (remains (said (notes.Got r) ∷ []) past c).sent own (sent_below past own begun.packet c0 begun.sent) ∙ begun.sent in
    let packets : Some now.packet ≡ Some begun.packet = sym now.sent ∙ sent in
    let same : x.u ≡ u = some_transaction x.u u (sym now.begun ∙ ap begun_or packets ∙ begun.begun) in
    let freed = got_frees (terms past) r own q reply.label reply.kind reply.sent reply.part reply.closes in
    let no : free ≡ waits x.kind own = sym freed ∙ ap (λ v. (terms (said (notes.Got r) ∷ past)).held v) (sym same) ∙ x.held in
    cc no
  where
    begun_or : Option Sending → Option Transaction
    begun_or None = None
    begun_or (Some packet) = begun_by packet

-- ---- what stands at a place
pub record IsOwned (t : Target) (last : ℕ → Option ℕ) (s : ℕ) : Type 0 where
  pub place : ℕ
  pub small : place < 8
  pub owns : Owns (agent_in t.agents place) (last place) s

pub record Stands (Live : ℕ → Type 0) (t : Target) : Type 0 where
  pub last : ℕ → Option ℕ
  pub fits : (p : ℕ) → Fits (agent_in t.agents p) (last p)
  pub owns : (s : ℕ) → Live s → IsOwned t last s
  pub closed : ClosedBy Live t t.reply
  pub size : length t.agents ≡ 8

-- one that is sent now is its agent's
pub record IsNew (t : Target) (s : ℕ) : Type 0 where
  pub place : ℕ
  pub small : place < 8
  pub waits : ((agent_in t.agents place).main ≡ Some s) ⊎ ((agent_in t.agents place).ahead ≡ Some s)

pub fewer : (L M : ℕ → Type 0) → ((s : ℕ) → M s → L s) → (t : Target) (reply : Option Reply) → ClosedBy L t reply → ClosedBy M t reply
fewer L M less t None h = tt
fewer L M less t (Some reply) h = λ s e live. h s e (less s live)

pub stands_on : (Before Live L : ℕ → Type 0) (t x : Target) → Stands Before t → Goes L t.agents x.agents → ClosedBy Live x x.reply → ((s : ℕ) → Live s → (L s × Before s) ⊎ IsNew x s) → Stands Live x
stands_on Before Live L t x S goes closed was = record { last = last; fits = λ p. (goes.each p (S.last p) (S.fits p)).fits; owns = λ s live. by s (was s live); closed = closed; size = goes.size ∙ S.size }
  where
    last : ℕ → Option ℕ
    last p = (goes.each p (S.last p) (S.fits p)).now

    by : (s : ℕ) → (L s × Before s) ⊎ IsNew x s → IsOwned x last s
    by s (inl h) = let o = S.owns s h.1 in record { place = o.place; small = o.small; owns = (goes.each o.place (S.last o.place) (S.fits o.place)).owns s h.0 o.owns }
    by s (inr n) = record { place = n.place; small = n.small; owns = own n.waits }
      where
        own : ((agent_in x.agents n.place).main ≡ Some s) ⊎ ((agent_in x.agents n.place).ahead ≡ Some s) → Owns (agent_in x.agents n.place) (last n.place) s
        own (inl e) = by_main e
        own (inr e) = by_ahead e

-- a packet is sent
abbrev pub IsSentNote : Note → Type 0
IsSentNote (notes.Sent serial generation from to bytes) = Unit {0}
IsSentNote note = ⊥

-- ---- at the beginning
new_fits : Fits new_agent None
new_fits = record {
  fit = record { bare = λ e. refl; next = λ e. untrue e; limit = λ e. untrue e };
  none = λ e. refl;
  asks = λ e. absurd (cc e);
  idle = λ e. refl;
  reads = λ e. absurd (cc e);
  over = inl refl;
}

module _ (start : List Disk) where
  abbrev pub Live : List Moment → ℕ → Type 0
  Live past s = Under (terms past) s

  pub first_stands : Stands (Live []) (new_target start)
  first_stands = record {
    last = λ p. None;
    fits = λ p. subst (λ a. Fits a None) (sym (new_there 8 p)) new_fits;
    owns = λ s x. absurd (let no : free ≡ waits x.kind s = x.held in cc no);
    closed = tt;
    size = refl;
  }

  -- ---- a packet that is sent
  pub sent_reply : (note : Note) (past : List Moment) (wire : Terms) (t : Target) → IsSentNote note → (target_by note past wire t).reply ≡ None
  sent_reply (notes.Sent serial generation from to bytes) past wire t is = by (from == 0)
    where
      x : Target
      x = taken_on None t.reply t

      none : x.reply ≡ None
      none = taken_reply None t.reply t refl

      as_for : (place : Option ℕ) (is_write : Bool) → (sent_for place is_write serial x).reply ≡ None
      as_for (Some place) is_write = none
      as_for None is_write = by_wants (wants x.manager_asks is_write)
        where
          by_wants : (b : Bool) → (cond b (record x { manages = Some serial; manager_asks = Nothing }) (record x { pushes = serial ∷ x.pushes })).reply ≡ None
          by_wants true = none
          by_wants false = none

      as_part : (part : Part) (is_write : Bool) → (sent_as part is_write serial x).reply ≡ None
      as_part (request label kind) is_write = as_for (position (wants_it is_write) x.agents) is_write
      as_part (response label kind) is_write = none
      as_part no_packet is_write = none

      by : (b : Bool) → (cond b (sent_as (part_of bytes) (is_write_access (access_in_bytes bytes)) serial x) x).reply ≡ None
      by true = as_part (part_of bytes) (is_write_access (access_in_bytes bytes))
      by false = none
  sent_reply note past wire t is = absurd is

  -- the request that it is
  pub record IsAsked (bytes : List ℕ) : Type 0 where
    pub label : ℕ
    pub kind : Kind
    pub is : part_of bytes ≡ request label kind

  asked_part : (part : Part) (q : Sending) (u : Transaction) → part_of q.bytes ≡ part → asked_as part q ≡ Some u → IsAsked q.bytes
  asked_part (request label kind) q u e f = record { label = label; kind = kind; is = e }
  asked_part (response label kind) q u e f = none_is u f
  asked_part no_packet q u e f = none_is u f

  asked_if : (b : Bool) (q : Sending) (u : Transaction) → begun_if b (asked_by q) ≡ Some u → IsAsked q.bytes
  unfolding asked_by
  asked_if true q u e = none_is u e
  asked_if false q u e = asked_part (part_of q.bytes) q u refl e

  pub asked_of : (q : Sending) (u : Transaction) → begun_by q ≡ Some u → IsAsked q.bytes
  unfolding begun_by
  asked_of q u e = asked_if q.injected q u e

  some_sending : (p q : Sending) → Some p ≡ Some q → p ≡ q
  some_sending p q e = cc e

  module _ (past : List Moment) (serial generation from to : ℕ) (bytes : List ℕ) where
    abbrev pub sent_now : List Moment
    sent_now = said (notes.Sent serial generation from to bytes) ∷ past

    abbrev pub q : Sending
    q = sending past serial generation from to bytes

    pub same_serial : (s : ℕ) → IsHere (said (notes.Sent serial generation from to bytes)) s → s ≡ serial
    same_serial s h = by h.packet h.is
      where
        by : (p : Sending) → said (notes.Sent serial generation from to bytes) ≡ said (notes.Sent s p.generation p.from p.to p.bytes) → s ≡ serial
        by p e = cc e

    pub begun_now : SerialsCount sent_now → (s : ℕ) → s ≡ serial → (x : Under (terms sent_now) s) → begun_by q ≡ Some x.u
    begun_now c s e x =
        let b = begun_of sent_now c x.u x.kind s x.held in
        let same : b.packet ≡ q = some_sending b.packet q (sym b.sent ∙ ap (λ n. (terms sent_now).sent n) e ∙ sent_there past serial generation from to bytes) in
        ap begun_by (sym same) ∙ b.begun

  -- by the target
  module _ (past : List Moment) (serial generation to : ℕ) (bytes : List ℕ) (S : Stands (Live past) (target_at start past)) where
    abbrev t : Target
    t = target_at start past

    abbrev x : Target
    x = taken_on None t.reply t

    abbrev w : Bool
    w = is_write_access (access_in_bytes bytes)

    settled_size : length x.agents ≡ 8
    settled_size = (settles (Live past) t S.closed).size ∙ S.size

    pub new_at : IsPlaced start past serial generation to bytes → IsAsked bytes → IsNew (target_at start (said (notes.Sent serial generation zero to bytes) ∷ past)) serial
    new_at p a =
        let at = position-Some (wants_it w) x.agents p.place new_agent p.is in
        let small : p.place < 8 = (let n = at.0 in let size = settled_size in omega (arith, n, size)) in
        let b = sends_of w serial (agent_at x p.place) in
        let now : sent_as (part_of bytes) w serial x ≡ with_agent x p.place b = ap (λ part. sent_as part w serial x) a.is ∙ ap (λ o. sent_for o w serial x) p.is in
        let there : agent_in (sent_as (part_of bytes) w serial x).agents p.place ≡ b = ap (λ (y : Target). agent_in y.agents p.place) now ∙ at_own x.agents p.place b settled_size small in
        record {
          place = p.place;
          small = small;
          waits = subst (λ (y : Agent). (y.main ≡ Some serial) ⊎ (y.ahead ≡ Some serial)) (sym there) (sends_waits w serial (agent_at x p.place) at.1);
        }
