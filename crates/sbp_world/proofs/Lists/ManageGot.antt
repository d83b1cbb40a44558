-- A packet is got: where it starts an operation of an initiator at the target, it is the write that waited, and nothing else was in hand; and else what is in hand stays.
use Rattle.sbp_world.proofs.Words.Std.{arith, ◌≡◌, ◌∙◌, ◌⊎◌, inl, inr, refl, sym, ap, subst, ℕ, suc, ◌<◌, nat_eq, Bool, true, false, List, ◌∷◌, Option, Some, None, Result, Ok, Err, nat_tests, same_Some}
use Rattle.sbp_world.proofs.Words.Wire.{PacketFault, Packet, lock, lock_response, read_block, read_block_response, read_quadlet, read_quadlet_response, write_block, write_quadlet, write_response, reading, Access, access_of, Moment, said, Sending, Transaction, between, part_of, request, writing, Owed, Terms, terms}
use Rattle.sbp_world.proofs.Words.Target.{Operation, Disk}
use Rattle.sbp_world.proofs.Words.Initiator.{offset_at}
use Rattle.sbp_world.proofs.Words.Laws.{access_at, access_in, access_in_bytes, id_for, packet_in, spelled_by, target_at}
use Rattle.sbp_world.proofs.Words.World.{IsAccepted, IsAsking, IsBusy, IsFree, IsHandling, IsOwnWrite, IsRest, IsServed, IsTaking, asks}
use Rattle.bus_transactions.proofs.PacketParts.{part_read}
use Rattle.bus_transactions.proofs.Facts.{request_asked}
use Rattle.mgmt_agent.specs.declared.operation.Phase.TheVariants as phases
use Rattle.sbp_journal.specs.declared.note.Note.TheVariants as notes
use Rattle.sbp_world.proofs.Lists.ManageNotes.{none_taken}
use Rattle.sbp_world.proofs.Lists.ManageOffices.{GotAs, Starts, got_as, got_other, got_replies, got_settles, got_starts}
use Rattle.sbp_world.proofs.Lists.ManageStays.{Calms, Had, calm_busy, calm_free, calm_served, replies_handling, rests_accepted, rests_asking, rests_calm, rests_handling, rests_own, rests_telling, zero_or}
use Rattle.sbp_world.proofs.Lists.ManageTerms.{Rests, got_more, got_owes, got_request, got_rests, none_is, same_some}
use Rattle.sbp_world.proofs.Common.{untrue}

-- what is known of a packet that is got, and of an initiator that injected none
pub record GotFacts (past : List Moment) (i serial : ℕ) (q : Sending) : Type 0 where
  pub sent : (terms past).sent serial ≡ Some q
  pub none : (terms past).owes ≡ None
  pub current : q.generation ≡ (terms past).generation q.to
  pub apart : (generation one other : ℕ) → (terms past).ids generation one ≡ (terms past).ids generation other → one ≡ other
  pub honest : q.from ≡ suc i → q.injected ≡ false
  pub fresh : q.from ≡ suc i → (label : ℕ) → part_of q.bytes ≡ request label writing → (terms past).news serial ≡ 0

-- ---- a write is one

pub record IsWriting (bytes : List ℕ) : Type 0 where
  pub label : ℕ
  pub part : part_of bytes ≡ request label writing

not_write : (access own : Access) → Some own ≡ Some access → access.is_write ≡ true → own.is_write ≡ true
not_write access own e w = ap (λ (a : Access). a.is_write) (same_Some own access e) ∙ w

writing_of : (bytes : List ℕ) (p : Packet) → reading bytes ≡ Ok p → (access : Access) → access_of p ≡ Some access → access.is_write ≡ true → IsWriting bytes
writing_of bytes (write_quadlet header offset value) r access e w = record { label = header.label; part = part_read bytes (write_quadlet header offset value) r }
writing_of bytes (write_block header offset payload) r access e w = record { label = header.label; part = part_read bytes (write_block header offset payload) r }
writing_of bytes (read_quadlet header offset) r access e w = untrue (not_write access _ e w)
writing_of bytes (read_block header offset asked) r access e w = untrue (not_write access _ e w)
writing_of bytes (lock header offset extended payload) r access e w = untrue (not_write access _ e w)
writing_of bytes (write_response header rcode) r access e w = none_is access e
writing_of bytes (read_quadlet_response header rcode value) r access e w = none_is access e
writing_of bytes (read_block_response header rcode payload) r access e w = none_is access e
writing_of bytes (lock_response header rcode extended payload) r access e w = none_is access e

writing_read : (bytes : List ℕ) (found : Result Packet PacketFault) → reading bytes ≡ found → (access : Access) → access_in (spelled_by found) ≡ Some access → access.is_write ≡ true → IsWriting bytes
writing_read bytes (Ok p) r access e w = writing_of bytes p r access e w
writing_read bytes (Err fault) r access e w = none_is access e

pub writing_in : (bytes : List ℕ) (access : Access) → access_in_bytes bytes ≡ Some access → access.is_write ≡ true → IsWriting bytes
writing_in bytes access e w = writing_read bytes (reading bytes) refl access e w

-- ---- a packet that is got

module _ (start : List Disk) (past : List Moment) (i serial : ℕ) (q : Sending) (f : GotFacts past i serial q) where
  abbrev now : List Moment
  now = said (notes.Got serial) ∷ past

  abbrev t : Terms
  t = terms past

  abbrev r : Rests serial t (terms now)
  r = got_rests serial past

  -- a write of the initiator that is got was not judged before
  own_fresh : IsOwnWrite past i serial → t.news serial ≡ 0
  own_fresh o =
      let same : q ≡ o.packet = same_some q o.packet (sym f.sent ∙ o.sent) in
      f.fresh (ap (λ (p : Sending). p.from) same ∙ o.from_is) o.label (ap (λ (p : Sending). part_of p.bytes) same ∙ o.part)

  judged_not : (write : ℕ) → IsOwnWrite past i write → 0 < t.news write → write ≡ serial → ⊥
  judged_not write o l same =
      let e = own_fresh (subst (IsOwnWrite past i) same o) in
      let x = ap t.news same in
      omega (arith, e, l, x)

  taken_is : (write : ℕ) (owed : Owed) → IsTaking now write owed → write ≡ serial
  taken_is write owed k = by (got_owes serial past owed k.owes)
    where
      by : (t.owes ≡ Some owed) ⊎ ((owed.serial ≡ serial) × (owed.cause ≡ None)) → write ≡ serial
      by (inl e) = none_is owed (sym f.none ∙ e)
      by (inr e) = sym k.serial ∙ e.0

  pub still_accepted : (write : ℕ) → IsOwnWrite past i write → 0 < t.news write → IsAccepted start past write → IsAccepted start now write
  still_accepted write o l a =
      rests_accepted start past now i serial r (λ s. refl) write (λ n owed k. none_taken past f.none write owed k) (λ owed k. absurd (judged_not write o l (taken_is write owed k))) a

  pub calm_by : ((place : ℕ) (op : Operation) → IsHandling start now i place op → Had start past now i place op) → Calms start past now i
  calm_by handling = rests_calm start past now i serial r (λ s. refl) handling still_accepted

  -- ---- it starts an operation
  module _ (s : Starts start past serial q) (to_target : q.to ≡ 0) where
    op_is : (op : Operation) → (target_at start now).manager.operation ≡ Some op → record { source = id_for t 0 q.from; orb = offset_at s.access.payload 0; phase = phases.Orb } ≡ op
    op_is op e = same_some _ op (sym s.now ∙ e)

    spelled : access_in_bytes q.bytes ≡ Some s.access
    spelled = sym (ap (λ (found : Option Sending). access_in (packet_in found)) f.sent) ∙ s.asks_it

    is_writing : s.access.is_write ≡ true
    is_writing = grind (arith, nat_tests)

    is_block : s.access.is_block ≡ true
    is_block = grind (arith, nat_tests)

    -- of the initiator: then its write waited
    pub asked_for : (place : ℕ) (op : Operation) → IsHandling start now i place op → IsAsking past i serial place
    asked_for place op h =
        let same = op_is op h.is in
        let generation : (node : ℕ) → (terms now).generation node ≡ t.generation node = λ node. ap (λ (g : ℕ → ℕ). g node) r.generation in
        let ids : (terms now).ids ((terms now).generation 0) (suc i) ≡ t.ids (t.generation 0) (suc i) = ap (λ (x : ℕ → ℕ → ℕ). x ((terms now).generation 0) (suc i)) r.ids ∙ ap (λ g. t.ids g (suc i)) (generation 0) in
        let from_is : q.from ≡ suc i = f.apart (t.generation 0) q.from (suc i) (ap (λ (x : Operation). x.source) same ∙ h.source ∙ ids) in
        let w = writing_in q.bytes s.access spelled is_writing in
        record {
          packet = q;
          sent = f.sent;
          from_is = from_is;
          honest = f.honest from_is;
          current = f.current ∙ ap t.generation to_target ∙ sym (generation 0) ∙ h.same ∙ generation (suc i);
          access = s.access;
          spelled = spelled;
          writes = is_writing;
          block = is_block;
          small = h.small;
          names = ap (λ (x : Operation). x.orb) same ∙ h.orb;
          unjudged = f.fresh from_is w.label w.part;
        }

    no_more : (write : ℕ) → (terms now).news write ≡ 0 → write ≡ serial → ⊥
    no_more write e same =
        let m = got_more serial past q f.sent in
        let x = ap (terms now).news same in
        omega (arith, m, x, e)

    rest_unless : ((place : ℕ) (op : Operation) → IsHandling start now i place op → ⊥) → IsRest start past i → IsRest start now i
    rest_unless none k = record { silent = λ s place x. k.silent s place (rests_telling start past now i serial r (λ n. refl) s place x); over = λ place op h. absurd (none place op h) }

    pub start_free : IsFree start past i → IsFree start now i
    start_free k = record {
      none = λ s place a. k.none s place (rests_asking start past now i serial r (λ n. refl) s place a);
      rest = rest_unless (λ place op h. k.none serial place (asked_for place op h)) k.rest;
    }

    -- it is the write that is being taken
    takes : (place write : ℕ) → IsBusy start past i place write → write ≡ serial → IsRest start past i → IsServed start now i place write
    takes place write b same k =
        let w = writing_in q.bytes s.access spelled is_writing in
        let v : Transaction = between q q.from q.to w.label in
        let owes : (terms now).owes ≡ Some (record { serial = serial; cause = None }) = got_request serial past q w.label writing v f.sent w.part (request_asked q w.label writing w.part) in
        record {
          accepted = record {
            at = record { access = s.access; asks = ap (λ n. access_at (terms now) n) same ∙ ap (λ (found : ℕ → Option Sending). access_in (packet_in (found serial))) r.sent ∙ s.asks_it; at = s.at; serves = s.serves };
            given = λ packet u e g h n x. n (record { serial = serial; cause = None }) (record { owes = owes; first = refl; serial = sym same });
            taking = λ owed x. asks s.wants;
          };
          handles = λ at op h. (b.only serial at (asked_for at op h)).1;
          tells = λ n at x. absurd (k.silent n at (rests_telling start past now i serial r (λ m. refl) n at x));
          status = λ n at x other op h. absurd (k.silent n at (rests_telling start past now i serial r (λ m. refl) n at x));
          one = λ n other place at x y. absurd (k.silent n place (rests_telling start past now i serial r (λ m. refl) n place x));
        }

    pub start_busy : (place write : ℕ) → IsBusy start past i place write → IsBusy start now i place write
    start_busy place write b = record {
      own = rests_own start past now i serial r (λ n. refl) write b.own;
      only = λ n at a. b.only n at (rests_asking start past now i serial r (λ m. refl) n at a);
      waiting = λ e. rest_unless (λ at op h. no_more write e (sym (b.only serial at (asked_for at op h)).0)) (b.waiting (let x = r.news write in omega (arith, x, e)));
      judged = λ l. zero_or (t.news write) (λ e. inr (takes place write b (newly e l) (b.waiting e))) (λ m. by m (b.judged m));
    }
      where
        newly : t.news write ≡ 0 → 0 < (terms now).news write → write ≡ serial
        newly e l = same_by (nat_eq write serial) refl
          where
            same_by : (c : Bool) → nat_eq write serial ≡ c → write ≡ serial
            same_by true g = grind (arith, nat_tests)
            same_by false g = let x = r.others write g in absurd (omega (arith, x, e, l))

        not_this : 0 < t.news write → (at : ℕ) (op : Operation) → IsHandling start now i at op → ⊥
        not_this m at op h = judged_not write b.own m (sym (b.only serial at (asked_for at op h)).0)

        by : 0 < t.news write → IsRest start past i ⊎ IsServed start past i place write → IsRest start now i ⊎ IsServed start now i place write
        by m (inl k) = inl (rest_unless (not_this m) k)
        by m (inr k) = inr (calm_served (calm_by (λ at op h. absurd (not_this m at op h))) place write b.own m k)

  -- ---- all
  pub data Gets : Type 0 where
    gets_calm : Calms start past now i → Gets
    gets_more : (IsFree start past i → IsFree start now i) → ((place write : ℕ) → IsBusy start past i place write → IsBusy start now i place write) → Gets

  pub gets_target : q.to ≡ 0 → Gets
  gets_target to = by (got_as start past serial q f.sent)
    where
      by : GotAs start past serial q → Gets
      by (got_settles k) = gets_calm (calm_by (rests_handling start past now i serial r (λ s. refl) k))
      by (got_replies k) = gets_calm (calm_by (replies_handling start past now i serial r (λ s. refl) k))
      by (got_starts s) = gets_more (start_free s to) (start_busy s to)

  -- at another node
  pub gets_other : nat_eq q.to 0 ≡ false → Calms start past now i
  gets_other to = calm_by (rests_handling start past now i serial r (λ s. refl) (got_other start past serial q f.sent to))

  pub got_free : IsFree start past i → IsFree start now i
  got_free k = by (nat_eq q.to 0) refl
    where
      of : Gets → IsFree start now i
      of (gets_calm c) = calm_free c k
      of (gets_more g h) = g k

      by : (b : Bool) → nat_eq q.to 0 ≡ b → IsFree start now i
      by true e = of (gets_target (let z : q.to ≡ 0 = grind (arith, nat_tests) in z))
      by false e = calm_free (gets_other e) k

  pub got_busy : (place write : ℕ) → IsBusy start past i place write → IsBusy start now i place write
  got_busy place write k = by (nat_eq q.to 0) refl
    where
      of : Gets → IsBusy start now i place write
      of (gets_calm c) = calm_busy c place write k
      of (gets_more g h) = h place write k

      by : (b : Bool) → nat_eq q.to 0 ≡ b → IsBusy start now i place write
      by true e = of (gets_target (let z : q.to ≡ 0 = grind (arith, nat_tests) in z))
      by false e = calm_busy (gets_other e) place write k
