-- A packet is sent: where it is a status block of the target for an operation of an initiator, none waited; and else what is in hand of its management stays.
use Rattle.sbp_world.proofs.Words.Std.{arith, ◌≡◌, ◌∙◌, ◌⊎◌, inl, inr, refl, sym, ap, subst, ℕ, zero, suc, ◌+◌, ◌≤◌, ◌<◌, ◌&&◌, not, nat_eq, Bool, true, false, cond, List, [], ◌∷◌, Option, Some, None, nat_tests}
use Rattle.sbp_world.proofs.Words.Wire.{rcode_of, SerialsCount, is_stated, Moment, asked, said, Sending, Transaction, asked_by, begun_by, is_same, Owed, Terms, asked_in, terms, Cause}
use Rattle.sbp_world.proofs.Words.Target.{Operation, Disk}
use Rattle.sbp_world.proofs.Words.Laws.{access_in, packet_in, is_nothing, is_serial, target_at}
use Rattle.sbp_world.proofs.Words.World.{is_its_packet, managed_for, operation_if, IsAccepted, IsAsking, IsAtAgent, IsBeginning, IsBusy, IsFree, IsHandling, IsOwnWrite, IsRest, IsServed, IsTaking, IsTelling, asks, failed}
use Rattle.bus_transactions.proofs.Facts.{asked_is, begun_asked}
use Rattle.bus_transactions.proofs.PacketParts.{same_is, same_refl}
use Rattle.mgmt_agent.specs.declared.operation.Phase.TheVariants as phases
use Rattle.sbp_journal.specs.declared.cause.Cause.TheVariants as causes
use Rattle.sbp_journal.specs.declared.note.Note.TheVariants as notes
use Rattle.sbp_world.proofs.Hosts.Remaining.{remains}
use Rattle.sbp_world.proofs.Hosts.SentMoments.{count_now, sent_below}
use Rattle.sbp_world.proofs.Lists.ManageOffices.{Sent, office_at, sent_office}
use Rattle.sbp_world.proofs.Lists.ManageSends.{Sends, by_given, given_behind, sent_given, sent_is, sent_other, sent_terms}
use Rattle.sbp_world.proofs.Lists.ManageStays.{IsOver}
use Rattle.sbp_world.proofs.Lists.ManageTerms.{none_is, same_some}
use Rattle.sbp_world.proofs.Common.{untrue}

-- a request that was refused with conflict_error found an operation under way, which asked for nothing then
pub record IsRefusing (start : List Disk) (past : List Moment) : Type 0 where
  pub quiet : is_nothing (target_at start past).manager_asks ≡ true
  pub op : Operation
  pub there : (target_at start past).manager.operation ≡ Some op

-- what is known of a packet that is sent, and of an initiator that injected none
pub record SentFacts (start : List Disk) (past : List Moment) (i serial generation from : ℕ) (bytes : List ℕ) : Type 0 where
  pub serials : SerialsCount past
  pub next : serial ≡ (terms past).count + 1
  pub own : from ≡ 0 → generation ≡ (terms past).generation 0
  -- the request that it answers is the present one of its transaction
  pub present : (owed : Owed) (v : Transaction) → (terms past).owes ≡ Some owed → asked_in ((terms past).sent owed.serial) ≡ Some v → v.requester ≡ suc i → v.responder ≡ 0 → owed.serial ≡ (terms past).current v
  pub stated : (owed : Owed) (v : Transaction) → (terms past).owes ≡ Some owed → asked_in ((terms past).sent owed.serial) ≡ Some v → is_stated owed.cause ((terms past).given v) (rcode_of bytes) ≡ true
  pub refused : (owed : Owed) → (terms past).owes ≡ Some owed → owed.cause ≡ None → IsAtAgent past owed.serial → (asking : Sending) → (terms past).sent owed.serial ≡ Some asking → asking.to ≡ 0 → rcode_of bytes ≡ 4 → IsRefusing start past

-- ---- what a packet was sent for

-- a packet that was sent for an operation was sent
pub for_one : (start : List Disk) (serial generation from to : ℕ) (bytes : List ℕ) (past : List Moment) (s : ℕ) (op : Operation) → managed_for start (said (notes.Sent serial generation from to bytes) ∷ past) s ≡ Some op → (managed_for start past s ≡ Some op) ⊎ (s ≡ serial)
for_one start serial generation (suc j) to bytes past s op e = inl e
for_one start serial generation zero to bytes past s op e = by (nat_eq s serial) refl e
  where
    found : Option Operation
    found = operation_if (is_its_packet (target_at start past) (target_at start (said (notes.Sent serial generation zero to bytes) ∷ past)) serial) (target_at start past).manager.operation

    by : (b : Bool) → nat_eq s serial ≡ b → cond b found (managed_for start past s) ≡ Some op → (managed_for start past s ≡ Some op) ⊎ (s ≡ serial)
    by true f g = inr (grind (arith, nat_tests))
    by false f g = inl g

below_more : (past : List Moment) (serial generation from to : ℕ) (bytes : List ℕ) (s : ℕ) → SerialsCount (said (notes.Sent serial generation from to bytes) ∷ past) → (s ≤ (terms past).count) ⊎ (s ≡ serial) → s ≤ (terms (said (notes.Sent serial generation from to bytes) ∷ past)).count
below_more past serial generation from to bytes s c (inl f) = let m = (remains (said (notes.Sent serial generation from to bytes) ∷ []) past c).count in omega (arith, f, m)
below_more past serial generation from to bytes s c (inr f) = let x = count_now past serial generation from to bytes in let y = c.0 in omega (arith, f, x, y)

or_below : (start : List Disk) (past : List Moment) (serial s : ℕ) (op : Operation) → (managed_for start past s ≡ Some op → s ≤ (terms past).count) → (managed_for start past s ≡ Some op) ⊎ (s ≡ serial) → (s ≤ (terms past).count) ⊎ (s ≡ serial)
or_below start past serial s op f (inl e) = inl (f e)
or_below start past serial s op f (inr e) = inr e

pub for_below : (start : List Disk) (ms : List Moment) (s : ℕ) (op : Operation) → SerialsCount ms → managed_for start ms s ≡ Some op → s ≤ (terms ms).count
for_below start [] s op c e = none_is op e
for_below start (asked line event ∷ past) s op c e =
    let l = for_below start past s op c e in let m = (remains (asked line event ∷ []) past c).count in omega (arith, l, m)
for_below start (said (notes.Sent serial generation from to bytes) ∷ past) s op c e =
    below_more past serial generation from to bytes s c (or_below start past serial s op (λ f. for_below start past s op c.1 f) (for_one start serial generation from to bytes past s op e))
for_below start (said note ∷ past) s op c e =
    let l = for_below start past s op c e in let m = (remains (said note ∷ []) past c).count in omega (arith, l, m)

-- it is the operation that asked for something then, which asks for nothing more
pub record IsItsPacket (start : List Disk) (past now : List Moment) (op : Operation) : Type 0 where
  pub is : (target_at start past).manager.operation ≡ Some op
  pub wanted : is_nothing (target_at start past).manager_asks ≡ false
  pub quiet : is_nothing (target_at start now).manager_asks ≡ true

its_by : (a b c : Bool) (operation : Option Operation) (op : Operation) → operation_if (not a && (b && c)) operation ≡ Some op → (a ≡ false) × ((b ≡ true) × (operation ≡ Some op))
its_by true b c operation op e = none_is op e
its_by false true true operation op e = (refl, (refl, e))
its_by false true false operation op e = none_is op e
its_by false false c operation op e = none_is op e

module _ (start : List Disk) (past : List Moment) (i serial generation from to : ℕ) (bytes : List ℕ) (f : SentFacts start past i serial generation from bytes) where
  abbrev now : List Moment
  now = said (notes.Sent serial generation from to bytes) ∷ past

  abbrev t : Terms
  t = terms past

  abbrev u : Terms
  u = terms now

  abbrev q : Sending
  q = record { generation = generation; from = from; to = to; bytes = bytes; injected = t.injected serial }

  abbrev S : Sends serial q t
  S = sent_terms serial q t

  -- an earlier packet is another one
  old : (s : ℕ) (p : Sending) → t.sent s ≡ Some p → nat_eq s serial ≡ false
  old s p e = let l = sent_below past s p f.serials e in let n = f.next in grind (arith, nat_tests)

  sent_on : (s : ℕ) (p : Sending) → t.sent s ≡ Some p → u.sent s ≡ Some p
  sent_on s p e = ap (λ (g : ℕ → Option Sending). g s) S.sent ∙ sent_other serial s q t.sent (old s p e) ∙ e

  -- an old one is there before
  sent_back : (s : ℕ) (p : Sending) → nat_eq s serial ≡ false → u.sent s ≡ Some p → t.sent s ≡ Some p
  sent_back s p d e = sym (sent_other serial s q t.sent d) ∙ sym (ap (λ (g : ℕ → Option Sending). g s) S.sent) ∙ e

  new_packet : (p : Sending) → u.sent serial ≡ Some p → q ≡ p
  new_packet p e = sent_is serial q p t.sent (sym (ap (λ (g : ℕ → Option Sending). g serial) S.sent) ∙ e)

  generation_is : (node : ℕ) → u.generation node ≡ t.generation node
  generation_is node = ap (λ (g : ℕ → ℕ). g node) S.generation

  ids_are : (g node : ℕ) → u.ids g node ≡ t.ids g node
  ids_are g node = ap (λ (x : ℕ → ℕ → ℕ). x g node) S.ids

  news_is : (s : ℕ) → u.news s ≡ t.news s
  news_is s = ap (λ (g : ℕ → ℕ). g s) S.news

  office : Sent (office_at start past) (office_at start now)
  office = sent_office start serial generation from to bytes past

  pub sent_own : (write : ℕ) → IsOwnWrite past i write → IsOwnWrite now i write
  sent_own write o = record {
    packet = o.packet;
    sent = sent_on write o.packet o.sent;
    from_is = o.from_is;
    to_is = o.to_is;
    honest = o.honest;
    current = o.current ∙ sym (generation_is (suc i));
    label = o.label;
    part = o.part;
  }

  -- ---- a write that waits is an old one, or this packet
  pub sent_asking : (s place : ℕ) → IsAsking now i s place → IsAsking past i s place ⊎ (s ≡ serial)
  sent_asking s place a = by (nat_eq s serial) refl
    where
      by : (b : Bool) → nat_eq s serial ≡ b → IsAsking past i s place ⊎ (s ≡ serial)
      by true e = inr (grind (arith, nat_tests))
      by false e = inl (record {
        packet = a.packet;
        sent = sent_back s a.packet e a.sent;
        from_is = a.from_is;
        honest = a.honest;
        current = a.current ∙ generation_is (suc i);
        access = a.access;
        spelled = a.spelled;
        writes = a.writes;
        block = a.block;
        small = a.small;
        names = a.names;
        unjudged = sym (news_is s) ∙ a.unjudged;
      })

  -- ---- what the target has
  pub sent_handling : (place : ℕ) (op : Operation) → IsHandling start now i place op → IsHandling start past i place op
  sent_handling place op h = record {
    same = sym (generation_is 0) ∙ h.same ∙ generation_is (suc i);
    is = ap (λ m. m.operation) (sym office.manager_is) ∙ h.is;
    source = h.source ∙ ids_are (u.generation 0) (suc i) ∙ ap (λ g. t.ids g (suc i)) (generation_is 0);
    small = h.small;
    orb = h.orb;
  }

  over_on : (op : Operation) → IsOver start past op → IsOver start now op
  over_on op o = (o.0, office.quiet o.1)

  -- ---- a status block that waits is an old one, or this packet
  pub record IsNew (place s : ℕ) : Type 0 where
    pub is : s ≡ serial
    pub op : Operation
    pub handled : IsHandling start past i place op
    pub status : op.phase ≡ phases.Status
    pub wanted : is_nothing (target_at start past).manager_asks ≡ false
    pub quiet : is_nothing (target_at start now).manager_asks ≡ true

  its_packet : (node : ℕ) → from ≡ node → (op : Operation) → managed_for start now serial ≡ Some op → (from ≡ 0) × IsItsPacket start past now op
  its_packet (suc j) e op g =
      let h : managed_for start past serial ≡ Some op = subst (λ n. managed_for start (said (notes.Sent serial generation n to bytes) ∷ past) serial ≡ Some op) e g in
      let l = for_below start past serial op f.serials h in
      let n = f.next in
      absurd (omega (arith, l, n))
  its_packet zero e op g =
      let h = subst (λ n. managed_for start (said (notes.Sent serial generation n to bytes) ∷ past) serial ≡ Some op) e g in
      (e, subst (λ n. IsItsPacket start past (said (notes.Sent serial generation n to bytes) ∷ past) op) (sym e) (its h))
    where
      there : List Moment
      there = said (notes.Sent serial generation zero to bytes) ∷ past

      its : managed_for start there serial ≡ Some op → IsItsPacket start past there op
      its h = by (nat_eq serial serial) (let x : nat_eq serial serial ≡ true = grind (arith, nat_tests) in x) h
        where
          by : (b : Bool) → b ≡ true → cond b (operation_if (is_its_packet (target_at start past) (target_at start there) serial) (target_at start past).manager.operation) (managed_for start past serial) ≡ Some op → IsItsPacket start past there op
          by true x y =
              let z = its_by (is_nothing (target_at start past).manager_asks) (is_nothing (target_at start there).manager_asks) (is_serial (target_at start there).manages serial) (target_at start past).manager.operation op y in
              record { is = z.1.1; wanted = z.0; quiet = z.1.0 }
          by false x y = untrue x

  pub sent_telling : (s place : ℕ) → IsTelling start now i s place → IsTelling start past i s place ⊎ IsNew place s
  sent_telling s place a = by (nat_eq s serial) refl
    where
      old_for : nat_eq s serial ≡ false → managed_for start now s ≡ Some a.op → managed_for start past s ≡ Some a.op
      old_for d g = pick (for_one start serial generation from to bytes past s a.op g)
        where
          pick : (managed_for start past s ≡ Some a.op) ⊎ (s ≡ serial) → managed_for start past s ≡ Some a.op
          pick (inl h) = h
          pick (inr h) = let x : nat_eq s serial ≡ true = grind (arith, nat_tests) in untrue (sym d ∙ x)

      by : (b : Bool) → nat_eq s serial ≡ b → IsTelling start past i s place ⊎ IsNew place s
      by true e =
          let is : s ≡ serial = grind (arith, nat_tests) in
          let its = its_packet from refl a.op (subst (λ n. managed_for start now n ≡ Some a.op) is a.is_for) in
          let p = new_packet a.packet (subst (λ n. u.sent n ≡ Some a.packet) is a.sent) in
          let g : a.packet.generation ≡ generation = ap (λ (x : Sending). x.generation) (sym p) in
          let target_generation : generation ≡ t.generation 0 = f.own its.0 in
          inr (record {
            is = is;
            op = a.op;
            handled = record {
              same = sym target_generation ∙ sym g ∙ a.current ∙ generation_is (suc i);
              is = its.1.is;
              source = a.source ∙ ids_are a.packet.generation (suc i) ∙ ap (λ x. t.ids x (suc i)) (g ∙ target_generation);
              small = a.small;
              orb = a.orb;
            };
            status = a.status;
            wanted = its.1.wanted;
            quiet = its.1.quiet;
          })
      by false e = inl (record {
        packet = a.packet;
        sent = sent_back s a.packet e a.sent;
        current = a.current ∙ generation_is (suc i);
        op = a.op;
        is_for = old_for e a.is_for;
        status = a.status;
        source = a.source ∙ ids_are a.packet.generation (suc i);
        small = a.small;
        orb = a.orb;
        unjudged = sym (news_is s) ∙ a.unjudged;
      })

  no_new : (place s : ℕ) (op : Operation) → IsNew place s → IsOver start past op → ⊥
  no_new place s op n o = untrue (sym n.wanted ∙ o.1)

  pub sent_rest : IsRest start past i → IsRest start now i
  sent_rest k = record {
    silent = λ s place a. silent s place (sent_telling s place a);
    over = λ place op h. over_on op (k.over place op (sent_handling place op h));
  }
    where
      silent : (s place : ℕ) → IsTelling start past i s place ⊎ IsNew place s → ⊥
      silent s place (inl a) = k.silent s place a
      silent s place (inr n) = no_new place s n.op n (k.over place n.op n.handled)

  -- ---- a write that was accepted

  at_agent : (write : ℕ) (p : Sending) → t.sent write ≡ Some p → IsAtAgent past write → IsAtAgent now write
  at_agent write p e a = record {
    access = a.access;
    asks = ap (λ (found : Option Sending). access_in (packet_in found)) (sent_on write p e ∙ sym e) ∙ a.asks;
    at = a.at;
    serves = a.serves;
  }

  begun_refused : IsBeginning start past → IsRefusing start past → ⊥
  begun_refused (asks e) k = untrue (sym e ∙ k.quiet)
  begun_refused (failed e) k = none_is k.op (sym e ∙ k.there)

  four : (cause : Cause) (given : ℕ) → (cause ≡ causes.Again → ⊥) → is_stated (Some cause) given 4 ≡ true → ⊥
  four causes.Slot given n e = let no : false ≡ true = e in untrue no
  four causes.Grammar given n e = let no : false ≡ true = e in untrue no
  four causes.Source given n e = let no : false ≡ true = e in untrue no
  four causes.Login given n e = let no : false ≡ true = e in untrue no
  four causes.Again given n e = n refl
  four causes.Generation given n e = let no : false ≡ true = e in untrue no
  four causes.Label given n e = let no : false ≡ true = e in untrue no

  module _ (write : ℕ) (o : IsOwnWrite past i write) (a : IsAccepted start past write) (v : Transaction) (begun : begun_by o.packet ≡ Some v) (current : t.current v ≡ write) (requester : v.requester ≡ suc i) (responder : v.responder ≡ 0) where
    asked_v : asked_by o.packet ≡ Some v
    asked_v = (begun_asked o.packet v begun).1

    untaken : ((owed : Owed) → IsTaking past write owed → ⊥) → t.given v ≡ 4 → ⊥
    untaken n e = a.given o.packet v o.sent begun current n e

    by_cause : (owed : Owed) → t.owes ≡ Some owed → owed.serial ≡ write → (cause : Option Cause) → owed.cause ≡ cause → is_stated cause (t.given v) (rcode_of bytes) ≡ true → rcode_of bytes ≡ 4 → ⊥
    by_cause owed owes is None e st r =
        begun_refused (a.taking owed (record { owes = owes; first = e; serial = is })) (f.refused owed owes e (subst (IsAtAgent past) (sym is) a.at) o.packet (ap t.sent is ∙ o.sent) o.to_is r)
    by_cause owed owes is (Some causes.Again) e st r =
        let same : rcode_of bytes ≡ t.given v = grind (arith, nat_tests) in
        untaken (λ other k. let x : Some owed ≡ Some other = sym owes ∙ k.owes in let y = same_some owed other x in none_is causes.Again (sym (ap (λ (z : Owed). z.cause) y ∙ k.first) ∙ e)) (sym same ∙ r)
    by_cause owed owes is (Some causes.Slot) e st r = four causes.Slot (t.given v) (λ x. let no : causes.Slot ≡ causes.Again = x in cc) (subst (λ n. is_stated (Some causes.Slot) (t.given v) n ≡ true) r st)
    by_cause owed owes is (Some causes.Grammar) e st r = four causes.Grammar (t.given v) (λ x. let no : causes.Grammar ≡ causes.Again = x in cc) (subst (λ n. is_stated (Some causes.Grammar) (t.given v) n ≡ true) r st)
    by_cause owed owes is (Some causes.Source) e st r = four causes.Source (t.given v) (λ x. let no : causes.Source ≡ causes.Again = x in cc) (subst (λ n. is_stated (Some causes.Source) (t.given v) n ≡ true) r st)
    by_cause owed owes is (Some causes.Login) e st r = four causes.Login (t.given v) (λ x. let no : causes.Login ≡ causes.Again = x in cc) (subst (λ n. is_stated (Some causes.Login) (t.given v) n ≡ true) r st)
    by_cause owed owes is (Some causes.Generation) e st r = four causes.Generation (t.given v) (λ x. let no : causes.Generation ≡ causes.Again = x in cc) (subst (λ n. is_stated (Some causes.Generation) (t.given v) n ≡ true) r st)
    by_cause owed owes is (Some causes.Label) e st r = four causes.Label (t.given v) (λ x. let no : causes.Label ≡ causes.Again = x in cc) (subst (λ n. is_stated (Some causes.Label) (t.given v) n ≡ true) r st)

    -- a request with another transaction is another one
    other_owed : (owed : Owed) → t.owes ≡ Some owed → (found : Option Transaction) → asked_in (t.sent owed.serial) ≡ found → (found ≡ Some v → ⊥) → (other : Owed) → IsTaking past write other → ⊥
    other_owed owed owes found e n other k =
        let same : owed ≡ other = same_some owed other (sym owes ∙ k.owes) in
        let is : owed.serial ≡ write = ap (λ (z : Owed). z.serial) same ∙ k.serial in
        n (sym e ∙ ap (λ x. asked_in (t.sent x)) is ∙ ap asked_in o.sent ∙ asked_v)

    by_found : (owed : Owed) → t.owes ≡ Some owed → (found : Option Transaction) → asked_in (t.sent owed.serial) ≡ found → u.given v ≡ given_behind (Some owed) t.sent (rcode_of bytes) (t.given v) v → u.given v ≡ 4 → ⊥
    by_found owed owes None e g r =
        untaken (other_owed owed owes None e (λ x. none_is v x)) (sym (g ∙ ap (λ x. by_given x (rcode_of bytes) (t.given v) v) e) ∙ r)
    by_found owed owes (Some w) e g r = by (is_same v w) refl
      where
        value : u.given v ≡ cond (is_same v w) (rcode_of bytes) (t.given v)
        value = g ∙ ap (λ x. by_given x (rcode_of bytes) (t.given v) v) e

        by : (b : Bool) → is_same v w ≡ b → ⊥
        by true d =
            let same : v ≡ w = same_is v w d in
            let asks_v : asked_in (t.sent owed.serial) ≡ Some v = e ∙ ap (λ (x : Transaction). Some x) (sym same) in
            let is : owed.serial ≡ write = f.present owed v owes asks_v requester responder ∙ current in
            by_cause owed owes is owed.cause refl (f.stated owed v owes asks_v) (sym (value ∙ ap (λ b. cond b (rcode_of bytes) (t.given v)) d) ∙ r)
        by false d =
            untaken (other_owed owed owes (Some w) e (λ x. let y : w ≡ v = same_some w v x in untrue (sym d ∙ ap (λ z. is_same v z) y ∙ same_refl v)))
            (sym (value ∙ ap (λ b. cond b (rcode_of bytes) (t.given v)) d) ∙ r)

    by_owes : (owes : Option Owed) → t.owes ≡ owes → u.given v ≡ given_behind owes t.sent (rcode_of bytes) (t.given v) v → u.given v ≡ 4 → ⊥
    by_owes None e g r = untaken (λ owed k. none_is owed (sym e ∙ k.owes)) (sym g ∙ r)
    by_owes (Some owed) e g r = by_found owed e (asked_in (t.sent owed.serial)) refl g r

    pub not_four : u.given v ≡ 4 → ⊥
    not_four r = by_owes t.owes refl (sent_given serial q t v) r

  pub sent_accepted : (write : ℕ) → (o : IsOwnWrite past i write) → ((v : Transaction) → begun_by o.packet ≡ Some v → (v.requester ≡ suc i) × (v.responder ≡ 0)) → IsAccepted start past write → IsAccepted start now write
  sent_accepted write o ends a = record {
    at = at_agent write o.packet o.sent a.at;
    given = λ packet v e g c n r.
        let p : packet ≡ o.packet = same_some packet o.packet (sym e ∙ sent_on write o.packet o.sent) in
        let begun : begun_by o.packet ≡ Some v = ap begun_by (sym p) ∙ g in
        let k = ends v begun in
        not_four write o a v begun (now_current v c (S.current v)) k.0 k.1 r;
    taking = λ owed k. none_is owed (sym S.owes ∙ k.owes);
  }
    where
      now_current : (v : Transaction) → u.current v ≡ write → (u.current v ≡ t.current v) ⊎ ((begun_by q ≡ Some v) × (u.current v ≡ serial)) → t.current v ≡ write
      now_current v c (inl e) = sym e ∙ c
      now_current v c (inr e) =
          let same : write ≡ serial = sym c ∙ e.1 in
          let x : nat_eq write serial ≡ true = grind (arith, nat_tests) in
          untrue (sym (old write o.packet o.sent) ∙ x)

  -- ---- where this packet is no write that waits

  -- the transaction of a write of the initiator is with the target
  ends : (write : ℕ) (o : IsOwnWrite past i write) (v : Transaction) → begun_by o.packet ≡ Some v → (v.requester ≡ suc i) × (v.responder ≡ 0)
  ends write o v e =
      let k = asked_is o.packet v (begun_asked o.packet v e).1 in
      (ap (λ (x : Transaction). x.requester) k.is ∙ o.from_is, ap (λ (x : Transaction). x.responder) k.is ∙ o.to_is)

  pub sent_served : (place write : ℕ) → IsOwnWrite past i write → IsServed start past i place write → IsServed start now i place write
  sent_served place write o k = record {
    accepted = sent_accepted write o (ends write o) k.accepted;
    handles = λ at op h. k.handles at op (sent_handling at op h);
    tells = λ s at a. tells s at (sent_telling s at a);
    status = λ s at a other op h. status s at (sent_telling s at a) other op (sent_handling other op h);
    one = λ s other at there a b. one s other at there (sent_telling s at a) (sent_telling other there b);
  }
    where
      tells : (s at : ℕ) → IsTelling start past i s at ⊎ IsNew at s → at ≡ place
      tells s at (inl a) = k.tells s at a
      tells s at (inr n) = k.handles at n.op n.handled

      status : (s at : ℕ) → IsTelling start past i s at ⊎ IsNew at s → (other : ℕ) (op : Operation) → IsHandling start past i other op → IsOver start now op
      status s at (inl a) other op h = over_on op (k.status s at a other op h)
      status s at (inr n) other op h =
          let same : op ≡ n.op = same_some op n.op (sym h.is ∙ n.handled.is) in
          (ap (λ (x : Operation). x.phase) same ∙ n.status, n.quiet)

      one : (s other at there : ℕ) → IsTelling start past i s at ⊎ IsNew at s → IsTelling start past i other there ⊎ IsNew there other → s ≡ other
      one s other at there (inl a) (inl b) = k.one s other at there a b
      one s other at there (inr n) (inr m) = n.is ∙ sym m.is
      one s other at there (inl a) (inr m) = absurd (no_new there other m.op m (k.status s at a there m.op m.handled))
      one s other at there (inr n) (inl b) = absurd (no_new at s n.op n (k.status other there b at n.op n.handled))

  module _ (quiet : (place : ℕ) → IsAsking now i serial place → ⊥) where
    old_asking : (s place : ℕ) → IsAsking now i s place → IsAsking past i s place
    old_asking s place a = by (sent_asking s place a)
      where
        by : IsAsking past i s place ⊎ (s ≡ serial) → IsAsking past i s place
        by (inl b) = b
        by (inr e) = absurd (quiet place (subst (λ n. IsAsking now i n place) e a))

    pub sent_free : IsFree start past i → IsFree start now i
    sent_free k = record { none = λ s place a. k.none s place (old_asking s place a); rest = sent_rest k.rest }

    pub sent_busy : (place write : ℕ) → IsBusy start past i place write → IsBusy start now i place write
    sent_busy place write b = record {
      own = sent_own write b.own;
      only = λ s at a. b.only s at (old_asking s at a);
      waiting = λ e. sent_rest (b.waiting (sym (news_is write) ∙ e));
      judged = λ l. by (b.judged (subst (λ n. 0 < n) (news_is write) l));
    }
      where
        by : IsRest start past i ⊎ IsServed start past i place write → IsRest start now i ⊎ IsServed start now i place write
        by (inl k) = inl (sent_rest k)
        by (inr k) = inr (sent_served place write b.own k)

  -- ---- the write of an operation that begins
  pub begun_busy : (place : ℕ) → IsOwnWrite now i serial → ((at : ℕ) → IsAsking now i serial at → at ≡ place) → (terms now).news serial ≡ 0 → IsFree start past i → IsBusy start now i place serial
  begun_busy place own at_place fresh k = record {
    own = own;
    only = λ s at a. only s at a (sent_asking s at a);
    waiting = λ e. sent_rest k.rest;
    judged = λ l. absurd (omega (arith, l, fresh));
  }
    where
      only : (s at : ℕ) → IsAsking now i s at → IsAsking past i s at ⊎ (s ≡ serial) → (s ≡ serial) × (at ≡ place)
      only s at a (inl b) = absurd (k.none s at b)
      only s at a (inr e) = (e, at_place at (subst (λ n. IsAsking now i n at) e a))
