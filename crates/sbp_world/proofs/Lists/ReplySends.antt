-- A response of the target that waits as its packets leave did so before, or the operation that waits for the answer sent it.
use Rattle.sbp_world.proofs.Words.Std.{arith, ◌≡◌, ◌∙◌, refl, sym, ap, subst, ◌⊎◌, inl, inr, ℕ, zero, suc, ◌&&◌, not, nat_eq, Bool, true, false, cond, List, [], ◌∷◌, ◌++◌, map, Option, Some, nat_tests}
use Rattle.sbp_world.proofs.Words.Wire.{Moment, said, Sending, terms, Note}
use Rattle.sbp_world.proofs.Words.Target.{Operation, Disk}
use Rattle.sbp_world.proofs.Words.Initiator.{Ask}
use Rattle.sbp_world.proofs.Words.Laws.{is_nothing, is_serial, target_at}
use Rattle.sbp_world.proofs.Words.World.{Office, is_its_packet, managed_for, operation_if, AllOf, IsReplying, is_responding}
use Rattle.mgmt_agent.specs.Machine.{Machine}
use Rattle.orb_layout.specs.declared.ask.Ask.TheVariants as asks
use Rattle.sbp_journal.specs.declared.note.Note.TheVariants as notes
use Rattle.sbp_world.proofs.Lists.LiveTold.{is_own_packet}
use Rattle.sbp_world.proofs.Lists.ManageMoments.{Hands, SendFacts}
use Rattle.sbp_world.proofs.Lists.ManageOffices.{sent_office}
use Rattle.sbp_world.proofs.Lists.ManageSends.{Sends, sent_is, sent_other, sent_terms}
use Rattle.sbp_world.proofs.Lists.ManageSent.{SentFacts, for_one}
use Rattle.sbp_world.proofs.Lists.ManageTerms.{none_is}
use Rattle.sbp_world.proofs.Lists.ReplyOffices.{quiet_sent}
use Rattle.sbp_world.proofs.Common.{untrue, serial_is}

-- the operation of the target responds, and waits for the answer to this response
pub record NewReply (start : List Disk) (now : List Moment) (i s : ℕ) : Type 0 where
  pub op : Operation
  pub is : (target_at start now).manager.operation ≡ Some op
  pub responds : is_responding op.phase ≡ true
  pub source : op.source ≡ (terms now).ids ((terms now).generation 0) (suc i)
  pub same : (terms now).generation 0 ≡ (terms now).generation (suc i)
  pub manages : (target_at start now).manages ≡ Some s
  pub quiet : (target_at start now).manager_asks ≡ asks.Nothing

no_ask : (ask : Ask) → is_nothing ask ≡ true → ask ≡ asks.Nothing
no_ask asks.Nothing e = refl
no_ask (asks.Read offset size) e = untrue e
no_ask (asks.Write offset size) e = untrue e

its_by : (a b c : Bool) (operation : Option Operation) (op : Operation) → operation_if (not a && (b && c)) operation ≡ Some op → (b ≡ true) × ((c ≡ true) × (operation ≡ Some op))
its_by true b c operation op e = none_is op e
its_by false true true operation op e = (refl, (refl, e))
its_by false true false operation op e = none_is op e
its_by false false c operation op e = none_is op e

module _ (start : List Disk) (past : List Moment) (i number generation to : ℕ) (bytes : List ℕ) (f : SentFacts start past i number generation 0 bytes) where
  abbrev now : List Moment
  now = said (notes.Sent number generation 0 to bytes) ∷ past

  abbrev q : Sending
  q = record { generation = generation; from = 0; to = to; bytes = bytes; injected = (terms past).injected number }

  abbrev S : Sends number q (terms past)
  S = sent_terms number q (terms past)

  generation_is : (node : ℕ) → (terms now).generation node ≡ (terms past).generation node
  generation_is node = ap (λ (g : ℕ → ℕ). g node) S.generation

  ids_are : (g node : ℕ) → (terms now).ids g node ≡ (terms past).ids g node
  ids_are g node = ap (λ (x : ℕ → ℕ → ℕ). x g node) S.ids

  manager_is : (target_at start now).manager ≡ (target_at start past).manager
  manager_is = (sent_office start number generation 0 to bytes past).manager_is

  -- an earlier one
  old_for : (s : ℕ) (op : Operation) → nat_eq s number ≡ false → managed_for start now s ≡ Some op → managed_for start past s ≡ Some op
  old_for s op d g = pick (for_one start number generation 0 to bytes past s op g)
    where
      pick : (managed_for start past s ≡ Some op) ⊎ (s ≡ number) → managed_for start past s ≡ Some op
      pick (inl h) = h
      pick (inr h) = let x : nat_eq s number ≡ true = grind (arith, nat_tests) in untrue (sym d ∙ x)

  old_reply : (s : ℕ) → nat_eq s number ≡ false → IsReplying start now i s → IsReplying start past i s
  old_reply s d a = record {
    packet = a.packet;
    sent = sym (sent_other number s q (terms past).sent d) ∙ sym (ap (λ (g : ℕ → Option Sending). g s) S.sent) ∙ a.sent;
    current = a.current ∙ generation_is (suc i);
    op = a.op;
    is_for = old_for s a.op d a.is_for;
    responds = a.responds;
    source = a.source ∙ ids_are a.packet.generation (suc i);
    label = a.label;
    part = a.part;
    unjudged = sym (ap (λ (g : ℕ → ℕ). g s) S.news) ∙ a.unjudged;
  }

  -- this one
  its : (op : Operation) → managed_for start now number ≡ Some op → (is_nothing (target_at start now).manager_asks ≡ true) × ((is_serial (target_at start now).manages number ≡ true) × ((target_at start past).manager.operation ≡ Some op))
  its op h = by (nat_eq number number) (let x : nat_eq number number ≡ true = grind (arith, nat_tests) in x) h
    where
      by : (b : Bool) → b ≡ true → cond b (operation_if (is_its_packet (target_at start past) (target_at start now) number) (target_at start past).manager.operation) (managed_for start past number) ≡ Some op → (is_nothing (target_at start now).manager_asks ≡ true) × ((is_serial (target_at start now).manages number ≡ true) × ((target_at start past).manager.operation ≡ Some op))
      by true x y = its_by (is_nothing (target_at start past).manager_asks) (is_nothing (target_at start now).manager_asks) (is_serial (target_at start now).manages number) (target_at start past).manager.operation op y
      by false x y = untrue x

  this_reply : (a : IsReplying start now i number) → NewReply start now i number
  this_reply a =
      let z = its a.op a.is_for in
      let p : q ≡ a.packet = sent_is number q a.packet (terms past).sent (sym (ap (λ (g : ℕ → Option Sending). g number) S.sent) ∙ a.sent) in
      let of_target : a.packet.generation ≡ (terms now).generation 0 = ap (λ (x : Sending). x.generation) (sym p) ∙ f.own refl ∙ sym (generation_is 0) in
      record {
        op = a.op;
        is = ap (λ (m : Machine). m.operation) manager_is ∙ z.1.1;
        responds = a.responds;
        source = a.source ∙ ap (λ g. (terms now).ids g (suc i)) of_target;
        same = sym of_target ∙ a.current;
        manages = serial_is (target_at start now).manages number z.1.0;
        quiet = no_ask (target_at start now).manager_asks z.0;
      }

  -- a new one stays so
  new_on : (s : ℕ) → NewReply start past i s → NewReply start now i s
  new_on s n =
      let x = quiet_sent start number generation to bytes past n.quiet in
      record {
        op = n.op;
        is = ap (λ (o : Office). o.manager.operation) x ∙ n.is;
        responds = n.responds;
        source = n.source ∙ sym (ap (λ g. (terms past).ids g (suc i)) (generation_is 0)) ∙ sym (ids_are ((terms now).generation 0) (suc i));
        same = generation_is 0 ∙ n.same ∙ sym (generation_is (suc i));
        manages = ap (λ (o : Office). o.manages) x ∙ n.manages;
        quiet = ap (λ (o : Office). o.asks) x ∙ n.quiet;
      }

  pub packet_reply : (base : List Moment) → ((s : ℕ) → IsReplying start past i s → IsReplying start base i s ⊎ NewReply start past i s) → (s : ℕ) → IsReplying start now i s → IsReplying start base i s ⊎ NewReply start now i s
  packet_reply base before s a = by (nat_eq s number) refl
    where
      on : IsReplying start base i s ⊎ NewReply start past i s → IsReplying start base i s ⊎ NewReply start now i s
      on (inl o) = inl o
      on (inr n) = inr (new_on s n)

      by : (b : Bool) → nat_eq s number ≡ b → IsReplying start base i s ⊎ NewReply start now i s
      by true e =
          let is : s ≡ number = grind (arith, nat_tests) in
          inr (subst (λ n. NewReply start now i n) (sym is) (this_reply (subst (λ n. IsReplying start now i n) is a)))
      by false e = on (before s (old_reply s e a))

module _ (start : List Disk) (i : ℕ) where
  pub sends_reply : (ns : List Note) (base : List Moment) → AllOf is_own_packet ns → Hands start i (map said ns ++ base) → (s : ℕ) → IsReplying start (map said ns ++ base) i s → IsReplying start base i s ⊎ NewReply start (map said ns ++ base) i s
  sends_reply [] base p h s a = inl a
  sends_reply (notes.Sent number generation zero to bytes ∷ ns) base p h s a =
      let f : SendFacts start (map said ns ++ base) i number generation 0 to bytes = h.0 in
      packet_reply start (map said ns ++ base) i number generation to bytes f.facts base (sends_reply ns base p.1 h.1) s a
  sends_reply (notes.Sent number generation (suc j) to bytes ∷ ns) base p h s a = untrue p.0
  sends_reply (note ∷ ns) base p h s a = untrue p.0
