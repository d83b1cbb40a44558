-- What is known of the rings stays so as a packet is sent, an ORB is prepared, and a line begins.
use Rattle.std.proofs.Common.{◌≡◌, ◌∙◌, ◌⊎◌, inl, inr, refl, sym, ap, subst, ℕ, zero, suc, ◌+◌, ◌<◌, ◌≤◌, ◌==◌, Bool, true, false, cond, nat_eq, List, ◌∷◌, Some, None, arith}
use Rattle.std.proofs.lemmas.Bool.Decides.{nat_tests}
use Rattle.rbc_disk.specs.Disk.{Disk}
use Rattle.sbp_journal.specs.Run.{Moment, asked, said}
use Rattle.sbp_journal.specs.Transactions.{Sending, begun_by}
use Rattle.sbp_journal.specs.Wire.{by_bus_rule, in_flight, puts, terms}
use Rattle.sbp_journal.specs.declared.event.Event.{Event}
use Rattle.sbp_journal.specs.declared.event.Event.TheVariants as events
use Rattle.sbp_journal.specs.declared.event.Action.TheVariants as actions
use Rattle.sbp_journal.specs.declared.note.NoteBuffer.{NoteBuffer}
use Rattle.sbp_journal.specs.declared.note.Note.TheVariants as notes
use Rattle.sbp_laws.specs.Budget.{flies}
use Rattle.sbp_laws.specs.Hosts.{host_at, list_begins}
use Rattle.sbp_laws.specs.Lists.{present_list}
use Rattle.sbp_laws.specs.Targets.{over, target_at}
use Rattle.sbp_laws.specs.Terms.{appends}
use Rattle.sbp_world.proofs.Lists.AgentFolds.{over_still, so}
use Rattle.drill_laws.specs.DrillLines.{IsDrillLine}
use Rattle.drill_laws.proofs.DrillCalm.{asked_calm}
use Rattle.drill_laws.proofs.DrillAgentsFresh.{IsFreshAt, fresh_kept}
use Rattle.drill_laws.proofs.DrillPackets.{PaysWell, sends_wired}
use Rattle.drill_laws.proofs.DrillTable.{over_table}
use Rattle.drill_laws.proofs.DrillTurns.{IsCalm}
use Rattle.drill_laws.proofs.DrillWire.{Parts, parts, rule_flies, sends_keeps}
use Rattle.drill_laws.proofs.DrillServes.{IsPointed, IsReply, IsSentBy, KeepsPointers, Serves, note_fresh, note_table_at, sent_map, wireless_serves}

-- ---- a packet is sent
module _ (start : List Disk) (past : List Moment) (s generation from to : ℕ) (bytes : List ℕ) (h : Serves start past) where
  abbrev pub packet : Sending
  packet = record { generation = generation; from = from; to = to; bytes = bytes; injected = (terms past).injected s }

  abbrev sent : List Moment
  sent = said (notes.Sent s generation from to bytes) ∷ past

  sent_parts : parts (terms sent) ≡ parts (puts (begun_by packet) s packet (terms past))
  sent_parts = sends_keeps s packet (terms past)

  sent_or : (o : ℕ) (p : Sending) → (terms sent).sent o ≡ Some p → ((o ≡ s) × (packet ≡ p)) ⊎ ((terms past).sent o ≡ Some p)
  sent_or o p e = by (nat_eq o s) refl (sym (ap (λ (x : Parts). x.sent o) sent_parts) ∙ e)
    where
      by : (b : Bool) → nat_eq o s ≡ b → cond b (Some packet) ((terms past).sent o) ≡ Some p → ((o ≡ s) × (packet ≡ p)) ⊎ ((terms past).sent o ≡ Some p)
      by true f g = inl (grind (arith, nat_tests), cc g)
      by false f g = inr g

  abbrev pub HostsPointed : Type 0
  HostsPointed = (i p : ℕ) → i < 2 → (host_at sent i).pointer ≡ Some p → IsPointed sent i p

  pub sent_serves : IsCalm start sent → s ≡ (terms past).count + 1 → PaysWell (terms past).owes (terms past).sent packet → KeepsPointers past sent → ((i : ℕ) → from ≡ suc i → IsSentBy sent i s packet) → (from ≡ 0 → IsReply bytes)
      → HostsPointed → Serves start sent
  sent_serves calm next well keeps by_host by_target hosts = record {
    calm = calm;
    wired = sends_wired s packet (terms past) next well h.wired;
    rings = λ o i p e f. ringing o i p f (sent_or o p e);
    answers = λ o p e f. answering o p f (sent_or o p e);
    table = note_table_at start (notes.Sent s generation from to bytes) past tt tt h.table;
    hosts = hosts;
    fresh = λ i small a. note_fresh start i (notes.Sent s generation from to bytes) past tt tt (h.fresh i small (λ p e. flown p ((h.hosts i p small e).low) (nat_eq p s) refl (sym (ap (λ (x : Parts). flies (x.flight p)) sent_parts) ∙ a p (keeps i p e))));
  }
    where
      ringing : (o i : ℕ) (p : Sending) → p.from ≡ suc i → ((o ≡ s) × (packet ≡ p)) ⊎ ((terms past).sent o ≡ Some p) → IsSentBy sent i o p
      ringing o i p f (inl x) = subst (λ n. IsSentBy sent i n p) (sym x.0) (subst (λ y. IsSentBy sent i s y) x.1 (by_host i (ap (λ (y : Sending). y.from) x.1 ∙ f)))
      ringing o i p f (inr e) = sent_map past sent i o p keeps (h.rings o i p e f)

      answering : (o : ℕ) (p : Sending) → p.from ≡ 0 → ((o ≡ s) × (packet ≡ p)) ⊎ ((terms past).sent o ≡ Some p) → IsReply p.bytes
      answering o p f (inl x) = subst (λ (y : Sending). IsReply y.bytes) x.1 (by_target (ap (λ (y : Sending). y.from) x.1 ∙ f))
      answering o p f (inr e) = h.answers o p e f

      flown : (p : ℕ) → p ≤ (terms past).count → (b : Bool) → nat_eq p s ≡ b → flies (cond b in_flight (by_bus_rule (begun_by packet) (terms past).sent (terms past).flight p)) ≡ true → flies ((terms past).flight p) ≡ true
      flown p low true f g = absurd (let same : p ≡ s = grind (arith, nat_tests) in omega (arith, low, same, next))
      flown p low false f g = rule_flies (begun_by packet) (terms past).sent (terms past).flight p g

-- ---- an ORB is prepared
module _ (start : List Disk) (past : List Moment) (j n k : ℕ) (cdb : List ℕ) (buffer : NoteBuffer) (behind : (p : ℕ) → (host_at past j).pointer ≡ Some p → k ≡ 0 → ⊥) (h : Serves start past) where
  abbrev appended : List Moment
  appended = said (notes.Append j n k cdb buffer) ∷ past

  append_same : (i p : ℕ) → ((host_at past i).pointer ≡ Some p → (host_at appended i).pointer ≡ Some p) × ((host_at appended i).pointer ≡ Some p → (host_at past i).pointer ≡ Some p)
  append_same i p = by (j == i) refl k refl
    where
      by : (b : Bool) → (j == i) ≡ b → (l : ℕ) → k ≡ l → ((host_at past i).pointer ≡ Some p → (cond b (list_begins l (host_at past i)) (host_at past i)).pointer ≡ Some p) × ((cond b (list_begins l (host_at past i)) (host_at past i)).pointer ≡ Some p → (host_at past i).pointer ≡ Some p)
      by false f l g = ((λ e. e), (λ e. e))
      by true f (suc l) g = ((λ e. e), (λ e. e))
      by true f zero g =
          ((λ e. absurd (let same : j ≡ i = grind (arith, nat_tests) in behind p (ap (λ x. (host_at past x).pointer) same ∙ e) g)), (λ e. absurd (let no : None ≡ Some p = e in cc no)))

  append_hosts : (i p : ℕ) → i < 2 → (host_at appended i).pointer ≡ Some p → IsPointed appended i p
  append_hosts i p small e = by (nat_eq i j) refl (h.hosts i p small ((append_same i p).1 e))
    where
      by : (b : Bool) → nat_eq i j ≡ b → IsPointed past i p → IsPointed appended i p
      by true f was = record {
        low = was.low;
        list = n;
        present = ap (λ b. cond b (Some n) (present_list past i)) f;
        some = λ g. (let there : appends appended i n ≡ suc (appends past j n) = ap (λ b. cond b (cond (nat_eq n n) (suc (appends past j n)) (appends past i n)) (appends past i n)) f ∙ ap (λ b. cond b (suc (appends past j n)) (appends past i n)) (let s : nat_eq n n ≡ true = grind (arith, nat_tests) in s) in omega (arith, there, g));
      }
      by false f was = record {
        low = was.low;
        list = was.list;
        present = ap (λ b. cond b (Some n) (present_list past i)) f ∙ was.present;
        some = λ g. was.some (sym (ap (λ b. cond b (cond (nat_eq was.list n) (suc (appends past j n)) (appends past i was.list)) (appends past i was.list)) f) ∙ g);
      }

  pub append_serves : IsCalm start appended → Serves start appended
  append_serves calm = wireless_serves start (notes.Append j n k cdb buffer) past refl tt tt tt calm (λ i p. (append_same i p).0) (λ i small a p e. a p ((append_same i p).0 e)) append_hosts h

-- ---- a line
pub asked_serves : (start : List Disk) (line : ℕ) (event : Event) (past : List Moment) → IsDrillLine event → Serves start past → Serves start (asked line event ∷ past)
asked_serves start line (events.Act i (actions.Append cmd)) past is h = record {
  calm = asked_calm start line (events.Act i (actions.Append cmd)) past is h.calm;
  wired = record { held = h.wired.held; count = h.wired.count; given = h.wired.given; repeats = refl };
  rings = λ o j p e f. sent_map past (asked line (events.Act i (actions.Append cmd)) ∷ past) j o p (λ x y g. g) (h.rings o j p e f);
  answers = h.answers;
  table = over_table (target_at start past) ∙ h.table;
  hosts = λ j p small e. (let x = h.hosts j p small e in record { low = x.low; list = x.list; present = x.present; some = x.some });
  fresh = λ j small a. so (IsFreshAt j) (over (target_at start past)) (over_still (IsFreshAt j) (fresh_kept j).lasting (target_at start past) (h.fresh j small a));
}
asked_serves start line events.Settle past is h = record {
  calm = asked_calm start line events.Settle past is h.calm;
  wired = record { held = h.wired.held; count = h.wired.count; given = h.wired.given; repeats = refl };
  rings = λ o j p e f. sent_map past (asked line events.Settle ∷ past) j o p (λ x y g. g) (h.rings o j p e f);
  answers = h.answers;
  table = over_table (target_at start past) ∙ h.table;
  hosts = λ j p small e. (let x = h.hosts j p small e in record { low = x.low; list = x.list; present = x.present; some = x.some });
  fresh = λ j small a. so (IsFreshAt j) (over (target_at start past)) (over_still (IsFreshAt j) (fresh_kept j).lasting (target_at start past) (h.fresh j small a));
}
asked_serves start line _ past is h = absurd is
