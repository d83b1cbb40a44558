-- A packet is delivered to the target: behind the turn its terms are again its state.
use Rattle.sbp_world.proofs.Words.Std.{arith, ◌≡◌, ◌≢◌, ◌∙◌, refl, sym, ap, subst, ℕ, nat_eq, Bool, true, false, List, Option, Some, None, Result, Ok, nat_tests}
use Rattle.sbp_world.proofs.Words.Wire.{PacketFault, LabelParts, Packet, header_in, reading, as_sending, transaction, ReplyKind, under_way, Sent, found_sent, Moment, Kind, Sending, Transaction, begun_by, between, is_same, is_same_kind, locking, Terms, terms, waits}
use Rattle.sbp_world.proofs.Words.Target.{source_in, Disk, Purpose, answer_in, IsUnderWay, TransactionLaw}
use Rattle.sbp_world.proofs.Words.Laws.{is_serial}
use Rattle.sbp_world.proofs.Words.World.{WorldState, Stands, Awaits, IsManagementAt}
use Rattle.bus_transactions.proofs.PacketParts.{part_read, same_is}
use Rattle.bus_transactions.proofs.Reaches.{goes_on}
use Rattle.sbp_laws.specs.Packets as laws
use Rattle.sbp_target.specs.declared.purpose.Purpose.TheVariants as purposes
use Rattle.sbp_target.proofs.Histories.Calling.{Good}
use Rattle.sbp_world.proofs.Agents.Management.Awaiting.{under_for}
use Rattle.sbp_world.proofs.Agents.Management.Hearing.{IsAnswer, same_answer}
use Rattle.sbp_world.proofs.Agents.Management.Holding.{is_of, past_terms, same_id, was_sent}
use Rattle.sbp_world.proofs.Agents.Management.Still.{StillBut, hist}
use Rattle.sbp_world.proofs.Agents.Management.Told.{office_in}
use Rattle.sbp_world.proofs.Agents.Management.Turning.{IfSource, KeepsWire}

-- ---- whether the operation waits for what a response answers

module _ {past : List Moment} (start : List Disk) (w : WorldState) (h : Stands past w) (g : Good w.target) (law : TransactionLaw w.target) (at : IsManagementAt start (hist past w) w.target) (serial : ℕ) (sent : Sent) (found : found_sent serial w.store.kept ≡ Some sent) (zero_to : sent.to ≡ 0) (p : Packet) (read : reading sent.bytes ≡ Ok p) where
  abbrev t : Terms
  t = terms (hist past w)

  abbrev q : Sending
  q = as_sending sent

  abbrev gen : ℕ
  gen = t.generation 0

  module _ (a : IsAnswer t serial q p) (label : LabelParts) (purpose : Option Purpose) (kind : ReplyKind) (life : g.lives (header_in p).source label ≡ under_way kind purpose) (number : label.number ≡ (header_in p).label) where
    in_generation : sent.generation ≡ gen
    in_generation = a.current ∙ ap t.generation zero_to

    abbrev closed : Transaction
    closed = transaction gen 0 sent.from (header_in p).label

    closed_is : between q q.to q.from (header_in p).label ≡ closed
    closed_is = ap (λ x. transaction x q.to q.from (header_in p).label) in_generation ∙ ap (λ x. transaction gen x q.from (header_in p).label) zero_to

    closed_waits : t.held closed ≡ waits a.waited a.own
    closed_waits = ap t.held (sym closed_is) ∙ a.held

    -- its source is the node that the packet came from
    source_is : (header_in p).source ≡ t.ids gen sent.from
    source_is = (is_of w h serial sent found).source p read ∙ ap (λ x. t.ids x sent.from) in_generation

    under : IsUnderWay w.target.layer purpose (header_in p).source label.number
    under = under_for w.target.layer g.lives purpose (header_in p).source label kind g.mid.known life

    -- a transaction of the operation is not closed by a response for something else
    mine_is : (peer other : ℕ) → IsUnderWay w.target.layer (Some purposes.Management) (t.ids gen peer) other → transaction gen 0 peer other ≡ closed → purpose ≡ Some purposes.Management
    mine_is peer other u e =
        let peer_is : peer ≡ sent.from = ap (λ (x : Transaction). x.responder) e in
        let number_is : other ≡ label.number = ap (λ (x : Transaction). x.label) e ∙ sym number in
        let there : IsUnderWay w.target.layer (Some purposes.Management) (header_in p).source label.number =
        subst (λ n. IsUnderWay w.target.layer (Some purposes.Management) (header_in p).source n) number_is
        (subst (λ i. IsUnderWay w.target.layer (Some purposes.Management) i other) (ap (λ x. t.ids gen x) peer_is ∙ sym source_is) u) in
        sym under.is_for ∙ there.is_for

    abbrev manages_of : Option ℕ
    manages_of = (office_in start past w).manages

    not_own : (source : Option ℕ) → source_in w.target.manager.operation ≡ source → Awaits t w.target.layer source manages_of → purpose ≢ Some purposes.Management → is_serial manages_of a.own ≡ false
    not_own None e awaits n = ap (λ m. is_serial m a.own) awaits
    not_own (Some source) e awaits n = ap (λ m. is_serial m a.own) awaits.manages_is ∙ by_test (nat_eq awaits.serial a.own) refl
      where
        by_test : (b : Bool) → nat_eq awaits.serial a.own ≡ b → b ≡ false
        by_test false f = refl
        by_test true f =
            let same : awaits.serial ≡ a.own = grind (arith, nat_tests) in
            let mine = goes_on.awaited h.wire (transaction gen 0 awaits.peer awaits.number) awaits.kind awaits.serial h.reached (ap (λ (x : Terms). x.held (transaction gen 0 awaits.peer awaits.number)) (past_terms w h) ∙ awaits.waits_for) in
            let other = goes_on.awaited h.wire closed a.waited a.own h.reached (ap (λ (x : Terms). x.held closed) (past_terms w h) ∙ closed_waits) in
            let packets : Some mine.packet ≡ Some other.packet = sym mine.sent ∙ ap (λ n. (terms h.wire.past).sent n) same ∙ other.sent in
            let packet_is : mine.packet ≡ other.packet = cc in
            let begun : Some (transaction gen 0 awaits.peer awaits.number) ≡ Some closed = sym mine.begun ∙ ap begun_by packet_is ∙ other.begun in
            let transactions : transaction gen 0 awaits.peer awaits.number ≡ closed = cc in
            absurd (n (mine_is awaits.peer awaits.number (subst (λ i. IsUnderWay w.target.layer (Some purposes.Management) i awaits.number) (sym awaits.peer_is) awaits.under_way) transactions))

    pub is_other : purpose ≢ Some purposes.Management → is_serial manages_of a.own ≡ false
    is_other n = not_own (source_in w.target.manager.operation) refl at.awaits n

    -- what else waits is kept
    pub keeps_others : purpose ≢ Some purposes.Management → (u : Terms) → StillBut (between q q.to q.from (header_in p).label) t u → KeepsWire t u w.target.layer (source_in w.target.manager.operation) manages_of
    keeps_others n u s = record {
      generation = s.generation;
      ids = s.ids;
      held = λ number peer kind serial i m e. kept (source_in w.target.manager.operation) number peer kind serial i at.awaits m e (is_same (transaction gen 0 peer number) (between q q.to q.from (header_in p).label)) refl;
    }
      where
        kept : (source : Option ℕ) (number peer : ℕ) (kind : Kind) (serial : ℕ) → IfSource source (λ own. IsUnderWay w.target.layer (Some purposes.Management) own number × (t.ids gen peer ≡ own)) → Awaits t w.target.layer source manages_of → manages_of ≡ Some serial → t.held (transaction gen 0 peer number) ≡ waits kind serial → (b : Bool) → is_same (transaction gen 0 peer number) (between q q.to q.from (header_in p).label) ≡ b → u.held (transaction gen 0 peer number) ≡ waits kind serial
        kept source number peer kind serial i awaits m e false f = s.held (transaction gen 0 peer number) kind serial f e
        kept None number peer kind serial i awaits m e true f = absurd (let no : None ≡ Some serial = sym awaits ∙ m in cc)
        kept (Some own) number peer kind serial i awaits m e true f =
            absurd (n (mine_is peer number (subst (λ x. IsUnderWay w.target.layer (Some purposes.Management) x number) (sym i.1) i.0) (same_is (transaction gen 0 peer number) (between q q.to q.from (header_in p).label) f ∙ closed_is)))

    -- a response for the operation answers its request, and is no lock
    pub record AnswersOwn : Type 0 where
      pub own : is_serial manages_of a.own ≡ true
      pub no_lock : is_same_kind a.waited locking ≡ false

    own_by : purpose ≡ Some purposes.Management → (source : Option ℕ) → source_in w.target.manager.operation ≡ source → Awaits t w.target.layer source manages_of → AnswersOwn
    own_by m None e awaits = absurd (law.none_has e (header_in p).source label.number (subst (λ x. IsUnderWay w.target.layer x (header_in p).source label.number) m under))
    own_by m (Some source) e awaits =
        let one = law.operation_has source e in
        let here = one.only (header_in p).source label.number (subst (λ x. IsUnderWay w.target.layer x (header_in p).source label.number) m under) in
        let there = one.only source awaits.number awaits.under_way in
        let number_is : awaits.number ≡ (header_in p).label = there.1 ∙ sym here.1 ∙ number in
        let peer_is : awaits.peer ≡ sent.from = same_id w h awaits.peer sent.from (awaits.peer_is ∙ sym here.0 ∙ source_is) in
        let same : transaction gen 0 awaits.peer awaits.number ≡ closed = ap (λ x. transaction gen 0 x awaits.number) peer_is ∙ ap (λ x. transaction gen 0 sent.from x) number_is in
        let both : waits awaits.kind awaits.serial ≡ waits a.waited a.own = sym awaits.waits_for ∙ ap t.held same ∙ closed_waits in
        let serial_is : awaits.serial ≡ a.own = cc in
        let kind_is : awaits.kind ≡ a.waited = cc in
        record {
          own = ap (λ x. is_serial x a.own) awaits.manages_is ∙ (let z : nat_eq awaits.serial a.own ≡ true = grind (arith, nat_tests) in z);
          no_lock = ap (λ k. is_same_kind k locking) (sym kind_is) ∙ awaits.no_lock;
        }

    pub answers_own : purpose ≡ Some purposes.Management → AnswersOwn
    answers_own m = own_by m (source_in w.target.manager.operation) refl at.awaits

    -- what the laws read in it is what the target does
    pub answer_is : is_same_kind a.waited locking ≡ false → laws.answer_in (laws.packet_at t serial) ≡ answer_in p
    answer_is n =
        ap (λ so. laws.answer_in (laws.packet_in so)) (was_sent w h serial sent found)
        ∙ ap (λ (r : Result Packet PacketFault). laws.answer_in (laws.spelled_by r)) read
        ∙ same_answer p (header_in p).label a.kind a.waited (sym (part_read sent.bytes p read) ∙ a.part) a.alike n
