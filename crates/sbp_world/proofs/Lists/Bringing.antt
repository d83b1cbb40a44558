-- Where lists are open as they should be, and each read was sent when the ORB of its slot had been appended, the response to a read that an agent has under
-- way brings what the list holds.
use Rattle.sbp_world.proofs.Words.Std.{arith, ◌≡◌, ◌∙◌, sym, ap, subst, inl, inr, ◌<◌, ◌≤◌, ℕ, suc, Bool, true, false, List, length, Some, same_Some}
use Rattle.sbp_world.proofs.Words.Wire.{LabelParts, Packet, header_in, as_sending, judging_step, of_response, Sent, Access, Moment, Sending, Terms, terms, Cmd}
use Rattle.sbp_world.proofs.Words.Target.{Which, Machine, Disk, Along, Progress, Brings, which_in, desk_at, answer_in}
use Rattle.sbp_world.proofs.Words.Initiator.{Ask, Payload}
use Rattle.sbp_world.proofs.Words.Laws.{fifo_in, command_at, linked, slot_at, agent_at, term_login, over, target_at, ends}
use Rattle.sbp_world.proofs.Words.World.{holder, WorldState, IsAccessFor, serial_of, IsResponse, orbs, AllBrought, IsCalm, IsFor, IsNamed, OpenLists, initiator_in, is_open_at, machine_at}
use Rattle.orb_layout.specs.declared.ask.Ask.TheVariants as asks
use Rattle.sbp_target.specs.declared.purpose.Purpose.TheVariants as purposes
use Rattle.sbp_world.proofs.Agents.Management.Holding.{Holding, was_sent}
use Rattle.sbp_world.proofs.Agents.Management.Still.{hist}
use Rattle.sbp_world.proofs.Lists.Brought.{Comes, number_of}
use Rattle.sbp_world.proofs.Lists.Early.{Early}
use Rattle.sbp_world.proofs.Lists.Heard.{answers, request_to, tells, waiting, waits_so}
use Rattle.sbp_world.proofs.Lists.ReadSlots.{IsIn, brought, is_in, stands}
use Rattle.sbp_world.proofs.Lists.Sites.{IsPrepared, Site, Waiting, named_prepared, waiting as agent_waiting}
use Rattle.sbp_world.proofs.Lists.Slots.{IsFilled, comes}

-- a request of an agent is of a block
pub block_of : (ask : Ask) (is_status : Bool) (fifo : ℕ) (access : Access) → IsAccessFor ask is_status fifo access → access.is_block ≡ true
block_of (asks.Read offset size) s fifo access a = ap (λ (x : Access). x.is_block) a
block_of (asks.Write offset size) s fifo access a = ap (λ (x : Access). x.is_block) a.0
block_of asks.Nothing s fifo access a = absurd a

module _ (units ready : ℕ) (has : 0 < units) (start : List Disk) {past : List Moment} {lines : ℕ} (w : WorldState) (h : Holding units ready start past lines w) (s : Site start past w) (lists : OpenLists (hist past w) w) where
  abbrev ms : List Moment
  ms = hist past w

  abbrev t : Terms
  t = terms ms

  -- the ORB that is read is the one that was prepared last in its slot
  pub read_prepared : (place : ℕ) → place < 8 → is_open_at w place ≡ true → initiator_in w place < length w.initiators → IsCalm ms (initiator_in w place) → (n : ℕ) → (holder w place).list ≡ Some n → (ended k : ℕ) → ended ≡ ends ms (initiator_in w place) n → IsIn ms (initiator_in w place) n (machine_at w place).phase ended k → IsPrepared ms (initiator_in w place) (slot_at ms (initiator_in w place) n k) n k
  read_prepared place b opened inside calm n list ended k is (inl (low, high)) =
      let o = lists.listed place b opened calm in
      let same : o.n ≡ n = same_Some o.n n (sym o.list ∙ list) in
      let from : ends ms (initiator_in w place) n ≤ k = omega arith in
      let named : (j : ℕ) → ends ms (initiator_in w place) n ≤ j → j < linked ms (initiator_in w place) n → IsNamed ms w place n j = subst (λ x. (j : ℕ) → ends ms (initiator_in w place) x ≤ j → j < linked ms (initiator_in w place) x → IsNamed ms w place x j) same o.named in
      named_prepared units ready has start w h s place n k inside (named k from high)
  read_prepared place b opened inside calm n list ended k is (inr (phase, last)) =
      named_prepared units ready has start w h s place n k inside (lists.behind place b phase calm n k list (sym is ∙ last))

  module _ (wild : ℕ → Bool) (early : Early wild start ms) (sent : Sent) (f : IsFor w sent) (packet : Packet) (label : LabelParts) (place : ℕ) (which : Which) (found : (judging_step w.target.layer sent.generation sent.bytes).0 ≡ of_response packet label (Some (purposes.Agent place))) (is_which : which_in (desk_at w.target place) (header_in packet).source label ≡ Some which) (b : place < 8) (own : wild (initiator_in w place) ≡ false) (calm : IsCalm ms (initiator_in w place)) (n : ℕ) (list : (holder w place).list ≡ Some n) (p : Progress) (is : p.ended ≡ ends ms (initiator_in w place) n) (along : Along (orbs ms (initiator_in w place) n) p (machine_at w place)) where
    abbrev i : ℕ
    i = initiator_in w place

    abbrev m : Machine
    m = machine_at w place

    abbrev request : ℕ
    request = (waiting units ready has start w h s.agents.requests s.agents.are s.agents.known s.asked f.serial sent f.found f.to packet label place found).serial

    waits : serial_of which (agent_at (over (target_at start ms)) place) ≡ Some request
    waits = waits_so units ready has start w h s.agents.requests s.agents.are s.agents.known s.asked f.serial sent f.found f.to packet label place found which is_which

    asked : Waiting units ready has start w h s place b which request
    asked = agent_waiting units ready has start w h s place b which request waits

    from_is : sent.from ≡ suc i
    from_is = same_Some sent.from (suc i) (sym (request_to units ready has start w h s.agents.requests s.agents.are s.agents.known s.asked f.serial sent f.found f.to packet label place found) ∙ asked.to)

    calm_from : t.injects sent.from ≡ false
    calm_from = ap t.injects from_is ∙ calm

    abbrev k : ℕ
    k = number_of which m.phase p.ended

    abbrev slot : ℕ
    slot = slot_at ms i n k

    responds : asked.access.is_write ≡ false → (bytes : List ℕ) → answer_in packet ≡ Payload bytes → IsResponse ms i f.serial request asked.access bytes
    responds reads bytes e = record {
      own = λ q there.
          let same : q ≡ as_sending sent = same_Some q (as_sending sent) (sym there ∙ was_sent w h.sound.stands f.serial sent f.found) in
          s.none i asked.inside calm f.serial q there (ap (λ (x : Sending). x.from) same ∙ from_is);
      answers = answers units ready has start w h s.agents.requests s.agents.are s.agents.known s.asked f.serial sent f.found f.to packet label place found calm_from;
      of_initiator = asked.to;
      asks = asked.is;
      reads = reads;
      block = block_of _ asked.status (fifo_in (term_login (over (target_at start ms)) place)) asked.access asked.asks;
      tells = tells units ready has start w h s.agents.requests s.agents.are s.agents.known s.asked f.serial sent f.found f.to packet label place found calm_from ∙ e;
    }

    came : asked.access.is_write ≡ false → 0 < asked.access.count → Comes ms i n k asked.access (answer_in packet)
    came reads some =
        let fifo = fifo_in (term_login (over (target_at start ms)) place) in
        let prepared = read_prepared place b asked.is_open asked.inside calm n list p.ended k is (is_in ms i n which p m asked.status fifo asked.access along asked.asks reads) in
        let filled : (cmd : Cmd) → command_at ms i n k ≡ Some cmd → IsFilled slot cmd = λ cmd command. s.filled i asked.inside slot n k cmd prepared.small prepared.there command in
        comes ms i n k s.serials (s.last i asked.inside) (s.bring i asked.inside) f.serial request asked.access (answer_in packet) prepared.small prepared.there
        (early place b which request i slot n k (record {
          waits = waits;
          to = asked.to;
          own = own;
          access = asked.access;
          is = asked.is;
          reads = reads;
          some = some;
          stands = stands ms i n which p m asked.status fifo asked.access along asked.asks reads some prepared.small filled;
          there = prepared.there;
        }))
        filled (responds reads)

    pub brings_there : Brings (orbs ms i n) p.ended m which (answer_in packet)
    brings_there = brought ms i n which p m asked.status (fifo_in (term_login (over (target_at start ms)) place)) asked.access (answer_in packet) along asked.asks came

  pub all_brought : (wild : ℕ → Bool) → Early wild start ms → (i : ℕ) → wild i ≡ false → IsCalm ms i → AllBrought ms w i
  all_brought wild early i own calm sent f packet label place which found is_which b who n list p is along =
      by i who own calm is along
    where
      by : (j : ℕ) → initiator_in w place ≡ j → wild j ≡ false → IsCalm ms j → p.ended ≡ ends ms j n → Along (orbs ms j n) p (machine_at w place) → Brings (orbs ms j n) p.ended (machine_at w place) which (answer_in packet)
      by j e = subst (λ x. wild x ≡ false → IsCalm ms x → p.ended ≡ ends ms x n → Along (orbs ms x n) p (machine_at w place) → Brings (orbs ms x n) p.ended (machine_at w place) which (answer_in packet)) e
          (λ o c x y. brings_there wild early sent f packet label place which found is_which b o c n list p x y)
