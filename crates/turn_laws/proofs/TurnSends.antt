-- What the target sends in a turn of an agent, behind the response of the turn: the agent's requests, and others behind them.
use Rattle.std.proofs.Common.{suc, ◌≡◌, ◌∙◌, refl, sym, ap, subst, ℕ, true, List, [], ◌∷◌, ◌++◌, append_assoc, is_some, drop, length, Option, Some, None, Ok}
use Rattle.std.proofs.lemmas.Option.{same_Some}
use Rattle.async_packet.specs.Packet.{Packet}
use Rattle.async_packet.specs.Reading.{reading}
use Rattle.bus_transactions.specs.Judging.{facts_of, may_get}
use Rattle.bus_transactions.proofs.PacketParts.{PartOf, asks, part_case, part_read, replies}
use Rattle.label_table.specs.Judging.{row_of}
use Rattle.label_table.specs.Requests.{reply_kind}
use Rattle.login_table.specs.declared.login.Login.{Login}
use Rattle.rbc_disk.specs.Disk.{Disk}
use Rattle.sbp_bus.specs.Generations.{GenerationsState, node_of}
use Rattle.sbp_journal.specs.Outgoings.{OutboxState}
use Rattle.sbp_journal.specs.Transactions.{Sending, part_of}
use Rattle.sbp_journal.specs.Wire.{Terms}
use Rattle.sbp_journal.specs.declared.note.Note.{Note}
use Rattle.sbp_journal.specs.declared.outbox.Outgoing.{Outgoing}
use Rattle.sbp_laws.specs.Agents.{Request}
use Rattle.sbp_laws.specs.SentAnswers.{answer_due}
use Rattle.sbp_laws.specs.SentRequests.{behind_answer}
use Rattle.sbp_laws.specs.JudgementLaw.{is_response}
use Rattle.sbp_laws.specs.Turns.{Turn, sends_of}
use Rattle.sbp_world.specs.Hosts.Handing.{AreOthers}
use Rattle.sbp_world.specs.Sending.{sent, sent_all}
use Rattle.sbp_world.specs.Telling.{told_all}
use Rattle.sbp_world.specs.Worlds.{WorldState}
use Rattle.sbp_world.proofs.Common.{untrue}
use Rattle.sbp_world.proofs.Lists.StatusOffice.{sides_generations}
use Rattle.turn_laws.proofs.Handed.{handed, notes_sent, notes_told, packet_note}
use Rattle.turn_laws.proofs.PushSends.{Pushes}
use Rattle.turn_laws.proofs.SentOwn.{AreFor, AskFor}
use Rattle.turn_laws.proofs.SentAnswers.{others_unsent, sends_behind, told_unsent}
use Rattle.turn_laws.proofs.TurnWrites.{sent_generations}
use Rattle.sbp_world.proofs.Agents.CrewFirsts.{current_by}

-- these stand first, and go to one node
pub record SendsOwn (start : List Disk) (t : Turn) (peer node : ℕ) (out : List Outgoing) : Type 0 where
  pub more : List Outgoing
  pub world : WorldState
  pub there : node_of world.generations 0 peer ≡ Some node
  pub is : behind_answer start t ≡ notes_sent 0 (out ++ more) world

-- ---- the notes of packets are packets
note_sent : (to : Option ℕ) (from : ℕ) (packet : Outgoing) (w : WorldState) (rest : List Note) → sends_of (packet_note to from packet w ++ rest) ≡ packet_note to from packet w ++ sends_of rest
note_sent None from packet w rest = refl
note_sent (Some to) from packet w rest = refl

all_sent : (packets : List Outgoing) (w : WorldState) → sends_of (notes_sent 0 packets w) ≡ notes_sent 0 packets w
all_sent [] w = refl
all_sent (packet ∷ later) w =
    let v = sent 0 packet w in
    let to = node_of w.generations 0 packet.to in
    note_sent to 0 packet w (notes_sent 0 later v) ∙ ap (λ ns. packet_note to 0 packet w ++ ns) (all_sent later v)

handed_sends : (o : OutboxState) (w : WorldState) → AreOthers o.sides → sends_of (handed 0 0 o w) ≡ notes_sent 0 o.packets (told_all 0 o.sides w)
handed_sends o w others =
    let v = told_all 0 o.sides w in
    sends_behind (notes_told 0 o.sides w) (notes_sent 0 o.packets v) (told_unsent 0 o.sides w (others_unsent o.sides others)) ∙ all_sent o.packets v

-- packets that ask for these bodies, each of the node to which it goes
abbrev pub AreSentFor : GenerationsState → List Outgoing → List Request → Type 0
AreSentFor g [] [] = Unit {0}
AreSentFor g (packet ∷ later) (want ∷ requests) = ((node_of g 0 packet.to ≡ Some want.to) × AskFor want.is_untold want.body packet.bytes) × AreSentFor g later requests
AreSentFor g packets requests = ⊥

one_for : (to : Option ℕ) (packet : Outgoing) (w : WorldState) (want : Request) (later : List Note) (requests : List Request) → to ≡ Some want.to → AskFor want.is_untold want.body packet.bytes → AreFor 0 later requests → AreFor 0 (packet_note to 0 packet w ++ later) (want ∷ requests)
one_for None packet w want later requests e a h = absurd (let no : None ≡ Some want.to = e in cc)
one_for (Some to) packet w want later requests e a h = ((refl, (same_Some to want.to e, a)), h)

pub sent_for : (g : GenerationsState) (packets : List Outgoing) (requests : List Request) (w : WorldState) → w.generations ≡ g → AreSentFor g packets requests → AreFor 0 (notes_sent 0 packets w) requests
sent_for g [] [] w same h = tt
sent_for g [] (want ∷ requests) w same h = absurd h
sent_for g (packet ∷ later) [] w same h = absurd h
sent_for g (packet ∷ later) (want ∷ requests) w same h =
    let v = sent 0 packet w in
    one_for (node_of w.generations 0 packet.to) packet w want (notes_sent 0 later v) requests (ap (λ (x : GenerationsState). node_of x 0 packet.to) same ∙ h.0.0) h.0.1 (sent_for g later requests v (sent_generations packet w ∙ same) h.1)

pub sent_length : (g : GenerationsState) (packets : List Outgoing) (wants : List Request) → AreSentFor g packets wants → length packets ≡ length wants
sent_length g [] [] h = refl
sent_length g [] (want ∷ wants) h = absurd h
sent_length g (packet ∷ packets) [] h = absurd h
sent_length g (packet ∷ packets) (want ∷ wants) h = ap suc (sent_length g packets wants h.1)

pub both_sent : (g : GenerationsState) (a b : List Outgoing) (x y : List Request) → AreSentFor g a x → AreSentFor g b y → AreSentFor g (a ++ b) (x ++ y)
both_sent g [] b [] y h k = k
both_sent g [] b (want ∷ x) y h k = absurd h
both_sent g (packet ∷ a) b [] y h k = absurd h
both_sent g (packet ∷ a) b (want ∷ x) y h k = (h.0, both_sent g a b x y h.1 k)

-- the notes of two, and the bus between them
pub notes_both : (a b : List Outgoing) (w : WorldState) → notes_sent 0 (a ++ b) w ≡ notes_sent 0 a w ++ notes_sent 0 b (sent_all 0 a w)
unfolding sent_all
notes_both [] b w = refl
notes_both (packet ∷ a) b w =
    let v = sent 0 packet w in
    let note = packet_note (node_of w.generations 0 packet.to) 0 packet w in
    ap (λ ns. note ++ ns) (notes_both a b v) ∙ sym (append_assoc note (notes_sent 0 a v) (notes_sent 0 b (sent_all 0 a v)))

-- these packets are all that stands there
pub record SendsAll (start : List Disk) (t : Turn) (g : GenerationsState) (packets : List Outgoing) : Type 0 where
  pub world : WorldState
  pub bus : world.generations ≡ g
  pub is : behind_answer start t ≡ notes_sent 0 packets world

module _ (start : List Disk) (t : Turn) (g : GenerationsState) (o : OutboxState) (w : WorldState) (same : w.generations ≡ g) (others : AreOthers o.sides) (rest_is : t.rest ≡ handed 0 0 o w) where
  abbrev v : WorldState
  v = told_all 0 o.sides w

  sends_are : sends_of t.rest ≡ notes_sent 0 o.packets v
  sends_are = ap sends_of rest_is ∙ handed_sends o w others

  bus : v.generations ≡ g
  bus = sides_generations 0 o.sides w ∙ same

  -- no response is due
  pub all_alone : answer_due start t t.start ≡ [] → SendsAll start t g o.packets
  all_alone none = record { world = v; bus = bus; is = ap (λ (ns : List Note). drop (length ns) (sends_of t.rest)) none ∙ sends_are }

  -- or one, to a node that is there
  pub all_second : length (answer_due start t t.start) ≡ 1 → (first : Outgoing) (to : ℕ) → node_of g 0 first.to ≡ Some to → (packets : List Outgoing) → o.packets ≡ first ∷ packets → SendsAll start t g packets
  all_second one first to known packets packets_are =
      let next = sent 0 first v in
      let later = notes_sent 0 packets next in
      let goes : node_of v.generations 0 first.to ≡ Some to = ap (λ (x : GenerationsState). node_of x 0 first.to) bus ∙ known in
      record {
        world = next;
        bus = sent_generations first v ∙ bus;
        is =
            ap (λ n. drop n (sends_of t.rest)) one
            ∙ (ap (drop 1) (sends_are ∙ ap (λ ps. notes_sent 0 ps v) packets_are) ∙ ap (λ x. drop 1 (packet_note x 0 first v ++ later)) goes);
      }

module _ (start : List Disk) (t : Turn) (peer node : ℕ) (g : GenerationsState) (there : node_of g 0 peer ≡ Some node) (o : OutboxState) (w : WorldState) (same : w.generations ≡ g) (others : AreOthers o.sides) (rest_is : t.rest ≡ handed 0 0 o w) (places : List (Option Login)) (unit place : ℕ) (out : List Outgoing) where
  own_of : (more : List Outgoing) → SendsAll start t g (out ++ more) → SendsOwn start t peer node out
  own_of more x = record { more = more; world = x.world; there = ap (λ (y : GenerationsState). node_of y 0 peer) x.bus ∙ there; is = x.is }

  pub sends_alone : answer_due start t t.start ≡ [] → Pushes places unit place out o.packets → SendsOwn start t peer node out
  sends_alone none p = own_of p.more (subst (SendsAll start t g) p.is (all_alone start t g o w same others rest_is none))

  pub sends_second : length (answer_due start t t.start) ≡ 1 → (first : Outgoing) (to : ℕ) → node_of g 0 first.to ≡ Some to → Pushes places unit place (first ∷ out) o.packets → SendsOwn start t peer node out
  sends_second one first to known p = own_of p.more (all_second start t g o w same others rest_is one first to known (out ++ p.more) p.is)

-- ---- a packet that is got is of its node's generation
pub is_current : (t : Terms) (q : Sending) → may_get (row_of (facts_of t q)) ≡ true → (facts_of t q).is_current ≡ true
is_current t q h = let f = facts_of t q in current_by f.is_current f.is_for_node f.is_response f.is_awaited f.is_repeated h

-- and a reply is a response
pub response_is : (bytes : List ℕ) (p : Packet) → reading bytes ≡ Ok p → is_some (reply_kind p) ≡ true → is_response (part_of bytes) ≡ true
response_is bytes p read some = by (part_case p)
  where
    by : PartOf p → is_response (part_of bytes) ≡ true
    by (replies l k part is) = ap is_response (part_read bytes p read ∙ part)
    by (asks l k part none) = untrue (sym (ap (λ o. is_some o) none) ∙ some)
