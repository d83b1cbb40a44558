-- A node that judges a packet and hands out nothing but one answer brings one note, that of the packet which the judgement law has.
use Rattle.std.proofs.Common.{◌≡◌, ◌∙◌, refl, sym, ap, ℕ, ◌+◌, ◌≤◌, ◌||◌, not, Bool, true, false, List, [], ◌∷◌, ◌++◌, length, Some, Ok}
use Rattle.async_packet.specs.Canon.{canon}
use Rattle.async_packet.specs.Packet.{Packet, header_in}
use Rattle.async_packet.specs.Reading.{reading}
use Rattle.label_table.specs.Bodies.{response_to}
use Rattle.packet_store.specs.declared.sent.Sent.{Sent}
use Rattle.packet_store.specs.Kept.{found_sent, is_flying}
use Rattle.packet_store.specs.Stored.{Stored}
use Rattle.bus_transactions.specs.Wire.{Node, as_sending}
use Rattle.bus_transactions.proofs.Follows.{last_is}
use Rattle.sbp_bus.specs.Generations.{GenerationsState, node_of, topology_at}
use Rattle.sbp_journal.specs.Outgoings.{OutboxState}
use Rattle.sbp_journal.specs.Run.{Moment}
use Rattle.sbp_journal.specs.Wire.{Terms, terms}
use Rattle.sbp_journal.specs.declared.note.Note.{Note}
use Rattle.sbp_journal.specs.declared.note.Note.TheVariants as notes
use Rattle.sbp_laws.specs.JudgementLaw.{answer_packet}
use Rattle.sbp_laws.specs.Packets.{id_of as term_id}
use Rattle.sbp_world.specs.Delivering.{marked}
use Rattle.sbp_world.specs.Telling.{told_all}
use Rattle.sbp_world.specs.Wire.Wires.{Stands, layers_of}
use Rattle.sbp_world.specs.Worlds.{WorldState, with_note}
use Rattle.sbp_world.proofs.Agents.Management.Holding.{is_of, ours, past_terms}
use Rattle.sbp_world.proofs.Agents.Management.Still.{hist}
use Rattle.sbp_world.proofs.Hosts.Answering.{answer}
use Rattle.sbp_world.proofs.Wire.Bus.{holds}
use Rattle.sbp_world.proofs.Wire.Found.{node_found}
use Rattle.turn_laws.proofs.Handed.{handed, notes_sent, notes_told, packet_note}
use Rattle.sbp_world.proofs.Agents.Management.Delivery.{marked_generations}

-- ---- nothing is handed out
pub none_handed : (node : ℕ) (o : OutboxState) (w : WorldState) → o.sides ≡ [] → o.packets ≡ [] → handed node 0 o w ≡ []
none_handed node o w sides_are packets_are =
    ap (λ ps. notes_told 0 o.sides w ++ notes_sent node ps (told_all 0 o.sides w)) packets_are
    ∙ ap (λ xs. notes_told 0 xs w ++ []) sides_are

-- ---- a delivery leaves the numbers of packets and the generations
pub record SameBus (w v : WorldState) : Type 0 where
  pub last : v.store.last ≡ w.store.last
  pub generations : v.generations ≡ w.generations

marked_last : (serial : ℕ) (again : Bool) (w : WorldState) → (marked serial again w).store.last ≡ w.store.last
marked_last serial again w = by (again || not (is_flying serial w.store.kept)) refl
  where
    by : (b : Bool) → (again || not (is_flying serial w.store.kept)) ≡ b → (marked serial again w).store.last ≡ w.store.last
    by true e = rw e refl
    by false e = rw e refl

pub judged_bus : (note : Note) (serial : ℕ) (again : Bool) (w u : WorldState) → SameBus w u → SameBus w (with_note note (marked serial again u))
judged_bus note serial again w u same = record { last = marked_last serial again u ∙ same.last; generations = marked_generations serial again u ∙ same.generations }

-- ---- one answer, of a world `v` behind the first note of the delivery
module _ {past : List Moment} (w : WorldState) (h : Stands past w) (serial : ℕ) (one : Sent) (found : found_sent serial w.store.kept ≡ Some one) (inside : one.to ≤ length w.initiators) (p : Packet) (read : reading one.bytes ≡ Ok p) where
  abbrev t : Terms
  t = terms (hist past w)

  counted : w.store.last ≡ t.count
  counted =
      ap (λ (st : Stored). st.last) (sym h.is.store_is) ∙ last_is (holds h.wire h.reached).follows
      ∙ ap (λ (x : Terms). x.count) (past_terms w h)

  pub generation_is : (topology_at w.generations one.to).generation ≡ t.generation one.to
  generation_is =
      sym (h.is.sights one.to inside) ∙ ((holds h.wire h.reached).nodes one.to).generation
      ∙ ap (λ (x : Terms). x.generation one.to) (past_terms w h)

  id_is : (layers_of w one.to).node ≡ term_id t one.to
  id_is =
      ap (λ (l : Node). l.node) (sym (h.is.layers_are one.to inside)) ∙ (((holds h.wire h.reached).nodes one.to).id
      ∙ ap (λ (x : Terms). term_id x one.to) (past_terms w h))

  -- it goes to the node that sent the request
  pub source_there : one.generation ≡ t.generation one.to → node_of w.generations one.to (header_in p).source ≡ Some one.from
  source_there now =
      node_found w h one.to inside (header_in p).source (record {
        node = one.from;
        there = (ours w h serial one found).from;
        id_is =
            sym (h.is.known_ids one.to one.from inside (ours w h serial one found).from)
            ∙ (ap (λ (x : Terms). x.ids (topology_at w.generations one.to).generation one.from) (past_terms w h)
            ∙ (ap (λ g. t.ids g one.from) (generation_is ∙ sym now) ∙ sym ((is_of w h serial one found).source p read)));
      })

  module _ (v : WorldState) (same : SameBus w v) (rcode own : ℕ) (given : List ℕ) (own_is : own ≡ (layers_of w one.to).node) where
    abbrev response_as : (last generation node : ℕ) → List Note
    response_as last generation node = notes.Sent (last + 1) generation one.to one.from (canon (response_to node p rcode given)) ∷ []

    pub one_noted : one.generation ≡ t.generation one.to → packet_note (node_of v.generations one.to (header_in p).source) one.to (answer own p rcode given) v ≡ answer_packet t (as_sending one) rcode given (Some p)
    one_noted now =
        ap (λ to. packet_note to one.to (answer own p rcode given) v) (ap (λ (g : GenerationsState). node_of g one.to (header_in p).source) same.generations ∙ source_there now)
        ∙ (ap (λ n. response_as n (topology_at v.generations one.to).generation own) (same.last ∙ counted)
        ∙ (ap (λ n. response_as t.count n own) (ap (λ (g : GenerationsState). (topology_at g one.to).generation) same.generations ∙ generation_is)
        ∙ ap (λ n. response_as t.count (t.generation one.to) n) (own_is ∙ id_is)))

    pub one_handed : one.generation ≡ t.generation one.to → (o : OutboxState) → o.sides ≡ [] → o.packets ≡ answer own p rcode given ∷ [] → handed one.to 0 o v ≡ answer_packet t (as_sending one) rcode given (Some p)
    unfolding told_all
    one_handed now o sides_are packets_are =
        ap (λ ps. notes_told 0 o.sides v ++ notes_sent one.to ps (told_all 0 o.sides v)) packets_are
        ∙ (ap (λ xs. notes_told 0 xs v ++ notes_sent one.to (answer own p rcode given ∷ []) (told_all 0 xs v)) sides_are ∙ ap (λ ns. ns ++ []) (one_noted now))
