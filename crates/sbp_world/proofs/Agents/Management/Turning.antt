-- The end of a turn of the target: its terms are again its state.
use Rattle.sbp_world.proofs.Words.Std.{arith, ◌≡◌, ◌∙◌, refl, sym, ap, subst, ℕ, ◌+◌, ◌<◌, false, cond, List, ◌∷◌, Option, Some, None, Result, Ok, Err}
use Rattle.sbp_world.proofs.Words.Wire.{LabelParts, SerialsCount, AreSent, transaction, Asked, NoLabel, Body, Layer, asked_at, asking_in, asking_step, peer_at, peer_place, unlabelled, PeerPlace, ask_place, Moment, said, Kind, Sending, Transaction, begun_by, between, part_of, request, Owed, Terms, asked_in, begins, kind_in, pays, puts, sends, terms, waits, OutboxState, node_of, topology_at}
use Rattle.sbp_world.proofs.Words.Target.{source_in, Disk, Purpose, NodeState, scene, request_packet, IsUnderWay, TransactionLaw}
use Rattle.sbp_world.proofs.Words.World.{handed_out, asked, posted, sent, sent_to, WorldState, Office, at_rest, Awaits, IsManagementAt}
use Rattle.bus_transactions.proofs.Facts.{asked_begun, request_asked}
use Rattle.bus_transactions.proofs.PacketParts.{same_refl}
use Rattle.sbp_journal.specs.declared.note.Note.TheVariants as notes
use Rattle.sbp_journal.specs.declared.note.Note.TheVariants as notes
use Rattle.sbp_target.specs.declared.purpose.Purpose.TheVariants as purposes
use Rattle.sbp_target.proofs.Histories.Calling.{Good}
use Rattle.sbp_world.proofs.Agents.Management.Awaiting.{HasLeft, Keeps, calm_awaits}
use Rattle.sbp_world.proofs.Agents.Management.Calm.{Calm, From}
use Rattle.sbp_world.proofs.Agents.Management.Outs.{quiet_out}
use Rattle.sbp_world.proofs.Agents.Management.Requests.{IsRequestFor, kind_for, no_lock_for}
use Rattle.sbp_world.proofs.Agents.Management.Still.{Still, hist}
use Rattle.sbp_world.proofs.Agents.Management.Told.{office_in}
use Rattle.sbp_world.proofs.Hosts.Held.{gives_held}

-- ---- a turn that leaves the management alone

abbrev pub IfSource : Option ℕ → (ℕ → Type 0) → Type 0
IfSource None P = Unit {0}
IfSource (Some source) P = P source

-- what the first note of such a turn keeps of the wire
pub record KeepsWire (t u : Terms) (layer : Layer Purpose) (source : Option ℕ) (manages : Option ℕ) : Type 0 where
  pub generation : u.generation 0 ≡ t.generation 0
  pub ids : (peer : ℕ) → u.ids (t.generation 0) peer ≡ t.ids (t.generation 0) peer
  pub held : (number peer : ℕ) (kind : Kind) (serial : ℕ) → IfSource source (λ own. IsUnderWay layer (Some purposes.Management) own number × (t.ids (t.generation 0) peer ≡ own)) → manages ≡ Some serial → t.held (transaction (t.generation 0) 0 peer number) ≡ waits kind serial → u.held (transaction (t.generation 0) 0 peer number) ≡ waits kind serial

pub wire_still : (t u : Terms) (layer : Layer Purpose) (source manages : Option ℕ) → Still t u → KeepsWire t u layer source manages
wire_still t u layer source manages s = record { generation = s.generation; ids = s.ids; held = λ number peer kind serial i m e. s.held (transaction (t.generation 0) 0 peer number) kind serial refl e }

module _ (start : List Disk) (past : List Moment) (node now : NodeState) (g : Good node) (law : TransactionLaw node) (law_now : TransactionLaw now) where
  module _ (from : From g.lives now.layer) (t u v : Terms) (manages : Option ℕ) where
    keeps_by : (source : Option ℕ) → KeepsWire t u node.layer source manages → Still u v → (generation : v.generation 0 ≡ t.generation 0) (ids : (peer : ℕ) → v.ids (t.generation 0) peer ≡ t.ids (t.generation 0) peer) → Keeps node now g law law_now from t v generation ids manages source
    keeps_by None k s generation ids = tt
    keeps_by (Some own) k s generation ids = λ h.
        ap (λ x. v.held (transaction x 0 h.peer h.number)) (sym k.generation)
        ∙ s.held (transaction (u.generation 0) 0 h.peer h.number) h.kind h.serial refl
        (ap (λ x. u.held (transaction x 0 h.peer h.number)) k.generation ∙ k.held h.number h.peer h.kind h.serial (h.under_way, h.peer_is) h.manages_is h.waits_for)

    still_awaits : now.manager ≡ node.manager → KeepsWire t u node.layer (source_in node.manager.operation) manages → Still u v → Awaits t node.layer (source_in node.manager.operation) manages → Awaits v now.layer (source_in now.manager.operation) manages
    still_awaits same k s h =
        let generation : v.generation 0 ≡ t.generation 0 = s.generation ∙ k.generation in
        let ids : (peer : ℕ) → v.ids (t.generation 0) peer ≡ t.ids (t.generation 0) peer = λ peer. ap (λ x. v.ids x peer) (sym k.generation) ∙ s.ids peer ∙ ap (λ x. u.ids x peer) k.generation ∙ k.ids peer in
        calm_awaits node now g law law_now from t v generation ids manages same (keeps_by (source_in node.manager.operation) k s generation ids) h

  pub calm_turn : (before w : WorldState) (outbox : OutboxState) → IsManagementAt start (hist past before) node → Calm g.lives node (scene now outbox) → office_in start past w ≡ at_rest (office_in start past before) → KeepsWire (terms (hist past before)) (terms (hist past w)) node.layer (source_in node.manager.operation) (office_in start past before).manages → AreSent (hist past (handed_out 0 0 outbox w)) → IsManagementAt start (hist past (handed_out 0 0 outbox w)) now
  calm_turn before w outbox at c first k a =
      let last = handed_out 0 0 outbox w in
      let out = quiet_out start past 0 0 outbox w c.quiet (ap (λ (o : Office). o.asks) first) a in
      let office : office_in start past last ≡ at_rest (office_in start past before) = out.office ∙ first in
      record {
        agrees = record {
          table = ap (λ (o : Office). o.table) office ∙ at.agrees.table ∙ sym c.logins;
          keys = ap (λ (o : Office). o.keys) office ∙ at.agrees.keys ∙ sym c.keys;
          manager = ap (λ (o : Office). o.manager) office ∙ at.agrees.manager ∙ sym c.manager;
        };
        awaits = subst (λ m. Awaits (terms (hist past last)) now.layer (source_in now.manager.operation) m) (sym (ap (λ (o : Office). o.manages) office))
            (still_awaits c.from (terms (hist past before)) (terms (hist past w)) (terms (hist past last)) (office_in start past before).manages c.manager k out.still at.awaits);
      }

-- ---- a turn of the management

-- asking leaves a layer its ID
asked_id : (k : ℕ) (layer : Layer Purpose) (r : Result LabelParts NoLabel × (PeerPlace Purpose × List ℕ)) → (asked_at k layer r).1.node ≡ layer.node
asked_id k layer (Ok label, (place, bytes)) = refl
asked_id k layer (Err none, (place, bytes)) = refl

asking_id : (k : Option ℕ) (layer : Layer Purpose) (peer : ℕ) (bytes : List ℕ) (purpose : Purpose) → (asking_in k layer peer bytes purpose).1.node ≡ layer.node
asking_id None layer peer bytes purpose = refl
asking_id (Some k) layer peer bytes purpose = asked_id k layer (ask_place (peer_at layer k) peer bytes purpose)

pub asks_id : (layer : Layer Purpose) (peer : ℕ) (body : Body) (purpose : Purpose) → (asking_step layer peer body purpose).1.node ≡ layer.node
unfolding asking_step
asks_id layer peer body purpose = asking_id (peer_place peer layer) layer peer (unlabelled layer peer body) purpose

paid : (owed : Option Owed) (given : ℕ → Option Sending) (s : ℕ) (q : Sending) (v : Terms) (u : Transaction) → (pays owed given s q v).held u ≡ v.held u
paid None given s q v u = refl
paid (Some owed) given s q v u = ap (λ h. h u) (gives_held (asked_in (given owed.serial)) _ v)

sent_waits : (s : ℕ) (q : Sending) (t : Terms) (u : Transaction) (number : ℕ) (kind : Kind) → begun_by q ≡ Some u → part_of q.bytes ≡ request number kind → (sends s q t).held u ≡ waits kind s
sent_waits s q t u number kind e p =
    paid t.owes t.sent s q (begins (begun_by q) s q (puts (begun_by q) s q t)) u
    ∙ ap (λ b. (begins b s q (puts (begun_by q) s q t)).held u) e
    ∙ ap (λ b. cond b (waits (kind_in (part_of q.bytes)) s) (t.held u)) (same_refl u)
    ∙ ap (λ x. waits (kind_in x) s) p

module _ (past : List Moment) (v : WorldState) (source to : ℕ) (body : Body) (asked_for : Asked) (is : IsRequestFor asked_for.label.number body asked_for.bytes) (there : node_of v.generations 0 source ≡ Some to) where
  abbrev pub last_world : WorldState
  last_world = sent 0 (request_packet source asked_for) v

  sent_there : last_world ≡ asked (v.store.last + 1) to 0 source (Some asked_for.label) (posted 0 to false asked_for.bytes v)
  unfolding sent
  sent_there = ap (λ o. sent_to o 0 (request_packet source asked_for) v) there

  abbrev generation_of : ℕ
  generation_of = (topology_at v.generations 0).generation

  sent_hist : hist past last_world ≡ said (notes.Sent (v.store.last + 1) generation_of 0 to asked_for.bytes) ∷ hist past v
  unfolding posted
  sent_hist = ap (hist past) sent_there

  -- its transaction waits, in the generation that the target is in
  pub has_left : AreSent (hist past last_world) → SerialsCount (hist past last_world) → ((s : ℕ) → (terms (hist past v)).count < s → (terms (hist past v)).injected s ≡ false) → (terms (hist past v)).ids ((terms (hist past v)).generation 0) to ≡ source → Still (terms (hist past v)) (terms (hist past last_world)) → (manages : Option ℕ) → manages ≡ Some (v.store.last + 1) → HasLeft (terms (hist past last_world)) source asked_for.label.number manages
  has_left sent_all_of serials clean id_is still manages m =
      let t : Terms = terms (hist past v) in
      let s = v.store.last + 1 in
      let q : Sending = record { generation = generation_of; from = 0; to = to; bytes = asked_for.bytes; injected = t.injected s } in
      let a = subst AreSent sent_hist sent_all_of in
      let counted = (subst SerialsCount sent_hist serials).0 in
      let fresh : t.injected s ≡ false = clean s (omega arith) in
      let own = a.0 fresh in
      let u = transaction (t.generation 0) 0 to asked_for.label.number in
      let begun : begun_by q ≡ Some u = asked_begun q (between q 0 to asked_for.label.number) fresh (request_asked q asked_for.label.number (kind_for body) is.part) ∙ ap (λ g. Some (transaction g 0 to asked_for.label.number)) own.now in
      let waits_there : (terms (hist past last_world)).held u ≡ waits (kind_for body) s = ap (λ ms. (terms ms).held u) sent_hist ∙ sent_waits s q t u asked_for.label.number (kind_for body) begun is.part in
      let g : (terms (hist past last_world)).generation 0 ≡ t.generation 0 = still.generation in
      record {
        peer = to;
        kind = kind_for body;
        serial = s;
        peer_is = ap (λ x. (terms (hist past last_world)).ids x to) g ∙ still.ids to ∙ id_is;
        waits_for = ap (λ x. (terms (hist past last_world)).held (transaction x 0 to asked_for.label.number)) g ∙ waits_there;
        no_lock = no_lock_for body;
        manages_is = m;
      }
