-- What is carried of the target's unsolicited statuses through a sight and a second at the target, through each call of an initiator, and through each other line.
use Rattle.std.proofs.Common.{arith, ◌≡◌, ◌∙◌, refl, sym, ap, subst, inl, inr, ◌⊎◌, ℕ, suc, ◌+◌, ◌<◌, ◌≤◌, ◌==◌, nat_eq, nat_lt, Bool, true, false, cond, List, [], ◌∷◌, ◌++◌, length, map, Option, Some, None}
use Rattle.std.proofs.Math.Nat.{suc-ne-zero}
use Rattle.std.proofs.lemmas.Bool.Decides.{nat_tests}
use Rattle.async_packet.specs.Labels.{LabelParts}
use Rattle.bus_transactions.specs.Packets.{SerialsCount}
use Rattle.bus_transactions.specs.Wire.{as_sending, transaction}
use Rattle.bus_transactions.proofs.Facts.{asked_is, begun_asked, injected_begun}
use Rattle.bus_transactions.proofs.Reaches.{goes_on}
use Rattle.label_table.specs.History.{disowned, forgotten, is_same}
use Rattle.label_table.specs.Layer.{Layer, disowning_step, seen_in_generation, seeing_step}
use Rattle.label_table.specs.declared.reply.ReplyKind.{ReplyKind}
use Rattle.packet_store.specs.Kept.{found_sent}
use Rattle.packet_store.specs.declared.sent.Sent.{Sent}
use Rattle.rbc_disk.specs.Disk.{Disk}
use Rattle.sbp_base.specs.Update.{upd}
use Rattle.sbp_bus.specs.Generations.{GenerationsState, id_of}
use Rattle.sbp_bus.specs.Packets.{judged_note}
use Rattle.sbp_bus.specs.Requests.{find}
use Rattle.sbp_bus.specs.declared.requests.Request.{Request}
use Rattle.sbp_journal.specs.Outgoings.{OutboxState, empty_outbox}
use Rattle.sbp_journal.specs.Run.{Moment, asked, said}
use Rattle.sbp_journal.specs.Transactions.{Kind, Sending, Transaction, begun_by}
use Rattle.sbp_journal.specs.Wire.{Terms, begins, noted, opened, puts, terms, times_out, waits}
use Rattle.sbp_journal.specs.declared.cause.Judged.{Judged}
use Rattle.sbp_journal.specs.declared.cause.Judged.TheVariants as judgements
use Rattle.sbp_journal.specs.declared.event.Event.{Event}
use Rattle.sbp_journal.specs.declared.event.Event.TheVariants as events
use Rattle.sbp_journal.specs.declared.note.Note.{Note}
use Rattle.sbp_journal.specs.declared.note.Note.TheVariants as notes
use Rattle.sbp_journal.specs.declared.outbox.Outgoing.{Outgoing}
use Rattle.sbp_laws.specs.MediaLaw.{is_pending}
use Rattle.sbp_laws.specs.Packets.{begun_in}
use Rattle.sbp_target.specs.Calls.{alone, sees, ticks}
use Rattle.sbp_target.specs.Nodes.{NodeState}
use Rattle.sbp_target.specs.Nodes as target
use Rattle.sbp_target.specs.Receiving.{reset_by, seen}
use Rattle.sbp_target.specs.declared.purpose.Purpose.{Purpose}
use Rattle.sbp_target.specs.declared.purpose.Purpose.TheVariants as purposes
use Rattle.sbp_target.proofs.Histories.Calling.{Good}
use Rattle.sbp_target.proofs.Histories.Primitives.{Known, disowns_known, forgotten_at, live_on, seeing_known}
use Rattle.sbp_target.proofs.Histories.Pass.{sees_by}
use Rattle.sbp_target.proofs.Histories.Seats.{Lives}
use Rattle.sbp_world.specs.Handing.{handed_out}
use Rattle.sbp_world.specs.Hosts.Handing.{AreOthers}
use Rattle.sbp_world.specs.Wire.Wires.{Stands}
use Rattle.sbp_world.specs.Nodes.{told_seen, with_seen}
use Rattle.sbp_world.specs.Settling.{settled_from}
use Rattle.sbp_world.specs.Worlds.{Scene, WorldState, with_note, with_target}
use Rattle.sbp_world.proofs.Agents.Management.Holding.{good_of, past_terms, was_sent}
use Rattle.sbp_world.proofs.Agents.Management.Still.{hist}
use Rattle.sbp_world.proofs.Agents.Management.Lapse.{from_asked}
use Rattle.sbp_world.proofs.Agents.Management.Sights.{Ages, ages}
use Rattle.sbp_world.proofs.Agents.Purposes.{g, law}
use Rattle.sbp_world.proofs.Common.{itself, none_is, untrue}
use Rattle.sbp_world.proofs.Formed.{AreOwn}
use Rattle.sbp_world.proofs.Lists.SentOwned.{AllOwned}
use Rattle.sbp_world.proofs.Wire.Agrees.{sends_agrees}
use Rattle.sbp_world.proofs.Wire.Bus.{holds, sent_ids}
use Rattle.sbp_world.proofs.Wire.Starts.{laws_of}
use Rattle.turn_laws.proofs.Calls.{Brings, Stays, calls, injects, loses, refuses, refuses_action, resets, sets_key}
use Rattle.turn_laws.proofs.Handed.{onto}
use Rattle.turn_laws.proofs.LaterNotes.{AllLeave, owns_handed}
use Rattle.turn_laws.proofs.LaterTerms.{Grows, Own, Pushes, grown}
use Rattle.turn_laws.proofs.PendingCalls.{Fifos, all_owned, sight_owned, target_kept}
use Rattle.turn_laws.proofs.PendingEnds.{forgets}
use Rattle.turn_laws.proofs.PendingFirsts.{late_injected, Beside, none_pending, LeavesOwn, got_injected, own_gets, own_lapses, leaves_same, tied_beside}
use Rattle.turn_laws.proofs.PendingKept.{AreTied, Id, Pending, Rows, Ties, rows_same, ties_of}
use Rattle.turn_laws.proofs.StatusOnce.{Distinct}
use Rattle.sbp_target.specs.Units.{is_pending as is_listed}
use Rattle.turn_laws.proofs.PendingTerms.{Same, ignored_same, pending_sent, sends_terms, upd_other}
use Rattle.turn_laws.proofs.PendingTurns.{Kept, beside_here, from_target, beside_kept, line_beside, line_clean, line_pushes, own_kept, note_clean, note_pushes, tied_here}
use Rattle.turn_laws.proofs.Places.{Place}
use Rattle.turn_laws.proofs.PushSerials.{Has, counted}
use Rattle.turn_laws.proofs.SerialsStay.{IsNoSent}
use Rattle.turn_laws.proofs.StatusLates.{seconds}
use Rattle.turn_laws.proofs.StatusRows.{Row, life_of}
use Rattle.turn_laws.proofs.StatusStays.{IsStatus, left_if}
use Rattle.sbp_world.proofs.Hosts.Held.{begun_from}

-- ---- an initiator has no such packets to tell of
pub all_leave : (from : ℕ) (g : GenerationsState) (packets : List Outgoing) → AllLeave (λ to bytes. Unit {0}) from g packets
all_leave from g [] = tt
all_leave from g (packet ∷ later) = ((λ to e. tt), all_leave from g later)

-- a layer that has forgotten all
record Forgot (layer : Layer Purpose) (packets : List Outgoing) : Type 0 where
  lives : Lives
  known : Known layer lives
  none : (p : ℕ) (l : LabelParts) (kind : ReplyKind) → IsStatus lives p l kind → ⊥

forgot_more : (layer : Layer Purpose) (packets : List Outgoing) (peer : ℕ) (label : LabelParts) → Forgot layer packets → Forgot (disowning_step layer peer label) packets
forgot_more layer packets peer label h = record {
  lives = live_on (disowned peer label) h.lives;
  known = disowns_known layer h.lives peer label h.known;
  none = λ p l kind e. h.none p l kind (left_if (is_same peer label p l) kind (h.lives p l) e);
}

no_row : (layer : Layer Purpose) (packets : List Outgoing) → Forgot layer packets → (p number : ℕ) → Row layer p number → ⊥
no_row layer packets f p number r = let l = life_of layer f.lives p number f.known r in f.none p l.label l.kind l.life

module _ (units ready : ℕ) (has : 0 < units) (start : List Disk) (past : List Moment) (s : Scene) (here : Place units ready start past s) (k : Kept start (hist past s.world) s) where
  abbrev w : WorldState
  w = s.world

  abbrev ms : List Moment
  ms = hist past w

  abbrev t : Terms
  t = terms ms

  abbrev node : NodeState
  node = w.target

  abbrev nodes : ℕ
  nodes = length w.initiators

  good : Good node
  good = good_of units ready here.holds.calls node has here.holds.made

  -- ---- a call of an initiator
  module _ (i weight : ℕ) (note : Note) (plain_note : IsNoSent note) (leaves : LeavesOwn t (noted note t)) (same : (noted note t).injected ≡ t.injected) (outbox : OutboxState) (v : WorldState) (fresh_is : v.fresh ≡ note ∷ w.fresh) (target_is : v.target ≡ node) (count : length v.initiators ≡ nodes) (own : AreOwn outbox.sides) where
    abbrev Then : Scene
    Then = record { world = handed_out (suc i) weight outbox v; media = s.media }

    pub own_turn : Place units ready start past Then → Kept start (hist past Then.world) Then
    own_turn there =
        own_kept units ready has start past s here k (note ∷ w.fresh) past (suc i) weight (suc-ne-zero i) outbox v fresh_is there
        (owns_handed (λ to bytes. Unit {0}) (suc i) weight outbox v own (all_leave (suc i) v.generations outbox.packets))
        (note_clean units ready has start past s here note plain_note same) (beside_here units ready has start past s here (noted note t) leaves) (note_pushes start note ms plain_note) target_is count

  -- a packet comes to it
  module _ (serial : ℕ) (one : Sent) (found : found_sent serial w.store.kept ≡ Some one) (i : ℕ) (to_is : one.to ≡ suc i) where
    was : t.sent serial ≡ Some (as_sending one)
    was = was_sent w here.holds.sound.stands serial one found

    pub heard_leaves : (judged : Judged) → LeavesOwn t (noted (judged_note serial judged) t)
    heard_leaves judgements.Got = own_gets serial (as_sending one) t i to_is was
    heard_leaves (judgements.Ignored cause) = leaves_same t (noted (notes.Ignored serial cause) t) (ignored_same (t.sent serial) cause serial t)

    pub heard_injected : (judged : Judged) → (noted (judged_note serial judged) t).injected ≡ t.injected
    heard_injected judgements.Got = got_injected serial (as_sending one) t was
    heard_injected (judgements.Ignored cause) = (ignored_same (t.sent serial) cause serial t).1.1.1.1.0

  -- one of its transactions times out
  module _ (serial : ℕ) (request : Request) (i : ℕ) (found : find w.requests serial ≡ Some request) (node_is : request.node ≡ suc i) where
    requester : (so : Option Sending) → t.sent serial ≡ so → (u : Transaction) → begun_in so ≡ Some u → u.requester ≡ suc i
    requester None e u f = none_is u f
    requester (Some q) e u f =
        begun_from q u f ∙ (from_asked start w here.holds.sound.stands (g units ready has start w here.holds) (law units ready has start w here.holds) here.holds.at serial request found q e ∙ node_is)

    leaves_by : (o : Option Transaction) → begun_in (t.sent serial) ≡ o → LeavesOwn t (noted (notes.TimedOut serial) t)
    leaves_by None e = subst (λ o. LeavesOwn t (times_out o t)) (sym e) (record { generation = refl; ids = λ n. refl; sent = refl; held = λ v z. refl; current = λ v z. refl })
    leaves_by (Some u) e = own_lapses serial t u e i (requester (t.sent serial) refl u e)

    pub late_leaves : LeavesOwn t (noted (notes.TimedOut serial) t)
    late_leaves = leaves_by (begun_in (t.sent serial)) refl

    pub late_same : (noted (notes.TimedOut serial) t).injected ≡ t.injected
    late_same = late_injected (begun_in (t.sent serial)) t

  -- it sees a generation
  pub sight_leaves : (i generation : ℕ) → LeavesOwn t (noted (notes.Seen (suc i) generation) t)
  sight_leaves i generation = record { generation = upd_other t.generation (suc i) 0 generation (let other : nat_eq (suc i) 0 ≡ false = grind (arith, nat_tests) in other); ids = λ n. refl; sent = refl; held = λ v z. refl; current = λ v z. refl }

  -- ---- a second at the target
  module _ (x : target.Scene) (x_is : x ≡ alone ticks node) (others : AreOthers x.outbox.sides) where
    abbrev u : WorldState
    u = with_target x.node (with_note notes.Tick w)

    abbrev Ticked : Scene
    Ticked = record { world = handed_out 0 0 x.outbox u; media = s.media }

    pub tick_kept : Place units ready start past Ticked → Kept start (hist past Ticked.world) Ticked
    tick_kept there =
        let b = beside_here units ready has start past s here (noted notes.Tick t) (record { generation = refl; ids = λ n. refl; sent = refl; held = λ v z. refl; current = λ v z. refl }) in
        let same = seconds node good in
        let rows : Rows node.layer (alone ticks node).node.layer node.pending (alone ticks node).node.pending =
        subst (λ l. Rows node.layer l node.pending (alone ticks node).node.pending) (sym same.1) (subst (λ p. Rows node.layer node.layer node.pending p) (sym same.0) (rows_same node.layer node.pending)) in
        target_kept units ready has start past s here notes.Tick x.outbox u s.media refl there others
        (subst (λ (y : target.Scene). AllOwned (Fifos ms nodes w.generations) y.node.layer y.outbox.packets) (sym x_is) (all_owned units ready has start past s here w.generations refl ticks))
        (note_clean units ready has start past s here notes.Tick tt refl) refl node.layer node.pending
        (beside_kept nodes start ms (said notes.Tick ∷ ms) node.layer node.pending (tied_here units ready has start past s here) k b (note_pushes start notes.Tick ms tt))
        (ties_of nodes (noted notes.Tick t) node.layer (tied_beside nodes t (noted notes.Tick t) (Pushes start ms) node.layer b (tied_here units ready has start past s here)))
        (subst (λ (y : target.Scene). Rows node.layer y.node.layer node.pending y.node.pending) (sym x_is) rows)

  -- ---- a sight at the target
  module _ (x : target.Scene) (x_is : x ≡ alone (sees w.generations.latest.generation (id_of w.generations.latest 0)) node) (others : AreOthers x.outbox.sides) where
    abbrev now : ℕ
    now = w.generations.latest.generation

    abbrev own_id : ℕ
    own_id = id_of w.generations.latest 0

    abbrev note : Note
    note = notes.Seen 0 now

    abbrev z : Terms
    z = noted note t

    abbrev v : WorldState
    v = with_target x.node (with_seen 0 (told_seen 0 w))

    abbrev Sighted : Scene
    Sighted = record { world = handed_out 0 0 x.outbox v; media = s.media }

    aged : Ages units ready has start w here.holds
    aged = ages units ready has start w here.holds

    abbrev stands : Stands past w
    stands = here.holds.sound.stands

    -- no packet of the target is of a later generation than it is in
    early : (r : ℕ) (q : Sending) → t.sent r ≡ Some q → q.from ≡ 0 → q.generation ≤ t.generation 0
    early r q e f =
        let past_of = ((holds stands.wire stands.reached).facts.honest r q (ap (λ (y : Terms). y.sent r) (past_terms w stands) ∙ e)).past in
        subst (λ (y : Terms). q.generation ≤ y.generation 0) (past_terms w stands) (subst (λ n. q.generation ≤ (terms stands.wire.past).generation n) f past_of)

    packets_owned : AllOwned (Fifos ms nodes v.generations) x.node.layer x.outbox.packets
    packets_owned = subst (λ (y : target.Scene). AllOwned (Fifos ms nodes v.generations) y.node.layer y.outbox.packets) (sym x_is) (sight_owned units ready has start past s here v.generations now own_id)

    seen_kept : Place units ready start past Sighted → (layer : Layer Purpose) (pending : List ℕ) → Pending nodes z (Pushes start (said note ∷ ms)) layer pending → Ties nodes z layer → Rows layer x.node.layer pending x.node.pending → Kept start (hist past Sighted.world) Sighted
    seen_kept there layer pending base ties rows =
        target_kept units ready has start past s here note x.outbox v s.media refl there others packets_owned (note_clean units ready has start past s here note tt refl) refl layer pending base ties rows

    -- of the same generation
    same_kept : Place units ready start past Sighted → nat_lt node.layer.generation now ≡ false → Kept start (hist past Sighted.world) Sighted
    unfolding seeing_step seen
    same_kept there e =
        let below = aged.below in
        let same = aged.same in
        let now_is : now ≡ t.generation 0 = grind (arith, nat_tests) in
        let b = beside_here units ready has start past s here z (record { generation = now_is; ids = λ n. refl; sent = refl; held = λ v y. refl; current = λ v y. refl }) in
        let step : (alone (sees now own_id) node).node ≡ node = ap (λ c. (reset_by (cond c (true, seen_in_generation node.layer now own_id) (false, node.layer)) (target.scene node empty_outbox)).1.node) e in
        seen_kept there node.layer node.pending
        (beside_kept nodes start ms (said note ∷ ms) node.layer node.pending (tied_here units ready has start past s here) k b (note_pushes start note ms tt))
        (ties_of nodes z node.layer (tied_beside nodes t z (Pushes start ms) node.layer b (tied_here units ready has start past s here)))
        (subst (λ (y : NodeState). Rows node.layer y.layer node.pending y.pending) (sym (ap (λ (y : target.Scene). y.node) x_is ∙ step)) (rows_same node.layer node.pending))

    -- of a later one: all is forgotten
    none_left : nat_lt node.layer.generation now ≡ true → Forgot x.node.layer x.outbox.packets
    unfolding seen
    none_left e =
        subst (λ (y : target.Scene). Forgot y.node.layer y.outbox.packets) (sym x_is)
        (sees_by Forgot (record { disowns = λ layer packets peer label h. forgot_more layer packets peer label h }) (seeing_step node.layer now own_id) (target.scene node empty_outbox)
        (record { lives = live_on forgotten good.lives; known = seeing_known node.layer good.lives now own_id good.mid.known e; none = λ p l kind f. forgotten_at good.lives p l purposes.Unsolicited kind f }))

    none_listed : nat_lt node.layer.generation now ≡ true → x.node.pending ≡ []
    unfolding seeing_step seen
    none_listed e =
        ap (λ (y : target.Scene). y.node.pending) x_is
        ∙ ap (λ c. (reset_by (cond c (true, seen_in_generation node.layer now own_id) (false, node.layer)) (target.scene node empty_outbox)).1.node.pending) e

    later_kept : Place units ready start past Sighted → nat_lt node.layer.generation now ≡ true → Kept start (hist past Sighted.world) Sighted
    later_kept there e =
        let same = aged.same in
        let later : t.generation 0 < now = grind (arith, nat_tests) in
        let f = none_left e in
        seen_kept there x.node.layer [] (record {
          pends = λ n r l h y. absurd (pends_none later n r h y);
          push = λ n number kind r l y h. absurd (young later n number kind r y);
          full = λ n number l r. absurd (no_row x.node.layer x.outbox.packets f (Id z n) number r);
          one = λ n a c l r q. absurd (no_row x.node.layer x.outbox.packets f (Id z n) a r);
          calm = λ n number r l q h. absurd (no_row x.node.layer x.outbox.packets f (Id z n) number q);
          row = λ n number kind r l q y. absurd (no_row x.node.layer x.outbox.packets f (Id z n) number q);
          same = λ n l y. untrue y;
          once = tt;
        })
        (record {
          waiting = λ n number l r. absurd (no_row x.node.layer x.outbox.packets f (Id z n) number r);
          under = λ n number kind r l y. absurd (young later n number kind r y);
        })
        (record {
          stay = λ p number r. r;
          new = λ p number r. inl r;
          one = λ p a c r q. inl r;
          grows = λ p y. untrue y;
          fresh = λ p number r. inl r;
          from = λ p y. untrue (ap (is_listed p) (sym (none_listed e)) ∙ y);
          once = λ d. subst Distinct (sym (none_listed e)) tt;
        })
      where
        young : t.generation 0 < now → (n number : ℕ) (kind : Kind) (r : ℕ) → t.held (transaction now 0 n number) ≡ waits kind r → ⊥
        young later n number kind r y =
            let u = transaction now 0 n number in
            let a = goes_on.awaited stands.wire u kind r stands.reached (ap (λ (c : Terms). c.held u) (past_terms w stands) ∙ y) in
            let q = asked_is a.packet u (begun_asked a.packet u a.begun).1 in
            let generation : now ≡ a.packet.generation = ap (λ (c : Transaction). c.generation) q.is in
            let from : a.packet.from ≡ 0 = sym (ap (λ (c : Transaction). c.requester) q.is) in
            let old = early r a.packet (ap (λ (c : Terms). c.sent r) (sym (past_terms w stands)) ∙ a.sent) from in
            omega (arith, generation, old, later)

        pends_by : t.generation 0 < now → (n r : ℕ) (q : Sending) → t.sent r ≡ Some q → q.from ≡ 0 → (o : Option Transaction) → begun_by q ≡ o → is_pending z n r ≡ true → ⊥
        pends_by later n r q e f None b y = untrue (sym (none_pending n r z (ap begun_in e ∙ b)) ∙ y)
        pends_by later n r q e f (Some u) b y =
            let asks = asked_is q u (begun_asked q u b).1 in
            let generation : u.generation ≡ q.generation = ap (λ (c : Transaction). c.generation) asks.is in
            let requester : u.requester ≡ 0 = begun_from q u b ∙ f in
            let old = early r q e f in
            let other : nat_eq now u.generation ≡ false = grind (arith, nat_tests) in
            untrue (sym (forgets t z n r u refl (ap begun_in e ∙ b) (ap (λ c. z.generation c == u.generation) requester ∙ other)) ∙ y)

        pends_none : t.generation 0 < now → (n r : ℕ) → Has (Pushes start (said note ∷ ms)) r → is_pending z n r ≡ true → ⊥
        pends_none later n r h y =
            let f = from_target units ready has start past s here r (subst (λ xs. Has xs r) (note_pushes start note ms tt) h) in
            pends_by later n r f.packet f.is f.from (begun_by f.packet) refl y

    pub sight_kept : Place units ready start past Sighted → Kept start (hist past Sighted.world) Sighted
    sight_kept there = by (nat_lt node.layer.generation now) refl
      where
        by : (b : Bool) → nat_lt node.layer.generation now ≡ b → Kept start (hist past Sighted.world) Sighted
        by true e = later_kept there e
        by false e = same_kept there e

  -- ---- a line
  pub line_kept : (line : ℕ) (event : Event) → Pending nodes (terms (asked line event ∷ ms)) (Pushes start (asked line event ∷ ms)) node.layer node.pending
  line_kept line event =
      beside_kept nodes start ms (asked line event ∷ ms) node.layer node.pending (tied_here units ready has start past s here) k (line_beside units ready has start past s here event) (line_pushes start line event ms)

  line_tied : (line : ℕ) (event : Event) → AreTied nodes (terms (asked line event ∷ ms)) node.layer
  line_tied line event = tied_beside nodes t (opened event t) (Pushes start ms) node.layer (line_beside units ready has start past s here event) (tied_here units ready has start past s here)

  -- and a note of it that is beside the target's transactions
  abbrev pub BesideLine : (line : ℕ) → Event → Note → Type 0
  BesideLine line event note = Beside (terms (asked line event ∷ ms)) (noted note (terms (asked line event ∷ ms))) (Pushes start (asked line event ∷ ms))

  pub noted_kept : (line : ℕ) (event : Event) (note : Note) → IsNoSent note → BesideLine line event note → Pending nodes (terms (said note ∷ asked line event ∷ ms)) (Pushes start (said note ∷ asked line event ∷ ms)) node.layer node.pending
  noted_kept line event note i b =
      beside_kept nodes start (asked line event ∷ ms) (said note ∷ asked line event ∷ ms) node.layer node.pending (line_tied line event) (line_kept line event) b (note_pushes start note (asked line event ∷ ms) i)

  pub plain_beside : (x y : Terms) (pushes : List ℕ) → y.generation ≡ x.generation → y.ids ≡ x.ids → y.held ≡ x.held → ((n r : ℕ) → is_pending y n r ≡ is_pending x n r) → Beside x y pushes
  plain_beside x y pushes a b c d = record { generation = ap (λ f. f 0) a; ids = λ n. ap (λ f. f (x.generation 0) n) b; held = λ n number. ap (λ f. f (Own x n number)) c; pends = λ n r h. d n r }

  -- an action: its line has no first note
  module _ (line i weight : ℕ) (event : Event) (outbox : OutboxState) (v : WorldState) (fresh_is : v.fresh ≡ []) (target_is : v.target ≡ node) (count : length v.initiators ≡ nodes) (own : AreOwn outbox.sides) where
    abbrev Acted : Scene
    Acted = record { world = handed_out (i + 1) weight outbox v; media = s.media }

    pub act_turn : Place units ready start (asked line event ∷ ms) Acted → Kept start (hist (asked line event ∷ ms) Acted.world) Acted
    act_turn there =
        own_kept units ready has start past s here k [] (asked line event ∷ ms) (i + 1) weight (λ z. absurd (omega (arith, z))) outbox v fresh_is there
        (owns_handed (λ to bytes. Unit {0}) (i + 1) weight outbox v own (all_leave (i + 1) v.generations outbox.packets))
        (line_clean units ready has start past s here line event) (line_beside units ready has start past s here event) (line_pushes start line event ms) target_is count

  -- a line that settles ends
  pub end_kept : (done : Bool) → Kept start (hist past (settled_from done s).world) (settled_from done s)
  end_kept true =
      beside_kept nodes start ms (said notes.Settled ∷ ms) node.layer node.pending (tied_here units ready has start past s here) k
      (plain_beside t t (Pushes start ms) refl refl refl (λ n r. refl)) (note_pushes start notes.Settled ms tt)
  end_kept false =
      beside_kept nodes start ms (said notes.Stopped ∷ ms) node.layer node.pending (tied_here units ready has start past s here) k
      (plain_beside t t (Pushes start ms) refl refl refl (λ n r. refl)) (note_pushes start notes.Stopped ms tt)

  -- a packet is injected: it begins no transaction
  module _ (line : ℕ) (event : Event) (serial generation from to : ℕ) (bytes : List ℕ) where
    abbrev first : List Moment
    first = said (notes.Injected serial) ∷ asked line event ∷ ms

    abbrev second : List Moment
    second = said (notes.Sent serial generation from to bytes) ∷ first

    abbrev x : Terms
    x = terms first

    abbrev q : Sending
    q = record { generation = generation; from = from; to = to; bytes = bytes; injected = x.injected serial }

    injected : q.injected ≡ true
    injected = ap (λ b. cond b true ((terms (asked line event ∷ ms)).injected serial)) (itself serial)

    begun : begun_by q ≡ None
    begun = injected_begun q injected

    first_beside : Beside (terms (asked line event ∷ ms)) x (Pushes start (asked line event ∷ ms))
    first_beside = plain_beside (terms (asked line event ∷ ms)) x (Pushes start (asked line event ∷ ms)) refl refl refl (λ n r. refl)

    module _ (count : SerialsCount second) (fair : (terms second).injects 0 ≡ false) where
      next : serial ≡ x.count + 1
      next = count.0

      -- it is no packet of the target
      pub not_target : from ≡ 0 → ⊥
      not_target zero =
          untrue (sym fair ∙ (ap (λ f. f 0) (sends_agrees serial q x).injects
          ∙ (ap (λ b. (cond b (upd x.injects from true) x.injects) 0) injected ∙ ap (λ n. upd x.injects n true 0) zero)))

      pub pushes_same : Pushes start second ≡ Pushes start first
      pushes_same = by (grown start from (λ to bytes. Unit {0}) serial generation to bytes first)
        where
          by : (Pushes start second ≡ Pushes start first) ⊎ Grows start from (λ to bytes. Unit {0}) serial generation to bytes first → Pushes start second ≡ Pushes start first
          by (inl e) = e
          by (inr g) = absurd (not_target g.zero)

      sent_same : Same (begins (begun_by q) serial q (puts (begun_by q) serial q x)) (terms second)
      sent_same = sends_terms serial q x

      begun_held : (o : Option Transaction) → o ≡ None → (begins o serial q (puts (begun_by q) serial q x)).held ≡ x.held
      begun_held None e = refl
      begun_held (Some v) e = absurd (let no : Some v ≡ None = e in cc)

      begun_generation : (o : Option Transaction) → (begins o serial q (puts (begun_by q) serial q x)).generation ≡ x.generation
      begun_generation None = refl
      begun_generation (Some v) = refl

      second_beside : Beside x (terms second) (Pushes start first)
      second_beside = record {
        generation = ap (λ f. f 0) (sent_same.1.0 ∙ begun_generation (begun_by q));
        ids = λ n. ap (λ f. f (x.generation 0) n) (sent_ids serial generation from to bytes x);
        held = λ n number. ap (λ f. f (Own x n number)) (sent_same.1.1.0 ∙ begun_held (begun_by q) begun);
        pends = λ n r h.
            let small = (counted start first count.1).pushes r h in
            let e = next in
            pending_sent n serial r q x (grind (arith, nat_tests)) (λ v f. none_is v (sym begun ∙ f));
      }

      pub injected_kept : Pending nodes (terms second) (Pushes start second) node.layer node.pending
      injected_kept =
          beside_kept nodes start first second node.layer node.pending
          (tied_beside nodes (terms (asked line event ∷ ms)) x (Pushes start (asked line event ∷ ms)) node.layer first_beside (line_tied line event))
          (noted_kept line event (notes.Injected serial) tt first_beside) second_beside pushes_same

  -- ---- what a line brings
  module _ (line : ℕ) (event : Event) (rest : List Note) (behind : Scene) (fresh : behind.world.fresh ≡ onto rest []) (there : Place units ready start (asked line event ∷ ms) behind) (stays : Stays w behind.world) where
    abbrev Base : List Moment → Type 0
    Base h = Pending nodes (terms h) (Pushes start h) node.layer node.pending

    moved_kept : Base (map said (onto rest []) ++ asked line event ∷ ms) → Kept start (hist (asked line event ∷ ms) behind.world) behind
    moved_kept b =
        let now = hist (asked line event ∷ ms) behind.world in
        let c : Base now = subst (λ ns. Base (map said ns ++ asked line event ∷ ms)) (sym fresh) b in
        subst (λ n. Pending n (terms now) (Pushes start now) behind.world.target.layer behind.world.target.pending) (sym (ap (λ xs. length xs) stays.1.1))
        (subst (λ p. Pending nodes (terms now) (Pushes start now) behind.world.target.layer p) (sym stays.1.0)
        (subst (λ l. Pending nodes (terms now) (Pushes start now) l node.pending) (sym stays.0) c))

    abbrev L : Terms
    L = terms (asked line event ∷ ms)

    noted_so : (note : Note) → IsNoSent note → (noted note L).generation ≡ L.generation → (noted note L).ids ≡ L.ids → (noted note L).held ≡ L.held → ((n r : ℕ) → is_pending (noted note L) n r ≡ is_pending L n r) → Base (said note ∷ asked line event ∷ ms)
    noted_so note i a b c d = noted_kept line event note i (plain_beside L (noted note L) (Pushes start (asked line event ∷ ms)) a b c d)

    -- what is known of the history behind it
    pub there_laws : (h : List Moment) → map said (onto rest []) ++ asked line event ∷ ms ≡ h → SerialsCount h × ((terms h).injects 0 ≡ false)
    there_laws h e =
        let stands = there.holds.sound.stands in
        let same : hist (asked line event ∷ ms) behind.world ≡ h = ap (λ ns. map said ns ++ asked line event ∷ ms) fresh ∙ e in
        (subst SerialsCount same (laws_of (asked line event ∷ ms) behind.world stands).serials, subst (λ h. (terms h).injects 0 ≡ false) (stands.is.past_is ∙ same) stands.is.fair)

  pub brought_kept : (line : ℕ) (event : Event) (rest : List Note) (behind : Scene) → Brings line s event rest → behind.world.fresh ≡ onto rest [] → Place units ready start (asked line event ∷ ms) behind → Stays w behind.world → Kept start (hist (asked line event ∷ ms) behind.world) behind
  brought_kept line event rest behind (calls is_event c) fresh there stays = moved_kept line event [] behind fresh there stays (line_kept line event)
  brought_kept line event rest behind (refuses is_event refusal) fresh there stays =
      moved_kept line event (notes.Refused line refusal.number ∷ []) behind fresh there stays
      (noted_so line event (notes.Refused line refusal.number ∷ []) behind fresh there stays (notes.Refused line refusal.number) tt refl refl refl (λ n r. refl))
  brought_kept line event rest behind (refuses_action i action number e) fresh there stays =
      moved_kept line (events.Act i action) (notes.Refused line number ∷ []) behind fresh there stays
      (noted_so line (events.Act i action) (notes.Refused line number ∷ []) behind fresh there stays (notes.Refused line number) tt refl refl refl (λ n r. refl))
  brought_kept line event rest behind (resets physical generation e) fresh there stays =
      moved_kept line (events.Reset physical) (notes.Reset generation ∷ []) behind fresh there stays
      (noted_so line (events.Reset physical) (notes.Reset generation ∷ []) behind fresh there stays (notes.Reset generation) tt refl refl refl (λ n r. refl))
  brought_kept line event rest behind (loses serial) fresh there stays =
      moved_kept line (events.Lose serial) (notes.Lost serial ∷ []) behind fresh there stays
      (noted_so line (events.Lose serial) (notes.Lost serial ∷ []) behind fresh there stays (notes.Lost serial) tt refl refl refl (λ n r. refl))
  brought_kept line event rest behind (sets_key unit key) fresh there stays =
      moved_kept line (events.Key unit key) (notes.Key unit ∷ []) behind fresh there stays
      (noted_so line (events.Key unit key) (notes.Key unit ∷ []) behind fresh there stays (notes.Key unit) tt refl refl refl (λ n r. refl))
  brought_kept line event rest behind (injects i bytes serial generation from to) fresh there stays =
      let notes_then = notes.Injected serial ∷ notes.Sent serial generation from to bytes ∷ [] in
      let laws = there_laws line (events.Inject i bytes) notes_then behind fresh there stays (said (notes.Sent serial generation from to bytes) ∷ said (notes.Injected serial) ∷ asked line (events.Inject i bytes) ∷ ms) refl in
      moved_kept line (events.Inject i bytes) notes_then behind fresh there stays (injected_kept line (events.Inject i bytes) serial generation from to bytes laws.0 laws.1)
