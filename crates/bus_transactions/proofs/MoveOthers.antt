-- The moves of the bus, and those that send nothing.
use Rattle.std.proofs.lemmas.List.{get_or_past}
use Rattle.bus_transactions.proofs.ServedFacts.{served_flight, served_other, served_injected}
use Rattle.std.specs.Prelude.{◌≡◌, ℕ, ◌+◌, ◌<◌, ◌≤◌, nat_eq, nat_lt, is_ok, Bool, true, false, cond, List, Option, Some, None, Result, Ok, Err, refl, zero, suc, length, slice_index_or, [], ◌∷◌}
use Rattle.std.proofs.Common.{arith, sym, ◌∙◌, ap, subst}
use Rattle.sbp_base.specs.Update.{upd}
use Rattle.async_packet.specs.declared.packet.Header.{Header}
use Rattle.async_packet.specs.Labels.{LabelParts}
use Rattle.async_packet.specs.Packet.{header_in}
use Rattle.async_packet.proofs.Headers.{header_spelled}
use Rattle.async_packet.proofs.Spelled.{reads_spelling}
use Rattle.label_table.specs.declared.reply.ReplyKind.{ReplyKind}
use Rattle.label_table.specs.declared.reply.Stale.{Stale}
use Rattle.label_table.specs.declared.place.LabelState.TheVariants as states
use Rattle.label_table.specs.Filter.{place_for}
use Rattle.label_table.specs.Peers.{state_for}
use Rattle.label_table.specs.Layer.{expiring_step, disowning_step, seen_in_generation, seeing_step}
use Rattle.packet_store.specs.Stored.{send_step, lose_step}
use Rattle.sbp_journal.specs.Transactions.{Kind, Transaction, at, Sending, begun_by}
use Rattle.sbp_journal.specs.Wire.{Terms, terms, Flight, in_flight, lost, Held, free, waits, rests, by_bus_rule, ids_of, sends, begun_in, times_out, noted, opened}
use Rattle.sbp_journal.specs.declared.event.Event.{Event}
use Rattle.sbp_journal.specs.declared.event.Event.TheVariants as events
use Rattle.sbp_journal.specs.declared.note.Note.{Note}
use Rattle.sbp_journal.specs.declared.note.Note.TheVariants as notes
use Rattle.bus_transactions.specs.Wire.{Node, Due, Wire, as_sent, transaction, id_for, outgoing, next_serial}
use Rattle.bus_transactions.specs.Moves.{inject, lose, expire, disown, reset, see, start, tell, expiring, moved}
use Rattle.bus_transactions.specs.May.{MayInject, MayLose, MayExpire, MayReset, MayStart, is_reset, is_plain}
use Rattle.bus_transactions.specs.Rows.{shape, shape_of, awaits}
use Rattle.bus_transactions.proofs.PacketParts.{request_read, asking_read, label_read}
use Rattle.bus_transactions.proofs.Steps.{Expires, ExpiredAs, expires, disowns}
use Rattle.bus_transactions.proofs.Facts.{Honest, Flies, nat_same, injected_begun}
use Rattle.bus_transactions.proofs.FactsSent.{puts_at, facts_put}
use Rattle.bus_transactions.proofs.FactsJudged.{flies_at, facts_flight, rests_at, facts_rests}
use Rattle.bus_transactions.proofs.FactsReset.{reset_at, ids_before, facts_reset, seen_at, facts_seen, facts_opened, facts_marked}
use Rattle.bus_transactions.proofs.Follows.{Follows, is_live, last_is, follows_sent, follows_lost}
use Rattle.bus_transactions.proofs.NodeRows.{IsNode, node_frees, node_same, node_beside_held, node_row, node_seen}
use Rattle.bus_transactions.proofs.Stands.{DueIs, due_transaction, On, Stands, node_case, injected_terms, marked}

-- where nothing is to be answered
pub settled : (w : Wire) → Stands w → w.due ≡ None → On (terms w.past) w.store w.layer w.bus w.ids None
settled w h e = subst (On (terms w.past) w.store w.layer w.bus w.ids) e h

-- ---- a packet is lost
lost_live : (b : Bool) (state : Flight) → is_live (cond b lost state) ≡ true → is_live state ≡ true
lost_live true state e = cc
lost_live false state e = e

pub move_lose : (w : Wire) → Stands w → (s : ℕ) → MayLose w s → Stands (moved (lose s) w)
move_lose w h s may =
    let o = settled w h may.free in
    let t : Terms = terms w.past in
    subst (On (flies_at t (upd t.flight s lost)) (lose_step w.store s) w.layer w.bus w.ids) (sym may.free) (record {
      facts = facts_flight o.facts (upd t.flight s lost) (λ r q e. lost_live (nat_eq r s) (t.flight r));
      follows = follows_lost o.follows s may.flies;
      bus_is = o.bus_is;
      ids_are = o.ids_are;
      due_is = o.due_is;
      codes = served_flight o.codes (upd t.flight s lost) (λ r q e. lost_live (nat_eq r s) (t.flight r));
      nodes = o.nodes;
    })

-- ---- a transaction times out
record Waits (held : Held) : Type 0 where
  kind : Kind
  serial : ℕ
  is : held ≡ waits kind serial

shape_waits : (held : Held) (kind : ReplyKind) → awaits kind ≡ shape_of held → Waits held
shape_waits free kind e = cc
shape_waits rests kind e = cc
shape_waits (waits k s) kind e = record { kind = k; serial = s; is = refl }

module _ (w : Wire) (h : Stands w) (i j : ℕ) (label : LabelParts) (may : MayExpire w i j label) where
  expired_on : (new : Node) → Expires (w.layer i) new (id_for w i j) label → (purpose : Option (Unit {0})) → Stands (expiring (Ok purpose, new) i j label.number w)
  expired_on new x purpose =
      let o = settled w h may.free in
      let t : Terms = terms w.past in
      let node = o.nodes i in
      let u : Transaction = transaction (t.generation i) i j label.number in
      let peer_is : id_for w i j ≡ t.ids (t.generation i) j = ap (λ g. t.ids g j) node.generation in
      let waiting : Waits (t.held u) = shape_waits (t.held u) x.kind
      (sym (ap shape x.frees.was) ∙ ap (λ p. shape (state_for (w.layer i).peers p label.number)) peer_is ∙ node.states_are j label.number) in
      let now = (o.facts.tie u).waiting waiting.kind waiting.serial waiting.is in
      let a = o.facts.asked u (subst (λ n. 0 < n) now.0 now.1) in
      let terms_are : times_out (begun_in (t.sent (t.current (transaction (w.layer i).generation i j label.number)))) t ≡ rests_at t u =
      ap (λ g. times_out (begun_in (t.sent (t.current (transaction g i j label.number)))) t) node.generation
      ∙ ap (λ so. times_out (begun_in so) t) a.sent_is
      ∙ ap (λ b. times_out b t) a.begun in
      subst (λ t'. On t' w.store (upd w.layer i new) w.bus w.ids w.due) (sym terms_are)
      (subst (On (rests_at t u) w.store (upd w.layer i new) w.bus w.ids) (sym may.free) (record {
        facts = facts_rests o.facts u waiting.kind waiting.serial waiting.is;
        follows = o.follows;
        bus_is = o.bus_is;
        ids_are = o.ids_are;
        due_is = o.due_is;
        codes = served_other o.codes (at t.held u rests) t.bus t.ids t.generation t.repeats t.injected;
        nodes = λ k.
            node_case (λ x l. IsNode (t.ids (t.generation x)) (t.generation x) x (at t.held u rests) t.last t.seen t.given None l) i k new w.layer (nat_eq k i) refl
            (node_frees node (o.facts.apart (t.generation i)) new (id_for w i j) j label.number x.kind states.Resting rests peer_is refl x.frees)
            (λ d. node_beside_held (o.nodes k) u rests d);
      }))

  expire_case : (r : Result (Option (Unit {0})) Stale × Node) → ExpiredAs (w.layer i) (id_for w i j) label r → is_ok r.0 ≡ true → Stands (expiring r i j label.number w)
  expire_case (Ok purpose, new) x e = expired_on new x purpose
  expire_case (Err stale, new) x e = cc

  pub move_expire : Stands (moved (expire i j label) w)
  move_expire = expire_case (expiring_step (w.layer i) (id_for w i j) label) (expires (w.layer i) (id_for w i j) label (h.nodes i).places) may.current

-- ---- a transaction is left to nobody
room_kept : (w : Wire) (h : Stands w) (i : ℕ) (new : Node) → new.filter ≡ (w.layer i).filter → (due : Option Due) → DueIs (terms w.past) w.layer due → DueIs (terms w.past) (upd w.layer i new) due
room_kept w h i new same None d = d
room_kept w h i new same (Some due) d = record {
  sent_is = d.sent_is;
  owed = d.owed;
  owes_is = d.owes_is;
  serial_is = d.serial_is;
  read = d.read;
  label = d.label;
  kind = d.kind;
  part = d.part;
  now = d.now;
  heard = d.heard;
  stated = d.stated;
  own = d.own;
  came = d.came;
  place = d.place;
  room = ap (place_for (header_in due.packet).source) (node_case (λ k l. l.filter ≡ (w.layer k).filter) i due.request.to new w.layer (nat_eq due.request.to i) refl same (λ e. refl)) ∙ d.room;
}

pub move_disown : (w : Wire) → Stands w → (i j : ℕ) (label : LabelParts) → Stands (moved (disown i j label) w)
move_disown w h i j label =
    let t : Terms = terms w.past in
    let new : Node = disowning_step (w.layer i) (id_for w i j) label in
    let s = disowns (w.layer i) (id_for w i j) label (h.nodes i).places in
    record {
      facts = h.facts;
      follows = h.follows;
      bus_is = h.bus_is;
      ids_are = h.ids_are;
      due_is = room_kept w h i new s.stays.filter w.due h.due_is;
      codes = h.codes;
      nodes = λ k.
          node_case (λ x l. IsNode (t.ids (t.generation x)) (t.generation x) x t.held t.last t.seen t.given (due_transaction w.due) l) i k new w.layer (nat_eq k i) refl
          (node_same (h.nodes i) new s)
          (λ d. h.nodes k);
    }

-- ---- the bus is reset
at_any : (xs : List ℕ) (i d e : ℕ) → i < length xs → slice_index_or xs i d ≡ slice_index_or xs i e
at_any [] i d e h = absurd (omega (arith, h))
at_any (x ∷ xs) zero d e h = refl
at_any (x ∷ xs) (suc i) d e h = at_any xs i d e (omega (arith, h))

-- the IDs of the nodes that there are, and of those that are not, are all different
ids_apart : (physical : List ℕ) → ((i : ℕ) → i < length physical → slice_index_or physical i 0 ≤ 62) → ((i j : ℕ) → i < length physical → j < length physical → slice_index_or physical i 0 ≡ slice_index_or physical j 0 → i ≡ j) → (i j : ℕ) (a b : Bool) → nat_lt i (length physical) ≡ a → nat_lt j (length physical) ≡ b → ids_of physical i ≡ ids_of physical j → i ≡ j
ids_apart physical small apart i j true true f g e =
    let h : i < length physical = grind arith in
    let k : j < length physical = grind arith in
    let x = at_any physical i (63 + i) 0 h in
    let y = at_any physical j (63 + j) 0 k in
    apart i j h k (omega (arith, e, x, y))
ids_apart physical small apart i j true false f g e =
    let h : i < length physical = grind arith in
    let k : length physical ≤ j = grind arith in
    let x = at_any physical i (63 + i) 0 h in
    let y = get_or_past physical j (63 + j) k in
    let s = small i h in
    absurd (omega (arith, e, x, y, s))
ids_apart physical small apart i j false true f g e =
    let h : length physical ≤ i = grind arith in
    let k : j < length physical = grind arith in
    let x = get_or_past physical i (63 + i) h in
    let y = at_any physical j (63 + j) 0 k in
    let s = small j k in
    absurd (omega (arith, e, x, y, s))
ids_apart physical small apart i j false false f g e =
    let h : length physical ≤ i = grind arith in
    let k : length physical ≤ j = grind arith in
    let x = get_or_past physical i (63 + i) h in
    let y = get_or_past physical j (63 + j) k in
    omega (arith, e, x, y)

pub move_reset : (w : Wire) → Stands w → (line : ℕ) (physical : List ℕ) → MayReset w physical → Stands (moved (reset line physical) w)
move_reset w h line physical may =
    let o = settled w h may.free in
    let t : Terms = terms w.past in
    let new : ℕ → ℕ = ids_of physical in
    subst (λ b. On (record t { ids = upd t.ids (t.bus + 1) new; repeats = false; bus = b + 1 }) w.store w.layer (b + 1) new w.due) (sym o.bus_is)
    (subst (On (reset_at t new) w.store w.layer (t.bus + 1) new) (sym may.free) (record {
      facts = facts_reset o.facts new (λ i j. ids_apart physical may.small may.apart i j _ _ refl refl);
      follows = o.follows;
      bus_is = refl;
      ids_are = λ i. ap (λ b. cond b new (t.ids (t.bus + 1)) i) (sym (nat_same (t.bus + 1)));
      due_is = o.due_is;
      codes = served_other o.codes t.held (t.bus + 1) (upd t.ids (t.bus + 1) new) t.generation false t.injected;
      nodes = λ k. node_row (o.nodes k) (upd t.ids (t.bus + 1) new (t.generation k)) (ids_before o.facts new (t.generation k) (o.facts.aged k));
    }))

-- ---- a node sees the latest reset
module _ (w : Wire) (h : Stands w) (i : ℕ) (idle : w.due ≡ None) where
  abbrev T : Terms
  T = terms w.past

  o : On T w.store w.layer w.bus w.ids None
  o = settled w h idle

  -- what the node has afterwards
  own_seen : (b : Bool) → nat_lt (w.layer i).generation w.bus ≡ b → IsNode (T.ids T.bus) T.bus i T.held T.last T.seen T.given None (cond {A = Bool × Node} b (true, seen_in_generation (w.layer i) w.bus (w.ids i)) (false, w.layer i)).1
  own_seen true e =
      let before : T.generation i < T.bus = let g = (o.nodes i).generation in let b = o.bus_is in let l : (w.layer i).generation < w.bus = grind arith in omega (arith, g, b, l) in
      subst (λ g. IsNode (T.ids T.bus) T.bus i T.held T.last T.seen T.given None (seen_in_generation (w.layer i) g (w.ids i))) (sym o.bus_is)
      (node_seen (w.layer i) (w.ids i) (o.nodes i).places.size (o.ids_are i)
      (λ j l. (o.facts.tie (transaction T.bus i j l)).idle (o.facts.early (transaction T.bus i j l) before))
      (λ j l. (o.facts.tie (transaction T.bus i j l)).none (o.facts.early (transaction T.bus i j l) before))
      (λ j l. o.facts.silent (transaction T.bus j i l) before)
      (λ j l. o.facts.ungiven (transaction T.bus j i l) before))
  own_seen false e =
      let now : T.generation i ≡ T.bus = let g = (o.nodes i).generation in let b = o.bus_is in let a = o.facts.aged i in let l : w.bus ≤ (w.layer i).generation = grind arith in omega (arith, g, b, a, l) in
      subst (λ g. IsNode (T.ids g) g i T.held T.last T.seen T.given None (w.layer i)) now (o.nodes i)

  stepped : (seeing_step (w.layer i) w.bus (w.ids i)).1 ≡ (cond {A = Bool × Node} (nat_lt (w.layer i).generation w.bus) (true, seen_in_generation (w.layer i) w.bus (w.ids i)) (false, w.layer i)).1
  unfolding seeing_step
  stepped = refl

  seen_here : (k : ℕ) (b : Bool) → nat_eq k i ≡ b → T.bus ≡ cond b T.bus (T.generation k) → T.bus ≡ upd T.generation i T.bus k
  seen_here k b e f = f ∙ ap (λ x. cond x T.bus (T.generation k)) (sym e)

  pub move_see : Stands (moved (see i) w)
  move_see =
      let new : Node = (seeing_step (w.layer i) w.bus (w.ids i)).1 in
      subst (λ b. On (record T { generation = upd T.generation i b }) w.store (upd w.layer i new) w.bus w.ids w.due) (sym o.bus_is)
      (subst (On (seen_at T i) w.store (upd w.layer i new) w.bus w.ids) (sym idle) (record {
        facts = facts_seen o.facts i;
        follows = o.follows;
        bus_is = o.bus_is;
        ids_are = o.ids_are;
        due_is = o.due_is;
        codes = served_other o.codes T.held T.bus T.ids (upd T.generation i T.bus) T.repeats T.injected;
        nodes = λ k.
            node_case (λ x l. IsNode (T.ids (upd T.generation i T.bus x)) (upd T.generation i T.bus x) x T.held T.last T.seen T.given None l) i k new w.layer (nat_eq k i) refl
            (subst (λ g. IsNode (T.ids g) g i T.held T.last T.seen T.given None new) (seen_here i true (nat_same i) refl)
            (subst (IsNode (T.ids T.bus) T.bus i T.held T.last T.seen T.given None) (sym stepped) (own_seen (nat_lt (w.layer i).generation w.bus) refl)))
            (λ d. subst (λ g. IsNode (T.ids g) g k T.held T.last T.seen T.given None (w.layer k)) (ap (λ b. cond b T.bus (T.generation k)) (sym d)) (o.nodes k));
      }))

-- ---- a line begins
pub record Opens (event : Event) (t : Terms) : Type 0 where
  pub repeats : Bool
  pub is : opened event t ≡ record t { repeats = repeats }

pub opens : (event : Event) (t : Terms) → is_reset event ≡ false → Opens event t
opens (events.Reset physical) t e = cc
opens (events.Repeat s) t e = record { repeats = true; is = refl }
opens _ t e = record { repeats = false; is = refl }

pub move_start : (w : Wire) → Stands w → (line : ℕ) (event : Event) → MayStart w event → Stands (moved (start line event) w)
move_start w h line event may =
    let t : Terms = terms w.past in
    let x = opens event t may.other in
    subst (λ t'. On t' w.store w.layer w.bus w.ids w.due) (sym x.is)
    (subst (On (record t { repeats = x.repeats }) w.store w.layer w.bus w.ids) (sym may.free) (
    let o = settled w h may.free in
    record {
      facts = facts_opened o.facts x.repeats;
      codes = served_other o.codes t.held t.bus t.ids t.generation x.repeats t.injected;
      follows = o.follows;
      bus_is = o.bus_is;
      ids_are = o.ids_are;
      due_is = o.due_is;
      nodes = o.nodes;
    }))

-- ---- a note that tells nothing of the wire
pub plain_terms : (note : Note) (t : Terms) → is_plain note ≡ true → noted note t ≡ t
unfolding is_plain
plain_terms (notes.Sent s generation from to bytes) t e = cc
plain_terms (notes.Injected s) t e = cc
plain_terms (notes.Got s) t e = cc
plain_terms (notes.Ignored s cause) t e = cc
plain_terms (notes.Lost s) t e = cc
plain_terms (notes.TimedOut s) t e = cc
plain_terms (notes.Reset generation) t e = cc
plain_terms (notes.Seen node generation) t e = cc
plain_terms _ t e = refl

pub move_tell : (w : Wire) → Stands w → (note : Note) → is_plain note ≡ true → Stands (moved (tell note) w)
move_tell w h note e = subst (λ t. On t w.store w.layer w.bus w.ids w.due) (sym (plain_terms note (terms w.past) e)) h

-- ---- a node injects
module _ (w : Wire) (h : Stands w) (i j : ℕ) (bytes : List ℕ) (may : MayInject w i j bytes) where
  abbrev I : Terms
  I = terms w.past

  abbrev wild : ℕ → Bool
  wild = upd I.injects i true

  wilder : (k : ℕ) (b : Bool) → cond b true (I.injects k) ≡ false → I.injects k ≡ false
  wilder k true e = cc
  wilder k false e = e

  pub move_inject : Stands (moved (inject i j bytes) w)
  move_inject =
      let k = settled w h may.free in
      let q : Sending = outgoing w i j bytes true in
      let s : ℕ = next_serial w in
      let marks : ℕ → Bool = upd I.injected s true in
      let t1 : Terms = record I { injected = marks } in
      let serial : s ≡ I.count + 1 = ap (λ x. x + 1) (last_is k.follows) in
      let begun : begun_by q ≡ None = injected_begun q refl in
      let node = k.nodes i in
      let terms_are : sends s (marked t1 s q (marks s)) t1 ≡ puts_at t1 q wild I.answers I.given I.owes =
      injected_terms t1 s q k.due_is begun refl serial (ap (λ b. cond b true (I.injected s)) (nat_same s)) in
      let honest : Honest I.ids I.generation wild q = record {
        from_small = may.node_small;
        to_small = may.peer_small;
        past = let e = node.generation in omega arith;
        bold = λ e. ap (λ b. cond b true (I.injects i)) (nat_same i);
        is_for = λ e. cc;
        source = λ p e. ap (λ (x : Header). x.source) (header_spelled bytes p ((reads_spelling.packets bytes p).0 e)) ∙ may.source;
        label = λ l kind e.
            let r = request_read bytes l kind e in
            label_read bytes r.packet may.bytes_fit r.read ∙ (asking_read bytes r.packet l kind r.read r.is).label;
      } in
      let flies : Flies wild I.current I.judged (I.answers (I.count + 1)) in_flight (I.count + 1) q = record {
        asks = λ u e. absurd (nothing (sym begun ∙ e));
        replies = λ l kind part e. absurd (differ e);
      } in
      let put = facts_put k.facts q begun wild (λ n. wilder n (nat_eq n i)) I.answers (λ r e. refl) honest flies I.given k.facts.ungiven I.owes (λ r e. absurd (unanswered (sym (k.facts.unsent (I.count + 1) (omega arith)).unanswered ∙ e))) in
      subst (λ t. On t (send_step w.store (as_sent q)) w.layer w.bus w.ids w.due) (sym terms_are)
      (subst (On (puts_at t1 q wild I.answers I.given I.owes) (send_step w.store (as_sent q)) w.layer w.bus w.ids) (sym may.free) (record {
        facts = facts_marked put s (omega arith);
        follows = subst (λ b. Follows (I.count + 1) (upd I.sent (I.count + 1) (Some q)) (upd (by_bus_rule b I.sent I.flight) (I.count + 1) in_flight) (send_step w.store (as_sent q))) begun (follows_sent k.follows q (I.count + 1) refl);
        bus_is = k.bus_is;
        ids_are = k.ids_are;
        due_is = k.due_is;
        codes = served_other (served_injected k.facts k.codes q refl wild (λ n. wilder n (nat_eq n i))) I.held I.bus I.ids I.generation I.repeats marks;
        nodes = k.nodes;
      }))
    where
      nothing : {u : Transaction} → None ≡ Some u → ⊥
      nothing e = cc

      differ : true ≡ false → ⊥
      differ e = cc

      unanswered : {r : ℕ} → None ≡ Some r → ⊥
      unanswered e = cc
