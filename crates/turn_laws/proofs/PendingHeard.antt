-- What is carried of the target's unsolicited statuses through a packet that comes to the target, a time-out of one of its transactions, a sight and a second.
use Rattle.std.proofs.Common.{arith, ◌≡◌, ◌∙◌, refl, sym, ap, subst, inl, inr, ◌⊎◌, ℕ, ◌<◌, ◌≤◌, ◌||◌, not, nat_eq, Bool, true, false, cond, List, ◌∷◌, length, position, Option, Some, None, Result, Ok, Err}
use Rattle.std.proofs.lemmas.Bool.Decides.{nat_tests}
use Rattle.async_packet.specs.Labels.{LabelParts}
use Rattle.async_packet.specs.Packet.{Packet, header_in}
use Rattle.bus_transactions.specs.Bare.{bare}
use Rattle.bus_transactions.specs.Rows.{shape, shape_of}
use Rattle.bus_transactions.specs.Wire.{as_sending, transaction}
use Rattle.bus_transactions.proofs.Reaches.{goes_on}
use Rattle.label_table.specs.History.{is_same, under_way}
use Rattle.label_table.specs.Layer.{Finding, Layer, expiring_step, judging_step, of_again, of_generation, of_grammar, of_label, of_request, of_response}
use Rattle.label_table.specs.Peers.{state_for}
use Rattle.label_table.specs.declared.place.LabelState.TheVariants as states
use Rattle.label_table.specs.declared.reply.ReplyKind.{ReplyKind}
use Rattle.label_table.specs.declared.reply.Stale.{Stale}
use Rattle.packet_store.specs.Kept.{found_sent, is_flying}
use Rattle.packet_store.specs.Stored.{deliver_step}
use Rattle.packet_store.specs.declared.sent.Sent.{Sent}
use Rattle.rbc_disk.specs.Disk.{Disk}
use Rattle.rbc_disk.specs.Held.{Held as Media}
use Rattle.rbc_disk.specs.Runs.{Told}
use Rattle.sbp_base.specs.Update.{upd}
use Rattle.sbp_bus.specs.Packets.{judged_note}
use Rattle.sbp_bus.specs.Requests.{find}
use Rattle.sbp_bus.specs.declared.requests.Request.{Request}
use Rattle.sbp_journal.specs.Outgoings.{empty_outbox}
use Rattle.sbp_journal.specs.Run.{Moment, said}
use Rattle.sbp_journal.specs.Transactions.{Kind, Transaction}
use Rattle.sbp_journal.specs.Wire.{Terms, free, noted, rests, terms, waits}
use Rattle.sbp_journal.specs.declared.cause.Cause.{Cause}
use Rattle.sbp_journal.specs.declared.cause.Cause.TheVariants as causes
use Rattle.sbp_journal.specs.declared.cause.Judged.{Judged}
use Rattle.sbp_journal.specs.declared.cause.Judged.TheVariants as judgements
use Rattle.sbp_journal.specs.declared.note.Note.{Note}
use Rattle.sbp_journal.specs.declared.note.Note.TheVariants as notes
use Rattle.sbp_laws.specs.MediaLaw.{is_pending}
use Rattle.sbp_laws.specs.Packets.{begun_in, receiver_in}
use Rattle.sbp_target.specs.Calls.{lets_expire, receives}
use Rattle.sbp_target.specs.Nodes.{NodeState}
use Rattle.sbp_target.specs.Nodes as target
use Rattle.sbp_target.specs.Receiving.{expired, expired_in, received, received_as, removed, with_layer}
use Rattle.sbp_target.specs.Replies.{Whole}
use Rattle.sbp_target.specs.Units.{is_node, is_pending as is_listed}
use Rattle.sbp_target.specs.declared.purpose.Purpose.{Purpose}
use Rattle.sbp_target.specs.declared.purpose.Purpose.TheVariants as purposes
use Rattle.sbp_target.proofs.Histories.Calling.{Good}
use Rattle.sbp_target.proofs.Histories.Found.{IsFound, found as found_as}
use Rattle.sbp_target.proofs.Histories.Seats.{Lives, same_is}
use Rattle.sbp_world.specs.Delivering.{marked, whole_of}
use Rattle.sbp_world.specs.Handing.{handed_out}
use Rattle.sbp_world.specs.Hosts.Handing.{AreOthers}
use Rattle.sbp_world.specs.Wire.Wires.{layers_of}
use Rattle.sbp_world.specs.Worlds.{Scene, WorldState, with_note, with_target, without_notes}
use Rattle.sbp_world.proofs.Agents.CrewLapse.{asked as lapse_asked}
use Rattle.sbp_world.proofs.Agents.Management.Delivery.{marked_generations}
use Rattle.sbp_world.proofs.Agents.Management.Holding.{good_of, past_terms, was_sent}
use Rattle.sbp_world.proofs.Agents.Management.Still.{hist}
use Rattle.sbp_world.proofs.Agents.Management.Calm.{AreQuiet}
use Rattle.sbp_world.proofs.Common.{equal_numbers, untrue}
use Rattle.sbp_world.proofs.Lists.SentOwned.{AllOwned}
use Rattle.sbp_world.proofs.Wire.Asks.{upd_own}
use Rattle.turn_laws.proofs.FoundLabels.{SameLabels, gets_same}
use Rattle.turn_laws.proofs.LaterTerms.{Clean, Own, Pushes, free_waits}
use Rattle.turn_laws.proofs.PendingCalls.{Fifos, all_owned, target_joins, target_kept}
use Rattle.turn_laws.proofs.PendingEnded.{announced_rows, gone, row_back, row_kept, row_stays}
use Rattle.turn_laws.proofs.PendingFirsts.{late_alike, late_injected, Beside, IsUnder, got_alike, got_frees, got_injected, got_sent, is_under, leaves_same, less_got, less_late, tied_at, tied_beside}
use Rattle.turn_laws.proofs.PendingKept.{Backs, Keeps, Lists, Needs, AreTied, Id, Less, Pending, Pends, Remain, Rows, Ties, WaitsFor, first_kept, row_waits, rows_same, ties_of, under_state}
use Rattle.turn_laws.proofs.PendingTerms.{ignored_same, pending_not}
use Rattle.turn_laws.proofs.PendingTurns.{Kept, beside_here, beside_kept, from_target, note_clean, note_pushes, tied_here}
use Rattle.turn_laws.proofs.Places.{Place}
use Rattle.turn_laws.proofs.PushSerials.{Has}
use Rattle.turn_laws.proofs.SerialsStay.{IsNoSent}
use Rattle.turn_laws.proofs.StatusAnnounces.{Announced, still_announced}
use Rattle.turn_laws.proofs.StatusCalls.{Closed, Got, Hears, heralds, hears, quiet}
use Rattle.turn_laws.proofs.StatusHeralds.{IsHeard}
use Rattle.turn_laws.proofs.StatusLates.{Lapsed, Lapses, lapses}
use Rattle.turn_laws.proofs.StatusOnce.{Distinct, distinct_out, out_none, out_others}
use Rattle.turn_laws.proofs.StatusRows.{Row, row_of}
use Rattle.turn_laws.proofs.StatusStays.{Still, same_life}
use Rattle.turn_laws.proofs.TurnWires.{Judges, judged_stands, late_stands, repeated}

-- a tie hangs on labels alone
tied_labels : (a b : Terms) → SameLabels a b → (nodes : ℕ) (layer : Layer Purpose) → AreTied nodes a layer → AreTied nodes b layer
tied_labels a b e nodes layer tied n number l =
    let generation : b.generation 0 ≡ a.generation 0 = sym (ap (λ g. g 0) e.generation) in
    let id : Id b n ≡ Id a n = ap (λ g. b.ids g n) generation ∙ sym (ap (λ f. f (a.generation 0) n) e.ids) in
    ap (λ p. shape (state_for layer.peers p number)) id
    ∙ (tied n number l ∙ ap shape_of (ap (λ f. f (Own a n number)) e.held ∙ ap (λ g. b.held (transaction g 0 n number)) (sym generation)))

-- the world behind a packet that came has all but the store
pub marked_same : (serial : ℕ) (again : Bool) (v : WorldState) → ((marked serial again v).target ≡ v.target) × (((marked serial again v).initiators ≡ v.initiators) × ((marked serial again v).fresh ≡ v.fresh))
marked_same serial again v = by (again || not (is_flying serial v.store.kept))
  where
    by : (b : Bool) → ((cond b v (record v { store = deliver_step v.store serial })).target ≡ v.target) × (((cond b v (record v { store = deliver_step v.store serial })).initiators ≡ v.initiators) × ((cond b v (record v { store = deliver_step v.store serial })).fresh ≡ v.fresh))
    by true = (refl, (refl, refl))
    by false = (refl, (refl, refl))

-- a packet goes to a node of which something is so
pub record Hails (t u : Terms) (nodes : ℕ) (IsHailed : ℕ → Type 0) (r : ℕ) : Type 0 where
  pub to : ℕ
  pub there : receiver_in (u.sent r) ≡ Some to
  pub inside : to ≤ nodes
  pub heard : IsHailed (Id t to)

-- what is no unsolicited status
none_not : None ≡ Some purposes.Unsolicited → ⊥
none_not e = cc

manager_not : Some purposes.Management ≡ Some purposes.Unsolicited → ⊥
manager_not e = cc

pub agent_not : (place : ℕ) → Some (purposes.Agent place) ≡ Some purposes.Unsolicited → ⊥
agent_not place e = cc

same_purpose : (kind other : ReplyKind) (one two : Option Purpose) → under_way kind one ≡ under_way other two → one ≡ two
same_purpose kind other one two e = cc

module _ (units ready : ℕ) (has : 0 < units) (start : List Disk) (past : List Moment) (s : Scene) (here : Place units ready start past s) (k : Kept start (hist past s.world) s) where
  abbrev w : WorldState
  w = s.world

  abbrev ms : List Moment
  ms = hist past w

  abbrev t : Terms
  t = terms ms

  abbrev node : NodeState
  node = w.target

  abbrev nodes : ℕ
  nodes = length w.initiators

  pub good : Good node
  good = good_of units ready here.holds.calls node has here.holds.made

  tied : AreTied nodes t node.layer
  tied = tied_here units ready has start past s here

  -- a note that is beside
  beside_base : (note : Note) → IsNoSent note → Beside t (noted note t) (Pushes start ms) → Pending nodes (noted note t) (Pushes start (said note ∷ ms)) node.layer node.pending
  beside_base note i b = beside_kept nodes start ms (said note ∷ ms) node.layer node.pending tied k b (note_pushes start note ms i)

  -- a note that may end a transaction, with a layer that is tied behind it
  module _ (note : Note) (i : IsNoSent note) where
    abbrev Noted : Terms
    Noted = noted note t

    abbrev ListsStill : Layer Purpose → List ℕ → Type 0
    ListsStill left later = Lists nodes t Noted (Pushes start ms) left node.pending later

    ends_base : (left : Layer Purpose) (later : List ℕ) → Less t Noted (Pushes start ms) → AreTied nodes Noted left → Backs t node.layer left → Keeps t node.layer left → ListsStill left later → Remain nodes t Noted (Pushes start ms) later → Distinct later → Pending nodes Noted (Pushes start (said note ∷ ms)) left later
    ends_base left later l tied_then back kept lists remain once =
        subst (λ xs. Pending nodes Noted xs left later) (sym (note_pushes start note ms i))
        (first_kept nodes t Noted (Pushes start ms) node.layer left node.pending later k l tied_then back kept lists remain once)

  -- ---- a packet comes
  module _ (serial : ℕ) (again : Bool) (run : Option Told) (one : Sent) (found : found_sent serial w.store.kept ≡ Some one) (zero_to : one.to ≡ 0) where
    abbrev F : Finding Purpose × Layer Purpose
    F = judging_step node.layer one.generation one.bytes

    abbrev X : Judged × Whole
    X = received run one.generation one.bytes (whole_of node s.media)

    abbrev V : Judged → WorldState
    V judged = with_note (judged_note serial judged) (marked serial again (with_target X.1.node w))

    was : t.sent serial ≡ Some (as_sending one)
    was = was_sent w here.holds.sound.stands serial one found

    module _ (media : Media) (there : Place units ready start past (record { world = handed_out 0 0 X.1.outbox (V X.0); media = media })) (others : AreOthers X.1.outbox.sides) where
      abbrev After : Judged → Scene
      After judged = record { world = handed_out 0 0 X.1.outbox (V judged); media = media }

      abbrev pub First : Judged → List Moment
      First judged = said (judged_note serial judged) ∷ ms

      -- of this node `unsolicited` is told, and nothing of logins
      abbrev pub HeardOf : ℕ → Type 0
      HeardOf peer = IsHeard node.pending node.logins peer X.1.outbox.sides × AreQuiet X.1.outbox.sides

      -- each packet that nothing wants goes to such a node
      abbrev pub AllHailed : Judged → Type 0
      AllHailed judged = (r : ℕ) → Has (Pushes start (hist past (After judged).world)) r → (terms (First judged)).count < r → Hails (terms (First judged)) (terms (hist past (After judged).world)) nodes HeardOf r

      abbrev Goal : Judged → Type 0
      Goal judged = Place units ready start past (After judged) → Kept start (hist past (After judged).world) (After judged) × AllHailed judged

      -- who comes to be among those that one is pending to is told of
      abbrev AllTold : List ℕ → Type 0
      AllTold pending = (peer : ℕ) → is_listed peer pending ≡ false → is_listed peer X.1.node.pending ≡ true → HeardOf peer

      module _ (judged : Judged) (layer : Layer Purpose) (pending : List ℕ) (clean : Clean (terms (First judged))) (base : Pending nodes (terms (First judged)) (Pushes start (First judged)) layer pending) (tied_first : AreTied nodes (terms (First judged)) layer) (rows : Rows layer X.1.node.layer pending X.1.node.pending) (told_of : AllTold pending) (place : Place units ready start past (After judged)) where
        abbrev marks : ((V judged).target ≡ X.1.node) × (((V judged).initiators ≡ w.initiators) × ((marked serial again (with_target X.1.node w)).fresh ≡ w.fresh))
        marks = marked_same serial again (with_target X.1.node w)

        packets_owned : AllOwned (Fifos ms nodes (V judged).generations) (V judged).target.layer X.1.outbox.packets
        packets_owned = subst (λ (n : NodeState). AllOwned (Fifos ms nodes (V judged).generations) n.layer X.1.outbox.packets) (sym marks.0)
            (all_owned units ready has start past s here (V judged).generations (marked_generations serial again (with_target X.1.node w)) (receives run s.media.disks one.generation one.bytes))

        ties_first : Ties nodes (terms (First judged)) layer
        ties_first = ties_of nodes (terms (First judged)) layer tied_first

        rows_first : Rows layer (V judged).target.layer pending (V judged).target.pending
        rows_first = subst (λ (n : NodeState). Rows layer n.layer pending n.pending) (sym marks.0) rows

        fresh_first : (V judged).fresh ≡ judged_note serial judged ∷ w.fresh
        fresh_first = ap (λ ns. judged_note serial judged ∷ ns) marks.1.1

        count_first : length (V judged).initiators ≡ nodes
        count_first = ap (λ xs. length xs) marks.1.0

        hailed : AllHailed judged
        hailed r h young =
            let j = target_joins units ready has start past s here (judged_note serial judged) X.1.outbox (V judged) media fresh_first place others packets_owned clean count_first layer pending ties_first rows_first r h young in
            let later = subst (λ (n : NodeState). is_listed (Id (terms (First judged)) j.to) n.pending ≡ true) marks.0 j.is_later in
            record { to = j.to; there = j.there; inside = j.inside; heard = told_of (Id (terms (First judged)) j.to) j.not_before later }

        behind_it : Kept start (hist past (After judged).world) (After judged) × AllHailed judged
        behind_it = (
          target_kept units ready has start past s here (judged_note serial judged) X.1.outbox (V judged) media fresh_first place others packets_owned clean count_first layer pending base ties_first rows_first,
          hailed,
        )

      silent_of : Still good.lives node.pending X.1.node → AllTold node.pending
      silent_of h peer f g = untrue (sym f ∙ (sym (ap (is_listed peer) h.pending) ∙ g))

      got_clean : Clean (terms (said (notes.Got serial) ∷ ms))
      got_clean = note_clean units ready has start past s here (notes.Got serial) tt (got_injected serial (as_sending one) t was)

      got_less : Less t (noted (notes.Got serial) t) (Pushes start ms)
      got_less = less_got serial (as_sending one) t (Pushes start ms) was

      -- who has one pending has it still where the rows to him stay
      module _ (layer : Layer Purpose) (tied_now : AreTied nodes (noted (notes.Got serial) t) layer) (n : ℕ) (l : n ≤ nodes) (rows : (number : ℕ) → Row node.layer (Id t n) number → Row layer (Id t n) number) (r : ℕ) (h : Has (Pushes start ms) r) (f : is_pending t n r ≡ true) where
        abbrev y : Terms
        y = noted (notes.Got serial) t

        u : IsUnder t n r
        u = is_under t n r (from_target units ready has start past s here r h) f

        abbrev own : Transaction
        own = Own t n u.number

        -- its label waits
        not_over : y.held own ≡ free → (t.held own ≡ rests → ⊥) → (t.held own ≡ rests) ⊎ ((kind : Kind) × (t.held own ≡ waits kind r)) → ⊥
        not_over e none (inl g) = none g
        not_over e none (inr g) =
            let there = rows u.number (k.push n u.number g.0 r l g.1 h) in
            let id_same : Id y n ≡ Id t n = ap (λ a. y.ids a n) got_less.generation ∙ got_less.ids n in
            let own_same : Own y n u.number ≡ own = ap (λ a. transaction a 0 n u.number) got_less.generation in
            let w = row_waits nodes y layer tied_now n u.number l (subst (λ i. Row layer i u.number) (sym id_same) there) in
            free_waits (y.held own) w.kind w.serial e (ap y.held (sym own_same) ∙ w.is)

        held_same : y.held own ≡ t.held own
        held_same = by (got_frees serial (as_sending one) t was own)
          where
            by : (y.held own ≡ t.held own) ⊎ ((y.held own ≡ free) × (t.held own ≡ rests → ⊥)) → y.held own ≡ t.held own
            by (inl e) = e
            by (inr e) = absurd (not_over e.0 e.1 u.held)

        same_own : (a b : Transaction) → Some a ≡ Some b → a ≡ b
        same_own a b e = cc

        remains_so : is_pending y n r ≡ true
        remains_so = got_alike serial (as_sending one) t was n r (λ v b. subst (λ (x : Transaction). y.held x ≡ t.held x) (same_own own v (sym u.begun ∙ b)) held_same) ∙ f

      remains : (layer : Layer Purpose) → AreTied nodes (noted (notes.Got serial) t) layer → (n : ℕ) → n ≤ nodes → ((number : ℕ) → Row node.layer (Id t n) number → Row layer (Id t n) number) → is_listed (Id t n) node.pending ≡ true → Pends (noted (notes.Got serial) t) (Pushes start ms) n
      remains layer tied_now n l rows e = let x = k.same n l e in (x.0, (x.1.0, remains_so layer tied_now n l rows x.0 x.1.0 x.1.1))

      -- the layer behind the judgement is tied to the terms behind its note
      abbrev Stood : Finding Purpose × Layer Purpose → Type 0
      Stood f = Judges units ready start past s here serial one found zero_to f

      abbrev StoodTied : Finding Purpose → Type 0
      StoodTied f = (l : Layer Purpose) → Stood (f, l) → AreTied nodes (terms (said (notes.Got serial) ∷ repeated units ready start past s here serial one found zero_to)) l

      got_tied : (f : Finding Purpose) (layer : Layer Purpose) → F ≡ (f, layer) → StoodTied f → AreTied nodes (terms (said (notes.Got serial) ∷ ms)) layer
      got_tied f layer e h =
          let r = repeated units ready start past s here serial one found zero_to in
          tied_labels (terms (said (notes.Got serial) ∷ r)) (terms (said (notes.Got serial) ∷ ms)) (gets_same (t.sent serial) serial t) nodes layer
          (h layer (subst Stood e (judged_stands units ready start past s here serial one found zero_to)))

      own_layer : (l : Layer Purpose) → upd (layers_of (without_notes w)) one.to (bare l) 0 ≡ bare l
      own_layer l = ap (λ n. upd (layers_of (without_notes w)) n (bare l) 0) zero_to ∙ upd_own (layers_of (without_notes w)) 0 (bare l)

      -- ---- nothing of the target ends
      still_rows : Still good.lives node.pending X.1.node → Rows node.layer X.1.node.layer node.pending X.1.node.pending
      still_rows h = announced_rows good.lives node.pending node.layer good.mid.known X.1.node (still_announced good.lives node.pending X.1.node h)

      ignored : (cause : Cause) → Still good.lives node.pending X.1.node → Goal (judgements.Ignored cause)
      ignored cause h =
          let note = notes.Ignored serial cause in
          let same = ignored_same (t.sent serial) cause serial t in
          let b = beside_here units ready has start past s here (noted note t) (leaves_same t (noted note t) same) in
          behind_it (judgements.Ignored cause) node.layer node.pending (note_clean units ready has start past s here note tt same.1.1.1.1.0) (beside_base note tt b) (tied_beside nodes t (noted note t) (Pushes start ms) node.layer b tied) (still_rows h) (silent_of h)

      got_request : (p : Packet) (layer : Layer Purpose) → F ≡ (of_request p, layer) → layer ≡ node.layer → Still good.lives node.pending X.1.node → Goal judgements.Got
      got_request p layer e same h =
          let tied_then = subst (AreTied nodes (terms (said (notes.Got serial) ∷ ms))) same (got_tied (of_request p) layer e (λ l z. tied_at _ z l (own_layer l) nodes)) in
          behind_it judgements.Got node.layer node.pending got_clean
          (ends_base (notes.Got serial) tt node.layer node.pending got_less tied_then (λ n number r. r) (λ n number kind call r f. r) (λ n l why f. f)
          (λ n l f. remains node.layer tied_then n l (λ number r. r) f) k.once) tied_then (still_rows h) (silent_of h)

      by_request : (b : Judged) → X.0 ≡ b → (p : Packet) (layer : Layer Purpose) → F ≡ (of_request p, layer) → layer ≡ node.layer → Still good.lives node.pending X.1.node → Goal b
      by_request judgements.Got f p layer e same h = got_request p layer e same h
      by_request (judgements.Ignored cause) f p layer e same h = ignored cause h

      -- ---- a response
      module _ (p : Packet) (label : LabelParts) (purpose : Option Purpose) (layer : Layer Purpose) (e : F ≡ (of_response p label purpose, layer)) (g : Got node good p label purpose layer X.1.node) where
        abbrev source : ℕ
        source = (header_in p).source

        abbrev lives : Lives
        lives = Closed node good source label g.kind purpose

        tied_then : AreTied nodes (terms (said (notes.Got serial) ∷ ms)) layer
        tied_then = got_tied (of_response p label purpose) layer e (λ l z. tied_at _ z l (own_layer l) nodes)

        back : (n number : ℕ) → Row layer (Id t n) number → Row node.layer (Id t n) number
        back n number r = row_back good.lives lives source label (λ q l. refl) node.layer layer good.mid.known g.known (Id t n) number r

        stays : (n number : ℕ) (kind : ReplyKind) (call : ℕ) → Row node.layer (Id t n) number → state_for layer.peers (Id t n) number ≡ states.UnderWay kind call → Row layer (Id t n) number
        stays n number kind call r f = row_kept good.lives lives source label (λ q l. refl) node.layer layer good.mid.known g.known (Id t n) number kind call r f

        over_now : (kind : ReplyKind) (call : ℕ) → state_for layer.peers source label.number ≡ states.UnderWay kind call → ⊥
        over_now kind call f = gone good.lives lives source label (λ q l. refl) node.layer layer good.mid.known g.known g.kind purpose g.life kind call f

        -- a row to another node, or where it is none, stays
        row_on : (n number : ℕ) → ((l : LabelParts) → is_same source label (Id t n) l ≡ true → (kind : ReplyKind) → good.lives (Id t n) l ≡ under_way kind (Some purposes.Unsolicited) → ⊥) → Row node.layer (Id t n) number → Row layer (Id t n) number
        row_on n number other r = row_stays good.lives lives source label (λ q l. refl) node.layer layer good.mid.known g.known (Id t n) number other r

        not_own : (purpose ≡ Some purposes.Unsolicited → ⊥) → (p : ℕ) (l : LabelParts) → is_same source label p l ≡ true → (kind : ReplyKind) → good.lives p l ≡ under_way kind (Some purposes.Unsolicited) → ⊥
        not_own other p l same kind f = other (same_purpose g.kind kind purpose (Some purposes.Unsolicited) (sym g.life ∙ (same_life good.lives source label p l same ∙ f)))

        pub base : (purpose ≡ Some purposes.Unsolicited → ⊥) → Pending nodes (noted (notes.Got serial) t) (Pushes start (said (notes.Got serial) ∷ ms)) layer node.pending
        base other =
            ends_base (notes.Got serial) tt layer node.pending got_less tied_then back stays (λ n l why f. f)
            (λ n l f. remains layer tied_then n l (λ number r. row_on n number (not_own other (Id t n)) r) f) k.once

        rows_of : Announced lives node.pending X.1.node → Rows layer X.1.node.layer node.pending X.1.node.pending
        rows_of a = announced_rows lives node.pending layer g.known X.1.node a

        announced : (purpose ≡ Some purposes.Unsolicited → ⊥) → Announced lives node.pending X.1.node → AllTold node.pending → Goal judgements.Got
        announced other a told_of = behind_it judgements.Got layer node.pending got_clean (base other) tied_then (rows_of a) told_of

        unsaid : (purpose ≡ Some purposes.Unsolicited → ⊥) → Still lives node.pending X.1.node → Goal judgements.Got
        unsaid other h = announced other (still_announced lives node.pending X.1.node h) (λ peer f e. untrue (sym f ∙ (sym (ap (is_listed peer) h.pending) ∙ e)))

      -- the response to an unsolicited status
      module _ (p : Packet) (label : LabelParts) (layer : Layer Purpose) (e : F ≡ (of_response p label (Some purposes.Unsolicited), layer)) (g : Got node good p label (Some purposes.Unsolicited) layer X.1.node) where
        abbrev from_node : ℕ
        from_node = (header_in p).source

        abbrev others_left : List ℕ
        others_left = removed (position (is_node from_node) node.pending) node.pending

        its_row : Row node.layer from_node label.number
        its_row = row_of node.layer good.lives from_node label.number good.mid.known (record { label = label; kind = g.kind; numbered = refl; life = g.life })

        tied_left : AreTied nodes (noted (notes.Got serial) t) layer
        tied_left = tied_then p label (Some purposes.Unsolicited) layer e g

        ended_now : (kind : ReplyKind) (call : ℕ) → state_for layer.peers from_node label.number ≡ states.UnderWay kind call → ⊥
        ended_now kind call f = over_now p label (Some purposes.Unsolicited) layer e g kind call f

        module _ (n : ℕ) (l : n ≤ nodes) (same : Id t n ≡ from_node) where
          row_there : Row node.layer (Id t n) label.number
          row_there = subst (λ i. Row node.layer i label.number) (sym same) its_row

          abbrev v : Transaction
          v = Own t n label.number

          abbrev x : Terms
          x = noted (notes.Got serial) t

          own_is : Own x n label.number ≡ v
          own_is = ap (λ a. transaction a 0 n label.number) got_less.generation

          id_is : Id x n ≡ from_node
          id_is = ap (λ a. x.ids a n) got_less.generation ∙ (got_less.ids n ∙ same)

          -- its transaction is over
          is_over : (r : ℕ) → WaitsFor (t.held v) r → x.held v ≡ free
          is_over r c = by (got_frees serial (as_sending one) t was v)
            where
              by : (x.held v ≡ t.held v) ⊎ ((x.held v ≡ free) × (t.held v ≡ rests → ⊥)) → x.held v ≡ free
              by (inr f) = f.0
              by (inl f) =
                  let u = under_state (state_for layer.peers (Id x n) label.number) c.kind r
                  (tied_left n label.number l ∙ ap shape_of (ap x.held own_is ∙ (f ∙ c.is))) in
                  absurd (ended_now u.kind u.call (ap (λ i. state_for layer.peers i label.number) (sym id_is) ∙ u.is))

          none_pends : (r : ℕ) → Has (Pushes start ms) r → is_pending x n r ≡ true → ⊥
          none_pends r h f =
              let c = k.calm n label.number r l row_there h (got_less.pends n r h f) in
              let a = goes_on.awaited here.holds.sound.stands.wire v c.kind r here.holds.sound.stands.reached (ap (λ (y : Terms). y.held v) (past_terms w here.holds.sound.stands) ∙ c.is) in
              let begun : begun_in (t.sent r) ≡ Some v = ap begun_in (ap (λ (y : Terms). y.sent r) (sym (past_terms w here.holds.sound.stands)) ∙ a.sent) ∙ a.begun in
              untrue (sym (pending_not n r t x v (ap (λ s. s r) (got_sent serial (as_sending one) t was)) begun (is_over r c)) ∙ f)

          none_rows : (number : ℕ) → Row layer (Id t n) number → ⊥
          none_rows number r =
              let b = back p label (Some purposes.Unsolicited) layer e g n number r in
              let same_number = k.one n number label.number l b row_there in
              ended_now r.kind r.serial (ap (λ i. state_for layer.peers i label.number) (sym same) ∙ (ap (λ m. state_for layer.peers (Id t n) m) (sym same_number) ∙ r.waits))

        left_listed : Lists nodes t (noted (notes.Got serial) t) (Pushes start ms) layer node.pending others_left
        left_listed n l why f = by (nat_eq (Id t n) from_node) refl
          where
            here_none : Id t n ≡ from_node → Needs t (noted (notes.Got serial) t) (Pushes start ms) layer n → ⊥
            here_none same (inl (r, (h, q))) = none_pends n l same r h q
            here_none same (inr (number, r)) = none_rows n l same number r

            by : (b : Bool) → nat_eq (Id t n) from_node ≡ b → is_listed (Id t n) others_left ≡ true
            by false z = out_others from_node (Id t n) node.pending z ∙ f
            by true z = absurd (here_none (equal_numbers (Id t n) from_node z) why)

        -- who stands among them still is another node
        remain_left : Remain nodes t (noted (notes.Got serial) t) (Pushes start ms) others_left
        remain_left n l f = by (nat_eq (Id t n) from_node) refl
          where
            by : (b : Bool) → nat_eq (Id t n) from_node ≡ b → Pends (noted (notes.Got serial) t) (Pushes start ms) n
            by true z = untrue (sym (out_none from_node node.pending k.once) ∙ (ap (λ i. is_listed i others_left) (sym (equal_numbers (Id t n) from_node z)) ∙ f))
            by false z =
                remains layer tied_left n l
                (λ number r. row_on p label (Some purposes.Unsolicited) layer e g n number (λ m same kind life. let o = (same_is from_node label (Id t n) m same).peer in absurd (untrue (sym z ∙ (let w : nat_eq (Id t n) from_node ≡ true = grind (arith, nat_tests) in w)))) r)
                (sym (out_others from_node (Id t n) node.pending z) ∙ f)

        settles : Goal judgements.Got
        settles =
            let base_then = ends_base (notes.Got serial) tt layer others_left got_less tied_left (back p label (Some purposes.Unsolicited) layer e g) (stays p label (Some purposes.Unsolicited) layer e g) left_listed remain_left (distinct_out from_node node.pending k.once) in
            behind_it judgements.Got layer others_left got_clean base_then tied_left
            (subst (λ (n : NodeState). Rows layer n.layer others_left n.pending) (sym g.concludes) (rows_same layer others_left))
            (λ peer f e. untrue (sym f ∙ (sym (ap (λ (n : NodeState). is_listed peer n.pending) g.concludes) ∙ e)))

      -- ---- whatever it is found to be
      by_purpose : (p : Packet) (label : LabelParts) (purpose : Option Purpose) (layer : Layer Purpose) → F ≡ (of_response p label purpose, layer) → Got node good p label purpose layer X.1.node → Goal judgements.Got
      by_purpose p label None layer e g = unsaid p label None layer e g none_not g.concludes
      by_purpose p label (Some purposes.Unsolicited) layer e g = settles p label layer e g
      by_purpose p label (Some purposes.Management) layer e g = unsaid p label (Some purposes.Management) layer e g manager_not g.concludes
      by_purpose p label (Some (purposes.Agent place)) layer e g = announced p label (Some (purposes.Agent place)) layer e g (agent_not place) g.concludes told_of
        where
          told_of : AllTold node.pending
          told_of peer f later = by ((heralds node good run s.media.disks one.generation one.bytes p label g.kind place layer e g.known).heard peer later)
            where
              by : (is_listed peer node.pending ≡ true) ⊎ IsHeard node.pending node.logins peer X.1.outbox.sides → HeardOf peer
              by (inl x) = untrue (sym f ∙ x)
              by (inr x) = (x, quiet node good run s.media.disks one.generation one.bytes p label g.kind place layer e g.known)

      judged_by : (f : Finding Purpose) (layer : Layer Purpose) → F ≡ (f, layer) → X.0 ≡ (received_as run one.bytes f (with_layer layer (whole_of node s.media))).0
      unfolding received
      judged_by f layer e = ap (λ (g : Finding Purpose × Layer Purpose). (received_as run one.bytes g.0 (with_layer g.1 (whole_of node s.media))).0) e

      by_finding : (f : Finding Purpose) (layer : Layer Purpose) → F ≡ (f, layer) → IsFound f node.layer layer one.bytes → Hears node good f layer X.1.node → Goal X.0
      by_finding of_generation layer e f h = subst Goal (sym (judged_by of_generation layer e)) (ignored causes.Generation h)
      by_finding of_grammar layer e f h = subst Goal (sym (judged_by of_grammar layer e)) (ignored causes.Grammar h)
      by_finding of_label layer e f h = subst Goal (sym (judged_by of_label layer e)) (ignored causes.Label h)
      by_finding (of_again p rcode) layer e f h = subst Goal (sym (judged_by (of_again p rcode) layer e)) (ignored causes.Again h)
      by_finding (of_response p label purpose) layer e f h = subst Goal (sym (judged_by (of_response p label purpose) layer e)) (by_purpose p label purpose layer e h)
      by_finding (of_request p) layer e f h = by_request X.0 refl p layer e f.0 h

      pub heard_kept : Goal X.0
      heard_kept = by_finding F.0 F.1 refl (found_as node.layer one.generation one.bytes) (hears node good run s.media.disks one.generation one.bytes)

  -- ---- a time-out
  module _ (serial : ℕ) (request : Request) (done : Unit {0}) (x : target.Scene) (found : find w.requests serial ≡ Some request) (zero_is : request.node ≡ 0) (e : expired request.peer request.label (target.scene node empty_outbox) ≡ (Ok done, x)) (others : AreOthers x.outbox.sides) where
    abbrev lapsed : WorldState
    lapsed = with_note (notes.TimedOut serial) (with_target x.node w)

    module _ (there : Place units ready start past (record { world = handed_out 0 0 x.outbox lapsed; media = s.media })) where
      -- nothing is sent that nothing wants
      abbrev pub NoneSpare : Type 0
      NoneSpare = (r : ℕ) → Has (Pushes start (hist past (handed_out 0 0 x.outbox lapsed))) r → (terms (said (notes.TimedOut serial) ∷ ms)).count < r → ⊥

      abbrev Late_goal : Type 0
      Late_goal = Kept start (hist past (handed_out 0 0 x.outbox lapsed)) (record { world = handed_out 0 0 x.outbox lapsed; media = s.media }) × NoneSpare

      module _ (u : Transaction) (kind : Kind) (f : t.held u ≡ waits kind serial) where
        late_begun : begun_in (t.sent serial) ≡ Some u
        late_begun =
            let stands = here.holds.sound.stands in
            let a = goes_on.awaited stands.wire u kind serial stands.reached (ap (λ (y : Terms). y.held u) (past_terms w stands) ∙ f) in
            ap begun_in (ap (λ (y : Terms). y.sent serial) (sym (past_terms w stands)) ∙ a.sent) ∙ a.begun

        late_current : t.current u ≡ serial
        late_current =
            let stands = here.holds.sound.stands in
            let a = goes_on.awaited stands.wire u kind serial stands.reached (ap (λ (y : Terms). y.held u) (past_terms w stands) ∙ f) in
            ap (λ (y : Terms). y.current u) (sym (past_terms w stands)) ∙ sym a.current

        late_less : Less t (noted (notes.TimedOut serial) t) (Pushes start ms)
        late_less = less_late serial t u late_begun (Pushes start ms) kind f late_current

        late_remain : Remain nodes t (noted (notes.TimedOut serial) t) (Pushes start ms) node.pending
        late_remain n l e = let x = k.same n l e in (x.0, (x.1.0, late_alike serial t u late_begun kind f late_current n x.0 ∙ x.1.1))

      expired_is : (stale : Stale) (layer : Layer Purpose) → expiring_step node.layer request.peer request.label ≡ (Err stale, layer) → (expired request.peer request.label (target.scene node empty_outbox)).0 ≡ Err stale
      unfolding expired
      expired_is stale layer z = ap (λ r. (expired_in r request.peer request.label (target.scene node empty_outbox)).0) z

      by_expiring : (r : Result (Option Purpose) Stale × Layer Purpose) → expiring_step node.layer request.peer request.label ≡ r → Lapses node good r request.peer request.label x.node → Late_goal
      by_expiring (Ok purpose, layer) f h =
          let stood = late_stands units ready start past s here serial request found zero_is purpose layer f in
          let own : upd (layers_of w) request.node (bare layer) 0 ≡ bare layer = ap (λ n. upd (layers_of w) n (bare layer) 0) zero_is ∙ upd_own (layers_of w) 0 (bare layer) in
          let tied_late : AreTied nodes (noted (notes.TimedOut serial) t) layer = tied_at (with_note (notes.TimedOut serial) w) stood layer own nodes in
          let lives = Lapsed node good request.peer request.label purpose in
          let asked = lapse_asked units ready has start w here.holds serial request found zero_is purpose layer f in
          let base = ends_base (notes.TimedOut serial) tt layer node.pending (late_less _ _ asked.waits_there) tied_late
          (λ n number r. row_back good.lives lives request.peer request.label (λ q l. refl) node.layer layer good.mid.known h.known (Id t n) number r)
          (λ n number kind call r z. row_kept good.lives lives request.peer request.label (λ q l. refl) node.layer layer good.mid.known h.known (Id t n) number kind call r z) (λ n l why z. z)
          (late_remain _ _ asked.waits_there) k.once in
          let owned = subst (λ (y : target.Scene). AllOwned (Fifos ms nodes w.generations) y.node.layer y.outbox.packets) (ap (λ (z : Result (Unit {0}) Stale × target.Scene). z.1) e) (all_owned units ready has start past s here w.generations refl (lets_expire request.peer request.label)) in
          let clean = note_clean units ready has start past s here (notes.TimedOut serial) tt (late_injected (begun_in (t.sent serial)) t) in
          let ties = ties_of nodes (noted (notes.TimedOut serial) t) layer tied_late in
          let rows = announced_rows lives node.pending layer h.known x.node (still_announced lives node.pending x.node h.still) in (
            target_kept units ready has start past s here (notes.TimedOut serial) x.outbox lapsed s.media refl there others owned clean refl layer node.pending base ties rows,
            λ r q young.
                let j = target_joins units ready has start past s here (notes.TimedOut serial) x.outbox lapsed s.media refl there others owned clean refl layer node.pending ties rows r q young in
                untrue (sym j.not_before ∙ (sym (ap (is_listed (Id (noted (notes.TimedOut serial) t) j.to)) h.still.pending) ∙ j.is_later)),
          )
      by_expiring (Err stale, layer) f h = absurd (stale_not stale done (sym (expired_is stale layer f) ∙ ap (λ (z : Result (Unit {0}) Stale × target.Scene). z.0) e))
        where
          stale_not : (stale : Stale) (done : Unit {0}) → Err stale ≡ Ok done → ⊥
          stale_not stale done z = cc

      pub late_kept : Late_goal
      late_kept =
          by_expiring (expiring_step node.layer request.peer request.label) refl
          (subst (λ (y : target.Scene). Lapses node good (expiring_step node.layer request.peer request.label) request.peer request.label y.node) (ap (λ (z : Result (Unit {0}) Stale × target.Scene). z.1) e) (lapses node good request.peer request.label))
