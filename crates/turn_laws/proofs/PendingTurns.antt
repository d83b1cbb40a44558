-- What is carried of the target's unsolicited statuses from place to place: it holds where a run begins, a call of another node leaves it, and a call of the target keeps it where
-- each packet that it hands out has its row.
use Rattle.std.proofs.Common.{arith, ◌≡◌, ◌∙◌, refl, sym, ap, subst, ℕ, ◌+◌, ◌<◌, ◌≤◌, ◌==◌, ◌&&◌, ◌||◌, nat_eq, true, false, List, [], ◌∷◌, ◌++◌, length, map, Some}
use Rattle.std.proofs.lemmas.Bool.Decides.{nat_tests}
use Rattle.bus_transactions.specs.Packets.{SerialsCount}
use Rattle.bus_transactions.specs.Sent.{AreSent}
use Rattle.bus_transactions.proofs.Facts.{asked_is, begun_asked}
use Rattle.bus_transactions.proofs.Reaches.{goes_on}
use Rattle.label_table.specs.Layer.{Layer}
use Rattle.label_table.specs.Peers.{state_for}
use Rattle.label_table.specs.declared.place.LabelState.TheVariants as states
use Rattle.rbc_disk.specs.Disk.{Disk}
use Rattle.rbc_disk.specs.Held.{Held as Media}
use Rattle.sbp_journal.specs.Outgoings.{OutboxState}
use Rattle.sbp_journal.specs.Run.{Moment, asked, said}
use Rattle.sbp_journal.specs.Transactions.{Transaction, begun_by}
use Rattle.sbp_journal.specs.Wire.{Terms, ids_of, noted, opened, terms, waits}
use Rattle.sbp_journal.specs.declared.event.Event.{Event}
use Rattle.sbp_journal.specs.declared.event.Event.TheVariants as events
use Rattle.sbp_journal.specs.declared.note.Note.{Note}
use Rattle.sbp_laws.specs.Packets.{begun_in, receiver_in, rests_for, waits_for}
use Rattle.sbp_laws.specs.Targets.{is_serial, known_at, target_at}
use Rattle.sbp_target.specs.Nodes.{NodeState}
use Rattle.sbp_target.specs.Units.{is_pending as is_listed}
use Rattle.sbp_target.specs.declared.purpose.Purpose.{Purpose}
use Rattle.sbp_world.specs.Handing.{handed_out}
use Rattle.sbp_world.specs.Worlds.{Scene, WorldState}
use Rattle.sbp_world.proofs.Agents.Management.Holding.{past_terms}
use Rattle.sbp_world.proofs.Agents.Management.Still.{hist}
use Rattle.sbp_world.proofs.Agents.Purposes.{labels}
use Rattle.sbp_world.proofs.Common.{untrue}
use Rattle.sbp_world.proofs.Lists.IdsOwned.{aged_at}
use Rattle.sbp_world.proofs.Wire.Bus.{holds}
use Rattle.sbp_world.proofs.Wire.Nodes.{handed_alike}
use Rattle.sbp_world.proofs.Wire.Starts.{laws_of}
use Rattle.sbp_world.specs.Wire.Wires.{Stands}
use Rattle.turn_laws.proofs.Handed.{handed, handed_fresh, onto}
use Rattle.turn_laws.proofs.LaterNotes.{ArePlain, FromTarget, counts_before, notes_later, pushed_from}
use Rattle.turn_laws.proofs.LaterTerms.{Clean, Later, Own, Pushes, free_waits}
use Rattle.turn_laws.proofs.PendingFirsts.{Beside, LeavesOwn, beside_of, less_beside, tied_beside}
use Rattle.turn_laws.proofs.PendingKept.{ArePending, AreSent as AllSent, AreTied, HaveRows, Id, IsOnce, Pending, Rows, Ties, first_kept, row_waits, rows_same, step_kept, ties_of}
use Rattle.turn_laws.proofs.PendingTerms.{Lasts, upd_other}
use Rattle.turn_laws.proofs.Places.{Place}
use Rattle.turn_laws.proofs.PushSerials.{Apart, Has, counted, line_count, note_count}
use Rattle.turn_laws.proofs.SerialsStay.{IsNoSent, ends_turn, note_goes}
use Rattle.turn_laws.proofs.StatusOnce.{Distinct}
use Rattle.turn_laws.proofs.StatusRows.{Row}

abbrev pub Kept : List Disk → List Moment → Scene → Type 0
Kept start ms s = Pending (length s.world.initiators) (terms ms) (Pushes start ms) s.world.target.layer s.world.target.pending

-- ---- a serial that is waited for is of one transaction
pub once_at : {past : List Moment} (w : WorldState) → Stands past w → IsOnce (terms (hist past w))
once_at w stands s v x kind other e f =
    let a = goes_on.awaited stands.wire v kind s stands.reached (ap (λ (y : Terms). y.held v) (past_terms w stands) ∙ e) in
    let b = goes_on.awaited stands.wire x other s stands.reached (ap (λ (y : Terms). y.held x) (past_terms w stands) ∙ f) in
    let packets : Some a.packet ≡ Some b.packet = sym a.sent ∙ b.sent in
    let packet_is : a.packet ≡ b.packet = cc in
    let begun : Some v ≡ Some x = sym a.begun ∙ ap begun_by packet_is ∙ b.begun in
    cc

-- and is pending to its node
pub awaited_pends : {past : List Moment} (w : WorldState) (stands : Stands past w) (nodes : ℕ) → ArePending nodes (terms (hist past w))
awaited_pends w stands nodes n number kind s l e =
    let t = terms (hist _ w) in
    let v = Own t n number in
    let a = goes_on.awaited stands.wire v kind s stands.reached (ap (λ (y : Terms). y.held v) (past_terms w stands) ∙ e) in
    let q = a.packet in
    let sent : t.sent s ≡ Some q = ap (λ (y : Terms). y.sent s) (sym (past_terms w stands)) ∙ a.sent in
    let asks = asked_is q v (begun_asked q v a.begun).1 in
    let to_is : q.to ≡ n = ap (λ (x : Transaction). x.responder) (sym asks.is) in
    let to_there : nat_eq q.to n ≡ true = grind (arith, nat_tests) in
    let own_now : nat_eq (t.generation 0) (t.generation 0) ≡ true = grind (arith, nat_tests) in
    let own : nat_eq s s ≡ true = grind (arith, nat_tests) in
    ap (λ so. is_serial (receiver_in so) n && (waits_for t (begun_in so) s || rests_for t (begun_in so) s)) sent
    ∙ (ap (λ o. is_serial (Some q.to) n && (waits_for t o s || rests_for t o s)) a.begun
    ∙ (ap (λ h. is_serial (Some q.to) n && Lasts (t.generation 0) h (t.current v) v s) e
    ∙ (ap (λ b. b && Lasts (t.generation 0) (waits kind s) (t.current v) v s) to_there
    ∙ (ap (λ g. (g && (s == s)) || ((g && false) && (t.current v == s))) own_now ∙ ap (λ b. b || ((true && false) && (t.current v == s))) own))))

-- ---- a moment that is beside the target
module _ (nodes : ℕ) (start : List Disk) (ms now : List Moment) (layer : Layer Purpose) (pending : List ℕ) (tied : AreTied nodes (terms ms) layer) (k : Pending nodes (terms ms) (Pushes start ms) layer pending) where
  pub beside_kept : Beside (terms ms) (terms now) (Pushes start ms) → Pushes start now ≡ Pushes start ms → Pending nodes (terms now) (Pushes start now) layer pending
  beside_kept b e =
      subst (λ xs. Pending nodes (terms now) xs layer pending) (sym e)
      (first_kept nodes (terms ms) (terms now) (Pushes start ms) layer layer pending pending k (less_beside (terms ms) (terms now) (Pushes start ms) b)
      (tied_beside nodes (terms ms) (terms now) (Pushes start ms) layer b tied)
      (λ n number r. r) (λ n number kind call r e. r) (λ n l why e. e)
      (λ n l f. let x = k.same n l f in (x.0, (x.1.0, b.pends n x.0 x.1.0 ∙ x.1.1))) k.once)

pub note_pushes : (start : List Disk) (note : Note) (past : List Moment) → IsNoSent note → Pushes start (said note ∷ past) ≡ Pushes start past
note_pushes start note past i = (note_goes (Apart 0) refl note past (known_at start past).wire (target_at start past) i).pushes

pub line_pushes : (start : List Disk) (line : ℕ) (event : Event) (past : List Moment) → Pushes start (asked line event ∷ past) ≡ Pushes start past
line_pushes start line event past = (ends_turn (Apart 0) refl (target_at start past)).pushes

-- ---- behind what is handed out, on a history
module _ (units ready : ℕ) (has : 0 < units) (start : List Disk) (past : List Moment) (old : List Note) (from weight : ℕ) (outbox : OutboxState) (v : WorldState) (media : Media) (fresh_is : v.fresh ≡ old) (there : Place units ready start past (record { world = handed_out from weight outbox v; media = media })) where
  abbrev behind : WorldState
  behind = handed_out from weight outbox v

  abbrev base : List Moment
  base = map said old ++ past

  abbrev now : List Moment
  now = hist past behind

  all_is : behind.fresh ≡ onto (handed from weight outbox v) old
  all_is = handed_fresh from weight outbox v ∙ ap (onto (handed from weight outbox v)) fresh_is

  serials : SerialsCount (map said (onto (handed from weight outbox v) old) ++ past)
  serials = subst (λ ns. SerialsCount (map said ns ++ past)) all_is (laws_of past behind there.holds.sound.stands).serials

  module _ (Q : ℕ → List ℕ → Type 0) (plain : ArePlain Q from (handed from weight outbox v)) (clean : Clean (terms base)) where
    pub turn_later : Later start from Q base now
    turn_later =
        subst (λ ns. Later start from Q base (map said ns ++ past)) (sym all_is)
        (notes_later start from Q (handed from weight outbox v) old past plain serials (subst (λ ns. AreSent (map said ns ++ past)) all_is (laws_of past behind there.holds.sound.stands).sent) clean)

    pub small : (s : ℕ) → Has (Pushes start base) s → s ≤ (terms base).count
    small s h = (counted start base (counts_before (handed from weight outbox v) old past serials)).pushes s h

    abbrev Done : Type 0
    Done = Kept start now (record { world = behind; media = media })

    abbrev Owned : ℕ → Type 0
    Owned nodes = HaveRows nodes start from Q base now behind.target.layer

    tied_behind : (nodes : ℕ) → length behind.initiators ≡ nodes → AreTied nodes (terms now) behind.target.layer
    tied_behind nodes e n number l = labels units ready has start behind there.holds n number

    abbrev Grown : Layer Purpose → List ℕ → Type 0
    Grown layer pending = Rows layer behind.target.layer pending behind.target.pending

    pub turn_kept : (nodes : ℕ) → length behind.initiators ≡ nodes → (layer : Layer Purpose) (pending : List ℕ) → Pending nodes (terms base) (Pushes start base) layer pending → Ties nodes (terms base) layer → Grown layer pending → Owned nodes → AllSent nodes start base now layer behind.target.layer → Done
    turn_kept nodes e layer pending k ties rows owned sent =
        subst (λ n. Pending n (terms now) (Pushes start now) behind.target.layer behind.target.pending) (sym e)
        (step_kept nodes start from Q base now turn_later layer behind.target.layer pending behind.target.pending k small rows owned (record { once = once_at behind there.holds.sound.stands; ties = ties; tied = tied_behind nodes e; sent = sent; waiting = awaited_pends behind there.holds.sound.stands nodes }))

-- ---- at a place
module _ (units ready : ℕ) (has : 0 < units) (start : List Disk) (past : List Moment) (s : Scene) (here : Place units ready start past s) where
  abbrev w : WorldState
  w = s.world

  abbrev ms : List Moment
  ms = hist past w

  abbrev t : Terms
  t = terms ms

  abbrev nodes : ℕ
  nodes = length w.initiators

  pub tied_here : AreTied nodes t w.target.layer
  tied_here n number l = labels units ready has start w here.holds n number

  pub from_target : (r : ℕ) → Has (Pushes start ms) r → FromTarget (t.sent r)
  from_target r h = pushed_from start ms (laws_of past w here.holds.sound.stands).serials r h

  pub clean_here : Clean t
  clean_here r l =
      let stands = here.holds.sound.stands in
      let low : (terms stands.wire.past).count < r = subst (λ (y : Terms). y.count < r) (sym (past_terms w stands)) l in
      subst (λ (y : Terms). y.injected r ≡ false) (past_terms w stands) ((holds stands.wire stands.reached).facts.unsent r low).honest

  pub beside_here : (x : Terms) → LeavesOwn t x → Beside t x (Pushes start ms)
  beside_here x l = beside_of t x (Pushes start ms) from_target l

  -- a line is asked for
  line_leaves : (event : Event) → LeavesOwn t (opened event t)
  line_leaves (events.Reset physical) = record {
    generation = refl;
    ids = λ n. let old = aged_at units ready start w here.holds in let other : nat_eq (t.bus + 1) (t.generation 0) ≡ false = grind (arith, nat_tests) in ap (λ f. f n) (upd_other t.ids (t.bus + 1) (t.generation 0) (ids_of physical) other);
    sent = refl;
    held = λ v z. refl;
    current = λ v z. refl;
  }
  line_leaves (events.Repeat serial) = record { generation = refl; ids = λ n. refl; sent = refl; held = λ v z. refl; current = λ v z. refl }
  line_leaves event = record { generation = refl; ids = λ n. refl; sent = refl; held = λ v z. refl; current = λ v z. refl }

  pub line_beside : (event : Event) → Beside t (opened event t) (Pushes start ms)
  line_beside event = beside_here (opened event t) (line_leaves event)

  pub line_clean : (line : ℕ) (event : Event) → Clean (terms (asked line event ∷ ms))
  line_clean line event r l = by event r (let c = line_count event t in omega (arith, c, l))
    where
      by : (e : Event) (r : ℕ) → t.count < r → (opened e t).injected r ≡ false
      by (events.Reset physical) r k = clean_here r k
      by (events.Repeat serial) r k = clean_here r k
      by e r k = clean_here r k

  pub note_clean : (note : Note) → IsNoSent note → (noted note t).injected ≡ t.injected → Clean (terms (said note ∷ ms))
  note_clean note i e r l = ap (λ f. f r) e ∙ clean_here r (let c = note_count note t i in omega (arith, c, l))

  -- ---- a call of another node, behind its first note
  module _ (k : Kept start ms s) (old : List Note) (then : List Moment) (from weight : ℕ) (other : from ≡ 0 → ⊥) (outbox : OutboxState) (v : WorldState) (fresh_is : v.fresh ≡ old) (there : Place units ready start then (record { world = handed_out from weight outbox v; media = s.media })) where
    abbrev First : List Moment
    First = map said old ++ then

    abbrev Behind : Scene
    Behind = record { world = handed_out from weight outbox v; media = s.media }

    abbrev AllPlain : Type 0
    AllPlain = ArePlain (λ to bytes. Unit {0}) from (handed from weight outbox v)

    pub own_kept : AllPlain → Clean (terms First) → Beside t (terms First) (Pushes start ms) → Pushes start First ≡ Pushes start ms → v.target ≡ w.target → length v.initiators ≡ nodes → Kept start (hist then Behind.world) Behind
    own_kept plain clean b pushes target count =
        let base = map said old ++ then in
        let alike = handed_alike from weight outbox v in
        let same = alike.target ∙ target in
        turn_kept units ready has start then old from weight outbox v s.media fresh_is there (λ to bytes. Unit {0}) plain clean
        nodes (ap (λ xs. length xs) alike.initiators ∙ count) w.target.layer w.target.pending
        (beside_kept nodes start ms base w.target.layer w.target.pending tied_here k b pushes)
        (ties_of nodes (terms base) w.target.layer (tied_beside nodes t (terms base) (Pushes start ms) w.target.layer b tied_here))
        (subst (λ x. Rows w.target.layer x.layer w.target.pending x.pending) (sym same) (rows_same w.target.layer w.target.pending))
        (λ z. absurd (other z))
        (λ n number kind r l q fresh writes young e. absurd (fresh q.kind q.serial (subst (λ (x : NodeState). state_for x.layer.peers (Id (terms base) n) number ≡ states.UnderWay q.kind q.serial) same q.waits)))

-- ---- where a run begins
-- nothing was sent yet
pub record IsNew (start : List Disk) (ms : List Moment) (pending : List ℕ) : Type 0 where
  pub none : Pushes start ms ≡ []
  pub free_all : (v : Transaction) → (terms ms).held v ≡ (terms []).held v
  pub idle : pending ≡ []

pub begun_kept : (units ready : ℕ) (has : 0 < units) (start : List Disk) (past : List Moment) (s : Scene) → Place units ready start past s → IsNew start (hist past s.world) s.world.target.pending → Kept start (hist past s.world) s
begun_kept units ready has start past s here new =
    let tied = tied_here units ready has start past s here in
    let nodes = length s.world.initiators in
    let t = terms (hist past s.world) in
    let layer = s.world.target.layer in
    let no_row : (n number : ℕ) → n ≤ nodes → Row layer (Id t n) number → ⊥ = λ n number l r. (let x = row_waits nodes t layer tied n number l r in free_waits (t.held (Own t n number)) x.kind x.serial (new.free_all (Own t n number)) x.is) in
    record {
      pends = λ n r l h. absurd (subst (λ xs. Has xs r) new.none h);
      push = λ n number kind r l e h. absurd (subst (λ xs. Has xs r) new.none h);
      full = λ n number l r. absurd (no_row n number l r);
      one = λ n a b l r q. absurd (no_row n a l r);
      calm = λ n number r l q h. absurd (no_row n number l q);
      row = λ n number kind r l q e. absurd (no_row n number l q);
      same = λ n l e. untrue (ap (is_listed (Id t n)) (sym new.idle) ∙ e);
      once = subst Distinct (sym new.idle) tt;
    }
