-- The ORBs of a list that follow each other stand in different slots: the one that was appended last keeps its slot until the next one has its own.
use Rattle.sbp_world.proofs.Words.Std.{arith, ◌≡◌, ◌∙◌, refl, sym, ap, subst, ℕ, zero, suc, ◌<◌, nat_eq, ◌==◌, not, Bool, true, false, cond, List, [], ◌∷◌, ◌++◌, map, length, Option, Some, None, nat_tests, false≢true}
use Rattle.sbp_world.proofs.Words.Wire.{judged_note, buffer_of, empty_outbox, Moment, asked, said, Action, Cmd, Note, Side}
use Rattle.sbp_world.proofs.Words.Target.{Told}
use Rattle.sbp_world.proofs.Words.Initiator.{InitiatorState, PresentList, SlotTable, is_free, own_rom, slot_calls_after, slot_in, act_step, Turn, new_state, expire_step, receive_step, see_step, own}
use Rattle.sbp_world.proofs.Words.Laws.{action_notes, append_notes, appends, list_for, lists, lowest_vacant, new_list, new_number, EachMoment, present_list, slot_at, slots}
use Rattle.sbp_world.proofs.Words.World.{history_of, Run, after, beginning, MayAll, after_all, begun, behind, AreRows, IfLast, IfList, IsRun, LastFits, more_deliveries, present_in, row, terms_at}
use Rattle.orb_list.specs.Holds.{HoldsPresent, IsSound}
use Rattle.orb_list.proofs.Steps.{held_law}
use Rattle.sbp_initiator.proofs.Histories.Slotted.{slot_law}
use Rattle.sbp_journal.specs.declared.event.Action.TheVariants as actions
use Rattle.sbp_journal.specs.declared.event.Event.TheVariants as events
use Rattle.sbp_journal.specs.declared.note.Note.TheVariants as notes
use Rattle.sbp_journal.specs.declared.side.Side.TheVariants as sides
use Rattle.sbp_world.specs.Hosts.Calls.{by_side}
use Rattle.sbp_world.proofs.Hosts.Carried.{between_runs, of_runs}
use Rattle.sbp_world.proofs.Hosts.Carries.{Carries, Does, Tells, is_apart}
use Rattle.sbp_world.proofs.Hosts.OrbRuns.{Orbs, Rowed, first_orbs, orbs_carried, rows_known}
use Rattle.sbp_world.proofs.Hosts.OrbTells as tell
use Rattle.sbp_world.proofs.Hosts.OrbTerms.{AreStill, IsStill, is_left}
use Rattle.sbp_world.proofs.Hosts.Passes.{judged_apart}
use Rattle.sbp_world.proofs.Hosts.Telling.{action_law}
use Rattle.sbp_world.proofs.Lists.Appends.{lowest_free}

-- an append has the next number, and the ORB before it stands in another slot
pub record IsBehind (past : List Moment) (i n k : ℕ) : Type 0 where
  pub number : k ≡ appends past i n
  pub apart : (before : ℕ) → suc before ≡ k → slot_at past i n before ≡ lowest_vacant (slots past i) → ⊥

abbrev pub BehindAt : ℕ → Moment → List Moment → Type 0
BehindAt i (said (notes.Append j n k cdb buffer)) past = j ≡ i → IsBehind past j n k
BehindAt i moment past = Unit {0}

-- ---- what is told of no append of the initiator
here : (i j : ℕ) → not (i == j) ≡ true → j ≡ i → ⊥
here i j e same = false≢true (sym (ap not (let z : nat_eq i j ≡ true = grind (arith, nat_tests) in z)) ∙ e)

left_behind : (note : Note) (past : List Moment) (i : ℕ) → is_left i note ≡ true → BehindAt i (said note) past
left_behind (notes.Append j n k cdb buffer) past i e = λ same. absurd (here i j e same)
left_behind _ past i e = tt

apart_behind : (note : Note) (past : List Moment) (i : ℕ) → is_apart i note ≡ true → BehindAt i (said note) past
apart_behind (notes.Append j n k cdb buffer) past i e = λ same. absurd (here i j e same)
apart_behind _ past i e = tt

abbrev pub AreBehind : List Moment → ℕ → Type 0
AreBehind past i = EachMoment (BehindAt i) past

still_behind : (told : List Side) (past : List Moment) (i : ℕ) → AreStill told → AreBehind past i → AreBehind (behind told past) i
still_behind [] past i q h = h
still_behind (side ∷ told) past i q h = still_behind told (by_side side past) i q.1 (one_side side past i q.0 h)
  where
    one_side : (side : Side) (past : List Moment) (i : ℕ) → IsStill side → AreBehind past i → AreBehind (by_side side past) i
    one_side (sides.Own note) past i q h = (left_behind note past i (q i), h)
    one_side _ past i q h = absurd q

-- ---- an append
module _ (past : List Moment) (i : ℕ) (table : SlotTable) (rows : AreRows past i table) (sound : IsSound table) where
  abbrev n : ℕ
  n = new_list past i

  abbrev free : ℕ
  free = lowest_vacant (slots past i)

  tail_apart : (found : Option PresentList) → table.present ≡ found → present_list past i ≡ present_in found → (before : ℕ) → suc before ≡ appends past i n → slot_at past i n before ≡ free → ⊥
  tail_apart None f p before e at =
      let new : n ≡ lists past i = ap (λ o. list_for past i o) p in
      let begun_is = rows.fits.begun in
      let none : appends past i (lists past i) ≡ 0 = rows.fits.to_come.appended (lists past i) (omega (arith, begun_is)) in
      let here : appends past i n ≡ 0 = ap (λ a. appends past i a) new ∙ none in
      absurd (omega (arith, here, e))
  tail_apart (Some list) f p before e at =
      let new : n ≡ list.tail.list = ap (λ o. list_for past i o) p in
      let fits = subst (IfList (terms_at past i) table.slots table.lists) f rows.fits.list in
      let holds = (subst (HoldsPresent table.slots table.acts) f sound.present).tail in
      let last : LastFits table.lists (appends past i) (slot_at past i) list.tail.slot list.tail = subst (IfLast table.lists (appends past i) (slot_at past i) list.tail.slot) holds.last (rows.fits.last list.tail.slot holds.below) in
      let counted : appends past i n ≡ suc list.tail.number = ap (λ a. appends past i a) new ∙ fits.appended in
      let before_is : before ≡ list.tail.number = omega (arith, e, counted) in
      let stands : slot_at past i n before ≡ list.tail.slot = ap (λ a. slot_at past i a before) new ∙ (ap (λ a. slot_at past i list.tail.list a) before_is ∙ last.at) in
      let low : lowest_vacant (map row table.slots) ≡ list.tail.slot = sym (ap lowest_vacant rows.rows_are) ∙ (sym at ∙ stands) in
      let inside : list.tail.slot < length table.slots = let z = rows.fits.size in let b = holds.below in omega (arith, z, b) in
      let vacant = lowest_free table.slots (subst (λ k. k < length table.slots) (sym low) inside) in
      false≢true (sym holds.held ∙ subst (λ k. is_free (slot_in table.slots k) ≡ true) low vacant)

  next_behind : IsBehind past i n (new_number past i)
  next_behind = record { number = refl; apart = λ before e at. tail_apart table.present refl rows.fits.present before e at }

-- ---- the notes of an action
module _ (past : List Moment) (i : ℕ) (j : ℕ) (h : AreBehind past j) (next : IsBehind past i (new_list past i) (new_number past i)) where
  append_on : (n k : ℕ) (cmd : Cmd) → IsBehind past i n k → AreBehind (said (notes.Append i n k cmd.cdb (buffer_of cmd)) ∷ past) j
  append_on n k cmd b = (λ same. b, h)

  appended : (n k : ℕ) (cmd : Cmd) → IsBehind past i n k → AreBehind (behind (own (append_notes i n k cmd)) past) j
  appended n zero cmd b = (tt, append_on n 0 cmd b)
  appended n (suc k) cmd b = (tt, (tt, (tt, append_on n (suc k) cmd b)))

  action_behind : (action : Action) → AreBehind (behind (own (action_notes action past i)) past) j
  action_behind (actions.Put cmd) = append_on (new_list past i) (new_number past i) cmd next
  action_behind (actions.Append cmd) = appended (new_list past i) (new_number past i) cmd next
  action_behind actions.Low = (tt, h)
  action_behind actions.Link = (tt, h)
  action_behind actions.Ring = (tt, h)
  action_behind (actions.Dummy k) = (tt, h)
  action_behind (actions.Abort k) = h
  action_behind actions.Rom = h
  action_behind actions.AgentReset = h
  action_behind actions.State = h
  action_behind actions.Enable = h
  action_behind (actions.Login unit reconnect exclusive password) = h
  action_behind (actions.Query unit) = h
  action_behind actions.Reconnect = h
  action_behind actions.Logout = h
  action_behind actions.AbortSet = h
  action_behind actions.UnitReset = h
  action_behind actions.TargetReset = h

-- ---- a run
record Behinds (ready : Bool) (past : List Moment) (i : ℕ) (s : InitiatorState) : Type 0 where
  orbs : Orbs ready past i s
  all : AreBehind past i

module _ (ready : Bool) where
  tells_on : (past : List Moment) (i : ℕ) (t : Turn) → AreStill t.0.sides → Tells (Orbs ready) past i t → AreBehind past i → Tells (Behinds ready) past i t
  tells_on past i t q orbs h = record {
    own = record { orbs = orbs.own; all = still_behind t.0.sides past i q h };
    others = λ j x e k. record { orbs = orbs.others j x e k.orbs; all = still_behind t.0.sides past j q k.all };
  }

  module _ (action : Action) (past : List Moment) (i : ℕ) (s : InitiatorState) (no_refusal : (act_step action empty_outbox s).0 ≡ None) (known : Rowed past i s) (h : Behinds ready past i s) where
    abbrev t : Turn
    t = (act_step action empty_outbox s).1

    sides_are : t.0.sides ≡ own (action_notes action past i)
    sides_are =
        action_law.notes past s action empty_outbox (subst (λ j. AreRows past j s.lists.slots) (sym h.orbs.number) known.rows) no_refusal
        ∙ ap (λ j. own (action_notes action past j)) h.orbs.number

    sound : IsSound s.lists.slots
    sound =
        subst IsSound ((slot_law i ready h.orbs.calls h.orbs.called).table ∙ ap (λ (x : InitiatorState). x.lists.slots) h.orbs.is)
        (held_law.run_sound (slot_calls_after i ready h.orbs.calls) (own_rom i))

    behind_on : (j : ℕ) → AreBehind past j → AreBehind (behind t.0.sides past) j
    behind_on j k = subst (λ told. AreBehind (behind told past) j) (sym sides_are) (action_behind past i j k (next_behind past i s.lists.slots known.rows sound) action)

    does_on : Does (Orbs ready) past i t → Does (Behinds ready) past i t
    does_on d = record {
      others = λ j x e k. record { orbs = d.others j x e k.orbs; all = behind_on j k.all };
      quiet = λ silent. record { orbs = d.quiet silent; all = behind_on i h.all };
      asking = λ packet one serial generation f q. record { orbs = d.asking packet one serial generation f q; all = (tt, behind_on i h.all) };
    }

  behinds_carried : Carries Rowed (Behinds ready)
  behinds_carried =
      let c = orbs_carried ready in
      record {
        known = λ line event past i s r. c.known line event past i s r;
        number = λ past i s h. h.orbs.number;
        asked = λ line event past i s h. record { orbs = c.asked line event past i s h.orbs; all = (tt, h.all) };
        apart = λ note past i s e elsewhere h. record { orbs = c.apart note past i s e elsewhere h.orbs; all = (apart_behind note past i e, h.all) };
        sent = λ serial generation from to bytes past i s n h. record { orbs = c.sent serial generation from to bytes past i s n h.orbs; all = (tt, h.all) };
        hears = λ serial generation bytes past i s heard shown after h.
            let note = judged_note serial (receive_step generation bytes empty_outbox s).0 in
            tells_on (said note ∷ past) i (receive_step generation bytes empty_outbox s).1 (tell.receives generation bytes empty_outbox s tt) (c.hears serial generation bytes past i s heard shown after h.orbs)
            (apart_behind note past i (judged_apart serial (receive_step generation bytes empty_outbox s).0 i), h.all);
        expires = λ serial label past i s shown h.
            tells_on (said (notes.TimedOut serial) ∷ past) i (expire_step label empty_outbox s).1 (tell.expires label empty_outbox s tt) (c.expires serial label past i s shown h.orbs) (tt, h.all);
        stale = λ label past i s e h. record { orbs = c.stale label past i s e h.orbs; all = h.all };
        sees = λ generation id target past i s e h.
            tells_on (said (notes.Seen (suc i) generation) ∷ past) i (see_step generation id target empty_outbox s) (tell.sees generation id target empty_outbox s tt) (c.sees generation id target past i s e h.orbs) (tt, h.all);
        acts = λ action past i s line fit d shown known h. does_on action past i s d known h (c.acts action past i s line fit d shown known h.orbs);
      }

first_behind : (line i initiators : ℕ) (ready : Bool) → Behinds ready (said (notes.Begin initiators ready) ∷ asked line (events.Begin initiators ready) ∷ []) i (new_state i ready)
first_behind line i initiators ready = record { orbs = first_orbs line i initiators ready; all = (tt, (tt, tt)) }

pub all_behind : (line : ℕ) (run : Run) → IsRun run → (i : ℕ) → i < run.initiators → AreBehind (history_of line run) i
all_behind line run r i b = (of_runs (Behinds run.ready) (behinds_carried run.ready) line run (rows_known line run) (λ j c. first_behind line j run.initiators run.ready) r i b).all

pub behind_between : (line : ℕ) (run : Run) → IsRun run → (next : ℕ) (most : Option ℕ) (told : List (Option Told)) → MayAll told (begun (after (beginning run) run.entries)) → (i : ℕ) → i < run.initiators → AreBehind (map said (after_all told (begun (after (beginning run) run.entries))).world.fresh ++ asked next (more_deliveries most) ∷ history_of line run) i
behind_between line run r next most told m i b =
    (between_runs (Behinds run.ready) (behinds_carried run.ready) line run (rows_known line run) (λ j c. first_behind line j run.initiators run.ready) r next most told m i b).all

-- ---- two ORBs of a list
pub slots_differ : (past : List Moment) (i : ℕ) → AreBehind past i → (n k : ℕ) → suc k < appends past i n → slot_at past i n k ≡ slot_at past i n (suc k) → ⊥
slots_differ [] i h n k more same = absurd (omega (arith, more))
slots_differ (said (notes.Append j m l cdb buffer) ∷ past) i h n k more same =
    at (slots_differ past i h.1 n k) (nat_eq i j) refl (nat_eq n m) refl (nat_eq k l) refl (nat_eq (suc k) l) refl more same
  where
    at : (suc k < appends past i n → slot_at past i n k ≡ slot_at past i n (suc k) → ⊥) → (x : Bool) → nat_eq i j ≡ x → (y : Bool) → nat_eq n m ≡ y → (z : Bool) → nat_eq k l ≡ z → (v : Bool) → nat_eq (suc k) l ≡ v → suc k < cond x (cond y (suc (appends past j m)) (appends past i n)) (appends past i n)
        → cond x (cond y (cond z (lowest_vacant (slots past j)) (slot_at past i n k)) (slot_at past i n k)) (slot_at past i n k) ≡ cond x (cond y (cond v (lowest_vacant (slots past j)) (slot_at past i n (suc k))) (slot_at past i n (suc k))) (slot_at past i n (suc k)) → ⊥
    at before false e y f z g v p more same = before more same
    at before true e false f z g v p more same = before more same
    at before true e true f true g true p more same =
        let one : k ≡ l = grind (arith, nat_tests) in
        let other : suc k ≡ l = grind (arith, nat_tests) in
        absurd (omega (arith, one, other))
    at before true e true f false g true p more same =
        let same_i : i ≡ j = grind (arith, nat_tests) in
        let same_n : n ≡ m = grind (arith, nat_tests) in
        let next : suc k ≡ l = grind (arith, nat_tests) in
        (h.0 (sym same_i)).apart k next (ap (λ a. slot_at past a m k) (sym same_i) ∙ (ap (λ a. slot_at past i a k) (sym same_n) ∙ same))
    at before true e true f true g false p more same =
        let same_i : i ≡ j = grind (arith, nat_tests) in
        let one : k ≡ l = grind (arith, nat_tests) in
        let number = (h.0 (sym same_i)).number in
        absurd (omega (arith, one, number, more))
    at before true e true f false g false p more same =
        let same_i : i ≡ j = grind (arith, nat_tests) in
        let same_n : n ≡ m = grind (arith, nat_tests) in
        let off : suc k ≡ l → ⊥ = λ q. false≢true (sym p ∙ (let z : nat_eq (suc k) l ≡ true = grind (arith, nat_tests) in z)) in
        let number = (h.0 (sym same_i)).number in
        let counted : appends past j m ≡ appends past i n = ap (λ a. appends past a m) (sym same_i) ∙ ap (λ a. appends past i a) (sym same_n) in
        before (omega (arith, off, number, more, counted)) same
slots_differ (_ ∷ past) i h n k more same = slots_differ past i h.1 n k more same
