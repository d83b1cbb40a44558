-- What an action that is done leaves of an initiator's page tables and its buffers.
use Rattle.sbp_world.proofs.Words.Std.{arith, ◌≡◌, refl, sym, ◌∙◌, ap, subst, ℕ, zero, suc, ◌<◌, ◌==◌, not, is_some, Bool, true, false, List, [], ◌∷◌, ◌++◌, Option, Some, None, Ok, position-Some}
use Rattle.sbp_world.proofs.Words.Wire.{buffer_of, empty_outbox, Moment, said, Action, Cmd, Note}
use Rattle.sbp_world.proofs.Words.Initiator.{Memory, own, AreCalls, Call, IsCall, acts, after, action_calls, calls_if, dummy_calls, orb_calls, pin_calls, quad_calls, slot_calls, slot_calls_after, management_bytes, ManagementOrb, written, Asked, run, SlotTable, find_in, is_free, may_prepare, slot_in, unused, TicketParts, act_step, login_id, orb_by, asked_by, Turn, own_rom, place_of, InitiatorState}
use Rattle.sbp_world.proofs.Words.Laws.{action_notes, append_notes, new_list, new_number, Orb, cmd_of, lowest_vacant, prepared_in, slot_at, slots, appends, event_of}
use Rattle.sbp_world.proofs.Words.World.{behind, AreRows, IfLast, name, name_in}
use Rattle.bus_memory.specs.declared.window.Window.TheVariants as windows
use Rattle.orb_list.specs.Runs as slot_runs
use Rattle.orb_list.specs.Table as table
use Rattle.orb_list.proofs.Tied.{may_lowest}
use Rattle.sbp_journal.specs.declared.event.Action.TheVariants as actions
use Rattle.sbp_journal.specs.declared.event.Event.TheVariants as events
use Rattle.sbp_journal.specs.declared.note.Note.TheVariants as notes
use Rattle.sbp_world.proofs.Hosts.Acts.{Goes}
use Rattle.sbp_world.proofs.Hosts.Appends.{lowest_is}
use Rattle.sbp_world.proofs.Hosts.ByteCalls.{AreCalm, KeepsBytes, calm_append}
use Rattle.sbp_world.proofs.Hosts.ByteFills.{written_byte, written_keeps, written_table}
use Rattle.sbp_world.proofs.Hosts.ByteLeaves.{before, calm_call, last_calls, whole_before}
use Rattle.sbp_world.proofs.Hosts.ByteTerms.{Fills, SlotBytes, appended_bytes, byte_terms, bytes_kept, is_kept, kept_bytes}
use Rattle.sbp_world.proofs.Hosts.Carries.{IsLineOf}
use Rattle.sbp_world.proofs.Hosts.OrbFits.{IsFull}
use Rattle.sbp_world.proofs.Hosts.OrbRuns.{refused_same}
use Rattle.sbp_world.proofs.Pointers.GuardActs.{ok_of}

-- ---- calls of the slots that leave them

quads_calm : (place : ℕ) (bytes : List ℕ) (n : ℕ) → AreCalm (quad_calls place bytes n)
unfolding quad_calls
quads_calm place bytes zero = tt
quads_calm place bytes (suc n) = (tt, quads_calm place bytes n)

orb_calm : (orb : Option ManagementOrb) (place : ℕ) → AreCalm (orb_calls orb place)
orb_calm None place = tt
orb_calm (Some orb) place = quads_calm place (management_bytes orb) 8

pin_calm : (c : Bool) (t : Option TicketParts) → AreCalm (pin_calls c t)
pin_calm true t = tt
pin_calm false None = tt
pin_calm false (Some t) = (tt, tt)

dummy_calm : (t : Option TicketParts) → AreCalm (dummy_calls t)
dummy_calm None = tt
dummy_calm (Some t) = (tt, tt)

-- ---- notes that are told

abbrev pub AreKept : ℕ → List Note → Type 0
AreKept i [] = Unit {0}
AreKept i (note ∷ ns) = (is_kept i note ≡ true) × AreKept i ns

pub told_kept : (ns : List Note) (past : List Moment) (i : ℕ) → AreKept i ns → byte_terms (behind (own ns) past) i ≡ byte_terms past i
told_kept [] past i h = refl
told_kept (note ∷ ns) past i h = told_kept ns (said note ∷ past) i h.1 ∙ bytes_kept note past i h.0

-- behind an append
pub rest_kept : (past : List Moment) (i n k : ℕ) (cmd : Cmd) → byte_terms (behind (own (append_notes i n k cmd)) past) i ≡ byte_terms (said (notes.Append i n k cmd.cdb (buffer_of cmd)) ∷ past) i
rest_kept past i n zero cmd = told_kept (notes.Rung i n 0 ∷ []) (said (notes.Append i n 0 cmd.cdb (buffer_of cmd)) ∷ past) i (refl, tt)
rest_kept past i n (suc k) cmd =
    told_kept (notes.Low i n (suc k) ∷ notes.Linked i n (suc k) ∷ notes.Rung i n (suc k) ∷ []) (said (notes.Append i n (suc k) cmd.cdb (buffer_of cmd)) ∷ past) i (refl, (refl, (refl, tt)))

-- those of another initiator
append_kept : (i j n k : ℕ) (cmd : Cmd) → (j == i) ≡ false → AreKept j (append_notes i n k cmd)
append_kept i j n zero cmd e = (ap not e, (refl, tt))
append_kept i j n (suc k) cmd e = (ap not e, (refl, (refl, (refl, tt))))

pub others_kept : (action : Action) (past : List Moment) (i j : ℕ) → (j == i) ≡ false → AreKept j (action_notes action past i)
others_kept (actions.Put cmd) past i j e = (ap not e, tt)
others_kept (actions.Append cmd) past i j e = append_kept i j (new_list past i) (new_number past i) cmd e
others_kept actions.Low past i j e = (refl, tt)
others_kept actions.Link past i j e = (refl, tt)
others_kept actions.Ring past i j e = (refl, tt)
others_kept (actions.Dummy k) past i j e = (refl, tt)
others_kept (actions.Abort k) past i j e = tt
others_kept actions.Rom past i j e = tt
others_kept actions.AgentReset past i j e = tt
others_kept actions.State past i j e = tt
others_kept actions.Enable past i j e = tt
others_kept (actions.Login unit reconnect exclusive password) past i j e = tt
others_kept (actions.Query unit) past i j e = tt
others_kept actions.Reconnect past i j e = tt
others_kept actions.Logout past i j e = tt
others_kept actions.AbortSet past i j e = tt
others_kept actions.UnitReset past i j e = tt
others_kept actions.TargetReset past i j e = tt

-- ---- an action

module _ (ready : Bool) (i : ℕ) (calls : List Call) (called : AreCalls calls) where
  abbrev turn : Turn
  turn = after i ready calls

  abbrev pub state : InitiatorState
  state = (after i ready calls).1

  abbrev old : List slot_runs.Call
  old = slot_calls_after i ready calls

  abbrev m : Memory
  m = state.lists.memory

  module _ (past : List Moment) (rows : AreRows past i state.lists.slots) (h : SlotBytes (byte_terms past i) m) where
    -- the name of the next ORB is new
    pub fresh : (x : ℕ) (one : Orb) → x < 32 → prepared_in past i x ≡ Some one → one.list ≡ new_list past i → one.number ≡ new_number past i → ⊥
    fresh x one b e a c = by_last (slot_in state.lists.slots.slots x).last (sym (rows.fits.prepared x b) ∙ e) (rows.fits.last x b)
      where
        by_last : (last : Option TicketParts) → name_in last ≡ Some one → IfLast state.lists.slots.lists (appends past i) (slot_at past i) x last → ⊥
        by_last None f l = cc
        by_last (Some t) f l =
            let named : name t ≡ one = cc in
            let list : t.list ≡ new_list past i = ap (λ (y : Orb). y.list) named ∙ a in
            let number : t.number ≡ new_number past i = ap (λ (y : Orb). y.number) named ∙ c in
            let below = l.below in
            let same : appends past i t.list ≡ appends past i (new_list past i) = ap (appends past i) list in
            omega arith

    module _ (action : Action) (fit : IsCall (acts action)) (no_refusal : (act_step action empty_outbox state).0 ≡ None) where
      abbrev left : Memory
      left = (act_step action empty_outbox state).1.1.lists.memory

      abbrev Now : Type 0
      Now = SlotBytes (byte_terms (behind (own (action_notes action past i)) past) i) left

      calls_are : slot_calls (acts action) turn ≡ action_calls action state
      calls_are = ap (λ x. calls_if x action state) (refused_same action turn.0 empty_outbox state ∙ no_refusal)

      -- one that prepares no ORB
      calm_now : AreKept i (action_notes action past i) → AreCalm (action_calls action state) → Now
      calm_now k q =
          subst (λ t. SlotBytes t left) (sym (told_kept (action_notes action past i) past i k))
          (kept_bytes (byte_terms past i) m left (calm_call ready i calls called (acts action) fit (subst AreCalm (sym calls_are) q)) h)

      -- one that prepares one
      module _ (cmd : Cmd) (full : IsFull cmd) (line : cmd_of (event_of past) ≡ Some cmd) (slot : ℕ) (e : may_prepare state.lists.slots ≡ Ok slot) where
        abbrev node : ℕ
        node = state.layer.node

        abbrev login : ℕ
        login = login_id state

        abbrev request : Asked
        request = asked_by cmd node login

        pub small : slot < 32
        small = let z = rows.fits.size in let p = position-Some is_free state.lists.slots.slots slot unused (may_lowest state.lists.slots slot e) in let b = p.0 in omega arith

        pub low : lowest_vacant (slots past i) ≡ slot
        low = ap lowest_vacant rows.rows_are ∙ lowest_is state.lists.slots.slots slot (may_lowest state.lists.slots slot e)

        fills : Fills m (written m slot request) slot cmd
        fills =
            let whole = whole_before ready i calls called in
            record {
              table = written_table m slot cmd node login whole small (full.0 node login);
              byte = written_byte m slot cmd node login whole small (full.0 node login);
              tables = λ k f. written_keeps m slot cmd node login whole small (full.0 node login) (windows.Table k) refl f refl;
              buffers = λ k f. written_keeps m slot cmd node login whole small (full.0 node login) (windows.Buffer k) refl refl f;
            }

        prepared_at : (x : SlotTable) (y : Memory) → may_prepare x ≡ Ok slot → (table.prepare_step x y request).1.1 ≡ written y slot request
        unfolding table.prepare_step
        prepared_at x y f = ap (λ r. (table.prepare_at r x y request).1.1) f

        prepared : (run (slot_runs.Prepare request ∷ old) (own_rom i)).memory ≡ written m slot request
        prepared =
            let b = before ready i calls called in
            prepared_at (run old (own_rom i)).table (run old (own_rom i)).memory (ap may_prepare b.table ∙ e) ∙ ap (λ y. written y slot request) b.memory

        appended : SlotBytes (byte_terms (said (notes.Append i (new_list past i) (new_number past i) cmd.cdb (buffer_of cmd)) ∷ past) i) (written m slot request)
        appended = appended_bytes past i (new_list past i) (new_number past i) slot cmd.cdb (buffer_of cmd) cmd line low fresh m (written m slot request) fills h

        -- and what else it does
        prepared_now : (later : List slot_runs.Call) → AreCalm later → action_calls action state ≡ later ++ slot_runs.Prepare request ∷ [] → byte_terms (behind (own (action_notes action past i)) past) i ≡ byte_terms (said (notes.Append i (new_list past i) (new_number past i) cmd.cdb (buffer_of cmd)) ∷ past) i → Now
        prepared_now later q f same =
            let keeps = last_calls ready i calls called (acts action) fit later (slot_runs.Prepare request ∷ []) (calls_are ∙ f) q in
            subst (λ t. SlotBytes t left) (sym same)
            (kept_bytes (byte_terms (said (notes.Append i (new_list past i) (new_number past i) cmd.cdb (buffer_of cmd)) ∷ past) i) (written m slot request) left (subst (λ x. KeepsBytes x left) prepared keeps) appended)

    pub acted_bytes : (action : Action) → Goes action state → IsLineOf action → event_of past ≡ Some (events.Act i action) → (act_step action empty_outbox state).0 ≡ None → SlotBytes (byte_terms (behind (own (action_notes action past i)) past) i) (act_step action empty_outbox state).1.1.lists.memory
    acted_bytes (actions.Put cmd) g fit line n =
        let f = ok_of (may_prepare state.lists.slots) (g.allowed.prepares refl) in
        prepared_now (actions.Put cmd) fit.0 n cmd fit (ap cmd_of line) f.0 f.1 [] tt refl refl
    acted_bytes (actions.Append cmd) g fit line n =
        let f = ok_of (may_prepare state.lists.slots) (g.allowed.prepares refl) in
        prepared_now (actions.Append cmd) fit.0 n cmd fit (ap cmd_of line) f.0 f.1 (slot_runs.LinkHigh ∷ slot_runs.LinkLow ∷ []) (tt, (tt, tt)) refl (rest_kept past i (new_list past i) (new_number past i) cmd)
    acted_bytes actions.Low g fit line n = calm_now actions.Low fit.0 n (refl, tt) (tt, tt)
    acted_bytes actions.Link g fit line n = calm_now actions.Link fit.0 n (refl, tt) (tt, tt)
    acted_bytes actions.Ring g fit line n = calm_now actions.Ring fit.0 n (refl, tt) tt
    acted_bytes (actions.Dummy k) g fit line n = calm_now (actions.Dummy k) fit.0 n (refl, tt) (dummy_calm (find_in state.lists.slots.slots k))
    acted_bytes (actions.Abort k) g fit line n =
        let pins = pin_calls (is_some state.lists.slots.pinned) (find_in state.lists.slots.slots k) in
        let puts = orb_calls (Some (orb_by (actions.Abort k) state)) (place_of state.counts.managed) in
        calm_now (actions.Abort k) fit.0 n tt (calm_append pins puts (pin_calm (is_some state.lists.slots.pinned) (find_in state.lists.slots.slots k)) (orb_calm (Some (orb_by (actions.Abort k) state)) (place_of state.counts.managed)))
    acted_bytes actions.Rom g fit line n = calm_now actions.Rom fit.0 n tt tt
    acted_bytes actions.AgentReset g fit line n = calm_now actions.AgentReset fit.0 n tt tt
    acted_bytes actions.State g fit line n = calm_now actions.State fit.0 n tt tt
    acted_bytes actions.Enable g fit line n = calm_now actions.Enable fit.0 n tt tt
    acted_bytes (actions.Login unit reconnect exclusive password) g fit line n = calm_now (actions.Login unit reconnect exclusive password) fit.0 n tt (orb_calm (Some (orb_by (actions.Login unit reconnect exclusive password) state)) (place_of state.counts.managed))
    acted_bytes (actions.Query unit) g fit line n = calm_now (actions.Query unit) fit.0 n tt (orb_calm (Some (orb_by (actions.Query unit) state)) (place_of state.counts.managed))
    acted_bytes actions.Reconnect g fit line n = calm_now actions.Reconnect fit.0 n tt (orb_calm (Some (orb_by actions.Reconnect state)) (place_of state.counts.managed))
    acted_bytes actions.Logout g fit line n = calm_now actions.Logout fit.0 n tt (orb_calm (Some (orb_by actions.Logout state)) (place_of state.counts.managed))
    acted_bytes actions.AbortSet g fit line n = calm_now actions.AbortSet fit.0 n tt (orb_calm (Some (orb_by actions.AbortSet state)) (place_of state.counts.managed))
    acted_bytes actions.UnitReset g fit line n = calm_now actions.UnitReset fit.0 n tt (orb_calm (Some (orb_by actions.UnitReset state)) (place_of state.counts.managed))
    acted_bytes actions.TargetReset g fit line n = calm_now actions.TargetReset fit.0 n tt (orb_calm (Some (orb_by actions.TargetReset state)) (place_of state.counts.managed))
