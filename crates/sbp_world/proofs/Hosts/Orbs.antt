-- In every run an initiator's memory holds its ORBs as they were appended and linked.
use Rattle.sbp_world.proofs.Words.Std.{arith, ◌≡◌, refl, sym, ap, subst, ◌∙◌, ℕ, ◌*◌, ◌<◌, Bool, List, length, take, Option, Some, None, take_all}
use Rattle.sbp_world.proofs.Words.Wire.{Moment}
use Rattle.sbp_world.proofs.Words.Initiator.{read_step, IsWhole, Memory, slot_at, start, node_at, command_orb, CommandOrb, SlotState, HoldsOrb, IfHoldsOrb, Kept, kept_in, table_bytes, Asked, run, SlotTable, slot_in, unused, TicketParts, Turn, own_rom, InitiatorState, after, ReadsAfter, held_after, AreSlotsOf, slot_calls_after}
use Rattle.sbp_world.proofs.Words.Laws.{buffer_in, Orb, prepared_in, slots, used, vacant}
use Rattle.sbp_world.proofs.Words.World.{AreRows, LastFits, HoldsOrbs, OrbsLaw, StandsIn, orb_for, name, name_in, row, row_by}
use Rattle.std.proofs.Common.{slice_index_or}
use Rattle.std.proofs.lemmas.List.{get_or-map}
use Rattle.bus_memory.specs.declared.window.Window.TheVariants as windows
use Rattle.orb_list.specs.declared.slot.SlotState.TheVariants as states
use Rattle.orb_list.specs.Runs as slot_runs
use Rattle.orb_list.proofs.Steps.{held_law}
use Rattle.sbp_laws.specs.Lists as terms
use Rattle.sbp_initiator.proofs.Histories.Served.{reads_law}
use Rattle.sbp_initiator.proofs.Histories.Slotted.{slot_law}
use Rattle.sbp_world.proofs.Hosts.Chains.{Same, chained_run}
use Rattle.sbp_world.proofs.Hosts.OrbAppends.{kept_last}
use Rattle.sbp_world.proofs.Hosts.OrbFits.{IfFits, OrbFits, format_in, next_in}
use Rattle.sbp_world.proofs.Hosts.OrbRuns.{Orbs, orbs_between, orbs_of_runs}
use Rattle.sbp_world.proofs.Hosts.OrbSpelled.{reads_orb, same_bytes, same_direction}
use Rattle.sbp_world.proofs.Hosts.OrbTables.{laid_as, read_table, whole_bytes}
use Rattle.sbp_world.proofs.Hosts.OrbTerms.{orb_terms}
use Rattle.sbp_world.proofs.Hosts.Runs.{run_law}

-- ---- which ORB was prepared last in a slot

-- the ORB of a slot has the name that the history says
pub found_kept : (last : Option TicketParts) (found : Option Kept) (one : Orb) → Same last found → name_in last ≡ Some one → (o : Kept) × ((found ≡ Some o) × (name o.ticket ≡ one))
found_kept None found one h e = absurd (differ e)
  where
    differ : None ≡ Some one → ⊥
    differ e = cc
found_kept (Some t) None one h e = absurd h
found_kept (Some t) (Some o) one h e = let g : name t ≡ one = cc in (o, (refl, ap name h ∙ g))

-- an ORB that uses a slot is the last one there
last_used : (state : SlotState) (last : Option TicketParts) (one : Orb) → row_by state last ≡ used one → name_in last ≡ Some one
last_used states.Free last one e = absurd (differ e)
  where
    differ : vacant ≡ used one → ⊥
    differ e = cc
last_used states.Waiting None one e = absurd (differ e)
  where
    differ : terms.resting ≡ used one → ⊥
    differ e = cc
last_used states.Waiting (Some t) one e = let g : name t ≡ one = cc in ap (λ x. Some x) g
last_used (states.Taken had_next) None one e = absurd (differ e)
  where
    differ : terms.resting ≡ used one → ⊥
    differ e = cc
last_used (states.Taken had_next) (Some t) one e = let g : name t ≡ one = cc in ap (λ x. Some x) g
last_used states.Resting last one e = absurd (differ e)
  where
    differ : terms.resting ≡ used one → ⊥
    differ e = cc

in_use_last : (past : List Moment) (i : ℕ) (s : SlotTable) → AreRows past i s → (k : ℕ) (one : Orb) → k < 32 → slice_index_or (slots past i) k vacant ≡ used one → prepared_in past i k ≡ Some one
in_use_last past i s r k one b e =
    let z = r.fits.size in
    let slot = slot_in s.slots k in
    let here : row slot ≡ used one = sym (ap (λ xs. slice_index_or xs k vacant) r.rows_are ∙ get_or-map row s.slots k unused vacant (omega arith)) ∙ e in
    r.fits.prepared k b ∙ last_used slot.state slot.last one here

-- ---- an ORB stands in its slot

module _ (ready : Bool) (past : List Moment) (i : ℕ) (s : InitiatorState) (rows : AreRows past i s.lists.slots) (h : Orbs ready past i s) where
  abbrev pub calls : List slot_runs.Call
  calls = slot_calls_after i ready h.calls

  abbrev pub memory : Memory
  memory = s.lists.memory

  pub slots_of : AreSlotsOf (own_rom i) calls s.lists
  slots_of = subst (λ (x : InitiatorState). AreSlotsOf (own_rom i) calls x.lists) h.is (slot_law i ready h.calls h.called)

  pub rows_of : AreRows past i (run calls (own_rom i)).table
  rows_of = subst (AreRows past i) (sym slots_of.table) rows

  pub whole : IsWhole memory
  whole = subst IsWhole slots_of.memory (held_law.run_held calls (own_rom i) slots_of.proper).whole

  abbrev turn : Turn
  turn = after i ready h.calls

  pub reads : ReadsAfter i calls (held_after i ready h.calls) turn
  reads = reads_law.reads i ready h.calls h.called

  pub holds : (k : ℕ) → k < 32 → IfHoldsOrb (kept_in (run calls (own_rom i)).notes k) (slot_at memory k)
  holds k b = subst (λ (x : InitiatorState). IfHoldsOrb (kept_in (run calls (own_rom i)).notes k) (slot_at x.lists.memory k)) h.is (reads.orb k b)

  read_gives : (k : ℕ) (out : List ℕ) → k < 32 → (read_step memory (start (windows.Orb k)) out).0 ≡ 0 → (read_step memory (start (windows.Orb k)) out).1 ≡ take (length out) (slot_at memory k).orb
  read_gives k out b =
      subst (λ (x : InitiatorState). (read_step x.lists.memory (start (windows.Orb k)) out).0 ≡ 0 → (read_step x.lists.memory (start (windows.Orb k)) out).1 ≡ take (length out) (slot_at x.lists.memory k).orb) h.is (reads.read k out b)

  pub kept_stands : (k : ℕ) (o : Kept) → k < 32 → kept_in (run calls (own_rom i)).notes k ≡ Some o → OrbFits (orb_terms past i) o → HoldsOrb o (slot_at memory k) → StandsIn past i memory k (name o.ticket)
  kept_stands k o b e f g =
      let l : LastFits (run calls (own_rom i)).table.lists (orb_terms past i).appended (orb_terms past i).place k o.ticket = kept_last past i calls (own_rom i) rows_of k o b e in
      let m = slot_at memory k in
      let size : length m.orb ≡ 32 = whole.sizes (windows.Orb k) in
      let spells : command_orb m.orb ≡ orb_for f.cmd (node_at m.orb 8) k (next_in (orb_terms past i) o.ticket.list o.ticket.number) (format_in (orb_terms past i) o.ticket.list o.ticket.number) = subst (λ x. command_orb m.orb ≡ orb_for f.cmd (node_at m.orb 8) x (next_in (orb_terms past i) o.ticket.list o.ticket.number) (format_in (orb_terms past i) o.ticket.list o.ticket.number)) l.slot
      (reads_orb (orb_terms past i) o f (subst (λ x. x < 32) (sym l.slot) b) m g) in
      let table : take (8 * length f.cmd.segments) m.table ≡ table_bytes k 0 f.cmd.segments = subst (λ x. take (8 * length f.cmd.segments) m.table ≡ table_bytes x 0 f.cmd.segments) l.slot
      (subst (λ (x : Asked). take (8 * length x.segments) m.table ≡ table_bytes o.ticket.slot 0 x.segments) f.asked g.table) in
      record {
        place = l.at;
        cmd = f.cmd;
        command = f.command;
        request = f.request;
        fits = f.fits;
        fills = same_bytes f.cmd f.fills.payload;
        node = node_at m.orb 8;
        orb = spells;
        as_appended = record { command = ap (λ (x : CommandOrb). x.cdb) spells; direction = ap (λ (x : CommandOrb). x.to_initiator) spells ∙ same_direction f.cmd };
        table = table;
        reads_table = λ out long zero.
            read_table memory k out b zero
            ∙ (ap (λ n. take n m.table) long ∙ table);
        laid = λ moved read. ap (λ (x : CommandOrb). buffer_in x moved) spells ∙ laid_as f.cmd k b moved f.fits (node_at m.orb 8) (next_in (orb_terms past i) o.ticket.list o.ticket.number) (format_in (orb_terms past i) o.ticket.list o.ticket.number) read;
        whole = whole_bytes k f.cmd f.fills.segments;
        size = size;
        read = λ out long zero.
            subst (λ x. (read_step memory (start (windows.Orb x)) out).0 ≡ 0 → (read_step memory (start (windows.Orb x)) out).1 ≡ m.orb) (sym l.at)
            (λ z. read_gives k out b z ∙ take_all (length out) m.orb (omega arith)) zero;
      }

  found_stands : (k : ℕ) (one : Orb) (found : Option Kept) → k < 32 → kept_in (run calls (own_rom i)).notes k ≡ found → IfFits (orb_terms past i) found → IfHoldsOrb found (slot_at memory k) → (o : Kept) → found ≡ Some o → name o.ticket ≡ one → StandsIn past i memory k one
  found_stands k one None b e f g o is n = absurd (differ is)
    where
      differ : None ≡ Some o → ⊥
      differ e = cc
  found_stands k one (Some p) b e f g o is n =
      let same : p ≡ o = cc in
      subst (StandsIn past i memory k) (ap (λ (x : Kept). name x.ticket) same ∙ n) (kept_stands k p b e f g)

  pub stands : (k : ℕ) (one : Orb) → k < 32 → prepared_in past i k ≡ Some one → StandsIn past i memory k one
  stands k one b e =
      let table = (run calls (own_rom i)).table in
      let found = kept_in (run calls (own_rom i)).notes k in
      let q = found_kept (slot_in table.slots k).last found one ((chained_run calls (own_rom i)).same k b) (sym (rows_of.fits.prepared k b) ∙ e) in
      found_stands k one found b refl (h.kept k b) (holds k b) q.0 q.1.0 q.1.1

  pub orbs_held : HoldsOrbs past i s
  orbs_held = record { stands = stands; in_use = in_use_last past i s.lists.slots rows }

pub orbs_law : OrbsLaw
orbs_law = record {
  orbs = λ line r q i b. orbs_held r.ready _ i _ (run_law.rows line r q i b).rows (orbs_of_runs line r q i b);
  between = λ line r q next most told m i b. orbs_held r.ready _ i _ (run_law.between line r q next most told m i b).rows (orbs_between line r q next most told m i b);
}
