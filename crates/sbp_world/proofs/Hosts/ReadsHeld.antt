-- What a read brings that the memory of an initiator serves: by the run terms, and of its slots.
use Rattle.sbp_world.proofs.Words.Std.{arith, ◌≡◌, sym, ◌∙◌, ap, subst, ℕ, ◌-◌, ◌*◌, ◌<◌, false, List, length, take, drop, Option, Some}
use Rattle.sbp_world.proofs.Words.Wire.{Access, Moment, Cmd}
use Rattle.sbp_world.proofs.Words.Initiator.{read_step, Memory, memory_at, start, window_at, command_orb, pointer_at, CommandOrb, table_bytes, InitiatorState, addresses, buffer_addresses, elements_of, IsCommand}
use Rattle.sbp_world.proofs.Words.Laws.{IsRead, laid_out, IsAsAppended, Orb, command_at, prepared_in, host_reply, orb_in_slot, window_gives}
use Rattle.sbp_world.proofs.Words.World.{Follows, HoldsOrb, HoldsPointer, HoldsTable, AllSend, HoldsOrbs, next_of, orb_for, request_of, IsReadBy, IsReadOf, IsSaid, CarriesOrb}
use Rattle.bus_memory.specs.declared.window.Window.TheVariants as windows
use Rattle.bus_memory.proofs.Found.{window_here}
use Rattle.sbp_world.specs.Hosts.Carrying.{IsServed}
use Rattle.sbp_world.proofs.Hosts.OrbFits.{format_in, next_in}
use Rattle.sbp_world.proofs.Hosts.OrbTables.{table_laid}
use Rattle.sbp_world.proofs.Hosts.OrbTerms.{OrbTerms, orb_terms}
use Rattle.sbp_world.proofs.Hosts.ResponseBytes.{front_pointer}
use Rattle.sbp_world.proofs.Hosts.ResponseTells.{opens, read_code}

-- ---- an ORB in another history

-- what bytes carry of an ORB, they carry by each history that says the same of the ORBs
pub carried_so : (now before : List Moment) (i slot : ℕ) (one : Orb) (payload : List ℕ) → orb_terms now i ≡ orb_terms before i → CarriesOrb before i slot one payload → CarriesOrb now i slot one payload
carried_so now before i slot one payload same c = record {
  size = c.size;
  cmd = c.cmd;
  fits = c.fits;
  place = ap (λ (x : OrbTerms). x.place one.list one.number) same ∙ c.place;
  command = ap (λ (x : OrbTerms). x.command one.list one.number) same ∙ c.command;
  request = ap (λ (x : OrbTerms). x.request one.list one.number) same ∙ c.request;
  node = c.node;
  orb = c.orb ∙ sym (ap (λ (x : OrbTerms). orb_for c.cmd c.node slot (next_in x one.list one.number) (format_in x one.list one.number)) same);
  as_appended = c.as_appended;
}

pub next_so : (now before : List Moment) (i : ℕ) (one : Orb) → orb_terms now i ≡ orb_terms before i → next_of now i one.list one.number ≡ next_of before i one.list one.number
next_so now before i one same = ap (λ (x : OrbTerms). next_in x one.list one.number) same

-- ---- the windows of a slot

module _ (m : Memory) (access : Access) (slot : ℕ) (b : slot < 32) where
  pub orb_window : access.offset ≡ start (windows.Orb slot) → window_at access.offset ≡ Some (windows.Orb slot)
  orb_window e = ap window_at e ∙ window_here m (start (windows.Orb slot)) (windows.Orb slot) b (omega arith) (omega arith)

  orb_said : (past : List Moment) (i : ℕ) → access.offset ≡ start (windows.Orb slot) → IsSaid past i access (window_at access.offset)
  orb_said past i e = subst (IsSaid past i access) (sym (orb_window e)) tt

-- ---- a read that is served

same_command : (found : Option Cmd) (one other : Cmd) → found ≡ Some one → found ≡ Some other → one ≡ other
same_command found one other e f = cc

module _ (past : List Moment) (i : ℕ) (s : InitiatorState) (known : IsReadBy past i s) (orbs : HoldsOrbs past i s) (sends : AllSend past i s.lists.memory) (access : Access) (out : List ℕ) (is : IsReadOf access out) (served : (read_step s.lists.memory access.offset out).0 ≡ 0) where
  abbrev m : Memory
  m = s.lists.memory

  abbrev payload : List ℕ
  payload = (read_step m access.offset out).1

  complete : (host_reply past i access).rcode ≡ 0
  complete = read_code past i access is.write ∙ (sym (known.read_rcode access out is) ∙ served)

  given : IsSaid past i access (window_at access.offset) → payload ≡ (host_reply past i access).given
  given q = known.gives access out is q served

  module _ (slot : ℕ) (b : slot < 32) where
    one_there : access.offset ≡ start (windows.Orb slot) → (one : Orb) × (prepared_in past i slot ≡ Some one)
    one_there e = known.prepared slot b (opens past i access is.write complete (windows.Orb slot) (orb_window m access slot b e))

    brings_orb : IsRead access (start (windows.Orb slot)) 32 → HoldsOrb past i slot payload
    brings_orb reads =
        let one = one_there reads.from in
        let stand = orbs.stands slot one.0 b one.1 in
        let same : payload ≡ (memory_at m slot).orb = given (orb_said m access slot b past i reads.from)
        ∙ (known.carries access slot one.0 b one.1 reads.from reads.size ∙ sym (known.held slot one.0 b one.1).orb) in
        record {
          one = one.0;
          prepared = one.1;
          carries = record {
            size = ap length same ∙ stand.size;
            cmd = stand.cmd;
            fits = stand.fits;
            place = stand.place;
            command = stand.command;
            request = stand.request;
            node = stand.node;
            orb = ap command_orb same ∙ stand.orb;
            as_appended = subst (λ x. IsAsAppended (command_orb x) (request_of stand.cmd)) (sym same) stand.as_appended;
          };
        }

    -- the first 8 bytes
    front_bytes : (one : Orb) → prepared_in past i slot ≡ Some one → IsRead access (start (windows.Orb slot)) 8 → payload ≡ take 8 (memory_at m slot).orb
    front_bytes one prepared reads =
        let at = reads.from in
        let held = orb_in_slot past i slot (prepared_in past i slot) in
        let zero : access.offset - start (windows.Orb slot) ≡ 0 = omega arith in
        given (orb_said m access slot b past i reads.from)
        ∙ (ap (window_gives past i access) (orb_window m access slot b at)
        ∙ (ap (λ n. take n (drop (access.offset - start (windows.Orb slot)) held)) reads.size
        ∙ (ap (λ n. take 8 (drop n held)) zero ∙ ap (take 8) (sym (known.held slot one b prepared).orb))))

    brings_pointer : IsRead access (start (windows.Orb slot)) 8 → HoldsPointer past i slot payload
    brings_pointer reads =
        let one = one_there reads.from in
        record {
          one = one.0;
          prepared = one.1;
          next = ap (λ xs. pointer_at xs 0) (front_bytes one.0 one.1 reads)
              ∙ (front_pointer (memory_at m slot).orb ∙ ap (λ (x : CommandOrb). x.next) (orbs.stands slot one.0 b one.1).orb);
        }

    brings_table : (one : Orb) (cmd : Cmd) → prepared_in past i slot ≡ Some one → command_at past i one.list one.number ≡ Some cmd → IsRead access (start (windows.Table slot)) (8 * length cmd.segments) → HoldsTable slot cmd payload
    brings_table one cmd prepared command reads =
        let stand = orbs.stands slot one b prepared in
        let own : stand.cmd ≡ cmd = same_command (command_at past i one.list one.number) stand.cmd cmd stand.command command in
        let long : length out ≡ 8 * length stand.cmd.segments = is.size ∙ (reads.size ∙ ap (λ (c : Cmd). 8 * length c.segments) (sym own)) in
        let here : payload ≡ table_bytes slot 0 stand.cmd.segments = ap (λ x. (read_step m x out).1) reads.from ∙ stand.reads_table out long (ap (λ x. (read_step m x out).0) (sym reads.from) ∙ served) in
        let same : payload ≡ table_bytes slot 0 cmd.segments = here ∙ ap (λ (c : Cmd). table_bytes slot 0 c.segments) own in
        record { is = same; laid = λ e. ap elements_of same ∙ table_laid slot cmd b (subst IsCommand own stand.fits) e }

    brings_data : (one : Orb) (cmd : Cmd) (at : ℕ) → prepared_in past i slot ≡ Some one → command_at past i one.list one.number ≡ Some cmd → cmd.to_initiator ≡ false → Follows access slot cmd at → payload ≡ take access.count (drop at cmd.payload)
    brings_data one cmd at prepared command out_of follows =
        (sends slot one cmd b prepared command out_of).gives at access.offset out (subst (λ n. addresses access.offset n ≡ take n (drop at (buffer_addresses (laid_out slot cmd cmd.segments)))) (sym is.size) follows) served
        ∙ ap (λ n. take n (drop at cmd.payload)) is.size

  pub is_served : IsServed past i access payload
  is_served = record {
    complete = complete;
    given = given;
    orb = brings_orb;
    pointer = brings_pointer;
    table = λ slot one cmd b prepared command reads. brings_table slot b one cmd prepared command reads;
    of_data = λ slot one cmd at b prepared command out_of follows. brings_data slot b one cmd at prepared command out_of follows;
  }
