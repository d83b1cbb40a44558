-- What a packet that stands for an operation asks for, by the phase of the operation: in every run.
use Rattle.sbp_world.proofs.Words.Std.{arith, ◌≡◌, ◌∙◌, refl, sym, ap, ℕ, zero, ◌&&◌, nat_eq, nat_le, not, Bool, true, false, cond, List, [], ◌∷◌, length, Some, None, nat_tests, none-some}
use Rattle.sbp_world.proofs.Words.Wire.{largest, Body, block_read, block_write, quadlet_read, Access, Moment, said}
use Rattle.sbp_world.proofs.Words.Target.{Operation, high_eui_at, low_eui_at, Disk, manager_body}
use Rattle.sbp_world.proofs.Words.Initiator.{Ask}
use Rattle.sbp_world.proofs.Words.Laws.{is_nothing, is_serial, target_at}
use Rattle.sbp_world.proofs.Words.World.{write_access, AccessOf, AreContents, ContentsLaw, WasAsked, access_for, is_its_packet, managed_for, operation_if}
use Rattle.mgmt_agent.specs.declared.operation.Phase.{Phase}
use Rattle.mgmt_agent.specs.declared.operation.Phase.TheVariants as phases
use Rattle.sbp_journal.specs.declared.note.Note.TheVariants as notes
use Rattle.sbp_world.specs.Lists.Contents.{IsAsked}
use Rattle.sbp_world.proofs.Lists.ContentPhases.{AskOf, sits}
use Rattle.sbp_world.proofs.Lists.ContentRuns.{contents_after, contents_between}

-- ---- the body that leaves, by the phase
written : (b : Bool) (fifo : ℕ) (out : List ℕ) (body : Body) → cond b (Some (block_write fifo out)) None ≡ Some body → access_for body ≡ write_access fifo out
written true fifo out body e =
    let is : block_write fifo out ≡ body = cc in
    ap access_for (sym is)
written false fifo out body e = absurd (none-some body e)

pub content : (phase : Phase) (op : Operation) (ask : Ask) (out : List ℕ) (body : Body) → AskOf phase op ask out → manager_body ask out ≡ Some body → AccessOf phase op (access_for body)
content phases.Orb op ask out body a e =
    let f : Some (block_read op.orb 32) ≡ Some body = sym (ap (λ x. manager_body x out) a) ∙ e in
    let is : block_read op.orb 32 ≡ body = cc in
    ap access_for (sym is)
content phases.Status op ask out body (status, (fifo, (a, o))) e =
    let f : cond (nat_le (length out) largest) (Some (block_write fifo out)) None ≡ Some body = sym (ap (λ x. manager_body x out) a) ∙ e in
    (status, (fifo, written (nat_le (length out) largest) fifo out body f ∙ ap (λ x. write_access fifo x) o))
content (phases.HighEui orb) op ask out body a e =
    let f : Some (quadlet_read high_eui_at) ≡ Some body = sym (ap (λ x. manager_body x out) a) ∙ e in
    let is : quadlet_read high_eui_at ≡ body = cc in
    ap access_for (sym is)
content (phases.LowEui orb high) op ask out body a e =
    let f : Some (quadlet_read low_eui_at) ≡ Some body = sym (ap (λ x. manager_body x out) a) ∙ e in
    let is : quadlet_read low_eui_at ≡ body = cc in
    ap access_for (sym is)
content (phases.Response fifo) op ask out body (offset, (size, a)) e =
    let f : cond (nat_le (length out) largest) (Some (block_write offset out)) None ≡ Some body = sym (ap (λ x. manager_body x out) a) ∙ e in
    ap (λ (x : Access). x.is_write) (written (nat_le (length out) largest) offset out body f)

-- ---- the packet of a serial
asks_for : (a b c : Bool) → (not a && (b && c)) ≡ true → a ≡ false
asks_for false b c e = refl
asks_for true b c e = absurd (let no : false ≡ true = e in cc)

there : (start : List Disk) (past : List Moment) (generation to : ℕ) (bytes : List ℕ) (s serial : ℕ) (op : Operation) → serial ≡ s → (is_its_packet (target_at start past) (target_at start (said (notes.Sent s generation zero to bytes) ∷ past)) s ≡ true → IsAsked start past bytes) → (b : Bool) → is_its_packet (target_at start past) (target_at start (said (notes.Sent s generation zero to bytes) ∷ past)) s ≡ b → operation_if b (target_at start past).manager.operation ≡ Some op → WasAsked start (said (notes.Sent s generation zero to bytes) ∷ past) serial op
there start past generation to bytes s serial op same is_asked true test e =
    let t = target_at start past in
    let now = target_at start (said (notes.Sent s generation zero to bytes) ∷ past) in
    let a = is_asked test in
    let asks : is_nothing t.manager_asks ≡ false = asks_for (is_nothing t.manager_asks) (is_nothing now.manager_asks) (is_serial now.manages s) test in
    record {
      generation = generation;
      to = to;
      bytes = bytes;
      later = [];
      before = past;
      is = ap (λ x. said (notes.Sent x generation zero to bytes) ∷ past) same;
      operation = e;
      asked = a;
      access = access_for a.body;
      spelled = a.access;
      content = content op.phase op t.manager_asks t.manager.outgoing a.body ((sits start past).0 op e asks) a.asks;
    }
there start past generation to bytes s serial op same is_asked false test e = absurd (none-some op e)

later_on : (start : List Disk) (m : Moment) (past : List Moment) (serial : ℕ) (op : Operation) → WasAsked start past serial op → WasAsked start (m ∷ past) serial op
later_on start m past serial op w = record {
  generation = w.generation;
  to = w.to;
  bytes = w.bytes;
  later = m ∷ w.later;
  before = w.before;
  is = ap (λ ms. m ∷ ms) w.is;
  operation = w.operation;
  asked = w.asked;
  access = w.access;
  spelled = w.spelled;
  content = w.content;
}

was_asked : (start : List Disk) (past : List Moment) → AreContents start past → (serial : ℕ) (op : Operation) → managed_for start past serial ≡ Some op → WasAsked start past serial op
was_asked start [] c serial op e = absurd (none-some op e)
was_asked start (said (notes.Sent s generation zero to bytes) ∷ past) c serial op e = by (was_asked start past c.1 serial op) (nat_eq serial s) refl e
  where
    now : List Moment
    now = said (notes.Sent s generation zero to bytes) ∷ past

    its : Bool
    its = is_its_packet (target_at start past) (target_at start now) s

    by : (managed_for start past serial ≡ Some op → WasAsked start past serial op) → (b : Bool) → nat_eq serial s ≡ b → cond b (operation_if its (target_at start past).manager.operation) (managed_for start past serial) ≡ Some op → WasAsked start now serial op
    by earlier true same f = there start past generation to bytes s serial op (grind (arith, nat_tests)) c.0 its refl f
    by earlier false other f = later_on start (said (notes.Sent s generation zero to bytes)) past serial op (earlier f)
was_asked start (m ∷ past) c serial op e = later_on start m past serial op (was_asked start past c.1 serial op e)

pub contents_law : ContentsLaw
contents_law = record {
  after_lines = λ line run r has small size. record { each = was_asked run.start.disks _ (contents_after line run r has small size) };
  between = λ line run r has small size next event d told m. record { each = was_asked run.start.disks _ (contents_between line run r has small size next event d told m) };
}
