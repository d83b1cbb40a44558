-- The status block of an operation of the target's management, as it was sent: its payload is what the management had to write, it names the ORB, and its status is
-- read of it.
use Rattle.sbp_world.proofs.Words.Std.{arith, ◌≡◌, ◌∙◌, refl, sym, ap, subst, ◌<◌, ◌≤◌, ◌^◌, ◌==◌, ◌&&◌, ◌||◌, nat_eq, nat_le, ℕ, zero, suc, Bool, true, false, cond, List, [], ◌∷◌, ◌++◌, length, Option, Some, None, Result, Ok, nat_tests}
use Rattle.sbp_world.proofs.Words.Wire.{Header, PacketFault, Packet, write_block, reading, SerialsCount, Body, block_read, block_write, quadlet_read, quadlet_write, Access, Moment, asked, said, Sending, terms, largest}
use Rattle.sbp_world.proofs.Words.Target.{Operation, Status, status_block, number_of, Disk, manager_body}
use Rattle.sbp_world.proofs.Words.Initiator.{start_of, names_place, Ask, StatusBlock, offset_at, is_among, management_meanings, read_block, status_in}
use Rattle.sbp_world.proofs.Words.Laws.{access_in, access_in_bytes, spelled_by, target_at}
use Rattle.sbp_world.proofs.Words.World.{AccessOf, WasAsked, access_for, outgoing_for}
use Rattle.bus_memory.specs.declared.window.Window.TheVariants as windows
use Rattle.mgmt_agent.specs.declared.operation.Phase.{Phase}
use Rattle.mgmt_agent.specs.declared.operation.Phase.TheVariants as phases
use Rattle.mgmt_agent.specs.declared.status.Status.TheVariants as statuses
use Rattle.orb_layout.specs.declared.ask.Ask.TheVariants as asks
use Rattle.orb_layout.specs.declared.status.StatusKind.TheVariants as kinds
use Rattle.orb_layout.proofs.StatusBack.{status_back}
use Rattle.sbp_journal.specs.declared.note.Note.TheVariants as notes
use Rattle.sbp_world.proofs.Hosts.Remaining.{remains, serials_behind}
use Rattle.sbp_world.proofs.Hosts.SentMoments.{count_now, serials_from}
use Rattle.sbp_world.proofs.Lists.ManageSends.{sent_is, sent_terms}
use Rattle.sbp_world.proofs.Lists.ManageTerms.{none_is, same_some}
use Rattle.sbp_world.proofs.Lists.StatusBytes.{same_block}
use Rattle.sbp_world.proofs.Hosts.PointerNotes.{older}
use Rattle.sbp_world.proofs.Lists.StatusManaged.{number_small}
use Rattle.sbp_world.proofs.Common.{untrue}

-- ---- the bytes of a status block

abbrev block_of : (orb : ℕ) → Status → StatusBlock
block_of orb status = record { src = 0; kind = kinds.Management (number_of status); orb = orb }

meaning_is : (status : Status) → is_among management_meanings (number_of status) ≡ true
meaning_is statuses.NoFault = refl
meaning_is statuses.RequestType = refl
meaning_is statuses.AccessDenied = refl
meaning_is statuses.LogicalUnit = refl
meaning_is statuses.Resources = refl
meaning_is statuses.FunctionRejected = refl
meaning_is statuses.LoginId = refl

pub none_zero : (status : Status) → number_of status ≡ 0 → status ≡ statuses.NoFault
none_zero statuses.NoFault e = refl
none_zero statuses.RequestType e = absurd (omega (arith, e))
none_zero statuses.AccessDenied e = absurd (omega (arith, e))
none_zero statuses.LogicalUnit e = absurd (omega (arith, e))
none_zero statuses.Resources e = absurd (omega (arith, e))
none_zero statuses.FunctionRejected e = absurd (omega (arith, e))
none_zero statuses.LoginId e = absurd (omega (arith, e))

named_orb : (orb : ℕ) (status : Status) → orb < 2 ^ 48 → offset_at (status_block orb status) 0 ≡ orb
named_orb orb status low = let n = number_small status in omega (arith, n, low)

start_small : (place : ℕ) → place < 2 → start_of (windows.Management place) < 2 ^ 48
start_small place small = omega (arith, small)

size_is : (orb : ℕ) (status : Status) → length (status_block orb status) ≡ 8
size_is orb status = refl

both_or : (x y : Bool) → x ≡ true → (true && (x || y)) ≡ true
both_or true y e = refl
both_or false y e = untrue e

or_other : (x y : Bool) → y ≡ true → (true && (x || y)) ≡ true
or_other true y e = refl
or_other false y e = e

names_at : (offset place : ℕ) → place < 2 → offset ≡ start_of (windows.Management place) → (nat_le 8 8 && ((offset == start_of (windows.Management 0)) || (offset == start_of (windows.Management 1)))) ≡ true
names_at offset zero small e = both_or (offset == start_of (windows.Management 0)) (offset == start_of (windows.Management 1)) (grind (arith, nat_tests))
names_at offset (suc zero) small e = or_other (offset == start_of (windows.Management 0)) (offset == start_of (windows.Management 1)) (grind (arith, nat_tests))
names_at offset (suc (suc n)) small e = absurd (omega (arith, small))

names_it : (place : ℕ) → place < 2 → (status : Status) → names_place (status_block (start_of (windows.Management place)) status) ≡ true
names_it place small status =
    let orb = start_of (windows.Management place) in
    ap (λ n. nat_le 8 n && ((offset_at (status_block orb status) 0 == start_of (windows.Management 0)) || (offset_at (status_block orb status) 0 == start_of (windows.Management 1)))) (size_is orb status)
    ∙ names_at (offset_at (status_block orb status) 0) place small (named_orb orb status (start_small place small))

-- it reads back
pub reads_back : (place : ℕ) → place < 2 → (status : Status) → status_in (status_block (start_of (windows.Management place)) status) ≡ Ok (block_of (start_of (windows.Management place)) status)
reads_back place small status =
    let orb = start_of (windows.Management place) in
    let block = block_of orb status in
    ap (λ b. read_block b (status_block orb status)) (names_it place small status)
    ∙ status_back block (record { src = omega arith; managed = λ m. refl; kind = meaning_is status; orb = start_small place small })

same_number : (m n : ℕ) → kinds.Management m ≡ kinds.Management n → m ≡ n
same_number m n e = cc

-- what it tells
pub record TellsBlock (place : ℕ) (status : Status) (block : StatusBlock) (number : ℕ) : Type 0 where
  pub number_is : number ≡ number_of status
  pub orb_is : block.orb ≡ start_of (windows.Management place)

pub tells_block : (place : ℕ) → place < 2 → (status : Status) (block : StatusBlock) (number : ℕ) → status_in (status_block (start_of (windows.Management place)) status) ≡ Ok block → block.kind ≡ kinds.Management number → TellsBlock place status block number
tells_block place small status block number e kind =
    let same = same_block block (block_of (start_of (windows.Management place)) status) _ e (reads_back place small status) in
    record {
      number_is = same_number number (number_of status) (sym kind ∙ ap (λ (b : StatusBlock). b.kind) same);
      orb_is = ap (λ (b : StatusBlock). b.orb) same;
    }

-- two of one ORB with the same bytes have one status
pub same_status : (place : ℕ) → place < 2 → (one other : Status) → status_block (start_of (windows.Management place)) one ≡ status_block (start_of (windows.Management place)) other → number_of one ≡ number_of other
same_status place small one other e =
    let same = same_block (block_of (start_of (windows.Management place)) one) (block_of (start_of (windows.Management place)) other) _ (reads_back place small one) (ap status_in e ∙ reads_back place small other) in
    same_number (number_of one) (number_of other) (ap (λ (b : StatusBlock). b.kind) same)

pub good_status : (status : Status) → number_of status ≡ 0 → (orb : ℕ) → status_block orb status ≡ status_block orb statuses.NoFault
good_status status e orb = ap (λ s. status_block orb s) (none_zero status e)

-- ---- the packet, as it was sent

read_writes : (b c : Bool) (offset len at : ℕ) (p : List ℕ) → cond b (Some (quadlet_read offset)) (cond c (Some (block_read offset len)) None) ≡ Some (block_write at p) → ⊥
read_writes true c offset len at p e = cc
read_writes false true offset len at p e = cc
read_writes false false offset len at p e = cc

write_writes : (b : Bool) (x at : ℕ) (out p : List ℕ) → cond b (Some (block_write x out)) None ≡ Some (block_write at p) → p ≡ out
write_writes true x at out p e = cc
write_writes false x at out p e = none_is _ e

body_writes : (ask : Ask) (out : List ℕ) (at : ℕ) (p : List ℕ) → manager_body ask out ≡ Some (block_write at p) → p ≡ out
body_writes (asks.Read offset len) out at p e = absurd (read_writes (len == 4) (nat_le len largest) offset len at p e)
body_writes (asks.Write offset len) out at p e = write_writes (nat_le (length out) largest) offset at out p e
body_writes asks.Nothing out at p e = none_is _ e

access_writes : (body : Body) (ask : Ask) (out : List ℕ) (access : Access) → manager_body ask out ≡ Some body → access_for body ≡ access → access.is_write ≡ true → access.is_block ≡ true → access.payload ≡ out
access_writes (quadlet_write offset value) ask out access m e w b = untrue (ap (λ (a : Access). a.is_block) e ∙ b)
access_writes (block_write offset payload) ask out access m e w b = sym (ap (λ (a : Access). a.payload) e) ∙ body_writes ask out offset payload m
access_writes (quadlet_read offset) ask out access m e w b = untrue (ap (λ (a : Access). a.is_write) e ∙ w)
access_writes (block_read offset count) ask out access m e w b = untrue (ap (λ (a : Access). a.is_write) e ∙ w)

-- what was to be written then stays with the serial
outgoing_stays : (start : List Disk) (later past : List Moment) (serial : ℕ) → SerialsCount (later ++ past) → serial ≤ (terms past).count → outgoing_for start (later ++ past) serial ≡ outgoing_for start past serial
outgoing_stays start [] past serial c l = refl
outgoing_stays start (asked line event ∷ later) past serial c l = outgoing_stays start later past serial c l
outgoing_stays start (said (notes.Sent number generation zero to bytes) ∷ later) past serial c l =
    let more = (remains later past c.1).count in
    let count = c.0 in
    let d = older serial number (terms (later ++ past)).count (omega (arith, l, more)) count in
    ap (λ b. cond b (target_at start (later ++ past)).manager.outgoing (outgoing_for start (later ++ past) serial)) d ∙ outgoing_stays start later past serial c.1 l
outgoing_stays start (said (notes.Sent number generation (suc j) to bytes) ∷ later) past serial c l = outgoing_stays start later past serial c.1 l
outgoing_stays start (said note ∷ later) past serial c l = outgoing_stays start later past serial (serials_behind (said note) (later ++ past) c) l

pub record SentBlock (start : List Disk) (past : List Moment) (serial : ℕ) (op : Operation) (payload : List ℕ) : Type 0 where
  pub status : Status
  pub payload_is : payload ≡ status_block op.orb status
  pub outgoing_is : outgoing_for start past serial ≡ payload

module _ (start : List Disk) (past : List Moment) (counts : SerialsCount past) (serial : ℕ) (op : Operation) (was : WasAsked start past serial op) (phase : op.phase ≡ phases.Status) (packet : Sending) (sent : (terms past).sent serial ≡ Some packet) (header : Header) (offset : ℕ) (payload : List ℕ) (read : reading packet.bytes ≡ Ok (write_block header offset payload)) where
  abbrev then : List Moment
  then = said (notes.Sent serial was.generation 0 was.to was.bytes) ∷ was.before

  abbrev asking : Sending
  asking = record { generation = was.generation; from = 0; to = was.to; bytes = was.bytes; injected = (terms was.before).injected serial }

  counts_later : SerialsCount (was.later ++ then)
  counts_later = subst SerialsCount (sym was.is) counts

  counts_then : SerialsCount then
  counts_then = serials_from was.later then counts_later

  inside : serial ≤ (terms then).count
  inside = let n = count_now was.before serial was.generation 0 was.to was.bytes in let s = counts_then.0 in omega (arith, n, s)

  itself : nat_eq serial serial ≡ true
  itself = grind (arith, nat_tests)

  sent_then : (terms then).sent serial ≡ Some packet
  sent_then = sym ((remains was.later then counts_later).sent serial inside) ∙ ap (λ ms. (terms ms).sent serial) was.is ∙ sent

  packet_is : asking ≡ packet
  packet_is = sent_is serial asking packet (terms was.before).sent (sym (ap (λ (g : ℕ → Option Sending). g serial) (sent_terms serial asking (terms was.before)).sent) ∙ sent_then)

  bytes_are : packet.bytes ≡ was.bytes
  bytes_are = ap (λ (x : Sending). x.bytes) (sym packet_is)

  outgoing_then : outgoing_for start past serial ≡ (target_at start was.before).manager.outgoing
  outgoing_then =
      ap (λ ms. outgoing_for start ms serial) (sym was.is)
      ∙ outgoing_stays start was.later then serial counts_later inside
      ∙ ap (λ b. cond b (target_at start was.before).manager.outgoing (outgoing_for start was.before serial)) itself

  abbrev written : Access
  written = record { is_lock = false; is_write = true; is_block = true; offset = offset; count = length payload; payload = payload }

  spelled : access_in_bytes was.bytes ≡ Some written
  spelled = ap access_in_bytes (sym bytes_are) ∙ ap (λ (r : Result Packet PacketFault). access_in (spelled_by r)) read

  pub sent_block : SentBlock start past serial op payload
  sent_block =
      let content : AccessOf phases.Status op was.access = subst (λ (x : Phase). AccessOf x op was.access) phase was.content in
      let access : was.access ≡ written = same_some was.access written (sym was.spelled ∙ spelled) in
      let body : access_for was.asked.body ≡ written = same_some (access_for was.asked.body) written (sym was.asked.access ∙ spelled) in
      record {
        status = content.0;
        payload_is = sym (ap (λ (a : Access). a.payload) access) ∙ ap (λ (a : Access). a.payload) content.1.1;
        outgoing_is = outgoing_then ∙ sym (access_writes was.asked.body (target_at start was.before).manager_asks (target_at start was.before).manager.outgoing written was.asked.asks body refl refl);
      }
