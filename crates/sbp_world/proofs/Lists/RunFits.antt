-- How a command runs by what it was appended with: where its agent has the ORB, the buffer and the data of the command, and its unit ran it as it may, its outcome is what
-- the plain disk allows for the request of the append.
use Rattle.sbp_world.proofs.Words.Std.{arith, ◌≡◌, ◌∙◌, refl, sym, ap, subst, inl, inr, ◌⊎◌, ◌<◌, ◌&&◌, nat_lt, ℕ, Bool, true, false, cond, List, [], ◌∷◌, length, take, Option, Some, Ok, nat_tests, same_Some}
use Rattle.sbp_world.proofs.Words.Wire.{buffer_of, in_buffer, out_buffer, Moment, Cmd}
use Rattle.sbp_world.proofs.Words.Target.{command_by, command_of, moves_disc, operation_in, starts, unless_bad, check_by, is_start_stop, plain_request, disk_request, Feeds, MayEnd, check_in, data_length_by, data_length_of, failure_of, need_of, PlainDisk, BufferPlan, Payload, Outcome, Machine, MayRun}
use Rattle.sbp_world.proofs.Words.Initiator.{Memory, CommandOrb, bytes_of, Segment, IsCommand}
use Rattle.sbp_world.proofs.Words.Laws.{laid_out, MayCarry, RunsOn, asked_data, Orb, command_at, Request, data_of, plan_of, request_at}
use Rattle.sbp_world.proofs.Words.World.{StandsIn, request_of, IsBufferOf, IsDataIn, IsOrbOf}
use Rattle.std.proofs.Common.{take_all}
use Rattle.rbc_command.specs.declared.command.Command.TheVariants as commands
use Rattle.rbc_command.specs.declared.operation.Operation.{Operation}
use Rattle.rbc_command.specs.declared.operation.Operation.TheVariants as operations
use Rattle.rbc_disk.specs.declared.request.Request.TheVariants as requests
use Rattle.command_agent.specs.Machine as agent
use Rattle.sbp_world.specs.Lists.Lists.{IsDataOf}
use Rattle.sbp_world.proofs.Lists.Slots.{IsFilled}
use Rattle.sbp_world.proofs.Common.{no_bytes}

-- the command of an append, and its request; its buffer is laid out in a slot, as long as the command says
pub record WasAsked (command : Option Cmd) (request : Option Request) (slot : ℕ) : Type 0 where
  pub cmd : Cmd
  pub command_is : command ≡ Some cmd
  pub small : slot < 32
  pub filled : IsFilled slot cmd
  pub request_is : request ≡ Some (request_of cmd)
  pub fits : IsCommand cmd
  pub fills : (plan_of (buffer_of cmd)).bytes ≡ cmd.length
  pub direction : (cmd.to_initiator && nat_lt 0 cmd.length) ≡ (plan_of (buffer_of cmd)).to_initiator
  pub whole : bytes_of (laid_out slot cmd cmd.segments) ≡ cmd.length

pub stands_asked : (past : List Moment) (i : ℕ) (memory : Memory) (slot : ℕ) (one : Orb) → slot < 32 → ((cmd : Cmd) → command_at past i one.list one.number ≡ Some cmd → IsFilled slot cmd) → StandsIn past i memory slot one → WasAsked (command_at past i one.list one.number) (request_at past i one.list one.number) slot
stands_asked past i memory slot one small filled s = record {
  cmd = s.cmd;
  command_is = s.command;
  small = small;
  filled = filled s.cmd s.command;
  request_is = s.request;
  fits = s.fits;
  fills = s.fills;
  direction = sym (ap (λ (x : CommandOrb). x.to_initiator) s.orb) ∙ s.as_appended.direction;
  whole = s.whole;
}

-- ---- data are those of a WRITE, over a bay too
no_data : (b s : Bool) → data_length_by (plain_request (unless_bad b (commands.StartStop s))) ≡ 0
no_data true s = refl
no_data false s = refl

plain_data : (operation : Option Operation) (cdb : List ℕ) → 0 < data_length_by (plain_request (command_by operation cdb)) → is_start_stop operation ≡ false
plain_data (Some operations.StartStop) cdb b = let none = no_data (moves_disc cdb) (starts cdb) in absurd (omega (arith, none, b))
plain_data operation cdb b = refl

bay_data : (is_bay : Bool) (cdb : List ℕ) → 0 < data_length_of false cdb → data_length_of is_bay cdb ≡ data_length_of false cdb
unfolding disk_request
bay_data false cdb b = refl
bay_data true cdb b =
    ap (λ x. data_length_by (cond (x && moves_disc cdb) (cond (starts cdb) (Ok requests.Load) (Ok requests.Eject)) (plain_request (command_of cdb)))) (plain_data (operation_in cdb) cdb b)

-- ---- plans and data
plans_same : (x y : BufferPlan) → x.to_initiator ≡ y.to_initiator → x.bytes ≡ y.bytes → x ≡ y
plans_same x y e f = ap (λ b. record { to_initiator = b; bytes = x.bytes }) e ∙ ap (λ n. record { to_initiator = y.to_initiator; bytes = n }) f

data_out : (bytes : List ℕ) → data_of (out_buffer bytes) ≡ bytes
data_out [] = refl
data_out (byte ∷ bytes) = refl

module _ (command : Option Cmd) (request : Option Request) (slot : ℕ) (a : WasAsked command request slot) where
  abbrev cmd : Cmd
  cmd = a.cmd

  own : (o : Cmd) → command ≡ Some o → o ≡ cmd
  own o e = same_Some o cmd (sym e ∙ a.command_is)

  abbrev plan : BufferPlan
  plan = plan_of (buffer_of cmd)

  plan_is : (m : Machine) → IsOrbOf command slot m.orb → IsBufferOf command slot m.segments → agent.plan_of m ≡ plan
  plan_is m o b =
      let same : o.cmd ≡ cmd = own o.cmd o.command in
      let to : m.orb.to_initiator ≡ (cmd.to_initiator && nat_lt 0 cmd.length) = ap (λ (x : CommandOrb). x.to_initiator) o.orb ∙ ap (λ (c : Cmd). c.to_initiator && nat_lt 0 c.length) same in
      let laid : m.segments ≡ laid_out slot cmd cmd.segments = subst (λ x. IsBufferOf x slot m.segments) a.command_is b in
      plans_same (agent.plan_of m) plan (to ∙ a.direction) (ap (λ (ss : List Segment). bytes_of ss) laid ∙ a.whole ∙ sym a.fills)

  abbrev all_data : List ℕ
  all_data = data_of (buffer_of cmd)

  outward_data : cmd.to_initiator ≡ false → all_data ≡ cmd.payload
  outward_data e =
      ap (λ b. data_of (cond b (in_buffer cmd.length) (out_buffer (take cmd.length cmd.payload)))) e
      ∙ data_out (take cmd.length cmd.payload) ∙ take_all cmd.length cmd.payload (a.fits 0 0).payload

  -- the bytes are the first ones of its data
  data_first : (bytes : List ℕ) → IsDataOf command bytes → bytes ≡ take (length bytes) all_data
  data_first bytes d = by (nat_lt 0 (length bytes)) refl
    where
      has : IsDataIn cmd bytes
      has = subst (λ x. IsDataOf x bytes) a.command_is d

      by : (b : Bool) → nat_lt 0 (length bytes) ≡ b → bytes ≡ take (length bytes) all_data
      by true e =
          let some : 0 < length bytes = grind (arith, nat_tests) in
          has.first ∙ ap (λ xs. take (length bytes) xs) (sym (outward_data (has.outward some)))
      by false e =
          let none : bytes ≡ [] = no_bytes bytes (grind (arith, nat_tests)) in
          subst (λ xs. xs ≡ take (length xs) all_data) (sym none) refl

  module _ (m : Machine) (place : ℕ) (plain : PlainDisk) (outcome : Outcome) (o : IsOrbOf command slot m.orb) (buffer : IsBufferOf command slot m.segments) (part : IsDataOf command m.payload) (whole : (m.payload ≡ []) ⊎ (length m.payload ≡ data_length_of false m.orb.cdb)) (may : MayRun m place outcome plain) where
    abbrev cdb : List ℕ
    cdb = m.orb.cdb

    cdb_is : cdb ≡ cmd.cdb
    cdb_is = ap (λ (x : CommandOrb). x.cdb) o.orb ∙ ap (λ (c : Cmd). c.cdb) (own o.cmd o.command)

    same_plan : agent.plan_of m ≡ plan
    same_plan = plan_is m o buffer

    first : m.payload ≡ take (length m.payload) all_data
    first = data_first m.payload part

    carried : MayCarry (request_of cmd) plain.medium.is_bay m.payload
    carried = by whole
      where
        by_size : (b : Bool) → nat_lt 0 (length m.payload) ≡ b → length m.payload ≡ data_length_of false cdb → MayCarry (request_of cmd) plain.medium.is_bay m.payload
        by_size true e f =
            let some : 0 < length m.payload = grind (arith, nat_tests) in
            let some_data : 0 < data_length_of false cdb = subst (λ n. 0 < n) f some in
            let size : length m.payload ≡ data_length_of plain.medium.is_bay cmd.cdb = f ∙ sym (bay_data plain.medium.is_bay cdb some_data) ∙ ap (data_length_of plain.medium.is_bay) cdb_is in
            inr (subst (λ n. 0 < n) size some, first ∙ ap (λ n. take n all_data) size)
        by_size false e f = inl (no_bytes m.payload (grind (arith, nat_tests)))

        by : (m.payload ≡ []) ⊎ (length m.payload ≡ data_length_of false cdb) → MayCarry (request_of cmd) plain.medium.is_bay m.payload
        by (inl e) = inl e
        by (inr e) = by_size (nat_lt 0 (length m.payload)) refl e

    needed : (len : ℕ) → need_of cdb plan plain place ≡ Payload len → m.payload ≡ asked_data (request_of cmd) len
    needed len e =
        let need : need_of cdb (agent.plan_of m) plain place ≡ Payload len = ap (λ b. need_of cdb b plain place) same_plan ∙ e in
        let size : length m.payload ≡ len = subst (λ n. Feeds n m.payload) need may.fed in
        first ∙ ap (λ n. take n all_data) size

    pub runs_on : RunsOn (request_of cmd) plain place cdb m.payload (check_in outcome)
    runs_on = record {
      command = cdb_is;
      carried = carried;
      needed = needed;
      ended = subst (λ b. MayEnd (check_by cdb b plain place) (failure_of plain.medium.is_bay cdb) (check_in outcome)) same_plan may.ended;
    }
