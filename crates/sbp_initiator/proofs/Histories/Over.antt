-- The laws over every list of calls.
use Rattle.std.proofs.Common.{◌≡◌, refl, ℕ, zero, suc, ◌+◌, Bool, true, false, List, [], ◌∷◌, replicate, slice_index_or, Option, None}
use Rattle.bus_memory.specs.Memory.{empty_place, new_memory}
use Rattle.label_table.specs.declared.reply.ReplyKind.{ReplyKind}
use Rattle.label_table.specs.History as wire
use Rattle.sbp_journal.specs.Outgoings.{empty_outbox}
use Rattle.sbp_initiator.specs.declared.purpose.Purpose.{Purpose}
use Rattle.sbp_initiator.specs.Acting.{act_step, demand_of}
use Rattle.sbp_initiator.specs.Effects.{Turn}
use Rattle.sbp_initiator.specs.Initiators.{new_state}
use Rattle.sbp_initiator.specs.States.{is_answered}
use Rattle.sbp_initiator.specs.Histories.Laws.{Call, acts, receives, lets_expire, AreCalls, IsCall, after, done}
use Rattle.sbp_initiator.specs.Histories.Laws as laws
use Rattle.sbp_initiator.specs.Histories.Marks.{counted_by}
use Rattle.sbp_initiator.specs.Histories.Numbers.{NumberLaw}
use Rattle.sbp_initiator.specs.Histories.Served.{held_by, held_after}
use Rattle.sbp_initiator.specs.Histories.Tells.{TellsLaw}
use Rattle.sbp_initiator.proofs.Histories.Acts.{act_acted, pointed_if}
use Rattle.sbp_initiator.proofs.Histories.Effects.{Holds, Past}
use Rattle.sbp_initiator.proofs.Histories.Runs.{Sound, call_soundly, call_tells, none_some}
use Rattle.sbp_initiator.proofs.Histories.Sights.{sees_so, sees_soundly}

first_place : (m : ℕ) → (slice_index_or (replicate 2 empty_place) m empty_place).orb ≡ replicate 32 0
unfolding empty_place
first_place zero = refl
first_place (suc zero) = refl
first_place (suc (suc m)) = refl

-- nothing is remembered of no calls
abbrev nothing : Past
nothing = record { places = λ m. replicate 32 0; pointed = λ n. false }

none_pointed : {A : Type 0} → false ≡ true → A
none_pointed e = absurd (differ e)
  where
    differ : false ≡ true → ⊥
    differ e = cc

first_holds : (number : ℕ) (ready : Bool) → Holds nothing (new_state number ready).lists (new_state number ready).marks.pointing
unfolding new_state new_memory
first_holds number ready = record {
  marks = refl;
  orbs = first_place;
  places = refl;
  pointed = record { list = tt; below = λ n e. none_pointed e; written = λ n e f. none_pointed e };
}

not_yet : {kind : ReplyKind} {purpose : Option Purpose} → wire.not_begun ≡ wire.under_way kind purpose → ⊥
not_yet e = cc

first_sound : (number : ℕ) (ready : Bool) → Sound (0xffc1 + number) nothing (λ n. None) (empty_outbox, new_state number ready)
unfolding new_state
first_sound number ready = record {
  wires = record { calls = []; layer_is = refl; packets_are = refl; rises = tt; asks = tt; new = tt; lives = record { has = λ peer label kind act list e. absurd (not_yet e) } };
  marks = first_holds number ready;
  sized = λ m. refl;
  orb = record { managed = λ r e. none_some e };
  begun = record { before = λ r e. none_some e };
}

-- what is remembered behind a call
abbrev pub pointed_step : Call → Turn → (ℕ → Bool) → ℕ → Bool
pointed_step (acts action) turn pointed n =
    pointed_if (act_step action turn.0 turn.1).0 (demand_of action turn.1) pointed n
pointed_step _ turn pointed n = pointed n

abbrev past_by : Call → Turn → Past → Past
past_by call turn held = record { places = held_by call turn held.places; pointed = pointed_step call turn held.pointed }

call_sound : (node : ℕ) (held : Past) (counted : ℕ → Option ℕ) (call : Call) (t : Turn) → Sound node held counted t → Sound node (past_by call t held) (counted_by call t (is_answered t.1.marks.pointing) counted) (done call t)
call_sound node held counted (acts action) t k = (act_acted node held counted action t.0 t.1 k).sound
call_sound node held counted (receives generation bytes) t k = call_soundly node held counted (receives generation bytes) t k refl
call_sound node held counted (lets_expire label) t k = call_soundly node held counted (lets_expire label) t k refl
call_sound node held counted (laws.sees generation id target) t k = sees_soundly node held counted generation id target t.0 t.1 k

-- the list that each read counts for, by what the initiator knew as it was asked for
abbrev pub counted_now : ℕ → Bool → List Call → ℕ → Option ℕ
counted_now number ready [] n = None
counted_now number ready (call ∷ calls) n =
    counted_by call (after number ready calls) (is_answered (after number ready calls).1.marks.pointing) (counted_now number ready calls) n

-- the lists whose ORB_POINTER was asked for, and what the places of management hold
abbrev pub pointed_now : ℕ → Bool → List Call → ℕ → Bool
pointed_now number ready [] n = false
pointed_now number ready (call ∷ calls) n = pointed_step call (after number ready calls) (pointed_now number ready calls) n

abbrev pub past_now : ℕ → Bool → List Call → Past
past_now number ready calls = record { places = held_after number ready calls; pointed = pointed_now number ready calls }

pub sound : (number : ℕ) (ready : Bool) (calls : List Call) → Sound (0xffc1 + number) (past_now number ready calls) (counted_now number ready calls) (after number ready calls)
sound number ready [] = first_sound number ready
sound number ready (call ∷ calls) =
    call_sound (0xffc1 + number) (past_now number ready calls) (counted_now number ready calls) call (after number ready calls) (sound number ready calls)

none_first : (number : ℕ) (ready : Bool) → (new_state number ready).operation ≡ None
unfolding new_state
none_first number ready = refl

pub tells_law : TellsLaw
tells_law = record {
  first = λ number ready. none_first number ready;
  tells = λ number ready calls h. record {
    action = λ act p e. (act_acted (0xffc1 + number) (past_now number ready calls) (counted_now number ready calls) act (after number ready calls).0 (after number ready calls).1 (sound number ready calls)).begins e;
    heard = λ call e. call_tells (0xffc1 + number) (past_now number ready calls) (counted_now number ready calls) call (after number ready calls) (sound number ready calls) e;
    seen = λ generation id target. sees_so (0xffc1 + number) (past_now number ready calls) (counted_now number ready calls) generation id target (after number ready calls).0 (after number ready calls).1 (sound number ready calls);
  };
}

pub number_law : NumberLaw
number_law number ready calls h =
    let w = (sound number ready calls).wires in
    record { calls = w.calls; layer_is = w.layer_is; packets_are = w.packets_are; rises = w.rises }
