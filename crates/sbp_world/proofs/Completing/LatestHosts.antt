-- How many logins a host has asked for, over a note: as many as before, and then a login that is under way was so before; or one more, and then the operation under way begins with the packet of this note.
use Rattle.sbp_world.proofs.Words.Std.{◌≡◌, ◌∙◌, inl, inr, ◌⊎◌, refl, sym, ap, ℕ, zero, suc, ◌+◌, not, nat_eq, Bool, true, false, cond, List, Option, Some, None}
use Rattle.sbp_world.proofs.Words.Wire.{Moment, Part, request, response, Terms, Action, Event, Note, Operation, OpWord}
use Rattle.sbp_world.proofs.Words.Initiator.{Answer, Done, Expired, NoLabel, Payload, Refused}
use Rattle.sbp_world.proofs.Words.Laws.{Host, Underway, acted, goes_on, host_by, list_begins, op_ended, operation_of, pointer_answered, ring, sent_in, present_list, answer_in, answered_at, packet_at, receiver_in, sender_in}
use Rattle.sbp_journal.specs.Transactions.{no_packet}
use Rattle.sbp_journal.specs.declared.event.Action.TheVariants as actions
use Rattle.sbp_journal.specs.declared.event.Event.TheVariants as events
use Rattle.sbp_journal.specs.declared.note.Note.TheVariants as notes
use Rattle.sbp_journal.specs.declared.operation.Operation.TheVariants as operations
use Rattle.sbp_journal.specs.declared.operation.OpWord.TheVariants as words
use Rattle.sbp_laws.specs.Hosts.{got_by, is_serial, reset_seen, sent_as}
use Rattle.sbp_world.proofs.Common.{none_is}

-- a login that was under way
pub record Was (old : Host) (now : Underway) : Type 0 where
  pub was : Underway
  pub is : old.operation ≡ Some was
  pub login : was.operation ≡ operations.Login
  pub first : now.first ≡ was.first

pub record Same (old new : Host) : Type 0 where
  pub logins : new.logins ≡ old.logins
  pub had : (now : Underway) → new.operation ≡ Some now → now.operation ≡ operations.Login → Was old now

pub record Logs (serial : ℕ) (old new : Host) : Type 0 where
  pub logins : new.logins ≡ old.logins + 1
  pub first : (now : Underway) → new.operation ≡ Some now → now.first ≡ serial

abbrev pub Counts : ℕ → Host → Host → Type 0
Counts serial old new = Same old new ⊎ Logs serial old new

as_it_was : (old new : Host) → new.logins ≡ old.logins → new.operation ≡ old.operation → Same old new
as_it_was old new l o = record { logins = l; had = λ now e is. record { was = now; is = sym o ∙ e; login = is; first = refl } }

none_left : (old new : Host) → new.logins ≡ old.logins → new.operation ≡ None → Same old new
none_left old new l o = record { logins = l; had = λ now e is. none_is now (sym o ∙ e) }

pub self : (host : Host) → Same host host
self host = as_it_was host host refl refl

same_if : (b : Bool) (x old : Host) → Same old x → Same old (cond b x old)
same_if true x old k = k
same_if false x old k = self old

counts_if : (serial : ℕ) (b : Bool) (x y old : Host) → Counts serial old x → Counts serial old y → Counts serial old (cond b x y)
counts_if serial true x y old h k = h
counts_if serial false x y old h k = k

-- ---- a request
module _ (host : Host) where
  goes : (u : Option Underway) (serial : ℕ) → host.operation ≡ u → Same host (goes_on u serial host)
  goes None serial e = self host
  goes (Some underway) serial e = record {
    logins = refl;
    had = λ now f is. (let same : record underway { latest = serial } ≡ now = (let both : Some (record underway { latest = serial }) ≡ Some now = f in cc) in record {
      was = underway;
      is = e;
      login = ap (λ (u : Underway). u.operation) same ∙ is;
      first = ap (λ (u : Underway). u.first) (sym same);
    });
  }

  rings : (pointer : Option ℕ) (serial : ℕ) → Same host (ring pointer serial host)
  rings None serial = as_it_was host (ring None serial host) refl refl
  rings (Some first) serial = as_it_was host (ring (Some first) serial host) refl refl

  -- an operation that is no login begins
  others : (operation : Operation) (new : Host) (own : Underway) → new.logins ≡ host.logins → new.operation ≡ Some own → own.operation ≡ operation → (operation ≡ operations.Login → ⊥) → Same host new
  others operation new own l o of never = record {
    logins = l;
    had = λ now e is. (let same : own ≡ now = (let both : Some own ≡ Some now = sym o ∙ e in cc) in absurd (never (sym of ∙ (ap (λ (u : Underway). u.operation) same ∙ is))));
  }

  abbrev Acts : Action → ℕ → Option ℕ → Type 0
  Acts action serial list = Counts serial host (acted action (operation_of action) list serial host)

  acts : (action : Action) (serial : ℕ) (list : Option ℕ) → Acts action serial list
  acts (actions.Login unit reconnect exclusive password) serial list = inr (record { logins = refl; first = λ now e. (let both : (acted (actions.Login unit reconnect exclusive password) (Some operations.Login) list serial host).operation ≡ Some now = e in sym (firsts _ now both refl)) })
    where
      firsts : (own now : Underway) → Some own ≡ Some now → own.first ≡ serial → serial ≡ now.first
      firsts own now e f = (let same : own ≡ now = cc in sym f ∙ ap (λ (u : Underway). u.first) same)
  acts actions.Rom serial list = inl (others operations.Rom _ _ refl refl refl (λ e. cc))
  acts (actions.Query unit) serial list = inl (others operations.Query _ _ refl refl refl (λ e. cc))
  acts actions.Reconnect serial list = inl (others operations.Reconnect _ _ refl refl refl (λ e. cc))
  acts actions.Logout serial list = inl (others operations.Logout _ _ refl refl refl (λ e. cc))
  acts (actions.Abort k) serial list = inl (others operations.Abort _ _ refl refl refl (λ e. cc))
  acts actions.AbortSet serial list = inl (others operations.AbortSet _ _ refl refl refl (λ e. cc))
  acts actions.UnitReset serial list = inl (others operations.UnitReset _ _ refl refl refl (λ e. cc))
  acts actions.TargetReset serial list = inl (others operations.TargetReset _ _ refl refl refl (λ e. cc))
  acts actions.AgentReset serial list = inl (others operations.AgentReset _ _ refl refl refl (λ e. cc))
  acts actions.Enable serial list = inl (others operations.Enable _ _ refl refl refl (λ e. cc))
  acts actions.State serial list = inl (as_it_was host _ refl refl)
  acts actions.Ring serial list = inl (rings host.pointer serial)
  acts (actions.Append cmd) serial list = inl (rings host.pointer serial)
  acts _ serial list = inl (self host)

  goes_now : (serial : ℕ) → Counts serial host (goes_on host.operation serial host)
  goes_now serial = inl (goes host.operation serial refl)

  sends : (event : Option Event) (i : ℕ) (list : Option ℕ) (serial : ℕ) → Counts serial host (sent_in event i list serial host)
  sends (Some (events.Act j action)) i list serial = counts_if serial (nat_eq j i) (acted action (operation_of action) list serial host) (goes_on host.operation serial host) host (acts action serial list) (goes_now serial)
  sends None i list serial = goes_now serial
  sends (Some (events.Begin initiators ready)) i list serial = goes_now serial
  sends (Some (events.Reset physical)) i list serial = goes_now serial
  sends (Some (events.See node)) i list serial = goes_now serial
  sends (Some (events.Deliver packet)) i list serial = goes_now serial
  sends (Some (events.Repeat packet)) i list serial = goes_now serial
  sends (Some (events.Lose packet)) i list serial = goes_now serial
  sends (Some (events.Timeout packet)) i list serial = goes_now serial
  sends (Some (events.Step count)) i list serial = goes_now serial
  sends (Some events.Settle) i list serial = goes_now serial
  sends (Some events.Tick) i list serial = goes_now serial
  sends (Some (events.Inject initiator bytes)) i list serial = goes_now serial
  sends (Some (events.Key unit key)) i list serial = goes_now serial

  pub sent_counts : (part : Part) (event : Option Event) (i : ℕ) (list : Option ℕ) (serial : ℕ) → Counts serial host (sent_as part event i list serial host)
  sent_counts (request label kind) event i list serial = sends event i list serial
  sent_counts (response label kind) event i list serial = inl (self host)
  sent_counts no_packet event i list serial = inl (self host)

  -- ---- other notes
  pointers : (answer : Answer) (own : Bool) → Same host (pointer_answered answer own host)
  pointers Done true = as_it_was host _ refl refl
  pointers Done false = self host
  pointers Expired own = self host
  pointers NoLabel own = self host
  pointers (Payload bytes) own = self host
  pointers (Refused code) own = self host

  gots : (own : Option ℕ) (wire : Terms) (serial : ℕ) (present : Option ℕ) → Same host (got_by own wire serial present host)
  gots (Some own) wire serial present =
      let p = pointers (answer_in (packet_at wire serial)) (is_serial host.pointer own) in
      record { logins = p.logins; had = p.had }
  gots None wire serial present = as_it_was host _ refl refl

  ended : (operation : Operation) (word : OpWord) → Same host (op_ended operation word host)
  ended operations.Login words.Done = none_left host _ refl refl
  ended operations.Rom words.Done = none_left host _ refl refl
  ended operations.State word = self host
  ended operation word = none_left host _ refl refl

  lists : (k : ℕ) → Same host (list_begins k host)
  lists zero = as_it_was host _ refl refl
  lists (suc k) = self host

  resets : (b : Bool) → Same host (reset_seen b host)
  resets true = none_left host _ refl refl
  resets false = self host

-- ---- a note that is neither a packet nor the beginning
abbrev pub is_other : Note → Bool
is_other (notes.Begin initiators ready) = false
is_other (notes.Sent serial generation from to bytes) = false
is_other note = true

pub other_same : (note : Note) (past : List Moment) (wire : Terms) (i : ℕ) (host : Host) → is_other note ≡ true → Same host (host_by note past wire i host)
other_same (notes.Begin initiators ready) past wire i host o = absurd (let no : false ≡ true = o in cc)
other_same (notes.Sent serial generation from to bytes) past wire i host o = absurd (let no : false ≡ true = o in cc)
other_same (notes.Got serial) past wire i host o = same_if (is_serial (receiver_in (wire.sent serial)) (suc i)) _ host (gots host (answered_at wire serial) wire serial (present_list past i))
other_same (notes.TimedOut serial) past wire i host o = same_if (is_serial (sender_in (wire.sent serial)) (suc i)) _ host (as_it_was host _ refl refl)
other_same (notes.Op j operation word) past wire i host o = same_if (nat_eq j i) (op_ended operation word host) host (ended host operation word)
other_same (notes.Stuck j) past wire i host o = same_if (nat_eq j i) _ host (as_it_was host _ refl refl)
other_same (notes.Append j n k cdb buffer) past wire i host o = same_if (nat_eq j i) (list_begins k host) host (lists host k)
other_same (notes.Drop j n) past wire i host o = same_if (nat_eq j i) (list_begins zero host) host (lists host zero)
other_same (notes.Taken j n k status answer) past wire i host o = same_if (nat_eq j i) _ host (as_it_was host _ refl refl)
other_same (notes.Seen node generation) past wire i host o = same_if (nat_eq node (suc i)) (reset_seen (not (nat_eq generation (wire.generation node))) host) host (resets host (not (nat_eq generation (wire.generation node))))
other_same note past wire i host o = self host
