-- The table of logins of a drill's target is the one that it began with: no note of management changes it.
use Rattle.std.proofs.Common.{◌≡◌, ◌∙◌, refl, sym, ℕ, ◌==◌, Bool, true, false, cond, List, Option, Some, None}
use Rattle.rbc_disk.specs.Runs.{Told}
use Rattle.orb_layout.specs.Replies.{Answer}
use Rattle.orb_layout.specs.declared.ask.FailCause.TheVariants as fails
use Rattle.sbp_journal.specs.Addresses.{Access, Register, Start, agent_reset, agent_state, doorbell, management_agent, no_start, orb_pointer, register, rom_start, start_at, start_serves, unsolicited_enable}
use Rattle.sbp_journal.specs.Run.{Moment}
use Rattle.sbp_journal.specs.Transactions.{Part, no_packet, part_of, request, response}
use Rattle.sbp_journal.specs.Wire.{Terms}
use Rattle.sbp_journal.specs.declared.note.Note.{Note}
use Rattle.sbp_journal.specs.declared.note.Note.TheVariants as notes
use Rattle.sbp_laws.specs.Packets.{access_at}
use Rattle.sbp_laws.specs.Targets.{Purpose, Reply, Target, for_agent, for_manager, for_nobody, going_on, got_by, is_own_run, over, purpose_of, ran_on, register_got, replied_to, request_got, sent_as, sent_for, start_got, taken_on, target_by, wants, with_untold}
use Rattle.drill_laws.specs.DrillCalm.{IsCalmNote}
use Rattle.drill_laws.proofs.DrillHosts.{BeginsNone, IsNoStart, RestsIdle, never_managed}

abbrev pub KeepsTable : Target → Target → Type 0
KeepsTable old new = new.table ≡ old.table

taken_table : (told : Option Told) (reply : Option Reply) (target : Target) → KeepsTable target (taken_on told reply target)
taken_table told None target = refl
taken_table told (Some reply) target = refl

untold_table : (note : Note) (reply : Option Reply) (target : Target) → KeepsTable target (with_untold note reply target)
untold_table note None target = refl
untold_table note (Some reply) target = refl

going_table : (note : Note) (target : Target) → KeepsTable target (going_on note target)
going_table note target = taken_table _ target.reply (with_untold note target.reply target) ∙ untold_table note target.reply target

pub over_table : (target : Target) → KeepsTable target (over target)
over_table target = taken_table None target.reply target

ran_table : (own : Bool) (note : Note) (target : Target) → KeepsTable target (ran_on own note target)
ran_table true note target = going_table note target
ran_table false note target = taken_table None target.reply target

either_table : (b : Bool) (old x y : Target) → KeepsTable old x → KeepsTable old y → KeepsTable old (cond b x y)
either_table true old x y h k = h
either_table false old x y h k = k

for_table : (place : Option ℕ) (is_write : Bool) (serial : ℕ) (target : Target) → KeepsTable target (sent_for place is_write serial target)
for_table (Some place) is_write serial target = refl
for_table None is_write serial target = either_table (wants target.manager_asks is_write) target _ _ refl refl

sent_table : (part : Part) (is_write : Bool) (serial : ℕ) (target : Target) → KeepsTable target (sent_as part is_write serial target)
sent_table (request label kind) is_write serial target = for_table _ is_write serial target
sent_table (response label kind) is_write serial target = refl
sent_table no_packet is_write serial target = refl

-- ---- what the target gets
replied_table : (purpose : Purpose) (answer : Answer) (target : Target) → (purpose ≡ for_manager → ⊥) → KeepsTable target (replied_to purpose answer target)
replied_table (for_agent place which) answer target never = refl
replied_table for_manager answer target never = absurd (never refl)
replied_table for_nobody answer target never = refl

register_table : (name : Register) (place : ℕ) (access : Access) (target : Target) → KeepsTable target (register_got name place access target)
register_table agent_reset place access target = refl
register_table orb_pointer place access target = either_table access.is_write target _ target refl refl
register_table doorbell place access target = refl
register_table unsolicited_enable place access target = refl
register_table agent_state place access target = refl

served_table : (from : Start) (serves : Bool) (source : ℕ) (access : Access) (target : Target) → start_serves from access ≡ serves → (from ≡ management_agent → start_serves management_agent access ≡ false) → KeepsTable target (cond serves (start_got from source access target) target)
served_table from false source access target e never = refl
served_table (register place name) true source access target e never = register_table name place access target
served_table management_agent true source access target e never = absurd (let no : true ≡ false = sym e ∙ never refl in cc no)
served_table rom_start true source access target e never = refl
served_table no_start true source access target e never = refl

request_table : (found : Option Access) (source : ℕ) (target : Target) → ((access : Access) → found ≡ Some access → IsNoStart access) → KeepsTable target (request_got found source target)
request_table None source target never = refl
request_table (Some access) source target never = served_table (start_at access.offset) (start_serves (start_at access.offset) access) source access target refl (never access refl)

pub got_table : (own : Option ℕ) (wire : Terms) (serial : ℕ) (target : Target) → RestsIdle target → ((access : Access) → own ≡ None → access_at wire serial ≡ Some access → IsNoStart access) → KeepsTable target (got_by own wire serial target)
got_table (Some own) wire serial target rests never = replied_table (purpose_of target own) _ target (never_managed target own rests)
got_table None wire serial target rests never = request_table (access_at wire serial) _ target (λ access e. never access refl e)

-- ---- a note that begins no turn
pub note_table : (note : Note) (past : List Moment) (wire : Terms) (target : Target) → BeginsNone note → IsCalmNote note → KeepsTable target (target_by note past wire target)
note_table (notes.Got serial) past wire target begins calm = absurd begins
note_table (notes.Begin initiators ready) past wire target begins calm = absurd begins
note_table (notes.TimedOut serial) past wire target begins calm = absurd begins
note_table (notes.Seen node generation) past wire target begins calm = absurd begins
note_table notes.Tick past wire target begins calm = absurd begins
note_table (notes.Key unit) past wire target begins calm = absurd begins
note_table (notes.Ignored serial cause) past wire target begins calm = over_table target
note_table (notes.Ran i n k unit cdb bytes check) past wire target begins calm = ran_table (is_own_run target.reply i wire target) (notes.Ran i n k unit cdb bytes check) target
note_table (notes.Sent serial generation from to bytes) past wire target begins calm =
    either_table (from == 0) target _ _ (sent_table (part_of bytes) _ serial (taken_on None target.reply target) ∙ taken_table None target.reply target) (taken_table None target.reply target)
note_table (notes.Dead i n fails.Label) past wire target begins calm = taken_table None target.reply target
note_table (notes.Dead i n cause) past wire target begins calm = going_table (notes.Dead i n cause) target
note_table (notes.ManageFailed i cause) past wire target begins calm = absurd calm
note_table (notes.Managed i function subject status login) past wire target begins calm = absurd calm
note_table (notes.Held id) past wire target begins calm = absurd calm
note_table (notes.Back id) past wire target begins calm = absurd calm
note_table (notes.Left id) past wire target begins calm = absurd calm
note_table (notes.Expired id) past wire target begins calm = absurd calm
note_table (notes.Cleared unit) past wire target begins calm = absurd calm
note_table (notes.Unsolicited i) past wire target begins calm = refl
note_table note past wire target begins calm = going_table note target
