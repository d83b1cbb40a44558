-- What is known of a request that passes its checks.
use Rattle.std.proofs.Common.{◌≡◌, ℕ, ◌<◌, ◌≤◌, Bool, true, false, refl, sym, subst, arith}
use Rattle.std.specs.Prelude.{◌==◌, ◌&&◌, ◌||◌, not, nat_lt, Option, Some, None}
use Rattle.rbc_command.specs.declared.sense.Sense.{Sense}
use Rattle.rbc_disk.specs.declared.command.Need.TheVariants.{RunNow}
use Rattle.rbc_disk.specs.Disk.{Disk}
use Rattle.rbc_disk.specs.Units.{PlainDisk}
use Rattle.rbc_disk.specs.Requests.{is_load, is_unfit, Passes, data_length, answer_length}
use Rattle.rbc_disk.specs.Checks.{request_check, tray_check}
use Rattle.rbc_disk.specs.Runs.{need_at, IsSent, AnswerFits, answered_length, check_in}
use Rattle.rbc_disk.specs.declared.request.Request.{Request}
use Rattle.rbc_disk.specs.declared.request.Request.TheVariants as requests
use Rattle.rbc_disk.specs.declared.command.BufferPlan.{BufferPlan}
use Rattle.rbc_disk.specs.declared.command.Outcome.{Outcome}
use Rattle.rbc_disk.specs.declared.command.Outcome.TheVariants.{Good, Check}

-- a load has no check but that of its tray
pub request_check-load : (request : Request) (buffer : BufferPlan) (plain : PlainDisk) → is_load request ≡ true → request_check request buffer plain ≡ tray_check request plain.medium
request_check-load requests.Load buffer plain h = grind arith
request_check-load requests.Eject buffer plain h = cc h
request_check-load (requests.Plain command) buffer plain h = cc h

pub load_passes : (request : Request) (medium : Disk) → is_load request ≡ true → medium.is_bay ≡ true → Passes request medium
load_passes requests.Load medium h e = record { few_data = omega arith; few_answered = omega arith; present = λ k. cc k; inside = refl; bay = λ k. e; open_for_it = λ k. cc k }
load_passes requests.Eject medium h e = cc h
load_passes (requests.Plain command) medium h e = cc h

-- a request without data needs nothing
need_at-zero : (check : Option Sense) → need_at check 0 ≡ RunNow
need_at-zero None = refl
need_at-zero (Some check) = refl

-- what a load needs does not hang on its tray
pub need_at-tray : (request : Request) (medium : Disk) → need_at (tray_check request medium) (data_length request) ≡ need_at None (data_length request)
need_at-tray requests.Load medium = need_at-zero (tray_check requests.Load medium)
need_at-tray requests.Eject medium = refl
need_at-tray (requests.Plain command) medium = refl

-- a load has neither data nor an answer
pub load_is_unfit : (request : Request) (buffer : BufferPlan) → is_load request ≡ true → is_unfit request buffer ≡ false
load_is_unfit requests.Load buffer h = refl
load_is_unfit requests.Eject buffer h = refl
load_is_unfit (requests.Plain command) buffer h = cc h

-- where there are data, the buffer holds them and goes to the target
unfit_data : (n m bytes : ℕ) (inward : Bool) →
    ((not (n == 0) && (nat_lt bytes n || inward)) || (not (m == 0) && (nat_lt bytes m || not inward))) ≡ false → 0 < n → (n ≤ bytes) × (inward ≡ false)
unfit_data n m bytes true h some = grind arith
unfit_data n m bytes false h some = (grind arith, refl)

-- where there is an answer, the buffer holds it and goes to the initiator
unfit_answer : (n m bytes : ℕ) (inward : Bool) →
    ((not (n == 0) && (nat_lt bytes n || inward)) || (not (m == 0) && (nat_lt bytes m || not inward))) ≡ false → 0 < m → (m ≤ bytes) × (inward ≡ true)
unfit_answer n m bytes true h some = (grind arith, refl)
unfit_answer n m bytes false h some = grind arith

pub sent_data : (request : Request) (buffer : BufferPlan) (len : ℕ) → is_unfit request buffer ≡ false → data_length request ≤ 16384 → len ≡ data_length request → 0 < len → IsSent len buffer
sent_data request buffer len h few e some =
    let fits = unfit_data (data_length request) (answer_length request) buffer.bytes buffer.to_initiator h (subst (λ n. 0 < n) e some) in
    record { some = some; few = omega (arith, e); within = subst (λ n. n ≤ buffer.bytes) (sym e) fits.0; outward = fits.1 }

pub answer_fits : (request : Request) (buffer : BufferPlan) (outcome : Outcome) → is_unfit request buffer ≡ false → answered_length outcome ≤ 16384 →
    (check_in outcome ≡ None → answered_length outcome ≡ answer_length request) → AnswerFits (answered_length outcome) buffer
answer_fits request buffer (Check check) h few e = record { few = few; within = λ some. omega arith; inward = λ some. absurd (omega arith) }
answer_fits request buffer (Good len) h few e =
    let same : len ≡ answer_length request = e refl in
    record {
      few = few;
      within = λ some. subst (λ n. n ≤ buffer.bytes) (sym same) (unfit_answer (data_length request) (answer_length request) buffer.bytes buffer.to_initiator h (subst (λ n. 0 < n) same some)).0;
      inward = λ some. (unfit_answer (data_length request) (answer_length request) buffer.bytes buffer.to_initiator h (subst (λ n. 0 < n) same some)).1;
    }

pub ruleset load_steps = (request_check-load, load_passes, load_is_unfit)

pub ruleset need_steps = (need_at-tray)
