-- The last request of a source and label decides.
use Rattle.std.specs.Prelude.{◌≡◌, ◌≢◌, ℕ, ◌&&◌, nat_eq, Bool, true, false, cond, List, [], ◌∷◌, Option, Some, None, IsSome, refl}
use Rattle.std.proofs.Common.{arith, ◌∙◌, ap, subst}
use Rattle.label_table.specs.declared.source.Remembered.{Remembered}
use Rattle.label_table.specs.Requests.{label_of}
use Rattle.label_table.specs.Filter.{SourcePlace, no_request, place_for, source_at, seen_in, seen_at, verdict_by, judged, judge_at, remember_step}
use Rattle.label_table.specs.Last.{Answered, filter_after, HadRoom, last_of, verdict_on, LastLaw}
use Rattle.label_table.proofs.Sources.{IsFit, own_after, other_after, request_with, remembered_fit, new_fit, new_unseen}
use Rattle.label_table.proofs.Course.{place_of}

abbrev kept_as : Option Answered → Remembered
kept_as None = no_request
kept_as (Some j) = record { last = Some j.bytes; rcode = j.rcode }

after_fit : (js : List Answered) → IsFit (filter_after js)
after_fit [] = new_fit
after_fit (j ∷ js) = remembered_fit (filter_after js) j.source j.bytes j.rcode (after_fit js)

step_own : (a b : Bool) (j : Answered) (o : Option Answered) (q : Remembered) → a ≡ true → q ≡ kept_as o → cond b (request_with j.bytes j.rcode) q ≡ kept_as (cond (a && b) (Some j) o)
step_own true true j o q e i = refl
step_own true false j o q e i = i
step_own false b j o q e i = cc

step_other : (a b : Bool) (j : Answered) (o : Option Answered) (q : Remembered) → a ≡ false → q ≡ kept_as o → q ≡ kept_as (cond (a && b) (Some j) o)
step_other false b j o q e i = i
step_other true b j o q e i = cc

own_step : (j : Answered) (js : List Answered) (s l : ℕ) (place : Option ℕ) → place_for j.source (filter_after js) ≡ place → IsSome place → s ≡ j.source → seen_at s (filter_after (j ∷ js)) l ≡ cond (nat_eq l (label_of j.bytes)) (request_with j.bytes j.rcode) (seen_at s (filter_after js) l)
own_step j js s l None e some own = cc
own_step j js s l (Some k) e some own =
    let p : place_for s (filter_after js) ≡ Some k = ap (λ t. place_for t (filter_after js)) own ∙ e in
    subst (λ t. seen_at s (remember_step (filter_after js) t j.bytes j.rcode) l ≡ cond (nat_eq l (label_of j.bytes)) (request_with j.bytes j.rcode) (seen_at s (filter_after js) l)) own
    (own_after s (filter_after js) k j.bytes j.rcode l (after_fit js) p)

after_case : (own : Bool) (j : Answered) (js : List Answered) (s l : ℕ) → nat_eq s j.source ≡ own → HadRoom (j ∷ js) → seen_at s (filter_after js) l ≡ kept_as (last_of js s l) → seen_at s (filter_after (j ∷ js)) l ≡ kept_as (last_of (j ∷ js) s l)
after_case true j js s l e room i =
    own_step j js s l _ refl (place_of (filter_after js) j.bytes _ room.0) (grind arith)
    ∙ step_own (nat_eq s j.source) (nat_eq l (label_of j.bytes)) j (last_of js s l) _ e i
after_case false j js s l e room i =
    let apart : s ≢ j.source = λ m. grind arith in
    other_after s j.source (filter_after js) j.bytes j.rcode l (after_fit js) apart
    ∙ step_other (nat_eq s j.source) (nat_eq l (label_of j.bytes)) j (last_of js s l) _ e i

after_seen : (js : List Answered) (s l : ℕ) → HadRoom js → seen_at s (filter_after js) l ≡ kept_as (last_of js s l)
after_seen [] s l room = new_unseen s l
after_seen (j ∷ js) s l room = after_case _ j js s l refl room (after_seen js s l room.1)

judged_by : (f : List SourcePlace) (k : ℕ) (bytes : List ℕ) → judged (source_at f k) bytes ≡ verdict_by (seen_in (Some k) f (label_of bytes)) bytes
unfolding judged
judged_by f k bytes = refl

pub judge_seen : (f : List SourcePlace) (s : ℕ) (bytes : List ℕ) (place : Option ℕ) → IsSome place → judge_at place f bytes ≡ verdict_by (seen_in place f (label_of bytes)) bytes
judge_seen f s bytes None some = cc
judge_seen f s bytes (Some k) some = judged_by f k bytes

verdict_same : (found : Option Answered) (bytes : List ℕ) → verdict_by (kept_as found) bytes ≡ verdict_on found bytes
verdict_same None bytes = grind arith
verdict_same (Some j) bytes = refl

pub last_law : LastLaw
last_law js room source bytes free =
    judge_seen (filter_after js) source bytes _ (place_of (filter_after js) bytes _ free) ∙ ap (λ q. verdict_by q bytes) (after_seen js source (label_of bytes) room) ∙ verdict_same (last_of js source (label_of bytes)) bytes
