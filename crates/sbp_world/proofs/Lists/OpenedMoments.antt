-- The notes that a turn has behind its first moment: what the target tells and sends, and what the others do. They leave the generations of the nodes, and
-- how often packets were taken and served.
use Rattle.sbp_world.proofs.Words.Std.{arith, ◌≡◌, ◌∙◌, refl, sym, ap, ◌≤◌, ◌==◌, ℕ, zero, suc, nat_eq, not, Bool, true, false, cond, List, [], ◌∷◌, ◌++◌, map, Option, Some, None, nat_tests, false≢true}
use Rattle.sbp_world.proofs.Words.Wire.{SerialsCount, Moment, asked, said, Sending, Transaction, begun_by, Owed, Terms, begins, gives, pays, puts, sends, terms, Note}
use Rattle.sbp_world.proofs.Words.Laws.{host_at, present_list, lists}
use Rattle.sbp_world.proofs.Words.World.{pointed_list, state_list, AllOf, of_rest}
use Rattle.sbp_journal.specs.declared.note.Note.TheVariants as notes
use Rattle.sbp_world.proofs.Hosts.Remaining.{gets_same, ignores_that_same, opened_same, remains, serials_behind, times_out_same}
use Rattle.sbp_world.proofs.Lists.OpenedHosts.{Goes, IsLaterAt, goes_then, like, one}
use Rattle.sbp_world.proofs.Common.{cond_off}
use Rattle.sbp_world.proofs.Hosts.Held.{sends_sent}
use Rattle.sbp_world.proofs.Hosts.PointerNotes.{older as other_serial}

-- ---- which notes stand behind the first moment of a turn of the target, and of another turn
abbrev pub of_target : Note → Bool
of_target (notes.Begin initiators ready) = false
of_target (notes.Got serial) = false
of_target (notes.Ignored serial cause) = false
of_target (notes.TimedOut serial) = false
of_target (notes.Seen node generation) = false
of_target (notes.Append i n k cdb buffer) = false
of_target (notes.Drop i n) = false
of_target (notes.Sent serial generation from to bytes) = from == 0
of_target _ = true

abbrev pub of_others : Note → Bool
of_others (notes.Begin initiators ready) = false
of_others (notes.Got serial) = false
of_others (notes.Ignored serial cause) = false
of_others (notes.TimedOut serial) = false
of_others (notes.Seen node generation) = false
of_others (notes.Sent serial generation from to bytes) = not (from == 0)
of_others _ = true

pub all_weaker : (A B : Note → Bool) → ((note : Note) → A note ≡ true → B note ≡ true) → (ns : List Note) → AllOf A ns → AllOf B ns
all_weaker A B f [] a = tt
all_weaker A B f (note ∷ ns) a = (f note a.0, all_weaker A B f ns a.1)

pub target_rest : (note : Note) → of_target note ≡ true → of_rest note ≡ true
target_rest (notes.Begin initiators ready) e = e
target_rest (notes.Got serial) e = e
target_rest (notes.Ignored serial cause) e = e
target_rest (notes.TimedOut serial) e = e
target_rest (notes.Seen node generation) e = e
target_rest _ e = refl

pub others_rest : (note : Note) → of_others note ≡ true → of_rest note ≡ true
others_rest (notes.Begin initiators ready) e = e
others_rest (notes.Got serial) e = e
others_rest (notes.Ignored serial cause) e = e
others_rest (notes.TimedOut serial) e = e
others_rest (notes.Seen node generation) e = e
others_rest _ e = refl

-- ---- the wire
pub record Same (t u : Terms) : Type 0 where
  pub generation : u.generation ≡ t.generation
  pub news : u.news ≡ t.news
  pub served : u.served ≡ t.served
  pub closed : u.closed ≡ t.closed

same_self : (t : Terms) → Same t t
same_self t = record { generation = refl; news = refl; served = refl; closed = refl }

pub same_then : (t u v : Terms) → Same t u → Same u v → Same t v
same_then t u v a b = record {
  generation = b.generation ∙ a.generation;
  news = b.news ∙ a.news;
  served = b.served ∙ a.served;
  closed = b.closed ∙ a.closed;
}

begins_same : (u : Option Transaction) (s : ℕ) (packet : Sending) (t : Terms) → Same t (begins u s packet t)
begins_same None s packet t = same_self t
begins_same (Some u) s packet t = record { generation = refl; news = refl; served = refl; closed = refl }

gives_same : (u : Option Transaction) (rcode : ℕ) (t : Terms) → Same t (gives u rcode t)
gives_same None rcode t = same_self t
gives_same (Some u) rcode t = record { generation = refl; news = refl; served = refl; closed = refl }

pays_same : (owed : Option Owed) (sent : ℕ → Option Sending) (s : ℕ) (packet : Sending) (t : Terms) → Same t (pays owed sent s packet t)
pays_same None sent s packet t = same_self t
pays_same (Some owed) sent s packet t = let k = gives_same _ _ t in record { generation = k.generation; news = k.news; served = k.served; closed = k.closed }

sends_same : (s : ℕ) (packet : Sending) (t : Terms) → Same t (sends s packet t)
sends_same s packet t =
    let put = puts (begun_by packet) s packet t in
    let b = begins (begun_by packet) s packet put in
    let first : Same t put = record { generation = refl; news = refl; served = refl; closed = refl } in
    same_then t b (sends s packet t) (same_then t put b first (begins_same (begun_by packet) s packet put)) (pays_same t.owes t.sent s packet b)

pub rest_same : (note : Note) (past : List Moment) → of_rest note ≡ true → Same (terms past) (terms (said note ∷ past))
rest_same (notes.Begin initiators ready) past e = absurd (false≢true e)
rest_same (notes.Got serial) past e = absurd (false≢true e)
rest_same (notes.Ignored serial cause) past e = absurd (false≢true e)
rest_same (notes.TimedOut serial) past e = absurd (false≢true e)
rest_same (notes.Seen node generation) past e = absurd (false≢true e)
rest_same (notes.Sent serial generation from to bytes) past e = sends_same serial _ (terms past)
rest_same _ past e = record { generation = refl; news = refl; served = refl; closed = refl }

pub all_same : (more : List Note) (past : List Moment) → AllOf of_rest more → Same (terms past) (terms (map said more ++ past))
all_same [] past a = same_self (terms past)
all_same (note ∷ more) past a =
    let whole = map said more ++ past in
    same_then (terms past) (terms whole) (terms (said note ∷ whole)) (all_same more past a.1) (rest_same note whole a.0)

-- ---- what the target tells leaves the lists of an initiator, and its operation
pub record SameLists (i : ℕ) (past now : List Moment) : Type 0 where
  pub present : present_list now i ≡ present_list past i
  pub begun : lists now i ≡ lists past i

told_lists : (note : Note) (past : List Moment) (i : ℕ) → of_target note ≡ true → SameLists i past (said note ∷ past)
told_lists (notes.Begin initiators ready) past i e = absurd (false≢true e)
told_lists (notes.Got serial) past i e = absurd (false≢true e)
told_lists (notes.Ignored serial cause) past i e = absurd (false≢true e)
told_lists (notes.TimedOut serial) past i e = absurd (false≢true e)
told_lists (notes.Seen node generation) past i e = absurd (false≢true e)
told_lists (notes.Append j n k cdb buffer) past i e = absurd (false≢true e)
told_lists (notes.Drop j n) past i e = absurd (false≢true e)
told_lists _ past i e = record { present = refl; begun = refl }

pub all_lists : (more : List Note) (past : List Moment) (i : ℕ) → AllOf of_target more → SameLists i past (map said more ++ past)
all_lists [] past i a = record { present = refl; begun = refl }
all_lists (note ∷ more) past i a =
    let r = all_lists more past i a.1 in
    let s = told_lists note (map said more ++ past) i a.0 in
    record { present = s.present ∙ r.present; begun = s.begun ∙ r.begun }

-- no initiator sends anything
none_later : (n i : ℕ) (note : Note) → of_target note ≡ true → IsLaterAt n i (said note)
none_later n i (notes.Sent serial generation from to bytes) e = λ own. absurd (let a : from ≡ 0 = grind (arith, nat_tests) in let b : from ≡ suc i = grind (arith, nat_tests) in omega (arith, a, b))
none_later n i _ e = tt

pub all_hosts : (n : ℕ) (more : List Note) (past : List Moment) (i : ℕ) → AllOf of_target more → Goes n (host_at past i) (host_at (map said more ++ past) i)
all_hosts n [] past i a = like n (host_at past i) (host_at past i) refl
all_hosts n (note ∷ more) past i a =
    let whole = map said more ++ past in
    goes_then n (host_at past i) (host_at whole i) (host_at (said note ∷ whole) i) (all_hosts n more past i a.1) (one n (said note) whole i (none_later n i note a.0))

-- ---- packets

pub pointed_step : (m : Moment) (past : List Moment) (s i : ℕ) → SerialsCount (m ∷ past) → s ≤ (terms past).count → pointed_list (m ∷ past) s i ≡ pointed_list past s i
pointed_step (said (notes.Sent serial generation (suc j) to bytes)) past s i c l =
    cond_off (nat_eq s serial) _ (pointed_list past s i) (other_serial s serial (terms past).count l c.0)
pointed_step (said (notes.Sent serial generation zero to bytes)) past s i c l = refl
pointed_step (said note) past s i c l = refl
pointed_step (asked line event) past s i c l = refl

pub pointed_remains : (later past : List Moment) (s i : ℕ) → SerialsCount (later ++ past) → s ≤ (terms past).count → pointed_list (later ++ past) s i ≡ pointed_list past s i
pointed_remains [] past s i c l = refl
pointed_remains (m ∷ later) past s i c l =
    let whole = later ++ past in
    let rest : SerialsCount whole = serials_behind m whole c in
    let more = (remains later past rest).count in
    pointed_step m whole s i c (omega (arith, l, more)) ∙ pointed_remains later past s i rest l

-- and so does the list that a read tells of
told_step : (m : Moment) (past : List Moment) (s i : ℕ) → SerialsCount (m ∷ past) → s ≤ (terms past).count → state_list (m ∷ past) s i ≡ state_list past s i
told_step (said (notes.Sent serial generation (suc j) to bytes)) past s i c l =
    cond_off (nat_eq s serial) _ (state_list past s i) (other_serial s serial (terms past).count l c.0)
told_step (said (notes.Sent serial generation zero to bytes)) past s i c l = refl
told_step (said note) past s i c l = refl
told_step (asked line event) past s i c l = refl

pub told_remains : (later past : List Moment) (s i : ℕ) → SerialsCount (later ++ past) → s ≤ (terms past).count → state_list (later ++ past) s i ≡ state_list past s i
told_remains [] past s i c l = refl
told_remains (m ∷ later) past s i c l =
    let whole = later ++ past in
    let rest : SerialsCount whole = serials_behind m whole c in
    let more = (remains later past rest).count in
    told_step m whole s i c (omega (arith, l, more)) ∙ told_remains later past s i rest l

-- ---- a moment at which no packet is sent
abbrev pub is_leaving : Moment → Bool
is_leaving (said (notes.Sent s generation from to bytes)) = true
is_leaving moment = false

pub moment_sent : (m : Moment) (past : List Moment) → is_leaving m ≡ false → (terms (m ∷ past)).sent ≡ (terms past).sent
moment_sent (asked line event) past e = (opened_same event (terms past)).sent
moment_sent (said (notes.Sent s generation from to bytes)) past e = absurd (false≢true (sym e))
moment_sent (said (notes.Got s)) past e = (gets_same ((terms past).sent s) s (terms past)).sent
moment_sent (said (notes.Ignored s cause)) past e = (ignores_that_same ((terms past).sent s) cause s (terms past)).sent
moment_sent (said (notes.TimedOut s)) past e = (times_out_same _ (terms past)).sent
moment_sent (said note) past e = refl

-- ---- what the others send
-- a packet of the target was sent before
some_from : (a b : Sending) → Some a ≡ Some b → a.from ≡ b.from
some_from a b e = let same : a ≡ b = cc in ap (λ (q : Sending). q.from) same

sent_by : (b : Bool) (new packet : Sending) (old : Option Sending) → cond b (Some new) old ≡ Some packet → not (new.from == 0) ≡ true → packet.from ≡ 0 → old ≡ Some packet
sent_by true new packet old e f z = absurd (let a : new.from ≡ packet.from = some_from new packet e in let b : (new.from == 0) ≡ true = grind (arith, nat_tests) in false≢true (ap not (sym b) ∙ f))
sent_by false new packet old e f z = e

others_step : (note : Note) (past : List Moment) (s : ℕ) (packet : Sending) → of_others note ≡ true → packet.from ≡ 0 → (terms (said note ∷ past)).sent s ≡ Some packet → (terms past).sent s ≡ Some packet
others_step (notes.Sent serial generation from to bytes) past s packet a z e =
    let new : Sending = record { generation = generation; from = from; to = to; bytes = bytes; injected = (terms past).injected serial } in
    sent_by (nat_eq s serial) new packet ((terms past).sent s) (ap (λ (g : ℕ → Option Sending). g s) (sym (sends_sent serial new (terms past))) ∙ e) a z
others_step (notes.Begin initiators ready) past s packet a z e = absurd (false≢true a)
others_step (notes.Got serial) past s packet a z e = absurd (false≢true a)
others_step (notes.Ignored serial cause) past s packet a z e = absurd (false≢true a)
others_step (notes.TimedOut serial) past s packet a z e = absurd (false≢true a)
others_step (notes.Seen node generation) past s packet a z e = absurd (false≢true a)
others_step _ past s packet a z e = e

pub others_sent : (more : List Note) (past : List Moment) (s : ℕ) (packet : Sending) → AllOf of_others more → packet.from ≡ 0 → (terms (map said more ++ past)).sent s ≡ Some packet → (terms past).sent s ≡ Some packet
others_sent [] past s packet a z e = e
others_sent (note ∷ more) past s packet a z e = others_sent more past s packet a.1 z (others_step note (map said more ++ past) s packet a.0 z e)
