-- What a turn adds to a history: moments behind the place before it, in which no packet is judged that is sent in the turn.
use Rattle.sbp_world.proofs.Words.Std.{arith, ◌≡◌, ◌∙◌, refl, sym, ap, subst, ℕ, ◌<◌, List, [], ◌∷◌, ◌++◌, map, append_assoc}
use Rattle.sbp_world.proofs.Words.Wire.{SerialsCount, Wire, Moment, asked, said, begun_in, terms, Event, Note}
use Rattle.sbp_world.proofs.Words.World.{Scene, WorldState, Stands, more_deliveries}
use Rattle.bus_transactions.proofs.PacketLaws.{packets_always}
use Rattle.sbp_journal.specs.declared.note.Note.TheVariants as notes
use Rattle.sbp_world.proofs.Agents.Management.Still.{hist}
use Rattle.sbp_world.proofs.Hosts.Remaining.{opened_same as opens_same}
use Rattle.sbp_world.proofs.Lists.Courses as courses
use Rattle.sbp_world.proofs.Lists.Courses.{Goes, more_than_one}
use Rattle.sbp_world.proofs.Lists.Gots.{Next, next, next_line, same_still, turn_next}
use Rattle.sbp_world.proofs.Lists.OpenNews.{opened_same, sends_same, times_out_same}
use Rattle.sbp_world.proofs.Lists.OrbsFresh.{at_it, gets_away, that_away, unsent}
use Rattle.sbp_world.proofs.Lists.Quiet.{AllQuiet, IsQuiet}
use Rattle.sbp_world.proofs.Lists.Walks as walks
use Rattle.sbp_world.proofs.Lists.Walks.{Turn}

-- ---- a place of the wire
pub counts_at : {past : List Moment} (w : WorldState) → Stands past w → SerialsCount (hist past w)
counts_at w stands = subst SerialsCount stands.is.past_is (subst (λ (x : Wire). SerialsCount x.past) (sym stands.reached.is) (packets_always stands.reached.moves stands.reached.may).0)

-- ---- moments
module _ (r : ℕ) where
  quiet_news : (note : Note) (past : List Moment) → IsQuiet note → (terms (said note ∷ past)).news r ≡ (terms past).news r
  quiet_news (notes.Got s) past q = absurd q
  quiet_news (notes.Ignored s cause) past q = absurd q
  quiet_news (notes.Sent s generation from to bytes) past q = ap (λ (f : ℕ → ℕ). f r) (sends_same r s _ (terms past))
  quiet_news (notes.TimedOut s) past q = ap (λ (f : ℕ → ℕ). f r) (times_out_same r (begun_in ((terms past).sent s)) (terms past))
  quiet_news note past q = refl

  pub all_quiet : (front : List Note) (past : List Moment) → AllQuiet front → (terms (map said front ++ past)).news r ≡ (terms past).news r
  all_quiet [] past q = refl
  all_quiet (note ∷ front) past q = quiet_news note (map said front ++ past) q.0 ∙ all_quiet front past q.1

  moment_fresh : (m : Moment) (past : List Moment) → SerialsCount past → (terms past).count < r → (terms (m ∷ past)).news r ≡ 0
  moment_fresh (asked line event) past c l = ap (λ (f : ℕ → ℕ). f r) (opened_same r event (terms past)) ∙ (unsent r past c l).news
  moment_fresh (said (notes.Sent s generation from to bytes)) past c l = ap (λ (f : ℕ → ℕ). f r) (sends_same r s _ (terms past)) ∙ (unsent r past c l).news
  moment_fresh (said (notes.TimedOut s)) past c l = ap (λ (f : ℕ → ℕ). f r) (times_out_same r (begun_in ((terms past).sent s)) (terms past)) ∙ (unsent r past c l).news
  moment_fresh (said (notes.Got s)) past c l = let t = terms past in let u = unsent r past c l in gets_away r (t.sent s) s t (at_it r s t u.sent) ∙ u.news
  moment_fresh (said (notes.Ignored s cause)) past c l = let t = terms past in let u = unsent r past c l in that_away r (t.sent s) cause s t (at_it r s t u.sent) ∙ u.news
  moment_fresh (said note) past c l = (unsent r past c l).news

  line_count : (line : ℕ) (event : Event) (past : List Moment) → (terms past).count < r → (terms (asked line event ∷ past)).count < r
  line_count line event past l = let e = (opens_same event (terms past)).count in omega (arith, e, l)

  pub next_fresh : (before now : List Moment) → SerialsCount before → (terms before).count < r → Next before now → (terms now).news r ≡ 0
  next_fresh before now c l (same_still e) = ap (λ ms. (terms ms).news r) e ∙ (unsent r before c l).news
  next_fresh before now c l (next front q m is) = ap (λ ms. (terms ms).news r) (sym is) ∙ (all_quiet front (m ∷ before) q ∙ moment_fresh m before c l)
  next_fresh before now c l (next_line front q note line event is) =
      ap (λ ms. (terms ms).news r) (sym is) ∙ (all_quiet front (said note ∷ asked line event ∷ before) q ∙ moment_fresh (said note) (asked line event ∷ before) c (line_count line event before l))

-- ---- a turn of a run
as_turn : (past : List Moment) (s : Scene) (later : List Moment) (t : Scene) → Goes past s later t → Turn past s later t
as_turn _ _ _ _ (courses.by_line past s line event told one fit may) = walks.by_line past s line event told one fit may
as_turn _ _ _ _ (courses.by_start past s line most) = walks.by_start past s line (more_deliveries most) (more_than_one most)
as_turn _ _ _ _ (courses.by_delivery past s one may no_act) = walks.by_delivery past s one may
as_turn _ _ _ _ (courses.by_end past s done) = walks.by_end past s done

pub goes_next : (past : List Moment) (s : Scene) (later : List Moment) (t : Scene) → Goes past s later t → Next (hist past s.world) (hist later t.world)
goes_next past s later t g = turn_next past s later t (as_turn past s later t g)

-- the history behind it stands on the one before
pub record Grown (before now : List Moment) : Type 0 where
  pub new : List Moment
  pub is : new ++ before ≡ now

pub grown : (before now : List Moment) → Next before now → Grown before now
grown before now (same_still e) = record { new = []; is = sym e }
grown before now (next front q m is) = record { new = map said front ++ m ∷ []; is = append_assoc (map said front) (m ∷ []) before ∙ is }
grown before now (next_line front q note line event is) = record { new = map said front ++ said note ∷ asked line event ∷ []; is = append_assoc (map said front) (said note ∷ asked line event ∷ []) before ∙ is }

-- and a packet that is sent in it was not judged
pub turn_fresh : (past : List Moment) (s : Scene) (later : List Moment) (t : Scene) → Goes past s later t → Stands past s.world → (r : ℕ) → (terms (hist past s.world)).count < r → (terms (hist later t.world)).news r ≡ 0
turn_fresh past s later t g stands r l = next_fresh r (hist past s.world) (hist later t.world) (counts_at s.world stands) l (goes_next past s later t g)
