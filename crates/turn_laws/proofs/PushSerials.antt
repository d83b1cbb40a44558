-- In every history in which serials count, an unsolicited status is nobody else's: neither an agent of the terms nor the management operation waits for a packet that is one. So what it
-- is for, by the terms, is nobody.
use Rattle.std.proofs.Common.{arith, ◌≡◌, ◌∙◌, refl, sym, ap, subst, inl, inr, ◌⊎◌, ℕ, zero, suc, ◌+◌, ◌<◌, ◌≤◌, nat_eq, Bool, true, false, cond, List, [], ◌∷◌, Option, Some, None}
use Rattle.std.specs.Prelude.{replicate}
use Rattle.std.proofs.lemmas.Bool.Decides.{nat_tests}
use Rattle.bus_transactions.specs.Packets.{SerialsCount}
use Rattle.command_agent.specs.declared.step.Which.TheVariants.{Ahead, Main}
use Rattle.rbc_disk.specs.Disk.{Disk}
use Rattle.sbp_journal.specs.Run.{Moment, asked, said}
use Rattle.sbp_journal.specs.Transactions.{Kind, Part, Sending, Transaction, is_same_kind, no_packet, part_of, request, response}
use Rattle.sbp_journal.specs.Wire.{Held, Terms, arrives, closes, closes_if, free, gets, gets_as, ignores, ignores_that, is_news, is_served, judges, judges_if, noted, opened, rests, terms, times_out, waits}
use Rattle.sbp_journal.specs.declared.cause.Cause.{Cause}
use Rattle.sbp_journal.specs.declared.cause.Cause.TheVariants as causes
use Rattle.sbp_journal.specs.declared.event.Event.{Event}
use Rattle.sbp_journal.specs.declared.event.Event.TheVariants as events
use Rattle.sbp_journal.specs.declared.note.Note.{Note}
use Rattle.sbp_journal.specs.declared.note.Note.TheVariants as notes
use Rattle.sbp_laws.specs.Targets.{Agent, Target, for_agent, for_manager, for_nobody, is_serial, known_at, new_agent, over, purpose_among, purpose_of, target_at}
use Rattle.sbp_world.specs.Agents.Crews.{agent_in}
use Rattle.turn_laws.proofs.SerialsStay.{All, Goes, Kept, IsNoSent, Sends, ends_turn, note_goes, note_sends}
use Rattle.sbp_world.proofs.Hosts.Held.{sent_count}

-- ---- how many packets were sent
judges_count : (u : Option Transaction) (cause : Option Cause) (s : ℕ) (q : Sending) (t : Terms) → (judges u cause s q t).count ≡ t.count
judges_count None cause s q t = refl
judges_count (Some u) cause s q t = refl

closes_count : (h : Held) (u : Transaction) (kind : Kind) (rcode : ℕ) (t : Terms) → (closes h u kind rcode t).count ≡ t.count
closes_count free u kind rcode t = refl
closes_count rests u kind rcode t = refl
closes_count (waits own s) u kind rcode t = by (is_same_kind own kind)
  where
    by : (b : Bool) → (closes_if b s u rcode t).count ≡ t.count
    by true = refl
    by false = refl

gets_as_count : (part : Part) (s : ℕ) (q : Sending) (t : Terms) → (gets_as part s q t).count ≡ t.count
gets_as_count (request label kind) s q t = judges_count _ None s q t
gets_as_count (response label kind) s q t = closes_count _ _ kind _ t
gets_as_count no_packet s q t = refl

pub gets_count : (q : Option Sending) (s : ℕ) (t : Terms) → (gets q s t).count ≡ t.count
gets_count None s t = refl
gets_count (Some q) s t = gets_as_count (part_of q.bytes) s q (is_served s (is_news s (arrives s t)))

judges_if_count : (b : Bool) (u : Option Transaction) (s : ℕ) (q : Sending) (t : Terms) → (judges_if b u s q t).count ≡ t.count
judges_if_count true u s q t = judges_count u (Some causes.Grammar) s q t
judges_if_count false u s q t = refl

ignores_count : (cause : Cause) (s : ℕ) (q : Sending) (t : Terms) → (ignores cause s q t).count ≡ t.count
ignores_count causes.Generation s q t = refl
ignores_count causes.Grammar s q t = judges_if_count _ _ s q (is_news s t)
ignores_count causes.Label s q t = refl
ignores_count causes.Again s q t = judges_count _ (Some causes.Again) s q t
ignores_count causes.Source s q t = judges_count _ (Some causes.Source) s q (is_news s t)
ignores_count causes.Login s q t = judges_count _ (Some causes.Login) s q (is_news s t)
ignores_count causes.Slot s q t = judges_count _ (Some causes.Slot) s q (is_served s (is_news s t))

ignored_count : (q : Option Sending) (cause : Cause) (s : ℕ) (t : Terms) → (ignores_that q cause s t).count ≡ t.count
ignored_count None cause s t = refl
ignored_count (Some q) cause s t = ignores_count cause s q (arrives s t)

late_count : (u : Option Transaction) (t : Terms) → (times_out u t).count ≡ t.count
late_count None t = refl
late_count (Some u) t = refl

pub note_count : (note : Note) (t : Terms) → IsNoSent note → (noted note t).count ≡ t.count
note_count (notes.Sent serial generation from to bytes) t i = absurd i
note_count (notes.Got s) t i = gets_count (t.sent s) s t
note_count (notes.Ignored s cause) t i = ignored_count (t.sent s) cause s t
note_count (notes.TimedOut s) t i = late_count _ t
note_count note t i = refl

pub line_count : (event : Event) (t : Terms) → (opened event t).count ≡ t.count
line_count (events.Reset physical) t = refl
line_count (events.Repeat s) t = refl
line_count event t = refl

-- ---- serials
abbrev pub Has : List ℕ → ℕ → Type 0
Has [] s = ⊥
Has (x ∷ xs) s = (x ≡ s) ⊎ Has xs s

abbrev pub Small : ℕ → Option ℕ → Type 0
Small n o = (s : ℕ) → o ≡ Some s → s ≤ n

abbrev pub Apart : ℕ → Option ℕ → Type 0
Apart s o = is_serial o s ≡ false

pub small_none : (n : ℕ) → Small n None
small_none n s e = absurd (let f : None ≡ Some s = e in cc)

wider : (n m : ℕ) (o : Option ℕ) → n ≤ m → Small n o → Small m o
wider n m o l h s e = let k = h s e in omega (arith, k, l)

pub apart_of : (n s : ℕ) (o : Option ℕ) → n < s → Small n o → Apart s o
apart_of n s None l h = refl
apart_of n s (Some x) l h = let k = h x refl in let z : nat_eq x s ≡ false = grind (arith, nat_tests) in z

apart_than : (n s serial : ℕ) → s ≤ n → serial ≡ n + 1 → Apart s (Some serial)
apart_than n s serial l e = let z : nat_eq serial s ≡ false = grind (arith, nat_tests) in z

-- all serials that anybody waits for were sent; and an unsolicited status is nobody's
pub record Counted (n : ℕ) (t : Target) : Type 0 where
  pub agents : All (Small n) (small_none n) t.agents
  pub manages : Small n t.manages
  pub pushes : (s : ℕ) → Has t.pushes s → s ≤ n
  pub free : (s : ℕ) → Has t.pushes s → All (Apart s) refl t.agents × Apart s t.manages

goes_counted : (n m : ℕ) (t now : Target) → n ≤ m → ((Q : Option ℕ → Type 0) (none : Q None) → Goes Q none t now) → Counted n t → Counted m now
goes_counted n m t now l goes c =
    let g = goes (Small n) (small_none n) in
    let a = g.agents c.agents in
    let back : (s : ℕ) → Has now.pushes s → Has t.pushes s = λ s h. subst (λ xs. Has xs s) g.pushes h in
    record {
      agents = λ p. (wider n m (agent_in now.agents p).main l (a p).0, wider n m (agent_in now.agents p).ahead l (a p).1, (a p).2);
      manages = wider n m now.manages l (g.manages c.manages);
      pushes = λ s h. let k = c.pushes s (back s h) in omega (arith, k, l);
      free = λ s h. let f = c.free s (back s h) in let k = goes (Apart s) refl in (k.agents f.0, k.manages f.1);
    }

sent_counted : (n serial : ℕ) (t now : Target) → serial ≡ n + 1 → ((Q : Option ℕ → Type 0) (none : Q None) → Sends Q none serial t now) → Counted n t → Counted (n + 1) now
sent_counted n serial t now e goes c =
    let up : n ≤ n + 1 = omega arith in
    let own : Small (n + 1) (Some serial) = λ s f. let same : serial ≡ s = cc in omega (arith, same, e) in
    let g = goes (Small (n + 1)) (small_none (n + 1)) in
    record {
      agents = g.agents own (λ p. (wider n (n + 1) (agent_in t.agents p).main up (c.agents p).0, wider n (n + 1) (agent_in t.agents p).ahead up (c.agents p).1, (c.agents p).2));
      manages = g.manages own (wider n (n + 1) t.manages up c.manages);
      pushes = λ s h. among s (goes (Small (n + 1)) (small_none (n + 1))).pushed h;
      free = λ s h. frees s (goes (Apart s) refl) h;
    }
  where
    among : (s : ℕ) → (now.pushes ≡ t.pushes) ⊎ ((now.pushes ≡ serial ∷ t.pushes) × ((All (Small (n + 1)) (small_none (n + 1)) t.agents → All (Small (n + 1)) (small_none (n + 1)) now.agents) × (Small (n + 1) t.manages → Small (n + 1) now.manages))) → Has now.pushes s → s ≤ n + 1
    among s (inl f) h = let k = c.pushes s (subst (λ xs. Has xs s) f h) in omega (arith, k)
    among s (inr f) h = by (subst (λ xs. Has xs s) f.0 h)
      where
        by : (serial ≡ s) ⊎ Has t.pushes s → s ≤ n + 1
        by (inl same) = omega (arith, same, e)
        by (inr k) = let x = c.pushes s k in omega (arith, x)

    frees : (s : ℕ) → Sends (Apart s) refl serial t now → Has now.pushes s → All (Apart s) refl now.agents × Apart s now.manages
    frees s g h = by g.pushed
      where
        earlier : Has t.pushes s → All (Apart s) refl now.agents × Apart s now.manages
        earlier k =
            let other = apart_than n s serial (c.pushes s k) e in
            let f = c.free s k in (g.agents other f.0, g.manages other f.1)

        by : (now.pushes ≡ t.pushes) ⊎ ((now.pushes ≡ serial ∷ t.pushes) × ((All (Apart s) refl t.agents → All (Apart s) refl now.agents) × (Apart s t.manages → Apart s now.manages))) → All (Apart s) refl now.agents × Apart s now.manages
        by (inl f) = earlier (subst (λ xs. Has xs s) f h)
        by (inr f) = new (subst (λ xs. Has xs s) f.0 h)
          where
            new : (serial ≡ s) ⊎ Has t.pushes s → All (Apart s) refl now.agents × Apart s now.manages
            new (inr k) = earlier k
            new (inl same) =
                let above : n < s = omega (arith, same, e) in
                (f.1.0 (λ p. (apart_of n s (agent_in t.agents p).main above (c.agents p).0, apart_of n s (agent_in t.agents p).ahead above (c.agents p).1, (c.agents p).2)), f.1.1 (apart_of n s t.manages above c.manages))

-- ---- a history
module _ (start : List Disk) where
  first_apart : (Q : Option ℕ → Type 0) (none : Q None) (n p : ℕ) → Kept Q none (agent_in (replicate n new_agent) p)
  first_apart Q none zero p = (none, none, refl)
  first_apart Q none (suc n) zero = (none, none, refl)
  first_apart Q none (suc n) (suc p) = first_apart Q none n p

  pub counted : (ms : List Moment) → SerialsCount ms → Counted (terms ms).count (target_at start ms)
  counted [] c = record {
    agents = λ p. first_apart (Small 0) (small_none 0) 8 p;
    manages = small_none 0;
    pushes = λ s h. absurd h;
    free = λ s h. absurd h;
  }
  counted (asked line event ∷ past) c =
      let t = target_at start past in
      let same = line_count event (terms past) in
      goes_counted (terms past).count (opened event (terms past)).count t (over t) (omega (arith, same)) (λ Q none. ends_turn Q none t) (counted past c)
  counted (said (notes.Sent serial generation from to bytes) ∷ past) c =
      let t = target_at start past in
      let now = target_at start (said (notes.Sent serial generation from to bytes) ∷ past) in
      let n = (terms past).count in
      subst (λ m. Counted m now) (sym (sent_count serial _ (terms past)))
      (sent_counted n serial t now c.0 (λ Q none. note_sends Q none serial generation from to bytes past (known_at start past).wire t) (counted past c.1))
  counted (said note ∷ past) c =
      let t = target_at start past in
      let same = note_count note (terms past) tt in
      goes_counted (terms past).count (noted note (terms past)).count t (target_at start (said note ∷ past)) (omega (arith, same)) (λ Q none. note_goes Q none note past (known_at start past).wire t tt) (counted past c)

  -- ---- what it is for
  among_free : (k : ℕ) (agents : List Agent) (s : ℕ) → All (Apart s) refl agents → purpose_among k agents s ≡ for_nobody
  among_free k [] s h = refl
  among_free k (a ∷ agents) s h =
      ap (λ b. cond b (for_agent k Main) (cond (is_serial a.ahead s) (for_agent k Ahead) (purpose_among (k + 1) agents s))) (h 0).0
      ∙ (ap (λ b. cond b (for_agent k Ahead) (purpose_among (k + 1) agents s)) (h 0).1 ∙ among_free (k + 1) agents s (λ p. h (suc p)))

  pub pushes_are_nobodys : (ms : List Moment) → SerialsCount ms → (s : ℕ) → Has (target_at start ms).pushes s → purpose_of (over (target_at start ms)) s ≡ for_nobody
  pushes_are_nobodys ms c s h =
      let t = target_at start ms in
      let f = (counted ms c).free s h in
      let g = ends_turn (Apart s) refl t in
      ap (λ b. cond b for_manager (purpose_among 0 (over t).agents s)) (g.manages f.1) ∙ among_free 0 (over t).agents s (g.agents f.0)
