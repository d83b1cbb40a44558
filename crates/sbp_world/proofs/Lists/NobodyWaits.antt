-- A request that was the main transaction of an agent and is under way still: it is that still, or its agent was put into RESET since. So what is nobody's now and is under way was of an agent that was put into RESET.
use Rattle.sbp_world.proofs.Words.Std.{append_assoc, ◌≡◌, ◌∙◌, refl, sym, ap, subst, inl, inr, ◌⊎◌, ℕ, false, true, List, ◌∷◌, ◌++◌, Option, Some, None}
use Rattle.sbp_world.proofs.Words.Wire.{SerialsCount, Moment, asked, said, Sending, Terms, terms}
use Rattle.sbp_world.proofs.Words.Target.{Disk}
use Rattle.sbp_world.proofs.Words.Laws.{answered_at, is_under_way, sender_in, Target, agent_at, is_serial, over, target_at}
use Rattle.sbp_world.proofs.Words.World.{IsClosing, IsCut, NobodyWaitsLaw, WasLetGo, WasReset}
use Rattle.sbp_journal.specs.declared.note.Note.TheVariants as notes
use Rattle.sbp_world.proofs.Agents.Management.Firsts.{wire_is}
use Rattle.sbp_world.specs.Lists.LetsGo.{IsAnswered, WasClosed}
use Rattle.sbp_world.proofs.Lists.DataWaits.{never_again, never_late}
use Rattle.sbp_world.proofs.Lists.MainAnswers.{was_closed}
use Rattle.sbp_world.proofs.Lists.MainLater.{main_stays_law, somebodys}
use Rattle.sbp_world.proofs.Lists.MainStays.{over_or_answered}

-- ---- what is closed is under way no more
-- a packet that a node sent
record IsThere (so : Option Sending) : Type 0 where
  packet : Sending
  is : so ≡ Some packet

is_there : (so : Option Sending) → is_serial (sender_in so) 0 ≡ true → IsThere so
is_there (Some packet) e = record { packet = packet; is = refl }
is_there None e = absurd (let x : false ≡ true = e in cc)

closed_at : (start : List Disk) (serial : ℕ) (m : Moment) (since earlier : List Moment) → IsClosing start m earlier serial → SerialsCount (since ++ m ∷ earlier) → is_under_way (terms (since ++ m ∷ earlier)) serial ≡ true → ⊥
closed_at start serial (said (notes.Got response)) since earlier h c under =
    never_again since earlier response serial c (ap (λ (w : Terms). answered_at w response) (sym (wire_is start earlier)) ∙ h) under
closed_at start serial (said (notes.TimedOut own)) since earlier h c under =
    let same = h.0 in
    let there = is_there ((terms earlier).sent own) (ap (λ (w : Terms). is_serial (sender_in (w.sent own)) 0) (sym (wire_is start earlier)) ∙ h.1) in
    never_late since earlier own there.packet c there.is (subst (λ s. is_under_way (terms (since ++ said (notes.TimedOut own) ∷ earlier)) s ≡ true) (sym same) under)
closed_at start serial (said note) since earlier h c under = h
closed_at start serial (asked line event) since earlier h c under = h

pub closed_waits_not : (start : List Disk) (past : List Moment) (serial : ℕ) → SerialsCount past → is_under_way (terms past) serial ≡ true → WasClosed start past serial → ⊥
closed_waits_not start past serial c under x =
    closed_at start serial x.moment x.since x.earlier x.closes (subst SerialsCount (sym x.is) c) (subst (λ ms. is_under_way (terms ms) serial ≡ true) (sym x.is) under)

module _ (start : List Disk) (later before : List Moment) (place serial : ℕ) (c : SerialsCount (later ++ before)) (under : is_under_way (terms (later ++ before)) serial ≡ true) where
  abbrev now : List Moment
  now = later ++ before

  further : (x : WasLetGo start place serial later before) → WasClosed start (x.until ++ before) serial → WasClosed start now serial
  further x y = record {
    since = x.since ++ x.moment ∷ y.since;
    moment = y.moment;
    earlier = y.earlier;
    is = append_assoc x.since (x.moment ∷ y.since) (y.moment ∷ y.earlier) ∙ ap (λ ms. x.since ++ x.moment ∷ ms) y.is ∙ sym (append_assoc x.since (x.moment ∷ x.until) before) ∙ ap (λ ms. ms ++ before) x.is;
    closes = y.closes;
  }

  by_reset : (x : WasLetGo start place serial later before) → IsAnswered (target_at start (x.until ++ before)).reply place ⊎ IsCut (agent_at (target_at start (x.moment ∷ x.until ++ before)) place) → WasReset start place serial later before
  by_reset x (inl h) = absurd (closed_waits_not start now serial c under (further x (was_closed start (x.until ++ before) place serial h x.waited)))
  by_reset x (inr h) = record { since = x.since; moment = x.moment; until = x.until; is = x.is; waited = x.waited; cut = h }

  by_way : ((agent_at (target_at start now) place).main ≡ Some serial) ⊎ WasLetGo start place serial later before → ((agent_at (target_at start now) place).main ≡ Some serial) ⊎ WasReset start place serial later before
  by_way (inl w) = inl w
  by_way (inr x) = inr (by_reset x x.how)

  -- it is its agent's still, or the agent was put into RESET
  pub main_or_reset : (agent_at (target_at start before) place).main ≡ Some serial → ((agent_at (target_at start now) place).main ≡ Some serial) ⊎ WasReset start place serial later before
  main_or_reset e = by_way (main_stays_law start later before place serial e)

  -- an agent that waits for it does so as its turn ends
  pub waits_over : (agent_at (target_at start now) place).main ≡ Some serial → (agent_at (over (target_at start now)) place).main ≡ Some serial
  waits_over w = by (over_or_answered start now place serial w)
    where
      by : ((agent_at (over (target_at start now)) place).main ≡ Some serial) ⊎ IsAnswered (target_at start now).reply place → (agent_at (over (target_at start now)) place).main ≡ Some serial
      by (inl f) = f
      by (inr x) = absurd (closed_waits_not start now serial c under (was_closed start now place serial x w))

pub nobody_waits_law : NobodyWaitsLaw
nobody_waits_law start later before place serial c e nobodys under = by (main_or_reset start later before place serial c under e)
  where
    t : Target
    t = target_at start (later ++ before)

    by : ((agent_at t place).main ≡ Some serial) ⊎ WasReset start place serial later before → WasReset start place serial later before
    by (inl w) = absurd (somebodys (over t) place serial (waits_over start later before place serial c under w) nobodys)
    by (inr x) = x
