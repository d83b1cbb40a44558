-- What is in hand of an initiator's management stays as another node sees a generation, and as it tells something itself.
use Rattle.sbp_world.proofs.Words.Std.{arith, ◌≡◌, ◌∙◌, refl, sym, ap, subst, ℕ, suc, nat_eq, Bool, true, false, cond, List, [], ◌∷◌, Some, None, nat_tests, upd}
use Rattle.sbp_world.proofs.Words.Wire.{Moment, said, Terms, terms, Note, Side}
use Rattle.sbp_world.proofs.Words.Target.{Operation, Disk}
use Rattle.sbp_world.proofs.Words.Laws.{is_nothing, target_at}
use Rattle.sbp_world.proofs.Words.World.{behind, IsBusy, IsFree, IsHandling}
use Rattle.sbp_journal.specs.declared.note.Note.TheVariants as notes
use Rattle.sbp_journal.specs.declared.side.Side.TheVariants as sides
use Rattle.sbp_world.proofs.Hosts.Layered.{AreTame, is_tame}
use Rattle.sbp_world.proofs.Lists.ManageMoments.{Hands, is_quiet, quiet_calm}
use Rattle.sbp_world.proofs.Lists.ManageNotes.{none_taken}
use Rattle.sbp_world.proofs.Lists.ManageOffices.{Settles, none_left, office_at, rested, sees_none, sight_settles, stays}
use Rattle.sbp_world.proofs.Lists.ManageStays.{Calms, Had, calm_busy, calm_free}
use Rattle.sbp_world.proofs.Lists.ManageTerms.{none_is}
use Rattle.sbp_world.proofs.Common.{turned, untrue}
use Rattle.sbp_world.proofs.Wire.OnceHere.{other_news}

-- ---- another node sees a generation

upd_same : (f : ℕ → ℕ) (n m g : ℕ) → nat_eq m n ≡ true → g ≡ f n → upd f n g m ≡ f m
upd_same f n m g e h = let x : m ≡ n = grind (arith, nat_tests) in ap (λ b. cond b g (f m)) e ∙ h ∙ ap f (sym x)

module _ (start : List Disk) (node generation : ℕ) (past : List Moment) (i : ℕ) (own_generation : (terms (said (notes.Seen node generation) ∷ past)).generation (suc i) ≡ (terms past).generation (suc i)) (none : (terms past).owes ≡ None) where
  abbrev now : List Moment
  now = said (notes.Seen node generation) ∷ past

  abbrev t : Terms
  t = terms past

  module _ (target_generation : (terms now).generation 0 ≡ t.generation 0) where
    before : (place : ℕ) (op : Operation) → IsHandling start now i place op → (target_at start past).manager.operation ≡ Some op → IsHandling start past i place op
    before place op h e = record {
      same = sym target_generation ∙ h.same ∙ own_generation;
      is = e;
      source = h.source ∙ ap (λ g. t.ids g (suc i)) target_generation;
      small = h.small;
      orb = h.orb;
    }

    settled : (place : ℕ) (op : Operation) → IsHandling start now i place op → Settles (office_at start past) (office_at start now) → Had start past now i place op
    settled place op h (stays e g) = record { was = op; before = before place op h (ap (λ m. m.operation) (sym e) ∙ h.is); goes = λ x. (x.0, ap (λ a. is_nothing a) g ∙ x.1) }
    settled place op h (rested e g) = record { was = op; before = before place op h (ap (λ m. m.operation) (sym e) ∙ h.is); goes = λ x. (x.0, ap (λ a. is_nothing a) g) }
    settled place op h (none_left e g) = none_is op (sym e ∙ h.is)

  handling : (place : ℕ) (op : Operation) → IsHandling start now i place op → Had start past now i place op
  handling place op h = by (nat_eq 0 node) (nat_eq generation (t.generation 0)) refl refl
    where
      by : (b c : Bool) → nat_eq 0 node ≡ b → nat_eq generation (t.generation 0) ≡ c → Had start past now i place op
      by false c e g = settled (other_news t.generation node 0 generation e) place op h (sight_settles start node generation past)
      by true true e g =
          let is : node ≡ 0 = grind (arith, nat_tests) in
          let same : generation ≡ t.generation 0 = grind (arith, nat_tests) in
          settled (upd_same t.generation node 0 generation e (same ∙ ap t.generation (sym is))) place op h (sight_settles start node generation past)
      by true false e g =
          let is : 0 ≡ node = grind (arith, nat_tests) in
          none_is op (sym (subst (λ n. (target_at start (said (notes.Seen n generation) ∷ past)).manager.operation ≡ None) is (sees_none start generation past g)) ∙ h.is)

  seen_calm : Calms start past now i
  seen_calm = record {
    asking = λ s place a. record {
      packet = a.packet;
      sent = a.sent;
      from_is = a.from_is;
      honest = a.honest;
      current = a.current ∙ own_generation;
      access = a.access;
      spelled = a.spelled;
      writes = a.writes;
      block = a.block;
      small = a.small;
      names = a.names;
      unjudged = a.unjudged;
    };
    telling = λ s place a. record {
      packet = a.packet;
      sent = a.sent;
      current = a.current ∙ own_generation;
      op = a.op;
      is_for = a.is_for;
      status = a.status;
      source = a.source;
      small = a.small;
      orb = a.orb;
      unjudged = a.unjudged;
    };
    handling = handling;
    accepted = λ write own m a. record {
      at = record { access = a.at.access; asks = a.at.asks; at = a.at.at; serves = a.at.serves };
      given = λ packet v e g c n x. a.given packet v e g c (λ owed k. none_taken past none write owed k) x;
      taking = λ owed k. none_is owed (sym none ∙ k.owes);
    };
    own = λ write w. record {
      packet = w.packet;
      sent = w.sent;
      from_is = w.from_is;
      to_is = w.to_is;
      honest = w.honest;
      current = w.current ∙ sym own_generation;
      label = w.label;
      part = w.part;
    };
    zero_news = λ write e. e;
  }

pub sight_calm : (start : List Disk) (node generation : ℕ) (past : List Moment) (i : ℕ) → nat_eq node (suc i) ≡ false → (terms past).owes ≡ None → Calms start past (said (notes.Seen node generation) ∷ past) i
sight_calm start node generation past i other none = seen_calm start node generation past i (other_news (terms past).generation node (suc i) generation (turned node (suc i) other)) none

-- the initiator itself, the same one
pub again_calm : (start : List Disk) (generation : ℕ) (past : List Moment) (i : ℕ) → nat_eq generation ((terms past).generation (suc i)) ≡ true → (terms past).owes ≡ None → Calms start past (said (notes.Seen (suc i) generation) ∷ past) i
again_calm start generation past i same none =
    seen_calm start (suc i) generation past i
    (upd_same (terms past).generation (suc i) (suc i) generation (let x : nat_eq (suc i) (suc i) ≡ true = grind (arith, nat_tests) in x) (let x : generation ≡ (terms past).generation (suc i) = grind (arith, nat_tests) in x)) none

-- ---- what is known of the moments before what an initiator tells, and what is in hand behind it

pub tame_quiet : (note : Note) → is_tame note ≡ true → is_quiet note ≡ true
tame_quiet (notes.Begin initiators ready) e = untrue e
tame_quiet (notes.Sent serial generation from to bytes) e = untrue e
tame_quiet (notes.Got serial) e = untrue e
tame_quiet (notes.Seen node generation) e = untrue e
tame_quiet note e = refl

module _ (start : List Disk) (i : ℕ) where
  pub told_hands : (told : List Side) (past : List Moment) → AreTame told → Hands start i (behind told past) → Hands start i past
  told_hands [] past tame h = h
  told_hands (sides.Own note ∷ later) past tame h = (told_hands later (said note ∷ past) tame.1 h).1
  told_hands (_ ∷ later) past tame h = absurd tame.0

  pub told_free : (told : List Side) (past : List Moment) → AreTame told → Hands start i (behind told past) → IsFree start past i → IsFree start (behind told past) i
  told_free [] past tame h k = k
  told_free (sides.Own note ∷ later) past tame h k =
      let m = told_hands later (said note ∷ past) tame.1 h in
      told_free later (said note ∷ past) tame.1 h (calm_free (quiet_calm start i note past (tame_quiet note tame.0) m.0) k)
  told_free (_ ∷ later) past tame h k = absurd tame.0

  pub told_busy : (told : List Side) (past : List Moment) → AreTame told → Hands start i (behind told past) → (place write : ℕ) → IsBusy start past i place write → IsBusy start (behind told past) i place write
  told_busy [] past tame h place write k = k
  told_busy (sides.Own note ∷ later) past tame h place write k =
      let m = told_hands later (said note ∷ past) tame.1 h in
      told_busy later (said note ∷ past) tame.1 h place write (calm_busy (quiet_calm start i note past (tame_quiet note tame.0) m.0) place write k)
  told_busy (_ ∷ later) past tame h place write k = absurd tame.0
