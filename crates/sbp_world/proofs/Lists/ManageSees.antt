-- What is in hand of an initiator's management stays as it sees a generation.
use Rattle.sbp_world.proofs.Words.Std.{arith, ◌≡◌, ◌∙◌, refl, sym, ap, subst, ℕ, suc, ◌≤◌, ◌==◌, nat_eq, nat_lt, not, Bool, true, false, cond, List, ◌∷◌, None, nat_tests}
use Rattle.sbp_world.proofs.Words.Wire.{seen_in_generation, seeing_step, empty_outbox, Moment, said, Terms, terms}
use Rattle.sbp_world.proofs.Words.Target.{Disk}
use Rattle.sbp_world.proofs.Words.Initiator.{InitiatorState, Turn, interrupted, resets_told, see_step, seen_as}
use Rattle.sbp_world.proofs.Words.Laws.{Host, host_at, known_host}
use Rattle.sbp_world.proofs.Words.World.{behind}
use Rattle.sbp_initiator.proofs.Histories.Effects.{list_drops}
use Rattle.sbp_journal.specs.declared.note.Note.TheVariants as notes
use Rattle.sbp_laws.specs.Hosts.{reset_seen}
use Rattle.sbp_world.proofs.Hosts.Aimed.{IsAimed}
use Rattle.sbp_world.proofs.Hosts.Cores.{wire_is}
use Rattle.sbp_world.proofs.Hosts.Knows.{seen_flag}
use Rattle.sbp_world.proofs.Hosts.Layered.{AreTame}
use Rattle.sbp_world.proofs.Lists.ManageFirsts.{note_first, told_first}
use Rattle.sbp_world.proofs.Lists.ManageHand.{InHand, Own, keeps}
use Rattle.sbp_world.proofs.Lists.ManageLabels.{Asks, asks_to, seen_asks, still_asks}
use Rattle.sbp_world.proofs.Lists.ManageMoments.{Hands, SightFacts}
use Rattle.sbp_world.proofs.Lists.ManageSights.{again_calm, told_free, told_hands}
use Rattle.sbp_world.proofs.Lists.ManageStays.{calm_busy, calm_free}
use Rattle.sbp_world.proofs.Lists.ManageTerms.{none_is}
use Rattle.sbp_world.proofs.Pointers.WaitActs.{see_old}
use Rattle.sbp_world.proofs.Common.{untrue}

seen_none : (b : Bool) (generation id target : ℕ) (s : InitiatorState) → b ≡ true → (seen_as (cond b (true, seen_in_generation s.layer generation id) (false, s.layer)) target empty_outbox s).1.operation ≡ None
seen_none true generation id target s e =
    let u = record s { layer = seen_in_generation s.layer generation id } in
    (list_drops (resets_told u.number u.operation u.states empty_outbox) (interrupted u target)).operation
seen_none false generation id target s e = untrue e

-- a later one leaves no operation under way
pub none_later : (generation id target : ℕ) (s : InitiatorState) → nat_lt s.layer.generation generation ≡ true → (see_step generation id target empty_outbox s).1.operation ≡ None
unfolding see_step seeing_step
none_later generation id target s e = seen_none (nat_lt s.layer.generation generation) generation id target s e

host_none : (b c : Bool) (host : Host) → b ≡ true → c ≡ true → (cond b (reset_seen c host) host).operation ≡ None
host_none true true host e f = refl
host_none true false host e f = untrue f
host_none false c host e f = untrue e

module _ (ready : Bool) (start : List Disk) (generation id target : ℕ) (past : List Moment) (i : ℕ) (s : InitiatorState) (flag : (seeing_step s.layer generation id).0 ≡ not (generation == (terms past).generation (suc i))) (aimed : IsAimed ready i s) (h : InHand start past i s) where
  abbrev t : Turn
  t = see_step generation id target empty_outbox s

  abbrev seen_now : List Moment
  seen_now = said (notes.Seen (suc i) generation) ∷ past

  abbrev later : List Moment
  later = behind t.0.sides seen_now

  labels : Asks later i t.1.target t.1.layer (Own past i s)
  labels = seen_asks (Own past i s) ready generation id target past i s flag aimed h.labels

  module _ (tame : AreTame t.0.sides) (hands : Hands start i later) where
    known : Hands start i seen_now
    known = told_hands start i t.0.sides seen_now tame hands

    -- a later one
    anew : nat_eq generation ((terms past).generation (suc i)) ≡ false → InHand start later i t.1
    anew e =
        let f : SightFacts start past i (suc i) generation = known.0 in
        let lt : nat_lt s.layer.generation generation ≡ true = sym (seen_flag s.layer generation id) ∙ flag ∙ ap not e in
        let none = none_later generation id target s lt in
        record {
          free = λ x n. told_free start i t.0.sides seen_now tame hands (f.new refl e);
          busy = λ u g m. (let w = (told_first t.0.sides seen_now i tame).on u g in none_is w.was (sym gone ∙ w.is));
          labels = asks_to (Own past i s) (Own later i t.1) (λ act n k r f a m u g. none_is r (sym none ∙ f)) labels;
        }
      where
        gone : (host_at seen_now i).operation ≡ None
        gone =
            host_none (nat_eq (suc i) (suc i)) (not (nat_eq generation ((known_host past i).wire.generation (suc i)))) (host_at past i) (let x : nat_eq (suc i) (suc i) ≡ true = grind (arith, nat_tests) in x)
            (ap (λ (w : Terms). not (nat_eq generation (w.generation (suc i)))) (wire_is past i) ∙ ap not e)

    -- the same one
    again : nat_eq generation ((terms past).generation (suc i)) ≡ true → InHand start later i t.1
    again e =
        let f : SightFacts start past i (suc i) generation = known.0 in
        let lt : nat_lt s.layer.generation generation ≡ false = sym (seen_flag s.layer generation id) ∙ flag ∙ ap not e in
        let c = again_calm start generation past i e f.none in
        subst (λ (x : Turn). InHand start (behind x.0.sides seen_now) i x.1) (sym (see_old generation id target s lt))
        (keeps start past seen_now i s (calm_free c) (calm_busy c) (note_first (notes.Seen (suc i) generation) past i refl)
        (still_asks (Own past i s) past seen_now i s.target s.layer (λ g m. refl) (let l : (terms past).count ≤ (terms past).count = omega arith in l) h.labels) h)

    pub sees_hand : InHand start later i t.1
    sees_hand = by (nat_eq generation ((terms past).generation (suc i))) refl
      where
        by : (b : Bool) → nat_eq generation ((terms past).generation (suc i)) ≡ b → InHand start later i t.1
        by true e = again e
        by false e = anew e
