-- What is carried on of an initiator, as it sees a generation.
use Rattle.sbp_world.proofs.Words.Std.{arith, ◌≡◌, refl, sym, ◌∙◌, ap, ℕ, suc, ◌<◌, ◌==◌, nat_lt, is_some, not, Bool, true, false, List, [], ◌∷◌, nat_tests}
use Rattle.sbp_world.proofs.Words.Wire.{seeing_step, empty_outbox, Moment, said, terms}
use Rattle.sbp_world.proofs.Words.Initiator.{InitiatorState, Turn, see_step, is_answered, is_unwritten}
use Rattle.sbp_world.proofs.Words.World.{behind, MayDrop, by_sight}
use Rattle.sbp_journal.specs.declared.note.Note.TheVariants as notes
use Rattle.sbp_world.proofs.Hosts.Aimed.{aimed_carried}
use Rattle.sbp_world.proofs.Hosts.Carries.{Tells}
use Rattle.sbp_world.proofs.Hosts.Layered.{AreTame}
use Rattle.sbp_world.proofs.Hosts.OrbTells as tell
use Rattle.sbp_world.proofs.Hosts.OrbTerms.{AreStill, orbs_left, still_left}
use Rattle.sbp_world.proofs.Hosts.Pointed.{Pointed, pointed_carried}
use Rattle.sbp_world.proofs.Hosts.PointerNotes.{Fit, pointer, seen_fades_now, tame_told}
use Rattle.sbp_world.proofs.Hosts.PointSees.{see_left}
use Rattle.sbp_world.proofs.Hosts.Pointing.{wrote_is}
use Rattle.sbp_world.proofs.Pointers.Ages.{moment_closes, seen_now}
use Rattle.sbp_world.proofs.Pointers.GuardHears.{SawAs, anew, as_before, saw}
use Rattle.sbp_world.proofs.Pointers.Dropping.{drops_of, see_drops}
use Rattle.sbp_world.proofs.Pointers.WaitActs.{seen_asks}
use Rattle.sbp_world.proofs.Pointers.Guarded.{Guarded, Kept, firsts, firsts_same, others_guarded, unwritten_answered}
use Rattle.sbp_world.proofs.Pointers.Passing.{Goes, current_goes, none_goes, told_goes, told_stands}
use Rattle.sbp_world.proofs.Pointers.PendHears.{see_pends}
use Rattle.sbp_world.proofs.Pointers.Resetting.{seen_resets}
use Rattle.sbp_world.proofs.Pointers.Showing.{see_showing}
use Rattle.sbp_world.proofs.Hosts.Knows.{seen_flag as flag_is}
use Rattle.sbp_world.proofs.Common.{untrue}

module _ (ready : Bool) (generation : ℕ) (past : List Moment) (i : ℕ) (s : InitiatorState) (h : Guarded ready past i s) where
  abbrev now : List Moment
  now = said (notes.Seen (suc i) generation) ∷ past

  abbrev old : ℕ
  old = (terms past).generation (suc i)

  module _ (t : Turn) (flag : nat_lt s.layer.generation generation ≡ not (generation == old)) (tame : AreTame t.0.sides) (still : AreStill t.0.sides) (pointed : Pointed ready (behind t.0.sides now) i t.1) where
    abbrev later : List Moment
    later = behind t.0.sides now

    fit_past : Fit later → Fit past
    fit_past f = let g = (tame_told t.0.sides now i tame).fit f in record { serials = g.serials; sent = g.sent }

    generation_later : (terms later).generation (suc i) ≡ generation
    generation_later = (told_goes t.0.sides now i tame).generation ∙ seen_now (suc i) generation past

    -- ---- a later one

    module _ (n : nat_lt s.layer.generation generation ≡ true) (u : is_unwritten t.1.marks.pointing ≡ true) where
      rises : old < generation
      rises = let e = h.generation in let l : s.layer.generation < generation = grind (arith, nat_tests) in omega arith

      -- what was named is of the generation before
      old_drops : Fit past → MayDrop now i
      old_drops f = record {
        cause = by_sight generation past refl rises;
        answered = λ m packet p q g.
            let a : packet.generation ≡ old = (h.kept f).current m packet (seen_fades_now generation past i m p) q in
            let b : packet.generation ≡ generation = g ∙ seen_now (suc i) generation past in
            let r = rises in absurd (let x : ⊥ = omega arith in x);
      }

      -- and nothing is
      none_named : is_some (pointer later i) ≡ false
      none_named = wrote_is pointed.cored ∙ ap not u

      later_kept : Fit later → Kept later i t.1
      later_kept f =
          let g = fit_past f in
          record {
            answered = λ e. unwritten_answered t.1.marks.pointing u e;
            current = λ serial packet p q. untrue (sym none_named ∙ ap is_some p);
            told = told_stands t.0.sides now i tame still (λ d e. old_drops g) ((λ same. (let r = rises in omega arith)), (h.kept g).told);
          }

    -- ---- the one that it is in

    module _ (n : nat_lt s.layer.generation generation ≡ false) (none : t.0.sides ≡ []) (m : t.1.marks.pointing ≡ s.marks.pointing) where
      is_old : generation ≡ old
      is_old = let e : not (generation == old) ≡ false = sym flag ∙ n in grind (arith, nat_tests)

      goes : Goes past now i
      goes = record {
        fades = seen_fades_now generation past i;
        sent = λ x. refl;
        generation = seen_now (suc i) generation past ∙ is_old;
        closed = moment_closes (said (notes.Seen (suc i) generation)) past;
      }

      same_kept : Fit later → Kept later i t.1
      same_kept f =
          let k = h.kept (fit_past f) in
          let told = told_goes t.0.sides now i tame in
          record {
            answered = λ e. none_goes told (none_goes goes (k.answered (ap is_answered (sym m) ∙ e)));
            current = current_goes told (current_goes goes k.current);
            told = told_stands t.0.sides now i tame still
                (λ d. untrue (sym (ap (drops_of i) none) ∙ d))
                ((λ same. (let r = is_old in omega arith)), k.told);
          }

    seen_kept : SawAs s generation t → Fit later → Kept later i t.1
    seen_kept (anew n u g) = later_kept n u
    seen_kept (as_before n none m g) = same_kept n none m

    seen_generation : SawAs s generation t → t.1.layer.generation ≡ (terms later).generation (suc i)
    seen_generation (anew n u g) = g ∙ sym generation_later
    seen_generation (as_before n none m g) = g ∙ h.generation ∙ sym (is_old n none m) ∙ sym generation_later

pub sees_guarded : (ready : Bool) (generation id target : ℕ) (past : List Moment) (i : ℕ) (s : InitiatorState) → (seeing_step s.layer generation id).0 ≡ not (generation == (terms past).generation (suc i)) → Guarded ready past i s → Tells (Guarded ready) (said (notes.Seen (suc i) generation) ∷ past) i (see_step generation id target empty_outbox s)
sees_guarded ready generation id target past i s e h =
    let far : (j : ℕ) → (j == i) ≡ false → (i == j) ≡ false = λ j f. grind (arith, nat_tests) in
    let now = said (notes.Seen (suc i) generation) ∷ past in
    let t = see_step generation id target empty_outbox s in
    let left = see_left generation id target s in
    let still = tell.sees generation id target empty_outbox s tt in
    let tells = (pointed_carried ready).sees generation id target past i s e h.pointed in
    let aimed = (aimed_carried ready).sees generation id target past i s e h.aimed in
    let flag = sym (flag_is s.layer generation id) ∙ e in
    let as_seen = saw generation id target s in
    record {
      own = record {
        pointed = tells.own;
        aimed = aimed.own;
        pend = firsts_same past (behind t.0.sides now) i t.1 (still_left t.0.sides now i still ∙ orbs_left (notes.Seen (suc i) generation) past i refl) (see_pends (firsts past i) s h.pend generation id target);
        generation = seen_generation ready generation past i s h t flag left.told still tells.own as_seen;
        kept = seen_kept ready generation past i s h t flag left.told still tells.own as_seen;
        asks = λ f. let g = (tame_told t.0.sides now i left.told).fit f in seen_asks ready generation id target past i s e h.aimed (h.asks (record { serials = g.serials; sent = g.sent }));
        resets = λ f.
            let g = (tame_told t.0.sides now i left.told).fit f in
            seen_resets ready generation id target past i s e h.aimed (λ n. (let z : not (generation == (terms past).generation (suc i)) ≡ false = sym flag ∙ n in grind (arith, nat_tests))) (h.resets (record { serials = g.serials; sent = g.sent }));
        shown = see_showing generation id target past i s h.shown;
      };
      others = λ j x d g. others_guarded ready now t.0.sides left.told still j x (tells.others j x d g.pointed) g (see_drops j generation id target s (ap (λ k. k == j) h.pointed.cored.own.number ∙ far j d));
    }
