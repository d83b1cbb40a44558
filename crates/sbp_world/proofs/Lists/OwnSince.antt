-- By every history, where answers to agents are their own as they are got and agents waited for them, what was got is of an agent's main transaction or begins elsewhere.
use Rattle.sbp_world.proofs.Words.Std.{inl, inr, ◌≡◌, ◌∙◌, refl, sym, ap, subst, ◌<◌, ℕ, Bool, true, false, cond, List, [], ◌∷◌, ◌++◌, Option, Some, None}
use Rattle.sbp_world.proofs.Words.Wire.{Moment, asked, said, Terms, terms, Note}
use Rattle.sbp_world.proofs.Words.Target.{Disk}
use Rattle.sbp_world.proofs.Words.Laws.{Moved, moved_by, payload_at, read_by, access_at, answered_at, receiver_in, Purpose, Target, for_agent, for_manager, for_nobody, is_serial, over, purpose_of, target_at, EachMoment}
use Rattle.sbp_world.proofs.Words.World.{AllElsewhere, AreOwnOrOthers, IsOwnOrOther, is_main_of, main_moved, AreOwnAsGot, OwnAsGot, AllAwaited, AllElsewhereBut, AreAwaited, IsAwaited, IsElsewhereBut, OwnSinceLaw, by_purpose}
use Rattle.sbp_journal.specs.declared.note.Note.TheVariants as notes

module _ (wild : ℕ → Bool) (start : List Disk) (i place slot : ℕ) (calm : wild i ≡ false) (small : place < 8) where
  module _ (past : List Moment) (serial : ℕ) (own : AreOwnAsGot wild start past serial) (a : IsAwaited start past i place) where
    abbrev t : Terms
    t = terms past

    abbrev T : Target
    T = over (target_at start past)

    abbrev by_target : Bool
    by_target = is_serial (receiver_in (t.sent serial)) 0

    none_moved : (b : Bool) → cond b [] [] ≡ (let none : List Moved = [] in none)
    none_moved true = refl
    none_moved false = refl

    abbrev Own : Type 0
    Own = IsOwnOrOther start past i place slot serial

    -- of no agent
    others : (r : ℕ) → answered_at t serial ≡ Some r → is_main_of (purpose_of T r) place ≡ false → AllElsewhere slot (read_by t i serial (Some r)) → Own
    others r e none elsewhere =
        inr (
          ap (λ o. cond by_target (main_moved t T place serial o) []) e ∙ (ap (λ b. cond by_target (cond b (moved_by (access_at t r) (payload_at t serial)) []) []) none ∙ none_moved by_target),
          subst (λ o. AllElsewhere slot (read_by t i serial o)) (sym e) elsewhere,
        )

    by : (r : ℕ) → answered_at t serial ≡ Some r → (p : Purpose) → purpose_of T r ≡ p → by_purpose p (AllElsewhere slot (read_by t i serial (Some r))) → Own
    by r e (for_agent other which) f b = own place small a.side a.mine i calm a.waits a.to r other slot which e f
    by r e for_manager f b = others r e (ap (λ p. is_main_of p place) f) b
    by r e for_nobody f b = others r e (ap (λ p. is_main_of p place) f) b

    by_answer : (o : Option ℕ) → answered_at t serial ≡ o → IsElsewhereBut start past i slot serial o → Own
    by_answer None e b = inl (ap (read_by t i serial) e ∙ sym (ap (λ o. cond by_target (main_moved t T place serial o) []) e ∙ none_moved by_target))
    by_answer (Some r) e b = by r e (purpose_of T r) refl b

    got_own : IsElsewhereBut start past i slot serial (answered_at t serial) → Own
    got_own b = by_answer (answered_at t serial) refl b

  since : (later before : List Moment) → EachMoment (OwnAsGot wild start) (later ++ before) → AreAwaited start i place slot later before → AreOwnOrOthers start i place slot later before
  since [] before g a = tt
  since (asked line event ∷ later) before g a = since later before g.1 a
  since (said note ∷ later) before g a = by_note note g.0 a (λ x. since later before g.1 x)
    where
      by_note : (note : Note) → OwnAsGot wild start (said note) (later ++ before) → AreAwaited start i place slot (said note ∷ later) before → (AreAwaited start i place slot later before → AreOwnOrOthers start i place slot later before) → AreOwnOrOthers start i place slot (said note ∷ later) before
      by_note (notes.Got serial) g a more = (got_own (later ++ before) serial g a.0.0 a.0.1, more a.1)
      by_note note g a more = more a

-- ---- what was awaited, and what answers no agent, of each packet
module _ (start : List Disk) (i place slot : ℕ) where
  pub each_awaited : (later before : List Moment) → AllAwaited start i place later before → AllElsewhereBut start i slot later before → AreAwaited start i place slot later before
  each_awaited [] before a e = tt
  each_awaited (asked line event ∷ later) before a e = each_awaited later before a e
  each_awaited (said note ∷ later) before a e = by_note note a e (λ x y. each_awaited later before x y)
    where
      by_note : (note : Note) → AllAwaited start i place (said note ∷ later) before → AllElsewhereBut start i slot (said note ∷ later) before → (AllAwaited start i place later before → AllElsewhereBut start i slot later before → AreAwaited start i place slot later before) → AreAwaited start i place slot (said note ∷ later) before
      by_note (notes.Got serial) a e more = ((a.0, e.0), more a.1 e.1)
      by_note note a e more = more a e

pub own_since_law : OwnSinceLaw
own_since_law wild start i place slot calm small later before g a = since wild start i place slot calm small later before g a
