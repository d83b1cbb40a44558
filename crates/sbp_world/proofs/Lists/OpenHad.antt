-- The lists that places had, and those that were cut: one that was cut was open at a place; and one that is open was not cut since, but at another place.
use Rattle.sbp_world.proofs.Words.Std.{◌≡◌, ◌⊎◌, inl, inr, ◌∙◌, sym, subst, ◌<◌, ℕ, true, List, ◌++◌, Some}
use Rattle.sbp_world.proofs.Words.Wire.{Holder, holder_at, Moment}
use Rattle.sbp_world.proofs.Words.Laws.{is_cut}
use Rattle.sbp_world.proofs.Words.World.{holder, WorldState, WasHad, WasOpened}
use Rattle.sbp_world.proofs.Lists.Later.{had_later, was_later}
use Rattle.sbp_world.proofs.Lists.OpenCuts.{Listing}

-- another place had a list
pub record WasElse (past : List Moment) (i n p : ℕ) : Type 0 where
  pub had : WasHad past i n
  pub other : had.place ≡ p → ⊥

pub else_later : (more past now : List Moment) (i n p : ℕ) → more ++ past ≡ now → WasElse past i n p → WasElse now i n p
unfolding had_later
else_later more past now i n p e h = record { had = had_later more past now i n e h.had; other = h.other }

-- the list of a place: where it was cut, this was so before it was opened, or at another place
pub record Was (past : List Moment) (h : Holder) (p : ℕ) : Type 0 where
  pub opened : WasOpened past h.initiator p h.list
  pub spared : (n : ℕ) → h.list ≡ Some n → is_cut past h.initiator n ≡ true → WasHad opened.earlier h.initiator n ⊎ WasElse past h.initiator n p

pub was_on : (more past now : List Moment) (h : Holder) (p : ℕ) → more ++ past ≡ now → ((n : ℕ) → h.list ≡ Some n → is_cut now h.initiator n ≡ true → (is_cut past h.initiator n ≡ true) ⊎ WasElse now h.initiator n p) → Was past h p → Was now h p
unfolding was_later
was_on more past now h p e f w = record {
  opened = was_later more past now h.initiator p h.list e w.opened;
  spared = λ n is x. by n is (f n is x);
}
  where
    kept : (n : ℕ) → WasHad w.opened.earlier h.initiator n ⊎ WasElse past h.initiator n p → WasHad w.opened.earlier h.initiator n ⊎ WasElse now h.initiator n p
    kept n (inl a) = inl a
    kept n (inr b) = inr (else_later more past now h.initiator n p e b)

    by : (n : ℕ) → h.list ≡ Some n → (is_cut past h.initiator n ≡ true) ⊎ WasElse now h.initiator n p → WasHad w.opened.earlier h.initiator n ⊎ WasElse now h.initiator n p
    by n is (inl x) = kept n (w.spared n is x)
    by n is (inr x) = inr x

-- ---- at a place of a history
pub record WereAt (ms : List Moment) (w : WorldState) : Type 0 where
  pub each : (p : ℕ) → p < 8 → Listing w.target p → Was ms (holder w p) p
  pub had : (i n : ℕ) → is_cut ms i n ≡ true → WasHad ms i n

-- it goes on without a cut, and opens no list
pub same_were : (more ms now : List Moment) (w v : WorldState) → more ++ ms ≡ now → ((i n : ℕ) → is_cut now i n ≡ is_cut ms i n) → v.places ≡ w.places → ((p : ℕ) → Listing v.target p → Listing w.target p) → WereAt ms w → WereAt now v
same_were more ms now w v e cuts places less o = record {
  each = λ p b l.
      subst (λ ps. Was now (holder_at ps p) p) (sym places)
      (was_on more ms now (holder w p) p e (λ n is x. inl (sym (cuts (holder w p).initiator n) ∙ x)) (o.each p b (less p l)));
  had = λ i n x. had_later more ms now i n e (o.had i n (sym (cuts i n) ∙ x));
}
