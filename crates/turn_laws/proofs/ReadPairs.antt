-- The reads of AGENT_STATE that the terms have under way and those that an initiator has, side by side, in the order of their lines.
use Rattle.std.proofs.Common.{◌≡◌, inl, inr, ◌⊎◌, refl, sym, ◌∙◌, ap, subst, ℕ, ◌==◌, ◌||◌, not, Bool, true, false, cond, List, [], ◌∷◌, ◌++◌}
use Rattle.std.specs.List.{filter}
use Rattle.sbp_initiator.specs.Histories.Marks.{has_read}
use Rattle.sbp_laws.specs.Hosts.{StateRead}
use Rattle.sbp_world.proofs.Common.{equal, untrue}

abbrev pub AreZipped : (StateRead → ℕ → Type 0) → List StateRead → List ℕ → Type 0
AreZipped P [] [] = Unit {0}
AreZipped P (read ∷ reads) (act ∷ acts) = P read act × AreZipped P reads acts
AreZipped P [] (act ∷ acts) = ⊥
AreZipped P (read ∷ reads) [] = ⊥

module _ (P Q : StateRead → ℕ → Type 0) where
  pub zipped_map : ((read : StateRead) (act : ℕ) → P read act → Q read act) → (reads : List StateRead) (acts : List ℕ) → AreZipped P reads acts → AreZipped Q reads acts
  zipped_map f [] [] z = tt
  zipped_map f (read ∷ reads) (act ∷ acts) z = (f read act z.0, zipped_map f reads acts z.1)
  zipped_map f [] (act ∷ acts) z = absurd z
  zipped_map f (read ∷ reads) [] z = absurd z

  -- one more
  pub zipped_more : ((read : StateRead) (act : ℕ) → P read act → Q read act) → (reads : List StateRead) (acts : List ℕ) (read : StateRead) (act : ℕ) → Q read act → AreZipped P reads acts
      → AreZipped Q (reads ++ read ∷ []) (acts ++ act ∷ [])
  zipped_more f [] [] read act q z = (q, tt)
  zipped_more f (first ∷ reads) (other ∷ acts) read act q z = (f first other z.0, zipped_more f reads acts read act q z.1)
  zipped_more f [] (other ∷ acts) read act q z = absurd z
  zipped_more f (first ∷ reads) [] read act q z = absurd z

  -- each pair stays whole, or goes whole
  module _ (keep : StateRead → Bool) (stay : ℕ → Bool) where
    abbrev pub Fate : StateRead → ℕ → Type 0
    Fate read act = ((keep read ≡ true) × ((stay act ≡ true) × Q read act)) ⊎ ((keep read ≡ false) × (stay act ≡ false))

    pub zipped_filter : ((read : StateRead) (act : ℕ) → P read act → Fate read act) → (reads : List StateRead) (acts : List ℕ) → AreZipped P reads acts
        → AreZipped Q (filter keep reads) (filter stay acts)
    zipped_filter f [] [] z = tt
    zipped_filter f (read ∷ reads) (act ∷ acts) z = by (f read act z.0) (zipped_filter f reads acts z.1)
      where
        by : Fate read act → AreZipped Q (filter keep reads) (filter stay acts)
            → AreZipped Q (cond (keep read) (read ∷ filter keep reads) (filter keep reads)) (cond (stay act) (act ∷ filter stay acts) (filter stay acts))
        by (inl k) rest =
            subst (λ x. AreZipped Q (cond x (read ∷ filter keep reads) (filter keep reads)) (cond (stay act) (act ∷ filter stay acts) (filter stay acts))) (sym k.0)
            (subst (λ x. AreZipped Q (read ∷ filter keep reads) (cond x (act ∷ filter stay acts) (filter stay acts))) (sym k.1.0) (k.1.1, rest))
        by (inr k) rest =
            subst (λ x. AreZipped Q (cond x (read ∷ filter keep reads) (filter keep reads)) (cond (stay act) (act ∷ filter stay acts) (filter stay acts))) (sym k.0)
            (subst (λ x. AreZipped Q (filter keep reads) (cond x (act ∷ filter stay acts) (filter stay acts))) (sym k.1) rest)
    zipped_filter f [] (act ∷ acts) z = absurd z
    zipped_filter f (read ∷ reads) [] z = absurd z

-- what is left of some actions was not taken out
pub was_kept : (out : ℕ → Bool) (act : ℕ) (acts : List ℕ) → has_read act (filter (λ (other : ℕ). not (out other)) acts) ≡ true → out act ≡ false
was_kept out act [] e = untrue e
was_kept out act (first ∷ acts) e = by (λ g. was_kept out act acts g) (out first) refl e
  where
    here : (has_read act (filter (λ (other : ℕ). not (out other)) acts) ≡ true → out act ≡ false) → (c : Bool) → (first == act) ≡ c → out first ≡ false
        → (c || has_read act (filter (λ (other : ℕ). not (out other)) acts)) ≡ true → out act ≡ false
    here again true f k g = ap out (sym (equal first act f)) ∙ k
    here again false f k g = again g

    by : (has_read act (filter (λ (other : ℕ). not (out other)) acts) ≡ true → out act ≡ false) → (b : Bool) → out first ≡ b
        → has_read act (cond (not b) (first ∷ filter (λ (other : ℕ). not (out other)) acts) (filter (λ (other : ℕ). not (out other)) acts)) ≡ true → out act ≡ false
    by again true k g = again g
    by again false k g = here again (first == act) refl k g
