-- Deliveries one after the other: so many, until none is in flight, or until they are spent.
use Rattle.std.proofs.Common.{◌≡◌, refl, subst, sym, ℕ, ◌+◌, ◌≤◌, [], ◌∷◌, Option, Some, None, false, arith}
use Rattle.rbc_disk.specs.Runs.{Told}
use Rattle.sbp_world.specs.Settling.{lowest}
use Rattle.task_world.specs.Delivering.{Delivers, delivered}
use Rattle.task_world.specs.Settling.{DeliversAll, DeliversUpTo, MayAt, MayNext, delivered_at, delivered_next}
use Rattle.task_world.specs.Worlds.{TaskScene}

pub all_none : (s : TaskScene) → DeliversAll 0 s s
all_none s = record { told = []; count = refl; is = refl; may = tt }

next_is : (b c : TaskScene) (told : Option Told) (serial : ℕ) → Some serial ≡ lowest b.scene.world → c ≡ delivered serial false told b → c ≡ delivered_next told b
unfolding delivered_next
next_is b c told serial e d = subst (λ (o : Option ℕ). c ≡ delivered_at o told b) e d

next_may : (b : TaskScene) (told : Option Told) (serial : ℕ) → Some serial ≡ lowest b.scene.world → MayAt (Some serial) told b → MayNext told b
unfolding MayNext
next_may b told serial e d = subst (λ (o : Option ℕ). MayAt o told b) e d

pub all_more : (many serial : ℕ) (a b c : TaskScene) → DeliversAll many a b → Some serial ≡ lowest b.scene.world → Delivers serial false b c → DeliversAll (many + 1) a c
all_more many serial a b c h e d = record {
  told = d.told ∷ h.told;
  count = let k = h.count in omega arith;
  is = subst (λ (x : TaskScene). c ≡ delivered_next d.told x) h.is (next_is b c d.told serial e d.is);
  may = (subst (λ (x : TaskScene). MayNext d.told x) h.is (next_may b d.told serial e d.may), h.may);
}

pub all_ended : (many most : ℕ) (a b : TaskScene) → DeliversAll many a b → many ≤ most → None ≡ lowest b.scene.world → DeliversUpTo most a b
all_ended many most a b h few e = record {
  told = h.told;
  is = h.is;
  may = record {
    few = let k = h.count in omega arith;
    all = λ less. subst (λ (x : TaskScene). lowest x.scene.world ≡ None) h.is (sym e);
    may = h.may;
  };
}

pub all_spent : (many most : ℕ) (a b : TaskScene) → many ≡ most → DeliversAll many a b → DeliversUpTo most a b
all_spent many most a b e h = record {
  told = h.told;
  is = h.is;
  may = record {
    few = let k = h.count in omega arith;
    all = λ less. let k = h.count in absurd (omega arith);
    may = h.may;
  };
}
