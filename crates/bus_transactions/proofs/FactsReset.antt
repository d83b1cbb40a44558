-- The bus is reset, and a node sees it.
use Rattle.std.specs.Prelude.{◌≡◌, ℕ, ◌+◌, ◌<◌, ◌≤◌, nat_eq, Bool, true, false, cond, refl}
use Rattle.std.proofs.Common.{arith, sym, ◌∙◌, ap, subst}
use Rattle.sbp_base.specs.Update.{upd}
use Rattle.sbp_journal.specs.Transactions.{is_to, Sending}
use Rattle.sbp_journal.specs.Wire.{Terms}
use Rattle.bus_transactions.proofs.Facts.{Honest, Facts, nat_apart}

-- ---- a reset
abbrev pub reset_at : (t : Terms) → (ℕ → ℕ) → Terms
reset_at t new = record t { ids = upd t.ids (t.bus + 1) new; repeats = false; bus = t.bus + 1 }

module _ {t : Terms} (f : Facts t) (new : ℕ → ℕ) where
  -- the IDs of an earlier generation stay
  pub ids_before : (g : ℕ) → g ≤ t.bus → upd t.ids (t.bus + 1) new g ≡ t.ids g
  ids_before g l = ap (λ b. cond b new (t.ids g)) (nat_apart g (t.bus + 1) (omega arith))

  reset_apart : ((i j : ℕ) → new i ≡ new j → i ≡ j) → (g i j : ℕ) (b : Bool) → cond b new (t.ids g) i ≡ cond b new (t.ids g) j → i ≡ j
  reset_apart apart g i j true e = apart i j e
  reset_apart apart g i j false e = f.apart g i j e

  reset_honest : (q : Sending) → Honest t.ids t.generation t.injects q → Honest (upd t.ids (t.bus + 1) new) t.generation t.injects q
  reset_honest q h =
      let old = ids_before q.generation (let a = h.past in let b = f.aged q.from in omega arith) in
      record {
        from_small = h.from_small;
        to_small = h.to_small;
        past = h.past;
        bold = h.bold;
        is_for = λ e. subst (λ (row : ℕ → ℕ). is_to q.bytes (row q.to) ≡ true) (sym old) (h.is_for e);
        source = λ p e. h.source p e ∙ ap (λ (row : ℕ → ℕ). row q.from) (sym old);
        label = h.label;
      }

  pub facts_reset : ((i j : ℕ) → new i ≡ new j → i ≡ j) → Facts (reset_at t new)
  facts_reset apart = record {
    apart = λ g i j. reset_apart apart g i j (nat_eq g (t.bus + 1));
    aged = λ i. let a = f.aged i in omega arith;
    unsent = f.unsent;
    zero = f.zero;
    tie = f.tie;
    asked = f.asked;
    early = f.early;
    silent = f.silent;
    ungiven = f.ungiven;
    honest = λ s q e. reset_honest q (f.honest s q e);
    flies = f.flies;
    counts = f.counts;
    waiting_kind = f.waiting_kind;
    replied = f.replied;
  }

-- ---- a node sees the latest one
abbrev pub seen_at : (t : Terms) → ℕ → Terms
seen_at t node = record t { generation = upd t.generation node t.bus }

module _ {t : Terms} (f : Facts t) (node : ℕ) where
  risen : (i : ℕ) (b : Bool) → nat_eq i node ≡ b → t.generation i ≤ cond b t.bus (t.generation i)
  risen i true e = f.aged i
  risen i false e = omega arith

  most : (i : ℕ) (b : Bool) → cond b t.bus (t.generation i) ≤ t.bus
  most i true = omega arith
  most i false = f.aged i

  later : (i g : ℕ) → upd t.generation node t.bus i < g → t.generation i < g
  later i g l = let r = risen i (nat_eq i node) refl in omega arith

  pub facts_seen : Facts (seen_at t node)
  facts_seen = record {
    apart = f.apart;
    aged = λ i. most i (nat_eq i node);
    unsent = f.unsent;
    zero = f.zero;
    tie = f.tie;
    asked = f.asked;
    early = λ u l. f.early u (later u.requester u.generation l);
    silent = λ u l. f.silent u (later u.responder u.generation l);
    ungiven = λ u l. f.ungiven u (later u.responder u.generation l);
    honest = λ s q e. let h = f.honest s q e in record {
      from_small = h.from_small;
      to_small = h.to_small;
      past = let r = risen q.from (nat_eq q.from node) refl in let p = h.past in omega arith;
      bold = h.bold;
      is_for = h.is_for;
      source = h.source;
      label = h.label;
    };
    flies = f.flies;
    counts = f.counts;
    waiting_kind = f.waiting_kind;
    replied = f.replied;
  }

-- ---- a word on the line, and that a packet is injected
pub facts_opened : {t : Terms} → Facts t → (repeats : Bool) → Facts (record t { repeats = repeats })
facts_opened f repeats = record {
  apart = f.apart;
  aged = f.aged;
  unsent = f.unsent;
  zero = f.zero;
  tie = f.tie;
  asked = f.asked;
  early = f.early;
  silent = f.silent;
  ungiven = f.ungiven;
  honest = f.honest;
  flies = f.flies;
  counts = f.counts;
  waiting_kind = f.waiting_kind;
  replied = f.replied;
}

marked : (injected : ℕ → Bool) (count s r : ℕ) (b : Bool) → nat_eq r s ≡ b → s ≤ count → count < r → injected r ≡ false → cond b true (injected r) ≡ false
marked injected count s r false e l h o = o
marked injected count s r true e l h o = let i : r ≡ s = grind arith in absurd (omega (arith, i, l, h))

pub facts_marked : {t : Terms} → Facts t → (s : ℕ) → s ≤ t.count → Facts (record t { injected = upd t.injected s true })
facts_marked {t} f s l = record {
  apart = f.apart;
  aged = f.aged;
  unsent = λ r h. let g = f.unsent r h in record {
    sent_is = g.sent_is;
    honest = marked t.injected t.count s r (nat_eq r s) refl l h g.honest;
    unjudged = g.unjudged;
    no_news = g.no_news;
    open_still = g.open_still;
    unanswered = g.unanswered;
  };
  zero = f.zero;
  tie = f.tie;
  asked = f.asked;
  early = f.early;
  silent = f.silent;
  ungiven = f.ungiven;
  honest = f.honest;
  flies = f.flies;
  counts = f.counts;
  waiting_kind = f.waiting_kind;
  replied = f.replied;
}
