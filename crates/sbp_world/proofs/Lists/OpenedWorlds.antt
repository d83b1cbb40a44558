-- Each turn of a world keeps it, for which list an agent is out of RESET.
use Rattle.sbp_world.proofs.Words.Std.{arith, ◌≡◌, ◌∙◌, refl, sym, ap, subst, ◌<◌, ◌≤◌, not, ℕ, suc, nat_lt, Bool, true, false, List, [], ◌∷◌, ◌++◌, length, map, Option, Some, None, nat_tests}
use Rattle.sbp_world.proofs.Words.Wire.{SerialsCount, Due, Node, Stored, holder_at, Holder, Moment, said, Sending, Terms, terms, Note}
use Rattle.sbp_world.proofs.Words.Target.{state_in, is_reset, NodeState, desk_at}
use Rattle.sbp_world.proofs.Words.Laws.{EachMoment, Underway, access_in_bytes}
use Rattle.sbp_world.proofs.Words.World.{WorldState, initiator_at, Stands, AreRows, register_read, MayStand, pointer_write, register_write, turn_of, AllOf, AreOpenFor, Ends, ends_by_reset, ends_by_sight, ends_by_state, ends_by_status, EndsAt, IsToldDone, IsUp, view, IsPointedBy}
use Rattle.bus_transactions.proofs.Stands.{DueIs, On}
use Rattle.sbp_journal.specs.declared.note.Note.TheVariants as notes
use Rattle.sbp_world.proofs.Wire.Bus.{holds}
use Rattle.sbp_world.proofs.Agents.Management.Holding.{past_terms}
use Rattle.sbp_world.proofs.Agents.Management.Still.{hist}
use Rattle.sbp_journal.specs.declared.operation.Operation.TheVariants as operations
use Rattle.sbp_world.proofs.Lists.Joins.{Begins}
use Rattle.sbp_world.proofs.Lists.OpenFresh.{Writes}
use Rattle.sbp_world.proofs.Lists.OpenedAside.{IsOthers, aside}
use Rattle.sbp_world.proofs.Lists.OpenedGrown.{grown}
use Rattle.sbp_world.proofs.Lists.OpenedHears.{aside_keeps}
use Rattle.sbp_world.proofs.Lists.OpenedMoments.{of_others}
use Rattle.sbp_world.proofs.Lists.OpenedNever.{ResetsWrite}
use Rattle.sbp_world.proofs.Lists.OpenedTurns.{Grown, Known, NoneUp, WasUp}
use Rattle.sbp_world.proofs.Lists.Rises.{Rises}
use Rattle.sbp_world.proofs.Common.{moment_joined, said_split as split}
use Rattle.sbp_world.proofs.Pointers.Ages.{seen_now}

-- ---- what is known between two turns, of an initiator
pub record Here (H : List Moment) (w : WorldState) (i : ℕ) : Type 0 where
  pub known : Known (view H i) w i
  pub latest : (n : ℕ) → (view H i).present ≡ Some n → suc n ≡ (view H i).begun
  pub written : (serial : ℕ) (packet : Sending) (place address : ℕ) → (view H i).sent serial ≡ Some packet → IsPointedBy packet i place address → Writes packet.bytes
  pub resets : ResetsWrite H i
  -- what stands in its slots
  pub rows : i < length w.initiators → AreRows H i (initiator_at w i).lists.slots
  -- at whose registers it writes and reads
  pub agent : ℕ
  pub pointer : (n serial : ℕ) (packet : Sending) → (view H i).present ≡ Some n → (view H i).pointed serial ≡ Some n → (view H i).sent serial ≡ Some packet → (address : ℕ) × (access_in_bytes packet.bytes ≡ Some (pointer_write agent address))
  pub reset : (underway : Underway) (packet : Sending) → (view H i).operation ≡ Some underway → underway.operation ≡ operations.AgentReset → (view H i).sent underway.first ≡ Some packet → access_in_bytes packet.bytes ≡ Some (register_write agent 0x04)
  pub states : (n serial : ℕ) (packet : Sending) → (view H i).present ≡ Some n → (view H i).told serial ≡ Some n → (view H i).sent serial ≡ Some packet → access_in_bytes packet.bytes ≡ Some (register_read agent 0x00)

-- and behind a turn
pub record Then (now : List Moment) (i : ℕ) : Type 0 where
  pub serials : SerialsCount now
  pub rises : Rises now
  pub moments : EachMoment (MayStand i) now
  pub ends : EachMoment (EndsAt i) now
  pub begins : Begins i now
  pub told : (r : IsToldDone (view now i) i) → 0 < (view now i).news r.underway.first

-- what the wire says of packets that were not sent yet
pub record WiredBy (t : Terms) : Type 0 where
  pub unserved : (s : ℕ) → t.count < s → t.served s ≡ 0
  pub unsent : (s : ℕ) → t.count < s → t.news s ≡ 0
  pub unanswered : (s : ℕ) → t.count < s → t.answers s ≡ None
  pub answered : (reply s : ℕ) → t.answers reply ≡ Some s → s ≤ t.count
  pub unknown : (s : ℕ) (packet : Sending) → t.sent s ≡ Some packet → s ≤ t.count
  -- and that no answer is owed
  pub quiet : t.owes ≡ None

abbrev pub Wired : List Moment → Type 0
Wired H = WiredBy (terms H)

pub wired : {past : List Moment} (w : WorldState) → Stands past w → Wired (hist past w)
wired {past} w h =
    let on = holds h.wire h.reached in
    let t = terms h.wire.past in
    subst WiredBy (past_terms w h) (record {
      unserved = on.codes.unserved;
      unsent = λ s l. (on.facts.unsent s l).no_news;
      unanswered = λ s l. (on.facts.unsent s l).unanswered;
      answered = λ reply s e.
          let r = on.facts.replied reply s e in below on s r.asking r.asking_is;
      unknown = below on;
      quiet = subst (DueIs t h.wire.layer) h.is.due_is on.due_is;
    })
  where
    below : {t : Terms} {store : Stored} {layer : ℕ → Node} {bus : ℕ} {ids : ℕ → ℕ} {due : Option Due} → On t store layer bus ids due → (s : ℕ) (packet : Sending) → t.sent s ≡ Some packet → s ≤ t.count
    below {t} on s packet e = by (nat_lt t.count s) refl
      where
        by : (b : Bool) → nat_lt t.count s ≡ b → s ≤ t.count
        by true f =
            let n = (on.facts.unsent s (grind (arith, nat_tests))).sent_is in
            absurd (let z : None ≡ Some packet = sym n ∙ e in cc)
        by false f = grind (arith, nat_tests)

-- ---- a history by its notes
pub turn_is : (more : List Note) (note : Note) (old new : List Note) (past : List Moment) → more ++ note ∷ old ≡ new → map said more ++ said note ∷ (map said old ++ past) ≡ map said new ++ past
turn_is more note old new past e = sym (split more (note ∷ old) past) ∙ ap (λ ns. map said ns ++ past) e

pub grown_turn : (i : ℕ) (more : List Note) (m : Moment) (H : List Moment) → Wired H → SerialsCount (map said more ++ m ∷ H) → Rises (map said more ++ m ∷ H) → Grown (view H i) (view (map said more ++ m ∷ H) i)
grown_turn i more m H k serials rises =
    let e = moment_joined (map said more) m H in
    subst (λ ms. Grown (view H i) (view ms i)) e (grown i (map said more ++ m ∷ []) H (subst SerialsCount (sym e) serials) (subst Rises (sym e) rises) k.unserved k.answered)

-- ---- where the target and who has its places stay
pub alike_up : (w v : WorldState) → v.target ≡ w.target → v.places ≡ w.places → (i p : ℕ) → IsUp v i p → WasUp w v i p
alike_up w v e f i p u = record {
  was = record {
    up = subst (λ (t : NodeState). not (is_reset (state_in (desk_at t p).agent.phase)) ≡ true) e u.up;
    own = subst (λ (ps : List (Option Holder)). (holder_at ps p).initiator ≡ i) f u.own;
  };
  list = ap (λ (ps : List (Option Holder)). (holder_at ps p).list) f;
}

-- ---- a turn of others
module _ (i : ℕ) (H : List Moment) (k : Wired H) (w v : WorldState) (m : Moment) (first : IsOthers H m) (more : List Note) (all : AllOf of_others more) (here : Here H w i) (behind : Then (map said more ++ m ∷ H) i) (up : (p : ℕ) → IsUp v i p → WasUp w v i p) (o : AreOpenFor (view H i) w i) where
  pub aside_turn : ((terms (m ∷ H)).generation (suc i) ≡ (terms H).generation (suc i) → (view H i).target ≡ (view H i).own → Ends (turn_of (m ∷ H)) i → NoneUp w i) → AreOpenFor (view (map said more ++ m ∷ H) i) v i
  aside_turn never =
      let g = grown_turn i more m H k behind.serials behind.rises in
      aside_keeps (view H i) (view (map said more ++ m ∷ H) i) w v i g o
      (aside i H w v m first more all g k.unsent here.known here.latest up behind.moments behind.ends behind.begins behind.rises never behind.told)

-- of a node that sees a generation
number_is : (i j a b : ℕ) (H earlier : List Moment) → said (notes.Seen (suc j) a) ∷ H ≡ said (notes.Seen (suc i) b) ∷ earlier → j ≡ i
number_is i j a b H earlier e = cc

seen_is : (i j a b : ℕ) (H earlier : List Moment) → said (notes.Seen (suc j) a) ∷ H ≡ said (notes.Seen (suc i) b) ∷ earlier → a ≡ b
seen_is i j a b H earlier e = cc

past_is : (i j a b : ℕ) (H earlier : List Moment) → said (notes.Seen (suc j) a) ∷ H ≡ said (notes.Seen (suc i) b) ∷ earlier → H ≡ earlier
past_is i j a b H earlier e = cc

pub saw_never : (j generation : ℕ) (H : List Moment) (i : ℕ) → (terms (said (notes.Seen (suc j) generation) ∷ H)).generation (suc i) ≡ (terms H).generation (suc i) → Ends (said (notes.Seen (suc j) generation) ∷ H) i → ⊥
saw_never j generation H i same (ends_by_reset serial earlier got request value a r) = differ got
  where
    differ : said (notes.Seen (suc j) generation) ∷ H ≡ said (notes.Got serial) ∷ earlier → ⊥
    differ f = cc
saw_never j generation H i same (ends_by_state serial earlier got request a t) = differ got
  where
    differ : said (notes.Seen (suc j) generation) ∷ H ≡ said (notes.Got serial) ∷ earlier → ⊥
    differ f = cc
saw_never j generation H i same (ends_by_status serial earlier got d) = differ got
  where
    differ : said (notes.Seen (suc j) generation) ∷ H ≡ said (notes.Got serial) ∷ earlier → ⊥
    differ f = cc
saw_never j generation H i same (ends_by_sight other earlier seen l) =
    let own = number_is i j generation other H earlier seen in
    let g = seen_is i j generation other H earlier seen in
    let h : (terms H).generation (suc i) ≡ (terms earlier).generation (suc i) = ap (λ ms. (terms ms).generation (suc i)) (past_is i j generation other H earlier seen) in
    let now : (terms (said (notes.Seen (suc j) generation) ∷ H)).generation (suc j) ≡ generation = seen_now (suc j) generation H in
    let at : (terms (said (notes.Seen (suc j) generation) ∷ H)).generation (suc j) ≡ (terms (said (notes.Seen (suc j) generation) ∷ H)).generation (suc i) = ap (λ n. (terms (said (notes.Seen (suc j) generation) ∷ H)).generation (suc n)) own in
    omega (arith, same, g, h, now, at, l)
