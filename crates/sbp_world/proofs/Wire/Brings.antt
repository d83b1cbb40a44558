-- What each line of the bus brings, in the words of the laws: which packets it delivers, and when it is refused.
use Rattle.sbp_world.proofs.Words.Std.{is_none, if◌then◌else◌, reverse, arith, sym, ◌∙◌, ap, subst, inl, inr}
use Rattle.sbp_world.proofs.Words.Wire.{Sent, found_sent, first, flying, is_flying, Stored, Moment, said, Terms, terms, Note, Request, topology_at, destination_in, no_packet, end_note, find, OutboxState}
use Rattle.sbp_world.proofs.Words.Target.{Told, with_key}
use Rattle.sbp_world.proofs.Words.Laws.{flies, lowest_in_flight, AreDeliveries, EndsSettle, IsDelivery, IsTurnOf, NoneFlies, SettlesWithin, deliveries, once_told, Either, law_injected, may_inject, law_repeats, node_from, law_refused, is_under_way}
use Rattle.sbp_world.proofs.Words.World.{delivered, keyed, reset_line, see_line, tick_line, delivered_if, expires, first_told, inject_line, injected, injected_to, is_in_flight, lose_line, lost, may_repeat, refused, timed_out, timeout_line, timeout_of, posted, AreUpTo, MayAll, MayNext, after_all, delivered_at, delivered_next, is_settled, lowest, settled, Scene, WorldState, initiator_at, with_note, with_target, without_notes, OwnFittingLaw, BytesTold, FittingLaw, Stands}
use Rattle.std.specs.Prelude.{◌≡◌, ◌⊎◌, ◌≤◌, ◌<◌, ℕ, suc, ◌+◌, ◌-◌, ◌&&◌, nat_lt, is_some, Bool, true, false, List, [], ◌∷◌, ◌++◌, length, map, Option, Some, None, refl}
use Rattle.sbp_journal.specs.declared.note.Note.TheVariants as notes
use Rattle.sbp_world.specs.Settling.{MayAt}
use Rattle.bus_transactions.proofs.Follows.{last_is}
use Rattle.sbp_world.proofs.Wire.Bus.{holds}
use Rattle.sbp_world.proofs.Wire.OwnHears.{ours}
use Rattle.sbp_world.proofs.Wire.Holding.{Sound}
use Rattle.sbp_world.proofs.Wire.Kept.{flies_is, flying_found, lowest_is, repeats_is}
use Rattle.sbp_world.proofs.Wire.Lowest.{AreMany, delivery_alone, none_yet, one_more, reversed, told_once, turn_alone}
use Rattle.sbp_world.proofs.Wire.Names.{goes_to}
use Rattle.sbp_world.proofs.Wire.Arrivals.{IsTarget}
use Rattle.sbp_world.proofs.Wire.Sound.{first_flies, next_heard}
use Rattle.sbp_world.proofs.Wire.CommandBytes.{AreTold}
use Rattle.sbp_world.proofs.Wire.Turned.{delivers, ends, second_turns, sight_turns}
use Rattle.sbp_world.proofs.Wire.Turns.{Delivered, Ends, Turned, ended_refuses, ended_turns}
use Rattle.sbp_world.proofs.Wire.Awaiting.{under_way_expires}
use Rattle.sbp_world.proofs.Wire.UnderWay.{expired_was}
use Rattle.sbp_world.proofs.Common.{and_second}

pub some_sent : (o : Option Sent) → is_some o ≡ true → (sent : Sent) × (o ≡ Some sent)
some_sent None e = cc
some_sent (Some sent) e = (sent, refl)

-- ---- what the history says of the packets of a world
module _ {past : List Moment} (w : WorldState) (h : Stands past w) where
  abbrev now : Terms
  now = terms h.wire.past

  pub flies_here : (serial : ℕ) → is_flying serial w.store.kept ≡ flies (now.flight serial)
  flies_here serial = ap (λ (st : Stored). is_flying serial st.kept) (sym h.is.store_is) ∙ flies_is (holds h.wire h.reached).follows serial

  pub repeats_here : (serial : ℕ) → may_repeat serial w ≡ law_repeats now serial
  repeats_here serial =
      ap (λ (st : Stored). nat_lt (st.last - 1024) serial && is_some (found_sent serial st.kept)) (sym h.is.store_is)
      ∙ repeats_is (holds h.wire h.reached).follows serial

  pub lowest_here : lowest w ≡ lowest_in_flight now
  lowest_here =
      ap (λ (st : Stored). first (flying st.kept)) (sym h.is.store_is)
      ∙ lowest_is now (holds h.wire h.reached).facts h.wire.store (holds h.wire h.reached).follows

  pub found_here : (serial : ℕ) → is_flying serial w.store.kept ≡ true → is_some (found_sent serial w.store.kept) ≡ true
  found_here serial e =
      ap (λ (st : Stored). is_some (found_sent serial st.kept)) (sym h.is.store_is)
      ∙ flying_found (holds h.wire h.reached).follows serial (ap (λ (st : Stored). is_flying serial st.kept) h.is.store_is ∙ e)

-- a packet that is kept is delivered to its node
kept_delivers : {past : List Moment} (s : Scene) (h : Stands past s.world) (serial : ℕ) (again : Bool) (told : Option Told) → is_some (found_sent serial s.world.store.kept) ≡ true → Delivered serial s.world.fresh (delivered serial again told s).world.fresh
kept_delivers s h serial again told e =
    let f = some_sent (found_sent serial s.world.store.kept) e in
    delivers serial again told s f.0 f.1 (ours s.world h serial f.0 f.1).to

-- ---- one packet
-- a delivery, or a refusal
pub brings_if : (line serial : ℕ) (b : Bool) (delivered_so : WorldState) (w : WorldState) → w.fresh ≡ [] → (b ≡ true → Delivered serial w.fresh delivered_so.fresh) → let new = reverse (if b then delivered_so else refused line no_packet w).fresh in Either b (IsDelivery serial new) (new ≡ law_refused line 11)
brings_if line serial true new w none d = delivery_alone serial new.fresh (subst (λ ns. Delivered serial ns new.fresh) none (d refl))
brings_if line serial false new w none d = ap (λ ns. reverse (notes.Refused line no_packet ∷ ns)) none

module _ {past : List Moment} (s : Scene) (h : Stands past s.world) (line serial : ℕ) where
  abbrev t : Terms
  t = terms h.wire.past

  delivers_if : (again b : Bool) (told : List (Option Told)) → (b ≡ true → is_some (found_sent serial s.world.store.kept) ≡ true) → s.world.fresh ≡ [] → Either b (IsDelivery serial (reverse (delivered_if b line serial again told s).world.fresh)) (reverse (delivered_if b line serial again told s).world.fresh ≡ law_refused line 11)
  delivers_if again true told found none =
      brings_if line serial true (delivered serial again (first_told told) s).world s.world none (λ e. kept_delivers s h serial again (first_told told) (found refl))
  delivers_if again false told found none = brings_if line serial false s.world s.world none (λ e. cc)

  pub deliver_brings : (told : List (Option Told)) → s.world.fresh ≡ [] → let new = reverse (delivered_if (is_in_flight serial s.world) line serial false told s).world.fresh in Either (flies (t.flight serial)) (IsDelivery serial new) (new ≡ law_refused line 11)
  deliver_brings told none =
      let new = reverse (delivered_if (is_in_flight serial s.world) line serial false told s).world.fresh in
      subst (λ b. Either b (IsDelivery serial new) (new ≡ law_refused line 11)) (flies_here s.world h serial)
      (delivers_if false (is_in_flight serial s.world) told (found_here s.world h serial) none)

  pub repeat_brings : (told : List (Option Told)) → s.world.fresh ≡ [] → let new = reverse (delivered_if (may_repeat serial s.world) line serial true told s).world.fresh in Either (law_repeats t serial) (IsDelivery serial new) (new ≡ law_refused line 11)
  repeat_brings told none =
      let new = reverse (delivered_if (may_repeat serial s.world) line serial true told s).world.fresh in
      subst (λ b. Either b (IsDelivery serial new) (new ≡ law_refused line 11)) (repeats_here s.world h serial)
      (delivers_if true (may_repeat serial s.world) told (and_second (nat_lt (s.world.store.last - 1024) serial) (is_some (found_sent serial s.world.store.kept))) none)

module _ {past : List Moment} (w : WorldState) (h : Stands past w) (line serial : ℕ) where
  abbrev terms_now : Terms
  terms_now = terms h.wire.past

  lose_by : (b : Bool) → w.fresh ≡ [] → reverse (if b then lost serial w else refused line no_packet w).fresh ≡ (if b then notes.Lost serial ∷ [] else law_refused line 11)
  lose_by true none = ap (λ ns. reverse (notes.Lost serial ∷ ns)) none
  lose_by false none = ap (λ ns. reverse (notes.Refused line no_packet ∷ ns)) none

  pub lose_brings : w.fresh ≡ [] → reverse (lose_line line serial w).fresh ≡ (if flies (terms_now.flight serial) then notes.Lost serial ∷ [] else law_refused line 11)
  unfolding lose_line
  lose_brings none = lose_by (is_in_flight serial w) none ∙ ap (λ b. if b then notes.Lost serial ∷ [] else law_refused line 11) (flies_here w h serial)

  -- ---- a time-out
  -- whatever the sender of a request hands out, where it finds the request as the world does
  module _ (aimed : (i : ℕ) → i < length w.initiators → IsTarget w (suc i) (initiator_at w i).target) (none : w.fresh ≡ []) (left : Request → Bool × (OutboxState × WorldState)) (same : (request : Request) → (left request).0 ≡ (expires request w).0) (ends_so : (request : Request) → Ends (left request) w) where
    abbrev pub left_of : Option Request → WorldState
    left_of None = refused line no_packet w
    left_of (Some request) = timed_out line serial request.node (left request)

    abbrev told_of : Option Request → List Note
    told_of o = reverse (left_of o).fresh

    stale_by : (request : Request) (b : Bool) → is_under_way terms_now serial ≡ false → find w.requests serial ≡ Some request → (expires request w).0 ≡ b → told_of (Some request) ≡ law_refused line 11
    stale_by request true stale found e = let yes = expired_was w h serial request found aimed e in cc
    stale_by request false stale found e =
        ap reverse (ended_refuses line serial request.node (left request) w (same request ∙ e) (ends_so request)) ∙ ap (λ ns. reverse (notes.Refused line no_packet ∷ ns)) none

    refused_by : (o : Option Request) → is_under_way terms_now serial ≡ false → find w.requests serial ≡ o → told_of o ≡ law_refused line 11
    refused_by None stale e = ap (λ ns. reverse (notes.Refused line no_packet ∷ ns)) none
    refused_by (Some request) stale e = stale_by request (expires request w).0 stale e refl

    times_out_by : (b : Bool) → is_under_way terms_now serial ≡ b → Either b (IsTurnOf (notes.TimedOut serial) (told_of (find w.requests serial))) (told_of (find w.requests serial) ≡ law_refused line 11)
    times_out_by true e =
        let f = under_way_expires w h serial aimed e in
        let new = (timed_out line serial f.request.node (left f.request)).fresh in
        subst (λ o. IsTurnOf (notes.TimedOut serial) (told_of o)) (sym f.found)
        (turn_alone (notes.TimedOut serial) new
        (subst (λ ns. Turned (notes.TimedOut serial) ns new) none (ended_turns line serial f.request.node (left f.request) w (same f.request ∙ f.expires) (ends_so f.request))))
    times_out_by false e = refused_by (find w.requests serial) e refl

    pub lapse_brings : let told = reverse (left_of (find w.requests serial)).fresh in Either (is_under_way terms_now serial) (IsTurnOf (notes.TimedOut serial) told) (told ≡ law_refused line 11)
    lapse_brings = times_out_by (is_under_way terms_now serial) refl

  -- in a world
  module _ (aimed : (i : ℕ) → i < length w.initiators → IsTarget w (suc i) (initiator_at w i).target) (none : w.fresh ≡ []) where
    abbrev WorldBrings : WorldState → Type 0
    WorldBrings new = Either (is_under_way terms_now serial) (IsTurnOf (notes.TimedOut serial) (reverse new.fresh)) (reverse new.fresh ≡ law_refused line 11)

    same_line : (o : Option Request) → left_of aimed none (λ request. expires request w) (λ request. refl) (λ request. ends request w) o ≡ timeout_of o line serial w
    same_line None = refl
    same_line (Some request) = refl

    pub timeout_brings : let told = reverse (timeout_line line serial w).fresh in Either (is_under_way terms_now serial) (IsTurnOf (notes.TimedOut serial) told) (told ≡ law_refused line 11)
    unfolding timeout_line
    timeout_brings =
        subst WorldBrings (same_line (find w.requests serial)) (lapse_brings aimed none (λ request. expires request w) (λ request. refl) (λ request. ends request w))

-- ---- an injected packet
module _ {past : List Moment} (w : WorldState) (h : Stands past w) (line i : ℕ) (inside : i < length w.initiators) (bytes : List ℕ) (none : w.fresh ≡ []) where
  abbrev wire_now : Terms
  wire_now = terms h.wire.past

  abbrev many : ℕ
  many = suc (length w.initiators)

  inject_by : (may : Bool) → reverse (injected (if may then Some (node_from wire_now i many 0 (destination_in bytes)) else None) line (suc i) bytes w).fresh ≡ (if may then law_injected wire_now i many bytes else law_refused line 12)
  unfolding posted
  inject_by true =
      let all = holds h.wire h.reached in
      let to = node_from wire_now i many 0 (destination_in bytes) in
      let there : suc i ≤ length w.initiators = inside in
      let serial : w.store.last + 1 ≡ wire_now.count + 1 = ap (λ (st : Stored). st.last + 1) (sym h.is.store_is) ∙ ap (λ n. n + 1) (last_is all.follows) in
      let generation : (topology_at w.generations (suc i)).generation ≡ wire_now.generation (suc i) = sym (h.is.sights (suc i) there) ∙ (all.nodes (suc i)).generation in
      ap (λ ns. reverse (notes.Sent (w.store.last + 1) (topology_at w.generations (suc i)).generation (suc i) to bytes ∷ notes.Injected (w.store.last + 1) ∷ ns)) none
      ∙ ap (λ n. notes.Injected n ∷ notes.Sent n (topology_at w.generations (suc i)).generation (suc i) to bytes ∷ []) serial
      ∙ ap (λ g. notes.Injected (wire_now.count + 1) ∷ notes.Sent (wire_now.count + 1) g (suc i) to bytes ∷ []) generation
  inject_by false = ap (λ ns. reverse (notes.Refused line 12 ∷ ns)) none

  pub inject_brings : reverse (inject_line line i bytes w).fresh ≡ (if may_inject wire_now i many bytes then law_injected wire_now i many bytes else law_refused line 12)
  unfolding inject_line
  inject_brings =
      ap (λ n. reverse (injected (injected_to n bytes w) line n bytes w).fresh) (let e : i + 1 ≡ suc i = omega arith in e)
      ∙ ap (λ o. reverse (injected o line (suc i) bytes w).fresh) (goes_to w h i inside bytes)
      ∙ inject_by (may_inject wire_now i many bytes)

-- ---- nodes, the bus and keys
bus_now : {past : List Moment} (w : WorldState) (h : Stands past w) → w.generations.latest.generation ≡ (terms h.wire.past).bus
bus_now w h = sym h.is.bus_is ∙ (holds h.wire h.reached).bus_is

pub reset_brings : {past : List Moment} (w : WorldState) (h : Stands past w) (physical : List ℕ) → reverse (reset_line physical (without_notes w)).fresh ≡ notes.Reset ((terms h.wire.past).bus + 1) ∷ []
unfolding reset_line
reset_brings w h physical = ap (λ g. notes.Reset (g + 1) ∷ []) (bus_now w h)

module _ {past : List Moment} (w : WorldState) (h : Stands past w) (none : w.fresh ≡ []) where
  pub see_brings : (node : ℕ) → IsTurnOf (notes.Seen node (terms h.wire.past).bus) (reverse (see_line node w).fresh)
  see_brings node =
      subst (λ g. IsTurnOf (notes.Seen node g) (reverse (see_line node w).fresh)) (bus_now w h)
      (turn_alone (notes.Seen node w.generations.latest.generation) (see_line node w).fresh
      (subst (λ ns. Turned (notes.Seen node w.generations.latest.generation) ns (see_line node w).fresh) none (sight_turns node w)))

  pub tick_brings : IsTurnOf notes.Tick (reverse (tick_line w).fresh)
  tick_brings = turn_alone notes.Tick (tick_line w).fresh (subst (λ ns. Turned notes.Tick ns (tick_line w).fresh) none (second_turns w))

  key_by : (line unit : ℕ) (key : List ℕ) (b : Bool) → reverse (if b then with_note (notes.Key unit) (with_target (with_key unit key w.target) w) else refused line 13 w).fresh ≡ (if b then notes.Key unit ∷ [] else law_refused line 13)
  key_by line unit key true = ap (λ ns. reverse (notes.Key unit ∷ ns)) none
  key_by line unit key false = ap (λ ns. reverse (notes.Refused line 13 ∷ ns)) none

  pub key_brings : (line unit : ℕ) (key : List ℕ) (units : ℕ) → length w.target.units ≡ units → reverse (keyed line unit key w).fresh ≡ (if nat_lt unit units then notes.Key unit ∷ [] else law_refused line 13)
  unfolding keyed
  key_brings line unit key units e =
      key_by line unit key (nat_lt unit (length w.target.units)) ∙ ap (λ n. if nat_lt unit n then notes.Key unit ∷ [] else law_refused line 13) e

-- ---- deliveries one after the other
pub none_next : {past : List Moment} (w : WorldState) (h : Stands past w) → lowest w ≡ None → NoneFlies (once_told past (reverse w.fresh))
none_next {past} w h e =
    ap (λ ms. lowest_in_flight (terms ms)) (told_once past w.fresh ∙ sym h.is.past_is) ∙ sym (lowest_here w h) ∙ e

few_or_all : (most have : ℕ) → have ≤ most → (most ≡ have) ⊎ (have < most)
few_or_all most have l = by_test (nat_lt have most) refl
  where
    by_test : (b : Bool) → nat_lt have most ≡ b → (most ≡ have) ⊎ (have < most)
    by_test true e = inr (grind arith)
    by_test false e = inl (grind arith)

all_by : (most have counted : ℕ) (Rests : Type 0) → counted ≡ have → (have < most → Rests) → (most ≡ have) ⊎ (have < most) → (counted ≡ most) ⊎ Rests
all_by most have counted Rests e rest (inl same) = inl (e ∙ sym same)
all_by most have counted Rests e rest (inr l) = inr (rest l)

-- so many deliveries of the lowest packets, and a world behind them that stands
module _ {past : List Moment} (w : WorldState) (h : Stands past w) (most have : ℕ) (many : AreMany past have w.fresh) (few : have ≤ most) (all : have < most → lowest w ≡ None) where
  pub many_bring : AreDeliveries past most (reverse w.fresh)
  many_bring =
      let count = many.count in
      record {
        begins = many.begins;
        lowest = many.lowest;
        few = omega (arith, count, few);
        all = all_by most have (deliveries (reverse w.fresh)) (NoneFlies (once_told past (reverse w.fresh))) count (λ l. none_next w h (all l)) (few_or_all most have few);
      }

  many_end : (o : Option ℕ) → lowest w ≡ o → EndsSettle past most (reverse w.fresh) (end_note (is_none o))
  many_end None e = none_next w h e
  many_end (Some serial) e =
      (many.count ∙ full_by (λ l. some_none serial (sym e ∙ all l)) (few_or_all most have few), λ none. some_none serial (sym e ∙ lowest_here w h ∙ ap (λ ms. lowest_in_flight (terms ms)) (h.is.past_is ∙ sym (told_once past w.fresh)) ∙ none))
    where
      full_by : (have < most → ⊥) → (most ≡ have) ⊎ (have < most) → have ≡ most
      full_by never (inl e) = sym e
      full_by never (inr l) = absurd (never l)

      some_none : (serial : ℕ) → Some serial ≡ None → ⊥
      some_none serial e = cc

  -- and a settle of them
  pub many_settle : SettlesWithin most past (reverse (with_note (end_note (is_settled w)) w).fresh)
  many_settle = record {
    before = reverse w.fresh;
    last = end_note (is_settled w);
    is = reversed (end_note (is_settled w)) w.fresh;
    delivers = many_bring;
    ends = many_end (lowest w) refl;
  }

module _ (targets : FittingLaw) (initiators : OwnFittingLaw) {past : List Moment} {lines : ℕ} (start : Scene) (sound : Sound past lines start.world) (none : start.world.fresh ≡ []) (once : (terms past).repeats ≡ false) where
  -- the deliveries so far, and that the world stands
  record Ran (told : List (Option Told)) : Type 0 where
    sound_now : Sound past lines (after_all told start).world
    many : AreMany past (length told) (after_all told start).world.fresh

  next_by : (told : Option Told) → BytesTold told → (before : List (Option Told)) → Ran before → (o : Option ℕ) → lowest (after_all before start).world ≡ o → MayAt o told (after_all before start) → (Sound past lines (delivered_at o told (after_all before start)).world) × AreMany past (suc (length before)) (delivered_at o told (after_all before start)).world.fresh
  next_by told fits before r None e may = absurd may
  next_by told fits before r (Some serial) e may =
      let s = after_all before start in
      let h = r.sound_now.stands in
      let low : lowest_in_flight (terms (map said s.world.fresh ++ past)) ≡ Some serial =
      ap (λ ms. lowest_in_flight (terms ms)) (sym h.is.past_is) ∙ sym (lowest_here s.world h) ∙ e in
      let flown : is_flying serial s.world.store.kept ≡ true = first_flies (flying s.world.store.kept) serial e in (
        next_heard targets initiators told fits s r.sound_now once (Some serial) e,
        one_more past (length before) serial s.world.fresh (delivered serial false told s).world.fresh r.many low (kept_delivers s h serial false told (found_here s.world h serial flown)),
      )

  ran : (told : List (Option Told)) → AreTold told → MayAll told start → Ran told
  unfolding delivered_next MayNext
  ran [] fits may = record { sound_now = sound; many = none_yet past start.world.fresh none }
  ran (told ∷ before) fits may =
      let n = next_by told fits.0 before (ran before fits.1 may.1) (lowest (after_all before start).world) refl may.0 in
      record { sound_now = n.0; many = n.1 }

  pub up_to_brings : (most : ℕ) (told : List (Option Told)) → AreTold told → AreUpTo most told start → AreDeliveries past most (reverse (after_all told start).world.fresh)
  up_to_brings most told fits may =
      let r = ran told fits may.may in
      many_bring (after_all told start).world r.sound_now.stands most (length told) r.many may.few may.all

  -- ---- and a settle
  pub settle_brings : (most : ℕ) (told : List (Option Told)) → AreTold told → AreUpTo most told start → SettlesWithin most past (reverse (settled told start).world.fresh)
  settle_brings most told fits may =
      let r = ran told fits may.may in
      many_settle (after_all told start).world r.sound_now.stands most (length told) r.many may.few may.all
