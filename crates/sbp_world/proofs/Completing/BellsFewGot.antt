-- Turn by turn: a quadlet that an initiator sent to the DOORBELL of the agent that has its list, once the write of ORB_POINTER for that was got, and that was taken as new, was got.
use Rattle.sbp_world.proofs.Words.Std.{arith, ◌≡◌, ◌∙◌, refl, sym, ap, subst, inl, inr, ◌<◌, ◌≤◌, ◌+◌, nat_lt, nat_tests, ℕ, suc, Bool, true, false, List, [], ◌∷◌, ◌++◌, length, Some, same_Some}
use Rattle.sbp_world.proofs.Words.Wire.{Access, Moment, Sending, Sent, SerialsCount, as_sending, found_sent, judged_note, said, terms}
use Rattle.sbp_world.proofs.Words.Target.{Disk, NodeState, agent_base, is_reset, received, state_in}
use Rattle.sbp_world.proofs.Words.Laws.{access_in_bytes, is_cut}
use Rattle.sbp_world.proofs.Words.World.{IsUp, Run, Scene, Stands, WorldState, beginning, initiator_in, machine_at, moments_behind, whole_of}
use Rattle.sbp_journal.specs.declared.cause.Judged.TheVariants as judgements
use Rattle.sbp_journal.specs.declared.note.Note.TheVariants as notes
use Rattle.sbp_world.specs.Completing.BellsOpened.{HasOpening}
use Rattle.sbp_world.specs.Completing.Present.{IsUpWith, WasPointed}
use Rattle.sbp_world.proofs.Agents.Management.Holding.{was_sent}
use Rattle.sbp_world.proofs.Agents.Management.Still.{hist}
use Rattle.sbp_world.proofs.Common.{moments_joined}
use Rattle.sbp_world.proofs.Completing.BellsFewOpened.{Opened}
use Rattle.sbp_world.proofs.Completing.BellsJudged.{bell_judged, turn_got}
use Rattle.sbp_world.proofs.Completing.BellsOpened.{Since, kit_step}
use Rattle.sbp_world.proofs.Completing.PresentGets.{GotFrom, TurnGets, turn_gets}
use Rattle.sbp_world.proofs.Completing.PresentLaws.{nothing}
use Rattle.sbp_world.proofs.Completing.PresentRuns.{its_serial, uncut_then, was_pointed}
use Rattle.sbp_world.proofs.Completing.PresentStays as stays
use Rattle.sbp_world.proofs.Completing.PresentTakes.{Kit, all_take}
use Rattle.sbp_world.proofs.Hosts.Cores.{not_so}
use Rattle.sbp_world.proofs.Hosts.Remaining.{opened_same, remains}
use Rattle.sbp_world.proofs.Lists.Gots.{WhereGot, got_before, got_here, got_in_line, got_where, turn_next}
use Rattle.sbp_world.proofs.Lists.Judging.{Grown, counts_at, grown, next_fresh}
use Rattle.sbp_world.proofs.Lists.OpenNews.{got_news}
use Rattle.sbp_world.proofs.Lists.PlaceOwners.{Owns, walk_owns}
use Rattle.sbp_world.proofs.Lists.StatusRested.{Grounds}
use Rattle.sbp_world.proofs.Lists.TurnCalls.{TurnFrom}
use Rattle.sbp_world.proofs.Lists.TurnWalk.{seated_of, turn_from}
use Rattle.sbp_world.proofs.Lists.Walks.{Step}

-- ---- what is said of a packet
-- an initiator sent it, a quadlet for the DOORBELL of a place
pub record IsBell (past : List Moment) (i place r : ℕ) : Type 0 where
  pub packet : Sending
  pub sent : (terms past).sent r ≡ Some packet
  pub from_is : packet.from ≡ suc i
  pub to_is : packet.to ≡ 0
  pub honest : packet.injected ≡ false
  pub access : Access
  pub spelled : access_in_bytes packet.bytes ≡ Some access
  pub write : access.is_write ≡ true
  pub quad : access.is_block ≡ false
  pub at : access.offset ≡ agent_base place + 0x10

-- another one was got before it was sent
pub record IsSentSince (past : List Moment) (r serial : ℕ) : Type 0 where
  pub later : List Moment
  pub earlier : List Moment
  pub is : later ++ said (notes.Got serial) ∷ earlier ≡ past
  pub packet : Sending
  pub sent : (terms earlier).sent serial ≡ Some packet
  pub less : (terms earlier).count < r

-- it was got
pub record HasGot (past : List Moment) (r : ℕ) : Type 0 where
  pub later : List Moment
  pub earlier : List Moment
  pub is : later ++ said (notes.Got r) ∷ earlier ≡ past

abbrev pub AreTakenGot : List Disk → (ℕ → Bool) → List Moment → WorldState → Type 0
AreTakenGot start wild past w =
    (i n r : ℕ) → i < length w.initiators → wild i ≡ false → (x : WasPointed past i n) → is_cut past i n ≡ false → (o : HasOpening start past w i n x.serial) → IsBell past i o.place r → IsSentSince past r x.serial → 0 < (terms past).news r → HasGot past r

-- ---- in a turn
since_step : (wild : ℕ → Bool) (units ready : ℕ) (start : List Disk) (past : List Moment) (s : Scene) (later : List Moment) (t : Scene) → Step wild units ready start Grounds (Opened start) past s later t → Step wild units ready start Grounds (Since start) past s later t
since_step wild units ready start past s later t step = record {
  turn = step.turn;
  lines = step.lines;
  more = step.more;
  stands = step.stands;
  reaches = step.reaches;
  known = step.known;
  known_then = step.known_then;
  so_far = λ i own. (step.so_far i own).since;
  so_far_then = λ i own. (step.so_far_then i own).since;
  count = step.count;
  units_are = step.units_are;
}

module _ (wild : ℕ → Bool) (units ready : ℕ) (has : 0 < units) (start : List Disk) (past : List Moment) (s : Scene) (later : List Moment) (t : Scene) (given : Step wild units ready start Grounds (Opened start) past s later t) where
  abbrev w : WorldState
  w = s.world

  abbrev v : WorldState
  v = t.world

  abbrev before : List Moment
  before = hist past w

  abbrev now : List Moment
  now = hist later v

  step : Step wild units ready start Grounds (Kit nothing) past s later t
  step = kit_step wild units ready start past s later t (since_step wild units ready start past s later t given)

  stands : Stands past w
  stands = given.stands.reached.holds.sound.stands

  on : Grown before now
  on = grown before now (turn_next past s later t given.turn)

  counts : SerialsCount (on.new ++ before)
  counts = subst SerialsCount (sym on.is) given.reaches.site.serials

  module _ (i n r : ℕ) (within : i < length t.world.initiators) (own : wild i ≡ false) (x : WasPointed (hist later t.world) i n) (uncut : is_cut (hist later t.world) i n ≡ false) (o : HasOpening start (hist later t.world) t.world i n x.serial) (b : IsBell (hist later t.world) i o.place r) (since : IsSentSince (hist later t.world) r x.serial) (taken : 0 < (terms (hist later t.world)).news r) where
    -- it was sent before the turn
    too_young : (terms before).count < r → {A : Type 0} → A
    too_young l = let none = next_fresh r before now (counts_at w stands) l (turn_next past s later t given.turn) in absurd (omega (arith, none, taken))

    old : r ≤ (terms before).count
    old = by (nat_lt (terms before).count r) refl
      where
        by : (young : Bool) → nat_lt (terms before).count r ≡ young → r ≤ (terms before).count
        by true e = too_young (grind (arith, nat_tests, e))
        by false e = let z : r ≤ (terms before).count = grind (arith, nat_tests, e) in z

    sent_then : (terms before).sent r ≡ Some b.packet
    sent_then = sym ((remains on.new before counts).sent r old) ∙ (ap (λ ms. (terms ms).sent r) on.is ∙ b.sent)

    since_then : IsSentSince before r x.serial
    since_then = by (got_where x.serial since.earlier before now (turn_next past s later t given.turn) since.later since.is)
      where
        by : WhereGot before x.serial since.earlier → IsSentSince before r x.serial
        by (got_before front f) = record { later = front; earlier = since.earlier; is = f; packet = since.packet; sent = since.sent; less = since.less }
        by (got_here e) = too_young (subst (λ ms. (terms ms).count < r) e since.less)
        by (got_in_line line event e) =
            let l = subst (λ ms. (terms ms).count < r) e since.less in
            let c = (opened_same event (terms before)).count in
            too_young (omega (arith, l, c))

    -- ---- the agent had its list then
    known : 0 < (terms before).news x.serial
    known = got_news x.serial since_then.later since_then.earlier before since_then.packet since_then.is since_then.sent

    abbrev pointed : WasPointed before i n
    pointed = was_pointed nothing wild units ready has start (Kit nothing) (λ past w k. k.up) past s later t step (all_take nothing wild units ready has start past s later t step) i n own x known

    its : pointed.serial ≡ x.serial
    its = its_serial nothing wild units ready has start (Kit nothing) (λ past w k. k.up) past s later t step (all_take nothing wild units ready has start past s later t step) i n own x known

    uncut_before : is_cut before i n ≡ false
    uncut_before = uncut_then nothing wild units ready has start (Kit nothing) (λ past w k. k.up) past s later t step (all_take nothing wild units ready has start past s later t step) i n uncut

    inside : i < length w.initiators
    inside = subst (λ c. i < c) given.count within

    opening : HasOpening start before w i n pointed.serial
    opening = (given.so_far i own).openings i n inside (given.stands.reached.calm i own) pointed uncut_before

    abbrev with_it : IsUpWith before w i n
    with_it = record { place = opening.place; small = opening.small; up = opening.up; list = opening.list; latest = opening.latest }

    owns : Owns w v
    owns = walk_owns units ready has start s given.stands.reached.holds given.stands.reached.site.held later t given.turn

    turns : TurnFrom wild past w later v
    turns = turn_from wild units ready has start Grounds (Kit nothing) past s later t step step.known.numbers

    up_now : IsUp v i opening.place
    up_now = stays.up_now wild past w later v turns owns (given.so_far_then i own).since.kit.up i n (given.reaches.calm i own) uncut with_it

    same : o.place ≡ opening.place
    same = (given.so_far_then i own).apart i opening.place o.place (given.reaches.calm i own) opening.small o.small up_now o.up

    at : b.access.offset ≡ agent_base opening.place + 0x10
    at = b.at ∙ ap (λ place. agent_base place + 0x10) same

    bell_then : IsBell before i opening.place r
    bell_then = record { packet = b.packet; sent = sent_then; from_is = b.from_is; to_is = b.to_is; honest = b.honest; access = b.access; spelled = b.spelled; write = b.write; quad = b.quad; at = at }

    -- ---- it was got before
    still_got : HasGot before r → HasGot now r
    still_got g = record { later = on.new ++ g.later; earlier = g.earlier; is = moments_joined on.new g.later (said (notes.Got r) ∷ g.earlier) ∙ (ap (λ ms. on.new ++ ms) g.is ∙ on.is) }

    -- ---- or in the turn
    is_sent : (sent : Sent) → found_sent r w.store.kept ≡ Some sent → b.packet ≡ as_sending sent
    is_sent sent found = same_Some b.packet (as_sending sent) (sym sent_then ∙ was_sent w stands r sent found)

    to_target : (sent : Sent) → found_sent r w.store.kept ≡ Some sent → sent.to ≡ 0
    to_target sent found = ap (λ (q : Sending). q.to) (sym (is_sent sent found)) ∙ b.to_is

    gets : TurnGets past w later v r
    gets = turn_gets past s later t given.turn (seated_of wild units ready has start past step.lines w step.stands) r to_target

    module _ (unjudged : (terms before).news r ≡ 0) (g : GotFrom past w later v r) where
      abbrev sent : Sent
      sent = g.got.sent

      found : found_sent r w.store.kept ≡ Some sent
      found = ap (λ st. found_sent r st.kept) (sym g.store) ∙ g.got.found

      sending : b.packet ≡ as_sending sent
      sending = is_sent sent found

      rises : (terms (said (judged_note r (received g.got.run sent.generation sent.bytes (whole_of w.target g.got.media)).0) ∷ hist later g.w)).news r ≡ (terms (hist later g.w)).news r → ⊥
      rises e =
          let same : (terms now).news r ≡ (terms before).news r =
          g.got.news
          ∙ (ap (λ (node : NodeState). (terms (said (judged_note r (received g.got.run sent.generation sent.bytes (whole_of node g.got.media)).0) ∷ hist later g.w)).news r) g.target
          ∙ (e ∙ g.news_are)) in
          absurd (omega (arith, same, taken, unjudged))

      from_is : sent.from ≡ suc (initiator_in w opening.place)
      from_is = ap (λ (q : Sending). q.from) (sym sending) ∙ (b.from_is ∙ ap (λ j. suc j) (sym opening.up.own))

      judged : (received g.got.run sent.generation sent.bytes (whole_of w.target g.got.media)).0 ≡ judgements.Got
      judged =
          bell_judged w stands r sent found g.got.to_is (ap (λ (q : Sending). q.injected) (sym sending) ∙ b.honest) b.access (ap (λ (q : Sending). access_in_bytes q.bytes) (sym sending) ∙ b.spelled) b.write b.quad opening.place opening.small at
          (not_so (is_reset (state_in (machine_at w opening.place).phase)) opening.up.up) from_is (given.so_far i own).free g.got.run g.got.media (hist later g.w) rises

      got_now : HasGot now r
      got_now = record { later = g.got.more; earlier = hist later g.w; is = turn_got past w later v r g judged }

    pub taken_got : AreTakenGot start wild before w → HasGot now r
    taken_got a = by (nat_lt 0 ((terms before).news r)) refl
      where
        in_turn : (terms before).news r ≡ 0 → TurnGets past w later v r → HasGot now r
        in_turn unjudged (inl e) = absurd (omega (arith, e, taken, unjudged))
        in_turn unjudged (inr g) = got_now unjudged g

        by : (judged : Bool) → nat_lt 0 ((terms before).news r) ≡ judged → HasGot now r
        by false e = in_turn (let z : (terms before).news r ≡ 0 = grind (arith, nat_tests, e) in z) gets
        by true e = still_got (a i n r inside own pointed uncut_before opening bell_then (subst (λ k. IsSentSince before r k) (sym its) since_then) (let z : 0 < (terms before).news r = grind (arith, nat_tests, e) in z))

  pub turn_takes : AreTakenGot start wild before w → AreTakenGot start wild now v
  turn_takes a i n r within own x uncut o b since taken = taken_got i n r within own x uncut o b since taken a

-- no packet was taken as a run begins
pub first_takes : (wild : ℕ → Bool) (line : ℕ) (run : Run) → AreTakenGot run.start.disks wild (moments_behind line run []) (beginning run).world
first_takes wild line run i n r b own x uncut o bell since taken = absurd (omega (arith, taken))
