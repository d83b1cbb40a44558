-- Where an initiator got a read of a place of management, the history goes on with the response that brings the ORB of that place: behind each delivery.
use Rattle.sbp_world.proofs.Words.Std.{◌≡◌, sym, ◌∙◌, ap, subst, ℕ, ◌<◌, ◌^◌, Bool, List, [], ◌∷◌, ◌++◌, map, Option, Some, None}
use Rattle.sbp_world.proofs.Words.Wire.{Moment, asked, said, Event}
use Rattle.sbp_world.proofs.Words.Target.{Told}
use Rattle.sbp_world.proofs.Words.Initiator.{read_step, InitiatorState}
use Rattle.sbp_world.proofs.Words.Laws.{host_reply, window_gives}
use Rattle.sbp_world.proofs.Words.World.{delivered, history_of, Run, after, beginning, MayAll, begun, initiator_at, IsDelivering, IsReadBy, IsRun, more_deliveries, ArePlaces}
use Rattle.sbp_journal.specs.declared.event.Event.TheVariants as events
use Rattle.sbp_world.proofs.Hosts.AnsweringSends.{Gets}
use Rattle.sbp_world.proofs.Hosts.Between.{between, stands_there, there}
use Rattle.sbp_world.proofs.Hosts.GotServed.{Responds}
use Rattle.sbp_world.proofs.Lists.PlaceReplies.{FewCodes, IsPlaceReplied, is_place_replied}
use Rattle.sbp_world.proofs.Hosts.MemoryReads.{memory_law}
use Rattle.sbp_world.proofs.Hosts.ResponseBytes.{IsBlockRead}
use Rattle.sbp_world.proofs.Hosts.ResponseTells.{rcode_small, read_code}
use Rattle.sbp_world.proofs.Sessions.PlaceRuns.{placed_law}

cancel : (xs a b : List Moment) → xs ++ a ≡ xs ++ b → a ≡ b
cancel [] a b e = e
cancel (x ∷ xs) a b e = cancel xs a b (let z : x ∷ (xs ++ a) ≡ x ∷ (xs ++ b) = e in cc)

module _ (line : ℕ) (run : Run) (q : IsRun run) (next : ℕ) (i : ℕ) (b : i < run.initiators) where
  abbrev own : List (Option Told) → InitiatorState
  own told = initiator_at (there line run q next told).world i

  -- what is known of its memory
  record Knows (event : Event) (told : List (Option Told)) : Type 0 where
    codes : FewCodes (own told)
    places : ArePlaces (between line run q next event told) i (own told)

  few_by : (past : List Moment) (s : InitiatorState) → IsReadBy past i s → FewCodes s
  few_by past s known access out r =
      let same : (host_reply past i access).rcode ≡ (read_step s.lists.memory access.offset out).0 = read_code past i access r.write ∙ sym (known.read_rcode access out r) in
      subst (λ n. n < 2 ^ 4) same (rcode_small past i access)

  more_knows : (most : Option ℕ) (told : List (Option Told)) → MayAll told (begun (after (beginning run) run.entries)) → Knows (more_deliveries most) told
  more_knows most told m = record {
    codes = few_by (between line run q next (more_deliveries most) told) (own told) (memory_law.between line run q next most told m i b);
    places = placed_law.between line run q next most told m i b;
  }

  -- as a line begins
  asked_places : (event : Event) (past : List Moment) (s : InitiatorState) → ArePlaces past i s → ArePlaces (asked next event ∷ past) i s
  asked_places event past s h = record {
    holds = h.holds;
    gives = λ access out place r e z. h.gives access out place r e z ∙ (ap (window_gives past i access) e ∙ sym (ap (window_gives (asked next event ∷ past) i access) e));
  }

  first_knows : (event : Event) → Knows event []
  first_knows event = record {
    codes = few_by (history_of line run) (own []) (memory_law.reads line run q i b);
    places = asked_places event (history_of line run) (own []) (placed_law.after_lines line run q i b);
  }

  knows : (event : Event) (told : List (Option Told)) → IsDelivering event told → MayAll told (begun (after (beginning run) run.entries)) → Knows event told
  knows (events.Step count) told d m = more_knows (Some count) told m
  knows events.Settle told d m = more_knows None told m
  knows (events.Deliver n) told d m = subst (Knows (events.Deliver n)) (sym d) (first_knows (events.Deliver n))
  knows (events.Repeat n) told d m = subst (Knows (events.Repeat n)) (sym d) (first_knows (events.Repeat n))
  knows (events.Begin initiators ready) told d m = absurd d
  knows (events.Act j action) told d m = absurd d
  knows (events.Reset physical) told d m = absurd d
  knows (events.See node) told d m = absurd d
  knows (events.Lose n) told d m = absurd d
  knows (events.Timeout n) told d m = absurd d
  knows events.Tick told d m = absurd d
  knows (events.Inject initiator bytes) told d m = absurd d
  knows (events.Key unit key) told d m = absurd d

  replied_there : (event : Event) (told : List (Option Told)) → IsDelivering event told → MayAll told (begun (after (beginning run) run.entries)) → (serial : ℕ) (again : Bool) (one : Option Told) (g : Gets (there line run q next told).world i serial) → IsBlockRead g.packet g.access.offset g.access.count → IsPlaceReplied (between line run q next event told) i serial g.access (map said (delivered serial again one (there line run q next told)).world.fresh ++ asked next event ∷ history_of line run)
  replied_there event told d m serial again one g block =
      let s = there line run q next told in
      let c = stands_there line run q next event told d m in
      let k = knows event told d m in
      let tail = asked next event ∷ history_of line run in
      let same : c.past ≡ tail = cancel (map said s.world.fresh) c.past tail c.is in
      subst (λ x. IsPlaceReplied (map said s.world.fresh ++ x) i serial g.access (map said (delivered serial again one s).world.fresh ++ x)) same
      (is_place_replied s c.sound i (subst (λ n. i < n) (sym c.size) b) k.codes (subst (λ x. ArePlaces (map said s.world.fresh ++ x) i (own told)) (sym same) k.places) serial again one g block)

pub place_responds : Responds IsPlaceReplied
place_responds line run q next event told d m again one serial i b g block = replied_there line run q next i b event told d m serial again one g block
