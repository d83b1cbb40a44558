-- Requests of a turn have labels of their own.
use Rattle.sbp_world.proofs.Words.Std.{◌≡◌, ◌∙◌, ◌⊎◌, refl, sym, ap, subst, inl, inr, ℕ, ◌+◌, ◌<◌, Bool, true, false, cond, List, [], ◌∷◌, ◌++◌, Option, Some, None, Result, Ok, Err}
use Rattle.sbp_world.proofs.Words.Wire.{LabelParts, AreAsks, IsAnswering, IsAsking, IsDelivery, IsExpiry, layer_after, request_to, requests_of, with_asked, Reply, Packet, Asked, ReplyKind, Stale, Body, AreTold, IsTold, Life, and_before, began, closed, disowned, ended, expired, for_nobody, forgotten, lived, not_begun, over, told_by_asking, under_way, unknown, was_stale, Finding, Layer, answering_step, asking_step, expiring_step, judging_step, of_again, of_generation, of_grammar, of_label, of_request, of_response, unlabelled, kind_of, StoredSent, found_sent, Moment, Judged, Outgoing}
use Rattle.sbp_world.proofs.Words.Target.{Disk, Held, Told, Purpose, Sent, alone, lets_expire, desk_at, received}
use Rattle.sbp_world.proofs.Words.World.{whole_of, BytesTold, WorldState, Has, Request, with_requests, AreNew, LabelsAreNew}
use Rattle.label_table.specs.History as wire
use Rattle.label_table.specs.History.{is_same}
use Rattle.label_table.proofs.Calls.{told_law}
use Rattle.sbp_world.proofs.FitTarget.Law.{fitting_law}
use Rattle.sbp_world.proofs.Wire.Holding.{KnownTo, known_small, target_has}
use Rattle.sbp_target.proofs.Histories.Calling.{Good}
use Rattle.sbp_target.proofs.Histories.Primitives.{Known, asks_known}
use Rattle.sbp_target.proofs.Histories.Seats.{same_is, same_self}
use Rattle.sbp_world.proofs.Agents.Management.Holding.{Holding, ours}
use Rattle.sbp_world.proofs.Agents.Leaving.{good, led_to, source_known}
use Rattle.sbp_world.proofs.Agents.Serials.{number_after, requests_more}

-- ---- a transaction that began has begun from then on
abbrev pub Started : Life Purpose → Type 0
Started not_begun = ⊥
Started _ = Unit {0}

ended_started : (life : Life Purpose) → Started life → Started (ended life)
ended_started not_begun s = absurd s
ended_started (under_way kind purpose) s = tt
ended_started over s = tt

nobody_started : (life : Life Purpose) → Started life → Started (for_nobody life)
nobody_started not_begun s = absurd s
nobody_started (under_way kind purpose) s = tt
nobody_started over s = tt

either : (b : Bool) (x y : Life Purpose) → Started x → Started y → Started (cond b x y)
either true x y s r = s
either false x y s r = r

lived_started : (note : wire.Told Purpose) (peer : ℕ) (label : LabelParts) (life : Life Purpose) → Started life → Started (lived note peer label life)
lived_started (began p l kind purpose) peer label life s = either (is_same p l peer label) (under_way kind (Some purpose)) life tt s
lived_started (closed p l kind purpose) peer label life s = either (is_same p l peer label) (ended life) life (ended_started life s) s
lived_started (expired p l purpose) peer label life s = either (is_same p l peer label) (ended life) life (ended_started life s) s
lived_started (disowned p l) peer label life s = either (is_same p l peer label) (for_nobody life) life (nobody_started life s) s
lived_started (was_stale p l) peer label life s = s
lived_started (unknown p number kind) peer label life s = s
lived_started forgotten peer label life s = ended_started life s

noted_started : (note : Option (wire.Told Purpose)) (notes : List (wire.Told Purpose)) (peer : ℕ) (label : LabelParts) → Started (wire.life peer label notes) → Started (wire.life peer label (and_before note notes))
noted_started None notes peer label s = s
noted_started (Some note) notes peer label s = lived_started note peer label (wire.life peer label notes) s

abbrev pub lives_of : List (wire.Call Purpose) → ℕ → LabelParts → Life Purpose
lives_of calls peer label = wire.life peer label (wire.history 0xffc0 calls)

pub one_started : (call : wire.Call Purpose) (calls : List (wire.Call Purpose)) (peer : ℕ) (label : LabelParts) → Started (lives_of calls peer label) → Started (lives_of (call ∷ calls) peer label)
one_started call calls peer label s = noted_started (wire.told call (wire.after 0xffc0 calls)) (wire.history 0xffc0 calls) peer label s

pub steps_started : (steps made : List (wire.Call Purpose)) (peer : ℕ) (label : LabelParts) → Started (lives_of made peer label) → Started (lives_of (steps ++ made) peer label)
steps_started [] made peer label s = s
steps_started (step ∷ steps) made peer label s = one_started step (steps ++ made) peer label (steps_started steps made peer label s)

-- ---- and is under way only where it was before
ended_waits : (life : Life Purpose) → wire.IsUnderWay (ended life) → wire.IsUnderWay life
ended_waits not_begun u = u
ended_waits (under_way kind purpose) u = tt
ended_waits over u = u

nobody_waits : (life : Life Purpose) → wire.IsUnderWay (for_nobody life) → wire.IsUnderWay life
nobody_waits not_begun u = u
nobody_waits (under_way kind purpose) u = tt
nobody_waits over u = u

either_waits : (b : Bool) (x y : Life Purpose) → (b ≡ true → wire.IsUnderWay x → wire.IsUnderWay y) → wire.IsUnderWay (cond b x y) → wire.IsUnderWay y
either_waits true x y f u = f refl u
either_waits false x y f u = u

-- one that begins did not begin before
clashes : (notes : List (wire.Told Purpose)) (p : ℕ) (l : LabelParts) (peer : ℕ) (label : LabelParts) → wire.life p l notes ≡ not_begun → Started (wire.life peer label notes) → is_same p l peer label ≡ true → ⊥
clashes notes p l peer label fresh s e =
    let same = same_is p l peer label e in
    let none : wire.life peer label notes ≡ not_begun = ap (λ q. wire.life q label notes) (sym same.peer) ∙ ap (λ (m : LabelParts). wire.life p m notes) (sym same.label) ∙ fresh in
    subst Started none s

lived_waited : (note : wire.Told Purpose) (notes : List (wire.Told Purpose)) → IsTold note notes → (peer : ℕ) (label : LabelParts) → Started (wire.life peer label notes) → wire.IsUnderWay (lived note peer label (wire.life peer label notes)) → wire.IsUnderWay (wire.life peer label notes)
lived_waited (began p l kind purpose) notes t peer label s u =
    either_waits (is_same p l peer label) (under_way kind (Some purpose)) (wire.life peer label notes) (λ e x. absurd (clashes notes p l peer label t.0 s e)) u
lived_waited (closed p l kind purpose) notes t peer label s u =
    either_waits (is_same p l peer label) (ended (wire.life peer label notes)) (wire.life peer label notes) (λ e x. ended_waits (wire.life peer label notes) x) u
lived_waited (expired p l purpose) notes t peer label s u =
    either_waits (is_same p l peer label) (ended (wire.life peer label notes)) (wire.life peer label notes) (λ e x. ended_waits (wire.life peer label notes) x) u
lived_waited (disowned p l) notes t peer label s u =
    either_waits (is_same p l peer label) (for_nobody (wire.life peer label notes)) (wire.life peer label notes) (λ e x. nobody_waits (wire.life peer label notes) x) u
lived_waited (was_stale p l) notes t peer label s u = u
lived_waited (unknown p number kind) notes t peer label s u = u
lived_waited forgotten notes t peer label s u = ended_waits (wire.life peer label notes) u

noted_waited : (note : Option (wire.Told Purpose)) (notes : List (wire.Told Purpose)) → AreTold (and_before note notes) → (peer : ℕ) (label : LabelParts) → Started (wire.life peer label notes) → wire.IsUnderWay (wire.life peer label (and_before note notes)) → wire.IsUnderWay (wire.life peer label notes)
noted_waited None notes t peer label s u = u
noted_waited (Some note) notes t peer label s u = lived_waited note notes t.0 peer label s u

pub one_waited : (call : wire.Call Purpose) (calls : List (wire.Call Purpose)) (peer : ℕ) (label : LabelParts) → Started (lives_of calls peer label) → wire.IsUnderWay (lives_of (call ∷ calls) peer label) → wire.IsUnderWay (lives_of calls peer label)
one_waited call calls peer label s u =
    noted_waited (wire.told call (wire.after 0xffc0 calls)) (wire.history 0xffc0 calls) (told_law Purpose 0xffc0 (call ∷ calls)) peer label s u

steps_waited : (steps made : List (wire.Call Purpose)) (peer : ℕ) (label : LabelParts) → Started (lives_of made peer label) → wire.IsUnderWay (lives_of (steps ++ made) peer label) → wire.IsUnderWay (lives_of made peer label)
steps_waited [] made peer label s u = u
steps_waited (step ∷ steps) made peer label s u =
    steps_waited steps made peer label s (one_waited step (steps ++ made) peer label (steps_started steps made peer label s) u)

-- ---- packets that a layer gave, from these calls of it on
pub record Apart (made : List (wire.Call Purpose)) (now : Layer Purpose) (packets : List Outgoing) : Type 0 where
  pub all : List (wire.Call Purpose)
  pub leads : wire.after 0xffc0 all ≡ now
  pub longer : (peer : ℕ) (label : LabelParts) → Started (lives_of made peer label) → Started (lives_of all peer label)
  pub waited : (peer : ℕ) (label : LabelParts) → Started (lives_of made peer label) → wire.IsUnderWay (lives_of all peer label) → wire.IsUnderWay (lives_of made peer label)
  pub started : (last : ℕ) (r : Request) → Has (with_requests last packets []) r → Started (lives_of all r.to r.label)
  pub fresh : (last : ℕ) (r : Request) → Has (with_requests last packets []) r → Started (lives_of made r.to r.label) → ⊥
  pub unique : (last : ℕ) (one two : Request) → Has (with_requests last packets []) one → Has (with_requests last packets []) two → one.to ≡ two.to → one.label ≡ two.label → one.serial ≡ two.serial

none_apart : (made : List (wire.Call Purpose)) (now : Layer Purpose) (packets : List Outgoing) → wire.after 0xffc0 made ≡ now → packets ≡ [] → Apart made now packets
none_apart made now packets e none =
    subst (λ (ps : List Outgoing). Apart made now ps) (sym none)
    (record { all = made; leads = e; longer = λ p l s. s; waited = λ p l s u. u; started = λ last r h. absurd h; fresh = λ last r h s. h; unique = λ last one two h k f g. absurd h })

-- ---- asks, from a layer that steps led to
module _ (known : ℕ → Type 0) (before : Layer Purpose) (made : List (wire.Call Purpose)) (made_is : wire.after 0xffc0 made ≡ before) where
  record Numbered (steps : List (wire.Call Purpose)) (packets : List Outgoing) : Type 0 where
    started : (last : ℕ) (r : Request) → Has (with_requests last packets []) r → Started (lives_of (steps ++ made) r.to r.label)
    fresh : (last : ℕ) (r : Request) → Has (with_requests last packets []) r → Started (lives_of made r.to r.label) → ⊥
    unique : (last : ℕ) (one two : Request) → Has (with_requests last packets []) one → Has (with_requests last packets []) two → one.to ≡ two.to → one.label ≡ two.label → one.serial ≡ two.serial

  later : (step : wire.Call Purpose) (steps : List (wire.Call Purpose)) (packets : List Outgoing) → Numbered steps packets → Numbered (step ∷ steps) packets
  later step steps packets n = record { started = λ last r h. one_started step (steps ++ made) r.to r.label (n.started last r h); fresh = n.fresh; unique = n.unique }

  asked_new : (steps : List (wire.Call Purpose)) (peer : ℕ) (body : Body) (purpose : Purpose) (packets : List Outgoing) → Numbered steps packets → (r : Option Asked) → (asking_step (layer_after before steps) peer body purpose).0 ≡ r → Numbered (wire.asks peer body purpose ∷ steps) (with_asked peer r packets)
  asked_new steps peer body purpose packets n None e = later (wire.asks peer body purpose) steps packets n
  asked_new steps peer body purpose packets n (Some asked) e =
      let layer = layer_after before steps in
      let calls = steps ++ made in
      let step : wire.Call Purpose = wire.asks peer body purpose in
      let kind = kind_of (unlabelled layer peer body) in
      let now = packets ++ request_to peer asked ∷ [] in
      let whole : asking_step layer peer body purpose ≡ (Some asked, (asking_step layer peer body purpose).1) = ap (λ o. (o, (asking_step layer peer body purpose).1)) e in
      let known_now : Known layer (lives_of calls) = record { steps = calls; layer_is = led_to before made made_is steps; lives_are = λ p l. refl } in
      let begun = asks_known layer (asking_step layer peer body purpose).1 (lives_of calls) peer body purpose asked known_now whole in
      let told : wire.told step (wire.after 0xffc0 calls) ≡ Some (began peer asked.label kind purpose) =
      ap (λ (l : Layer Purpose). wire.told step l) (led_to before made made_is steps) ∙ ap (λ o. told_by_asking peer kind purpose o) e in
      let life : lives_of (step ∷ calls) peer asked.label ≡ under_way kind (Some purpose) =
      ap (λ o. wire.life peer asked.label (and_before o (wire.history 0xffc0 calls))) told
      ∙ ap (λ (b : Bool). cond b (under_way kind (Some purpose)) (lives_of calls peer asked.label)) (same_self peer asked.label) in
      let not_yet : Started (lives_of calls peer asked.label) → ⊥ = λ s. subst Started begun.fresh s in
      let new : ℕ → Request = λ last. record { to = peer; label = asked.label; serial = number_after last packets } in
      let is : (last : ℕ) → with_requests last now [] ≡ new last ∷ with_requests last packets [] = λ last. requests_more last packets (request_to peer asked) [] in
      let split : (last : ℕ) (r : Request) → Has (with_requests last now []) r → (new last ≡ r) ⊎ Has (with_requests last packets []) r = λ last r h. subst (λ (rs : List Request). Has rs r) (is last) h in
      record {
        started = λ last r h. started_by last r (new last) refl refl life (split last r h);
        fresh = λ last r h s. fresh_by last r (new last) refl refl not_yet (split last r h) s;
        unique = λ last one two h k e f. unique_by last one two (new last) refl refl not_yet (split last one h) (split last two k) e f;
      }
    where
      started_by : (last : ℕ) (r new : Request) → new.to ≡ peer → new.label ≡ asked.label → {k : ReplyKind} → lives_of (wire.asks peer body purpose ∷ (steps ++ made)) peer asked.label ≡ under_way k (Some purpose) → (new ≡ r) ⊎ Has (with_requests last packets []) r → Started (lives_of (wire.asks peer body purpose ∷ (steps ++ made)) r.to r.label)
      started_by last r new a b life (inl same) =
          subst (λ (x : Request). Started (lives_of (wire.asks peer body purpose ∷ (steps ++ made)) x.to x.label)) same
          (subst (λ p. Started (lives_of (wire.asks peer body purpose ∷ (steps ++ made)) p new.label)) (sym a)
          (subst (λ (l : LabelParts). Started (lives_of (wire.asks peer body purpose ∷ (steps ++ made)) peer l)) (sym b) (subst Started (sym life) tt)))
      started_by last r new a b life (inr h) = one_started (wire.asks peer body purpose) (steps ++ made) r.to r.label (n.started last r h)

      fresh_by : (last : ℕ) (r new : Request) → new.to ≡ peer → new.label ≡ asked.label → (Started (lives_of (steps ++ made) peer asked.label) → ⊥) → (new ≡ r) ⊎ Has (with_requests last packets []) r → Started (lives_of made r.to r.label) → ⊥
      fresh_by last r new a b not_yet (inl same) s =
          not_yet (steps_started steps made peer asked.label
          (subst (λ (l : LabelParts). Started (lives_of made peer l)) b (subst (λ p. Started (lives_of made p new.label)) a (subst (λ (x : Request). Started (lives_of made x.to x.label)) (sym same) s))))
      fresh_by last r new a b not_yet (inr h) s = n.fresh last r h s

      clash : (last : ℕ) (one two new : Request) → new.to ≡ peer → new.label ≡ asked.label → (Started (lives_of (steps ++ made) peer asked.label) → ⊥) → new ≡ one → Has (with_requests last packets []) two → one.to ≡ two.to → one.label ≡ two.label → ⊥
      clash last one two new a b not_yet same h e f =
          let to_is : two.to ≡ peer = sym e ∙ ap (λ (x : Request). x.to) (sym same) ∙ a in
          let label_is : two.label ≡ asked.label = sym f ∙ ap (λ (x : Request). x.label) (sym same) ∙ b in
          not_yet (subst (λ (l : LabelParts). Started (lives_of (steps ++ made) peer l)) label_is (subst (λ p. Started (lives_of (steps ++ made) p two.label)) to_is (n.started last two h)))

      unique_by : (last : ℕ) (one two new : Request) → new.to ≡ peer → new.label ≡ asked.label → (Started (lives_of (steps ++ made) peer asked.label) → ⊥) → (new ≡ one) ⊎ Has (with_requests last packets []) one → (new ≡ two) ⊎ Has (with_requests last packets []) two → one.to ≡ two.to → one.label ≡ two.label → one.serial ≡ two.serial
      unique_by last one two new a b not_yet (inl x) (inl y) e f = ap (λ (z : Request). z.serial) (sym x ∙ y)
      unique_by last one two new a b not_yet (inl x) (inr k) e f = absurd (clash last one two new a b not_yet x k e f)
      unique_by last one two new a b not_yet (inr h) (inl y) e f = absurd (clash last two one new a b not_yet y h (sym e) (sym f))
      unique_by last one two new a b not_yet (inr h) (inr k) e f = n.unique last one two h k e f

  asks_new : (steps : List (wire.Call Purpose)) → AreAsks known before steps → Numbered steps (requests_of before steps)
  asks_new [] m = record { started = λ last r h. absurd h; fresh = λ last r h s. h; unique = λ last one two h k e f. absurd h }
  asks_new (wire.asks peer body purpose ∷ steps) m = asked_new steps peer body purpose (requests_of before steps) (asks_new steps m.1) (asking_step (layer_after before steps) peer body purpose).0 refl
  asks_new (wire.disowns peer label ∷ steps) m = later (wire.disowns peer label) steps (requests_of before steps) (asks_new steps m.1)
  asks_new (wire.judges generation bytes ∷ steps) m = absurd m
  asks_new (wire.answers p bytes rcode given ∷ steps) m = absurd m
  asks_new (wire.lets_expire peer label ∷ steps) m = absurd m
  asks_new (wire.sees generation node ∷ steps) m = absurd m

  asking_apart : (now : Layer Purpose) (packets : List Outgoing) → IsAsking known before now packets → Apart made now packets
  asking_apart now packets a =
      let n = asks_new a.steps a.may in
      subst (λ (ps : List Outgoing). Apart made now ps) a.packets_are (record {
        all = a.steps ++ made;
        leads = led_to before made made_is a.steps ∙ a.layer_is;
        longer = λ p l s. steps_started a.steps made p l s;
        waited = λ p l s u. steps_waited a.steps made p l s u;
        started = n.started;
        fresh = n.fresh;
        unique = n.unique;
      })

answering_apart : (known : ℕ → Type 0) (reply : Reply) (p : Packet) (bytes : List ℕ) (before now : Layer Purpose) (packets : List Outgoing) (made : List (wire.Call Purpose)) → wire.after 0xffc0 made ≡ before → IsAnswering known reply p bytes before now packets → Apart made now packets
answering_apart known reply p bytes before now packets made e a =
    let middle = layer_after before a.left in
    let step : wire.Call Purpose = wire.answers p bytes a.rcode a.given in
    let steps = a.left ++ made in
    let more = asking_apart known (answering_step middle p bytes a.rcode a.given).1 (step ∷ steps) (ap (wire.done step) (led_to before made e a.left)) now a.more a.asks in
    let begun : (peer : ℕ) (label : LabelParts) → Started (lives_of made peer label) → Started (lives_of (step ∷ steps) peer label) = λ peer label s. one_started step steps peer label (steps_started a.left made peer label s) in
    subst (λ (ps : List Outgoing). Apart made now ps) a.packets_are (record {
      all = more.all;
      leads = more.leads;
      longer = λ peer label s. more.longer peer label (begun peer label s);
      waited = λ peer label s u.
          steps_waited a.left made peer label s (one_waited step steps peer label (steps_started a.left made peer label s) (more.waited peer label (begun peer label s) u));
      started = λ last r h. more.started (last + 1) r h;
      fresh = λ last r h s. more.fresh (last + 1) r h (begun r.to r.label s);
      unique = λ last one two h k f g. more.unique (last + 1) one two h k f g;
    })

-- ---- a delivery and a time-out, from calls that led to the layer
module _ (known : ℕ → Type 0) (layer : Layer Purpose) (calls : List (wire.Call Purpose)) (calls_are : wire.after 0xffc0 calls ≡ layer) where
  pub delivery_apart : (generation : ℕ) (bytes : List ℕ) (f : Finding Purpose) (verdict : Judged) (now : Layer Purpose) (packets : List Outgoing) → IsDelivery known f verdict bytes (judging_step layer generation bytes).1 now packets → Apart (wire.judges generation bytes ∷ calls) now packets
  delivery_apart generation bytes f verdict now packets = by f
    where
      call : wire.Call Purpose
      call = wire.judges generation bytes

      before : Layer Purpose
      before = (judging_step layer generation bytes).1

      led : wire.after 0xffc0 (call ∷ calls) ≡ before
      led = ap (wire.done call) calls_are

      by : (f : Finding Purpose) → IsDelivery known f verdict bytes before now packets → Apart (call ∷ calls) now packets
      by of_generation d = none_apart (call ∷ calls) now packets (led ∙ sym d.layer_is) d.packets_are
      by of_grammar d = none_apart (call ∷ calls) now packets (led ∙ sym d.layer_is) d.packets_are
      by of_label d = none_apart (call ∷ calls) now packets (led ∙ sym d.layer_is) d.packets_are
      by (of_response p label purpose) d = asking_apart known before (call ∷ calls) led now packets d.asks
      by (of_again p rcode) d = answering_apart known _ p bytes before now packets (call ∷ calls) led d.answers
      by (of_request p) d = answering_apart known _ p bytes before now packets (call ∷ calls) led d.answers

  pub expiry_apart : (peer : ℕ) (label : LabelParts) (r : Result (Option Purpose) Stale) (now : Layer Purpose) (packets : List Outgoing) → IsExpiry known r (expiring_step layer peer label).1 now packets → Apart (wire.lets_expire peer label ∷ calls) now packets
  expiry_apart peer label r now packets = by r
    where
      call : wire.Call Purpose
      call = wire.lets_expire peer label

      led : wire.after 0xffc0 (call ∷ calls) ≡ (expiring_step layer peer label).1
      led = ap (wire.done call) calls_are

      by : (r : Result (Option Purpose) Stale) → IsExpiry known r (expiring_step layer peer label).1 now packets → Apart (call ∷ calls) now packets
      by (Ok purpose) a = asking_apart known (expiring_step layer peer label).1 (call ∷ calls) led now packets a
      by (Err stale) a = none_apart (call ∷ calls) now packets (led ∙ sym a.0) a.1

-- ---- in a run
module _ (units ready : ℕ) (has : 0 < units) (start : List Disk) {past : List Moment} {lines : ℕ} (w : WorldState) (h : Holding units ready start past lines w) where
  abbrev G : Good w.target
  G = good units ready has start w h

  abbrev layer : Layer Purpose
  layer = w.target.layer

  abbrev K : ℕ → Type 0
  K = KnownTo w.generations.seen

  kept_started : (place : ℕ) → place < 8 → (sent : Sent) → ((desk_at w.target place).main ≡ Some sent) ⊎ ((desk_at w.target place).ahead ≡ Some sent) → Started (lives_of G.mid.known.steps sent.peer sent.label)
  kept_started place b sent (inl e) = let f = ((G.mid.seats place b).main_for sent e).0 in subst Started (sym f.life ∙ G.mid.known.lives_are sent.peer sent.label) tt
  kept_started place b sent (inr e) = let f = ((G.mid.seats place b).ahead_for sent e).0 in subst Started (sym f.life ∙ G.mid.known.lives_are sent.peer sent.label) tt

  -- behind one call of the layer
  apart_new : (call : wire.Call Purpose) (now : Layer Purpose) (packets : List Outgoing) → Apart (call ∷ G.mid.known.steps) now packets → AreNew w.target packets
  apart_new call now packets a = record {
    unique = a.unique;
    fresh = λ last r m place b sent kept to_is label_is.
        a.fresh last r m (subst (λ (l : LabelParts). Started (lives_of (call ∷ G.mid.known.steps) r.to l)) label_is
        (subst (λ p. Started (lives_of (call ∷ G.mid.known.steps) p sent.label)) to_is (one_started call G.mid.known.steps sent.peer sent.label (kept_started place b sent kept))));
  }

  delivery_new : (serial : ℕ) (sent : StoredSent) (found : found_sent serial w.store.kept ≡ Some sent) (told : Option Told) (media : Held) → BytesTold told → AreNew w.target (received told sent.generation sent.bytes (whole_of w.target media)).1.outbox.packets
  delivery_new serial sent found told media t =
      let d = (fitting_law (target_has w.generations.seen) (target_has w.generations.seen)).deliveries told media.disks sent.generation sent.bytes w.target (known_small w.generations.seen) h.sound.nodes.target_holds
      (record { bytes_fit = (ours w h.sound.stands serial sent found).bytes; source = source_known units ready has start w h serial sent found; told_fits = t }) in
      let r = received told sent.generation sent.bytes (whole_of w.target media) in
      apart_new (wire.judges sent.generation sent.bytes) r.1.node.layer r.1.outbox.packets
      (delivery_apart K layer G.mid.known.steps G.mid.known.layer_is sent.generation sent.bytes (judging_step layer sent.generation sent.bytes).0 r.0 r.1.node.layer r.1.outbox.packets d.delivers)

  lapse_new : (peer : ℕ) (label : LabelParts) → AreNew w.target (alone (lets_expire peer label) w.target).outbox.packets
  lapse_new peer label =
      let e = (fitting_law (target_has w.generations.seen) (target_has w.generations.seen)).expiries peer label w.target (known_small w.generations.seen) h.sound.nodes.target_holds in
      let x = alone (lets_expire peer label) w.target in
      apart_new (wire.lets_expire peer label) x.node.layer x.outbox.packets
      (expiry_apart K layer G.mid.known.steps G.mid.known.layer_is peer label (expiring_step layer peer label).0 x.node.layer x.outbox.packets e.expires)

  pub labels_new : LabelsAreNew w
  labels_new = record {
    deliveries = λ serial sent told media found to t. delivery_new serial sent found told media t;
    expiries = λ serial asked found zero_node. lapse_new asked.peer asked.label;
  }
