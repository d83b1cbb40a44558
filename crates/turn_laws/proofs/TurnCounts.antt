-- How many packets stand behind the response in a turn of an agent: those of its requests, and one for each unsolicited status that is told.
use Rattle.std.proofs.Common.{arith, ◌≡◌, ◌∙◌, refl, sym, ap, subst, ℕ, suc, ◌+◌, is_some, true, List, [], ◌∷◌, ◌++◌, length, Option, Some, None}
use Rattle.login_table.specs.declared.login.Login.{Login}
use Rattle.login_table.specs.Table.{is_live, place_at}
use Rattle.rbc_disk.specs.Disk.{Disk}
use Rattle.sbp_bus.specs.Generations.{GenerationsState, node_of}
use Rattle.sbp_journal.specs.Outgoings.{OutboxState}
use Rattle.sbp_journal.specs.declared.note.Note.{Note}
use Rattle.sbp_journal.specs.declared.note.Note.TheVariants as notes
use Rattle.sbp_journal.specs.declared.outbox.Outgoing.{Outgoing}
use Rattle.sbp_journal.specs.declared.side.Side.{Side}
use Rattle.sbp_journal.specs.declared.side.Side.TheVariants as sides
use Rattle.sbp_laws.specs.SentRequests.{behind_answer}
use Rattle.sbp_laws.specs.Turns.{Turn}
use Rattle.sbp_world.specs.Hosts.Handing.{AreOthers}
use Rattle.sbp_world.specs.Sending.{sent}
use Rattle.sbp_world.specs.Telling.{told, told_all}
use Rattle.sbp_world.specs.Worlds.{WorldState}
use Rattle.sbp_world.proofs.Common.{untrue}
use Rattle.turn_laws.proofs.FollowSends.{AllTo}
use Rattle.turn_laws.proofs.Handed.{handed, notes_sent, notes_told, packet_note}
use Rattle.turn_laws.proofs.PushSends.{ArePushes, pushes_told}
use Rattle.turn_laws.proofs.TurnSends.{SendsAll}
use Rattle.turn_laws.proofs.TurnWrites.{sent_generations}

-- ---- how many unsolicited statuses the notes of a turn tell
abbrev pub pushed_in : List Note → ℕ
pushed_in [] = 0
pushed_in (notes.Unsolicited i ∷ rest) = suc (pushed_in rest)
pushed_in (note ∷ rest) = pushed_in rest

both_pushed : (a b : List Note) → pushed_in (a ++ b) ≡ pushed_in a + pushed_in b
both_pushed [] b = omega arith
both_pushed (notes.Unsolicited i ∷ a) b = let h = both_pushed a b in omega (arith, h)
both_pushed (note ∷ a) b = both_pushed a b

told_pushed : (later : List Side) (w : WorldState) → AreOthers later → pushed_in (notes_told 0 later w) ≡ pushes_told later
told_pushed [] w o = refl
told_pushed (sides.Unsolicited place ∷ later) w o = ap suc (told_pushed later (told 0 (sides.Unsolicited place) w) o.1)
told_pushed (sides.Own note ∷ later) w o = absurd o.0
told_pushed (side ∷ later) w o = told_pushed later (told 0 side w) o.1

packet_pushed : (to : Option ℕ) (packet : Outgoing) (w : WorldState) (rest : List Note) → pushed_in (packet_note to 0 packet w ++ rest) ≡ pushed_in rest
packet_pushed None packet w rest = refl
packet_pushed (Some to) packet w rest = refl

sent_pushed : (packets : List Outgoing) (w : WorldState) → pushed_in (notes_sent 0 packets w) ≡ 0
sent_pushed [] w = refl
sent_pushed (packet ∷ later) w =
    let v = sent 0 packet w in packet_pushed (node_of w.generations 0 packet.to) packet w (notes_sent 0 later v) ∙ sent_pushed later v

handed_pushed : (o : OutboxState) (w : WorldState) → AreOthers o.sides → pushed_in (handed 0 0 o w) ≡ pushes_told o.sides
handed_pushed o w others =
    let v = told_all 0 o.sides w in
    let a = both_pushed (notes_told 0 o.sides w) (notes_sent 0 o.packets v) in
    let b = told_pushed o.sides w others in
    let c = sent_pushed o.packets v in
    omega (arith, a, b, c)

-- ---- packets that go to nodes that are there
abbrev pub AllKnown : GenerationsState → List Outgoing → Type 0
AllKnown g [] = Unit {0}
AllKnown g (packet ∷ later) = (is_some (node_of g 0 packet.to) ≡ true) × AllKnown g later

both_known : (g : GenerationsState) (a b : List Outgoing) → AllKnown g a → AllKnown g b → AllKnown g (a ++ b)
both_known g [] b h k = k
both_known g (packet ∷ a) b h k = (h.0, both_known g a b h.1 k)

own_known : (g : GenerationsState) (peer node : ℕ) → node_of g 0 peer ≡ Some node → (packets : List Outgoing) → AllTo peer packets → AllKnown g packets
own_known g peer node there [] h = tt
own_known g peer node there (packet ∷ later) h = (ap (λ n. is_some (node_of g 0 n)) h.0 ∙ ap (λ o. is_some o) there, own_known g peer node there later h.1)

one_length : (to : Option ℕ) (packet : Outgoing) (w : WorldState) (rest : List Note) → is_some to ≡ true → length (packet_note to 0 packet w ++ rest) ≡ suc (length rest)
one_length None packet w rest e = untrue e
one_length (Some to) packet w rest e = refl

known_length : (g : GenerationsState) (packets : List Outgoing) (w : WorldState) → w.generations ≡ g → AllKnown g packets → length (notes_sent 0 packets w) ≡ length packets
known_length g [] w same h = refl
known_length g (packet ∷ later) w same h =
    let v = sent 0 packet w in
    one_length (node_of w.generations 0 packet.to) packet w (notes_sent 0 later v) (ap (λ (x : GenerationsState). is_some (node_of x 0 packet.to)) same ∙ h.0)
    ∙ ap suc (known_length g later v (sent_generations packet w ∙ same) h.1)

-- the nodes of live logins are there
abbrev pub ArePeers : GenerationsState → List (Option Login) → Type 0
ArePeers g places = (place : ℕ) (login : Login) → place_at places place ≡ Some login → is_live login ≡ true → is_some (node_of g 0 login.node) ≡ true

pushes_known : (g : GenerationsState) (places : List (Option Login)) (unit from : ℕ) → ArePeers g places → (packets : List Outgoing) → ArePushes places unit from packets → AllKnown g packets
pushes_known g places unit from peers [] h = tt
pushes_known g places unit from peers (packet ∷ later) h =
    (ap (λ n. is_some (node_of g 0 n)) h.0.to_is ∙ peers h.0.place h.0.other h.0.there h.0.live, pushes_known g places unit from peers later h.1)

-- ---- of a turn
module _ (start : List Disk) (t : Turn) (g : GenerationsState) (places : List (Option Login)) (peers : ArePeers g places) (peer node : ℕ) (there : node_of g 0 peer ≡ Some node) (out : List Outgoing) (to_it : AllTo peer out) (unit from : ℕ) (o : OutboxState) (w : WorldState) (others : AreOthers o.sides) (rest_is : t.rest ≡ handed 0 0 o w) where
  pub turn_counts : (packets more : List Outgoing) → SendsAll start t g packets → packets ≡ out ++ more → ArePushes places unit from more → length packets ≡ length out + pushes_told o.sides → length (behind_answer start t) ≡ length out + pushed_in t.rest
  turn_counts packets more all is pushes counted =
      ap (λ (ns : List Note). length ns) all.is
      ∙ (known_length g packets all.world all.bus (subst (AllKnown g) (sym is) (both_known g out more (own_known g peer node there out to_it) (pushes_known g places unit from peers more pushes)))
      ∙ (counted ∙ ap (λ n. length out + n) (sym (ap pushed_in rest_is ∙ handed_pushed o w others))))
