-- What an initiator tells and sends in a delivery, in the order of the history.
use Rattle.sbp_world.proofs.Words.Std.{◌≡◌, refl, ap, ◌∙◌, ℕ, ◌+◌, true, false, cond, List, [], ◌∷◌, ◌++◌, map, Some, AllByRecursion}
use Rattle.sbp_world.proofs.Words.Wire.{canon, Packet, header_in, lock, read_block, read_block_response, read_quadlet, read_quadlet_response, lock_response, write_block, write_quadlet, write_response, is_plain, ArePlainSides, response_to, Access, access_of, Moment, said, part_in, Note, Side, node_of, topology_at}
use Rattle.sbp_world.proofs.Words.Laws.{is_answered, is_sent}
use Rattle.sbp_world.proofs.Words.World.{posted, sent, sent_all, sent_to, WorldState, in_order, behind, history}
use Rattle.sbp_journal.specs.declared.note.Note.TheVariants as notes
use Rattle.sbp_journal.specs.declared.side.Side.TheVariants as sides
use Rattle.sbp_laws.specs.Turns.{sends_of}
use Rattle.sbp_world.proofs.Hosts.Answering.{answer, none_is}

-- ---- what is told

-- the notes of an initiator, the latest first
abbrev pub notes_on : List Side → List Note → List Note
notes_on [] ns = ns
notes_on (sides.Own note ∷ later) ns = notes_on later (note ∷ ns)
notes_on (_ ∷ later) ns = notes_on later ns

pub behind_on : (told : List Side) (ns : List Note) (past : List Moment) → behind told (map said ns ++ past) ≡ map said (notes_on told ns) ++ past
behind_on [] ns past = refl
behind_on (sides.Own note ∷ later) ns past = behind_on later (note ∷ ns) past
behind_on (side ∷ later) ns past = behind_on later ns past

plain_none : (note : Note) → is_plain note ≡ true → is_sent note ≡ false
unfolding is_plain
plain_none (notes.Sent serial generation from to bytes) e = absurd (differ e)
  where
    differ : false ≡ true → ⊥
    differ e = cc
plain_none note e = refl

pub none_on : (told : List Side) (ns : List Note) → ArePlainSides told → AllByRecursion (λ note. is_sent note ≡ false) ns → AllByRecursion (λ note. is_sent note ≡ false) (notes_on told ns)
none_on [] ns a n = n
none_on (sides.Own note ∷ later) ns a n = none_on later (note ∷ ns) a.1 (plain_none note a.0, n)
none_on (side ∷ later) ns a n = none_on later ns a.1 n

pub plain_on : (told : List Side) (ns : List Note) → ArePlainSides told → AllByRecursion (λ note. is_plain note ≡ true) ns → AllByRecursion (λ note. is_plain note ≡ true) (notes_on told ns)
plain_on [] ns a n = n
plain_on (sides.Own note ∷ later) ns a n = plain_on later (note ∷ ns) a.1 (a.0, n)
plain_on (side ∷ later) ns a n = plain_on later ns a.1 n

-- behind notes that are no packets the packets are those that follow
pub sends_last : (ns rest : List Note) → AllByRecursion (λ note. is_sent note ≡ false) ns → sends_of (in_order ns rest) ≡ sends_of rest
sends_last [] rest n = refl
sends_last (note ∷ earlier) rest n = sends_last earlier (note ∷ rest) n.1 ∙ ap (λ b. cond b (note ∷ sends_of rest) (sends_of rest)) n.0

-- ---- a request's part

pub asks_part : (p : Packet) (access : Access) → access_of p ≡ Some access → is_answered (part_in p) ≡ true
asks_part (write_quadlet header offset value) access e = refl
asks_part (write_block header offset payload) access e = refl
asks_part (read_quadlet header offset) access e = refl
asks_part (read_block header offset count) access e = refl
asks_part (lock header offset extended payload) access e = refl
asks_part (write_response header rcode) access e = absurd (none_is e)
asks_part (read_quadlet_response header rcode value) access e = absurd (none_is e)
asks_part (read_block_response header rcode payload) access e = absurd (none_is e)
asks_part (lock_response header rcode extended payload) access e = absurd (none_is e)

-- ---- one packet leaves

pub one_sent : (past : List Moment) (x : WorldState) (node to own rcode : ℕ) (p : Packet) (given : List ℕ) → node_of x.generations node (header_in p).source ≡ Some to → history (sent_all node (answer own p rcode given ∷ []) x) past ≡ said (notes.Sent (x.store.last + 1) (topology_at x.generations node).generation node to (canon (response_to own p rcode given))) ∷ history x past
unfolding sent_all sent posted
one_sent past x node to own rcode p given there = ap (λ found. history (sent_to found node (answer own p rcode given) x) past) there
