-- What the answer to a read of an agent along a list brings, where its bytes are those of the ORB of the number that the agent reads.
use Rattle.sbp_world.proofs.Words.Std.{arith, ◌≡◌, ◌∙◌, refl, sym, ap, subst, inl, inr, ◌⊎◌, ◌<◌, ◌==◌, ℕ, zero, suc, ◌+◌, ◌-◌, ◌*◌, nat_lt, min, Bool, true, false, cond, List, [], ◌∷◌, ◌++◌, length, take, drop, take-take, ◌&&◌, not, Option, Some, None, IfSome, Result, Ok, Err, nat_tests}
use Rattle.sbp_world.proofs.Words.Wire.{Access, Moment, Cmd}
use Rattle.sbp_world.proofs.Words.Target.{Phase, ReadAhead, Which, Main, Ahead, reads_table, Machine, aligned, chunk_of, cut_to, is_ahead, limit_of, Filling, Knows, KnowsAhead, Progress, ReadsAhead, Tabling, AtEnd, IsGood, Leads, OrbList, ahead_ask, main_ask, AheadBrings, BringsOrb, MainBrings, number_behind}
use Rattle.sbp_world.proofs.Words.Initiator.{start, FailCause, CommandOrb, OrbPointer, Null, At, command_orb, pointer_at, Answer, Done, Expired, NoLabel, Payload, Refused, payload_of, data_size, data_start, has_table, Chunk, Segment, addresses, buffer_addresses, chunk_from, elements_of}
use Rattle.sbp_world.proofs.Words.Laws.{IsRead, address_of, laid_out, command_at, slot_at}
use Rattle.sbp_world.proofs.Words.World.{IsAccessFor, read_access, Follows, HoldsTable, IsOfOrb, IsBytesOf, LeadsOn, orb_for, IsBufferOf, IsDataIn, IsOrbOf, orbs}
use Rattle.std.proofs.Common.{append-nil}
use Rattle.bus_memory.specs.declared.window.Window.TheVariants as windows
use Rattle.command_agent.specs.declared.phase.Phase.TheVariants as phases
use Rattle.command_agent.specs.declared.phase.ReadAhead.TheVariants as aheads
use Rattle.orb_layout.specs.declared.ask.FailCause.TheVariants as causes
use Rattle.page_table.proofs.Places.{chunk_in_place}
use Rattle.sbp_world.specs.Lists.Lists.{IsDataOf}
use Rattle.sbp_world.proofs.Common.{no_bytes}

-- ---- an answer that brings bytes
abbrev ok_bytes : List ℕ → Result (List ℕ) FailCause
ok_bytes xs = Ok xs

ok_same : (xs bytes : List ℕ) → ok_bytes xs ≡ ok_bytes bytes → xs ≡ bytes
ok_same xs bytes e = cc

pub record Paid (answer : Answer) (size : ℕ) (bytes : List ℕ) : Type 0 where
  pub is : answer ≡ Payload bytes
  pub size_is : length bytes ≡ size

paid_by : (b : Bool) (xs bytes : List ℕ) (size : ℕ) → (length xs == size) ≡ b → cond b (Ok xs) (Err causes.Grammar) ≡ Ok bytes → Paid (Payload xs) size bytes
paid_by true xs bytes size e f =
    let same : xs ≡ bytes = ok_same xs bytes f in
    let long : length xs ≡ size = grind (arith, nat_tests) in
    record { is = ap Payload same; size_is = ap length (sym same) ∙ long }
paid_by false xs bytes size e f = absurd (let no : Err causes.Grammar ≡ ok_bytes bytes = f in cc)

pub paid : (answer : Answer) (size : ℕ) (bytes : List ℕ) → payload_of answer size ≡ Ok bytes → Paid answer size bytes
paid (Payload xs) size bytes e = paid_by (length xs == size) xs bytes size refl e
paid Done size bytes e = absurd (let no : Err causes.Grammar ≡ ok_bytes bytes = e in cc)
paid (Refused rcode) size bytes e = absurd (let no : Err causes.Refused ≡ ok_bytes bytes = e in cc)
paid Expired size bytes e = absurd (let no : Err causes.Timeout ≡ ok_bytes bytes = e in cc)
paid NoLabel size bytes e = absurd (let no : Err causes.Label ≡ ok_bytes bytes = e in cc)

-- ---- data that go on
take_length : (k : ℕ) (xs : List ℕ) → take (length (take k xs)) xs ≡ take k xs
take_length zero xs = refl
take_length (suc k) [] = refl
take_length (suc k) (x ∷ xs) = ap (λ ys. x ∷ ys) (take_length k xs)

nil_take : (k : ℕ) → ◌≡◌ {A = List ℕ} (take k []) []
nil_take zero = refl
nil_take (suc k) = refl

pub joined : (a c : ℕ) (xs : List ℕ) → take a xs ++ take c (drop a xs) ≡ take (a + c) xs
joined zero c xs = ap (λ k. take k xs) (let z : c ≡ 0 + c = omega arith in z)
joined (suc a) c [] = nil_take c ∙ sym (nil_take (suc a + c))
joined (suc a) c (x ∷ xs) = ap (λ ys. x ∷ ys) (joined a c xs) ∙ ap (λ k. take k (x ∷ xs)) (let z : suc (a + c) ≡ suc a + c = omega arith in z)

goes_on : (held bytes all : List ℕ) (c : ℕ) → held ≡ take (length held) all → bytes ≡ take c (drop (length held) all) → held ++ bytes ≡ take (length (held ++ bytes)) all
goes_on held bytes all c e f =
    let whole : held ++ bytes ≡ take (length held + c) all = ap (λ xs. xs ++ bytes) e ∙ ap (λ ys. take (length held) all ++ ys) f ∙ joined (length held) c all in
    whole ∙ (sym (take_length (length held + c) all) ∙ ap (λ xs. take (length xs) all) (sym whole))

none_more : (held bytes : List ℕ) → length bytes ≡ 0 → length (held ++ bytes) ≡ length held
none_more held bytes e = ap (λ ys. length (held ++ ys)) (no_bytes bytes e) ∙ ap (λ ys. length ys) (append-nil held)

-- ---- a chunk that is cut short follows the bytes in front of it still
address_take : (o c j : ℕ) → take j (addresses o c) ≡ addresses o (min j c)
address_take o zero j = nil_take j ∙ ap (λ k. addresses o k) (let z : 0 ≡ min j 0 = omega arith in z)
address_take o (suc c) zero = ap (λ k. addresses o k) (let z : 0 ≡ min 0 (suc c) = omega arith in z)
address_take o (suc c) (suc j) = ap (λ ys. o ∷ ys) (address_take (o + 1) c j) ∙ ap (λ k. addresses o k) (let z : suc (min j c) ≡ min (suc j) (suc c) = omega arith in z)

pub cut_follows : (left : ℕ) (found : Option Chunk) (all : List ℕ) (at : ℕ) → IfSome found (λ (piece : Chunk). addresses piece.offset piece.length ≡ take piece.length (drop at all)) → addresses (cut_to left found).offset (cut_to left found).length ≡ take (cut_to left found).length (drop at all)
cut_follows left None all at h = refl
cut_follows left (Some piece) all at h =
    let j = min left piece.length in
    ap (λ k. addresses piece.offset k) (let z : j ≡ min j piece.length = omega arith in z)
    ∙ (sym (address_take piece.offset piece.length j) ∙ (ap (λ xs. take j xs) h ∙ take-take j piece.length (drop at all) (omega arith)))

-- ---- the numbers of the ORBs that are read
abbrev pub main_number : Phase → (ended : ℕ) → ℕ
main_number phases.ReadingNext ended = ended - 1
main_number _ ended = ended

abbrev pub number_of : Which → Phase → (ended : ℕ) → ℕ
number_of Main phase ended = main_number phase ended
number_of Ahead phase ended = number_behind phase ended

pub read_at : (access : Access) (offset count address : ℕ) → access ≡ read_access offset count → offset ≡ address → IsRead access address count
read_at access offset count address e f = record {
  read = ap (λ (a : Access). a.is_write) e;
  block = ap (λ (a : Access). a.is_block) e;
  from = ap (λ (a : Access). a.offset) e ∙ f;
  size = ap (λ (a : Access). a.count) e;
}

-- a page table that is read
pub record HasTable (slot : ℕ) (orb : CommandOrb) (segments : List ℕ) : Type 0 where
  pub has : has_table segments ≡ true
  pub some : 0 < length segments
  pub descriptor : orb.descriptor ≡ start (windows.Table slot)
  pub size : orb.data_size ≡ length segments

table_by : (segments : List ℕ) (slot len : ℕ) (orb : CommandOrb) → orb.descriptor ≡ cond (nat_lt 0 (data_size len segments)) (data_start slot segments) 0 → orb.data_size ≡ data_size len segments → has_table segments && not (data_size len segments == 0) ≡ true → HasTable slot orb segments
table_by [] slot len orb d s e = absurd (let no : false ≡ true = e in cc)
table_by (first ∷ rest) slot len orb d s e = record {
  has = refl;
  some = omega arith;
  descriptor = d ∙ ap (λ b. cond b (start (windows.Table slot)) 0) (let z : nat_lt 0 (length (first ∷ rest)) ≡ true = grind (arith, nat_tests) in z);
  size = s;
}

pub has_a_table : (found : Option Cmd) (slot : ℕ) (orb : CommandOrb) (o : IsOrbOf found slot orb) → reads_table orb ≡ true → HasTable slot orb o.cmd.segments
has_a_table found slot orb o e =
    table_by o.cmd.segments slot o.cmd.length orb (ap (λ (x : CommandOrb). x.descriptor) o.orb) (ap (λ (x : CommandOrb). x.data_size) o.orb)
    (sym (ap (λ (x : CommandOrb). reads_table x) o.orb) ∙ e)

-- ---- a list
module _ (past : List Moment) (i n : ℕ) where
  abbrev pub list : OrbList
  list = orbs past i n

  aligned_start : (offset slot : ℕ) → offset ≡ start (windows.Orb slot) → aligned offset ≡ start (windows.Orb slot)
  aligned_start offset slot e = omega arith

  leads_on : (k : ℕ) (next : OrbPointer) → LeadsOn past i n k next → Leads list k next
  leads_on k Null l = tt
  leads_on k (At offset) l = (aligned_start offset (slot_at past i n (suc k)) l.0, l.1)

  format_by : (b : Bool) (x : ℕ) → x ≡ cond b 3 0 → (x ≡ 0) ⊎ (x ≡ 3)
  format_by true x e = inr e
  format_by false x e = inl e

  good_bytes : (k : ℕ) (bytes : List ℕ) → IsBytesOf past i n k bytes → IsGood list k (command_orb bytes)
  good_bytes k bytes o =
      let own = command_orb bytes in
      let format_is : own.format ≡ cond o.own.dummy 3 0 = ap (λ (x : CommandOrb). x.format) o.own.own_is in
      record {
        own = record {
          cmd = o.own.cmd;
          command = o.own.command;
          node = o.own.node;
          orb = o.own.own_is ∙ ap (λ f. orb_for o.own.cmd o.own.node (slot_at past i n k) own.next f) (sym format_is);
          format = format_by o.own.dummy own.format format_is;
        };
        leads = leads_on k own.next o.leads;
      }

  -- What an answer brings is of the ORB of a number; and data are read where they go to the target alone.
  pub record Comes (k : ℕ) (access : Access) (answer : Answer) : Type 0 where
    pub of_orb : (bytes : List ℕ) → answer ≡ Payload bytes → IsOfOrb past i n k access bytes
    pub out : (bytes : List ℕ) → answer ≡ Payload bytes → (cmd : Cmd) (at : ℕ) → command_at past i n k ≡ Some cmd → 0 < access.count → Follows access (slot_at past i n k) cmd at → cmd.to_initiator ≡ false

  orb_brought : (k : ℕ) (access : Access) (answer : Answer) → Comes k access answer → IsRead access (address_of past i n k) 32 → BringsOrb list k answer
  orb_brought k access answer c r = λ bytes e. good_bytes k bytes ((c.of_orb bytes (paid answer 32 bytes e).is).orb r)

  -- ---- the main transaction
  data_of : (p : Progress) (m : Machine) (wanted : ℕ) (f : Filling list p m.present m.orb m.payload m.segments wanted) → IsDataIn f.awaits.good.own.cmd m.payload
  data_of p m wanted f = subst (λ x. IsDataOf x m.payload) f.awaits.good.own.command f.part

  pub buffer_of : (p : Progress) (m : Machine) (wanted : ℕ) (f : Filling list p m.present m.orb m.payload m.segments wanted) → m.segments ≡ laid_out (slot_at past i n p.ended) f.awaits.good.own.cmd f.awaits.good.own.cmd.segments
  buffer_of p m wanted f = subst (λ x. IsBufferOf x (slot_at past i n p.ended) m.segments) f.awaits.good.own.command f.buffer

  pub follows : (p : Progress) (m : Machine) (wanted : ℕ) (f : Filling list p m.present m.orb m.payload m.segments wanted) (access : Access) → access ≡ read_access (chunk_of m (length m.payload) wanted).offset (chunk_of m (length m.payload) wanted).length → Follows access (slot_at past i n p.ended) f.awaits.good.own.cmd (length m.payload)
  follows p m wanted f access e =
      let at = length m.payload in
      let taken = chunk_of m at wanted in
      let cmd = f.awaits.good.own.cmd in
      let places = buffer_addresses (laid_out (slot_at past i n p.ended) cmd cmd.segments) in
      let own : addresses taken.offset taken.length ≡ take taken.length (drop at (buffer_addresses m.segments)) =
      cut_follows (wanted - at) (chunk_from m.segments at (limit_of m.orb)) (buffer_addresses m.segments) at (chunk_in_place m.segments at (limit_of m.orb)) in
      subst (λ (a : Access). addresses a.offset a.count ≡ take a.count (drop at places)) (sym e)
      (subst (λ (ss : List Segment). addresses taken.offset taken.length ≡ take taken.length (drop at (buffer_addresses ss))) (buffer_of p m wanted f) own)

  data_brought : (p : Progress) (m : Machine) (wanted : ℕ) (access : Access) (answer : Answer) → Filling list p m.present m.orb m.payload m.segments wanted → access ≡ read_access (chunk_of m (length m.payload) wanted).offset (chunk_of m (length m.payload) wanted).length → (access.is_write ≡ false → 0 < access.count → Comes p.ended access answer) → (bytes : List ℕ) → payload_of answer (chunk_of m (length m.payload) wanted).length ≡ Ok bytes → IsDataOf (command_at past i n p.ended) (m.payload ++ bytes)
  data_brought p m wanted access answer f a c bytes e =
      subst (λ x. IsDataOf x (m.payload ++ bytes)) (sym own.command) (by (taken.length == 0) refl)
    where
      own : IsOrbOf (command_at past i n p.ended) (slot_at past i n p.ended) m.orb
      own = f.awaits.good.own

      taken : Chunk
      taken = chunk_of m (length m.payload) wanted

      pay : Paid answer taken.length bytes
      pay = paid answer taken.length bytes e

      count : access.count ≡ taken.length
      count = ap (λ (x : Access). x.count) a

      by : (b : Bool) → (taken.length == 0) ≡ b → IsDataIn own.cmd (m.payload ++ bytes)
      by true z =
          let none : taken.length ≡ 0 = grind (arith, nat_tests) in
          let so_far = data_of p m wanted f in
          record {
            first = goes_on m.payload bytes own.cmd.payload 0 so_far.first (no_bytes bytes (pay.size_is ∙ none));
            outward = λ some. so_far.outward (subst (λ n. 0 < n) (none_more m.payload bytes (pay.size_is ∙ none)) some);
          }
      by false z =
          let more : 0 < taken.length = grind (arith, nat_tests) in
          let there = count in
          let some : 0 < access.count = omega arith in
          let at = follows p m wanted f access a in
          let came = c (ap (λ (x : Access). x.is_write) a) some in
          let outward = came.out bytes pay.is own.cmd (length m.payload) own.command some at in
          record {
            first = goes_on m.payload bytes own.cmd.payload access.count (data_of p m wanted f).first ((came.of_orb bytes pay.is).of_data own.cmd (length m.payload) own.command outward at);
            outward = λ any. outward;
          }

  table_brought : (p : Progress) (m : Machine) (access : Access) (answer : Answer) → Tabling list p m.present m.orb m.payload → access ≡ read_access m.orb.descriptor (8 * m.orb.data_size) → (access.is_write ≡ false → 0 < access.count → Comes p.ended access answer) → (bytes : List ℕ) → payload_of answer (8 * m.orb.data_size) ≡ Ok bytes → IsBufferOf (command_at past i n p.ended) (slot_at past i n p.ended) (elements_of bytes)
  table_brought p m access answer k a c bytes e =
      let own = k.awaits.good.own in
      let slot = slot_at past i n p.ended in
      let t = has_a_table (command_at past i n p.ended) slot m.orb own k.reads in
      let size = t.size in
      let some = t.some in
      let count : access.count ≡ 8 * m.orb.data_size = ap (λ (x : Access). x.count) a in
      let long : access.count ≡ 8 * length own.cmd.segments = count ∙ ap (λ x. 8 * x) size in
      let read : IsRead access (start (windows.Table slot)) (8 * length own.cmd.segments) = subst (IsRead access (start (windows.Table slot))) (ap (λ x. 8 * x) size) (read_at access m.orb.descriptor (8 * m.orb.data_size) (start (windows.Table slot)) a t.descriptor) in
      let table : HoldsTable slot own.cmd bytes = ((c (ap (λ (x : Access). x.is_write) a) (omega arith)).of_orb bytes (paid answer (8 * m.orb.data_size) bytes e).is).table own.cmd own.command read in
      subst (λ x. IsBufferOf x slot (elements_of bytes)) (sym own.command) (table.laid t.has)

  next_brought : (p : Progress) (m : Machine) (access : Access) (answer : Answer) → AtEnd list p m.present m.orb.next → access ≡ read_access m.present 8 → (access.is_write ≡ false → 0 < access.count → Comes (p.ended - 1) access answer) → (bytes : List ℕ) (last : ℕ) → p.ended ≡ suc last → payload_of answer 8 ≡ Ok bytes → Leads list last (pointer_at bytes 0)
  next_brought p m access answer k a c bytes last e f =
      let count : access.count ≡ 8 = ap (λ (x : Access). x.count) a in
      let same : p.ended - 1 ≡ last = omega arith in
      let ended = k.over.ended in
      let own : k.over.last ≡ last = omega arith in
      let comes = subst (λ j. Comes j access answer) same (c (ap (λ (x : Access). x.is_write) a) (omega arith)) in
      leads_on last (pointer_at bytes 0)
      ((comes.of_orb bytes (paid answer 8 bytes f).is).pointer (read_at access m.present 8 (list.address last) a (k.over.place ∙ ap (λ j. list.address j) own)))

  pub main_brought : (phase : Phase) (p : Progress) (m : Machine) (is_status : Bool) (fifo : ℕ) (access : Access) (answer : Answer) → Knows list p phase m → IsAccessFor (main_ask phase m) is_status fifo access → (access.is_write ≡ false → 0 < access.count → Comes (main_number phase p.ended) access answer) → MainBrings list p.ended phase m answer
  main_brought phases.Fetching p m s f access answer k a c =
      let count : access.count ≡ 32 = ap (λ (x : Access). x.count) a in
      orb_brought p.ended access answer (c (ap (λ (x : Access). x.is_write) a) (omega arith)) (read_at access m.present 32 (list.address p.ended) a k.turn.place)
  main_brought phases.ReadingTable p m s f access answer k a c = table_brought p m access answer k a c
  main_brought (phases.ReadingData wanted) p m s f access answer k a c = data_brought p m wanted access answer k a c
  main_brought phases.ReadingNext p m s f access answer k a c = next_brought p m access answer k a c
  main_brought phases.Reset p m s f access answer k a c = tt
  main_brought phases.Answering p m s f access answer k a c = tt
  main_brought phases.WritingStatus p m s f access answer k a c = tt
  main_brought phases.WritingLastStatus p m s f access answer k a c = tt
  main_brought phases.Suspended p m s f access answer k a c = tt
  main_brought phases.Dead p m s f access answer k a c = tt

  -- ---- the read ahead
  named_brought : (k : ℕ) (next : OrbPointer) (ahead : ReadAhead) (fifo : ℕ) (access : Access) (answer : Answer) → ReadsAhead list k next ahead → is_ahead ahead ≡ true → IsAccessFor (ahead_ask ahead next) false fifo access → (access.is_write ≡ false → 0 < access.count → Comes k access answer) → BringsOrb list k answer
  named_brought k next (aheads.UnderWay rung) fifo access answer r u a c =
      let e : access ≡ read_access (aligned r.offset) 32 = subst (λ (x : OrbPointer). IsAccessFor (ahead_ask (aheads.UnderWay rung) x) false fifo access) r.named a in
      let count : access.count ≡ 32 = ap (λ (x : Access). x.count) e in
      orb_brought k access answer (c (ap (λ (x : Access). x.is_write) e) (omega arith)) (read_at access (aligned r.offset) 32 (list.address k) e r.place)
  named_brought k next aheads.Idle fifo access answer r u a c = absurd (let no : false ≡ true = u in cc)
  named_brought k next (aheads.Kept orb) fifo access answer r u a c = absurd (let no : false ≡ true = u in cc)

  pub ahead_brought : (phase : Phase) (p : Progress) (next : OrbPointer) (ahead : ReadAhead) (fifo : ℕ) (access : Access) (answer : Answer) → KnowsAhead list p phase next ahead → is_ahead ahead ≡ true → IsAccessFor (ahead_ask ahead next) false fifo access → (access.is_write ≡ false → 0 < access.count → Comes (number_behind phase p.ended) access answer) → AheadBrings list p.ended phase answer
  ahead_brought phases.ReadingTable p next ahead fifo access answer k u a c = named_brought (suc p.ended) next ahead fifo access answer k u a c
  ahead_brought (phases.ReadingData wanted) p next ahead fifo access answer k u a c = named_brought (suc p.ended) next ahead fifo access answer k u a c
  ahead_brought phases.Answering p next ahead fifo access answer k u a c = named_brought (suc p.ended) next ahead fifo access answer k u a c
  ahead_brought phases.WritingStatus p next ahead fifo access answer k u a c = named_brought p.ended next ahead fifo access answer k u a c
  ahead_brought phases.Fetching p next ahead fifo access answer k u a c = tt
  ahead_brought phases.ReadingNext p next ahead fifo access answer k u a c = tt
  ahead_brought phases.Reset p next ahead fifo access answer k u a c = tt
  ahead_brought phases.WritingLastStatus p next ahead fifo access answer k u a c = tt
  ahead_brought phases.Suspended p next ahead fifo access answer k u a c = tt
  ahead_brought phases.Dead p next ahead fifo access answer k u a c = tt
