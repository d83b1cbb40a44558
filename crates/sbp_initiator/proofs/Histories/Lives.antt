-- Reads of AGENT_STATE whose transactions are under way: each is of another action, and is among the reads that are under way.
use Rattle.std.proofs.Common.{arith, ◌≡◌, refl, sym, ap, subst, ◌∙◌, ℕ, nat_eq, nat_lt, not, ◌&&◌, ◌||◌, is_some, Bool, true, false, cond, List, [], ◌∷◌, ◌++◌, Option, Some, None, Result, Ok, Err}
use Rattle.std.proofs.lemmas.Map.Views.{any-filter_same}
use Rattle.async_packet.specs.Labels.{LabelParts}
use Rattle.async_packet.specs.Packet.{Packet, header_in}
use Rattle.async_packet.specs.Reading.{reading}
use Rattle.async_packet.specs.declared.fault.PacketFault.{PacketFault}
use Rattle.label_table.specs.declared.judgement.Asked.{Asked}
use Rattle.label_table.specs.declared.reply.ReplyKind.{ReplyKind}
use Rattle.label_table.specs.declared.reply.Stale.{Stale}
use Rattle.label_table.specs.Bodies.{Body}
use Rattle.label_table.specs.Requests.{reply_kind, kind_of}
use Rattle.label_table.specs.Layer.{Finding, of_generation, of_grammar, of_label, of_response, of_again, of_request, asking_step, expiring_step, judging_step, unlabelled}
use Rattle.label_table.specs.History.{Call, judges, answers, asks, lets_expire, disowns, sees, Told, began, closed, expired, was_stale, disowned, unknown, forgotten, Life, not_begun, under_way, over, is_same, after, told_by_asking, told_by_finding, told_by_expiring, told_by_reading, told_closed, told_unknown, and_before, history, for_nobody, ended, life, IsFor, AreTold}
use Rattle.label_table.proofs.Calls.{told_law}
use Rattle.sbp_initiator.specs.declared.purpose.Purpose.{Purpose}
use Rattle.sbp_initiator.specs.declared.purpose.Purpose.TheVariants as purposes
use Rattle.initiator_base.specs.Quads.{without}
use Rattle.sbp_initiator.specs.Histories.Marks.{WasRead, expired_reads, finding_reads, has_read, read_over}
use Rattle.sbp_initiator.proofs.Histories.Purposes.{AllAsk, AllBegan, IsOf, all_began, kind_in, life_of}

abbrev Calls : Type 0
Calls = List (Call Purpose)

abbrev Notes : Type 0
Notes = List (Told Purpose)

-- ---- each read is of another action

abbrev pub read_act : Purpose → Option ℕ
read_act (purposes.State act list) = Some act
read_act _ = None

abbrev pub IsNot : ℕ → Purpose → Type 0
IsNot act q = read_act q ≡ Some act → ⊥

-- none of these requests is a read of this action
abbrev pub IsNew : Option ℕ → Calls → Type 0
IsNew None calls = Unit {0}
IsNew (Some act) calls = AllAsk (IsNot act) calls

abbrev pub AllNew : Calls → Type 0
AllNew [] = Unit {0}
AllNew (asks peer body purpose ∷ calls) = IsNew (read_act purpose) calls × AllNew calls
AllNew (_ ∷ calls) = AllNew calls

-- the same of the transactions that began
abbrev BeganNew : Option ℕ → Notes → Type 0
BeganNew None notes = Unit {0}
BeganNew (Some act) notes = AllBegan (IsNot act) notes

abbrev AllBeganNew : Notes → Type 0
AllBeganNew [] = Unit {0}
AllBeganNew (began peer label kind purpose ∷ notes) = BeganNew (read_act purpose) notes × AllBeganNew notes
AllBeganNew (_ ∷ notes) = AllBeganNew notes

untrue : {A : Type 0} → false ≡ true → A
untrue e = absurd (differ e)
  where
    differ : false ≡ true → ⊥
    differ e = cc

-- what is told that begins no transaction
abbrev is_began : Option (Told Purpose) → Bool
is_began (Some (began peer label kind purpose)) = true
is_began _ = false

quiet_new : (t : Option (Told Purpose)) (notes : Notes) → is_began t ≡ false → AllBeganNew notes → AllBeganNew (and_before t notes)
quiet_new None notes q a = a
quiet_new (Some (began peer label kind purpose)) notes q a = untrue (sym q)
quiet_new (Some (closed peer label kind purpose)) notes q a = a
quiet_new (Some (expired peer label purpose)) notes q a = a
quiet_new (Some (was_stale peer label)) notes q a = a
quiet_new (Some (disowned peer label)) notes q a = a
quiet_new (Some (unknown peer number kind)) notes q a = a
quiet_new (Some forgotten) notes q a = a

unknown_quiet : (kind : Option ReplyKind) (p : Packet) → is_began (told_unknown p kind) ≡ false
unknown_quiet None p = refl
unknown_quiet (Some kind) p = refl

reading_quiet : (read : Result Packet PacketFault) → is_began (told_by_reading read) ≡ false
reading_quiet (Err fault) = refl
reading_quiet (Ok p) = unknown_quiet (reply_kind p) p

closed_quiet : (kind : Option ReplyKind) (p : Packet) (label : LabelParts) (purpose : Option Purpose) → is_began (told_closed p label purpose kind) ≡ false
closed_quiet None p label purpose = refl
closed_quiet (Some kind) p label purpose = refl

found_quiet : (finding : Finding Purpose) (bytes : List ℕ) → is_began (told_by_finding finding bytes) ≡ false
found_quiet of_generation bytes = refl
found_quiet of_grammar bytes = refl
found_quiet of_label bytes = reading_quiet (reading bytes)
found_quiet (of_response p label purpose) bytes = closed_quiet (reply_kind p) p label purpose
found_quiet (of_again p rcode) bytes = refl
found_quiet (of_request p) bytes = refl

expired_quiet : (r : Result (Option Purpose) Stale) (peer : ℕ) (label : LabelParts) → is_began (told_by_expiring peer label r) ≡ false
expired_quiet (Ok purpose) peer label = refl
expired_quiet (Err stale) peer label = refl

seen_quiet : (c : Bool) → is_began (cond c (Some forgotten) None) ≡ false
seen_quiet true = refl
seen_quiet false = refl

is_new : (act : Option ℕ) (node : ℕ) (calls : Calls) → IsNew act calls → BeganNew act (history node calls)
is_new None node calls a = tt
is_new (Some act) node calls a = all_began (IsNot act) node calls a

asked_new : (asked : Option Asked) (peer : ℕ) (kind : ReplyKind) (purpose : Purpose) (notes : Notes) → BeganNew (read_act purpose) notes → AllBeganNew notes → AllBeganNew (and_before (told_by_asking peer kind purpose asked) notes)
asked_new None peer kind purpose notes b a = a
asked_new (Some asked) peer kind purpose notes b a = (b, a)

all_new : (node : ℕ) (calls : Calls) → AllNew calls → AllBeganNew (history node calls)
all_new node [] a = tt
all_new node (asks peer body purpose ∷ calls) a =
    asked_new (asking_step (after node calls) peer body purpose).0 peer (kind_of (unlabelled (after node calls) peer body)) purpose (history node calls) (is_new (read_act purpose) node calls a.0) (all_new node calls a.1)
all_new node (judges generation bytes ∷ calls) a =
    quiet_new (told_by_finding (judging_step (after node calls) generation bytes).0 bytes) (history node calls) (found_quiet (judging_step (after node calls) generation bytes).0 bytes) (all_new node calls a)
all_new node (answers request bytes rcode given ∷ calls) a = all_new node calls a
all_new node (lets_expire peer label ∷ calls) a =
    quiet_new (told_by_expiring peer label (expiring_step (after node calls) peer label).0) (history node calls) (expired_quiet (expiring_step (after node calls) peer label).0 peer label) (all_new node calls a)
all_new node (disowns peer label ∷ calls) a = all_new node calls a
all_new node (sees generation id ∷ calls) a =
    quiet_new (cond (nat_lt (after node calls).generation generation) (Some forgotten) None) (history node calls) (seen_quiet (nat_lt (after node calls).generation generation)) (all_new node calls a)

-- ---- one label a read

-- a transaction under way for a read
abbrev Reads : Life Purpose → ReplyKind → ℕ → Option ℕ → Type 0
Reads x kind act list = x ≡ under_way kind (Some (purposes.State act list))

none_reads : (act : ℕ) (notes : Notes) (peer : ℕ) (label : LabelParts) (kind : ReplyKind) (list : Option ℕ) → AllBegan (IsNot act) notes → Reads (life peer label notes) kind act list → ⊥
none_reads act notes peer label kind list a e = of_reads (life peer label notes) kind list (life_of (IsNot act) peer label notes a) e
  where
    of_reads : (x : Life Purpose) (kind : ReplyKind) (list : Option ℕ) → IsOf (IsNot act) x → Reads x kind act list → ⊥
    of_reads x kind list i e = subst (λ (y : Life Purpose). IsOf (IsNot act) y) e i refl

-- what ended or belongs to nobody is under way for no read
ended_not : (c : Bool) (x : Life Purpose) (kind : ReplyKind) (act : ℕ) (list : Option ℕ) → Reads (cond c (ended x) x) kind act list → (c ≡ false) × Reads x kind act list
ended_not true not_begun kind act list e = cc
ended_not true (under_way that purpose) kind act list e = cc
ended_not true over kind act list e = cc
ended_not false x kind act list e = (refl, e)

nobody_not : (c : Bool) (x : Life Purpose) (kind : ReplyKind) (act : ℕ) (list : Option ℕ) → Reads (cond c (for_nobody x) x) kind act list → Reads x kind act list
nobody_not true not_begun kind act list e = cc
nobody_not true (under_way that purpose) kind act list e = cc
nobody_not true over kind act list e = cc
nobody_not false x kind act list e = e

forgotten_not : (x : Life Purpose) (kind : ReplyKind) (act : ℕ) (list : Option ℕ) → Reads (ended x) kind act list → ⊥
forgotten_not not_begun kind act list e = cc
forgotten_not (under_way that purpose) kind act list e = cc
forgotten_not over kind act list e = cc

-- ---- names of transactions

-- two names of one transaction
pub record Same (p : ℕ) (l : LabelParts) (q : ℕ) (m : LabelParts) : Type 0 where
  pub peer : p ≡ q
  pub number : l.number ≡ m.number
  pub generation : l.generation ≡ m.generation
  pub serial : l.serial ≡ m.serial

nat_is : (m n : ℕ) → nat_eq m n ≡ true → m ≡ n
nat_is m n e = grind arith

is_nat : (m n : ℕ) → m ≡ n → nat_eq m n ≡ true
is_nat m n e = grind arith

both : (a b : Bool) → (a && b) ≡ true → (a ≡ true) × (b ≡ true)
both true b e = (refl, e)
both false b e = untrue e

and_true : (a b : Bool) → a ≡ true → b ≡ true → (a && b) ≡ true
and_true true b e f = f
and_true false b e f = untrue e

pub same_of : (p : ℕ) (l : LabelParts) (q : ℕ) (m : LabelParts) → is_same p l q m ≡ true → Same p l q m
unfolding is_same
same_of p l q m e =
    let x = both (nat_eq p q && nat_eq l.number m.number) (nat_eq l.generation m.generation && nat_eq l.serial m.serial) e in
    let y = both (nat_eq p q) (nat_eq l.number m.number) x.0 in
    let z = both (nat_eq l.generation m.generation) (nat_eq l.serial m.serial) x.1 in
    record { peer = nat_is p q y.0; number = nat_is l.number m.number y.1; generation = nat_is l.generation m.generation z.0; serial = nat_is l.serial m.serial z.1 }

pub of_same : (p : ℕ) (l : LabelParts) (q : ℕ) (m : LabelParts) → Same p l q m → is_same p l q m ≡ true
unfolding is_same
of_same p l q m s =
    and_true (nat_eq p q && nat_eq l.number m.number) (nat_eq l.generation m.generation && nat_eq l.serial m.serial)
    (and_true (nat_eq p q) (nat_eq l.number m.number) (is_nat p q s.peer) (is_nat l.number m.number s.number))
    (and_true (nat_eq l.generation m.generation) (nat_eq l.serial m.serial) (is_nat l.generation m.generation s.generation) (is_nat l.serial m.serial s.serial))

same_both : (q : ℕ) (m : LabelParts) (p : ℕ) (l : LabelParts) (p' : ℕ) (l' : LabelParts) → is_same q m p l ≡ true → is_same q m p' l' ≡ true → is_same p l p' l' ≡ true
same_both q m p l p' l' e f =
    let a = same_of q m p l e in
    let b = same_of q m p' l' f in
    of_same p l p' l' (record { peer = sym a.peer ∙ b.peer; number = sym a.number ∙ b.number; generation = sym a.generation ∙ b.generation; serial = sym a.serial ∙ b.serial })

-- ---- two transactions under way for one read are one

purpose_is : (kd k : ReplyKind) (purpose q : Purpose) → under_way kd (Some purpose) ≡ under_way k (Some q) → purpose ≡ q
purpose_is kd k purpose q e = cc

new_for : (purpose : Purpose) (act : ℕ) (list : Option ℕ) (notes : Notes) → purpose ≡ purposes.State act list → BeganNew (read_act purpose) notes → AllBegan (IsNot act) notes
new_for purpose act list notes e b = subst (λ (x : Purpose). BeganNew (read_act x) notes) e b

module _ (act : ℕ) (p : ℕ) (l : LabelParts) (k : ReplyKind) (x : Option ℕ) (p' : ℕ) (l' : LabelParts) (k' : ReplyKind) (x' : Option ℕ) where
  began_unique : (c c' : Bool) (q : ℕ) (m : LabelParts) (kd : ReplyKind) (purpose : Purpose) (notes : Notes) → is_same q m p l ≡ c → is_same q m p' l' ≡ c' → BeganNew (read_act purpose) notes → Reads (cond c (under_way kd (Some purpose)) (life p l notes)) k act x → Reads (cond c' (under_way kd (Some purpose)) (life p' l' notes)) k' act x' → (Reads (life p l notes) k act x → Reads (life p' l' notes) k' act x' → is_same p l p' l' ≡ true) → is_same p l p' l' ≡ true
  began_unique true true q m kd purpose notes e f b g h i = same_both q m p l p' l' e f
  began_unique true false q m kd purpose notes e f b g h i =
      absurd (none_reads act notes p' l' k' x' (new_for purpose act x notes (purpose_is kd k purpose (purposes.State act x) g) b) h)
  began_unique false true q m kd purpose notes e f b g h i =
      absurd (none_reads act notes p l k x (new_for purpose act x' notes (purpose_is kd k' purpose (purposes.State act x') h) b) g)
  began_unique false false q m kd purpose notes e f b g h i = i g h

  unique : (notes : Notes) → AllBeganNew notes → Reads (life p l notes) k act x → Reads (life p' l' notes) k' act x' → is_same p l p' l' ≡ true
  unique [] a e f = absurd (forgotten_not not_begun k act x e)
  unique (began q m kd purpose ∷ notes) a e f =
      began_unique (is_same q m p l) (is_same q m p' l') q m kd purpose notes refl refl a.0 e f (unique notes a.1)
  unique (closed q m kd purpose ∷ notes) a e f =
      unique notes a (ended_not (is_same q m p l) (life p l notes) k act x e).1 (ended_not (is_same q m p' l') (life p' l' notes) k' act x' f).1
  unique (expired q m purpose ∷ notes) a e f =
      unique notes a (ended_not (is_same q m p l) (life p l notes) k act x e).1 (ended_not (is_same q m p' l') (life p' l' notes) k' act x' f).1
  unique (disowned q m ∷ notes) a e f =
      unique notes a (nobody_not (is_same q m p l) (life p l notes) k act x e) (nobody_not (is_same q m p' l') (life p' l' notes) k' act x' f)
  unique (was_stale q m ∷ notes) a e f = unique notes a e f
  unique (unknown q number kd ∷ notes) a e f = unique notes a e f
  unique (forgotten ∷ notes) a e f = absurd (forgotten_not (life p l notes) k act x e)

-- ---- what is under way is among the reads

pub record LivesIn (reads : List ℕ) (notes : Notes) : Type 0 where
  pub has : (peer : ℕ) (label : LabelParts) (kind : ReplyKind) (act : ℕ) (list : Option ℕ) → Reads (life peer label notes) kind act list → has_read act reads ≡ true

has_without : (act other : ℕ) (reads : List ℕ) → nat_eq act other ≡ false → has_read act reads ≡ true → has_read act (without other reads) ≡ true
has_without act other reads d h =
    any-filter_same (λ (n : ℕ). nat_eq n act) (λ (n : ℕ). not (nat_eq n other)) true (λ n e. ap (λ (m : ℕ). not (nat_eq m other)) (nat_is n act e) ∙ ap not d) reads ∙ h

-- the read of another action stays
over_as : (c : Bool) (act other : ℕ) (reads : List ℕ) → nat_eq act other ≡ c → (c ≡ true → ⊥) → has_read act reads ≡ true → has_read act (without other reads) ≡ true
over_as true act other reads e n h = absurd (n refl)
over_as false act other reads e n h = has_without act other reads e h

same_true : (a b : Bool) → a ≡ b → a ≡ false → b ≡ true → ⊥
same_true a b e f g = cc

module _ (reads : List ℕ) (notes : Notes) (new : AllBeganNew notes) (lives : LivesIn reads notes) where
  -- a transaction ends that was under way for this
  purpose_over : (purpose : Option Purpose) (q : ℕ) (m : LabelParts) (kd : ReplyKind) (p : ℕ) (l : LabelParts) (k : ReplyKind) (act : ℕ) (list : Option ℕ) → life q m notes ≡ under_way kd purpose → is_same q m p l ≡ false → Reads (life p l notes) k act list → has_read act (read_over purpose reads) ≡ true
  purpose_over None q m kd p l k act list w d e = lives.has p l k act list e
  purpose_over (Some (purposes.State other x)) q m kd p l k act list w d e =
      over_as (nat_eq act other) act other reads refl
      (λ c. same_true (is_same q m p l) (is_same q m p l) refl d
      (unique act q m kd x p l k list notes new (w ∙ ap (λ (n : ℕ). under_way kd (Some (purposes.State n x))) (sym (nat_is act other c))) e))
      (lives.has p l k act list e)
  purpose_over (Some (purposes.Pointer x)) q m kd p l k act list w d e = lives.has p l k act list e
  purpose_over (Some purposes.Doorbell) q m kd p l k act list w d e = lives.has p l k act list e
  purpose_over (Some (purposes.AgentReset x)) q m kd p l k act list w d e = lives.has p l k act list e
  purpose_over (Some (purposes.Enable x)) q m kd p l k act list w d e = lives.has p l k act list e
  purpose_over (Some (purposes.Management x)) q m kd p l k act list w d e = lives.has p l k act list e
  purpose_over (Some (purposes.Rom x)) q m kd p l k act list w d e = lives.has p l k act list e

  closed_lives : (purpose : Option Purpose) (q : ℕ) (m : LabelParts) (kd : ReplyKind) → life q m notes ≡ under_way kd purpose → LivesIn (read_over purpose reads) (closed q m kd purpose ∷ notes)
  closed_lives purpose q m kd w = record {
    has = λ p l k act list e.
        let f = ended_not (is_same q m p l) (life p l notes) k act list e in
        purpose_over purpose q m kd p l k act list w f.0 f.1;
  }

  expired_lives : (purpose : Option Purpose) (q : ℕ) (m : LabelParts) (kd : ReplyKind) → life q m notes ≡ under_way kd purpose → LivesIn (read_over purpose reads) (expired q m purpose ∷ notes)
  expired_lives purpose q m kd w = record {
    has = λ p l k act list e.
        let f = ended_not (is_same q m p l) (life p l notes) k act list e in
        purpose_over purpose q m kd p l k act list w f.0 f.1;
  }

  -- one that is under way for this is among the reads
  was_read : (purpose : Option Purpose) (q : ℕ) (m : LabelParts) (kd : ReplyKind) → life q m notes ≡ under_way kd purpose → WasRead reads purpose
  was_read None q m kd w = tt
  was_read (Some (purposes.State act list)) q m kd w = lives.has q m kd act list w
  was_read (Some (purposes.Pointer x)) q m kd w = tt
  was_read (Some purposes.Doorbell) q m kd w = tt
  was_read (Some (purposes.AgentReset x)) q m kd w = tt
  was_read (Some (purposes.Enable x)) q m kd w = tt
  was_read (Some (purposes.Management x)) q m kd w = tt
  was_read (Some (purposes.Rom x)) q m kd w = tt

  -- by what is told of a response
  unknown_lives : (kind : Option ReplyKind) (p : Packet) → LivesIn reads (and_before (told_unknown p kind) notes)
  unknown_lives None p = lives
  unknown_lives (Some kind) p = record { has = λ q l k act list e. lives.has q l k act list e }

  reading_lives : (read : Result Packet PacketFault) → LivesIn reads (and_before (told_by_reading read) notes)
  reading_lives (Err fault) = lives
  reading_lives (Ok p) = unknown_lives (reply_kind p) p

  response_lives : (kind : Option ReplyKind) (p : Packet) (label : LabelParts) (purpose : Option Purpose) → is_some kind ≡ true → AreTold (and_before (told_closed p label purpose kind) notes) → LivesIn (read_over purpose reads) (and_before (told_closed p label purpose kind) notes)
  response_lives None p label purpose s a = untrue s
  response_lives (Some kind) p label purpose s a = closed_lives purpose (header_in p).source label kind a.0

  found_lives : (finding : Finding Purpose) (bytes : List ℕ) → ((p : Packet) (label : LabelParts) (purpose : Option Purpose) → finding ≡ of_response p label purpose → is_some (reply_kind p) ≡ true) → AreTold (and_before (told_by_finding finding bytes) notes) → LivesIn (finding_reads finding reads) (and_before (told_by_finding finding bytes) notes)
  found_lives of_generation bytes s a = lives
  found_lives of_grammar bytes s a = lives
  found_lives of_label bytes s a = reading_lives (reading bytes)
  found_lives (of_response p label purpose) bytes s a = response_lives (reply_kind p) p label purpose (s p label purpose refl) a
  found_lives (of_again p rcode) bytes s a = lives
  found_lives (of_request p) bytes s a = lives

  -- by what is told of a time-out
  for_kind : (x : Life Purpose) (purpose : Option Purpose) (q : ℕ) (m : LabelParts) → life q m notes ≡ x → IsFor purpose x → LivesIn (read_over purpose reads) (expired q m purpose ∷ notes)
  for_kind not_begun purpose q m w f = absurd f
  for_kind (under_way kind that) purpose q m w f = expired_lives purpose q m kind (w ∙ ap (λ (o : Option Purpose). under_way kind o) f)
  for_kind over purpose q m w f = absurd f

  out_lives : (r : Result (Option Purpose) Stale) (peer : ℕ) (label : LabelParts) → AreTold (and_before (told_by_expiring peer label r) notes) → LivesIn (expired_reads r reads) (and_before (told_by_expiring peer label r) notes)
  out_lives (Ok purpose) peer label a = for_kind (life peer label notes) purpose peer label refl a.0
  out_lives (Err stale) peer label a = record { has = λ q l k act list e. lives.has q l k act list e }

  -- a later generation
  seen_lives : (c : Bool) → LivesIn (cond c [] reads) (and_before (cond c (Some forgotten) None) notes)
  seen_lives true = record { has = λ p l k act list e. absurd (forgotten_not (life p l notes) k act list e) }
  seen_lives false = lives

-- ---- a request

has_last : (act : ℕ) (reads : List ℕ) → has_read act (reads ++ act ∷ []) ≡ true
has_last act [] = ap (λ (b : Bool). b || false) (is_nat act act refl)
has_last act (first ∷ reads) = or_right (nat_eq first act) (has_read act (reads ++ act ∷ [])) (has_last act reads)
  where
    or_right : (a b : Bool) → b ≡ true → (a || b) ≡ true
    or_right true b e = refl
    or_right false b e = e

has_before : (act other : ℕ) (reads : List ℕ) → has_read act reads ≡ true → has_read act (reads ++ other ∷ []) ≡ true
has_before act other [] h = untrue h
has_before act other (first ∷ reads) h = or_either (nat_eq first act) (has_read act reads) (has_read act (reads ++ other ∷ [])) h (has_before act other reads)
  where
    or_either : (a b c : Bool) → (a || b) ≡ true → (b ≡ true → c ≡ true) → (a || c) ≡ true
    or_either true b c h f = refl
    or_either false b c h f = f h

-- the reads behind a request that found a label
abbrev pub reads_with : Option ℕ → List ℕ → List ℕ
reads_with None reads = reads
reads_with (Some act) reads = reads ++ act ∷ []

stays_with : (a : Option ℕ) (act : ℕ) (reads : List ℕ) → has_read act reads ≡ true → has_read act (reads_with a reads) ≡ true
stays_with None act reads h = h
stays_with (Some other) act reads h = has_before act other reads h

its_read : (purpose : Purpose) (act : ℕ) (list : Option ℕ) (reads : List ℕ) → purpose ≡ purposes.State act list → has_read act (reads_with (read_act purpose) reads) ≡ true
its_read purpose act list reads e =
    subst (λ (x : Purpose). has_read act (reads_with (read_act x) reads) ≡ true) (sym e) (has_last act reads)

began_as : (c : Bool) (q : ℕ) (m : LabelParts) (kd : ReplyKind) (purpose : Purpose) (reads : List ℕ) (x : Life Purpose) (k : ReplyKind) (act : ℕ) (list : Option ℕ) → Reads (cond c (under_way kd (Some purpose)) x) k act list → (Reads x k act list → has_read act reads ≡ true) → has_read act (reads_with (read_act purpose) reads) ≡ true
began_as true q m kd purpose reads x k act list e f = its_read purpose act list reads (purpose_is kd k purpose (purposes.State act list) e)
began_as false q m kd purpose reads x k act list e f = stays_with (read_act purpose) act reads (f e)

began_lives : (q : ℕ) (m : LabelParts) (kd : ReplyKind) (purpose : Purpose) (reads : List ℕ) (notes : Notes) → LivesIn reads notes → LivesIn (reads_with (read_act purpose) reads) (began q m kd purpose ∷ notes)
began_lives q m kd purpose reads notes lives = record {
  has = λ p l k act list e. began_as (is_same q m p l) q m kd purpose reads (life p l notes) k act list e (λ g. lives.has p l k act list g);
}

-- ---- over the calls of a layer

module _ (node : ℕ) (calls : Calls) (reads : List ℕ) (new : AllNew calls) (lives : LivesIn reads (history node calls)) where
  pub judge_lives : (generation : ℕ) (bytes : List ℕ) → LivesIn (finding_reads (judging_step (after node calls) generation bytes).0 reads) (history node (judges generation bytes ∷ calls))
  judge_lives generation bytes =
      found_lives reads (history node calls) (all_new node calls new) lives (judging_step (after node calls) generation bytes).0 bytes
      (λ p label purpose e. kind_in (after node calls) generation bytes p label purpose e) (told_law Purpose node (judges generation bytes ∷ calls))

  pub expire_lives : (peer : ℕ) (label : LabelParts) → LivesIn (expired_reads (expiring_step (after node calls) peer label).0 reads) (history node (lets_expire peer label ∷ calls))
  expire_lives peer label =
      out_lives reads (history node calls) (all_new node calls new) lives (expiring_step (after node calls) peer label).0 peer label (told_law Purpose node (lets_expire peer label ∷ calls))

  pub see_lives : (generation id : ℕ) → LivesIn (cond (nat_lt (after node calls).generation generation) [] reads) (history node (sees generation id ∷ calls))
  see_lives generation id = seen_lives reads (history node calls) (all_new node calls new) lives (nat_lt (after node calls).generation generation)

  pub ask_lives : (peer : ℕ) (body : Body) (purpose : Purpose) (asked : Asked) → (asking_step (after node calls) peer body purpose).0 ≡ Some asked → LivesIn (reads_with (read_act purpose) reads) (history node (asks peer body purpose ∷ calls))
  ask_lives peer body purpose asked e =
      subst (λ (x : Option Asked). LivesIn (reads_with (read_act purpose) reads) (and_before (told_by_asking peer (kind_of (unlabelled (after node calls) peer body)) purpose x) (history node calls))) (sym e)
      (began_lives peer asked.label (kind_of (unlabelled (after node calls) peer body)) purpose reads (history node calls) lives)

  -- what is closed, and what expires, was among the reads
  pub closes_read : (generation : ℕ) (bytes : List ℕ) (p : Packet) (label : LabelParts) (purpose : Option Purpose) → (judging_step (after node calls) generation bytes).0 ≡ of_response p label purpose → WasRead reads purpose
  closes_read generation bytes p label purpose f =
      let t = told_law Purpose node (judges generation bytes ∷ calls) in
      let u : AreTold (and_before (told_closed p label purpose (reply_kind p)) (history node calls)) = subst (λ (x : Finding Purpose). AreTold (and_before (told_by_finding x bytes) (history node calls))) f t in
      kinds_read (reply_kind p) p label purpose (kind_in (after node calls) generation bytes p label purpose f) u
    where
      kinds_read : (kind : Option ReplyKind) (p : Packet) (label : LabelParts) (purpose : Option Purpose) → is_some kind ≡ true → AreTold (and_before (told_closed p label purpose kind) (history node calls)) → WasRead reads purpose
      kinds_read None p label purpose s a = untrue s
      kinds_read (Some kind) p label purpose s a = was_read reads (history node calls) (all_new node calls new) lives purpose (header_in p).source label kind a.0

  pub expires_read : (peer : ℕ) (label : LabelParts) (purpose : Option Purpose) → (expiring_step (after node calls) peer label).0 ≡ Ok purpose → WasRead reads purpose
  expires_read peer label purpose f =
      let t = told_law Purpose node (lets_expire peer label ∷ calls) in
      let u : AreTold (expired peer label purpose ∷ history node calls) = subst (λ (x : Result (Option Purpose) Stale). AreTold (and_before (told_by_expiring peer label x) (history node calls))) f t in
      lives_read (life peer label (history node calls)) purpose peer label refl u.0
    where
      lives_read : (x : Life Purpose) (purpose : Option Purpose) (q : ℕ) (m : LabelParts) → life q m (history node calls) ≡ x → IsFor purpose x → WasRead reads purpose
      lives_read not_begun purpose q m w f = absurd f
      lives_read (under_way kind that) purpose q m w f =
          was_read reads (history node calls) (all_new node calls new) lives purpose q m kind (w ∙ ap (λ (o : Option Purpose). under_way kind o) f)
      lives_read over purpose q m w f = absurd f
