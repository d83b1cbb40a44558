-- The requests that a target has sent, and what the terms and the desks have of them.
use Rattle.sbp_world.proofs.Words.Std.{◌≡◌, ◌∙◌, refl, sym, ap, subst, inl, inr, ℕ, suc, ◌+◌, is_some, Bool, true, false, cond, List, [], ◌∷◌, ◌++◌, length, Option, Some, None, arith}
use Rattle.sbp_world.proofs.Words.Wire.{LabelParts, Outgoing}
use Rattle.sbp_world.proofs.Words.Target.{Desk, Sent}
use Rattle.sbp_world.proofs.Words.Laws.{Agent}
use Rattle.sbp_world.proofs.Words.World.{AreOne, Has, Request, with_request, with_requests}

-- ---- lists of requests

abbrev pub Within : List Request → List Request → Type 0
Within before now = (request : Request) → Has before request → Has now request

abbrev pub number_after : (last : ℕ) → List Outgoing → ℕ
number_after last packets = last + length packets + 1

one_within : (to : ℕ) (label : Option LabelParts) (serial : ℕ) (requests : List Request) → Within requests (with_request to label serial requests)
one_within to None serial requests request h = h
one_within to (Some label) serial requests request h = inr h

pub requests_within : (last : ℕ) (packets : List Outgoing) (requests : List Request) → Within requests (with_requests last packets requests)
requests_within last [] requests request h = h
requests_within last (packet ∷ later) requests request h =
    requests_within (last + 1) later (with_request packet.to packet.label (last + 1) requests) request (one_within packet.to packet.label (last + 1) requests request h)

pub requests_more : (last : ℕ) (packets : List Outgoing) (packet : Outgoing) (requests : List Request) → with_requests last (packets ++ packet ∷ []) requests ≡ with_request packet.to packet.label (number_after last packets) (with_requests last packets requests)
requests_more last [] packet requests = let same : last + 1 ≡ last + 0 + 1 = omega arith in ap (λ n. with_request packet.to packet.label n requests) same
requests_more last (first ∷ packets) packet requests =
    let same : last + 1 + length packets + 1 ≡ last + suc (length packets) + 1 = omega arith in
    let before = with_request first.to first.label (last + 1) requests in
    requests_more (last + 1) packets packet before ∙ ap (λ n. with_request packet.to packet.label n (with_requests (last + 1) packets before)) same

pub more_within : (last : ℕ) (packets : List Outgoing) (packet : Outgoing) (requests : List Request) → Within (with_requests last packets requests) (with_requests last (packets ++ packet ∷ []) requests)
more_within last packets packet requests request h =
    subst (λ (rs : List Request). Has rs request) (sym (requests_more last packets packet requests))
    (one_within packet.to packet.label (number_after last packets) (with_requests last packets requests) request h)

pub sent_within : (last : ℕ) (packets : List Outgoing) (packet : Outgoing) (requests : List Request) → Within requests (with_requests last (packets ++ packet ∷ []) requests)
sent_within last packets packet requests request h = more_within last packets packet requests request (requests_within last packets requests request h)

-- a packet that left under a label is there with its number
pub more_has : (last : ℕ) (packets : List Outgoing) (to : ℕ) (label : LabelParts) (bytes : List ℕ) (requests : List Request) → Has (with_requests last (packets ++ record { to = to; label = Some label; bytes = bytes } ∷ []) requests) (record { to = to; label = label; serial = number_after last packets })
more_has last packets to label bytes requests =
    subst (λ (rs : List Request). Has rs (record { to = to; label = label; serial = number_after last packets })) (sym (requests_more last packets (record { to = to; label = Some label; bytes = bytes }) requests)) (inl refl)

-- ---- one transaction

pub one_more : (before now : List Request) → Within before now → (sent : Option Sent) (serial : Option ℕ) → AreOne before sent serial → AreOne now sent serial
one_more before now w None serial h = tt
one_more before now w (Some sent) None h = tt
one_more before now w (Some sent) (Some serial) h = w (record { to = sent.peer; label = sent.label; serial = serial }) h

pub one_unless : (requests : List Request) (sent : Option Sent) (serial : Option ℕ) → is_some serial ≡ false → AreOne requests sent serial
one_unless requests None serial e = tt
one_unless requests (Some sent) None e = tt
one_unless requests (Some sent) (Some serial) e = absurd (let no : true ≡ false = e in cc)

pub one_none : (requests : List Request) (sent : Option Sent) → AreOne requests sent None
one_none requests sent = one_unless requests sent None refl

-- ---- both of an agent

pub record Paired (requests : List Request) (d : Desk) (a : Agent) : Type 0 where
  pub main : AreOne requests d.main a.main
  pub ahead : AreOne requests d.ahead a.ahead

-- with the read ahead as the main transaction, where it becomes that
pub record Turning (requests : List Request) (turned : Bool) (d : Desk) (a : Agent) : Type 0 where
  pub main : AreOne requests (cond turned d.ahead d.main) a.main
  pub ahead : AreOne requests d.ahead a.ahead

pub paired_more : (before now : List Request) → Within before now → (d : Desk) (a : Agent) → Paired before d a → Paired now d a
paired_more before now w d a p = record { main = one_more before now w d.main a.main p.main; ahead = one_more before now w d.ahead a.ahead p.ahead }

pub paired_unless : (requests : List Request) (d : Desk) (a : Agent) → is_some a.main ≡ false → is_some a.ahead ≡ false → Paired requests d a
paired_unless requests d a e f = record { main = one_unless requests d.main a.main e; ahead = one_unless requests d.ahead a.ahead f }

pub turning_unless : (requests : List Request) (turned : Bool) (d : Desk) (a : Agent) → is_some a.main ≡ false → is_some a.ahead ≡ false → Turning requests turned d a
turning_unless requests turned d a e f = record { main = one_unless requests (cond turned d.ahead d.main) a.main e; ahead = one_unless requests d.ahead a.ahead f }

pub paired_as : (requests : List Request) (d : Desk) (a b : Agent) → a ≡ b → Paired requests d b → Paired requests d a
paired_as requests d a b e p = subst (λ (x : Agent). Paired requests d x) (sym e) p

pub paired_at : (requests : List Request) (d e : Desk) (a : Agent) → e.main ≡ d.main → e.ahead ≡ d.ahead → Paired requests d a → Paired requests e a
paired_at requests d e a m f p = record {
  main = subst (λ (x : Option Sent). AreOne requests x a.main) (sym m) p.main;
  ahead = subst (λ (x : Option Sent). AreOne requests x a.ahead) (sym f) p.ahead;
}
