-- A time-out leaves the target's unsolicited statuses and their nodes as they are, but for the transaction that it ends, whose node keeps its place among them; a second leaves all.
use Rattle.std.proofs.Common.{◌≡◌, refl, ℕ, List, Option, Result, Ok, Err}
use Rattle.async_packet.specs.Labels.{LabelParts}
use Rattle.label_table.specs.History as wire
use Rattle.label_table.specs.History.{is_same, under_way}
use Rattle.label_table.specs.Layer.{Layer, expiring_step}
use Rattle.label_table.specs.declared.reply.ReplyKind.{ReplyKind}
use Rattle.label_table.specs.declared.reply.Stale.{Stale}
use Rattle.login_table.specs.Table.{Table, tick_step}
use Rattle.sbp_journal.specs.Outgoings.{empty_outbox}
use Rattle.sbp_target.specs.Calls.{alone, lets_expire, ticks}
use Rattle.sbp_target.specs.Nodes.{NodeState, scene}
use Rattle.sbp_target.specs.Receiving.{expired, expired_in, ticked, ticked_by}
use Rattle.sbp_target.specs.declared.purpose.Purpose.{Purpose}
use Rattle.sbp_target.proofs.Histories.Calling.{Good}
use Rattle.sbp_target.proofs.Histories.Primitives.{Known, expiring_known, live_on, stale_known}
use Rattle.sbp_target.proofs.Histories.Seats.{Lives}
use Rattle.turn_laws.proofs.StatusCalls.{ended_if, starts_still, times_out}
use Rattle.turn_laws.proofs.StatusStays.{Still}

module _ (node : NodeState) (g : Good node) where
  -- ---- a time-out
  abbrev pub Lapsed : (peer : ℕ) → LabelParts → Option Purpose → Lives
  Lapsed peer label purpose = live_on (wire.expired peer label purpose) g.lives

  pub record Late (peer : ℕ) (label : LabelParts) (purpose : Option Purpose) (layer : Layer Purpose) (later : NodeState) : Type 0 where
    pub kind : ReplyKind
    pub life : g.lives peer label ≡ under_way kind purpose
    pub known : Known layer (Lapsed peer label purpose)
    pub still : Still (Lapsed peer label purpose) node.pending later

  abbrev pub Lapses : Result (Option Purpose) Stale × Layer Purpose → ℕ → LabelParts → NodeState → Type 0
  Lapses (Ok purpose, layer) peer label later = Late peer label purpose layer later
  Lapses (Err stale, layer) peer label later = Still g.lives node.pending later

  lapse_as : (r : Result (Option Purpose) Stale × Layer Purpose) (peer : ℕ) (label : LabelParts) → expiring_step node.layer peer label ≡ r → Lapses r peer label (expired_in r peer label (scene node empty_outbox)).1.node
  lapse_as (Ok purpose, layer) peer label e =
      let x = expiring_known node.layer layer g.lives peer label purpose g.mid.known e in
      record {
        kind = x.kind;
        life = x.life;
        known = x.known;
        still = times_out (Lapsed peer label purpose) node.pending purpose peer label (scene (record node { layer = layer }) empty_outbox)
            (starts_still node g (Lapsed peer label purpose) layer x.known (λ q l t h. ended_if (is_same peer label q l) t (g.lives q l) h));
      }
  lapse_as (Err stale, layer) peer label e = starts_still node g g.lives layer (stale_known node.layer layer g.lives peer label stale g.mid.known e) (λ q l t h. h)

  pub lapses : (peer : ℕ) (label : LabelParts) → Lapses (expiring_step node.layer peer label) peer label (alone (lets_expire peer label) node).node
  unfolding expired
  lapses peer label = lapse_as (expiring_step node.layer peer label) peer label refl

  -- ---- a second
  second_as : (r : List ℕ × Table) → ((ticked_by r (scene node empty_outbox)).node.pending ≡ node.pending) × ((ticked_by r (scene node empty_outbox)).node.layer ≡ node.layer)
  second_as (logins, table) = (refl, refl)

  pub seconds : ((alone ticks node).node.pending ≡ node.pending) × ((alone ticks node).node.layer ≡ node.layer)
  unfolding ticked
  seconds = second_as (tick_step node.logins)
