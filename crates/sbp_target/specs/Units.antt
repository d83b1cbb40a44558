-- What the target does to its units and to the lists over them: resets, and a disc that was changed
-- (NCITS 325-1998, task management functions and unsolicited status).
use Rattle.std.specs.Prelude.{ℕ, zero, suc, ◌+◌, ◌==◌, ◌&&◌, not, Bool, true, false, if◌then◌else◌, List, [], ◌∷◌, ◌++◌, slice_set, Option, Some, None}
use Rattle.std.specs.List.{list_any}
use Rattle.async_packet.specs.Labels.{LabelParts}
use Rattle.label_table.specs.Bodies.{block_write}
use Rattle.label_table.specs.Layer.{Layer}
use Rattle.login_table.specs.declared.login.Login.{Login}
use Rattle.login_table.specs.Table.{is_live}
use Rattle.media_bay.specs.Unsolicited.{block}
use Rattle.rbc_disk.specs.Units.{cleared, changed_for}
use Rattle.sbp_journal.specs.declared.cause.CutCause.{CutCause}
use Rattle.sbp_journal.specs.declared.side.Side.TheVariants as sides
use Rattle.sbp_journal.specs.Outgoings.{OutboxState}
use Rattle.target_base.specs.Places.{is_of_unit, mask_of}
use Rattle.sbp_target.specs.declared.desk.Desk.{Desk}
use Rattle.sbp_target.specs.declared.purpose.Purpose.{Purpose}
use Rattle.sbp_target.specs.declared.purpose.Purpose.TheVariants as purposes
use Rattle.sbp_target.specs.Sending.{request_step, with_side}
use Rattle.sbp_target.specs.Nodes.{NodeState, Scene, scene, desk_at, login_at, with_desk, unit_at}
use Rattle.sbp_target.specs.Agents.{cut}

-- A disc came into the tray of a unit: the other logins of the unit are to be told.
abbrev pub with_changed : ℕ → ℕ → NodeState → NodeState
with_changed unit from node =
    record node { units = slice_set node.units unit (changed_for (unit_at node unit) (mask_of unit (Some from) node.logins.places)) }

-- Another live login of the unit, whose register is enabled, is sent an unsolicited status.
abbrev pub hears : ℕ → ℕ → ℕ → Desk → Login → Bool
hears unit from place desk login = login.unit == unit && (is_live login && (not (place == from) && desk.is_enabled))

abbrev pub is_node : ℕ → ℕ → Bool
is_node node other = node == other

abbrev pub is_pending : ℕ → List ℕ → Bool
is_pending node pending = list_any (is_node node) pending

-- the node without the register of a place, and with a node to which an unsolicited status is under way
abbrev pub unsolicited_from : ℕ → ℕ → Layer Purpose → NodeState → NodeState
unsolicited_from place peer layer node =
    record (with_desk node place (record (desk_at node place) { is_enabled = false })) { layer = layer; pending = node.pending ++ peer ∷ [] }

abbrev pub unsolicited_by : ℕ → ℕ → NodeState → Option LabelParts × (Layer Purpose × OutboxState) → Scene
unsolicited_by place peer node (Some label, (layer, outbox)) =
    scene (unsolicited_from place peer layer node) (with_side outbox (sides.Unsolicited place))
unsolicited_by place peer node (None, (layer, outbox)) =
    scene (record node { layer = layer }) (with_side outbox (sides.Unsent place))

-- It is not sent where an earlier one to its node is under way or its label rests, or where it finds no label.
unfoldable pub announce_to : ℕ → Login → Scene → Scene
announce_to place login s =
    if is_pending login.node s.node.pending
    then scene s.node (with_side s.outbox (sides.Unsent place))
    else unsolicited_by place login.node s.node (request_step s.node.layer s.outbox login.node (block_write login.fifo block) purposes.Unsolicited)

abbrev pub announce_in : ℕ → ℕ → ℕ → Option Login → Scene → Scene
announce_in unit from place None s = s
announce_in unit from place (Some login) s = if hears unit from place (desk_at s.node place) login then announce_to place login s else s

unfoldable pub announce_at : ℕ → ℕ → ℕ → Scene → Scene
announce_at unit from place s = announce_in unit from place (login_at s.node place) s

-- so many places from one on, by rising place
unfoldable pub announce_from : ℕ → ℕ → ℕ → ℕ → Scene → Scene
announce_from zero place unit from s = s
announce_from (suc left) place unit from s = announce_from left (place + 1) unit from (announce_at unit from place s)

-- The lists that a reset cuts: those of a unit, or all.
abbrev pub is_cut : Option ℕ → Option Login → Bool
is_cut None login = true
is_cut (Some unit) login = is_of_unit unit login

unfoldable pub cut_at : CutCause → Option ℕ → ℕ → Scene → Scene
cut_at cause unit place s = if is_cut unit (login_at s.node place) then cut cause place s else s

unfoldable pub cut_from : ℕ → ℕ → CutCause → Option ℕ → Scene → Scene
cut_from zero place cause unit s = s
cut_from (suc left) place cause unit s = cut_from left (place + 1) cause unit (cut_at cause unit place s)

abbrev pub cut_all : CutCause → Option ℕ → Scene → Scene
cut_all cause unit s = cut_from 8 0 cause unit s

-- A unit is reset.
unfoldable pub clear_unit : ℕ → Scene → Scene
clear_unit unit s =
    scene
    (record s.node { units = slice_set s.node.units unit (cleared (unit_at s.node unit) (mask_of unit None s.node.logins.places)) })
    (with_side s.outbox (sides.Cleared unit))

-- so many units from one on
unfoldable pub clear_from : ℕ → ℕ → Scene → Scene
clear_from zero unit s = s
clear_from (suc left) unit s = clear_from left (unit + 1) (clear_unit unit s)
