-- The operation that the terms have under way at an initiator is its own.
use Rattle.std.proofs.Common.{◌≡◌, Some, ap}
use Rattle.sbp_initiator.specs.declared.purpose.Running.{Running}
use Rattle.sbp_laws.specs.Hosts.{Underway}
use Rattle.sbp_world.specs.Hosts.Core.{operation_by, work_in, work_of}

pub operation_same : (underway : Underway) (running : Running) → work_of (Some underway) ≡ work_in (Some running) → underway.operation ≡ running.operation
operation_same underway running e = let z : Some underway.operation ≡ Some running.operation = ap operation_by e in cc
