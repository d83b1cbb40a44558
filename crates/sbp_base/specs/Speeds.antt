-- Speeds of packets.
use Rattle.std.specs.Prelude.{ℕ}
use Rattle.sbp_base.specs.declared.speed.Speed.{Speed}
use Rattle.sbp_base.specs.declared.speed.Speed.TheVariants.{S100, S200, S400}

-- the most bytes of payload, by the speed (IEEE 1394-1995, asynchronous packets)
abbrev pub largest_payload : Speed → ℕ
largest_payload S100 = 512
largest_payload S200 = 1024
largest_payload S400 = 2048
