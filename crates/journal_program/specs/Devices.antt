-- The numbers of devices.
use Rattle.std.specs.Prelude.{ℕ, ◌+◌, ◌*◌, ◌^◌, ◌/◌, ◌%◌}
use Rattle.journal_program.specs.declared.device.DeviceNumber.{DeviceNumber}

-- How the system encodes a major and a minor number: from the lowest bits on 8 of the minor number,
-- 12 of the major number, 24 of the minor and 20 of the major number
abbrev pub encoded : ℕ → ℕ → ℕ
encoded major minor = minor % 2 ^ 8 + 2 ^ 8 * (major % 2 ^ 12) + 2 ^ 20 * (minor / 2 ^ 8) + 2 ^ 44 * (major / 2 ^ 12)

-- the number of a device as the system encodes it
abbrev pub number_of : DeviceNumber → ℕ
number_of device = encoded device.major device.minor
