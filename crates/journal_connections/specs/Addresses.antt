-- Addresses of IP.
use Rattle.std.specs.Prelude.{◌≡◌, ℕ, ◌/◌, ◌%◌, ◌^◌, ◌-◌}
use Rattle.std.specs.Net.Addr.{ipv4_bits, ipv6_bits}
use Rattle.std.specs.declared.net.ip_addr.IpAddr.{IpAddr}
use Rattle.std.specs.declared.net.ip_addr.IpAddr.TheVariants.{V4, V6}

-- how many bits an address has: 32 in version 4 of IP, and 128 in version 6
abbrev pub width : IpAddr → ℕ
width (V4 address) = 32
width (V6 address) = 128

-- the number that the bits of an address are, the first one most significant
abbrev pub number_of : IpAddr → ℕ
number_of (V4 address) = ipv4_bits address
number_of (V6 address) = ipv6_bits address

-- the number that its first bits are, as many as are asked for
abbrev pub first_bits : ℕ → IpAddr → ℕ
first_bits bits address = number_of address / 2 ^ (width address - bits)

-- the number that its other bits are
abbrev pub last_bits : ℕ → IpAddr → ℕ
last_bits bits address = number_of address % 2 ^ (width address - bits)
