-- Ranges of addresses, and the addresses whose clients are served.
use Rattle.std.specs.Prelude.{Bool, true, ◌==◌, ◌&&◌, Option, Some, None}
use Rattle.std.specs.List.{list_any}
use Rattle.std.specs.declared.net.ip_addr.IpAddr.{IpAddr}
use Rattle.journal_connections.specs.Addresses.{width, first_bits}
use Rattle.journal_connections.specs.declared.range.AddressRange.{AddressRange}
use Rattle.journal_connections.specs.declared.allowed.AllowedAddresses.{AllowedAddresses}
use Rattle.journal_connections.specs.declared.allowed.AllowedAddresses.TheVariants.{All, Of}

-- True if the range has the address: both are of one version of IP, and the address begins with the
-- first bits of the range.
abbrev pub has : AddressRange → IpAddr → Bool
has range address =
    (width address == width range.first)
    && (first_bits range.bits address == first_bits range.bits range.first)

-- True if clients of the address are served: those of all addresses are, or one of the ranges has
-- it.
abbrev pub allows : AllowedAddresses → IpAddr → Bool
allows All address = true
allows (Of ranges) address = list_any (λ range. has range address) ranges.items

-- True if a peer is served: its address is allowed, or it has none, because it came to a socket of
-- the file system.
abbrev pub allows_peer : AllowedAddresses → Option IpAddr → Bool
allows_peer allowed None = true
allows_peer allowed (Some address) = allows allowed address
