-- Listeners, from which connections are accepted.
use Rattle.journal_connections.specs.declared.listener.Listener.{Listener}
use Rattle.journal_connections.specs.declared.listener.Listener.TheVariants.{Socket, Port}

-- It is a socket in the file system, which only its owner can open, and no port.
abbrev pub IsSocket : Listener → Type 0
IsSocket (Socket listener) = Unit {0}
IsSocket (Port listener) = ⊥
