-- Calls (RFC 5531, sections 8.2 and 9), as whole byte lists.
use Rattle.std.specs.Prelude.{◌≡◌, ◌≢◌, ℕ, ◌==◌, if◌then◌else◌, List, [], Option, Some}
use Rattle.journal_xdr.specs.Items.{Item, ◌>>=◌, pair, mapped_item, Spelled}
use Rattle.journal_xdr.specs.Basic.{word, opaque, constant}

-- The beginning of every call: its number, the message type 0 for a call, and the version of RPC
pub record Beginning : Type 0 where
  pub xid : ℕ
  pub rpc_version : ℕ

-- how the beginning of a call is spelled
unfoldable pub beginning : Item Beginning
beginning = mapped_item (pair word (pair (constant 0) word)) (λ p. record { xid = p.0; rpc_version = p.1.1 }) (λ b. (b.xid, (tt, b.rpc_version)))

-- a credential or a verifier: a flavor, and at most 400 bytes
pub record Auth : Type 0 where
  pub flavor : ℕ
  pub body : List ℕ

-- how a credential or a verifier is spelled
unfoldable pub auth : Item Auth
auth = mapped_item (pair word (opaque 400)) (λ p. record { flavor = p.0; body = p.1 }) (λ a. (a.flavor, a.body))

-- the rest of the header of a call in version 2 of RPC
pub record Target : Type 0 where
  pub program : ℕ
  pub version : ℕ
  pub procedure : ℕ
  pub credential : Auth
  pub verifier : Auth

-- how the rest of the header is spelled
unfoldable pub target : Item Target
target = mapped_item (pair word (pair word (pair word (pair auth auth))))
    (λ p. record { program = p.0; version = p.1.0; procedure = p.1.1.0; credential = p.1.1.1.0; verifier = p.1.1.1.1 })
    (λ t. (t.program, (t.version, (t.procedure, (t.credential, t.verifier)))))

-- The request of a call: something in another version of RPC, or a procedure, whose arguments are
-- all bytes after the header
pub data Asked : Type 0 where
  OtherVersion : Asked
  Procedure : (program version procedure : ℕ) → (arguments : List ℕ) → Asked

-- A call: its number, what it says of its caller, and what it asks
pub record Message : Type 0 where
  pub xid : ℕ
  pub credential : Auth
  pub asked : Asked

-- AUTH_NONE, with no bytes
abbrev pub no_auth : Auth
no_auth = record { flavor = 0; body = [] }

-- The bytes ask this under this number, with this credential: at their front is the beginning of a
-- call in another version, of which no credential is read, or a whole header of version 2, with any
-- verifier
abbrev pub Asks : List ℕ → ℕ → Auth → Asked → Type 0
Asks bytes xid credential OtherVersion =
    (rpc_version : ℕ) × (rest : List ℕ) × (credential ≡ no_auth) × (rpc_version ≢ 2) × Spelled beginning bytes (record { xid = xid; rpc_version = rpc_version }) rest
Asks bytes xid credential (Procedure program version procedure arguments) =
    (verifier : Auth)
    × Spelled (pair beginning target) bytes
    (record { xid = xid; rpc_version = 2 }, record { program = program; version = version; procedure = procedure; credential = credential; verifier = verifier }) arguments

-- the bytes are this call
abbrev pub IsCall : List ℕ → Message → Type 0
IsCall bytes call = Asks bytes call.xid call.credential call.asked

-- the call that bytes are, if any, as it is computed
abbrev pub procedure_message : ℕ → Option (Target × List ℕ) → Option Message
procedure_message xid found = found >>= λ t. Some (record { xid = xid; credential = t.0.credential; asked = Procedure t.0.program t.0.version t.0.procedure t.1 })

unfoldable pub message : List ℕ → Option Message
message bytes = beginning.reading bytes >>= λ b.
    if b.0.rpc_version == 2 then procedure_message b.0.xid (target.reading b.1) else Some (record { xid = b.0.xid; credential = no_auth; asked = OtherVersion })
