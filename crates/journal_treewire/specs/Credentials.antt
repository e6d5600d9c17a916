-- Callers, by the credentials of their calls (RFC 5531, section 8.2 and appendix A).
use Rattle.std.specs.Prelude.{ℕ, ◌-◌, ◌==◌, if◌then◌else◌, List, ◌++◌, length, take, replicate, Option, Some, None, option_map}
use Rattle.journal_xdr.specs.Items.{Item, pair, mapped_item}
use Rattle.journal_xdr.specs.Basic.{word, string}
use Rattle.journal_xdr.specs.Lists.{array}
use Rattle.journal_tree.specs.declared.caller.Caller.{Caller}
use Rattle.journal_tree.specs.Callers.{Credential, no_credential, system}
use Rattle.journal_nfs3_wire.specs.Whole.{whole}
use Rattle.journal_treewire.specs.declared.credential.Credential as code_credential
use Rattle.journal_treewire.specs.declared.credential.Credential.TheVariants as code_credentials
use Rattle.journal_treewire.specs.declared.credential.Groups as code_groups
use Rattle.journal_treewire.specs.declared.credential.SystemBody as code_system

-- authsys_parms: any number, the name of the caller's machine, his user, his own group, and the
-- groups that he is in
pub record SystemBody : Type 0 where
  pub stamp : ℕ
  pub machine : List ℕ
  pub user : ℕ
  pub group : ℕ
  pub groups : List ℕ

abbrev pub groups : Item (List ℕ)
groups = array 16 word

unfoldable pub system_body : Item SystemBody
system_body = mapped_item (pair word (pair (string 255) (pair word (pair word groups))))
    (λ p. record { stamp = p.0; machine = p.1.0; user = p.1.1.0; group = p.1.1.1.0; groups = p.1.1.1.1 })
    (λ b. (b.stamp, (b.machine, (b.user, (b.group, b.groups)))))

-- Where he is in fewer groups than a caller has room for, his own is in the rest
abbrev pub filled : ℕ → List ℕ → List ℕ
filled own gids = gids ++ replicate (16 - length gids) own

abbrev pub caller_in : SystemBody → Caller
caller_in b = record { user = b.user; group = b.group; groups = filled b.group b.groups }

-- AUTH_NONE is flavor 0, of which the body says nothing, and AUTH_SYS is flavor 1. None else is a
-- credential
abbrev pub credential_in : ℕ → List ℕ → Option Credential
credential_in flavor body =
    if flavor == 0 then Some no_credential
    else if flavor == 1 then option_map (λ b. system (caller_in b)) (whole system_body body)
    else None

-- ---- what the code's values stand for

abbrev pub credential_of : code_credential.Credential → Credential
credential_of code_credentials.Nobody = no_credential
credential_of (code_credentials.System c) = system c

abbrev pub found_credential : Option code_credential.Credential → Option Credential
found_credential None = None
found_credential (Some c) = Some (credential_of c)

abbrev pub groups_of : code_groups.Groups → List ℕ
groups_of g = take g.count g.groups

abbrev pub system_body_of : code_system.SystemBody → SystemBody
system_body_of b = record { stamp = b.stamp; machine = b.machine.now; user = b.user; group = b.group; groups = groups_of b.groups }

abbrev pub found_system : Option code_system.SystemBody → Option SystemBody
found_system None = None
found_system (Some b) = Some (system_body_of b)
