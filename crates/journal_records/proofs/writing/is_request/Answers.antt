use Rattle.std.proofs.Common.{sym, subst}
use Rattle.journal_records.specs.declared.limits.TheConstants.{PARTS, ADDRESSES}
use Rattle.journal_records.specs.Arrays.{array}
use Rattle.journal_records.specs.Requests.{part, address, request, message_of}
use Rattle.journal_records.proofs.Spelling.{commit_has, read_has}
use Rattle.journal_records.proofs.writing.is_request.Goals as goal

pub returns-in-Commit-clause-exact : goal.returns-in-Commit-clause-exact
returns-in-Commit-clause-exact c = λ has.
    c.is_array.ensures.exact
    (subst (λ xs. (array PARTS part).Has xs) (sym c.deref.ensures.value) (commit_has c.in-Commit.parts.items c.in-Commit.waits (subst (λ r. request.Has (message_of r)) c.in-Commit.is has)))

pub returns-in-Read-clause-exact : goal.returns-in-Read-clause-exact
returns-in-Read-clause-exact c = λ has.
    c.is_array-in-Read.ensures.exact
    (subst (λ xs. (array ADDRESSES address).Has xs) (sym c.deref-in-Read.ensures.value) (read_has c.in-Read.addresses.items (subst (λ r. request.Has (message_of r)) c.in-Read.is has)))
