use Rattle.std.proofs.Common.{◌≡◌, ◌++◌, take, drop, length, false, sym, ap, subst, ◌∙◌, rules}
use Rattle.std.proofs.lemmas.Bool.{false≢true}
use Rattle.journal_world.specs.declared.refusal.Refusal.{Refusal}
use Rattle.journal_world.specs.Histories.{latest}
use Rattle.journal_tail.proofs.Exits.{if_err}
use Rattle.journal_inode.specs.Places.{addr_of}
use Rattle.journal_inode.specs.Places.Object.{superblock}
use Rattle.journal_inode.specs.SameFiles.{IsOnDisk-is_valid}
use Rattle.journal_memory.specs.Causes.{CauseState}
use Rattle.journal_memory.specs.Transactions.{TransactionState}
use Rattle.journal_migrate.specs.Marking.{IsRunningRefusal}
use Rattle.journal_migrate.proofs.Upgraded.{not_of_one, written_whole, block_length, superblock_size}
use Rattle.journal_migrate.proofs.Drafting.{read_refused}
use Rattle.journal_migrate.proofs.migration.draft.Goals as goal

pub read_step-requires-clause-size : goal.read_step-requires-clause-size
read_step-requires-clause-size g c =
    let whole : length c.deref_mut.result.now ≡ 4096 = search rules in
    λ valid. whole ∙ sym (superblock_size g.J.Naming.layout c.requires.cut)

pub returns-in_err-found-clause-refusal : goal.returns-in_err-found-clause-refusal
returns-in_err-found-clause-refusal g c =
    if_err c.from_residual-in_err-found.result _ (IsRunningRefusal c.args.core.now c.read_step.new.self) c.from_residual-in_err-found.ensures.1
    (λ (e : Refusal CauseState) is. subst (IsRunningRefusal c.args.core.now c.read_step.new.self) (sym is)
    (read_refused g.J.Naming.layout c.args.core.now c.read_step.new.self c.args.transaction.now (addr_of superblock) c.in_err-found.field-0.0
    c.requires.running (ap (λ (t : TransactionState). t.seen) c.requires.begun) (IsOnDisk-is_valid g.J.Naming.layout superblock c.requires.cut tt) c.in_err-found.ensures.refusal))

pub returns-then-not-is_of_version_one-clause-other : goal.returns-then-not-is_of_version_one-clause-other
returns-then-not-is_of_version_one-clause-other g c =
    let whole : length c.read_step.new.into ≡ 4096 = block_length g.J.Naming.layout c.read_step.new.into c.requires.cut c.in_ok-found.ensures.object in
    let len : c.in_ok-bytes.bytes.len ≡ 4096 = search rules in
    let room : length c.in_ok-bytes.bytes.items ≡ 4096 = search rules in
    let now : c.deref.result.now ≡ c.read_step.new.into =
    c.deref.ensures.value ∙ ap (λ n. take n (c.read_step.new.into ++ drop (length c.read_step.new.into) c.in_ok-bytes.bytes.items)) len
    ∙ written_whole 4096 c.read_step.new.into c.in_ok-bytes.bytes.items whole room in
    let test : c.is_of_version_one.result ≡ false = search rules in
    λ same trusted sound. not_of_one (latest c.args.core.now.history) c.deref.result.now
    (λ is. false≢true (sym test ∙ c.is_of_version_one.ensures.1 is))
    (sym (now ∙ c.in_ok-found.ensures.value trusted)) sound
