use Rattle.std.proofs.Common.{◌≡◌, ◌++◌, ◌∷◌, [], ℕ, List, IsTrue, rules, refl, sym, subst}
use Rattle.std.specs.Result.{OnOk}
use Rattle.journal_world.specs.Addresses.{is_valid, slot_of}
use Rattle.journal_world.specs.Histories.{latest, is_trusted}
use Rattle.journal_world.specs.Maps.{Agrees}
use Rattle.journal_twophase.specs.Transactions.{TxnState, core_of, holding, holds, IsClearOf, IsCheckRefusal}
use Rattle.journal_twophase.proofs.Looking.{read_refusal, read_refused}
use Rattle.journal_twophase.proofs.Holding.{holds_with, clear_last}
use Rattle.journal_twophase.proofs.txn.Txn.read.Goals.{then-is_err, else-is_err}
use Rattle.journal_twophase.proofs.txn.Txn.read.Goals as goal

pub returns-clause-refusal : goal.returns-clause-refusal
returns-clause-refusal g c =
    let taken : c.take.new.self ≡ holding g.J.Naming.layout c.args.self.now c.args.addr = rw (c.in-Ok.ensures.taken, c.slot_of.ensures.slot) refl in
    let valid : IsTrue (is_valid g.J.Naming.layout c.args.addr) = search rules in
    read_refused g.J.Naming.layout c.args.self.now c.take.new.self c.args.addr c.find_value-answer.result taken valid c.find_value-answer.ensures.refusal

pub returns-in-Err-NoMemory-clause-refusal : goal.returns-in-Err-NoMemory-clause-refusal
returns-in-Err-NoMemory-clause-refusal g c =
    let valid : IsTrue (is_valid g.J.Naming.layout c.args.addr) = search rules in
    let same : c.take.new.self ≡ c.args.self.now = search rules in
    read_refusal g.J.Naming.layout c.args.self.now c.args.addr c.no_memory.result valid
    (subst (λ (t : TxnState). IsCheckRefusal (core_of t) c.no_memory.result) same c.no_memory.ensures.refusal)

pub find_value-answer-requires-clause-slot : goal.find_value-answer-requires-clause-slot
find_value-answer-requires-clause-slot g c =
    let taken : c.take.new.self ≡ holding g.J.Naming.layout c.args.self.now c.args.addr = rw (c.in-Ok.ensures.taken, c.slot_of.ensures.slot) refl in
    subst (λ (t : TxnState). IsTrue (holds t.held (slot_of g.J.Naming.layout c.args.addr))) (sym taken) (holds_with c.args.self.now.held (slot_of g.J.Naming.layout c.args.addr))

pub give_back-requires : goal.give_back-requires
give_back-requires g c =
    let same : c.find_value-answer.new.self ≡ c.take.new.self = search rules in
    record {
      clear = subst (λ (t : TxnState). IsTrue c.in-Ok.took → (before : List ℕ) (last : ℕ) → t.held ≡ before ++ last ∷ [] → IsClearOf g.J.Naming.layout last t.reads × IsClearOf g.J.Naming.layout last t.writes) (sym same)
          (clear_last g.J.Naming.layout c.in-Ok.took c.args.self.now.held c.take.new.self c.slot_of.result c.in-Ok.ensures.took c.in-Ok.ensures.clear);
    }

pub returns-clause-kept : goal.returns-clause-kept
returns-clause-kept g c =
    let taken : c.take.new.self ≡ holding g.J.Naming.layout c.args.self.now c.args.addr = rw (c.in-Ok.ensures.taken, c.slot_of.ensures.slot) refl in
    let after : TxnState = c.find_value-answer.new.self in
    let kept : OnOk c.find_value-answer.result (IsTrue (is_trusted after.seen) → Agrees (latest after.seen) c.args.self.now.reads) =
    subst (λ (t : TxnState). OnOk c.find_value-answer.result (IsTrue (is_trusted after.seen) → Agrees (latest after.seen) t.reads)) taken c.find_value-answer.ensures.kept in
    elim c.if-is_err.branch [
      | then-is_err w ↦ search rules
      | else-is_err w ↦ subst (λ (t : TxnState). OnOk c.find_value-answer.result (IsTrue (is_trusted t.seen) → Agrees (latest t.seen) c.args.self.now.reads)) (sym w.self-is) kept
    ]
