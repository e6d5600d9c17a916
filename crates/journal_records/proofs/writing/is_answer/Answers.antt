use Rattle.std.proofs.Common.{sym, subst}
use Rattle.journal_world.specs.declared.layout.TheConstants.{REGIONS}
use Rattle.journal_xdr.specs.Basic.{word}
use Rattle.journal_records.specs.declared.limits.TheConstants.{ADDRESSES, BITS, COUNTERS}
use Rattle.journal_records.specs.Arrays.{array}
use Rattle.journal_records.specs.Requests.{value}
use Rattle.journal_records.specs.Answers.{answer, region, counter, told_of}
use Rattle.journal_records.proofs.Spelling.{values_has, regions_has, counters_has, bits_has}
use Rattle.journal_records.proofs.writing.is_answer.Goals as goal

pub returns-in-Values-clause-exact : goal.returns-in-Values-clause-exact
returns-in-Values-clause-exact c = λ has.
    c.is_array.ensures.exact
    (subst (λ xs. (array ADDRESSES value).Has xs) (sym c.deref.ensures.value) (values_has c.in-Values.values.items (subst (λ a. answer.Has (told_of a)) c.in-Values.is has)))

pub returns-in-Opening-clause-exact : goal.returns-in-Opening-clause-exact
returns-in-Opening-clause-exact c = λ has.
    let o = c.in-Opening.opening in
    c.is_array-in-Opening.ensures.exact
    (subst (λ xs. (array REGIONS region).Has xs) (sym c.deref-in-Opening.ensures.value) (regions_has o.blocks o.number o.slots o.most_blocks o.regions.items (subst (λ a. answer.Has (told_of a)) c.in-Opening.is has)))

pub returns-in-Counters-clause-exact : goal.returns-in-Counters-clause-exact
returns-in-Counters-clause-exact c = λ has.
    c.is_array-in-Counters.ensures.exact
    (subst (λ xs. (array COUNTERS counter).Has xs) (sym c.deref-in-Counters.ensures.value) (counters_has c.in-Counters.counters.items (subst (λ a. answer.Has (told_of a)) c.in-Counters.is has)))

pub returns-in-Bits-clause-exact : goal.returns-in-Bits-clause-exact
returns-in-Bits-clause-exact c = λ has.
    c.is_array-in-Bits.ensures.exact
    (subst (λ xs. (array BITS word).Has xs) (sym c.deref-in-Bits.ensures.value) (bits_has c.in-Bits.bits.items (subst (λ a. answer.Has (told_of a)) c.in-Bits.is has)))
