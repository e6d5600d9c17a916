use Rattle.std.proofs.Common.{refl, arith}
use Rattle.std.proofs.lemmas.Result.{err_from_is_err_and}
use Rattle.journal_mount3.proofs.Counting.{counts_none, counts_no_file, counts_file, cut_count, counts_all, used_small}
use Rattle.journal_mount3.proofs.serving.count_files.Goals as goal

pub loop-number-init : goal.loop-number-init
loop-number-init g c = record {
  counting = rw (c.requires.0, c.requires.1) (counts_none g.V.Version.VERSION c.args.session.now);
  attributes = refl;
  bytes = refl;
  few = omega arith;
}

pub loop-number-preserved-in_default : goal.loop-number-preserved-in_default
loop-number-preserved-in_default g c =
    let all = c.loop-number.invariant in
    record {
      counting = counts_no_file g.V.Version.VERSION c.args.session.now c.loop-number.session c.loop-number.number c.loop-number.counted.files c.loop-number.counted.used all.counting c.find_file.new.session (rw c.in_default.is at c.in_ok-found.ensures);
      attributes = all.attributes;
      bytes = all.bytes;
      few = omega (arith, c.loop-number-test.true);
    }

pub loop-number-preserved : goal.loop-number-preserved
loop-number-preserved g c =
    let all = c.loop-number.invariant in
    record {
      counting = rw (c.used_bytes.ensures, c.version.ensures) (counts_file g.V.Version.VERSION c.args.session.now c.loop-number.session c.loop-number.number c.loop-number.counted.files c.loop-number.counted.used all.counting c.find_file.new.session c.in-Some.found (rw c.in-Some.is at c.in_ok-found.ensures));
      attributes = all.attributes;
      bytes = all.bytes;
      few = omega (arith, c.loop-number-test.true);
    }

pub returns-in_err-found-clause-cut : goal.returns-in_err-found-clause-cut
returns-in_err-found-clause-cut g c =
    let all = c.loop-number.invariant in
    let p = err_from_is_err_and c.from_residual.result c.from_residual.ensures.1 in rw (p.1, p.2) (cut_count g.V.Version.VERSION c.args.session.now c.loop-number.session c.loop-number.number c.loop-number.counted.files c.loop-number.counted.used all.counting c.find_file.new.session c.in_err-found.field-0.0 c.in_err-found.ensures.0 c.in_err-found.ensures.1)

pub returns-clause-counts : goal.returns-clause-counts
returns-clause-counts g c =
    let all = c.loop-number.invariant in
    counts_all g.V.Version.VERSION c.args.session.now c.loop-number.session c.loop-number.number c.loop-number.counted.files c.loop-number.counted.used (omega (arith, c.loop-number-test.false, all.few)) all.counting

pub returns-clause-same : goal.returns-clause-same
returns-clause-same g c = (c.loop-number.invariant.attributes, c.loop-number.invariant.bytes)

pub overflow_add-counted : goal.overflow_add-counted
overflow_add-counted g c = omega (arith, c.loop-number.invariant.counting.few, c.loop-number.invariant.few)

pub overflow_add-counted-in-loop-number : goal.overflow_add-counted-in-loop-number
overflow_add-counted-in-loop-number g c =
    let all = c.loop-number.invariant in
    omega (arith, c.used_bytes.ensures, used_small c.version.result c.in-Some.found.file.size, all.counting.small, all.counting.few, all.few)
